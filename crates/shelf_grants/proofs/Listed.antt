-- The list of a shelf: its grant for a part is in place, so it says of the part's key what the part is; it is told from
-- all grants alone; and the new roots of the parts that change make it the list of the new parts. Assumes nothing.
use Prim.Native.Nat.{ℕ, ◌+◌, ◌*◌, ◌≤◌}
use native.Mathlib.Omega.{arith}
use mathlib.Core.Path.{◌≡◌, refl, ap, sym, ◌∙◌, subst}
use mathlib.Core.Logic.{◌⊎◌, inl, inr}
use mathlib.Core.Bool.{Bool, true, false, cond, true≢false, false≢true}
use mathlib.Core.List.{List, [], ◌∷◌, ◌++◌, map}
use lib.ListN.{length, take}
use lib.Dec.{eqb}
use borrow.Author.Tests.{eqb-true, eqb-false}
use Rattle.terms.specs.Bits.{Bytes, Side, Place, All, filter, bits, prefix, begins, pack, before, same_bytes, same_place}
use Rattle.terms.specs.Records.{Grant, grant, Ask, insert, delete, ask_key}
use Rattle.terms.specs.Form.{GrantForm, AskForm}
use Rattle.terms.proofs.Tests.{is_true, is_false, same_bytes_lem, bytes_same, same_place_lem, place_same}
use Rattle.terms.proofs.Lists.{all_append, all_filter}
use Rattle.terms.proofs.Places.{length_bits, length_pack, pack_bytes, place_packed}
use Rattle.terms.proofs.Order.{before_irrefl, before_asym, before_total}
use Rattle.meaning.specs.Tree.{smaller, greater, with_ask, with_batch, grants_at, tree_of}
use Rattle.meaning.specs.Sound.{Hashes32}
use Rattle.meaning.specs.Reading.{Verdict, present, absent, answer_of}
use Rattle.meaning.proofs.Runs.{Ascending, ascending_batch, batch_form_lem}
use Rattle.changed.proofs.Parts.{answer_filter}
use Rattle.changed.proofs.Lists.{same_answers, answer_append}
use Rattle.histories.proofs.Forms.{hash32}
use Rattle.shelf_grants.specs.Contents.{Parts, gathered, all_grants, Among, InPlace, root_of, listed, list_grants, ask_for, new_roots, shelf_root}
use Rattle.shelf_grants.proofs.Gathered.{front_prefix, answer_none, or_none, none_or, answer_of_part, gathered_form, gathered_ordered, part_of_all, gathered_same}

-- what grants say of a key after an ask
not_itself : (k : Bytes) → before k k ≡ false
not_itself k = is_false (before k k) (before_irrefl k)

module _ (k j : Bytes) (gs : List Grant) where
  below : answer_of k (smaller j gs) ≡ cond (before k j) (answer_of k gs) absent
  unfolding smaller
  below = answer_filter (λ i. before i j) k gs

  above : answer_of k (greater j gs) ≡ cond (before j k) (answer_of k gs) absent
  unfolding greater
  above = answer_filter (before j) k gs

  beside : (ys : List Grant) (w : Verdict) → answer_of k ys ≡ cond (same_bytes k j) w (answer_of k (greater j gs)) →
      answer_of k (smaller j gs ++ ys) ≡ cond (same_bytes k j) w (answer_of k gs)
  beside ys w e = go (same_bytes k j) (before k j) refl refl e
    where
      go : (s c : Bool) → same_bytes k j ≡ s → before k j ≡ c → answer_of k ys ≡ cond s w (answer_of k (greater j gs)) →
          answer_of k (smaller j gs ++ ys) ≡ cond s w (answer_of k gs)
      go true c f h e =
          let less : before k j ≡ false = ap (λ z. before z j) (same_bytes_lem k j f) ∙ not_itself j in
          none_or k (smaller j gs) ys (below ∙ rw less refl) ∙ e
      go false true f h e =
          or_none k (smaller j gs) ys (e ∙ above ∙ rw (before_asym k j h) refl) ∙ below ∙ rw h refl
      go false false f h e =
          let more : before j k ≡ true = is_true (before j k) (λ z. true≢false (sym (bytes_same k) ∙ ap (same_bytes k) (before_total k j h z) ∙ f)) in
          none_or k (smaller j gs) ys (below ∙ rw h refl) ∙ e ∙ above ∙ rw more refl

  after_insert : (x : Bytes) → answer_of k (with_ask (insert j x) gs) ≡ cond (same_bytes k j) (present x) (answer_of k gs)
  after_insert x = beside (grant j x ∷ greater j gs) (present x) refl

  after_delete : answer_of k (with_ask (delete j) gs) ≡ cond (same_bytes k j) absent (answer_of k gs)
  after_delete = beside (greater j gs) absent (go (same_bytes k j) refl)
    where
      go : (s : Bool) → same_bytes k j ≡ s → answer_of k (greater j gs) ≡ cond s absent (answer_of k (greater j gs))
      go false f = refl
      go true f = above ∙ rw (ap (before j) (same_bytes_lem k j f) ∙ not_itself j) refl

-- grants in form say nothing of a key that isn't 32 bytes
not_32 : (k : Bytes) → (length k ≡ 32 → ⊥) → (gs : List Grant) → All GrantForm gs → answer_of k gs ≡ absent
not_32 k n [] h = refl
not_32 k n (g ∷ gs) h =
    rw (is_false (same_bytes k g.key) (λ s. n (ap length (same_bytes_lem k g.key s) ∙ h.0.0.0))) (not_32 k n gs h.1)

-- a batch of asks that begin with a place keeps the grants that do
placed_ask : (p : Place) (a : Ask) (gs : List Grant) → begins p (ask_key a) ≡ true → All (λ g. begins p g.key ≡ true) gs →
    All (λ g. begins p g.key ≡ true) (with_ask a gs)
unfolding smaller greater
placed_ask p (insert k x) gs e h =
    all_append (λ g. begins p g.key ≡ true) (smaller k gs) (grant k x ∷ greater k gs) (all_filter (λ g. begins p g.key ≡ true) _ gs h)
    (e, all_filter (λ g. begins p g.key ≡ true) _ gs h)
placed_ask p (delete k) gs e h =
    all_append (λ g. begins p g.key ≡ true) (smaller k gs) (greater k gs) (all_filter (λ g. begins p g.key ≡ true) _ gs h)
    (all_filter (λ g. begins p g.key ≡ true) _ gs h)

pub placed_batch : (p : Place) (batch : List Ask) (gs : List Grant) → All (λ a. begins p (ask_key a) ≡ true) batch →
    All (λ g. begins p g.key ≡ true) gs → All (λ g. begins p g.key ≡ true) (with_batch batch gs)
placed_batch p [] gs e h = h
placed_batch p (a ∷ batch) gs e h = placed_batch p batch (with_ask a gs) e.1 (placed_ask p a gs e.0 h)

-- a place is among some or not
among : (q : Place) (ps : List Place) → Among q ps ⊎ (Among q ps → ⊥)
among q [] = inr (λ z. z)
among q (p ∷ ps) = go (same_place p q) refl (among q ps)
  where
    go : (b : Bool) → same_place p q ≡ b → Among q ps ⊎ (Among q ps → ⊥) → Among q (p ∷ ps) ⊎ (Among q (p ∷ ps) → ⊥)
    go true e r = inl (inl (same_place_lem p q e))
    go false e (inl i) = inl (inr i)
    go false e (inr n) = inr not_there
      where
        not_there : Among q (p ∷ ps) → ⊥
        not_there (inl z) = true≢false (sym (place_same q) ∙ ap (λ r. same_place r q) (sym z) ∙ e)
        not_there (inr i) = n i

module _ (leaf_hash inner_hash : Bytes → Bytes → Bytes) where
  -- what the list says of a part
  abbrev pub said : List Grant → Verdict
  said [] = absent
  said (g ∷ gs) = present (root_of leaf_hash inner_hash (g ∷ gs))

  own_answer : (p : Place) (gs : List Grant) → answer_of (pack 32 p) (listed leaf_hash inner_hash p gs) ≡ said gs
  own_answer p [] = refl
  own_answer p (g ∷ gs) = rw (bytes_same (pack 32 p)) refl

  other_answer : (k : Bytes) (p : Place) (gs : List Grant) → same_bytes k (pack 32 p) ≡ false → answer_of k (listed leaf_hash inner_hash p gs) ≡ absent
  other_answer k p [] e = refl
  other_answer k p (g ∷ gs) e = rw e refl

  after_ask : (k : Bytes) (p : Place) (gs ls : List Grant) →
      answer_of k (with_ask (ask_for leaf_hash inner_hash p gs) ls) ≡ cond (same_bytes k (pack 32 p)) (said gs) (answer_of k ls)
  after_ask k p [] ls = after_delete k (pack 32 p) ls
  after_ask k p (g ∷ gs) ls = after_insert k (pack 32 p) ls (root_of leaf_hash inner_hash (g ∷ gs))

  module _ (b : ℕ) (few : b ≤ 256) where
    listed_placed : (parts : Parts) → InPlace b (λ p. listed leaf_hash inner_hash p (parts p))
    unfolding begins
    listed_placed parts p h = go (parts p)
      where
        here : begins p (pack 32 p) ≡ true
        here =
            subst (λ q. prefix q (bits (pack 32 p)) ≡ true) (place_packed 32 p (omega arith))
            (front_prefix (length p) (bits (pack 32 p)) (omega (arith, length_bits (pack 32 p), length_pack 32 p))).0

        go : (gs : List Grant) → All (λ g. begins p g.key ≡ true) (listed leaf_hash inner_hash p gs)
        go [] = tt
        go (g ∷ gs) = (here, tt)

    -- The list says of a part's key its root, or that it isn't there.
    pub answer_in_list : (parts : Parts) (p : Place) → length p ≡ b → answer_of (pack 32 p) (list_grants leaf_hash inner_hash b parts) ≡ said (parts p)
    answer_in_list parts p h =
        let back : take b (bits (pack 32 p)) ≡ p = ap (λ n. take n (bits (pack 32 p))) (sym h) ∙ place_packed 32 p (omega arith) in
        answer_of_part b (λ q. listed leaf_hash inner_hash q (parts q)) (listed_placed parts) (pack 32 p) (omega (arith, length_pack 32 p))
        ∙ ap (λ q. answer_of (pack 32 p) (listed leaf_hash inner_hash q (parts q))) back
        ∙ own_answer p (parts p)

    -- It is told from all grants alone.
    pub list_by_all : (parts : Parts) → InPlace b parts → ((p : Place) → length p ≡ b → All GrantForm (parts p)) →
        ((p : Place) → length p ≡ b → Ascending (parts p)) →
        list_grants leaf_hash inner_hash b (λ p. grants_at p (all_grants b parts)) ≡ list_grants leaf_hash inner_hash b parts
    list_by_all parts placed formed ordered =
        gathered_same b (λ p. listed leaf_hash inner_hash p (grants_at p (all_grants b parts))) (λ p. listed leaf_hash inner_hash p (parts p))
        (λ p h. ap (listed leaf_hash inner_hash p) (part_of_all b parts placed formed ordered p h)) b [] (omega arith)

    pub shelf_root_of_parts : (parts : Parts) → InPlace b parts → ((p : Place) → length p ≡ b → All GrantForm (parts p)) →
        ((p : Place) → length p ≡ b → Ascending (parts p)) →
        shelf_root leaf_hash inner_hash b (all_grants b parts) ≡ root_of leaf_hash inner_hash (list_grants leaf_hash inner_hash b parts)
    unfolding shelf_root
    shelf_root_of_parts parts placed formed ordered = ap (root_of leaf_hash inner_hash) (list_by_all parts placed formed ordered)

    -- it is in form and in order
    module _ (lh : Hashes32 leaf_hash) (ih : Hashes32 inner_hash) where
      listed_form : (p : Place) (gs : List Grant) → All GrantForm (listed leaf_hash inner_hash p gs)
      listed_form p [] = tt
      listed_form p (g ∷ gs) = (((length_pack 32 p, pack_bytes 32 p), hash32 leaf_hash inner_hash lh ih (tree_of (g ∷ gs))), tt)

      listed_ordered : (p : Place) (gs : List Grant) → Ascending (listed leaf_hash inner_hash p gs)
      listed_ordered p [] = tt
      listed_ordered p (g ∷ gs) = (tt, tt)

      asks_form : (parts : Parts) (ps : List Place) → All AskForm (new_roots leaf_hash inner_hash parts ps)
      asks_form parts [] = tt
      asks_form parts (p ∷ ps) = (go (parts p), asks_form parts ps)
        where
          go : (gs : List Grant) → AskForm (ask_for leaf_hash inner_hash p gs)
          go [] = (length_pack 32 p, pack_bytes 32 p)
          go (g ∷ gs) = ((length_pack 32 p, pack_bytes 32 p), hash32 leaf_hash inner_hash lh ih (tree_of (g ∷ gs)))

      list_form : (parts : Parts) → All GrantForm (list_grants leaf_hash inner_hash b parts)
      list_form parts =
          gathered_form b (λ p. listed leaf_hash inner_hash p (parts p)) (listed_placed parts) (λ p h. listed_form p (parts p)) b [] (omega arith)

      list_ordered : (parts : Parts) → Ascending (list_grants leaf_hash inner_hash b parts)
      list_ordered parts =
          gathered_ordered b (λ p. listed leaf_hash inner_hash p (parts p)) (listed_placed parts) (λ p h. listed_form p (parts p))
          (λ p h. listed_ordered p (parts p)) b [] (omega arith)

      -- The new roots of the parts that change make it the list of the new parts.
      module _ (old new : Parts) (touched : List Place) (here : All (λ p. length p ≡ b) touched)
          (stays : (p : Place) → length p ≡ b → (Among p touched → ⊥) → new p ≡ old p) where
        module _ (k : Bytes) (q : Place) (is : take b (bits k) ≡ q) where
          packed_back : (p : Place) → length p ≡ b → k ≡ pack 32 p → p ≡ q
          packed_back p h e =
              sym (place_packed 32 p (omega arith)) ∙ ap (λ n. take n (bits (pack 32 p))) h ∙ ap (λ z. take b (bits z)) (sym e) ∙ is

          fold : (ps : List Place) → All (λ p. length p ≡ b) ps → (ls : List Grant) →
              (answer_of k ls ≡ answer_of k (listed leaf_hash inner_hash q (new q))) ⊎ ((k ≡ pack 32 q) × Among q ps) →
              answer_of k (with_batch (new_roots leaf_hash inner_hash new ps) ls) ≡ answer_of k (listed leaf_hash inner_hash q (new q))
          fold [] h ls (inl e) = e
          fold [] h ls (inr e) = absurd e.1
          fold (p ∷ ps) h ls c =
              fold ps h.1 (with_ask (ask_for leaf_hash inner_hash p (new p)) ls) (go (same_bytes k (pack 32 p)) refl c)
            where
              go : (s : Bool) → same_bytes k (pack 32 p) ≡ s →
                  (answer_of k ls ≡ answer_of k (listed leaf_hash inner_hash q (new q))) ⊎ ((k ≡ pack 32 q) × Among q (p ∷ ps)) →
                  (answer_of k (with_ask (ask_for leaf_hash inner_hash p (new p)) ls) ≡ answer_of k (listed leaf_hash inner_hash q (new q))) ⊎ ((k ≡ pack 32 q) × Among q ps)
              go true s c =
                  let e = same_bytes_lem k (pack 32 p) s in
                  inl (after_ask k p (new p) ls ∙ rw s (sym (own_answer p (new p)) ∙ ap (λ z. answer_of z (listed leaf_hash inner_hash p (new p))) (sym e)
                  ∙ ap (λ z. answer_of k (listed leaf_hash inner_hash z (new z))) (packed_back p h.0 e)))
              go false s (inl e) = inl (after_ask k p (new p) ls ∙ rw s e)
              go false s (inr (e, inl z)) =
                  absurd (true≢false (sym (bytes_same k) ∙ ap (same_bytes k) (e ∙ ap (pack 32) (sym z)) ∙ s))
              go false s (inr (e, inr i)) = inr (e, i)

          begin : length q ≡ b → (answer_of k (listed leaf_hash inner_hash q (old q)) ≡ answer_of k (listed leaf_hash inner_hash q (new q))) ⊎ ((k ≡ pack 32 q) × Among q touched)
          begin l = go (same_bytes k (pack 32 q)) refl (among q touched)
            where
              go : (s : Bool) → same_bytes k (pack 32 q) ≡ s → Among q touched ⊎ (Among q touched → ⊥) →
                  (answer_of k (listed leaf_hash inner_hash q (old q)) ≡ answer_of k (listed leaf_hash inner_hash q (new q))) ⊎ ((k ≡ pack 32 q) × Among q touched)
              go false s i = inl (other_answer k q (old q) s ∙ sym (other_answer k q (new q) s))
              go true s (inl i) = inr (same_bytes_lem k (pack 32 q) s, i)
              go true s (inr n) = inl (ap (λ gs. answer_of k (listed leaf_hash inner_hash q gs)) (sym (stays q l n)))

        said_after : (k : Bytes) →
            answer_of k (with_batch (new_roots leaf_hash inner_hash new touched) (list_grants leaf_hash inner_hash b old)) ≡ answer_of k (list_grants leaf_hash inner_hash b new)
        said_after k = go (eqb (length k) 32) refl
          where
            go : (c : Bool) → eqb (length k) 32 ≡ c →
                answer_of k (with_batch (new_roots leaf_hash inner_hash new touched) (list_grants leaf_hash inner_hash b old)) ≡ answer_of k (list_grants leaf_hash inner_hash b new)
            go false e =
                not_32 k (eqb-false (length k) 32 e) (with_batch (new_roots leaf_hash inner_hash new touched) (list_grants leaf_hash inner_hash b old))
                (batch_form_lem (new_roots leaf_hash inner_hash new touched) (list_grants leaf_hash inner_hash b old) (asks_form new touched) (list_form old))
                ∙ sym (not_32 k (eqb-false (length k) 32 e) (list_grants leaf_hash inner_hash b new) (list_form new))
            go true e =
                let l = eqb-true (length k) 32 e in
                let q = take b (bits k) in
                let long : b ≤ 8 * length k = omega arith in
                let size = (front_prefix b (bits k) (omega (arith, length_bits k))).1 in
                let was = answer_of_part b (λ p. listed leaf_hash inner_hash p (old p)) (listed_placed old) k long in
                let is = answer_of_part b (λ p. listed leaf_hash inner_hash p (new p)) (listed_placed new) k long in
                fold k q refl touched here (list_grants leaf_hash inner_hash b old) (started k q (begin k q refl size) was) ∙ sym is
              where
                started : (k : Bytes) (q : Place) →
                    (answer_of k (listed leaf_hash inner_hash q (old q)) ≡ answer_of k (listed leaf_hash inner_hash q (new q))) ⊎ ((k ≡ pack 32 q) × Among q touched) →
                    answer_of k (list_grants leaf_hash inner_hash b old) ≡ answer_of k (listed leaf_hash inner_hash q (old q)) →
                    (answer_of k (list_grants leaf_hash inner_hash b old) ≡ answer_of k (listed leaf_hash inner_hash q (new q))) ⊎ ((k ≡ pack 32 q) × Among q touched)
                started k q (inl e) w = inl (w ∙ e)
                started k q (inr i) w = inr i

        pub new_roots_make_the_list :
            with_batch (new_roots leaf_hash inner_hash new touched) (list_grants leaf_hash inner_hash b old) ≡ list_grants leaf_hash inner_hash b new
        new_roots_make_the_list =
            same_answers (with_batch (new_roots leaf_hash inner_hash new touched) (list_grants leaf_hash inner_hash b old)) (list_grants leaf_hash inner_hash b new)
            (ascending_batch (new_roots leaf_hash inner_hash new touched) (list_grants leaf_hash inner_hash b old) (list_ordered old)) (list_ordered new) said_after
