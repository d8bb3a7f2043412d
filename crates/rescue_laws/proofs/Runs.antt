-- A run is a chain of right trees that join: whatever the setting, a sound store's trees do, and where they do, the fresh setting is sound.
-- Assumes nothing.
use Prim.Native.Nat.{ℕ, zero, suc, ◌+◌, ◌-◌, ◌≤◌, ◌<◌, max}
use native.Mathlib.Omega.{arith}
use mathlib.Core.Path.{◌≡◌, refl, ap, ap₂, sym, ◌∙◌, subst, subst₂}
use mathlib.Core.Logic.{◌⊎◌, inl, inr, ◌↔◌}
use mathlib.Core.Bool.{Bool, true, false, cond, false≢true}
use mathlib.Core.List.{List, [], ◌∷◌}
use mathlib.Core.Option.{Option, none, some, some-injective}
use lib.ListN.{length}
use lib.Dec.{eqb, leb}
use borrow.Author.Tests.{eqb-true, eqb-false, leb-true, leb-false}
use Rattle.terms.specs.Bits.{Bytes, Place}
use Rattle.terms.specs.Records.{Record, Slot, free, used, Store}
use Rattle.terms.proofs.Members.{get_d_in, in_get_d}
use Rattle.terms.specs.Form.{RecordForm, top32}
use Rattle.meaning.specs.Store.{find, marked, root_of, tree_below, tree_found, tree_from, tree_at_version}
use Rattle.meaning.proofs.Nodes.{node_top}
use Rattle.meaning.proofs.Finding.{some_body}
use Rattle.meaning.proofs.Roots.{own_root, root_at_lem as root_found}
use Rattle.meaning.specs.Sound.{most_slots, At, Kept, NodeOf, Lives, Stands, Sound}
use Rattle.histories.proofs.Slots.{Has, find_has, Unique, unique_find, unique_at}
use Rattle.histories.proofs.Standing.{Formed, stands_alike, node_found}
use Rattle.histories.proofs.Whole.{Lifetime, retired_later, not_retired, Whole, sound_whole, whole_sound}
use Rattle.rescue_rules.specs.Rescue.{source_root, source_tree, newest, since, in_run, is_there, fresh, taken, run_store, rescued, Run}
use Rattle.rescue_rules.specs.Joining.{source, Joins, Chain}
use Rattle.rescue_laws.proofs.Taken.{Setting, Source, from, has_taken, none_spoiled, length_taken, unique_taken}
use Rattle.rescue_laws.proofs.Nodes.{Newest, last, newest_is}
use Rattle.rescue_laws.proofs.Trees.{root_tree, root_node, root_taken, alike_run, alike_source}
use Rattle.rescue_laws.proofs.Roots.{root_place, root_up_to_lem, root_at_lem, root_newest}

-- what is known of a source of right size whose records are in form, and of the latest version given
pub record Readable (s : List Slot) (latest : ℕ) : Type 0 where
  pub size : (1 ≤ length s) × (length s ≤ most_slots)
  pub number : latest ≤ top32
  pub formed : Formed s

lives_before : (v : ℕ) (r : Record) → Lives (suc v) r → r.version ≤ v → Lives v r
lives_before v r l h = (h, not_retired v r (λ k. omega (arith, retired_later (suc v) r l.1 k)))

-- a node at the empty place is the root
top_root : (st : Store) (x y : ℕ) → NodeOf y [] (tree_at_version st x) [] → (q : Record) × (root_of st x ≡ some q) × (q.version ≡ y)
unfolding tree_at_version
top_root st x y m = go (root_of st x) refl m
  where
    go : (o : Option Record) → root_of st x ≡ o → NodeOf y [] (tree_found o (λ b w. tree_from 255 st.slots w (b ∷ []))) [] →
        (q : Record) × (root_of st x ≡ some q) × (q.version ≡ y)
    go none e k = absurd k
    go (some q) e k = (q, e, sym (some_body q.version q.body (λ b w. tree_from 255 st.slots w (b ∷ []))).1 ∙ (node_top y (tree_below q.version q.body (λ b w. tree_from 255 st.slots w (b ∷ []))) [] k).1)

-- a tree with a node has a root
some_root : (st : Store) (x y : ℕ) (q : Place) → NodeOf y q (tree_at_version st x) [] → (r : Record) × (root_of st x ≡ some r)
unfolding tree_at_version
some_root st x y q m = go (root_of st x) refl m
  where
    go : (o : Option Record) → root_of st x ≡ o → NodeOf y q (tree_found o (λ b w. tree_from 255 st.slots w (b ∷ []))) [] →
        (r : Record) × (root_of st x ≡ some r)
    go none e k = absurd k
    go (some r) e k = (r, e)

root_has : (st : Store) (x : ℕ) (q : Record) → root_of st x ≡ some q → Has q st.slots × (q.place ≡ []) × Lives x q
unfolding At
root_has st x q e = let w = root_found st x q e in (get_d_in st.slots w.0 free (used q) w.1.0 w.1.1, w.2, w.3)

one_record : (s : List Slot) → Unique s → (r q : Record) → Has r s → Has q s → r.version ≡ q.version → r.place ≡ q.place → r ≡ q
one_record s u r q h k e g =
    some-injective r q (sym (unique_find s r u h) ∙ ap₂ (λ v p. find v p s) e g ∙ unique_find s q u k)

module _ (leaf_hash inner_hash : Bytes → Bytes → Bytes) (s : List Slot) (f n : ℕ) where
  -- a sound store of the run, whatever the setting
  module _ (set : Setting) (w : Whole leaf_hash inner_hash (run_store s f n set)) where
    abbrev st : Store
    st = run_store s f n set

    kept : (v : ℕ) → f ≤ v → v ≤ f + n → Kept st v
    unfolding run_store
    kept v a b = (a, b)

    low : f ≡ st.oldest
    unfolding run_store
    low = refl

    -- the root of a version lives from the first version that it can
    module _ (v : ℕ) (a : f ≤ v) (b : v ≤ f + n) (r : Record) (e : source_root s v ≡ some r) where
      abbrev mine : Record
      mine = marked (set r.version r.place) r

      mine_has : Has mine st.slots × (mine.version ≡ r.version) × (mine.place ≡ [])
      mine_has = find_has r.version [] st.slots mine (root_taken s f n set v a b r e)

      abbrev begin : ℕ
      begin = max f r.version

      begins_kept : (f ≤ begin) × (begin ≤ v)
      begins_kept = let u = root_up_to_lem s v r e in (omega arith, omega arith)

      begin_kept : Kept st begin
      begin_kept = kept begin begins_kept.0 (let u = begins_kept.1 in omega arith)

      not_yet : Lifetime st.oldest st.latest mine → 1 ≤ mine.retired → begin < mine.retired
      not_yet (inl k) o = absurd (omega (arith, k, o))
      not_yet (inr k) o = omega (arith, k.0, k.1, low, mine_has.1)

      alive : Lives begin mine
      alive = (omega (arith, mine_has.1), not_retired begin mine (not_yet (w.lifetimes mine mine_has.0)))

      -- the version at which it begins has its tree
      at_begin : tree_at_version st begin ≡ source_tree s v
      at_begin =
          let m : NodeOf r.version [] (tree_at_version st begin) [] =
          subst₂ (λ y p. NodeOf y p (tree_at_version st begin) []) mine_has.1 mine_has.2 ((w.exact begin begin_kept mine mine_has.0).1 alive) in
          let (q, g, y) = top_root st begin r.version m in
          let h = root_has st begin q g in
          root_tree s f n set v a b begin r e (g ∙ ap some (one_record st.slots w.unique q mine h.0 mine_has.0 (y ∙ sym mine_has.1) (h.1 ∙ sym mine_has.2)))

      stands_run : Stands leaf_hash inner_hash st [] (source_tree s v)
      stands_run = subst (Stands leaf_hash inner_hash st []) at_begin (w.stands begin begin_kept)

      lives_there : (x : ℕ) (q : Place) → NodeOf x q (source_tree s v) [] →
          (r : Record) × Has r st.slots × (r.version ≡ x) × (r.place ≡ q) × Lives begin r
      lives_there x q m =
          let (y, h, c, g) = node_found leaf_hash inner_hash st x q [] (source_tree s v) stands_run m in (
            y,
            h,
            c,
            g,
            (w.exact begin begin_kept y h).0
                (subst (λ t. NodeOf y.version y.place t []) (sym at_begin) (subst₂ (λ i p. NodeOf i p (source_tree s v) []) (sym c) (sym g) m)),
          )

      -- a kept version of the run that has a tree has its own
      at_version : (x : ℕ) (q : Place) → NodeOf x q (tree_at_version st v) [] → tree_at_version st v ≡ source_tree s v
      unfolding marked run_store
      at_version x q m =
          let (y, g) = some_root st v x q m in
          let h = root_has st v y g in
          let older : y.version ≤ r.version = go y h (has_taken (in_run s f n) set s y h.0) in
          let u = begins_kept.1 in
          let lives : Lives begin y = (omega arith, not_retired begin y (λ k. omega (arith, retired_later v y h.2.1 k))) in
          let top = (node_top y.version (source_tree s v) []
          (subst (λ t. NodeOf y.version [] t []) at_begin (subst (λ p. NodeOf y.version p (tree_at_version st begin) []) h.1 ((w.exact begin begin_kept y h.0).1 lives)))).1 in
          let own = (node_top r.version (source_tree s v) [] (root_node s f n set v a b r e)).1 in
          root_tree s f n set v a b v r e (g ∙ ap some (one_record st.slots w.unique y mine h.0 mine_has.0 (sym top ∙ own ∙ sym mine_has.1) (h.1 ∙ sym mine_has.2)))
        where
          go : (y : Record) → Has y st.slots × (y.place ≡ []) × Lives v y → Source (in_run s f n) set s y → y.version ≤ r.version
          go y h (from q k m e') =
              let i : y.version ≡ q.version = ap (λ z. z.version) e' in
              let p : y.place ≡ q.place = ap (λ z. z.place) e' in
              omega (arith, i, root_newest s v r e q k (sym p ∙ h.1) (omega (arith, i, h.2.0)))

    pub same_tree : (u v : ℕ) (r q : Record) → source_root s u ≡ some r → source_root s v ≡ some q → r.version ≡ q.version →
        source_tree s u ≡ source_tree s v
    unfolding source_tree
    same_tree u v r q e g k =
        ap (λ o. tree_found o (λ b w. tree_from 255 s w (b ∷ [])))
        (e ∙ sym (root_at_lem s u r e) ∙ ap (λ x. find x [] s) k ∙ root_at_lem s v q g ∙ sym g)

    whole_joins : (v : ℕ) → f ≤ v → v < f + n → (r q : Record) → source_root s v ≡ some r → source_root s (suc v) ≡ some q → Joins s v
    whole_joins v a b r q e g x p m = go (leb q.version v) refl
      where
        source_has : (u : ℕ) (y : Record) → source_root s u ≡ some y → Has y s
        source_has u y k = (find_has y.version [] s y (root_at_lem s u y k)).0

        next : (z : Record) → Has z st.slots → z.version ≡ x → z.place ≡ p → Lives (suc v) z → (c : Bool) → leb x v ≡ c →
            NodeOf x p (source_tree s v) [] ⊎ (x ≡ suc v)
        next z h i j l true c =
            let k : NodeOf z.version z.place (tree_at_version st v) [] = (w.exact v (kept v a (omega arith)) z h).1 (lives_before v z l (omega (arith, leb-true x v c))) in
            inl (subst₂ (λ y o. NodeOf y o (source_tree s v) []) i j
            (subst (λ t. NodeOf z.version z.place t []) (at_version v a (omega arith) r e z.version z.place k) k))
        next z h i j l false c = let d = leb-false x v c in let y = l.0 in inr (omega arith)

        go : (c : Bool) → leb q.version v ≡ c → NodeOf x p (source_tree s v) [] ⊎ (x ≡ suc v)
        go true c =
            let i = root_newest s v r e q (source_has (suc v) q g) (root_place s (suc v) q g) (leb-true q.version v c) in
            let j = root_newest s (suc v) q g r (source_has v r e) (root_place s v r e) (let u = root_up_to_lem s v r e in omega arith) in
            inl (subst (λ t. NodeOf x p t []) (same_tree (suc v) v q r g e (omega arith)) m)
        go false c =
            let i = leb-false q.version v c in
            let j = root_up_to_lem s (suc v) q g in
            let (z, h, k, o, l) = lives_there (suc v) (omega arith) b q g x p m in
            next z h k o (subst (λ y. Lives y z) (omega arith) l) _ refl

  run_form : (setting : ℕ → Place → ℕ) → (run_store s f n setting).form ≡ (source s).form
  unfolding run_store
  run_form setting = refl

  -- the trees of a sound store's run are right and join, whatever the setting
  pub run_joins : Run leaf_hash inner_hash s f n → Chain leaf_hash inner_hash s f n
  run_joins run =
      let w = sound_whole leaf_hash inner_hash _ run.sound in record {
        good = λ v a b. let (r, e) = run.roots v a b in record {
          root = (r, e);
          stands = stands_alike leaf_hash inner_hash (run_store s f n run.setting) (source s) (run_form run.setting) [] (source_tree s v) (alike_source s f n run.setting v a b) (stands_run run.setting w v a b r e);
          versions = λ x q m. let (y, h, i, g, l) = lives_there run.setting w v a b r e x q m in
              omega (arith, l.0, i, (begins_kept run.setting w v a b r e).1);
        };
        joins = λ v a b. let (r, e) = run.roots v a (omega arith) in let (q, g) = run.roots (suc v) (omega arith) b in whole_joins run.setting w v a b r q e g;
      }

  module _ (chain : Chain leaf_hash inner_hash s f n) where
    -- a node stays back to its version, or to the first
    goes_back : (w : ℕ) (q : Place) (v k : ℕ) → f ≤ v → v + k ≤ f + n → w ≤ v → NodeOf w q (source_tree s (v + k)) [] →
        NodeOf w q (source_tree s v) []
    goes_back w q v zero a b c m = subst (λ x. NodeOf w q (source_tree s x) []) (omega arith) m
    goes_back w q v (suc k) a b c m =
        goes_back w q v k a (omega arith) c (elim (chain.joins (v + k) (omega arith) (omega arith) w q
        (subst (λ x. NodeOf w q (source_tree s x) []) (omega arith) m)) [ inl h ↦ h | inr e ↦ absurd (omega arith) ])

    pub goes_back_from : (w : ℕ) (q : Place) (v t : ℕ) → f ≤ v → v ≤ t → t ≤ f + n → w ≤ v → NodeOf w q (source_tree s t) [] →
        NodeOf w q (source_tree s v) []
    goes_back_from w q v t a b c d m =
        goes_back w q v (t - v) a (omega arith) d (subst (λ x. NodeOf w q (source_tree s x) []) (omega arith) m)

  module _ (z : Readable s (f + n)) (chain : Chain leaf_hash inner_hash s f n) where
    -- when a node is fresh retired: not at all where it stands in the last tree, else after the last tree that has it
    record Set (w : ℕ) (q : Place) : Type 0 where
      t : ℕ
      low : f ≤ t
      high : t ≤ f + n
      there : NodeOf w q (source_tree s t) []
      none_later : (v : ℕ) → t < v → v ≤ f + n → NodeOf w q (source_tree s v) [] → ⊥
      at : ((t ≡ f + n) × (fresh s f n w q ≡ 0)) ⊎ ((t < f + n) × (fresh s f n w q ≡ suc t))

    set_at : (w : ℕ) (q : Place) → in_run s f n w q ≡ true → Set w q
    unfolding in_run fresh
    set_at w q h = go (newest s f n w q) refl h (newest_is s f n w q)
      where
        since_at : (t : ℕ) → t ≤ f + n → (b : Bool) → eqb t (f + n) ≡ b →
            ((t ≡ f + n) × (cond b 0 (suc t) ≡ 0)) ⊎ ((t < f + n) × (cond b 0 (suc t) ≡ suc t))
        since_at t k true e = inl (eqb-true t (f + n) e, refl)
        since_at t k false e = let u = eqb-false t (f + n) e in inr (omega arith, refl)

        go : (o : Option ℕ) → newest s f n w q ≡ o → is_there o ≡ true → Newest s f n w q o → Set w q
        go none e k m = absurd (false≢true k)
        go (some t) e k (last t' a b m g) = record {
          t = t;
          low = a;
          high = b;
          there = m;
          none_later = g;
          at = subst (λ o. ((t ≡ f + n) × (since (f + n) o ≡ 0)) ⊎ ((t < f + n) × (since (f + n) o ≡ suc t))) (sym e) (since_at t b _ refl);
        }

    -- a record of the rescued store
    record Kin (r : Record) : Type 0 where
      form : RecordForm r
      set : Set r.version r.place
      retired : r.retired ≡ fresh s f n r.version r.place

    kin : (r : Record) → Has r (taken (in_run s f n) (fresh s f n) s) → Kin r
    unfolding marked
    kin r h = go (has_taken (in_run s f n) (fresh s f n) s r h)
      where
        below : (w : ℕ) (q : Place) → Set w q → fresh s f n w q ≤ top32
        below w q u = elim u.at [ inl k ↦ omega (arith, k.1) | inr k ↦ omega (arith, k.1, k.0, z.number) ]

        go : Source (in_run s f n) (fresh s f n) s r → Kin r
        go (from q k m e) =
            let u = set_at q.version q.place m in
            let o = z.formed q k in
            subst Kin (sym e) (record {
              form = record { short = o.short; versioned = o.versioned; number = below q.version q.place u; body = o.body; counts = o.counts };
              set = u;
              retired = refl;
            })

    kin_life : (r : Record) → Kin r → Lifetime f (f + n) r
    kin_life r k =
        let u = k.set in
        let d = (chain.good u.t u.low u.high).versions r.version r.place u.there in
        elim u.at [ inl e ↦ inl (k.retired ∙ e.1) | inr e ↦ inr (omega (arith, k.retired, e.1), omega (arith, k.retired, e.1, u.low), omega (arith, k.retired, e.1, e.0)) ]

    kin_exact : (v : ℕ) → f ≤ v → v ≤ f + n → (r : Record) → Kin r → NodeOf r.version r.place (source_tree s v) [] ↔ Lives v r
    kin_exact v a b r k = (into, back)
      where
        u : Set r.version r.place
        u = k.set

        into : NodeOf r.version r.place (source_tree s v) [] → Lives v r
        into m = ((chain.good v a b).versions r.version r.place m, not_retired v r (λ c. go c u.at _ refl))
          where
            go : 1 ≤ r.retired →
                ((u.t ≡ f + n) × (fresh s f n r.version r.place ≡ 0)) ⊎ ((u.t < f + n) × (fresh s f n r.version r.place ≡ suc u.t)) →
                (c : Bool) → leb v u.t ≡ c → v < r.retired
            go c (inl e) d g = absurd (omega (arith, k.retired, e.1))
            go c (inr e) true g = omega (arith, k.retired, e.1, leb-true v u.t g)
            go c (inr e) false g = absurd (u.none_later v (leb-false v u.t g) b m)

        back : Lives v r → NodeOf r.version r.place (source_tree s v) []
        back l = goes_back_from chain r.version r.place v u.t a (go u.at) u.high l.0 u.there
          where
            go : ((u.t ≡ f + n) × (fresh s f n r.version r.place ≡ 0)) ⊎ ((u.t < f + n) × (fresh s f n r.version r.place ≡ suc u.t)) →
                v ≤ u.t
            go (inl e) = omega (arith, e.0)
            go (inr e) = omega (arith, retired_later v r l.1 (omega (arith, k.retired, e.1)), k.retired, e.1)

    -- the root of a version is the one of its root records that lives then
    module _ (v : ℕ) (a : f ≤ v) (b : v ≤ f + n) (r : Record) (e : source_root s v ≡ some r) where
      abbrev pub own : Record
      own = marked (fresh s f n r.version r.place) r

      own_has : Has own (rescued s f n).slots × (own.version ≡ r.version) × (own.place ≡ [])
      unfolding rescued
      own_has = find_has r.version [] (rescued s f n).slots own (root_taken s f n (fresh s f n) v a b r e)

      kin_of : (q : Record) → Has q (rescued s f n).slots → Kin q
      unfolding rescued run_store
      kin_of q h = kin q h

      unique_of : Unique (rescued s f n).slots
      unfolding rescued run_store
      unique_of = unique_taken (in_run s f n) (fresh s f n) s

      own_lives : Lives v own
      own_lives =
          (kin_exact v a b own (kin_of own own_has.0)).0
          (subst₂ (λ y p. NodeOf y p (source_tree s v) []) (sym own_has.1) (sym own_has.2) (root_node s f n (fresh s f n) v a b r e))

      only_own : (q : Record) → Has q (rescued s f n).slots → q.place ≡ [] → Lives v q → q.version ≡ own.version
      only_own q h p l =
          let m = subst (λ y. NodeOf q.version y (source_tree s v) []) p ((kin_exact v a b q (kin_of q h)).1 l) in
          sym (node_top q.version (source_tree s v) [] m).1 ∙ (node_top r.version (source_tree s v) [] (root_node s f n (fresh s f n) v a b r e)).1 ∙ sym own_has.1

      pub root_is : root_of (rescued s f n) v ≡ some own
      unfolding At
      root_is =
          let g = in_get_d (rescued s f n).slots free (used own) own_has.0 in
          own_root (rescued s f n) v g.0 own (g.1, g.2) own_has.2 own_lives
          (λ j q c p l. unique_at (rescued s f n).slots unique_of j g.0 q own c.0 c.1 g.1 g.2
          (only_own q (get_d_in (rescued s f n).slots j free (used q) c.0 c.1) p l) (p ∙ sym own_has.2))

    -- each version of the run has its tree
    pub run_tree : (v : ℕ) → f ≤ v → v ≤ f + n → tree_at_version (rescued s f n) v ≡ source_tree s v
    unfolding rescued
    run_tree v a b = let (r, e) = (chain.good v a b).root in root_tree s f n (fresh s f n) v a b v r e (root_is v a b r e)

    -- the rescued store is sound
    pub chain_whole : Whole leaf_hash inner_hash (rescued s f n)
    unfolding rescued run_store
    chain_whole = record {
      size = rw (length_taken (in_run s f n) (fresh s f n) s) z.size;
      header = (omega arith, z.number);
      whole = none_spoiled (in_run s f n) (fresh s f n) s;
      formed = λ r h. (kin r h).form;
      unique = unique_taken (in_run s f n) (fresh s f n) s;
      versions = λ r h. let k = kin r h in let u = k.set in
          (k.form.versioned.0, omega (arith, (chain.good u.t u.low u.high).versions r.version r.place u.there, u.high));
      lifetimes = λ r h. kin_life r (kin r h);
      stands = λ v k. rw (run_tree v k.0 k.1)
          (stands_alike leaf_hash inner_hash (source s) (rescued s f n) refl [] (source_tree s v) (alike_run s f n (fresh s f n) v k.0 k.1) (chain.good v k.0 k.1).stands);
      exact = λ v k r h. rw (run_tree v k.0 k.1) (kin_exact v k.0 k.1 r (kin r h));
    }

    pub chain_sound : Sound leaf_hash inner_hash (rescued s f n)
    chain_sound = whole_sound leaf_hash inner_hash (rescued s f n) chain_whole

    pub chain_run : Run leaf_hash inner_hash s f n
    unfolding rescued
    chain_run = record { roots = λ v a b. (chain.good v a b).root; setting = fresh s f n; sound = chain_sound }

  -- where any setting is sound, the fresh one is
  pub fresh_is_sound : Readable s (f + n) → Run leaf_hash inner_hash s f n → Sound leaf_hash inner_hash (rescued s f n)
  fresh_is_sound z run = chain_sound z (run_joins run)

module _ (leaf_hash inner_hash : Bytes → Bytes → Bytes) (s : List Slot) where
  -- a chain without its first versions
  pub chain_shrinks : (f n g m : ℕ) → f ≤ g → g + m ≡ f + n → Chain leaf_hash inner_hash s f n → Chain leaf_hash inner_hash s g m
  chain_shrinks f n g m h e c = record {
    good = λ v a b. c.good v (omega arith) (omega arith);
    joins = λ v a b. c.joins v (omega arith) (omega arith);
  }

  -- runs shrink from the front
  pub run_shrinks : (f n g m : ℕ) → f ≤ g → g + m ≡ f + n → Readable s (f + n) → Run leaf_hash inner_hash s f n → Run leaf_hash inner_hash s g m
  run_shrinks f n g m h e z r =
      chain_run leaf_hash inner_hash s g m (subst (Readable s) (sym e) z) (chain_shrinks f n g m h e (run_joins leaf_hash inner_hash s f n r))
