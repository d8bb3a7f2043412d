-- Soundness goes over and back, record by record: what is asked of a record, its children and its parents speaks of no count but in one line, and
-- there the counts made are those asked for. Assumes nothing.
use Prim.Native.Nat.{ℕ, zero, suc, ◌+◌, ◌-◌, ◌<◌, ◌≤◌}
use native.Mathlib.Omega.{arith}
use mathlib.Core.Path.{◌≡◌, refl, ap, ap₂, sym, ◌∙◌, subst}
use mathlib.Core.Bool.{Bool, true, false, cond, true≢false}
use mathlib.Core.List.{List, []}
use mathlib.Core.Option.{Option, none, some}
use lib.ListN.{length, get_or}
use lib.Seq.{ext_get_or}
use lib.Dec.{eqb}
use Rattle.terms.specs.declared.Form.{Form}
use Rattle.terms.specs.declared.Form.TheVariants.{Plain as plain, Counted as counted}
use Rattle.terms.specs.Bits.{Bytes, Side, left, right, Place, longer}
use Rattle.terms.specs.Records.{Child, Body, leaf_body, inner_body, Tally, tally, no_tally, Record, Slot, free, used, spoiled, Store}
use Rattle.terms.specs.Form.{top32, place_limit, CountsForm, RecordForm}
use Rattle.terms.proofs.Places.{length_longer}
use Rattle.meaning.specs.Tree.{VTree, vnone, leaves}
use Rattle.meaning.specs.Store.{is_node, retired_by, on_record, find, root_of, tree_below, tree_from, counts_of}
use Rattle.meaning.specs.Sound.{At, Lives, CountsAre}
use Rattle.meaning.specs.Counting.{weight_by, weight}
use Rattle.meaning.specs.Local.{Local, Linked, missing, found, BodyFits, ends_before, child_version, weighed, counts_by}
use Rattle.meaning.proofs.Finding.{free_used, spoiled_used, used_eq, is_node_eq, is_node_refl, miss, hit, Hit, hits, found_in}
use Rattle.meaning.proofs.Leaves.{few_read}
use Rattle.local.proofs.Slots.{kids_from, record_tree}
use Rattle.moved.specs.Moving.{counting, recounted, counts_in, over, back}
use Rattle.moved.specs.Plain.{uncounted, SameBut, both_free, both_used, both_spoiled}
use Rattle.moved.proofs.Recounted as recount
use Rattle.moved.proofs.Recounted.{anew, moved, roots_anew, spoiled_was, slots_anew, length_anew, at_anew, at_was, each_anew}

-- what stands in one of two slots stands in the other
same_used : (x y : Slot) (q : Record) → SameBut x y → x ≡ used q → (c : Tally) × (y ≡ used (counting c q))
same_used x y q both_free e = free_used q e
same_used x y q (both_used r c) e = (c, ap (λ z. used (counting c z)) (used_eq r q e))
same_used x y q (both_spoiled z) e = spoiled_used z q e

used_same : (x y : Slot) (r : Record) → SameBut x y → y ≡ used r → (q : Record) × (c : Tally) × (x ≡ used q) × (counting c q ≡ r)
used_same x y r both_free e = free_used r e
used_same x y r (both_used q c) e = (q, c, refl, used_eq (counting c q) r e)
used_same x y r (both_spoiled z) e = spoiled_used z r e

same_anew : (g : Record → Tally) (x : Slot) → SameBut x (on_record (λ r. used (anew g r)) x)
same_anew g free = both_free
same_anew g (used r) = both_used r (g r)
same_anew g (spoiled x) = both_spoiled x

node_anew : (v : ℕ) (p : Place) (c : Tally) (q : Record) → q.version ≡ v → q.place ≡ p → is_node v p (counting c q) ≡ true
unfolding counting is_node
node_anew v p c q e f = ap₂ (λ x y. is_node x y q) (sym e) (sym f) ∙ is_node_refl q

either_way : (b : Bool) → cond b vnone vnone ≡ vnone
either_way true = refl
either_way false = refl

module _ (leaf_hash inner_hash : Bytes → Bytes → Bytes) (st : Store) (ok : Local leaf_hash inner_hash st) where
  -- records counted anew, in a form, whose counts have four bytes and are those asked for
  module _ (g : Record → Tally) (form : Form) (few : (i : ℕ) (r : Record) → At st i r → CountsForm r.body (g r))
      (asked : (i : ℕ) (r : Record) → At st i r → CountsAre form (g r) (counts_by (recounted g st.slots) r.place r.body)) where
    abbrev st' : Store
    st' = moved g st form

    linked_anew : (r : Record) (p : Place) (c d : Child) → Linked leaf_hash inner_hash st r p c d → Linked leaf_hash inner_hash st' (anew g r) p c d
    unfolding counting ends_before
    linked_anew r p c d (missing e) = missing e
    linked_anew r p c d (found i q a pl ve ha ol un only) = found i (anew g q) (at_anew g st form i q a) pl ve ha ol un only

    body_anew : (r : Record) (o : Body) → BodyFits leaf_hash inner_hash st r o → BodyFits leaf_hash inner_hash st' (anew g r) o
    unfolding counting
    body_anew r (leaf_body k x) f = f
    body_anew r (inner_body a b) f = (linked_anew r (longer left r.place) a b f.0, linked_anew r (longer right r.place) b a f.1)

    -- the parent of a record at a version
    abbrev Named : Store → Record → Type 0
    Named x r = (p : Place) (b : Side) → r.place ≡ longer b p → (v : ℕ) → x.oldest ≤ v → r.version ≤ v → v < ends_before x r →
        (j : ℕ)
        × (q : Record)
        × At x j q
        × (q.place ≡ p)
        × ((q.version ≤ v) × (v < ends_before x q))
        × (child_version b q.body ≡ r.version)

    named_anew : (i : ℕ) (r : Record) → At st i r → Named st' (anew g r)
    unfolding counting ends_before
    named_anew i r a p b e v low begun lasts =
        let (j, q, c, k, l, f) = ok.parents i r p b a e v low begun lasts in (j, anew g q, at_anew g st form j q c, k, l, f)

    pub local_anew : Local leaf_hash inner_hash st'
    unfolding counting ends_before retired_by
    local_anew = record {
      size = rw (length_anew g st.slots) ok.size;
      header = ok.header;
      whole = λ i x l e. ok.whole i x (subst (λ n. i < n) (length_anew g st.slots) l) (spoiled_was g st.slots i x e);
      formed = each_anew g st form (λ i r. RecordForm r) (λ i r a.
          let f = ok.formed i r a in
          record { short = f.short; versioned = f.versioned; number = f.number; body = f.body; counts = few i r a });
      unique = λ i j r q a b e f.
          let (r₀, a₀, x) = at_was g st form i r a in
          let (q₀, b₀, y) = at_was g st form j q b in
          ok.unique i j r₀ q₀ a₀ b₀ (ap (λ z. z.version) x ∙ e ∙ sym (ap (λ z. z.version) y)) (ap (λ z. z.place) x ∙ f ∙ sym (ap (λ z. z.place) y));
      versions = each_anew g st form (λ i r. (1 ≤ r.version) × (r.version ≤ st.latest)) ok.versions;
      lifetimes = each_anew g st form _ ok.lifetimes;
      roots = λ v k. each_anew g st form (λ i r. r.place ≡ [] → Lives v r → root_of st' v ≡ some r)
          (λ i r a e l. roots_anew g st form v ∙ ap (recount.found g) (ok.roots v k i r a e l));
      bodies = each_anew g st form (λ i r. BodyFits leaf_hash inner_hash st' r r.body) (λ i r a. body_anew r r.body (ok.bodies i r a));
      counts = each_anew g st form (λ i r. CountsAre form r.counts (counts_by st'.slots r.place r.body)) asked;
      parents = λ i r p b a. each_anew g st form (λ i r. Named st' r) named_anew i r a p b;
    }

  -- back: the plain form asks nothing of the counts
  pub local_back : Local leaf_hash inner_hash (back st)
  unfolding back
  local_back = local_anew uncounted plain (λ i r a. no_counts r.body) (λ i r a. tt)
    where
      no_counts : (o : Body) → CountsForm o no_tally
      no_counts (leaf_body k x) = refl
      no_counts (inner_body l r) = (omega arith, omega arith)

  -- over: the counts made are the numbers of leaves below, and what the records found as children say
  abbrev short : Record → ℕ
  short r = 256 - length r.place

  abbrev below : Record → Side → ℕ → VTree
  below r = kids_from (short r) st.slots r.place

  counts_are_lem : (i : ℕ) (r : Record) → At st i r → counts_in st.slots r ≡ counts_of (tree_below r.version r.body (below r))
  unfolding counts_in
  counts_are_lem i r a = ap counts_of (record_tree st ok.unique ok.versions (short r) i r a)

  kid_few : (n : ℕ) (p : Place) (b : Side) (w : ℕ) → leaves (kids_from n st.slots p b w) ≤ top32
  kid_few zero p b w = omega arith
  kid_few (suc n) p b w = omega (arith, few_read n st.slots w (longer b p), ok.size)

  few_over : (i : ℕ) (r : Record) → At st i r → CountsForm r.body (counts_in st.slots r)
  few_over i r a = rw (counts_are_lem i r a) (go r.body)
    where
      go : (o : Body) → CountsForm o (counts_of (tree_below r.version o (below r)))
      go (leaf_body k x) = refl
      go (inner_body c d) = (kid_few (short r) r.place left c.version, kid_few (short r) r.place right d.version)

  -- a record with its counts says how many leaves it has
  weighs_so : (i : ℕ) (r : Record) → At st i r → weight_by r.body (counts_in st.slots r) ≡ leaves (tree_from (short r) st.slots r.version r.place)
  weighs_so i r a =
      ap (weight_by r.body) (counts_are_lem i r a) ∙ go r.body
      ∙ ap leaves (sym (record_tree st ok.unique ok.versions (short r) i r a))
    where
      go : (o : Body) → weight_by o (counts_of (tree_below r.version o (below r))) ≡ leaves (tree_below r.version o (below r))
      go (leaf_body k x) = refl
      go (inner_body c d) = refl

  none_read : (n : ℕ) (v : ℕ) (p : Place) → find v p st.slots ≡ none → tree_from n st.slots v p ≡ vnone
  none_read zero v p e = rw e (either_way (eqb v 0))
  none_read (suc n) v p e = rw e (either_way (eqb v 0))

  -- Slots that are the store's, but for counts. Where the records at the places of n + 1 bits have their counts, what they say makes the counts of
  -- those at the places of n bits: a move fills the longest places first.
  module _ (t : List Slot) (size : length t ≡ length st.slots) (same : (i : ℕ) → SameBut (get_or st.slots i free) (get_or t i free)) (n : ℕ)
      (filled : (i : ℕ) (q : Record) → At st i q → length q.place ≡ suc n → get_or t i free ≡ used (counting (counts_in st.slots q) q)) where
    -- what was found is found among them
    was_found : (v : ℕ) (p : Place) → Hit t v p none → find v p st.slots ≡ none
    was_found v p (miss f) = go _ refl
      where
        go : (o : Option Record) → find v p st.slots ≡ o → o ≡ none
        go none k = refl
        go (some q) k =
            let (i, a, w, l) = found_in st.slots v p q k in
            let (c, e) = same_used _ _ q (same i) a.1 in
            absurd (true≢false (sym (node_anew v p c q w l) ∙ f i (counting c q) (omega (arith, a.0)) e))

    child_weighs : (m v : ℕ) (p : Place) → length p ≡ suc n → length p + m ≡ 256 → weighed (find v p t) ≡ leaves (tree_from m st.slots v p)
    unfolding weight counting At
    child_weighs m v p e f = go (find v p t) (hits t v p)
      where
        go : (o : Option Record) → Hit t v p o → weighed o ≡ leaves (tree_from m st.slots v p)
        go none h = sym (ap leaves (none_read m v p (was_found v p h)))
        go (some r) (hit i x l g k) =
            let (q, c, b, y) = used_same _ _ x (same i) g in
            let (w, z) = is_node_eq v p x k in
            let ver : q.version ≡ v = ap (λ d. d.version) y ∙ w in
            let pla : q.place ≡ p = ap (λ d. d.place) y ∙ z in
            let at : At st i q = (omega (arith, size), b) in
            let is : counting (counts_in st.slots q) q ≡ x = used_eq _ x (sym (filled i q at (ap length pla ∙ e)) ∙ g) in
            let bits : short q ≡ m = omega (arith, ap length pla) in
            ap weight (sym is) ∙ weighs_so i q at
            ∙ ap leaves (ap (λ d. tree_from d st.slots q.version q.place) bits ∙ ap₂ (tree_from m st.slots) ver pla)

    pub counts_from_below : (i : ℕ) (r : Record) → At st i r → length r.place ≡ n → counts_in st.slots r ≡ counts_by t r.place r.body
    counts_from_below i r a e = counts_are_lem i r a ∙ go r.body refl (short r) refl
      where
        kids : (c d : Child) (m : ℕ) → length r.place + m ≡ 256 → 1 ≤ m →
            counts_of (tree_below r.version (inner_body c d) (kids_from m st.slots r.place)) ≡ counts_by t r.place (inner_body c d)
        kids c d zero f one = absurd (omega arith)
        kids c d (suc m) f one = ap₂ tally
            (sym (child_weighs m c.version (longer left r.place) (length_longer left r.place ∙ ap suc e) (omega (arith, length_longer left r.place))))
            (sym (child_weighs m d.version (longer right r.place) (length_longer right r.place ∙ ap suc e) (omega (arith, length_longer right r.place))))

        go : (o : Body) → r.body ≡ o → (m : ℕ) → short r ≡ m →
            counts_of (tree_below r.version o (kids_from m st.slots r.place)) ≡ counts_by t r.place o
        go (leaf_body k x) b m f = refl
        go (inner_body c d) b m f =
            let limit : length r.place ≤ 255 = subst (λ o. length r.place ≤ place_limit o) b (ok.formed i r a).short in
            kids c d m (omega arith) (omega arith)

  -- when all are filled it is the store moved over
  pub filled_is_over : (t : List Slot) → length t ≡ length st.slots → ((i : ℕ) → SameBut (get_or st.slots i free) (get_or t i free)) →
      ((i : ℕ) (q : Record) → At st i q → get_or t i free ≡ used (counting (counts_in st.slots q) q)) → t ≡ (over st).slots
  unfolding over At
  filled_is_over t size same filled =
      ext_get_or free t (recounted (counts_in st.slots) st.slots) (size ∙ sym (length_anew (counts_in st.slots) st.slots))
      (λ i l. go i l (get_or st.slots i free) (get_or t i free) refl refl (same i) ∙ sym (slots_anew (counts_in st.slots) st.slots i))
    where
      go : (i : ℕ) → i < length t → (x y : Slot) → get_or st.slots i free ≡ x → get_or t i free ≡ y → SameBut x y →
          get_or t i free ≡ on_record (λ r. used (anew (counts_in st.slots) r)) (get_or st.slots i free)
      go i l x y e f both_free = f ∙ sym (ap (on_record (λ r. used (anew (counts_in st.slots) r))) e)
      go i l x y e f (both_used r c) = filled i r (omega (arith, size), e) ∙ sym (ap (on_record (λ r. used (anew (counts_in st.slots) r))) e)
      go i l x y e f (both_spoiled z) = f ∙ sym (ap (on_record (λ r. used (anew (counts_in st.slots) r))) e)

  pub local_over : Local leaf_hash inner_hash (over st)
  unfolding over At
  local_over =
      local_anew (counts_in st.slots) counted few_over (λ i r a.
      counts_from_below (recounted (counts_in st.slots) st.slots) (length_anew (counts_in st.slots) st.slots)
      (λ j. subst (SameBut (get_or st.slots j free)) (sym (slots_anew (counts_in st.slots) st.slots j)) (same_anew (counts_in st.slots) (get_or st.slots j free)))
      (length r.place)
      (λ j q b e. (at_anew (counts_in st.slots) st counted j q b).1) i r a refl)
