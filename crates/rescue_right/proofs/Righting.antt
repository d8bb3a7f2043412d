-- A record is right by its own tests on both sides; and where a right record says the same of a child, the test on that side passes. Assumes nothing.
use Prim.Native.Nat.{ℕ, ◌<◌}
use native.Mathlib.Omega.{arith}
use mathlib.Core.Path.{◌≡◌, refl, ap, ap₂, sym, ◌∙◌, subst}
use mathlib.Core.Bool.{Bool, true, false, not, ◌&&◌}
use mathlib.Core.Option.{Option, none, some}
use lib.ListN.{length}
use lib.Dec.{eqb}
use borrow.Author.Tests.{ne_eqb}
use Rattle.terms.specs.declared.Form.TheVariants.{Counted as counted}
use Rattle.terms.specs.Bits.{Bytes, Byte, All, Side, left, right, Place, longer, begins, same_bytes}
use Rattle.terms.specs.Records.{Child, Body, leaf_body, inner_body, no_tally, count_on, Record}
use Rattle.terms.specs.Form.{CountsForm, place_limit}
use Rattle.terms.proofs.Tests.{and_true, and_left, and_right, same_bytes_lem}
use Rattle.meaning.specs.Store.{find}
use Rattle.meaning.specs.Reading.{body_hash}
use Rattle.meaning.specs.Local.{weighed, counts_by}
use Rattle.meaning.proofs.Finding.{found_in}
use Rattle.local.specs.Test.{lone_leaf, counts_are}
use Rattle.nodehash.specs.Node.{leaf_hash, inner_hash}
use Rattle.place.specs.declared.Place as place
use Rattle.place.specs.Place.{place_of, Proper, Grown}
use Rattle.place.proofs.Places.{proper_count}
use Rattle.layout.specs.Headers.{size_right}
use Rattle.layout.specs.Slots.{is_leaf, key_in, counts_in, left_in, right_in, kid_on}
use Rattle.layout.specs.Stores.{slot_in, store_of, Has}
use Rattle.store.proofs.Slots.{slots_many}
use Rattle.std.specs.declared.option.Option as option
use Rattle.std.specs.Prelude.{Some, None}
use Rattle.check_pass.specs.Passes.{Passed}
use Rattle.order_near.proofs.Near.{passed_if}
use Rattle.rescue_rules.specs.Joining.{linked, body_right, record_right}
use Rattle.rescue_look.specs.Look.{LowestIn, Inside, linked_at, weighs_at, tied_at}
use Rattle.rescue_look.proofs.Looking.{its_form, leaf_is, inner_is, inner_counts}
use Rattle.rescue_right.specs.Right.{Sought, Alike, Told, Tied, Beside}

-- two tests on each of two sides
both_sides : (a b x y : Bool) → ((a && b) && (x && y)) ≡ ((x && a) && (y && b))
both_sides true true true y = elim y as (λ z. z ≡ z && true) [ true ↦ refl | false ↦ refl ]
both_sides true true false y = refl
both_sides true false true true = refl
both_sides true false true false = refl
both_sides true false false y = refl
both_sides false b true y = refl
both_sides false b false y = refl

-- a record that was sought
module _ (s : Bytes) (v : ℕ) (p : place.Place) {f : option.Option ℕ} (w : Sought s v p f) where
  abbrev Right : Bool
  Right = record_right leaf_hash inner_hash (store_of s).slots v (place_of p) (find v (place_of p) (store_of s).slots)

  pub right_nothing : f ≡ None → eqb v 0 ≡ Right
  right_nothing e =
      sym (ap (record_right leaf_hash inner_hash (store_of s).slots v (place_of p)) (subst (LowestIn (store_of s).slots v (place_of p)) e w.lowest))

  module _ (bytes : All Byte s) {i : ℕ} (e : f ≡ Some i) where
    at_slot : LowestIn (store_of s).slots v (place_of p) (Some i)
    at_slot = subst (LowestIn (store_of s).slots v (place_of p)) e w.lowest

    pub sought_has : Has counted s i
    sought_has = record { size = w.size; inside = omega (arith, at_slot.0, slots_many counted s) }

    right_by : (y : Body) → at_slot.1.0.body ≡ y → Right
        ≡ (body_right leaf_hash inner_hash (store_of s).slots (place_of p) y && counts_are counted at_slot.1.0.counts (counts_by (store_of s).slots (place_of p) y))
    right_by y k =
        ap (record_right leaf_hash inner_hash (store_of s).slots v (place_of p)) at_slot.1.1.found
        ∙ ap (λ z. body_right leaf_hash inner_hash (store_of s).slots (place_of p) z
        && counts_are counted at_slot.1.0.counts (counts_by (store_of s).slots (place_of p) z)) k

    module _ {x : Bytes} {t : Bool} (slot : x ≡ slot_in counted i s) (kind : t ≡ is_leaf x) where
      pub right_leaf_lem : {z : Bytes} {r : Bool} → t ≡ true → z ≡ key_in x → r ≡ begins (place_of p) z → r ≡ Right
      right_leaf_lem u k g =
          let y = key_in (slot_in counted i s) in
          let body = leaf_is s bytes i sought_has at_slot.1.0 at_slot.1.1.at (ap is_leaf (sym slot) ∙ sym kind ∙ u) in
          let form = its_form s bytes i sought_has at_slot.1.0 at_slot.1.1.at in
          let none_there : at_slot.1.0.counts ≡ no_tally = subst (λ z. CountsForm z at_slot.1.0.counts) body form.counts in
          g
          ∙ ap (begins (place_of p)) (k ∙ ap key_in slot)
          ∙ sym (right_by _ body ∙ ap (λ c. begins (place_of p) y && counts_are counted c no_tally) none_there ∙ and_true (begins (place_of p) y))

      inner_body_is : t ≡ false → at_slot.1.0.body ≡ inner_body (left_in (slot_in counted i s)) (right_in (slot_in counted i s))
      inner_body_is u = inner_is s bytes i sought_has at_slot.1.0 at_slot.1.1.at (ap is_leaf (sym slot) ∙ sym kind ∙ u)

      pub inner_short : t ≡ false → p.count < 256
      inner_short u =
          let form = its_form s bytes i sought_has at_slot.1.0 at_slot.1.1.at in
          let there = (found_in (store_of s).slots v (place_of p) at_slot.1.0 at_slot.1.1.found).3 in
          let limit : place_limit at_slot.1.0.body ≡ 255 = ap place_limit (inner_body_is u) in
          omega (arith, form.short, ap length there, proper_count p w.proper)

      module _ (u : t ≡ false) {l : place.Place} (on_left_lem : Grown left p l) where
        sides : Right ≡ (tied_at s i left (place_of l) && tied_at s i right (longer right (place_of p)))
        unfolding tied_at weighs_at linked_at
        sides =
            let b = inner_body (left_in (slot_in counted i s)) (right_in (slot_in counted i s)) in
            right_by b (inner_body_is u)
            ∙ ap (λ c. body_right leaf_hash inner_hash (store_of s).slots (place_of p) b && counts_are counted c (counts_by (store_of s).slots (place_of p) b))
            (inner_counts s bytes i sought_has at_slot.1.0 at_slot.1.1.at (ap is_leaf (sym slot) ∙ sym kind ∙ u))
            ∙ both_sides (linked_at s i left (longer left (place_of p))) (linked_at s i right (longer right (place_of p)))
            (weighs_at s i left (longer left (place_of p))) (weighs_at s i right (longer right (place_of p)))
            ∙ ap (λ y. tied_at s i left y && tied_at s i right (longer right (place_of p))) (sym on_left_lem.place)

        pub left_off : {m : Bool} → m ≡ tied_at s i left (place_of l) → m ≡ false → false ≡ Right
        left_off d n = sym (sides ∙ rw (sym d ∙ n))

        pub right_on : {m o : Bool} {r : place.Place} → m ≡ tied_at s i left (place_of l) → m ≡ true → Grown right p r → o ≡ tied_at s i right (place_of r) → o ≡ Right
        right_on d n g k = k ∙ ap (tied_at s i right) g.place ∙ sym (sides ∙ rw (sym d ∙ n))

-- the tests of a child that both say the same of
both_true : (a b : Bool) → a ≡ true → b ≡ true → a && b ≡ true
both_true a b x y = rw (x, y)

not_lone : (d : Child) (y : Body) → (d.version ≡ 0 → ⊥) → not (lone_leaf d y) ≡ true
not_lone d (leaf_body k x) f = rw (ne_eqb d.version 0 f)
not_lone d (inner_body l r) f = refl

link_alike : (o : Option Record) (c d x y : Child) → c.version ≡ x.version → c.hash ≡ x.hash → (d.version ≡ 0 → ⊥) → linked leaf_hash inner_hash o x y ≡ true →
    linked leaf_hash inner_hash o c d ≡ true
link_alike none c d x y v h f t = ap (λ w. eqb w 0) v ∙ t
link_alike (some q) c d x y v h f t =
    both_true (same_bytes (body_hash leaf_hash inner_hash q.body) c.hash) (not (lone_leaf d q.body))
    (ap (same_bytes (body_hash leaf_hash inner_hash q.body)) h ∙ and_left _ _ t) (not_lone d q.body f)

-- What is tied beside an inner record that says the same is tied here.
module _ (s : Bytes) (i j : ℕ) (b : Side) (p : Place) (a : Alike s i j b) where
  weighs_alike : weighs_at s i b p ≡ weighs_at s j b p
  unfolding weighs_at
  weighs_alike = ap₂ (λ n v. eqb n (weighed (find v p (store_of s).slots))) a.count a.version

  linked_alike : linked_at s j b p ≡ true → linked_at s i b p ≡ true
  unfolding linked_at
  linked_alike t =
      link_alike (find (kid_on b (slot_in counted i s)).version p (store_of s).slots) (kid_on b (slot_in counted i s)) (kid_on (not b) (slot_in counted i s))
      (kid_on b (slot_in counted j s)) (kid_on (not b) (slot_in counted j s)) a.version a.hash a.other
      (ap (λ v. linked leaf_hash inner_hash (find v p (store_of s).slots) (kid_on b (slot_in counted j s)) (kid_on (not b) (slot_in counted j s))) a.version ∙ t)

  tied_alike : tied_at s j b p ≡ true → tied_at s i b p ≡ true
  unfolding tied_at
  tied_alike t = both_true (weighs_at s i b p) (linked_at s i b p) (weighs_alike ∙ and_left _ _ t) (linked_alike (and_right (weighs_at s j b p) _ t))

pub told_tied : (s : Bytes) (i : ℕ) (b : Side) (p : Place) (f : option.Option ℕ) → Told s i b f → Tied s b p f → tied_at s i b p ≡ true
told_tied s i b p (Some j) w t = tied_alike s i j b p w.1 (t.1 w.0)
told_tied s i b p None w t = absurd w

-- what the tests say
pub alike_if : (s : Bytes) (i j : ℕ) (b : Side) {o v w m n : ℕ} {x y f g : Bytes} {t : Bool} → o ≡ (kid_on (not b) (slot_in counted i s)).version → (o ≡ 0 → ⊥) →
    v ≡ (kid_on b (slot_in counted i s)).version → w ≡ (kid_on b (slot_in counted j s)).version → v ≡ w →
    m ≡ count_on b (counts_in (slot_in counted i s)) → n ≡ count_on b (counts_in (slot_in counted j s)) → m ≡ n →
    x ≡ slot_in counted i s → f ≡ (kid_on b x).hash → y ≡ slot_in counted j s → g ≡ (kid_on b y).hash → t ≡ same_bytes f g → Passed t (Alike s i j b)
alike_if s i j b {f = f} {g = g} {t = t} o_is there v-is w-is v-same m-is n_is m-same x-is f-is y-is g-is t-is =
    passed_if {P = Alike s i j b} t
    (λ e.
    record {
      version = sym v-is ∙ v-same ∙ w-is;
      hash = sym (f-is ∙ ap (λ z. (kid_on b z).hash) x-is) ∙ same_bytes_lem f g (sym t-is ∙ e) ∙ g-is ∙ ap (λ z. (kid_on b z).hash) y-is;
      count = sym m-is ∙ m-same ∙ n_is;
      other = λ z. there (o_is ∙ z);
    })

pub passed_then : {P Q : Type 0} (r : Bool) → (P → Q) → Passed r P → Passed r Q
passed_then true f h = f h
passed_then false f h = tt

pub tied_inside : (s : Bytes) (b : Side) (p : Place) (f : option.Option ℕ) → Tied s b p f → Inside s f
tied_inside s b p (Some j) t = t.0
tied_inside s b p None t = tt

-- Both children of a right record are tied.
module _ (s : Bytes) (size : size_right counted (length s) ≡ true) (bytes : All Byte s) (p : place.Place) (proper : Proper p) {l : place.Place} (on_left_lem : Grown left p l) where
  as_sought : {f : option.Option ℕ} (h : Beside s p f) → Sought s h.version p f
  as_sought h = record { size = size; proper = proper; lowest = h.lowest }

  both_tied : {j : ℕ} (h : Beside s p (Some j)) → is_leaf (slot_in counted j s) ≡ false → tied_at s j left (place_of l) && tied_at s j right (longer right (place_of p)) ≡ true
  both_tied h u = sym (sides s h.version p (as_sought h) bytes refl refl refl u on_left_lem) ∙ h.right

  pub beside_left : (f : option.Option ℕ) → Beside s p f → Tied s left (place_of l) f
  beside_left (Some j) h = (sought_has s h.version p (as_sought h) bytes refl, λ u. and_left _ _ (both_tied h u))
  beside_left None h = tt

  pub beside_right : {r : place.Place} → Grown right p r → (f : option.Option ℕ) → Beside s p f → Tied s right (place_of r) f
  beside_right g (Some j) h = (
    sought_has s h.version p (as_sought h) bytes refl,
    λ u. ap (tied_at s j right) g.place ∙ and_right (tied_at s j left (place_of l)) _ (both_tied h u),
  )
  beside_right g None h = tt
