-- A record has a parent at each kept version of its life exactly if the lifetimes of its parents add up to its own. The parents at one
-- place never live together: by induction on its length, since two that do would have one parent, and that names one version. They live
-- within the life of their child. So if at some version there were none, they would add up to less. Assumes nothing.
use Prim.Native.Nat.{ℕ, zero, suc, ◌+◌, ◌-◌, ◌<◌, ◌≤◌}
use native.Mathlib.Omega.{arith}
use mathlib.Core.Path.{◌≡◌, refl, ap, sym, ◌∙◌, subst}
use mathlib.Core.Logic.{◌↔◌}
use mathlib.Core.Bool.{Bool, true, false, cond}
use mathlib.Core.List.{[]}
use lib.ListN.{length, get_or}
use Rattle.terms.specs.Bits.{Side, Place, longer}
use Rattle.terms.specs.Records.{Record, free, Store}
use Rattle.terms.proofs.Places.{length_longer, longer_inj}
use Rattle.meaning.specs.Sound.{At}
use Rattle.meaning.specs.Local.{ends_before, child_version}
use Rattle.meaning.proofs.Finding.{same_slot, Last, empty, one_more, last}
use Rattle.local.specs.Test.{total, by_record, is_parent, first_kept, kept_life, life_above}
use Rattle.local.proofs.Lifetimes.{Living, ParentAt, Lifetime, life_ends}
use Rattle.local.proofs.Scans.{total_le}
use Rattle.local.proofs.Sums.{sum_to, inside, inside_is, is_inside, inside_one, sum_inside, sum_none, sum_swap, sum_full, sum_gap}
use Rattle.local.proofs.Records.{slot_elim, record_total, total_record, record_one}
use Rattle.local.proofs.Naming.{names_eq, eq_names, names_parent, parent_names}

-- what is known of records and their parents before lifetimes are added up
pub record Kin (st : Store) : Type 0 where
  pub order : st.oldest ≤ st.latest
  pub unique : (i j : ℕ) (r q : Record) → At st i r → At st j q → r.version ≡ q.version → r.place ≡ q.place → i ≡ j
  pub versions : (i : ℕ) (r : Record) → At st i r → (1 ≤ r.version) × (r.version ≤ st.latest)
  pub lifetimes : (i : ℕ) (r : Record) → At st i r → Lifetime st r
  pub roots : (v : ℕ) → st.oldest ≤ v → (i j : ℕ) (r q : Record) → At st i r → At st j q → r.place ≡ [] → q.place ≡ [] →
      Living st v r → Living st v q → i ≡ j
  pub outlives : (i j : ℕ) (r q : Record) → At st i r → At st j q → is_parent r q ≡ true →
      (r.version ≤ first_kept st q) × (ends_before st q ≤ ends_before st r)

-- at each kept version of its life, a record below the root has a parent
abbrev pub AlwaysNamed : Store → Type 0
AlwaysNamed st = (i : ℕ) (r : Record) (p : Place) (b : Side) → At st i r → r.place ≡ longer b p →
    (v : ℕ) → st.oldest ≤ v → r.version ≤ v → v < ends_before st r → ParentAt st p b v r

-- the lifetimes of its parents add up to its own
abbrev pub AddsUp : Store → Record → Type 0
AddsUp st r = kept_life st r ≤ total (by_record 0 (life_above st r)) st.slots

-- q counts as a parent of r at v
parent_at : Store → Record → ℕ → Record → ℕ
parent_at st r v q = cond (is_parent r q) (inside q.version (ends_before st q) v) 0

parent_counted : (st : Store) (r : Record) (v : ℕ) (q : Record) → 1 ≤ parent_at st r v q → (is_parent r q ≡ true) × Living st v q
unfolding parent_at
parent_counted st r v q h = go (is_parent r q) refl h
  where
    go : (t : Bool) → is_parent r q ≡ t → 1 ≤ cond t (inside q.version (ends_before st q) v) 0 → (is_parent r q ≡ true) × Living st v q
    go true e k = (e, inside_is q.version (ends_before st q) v k)
    go false e k = absurd (omega arith)

counted_parent : (st : Store) (r : Record) (v : ℕ) (q : Record) → is_parent r q ≡ true → Living st v q → 1 ≤ parent_at st r v q
unfolding parent_at
counted_parent st r v q h l = rw h (is_inside q.version (ends_before st q) v l.0 l.1)

parent_once : (st : Store) (r : Record) (v : ℕ) (q : Record) → parent_at st r v q ≤ 1
unfolding parent_at
parent_once st r v q =
    elim (is_parent r q) as (λ t. cond t (inside q.version (ends_before st q) v) 0 ≤ 1)
    [ true ↦ inside_one q.version (ends_before st q) v | false ↦ omega arith ]

-- the life of a parent is counted at the n versions from a on
module _ (st : Store) (r q : Record) (a n : ℕ) where
  life_counted : (is_parent r q ≡ true → (a ≤ first_kept st q) × (ends_before st q ≤ a + n)) →
      life_above st r q ≤ sum_to (λ v. parent_at st r v q) a n
  unfolding parent_at life_above kept_life
  life_counted h = go (is_parent r q) refl
    where
      go : (t : Bool) → is_parent r q ≡ t →
          cond t (ends_before st q - first_kept st q) 0 ≤ sum_to (λ v. cond t (inside q.version (ends_before st q) v) 0) a n
      go true e = let k = h e in omega (arith, sum_inside q.version (ends_before st q) a n)
      go false e = omega arith

  counted_life : st.oldest ≤ a → sum_to (λ v. parent_at st r v q) a n ≤ life_above st r q
  unfolding parent_at life_above kept_life
  counted_life h = go (is_parent r q)
    where
      go : (t : Bool) → sum_to (λ v. cond t (inside q.version (ends_before st q) v) 0) a n ≤ cond t (ends_before st q - first_kept st q) 0
      go true = omega (arith, sum_inside q.version (ends_before st q) a n)
      go false = omega (arith, sum_none a n)

-- how many parents of r live at v
parents_at : Store → Record → ℕ → ℕ
parents_at st r v = total (by_record 0 (parent_at st r v)) st.slots

module _ (st : Store) (r : Record) (a n : ℕ) where
  lives_counted : ((j : ℕ) (q : Record) → At st j q → is_parent r q ≡ true → (a ≤ first_kept st q) × (ends_before st q ≤ a + n)) →
      total (by_record 0 (life_above st r)) st.slots ≤ sum_to (parents_at st r) a n
  unfolding At parents_at
  lives_counted h =
      rw (← sum_swap (λ v. by_record 0 (parent_at st r v)) st.slots a n)
      (total_le (by_record 0 (life_above st r)) (λ y. sum_to (λ v. by_record 0 (parent_at st r v) y) a n) st.slots free (λ j l.
      slot_elim (λ y. by_record 0 (life_above st r) y ≤ sum_to (λ v. by_record 0 (parent_at st r v) y) a n) (get_or st.slots j free)
      (omega arith) (λ x e. omega arith) (λ q e. life_counted st r q a n (h j q (l, e)))))

  counted_lives : st.oldest ≤ a → sum_to (parents_at st r) a n ≤ total (by_record 0 (life_above st r)) st.slots
  unfolding At parents_at
  counted_lives h =
      rw (← sum_swap (λ v. by_record 0 (parent_at st r v)) st.slots a n)
      (total_le (λ y. sum_to (λ v. by_record 0 (parent_at st r v) y) a n) (by_record 0 (life_above st r)) st.slots free (λ j l.
      slot_elim (λ y. sum_to (λ v. by_record 0 (parent_at st r v) y) a n ≤ by_record 0 (life_above st r) y) (get_or st.slots j free)
      (omega (arith, sum_none a n)) (λ x e. omega (arith, sum_none a n)) (λ q e. counted_life st r q a n h)))

module _ (st : Store) (kin : Kin st) where
  -- the kept life of a record goes from its first kept version to its end
  life_long : (i : ℕ) (r : Record) → At st i r → first_kept st r + kept_life st r ≡ ends_before st r
  unfolding kept_life
  life_long i r a = omega (arith, life_ends st r kin.order (kin.versions i r a).1 (kin.lifetimes i r a))

  -- a parent stands one bit above
  parent_above : (p : Place) (b : Side) (r q : Record) → r.place ≡ longer b p → is_parent r q ≡ true →
      (q.place ≡ p) × (child_version b q.body ≡ r.version)
  parent_above p b r q e h =
      let (d, n) = parent_names q r h in
      let (f, g) = names_eq d q r n in
      let (k, m) = longer_inj q.place p d b (sym g ∙ e) in
      (k, subst (λ s. child_version s q.body ≡ r.version) m (sym f))

  at_parent : (p : Place) (b : Side) (v : ℕ) (r : Record) → r.place ≡ longer b p → (u : ParentAt st p b v r) → is_parent r u.1 ≡ true
  at_parent p b v r e (j, q, c, k, l, f) = names_parent b q r (eq_names b q r (sym f) (e ∙ ap (longer b) (sym k)))

  -- two records at one place that live together are one
  Apart : ℕ → Place → Type 0
  Apart v p = (i j : ℕ) (r q : Record) → At st i r → At st j q → r.place ≡ p → q.place ≡ p → Living st v r → Living st v q → i ≡ j

  few_parents : (r : Record) (p : Place) (b : Side) → r.place ≡ longer b p → (v : ℕ) → Apart v p → parents_at st r v ≤ 1
  unfolding Apart parents_at
  few_parents r p b e v apart =
      record_one st (parent_at st r v) (λ j q c. parent_once st r v q) (λ j k q x c d g h.
      let (m, l) = parent_counted st r v q g in
      let (n, o) = parent_counted st r v x h in
      apart j k q x c d (parent_above p b r q e m).0 (parent_above p b r x e n).0 l o)

  -- where the parents live apart and add up, there is one at each version
  parent_found : (i : ℕ) (r : Record) (p : Place) (b : Side) → At st i r → r.place ≡ longer b p → AddsUp st r →
      ((w : ℕ) → st.oldest ≤ w → Apart w p) → (v : ℕ) → st.oldest ≤ v → r.version ≤ v → v < ends_before st r → ParentAt st p b v r
  unfolding parents_at
  parent_found i r p b a e sum apart v low begun lasts = go (parents_at st r v) refl
    where
      go : (n : ℕ) → parents_at st r v ≡ n → ParentAt st p b v r
      go (suc n) k =
          let (j, q, c, h) = total_record st (parent_at st r v) (omega arith) in
          let (m, l) = parent_counted st r v q h in
          let (f, g) = parent_above p b r q e m in
          (j, q, c, f, l, g)
      go zero k =
          let long = life_long i r a in
          let less : sum_to (parents_at st r) (first_kept st r) (kept_life st r) < kept_life st r
          = sum_gap (parents_at st r) (first_kept st r) (kept_life st r) v
          (λ w x y. few_parents r p b e w (apart w (omega arith))) (omega arith) (omega arith) k in
          let more : total (by_record 0 (life_above st r)) st.slots ≤ sum_to (parents_at st r) (first_kept st r) (kept_life st r)
          = lives_counted st r (first_kept st r) (kept_life st r) (λ j q c h.
          let (x, y) = kin.outlives i j r q a c h in (omega arith, omega arith)) in
          absurd (omega arith)

  -- two records with a parent in common at one place are one
  one_child : (i j : ℕ) (r q : Record) (p : Place) (b : Side) (v : ℕ) → At st i r → At st j q → r.place ≡ q.place → Apart v p →
      ParentAt st p b v r → ParentAt st p b v q → i ≡ j
  unfolding Apart
  one_child i j r q p b v a c e apart (x, u, s, g, k, m) (y, w, t, d, l, n) =
      let same : u ≡ w = same_slot st x y u w s t (apart x y u w s t g d k l) in
      kin.unique i j r q a c (sym m ∙ ap (λ z. child_version b z.body) same ∙ n) e

  -- so two records at one place never live together
  module _ (sums : (i : ℕ) (r : Record) → At st i r → (r.place ≡ [] → ⊥) → AddsUp st r) where
    sums_below : (i : ℕ) (r : Record) (p : Place) (b : Side) → At st i r → r.place ≡ longer b p → AddsUp st r
    sums_below i r p b a e = sums i r a (λ z. omega (arith, ap length e, ap length z, length_longer b p))

    apart_last : (m : ℕ) (p : Place) → Last p → length p ≡ m →
        ((q : Place) → suc (length q) ≡ m → (w : ℕ) → st.oldest ≤ w → Apart w q) → (v : ℕ) → st.oldest ≤ v → Apart v p
    unfolding Apart
    apart_last m p empty h ih v low i j r q a c e f k l = kin.roots v low i j r q a c e f k l
    apart_last m p (one_more b o) h ih v low i j r q a c e f k l =
        let above = ih o (omega (arith, length_longer b o)) in
        one_child i j r q o b v a c (e ∙ sym f) (above v low)
        (parent_found i r o b a e (sums_below i r o b a e) above v low k.0 k.1)
        (parent_found j q o b c f (sums_below j q o b c f) above v low l.0 l.1)

    apart : (m : ℕ) (p : Place) → length p ≡ m → (v : ℕ) → st.oldest ≤ v → Apart v p
    apart zero p h v low = apart_last 0 p (last p) h (λ q k. absurd (omega arith)) v low
    apart (suc m) p h v low = apart_last (suc m) p (last p) h (λ q k. apart m q (omega arith)) v low

    always_named : AlwaysNamed st
    always_named i r p b a e v low begun lasts = parent_found i r p b a e (sums_below i r p b a e) (apart _ p refl) v low begun lasts

  adds_up_below : AlwaysNamed st → (i : ℕ) (r : Record) (p : Place) (b : Side) → At st i r → r.place ≡ longer b p → AddsUp st r
  unfolding parents_at
  adds_up_below named i r p b a e =
      let long = life_long i r a in
      let full : kept_life st r ≤ sum_to (parents_at st r) (first_kept st r) (kept_life st r)
      = sum_full (parents_at st r) (first_kept st r) (kept_life st r) (λ v x y.
      let u = named i r p b a e v (omega arith) (omega arith) (omega arith) in
      omega (arith, record_total st (parent_at st r v) u.0 u.1 u.2, counted_parent st r v u.1 (at_parent p b v r e u) u.4)) in
      omega (arith, counted_lives st r (first_kept st r) (kept_life st r) (omega arith))

  adds_up : AlwaysNamed st → (i : ℕ) (r : Record) → At st i r → (r.place ≡ [] → ⊥) → AddsUp st r
  adds_up named i r a below = go (last r.place) refl
    where
      go : {p : Place} → Last p → r.place ≡ p → AddsUp st r
      go empty e = absurd (below e)
      go (one_more b p) e = adds_up_below named i r p b a e

  -- each record is named at each kept version of its life exactly if the lifetimes of its parents add up to its own
  pub named_is_summed : AlwaysNamed st ↔ ((i : ℕ) (r : Record) → At st i r → (r.place ≡ [] → ⊥) → AddsUp st r)
  named_is_summed = (adds_up, always_named)
