-- Where a search ends: on a slot in form whose record the look meets. Assumes nothing.
use Prim.Native.Nat.{ℕ, zero, suc, ◌+◌, ◌/◌, ◌<◌}
use native.Mathlib.Omega.{arith}
use mathlib.Core.Path.{◌≡◌, refl, ap, sym, ◌∙◌, subst}
use mathlib.Core.Logic.{◌⊎◌, inl, inr}
use mathlib.Core.Bool.{Bool, true, false, cond, true≢false}
use mathlib.Core.List.{List, [], ◌∷◌}
use mathlib.Core.Option.{Option, none, some, none-ne-some}
use lib.ListN.{length, get_or}
use lib.Dec.{ltb}
use borrow.Author.Tests.{ltb-false}
use Rattle.terms.specs.Bits.{Place, same_place}
use Rattle.terms.specs.Records.{Record, Slot, free, used, spoiled, Store}
use Rattle.terms.proofs.Tests.{same_place_lem}
use Rattle.meaning.specs.Store.{is_node, is_root, retired_by}
use Rattle.meaning.specs.Sound.{At, Lives}
use Rattle.meaning.proofs.Finding.{is_node_refl, free_used}
use Rattle.meaning.proofs.Roots.{root_is}
use Rattle.indexed.specs.Index.{node_before, Look, too_small, too_great, meets, look_at, node_look, root_look, onwards, search_from, search}
use Rattle.indexed.proofs.Before.{node_apart}

meets_eq : (r q : Record) → meets r ≡ meets q → r ≡ q
meets_eq r q e = cc

small_meets : {A : Type 0} (r : Record) → too_small ≡ meets r → A
small_meets r e = let z : ◌≡◌ {A = ℕ} 0 1 = cc in absurd (omega arith)

great_meets : {A : Type 0} (r : Record) → too_great ≡ meets r → A
great_meets r e = let z : ◌≡◌ {A = ℕ} 0 1 = cc in absurd (omega arith)

-- looking for a node, only a record of its version and place is met
pub node_met : (v : ℕ) (p : Place) (r q : Record) → node_look v p r ≡ meets q → (r ≡ q) × (is_node v p r ≡ true)
unfolding node_look
node_met v p r q e = go _ refl _ refl e
  where
    go : (a : Bool) → node_before r.version r.place v p ≡ a → (b : Bool) → node_before v p r.version r.place ≡ b →
        cond a too_small (cond b too_great (meets r)) ≡ meets q → (r ≡ q) × (is_node v p r ≡ true)
    go true h b k f = small_meets q f
    go false h true k f = great_meets q f
    go false h false k f =
        let w = node_apart r.version v r.place p h k in
        (meets_eq r q f, subst (λ x. is_node x p r ≡ true) w.0 (subst (λ x. is_node r.version x r ≡ true) w.1 (is_node_refl r)))

-- looking for a root, only a root record whose lifetime covers the version
pub root_met : (v : ℕ) (r q : Record) → root_look v r ≡ meets q → (r ≡ q) × (is_root v r ≡ true)
unfolding root_look
root_met v r q e = go _ refl _ refl _ refl e
  where
    go : (a : Bool) → same_place r.place [] ≡ a → (b : Bool) → ltb v r.version ≡ b → (c : Bool) → retired_by v r ≡ c →
        cond a (cond b too_great (cond c too_small (meets r))) too_great ≡ meets q → (r ≡ q) × (is_root v r ≡ true)
    go false h b k c m f = great_meets q f
    go true h true k c m f = great_meets q f
    go true h false k true m f = small_meets q f
    go true h false k false m f = (meets_eq r q f, root_is v r (same_place_lem r.place [] h) (ltb-false v r.version k, m))

-- a slot that holds a record is one of the store's
pub inside : (s : List Slot) (i : ℕ) (r : Record) → get_or s i free ≡ used r → i < length s
inside [] i r e = free_used r e
inside (x ∷ s) zero r e = omega arith
inside (x ∷ s) (suc i) r e = let l = inside s i r e in omega arith

-- the slot that a search ends on
pub record Ends (look : Record → Look) (s : List Slot) (r : Record) : Type 0 where
  pub slot : ℕ
  pub inside : slot < length s
  pub holds : get_or s slot free ≡ used r
  pub met : look r ≡ meets r

module _ (look : Record → Look) (own : (q r : Record) → look q ≡ meets r → q ≡ r) (s : List Slot) where
  -- an entry that is met names a slot in form, with that record
  pub entry_met : (i : ℕ) (r : Record) → look_at look (get_or s i free) ≡ meets r → (i < length s) × (get_or s i free ≡ used r)
  entry_met i r e = go (get_or s i free) refl e
    where
      go : (x : Slot) → get_or s i free ≡ x → look_at look x ≡ meets r → (i < length s) × (get_or s i free ≡ used r)
      go free h f = great_meets r f
      go (spoiled x) h f = great_meets r f
      go (used q) h f = (inside s i q h, h ∙ ap used (own q r f))

  entry_look : (i : ℕ) (r : Record) → look_at look (get_or s i free) ≡ meets r → look r ≡ meets r
  entry_look i r e = let w = entry_met i r e in ap (λ x. look_at look x) (sym w.1) ∙ e

  step : (r : Record) (i : ℕ) (above below : Option Record) → (above ≡ some r → Ends look s r) → (below ≡ some r → Ends look s r) →
      (l : Look) → look_at look (get_or s i free) ≡ l → onwards l above below ≡ some r → Ends look s r
  step r i above below up down too_small h f = up f
  step r i above below up down too_great h f = down f
  step r i above below up down (meets q) h f =
      let same : q ≡ r = cc in
      let e = h ∙ ap meets same in
      let w = entry_met i r e in
      record { slot = i; inside = w.0; holds = w.1; met = entry_look i r e }

  left_over : (r : Record) (o : Option Record) → (o ≡ some r → Ends look s r) → (b : Bool) → cond b o none ≡ some r → Ends look s r
  left_over r o ends true f = ends f
  left_over r o ends false f = absurd (none-ne-some r f)

  -- what a search gives stands in a slot in form, and the look meets it
  pub search_ends : (n : ℕ) (table : List ℕ) (lo hi : ℕ) (r : Record) → search_from n look table s lo hi ≡ some r → Ends look s r
  search_ends zero table lo hi r e = absurd (none-ne-some r e)
  search_ends (suc n) table lo hi r e =
      left_over r _
      (λ f. step r (get_or table ((lo + hi) / 2) (length s)) _ _ (search_ends n table (suc ((lo + hi) / 2)) hi r) (search_ends n table lo ((lo + hi) / 2) r) _ refl f)
      (ltb lo hi) e
