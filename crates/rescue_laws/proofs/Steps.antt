-- A step backwards: what the tree of u has and the next tree lacks is in no later tree of the run, and is retired since u + 1; all that
-- was taken before stays as it is. So a loop may write each record once, when it is met. Assumes nothing.
use Prim.Native.Nat.{ℕ, zero, suc, ◌+◌}
use native.Mathlib.Omega.{arith}
use mathlib.Core.Path.{◌≡◌, refl, ap, sym}
use mathlib.Core.Bool.{Bool, true, false, cond, true≢false, false≢true}
use mathlib.Core.List.{List, [], ◌∷◌}
use mathlib.Core.Option.{Option, none, some, or_else}
use lib.ListN.{get_or}
use borrow.Author.Tests.{ne_eqb}
use Rattle.terms.specs.Bits.{Bytes, Place}
use Rattle.terms.specs.Records.{Record, Slot, free, used, spoiled}
use Rattle.meaning.specs.Store.{marked}
use Rattle.meaning.specs.Sound.{NodeOf}
use Rattle.meaning.proofs.Finding.{free_used, used_eq}
use Rattle.rescue_rules.specs.Rescue.{source_tree, if_in, newest, is_there, in_run, since, fresh, without, taken}
use Rattle.rescue_rules.specs.Joining.{Chain}
use Rattle.rescue_laws.proofs.Taken.{Nodes, Setting, after, on_from}
use Rattle.rescue_laws.proofs.Nodes.{Newest, last, newest_is, node_stands}
use Rattle.rescue_laws.proofs.Runs.{goes_back_from}

-- records keep their slots
pub slots_kept : (nodes : Nodes) (set : Setting) (s : List Slot) (i : ℕ) (r : Record) → get_or (taken nodes set s) i free ≡ used r →
    (q : Record) × (get_or s i free ≡ used q) × (r ≡ marked (set q.version q.place) q)
slots_kept nodes set [] i r e = free_used r e
slots_kept nodes set (free ∷ s) zero r e = free_used r e
slots_kept nodes set (free ∷ s) (suc i) r e = slots_kept nodes set s i r e
slots_kept nodes set (used q ∷ s) i r e =
    go i (nodes q.version q.place) (λ j. slots_kept nodes set s j r) (λ j. slots_kept (without q.version q.place nodes) set s j r) e
  where
    Kept : ℕ → List Slot → Type 0
    Kept j t = (x : Record) × (get_or t j free ≡ used x) × (r ≡ marked (set x.version x.place) x)

    go : (i : ℕ) (b : Bool) → ((j : ℕ) → get_or (taken nodes set s) j free ≡ used r → Kept j s) →
        ((j : ℕ) → get_or (after nodes set q s) j free ≡ used r → Kept j s) →
        get_or (on_from b nodes set q s) i free ≡ used r → Kept i (used q ∷ s)
    go zero true f g k = (q, refl, sym (used_eq _ r k))
    go zero false f g k = free_used r k
    go (suc j) true f g k = g j k
    go (suc j) false f g k = f j k
slots_kept nodes set (spoiled x ∷ s) zero r e = free_used r e
slots_kept nodes set (spoiled x ∷ s) (suc i) r e = slots_kept nodes set s i r e

module _ (s : List Slot) (u n w : ℕ) (q : Place) where
  -- what was taken before keeps its retired-since
  pub taken_before : in_run s (suc u) n w q ≡ true → (in_run s u (suc n) w q ≡ true) × (fresh s u (suc n) w q ≡ fresh s (suc u) n w q)
  unfolding in_run fresh or_else
  taken_before h = go (newest s (suc u) n w q) h
    where
      l : u + suc n ≡ suc u + n
      l = omega arith

      go : (o : Option ℕ) → is_there o ≡ true →
          (is_there (or_else o (if_in s u w q)) ≡ true) × (since (u + suc n) (or_else o (if_in s u w q)) ≡ since (suc u + n) o)
      go none k = absurd (false≢true k)
      go (some v) k = (refl, ap (λ x. since x (some v)) l)

  -- what u's tree has beyond that is retired since u + 1
  pub taken_now : in_run s (suc u) n w q ≡ false → NodeOf w q (source_tree s u) [] →
      (in_run s u (suc n) w q ≡ true) × (fresh s u (suc n) w q ≡ suc u)
  unfolding in_run fresh if_in or_else
  taken_now h m = go (newest s (suc u) n w q) h _ (node_stands w q (source_tree s u) [] m)
    where
      go : (o : Option ℕ) → is_there o ≡ false → (b : Bool) → b ≡ true →
          (is_there (or_else o (cond b (some u) none)) ≡ true) × (since (u + suc n) (or_else o (cond b (some u) none)) ≡ suc u)
      go none k true e = (refl, rw (ne_eqb u (u + suc n) (λ z. omega arith)))
      go none k false e = absurd (false≢true e)
      go (some v) k b e = absurd (true≢false k)

-- no second life: what the next tree lacks, no later tree of the run has
pub no_second_life : (leaf_hash inner_hash : Bytes → Bytes → Bytes) (s : List Slot) (u n w : ℕ) (q : Place) →
    Chain leaf_hash inner_hash s u (suc n) →
    NodeOf w q (source_tree s u) [] → (NodeOf w q (source_tree s (suc u)) [] → ⊥) → in_run s (suc u) n w q ≡ false
unfolding in_run
no_second_life leaf_hash inner_hash s u n w q chain m f = go _ (newest_is s (suc u) n w q)
  where
    go : (o : Option ℕ) → Newest s (suc u) n w q o → is_there o ≡ false
    go none h = refl
    go (some t) (last t' a b k g) =
        let old = (chain.good u (omega arith) (omega arith)).versions w q m in
        absurd (f (goes_back_from leaf_hash inner_hash s u (suc n) chain w q (suc u) t (omega arith) a (omega arith) (omega arith) k))
