-- The three numbers add up: all of them are the used slots of the source, those kept are the records of the target; and a record counted
-- as kept as it was is the same record. Assumes nothing.
use Prim.Native.Nat.{ℕ, suc, ◌+◌}
use native.Mathlib.Omega.{arith}
use mathlib.Core.Path.{◌≡◌, refl, sym}
use mathlib.Core.Bool.{Bool, true, false, cond}
use mathlib.Core.List.{List, [], ◌∷◌}
use lib.ListN.{length}
use lib.Dec.{eqb}
use Rattle.terms.specs.Records.{Record, Slot, free, used, spoiled}
use Rattle.meaning.specs.Store.{free_slots, marked}
use Rattle.rescue_rules.specs.Rescue.{without, taken, Counts, compared, counts}
use Rattle.rescue_laws.proofs.Taken.{Nodes, Setting, after, on_from}

-- the numbers of a source with so many free slots and a target with so many, of so many slots each
abbrev AddUp : Counts → ℕ → ℕ → ℕ → Type 0
AddUp c before after n = (c.same + c.other + c.out + before ≡ n) × (c.same + c.other + after ≡ n)

kept_adds : (r q : Record) (c : Counts) (before after n : ℕ) → AddUp c before after n →
    AddUp (compared (used r) (used q) c) before after (suc n)
kept_adds r q c before after n h =
    elim (eqb r.retired q.retired)
    as (λ b. AddUp (cond b (record { same = suc c.same; other = c.other; out = c.out }) (record { same = c.same; other = suc c.other; out = c.out })) before after (suc n))
    [ true ↦ (omega (arith, h.0), omega (arith, h.1)) | false ↦ (omega (arith, h.0), omega (arith, h.1)) ]

pub counts_add_up : (nodes : Nodes) (set : Setting) (s : List Slot) →
    AddUp (counts s (taken nodes set s)) (free_slots s) (free_slots (taken nodes set s)) (length s)
counts_add_up nodes set [] = (refl, refl)
counts_add_up nodes set (free ∷ s) = let h = counts_add_up nodes set s in (omega (arith, h.0), omega (arith, h.1))
counts_add_up nodes set (used r ∷ s) = go (nodes r.version r.place) (counts_add_up nodes set s) (counts_add_up (without r.version r.place nodes) set s)
  where
    go : (b : Bool) → AddUp (counts s (taken nodes set s)) (free_slots s) (free_slots (taken nodes set s)) (length s) →
        AddUp (counts s (after nodes set r s)) (free_slots s) (free_slots (after nodes set r s)) (length s) →
        AddUp (counts (used r ∷ s) (on_from b nodes set r s)) (free_slots s)
        (free_slots (on_from b nodes set r s)) (suc (length s))
    go true h k = kept_adds r (marked (set r.version r.place) r) (counts s (after nodes set r s)) (free_slots s) (free_slots (after nodes set r s)) (length s) k
    go false h k = (omega (arith, h.0), omega (arith, h.1))
counts_add_up nodes set (spoiled x ∷ s) = let h = counts_add_up nodes set s in (omega (arith, h.0), omega (arith, h.1))

-- kept as it was
pub same_is_same : (r : Record) (n : ℕ) → r.retired ≡ n → marked n r ≡ r
unfolding marked
same_is_same r n e = λ j. record { place = r.place; version = r.version; retired = sym e j; body = r.body; counts = r.counts }
