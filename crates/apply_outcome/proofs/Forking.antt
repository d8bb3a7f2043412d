-- The writes of the outcomes at two children, then the marks, then the placing, are what is written for the inner node above them.
-- Assumes nothing.
use Prim.Native.Nat.{ℕ}
use mathlib.Core.Path.{◌≡◌, refl, ap, sym}
use mathlib.Core.Bool.{Bool, true, false}
use mathlib.Core.List.{List, [], ◌∷◌}
use Rattle.terms.specs.Bits.{Bytes}
use Rattle.terms.specs.Records.{Record, Slot, free, used, spoiled}
use Rattle.meaning.specs.Tree.{VTree}
use Rattle.meaning.specs.Store.{placed}
use Rattle.steps.specs.Step as step
use Rattle.steps.specs.Writing.{mark_in, mark, written}
use Rattle.steps.proofs.Writing.{AllNew, AllOlder, writes_in_turn}
use Rattle.apply_place.specs.Placing.{Stored, Changed, when_writes}
use Rattle.apply_place.proofs.Changing.{unchanged, changed_as, changed_then}

-- no node, no mark
pub mark_nothing : (new : ℕ) (s : List Slot) → mark new [] s ≡ s
unfolding mark_in
mark_nothing new [] = refl
mark_nothing new (free ∷ s) = ap (free ∷◌) (mark_nothing new s)
mark_nothing new (used r ∷ s) = ap (used r ∷◌) (mark_nothing new s)
mark_nothing new (spoiled x ∷ s) = ap (spoiled x ∷◌) (mark_nothing new s)

pub nothing_marked : (w : Bool) (new : ℕ) {s : Bytes} → Stored s → Changed (when_writes w (mark new [])) s s
nothing_marked true new h = changed_as (λ x. x) (mark new []) (sym (mark_nothing new _)) (unchanged h)
nothing_marked false new h = unchanged h

-- the writes of one call after the other
in_turn_lem : (w : Bool) (new : ℕ) (c : step.Change) (t : VTree) (a b : step.Outcome) (placing : List Record) (ending : List step.Node) (s : List Slot) →
    AllNew new a.fresh → AllNew new b.fresh → AllOlder new b.retired → AllOlder new ending →
    when_writes w (placed placing) (when_writes w (mark new ending) (when_writes w (written new b) (when_writes w (written new a) s)))
    ≡ when_writes w (written new (step.above c t a b placing ending)) s
in_turn_lem true new c t a b placing ending s fa fb ob oe = sym (writes_in_turn new c t a b placing ending s fa fb ob oe)
in_turn_lem false new c t a b placing ending s fa fb ob oe = refl

pub above_bytes : (w : Bool) (new : ℕ) (c : step.Change) (t : VTree) (a b : step.Outcome) (placing : List Record) (ending : List step.Node)
    {s s₁ s₂ s₃ s₄ : Bytes} → AllNew new a.fresh → AllNew new b.fresh → AllOlder new b.retired → AllOlder new ending →
    Changed (when_writes w (written new a)) s s₁ → Changed (when_writes w (written new b)) s₁ s₂ → Changed (when_writes w (mark new ending)) s₂ s₃ →
    Changed (when_writes w (placed placing)) s₃ s₄ → Changed (when_writes w (written new (step.above c t a b placing ending))) s s₄
above_bytes w new c t a b placing ending fa fb ob oe x y m z =
    changed_as _ (when_writes w (written new (step.above c t a b placing ending))) (in_turn_lem w new c t a b placing ending _ fa fb ob oe)
    (changed_then (changed_then (changed_then x y) m) z)
