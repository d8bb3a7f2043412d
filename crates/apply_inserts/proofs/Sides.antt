-- The leaf that stays goes to its side, and there the same holds of it. Assumes nothing.
use Prim.Native.Nat.{◌<◌}
use native.Mathlib.Omega.{arith}
use mathlib.Core.Path.{◌≡◌, refl, ap, ◌∙◌}
use mathlib.Core.Bool.{Bool, true, false, cond, ◌&&◌, beq}
use mathlib.Core.List.{List}
use mathlib.Core.Option.{Option, none, some}
use lib.ListN.{length}
use Rattle.terms.specs.Bits.{Side, Place, longer, bit, begins}
use Rattle.terms.specs.Records.{Grant, grant, Ask}
use Rattle.terms.proofs.Lists.{all_filter}
use Rattle.terms.proofs.Places.{begins_longer}
use Rattle.meaning.specs.Runs.{asks_for, run}
use Rattle.hash.specs.Hash.{hash_bytes}
use Rattle.hash.proofs.Laws.{hash_whole}
use Rattle.steps.specs.Step as step
use Rattle.std.specs.declared.option.Option as option
use Rattle.std.specs.Prelude.{Some, None}
use Rattle.apply_inserts.specs.declared.Grant as declared-grant
use Rattle.apply_inserts.specs.Inserts.{stays_says, stays_at, StaysAt}

-- on a side of a place it stays as it does there
pub stays_longer : (b : Side) (p : Place) (stays : option.Option declared-grant.Grant) → length p < 256 →
    stays_at (longer b p) (stays_says stays) ≡ step.leaf_on (length p) b (stays_at p (stays_says stays))
stays_longer b p None l = refl
stays_longer b p (Some g) l =
    ap (λ t. cond t (some leaf) none) (begins_longer b p (hash_bytes g.key) (omega (arith, (hash_whole g.key).0))) ∙ go (begins p (hash_bytes g.key))
  where
    leaf : Grant
    leaf = grant (hash_bytes g.key) (hash_bytes g.value)

    go : (t : Bool) →
        cond (t && beq b (bit (length p) (hash_bytes g.key))) (some leaf) none
        ≡ step.leaf_on (length p) b (cond t (some leaf) none)
    go true = refl
    go false = refl

pub stays_at_side : (b : Side) (p : Place) (stays : Option Grant) (asks : List Ask) → length p < 256 → StaysAt p stays asks →
    StaysAt (longer b p) (step.leaf_on (length p) b stays) (run (length p) b asks)
stays_at_side b p none asks l h = tt
stays_at_side b p (some g) asks l h = go (beq b (bit (length p) g.key)) refl
  where
    go : (t : Bool) → beq b (bit (length p) g.key) ≡ t → StaysAt (longer b p) (cond t (some g) none) (run (length p) b asks)
    go true e = (h.0, begins_longer b p g.key (omega (arith, h.0.0.0)) ∙ rw (h.1, e), all_filter _ (asks_for (length p) b) asks h.2)
    go false e = tt
