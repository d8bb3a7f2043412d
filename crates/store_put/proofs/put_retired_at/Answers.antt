-- `store::put_retired_at` meets its contract: four bytes change. Assumes nothing.
use Prim.Native.Nat.{◌+◌}
use mathlib.Core.Path.{ap, ◌∙◌}
use Rattle.terms.specs.Fields.{le}
use Rattle.fields.specs.Written.{written}
use Rattle.store_put.proofs.put_retired_at.Goals as goal

pub returns : goal.returns
returns c =
    let a = c.args in
    c.put_u32.ensures ∙ ap (λ n. written (n + 44) (le 4 a.since) a.store.now) c.slot_start-at.ensures.0
