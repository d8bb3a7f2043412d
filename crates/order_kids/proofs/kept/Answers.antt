-- `order_kids::kept` meets its contract. Assumes nothing.
use mathlib.Core.Bool.{not}
use native.Mathlib.Omega.{arith}
use mathlib.Core.Path.{ap, subst}
use Rattle.layout.specs.Stores.{store_of}
use Rattle.ordered.specs.Ordered.{Leads}
use Rattle.check_pass.proofs.Passes.{passed_so}
use Rattle.order_kids.proofs.kept.Goals as goal

pub returns-then-i-ge16384 : goal.returns-then-i-ge16384
returns-then-i-ge16384 c = λ h. absurd (omega arith)

pub returns-then-not-leads : goal.returns-then-not-leads
returns-then-not-leads c = λ h. absurd (omega arith)

pub returns : goal.returns
returns c =
    let s = (store_of c.args.store.now).slots in
    λ h. subst (Leads s) (omega (arith, c.wide-i.ensures.0)) (passed_so c.leads.result (ap not c.if-not-leads.false) c.leads.ensures)
