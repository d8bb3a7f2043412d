-- `order_kids::leads` meets its contract: the entry where the slot is named leads. Assumes nothing.
use mathlib.Core.Path.{sym, ◌∙◌, subst}
use Rattle.layout.specs.Stores.{store_of}
use Rattle.check_pass.specs.Passes.{Passed}
use Rattle.ordered.specs.Ordered.{Leads}
use Rattle.order_kids.proofs.leads.Goals as goal

pub returns : goal.returns
returns c =
    let s = (store_of c.args.store.now).slots in
    subst (λ i. Passed c.leads_at.result (Leads s i)) (sym c.wide.ensures.0 ∙ c.if-wide-i.false) c.leads_at.ensures
