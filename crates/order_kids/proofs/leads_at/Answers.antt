-- `order_kids::leads_at` meets its contract: the first entry leads, and one after an entry whose node stands before. Assumes nothing.
use native.Mathlib.Omega.{arith}
use Prim.Native.Nat.{◌-◌}
use mathlib.Core.Path.{◌≡◌, subst₂}
use mathlib.Core.Bool.{true}
use Rattle.terms.specs.Bits.{before}
use Rattle.layout.specs.Stores.{store_of}
use Rattle.ordered.specs.Ordered.{key_no}
use Rattle.check_pass.proofs.Passes.{pass_map}
use Rattle.ordered.proofs.Ordered.{leads_first, leads_after}
use Rattle.order_kids.proofs.Entries.{in_order, entry_formed}
use Rattle.order_kids.proofs.leads_at.Goals as goal

pub returns-then-k-eq0 : goal.returns-then-k-eq0
returns-then-k-eq0 c = leads_first (in_order c.requires.0 (omega (arith, c.requires.1))) c.args.k c.requires.1 c.if-k-eq0.true

pub node_before-requires : goal.node_before-requires
node_before-requires c = (entry_formed c.requires.0 (c.args.k - 1) (omega (arith, c.requires.1)) c.wide.ensures.0, entry_formed c.requires.0 c.args.k c.requires.1 c.wide-2.ensures.0)

pub returns : goal.returns
returns c =
    let s = (store_of c.args.store.now).slots in
    pass_map c.node_before.result
    (λ h. leads_after (in_order c.requires.0 (omega (arith, c.requires.1))) c.args.k c.requires.1 (omega (arith, c.if-k-eq0.false))
    (subst₂ (λ i j. before (key_no s i) (key_no s j) ≡ true) c.wide.ensures.0 c.wide-2.ensures.0 h))
    c.node_before.ensures
