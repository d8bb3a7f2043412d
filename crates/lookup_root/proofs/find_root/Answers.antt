-- `lookup_root::find_root` meets its contract: no slot passed holds a root that lives at the version. Assumes nothing.
use native.Mathlib.Omega.{arith}
use mathlib.Core.Path.{sym, ◌∙◌}
use Rattle.store.proofs.Scans.{scan_slot}
use Rattle.lookup_root.proofs.Rooting.{root_start, root_next, root_found, root_nowhere}
use Rattle.lookup_root.proofs.find_root.Goals as goal

pub slot_count-n-requires : goal.slot_count-n-requires
slot_count-n-requires c = c.requires

pub loop-j-init : goal.loop-j-init
loop-j-init c = root_start c.args.store.now c.args.version c.requires c.slot_count-n.ensures

pub root_here-requires : goal.root_here-requires
root_here-requires c = scan_slot c.loop-j.invariant (omega arith)

pub returns-then-root_here : goal.returns-then-root_here
returns-then-root_here c = root_found c.args.version c.loop-j.invariant (omega arith) (sym c.root_here.ensures ∙ c.if-root_here.true)

pub loop-j-preserved : goal.loop-j-preserved
loop-j-preserved c = root_next c.args.version c.loop-j.invariant (omega arith) (sym c.root_here.ensures ∙ c.if-root_here.false)

pub returns : goal.returns
returns c = root_nowhere c.args.version c.loop-j.invariant (omega arith)
