-- `check_roots::roots_apart` meets its contract: the slots before j pass. Assumes nothing.
use mathlib.Core.Bool.{true}
use Rattle.local.specs.Test.{by_record}
use Rattle.layout.specs.Stores.{store_in}
use Rattle.check_kin.specs.Kin.{clear_of}
use Rattle.check_roots.proofs.Scanning.{pass_start, pass_end}
use Rattle.check_roots.proofs.roots_apart.Goals as goal

pub loop-j-init : goal.loop-j-init
loop-j-init c =
    pass_start c.args.store.now (by_record true (clear_of (store_in c.args.form c.args.store.now) c.args.version c.args.ends))
    c.requires.size c.slot_count-n.ensures

pub returns : goal.returns
returns c = pass_end _ c.loop-j.invariant c.loop-j-test.false
