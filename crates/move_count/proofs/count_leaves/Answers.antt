-- `move_count::count_leaves` meets its contract: level by level, with guesses. Assumes nothing.
use native.Mathlib.Omega.{arith}
use Rattle.layout.proofs.Headers.{size_says}
use Rattle.terms.specs.declared.Form.TheVariants.{Plain as plain}
use lib.ListN.{length}
use Rattle.move_count.proofs.count_leaves.Goals as goal

pub guess_children-requires : goal.guess_children-requires
guess_children-requires c =
    let s = c.args.store.now in
    ((record { size = c.requires.0.size; many = c.slot_count-n.ensures }), omega (arith, c.slot_count-n.ensures, size_says plain (length s) c.requires.0.size))
