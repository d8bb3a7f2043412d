-- `apply_fork::fork` meets its contract: the left child is placed, then the right one. Assumes nothing.
use mathlib.Core.Path.{refl, ap₂}
use Rattle.terms.specs.Bits.{left, right}
use Rattle.apply_place.proofs.Changing.{changed_stored}
use Rattle.apply_outcome.proofs.Saying.{places_at_lem, two_placed}
use Rattle.apply_place.specs.declared.Node.TheVariants.{Inner}
use Rattle.apply_fork.proofs.fork.Goals as goal

pub place_updated-half-requires : goal.place_updated-half-requires
place_updated-half-requires c = places_at_lem c.args.writes c.args.l c.left.ensures c.requires.stored c.requires.starts c.requires.left_form

pub place_updated-reach-requires : goal.place_updated-reach-requires
place_updated-reach-requires c = places_at_lem c.args.writes c.args.r c.right.ensures (changed_stored c.place_updated-half.ensures.bytes) c.place_updated-half.ensures.reach.starts c.requires.right_form

pub leaves_of-lefts-requires : goal.leaves_of-lefts-requires
leaves_of-lefts-requires c = c.requires.left_few

pub leaves_of-rights-requires : goal.leaves_of-rights-requires
leaves_of-rights-requires c = c.requires.right_few

pub returns : goal.returns
returns c =
    record {
      left_child = c.child_after-left.result;
      right_child = c.child_after-right.result;
      change = refl;
      node = ap₂ (Inner c.args.new c.child_after-left.result c.child_after-right.result) c.leaves_of-lefts.ensures c.leaves_of-rights.ensures;
      left_is = c.child_after-left.ensures;
      right_is = c.child_after-right.ensures;
      placed = two_placed c.args.writes c.args.l c.args.r c.left.ensures c.right.ensures c.place_updated-half.ensures c.place_updated-reach.ensures;
    }
