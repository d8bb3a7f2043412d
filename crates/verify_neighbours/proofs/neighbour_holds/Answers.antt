-- `verify_neighbours::neighbour_holds` meets its contract: the path, then the order of the keys.
-- Assumes nothing.
use native.Mathlib.Omega.{arith}
use mathlib.Core.Path.{sym, ◌∙◌}
use Rattle.terms.specs.Fields.{slice}
use Rattle.meaning.specs.Checking.{neighbour_holds}
use Rattle.proofrecords.specs.ProofBytes.{presence_in}
use Rattle.proofrecords.proofs.Forms.{presence_whole}
use Rattle.verify_neighbours.proofs.neighbour_holds.Goals as goal

pub returns-then-not-good : goal.returns-then-not-good
unfolding neighbour_holds
returns-then-not-good c = rw (sym c.requires.good_value ∙ c.if-not-good.true)

pub slice_bounds-beyond-end : goal.slice_bounds-beyond-end
slice_bounds-beyond-end c = let w = presence_whole c.args.p.now c.requires.p_value in omega arith

pub returns : goal.returns
unfolding neighbour_holds presence_in slice
returns c = rw (sym c.requires.good_value ∙ c.if-not-good.false) c.beyond.ensures
