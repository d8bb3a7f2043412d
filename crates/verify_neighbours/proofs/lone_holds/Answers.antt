-- `verify_neighbours::lone_holds` meets its contract: the neighbour holds, and its path is outermost.
-- Assumes nothing.
use native.Mathlib.Omega.{arith}
use mathlib.Core.Path.{ap, sym, ◌∙◌}
use mathlib.Core.Bool.{not}
use Rattle.meaning.specs.Checking.{outermost}
use Rattle.proofrecords.specs.ProofBytes.{step_count}
use Rattle.proofrecords.proofs.Forms.{presence_whole}
use Rattle.verify_neighbours.proofs.Neighbours.{all_steps}
use Rattle.verify_neighbours.proofs.lone_holds.Goals as goal

pub returns-then-not-neighbour_holds : goal.returns-then-not-neighbour_holds
returns-then-not-neighbour_holds c = rw (sym c.neighbour_holds.ensures ∙ c.if-not-neighbour_holds.true)

pub get_u16-n-requires : goal.get_u16-n-requires
get_u16-n-requires c = let w = presence_whole c.args.p.now c.requires.p_value in omega arith

pub outermost-requires : goal.outermost-requires
unfolding step_count
outermost-requires c = let w = presence_whole c.args.p.now c.requires.p_value in omega arith

pub returns : goal.returns
returns c =
    let a = c.args in
    rw (sym c.neighbour_holds.ensures ∙ c.if-not-neighbour_holds.false)
    (c.outermost.ensures ∙ ap (outermost (not a.side)) (all_steps _ a.p.now c.get_u16-n.ensures))
