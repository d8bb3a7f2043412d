-- `verify_neighbours::both_hold` meets its contract: each neighbour, then their paths.
-- Assumes nothing.
use native.Mathlib.Omega.{arith}
use mathlib.Core.Path.{ap₂, sym, ◌∙◌}
use Rattle.terms.specs.Bits.{left}
use Rattle.meaning.specs.Checking.{paths_part}
use Rattle.hash.specs.Hash.{hash_bytes}
use Rattle.proofrecords.specs.ProofBytes.{step_count}
use Rattle.proofrecords.proofs.Forms.{presence_whole}
use Rattle.verify_neighbours.proofs.Neighbours.{all_steps, neighbour_leads}
use Rattle.verify_neighbours.proofs.both_hold.Goals as goal

pub returns-then-not-neighbour_holds : goal.returns-then-not-neighbour_holds
returns-then-not-neighbour_holds c = rw (sym c.neighbour_holds.ensures ∙ c.if-not-neighbour_holds.true)

pub neighbour_holds-requires-2 : goal.neighbour_holds-requires-2
neighbour_holds-requires-2 c =
    let l = neighbour_leads (hash_bytes c.args.root) c.args.key.now c.args.l.now left (sym c.neighbour_holds.ensures ∙ c.if-not-neighbour_holds.false) in
    record { p_value = c.requires.r_value; good_value = c.requires.h_value (c.requires.g_value ∙ l) }

pub returns-then-not-neighbour_holds-2 : goal.returns-then-not-neighbour_holds-2
returns-then-not-neighbour_holds-2 c = rw (sym c.neighbour_holds.ensures ∙ c.if-not-neighbour_holds.false, sym c.neighbour_holds-2.ensures ∙ c.if-not-neighbour_holds-2.true)

pub get_u16-m-requires : goal.get_u16-m-requires
get_u16-m-requires c = let w = presence_whole c.args.l.now c.requires.l_value in omega arith

pub get_u16-n-requires : goal.get_u16-n-requires
get_u16-n-requires c = let w = presence_whole c.args.r.now c.requires.r_value in omega arith

pub paths_part-requires : goal.paths_part-requires
unfolding step_count
paths_part-requires c =
    let v = presence_whole c.args.l.now c.requires.l_value in
    let w = presence_whole c.args.r.now c.requires.r_value in
    record { room = omega arith; room_2 = omega arith }

pub returns : goal.returns
returns c =
    let a = c.args in
    rw (sym c.neighbour_holds.ensures ∙ c.if-not-neighbour_holds.false, sym c.neighbour_holds-2.ensures ∙ c.if-not-neighbour_holds-2.false)
    (c.paths_part.ensures ∙ ap₂ paths_part (all_steps _ a.l.now c.get_u16-m.ensures) (all_steps _ a.r.now c.get_u16-n.ensures))
