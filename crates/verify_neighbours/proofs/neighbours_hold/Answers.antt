-- `verify_neighbours::neighbours_hold` meets its contract: by the flags, each neighbour is checked where it lies.
-- Assumes nothing.
use Prim.Native.Nat.{◌+◌, ◌<◌, ◌≤◌}
use native.Mathlib.Omega.{arith}
use mathlib.Core.Path.{ap, ap₂, sym, ◌∙◌}
use lib.ListN.{length}
use Rattle.verify_neighbours.specs.Neighbours.{leads, lone_neighbour, both_neighbours}
use Rattle.terms.specs.Bits.{left, right}
use Rattle.hash.specs.Hash.{hash_bytes}
use Rattle.proofrecords.specs.ProofBytes.{is_presence, left_length, flags}
use Rattle.proofrecords.proofs.Forms.{absence_head_lem, one_there, flags_both, left_there, right_there, both_room, rest_part, left_part_lem, right_part_lem, above_two}
use Rattle.verify_neighbours.proofs.Neighbours.{left_shown, right_shown, both_shown}
use Rattle.verify_neighbours.proofs.neighbours_hold.Goals as goal

pub get_u16-flags-requires : goal.get_u16-flags-requires
get_u16-flags-requires c =
    let head : 40 ≤ length c.args.proof.now = absence_head_lem c.args.proof.now c.requires.proof_value in
    let w = head in omega arith

pub slice_bounds-lone_holds-count : goal.slice_bounds-lone_holds-count
slice_bounds-lone_holds-count c =
    let head : 40 ≤ length c.args.proof.now = absence_head_lem c.args.proof.now c.requires.proof_value in
    let w = head in omega arith

pub slice_bounds-lone_holds-start : goal.slice_bounds-lone_holds-start
slice_bounds-lone_holds-start c =
    let head : 40 ≤ length c.args.proof.now = absence_head_lem c.args.proof.now c.requires.proof_value in
    let w = head in omega arith

pub lone_holds-requires : goal.lone_holds-requires
unfolding flags
lone_holds-requires c =
    let x = c.args.proof.now in
    let f = sym c.get_u16-flags.ensures ∙ c.if-flags-eq1.true in
    record { p_value = ap is_presence (rest_part 40 x) ∙ one_there x c.requires.proof_value (omega arith); good_value = c.requires.around.lone (omega arith) ∙ sym (ap (leads (hash_bytes c.args.root)) (rest_part 40 x)) }

pub returns-then-flags-eq1 : goal.returns-then-flags-eq1
unfolding flags
returns-then-flags-eq1 c =
    let a = c.args in
    let root = hash_bytes a.root in
    let f = sym c.get_u16-flags.ensures ∙ c.if-flags-eq1.true in
    c.lone_holds.ensures ∙ ap (lone_neighbour left root a.key.now) (rest_part 40 a.proof.now) ∙ sym (left_shown root a.key.now a.proof.now f)

pub slice_bounds-lone_holds-count-then-flags-eq2 : goal.slice_bounds-lone_holds-count-then-flags-eq2
slice_bounds-lone_holds-count-then-flags-eq2 c =
    let head : 40 ≤ length c.args.proof.now = absence_head_lem c.args.proof.now c.requires.proof_value in
    let w = head in omega arith

pub slice_bounds-lone_holds-start-then-flags-eq2 : goal.slice_bounds-lone_holds-start-then-flags-eq2
slice_bounds-lone_holds-start-then-flags-eq2 c =
    let head : 40 ≤ length c.args.proof.now = absence_head_lem c.args.proof.now c.requires.proof_value in
    let w = head in omega arith

pub lone_holds-requires-then-flags-eq2 : goal.lone_holds-requires-then-flags-eq2
unfolding flags
lone_holds-requires-then-flags-eq2 c =
    let x = c.args.proof.now in
    let f = sym c.get_u16-flags.ensures ∙ c.if-flags-eq2.true in
    record { p_value = ap is_presence (rest_part 40 x) ∙ one_there x c.requires.proof_value (omega arith); good_value = c.requires.around.lone (omega arith) ∙ sym (ap (leads (hash_bytes c.args.root)) (rest_part 40 x)) }

pub returns-then-flags-eq2 : goal.returns-then-flags-eq2
unfolding flags
returns-then-flags-eq2 c =
    let a = c.args in
    let root = hash_bytes a.root in
    let f = sym c.get_u16-flags.ensures ∙ c.if-flags-eq2.true in
    c.lone_holds-then-flags-eq2.ensures ∙ ap (lone_neighbour right root a.key.now) (rest_part 40 a.proof.now) ∙ sym (right_shown root a.key.now a.proof.now f)

pub get_u32-requires : goal.get_u32-requires
unfolding flags
get_u32-requires c =
    let two-flagged : 2 < flags c.args.proof.now = let e = c.get_u16-flags.ensures in
    above_two c.args.proof.now c.requires.proof_value (rw (← e) c.if-flags-eq1.false) (rw (← e) c.if-flags-eq2.false) in
    let room : let x = c.args.proof.now in 112 + left_length x ≤ length x = both_room c.args.proof.now c.requires.proof_value two-flagged in
    let m = room in omega arith

pub slice_bounds-both_hold-end : goal.slice_bounds-both_hold-end
unfolding left_length flags
slice_bounds-both_hold-end c =
    let two-flagged : 2 < flags c.args.proof.now = let e = c.get_u16-flags.ensures in
    above_two c.args.proof.now c.requires.proof_value (rw (← e) c.if-flags-eq1.false) (rw (← e) c.if-flags-eq2.false) in
    let room : let x = c.args.proof.now in 112 + left_length x ≤ length x = both_room c.args.proof.now c.requires.proof_value two-flagged in
    let m = room in omega arith

pub slice_bounds-both_hold-count-2 : goal.slice_bounds-both_hold-count-2
unfolding left_length flags
slice_bounds-both_hold-count-2 c =
    let two-flagged : 2 < flags c.args.proof.now = let e = c.get_u16-flags.ensures in
    above_two c.args.proof.now c.requires.proof_value (rw (← e) c.if-flags-eq1.false) (rw (← e) c.if-flags-eq2.false) in
    let room : let x = c.args.proof.now in 112 + left_length x ≤ length x = both_room c.args.proof.now c.requires.proof_value two-flagged in
    let m = room in omega arith

pub slice_bounds-both_hold-start-2 : goal.slice_bounds-both_hold-start-2
unfolding left_length flags
slice_bounds-both_hold-start-2 c =
    let two-flagged : 2 < flags c.args.proof.now = let e = c.get_u16-flags.ensures in
    above_two c.args.proof.now c.requires.proof_value (rw (← e) c.if-flags-eq1.false) (rw (← e) c.if-flags-eq2.false) in
    let room : let x = c.args.proof.now in 112 + left_length x ≤ length x = both_room c.args.proof.now c.requires.proof_value two-flagged in
    let m = room in omega arith

pub both_hold-requires : goal.both_hold-requires
unfolding left_length flags
both_hold-requires c =
    let two-flagged : 2 < flags c.args.proof.now = let e = c.get_u16-flags.ensures in
    above_two c.args.proof.now c.requires.proof_value (rw (← e) c.if-flags-eq1.false) (rw (← e) c.if-flags-eq2.false) in
    let x = c.args.proof.now in
    let root = hash_bytes c.args.root in
    let t = two-flagged in
    let e = c.get_u32.ensures in record { l_value = ap is_presence (left_part_lem _ x e) ∙ left_there x c.requires.proof_value t; r_value = ap is_presence (right_part_lem _ x e) ∙ right_there x c.requires.proof_value t; g_value = c.requires.around.leftward t ∙ sym (ap (leads root) (left_part_lem _ x e)); h_value = λ g. c.requires.around.rightward t g ∙ sym (ap (leads root) (right_part_lem _ x e)) }

pub returns : goal.returns
unfolding left_length flags
returns c =
    let two-flagged : 2 < flags c.args.proof.now = let e = c.get_u16-flags.ensures in
    above_two c.args.proof.now c.requires.proof_value (rw (← e) c.if-flags-eq1.false) (rw (← e) c.if-flags-eq2.false) in
    let root = hash_bytes c.args.root in
    let k = c.args.key.now in
    let x = c.args.proof.now in
    let e = c.get_u32.ensures in
    c.both_hold.ensures
    ∙ ap₂ (both_neighbours root k) (left_part_lem _ x e) (right_part_lem _ x e)
    ∙ sym (both_shown root k x (flags_both x c.requires.proof_value two-flagged))
