-- `verify_neighbours::lead_around` meets its contract: by the flags, each path is walked where it lies. Assumes nothing.
use Prim.Native.Nat.{◌+◌, ◌<◌, ◌≤◌}
use native.Mathlib.Omega.{arith}
use mathlib.Core.Path.{refl, ap, sym, ◌∙◌}
use lib.ListN.{length}
use Rattle.hash.specs.Hash.{hash_bytes}
use Rattle.proofrecords.specs.ProofBytes.{is_presence, left_length, flags}
use Rattle.proofrecords.proofs.Forms.{absence_head_lem, one_there, left_there, right_there, both_room, rest_part, left_part_lem, right_part_lem}
use Rattle.verify_neighbours.specs.Neighbours.{leads}
use Rattle.verify_neighbours.proofs.Neighbours.{never}
use Rattle.verify_neighbours.proofs.lead_around.Goals as goal

pub get_u16-requires : goal.get_u16-requires
get_u16-requires c =
    let head : 40 ≤ length c.args.proof.now = absence_head_lem c.args.proof.now c.requires in
    let w = head in omega arith

pub slice_bounds-leads_to-count : goal.slice_bounds-leads_to-count
slice_bounds-leads_to-count c =
    let head : 40 ≤ length c.args.proof.now = absence_head_lem c.args.proof.now c.requires in
    let w = head in omega arith

pub slice_bounds-leads_to-start : goal.slice_bounds-leads_to-start
slice_bounds-leads_to-start c =
    let head : 40 ≤ length c.args.proof.now = absence_head_lem c.args.proof.now c.requires in
    let w = head in omega arith

pub leads_to-lone-requires : goal.leads_to-lone-requires
unfolding flags
leads_to-lone-requires c = ap is_presence (rest_part 40 c.args.proof.now) ∙ one_there c.args.proof.now c.requires (omega (arith, c.get_u16.ensures, c.if-get_u16-le2.true))

pub returns-then-get_u16-le2 : goal.returns-then-get_u16-le2
unfolding flags
returns-then-get_u16-le2 c =
    let x = c.args.proof.now in
    let f = c.get_u16.ensures in
    let t = c.if-get_u16-le2.true in
    record {
      lone = λ k. c.leads_to-lone.ensures ∙ ap (leads (hash_bytes c.args.root)) (rest_part 40 x);
      leftward = λ k. absurd (omega (arith, f, t, k));
      rightward = λ k. absurd (omega (arith, f, t, k));
    }

pub get_u32-requires : goal.get_u32-requires
unfolding flags
get_u32-requires c =
    let two-flagged : 2 < flags c.args.proof.now = omega (arith, c.get_u16.ensures, c.if-get_u16-le2.false) in
    let room : let x = c.args.proof.now in 112 + left_length x ≤ length x = both_room c.args.proof.now c.requires two-flagged in
    let m = room in omega arith

pub slice_bounds-leads_to-end-2 : goal.slice_bounds-leads_to-end-2
unfolding left_length flags
slice_bounds-leads_to-end-2 c =
    let two-flagged : 2 < flags c.args.proof.now = omega (arith, c.get_u16.ensures, c.if-get_u16-le2.false) in
    let room : let x = c.args.proof.now in 112 + left_length x ≤ length x = both_room c.args.proof.now c.requires two-flagged in
    let m = room in omega arith

pub leads_to-requires : goal.leads_to-requires
unfolding left_length flags
leads_to-requires c =
    let two-flagged : 2 < flags c.args.proof.now = omega (arith, c.get_u16.ensures, c.if-get_u16-le2.false) in
    ap is_presence (left_part_lem _ c.args.proof.now c.get_u32.ensures) ∙ left_there c.args.proof.now c.requires two-flagged

pub returns-then-not-leads_to : goal.returns-then-not-leads_to
unfolding left_length flags
returns-then-not-leads_to c =
    let two-flagged : 2 < flags c.args.proof.now = omega (arith, c.get_u16.ensures, c.if-get_u16-le2.false) in
    let x = c.args.proof.now in
    let two = two-flagged in
    let l = sym c.if-not-leads_to.true ∙ c.leads_to.ensures ∙ ap (leads (hash_bytes c.args.root)) (left_part_lem _ x c.get_u32.ensures) in
    record {
      lone = λ k. absurd (omega (arith, two, k));
      leftward = λ k. l;
      rightward = λ k e. absurd (never refl e);
    }

pub slice_bounds-leads_to-count-3 : goal.slice_bounds-leads_to-count-3
unfolding left_length flags
slice_bounds-leads_to-count-3 c =
    let two-flagged : 2 < flags c.args.proof.now = omega (arith, c.get_u16.ensures, c.if-get_u16-le2.false) in
    let room : let x = c.args.proof.now in 112 + left_length x ≤ length x = both_room c.args.proof.now c.requires two-flagged in
    let m = room in omega arith

pub slice_bounds-leads_to-start-3 : goal.slice_bounds-leads_to-start-3
unfolding left_length flags
slice_bounds-leads_to-start-3 c =
    let two-flagged : 2 < flags c.args.proof.now = omega (arith, c.get_u16.ensures, c.if-get_u16-le2.false) in
    let room : let x = c.args.proof.now in 112 + left_length x ≤ length x = both_room c.args.proof.now c.requires two-flagged in
    let m = room in omega arith

pub leads_to-right-requires : goal.leads_to-right-requires
unfolding left_length flags
leads_to-right-requires c =
    let two-flagged : 2 < flags c.args.proof.now = omega (arith, c.get_u16.ensures, c.if-get_u16-le2.false) in
    ap is_presence (right_part_lem _ c.args.proof.now c.get_u32.ensures) ∙ right_there c.args.proof.now c.requires two-flagged

pub returns : goal.returns
unfolding left_length flags
returns c =
    let two-flagged : 2 < flags c.args.proof.now = omega (arith, c.get_u16.ensures, c.if-get_u16-le2.false) in
    let x = c.args.proof.now in
    let two = two-flagged in
    let l = sym c.if-not-leads_to.false ∙ c.leads_to.ensures ∙ ap (leads (hash_bytes c.args.root)) (left_part_lem _ x c.get_u32.ensures) in
    record {
      lone = λ k. absurd (omega (arith, two, k));
      leftward = λ k. l;
      rightward = λ k g. c.leads_to-right.ensures ∙ ap (leads (hash_bytes c.args.root)) (right_part_lem _ x c.get_u32.ensures);
    }
