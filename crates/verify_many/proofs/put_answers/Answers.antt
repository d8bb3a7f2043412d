-- `verify_many::put_answers` meets its contract. One answer more is written with each turn. Assumes nothing.
use Prim.Native.Nat.{◌<◌}
use native.Mathlib.Omega.{arith}
use mathlib.Core.Path.{refl, ◌≡◌, ap₂, subst, ◌∙◌}
use lib.ListN.{length, length-take, length-drop}
use Rattle.verify_rows.specs.Rows.{answer_bytes}
use Rattle.verify_rules.specs.Reading.{verified}
use Rattle.hash.specs.Hash.{hash_bytes}
use Rattle.terms.specs.Bits.{Bytes}
use Rattle.verify_cut.proofs.Ends.{end_some}
use Rattle.verify_cut.specs.Row.{PieceEnd}
use Rattle.verify_many.proofs.Writing.{part_long, written_none, written_begins, key_part_lem, written_more, written_all}
use Rattle.verify_cut.proofs.Plans.{part_is}
use Rattle.verify_many.proofs.put_answers.Goals as goal

pub loop-i-init : goal.loop-i-init
loop-i-init c = written_none _ _ _ _ _ c.requires.3

pub piece_end-requires : goal.piece_end-requires
piece_end-requires c = c.loop-i.invariant.within

pub unwrap-e-requires : goal.unwrap-e-requires
unwrap-e-requires c =
    let a = c.args in
    end_some a.p.now c.loop-i.a _ c.piece_end.ensures (written_begins _ _ a.p.now _ a.n _ c.loop-i.a c.loop-i.i c.loop-i.invariant (omega arith))

pub bounds-good-d : goal.bounds-good-d
bounds-good-d c = omega (arith, (c.requires.4 c.loop-i.i (omega arith)).low)

pub overflow_add-d : goal.overflow_add-d
overflow_add-d c = omega (arith, (c.requires.4 c.loop-i.i (omega arith)).low)

pub bounds-good-d-in-loop-i : goal.bounds-good-d-in-loop-i
bounds-good-d-in-loop-i c = omega (arith, (c.requires.4 c.loop-i.i (omega arith)).low)

pub slice_bounds-answer_one-count-in-loop-i : goal.slice_bounds-answer_one-count-in-loop-i
slice_bounds-answer_one-count-in-loop-i c =
    let a = c.args in
    let e = (subst (PieceEnd a.p.now c.loop-i.a) c.unwrap-e.ensures c.piece_end.ensures).1 in
    omega arith

pub slice_bounds-answer_one-start-in-loop-i : goal.slice_bounds-answer_one-start-in-loop-i
slice_bounds-answer_one-start-in-loop-i c =
    let a = c.args in
    let e = (subst (PieceEnd a.p.now c.loop-i.a) c.unwrap-e.ensures c.piece_end.ensures).1 in
    omega arith

pub slice_bounds-answer_one-end-in-loop-i : goal.slice_bounds-answer_one-end-in-loop-i
slice_bounds-answer_one-end-in-loop-i c =
    let a = c.args in
    let e = (subst (PieceEnd a.p.now c.loop-i.a) c.unwrap-e.ensures c.piece_end.ensures).2 in
    omega arith

pub answer_one-requires : goal.answer_one-requires
answer_one-requires c =
    let a = c.args in
    let e = (subst (PieceEnd a.p.now c.loop-i.a) c.unwrap-e.ensures c.piece_end.ensures).1 in
    let k = (c.requires.4 c.loop-i.i (omega arith)).leading in
    (simp (length-take, length-drop) (omega arith), simp (length-take, length-drop) (omega (arith, c.loop-i.invariant.same)), rw (part_is a.p.now c.loop-i.a _ e, c.loop-i.invariant.start) k)

pub loop-i-preserved : goal.loop-i-preserved
loop-i-preserved c =
    let a = c.args in
    let i = c.loop-i.i in
    let root = hash_bytes a.root in
    let lt : i < a.n = c.loop-i-test.true in
    let y = c.answer_one in
    let e = (subst (PieceEnd a.p.now c.loop-i.a) c.unwrap-e.ensures c.piece_end.ensures).1 in
    let z = y.ensures ∙ ap₂ (λ (k x : Bytes). answer_bytes (verified root k x)) (key_part_lem a.keys.now i) (part_is a.p.now c.loop-i.a _ e) in
    let l : length y.new.out ≡ 34 = y.auto.out ∙ part_long i a.n c.loop-i.out a.out.now lt c.requires.2 c.loop-i.invariant.same in
    rw e (written_more root a.keys.now a.p.now a.out.now a.n c.loop-i.out c.loop-i.a i c.loop-i.invariant lt c.requires.2 y.new.out _ z l refl)

pub shape_of-out : goal.shape_of-out
shape_of-out c = c.loop-i.invariant.same

pub returns : goal.returns
returns c =
    let a = c.args in
    written_all (hash_bytes a.root) a.keys.now a.p.now _ a.n _ c.loop-i.a c.loop-i.i c.loop-i.invariant (omega arith)
