-- `changes_kept::changes_kept` meets its contract: visits and room are tested in this order, then the list is written. Assumes nothing.
use native.Mathlib.Omega.{arith}
use mathlib.Core.Path.{subst}
use mathlib.Core.Bool.{false, true}
use Rattle.terms.specs.Bits.{Byte}
use Rattle.terms.proofs.Lists.{all_of}
use Rattle.changes_walk.specs.Walk.{WalkSays}
use Rattle.changes_kept.proofs.Answers.{sound_size, may_count, limit_passed, list_small, list_too_long, may_write, list_written}
use Rattle.changes_kept.proofs.changes_kept.Goals as goal

pub root_top-old-requires : goal.root_top-old-requires
root_top-old-requires c = (sound_size c.requires.0, c.top-top.ensures)

pub root_top-new-requires : goal.root_top-new-requires
root_top-new-requires c = (sound_size c.requires.0, c.top-top.ensures)

pub walk-requires : goal.walk-requires
walk-requires c =
    let a = c.args in
    let (w, f, g) = c.requires in
    let s = a.store.now in
    may_count w a.first a.second a.limit a.room.now f g
    c.top-top.ensures c.root_top-old.ensures c.root_top-new.ensures
    (omega (arith, c.ranges.first.fits))

pub returns-in_default : goal.returns-in_default
returns-in_default c =
    let a = c.args in
    let (w, f, g) = c.requires in
    let s = a.store.now in
    let x = c.walk.new.room in
    let q = subst (λ z. WalkSays s c.top-top.result c.root_top-old.result c.root_top-new.result a.limit false a.room.now 0 z x) c.in_default.is c.walk.ensures in
    limit_passed w a.first a.second a.limit a.room.now f g
    c.top-top.ensures c.root_top-old.ensures c.root_top-new.ensures x q

pub returns-then-room-n : goal.returns-then-room-n
returns-then-room-n c =
    let a = c.args in
    let (w, f, g) = c.requires in
    let s = a.store.now in
    let x = c.walk.new.room in
    let q = subst (λ z. WalkSays s c.top-top.result c.root_top-old.result c.root_top-new.result a.limit false a.room.now 0 z x) c.in-Done.is c.walk.ensures in
    list_too_long w a.first a.second a.limit a.room.now f g
    c.top-top.ensures c.root_top-old.ensures c.root_top-new.ensures
    c.in-Done.budget c.in-Done.n x q c.if-room-n.true

pub walk-requires-2 : goal.walk-requires-2
walk-requires-2 c =
    let a = c.args in
    let (w, f, g) = c.requires in
    let s = a.store.now in
    let x = c.walk.new.room in
    let q = subst (λ z. WalkSays s c.top-top.result c.root_top-old.result c.root_top-new.result a.limit false a.room.now 0 z x) c.in-Done.is c.walk.ensures in
    may_write w a.first a.second a.limit a.room.now f g
    c.top-top.ensures c.root_top-old.ensures c.root_top-new.ensures
    c.in-Done.budget c.in-Done.n x q (λ h. omega (arith, h, c.if-room-n.false)) (omega (arith, c.ranges.first.fits))

pub overflow_cast-many : goal.overflow_cast-many
overflow_cast-many c =
    let a = c.args in
    let (w, f, g) = c.requires in
    let s = a.store.now in
    let x = c.walk.new.room in
    let q = subst (λ z. WalkSays s c.top-top.result c.root_top-old.result c.root_top-new.result a.limit false a.room.now 0 z x) c.in-Done.is c.walk.ensures in
    omega (
      arith,
      list_small w a.first a.second a.limit a.room.now f g
          c.top-top.ensures c.root_top-old.ensures c.root_top-new.ensures
          c.in-Done.budget c.in-Done.n x q,
    )

pub returns : goal.returns
returns c =
    let a = c.args in
    let (w, f, g) = c.requires in
    let s = a.store.now in
    let x = c.walk.new.room in
    let q = subst (λ z. WalkSays s c.top-top.result c.root_top-old.result c.root_top-new.result a.limit false a.room.now 0 z x) c.in-Done.is c.walk.ensures in
    list_written w a.first a.second a.limit a.room.now f g
    c.top-top.ensures c.root_top-old.ensures c.root_top-new.ensures
    c.in-Done.budget c.in-Done.n x q (λ h. omega (arith, h, c.if-room-n.false)) (omega (arith, c.ranges.first.fits)) c.walk-2.result _ c.walk-2.ensures
    (all_of Byte s 0 (λ i _. omega (arith, c.shared_slice_known-1.given i)))
