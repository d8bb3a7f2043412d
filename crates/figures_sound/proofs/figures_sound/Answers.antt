-- `figures_sound::figures_sound` meets its contract: range and room are tested in this order, then the numbers are written. Assumes nothing.
use Prim.Native.Nat.{ℕ}
use native.Mathlib.Omega.{arith}
use mathlib.Core.Path.{refl, sym, ◌∙◌}
use lib.ListN.{length-replicate}
use Rattle.terms.specs.Bits.{Byte}
use Rattle.terms.proofs.Lists.{all_of}
use Rattle.layout.specs.Stores.{store_of}
use Rattle.promises.proofs.Calls.{sound_long}
use Rattle.quarter.proofs.Theorems.{range_right_lem}
use Rattle.figures_write.proofs.Ranges.{sound_slots}
use Rattle.figures_sound.proofs.Answers.{out_of_range, no_room, front_long, part_ready, told}
use Rattle.figures_sound.proofs.figures_sound.Goals as goal

pub range_right-requires : goal.range_right-requires
range_right-requires c = sound_long c.requires

pub returns-then-not-range_right : goal.returns-then-not-range_right
returns-then-not-range_right c =
    let a = c.args in
    out_of_range c.requires a.first a.last a.room.now (sym c.range_right.ensures ∙ c.if-not-range_right.true)

pub overflow_sub-more : goal.overflow_sub-more
overflow_sub-more c =
    let a = c.args in
    let g = range_right_lem (store_of a.store.now) a.first a.last (sym c.range_right.ensures ∙ c.if-not-range_right.false) in
    omega (arith, g.ordered)

pub returns-then-room-end : goal.returns-then-room-end
returns-then-room-end c =
    let a = c.args in
    no_room c.requires a.first a.last a.room.now (sym c.range_right.ensures ∙ c.if-not-range_right.false) refl c.if-room-end.true

pub write_each-records-requires : goal.write_each-records-requires
write_each-records-requires c =
    let fits = c.if-room-end.false in
    let a = c.args in (
      part_ready c.requires a.first a.last a.room.now (sym c.range_right.ensures ∙ c.if-not-range_right.false) refl fits
          (front_long _ a.room.now fits),
      length-replicate {0} {A = ℕ} 16384 0,
    )

pub records_in-distinct-requires : goal.records_in-distinct-requires
records_in-distinct-requires c = sound_slots c.requires

pub returns : goal.returns
returns c =
    let fits = c.if-room-end.false in
    let a = c.args in
    let s = a.store.now in
    told c.requires a.first a.last a.room.now (sym c.range_right.ensures ∙ c.if-not-range_right.false) refl fits
    (all_of Byte s 0 (λ i _. omega (arith, c.shared_slice_known-1.given i)))
    c.write_each-records.ensures (c.write_each-records.auto.part ∙ front_long _ a.room.now fits) c.records_in-distinct.ensures
