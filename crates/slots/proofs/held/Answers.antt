-- `slots::held` meets its contract: place, version and retired-since are the fields of the head. Assumes nothing.
use mathlib.Core.Path.{refl, ap, ◌∙◌}
use native.Mathlib.Omega.{arith}
use lib.ListN.{take, drop}
use Rattle.terms.specs.Bits.{bits, none_set}
use Rattle.terms.specs.Fields.{slice}
use Rattle.terms.proofs.Fields.{length_slice}
use Rattle.layout.specs.Slots.{count_in, place_in, record_in}
use Rattle.slots.specs.Answer.{record_says}
use Rattle.slots.proofs.held.Goals as goal

pub place_at-place-requires : goal.place_at-place-requires
unfolding count_in slice
place_at-place-requires c =
    let s = c.args.s.now in
    let e = c.get_u16-count.ensures in
    (length_slice 8 32 s (omega arith), omega arith, ap (λ n. none_set (drop n (bits (take 32 (drop 8 s))))) e ∙ c.requires.2)

pub returns : goal.returns
unfolding record_says record_in place_in count_in slice
returns c =
    let p = c.place_at-place.ensures in
    let n = c.get_u16-count.ensures in
    record {
      made = record { kind = refl; proper = p.proper };
      says = λ b. rw (p.place, n, c.get_u32-version.ensures, c.get_u32-retired.ensures);
    }
