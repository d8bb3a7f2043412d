-- `fields::put_u32` meets its contract: the bytes of the number are written at their place. Assumes nothing.
use Prim.Native.Nat.{◌+◌, ◌-◌}
use native.Mathlib.Omega.{arith}
use mathlib.Core.Path.{◌≡◌, ap, ◌∙◌}
use borrow.Rule.Slice.PartMut.{put_mid}
use Rattle.terms.specs.Fields.{le}
use Rattle.terms.proofs.Fields.{length_le}
use Rattle.fields.proofs.Bytes.{le_four}
use Rattle.fields.proofs.Written.{part_written}
use Rattle.fields.proofs.put_u32.Goals as goal

pub returns : goal.returns
returns c =
    let a = c.args in
    let e : c.copy_from_slice.new.self ≡ le 4 a.x = c.copy_from_slice.ensures.after ∙ c.to_le_bytes.ensures ∙ le_four a.x in
    ap (put_mid a.at (a.at + 4 - a.at) a.s.now) e ∙ part_written a.at (a.at + 4) (le 4 a.x) a.s.now (omega (arith, length_le 4 a.x))
