-- The eight bytes of the number are written, and nothing else.
-- Assumes nothing.
use Prim.Native.Nat.{◌+◌, ◌-◌}
use mathlib.Core.Path.{◌≡◌, ap, ◌∙◌}
use borrow.Rule.Slice.PartMut.{put_mid}
use Rattle.hash.specs.BigEndian.{big}
use Rattle.hash.proofs.Laws.{big_eight, part_put}
use Rattle.hash.proofs.put_number.Goals as goal

pub returns : goal.returns
returns c =
    let a = c.args in
    let e : c.copy_from_slice.new.self ≡ big 8 a.x = c.copy_from_slice.ensures.after ∙ c.to_be_bytes.ensures ∙ big_eight a.x in
    ap (put_mid a.at (a.at + 8 - a.at) a.s.now) e ∙ part_put a.at (big 8 a.x) a.s.now
