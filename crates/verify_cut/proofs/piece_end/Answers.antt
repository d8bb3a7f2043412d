-- `verify_cut::piece_end` meets its contract. There is a length, it counts itself, and there are that many bytes. Assumes nothing.
use native.Mathlib.Omega.{arith}
use Rattle.verify_cut.proofs.Ends.{end_short, end_small, end_over, end_there}
use Rattle.verify_cut.proofs.piece_end.Goals as goal

pub returns-then-rest-lt4 : goal.returns-then-rest-lt4
returns-then-rest-lt4 c = let a = c.args in end_short a.p.now a.a (omega arith)

pub returns-then-l-lt4 : goal.returns-then-l-lt4
returns-then-l-lt4 c =
    let a = c.args in
    end_small a.p.now a.a _ (omega arith) (omega arith) c.get_u32-l.ensures (omega arith)

pub returns-then-rest-l : goal.returns-then-rest-l
returns-then-rest-l c =
    let a = c.args in
    end_over a.p.now a.a _ (omega arith) (omega arith) c.get_u32-l.ensures (omega arith) (omega arith)

pub returns : goal.returns
returns c =
    let a = c.args in
    end_there a.p.now a.a _ (omega arith) (omega arith) c.get_u32-l.ensures (omega arith) (omega arith)
