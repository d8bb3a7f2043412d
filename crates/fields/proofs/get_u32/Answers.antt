-- `fields::get_u32` meets its contract: a field of four bytes is the sum that the library makes. Assumes nothing.
use native.Mathlib.Omega.{arith}
use Rattle.fields.proofs.Bytes.{field_four}
use borrow.Author.Rules.{rules}
use Rattle.fields.proofs.get_u32.Goals as goal

pub returns : goal.returns
returns c = let a = c.args in omega (arith, c.from_le_bytes.ensures, field_four a.at a.s.now (search rules))
