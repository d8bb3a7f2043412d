-- `fields::get_u16` meets its contract: a field of two bytes is the sum that the library makes. Assumes nothing.
use native.Mathlib.Omega.{arith}
use Rattle.fields.proofs.Bytes.{field_two}
use borrow.Author.Rules.{rules}
use Rattle.fields.proofs.get_u16.Goals as goal

pub returns : goal.returns
returns c = let a = c.args in omega (arith, c.from_le_bytes.ensures, field_two a.at a.s.now (search rules))
