-- A read by a table as long as the store has room for slots tests the header as the plain read does; one by another is refused with 1. Assumes nothing.
use Prim.Native.Nat.{ℕ}
use mathlib.Core.Path.{◌≡◌, refl}
use mathlib.Core.Bool.{true, false}
use mathlib.Core.List.{List}
use mathlib.Core.Option.{some}
use Rattle.terms.specs.declared.Form.TheVariants.{Counted as counted}
use Rattle.terms.specs.Bits.{Bytes}
use Rattle.meaning.specs.Calls.{Answer, refused}
use Rattle.layout.specs.Headers.{header_of}
use Rattle.promises.specs.Headed.{by_header, as_many}
use Rattle.contracts.specs.Looking.{header_for}

module _ {A : Type 0} (a : Answer A) (s : Bytes) (table : List ℕ) where
  pub as_many_lem : as_many s table ≡ true → by_header (header_of counted s) a ≡ by_header (header_for s (some table)) a
  unfolding as_many
  as_many_lem e = rw e refl

  pub not_as_many : as_many s table ≡ false → refused 1 ≡ by_header (header_for s (some table)) a
  unfolding as_many
  not_as_many e = rw e refl
