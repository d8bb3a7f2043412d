-- Documents 01 and 02: a read tests the header before anything else. Assumes nothing.
use Rattle.std.specs.Prelude.{ℕ, Bool, List, length, eqb}
use Rattle.terms.specs.declared.Form.TheVariants.{Counted as counted}
use Rattle.terms.specs.Bits.{Bytes}
use Rattle.meaning.specs.Calls.{Answer, refused}
use Rattle.layout.specs.Sizes.{room_of}
use Rattle.layout.specs.Headers.{Headed, refusal, header}

-- A read tests the header: 1 or 2, else what it answers of the store.
abbrev pub by_header : {A : Type 0} → Headed → Answer A → Answer A
by_header (refusal n) a = refused n
by_header (header n oldest latest) a = a

-- Document 02, 2026-05: the test of a table lent with a store, as the code makes it.
unfoldable pub as_many : Bytes → List ℕ → Bool
as_many s table = eqb (length table) (room_of counted (length s))
