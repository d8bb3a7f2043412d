-- Document 01, 'Reading and proving', over the bytes of a store: whether a version is kept. Assumes nothing.
use Rattle.std.specs.Prelude.{ℕ, cond, Result}
use Rattle.terms.specs.declared.Form.TheVariants.{Counted as counted}
use Rattle.terms.specs.Bits.{Bytes}
use Rattle.meaning.specs.Calls.{Answer, refused, accepted, is_kept}
use Rattle.layout.specs.Headers.{header_of}
use Rattle.layout.specs.Stores.{store_of}
use Rattle.promises.specs.Headed.{by_header}
use Rattle.refusal_numbers.specs.Refusals.{answer_of}
use Rattle.refusal_numbers.specs.declared.Refusal.{Refusal}

-- What a read tests before it looks at a slot: 1, 2, and 8 where the version isn't kept.
unfoldable pub opened : Bytes → ℕ → Answer (Unit {0})
opened s v = by_header (header_of counted s) (cond (is_kept (store_of s) v) (accepted tt) (refused 8))

-- What the answer of these tests says.
abbrev pub opened_says : Result (Unit {0}) Refusal → Answer (Unit {0})
opened_says = answer_of (λ _. tt)
