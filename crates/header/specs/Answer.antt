-- What each case of an answer says, in numbers and values. Assumes nothing.
use Rattle.std.specs.Prelude.{Result, Ok, Err}
use Rattle.layout.specs.Headers.{Headed, refusal, header}
use Rattle.refusal_numbers.specs.Refusals.{number}
use Rattle.refusal_numbers.specs.declared.Refusal.{Refusal}
use Rattle.header.specs.declared.Header.{Header}

-- What the answer of reading a header says.
unfoldable pub header_says : Result Header Refusal → Headed
header_says (Ok h) = header h.capacity h.oldest h.latest
header_says (Err r) = refusal (number r)
