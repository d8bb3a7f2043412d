-- What each case of a root read's answer says. No public promise reaches this file. Assumes nothing.
use Rattle.terms.specs.Bits.{Bytes}
use Rattle.meaning.specs.Calls.{Answer}
use Rattle.hash.specs.Hash.{hash_bytes}
use Rattle.std.specs.Prelude.{Result}
use Rattle.hash.specs.declared.Hash.{Hash}
use Rattle.refusal_numbers.specs.Refusals.{read_answer_of}
use Rattle.refusal_numbers.specs.declared.ReadRefusal.{ReadRefusal}

-- What each case of a root read's answer says.
unfoldable pub root_says : Result Hash ReadRefusal → Answer Bytes
root_says = read_answer_of hash_bytes
