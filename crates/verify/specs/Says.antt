-- Document 01, 'Forms to follow': what each case of the answer of the code says. No public promise reaches this file.
-- Assumes nothing.
use Rattle.std.specs.Prelude.{Option, Result, Some, None}
use Rattle.meaning.specs.Calls.{Answer}
use Rattle.meaning.specs.Reading.{Verdict, present, absent}
use Rattle.hash.specs.Hash.{hash_bytes}
use Rattle.hash.specs.declared.Hash.{Hash}
use Rattle.refusal_numbers.specs.Refusals.{answer_of}
use Rattle.refusal_numbers.specs.declared.Refusal.{Refusal}

-- What is said of a key: its value, or that it is absent.
abbrev pub verdict : Option Hash → Verdict
verdict (Some h) = present (hash_bytes h)
verdict None = absent

-- What the code's answer says.
abbrev pub says : Result (Option Hash) Refusal → Answer Verdict
says = answer_of verdict
