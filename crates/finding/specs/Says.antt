-- Document 01, 'Forms to follow': what the code's answer says, and the root of a version. No public promise reaches
-- this file. Assumes nothing.
use Rattle.std.specs.Prelude.{ℕ, Result}
use Rattle.terms.specs.Bits.{Bytes}
use Rattle.meaning.specs.Calls.{Answer}
use Rattle.sha256.specs.Sha256.{sha256}
use Rattle.layout.specs.Stores.{store_of}
use Rattle.forgery.specs.Finding.{Finding}
use Rattle.forged_nodes.specs.Nodes.{named_says}
use Rattle.finding_rules.specs.Reading.{version_root}
use Rattle.forged_nodes.specs.declared.Named.{Named}
use Rattle.refusal_numbers.specs.Refusals.{answer_of}
use Rattle.refusal_numbers.specs.declared.Refusal.{Refusal}

-- What the answer says.
abbrev pub found_says : Result Named Refusal → Answer Finding
found_says = answer_of named_says

-- The root of a version of the store that bytes hold.
abbrev pub root_at : Bytes → ℕ → Bytes
root_at s v = version_root sha256 (store_of s) v
