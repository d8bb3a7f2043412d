-- What each case of a key read's answer says, and what the walk by a key says. No public promise reaches this file.
-- Assumes nothing.
use Rattle.std.specs.Prelude.{ℕ, List, [], Option, Result, Some, None}
use Rattle.terms.specs.Bits.{Bytes}
use Rattle.meaning.specs.Calls.{Answer}
use Rattle.meaning.specs.Reading.{Verdict, present, absent, seen, walk, read_end}
use Rattle.indexed.specs.Index.{by_table}
use Rattle.hash.specs.Hash.{hash_bytes}
use Rattle.layout.specs.Stores.{store_of}
use Rattle.read_step.specs.Walk.{leaf_at}
use Rattle.hash.specs.declared.Hash.{Hash}
use Rattle.refusal_numbers.specs.Refusals.{read_answer_of}
use Rattle.refusal_numbers.specs.declared.ReadRefusal.{ReadRefusal}

-- What is said of a key: its value, or that it is absent.
abbrev pub verdict : Option Hash → Verdict
verdict (Some x) = present (hash_bytes x)
verdict None = absent

-- What each case of a key read's answer says.
unfoldable pub read_says : Result (Option Hash) ReadRefusal → Answer Verdict
read_says = read_answer_of verdict

-- What the leaf in slot i says of a key.
unfoldable pub leaf_read : ℕ → Bytes → Bytes → Answer Verdict
leaf_read i s k = read_end k (walk k 0 [] (leaf_at i s))

-- What the walk by a key says from the root of a version, by a table.
unfoldable pub walk_read : Bytes → List ℕ → ℕ → Bytes → Answer Verdict
walk_read s table v k = read_end k (walk k 0 [] (seen (by_table table (store_of s)) v))
