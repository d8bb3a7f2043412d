-- What is refused before a store is looked at: a key or a list of another length with 12, then a table of another length with 1. Assumes nothing.
use Prim.Native.Nat.{ℕ}
use mathlib.Core.Path.{◌≡◌, refl}
use mathlib.Core.Bool.{false}
use mathlib.Core.List.{List}
use mathlib.Core.Option.{Option, some}
use lib.ListN.{length}
use borrow.Author.Tests.{eq-eqb, ne_eqb}
use Rattle.terms.specs.Bits.{Bytes}
use Rattle.meaning.specs.Calls.{refused}
use Rattle.meaning.specs.Reading.{read_root_by, read_key_by}
use Rattle.indexed.specs.Index.{by_table}
use Rattle.palette_rules.specs.Palette.{whole_keys}
use Rattle.nodehash.specs.Node.{leaf_hash, inner_hash}
use Rattle.layout.specs.Stores.{store_of}
use Rattle.promises.specs.Headed.{as_many}
use Rattle.contracts.specs.Reads.{root_answer, key_answer}
use Rattle.contracts.specs.Palettes.{palette_answer}
use Rattle.contracts.proofs.Heading.{not_as_many}

-- A key of another length is refused with 12, whatever the store is.
pub key_not_32 : (s : Bytes) (by : Option (List ℕ)) (v : ℕ) (k : Bytes) → (length k ≡ 32 → ⊥) → refused 12 ≡ key_answer s by v k
unfolding key_answer
key_not_32 s by v k f = rw (ne_eqb (length k) 32 f)

-- A list that isn't 0 to 256 whole keys is refused with 12, whatever the store is.
pub list_torn : (s : Bytes) (by : Option (List ℕ)) (v : ℕ) (ks : Bytes) (room : ℕ) → whole_keys ks ≡ false → refused 12 ≡ palette_answer s by v ks room
unfolding palette_answer
list_torn s by v ks room f = rw f refl

-- A root read and a key read by a table of another length are refused with 1, the key's after 12.
module _ (s : Bytes) (table : List ℕ) (v : ℕ) where
  pub root_not_as_many : as_many s table ≡ false → refused 1 ≡ root_answer s (some table) v
  unfolding root_answer
  root_not_as_many e = not_as_many (read_root_by leaf_hash inner_hash (by_table table (store_of s)) (store_of s) v) s table e

  pub key_not_as_many : (k : Bytes) → length k ≡ 32 → as_many s table ≡ false → refused 1 ≡ key_answer s (some table) v k
  unfolding key_answer
  key_not_as_many k whole e =
      rw (eq-eqb (length k) 32 whole) (not_as_many (read_key_by (by_table table (store_of s)) (store_of s) v k) s table e)
