-- The answers of the two reads, by the case of what was tested first. Assumes nothing.
use Prim.Native.Nat.{ℕ}
use mathlib.Core.Path.{◌≡◌, ap, sym, ◌∙◌}
use mathlib.Core.Bool.{true, cond}
use mathlib.Core.List.{List, []}
use mathlib.Core.Option.{none, some}
use lib.ListN.{length}
use lib.Dec.{eqb}
use borrow.Author.Tests.{eq-eqb, ne_eqb}
use Rattle.terms.specs.declared.Form.TheVariants.{Counted as counted}
use Rattle.terms.specs.Bits.{Bytes}
use Rattle.meaning.specs.Calls.{refused, accepted}
use Rattle.meaning.specs.Reading.{root_read, read_root_by, read_key_by}
use Rattle.indexed.specs.Index.{root_by, by_table}
use Rattle.indexed.proofs.Scanned.{without_table}
use Rattle.nodehash.specs.Node.{leaf_hash, inner_hash}
use Rattle.layout.specs.Headers.{size_right, header_of}
use Rattle.layout.specs.Stores.{store_of}
use Rattle.read_open.specs.Opening.{opened}
use Rattle.read_open.proofs.Opening as opening
use Rattle.read_key.specs.Parts.{read_says, walk_read}
use Rattle.std.specs.Prelude.{Option, Result, Err}
use Rattle.hash.specs.declared.Hash.{Hash}
use Rattle.refusal_numbers.specs.Refusals.{number}
use Rattle.refusal_numbers.specs.declared.Refusal.{Refusal}
use Rattle.refusal_numbers.specs.declared.Refusal.TheVariants.{Not32Bytes}
use Rattle.refusal_numbers.specs.declared.ReadRefusal.{ReadRefusal}
use Rattle.refusal_numbers.specs.declared.ReadRefusal.TheVariants.{Plain}
use Rattle.read_root.specs.Parts.{root_says}
use Rattle.promises.specs.Headed.{by_header, as_many}
use Rattle.contracts.specs.Reads.{root_answer, key_answer}
use Rattle.contracts.proofs.Heading.{as_many_lem}
use Rattle.read.specs.Parts.{root_answer_by, key_answer_by}

-- what was tested first
module _ (s : Bytes) (v : ℕ) where
  pub size_kept : accepted tt ≡ opened s v → size_right counted (length s) ≡ true
  size_kept e = opening.kept_size s v e

  pub root_refused : (table : List ℕ) (r : Refusal) → refused (number r) ≡ opened s v → root_says (Err (Plain r)) ≡ root_answer_by s table v
  unfolding root_says root_answer_by
  root_refused table r e = opening.refused_first (root_read leaf_hash inner_hash (root_by table (store_of s) v)) s v e

  pub root_is_read : (table : List ℕ) (r : Result Hash ReadRefusal) → accepted tt ≡ opened s v → root_says r ≡ root_read leaf_hash inner_hash (root_by table (store_of s) v) → root_says r ≡ root_answer_by s table v
  unfolding root_answer_by
  root_is_read table r e f = f ∙ sym (opening.rest_decides (root_read leaf_hash inner_hash (root_by table (store_of s) v)) s v e)

  module _ (table : List ℕ) (k : Bytes) (whole : length k ≡ 32) where
    pub key_refused : (r : Refusal) → refused (number r) ≡ opened s v → read_says (Err (Plain r)) ≡ key_answer_by s table v k
    unfolding read_says key_answer_by walk_read
    key_refused r e = rw (eq-eqb (length k) 32 whole) (opening.refused_first (walk_read s table v k) s v e)

    pub key_read : (r : Result (Option Hash) ReadRefusal) → accepted tt ≡ opened s v → read_says r ≡ walk_read s table v k → read_says r ≡ key_answer_by s table v k
    unfolding key_answer_by walk_read
    key_read r e f = rw (eq-eqb (length k) 32 whole) (f ∙ sym (opening.rest_decides (walk_read s table v k) s v e))

pub key_wrong : (s : Bytes) (table : List ℕ) (v : ℕ) (k : Bytes) → (length k ≡ 32 → ⊥) → read_says (Err (Plain Not32Bytes)) ≡ key_answer_by s table v k
unfolding read_says key_answer_by
key_wrong s table v k f = rw (ne_eqb (length k) 32 f)

-- by a table without entries they are those of the scan
pub root_plain : (s : Bytes) (v : ℕ) → root_answer_by s [] v ≡ root_answer s none v
unfolding root_answer_by root_answer
root_plain s v = ap (λ look. by_header (header_of counted s) (read_root_by leaf_hash inner_hash look (store_of s) v)) (without_table (store_of s))

pub key_plain : (s : Bytes) (v : ℕ) (k : Bytes) → key_answer_by s [] v k ≡ key_answer s none v k
unfolding key_answer_by key_answer
key_plain s v k =
    ap (λ look. cond (eqb (length k) 32) (by_header (header_of counted s) (read_key_by look (store_of s) v k)) (refused 12)) (without_table (store_of s))

-- of a table as long as the capacity the read is one by a table of any length
module _ (s : Bytes) (table : List ℕ) (v : ℕ) where
  pub root_as_many : as_many s table ≡ true → root_answer_by s table v ≡ root_answer s (some table) v
  unfolding root_answer_by root_answer
  root_as_many e = as_many_lem (read_root_by leaf_hash inner_hash (by_table table (store_of s)) (store_of s) v) s table e

  pub key_as_many : (k : Bytes) → length k ≡ 32 → as_many s table ≡ true → key_answer_by s table v k ≡ key_answer s (some table) v k
  unfolding key_answer_by key_answer
  key_as_many k whole e =
      ap (λ a. cond (eqb (length k) 32) a (refused 12)) (as_many_lem (read_key_by (by_table table (store_of s)) (store_of s) v k) s table e)
