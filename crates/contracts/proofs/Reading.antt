-- What the two reads answer on a sound store. From the definitions' own theorems, through the bytes. Assumes nothing.
use Prim.Native.Nat.{ℕ}
use mathlib.Core.Path.{◌≡◌, ap, sym, ◌∙◌}
use mathlib.Core.Logic.{◌↔◌}
use mathlib.Core.List.{[]}
use mathlib.Core.Option.{none}
use lib.ListN.{length}
use borrow.Author.Tests.{eq-eqb}
use Rattle.terms.specs.declared.Form.TheVariants.{Counted as counted}
use Rattle.terms.specs.Bits.{Bytes, Whole32}
use Rattle.terms.specs.Records.{grant}
use Rattle.meaning.specs.Tree.{grants, hash, unversioned, grants_in}
use Rattle.meaning.specs.Store.{tree_at_version}
use Rattle.meaning.specs.Sound.{Sound, Kept}
use Rattle.meaning.specs.Calls.{accepted}
use Rattle.meaning.specs.Reading.{present, answer_of, read_key, read_root}
use Rattle.shown.proofs.Standing.{version_seated}
use Rattle.shown.proofs.Verdicts.{accepted_same}
use Rattle.shown.proofs.Theorems.{root_read_is_hash, key_read_is_answer}
use Rattle.nodehash.specs.Node.{leaf_hash, inner_hash}
use Rattle.layout.specs.Headers.{header, header_of}
use Rattle.layout.specs.Stores.{store_of}
use Rattle.contracts.specs.Reads.{root_answer, key_answer}
use Rattle.contracts.proofs.Granted.{Among, answered_among, among_answered}

-- Bytes with a right header that hold a sound store, and a kept version:
module _ (s : Bytes) {n o l : ℕ} (right : header_of counted s ≡ header n o l) (ok : Sound leaf_hash inner_hash (store_of s)) (v : ℕ)
    (kept : Kept (store_of s) v) where
  -- The root read answers the hash of the version's tree.
  pub root_read_of_sound : root_answer s none v ≡ accepted (hash leaf_hash inner_hash (unversioned (tree_at_version (store_of s) v)))
  unfolding root_answer read_root
  root_read_of_sound = rw right (root_read_is_hash leaf_hash inner_hash (store_of s) ok v kept)

  -- The key read answers what the version's grants say of the key.
  pub key_read_of_sound : (k : Bytes) → Whole32 k → key_answer s none v k ≡ accepted (answer_of k (grants_in (tree_at_version (store_of s) v)))
  unfolding key_answer read_key
  key_read_of_sound k whole = rw (right, eq-eqb (length k) 32 whole.0) (key_read_is_answer leaf_hash inner_hash (store_of s) ok v kept k whole)

  -- So it answers a value exactly if the version's tree has the key with that value.
  pub value_exactly_if_granted : (k x : Bytes) → Whole32 k →
      (key_answer s none v k ≡ accepted (present x)) ↔ Among (grant k x) (grants_in (tree_at_version (store_of s) v))
  value_exactly_if_granted k x whole =
      let t = unversioned (tree_at_version (store_of s) v) in
      let seated = version_seated leaf_hash inner_hash (store_of s) ok v kept in (
        λ e. answered_among k x (grants t) (accepted_same _ _ (sym (key_read_of_sound k whole) ∙ e)),
        λ m. key_read_of_sound k whole ∙ ap accepted (among_answered k x [] t seated m),
      )
