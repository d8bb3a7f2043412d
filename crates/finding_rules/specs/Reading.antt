-- What the call answers by reading the bytes, test after test, as the functions of the code promise it to each other.
-- No public promise reaches this file. Assumes nothing.
use Rattle.std.specs.Prelude.{ℕ, Bool, true, false, cond, List, [], ◌∷◌}
use Rattle.std.proofs.Math.Option.{Option, none, some}
use Rattle.terms.specs.Bits.{Bytes}
use Rattle.terms.specs.Records.{Grant, Proof, Store}
use Rattle.meaning.specs.Tree.{hash, unversioned, grants_in}
use Rattle.meaning.specs.Store.{tree_at_version}
use Rattle.meaning.specs.Calls.{Answer, refused, accepted, is_kept}
use Rattle.meaning.specs.Reading.{Verdict}
use Rattle.meaning.specs.Checking.{checked}
use Rattle.forgery.specs.Messages.{leaf_hash, inner_hash}
use Rattle.forgery.specs.Finding.{Finding, finding}

-- There is no grant.
abbrev pub no_grant : List Grant → Bool
no_grant [] = true
no_grant (g ∷ gs) = false

module _ (H : Bytes → Bytes) where
  -- The root of a version: the hash of its tree.
  abbrev pub version_root : Store → ℕ → Bytes
  version_root st v = hash (leaf_hash H) (inner_hash H) (unversioned (tree_at_version st v))

  -- What is found of a proof that the checker accepts; else its refusal.
  abbrev pub found_of : Store → ℕ → Proof → Answer Verdict → Answer Finding
  found_of st v p (refused n) = refused n
  found_of st v p (accepted a) = accepted (finding H st v p)

  -- 10 if there is no proof in form; 11 if it doesn't hold against the version's root.
  abbrev pub found_against : Store → ℕ → Bytes → Option Proof → Answer Finding
  found_against st v k none = refused 10
  found_against st v k (some p) = found_of st v p (checked (leaf_hash H) (inner_hash H) (version_root st v) k p)

  -- 8 if the version isn't kept; 14 if it holds no grant; then 10, 11, or what is found.
  unfoldable pub finds : ℕ → Bytes → Option Proof → Store → Answer Finding
  finds v k o st =
      cond (is_kept st v)
      (cond (no_grant (grants_in (tree_at_version st v))) (refused 14) (found_against st v k o))
      (refused 8)
