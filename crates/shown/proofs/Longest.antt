-- The longest proofs there are, with hashes as names: of keys that differ in their last bits only (M10) the paths have 256 steps, so a proof
-- has 8,520 or 17,080 bytes. Computed. Assumes nothing.
use Prim.Native.Nat.{ℕ}
use mathlib.Core.Path.{◌≡◌, refl}
use mathlib.Core.List.{List, [], ◌∷◌, map}
use lib.ListN.{replicate}
use Rattle.terms.specs.Bits.{Bytes}
use Rattle.terms.specs.Records.{Grant, grant, Proof}
use Rattle.meaning.specs.Tree.{tree_of}
use Rattle.meaning.specs.Calls.{Answer, refused, accepted}
use Rattle.meaning.specs.Proving.{prove_seen, proof_length}
use Rattle.meaning.specs.Desk.{key_of}
use Rattle.meaning.specs.Computed.{computed}
use Rattle.shown.proofs.Views.{viewed}

abbrev length_of : Answer Proof → ℕ
length_of (refused n) = 0
length_of (accepted p) = proof_length p

-- grants with zero keys but for the last byte
abbrev ending : List ℕ → List Grant
ending ns = map (λ n. grant (key_of 0 n) (replicate 32 n)) ns

module _ (leaf_hash inner_hash : Bytes → Bytes → Bytes) where
  abbrev length_in : List ℕ → ℕ → ℕ
  length_in ns n = length_of (prove_seen (key_of 0 n) (viewed leaf_hash inner_hash (tree_of (ending ns))))

  pub longest : length_in (0 ∷ 1 ∷ []) 1 ∷ length_in (0 ∷ 1 ∷ 6 ∷ 7 ∷ []) 2 ∷ [] ≡ 8520 ∷ 17080 ∷ []
  unfolding computed
  longest = refl
