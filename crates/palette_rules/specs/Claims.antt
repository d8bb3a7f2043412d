-- Document 02, request 2026-04, in words: which single calls the answer is made of. Assumes nothing.
use Rattle.std.specs.Prelude.{ℕ, ◌≡◌, ◌⊎◌, List, [], ◌∷◌}
use Rattle.terms.specs.Bits.{Bytes}
use Rattle.terms.specs.Records.{Proof}
use Rattle.meaning.specs.Calls.{Answer, refused, accepted}

-- Each key has its proof, in the order asked; a key asked for twice has it twice.
abbrev pub ProofOfEach : (Bytes → Answer Proof) → List Bytes → List Proof → Type 0
ProofOfEach single [] [] = Unit {0}
ProofOfEach single [] (p ∷ ps) = ⊥
ProofOfEach single (k ∷ keys) [] = ⊥
ProofOfEach single (k ∷ keys) (p ∷ ps) = (single k ≡ accepted p) × ProofOfEach single keys ps

-- P holds of a key of the list, and each before it, in the order asked, is given its proof.
abbrev pub FirstAsked : (Bytes → Answer Proof) → (Bytes → Type 0) → List Bytes → Type 0
FirstAsked single P [] = ⊥
FirstAsked single P (k ∷ keys) = P k ⊎ ((p : Proof) × (single k ≡ accepted p) × FirstAsked single P keys)

-- The first single call refused, in the order asked, is refused with n.
abbrev pub FirstRefused : (Bytes → Answer Proof) → List Bytes → ℕ → Type 0
FirstRefused single keys n = FirstAsked single (λ k. single k ≡ refused n) keys
