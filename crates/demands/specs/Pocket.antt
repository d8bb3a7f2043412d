-- Document 02, 2026-14: the pocket prover and check beside the full ones, over the contracts. Assumes nothing.
use Rattle.std.specs.Prelude.{ℕ, ◌≤◌, ◌≡◌, ◌↔◌, length, take}
use Rattle.terms.specs.Bits.{Bytes}
use Rattle.terms.specs.Fields.{num}
use Rattle.meaning.specs.Reading.{answer_of}
use Rattle.meaning.specs.Answers.{found_bytes}
use Rattle.refusals.specs.Tables.{OutsidePocket, ProvedOutside}
use Rattle.contracts.specs.Contracts.{ReadsRoot, Proves, Verifies, PocketProves, PocketVerifies}
use Rattle.demands.specs.Claims.{grants_of_version, SameOutcome}

-- The bytes x checked as a proof for key k against a root, by the pocket check and by the full one.
pub record BesideTheFullCheck (root k x : Bytes) : Type 0 where
  pub inside : {f g g₁ : Bytes} {r r₁ : ℕ} → (OutsidePocket x → ⊥) → PocketVerifies root k x f r g →
      Verifies root k x f r₁ g₁ → (r ≡ r₁) × (g ≡ g₁)
  pub nineteen : {f g : Bytes} {r : ℕ} → PocketVerifies root k x f r g →
      (r ≡ 19) ↔ ((length root ≡ 32) × (length k ≡ 32) × OutsidePocket x)
  pub accepted : {f g g₁ : Bytes} {r₁ : ℕ} → PocketVerifies root k x f 0 g → Verifies root k x f r₁ g₁ →
      (r₁ ≡ 0) × (g ≡ g₁)
  pub short : {f g : Bytes} → PocketVerifies root k x f 0 g → length x ≤ 2296

-- The key k proved in version v of the bytes s, by the pocket prover and by the full one.
pub record BesideTheFullProver (s : Bytes) (v : ℕ) (k : Bytes) : Type 0 where
  pub inside : (ProvedOutside s v k → ⊥) → SameOutcome (PocketProves s v k) (Proves s v k)
  pub given : {room f t t₁ g g₁ : Bytes} {r₁ : ℕ} → PocketProves s v k room f 0 t g → Proves s v k room f r₁ t₁ g₁ →
      (r₁ ≡ 0) × (t ≡ t₁) × (g ≡ g₁)
  pub short : {room f t g : Bytes} → PocketProves s v k room f 0 t g → num g ≤ 2296

-- The key k proved in a kept version v of a sound store that holds a grant.
pub record PocketShown (s : Bytes) (v : ℕ) (k : Bytes) : Type 0 where
  pub nineteen : {room f t g : Bytes} {r : ℕ} → PocketProves s v k room f r t g → (r ≡ 19) ↔ ProvedOutside s v k
  pub room : {room f t g : Bytes} {r : ℕ} → (ProvedOutside s v k → ⊥) → 2296 ≤ length room →
      PocketProves s v k room f r t g → r ≡ 0
  pub checked : {room f t g f₁ root f₂ found : Bytes} {r₁ r₂ : ℕ} → PocketProves s v k room f 0 t g →
      ReadsRoot s v f₁ r₁ root → PocketVerifies root k (take (num g) t) f₂ r₂ found →
      (r₁ ≡ 0) × (r₂ ≡ 0) × (found ≡ found_bytes (answer_of k (grants_of_version s v)))
