-- Many proofs checked at once: beside single checks, and on what a palette gives. Assumes nothing.
use Rattle.std.specs.Prelude.{ℕ, ◌*◌, ◌≤◌, ◌≡◌, List, [], ◌∷◌, ◌++◌, map, length, take, drop}
use Rattle.terms.specs.Bits.{Bytes, All}
use Rattle.terms.specs.Fields.{num, flat, zero_bytes}
use Rattle.meaning.specs.Reading.{answer_of}
use Rattle.meaning.specs.Answers.{found_bytes}
use Rattle.palette_rules.specs.Palette.{keys_in}
use Rattle.verify_rows.specs.Rows.{Piece}
use Rattle.contracts.specs.Contracts.{ReadsRoot, ReadsKey, Palettes, Verifies, VerifiesMany}
use Rattle.demands.specs.Claims.{grants_of_version}

-- Single checks against a root, a piece for each key, each lent 33 zero bytes; and of each its number and what it left.
pub data SingleChecks (root : Bytes) : List Bytes → List Bytes → List Bytes → Type 0 where
  none_checked : SingleChecks root [] [] []
  then_checked : {k x g : Bytes} {r : ℕ} {keys pieces answers : List Bytes} → Verifies root k x (zero_bytes 33) r g →
      SingleChecks root keys pieces answers → SingleChecks root (k ∷ keys) (x ∷ pieces) ((r ∷ g) ∷ answers)

-- Many proofs of a row, accepted: the answers are those of the single checks, 34 bytes each; the rest stays.
pub record BesideSingleChecks (root list row old new : Bytes) : Type 0 where
  pub same : {pieces answers : List Bytes} → All Piece pieces → row ≡ flat pieces →
      SingleChecks root (keys_in list) pieces answers → new ≡ flat answers ++ drop (length (flat answers)) old
  pub long : {pieces answers : List Bytes} → SingleChecks root (keys_in list) pieces answers →
      length (flat answers) ≡ 34 * length (keys_in list)

-- Reads of keys in version v of the bytes s, and what each found.
pub data KeyReads (s : Bytes) (v : ℕ) : List Bytes → List Bytes → Type 0 where
  none_read : KeyReads s v [] []
  then_read : {k f g : Bytes} {r : ℕ} {keys found : List Bytes} → ReadsKey s v k f r g → KeyReads s v keys found →
      KeyReads s v (k ∷ keys) (g ∷ found)

-- 0 for each key, and what the version's grants say of it.
abbrev pub answers_for : Bytes → ℕ → List Bytes → List Bytes
answers_for s v keys = map (λ k. 0 ∷ found_bytes (answer_of k (grants_of_version s v))) keys

-- What a palette of whole keys gave, in a kept version of a sound store, checked at once against the version's root.
pub record RowShown (s : Bytes) (v : ℕ) (list : Bytes) : Type 0 where
  pub answered : {room f t g f₁ root old new : Bytes} {r₁ r : ℕ} → Palettes s v list room f 0 t g →
      ReadsRoot s v f₁ r₁ root → VerifiesMany root list (take (num g) t) old r new →
      34 * length (keys_in list) ≤ length old →
      (r ≡ 0) × (new ≡ flat (answers_for s v (keys_in list)) ++ drop (34 * length (keys_in list)) old)
  pub as_read : {found : List Bytes} → KeyReads s v (keys_in list) found →
      answers_for s v (keys_in list) ≡ map (λ g. 0 ∷ g) found
