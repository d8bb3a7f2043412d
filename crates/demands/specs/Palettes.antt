-- Document 02, 2026-04: what a palette is beside single calls, in the words of their contracts. Assumes nothing.
use Rattle.std.specs.Prelude.{ℕ, ◌*◌, ◌≤◌, ◌<◌, ◌≡◌, ◌↔◌, List, [], ◌∷◌, ◌++◌, length, take, drop}
use Rattle.terms.specs.Bits.{Bytes}
use Rattle.terms.specs.Fields.{num, field, flat}
use Rattle.meaning.specs.Reading.{answer_of}
use Rattle.meaning.specs.Answers.{found_bytes}
use Rattle.palette_rules.specs.Palette.{keys_in}
use Rattle.contracts.specs.Contracts.{ReadsRoot, Proves, Palettes, Verifies}
use Rattle.demands.specs.Claims.{grants_of_version}

-- Single calls for keys of version v of the bytes s, one after the other, all accepted, and the proof that each gave.
pub data SingleCalls (s : Bytes) (v : ℕ) : List Bytes → List Bytes → Type 0 where
  none_asked : SingleCalls s v [] []
  then_given : {k room f t g : Bytes} {keys proofs : List Bytes} → Proves s v k room f 0 t g →
      SingleCalls s v keys proofs → SingleCalls s v (k ∷ keys) (take (num g) t ∷ proofs)

-- Single calls with room for any proof, 17,080 bytes; the first refused, in the order asked, answers n.
pub data FirstRefusal (s : Bytes) (v : ℕ) : List Bytes → ℕ → Type 0 where
  refused_here : {k room f t g : Bytes} {keys : List Bytes} {n : ℕ} → 17080 ≤ length room → (n ≡ 0 → ⊥) →
      Proves s v k room f n t g → FirstRefusal s v (k ∷ keys) n
  refused_later : {k room f t g : Bytes} {keys : List Bytes} {n : ℕ} → Proves s v k room f 0 t g →
      FirstRefusal s v keys n → FirstRefusal s v (k ∷ keys) n

-- A palette of a list of whole keys in version v of the bytes s.
pub record BesideSingleCalls (s : Bytes) (v : ℕ) (list : Bytes) : Type 0 where
  -- its bytes are those of the single calls joined; the rest of the room stays; it tells the length of all together
  pub joined : {room f t g : Bytes} {proofs : List Bytes} → Palettes s v list room f 0 t g →
      SingleCalls s v (keys_in list) proofs →
      (t ≡ flat proofs ++ drop (length (flat proofs)) room) × (num g ≡ length (flat proofs))
  pub first : {room f t g : Bytes} {r n : ℕ} → Palettes s v list room f r t g →
      FirstRefusal s v (keys_in list) n → r ≡ n
  pub fits : {room f t g : Bytes} {r : ℕ} {k : Bytes} {keys proofs : List Bytes} → Palettes s v list room f r t g →
      keys_in list ≡ k ∷ keys → SingleCalls s v (keys_in list) proofs →
      ((r ≡ 0) ↔ (length (flat proofs) ≤ length room)) × ((r ≡ 9) ↔ (length room < length (flat proofs)))

-- The proof check accepts the bytes x for key k against the version's root, and answers for the version's grants.
pub record AcceptedFor (s : Bytes) (v : ℕ) (k x : Bytes) : Type 0 where
  pub check : {f₁ root f₂ found : Bytes} {r₁ r₂ : ℕ} → ReadsRoot s v f₁ r₁ root → Verifies root k x f₂ r₂ found →
      (r₂ ≡ 0) × (found ≡ found_bytes (answer_of k (grants_of_version s v)))

-- Each for its key: proofs that stand one after the other, cut apart by their own lengths, their first four bytes.
abbrev pub EachAccepted : Bytes → ℕ → List Bytes → Bytes → Type 0
EachAccepted s v [] x = Unit {0}
EachAccepted s v (k ∷ keys) x = AcceptedFor s v k (take (field 0 4 x) x) × EachAccepted s v keys (drop (field 0 4 x) x)

-- A palette of whole keys in a kept version of a sound store that holds a grant.
pub record PaletteShown (s : Bytes) (v : ℕ) (list : Bytes) : Type 0 where
  pub given : {room f t g : Bytes} {r : ℕ} → Palettes s v list room f r t g →
      17080 * length (keys_in list) ≤ length room → r ≡ 0
  pub accepted : {room f t g : Bytes} → Palettes s v list room f 0 t g → EachAccepted s v (keys_in list) t
