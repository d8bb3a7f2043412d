-- The messages of eight nodes side by side: their first blocks, and after these the first word of each second block.
-- Assumes nothing.
use Rattle.std.specs.Prelude.{ℕ, ◌+◌, ◌<◌, ◌≡◌, List, length, get_or}
use Rattle.terms.specs.Bits.{Bytes}
use Rattle.hash.specs.declared.Hash.{Hash}
use Rattle.sha256.specs.Sha256.{H0, state_bytes}
use Rattle.sha256.specs.Rolling.{folded}
use Rattle.sha256_second_start.specs.Second.{second_block}
use Rattle.sha256_eight.specs.Lanes.{value_inside, words_in}

-- Where there is none: zeros.
abbrev pub no_hash : Hash
no_hash = record { a = 0; b = 0; c = 0; d = 0 }

-- The hash of the message in lane l.
unfoldable pub lane_hash : List ℕ → ℕ → Bytes
lane_hash x l = state_bytes (folded (folded H0 (words_in x l)) (second_block (get_or x (128 + l) 0)))

-- The hash values of eight messages before their first block, the second blocks of those in x, and the hash values
-- after both.
abbrev pub Starts : ℕ → List ℕ → Type 0
Starts n r = (i : ℕ) → i < n → value_inside r i ≡ H0

abbrev pub SecondBlocks : List ℕ → ℕ → List ℕ → Type 0
SecondBlocks x n r = (i : ℕ) → i < n → words_in r i ≡ second_block (get_or x (128 + i) 0)

abbrev pub AllHashed : List ℕ → List ℕ → Type 0
AllHashed x r = (i : ℕ) → i < 8 → state_bytes (value_inside r i) ≡ lane_hash x i

-- The hash of the message in lane i has P i, for each i below n.
abbrev pub Lanes : ℕ → (ℕ → Bytes → Type 0) → List ℕ → Type 0
Lanes n P x = (i : ℕ) → i < n → P i (lane_hash x i)

-- Lane l gets a message with this hash, and the other lanes keep theirs.
pub record Put (x y : List ℕ) (l : ℕ) (hash : Bytes) : Type 0 where
  pub long : length y ≡ length x
  pub here : lane_hash y l ≡ hash
  pub others : (i : ℕ) → i < 8 → (i ≡ l → ⊥) → lane_hash y i ≡ lane_hash x i
