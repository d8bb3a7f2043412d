-- Document 02, request 2026-12: what a forged proof would cost, over any bytes. Assumes nothing.
use Rattle.std.specs.Prelude.{ℕ, ◌≡◌, length}
use Rattle.terms.specs.declared.Form.TheVariants.{Counted as counted}
use Rattle.terms.specs.Bits.{Bytes}
use Rattle.meaning.specs.Calls.{Answer, refused}
use Rattle.meaning.specs.Answers.{Exports}
use Rattle.sha256.specs.Sha256.{sha256}
use Rattle.layout.specs.Stores.{store_of}
use Rattle.promises.specs.Check.{Checked}
use Rattle.promises.specs.Calls.{SoundBytes}
use Rattle.forgery.specs.Finding.{Finding}
use Rattle.finding_rules.specs.Call.{FoundIn, finding_bytes}

-- The call on the bytes x as a proof for the key k in version v of the bytes s gives this answer.
pub data Answers (s : Bytes) (v : ℕ) (k x : Bytes) : Answer Finding → Type 0 where
  -- 12: the key isn't 32 bytes
  wrong_key : (length k ≡ 32 → ⊥) → Answers s v k x (refused 12)
  -- 1, 2 or 3, as check
  wrong_store : {m : ℕ} → length k ≡ 32 → Checked counted s m → (m ≡ 0 → ⊥) → Answers s v k x (refused m)
  -- else by the version, and then by the proof
  sound_store : {a : Answer Finding} → length k ≡ 32 → SoundBytes s → FoundIn sha256 (store_of s) v k x a →
      Answers s v k x a

-- The call answers r, and the array f for what is found is left as g.
abbrev pub Finds : Bytes → ℕ → Bytes → Bytes → Bytes → ℕ → Bytes → Type 0
Finds s v k x f r g = Exports (Answers s v k x) finding_bytes f r g
