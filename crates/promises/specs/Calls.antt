-- Document 01, 'Numbers of refusal': a call that tests soundness, over any bytes: 1, 2, 3, its own. Assumes nothing.
use Rattle.std.specs.Prelude.{ℕ, ◌≡◌}
use Rattle.terms.specs.declared.Form.{Form}
use Rattle.terms.specs.declared.Form.TheVariants.{Counted as counted}
use Rattle.terms.specs.Bits.{Bytes}
use Rattle.terms.specs.Records.{Store}
use Rattle.meaning.specs.Sound.{Sound}
use Rattle.meaning.specs.Calls.{Answer, refused, accepted, Result}
use Rattle.nodehash.specs.Node.{leaf_hash, inner_hash}
use Rattle.layout.specs.Headers.{header, header_of}
use Rattle.layout.specs.Stores.{store_in, store_bytes}
use Rattle.promises.specs.Check.{Checked}

-- Bytes of a form hold a sound store: size and header are right, and the store is sound.
pub record SoundIn (f : Form) (s : Bytes) : Type 0 where
  pub capacity : ℕ
  pub oldest : ℕ
  pub latest : ℕ
  pub headed : header_of f s ≡ header capacity oldest latest
  pub sound : Sound leaf_hash inner_hash (store_in f s)

abbrev pub SoundBytes : Bytes → Type 0
SoundBytes s = SoundIn counted s

-- The call on the bytes s gives this answer and leaves these bytes.
pub data Does {A : Type 0} (call : Store → Result A) (s : Bytes) : Answer A → Bytes → Type 0 where
  -- 1, 2 or 3, as check answers; nothing is written
  not_checked : {m : ℕ} → Checked counted s m → (m ≡ 0 → ⊥) → Does call s (refused m) s
  -- the store is sound, and the call is refused; nothing is written
  refuses : {m : ℕ} → SoundBytes s → (call (store_in counted s)).answer ≡ refused m → Does call s (refused m) s
  -- else the answer, and the bytes are those of the store that the call leaves
  accepts : {a : A} → SoundBytes s → (call (store_in counted s)).answer ≡ accepted a →
      Does call s (accepted a) (store_bytes (call (store_in counted s)).store)
