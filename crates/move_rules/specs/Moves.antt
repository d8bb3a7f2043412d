-- Document 02, 2026-10: what a move answers for any bytes of a source and a target, and what it leaves of the target.
use Rattle.std.specs.Prelude.{ℕ, ◌≡◌, true, length}
use Rattle.terms.specs.declared.Form.{Form}
use Rattle.terms.specs.declared.Form.TheVariants.{Plain as plain, Counted as counted}
use Rattle.terms.specs.Bits.{Bytes}
use Rattle.terms.specs.Records.{Store}
use Rattle.meaning.specs.Sound.{Sound}
use Rattle.moved.specs.Moving.{over, back}
use Rattle.nodehash.specs.Node.{leaf_hash, inner_hash}
use Rattle.layout.specs.Sizes.{room_of}
use Rattle.layout.specs.Headers.{refusal, header, header_of, size_right}
use Rattle.layout.specs.Stores.{store_in, store_bytes}

-- The form that a store of this form is moved into.
abbrev pub other : Form → Form
other plain = counted
other counted = plain

-- The store moved into it: over, or back.
abbrev pub moved_from : Form → Store → Store
moved_from plain st = over st
moved_from counted st = back st

-- Source and target have a store's size, each in its form, and the same capacity.
pub record SameRoom (from to : Form) (s old : Bytes) : Type 0 where
  pub source : size_right from (length s) ≡ true
  pub target : size_right to (length old) ≡ true
  pub equal : room_of from (length s) ≡ room_of to (length old)

-- Moving the source s of a form into a target with the bytes old gives this number, 0 if accepted, and leaves these.
pub data Moves (from : Form) (s old : Bytes) : ℕ → Bytes → Type 0 where
  -- 1: a source or target of wrong size; nothing is written
  wrong_size : (SameRoom from (other from) s old → ⊥) → Moves from s old 1 old
  -- 2: a wrong header of the source; nothing is written
  wrong_header : SameRoom from (other from) s old → header_of from s ≡ refusal 2 → Moves from s old 2 old
  -- 3: an unsound source; nothing is written
  not_sound : {c o l : ℕ} → SameRoom from (other from) s old → header_of from s ≡ header c o l →
      (Sound leaf_hash inner_hash (store_in from s) → ⊥) → Moves from s old 3 old
  -- else the bytes are those of the source's store, moved
  moves : {c o l : ℕ} {t : Bytes} → SameRoom from (other from) s old → header_of from s ≡ header c o l →
      Sound leaf_hash inner_hash (store_in from s) → t ≡ store_bytes (moved_from from (store_in from s)) →
      Moves from s old 0 t
