-- What an accepted move is worth, in the words of document 02, request 2026-10. Assumes nothing.
use Rattle.std.specs.Prelude.{ℕ, ◌≡◌, length}
use Rattle.terms.specs.declared.Form.{Form}
use Rattle.terms.specs.Bits.{Bytes}
use Rattle.terms.specs.Records.{Tally, Record, Store}
use Rattle.meaning.specs.Store.{tree_at_version}
use Rattle.meaning.specs.Reading.{read_key, read_root}
use Rattle.meaning.specs.Proving.{proof}
use Rattle.changed.specs.Compare.{compare}
use Rattle.moved.specs.Moving.{recounted}
use Rattle.nodehash.specs.Node.{leaf_hash, inner_hash}
use Rattle.layout.specs.Stores.{store_in, store_bytes}
use Rattle.promises.specs.Calls.{SoundIn}
use Rattle.move_rules.specs.Moves.{other, Moves}

-- Two stores of the same kept versions that answer alike.
pub record Alike (st st' : Store) : Type 0 where
  pub oldest : st'.oldest ≡ st.oldest
  pub latest : st'.latest ≡ st.latest
  -- slots are kept: each holds what it held, but for counts
  pub slots : (g : Record → Tally) × (st'.slots ≡ recounted g st.slots)
  -- every version has the same tree, root, reads and proofs, and the same is changed between two of them
  pub trees : (v : ℕ) → tree_at_version st' v ≡ tree_at_version st v
  pub roots : (v : ℕ) → read_root leaf_hash inner_hash st' v ≡ read_root leaf_hash inner_hash st v
  pub keys : (v : ℕ) (k : Bytes) → read_key st' v k ≡ read_key st v k
  pub proofs : (v : ℕ) (k : Bytes) → proof st' v k ≡ proof st v k
  pub comparisons : (first second limit room : ℕ) →
      (compare first second limit room st').answer ≡ (compare first second limit room st).answer

-- The source s of a form was moved, and the bytes t of the target were left.
pub record Moved (from : Form) (s t : Bytes) : Type 0 where
  pub was : SoundIn from s
  pub sound : SoundIn (other from) t
  pub bytes : t ≡ store_bytes (store_in (other from) t)
  pub alike : Alike (store_in from s) (store_in (other from) t)
  -- there and back gives the old bytes exactly, and back and there the new ones
  pub again : {old u : Bytes} {n : ℕ} → length old ≡ length s → Moves (other from) t old n u → (n ≡ 0) × (u ≡ s)
