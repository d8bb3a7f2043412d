-- Document 02, request 2026-04: proving each key of a list, over any bytes. Assumes nothing.
use Rattle.std.specs.Prelude.{ℕ, ◌≡◌, cond, List, map, length}
use Rattle.std.proofs.Math.Option.{Option, none}
use Rattle.terms.specs.Bits.{Bytes}
use Rattle.terms.specs.Records.{Proof}
use Rattle.terms.specs.Fields.{flat, le}
use Rattle.meaning.specs.Calls.{Answer, refused}
use Rattle.meaning.specs.Proving.{proof_by}
use Rattle.meaning.specs.Answers.{room_after, Exported}
use Rattle.palette_rules.specs.Palette.{whole_keys, keys_in, palette_of, length_together}
use Rattle.layout.specs.Stores.{store_of}
use Rattle.proofrecords.specs.ProofBytes.{proof_bytes}
use Rattle.promises.specs.Headed.{by_header}
use Rattle.contracts.specs.Looking.{header_for, looking_in}

-- Into this much room: 12 where the list isn't 0 to 256 whole keys, 1, 2, 8, what single calls are refused with, 9.
unfoldable pub palette_answer : Bytes → Option (List ℕ) → ℕ → Bytes → ℕ → Answer (List Proof)
palette_answer s by v list room =
    cond (whole_keys list)
    (by_header (header_for s by)
    (palette_of (proof_by (looking_in s by) (store_of s) v) (store_of s) v (keys_in list) room))
    (refused 12)

-- Proving each key of a list answers r; the room is left as t, the array f for the length of all together as g.
pub record PalettesBy (s : Bytes) (by : Option (List ℕ)) (v : ℕ) (list room f : Bytes) (r : ℕ) (t g : Bytes) :
    Type 0 where
  pub exported : Exported (palette_answer s by v list (length room)) (λ ps. le 4 (length_together ps)) f r g
  pub proofs : t ≡ room_after (λ ps. flat (map proof_bytes ps)) (palette_answer s by v list (length room)) room

abbrev pub Palettes : Bytes → ℕ → Bytes → Bytes → Bytes → ℕ → Bytes → Bytes → Type 0
Palettes s v list room f r t g = PalettesBy s none v list room f r t g

-- The proofs one after the other, as the laws cite them.
abbrev pub proofs_bytes : List Proof → Bytes
proofs_bytes ps = flat (map proof_bytes ps)
