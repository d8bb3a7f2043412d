-- Counting the leaves below each inner record of a plain store, the longest places first. No public promise reaches
-- this file. Assumes nothing.
use Rattle.std.specs.Prelude.{ℕ, ◌<◌, ◌≤◌, ◌≡◌, Bool, true, false, List, length, get_or, Some}
use Rattle.std.proofs.Math.Option.{Option, none, some}
use Rattle.terms.specs.declared.Form.TheVariants.{Plain as plain}
use Rattle.terms.specs.Bits.{Bytes, Place}
use Rattle.terms.specs.Records.{Child, inner_body, Record, Slot, used, Store}
use Rattle.meaning.specs.Store.{find}
use Rattle.meaning.specs.Sound.{At, Sound}
use Rattle.meaning.specs.Counting.{weight_by}
use Rattle.moved.specs.Moving.{counts_in}
use Rattle.nodehash.specs.Node.{leaf_hash, inner_hash}
use Rattle.layout.specs.Headers.{size_right}
use Rattle.layout.specs.Slots.{is_inner, count_in}
use Rattle.layout.specs.Stores.{slot_in, slot_no, store_in}
use Rattle.lookup.specs.Lookup.{FoundIn}
use Rattle.move_put.specs.Put.{tally_at}

-- The store that bytes hold, read as one of the plain form.
abbrev pub plain_store : Bytes → Store
plain_store s = store_in plain s

-- The bytes hold a sound store of the plain form.
pub record Countable (s : Bytes) : Type 0 where
  pub size : size_right plain (length s) ≡ true
  pub sound : Sound leaf_hash inner_hash (plain_store s)

-- Where the answer is yes, the node of version v at p is found in slot c.
abbrev pub NodeIn : Bytes → ℕ → ℕ → Place → Bool → Type 0
NodeIn s c v p true = FoundIn (plain_store s).slots v p (Some c)
NodeIn s c v p false = Unit {0}

-- The leaves at a record that was found, by the tree that stands at it; 0 for none.
abbrev pub leaves_of : List Slot → Option Record → ℕ
leaves_of xs none = 0
leaves_of xs (some q) = weight_by q.body (counts_in xs q)

-- The leaves at the node of version v at p.
abbrev pub leaves_at : Bytes → ℕ → Place → ℕ
leaves_at s v p = leaves_of (plain_store s).slots (find v p (plain_store s).slots)

-- What the table says of the leaves at the record in slot c.
abbrev pub WeighsIn : Bytes → List ℕ → ℕ → ℕ → Type 0
WeighsIn s t c n = (q : Record) → slot_no plain c s ≡ used q → n ≡ weight_by q.body (tally_at t c)

-- The table has the counts of the inner record in slot j.
abbrev pub CountsRight : Bytes → List ℕ → ℕ → Record → Type 0
CountsRight s t j r = tally_at t j ≡ counts_in (plain_store s).slots r

-- A table of two entries for each of 16,384 slots has those of every inner record whose place has at least so many
-- bits.
pub record CountedFrom (s : Bytes) (t : List ℕ) (level : ℕ) : Type 0 where
  pub long : length t ≡ 32768
  pub right : (j : ℕ) (r : Record) (l m : Child) → At (plain_store s) j r → r.body ≡ inner_body l m →
      level ≤ length r.place → CountsRight s t j r

-- From the table t to the table u the counts of slot i were written, and no others.
pub record SlotCounted (s : Bytes) (i : ℕ) (t u : List ℕ) : Type 0 where
  pub same : length u ≡ length t
  pub here : (r : Record) (l m : Child) → At (plain_store s) i r → r.body ≡ inner_body l m → CountsRight s u i r
  pub others : (j : ℕ) → (j ≡ i → ⊥) → tally_at u j ≡ tally_at t j

-- The level of slot i: the bits of an inner record's place, else 256.
pub record LevelAt (s : Bytes) (i n : ℕ) : Type 0 where
  pub inner : n < 256 → (is_inner (slot_in plain i s) ≡ true) × (count_in (slot_in plain i s) ≡ n)
  pub place : (r : Record) (l m : Child) → At (plain_store s) i r → r.body ≡ inner_body l m → length r.place ≡ n

-- A table has the levels of the first n slots.
pub record Leveled (s : Bytes) (ls : List ℕ) (n : ℕ) : Type 0 where
  pub long : length ls ≡ 16384
  pub each : (i : ℕ) → i < n → LevelAt s i (get_or ls i 0)

-- The same of slot i where it has this level, else nothing was written.
pub record LevelCounted (s : Bytes) (level i : ℕ) (t u : List ℕ) : Type 0 where
  pub same : length u ≡ length t
  pub here : (r : Record) (l m : Child) → At (plain_store s) i r → r.body ≡ inner_body l m →
      length r.place ≡ level → CountsRight s u i r
  pub above : (r : Record) (l m : Child) → At (plain_store s) i r → r.body ≡ inner_body l m →
      (length r.place ≡ level → ⊥) → tally_at u i ≡ tally_at t i
  pub others : (j : ℕ) → (j ≡ i → ⊥) → tally_at u j ≡ tally_at t j
