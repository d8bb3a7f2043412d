-- What the moves' proofs say of slots and stores. No public promise reaches this file. Assumes nothing.
use Rattle.std.specs.Prelude.{ℕ, ◌≡◌}
use Rattle.terms.specs.declared.Form.TheVariants.{Plain as plain}
use Rattle.terms.specs.Bits.{Bytes}
use Rattle.terms.specs.Records.{Tally, no_tally, Record, Slot, free, used, spoiled, Store}
use Rattle.terms.specs.Form.{FormedAs}
use Rattle.meaning.specs.Sound.{At}
use Rattle.moved.specs.Moving.{counting}

-- In the plain form there are no counts.
abbrev pub uncounted : Record → Tally
uncounted r = no_tally

-- Two slots that hold the same, but for counts.
pub data SameBut : Slot → Slot → Type 0 where
  both_free : SameBut free free
  both_used : (r : Record) (c : Tally) → SameBut (used r) (used (counting c r))
  both_spoiled : (x : Bytes) → SameBut (spoiled x) (spoiled x)

-- A store of the plain form: no record has counts.
pub record Plain (st : Store) : Type 0 where
  pub form : st.form ≡ plain
  pub bare : (i : ℕ) (r : Record) → At st i r → FormedAs plain r
