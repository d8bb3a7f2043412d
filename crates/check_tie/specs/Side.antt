-- What is known once a slot was looked at as a parent. Assumes nothing.
use Rattle.std.specs.Prelude.{ℕ, ◌+◌, ◌-◌, ◌<◌, ◌≤◌, max, ◌≡◌, List, length}
use Rattle.terms.specs.declared.Form.{Form}
use Rattle.terms.specs.Bits.{Bytes, Side}
use Rattle.terms.specs.Records.{Record}
use Rattle.meaning.specs.Sound.{At}
use Rattle.nodehash.specs.Node.{leaf_hash, inner_hash}
use Rattle.place.specs.Place.{place_of}
use Rattle.layout.specs.Sizes.{room_of}
use Rattle.layout.specs.Slots.{place_in, version_in, since_in}
use Rattle.layout.specs.Stores.{store_in}
use Rattle.check_kin.specs.declared.Kept as declared-kept
use Rattle.check_kin.specs.Kin.{ends_at}
use Rattle.check_seen.specs.Seen.{Tied}
use Rattle.check_seen.specs.Sums.{Under}
use Rattle.check_child.specs.declared.Parent as declared
use Rattle.check_child.specs.Child.{Fit}

-- The parent that the bytes of an inner record are.
pub record ParentIn (k : declared-kept.Kept) (x : Bytes) (p : declared.Parent) : Type 0 where
  pub fit : Fit p
  pub place : place_of p.up ≡ place_in x
  pub first : p.first ≡ max k.oldest (version_in x)
  pub ends : p.ends ≡ ends_at k.latest (since_in x)
  pub life : p.life ≡ p.ends - max k.oldest (version_in x)

-- The record in slot j is tied on both sides.
abbrev pub TiedAt : Form → Bytes → ℕ → Type 0
TiedAt fm s j = (q : Record) → At (store_in fm s) j q → (b : Side) → Tied leaf_hash inner_hash (store_in fm s) q b

-- What a look at slot j leaves.
pub record SlotTied (fm : Form) (s : Bytes) (j : ℕ) (xs ys : List ℕ) : Type 0 where
  pub tied : TiedAt fm s j
  pub under : Under (store_in fm s) xs j → Under (store_in fm s) ys (j + 1)

-- What a look at the first n slots leaves.
pub record AllTied (fm : Form) (s : Bytes) (n : ℕ) (xs ys : List ℕ) : Type 0 where
  pub tied : (j : ℕ) → j < n → TiedAt fm s j
  pub under : Under (store_in fm s) xs 0 → Under (store_in fm s) ys n

-- A look that ended at slot j leaves this where j is past the last slot.
abbrev pub TiedTo : Form → Bytes → ℕ → List ℕ → List ℕ → Type 0
TiedTo fm s j xs ys = room_of fm (length s) ≤ j → AllTied fm s (room_of fm (length s)) xs ys
