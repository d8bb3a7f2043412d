-- What a message that was read from lent bytes says, beside `messages/Reading`: where its parts stand instead of the
-- bytes themselves. No public promise reaches this file. Assumes nothing.
use Rattle.std.specs.declared.option.Option as option
use Rattle.std.specs.Prelude.{ℕ, ◌+◌, ◌-◌, ◌≤◌, ◌≡◌, [], ◌∷◌, length, take, drop, eqb, Some, None}
use Rattle.std.proofs.Math.Option.{Option, none, some}
use Rattle.terms.specs.Bits.{Bytes}
use Rattle.terms.specs.Fields.{all_of}
use Rattle.terms.specs.Records.{Presence, Absence, Proof, presence, absence}
use Rattle.messages.specs.Wire.{message_field}
use Rattle.messages.specs.Message.{existence, nonexistence}
use Rattle.messages.specs.Raws.{RawPresence}
use Rattle.messages.specs.Reading.{
  Front,
  onward,
  only_if,
  neighbour_from,
  somebody,
  nonexistence_in,
  field_alone,
  message_in,
}
use Rattle.messages.specs.Spots.{field_head}
use Rattle.message_fields.specs.Standing.{Stands}
use Rattle.message_leaf.specs.declared.Shown.{Shown}
use Rattle.message_leaf.specs.Shown.{between, presence_at, Inside, shown_in}
use Rattle.message_form.specs.declared.Neighbour.{Neighbour}
use Rattle.message_form.specs.declared.Absent.{Absent}
use Rattle.message_form.specs.declared.Said.{Said}
use Rattle.message_form.specs.declared.Said.TheVariants.{
  Presence as isPresent,
  Absence as isAbsent,
}

-- An existence proof in bytes that it ends, as field n, which begins at a place.
pub record Held (n : ℕ) (x : Bytes) (at : ℕ) (s : Shown) : Type 0 where
  pub start : ℕ
  pub start_is : start ≡ at + length (field_head n (existence (presence_at x s)))
  pub end_is : length x ≡ at + length (message_field n (existence (presence_at x s)))
  pub inside : Inside x start s
  pub raw : RawPresence (presence_at x s)
  pub count_is_lem : length (presence_at x s).steps ≡ s.count

-- A neighbour of field n that ends at a place, or nobody.
abbrev pub HeldOr : ℕ → Bytes → ℕ → option.Option Shown → Type 0
HeldOr n x at None = Unit {0}
HeldOr n x at (Some s) = Held n x at s

-- A neighbour, read from `at` on.
abbrev pub neighbour_in : Bytes → option.Option Neighbour → Front (Option Presence)
neighbour_in x None = none
neighbour_in x (Some b) = some (shown_in (take b.next x) b.shown, drop b.next x)

-- Where it stands, and what it holds.
pub record Beside (n : ℕ) (x : Bytes) (at : ℕ) (b : Neighbour) : Type 0 where
  pub inside : (at ≤ b.next) × (b.next ≤ length x)
  pub next_is : b.shown ≡ None → b.next ≡ at
  pub held : HeldOr n (take b.next x) at b.shown

pub record Neighbours (n : ℕ) (x : Bytes) (at : ℕ) (r : option.Option Neighbour) : Type 0 where
  pub is : neighbour_from n (drop at x) ≡ neighbour_in x r
  pub so : (b : Neighbour) → r ≡ Some b → Beside n x at b

-- A non-existence proof in bytes that it ends.
abbrev pub absent_at : Bytes → Absent → Absence
absent_at x a = record {
  key = between a.key a.kstop x;
  leftward = shown_in (take a.middle x) a.left;
  rightward = shown_in x a.right;
}

-- Its neighbours follow its key.
pub record Follow (x : Bytes) (key at : ℕ) (a : Absent) : Type 0 where
  pub key_is : a.key ≡ key
  pub kstop_is : a.kstop ≡ at
  pub middle_inside : (at ≤ a.middle) × (a.middle ≤ length x)
  pub middle_is : a.left ≡ None → a.middle ≡ at
  pub left_held : HeldOr 2 (take a.middle x) at a.left
  pub right_held : HeldOr 3 x a.middle a.right

unfoldable pub neighbours_from : Bytes → Bytes → Option Absence
neighbours_from key m =
    onward (neighbour_from 2 m) λ l.
    onward (neighbour_from 3 l.1) λ r.
    only_if (all_of (somebody l.0 r.0 ∷ eqb (length r.1) 0 ∷ []))
    (some (record { key = key; leftward = l.0; rightward = r.0 }))

-- A non-existence proof that was read, by its places.
abbrev pub absent_in : Bytes → option.Option Absent → Option Absence
absent_in x None = none
absent_in x (Some a) = some (absent_at x a)

pub record Follows (x : Bytes) (key at : ℕ) (r : option.Option Absent) : Type 0 where
  pub is : neighbours_from (between key at x) (drop at x) ≡ absent_in x r
  pub so : (a : Absent) → r ≡ Some a → Follow x key at a

-- A non-existence proof from there on to the end.
pub record AbsentIn (x : Bytes) (at : ℕ) (a : Absent) : Type 0 where
  pub key_inside : (at ≤ a.key) × (a.key ≤ a.kstop) × (a.kstop ≤ length x)
  pub key_at : a.key ≡ at + length (field_head 1 (absent_at x a).key)
  pub key_ends : a.kstop ≡ at + length (message_field 1 (absent_at x a).key)
  pub follow : Follow x a.key a.kstop a

pub record Absents (x : Bytes) (at : ℕ) (r : option.Option Absent) : Type 0 where
  pub is : nonexistence_in (drop at x) ≡ absent_in x r
  pub so : (a : Absent) → r ≡ Some a → AbsentIn x at a

-- A field that is all of a message, by where its bytes begin.
abbrev pub rest_in : Bytes → option.Option ℕ → Option Bytes
rest_in m None = none
rest_in m (Some from) = some (drop from m)

pub record Alone (n : ℕ) (m : Bytes) (r : option.Option ℕ) : Type 0 where
  pub is : field_alone n m ≡ rest_in m r
  pub stands : (from : ℕ) → r ≡ Some from → Stands n m 0 (Some (record { from = from; to = length m }))

-- What a message says.
abbrev pub proof_at : Bytes → option.Option Said → Option Proof
proof_at m None = none
proof_at m (Some (isPresent s)) = some (presence (presence_at m s))
proof_at m (Some (isAbsent a)) = some (absence (absent_at m a))

-- Where its parts stand.
pub record AbsentHeld (m : Bytes) (a : Absent) : Type 0 where
  pub start : ℕ
  pub start_is : start ≡ length (field_head 2 (nonexistence (absent_at m a)))
  pub parts : AbsentIn m start a
  pub raw_key : 1 ≤ length (absent_at m a).key

abbrev pub Placed : Bytes → option.Option Said → Type 0
Placed m None = Unit {0}
Placed m (Some (isPresent s)) = Held 1 m 0 s
Placed m (Some (isAbsent a)) = AbsentHeld m a

pub record Says (m : Bytes) (r : option.Option Said) : Type 0 where
  pub is : message_in m ≡ proof_at m r
  pub placed : Placed m r
