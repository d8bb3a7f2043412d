-- What an existence proof that was read from lent bytes is, beside `messages/Reading`: where its parts stand instead of
-- the bytes themselves. No public promise reaches this file. Assumes nothing.
use Rattle.std.specs.declared.option.Option as option
use Rattle.std.specs.Prelude.{ℕ, ◌+◌, ◌-◌, ◌≤◌, ◌≡◌, Bool, true, false, List, [], ◌∷◌, length, drop, Some, None}
use Rattle.std.proofs.Math.Option.{Option, none, some}
use Rattle.terms.specs.Bits.{Bytes}
use Rattle.terms.specs.Fields.{slice, all_of}
use Rattle.terms.specs.Records.{Step, Presence}
use Rattle.messages.specs.Raws.{leaf_op, most_key, most_value}
use Rattle.messages.specs.Reading.{onward, only_if, step_in, path_in, length_right, existence_in}
use Rattle.messages.specs.Spots.{key_spot, value_spot}
use Rattle.message_leaf.specs.declared.Shown.{Shown}

-- The bytes from one place up to another.
abbrev pub between : ℕ → ℕ → Bytes → Bytes
between from end x = slice from (end - from) x

-- Whether an inner op says a step.
pub record Stepped (x : Bytes) (r : Bool) : Type 0 where
  pub yes : r ≡ true → (s : Step) × (step_in x ≡ some s)
  pub no : r ≡ false → step_in x ≡ none

-- The steps from there on to the end; none where they are no path.
abbrev pub steps_of : Option (List Step) → List Step
steps_of none = []
steps_of (some steps) = steps

unfoldable pub steps_from : ℕ → Bytes → List Step
steps_from from x = steps_of (path_in 256 (drop from x))

-- The steps that a walk tells: all from there on, or none.
abbrev pub walked_steps : Bytes → ℕ → option.Option ℕ → Option (List Step)
walked_steps x from None = none
walked_steps x from (Some count) = some (steps_from from x)

-- A path that was walked from there on.
pub record Walks (x : Bytes) (from : ℕ) (r : option.Option ℕ) : Type 0 where
  pub is : path_in 256 (drop from x) ≡ walked_steps x from r
  pub count_is_lem : (count : ℕ) → r ≡ Some count → length (steps_from from x) ≡ count

-- Key, value and steps by their places.
abbrev pub presence_at : Bytes → Shown → Presence
presence_at x r = record {
  key = between r.key r.kstop x;
  value = between r.value r.vstop x;
  steps = steps_from r.path x;
}

-- All of it stands inside, key and value where `messages/Spots` says.
pub record Inside (x : Bytes) (at : ℕ) (r : Shown) : Type 0 where
  pub key_inside : (at ≤ r.key) × (r.key ≤ r.kstop) × (r.kstop ≤ length x)
  pub value_inside : (r.kstop ≤ r.value) × (r.value ≤ r.vstop) × (r.vstop ≤ length x)
  pub path_inside : (r.vstop ≤ r.path) × (r.path ≤ length x)
  pub key_at : r.key ≡ (key_spot at (presence_at x r).key).at
  pub value-at : 1 ≤ length (presence_at x r).key → r.value ≡ (value_spot at (presence_at x r)).at

-- An existence proof after its head: raw lengths, then the path.
unfoldable pub after_head : Bytes → Shown → Option Presence
after_head x r =
    only_if (all_of (length_right most_key (presence_at x r).key
    ∷ length_right most_value (presence_at x r).value ∷ []))
    (onward (path_in 256 (drop r.path x)) λ steps.
    some (record { key = (presence_at x r).key; value = (presence_at x r).value; steps = steps }))

-- What a head says, if it is one.
abbrev pub headed_in : Bytes → option.Option Shown → Option Presence
headed_in x None = none
headed_in x (Some s) = after_head x s

pub record Heads (x : Bytes) (at : ℕ) (r : option.Option Shown) : Type 0 where
  pub is : existence_in (drop at x) ≡ headed_in x r
  pub inside : (s : Shown) → r ≡ Some s → Inside x at s

-- An existence proof that is shown, by its places in bytes that it ends.
abbrev pub shown_in : Bytes → option.Option Shown → Option Presence
shown_in x None = none
shown_in x (Some s) = some (presence_at x s)

-- An existence proof from there on to the end.
pub record Shows (x : Bytes) (at : ℕ) (r : option.Option Shown) : Type 0 where
  pub is : existence_in (drop at x) ≡ shown_in x r
  pub inside : (s : Shown) → r ≡ Some s → Inside x at s
  pub count_is_lem : (s : Shown) → r ≡ Some s → length (presence_at x s).steps ≡ s.count
