-- What is known of the parts of a message when our own record is written from them. No public promise reaches this
-- file. Assumes nothing.
use Rattle.std.specs.declared.option.Option as option
use Rattle.std.specs.Prelude.{ℕ, ◌+◌, ◌*◌, ◌≤◌, ◌≡◌, length, take, ◌∷◌, Some, None}
use Rattle.std.proofs.Math.Option.{some}
use Rattle.terms.specs.Bits.{Bytes, digit}
use Rattle.fields.specs.Written.{written}
use Rattle.terms.specs.Records.{Step, Absence}
use Rattle.sha256.specs.Sha256.{sha256}
use Rattle.messages.specs.Raws.{own_neighbour, RawPresence}
use Rattle.messages.specs.Reading.{step_in}
use Rattle.message_leaf.specs.declared.Shown.{Shown}
use Rattle.message_leaf.specs.Shown.{presence_at}
use Rattle.message_form.specs.declared.Absent.{Absent}

-- An inner op says a step.
abbrev pub OneStep : Bytes → Type 0
OneStep op = (s : Step) × (step_in op ≡ some s)

-- Its 33 bytes were written.
abbrev pub StepPut : Bytes → ℕ → Bytes → Bytes → Type 0
StepPut op at old new = (s : Step) → step_in op ≡ some s → new ≡ written at (digit s.side ∷ s.sibling) old

-- An existence proof with all of it inside.
pub record Ready (x : Bytes) (p : Shown) : Type 0 where
  pub key_in_lem : (p.key ≤ p.kstop) × (p.kstop ≤ length x)
  pub value_in : (p.value ≤ p.vstop) × (p.vstop ≤ length x)
  pub path_in_lem : p.path ≤ length x
  pub raw : RawPresence (presence_at x p)
  pub count_is_lem : length (presence_at x p).steps ≡ p.count

abbrev pub ReadyOr : Bytes → option.Option Shown → Type 0
ReadyOr x None = Unit {0}
ReadyOr x (Some p) = Ready x p

abbrev pub size_of : option.Option Shown → ℕ
size_of None = 0
size_of (Some p) = 72 + 33 * p.count

abbrev pub flag_of : option.Option Shown → ℕ → ℕ
flag_of None bit = 0
flag_of (Some p) bit = bit

unfoldable pub absent_size : Absent → ℕ
absent_size a = 40 + size_of a.left + size_of a.right

pub record AbsentReady (x : Bytes) (a : Absent) : Type 0 where
  pub key_in_lem : (a.key ≤ a.kstop) × (a.kstop ≤ length x)
  pub middle_in : a.middle ≤ length x
  pub left_ready : ReadyOr (take a.middle x) a.left
  pub right_ready : ReadyOr x a.right

abbrev pub own_absence : Absence → Absence
own_absence a =
    record {
      key = sha256 a.key;
      leftward = own_neighbour sha256 a.leftward;
      rightward =
          own_neighbour sha256 a.rightward;
    }
