-- What a varint that was read from lent bytes is, beside `messages/Reading`: where it ends instead of the bytes
-- after it. Assumes nothing.
use Rattle.std.specs.declared.option.Option as option
use Rattle.std.specs.Prelude.{ℕ, suc, ◌<◌, ◌≤◌, ◌^◌, ◌≡◌, length, drop, Some, None}
use Rattle.std.proofs.Math.Option.{none, some}
use Rattle.terms.specs.Bits.{Bytes}
use Rattle.messages.specs.Reading.{Front, varint_from}
use Rattle.message_varint.specs.declared.Number.{Number}

-- The number that was read, and the bytes after it.
abbrev pub number_in : Bytes → option.Option Number → Front ℕ
number_in m None = none
number_in m (Some r) = some (r.value, drop r.next m)

-- A varint of at most n bytes more than one, read from `at` on.
pub record Reads (n : ℕ) (m : Bytes) (at : ℕ) (r : option.Option Number) : Type 0 where
  pub is : varint_from n (drop at m) ≡ number_in m r
  pub small : (x : Number) → r ≡ Some x → x.value < 128 ^ suc n
  pub inside : (x : Number) → r ≡ Some x → (at < x.next) × (x.next ≤ length m)
