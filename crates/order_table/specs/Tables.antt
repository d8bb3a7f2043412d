-- What the passes over a table leave. Assumes nothing.
use Rattle.std.specs.Prelude.{ℕ, suc, ◌<◌, List, get_or}
use Rattle.terms.specs.Bits.{Bytes}
use Rattle.layout.specs.Stores.{store_of}
use Rattle.ordered.specs.Ordered.{InForm, Ahead, Named}
use Rattle.order_look.specs.Looks.{Formed}

-- The first m entries name slots in form in ascending order.
pub record InOrder (s : Bytes) (t : List ℕ) (m : ℕ) : Type 0 where
  pub each : (k : ℕ) → k < m → Formed s (get_or t k 0)
  pub steps : (k : ℕ) → suc k < m → Ahead (store_of s).slots (get_or t k 0) (get_or t (suc k) 0)

-- Slot i is named, if it is in form.
abbrev pub NamedNo : Bytes → List ℕ → ℕ → ℕ → Type 0
NamedNo s t m i = InForm (store_of s).slots i → Named t m i
