-- Document 01, 'The desk's example', over the bytes: each row by the contract of its call. Assumes nothing.
use Rattle.std.specs.Prelude.{ℕ, ◌≡◌, ◌↔◌}
use Rattle.terms.specs.Bits.{Bytes}
use Rattle.terms.specs.Fields.{le}
use Rattle.meaning.specs.Answers.{number_of, told_of}
use Rattle.meaning.specs.Desk.{Row, applies, prunes, reads}
use Rattle.layout.specs.Stores.{store_bytes}
use Rattle.batch.specs.Asked.{asks_bytes}
use Rattle.contracts.specs.Apply.{told}
use Rattle.contracts.specs.Contracts.{Applies, Prunes, ReadsRoot}

-- On the bytes of the row's store the call answers what the row says, tells it, and leaves the bytes of the row's store
-- after it; and the contract allows that.
abbrev pub RowOverBytes : Row → Type 0
RowOverBytes (applies st number batch answer end) = (f : Bytes) (r : ℕ) (t g : Bytes) →
    Applies number (asks_bytes batch) (store_bytes st) f r t g ↔ ((r ≡ number_of answer) × (t ≡ store_bytes end) ×
    (g ≡ told_of told answer f))
RowOverBytes (prunes st n answer end) = (f : Bytes) (r : ℕ) (t g : Bytes) →
    Prunes n (store_bytes st) f r t g ↔ ((r ≡ number_of answer) × (t ≡ store_bytes end) × (g ≡ told_of (le 4) answer f))
RowOverBytes (reads st v answer) = (f : Bytes) (r : ℕ) (g : Bytes) →
    ReadsRoot (store_bytes st) v f r g ↔ ((r ≡ number_of answer) × (g ≡ told_of (λ root. root) answer f))
