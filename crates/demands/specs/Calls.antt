-- Demand 3: any sequence of public calls on one store, refused ones included, each by its contract. Assumes nothing.
use Rattle.std.specs.Prelude.{ℕ, ◌-◌, ◌≤◌, Bool, false, cond, List, [], ◌∷◌, eqb}
use Rattle.terms.specs.declared.Form.{Form}
use Rattle.terms.specs.declared.Form.TheVariants.{Plain as plain, Counted as counted}
use Rattle.terms.specs.Bits.{Bytes, Byte, All}
use Rattle.terms.specs.Fields.{field}
use Rattle.terms.specs.Form.{top32}
use Rattle.meaning.specs.History.{Call, formatting, applying, pruning, taking, looking}
use Rattle.meaning.specs.History.{Entry, entry, ledger, entries_from, held}
use Rattle.histories.specs.Claims.{NoGap}
use Rattle.layout.specs.Stores.{store_in, store_of}
use Rattle.rescue_rules.specs.Rescue.{source_tree}
use Rattle.rescue_bytes.specs.Rescues.{slots_in}
use Rattle.promises.specs.Calls.{SoundIn}
use Rattle.contracts.specs.Contracts.{Formats, Applies, Prunes, Rescues, MovesOver, MovesBack}
use Rattle.contracts.specs.Contracts.{FormatsIndexed, AppliesIndexed, PrunesIndexed}

-- What a rescued store takes over: the grants of its versions from the first reported to latest, by the source's trees.
abbrev pub taken_over : Bytes → ℕ → Bytes → List Entry
taken_over source latest g = entries_from (source_tree (slots_in source)) (field 0 4 g) (latest - field 0 4 g)

-- A public call with any arguments, lent the bytes s whole and as the store, leaves the bytes t. A history notes of it
-- what was asked and whether it was accepted, that is, answered with 0. The number of a batch has four bytes.
pub data Called (s : Bytes) : Call × Bool → Bytes → Type 0 where
  formats : {r : ℕ} {t : Bytes} → Formats s r t → Called s (formatting, eqb r 0) t
  applies : (number : ℕ) (batch : Bytes) {f t g : Bytes} {r : ℕ} → number ≤ top32 →
      (w : Applies number batch s f r t g) → Called s (applying number w.asked, eqb r 0) t
  prunes : {n r : ℕ} {f t g : Bytes} → Prunes n s f r t g → Called s (pruning n, eqb r 0) t
  -- with a table, format, apply and prune do to the store what they do without it, or are refused (2026-05)
  formats_both : {table u : List ℕ} {r : ℕ} {t : Bytes} → FormatsIndexed s table r t u →
      Called s (formatting, eqb r 0) t
  applies_both : (number : ℕ) (batch : Bytes) {table u : List ℕ} {f t g : Bytes} {r : ℕ} → number ≤ top32 →
      (w : AppliesIndexed number batch s table f r t u g) → Called s (applying number w.asked, eqb r 0) t
  prunes_both : {table u : List ℕ} {n r : ℕ} {f t g : Bytes} → PrunesIndexed n s table f r t u g →
      Called s (pruning n, eqb r 0) t
  -- the target of a rescue (2026-08) or of a move over (2026-10) begins anew, with what the source's trees hold
  rescues_into : {oldest latest r : ℕ} {source f t g : Bytes} → latest ≤ top32 → All Byte source →
      Rescues oldest latest source s f r t g → Called s (taking (taken_over source latest g), eqb r 0) t
  moves_over : {r : ℕ} {source t : Bytes} → All Byte source → MovesOver source s r t →
      Called s (taking (held (store_in plain source)), eqb r 0) t
  -- every other call is lent the store to look at, if at all: whatever it is asked and answers, the store stays
  looks : Called s (looking, false) s

-- Calls one after the other, from the bytes s to the bytes t, with their history.
pub data Calls : Bytes → List (Call × Bool) → Bytes → Type 0 where
  none_yet : {s : Bytes} → Calls s [] s
  then_called : {s t u : Bytes} {e : Call × Bool} {history : List (Call × Bool)} → Called s e t → Calls t history u →
      Calls s (e ∷ history) u

-- None of them leaves a gap: each accepted batch was given latest + 1, and no rescue or move into it was accepted.
abbrev pub WithoutGaps : {s t : Bytes} {history : List (Call × Bool)} → Calls s history t → Type 0
WithoutGaps none_yet = Unit {0}
WithoutGaps {s} (then_called {e = e} c calls) = cond e.1 (NoGap e.0 (store_of s)) (Unit {0}) × WithoutGaps calls

-- How a store of a form begins, and the grants by version that it begins with. By a move it takes over the source's
-- history, so that a life may go over and back any number of times (2026-10).
pub data Begins : Form → Bytes → List Entry → Type 0 where
  by_format : {before t : Bytes} → Formats before 0 t → Begins counted t (entry 0 [] ∷ [])
  by_rescue : {oldest latest : ℕ} {source before f t g : Bytes} → latest ≤ top32 → All Byte source →
      Rescues oldest latest source before f 0 t g → Begins counted t (taken_over source latest g)
  as_found : {f : Form} {s : Bytes} → All Byte s → SoundIn f s → Begins f s (held (store_in f s))
  by_over : {s before t : Bytes} {es : List Entry} → All Byte s → Begins plain s es → MovesOver s before 0 t →
      Begins counted t es
  by_back : {first s before t : Bytes} {history : List (Call × Bool)} {es : List Entry} → All Byte s →
      Begins counted first es → Calls first history s → MovesBack s before 0 t → Begins plain t (ledger history es)

-- A store that only public calls wrote: it began with these grants by version, and these calls came after.
pub record Life (start : List Entry) (history : List (Call × Bool)) (t : Bytes) : Type 0 where
  pub first : Bytes
  pub begins : Begins counted first start
  pub calls : Calls first history t
