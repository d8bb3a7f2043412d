-- The slots that hold a node, counted. Assumes nothing.
use Prim.Native.Nat.{ℕ, ◌+◌, ◌<◌, ◌≤◌}
use native.Mathlib.Omega.{arith}
use mathlib.Core.Path.{◌≡◌, ap, sym, ◌∙◌, subst}
use mathlib.Core.Bool.{Bool, true, false, cond}
use mathlib.Core.List.{List}
use lib.ListN.{length}
use native.Mathlib.Nat.{zero-add}
use Rattle.terms.specs.declared.Form.{Form}
use Rattle.terms.specs.Bits.{Bytes, Place}
use Rattle.terms.specs.Records.{Slot, free, used, spoiled}
use Rattle.meaning.specs.Store.{is_node, find}
use Rattle.local.specs.Test.{total, by_record, is_found}
use Rattle.layout.specs.Sizes.{room_of}
use Rattle.layout.specs.Headers.{size_right}
use Rattle.layout.specs.Stores.{store_in, slot_no}
use Rattle.store.proofs.Scans.{Scan, scan_start, scan_here, scan_next, scan_end}
use Rattle.std.specs.declared.option.Option as option
use Rattle.std.specs.Prelude.{Some, None}
use Rattle.lookup.specs.Lookup.{FoundIn}
use Rattle.agree.specs.Holding.{node_here}
use Rattle.check_kin.specs.Kin.{count_node}

-- a slot is counted where it holds the node
pub as_count : (v : ℕ) (p : Place) (y : Slot) {t : Bool} {n : ℕ} → t ≡ node_here v p y → cond t 1 0 ≡ n → n ≡ by_record 0 (count_node v p) y
unfolding count_node
as_count v p free e f = sym f ∙ rw e
as_count v p (used q) e f = sym f ∙ rw e
as_count v p (spoiled x) e f = sym f ∙ rw e

at_most_one : (v : ℕ) (p : Place) (y : Slot) → by_record 0 (count_node v p) y ≤ 1
unfolding count_node
at_most_one v p free = omega arith
at_most_one v p (used q) = elim (is_node v p q) as (λ t. cond t 1 0 ≤ 1) [ true ↦ omega arith | false ↦ omega arith ]
at_most_one v p (spoiled x) = omega arith

-- the slots before j are counted, those to come are not
abbrev Uncounted : Form → Bytes → ℕ → Place → ℕ → List Slot → List Slot → Type 0
Uncounted fm s v p count xs ys = total (by_record 0 (count_node v p)) (store_in fm s).slots ≡ count + total (by_record 0 (count_node v p)) ys

pub record Counted (fm : Form) (s : Bytes) (v : ℕ) (p : Place) (n count j : ℕ) : Type 0 where
  pub scan : Scan fm s (Uncounted fm s v p count) n j
  pub few : count ≤ j

pub count_start : {fm : Form} (s : Bytes) (v : ℕ) (p : Place) → size_right fm (length s) ≡ true → {n : ℕ} → n ≡ room_of fm (length s) → Counted fm s v p n 0 0
count_start {fm} s v p e m = record { scan = scan_start s (Uncounted fm s v p 0) e m (rw zero-add); few = omega arith }

module _ {fm : Form} {s : Bytes} {v : ℕ} {p : Place} {n count j : ℕ} (w : Counted fm s v p n count j) where
  pub count_few : {m : ℕ} → m ≡ by_record 0 (count_node v p) (slot_no fm j s) → m ≤ 1
  count_few e = omega (arith, at_most_one v p (slot_no fm j s))

  pub count_next : {m : ℕ} → j < n → m ≡ by_record 0 (count_node v p) (slot_no fm j s) → Counted fm s v p n (count + m) (j + 1)
  count_next {m} h e =
      let k = count_few e in
      record { scan = scan_next w.scan h (Uncounted fm s v p (count + m)) (omega (arith, scan_here w.scan h)); few = omega (arith, w.few) }

  pub count_end : n ≤ j → count ≡ total (by_record 0 (count_node v p)) (store_in fm s).slots
  count_end h = omega (arith, scan_end w.scan h)

-- what a search says
module _ (s : List Slot) (v : ℕ) (p : Place) (o : option.Option ℕ) where
  pub is_found_lem : {i : ℕ} → o ≡ Some i → FoundIn s v p o → is_found (find v p s) ≡ true
  is_found_lem e f = ap is_found (subst (FoundIn s v p) e f).1.2

  pub not_found : o ≡ None → FoundIn s v p o → is_found (find v p s) ≡ false
  not_found e f = ap is_found (subst (FoundIn s v p) e f)
