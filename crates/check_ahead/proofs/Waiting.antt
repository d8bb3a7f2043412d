-- Links that wait fit their store. Assumes nothing.
use Prim.Native.Nat.{ℕ, ◌+◌, ◌*◌, ◌<◌, ◌≤◌}
use native.Mathlib.Omega.{arith}
use mathlib.Core.Path.{◌≡◌, sym, subst}
use mathlib.Core.Bool.{Bool, true, false}
use mathlib.Core.List.{List}
use lib.ListN.{length, set, replicate, get_or-replicate}
use Rattle.terms.specs.declared.Form.{Form}
use Rattle.terms.specs.Bits.{Bytes}
use Rattle.sha256_eight.proofs.Filled.{after_set}
use Rattle.layout.specs.Headers.{size_right}
use Rattle.layout.specs.Stores.{Has}
use Rattle.layout.proofs.Headers.{size_says}
use Rattle.check_pass.specs.Passes.{Room, Passed}
use Rattle.check_pass.proofs.Records.{room_has}
use Rattle.check_hash.specs.Known.{Known}
use Rattle.check_ahead.specs.Ahead.{LinkFits, AllSlots, AllLinks}

pub passes : (t : Bool) {A : Type 0} → A → Passed t A
passes true a = a
passes false a = tt

pub room_small : {fm : Form} {s : Bytes} {n : ℕ} → Room fm s n → n ≤ 16384
room_small {fm} {s} r = omega (arith, r.many, size_says fm (length s) r.size)

-- a store has a first slot, and a first link
first_has : {fm : Form} (s : Bytes) → size_right fm (length s) ≡ true → Has fm s 0
first_has {fm} s e = record { size = e; inside = omega (arith, size_says fm (length s) e) }

pub first_slots : {fm : Form} (s : Bytes) → size_right fm (length s) ≡ true → AllSlots fm s (replicate 8 0)
first_slots {fm} s e i h = subst (Has fm s) (sym (get_or-replicate 8 i 0 0 h)) (first_has s e)

pub first_links : {fm : Form} (s : Bytes) → size_right fm (length s) ≡ true → AllLinks fm s (replicate 8 1)
first_links {fm} s e i h = subst (LinkFits fm s) (sym (get_or-replicate 8 i 1 0 h)) (record { some = omega arith; parent = first_has s e })

-- one more that waits
module _ {fm : Form} {s : Bytes} {n : ℕ} (r : Room fm s n) where
  pub slots_next : {c : ℕ} → c < n → (slots : List ℕ) (k : ℕ) → AllSlots fm s slots → AllSlots fm s (set slots k c)
  slots_next h slots k all i j = after_set (Has fm s) slots k _ i 0 (λ e. room_has r h) (all i j)

  pub links_next : {w : ℕ} → w < 2 * n → (links : List ℕ) (k : ℕ) → AllLinks fm s links → AllLinks fm s (set links k (w + 1))
  links_next h links k all i j = after_set (LinkFits fm s) links k _ i 0 (λ e. record { some = omega arith; parent = room_has r (omega (arith, h)) }) (all i j)

-- what holds at each group of eight
pub record Going (fm : Form) (s : Bytes) (n : ℕ) (xs slots links : List ℕ) : Type 0 where
  pub room : Room fm s n
  pub known : Known fm s xs
  pub fit : AllSlots fm s slots
  pub tied : AllLinks fm s links

-- what holds at each link that is looked at
pub record Looking (fm : Form) (s : Bytes) (many : ℕ) (slots links : List ℕ) : Type 0 where
  pub few : many < 8
  pub fit : AllSlots fm s slots
  pub tied : AllLinks fm s links
