-- The first words noted slot by slot. Assumes nothing.
use Prim.Native.Nat.{ℕ, ◌+◌, ◌<◌, ◌≤◌}
use native.Mathlib.Omega.{arith}
use mathlib.Core.Path.{◌≡◌, refl, sym, subst}
use mathlib.Core.Bool.{Bool, true, false}
use mathlib.Core.List.{List}
use lib.ListN.{length, get_or, set, length-set}
use lib.Seq.{get_or-set_same, get_or-set_other}
use lib.Dec.{eqb}
use borrow.Author.Tests.{eqb-true, eqb-false}
use Rattle.terms.specs.declared.Form.TheVariants.{Counted as counted}
use Rattle.terms.specs.Bits.{Bytes}
use Rattle.layout.specs.Sizes.{room_of}
use Rattle.layout.specs.Headers.{size_right}
use Rattle.layout.specs.Stores.{slot_in, Has}
use Rattle.layout.proofs.Headers.{size_says}
use Rattle.forged_nodes.specs.Nodes.{WordHere, NotedTo, Noted}

pub noted_start : {v : ℕ} {s : Bytes} {words : List ℕ} → size_right counted (length s) ≡ true → length words ≡ 16384 → NotedTo v s words 0
noted_start e l = record { size = e; long = l; each = λ i h. absurd (omega arith) }

module _ {v : ℕ} {s : Bytes} {words : List ℕ} {i n : ℕ} (w : NotedTo v s words i) (e : n ≡ room_of counted (length s)) where
  pub noted_small : n ≤ 16384
  noted_small = omega (arith, e, size_says counted (length s) w.size)

  pub noted_slot : i < n → Has counted s i
  noted_slot h = record { size = w.size; inside = omega (arith, e) }

  pub noted_next : i < n → {x : ℕ} → WordHere v (slot_in counted i s) x → NotedTo v s (set words i x) (i + 1)
  noted_next h {x} k = record { size = w.size; long = simp length-set w.long; each = λ j l. go j l (eqb j i) refl }
    where
      go : (j : ℕ) → j < i + 1 → (b : Bool) → eqb j i ≡ b → WordHere v (slot_in counted j s) (get_or (set words i x) j 0)
      go j l true q =
          let same = eqb-true j i q in
          subst (λ y. WordHere v (slot_in counted y s) (get_or (set words i x) y 0)) (sym same)
          (subst (WordHere v (slot_in counted i s)) (sym (get_or-set_same words i x 0 (omega (arith, w.long, noted_small)))) k)
      go j l false q =
          let other = eqb-false j i q in
          let below : j < i = omega (arith, l, other) in
          subst (WordHere v (slot_in counted j s)) (sym (get_or-set_other words i j x 0 other)) (w.each j below)

  pub noted_all : n ≤ i → i ≤ n → Noted v s words
  noted_all h k = let same : i ≡ room_of counted (length s) = omega (arith, e) in subst (NotedTo v s words) same w

-- a slot whose word was noted
pub noted_inside : {v : ℕ} {s : Bytes} {words : List ℕ} {n i : ℕ} → Noted v s words → n ≡ room_of counted (length s) → i < n → i < 16384
noted_inside {s = s} w e h = omega (arith, e, size_says counted (length s) w.size)

pub word_of : {v : ℕ} {s : Bytes} {words : List ℕ} {n i : ℕ} → Noted v s words → n ≡ room_of counted (length s) → i < n → WordHere v (slot_in counted i s) (get_or words i 0)
word_of {i = i} w e h = w.each i (omega (arith, e))
