-- The fork towards a side after a turn: to that side, with no child there, or away from a child. Assumes nothing.
use Prim.Native.Nat.{ℕ}
use native.Mathlib.Omega.{arith}
use mathlib.Core.Path.{◌≡◌, refl}
use mathlib.Core.Bool.{true, false, beq}
use borrow.Author.Tests.{eq-eqb, ne_eqb}
use Rattle.std.specs.Prelude.{Some}
use Rattle.std.specs.declared.option.Option as option
use Rattle.terms.specs.Bits.{Bytes, Side}
use Rattle.place.specs.declared.Place as declared-place
use Rattle.read_step.specs.Walk.{kid_in}
use Rattle.prove_turns.specs.Forks.{fork_after}

module _ (s : Bytes) (i : ℕ) (p : declared-place.Place) (f : option.Option declared-place.Place) where
  pub fork_same : (turn b : Side) → beq turn b ≡ true → f ≡ fork_after s i p turn b f
  unfolding fork_after
  fork_same true true e = refl
  fork_same true false e = let z : ◌≡◌ {A = ℕ} 0 1 = cc in absurd (omega arith)
  fork_same false true e = let z : ◌≡◌ {A = ℕ} 0 1 = cc in absurd (omega arith)
  fork_same false false e = refl

  pub fork_none : (turn b : Side) → (kid_in i s b).version ≡ 0 → f ≡ fork_after s i p turn b f
  unfolding fork_after
  fork_none true true e = refl
  fork_none true false e = rw (eq-eqb (kid_in i s false).version 0 e)
  fork_none false true e = rw (eq-eqb (kid_in i s true).version 0 e)
  fork_none false false e = refl

  pub fork_new : (turn b : Side) → beq turn b ≡ false → ((kid_in i s b).version ≡ 0 → ⊥) → Some p ≡ fork_after s i p turn b f
  unfolding fork_after
  fork_new true true e n = let z : ◌≡◌ {A = ℕ} 0 1 = cc in absurd (omega arith)
  fork_new true false e n = rw (ne_eqb (kid_in i s false).version 0 n)
  fork_new false true e n = rw (ne_eqb (kid_in i s true).version 0 n)
  fork_new false false e n = let z : ◌≡◌ {A = ℕ} 0 1 = cc in absurd (omega arith)
