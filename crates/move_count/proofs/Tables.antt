-- Two entries of a table written, and what stands in it. Assumes nothing.
use Prim.Native.Nat.{ℕ, ◌+◌, ◌*◌, ◌<◌}
use native.Mathlib.Omega.{arith}
use mathlib.Core.Path.{◌≡◌, refl, ap₂, ◌∙◌}
use mathlib.Core.List.{List}
use lib.ListN.{length, set, length-set}
use lib.Seq.{get_or-set_same, get_or-set_other}
use Rattle.terms.specs.Records.{tally}
use Rattle.move_put.specs.Put.{tally_at}

-- the table with two counts for slot i
abbrev pub counted_in : List ℕ → ℕ → ℕ → ℕ → List ℕ
counted_in t i a b = set (set t (2 * i) a) (2 * i + 1) b

module _ (t : List ℕ) (i a b : ℕ) where
  pub tally_here : 2 * i + 1 < length t → tally_at (counted_in t i a b) i ≡ tally a b
  tally_here h = ap₂ tally
      (get_or-set_other (set t (2 * i) a) (2 * i + 1) (2 * i) b 0 (λ e. omega arith) ∙ get_or-set_same t (2 * i) a 0 (omega arith))
      (get_or-set_same (set t (2 * i) a) (2 * i + 1) b 0 (simp length-set h))

  pub tally_other : (j : ℕ) → (j ≡ i → ⊥) → tally_at (counted_in t i a b) j ≡ tally_at t j
  tally_other j f = ap₂ tally
      (get_or-set_other (set t (2 * i) a) (2 * i + 1) (2 * j) b 0 (λ e. omega arith)
      ∙ get_or-set_other t (2 * i) (2 * j) a 0 (λ e. f (omega arith)))
      (get_or-set_other (set t (2 * i) a) (2 * i + 1) (2 * j + 1) b 0 (λ e. f (omega arith))
      ∙ get_or-set_other t (2 * i) (2 * j + 1) a 0 (λ e. omega arith))

  pub tally_same : length (counted_in t i a b) ≡ length t
  tally_same = simp length-set refl
