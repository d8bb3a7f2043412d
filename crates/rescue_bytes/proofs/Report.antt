-- What a rescue tells in C says its report: four numbers of four bytes. Assumes nothing.
use Prim.Native.Nat.{ℕ, ◌≤◌}
use native.Mathlib.Omega.{arith}
use mathlib.Core.Path.{◌≡◌, ap, sym, ◌∙◌}
use mathlib.Core.List.{List, [], ◌∷◌, ◌++◌, append-nil}
use lib.ListN.{get_or}
use Rattle.terms.specs.Bits.{Bytes}
use Rattle.terms.specs.Fields.{le, num, field, flat}
use Rattle.terms.specs.Form.{top32}
use Rattle.terms.proofs.Fields.{num_le, length_le, cuts, cuts_flat}
use Rattle.rescue_bytes.specs.Rescues.{Report, report_bytes}

module _ {g : Bytes} (r : Report) (is : g ≡ report_bytes r) where
  abbrev fields : List Bytes
  fields = le 4 r.first ∷ le 4 r.numbers.same ∷ le 4 r.numbers.other ∷ le 4 r.numbers.out ∷ []

  cut : (i : ℕ) → get_or (cuts (4 ∷ 4 ∷ 4 ∷ 4 ∷ []) 0 g) i [] ≡ get_or fields i []
  unfolding report_bytes
  cut i =
      let whole : g ≡ flat fields =
      is ∙ ap (λ x. le 4 r.first ++ (le 4 r.numbers.same ++ (le 4 r.numbers.other ++ x))) (sym (append-nil (le 4 r.numbers.out))) in
      ap (λ x. get_or (cuts (4 ∷ 4 ∷ 4 ∷ 4 ∷ []) 0 x) i []) whole
      ∙ ap (λ x. get_or x i []) (cuts_flat (4 ∷ 4 ∷ 4 ∷ 4 ∷ []) fields
      (length_le 4 r.first, (length_le 4 r.numbers.same, (length_le 4 r.numbers.other, (length_le 4 r.numbers.out, tt)))))

  pub first_told : r.first ≤ top32 → field 0 4 g ≡ r.first
  unfolding field
  first_told h = ap num (cut 0) ∙ num_le 4 r.first (omega arith)
