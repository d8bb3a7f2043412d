-- A rescue's number is that of its first row that holds: its cases are the rows. Assumes nothing.
use Prim.Native.Nat.{ℕ}
use native.Mathlib.Omega.{arith}
use mathlib.Core.Path.{refl, sym, ◌∙◌}
use mathlib.Core.Logic.{inl, inr}
use lib.ListN.{length}
use Rattle.terms.specs.declared.Form.TheVariants.{Counted as counted}
use Rattle.terms.specs.Bits.{Bytes}
use Rattle.meaning.specs.Calls.{Answer}
use Rattle.meaning.specs.Answers.{number_of, exports_refusal, exports_answer}
use Rattle.layout.specs.Sizes.{room_of}
use Rattle.layout.proofs.Headers.{size_says, size_right_of}
use Rattle.rescue_bytes.specs.Rescues.{SameSize, Report, Rescues, wrong_size, out_of_order, no_version, rescues, RescueExports}
use Rattle.refusals.specs.Tables.{HasSlots, WrongSize, rescue_rows}
use Rattle.refusals.proofs.Exactly.{First}

module _ (s old : Bytes) where
  abbrev Sizes : Type 0
  Sizes = WrongSize (λ n. HasSlots counted s n × HasSlots counted old n)

  sizes_wrong : (SameSize s old → ⊥) → Sizes
  sizes_wrong f n a b (e, g) = f (record { source = size_right_of counted (length s) n e a b; target = size_right_of counted (length old) n g a b; equal = e ∙ sym g })

  sizes_right : SameSize s old → Sizes → ⊥
  sizes_right w f =
      let k = size_says counted (length s) w.source in
      f (room_of counted (length s)) k.1 k.2 (k.0, sym w.equal ∙ k.0)

  rescue_case : (oldest latest : ℕ) (a : Answer Report) {t : Bytes} → Rescues oldest latest s old a t → First (rescue_rows s old oldest latest) (number_of a)
  rescue_case oldest latest a (wrong_size f) = inl (sizes_wrong f, refl)
  rescue_case oldest latest a (out_of_order w l) = inr (sizes_right w, inl (l, refl))
  rescue_case oldest latest a (no_version w l f) = inr (sizes_right w, inr (λ k. absurd (omega arith), inl (f, refl)))
  rescue_case oldest latest a (rescues {f = f} {m = m} w l g e) =
      inr (sizes_right w, inr (λ k. absurd (omega arith), inr (λ none. none f m g.ends g.kept g.run, refl)))

  pub rescue_first : (oldest latest : ℕ) {f : Bytes} {r : ℕ} {t g : Bytes} → RescueExports oldest latest s old f r t g →
      First (rescue_rows s old oldest latest) r
  rescue_first oldest latest (exports_refusal w) = rescue_case oldest latest _ w
  rescue_first oldest latest (exports_answer w) = rescue_case oldest latest _ w
