-- Rows 8, 14, 10 and 11 of a finding: what a sound store answers is what they deserve. Assumes nothing.
use Prim.Native.Nat.{ℕ}
use mathlib.Core.Path.{refl, subst}
use mathlib.Core.Logic.{inl, inr}
use Rattle.terms.specs.Bits.{Bytes}
use Rattle.meaning.specs.Calls.{Answer}
use Rattle.meaning.specs.Answers.{number_of}
use Rattle.sha256.specs.Sha256.{sha256}
use Rattle.proofrecords.proofs.Proofs.{one_proof_is}
use Rattle.layout.specs.Stores.{store_of}
use Rattle.forgery.specs.Finding.{Finding}
use Rattle.finding_rules.specs.Call.{HoldsAt, FoundIn, not_kept, no_grant_lem, not_in_form, not_holding, holding}
use Rattle.finding_rules.proofs.Hashes.{holds_alike}
use Rattle.refusals.proofs.Parts.{Row, found_rows}
use Rattle.refusals.proofs.Exactly.{First}

module _ (s : Bytes) (v : ℕ) (k x : Bytes) where
  -- Where two neighbouring rows are deserved at once, the answer is the number of the one that is tested first.
  eight_before_fourteen : Row 8 (found_rows s v k x) → Row 14 (found_rows s v k x) → First (found_rows s v k x) 8
  eight_before_fourteen a b = inl (a, refl)

  fourteen_before_ten : (Row 8 (found_rows s v k x) → ⊥) → Row 14 (found_rows s v k x) → Row 10 (found_rows s v k x) → First (found_rows s v k x) 14
  fourteen_before_ten kept a b = inr (kept, inl (a, refl))

  pub finding_first : {a : Answer Finding} → FoundIn sha256 (store_of s) v k x a → First (found_rows s v k x) (number_of a)
  finding_first (not_kept n) = inl (n, refl)
  finding_first (no_grant_lem i e) = inr (λ n. n i, inl (e, refl))
  finding_first (not_in_form i g n) = inr (λ m. m i, inr (g, inl (n, refl)))
  finding_first (not_holding {p} i g w n) =
      inr (λ m. m i, inr (g, inr (λ f. f p w, inl ((p, w, λ a h. n a ((holds_alike (store_of s) v k p a).1 h)), refl))))
  finding_first (holding {p} {a} i g w h t l) =
      inr (
        λ m. m i,
        inr (
          g,
          inr (
            λ f. f p w,
            inr (
              λ d. d.2 a ((holds_alike (store_of s) v k d.0 a).0 (subst (λ q. HoldsAt sha256 (store_of s) v k q a) (one_proof_is x p d.0 w d.1) h)),
              refl,
            ),
          ),
        ),
      )
