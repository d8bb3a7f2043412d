-- What the call answers, by what it tests first and what was planned. Assumes nothing.
use Prim.Native.Nat.{ℕ}
use mathlib.Core.Path.{◌≡◌, refl, ap, sym, ◌∙◌, subst}
use mathlib.Core.Bool.{Bool, true, false, cond}
use mathlib.Core.List.{[]}
use lib.ListN.{length}
use borrow.Author.Tests.{eq-eqb, ne_eqb}
use Rattle.terms.specs.declared.Form.TheVariants.{Counted as counted}
use Rattle.terms.specs.Bits.{Bytes}
use Rattle.terms.specs.Records.{Proof}
use Rattle.meaning.specs.Calls.{Answer, refused, accepted, is_kept}
use Rattle.meaning.specs.Sight.{scan}
use Rattle.meaning.specs.Reading.{seen}
use Rattle.meaning.specs.Proving.{prove_seen, fitted}
use Rattle.meaning.proofs.Empty.{proof_by_searches}
use Rattle.indexed.specs.Index.{by_table}
use Rattle.indexed.proofs.Scanned.{without_table}
use Rattle.layout.specs.Headers.{size_right, header_of}
use Rattle.layout.specs.Stores.{store_of}
use Rattle.read_open.specs.Opening.{opened}
use Rattle.promises.specs.Headed.{by_header}
use Rattle.read_open.proofs.Opening as opening
use Rattle.pocket.specs.Pocket.{in_profile, pocket_prove}
use Rattle.prove_shape.specs.Plans.{plan_says, Plans}
use Rattle.prove_shape.specs.declared.Plan as declared-plan
use Rattle.prove.specs.Parts.{Gives}
use Rattle.std.specs.Prelude.{Result, Err}
use Rattle.refusal_numbers.specs.Refusals.{number}
use Rattle.refusal_numbers.specs.declared.Refusal.{Refusal}
use Rattle.refusal_numbers.specs.declared.Refusal.TheVariants.{Not32Bytes, OutsidePocket}
use Rattle.refusal_numbers.specs.declared.ReadRefusal.{ReadRefusal}
use Rattle.refusal_numbers.specs.declared.ReadRefusal.TheVariants.{Plain}
use Rattle.prove.proofs.Giving.{gives_refusal}
use Rattle.pocket_prove.specs.Parts.{plan_outside}
use Rattle.contracts.specs.Pocket.{pocket_answer}
use Rattle.pocket_prove.proofs.Planned.{outside_plan, inside_plan}

fitted_kept : (n : ℕ) (b : Bool) (a : Answer Proof) → fitted n (in_profile (cond b a (refused 8))) ≡ cond b (fitted n (in_profile a)) (refused 8)
fitted_kept n true a = refl
fitted_kept n false a = refl

-- 12
pub wrong_key : (s : Bytes) (v : ℕ) (k room : Bytes) → (length k ≡ 32 → ⊥) → Gives (pocket_answer s v k (length room)) room room (Err (Plain Not32Bytes))
unfolding pocket_answer
wrong_key s v k room f = gives_refusal (Plain Not32Bytes) room (rw (ne_eqb (length k) 32 f) refl)

module _ (s : Bytes) (v : ℕ) (k room : Bytes) (whole : length k ≡ 32) where
  abbrev planned : Answer Proof
  planned = prove_seen k (seen (scan (store_of s)) v)

  opened_first : pocket_answer s v k (length room) ≡ by_header (header_of counted s) (cond (is_kept (store_of s) v) (fitted (length room) (in_profile planned)) (refused 8))
  unfolding pocket_answer pocket_prove
  opened_first =
      ap (λ b. cond b (by_header (header_of counted s) (pocket_prove (store_of s) v k (length room))) (refused 12)) (eq-eqb (length k) 32 whole)
      ∙ ap (λ a. by_header (header_of counted s) (fitted (length room) (in_profile a))) (proof_by_searches (store_of s) v k)
      ∙ ap (by_header (header_of counted s)) (fitted_kept (length room) (is_kept (store_of s) v) planned)

  -- 1, 2, 8
  pub first_refused : (r : Refusal) → refused (number r) ≡ opened s v → Gives (pocket_answer s v k (length room)) room room (Err (Plain r))
  first_refused r e =
      gives_refusal (Plain r) room
      (opened_first ∙ sym (opening.refused_first (fitted (length room) (in_profile planned)) s v e))

  module _ {x : declared-plan.Plan} (e : accepted tt ≡ opened s v)
      (plan : Plans s k (prove_seen k (seen (by_table [] (store_of s)) v)) x) where
    by_plan : pocket_answer s v k (length room) ≡ fitted (length room) (in_profile (plan_says s k x))
    by_plan =
        opened_first ∙ opening.rest_decides (fitted (length room) (in_profile planned)) s v e
        ∙ ap (λ look. fitted (length room) (in_profile (prove_seen k (seen look v)))) (sym (without_table (store_of s)))
        ∙ ap (λ a. fitted (length room) (in_profile a)) (sym plan.says)

    -- 19
    pub outside_refused : plan_outside x ≡ true → Gives (pocket_answer s v k (length room)) room room (Err (Plain OutsidePocket))
    outside_refused h = gives_refusal (Plain OutsidePocket) room (by_plan ∙ ap (fitted (length room)) (outside_plan s k x h))

    -- 9, or the proof
    pub inside_given : {after : Bytes} {r : Result ℕ ReadRefusal} → plan_outside x ≡ false → Gives (fitted (length room) (plan_says s k x)) room after r →
        Gives (pocket_answer s v k (length room)) room after r
    inside_given {after} {r} h g = subst (λ a. Gives a room after r) (sym (by_plan ∙ ap (fitted (length room)) (inside_plan s k x h))) g

pub kept_size : (s : Bytes) (v : ℕ) → accepted tt ≡ opened s v → size_right counted (length s) ≡ true
kept_size s v e = opening.kept_size s v e
