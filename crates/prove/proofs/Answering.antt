-- What the call answers, by what it tests first and what was planned. Assumes nothing.
use Prim.Native.Nat.{ℕ}
use mathlib.Core.Path.{◌≡◌, refl, ap, sym, ◌∙◌, subst}
use mathlib.Core.Bool.{Bool, true, false, cond}
use mathlib.Core.List.{List, []}
use mathlib.Core.Option.{none, some}
use lib.ListN.{length}
use lib.Dec.{eqb}
use borrow.Author.Tests.{eq-eqb, ne_eqb}
use Rattle.terms.specs.declared.Form.TheVariants.{Counted as counted}
use Rattle.terms.specs.Bits.{Bytes}
use Rattle.terms.specs.Records.{Proof}
use Rattle.meaning.specs.Calls.{Answer, refused, accepted, is_kept}
use Rattle.meaning.specs.Reading.{seen}
use Rattle.meaning.specs.Proving.{prove_seen, prove_by, fitted}
use Rattle.indexed.specs.Index.{by_table}
use Rattle.indexed.proofs.Scanned.{without_table}
use Rattle.layout.specs.Headers.{size_right, header_of}
use Rattle.layout.specs.Stores.{store_of}
use Rattle.read_open.specs.Opening.{opened}
use Rattle.promises.specs.Headed.{by_header, as_many}
use Rattle.read_open.proofs.Opening as opening
use Rattle.prove_shape.specs.Plans.{plan_says, Plans}
use Rattle.prove_shape.specs.declared.Plan as declared-plan
use Rattle.prove_plan.proofs.Ending.{by_searches}
use Rattle.meaning.specs.Answers.{room_after}
use Rattle.proofrecords.specs.ProofBytes.{proof_bytes}
use Rattle.contracts.specs.Proves.{prove_answer}
use Rattle.contracts.proofs.Heading.{as_many_lem, not_as_many}
use Rattle.prove.specs.Parts.{prove_answer_by, Gives, length_answer, proved_says}
use Rattle.std.specs.Prelude.{Result, Err}
use Rattle.refusal_numbers.specs.Refusals.{number}
use Rattle.refusal_numbers.specs.declared.Refusal.{Refusal}
use Rattle.refusal_numbers.specs.declared.Refusal.TheVariants.{Not32Bytes}
use Rattle.refusal_numbers.specs.declared.ReadRefusal.{ReadRefusal}
use Rattle.refusal_numbers.specs.declared.ReadRefusal.TheVariants.{Plain}
use Rattle.prove.proofs.Giving.{gives_refusal}

-- the call's answer and room
abbrev Answers : Bytes → List ℕ → ℕ → Bytes → Bytes → Bytes → Result ℕ ReadRefusal → Type 0
Answers s table v k room after r =
    (proved_says r ≡ length_answer (prove_answer_by s table v k (length room))) × (after ≡ room_after proof_bytes (prove_answer_by s table v k (length room)) room)

answers : {a : Answer Proof} (s : Bytes) (table : List ℕ) (v : ℕ) (k room after : Bytes) (r : Result ℕ ReadRefusal) → Gives a room after r → a ≡ prove_answer_by s table v k (length room) →
    Answers s table v k room after r
answers s table v k room after r g e = (g.answer ∙ ap length_answer e, g.bytes ∙ ap (λ a. room_after proof_bytes a room) e)

fitted_kept : (n : ℕ) (b : Bool) (a : Answer Proof) → fitted n (cond b a (refused 8)) ≡ cond b (fitted n a) (refused 8)
fitted_kept n true a = refl
fitted_kept n false a = refl

-- 12
pub wrong_key : (s : Bytes) (table : List ℕ) (v : ℕ) (k room : Bytes) → (length k ≡ 32 → ⊥) → Answers s table v k room room (Err (Plain Not32Bytes))
unfolding prove_answer_by
wrong_key s table v k room f =
    answers s table v k room room (Err (Plain Not32Bytes)) (gives_refusal (Plain Not32Bytes) room refl) (sym (ap (λ b. cond b (by_header (header_of counted s) (prove_by (by_table table (store_of s)) (store_of s) v k (length room))) (refused 12)) (ne_eqb (length k) 32 f)))

module _ (s : Bytes) (table : List ℕ) (v : ℕ) (k room : Bytes) (whole : length k ≡ 32) where
  opened_first : prove_answer_by s table v k (length room)
      ≡ by_header (header_of counted s) (cond (is_kept (store_of s) v) (fitted (length room) (prove_seen k (seen (by_table table (store_of s)) v))) (refused 8))
  unfolding prove_answer_by
  opened_first =
      ap (λ b. cond b (by_header (header_of counted s) (prove_by (by_table table (store_of s)) (store_of s) v k (length room))) (refused 12)) (eq-eqb (length k) 32 whole)
      ∙ ap (λ a. by_header (header_of counted s) (fitted (length room) a)) (by_searches (by_table table (store_of s)) (store_of s) v k)
      ∙ ap (by_header (header_of counted s)) (fitted_kept (length room) (is_kept (store_of s) v) (prove_seen k (seen (by_table table (store_of s)) v)))

  -- 1, 2, 8
  pub first_refused : (r : Refusal) → refused (number r) ≡ opened s v → Answers s table v k room room (Err (Plain r))
  first_refused r e =
      answers s table v k room room (Err (Plain r)) (gives_refusal (Plain r) room refl)
      (opening.refused_first (fitted (length room) (prove_seen k (seen (by_table table (store_of s)) v))) s v e ∙ sym opened_first)

  pub kept_proved : {x : declared-plan.Plan} {after : Bytes} {r : Result ℕ ReadRefusal} → accepted tt ≡ opened s v →
      Plans s k (prove_seen k (seen (by_table table (store_of s)) v)) x → Gives (fitted (length room) (plan_says s k x)) room after r → Answers s table v k room after r
  kept_proved {after = after} {r = r} e plan g =
      answers s table v k room after r g
      (ap (fitted (length room)) plan.says
      ∙ sym (opened_first ∙ opening.rest_decides (fitted (length room) (prove_seen k (seen (by_table table (store_of s)) v))) s v e))

pub kept_size : (s : Bytes) (v : ℕ) → accepted tt ≡ opened s v → size_right counted (length s) ≡ true
kept_size s v e = opening.kept_size s v e

-- by a table without entries it is that of the scan
pub prove_plain : (s : Bytes) (v : ℕ) (k : Bytes) (room : ℕ) → prove_answer_by s [] v k room ≡ prove_answer s none v k room
unfolding prove_answer_by prove_answer
prove_plain s v k room =
    ap (λ look. cond (eqb (length k) 32) (by_header (header_of counted s) (prove_by look (store_of s) v k room)) (refused 12)) (without_table (store_of s))

-- a table of another length is refused with 1, after 12; else its proof is one by a table of any length
module _ (s : Bytes) (table : List ℕ) (v : ℕ) (k : Bytes) (room : ℕ) where
  pub prove_as_many : length k ≡ 32 → as_many s table ≡ true → prove_answer_by s table v k room ≡ prove_answer s (some table) v k room
  unfolding prove_answer_by prove_answer
  prove_as_many whole e =
      ap (λ a. cond (eqb (length k) 32) a (refused 12)) (as_many_lem (prove_by (by_table table (store_of s)) (store_of s) v k room) s table e)

  pub prove_not_as_many : length k ≡ 32 → as_many s table ≡ false → refused 1 ≡ prove_answer s (some table) v k room
  unfolding prove_answer
  prove_not_as_many whole e =
      rw (eq-eqb (length k) 32 whole) (not_as_many (prove_by (by_table table (store_of s)) (store_of s) v k room) s table e)

  pub prove_wrong_key : (length k ≡ 32 → ⊥) → refused 12 ≡ prove_answer s (some table) v k room
  unfolding prove_answer
  prove_wrong_key f = rw (ne_eqb (length k) 32 f)
