-- The number and the 131 bytes, by the case of the answer. Assumes nothing.
use Prim.Native.Nat.{ℕ}
use mathlib.Core.Path.{◌≡◌, ap, sym, ◌∙◌}
use lib.ListN.{length}
use Rattle.terms.specs.Bits.{Bytes}
use Rattle.terms.specs.Fields.{zero_bytes}
use Rattle.meaning.proofs.Told.{exported_refusal, exported_answer, exports}
use Rattle.forged_message.specs.declared.Message.{Message}
use Rattle.forged_nodes.specs.declared.Named as declared-named
use Rattle.forged_nodes.specs.declared.Named.TheVariants.{Nothing, Two, Zero}
use Rattle.forged_nodes.specs.Nodes.{named_says}
use Rattle.forgery.specs.Finding.{nothing, two_equal, one_zero}
use Rattle.forged_message.specs.Parts.{message_bytes}
use Rattle.finding_rules.specs.Call.{finding_bytes}
use Rattle.contracts.specs.Finds.{Answers, Finds}
use Rattle.finding.specs.Says.{found_says}
use Rattle.std.specs.Prelude.{Result, Ok, Err}
use Rattle.refusal_numbers.specs.Refusals.{number}
use Rattle.refusal_numbers.specs.declared.Refusal.{Refusal}

-- what is named, case by case
module _ (m : declared-named.Named) where
  pub nothing_put : (f : Bytes) {g : Bytes} → m ≡ Nothing → length f ≡ 131 → g ≡ zero_bytes (length f) → g ≡ finding_bytes (named_says m)
  unfolding named_says finding_bytes zero_bytes
  nothing_put f e l w = w ∙ ap zero_bytes l ∙ sym (ap (λ x. finding_bytes (named_says x)) e)

  pub two_named : {a b : Message} {g : Bytes} → m ≡ Two a b → g ≡ finding_bytes (two_equal (message_bytes a) (message_bytes b)) →
      g ≡ finding_bytes (named_says m)
  unfolding named_says
  two_named e w = w ∙ sym (ap (λ x. finding_bytes (named_says x)) e)

  pub zero_named : {a : Message} {g : Bytes} → m ≡ Zero a → g ≡ finding_bytes (one_zero (message_bytes a)) → g ≡ finding_bytes (named_says m)
  unfolding named_says
  zero_named e w = w ∙ sym (ap (λ x. finding_bytes (named_says x)) e)

module _ (a : Result declared-named.Named Refusal) {s : Bytes} {v : ℕ} {k x : Bytes} (answers : Answers s v k x (found_says a)) (f : Bytes) where
  pub finding_refused : {r : Refusal} → a ≡ Err r → Finds s v k x f (number r) f
  finding_refused e = exports (found_says a) answers (exported_refusal (sym (ap found_says e)))

  pub finding_given : {m : declared-named.Named} {g : Bytes} → a ≡ Ok m → g ≡ finding_bytes (named_says m) → Finds s v k x f 0 g
  finding_given e w = exports (found_says a) answers (exported_answer (sym (ap found_says e)) w)
