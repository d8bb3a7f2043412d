-- `verify_many::put_answer` meets its contract. Each case of the answer. Assumes nothing.
use mathlib.Core.Path.{ap, sym, ◌∙◌}
use mathlib.Core.List.{◌∷◌}
use Rattle.terms.specs.Fields.{zero_bytes}
use Rattle.verify_rows.specs.Rows.{answer_bytes}
use Rattle.verify.specs.Says.{says}
use Rattle.std.specs.Prelude.{Option, Result, Ok}
use Rattle.hash.specs.declared.Hash.{Hash}
use Rattle.refusal_numbers.specs.declared.Refusal.{Refusal}
use Rattle.verify_many.proofs.Answers.{zeros_written}
use Rattle.verify_many.proofs.put_answer.Goals as goal

pub put_refusal-requires : goal.put_refusal-requires
put_refusal-requires c = (c.requires.0, rw c.number.ensures (rw c.in-Err.is at c.requires.1))

pub returns-in-Err : goal.returns-in-Err
unfolding answer_bytes
returns-in-Err c = c.put_refusal.ensures ∙ ap (λ n. n ∷ zero_bytes 33) c.number.ensures ∙ ap (λ (v : Result (Option Hash) Refusal). answer_bytes (says v)) (sym c.in-Err.is)

pub returns-in-Ok-Some : goal.returns-in-Ok-Some
unfolding answer_bytes
returns-in-Ok-Some c = c.put_value.ensures ∙ ap (λ (v : Result (Option Hash) Refusal). answer_bytes (says v)) (sym (c.in-Ok-Some.is ∙ ap Ok (rw c.in-Ok-Some.is at c.in-Ok-Some.field-0-is)))

pub returns-in-Ok-None : goal.returns-in-Ok-None
unfolding answer_bytes
returns-in-Ok-None c =
    c.clear.ensures ∙ zeros_written c.args.out.now c.requires.0
    ∙ ap (λ (v : Result (Option Hash) Refusal). answer_bytes (says v)) (sym (c.in-Ok-None.is ∙ ap Ok (rw c.in-Ok-None.is at c.in-Ok-None.field-0-is)))
