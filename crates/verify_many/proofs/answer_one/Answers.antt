-- `verify_many::answer_one` meets its contract. The answer of the single call. Assumes nothing.
use mathlib.Core.Path.{ap, sym, ◌∙◌}
use Rattle.verify_rows.specs.Rows.{answer_bytes}
use Rattle.proofrecords.specs.ProofBytes.{proof_in}
use Rattle.hash.specs.Hash.{hash_bytes}
use Rattle.verify_many.proofs.Answers.{judged_small, by_judging}
use Rattle.verify_many.proofs.answer_one.Goals as goal

pub verify_given-requires : goal.verify_given-requires
verify_given-requires c = c.requires.2

pub put_answer-requires : goal.put_answer-requires
put_answer-requires c = (c.requires.1, rw c.verify_given.ensures (judged_small (hash_bytes c.args.root) c.args.key.now (proof_in c.args.x.now)))

pub returns : goal.returns
returns c =
    c.put_answer.ensures
    ∙ ap answer_bytes (c.verify_given.ensures ∙ sym (by_judging c.args.root c.args.key.now c.args.x.now c.requires.0))
