-- `message_read::put_leaves` meets its contract, by whether the left neighbour is there. Assumes nothing.
use mathlib.Core.Path.{ap, sym, ◌∙◌}
use mathlib.Core.List.{◌++◌}
use Rattle.terms.specs.Fields.{le}
use Rattle.message_rules.specs.Answers.{spots_bytes}
use Rattle.message_read.proofs.Spotting.{none_bounded, left_bounded, right_bounded, key_bounds, spots_with_left, spots_without_left}
use Rattle.message_read.proofs.put_leaves.Goals as goal

pub put_answer-requires : goal.put_answer-requires
put_answer-requires c =
    let h = c.requires.0 in
    let l = c.requires.1.0 in
    ((c.requires.1.1, key_bounds h l), ((λ s e. left_bounded h l s (c.in-Some.is ∙ e)), right_bounded h l))

pub returns-in-Some : goal.returns-in-Some
returns-in-Some c = c.put_answer.ensures ∙ ap (λ s. le 4 c.args.size ++ spots_bytes s) (sym (spots_with_left c.requires.0 c.in-Some.is))

pub put_answer-requires-in-None : goal.put_answer-requires-in-None
put_answer-requires-in-None c =
    let h = c.requires.0 in
    let l = c.requires.1.0 in
    ((c.requires.1.1, key_bounds h l), (right_bounded h l, none_bounded))

pub returns-in-None : goal.returns-in-None
returns-in-None c = c.put_answer-in-None.ensures ∙ ap (λ s. le 4 c.args.size ++ spots_bytes s) (sym (spots_without_left c.requires.0 c.in-None.is))
