-- `message_read::put_leaf` meets its contract: two spots, or zeros. Assumes nothing.
use mathlib.Core.Path.{ap, sym, ◌∙◌}
use mathlib.Core.List.{◌++◌}
use Rattle.fields.specs.Written.{written}
use Rattle.messages.specs.Spots.{nowhere}
use Rattle.message_rules.specs.Answers.{spot_bytes}
use Rattle.message_read.specs.Reads.{spot, key_of, value_of}
use Rattle.message_read.proofs.Spotting.{leaf_put}
use native.Mathlib.Omega.{arith}
use Rattle.message_read.proofs.put_leaf.Goals as goal

pub returns-in_default : goal.returns-in_default
returns-in_default c =
    let a = c.args in
    leaf_put a.at nowhere nowhere a.answer.now c.put_spot.new.answer c.put_spot-in_default.new.answer c.requires.0 c.put_spot.ensures c.put_spot-in_default.ensures
    ∙ sym (ap (λ o. written a.at (spot_bytes (key_of o) ++ spot_bytes (value_of o)) a.answer.now) c.in_default.is)

pub put_spot-requires-2 : goal.put_spot-requires-2
put_spot-requires-2 c = (omega (arith, c.requires.0), (c.requires.1 c.in-Some.shown c.in-Some.is).key_bounds)

pub put_spot-requires-3 : goal.put_spot-requires-3
put_spot-requires-3 c = (omega (arith, c.requires.0, c.put_spot-2.auto.answer), (c.requires.1 c.in-Some.shown c.in-Some.is).value_bounds)

pub returns : goal.returns
returns c =
    let a = c.args in
    let s = c.in-Some.shown in
    leaf_put a.at (spot s.key s.kstop) (spot s.value s.vstop) a.answer.now c.put_spot-2.new.answer c.put_spot-3.new.answer c.requires.0 c.put_spot-2.ensures c.put_spot-3.ensures
    ∙ sym (ap (λ o. written a.at (spot_bytes (key_of o) ++ spot_bytes (value_of o)) a.answer.now) c.in-Some.is)
