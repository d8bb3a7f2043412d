-- `changes_top::no_deeper` meets its contract, by the kinds of the two tops. Assumes nothing.
use Rattle.changes_top.proofs.Tops.{neither_inner, second_inner, first_inner, both_inner}
use borrow.Enum.Refused.{opened}
use Rattle.changes_top.proofs.no_deeper.Goals as goal

pub returns-in_default-second : goal.returns-in_default-second
returns-in_default-second c = let a = c.args in neither_inner a.first a.second (opened c.in_default.in_default-own.keys2) (opened c.in_default-second.in_default-second-own.keys2)

pub returns-in_default : goal.returns-in_default
returns-in_default c = let a = c.args in second_inner a.first a.second (opened c.in_default.in_default-own.keys2) c.in-Inner-second.is

pub returns-in_default-second-2 : goal.returns-in_default-second-2
returns-in_default-second-2 c = let a = c.args in first_inner a.first a.second c.in-Inner.is (opened c.in_default-second-2.in_default-second-2-own.keys2)

pub returns : goal.returns
returns c =
    let a = c.args in
    both_inner a.first a.second c.in-Inner.is c.in-Inner-second-2.is
