-- `check_roots::lives_apart` meets its contract: one early return for each test. Assumes nothing.
use Rattle.check_roots.proofs.Roots.{one_version, ended, not_ended}
use Rattle.check_roots.proofs.lives_apart.Goals as goal

pub returns-then-other-version : goal.returns-then-other-version
returns-then-other-version c =
    let a = c.args in
    one_version a.oldest a.version a.ends a.other a.end c.if-other-version.true

pub returns-then-end-later : goal.returns-then-end-later
returns-then-end-later c =
    let a = c.args in
    ended a.oldest a.version a.ends a.other a.end c.if-other-version.false c.later.ensures c.if-end-later.true

pub returns : goal.returns
returns c =
    let a = c.args in
    not_ended a.oldest a.version a.ends a.other a.end c.if-other-version.false c.later.ensures c.if-end-later.false
    c.later-2.ensures
