-- `pocket_prove::pocket_prove` meets its contract: the key's length, what is tested first, the profile, then the proof. Assumes nothing.
use mathlib.Core.Path.{sym, ◌∙◌}
use Rattle.std.proofs.lemmas.Result.{err_from_is_err_and}
use Rattle.pocket_prove.proofs.Answering.{wrong_key, first_refused, kept_size, outside_refused, inside_given}
use mathlib.Core.List.{[]}
use Rattle.layout.specs.Stores.{store_of}
use Rattle.read_near.proofs.Near.{led_none}
use Rattle.pocket_prove.proofs.pocket_prove.Goals as goal

pub returns-then-key-ne32 : goal.returns-then-key-ne32
returns-then-key-ne32 c = let a = c.args in wrong_key a.store.now a.version a.key.now a.room.now c.if-key-ne32.true

pub returns-in_err-open : goal.returns-in_err-open
returns-in_err-open c =
    let a = c.args in
    let p = err_from_is_err_and c.from_residual.result c.from_residual.ensures.1 in
    rw (p.1, p.2) (first_refused a.store.now a.version a.key.now a.room.now c.if-key-ne32.false _ c.in_err-open.ensures)

pub plan_of-plan-requires : goal.plan_of-plan-requires
plan_of-plan-requires c =
    let a = c.args in
    (kept_size a.store.now a.version c.in_ok-open.ensures, c.if-key-ne32.false, led_none (store_of a.store.now) [])

pub returns-then-is_outside : goal.returns-then-is_outside
returns-then-is_outside c =
    let a = c.args in
    outside_refused a.store.now a.version a.key.now a.room.now c.if-key-ne32.false c.in_ok-open.ensures c.plan_of-plan.ensures
    (sym c.is_outside.ensures ∙ c.if-is_outside.true)

pub returns : goal.returns
returns c =
    let a = c.args in
    inside_given a.store.now a.version a.key.now a.room.now c.if-key-ne32.false c.in_ok-open.ensures c.plan_of-plan.ensures
    (sym c.is_outside.ensures ∙ c.if-is_outside.false) c.give.ensures
