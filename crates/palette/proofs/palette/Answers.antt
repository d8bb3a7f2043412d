-- `palette::palette` meets its contract: the list, what is tested first, then the proofs, whether children are guessed or not. Assumes nothing.
use mathlib.Core.Path.{ap, sym, ◌∙◌}
use lib.ListN.{length}
use Rattle.std.proofs.lemmas.Result.{err_from_is_err_and}
use Rattle.palette_rules.specs.Palette.{fitted_together}
use Rattle.palette_give.specs.Together.{planned_in}
use Rattle.palette_give.proofs.Giving.{gives_as}
use Rattle.palette.proofs.Answering.{torn_list, first_refused, all_given, kept_size}
use Rattle.palette.proofs.palette.Goals as goal

pub returns-then-not-whole_keys : goal.returns-then-not-whole_keys
returns-then-not-whole_keys c =
    let a = c.args in
    torn_list a.store.now a.index.now a.version a.keys.now a.room.now c.whole_keys.ensures c.if-not-whole_keys.true

pub returns-in_err-open : goal.returns-in_err-open
returns-in_err-open c =
    let w = c.whole_keys in
    let a = c.args in
    let p = err_from_is_err_and c.from_residual.result c.from_residual.ensures.1 in
    rw (p.1, p.2) (first_refused a.store.now a.index.now a.version a.keys.now a.room.now w.ensures c.if-not-whole_keys.false _ c.in_err-open.ensures)

pub give_many-requires : goal.give_many-requires
give_many-requires c =
    let w = c.whole_keys in
    let a = c.args in
    (kept_size a.store.now a.version c.in_ok-open.ensures, sym w.ensures ∙ c.if-not-whole_keys.false)

pub returns-then-pays : goal.returns-then-pays
returns-then-pays c =
    let w = c.whole_keys in
    let a = c.args in
    let none = c.pays.ensures c.if-pays.true in
    all_given a.store.now a.index.now a.version a.keys.now a.room.now w.ensures c.if-not-whole_keys.false c.in_ok-open.ensures
    (gives_as (ap (λ t. fitted_together (length a.room.now) (planned_in a.store.now t a.version a.keys.now)) (sym none)) c.give_many.ensures)

pub give_each-requires : goal.give_each-requires
give_each-requires c =
    let w = c.whole_keys in
    (kept_size c.args.store.now c.args.version c.in_ok-open.ensures, sym w.ensures ∙ c.if-not-whole_keys.false)

pub returns : goal.returns
returns c =
    let w = c.whole_keys in
    let a = c.args in
    all_given a.store.now a.index.now a.version a.keys.now a.room.now w.ensures c.if-not-whole_keys.false c.in_ok-open.ensures c.give_each.ensures
