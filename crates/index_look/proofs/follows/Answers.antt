-- `index_look::follows` meets its contract. Assumes nothing.
use native.Mathlib.Omega.{arith}
use mathlib.Core.Path.{refl, sym, ◌∙◌}
use Rattle.index_look.proofs.Nodes.{sound_has}
use Rattle.index_look.proofs.Entries.{entry_has, follows_beyond, follows_free, follows_first, follows_ahead}
use Rattle.index_look.proofs.follows.Goals as goal

pub returns-then-n-i : goal.returns-then-n-i
returns-then-n-i c = let p = c.requires in let a = c.args in follows_beyond a.store.now a.table.now p.1 p.2 p.3 refl c.if-n-i.true

pub returns-then-not-in_use : goal.returns-then-not-in_use
returns-then-not-in_use c = let p = c.requires in let a = c.args in follows_free a.store.now a.table.now p.1 p.2 p.3 refl (sym c.in_use.ensures ∙ c.if-not-in_use.true)

pub returns-then-k-eq0 : goal.returns-then-k-eq0
returns-then-k-eq0 c =
    let p = c.requires in
    let a = c.args in
    follows_first a.store.now a.table.now p.1 p.2 p.3 refl c.if-n-i.false (sym c.in_use.ensures ∙ c.if-not-in_use.false) c.if-k-eq0.true

pub ahead-requires : goal.ahead-requires
ahead-requires c =
    let p = c.requires in
    (entry_has c.args.table.now p.0 p.1 p.2 p.3 (omega (arith, c.if-k-eq0.false)) p.4 refl, sound_has p.0 (omega (arith, p.1, c.if-n-i.false)))

pub returns : goal.returns
returns c =
    let p = c.requires in
    let a = c.args in
    follows_ahead a.store.now a.table.now p.1 p.2 p.3 refl c.if-n-i.false (sym c.in_use.ensures ∙ c.if-not-in_use.false) (omega (arith, c.if-k-eq0.false)) p.4
    refl c.ahead.result c.ahead.ensures
