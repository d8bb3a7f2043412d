-- `rescue_right::tied` meets its contract: what the record beside says, or a look. Assumes nothing.
use mathlib.Core.Path.{sym, subst}
use Rattle.place.specs.Place.{place_of}
use Rattle.check_pass.specs.Passes.{Passed}
use Rattle.rescue_right.specs.Right.{Told}
use Rattle.rescue_right.proofs.Righting.{told_tied, tied_inside}
use Rattle.rescue_right.proofs.tied.Goals as goal

pub told-requires : goal.told-requires
told-requires c = (c.requires.0, tied_inside c.args.source.now c.args.right (place_of c.args.place) c.args.beside c.requires.3)

pub returns-then-told : goal.returns-then-told
returns-then-told c =
    let a = c.args in
    sym (told_tied a.source.now a.i a.right (place_of a.place) a.beside
    (subst (λ t. Passed t (Told a.source.now a.i a.right a.beside)) c.if-told.true c.told.ensures) c.requires.3)

pub linked-requires : goal.linked-requires
linked-requires c = (c.requires.0, c.requires.1, c.requires.2)

pub returns : goal.returns
returns c = c.linked.ensures
