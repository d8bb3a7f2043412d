-- `read_position::root_position` meets its contract: the record sighted is the root record. Assumes nothing.
use native.Mathlib.Omega.{arith}
use Rattle.indexed.specs.Index.{root_by}
use Rattle.layout.specs.Stores.{store_of}
use Rattle.read_step.proofs.Seeing.{none_sighted, spoilt_sighted, spoilt_small, inside}
use Rattle.read_position.proofs.Answers.{past_number, from_root, at_nothing, at_spoilt}
use Rattle.read_position.proofs.root_position.Goals as goal

pub weight_at-number-requires : goal.weight_at-number-requires
weight_at-number-requires c =
    let s = c.args.store.now in
    record { size = c.requires; inside = inside s (root_by c.args.index.now (store_of s) c.args.version) c.look_root_by-sight.ensures c.in-Matches.is }

pub returns-then-number-position : goal.returns-then-number-position
returns-then-number-position c =
    let s = c.args.store.now in
    past_number s c.args.index.now (root_by c.args.index.now (store_of s) c.args.version) c.args.position c.look_root_by-sight.ensures c.in-Matches.is c.weight_at-number.ensures.0
    (omega (arith, c.if-number-position.true))

pub descend-requires : goal.descend-requires
descend-requires c =
    let s = c.args.store.now in
    record { size = c.requires; inside = inside s (root_by c.args.index.now (store_of s) c.args.version) c.look_root_by-sight.ensures c.in-Matches.is }

pub overflow_cast-slot : goal.overflow_cast-slot
overflow_cast-slot c =
    let s = c.args.store.now in
    omega (arith, spoilt_small s (root_by c.args.index.now (store_of s) c.args.version) c.look_root_by-sight.ensures c.in-Spoilt.is c.requires)

pub returns-else-number-position : goal.returns-else-number-position
returns-else-number-position c =
    let s = c.args.store.now in
    from_root s c.args.index.now (root_by c.args.index.now (store_of s) c.args.version) c.args.position c.look_root_by-sight.ensures c.in-Matches.is c.weight_at-number.ensures.0
    (omega (arith, c.if-number-position.false)) c.descend.result c.descend.ensures

pub returns-in-Nothing : goal.returns-in-Nothing
returns-in-Nothing c =
    let s = c.args.store.now in
    let x = root_by c.args.index.now (store_of s) c.args.version in
    at_nothing s c.args.index.now x c.args.position (none_sighted s x c.look_root_by-sight.ensures c.in-Nothing.is)

pub returns-in-Spoilt : goal.returns-in-Spoilt
returns-in-Spoilt c =
    let s = c.args.store.now in
    let x = root_by c.args.index.now (store_of s) c.args.version in
    at_spoilt s c.args.index.now x c.args.position _ _ (spoilt_sighted s x c.look_root_by-sight.ensures c.in-Spoilt.is) c.refusal.ensures
