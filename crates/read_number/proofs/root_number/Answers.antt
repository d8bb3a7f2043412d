-- `read_number::root_number` meets its contract: the record sighted is the root record. Assumes nothing.
use native.Mathlib.Omega.{arith}
use Rattle.indexed.specs.Index.{root_by}
use Rattle.layout.specs.Stores.{store_of}
use Rattle.read_step.proofs.Seeing.{none_sighted, spoilt_sighted, spoilt_small, inside}
use Rattle.read_number.proofs.Answers.{number_weighs, number_none, number_spoilt}
use Rattle.read_number.proofs.root_number.Goals as goal

pub weight_at-n-requires : goal.weight_at-n-requires
weight_at-n-requires c =
    let s = c.args.store.now in
    record { size = c.requires; inside = inside s (root_by c.args.index.now (store_of s) c.args.version) c.look_root_by-sight.ensures c.in-Matches.is }

pub overflow_cast-slot : goal.overflow_cast-slot
overflow_cast-slot c =
    let s = c.args.store.now in
    omega (arith, spoilt_small s (root_by c.args.index.now (store_of s) c.args.version) c.look_root_by-sight.ensures c.in-Spoilt.is c.requires)

pub returns-in-Matches : goal.returns-in-Matches
returns-in-Matches c =
    let s = c.args.store.now in
    number_weighs s (root_by c.args.index.now (store_of s) c.args.version) c.look_root_by-sight.ensures c.in-Matches.is c.weight_at-n.ensures.0

pub returns-in-Nothing : goal.returns-in-Nothing
returns-in-Nothing c =
    let s = c.args.store.now in
    let x = root_by c.args.index.now (store_of s) c.args.version in
    number_none s x (none_sighted s x c.look_root_by-sight.ensures c.in-Nothing.is)

pub returns-in-Spoilt : goal.returns-in-Spoilt
returns-in-Spoilt c =
    let s = c.args.store.now in
    let x = root_by c.args.index.now (store_of s) c.args.version in
    number_spoilt s x _ _ (spoilt_sighted s x c.look_root_by-sight.ensures c.in-Spoilt.is) c.refusal.ensures
