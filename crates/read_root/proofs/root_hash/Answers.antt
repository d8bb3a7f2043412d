-- `read_root::root_hash` meets its contract: the record sighted is the root record. Assumes nothing.
use native.Mathlib.Omega.{arith}
use mathlib.Core.Path.{ap, ◌∙◌}
use Rattle.meaning.specs.Calls.{accepted}
use Rattle.meaning.specs.Reading.{body_hash}
use Rattle.indexed.specs.Index.{root_by}
use Rattle.layout.specs.Stores.{store_of}
use Rattle.nodehash.specs.Node.{leaf_hash, inner_hash}
use Rattle.read_step.specs.Walk.{body_in}
use Rattle.store.proofs.Slots.{slot_fits}
use Rattle.read_step.proofs.Seeing.{none_sighted, spoilt_sighted, spoilt_small, inside, root_hash}
use Rattle.read_root.proofs.Answers.{root_hashed, root_empty, root_spoilt}
use Rattle.read_root.proofs.root_hash.Goals as goal

pub slot_of-requires : goal.slot_of-requires
slot_of-requires c =
    let s = c.args.store.now in
    slot_fits _ s c.requires _ (inside s (root_by c.args.index.now (store_of s) c.args.version) c.look_root_by-sight.ensures c.in-Matches.is)

pub overflow_cast-slot : goal.overflow_cast-slot
overflow_cast-slot c =
    let s = c.args.store.now in
    omega (arith, spoilt_small s (root_by c.args.index.now (store_of s) c.args.version) c.look_root_by-sight.ensures c.in-Spoilt.is c.requires)

pub returns-in-Matches : goal.returns-in-Matches
returns-in-Matches c =
    let s = c.args.store.now in
    let x = root_by c.args.index.now (store_of s) c.args.version in
    root_hashed x c.record_hash-hash.result
    (ap accepted (c.record_hash-hash.ensures ∙ ap (λ y. body_hash leaf_hash inner_hash (body_in y)) c.slot_of.ensures.0)
    ∙ root_hash s x c.look_root_by-sight.ensures c.in-Matches.is leaf_hash inner_hash)

pub returns-in-Nothing : goal.returns-in-Nothing
returns-in-Nothing c =
    let s = c.args.store.now in
    let x = root_by c.args.index.now (store_of s) c.args.version in
    root_empty x c.no_hash-zeros.result (none_sighted s x c.look_root_by-sight.ensures c.in-Nothing.is) c.no_hash-zeros.ensures

pub returns-in-Spoilt : goal.returns-in-Spoilt
returns-in-Spoilt c =
    let s = c.args.store.now in
    let x = root_by c.args.index.now (store_of s) c.args.version in
    root_spoilt x _ _ (spoilt_sighted s x c.look_root_by-sight.ensures c.in-Spoilt.is) c.refusal.ensures
