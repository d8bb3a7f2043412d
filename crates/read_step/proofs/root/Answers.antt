-- `read_step::root` meets its contract: the root of the version is sought; none is an empty version, and a spoilt one trouble. Assumes nothing.
use native.Mathlib.Omega.{arith}
use mathlib.Core.Path.{refl}
use Rattle.terms.specs.Bits.{Byte}
use Rattle.terms.proofs.Lists.{all_of}
use Rattle.indexed.specs.Index.{root_by}
use Rattle.layout.specs.Stores.{store_of}
use Rattle.read_step.proofs.Seeing.{root_placed, holds_found, root_nothing, root_spoilt, spoilt_small, root_sees}
use Rattle.read_step.proofs.root.Goals as goal

pub seen_in-requires : goal.seen_in-requires
seen_in-requires c =
    let s = c.args.store.now in
    let table = c.args.index.now in
    let b = all_of Byte s 0 (λ i _. omega (arith, c.shared_slice_known-1.given i)) in
    holds_found s c.requires b c.top-top.result c.top-top.ensures.proper
    (root_placed s table c.args.version c.top-top.result c.top-top.ensures.place) c.look_root_by-sight.ensures c.in-Matches.is

pub overflow_cast-slot : goal.overflow_cast-slot
overflow_cast-slot c =
    let s = c.args.store.now in
    let table = c.args.index.now in
    omega (
      arith,
      spoilt_small s (root_by table (store_of s) c.args.version) c.look_root_by-sight.ensures c.in-Spoilt.is
          c.requires,
    )

pub returns-in-Matches : goal.returns-in-Matches
returns-in-Matches c =
    let s = c.args.store.now in
    let table = c.args.index.now in
    let b = all_of Byte s 0 (λ i _. omega (arith, c.shared_slice_known-1.given i)) in
    root_sees s c.requires b c.top-top.result c.top-top.ensures.proper
    (root_placed s table c.args.version c.top-top.result c.top-top.ensures.place) c.look_root_by-sight.ensures c.in-Matches.is
    table c.args.version refl c.top-top.ensures.place c.seen_in.result (c.seen_in.ensures table)

pub returns-in-Nothing : goal.returns-in-Nothing
returns-in-Nothing c =
    let s = c.args.store.now in
    let table = c.args.index.now in
    let v = c.args.version in
    root_nothing s (root_by table (store_of s) v) c.look_root_by-sight.ensures c.in-Nothing.is table v refl

pub returns-in-Spoilt : goal.returns-in-Spoilt
returns-in-Spoilt c =
    let s = c.args.store.now in
    let table = c.args.index.now in
    let v = c.args.version in
    root_spoilt s (root_by table (store_of s) v) c.look_root_by-sight.ensures c.in-Spoilt.is table v refl
