-- `check_ahead::enter` meets its contract: a link that stores the hash of a record is known to. Assumes nothing.
use mathlib.Core.Path.{sym, ◌∙◌}
use Rattle.terms.proofs.Tests.{same_bytes_lem}
use native.Mathlib.Omega.{arith}
use Rattle.hash.specs.Hash.{hash_bytes}
use Rattle.check_pass.proofs.Records.{slot_small}
use Rattle.check_hash.proofs.Knowing.{known_set}
use Rattle.check_ahead.proofs.enter.Goals as goal

pub stored-requires : goal.stored-requires
stored-requires c = (c.requires.1.some, c.requires.1.parent)

pub offset_bounds-known-c : goal.offset_bounds-known-c
offset_bounds-known-c c = omega (arith, slot_small {s = c.args.store.now} c.requires.0)

pub bounds-known-c : goal.bounds-known-c
bounds-known-c c = omega (arith, slot_small {s = c.args.store.now} c.requires.0)

pub returns : goal.returns
returns c =
    let a = c.args in
    let same = sym c.same_hash.ensures ∙ c.if-not-same_hash.false in
    known_set a.store.now a.known.now a.c a.link c.requires.3 (record {
      has = c.requires.1.parent;
      hash = λ r x. c.requires.2 r x ∙ sym (same_bytes_lem (hash_bytes c.stored.result) (hash_bytes a.hash) same) ∙ c.stored.ensures;
    })
