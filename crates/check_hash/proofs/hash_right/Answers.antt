-- `check_hash::hash_right` meets its contract: by the link that was kept, or by hashing. Assumes nothing.
use native.Mathlib.Omega.{arith}
use mathlib.Core.Path.{sym, ◌∙◌}
use borrow.Author.Tests.{not-false}
use Rattle.hash.specs.Hash.{hash_bytes}
use Rattle.check_pass.proofs.Records.{slot_small}
use Rattle.check_hash.specs.Known.{HashIs}
use Rattle.check_hash.proofs.Knowing.{known_set, same_is, same_passes}
use Rattle.check_hash.proofs.hash_right.Goals as goal

pub offset_bounds-known-c : goal.offset_bounds-known-c
offset_bounds-known-c c =
    let h = slot_small {s = c.args.store.now} c.requires.0 in
    omega (arith, h)

pub bounds-known-c : goal.bounds-known-c
bounds-known-c c =
    let h = slot_small {s = c.args.store.now} c.requires.0 in
    omega (arith, h)

pub stored-requires : goal.stored-requires
stored-requires c = (omega (arith, c.if-first-ne0.true), (c.requires.2 c.args.c (omega (arith, c.if-first-ne0.true))).has)

pub returns-then-first-ne0 : goal.returns-then-first-ne0
returns-then-first-ne0 c =
    let a = c.args in
    let its : HashIs a.form a.store.now a.c
    (hash_bytes c.stored.result) = (λ r h. (c.requires.2 a.c (omega (arith, c.if-first-ne0.true))).hash r h ∙ sym
    c.stored.ensures) in record {
      known = c.requires.2;
      passed = same_passes _ a.store.now a.c (hash_bytes c.stored.result) (hash_bytes a.hash) its
          c.same_hash.result c.same_hash.ensures;
    }

pub record_hash-requires : goal.record_hash-requires
record_hash-requires c = c.requires.0

pub returns-then-not-same_hash : goal.returns-then-not-same_hash
returns-then-not-same_hash c = record { known = c.requires.2; passed = tt }

pub offset_bounds-known-c-2 : goal.offset_bounds-known-c-2
offset_bounds-known-c-2 c =
    let h = slot_small {s = c.args.store.now} c.requires.0 in
    omega (arith, h)

pub bounds-known-c-2 : goal.bounds-known-c-2
bounds-known-c-2 c =
    let h = slot_small {s = c.args.store.now} c.requires.0 in
    omega (arith, h)

pub returns : goal.returns
returns c =
    let a = c.args in
    let w = same_is _ a.store.now a.c (hash_bytes c.record_hash.result) (hash_bytes a.hash) c.record_hash.ensures
    c.same_hash-2.ensures c.if-not-same_hash.false in record {
      known = known_set a.store.now a.known.now a.c a.link c.requires.2
          (record { has = c.requires.1.has; hash = λ r h. w r h ∙ c.requires.1.hash });
      passed = w;
    }
