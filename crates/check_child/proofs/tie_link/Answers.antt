-- `check_child::tie_link` meets its contract: a missing child needs nothing, another is looked at field by field. Assumes nothing.
use mathlib.Core.Bool.{not}
use native.Mathlib.Omega.{arith}
use mathlib.Core.Path.{ap, refl}
use Rattle.check_pass.proofs.Passes.{passed_so}
use Rattle.check_pass.proofs.Records.{room_has, slot_small}
use Rattle.check_child.proofs.Sides.{side_missing, side_found}
use Rattle.check_child.proofs.tie_link.Goals as goal

pub returns-then-version-eq0 : goal.returns-then-version-eq0
returns-then-version-eq0 c =
    let a = c.args in
    record { known = c.requires.3; passed = side_missing _ a.store.now a.parent a.link a.sums.now c.if-version-eq0.true _ refl }

pub slot_count-n-requires : goal.slot_count-n-requires
slot_count-n-requires c = c.requires.0.keeps.size

pub returns-then-n-c : goal.returns-then-n-c
returns-then-n-c c = record { known = c.requires.3; passed = tt }

pub returns-then-parent-version : goal.returns-then-parent-version
returns-then-parent-version c = record { known = c.requires.3; passed = tt }

pub child_place-requires : goal.child_place-requires
child_place-requires c = (c.requires.1.proper, c.requires.1.short)

pub is_node-requires : goal.is_node-requires
is_node-requires c =
    let h = (room_has {fm = c.args.form} {s = c.args.store.now} {i = c.args.c}
    (record { size = c.requires.0.keeps.size; many = c.slot_count-n.ensures }) (omega (arith, c.if-n-c.false))) in
    (h, c.requires.0.own c.args.c h.inside, omega (arith, c.if-version-eq0.false), c.child_place.ensures.proper)

pub returns-then-not-is_node : goal.returns-then-not-is_node
returns-then-not-is_node c = record { known = c.requires.3; passed = tt }

pub outlives-requires : goal.outlives-requires
outlives-requires c = (
  (room_has {fm = c.args.form} {s = c.args.store.now} {i = c.args.c}
      (record { size = c.requires.0.keeps.size; many = c.slot_count-n.ensures }) (omega (arith, c.if-n-c.false))),
  c.requires.0.keeps.latest,
)

pub returns-then-not-outlives : goal.returns-then-not-outlives
returns-then-not-outlives c = record { known = c.requires.3; passed = tt }

pub hash_right-requires : goal.hash_right-requires
hash_right-requires c = (
  (room_has {fm = c.args.form} {s = c.args.store.now} {i = c.args.c}
      (record { size = c.requires.0.keeps.size; many = c.slot_count-n.ensures }) (omega (arith, c.if-n-c.false))),
  c.requires.2,
  c.requires.3,
)

pub returns-then-not-hash_right : goal.returns-then-not-hash_right
returns-then-not-hash_right c = record { known = c.hash_right.ensures.known; passed = tt }

pub count_fits-requires : goal.count_fits-requires
count_fits-requires c =
    room_has {fm = c.args.form} {s = c.args.store.now} {i = c.args.c}
    (record { size = c.requires.0.keeps.size; many = c.slot_count-n.ensures }) (omega (arith, c.if-n-c.false))

pub returns-then-not-count_fits : goal.returns-then-not-count_fits
returns-then-not-count_fits c = record { known = c.hash_right.ensures.known; passed = tt }

pub add-requires : goal.add-requires
add-requires c = (
  slot_small (room_has {fm = c.args.form} {s = c.args.store.now} {i = c.args.c}
      (record { size = c.requires.0.keeps.size; many = c.slot_count-n.ensures }) (omega (arith, c.if-n-c.false))),
  c.requires.1.life,
)

pub returns : goal.returns
returns c =
    let a = c.args in record {
      known = c.hash_right.ensures.known;
      passed = side_found a.form a.store.now a.parent a.link a.c a.sums.now c.add.new.sums refl
          c.if-parent-version.false c.child_place.ensures.place
          (passed_so c.is_node.result (ap not c.if-not-is_node.false) c.is_node.ensures)
          (passed_so c.outlives.result (ap not c.if-not-outlives.false) c.outlives.ensures)
          (passed_so c.hash_right.result (ap not c.if-not-hash_right.false) c.hash_right.ensures.passed)
          c.if-version-eq0.false (c.count_fits.ensures c.if-not-count_fits.false) c.add.ensures;
    }
