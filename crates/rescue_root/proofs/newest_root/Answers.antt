-- `rescue_root::newest_root` meets its contract: the best so far against the slots to come. Assumes nothing.
use native.Mathlib.Omega.{arith}
use Rattle.terms.specs.Bits.{Byte}
use Rattle.terms.proofs.Lists.{all_of}
use Rattle.store.proofs.Slots.{slot_within}
use Rattle.rescue_root.proofs.Newest.{best_start, best_has, best_end, best_past, best_next}
use Rattle.rescue_root.proofs.newest_root.Goals as goal
use Rattle.rescue_root.proofs.newest_root.Goals.{then-newer_root, else-newer_root}

pub slot_count-i-end-requires : goal.slot_count-i-end-requires
slot_count-i-end-requires c = c.requires

pub loop-i-init : goal.loop-i-init
loop-i-init c = best_start c.args.source.now c.args.version c.requires c.slot_count-i-end.ensures

pub newer_root-requires : goal.newer_root-requires
newer_root-requires c = best_has c.loop-i.invariant c.loop-i-test.true

pub version_at-above-requires : goal.version_at-above-requires
version_at-above-requires c = slot_within (best_has c.loop-i.invariant c.loop-i-test.true)

pub loop-i-preserved : goal.loop-i-preserved
loop-i-preserved c =
    let bytes = all_of Byte c.args.source.now 0 (λ i _. omega (arith, c.type_inv.source i)) in
    elim c.if-newer_root.branch [
      | then-newer_root w ↦
          rw (w.best-is, w.above-is)
          (best_next c.loop-i.invariant c.loop-i-test.true bytes c.newer_root.ensures w.if-newer_root.true w.version_at-above.ensures)
      | else-newer_root w ↦ rw (w.best-is, w.above-is) (best_past c.loop-i.invariant c.loop-i-test.true bytes c.newer_root.ensures w.if-newer_root.false)
    ]

pub returns : goal.returns
returns c = best_end c.loop-i.invariant (omega arith)
