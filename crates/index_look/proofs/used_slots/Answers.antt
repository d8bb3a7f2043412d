-- `index_look::used_slots` meets its contract: the slots below i are counted. Assumes nothing.
use Prim.Native.Nat.{ℕ, ◌+◌}
use mathlib.Core.Path.{sym, ◌∙◌, subst}
use Rattle.index_look.proofs.Nodes.{sound_size}
use Rattle.index_look.proofs.Entries.{Counted, count_start, count_used, count_free}
use Rattle.index_look.proofs.used_slots.Goals.{then-in_use, else-in_use}
use Rattle.index_look.proofs.used_slots.Goals as goal

pub slot_count-n-requires : goal.slot_count-n-requires
slot_count-n-requires c = sound_size c.requires

pub loop-i-init : goal.loop-i-init
loop-i-init c = count_start c.slot_count-n.ensures

pub loop-i-preserved : goal.loop-i-preserved
loop-i-preserved c =
    let a = c.args in
    let Now : ℕ → Type 0 = λ m. Counted a.store.now c.slot_count-n.result m (c.loop-i.i + 1) in
    elim c.if-in_use.branch [
      | then-in_use w ↦ subst Now (sym w.many-is) (count_used c.loop-i.invariant c.loop-i-test.true (sym c.in_use.ensures ∙ w.if-in_use.true))
      | else-in_use w ↦ subst Now (sym w.many-is) (count_free c.loop-i.invariant c.loop-i-test.true (sym c.in_use.ensures ∙ w.if-in_use.false))
    ]
