-- `layout::slot_start` meets its contract: by the form. Assumes nothing.
use Prim.Native.Nat.{◌<◌}
use mathlib.Core.Path.{refl, subst}
use native.Mathlib.Omega.{arith}
use Rattle.terms.specs.declared.Form.{Form}
use Rattle.layout.specs.Sizes.{slot_at, most64}
use borrow.Author.Rules.{rules}
use Rattle.layout.proofs.slot_start.Goals as goal

pub overflow_mul-result : goal.overflow_mul-result
overflow_mul-result c = let a = c.args in let h = subst (λ (f : Form). slot_at f a.i < most64) c.in-Plain.is c.requires in search (rules, h)

pub overflow_add-result : goal.overflow_add-result
overflow_add-result c = let a = c.args in let h = subst (λ (f : Form). slot_at f a.i < most64) c.in-Plain.is c.requires in search (rules, h)

pub overflow_mul-result-in-Counted : goal.overflow_mul-result-in-Counted
overflow_mul-result-in-Counted c = let a = c.args in let h = subst (λ (f : Form). slot_at f a.i < most64) c.in-Counted.is c.requires in search (rules, h)

pub overflow_add-result-in-Counted : goal.overflow_add-result-in-Counted
overflow_add-result-in-Counted c = let a = c.args in let h = subst (λ (f : Form). slot_at f a.i < most64) c.in-Counted.is c.requires in search (rules, h)

pub returns-in-Plain : goal.returns-in-Plain
returns-in-Plain c = rw c.in-Plain.is (refl, omega arith)

pub returns-in-Counted : goal.returns-in-Counted
returns-in-Counted c = rw c.in-Counted.is (refl, omega arith)
