-- `verify_one::settled` meets its contract. What is entered is right; where nothing is, the path is walked. Assumes nothing.
use Prim.Native.Nat.{ℕ}
use mathlib.Core.Path.{ap, subst, ◌∙◌}
use Rattle.verify_path.specs.Paths.{top_after}
use Rattle.hash.specs.Hash.{hash_bytes}
use Rattle.verify_one.specs.Lane.{EntryOf}
use Rattle.verify_one.proofs.Laws.{leads_by_top}
use Rattle.verify_one.proofs.settled.Goals as goal

pub top-requires : goal.top-requires
top-requires c =
    let e = c.step_count.ensures.0 in
    rw e c.requires.0

pub returns-in-Some : goal.returns-in-Some
returns-in-Some c = subst (EntryOf (hash_bytes c.args.root) c.args.x.now) c.in-Some.is c.requires.1

pub returns-in-None : goal.returns-in-None
returns-in-None c =
    let a = c.args in
    c.same_hash.ensures ∙ leads_by_top a.x.now (hash_bytes a.root) _ (c.top.ensures ∙ ap (λ (n : ℕ). top_after n a.x.now) c.step_count.ensures.0)
