-- `check_store::check_with` meets its contract: where the passes find nothing wrong the store is sound, else check decides. Assumes nothing.
use native.Mathlib.Omega.{arith}
use mathlib.Core.Path.{refl, sym, ◌∙◌}
use Rattle.std.proofs.lemmas.Result.{err_from_is_err_and}
use Rattle.terms.specs.Bits.{Byte}
use Rattle.terms.proofs.Lists.{all_of}
use Rattle.check_quick.proofs.Fine.{sure_none}
use Rattle.check_store.proofs.Answers.{says_refused, says_kept, says_sound}
use Rattle.check_store.proofs.check_with.Goals as goal

pub returns-in_err-oldest : goal.returns-in_err-oldest
returns-in_err-oldest c =
    let p = err_from_is_err_and c.from_residual.result c.from_residual.ensures.1 in
    rw (p.1, p.2) (says_refused _ c.args.store.now c.read_header.ensures c.in_err-oldest.was)

pub quick_with-requires : goal.quick_with-requires
quick_with-requires c = says_kept _ c.args.store.now c.read_header.ensures c.in_ok-oldest.was

pub returns : goal.returns
returns c =
    let s = c.args.store.now in
    says_sound _ s c.read_header.ensures c.in_ok-oldest.was
    (all_of Byte s 0 (λ i _. omega (arith, c.shared_slice_known-1.given i)))
    refl (sure_none _ (sym c.is_some.ensures ∙ c.if-is_some.false) c.quick_with.ensures)
