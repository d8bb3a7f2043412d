-- `format::format` meets its contract: the size is tested first, and a header over zero bytes is a fresh store. Assumes nothing.
use native.Mathlib.Omega.{arith}
use mathlib.Core.Path.{◌≡◌, sym, ◌∙◌}
use mathlib.Core.Bool.{true}
use lib.ListN.{length}
use Rattle.terms.specs.declared.Form.TheVariants.{Counted as counted}
use Rattle.meaning.specs.Store.{formatted}
use Rattle.layout.specs.Headers.{size_right}
use Rattle.layout.proofs.Headers.{size_says, size_least}
use Rattle.layout.proofs.Stores.{fresh_bytes}
use Rattle.format.proofs.format.Goals as goal

pub returns-then-not-size_right : goal.returns-then-not-size_right
returns-then-not-size_right c = let e = sym c.size_right.ensures ∙ c.if-not-size_right.true in record { answer = rw e; bytes = rw e }

pub slot_count-capacity-requires : goal.slot_count-capacity-requires
slot_count-capacity-requires c =
    let size_passed : size_right counted (length (c.args.store.now)) ≡ true = sym c.size_right.ensures ∙ c.if-not-size_right.false in
    size_passed

pub overflow_cast-capacity : goal.overflow_cast-capacity
overflow_cast-capacity c =
    let size_passed : size_right counted (length (c.args.store.now)) ≡ true = sym c.size_right.ensures ∙ c.if-not-size_right.false in
    record { fits = omega (arith, c.slot_count-capacity.ensures, size_says _ _ size_passed) }

pub put_header-requires : goal.put_header-requires
put_header-requires c =
    let size_passed : size_right counted (length (c.args.store.now)) ≡ true = sym c.size_right.ensures ∙ c.if-not-size_right.false in
    omega (arith, c.clear.auto.s, size_least _ _ size_passed)

pub returns : goal.returns
unfolding formatted
returns c =
    let size_passed : size_right counted (length (c.args.store.now)) ≡ true = sym c.size_right.ensures ∙ c.if-not-size_right.false in
    let e = size_passed in
    let s = (c.args.store.now) in
    record { answer = rw e; bytes = rw e (c.put_header.ensures ∙ rw (c.clear.ensures, c.slot_count-capacity.ensures) (fresh_bytes _ (length s) 0 0 e)) }
