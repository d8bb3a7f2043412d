-- `header::read_header` meets its contract: size and fields are tested in the order of the refusals. Assumes nothing.
use Prim.Native.Nat.{◌≤◌}
use mathlib.Core.Path.{◌≡◌, sym, ◌∙◌}
use mathlib.Core.Bool.{true}
use native.Mathlib.Omega.{arith}
use lib.ListN.{length}
use Rattle.layout.specs.Headers.{size_right, header_of}
use Rattle.header.specs.Answer.{header_says}
use Rattle.layout.proofs.Headers.{size_least}
use Rattle.header.proofs.read_header.Goals as goal

pub returns-then-not-size_right : goal.returns-then-not-size_right
unfolding header_says header_of
returns-then-not-size_right c = rw (sym c.size_right.ensures ∙ c.if-not-size_right.true)

pub header_right-requires : goal.header_right-requires
header_right-requires c =
    let size_passed : size_right (c.args.form) (length (c.args.store.now)) ≡ true = sym c.size_right.ensures ∙ c.if-not-size_right.false in
    let long : 24 ≤ length (c.args.store.now) = omega (arith, size_least (c.args.form) (length (c.args.store.now)) size_passed) in
    long

pub returns-then-not-header_right : goal.returns-then-not-header_right
unfolding header_says header_of
returns-then-not-header_right c =
    let size_passed : size_right (c.args.form) (length (c.args.store.now)) ≡ true = sym c.size_right.ensures ∙ c.if-not-size_right.false in
    rw (size_passed, sym c.header_right.ensures ∙ c.if-not-header_right.true)

pub get_u32-requires : goal.get_u32-requires
get_u32-requires c =
    let size_passed : size_right (c.args.form) (length (c.args.store.now)) ≡ true = sym c.size_right.ensures ∙ c.if-not-size_right.false in
    let long : 24 ≤ length (c.args.store.now) = omega (arith, size_least (c.args.form) (length (c.args.store.now)) size_passed) in
    omega (arith, long)

pub get_u32-requires-2 : goal.get_u32-requires-2
get_u32-requires-2 c =
    let size_passed : size_right (c.args.form) (length (c.args.store.now)) ≡ true = sym c.size_right.ensures ∙ c.if-not-size_right.false in
    let long : 24 ≤ length (c.args.store.now) = omega (arith, size_least (c.args.form) (length (c.args.store.now)) size_passed) in
    omega (arith, long)

pub get_u32-requires-3 : goal.get_u32-requires-3
get_u32-requires-3 c =
    let size_passed : size_right (c.args.form) (length (c.args.store.now)) ≡ true = sym c.size_right.ensures ∙ c.if-not-size_right.false in
    let long : 24 ≤ length (c.args.store.now) = omega (arith, size_least (c.args.form) (length (c.args.store.now)) size_passed) in
    omega (arith, long)

pub returns : goal.returns
unfolding header_says header_of
returns c =
    let size_passed : size_right (c.args.form) (length (c.args.store.now)) ≡ true = sym c.size_right.ensures ∙ c.if-not-size_right.false in
    rw (
      size_passed,
      sym c.header_right.ensures ∙ c.if-not-header_right.false,
      c.get_u32.ensures,
      c.get_u32-2.ensures,
      c.get_u32-3.ensures,
    )
