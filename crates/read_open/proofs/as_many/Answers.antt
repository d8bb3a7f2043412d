-- `read_open::as_many` meets its contract: bytes too short for a header have no slots. Assumes nothing.
use Prim.Native.Nat.{◌-◌, ◌/◌}
use native.Mathlib.Omega.{arith}
use mathlib.Core.Path.{◌≡◌, refl, ap}
use lib.ListN.{length}
use lib.Dec.{eqb}
use Rattle.layout.specs.Sizes.{room_of}
use Rattle.promises.specs.Headed.{as_many}
use Rattle.read_open.proofs.as_many.Goals as goal

pub returns-then-store-lt-HEADER_SIZE : goal.returns-then-store-lt-HEADER_SIZE
unfolding as_many room_of
returns-then-store-lt-HEADER_SIZE c =
    let a = c.args in
    let none : 0 ≡ (length a.store.now - 24) / 128 = omega (arith, c.if-store-lt-HEADER_SIZE.true) in
    ap (eqb (length a.index.now)) none

pub returns : goal.returns
unfolding as_many room_of
returns c = refl
