-- `place::begins` meets its contract: the whole bytes agree, and then the bits in the last byte decide. Assumes nothing.
use Prim.Native.Nat.{ℕ, ◌<◌, ◌/◌}
use native.Mathlib.Omega.{arith}
use native.Mathlib.Nat.{sub-zero, zero-add}
use mathlib.Core.Path.{◌≡◌, refl, sym, ◌∙◌}
use mathlib.Core.Bool.{Bool, true, false, not, ◌&&◌}
use lib.Dec.{eqb}
use lib.ListN.{length, get_or, take}
use Rattle.std.specs.Cmp.Lexicographic.{pointwise}
use Rattle.terms.specs.Bits.{Bytes, begins}
use Rattle.place.specs.declared.Place as declared
use Rattle.place.specs.Place.{place_of, Proper}
use Rattle.place.proofs.Bits.{rest_begins, begins_front, begins_over, begins_all}
use Rattle.place.proofs.Places.{proper_whole, proper_bytes}
use Rattle.place.proofs.begins.Goals as goal

-- what `!=` says of a test of equality
equal : {r : Bool} (t : Bool) → r ≡ not t → r ≡ false → t ≡ true
equal true e f = refl
equal false e f = cc

unequal : {r : Bool} (t : Bool) → r ≡ not t → r ≡ true → t ≡ false
unequal true e f = cc
unequal false e f = refl

module _ (k : Bytes) (p : declared.Place) (l : length k ≡ 32) (w : Proper p) (b : (j : ℕ) → get_or k j 0 < 256) where
  parts : begins (place_of p) k ≡ pointwise eqb (take (p.count / 8) k) (take (p.count / 8) p.bits) && rest_begins p.bits k p.count (p.count / 8)
  unfolding begins place_of
  parts =
      let h = w.short in
      let front = begins_front p.bits k p.count (p.count / 8) 0 (omega arith) (omega (arith, proper_whole p w)) (omega arith) (proper_bytes p w) b in
      rw (sub-zero, zero-add (p.count / 8)) at front

pub returns-then-ne : goal.returns-then-ne
returns-then-ne c =
    let k = c.args.key.now in
    let p = c.args.p in
    sym (parts k p c.requires.0 c.requires.1 (λ j. omega (arith, c.type_inv.key j)) ∙ rw (unequal _ c.ne.ensures c.if-ne.true))

pub returns-then-over-eq0 : goal.returns-then-over-eq0
returns-then-over-eq0 c =
    let k = c.args.key.now in
    let p = c.args.p in
    sym (parts k p c.requires.0 c.requires.1 (λ j. omega (arith, c.type_inv.key j)) ∙ rw (equal _ c.ne.ensures c.if-ne.false) (begins_all p.bits k p.count (p.count / 8) refl c.if-over-eq0.true))

pub returns : goal.returns
returns c =
    let k = c.args.key.now in
    let p = c.args.p in
    let w = c.requires.1 in
    let h = w.short in
    let byte : get_or k (p.count / 8) 0 < 256 = omega (arith, c.type_inv.key (p.count / 8)) in
    sym (parts k p c.requires.0 w (λ j. omega (arith, c.type_inv.key j))
    ∙ rw (equal _ c.ne.ensures c.if-ne.false) (begins_over p.bits k p.count (p.count / 8) (omega (arith, proper_whole p w)) (omega arith) (proper_bytes p w) byte refl))
