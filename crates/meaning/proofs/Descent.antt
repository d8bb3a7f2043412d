-- The descent by counts a step at a time, for any way of finding: what a loop goes by. Assumes nothing.
use Prim.Native.Nat.{ℕ, zero, suc, ◌-◌, ◌<◌, ◌≤◌}
use native.Mathlib.Omega.{arith}
use mathlib.Core.Path.{◌≡◌, refl, ◌∙◌}
use mathlib.Core.Bool.{Bool, true, false, cond}
use lib.Dec.{eqb}
use borrow.Author.Tests.{eq-eqb, ne_eqb, lt-ltb, le-ltb}
use Rattle.terms.specs.Bits.{Bytes, Side, left, right, Place, longer, begins}
use Rattle.terms.specs.Records.{Grant, grant, Child, leaf_body, inner_body, Record}
use Rattle.meaning.specs.Sight.{Sight, Looking}
use Rattle.meaning.specs.Calls.{Answer, refused, accepted}
use Rattle.meaning.specs.Reading.{lost_record, refusal_of}
use Rattle.meaning.specs.Counting.{at_body, at_sight, descend}

either_way : (b : Bool) (a : Answer Grant) → cond b a a ≡ a
either_way true a = refl
either_way false a = refl

module _ (look : Looking) where
  -- the ways on from a record whose place is n bits short of a key
  abbrev pub kids_at : ℕ → Place → Side → Child → ℕ → Answer Grant
  kids_at zero p = λ b d j. refused (refusal_of lost_record)
  kids_at (suc n) p = λ b d j. descend n look (longer b p) d j

  descend_is : (n : ℕ) (p : Place) (c : Child) (i : ℕ) →
      descend n look p c i ≡ cond (eqb c.version 0) (refused 3) (at_sight p (look.node c.version p) i (kids_at n p))
  descend_is zero p c i = refl
  descend_is (suc n) p c i = refl

  -- at a child: missing, or as it is sighted
  pub child_missing : (n : ℕ) (p : Place) (c : Child) (i : ℕ) → c.version ≡ 0 → descend n look p c i ≡ refused 3
  child_missing n p c i e = descend_is n p c i ∙ rw (eq-eqb c.version 0 e)

  pub child_sighted : (n : ℕ) (p : Place) (c : Child) (i : ℕ) (x : Sight) → (c.version ≡ 0 → ⊥) → look.node c.version p ≡ x →
      descend n look p c i ≡ at_sight p x i (kids_at n p)
  child_sighted n p c i x h e = descend_is n p c i ∙ rw (ne_eqb c.version 0 h, e)

-- at an inner record: to the left below its left count, else to the right with the rest
module _ (p : Place) (r : Record) (l m : Child) (i : ℕ) (below : Side → Child → ℕ → Answer Grant) (e : r.body ≡ inner_body l m) where
  pub goes_left : i < r.counts.leftward → at_body p r.body r.counts i below ≡ below left l i
  goes_left h = rw (e, lt-ltb i r.counts.leftward h)

  pub goes_right : r.counts.leftward ≤ i → at_body p r.body r.counts i below ≡ below right m (i - r.counts.leftward)
  goes_right h = rw (e, le-ltb i r.counts.leftward h)

-- at a leaf: misplaced, with a position left over, or the one asked for
module _ (p : Place) (r : Record) (k x : Bytes) (i : ℕ) (below : Side → Child → ℕ → Answer Grant) (e : r.body ≡ leaf_body k x) where
  pub leaf_misplaced : begins p k ≡ false → at_body p r.body r.counts i below ≡ refused 3
  leaf_misplaced f = rw (e, f)

  pub leaf_left_over : 1 ≤ i → at_body p r.body r.counts i below ≡ refused 3
  leaf_left_over h = rw (e, ne_eqb i 0 (λ z. omega arith)) (either_way (begins p k) (refused 3))

  pub leaf_there : begins p k ≡ true → i ≡ 0 → at_body p r.body r.counts i below ≡ accepted (grant k x)
  leaf_there f z = rw (e, f, eq-eqb i 0 z)
