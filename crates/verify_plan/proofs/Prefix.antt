-- A presence proof says the same whatever follows it. Assumes nothing.
use Prim.Native.Nat.{ℕ, zero, suc, ◌+◌, ◌*◌, ◌-◌, ◌<◌, ◌≤◌}
use native.Mathlib.Omega.{arith}
use mathlib.Core.Path.{◌≡◌, refl, ap, ap₂, sym, ◌∙◌}
use mathlib.Core.Bool.{Bool}
use mathlib.Core.List.{List, ◌∷◌}
use lib.ListN.{length, take, drop, get_or, length-take, length-drop}
use lib.Seq.{take-take, drop-drop, get_or-take}
use Rattle.terms.proofs.Lists.{drop_take}
use lib.Dec.{eqb}
use Rattle.terms.specs.Bits.{Bytes}
use Rattle.terms.specs.Fields.{num, slice, field}
use Rattle.terms.specs.Records.{Step, Presence}
use Rattle.proofrecords.specs.ProofBytes.{step_count, steps_in, presence_in}
use Rattle.proofrecords.specs.Steps.{Room}
use Rattle.verify_neighbours.specs.Neighbours.{leads}
use Rattle.verify_one.specs.Lane.{Lies}

front_slice : (o n k : ℕ) (z : Bytes) → o + n ≤ k → slice o n (take k z) ≡ slice o n z
unfolding slice
front_slice o n k z h = rw (drop_take o k z) (take-take n (k - o) (drop o z) (omega arith))

front_field : (o n k : ℕ) (z : Bytes) → o + n ≤ k → field o n (take k z) ≡ field o n z
unfolding field
front_field o n k z h = ap num (front_slice o n k z h)

front_steps : (n k : ℕ) (z : Bytes) → 33 * n ≤ k → steps_in n (take k z) ≡ steps_in n z
front_steps zero k z h = refl
front_steps (suc n) k z h =
    ap₂ ◌∷◌
    (ap₂ (λ (b : ℕ) (s : Bytes). record { side = eqb b 1; sibling = s }) (get_or-take k z 0 0 (omega arith)) (front_slice 1 32 k z (omega arith)))
    (ap (steps_in n) (drop_take 33 k z) ∙ front_steps n (k - 33) (drop 33 z) (omega arith))

-- the count, the record, and where it leads, of the first k bytes of z
module _ (k : ℕ) (z : Bytes) where
  room_front : Room (step_count (take k z)) (take k z) → 72 + 33 * step_count (take k z) ≤ k
  room_front h = omega (arith, length-take k z)

  pub count_front : Room (step_count (take k z)) (take k z) → step_count (take k z) ≡ step_count z
  unfolding step_count
  count_front h = let r = room_front h in front_field 6 2 k z (omega arith)

  pub record_front : Room (step_count (take k z)) (take k z) → presence_in (take k z) ≡ presence_in z
  unfolding presence_in
  record_front h =
      let r = room_front h in
      let e : steps_in (step_count (take k z)) (drop 72 (take k z)) ≡ steps_in (step_count z) (drop 72 z) =
      ap (steps_in (step_count (take k z))) (drop_take 72 k z)
      ∙ front_steps (step_count (take k z)) (k - 72) (drop 72 z) (omega arith)
      ∙ ap (λ (n : ℕ). steps_in n (drop 72 z)) (count_front h) in
      rw (front_slice 8 32 k z (omega arith), front_slice 40 32 k z (omega arith), e)

  pub leads_front : (root : Bytes) → Room (step_count (take k z)) (take k z) → leads root (take k z) ≡ leads root z
  leads_front root h = rw (record_front h)

  pub room_whole : Room (step_count (take k z)) (take k z) → Room (step_count z) z
  room_whole h = omega (arith, count_front h, length-take k z)

-- a record in a part of the bytes lies where it does in the whole
part_there : (p : Bytes) (a l f : ℕ) → drop f (take l (drop a p)) ≡ take (l - f) (drop (a + f) p)
part_there p a l f = drop_take f l (drop a p) ∙ ap (take (l - f)) (drop-drop f a p)

pub lies_there : (p : Bytes) (a l f : ℕ) → Lies (take l (drop a p)) f → Lies p (a + f)
lies_there p a l f h = room_whole (l - f) (drop (a + f) p) (rw (part_there p a l f) at h)

pub leads_there : (p : Bytes) (a l f : ℕ) (root : Bytes) → Lies (take l (drop a p)) f →
    leads root (drop f (take l (drop a p))) ≡ leads root (drop (a + f) p)
leads_there p a l f root h = ap (leads root) (part_there p a l f) ∙ leads_front (l - f) (drop (a + f) p) root (rw (part_there p a l f) at h)
