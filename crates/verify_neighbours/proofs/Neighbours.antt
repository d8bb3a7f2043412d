-- The neighbours of a proof in form as the code checks them: one test after the other, each of them the definition's.
-- Assumes nothing.
use Prim.Native.Nat.{ℕ}
use native.Mathlib.Omega.{arith}
use mathlib.Core.Path.{◌≡◌}
use mathlib.Core.Bool.{Bool, true, false}
use lib.ListN.{drop}
use Rattle.terms.specs.Bits.{Bytes, Side, left, right, same_bytes}
use Rattle.terms.specs.Fields.{field}
use Rattle.terms.proofs.Tests.{and_left}
use Rattle.meaning.specs.Proving.{beyond}
use Rattle.meaning.specs.Checking.{leads_to, neighbour_holds}
use Rattle.proofrecords.specs.ProofBytes.{step_count, presence_in, left_part, right_part, flags, absence_in}
use Rattle.proofrecords.specs.Steps.{first_steps}
use Rattle.verify_path.specs.Paths.{top_after}
use Rattle.verify_neighbours.specs.Neighbours.{leads, neighbour, lone_neighbour, both_neighbours, neighbours}

-- no test says both
pub never : {b : Bool} → b ≡ false → b ≡ true → ⊥
never e d = let z : ◌≡◌ {A = ℕ} 0 1 = cc in omega arith

-- the steps of the count in the head are all steps
pub all_steps : (n : ℕ) (x : Bytes) → n ≡ field 6 2 x → first_steps n x ≡ (presence_in x).steps
unfolding presence_in step_count
all_steps n x e = rw e

-- the hash that n steps lead to is compared with the root
pub top_leads : (n : ℕ) (h root x : Bytes) → n ≡ field 6 2 x → h ≡ top_after n x →
    same_bytes h root ≡ leads root x
unfolding leads_to presence_in
top_leads n h root x e d = rw (d, all_steps n x e)

module _ (root k x : Bytes) where
  -- a neighbour that holds leads to the root
  pub neighbour_leads : (b : Side) → neighbour b root k x ≡ true → leads root x ≡ true
  unfolding neighbour_holds
  neighbour_leads b h = and_left (leads root x) (beyond b (presence_in x).key k) h

  -- the neighbours by the flags
  pub left_shown : flags x ≡ 1 → neighbours root k x ≡ lone_neighbour left root k (drop 40 x)
  unfolding absence_in
  left_shown f = rw f

  pub right_shown : flags x ≡ 2 → neighbours root k x ≡ lone_neighbour right root k (drop 40 x)
  unfolding absence_in
  right_shown f = rw f

  pub both_shown : flags x ≡ 3 → neighbours root k x ≡ both_neighbours root k (left_part x) (right_part x)
  unfolding absence_in
  both_shown f = rw f
