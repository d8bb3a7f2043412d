-- Worked out by hand and computed, with a toy hash of 31 values: accepted proofs that say something false, one for each way a forged proof can go,
-- and what is found. Assumes nothing.
use Prim.Native.Nat.{ℕ, ◌+◌, ◌*◌, ◌%◌}
use mathlib.Core.Path.{◌≡◌, refl}
use mathlib.Core.List.{List, [], ◌∷◌}
use mathlib.Core.Option.{none, some}
use lib.ListN.{replicate}
use Rattle.terms.specs.Bits.{Bytes, left, right}
use Rattle.terms.specs.Records.{grant, Proof, presence, Store, zeros}
use Rattle.meaning.specs.Tree.{hash, unversioned}
use Rattle.meaning.specs.Store.{tree_at_version}
use Rattle.meaning.specs.Calls.{Answer, accepted}
use Rattle.meaning.specs.Reading.{Verdict, present, absent}
use Rattle.meaning.specs.Proving.{step, presence_of, absence_of}
use Rattle.meaning.specs.Checking.{checked}
use Rattle.meaning.specs.Computed.{computed}
use Rattle.meaning.specs.Desk.{lf, nd, store}
use Rattle.forgery.specs.Messages.{leaf_message, inner_message, stands_in, leaf_hash, inner_hash, path_messages}
use Rattle.forgery.specs.Finding.{Finding, nothing, two_equal, one_zero, finding}

-- The bytes as digits, lowest first, in base 3 and modulo 31.
abbrev digits : Bytes → ℕ
digits [] = 0
digits (b ∷ bs) = (b + 3 * digits bs) % 31

abbrev of : ℕ → Bytes
of n = n ∷ replicate 31 0

abbrev toy : Bytes → Bytes
toy m = of (digits m)

-- A begins 0, C 01, B 1. A with value 1 has hash 28, B with value 11 the hash zero; the root above them 22.
abbrev A : Bytes
A = of 0

abbrev C : Bytes
C = of 64

abbrev B : Bytes
B = of 128

abbrev two : Store
two = store 0 1
    (lf (left ∷ []) 1 (grant A (of 1)) 0
    ∷ lf (right ∷ []) 1 (grant B (of 11)) 0
    ∷ nd [] 1 1 (of 28) 1 zeros 1 1 0
    ∷ [])

-- A and C below 0, nothing below 1: C with value 1 has hash 3, the inner node 6, the root 18.
abbrev gap : Store
gap = store 0 1
    (lf (left ∷ left ∷ []) 1 (grant A (of 1)) 0
    ∷ lf (left ∷ right ∷ []) 1 (grant C (of 1)) 0
    ∷ nd (left ∷ []) 1 1 (toy (leaf_message A (of 1))) 1 (toy (leaf_message C (of 1))) 1 1 0
    ∷ nd [] 1 1 (toy (inner_message (toy (leaf_message A (of 1))) (toy (leaf_message C (of 1))))) 0 zeros 2 0 0
    ∷ [])

-- What the checker answers, and what is found.
abbrev tried : Store → Bytes → Proof → Answer Verdict × Finding
tried st k p = (
  checked (leaf_hash toy) (inner_hash toy) (hash (leaf_hash toy) (inner_hash toy) (unversioned (tree_at_version st 1))) k p,
  finding toy st 1 p,
)

-- A with its value: true.
true_proof : tried two A (presence (presence_of A (of 1) (step left zeros ∷ []))) ≡ (accepted (present (of 1)), nothing)
unfolding computed finding stands_in path_messages
true_proof = refl

-- A with another value of the same hash: the two leaves.
another_value : tried two A (presence (presence_of A (of 32) (step left zeros ∷ [])))
    ≡ (accepted (present (of 32)), two_equal (leaf_message A (of 1)) (leaf_message A (of 32)))
unfolding computed finding stands_in path_messages
another_value = refl

-- A leaf whose hash is the root's: that leaf and the root.
leaf_for_root : tried two A (presence (presence_of A (of 18) []))
    ≡ (accepted (present (of 18)), two_equal (inner_message (of 28) zeros) (leaf_message A (of 18)))
unfolding computed finding stands_in path_messages
leaf_for_root = refl

-- B absent, for its leaf looks like no child: its message has hash zero.
granted_is_absent : tried two B (absence_of B (some (presence_of A (of 1) (step left zeros ∷ []))) none)
    ≡ (accepted absent, one_zero (leaf_message B (of 11)))
unfolding computed finding stands_in path_messages
granted_is_absent = refl

-- C is absent, but its neighbour A has another value.
false_neighbour : tried two C
    (absence_of C (some (presence_of A (of 32) (step left zeros ∷ []))) (some (presence_of B (of 11) (step right (of 28) ∷ []))))
    ≡ (accepted absent, two_equal (leaf_message A (of 1)) (leaf_message A (of 32)))
unfolding computed finding stands_in path_messages
false_neighbour = refl

-- B present where there is no child: the proof's own message has hash zero.
stands_for_none : tried gap B
    (presence (presence_of B (of 11) (step right (toy (inner_message (toy (leaf_message A (of 1))) (toy (leaf_message C (of 1))))) ∷ [])))
    ≡ (accepted (present (of 11)), one_zero (leaf_message B (of 11)))
unfolding computed finding stands_in path_messages
stands_for_none = refl
