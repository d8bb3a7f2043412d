-- Reads, proofs and checks of the desk's example, computed: with hashes as names where nothing compares them, with two toy hash functions
-- where the checker does. What is refused here must be refused. Assumes nothing.
use Prim.Native.Nat.{ℕ, ◌+◌, ◌*◌, ◌%◌}
use mathlib.Core.Path.{◌≡◌, refl}
use mathlib.Core.Bool.{true, false}
use mathlib.Core.List.{List, [], ◌∷◌, ◌++◌, map}
use mathlib.Core.Option.{none, some}
use lib.ListN.{length, take, drop, replicate}
use Rattle.terms.specs.Bits.{Bytes, left, right, Place, pack}
use Rattle.terms.specs.Fields.{le}
use Rattle.terms.specs.Records.{Grant, grant, Slot, free, spoiled, Store, Presence, Proof, presence, zeros}
use Rattle.meaning.specs.Tree.{grants_in}
use Rattle.meaning.specs.Store.{tree_at_version}
use Rattle.meaning.specs.Calls.{Answer, refused, accepted}
use Rattle.meaning.specs.Reading.{Verdict, present, absent, read_key, beside, root_read, read_root, answer_of}
use Rattle.meaning.specs.Sight.{scan}
use Rattle.meaning.specs.Counting.{read_number, read_position}
use Rattle.meaning.specs.Proving.{step, presence_of, absence_of, proof, proof_length, prove}
use Rattle.meaning.specs.Checking.{checked}
use Rattle.meaning.specs.Desk.{key_of, lf, nd, store, h01, h0, root₁, s₁, s₂, s₆, s₉}
use Rattle.meaning.specs.Desk as desk
use Rattle.meaning.specs.DeskGaps.{g₁₅}
use Rattle.meaning.specs.Computed.{computed}

-- the desk's keys and values
abbrev A : Bytes
A = (desk.A).key

abbrev B : Bytes
B = (desk.B).key

abbrev C : Bytes
C = (desk.C).key

abbrev D : Bytes
D = (desk.D).key

abbrev E : Bytes
E = (desk.E).key

abbrev F : Bytes
F = (desk.F).key

abbrev a : Bytes
a = (desk.A).value

abbrev b : Bytes
b = (desk.B).value

abbrev c : Bytes
c = (desk.C).value

abbrev d : Bytes
d = (desk.D).value

abbrev c' : Bytes
c' = (desk.C').value

-- a key between B and C, and one right of all
abbrev G : Bytes
G = key_of 0b01000000 7

abbrev H : Bytes
H = key_of 255 255

module _ (leaf_hash inner_hash : Bytes → Bytes → Bytes) where
  abbrev one : Store
  one = s₁ leaf_hash inner_hash

  abbrev six : Store
  six = s₆ leaf_hash inner_hash

  abbrev nine : Store
  nine = s₉ leaf_hash inner_hash

  -- the paths of M1
  abbrev to_a : Presence
  to_a = presence_of A a (step left (h01 leaf_hash inner_hash) ∷ step left (desk.h leaf_hash inner_hash desk.D) ∷ [])

  abbrev to_b : Presence
  to_b = presence_of B b (step left (desk.h leaf_hash inner_hash desk.C) ∷ step right (desk.h leaf_hash inner_hash desk.A) ∷ step left (desk.h leaf_hash inner_hash desk.D) ∷ [])

  abbrev to_c : Presence
  to_c = presence_of C c (step right (desk.h leaf_hash inner_hash desk.B) ∷ step right (desk.h leaf_hash inner_hash desk.A) ∷ step left (desk.h leaf_hash inner_hash desk.D) ∷ [])

  abbrev to_d : Presence
  to_d = presence_of D d (step right (h0 leaf_hash inner_hash) ∷ [])

  -- C is present; F has A and B beside it, G has B and C; H is right of all
  pub proofs_of_m1 : map (proof one 1) (C ∷ F ∷ G ∷ H ∷ [])
      ≡ accepted (presence to_c)
      ∷ accepted (absence_of F (some to_a) (some to_b))
      ∷ accepted (absence_of G (some to_b) (some to_c))
      ∷ accepted (absence_of H (some to_d) none)
      ∷ []
  unfolding computed
  proofs_of_m1 = refl

  -- lone inner children have zero siblings: A is present, and B has A and F on its left, where the walk wanted to go right
  pub proofs_of_m9 : map (proof nine 1) (A ∷ B ∷ [])
      ≡ accepted (presence (presence_of A a
      (step left (desk.h leaf_hash inner_hash desk.F) ∷ step left zeros ∷ step left zeros ∷ step left zeros ∷ [])))
      ∷ accepted (absence_of B (some (presence_of F b
      (step right (desk.h leaf_hash inner_hash desk.A) ∷ step left zeros ∷ step left zeros ∷ step left zeros ∷ []))) none)
      ∷ []
  unfolding computed
  proofs_of_m9 = refl

  -- after M6: no neighbour in versions 0 and 6, a left one, a right one, and both
  pub flags_of_m6 : proof six 0 C ∷ proof six 6 C ∷ proof six 5 D ∷ proof six 5 A ∷ proof six 4 D ∷ proof six 3 B ∷ []
      ≡ refused 14
      ∷ refused 14
      ∷ accepted (absence_of D (some (presence_of C c' [])) none)
      ∷ accepted (absence_of A none (some (presence_of C c' [])))
      ∷ accepted (presence (presence_of D d (step right (leaf_hash C c') ∷ [])))
      ∷ accepted (absence_of B (some (presence_of A a (step left (leaf_hash C c') ∷ step left (desk.h leaf_hash inner_hash desk.D) ∷ [])))
      (some (presence_of C c' (step right (desk.h leaf_hash inner_hash desk.A) ∷ step left (desk.h leaf_hash inner_hash desk.D) ∷ []))))
      ∷ []
  unfolding computed
  flags_of_m6 = refl

  -- a buffer that holds the proof, and one byte less
  pub rooms_of_m1 : proof_length (presence to_c) ∷ proof_length (absence_of F (some to_a) (some to_b)) ∷ [] ≡ 171 ∷ 349 ∷ []
  unfolding computed
  rooms_of_m1 = refl

  pub room_for_proofs : prove one 1 C 171 ∷ prove one 1 C 170 ∷ prove one 1 F 349 ∷ prove one 1 F 348 ∷ prove one 2 F 0 ∷ []
      ≡ accepted (presence to_c) ∷ refused 9 ∷ accepted (absence_of F (some to_a) (some to_b)) ∷ refused 9 ∷ refused 8 ∷ []
  unfolding computed
  room_for_proofs = refl

  pub reads_of_m2 : map (λ v. read_key (s₂ leaf_hash inner_hash) v B) (0 ∷ 1 ∷ 2 ∷ 3 ∷ [])
      ≡ accepted absent ∷ accepted (present b) ∷ accepted absent ∷ refused 8 ∷ []
  unfolding computed
  reads_of_m2 = refl

  pub roots_of_m1 : map (read_root leaf_hash inner_hash one) (0 ∷ 1 ∷ 2 ∷ [])
      ≡ accepted zeros ∷ accepted (root₁ leaf_hash inner_hash) ∷ refused 8 ∷ []
  unfolding computed
  roots_of_m1 = refl

  -- the leaf B is lost: B and the absence of F give 17; F reads as absent, and C is proved
  abbrev damaged : ℕ → ℕ → Store
  damaged old new = store old new (drop 1 one.slots)

  pub reads_of_damaged : map (read_key (damaged 0 1) 1) (B ∷ C ∷ F ∷ []) ≡ refused 17 ∷ accepted (present c) ∷ accepted absent ∷ []
  unfolding computed
  reads_of_damaged = refl

  pub proofs_of_damaged : map (proof (damaged 0 1) 1) (B ∷ C ∷ F ∷ []) ≡ refused 17 ∷ accepted (presence to_c) ∷ refused 17 ∷ []
  unfolding computed
  proofs_of_damaged = refl

  -- 8 comes before 3
  pub eight_before_three : read_key (damaged 2 2) 1 B ≡ refused 8
  unfolding computed
  eight_before_three = refl

  pub eight_before_three_proving : proof (damaged 2 2) 1 B ≡ refused 8
  unfolding computed
  eight_before_three_proving = refl

  -- a slot's bytes, with these head fields and else spoilt
  abbrev head : Place → ℕ → ℕ → Slot
  head p v since = spoiled (replicate 6 9 ++ le 2 (length p) ++ pack 32 p ++ le 4 v ++ le 4 since ++ replicate 72 9)

  -- B, whose place is 010, is spoilt in its slot 0 and in slot 7: 3 with the lowest. A record in form that matches wins over it, and one of
  -- another version is no match
  abbrev hidden : List Slot → Store
  hidden more = store 0 1 (head (false ∷ true ∷ false ∷ []) 1 0 ∷ drop 1 one.slots ++ more)

  abbrev spare : List Slot
  spare = head (false ∷ true ∷ false ∷ []) 1 0 ∷ []

  pub reads_of_spoilt : map (read_key (hidden spare) 1) (B ∷ C ∷ F ∷ []) ≡ refused (beside 3 0) ∷ accepted (present c) ∷ accepted absent ∷ []
  unfolding computed
  reads_of_spoilt = refl

  pub proofs_of_spoilt : map (proof (hidden spare) 1) (B ∷ C ∷ F ∷ []) ≡ refused (beside 3 0) ∷ accepted (presence to_c) ∷ refused (beside 3 0) ∷ []
  unfolding computed
  proofs_of_spoilt = refl

  pub in_form_wins : read_key (hidden (lf (false ∷ true ∷ false ∷ []) 1 (grant B b) 0 ∷ [])) 1 B ≡ accepted (present b)
  unfolding computed
  in_form_wins = refl

  pub other_version_is_lost : read_key (store 0 1 (head (false ∷ true ∷ false ∷ []) 2 0 ∷ drop 1 one.slots)) 1 B ≡ refused 17
  unfolding computed
  other_version_is_lost = refl

  -- the first met: D's walk ends at the missing child 10, its left neighbour is the leaf 0, and its right one stands below 11
  abbrev gap : Slot → Slot → Store
  gap x y = store 0 1 (x ∷ y ∷ nd (true ∷ []) 1 0 zeros 1 (desk.h leaf_hash inner_hash desk.C) 0 1 0 ∷ nd [] 1 1 (desk.h leaf_hash inner_hash desk.A) 1 (desk.h leaf_hash inner_hash desk.B) 1 1 0 ∷ [])

  abbrev spoilt₀ : Slot
  spoilt₀ = head (false ∷ []) 1 0

  abbrev spoilt₁₁ : Slot
  spoilt₁₁ = head (true ∷ true ∷ []) 1 0

  pub left_before_right : proof (gap spoilt₀ free) 1 D ∷ proof (gap free spoilt₁₁) 1 D ∷ proof (gap (lf (false ∷ []) 1 (grant A a) 0) spoilt₁₁) 1 D ∷ []
      ≡ refused (beside 3 0) ∷ refused 17 ∷ refused (beside 3 1) ∷ []
  unfolding computed
  left_before_right = refl

  -- a root: lost, the version is empty, and a free slot agrees with none; spoilt, 3 with its slot, where its lifetime covers the version
  abbrev no_root : List Slot → Store
  no_root more = store 0 3 (free ∷ more)

  pub roots_of_spoilt : map (read_root leaf_hash inner_hash (no_root (head [] 1 3 ∷ []))) (0 ∷ 1 ∷ 2 ∷ 3 ∷ [])
      ≡ accepted zeros ∷ refused (beside 3 1) ∷ refused (beside 3 1) ∷ accepted zeros ∷ []
  unfolding computed
  roots_of_spoilt = refl

  pub proofs_without_root : proof (no_root []) 1 A ∷ proof (no_root (head [] 0 0 ∷ [])) 0 A ∷ [] ≡ refused 14 ∷ refused (beside 3 1) ∷ []
  unfolding computed
  proofs_without_root = refl

  -- a leaf whose key doesn't begin with its place gives 3 to the walk and to the descent
  abbrev misplaced : Store
  misplaced = store 0 1 (lf (false ∷ []) 1 (grant D d) 0 ∷ lf (true ∷ []) 1 (grant E c) 0 ∷ nd [] 1 1 (desk.h leaf_hash inner_hash desk.D) 1 (leaf_hash E c) 1 1 0 ∷ [])

  pub reads_of_misplaced : map (read_key misplaced 1) (A ∷ E ∷ D ∷ []) ≡ refused 3 ∷ accepted (present c) ∷ accepted absent ∷ []
  unfolding computed
  reads_of_misplaced = refl

  pub proofs_of_misplaced : proof misplaced 1 D ≡ refused 3
  unfolding computed
  proofs_of_misplaced = refl

  -- the number of grants and the grants by position, of M1, of an empty version, and pruned ones
  pub numbers_of_m6 : map (read_number six) (0 ∷ 1 ∷ 2 ∷ 3 ∷ 4 ∷ 5 ∷ 6 ∷ 7 ∷ [])
      ≡ accepted 0 ∷ accepted 4 ∷ accepted 3 ∷ accepted 3 ∷ accepted 2 ∷ accepted 1 ∷ accepted 0 ∷ refused 8 ∷ []
  unfolding computed
  numbers_of_m6 = refl

  pub positions_of_m1 : map (read_position one 1) (0 ∷ 1 ∷ 2 ∷ 3 ∷ 4 ∷ [])
      ≡ accepted (grant A a) ∷ accepted (grant B b) ∷ accepted (grant C c) ∷ accepted (grant D d) ∷ refused 20 ∷ []
  unfolding computed
  positions_of_m1 = refl

  -- counts that are wrong: at a missing child and at a leaf with a position left over 3, where the root's counts let the position pass; a lost
  -- leaf 17, a misplaced one 3; no other leaf is looked at
  abbrev miscounted : ℕ → ℕ → Slot → Store
  miscounted l r x = store 0 1
      (lf (false ∷ []) 1 (grant A a) 0 ∷ x ∷ nd (true ∷ []) 1 0 zeros 1 (desk.h leaf_hash inner_hash desk.D) l 1 0 ∷ nd [] 1 1 (desk.h leaf_hash inner_hash desk.A) 1 (desk.h leaf_hash inner_hash desk.D) 1 r 0 ∷ [])

  abbrev leaf_d : Slot
  leaf_d = lf (true ∷ true ∷ []) 1 (grant H d) 0

  pub positions_of_miscounted :
      read_number (miscounted 0 4294967295 leaf_d) 1
      ∷ read_number (miscounted 0 1 free) 1
      ∷ []
      ≡ accepted 4294967296 ∷ accepted 2 ∷ []
  unfolding computed
  positions_of_miscounted = refl

  pub grants_of_miscounted :
      map (read_position (miscounted 0 2 leaf_d) 1) (0 ∷ 1 ∷ 2 ∷ 3 ∷ [])
      ++ read_position (miscounted 1 2 leaf_d) 1 1
      ∷ read_position (miscounted 0 2 free) 1 1
      ∷ read_position (miscounted 0 2 (lf (true ∷ true ∷ []) 1 (grant D d) 0)) 1 1
      ∷ read_position (miscounted 0 2 free) 1 0
      ∷ read_position (miscounted 0 2 (head (true ∷ true ∷ []) 1 0)) 1 1
      ∷ []
      ≡ accepted (grant A a) ∷ accepted (grant H d) ∷ refused 3 ∷ refused 20 ∷ refused 3 ∷ refused 17 ∷ refused 3 ∷ accepted (grant A a) ∷ refused (beside 3 1) ∷ []
  unfolding computed
  grants_of_miscounted = refl

-- Toy hash functions, which forget the last byte of a key and of a hash: what they don't see, the checker must.
abbrev mix : ℕ → Bytes → ℕ
mix m [] = m
mix m (x ∷ xs) = mix ((m * 31 + x) % 251) xs

abbrev toy_leaf : Bytes → Bytes → Bytes
toy_leaf k x = 1 ∷ mix 1 (take 31 k ++ x) ∷ replicate 30 0

abbrev toy_inner : Bytes → Bytes → Bytes
toy_inner l r = 2 ∷ mix 2 (take 31 l ++ take 31 r) ∷ replicate 30 0

-- The checker's answer to what the prover gives, against the root that is read.
abbrev check_given : Bytes → Bytes → Answer Proof → Answer Verdict
check_given root k (refused n) = refused n
check_given root k (accepted p) = checked toy_leaf toy_inner root k p

abbrev root_given : Answer Bytes → Bytes
root_given (refused n) = zeros
root_given (accepted root) = root

abbrev shown_of : Store → ℕ → Bytes → Answer Verdict
shown_of st v k = check_given (root_given (root_read toy_leaf toy_inner ((scan st).root v))) k (proof st v k)

-- What it should be: what the version's grants say of the key, and 14 where it holds none.
abbrev or_empty : List Grant → Answer Verdict → Answer Verdict
or_empty [] said = refused 14
or_empty (g ∷ gs) said = said

abbrev said_of : Store → ℕ → Bytes → Answer Verdict
said_of st v k = let gs = grants_in (tree_at_version st v) in or_empty gs (accepted (answer_of k gs))

abbrev keys : List Bytes
keys = A ∷ B ∷ C ∷ D ∷ E ∷ F ∷ G ∷ H ∷ []

-- eight keys in each version after M6, and after M9
pub proofs_accepted : map (λ v. map (shown_of (s₆ toy_leaf toy_inner) v) keys) (0 ∷ 1 ∷ 2 ∷ 3 ∷ 4 ∷ 5 ∷ 6 ∷ [])
    ≡ map (λ v. map (said_of (s₆ toy_leaf toy_inner) v) keys) (0 ∷ 1 ∷ 2 ∷ 3 ∷ 4 ∷ 5 ∷ 6 ∷ [])
unfolding computed
proofs_accepted = refl

-- and in versions with gaps between the numbers: before 5, between 5, 9 and 12, in the empty stretch, at 15
abbrev spread : List ℕ
spread = 4 ∷ 5 ∷ 7 ∷ 9 ∷ 11 ∷ 12 ∷ 14 ∷ 15 ∷ []

pub proofs_with_gaps_accepted : map (λ v. map (shown_of (g₁₅ toy_leaf toy_inner) v) keys) spread
    ≡ map (λ v. map (said_of (g₁₅ toy_leaf toy_inner) v) keys) spread
unfolding computed
proofs_with_gaps_accepted = refl

pub reads_with_gaps : map (λ v. read_key (g₁₅ toy_leaf toy_inner) v C) spread
    ≡ accepted absent ∷ accepted (present c) ∷ accepted (present c) ∷ accepted (present c') ∷ accepted (present c') ∷ accepted absent
    ∷ accepted absent ∷ accepted absent ∷ []
unfolding computed
reads_with_gaps = refl

pub proofs_of_m9_accepted : map (shown_of (s₉ toy_leaf toy_inner) 1) keys ≡ map (said_of (s₉ toy_leaf toy_inner) 1) keys
unfolding computed
proofs_of_m9_accepted = refl

-- The checker against M1's root, with the toy hash functions.
abbrev root : Bytes
root = root₁ toy_leaf toy_inner

abbrev check : Bytes → Proof → Answer Verdict
check k p = checked toy_leaf toy_inner root k p

abbrev p_a : Presence
p_a = to_a toy_leaf toy_inner

abbrev p_b : Presence
p_b = to_b toy_leaf toy_inner

abbrev p_c : Presence
p_c = to_c toy_leaf toy_inner

abbrev p_d : Presence
p_d = to_d toy_leaf toy_inner

-- presence: another key, another value, another root, a step left out, a side turned
pub presence_refused : check A (presence p_a) ∷ check F (presence p_a) ∷ check A (presence (presence_of A b p_a.steps))
    ∷ checked toy_leaf toy_inner zeros A (presence p_a) ∷ check A (presence (presence_of A a (drop 1 p_a.steps)))
    ∷ check A (presence (presence_of A a (step right (h01 toy_leaf toy_inner) ∷ step left (desk.h toy_leaf toy_inner desk.D) ∷ []))) ∷ []
    ≡ accepted (present a) ∷ refused 11 ∷ refused 11 ∷ refused 11 ∷ refused 11 ∷ refused 11 ∷ []
unfolding computed
presence_refused = refl

-- absence of F: another key in the proof, a neighbour left out, both, the two exchanged; and neighbours that are not next to each other
pub absence_refused : check F (absence_of F (some p_a) (some p_b)) ∷ check F (absence_of G (some p_a) (some p_b))
    ∷ check F (absence_of F (some p_a) none) ∷ check F (absence_of F none (some p_b)) ∷ check F (absence_of F none none)
    ∷ check F (absence_of F (some p_b) (some p_a)) ∷ check F (absence_of F (some p_a) (some p_c)) ∷ check G
    (absence_of G (some p_b) (some p_d)) ∷ []
    ≡ accepted absent ∷ refused 11 ∷ refused 11 ∷ refused 11 ∷ refused 11 ∷ refused 11 ∷ refused 11 ∷ refused 11 ∷ []
unfolding computed
absence_refused = refl

-- a key is not absent beside itself
pub equal_keys_refused : check A (absence_of A (some p_a) (some p_b)) ∷ check B (absence_of B (some p_a) (some p_b))
    ∷ check D (absence_of D (some p_d) none) ∷ check A (absence_of A none (some p_a)) ∷ []
    ≡ refused 11 ∷ refused 11 ∷ refused 11 ∷ refused 11 ∷ []
unfolding computed
equal_keys_refused = refl

-- steps that agree in their side and not in their sibling are not equal: B's path with another last byte of D's hash leads to the root, too
abbrev p_b' : Presence
p_b' =
    presence_of B b (step left (desk.h toy_leaf toy_inner desk.C) ∷ step right (desk.h toy_leaf toy_inner desk.A) ∷ step left
    (take 31 (desk.h toy_leaf toy_inner desk.D) ++ (7 ∷ [])) ∷ [])

pub unequal_steps_refused : check B (presence p_b') ∷ check F (absence_of F (some p_a) (some p_b')) ∷ []
    ≡ accepted (present b) ∷ refused 11 ∷ []
unfolding computed
unequal_steps_refused = refl

-- a step must remain in each path: with D's path twice, the second time for a key that differs in the byte the toy forgets
abbrev p_d' : Presence
p_d' = presence_of (key_of 0b10000000 2) d p_d.steps

pub equal_paths_refused : check (key_of 0b10000000 2) (presence p_d') ∷ check E (absence_of E (some p_d) (some p_d')) ∷ []
    ≡ accepted (present d) ∷ refused 11 ∷ []
unfolding computed
equal_paths_refused = refl

-- a proof without a neighbour holds under no root, nor does one with a neighbour under the zero root
pub flags_0 : checked toy_leaf toy_inner zeros A (absence_of A none none) ∷ check A (absence_of A none none)
    ∷ checked toy_leaf toy_inner zeros F (absence_of F (some p_a) none) ∷ checked toy_leaf toy_inner zeros F (absence_of F none (some p_b))
    ∷ checked toy_leaf toy_inner zeros F (absence_of F (some p_a) (some p_b)) ∷ []
    ≡ refused 11 ∷ refused 11 ∷ refused 11 ∷ refused 11 ∷ refused 11 ∷ []
unfolding computed
flags_0 = refl

-- 8 comes before 14; an empty version is one whose root is not found, be it lost; a key read there answers absent, and the root read zeros
abbrev rootless : Store
rootless = store 1 1 (take 6 (s₁ toy_leaf toy_inner).slots)

pub eight_before_fourteen : map (λ v. proof rootless v A) (0 ∷ 1 ∷ 2 ∷ []) ≡ refused 8 ∷ refused 14 ∷ refused 8 ∷ []
unfolding computed
eight_before_fourteen = refl

pub reads_of_rootless : (read_key rootless 1 A ≡ accepted absent) × (read_root toy_leaf toy_inner rootless 1 ≡ accepted zeros)
unfolding computed
reads_of_rootless = (refl, refl)
