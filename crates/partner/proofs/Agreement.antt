-- With our ProofSpec, ICS 23's check accepts a message of ours exactly where our check accepts our own record of it: an op's padding is the side
-- of its step, its empty branches a zero sibling; so leftmost, rightmost and neighbouring paths are the same. Assumes nothing.
use native.Mathlib.Omega.{arith}
use Prim.Native.Nat.{ℕ, zero, suc, ◌+◌, ◌*◌, ◌≤◌}
use mathlib.Core.Path.{◌≡◌, refl, ap, ap₂, sym, ◌∙◌, subst}
use mathlib.Core.Logic.{◌↔◌}
use mathlib.Core.Bool.{Bool, true, false, cond, ◌&&◌, ◌||◌, not, beq, false≢true}
use mathlib.Core.List.{List, [], ◌∷◌, ◌++◌, map, reverse, reverse-cons, append-nil}
use mathlib.Core.Option
use mathlib.Core.Option.{Option, none, some, bind}
use lib.ListN.{length, take, drop, length-map}
use lib.Dec.{eqb, leb, ltb}
use borrow.Author.Tests.{le-leb}
use Rattle.terms.specs.Bits.{Bytes, Side, left, right, All, digit, before, same_bytes}
use Rattle.terms.specs.Fields.{flat, all_of}
use Rattle.terms.specs.Records.{Step, Presence, Absence, Proof, presence, absence, zeros}
use Rattle.terms.proofs.Tests.{and_left, and_right, and_true, and_assoc, same_bytes_lem, bytes_same, same_bit, bit_same}
use Rattle.terms.proofs.Lists.{all_append}
use Rattle.proofrecords.specs.ProofBytes.{StepForm, most_steps}
use Rattle.meaning.specs.Checking.{keeps_to, outermost, same_step, part_from_top, paths_part, parent_hash, climb, leads_to, neighbour_holds, absence_holds, checked}
use Rattle.messages.specs.Message.{our_leaf, op_of, existence_of, own_presence}
use Rattle.messages.specs.Raws.{RawPresence, RawNeighbour, own_neighbour}
use Rattle.partner.specs.Verifying.{starts_with, passes, same_op, leaf_right, inner_right, fits, has_padding, first_branch, branch_of, empty_below, ends_empty, right_empty, is_left_most, is_right_most, neighbours_from_top, hashed, prehashed, leaf_applied, inner_applied, path_applied, calculated, existence_holds, for_comparison, key_before, neighbour_verified, non_existence_holds}
use Rattle.partner.specs.Ours.{our_spec, leaf_hash_by, inner_hash_by}

-- padding is the side
abbrev step : Side → Bytes → Step
step b x = record { side = b; sibling = x }

has_padding_lem : (b c : Side) (x : Bytes) → length x ≡ 32 → has_padding our_spec (op_of (step b x)) (digit c) ≡ beq b c
unfolding has_padding all_of
has_padding_lem false false x h = rw h
has_padding_lem false true x h = refl
has_padding_lem true false x h = rw h
has_padding_lem true true x h = rw h

branch_of_lem : (b : Side) (x : Bytes) → length x ≡ 32 → branch_of our_spec (op_of (step b x)) ≡ some (digit b)
unfolding branch_of
branch_of_lem false x h = rw (has_padding_lem false false x h)
branch_of_lem true x h = rw (has_padding_lem true false x h, has_padding_lem true true x h)

take_whole : (n : ℕ) (x : Bytes) → length x ≡ n → take n x ≡ x
take_whole zero [] h = refl
take_whole zero (b ∷ x) h = absurd (omega arith)
take_whole (suc n) [] h = refl
take_whole (suc n) (b ∷ x) h = rw (take_whole n x (omega arith))

leftmost_op : (b : Side) (x : Bytes) → length x ≡ 32 →
    has_padding our_spec (op_of (step b x)) 0 || passes (ends_empty our_spec (op_of (step b x)).prefix) (branch_of our_spec (op_of (step b x)))
    ≡ keeps_to left (step b x)
unfolding keeps_to ends_empty all_of
leftmost_op false x h = rw (has_padding_lem false false x h)
leftmost_op true x h = rw (has_padding_lem true false x h, branch_of_lem true x h, h, take_whole 32 x h) (and_true (same_bytes x zeros))

rightmost_op : (b : Side) (x : Bytes) → length x ≡ 32 →
    has_padding our_spec (op_of (step b x)) 1 || passes (right_empty our_spec (op_of (step b x))) (branch_of our_spec (op_of (step b x)))
    ≡ keeps_to right (step b x)
unfolding keeps_to ends_empty right_empty all_of
rightmost_op false x h = rw (has_padding_lem false true x h, branch_of_lem false x h, h, take_whole 32 x h) (and_true (same_bytes x zeros))
rightmost_op true x h = rw (has_padding_lem true true x h)

leftmost_as_ours : (steps : List Step) → All StepForm steps → is_left_most our_spec (map op_of steps) ≡ outermost left steps
unfolding all_of
leftmost_as_ours [] h = refl
leftmost_as_ours (s ∷ steps) h = ap₂ ◌&&◌ (leftmost_op s.side s.sibling h.0.0) (leftmost_as_ours steps h.1)

rightmost_as_ours : (steps : List Step) → All StepForm steps → is_right_most our_spec (map op_of steps) ≡ outermost right steps
unfolding all_of
rightmost_as_ours [] h = refl
rightmost_as_ours (s ∷ steps) h = ap₂ ◌&&◌ (rightmost_op s.side s.sibling h.0.0) (rightmost_as_ours steps h.1)

-- equal ops are equal steps
same_op_lem : (b c : Side) (x y : Bytes) → length x ≡ 32 → length y ≡ 32 → same_op (op_of (step b x)) (op_of (step c y)) ≡ same_step (step b x) (step c y)
unfolding same_op same_step
same_op_lem false false x y h k = refl
same_op_lem false true x [] h k = absurd (omega arith)
same_op_lem false true x (b ∷ y) h k = refl
same_op_lem true false [] y h k = absurd (omega arith)
same_op_lem true false (b ∷ x) y h k = refl
same_op_lem true true x y h k = and_true (same_bytes x y)

-- two paths from their tops
left_step : (b c : Side) (x y : Bytes) → length x ≡ 32 → length y ≡ 32 →
    passes (λ i. passes (λ j. eqb j (i + 1)) (branch_of our_spec (op_of (step c y)))) (branch_of our_spec (op_of (step b x))) ≡ not b && c
left_step false false x y h k = rw (branch_of_lem false x h, branch_of_lem false y k)
left_step false true x y h k = rw (branch_of_lem false x h, branch_of_lem true y k)
left_step true false x y h k = rw (branch_of_lem true x h, branch_of_lem false y k)
left_step true true x y h k = rw (branch_of_lem true x h, branch_of_lem true y k)

joined : (a b c : Bool) → a && (b && (c && true)) ≡ a && b && c
joined a b c = rw (and_true c) (sym (and_assoc a b c))

arranged : (a b c d e : Bool) → a && (b && (c && (d && (e && true)))) ≡ a && d && (b && c) && e
arranged false b c d e = refl
arranged true false c false e = refl
arranged true false c true e = refl
arranged true true false false e = refl
arranged true true false true e = refl
arranged true true true false e = refl
arranged true true true true e = and_true e

from_top : (xs ys : List Step) → All StepForm xs → All StepForm ys →
    neighbours_from_top our_spec (map op_of xs) (map op_of ys) ≡ part_from_top xs ys
unfolding all_of
from_top [] ys h k = refl
from_top (x ∷ xs) [] h k = refl
from_top (x ∷ xs) (y ∷ ys) h k =
    rw (
      same_op_lem x.side y.side x.sibling y.sibling h.0.0 k.0.0,
      from_top xs ys h.1 k.1,
      left_step x.side y.side x.sibling y.sibling h.0.0 k.0.0,
      rightmost_as_ours xs h.1,
      leftmost_as_ours ys k.1,
      joined (not x.side && y.side) (outermost right xs) (outermost left ys),
    )

ops_append : (xs ys : List Step) → map op_of (xs ++ ys) ≡ map op_of xs ++ map op_of ys
ops_append [] ys = refl
ops_append (x ∷ xs) ys = rw (ops_append xs ys)

ops_turned : (xs : List Step) → reverse (map op_of xs) ≡ map op_of (reverse xs)
ops_turned [] = refl
ops_turned (x ∷ xs) =
    reverse-cons (op_of x) (map op_of xs) ∙ ap (◌++ (op_of x ∷ [])) (ops_turned xs) ∙ sym (ops_append (reverse xs) (x ∷ []))
    ∙ ap (map op_of) (sym (reverse-cons x xs))

form_turned : (xs : List Step) → All StepForm xs → All StepForm (reverse xs)
form_turned [] h = tt
form_turned (x ∷ xs) h =
    rw (reverse-cons x xs) (all_append StepForm (reverse xs) (x ∷ []) (form_turned xs h.1) (h.0, tt))

-- IsLeftNeighbor and our test of two paths agree.
pub neighbours_as_ours : (xs ys : List Step) → All StepForm xs → All StepForm ys →
    neighbours_from_top our_spec (reverse (map op_of xs)) (reverse (map op_of ys)) ≡ paths_part xs ys
unfolding paths_part
neighbours_as_ours xs ys h k =
    rw (ops_turned xs, ops_turned ys) (from_top (reverse xs) (reverse ys) (form_turned xs h) (form_turned ys k))

-- what CheckAgainstSpec asks
inner_right_lem : (b : Side) (x : Bytes) → length x ≡ 32 → inner_right our_spec (op_of (step b x)) ≡ true
unfolding inner_right starts_with all_of
inner_right_lem false x h = rw h
inner_right_lem true x h = rw h

path_right : (steps : List Step) → All StepForm steps → all_of (map (inner_right our_spec) (map op_of steps)) ≡ true
unfolding all_of
path_right [] h = refl
path_right (s ∷ steps) h = rw (inner_right_lem s.side s.sibling h.0.0, path_right steps h.1)

fits_spec : (p : Presence) → RawPresence p → fits our_spec (existence_of p) ≡ true
unfolding fits leaf_right starts_with all_of
fits_spec p h =
    rw (length-map p.steps op_of, path_right p.steps h.steps32, le-leb 0 (length p.steps) (omega arith), le-leb (length p.steps) our_spec.max_depth h.short)

module _ (sha : Bytes → Bytes) (sha32 : (x : Bytes) → length (sha x) ≡ 32) where
  abbrev upward : Bytes → Step → Bytes
  upward h s = parent_hash (leaf_hash_by sha) (inner_hash_by sha) h s

  op_applied : (b : Side) (x h : Bytes) → length h ≡ 32 → inner_applied our_spec sha (op_of (step b x)) h ≡ some (upward h (step b x))
  unfolding inner_applied hashed
  op_applied false x h e = rw e
  op_applied true x h e = rw (append-nil h, e)

  up32 : (b : Side) (x h : Bytes) → length (upward h (step b x)) ≡ 32
  up32 false x h = sha32 (0 ∷ (h ++ x))
  up32 true x h = sha32 (0 ∷ (x ++ h))

  -- what a path leads to has 32 bytes
  pub climb32 : (steps : List Step) (h : Bytes) → length h ≡ 32 → length (climb (leaf_hash_by sha) (inner_hash_by sha) h steps) ≡ 32
  climb32 [] h e = e
  climb32 (s ∷ steps) h e = climb32 steps (upward h s) (up32 s.side s.sibling h)

  path_applied_lem : (steps : List Step) (h : Bytes) → length h ≡ 32 →
      path_applied our_spec sha h (map op_of steps) ≡ some (climb (leaf_hash_by sha) (inner_hash_by sha) h steps)
  unfolding bind
  path_applied_lem [] h e = refl
  path_applied_lem (s ∷ steps) h e =
      rw (op_applied s.side s.sibling h e, up32 s.side s.sibling h) (path_applied_lem steps (upward h s) (up32 s.side s.sibling h))

  -- Calculate gives what our own steps lead to.
  pub calculated_as_ours : (p : Presence) → RawPresence p →
      calculated our_spec sha (existence_of p)
      ≡ some (climb (leaf_hash_by sha) (inner_hash_by sha) (leaf_hash_by sha (sha p.key) (sha p.value)) p.steps)
  unfolding calculated leaf_applied prehashed hashed bind all_of
  calculated_as_ours p h =
      rw (le-leb 1 (length p.key) h.key_raw.some_byte, le-leb 1 (length p.value) h.value_raw.some_byte)
      (path_applied_lem p.steps (leaf_hash_by sha (sha p.key) (sha p.value)) (sha32 _))

  abbrev leads : Bytes → Presence → Bool
  leads root p = leads_to (leaf_hash_by sha) (inner_hash_by sha) root (own_presence sha p)

  -- ExistenceProof.Verify for the message's own key and value is our 'the steps lead to the root'.
  pub verified_as_ours : (root : Bytes) (p : Presence) → RawPresence p →
      neighbour_verified our_spec sha root (existence_of p) ≡ leads root p
  unfolding neighbour_verified existence_holds leads_to all_of
  verified_as_ours root p h = rw (fits_spec p h, bytes_same p.key, bytes_same p.value, calculated_as_ours p h) (and_true _)

  -- keys are compared after hashing
  key_before_lem : (x y : Bytes) → key_before our_spec sha x y ≡ before (sha x) (sha y)
  unfolding key_before for_comparison prehashed hashed
  key_before_lem x y = refl

  pub absence_as_ours : (root k : Bytes) (l r : Option Presence) → RawNeighbour l → RawNeighbour r →
      non_existence_holds our_spec sha root (Option.map existence_of l) (Option.map existence_of r) k
      ≡ absence_holds (leaf_hash_by sha) (inner_hash_by sha) root (sha k) (own_neighbour sha l) (own_neighbour sha r)
  unfolding neighbour_holds all_of
  absence_as_ours root k none none h g = refl
  absence_as_ours root k (some l) none h g =
      rw (verified_as_ours root l h, key_before_lem l.key k, rightmost_as_ours l.steps h.steps32)
      (joined (leads root l) (before (sha l.key) (sha k)) (outermost right l.steps))
  absence_as_ours root k none (some r) h g =
      rw (verified_as_ours root r g, key_before_lem k r.key, leftmost_as_ours r.steps g.steps32)
      (joined (leads root r) (before (sha k) (sha r.key)) (outermost left r.steps))
  absence_as_ours root k (some l) (some r) h g =
      rw (
        verified_as_ours root l h,
        verified_as_ours root r g,
        key_before_lem l.key k,
        key_before_lem k r.key,
        neighbours_as_ours l.steps r.steps h.steps32 g.steps32,
      )
      (arranged (leads root l) (leads root r) (before (sha k) (sha r.key)) (before (sha l.key) (sha k)) (paths_part l.steps r.steps))
