-- Proofs there and back: the bytes of a proof in form are read as that proof, and bytes that are read as a proof are its bytes. The fields fill
-- the record, and each is its number or its part. Assumes nothing.
use Prim.Native.Nat.{ℕ, zero, suc, ◌+◌, ◌*◌, ◌-◌, ◌≤◌}
use native.Mathlib.Omega.{arith}
use mathlib.Core.Path.{◌≡◌, refl, ap, ap₂, sym, ◌∙◌, subst}
use mathlib.Core.Bool.{Bool, true, false, cond, ◌&&◌}
use mathlib.Core.List.{List, [], ◌∷◌, ◌++◌, append-nil}
use mathlib.Core.Option.{Option, none, some}
use lib.ListN.{length, get_or, take, drop, length-append, length-drop, drop_of_length-le}
use lib.Seq.{take_all, take_at, drop_at, drop-drop, take-append-le}
use borrow.Author.Tests.{eqb-true, eq-eqb, leb-true, le-leb}
use Rattle.terms.specs.Bits.{Bytes, Byte, All, Whole32}
use Rattle.terms.specs.Fields.{le, num, field, slice}
use Rattle.terms.specs.Records.{Presence, Absence, Proof, presence, absence}
use Rattle.terms.proofs.Tests.{and_left, and_right, is_false}
use Rattle.terms.proofs.Lists.{all_drop}
use Rattle.terms.proofs.Fields.{num_le, length_le, le_field, length_slice, all_slice, cuts, flat_cuts, all_of_tests, tests_all, Sized, cuts_flat, length_flat, drop_fields, slice_rest}
use Rattle.proofrecords.specs.ProofBytes.{presence_bytes, steps_bytes, neighbour_bytes, flags_of, absence_bytes, proof_bytes, step_count, presence_tests, is_presence, presence_in, left_length, left_part, right_part, flags, neighbours_fit, absence_tests, is_absence, absence_in, proof_in, PresenceForm, NeighbourForm, ProofForm, ProofIs, Which}
use Rattle.proofrecords.proofs.Steps.{length_steps, steps_back, sides_written, steps_are, length_steps_in, steps_form}

-- the last field is the rest
slice_last : (i n : ℕ) (x : Bytes) → i + n ≡ length x → slice i n x ≡ drop i x
unfolding slice
slice_last i n x h = take_all n (drop i x) (simp length-drop (omega arith))

abbrev sizes : ℕ → List ℕ
sizes n = 4 ∷ 2 ∷ 2 ∷ 32 ∷ 32 ∷ 33 * n ∷ []

abbrev fields : Presence → List Bytes
fields p =
    le 4 (72 + 33 * length p.steps)
    ∷ le 2 16
    ∷ le 2 (length p.steps)
    ∷ p.key
    ∷ p.value
    ∷ steps_bytes p.steps
    ∷ []

-- the bytes of a presence proof are read as it
module _ (p : Presence) (h : PresenceForm p) where
  sized : Sized (sizes (length p.steps)) (fields p)
  sized =
      (length_le 4 _, (length_le 2 _, (length_le 2 _, (h.key32.0, (h.value32.0, (length_steps p.steps h.steps32, tt))))))

  pub length_presence : length (presence_bytes p) ≡ 72 + 33 * length p.steps
  unfolding presence_bytes
  length_presence = length_flat (sizes (length p.steps)) (fields p) sized ∙ omega arith

  -- field number k
  cut : (k : ℕ) → get_or (cuts (sizes (length p.steps)) 0 (presence_bytes p)) k [] ≡ get_or (fields p) k []
  unfolding presence_bytes
  cut k = ap (λ l. get_or l k []) (cuts_flat (sizes (length p.steps)) (fields p) sized)

  length_says : field 0 4 (presence_bytes p) ≡ length (presence_bytes p)
  unfolding field
  length_says = ap num (cut 0) ∙ num_le 4 _ (omega (arith, h.short)) ∙ sym length_presence

  kind_says_lem : field 4 2 (presence_bytes p) ≡ 16
  unfolding field
  kind_says_lem = ap num (cut 1) ∙ num_le 2 16 (omega arith)

  count_says : step_count (presence_bytes p) ≡ length p.steps
  unfolding step_count field
  count_says = ap num (cut 2) ∙ num_le 2 _ (omega (arith, h.short))

  steps_say : drop 72 (presence_bytes p) ≡ steps_bytes p.steps ++ []
  steps_say =
      sym (slice_last 72 (33 * length p.steps) (presence_bytes p) (omega (arith, length_presence))) ∙ cut 5 ∙ sym (append-nil (steps_bytes p.steps))

  pub presence_is : is_presence (presence_bytes p) ≡ true
  unfolding is_presence
  presence_is =
      tests_all _ (
        le-leb 72 (length (presence_bytes p)) (rw length_presence (omega arith)),
        (
          eq-eqb _ _ length_says,
          (
            eq-eqb _ _ kind_says_lem,
            (
              le-leb (step_count (presence_bytes p)) 256 (rw count_says h.short),
              (
                eq-eqb (length (presence_bytes p)) (72 + 33 * step_count (presence_bytes p)) (rw (count_says, length_presence)),
                (rw (count_says, steps_say) (sides_written p.steps [] h.steps32), tt),
              ),
            ),
          ),
        ),
      )

  pub presence_back : presence_in (presence_bytes p) ≡ p
  unfolding presence_in
  presence_back = rw (cut 3, cut 4, count_says, steps_say, steps_back p.steps [] h.steps32)

-- bytes that are a presence proof are its bytes
presence_tests_lem : (x : Bytes) → is_presence x ≡ true → All (λ t. t ≡ true) (presence_tests x)
unfolding is_presence
presence_tests_lem x e = all_of_tests (presence_tests x) e

absence_tests_lem : (x : Bytes) → is_absence x ≡ true → All (λ t. t ≡ true) (absence_tests x)
unfolding is_absence
absence_tests_lem x e = all_of_tests (absence_tests x) e

module _ (x : Bytes) (h : All Byte x) (e : is_presence x ≡ true) where
  tests : All (λ t. t ≡ true) (presence_tests x)
  tests = presence_tests_lem x e

  whole : length x ≡ 72 + 33 * step_count x
  whole = eqb-true _ _ tests.1.1.1.1.0

  rest_length : length (drop 72 x) ≡ 33 * step_count x
  rest_length = simp length-drop (omega (arith, whole))

  pub presence_form : PresenceForm (presence_in x)
  unfolding presence_in
  presence_form = record {
    key32 = (length_slice 8 32 x (omega (arith, whole)), all_slice 8 32 x h);
    value32 = (length_slice 40 32 x (omega (arith, whole)), all_slice 40 32 x h);
    short = rw (length_steps_in (step_count x) (drop 72 x)) (leb-true _ _ tests.1.1.1.0);
    steps32 = steps_form (step_count x) (drop 72 x) (omega (arith, rest_length)) (all_drop Byte 72 x h);
  }

  length_field : le 4 (72 + 33 * step_count x) ≡ slice 0 4 x
  length_field =
      ap (le 4) (sym whole ∙ sym (eqb-true (field 0 4 x) (length x) tests.1.0)) ∙ le_field 0 4 x (omega (arith, whole)) h

  kind_field : le 2 16 ≡ slice 4 2 x
  kind_field = ap (le 2) (sym (eqb-true (field 4 2 x) 16 tests.1.1.0)) ∙ le_field 4 2 x (omega (arith, whole)) h

  count_field : le 2 (step_count x) ≡ slice 6 2 x
  unfolding step_count
  count_field = le_field 6 2 x (omega (arith, whole)) h

  pub presence_bytes_lem : presence_bytes (presence_in x) ≡ x
  unfolding presence_bytes presence_in
  presence_bytes_lem =
      rw (
        length_steps_in (step_count x) (drop 72 x),
        steps_are (step_count x) (drop 72 x) rest_length tests.1.1.1.1.1.0,
        length_field,
        kind_field,
        count_field,
        ← slice_last 72 (33 * step_count x) x (sym whole),
      )
      (flat_cuts (sizes (step_count x)) 0 x (omega (arith, whole)))

-- the neighbours of an absence proof
abbrev beside : Absence → Bytes
beside a = neighbour_bytes a.leftward ++ neighbour_bytes a.rightward

neighbour_bytes_lem : (p : Option Presence) → NeighbourForm p → length (neighbour_bytes p) ≤ 8520
neighbour_bytes_lem none h = omega arith
neighbour_bytes_lem (some p) h = rw (length_presence p h) (omega (arith, h.short))

abbrev head_sizes : List ℕ
head_sizes = 4 ∷ 2 ∷ 2 ∷ 32 ∷ []

abbrev all_sizes : Absence → List ℕ
all_sizes a = 4 ∷ 2 ∷ 2 ∷ 32 ∷ length (neighbour_bytes a.leftward) ∷ length (neighbour_bytes a.rightward) ∷ []

abbrev absence_fields : Absence → List Bytes
absence_fields a =
    le 4 (40 + length (neighbour_bytes a.leftward) + length (neighbour_bytes a.rightward))
    ∷ le 2 17
    ∷ le 2 (flags_of a.leftward a.rightward)
    ∷ a.key
    ∷ neighbour_bytes a.leftward
    ∷ neighbour_bytes a.rightward
    ∷ []

flags_small : (l r : Option Presence) → flags_of l r ≤ 3
flags_small none none = omega arith
flags_small none (some r) = omega arith
flags_small (some l) none = omega arith
flags_small (some l) (some r) = omega arith

module _ (a : Absence) (k : Whole32 a.key) (hl : NeighbourForm a.leftward) (hr : NeighbourForm a.rightward) where
  sized_absence : Sized (all_sizes a) (absence_fields a)
  sized_absence = (length_le 4 _, (length_le 2 _, (length_le 2 _, (k.0, (refl, (refl, tt))))))

  pub length_absence : length (absence_bytes a) ≡ 40 + length (neighbour_bytes a.leftward) + length (neighbour_bytes a.rightward)
  unfolding absence_bytes
  length_absence = length_flat (all_sizes a) (absence_fields a) sized_absence ∙ omega arith

  cut_absence : (i : ℕ) → get_or (cuts (all_sizes a) 0 (absence_bytes a)) i [] ≡ get_or (absence_fields a) i []
  unfolding absence_bytes
  cut_absence i = ap (λ l. get_or l i []) (cuts_flat (all_sizes a) (absence_fields a) sized_absence)

  absence_length_says : field 0 4 (absence_bytes a) ≡ length (absence_bytes a)
  unfolding field
  absence_length_says =
      ap num (cut_absence 0)
      ∙ num_le 4 _ (omega (arith, neighbour_bytes_lem a.leftward hl, neighbour_bytes_lem a.rightward hr))
      ∙ sym length_absence

  absence_kind_says : field 4 2 (absence_bytes a) ≡ 17
  unfolding field
  absence_kind_says = ap num (cut_absence 1) ∙ num_le 2 17 (omega arith)

  flags_say : flags (absence_bytes a) ≡ flags_of a.leftward a.rightward
  unfolding flags field
  flags_say = ap num (cut_absence 2) ∙ num_le 2 _ (omega (arith, flags_small a.leftward a.rightward))

  -- what follows the head
  after_head_lem : drop 40 (absence_bytes a) ≡ beside a
  unfolding absence_bytes
  after_head_lem =
      drop_fields head_sizes
      (le 4 (40 + length (neighbour_bytes a.leftward) + length (neighbour_bytes a.rightward))
      ∷ le 2 17
      ∷ le 2 (flags_of a.leftward a.rightward)
      ∷ a.key
      ∷ [])
      (neighbour_bytes a.leftward ∷ neighbour_bytes a.rightward ∷ [])
      (length_le 4 _, (length_le 2 _, (length_le 2 _, (k.0, tt))))
      ∙ ap (neighbour_bytes a.leftward ++◌) (append-nil (neighbour_bytes a.rightward))

-- the length of a presence proof, read where it lies
length_there : (p : Presence) → PresenceForm p → (x ys : Bytes) → drop 40 x ≡ presence_bytes p ++ ys → left_length x ≡ length (presence_bytes p)
unfolding left_length field slice
length_there p h x ys e =
    ap (λ y. num (take 4 y)) e
    ∙ ap num (take-append-le 4 (presence_bytes p) ys (omega (arith, length_presence p h)))
    ∙ length_says p h

left_there : (p : Presence) → PresenceForm p → (x ys : Bytes) → drop 40 x ≡ presence_bytes p ++ ys → left_part x ≡ presence_bytes p
unfolding left_part slice
left_there p h x ys e = rw (length_there p h x ys e, e) (take_at (presence_bytes p) ys (length (presence_bytes p)) refl)

right_there : (p : Presence) → PresenceForm p → (x ys : Bytes) → drop 40 x ≡ presence_bytes p ++ ys → right_part x ≡ ys
unfolding right_part
right_there p h x ys e =
    rw (length_there p h x ys e) (sym (drop-drop (length (presence_bytes p)) 40 x) ∙ ap (drop (length (presence_bytes p))) e ∙ drop_at (presence_bytes p) ys (length (presence_bytes p)) refl)

-- the flags lead to the neighbours that were written
neighbours_back : (x : Bytes) (l r : Option Presence) → NeighbourForm l → NeighbourForm r → 1 ≤ flags_of l r →
    flags x ≡ flags_of l r → drop 40 x ≡ neighbour_bytes l ++ neighbour_bytes r → length x ≡ 40 + length (neighbour_bytes l) + length (neighbour_bytes r) →
    (neighbours_fit x ≡ true) × (absence_in x ≡ record { key = slice 8 32 x; leftward = l; rightward = r })
unfolding neighbours_fit absence_in
neighbours_back x none none hl hr one f e n = absurd (omega arith)
neighbours_back x (some l) none hl hr one f e n =
    let d : drop 40 x ≡ presence_bytes l = e ∙ append-nil (presence_bytes l) in
    (rw (f, d) (presence_is l hl), rw (f, d, presence_back l hl))
neighbours_back x none (some r) hl hr one f e n = (rw (f, e) (presence_is r hr), rw (f, e, presence_back r hr))
neighbours_back x (some l) (some r) hl hr one f e n =
    let p = left_there l hl x (presence_bytes r) e in
    let q = right_there l hl x (presence_bytes r) e in
    (rw (f, p, q, presence_is l hl, presence_is r hr), rw (f, p, q, presence_back l hl, presence_back r hr))

module _ (a : Absence) (k : Whole32 a.key) (hl : NeighbourForm a.leftward) (hr : NeighbourForm a.rightward)
    (one : 1 ≤ flags_of a.leftward a.rightward) where
  both_back : (neighbours_fit (absence_bytes a) ≡ true) × (absence_in (absence_bytes a) ≡ record { key = slice 8 32 (absence_bytes a); leftward = a.leftward; rightward = a.rightward })
  both_back =
      neighbours_back (absence_bytes a) a.leftward a.rightward hl hr one (flags_say a k hl hr) (after_head_lem a k hl hr) (length_absence a k hl hr)

  absence_is : is_absence (absence_bytes a) ≡ true
  unfolding is_absence
  absence_is =
      tests_all _ (
        le-leb 40 (length (absence_bytes a)) (omega (arith, length_absence a k hl hr)),
        (
          eq-eqb _ _ (absence_length_says a k hl hr),
          (
            eq-eqb _ _ (absence_kind_says a k hl hr),
            (
              le-leb 1 (flags (absence_bytes a)) (rw (flags_say a k hl hr) one),
              (le-leb (flags (absence_bytes a)) 3 (rw (flags_say a k hl hr) (flags_small a.leftward a.rightward)), (both_back.0, tt)),
            ),
          ),
        ),
      )

  absence_no_presence : is_presence (absence_bytes a) ≡ false
  absence_no_presence =
      is_false (is_presence (absence_bytes a))
      (λ e. let z = eqb-true (field 4 2 (absence_bytes a)) 16 (presence_tests_lem (absence_bytes a) e).1.1.0 in omega (arith, absence_kind_says a k hl hr))

  absence_back : absence_in (absence_bytes a) ≡ a
  absence_back = both_back.1 ∙ ap (λ y. record { key = y; leftward = a.leftward; rightward = a.rightward }) (cut_absence a k hl hr 3)

-- a proof in form is read back from its bytes
pub proof_back : (p : Proof) → ProofForm p → proof_in (proof_bytes p) ≡ some p
unfolding proof_in
proof_back (presence p) h = rw (presence_is p h, presence_back p h)
proof_back (absence a) h =
    rw (absence_no_presence a h.0 h.1 h.2 h.3, absence_is a h.0 h.1 h.2 h.3, absence_back a h.0 h.1 h.2 h.3)

-- the parts of an absence proof with two neighbours
parts_whole : (x : Bytes) → left_part x ++ right_part x ≡ drop 40 x
unfolding left_part right_part
parts_whole x = sym (slice_rest 40 (left_length x) x)

left_bytes : (x : Bytes) → All Byte x → All Byte (left_part x)
unfolding left_part
left_bytes x h = all_slice 40 (left_length x) x h

right_bytes : (x : Bytes) → All Byte x → All Byte (right_part x)
unfolding right_part
right_bytes x h = all_drop Byte (40 + left_length x) x h

-- bytes that are an absence proof: by the flags
data Flagged (x : Bytes) : Type 0 where
  left_only : flags x ≡ 1 → is_presence (drop 40 x) ≡ true → Flagged x
  right_only : flags x ≡ 2 → is_presence (drop 40 x) ≡ true → Flagged x
  both : flags x ≡ 3 → is_presence (left_part x) ≡ true → is_presence (right_part x) ≡ true → Flagged x

flagged : (x : Bytes) (n : ℕ) → flags x ≡ n → 1 ≤ n → n ≤ 3 → neighbours_fit x ≡ true → Flagged x
unfolding neighbours_fit
flagged x zero f one h e = absurd (omega arith)
flagged x (suc zero) f one h e = left_only f (rw f at e)
flagged x (suc (suc zero)) f one h e = right_only f (rw f at e)
flagged x (suc (suc (suc zero))) f one h e =
    let b : is_presence (left_part x) && is_presence (right_part x) ≡ true = rw f at e in
    both f (and_left (is_presence (left_part x)) (is_presence (right_part x)) b) (and_right (is_presence (left_part x)) (is_presence (right_part x)) b)
flagged x (suc (suc (suc (suc n)))) f one h e = absurd (omega arith)

-- what an absence proof is read as
record Parts (x : Bytes) (l r : Option Presence) : Type 0 where
  read : absence_in x ≡ record { key = slice 8 32 x; leftward = l; rightward = r }
  flagged_so : flags_of l r ≡ flags x
  filled : neighbour_bytes l ++ neighbour_bytes r ≡ drop 40 x
  left_form : NeighbourForm l
  right_form : NeighbourForm r

parts_of : (x : Bytes) → All Byte x → Flagged x → (l : Option Presence) × (r : Option Presence) × Parts x l r
unfolding absence_in
parts_of x h (left_only f e) =
    let b = all_drop Byte 40 x h in (
      some (presence_in (drop 40 x)),
      none,
      record {
        read = rw f;
        flagged_so = sym f;
        filled = append-nil (presence_bytes (presence_in (drop 40 x))) ∙ presence_bytes_lem (drop 40 x) b e;
        left_form = presence_form (drop 40 x) b e;
        right_form = tt;
      },
    )
parts_of x h (right_only f e) =
    let b = all_drop Byte 40 x h in (
      none,
      some (presence_in (drop 40 x)),
      record {
        read = rw f;
        flagged_so = sym f;
        filled = presence_bytes_lem (drop 40 x) b e;
        left_form = tt;
        right_form = presence_form (drop 40 x) b e;
      },
    )
parts_of x h (both f e d) =
    let b = left_bytes x h in
    let c = right_bytes x h in (
      some (presence_in (left_part x)),
      some (presence_in (right_part x)),
      record {
        read = rw f;
        flagged_so = sym f;
        filled = ap₂ ◌++◌ (presence_bytes_lem (left_part x) b e) (presence_bytes_lem (right_part x) c d) ∙ parts_whole x;
        left_form = presence_form (left_part x) b e;
        right_form = presence_form (right_part x) c d;
      },
    )

module _ (x : Bytes) (h : All Byte x) (e : is_absence x ≡ true) where
  absence_tested : All (λ t. t ≡ true) (absence_tests x)
  absence_tested = absence_tests_lem x e

  absence_long : 40 ≤ length x
  absence_long = leb-true 40 (length x) absence_tested.0

  some_flag : 1 ≤ flags x
  some_flag = leb-true 1 (flags x) absence_tested.1.1.1.0

  its_parts : (l : Option Presence) × (r : Option Presence) × Parts x l r
  its_parts =
      parts_of x h
      (flagged x (flags x) refl some_flag (leb-true (flags x) 3 absence_tested.1.1.1.1.0) absence_tested.1.1.1.1.1.0)

  pub absence_form : ProofForm (absence (absence_in x))
  absence_form =
      let q = its_parts.2 in
      rw q.read (
        (length_slice 8 32 x (omega (arith, absence_long)), all_slice 8 32 x h),
        q.left_form,
        q.right_form,
        omega (arith, q.flagged_so, some_flag),
      )

  -- so it has the head and a presence proof without steps at least
  absence_at_least : 112 ≤ length x
  absence_at_least = go its_parts.0 its_parts.1 its_parts.2
    where
      go : (l r : Option Presence) → Parts x l r → 112 ≤ length x
      go none none q = absurd (omega (arith, q.flagged_so, some_flag))
      go none (some r) q = omega (arith, simp length-append at (ap length q.filled), length_presence r q.right_form, length-drop 40 x)
      go (some l) r q = omega (arith, simp length-append at (ap length q.filled), length_presence l q.left_form, length-drop 40 x)

  pub absence_bytes_lem : absence_bytes (absence_in x) ≡ x
  unfolding absence_bytes flags
  absence_bytes_lem =
      let l = its_parts.0 in
      let r = its_parts.1 in
      let q = its_parts.2 in
      let sum : 40 + length (neighbour_bytes l) + length (neighbour_bytes r) ≡ field 0 4 x
      = omega (arith, simp length-append at (ap length q.filled), length-drop 40 x, absence_long, eqb-true (field 0 4 x) (length x) absence_tested.1.0) in
      rw (
        q.read,
        sum,
        q.flagged_so,
        ← eqb-true (field 4 2 x) 17 absence_tested.1.1.0,
        le_field 0 4 x (omega (arith, absence_long)) h,
        le_field 4 2 x (omega (arith, absence_long)) h,
        le_field 6 2 x (omega (arith, absence_long)) h,
        append-nil (neighbour_bytes r),
        q.filled,
        ← slice_last 40 (length x - 40) x (omega (arith, absence_long)),
        ← append-nil (slice 40 (length x - 40) x),
      )
      (flat_cuts (4 ∷ 2 ∷ 2 ∷ 32 ∷ (length x - 40) ∷ []) 0 x (omega (arith, absence_long)))

-- bytes that are read as an absence proof are at least as long as one with a neighbour without steps
pub absence_has_112 : (x : Bytes) (a : Absence) → All Byte x → proof_in x ≡ some (absence a) → 112 ≤ length x
unfolding proof_in
absence_has_112 x a h = go (is_presence x) (is_absence x) refl
  where
    go : (b c : Bool) → is_absence x ≡ c →
        cond b (some (presence (presence_in x))) (cond c (some (absence (absence_in x))) none) ≡ some (absence a) → 112 ≤ length x
    go true c d k = let z : ◌≡◌ {A = ℕ} 0 1 = cc in absurd (omega arith)
    go false true d k = absence_at_least x h d
    go false false d k = let z : ◌≡◌ {A = ℕ} 0 1 = cc in absurd (omega arith)

-- bytes that are read as a proof are its bytes, and it is in form
pub proof_bytes_lem : (x : Bytes) (p : Proof) → All Byte x → proof_in x ≡ some p → (ProofForm p) × (proof_bytes p ≡ x)
unfolding proof_in
proof_bytes_lem x p h = go (is_presence x) (is_absence x) refl refl
  where
    go : (b c : Bool) → is_presence x ≡ b → is_absence x ≡ c →
        cond b (some (presence (presence_in x))) (cond c (some (absence (absence_in x))) none) ≡ some p → (ProofForm p) × (proof_bytes p ≡ x)
    go true c e d k =
        let q : presence (presence_in x) ≡ p = cc in
        subst (λ y. (ProofForm y) × (proof_bytes y ≡ x)) q (presence_form x h e, presence_bytes_lem x h e)
    go false true e d k =
        let q : absence (absence_in x) ≡ p = cc in
        subst (λ y. (ProofForm y) × (proof_bytes y ≡ x)) q (absence_form x h d, absence_bytes_lem x h d)
    go false false e d k = let z : ◌≡◌ {A = ℕ} 0 1 = cc in absurd (omega arith)

-- bytes are a proof exactly if they are read as it, and none if they are read as none
module _ (x : Bytes) where
  pub read_as : (p : Proof) → ProofIs x p → proof_in x ≡ some p
  read_as p w = ap proof_in w.bytes ∙ proof_back p w.form

  pub proof_is : All Byte x → (p : Proof) → proof_in x ≡ some p → ProofIs x p
  proof_is bytes p e = let w = proof_bytes_lem x p bytes e in record { bytes = sym w.1; form = w.0 }

  pub no_proof_is : proof_in x ≡ none → (p : Proof) → ProofIs x p → ⊥
  no_proof_is e p w = none_some (sym e ∙ read_as p w)
    where
      none_some : none ≡ some p → ⊥
      none_some z = let y : ◌≡◌ {A = ℕ} 0 1 = cc in omega arith

  -- so they are one proof at most
  pub one_proof_is : (p q : Proof) → ProofIs x p → ProofIs x q → p ≡ q
  one_proof_is p q v w = same (sym (read_as p v) ∙ read_as q w)
    where
      same : some p ≡ some q → p ≡ q
      same e = cc

  -- and what they are said to be is what they are read as
  pub said_as_read : All Byte x → Which (ProofIs x) (proof_in x)
  said_as_read bytes = go (proof_in x) refl
    where
      go : (o : Option Proof) → proof_in x ≡ o → Which (ProofIs x) o
      go none e = no_proof_is e
      go (some p) e = proof_is bytes p e

  pub one_proof_said : (o u : Option Proof) → Which (ProofIs x) o → Which (ProofIs x) u → o ≡ u
  one_proof_said none none h k = refl
  one_proof_said none (some q) h k = absurd (h q k)
  one_proof_said (some p) none h k = absurd (k p h)
  one_proof_said (some p) (some q) h k = ap some (one_proof_is p q h k)
