-- How long varints, fields and paths are. Assumes nothing.
use Prim.Native.Nat.{ℕ, zero, suc, ◌+◌, ◌*◌, ◌-◌, ◌<◌, ◌≤◌, ◌/◌, ◌%◌}
use native.Mathlib.Omega.{arith}
use mathlib.Core.Path.{◌≡◌, refl, ap, ap₂, sym, ◌∙◌}
use mathlib.Core.Bool.{Bool, true, false, cond, ◌&&◌}
use mathlib.Core.List.{List, [], ◌∷◌, ◌++◌, append-nil}
use mathlib.Core.Option.{Option, none, some}
use lib.ListN.{length, get_or, drop, length-append, length-drop}
use native.Mathlib.Nat.{sub-zero}
use lib.Dec.{ltb, eqb, leb}
use borrow.Author.Tests.{lt-ltb, le-ltb, eq-eqb, ne_eqb, le-leb, lt-leb, leb-true}
use Rattle.terms.specs.Bits.{Bytes, Side, All, same_bytes}
use Rattle.terms.specs.Fields.{slice, field, all_of}
use Rattle.terms.specs.Records.{Step, Presence}
use Rattle.terms.proofs.Fields.{length_slice, all_of_tests}
use Rattle.sha256.specs.Sha256.{sha256}
use Rattle.proofrecords.specs.ProofBytes.{StepForm, presence_tests, is_presence, presence_in, step_count, steps_in}
use Rattle.proofrecords.proofs.Lying.{first_at, from_step, next_step, one_less, none_left}
use Rattle.messages.specs.Wire.{varint_in, varint, bytes_tag, message_field, bytes_field, number_field}
use Rattle.messages.specs.Message.{existence}
use Rattle.messages.specs.Raws.{leaf_op, inner_op, path}
use Rattle.messages.specs.Reading.{length_right}
use Rattle.messages.specs.Lending.{Leaf, hashes_to, leaf_fits, unlent}
use Rattle.messages.proofs.Wires.{field_is}
use Rattle.messages.proofs.Steps.{head_of, inner_is}
use Rattle.message_lent.specs.Lent.{leaf, record_in, InForm, neighbour_fits, field_length, existence_length, neighbour_length}

-- a varint's length
pub one_byte : (x : ℕ) → x < 128 → varint x ≡ x ∷ []
unfolding varint varint_in
one_byte x h = rw (lt-ltb x 128 h)

pub two_bytes : (x : ℕ) → 128 ≤ x → x < 16384 → varint x ≡ (128 + x % 128) ∷ x / 128 ∷ []
unfolding varint varint_in
two_bytes x h l = rw (le-ltb x 128 h, lt-ltb (x / 128) 128 (omega arith))

pub three_bytes : (x : ℕ) → 16384 ≤ x → x < 100000 → varint x ≡ (128 + x % 128) ∷ (128 + x / 128 % 128) ∷ x / 128 / 128 ∷ []
unfolding varint varint_in
three_bytes x h l = rw (le-ltb x 128 (omega arith), le-ltb (x / 128) 128 (omega arith), lt-ltb (x / 128 / 128) 128 (omega arith))

pub field_one : (n : ℕ) → n < 128 → (n + 2 ≡ field_length n) × (n + 2 ≤ n + 4)
unfolding field_length
field_one n h = (omega (arith, ap length (one_byte n h)), omega arith)

pub field_two : (n : ℕ) → 128 ≤ n → n < 16384 → (n + 3 ≡ field_length n) × (n + 3 ≤ n + 4)
unfolding field_length
field_two n h l = (omega (arith, ap length (two_bytes n h l)), omega arith)

pub field_three : (n : ℕ) → 16384 ≤ n → n < 100000 → (n + 4 ≡ field_length n) × (n + 4 ≤ n + 4)
unfolding field_length
field_three n h l = (omega (arith, ap length (three_bytes n h l)), omega arith)

-- what hashes to what a proof holds
pub no_raw_bytes : (most : ℕ) (x h : Bytes) → length x ≡ 0 → false ≡ hashes_to sha256 most x h
unfolding hashes_to length_right all_of
no_raw_bytes most x h l = rw l

pub too_many_raw : (most : ℕ) (x h : Bytes) → most < length x → false ≡ hashes_to sha256 most x h
unfolding hashes_to length_right all_of
too_many_raw most x h l = rw (lt-leb (length x) most l) (sym (go (leb 1 (length x)) (same_bytes (sha256 x) h)))
  where
    go : (a b : Bool) → (a && false) && (b && true) ≡ false
    go false b = refl
    go true b = refl

and_true : (b : Bool) → b && true ≡ b
and_true false = refl
and_true true = refl

pub raw_hashes : (most : ℕ) (x h : Bytes) → (length x ≡ 0 → ⊥) → length x ≤ most → same_bytes (sha256 x) h ≡ hashes_to sha256 most x h
unfolding hashes_to length_right all_of
raw_hashes most x h k l = rw (le-leb 1 (length x) (some_byte x k), le-leb (length x) most l) (sym (and_true (same_bytes (sha256 x) h)))
  where
    some_byte : (y : Bytes) → (length y ≡ 0 → ⊥) → 1 ≤ length y
    some_byte [] j = absurd (j refl)
    some_byte (b ∷ y) j = omega arith

-- a field of few bytes
pub field_few : (n : ℕ) (y : Bytes) → n ≤ 15 → length y < 128 → message_field n y ≡ (8 * n + 2) ∷ length y ∷ y
field_few n y near h =
    sym (append-nil (message_field n y))
    ∙ field_is n y [] near
    ∙ ap₂ (λ u v. (8 * n + 2) ∷ (u ++ v)) (one_byte (length y) h) (append-nil y)

-- a step's field
pub inner_left : (x : Bytes) → length x ≡ 32 → message_field 4 (inner_op (record { side = false; sibling = x })) ≡ 34 ∷ 39 ∷ 8 ∷ 1 ∷ 18 ∷ 1 ∷ 0 ∷ 26 ∷ 32 ∷ x
inner_left x h =
    let l : length (head_of false ++ x) ≡ 39 = omega (arith, h) in
    ap (message_field 4) (inner_is false x h) ∙ field_few 4 (head_of false ++ x) (omega arith) (omega (arith, h)) ∙ ap (λ k. 34 ∷ k ∷ (head_of false ++ x)) l

pub inner_right_lem : (x : Bytes) → length x ≡ 32 → message_field 4 (inner_op (record { side = true; sibling = x })) ≡ 34 ∷ 37 ∷ 8 ∷ 1 ∷ 18 ∷ 33 ∷ 0 ∷ x
inner_right_lem x h =
    let l : length (head_of true ++ x) ≡ 37 = omega (arith, h) in
    ap (message_field 4) (inner_is true x h) ∙ field_few 4 (head_of true ++ x) (omega arith) (omega (arith, h)) ∙ ap (λ k. 34 ∷ k ∷ (head_of true ++ x)) l

length_inner : (b : Side) (x : Bytes) → length x ≡ 32 → length (message_field 4 (inner_op (record { side = b; sibling = x }))) ≡ cond b 39 41
length_inner false x h = ap length (inner_left x h) ∙ omega arith
length_inner true x h = ap length (inner_right_lem x h) ∙ omega arith

few_inner : (b : Bool) → cond b 39 41 ≤ 41
few_inner false = omega arith
few_inner true = omega arith

-- The path of n steps, of which i are counted.
pub record Sizing (n : ℕ) (p : Bytes) (i size : ℕ) : Type 0 where
  pub within : i ≤ n
  pub few : size ≤ 41 * i
  pub is : length (path (steps_in n (drop 72 p))) ≡ size + length (path (steps_in (n - i) (from_step i p)))

pub sizing_start : (n : ℕ) (p : Bytes) → Sizing n p 0 0
sizing_start n p = record { within = omega arith; few = omega arith; is = rw sub-zero (omega arith) }

length_first : (k : ℕ) (y : Bytes) → 33 ≤ length y → length (path (steps_in (suc k) y)) ≡ cond (eqb (get_or y 0 0) 1) 39 41 + length (path (steps_in k (drop 33 y)))
length_first k y h =
    length-append (message_field 4 (inner_op (record { side = eqb (get_or y 0 0) 1; sibling = slice 1 32 y }))) (path (steps_in k (drop 33 y)))
    ∙ ap (◌+ length (path (steps_in k (drop 33 y)))) (length_inner (eqb (get_or y 0 0) 1) (slice 1 32 y) (length_slice 1 32 y (omega arith)))

pub sizing_next : {n : ℕ} {p : Bytes} {i size step : ℕ} → Sizing n p i size → i < n → 72 + 33 * n ≤ length p → step ≡ cond (eqb (get_or p (72 + 33 * i) 0) 1) 39 41 →
    Sizing n p (i + 1) (size + step)
sizing_next {n} {p} {i} {size} {step} w l room e =
    let y = from_step i p in
    let f = w.few in
    let first : length (path (steps_in (n - i) y)) ≡ step + length (path (steps_in (n - (i + 1)) (from_step (i + 1) p))) =
    ap (λ k. length (path (steps_in k y))) (one_less i n l)
    ∙ length_first (n - (i + 1)) y (simp length-drop (omega arith))
    ∙ ap₂ (λ u v. cond (eqb u 1) 39 41 + length (path (steps_in (n - (i + 1)) v))) (first_at (72 + 33 * i) p) (next_step i p)
    ∙ ap (◌+ length (path (steps_in (n - (i + 1)) (from_step (i + 1) p)))) (sym e) in
    record {
      within = omega arith;
      few = omega (arith, few_inner (eqb (get_or p (72 + 33 * i) 0) 1));
      is = omega (arith, w.is, first);
    }

pub sizing_done : {n : ℕ} {p : Bytes} {i size : ℕ} → Sizing n p i size → n ≤ i → n ≤ 256 → n ≡ step_count p →
    (size ≡ length (path (presence_in p).steps)) × (size ≤ 10496)
unfolding presence_in
sizing_done {n} {p} {i} {size} w h few e =
    let l = w.within in
    let f = w.few in
    let none_more : length (path (steps_in (n - i) (from_step i p))) ≡ 0 = ap (λ k. length (path (steps_in k (from_step i p)))) (none_left i n h) in
    (sym (ap (λ k. length (path (steps_in k (drop 72 p)))) (sym e) ∙ w.is ∙ omega (arith, none_more)), omega arith)

-- an existence proof's length
pub existence_sum : (k x a b c : ℕ) (p : Presence) → (a ≡ field_length k) × (a ≤ k + 4) → (b ≡ field_length x) × (b ≤ x + 4) →
    (c ≡ length (path p.steps)) × (c ≤ 10496) → k ≤ 256 → x ≤ 4096 → (a + b + 11 + c ≡ existence_length k x p) × (a + b + 11 + c ≤ 14871)
unfolding existence_length
existence_sum k x a b c p u v w h l = (rw (u.0, v.0, w.0), omega (arith, u.1, v.1, w.1))

-- the leaf lent for a neighbour, and the neighbour's record
pub nobody_fits : (l : Leaf) (p : Bytes) → length p ≡ 0 → true ≡ neighbour_fits l (record_in p)
unfolding record_in
nobody_fits l p e = rw e

pub somebody_is : (p : Bytes) → (length p ≡ 0 → ⊥) → record_in p ≡ some (presence_in p)
unfolding record_in
somebody_is p h = rw (ne_eqb (length p) 0 h)

pub nobody_is : (p : Bytes) → length p ≡ 0 → record_in p ≡ none
unfolding record_in
nobody_is p e = rw e

pub leaf_off : (k x : Bytes) (p : Presence) → hashes_to sha256 256 k p.key ≡ false → false ≡ leaf_fits sha256 (leaf k x) p
unfolding leaf_fits all_of
leaf_off k x p e = rw e

pub leaf_on_lem : {b : Bool} (k x : Bytes) (p : Presence) → hashes_to sha256 256 k p.key ≡ true → b ≡ hashes_to sha256 4096 x p.value → b ≡ leaf_fits sha256 (leaf k x) p
unfolding leaf_fits all_of
leaf_on_lem k x p e f = rw e (f ∙ sym (and_true (hashes_to sha256 4096 x p.value)))

pub lent_key : (k x : Bytes) → (length k ≡ 0 → ⊥) → false ≡ unlent (leaf k x)
unfolding unlent all_of
lent_key k x h = rw (ne_eqb (length k) 0 h)

pub lent_value : (k x : Bytes) → length k ≡ 0 → eqb (length x) 0 ≡ unlent (leaf k x)
unfolding unlent all_of
lent_value k x h = rw h (sym (and_true (eqb (length x) 0)))

pub few_steps : (p : Bytes) → is_presence p ≡ true → step_count p ≤ 256
unfolding is_presence
few_steps p e = leb-true (step_count p) 256 (all_of_tests (presence_tests p) e).1.1.1.0

pub count_read : (p : Bytes) (n : ℕ) → n ≡ field 6 2 p → n ≡ step_count p
unfolding step_count
count_read p n e = e
