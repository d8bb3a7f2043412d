-- A record of a batch there and back: the bytes of an ask in form are read as that ask, and a record in form is the bytes of what it asks for.
-- The fields fill the record, and each is its number or its part. Assumes nothing.
use Prim.Native.Nat.{ℕ, ◌+◌, ◌<◌, ◌≤◌}
use native.Mathlib.Omega.{arith}
use mathlib.Core.Path.{◌≡◌, refl, ap, sym, ◌∙◌}
use mathlib.Core.Bool.{Bool, true, false, cond, ◌&&◌, ◌||◌}
use mathlib.Core.List.{List, [], ◌∷◌}
use lib.ListN.{length, get_or}
use lib.Dec.{eqb}
use borrow.Author.Tests.{eqb-true, eq-eqb, ne_eqb}
use Rattle.terms.specs.Bits.{Bytes, Byte, All, Whole32}
use Rattle.terms.specs.Fields.{le, num, field, slice, zero_bytes, all_zero, flat, all_of}
use Rattle.terms.specs.Records.{Ask, insert, delete, ask_key, zeros}
use Rattle.terms.specs.Form.{AskForm}
use Rattle.terms.proofs.Tests.{and_left, and_right, and_true}
use Rattle.terms.proofs.Fields.{num_le, length_le, le_field, length_slice, all_slice, zero_bytes_lem, cuts, flat_cuts, all_of_tests, tests_all, test_passed, test_failed, Sized, cuts_flat, length_flat}
use Rattle.batch.specs.Sizes.{record_size, insert_length, insert_kind, delete_length, delete_kind, kind_at, zero_at, key_at_lem, value_at}
use Rattle.batch.specs.Asked.{ask_bytes}
use Rattle.batch.specs.Batch.{head_is, is_insert, is_delete, ask_form, ask}
use Rattle.batch.specs.Records.{inserts, ask_value}

-- a record's length and kind, its fields, and their sizes
abbrev ask_length : Ask → ℕ
ask_length (insert k x) = insert_length
ask_length (delete k) = delete_length

abbrev ask_kind : Ask → ℕ
ask_kind (insert k x) = insert_kind
ask_kind (delete k) = delete_kind

abbrev fields : Ask → List Bytes
fields a = le 4 (ask_length a) ∷ le 2 (ask_kind a) ∷ le 2 0 ∷ ask_key a ∷ ask_value a ∷ []

abbrev sizes : List ℕ
sizes = 4 ∷ 2 ∷ 2 ∷ 32 ∷ 32 ∷ []

pub key_whole : (a : Ask) → AskForm a → Whole32 (ask_key a)
key_whole (insert k x) h = h.0
key_whole (delete k) h = h

value_length : (a : Ask) → AskForm a → length (ask_value a) ≡ 32
unfolding zeros
value_length (insert k x) h = h.1.0
value_length (delete k) h = refl

sized : (a : Ask) → AskForm a → Sized sizes (fields a)
sized a h = (length_le 4 (ask_length a), (length_le 2 (ask_kind a), (length_le 2 0, ((key_whole a h).0, (value_length a h, tt)))))

of_fields : (a : Ask) → ask_bytes a ≡ flat (fields a)
unfolding ask_bytes
of_fields (insert k x) = refl
of_fields (delete k) = refl

pub length_ask : (a : Ask) → AskForm a → length (ask_bytes a) ≡ record_size
length_ask a h = ap length (of_fields a) ∙ length_flat sizes (fields a) (sized a h)

-- field number n of the bytes of an ask
cut : (a : Ask) → AskForm a → (n : ℕ) → get_or (cuts sizes 0 (ask_bytes a)) n [] ≡ get_or (fields a) n []
cut a h n = ap (λ x. get_or (cuts sizes 0 x) n []) (of_fields a) ∙ ap (λ l. get_or l n []) (cuts_flat sizes (fields a) (sized a h))

length_small : (a : Ask) → ask_length a < 4294967296
length_small (insert k x) = omega arith
length_small (delete k) = omega arith

kind_small : (a : Ask) → ask_kind a < 65536
kind_small (insert k x) = omega arith
kind_small (delete k) = omega arith

module _ (a : Ask) (h : AskForm a) where
  length_says : field 0 4 (ask_bytes a) ≡ ask_length a
  unfolding field
  length_says = ap num (cut a h 0) ∙ num_le 4 (ask_length a) (length_small a)

  head_says : head_is (ask_length a) (ask_kind a) (ask_bytes a) ≡ true
  unfolding head_is field
  head_says =
      tests_all _ (
        eq-eqb _ _ length_says,
        (eq-eqb _ _ (ap num (cut a h 1) ∙ num_le 2 (ask_kind a) (kind_small a)), (eq-eqb _ _ (ap num (cut a h 2) ∙ num_le 2 0 (omega arith)), tt)),
      )

  key_says : slice key_at_lem 32 (ask_bytes a) ≡ ask_key a
  key_says = cut a h 3

  value_says : slice value_at 32 (ask_bytes a) ≡ ask_value a
  value_says = cut a h 4

-- the head of a record, test by test
pub head_length_off : (n k : ℕ) (x : Bytes) → (field 0 4 x ≡ n → ⊥) → head_is n k x ≡ false
unfolding head_is
head_length_off n k x f = test_failed _ (ne_eqb (field 0 4 x) n f)

pub head_kind_off : (n k : ℕ) (x : Bytes) → field 0 4 x ≡ n → (field kind_at 2 x ≡ k → ⊥) → head_is n k x ≡ false
unfolding head_is
head_kind_off n k x e f = test_passed _ (eq-eqb (field 0 4 x) n e) ∙ test_failed _ (ne_eqb (field kind_at 2 x) k f)

pub head_zero : (n k : ℕ) (x : Bytes) → field 0 4 x ≡ n → field kind_at 2 x ≡ k → head_is n k x ≡ eqb (field zero_at 2 x) 0
unfolding head_is all_of
head_zero n k x e f = rw (eq-eqb (field 0 4 x) n e, eq-eqb (field kind_at 2 x) k f) (and_true (eqb (field zero_at 2 x) 0))

pub insert_form : (a : Ask) → AskForm a → is_insert (ask_bytes a) ≡ inserts a
unfolding is_insert
insert_form (insert k x) h = head_says (insert k x) h
insert_form (delete k) h = head_length_off insert_length insert_kind (ask_bytes (delete k)) (λ e. omega (arith, length_says (delete k) h))

pub ask_form_lem : (a : Ask) → AskForm a → ask_form (ask_bytes a) ≡ true
unfolding ask_form is_delete zeros
ask_form_lem (insert k x) h = rw (insert_form (insert k x) h)
ask_form_lem (delete k) h = rw (insert_form (delete k) h, head_says (delete k) h, value_says (delete k) h)

pub ask_says : (a : Ask) → AskForm a → ask (ask_bytes a) ≡ a
unfolding ask
ask_says (insert k x) h = rw (insert_form (insert k x) h, key_says (insert k x) h, value_says (insert k x) h)
ask_says (delete k) h = rw (insert_form (delete k) h, key_says (delete k) h)

-- what a record's head says, as bytes
head_bytes : (n k : ℕ) (x : Bytes) → All Byte x → length x ≡ record_size → head_is n k x ≡ true → flat (le 4 n ∷ le 2 k ∷ le 2 0 ∷ slice key_at_lem 32 x ∷ slice value_at 32 x ∷ []) ≡ x
unfolding head_is
head_bytes n k x h l e =
    let t = all_of_tests _ e in
    let u : le 4 n ≡ slice 0 4 x = ap (le 4) (sym (eqb-true _ _ t.0)) ∙ le_field 0 4 x (omega arith) h in
    let v : le 2 k ≡ slice 4 2 x = ap (le 2) (sym (eqb-true _ _ t.1.0)) ∙ le_field kind_at 2 x (omega arith) h in
    let w : le 2 0 ≡ slice 6 2 x = ap (le 2) (sym (eqb-true _ _ t.1.1.0)) ∙ le_field zero_at 2 x (omega arith) h in
    rw (u, v, w) (flat_cuts sizes 0 x (omega arith))

zeros_are : zero_bytes 32 ≡ zeros
unfolding zeros zero_bytes
zeros_are = refl

-- a record in form is the bytes of what it asks for
pub form_bytes : (x : Bytes) → All Byte x → length x ≡ record_size → ask_form x ≡ true → ask_bytes (ask x) ≡ x
unfolding ask_bytes ask ask_form is_insert is_delete
form_bytes x h l e = go (head_is insert_length insert_kind x) refl e
  where
    go : (t : Bool) → head_is insert_length insert_kind x ≡ t → t || (head_is delete_length delete_kind x && all_zero (slice value_at 32 x)) ≡ true → ask_bytes (cond t (insert (slice key_at_lem 32 x) (slice value_at 32 x)) (delete (slice key_at_lem 32 x))) ≡ x
    go true d f = head_bytes insert_length insert_kind x h l d
    go false d f =
        let z : slice value_at 32 x ≡ zeros =
        zero_bytes_lem (slice value_at 32 x) (and_right (head_is delete_length delete_kind x) _ f) ∙ ap zero_bytes (length_slice value_at 32 x (omega arith)) ∙ zeros_are in
        rw (← z) (head_bytes delete_length delete_kind x h l (and_left (head_is delete_length delete_kind x) _ f))

-- what is read is in form
pub ask_whole : (x : Bytes) → All Byte x → length x ≡ record_size → AskForm (ask x)
unfolding ask
ask_whole x h l = go (is_insert x)
  where
    part : (i : ℕ) → i + 32 ≤ record_size → Whole32 (slice i 32 x)
    part i m = (length_slice i 32 x (omega arith), all_slice i 32 x h)

    go : (t : Bool) → AskForm (cond t (insert (slice key_at_lem 32 x) (slice value_at 32 x)) (delete (slice key_at_lem 32 x)))
    go true = (part key_at_lem (omega arith), part value_at (omega arith))
    go false = part key_at_lem (omega arith)

-- the key of a record, and whether it is an insert
pub key_is : (x : Bytes) → ask_key (ask x) ≡ slice key_at_lem 32 x
unfolding ask
key_is x = go (is_insert x)
  where
    go : (t : Bool) → ask_key (cond t (insert (slice key_at_lem 32 x) (slice value_at 32 x)) (delete (slice key_at_lem 32 x))) ≡ slice key_at_lem 32 x
    go true = refl
    go false = refl

pub insert_is : (x : Bytes) → inserts (ask x) ≡ is_insert x
unfolding ask
insert_is x = go (is_insert x)
  where
    go : (t : Bool) → inserts (cond t (insert (slice key_at_lem 32 x) (slice value_at 32 x)) (delete (slice key_at_lem 32 x))) ≡ t
    go true = refl
    go false = refl

pub value_is : (x : Bytes) → is_insert x ≡ true → ask_value (ask x) ≡ slice value_at 32 x
unfolding ask
value_is x e = rw e
