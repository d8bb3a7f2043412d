-- Rows 1 and 2: what reading a header says is what they deserve; and the records of bytes with a right header are in form. Assumes nothing.
use Prim.Native.Nat.{ℕ, ◌+◌, ◌*◌, ◌≤◌}
use native.Mathlib.Omega.{arith}
use mathlib.Core.Path.{◌≡◌, refl, ap, sym, ◌∙◌, subst}
use mathlib.Core.Logic.{inl, inr}
use mathlib.Core.Bool.{Bool, true, false, cond, true≢false}
use lib.ListN.{length}
use borrow.Author.Tests.{eqb-true, eq-eqb, leb-true, le-leb}
use Rattle.terms.specs.declared.Form.{Form}
use Rattle.terms.specs.declared.Form.TheVariants.{Counted as counted}
use Rattle.terms.specs.Bits.{Bytes, Byte, All}
use Rattle.terms.specs.Fields.{field, slice, zero_bytes, all_zero}
use Rattle.terms.specs.Records.{free}
use Rattle.terms.proofs.Lists.{all_at}
use Rattle.terms.proofs.Fields.{length_slice, zero_bytes_lem, all_zero_lem, all_of_tests, tests_all}
use Rattle.meaning.specs.Sound.{At}
use Rattle.ways.proofs.Walking.{Formed}
use Rattle.layout.specs.Sizes.{header_kind, slot_size, room_of}
use Rattle.layout.specs.Headers.{Headed, refusal, header, size_right, header_right, header_tests, header_of}
use Rattle.layout.specs.Slots.{SlotForm}
use Rattle.layout.specs.Stores.{store_of}
use Rattle.layout.proofs.Headers.{size_small, room_of_lem, size_right_of, size_says, size_least, accepted}
use Rattle.layout.proofs.Stores.{store_form}
use Rattle.refusals.specs.Tables.{RightHeader, header_rows}
use Rattle.refusals.proofs.Parts.{WrongLength}
use Rattle.refusals.specs.Exactly.{NoneOf}
use Rattle.refusals.proofs.Exactly.{First}

-- row 1 by the test of the length
pub length_wrong : (s : Bytes) → size_right counted (length s) ≡ false → WrongLength s
length_wrong s e n least most size = true≢false (sym (size_right_of counted (length s) n size least most) ∙ e)

pub length_right_lem : (s : Bytes) → size_right counted (length s) ≡ true → WrongLength s → ⊥
length_right_lem s e w = let z = size_says counted (length s) e in w (room_of counted (length s)) z.1 z.2 z.0

-- row 2 by the tests of the fields
module _ (fm : Form) (s : Bytes) (size : size_right fm (length s) ≡ true) where
  zero_said : (i n : ℕ) → i + n ≤ 144 → all_zero (slice i n s) ≡ true → slice i n s ≡ zero_bytes n
  zero_said i n h e =
      zero_bytes_lem (slice i n s) e ∙ ap zero_bytes (length_slice i n s (omega (arith, size_least fm (length s) size, size_small fm)))

  pub header_said : header_right fm s ≡ true → RightHeader fm s
  unfolding header_right
  header_said e =
      let t = all_of_tests (header_tests fm s) e in
      let c = eqb-true (field 8 4 s) (room_of fm (length s)) t.1.1.1.0 in
      record {
        says_24 = eqb-true (field 0 4 s) 24 t.0;
        kind = eqb-true (field 4 2 s) (header_kind fm) t.1.0;
        two_zero = zero_said 6 2 (omega arith) t.1.1.0;
        capacity = (size_says fm (length s) size).0 ∙ ap (λ n. 24 + slot_size fm * n) (sym c);
        ordered = leb-true (field 12 4 s) (field 16 4 s) t.1.1.1.1.0;
        four_zero = zero_said 20 4 (omega arith) t.1.1.1.1.1.0;
      }

  pub said_header : RightHeader fm s → header_right fm s ≡ true
  unfolding header_right
  said_header w =
      let room = room_of_lem fm (length s) (field 8 4 s) w.capacity in
      tests_all (header_tests fm s) (
        eq-eqb (field 0 4 s) 24 w.says_24,
        (
          eq-eqb (field 4 2 s) (header_kind fm) w.kind,
          (
            ap all_zero w.two_zero ∙ all_zero_lem 2,
            (
              eq-eqb (field 8 4 s) (room_of fm (length s)) (sym room),
              (le-leb (field 12 4 s) (field 16 4 s) w.ordered, (ap all_zero w.four_zero ∙ all_zero_lem 4, tt)),
            ),
          ),
        ),
      )

-- what reading a header says, by the two rows
pub data Header (s : Bytes) : Headed → Type 0 where
  wrong_length : WrongLength s → Header s (refusal 1)
  wrong_header : (WrongLength s → ⊥) → (RightHeader counted s → ⊥) → Header s (refusal 2)
  right : {c o l : ℕ} → (WrongLength s → ⊥) → ((RightHeader counted s → ⊥) → ⊥) → Header s (header c o l)

pub header_is : (s : Bytes) → Header s (header_of counted s)
unfolding header_of
header_is s = go (size_right counted (length s)) (header_right counted s) refl refl
  where
    go : (a b : Bool) → size_right counted (length s) ≡ a → header_right counted s ≡ b →
        Header s (cond a (cond b (header (field 8 4 s) (field 12 4 s) (field 16 4 s)) (refusal 2)) (refusal 1))
    go false b e f = wrong_length (length_wrong s e)
    go true false e f = wrong_header (length_right_lem s e) (λ w. true≢false (sym (said_header counted s e w) ∙ f))
    go true true e f = right (length_right_lem s e) (λ w. w (header_said counted s e f))

-- the rows of a right header do not hold, and others come after them
pub after_header : (s : Bytes) {c o l : ℕ} → header_of counted s ≡ header c o l → NoneOf (header_rows s)
after_header s {c} {o} {l} e = go (subst (Header s) e (header_is s))
  where
    go : Header s (header c o l) → NoneOf (header_rows s)
    go (right a b) = (a, (b, tt))

-- a refused header is refused by its row
pub header_row : (s : Bytes) {m : ℕ} → header_of counted s ≡ refusal m → First (header_rows s) m × (m ≡ 0 → ⊥)
header_row s {m} e = go (subst (Header s) e (header_is s))
  where
    go : {n : ℕ} → Header s (refusal n) → First (header_rows s) n × (n ≡ 0 → ⊥)
    go (wrong_length w) = (inl (w, refl), λ z. omega arith)
    go (wrong_header a w) = (inr (a, inl (w, refl)), λ z. omega arith)

-- the records that bytes with a right header hold are in form
pub records_formed : (s : Bytes) {c o l : ℕ} → All Byte s → header_of counted s ≡ header c o l → Formed (store_of s)
unfolding At
records_formed s {c} {o} {l} h e i r (k, d) =
    (subst (SlotForm counted) d (all_at (SlotForm counted) (store_of s).slots free i (store_form s c o l h (accepted s c o l e)).each k)).0
