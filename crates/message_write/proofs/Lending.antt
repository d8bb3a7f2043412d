-- What is lent, against the proof of a record: 15, or the message. Assumes nothing.
use Prim.Native.Nat.{ℕ, zero, suc, ◌+◌, ◌-◌, ◌<◌, ◌≤◌}
use native.Mathlib.Omega.{arith}
use mathlib.Core.Path.{◌≡◌, refl, ap, ap₂, sym, ◌∙◌, subst}
use mathlib.Core.Bool.{Bool, true, false, cond, ◌&&◌}
use mathlib.Core.List.{[], ◌∷◌, ◌++◌}
use mathlib.Core.Option.{Option, none, some}
use lib.ListN.{length, take, drop}
use lib.Dec.{eqb, leb}
use borrow.Author.Tests.{leb-true, eqb-true, eqb-false}
use Rattle.terms.specs.Bits.{Bytes}
use Rattle.terms.specs.Fields.{slice, field, all_of}
use Rattle.terms.specs.Records.{Presence, Absence, Proof, presence, absence}
use Rattle.terms.proofs.Tests.{and_left, and_right}
use Rattle.terms.proofs.Fields.{all_of_tests}
use Rattle.meaning.specs.Calls.{Answer, refused, accepted}
use Rattle.sha256.specs.Sha256.{sha256}
use Rattle.proofrecords.specs.ProofBytes.{flags, is_presence, presence_in, absence_tests, is_absence, absence_in, left_length, left_part, right_part, proof_in}
use Rattle.proofrecords.proofs.Forms.{presence_whole, one_there, flags_both, left_there, right_there, rest_part, left_part_lem, right_part_lem}
use Rattle.messages.specs.Message.{message_bytes}
use Rattle.messages.specs.Reading.{length_right}
use Rattle.messages.specs.Lending.{Leaf, Lent, hashes_to, leaf_fits, unlent, leaves_fit, lent_fits, raw_proof, fitted, written_from}
use Rattle.message_lent.specs.Lent.{leaf, record_in, InForm, neighbour_fits}
use Rattle.message_lent.proofs.Lengths.{nobody_is, somebody_is}
use Rattle.message_put.specs.Inner.{Lendable}
use Rattle.std.specs.Prelude.{Result, Err}
use Rattle.refusal_numbers.specs.declared.Refusal.{Refusal}
use Rattle.refusal_numbers.specs.declared.Refusal.TheVariants.{NotInForm, NotRaw}
use Rattle.message_write.specs.Wrote.{lent, fitted_in, besides, AskedRaw, LendableOr, Writes}

-- lengths of what hashes to what a proof holds
pub right_lengths : (most : ℕ) (x h : Bytes) → hashes_to sha256 most x h ≡ true → (1 ≤ length x) × (length x ≤ most)
unfolding hashes_to length_right
right_lengths most x h e =
    let t = (all_of_tests _ e).0 in
    (leb-true 1 (length x) (and_left (leb 1 (length x)) (leb (length x) most) t), leb-true (length x) most (and_right (leb 1 (length x)) (leb (length x) most) t))

pub lendable : (k x : Bytes) (p : Presence) → leaf_fits sha256 (leaf k x) p ≡ true → Lendable k x
unfolding leaf_fits
lendable k x p e =
    let t = all_of_tests _ e in
    let a = right_lengths 256 k p.key t.0 in
    let b = right_lengths 4096 x p.value t.1.0 in
    record { key_some = a.0; key_short = a.1; value_some = b.0; value_short = b.1 }

pub lendable_or : (k x p : Bytes) → InForm p → neighbour_fits (leaf k x) (record_in p) ≡ true → LendableOr p k x
lendable_or k x p f e = (f, λ h. lendable k x (presence_in p) (sym (ap (neighbour_fits (leaf k x)) (somebody_is p h)) ∙ e))

-- 15
pub writes_15 : {a : Answer Bytes} {room : Bytes} → a ≡ refused 15 → Writes a room (Err NotRaw) room
writes_15 e = record { answer = rw e; bytes = rw e }

pub writes_same : {a b : Answer Bytes} {room : Bytes} {r : Result ℕ Refusal} {t : Bytes} → a ≡ b → Writes b room r t → Writes a room r t
writes_same {a} {b} {room} {r} {t} e w = subst (λ u. Writes u room r t) (sym e) w

module _ (asked : Bytes) (first second : Leaf) (room : ℕ) where
  abbrev given : Lent
  given = lent asked first second

  -- a presence
  pub asked_off : (p : Presence) → hashes_to sha256 256 asked p.key ≡ false → written_from sha256 (some (presence p)) given room ≡ refused 15
  unfolding written_from all_of
  asked_off p e = rw e

  pub leaf_off : (p : Presence) → hashes_to sha256 256 asked p.key ≡ true → leaf_fits sha256 first p ≡ false → written_from sha256 (some (presence p)) given room ≡ refused 15
  unfolding written_from all_of
  leaf_off p e f = rw (e, f)

  pub leaf_over : (p : Presence) → hashes_to sha256 256 asked p.key ≡ true → leaf_fits sha256 first p ≡ true → unlent second ≡ false →
      written_from sha256 (some (presence p)) given room ≡ refused 15
  unfolding written_from all_of
  leaf_over p e f g = rw (e, f, g)

  pub presence_fits : (p : Presence) → hashes_to sha256 256 asked p.key ≡ true → leaf_fits sha256 first p ≡ true → unlent second ≡ true →
      written_from sha256 (some (presence p)) given room ≡ fitted sha256 room (message_bytes (raw_proof given (presence p))) (message_bytes (raw_proof given (presence p)))
  unfolding written_from all_of
  presence_fits p e f g = rw (e, f, g)

  -- an absence
  pub key_off : (a : Absence) → hashes_to sha256 256 asked a.key ≡ false → written_from sha256 (some (absence a)) given room ≡ refused 15
  unfolding written_from all_of
  key_off a e = rw e

  module _ (key : Bytes) (e : hashes_to sha256 256 asked key ≡ true) where
    abbrev shown : Option Presence → Option Presence → Proof
    shown l r = absence (record { key = key; leftward = l; rightward = r })

    pub left_over : (l : Presence) → unlent second ≡ false → written_from sha256 (some (shown (some l) none)) given room ≡ refused 15
    unfolding written_from all_of
    left_over l g = rw (e, g) (go (leaf_fits sha256 first l))
      where
        go : (b : Bool) → cond ((b && false) && true) (fitted sha256 room (message_bytes (raw_proof given (shown (some l) none))) (message_bytes (raw_proof given (shown (some l) none)))) (refused 15) ≡ refused 15
        go false = refl
        go true = refl

    pub right_over : (r : Presence) → unlent second ≡ false → written_from sha256 (some (shown none (some r))) given room ≡ refused 15
    unfolding written_from all_of
    right_over r g = rw (e, g) (go (leaf_fits sha256 first r))
      where
        go : (b : Bool) → cond ((b && false) && true) (fitted sha256 room (message_bytes (raw_proof given (shown none (some r)))) (message_bytes (raw_proof given (shown none (some r))))) (refused 15) ≡ refused 15
        go false = refl
        go true = refl

    and_more : (b : Bool) → (b && true) && true ≡ b && true
    and_more false = refl
    and_more true = refl

    pub left_only_lem : (l : Presence) → unlent second ≡ true →
        written_from sha256 (some (shown (some l) none)) given room
        ≡ cond (neighbour_fits first (some l) && neighbour_fits second none) (fitted sha256 room (message_bytes (besides asked first (some l) second none)) (message_bytes (besides asked first (some l) second none))) (refused 15)
    unfolding written_from all_of
    left_only_lem l g = rw (e, g, and_more (leaf_fits sha256 first l))

    pub right_only_lem : (r : Presence) → unlent second ≡ true →
        written_from sha256 (some (shown none (some r))) given room
        ≡ cond (neighbour_fits second none && neighbour_fits first (some r)) (fitted sha256 room (message_bytes (besides asked second none first (some r))) (message_bytes (besides asked second none first (some r)))) (refused 15)
    unfolding written_from all_of
    right_only_lem r g = rw (e, g) (go (leaf_fits sha256 first r))
      where
        F : Answer Bytes
        F = fitted sha256 room (message_bytes (besides asked second none first (some r))) (message_bytes (besides asked second none first (some r)))

        go : (b : Bool) → cond ((b && true) && true) F (refused 15) ≡ cond b F (refused 15)
        go false = refl
        go true = refl

    pub both : (l r : Presence) →
        written_from sha256 (some (shown (some l) (some r))) given room
        ≡ cond (neighbour_fits first (some l) && neighbour_fits second (some r)) (fitted sha256 room (message_bytes (besides asked first (some l) second (some r))) (message_bytes (besides asked first (some l) second (some r)))) (refused 15)
    unfolding written_from all_of
    both l r = rw e (go (leaf_fits sha256 first l) (leaf_fits sha256 second r))
      where
        F : Answer Bytes
        F = fitted sha256 room (message_bytes (besides asked first (some l) second (some r))) (message_bytes (besides asked first (some l) second (some r)))

        go : (b c : Bool) → cond ((b && (c && true)) && true) F (refused 15) ≡ cond (b && c) F (refused 15)
        go false c = refl
        go true false = refl
        go true true = refl

-- the neighbours' leaves
pub first_off : (room : Bytes) (q : Proof) {b : Bool} (c : Bool) → b ≡ false → cond (b && c) (fitted_in q room) (refused 15) ≡ refused 15
first_off room q c e = rw e

module _ (room : Bytes) (q : Proof) {b c : Bool} where
  pub second_off : b ≡ true → c ≡ false → cond (b && c) (fitted_in q room) (refused 15) ≡ refused 15
  second_off e f = rw (e, f)

  pub both_on : b ≡ true → c ≡ true → cond (b && c) (fitted_in q room) (refused 15) ≡ fitted_in q room
  both_on e f = rw (e, f)

-- the proof of a record in form
pub is_presence_lem : (p : Bytes) (given : Lent) (room : ℕ) → is_presence p ≡ true → written_from sha256 (proof_in p) given room ≡ written_from sha256 (some (presence (presence_in p))) given room
unfolding proof_in
is_presence_lem p given room e = rw e

pub is_absence_lem : (p : Bytes) (given : Lent) (room : ℕ) → is_presence p ≡ false → is_absence p ≡ true → written_from sha256 (proof_in p) given room ≡ written_from sha256 (some (absence (absence_in p))) given room
unfolding proof_in
is_absence_lem p given room e f = rw (e, f)

pub not_in_form : (p : Bytes) (given : Lent) (room : Bytes) → is_presence p ≡ false → is_absence p ≡ false → Writes (written_from sha256 (proof_in p) given (length room)) room (Err NotInForm) room
unfolding written_from proof_in
not_in_form p given room e f = record { answer = rw (e, f); bytes = rw (e, f) }

-- the neighbours of an absence, by its flags
pub flags_1 : (p : Bytes) → flags p ≡ 1 → absence_in p ≡ record { key = slice 8 32 p; leftward = some (presence_in (drop 40 p)); rightward = none }
unfolding absence_in
flags_1 p e = rw e

pub flags_2 : (p : Bytes) → flags p ≡ 2 → absence_in p ≡ record { key = slice 8 32 p; leftward = none; rightward = some (presence_in (drop 40 p)) }
unfolding absence_in
flags_2 p e = rw e

pub flags_3 : (p : Bytes) → flags p ≡ 3 → absence_in p ≡ record { key = slice 8 32 p; leftward = some (presence_in (left_part p)); rightward = some (presence_in (right_part p)) }
unfolding absence_in
flags_3 p e = rw e

pub flags_read : (p : Bytes) {n : ℕ} → n ≡ field 6 2 p → n ≡ flags p
unfolding flags
flags_read p e = e

pub length_read : (p : Bytes) {n : ℕ} → n ≡ field 40 4 p → n ≡ left_length p
unfolding left_length
length_read p e = e

flags_some : (p : Bytes) → is_absence p ≡ true → 1 ≤ flags p
unfolding is_absence
flags_some p h = leb-true 1 (flags p) (all_of_tests (absence_tests p) h).1.1.1.0

pub flags_are_2 : (p : Bytes) → is_absence p ≡ true → flags p ≤ 2 → (flags p ≡ 1 → ⊥) → flags p ≡ 2
flags_are_2 p h l n = go (flags p) refl
  where
    go : (k : ℕ) → flags p ≡ k → flags p ≡ 2
    go zero e = absurd (omega (arith, e, flags_some p h))
    go (suc zero) e = absurd (n e)
    go (suc (suc k)) e = omega (arith, e, l)

-- the parts that the code cuts out
abbrev rest : Bytes → Bytes
rest p = take (length p - 40) (drop 40 p)

abbrev nothing : Bytes → Bytes
nothing p = take (length p - length p) (drop (length p) p)

abbrev left_cut : ℕ → Bytes → Bytes
left_cut l p = take (40 + l - 40) (drop 40 p)

abbrev right_cut : ℕ → Bytes → Bytes
right_cut l p = take (length p - (40 + l)) (drop (40 + l) p)

presence_some : (p : Bytes) → is_presence p ≡ true → length p ≡ 0 → ⊥
presence_some p h e = omega (arith, presence_whole p h)

record_there : (y p : Bytes) → y ≡ p → is_presence p ≡ true → record_in y ≡ some (presence_in p)
record_there y p e h = ap record_in e ∙ somebody_is p (presence_some p h)

nothing_long : (p : Bytes) → length (nothing p) ≡ 0
nothing_long p = let z : length p - length p ≡ 0 = omega arith in rw z

record_none : (p : Bytes) → record_in (nothing p) ≡ none
record_none p = nobody_is (nothing p) (nothing_long p)

pub form_none : (p : Bytes) → InForm (nothing p)
form_none p h = absurd (h (nothing_long p))

pub form_rest : (p : Bytes) → is_absence p ≡ true → flags p ≤ 2 → InForm (rest p)
form_rest p h l n = ap is_presence (rest_part 40 p) ∙ one_there p h l

module _ (p : Bytes) (h : is_absence p ≡ true) (l : ℕ) (is : l ≡ left_length p) (two : 2 < flags p) where
  pub form_left : InForm (left_cut l p)
  form_left n = ap is_presence (left_part_lem l p is) ∙ left_there p h two

  pub form_right : InForm (right_cut l p)
  form_right n = ap is_presence (right_part_lem l p is) ∙ right_there p h two

-- one neighbour, or two, as the code hands them on
module _ (asked : Bytes) (first second : Leaf) (room : ℕ) (p : Bytes) (h : is_absence p ≡ true) (e : hashes_to sha256 256 asked (slice 8 32 p) ≡ true) where
  abbrev answer : Answer Bytes
  answer = written_from sha256 (some (absence (absence_in p))) (lent asked first second) room

  abbrev asks : Leaf → Option Presence → Leaf → Option Presence → Answer Bytes
  asks a l b r =
      cond (neighbour_fits a l && neighbour_fits b r) (fitted sha256 room (message_bytes (besides asked a l b r)) (message_bytes (besides asked a l b r))) (refused 15)

  pub one_over : flags p ≤ 2 → unlent second ≡ false → answer ≡ refused 15
  one_over l g = go (eqb (flags p) 1) refl
    where
      go : (b : Bool) → eqb (flags p) 1 ≡ b → answer ≡ refused 15
      go true f =
          ap (λ a. written_from sha256 (some (absence a)) (lent asked first second) room) (flags_1 p (eqb-true (flags p) 1 f))
          ∙ left_over asked first second room (slice 8 32 p) e (presence_in (drop 40 p)) g
      go false f =
          ap (λ a. written_from sha256 (some (absence a)) (lent asked first second) room) (flags_2 p (flags_are_2 p h l (eqb-false (flags p) 1 f)))
          ∙ right_over asked first second room (slice 8 32 p) e (presence_in (drop 40 p)) g

  pub one_left : flags p ≡ 1 → unlent second ≡ true → answer ≡ asks first (record_in (rest p)) second (record_in (nothing p))
  one_left f g =
      ap (λ a. written_from sha256 (some (absence a)) (lent asked first second) room) (flags_1 p f)
      ∙ left_only_lem asked first second room (slice 8 32 p) e (presence_in (drop 40 p)) g
      ∙ sym (ap₂ (λ u v. asks first u second v) (record_there (rest p) (drop 40 p) (rest_part 40 p) (one_there p h (omega arith))) (record_none p))

  pub one_right : flags p ≡ 2 → unlent second ≡ true → answer ≡ asks second (record_in (nothing p)) first (record_in (rest p))
  one_right f g =
      ap (λ a. written_from sha256 (some (absence a)) (lent asked first second) room) (flags_2 p f)
      ∙ right_only_lem asked first second room (slice 8 32 p) e (presence_in (drop 40 p)) g
      ∙ sym (ap₂ (λ u v. asks second u first v) (record_none p) (record_there (rest p) (drop 40 p) (rest_part 40 p) (one_there p h (omega arith))))

  pub two_shown : (l : ℕ) → l ≡ left_length p → 2 < flags p → answer ≡ asks first (record_in (left_cut l p)) second (record_in (right_cut l p))
  two_shown l is two =
      ap (λ a. written_from sha256 (some (absence a)) (lent asked first second) room) (flags_3 p (flags_both p h two))
      ∙ both asked first second room (slice 8 32 p) e (presence_in (left_part p)) (presence_in (right_part p))
      ∙ sym (ap₂ (λ u v. asks first u second v) (record_there (left_cut l p) (left_part p) (left_part_lem l p is) (left_there p h two)) (record_there (right_cut l p) (right_part p) (right_part_lem l p is) (right_there p h two)))
