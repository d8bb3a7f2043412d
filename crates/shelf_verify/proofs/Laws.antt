-- The check of a shelf's proof as the code makes it: where the first record ends, which bytes are in form, and one check
-- after the other. Assumes nothing.
use Prim.Native.Nat.{ℕ, zero, suc, ◌+◌, ◌-◌, ◌<◌, ◌≤◌}
use native.Mathlib.Omega.{arith}
use native.Mathlib.Nat.{sub-zero}
use mathlib.Core.Path.{◌≡◌, refl, ap, ap₂, sym, ◌∙◌, subst}
use mathlib.Core.Bool.{Bool, true, false, cond, ◌||◌, ◌&&◌, true≢false, false≢true}
use mathlib.Core.List.{[], ◌∷◌, ◌++◌, append-nil}
use mathlib.Core.Option.{Option, none, some}
use lib.ListN.{length, take, drop, length-take, length-drop, drop_of_length-le}
use lib.Seq.{take_all}
use lib.Dec.{eqb, leb}
use borrow.Author.Tests.{eq-eqb, ne_eqb, eqb-true, eqb-false, le-leb, lt-leb, leb-true, leb-false}
use Rattle.terms.specs.Bits.{Bytes, Byte, All, bits, pack, same_bytes}
use Rattle.terms.specs.Fields.{field, slice, zero_bytes}
use Rattle.terms.specs.Records.{Presence, Absence, Proof, presence, absence}
use Rattle.terms.proofs.Tests.{and_left, and_right}
use Rattle.terms.proofs.Lists.{all_drop}
use Rattle.terms.proofs.Fields.{length_slice}
use Rattle.terms.proofs.Places.{length_pack}
use Rattle.meaning.specs.Calls.{Answer, refused, accepted}
use Rattle.meaning.specs.Reading.{Verdict, present, absent}
use Rattle.meaning.specs.Checking.{leads_to, absence_holds, checked}
use Rattle.meaning.proofs.Told.{exported_as, exported_refusal, exported_answer, seen}
use Rattle.nodehash.specs.Node.{leaf_hash, inner_hash}
use Rattle.proofrecords.specs.ProofBytes.{is_presence, presence_in, is_absence, absence_in, proof_in}
use Rattle.proofrecords.proofs.Forms.{presence_off, absence_off, presence_whole}
use Rattle.place.specs.declared.Place as declared
use Rattle.place.specs.Place.{Stands}
use Rattle.shelf_rules.specs.Shelf.{part_key, ShelfVerifies}
use Rattle.shelf_rules.specs.Reading.{list_record, part_record, by_second, by_end, by_first, shelf_in, by_list, shelf_judged, shelf_verified}
use Rattle.shelf_rules.proofs.Told.{shelf_verifies}
use Rattle.verify_rules.specs.Verify.{Verifies}
use Rattle.verify_rules.specs.Reading.{judged, verified}
use Rattle.verify_rules.proofs.Told.{told_exactly}
use Rattle.verify_call.proofs.Boundary.{zeros_found}
use Rattle.shelf_verify.specs.Both.{is_proof, first_length, is_shelf, both, ChecksBoth}

-- the bytes of that place are the part's key
pub part_key_lem : (b : ℕ) (k : Bytes) (p : declared.Place) → Stands (take b (bits k)) b p → p.bits ≡ part_key b k
unfolding part_key
part_key_lem b k p w = w.proper.trimmed ∙ ap (pack 32) w.place

-- the bytes in front
pub front_part : (e : ℕ) (x : Bytes) → take (e - 0) (drop 0 x) ≡ take e x
front_part e x = ap (λ n. take n x) (sub-zero e)

-- where the first record ends
module _ (x : Bytes) where
  pub first_short : length x < 4 → length x ≡ first_length x
  unfolding first_length
  first_short h = rw (lt-leb 4 (length x) h) refl

  module _ (h : 4 ≤ length x) where
    pub first_past : length x < field 0 4 x → length x ≡ first_length x
    unfolding first_length
    first_past f = rw (le-leb 4 (length x) h, lt-leb (field 0 4 x) (length x) f) refl

    pub first_own : field 0 4 x ≤ length x → field 0 4 x ≡ first_length x
    unfolding first_length
    first_own f = rw (le-leb 4 (length x) h, le-leb (field 0 4 x) (length x) f) refl

  pub first_within : first_length x ≤ length x
  unfolding first_length
  first_within = go (leb 4 (length x)) (leb (field 0 4 x) (length x)) refl
    where
      go : (a b : Bool) → leb (field 0 4 x) (length x) ≡ b → cond (a && b) (field 0 4 x) (length x) ≤ length x
      go false b e = omega arith
      go true false e = omega arith
      go true true e = leb-true (field 0 4 x) (length x) e

-- which bytes are in form
module _ (x : Bytes) where
  pub is_presence_proof : is_presence x ≡ true → true ≡ is_proof x
  unfolding is_proof
  is_presence_proof e = rw e refl

  pub is_absence_proof : is_presence x ≡ false → is_absence x ≡ is_proof x
  unfolding is_proof
  is_absence_proof e = rw e refl

module _ (e : ℕ) (x : Bytes) where
  pub second_decides : is_presence (take e x) ≡ true → is_proof (drop e x) ≡ is_shelf e x
  unfolding is_shelf
  second_decides p = rw p refl

  module _ (p : is_presence (take e x) ≡ false) where
    pub neither_record : is_absence (take e x) ≡ false → false ≡ is_shelf e x
    unfolding is_shelf
    neither_record a = rw (p, a) refl

    pub end_decides : is_absence (take e x) ≡ true → {b : Bool} → b ≡ eqb e (length x) → b ≡ is_shelf e x
    unfolding is_shelf
    end_decides a i = i ∙ rw (p, a) refl

-- what bytes are read as, by their form
module _ (x : Bytes) where
  read_presence : is_presence x ≡ true → proof_in x ≡ some (presence (presence_in x))
  unfolding proof_in
  read_presence p = rw p refl

  read_absence : is_presence x ≡ false → is_absence x ≡ true → proof_in x ≡ some (absence (absence_in x))
  unfolding proof_in
  read_absence p a = rw (p, a) refl

  read_nothing : is_presence x ≡ false → is_absence x ≡ false → proof_in x ≡ none
  unfolding proof_in
  read_nothing p a = rw (p, a) refl

  read_proof : is_proof x ≡ true → (q : Proof) × (proof_in x ≡ some q)
  unfolding is_proof
  read_proof e = go (is_presence x) (is_absence x) refl refl e
    where
      go : (a b : Bool) → is_presence x ≡ a → is_absence x ≡ b → a || b ≡ true → (q : Proof) × (proof_in x ≡ some q)
      go true b f g h = (presence (presence_in x), read_presence f)
      go false true f g h = (absence (absence_in x), read_absence f g)
      go false false f g h = absurd (false≢true h)

  read_none : is_proof x ≡ false → proof_in x ≡ none
  unfolding is_proof
  read_none e = go (is_presence x) (is_absence x) refl refl e
    where
      go : (a b : Bool) → is_presence x ≡ a → is_absence x ≡ b → a || b ≡ false → proof_in x ≡ none
      go true b f g h = absurd (true≢false h)
      go false true f g h = absurd (true≢false h)
      go false false f g h = read_nothing f g

  too_short : length x < 4 → (is_presence x ≡ false) × (is_absence x ≡ false)
  too_short h = (presence_off x 0 (lt-leb 72 (length x) (omega arith)), absence_off x 0 (lt-leb 40 (length x) (omega arith)))

-- the cut by the first record's length is the definition's, where there is one
module _ (x : Bytes) (h : 4 ≤ length x) where
  list_cut : take (first_length x) x ≡ list_record x
  unfolding list_record first_length
  list_cut = go (leb (field 0 4 x) (length x)) refl
    where
      go : (b : Bool) → leb (field 0 4 x) (length x) ≡ b → take (cond (leb 4 (length x) && b) (field 0 4 x) (length x)) x ≡ take (field 0 4 x) x
      go true e = rw (le-leb 4 (length x) h) refl
      go false e =
          let f = leb-false (field 0 4 x) (length x) e in
          rw (le-leb 4 (length x) h) (take_all (length x) x (omega arith) ∙ sym (take_all (field 0 4 x) x (omega arith)))

  part_cut : drop (first_length x) x ≡ part_record x
  unfolding part_record first_length
  part_cut = go (leb (field 0 4 x) (length x)) refl
    where
      go : (b : Bool) → leb (field 0 4 x) (length x) ≡ b → drop (cond (leb 4 (length x) && b) (field 0 4 x) (length x)) x ≡ drop (field 0 4 x) x
      go true e = rw (le-leb 4 (length x) h) refl
      go false e =
          let f = leb-false (field 0 4 x) (length x) e in
          rw (le-leb 4 (length x) h)
          (drop_of_length-le x {i = length x} (omega arith) ∙ sym (drop_of_length-le x {i = field 0 4 x} (omega arith)))

-- nothing is left exactly at the end
at_end : (e : ℕ) (x : Bytes) → eqb e (length x) ≡ true → drop e x ≡ []
at_end e x h = let i = eqb-true e (length x) h in drop_of_length-le x {i = e} (omega arith)

some_left : (e : ℕ) (x : Bytes) → e ≤ length x → eqb e (length x) ≡ false → (a : Absence) → by_end a (drop e x) ≡ none
some_left e x l h a = go (drop e x) (length-drop e x)
  where
    go : (y : Bytes) → length y ≡ length x - e → by_end a y ≡ none
    go [] f = absurd (eqb-false e (length x) h (omega arith))
    go (c ∷ y) f = refl

-- the answer goes through the list
by_value : (t : Bool) (v : Bytes) (f g : Bytes → Answer Verdict) → f v ≡ g v →
    by_list (cond t (accepted (present v)) (refused 11)) f ≡ by_list (cond t (accepted (present v)) (refused 11)) g
by_value true v f g e = e
by_value false v f g e = refl

by_absent : (t : Bool) (g : Bytes → Answer Verdict) →
    by_list (cond t (accepted absent) (refused 11)) g ≡ cond t (accepted absent) (refused 11)
by_absent true g = refl
by_absent false g = refl

value_whole : (x : Bytes) → is_presence x ≡ true → length (presence_in x).value ≡ 32
unfolding presence_in
value_whole x p = length_slice 40 32 x (omega (arith, presence_whole x p))

module _ (k : Bytes) (l : length k ≡ 32) where
  sizes : (root x : Bytes) → length root ≡ 32 → verified root k x ≡ judged root k (proof_in x)
  unfolding verified
  sizes root x r = rw (eq-eqb (length root) 32 r, eq-eqb (length k) 32 l) refl

-- what the two records are read as, and what their checks answer
module _ (e : ℕ) (x : Bytes) (within : e ≤ length x) where
  off_records : is_shelf e x ≡ false → by_first (proof_in (take e x)) (drop e x) ≡ none
  unfolding is_shelf
  off_records h = go (is_presence (take e x)) (is_absence (take e x)) refl refl h
    where
      go : (a c : Bool) → is_presence (take e x) ≡ a → is_absence (take e x) ≡ c →
          cond a (is_proof (drop e x)) (c && eqb e (length x)) ≡ false → by_first (proof_in (take e x)) (drop e x) ≡ none
      go true c p q h =
          ap (λ o. by_first o (drop e x)) (read_presence (take e x) p) ∙ ap (by_second (presence_in (take e x))) (read_none (drop e x) h)
      go false true p q h =
          ap (λ o. by_first o (drop e x)) (read_absence (take e x) p q) ∙ some_left e x within h (absence_in (take e x))
      go false false p q h = ap (λ o. by_first o (drop e x)) (read_nothing (take e x) p q)

  module _ (root : Bytes) (b : ℕ) (k : Bytes) (r : length root ≡ 32) (l : length k ≡ 32) where
    part_whole : length (part_key b k) ≡ 32
    unfolding part_key
    part_whole = length_pack 32 (take b (bits k))

    abbrev second : Bytes → Answer Verdict
    second top = verified top k (drop e x)

    abbrev first : Option Proof → Answer Verdict
    first o = shelf_judged root b k (by_first o (drop e x))

    in_records : is_shelf e x ≡ true → both root (part_key b k) k e x ≡ shelf_judged root b k (by_first (proof_in (take e x)) (drop e x))
    unfolding is_shelf both
    in_records h = go (is_presence (take e x)) (is_absence (take e x)) refl refl h
      where
        go : (a c : Bool) → is_presence (take e x) ≡ a → is_absence (take e x) ≡ c →
            cond a (is_proof (drop e x)) (c && eqb e (length x)) ≡ true →
            by_list (verified root (part_key b k) (take e x)) second ≡ first (proof_in (take e x))
        go true c p q h =
            let there = read_presence (take e x) p in
            let shown = presence_in (take e x) in
            let (proof, f) = read_proof (drop e x) h in
            ap (λ a. by_list a second) (sizes (part_key b k) part_whole root (take e x) r ∙ ap (judged root (part_key b k)) there)
            ∙ by_value (same_bytes (part_key b k) shown.key && leads_to leaf_hash inner_hash root shown) shown.value second (λ top. checked leaf_hash inner_hash top k proof)
            (sizes k l shown.value (drop e x) (value_whole (take e x) p) ∙ ap (judged shown.value k) f)
            ∙ sym (ap first there ∙ ap (λ o. shelf_judged root b k (by_second shown o)) f)
        go false true p q h =
            let there = read_absence (take e x) p q in
            let gone = absence_in (take e x) in
            ap (λ a. by_list a second) (sizes (part_key b k) part_whole root (take e x) r ∙ ap (judged root (part_key b k)) there)
            ∙ by_absent (same_bytes (part_key b k) gone.key && absence_holds leaf_hash inner_hash root (part_key b k) gone.leftward gone.rightward) second
            ∙ sym (ap first there ∙ ap (λ y. shelf_judged root b k (by_end gone y)) (at_end e x h))
        go false false p q h = absurd (false≢true h)

-- bytes too short to have a length are no record
taken_few : (n : ℕ) (x : Bytes) → length (take n x) ≤ length x
taken_few zero x = omega arith
taken_few (suc n) [] = omega arith
taken_few (suc n) (b ∷ x) = omega (arith, taken_few n x)

module _ (x : Bytes) (h : length x < 4) where
  short_off : is_shelf (first_length x) x ≡ false
  unfolding is_shelf
  short_off =
      let f : take (first_length x) x ≡ x = ap (λ n. take n x) (sym (first_short x h)) ∙ take_all (length x) x (omega arith) in
      rw (f, (too_short x h).0, (too_short x h).1) refl

  short_read : shelf_in x ≡ none
  unfolding shelf_in list_record
  short_read =
      let few : length (take (field 0 4 x) x) < 4 = omega (arith, taken_few (field 0 4 x) x) in
      let w = too_short (take (field 0 4 x) x) few in
      ap (λ o. by_first o (part_record x)) (read_nothing (take (field 0 4 x) x) w.0 w.1)

-- the records are the definition's
read_so : (x : Bytes) → 4 ≤ length x → by_first (proof_in (take (first_length x) x)) (drop (first_length x) x) ≡ shelf_in x
unfolding shelf_in
read_so x h = ap₂ by_first (ap proof_in (list_cut x h)) (part_cut x h)

module _ (root : Bytes) (b : ℕ) (k x : Bytes) where
  -- 12, 21
  pub shelf_root_off : (length root ≡ 32 → ⊥) → refused 12 ≡ shelf_verified root b k x
  unfolding shelf_verified
  shelf_root_off f = rw (ne_eqb (length root) 32 f) refl

  module _ (r : length root ≡ 32) where
    pub shelf_key_off : (length k ≡ 32 → ⊥) → refused 12 ≡ shelf_verified root b k x
    unfolding shelf_verified
    shelf_key_off f = rw (eq-eqb (length root) 32 r, ne_eqb (length k) 32 f) refl

    module _ (l : length k ≡ 32) where
      pub bits_off : 12 < b → refused 21 ≡ shelf_verified root b k x
      unfolding shelf_verified
      bits_off h = rw (eq-eqb (length root) 32 r, eq-eqb (length k) 32 l, lt-leb b 12 h) refl

      module _ (few : b ≤ 12) where
        shelf_sizes : shelf_verified root b k x ≡ shelf_judged root b k (shelf_in x)
        unfolding shelf_verified
        shelf_sizes = rw (eq-eqb (length root) 32 r, eq-eqb (length k) 32 l, le-leb b 12 few) refl

        -- 10
        off_read : is_shelf (first_length x) x ≡ false → shelf_in x ≡ none
        off_read h = go (leb 4 (length x)) refl
          where
            go : (c : Bool) → leb 4 (length x) ≡ c → shelf_in x ≡ none
            go true e = sym (read_so x (leb-true 4 (length x) e)) ∙ off_records (first_length x) x (first_within x) h
            go false e = short_read x (leb-false 4 (length x) e)

        pub shelf_off_form : is_shelf (first_length x) x ≡ false → refused 10 ≡ shelf_verified root b k x
        shelf_off_form h = sym (shelf_sizes ∙ ap (shelf_judged root b k) (off_read h))

        -- else one check after the other
        pub both_checked : is_shelf (first_length x) x ≡ true → both root (part_key b k) k (first_length x) x ≡ shelf_verified root b k x
        both_checked h = go (leb 4 (length x)) refl
          where
            go : (c : Bool) → leb 4 (length x) ≡ c → both root (part_key b k) k (first_length x) x ≡ shelf_verified root b k x
            go true e =
                in_records (first_length x) x (first_within x) root b k r l h
                ∙ ap (shelf_judged root b k) (read_so x (leb-true 4 (length x) e))
                ∙ sym shelf_sizes
            go false e = absurd (true≢false (sym h ∙ short_off x (leb-false 4 (length x) e)))

-- what the calls leave
module _ {root part k x : Bytes} {e : ℕ} (f : Bytes) where
  pub list_refused : {n : ℕ} → refused n ≡ verified root part (take e x) → ChecksBoth root part k e x f n f
  unfolding both
  list_refused h = record { exported = exported_refusal (ap (λ a. by_list a (λ top. verified top k (drop e x))) h) }

  pub list_absent : {g : Bytes} → accepted absent ≡ verified root part (take e x) → length f ≡ 33 → g ≡ zero_bytes (length f) →
      ChecksBoth root part k e x f 0 g
  unfolding both
  list_absent h l z = record { exported = exported_answer (ap (λ a. by_list a (λ top. verified top k (drop e x))) h) (z ∙ zeros_found f l) }

  pub list_present : All Byte x → {top tops y g : Bytes} {r : ℕ} → accepted (present top) ≡ verified root part (take e x) → tops ≡ top ++ [] → y ≡ drop e x →
      Verifies tops k y f r g → ChecksBoth root part k e x f r g
  unfolding both
  list_present bytes {top} {tops} {y} h t i w =
      let go : Answer Verdict → Answer Verdict = λ a. by_list a (λ top. verified top k (drop e x)) in
      let is = (told_exactly tops k y (subst (All Byte) (sym i) (all_drop Byte e x bytes)) (seen w).answer).0 (seen w).said in
      let j = is ∙ ap₂ (λ z y. verified z k y) (t ∙ append-nil top) i ∙ ap go h in
      record { exported = exported_as j (seen w).exported }

pub shelf_refused : {root k x : Bytes} {b n : ℕ} → All Byte x → (f : Bytes) → refused n ≡ shelf_verified root b k x → ShelfVerifies root b k x f n f
shelf_refused {root} {k} {x} {b} bytes f e = shelf_verifies root b k x bytes (exported_refusal e)

pub as_both : {root part k x f g : Bytes} {e b r : ℕ} → All Byte x → both root (part_key b k) k (first_length x) x ≡ shelf_verified root b k x →
    part ≡ part_key b k → e ≡ first_length x → ChecksBoth root part k e x f r g → ShelfVerifies root b k x f r g
as_both {root} {k = k} {x} {f} {b = b} bytes h p i w =
    let j = ap₂ (λ z n. both root z k n x) p i ∙ h in
    shelf_verifies root b k x bytes (exported_as j w.exported)
