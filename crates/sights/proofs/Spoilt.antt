-- Whether a slot is spoilt and agrees, from its bytes; and the search for the lowest such slot. Assumes nothing.
use Prim.Native.Nat.{ℕ, suc, ◌+◌, ◌<◌, ◌≤◌}
use native.Mathlib.Omega.{arith}
use mathlib.Core.Path.{◌≡◌, refl, ap, ap₂, sym, ◌∙◌}
use mathlib.Core.Bool.{Bool, true, false, ◌&&◌, not, false≢true, true≢false}
use mathlib.Core.List.{List, [], ◌∷◌, ◌++◌}
use mathlib.Core.Option.{some}
use lib.ListN.{length, take, drop, length-append}
use borrow.Author.Tests.{eq-eqb, ne_eqb}
use Rattle.terms.specs.declared.Form.TheVariants.{Counted as counted}
use Rattle.terms.specs.Bits.{Bytes}
use Rattle.terms.specs.Fields.{all_zero, all_of}
use Rattle.terms.specs.Records.{Slot, free, used, spoiled}
use Rattle.terms.proofs.Tests.{and_true}
use Rattle.meaning.specs.Sight.{lives_by, agrees_root, lowest_spoilt, sighted}
use Rattle.layout.specs.Sizes.{room_of}
use Rattle.layout.specs.Headers.{size_right}
use Rattle.layout.specs.Slots.{slot_of, count_in, bits_in, version_in, since_in}
use Rattle.layout.specs.Stores.{slot_in, slot_no, store_of, Has}
use Rattle.layout.proofs.Slots.{SlotCases, are_free, are_leaf, are_inner, are_spoiled, slot_cases}
use Rattle.store.proofs.Slots.{slot_is}
use Rattle.store.proofs.Scans.{Scan, scan_start, scan_passed, scan_inside, scan_slot, scan_here, scan_next, scan_end}
use Rattle.lookup.specs.Lookup.{is_used}
use Rattle.lifetime.specs.Lifetime.{covers}
use Rattle.lookup.proofs.Matching.{and_false}
use Rattle.std.specs.Prelude.{Some, None}
use Rattle.sights.specs.Sights.{spoilt_by, is_spoilt, Tests, SpoiltIn, SightedBy}
use Rattle.sights.specs.declared.Sight.TheVariants as sight

-- a record in form is not spoilt, and neither is a free slot; what else there is, is
pub used_whole : (y : Slot) → is_used y ≡ true → false ≡ is_spoilt y
used_whole free e = refl
used_whole (used r) e = refl
used_whole (spoiled x) e = absurd (false≢true e)

pub unused_spoilt : (x : Bytes) → is_used (slot_of x) ≡ false → not (all_zero x) ≡ is_spoilt (slot_of x)
unused_spoilt x u = go (slot_cases x)
  where
    go : SlotCases x → not (all_zero x) ≡ is_spoilt (slot_of x)
    go (are_free z e) = rw (z, e)
    go (are_leaf z t e) = absurd (true≢false (sym (ap is_used e) ∙ u))
    go (are_inner z n t e) = absurd (true≢false (sym (ap is_used e) ∙ u))
    go (are_spoiled z n m e) = rw (z, e)

-- whether a slot is spoilt and passes a test, by the test of its bytes
module _ (test : Bytes → Bool) (x : Bytes) where
  tested : (c : Bool) → test x ≡ c → (c && is_spoilt (slot_of x)) ≡ spoilt_by test (slot_of x)
  tested c e = go (slot_cases x)
    where
      go : SlotCases x → (c && is_spoilt (slot_of x)) ≡ spoilt_by test (slot_of x)
      go (are_free z f) = rw f (and_false c)
      go (are_leaf z t f) = rw f (and_false c)
      go (are_inner z n t f) = rw f (and_false c)
      go (are_spoiled z n m f) = rw f (and_true c ∙ sym e)

module _ {s : Bytes} {i : ℕ} (has : Has counted s i) (test : Bytes → Bool) where
  pub apart : test (slot_in counted i s) ≡ false → false ≡ spoilt_by test (slot_no counted i s)
  apart e = tested test (slot_in counted i s) false e ∙ ap (spoilt_by test) (sym (slot_is has))

  pub agreed : test (slot_in counted i s) ≡ true → is_spoilt (slot_of (slot_in counted i s)) ≡ spoilt_by test (slot_no counted i s)
  agreed e = tested test (slot_in counted i s) true e ∙ ap (spoilt_by test) (sym (slot_is has))

-- a root by empty place and its lifetime
module _ (v : ℕ) (x : Bytes) where
  pub below_root : (count_in x ≡ 0 → ⊥) → agrees_root v x ≡ false
  unfolding agrees_root all_of
  below_root f = rw (ne_eqb (count_in x) 0 f)

  lives : covers (version_in x) (since_in x) v ≡ lives_by v x
  unfolding covers lives_by
  lives = refl

  pub elsewhen : count_in x ≡ 0 → covers (version_in x) (since_in x) v ≡ false → agrees_root v x ≡ false
  unfolding agrees_root all_of
  elsewhen e f = rw (eq-eqb (count_in x) 0 e, sym lives ∙ f) (and_false (all_zero (bits_in x)))

  pub by_zeros : {b : Bool} → count_in x ≡ 0 → covers (version_in x) (since_in x) v ≡ true → b ≡ all_zero (bits_in x) → agrees_root v x ≡ b
  unfolding agrees_root all_of
  by_zeros e f g = rw (eq-eqb (count_in x) 0 e, sym lives ∙ f) (and_true _ ∙ sym g)

-- what is found is found among the slots to come
abbrev pub Ahead : (Bytes → Bool) → Bytes → List Slot → List Slot → Type 0
Ahead test s xs ys = lowest_spoilt test 0 (store_of s).slots ≡ lowest_spoilt test (length xs) ys

past : (test : Bytes → Bool) (n : ℕ) (y : Slot) (ys : List Slot) → spoilt_by test y ≡ false → lowest_spoilt test n (y ∷ ys) ≡ lowest_spoilt test (suc n) ys
past test n free ys e = refl
past test n (used r) ys e = refl
past test n (spoiled x) ys e = rw e

here : (test : Bytes → Bool) (n : ℕ) (y : Slot) (ys : List Slot) → spoilt_by test y ≡ true → lowest_spoilt test n (y ∷ ys) ≡ some n
here test n free ys e = absurd (false≢true e)
here test n (used r) ys e = absurd (false≢true e)
here test n (spoiled x) ys e = rw e

-- what is sighted, by the slot that a search found, and by a test's answers at the slots passed
module _ (s : Bytes) (answers : ℕ → Bool → Type 0) where
  abbrev pub Passed : List Slot → List Slot → Type 0
  Passed xs ys = (test : Bytes → Bool) → Tests s answers test → Ahead test s xs ys

  pub matched : (i : ℕ) → SightedBy s (Some i) answers (sight.Matches i)
  matched i o test l t = (l.0, (l.1.0, l.1.1, ap (λ q. sighted q (lowest_spoilt test 0 (store_of s).slots)) l.1.2))

  pub spoilt_start : {n : ℕ} → size_right counted (length s) ≡ true → n ≡ room_of counted (length s) → Scan counted s Passed n 0
  spoilt_start e m = scan_start s Passed e m (λ test t. refl)

  module _ {n i : ℕ} (w : Scan counted s Passed n i) where
    pub spoilt_next : {b : Bool} → i < n → answers i b → b ≡ false → Scan counted s Passed n (i + 1)
    spoilt_next h a e =
        let xs = take i (store_of s).slots in
        let ys = drop (i + 1) (store_of s).slots in
        let more : suc (length xs) ≡ length (xs ++ slot_no counted i s ∷ []) = simp length-append (omega arith) in
        scan_next w h Passed
        (λ test t.
        scan_here w h test t
        ∙ past test (length xs) (slot_no counted i s) ys (sym (t i _ (scan_slot w h) a) ∙ e)
        ∙ ap (λ m. lowest_spoilt test m ys) more)

    spoilt_found : {b : Bool} → i < n → answers i b → b ≡ true → (test : Bytes → Bool) → Tests s answers test → SpoiltIn test (store_of s).slots (Some i)
    spoilt_found h a e test t =
        let xs = take i (store_of s).slots in (
          scan_inside w h,
          scan_here w h test t
              ∙ here test (length xs) (slot_no counted i s) (drop (i + 1) (store_of s).slots) (sym (t i _ (scan_slot w h) a) ∙ e)
              ∙ ap some (scan_passed w),
        )

    pub spoilt_sighted : {b : Bool} → i < n → answers i b → b ≡ true → SightedBy s None answers (sight.Spoilt i)
    spoilt_sighted h a e o test l t = let f = spoilt_found h a e test t in (f.0, ap₂ sighted l f.1)

    pub nothing_sighted : n ≤ i → SightedBy s None answers sight.Nothing
    nothing_sighted h o test l t = ap₂ sighted l (scan_end w h test t)
