-- A shelf's proof there and back: each record says its own length, so its bytes are cut where they were joined. Assumes
-- nothing.
use Prim.Native.Nat.{ℕ, ◌+◌, ◌≤◌}
use native.Mathlib.Omega.{arith}
use mathlib.Core.Path.{◌≡◌, refl, ap, ap₂, sym, ◌∙◌, subst}
use mathlib.Core.Bool.{Bool, true, false, cond}
use mathlib.Core.List.{[], ◌∷◌, ◌++◌, append-nil}
use mathlib.Core.Option.{Option, none, some}
use lib.ListN.{length, take, drop, length-append, take-append-drop}
use lib.Seq.{take_at, drop_at, take-append-le}
use borrow.Author.Tests.{eqb-true, leb-true}
use Rattle.terms.specs.Bits.{Bytes, Byte, All}
use Rattle.terms.specs.Fields.{num, field, slice}
use Rattle.terms.specs.Records.{Presence, Absence, Proof, presence, absence}
use Rattle.terms.proofs.Fields.{all_of_tests}
use Rattle.terms.proofs.Lists.{all_take, all_drop}
use Rattle.proofrecords.specs.ProofBytes.{neighbour_bytes, proof_bytes, presence_tests, is_presence, presence_in, absence_tests, is_absence, absence_in, proof_in, PresenceForm, NeighbourForm, ProofForm}
use Rattle.proofrecords.proofs.Proofs.{length_presence, length_absence, proof_back, proof_bytes_lem}
use Rattle.shelf_rules.specs.Shelf.{ShelfProof, no_part, in_part}
use Rattle.shelf_rules.specs.Reading.{shelf_bytes, ShelfForm, list_record, part_record, by_second, by_end, by_first, shelf_in}

-- what a record in form says of its length
abbrev Says : Bytes → Type 0
Says x = (field 0 4 x ≡ length x) × (40 ≤ length x)

presence_says : (x : Bytes) → is_presence x ≡ true → Says x
unfolding is_presence
presence_says x e =
    let t = all_of_tests (presence_tests x) e in
    (eqb-true (field 0 4 x) (length x) t.1.0, omega (arith, leb-true 72 (length x) t.0))

absence_says : (x : Bytes) → is_absence x ≡ true → Says x
unfolding is_absence
absence_says x e =
    let t = all_of_tests (absence_tests x) e in
    (eqb-true (field 0 4 x) (length x) t.1.0, leb-true 40 (length x) t.0)

nothing_read : {A B : Type 0} {p : A} → none ≡ some p → B
nothing_read e = let z : ◌≡◌ {A = ℕ} 0 1 = cc in absurd (omega arith)

pub record_says_lem : (x : Bytes) (p : Proof) → proof_in x ≡ some p → (field 0 4 x ≡ length x) × (40 ≤ length x)
unfolding proof_in
record_says_lem x p e = go (is_presence x) (is_absence x) refl refl e
  where
    go : (a b : Bool) → is_presence x ≡ a → is_absence x ≡ b →
        cond a (some (presence (presence_in x))) (cond b (some (absence (absence_in x))) none) ≡ some p → Says x
    go true b f g e = presence_says x f
    go false true f g e = absence_says x g
    go false false f g e = nothing_read e

-- a record with bytes after it is cut off by its length
module _ (x ys : Bytes) (p : Proof) (e : proof_in x ≡ some p) where
  length_first : field 0 4 (x ++ ys) ≡ length x
  unfolding field slice
  length_first =
      let s = record_says_lem x p e in
      ap num (take-append-le 4 x ys (omega (arith, s.1))) ∙ s.0

  list_there : list_record (x ++ ys) ≡ x
  unfolding list_record
  list_there = ap (λ n. take n (x ++ ys)) length_first ∙ take_at x ys (length x) refl

  part_there : part_record (x ++ ys) ≡ ys
  unfolding part_record
  part_there = ap (λ n. drop n (x ++ ys)) length_first ∙ drop_at x ys (length x) refl

-- The bytes of a proof in form are read as that proof,
pub shelf_back : (p : ShelfProof) → ShelfForm p → shelf_in (shelf_bytes p) ≡ some p
unfolding shelf_in
shelf_back (no_part a) h =
    let x = proof_bytes (absence a) in
    let r = proof_back (absence a) h in
    let whole = append-nil x in
    ap₂ by_first (ap proof_in (ap list_record (sym whole) ∙ list_there x [] (absence a) r) ∙ r) (ap part_record (sym whole) ∙ part_there x [] (absence a) r)
shelf_back (in_part p q) (h, i) =
    let x = proof_bytes (presence p) in
    let y = proof_bytes q in
    let r = proof_back (presence p) h in
    ap₂ by_first (ap proof_in (list_there x y (presence p) r) ∙ r) (part_there x y (presence p) r)
    ∙ ap (by_second p) (proof_back q i)

-- and bytes that are read as a proof are its bytes.
module _ (x : Bytes) (bytes : All Byte x) where
  joined : list_record x ++ part_record x ≡ x
  unfolding list_record part_record
  joined = take-append-drop (field 0 4 x) x

  list_bytes_lem : All Byte (list_record x)
  unfolding list_record
  list_bytes_lem = all_take Byte (field 0 4 x) x bytes

  part_bytes : All Byte (part_record x)
  unfolding part_record
  part_bytes = all_drop Byte (field 0 4 x) x bytes

  same_shelf : {p q : ShelfProof} → some p ≡ some q → p ≡ q
  same_shelf e = cc

  pub shelf_bytes_lem : (p : ShelfProof) → shelf_in x ≡ some p → ShelfForm p × (shelf_bytes p ≡ x)
  unfolding shelf_in
  shelf_bytes_lem p e = first (proof_in (list_record x)) refl e
    where
      second : (l : Presence) → proof_in (list_record x) ≡ some (presence l) → (o : Option Proof) → proof_in (part_record x) ≡ o →
          by_second l o ≡ some p → ShelfForm p × (shelf_bytes p ≡ x)
      second l d none f g = nothing_read g
      second l d (some q) f g =
          let u = proof_bytes_lem (list_record x) (presence l) list_bytes_lem d in
          let w = proof_bytes_lem (part_record x) q part_bytes f in
          subst (λ z. ShelfForm z × (shelf_bytes z ≡ x)) (same_shelf g)
          ((u.0, w.0), ap₂ ◌++◌ u.1 w.1 ∙ joined)

      end : (a : Absence) → proof_in (list_record x) ≡ some (absence a) → (y : Bytes) → part_record x ≡ y → by_end a y ≡ some p →
          ShelfForm p × (shelf_bytes p ≡ x)
      end a d [] f g =
          let u = proof_bytes_lem (list_record x) (absence a) list_bytes_lem d in
          subst (λ z. ShelfForm z × (shelf_bytes z ≡ x)) (same_shelf g)
          (u.0, u.1 ∙ sym (append-nil (list_record x)) ∙ ap (list_record x ++◌) (sym f) ∙ joined)
      end a d (b ∷ y) f g = nothing_read g

      first : (o : Option Proof) → proof_in (list_record x) ≡ o → by_first o (part_record x) ≡ some p → ShelfForm p × (shelf_bytes p ≡ x)
      first none d g = nothing_read g
      first (some (presence l)) d g = second l d (proof_in (part_record x)) refl g
      first (some (absence a)) d g = end a d (part_record x) refl g

-- How long a record is: a presence proof has at most 8,520 bytes, any other at most 17,080.
presence_short : (p : Presence) → PresenceForm p → length (proof_bytes (presence p)) ≤ 8520
presence_short p h = omega (arith, length_presence p h, h.short)

neighbour_short : (o : Option Presence) → NeighbourForm o → length (neighbour_bytes o) ≤ 8520
neighbour_short none h = omega arith
neighbour_short (some p) h = presence_short p h

proof_short : (p : Proof) → ProofForm p → length (proof_bytes p) ≤ 17080
proof_short (presence p) h = omega (arith, presence_short p h)
proof_short (absence a) (k, l, r, f) =
    omega (arith, length_absence a k l r, neighbour_short a.leftward l, neighbour_short a.rightward r)

-- A shelf's proof has at most 17,080 + 17,080 bytes; since a list's record that another follows is a presence proof, at
-- most 25,600.
pub shelf_proofs_have_25600_bytes : (p : ShelfProof) → ShelfForm p → length (shelf_bytes p) ≤ 25600
shelf_proofs_have_25600_bytes (no_part a) h = omega (arith, proof_short (absence a) h)
shelf_proofs_have_25600_bytes (in_part p q) (h, i) =
    omega (arith, length-append (proof_bytes (presence p)) (proof_bytes q), presence_short p h, proof_short q i)
