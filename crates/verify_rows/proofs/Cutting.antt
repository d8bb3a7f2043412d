-- A row is cut into pieces exactly where it is pieces one after the other, and a row of proofs in form into these proofs. Assumes nothing.
use Prim.Native.Nat.{ℕ, zero, suc, ◌≤◌}
use native.Mathlib.Omega.{arith}
use mathlib.Core.Path.{◌≡◌, refl, ap, ap₂, sym, ◌∙◌}
use mathlib.Core.Logic.{◌↔◌}
use mathlib.Core.Option.{Option, none, some}
use mathlib.Core.Bool.{Bool, true, false, cond, ◌&&◌}
use mathlib.Core.List.{List, [], ◌∷◌, ◌++◌, map}
use lib.ListN.{length, take, drop, length-append, length-take, take-append-drop}
use lib.Seq.{take_at, drop_at, take-append-le, take-take}
use lib.Dec.{eqb, leb}
use borrow.Author.Tests.{leb-true, eqb-true, le-leb}
use Rattle.terms.specs.Bits.{Bytes, All}
use Rattle.terms.specs.Fields.{num, slice, field, flat}
use Rattle.terms.proofs.Fields.{all_of_tests}
use Rattle.terms.proofs.Tests.{and_left, and_right}
use Rattle.terms.specs.Records.{Proof, presence, absence}
use Rattle.proofrecords.specs.ProofBytes.{presence_tests, absence_tests, is_presence, is_absence, presence_in, absence_in, proof_in, proof_bytes, ProofForm}
use Rattle.proofrecords.proofs.Proofs.{proof_back}
use Rattle.verify_rows.proofs.Rows.{begins_room}
use Rattle.verify_rows.specs.Rows.{Piece, Pieces}
use Rattle.verify_rows.specs.Reading.{own_length, begins, cuts_into, pieces}

pub presence_sized : (x : Bytes) → is_presence x ≡ true → Piece x
unfolding is_presence
presence_sized x e =
    let t = all_of_tests (presence_tests x) e in
    let l = leb-true 72 (length x) t.0 in
    (omega arith, eqb-true (field 0 4 x) (length x) t.1.0)

pub absence_sized : (x : Bytes) → is_absence x ≡ true → Piece x
unfolding is_absence
absence_sized x e =
    let t = all_of_tests (absence_tests x) e in
    let l = leb-true 40 (length x) t.0 in
    (omega arith, eqb-true (field 0 4 x) (length x) t.1.0)

-- whatever follows a piece, it begins the bytes
module _ (x ys : Bytes) (h : Piece x) where
  own_there : own_length (x ++ ys) ≡ length x
  unfolding own_length field slice
  own_there = ap num (take-append-le 4 x ys h.0) ∙ h.1

  begins_there : begins (x ++ ys) ≡ true
  unfolding begins
  begins_there =
      let l = length-append x ys in
      let s = h.0 in
      rw (own_there, le-leb 4 (length (x ++ ys)) (omega arith), le-leb 4 (length x) h.0, le-leb (length x) (length (x ++ ys)) (omega arith))

  rest_there : drop (own_length (x ++ ys)) (x ++ ys) ≡ ys
  rest_there = ap (λ (k : ℕ). drop k (x ++ ys)) own_there ∙ drop_at x ys (length x) refl

  piece_there : take (own_length (x ++ ys)) (x ++ ys) ≡ x
  piece_there = ap (λ (k : ℕ). take k (x ++ ys)) own_there ∙ take_at x ys (length x) refl

pub row_cut : (xs : List Bytes) → All Piece xs → (cuts_into (length xs) (flat xs) ≡ true) × (pieces (length xs) (flat xs) ≡ xs)
row_cut [] h = (refl, refl)
row_cut (x ∷ xs) h =
    let r = row_cut xs h.1 in (
      ap₂ ◌&&◌ (begins_there x (flat xs) h.0) (ap (cuts_into (length xs)) (rest_there x (flat xs) h.0) ∙ r.0),
      ap₂ ◌∷◌ (piece_there x (flat xs) h.0) (ap (pieces (length xs)) (rest_there x (flat xs) h.0) ∙ r.1),
    )

-- and what is cut into pieces is these pieces one after the other
pieces_many : (n : ℕ) (x : Bytes) → length (pieces n x) ≡ n
pieces_many zero x = refl
pieces_many (suc n) x = ap suc (pieces_many n (drop (own_length x) x))

front_sized : (x : Bytes) → begins x ≡ true → Piece (take (own_length x) x)
unfolding own_length field slice
front_sized x b =
    let r = begins_room x b in
    let l = length-take (own_length x) x in
    (omega arith, ap num (take-take 4 (own_length x) x r.1) ∙ omega arith)

pieces_sized : (n : ℕ) (x : Bytes) → cuts_into n x ≡ true → All Piece (pieces n x)
pieces_sized zero x e = tt
pieces_sized (suc n) x e =
    (front_sized x (and_left (begins x) _ e), pieces_sized n (drop (own_length x) x) (and_right (begins x) _ e))

pieces_flat : (n : ℕ) (x : Bytes) → cuts_into n x ≡ true → x ≡ flat (pieces n x)
pieces_flat zero [] e = refl
pieces_flat zero (b ∷ x) e = absurd (omega (arith, eqb-true (length (b ∷ x)) 0 e))
pieces_flat (suc n) x e =
    sym (take-append-drop (own_length x) x)
    ∙ ap (take (own_length x) x ++◌) (pieces_flat n (drop (own_length x) x) (and_right (begins x) _ e))

pub pieces_are : (n : ℕ) (x : Bytes) (xs : List Bytes) → Pieces n x xs → pieces n x ≡ xs
pieces_are n x xs w = ap₂ pieces (sym w.many) w.bytes ∙ (row_cut xs w.each).1

-- The bytes are n pieces exactly where they are cut into n, and into these alone.
pub cut_exactly : (n : ℕ) (x : Bytes) → (cuts_into n x ≡ true) ↔ ((xs : List Bytes) × Pieces n x xs)
cut_exactly n x = (
  λ e. (pieces n x, record { each = pieces_sized n x e; many = pieces_many n x; bytes = pieces_flat n x e }),
  λ w. ap₂ cuts_into (sym w.1.many) w.1.bytes ∙ (row_cut w.0 w.1.each).0,
)

pub one_row : (n : ℕ) (x : Bytes) (xs ys : List Bytes) → Pieces n x xs → Pieces n x ys → xs ≡ ys
one_row n x xs ys v w = sym (pieces_are n x xs v) ∙ pieces_are n x ys w

-- bytes that are read as a proof are a piece, so the bytes of proofs in form are pieces
read_sized : (x : Bytes) (p : Proof) → proof_in x ≡ some p → Piece x
unfolding proof_in
read_sized x p = go (is_presence x) (is_absence x) refl refl
  where
    go : (a b : Bool) → is_presence x ≡ a → is_absence x ≡ b →
        cond a (some (presence (presence_in x))) (cond b (some (absence (absence_in x))) none) ≡ some p → Piece x
    go true b e f h = presence_sized x e
    go false true e f h = absence_sized x f
    go false false e f h = let z : ◌≡◌ {A = ℕ} 0 1 = cc in absurd (omega arith)

pub proofs_sized : (ps : List Proof) → All ProofForm ps → All Piece (map proof_bytes ps)
proofs_sized [] h = tt
proofs_sized (p ∷ ps) h = (read_sized (proof_bytes p) p (proof_back p h.0), proofs_sized ps h.1)
