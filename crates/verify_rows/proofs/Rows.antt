-- The records of a row as loops take them. Assumes nothing.
use Prim.Native.Nat.{ℕ, zero, suc, ◌+◌, ◌*◌, ◌-◌, ◌/◌, ◌<◌, ◌≤◌}
use native.Mathlib.Omega.{arith}
use mathlib.Core.Path.{◌≡◌, refl, ap, ap₂, sym, ◌∙◌}
use mathlib.Core.Bool.{Bool, true, false, cond, ◌&&◌}
use mathlib.Core.List.{List, [], ◌∷◌, ◌++◌}
use lib.ListN.{length, take, drop}
use lib.Seq.{drop-drop}
use lib.Dec.{eqb, leb}
use borrow.Author.Tests.{leb-true, eqb-true}
use Rattle.terms.specs.Bits.{Bytes}
use Rattle.terms.proofs.Tests.{and_left, and_right}
use Rattle.proofrecords.proofs.Lying.{one_less, none_left}
use Rattle.palette_rules.specs.Palette.{keys_from}
use Rattle.verify_rules.specs.Reading.{verified}
use Rattle.verify_rows.specs.Rows.{answer_bytes}
use Rattle.verify_rows.specs.Reading.{own_length, begins, cuts_into, pieces, piece_at, answers_of}

-- what the bytes begin with
pub begins_room : (x : Bytes) → begins x ≡ true → (4 ≤ length x) × (4 ≤ own_length x) × (own_length x ≤ length x)
unfolding begins
begins_room x h =
    let r = and_right (leb 4 (length x)) _ h in
    (leb-true 4 (length x) (and_left (leb 4 (length x)) _ h), leb-true 4 (own_length x) (and_left (leb 4 (own_length x)) _ r), leb-true (own_length x) (length x) (and_right (leb 4 (own_length x)) _ r))

module _ (n i a : ℕ) (p : Bytes) (h : i < n) where
  next_cut : cuts_into (n - i) (drop a p) ≡ begins (drop a p) && cuts_into (n - (i + 1)) (drop (a + own_length (drop a p)) p)
  next_cut = rw (one_less i n h, drop-drop (own_length (drop a p)) a p)

  pub cut_on : begins (drop a p) ≡ true → cuts_into (n - i) (drop a p) ≡ cuts_into (n - (i + 1)) (drop (a + own_length (drop a p)) p)
  cut_on b = next_cut ∙ rw b

  pub cut_off : begins (drop a p) ≡ false → cuts_into (n - i) (drop a p) ≡ false
  cut_off b = next_cut ∙ rw b

  pub cut_begins : cuts_into (n - i) (drop a p) ≡ true → begins (drop a p) ≡ true
  cut_begins e = and_left (begins (drop a p)) _ (sym next_cut ∙ e)

  pub cut_rest : cuts_into (n - i) (drop a p) ≡ true → cuts_into (n - (i + 1)) (drop (a + own_length (drop a p)) p) ≡ true
  cut_rest e = and_right (begins (drop a p)) _ (sym next_cut ∙ e)

  next_piece : pieces (n - i) (drop a p) ≡ piece_at p a ∷ pieces (n - (i + 1)) (drop (a + own_length (drop a p)) p)
  next_piece = rw (one_less i n h, drop-drop (own_length (drop a p)) a p)

  next_key : (ks : Bytes) → keys_from (n - i) (drop (32 * i) ks) ≡ take 32 (drop (32 * i) ks) ∷ keys_from (n - (i + 1)) (drop (32 * (i + 1)) ks)
  next_key ks = let e : 32 * i + 32 ≡ 32 * (i + 1) = omega arith in rw (one_less i n h, drop-drop 32 (32 * i) ks, e)

  -- the answers that are left at key i
  pub answers_on : (root ks : Bytes) →
      answers_of root (keys_from (n - i) (drop (32 * i) ks)) (pieces (n - i) (drop a p))
      ≡ answer_bytes (verified root (take 32 (drop (32 * i) ks)) (piece_at p a))
      ++ answers_of root (keys_from (n - (i + 1)) (drop (32 * (i + 1)) ks)) (pieces (n - (i + 1)) (drop (a + own_length (drop a p)) p))
  answers_on root ks = ap₂ (answers_of root) (next_key ks) next_piece

pub answers_end : (root ks : Bytes) (n i : ℕ) (x : Bytes) → n ≤ i → answers_of root (keys_from (n - i) ks) (pieces (n - i) x) ≡ []
answers_end root ks n i x h = rw (none_left i n h)

pub cut_end : (n i : ℕ) (x : Bytes) → n ≤ i → cuts_into (n - i) x ≡ eqb (length x) 0
cut_end n i x h = rw (none_left i n h)
