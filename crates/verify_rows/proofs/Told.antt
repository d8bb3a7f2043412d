-- What is told of a row is one answer alone, and it is what cutting and reading it gives; each answer is 34 bytes. Assumes nothing.
use Prim.Native.Nat.{ℕ, suc, ◌*◌, ◌/◌}
use native.Mathlib.Omega.{arith}
use mathlib.Core.Path.{◌≡◌, refl, ap, ap₂, sym, ◌∙◌, subst}
use mathlib.Core.Logic.{◌↔◌}
use mathlib.Core.Bool.{Bool, true, false, cond, ◌&&◌, false≢true}
use mathlib.Core.List.{List, [], ◌∷◌, ◌++◌}
use lib.ListN.{length, length-append}
use lib.Dec.{eqb, leb}
use borrow.Author.Tests.{eq-eqb, eqb-true, leb-true, leb-false}
use Rattle.terms.specs.Bits.{Bytes, Byte, All}
use Rattle.terms.specs.Fields.{zero_bytes, flat}
use Rattle.terms.specs.Records.{Proof, zeros}
use Rattle.terms.proofs.Tests.{and_left, and_right}
use Rattle.meaning.specs.Calls.{Answer, refused, accepted}
use Rattle.meaning.specs.Reading.{Verdict}
use Rattle.meaning.specs.Answers.{told_of, found_bytes}
use Rattle.checker.specs.Holding.{Holds, shown, only_left, only_right, both}
use Rattle.palette_rules.specs.Palette.{key_size, whole_keys, keys_in}
use Rattle.palette_rules.proofs.Keys.{keys_many}
use Rattle.nodehash.specs.Node.{leaf_hash, inner_hash}
use Rattle.proofrecords.specs.ProofBytes.{ProofForm}
use Rattle.verify_rules.specs.Verify.{Judged, holding, not_holding, Told, not_32_bytes, not_in_form, in_form}
use Rattle.verify_rules.specs.Reading.{verified}
use Rattle.verify_rules.proofs.Told.{told_exactly, one_verdict}
use Rattle.verify_rows.specs.Rows.{Pieces, answer_size, answer_bytes, Answers, nothing_left, next, RootAndKeys, ToldOfRow, not_whole, not_pieces, no_room, answered}
use Rattle.verify_rows.specs.Reading.{cuts_into, pieces, answers_of, many_verified}
use Rattle.verify_rows.proofs.Cutting.{pieces_are, cut_exactly, one_row}

-- Pieces of bytes are bytes.
all_parts : (xs ys : Bytes) → All Byte (xs ++ ys) → All Byte xs × All Byte ys
all_parts [] ys h = (tt, h)
all_parts (x ∷ xs) ys h = let r = all_parts xs ys h.1 in ((h.0, r.0), r.1)

all_flat : (xs : List Bytes) → All Byte (flat xs) → All (All Byte) xs
all_flat [] h = tt
all_flat (x ∷ xs) h = let r = all_parts x (flat xs) h in (r.0, all_flat xs r.1)

-- The answers of single checks are what is read from the pieces.
answers_read : (root : Bytes) (keys xs : List Bytes) (b : Bytes) → All (All Byte) xs → Answers root keys xs b → b ≡ answers_of root keys xs
answers_read root _ _ _ h nothing_left = refl
answers_read root _ _ _ h (next {k} {x} {b} {a} {keys} {xs} t r) =
    ap₂ ◌++◌ (ap answer_bytes ((told_exactly root k x h.0 a).0 t)) (answers_read root keys xs b h.1 r)

read_answers : (root : Bytes) (keys xs : List Bytes) → All (All Byte) xs → length keys ≡ length xs → Answers root keys xs (answers_of root keys xs)
read_answers root [] [] h e = nothing_left
read_answers root [] (x ∷ xs) h e = absurd (omega arith)
read_answers root (k ∷ keys) [] h e = absurd (omega arith)
read_answers root (k ∷ keys) (x ∷ xs) h e =
    next ((told_exactly root k x h.0 (verified root k x)).1 refl) (read_answers root keys xs h.1 (omega arith))

pub one_answers : (root : Bytes) (keys xs : List Bytes) (b c : Bytes) → Answers root keys xs b → Answers root keys xs c → b ≡ c
one_answers root _ _ _ _ nothing_left nothing_left = refl
one_answers root _ _ _ _ (next {k} {x} {b} {a} {keys} {xs} t r) (next {b = c} {a = d} u s) =
    ap₂ ◌++◌ (ap answer_bytes (one_verdict root k x a d t u)) (one_answers root keys xs b c r s)

-- Each answer is 34 bytes, for a value that is shown has 32.
value_long : (root k : Bytes) (p : Proof) (v : Verdict) → ProofForm p → Holds leaf_hash inner_hash root k p v → length (told_of found_bytes (accepted v) (zero_bytes 33)) ≡ 33
unfolding zeros
value_long root k _ _ f (shown e h) = ap suc f.value32.0
value_long root k _ _ f (only_left e h o) = refl
value_long root k _ _ f (only_right e h o) = refl
value_long root k _ _ f (both e h g o) = refl

found_long : (root k x : Bytes) (a : Answer Verdict) → Told Judged root k x a → length (told_of found_bytes a (zero_bytes 33)) ≡ 33
unfolding zero_bytes
found_long root k x _ (not_32_bytes n) = refl
found_long root k x _ (not_in_form s n) = refl
found_long root k x _ (in_form {p} s w (holding {v} h)) = value_long root k p v w.form h
found_long root k x _ (in_form s w (not_holding n)) = refl

pub answers_long : (root : Bytes) (keys xs : List Bytes) (b : Bytes) → Answers root keys xs b → length b ≡ answer_size * length keys
unfolding answer_bytes
answers_long root _ _ _ nothing_left = refl
answers_long root _ _ _ (next {k} {x} {b} {a} {keys} {xs} t r) =
    let l = found_long root k x a t in
    let m = answers_long root keys xs b r in
    length-append (answer_bytes a) b ∙ omega arith

keys_there : (list : Bytes) → length (keys_in list) ≡ length list / key_size
unfolding keys_in
keys_there list = keys_many (length list / key_size) list

module _ (root list row : Bytes) (room : ℕ) where
  -- One answer alone is told of a row.
  pub one_told_of_row : (a b : Answer Bytes) → ToldOfRow root list row room a → ToldOfRow root list row room b → a ≡ b
  one_told_of_row _ _ (not_whole n) (not_whole m) = refl
  one_told_of_row _ _ (not_whole n) (not_pieces w m) = absurd (n w)
  one_told_of_row _ _ (not_whole n) (no_room w c l) = absurd (n w)
  one_told_of_row _ _ (not_whole n) (answered w c l r) = absurd (n w)
  one_told_of_row _ _ (not_pieces w m) (not_whole n) = absurd (n w)
  one_told_of_row _ _ (not_pieces w m) (not_pieces v n) = refl
  one_told_of_row _ _ (not_pieces w m) (no_room {xs} v c l) = absurd (m xs c)
  one_told_of_row _ _ (not_pieces w m) (answered {xs} v c l r) = absurd (m xs c)
  one_told_of_row _ _ (no_room w c l) (not_whole n) = absurd (n w)
  one_told_of_row _ _ (no_room {xs} w c l) (not_pieces v m) = absurd (m xs c)
  one_told_of_row _ _ (no_room w c l) (no_room v d m) = refl
  one_told_of_row _ _ (no_room w c l) (answered v d m r) = absurd (omega arith)
  one_told_of_row _ _ (answered w c l r) (not_whole n) = absurd (n w)
  one_told_of_row _ _ (answered {xs} w c l r) (not_pieces v m) = absurd (m xs c)
  one_told_of_row _ _ (answered w c l r) (no_room v d m) = absurd (omega arith)
  one_told_of_row _ _ (answered {xs} {b} w c l r) (answered {xs = ys} {b = d} v e m s) =
      ap accepted
      (one_answers root (keys_in list) ys b d (subst (λ zs. Answers root (keys_in list) zs b) (one_row (length (keys_in list)) row xs ys c e) r) s)

  abbrev said : Answer Bytes
  said = many_verified root list row room

  -- What is read is told,
  read_is_told : All Byte row → ToldOfRow root list row room said
  unfolding many_verified
  read_is_told bytes =
      go (eqb (length root) 32 && whole_keys list) refl (cuts_into n row) refl (leb (answer_size * n) room) refl
    where
      n : ℕ
      n = length list / key_size

      answers : Bytes
      answers = answers_of root (keys_in list) (pieces n row)

      whole : eqb (length root) 32 && whole_keys list ≡ true → RootAndKeys root list
      whole e = (eqb-true (length root) 32 (and_left (eqb (length root) 32) _ e), and_right (eqb (length root) 32) _ e)

      cut : cuts_into n row ≡ true → Pieces (length (keys_in list)) row (pieces n row)
      cut e =
          let w = (cut_exactly n row).0 e in
          subst (λ m. Pieces m row (pieces n row)) (sym (keys_there list)) (subst (Pieces n row) (sym (pieces_are n row w.0 w.1)) w.1)

      go : (a : Bool) → eqb (length root) 32 && whole_keys list ≡ a → (c : Bool) → cuts_into n row ≡ c → (d : Bool) → leb (answer_size * n) room ≡ d →
          ToldOfRow root list row room (cond a (cond c (cond d (accepted answers) (refused 9)) (refused 10)) (refused 12))
      go false e c f d g = not_whole (λ w. false≢true (sym e ∙ rw (eq-eqb (length root) 32 w.0, w.1)))
      go true e false f d g =
          not_pieces (whole e) (λ xs w. false≢true (sym f ∙ (cut_exactly n row).1 (xs, subst (λ m. Pieces m row xs) (keys_there list) w)))
      go true e true f false g = no_room (whole e) (cut f) (omega (arith, leb-false (answer_size * n) room g, keys_there list))
      go true e true f true g =
          answered (whole e) (cut f) (omega (arith, leb-true (answer_size * n) room g, keys_there list))
          (read_answers root (keys_in list) (pieces n row) (all_flat (pieces n row) (subst (All Byte) (cut f).bytes bytes)) (sym (cut f).many))

  -- and what is told is read.
  pub told_of_row_exactly : All Byte row → (a : Answer Bytes) → ToldOfRow root list row room a ↔ (a ≡ said)
  told_of_row_exactly bytes a = (
    λ t. one_told_of_row a said t (read_is_told bytes),
    λ e. subst (ToldOfRow root list row room) (sym e) (read_is_told bytes),
  )
