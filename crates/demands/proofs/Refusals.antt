-- Demand 1: a refused call changes no byte of any buffer; and which numbers the definitions refuse with, never 0. By the cases of each
-- definition. Assumes nothing.
use Prim.Native.Nat.{ℕ}
use native.Mathlib.Omega.{arith}
use mathlib.Core.Path.{◌≡◌, refl, ap, sym, ◌∙◌, subst}
use mathlib.Core.Logic.{◌⊎◌, inl, inr}
use mathlib.Core.Bool.{Bool, true, false, cond, ◌&&◌, not, false≢true}
use mathlib.Core.List.{List, [], ◌∷◌}
use mathlib.Core.Option.{Option, none}
use lib.ListN.{length}
use lib.Dec.{eqb, ltb}
use borrow.Author.Tests.{eqb-false}
use Rattle.terms.specs.declared.Form.TheVariants.{Counted as counted}
use Rattle.terms.specs.Bits.{Bytes, left, right, same_bytes}
use Rattle.terms.specs.Records.{Ask, Proof, Store}
use Rattle.terms.proofs.Tests.{and_right}
use Rattle.meaning.specs.Calls.{Answer, refused, accepted, Result, is_kept, apply, prune}
use Rattle.meaning.specs.Sight.{scan}
use Rattle.meaning.specs.Reading.{Trouble, lost_record, spoilt_record, stray_leaf, beside, refusal_of, End, walk_stopped, at_leaf, at_gap, walk, seen}
use Rattle.meaning.specs.Proving.{Sought, search_stopped, nobody, somebody, neighbour, absence_from, absence_at, prove_end, prove_seen, proof, proof_length, fitted, prove}
use Rattle.meaning.proofs.Empty.{proof_by_searches}
use Rattle.histories.specs.Claims.{ApplyRefuses, not_in_form, not_ascending, not_above_latest, no_room}
use Rattle.histories.proofs.Theorems.{apply_refuses_exactly, prune_refuses_exactly}
use Rattle.nodehash.specs.Node.{leaf_hash, inner_hash}
use Rattle.layout.specs.Headers.{Headed, refusal, header, size_right, header_of}
use Rattle.layout.specs.Stores.{store_of}
use Rattle.layout.proofs.Headers.{header_refused}
use Rattle.proofrecords.specs.ProofBytes.{proof_bytes}
use Rattle.changed.specs.Changes.{list_bytes}
use Rattle.promises.specs.Check as check
use Rattle.promises.specs.Calls.{Does, not_checked, refuses}
use Rattle.promises.proofs.Calls.{refused_writes_nothing}
use Rattle.meaning.specs.Answers.{number_of, room_after, Exports, exports_refusal, exports_answer}
use Rattle.meaning.proofs.Told.{exported_kept, exports_kept}
use Rattle.promises.specs.Headed.{by_header}
use Rattle.contracts.specs.Proves.{prove_answer}
use Rattle.contracts.specs.Changes as compared
use Rattle.rescue_bytes.proofs.Outcomes.{refused_export_leaves}
use Rattle.move_rules.proofs.Outcomes as move
use Rattle.contracts.specs.Contracts.{Formats, Applies, Prunes, ReadsRoot, ReadsKey, Counts, ReadsAt, Proves, Changes, Rescues, MovesOver, MovesBack, Verifies, VerifiesMany, Finds}

-- One of the numbers in a list.
abbrev pub OneOf : List ℕ → ℕ → Type 0
OneOf [] n = ⊥
OneOf (m ∷ ms) n = (n ≡ m) ⊎ OneOf ms n

pub clash : {A : Type 0} → ◌≡◌ {A = ℕ} 0 1 → A
clash e = absurd (omega arith)

pub with_number : {A : Type 0} {m n : ℕ} → ◌≡◌ {A = Answer A} (refused m) (refused n) → n ≡ m
with_number e = cc

pub no_refusal : {A B : Type 0} {a : A} {n : ℕ} → ◌≡◌ {A = Answer A} (accepted a) (refused n) → B
no_refusal e = clash (cc)

-- no number of a list is 0
abbrev nonzero : List ℕ → Bool
nonzero [] = true
nonzero (m ∷ ms) = not (eqb m 0) && nonzero ms

pub never_0 : (ns : List ℕ) {n : ℕ} → nonzero ns ≡ true → OneOf ns n → n ≡ 0 → ⊥
never_0 [] h o z = o
never_0 (m ∷ ms) {n} h (inl e) z = go (eqb m 0) refl h
  where
    go : (b : Bool) → eqb m 0 ≡ b → not b && nonzero ms ≡ true → ⊥
    go true f g = false≢true g
    go false f g = eqb-false m 0 f (sym e ∙ z)
never_0 (m ∷ ms) h (inr o) z = never_0 ms (and_right (not (eqb m 0)) (nonzero ms) h) o z

-- an answer by its number
module _ {A : Type 0} where
  pub refused_of : (a : Answer A) → (number_of a ≡ 0 → ⊥) → (n : ℕ) × (a ≡ refused n)
  refused_of (refused n) f = (n, refl)
  refused_of (accepted x) f = absurd (f refl)

  pub accepted_of : (a : Answer A) → ((n : ℕ) → a ≡ refused n → n ≡ 0 → ⊥) → 0 ≡ number_of a → (x : A) × (a ≡ accepted x)
  accepted_of (refused n) f e = absurd (f n refl (sym e))
  accepted_of (accepted x) f e = (x, refl)

-- Format.
module _ {s t : Bytes} {r : ℕ} (w : Formats s r t) where
  pub refused_format_writes_nothing : (r ≡ 0 → ⊥) → t ≡ s
  refused_format_writes_nothing f = go (size_right counted (length s)) _ w.answer w.bytes
    where
      go : (b : Bool) (fresh : Bytes) → r ≡ cond b 0 1 → t ≡ cond b fresh s → t ≡ s
      go true fresh e h = absurd (f e)
      go false fresh e h = h

-- 1, 2.
pub header_numbers : (s : Bytes) {n : ℕ} → header_of counted s ≡ refusal n → OneOf (1 ∷ 2 ∷ []) n
header_numbers s {n} e = go (header_refused counted s n e)
  where
    go : (n ≡ 1) ⊎ (n ≡ 2) → OneOf (1 ∷ 2 ∷ []) n
    go (inl z) = inl z
    go (inr z) = inr (inl z)

-- A call that tests soundness: 1, 2; then 3; then its own.
module _ {A : Type 0} {call : Store → Result A} {s : Bytes} where
  pub does_numbers : (ns : List ℕ) {m : ℕ} {t : Bytes} → ((st : Store) (n : ℕ) → (call st).answer ≡ refused n → OneOf ns n) →
      Does call s (refused m) t → OneOf (1 ∷ 2 ∷ 3 ∷ ns) m
  does_numbers ns own (not_checked (check.refused m e) f) = later (header_numbers s e)
    where
      later : OneOf (1 ∷ 2 ∷ []) m → OneOf (1 ∷ 2 ∷ 3 ∷ ns) m
      later (inl z) = inl z
      later (inr (inl z)) = inr (inl z)
      later (inr (inr z)) = absurd z
  does_numbers ns own (not_checked (check.unsound c o l e g) f) = inr (inr (inl refl))
  does_numbers ns own (not_checked (check.sound c o l e g) f) = absurd (f refl)
  does_numbers ns {m} own (refuses w e) = inr (inr (inr (own (store_of s) m e)))

  export_writes_nothing : {told : A → Bytes} {f t g : Bytes} {r : ℕ} → Exports (λ a. Does call s a t) told f r g → (r ≡ 0 → ⊥) → (t ≡ s) × (g ≡ f)
  export_writes_nothing (exports_refusal d) h = (refused_writes_nothing d, refl)
  export_writes_nothing (exports_answer d) h = absurd (h refl)

-- Apply: 4, 5, 18, 7.
pub apply_refusals : (number : ℕ) (asks : Option (List Ask)) (st : Store) (n : ℕ) →
    (apply leaf_hash inner_hash number asks st).answer ≡ refused n → OneOf (4 ∷ 5 ∷ 18 ∷ 7 ∷ []) n
apply_refusals number asks st n e = go ((apply_refuses_exactly leaf_hash inner_hash number asks st n).0 e)
  where
    go : {o : Option (List Ask)} {m : ℕ} → ApplyRefuses leaf_hash inner_hash number st o m → OneOf (4 ∷ 5 ∷ 18 ∷ 7 ∷ []) m
    go not_in_form = inl refl
    go (not_ascending a) = inr (inl refl)
    go (not_above_latest a l) = inr (inr (inl refl))
    go (no_room a l f) = inr (inr (inr (inl refl)))

-- Prune: 8.
pub prune_refusals : (n : ℕ) (st : Store) (m : ℕ) → (prune n st).answer ≡ refused m → OneOf (8 ∷ []) m
prune_refusals n st m e = inl ((prune_refuses_exactly leaf_hash inner_hash n st m).0 e).0

module _ (number : ℕ) (batch : Bytes) {s f t g : Bytes} {r : ℕ} (w : Applies number batch s f r t g) where
  pub refused_apply_writes_nothing : (r ≡ 0 → ⊥) → (t ≡ s) × (g ≡ f)
  refused_apply_writes_nothing = export_writes_nothing w.applied

module _ (n : ℕ) {s f t g : Bytes} {r : ℕ} (w : Prunes n s f r t g) where
  pub refused_prune_writes_nothing : (r ≡ 0 → ⊥) → (t ≡ s) × (g ≡ f)
  refused_prune_writes_nothing = export_writes_nothing w

-- A root read.
module _ {s : Bytes} {v : ℕ} {f : Bytes} {r : ℕ} {g : Bytes} (w : ReadsRoot s v f r g) where
  pub refused_root_writes_nothing : (r ≡ 0 → ⊥) → g ≡ f
  refused_root_writes_nothing = exported_kept w.exported

-- A key read.
module _ {s : Bytes} {v : ℕ} {k f : Bytes} {r : ℕ} {g : Bytes} (w : ReadsKey s v k f r g) where
  pub refused_get_writes_nothing : (r ≡ 0 → ⊥) → g ≡ f
  refused_get_writes_nothing = exported_kept w.exported

-- The two reads by counts.
module _ {s : Bytes} {v : ℕ} {f : Bytes} {r : ℕ} {g : Bytes} (w : Counts s v f r g) where
  pub refused_count_writes_nothing : (r ≡ 0 → ⊥) → g ≡ f
  refused_count_writes_nothing = exported_kept w.exported

module _ {s : Bytes} {v i : ℕ} {f : Bytes} {r : ℕ} {g : Bytes} (w : ReadsAt s v i f r g) where
  pub refused_at_writes_nothing : (r ≡ 0 → ⊥) → g ≡ f
  refused_at_writes_nothing = exported_kept w.exported

-- Proving: no refusal is 0.
stopped_nonzero : (t : Trouble) → refusal_of t ≡ 0 → ⊥
unfolding beside
stopped_nonzero lost_record e = omega arith
stopped_nonzero (spoilt_record i) e = omega arith
stopped_nonzero stray_leaf e = omega arith

abbrev NeverZero : Answer Proof → Type 0
NeverZero a = (n : ℕ) → a ≡ refused n → n ≡ 0 → ⊥

refused_nonzero : (m : ℕ) → (m ≡ 0 → ⊥) → NeverZero (refused m)
refused_nonzero m h n e z = h (sym (with_number e) ∙ z)

absence_nonzero : (k : Bytes) (x y : Sought) → NeverZero (absence_from k x y)
absence_nonzero k (search_stopped t) y n e = refused_nonzero (refusal_of t) (stopped_nonzero t) n e
absence_nonzero k nobody (search_stopped t) n e = refused_nonzero (refusal_of t) (stopped_nonzero t) n e
absence_nonzero k nobody nobody n e = refused_nonzero 14 (λ z. omega arith) n e
absence_nonzero k nobody (somebody q) n e = no_refusal e
absence_nonzero k (somebody p) (search_stopped t) n e = refused_nonzero (refusal_of t) (stopped_nonzero t) n e
absence_nonzero k (somebody p) nobody n e = no_refusal e
absence_nonzero k (somebody p) (somebody q) n e = no_refusal e

end_nonzero : (k : Bytes) (e : End) → NeverZero (prove_end k e)
unfolding absence_at
end_nonzero k (walk_stopped t) n h = refused_nonzero (refusal_of t) (stopped_nonzero t) n h
end_nonzero k (at_gap trail) n h = absence_nonzero k (neighbour left k (at_gap trail)) (neighbour right k (at_gap trail)) n h
end_nonzero k (at_leaf l x trail) n h = go (same_bytes k l) _ h
  where
    go : (b : Bool) (p : Proof) →
        cond b (accepted p) (absence_from k (neighbour left k (at_leaf l x trail)) (neighbour right k (at_leaf l x trail))) ≡ refused n → n ≡ 0 → ⊥
    go true p f = no_refusal f
    go false p f = absence_nonzero k (neighbour left k (at_leaf l x trail)) (neighbour right k (at_leaf l x trail)) n f

fitted_nonzero : (room : ℕ) (a : Answer Proof) → NeverZero a → NeverZero (fitted room a)
fitted_nonzero room (refused m) f n e = f n e
fitted_nonzero room (accepted p) f n e = go (ltb room (proof_length p)) e
  where
    go : (b : Bool) → cond b (refused 9) (accepted p) ≡ refused n → n ≡ 0 → ⊥
    go true h = refused_nonzero 9 (λ z. omega arith) n h
    go false h = no_refusal h

pub proof_nonzero : (st : Store) (v : ℕ) (k : Bytes) → NeverZero (proof st v k)
unfolding prove_seen
proof_nonzero st v k n e = go (is_kept st v) (sym (proof_by_searches st v k) ∙ e)
  where
    go : (b : Bool) → cond b (prove_end k (walk k 0 [] (seen (scan st) v))) (refused 8) ≡ refused n → n ≡ 0 → ⊥
    go true h = end_nonzero k (walk k 0 [] (seen (scan st) v)) n h
    go false h = refused_nonzero 8 (λ z. omega arith) n h

pub prove_nonzero : (s : Bytes) (v : ℕ) (k : Bytes) (room n : ℕ) → prove_answer s none v k room ≡ refused n → n ≡ 0 → ⊥
unfolding prove_answer prove proof
prove_nonzero s v k room n = go (eqb (length k) 32) (header_of counted s) (λ m. header_numbers s)
  where
    go : (b : Bool) (h : Headed) → ((m : ℕ) → h ≡ refusal m → OneOf (1 ∷ 2 ∷ []) m) →
        cond b (by_header h (fitted room (proof (store_of s) v k))) (refused 12) ≡ refused n → n ≡ 0 → ⊥
    go false h f e = refused_nonzero 12 (λ z. omega arith) n e
    go true (refusal m) f e = λ z. never_0 (1 ∷ 2 ∷ []) refl (f m refl) (sym (with_number e) ∙ z)
    go true (header c o l) f e = fitted_nonzero room (proof (store_of s) v k) (proof_nonzero (store_of s) v k) n e

module _ {s : Bytes} {v : ℕ} {k room f : Bytes} {r : ℕ} {t g : Bytes} (w : Proves s v k room f r t g) where
  pub refused_prove_writes_nothing : (r ≡ 0 → ⊥) → (t ≡ room) × (g ≡ f)
  refused_prove_writes_nothing h =
      let e = refused_of (prove_answer s none v k (length room)) (λ z. h (w.exported.number ∙ z)) in
      (w.proof ∙ ap (λ a. room_after proof_bytes a room) e.1, exported_kept w.exported h)

-- A comparison.
module _ {first second limit : ℕ} {s room f : Bytes} {r : ℕ} {t g : Bytes} (w : Changes first second limit s room f r t g) where
  pub refused_changes_writes_nothing : (r ≡ 0 → ⊥) → (t ≡ room) × (g ≡ f)
  refused_changes_writes_nothing h =
      let e = refused_of w.answer (λ z. h (w.exported.number ∙ z)) in
      (w.list ∙ ap (λ a. room_after list_bytes a room) e.1, exported_kept w.exported h)

-- A rescue.
pub refused_rescue_writes_nothing : {oldest latest : ℕ} {s old f t g : Bytes} {r : ℕ} → Rescues oldest latest s old f r t g → (r ≡ 0 → ⊥) →
    (t ≡ old) × (g ≡ f)
refused_rescue_writes_nothing w h = refused_export_leaves w h

-- What is found of a proof.
module _ {s : Bytes} {v : ℕ} {k x f : Bytes} {r : ℕ} {g : Bytes} (w : Finds s v k x f r g) where
  pub refused_finding_writes_nothing : (r ≡ 0 → ⊥) → g ≡ f
  refused_finding_writes_nothing = exports_kept w

-- A move.
pub refused_over_writes_nothing : {s old t : Bytes} {r : ℕ} → MovesOver s old r t → (r ≡ 0 → ⊥) → t ≡ old
refused_over_writes_nothing w h = move.refused_writes_nothing w h

pub refused_back_writes_nothing : {s old t : Bytes} {r : ℕ} → MovesBack s old r t → (r ≡ 0 → ⊥) → t ≡ old
refused_back_writes_nothing w h = move.refused_writes_nothing w h

-- The proof check.
module _ {root k x f : Bytes} {r : ℕ} {g : Bytes} (w : Verifies root k x f r g) where
  pub refused_verify_writes_nothing : (r ≡ 0 → ⊥) → g ≡ f
  refused_verify_writes_nothing = exports_kept w

-- Many proofs at once.
module _ {root list row old : Bytes} {r : ℕ} {new : Bytes} (w : VerifiesMany root list row old r new) where
  pub refused_verify_many_writes_nothing : (r ≡ 0 → ⊥) → new ≡ old
  refused_verify_many_writes_nothing = exports_kept w
