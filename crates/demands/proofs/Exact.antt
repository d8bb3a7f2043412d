-- Demand 1: a public call answers each number of document 01 exactly if its row deserves it and no earlier row of the call's order does, and
-- 0 exactly if none does. By the cases of each contract, row by row. Assumes nothing.
use Prim.Native.Nat.{ℕ}
use native.Mathlib.Omega.{arith}
use mathlib.Core.Path.{◌≡◌, refl, sym, subst}
use mathlib.Core.Logic.{◌⊎◌, inl, inr}
use mathlib.Core.Bool.{Bool, true, false, cond}
use mathlib.Core.List.{[], ◌∷◌, ◌++◌}
use lib.ListN.{length}
use lib.Dec.{eqb}
use borrow.Author.Tests.{eqb-true, eqb-false}
use Rattle.terms.specs.declared.Form.TheVariants.{Plain as plain, Counted as counted}
use Rattle.terms.specs.Bits.{Bytes, Byte, All}
use Rattle.terms.specs.Records.{Store}
use Rattle.meaning.specs.Sound.{Sound}
use Rattle.meaning.specs.Calls.{Answer, refused, accepted, Result, apply, prune}
use Rattle.meaning.specs.Reading.{Verdict, Trouble, lost_record, spoilt_record, read_key, read_root}
use Rattle.meaning.specs.Proving.{prove, proof}
use Rattle.meaning.specs.Counting.{read_number, read_position}
use Rattle.meaning.specs.Answers.{number_of, Exports, exports_refusal, exports_answer}
use Rattle.meaning.proofs.Told.{seen}
use Rattle.nodehash.specs.Node.{leaf_hash, inner_hash}
use Rattle.layout.specs.Headers.{Headed, refusal, header, size_right, header_of}
use Rattle.layout.specs.Stores.{store_of}
use Rattle.promises.specs.Check as check
use Rattle.promises.specs.Calls.{Does, not_checked, refuses, accepts}
use Rattle.promises.specs.Headed.{by_header}
use Rattle.contracts.specs.Reads.{root_answer, key_answer}
use Rattle.contracts.specs.Numbers.{number_answer, position_answer}
use Rattle.contracts.specs.Proves.{prove_answer}
use Rattle.palette_rules.specs.Palette.{whole_keys, keys_in, palette}
use Rattle.contracts.specs.Palettes.{palette_answer}
use Rattle.changed.specs.Compare.{compare}
use Rattle.verify_rules.specs.Verify.{Judged, Told, not_32_bytes, not_in_form, in_form}
use Rattle.verify_rows.specs.Rows.{RootAndKeys, ToldOfRow, not_whole, not_pieces, no_room, answered}
use Rattle.forgery.specs.Finding.{Finding}
use Rattle.contracts.specs.Finds.{Answers, wrong_key, wrong_store, sound_store}
use Rattle.ways.specs.Ways as met
use Rattle.ways.specs.Ways.{stopped_by, Met, stop, AtRoot, RootStopped, KeyStopped, ProofStopped}
use Rattle.ways.specs.Positions.{PositionStopped}
use Rattle.refusals.specs.Exactly.{Table, Exactly, NoneOf, low, Names}
use Rattle.refusals.specs.Tables.{Not32, NotKeys, StopsPalette, TooLong, format_rows, header_rows, sound_rows, apply_rows, prune_rows, tests_of, root_rows, get_rows, at_rows, prove_rows, palette_rows, changes_rows, verify_rows, verify_many_rows, rescue_rows, move_rows, finding_rows}
use Rattle.refusals.proofs.Parts.{TooLongTogether, batch_rows, version_rows, comparison_rows, found_rows}
use Rattle.refusals.proofs.Exactly.{First, past, within, exactly}
use Rattle.refusals.proofs.Headers.{length_wrong, length_right_lem, after_header, header_row, records_formed}
use Rattle.refusals.proofs.Batches.{batch_first}
use Rattle.refusals.proofs.Stopped.{Stopped, stopped_past, stopped_within, stopped_first, stopped_found, stopped_names}
use Rattle.refusals.proofs.Walks.{prune_first, root_stopped, get_stopped, prove_stopped}
use Rattle.refusals.proofs.Positions.{number_stopped, position_stopped}
use Rattle.refusals.proofs.Palettes.{palette_stopped, keys_whole, keys_torn}
use Rattle.refusals.proofs.Changes.{changes_first}
use Rattle.refusals.proofs.Rescues.{rescue_first}
use Rattle.refusals.proofs.Findings.{finding_first}
use Rattle.refusals.proofs.Moves.{move_first}
use Rattle.refusals.proofs.Proofs.{judged_first}
use Rattle.contracts.specs.Contracts.{Formats, Checks, Applies, Prunes, ReadsRoot, ReadsKey, Counts, ReadsAt, Proves, Palettes, Changes, Verifies, VerifiesMany, Hashes, Rescues, MovesOver, MovesBack, Finds}

-- Format: 1.
pub format_exactly : {s t : Bytes} {r : ℕ} → Formats s r t → Exactly (format_rows s) r
format_exactly {s} {r = r} w = exactly (format_rows s) r refl (go (size_right counted (length s)) refl w.answer)
  where
    go : (b : Bool) → size_right counted (length s) ≡ b → r ≡ cond b 0 1 → First (format_rows s) r
    go true e f = inr (length_right_lem s e, f)
    go false e f = inl (length_wrong s e, f)

-- Check: 1, 2, 3.
pub check_exactly : {s : Bytes} {r : ℕ} → Checks s r → Exactly (sound_rows s) r
check_exactly {s} {r} w = exactly (sound_rows s) r refl (go w)
  where
    go : {n : ℕ} → check.Checked counted s n → First (sound_rows s) n
    go (check.refused n e) = let h = header_row s e in within (header_rows s) ((3, Sound leaf_hash inner_hash (store_of s) → ⊥) ∷ []) n h.0 h.1
    go (check.unsound c o l e f) = past (header_rows s) ((3, Sound leaf_hash inner_hash (store_of s) → ⊥) ∷ []) 3 (after_header s e) (inl (f, refl))
    go (check.sound c o l e f) = past (header_rows s) ((3, Sound leaf_hash inner_hash (store_of s) → ⊥) ∷ []) 0 (after_header s e) (inr (λ n. n f, refl))

-- A call that tests soundness: 1, 2, 3; then its own.
pub does_first : {A : Type 0} (call : Store → Result A) (s : Bytes) (more : Table) (a : Answer A) {t : Bytes} →
    First more (number_of (call (store_of s)).answer) → Does call s a t → First (header_rows s ++ (3, Sound leaf_hash inner_hash (store_of s) → ⊥) ∷ more) (number_of a)
does_first call s more a f (not_checked (check.refused m e) n) = let h = header_row s e in within (header_rows s) ((3, Sound leaf_hash inner_hash (store_of s) → ⊥) ∷ more) m h.0 h.1
does_first call s more a f (not_checked (check.unsound c o l e g) n) = past (header_rows s) ((3, Sound leaf_hash inner_hash (store_of s) → ⊥) ∷ more) 3 (after_header s e) (inl (g, refl))
does_first call s more a f (not_checked (check.sound c o l e g) n) = absurd (n refl)
does_first call s more a f (refuses w e) =
    past (header_rows s) ((3, Sound leaf_hash inner_hash (store_of s) → ⊥) ∷ more) (number_of a) (after_header s w.headed)
    (inr (λ n. n w.sound, subst (λ x. First more (number_of x)) e f))
does_first call s more a f (accepts w e) =
    past (header_rows s) ((3, Sound leaf_hash inner_hash (store_of s) → ⊥) ∷ more) (number_of a) (after_header s w.headed)
    (inr (λ n. n w.sound, subst (λ x. First more (number_of x)) e f))

export_first : {A : Type 0} (call : Store → Result A) {told : A → Bytes} (s : Bytes) (more : Table) {f t g : Bytes} {r : ℕ} →
    First more (number_of (call (store_of s)).answer) → Exports (λ a. Does call s a t) told f r g → First (header_rows s ++ (3, Sound leaf_hash inner_hash (store_of s) → ⊥) ∷ more) r
export_first call s more f (exports_refusal {n = m} d) = does_first call s more (refused m) f d
export_first call s more f (exports_answer {a} d) = does_first call s more (accepted a) f d

-- Apply: 1, 2, 3, 4, 5, 18, 7.
pub apply_exactly : (number : ℕ) (batch : Bytes) {s f t g : Bytes} {r : ℕ} → Applies number batch s f r t g → Exactly (apply_rows number batch s) r
apply_exactly number batch {s} {r = r} w =
    exactly (apply_rows number batch s) r refl
    (export_first (apply leaf_hash inner_hash number w.asked) s (batch_rows number batch s) (batch_first number batch s w.asked w.asks) w.applied)

-- Prune: 1, 2, 3, 8.
pub prune_exactly : (n : ℕ) {s f t g : Bytes} {r : ℕ} → Prunes n s f r t g → Exactly (prune_rows n s) r
prune_exactly n {s} {r = r} w = exactly (prune_rows n s) r refl (export_first (prune n) s (version_rows s n) (prune_first n s) w)

-- A read: 1, 2; then its own.
pub read_stopped : {A : Type 0} {early later : Table} {stops : Trouble → Type 0} (s : Bytes) (a : Answer A) →
    ((c o l : ℕ) → header_of counted s ≡ header c o l → Stopped early later stops (number_of a)) →
    Stopped (header_rows s ++ early) later stops (number_of (by_header (header_of counted s) a))
read_stopped {early = early} {later = later} {stops = stops} s a f = go (header_of counted s) refl
  where
    go : (h : Headed) → header_of counted s ≡ h → Stopped (header_rows s ++ early) later stops (number_of (by_header h a))
    go (refusal m) e = let h = header_row s e in stopped_within (header_rows s) early h.0 h.1
    go (header c o l) e = stopped_past (header_rows s) early (after_header s e) (f c o l e)

-- A key: 12; then the rest.
pub key_stopped : {A : Type 0} {early later : Table} {stops : Trouble → Type 0} (k : Bytes) (a : Answer A) → Stopped early later stops (number_of a) →
    Stopped ((12, Not32 (k ∷ [])) ∷ early) later stops (number_of (cond (eqb (length k) 32) a (refused 12)))
key_stopped {early = early} {later = later} {stops = stops} k a w = go (eqb (length k) 32) refl
  where
    go : (b : Bool) → eqb (length k) 32 ≡ b → Stopped ((12, Not32 (k ∷ [])) ∷ early) later stops (number_of (cond b a (refused 12)))
    go true e = stopped_past ((12, Not32 (k ∷ [])) ∷ []) early (λ n. n (eqb-true (length k) 32 e, tt), tt) w
    go false e = stopped_within ((12, Not32 (k ∷ [])) ∷ []) early (inl (λ h. eqb-false (length k) 32 e h.0, refl)) (λ z. absurd (omega arith))

-- No root's lookup is stopped by a lost record.
pub never_lost : (s : Bytes) (v : ℕ) → RootStopped (store_of s) v lost_record → ⊥
never_lost s v w = go (stop (stopped_by lost_record)) w refl
  where
    go : (m : Met) → AtRoot (store_of s) v m → m ≡ stop (stopped_by lost_record) → ⊥
    go m (met.first e) f = let z : ◌≡◌ {A = ℕ} 0 1 = cc in omega arith
    go m (met.second e n) f = let z : ◌≡◌ {A = ℕ} 0 1 = cc in omega arith
    go m (met.third e n) f = let z : ◌≡◌ {A = ℕ} 0 1 = cc in omega arith

-- A root read: 1, 2, 8, 3, and the slot beside 3.
module _ {s : Bytes} {v : ℕ} {f : Bytes} {r : ℕ} {g : Bytes} (w : ReadsRoot s v f r g) where
  root_answers : Stopped (tests_of (root_rows s v)) [] (RootStopped (store_of s) v) r
  unfolding root_answer read_root
  root_answers =
      subst (Stopped (tests_of (root_rows s v)) [] (RootStopped (store_of s) v)) (sym w.exported.number)
      (read_stopped s (read_root leaf_hash inner_hash (store_of s) v) (λ c o l e. root_stopped leaf_hash inner_hash s v))

  pub root_exactly : Exactly (root_rows s v) (low r)
  root_exactly = exactly (root_rows s v) (low r) refl (stopped_found refl refl root_answers (never_lost s v))

  pub root_names_slot : Names (λ i. NoneOf (tests_of (root_rows s v)) × RootStopped (store_of s) v (spoilt_record i)) r
  root_names_slot = stopped_names refl refl root_answers

-- A key read: 12, 1, 2, 8, 17 or 3, and the slot beside 3.
module _ {s : Bytes} {v : ℕ} {k f : Bytes} {r : ℕ} {g : Bytes} (h : All Byte s) (w : ReadsKey s v k f r g) where
  get_answers : Stopped (tests_of (get_rows s v k)) [] (KeyStopped (store_of s) v k) r
  unfolding key_answer read_key
  get_answers =
      subst (Stopped (tests_of (get_rows s v k)) [] (KeyStopped (store_of s) v k)) (sym w.exported.number)
      (key_stopped k (by_header (header_of counted s) (read_key (store_of s) v k))
      (read_stopped s (read_key (store_of s) v k) (λ c o l e. get_stopped s (records_formed s h e) v k)))

  pub get_exactly : Exactly (get_rows s v k) (low r)
  get_exactly = exactly (get_rows s v k) (low r) refl (stopped_first refl refl get_answers)

  pub get_names_slot : Names (λ i. NoneOf (tests_of (get_rows s v k)) × KeyStopped (store_of s) v k (spoilt_record i)) r
  get_names_slot = stopped_names refl refl get_answers

-- The number of grants: 1, 2, 8, 3, and the slot beside 3.
module _ {s : Bytes} {v : ℕ} {f : Bytes} {r : ℕ} {g : Bytes} (w : Counts s v f r g) where
  count_answers : Stopped (tests_of (root_rows s v)) [] (RootStopped (store_of s) v) r
  unfolding number_answer read_number
  count_answers =
      subst (Stopped (tests_of (root_rows s v)) [] (RootStopped (store_of s) v)) (sym w.exported.number)
      (read_stopped s (read_number (store_of s) v) (λ c o l e. number_stopped leaf_hash inner_hash s v))

  pub count_exactly : Exactly (root_rows s v) (low r)
  count_exactly = exactly (root_rows s v) (low r) refl (stopped_found refl refl count_answers (never_lost s v))

  pub count_names_slot : Names (λ i. NoneOf (tests_of (root_rows s v)) × RootStopped (store_of s) v (spoilt_record i)) r
  count_names_slot = stopped_names refl refl count_answers

-- The grant at a position: 1, 2, 8, 20, 17 or 3, and the slot beside 3.
module _ {s : Bytes} {v i : ℕ} {f : Bytes} {r : ℕ} {g : Bytes} (h : All Byte s) (w : ReadsAt s v i f r g) where
  at_answers : Stopped (tests_of (at_rows s v i)) [] (PositionStopped (store_of s) v i) r
  unfolding position_answer read_position
  at_answers =
      subst (Stopped (tests_of (at_rows s v i)) [] (PositionStopped (store_of s) v i)) (sym w.exported.number)
      (read_stopped s (read_position (store_of s) v i) (λ c o l e. position_stopped s (records_formed s h e) v i))

  pub at_exactly : Exactly (at_rows s v i) (low r)
  at_exactly = exactly (at_rows s v i) (low r) refl (stopped_first refl refl at_answers)

  pub at_names_slot : Names (λ j. NoneOf (tests_of (at_rows s v i)) × PositionStopped (store_of s) v i (spoilt_record j)) r
  at_names_slot = stopped_names refl refl at_answers

-- Proving: 12, 1, 2, 8, 14, 17 or 3, 9, and the slot beside 3.
module _ {s : Bytes} {v : ℕ} {k room f : Bytes} {r : ℕ} {t g : Bytes} (h : All Byte s) (w : Proves s v k room f r t g) where
  prove_answers : Stopped (tests_of (prove_rows s v k room)) ((9, TooLong s v k room) ∷ []) (ProofStopped (store_of s) v k) r
  unfolding prove_answer prove proof
  prove_answers =
      subst (Stopped (tests_of (prove_rows s v k room)) ((9, TooLong s v k room) ∷ []) (ProofStopped (store_of s) v k)) (sym w.exported.number)
      (key_stopped k (by_header (header_of counted s) (prove (store_of s) v k (length room)))
      (read_stopped s (prove (store_of s) v k (length room)) (λ c o l e. prove_stopped s (records_formed s h e) v k room)))

  pub prove_exactly : Exactly (prove_rows s v k room) (low r)
  prove_exactly = exactly (prove_rows s v k room) (low r) refl (stopped_first refl refl prove_answers)

  pub prove_names_slot : Names (λ i. NoneOf (tests_of (prove_rows s v k room)) × ProofStopped (store_of s) v k (spoilt_record i)) r
  prove_names_slot = stopped_names refl refl prove_answers

-- A list of keys: 12; then the rest.
pub list_stopped : {A : Type 0} {early later : Table} {stops : Trouble → Type 0} (list : Bytes) (a : Answer A) → Stopped early later stops (number_of a) →
    Stopped ((12, NotKeys list) ∷ early) later stops (number_of (cond (whole_keys list) a (refused 12)))
list_stopped {early = early} {later = later} {stops = stops} list a w = go (whole_keys list) refl
  where
    go : (b : Bool) → whole_keys list ≡ b → Stopped ((12, NotKeys list) ∷ early) later stops (number_of (cond b a (refused 12)))
    go true e = stopped_past ((12, NotKeys list) ∷ []) early (keys_whole list e, tt) w
    go false e = stopped_within ((12, NotKeys list) ∷ []) early (inl (keys_torn list e, refl)) (λ z. absurd (omega arith))

-- A palette: 12, 1, 2, 8, 14, 17 or 3, 9, and the slot beside 3.
module _ {s : Bytes} {v : ℕ} {list room f : Bytes} {r : ℕ} {t g : Bytes} (h : All Byte s) (w : Palettes s v list room f r t g) where
  palette_answers : Stopped (tests_of (palette_rows s v list room)) ((9, TooLongTogether s v (keys_in list) room) ∷ []) (StopsPalette s v (keys_in list)) r
  unfolding palette_answer palette proof
  palette_answers =
      subst (Stopped (tests_of (palette_rows s v list room)) ((9, TooLongTogether s v (keys_in list) room) ∷ []) (StopsPalette s v (keys_in list))) (sym w.exported.number)
      (list_stopped list (by_header (header_of counted s) (palette (store_of s) v (keys_in list) (length room)))
      (read_stopped s (palette (store_of s) v (keys_in list) (length room)) (λ c o l e. palette_stopped s (records_formed s h e) v (keys_in list) room)))

  pub palette_exactly : Exactly (palette_rows s v list room) (low r)
  palette_exactly = exactly (palette_rows s v list room) (low r) refl (stopped_first refl refl palette_answers)

  pub palette_names_slot : Names (λ i. NoneOf (tests_of (palette_rows s v list room)) × StopsPalette s v (keys_in list) (spoilt_record i)) r
  palette_names_slot = stopped_names refl refl palette_answers

-- A comparison: 1, 2, 3, 8, 13, 9.
pub changes_exactly : (first second limit : ℕ) {s room f t g : Bytes} {r : ℕ} → Changes first second limit s room f r t g →
    Exactly (changes_rows s first second limit room) r
changes_exactly first second limit {s} {room} {r = r} w =
    exactly (changes_rows s first second limit room) r refl
    (subst (First (changes_rows s first second limit room)) (sym w.exported.number)
    (does_first (compare first second limit (length room)) s (comparison_rows s first second limit room) w.answer
    (changes_first s first second limit room) w.does))

-- A rescue: 1, 2, 3.
pub rescue_exactly : (oldest latest : ℕ) {s old f t g : Bytes} {r : ℕ} → Rescues oldest latest s old f r t g →
    Exactly (rescue_rows s old oldest latest) r
rescue_exactly oldest latest {s} {old} {r = r} w = exactly (rescue_rows s old oldest latest) r refl (rescue_first s old oldest latest w)

-- What is found of a proof: 12; then 1, 2, 3; then 8, 14, 10, 11.
pub finding_exactly : {s : Bytes} {v : ℕ} {k x f : Bytes} {r : ℕ} {g : Bytes} → Finds s v k x f r g → Exactly (finding_rows s v k x) r
finding_exactly {s} {v} {k} {x} {r = r} w =
    exactly (finding_rows s v k x) r refl (subst (First (finding_rows s v k x)) (sym (seen w).exported.number) (go (seen w).said))
  where
    unsound : {m : ℕ} → check.Checked counted s m → (m ≡ 0 → ⊥) → First (header_rows s ++ (3, Sound leaf_hash inner_hash (store_of s) → ⊥) ∷ found_rows s v k x) m
    unsound (check.refused n e) f = let h = header_row s e in within (header_rows s) ((3, Sound leaf_hash inner_hash (store_of s) → ⊥) ∷ found_rows s v k x) n h.0 h.1
    unsound (check.unsound c o l e n) f = past (header_rows s) ((3, Sound leaf_hash inner_hash (store_of s) → ⊥) ∷ found_rows s v k x) 3 (after_header s e) (inl (n, refl))
    unsound (check.sound c o l e n) f = absurd (f refl)

    go : {a : Answer Finding} → Answers s v k x a → First (finding_rows s v k x) (number_of a)
    go (wrong_key n) = inl (λ z. n z.0, refl)
    go (wrong_store {m} e c f) = inr (λ n. n (e, tt), unsound c f)
    go (sound_store {a} e w d) =
        inr (
          λ n. n (e, tt),
          past (header_rows s) ((3, Sound leaf_hash inner_hash (store_of s) → ⊥) ∷ found_rows s v k x) (number_of a) (after_header s w.headed) (inr (λ n. n w.sound, finding_first s v k x d)),
        )

-- A move over, and back: 1, 2, 3.
pub over_exactly : {s old t : Bytes} {r : ℕ} → MovesOver s old r t → Exactly (move_rows plain s old) r
over_exactly {s} {old} {r = r} w = exactly (move_rows plain s old) r refl (move_first plain s old w)

pub back_exactly : {s old t : Bytes} {r : ℕ} → MovesBack s old r t → Exactly (move_rows counted s old) r
back_exactly {s} {old} {r = r} w = exactly (move_rows counted s old) r refl (move_first counted s old w)

-- The proof check: 12, 10, 11.
pub verify_exactly : {root k x f : Bytes} {r : ℕ} {g : Bytes} → Verifies root k x f r g → Exactly (verify_rows root k x) r
verify_exactly {root} {k} {x} {r = r} w = exactly (verify_rows root k x) r refl (subst (First (verify_rows root k x)) (sym (seen w).exported.number) (go (seen w).said))
  where
    go : {a : Answer Verdict} → Told Judged root k x a → First (verify_rows root k x) (number_of a)
    go (not_32_bytes n) = inl (λ z. n (z.0, z.1.0), refl)
    go (not_in_form s n) = inr (λ z. z (s.0, (s.1, tt)), inl (n, refl))
    go (in_form {p} s is h) = inr (λ z. z (s.0, (s.1, tt)), inr (λ f. f p is, judged_first p is h))

-- Many proofs at once: 12, 10, 9.
pub verify_many_exactly : {root list row old : Bytes} {r : ℕ} {new : Bytes} → VerifiesMany root list row old r new →
    Exactly (verify_many_rows root list row old) r
verify_many_exactly {root} {list} {row} {old} {r} w =
    exactly (verify_many_rows root list row old) r refl (subst (First (verify_many_rows root list row old)) (sym (seen w).exported.number) (go (seen w).said))
  where
    right : RootAndKeys root list → Not32 (root ∷ []) ⊎ NotKeys list → ⊥
    right h (inl z) = z (h.0, tt)
    right h (inr z) = keys_whole list h.1 z

    wrong : (a b : Bool) → eqb (length root) 32 ≡ a → whole_keys list ≡ b → (RootAndKeys root list → ⊥) → Not32 (root ∷ []) ⊎ NotKeys list
    wrong false b e f n = inl (λ z. eqb-false (length root) 32 e z.0)
    wrong true false e f n = inr (keys_torn list f)
    wrong true true e f n = absurd (n (eqb-true (length root) 32 e, f))

    go : {a : Answer Bytes} → ToldOfRow root list row (length old) a → First (verify_many_rows root list row old) (number_of a)
    go (not_whole n) = inl (wrong (eqb (length root) 32) (whole_keys list) refl refl n, refl)
    go (not_pieces h n) = inr (right h, inl (n, refl))
    go (no_room {xs} h c l) = inr (right h, inr (λ n. n xs c, inl (l, refl)))
    go (answered {xs} h c l q) = inr (right h, inr (λ n. n xs c, inr (λ z. absurd (omega arith), refl)))

-- A hash is never refused.
pub sha256_exactly : {x g : Bytes} {r : ℕ} → Hashes x r g → Exactly [] r
sha256_exactly {r = r} w = exactly [] r refl w.answer
