-- Document 02, 2026-05: the calls that keep a table: one outcome; refused, nothing is written; each number exactly by its row; a table that is built or kept
-- is the right one of the store, and that store is the plain call's. Assumes nothing.
use Prim.Native.Nat.{ℕ}
use native.Mathlib.Omega.{arith}
use mathlib.Core.Path.{◌≡◌, refl, ap, sym, ◌∙◌, subst}
use mathlib.Core.Logic.{◌↔◌, inl, inr}
use mathlib.Core.Bool.{Bool, true, false, cond}
use mathlib.Core.List.{List, [], ◌∷◌, ◌++◌}
use lib.ListN.{length}
use lib.Dec.{eqb}
use borrow.Author.Tests.{eqb-false}
use Rattle.terms.specs.declared.Form.TheVariants.{Counted as counted}
use Rattle.terms.specs.Bits.{Bytes}
use Rattle.terms.specs.Records.{Store}
use Rattle.meaning.specs.Sound.{Sound}
use Rattle.meaning.specs.Calls.{Answer, refused, accepted, Result, apply, prune}
use Rattle.meaning.specs.Answers.{number_of, Exports, exports_refusal, exports_answer}
use Rattle.nodehash.specs.Node.{leaf_hash, inner_hash}
use Rattle.layout.specs.Sizes.{room_of}
use Rattle.layout.specs.Headers.{Headed, refusal, header, header_of, size_right}
use Rattle.layout.specs.Stores.{store_of}
use Rattle.layout.proofs.Headers.{room_of_lem, size_right_of}
use Rattle.batch.proofs.Batches.{asks_one}
use Rattle.contracts.specs.Apply.{told}
use Rattle.promises.specs.Check as check
use Rattle.promises.specs.Calls.{SoundBytes, not_checked, refuses, accepts, Does}
use Rattle.promises.proofs.Calls.{sound_passes}
use Rattle.index_rules.specs.Tables.{Fits, RightFor, Opened, other_length, checked, Tells, not_opened, not_right, is_right, Builds, not_built, built, FormatsBoth, wrong_size, both_fresh, DoesBoth, not_told, refuses_both, accepts_both}
use Rattle.index_rules.proofs.Outcomes as outcomes
use Rattle.refusals.specs.Exactly.{Table, Exactly, NoneOf}
use Rattle.refusals.specs.Tables.{format_rows, header_rows, sound_rows, apply_rows, prune_rows}
use Rattle.refusals.proofs.Parts.{WrongLength, batch_rows, version_rows}
use Rattle.refusals.proofs.Exactly.{First, past, within, exactly}
use Rattle.refusals.proofs.Headers.{length_wrong, length_right_lem, Header, wrong_length, wrong_header as header-wrong, right, header_is}
use Rattle.refusals.proofs.Batches.{batch_first}
use Rattle.refusals.proofs.Walks.{prune_first}
use Rattle.contracts.specs.Contracts.{Formats, Applies, Prunes, Indexes, TellsIndex, FormatsIndexed, AppliesIndexed, PrunesIndexed}
use Rattle.demands.specs.Indexed.{rows_by}
use Rattle.demands.proofs.Indexed.{WrongLengths}
use Rattle.demands.proofs.Refusals.{never_0, apply_refusals, prune_refusals}
use Rattle.demands.specs.Tabled.{tell_rows, keep_rows, Together, formatted_both, built_for, then_formatted, then_applied, then_pruned, then_built, then_looked}

-- One outcome.
module _ {s : Bytes} {table : List ℕ} {a b : ℕ} where
  pub one_index : {u v : List ℕ} → Indexes s table a u → Indexes s table b v → (a ≡ b) × (u ≡ v)
  one_index x y = outcomes.one_built x y

  pub one_index_check : TellsIndex s table a → TellsIndex s table b → a ≡ b
  one_index_check x y = outcomes.one_told x y

  pub one_format_indexed : {t t' : Bytes} {u v : List ℕ} → FormatsIndexed s table a t u → FormatsIndexed s table b t' v → (a ≡ b) × (t ≡ t') × (u ≡ v)
  one_format_indexed x y = outcomes.one_format x y

  pub one_apply_indexed : (number : ℕ) (batch : Bytes) {f t t' g h : Bytes} {u v : List ℕ} → AppliesIndexed number batch s table f a t u g →
      AppliesIndexed number batch s table f b t' v h → (a ≡ b) × (t ≡ t') × (u ≡ v) × (g ≡ h)
  one_apply_indexed number batch {f} {t' = t'} {h = h} {v = v} x y =
      outcomes.one_export_both x.applied (subst (λ o. Exports (λ a. DoesBoth (apply leaf_hash inner_hash number o) s table a t' v) told f b h)
      (asks_one batch y.asked x.asked y.asks x.asks) y.applied)

  pub one_prune_indexed : (n : ℕ) {f t t' g h : Bytes} {u v : List ℕ} → PrunesIndexed n s table f a t u g →
      PrunesIndexed n s table f b t' v h → (a ≡ b) × (t ≡ t') × (u ≡ v) × (g ≡ h)
  one_prune_indexed n x y = outcomes.one_export_both x y

-- A refused call writes neither the store, nor the table, nor its array.
both_left : {A : Type 0} {call : Store → Result A} {told : A → Bytes} {s : Bytes} {table : List ℕ} {f : Bytes} {r : ℕ} {t : Bytes} {u : List ℕ} {g : Bytes} →
    Exports (λ a. DoesBoth call s table a t u) told f r g → (r ≡ 0 → ⊥) → (t ≡ s) × (u ≡ table) × (g ≡ f)
both_left (exports_refusal d) z = let w = outcomes.refused_writes_neither d in (w.0, w.1, refl)
both_left (exports_answer d) z = absurd (z refl)

module _ {s : Bytes} {table : List ℕ} {r : ℕ} (z : r ≡ 0 → ⊥) where
  pub refused_index_writes_nothing : {u : List ℕ} → Indexes s table r u → u ≡ table
  refused_index_writes_nothing w = outcomes.not_built_writes_nothing w z

  pub refused_format_indexed_writes_nothing : {t : Bytes} {u : List ℕ} → FormatsIndexed s table r t u → (t ≡ s) × (u ≡ table)
  refused_format_indexed_writes_nothing w = outcomes.refused_format_writes_nothing w z

  pub refused_apply_indexed_writes_nothing : (number : ℕ) (batch : Bytes) {f t g : Bytes} {u : List ℕ} → AppliesIndexed number batch s table f r t u g →
      (t ≡ s) × (u ≡ table) × (g ≡ f)
  refused_apply_indexed_writes_nothing number batch w = both_left w.applied z

  pub refused_prune_indexed_writes_nothing : (n : ℕ) {f t g : Bytes} {u : List ℕ} → PrunesIndexed n s table f r t u g →
      (t ≡ s) × (u ≡ table) × (g ≡ f)
  refused_prune_indexed_writes_nothing n w = both_left w z

-- The table that is built is the right one, and telling answers 0 exactly for it.
pub index_writes_the_right_table : {s : Bytes} {table u : List ℕ} → Indexes s table 0 u → RightFor s u
index_writes_the_right_table w = outcomes.built_right w refl

pub right_table_is_told_exactly : {s : Bytes} {table : List ℕ} {r : ℕ} → SoundBytes s → TellsIndex s table r → (r ≡ 0) ↔ RightFor s table
right_table_is_told_exactly w t = outcomes.told_exactly w t

-- Format, apply and prune leave the right table of the store that they leave, and that store is byte for byte what the plain call leaves.
pub format_as_plain : {s t : Bytes} {table u : List ℕ} {r : ℕ} → FormatsBoth s table r t u → r ≡ 0 → Formats s 0 t
format_as_plain (wrong_size n) z = absurd (omega arith)
format_as_plain (both_fresh h f e r) z = record { answer = rw h; bytes = e ∙ rw h }

pub accepted_format_keeps_the_table : {s t : Bytes} {table u : List ℕ} → FormatsIndexed s table 0 t u → Formats s 0 t × RightFor t u
accepted_format_keeps_the_table w = (format_as_plain w refl, outcomes.format_right w refl)

-- a header is refused or accepted
clash : {B : Type 0} {h : Headed} {m c o l : ℕ} → h ≡ refusal m → h ≡ header c o l → B
clash e f = let z : ◌≡◌ {A = ℕ} 0 1 = cc in absurd (omega arith)

-- what a call that keeps a table was, where it was accepted
module _ {A : Type 0} {call : Store → Result A} {told : A → Bytes} {s : Bytes} {table : List ℕ} {f : Bytes} where
  both_kept : {r : ℕ} {t g : Bytes} {u : List ℕ} → ((m : ℕ) → (call (store_of s)).answer ≡ refused m → m ≡ 0 → ⊥) →
      Exports (λ a. DoesBoth call s table a t u) told f r g → r ≡ 0 → Exports (λ a. Does call s a t) told f 0 g × RightFor s table × RightFor t u
  both_kept never (exports_refusal (not_told n o)) z = absurd (n z)
  both_kept never (exports_refusal (refuses_both o (not_checked c n))) z = sound_passes (outcomes.told_sound o refl) c n
  both_kept never (exports_refusal (refuses_both o (refuses w e))) z = absurd (never _ e z)
  both_kept never (exports_answer d) z = (exports_answer (outcomes.accepted_as_plain d), outcomes.accepted_was_right d, outcomes.accepted_right d)

  both_right : {r : ℕ} {t g : Bytes} {u : List ℕ} → Exports (λ a. DoesBoth call s table a t u) told f r g → RightFor s table → RightFor t u
  both_right {u = u} (exports_refusal d) q =
      let w = outcomes.refused_writes_neither d in subst (λ x. RightFor x u) (sym w.0) (subst (RightFor s) (sym w.1) q)
  both_right (exports_answer d) q = outcomes.accepted_right d

pub apply_as_plain : (number : ℕ) (batch : Bytes) {s f t g : Bytes} {table u : List ℕ} {r : ℕ} (w : AppliesIndexed number batch s table f r t u g) → r ≡ 0 →
    Exports (λ a. Does (apply leaf_hash inner_hash number w.asked) s a t) told f 0 g × RightFor s table × RightFor t u
apply_as_plain number batch {s} w =
    both_kept (λ m e. never_0 (4 ∷ 5 ∷ 18 ∷ 7 ∷ []) refl (apply_refusals number w.asked (store_of s) m e)) w.applied

pub accepted_apply_keeps_the_table : (number : ℕ) (batch : Bytes) {s f t g : Bytes} {table u : List ℕ} → AppliesIndexed number batch s table f 0 t u g →
    Applies number batch s f 0 t g × RightFor s table × RightFor t u
accepted_apply_keeps_the_table number batch w =
    let k = apply_as_plain number batch w refl in (record { asked = w.asked; asks = w.asks; applied = k.0 }, k.1, k.2)

pub accepted_prune_keeps_the_table : (n : ℕ) {s f t g : Bytes} {table u : List ℕ} → PrunesIndexed n s table f 0 t u g →
    Prunes n s f 0 t g × RightFor s table × RightFor t u
accepted_prune_keeps_the_table n {s} w = both_kept (λ m e. never_0 (8 ∷ []) refl (prune_refusals n (store_of s) m e)) w refl

-- A store and its table that only public calls wrote are right together.
built_still : {s : Bytes} {table u : List ℕ} {r : ℕ} → Builds s table r u → RightFor s table → RightFor s u
built_still (not_built n o) q = q
built_still (built o r) q = r

formatted_still : {s t : Bytes} {table u : List ℕ} {r : ℕ} → FormatsBoth s table r t u → RightFor s table → RightFor t u
formatted_still (wrong_size n) q = q
formatted_still (both_fresh h f e r) q = r

pub right_together : {s : Bytes} {table : List ℕ} → Together s table → RightFor s table
right_together (formatted_both w) = outcomes.format_right w refl
right_together (built_for life w) = outcomes.built_right w refl
right_together (then_formatted k w) = formatted_still w (right_together k)
right_together (then_applied number batch small k w) = both_right w.applied (right_together k)
right_together (then_pruned n k w) = both_right w (right_together k)
right_together (then_built k w) = built_still w (right_together k)
right_together (then_looked k w) = right_together k

-- Each number exactly if its row.
same_refusal : {m n : ℕ} → refusal m ≡ refusal n → n ≡ m
same_refusal e = cc

module _ (s : Bytes) (table : List ℕ) where
  lengths_wrong : (Fits s table → ⊥) → WrongLengths s table
  lengths_wrong none n least most (size, many) = none (many ∙ sym (room_of_lem counted (length s) n size))

  lengths_right : Fits s table → (WrongLength s → ⊥) → WrongLengths s table → ⊥
  lengths_right fits ok wrong = ok (λ n least most size. wrong n least most (size, fits ∙ room_of_lem counted (length s) n size))

  header_first : Fits s table → {h : Headed} → Header s h → (n : ℕ) → h ≡ refusal n → First (rows_by s table (header_rows s)) n
  header_first fits (wrong_length w) n e = inl (λ m least most both. w m least most both.0, same_refusal e)
  header_first fits (header-wrong ok w) n e = inr (lengths_right fits ok, inl (w, same_refusal e))
  header_first fits (right ok w) n e = clash e refl

  header_none : Fits s table → {h : Headed} → Header s h → {c o l : ℕ} → h ≡ header c o l → NoneOf (rows_by s table (header_rows s))
  header_none fits (wrong_length w) e = clash refl e
  header_none fits (header-wrong ok w) e = clash refl e
  header_none fits (right ok w) e = (lengths_right fits ok, (w, tt))

  opened_first : (more : Table) {r : ℕ} → Opened s table r → (r ≡ 0 → ⊥) → First (rows_by s table (header_rows s) ++ (3, Sound leaf_hash inner_hash (store_of s) → ⊥) ∷ more) r
  opened_first more (other_length none) z = within (rows_by s table (header_rows s)) ((3, Sound leaf_hash inner_hash (store_of s) → ⊥) ∷ more) 1 (inl (lengths_wrong none, refl)) z
  opened_first more {r} (checked fits (check.refused n e)) z =
      within (rows_by s table (header_rows s)) ((3, Sound leaf_hash inner_hash (store_of s) → ⊥) ∷ more) n (header_first fits (header_is s) n e) z
  opened_first more (checked fits (check.unsound c o l e f)) z =
      past (rows_by s table (header_rows s)) ((3, Sound leaf_hash inner_hash (store_of s) → ⊥) ∷ more) 3 (header_none fits (header_is s) e) (inl (f, refl))
  opened_first more (checked fits (check.sound c o l e f)) z = absurd (z refl)

  sound_past : (more : Table) {r : ℕ} (n : ℕ) → Opened s table r → r ≡ 0 → First more n → First (rows_by s table (header_rows s) ++ (3, Sound leaf_hash inner_hash (store_of s) → ⊥) ∷ more) n
  sound_past more n o z f =
      let w = outcomes.opened_sound o z in
      past (rows_by s table (header_rows s)) ((3, Sound leaf_hash inner_hash (store_of s) → ⊥) ∷ more) n (header_none (outcomes.opened_fits o z) (header_is s) w.headed) (inr (λ b. b w.sound, f))

  told_first : (more : Table) {r : ℕ} → Tells s table r → (r ≡ 0 → ⊥) → First (rows_by s table (header_rows s) ++ (3, Sound leaf_hash inner_hash (store_of s) → ⊥) ∷ (16, RightFor s table → ⊥) ∷ more) r
  told_first more (not_opened n o) z = opened_first ((16, RightFor s table → ⊥) ∷ more) o z
  told_first more (not_right o f) z = sound_past ((16, RightFor s table → ⊥) ∷ more) 16 o refl (inl (f, refl))
  told_first more (is_right o q) z = absurd (z refl)

  right_past : (more : Table) {r : ℕ} (n : ℕ) → Tells s table r → r ≡ 0 → First more n → First (rows_by s table (header_rows s) ++ (3, Sound leaf_hash inner_hash (store_of s) → ⊥) ∷ (16, RightFor s table → ⊥) ∷ more) n
  right_past more n (not_opened m o) z f = absurd (m z)
  right_past more n (not_right o x) z f = absurd (omega arith)
  right_past more n (is_right o q) z f = sound_past ((16, RightFor s table → ⊥) ∷ more) n o refl (inr (λ w. w q, f))

  pub index_exactly : {r : ℕ} {u : List ℕ} → Indexes s table r u → Exactly (rows_by s table (sound_rows s)) r
  index_exactly {r} w = exactly (rows_by s table (sound_rows s)) r refl (go w)
    where
      go : {n : ℕ} {u : List ℕ} → Builds s table n u → First (rows_by s table (sound_rows s)) n
      go (not_built z o) = opened_first [] o z
      go (built o q) = sound_past [] 0 o refl refl

  pub index_check_exactly : {r : ℕ} → TellsIndex s table r → Exactly (tell_rows s table) r
  index_check_exactly {r} w = exactly (tell_rows s table) r refl (go w)
    where
      go : {n : ℕ} → Tells s table n → First (tell_rows s table) n
      go (not_opened z o) = told_first [] (not_opened z o) z
      go (not_right o f) = told_first [] (not_right o f) (λ z. absurd (omega arith))
      go (is_right o q) = right_past [] 0 (is_right o q) refl refl

  pub format_indexed_exactly : {r : ℕ} {t : Bytes} {u : List ℕ} → FormatsIndexed s table r t u → Exactly (rows_by s table (format_rows s)) r
  format_indexed_exactly {r} w = exactly (rows_by s table (format_rows s)) r refl (go w)
    where
      go : {n : ℕ} {t : Bytes} {u : List ℕ} → FormatsBoth s table n t u → First (rows_by s table (format_rows s)) n
      go (wrong_size none) =
          inl (λ n least most (size, many). none (size_right_of counted (length s) n size least most) (many ∙ sym (room_of_lem counted (length s) n size)), refl)
      go (both_fresh h f e q) = inr (lengths_right f (length_right_lem s h), refl)

both_first : {A : Type 0} (call : Store → Result A) {told : A → Bytes} (s : Bytes) (table : List ℕ) (more : Table) {f t g : Bytes} {u : List ℕ} {r : ℕ} →
    First more (number_of (call (store_of s)).answer) → Exports (λ a. DoesBoth call s table a t u) told f r g →
    First (rows_by s table (header_rows s) ++ (3, Sound leaf_hash inner_hash (store_of s) → ⊥) ∷ (16, RightFor s table → ⊥) ∷ more) r
both_first call s table more h (exports_refusal (not_told n o)) = told_first s table more o n
both_first call s table more h (exports_refusal (refuses_both o (not_checked c n))) = sound_passes (outcomes.told_sound o refl) c n
both_first call s table more h (exports_refusal {n = m} (refuses_both o (refuses w e))) =
    right_past s table more m o refl (subst (λ x. First more (number_of x)) e h)
both_first call s table more h (exports_answer (accepts_both o (accepts w e) q)) =
    right_past s table more 0 o refl (subst (λ x. First more (number_of x)) e h)

pub apply_indexed_exactly : (number : ℕ) (batch : Bytes) {s f t g : Bytes} {table u : List ℕ} {r : ℕ} →
    AppliesIndexed number batch s table f r t u g → Exactly (keep_rows s table (apply_rows number batch s)) r
apply_indexed_exactly number batch {s} {table = table} {r = r} w =
    exactly (keep_rows s table (apply_rows number batch s)) r refl
    (both_first (apply leaf_hash inner_hash number w.asked) s table (batch_rows number batch s) (batch_first number batch s w.asked w.asks) w.applied)

pub prune_indexed_exactly : (n : ℕ) {s f t g : Bytes} {table u : List ℕ} {r : ℕ} → PrunesIndexed n s table f r t u g → Exactly (keep_rows s table (prune_rows n s)) r
prune_indexed_exactly n {s} {table = table} {r = r} w =
    exactly (keep_rows s table (prune_rows n s)) r refl (both_first (prune n) s table (version_rows s n) (prune_first n s) w)
