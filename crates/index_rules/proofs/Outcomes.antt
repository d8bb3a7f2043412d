-- The calls that keep a table have one outcome each; a refused one writes nothing; an accepted one leaves the right table of the store that it
-- leaves, and that store is the plain call's. Assumes nothing.
use Prim.Native.Nat.{ℕ}
use native.Mathlib.Omega.{arith}
use mathlib.Core.Path.{◌≡◌, refl, ap, sym, ◌∙◌, subst}
use mathlib.Core.Logic.{◌↔◌, ⊎_elim}
use mathlib.Core.Bool.{true}
use mathlib.Core.List.{List}
use lib.ListN.{length}
use Rattle.terms.specs.declared.Form.TheVariants.{Counted as counted}
use Rattle.terms.specs.Bits.{Bytes}
use Rattle.terms.specs.Records.{Store}
use Rattle.meaning.specs.Calls.{Answer, refused, accepted, Result}
use Rattle.meaning.specs.Answers.{Exports, exports_refusal, exports_answer}
use Rattle.indexed.specs.Table.{Right}
use Rattle.indexed.proofs.One.{one_right_table}
use Rattle.layout.specs.Headers.{Headed, refusal, header, header_of}
use Rattle.layout.specs.Stores.{store_of}
use Rattle.layout.proofs.Headers.{header_refused}
use Rattle.store.proofs.Slots.{slots_many}
use Rattle.promises.specs.Check.{Checked}
use Rattle.promises.specs.Check as check
use Rattle.promises.specs.Calls.{SoundBytes, Does, refuses, accepts}
use Rattle.promises.proofs.Calls.{checked_sound, refused_writes_nothing, one_outcome}
use Rattle.index_rules.specs.Tables.{Fits, RightFor, Opened, other_length, checked, Tells, not_opened, not_right, is_right, Builds, not_built, built, FormatsBoth, wrong_size, both_fresh, DoesBoth, not_told, refuses_both, accepts_both}

no_header : {A : Type 0} {x : Headed} {n m o l : ℕ} → x ≡ refusal n → x ≡ header m o l → A
no_header e f = let z : ◌≡◌ {A = ℕ} 0 1 = cc in absurd (omega arith)

-- a sound store is refused by none of 1, 2 and 3
sound_passes : {s : Bytes} {a : ℕ} → SoundBytes s → Checked counted s a → a ≡ 0
sound_passes w (check.refused n e) = no_header e w.headed
sound_passes w (check.unsound n o l e f) = absurd (f w.sound)
sound_passes w (check.sound n o l e f) = refl

one_check : {s : Bytes} {a b : ℕ} → Checked counted s a → Checked counted s b → a ≡ b
one_check (check.refused n e) (check.refused m f) = cc
one_check (check.refused n e) (check.unsound m o l f x) = no_header e f
one_check (check.refused n e) (check.sound m o l f x) = no_header e f
one_check (check.unsound m o l f x) (check.refused n e) = no_header e f
one_check (check.unsound m o l f x) (check.unsound n p q g y) = refl
one_check (check.unsound m o l f x) (check.sound n p q g y) = absurd (x y)
one_check (check.sound m o l f x) (check.refused n e) = no_header e f
one_check (check.sound m o l f x) (check.unsound n p q g y) = absurd (y x)
one_check (check.sound m o l f x) (check.sound n p q g y) = refl

right_fits : (s : Bytes) (table : List ℕ) → RightFor s table → Fits s table
right_fits s table r = r.size ∙ slots_many counted s

module _ {s : Bytes} {table : List ℕ} where
  pub one_opened : {a b : ℕ} → Opened s table a → Opened s table b → a ≡ b
  one_opened (other_length n) (other_length m) = refl
  one_opened (other_length n) (checked f c) = absurd (n f)
  one_opened (checked f c) (other_length n) = absurd (n f)
  one_opened (checked f c) (checked g d) = one_check c d

  -- where nothing is refused the store is sound and the table as long as its capacity
  pub opened_sound : {a : ℕ} → Opened s table a → a ≡ 0 → SoundBytes s
  opened_sound (other_length n) z = absurd (omega arith)
  opened_sound (checked f c) z = checked_sound c z

  pub opened_fits : {a : ℕ} → Opened s table a → a ≡ 0 → Fits s table
  opened_fits (other_length n) z = absurd (omega arith)
  opened_fits (checked f c) z = f

  pub one_told : {a b : ℕ} → Tells s table a → Tells s table b → a ≡ b
  one_told (not_opened n o) (not_opened m p) = one_opened o p
  one_told (not_opened n o) (not_right p f) = absurd (n (one_opened o p))
  one_told (not_opened n o) (is_right p f) = absurd (n (one_opened o p))
  one_told (not_right o f) (not_opened m p) = absurd (m (one_opened p o))
  one_told (not_right o f) (not_right p g) = refl
  one_told (not_right o f) (is_right p g) = absurd (f g)
  one_told (is_right o f) (not_opened m p) = absurd (m (one_opened p o))
  one_told (is_right o f) (not_right p g) = absurd (g f)
  one_told (is_right o f) (is_right p g) = refl

  pub told_sound : {a : ℕ} → Tells s table a → a ≡ 0 → SoundBytes s
  told_sound (not_opened n o) z = absurd (n z)
  told_sound (not_right o f) z = absurd (omega arith)
  told_sound (is_right o f) z = opened_sound o refl

  pub told_fits : {a : ℕ} → Tells s table a → a ≡ 0 → Fits s table
  told_fits (not_opened n o) z = absurd (n z)
  told_fits (not_right o f) z = absurd (omega arith)
  told_fits (is_right o f) z = opened_fits o refl

  pub told_right : {a : ℕ} → Tells s table a → a ≡ 0 → RightFor s table
  told_right (not_opened n o) z = absurd (n z)
  told_right (not_right o f) z = absurd (omega arith)
  told_right (is_right o f) z = f

  -- Of a sound store, telling answers 0 exactly for the right table.
  pub told_exactly : {a : ℕ} → SoundBytes s → Tells s table a → (a ≡ 0) ↔ RightFor s table
  told_exactly w t = (told_right t, λ r. passes t r)
    where
      opens : {a : ℕ} → RightFor s table → Opened s table a → a ≡ 0
      opens r (other_length n) = absurd (n (right_fits s table r))
      opens r (checked f c) = sound_passes w c

      passes : {a : ℕ} → Tells s table a → RightFor s table → a ≡ 0
      passes (not_opened n o) r = opens r o
      passes (not_right o f) r = absurd (f r)
      passes (is_right o f) r = refl

  pub one_built : {a b : ℕ} {u v : List ℕ} → Builds s table a u → Builds s table b v → (a ≡ b) × (u ≡ v)
  one_built (not_built n o) (not_built m p) = (one_opened o p, refl)
  one_built (not_built n o) (built p r) = absurd (n (one_opened o p))
  one_built (built o r) (not_built m p) = absurd (m (one_opened p o))
  one_built (built o r) (built p q) = (refl, one_right_table (store_of s) _ _ r q)

  -- Building that answers 0 has written the one right table; refused, it has written nothing.
  pub built_right : {a : ℕ} {u : List ℕ} → Builds s table a u → a ≡ 0 → RightFor s u
  built_right (not_built n o) z = absurd (n z)
  built_right (built o r) z = r

  pub not_built_writes_nothing : {a : ℕ} {u : List ℕ} → Builds s table a u → (a ≡ 0 → ⊥) → u ≡ table
  not_built_writes_nothing (not_built n o) z = refl
  not_built_writes_nothing (built o r) z = absurd (z refl)

  pub one_format : {a b : ℕ} {t t' : Bytes} {u v : List ℕ} → FormatsBoth s table a t u → FormatsBoth s table b t' v → (a ≡ b) × (t ≡ t') × (u ≡ v)
  one_format (wrong_size n) (wrong_size m) = (refl, refl, refl)
  one_format (wrong_size n) (both_fresh h f e r) = absurd (n h f)
  one_format (both_fresh h f e r) (wrong_size n) = absurd (n h f)
  one_format {u = u} {v = v} (both_fresh h f e r) (both_fresh k g d q) =
      let same = e ∙ sym d in (refl, same, one_right_table (store_of _) u v r (subst (λ t. RightFor t v) (sym same) q))

  pub format_right : {a : ℕ} {t : Bytes} {u : List ℕ} → FormatsBoth s table a t u → a ≡ 0 → RightFor t u
  format_right (wrong_size n) z = absurd (omega arith)
  format_right (both_fresh h f e r) z = r

  pub refused_format_writes_nothing : {a : ℕ} {t : Bytes} {u : List ℕ} → FormatsBoth s table a t u → (a ≡ 0 → ⊥) → (t ≡ s) × (u ≡ table)
  refused_format_writes_nothing (wrong_size n) z = (refl, refl)
  refused_format_writes_nothing (both_fresh h f e r) z = absurd (z refl)

-- an answer is refused or accepted
not_answered : {A B : Type 0} {m : ℕ} {k : A} → ◌≡◌ {A = Answer A} (refused m) (accepted k) → B
not_answered e = let z : ◌≡◌ {A = ℕ} 0 1 = cc in absurd (omega arith)

same_number : {A : Type 0} {m n : ℕ} → ◌≡◌ {A = Answer A} (refused m) (refused n) → m ≡ n
same_number e = cc

same_told : {A : Type 0} (told : A → Bytes) {a b : A} → ◌≡◌ {A = Answer A} (accepted a) (accepted b) → told a ≡ told b
same_told told e = cc

module _ {A : Type 0} {call : Store → Result A} {s : Bytes} {table : List ℕ} where
  -- Two outcomes of the same call on the same bytes and the same table are equal.
  pub one_outcome_both : {a b : Answer A} {t t' : Bytes} {u v : List ℕ} → DoesBoth call s table a t u → DoesBoth call s table b t' v → (a ≡ b) × (t ≡ t') × (u ≡ v)
  one_outcome_both (not_told n o) (not_told m p) = (ap refused (one_told o p), refl, refl)
  one_outcome_both (not_told n o) (refuses_both p d) = absurd (n (one_told o p))
  one_outcome_both (not_told n o) (accepts_both p d r) = absurd (n (one_told o p))
  one_outcome_both (refuses_both o c) (not_told m p) = absurd (m (one_told p o))
  one_outcome_both (refuses_both o c) (refuses_both p d) = let w = one_outcome c d in (w.0, w.1, refl)
  one_outcome_both (refuses_both o c) (accepts_both p d r) = not_answered (one_outcome c d).0
  one_outcome_both (accepts_both o c q) (not_told m p) = absurd (m (one_told p o))
  one_outcome_both (accepts_both o c q) (refuses_both p d) = not_answered (one_outcome d c).0
  one_outcome_both {u = u} {v = v} (accepts_both o c q) (accepts_both p d r) =
      let w = one_outcome c d in (w.0, w.1, one_right_table (store_of _) u v q (subst (λ t. RightFor t v) (sym w.1) r))

  -- A refusal writes nothing.
  pub refused_writes_neither : {m : ℕ} {t : Bytes} {u : List ℕ} → DoesBoth call s table (refused m) t u → (t ≡ s) × (u ≡ table)
  refused_writes_neither (not_told n o) = (refl, refl)
  refused_writes_neither (refuses_both o c) = (refused_writes_nothing c, refl)

  -- Accepted, the answer and the bytes are those of the call without a table, and the table is the right one of the store in them.
  pub accepted_as_plain : {a : A} {t : Bytes} {u : List ℕ} → DoesBoth call s table (accepted a) t u → Does call s (accepted a) t
  accepted_as_plain (accepts_both o c q) = c

  pub accepted_right : {a : A} {t : Bytes} {u : List ℕ} → DoesBoth call s table (accepted a) t u → RightFor t u
  accepted_right (accepts_both o c q) = q

  pub accepted_was_right : {a : A} {t : Bytes} {u : List ℕ} → DoesBoth call s table (accepted a) t u → RightFor s table
  accepted_was_right (accepts_both o c q) = told_right o refl

  module _ {told : A → Bytes} {f : Bytes} where
    pub one_export_both : {a b : ℕ} {t t' g h : Bytes} {u v : List ℕ} → Exports (λ x. DoesBoth call s table x t u) told f a g →
        Exports (λ x. DoesBoth call s table x t' v) told f b h →
        (a ≡ b) × (t ≡ t') × (u ≡ v) × (g ≡ h)
    one_export_both (exports_refusal x) (exports_refusal y) = let o = one_outcome_both x y in (same_number o.0, o.1, o.2, refl)
    one_export_both (exports_refusal x) (exports_answer y) = not_answered (one_outcome_both x y).0
    one_export_both (exports_answer x) (exports_refusal y) = not_answered (one_outcome_both y x).0
    one_export_both (exports_answer x) (exports_answer y) = let o = one_outcome_both x y in (refl, o.1, o.2, same_told told o.0)
