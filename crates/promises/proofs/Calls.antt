-- A call that tests soundness has one outcome: what check refuses it refuses, 0 is given to sound stores alone, and a refusal writes nothing.
-- Assumes nothing.
use Prim.Native.Nat.{ℕ, ◌<◌}
use native.Mathlib.Omega.{arith}
use mathlib.Core.Path.{◌≡◌, refl, ap, sym, ◌∙◌, subst}
use mathlib.Core.Logic.{⊎_elim}
use lib.ListN.{length, get_or}
use Rattle.terms.specs.declared.Form.TheVariants.{Counted as counted}
use Rattle.terms.specs.Bits.{Bytes, Byte, All}
use Rattle.terms.specs.Records.{Slot, free, used, spoiled, Store}
use Rattle.terms.specs.Form.{FormedAs}
use Rattle.terms.proofs.Lists.{all_of}
use Rattle.meaning.specs.Sound.{At, Sound}
use Rattle.meaning.specs.Calls.{Answer, refused, accepted, Result}
use Rattle.meaning.specs.Answers.{Exports, exports_refusal, exports_answer}
use Rattle.nodehash.specs.Node.{leaf_hash, inner_hash}
use Rattle.layout.specs.Headers.{refusal, header_of}
use Rattle.layout.specs.Slots.{SlotForm}
use Rattle.layout.specs.Stores.{store_in, store_bytes, HeaderWithin, StoreForm}
use Rattle.layout.proofs.Headers.{header_refused, accepted as header-accepted}
use Rattle.layout.proofs.Stores.{store_back}
use Rattle.promises.specs.Check.{Checked}
use Rattle.promises.specs.Check as check
use Rattle.promises.specs.Calls.{SoundBytes, Does, not_checked, refuses, accepts}
use Rattle.promises.proofs.Check.{one_answer}

-- a header is not refused with 0
no_refusal : (s : Bytes) → header_of counted s ≡ refusal 0 → ⊥
no_refusal s e = ⊎_elim (λ z. omega arith) (λ z. omega arith) (header_refused counted s 0 e)

-- a sound store is in form
pub sound_form : (st : Store) → st.form ≡ counted → Sound leaf_hash inner_hash st → StoreForm st
unfolding At
sound_form st counts w =
    record {
      some = w.size.0;
      fits = w.size.1;
      ordered = w.header.0;
      number = w.header.1;
      each = all_of (SlotForm st.form) st.slots free (λ i h. go i h (get_or st.slots i free) refl);
    }
  where
    go : (i : ℕ) → i < length st.slots → (x : Slot) → get_or st.slots i free ≡ x → SlotForm st.form x
    go i h free e = tt
    go i h (used r) e = (w.formed i r (h, e), subst (λ f. FormedAs f r) (sym counts) tt)
    go i h (spoiled x) e = absurd (w.whole i x h e)

module _ {s : Bytes} where
  pub checked_sound : {r : ℕ} → Checked counted s r → r ≡ 0 → SoundBytes s
  checked_sound (check.refused m e) z = absurd (no_refusal s (e ∙ ap refusal z))
  checked_sound (check.unsound c o l e g) z = absurd (omega arith)
  checked_sound (check.sound c o l e w) z = record { capacity = c; oldest = o; latest = l; headed = e; sound = w }

  sound_checked : SoundBytes s → Checked counted s 0
  sound_checked w = check.sound w.capacity w.oldest w.latest w.headed w.sound

  -- a sound store is not refused by check
  pub sound_passes : {A : Type 0} {r : ℕ} → SoundBytes s → Checked counted s r → (r ≡ 0 → ⊥) → A
  sound_passes {r = r} w c f = absurd (f (one_answer s r 0 c (sound_checked w)))

  pub sound_long : SoundBytes s → HeaderWithin s
  sound_long w = omega (arith, (header-accepted s w.capacity w.oldest w.latest w.headed).size)

  -- the bytes are those of the store
  pub sound_back : SoundBytes s → All Byte s → store_bytes (store_in counted s) ≡ s
  sound_back w h = store_back s w.capacity w.oldest w.latest h (header-accepted s w.capacity w.oldest w.latest w.headed)

-- an answer is refused or accepted
not_answered : {A B : Type 0} {a : Answer A} {m : ℕ} {k : A} → a ≡ refused m → a ≡ accepted k → B
not_answered e f = let g = sym e ∙ f in let z : ◌≡◌ {A = ℕ} 0 1 = cc in absurd (omega arith)

module _ {A : Type 0} {call : Store → Result A} {s : Bytes} where
  -- A refusal writes nothing.
  pub refused_writes_nothing : {m : ℕ} {t : Bytes} → Does call s (refused m) t → t ≡ s
  refused_writes_nothing (not_checked c f) = refl
  refused_writes_nothing (refuses w e) = refl

  -- Two outcomes of the same call on the same bytes are equal.
  pub one_outcome : {a b : Answer A} {t u : Bytes} → Does call s a t → Does call s b u → (a ≡ b) × (t ≡ u)
  one_outcome (not_checked {m} c f) (not_checked {m = n} d g) = (ap refused (one_answer s m n c d), refl)
  one_outcome (not_checked c f) (refuses w e) = sound_passes w c f
  one_outcome (not_checked c f) (accepts w e) = sound_passes w c f
  one_outcome (refuses w e) (not_checked c f) = sound_passes w c f
  one_outcome (refuses v e) (refuses w f) = (sym e ∙ f, refl)
  one_outcome (refuses v e) (accepts w f) = not_answered e f
  one_outcome (accepts w e) (not_checked c f) = sound_passes w c f
  one_outcome (accepts v e) (refuses w f) = not_answered f e
  one_outcome (accepts v e) (accepts w f) = (sym e ∙ f, refl)

-- and so are two outcomes of it for C
same_number : {A : Type 0} {m n : ℕ} → ◌≡◌ {A = Answer A} (refused m) (refused n) → m ≡ n
same_number e = cc

same_told : {A : Type 0} (told : A → Bytes) {a b : A} → ◌≡◌ {A = Answer A} (accepted a) (accepted b) → told a ≡ told b
same_told told e = cc

module _ {A : Type 0} {call : Store → Result A} {told : A → Bytes} {s f : Bytes} where
  pub one_export : {a b : ℕ} {t u g h : Bytes} → Exports (λ x. Does call s x t) told f a g → Exports (λ x. Does call s x u) told f b h → (a ≡ b) × (t ≡ u) × (g ≡ h)
  one_export (exports_refusal x) (exports_refusal y) = let o = one_outcome x y in (same_number o.0, o.1, refl)
  one_export (exports_refusal x) (exports_answer y) = not_answered refl (one_outcome x y).0
  one_export (exports_answer x) (exports_refusal y) = not_answered refl (one_outcome y x).0
  one_export (exports_answer x) (exports_answer y) = let o = one_outcome x y in (refl, o.1, same_told told o.0)
