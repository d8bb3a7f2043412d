-- What check answers is one number, and 0 exactly if the store is sound. Assumes nothing.
use Prim.Native.Nat.{ℕ, ◌≤◌}
use native.Mathlib.Omega.{arith}
use mathlib.Core.Path.{◌≡◌, refl}
use mathlib.Core.Logic.{◌↔◌, ⊎_elim}
use Rattle.terms.specs.declared.Form.{Form}
use Rattle.terms.specs.Bits.{Bytes}
use Rattle.meaning.specs.Sound.{Sound}
use Rattle.nodehash.specs.Node.{leaf_hash, inner_hash}
use Rattle.layout.specs.Headers.{Headed, refusal, header, header_of}
use Rattle.layout.specs.Stores.{store_in}
use Rattle.layout.proofs.Headers.{header_refused}
use Rattle.promises.specs.Check.{Checked, refused, unsound, sound}

no_header : {A : Type 0} {x : Headed} {n m o l : ℕ} → x ≡ refusal n → x ≡ header m o l → A
no_header e f = let z : ◌≡◌ {A = ℕ} 0 1 = cc in absurd (omega arith)

-- Two answers that check may give are equal.
pub one_answer : {fm : Form} (s : Bytes) (a b : ℕ) → Checked fm s a → Checked fm s b → a ≡ b
one_answer s a b (refused n e) (refused m f) = cc
one_answer s a b (refused n e) (unsound m o l f x) = no_header e f
one_answer s a b (refused n e) (sound m o l f x) = no_header e f
one_answer s a b (unsound m o l f x) (refused n e) = no_header e f
one_answer s a b (unsound m o l f x) (unsound n p q g y) = refl
one_answer s a b (unsound m o l f x) (sound n p q g y) = absurd (x y)
one_answer s a b (sound m o l f x) (refused n e) = no_header e f
one_answer s a b (sound m o l f x) (unsound n p q g y) = absurd (y x)
one_answer s a b (sound m o l f x) (sound n p q g y) = refl

refusals_count : (fm : Form) (s : Bytes) (n : ℕ) → header_of fm s ≡ refusal n → 1 ≤ n
refusals_count fm s n e = ⊎_elim (λ z. omega arith) (λ z. omega arith) (header_refused fm s n e)

-- The answer is 0 exactly if size and header are right and the store is sound.
pub accepted_exactly_if_sound : {fm : Form} (s : Bytes) (a : ℕ) → Checked fm s a →
    (a ≡ 0) ↔ ((n : ℕ) × (o : ℕ) × (l : ℕ) × (header_of fm s ≡ header n o l) × Sound leaf_hash inner_hash (store_in fm s))
accepted_exactly_if_sound {fm} s a (refused n e) = (λ z. absurd (omega (arith, refusals_count fm s n e)), λ w. no_header e w.3)
accepted_exactly_if_sound {fm} s a (unsound n o l e f) = (λ z. absurd (omega arith), λ w. absurd (f w.4))
accepted_exactly_if_sound {fm} s a (sound n o l e f) = (λ z. (n, o, l, e, f), λ w. refl)
