-- The steps of a message there and back: an inner op is its head and the sibling. Assumes nothing.
use Prim.Native.Nat.{ℕ, zero, suc, ◌+◌, ◌*◌, ◌<◌, ◌≤◌}
use native.Mathlib.Omega.{arith}
use mathlib.Core.Path.{◌≡◌, refl, ap, ap₂, sym, ◌∙◌, subst}
use mathlib.Core.Bool.{Bool, true, false, cond}
use mathlib.Core.List.{List, [], ◌∷◌, ◌++◌, append-nil}
use mathlib.Core.Option.{Option, none, some, some-injective}
use lib.ListN.{length, take, drop, length-append, length-drop, take-append-drop}
use lib.Dec.{eqb}
use borrow.Author.Tests.{eqb-true, ne_eqb}
use Rattle.terms.specs.Bits.{Bytes, Byte, All, Side, Whole32, same_bytes}
use Rattle.terms.specs.Records.{Step}
use Rattle.terms.proofs.Tests.{and_left, and_right, same_bytes_lem}
use Rattle.terms.proofs.Lists.{all_drop}
use Rattle.proofrecords.specs.ProofBytes.{StepForm}
use Rattle.messages.specs.Wire.{varint_in, varint, bytes_tag, message_field, bytes_field, number_field}
use Rattle.messages.specs.Message.{inner_bytes}
use Rattle.messages.specs.Raws.{inner_op, path}
use Rattle.messages.specs.Reading.{onward, only_if, field_from, left_head, right_head, headed, step_in, path_in}
use Rattle.messages.proofs.Wires.{onward_some, only_if_some, field_is, field_back, field_said, length_field, no_bytes}

abbrev step : Side → Bytes → Step
step b x = record { side = b; sibling = x }

abbrev pub head_of : Side → Bytes
head_of false = left_head
head_of true = right_head

pub inner_is : (b : Side) (x : Bytes) → length x ≡ 32 → inner_op (step b x) ≡ head_of b ++ x
unfolding inner_bytes varint_in varint bytes_tag message_field bytes_field number_field
inner_is false x h = rw (h, append-nil x)
inner_is true x h = rw (h, append-nil x)

head_is_lem : (b : Side) (x : Bytes) → length x ≡ 32 → step_in (head_of b ++ x) ≡ some (step b x)
unfolding step_in only_if
head_is_lem false x h = rw h
head_is_lem true x h = rw h

pub step_back : (s : Step) → StepForm s → step_in (inner_op s) ≡ some s
step_back s h = ap step_in (inner_is s.side s.sibling h.0) ∙ head_is_lem s.side s.sibling h.0

headed_said : (b : Side) (n : ℕ) (x : Bytes) → length (head_of b) ≡ n → All Byte x → headed (head_of b) x ≡ true →
    (inner_op (step b (drop n x)) ≡ x) × Whole32 (drop n x)
headed_said b n x k h e =
    let sized = eqb (length x) (length (head_of b) + 32) in
    let begun = same_bytes (take (length (head_of b)) x) (head_of b) in
    let l : length x ≡ length (head_of b) + 32 = eqb-true (length x) (length (head_of b) + 32) (and_left sized begun e) in
    let t : take (length (head_of b)) x ≡ head_of b = same_bytes_lem (take (length (head_of b)) x) (head_of b) (and_right sized begun e) in
    let w : length (drop n x) ≡ 32 = simp length-drop (omega arith) in
    let u : take n x ≡ head_of b = ap (λ i. take i x) (sym k) ∙ t in
    (inner_is b (drop n x) w ∙ ap (◌++ drop n x) (sym u) ∙ take-append-drop n x, (w, all_drop Byte n x h))

pub step_said : (x : Bytes) (s : Step) → All Byte x → step_in x ≡ some s → (inner_op s ≡ x) × StepForm s
unfolding step_in
step_said x s h = go (headed left_head x) refl
  where
    go : (t : Bool) → headed left_head x ≡ t →
        cond t (some (step false (drop 7 x))) (only_if (headed right_head x) (some (step true (drop 5 x)))) ≡ some s → (inner_op s ≡ x) × StepForm s
    go true t e =
        subst (λ r. (inner_op r ≡ x) × StepForm r) (some-injective (step false (drop 7 x)) s e) (headed_said false 7 x refl h t)
    go false t e =
        let w = only_if_some (headed right_head x) (some (step true (drop 5 x))) s e in
        subst (λ r. (inner_op r ≡ x) × StepForm r) (some-injective (step true (drop 5 x)) s w.1) (headed_said true 5 x refl h w.0)

pub length_inner : (s : Step) → StepForm s → length (inner_op s) ≤ 39
length_inner s h = go s.side s.sibling h.0
  where
    go : (b : Side) (x : Bytes) → length x ≡ 32 → length (inner_op (step b x)) ≤ 39
    go false x e = rw (inner_is false x e) (omega arith)
    go true x e = rw (inner_is true x e) (omega arith)

-- a path there and back
pub path_back : (n : ℕ) (steps : List Step) → length steps ≤ n → All StepForm steps → path_in n (path steps) ≡ some steps
unfolding onward only_if
path_back zero [] l h = refl
path_back zero (s ∷ steps) l h = absurd (omega arith)
path_back (suc n) [] l h = refl
path_back (suc n) (s ∷ steps) l h =
    let i = length_inner s h.0 in
    let f = field_is 4 (inner_op s) (path steps) (omega arith) in
    rw (
      ne_eqb (length (message_field 4 (inner_op s) ++ path steps)) 0 (λ z. omega (arith, ap length f)),
      field_back 4 (inner_op s) (path steps) (omega arith) (omega arith),
      step_back s h.0,
      path_back n steps (omega arith) h.1,
    )

pub record PathSaid (n : ℕ) (m : Bytes) (steps : List Step) : Type 0 where
  pub is : path steps ≡ m
  pub short : length steps ≤ n
  pub each32 : All StepForm steps

no_path : (n : ℕ) (m : Bytes) (steps : List Step) → length m ≡ 0 → some [] ≡ some steps → PathSaid n m steps
no_path n m steps e s =
    subst (PathSaid n m) (some-injective [] steps s) (record { is = sym (no_bytes m e); short = omega arith; each32 = tt })

pub path_said : (n : ℕ) (m : Bytes) (steps : List Step) → All Byte m → path_in n m ≡ some steps → PathSaid n m steps
path_said zero m steps h e =
    let w = only_if_some (eqb (length m) 0) (some []) steps e in no_path zero m steps (eqb-true _ _ w.0) w.1
path_said (suc n) m steps h e = go (eqb (length m) 0) refl (λ x more. path_said n x more) e
  where
    rest : Bytes × Bytes → Option (List Step)
    rest x = onward (step_in x.0) λ s. onward (path_in n x.1) λ more. some (s ∷ more)

    go : (t : Bool) → eqb (length m) 0 ≡ t → ((x : Bytes) (more : List Step) → All Byte x → path_in n x ≡ some more → PathSaid n x more) →
        cond t (some []) (onward (field_from 4 m) rest) ≡ some steps → PathSaid (suc n) m steps
    go true t said e = no_path (suc n) m steps (eqb-true _ _ t) e
    go false t said e =
        let a = onward_some (field_from 4 m) rest steps e in
        let x = a.0 in
        let f = field_said 4 m x (omega arith) h a.1 in
        let b = onward_some (step_in x.0) (λ s. onward (path_in n x.1) λ more. some (s ∷ more)) steps a.2 in
        let s = b.0 in
        let d = onward_some (path_in n x.1) (λ more. some (s ∷ more)) steps b.2 in
        let q = step_said x.0 s f.inside b.1 in
        let p = said x.1 d.0 f.after d.1 in
        subst (PathSaid (suc n) m) (some-injective (s ∷ d.0) steps d.2)
        (record {
          is = ap₂ (λ u v. message_field 4 u ++ v) q.0 p.is ∙ sym f.is;
          short = omega (arith, p.short);
          each32 = (q.1, p.each32);
        })

pub length_path : (steps : List Step) → All StepForm steps → length (path steps) ≤ 41 * length steps
length_path [] h = omega arith
length_path (s ∷ steps) h =
    let i = length_inner s h.0 in
    simp length-append (omega (arith, length_field 0 4 (inner_op s) (omega arith) (omega arith) (omega arith), length_path steps h.1))
