-- What is told of bytes as a shelf's proof is exactly what the tests read from them: bytes are a proof exactly if they are
-- read as it, and it holds exactly if it is accepted. Assumes nothing.
use Prim.Native.Nat.{ℕ, ◌≤◌, ◌<◌}
use native.Mathlib.Omega.{arith}
use mathlib.Core.Path.{◌≡◌, refl, ap, ap₂, sym, ◌∙◌, subst}
use mathlib.Core.Logic.{◌↔◌}
use mathlib.Core.Bool.{Bool, true, false, cond, ◌&&◌}
use mathlib.Core.List.{◌++◌}
use mathlib.Core.Option.{Option, none, some}
use lib.ListN.{length}
use lib.Dec.{eqb, leb}
use borrow.Author.Tests.{eqb-true, eqb-false, leb-true, leb-false}
use Rattle.terms.specs.Bits.{Bytes, Byte, All}
use Rattle.meaning.specs.Calls.{Answer, refused, accepted}
use Rattle.meaning.specs.Reading.{Verdict}
use Rattle.meaning.specs.Answers.{found_bytes, Exported}
use Rattle.meaning.proofs.Told.{exports}
use Rattle.verify_rules.specs.Verify.{Sizes32}
use Rattle.shelf_rules.specs.Shelf.{ShelfProof, no_part, in_part, ShelfIs, alone, both, ShelfHolds, ShelfTold, not_32_bytes, too_many_bits, not_in_form, not_holding, holding, ShelfVerifies}
use Rattle.shelf_rules.specs.Reading.{shelf_bytes, ShelfForm, shelf_in, shelf_checked, shelf_judged, shelf_verified}
use Rattle.shelf_rules.proofs.Records.{shelf_back, shelf_bytes_lem}
use Rattle.shelf_rules.proofs.Theorems.{shelf_accepted_exactly_if_holds, shelf_refused_with_11}

not_both : {A : Type 0} {n : ℕ} {v : Verdict} → ◌≡◌ {A = Answer Verdict} (refused n) (accepted v) → A
not_both e = let z : ◌≡◌ {A = ℕ} 0 1 = cc in absurd (omega arith)

-- bytes are a proof exactly if they are the bytes of one in form,
pub shelf_in_form : {x : Bytes} {p : ShelfProof} → ShelfIs x p → (x ≡ shelf_bytes p) × ShelfForm p
shelf_in_form (alone h) = (h.bytes, h.form)
shelf_in_form (both h i) = (ap₂ ◌++◌ h.bytes i.bytes, (h.form, i.form))

pub in_form_shelf : {x : Bytes} (p : ShelfProof) → x ≡ shelf_bytes p → ShelfForm p → ShelfIs x p
in_form_shelf (no_part a) e h = alone (record { bytes = e; form = h })
in_form_shelf (in_part p q) e (h, i) =
    subst (λ z. ShelfIs z (in_part p q)) (sym e) (both (record { bytes = refl; form = h }) (record { bytes = refl; form = i }))

-- which is exactly if they are read as it, and one at most
module _ (x : Bytes) where
  shelf_read_as : (p : ShelfProof) → ShelfIs x p → shelf_in x ≡ some p
  shelf_read_as p w = let u = shelf_in_form w in ap shelf_in u.0 ∙ shelf_back p u.1

  shelf_is : All Byte x → (p : ShelfProof) → shelf_in x ≡ some p → ShelfIs x p
  shelf_is bytes p e = let w = shelf_bytes_lem x bytes p e in in_form_shelf p (sym w.1) w.0

  no_shelf_is : shelf_in x ≡ none → (p : ShelfProof) → ShelfIs x p → ⊥
  no_shelf_is e p w = none_some (sym e ∙ shelf_read_as p w)
    where
      none_some : none ≡ some p → ⊥
      none_some z = let y : ◌≡◌ {A = ℕ} 0 1 = cc in omega arith

  pub one_shelf_is : (p q : ShelfProof) → ShelfIs x p → ShelfIs x q → p ≡ q
  one_shelf_is p q v w = same (sym (shelf_read_as p v) ∙ shelf_read_as q w)
    where
      same : some p ≡ some q → p ≡ q
      same e = cc

module _ (root : Bytes) (b : ℕ) (k x : Bytes) where
  -- What is read is told,
  shelf_read_told : All Byte x → ShelfTold root b k x (shelf_verified root b k x)
  unfolding shelf_verified
  shelf_read_told bytes = sizes (eqb (length root) 32) (eqb (length k) 32) refl refl
    where
      held : Sizes32 root k → b ≤ 12 → (p : ShelfProof) → ShelfIs x p → (a : Answer Verdict) → shelf_checked root b k p ≡ a → ShelfTold root b k x a
      held s l p w (refused n) e =
          subst (λ m. ShelfTold root b k x (refused m)) (sym (shelf_refused_with_11 root b k p e))
          (not_holding s l w (λ v h. not_both (sym e ∙ (shelf_accepted_exactly_if_holds root b k p v).1 h)))
      held s l p w (accepted v) e = holding s l w ((shelf_accepted_exactly_if_holds root b k p v).0 e)

      form : Sizes32 root k → b ≤ 12 → (o : Option ShelfProof) → shelf_in x ≡ o → ShelfTold root b k x (shelf_judged root b k o)
      form s l none e = not_in_form s l (no_shelf_is x e)
      form s l (some p) e = held s l p (shelf_is x bytes p e) (shelf_checked root b k p) refl

      few : Sizes32 root k → (c : Bool) → leb b 12 ≡ c → ShelfTold root b k x (cond c (shelf_judged root b k (shelf_in x)) (refused 21))
      few s true e = form s (leb-true b 12 e) (shelf_in x) refl
      few s false e = too_many_bits s (leb-false b 12 e)

      sizes : (c d : Bool) → eqb (length root) 32 ≡ c → eqb (length k) 32 ≡ d →
          ShelfTold root b k x (cond (c && d) (cond (leb b 12) (shelf_judged root b k (shelf_in x)) (refused 21)) (refused 12))
      sizes false d e f = not_32_bytes (λ s. eqb-false (length root) 32 e s.0)
      sizes true false e f = not_32_bytes (λ s. eqb-false (length k) 32 f s.1)
      sizes true true e f = few (eqb-true (length root) 32 e, eqb-true (length k) 32 f) (leb b 12) refl

  -- and one answer alone is:
  only_12 : {a : Answer Verdict} → (Sizes32 root k → ⊥) → ShelfTold root b k x a → refused 12 ≡ a
  only_12 n (not_32_bytes m) = refl
  only_12 n (too_many_bits s m) = absurd (n s)
  only_12 n (not_in_form s l m) = absurd (n s)
  only_12 n (not_holding s l w m) = absurd (n s)
  only_12 n (holding s l w h) = absurd (n s)

  only_21 : {a : Answer Verdict} → Sizes32 root k → 12 < b → ShelfTold root b k x a → refused 21 ≡ a
  only_21 s m (not_32_bytes n) = absurd (n s)
  only_21 s m (too_many_bits t n) = refl
  only_21 s m (not_in_form t l n) = absurd (omega arith)
  only_21 s m (not_holding t l w n) = absurd (omega arith)
  only_21 s m (holding t l w h) = absurd (omega arith)

  only_10 : {a : Answer Verdict} → Sizes32 root k → b ≤ 12 → ((p : ShelfProof) → ShelfIs x p → ⊥) → ShelfTold root b k x a → refused 10 ≡ a
  only_10 s l n (not_32_bytes m) = absurd (m s)
  only_10 s l n (too_many_bits t m) = absurd (omega arith)
  only_10 s l n (not_in_form t i m) = refl
  only_10 s l n (not_holding {p} t i w m) = absurd (n p w)
  only_10 s l n (holding {p} t i w h) = absurd (n p w)

  fails : (p : ShelfProof) → ((v : Verdict) → ShelfHolds root b k p v → ⊥) → shelf_checked root b k p ≡ refused 11
  fails p n = go (shelf_checked root b k p) refl
    where
      go : (a : Answer Verdict) → shelf_checked root b k p ≡ a → shelf_checked root b k p ≡ refused 11
      go (refused m) e = e ∙ ap refused (shelf_refused_with_11 root b k p e)
      go (accepted v) e = absurd (n v ((shelf_accepted_exactly_if_holds root b k p v).0 e))

  only_what_holds : {a : Answer Verdict} {p : ShelfProof} → Sizes32 root k → b ≤ 12 → ShelfIs x p → ShelfTold root b k x a → shelf_checked root b k p ≡ a
  only_what_holds s l v (not_32_bytes m) = absurd (m s)
  only_what_holds s l v (too_many_bits t m) = absurd (omega arith)
  only_what_holds {p = p} s l v (not_in_form t i m) = absurd (m p v)
  only_what_holds {p = p} s l v (not_holding {p = q} t i w m) = ap (shelf_checked root b k) (one_shelf_is x p q v w) ∙ fails q m
  only_what_holds {p = p} s l v (holding {p = q} {v = y} t i w h) =
      ap (shelf_checked root b k) (one_shelf_is x p q v w) ∙ (shelf_accepted_exactly_if_holds root b k q y).1 h

  pub one_shelf_told : (a c : Answer Verdict) → ShelfTold root b k x a → ShelfTold root b k x c → a ≡ c
  one_shelf_told _ c (not_32_bytes n) t = only_12 n t
  one_shelf_told _ c (too_many_bits s m) t = only_21 s m t
  one_shelf_told _ c (not_in_form s l n) t = only_10 s l n t
  one_shelf_told _ c (not_holding {p} s l w n) t = sym (fails p n) ∙ only_what_holds s l w t
  one_shelf_told _ c (holding {p} {v} s l w h) t = sym ((shelf_accepted_exactly_if_holds root b k p v).1 h) ∙ only_what_holds s l w t

  -- so what is told is exactly what is read.
  pub shelf_told_exactly : All Byte x → (a : Answer Verdict) → ShelfTold root b k x a ↔ (a ≡ shelf_verified root b k x)
  shelf_told_exactly bytes a = (
    λ t. one_shelf_told a (shelf_verified root b k x) t (shelf_read_told bytes),
    λ e. subst (ShelfTold root b k x) (sym e) (shelf_read_told bytes),
  )

  -- A check that answers what is read keeps its contract.
  pub shelf_verifies : {f g : Bytes} {r : ℕ} → All Byte x → Exported (shelf_verified root b k x) found_bytes f r g → ShelfVerifies root b k x f r g
  shelf_verifies bytes e = exports (shelf_verified root b k x) (shelf_read_told bytes) e
