-- Which comparisons are refused before any walk: by check, or since a version isn't kept. Assumes nothing.
use Prim.Native.Nat.{ℕ, ◌*◌}
use native.Mathlib.Omega.{arith}
use mathlib.Core.Path.{◌≡◌, refl, ap, sym, ◌∙◌}
use mathlib.Core.Bool.{Bool, true, false, cond, ◌&&◌}
use mathlib.Core.List.{[], ◌∷◌}
use lib.ListN.{length}
use lib.Dec.{ltb}
use Rattle.terms.specs.Bits.{Bytes}
use Rattle.terms.specs.Records.{Store}
use Rattle.meaning.specs.Calls.{Answer, refused, accepted, refuse, is_kept}
use Rattle.layout.specs.Stores.{store_of}
use Rattle.promises.specs.Headed.{by_header}
use Rattle.promises.specs.Calls.{SoundBytes, Does}
use Rattle.read_open.specs.Opening.{opened}
use Rattle.changed.specs.Changes.{items, item_size}
use Rattle.changed.specs.Compare.{changes_of, visits_of, compare}
use Rattle.changes_kept.specs.Parts.{Compares}
use Rattle.changes_kept.proofs.Answers.{refuse_with}

-- 8 in the definition
module _ (first second limit room : ℕ) (st : Store) where
  first_not_kept : is_kept st first ≡ false → compare first second limit room st ≡ refuse 8 st
  unfolding compare
  first_not_kept e = rw e

  second_not_kept : is_kept st second ≡ false → compare first second limit room st ≡ refuse 8 st
  unfolding compare
  second_not_kept e = rw e (go (is_kept st first))
    where
      go : (b : Bool) → cond (b && false)
          (cond (ltb limit (visits_of st first second)) (refuse 13 st)
          (cond (ltb room (item_size * length (items (changes_of st first second)))) (refuse 9 st)
          (record { answer = accepted (items (changes_of st first second)); store = st })))
          (refuse 8 st) ≡ refuse 8 st
      go true = refl
      go false = refl

-- a version is kept, as a read tests it
module _ {s : Bytes} (w : SoundBytes s) (v : ℕ) where
  opened_is : {a : Answer (Unit {0})} → a ≡ opened s v → a ≡ cond (is_kept (store_of s) v) (accepted tt) (refused 8)
  unfolding opened
  opened_is e = e ∙ ap (λ h. by_header h (cond (is_kept (store_of s) v) (accepted (tt {0})) (refused 8))) w.headed

  pub is_kept_lem : accepted tt ≡ opened s v → is_kept (store_of s) v ≡ true
  is_kept_lem e = go (is_kept (store_of s) v) refl (opened_is e)
    where
      go : (b : Bool) → is_kept (store_of s) v ≡ b → accepted (tt {0}) ≡ cond b (accepted (tt {0})) (refused 8) → is_kept (store_of s) v ≡ true
      go true f h = f
      go false f h = let z : ◌≡◌ {A = ℕ} 0 1 = cc in absurd (omega arith)

  -- of a sound store a version can only be refused with 8
  pub not_kept : {n : ℕ} → refused n ≡ opened s v → (n ≡ 8) × (is_kept (store_of s) v ≡ false)
  not_kept {n} e = go (is_kept (store_of s) v) refl (opened_is e)
    where
      go : (b : Bool) → is_kept (store_of s) v ≡ b → refused n ≡ cond b (accepted (tt {0})) (refused 8) → (n ≡ 8) × (is_kept (store_of s) v ≡ false)
      go true f h = let z : ◌≡◌ {A = ℕ} 0 1 = cc in absurd (omega arith)
      go false f h = (cc, f)

module _ {s : Bytes} (w : SoundBytes s) (first second limit : ℕ) (room : Bytes) where
  pub first_refused : {n : ℕ} → (n ≡ 8) × (is_kept (store_of s) first ≡ false) → Compares first second limit s room (refused n) room
  first_refused (n, e) = rw n (refuse_with w first second limit room (first_not_kept first second limit (length room) (store_of s) e) refl)

  pub second_refused : {n : ℕ} → (n ≡ 8) × (is_kept (store_of s) second ≡ false) → Compares first second limit s room (refused n) room
  second_refused (n, e) = rw n (refuse_with w first second limit room (second_not_kept first second limit (length room) (store_of s) e) refl)

-- 1, 2 and 3 come from check
pub refused_by_check : {first second limit m : ℕ} {s room : Bytes} → Does (compare first second limit (length room)) s (refused m) s →
    Compares first second limit s room (refused m) room
refused_by_check {m = m} d = record { answer = refused m; does = d; says = refl; bytes = refl }
