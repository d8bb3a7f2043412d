-- What a run asks for a key, and what it inserts beside it: records are looked at one after the other. Assumes nothing.
use Prim.Native.Nat.{ℕ, ◌+◌, ◌<◌, ◌≤◌}
use native.Mathlib.Omega.{arith}
use mathlib.Core.Path.{◌≡◌, refl, ap, sym, ◌∙◌}
use mathlib.Core.Bool.{true, false, cond, not, true≢false, false≢true}
use mathlib.Core.List.{List, [], ◌∷◌, ◌++◌}
use mathlib.Core.Option.{some}
use lib.ListN.{length, take, drop, length-drop, drop_of_length-le}
use lib.Seq.{drop_at, take_all}
use Rattle.terms.specs.Bits.{Bytes, filter, same_bytes}
use Rattle.terms.specs.Records.{Ask, insert, delete, ask_key}
use Rattle.hash.specs.declared.Hash.{Hash}
use Rattle.hash.specs.Hash.{hash_bytes}
use Rattle.batch.specs.Batch.{count, asks}
use Rattle.batch.specs.Records.{ask_at, ask_value, inserts}
use Rattle.batch.proofs.Records.{asks_from, length_asks, length_key}
use Rattle.steps.specs.Step as step
use Rattle.apply_alone.specs.declared.Own.TheVariants.{Insert, Delete}
use Rattle.apply_alone.specs.Alone.{OwnSays}
use Rattle.apply_leaf.specs.Leaf.{is_more}

-- the key of a record by its bytes
pub key_says : (g : Bytes) (h : Hash) (k x : Bytes) → hash_bytes h ≡ take 32 (drop 0 g) → g ≡ k → length g ≡ 32 → same_bytes (hash_bytes h) x ≡ same_bytes k x
key_says g h k x e f l = ap (λ y. same_bytes y x) (e ∙ take_all 32 g (omega arith) ∙ f)

-- up to record i the answer is that of the rest
pub record Looking {A : Type 0} (f : List Ask → A) (run : Bytes) (n i : ℕ) : Type 0 where
  pub many : n ≡ count run
  pub within : i ≤ n
  pub rest : f (asks run) ≡ f (drop i (asks run))

module _ {A : Type 0} (f : List Ask → A) (run : Bytes) {n i : ℕ} (w : Looking f run n i) where
  here : i < n → f (asks run) ≡ f (ask_at i run ∷ drop (i + 1) (asks run))
  here l = w.rest ∙ ap f (asks_from i run (omega (arith, w.many)))

  pub look_on : i < n → f (ask_at i run ∷ drop (i + 1) (asks run)) ≡ f (drop (i + 1) (asks run)) → Looking f run n (i + 1)
  look_on l e = record { many = w.many; within = omega arith; rest = here l ∙ e }

  pub look_end : n ≤ i → f (asks run) ≡ f []
  look_end l = w.rest ∙ ap f (drop_of_length-le (asks run) {i = i} (omega (arith, length_asks run, w.many)))

-- what it asks for the key
module _ (k : Bytes) where
  pub own_else : (a : Ask) (as' : List Ask) → same_bytes (ask_key a) k ≡ false → step.own_ask k (a ∷ as') ≡ step.own_ask k as'
  own_else a as' e = rw e

  own_here : (a : Ask) (as' : List Ask) → same_bytes (ask_key a) k ≡ true → step.own_ask k (a ∷ as') ≡ some a
  own_here a as' e = rw e

  pub own_insert : (run : Bytes) {n i : ℕ} → Looking (step.own_ask k) run n i → i < n → same_bytes (ask_key (ask_at i run)) k ≡ true →
      inserts (ask_at i run) ≡ true → (g : Bytes) (x : Hash) → g ≡ ask_key (ask_at i run) ++ ask_value (ask_at i run) → length g ≡ 64 →
      hash_bytes x ≡ take 32 (drop 32 g) → OwnSays (Insert x) (step.own_ask k (asks run))
  own_insert run {n} {i} w l e t g x p m q =
      go (ask_at i run) t p (length_key i run (omega (arith, w.many))) (here (step.own_ask k) run w l ∙ own_here (ask_at i run) (drop (i + 1) (asks run)) e)
    where
      go : (a : Ask) → inserts a ≡ true → g ≡ ask_key a ++ ask_value a → length (ask_key a) ≡ 32 → step.own_ask k (asks run) ≡ some a →
          OwnSays (Insert x) (step.own_ask k (asks run))
      go (insert y z) t f b o =
          let d : drop 32 g ≡ z = ap (drop 32) f ∙ drop_at y z 32 b in
          let u : z ≡ hash_bytes x = sym (q ∙ ap (take 32) d ∙ take_all 32 z (omega (arith, ap length (sym d), length-drop 32 g))) in
          (y, o ∙ ap (λ v. some (insert y v)) u)
      go (delete y) t f b o = absurd (false≢true t)

  pub own_delete : (run : Bytes) {n i : ℕ} → Looking (step.own_ask k) run n i → i < n → same_bytes (ask_key (ask_at i run)) k ≡ true →
      inserts (ask_at i run) ≡ false → OwnSays Delete (step.own_ask k (asks run))
  own_delete run {n} {i} w l e t =
      go (ask_at i run) t (here (step.own_ask k) run w l ∙ own_here (ask_at i run) (drop (i + 1) (asks run)) e)
    where
      go : (a : Ask) → inserts a ≡ false → step.own_ask k (asks run) ≡ some a → OwnSays Delete (step.own_ask k (asks run))
      go (insert y z) t o = absurd (true≢false t)
      go (delete y) t o = (y, o)

  -- what it inserts beside it
  pub more_delete : (a : Ask) (as' : List Ask) → inserts a ≡ false → step.other_inserts k (a ∷ as') ≡ step.other_inserts k as'
  more_delete (insert y z) as' e = absurd (true≢false e)
  more_delete (delete y) as' e =
      elim (same_bytes y k) as (λ b. step.inserts (cond (not b) (delete y ∷ filter (step.asks_else k) as') (filter (step.asks_else k) as')) ≡ step.other_inserts k as')
      [ true ↦ refl | false ↦ refl ]

  pub more_own : (a : Ask) (as' : List Ask) → same_bytes (ask_key a) k ≡ true → step.other_inserts k (a ∷ as') ≡ step.other_inserts k as'
  more_own a as' e = rw e

  pub more_here : (run : Bytes) {n i : ℕ} → Looking (step.other_inserts k) run n i → i < n → inserts (ask_at i run) ≡ true →
      same_bytes (ask_key (ask_at i run)) k ≡ false → true ≡ is_more (step.other_inserts k (asks run))
  more_here run {n} {i} w l t e = go (ask_at i run) t e (here (step.other_inserts k) run w l)
    where
      go : (a : Ask) → inserts a ≡ true → same_bytes (ask_key a) k ≡ false → step.other_inserts k (asks run) ≡ step.other_inserts k (a ∷ drop (i + 1) (asks run)) →
          true ≡ is_more (step.other_inserts k (asks run))
      go (insert y z) t e o = sym (ap is_more o ∙ rw e)
      go (delete y) t e o = absurd (false≢true t)
