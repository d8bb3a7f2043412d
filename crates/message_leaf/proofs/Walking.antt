-- A path step by step: what was walked stands before what is left of it. Assumes nothing.
use Prim.Native.Nat.{ℕ, zero, suc, ◌+◌, ◌-◌, ◌<◌, ◌≤◌}
use native.Mathlib.Omega.{arith}
use Rattle.std.specs.declared.option.Option as option
use Rattle.std.specs.Prelude.{Some, None, is_some}
use mathlib.Core.Path.{◌≡◌, refl, ap, sym, ◌∙◌, subst}
use mathlib.Core.Bool.{Bool, true, false, cond, false≢true}
use mathlib.Core.List.{List, [], ◌∷◌, ◌++◌, append-nil}
use mathlib.Core.Option.{Option, none, some, some-injective, none-ne-some}
use lib.ListN.{length, drop, length-append, length-drop}
use lib.Seq.{append_snoc}
use borrow.Author.Tests.{ne_eqb, eq-eqb}
use Rattle.terms.specs.Bits.{Bytes}
use Rattle.terms.specs.Fields.{slice}
use Rattle.terms.specs.Records.{Step}
use Rattle.messages.specs.Reading.{onward, only_if, field_from, step_in, path_in}
use Rattle.message_fields.specs.declared.Part.{Part}
use Rattle.message_fields.specs.Standing.{Stands, step_by}
use Rattle.message_leaf.specs.Shown.{Stepped, steps_of, steps_from, Walks}

-- a path by its first step
step_on : (n : ℕ) (m : Bytes) (f : Bytes × Bytes) (s : Step) → 0 < length m → field_from 4 m ≡ some f → step_in f.0 ≡ some s →
    path_in (suc n) m ≡ onward (path_in n f.1) (λ steps. some (s ∷ steps))
unfolding onward
step_on n m f s l e k = rw (ne_eqb (length m) 0 (λ z. omega arith), e, k)

no_step : (n : ℕ) (m : Bytes) (f : Bytes × Bytes) → 0 < length m → field_from 4 m ≡ some f → step_in f.0 ≡ none → path_in n m ≡ none
unfolding onward only_if
no_step zero m f l e k = rw (ne_eqb (length m) 0 (λ z. omega arith))
no_step (suc n) m f l e k = rw (ne_eqb (length m) 0 (λ z. omega arith), e, k)

no_field : (n : ℕ) (m : Bytes) → 0 < length m → field_from 4 m ≡ none → path_in n m ≡ none
unfolding onward only_if
no_field zero m l e = rw (ne_eqb (length m) 0 (λ z. omega arith))
no_field (suc n) m l e = rw (ne_eqb (length m) 0 (λ z. omega arith), e)

too_many : (m : Bytes) → 0 < length m → path_in 0 m ≡ none
unfolding only_if
too_many m l = rw (ne_eqb (length m) 0 (λ z. omega arith))

at_end : (n : ℕ) (m : Bytes) → length m ≡ 0 → path_in n m ≡ some []
unfolding only_if
at_end zero m l = rw l
at_end (suc n) m l = rw l

-- steps that were walked before
abbrev pub after : List Step → List Step → Option (List Step)
after done more = some (done ++ more)

after_none : (o : Option (List Step)) → o ≡ onward o (after [])
unfolding onward
after_none none = refl
after_none (some steps) = refl

after_one : (o : Option (List Step)) (done : List Step) (s : Step) →
    onward (onward o (λ steps. some (s ∷ steps))) (after done) ≡ onward o (after (done ++ (s ∷ [])))
unfolding onward
after_one none done s = refl
after_one (some more) done s = ap some (sym (append_snoc done s more))

onward_none : (f : List Step → Option (List Step)) (o : Option (List Step)) → o ≡ none → onward o f ≡ none
unfolding onward
onward_none f o e = rw e

-- The path from `from` on, of which `count` steps are walked up to `at`.
pub record Walking (x : Bytes) (from at count : ℕ) : Type 0 where
  pub done : List Step
  pub within : at ≤ length x
  pub few : count ≤ 256
  pub done_are : length done ≡ count
  pub is : path_in 256 (drop from x) ≡ onward (path_in (256 - count) (drop at x)) (after done)

pub walk_start : (x : Bytes) (from : ℕ) → from ≤ length x → Walking x from from 0
walk_start x from h = record { done = []; within = h; few = omega arith; done_are = refl; is = after_none (path_in 256 (drop from x)) }

left_over : (x : Bytes) (at : ℕ) → at < length x → 0 < length (drop at x)
left_over x at h = simp length-drop (omega arith)

one_less : (count : ℕ) → count < 256 → 256 - count ≡ suc (256 - (count + 1))
one_less count h = omega arith

module _ {x : Bytes} {from at count : ℕ} (w : Walking x from at count) (l : at < length x) where
  pub walk_further : {part : Part} {s : Step} → count < 256 → Stands 4 x at (Some part) →
      step_in (slice part.from (part.to - part.from) x) ≡ some s → (v : Walking x from part.to (count + 1)) × (v.done ≡ w.done ++ (s ∷ []))
  walk_further {part} {s} c f k =
      let b = slice part.from (part.to - part.from) x in
      let o = path_in (256 - (count + 1)) (drop part.to x) in
      let d = w.done_are in (
        record {
          done = w.done ++ (s ∷ []);
          within = (f.inside part refl).2;
          few = omega arith;
          done_are = simp length-append (omega arith);
          is =
              w.is
              ∙ ap (λ n. onward (path_in n (drop at x)) (after w.done)) (one_less count c)
              ∙ ap (λ p. onward p (after w.done)) (step_on (256 - (count + 1)) (drop at x) (b, drop part.to x) s (left_over x at l) f.is k)
              ∙ after_one o w.done s;
        },
        refl,
      )

  pub walk_next : {part : Part} {s : Step} → count < 256 → Stands 4 x at (Some part) →
      step_in (slice part.from (part.to - part.from) x) ≡ some s → Walking x from part.to (count + 1)
  walk_next c f k = (walk_further c f k).0

  pub path_too_long : 256 ≤ count → path_in 256 (drop from x) ≡ none
  path_too_long h =
      let k = w.few in
      let z : 256 - count ≡ 0 = omega arith in
      w.is ∙ onward_none (after w.done) (path_in (256 - count) (drop at x)) (ap (λ n. path_in n (drop at x)) z ∙ too_many (drop at x) (left_over x at l))

  pub path_no_field : Stands 4 x at None → path_in 256 (drop from x) ≡ none
  path_no_field f =
      w.is ∙ onward_none (after w.done) (path_in (256 - count) (drop at x)) (no_field (256 - count) (drop at x) (left_over x at l) f.is)

  pub path_no_step : {part : Part} → Stands 4 x at (Some part) → step_in (slice part.from (part.to - part.from) x) ≡ none →
      path_in 256 (drop from x) ≡ none
  path_no_step {part} f k =
      w.is
      ∙ onward_none (after w.done) (path_in (256 - count) (drop at x))
      (no_step (256 - count) (drop at x) (slice part.from (part.to - part.from) x, drop part.to x) (left_over x at l) f.is k)

-- the path's end
onward_some_is : (done : List Step) (o : Option (List Step)) → o ≡ some [] → onward o (after done) ≡ some done
unfolding onward
onward_some_is done o e = rw e (ap some (append-nil done))

pub path_walked : {x : Bytes} {from at count : ℕ} (w : Walking x from at count) → length x ≤ at → path_in 256 (drop from x) ≡ some w.done
path_walked {x} {from} {at} {count} w h =
    w.is ∙ onward_some_is w.done (path_in (256 - count) (drop at x)) (at_end (256 - count) (drop at x) (simp length-drop (omega arith)))

no_count : {A : Type 0} {n : ℕ} → ◌≡◌ {A = option.Option ℕ} None (Some n) → A
no_count e = absurd (let z : ◌≡◌ {A = ℕ} 0 1 = cc in omega arith)

that_count : {n k : ℕ} → ◌≡◌ {A = option.Option ℕ} (Some n) (Some k) → n ≡ k
that_count e = cc

pub walks_none : {x : Bytes} {from : ℕ} → path_in 256 (drop from x) ≡ none → Walks x from None
walks_none e = record { is = e; count_is_lem = λ n. no_count }

pub walks_all : {x : Bytes} {from at count : ℕ} → Walking x from at count → length x ≤ at → Walks x from (Some count)
unfolding steps_from
walks_all {x} {from} {at} {count} w h =
    let e = path_walked w h in record {
      is = e ∙ ap (λ o. some (steps_of o)) (sym e);
      count_is_lem = λ n s. ap (λ o. length (steps_of o)) e ∙ w.done_are ∙ that_count s;
    }

-- whether an inner op says a step
step_is : {x : Bytes} {s : Step} → step_in x ≡ some s → Stepped x true
step_is {x} {s} e = record { yes = λ _. (s, e); no = λ f. absurd (false≢true (sym f)) }

step_none : {x : Bytes} → step_in x ≡ none → Stepped x false
step_none e = record { yes = λ f. absurd (false≢true f); no = λ _. e }

pub step_by_some : {x : Bytes} {b : Bool} (o : option.Option Bool) → step_in x ≡ step_by x o → b ≡ is_some o → Stepped x b
step_by_some {x} (Some false) e f = subst (Stepped x) (sym f) (step_is e)
step_by_some {x} (Some true) e f = subst (Stepped x) (sym f) (step_is e)
step_by_some {x} None e f = subst (Stepped x) (sym f) (step_none e)
