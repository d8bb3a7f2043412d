-- The steps of a path, written from their inner ops. Assumes nothing.
use Prim.Native.Nat.{ℕ, zero, suc, ◌+◌, ◌*◌, ◌-◌, ◌<◌, ◌≤◌}
use native.Mathlib.Omega.{arith}
use Rattle.std.specs.declared.option.Option as option
use Rattle.std.specs.Prelude.{Some, None, is_some}
use mathlib.Core.Path.{◌≡◌, refl, ap, ap₂, sym, ◌∙◌, subst}
use mathlib.Core.Bool.{Bool, true, false, cond, ◌&&◌, false≢true}
use mathlib.Core.List.{List, [], ◌∷◌, ◌++◌, append-nil, append_assoc}
use mathlib.Core.Option.{Option, none, some, some-injective, none-ne-some}
use lib.ListN.{length, take, drop, set, length-append, length-drop}
use lib.Seq.{take_all}
use lib.Dec.{eqb}
use borrow.Author.Tests.{eqb-true, eq-eqb, ne_eqb}
use Rattle.terms.specs.Bits.{Bytes, Side, digit, same_bytes}
use Rattle.terms.specs.Fields.{slice}
use Rattle.terms.specs.Records.{Step}
use Rattle.terms.proofs.Tests.{and_left}
use Rattle.fields.specs.Written.{written}
use Rattle.fields.proofs.Written.{length_written, part_written}
use Rattle.proofrecords.specs.ProofBytes.{steps_bytes}
use Rattle.messages.specs.Reading.{onward, only_if, left_head, right_head, headed, step_in, path_in}
use Rattle.messages.proofs.Wires.{only_if_some}
use Rattle.message_rules.proofs.Writing.{set_one, written_none, written_then}
use Rattle.message_fields.specs.declared.Part.{Part}
use Rattle.message_fields.specs.Standing.{Stands}
use Rattle.message_leaf.specs.Shown.{steps_of, steps_from}
use Rattle.message_leaf.proofs.Walking.{Walking, walk_start, walk_further, path_too_long, path_no_field, path_no_step, path_walked, after}

-- What an inner op says by its length: the side, and the sibling at its end.
pub record Sided (op : Bytes) (s : Step) : Type 0 where
  pub digit_is : digit s.side ≡ cond (eqb (length op) 39) 0 1
  pub long : (37 ≤ length op) × (length op ≤ 39)
  pub sibling_is : s.sibling ≡ drop (length op - 32) op

pub sided : (op : Bytes) (s : Step) → step_in op ≡ some s → Sided op s
unfolding step_in
sided op s = go (headed left_head op) refl
  where
    go : (t : Bool) → headed left_head op ≡ t →
        cond t (some (record { side = false; sibling = drop 7 op })) (only_if (headed right_head op) (some (record { side = true; sibling = drop 5 op }))) ≡ some s → Sided op s
    go true t e =
        let l : length op ≡ 39 = eqb-true (length op) 39 (and_left (eqb (length op) 39) (same_bytes (take 7 op) left_head) t) in
        subst (Sided op) (some-injective (record { side = false; sibling = drop 7 op }) s e)
        (record { digit_is = rw l; long = (omega arith, omega arith); sibling_is = rw l })
    go false t e =
        let w = only_if_some (headed right_head op) (some (record { side = true; sibling = drop 5 op })) s e in
        let l : length op ≡ 37 = eqb-true (length op) 37 (and_left (eqb (length op) 37) (same_bytes (take 5 op) right_head) w.0) in
        subst (Sided op) (some-injective (record { side = true; sibling = drop 5 op }) s w.1)
        (record { digit_is = rw l; long = (omega arith, omega arith); sibling_is = rw l })

pub length_sibling : {op : Bytes} {s : Step} → Sided op s → length s.sibling ≡ 32
length_sibling {op} {s} w = let l = w.long.0 in ap length w.sibling_is ∙ simp length-drop (omega arith)

-- the side's byte, then the sibling
pub step_put : (op room t : Bytes) (at side : ℕ) → at + 33 ≤ length room → side ≡ cond (eqb (length op) 39) 0 1 →
    t ≡ take (length op - (length op - 32)) (drop (length op - 32) op) →
    (s : Step) → step_in op ≡ some s →
    take (at + 1) (set room at side) ++ (t ++ drop (at + 33 - (at + 1)) (drop (at + 1) (set room at side))) ≡ written at (digit s.side ∷ s.sibling) room
step_put op room t at side h e f s k =
    let w = sided op s k in
    let l = w.long.0 in
    let sib : t ≡ s.sibling = f ∙ take_all (length op - (length op - 32)) (drop (length op - 32) op) (simp length-drop (omega arith)) ∙ sym w.sibling_is in
    let n : length s.sibling ≡ 32 = length_sibling w in
    ap (λ u. take (at + 1) (set room at side) ++ (u ++ drop (at + 33 - (at + 1)) (drop (at + 1) (set room at side)))) sib
    ∙ part_written (at + 1) (at + 33) s.sibling (set room at side) (omega arith)
    ∙ ap (written (at + 1) s.sibling) (set_one room at side (omega arith))
    ∙ written_then at (at + 1) (side ∷ []) s.sibling room (omega arith) (omega arith)
    ∙ ap (λ b. written at (b ∷ s.sibling) room) (e ∙ sym w.digit_is)

none_from : (path : ℕ) (x : Bytes) → path_in 256 (drop path x) ≡ none → length (steps_from path x) ≡ 0
unfolding steps_from
none_from path x e = ap (λ o. length (steps_of o)) e

some_from : (path : ℕ) (x : Bytes) {steps : List Step} → path_in 256 (drop path x) ≡ some steps → steps_from path x ≡ steps
unfolding steps_from
some_from path x e = ap steps_of e

no_more : (more : List Step) → length more ≡ 0 → more ≡ []
no_more [] e = refl
no_more (s ∷ more) e = absurd (omega arith)

-- A path of which i steps are written.
pub record Stepping (x : Bytes) (path at : ℕ) (s t : Bytes) (from i : ℕ) : Type 0 where
  pub walked : Walking x path from i
  pub bytes_are : t ≡ written at (steps_bytes walked.done) s
  pub long : length (steps_bytes walked.done) ≡ 33 * i

pub stepping_start : (x : Bytes) (path at : ℕ) (s : Bytes) → path ≤ length x → Stepping x path at s s path 0
stepping_start x path at s h =
    let w = walk_start x path h in
    let e = no_more w.done w.done_are in record {
      walked = w;
      bytes_are = written_none at s ∙ ap (λ d. written at (steps_bytes d) s) (sym e);
      long = ap (λ d. length (steps_bytes d)) e ∙ omega arith;
    }

steps_after : (done : List Step) (s : Step) → steps_bytes (done ++ (s ∷ [])) ≡ steps_bytes done ++ (digit s.side ∷ s.sibling)
steps_after [] s = append-nil (digit s.side ∷ s.sibling)
steps_after (d ∷ done) s =
    ap ((digit d.side ∷ d.sibling) ++◌) (steps_after done s) ∙ sym (append_assoc (digit d.side ∷ d.sibling) (steps_bytes done) (digit s.side ∷ s.sibling))

-- While steps are left, a field with a step stands there.
pub record NextStep (x : Bytes) (from : ℕ) (part : Part) : Type 0 where
  pub inside : from < length x
  pub one : (s : Step) × (step_in (slice part.from (part.to - part.from) x) ≡ some s)

module _ {x : Bytes} {path from i count : ℕ} (w : Walking x path from i) (few : length (steps_from path x) ≡ count) (l : i < count) where
  not_none : {A : Type 0} → path_in 256 (drop path x) ≡ none → A
  not_none e = absurd (omega (arith, none_from path x e))

  is_inside : from < length x
  is_inside = go (length x - from) refl
    where
      go : (k : ℕ) → length x - from ≡ k → from < length x
      go zero z =
          let i' = w.within in
          absurd (omega (arith, ap length (some_from path x (path_walked w (omega arith))), w.done_are))
      go (suc k) z = omega arith

  is_few : i < 256
  is_few = go (256 - i) refl
    where
      go : (k : ℕ) → 256 - i ≡ k → i < 256
      go zero z = not_none (path_too_long w is_inside (omega arith))
      go (suc k) z = omega arith

  pub field_there : (r : option.Option Part) → Stands 4 x from r → is_some r ≡ true
  field_there None f = not_none (path_no_field w is_inside f)
  field_there (Some part) f = refl

  pub next_step : {part : Part} → Stands 4 x from (Some part) → NextStep x from part
  next_step {part} f = record {
    inside = is_inside;
    one = one_so (step_in (slice part.from (part.to - part.from) x)) refl;
  }
    where
      one_so : (o : Option Step) → step_in (slice part.from (part.to - part.from) x) ≡ o →
          (s : Step) × (step_in (slice part.from (part.to - part.from) x) ≡ some s)
      one_so none e = not_none (path_no_step w is_inside f e)
      one_so (some s) e = (s, e)

  walk_on : {part : Part} {s : Step} → Stands 4 x from (Some part) → step_in (slice part.from (part.to - part.from) x) ≡ some s →
      (v : Walking x path part.to (i + 1)) × (v.done ≡ w.done ++ (s ∷ []))
  walk_on f k = walk_further w is_inside is_few f k

pub stepping_next : {x : Bytes} {path at from i count : ℕ} {s t u : Bytes} {part : Part} (w : Stepping x path at s t from i) (few : length (steps_from path x) ≡ count) (l : i < count)
    (room : at + 33 * count ≤ length s) (f : Stands 4 x from (Some part)) (next : NextStep x from part) →
    ((st : Step) → step_in (slice part.from (part.to - part.from) x) ≡ some st → u ≡ written (at + 33 * i) (digit st.side ∷ st.sibling) t) →
    Stepping x path at s u part.to (i + 1)
stepping_next {x} {path} {at} {from} {i} {count} {s} {t} {u} {part} w few l room f next put =
    let st = next.one.0 in
    let k = next.one.1 in
    let n = length_sibling (sided _ st k) in
    let bytes = digit st.side ∷ st.sibling in
    let j = w.long in
    let v = walk_on w.walked few l f k in
    let all : steps_bytes v.0.done ≡ steps_bytes w.walked.done ++ bytes = ap steps_bytes v.1 ∙ steps_after w.walked.done st in
    record {
      walked = v.0;
      bytes_are =
          put st k
          ∙ ap (written (at + 33 * i) bytes) w.bytes_are
          ∙ written_then at (at + 33 * i) (steps_bytes w.walked.done) bytes s (omega arith) (omega arith)
          ∙ ap (λ b. written at b s) (sym all);
      long = ap length all ∙ length-append (steps_bytes w.walked.done) bytes ∙ omega arith;
    }

pub stepping_length : {x : Bytes} {path at from i count : ℕ} {s t : Bytes} → Stepping x path at s t from i → i ≤ count → at + 33 * count ≤ length s → length t ≡ length s
stepping_length {x} {path} {at} {from} {i} {count} {s} {t} w h room =
    let j = w.long in ap length w.bytes_are ∙ length_written at (steps_bytes w.walked.done) s (omega arith)

all_walked : {x : Bytes} {path from i : ℕ} (w : Walking x path from i) → length (steps_from path x) ≡ i → steps_from path x ≡ w.done
unfolding onward
all_walked {x} {path} {from} {i} w few = go (path_in (256 - i) (drop from x)) refl w.is
  where
    go : (o : Option (List Step)) → path_in (256 - i) (drop from x) ≡ o → path_in 256 (drop path x) ≡ onward (path_in (256 - i) (drop from x)) (after w.done) → steps_from path x ≡ w.done
    go none e is =
        let z : path_in 256 (drop path x) ≡ none = is ∙ rw e in
        no_more (steps_from path x) (none_from path x z) ∙ sym (no_more w.done (omega (arith, w.done_are, none_from path x z)))
    go (some more) e is =
        let y : path_in 256 (drop path x) ≡ some (w.done ++ more) = is ∙ rw e in
        let v = some_from path x y in
        let m = no_more more (omega (arith, ap length v, length-append w.done more, w.done_are)) in
        v ∙ ap (w.done ++◌) m ∙ append-nil w.done

pub stepping_done : {x : Bytes} {path at from i count : ℕ} {s t : Bytes} → Stepping x path at s t from i → length (steps_from path x) ≡ count → i ≡ count →
    t ≡ written at (steps_bytes (steps_from path x)) s
stepping_done {x} {path} {at} {from} {i} {count} {s} {t} w few e =
    w.bytes_are ∙ ap (λ steps. written at (steps_bytes steps) s) (sym (all_walked w.walked (few ∙ sym e)))
