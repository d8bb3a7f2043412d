-- The paths of each form. Assumes nothing.
use Prim.Native.Nat.{ℕ, ◌+◌, ◌<◌, ◌≤◌}
use native.Mathlib.Omega.{arith}
use mathlib.Core.Path.{◌≡◌, refl, sym, ◌∙◌}
use mathlib.Core.Bool.{true, false}
use lib.ListN.{take, drop}
use lib.Dec.{eqb}
use borrow.Author.Tests.{eqb-true}
use Rattle.terms.specs.Bits.{Bytes}
use Rattle.terms.specs.Fields.{slice, field}
use Rattle.terms.proofs.Fields.{all_of_tests}
use Rattle.proofrecords.specs.ProofBytes.{presence_tests, absence_tests, is_presence, is_absence, flags, left_length, left_part, right_part, step_count}
use Rattle.proofrecords.specs.Steps.{Room}
use Rattle.proofrecords.proofs.Forms.{presence_whole, absence_head_lem, one_there, left_there, right_there, both_room}
use Rattle.verify_neighbours.specs.Neighbours.{leads}
use Rattle.verify_neighbours.proofs.Neighbours.{never}
use Rattle.verify_plan.proofs.Prefix.{leads_front, room_whole}
use Rattle.verify_plan.specs.declared.Paths.{Paths}
use Rattle.verify_plan.specs.Plan.{PathsIn}

-- no bytes are both
not_both : (x : Bytes) → is_presence x ≡ true → is_absence x ≡ true → ⊥
unfolding is_presence is_absence
not_both x p a =
    let k = eqb-true (field 4 2 x) 16 (all_of_tests (presence_tests x) p).1.1.0 in
    let l = eqb-true (field 4 2 x) 17 (all_of_tests (absence_tests x) a).1.1.0 in
    omega arith

whole_room : (x : Bytes) → is_presence x ≡ true → Room (step_count x) x
whole_room x p = omega (arith, presence_whole x p)

module _ (x : Bytes) where
  pub plan_presence : is_presence x ≡ true → PathsIn x (record { many = 1; first = 0; second = 0 })
  plan_presence p = record {
    few = omega arith;
    near = omega arith;
    near2 = omega arith;
    lies = λ k. whole_room x p;
    lies2 = λ k. absurd (omega arith);
    leading = λ root g h one two. record { direct = λ q. one (omega arith); around = λ a. absurd (not_both x p a) };
  }

  pub plan_none : is_presence x ≡ false → is_absence x ≡ false → PathsIn x (record { many = 0; first = 0; second = 0 })
  plan_none p a = record {
    few = omega arith;
    near = omega arith;
    near2 = omega arith;
    lies = λ k. absurd (omega arith);
    lies2 = λ k. absurd (omega arith);
    leading = λ root g h one two. record { direct = λ q. absurd (never p q); around = λ q. absurd (never a q) };
  }

  pub plan_lone : is_presence x ≡ false → is_absence x ≡ true → flags x ≤ 2 → PathsIn x (record { many = 1; first = 40; second = 0 })
  plan_lone p a f = record {
    few = omega arith;
    near = absence_head_lem x a;
    near2 = omega arith;
    lies = λ k. whole_room (drop 40 x) (one_there x a f);
    lies2 = λ k. absurd (omega arith);
    leading = λ root g h one two. record {
      direct = λ q. absurd (never p q);
      around = λ q. record { lone = λ l. one (omega arith); leftward = λ l. absurd (omega arith); rightward = λ l e. absurd (omega arith) };
    };
  }

  module _ (a : is_absence x ≡ true) (f : 2 < flags x) where
    left_room : Room (step_count (take (left_length x) (drop 40 x))) (take (left_length x) (drop 40 x))
    unfolding left_part slice
    left_room = whole_room (left_part x) (left_there x a f)

    left_leads : (root : Bytes) → leads root (left_part x) ≡ leads root (drop 40 x)
    unfolding left_part slice
    left_leads root = leads_front (left_length x) (drop 40 x) root left_room

    right_room : Room (step_count (drop (40 + left_length x) x)) (drop (40 + left_length x) x)
    unfolding right_part
    right_room = whole_room (right_part x) (right_there x a f)

    right_leads : (root : Bytes) → leads root (right_part x) ≡ leads root (drop (40 + left_length x) x)
    unfolding right_part
    right_leads root = refl

    pub plan_both : is_presence x ≡ false → (l : ℕ) → l ≡ left_length x → PathsIn x (record { many = 2; first = 40; second = 40 + l })
    plan_both p l e =
        let r = both_room x a f in
        rw e (record {
          few = omega arith;
          near = absence_head_lem x a;
          near2 = omega arith;
          lies = λ k. room_whole (left_length x) (drop 40 x) left_room;
          lies2 = λ k. right_room;
          leading = λ root g h one two. record {
            direct = λ q. absurd (never p q);
            around = λ q. record {
              lone = λ k. absurd (omega arith);
              leftward = λ k. one (omega arith) ∙ sym (left_leads root);
              rightward = λ k e. two (omega arith) ∙ sym (right_leads root);
            };
          };
        })
