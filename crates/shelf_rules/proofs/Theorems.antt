-- A shelf's proof is accepted exactly if it holds, and nothing is accepted that the single checks don't accept: by the
-- checker's own law, twice. Assumes nothing.
use Prim.Native.Nat.{ℕ}
use native.Mathlib.Omega.{arith}
use mathlib.Core.Path.{◌≡◌, refl, ap, sym, ◌∙◌, subst}
use mathlib.Core.Logic.{◌↔◌}
use mathlib.Core.Bool.{Bool, true, false, cond, ◌&&◌}
use Rattle.terms.specs.Bits.{Bytes, same_bytes}
use Rattle.terms.specs.Records.{Presence, Absence, Proof, presence, absence}
use Rattle.meaning.specs.Calls.{Answer, refused, accepted}
use Rattle.meaning.specs.Reading.{Verdict, present, absent}
use Rattle.meaning.specs.Checking.{leads_to, absence_holds, checked}
use Rattle.checker.proofs.Theorems.{accepted_exactly_if_holds, refused_with_11}
use Rattle.nodehash.specs.Node.{leaf_hash, inner_hash}
use Rattle.shelf_rules.specs.Shelf.{part_key, ShelfProof, no_part, in_part, ShelfHolds, no_part_lem, in-part}
use Rattle.shelf_rules.specs.Reading.{by_list, shelf_checked}

not_both : {A B : Type 0} {n : ℕ} {v : A} → ◌≡◌ {A = Answer A} (refused n) (accepted v) → B
not_both e = let z : ◌≡◌ {A = ℕ} 0 1 = cc in absurd (omega arith)

same_answer : {v w : Verdict} → ◌≡◌ {A = Answer Verdict} (accepted v) (accepted w) → v ≡ w
same_answer e = cc

same_number : {m n : ℕ} → ◌≡◌ {A = Answer Verdict} (refused m) (refused n) → m ≡ n
same_number e = cc

present_absent : {A : Type 0} {x : Bytes} → absent ≡ present x → A
present_absent e = let z : ◌≡◌ {A = ℕ} 0 1 = cc in absurd (omega arith)

-- what a test answers where it passes
passed : (t : Bool) (a : Verdict) {v : Verdict} → cond t (accepted a) (refused 11) ≡ accepted v → v ≡ a
passed true a e = sym (same_answer e)
passed false a e = not_both e

-- a presence proof shows a presence, and an absence proof an absence
shows_presence : (root k : Bytes) (p : Presence) {v : Verdict} → checked leaf_hash inner_hash root k (presence p) ≡ accepted v → v ≡ present p.value
shows_presence root k p e = passed (same_bytes k p.key && leads_to leaf_hash inner_hash root p) (present p.value) e

shows_absence : (root k : Bytes) (a : Absence) {v : Verdict} → checked leaf_hash inner_hash root k (absence a) ≡ accepted v → v ≡ absent
shows_absence root k a e =
    passed (same_bytes k a.key && absence_holds leaf_hash inner_hash root k a.leftward a.rightward) absent e

module _ (root : Bytes) (b : ℕ) (k : Bytes) where
  holds_said : (p : ShelfProof) (v : Verdict) → shelf_checked root b k p ≡ accepted v → ShelfHolds root b k p v
  holds_said (no_part a) v e =
      let w = shows_absence root (part_key b k) a e in
      subst (ShelfHolds root b k (no_part a)) (sym w)
      (no_part_lem ((accepted_exactly_if_holds leaf_hash inner_hash root (part_key b k) (absence a) absent).0 (e ∙ ap accepted w)))
  holds_said (in_part p q) v e = go (checked leaf_hash inner_hash root (part_key b k) (presence p)) refl e
    where
      go : (c : Answer Verdict) → checked leaf_hash inner_hash root (part_key b k) (presence p) ≡ c →
          by_list c (λ part. checked leaf_hash inner_hash part k q) ≡ accepted v → ShelfHolds root b k (in_part p q) v
      go (refused n) d f = not_both f
      go (accepted absent) d f = present_absent (shows_presence root (part_key b k) p d)
      go (accepted (present part)) d f =
          in-part ((accepted_exactly_if_holds leaf_hash inner_hash root (part_key b k) (presence p) (present part)).0 d)
          ((accepted_exactly_if_holds leaf_hash inner_hash part k q v).0 f)

  said_holds : (p : ShelfProof) (v : Verdict) → ShelfHolds root b k p v → shelf_checked root b k p ≡ accepted v
  said_holds _ _ (no_part_lem {a} h) = (accepted_exactly_if_holds leaf_hash inner_hash root (part_key b k) (absence a) absent).1 h
  said_holds _ _ (in-part {p} {q} {part} {answer} h i) =
      ap (λ c. by_list c (λ top. checked leaf_hash inner_hash top k q))
      ((accepted_exactly_if_holds leaf_hash inner_hash root (part_key b k) (presence p) (present part)).1 h)
      ∙ (accepted_exactly_if_holds leaf_hash inner_hash part k q answer).1 i

  -- A shelf's proof is accepted with an answer exactly if it holds with that answer.
  pub shelf_accepted_exactly_if_holds : (p : ShelfProof) (v : Verdict) →
      (shelf_checked root b k p ≡ accepted v) ↔ ShelfHolds root b k p v
  shelf_accepted_exactly_if_holds p v = (holds_said p v, said_holds p v)

  -- It is refused with 11 and no other number.
  pub shelf_refused_with_11 : (p : ShelfProof) {n : ℕ} → shelf_checked root b k p ≡ refused n → n ≡ 11
  shelf_refused_with_11 (no_part a) e = refused_with_11 leaf_hash inner_hash root (part_key b k) (absence a) e
  shelf_refused_with_11 (in_part p q) {n} e = go (checked leaf_hash inner_hash root (part_key b k) (presence p)) refl e
    where
      go : (c : Answer Verdict) → checked leaf_hash inner_hash root (part_key b k) (presence p) ≡ c →
          by_list c (λ part. checked leaf_hash inner_hash part k q) ≡ refused n → n ≡ 11
      go (refused m) d f = sym (same_number f) ∙ refused_with_11 leaf_hash inner_hash root (part_key b k) (presence p) d
      go (accepted absent) d f = not_both (sym f)
      go (accepted (present part)) d f = refused_with_11 leaf_hash inner_hash part k q f
