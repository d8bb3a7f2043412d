-- A false answer of a shelf's check: the list's record is false of the list, or it is true, and then the part's is false
-- of the part. So a finding of a false shelf proof is a finding of one of its two. Assumes nothing.
use Prim.Native.Nat.{ℕ}
use native.Mathlib.Omega.{arith}
use mathlib.Core.Path.{◌≡◌, refl, ap, sym, ◌∙◌, subst}
use mathlib.Core.Logic.{◌⊎◌, inl, inr}
use mathlib.Core.Bool.{Bool, true, false, true≢false}
use mathlib.Core.List.{List, [], ◌∷◌, ◌++◌, append-nil}
use Rattle.terms.specs.Bits.{Bytes, Byte, All, Whole32, same_bytes}
use Rattle.terms.proofs.Tests.{same_bytes_lem, bytes_same}
use Rattle.meaning.specs.Reading.{Verdict, present, absent, answer_of}
use Rattle.meaning.specs.Proving.{HoldsGrant}
use Rattle.meaning.specs.Answers.{found_bytes}
use Rattle.nodehash.specs.Node.{leaf_hash, inner_hash}
use Rattle.layout.specs.Stores.{store_of}
use Rattle.shelf_rules.specs.Shelf.{part_key}
use Rattle.shelf_grants.specs.Contents.{root_of}
use Rattle.shelf_grants.proofs.Listed.{said}
use Rattle.contracts.specs.Contracts.{ReadsRoot, Verifies, Finds, ShelfVerifies}
use Rattle.demands.specs.Claims.{grants_of_version}
use Rattle.demands.specs.Forged.{Deceived}
use Rattle.demands.proofs.Showing.{root_of_tree}
use Rattle.demands.proofs.Forged.{accepted_proof_is_true_or_found_out}
use Rattle.shelves.specs.Shelf.{Shelf, read_at, parts_at, shelf_grants, part_of, StandsAt, BySingleChecks, list_alone, both_records, FalseRecord, of_list, of_part}
use Rattle.shelves.proofs.Shown.{version_root_lem, part_kept, part_long, list_says, part_says, said_absent, said_present}
use Rattle.shelves.proofs.Single.{only_what_single_checks_accept}

-- an answer is right or it isn't
right_or_not : (a b : Verdict) → (a ≡ b) ⊎ (a ≡ b → ⊥)
right_or_not (present x) (present y) = go (same_bytes x y) refl
  where
    go : (c : Bool) → same_bytes x y ≡ c → (present x ≡ present y) ⊎ (present x ≡ present y → ⊥)
    go true e = inl (ap present (same_bytes_lem x y e))
    go false e = inr (λ h. let same : x ≡ y = cc in true≢false (sym (bytes_same x) ∙ ap (same_bytes x) same ∙ e))
right_or_not (present x) absent = inr (λ h. let z : ◌≡◌ {A = ℕ} 0 1 = cc in omega arith)
right_or_not absent (present y) = inr (λ h. let z : ◌≡◌ {A = ℕ} 0 1 = cc in omega arith)
right_or_not absent absent = inl refl

found_absent : (a : Verdict) → found_bytes absent ≡ found_bytes a → a ≡ absent
found_absent (present x) e = let z : ◌≡◌ {A = ℕ} 0 1 = cc in absurd (omega arith)
found_absent absent e = refl

first_bytes : (x y : Bytes) → All Byte (x ++ y) → All Byte x
first_bytes [] y h = tt
first_bytes (b ∷ x) y h = (h.0, first_bytes x y h.1)

rest_bytes : (x y : Bytes) → All Byte (x ++ y) → All Byte y
rest_bytes [] y h = h
rest_bytes (b ∷ x) y h = rest_bytes x y h.1

module _ {b : ℕ} {x : Shelf} {v : ℕ} (w : StandsAt b x v) (granted : HoldsGrant (store_of x.list) v) (k : Bytes) (whole : Whole32 k) (answer : Verdict)
    (lie : answer_of k (shelf_grants b x v) ≡ answer → ⊥) {f₁ root : Bytes} {r₁ : ℕ} (reads : ReadsRoot x.list v f₁ r₁ root) where
  -- a list's record that isn't true
  at_list : {y f : Bytes} (a : Verdict) → All Byte y → Verifies root (part_key b k) y f 0 (found_bytes a) →
      (answer_of (part_key b k) (grants_of_version x.list v) ≡ a → ⊥) →
      {f₂ g : Bytes} {r : ℕ} → Finds x.list v (part_key b k) y f₂ r g → (r ≡ 0) × Deceived x.list v y g
  at_list a bytes z false-there h =
      let u = accepted_proof_is_true_or_found_out w.list_sound w.list_kept granted bytes a reads z refl h in (u.0, go u.1)
    where
      go : {A : Type 0} → (answer_of (part_key b k) (grants_of_version x.list v) ≡ a) ⊎ A → A
      go (inl e) = absurd (false-there e)
      go (inr d) = d

  -- a part's record, where the list's is true
  at_part : {z f g part : Bytes} → All Byte z → answer_of (part_key b k) (grants_of_version x.list v) ≡ present part →
      Verifies part k z f 0 g → g ≡ found_bytes answer → {f₂ g₂ : Bytes} {r : ℕ} →
      Finds (x.part (part_of b k)) (read_at (x.part (part_of b k)) v) k z f₂ r g₂ →
      (r ≡ 0) × Deceived (x.part (part_of b k)) (read_at (x.part (part_of b k)) v) z g₂
  at_part {z} {f} {g} {part} bytes true-there c e h =
      let p = part_of b k in
      let sound = w.sound p (part_long w k whole) in
      let kept = part_kept w p (part_long w k whole) in
      let s = said_present (parts_at x v p) (sym (list_says w k whole) ∙ true-there) in
      let own : ReadsRoot (x.part p) (read_at (x.part p) v) [] _ _ = record { exported = record { number = refl; told = refl } } in
      let same = (root_of_tree sound kept own).1 ∙ version_root_lem sound kept ∙ sym s.1 in
      let u = accepted_proof_is_true_or_found_out sound kept s.0 bytes answer own (subst (λ t. Verifies t k z f 0 g) (sym same) c) e h in
      (u.0, go u.1)
    where
      go : {A : Type 0} → (answer_of k (parts_at x v (part_of b k)) ≡ answer) ⊎ A → A
      go (inl d) = absurd (lie (part_says w k whole ∙ d))
      go (inr d) = d

  false_record : {y g : Bytes} → All Byte y → BySingleChecks root b k y g → g ≡ found_bytes answer → FalseRecord b x v k y
  false_record bytes (list_alone {y} c) e =
      let is = found_absent answer e in
      let lied : answer_of (part_key b k) (grants_of_version x.list v) ≡ absent → ⊥ =
      λ d. lie (part_says w k whole ∙ ap (answer_of k) (said_absent (parts_at x v (part_of b k)) (sym (list_says w k whole) ∙ d)) ∙ sym is) in
      subst (FalseRecord b x v k) (append-nil y) (of_list y [] (λ f g r h. at_list absent bytes c lied h))
  false_record bytes (both_records {y} {z} {part = part} c d) e =
      go (right_or_not (answer_of (part_key b k) (grants_of_version x.list v)) (present part))
    where
      go : (answer_of (part_key b k) (grants_of_version x.list v) ≡ present part)
          ⊎ (answer_of (part_key b k) (grants_of_version x.list v) ≡ present part → ⊥) → FalseRecord b x v k (y ++ z)
      go (inl t) = of_part y z (λ f g r h. at_part (rest_bytes y z bytes) t d e h)
      go (inr l) = of_list y z (λ f g r h. at_list (present part) (first_bytes y z bytes) c l h)

  -- A proof that the check accepts with a false answer has a false record, and a finding is named of that.
  pub false_shelf_proof_has_a_false_record : {y f g : Bytes} → All Byte y → ShelfVerifies root b k y f 0 g → g ≡ found_bytes answer →
      FalseRecord b x v k y
  false_shelf_proof_has_a_false_record bytes c e = false_record bytes (only_what_single_checks_accept c) e
