-- Document 02, 2026-14, the pocket profile over the contracts: two outcomes are equal, each number of refusal is given exactly if its row deserves it, a refused
-- call writes nothing, and inside the profile prover and check are the full ones. Assumes nothing.
use Prim.Native.Nat.{ℕ, ◌≤◌}
use native.Mathlib.Omega.{arith}
use mathlib.Core.Path.{◌≡◌, refl, ap, sym, ◌∙◌, subst}
use mathlib.Core.Logic.{◌↔◌, inl, inr}
use mathlib.Core.Bool.{Bool, true, false, cond}
use mathlib.Core.List.{[], ◌∷◌}
use mathlib.Core.Option.{none}
use lib.ListN.{length, take}
use lib.Dec.{eqb, ltb}
use borrow.Author.Tests.{eqb-true, eqb-false, eq-eqb}
use Rattle.terms.specs.declared.Form.TheVariants.{Counted as counted}
use Rattle.terms.specs.Bits.{Bytes, Byte, All, Whole32}
use Rattle.terms.specs.Fields.{num}
use Rattle.terms.specs.Records.{Proof}
use Rattle.meaning.specs.Sound.{Kept}
use Rattle.meaning.specs.Calls.{Answer, refused, accepted}
use Rattle.meaning.specs.Reading.{Verdict, spoilt_record, answer_of}
use Rattle.meaning.specs.Proving.{HoldsGrant, proof, proof_length, fitted, prove}
use Rattle.meaning.specs.Answers.{number_of, found_bytes, room_after}
use Rattle.meaning.proofs.Told.{seen, exports, exports_kept, one_exports, exported_as, exported_kept, one_exported}
use Rattle.proofrecords.specs.ProofBytes.{ProofIs, proof_bytes}
use Rattle.proofrecords.proofs.Proofs.{one_proof_is}
use Rattle.layout.specs.Headers.{Headed, refusal, header, header_of}
use Rattle.layout.specs.Stores.{store_of}
use Rattle.promises.specs.Calls.{SoundBytes}
use Rattle.promises.proofs.Calls.{sound_form}
use Rattle.promises.specs.Headed.{by_header}
use Rattle.contracts.specs.Proves.{prove_answer}
use Rattle.pocket.specs.Pocket.{Outside, small, in_profile, pocket_prove}
use Rattle.pocket.proofs.Theorems.{not_both_sides, pocket_proofs_have_2296_bytes}
use Rattle.contracts.specs.Pocket.{pocket_answer}
use Rattle.verify_rules.specs.Verify.{Judged, Told, not_32_bytes, not_in_form, in_form}
use Rattle.verify_rules.specs.Pocket as told
use Rattle.verify_rules.specs.Pocket.{PocketJudged}
use Rattle.verify_rules.proofs.Told.{one_pocket_verdict}
use Rattle.refusals.specs.Exactly.{Exactly, NoneOf, low, Names}
use Rattle.ways.specs.Ways.{ProofStopped}
use Rattle.refusals.specs.Tables.{Not32, TooLong, ProvedOutside, OutsidePocket, pocket_prove_rows, pocket_verify_rows, tests_of}
use Rattle.refusals.proofs.Exactly.{First, exactly}
use Rattle.refusals.proofs.Headers.{records_formed}
use Rattle.refusals.proofs.Stopped.{Stopped, stopped_first, stopped_names}
use Rattle.refusals.proofs.Pocket.{pocket_judged_first, pocket_stopped}
use Rattle.contracts.specs.Contracts.{ReadsRoot, Proves, Verifies, PocketProves, PocketVerifies}
use Rattle.demands.specs.Claims.{grants_of_version, SameOutcome}
use Rattle.demands.specs.Pocket.{BesideTheFullCheck, BesideTheFullProver, PocketShown}
use Rattle.demands.proofs.Refusals.{never_0, header_numbers, refused_of}
use Rattle.demands.proofs.Exact.{read_stopped, key_stopped}
use Rattle.demands.proofs.Outcomes.{one_verify}
use Rattle.demands.proofs.Forms.{proof_form}
use Rattle.demands.proofs.Given.{proof_long, its_proof, its_tests, told_length, front_is}
use Rattle.demands.proofs.Showing.{sound_is_shown}

module _ {a b : ℕ} where
  pub one_pocket_prove : {s : Bytes} {v : ℕ} {k room f t u g h : Bytes} → PocketProves s v k room f a t g → PocketProves s v k room f b u h →
      (a ≡ b) × (t ≡ u) × (g ≡ h)
  one_pocket_prove x y = let (e, d) = one_exported refl x.exported y.exported in (e, x.proof ∙ sym y.proof, d)

  pub one_pocket_verify : {root k x f g h : Bytes} → PocketVerifies root k x f a g → PocketVerifies root k x f b h → (a ≡ b) × (g ≡ h)
  one_pocket_verify {root} {k} {x} u w = one_exports (one_pocket_verdict root k x) u w

-- The prover: 12, 1, 2, 8, 14, 17 or 3, 19, 9, and the slot beside 3.
module _ {s : Bytes} {v : ℕ} {k room f : Bytes} {r : ℕ} {t g : Bytes} (h : All Byte s) (w : PocketProves s v k room f r t g) where
  pocket_answers : Stopped (tests_of (pocket_prove_rows s v k room)) ((19, ProvedOutside s v k) ∷ (9, TooLong s v k room) ∷ []) (ProofStopped (store_of s) v k) r
  unfolding pocket_answer
  pocket_answers =
      subst (Stopped (tests_of (pocket_prove_rows s v k room)) ((19, ProvedOutside s v k) ∷ (9, TooLong s v k room) ∷ []) (ProofStopped (store_of s) v k)) (sym w.exported.number)
      (key_stopped k (by_header (header_of counted s) (pocket_prove (store_of s) v k (length room)))
      (read_stopped s (pocket_prove (store_of s) v k (length room)) (λ c o l e. pocket_stopped s (records_formed s h e) v k room)))

  pub pocket_prove_exactly : Exactly (pocket_prove_rows s v k room) (low r)
  pocket_prove_exactly = exactly (pocket_prove_rows s v k room) (low r) refl (stopped_first refl refl pocket_answers)

  pub pocket_prove_names_slot : Names (λ i. NoneOf (tests_of (pocket_prove_rows s v k room)) × ProofStopped (store_of s) v k (spoilt_record i)) r
  pocket_prove_names_slot = stopped_names refl refl pocket_answers

pub refused_pocket_prove_writes_nothing : {s : Bytes} {v : ℕ} {k room f : Bytes} {r : ℕ} {t g : Bytes} → PocketProves s v k room f r t g → (r ≡ 0 → ⊥) →
    (t ≡ room) × (g ≡ f)
refused_pocket_prove_writes_nothing {s} {v} {k} {room} w h =
    let e = refused_of (pocket_answer s v k (length room)) (λ z. h (w.exported.number ∙ z)) in
    (w.proof ∙ ap (λ a. room_after proof_bytes a room) e.1, exported_kept w.exported h)

-- The check: 12, 10, 19, 11.
pub pocket_verify_exactly : {root k x f : Bytes} {r : ℕ} {g : Bytes} → PocketVerifies root k x f r g → Exactly (pocket_verify_rows root k x) r
pocket_verify_exactly {root} {k} {x} {r = r} w =
    exactly (pocket_verify_rows root k x) r refl (subst (First (pocket_verify_rows root k x)) (sym (seen w).exported.number) (go (seen w).said))
  where
    go : {a : Answer Verdict} → Told PocketJudged root k x a → First (pocket_verify_rows root k x) (number_of a)
    go (not_32_bytes n) = inl (λ z. n (z.0, z.1.0), refl)
    go (not_in_form s n) = inr (λ z. z (s.0, (s.1, tt)), inl (n, refl))
    go (in_form {p} s is h) = inr (λ z. z (s.0, (s.1, tt)), inr (λ f. f p is, pocket_judged_first p is h))

pub refused_pocket_verify_writes_nothing : {root k x f : Bytes} {r : ℕ} {g : Bytes} → PocketVerifies root k x f r g → (r ≡ 0 → ⊥) → g ≡ f
refused_pocket_verify_writes_nothing w = exports_kept w

-- a proof that isn't outside is inside
not_outside : (p : Proof) → (Outside p → ⊥) → small p ≡ true
not_outside p h = go (small p) refl
  where
    go : (b : Bool) → small p ≡ b → b ≡ true
    go true e = refl
    go false e = absurd (h e)

-- The check beside the full one.
module _ (root k x : Bytes) where
  as_full : {a : Answer Verdict} → (OutsidePocket x → ⊥) → Told PocketJudged root k x a → Told Judged root k x a
  as_full h (not_32_bytes n) = not_32_bytes n
  as_full h (not_in_form s n) = not_in_form s n
  as_full h (in_form {p} s is (told.outside o)) = absurd (h (p, is, o))
  as_full h (in_form s is (told.inside n j)) = in_form s is j

  pub as_verifies : {f g : Bytes} {r : ℕ} → (OutsidePocket x → ⊥) → PocketVerifies root k x f r g → Verifies root k x f r g
  as_verifies h w = exports (seen w).answer (as_full h (seen w).said) (seen w).exported

  inside : {f g g₁ : Bytes} {r r₁ : ℕ} → (OutsidePocket x → ⊥) → PocketVerifies root k x f r g → Verifies root k x f r₁ g₁ → (r ≡ r₁) × (g ≡ g₁)
  inside h w y = one_verify (as_verifies h w) y

  nineteen : {f g : Bytes} {r : ℕ} → PocketVerifies root k x f r g → (r ≡ 19) ↔ ((length root ≡ 32) × (length k ≡ 32) × OutsidePocket x)
  nineteen {r = r} w = (there, back)
    where
      rows : Exactly (pocket_verify_rows root k x) r
      rows = pocket_verify_exactly w

      sized : (a b : Bool) → eqb (length root) 32 ≡ a → eqb (length k) 32 ≡ b → (Not32 (root ∷ k ∷ []) → ⊥) → (length root ≡ 32) × (length k ≡ 32)
      sized true true e f h = (eqb-true (length root) 32 e, eqb-true (length k) 32 f)
      sized false b e f h = absurd (h (λ z. eqb-false (length root) 32 e z.0))
      sized true false e f h = absurd (h (λ z. eqb-false (length k) 32 f z.1.0))

      there : r ≡ 19 → (length root ≡ 32) × (length k ≡ 32) × OutsidePocket x
      there e =
          let d = rows.each.1.1.0.0 e in
          let l = sized (eqb (length root) 32) (eqb (length k) 32) refl refl d.0.0.1 in
          (l.0, l.1, d.1)

      back : (length root ≡ 32) × (length k ≡ 32) × OutsidePocket x → r ≡ 19
      back (a, b, o) = rows.each.1.1.0.1 (((tt, λ n. n (a, (b, tt))), λ f. f o.0 o.1), o)

  accepted_inside : {f g : Bytes} → PocketVerifies root k x f 0 g → OutsidePocket x → ⊥
  accepted_inside w o = go ((pocket_verify_exactly w).each.1.1.1.1.0 refl)
    where
      go : {A B : Type 0} → ((A × (OutsidePocket x → ⊥)) × B) → ⊥
      go h = h.0.1 o

  accepted_short : {f g : Bytes} → PocketVerifies root k x f 0 g → length x ≤ 2296
  accepted_short w = go (seen w).said (seen w).exported.number
    where
      go : {a : Answer Verdict} → Told PocketJudged root k x a → 0 ≡ number_of a → length x ≤ 2296
      go (not_32_bytes n) e = absurd (omega arith)
      go (not_in_form s n) e = absurd (omega arith)
      go (in_form s is (told.outside o)) e = absurd (omega arith)
      go (in_form {p} s is (told.inside n h)) e =
          let few = pocket_proofs_have_2296_bytes p (not_outside p n) in omega (arith, ap length is.bytes ∙ proof_long p is.form, few)

  -- Inside the profile, the pocket check and the full one agree; 19 exactly if a leaf shown has more than 32 steps.
  pub pocket_check_beside_full : BesideTheFullCheck root k x
  pocket_check_beside_full = record {
    inside = λ h w y. inside h w y;
    nineteen = λ w. nineteen w;
    accepted = λ w y. let e = inside (accepted_inside w) w y in (sym e.0, e.1);
    short = λ w. accepted_short w;
  }

-- The prover beside the full one.
same_in_profile : (room : ℕ) (a : Answer Proof) → ((p : Proof) → a ≡ accepted p → small p ≡ true) → fitted room (in_profile a) ≡ fitted room a
same_in_profile room (refused n) h = refl
same_in_profile room (accepted p) h = ap (λ b. fitted room (cond b (accepted p) (refused 19))) (h p refl)

module _ (s : Bytes) (v : ℕ) (k : Bytes) where
  as_proved : (room : ℕ) → (ProvedOutside s v k → ⊥) → pocket_answer s v k room ≡ prove_answer s none v k room
  unfolding pocket_answer prove_answer pocket_prove prove proof
  as_proved room h =
      ap (λ a. cond (eqb (length k) 32) (by_header (header_of counted s) a) (refused 12))
      (same_in_profile room (proof (store_of s) v k) (λ p e. not_outside p (λ o. h (p, e, o))))

  as_proves : {room f t g : Bytes} {r : ℕ} → (ProvedOutside s v k → ⊥) → PocketProves s v k room f r t g → Proves s v k room f r t g
  as_proves {room} h w =
      let e = as_proved (length room) h in
      record { exported = exported_as e w.exported; proof = w.proof ∙ ap (λ a. room_after proof_bytes a room) e }

  prover_inside : (ProvedOutside s v k → ⊥) → SameOutcome (PocketProves s v k) (Proves s v k)
  prover_inside h = record {
    same = λ w y.
        let z = as_proves h w in
        let (e, d) = one_exported refl z.exported y.exported in (e, z.proof ∙ sym y.proof, d);
  }

  -- where it answers 0, the proof there is isn't outside
  given_inside : {room f t g : Bytes} → PocketProves s v k room f 0 t g → ProvedOutside s v k → ⊥
  unfolding pocket_answer pocket_prove
  given_inside {room} w (p, e, o) = go (eqb (length k) 32) (header_of counted s) (small p) refl header_not_0 (w.exported.number ∙ ap (λ a. number_of (cond (eqb (length k) 32) (by_header (header_of counted s) (fitted (length room) (in_profile a))) (refused 12))) e)
    where
      header_not_0 : (n : ℕ) → header_of counted s ≡ refusal n → n ≡ 0 → ⊥
      header_not_0 n e = never_0 (1 ∷ 2 ∷ []) refl (header_numbers s e)

      go : (b : Bool) (x : Headed) (c : Bool) → small p ≡ c → ((n : ℕ) → x ≡ refusal n → n ≡ 0 → ⊥) →
          0 ≡ number_of (cond b (by_header x (fitted (length room) (cond c (accepted p) (refused 19)))) (refused 12)) → ⊥
      go false x c d f z = absurd (omega arith)
      go true (refusal n) c d f z = f n refl (sym z)
      go true (header a b l) false d f z = absurd (omega arith)
      go true (header a b l) true d f z = not_both_sides p d o

  prover_short : {room f t g : Bytes} → PocketProves s v k room f 0 t g → num g ≤ 2296
  prover_short w =
      let y = as_proves (given_inside w) w in
      let few = pocket_proofs_have_2296_bytes (its_proof y) (not_outside (its_proof y) (λ o. given_inside w (its_proof y, (its_tests y).proved, o))) in
      omega (arith, told_length y, few)

  -- Inside the profile, the provers give the same bytes.
  pub pocket_prover_beside_full : BesideTheFullProver s v k
  pocket_prover_beside_full = record {
    inside = prover_inside;
    given = λ w y. let e = (prover_inside (given_inside w)).same w y in (sym e.0, e.1, e.2);
    short = λ w. prover_short w;
  }

-- On a sound store, in a kept version that holds a grant.
module _ {s : Bytes} (w : SoundBytes s) (v : ℕ) (kept : Kept (store_of s) v) (k : Bytes) (whole : Whole32 k) (some : HoldsGrant (store_of s) v) where
  into : (room : Bytes) → pocket_answer s v k (length room) ≡ pocket_prove (store_of s) v k (length room)
  unfolding pocket_answer
  into room = rw (eq-eqb (length k) 32 whole.0, w.headed)

  abbrev proved : Proof
  proved = (sound_is_shown w v kept k whole some).proved

  is_proved : proof (store_of s) v k ≡ accepted proved
  is_proved = (sound_is_shown w v kept k whole some).is_proved

  fitted_19 : (room : ℕ) (b : Bool) → number_of (fitted room (cond b (accepted proved) (refused 19))) ≡ 19 → b ≡ false
  fitted_19 room false e = refl
  fitted_19 room true e = go (ltb room (proof_length proved)) e
    where
      go : (b : Bool) → number_of {A = Proof} (cond b (refused 9) (accepted proved)) ≡ 19 → true ≡ false
      go true f = absurd (omega arith)
      go false f = absurd (omega arith)

  shown_19 : {room f t g : Bytes} {r : ℕ} → PocketProves s v k room f r t g → (r ≡ 19) ↔ ProvedOutside s v k
  unfolding pocket_prove
  shown_19 {room} {r = r} x =
      let is : r ≡ number_of (fitted (length room) (cond (small proved) (accepted proved) (refused 19))) =
      x.exported.number ∙ ap (λ a. number_of a) (into room) ∙ ap (λ a. number_of (fitted (length room) (in_profile a))) is_proved in
      (there is, back is)
    where
      there : r ≡ number_of (fitted (length room) (cond (small proved) (accepted proved) (refused 19))) → r ≡ 19 → ProvedOutside s v k
      there is e = (proved, is_proved, (fitted_19 (length room) (small proved) (sym is ∙ e)))

      back : r ≡ number_of (fitted (length room) (cond (small proved) (accepted proved) (refused 19))) → ProvedOutside s v k → r ≡ 19
      back is (p, e, o) = go (small proved) refl is
        where
          same : p ≡ proved
          same = let f = sym e ∙ is_proved in cc

          go : (b : Bool) → small proved ≡ b → r ≡ number_of (fitted (length room) (cond b (accepted proved) (refused 19))) → r ≡ 19
          go false f z = z
          go true f z = absurd (not_both_sides proved f (subst Outside same o))

  with_room : {room f t g : Bytes} {r : ℕ} → (ProvedOutside s v k → ⊥) → 2296 ≤ length room → PocketProves s v k room f r t g → r ≡ 0
  with_room h long x =
      let few = pocket_proofs_have_2296_bytes proved (not_outside proved (λ o. h (proved, is_proved, o))) in
      ((sound_is_shown w v kept k whole some).given (as_proves s v k h x)).1 (omega arith)

  is_checked : {room f t g f₁ root f₂ found : Bytes} {r₁ r₂ : ℕ} → PocketProves s v k room f 0 t g → ReadsRoot s v f₁ r₁ root →
      PocketVerifies root k (take (num g) t) f₂ r₂ found → (r₁ ≡ 0) × (r₂ ≡ 0) × (found ≡ found_bytes (answer_of k (grants_of_version s v)))
  is_checked {t = t} {g} {root = root} {f₂} x y z =
      let given = as_proves s v k (given_inside s v k x) x in
      let p = its_proof given in
      let form = proof_form (store_of s) v k p (sound_form (store_of s) refl w.sound).each whole (its_tests given).proved in
      let is : ProofIs (take (num g) t) p = record { bytes = front_is given form; form = form } in
      let short : OutsidePocket (take (num g) t) → ⊥ =
      λ o. given_inside s v k x (p, (its_tests given).proved, subst Outside (one_proof_is (take (num g) t) o.0 p o.1 is) o.2) in
      (sound_is_shown w v kept k whole some).checked given y (as_verifies root k (take (num g) t) short z)

  -- What the pocket prover gives the pocket check accepts.
  pub sound_is_shown_in_pocket : PocketShown s v k
  sound_is_shown_in_pocket = record {
    nineteen = λ x. shown_19 x;
    room = λ h long x. with_room h long x;
    checked = λ x y z. is_checked x y z;
  }
