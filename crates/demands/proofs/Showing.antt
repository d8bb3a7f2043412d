-- Demand 2, the prover and the checker: on a sound store the proof that is given is in form, so the checker reads back what the prover wrote,
-- and its answer is what the version's grants say of the key. Assumes nothing.
use Prim.Native.Nat.{ℕ, ◌≤◌, ◌<◌}
use native.Mathlib.Omega.{arith}
use mathlib.Core.Path.{◌≡◌, refl, ap, sym, ◌∙◌, subst}
use mathlib.Core.Logic.{◌↔◌}
use mathlib.Core.Bool.{Bool, true, false, cond}
use mathlib.Core.List.{[], ◌∷◌}
use mathlib.Core.Option.{none}
use lib.ListN.{length, take}
use lib.Dec.{ltb}
use borrow.Author.Tests.{eq-eqb, ltb-true, ltb-false}
use Rattle.terms.specs.Bits.{Bytes, Whole32}
use Rattle.terms.specs.Fields.{num, field}
use Rattle.terms.specs.Records.{Proof, presence, absence}
use Rattle.meaning.specs.Tree.{hash, unversioned}
use Rattle.meaning.specs.Sound.{Kept}
use Rattle.meaning.specs.Calls.{Answer, refused, accepted}
use Rattle.meaning.specs.Reading.{Verdict, present, absent, answer_of, read_key}
use Rattle.meaning.specs.Proving.{HoldsGrant, proof, proof_length, fitted, prove}
use Rattle.meaning.specs.Checking.{checked}
use Rattle.shown.proofs.Walks.{present_absent}
use Rattle.shown.proofs.Verdicts.{accepted_same, Agrees}
use Rattle.shown.proofs.Theorems.{proof_agrees_with_read, proofs_have_17080_bytes, given_with_room, nine_without_room, root_read_is_hash, key_read_is_answer, shown, empty_is_fourteen, fourteen_exactly_without_grant}
use Rattle.nodehash.specs.Node.{leaf_hash, inner_hash}
use Rattle.proofrecords.specs.ProofBytes.{presence_kind, absence_kind, proof_bytes, ProofForm}
use Rattle.layout.specs.Stores.{store_of}
use Rattle.promises.specs.Calls.{SoundBytes}
use Rattle.promises.proofs.Calls.{sound_form}
use Rattle.contracts.specs.Reads.{root_answer, key_answer}
use Rattle.contracts.proofs.Reading.{root_read_of_sound, key_read_of_sound}
use Rattle.contracts.specs.Proves.{prove_answer}
use Rattle.verify_rules.specs.Verify.{Judged, Told, in_form}
use Rattle.verify_rules.proofs.Told.{judged_exactly, one_verdict}
use Rattle.meaning.specs.Answers.{number_of, told_of, found_bytes}
use Rattle.meaning.proofs.Told.{exported_left, exports_left}
use Rattle.contracts.specs.Contracts.{ReadsRoot, ReadsKey, Proves, Verifies}
use Rattle.demands.specs.Claims.{tree_of_version, grants_of_version, Shown}
use Rattle.demands.proofs.Hashes.{hash_whole}
use Rattle.demands.proofs.Forms.{proof_form}
use Rattle.demands.proofs.Given.{kind_of, its_proof, its_tests, kind_told, front_is}

-- what an accepted answer leaves
root_left : {s : Bytes} {v : ℕ} {f : Bytes} {r : ℕ} {g h : Bytes} → ReadsRoot s v f r g → root_answer s none v ≡ accepted h → (r ≡ 0) × (g ≡ h)
root_left x e = exported_left x.exported e

key_left : {s : Bytes} {v : ℕ} {k f : Bytes} {r : ℕ} {g : Bytes} {a : Verdict} → ReadsKey s v k f r g → key_answer s none v k ≡ accepted a →
    (r ≡ 0) × (g ≡ found_bytes a)
key_left x e = exported_left x.exported e

-- On the bytes of a sound store, for a kept version, the reads answer what its tree says.
module _ {s : Bytes} (w : SoundBytes s) {v : ℕ} (kept : Kept (store_of s) v) where
  pub root_of_tree : {f g : Bytes} {r : ℕ} → ReadsRoot s v f r g → (r ≡ 0) × (g ≡ hash leaf_hash inner_hash (unversioned (tree_of_version s v)))
  root_of_tree x = root_left x (root_read_of_sound s w.headed w.sound v kept)

  pub key_of_grants : {k f g : Bytes} {r : ℕ} → Whole32 k → ReadsKey s v k f r g → (r ≡ 0) × (g ≡ found_bytes (answer_of k (grants_of_version s v)))
  key_of_grants {k} whole x = key_left x (key_read_of_sound s w.headed w.sound v kept k whole)

-- a proof of either kind
by_kind : (p : Proof) (k : Bytes) (a : Verdict) {n : ℕ} → n ≡ kind_of p → Agrees k (accepted a) p →
    ((n ≡ presence_kind) ↔ ((x : Bytes) × (a ≡ present x))) × ((n ≡ absence_kind) ↔ (a ≡ absent))
by_kind (presence q) k a e g =
    let is = accepted_same a (present q.value) g.1 in
    ((λ z. (q.value, is), λ z. e), (λ z. absurd (omega arith), λ z. present_absent q.value (sym is ∙ z)))
by_kind (absence c) k a e g =
    let is = accepted_same a absent g.1 in
    ((λ z. absurd (omega arith), λ z. present_absent z.0 (sym z.1 ∙ is)), (λ z. is, λ z. e))

-- the checker on the bytes of a proof in form
pub checker_on : (root k : Bytes) (p : Proof) {a : Verdict} → length root ≡ 32 → length k ≡ 32 → ProofForm p →
    checked leaf_hash inner_hash root k p ≡ accepted a → Told Judged root k (proof_bytes p) (accepted a)
checker_on root k p {a} r l h e = in_form (r, l) (record { bytes = refl; form = h }) ((judged_exactly root k p (accepted a)).1 (sym e))

pub verify_left : {root k x f : Bytes} {r : ℕ} {g : Bytes} {a : Verdict} → Verifies root k x f r g → Told Judged root k x (accepted a) →
    (r ≡ 0) × (g ≡ found_bytes a)
verify_left {root} {k} {x} w t = exports_left (one_verdict root k x) w t

module _ {s : Bytes} (w : SoundBytes s) (v : ℕ) (kept : Kept (store_of s) v) (k : Bytes) (whole : Whole32 k) where
  proved_into : (room : Bytes) → prove_answer s none v k (length room) ≡ prove (store_of s) v k (length room)
  unfolding prove_answer prove proof
  proved_into room = rw (eq-eqb (length k) 32 whole.0, w.headed)

  -- Where the version holds no grant, 14,
  empty_refused : {room f t g : Bytes} {r : ℕ} → grants_of_version s v ≡ [] → Proves s v k room f r t g → r ≡ 14
  unfolding prove
  empty_refused {room} e x =
      x.exported.number
      ∙ ap (λ a. number_of a)
      (proved_into room ∙ ap (fitted (length room)) (empty_is_fourteen leaf_hash inner_hash (store_of s) w.sound v kept k whole e))

  -- and only there.
  pub fourteen_exactly_if_empty : {room f t g : Bytes} {r : ℕ} → Proves s v k room f r t g → (r ≡ 14) ↔ (grants_of_version s v ≡ [])
  unfolding prove
  fourteen_exactly_if_empty {room} {r = r} x = (there, λ e. empty_refused e x)
    where
      go : (a : Answer Proof) → proof (store_of s) v k ≡ a → number_of (fitted (length room) a) ≡ 14 → a ≡ refused 14
      go (refused n) f e = ap refused e
      go (accepted p) f e = no_number (ltb (length room) (proof_length p)) e
        where
          no_number : (b : Bool) → number_of {A = Proof} (cond b (refused 9) (accepted p)) ≡ 14 → accepted p ≡ refused 14
          no_number true e = absurd (omega arith)
          no_number false e = absurd (omega arith)

      there : r ≡ 14 → grants_of_version s v ≡ []
      there e =
          (fourteen_exactly_without_grant leaf_hash inner_hash (store_of s) w.sound v kept k whole).0
          (go (proof (store_of s) v k) refl (sym (ap (λ a. number_of a) (proved_into room)) ∙ sym x.exported.number ∙ e))

module _ {s : Bytes} (w : SoundBytes s) (v : ℕ) (kept : Kept (store_of s) v) (k : Bytes) (whole : Whole32 k) (some : HoldsGrant (store_of s) v) where
  its : (p : Proof) × (proof (store_of s) v k ≡ accepted p) ×
      (checked leaf_hash inner_hash (hash leaf_hash inner_hash (unversioned (tree_of_version s v))) k p ≡ accepted (answer_of k (grants_of_version s v)))
  its = shown leaf_hash inner_hash (store_of s) w.sound v kept k whole some _ (root_read_is_hash leaf_hash inner_hash (store_of s) w.sound v kept)

  with_room : {room f t g : Bytes} {r : ℕ} → Proves s v k room f r t g → proof_length its.0 ≤ length room → r ≡ 0
  with_room {room} x h =
      x.exported.number ∙ ap (λ a. number_of a) (proved_into w v kept k whole room ∙ given_with_room (store_of s) v k its.0 (length room) its.1 h)

  -- it is the one that is given
  module _ {room f t g : Bytes} (x : Proves s v k room f 0 t g) where
    the_same : its.0 ≡ its_proof x
    the_same = accepted_same its.0 (its_proof x) (sym its.1 ∙ (its_tests x).proved)

  given : {room f t g : Bytes} {r : ℕ} → Proves s v k room f r t g → (r ≡ 0) ↔ (proof_length its.0 ≤ length room)
  given {room} {f} {t} {g} x = (
    λ z. let y : Proves s v k room f 0 t g = subst (λ r. Proves s v k room f r t g) z x in
        subst (λ p. proof_length p ≤ length room) (sym (the_same y)) (its_tests y).fits,
    λ h. with_room x h,
  )

  without_room : {room f t g : Bytes} {r : ℕ} → Proves s v k room f r t g → length room < proof_length its.0 → r ≡ 9
  without_room {room} x h =
      x.exported.number ∙ ap (λ a. number_of a) (proved_into w v kept k whole room ∙ nine_without_room (store_of s) v k its.0 (length room) its.1 h)

  short : {room f t g : Bytes} {r : ℕ} → Proves s v k room f r t g → (r ≡ 9) ↔ (length room < proof_length its.0)
  short {room} {r = r} x = (λ e. go (ltb (length room) (proof_length its.0)) refl e, λ h. without_room x h)
    where
      go : (b : Bool) → ltb (length room) (proof_length its.0) ≡ b → r ≡ 9 → length room < proof_length its.0
      go true f e = ltb-true (length room) (proof_length its.0) f
      go false f e = absurd (omega (arith, with_room x (ltb-false (length room) (proof_length its.0) f)))

  module _ {room f t g : Bytes} (x : Proves s v k room f 0 t g) where
    form : ProofForm (its_proof x)
    form = proof_form (store_of s) v k (its_proof x) (sound_form (store_of s) refl w.sound).each whole (its_tests x).proved

    kinds : ((field 4 2 t ≡ presence_kind) ↔ ((y : Bytes) × (answer_of k (grants_of_version s v) ≡ present y)))
        × ((field 4 2 t ≡ absence_kind) ↔ (answer_of k (grants_of_version s v) ≡ absent))
    kinds =
        by_kind (its_proof x) k (answer_of k (grants_of_version s v)) (kind_told x)
        (subst (λ a. Agrees k a (its_proof x)) (key_read_is_answer leaf_hash inner_hash (store_of s) w.sound v kept k whole)
        (proof_agrees_with_read (store_of s) v k (its_proof x) (its_tests x).proved))

    holds : checked leaf_hash inner_hash (hash leaf_hash inner_hash (unversioned (tree_of_version s v))) k (its_proof x)
        ≡ accepted (answer_of k (grants_of_version s v))
    holds =
        subst (λ q. checked leaf_hash inner_hash (hash leaf_hash inner_hash (unversioned (tree_of_version s v))) k q ≡ accepted (answer_of k (grants_of_version s v)))
        (the_same x) its.2

    taken : {f₁ root f₂ found : Bytes} {r₁ r₂ : ℕ} → ReadsRoot s v f₁ r₁ root → Verifies root k (take (num g) t) f₂ r₂ found →
        (r₁ ≡ 0) × (r₂ ≡ 0) × (found ≡ found_bytes (answer_of k (grants_of_version s v)))
    taken {root = root} y z =
        let a = root_of_tree w kept y in
        let h = hash leaf_hash inner_hash (unversioned (tree_of_version s v)) in
        let long = (hash_whole (unversioned (tree_of_version s v))).0 in
        let b = verify_left z (subst (λ q. Told Judged q k (take (num g) t) (accepted (answer_of k (grants_of_version s v)))) (sym a.1)
        (subst (λ y. Told Judged h k y (accepted (answer_of k (grants_of_version s v)))) (sym (front_is x form))
        (checker_on h k (its_proof x) long whole.0 form holds))) in
        (a.0, b.0, b.1)

  -- Given room, for every version that holds a grant, the prover shows a grant exactly if the key is in the version, else its absence; and the checker accepts it.
  pub sound_is_shown : Shown s v k (answer_of k (grants_of_version s v))
  sound_is_shown = record {
    proved = its.0;
    is_proved = its.1;
    given = λ x. given x;
    short = λ x. short x;
    room = λ x h. with_room x (omega (arith, proofs_have_17080_bytes (store_of s) v k its.0 its.1));
    presence = λ x. (kinds x).0;
    absence = λ x. (kinds x).1;
    checked = λ x y z. taken x y z;
  }

-- a proof that agrees with what is read
as_read : (p : Proof) (k : Bytes) (a : Answer Verdict) {n r : ℕ} (f : Bytes) {h : Bytes} → n ≡ kind_of p → Agrees k a p → r ≡ number_of a →
    h ≡ told_of found_bytes a f → (r ≡ 0) × ((n ≡ presence_kind) ↔ ((x : Bytes) × (h ≡ 1 ∷ x)))
as_read (presence q) k a f e g d c =
    (d ∙ ap (λ b. number_of b) g.1, (λ z. (q.value, c ∙ ap (λ b. told_of found_bytes b f) g.1), λ z. e))
as_read (absence b) k a f {h} e g d c =
    (d ∙ ap (λ b. number_of b) g.1, (λ z. absurd (omega arith), λ z. unlike (sym z.1 ∙ c ∙ ap (λ b. told_of found_bytes b f) g.1)))
  where
    unlike : {A : Type 0} {x y : Bytes} → 1 ∷ x ≡ 0 ∷ y → A
    unlike i = let z : ◌≡◌ {A = ℕ} 0 1 = cc in absurd (omega arith)

-- On any bytes: a proof that is given shows a grant exactly if the key read finds one.
pub proof_shows_what_is_read : {s : Bytes} {v : ℕ} {k room f t g f₁ h : Bytes} {r : ℕ} → Proves s v k room f 0 t g → ReadsKey s v k f₁ r h →
    (r ≡ 0) × ((field 4 2 t ≡ presence_kind) ↔ ((x : Bytes) × (h ≡ 1 ∷ x)))
unfolding key_answer read_key
proof_shows_what_is_read {s} {v} {k} {f₁ = f₁} x y =
    let w = its_tests x in
    let same : read_key (store_of s) v k ≡ key_answer s none v k = rw (eq-eqb (length k) 32 w.key, w.headed) in
    let agrees = subst (λ a. Agrees k a (its_proof x)) same (proof_agrees_with_read (store_of s) v k (its_proof x) w.proved) in
    as_read (its_proof x) k (key_answer s none v k) f₁ (kind_told x) agrees y.exported.number y.exported.told
