-- Document 02, 2026-12, over the contract: an accepted call means what the lawyers ask, and a proof that the check accepts against the version's
-- root is always answered. From the theorems for any hash of 32 bytes. Assumes nothing.
use Prim.Native.Nat.{ℕ}
use native.Mathlib.Omega.{arith}
use mathlib.Core.Path.{◌≡◌, refl, ap, sym, ◌∙◌, subst}
use mathlib.Core.Logic.{◌⊎◌, inl, inr}
use mathlib.Core.Bool.{Bool, true, false, true≢false}
use mathlib.Core.List.{List, ◌∷◌, ◌++◌}
use mathlib.Core.Option.{some}
use lib.ListN.{length, get_or, take, drop}
use lib.Seq.{take_at, take_all, drop_at}
use Rattle.terms.specs.Bits.{Bytes, Byte, All, same_bytes}
use Rattle.terms.specs.Fields.{slice, zero_bytes}
use Rattle.terms.specs.Records.{Proof, Store}
use Rattle.terms.proofs.Tests.{same_bytes_lem, bytes_same}
use Rattle.meaning.specs.Tree.{unversioned}
use Rattle.meaning.specs.Store.{tree_at_version}
use Rattle.meaning.specs.Sound.{Kept, Sound}
use Rattle.meaning.specs.Calls.{Answer, accepted}
use Rattle.meaning.specs.Reading.{Verdict, present, absent, answer_of}
use Rattle.meaning.specs.Proving.{HoldsGrant}
use Rattle.meaning.specs.Checking.{checked}
use Rattle.meaning.specs.Answers.{number_of, told_of, found_bytes}
use Rattle.meaning.proofs.Told.{seen}
use Rattle.checker.proofs.Theorems.{accepted_exactly_if_holds}
use Rattle.sha256.specs.Sha256.{sha256}
use Rattle.nodehash.specs.Node as node
use Rattle.proofrecords.specs.ProofBytes.{ProofIs}
use Rattle.proofrecords.proofs.Proofs.{read_as}
use Rattle.layout.specs.Stores.{store_of}
use Rattle.promises.specs.Check.{sound}
use Rattle.promises.specs.Calls.{SoundBytes}
use Rattle.promises.proofs.Check.{one_answer}
use Rattle.refusals.specs.Tables.{root_of_version}
use Rattle.forgery.specs.Messages.{leaf_hash, inner_hash}
use Rattle.forgery.specs.Finding.{True, Finding, nothing, two_equal, one_zero, Among, NamedFrom, finding}
use Rattle.finding_rules.specs.Call.{HoldsAt, FoundIn, not_kept, no_grant_lem, not_in_form, not_holding, holding, finding_bytes}
use Rattle.finding_rules.specs.Claims.{FoundOut}
use Rattle.finding_rules.proofs.Hashes.{leaf_is, inner_is, holds_alike}
use Rattle.forgery.proofs.Theorems.{found_so, only_found}
use Rattle.finding_rules.proofs.Told.{one_found}
use Rattle.finding_rules.proofs.Theorems.{holding_is_found_out}
use Rattle.contracts.specs.Finds.{Answers, wrong_key, wrong_store, sound_store}
use Rattle.contracts.specs.Contracts.{ReadsRoot, Verifies, Finds}
use Rattle.demands.specs.Claims.{grants_of_version, Accepts}
use Rattle.demands.specs.Forged.{NamesFinding, two-equal, one-zero, messages_of, Cost, Deceived}
use Rattle.demands.proofs.Hashes.{digest_whole, hash_whole}
use Rattle.demands.proofs.Accepting.{accepted_exactly_if_it_holds}
use Rattle.demands.proofs.Showing.{root_of_tree}

hash32 : (m : Bytes) → length (sha256 m) ≡ 32
hash32 m = (digest_whole m).0

-- what 131 bytes name
module _ (messages : List Bytes) (long : (m : Bytes) → Among m messages → length m ≡ 65) where
  first_part : (b : ℕ) (m y : Bytes) → length m ≡ 65 → slice 1 65 (b ∷ (m ++ y)) ≡ m
  unfolding slice
  first_part b m y l = take_at m y 65 l

  second_part : (b : ℕ) (m n : Bytes) → length m ≡ 65 → length n ≡ 65 → slice 66 65 (b ∷ (m ++ n)) ≡ n
  unfolding slice
  second_part b m n l k = ap (take 65) (drop_at m n 65 l) ∙ take_all 65 n (omega arith)

  told : (f : Finding) (g : Bytes) → NamedFrom sha256 messages f → g ≡ finding_bytes f → NamesFinding messages g
  unfolding finding_bytes
  told nothing g w e = absurd w
  told (two_equal m n) g (a, c, apart, equal) e =
      let one : slice 1 65 g ≡ m = ap (slice 1 65) e ∙ first_part 1 m n (long m a) in
      let two : slice 66 65 g ≡ n = ap (slice 66 65) e ∙ second_part 1 m n (long m a) (long n c) in
      two-equal (ap (λ x. get_or x 0 0) e) (subst (λ x. Among x messages) (sym one) a) (subst (λ x. Among x messages) (sym two) c)
      (λ z. apart (sym one ∙ z ∙ two)) (ap sha256 one ∙ equal ∙ sym (ap sha256 two))
  told (one_zero m) g (a, zero) e =
      let one : slice 1 65 g ≡ m = ap (slice 1 65) e ∙ first_part 2 m (zero_bytes 65) (long m a) in
      one-zero (ap (λ x. get_or x 0 0) e) (subst (λ x. Among x messages) (sym one) a) (ap sha256 one ∙ zero)

told_none : (f : Finding) (g : Bytes) → f ≡ nothing → g ≡ finding_bytes f → g ≡ zero_bytes 131
unfolding finding_bytes zero_bytes
told_none f g z e = e ∙ ap finding_bytes z

none_told : (f : Finding) (g : Bytes) → g ≡ zero_bytes 131 → g ≡ finding_bytes f → f ≡ nothing
unfolding finding_bytes zero_bytes
none_told nothing g n e = refl
none_told (two_equal m k) g n e =
    let z : ◌≡◌ {A = ℕ} 0 1 = ap (λ x. get_or x 0 7) (sym n ∙ e) in absurd (omega arith)
none_told (one_zero m) g n e =
    let z : ◌≡◌ {A = ℕ} 0 2 = ap (λ x. get_or x 0 7) (sym n ∙ e) in absurd (omega arith)

is_nothing_lem : (f : Finding) → (f ≡ nothing) ⊎ (f ≡ nothing → ⊥)
is_nothing_lem nothing = inl refl
is_nothing_lem (two_equal m n) = inr (λ e. let z : ◌≡◌ {A = ℕ} 0 1 = cc in omega arith)
is_nothing_lem (one_zero m) = inr (λ e. let z : ◌≡◌ {A = ℕ} 0 1 = cc in omega arith)

same_sound : {st : Store} → Sound node.leaf_hash node.inner_hash st → Sound (leaf_hash sha256) (inner_hash sha256) st
same_sound {st} w = subst (λ f. Sound f (inner_hash sha256) st) leaf_is (subst (λ g. Sound node.leaf_hash g st) inner_is w)

-- An accepted call means what is asked.
module _ {s : Bytes} {v : ℕ} {k x g : Bytes} where
  costs : SoundBytes s → length k ≡ 32 → {p : Proof} (answer : Verdict) → Kept (store_of s) v → HoldsGrant (store_of s) v → ProofIs x p →
      HoldsAt sha256 (store_of s) v k p answer → g ≡ finding_bytes (finding sha256 (store_of s) v p) → Cost s v k x g
  costs w l {p} answer kept granted is holds t =
      let a = finding sha256 (store_of s) v p in
      let o = holding_is_found_out sha256 (store_of s) v k hash32 (same_sound w.sound) kept p answer is.form holds in
      let named : NamedFrom sha256 (messages_of s v p) a → NamesFinding (messages_of s v p) g =
      λ n. told (messages_of s v p) o.of_65_bytes a g n t in
      record {
        sound = w;
        kept = kept;
        granted = granted;
        answer = answer;
        accepts = record {
          root32 = (hash_whole (unversioned (tree_at_version (store_of s) v))).0;
          key32 = l;
          proof = p;
          is_proof_lem = is;
          holds = (holds_alike (store_of s) v k p answer).0 holds;
        };
        false_is_found = λ lie. named (o.false_is_found lie);
        false_answer_is_found = λ lie. named (o.false_answer_is_found lie);
        named = either o (is_nothing_lem a) t;
        of_65_bytes = o.of_65_bytes;
        none_if_true = (λ h. told_none a g (o.true_is_nothing h) t, λ n. o.nothing_is_true (none_told a g n t));
      }
    where
      either : {a : Finding} → FoundOut sha256 (store_of s) v k p answer a → (a ≡ nothing) ⊎ (a ≡ nothing → ⊥) → g ≡ finding_bytes a →
          NamesFinding (messages_of s v p) g ⊎ (g ≡ zero_bytes 131)
      either {a} o (inl n) t = inr (told_none a g n t)
      either {a} o (inr n) t = inl (told (messages_of s v p) o.of_65_bytes a g (o.named_is_a_finding n) t)

  pub accepted_finding_means : {f : Bytes} → Finds s v k x f 0 g → Cost s v k x g
  accepted_finding_means {f} w = let y = seen w in go y.said y.exported.number y.exported.told
    where
      by_proof : {a : Answer Finding} → SoundBytes s → length k ≡ 32 → FoundIn sha256 (store_of s) v k x a → 0 ≡ number_of a → g ≡ told_of finding_bytes a f →
          Cost s v k x g
      by_proof h l (not_kept n) z t = absurd (omega arith)
      by_proof h l (no_grant_lem i e) z t = absurd (omega arith)
      by_proof h l (not_in_form i e n) z t = absurd (omega arith)
      by_proof h l (not_holding i e q n) z t = absurd (omega arith)
      by_proof h l (holding {p = p} {a} i e q d so lie) z t = costs h l a i e q d (t ∙ ap finding_bytes (only_found sha256 (store_of s) v p (so, lie)))

      go : {a : Answer Finding} → Answers s v k x a → 0 ≡ number_of a → g ≡ told_of finding_bytes a f → Cost s v k x g
      go (wrong_key n) z t = absurd (omega arith)
      go (wrong_store l c n) z t = absurd (n (sym z))
      go (sound_store l h d) z t = by_proof h l d z t

-- an answer is right or it isn't
right_or_not : (a b : Verdict) → (a ≡ b) ⊎ (a ≡ b → ⊥)
right_or_not (present x) (present y) = go (same_bytes x y) refl
  where
    go : (c : Bool) → same_bytes x y ≡ c → (present x ≡ present y) ⊎ (present x ≡ present y → ⊥)
    go true e = inl (ap present (same_bytes_lem x y e))
    go false e = inr (λ h. let same : x ≡ y = cc in true≢false (sym (bytes_same x) ∙ ap (same_bytes x) same ∙ e))
right_or_not (present x) absent = inr (λ h. let z : ◌≡◌ {A = ℕ} 0 1 = cc in omega arith)
right_or_not absent (present y) = inr (λ h. let z : ◌≡◌ {A = ℕ} 0 1 = cc in omega arith)
right_or_not absent absent = inl refl

same_some : {p q : Proof} → some p ≡ some q → p ≡ q
same_some e = cc

same_verdict_lem : {a b : Verdict} → ◌≡◌ {A = Answer Verdict} (accepted a) (accepted b) → a ≡ b
same_verdict_lem e = cc

-- Take a sound store, a kept version that holds a grant, its root, and any proof that the check accepts for a key: the call is accepted, and what
-- the check answered is what the version's grants say, or a finding is named.
module _ {s : Bytes} {v : ℕ} {k x : Bytes} (w : SoundBytes s) (kept : Kept (store_of s) v) (granted : HoldsGrant (store_of s) v) (bytes : All Byte x) where
  answered : {answer : Verdict} → Accepts (root_of_version s v) k x answer → {a : Answer Finding} → Answers s v k x a → number_of a ≡ 0
  answered c (wrong_key n) = absurd (n c.key32)
  answered c (wrong_store {m} l d n) = absurd (n (one_answer s m 0 d (sound w.capacity w.oldest w.latest w.headed w.sound)))
  answered {answer} c (sound_store {a} l h d) =
      let p = c.proof in
      let so = found_so sha256 (store_of s) v p in
      let its = holding kept granted c.is_proof_lem ((holds_alike (store_of s) v k p answer).1 c.holds) so.0 so.1 in
      ap number_of (one_found sha256 (store_of s) v k x a (accepted (finding sha256 (store_of s) v p)) d its)

  -- the check has one answer
  one_verdict : {a b : Verdict} → Accepts (root_of_version s v) k x a → Accepts (root_of_version s v) k x b → a ≡ b
  one_verdict {a} {b} c d =
      let same = same_some (sym (read_as x c.proof c.is_proof_lem) ∙ read_as x d.proof d.is_proof_lem) in
      let l = (accepted_exactly_if_holds node.leaf_hash node.inner_hash (root_of_version s v) k c.proof a).1 c.holds in
      let r = (accepted_exactly_if_holds node.leaf_hash node.inner_hash (root_of_version s v) k d.proof b).1 d.holds in
      same_verdict_lem (sym l ∙ ap (checked node.leaf_hash node.inner_hash (root_of_version s v) k) same ∙ r)

  pub accepted_proof_is_true_or_found_out : {f₁ root f₂ found f g : Bytes} {r₁ r : ℕ} (answer : Verdict) → ReadsRoot s v f₁ r₁ root →
      Verifies root k x f₂ 0 found → found ≡ found_bytes answer → Finds s v k x f r g →
      (r ≡ 0) × ((answer_of k (grants_of_version s v) ≡ answer) ⊎ Deceived s v x g)
  accepted_proof_is_true_or_found_out {f = f} {g = g} answer y z e h =
      let c = subst (λ q. Accepts q k x answer) (root_of_tree w kept y).1 ((accepted_exactly_if_it_holds z answer).0 (refl, e)) in
      let zero = (seen h).exported.number ∙ answered c (seen h).said in
      (zero, decide c (accepted_finding_means (subst (λ n. Finds s v k x f n g) zero h)) (right_or_not (answer_of k (grants_of_version s v)) answer))
    where
      decide : Accepts (root_of_version s v) k x answer → Cost s v k x g → (answer_of k (grants_of_version s v) ≡ answer) ⊎ (answer_of k (grants_of_version s v) ≡ answer → ⊥) →
          (answer_of k (grants_of_version s v) ≡ answer) ⊎ Deceived s v x g
      decide c o (inl d) = inl d
      decide c o (inr lie) = inr (record {
        proof = o.accepts.proof;
        is_proof_lem = o.accepts.is_proof_lem;
        finding = o.false_answer_is_found (λ same. lie (same ∙ sym (one_verdict c o.accepts)));
      })
