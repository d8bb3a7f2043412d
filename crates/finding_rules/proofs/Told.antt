-- What is found of bytes as a proof is exactly what the tests read from them: bytes are a proof exactly if they are read as
-- it, and it holds exactly if it is accepted. Assumes nothing.
use Prim.Native.Nat.{ℕ}
use native.Mathlib.Omega.{arith}
use mathlib.Core.Path.{◌≡◌, refl, ap, sym, ◌∙◌, subst}
use mathlib.Core.Logic.{◌↔◌}
use mathlib.Core.Bool.{Bool, true, false, cond, true≢false, false≢true}
use mathlib.Core.List.{List, [], ◌∷◌}
use mathlib.Core.Option.{Option, none, some}
use lib.Dec.{leb}
use borrow.Author.Tests.{leb-true, le-leb}
use Rattle.terms.specs.Bits.{Bytes, Byte, All}
use Rattle.terms.specs.Records.{Grant, Proof, Store}
use Rattle.terms.proofs.Tests.{and_left, and_right}
use Rattle.meaning.specs.Tree.{grants_in}
use Rattle.meaning.specs.Store.{tree_at_version}
use Rattle.meaning.specs.Sound.{Kept}
use Rattle.meaning.specs.Calls.{Answer, refused, accepted, is_kept}
use Rattle.meaning.specs.Reading.{Verdict}
use Rattle.meaning.specs.Checking.{checked}
use Rattle.meaning.specs.Proving.{HoldsGrant}
use Rattle.checker.proofs.Theorems.{accepted_exactly_if_holds, refused_with_11}
use Rattle.proofrecords.specs.ProofBytes.{proof_in, ProofIs}
use Rattle.proofrecords.proofs.Proofs.{proof_is, no_proof_is, one_proof_is}
use Rattle.forgery.specs.Messages.{leaf_hash, inner_hash}
use Rattle.forgery.specs.Finding.{Finding, finding}
use Rattle.forgery.proofs.Theorems.{found_so, only_found}
use Rattle.finding_rules.specs.Call.{HoldsAt, FoundIn, not_kept, no_grant_lem, not_in_form, not_holding, holding}
use Rattle.finding_rules.specs.Reading.{no_grant, version_root, found_of, found_against, finds}

-- the tests of the version
pub kept_of : (st : Store) (v : ℕ) → is_kept st v ≡ true → Kept st v
unfolding is_kept
kept_of st v e = (
  leb-true st.oldest v (and_left (leb st.oldest v) (leb v st.latest) e),
  leb-true v st.latest (and_right (leb st.oldest v) (leb v st.latest) e),
)

pub of_kept : (st : Store) (v : ℕ) → Kept st v → is_kept st v ≡ true
unfolding is_kept
of_kept st v k = rw (le-leb st.oldest v k.0, le-leb v st.latest k.1)

pub none_granted : (gs : List Grant) → no_grant gs ≡ true → gs ≡ []
none_granted [] e = refl
none_granted (g ∷ gs) e = absurd (false≢true e)

pub some_granted : (gs : List Grant) → (gs ≡ [] → ⊥) → no_grant gs ≡ false
some_granted [] f = absurd (f refl)
some_granted (g ∷ gs) f = refl

not_both : {A : Type 0} {n : ℕ} {a : Verdict} → ◌≡◌ {A = Answer Verdict} (refused n) (accepted a) → A
not_both e = let z : ◌≡◌ {A = ℕ} 0 1 = cc in absurd (omega arith)

module _ (H : Bytes → Bytes) (st : Store) (v : ℕ) (k x : Bytes) where
  abbrev tested : Proof → Answer Verdict
  tested p = checked (leaf_hash H) (inner_hash H) (version_root H st v) k p

  accepted_so : (p : Proof) (a : Verdict) → (tested p ≡ accepted a) ↔ HoldsAt H st v k p a
  accepted_so p a = accepted_exactly_if_holds (leaf_hash H) (inner_hash H) (version_root H st v) k p a

  -- What is read is found,
  pub read_is_found : All Byte x → FoundIn H st v k x (finds H v k (proof_in x) st)
  unfolding finds
  read_is_found bytes = kept (is_kept st v) refl
    where
      held : Kept st v → HoldsGrant st v → (p : Proof) → ProofIs x p → (c : Answer Verdict) → tested p ≡ c → FoundIn H st v k x (found_of H st v p c)
      held i g p w (refused n) e =
          subst (λ m. FoundIn H st v k x (refused m)) (sym (refused_with_11 (leaf_hash H) (inner_hash H) (version_root H st v) k p e))
          (not_holding i g w (λ a h. not_both (sym e ∙ (accepted_so p a).1 h)))
      held i g p w (accepted a) e = holding i g w ((accepted_so p a).0 e) (found_so H st v p).0 (found_so H st v p).1

      form : Kept st v → HoldsGrant st v → (o : Option Proof) → proof_in x ≡ o → FoundIn H st v k x (found_against H st v k o)
      form i g none e = not_in_form i g (no_proof_is x e)
      form i g (some p) e = held i g p (proof_is x bytes p e) (tested p) refl

      granted : Kept st v → (b : Bool) → no_grant (grants_in (tree_at_version st v)) ≡ b →
          FoundIn H st v k x (cond b (refused 14) (found_against H st v k (proof_in x)))
      granted i true e = no_grant_lem i (none_granted (grants_in (tree_at_version st v)) e)
      granted i false e = form i (λ n. true≢false (sym (ap no_grant n) ∙ e)) (proof_in x) refl

      kept : (b : Bool) → is_kept st v ≡ b →
          FoundIn H st v k x (cond b (cond (no_grant (grants_in (tree_at_version st v))) (refused 14) (found_against H st v k (proof_in x))) (refused 8))
      kept true e = granted (kept_of st v e) (no_grant (grants_in (tree_at_version st v))) refl
      kept false e = not_kept (λ i. true≢false (sym (of_kept st v i) ∙ e))

  -- and one answer alone is:
  only_8 : {c : Answer Finding} → (Kept st v → ⊥) → FoundIn H st v k x c → refused 8 ≡ c
  only_8 n (not_kept m) = refl
  only_8 n (no_grant_lem i e) = absurd (n i)
  only_8 n (not_in_form i g m) = absurd (n i)
  only_8 n (not_holding i g w m) = absurd (n i)
  only_8 n (holding i g w h t l) = absurd (n i)

  only_14 : {c : Answer Finding} → Kept st v → grants_in (tree_at_version st v) ≡ [] → FoundIn H st v k x c → refused 14 ≡ c
  only_14 i e (not_kept m) = absurd (m i)
  only_14 i e (no_grant_lem j f) = refl
  only_14 i e (not_in_form j g m) = absurd (g e)
  only_14 i e (not_holding j g w m) = absurd (g e)
  only_14 i e (holding j g w h t l) = absurd (g e)

  only_10 : {c : Answer Finding} → Kept st v → HoldsGrant st v → ((p : Proof) → ProofIs x p → ⊥) → FoundIn H st v k x c → refused 10 ≡ c
  only_10 i g n (not_kept m) = absurd (m i)
  only_10 i g n (no_grant_lem j f) = absurd (g f)
  only_10 i g n (not_in_form j f m) = refl
  only_10 i g n (not_holding {p} j f w m) = absurd (n p w)
  only_10 i g n (holding {p} j f w h t l) = absurd (n p w)

  fails : (p : Proof) → ((a : Verdict) → HoldsAt H st v k p a → ⊥) → found_of H st v p (tested p) ≡ refused 11
  fails p n = go (tested p) refl
    where
      go : (c : Answer Verdict) → tested p ≡ c → found_of H st v p (tested p) ≡ refused 11
      go (refused m) e = ap (found_of H st v p) e ∙ ap refused (refused_with_11 (leaf_hash H) (inner_hash H) (version_root H st v) k p e)
      go (accepted a) e = absurd (n a ((accepted_so p a).0 e))

  succeeds : (p : Proof) {a : Verdict} → HoldsAt H st v k p a → found_of H st v p (tested p) ≡ accepted (finding H st v p)
  succeeds p {a} h = ap (found_of H st v p) ((accepted_so p a).1 h)

  only_what_holds : {c : Answer Finding} {p : Proof} → Kept st v → HoldsGrant st v → ProofIs x p → FoundIn H st v k x c → found_of H st v p (tested p) ≡ c
  only_what_holds i g w (not_kept m) = absurd (m i)
  only_what_holds i g w (no_grant_lem j f) = absurd (g f)
  only_what_holds {p = p} i g w (not_in_form j f m) = absurd (m p w)
  only_what_holds {p = p} i g w (not_holding {p = q} j f u m) = ap (λ y. found_of H st v y (tested y)) (one_proof_is x p q w u) ∙ fails q m
  only_what_holds {p = p} i g w (holding {p = q} j f u h t l) =
      ap (λ y. found_of H st v y (tested y)) (one_proof_is x p q w u) ∙ succeeds q h ∙ ap accepted (sym (only_found H st v q (t, l)))

  pub one_found : (a c : Answer Finding) → FoundIn H st v k x a → FoundIn H st v k x c → a ≡ c
  one_found _ c (not_kept n) t = only_8 n t
  one_found _ c (no_grant_lem i e) t = only_14 i e t
  one_found _ c (not_in_form i g n) t = only_10 i g n t
  one_found _ c (not_holding {p} i g w n) t = sym (fails p n) ∙ only_what_holds i g w t
  one_found _ c (holding {p} i g w h so lie) t = ap accepted (only_found H st v p (so, lie)) ∙ sym (succeeds p h) ∙ only_what_holds i g w t

  -- so what is found is exactly what is read.
  pub found_exactly : All Byte x → (a : Answer Finding) → FoundIn H st v k x a ↔ (a ≡ finds H v k (proof_in x) st)
  found_exactly bytes a = (
    λ t. one_found a (finds H v k (proof_in x) st) t (read_is_found bytes),
    λ e. subst (FoundIn H st v k x) (sym e) (read_is_found bytes),
  )
