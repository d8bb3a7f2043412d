-- Keys answered in turn: accepted exactly with the proof of each, refused exactly with the first refusal in the order asked. Assumes nothing.
use Prim.Native.Nat.{ℕ}
use native.Mathlib.Omega.{arith}
use mathlib.Core.Path.{◌≡◌, refl, ap, ap₂, sym, ◌∙◌, subst}
use mathlib.Core.Logic.{◌↔◌, inl, inr}
use mathlib.Core.Bool.{true}
use mathlib.Core.List.{List, [], ◌∷◌, map}
use borrow.Author.Tests.{le-ltb}
use Rattle.terms.specs.Bits.{Bytes}
use Rattle.terms.specs.Records.{Proof, Store}
use Rattle.meaning.specs.Calls.{Answer, refused, accepted, is_kept}
use Rattle.meaning.specs.Proving.{proof}
use Rattle.palette_rules.specs.Palette.{followed, in_turn, fitted_together, palette}
use Rattle.palette_rules.specs.Claims.{ProofOfEach, FirstAsked, FirstRefused}

clash : {A B : Type 0} {n : ℕ} {a : B} → refused n ≡ accepted a → A
clash e = let z : ◌≡◌ {A = ℕ} 0 1 = cc in absurd (omega arith)

-- two ways to answer a key that agree, agree on all keys
pub in_turn_same : (f g : Bytes → Answer Proof) → ((k : Bytes) → f k ≡ g k) → (keys : List Bytes) → in_turn f keys ≡ in_turn g keys
in_turn_same f g h [] = refl
in_turn_same f g h (k ∷ keys) = ap₂ followed (h k) (in_turn_same f g h keys)

module _ (single : Bytes → Answer Proof) where
  -- accepted exactly with the proof of each
  followed_proofs : (k : Bytes) (keys : List Bytes) (a : Answer Proof) (b : Answer (List Proof)) (ps : List Proof) → single k ≡ a → in_turn single keys ≡ b →
      followed a b ≡ accepted ps → ((qs : List Proof) → in_turn single keys ≡ accepted qs → ProofOfEach single keys qs) → ProofOfEach single (k ∷ keys) ps
  followed_proofs k keys (refused n) b ps ea eb e h = clash e
  followed_proofs k keys (accepted p) (refused n) ps ea eb e h = clash e
  followed_proofs k keys (accepted p) (accepted qs) ps ea eb e h =
      let z : p ∷ qs ≡ ps = cc in subst (ProofOfEach single (k ∷ keys)) z (ea, h qs eb)

  pub proofs_of_each : (keys : List Bytes) (ps : List Proof) → in_turn single keys ≡ accepted ps → ProofOfEach single keys ps
  proofs_of_each [] ps e = let z : [] ≡ ps = cc in subst (ProofOfEach single []) z tt
  proofs_of_each (k ∷ keys) ps e = followed_proofs k keys (single k) (in_turn single keys) ps refl refl e (λ qs f. proofs_of_each keys qs f)

  pub each_proved : (keys : List Bytes) (ps : List Proof) → ProofOfEach single keys ps → in_turn single keys ≡ accepted ps
  each_proved [] [] h = refl
  each_proved [] (p ∷ ps) h = absurd h
  each_proved (k ∷ keys) [] h = absurd h
  each_proved (k ∷ keys) (p ∷ ps) h = ap₂ followed h.0 (each_proved keys ps h.1)

  -- each has its proof exactly if the answers are these
  pub each_mapped : (keys : List Bytes) (ps : List Proof) → (map single keys ≡ map accepted ps) ↔ ProofOfEach single keys ps
  each_mapped [] [] = (λ e. tt, λ h. refl)
  each_mapped [] (p ∷ ps) = (λ e. let z : ◌≡◌ {A = ℕ} 0 1 = cc in absurd (omega arith), λ h. absurd h)
  each_mapped (k ∷ keys) [] = (λ e. let z : ◌≡◌ {A = ℕ} 0 1 = cc in absurd (omega arith), λ h. absurd h)
  each_mapped (k ∷ keys) (p ∷ ps) = (
    λ e. let first : single k ≡ accepted p = cc in let rest : map single keys ≡ map accepted ps = cc in (first, (each_mapped keys ps).0 rest),
    λ h. ap₂ ◌∷◌ h.0 ((each_mapped keys ps).1 h.1),
  )

  -- refused exactly with the first refusal
  pub asked_as : {P Q : Bytes → Type 0} → ((k : Bytes) → P k → Q k) → (keys : List Bytes) → FirstAsked single P keys → FirstAsked single Q keys
  asked_as f [] w = w
  asked_as f (k ∷ keys) (inl h) = inl (f k h)
  asked_as f (k ∷ keys) (inr (p, e, w)) = inr (p, e, asked_as f keys w)

  pub one_asked : {P : Bytes → Type 0} (keys : List Bytes) → FirstAsked single P keys → (k : Bytes) × P k
  one_asked [] w = absurd w
  one_asked (k ∷ keys) (inl h) = (k, h)
  one_asked (k ∷ keys) (inr (p, e, w)) = one_asked keys w

  followed_refused : (k : Bytes) (keys : List Bytes) (n : ℕ) (a : Answer Proof) (b : Answer (List Proof)) → single k ≡ a → in_turn single keys ≡ b →
      followed a b ≡ refused n → ((m : ℕ) → in_turn single keys ≡ refused m → FirstRefused single keys m) → FirstRefused single (k ∷ keys) n
  followed_refused k keys n (refused m) b ea eb e h =
      let z : m ≡ n = cc in inl (ea ∙ ap refused z)
  followed_refused k keys n (accepted p) (refused m) ea eb e h =
      let z : m ≡ n = cc in inr (p, ea, subst (FirstRefused single keys) z (h m eb))
  followed_refused k keys n (accepted p) (accepted qs) ea eb e h = clash (sym e)

  pub first_refused : (keys : List Bytes) (n : ℕ) → in_turn single keys ≡ refused n → FirstRefused single keys n
  first_refused [] n e = clash (sym e)
  first_refused (k ∷ keys) n e = followed_refused k keys n (single k) (in_turn single keys) refl refl e (λ m f. first_refused keys m f)

  pub refused_first : (keys : List Bytes) (n : ℕ) → FirstRefused single keys n → in_turn single keys ≡ refused n
  refused_first [] n w = absurd w
  refused_first (k ∷ keys) n (inl e) = ap (λ a. followed a (in_turn single keys)) e
  refused_first (k ∷ keys) n (inr (p, e, w)) = ap₂ followed e (refused_first keys n w)

  -- In turn: the proof of each, or the first refusal.
  pub in_turn_gives_each : (keys : List Bytes) (ps : List Proof) → (in_turn single keys ≡ accepted ps) ↔ ProofOfEach single keys ps
  in_turn_gives_each keys ps = (proofs_of_each keys ps, each_proved keys ps)

  pub in_turn_refuses_first : (keys : List Bytes) (n : ℕ) → (in_turn single keys ≡ refused n) ↔ FirstRefused single keys n
  in_turn_refuses_first keys n = (first_refused keys n, refused_first keys n)

-- In a kept version the first refusal is the answer, whatever the room; and without keys nothing is refused, in an empty version neither.
pub first_refusal_before_room : (st : Store) (v : ℕ) (keys : List Bytes) (room n : ℕ) → is_kept st v ≡ true → FirstRefused (proof st v) keys n →
    palette st v keys room ≡ refused n
unfolding palette
first_refusal_before_room st v keys room n e w = rw e (ap (fitted_together room) (refused_first (proof st v) keys n w))

pub no_keys_no_refusal : (st : Store) (v room : ℕ) → is_kept st v ≡ true → palette st v [] room ≡ accepted []
unfolding palette
no_keys_no_refusal st v room e = rw (e, le-ltb room 0 (omega arith))
