-- Rows 8, 14, 17, 3 and 9 of a palette, and its row 12: what the definition answers is what they deserve. Assumes nothing.
use Prim.Native.Nat.{ℕ}
use native.Mathlib.Omega.{arith}
use mathlib.Core.Path.{◌≡◌, refl, ap, sym, ◌∙◌, subst}
use mathlib.Core.Logic.{◌⊎◌, inl, inr}
use mathlib.Core.Bool.{Bool, true, false, cond, true≢false}
use mathlib.Core.List.{List, [], ◌∷◌}
use lib.ListN.{length}
use lib.Dec.{ltb}
use borrow.Author.Tests.{ltb-true, ltb-false}
use Rattle.terms.specs.Bits.{Bytes}
use Rattle.terms.specs.Records.{Proof}
use Rattle.meaning.specs.Sight.{Sight, matches, nothing, spoilt, root_sight}
use Rattle.meaning.specs.Calls.{Answer, refused, accepted, is_kept}
use Rattle.meaning.specs.Answers.{number_of}
use Rattle.meaning.specs.Reading.{Trouble, refusal_of}
use Rattle.meaning.specs.Proving.{proof}
use Rattle.shown.proofs.Fourteen.{fourteen_exactly_without_root}
use Rattle.ways.proofs.Walking.{Formed}
use Rattle.ways.proofs.Theorems.{one_trouble, empty_exactly, proof_stopped_exactly}
use Rattle.layout.specs.Stores.{store_of}
use Rattle.palette_rules.specs.Palette.{whole_keys, keys_in, followed, in_turn, length_together, fitted_together, palette}
use Rattle.palette_rules.specs.Claims.{FirstRefused}
use Rattle.palette_rules.proofs.Turns.{proofs_of_each, each_mapped, asked_as, one_asked, first_refused, refused_first, each_proved}
use Rattle.palette_rules.proofs.Keys.{keys_are_32, keys_counted, list_is_keys, flat_is_whole}
use Rattle.ways.specs.Ways.{EmptyVersion}
use Rattle.refusals.specs.Tables.{NotKeys, StopsPalette}
use Rattle.refusals.proofs.Parts.{NotKept, TooLongTogether, asking_rows}
use Rattle.refusals.proofs.Exactly.{First}
use Rattle.refusals.proofs.Stopped.{Stopped, tested, met, passed}
use Rattle.refusals.proofs.Walks.{kept_said, not_kept, proof_is, refused_by}

clash : {A : Type 0} → ◌≡◌ {A = ℕ} 0 1 → A
clash e = absurd (omega arith)

same_proofs : {ps qs : List Proof} → ◌≡◌ {A = Answer (List Proof)} (accepted ps) (accepted qs) → ps ≡ qs
same_proofs e = cc

same_number : {m n : ℕ} → ◌≡◌ {A = Answer (List Proof)} (refused m) (refused n) → m ≡ n
same_number e = cc

module _ (s : Bytes) (formed : Formed (store_of s)) (v : ℕ) (keys : List Bytes) (room : Bytes) where
  abbrev Deserved : ℕ → Type 0
  Deserved n = Stopped (asking_rows s v keys) ((9, TooLongTogether s v keys room) ∷ []) (StopsPalette s v keys) n

  module _ (kept : is_kept (store_of s) v ≡ true) where
    not_8 : NotKept s v → ⊥
    not_8 n = n (kept_said (store_of s) v kept)

    -- what stops it is the first refusal of a single call
    stops_refused : (t : Trouble) → StopsPalette s v keys t → in_turn (proof (store_of s) v) keys ≡ refused (refusal_of t)
    stops_refused t w =
        refused_first (proof (store_of s) v) keys (refusal_of t)
        (asked_as (proof (store_of s) v) (λ k h. proof_is s formed v k kept ∙ (proof_stopped_exactly (store_of s) formed v k t).1 h) keys w)

    fits : (ps : List Proof) → in_turn (proof (store_of s) v) keys ≡ accepted ps → (b : Bool) → ltb (length room) (length_together ps) ≡ b →
        First ((9, TooLongTogether s v keys room) ∷ []) (number_of {A = List Proof} (cond b (refused 9) (accepted ps)))
    fits ps f true e = inl ((ps, (each_mapped (proof (store_of s) v) keys ps).1 (proofs_of_each (proof (store_of s) v) keys ps f), ltb-true (length room) (length_together ps) e), refl)
    fits ps f false e =
        inr (λ w. absurd (omega (arith, ltb-false (length room) (length_together ps) e, ap length_together (same_proofs (sym f ∙ each_proved (proof (store_of s) v) keys w.0 ((each_mapped (proof (store_of s) v) keys w.0).0 w.1))), w.2)), refl)

    given : (EmptyVersion (store_of s) v × (keys ≡ [] → ⊥) → ⊥) → (ps : List Proof) → in_turn (proof (store_of s) v) keys ≡ accepted ps →
        Deserved (number_of (fitted_together (length room) (accepted ps)))
    given full ps f =
        passed (not_8, (full, tt)) (λ t w. let z = sym f ∙ stops_refused t w in clash (cc)) (fits ps f (ltb (length room) (length_together ps)) refl)

    -- with a root
    rooted : (EmptyVersion (store_of s) v → ⊥) → (a : Answer (List Proof)) → in_turn (proof (store_of s) v) keys ≡ a → Deserved (number_of (fitted_together (length room) a))
    rooted full (accepted ps) f = given (λ q. full q.0) ps f
    rooted full (refused n) f = go (first_refused (proof (store_of s) v) keys n f)
      where
        go : FirstRefused (proof (store_of s) v) keys n → Deserved n
        go w = let (k, h) = one_asked (proof (store_of s) v) keys w in by k h (refused_by s formed v k kept h)
          where
            by : (k : Bytes) → proof (store_of s) v k ≡ refused n → ((t : Trouble) × (n ≡ refusal_of t)) ⊎ (n ≡ 14) → Deserved n
            by k h (inl (t, e)) =
                met (not_8, (λ q. full q.0, tt)) t
                (asked_as (proof (store_of s) v) (λ j i. (proof_stopped_exactly (store_of s) formed v j t).0 (sym (proof_is s formed v j kept) ∙ i ∙ ap refused e)) keys w)
                (λ u p. one_trouble t u (sym e ∙ same_number (sym f ∙ stops_refused u p))) e
            by k h (inr fourteen) =
                absurd (full ((empty_exactly (store_of s) v).0 ((fourteen_exactly_without_root (store_of s) formed v k).0 (h ∙ ap refused fourteen)).1))

    by_root : (x : Sight) → root_sight (store_of s) v ≡ x → Deserved (number_of (fitted_together (length room) (in_turn (proof (store_of s) v) keys)))
    by_root (matches r) e = rooted (λ w. let f = sym e ∙ (empty_exactly (store_of s) v).1 w in clash (cc)) (in_turn (proof (store_of s) v) keys) refl
    by_root (spoilt i) e = rooted (λ w. let f = sym e ∙ (empty_exactly (store_of s) v).1 w in clash (cc)) (in_turn (proof (store_of s) v) keys) refl
    by_root nothing e = asked keys refl
      where
        asked : (ks : List Bytes) → keys ≡ ks → Deserved (number_of (fitted_together (length room) (in_turn (proof (store_of s) v) keys)))
        asked [] q =
            let f = ap (in_turn (proof (store_of s) v)) q in
            subst (λ a. Deserved (number_of (fitted_together (length room) a))) (sym f) (given (λ w. w.1 q) [] f)
        asked (k ∷ ks) q =
            let f = ap (in_turn (proof (store_of s) v)) q
            ∙ ap (λ a. followed a (in_turn (proof (store_of s) v) ks)) ((fourteen_exactly_without_root (store_of s) formed v k).1 (kept, e)) in
            subst (λ a. Deserved (number_of (fitted_together (length room) a))) (sym f)
            (tested (inr (not_8, inl (((empty_exactly (store_of s) v).0 e, λ z. not_empty (sym z ∙ q)), refl))) (λ z. absurd (omega arith)))
          where
            not_empty : {x : Bytes} {xs : List Bytes} → [] ≡ x ∷ xs → ⊥
            not_empty i = let z : ◌≡◌ {A = ℕ} 0 1 = cc in omega arith

  pub palette_stopped : Deserved (number_of (palette (store_of s) v keys (length room)))
  unfolding palette
  palette_stopped = go (is_kept (store_of s) v) refl
    where
      go : (b : Bool) → is_kept (store_of s) v ≡ b →
          Deserved (number_of (cond b (fitted_together (length room) (in_turn (proof (store_of s) v) keys)) (refused 8)))
      go true e = by_root e (root_sight (store_of s) v) refl
      go false e = tested (inl (not_kept s v e, refl)) (λ z. absurd (omega arith))

-- 12
pub keys_whole : (list : Bytes) → whole_keys list ≡ true → NotKeys list → ⊥
keys_whole list e n = n (keys_in list) (keys_are_32 list) (keys_counted list e) (sym (list_is_keys list e))

pub keys_torn : (list : Bytes) → whole_keys list ≡ false → NotKeys list
keys_torn list e keys longs few same = true≢false (sym (flat_is_whole keys longs few) ∙ ap whole_keys (sym same) ∙ e)
