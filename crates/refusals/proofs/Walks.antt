-- Rows 8, 14, 17, 3 and 9 of prune and of the reads: what the definitions answer is what they deserve. Assumes nothing.
use Prim.Native.Nat.{ℕ}
use native.Mathlib.Omega.{arith}
use mathlib.Core.Path.{◌≡◌, refl, ap, sym, ◌∙◌, subst}
use mathlib.Core.Logic.{◌⊎◌, inl, inr}
use mathlib.Core.Bool.{Bool, true, false, cond, true≢false}
use mathlib.Core.List.{[], ◌∷◌, map}
use lib.ListN.{length, drop}
use lib.Dec.{leb, ltb}
use borrow.Author.Tests.{leb-true, le-leb, ltb-true, ltb-false}
use Rattle.terms.specs.Bits.{Bytes, left, right, same_bytes}
use Rattle.terms.specs.Records.{Store, Proof, presence}
use Rattle.terms.proofs.Tests.{and_left, and_right}
use Rattle.meaning.specs.Sight.{Sight, matches, nothing, spoilt, root_sight, scan}
use Rattle.meaning.specs.Sound.{Kept}
use Rattle.meaning.specs.Calls.{Answer, refused, accepted, is_kept, refuse, prune}
use Rattle.meaning.specs.Answers.{number_of}
use Rattle.meaning.specs.Reading.{Trouble, spoilt_record, refusal_of, seen, End, walk_stopped, at_leaf, at_gap, walk, read_end, read_key, root_read, read_root}
use Rattle.meaning.specs.Proving.{step_up, presence_of, Sought, search_stopped, nobody, somebody, neighbour, absence_from, absence_at, prove_end, prove_seen, proof, proof_length, fitted, prove}
use Rattle.meaning.proofs.Empty.{proof_by_searches}
use Rattle.shown.proofs.Fourteen.{fourteen_exactly_without_root}
use Rattle.histories.proofs.Calls.{prune_cases}
use Rattle.ways.proofs.Walking.{Formed}
use Rattle.ways.proofs.Theorems.{one_trouble, empty_exactly, root_stopped_exactly, key_stopped_exactly, proof_stopped_exactly}
use Rattle.layout.specs.Stores.{store_of}
use Rattle.refusals.specs.Exactly.{Table}
use Rattle.ways.specs.Ways.{RootStopped, KeyStopped, ProofStopped, EmptyVersion}
use Rattle.refusals.specs.Tables.{TooLong, get_rows, prove_rows}
use Rattle.refusals.proofs.Parts.{Row, NotKept, version_rows, proving_rows}
use Rattle.refusals.proofs.Exactly.{First}
use Rattle.refusals.proofs.Stopped.{Stopped, tested, met, passed, stopped_past}

-- Where two neighbouring rows are deserved at once, the answer is the number of the one that is tested first.
module _ (s : Bytes) (v : ℕ) (k room : Bytes) where
  abbrev key : Table
  key = drop 3 (get_rows s v k)

  abbrev proving : Table
  proving = drop 3 (prove_rows s v k room)

  twelve_before_one : Row 12 (get_rows s v k) → Row 1 (get_rows s v k) → First (get_rows s v k) 12
  twelve_before_one a b = inl (a, refl)

  eight_before_three : Row 8 key → Row 3 key → First key 8
  eight_before_three a b = inl (a, refl)

  eight_before_fourteen : Row 8 proving → Row 14 proving → First proving 8
  eight_before_fourteen a b = inl (a, refl)

  module _ (kept : Row 8 proving → ⊥) where
    fourteen_before_three : Row 14 proving → Row 3 proving → First proving 14
    fourteen_before_three a b = inr (kept, inl (a, refl))

    three_before_nine : (Row 14 proving → ⊥) → (Row 17 proving → ⊥) → Row 3 proving → First proving 3
    three_before_nine some found a = inr (kept, inr (some, inr (found, inl (a, refl))))

pub clash : {A : Type 0} → ◌≡◌ {A = ℕ} 0 1 → A
clash e = absurd (omega arith)

-- row 8 by its test
pub kept_said : (st : Store) (v : ℕ) → is_kept st v ≡ true → Kept st v
unfolding is_kept
kept_said st v e =
    let a = leb st.oldest v in
    let b = leb v st.latest in
    (leb-true st.oldest v (and_left a b e), leb-true v st.latest (and_right a b e))

said_kept : (st : Store) (v : ℕ) → Kept st v → is_kept st v ≡ true
unfolding is_kept
said_kept st v h = rw (le-leb st.oldest v h.0, le-leb v st.latest h.1)

pub prune_first : (n : ℕ) (s : Bytes) → First (version_rows s n) (number_of (prune n (store_of s)).answer)
unfolding refuse
prune_first n s =
    prune_cases (λ o. First (version_rows s n) (number_of o.answer)) n (store_of s) (λ h. inl (h, refl)) (λ h. inr (λ f. f h, refl))

-- a test of the version, and what a read is stopped by after it
pub not_kept : (s : Bytes) (v : ℕ) → is_kept (store_of s) v ≡ false → NotKept s v
not_kept s v e h = true≢false (sym (said_kept (store_of s) v h) ∙ e)

by_kept : {A : Type 0} {later : Table} {stops : Trouble → Type 0} (s : Bytes) (v : ℕ) (a : Answer A) → Stopped [] later stops (number_of a) →
    Stopped (version_rows s v) later stops (number_of (cond (is_kept (store_of s) v) a (refused 8)))
by_kept {later = later} {stops = stops} s v a w = go (is_kept (store_of s) v) refl
  where
    go : (b : Bool) → is_kept (store_of s) v ≡ b → Stopped (version_rows s v) later stops (number_of (cond b a (refused 8)))
    go true e = stopped_past (version_rows s v) [] (λ n. n (kept_said (store_of s) v e), tt) w
    go false e = tested (inl (not_kept s v e, refl)) (λ z. absurd (omega arith))

-- refusals of one answer
pub one_refusal : {A : Type 0} {a : Answer A} (t u : Trouble) → a ≡ refused (refusal_of t) → a ≡ refused (refusal_of u) → t ≡ u
one_refusal t u e f = one_trouble t u (let g = sym e ∙ f in cc)

-- the root read
module _ (leaf_hash inner_hash : Bytes → Bytes → Bytes) (s : Bytes) (v : ℕ) where
  pub root_stopped : Stopped (version_rows s v) [] (RootStopped (store_of s) v) (number_of (read_root leaf_hash inner_hash (store_of s) v))
  unfolding read_root
  root_stopped = by_kept s v (root_read leaf_hash inner_hash (root_sight (store_of s) v)) (go (root_sight (store_of s) v) refl)
    where
      not_stopped : {x : Sight} {root : Bytes} → root_sight (store_of s) v ≡ x → root_read leaf_hash inner_hash x ≡ accepted root → (t : Trouble) → RootStopped (store_of s) v t → ⊥
      not_stopped e f t p =
          let g = sym ((root_stopped_exactly (store_of s) v leaf_hash inner_hash t).1 p) ∙ ap (root_read leaf_hash inner_hash) e ∙ f in clash (cc)

      go : (x : Sight) → root_sight (store_of s) v ≡ x → Stopped [] [] (RootStopped (store_of s) v) (number_of (root_read leaf_hash inner_hash x))
      go (matches r) e = passed tt (not_stopped e refl) refl
      go nothing e = passed tt (not_stopped e refl) refl
      go (spoilt i) e =
          let f = ap (root_read leaf_hash inner_hash) e in
          met tt (spoilt_record i) ((root_stopped_exactly (store_of s) v leaf_hash inner_hash (spoilt_record i)).0 f)
          (λ u p. one_refusal (spoilt_record i) u f ((root_stopped_exactly (store_of s) v leaf_hash inner_hash u).1 p)) refl

module _ (s : Bytes) (formed : Formed (store_of s)) (v : ℕ) (k : Bytes) where
  -- the key read
  pub get_stopped : Stopped (version_rows s v) [] (KeyStopped (store_of s) v k) (number_of (read_key (store_of s) v k))
  unfolding read_key
  get_stopped = by_kept s v (read_end k (walk k 0 [] (seen (scan (store_of s)) v))) (go (walk k 0 [] (seen (scan (store_of s)) v)) refl)
    where
      go : (e : End) → walk k 0 [] (seen (scan (store_of s)) v) ≡ e → Stopped [] [] (KeyStopped (store_of s) v k) (number_of (read_end k e))
      go (walk_stopped t) f =
          met tt t ((key_stopped_exactly (store_of s) formed v k t).0 f) (λ u p. let g = sym f ∙ (key_stopped_exactly (store_of s) formed v k u).1 p in cc) refl
      go (at_leaf l x trail) f = passed tt (λ t p. let g = sym f ∙ (key_stopped_exactly (store_of s) formed v k t).1 p in clash (cc)) refl
      go (at_gap trail) f = passed tt (λ t p. let g = sym f ∙ (key_stopped_exactly (store_of s) formed v k t).1 p in clash (cc)) refl

  -- what isn't proved at the end of a walk is refused by what stopped a search, or with 14
  abbrev By : ℕ → Type 0
  By n = ((t : Trouble) × (n ≡ refusal_of t)) ⊎ (n ≡ 14)

  absence_refused : (x y : Sought) {n : ℕ} → absence_from k x y ≡ refused n → By n
  absence_refused (search_stopped t) y e = inl (t, cc)
  absence_refused nobody (search_stopped t) e = inl (t, cc)
  absence_refused nobody nobody e = inr (cc)
  absence_refused nobody (somebody q) e = clash (cc)
  absence_refused (somebody p) (search_stopped t) e = inl (t, cc)
  absence_refused (somebody p) nobody e = clash (cc)
  absence_refused (somebody p) (somebody q) e = clash (cc)

  end_refused : (e : End) {n : ℕ} → prove_end k e ≡ refused n → By n
  unfolding absence_at
  end_refused (walk_stopped t) h = inl (t, cc)
  end_refused (at_gap trail) h = absence_refused (neighbour left k (at_gap trail)) (neighbour right k (at_gap trail)) h
  end_refused (at_leaf l x trail) {n} h = go (same_bytes k l) h
    where
      go : (b : Bool) →
          cond b (accepted (presence (presence_of l x (map step_up trail))))
          (absence_from k (neighbour left k (at_leaf l x trail)) (neighbour right k (at_leaf l x trail)))
          ≡ refused n → By n
      go true f = clash (cc)
      go false f = absence_refused (neighbour left k (at_leaf l x trail)) (neighbour right k (at_leaf l x trail)) f

  -- proving
  pub proof_is : is_kept (store_of s) v ≡ true → proof (store_of s) v k ≡ prove_end k (walk k 0 [] (seen (scan (store_of s)) v))
  unfolding prove_seen
  proof_is e =
      proof_by_searches (store_of s) v k ∙ ap (λ b. cond b (prove_end k (walk k 0 [] (seen (scan (store_of s)) v))) (refused 8)) e

  refused_8 : is_kept (store_of s) v ≡ false → proof (store_of s) v k ≡ refused 8
  refused_8 e = proof_by_searches (store_of s) v k ∙ ap (λ b. cond b (prove_seen k (seen (scan (store_of s)) v)) (refused 8)) e

  pub same_proof : {p q : Proof} → ◌≡◌ {A = Answer Proof} (accepted p) (accepted q) → p ≡ q
  same_proof e = cc

  -- Proving, and what is done with the proof afterwards: a refusal stays, and an accepted proof is refused by later rows or given.
  module _ (later : Table) (give : Answer Proof → Answer Proof) (stays : (n : ℕ) → give (refused n) ≡ refused n)
      (given : (p : Proof) → proof (store_of s) v k ≡ accepted p → First later (number_of (give (accepted p)))) where
    abbrev Deserved : ℕ → Type 0
    Deserved n = Stopped (proving_rows s v) later (ProofStopped (store_of s) v k) n

    module _ (kept : is_kept (store_of s) v ≡ true) where
      not_8 : NotKept s v → ⊥
      not_8 n = n (kept_said (store_of s) v kept)

      -- with a root, proving is stopped, or there is a proof
      rooted : (EmptyVersion (store_of s) v → ⊥) → (a : Answer Proof) → proof (store_of s) v k ≡ a → Deserved (number_of (give a))
      rooted full (refused n) f = subst (λ a. Deserved (number_of a)) (sym (stays n)) (go (end_refused (walk k 0 [] (seen (scan (store_of s)) v)) (sym (proof_is kept) ∙ f)))
        where
          go : By n → Deserved n
          go (inl (t, e)) =
              let g = sym (proof_is kept) ∙ f ∙ ap refused e in
              met (not_8, (full, tt)) t ((proof_stopped_exactly (store_of s) formed v k t).0 g)
              (λ u p. one_refusal t u g ((proof_stopped_exactly (store_of s) formed v k u).1 p)) e
          go (inr fourteen) =
              absurd (full ((empty_exactly (store_of s) v).0 ((fourteen_exactly_without_root (store_of s) formed v k).0 (f ∙ ap refused fourteen)).1))
      rooted full (accepted p) f = passed (not_8, (full, tt)) not_stopped (given p f)
        where
          not_stopped : (t : Trouble) → ProofStopped (store_of s) v k t → ⊥
          not_stopped t l = let z = sym f ∙ proof_is kept ∙ (proof_stopped_exactly (store_of s) formed v k t).1 l in clash (cc)

      by_root : (x : Sight) → root_sight (store_of s) v ≡ x → Deserved (number_of (give (proof (store_of s) v k)))
      by_root nothing e =
          subst (λ a. Deserved (number_of a)) (sym (ap give ((fourteen_exactly_without_root (store_of s) formed v k).1 (kept, e)) ∙ stays 14))
          (tested (inr (not_8, inl ((empty_exactly (store_of s) v).0 e, refl))) (λ z. absurd (omega arith)))
      by_root (matches r) e = rooted (λ w. let f = sym e ∙ (empty_exactly (store_of s) v).1 w in clash (cc)) (proof (store_of s) v k) refl
      by_root (spoilt i) e = rooted (λ w. let f = sym e ∙ (empty_exactly (store_of s) v).1 w in clash (cc)) (proof (store_of s) v k) refl

    pub proof_stopped : Deserved (number_of (give (proof (store_of s) v k)))
    proof_stopped = go (is_kept (store_of s) v) refl
      where
        go : (b : Bool) → is_kept (store_of s) v ≡ b → Deserved (number_of (give (proof (store_of s) v k)))
        go true e = by_root e (root_sight (store_of s) v) refl
        go false e =
            subst (λ a. Deserved (number_of a)) (sym (ap give (refused_8 e) ∙ stays 8)) (tested (inl (not_kept s v e, refl)) (λ z. absurd (omega arith)))

  pub refused_by : is_kept (store_of s) v ≡ true → {n : ℕ} → proof (store_of s) v k ≡ refused n → ((t : Trouble) × (n ≡ refusal_of t)) ⊎ (n ≡ 14)
  refused_by kept f = end_refused (walk k 0 [] (seen (scan (store_of s)) v)) (sym (proof_is kept) ∙ f)

  -- row 9: the proof there is fits, or is too long
  pub fits_first : (room : Bytes) (p : Proof) → proof (store_of s) v k ≡ accepted p → First ((9, TooLong s v k room) ∷ []) (number_of (fitted (length room) (accepted p)))
  fits_first room p f = go (ltb (length room) (proof_length p)) refl
    where
      go : (b : Bool) → ltb (length room) (proof_length p) ≡ b → First ((9, TooLong s v k room) ∷ []) (number_of {A = Proof} (cond b (refused 9) (accepted p)))
      go true e = inl ((p, f, ltb-true (length room) (proof_length p) e), refl)
      go false e =
          inr (λ t. absurd (omega (arith, ltb-false (length room) (proof_length p) e, ap proof_length (same_proof (sym f ∙ t.1)), t.2)), refl)

  pub prove_stopped : (room : Bytes) → Stopped (proving_rows s v) ((9, TooLong s v k room) ∷ []) (ProofStopped (store_of s) v k) (number_of (prove (store_of s) v k (length room)))
  unfolding prove
  prove_stopped room = proof_stopped ((9, TooLong s v k room) ∷ []) (fitted (length room)) (λ n. refl) (fits_first room)
