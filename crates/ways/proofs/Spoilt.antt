-- The third kind in words: a test of a slot's bytes holds exactly if their fields agree, and the slot that is named is the lowest that does.
-- Assumes nothing.
use Prim.Native.Nat.{ℕ, ◌<◌, ◌≤◌}
use native.Mathlib.Omega.{arith}
use mathlib.Core.Path.{◌≡◌, refl, ap, sym, ◌∙◌, subst}
use mathlib.Core.Logic.{◌↔◌, ◌⊎◌, inl, inr}
use mathlib.Core.Bool.{Bool, true, false, ◌&&◌, not, true≢false, false≢true}
use mathlib.Core.List.{[], ◌∷◌}
use mathlib.Core.Option.{Option, none, some}
use lib.ListN.{length}
use lib.Dec.{eqb, leb}
use borrow.Author.Tests.{eqb-true, eq-eqb, leb-true, leb-false, le-leb, lt-leb}
use Rattle.terms.specs.Bits.{Bytes, All, Place, pack, same_bytes}
use Rattle.terms.specs.Fields.{all_zero, all_of}
use Rattle.terms.specs.Heads.{count_in, bits_in, version_in, since_in}
use Rattle.terms.specs.Records.{Record, Store}
use Rattle.terms.proofs.Tests.{and_left, and_right, same_bytes_lem, bytes_same}
use Rattle.terms.proofs.Fields.{all_of_tests}
use Rattle.meaning.specs.Store.{find, root_of}
use Rattle.meaning.specs.Sight.{Sight, matches, nothing, spoilt, agrees, lives_by, agrees_root, lowest_spoilt, sighted, root_sight, node_sight}
use Rattle.meaning.proofs.Sights.{Spoilt, none_spoilt, spoilt_in, spoilt_is}
use Rattle.meaning.specs.Reading.{spoilt_record}
use Rattle.ways.specs.Ways.{Agrees, AgreesRoot, SpoiltIn, Stop, stopped_by, missing, Met, stop, found, Meets, first, second, third, AtRoot}

agrees_by : (v : ℕ) (p : Place) (x : Bytes) → (agrees v p x ≡ true) ↔ Agrees v p x
unfolding agrees all_of
agrees_by v p x = (there, back)
  where
    there : all_of (eqb (version_in x) v ∷ eqb (count_in x) (length p) ∷ same_bytes (bits_in x) (pack 32 p) ∷ []) ≡ true → Agrees v p x
    there e =
        let w = all_of_tests (eqb (version_in x) v ∷ eqb (count_in x) (length p) ∷ same_bytes (bits_in x) (pack 32 p) ∷ []) e in (
          eqb-true (version_in x) v w.0,
          eqb-true (count_in x) (length p) w.1.0,
          same_bytes_lem (bits_in x) (pack 32 p) w.1.1.0,
        )

    back : Agrees v p x → all_of (eqb (version_in x) v ∷ eqb (count_in x) (length p) ∷ same_bytes (bits_in x) (pack 32 p) ∷ []) ≡ true
    back w = rw (eq-eqb (version_in x) v w.0, eq-eqb (count_in x) (length p) w.1, w.2, bytes_same (pack 32 p))

-- zero bytes
zero_bytes_lem : (y : Bytes) → (all_zero y ≡ true) ↔ All (λ b. b ≡ 0) y
zero_bytes_lem [] = (λ e. tt, λ h. refl)
zero_bytes_lem (b ∷ y) = (
  λ e. (eqb-true b 0 (and_left (eqb b 0) (all_zero y) e), (zero_bytes_lem y).0 (and_right (eqb b 0) (all_zero y) e)),
  λ h. rw (eq-eqb b 0 h.0, (zero_bytes_lem y).1 h.1),
)

-- a lifetime by its fields
lives_by_lem : (v : ℕ) (x : Bytes) → (lives_by v x ≡ true) ↔ ((version_in x ≤ v) × ((since_in x ≡ 0) ⊎ (v < since_in x)))
unfolding lives_by
lives_by_lem v x = (there, back)
  where
    since : (a b : Bool) → leb 1 (since_in x) ≡ a → leb (since_in x) v ≡ b → not (a && b) ≡ true → (since_in x ≡ 0) ⊎ (v < since_in x)
    since false b e f h = inl (let z = leb-false 1 (since_in x) e in omega arith)
    since true true e f h = absurd (false≢true h)
    since true false e f h = inr (leb-false (since_in x) v f)

    there : leb (version_in x) v && not (leb 1 (since_in x) && leb (since_in x) v) ≡ true → (version_in x ≤ v) × ((since_in x ≡ 0) ⊎ (v < since_in x))
    there e =
        let a = leb (version_in x) v in
        let b = not (leb 1 (since_in x) && leb (since_in x) v) in
        (leb-true (version_in x) v (and_left a b e), since (leb 1 (since_in x)) (leb (since_in x) v) refl refl (and_right a b e))

    not_yet : (since_in x ≡ 0) ⊎ (v < since_in x) → not (leb 1 (since_in x) && leb (since_in x) v) ≡ true
    not_yet (inl z) = rw z
    not_yet (inr l) = rw (lt-leb (since_in x) v l) (off (leb 1 (since_in x)))
      where
        off : (d : Bool) → not (d && false) ≡ true
        off true = refl
        off false = refl

    back : (version_in x ≤ v) × ((since_in x ≡ 0) ⊎ (v < since_in x)) → leb (version_in x) v && not (leb 1 (since_in x) && leb (since_in x) v) ≡ true
    back h = rw (le-leb (version_in x) v h.0) (not_yet h.1)

agrees_root_by : (v : ℕ) (x : Bytes) → (agrees_root v x ≡ true) ↔ AgreesRoot v x
unfolding agrees_root all_of
agrees_root_by v x = (there, back)
  where
    there : all_of (eqb (count_in x) 0 ∷ all_zero (bits_in x) ∷ lives_by v x ∷ []) ≡ true → AgreesRoot v x
    there e =
        let w = all_of_tests (eqb (count_in x) 0 ∷ all_zero (bits_in x) ∷ lives_by v x ∷ []) e in
        let l = (lives_by_lem v x).0 w.1.1.0 in
        (eqb-true (count_in x) 0 w.0, (zero_bytes_lem (bits_in x)).0 w.1.0, l.0, l.1)

    back : AgreesRoot v x → all_of (eqb (count_in x) 0 ∷ all_zero (bits_in x) ∷ lives_by v x ∷ []) ≡ true
    back w = rw (eq-eqb (count_in x) 0 w.0, (zero_bytes_lem (bits_in x)).1 w.1, (lives_by_lem v x).1 (w.2, w.3))

-- the lowest spoilt slot that passes a test, where the test holds exactly if the bytes agree
module _ (st : Store) (test : Bytes → Bool) (agree : Bytes → Type 0) (by : (x : Bytes) → (test x ≡ true) ↔ agree x) where
  abbrev named : Option ℕ
  named = lowest_spoilt test 0 st.slots

  pub named_in : (i : ℕ) → named ≡ some i → SpoiltIn st agree i
  named_in i e = go named e (spoilt_is test 0 st.slots)
    where
      go : (o : Option ℕ) → o ≡ some i → Spoilt test 0 st.slots o → SpoiltIn st agree i
      go none f w = let z : ◌≡◌ {A = ℕ} 0 1 = cc in absurd (omega arith)
      go (some n) f (spoilt_in j x l h t low) =
          let same : j ≡ i = let z : n ≡ i = cc in omega arith in
          subst (SpoiltIn st agree) same
          (record { bytes = x; inside = l; here = h; agrees = (by x).0 t; lowest = λ k y m g a. true≢false (sym ((by y).1 a) ∙ low k y m g) })

  pub none_named : named ≡ none → (i : ℕ) → SpoiltIn st agree i → ⊥
  none_named e i w = go named e (spoilt_is test 0 st.slots)
    where
      go : (o : Option ℕ) → o ≡ none → Spoilt test 0 st.slots o → ⊥
      go none f (none_spoilt h) = true≢false (sym ((by w.bytes).1 w.agrees) ∙ h i w.bytes w.inside w.here)
      go (some n) f s = let z : ◌≡◌ {A = ℕ} 0 1 = cc in omega arith

-- what a sight meets, where one that sees nothing ends the way so
abbrev pub met_by : Stop → Sight → Met
met_by end (matches r) = found r
met_by end nothing = stop end
met_by end (spoilt i) = stop (stopped_by (spoilt_record i))

meets_of : (st : Store) (test : Bytes → Bool) (agree : Bytes → Type 0) → ((x : Bytes) → (test x ≡ true) ↔ agree x) → (o : Option Record) (end : Stop) →
    Meets st o agree end (met_by end (sighted o (lowest_spoilt test 0 st.slots)))
meets_of st test agree by (some r) end = first refl
meets_of st test agree by none end = go (lowest_spoilt test 0 st.slots) refl
  where
    go : (n : Option ℕ) → lowest_spoilt test 0 st.slots ≡ n → Meets st none agree end (met_by end (sighted none n))
    go none e = second refl (none_named st test agree by e)
    go (some i) e = third refl (named_in st test agree by i e)

-- what is met excludes all else
same_slot : (st : Store) (agree : Bytes → Type 0) (i j : ℕ) → SpoiltIn st agree i → SpoiltIn st agree j → i ≡ j
same_slot st agree i j a b = go (leb i j) (leb j i) refl refl
  where
    go : (m n : Bool) → leb i j ≡ m → leb j i ≡ n → i ≡ j
    go false n e f = absurd (a.lowest j b.bytes (leb-false i j e) b.here b.agrees)
    go true false e f = absurd (b.lowest i a.bytes (leb-false j i f) a.here a.agrees)
    go true true e f = let x = leb-true i j e in let y = leb-true j i f in omega arith

clash : {A : Type 0} {o : Option Record} {r : Record} → o ≡ some r → o ≡ none → A
clash e f = let g = sym e ∙ f in let z : ◌≡◌ {A = ℕ} 0 1 = cc in absurd (omega arith)

one_met : (st : Store) (o : Option Record) (agree : Bytes → Type 0) (end : Stop) (m n : Met) → Meets st o agree end m → Meets st o agree end n → m ≡ n
one_met st o agree end m n (first {r = r} e) (first {r = q} f) = let g = sym e ∙ f in let same : r ≡ q = cc in ap found same
one_met st o agree end m n (first e) (second f w) = clash e f
one_met st o agree end m n (first e) (third f w) = clash e f
one_met st o agree end m n (second e w) (first f) = clash f e
one_met st o agree end m n (second e w) (second f u) = refl
one_met st o agree end m n (second e w) (third {i = i} f u) = absurd (w i u)
one_met st o agree end m n (third e w) (first f) = clash f e
one_met st o agree end m n (third {i = i} e w) (second f u) = absurd (u i w)
one_met st o agree end m n (third {i = i} e w) (third {i = j} f u) = ap (λ k. stop (stopped_by (spoilt_record k))) (same_slot st agree i j w u)

-- of a node, and of a root
module _ (st : Store) (v : ℕ) (end : Stop) where
  pub node_meets : (p : Place) → Meets st (find v p st.slots) (Agrees v p) end (met_by end (node_sight st v p))
  unfolding node_sight
  node_meets p = meets_of st (agrees v p) (Agrees v p) (agrees_by v p) (find v p st.slots) end

  pub node_met : (p : Place) (m : Met) → Meets st (find v p st.slots) (Agrees v p) end m → met_by end (node_sight st v p) ≡ m
  node_met p m w = one_met st (find v p st.slots) (Agrees v p) end (met_by end (node_sight st v p)) m (node_meets p) w

pub root_meets : (st : Store) (v : ℕ) → AtRoot st v (met_by missing (root_sight st v))
unfolding root_sight
root_meets st v = meets_of st (agrees_root v) (AgreesRoot v) (agrees_root_by v) (root_of st v) missing

pub root_met : (st : Store) (v : ℕ) (m : Met) → AtRoot st v m → met_by missing (root_sight st v) ≡ m
root_met st v m w = one_met st (root_of st v) (AgreesRoot v) missing (met_by missing (root_sight st v)) m (root_meets st v) w
