-- Inside the profile the pocket checker and the full one agree, and so do the provers; what the pocket prover gives, the pocket checker accepts; which
-- proofs are inside, and how long they are. Assumes nothing.
use Prim.Native.Nat.{ℕ, ◌+◌, ◌<◌, ◌≤◌}
use native.Mathlib.Omega.{arith}
use mathlib.Core.Path.{◌≡◌, refl, ap, sym, ◌∙◌}
use mathlib.Core.Logic.{inl, inr, ◌⊎◌}
use mathlib.Core.Bool.{Bool, true, false, cond, ◌&&◌, true≢false}
use mathlib.Core.Option.{Option, none, some}
use lib.ListN.{length}
use lib.Dec.{ltb}
use borrow.Author.Tests.{leb-true, leb-false}
use Rattle.terms.specs.Bits.{Bytes, Whole32}
use Rattle.terms.specs.Records.{Presence, Absence, Proof, presence, absence, Store}
use Rattle.terms.proofs.Tests.{and_left, and_right}
use Rattle.meaning.specs.Tree.{grants_in}
use Rattle.meaning.specs.Store.{tree_at_version}
use Rattle.meaning.specs.Sound.{Kept, Sound}
use Rattle.meaning.specs.Calls.{Answer, refused, accepted}
use Rattle.meaning.specs.Reading.{Verdict, read_root, answer_of}
use Rattle.meaning.specs.Proving.{HoldsGrant, proof, presence_length, neighbour_length, proof_length, fitted, prove}
use Rattle.meaning.specs.Checking.{checked}
use Rattle.shown.proofs.Theorems.{shown}
use Rattle.pocket.specs.Pocket.{pocket_steps, Outside, short_path, short_neighbour, small, in_profile, pocket_prove}
use Rattle.pocket.specs.Checking.{pocket_checked}

module _ (leaf_hash inner_hash : Bytes → Bytes → Bytes) (root k : Bytes) (p : Proof) where
  -- Inside the profile, the pocket checker and the full one agree;
  pub inside_they_agree : small p ≡ true → pocket_checked leaf_hash inner_hash root k p ≡ checked leaf_hash inner_hash root k p
  unfolding pocket_checked
  inside_they_agree e = rw e refl

  -- outside it the pocket checker gives 19.
  pub outside_is_refused : small p ≡ false → pocket_checked leaf_hash inner_hash root k p ≡ refused 19
  unfolding pocket_checked
  outside_is_refused e = rw e refl

-- What the pocket prover gives is what the full one gives, and inside the profile;
given : (room : ℕ) (p : Proof) (a : Answer Proof) → fitted room (in_profile a) ≡ accepted p →
    (small p ≡ true) × (a ≡ accepted p) × (fitted room a ≡ accepted p)
given room p (refused n) h = let z : ◌≡◌ {A = ℕ} 0 1 = cc in absurd (omega arith)
given room p (accepted q) h = go (small q) refl (ltb room (proof_length q)) refl h
  where
    go : (b : Bool) → small q ≡ b → (c : Bool) → ltb room (proof_length q) ≡ c → fitted room (cond b (accepted q) (refused 19)) ≡ accepted p →
        (small p ≡ true) × (accepted q ≡ accepted p) × (cond (ltb room (proof_length q)) (refused 9) (accepted q) ≡ accepted p)
    go false f c g h = let z : ◌≡◌ {A = ℕ} 0 1 = cc in absurd (omega arith)
    go true f true g h = let z : accepted p ≡ refused 9 = sym h ∙ rw g refl in let y : ◌≡◌ {A = ℕ} 0 1 = cc in absurd (omega arith)
    go true f false g h =
        let same : accepted q ≡ accepted p = sym (rw g refl) ∙ h in
        let q-is : q ≡ p = cc in
        (ap small (sym q-is) ∙ f, same, rw g same)

module _ (st : Store) (v : ℕ) (k : Bytes) (room : ℕ) (p : Proof) where
  pub pocket_gives_proofs_inside : pocket_prove st v k room ≡ accepted p → (small p ≡ true) × (prove st v k room ≡ accepted p)
  unfolding pocket_prove prove
  pocket_gives_proofs_inside e = let g = given room p (proof st v k) e in (g.0, g.2)

  -- and inside the profile, the provers agree.
  pub inside_provers_agree : proof st v k ≡ accepted p → small p ≡ true → pocket_prove st v k room ≡ prove st v k room
  unfolding pocket_prove prove
  inside_provers_agree e s = ap (λ a. fitted room (in_profile a)) e ∙ ap (λ b. fitted room (cond b (accepted p) (refused 19))) s ∙ sym (ap (fitted room) e)

  -- 19 exactly where the full prover has a proof, of whatever length, that is outside.
  pub outside_is_not_given : proof st v k ≡ accepted p → small p ≡ false → pocket_prove st v k room ≡ refused 19
  unfolding pocket_prove
  outside_is_not_given e s = ap (λ a. fitted room (in_profile a)) e ∙ ap (λ b. fitted room (cond b (accepted p) (refused 19))) s

-- From a sound store, what the pocket prover gives the pocket checker accepts, against the root that is read, with what the version's grants say of the key.
pub pocket_is_shown : (leaf_hash inner_hash : Bytes → Bytes → Bytes) (st : Store) → Sound leaf_hash inner_hash st → (v : ℕ) → Kept st v → (k : Bytes) → Whole32 k →
    HoldsGrant st v → (root : Bytes) → read_root leaf_hash inner_hash st v ≡ accepted root → (room : ℕ) (p : Proof) → pocket_prove st v k room ≡ accepted p →
    pocket_checked leaf_hash inner_hash root k p ≡ accepted (answer_of k (grants_in (tree_at_version st v)))
unfolding pocket_prove
pocket_is_shown leaf_hash inner_hash st s v kept k whole holds root read room p e =
    let w = shown leaf_hash inner_hash st s v kept k whole holds root read in
    let g = given room p (proof st v k) e in
    let same : w.0 ≡ p = accepted_same (sym w.1 ∙ g.1) in
    inside_they_agree leaf_hash inner_hash root k p g.0 ∙ ap (λ x. checked leaf_hash inner_hash root k x) (sym same) ∙ w.2
  where
    accepted_same : {x y : Proof} → ◌≡◌ {A = Answer Proof} (accepted x) (accepted y) → x ≡ y
    accepted_same e = cc

-- The test is right: no leaf that a proof inside shows has more than 32 steps, and one of a proof outside has.
short_exactly : (p : Presence) → short_path p ≡ true → pocket_steps < length p.steps → ⊥
unfolding short_path
short_exactly p e h = absurd (omega (arith, leb-true (length p.steps) pocket_steps e))

long_exactly : (p : Presence) → short_path p ≡ false → pocket_steps < length p.steps
unfolding short_path
long_exactly p e = omega (arith, leb-false (length p.steps) pocket_steps e)

neighbour_inside : (o : Option Presence) (q : Presence) → short_neighbour o ≡ true → o ≡ some q → pocket_steps < length q.steps → ⊥
neighbour_inside o q e f = short_exactly q (sym (ap short_neighbour f) ∙ e)

-- A leaf that a proof shows: its own, or a neighbour.
abbrev pub Shows : Proof → Presence → Type 0
Shows (presence p) q = p ≡ q
Shows (absence a) q = (a.leftward ≡ some q) ⊎ (a.rightward ≡ some q)

-- A leaf shown has more than 32 steps: the words for `Outside`.
abbrev pub ShowsLong : Proof → Type 0
ShowsLong p = (q : Presence) × Shows p q × (pocket_steps < length q.steps)

pub inside_shows_short : (p : Proof) → small p ≡ true → ShowsLong p → ⊥
inside_shows_short (presence p) e (q, same, long) = short_exactly q (sym (ap short_path same) ∙ e) long
inside_shows_short (absence a) e (q, inl same, long) =
    neighbour_inside a.leftward q (and_left (short_neighbour a.leftward) (short_neighbour a.rightward) e) same long
inside_shows_short (absence a) e (q, inr same, long) =
    neighbour_inside a.rightward q (and_right (short_neighbour a.leftward) (short_neighbour a.rightward) e) same long

pub outside_shows_long : (p : Proof) → Outside p → ShowsLong p
outside_shows_long (presence p) e = (p, refl, long_exactly p e)
outside_shows_long (absence a) e = go a.leftward refl a.rightward refl e
  where
    go : (l : Option Presence) → a.leftward ≡ l → (r : Option Presence) → a.rightward ≡ r → short_neighbour l && short_neighbour r ≡ false → ShowsLong (absence a)
    go none x none y e = let z : ◌≡◌ {A = ℕ} 0 1 = cc in absurd (omega arith)
    go none x (some q) y e = (q, inr y, long_exactly q e)
    go (some p) x none y e = by_left (short_path p) refl e
      where
        by_left : (b : Bool) → short_path p ≡ b → b && true ≡ false → ShowsLong (absence a)
        by_left true f e = let z : ◌≡◌ {A = ℕ} 0 1 = cc in absurd (omega arith)
        by_left false f e = (p, inl x, long_exactly p f)
    go (some p) x (some q) y e = by_left (short_path p) refl e
      where
        by_left : (b : Bool) → short_path p ≡ b → b && short_path q ≡ false → ShowsLong (absence a)
        by_left true f e = (q, inr y, long_exactly q e)
        by_left false f e = (p, inl x, long_exactly p f)

pub not_both_sides : (p : Proof) → small p ≡ true → Outside p → ⊥
not_both_sides p e f = true≢false (sym e ∙ f)

-- A presence proof inside the profile has at most 1,128 bytes, with 32 steps just that; an absence proof at most 2,296.
pub short_length : (p : Presence) → short_path p ≡ true → presence_length p ≤ 1128
unfolding short_path presence_length
short_length p e = omega (arith, leb-true (length p.steps) pocket_steps e)

pub thirty_two_steps_have_1128_bytes : (p : Presence) → length p.steps ≡ pocket_steps → presence_length p ≡ 1128
unfolding presence_length
thirty_two_steps_have_1128_bytes p e = omega (arith, e)

short_neighbour_lem : (o : Option Presence) → short_neighbour o ≡ true → neighbour_length o ≤ 1128
short_neighbour_lem none e = omega arith
short_neighbour_lem (some p) e = short_length p e

pub pocket_proofs_have_2296_bytes : (p : Proof) → small p ≡ true → proof_length p ≤ 2296
pocket_proofs_have_2296_bytes (presence p) e = omega (arith, short_length p e)
pocket_proofs_have_2296_bytes (absence a) e =
    let l = short_neighbour a.leftward in
    let r = short_neighbour a.rightward in
    omega (arith, short_neighbour_lem a.leftward (and_left l r e), short_neighbour_lem a.rightward (and_right l r e))

pub two_of_32_steps_have_2296_bytes : (a : Absence) (p q : Presence) → a.leftward ≡ some p → a.rightward ≡ some q → length p.steps ≡ pocket_steps →
    length q.steps ≡ pocket_steps → proof_length (absence a) ≡ 2296
two_of_32_steps_have_2296_bytes a p q e f l r =
    let x = ap neighbour_length e ∙ thirty_two_steps_have_1128_bytes p l in
    let y = ap neighbour_length f ∙ thirty_two_steps_have_1128_bytes q r in
    omega (arith, x, y)
