-- Growing a subtree gives the tree of the run's inserts, with the leaf that stays amid them, all of it new: its count is theirs, and each side
-- of it grows on its side. Assumes nothing.
use Prim.Native.Nat.{ℕ, zero, suc, ◌+◌, ◌<◌}
use native.Mathlib.Omega.{arith}
use mathlib.Core.Path.{◌≡◌, refl, ap, sym, ◌∙◌, subst, subst₂}
use mathlib.Core.Logic.{inl, inr}
use mathlib.Core.Bool.{true, false, cond, beq}
use mathlib.Core.List.{List, [], ◌∷◌, ◌++◌, append-nil}
use mathlib.Core.Option.{Option, none, some}
use lib.ListN.{length}
use Rattle.terms.specs.Bits.{Bytes, Side, left, right, Place, longer, bit}
use Rattle.terms.specs.Records.{Grant, Ask}
use Rattle.terms.proofs.Lists.{all_filter}
use Rattle.terms.proofs.Places.{length_longer}
use Rattle.meaning.specs.Tree.{Tree, none, by_count, grants, with_batch, vnone, same_grants, node_version}
use Rattle.meaning.specs.Runs.{asks_for, run}
use Rattle.meaning.proofs.Sides.{side, tree_by, Radix}
use Rattle.meaning.proofs.Runs.{side_batch}
use Rattle.meaning.proofs.Shaped.{Shaped}
use Rattle.steps.specs.Step.{unchanged, Outcome, outcome, inserts, to_grow, leaf_on, grow_by, grow}
use Rattle.steps.specs.Given.{Among, Gives}
use Rattle.steps.proofs.Inserts.{Rising, Unasked, batch_of_nothing, batch_beside}
use Rattle.steps.proofs.Among.{among_left, among_append}
use Rattle.steps.proofs.Becoming.{Made, made, fork_gives}
use Rattle.steps.proofs.Fitting.{Fits, fits_side, fits_radix, fits_shaped}

-- as many grants, and the same one where there is one
data Alike : List Grant → List Grant → Type 0 where
  no_grant_lem : Alike [] []
  one_grant : {g : Grant} → Alike (g ∷ []) (g ∷ [])
  more_grants : {g h g' h' : Grant} {gs hs : List Grant} → Alike (g ∷ h ∷ gs) (g' ∷ h' ∷ hs)

alike_self : (gs : List Grant) → Alike gs gs
alike_self [] = no_grant_lem
alike_self (g ∷ []) = one_grant
alike_self (g ∷ h ∷ gs) = more_grants

alike_amid : (g : Grant) (front rest : List Grant) → Alike (g ∷ (front ++ rest)) (front ++ g ∷ rest)
alike_amid g [] rest = alike_self (g ∷ rest)
alike_amid g (x ∷ []) rest = more_grants
alike_amid g (x ∷ y ∷ front) rest = more_grants

-- the leaf that stays, as grants
abbrev pub staying : Option Grant → List Grant
staying none = []
staying (some g) = g ∷ []

-- it stays if nothing is asked for its key
abbrev pub Stays : Option Grant → List Ask → Type 0
Stays none asks = Unit {0}
Stays (some g) asks = Unasked g.key asks

-- what is to grow is, but for its order, what the run makes
grows_alike : (stays : Option Grant) (asks : List Ask) → Rising asks → Stays stays asks →
    Alike (to_grow stays asks) (with_batch asks (staying stays))
grows_alike none asks s u = subst (Alike (inserts asks)) (sym (batch_of_nothing asks s)) (alike_self (inserts asks))
grows_alike (some g) asks s u =
    let m = batch_beside g asks s u in
    subst₂ (λ hs ws. Alike (g ∷ hs) ws) (sym m.others) (sym m.whole) (alike_amid g m.front m.rest)

-- on a side
pub staying_on : (i : ℕ) (b : Side) (stays : Option Grant) → side i b (staying stays) ≡ staying (leaf_on i b stays)
unfolding side
staying_on i b none = refl
staying_on i b (some g) =
    elim (beq b (bit i g.key)) as (λ t. cond t (g ∷ []) [] ≡ staying (cond t (some g) none)) [ true ↦ refl | false ↦ refl ]

pub stays_on : (i : ℕ) (b : Side) (stays : Option Grant) (asks : List Ask) → Stays stays asks → Stays (leaf_on i b stays) (run i b asks)
stays_on i b none asks u = tt
stays_on i b (some g) asks u =
    elim (beq b (bit i g.key)) as (λ t. Stays (cond t (some g) none) (run i b asks))
    [ true ↦ all_filter _ (asks_for i b) asks u | false ↦ tt ]

-- at the place of a whole key there are no two
at_most_one : (i : ℕ) (gs : List Grant) → 1 < length gs → Radix zero i gs → ⊥
at_most_one i [] h r = omega arith
at_most_one i (g ∷ []) h r = omega arith
at_most_one i (g ∷ g' ∷ gs) h r = r

alike_length : (hs ws : List Grant) → Alike hs ws → 1 < length hs → 1 < length ws
alike_length hs ws no_grant_lem h = h
alike_length hs ws one_grant h = h
alike_length hs ws more_grants h = omega arith

pub grows_one : (p : Place) (stays : Option Grant) (asks : List Ask) → length p ≡ 256 → Fits p (staying stays) asks → Stays stays asks →
    1 < length (to_grow stays asks) → ⊥
grows_one p stays asks e f u h =
    let ws : List Grant = with_batch asks (staying stays) in
    at_most_one (length p) ws (alike_length (to_grow stays asks) ws (grows_alike stays asks f.rising u) h)
    (fits_radix zero p (staying stays) asks (omega arith) f)

pub some_new : (gs : List Grant) → 1 < length gs → same_grants [] gs ≡ false
some_new [] h = absurd (omega arith)
some_new (g ∷ gs) h = refl

module _ (leaf_hash inner_hash : Bytes → Bytes → Bytes) (new : ℕ) where
  -- where there was no node
  abbrev GivesNew : Place → Tree → Outcome → Type 0
  GivesNew p now o = Gives leaf_hash inner_hash new p vnone now o

  abbrev MadeNew : Place → Tree → Outcome → Type 0
  MadeNew p now o = Made leaf_hash inner_hash new p vnone now o

  -- nothing ends
  nothing_ends : (p : Place) (now : Tree) (o : Outcome) → MadeNew p now o → (v : ℕ) (q : Place) → Among v q o.retired → ⊥
  nothing_ends p now o m v q h = ((m.gives.retired_is v q).0 (among_left v q o.retired _ h)).0

  grow_by_lem : (p : Place) (hs ws : List Grant) (child : Side → Outcome) (now : Side → Tree) → Alike hs ws → Shaped p (by_count ws now) →
      (1 < length ws → (b : Side) → MadeNew (longer b p) (now b) (child b)) →
      GivesNew p (by_count ws now) (grow_by leaf_hash inner_hash new p hs child)
  unfolding node_version
  grow_by_lem p hs ws child now no_grant_lem s f =
      record { node_is = refl; change_is = refl; fresh_is = refl; retired_is = λ v q. (λ k. absurd k, λ k. absurd k.0) }
  grow_by_lem p hs ws child now one_grant s f =
      record { node_is = refl; change_is = refl; fresh_is = refl; retired_is = λ v q. (λ k. absurd k, λ k. absurd k.0) }
  grow_by_lem p hs ws child now more_grants s f =
      let both : List Grant = grants (now left) ++ grants (now right) in
      let made-on = f (omega arith) in
      fork_gives leaf_hash inner_hash new p vnone (now left) (now right) (child left) (child right) [] (some_new both s.1) s.1
      (made-on left) (made-on right) (λ v q. (
        λ k. absurd (elim (among_append v q (child left).retired (child right).retired (simp append-nil at k)) [
          | inl i ↦ nothing_ends (longer left p) (now left) (child left) (made-on left) v q i
          | inr i ↦ nothing_ends (longer right p) (now right) (child right) (made-on right) v q i
        ]),
        λ k. absurd k.0,
      ))

  -- what the run makes of the leaf that stays
  abbrev grown : ℕ → Place → Option Grant → List Ask → Tree
  grown n p stays asks = tree_by n (length p) (with_batch asks (staying stays))

  abbrev GrowGives : ℕ → Type 0
  GrowGives n = (p : Place) (stays : Option Grant) (asks : List Ask) → length p + n ≡ 256 → Fits p (staying stays) asks → Stays stays asks →
      GivesNew p (grown n p stays asks) (grow leaf_hash inner_hash new n p stays asks)

  -- on a side of it the same holds of the side
  side_grown : (n : ℕ) → GrowGives n → (b : Side) (p : Place) (stays : Option Grant) (asks : List Ask) → length p + suc n ≡ 256 →
      Fits p (staying stays) asks → Stays stays asks →
      MadeNew (longer b p) (tree_by n (suc (length p)) (side (length p) b (with_batch asks (staying stays))))
      (grow leaf_hash inner_hash new n (longer b p) (leaf_on (length p) b stays) (run (length p) b asks))
  side_grown n ih b p stays asks e f u =
      let i = length p in
      let q = longer b p in
      let stays' = leaf_on i b stays in
      let asks' = run i b asks in
      let k : length q + n ≡ 256 = omega (arith, length_longer b p) in
      let fit : Fits q (staying stays') asks' = rw (staying_on i b stays) at (fits_side b p (staying stays) asks (omega arith) f) in
      let on : with_batch asks' (staying stays') ≡ side i b (with_batch asks (staying stays)) =
      ap (with_batch asks') (sym (staying_on i b stays)) ∙ sym (side_batch i b asks (staying stays) f.ascending) in
      subst₂ (λ j ws. MadeNew q (tree_by n j ws) (grow leaf_hash inner_hash new n q stays' asks')) (length_longer b p) on
      (made leaf_hash inner_hash new n q vnone (grown n q stays' asks') (grow leaf_hash inner_hash new n q stays' asks') k tt
      (fits_shaped n q (staying stays') asks' k fit) (λ v w h. absurd h) (ih q stays' asks' k fit (stays_on i b stays asks u)))

  pub grow_gives : (n : ℕ) → GrowGives n
  unfolding grow
  grow_gives zero p stays asks e f u =
      let ws : List Grant = with_batch asks (staying stays) in
      grow_by_lem p (to_grow stays asks) ws (λ b. outcome unchanged vnone) (λ b. none) (grows_alike stays asks f.rising u)
      (fits_shaped zero p (staying stays) asks e f)
      (λ h. absurd (at_most_one (length p) ws h (fits_radix zero p (staying stays) asks e f)))
  grow_gives (suc n) p stays asks e f u =
      let ws : List Grant = with_batch asks (staying stays) in
      let i = length p in
      grow_by_lem p (to_grow stays asks) ws (λ b. grow leaf_hash inner_hash new n (longer b p) (leaf_on i b stays) (run i b asks))
      (λ b. tree_by n (suc i) (side i b ws)) (grows_alike stays asks f.rising u) (fits_shaped (suc n) p (staying stays) asks e f)
      (λ h b. side_grown n (grow_gives n) b p stays asks e f u)
