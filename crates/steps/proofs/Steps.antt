-- Theorem B, step is definition: at each place the outcome of the step is what document 01 defines there, by induction on the bits that are
-- left. Assumes nothing.
use Prim.Native.Nat.{ℕ, zero, suc, ◌+◌}
use native.Mathlib.Omega.{arith}
use mathlib.Core.Path.{◌≡◌, ap, ap₂, sym, ◌∙◌, subst}
use mathlib.Core.Logic.{inl, inr}
use mathlib.Core.Bool.{true}
use mathlib.Core.List.{List, [], ◌∷◌}
use mathlib.Core.Option.{none}
use lib.ListN.{length}
use Rattle.terms.specs.Bits.{Bytes, Side, left, right, Place, longer, All, begins}
use Rattle.terms.specs.Records.{Grant, Ask, ask_key}
use Rattle.terms.specs.Form.{AskForm}
use Rattle.terms.proofs.Lists.{filter_all}
use Rattle.terms.proofs.Places.{length_longer}
use Rattle.meaning.specs.Tree.{Tree, grants, grants_at, tree_at, with_batch, VTree, vnone, vleaf, vinner, unversioned, grants_in}
use Rattle.meaning.specs.Runs.{run}
use Rattle.meaning.specs.Calls.{ascending}
use Rattle.meaning.proofs.Sides.{side, tree_by, tree_at_by, tree_by_join}
use Rattle.meaning.proofs.Runs.{side_batch}
use Rattle.meaning.proofs.Shaped.{Shaped, long_form, shaped_begun, shaped_form, shaped_ascending, sides_of, shaped_tree_by}
use Rattle.steps.specs.Step.{Step, step_child, step_inner, step_node}
use Rattle.steps.specs.Given.{Older, Gives}
use Rattle.steps.proofs.Inserts.{ascending_rising}
use Rattle.steps.proofs.Becoming.{Made, made, unchanged_gives}
use Rattle.steps.proofs.Fitting.{AsksAt, Fits, fits_side, fits_radix, fits_shaped, fits_form, fits_begun}
use Rattle.steps.proofs.Growing.{grow_gives}
use Rattle.steps.proofs.Leaf.{leaf_gives}
use Rattle.steps.proofs.Inner.{inner_gives}

-- the tree after a run at a place
abbrev pub after : ℕ → Place → VTree → List Ask → Tree
after n p t asks = tree_by n (length p) (with_batch asks (grants_in t))

module _ (leaf_hash inner_hash : Bytes → Bytes → Bytes) (new : ℕ) where
  abbrev pub GivesAt : Place → VTree → Tree → Step → List Ask → Type 0
  GivesAt p t now step asks = Gives leaf_hash inner_hash new p t now (step p t asks)

  -- the steps at a node and at a child, n bits short of a key
  abbrev pub node : ℕ → Step
  node n = step_node leaf_hash inner_hash new n

  abbrev pub child : ℕ → Step
  child n = step_child (node n)

  -- what is to be shown of a step
  abbrev pub StepGives : ℕ → Step → Type 0
  StepGives n step = (p : Place) (t : VTree) (asks : List Ask) → length p + n ≡ 256 → Shaped p (unversioned t) → Older new p t →
      Fits p (grants_in t) asks → GivesAt p t (after n p t asks) step asks

  pub child_gives : (n : ℕ) → StepGives n (node n) → StepGives n (child n)
  child_gives n step p t [] e s o f = rw (← shaped_tree_by n p (unversioned t) e s) (unchanged_gives leaf_hash inner_hash new p t o)
  child_gives n step p t (a ∷ asks) e s o f = step p t (a ∷ asks) e s o f

  -- where u stands on side b of an inner node with the grants gs: the step there is made, on that side of what the run makes of gs
  abbrev on_side : ℕ → Side → Place → List Grant → List Ask → Tree
  on_side n b p gs asks = tree_by n (suc (length p)) (side (length p) b (with_batch asks gs))

  side_made : (n : ℕ) → StepGives n (node n) → (b : Side) (p : Place) (gs : List Grant) (u : VTree) (asks : List Ask) → length p + suc n ≡ 256 →
      side (length p) b gs ≡ grants_in u → Shaped (longer b p) (unversioned u) → Older new (longer b p) u → Fits p gs asks →
      Shaped (longer b p) (on_side n b p gs asks)
      × Made leaf_hash inner_hash new (longer b p) u (on_side n b p gs asks) (child n (longer b p) u (run (length p) b asks))
  side_made n step b p gs u asks e on s o f =
      let i = length p in
      let q = longer b p in
      let asks' = run i b asks in
      let k : length q + n ≡ 256 = omega (arith, length_longer b p) in
      let fit : Fits q (grants_in u) asks' = rw on at (fits_side b p gs asks (omega arith) f) in
      let now : with_batch asks' (grants_in u) ≡ side i b (with_batch asks gs) =
      ap (with_batch asks') (sym on) ∙ sym (side_batch i b asks gs f.ascending) in
      let is : after n q u asks' ≡ on_side n b p gs asks = ap₂ (tree_by n) (length_longer b p) now in
      let shaped = fits_shaped n q (grants_in u) asks' k fit in (
        subst (Shaped q) is shaped,
        subst (λ t. Made leaf_hash inner_hash new q u t (child n q u asks')) is
            (made leaf_hash inner_hash new n q u (after n q u asks') (child n q u asks') k s shaped o (child_gives n step q u asks' k s o fit)),
      )

  pub step_gives : (n : ℕ) → StepGives n (node n)
  unfolding step_inner step_node
  step_gives zero p vnone asks e s o f = grow_gives leaf_hash inner_hash new zero p none asks e f tt
  step_gives zero p (vleaf v g) asks e s o f = leaf_gives leaf_hash inner_hash new p v g o zero asks e f
  step_gives zero p (vinner v l r) asks e s o f = absurd (omega arith)
  step_gives (suc n) p vnone asks e s o f = grow_gives leaf_hash inner_hash new (suc n) p none asks e f tt
  step_gives (suc n) p (vleaf v g) asks e s o f = leaf_gives leaf_hash inner_hash new p v g o (suc n) asks e f
  step_gives (suc n) p (vinner v l r) asks e s o f =
      let gs : List Grant = grants_in (vinner v l r) in
      let bl = shaped_begun (longer left p) (unversioned l) s.2 in
      let br = shaped_begun (longer right p) (unversioned r) s.3 in
      let on = sides_of p (grants_in l) (grants_in r) bl br in
      let x = side_made n (step_gives n) left p gs l asks e on.0 s.2 (λ w q k. o w q (inr (inl k))) f in
      let y = side_made n (step_gives n) right p gs r asks e on.1 s.3 (λ w q k. o w q (inr (inr k))) f in
      subst (λ t. GivesAt p (vinner v l r) t (node (suc n)) asks)
      (sym (tree_by_join n (length p) (with_batch asks gs) (fits_radix (suc n) p gs asks e f)))
      (inner_gives leaf_hash inner_hash new p v l r (on_side n left p gs asks) (on_side n right p gs asks)
      (child n (longer left p) l (run (length p) left asks)) (child n (longer right p) r (run (length p) right asks))
      s o x.0 y.0 x.1 y.1 n e)

-- a run in form at a place fits the tree there
pub shaped_fits : (p : Place) (t : Tree) (asks : List Ask) → Shaped p t → All AskForm asks → All (AsksAt p) asks → ascending asks ≡ true →
    Fits p (grants t) asks
shaped_fits p t asks s form at up = record {
  rising = ascending_rising asks up;
  asks_form = form;
  asks_at = at;
  ascending = shaped_ascending p t s;
  grants_form = shaped_form p t s;
  begun = shaped_begun p t s;
}

-- Step is definition.
pub step_is_definition : (leaf_hash inner_hash : Bytes → Bytes → Bytes) (new n : ℕ) (p : Place) (t : VTree) (asks : List Ask) →
    length p + n ≡ 256 → Shaped p (unversioned t) → Older new p t → All AskForm asks → All (λ a. begins p (ask_key a) ≡ true) asks → ascending asks ≡ true →
    Gives leaf_hash inner_hash new p t (tree_at n p (with_batch asks (grants_in t))) (step_node leaf_hash inner_hash new n p t asks)
unfolding grants_at begins
step_is_definition leaf_hash inner_hash new n p t asks e s o form at up =
    let f = shaped_fits p (unversioned t) asks s form at up in
    let ws : List Grant = with_batch asks (grants_in t) in
    let is : tree_at n p ws ≡ tree_by n (length p) ws =
    tree_at_by n p ws e (long_form ws (fits_form n p (grants_in t) asks e f))
    ∙ ap (tree_by n (length p)) (filter_all _ ws (fits_begun n p (grants_in t) asks e f)) in
    rw is (step_gives leaf_hash inner_hash new n p t asks e s o f)
