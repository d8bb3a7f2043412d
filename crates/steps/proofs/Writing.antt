-- What is written for two children, one after the other, and then above them, is what is written for the whole: marks are for older nodes, so
-- they never meet a record that was placed just before. Assumes nothing.
use Prim.Native.Nat.{ℕ, ◌<◌}
use native.Mathlib.Omega.{arith}
use mathlib.Core.Path.{◌≡◌, refl, ap, ap₂, sym, ◌∙◌}
use mathlib.Core.Bool.{Bool, true, false, cond, ◌||◌}
use mathlib.Core.List.{List, [], ◌∷◌, ◌++◌}
use borrow.Author.Tests.{eqb-true}
use Rattle.terms.specs.Bits.{Bytes, Place, All, filter}
use Rattle.terms.specs.Records.{Record, Slot, free, used, spoiled}
use Rattle.terms.proofs.Tests.{is_false}
use Rattle.terms.proofs.Lists.{all_map, all_append, filter_passed}
use Rattle.meaning.specs.Tree.{Tree, VTree}
use Rattle.meaning.specs.Store.{is_node, marked, placed, records_below}
use Rattle.steps.specs.Step.{Change, Node, Outcome, above, ends_at}
use Rattle.steps.specs.Given.{Among, Older, is_new, Gives}
use Rattle.steps.specs.Writing.{is_among, mark_in, mark, written}
use Rattle.steps.proofs.Among.{among_left}
use Rattle.steps.proofs.Marking.{among_test}

pub placed_append : (xs ys : List Record) (s : List Slot) → placed (xs ++ ys) s ≡ placed ys (placed xs s)
placed_append xs ys [] = refl
placed_append [] ys (free ∷ s) = refl
placed_append (x ∷ xs) ys (free ∷ s) = ap (used x ∷◌) (placed_append xs ys s)
placed_append xs ys (used r ∷ s) = ap (used r ∷◌) (placed_append xs ys s)
placed_append xs ys (spoiled z ∷ s) = ap (spoiled z ∷◌) (placed_append xs ys s)

among_or : (r : Record) (xs ys : List Node) → is_among r (xs ++ ys) ≡ is_among r xs || is_among r ys
among_or r [] ys = refl
among_or r (x ∷ xs) ys =
    elim (is_node x.version x.place r) as (λ b. b || is_among r (xs ++ ys) ≡ (b || is_among r xs) || is_among r ys)
    [ true ↦ refl | false ↦ among_or r xs ys ]

-- a second mark changes nothing
mark_twice : (new : ℕ) (r : Record) (b : Bool) → marked new r ≡ cond b (marked new (marked new r)) (marked new r)
unfolding marked
mark_twice new r true = refl
mark_twice new r false = refl

pub mark_append : (new : ℕ) (xs ys : List Node) (s : List Slot) → mark new (xs ++ ys) s ≡ mark new ys (mark new xs s)
unfolding mark_in
mark_append new xs ys [] = refl
mark_append new xs ys (free ∷ s) = ap (free ∷◌) (mark_append new xs ys s)
mark_append new xs ys (spoiled z ∷ s) = ap (spoiled z ∷◌) (mark_append new xs ys s)
mark_append new xs ys (used r ∷ s) = ap₂ ◌∷◌ (ap used (rw (among_or r xs ys) (go (is_among r xs)))) (mark_append new xs ys s)
  where
    go : (b : Bool) →
        cond (b || is_among r ys) (marked new r) r
        ≡ cond (is_among (cond b (marked new r) r) ys) (marked new (cond b (marked new r) r)) (cond b (marked new r) r)
    go true = mark_twice new r (is_among (marked new r) ys)
    go false = refl

-- marks do not meet records that are not among their nodes
mark_placed : (new : ℕ) (ns : List Node) (rs : List Record) (s : List Slot) → All (λ r. is_among r ns ≡ false) rs →
    mark new ns (placed rs s) ≡ placed rs (mark new ns s)
unfolding mark_in
mark_placed new ns rs [] h = refl
mark_placed new ns [] (free ∷ s) h = refl
mark_placed new ns (r ∷ rs) (free ∷ s) h = ap₂ ◌∷◌ (ap (λ b. used (cond b (marked new r) r)) h.0) (mark_placed new ns rs s h.1)
mark_placed new ns rs (used q ∷ s) h = ap (used (cond (is_among q ns) (marked new q) q) ∷◌) (mark_placed new ns rs s h)
mark_placed new ns rs (spoiled z ∷ s) h = ap (spoiled z ∷◌) (mark_placed new ns rs s h)

-- new records, and the ends of older nodes
abbrev pub AllNew : ℕ → List Record → Type 0
AllNew new rs = All (λ r. r.version ≡ new) rs

abbrev pub AllOlder : ℕ → List Node → Type 0
AllOlder new ns = (v : ℕ) (q : Place) → Among v q ns → v < new

not_among : (new : ℕ) (rs : List Record) (ns : List Node) → AllNew new rs → AllOlder new ns → All (λ r. is_among r ns ≡ false) rs
not_among new rs ns f o =
    all_map _ _ rs (λ r e. is_false (is_among r ns) (λ h. let l = o r.version r.place ((among_test r ns).0 h) in omega arith)) f

-- first some, then more
pub two_turns : (new : ℕ) (xs ys : List Record) (ms ns : List Node) (s : List Slot) → AllNew new xs → AllOlder new ns →
    placed (xs ++ ys) (mark new (ms ++ ns) s) ≡ placed ys (mark new ns (placed xs (mark new ms s)))
two_turns new xs ys ms ns s f o =
    ap (placed (xs ++ ys)) (mark_append new ms ns s)
    ∙ placed_append xs ys (mark new ns (mark new ms s))
    ∙ ap (placed ys) (sym (mark_placed new ns xs (mark new ms s) (not_among new xs ns f o)))

-- the writes of the left child, then of the right, then those above them
pub writes_in_turn : (new : ℕ) (c : Change) (t : VTree) (a b : Outcome) (placing : List Record) (ending : List Node) (s : List Slot) →
    AllNew new a.fresh → AllNew new b.fresh → AllOlder new b.retired → AllOlder new ending →
    written new (above c t a b placing ending) s ≡ placed placing (mark new ending (written new b (written new a s)))
writes_in_turn new c t a b placing ending s fa fb ob oe =
    two_turns new (a.fresh ++ b.fresh) placing (a.retired ++ b.retired) ending s (all_append _ a.fresh b.fresh fa fb) oe
    ∙ ap (λ u. placed placing (mark new ending u)) (two_turns new a.fresh b.fresh a.retired b.retired s fa ob)

-- where an outcome is what is given, its records are new and what ends is older
module _ (leaf_hash inner_hash : Bytes → Bytes → Bytes) (new : ℕ) (p : Place) (t : VTree) (now : Tree) (o : Outcome)
    (given : Gives leaf_hash inner_hash new p t now o) where
  pub given_new : AllNew new o.fresh
  given_new =
      rw given.fresh_is
      (all_map _ _ (filter (is_new new) (records_below leaf_hash inner_hash p o.node)) (λ r e. eqb-true r.version new e)
      (filter_passed (is_new new) (records_below leaf_hash inner_hash p o.node)))

  pub given_older : Older new p t → AllOlder new o.retired
  given_older old v q h = old v q ((given.retired_is v q).0 (among_left v q o.retired (ends_at o.change p t) h)).0
