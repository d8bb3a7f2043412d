-- Writing does not disturb reading: what is placed has the new version, what is marked keeps its node, so every tree of older versions stands
-- as before, is read as before, and has each of its nodes once. Assumes nothing.
use Prim.Native.Nat.{ℕ, zero, suc, ◌<◌}
use native.Mathlib.Omega.{arith}
use mathlib.Core.Path.{◌≡◌, refl, ap, ap₂, sym, ◌∙◌}
use mathlib.Core.Bool.{Bool, true, false, cond, true≢false}
use mathlib.Core.List.{List, [], ◌∷◌}
use lib.ListN.{get_or}
use Rattle.terms.specs.Bits.{Bytes, Place, All}
use Rattle.terms.specs.Records.{Record, Slot, free, used, spoiled, Store}
use Rattle.terms.proofs.Lists.{all_map}
use Rattle.meaning.specs.Tree.{VTree}
use Rattle.meaning.specs.Store.{find, is_node, marked, placed}
use Rattle.meaning.specs.Sound.{Stands}
use Rattle.meaning.proofs.Finding.{is_node_eq, free_used, spoiled_used, used_eq}
use Rattle.histories.proofs.Slots.{not_node, Unique}
use Rattle.histories.proofs.Writing.{contents, contents_none, contents_turned, Not, New, find_placed, find_older}
use Rattle.histories.proofs.Standing.{Alike, stands_alike}
use Rattle.steps.specs.Step.{Node, Outcome}
use Rattle.steps.specs.Given.{Older}
use Rattle.steps.specs.Writing.{is_among, mark_in, mark, written}
use Rattle.steps.proofs.Writing.{AllNew}
use Rattle.apply_place.specs.Placing.{Single, put_slots}

-- a mark leaves the node of a record
find_mark : (new v : ℕ) (p : Place) (ns : List Node) (s : List Slot) → contents (find v p (mark new ns s)) ≡ contents (find v p s)
unfolding mark_in
find_mark new v p ns [] = refl
find_mark new v p ns (free ∷ s) = find_mark new v p ns s
find_mark new v p ns (used r ∷ s) = contents_turned (is_among r ns) new v p r _ _ (find_mark new v p ns s)
find_mark new v p ns (spoiled x ∷ s) = find_mark new v p ns s

-- an older node is found as before, but for when it was retired
pub find_written : (new v : ℕ) (p : Place) (o : Outcome) (s : List Slot) → v < new → AllNew new o.fresh →
    contents (find v p (written new o s)) ≡ contents (find v p s)
find_written new v p o s l h = ap contents (find_older new v p o.fresh (mark new o.retired s) l h) ∙ find_mark new v p o.retired s

-- so an older tree stands as before
module _ (leaf_hash inner_hash : Bytes → Bytes → Bytes) (new : ℕ) (o : Outcome) (fresh : AllNew new o.fresh) where
  pub stands_written : (st : Store) (q : Place) (t : VTree) → Older new q t → Stands leaf_hash inner_hash st q t →
      Stands leaf_hash inner_hash (put_slots (written new o st.slots) st) q t
  unfolding Alike put_slots
  stands_written st q t old s =
      stands_alike leaf_hash inner_hash st (put_slots (written new o st.slots) st) refl q t
      (λ w p n. find_written new w p o st.slots (old w p n) fresh) s

-- a slot that holds a node holds it after writes
marked_slot : (new : ℕ) (ns : List Node) (s : List Slot) (i : ℕ) (r : Record) → get_or s i free ≡ used r → get_or (mark new ns s) i free ≡ mark_in new ns r
marked_slot new ns [] i r u = free_used r u
marked_slot new ns (free ∷ s) zero r u = free_used r u
marked_slot new ns (free ∷ s) (suc i) r u = marked_slot new ns s i r u
marked_slot new ns (used q ∷ s) zero r u = ap (mark_in new ns) (used_eq q r u)
marked_slot new ns (used q ∷ s) (suc i) r u = marked_slot new ns s i r u
marked_slot new ns (spoiled x ∷ s) zero r u = spoiled_used x r u
marked_slot new ns (spoiled x ∷ s) (suc i) r u = marked_slot new ns s i r u

placed_slot : (rs : List Record) (s : List Slot) (i : ℕ) (r : Record) → get_or s i free ≡ used r → get_or (placed rs s) i free ≡ used r
placed_slot rs [] i r u = free_used r u
placed_slot [] (free ∷ s) i r u = u
placed_slot (x ∷ rs) (free ∷ s) zero r u = free_used r u
placed_slot (x ∷ rs) (free ∷ s) (suc i) r u = placed_slot rs s i r u
placed_slot rs (used q ∷ s) zero r u = u
placed_slot rs (used q ∷ s) (suc i) r u = placed_slot rs s i r u
placed_slot rs (spoiled x ∷ s) zero r u = spoiled_used x r u
placed_slot rs (spoiled x ∷ s) (suc i) r u = placed_slot rs s i r u

-- a node that was there once is there once
marked_node : (new v : ℕ) (p : Place) (b : Bool) (r : Record) → is_node v p (cond b (marked new r) r) ≡ is_node v p r
unfolding is_node marked
marked_node new v p true r = refl
marked_node new v p false r = refl

pub written_slot : (new : ℕ) (o : Outcome) (s : List Slot) (i : ℕ) (r : Record) → get_or s i free ≡ used r →
    (q : Record) × (get_or (written new o s) i free ≡ used q) × ((v : ℕ) (p : Place) → is_node v p q ≡ is_node v p r)
unfolding mark_in
written_slot new o s i r u = (
  cond (is_among r o.retired) (marked new r) r,
  placed_slot o.fresh (mark new o.retired s) i _ (marked_slot new o.retired s i r u),
  λ v p. marked_node new v p (is_among r o.retired) r,
)

pub single_mark : (new v : ℕ) (p : Place) (ns : List Node) (s : List Slot) → Single v p s → Single v p (mark new ns s)
unfolding mark_in
single_mark new v p ns [] h = tt
single_mark new v p ns (free ∷ s) h = single_mark new v p ns s h
single_mark new v p ns (used r ∷ s) h = (
  λ e. contents_none _ (find_mark new v p ns s ∙ ap contents (h.0 (sym (marked_node new v p (is_among r ns) r) ∙ e))),
  single_mark new v p ns s h.1,
)
single_mark new v p ns (spoiled x ∷ s) h = single_mark new v p ns s h

single_placed : (v : ℕ) (p : Place) (rs : List Record) (s : List Slot) → All (Not v p) rs → Single v p s → Single v p (placed rs s)
single_placed v p rs [] n h = tt
single_placed v p [] (free ∷ s) n h = h
single_placed v p (r ∷ rs) (free ∷ s) n h = (λ e. absurd (true≢false (sym e ∙ n.0)), single_placed v p rs s n.1 h)
single_placed v p rs (used x ∷ s) n h = (λ e. find_placed v p rs s n ∙ h.0 e, single_placed v p rs s n h.1)
single_placed v p rs (spoiled x ∷ s) n h = single_placed v p rs s n h

pub single_written : (new v : ℕ) (p : Place) (o : Outcome) (s : List Slot) → v < new → AllNew new o.fresh → Single v p s →
    Single v p (written new o s)
single_written new v p o s l f h =
    single_placed v p o.fresh (mark new o.retired s)
    (all_map (New new) (Not v p) o.fresh (λ r e. not_node v p r (λ a b. omega arith)) f) (single_mark new v p o.retired s h)

-- in a sound store each node is there once
pub unique_single : (v : ℕ) (p : Place) (s : List Slot) → Unique s → Single v p s
unique_single v p [] h = tt
unique_single v p (free ∷ s) h = unique_single v p s h
unique_single v p (used r ∷ s) h =
    (λ e. let w = is_node_eq v p r e in sym (ap₂ (λ x q. find x q s) w.0 w.1) ∙ h.0, unique_single v p s h.1)
unique_single v p (spoiled x ∷ s) h = unique_single v p s h
