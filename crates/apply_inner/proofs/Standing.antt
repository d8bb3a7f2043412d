-- A tree that stands at a place stands there after writes for newer nodes, and so do its children: each is where its parent's record says.
-- Assumes nothing.
use Prim.Native.Nat.{ℕ, zero, suc, ◌-◌, ◌<◌, ◌≤◌}
use native.Mathlib.Omega.{arith}
use mathlib.Core.Path.{◌≡◌, refl, ap, sym, ◌∙◌, subst}
use mathlib.Core.Logic.{inl}
use mathlib.Core.Bool.{Bool, true, false}
use mathlib.Core.List.{List, [], ◌∷◌}
use lib.ListN.{length, get_or}
use Rattle.terms.specs.declared.Form.TheVariants.{Counted as counted}
use Rattle.terms.specs.Bits.{Bytes, Side, Place, longer}
use Rattle.terms.specs.Records.{Body, Record, Slot, Store, free, used}
use Rattle.terms.proofs.Members.{in_get_d}
use Rattle.terms.proofs.Lists.{all_at}
use Rattle.meaning.specs.Tree.{VTree, vnone, vleaf, vinner, top_version, kid}
use Rattle.meaning.specs.Sound.{Found, Stands}
use Rattle.meaning.proofs.Finding.{is_node_eq, free_used}
use Rattle.histories.proofs.Standing.{Formed, found_record, reads, kid_node}
use Rattle.nodehash.specs.Node.{leaf_hash, inner_hash}
use Rattle.place.specs.declared.Place as place
use Rattle.place.specs.Place.{place_of, Proper}
use Rattle.place.proofs.Places.{proper_count}
use Rattle.layout.specs.Slots.{SlotForm}
use Rattle.layout.specs.Stores.{store_of}
use Rattle.std.specs.Prelude.{Some}
use Rattle.lookup.specs.Lookup.{FoundIn}
use Rattle.steps.specs.Step as step
use Rattle.steps.specs.Given.{Older}
use Rattle.steps.specs.Writing.{written}
use Rattle.steps.proofs.Writing.{AllNew}
use Rattle.apply_place.specs.Placing.{Stored, put_slots, Changed, when_writes, Single}
use Rattle.apply_place.proofs.Changing.{changed_store, changed_slots}
use Rattle.apply_outcome.proofs.Forms.{Number, Numbered}
use Rattle.apply_place.proofs.Keeping.{stands_written, single_written, written_slot}
use Rattle.apply_place.proofs.Marking.{found_node, single_finds}
use Rattle.apply_read.specs.Held.{version_of, version_in}
use Rattle.apply_read.specs.Standing.{tree_here, Standing}

-- every record of bytes in form is in form
pub stored_formed : {s : Bytes} → Stored s → Formed (store_of s).slots
stored_formed {s} h r k =
    let i = in_get_d (store_of s).slots (used r) (used r) k in
    (subst (SlotForm counted) i.2 (all_at (SlotForm counted) (store_of s).slots (used r) i.0 h.form.each i.1)).0

-- a tree that stands has versions of four bytes
module _ (st : Store) (z : Formed st.slots) where
  found_number : (v : ℕ) (p : Place) (b : Body) → Found st v p b → Number v
  found_number v p b f = let r = found_record st v p b f in subst Number r.2 (z r.0 r.1).versioned

  pub stands_numbered : (p : Place) (t : VTree) → Stands leaf_hash inner_hash st p t → Numbered t
  stands_numbered p vnone s = tt
  stands_numbered p (vleaf v g) s = found_number v p _ s.0
  stands_numbered p (vinner v l r) s = (
    found_number v p _ s.0,
    stands_numbered (longer false p) l s.2,
    stands_numbered (longer true p) r s.3,
  )

-- its children are older too
pub kid_older : (b : Side) (new : ℕ) (p : Place) (t : VTree) → Older new p t → Older new (longer b p) (kid b t)
kid_older b new p t o w q n = o w q (kid_node b w q t p n)

pub top_older : (new : ℕ) (p : Place) (t : VTree) → 1 ≤ new → Older new p t → top_version t < new
top_older new p vnone h o = omega arith
top_older new p (vleaf v g) h o = o v p (refl, refl)
top_older new p (vinner v l r) h o = o v p (inl (refl, refl))

-- what was written for newer nodes leaves it
module _ (new : ℕ) (o : step.Outcome) (f : AllNew new o.fresh) {s s' : Bytes} where
  pub stands_after : (w : Bool) → Changed (when_writes w (written new o)) s s' → (q : Place) (t : VTree) → Older new q t →
      Stands leaf_hash inner_hash (store_of s) q t → Stands leaf_hash inner_hash (store_of s') q t
  unfolding put_slots
  stands_after true c q t h k = rw (changed_store c) (stands_written leaf_hash inner_hash new o f (store_of s) q t h k)
  stands_after false c q t h k = rw (changed_store c) k

  pub single_after : (w : Bool) → Changed (when_writes w (written new o)) s s' → ((v : ℕ) (q : Place) → v < new → Single v q (store_of s).slots) →
      (v : ℕ) (q : Place) → v < new → Single v q (store_of s').slots
  single_after true c h v q l = rw (changed_slots c) (single_written new v q o (store_of s).slots l f (h v q l))
  single_after false c h v q l = rw (changed_slots c) (h v q l)

-- and each slot that holds an older node
used_within : (s : List Slot) (i : ℕ) (r : Record) → get_or s i free ≡ used r → i < length s
used_within [] i r u = free_used r u
used_within (x ∷ s) zero r u = omega arith
used_within (x ∷ s) (suc i) r u = let l = used_within s i r u in omega arith

pub found_after : (new : ℕ) (o : step.Outcome) (w : Bool) {s s' : Bytes} → Changed (when_writes w (written new o)) s s' → (v : ℕ) (p : Place) (i : ℕ) →
    Single v p (store_of s').slots → FoundIn (store_of s).slots v p (Some i) → FoundIn (store_of s').slots v p (Some i)
found_after new o true {s} {s'} c v p i once (l, (r, u, f)) =
    let (q, k, same) = written_slot new o (store_of s).slots i r u in
    let g : get_or (store_of s').slots i free ≡ used q = ap (λ xs. get_or xs i free) (changed_slots c) ∙ k in
    let n = same v p ∙ found_node 0 v p (store_of s).slots r f in
    (used_within (store_of s').slots i q g, (q, g, single_finds 0 v p (store_of s').slots i q once g n))
found_after new o false c v p i once f = rw (changed_slots c) f

pub found_version : (s : Bytes) (v : ℕ) (p : Place) (i : ℕ) → FoundIn (store_of s).slots v p (Some i) → version_in s i ≡ v
found_version s v p i (l, (r, u, f)) = ap version_of u ∙ (is_node_eq v p r (found_node 0 v p (store_of s).slots r f)).0

-- the tree that stands where a record says a child is what is read there
module _ {s : Bytes} (h : Stored s) (p : place.Place) (proper : Proper p) {v : ℕ} (t : VTree) (e : v ≡ top_version t)
    (k : Stands leaf_hash inner_hash (store_of s) (place_of p) t) where
  pub child_read : tree_here s p v ≡ t
  unfolding tree_here
  child_read =
      rw e
      (reads leaf_hash inner_hash (store_of s) (stored_formed h) (256 - p.count) (place_of p) t
      (let l = proper.short in omega (arith, proper_count p proper)) k)

  pub child_standing : Standing s p v
  child_standing = record {
    stored = h;
    proper = proper;
    stands = rw child_read k;
    top = rw child_read (sym e);
  }
