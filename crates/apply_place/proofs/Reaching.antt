-- How far new records reach: placing one in the lowest free slot leaves none free up to it, and marks free no slot. Assumes nothing.
use Prim.Native.Nat.{ℕ, zero, suc, ◌+◌, ◌<◌, ◌≤◌}
use native.Mathlib.Omega.{arith}
use mathlib.Core.Path.{◌≡◌, refl, sym}
use mathlib.Core.Bool.{Bool, true, false, true≢false, false≢true}
use mathlib.Core.List.{List, [], ◌∷◌}
use lib.ListN.{length, get_or, set}
use borrow.Author.Count.{below_more}
use Rattle.terms.specs.Bits.{Bytes, Place}
use Rattle.terms.specs.Records.{Record, Slot, free, used, spoiled}
use Rattle.meaning.specs.Store.{placed}
use Rattle.meaning.proofs.Finding.{free_used}
use Rattle.layout.specs.Stores.{store_of}
use Rattle.steps.specs.Step as step
use Rattle.steps.specs.Writing.{mark_in, mark}
use Rattle.apply_place.specs.declared.Node as declared
use Rattle.apply_place.specs.declared.Node.TheVariants.{Nothing, Leaf, Inner}
use Rattle.apply_place.specs.Placing.{Stored, Changed, when_writes, NoneFree, Lowest, record_says}
use Rattle.apply_place.specs.Reach.{capped, node_size, Starts, Reaches, Placed}
use Rattle.apply_place.proofs.Changing.{unchanged, changed_slots, stored_accepted}
use Rattle.apply_place.proofs.Placing.{placed_nothing}

-- a slot that is written is not free
set_free : (s : List Slot) (i : ℕ) (r : Record) (j : ℕ) → get_or (set s i (used r)) j free ≡ free → (j ≡ i → length s ≤ i) × (get_or s j free ≡ free)
set_free [] i r j e = (λ k. omega arith, refl)
set_free (x ∷ s) zero r zero e = free_used r (sym e)
set_free (x ∷ s) zero r (suc j) e = (λ k. absurd (omega arith), e)
set_free (x ∷ s) (suc i) r zero e = (λ k. absurd (omega arith), e)
set_free (x ∷ s) (suc i) r (suc j) e = let h = set_free s i r j e in (λ k. let m = h.0 (omega arith) in omega arith, h.1)

none_after : (s : List Slot) (i : ℕ) (r : Record) → i < length s → NoneFree s i → NoneFree (set s i (used r)) (i + 1)
none_after s i r l f =
    below_more (λ j. get_or (set s i (used r)) j free ≡ free → ⊥) i (λ j k e. f j k (set_free s i r j e).1)
    (λ e. let m = (set_free s i r i e).0 refl in omega arith)

-- the record of a node, if there is one
pub node_size_lem : (p : Place) (n : declared.Node) → node_size n ≡ length (record_says p n)
node_size_lem p Nothing = refl
node_size_lem p (Leaf v k x) = refl
node_size_lem p (Inner v l r m n) = refl

none_put : (p : Place) (n : declared.Node) (s : List Slot) (i : ℕ) → Lowest s i → NoneFree (placed (record_says p n) s) (i + node_size n)
none_put p Nothing s i h = rw (placed_nothing s) (λ j k. h.none j (omega arith))
none_put p (Leaf v k x) s i h = rw (h.placing _) (none_after s i _ h.within h.none)
none_put p (Inner v l r m n) s i h = rw (h.placing _) (none_after s i _ h.within h.none)

-- a mark frees no slot
none_marked : (new : ℕ) (ns : List step.Node) (s : List Slot) (j : ℕ) → get_or (mark new ns s) j free ≡ free → get_or s j free ≡ free
unfolding mark_in
none_marked new ns [] j e = e
none_marked new ns (free ∷ s) zero e = e
none_marked new ns (free ∷ s) (suc j) e = none_marked new ns s j e
none_marked new ns (used r ∷ s) zero e = free_used _ (sym e)
none_marked new ns (used r ∷ s) (suc j) e = none_marked new ns s j e
none_marked new ns (spoiled x ∷ s) zero e = e
none_marked new ns (spoiled x ∷ s) (suc j) e = none_marked new ns s j e

pub starts_marked : (w : Bool) (new : ℕ) (ns : List step.Node) {s s' : Bytes} {k : ℕ} → Changed (when_writes w (mark new ns)) s s' →
    Starts w (store_of s).slots k → Starts w (store_of s').slots k
starts_marked true new ns {s} c h =
    record { few = h.few; clear = rw (changed_slots c) (λ j l e. h.clear j l (none_marked new ns (store_of s).slots j e)) }
starts_marked false new ns c h = record { few = h.few; clear = tt }

-- nothing new
pub reaches_none : (w : Bool) {from n : ℕ} {s : List Slot} → n ≡ 0 → Starts w s from → Reaches w from n s from
reaches_none true e h = record { starts = h; counts = tt }
reaches_none false e h = record { starts = h; counts = let f = h.few in omega arith }

-- one reach after the other
pub reaches_then : (w : Bool) {from m n p k l : ℕ} {s s' : List Slot} → p ≡ m + n → Reaches w from m s k → Reaches w k n s' l → Reaches w from p s' l
reaches_then true e a b = record { starts = b.starts; counts = tt }
reaches_then false e a b = record { starts = b.starts; counts = omega (arith, a.counts, b.counts) }

pub reaches_as : (w : Bool) {from m n k : ℕ} {s : List Slot} → m ≡ n → Reaches w from m s k → Reaches w from n s k
reaches_as w e a = rw (← e) a

pub size_small : (n : declared.Node) → node_size n ≤ 1
size_small Nothing = omega arith
size_small (Leaf v k x) = omega arith
size_small (Inner v l r m n) = omega arith

pub clear_when : (w : Bool) {s : List Slot} {k : ℕ} → w ≡ true → Starts w s k → NoneFree s k
clear_when true e h = h.clear
clear_when false e h = absurd (false≢true e)

-- the ways through placing
pub counted : (w : Bool) (p : Place) (n : declared.Node) {from m k : ℕ} {s : Bytes} → w ≡ false → Stored s → m ≡ node_size n → k ≡ capped (from + m) →
    Placed w from (record_says p n) s s k
counted true p n e h i j = absurd (true≢false e)
counted false p n e h i j = record {
  bytes = unchanged h;
  reach = record { starts = record { few = omega arith; clear = tt }; counts = omega (arith, node_size_lem p n) };
}

pub full : (w : Bool) (p : Place) (n : declared.Node) {from : ℕ} {s : Bytes} → w ≡ true → Starts w (store_of s).slots from →
    Changed (when_writes w (placed (record_says p n))) s s → Placed w from (record_says p n) s s from
full true p n e h c = record { bytes = c; reach = record { starts = h; counts = tt } }
full false p n e h c = absurd (false≢true e)

pub put : (w : Bool) (p : Place) (n : declared.Node) {from i m : ℕ} {s s' : Bytes} → w ≡ true → Stored s → Lowest (store_of s).slots i → m ≡ node_size n →
    Changed (placed (record_says p n)) s s' → Placed w from (record_says p n) s s' (i + m)
put true p n {i = i} {s = s} e h l k c = record {
  bytes = c;
  reach = record {
    starts = record {
      few = let a = (stored_accepted h).fits in let b = l.within in omega (arith, size_small n);
      clear = rw (k, changed_slots c) (none_put p n (store_of s).slots i l);
    };
    counts = tt;
  };
}
put false p n e h l k c = absurd (false≢true e)
