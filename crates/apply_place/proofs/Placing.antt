-- The lowest free slot: the slots passed are not free, so a record that is placed goes to the first that is. Assumes nothing.
use Prim.Native.Nat.{ℕ, zero, suc, ◌+◌, ◌<◌, ◌≤◌}
use native.Mathlib.Omega.{arith}
use mathlib.Core.Path.{◌≡◌, refl, ap, sym, ◌∙◌, subst}
use mathlib.Core.Bool.{true, false, true≢false}
use mathlib.Core.List.{List, [], ◌∷◌, ◌++◌, append-nil}
use lib.ListN.{length, get_or, set, take, drop, length-take, length-drop, drop_of_length-le}
use lib.Seq.{take_at, drop_at, take_all}
use Rattle.terms.specs.declared.Form.TheVariants.{Counted as counted}
use Rattle.terms.specs.Bits.{Bytes, Place, All}
use Rattle.terms.specs.Fields.{all_zero, slice}
use Rattle.terms.specs.Records.{leaf_body, inner_body, tally, no_tally, Record, Slot, free, used, spoiled}
use Rattle.terms.specs.Form.{RecordForm}
use Rattle.meaning.specs.Store.{placed}
use Rattle.meaning.proofs.Finding.{free_used}
use Rattle.hash.specs.declared.Hash.{Hash}
use Rattle.hash.specs.Hash.{hash_bytes}
use Rattle.hash.proofs.Laws.{hash_whole}
use Rattle.layout.specs.Sizes.{room_of}
use Rattle.layout.specs.Slots.{record_of, slot_of}
use Rattle.layout.specs.Stores.{slot_in, store_of, slot_no, with_slot}
use Rattle.layout.proofs.Slots.{zero_free, free_zero}
use Rattle.store.proofs.Slots.{slot_is}
use Rattle.store.proofs.Scans.{Scan, Each, scan_many, scan_slot, scan_inside, each_from, each_passed, each_next}
use Rattle.slots.specs.declared.Child as child
use Rattle.slots.specs.Answer.{child_says, grant_body}
use Rattle.std.specs.declared.option.Option as option
use Rattle.std.specs.Prelude.{Some, None}
use Rattle.apply_place.specs.declared.Node as declared
use Rattle.apply_place.specs.declared.Node.TheVariants.{Nothing as none, Leaf, Inner}
use Rattle.apply_place.specs.Placing.{Stored, Changed, NoneFree, Lowest, FreeIn, record_says}
use Rattle.apply_place.proofs.Changing.{stored_size, stored_room, slot_changed}

spoiled_free : {A : Type 0} (x : Bytes) → spoiled x ≡ free → A
spoiled_free x e = let z : ◌≡◌ {A = ℕ} 0 1 = cc in absurd (omega arith)

pub placed_nothing : (s : List Slot) → placed [] s ≡ s
placed_nothing [] = refl
placed_nothing (free ∷ s) = refl
placed_nothing (used x ∷ s) = ap (used x ∷◌) (placed_nothing s)
placed_nothing (spoiled x ∷ s) = ap (spoiled x ∷◌) (placed_nothing s)

placed_here : (r : Record) (s : List Slot) (i : ℕ) → i < length s → NoneFree s i → get_or s i free ≡ free → placed (r ∷ []) s ≡ set s i (used r)
placed_here r [] i l h e = absurd (omega arith)
placed_here r (free ∷ s) zero l h e = ap (used r ∷◌) (placed_nothing s)
placed_here r (free ∷ s) (suc i) l h e = absurd (h 0 (omega arith) refl)
placed_here r (used x ∷ s) zero l h e = free_used x (sym e)
placed_here r (used x ∷ s) (suc i) l h e = ap (used x ∷◌) (placed_here r s i (omega arith) (λ j k. h (suc j) (omega arith)) e)
placed_here r (spoiled x ∷ s) zero l h e = spoiled_free x e
placed_here r (spoiled x ∷ s) (suc i) l h e = ap (spoiled x ∷◌) (placed_here r s i (omega arith) (λ j k. h (suc j) (omega arith)) e)

placed_nowhere : (r : Record) (s : List Slot) → NoneFree s (length s) → placed (r ∷ []) s ≡ s
placed_nowhere r [] h = refl
placed_nowhere r (free ∷ s) h = absurd (h 0 (omega arith) refl)
placed_nowhere r (used x ∷ s) h = ap (used x ∷◌) (placed_nowhere r s (λ j k. h (suc j) (omega arith)))
placed_nowhere r (spoiled x ∷ s) h = ap (spoiled x ∷◌) (placed_nowhere r s (λ j k. h (suc j) (omega arith)))

-- slots of which none is free are slots of the store
none_few : (s : List Slot) (k : ℕ) → NoneFree s k → k ≤ length s
none_few s zero h = omega arith
none_few [] (suc k) h = absurd (h 0 (omega arith) refl)
none_few (x ∷ s) (suc k) h = omega (arith, none_few s k (λ j l. h (suc j) (omega arith)))

-- a search for a free slot: none of those passed is free
abbrev NotFree : Slot → Type 0
NotFree x = x ≡ free → ⊥

abbrev pub Passed : Bytes → ℕ → ℕ → Type 0
Passed s n i = Scan counted s (Each counted s NotFree) n i

pub search_from_lem : {s : Bytes} {n i : ℕ} → Stored s → n ≡ room_of counted (length s) → NoneFree (store_of s).slots i → Passed s n i
search_from_lem {s} {n} {i} h e f =
    each_from s NotFree (stored_size h) e (omega (arith, none_few (store_of s).slots i f, stored_room h)) f

module _ {s : Bytes} {n i : ℕ} (w : Passed s n i) where
  module _ (l : i < n) where
    slot_here : slot_no counted i s ≡ slot_of (slot_in counted i s)
    slot_here = slot_is (scan_slot w l)

    pub one_more : all_zero (slot_in counted i s) ≡ false → Passed s n (i + 1)
    one_more e = each_next NotFree w l (λ k. true≢false (sym (free_zero (slot_in counted i s) (sym slot_here ∙ k)) ∙ e))

    pub free_here : all_zero (slot_in counted i s) ≡ true → FreeIn (store_of s).slots (Some i)
    free_here e =
        record {
          within = scan_inside w l;
          none = each_passed NotFree w;
          placing = λ r. placed_here r (store_of s).slots i (scan_inside w l) (each_passed NotFree w) (slot_here ∙ zero_free (slot_in counted i s) e);
        }

  pub none_free : n ≤ i → FreeIn (store_of s).slots None
  none_free l r = placed_nowhere r (store_of s).slots (λ j k. each_passed NotFree w j (omega (arith, scan_many w)))

-- a grant's 64 bytes from two hashes, one after the other
pub two_hashes : (k v : Hash) (g₀ g₁ y : Bytes) → length g₀ ≡ 64 → g₁ ≡ hash_bytes k ++ drop 32 g₀ → y ≡ hash_bytes v ++ drop 32 (take 32 (drop 32 g₁)) →
    take 32 g₁ ++ (y ++ drop 32 (drop 32 g₁)) ≡ hash_bytes k ++ hash_bytes v
two_hashes k v g₀ g₁ y l e f =
    let rest : Bytes = drop 32 g₀ in
    let long : length rest ≡ 32 = simp length-drop (omega arith) in
    let front = (hash_whole k).0 in
    let t : take 32 g₁ ≡ hash_bytes k = ap (take 32) e ∙ take_at (hash_bytes k) rest 32 front in
    let d : drop 32 g₁ ≡ rest = ap (drop 32) e ∙ drop_at (hash_bytes k) rest 32 front in
    let none : drop 32 rest ≡ [] = drop_of_length-le rest {i = 32} (omega arith) in
    let part : drop 32 (take 32 rest) ≡ [] = drop_of_length-le (take 32 rest) {i = 32} (simp length-take (omega arith)) in
    rw (f, t, d, part, none, append-nil, append-nil)

-- they are a leaf's body
pub grant_hashes : (k v : Hash) → grant_body (hash_bytes k ++ hash_bytes v) ≡ leaf_body (hash_bytes k) (hash_bytes v)
unfolding grant_body slice
grant_hashes k v =
    let kl = (hash_whole k).0 in
    let vl = (hash_whole v).0 in
    rw (drop_at (hash_bytes k) (hash_bytes v) 32 kl, take_at (hash_bytes k) (hash_bytes v) 32 kl)
    (ap (leaf_body (hash_bytes k)) (take_all 32 (hash_bytes v) (omega arith)))

-- a free slot that was found, by its case
pub free_at : (s : List Slot) {o : option.Option ℕ} {i : ℕ} → o ≡ Some i → FreeIn s o → Lowest s i
free_at s e f = subst (FreeIn s) e f

-- with no free slot, nothing is placed
pub placed_full : (p : Place) (n : declared.Node) {s : List Slot} {o : option.Option ℕ} → o ≡ None → FreeIn s o → placed (record_says p n) s ≡ s
placed_full p none {s} e f = placed_nothing s
placed_full p (Leaf v k x) {s} e f = subst (FreeIn s) e f _
placed_full p (Inner v l r m n) {s} e f = subst (FreeIn s) e f _

-- where no node is, there is nothing to place
pub placed_gone : (p : Place) (n : declared.Node) → n ≡ none → (s : List Slot) → placed (record_says p n) s ≡ s
placed_gone p n e s = ap (λ m. placed (record_says p m) s) e ∙ placed_nothing s

-- one record in a free slot
placed_one : {s s' : Bytes} {i : ℕ} (rs : List Record) (r : Record) → Stored s → rs ≡ r ∷ [] → All RecordForm rs →
    Lowest (store_of s).slots i →
    s' ≡ with_slot counted i (used r) s → Changed (placed rs) s s'
placed_one {s} {i = i} rs r h e k f w =
    slot_changed h i f.within (placed rs) (used r) ((subst (All RecordForm) e k).0, tt) (ap (λ q. placed q (store_of s).slots) e ∙ f.placing r) w

module _ (p : Place) (n : declared.Node) {s s' : Bytes} {i : ℕ} (h : Stored s) where
  pub placed_leaf : {v : ℕ} {k x : Hash} → n ≡ Leaf v k x → All RecordForm (record_says p n) →
      Lowest (store_of s).slots i →
      s' ≡ with_slot counted i (used (record_of p v 0 (leaf_body (hash_bytes k) (hash_bytes x)) no_tally)) s → Changed (placed (record_says p n)) s s'
  placed_leaf e k f w = placed_one (record_says p n) _ h (ap (record_says p) e) k f w

  pub placed_inner : {v : ℕ} {l r : child.Child} {a b : ℕ} → n ≡ Inner v l r a b → All RecordForm (record_says p n) →
      Lowest (store_of s).slots i →
      s' ≡ with_slot counted i (used (record_of p v 0 (inner_body (child_says l) (child_says r)) (tally a b))) s → Changed (placed (record_says p n)) s s'
  placed_inner e k f w = placed_one (record_says p n) _ h (ap (record_says p) e) k f w
