-- The slots from i on split, slot by slot, and the numbers of a version from a split. Assumes nothing.
use Prim.Native.Nat.{ℕ, suc, ◌+◌, ◌*◌, ◌-◌, ◌<◌, ◌≤◌}
use native.Mathlib.Omega.{arith}
use mathlib.Core.Path.{◌≡◌, refl, ap, ap₂, sym, ◌∙◌, subst}
use mathlib.Core.Bool.{Bool, true, false}
use mathlib.Core.List.{List, [], ◌∷◌}
use lib.ListN.{length, get_or, set, drop}
use lib.Seq.{get_or-set_same, get_or-set_other}
use lib.Dec.{eqb}
use borrow.Author.Tests.{eqb-true, eqb-false}
use Rattle.terms.specs.declared.Form.TheVariants.{Counted as counted}
use Rattle.terms.specs.Bits.{Bytes, Byte, All}
use Rattle.terms.specs.Records.{Slot}
use Rattle.layout.specs.Sizes.{room_of}
use Rattle.layout.specs.Stores.{store_of, slot_no}
use Rattle.layout.proofs.Headers.{size_says}
use Rattle.store.proofs.Slots.{slots_many}
use Rattle.quarter.specs.Figures.{Figures}
use Rattle.quarter.specs.Living.{slot_lives, slot_adds, living_figures}
use Rattle.quarter.proofs.Theorems.{slot_added}
use Rattle.figures_count.specs.Count.{figures_say, Plain, Countable, Whole}
use Rattle.figures_count.specs.declared.Figures as declared
use Rattle.figures_count.proofs.Slots.{holding, adds_few}
use Rattle.figures_count.proofs.Backward.{Backward, backward_slot, backward_next, backward_end, backward_few}
use Rattle.figures_block.specs.Block.{list_adds, Split, Counts}
use Rattle.figures_block.proofs.Adding.{adds_at_each, adds_at_none, come_last, entry_apart}

-- numbers that are all 0
pub record Zero (f : declared.Figures) : Type 0 where
  pub leaves : f.leaves ≡ 0
  pub inners : f.inners ≡ 0
  pub longest : f.longest ≡ 0
  pub sum : f.sum ≡ 0

pub none_split : (s : Bytes) (list : List ℕ) (first last : ℕ) (f : declared.Figures) → Zero f → Split s list first last 0 f []
unfolding living_figures
none_split s list first last f z = record {
  told = λ v h k.
      ap₂ (λ x y. record { leaves = x; inners = y; longest = f.longest; path_sum = f.sum }) z.leaves z.inners
      ∙ ap₂ (λ x y. record { leaves = 0; inners = 0; longest = x; path_sum = y }) z.longest z.sum;
  inside = λ j h. absurd (omega arith);
  few = omega (arith, z.leaves, z.inners);
  sum = omega (arith, z.sum);
}

pub no_version : (s : Bytes) (list : List ℕ) (f : declared.Figures) (xs : List Slot) → Zero f → Split s list 1 0 0 f xs
no_version s list f xs z = record {
  told = λ v h k. absurd (omega arith);
  inside = λ j h. absurd (omega arith);
  few = omega (arith, z.leaves, z.inners);
  sum = omega (arith, z.sum);
}

module _ {s : Bytes} {list : List ℕ} {first last listed : ℕ} {all : declared.Figures} {n i : ℕ} (w : Backward s (Split s list first last listed all) n i) where
  abbrev x : Slot
  x = slot_no counted (i - 1) s

  abbrev xs : List Slot
  xs = drop i (store_of s).slots

  -- there is an entry left in the list, as long as it is
  pub split_fits : 0 < i → listed < 16384
  split_fits h = omega (arith, backward_few w, w.holds.few)

  pub split_slot : 0 < i → Countable s (i - 1) all
  split_slot h =
      let b = backward_few w in
      let t = w.holds in
      record {
        plain = backward_slot w h;
        few = record { leaves = omega (arith, b, t.few); inners = omega (arith, b, t.few); sum = omega (arith, b, t.sum); steps = omega arith };
      }

  module _ (h : 0 < i) where
    -- it lives at each version: counted at once
    pub split_each : All Byte s → {b : Bool} → b ≡ slot_lives last first x → b ≡ true → (r : declared.Figures) → figures_say r ≡ slot_adds first x (figures_say all) →
        Backward s (Split s list first last listed r) n (i - 1)
    split_each bytes e t r is =
        let o = w.holds in
        let l = adds_few x (holding s (i - 1) (backward_slot w h) bytes) first (figures_say all) in
        backward_next w h (Split s list first last listed r)
        (record {
          told = λ v a z.
              ap (list_adds s list v listed) (is ∙ adds_at_each a z x (figures_say all) (sym e ∙ t))
              ∙ come_last s list v listed x (figures_say all) ∙ ap (slot_adds v x) (o.told v a z) ∙ slot_added v x xs;
          inside = o.inside;
          few = omega (arith, o.few, l.0, ap (λ (q : Figures). q.leaves) is, ap (λ (q : Figures). q.inners) is);
          sum = omega (arith, o.sum, l.1, ap (λ (q : Figures). q.path_sum) is);
        })

    -- it lives at none: passed over
    pub split_none : {b : Bool} → b ≡ slot_lives first last x → b ≡ false → Backward s (Split s list first last listed all) n (i - 1)
    split_none e t =
        let o = w.holds in
        backward_next w h (Split s list first last listed all)
        (record {
          told = λ v a z. o.told v a z ∙ sym (adds_at_none a z x (living_figures v xs) (sym e ∙ t)) ∙ slot_added v x xs;
          inside = o.inside;
          few = omega (arith, o.few);
          sum = omega (arith, o.sum);
        })

    -- any may be listed
    pub split_listed : listed < length list → {m : ℕ} → m ≡ i - 1 → Backward s (Split s (set list listed m) first last (listed + 1) all) n (i - 1)
    split_listed room {m} e =
        let o = w.holds in
        let one : suc listed ≡ listed + 1 = omega arith in
        backward_next w h (Split s (set list listed m) first last (listed + 1) all)
        (subst (λ k. Split s (set list listed m) first last k all (x ∷ xs)) one
        (record {
          told = λ v a z.
              ap₂ (λ k f. slot_adds v (slot_no counted k s) f) (get_or-set_same list listed m 0 room ∙ e)
              (entry_apart s list v listed listed m (figures_say all) (omega arith) ∙ o.told v a z)
              ∙ slot_added v x xs;
          inside = λ j k. go j k (eqb j listed) refl;
          few = omega (arith, o.few);
          sum = omega (arith, o.sum);
        }))
      where
        go : (j : ℕ) → j < suc listed → (b : Bool) → eqb j listed ≡ b → get_or (set list listed m) j 0 < room_of counted (length s)
        go j k true q =
            let same = eqb-true j listed q in
            let it = ap (λ y. get_or (set list listed m) y 0) same ∙ get_or-set_same list listed m 0 room ∙ e in
            omega (arith, it, w.room, w.within)
        go j k false q =
            let other = eqb-false j listed q in
            let it = get_or-set_other list listed j m 0 other in
            let below : j < listed = omega (arith, k, other) in
            omega (arith, it, w.holds.inside j below)

  pub split_end : i ≤ 0 → Split s list first last listed all (store_of s).slots
  split_end h = backward_end w h

-- the numbers of version v, with what the first j slots of the list add
pub record Adding (s : Bytes) (list : List ℕ) (v first last listed : ℕ) (all f : declared.Figures) (j : ℕ) : Type 0 where
  pub store : Whole s
  pub split : Split s list first last listed all (store_of s).slots
  pub within : j ≤ listed
  pub told : figures_say f ≡ list_adds s list v j (figures_say all)
  pub few : f.leaves + f.inners ≤ all.leaves + all.inners + j
  pub sum : f.sum ≤ all.sum + 256 * j

pub adding_start : {s : Bytes} {list : List ℕ} {first last listed : ℕ} {all : declared.Figures} (v : ℕ) → Whole s →
    Split s list first last listed all (store_of s).slots → Adding s list v first last listed all all 0
adding_start v w p = record { store = w; split = p; within = omega arith; told = refl; few = omega arith; sum = omega arith }

module _ {s : Bytes} {list : List ℕ} {v first last listed : ℕ} {all f : declared.Figures} {j : ℕ} (w : Adding s list v first last listed all f j) where
  many : length (store_of s).slots ≤ 16384
  many = omega (arith, slots_many counted s, size_says counted (length s) w.store.size)

  slot_plain : j < listed → Plain s (get_or list j 0)
  slot_plain h = record {
    has = record { size = w.store.size; inside = w.split.inside j h };
    whole = λ x. w.store.whole (get_or list j 0) x (w.split.inside j h);
  }

  pub adding_inside : j < listed → j < 16384
  adding_inside h = omega (arith, w.split.few, many)

  pub adding_small : j < listed → get_or list j 0 < 16384
  adding_small h = omega (arith, w.split.inside j h, size_says counted (length s) w.store.size)

  pub adding_slot : j < listed → Countable s (get_or list j 0) f
  adding_slot h = record {
    plain = slot_plain h;
    few = record {
      leaves = omega (arith, w.few, w.split.few, many, h);
      inners = omega (arith, w.few, w.split.few, many, h);
      sum = omega (arith, w.sum, w.split.sum, many, h);
      steps = omega arith;
    };
  }

  pub adding_next : All Byte s → j < listed → (r : declared.Figures) → figures_say r ≡ slot_adds v (slot_no counted (get_or list j 0) s) (figures_say f) →
      Adding s list v first last listed all r (j + 1)
  adding_next bytes h r e =
      let l = adds_few (slot_no counted (get_or list j 0) s) (holding s (get_or list j 0) (slot_plain h) bytes) v (figures_say f) in
      let one : suc j ≡ j + 1 = omega arith in
      record {
        store = w.store;
        split = w.split;
        within = omega arith;
        told = e ∙ ap (slot_adds v (slot_no counted (get_or list j 0) s)) w.told ∙ ap (λ k. list_adds s list v k (figures_say all)) one;
        few = omega (arith, w.few, l.0, ap (λ (q : Figures). q.leaves) e, ap (λ (q : Figures). q.inners) e);
        sum = omega (arith, w.sum, l.1, ap (λ (q : Figures). q.path_sum) e);
      }

  pub adding_end : listed ≤ j → first ≤ v → v ≤ last → Counts s v f
  adding_end h a b =
      let k : j ≡ listed = omega (arith, w.within) in
      record {
        told = w.told ∙ ap (λ m. list_adds s list v m (figures_say all)) k ∙ w.split.told v a b;
        few = omega (arith, w.few, w.split.few, many, k);
      }
