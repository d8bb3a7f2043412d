-- A walk counts and lists what the two trees say: at a place where it goes no deeper, and above its two longer places. Assumes nothing.
use Prim.Native.Nat.{ℕ, zero, suc, ◌+◌, ◌*◌, ◌-◌, ◌<◌, ◌≤◌}
use native.Mathlib.Omega.{arith}
use mathlib.Core.Path.{◌≡◌, refl, ap, ap₂, sym, ◌∙◌, subst}
use mathlib.Core.Bool.{Bool, true, false, cond, ◌||◌, true≢false}
use mathlib.Core.List.{List, [], ◌∷◌, ◌++◌, map, map-append}
use lib.ListN.{length, length-append}
use Rattle.terms.specs.declared.Form.TheVariants.{Counted as counted}
use Rattle.terms.specs.Bits.{Bytes, All, Side, left, right}
use Rattle.terms.specs.Fields.{flat}
use Rattle.terms.proofs.Fields.{flat_append}
use Rattle.meaning.specs.Tree.{VTree, vnone, vleaf, vinner, kid}
use Rattle.place.specs.declared.Place as place
use Rattle.place.specs.Place.{place_of, Proper, Grown}
use Rattle.layout.specs.Headers.{size_right}
use Rattle.layout.specs.Stores.{slot_in}
use Rattle.slots.proofs.Parts.{key_long, value_long}
use Rattle.layout.proofs.Headers.{size_long}
use Rattle.store.proofs.Slots.{slot_long, slot_fits}
use Rattle.changed.specs.Changes.{changed, Item, items, item_size, item_bytes, list_bytes}
use Rattle.changed.specs.Visits.{same_record, no_deeper}
use Rattle.changed.specs.Walk.{visits_at, under, held, listed}
use Rattle.changed.proofs.Walk.{visits_carried}
use Rattle.changed.proofs.Ends.{Long32, ends_few, ends_long, items_append, listed_few}
use Rattle.changes_top.specs.declared.Top as top
use Rattle.changes_top.specs.declared.Top.TheVariants.{Nothing, Leaf, Inner}
use Rattle.changes_top.specs.Tops.{grant_at, top_tree, TopRight, TopSays}
use Rattle.changes_put.specs.Puts.{leaf_of, end_items, put_into, LeafIn, Fits, Ends, Puts}
use Rattle.changes_put.proofs.Putting.{put_on}
use Rattle.changes_walk.specs.Walk.{visits_here, items_here, Here, Goes, WalkSays}
use Rattle.changes_walk.specs.declared.Walked as walked
use Rattle.changes_walk.specs.declared.Walked.TheVariants.{Passed, Done}

-- a top that is a leaf
held_leaf : (s : Bytes) (p : place.Place) (t : top.Top) → held (top_tree s p t) ≡ leaf_of s t
held_leaf s p Nothing = refl
held_leaf s p (Leaf i) = refl
held_leaf s p (Inner i v l r) = refl

leaf_in_lem : (s : Bytes) (p : place.Place) (t : top.Top) → size_right counted (length s) ≡ true → TopRight s p t → LeafIn s t
leaf_in_lem s p Nothing z h = tt
leaf_in_lem s p (Leaf i) z h = slot_fits counted s z i h
leaf_in_lem s p (Inner i v l r) z h = tt

leaf_long : (s : Bytes) (p : place.Place) (t : top.Top) → size_right counted (length s) ≡ true → TopRight s p t → All Long32 (held (top_tree s p t))
unfolding grant_at
leaf_long s p Nothing z h = tt
leaf_long s p (Leaf i) z h =
    let l = size_long counted (slot_in counted i s) (slot_long counted i s (slot_fits counted s z i h)) in ((key_long (slot_in counted i s) l, value_long (slot_in counted i s) l), tt)
leaf_long s p (Inner i v l r) z h = tt

-- two lists of records, one after the other
pub bytes_append : (xs ys : List Item) → list_bytes (xs ++ ys) ≡ list_bytes xs ++ list_bytes ys
bytes_append xs ys = ap flat (map-append item_bytes xs ys) ∙ flat_append (map item_bytes xs) (map item_bytes ys)

-- a visit lists at most two records
items_few : (s : Bytes) (p : place.Place) (first second : top.Top) → length (items_here s p first second) ≤ 2 * visits_here s p first second
unfolding items_here visits_here
items_few s p first second = listed_few (256 - p.count) p.count (top_tree s p first) (top_tree s p second)

-- there is a visit
pub no_budget : (s : Bytes) (p : place.Place) (first second : top.Top) (budget : ℕ) → budget ≡ 0 → budget < visits_here s p first second
unfolding visits_here
no_budget s p first second budget e = go (256 - p.count)
  where
    go : (n : ℕ) → budget < visits_at n (top_tree s p first) (top_tree s p second)
    go zero = omega arith
    go (suc n) = omega arith

module _ (s : Bytes) (p : place.Place) (first second : top.Top) (h : Here s p first second) where
  abbrev T : VTree
  T = top_tree s p first

  abbrev U : VTree
  U = top_tree s p second

  -- it goes no deeper
  module _ (stop : no_deeper T U ≡ true) where
    visits_stop : visits_here s p first second ≡ 1
    unfolding visits_here
    visits_stop = go (256 - p.count)
      where
        go : (n : ℕ) → visits_at n T U ≡ 1
        go zero = refl
        go (suc n) = rw stop

    items_stop : items_here s p first second ≡ end_items s first second
    unfolding items_here end_items
    items_stop =
        ap items (go (256 - p.count)) ∙ ap₂ (λ x y. items (changed x y)) (held_leaf s p first) (held_leaf s p second)
      where
        go : (n : ℕ) → listed n p.count T U ≡ changed (held T) (held U)
        go zero = refl
        go (suc n) = rw stop

    items_end : items_here s p first second ≡ items (changed (leaf_of s first) (leaf_of s second))
    unfolding end_items
    items_end = items_stop

    few : length (end_items s first second) ≤ 2
    unfolding end_items
    few = subst (λ n. n ≤ 2) (ap₂ (λ x y. length (items (changed x y))) (held_leaf s p first) (held_leaf s p second)) (ends_few T U)

    pub may_end : {budget : ℕ} {w : Bool} {room : Bytes} {at : ℕ} → Goes s p first second budget w room at → (budget ≡ 0 → ⊥) →
        Ends s first second w at room
    may_end g b = record {
      old = leaf_in_lem s p first h.size h.old;
      new = leaf_in_lem s p second h.size h.new;
      fits = record {
        within = λ e. omega (arith, g.within e, ap (length {A = Item}) items_stop);
        small = omega (arith, few, g.small);
      };
    }

    pub ended : {w : Bool} {room : Bytes} {at n : ℕ} {left : Bytes} (rest budget : ℕ) → rest + 1 ≡ budget →
        Puts w at (end_items s first second) room n left → WalkSays s p first second budget w room at (Done rest n) left
    ended {w} {room} {at} rest budget e q = (
      omega (arith, visits_stop),
      q.next ∙ ap (λ xs. at + length xs) (sym items_stop),
      q.bytes ∙ ap (λ xs. put_into w at (list_bytes xs) room) (sym items_stop),
      subst (λ xs. length (list_bytes xs) ≡ item_size * length xs)
          (ap₂ (λ x y. items (changed x y)) (held_leaf s p first) (held_leaf s p second) ∙ sym items_end)
          (ends_long T U (leaf_long s p first h.size h.old) (leaf_long s p second h.size h.new)),
    )

  -- it goes deeper
  module _ (on : no_deeper T U ≡ false) where
    pub goes_short : p.count < 256
    unfolding no_deeper
    goes_short = go first second h.old h.new on
      where
        none : (b : Bool) → b || true ≡ false → p.count < 256
        none true e = absurd (true≢false e)
        none false e = absurd (true≢false e)

        go : (t u : top.Top) → TopRight s p t → TopRight s p u → no_deeper (top_tree s p t) (top_tree s p u) ≡ false → p.count < 256
        go (Inner i v l r) u a b e = a
        go Nothing (Inner i v l r) a b e = b
        go (Leaf i) (Inner j v l r) a b e = b
        go Nothing Nothing a b e = absurd (true≢false e)
        go Nothing (Leaf j) a b e = absurd (true≢false e)
        go (Leaf i) Nothing a b e = absurd (true≢false e)
        go (Leaf i) (Leaf j) a b e = none (same_record (top_tree s p (Leaf i)) (top_tree s p (Leaf j))) e

    abbrev m : ℕ
    m = 255 - p.count

    -- one side
    module _ (b : Side) (q : place.Place) (grown : Grown b p q) {x y : top.Top} (tx : TopSays s q (under p.count b T) x)
        (ty : TopSays s q (under p.count b U) y) where
      n_is : 256 - q.count ≡ m
      n_is = omega (arith, grown.count)

      visits_side : visits_here s q x y ≡ visits_at m (kid b T) (kid b U)
      unfolding visits_here
      visits_side =
          ap (λ n. visits_at n (top_tree s q x) (top_tree s q y)) n_is
          ∙ ap₂ (visits_at m) tx.tree ty.tree
          ∙ visits_carried m p.count b T U

      items_side : items_here s q x y ≡ items (listed m (suc p.count) (under p.count b T) (under p.count b U))
      unfolding items_here
      items_side =
          let i : q.count ≡ suc p.count = omega (arith, grown.count) in
          ap items (ap₂ (λ n k. listed n k (top_tree s q x) (top_tree s q y)) n_is i ∙ ap₂ (listed m (suc p.count)) tx.tree ty.tree)

      pub side_here : Here s q x y
      side_here = record { size = h.size; apart = h.apart; proper = grown.proper; old = tx.right; new = ty.right }

    visits_deeper : visits_here s p first second ≡ 1 + (visits_at m (kid left T) (kid left U) + visits_at m (kid right T) (kid right U))
    unfolding visits_here
    visits_deeper = let n : 256 - p.count ≡ suc m = omega (arith, goes_short) in ap (λ k. visits_at k T U) n ∙ rw on (omega arith)

    items_deeper : items_here s p first second
        ≡ items (listed m (suc p.count) (under p.count left T) (under p.count left U))
        ++ items (listed m (suc p.count) (under p.count right T) (under p.count right U))
    unfolding items_here
    items_deeper =
        let n : 256 - p.count ≡ suc m = omega (arith, goes_short) in
        ap (λ k. items (listed k p.count T U)) n
        ∙ rw on (items_append (listed m (suc p.count) (under p.count left T) (under p.count left U)) (listed m (suc p.count) (under p.count right T) (under p.count right U)))

    -- to the left, and then to the right
    module _ {budget : ℕ} {w : Bool} {room : Bytes} {at : ℕ} (g : Goes s p first second budget w room at) (some : budget ≡ 0 → ⊥)
        {l : place.Place} (gl : Grown left p l) {a b : top.Top}
        (ta : TopSays s l (under p.count left T) a) (tb : TopSays s l (under p.count left U) b) where
      vl : visits_here s l a b ≡ visits_at m (kid left T) (kid left U)
      vl = visits_side left l gl ta tb

      il : items_here s l a b ≡ items (listed m (suc p.count) (under p.count left T) (under p.count left U))
      il = items_side left l gl ta tb

      length_deeper : length (items_here s p first second)
          ≡ length (items_here s l a b) + length (items (listed m (suc p.count) (under p.count right T) (under p.count right U)))
      length_deeper =
          ap length items_deeper
          ∙ length-append (items (listed m (suc p.count) (under p.count left T) (under p.count left U))) (items (listed m (suc p.count) (under p.count right T) (under p.count right U)))
          ∙ ap (λ xs. length xs + length (items (listed m (suc p.count) (under p.count right T) (under p.count right U)))) (sym il)

      pub goes_left : Goes s l a b (budget - 1) w room at
      goes_left = record {
        here = side_here left l gl ta tb;
        enough = λ e. omega (arith, g.enough e, visits_deeper, vl);
        within = λ e. omega (arith, g.within e, length_deeper);
        small = omega (arith, g.small);
      }

      pub passed_left : (x : Bytes) → WalkSays s l a b (budget - 1) w room at Passed x → WalkSays s p first second budget w room at Passed x
      passed_left x q = (omega (arith, q.0, visits_deeper, vl), q.1)

      module _ (rest n : ℕ) (x : Bytes) (q : WalkSays s l a b (budget - 1) w room at (Done rest n) x) (long : length x ≡ length room)
          {r : place.Place} (gr : Grown right p r) {c d : top.Top}
          (tc : TopSays s r (under p.count right T) c) (td : TopSays s r (under p.count right U) d) where
        vr : visits_here s r c d ≡ visits_at m (kid right T) (kid right U)
        vr = visits_side right r gr tc td

        ir : items_here s r c d ≡ items (listed m (suc p.count) (under p.count right T) (under p.count right U))
        ir = items_side right r gr tc td

        both : items_here s p first second ≡ items_here s l a b ++ items_here s r c d
        both = items_deeper ∙ ap₂ ◌++◌ (sym il) (sym ir)

        length_both : length (items_here s p first second) ≡ length (items_here s l a b) + length (items_here s r c d)
        length_both = ap length both ∙ length-append (items_here s l a b) (items_here s r c d)

        pub goes_right : Goes s r c d rest w x n
        goes_right = record {
          here = side_here right r gr tc td;
          enough = λ e. omega (arith, g.enough e, visits_deeper, vl, vr, q.0);
          within = λ e. omega (arith, g.within e, length_both, q.1, long);
          small = omega (arith, g.small, q.0, q.1, items_few s l a b);
        }

        pub went_on : (z : walked.Walked) (y : Bytes) → WalkSays s r c d rest w x n z y → WalkSays s p first second budget w room at z y
        went_on Passed y u = (omega (arith, u.0, q.0, visits_deeper, vl, vr), u.1 ∙ untouched w refl)
          where
            untouched : (t : Bool) → w ≡ t → x ≡ room
            untouched true e = absurd (omega (arith, g.enough e, u.0, q.0, visits_deeper, vl, vr))
            untouched false e = q.2 ∙ ap (λ t. put_into t at (list_bytes (items_here s l a b)) room) e
        went_on (Done k i) y u = (
          omega (arith, u.0, q.0, visits_deeper, vl, vr),
          omega (arith, u.1, q.1, length_both),
          u.2
              ∙ ap₂ (λ j f. put_into w j (list_bytes (items_here s r c d)) f) q.1 q.2
              ∙ put_on w at (length (items_here s l a b)) (length (items_here s r c d)) (list_bytes (items_here s l a b)) (list_bytes (items_here s r c d)) room
              q.3 u.3 (fits_over u)
              ∙ ap (λ f. put_into w at f room) (sym (bytes_append (items_here s l a b) (items_here s r c d)))
              ∙ ap (λ xs. put_into w at (list_bytes xs) room) (sym both),
          omega (arith, length_both, q.3, u.3, ap (λ xs. length (list_bytes xs)) both ∙ ap length (bytes_append (items_here s l a b) (items_here s r c d)) ∙ length-append (list_bytes (items_here s l a b)) (list_bytes (items_here s r c d))),
        )
          where
            fits_over : WalkSays s r c d rest w x n (Done k i) y → Fits w (length (items_here s l a b) + length (items_here s r c d)) at room
            fits_over v = record {
              within = λ e. omega (arith, g.within e, length_both);
              small = omega (arith, g.small, q.0, v.0, items_few s l a b, items_few s r c d);
            }
