-- The record that is found is the top of the tree that is read on from there: a record in form says what its slot's bytes say, and an inner one
-- stands at a place shorter than a key. Assumes nothing.
use Prim.Native.Nat.{ℕ, zero, suc, ◌-◌, ◌<◌, ◌≤◌}
use native.Mathlib.Omega.{arith}
use mathlib.Core.Path.{◌≡◌, refl, ap, ap₂, sym, ◌∙◌, subst}
use mathlib.Core.Logic.{⊎_elim}
use mathlib.Core.Bool.{Bool, true, false, cond, ◌||◌, beq}
use mathlib.Core.List.{[], ◌∷◌}
use mathlib.Core.Option.{none, some}
use lib.ListN.{length, get_or}
use lib.Dec.{eqb}
use borrow.Author.Tests.{ne_eqb}
use types.Run.{OneOf}
use denote.Enum.Declared.{tag_of}
use Rattle.terms.specs.declared.Form.TheVariants.{Counted as counted}
use Rattle.terms.specs.Bits.{Bytes, Byte, All, Side, right, Place, longer, bit}
use Rattle.terms.specs.Records.{Body, leaf_body, inner_body, Record, free, used}
use Rattle.terms.specs.Form.{RecordForm, place_limit}
use Rattle.meaning.specs.Tree.{VTree, vnone}
use Rattle.meaning.specs.Store.{find, root_of, tree_below, tree_found, tree_from, tree_at_version}
use Rattle.meaning.proofs.Finding.{found_in}
use Rattle.meaning.proofs.Roots.{root_at_lem}
use Rattle.place.specs.declared.Place as place
use Rattle.place.specs.Place.{place_of, Proper, Grown}
use Rattle.place.specs.Place as places
use Rattle.place.proofs.Places.{proper_count}
use Rattle.layout.specs.Sizes.{room_of}
use Rattle.layout.specs.Headers.{size_right}
use Rattle.layout.specs.Slots.{is_leaf, version_in, key_in, leaf_in, left_in, right_in, inner_in, record_in, slot_of, SlotForm}
use Rattle.layout.specs.Stores.{slot_in, store_of, SlotWithin}
use Rattle.layout.proofs.Slots.{slot_form, record_is}
use Rattle.layout.proofs.Stores.{slot_at_lem}
use Rattle.store.proofs.Slots.{slots_many, slot_fits, slot_long, slot_bytes_lem}
use Rattle.std.specs.declared.option.Option as option
use Rattle.changed.specs.Visits.{no_deeper}
use Rattle.changed.specs.Walk.{under}
use Rattle.changes_top.specs.Tops.{grant_at, top_in, tree_here, top_tree, TopRight, TopSays, DeeperSays}
use Rattle.changes_top.specs.declared.Top as declared
use Rattle.changes_top.specs.declared.Top.TheVariants.{Nothing, Leaf, Inner}
use Rattle.changes_top.specs.contracts.Top as top

-- what the bytes of a record in form say
abbrev body_in : Bytes → Body
body_in x = cond (is_leaf x) (leaf_in x) (inner_in x)

inner_limit : (x : Bytes) → place_limit (inner_in x) ≡ 255
unfolding inner_in
inner_limit x = refl

-- what is read on from a place
abbrev onwards : Bytes → place.Place → Side → ℕ → VTree
onwards s p b w = tree_from (255 - p.count) (store_of s).slots w (longer b (place_of p))

module _ (s : Bytes) (size : size_right counted (length s) ≡ true) (bytes : All Byte s) where
  -- the record in slot i stands at a place
  module _ (i : ℕ) (r : Record) (l : i < length (store_of s).slots) (is : get_or (store_of s).slots i free ≡ used r) where
    inside : i < room_of counted (length s)
    inside = rw (slots_many counted s) at l

    pub its_slot : SlotWithin counted i s
    its_slot = slot_fits counted s size i inside

    slot_says_lem : slot_of (slot_in counted i s) ≡ used r
    slot_says_lem = sym (slot_at_lem counted s i inside) ∙ is

    form : RecordForm r
    form = (subst (SlotForm counted) slot_says_lem (slot_form counted (slot_in counted i s) (slot_long counted i s its_slot) (slot_bytes_lem counted i s bytes))).0

    module _ (p : place.Place) (proper : Proper p) (at : r.place ≡ place_of p) where
      abbrev tree_on : Record → VTree
      tree_on q = tree_below q.version q.body (onwards s p)

      short : is_leaf (slot_in counted i s) ≡ false → p.count < 256
      unfolding record_in
      short e =
          let it = ap (λ (q : Record). place_limit q.body) (sym (record_is (slot_in counted i s) r slot_says_lem)) in
          let limit : place_limit r.body ≡ 255 = it ∙ kind in
          omega (arith, form.short, ap length at, proper_count p proper)
        where
          kind : place_limit (body_in (slot_in counted i s)) ≡ 255
          kind = rw e (inner_limit (slot_in counted i s))

      pub found_top : TopSays s p (tree_on r) (top_in i s)
      unfolding top_in record_in leaf_in inner_in grant_at
      found_top = subst (λ q. TopSays s p (tree_on q) (top_in i s)) (record_is (slot_in counted i s) r slot_says_lem) (go (is_leaf (slot_in counted i s)) refl)
        where
          go : (b : Bool) → is_leaf (slot_in counted i s) ≡ b →
              TopSays s p (tree_on (record_in (slot_in counted i s) (cond b (leaf_in (slot_in counted i s)) (inner_in (slot_in counted i s)))))
              (cond b (Leaf i) (Inner i (version_in (slot_in counted i s)) (left_in (slot_in counted i s)).version (right_in (slot_in counted i s)).version))
          go true e = record { right = inside; tree = refl }
          go false e = record { right = short e; tree = refl }

    -- as a child
    module _ (p : place.Place) (proper : Proper p) (v : ℕ) (is_found_lem : find v (place_of p) (store_of s).slots ≡ some r) where
      place_is : r.place ≡ place_of p
      place_is = (found_in (store_of s).slots v (place_of p) r is_found_lem).3

      tree_is : 1 ≤ v → tree_here s p v ≡ tree_below r.version r.body (onwards s p)
      unfolding tree_here
      tree_is h = go (256 - p.count) r.body refl refl
        where
          go : (n : ℕ) (b : Body) → n ≡ 256 - p.count → r.body ≡ b →
              tree_from n (store_of s).slots v (place_of p) ≡ tree_below r.version r.body (onwards s p)
          go zero (leaf_body k x) e f = rw (ne_eqb v 0 (λ z. omega arith), is_found_lem, f)
          go zero (inner_body k x) e f =
              absurd (omega (arith, form.short, ap place_limit f, ap length place_is, proper_count p proper, proper.short))
          go (suc n) b e f =
              let m : n ≡ 255 - p.count = omega arith in
              rw (ne_eqb v 0 (λ z. omega arith), is_found_lem, m)

      pub child_top : 1 ≤ v → TopSays s p (tree_here s p v) (top_in i s)
      child_top h = subst (λ t. TopSays s p t (top_in i s)) (sym (tree_is h)) (found_top p proper place_is)

    -- as a root
    module _ (p : place.Place) (empty : places.Stands [] 0 p) (v : ℕ) (is_root_lem : root_of (store_of s) v ≡ some r) where
      root_tree : tree_at_version (store_of s) v ≡ tree_below r.version r.body (onwards s p)
      unfolding tree_at_version longer
      root_tree =
          ap (λ o. tree_found o (λ b w. tree_from 255 (store_of s).slots w (b ∷ []))) is_root_lem
          ∙ ap₂ (λ n q. tree_below r.version r.body (λ b w. tree_from (255 - n) (store_of s).slots w (longer b q))) (sym empty.count) (sym empty.place)

      pub root_found : TopSays s p (tree_at_version (store_of s) v) (top_in i s)
      root_found = subst (λ t. TopSays s p t (top_in i s)) (sym root_tree) (found_top p empty.proper ((root_at_lem (store_of s) v r is_root_lem).2 ∙ sym empty.place))

  -- none
  pub child_none : (p : place.Place) (v : ℕ) → v ≡ 0 → TopSays s p (tree_here s p v) Nothing
  unfolding tree_here
  child_none p v e = record { right = tt; tree = go (256 - p.count) }
    where
      go : (n : ℕ) → vnone ≡ tree_from n (store_of s).slots v (place_of p)
      go zero = rw e
      go (suc n) = rw e

  pub child_missing : (p : place.Place) (v : ℕ) → find v (place_of p) (store_of s).slots ≡ none → TopSays s p (tree_here s p v) Nothing
  unfolding tree_here
  child_missing p v e = record { right = tt; tree = go (256 - p.count) }
    where
      same : (b : Bool) → vnone ≡ cond b vnone vnone
      same true = refl
      same false = refl

      go : (n : ℕ) → vnone ≡ tree_from n (store_of s).slots v (place_of p)
      go zero = rw e (same (eqb v 0))
      go (suc n) = rw e (same (eqb v 0))

  pub root_missing : (p : place.Place) (v : ℕ) → root_of (store_of s) v ≡ none → TopSays s p (tree_at_version (store_of s) v) Nothing
  unfolding tree_at_version
  root_missing p v e = record { right = tt; tree = sym (ap (λ o. tree_found o (λ b w. tree_from 255 (store_of s).slots w (b ∷ []))) e) }

-- the record in a slot, read
pub leaf_top : (s : Bytes) (i : ℕ) {x : Bytes} {b : Bool} → x ≡ slot_in counted i s → b ≡ is_leaf x → b ≡ true → Leaf i ≡ top_in i s
unfolding top_in
leaf_top s i q d e = rw (ap is_leaf (sym q) ∙ sym d ∙ e)

pub inner_top : (s : Bytes) (i : ℕ) {x : Bytes} {v l r : ℕ} {b : Bool} → x ≡ slot_in counted i s → b ≡ is_leaf x → b ≡ false → v ≡ version_in (slot_in counted i s) →
    l ≡ (left_in (slot_in counted i s)).version → r ≡ (right_in (slot_in counted i s)).version → Inner i v l r ≡ top_in i s
unfolding top_in
inner_top s i q d e f g h = rw (ap is_leaf (sym q) ∙ sym d ∙ e, f, g, h)

bit_comm : (b c : Bool) → beq b c ≡ beq c b
bit_comm true true = refl
bit_comm true false = refl
bit_comm false true = refl
bit_comm false false = refl

-- what is compared at the longer place: the child
module _ (s : Bytes) (p q : place.Place) (b : Side) (grown : Grown b p q) where
  pub kid_below : {t : declared.Top} {i v l r : ℕ} (w : ℕ) (x : declared.Top) → t ≡ Inner i v l r → w ≡ cond b r l → TopSays s q (tree_here s q w) x →
      TopSays s q (under p.count b (top_tree s p t)) x
  unfolding tree_here
  kid_below {t} {i} {v} {l} {r} w x e f h =
      let n : 256 - q.count ≡ 255 - p.count = omega (arith, grown.count) in
      subst (λ u. TopSays s q u x)
      (ap₂ (λ m k. tree_from m (store_of s).slots w k) n grown.place
      ∙ go b f
      ∙ ap (λ u. under p.count b (top_tree s p u)) (sym e))
      h
    where
      go : (c : Side) → w ≡ cond c r l →
          tree_from (255 - p.count) (store_of s).slots w (longer c (place_of p)) ≡ under p.count c (top_tree s p (Inner i v l r))
      go true g = ap (λ m. tree_from (255 - p.count) (store_of s).slots m (longer true (place_of p))) g
      go false g = ap (λ m. tree_from (255 - p.count) (store_of s).slots m (longer false (place_of p))) g

  -- or the leaf, if its key goes there
  module _ {t : declared.Top} (i : ℕ) (e : t ≡ Leaf i) {x k : Bytes} {c : Bool} (slot : x ≡ slot_in counted i s) (key : k ≡ key_in x)
      (goes : c ≡ bit p.count k) where
    leaf_goes : under p.count b (top_tree s p t) ≡ cond (beq b c) (top_tree s p (Leaf i)) vnone
    unfolding grant_at
    leaf_goes =
        ap (λ u. under p.count b (top_tree s p u)) e
        ∙ ap (λ y. cond (beq b (bit p.count y)) (top_tree s p (Leaf i)) vnone) (ap key_in (sym slot) ∙ sym key)
        ∙ ap (λ d. cond (beq b d) (top_tree s p (Leaf i)) vnone) (sym goes)

    pub leaf_below : TopRight s p t → beq c b ≡ true → TopSays s q (under p.count b (top_tree s p t)) (Leaf i)
    leaf_below right f = record {
      right = subst (TopRight s p) e right;
      tree = sym (leaf_goes ∙ rw (bit_comm b c ∙ f));
    }

    pub leaf_elsewhere : beq c b ≡ false → TopSays s q (under p.count b (top_tree s p t)) Nothing
    leaf_elsewhere f = record {
      right = tt;
      tree = sym (leaf_goes ∙ rw (bit_comm b c ∙ f));
    }

  pub none_below : {t : declared.Top} → t ≡ Nothing → TopSays s q (under p.count b (top_tree s p t)) Nothing
  none_below e = record { right = tt; tree = sym (ap (λ u. under p.count b (top_tree s p u)) e) }

-- whether it goes no deeper, by the tops
or-true : (b : Bool) → true ≡ b || true
or-true true = refl
or-true false = refl

or_false : (b : Bool) → b ≡ b || false
or_false true = refl
or_false false = refl

abbrev NoInner : declared.Top → Type 0
NoInner t = OneOf (0 ∷ 1 ∷ []) (tag_of top.the_type t)

pub neither_inner : (t u : declared.Top) → NoInner t → NoInner u → DeeperSays t u true
unfolding no_deeper
neither_inner Nothing Nothing a b s p = refl
neither_inner Nothing (Leaf j) a b s p = refl
neither_inner Nothing (Inner j w m q) a b s p = absurd (⊎_elim (λ e. omega arith) (λ e. omega arith) b)
neither_inner (Leaf i) Nothing a b s p = refl
neither_inner (Leaf i) (Leaf j) a b s p = or-true (eqb (version_in (slot_in counted i s)) (version_in (slot_in counted j s)))
neither_inner (Leaf i) (Inner j w m q) a b s p = absurd (⊎_elim (λ e. omega arith) (λ e. omega arith) b)
neither_inner (Inner i v l r) u a b s p = absurd (⊎_elim (λ e. omega arith) (λ e. omega arith) a)

pub second_inner : (t u : declared.Top) {j w m q : ℕ} → NoInner t → u ≡ Inner j w m q → DeeperSays t u false
unfolding no_deeper
second_inner Nothing u a e s p = ap (λ x. no_deeper vnone (top_tree s p x)) (sym e)
second_inner (Leaf i) u a e s p = ap (λ x. no_deeper (top_tree s p (Leaf i)) (top_tree s p x)) (sym e)
second_inner (Inner i v l r) u a e s p = absurd (⊎_elim (λ e. omega arith) (λ e. omega arith) a)

pub first_inner : (t u : declared.Top) {i v l r : ℕ} → t ≡ Inner i v l r → NoInner u → DeeperSays t u false
unfolding no_deeper
first_inner t Nothing e b s p = ap (λ x. no_deeper (top_tree s p x) vnone) (sym e)
first_inner t (Leaf j) e b s p = ap (λ x. no_deeper (top_tree s p x) (top_tree s p (Leaf j))) (sym e)
first_inner t (Inner j w m q) e b s p = absurd (⊎_elim (λ e. omega arith) (λ e. omega arith) b)

pub both_inner : (t u : declared.Top) {i v l r j w m q : ℕ} → t ≡ Inner i v l r → u ≡ Inner j w m q → DeeperSays t u (eqb v w)
unfolding no_deeper
both_inner t u {v = v} {w = w} e f s p =
    or_false (eqb v w) ∙ ap₂ (λ x y. no_deeper (top_tree s p x) (top_tree s p y)) (sym e) (sym f)
