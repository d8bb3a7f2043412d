-- Records put one after the other are the list put at once; a list that is not written leaves the buffer. Assumes nothing.
use Prim.Native.Nat.{ℕ, ◌+◌, ◌*◌, ◌-◌, ◌<◌, ◌≤◌}
use native.Mathlib.Omega.{arith}
use mathlib.Core.Path.{◌≡◌, refl, ap, ap₂, sym, ◌∙◌, subst}
use mathlib.Core.Logic.{⊎_elim}
use mathlib.Core.Bool.{Bool, true, false, cond, true≢false}
use mathlib.Core.List.{List, [], ◌∷◌, ◌++◌, append-nil}
use lib.ListN.{length, take, drop, length-append, take-append-drop}
use types.Run.{OneOf}
use denote.Enum.Declared.{tag_of}
use Rattle.terms.specs.declared.Form.TheVariants.{Counted as counted}
use Rattle.terms.specs.Bits.{Bytes, before, same_bytes}
use Rattle.terms.specs.Fields.{le, zero_bytes, flat}
use Rattle.terms.specs.Records.{Grant, grant}
use Rattle.terms.proofs.Tests.{same_bytes_lem, bytes_same}
use Rattle.terms.proofs.Order.{before_total}
use Rattle.terms.proofs.Fields.{length_le}
use Rattle.fields.specs.Written.{written}
use Rattle.fields.proofs.Written.{length_written, part_written, fields_written_lem, fields_fill, fields_written}
use Rattle.layout.specs.Sizes.{grant_size}
use Rattle.layout.specs.Slots.{key_in, value_inside, grant_in}
use Rattle.layout.specs.Stores.{slot_in, SlotWithin}
use Rattle.slots.proofs.Parts.{grant_key, grant_value, key_long, value_long}
use Rattle.layout.proofs.Headers.{size_long}
use Rattle.store.proofs.Slots.{slot_long}
use Rattle.changed.specs.Changes.{added, removed, another, changed, Item, inserts, deletes, items, item_size, item_as, item_bytes, list_bytes}
use Rattle.changed.proofs.Ends.{item_long, removed_first, added_first, one_key, only_removed}
use Rattle.changes_top.specs.declared.Top as top
use Rattle.changes_top.specs.declared.Top.TheVariants.{Nothing, Leaf, Inner}
use Rattle.changes_top.specs.Tops.{grant_at}
use Rattle.changes_top.specs.contracts.Top as top-type
use Rattle.changes_put.specs.Puts.{grant_of, leaf_of, two_items, end_items, put_into, Fits, LeafIn, Ends, Puts}

-- two writings, one after the other
written_on : (i : ℕ) (f g s : Bytes) → i + length f + length g ≤ length s → written (i + length f) g (written i f s) ≡ written i (f ++ g) s
written_on i f g s h =
    fields_written_lem (length f ∷ length g ∷ []) i (f ∷ g ∷ []) s (refl, (refl, tt)) (omega arith)
    ∙ ap (λ x. written i (f ++ x) s) (append-nil g)

pub none_written : (i : ℕ) (s : Bytes) → i ≤ length s → s ≡ written i [] s
none_written i s h = fields_written_lem [] i [] s tt (omega arith)

-- no record
pub put_none : (w : Bool) (at n : ℕ) (s : Bytes) → Fits w n at s → s ≡ put_into w at [] s
put_none true at n s h = none_written (item_size * at) s (omega (arith, h.within refl))
put_none false at n s h = refl

-- a buffer keeps its length
pub put_length : (w : Bool) (at n : ℕ) (f s : Bytes) → length f ≡ item_size * n → Fits w n at s → length (put_into w at f s) ≡ length s
put_length true at n f s e h = length_written (item_size * at) f s (omega (arith, h.within refl))
put_length false at n f s e h = refl

-- what fits, fits bit by bit
pub fits_less : {w : Bool} {n at : ℕ} {s : Bytes} (m : ℕ) → m ≤ n → Fits w n at s → Fits w m at s
fits_less m l h = record { within = λ e. omega (arith, h.within e); small = omega (arith, h.small) }

pub fits_next : (w : Bool) (at m n : ℕ) (f s : Bytes) → length f ≡ item_size * m → Fits w (m + n) at s →
    Fits w n (at + m) (put_into w at f s)
fits_next w at m n f s e h = record {
  within = λ t. rw (put_length w at m f s e (fits_less m (omega arith) h)) (omega (arith, h.within t));
  small = omega (arith, h.small);
}

pub put_on : (w : Bool) (at m n : ℕ) (f g s : Bytes) → length f ≡ item_size * m → length g ≡ item_size * n → Fits w (m + n) at s →
    put_into w (at + m) g (put_into w at f s) ≡ put_into w at (f ++ g) s
put_on true at m n f g s d e h =
    let i : item_size * (at + m) ≡ item_size * at + length f = omega arith in
    rw i (written_on (item_size * at) f g s (omega (arith, h.within refl)))
put_on false at m n f g s d e h = refl

-- the grant in a slot
module _ (s : Bytes) (i : ℕ) (h : SlotWithin counted i s) where
  pub grant_is : {x g : Bytes} → x ≡ slot_in counted i s → g ≡ grant_in x → grant_of g ≡ grant_at i s
  unfolding grant_of grant_at
  grant_is {x} {g} d e = rw (e ∙ ap grant_in d) (ap₂ grant (grant_key (slot_in counted i s)) (grant_value (slot_in counted i s)))

  pub item_sized : (kind : ℕ) → length (item_as kind (grant_at i s)) ≡ item_size * 1
  unfolding grant_at
  item_sized kind =
      let l = size_long counted (slot_in counted i s) (slot_long counted i s h) in item_long kind (grant_at i s) (key_long (slot_in counted i s) l, value_long (slot_in counted i s) l)

-- the fields of a record fill its 72 bytes
grant_parts : (g : Bytes) → flat (g ∷ []) ≡ flat (take 32 g ∷ drop 32 g ∷ [])
grant_parts g = append-nil g ∙ sym (ap (take 32 g ++◌) (append-nil (drop 32 g)) ∙ take-append-drop 32 g)

two_zeros : le 2 0 ≡ zero_bytes 2
unfolding le zero_bytes
two_zeros = refl

pub item_put : {a b c y : Bytes} (kind : ℕ) (part g : Bytes) → length part ≡ item_size → length g ≡ grant_size → a ≡ written 0 (le 4 72) part →
    b ≡ written 4 (le 2 kind) a → c ≡ written 6 (le 2 0) b → y ≡ g → take 8 c ++ (y ++ drop 64 (drop 8 c)) ≡ item_as kind (grant_of g)
unfolding item_as grant_of
item_put {a} {b} {c} {y} kind part g l m ea eb ec ey =
    let d : c ≡ written 6 (le 2 0) (written 4 (le 2 kind) (written 0 (le 4 72) part)) =
    ec ∙ ap (written 6 (le 2 0)) (eb ∙ ap (written 4 (le 2 kind)) ea) in
    let fs = le 4 72 ∷ le 2 kind ∷ le 2 0 ∷ g ∷ [] in
    part_written 8 72 y c (omega (arith, ap length ey))
    ∙ ap₂ (λ u v. written 8 u v) ey d
    ∙ fields_fill (4 ∷ 2 ∷ 2 ∷ 64 ∷ []) fs part (length_le 4 72, (length_le 2 kind, (length_le 2 0, (m, tt)))) (omega arith)
    ∙ ap₂ (λ z h. le 4 72 ++ (le 2 kind ++ (z ++ h))) two_zeros (grant_parts g)

pub not_put : (w : Bool) (at : ℕ) (f s : Bytes) → w ≡ false → s ≡ put_into w at f s
not_put w at f s e = rw e

pub record_put : {x g y : Bytes} (s : Bytes) (i : ℕ) → SlotWithin counted i s → (kind : ℕ) (w : Bool) (at : ℕ) (room : Bytes) → w ≡ true → x ≡ slot_in counted i s →
    g ≡ grant_in x → y ≡ item_as kind (grant_of g) →
    take (item_size * at) room ++ (y ++ drop (item_size * at + item_size - item_size * at) (drop (item_size * at) room))
    ≡ put_into w at (item_as kind (grant_at i s)) room
record_put {x} {g} {y} s i h kind w at room e d f k =
    let z : y ≡ item_as kind (grant_at i s) = k ∙ ap (item_as kind) (grant_is s i h d f) in
    part_written (item_size * at) (item_size * at + item_size) y room (omega (arith, ap length z ∙ item_sized s i h kind))
    ∙ rw e (ap (λ v. written (item_size * at) v room) z)

-- one record, two, none
module _ (w : Bool) (at : ℕ) (room : Bytes) {xs : List Item} where
  pub one_put : {left : Bytes} {x : Item} → xs ≡ x ∷ [] → left ≡ put_into w at (item_bytes x) room → Puts w at xs room (at + 1) left
  one_put {left} {x} e h = record {
    next = ap (λ n. at + n) (sym (ap (length {A = Item}) e));
    bytes = h ∙ ap (λ f. put_into w at f room) (sym (append-nil (item_bytes x))) ∙ ap (λ y. put_into w at (list_bytes y) room) (sym e);
  }

  pub two_put : {n : ℕ} {left : Bytes} {x y : Item} → xs ≡ x ∷ y ∷ [] → n ≡ at + 2 → left ≡ put_into w at (item_bytes x ++ item_bytes y) room →
      Puts w at xs room n left
  two_put {n} {left} {x} {y} e k h = record {
    next = k ∙ ap (λ m. at + m) (sym (ap (length {A = Item}) e));
    bytes =
        h
        ∙ ap (λ f. put_into w at (item_bytes x ++ f) room) (sym (append-nil (item_bytes y)))
        ∙ ap (λ z. put_into w at (list_bytes z) room) (sym e);
  }

  pub none_put : xs ≡ [] → Fits w (length xs) at room → Puts w at xs room at room
  none_put e h = record {
    next = omega (arith, ap (length {A = Item}) e);
    bytes = put_none w at (length xs) room h ∙ ap (λ y. put_into w at (list_bytes y) room) (sym e);
  }

pub fits_as : {w : Bool} {at : ℕ} {room : Bytes} {xs ys : List Item} → xs ≡ ys → Fits w (length xs) at room → Fits w (length ys) at room
fits_as {w} {at} {room} e h = subst (λ y. Fits w (length y) at room) e h

pub puts_as : {w : Bool} {at n : ℕ} {room left : Bytes} {xs ys : List Item} → xs ≡ ys → Puts w at ys room n left → Puts w at xs room n left
puts_as {w} {at} {n} {room} {left} e h = subst (λ y. Puts w at y room n left) (sym e) h

-- the key and the value in a slot
module _ (s : Bytes) (i : ℕ) {x f : Bytes} (d : x ≡ slot_in counted i s) where
  pub key_is : f ≡ key_in x → f ≡ (grant_at i s).key
  unfolding grant_at
  key_is e = e ∙ ap key_in d

  pub value_is : f ≡ value_inside x → f ≡ (grant_at i s).value
  unfolding grant_at
  value_is e = e ∙ ap value_inside d

-- which records two leaves make
module _ (s : Bytes) (i j : ℕ) where
  pub new_first : {b : Bool} {k m : Bytes} → k ≡ (grant_at i s).key → m ≡ (grant_at j s).key → b ≡ before m k → b ≡ true →
      two_items s i j ≡ inserts (grant_at j s) ∷ deletes (grant_at i s) ∷ []
  unfolding two_items
  new_first d e f t = ap items (added_first (grant_at i s) (grant_at j s) (ap₂ before (sym e) (sym d) ∙ sym f ∙ t))

  pub old_first : {b : Bool} {k m : Bytes} → k ≡ (grant_at i s).key → m ≡ (grant_at j s).key → b ≡ before k m → b ≡ true →
      two_items s i j ≡ deletes (grant_at i s) ∷ inserts (grant_at j s) ∷ []
  unfolding two_items
  old_first d e f t = ap items (removed_first (grant_at i s) (grant_at j s) (ap₂ before (sym d) (sym e) ∙ sym f ∙ t))

  module _ {a b c : Bool} {k m k₂ m₂ x y : Bytes} (d : k ≡ (grant_at i s).key) (e : m ≡ (grant_at j s).key) (d₂ : k₂ ≡ (grant_at i s).key)
      (e₂ : m₂ ≡ (grant_at j s).key) (f : a ≡ before m k) (g : b ≡ before k₂ m₂) (no : a ≡ false) (on : b ≡ false)
      (old : x ≡ (grant_at i s).value) (new : y ≡ (grant_at j s).value) (h : c ≡ same_bytes x y) where
    keys : (grant_at i s).key ≡ (grant_at j s).key
    keys =
        before_total (grant_at i s).key (grant_at j s).key (ap₂ before (sym d₂) (sym e₂) ∙ sym g ∙ on) (ap₂ before (sym e) (sym d) ∙ sym f ∙ no)

    by_value : two_items s i j ≡ items (cond c [] (another (grant_at i s).key (grant_at i s).value (grant_at j s).value ∷ []))
    unfolding two_items
    by_value =
        ap items
        (one_key (grant_at i s) (grant_at j s) (ap (same_bytes (grant_at i s).key) (sym keys) ∙ bytes_same (grant_at i s).key)
        ∙ ap (λ z. cond z [] (another (grant_at i s).key (grant_at i s).value (grant_at j s).value ∷ []))
        (ap₂ same_bytes (sym old) (sym new) ∙ sym h))

    pub same_value : c ≡ true → two_items s i j ≡ []
    same_value t = by_value ∙ ap (λ z. items (cond z [] (another (grant_at i s).key (grant_at i s).value (grant_at j s).value ∷ []))) t

    pub other_value : c ≡ false → two_items s i j ≡ deletes (grant_at i s) ∷ inserts (grant_at j s) ∷ []
    other_value t =
        by_value
        ∙ ap (λ z. items (cond z [] (another (grant_at i s).key (grant_at i s).value (grant_at j s).value ∷ []))) t
        ∙ ap (λ z. deletes (grant_at i s) ∷ inserts (grant z (grant_at j s).value) ∷ []) keys

-- which records two tops make
abbrev NoLeaf : top.Top → Type 0
NoLeaf t = OneOf (0 ∷ 2 ∷ []) (tag_of top-type.the_type t)

no_leaf_lem : (s : Bytes) (t : top.Top) → NoLeaf t → leaf_of s t ≡ []
no_leaf_lem s Nothing h = refl
no_leaf_lem s (Leaf i) h = absurd (⊎_elim (λ e. omega arith) (λ e. omega arith) h)
no_leaf_lem s (Inner i v l r) h = refl

module _ (s : Bytes) (first second : top.Top) where
  pub no_leaves : NoLeaf first → NoLeaf second → end_items s first second ≡ []
  unfolding end_items
  no_leaves a b = ap₂ (λ x y. items (changed x y)) (no_leaf_lem s first a) (no_leaf_lem s second b)

  pub only_new : {j : ℕ} → NoLeaf first → second ≡ Leaf j → end_items s first second ≡ inserts (grant_at j s) ∷ []
  unfolding end_items
  only_new a b = ap₂ (λ x y. items (changed x (leaf_of s y))) (no_leaf_lem s first a) b

  pub only_old : {i : ℕ} → first ≡ Leaf i → NoLeaf second → end_items s first second ≡ deletes (grant_at i s) ∷ []
  unfolding end_items
  only_old {i} a b = ap₂ (λ x y. items (changed (leaf_of s x) y)) a (no_leaf_lem s second b) ∙ ap items (only_removed (grant_at i s))

  pub two_leaves_lem : {i j : ℕ} → first ≡ Leaf i → second ≡ Leaf j → end_items s first second ≡ two_items s i j
  unfolding end_items two_items
  two_leaves_lem a b = ap₂ (λ x y. items (changed (leaf_of s x) (leaf_of s y))) a b
