-- A right table is right for every store with the same nodes in the same slots, whatever else its records hold: so a store moved over or back
-- (2026-10), whose counts alone change, keeps its table. Assumes nothing.
use Prim.Native.Nat.{ℕ}
use mathlib.Core.Path.{◌≡◌, ap, ap₂, sym, ◌∙◌, subst}
use mathlib.Core.List.{List}
use lib.ListN.{length, get_or}
use Rattle.terms.specs.Records.{Record, Store}
use Rattle.meaning.specs.Sound.{At}
use Rattle.indexed.specs.Index.{node_before}
use Rattle.indexed.specs.Table.{entry, Right}

-- what one store holds in a slot the other holds too, but for the node
abbrev pub SameNodes : Store → Store → Type 0
SameNodes st st' = (i : ℕ) (r : Record) → At st i r → (q : Record) × At st' i q × (q.version ≡ r.version) × (q.place ≡ r.place)

module _ (st st' : Store) (size : length st.slots ≡ length st'.slots) (there : SameNodes st st') (back : SameNodes st' st) (table : List ℕ) where
  same_entry : (k : ℕ) → entry st table k ≡ entry st' table k
  same_entry k = ap (get_or table k) size

  pub right_alike : Right st table → Right st' table
  right_alike right = record {
    size = right.size ∙ size;
    many = right.many;
    within = right.within;
    names = λ k l.
        let (r, a) = right.names k l in
        let (q, b, v, p) = there (entry st table k) r a in
        (q, subst (λ i. At st' i q) (same_entry k) b);
    named = λ i r a.
        let (q, b, v, p) = back i r a in
        let (k, l, e) = right.named i q b in
        (k, l, sym (same_entry k) ∙ e);
    order = λ j k q r l m a b.
        let (x, c, v, p) = back (entry st table j) q (subst (λ i. At st' i q) (sym (same_entry j)) a) in
        let (y, d, w, s) = back (entry st table k) r (subst (λ i. At st' i r) (sym (same_entry k)) b) in
        sym (ap₂ (λ u t. node_before u t y.version y.place) v p ∙ ap₂ (λ u t. node_before q.version q.place u t) w s)
        ∙ right.order j k x y l m c d;
    rest = λ k l m. sym (same_entry k) ∙ right.rest k l m ∙ size;
  }
