-- Where the search by an ordered table ends: the entry has the node, or no slot has it. Assumes nothing.
use Prim.Native.Nat.{ℕ, ◌<◌, ◌≤◌}
use native.Mathlib.Omega.{arith}
use mathlib.Core.Path.{◌≡◌, ap, ap₂, sym, ◌∙◌, subst}
use mathlib.Core.Bool.{true}
use mathlib.Core.List.{List}
use lib.ListN.{length, get_or}
use Rattle.terms.specs.declared.Form.TheVariants.{Counted as counted}
use Rattle.terms.specs.Bits.{Bytes, Byte, All, Place, before}
use Rattle.terms.specs.Records.{Body, leaf_body, inner_body, Record, free, used}
use Rattle.terms.specs.Form.{place_limit}
use Rattle.terms.proofs.Order.{before_irrefl}
use Rattle.meaning.specs.Store.{is_node}
use Rattle.place.specs.declared.Place as declared-place
use Rattle.place.specs.Place.{place_of, Proper}
use Rattle.place.proofs.Places.{proper_count}
use Rattle.layout.specs.Headers.{size_right}
use Rattle.layout.specs.Stores.{slot_in, store_of, Has}
use Rattle.store.proofs.Slots.{slot_long, slot_bytes_lem, slot_within, slot_is}
use Rattle.lookup.specs.Lookup.{FoundIn}
use Rattle.std.specs.Prelude.{Some, None}
use Rattle.lookup.proofs.Matching.{says}
use Rattle.ordered.specs.Ordered.{node_key, key_no, Ordered, Between}
use Rattle.ordered.proofs.Ordered.{key_node, first_lowest, first_found, first_none}
use Rattle.order_look.specs.Looks.{head_key, key_in, Stands}
use Rattle.std.specs.declared.cmp.Ordering.{Ordering}
use Rattle.std.specs.declared.cmp.Ordering.TheVariants.{Less, Equal, Greater}
use Rattle.order_look.proofs.Keys.{inside}
use Rattle.order_halves.proofs.Looked.{place_key, entry_has, mine as its_key, said as its-look}
use Rattle.order_find.specs.Finds.{NoLower}

limit : (b : Body) → place_limit b ≤ 256
limit (leaf_body k x) = omega arith
limit (inner_body l r) = omega arith

-- the place of a record in form has at most 256 bits
record_short : {s : Bytes} {i : ℕ} → All Byte s → Has counted s i → (r : Record) → get_or (store_of s).slots i free ≡ used r → length r.place ≤ 256
record_short {s} {i} b has r e =
    let w = says {fm = counted} (slot_in counted i s) (slot_long counted i s (slot_within has)) (slot_bytes_lem counted i s b) r (sym (slot_is has) ∙ e) in
    omega (arith, w.form.short, limit r.body)

module _ (s : Bytes) {t : List ℕ} {n : ℕ} (size : size_right counted (length s) ≡ true) (o : Ordered (store_of s).slots t n) where
  module _ (b : All Byte s) (v : ℕ) (p : declared-place.Place) (proper : Proper p) (k : ℕ) (h : k < n) {i : ℕ} (e : i ≡ get_or t k 0)
      (r : Ordering) (w : Stands r (slot_in counted i s) (head_key p.count p.bits v)) where
    mine : key_in (slot_in counted i s) ≡ key_no (store_of s).slots (get_or t k 0)
    mine = its_key s size o b v p proper k h e r w

    said : (l : Ordering) → r ≡ l → Stands l (slot_in counted i s) (head_key p.count p.bits v)
    said = its-look s size o b v p proper k h e r w

    module _ (first : Between (store_of s).slots t n (node_key v (place_of p)) k k) where
      node : r ≡ Equal → is_node v (place_of p) (o.names k h).0 ≡ true
      node f =
          let held = o.names k h in
          key_node (store_of s).slots (get_or t k 0) held.0 v (place_of p) held.1 (record_short b (entry_has s size o k h) held.0 held.1)
          (omega (arith, proper.short, proper_count p proper)) (sym mine ∙ said Equal f ∙ place_key v p proper)

      -- The slot of the first entry that isn't before the node has it: it is found, and no lower slot has it.
      pub found_here : r ≡ Equal → FoundIn (store_of s).slots v (place_of p) (Some i) × NoLower (store_of s).slots v (place_of p) (Some i)
      found_here f =
          let held = o.names k h in
          let q = held.0 in
          let st = (store_of s).slots in (
            (
              subst (λ z. z < length st) (sym e) (inside st (get_or t k 0) q held.1),
              (q, ap (λ z. get_or st z free) e ∙ held.1, first_found o v (place_of p) first (omega arith) q held.1 (node f)),
            ),
            λ j x l. first_lowest o v (place_of p) first (omega arith) q held.1 (node f) j x (subst (λ z. j < z) e l),
          )

      -- It has another: none is found.
      pub none_less : r ≡ Less → FoundIn (store_of s).slots v (place_of p) None × NoLower (store_of s).slots v (place_of p) None
      none_less f = (
        first_none o v (place_of p) first (omega arith)
            (λ l g. before_irrefl (node_key v (place_of p)) (subst (λ z. before z (node_key v (place_of p)) ≡ true) g (sym (ap₂ before mine (place_key v p proper)) ∙ said Less f))),
        tt,
      )

      pub none_greater : r ≡ Greater → FoundIn (store_of s).slots v (place_of p) None × NoLower (store_of s).slots v (place_of p) None
      none_greater f = (
        first_none o v (place_of p) first (omega arith)
            (λ l g. before_irrefl (node_key v (place_of p)) (subst (λ z. before (node_key v (place_of p)) z ≡ true) g (sym (ap₂ before (place_key v p proper) mine) ∙ said Greater f))),
        tt,
      )

  -- All entries are before the node.
  pub none_left : (v : ℕ) (p : Place) (k : ℕ) → n ≤ k → Between (store_of s).slots t n (node_key v p) k k → FoundIn (store_of s).slots v p None × NoLower (store_of s).slots v p None
  none_left v p k l first = (first_none o v p first (omega arith) (λ h g. absurd (omega arith)), tt)
