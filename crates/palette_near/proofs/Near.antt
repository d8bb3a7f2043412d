-- What a read by a table finds for a node is the record of that node, so it leads a later read to the same slot. Assumes nothing.
use Prim.Native.Nat.{ℕ, zero, suc, ◌+◌, ◌-◌, ◌*◌, ◌<◌, ◌≤◌}
use native.Mathlib.Omega.{arith}
use mathlib.Core.Path.{◌≡◌, refl, ap, ap₂, sym, ◌∙◌, subst}
use mathlib.Core.List.{List, [], ◌∷◌}
use mathlib.Core.Option.{Option, none, some}
use mathlib.Core.Logic.{◌⊎◌, inl, inr, ⊎_elim}
use mathlib.Core.Bool.{Bool, true, false}
use lib.Dec.{eqb}
use lib.Seq.{get_or-set_other}
use borrow.Author.Tests.{eqb-true, eqb-false}
use lib.ListN.{length, get_or, set, replicate}
use Rattle.terms.specs.Bits.{Bytes, Place}
use Rattle.terms.specs.Records.{Record, free, used, Store}
use Rattle.terms.specs.Form.{most_slots}
use Rattle.meaning.specs.Sight.{matches, node_sight}
use Rattle.meaning.proofs.Finding.{is_node_eq, found_in, used_eq}
use Rattle.meaning.proofs.Sights.{sighted_node}
use Rattle.indexed.specs.Index.{node_look, search, or_scan, node_by}
use Rattle.indexed.proofs.Searching.{search_ends, node_met}
use Rattle.indexed.proofs.Scanned.{node_found_at}
use Rattle.terms.specs.declared.Form.TheVariants.{Counted as counted}
use Rattle.layout.specs.Headers.{size_right}
use Rattle.layout.specs.Stores.{store_of}
use Rattle.layout.proofs.Headers.{size_says}
use Rattle.store.proofs.Slots.{slots_many}
use Rattle.sights.specs.Sights.{Sighted}
use Rattle.sights.specs.declared.Sight.TheVariants as sight
use Rattle.read_near.specs.Near.{Led}
use Rattle.palette_near.specs.Near.{LedBy}

-- of what is found by a table the version is that sought
found_version : (st : Store) (table : List ℕ) (v : ℕ) (p : Place) (r : Record) → node_by table st v p ≡ matches r → r.version ≡ v
unfolding node_by search
found_version st table v p r e = go _ refl e
  where
    go : (o : Option Record) → search (node_look v p) table st.slots ≡ o → or_scan o (node_sight st v p) ≡ matches r → r.version ≡ v
    go none f h = (found_in st.slots v p r (sighted_node st v p r h)).2
    go (some q) f h =
        let w = search_ends (node_look v p) (λ q x m. (node_met v p q x m).0) st.slots (length st.slots) table 0 (length st.slots) q f in
        let same : q ≡ r = cc in
        sym (ap (λ (x : Record). x.version) same) ∙ (is_node_eq v p q (node_met v p q q w.met).1).0

-- What a read by a table sights leads to itself.
pub sighted_leads : (s : Bytes) (table : List ℕ) → size_right counted (length s) ≡ true → (v : ℕ) (p : Place) (j : ℕ) →
    Sighted (store_of s).slots (node_by table (store_of s) v p) (sight.Matches j) → LedBy s table (j + 1)
sighted_leads s table size v p j (inside, (q, holds, met)) = record {
  most = omega (arith, inside, slots_many counted s, (size_says counted (length s) size).2);
  finds = λ r named e.
      let at : j + 1 - 1 ≡ j = omega arith in
      let same : q ≡ r = used_eq q r (sym holds ∙ sym (ap (λ z. get_or (store_of s).slots z free) at) ∙ e) in
      let found = met ∙ ap matches same in
      ap₂ (node_by table (store_of s)) (found_version (store_of s) table v p r found) (node_found_at (store_of s) table v p r found) ∙ found;
}

-- 0 names no slot.
pub none_leads : (s : Bytes) (table : List ℕ) → LedBy s table 0
none_leads s table = record { most = omega arith; finds = λ r named e. absurd (omega (arith, named)) }

set_or : (xs : List ℕ) (c w : ℕ) → (get_or (set xs c w) c 0 ≡ w) ⊎ (get_or (set xs c w) c 0 ≡ 0)
set_or [] c w = inr refl
set_or (x ∷ xs) zero w = inl refl
set_or (x ∷ xs) (suc c) w = set_or xs c w

-- A guess more that leads.
pub led_set : (s : Bytes) (table kids : List ℕ) (k e : ℕ) → Led (store_of s) table kids → LedBy s table e → Led (store_of s) table (set kids k e)
led_set s table kids k e led by m r l named f = go (eqb m k) refl
  where
    here : {g : ℕ} → get_or (set kids k e) m 0 ≡ g → get_or (store_of s).slots (g - 1) free ≡ used r
    here h = ap (λ z. get_or (store_of s).slots (z - 1) free) (sym h) ∙ f

    go : (b : Bool) → eqb m k ≡ b → node_by table (store_of s) r.version r.place ≡ matches r
    go true h =
        let at : get_or (set kids k e) m 0 ≡ get_or (set kids k e) k 0 = ap (λ z. get_or (set kids k e) z 0) (eqb-true m k h) in
        ⊎_elim (λ z. by.finds r (omega (arith, named, at, z)) (here (at ∙ z))) (λ z. absurd (omega (arith, named, at, z))) (set_or kids k e)
    go false h =
        let other = get_or-set_other kids k m e 0 (eqb-false m k h) in
        led m r l (omega (arith, named, other)) (here other)

zeros : (n i : ℕ) → get_or {A = ℕ} (replicate n 0) i 0 ≡ 0
zeros zero i = refl
zeros (suc n) zero = refl
zeros (suc n) (suc i) = zeros n i

-- Before any guess is made.
pub led_zeros : (st : Store) (table : List ℕ) (n : ℕ) → Led st table (replicate n 0)
led_zeros st table n m r l named e = absurd (omega (arith, named, zeros n m))
