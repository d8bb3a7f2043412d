-- The lowest slot of a node, and what the record there says: a record in form is what its bytes say. Assumes nothing.
use Prim.Native.Nat.{ℕ, zero, suc, ◌+◌, ◌<◌, ◌≤◌}
use native.Mathlib.Omega.{arith}
use mathlib.Core.Path.{◌≡◌, refl, ap, ap₂, sym, ◌∙◌, subst}
use mathlib.Core.Bool.{Bool, true, false, not, ◌&&◌, true≢false}
use mathlib.Core.List.{List, [], ◌∷◌}
use mathlib.Core.Option.{Option, none, some}
use lib.ListN.{length, get_or, take, drop}
use lib.Seq.{take_all}
use lib.Dec.{eqb}
use Rattle.terms.specs.declared.Form.TheVariants.{Counted as counted}
use Rattle.terms.specs.Bits.{Bytes, Byte, All, Side, Place, same_bytes}
use Rattle.terms.specs.Records.{Child, Body, leaf_body, inner_body, count_on, Record, Slot, free, used}
use Rattle.terms.specs.Form.{RecordForm}
use Rattle.meaning.specs.Store.{find, is_node}
use Rattle.meaning.specs.Reading.{body_hash}
use Rattle.meaning.specs.Counting.{weight}
use Rattle.meaning.specs.Local.{child_version, weighed}
use Rattle.meaning.proofs.Finding.{free_used, found_in, hit, Hit, hits}
use Rattle.local.specs.Test.{lone_leaf}
use Rattle.nodehash.specs.Node.{leaf_hash, inner_hash}
use Rattle.layout.specs.Sizes.{room_of}
use Rattle.layout.specs.Headers.{size_right}
use Rattle.layout.specs.Slots.{is_leaf, key_in, value_inside, leaf_in, counts_in, left_in, right_in, kid_on, inner_in, record_in, slot_of, SlotForm}
use Rattle.layout.specs.Stores.{slot_in, store_of, slot_no, Has}
use Rattle.layout.proofs.Slots.{record_is}
use Rattle.store.proofs.Slots.{slots_many, slot_is, slot_formed}
use Rattle.store.proofs.Scans.{Scan, Each, scan_many, scan_inside, each_from, each_passed, each_next}
use Rattle.std.specs.declared.option.Option as option
use Rattle.std.specs.Prelude.{Some, None}
use Rattle.lookup.specs.Lookup.{FoundIn}
use Rattle.order_find.specs.Finds.{NoLower}
use Rattle.lookup.proofs.Searching.{past}
use Rattle.agree.specs.Holding.{node_here}
use Rattle.agree.proofs.Agreeing.{its_record}
use Rattle.read_step.specs.Walk.{body_in}
use Rattle.read_step.proofs.Seeing.{kid_is, body_is}
use Rattle.rescue_rules.specs.Joining.{kid_of}
use Rattle.rescue_look.specs.Look.{LowestIn, Inside, KidSays, linked_at, WeighsSay, weighs_at, tied_at}

-- the first slot that holds the node is found
find_lowest : (s : List Slot) (v : ℕ) (p : Place) (i : ℕ) (r : Record) → get_or s i free ≡ used r → is_node v p r ≡ true →
    ((j : ℕ) (q : Record) → j < i → get_or s j free ≡ used q → is_node v p q ≡ false) → find v p s ≡ some r
find_lowest [] v p i r e t f = free_used r e
find_lowest (x ∷ s) v p zero r e t f = subst (λ y. find v p (y ∷ s) ≡ some r) (sym e) (rw t)
find_lowest (x ∷ s) v p (suc i) r e t f =
    past v p x s (λ q u. f 0 q (omega arith) u) ∙ find_lowest s v p i r e t (λ j q l u. f (suc j) q (omega arith) u)

-- no slot holds the node
find_none : (s : List Slot) (v : ℕ) (p : Place) → ((j : ℕ) (q : Record) → j < length s → get_or s j free ≡ used q → is_node v p q ≡ false) →
    find v p s ≡ none
find_none s v p f = go _ (hits s v p)
  where
    go : (o : Option Record) → Hit s v p o → o ≡ none
    go none h = refl
    go (some r) (hit i r' l e t) = absurd (true≢false (sym t ∙ f i _ l e))

-- a search for the node: none of the slots passed holds it
abbrev NoHolder : ℕ → Place → Slot → Type 0
NoHolder v p y = (q : Record) → y ≡ used q → is_node v p q ≡ false

abbrev pub Passed : Bytes → ℕ → Place → ℕ → ℕ → Type 0
Passed s v p n i = Scan counted s (Each counted s (NoHolder v p)) n i

pub passed_start : (s : Bytes) (v : ℕ) (p : Place) {n : ℕ} → size_right counted (length s) ≡ true → n ≡ room_of counted (length s) → Passed s v p n 0
passed_start s v p e m = each_from s (NoHolder v p) e m (omega arith) (λ j l. absurd (omega arith))

pub passed_end : (s : Bytes) (v : ℕ) (p : Place) {n i : ℕ} → Passed s v p n i → n ≤ i → LowestIn (store_of s).slots v p None
passed_end s v p w h = find_none (store_of s).slots v p (λ j q l u. each_passed (NoHolder v p) w j (omega (arith, scan_many w)) q u)

-- by whether slot i holds the node
module _ {s : Bytes} (v : ℕ) (p : Place) {n i : ℕ} (w : Passed s v p n i) (h : i < n) {t : Bool} (e : t ≡ node_here v p (slot_no counted i s)) where
  pub passed_next : t ≡ false → Passed s v p n (i + 1)
  passed_next f = each_next (NoHolder v p) w h (λ q u. ap (node_here v p) (sym u) ∙ sym e ∙ f)

  pub passed_found : t ≡ true → LowestIn (store_of s).slots v p (Some i)
  passed_found f =
      let x = its_record v p (slot_no counted i s) (sym e ∙ f) in
      let none_yet : (j : ℕ) (q : Record) → j < i → slot_no counted j s ≡ used q → is_node v p q ≡ false = λ j q l u. each_passed (NoHolder v p) w j l q u in (
        scan_inside w h,
        (x.0, record { at = x.1; found = find_lowest (store_of s).slots v p i x.0 x.1 x.2 none_yet; lowest = none_yet }),
      )

-- the record in a slot
module _ (s : Bytes) (bytes : All Byte s) (i : ℕ) (has : Has counted s i) (r : Record) (e : slot_no counted i s ≡ used r) where
  says : slot_of (slot_in counted i s) ≡ used r
  says = sym (slot_is has) ∙ e

  pub its_form : RecordForm r
  its_form = (subst (SlotForm counted) says (slot_formed has bytes)).0

  pub its_body : r.body ≡ body_in (slot_in counted i s)
  its_body = body_is (slot_in counted i s) r says

  pub leaf_is : is_leaf (slot_in counted i s) ≡ true → r.body ≡ leaf_body (key_in (slot_in counted i s)) (value_inside (slot_in counted i s))
  leaf_is t = its_body ∙ unfold body_in leaf_in in rw t

  pub inner_is : is_leaf (slot_in counted i s) ≡ false → r.body ≡ inner_body (left_in (slot_in counted i s)) (right_in (slot_in counted i s))
  inner_is t = its_body ∙ unfold body_in inner_in in rw t

  pub inner_counts : is_leaf (slot_in counted i s) ≡ false → r.counts ≡ counts_in (slot_in counted i s)
  unfolding record_in
  inner_counts t = ap (λ (q : Record). q.counts) (sym (rw t at (record_is (slot_in counted i s) r says)))

-- version 0 is no node
pub no_version : (s : Bytes) → size_right counted (length s) ≡ true → All Byte s → (v : ℕ) (p : Place) → v ≡ 0 → LowestIn (store_of s).slots v p None
no_version s z b v p e = go _ refl
  where
    go : (o : Option Record) → find v p (store_of s).slots ≡ o → o ≡ none
    go none k = refl
    go (some r) k =
        let f = found_in (store_of s).slots v p r k in
        let h : Has counted s f.0 = record { size = z; inside = omega (arith, f.1.0, slots_many counted s) } in
        absurd (omega (arith, (its_form s b f.0 h r f.1.1).versioned.0, f.2))

-- what was found is in a slot
pub inside_of : (s : Bytes) (z : size_right counted (length s) ≡ true) (v : ℕ) (p : Place) (f : option.Option ℕ) → LowestIn (store_of s).slots v p f → Inside s f
inside_of s z v p (Some i) h = record { size = z; inside = omega (arith, h.0, slots_many counted s) }
inside_of s z v p None h = tt

-- the child's version
module _ (s : Bytes) {f : option.Option ℕ} (b : Side) where
  pub kid_nothing : f ≡ None → KidSays s f b 0
  kid_nothing e v p h = sym (ap (kid_of b) (subst (LowestIn (store_of s).slots v p) e h))

  module _ (bytes : All Byte s) {i : ℕ} (has : Has counted s i) (e : f ≡ Some i) where
    module _ (v : ℕ) (p : Place) (h : LowestIn (store_of s).slots v p f) where
      at_i : LowestIn (store_of s).slots v p (Some i)
      at_i = subst (LowestIn (store_of s).slots v p) e h

      kid_by : (y : Body) → at_i.1.0.body ≡ y → kid_of b (find v p (store_of s).slots) ≡ child_version b y
      kid_by y k = ap (kid_of b) at_i.1.1.found ∙ ap (child_version b) k

    pub kid_leaf : {x : Bytes} {t : Bool} → x ≡ slot_in counted i s → t ≡ is_leaf x → t ≡ true → KidSays s f b 0
    kid_leaf q d t v p h =
        sym (kid_by v p h _ (leaf_is s bytes i has (at_i v p h).1.0 (at_i v p h).1.1.at (ap is_leaf (sym q) ∙ sym d ∙ t)))

    pub kid_inner : {x : Bytes} {t : Bool} {r : ℕ} → x ≡ slot_in counted i s → t ≡ is_leaf x → t ≡ false → r ≡ (kid_on b (slot_in counted i s)).version → KidSays s f b r
    kid_inner q d t k v p h =
        k
        ∙ ap (λ (c : Child). c.version) (kid_is b (slot_in counted i s))
        ∙ sym (kid_by v p h _ (inner_is s bytes i has (at_i v p h).1.0 (at_i v p h).1.1.at (ap is_leaf (sym q) ∙ sym d ∙ t)))

-- the count on a side, and what was found there
module _ (s : Bytes) (i : ℕ) (b : Side) {f : option.Option ℕ} {c : ℕ} (e : c ≡ count_on b (counts_in (slot_in counted i s))) where
  pub weighs_nothing : f ≡ None → WeighsSay s i b f (eqb c 0)
  weighs_nothing k v p h = ap₂ eqb e (sym (ap weighed (subst (LowestIn (store_of s).slots v p) k h)))

  pub weighs_found : {j n : ℕ} → f ≡ Some j → ((q : Record) → slot_no counted j s ≡ used q → n ≡ weight q) → WeighsSay s i b f (eqb c n)
  weighs_found {j} k w v p h =
      let x : LowestIn (store_of s).slots v p (Some j) = subst (LowestIn (store_of s).slots v p) k h in
      ap₂ eqb e (w x.1.0 x.1.1.at ∙ sym (ap weighed x.1.1.found))

-- both tests of the child on a side
module _ (s : Bytes) (i : ℕ) (b : Side) (p : Place) {v : ℕ} (f : option.Option ℕ) (k : v ≡ (kid_on b (slot_in counted i s)).version)
    (h : LowestIn (store_of s).slots v p f) where
  weighs_is : {m : Bool} → WeighsSay s i b f m → m ≡ weighs_at s i b p
  unfolding weighs_at
  weighs_is say = say v p h ∙ ap (λ w. eqb (count_on b (counts_in (slot_in counted i s))) (weighed (find w p (store_of s).slots))) k

  pub tied_off : {m : Bool} → WeighsSay s i b f m → m ≡ false → false ≡ tied_at s i b p
  unfolding tied_at
  tied_off say e = ap (◌&& linked_at s i b p) (sym e ∙ weighs_is say)

  pub tied_on : {m r : Bool} → WeighsSay s i b f m → m ≡ true → r ≡ linked_at s i b p → r ≡ tied_at s i b p
  unfolding tied_at
  tied_on say e g = g ∙ ap (◌&& linked_at s i b p) (sym e ∙ weighs_is say)

-- the child on a side, sought at a place
module _ (s : Bytes) (i : ℕ) (b : Side) (p : Place) {v : ℕ} {f : option.Option ℕ} (k : v ≡ (kid_on b (slot_in counted i s)).version)
    (h : LowestIn (store_of s).slots v p f) where
  pub link_nothing : f ≡ None → eqb v 0 ≡ linked_at s i b p
  unfolding linked_at
  link_nothing e =
      let n : find (kid_on b (slot_in counted i s)).version p (store_of s).slots ≡ none =
      ap (λ w. find w p (store_of s).slots) (sym k) ∙ subst (LowestIn (store_of s).slots v p) e h in
      rw n (ap (λ w. eqb w 0) k)

  module _ (size : size_right counted (length s) ≡ true) (bytes : All Byte s) {j : ℕ} (e : f ≡ Some j) where
    at_j : LowestIn (store_of s).slots v p (Some j)
    at_j = subst (LowestIn (store_of s).slots v p) e h

    pub has_j : Has counted s j
    has_j = record { size = size; inside = omega (arith, at_j.0, slots_many counted s) }

    linked_found : linked_at s i b p
        ≡ (same_bytes (body_hash leaf_hash inner_hash (body_in (slot_in counted j s))) (kid_on b (slot_in counted i s)).hash
        && not (lone_leaf (kid_on (not b) (slot_in counted i s)) (body_in (slot_in counted j s))))
    unfolding linked_at
    linked_found =
        let n : find (kid_on b (slot_in counted i s)).version p (store_of s).slots ≡ some at_j.1.0 =
        ap (λ w. find w p (store_of s).slots) (sym k) ∙ at_j.1.1.found in
        rw n
        (ap (λ y. same_bytes (body_hash leaf_hash inner_hash y) (kid_on b (slot_in counted i s)).hash && not (lone_leaf (kid_on (not b) (slot_in counted i s)) y))
        (its_body s bytes j has_j at_j.1.0 at_j.1.1.at))

    module _ {x y z l r : Bytes} {t : Bool} (slot : x ≡ slot_in counted j s) (own : l ≡ body_hash leaf_hash inner_hash (body_in x))
        (from : y ≡ slot_in counted i s) (part : z ≡ (kid_on b y).hash) (long : length z ≡ 32) (stored : r ≡ take 32 (drop 0 z)) (same : t ≡ same_bytes l r) where
      same_is : same_bytes (body_hash leaf_hash inner_hash (body_in (slot_in counted j s))) (kid_on b (slot_in counted i s)).hash ≡ t
      same_is = sym (same ∙ ap₂ same_bytes (own ∙ ap (λ w. body_hash leaf_hash inner_hash (body_in w)) slot)
          (stored ∙ take_all 32 z (omega arith) ∙ part ∙ ap (λ w. (kid_on b w).hash) from))

      pub link_off : t ≡ false → false ≡ linked_at s i b p
      link_off u = sym (linked_found ∙ rw (same_is, u))

      module _ (right-hash : t ≡ true) {q : Bool} (kind : q ≡ is_leaf x) where
        pub link_inner : q ≡ false → true ≡ linked_at s i b p
        unfolding body_in inner_in
        link_inner u = sym (linked_found ∙ rw (same_is, right-hash, ap is_leaf (sym slot) ∙ sym kind ∙ u))

        pub link_leaf : {o : ℕ} → q ≡ true → o ≡ (kid_on (not b) (slot_in counted i s)).version → not (eqb o 0) ≡ linked_at s i b p
        unfolding body_in leaf_in
        link_leaf u w = sym (linked_found ∙ rw (same_is, right-hash, ap is_leaf (sym slot) ∙ sym kind ∙ u) (ap (λ n. not (eqb n 0)) (sym w)))

-- what is found by a table is the lowest slot
pub as_lowest : (s : List Slot) (v : ℕ) (p : Place) (f : option.Option ℕ) → FoundIn s v p f → NoLower s v p f → LowestIn s v p f
as_lowest s v p (Some i) w l = (w.0, (w.1.0, record { at = w.1.1; found = w.1.2; lowest = l }))
as_lowest s v p None w l = w
