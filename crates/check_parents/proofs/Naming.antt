-- Whether a slot names a record below it, from its bytes, and what it then says of it. A place one bit longer has one place above it and
-- one side; so a parent names a record on that side alone. Assumes nothing.
use Prim.Native.Nat.{ℕ, ◌-◌, ◌≤◌, max}
use native.Mathlib.Omega.{arith}
use mathlib.Core.Path.{◌≡◌, refl, ap, ap₂, sym, ◌∙◌, subst}
use mathlib.Core.Bool.{Bool, true, false, cond, not, ◌&&◌, true≢false, false≢true}
use mathlib.Core.List.{List, [], ◌∷◌}
use mathlib.Core.Logic.{⊎_elim}
use lib.ListN.{length}
use lib.Dec.{eqb, leb}
use borrow.Author.Tests.{eqb-true, eq-eqb}
use types.Run.{OneOf}
use denote.Enum.Declared.{tag_of}
use Rattle.std.specs.Prelude.{Option, Some}
use Rattle.terms.specs.declared.Form.{Form}
use Rattle.terms.specs.Bits.{Bytes, Byte, All, Side, left, right, longer, same_bytes, pack}
use Rattle.terms.specs.Fields.{all_of}
use Rattle.terms.specs.Records.{Child, Body, leaf_body, inner_body, Record, Slot, free, used, spoiled, Store}
use Rattle.terms.specs.Form.{RecordForm}
use Rattle.terms.proofs.Tests.{and_left, and_right, and_true, is_false, same_bytes_lem, bytes_same}
use Rattle.terms.proofs.Places.{longer_inj}
use Rattle.meaning.specs.Store.{child_on}
use Rattle.meaning.specs.Reading.{body_hash}
use Rattle.meaning.specs.Local.{ends_before, child_version}
use Rattle.meaning.proofs.Finding.{used_eq}
use Rattle.local.specs.Test.{by_record, names, lone_leaf, first_kept, kept_life, is_parent, life_above, link_on, link_test}
use Rattle.local.proofs.Naming.{names_eq, eq_names, names_inner, names_parent}
use Rattle.nodehash.specs.Node.{leaf_hash, inner_hash}
use Rattle.place.specs.Place.{place_of, Proper}
use Rattle.place.proofs.Places.{proper_count}
use Rattle.layout.specs.Sizes.{slot_size}
use Rattle.layout.specs.Slots.{count_in, leaf_in, child_in, record_of, record_bytes, slot_of, bits_in, key_in, value_inside, left_in, right_in, kid_on}
use Rattle.layout.specs.Stores.{slot_in, store_in, slot_no, Has}
use Rattle.store.proofs.Slots.{slot_long, slot_bytes_lem, slot_within, slot_is}
use Rattle.layout.proofs.Slots.{left_child, right_child}
use Rattle.slots.specs.declared.Child as declared-child
use Rattle.slots.specs.declared.Kind as declared-kind
use Rattle.slots.specs.declared.Kind.TheVariants.{Free, Leaf, Inner, Spoiled}
use Rattle.slots.specs.declared.Slot as declared-slot
use Rattle.slots.specs.Answer.{child_says, record_says, kind_says, slot_says, Read}
use Rattle.slots.specs.contracts.Kind as kind
use Rattle.lookup.proofs.Matching.{says, count_is_lem, bits_are, place_is}
use Rattle.check_kin.specs.declared.Kept as declared-kept
use Rattle.check_link.specs.declared.Below as declared-below
use Rattle.check_kin.specs.Kin.{Keeps, ends_at, is_leaf_body}
use Rattle.check_link.specs.Link.{link_tests, SaidOf}
use Rattle.check_parents.specs.Parents.{Is, could_name, SlotSays}

-- the version of an inner record's child, by its field
child_version_lem : (fm : Form) (x : Bytes) → length x ≡ slot_size fm → All Byte x → (q : Record) → slot_of x ≡ used q → (b : Side) (c d : Child) → q.body ≡ inner_body c d →
    (child_on b c d).version ≡ (kid_on b x).version
unfolding child_in
child_version_lem fm x l h q e b c d k = go b
  where
    w : record_of q.place q.version q.retired (inner_body c d) q.counts ≡ q
    w = ap (λ o. record_of q.place q.version q.retired o q.counts) (sym k)

    form : RecordForm (record_of q.place q.version q.retired (inner_body c d) q.counts)
    form = subst (λ r. RecordForm r) (sym w) (says {fm = fm} x l h q e).form

    bytes : record_bytes fm (record_of q.place q.version q.retired (inner_body c d) q.counts) ≡ x
    bytes = ap (record_bytes fm) w ∙ (says {fm = fm} x l h q e).bytes

    go : (b : Side) → (child_on b c d).version ≡ (kid_on b x).version
    go false = sym (ap (λ z. z.version) (left_child fm q.place q.version q.retired c d q.counts form)) ∙ ap (λ y. (left_in y).version) bytes
    go true = sym (ap (λ z. z.version) (right_child fm q.place q.version q.retired c d q.counts form)) ∙ ap (λ y. (right_in y).version) bytes

other_side : (b : Side) {A : Type 0} → not b ≡ b → A
other_side true e = absurd (false≢true e)
other_side false e = absurd (true≢false e)

-- a record q in the bytes x, and a record r below `up`
module _ (fm : Form) (x : Bytes) (l : length x ≡ slot_size fm) (h : All Byte x) (q : Record) (e : slot_of x ≡ used q) (b : declared-below.Below) (w : Proper b.up) (st : Store)
    (r : Record) (i : Is st b r) where
  named_from : (c : Side) → names c q r ≡ true → (c ≡ b.right) × (q.place ≡ place_of b.up)
  named_from c n =
      let k = longer_inj q.place (place_of b.up) c b.right (sym (names_eq c q r n).1 ∙ i.place) in (k.1, k.0)

  named_could : names b.right q r ≡ true → could_name b x ≡ true
  unfolding could_name count_in
  named_could n =
      let p = (named_from b.right n).1 in
      let (c, d, k) = names_inner b.right q r (omega (arith, i.some, i.version)) n in
      let count : count_in x ≡ b.up.count = count_is_lem fm x l h q e ∙ ap length p ∙ proper_count b.up w in
      let version : (kid_on b.right x).version ≡ b.version =
      sym (child_version_lem fm x l h q e b.right c d k) ∙ ap (child_version b.right) (sym k) ∙ sym (names_eq b.right q r n).0 ∙ i.version
      in
      let place : bits_in x ≡ b.up.bits = bits_are fm x l h q e ∙ ap (pack 32) p ∙ sym w.trimmed in
      rw (eq-eqb (count_in x) b.up.count count, eq-eqb (kid_on b.right x).version b.version version, place) (bytes_same b.up.bits)

  not_named : could_name b x ≡ false → (c : Side) → names c q r ≡ false
  not_named f c =
      is_false (names c q r) (λ n. true≢false (sym (named_could (subst (λ d. names d q r ≡ true) (named_from c n).0 n)) ∙ f))

  named : (c d : Child) → q.body ≡ inner_body c d → could_name b x ≡ true → names b.right q r ≡ true
  unfolding could_name count_in
  named c d k t =
      let counts = eqb (count_in x) b.up.count in
      let versions = eqb (kid_on b.right x).version b.version in
      let same = same_bytes (bits_in x) b.up.bits in
      let rest = and_right counts (versions && same) t in
      let count = eqb-true (count_in x) b.up.count (and_left counts (versions && same) t) in
      let version = eqb-true (kid_on b.right x).version b.version (and_left versions same rest) in
      let place = same_bytes_lem (bits_in x) b.up.bits (and_right versions same rest) in
      eq_names b.right q r
      (i.version ∙ sym version ∙ sym (child_version_lem fm x l h q e b.right c d k) ∙ ap (child_version b.right) (sym k))
      (i.place
      ∙ ap (longer b.right)
      (sym (place_is fm x l h q e (place_of b.up) (omega (arith, w.short, proper_count b.up w)) (count ∙ sym (proper_count b.up w)) (place ∙ w.trimmed))))

  named_once : names (not b.right) q r ≡ false
  named_once = is_false _ (λ n. other_side b.right (named_from (not b.right) n).0)

-- the count and the version are right: the bits decide
pub could_be : (b : declared-below.Below) (x : Bytes) {y z : Bytes} → y ≡ x → z ≡ bits_in y → count_in x ≡ b.up.count → (kid_on b.right x).version ≡ b.version →
    {t : Bool} → t ≡ same_bytes z b.up.bits → t ≡ could_name b x
unfolding could_name
could_be b x e i c v f =
    f
    ∙ ap (λ q. same_bytes q b.up.bits) (i ∙ ap bits_in e)
    ∙ sym (rw (eq-eqb (count_in x) b.up.count c, eq-eqb (kid_on b.right x).version b.version v))

-- a slot that is no parent says nothing
module _ (st : Store) (r q : Record) (f : (b : Side) → names b q r ≡ false) where
  no_link : link_test leaf_hash inner_hash st r q ≡ true
  unfolding link_test
  no_link = go q.body
    where
      go : (o : Body) → link_on leaf_hash inner_hash left st r q o && link_on leaf_hash inner_hash right st r q o ≡ true
      go (leaf_body k x) = refl
      go (inner_body c d) = rw (f left, f right)

  no_life : life_above st r q ≡ 0
  unfolding life_above is_parent
  no_life = rw (f left, f right)

-- a parent, on one side
module _ (st : Store) (r q : Record) (c d : Child) (k : q.body ≡ inner_body c d) where
  abbrev links_on : Side → List Bool
  links_on b =
      same_bytes (body_hash leaf_hash inner_hash r.body) (child_on b c d).hash
      ∷ leb r.version (first_kept st q)
      ∷ leb (ends_before st q) (ends_before st r)
      ∷ not (lone_leaf (child_on (not b) c d) r.body)
      ∷ []

  one_link : (b : Side) → names b q r ≡ true → names (not b) q r ≡ false → link_test leaf_hash inner_hash st r q ≡ all_of (links_on b)
  unfolding link_test
  one_link false n o =
      ap (λ z. link_on leaf_hash inner_hash left st r q z && link_on leaf_hash inner_hash right st r q z) k ∙ rw (n, o) (and_true (all_of (links_on false)))
  one_link true n o =
      ap (λ z. link_on leaf_hash inner_hash left st r q z && link_on leaf_hash inner_hash right st r q z) k ∙ rw (o, n)

  one_life : (b : Side) → names b q r ≡ true → life_above st r q ≡ ends_before st q - first_kept st q
  unfolding life_above kept_life
  one_life b n = rw (names_parent b q r n)

lone_is : (d : Child) (o : Body) → lone_leaf d o ≡ cond (is_leaf_body o) (eqb d.version 0) false
lone_is d (leaf_body k x) = refl
lone_is d (inner_body l r) = refl

said_as : {a c : Bool} {m n : ℕ} (t : Option ℕ) → c ≡ a → n ≡ m → SaidOf a m t → SaidOf c n t
said_as t e f s = rw (e, f) s

pub none_said : (st : Store) (r : Record) (y : Slot) → ((q : Record) → y ≡ used q → (b : Side) → names b q r ≡ false) →
    SaidOf (by_record true (link_test leaf_hash inner_hash st r) y) (by_record 0 (life_above st r) y) (Some 0)
none_said st r free f = (refl, refl)
none_said st r (used q) f = (no_link st r q (f q refl), no_life st r q (f q refl))
none_said st r (spoiled x) f = (refl, refl)

leaf_names : (q r : Record) (k x : Bytes) → q.body ≡ leaf_body k x → 1 ≤ r.version → (b : Side) → names b q r ≡ false
leaf_names q r k x e v b = is_false (names b q r) (λ n. omega (arith, (names_eq b q r n).0, ap (child_version b) e))

-- slot j says nothing by its fields
module _ {fm : Form} {s : Bytes} {j : ℕ} (h : Has fm s j) (a : All Byte s) (b : declared-below.Below) (w : Proper b.up) where
  pub no_parent : could_name b (slot_in fm j s) ≡ false → SlotSays fm s j b (Some 0)
  no_parent f r i =
      none_said (store_in fm s) r (slot_no fm j s) (λ q e.
      not_named fm (slot_in fm j s) (slot_long fm j s (slot_within h)) (slot_bytes_lem fm j s a) q (sym (slot_is h) ∙ e) b w (store_in fm s) r i f)

  module _ (t : declared-slot.Slot) (read : Read (slot_in fm j s) t) where
    abbrev says_as : declared-kind.Kind → Type 0
    says_as k = kind_says k t (slot_in fm j s) ≡ slot_no fm j s

    pub no_inner : OneOf (0 ∷ 1 ∷ 3 ∷ []) (tag_of kind.the_type t.kind) → SlotSays fm s j b (Some 0)
    unfolding slot_says kind_says record_says leaf_in
    no_inner o r i = go t.kind o (read.says ∙ sym (slot_is h))
      where
        v : 1 ≤ r.version
        v = omega (arith, i.some, i.version)

        go : (k : declared-kind.Kind) → OneOf (0 ∷ 1 ∷ 3 ∷ []) (tag_of kind.the_type k) → says_as k →
            SaidOf (by_record true (link_test leaf_hash inner_hash (store_in fm s) r) (slot_no fm j s)) (by_record 0 (life_above (store_in fm s) r) (slot_no fm j s)) (Some 0)
        go Free o e = rw (← e) (refl, refl)
        go Leaf o e = none_said (store_in fm s) r (slot_no fm j s) (λ q u.
            leaf_names q r (key_in (slot_in fm j s)) (value_inside (slot_in fm j s)) (ap (λ z. z.body) (used_eq q (record_says t (slot_in fm j s) (leaf_in (slot_in fm j s))) (sym u ∙ sym e))) v)
        go (Inner c d) o e = absurd (⊎_elim (λ z. omega arith) (⊎_elim (λ z. omega arith) (λ z. omega arith)) o)
        go Spoiled o e = rw (← e) (refl, refl)

    -- slot j is a parent
    pub parent_said : (k : declared-kept.Kept) → Keeps fm s k → could_name b (slot_in fm j s) ≡ true → (c d : declared-child.Child) → t.kind ≡ Inner c d →
        {x y : declared-child.Child} → x ≡ cond b.right d c → y ≡ cond (not b.right) d c → (ends : ℕ) → ends ≡ ends_at k.latest t.retired →
        (z : Option ℕ) → SaidOf (all_of (link_tests k b t.version ends x y.version)) (ends - max k.oldest t.version) z → SlotSays fm s j b z
    unfolding slot_says kind_says record_says child_says ends_before
    parent_said k keep could c d inner {x} {y} named-one beside-one ends ended z said r i =
        rw e
        (said_as z
        (one_link (store_in fm s) r q (child_says c) (child_says d) refl b.right n o
        ∙ same_links b.right
        ∙ ap₂ (λ p v. all_of (link_tests k b t.version ends p v.version)) (sym named-one) (sym beside-one))
        (one_life (store_in fm s) r q (child_says c) (child_says d) refl b.right n ∙ rw (keep.oldest, keep.latest, ended))
        said)
      where
        q : Record
        q = record_says t (slot_in fm j s) (inner_body (child_says c) (child_says d))

        e : slot_no fm j s ≡ used q
        e = slot_is h ∙ sym read.says ∙ ap (λ x. kind_says x t (slot_in fm j s)) inner

        n : names b.right q r ≡ true
        n = named fm (slot_in fm j s) (slot_long fm j s (slot_within h)) (slot_bytes_lem fm j s a) q (sym (slot_is h) ∙ e) b w (store_in fm s) r i (child_says c) (child_says d) refl could

        o : names (not b.right) q r ≡ false
        o = named_once fm (slot_in fm j s) (slot_long fm j s (slot_within h)) (slot_bytes_lem fm j s a) q (sym (slot_is h) ∙ e) b w (store_in fm s) r i

        same_links : (m : Side) →
            all_of (links_on (store_in fm s) r q (child_says c) (child_says d) refl m)
            ≡ all_of (link_tests k b t.version ends (cond m d c) (cond (not m) d c).version)
        same_links false = rw (i.hash, i.version, i.ends, keep.oldest, keep.latest, lone_is (child_says d) r.body, i.kind, ended)
        same_links true = rw (i.hash, i.version, i.ends, keep.oldest, keep.latest, lone_is (child_says c) r.body, i.kind, ended)
