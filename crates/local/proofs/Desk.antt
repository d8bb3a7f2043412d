-- The desk's stores pass the test, and so do some odd ones; damaged in one place they fail. By running it, with two hash functions that
-- only tell apart what these stores hold. Assumes nothing.
use Prim.Native.Nat.{ℕ}
use mathlib.Core.Path.{◌≡◌, refl}
use mathlib.Core.Bool.{true, false}
use mathlib.Core.List.{List, [], ◌∷◌, ◌++◌}
use lib.ListN.{get_or, take, replicate, set}
use Rattle.terms.specs.declared.Form.TheVariants.{Plain as plain, Counted as counted}
use Rattle.terms.specs.Bits.{Bytes, Place, All}
use Rattle.terms.specs.Records.{Child, child, Body, leaf_body, inner_body, tally, no_tally, Record, Slot, free, used, spoiled, Store, zeros}
use Rattle.terms.specs.Form.{top32}
use Rattle.terms.specs.Fields.{all_of}
use Rattle.meaning.specs.Store.{formatted, marked, on_record}
use Rattle.meaning.specs.Local.{ends_before}
use Rattle.meaning.specs.Computed.{computed}
use Rattle.meaning.specs.Desk.{s₁, s₂, s₃, s₄, s₅, s₆, s₇, s₈, s₉, s₁₂}
use Rattle.meaning.specs.DeskGaps.{g₅, g₉, g₇, g₁₂, g₁₅, g₁₃}
use Rattle.local.specs.Test.{is_same, holders, life_test, child_test, names, kept_life, is_parent, life_above, apart, root_apart, life_covered, whole32_test, child_form_test, form_test, head_test, link_test, counts_test, record_test, slots_test, local_test}

abbrev pub toy_leaf : Bytes → Bytes → Bytes
toy_leaf k x = take 31 k ++ take 1 x

abbrev pub toy_inner : Bytes → Bytes → Bytes
toy_inner a b = 9 ∷ take 15 a ++ take 16 b

abbrev M2 : Store
M2 = s₂ toy_leaf toy_inner

-- slot i of a store, where it is a record, put in another way
abbrev altered : ℕ → (Record → Slot) → Store → Store
altered i f st = record { form = st.form; oldest = st.oldest; latest = st.latest; slots = set st.slots i (on_record f (get_or st.slots i free)) }

abbrev with_body : Body → Record → Slot
with_body o r = used (record { place = r.place; version = r.version; retired = r.retired; body = o; counts = r.counts })

abbrev put : ℕ → Slot → Store → Store
put i y st = record { form = st.form; oldest = st.oldest; latest = st.latest; slots = set st.slots i y }

abbrev numbered : ℕ → ℕ → Store → Store
numbered o l st = record { form = st.form; oldest = o; latest = l; slots = st.slots }

abbrev leaf_of : Place → ℕ → Bytes → Slot
leaf_of p v k = used (record { place = p; version = v; retired = 0; body = leaf_body k k; counts = no_tally })

abbrev inner_of : Place → ℕ → Child → Child → ℕ → ℕ → Slot
inner_of p v l r lc rc = used (record { place = p; version = v; retired = 0; body = inner_body l r; counts = tally lc rc })

abbrev counting : ℕ → ℕ → Record → Slot
counting lc rc r = used (record { place = r.place; version = r.version; retired = r.retired; body = r.body; counts = tally lc rc })

abbrev as_plain : Store → Store
as_plain st = record { form = plain; oldest = st.oldest; latest = st.latest; slots = st.slots }

abbrev k0 : Bytes
k0 = replicate 32 0

abbrev k1 : Bytes
k1 = 0b01000000 ∷ replicate 31 0

-- a child newer than its parent: oldest and latest are 5, the node 0 has version 1 and its child 00 version 3
abbrev newer : Store
newer = record {
  form = counted;
  oldest = 5;
  latest = 5;
  slots =
      leaf_of (false ∷ false ∷ []) 3 k0
      ∷ leaf_of (false ∷ true ∷ []) 1 k1
      ∷ inner_of (false ∷ []) 1 (child 3 (toy_leaf k0 k0)) (child 1 (toy_leaf k1 k1)) 1 1
      ∷ inner_of [] 5 (child 1 (toy_inner (toy_leaf k0 k0) (toy_leaf k1 k1))) (child 0 zeros) 2 0
      ∷ [];
}

-- a leaf that is an inner node's only child
abbrev lonely : Store
lonely = record {
  form = counted;
  oldest = 0;
  latest = 1;
  slots = leaf_of (false ∷ []) 1 k0 ∷ inner_of [] 1 (child 1 (toy_leaf k0 k0)) (child 0 zeros) 1 0 ∷ [];
}

-- a leaf whose key doesn't begin with its place
abbrev misplaced : Store
misplaced = record {
  form = counted;
  oldest = 0;
  latest = 1;
  slots = leaf_of (false ∷ []) 1 k0 ∷ leaf_of (true ∷ []) 1 k1 ∷ inner_of [] 1 (child 1 (toy_leaf k0 k0)) (child 1 (toy_leaf k1 k1)) 1 1 ∷ [];
}

-- a leaf of version 2 below a node that lives at 1 too
abbrev late : Store
late = altered 3 (λ r. used (marked 2 r)) (record {
  form = counted;
  oldest = 0;
  latest = 2;
  slots =
      leaf_of (false ∷ false ∷ []) 2 k0
      ∷ leaf_of (false ∷ true ∷ []) 1 k1
      ∷ inner_of (false ∷ []) 1 (child 2 (toy_leaf k0 k0)) (child 1 (toy_leaf k1 k1)) 1 1
      ∷ inner_of [] 1 (child 1 (toy_inner (toy_leaf k0 k0) (toy_leaf k1 k1))) (child 0 zeros) 2 0
      ∷ inner_of [] 2 (child 1 (toy_inner (toy_leaf k0 k0) (toy_leaf k1 k1))) (child 0 zeros) 2 0
      ∷ [];
})

-- a root record that is not retired and not of the latest version: versions 1 and 2 share it
abbrev lingering : Store
lingering = record { form = counted; oldest = 0; latest = 2; slots = leaf_of [] 1 k0 ∷ [] }

-- two root records: both live at version 2
abbrev paired : Store
paired = record { form = counted; oldest = 0; latest = 2; slots = leaf_of [] 1 k0 ∷ leaf_of [] 2 k0 ∷ [] }

abbrev pub good : List Store
good =
    s₁ toy_leaf toy_inner
    ∷ M2
    ∷ s₃ toy_leaf toy_inner
    ∷ s₄ toy_leaf toy_inner
    ∷ s₅ toy_leaf toy_inner
    ∷ s₆ toy_leaf toy_inner
    ∷ s₇ toy_leaf toy_inner
    ∷ s₈ toy_leaf toy_inner
    ∷ s₉ toy_leaf toy_inner
    ∷ s₁₂ toy_leaf toy_inner
    ∷ g₅ toy_leaf toy_inner
    ∷ g₉ toy_leaf toy_inner
    ∷ g₇ toy_leaf toy_inner
    ∷ g₁₂ toy_leaf toy_inner
    ∷ g₁₅ toy_leaf toy_inner
    ∷ g₁₃ toy_leaf toy_inner
    ∷ newer
    ∷ lingering
    ∷ altered 0 (λ r. used (marked 2 r)) paired
    ∷ numbered 0 top32 (formatted 3)
    ∷ as_plain (altered 4 (counting 3 0) M2)
    ∷ []

-- In turn: a leaf that lives on after its parents, one that ends before its parent, one that begins after it, a child gone, another
-- value, another hash beside it, a node twice, a root that lives on beside the next one, two leaves that do so, a root gone, a lone leaf,
-- a leaf in a wrong place, a slot that is not in form, a version above latest, records retired by oldest, oldest above latest;
-- a count too small, the two exchanged, one too great, a leaf with a count, and in the plain form a number that has no four bytes.
abbrev pub damaged : List Store
damaged =
    altered 0 (λ r. used (marked 0 r)) M2
    ∷ altered 2 (λ r. used (marked 2 r)) M2
    ∷ late
    ∷ altered 2 (λ r. free) M2
    ∷ altered 2 (with_body (leaf_body k0 k1)) M2
    ∷ altered 8 (with_body (inner_body (child 1 k1) (child 2 k1))) M2
    ∷ put 12 (get_or M2.slots 2 free) M2
    ∷ altered 6 (λ r. used (marked 0 r)) M2
    ∷ paired
    ∷ altered 6 (λ r. free) M2
    ∷ lonely
    ∷ misplaced
    ∷ put 15 (spoiled []) M2
    ∷ numbered 0 1 M2
    ∷ numbered 2 2 M2
    ∷ numbered 3 2 M2
    ∷ altered 4 (counting 1 1) M2
    ∷ altered 4 (counting 2 1) M2
    ∷ altered 6 (counting 3 2) M2
    ∷ altered 2 (counting 1 0) M2
    ∷ altered 3 (counting 1 4294967296) (as_plain M2)
    ∷ []

abbrev pub Passes : Store → Type 0
Passes st = local_test toy_leaf toy_inner st ≡ true

abbrev pub Fails : Store → Type 0
Fails st = local_test toy_leaf toy_inner st ≡ false

pub good_passes : All Passes good
unfolding computed ends_before all_of is_same holders life_test child_test names kept_life is_parent life_above apart root_apart life_covered whole32_test
    child_form_test form_test head_test link_test counts_test record_test slots_test local_test
good_passes =
    (refl, (refl, (refl, (refl, (refl, (refl, (refl, (refl, (refl, (refl, (refl, (refl, (refl, (refl, (refl, (refl, (refl, (refl, (refl, (refl, (refl, tt)))))))))))))))))))))

pub damaged_fails : All Fails damaged
unfolding computed ends_before all_of is_same holders life_test child_test names kept_life is_parent life_above apart root_apart life_covered whole32_test
    child_form_test form_test head_test link_test counts_test record_test slots_test local_test
damaged_fails =
    (refl, (refl, (refl, (refl, (refl, (refl, (refl, (refl, (refl, (refl, (refl, (refl, (refl, (refl, (refl, (refl, (refl, (refl, (refl, (refl, (refl, tt)))))))))))))))))))))
