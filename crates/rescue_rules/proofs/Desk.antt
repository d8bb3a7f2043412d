-- The desk's store, damaged, and rescued by computing: the first version of the run, the target's slots and the three numbers are as
-- said, the target passes the test of soundness, and with one version more the fresh setting doesn't. Hashes are the toys of `local`.
-- Assumes nothing.
use Prim.Native.Nat.{ℕ, suc, ◌-◌}
use mathlib.Core.Path.{◌≡◌, refl}
use mathlib.Core.Bool.{Bool, true, false}
use mathlib.Core.List.{List, [], ◌∷◌, ◌++◌}
use mathlib.Core.Option.{none, some, or_else}
use lib.ListN.{get_or, replicate, set}
use Rattle.terms.specs.declared.Form.TheVariants.{Counted as counted}
use Rattle.terms.specs.Bits.{Bytes, Place, All}
use Rattle.terms.specs.Records.{Child, child, Body, leaf_body, inner_body, tally, no_tally, Record, Slot, free, used, spoiled, Store, zeros}
use Rattle.terms.specs.Fields.{all_of}
use Rattle.meaning.specs.Store.{marked, on_record}
use Rattle.meaning.specs.Local.{ends_before}
use Rattle.meaning.specs.Computed.{computed}
use Rattle.meaning.specs.Desk.{s₅, s₆}
use Rattle.local.specs.Test.{is_same, holders, life_test, child_test, names, kept_life, is_parent, life_above, apart, root_apart, life_covered, whole32_test, child_form_test, form_test, head_test, link_test, counts_test, record_test, slots_test, local_test}
use Rattle.local.proofs.Desk.{toy_leaf, toy_inner}
use Rattle.rescue_rules.specs.Rescue.{root_up_to, source_root, source_tree, same_node, if_in, in_run, fresh, without, run_store, rescued, Counts, counts}
use Rattle.rescue_rules.specs.Joining.{newer, root_version, joins_next, first_of_run}

-- A row: the source, oldest and latest, and the first version with the target's slots and the numbers; or no run.
pub data Row : Type 0 where
  gives : List Slot → ℕ → ℕ → ℕ → List Slot → Counts → Row
  refuses : List Slot → ℕ → ℕ → Row

abbrev sound : Store → Bool
sound st = local_test toy_leaf toy_inner st

abbrev pub RowHolds : Row → Type 0
RowHolds (gives s oldest latest first slots numbers) =
    (first_of_run toy_leaf toy_inner s oldest latest ≡ some first)
    × (rescued s first (latest - first) ≡ record { form = counted; oldest = first; latest = latest; slots = slots })
    × (counts s slots ≡ numbers)
    × (sound (record { form = counted; oldest = first; latest = latest; slots = slots }) ≡ true)
RowHolds (refuses s oldest latest) = first_of_run toy_leaf toy_inner s oldest latest ≡ none

abbrev numbers : ℕ → ℕ → ℕ → Counts
numbers a b c = record { same = a; other = b; out = c }

-- after M5 and after M6
abbrev five : List Slot
five = (s₅ toy_leaf toy_inner).slots

abbrev six : List Slot
six = (s₆ toy_leaf toy_inner).slots

abbrev altered : ℕ → (Record → Slot) → List Slot → List Slot
altered i f s = set s i (on_record f (get_or s i free))

abbrev since : ℕ → ℕ → List Slot → List Slot
since i n s = altered i (λ r. used (marked n r)) s

abbrev without_slots : List ℕ → List Slot → List Slot
without_slots [] s = s
without_slots (i ∷ is) s = without_slots is (set s i free)

-- another value in a copy of a leaf
abbrev other_body : Body → Body
other_body (leaf_body k x) = leaf_body k (replicate 32 7)
other_body (inner_body l r) = inner_body l r

abbrev other_value : Record → Slot
other_value r = used (record { place = r.place; version = r.version; retired = r.retired; body = other_body r.body; counts = r.counts })

-- a child newer than its parent: the node 0 has version 1, its child 00 version 3, and each of the versions 2 to 5 has a root above it
abbrev k0 : Bytes
k0 = replicate 32 0

abbrev k1 : Bytes
k1 = 0b01000000 ∷ replicate 31 0

abbrev leaf_of : Place → ℕ → ℕ → Bytes → Slot
leaf_of p v n k = used (record { place = p; version = v; retired = n; body = leaf_body k k; counts = no_tally })

abbrev inner_of : Place → ℕ → ℕ → Child → Child → ℕ → ℕ → Slot
inner_of p v n l r lc rc = used (record { place = p; version = v; retired = n; body = inner_body l r; counts = tally lc rc })

-- another count on the left
abbrev miscounted : Record → Slot
miscounted r =
    used (record { place = r.place; version = r.version; retired = r.retired; body = r.body; counts = tally (suc r.counts.leftward) r.counts.rightward })

abbrev root_of : ℕ → ℕ → Slot
root_of v n = inner_of [] v n (child 1 (toy_inner (toy_leaf k0 k0) (toy_leaf k1 k1))) (child 0 zeros) 2 0

abbrev below : List Slot
below =
    leaf_of (false ∷ false ∷ []) 3 0 k0 ∷ leaf_of (false ∷ true ∷ []) 1 0 k1
    ∷ inner_of (false ∷ []) 1 0 (child 3 (toy_leaf k0 k0)) (child 1 (toy_leaf k1 k1)) 1 1 ∷ []

abbrev steep_source : List Slot
steep_source = below ++ root_of 2 0 ∷ root_of 3 0 ∷ root_of 4 0 ∷ root_of 5 0 ∷ []

-- In turn: whole; from version 3 on; up to version 4; a lost leaf of the versions 1 to 3; two wrong retired-since; version 6 is empty, so
-- no run ends there, but one ends before it; the root of version 3 lost; a bad copy in a lower slot; a wrong count in the root
-- of version 3; latest 0; a child newer than its
-- parent.
abbrev pub table : List Row
table =
    gives five 0 5 1 five (numbers 14 0 0)
    ∷ gives five 3 5 3 (without_slots (0 ∷ 1 ∷ 3 ∷ 4 ∷ 6 ∷ 9 ∷ []) five) (numbers 8 0 6)
    ∷ gives five 1 4 1 (since 5 0 (since 11 0 (since 12 0 (set five 13 free)))) (numbers 10 3 1)
    ∷ gives (set five 2 (spoiled [])) 0 5 4 (without_slots (0 ∷ 1 ∷ 2 ∷ 3 ∷ 4 ∷ 6 ∷ 7 ∷ 8 ∷ 9 ∷ 10 ∷ []) five) (numbers 4 0 10)
    ∷ gives (since 5 0 (since 13 9 five)) 0 5 1 five (numbers 12 2 0)
    ∷ refuses six 0 6
    ∷ gives six 0 5 1 five (numbers 13 1 0)
    ∷ gives (set five 10 free) 0 5 4 (without_slots (0 ∷ 1 ∷ 2 ∷ 3 ∷ 4 ∷ 6 ∷ 7 ∷ 8 ∷ 9 ∷ 10 ∷ []) five) (numbers 4 0 9)
    ∷ gives (set five 0 (on_record other_value (get_or five 5 free))) 0 5 5 (replicate 13 free ++ get_or five 13 free ∷ replicate 6 free) (numbers 1 0 13)
    ∷ gives (altered 10 miscounted five) 0 5 4 (without_slots (0 ∷ 1 ∷ 2 ∷ 3 ∷ 4 ∷ 6 ∷ 7 ∷ 8 ∷ 9 ∷ 10 ∷ []) five) (numbers 4 0 10)
    ∷ refuses five 0 0
    ∷ gives steep_source 0 5 3 (below ++ free ∷ root_of 3 4 ∷ root_of 4 5 ∷ root_of 5 0 ∷ []) (numbers 4 2 1)
    ∷ []

-- Two publishings, 2 and 5. In turn: whole; begun between two publishings; the first's retired-since lost; the second root lost; both:
-- then the first is given back for all versions; and a run that begins inside a root's time, at the child newer than its parent.
abbrev root2 : ℕ → Slot
root2 n = leaf_of [] 2 n k0

abbrev root5 : Slot
root5 = leaf_of [] 5 0 k1

abbrev pub between : List Row
between =
    gives (root2 5 ∷ root5 ∷ []) 0 7 2 (root2 5 ∷ root5 ∷ []) (numbers 2 0 0)
    ∷ gives (root2 5 ∷ root5 ∷ []) 3 7 3 (root2 5 ∷ root5 ∷ []) (numbers 2 0 0)
    ∷ gives (root2 0 ∷ root5 ∷ []) 0 7 2 (root2 5 ∷ root5 ∷ []) (numbers 1 1 0)
    ∷ refuses (root2 5 ∷ free ∷ []) 0 7
    ∷ gives (root2 0 ∷ free ∷ []) 0 7 2 (root2 0 ∷ free ∷ []) (numbers 1 0 0)
    ∷ gives (below ++ root_of 2 0 ∷ []) 0 5 3 (below ++ root_of 2 0 ∷ []) (numbers 4 0 0)
    ∷ []

-- What a version's tree must be, and how two of them must join. In turn: a node of the next tree that this one lacks, though it is older than
-- the next tree's first version; a leaf whose key doesn't begin with its place; an inner node whose only child is a leaf; of two root records
-- of one version the lower is retired by then; of two leaves of one version and place the lower is kept.
abbrev k2 : Bytes
k2 = 0b10000000 ∷ replicate 31 0

abbrev forked : ℕ → Slot
forked v = inner_of [] 5 0 (child v (toy_leaf k0 k0)) (child v (toy_leaf k2 k2)) 1 1

abbrev pub trees : List Row
trees =
    gives (leaf_of (false ∷ []) 1 0 k0 ∷ leaf_of (true ∷ []) 1 0 k2 ∷ forked 1 ∷ leaf_of [] 2 5 k0 ∷ []) 0 5 5
    (leaf_of (false ∷ []) 1 0 k0 ∷ leaf_of (true ∷ []) 1 0 k2 ∷ forked 1 ∷ free ∷ []) (numbers 3 0 1)
    ∷ refuses
    (leaf_of (false ∷ []) 5 0 k0 ∷ leaf_of (true ∷ []) 5 0 k1 ∷ inner_of [] 5 0 (child 5 (toy_leaf k0 k0)) (child 5 (toy_leaf k1 k1)) 1 1 ∷ []) 0 5
    ∷ refuses (leaf_of (false ∷ []) 5 0 k0 ∷ inner_of [] 5 0 (child 5 (toy_leaf k0 k0)) (child 0 zeros) 1 0 ∷ []) 0 5
    ∷ refuses (root2 3 ∷ root2 0 ∷ []) 0 5
    ∷ gives (leaf_of (false ∷ []) 5 0 k0 ∷ leaf_of (true ∷ []) 5 0 k2 ∷ leaf_of (true ∷ []) 5 0 k2 ∷ forked 5 ∷ []) 0 5 5
    (leaf_of (false ∷ []) 5 0 k0 ∷ leaf_of (true ∷ []) 5 0 k2 ∷ free ∷ forked 5 ∷ []) (numbers 3 0 1)
    ∷ []

pub desk_rescued : All RowHolds table
unfolding computed ends_before all_of is_same holders life_test child_test names kept_life is_parent life_above apart root_apart life_covered whole32_test
    child_form_test form_test head_test link_test counts_test record_test slots_test local_test
    root_up_to source_root source_tree same_node if_in or_else in_run fresh without run_store rescued newer root_version joins_next first_of_run
desk_rescued = (
  (refl, refl, refl, refl),
  (
    (refl, refl, refl, refl),
    (
      (refl, refl, refl, refl),
      (
        (refl, refl, refl, refl),
        (
          (refl, refl, refl, refl),
          (
            refl,
            ((refl, refl, refl, refl), ((refl, refl, refl, refl), ((refl, refl, refl, refl), ((refl, refl, refl, refl), (refl, ((refl, refl, refl, refl), tt)))))),
          ),
        ),
      ),
    ),
  ),
)

pub between_rescued : All RowHolds between
unfolding computed ends_before all_of is_same holders life_test child_test names kept_life is_parent life_above apart root_apart life_covered whole32_test
    child_form_test form_test head_test link_test counts_test record_test slots_test local_test
    root_up_to source_root source_tree same_node if_in or_else in_run fresh without run_store rescued newer root_version joins_next first_of_run
between_rescued =
    ((refl, refl, refl, refl), ((refl, refl, refl, refl), ((refl, refl, refl, refl), (refl, ((refl, refl, refl, refl), ((refl, refl, refl, refl), tt))))))

pub trees_rescued : All RowHolds trees
unfolding computed ends_before all_of is_same holders life_test child_test names kept_life is_parent life_above apart root_apart life_covered whole32_test
    child_form_test form_test head_test link_test counts_test record_test slots_test local_test
    root_up_to source_root source_tree same_node if_in or_else in_run fresh without run_store rescued newer root_version joins_next first_of_run
trees_rescued = ((refl, refl, refl, refl), (refl, (refl, (refl, ((refl, refl, refl, refl), tt)))))

-- one version more is not sound with the fresh setting: the root of version 3 lost, the leaf lost, the newer child
pub one_more_fails : All (λ st. sound st ≡ false)
    (rescued (set five 10 free) 3 2 ∷ rescued (set five 2 (spoiled [])) 3 2 ∷ rescued steep_source 2 3 ∷ [])
unfolding computed ends_before all_of is_same holders life_test child_test names kept_life is_parent life_above apart root_apart life_covered whole32_test
    child_form_test form_test head_test link_test counts_test record_test slots_test local_test
    root_up_to source_root source_tree same_node if_in or_else in_run fresh without run_store rescued newer root_version joins_next first_of_run
one_more_fails = (refl, (refl, (refl, tt)))
