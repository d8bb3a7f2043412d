-- Rows worked out by hand: the order of places, a table of six slots, what is looked at, and what comes of wrong tables. Assumes nothing.
use Prim.Native.Nat.{ℕ}
use mathlib.Core.Path.{◌≡◌, refl}
use mathlib.Core.Bool.{Bool, true, false}
use mathlib.Core.List.{List, [], ◌∷◌, map}
use mathlib.Core.Option.{Option, none, some}
use lib.ListN.{replicate}
use Rattle.terms.specs.declared.Form.TheVariants.{Counted as counted}
use Rattle.terms.specs.Bits.{Place, left, right, same_place}
use Rattle.terms.specs.Records.{leaf_body, no_tally, Record, Slot, free, used, spoiled, Store}
use Rattle.meaning.specs.Store.{is_node, is_root, retired_by, root_of}
use Rattle.meaning.specs.Sight.{Sight, matches, nothing, spoilt, agrees, agrees_root, lives_by, root_sight, node_sight}
use Rattle.indexed.specs.Index.{place_before, node_before, Look, too_small, too_great, meets, node_look, root_look, search_from, search, root_by, node_by}

-- 02's order: "", 0, 00, 01, 010, 1, each before the next alone
order : List Bool
order =
    place_before [] (left ∷ [])
    ∷ place_before (left ∷ []) (left ∷ left ∷ [])
    ∷ place_before (left ∷ left ∷ []) (left ∷ right ∷ [])
    ∷ place_before (left ∷ right ∷ []) (left ∷ right ∷ left ∷ [])
    ∷ place_before (left ∷ right ∷ left ∷ []) (right ∷ [])
    ∷ place_before (right ∷ []) (left ∷ right ∷ left ∷ [])
    ∷ place_before (left ∷ left ∷ []) (left ∷ [])
    ∷ []

places_in_order : order ≡ true ∷ true ∷ true ∷ true ∷ true ∷ false ∷ false ∷ []
unfolding order
places_in_order = refl

-- six slots: roots of versions 1 (retired by 3) and 3 in slots 4 and 0, the places 0 and 1 in 2 and 5, slot 1 free, slot 3 a second copy of the place 1
abbrev at : ℕ → Place → ℕ → Record
at v p since = record { version = v; place = p; retired = since; body = leaf_body [] []; counts = no_tally }

abbrev slots : List Slot
slots =
    used (at 3 [] 0) ∷ free ∷ used (at 1 (left ∷ []) 0) ∷ used (at 2 (right ∷ []) 0) ∷ used (at 1 [] 3) ∷ used (at 2 (right ∷ []) 7) ∷ []

st : Store
st = record { form = counted; oldest = 1; latest = 4; slots = slots }

-- the order of the used slots is 4, 0, 2, then 3 and 5, which tie
table : List ℕ
table = 4 ∷ 0 ∷ 2 ∷ 5 ∷ 3 ∷ 6 ∷ []

-- roots: of 1 and 2 that of version 1, of 3 and 4 that of version 3, of 0 none; nodes; and where two slots match the one looked at first, not the lowest;
-- a root that is retired by then is none, though nothing else is named
found : List (Option Record)
found =
    search (root_look 1) table slots
    ∷ search (root_look 2) table slots
    ∷ search (root_look 3) table slots
    ∷ search (root_look 4) table slots
    ∷ search (root_look 0) table slots
    ∷ search (node_look 1 (left ∷ [])) table slots
    ∷ search (node_look 2 (left ∷ [])) table slots
    ∷ search (node_look 2 (right ∷ [])) table slots
    ∷ search (root_look 3) (replicate 6 4) slots
    ∷ []

searched : found ≡
    some (at 1 [] 3) ∷ some (at 1 [] 3) ∷ some (at 3 [] 0) ∷ some (at 3 [] 0) ∷ none ∷ some (at 1 (left ∷ []) 0) ∷ none ∷ some (at 2 (right ∷ []) 7) ∷ none ∷ []
unfolding found search root_look node_look node_before retired_by table
searched = refl

-- whatever a table holds, the read finds: entries that name no slot, or all of them one slot
anyhow : List Sight
anyhow =
    node_by (replicate 6 9) st 1 (left ∷ [])
    ∷ node_by (replicate 6 2) st 1 (left ∷ [])
    ∷ node_by (replicate 6 2) st 3 []
    ∷ root_by (replicate 6 1) st 2
    ∷ root_by table st 2
    ∷ node_by table st 2 (left ∷ [])
    ∷ []

found_anyhow : anyhow ≡
    matches (at 1 (left ∷ []) 0) ∷ matches (at 1 (left ∷ []) 0) ∷ matches (at 3 [] 0) ∷ matches (at 1 [] 3) ∷ matches (at 1 [] 3) ∷ nothing ∷ []
unfolding anyhow node_by root_by node_sight root_sight root_of is_node is_root retired_by search root_look node_look node_before table st
found_anyhow = refl
