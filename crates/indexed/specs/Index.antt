-- Document 02, 2026-05: how a read finds by a table of slot numbers, for every table and store, sound or not.
use Rattle.std.specs.Prelude.{ℕ, zero, suc, ◌+◌, ◌/◌, Bool, true, false, cond, ◌&&◌, ◌||◌, List, [], ◌∷◌, length, get_or, ltb}
use Rattle.std.specs.Bool.{beq}
use Rattle.std.proofs.Math.Option.{Option, none, some}
use Rattle.terms.specs.Bits.{Place, same_place}
use Rattle.terms.specs.Records.{Record, Slot, free, used, spoiled, Store}
use Rattle.meaning.specs.Store.{retired_by}
use Rattle.meaning.specs.Sight.{Sight, matches, Looking, root_sight, node_sight}

-- The order of places: a shorter place before its extensions, then by bits.
abbrev pub place_before : Place → Place → Bool
place_before [] [] = false
place_before [] (c ∷ q) = true
place_before (b ∷ p) [] = false
place_before (b ∷ p) (c ∷ q) = cond (beq b c) (place_before p q) c

-- The order of records: by place and then by version.
unfoldable pub node_before : ℕ → Place → ℕ → Place → Bool
node_before v p w q = place_before p q || (same_place p q && ltb v w)

-- What a look at an entry says.
pub data Look : Type 0 where
  too_small : Look
  too_great : Look
  meets : Record → Look

-- By the slot that an entry names; an entry that names no slot in form counts as too great.
abbrev pub look_at : (Record → Look) → Slot → Look
look_at look free = too_great
look_at look (used r) = look r
look_at look (spoiled x) = too_great

unfoldable pub node_look : ℕ → Place → Record → Look
node_look v p r = cond (node_before r.version r.place v p) too_small
    (cond (node_before v p r.version r.place) too_great (meets r))

-- Looking for the root of a version (2026-13): other places and later versions are too great, retired ones too small.
unfoldable pub root_look : ℕ → Record → Look
root_look v r = cond (same_place r.place [])
    (cond (ltb v r.version) too_great (cond (retired_by v r) too_small (meets r))) too_great

-- A search halves: between lo and hi it looks at (lo + hi) / 2, rounded down, till an entry meets or none is left.
abbrev pub onwards : Look → Option Record → Option Record → Option Record
onwards too_small above below = above
onwards too_great above below = below
onwards (meets r) above below = some r

abbrev pub search_from : ℕ → (Record → Look) → List ℕ → List Slot → ℕ → ℕ → Option Record
search_from zero look table s lo hi = none
search_from (suc n) look table s lo hi =
    let mid = (lo + hi) / 2 in
    cond (ltb lo hi) (onwards (look_at look (get_or s (get_or table mid (length s)) free))
    (search_from n look table s (suc mid) hi) (search_from n look table s lo mid)) none

-- lo is 0 and hi the capacity at first; each look takes at least one entry away.
unfoldable pub search : (Record → Look) → List ℕ → List Slot → Option Record
search look table s = search_from (length s) look table s 0 (length s)

-- A search that doesn't end on a matching slot falls back on the scan.
abbrev pub or_scan : Option Record → Sight → Sight
or_scan none sight = sight
or_scan (some r) sight = matches r

unfoldable pub root_by : List ℕ → Store → ℕ → Sight
root_by table st v = or_scan (search (root_look v) table st.slots) (root_sight st v)

unfoldable pub node_by : List ℕ → Store → ℕ → Place → Sight
node_by table st v p = or_scan (search (node_look v p) table st.slots) (node_sight st v p)

abbrev pub by_table : List ℕ → Store → Looking
by_table table st = record { root = root_by table st; node = node_by table st }
