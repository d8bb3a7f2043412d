-- What an outcome writes: its ends are marked, and its new records placed. Assumes nothing.
use Rattle.std.specs.Prelude.{ℕ, Bool, false, cond, ◌||◌, List, [], ◌∷◌, map}
use Rattle.terms.specs.Records.{Record, Slot, used}
use Rattle.meaning.specs.Store.{is_node, marked, on_record, placed}
use Rattle.steps.specs.Step.{Node, Outcome}

-- A record's node is among those of a list.
abbrev pub is_among : Record → List Node → Bool
is_among r [] = false
is_among r (x ∷ xs) = is_node x.version x.place r || is_among r xs

unfoldable pub mark_in : ℕ → List Node → Record → Slot
mark_in new nodes r = used (cond (is_among r nodes) (marked new r) r)

-- The nodes of a list marked retired since the new version.
abbrev pub mark : ℕ → List Node → List Slot → List Slot
mark new nodes s = map (on_record (mark_in new nodes)) s

abbrev pub written : ℕ → Outcome → List Slot → List Slot
written new o s = placed o.fresh (mark new o.retired s)
