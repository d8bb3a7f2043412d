-- Document 02, request 2026-01: what changed, in key order, each key once, and the list of it as batch records.
use Rattle.std.specs.Prelude.{ℕ, true, false, cond, List, [], ◌∷◌, ◌++◌, map}
use Rattle.terms.specs.Bits.{Bytes, same_bytes}
use Rattle.terms.specs.Fields.{le, zero_bytes, flat}
use Rattle.terms.specs.Records.{Grant, grant, Ask, insert, delete}
use Rattle.meaning.specs.Tree.{smaller, greater}
use Rattle.meaning.specs.Reading.{Verdict, present, absent, answer_of}

-- A key is added, removed, or given another value: the old one, then the new one.
pub data Change : Type 0 where
  added removed : Grant → Change
  another : Bytes → Bytes → Bytes → Change

abbrev pub change_key : Change → Bytes
change_key (added g) = g.key
change_key (removed g) = g.key
change_key (another k x y) = k

-- What became of a key, by what the first grants and the second say of it.
abbrev pub between : Bytes → Verdict → Verdict → List Change
between k absent absent = []
between k absent (present y) = added (grant k y) ∷ []
between k (present x) absent = removed (grant k x) ∷ []
between k (present x) (present y) = cond (same_bytes x y) [] (another k x y ∷ [])

-- In key order: up to the first of the old grants all keys are added, then what became of its key, then what is beyond.
abbrev pub changed : List Grant → List Grant → List Change
changed [] new = map added new
changed (g ∷ gs) new =
    map added (smaller g.key new)
    ++ (between g.key (present g.value) (answer_of g.key new) ++ changed gs (greater g.key new))

-- The change the other way round: added and removed are exchanged, and so are the two values.
abbrev pub undone : Change → Change
undone (added g) = removed g
undone (removed g) = added g
undone (another k x y) = another k y x

-- A record of the list: an insert with the new value, or a delete with the old one.
pub data Item : Type 0 where
  inserts deletes : Grant → Item

-- The records of a change, where another value is a delete and then an insert; and those of all.
abbrev pub items_of : Change → List Item
items_of (added g) = inserts g ∷ []
items_of (removed g) = deletes g ∷ []
items_of (another k x y) = deletes (grant k x) ∷ inserts (grant k y) ∷ []

abbrev pub items : List Change → List Item
items [] = []
items (c ∷ cs) = items_of c ++ items cs

-- What a record of the list asks for, as one of a batch would: the old value is left out.
abbrev pub ask_of : Item → Ask
ask_of (inserts g) = insert g.key g.value
ask_of (deletes g) = delete g.key

-- Length 72, for this list also of a delete; kind (1 insert, 2 delete), 2 zero, key 32, value 32.
unfoldable pub item_as : ℕ → Grant → Bytes
item_as kind g = flat (le 4 72 ∷ le 2 kind ∷ zero_bytes 2 ∷ g.key ∷ g.value ∷ [])

abbrev pub item_bytes : Item → Bytes
item_bytes (inserts g) = item_as 1 g
item_bytes (deletes g) = item_as 2 g

abbrev pub list_bytes : List Item → Bytes
list_bytes xs = flat (map item_bytes xs)

-- The length by name, as the laws cite it.
abbrev pub item_size : ℕ
item_size = 72
