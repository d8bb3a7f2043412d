-- Document 01, 'Forms to follow': what each case of a search for a neighbour says. Assumes nothing.
use Rattle.std.specs.Prelude.{ℕ, ◌+◌, ◌*◌, ◌≤◌}
use Rattle.std.proofs.Math.Option.{Option, none, some}
use Rattle.terms.specs.Bits.{Bytes}
use Rattle.terms.specs.Records.{Presence, Absence}
use Rattle.meaning.specs.Proving.{Sought, search_stopped, nobody, somebody}
use Rattle.proofrecords.specs.ProofBytes.{presence_head, step_size}
use Rattle.read_step.specs.Walk.{trouble_says}
use Rattle.prove_paths.specs.Paths.{presence_at, PathIn}
use Rattle.prove_paths.specs.declared.Path as declared-path
use Rattle.prove_paths.specs.declared.Way as declared-way
use Rattle.prove_paths.specs.declared.Way.TheVariants.{Stopped, Nobody, Somebody}
use Rattle.prove_paths.specs.declared.Sought as declared

-- What stopped the search, nobody was found, or the presence proof of the leaf that was found.
abbrev pub way_at : Bytes → declared-way.Way → declared-path.Path → Sought
way_at s (Stopped t) p = search_stopped (trouble_says t)
way_at s Nobody p = nobody
way_at s Somebody p = somebody (presence_at s p)

abbrev pub sought_at : Bytes → declared.Sought → Sought
sought_at s n = way_at s n.way n.path

-- The neighbour, where there is one.
abbrev pub found : Sought → Option Presence
found (search_stopped t) = none
found nobody = none
found (somebody p) = some p

unfoldable pub neighbour_at : Bytes → declared.Sought → Option Presence
neighbour_at s n = found (sought_at s n)

-- A neighbour's path lies within the store.
abbrev pub WayIn : Bytes → declared-way.Way → declared-path.Path → Type 0
WayIn s (Stopped t) p = p.place.count ≤ 256
WayIn s Nobody p = p.place.count ≤ 256
WayIn s Somebody p = PathIn s p

abbrev pub NeighbourIn : Bytes → declared.Sought → Type 0
NeighbourIn s n = WayIn s n.way n.path

-- How many bytes its record has; and its flag.
abbrev pub way_room : declared-way.Way → declared-path.Path → ℕ
way_room (Stopped t) p = 0
way_room Nobody p = 0
way_room Somebody p = presence_head + step_size * p.place.count

unfoldable pub room_for : declared.Sought → ℕ
room_for n = way_room n.way n.path

abbrev pub way_flag : declared-way.Way → ℕ → ℕ
way_flag (Stopped t) bit = 0
way_flag Nobody bit = 0
way_flag Somebody bit = bit

unfoldable pub flag_for : declared.Sought → ℕ → ℕ
flag_for n bit = way_flag n.way bit

-- The absence proof of a key with these neighbours.
abbrev pub absent_of : Bytes → Option Presence → Option Presence → Absence
absent_of k l r = record { key = k; leftward = l; rightward = r }
