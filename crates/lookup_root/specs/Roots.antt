-- Document 02, 2026-13: the root of a version is the lowest root record whose lifetime covers it. Assumes nothing.
use Rattle.std.specs.Prelude.{ℕ, Bool, false}
use Rattle.terms.specs.Records.{Slot, free, used, spoiled, Store}
use Rattle.meaning.specs.Store.{is_root, root_of}
use Rattle.std.specs.declared.option.Option as option
use Rattle.lookup.specs.Lookup.{Located}

-- A slot holds a root record whose lifetime covers v.
abbrev pub root_here : ℕ → Slot → Bool
root_here v free = false
root_here v (used r) = is_root v r
root_here v (spoiled x) = false

-- What a search for the root of a version found.
abbrev pub RootIn : Store → ℕ → option.Option ℕ → Type 0
RootIn st v r = Located st.slots (root_of st v) r
