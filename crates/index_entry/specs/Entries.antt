-- Document 02, request 2026-05: what an entry is looked at for. Assumes nothing.
use Rattle.std.specs.Prelude.{ℕ, Bool, true, false}
use Rattle.terms.specs.Bits.{Place}
use Rattle.terms.specs.Records.{Record}
use Rattle.indexed.specs.Index.{Look, node_look, root_look}

-- A look for a root, or for a node.
abbrev pub look_for : Bool → ℕ → Place → Record → Look
look_for true v p = root_look v
look_for false v p = node_look v p
