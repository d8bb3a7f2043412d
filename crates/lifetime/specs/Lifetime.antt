-- Document 02, 2026-13: the versions that a lifetime covers. Assumes nothing.
use Rattle.std.specs.Prelude.{ℕ, Bool, ◌&&◌, not, leb}

-- A lifetime from a version on, retired since another (0: not retired), covers v.
unfoldable pub covers : ℕ → ℕ → ℕ → Bool
covers from since v = leb from v && not (leb 1 since && leb since v)
