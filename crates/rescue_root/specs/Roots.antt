-- Documents 02, 2026-08 and 2026-13, over the bytes of a source: the newest root record not above a version. No public
-- promise reaches this file. Assumes nothing.
use Rattle.std.specs.Prelude.{ℕ, Bool, ◌&&◌, ltb}
use Rattle.terms.specs.Records.{Record}
use Rattle.rescue_rules.specs.Rescue.{root_up_to}

-- A root record above one version and not above another.
unfoldable pub root_above : ℕ → ℕ → Record → Bool
root_above above v r = ltb above r.version && root_up_to v r
