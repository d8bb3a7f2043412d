-- Document 02, request 2026-08: what is reported of an accepted rescue. Assumes nothing.
use Rattle.std.specs.Prelude.{ℕ}
use Rattle.rescue_bytes.specs.Rescues.{Report}
use Rattle.rescue_count.specs.declared.Counts as declared
use Rattle.rescue_count.specs.Count.{counts_say}

-- The first version and the three numbers.
abbrev pub report_says : ℕ → declared.Counts → Report
report_says first c = record { first = first; numbers = counts_say c }
