-- Document 02, request 2026-08: what a rescue's answer says. Assumes nothing.
use Rattle.std.specs.Prelude.{Result}
use Rattle.meaning.specs.Calls.{Answer}
use Rattle.rescue_bytes.specs.Rescues.{Report}
use Rattle.rescue_count.specs.Count.{counts_say}
use Rattle.refusal_numbers.specs.Refusals.{answer_of}
use Rattle.refusal_numbers.specs.declared.Refusal.{Refusal}
use Rattle.rescue.specs.declared.Rescued as declared

-- The run's first version and the numbers.
abbrev pub report_of : declared.Rescued → Report
report_of k = record { first = k.first; numbers = counts_say k.counts }

abbrev pub rescued_says : Result declared.Rescued Refusal → Answer Report
rescued_says = answer_of report_of
