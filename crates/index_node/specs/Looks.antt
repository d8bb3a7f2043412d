-- Document 02, request 2026-05: a look at a slot, by value. Assumes nothing.
use Rattle.indexed.specs.Index.{Look, too_small, too_great, meets}
use Rattle.std.specs.declared.cmp.Ordering.{Ordering}
use Rattle.std.specs.declared.cmp.Ordering.TheVariants.{Less, Equal, Greater}

-- What a look says.
abbrev pub look_says : Look → Ordering
look_says too_small = Less
look_says too_great = Greater
look_says (meets r) = Equal
