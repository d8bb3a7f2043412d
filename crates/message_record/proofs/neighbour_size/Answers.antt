-- `message_record::neighbour_size` meets its contract, by whether there is somebody. Assumes nothing.
use mathlib.Core.Path.{ap, sym, ◌∙◌}
use Rattle.message_record.specs.Ready.{size_of}
use Rattle.message_record.proofs.neighbour_size.Goals as goal

pub presence_size-requires : goal.presence_size-requires
presence_size-requires c = c.requires c.in-Some.shown c.in-Some.is

pub returns-in-Some : goal.returns-in-Some
returns-in-Some c = c.presence_size.ensures ∙ sym (ap size_of c.in-Some.is)

pub returns-in-None : goal.returns-in-None
returns-in-None c = sym (ap size_of c.in-None.is)
