-- `message_record::put_presence` meets its contract: head, key, value, steps. Assumes nothing.
use mathlib.Core.Path.{ap, ◌∙◌}
use Rattle.fields.specs.Written.{written}
use Rattle.terms.specs.Fields.{le, slice}
use Rattle.message_record.proofs.Records.{few_steps, presence_put}
use Rattle.message_record.proofs.put_presence.Goals as goal

pub presence_size-size-requires : goal.presence_size-size-requires
presence_size-size-requires c = few_steps c.requires.0

pub returns : goal.returns
unfolding slice
returns c = presence_put c.args.at c.args.room.now c.put_u32.new.s c.put_u16.new.s c.put_u16-2.new.s c.put_digest.new.room c.put_digest-2.new.room c.put_steps.new.room c.requires.0 c.requires.1 (c.put_u32.ensures ∙ ap (λ n. written c.args.at (le 4 n) c.args.room.now) c.presence_size-size.ensures) c.put_u16.ensures c.put_u16-2.ensures c.put_digest.ensures c.put_digest-2.ensures c.put_steps.ensures
