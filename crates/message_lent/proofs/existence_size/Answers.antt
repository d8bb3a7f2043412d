-- `message_lent::existence_size` meets its contract: key, value, leaf op, path. Assumes nothing.
use Rattle.proofrecords.specs.ProofBytes.{presence_in}
use Rattle.message_lent.proofs.Lengths.{existence_sum}
use Rattle.message_lent.proofs.existence_size.Goals as goal

pub returns : goal.returns
returns c =
    let a = c.args in
    existence_sum a.key a.value c.field_size.result c.field_size-2.result c.path_size.result (presence_in a.p.now) c.field_size.ensures c.field_size-2.ensures c.path_size.ensures c.requires.1 c.requires.2
