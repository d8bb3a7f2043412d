-- `verify_cut::put_refusal` meets its contract. The number, and zero bytes. Assumes nothing.
use Rattle.verify_cut.proofs.Answers.{refusal_written}
use Rattle.verify_cut.proofs.put_refusal.Goals as goal

pub returns : goal.returns
returns c = refusal_written c.args.out.now _ c.args.number c.requires.0 c.clear.ensures
