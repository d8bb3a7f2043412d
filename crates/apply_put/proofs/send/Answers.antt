-- `apply_put::send` meets its contract, by the cases of the answer. Assumes nothing.
use Rattle.apply_put.proofs.Putting.{sent_refusal, sent_made}
use Rattle.apply_put.proofs.send.Goals as goal

pub returns-in-Err : goal.returns-in-Err
returns-in-Err c = let a = c.args in rw c.number.ensures (sent_refusal a.applied a.answer.now c.in-Err.is)

pub returns-in-Ok : goal.returns-in-Ok
returns-in-Ok c =
    let a = c.args in
    sent_made a.applied a.answer.now c.in-Ok.is c.put_answer.ensures
