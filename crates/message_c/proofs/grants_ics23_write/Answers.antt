-- `message_c::grants_ics23_write` meets its contract: the case of the answer decides the number, the room and the four bytes. Assumes nothing.
use Rattle.message_c.proofs.Exported.{write_refused, write_given}
use native.Mathlib.Omega.{arith}
use borrow.Author.Rules.{rules}
use Rattle.hash.proofs.Digits.{all_bytes}
use Rattle.messages.specs.Lending.{LentBytes}
use Rattle.message_rules.specs.Answers.{lent_of}
use Rattle.message_c.proofs.grants_ics23_write.Goals as goal

pub returns-in-Err : goal.returns-in-Err
returns-in-Err c =
    let lent-bytes : let a = c.args in
    LentBytes (lent_of a.asked.now a.key1.now a.value1.now a.key2.now a.value2.now) = let a = c.args in
    record {
      asked_bytes = all_bytes a.asked.now (λ i. omega (arith, c.shared_slice_known-2-1.given i));
      first_key = all_bytes a.key1.now (λ i. omega (arith, c.shared_slice_known-3-1.given i));
      first_value = all_bytes a.value1.now (λ i. omega (arith, c.shared_slice_known-4-1.given i));
      second_key = all_bytes a.key2.now (λ i. omega (arith, c.shared_slice_known-5-1.given i));
      second_value = all_bytes a.value2.now (λ i. omega (arith, c.shared_slice_known-6-1.given i));
    } in
    let a = c.args in
    rw c.number.ensures (write_refused (all_bytes a.proof.now (λ i. omega (arith, c.shared_slice_known-1.given i))) lent-bytes c.write-wrote.ensures a.length.now c.in-Err.is)

pub returns-in-Ok : goal.returns-in-Ok
returns-in-Ok c =
    let lent-bytes : let a = c.args in
    LentBytes (lent_of a.asked.now a.key1.now a.value1.now a.key2.now a.value2.now) = let a = c.args in
    record {
      asked_bytes = all_bytes a.asked.now (λ i. omega (arith, c.shared_slice_known-2-1.given i));
      first_key = all_bytes a.key1.now (λ i. omega (arith, c.shared_slice_known-3-1.given i));
      first_value = all_bytes a.value1.now (λ i. omega (arith, c.shared_slice_known-4-1.given i));
      second_key = all_bytes a.key2.now (λ i. omega (arith, c.shared_slice_known-5-1.given i));
      second_value = all_bytes a.value2.now (λ i. omega (arith, c.shared_slice_known-6-1.given i));
    } in
    let a = c.args in
    write_given (all_bytes a.proof.now (λ i. omega (arith, c.shared_slice_known-1.given i))) lent-bytes c.write-wrote.ensures a.length.now c.in-Ok.is (search rules) c.put_u32.ensures
