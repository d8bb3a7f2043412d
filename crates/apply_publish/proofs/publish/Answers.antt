-- `apply_publish::publish` meets its contract: the number first, then room, then the steps and the header. Assumes nothing.
use Prim.Native.Nat.{◌<◌}
use native.Mathlib.Omega.{arith}
use mathlib.Core.Bool.{false}
use mathlib.Core.Path.{refl}
use Rattle.std.proofs.lemmas.Result.{err_from_is_err_and}
use Rattle.refusal_numbers.proofs.Numbers.{not_zero}
use Rattle.terms.specs.Bits.{Byte}
use Rattle.terms.proofs.Lists.{all_of}
use Rattle.apply_place.proofs.Changing.{changed_stored, stored_accepted}
use Rattle.promises.proofs.Calls.{sound_long}
use Rattle.apply_answer.proofs.Refusing.{is_above, has_room}
use Rattle.apply_ready.proofs.Ready.{stored}
use Rattle.apply_answer.specs.Answers.{applied_says}
use Rattle.apply_publish.proofs.Outcomes.{refused_18}
use Rattle.apply_publish.proofs.Publishing.{first_time, second_time, no_room, published}
use Rattle.apply_publish.proofs.publish.Goals as goal

pub latest_of-latest-requires : goal.latest_of-latest-requires
latest_of-latest-requires c = omega (arith, sound_long c.requires.sound)

pub returns-in_err-number_refusal : goal.returns-in_err-number_refusal
unfolding applied_says
returns-in_err-number_refusal c =
    let p = err_from_is_err_and c.from_residual.result c.from_residual.ensures.1 in
    rw (p.1, p.2) (refused_18 c.args.number c.requires c.latest_of-latest.ensures c.in_err-number_refusal.ensures (not_zero c.in_err-number_refusal.field-0.0))

pub root_version-old-requires : goal.root_version-old-requires
root_version-old-requires c =
    let b = all_of Byte c.args.store.now 0 (λ i _. omega (arith, c.slice_known-1.given i)) in
    stored c.requires b

pub guess_all-requires : goal.guess_all-requires
guess_all-requires c =
    let b = all_of Byte c.args.store.now 0 (λ i _. omega (arith, c.slice_known-1.given i)) in
    stored c.requires b

pub at_root-needs-requires : goal.at_root-needs-requires
at_root-needs-requires c =
    let above : c.latest_of-latest.result < c.args.number = is_above c.args.number c.latest_of-latest.result c.in_ok-number_refusal.ensures refl in
    let b = all_of Byte c.args.store.now 0 (λ i _. omega (arith, c.slice_known-1.given i)) in
    let d = all_of Byte c.args.batch.now 0 (λ i _. omega (arith, c.shared_slice_known-1.given i)) in
    first_time c.requires b d c.latest_of-latest.ensures above c.top-top.ensures c.root_version-old.ensures false

pub count_free-requires : goal.count_free-requires
count_free-requires c = changed_stored c.at_root-needs.ensures.bytes

pub returns-in_err-room_refusal : goal.returns-in_err-room_refusal
unfolding applied_says
returns-in_err-room_refusal c =
    let above : c.latest_of-latest.result < c.args.number = is_above c.args.number c.latest_of-latest.result c.in_ok-number_refusal.ensures refl in
    let b = all_of Byte c.args.store.now 0 (λ i _. omega (arith, c.slice_known-1.given i)) in
    let d = all_of Byte c.args.batch.now 0 (λ i _. omega (arith, c.shared_slice_known-1.given i)) in
    let p = err_from_is_err_and c.from_residual-in_err-room_refusal.result c.from_residual-in_err-room_refusal.ensures.1 in
    rw (p.1, p.2) (no_room c.requires b d c.latest_of-latest.ensures above c.top-top.ensures c.root_version-old.ensures c.at_root-needs.ensures c.count_free.ensures c.in_err-room_refusal.ensures (not_zero c.in_err-room_refusal.field-0.0))

pub at_root-made-requires : goal.at_root-made-requires
at_root-made-requires c =
    let above : c.latest_of-latest.result < c.args.number = is_above c.args.number c.latest_of-latest.result c.in_ok-number_refusal.ensures refl in
    let b = all_of Byte c.args.store.now 0 (λ i _. omega (arith, c.slice_known-1.given i)) in
    let d = all_of Byte c.args.batch.now 0 (λ i _. omega (arith, c.shared_slice_known-1.given i)) in
    second_time c.requires b d c.latest_of-latest.ensures above c.top-top.ensures c.root_version-old.ensures c.at_root-needs.ensures

pub put_latest-requires : goal.put_latest-requires
put_latest-requires c = omega (arith, stored_accepted (changed_stored c.at_root-made.ensures.bytes))

pub made_answer-requires : goal.made_answer-requires
made_answer-requires c = omega (arith, c.at_root-needs.ensures.reach.starts.few)

pub returns : goal.returns
returns c =
    let above : c.latest_of-latest.result < c.args.number = is_above c.args.number c.latest_of-latest.result c.in_ok-number_refusal.ensures refl in
    let b = all_of Byte c.args.store.now 0 (λ i _. omega (arith, c.slice_known-1.given i)) in
    let d = all_of Byte c.args.batch.now 0 (λ i _. omega (arith, c.shared_slice_known-1.given i)) in
    published c.requires b d c.latest_of-latest.ensures above c.top-top.ensures c.root_version-old.ensures c.at_root-needs.ensures c.count_free.ensures (has_room c.count_free.result c.at_root-needs.result.reach c.in_ok-room_refusal.ensures refl) c.child_of-says.result c.at_root-made.ensures c.put_latest.ensures c.child_of-says.ensures c.made_answer.ensures
