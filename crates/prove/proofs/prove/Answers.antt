-- `prove::prove` meets its contract: the key's length, what is tested first, then the proof. Assumes nothing.
use Rattle.std.proofs.lemmas.Result.{err_from_is_err_and}
use Rattle.prove.proofs.Answering.{wrong_key, first_refused, kept_size, kept_proved}
use Rattle.layout.specs.Stores.{store_of}
use Rattle.read_near.proofs.Near.{led_none}
use Rattle.prove.proofs.prove.Goals as goal

pub returns-then-key-ne32 : goal.returns-then-key-ne32
returns-then-key-ne32 c =
    let a = c.args in
    let both = wrong_key a.store.now a.index.now a.version a.key.now a.room.now c.if-key-ne32.true in
    record { answer = both.0; bytes = both.1 }

pub returns-in_err-open : goal.returns-in_err-open
returns-in_err-open c =
    let a = c.args in
    let p = err_from_is_err_and c.from_residual.result c.from_residual.ensures.1 in
    let both = first_refused a.store.now a.index.now a.version a.key.now a.room.now c.if-key-ne32.false _ c.in_err-open.ensures in
    record { answer = rw (p.1, p.2) both.0; bytes = both.1 }

pub plan_of-requires : goal.plan_of-requires
plan_of-requires c =
    let a = c.args in
    (kept_size a.store.now a.version c.in_ok-open.ensures, c.if-key-ne32.false, led_none (store_of a.store.now) a.index.now)

pub returns : goal.returns
returns c =
    let a = c.args in
    let both = kept_proved a.store.now a.index.now a.version a.key.now a.room.now c.if-key-ne32.false c.in_ok-open.ensures c.plan_of.ensures c.give.ensures in
    record { answer = both.0; bytes = both.1 }
