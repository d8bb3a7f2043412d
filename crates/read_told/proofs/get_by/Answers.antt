-- `read_told::get_by` meets its contract: the case of the read decides the number and the bytes. Assumes nothing.
use mathlib.Core.Path.{ap, ◌∙◌}
use Rattle.std.specs.Prelude.{Ok}
use Rattle.read_told.proofs.Exported.{key_refused, key_present, key_absent}
use Rattle.read_told.proofs.get_by.Goals as goal

pub returns-in-Err : goal.returns-in-Err
returns-in-Err c = rw c.code.ensures (key_refused c.get-read.ensures c.args.found.now c.in-Err.is)

pub returns-in-Ok-Some : goal.returns-in-Ok-Some
returns-in-Ok-Some c = key_present c.get-read.ensures c.args.found.now (c.in-Ok-Some.is ∙ ap Ok (rw c.in-Ok-Some.is at c.in-Ok-Some.field-0-is)) c.put_found.ensures

pub returns-in-Ok-None : goal.returns-in-Ok-None
returns-in-Ok-None c =
    key_absent c.get-read.ensures c.args.found.now c.no_hash.result (c.in-Ok-None.is ∙ ap Ok (rw c.in-Ok-None.is at c.in-Ok-None.field-0-is)) c.no_hash.ensures
    c.put_found-in-Ok-None.ensures
