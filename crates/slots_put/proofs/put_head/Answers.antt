-- `slots_put::put_head` meets its contract: its fields, written one after the other, are the head of a record. Assumes nothing.
use mathlib.Core.Path.{sym, ◌∙◌}
use native.Mathlib.Omega.{arith}
use lib.ListN.{length-take, length-drop}
use Rattle.place.proofs.Places.{proper_whole, proper_count}
use Rattle.slots_put.proofs.Writing.{head_put}
use Rattle.slots_put.proofs.put_head.Goals as goal

pub copy-requires : goal.copy-requires
copy-requires c = proper_whole c.args.place c.requires.1 ∙ simp (length-take, length-drop) (omega arith)

pub returns : goal.returns
returns c =
    let a = c.args in
    let p = c.requires.1 in
    head_put a.len a.kind _ a.version a.retired a.s.now c.requires.0.0 (sym (proper_count a.place p)) (c.copy.ensures ∙ p.trimmed)
    c.put_u32.ensures c.put_u16.ensures c.put_u16-2.ensures c.put_u32-2.ensures c.put_u32-3.ensures
