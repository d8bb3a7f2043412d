-- `check_hash::stored` meets its contract: the link's number says slot and side. Assumes nothing.
use native.Mathlib.Omega.{arith}
use Prim.Native.Nat.{◌-◌, ◌/◌}
use mathlib.Core.Path.{sym, ap, subst}
use Rattle.hash.proofs.Laws.{read_whole}
use Rattle.layout.specs.Stores.{Has}
use Rattle.store.proofs.Slots.{slot_within}
use Rattle.check_hash.proofs.Fields.{stored_is}
use Rattle.check_hash.proofs.stored.Goals as goal

pub overflow_sub-k : goal.overflow_sub-k
overflow_sub-k c = omega (arith, c.wide-k.ensures, c.requires.0)

pub slot_of-s-requires : goal.slot_of-s-requires
slot_of-s-requires c =
    let e = ap (λ n. (n - 1) / 2) c.wide-k.ensures.0 in
    slot_within (subst (Has c.args.form c.args.store.now) (sym e) c.requires.1)

pub hash_at-requires : goal.hash_at-requires
hash_at-requires c = omega (arith, c.child_hash.ensures.1)

pub returns : goal.returns
returns c =
    let its = stored_is _ c.args.store.now c.args.link (ap (λ n. n - 1) c.wide-k.ensures.0) c.slot_of-s.ensures.0
    c.child_hash.ensures.0 in
    read_whole c.hash_at.ensures.result_value c.child_hash.ensures.1 its
