-- `check_quick::linked` meets its contract: at the end of both passes each record is tied and covered. Assumes nothing.
use native.Mathlib.Omega.{arith}
use lib.ListN.{replicate}
use Rattle.check_hash.proofs.Knowing.{known_none}
use Rattle.check_quick.proofs.Fine.{zeros, room_fits, all_linked}
use Rattle.check_quick.proofs.linked.Goals as goal

pub hash_ahead-requires : goal.hash_ahead-requires
hash_ahead-requires c = (c.requires.keeps.size, known_none _ c.args.store.now (replicate 16384 0) (zeros 16384))

pub overflow_mul-j : goal.overflow_mul-j
overflow_mul-j c = let h = room_fits c.args.store.now (record { size = c.requires.keeps.size; many = c.slot_count-n.ensures }) in omega (arith, h, c.if-j-n.true)

pub offset_bounds-guess-j : goal.offset_bounds-guess-j
offset_bounds-guess-j c = let h = room_fits c.args.store.now (record { size = c.requires.keeps.size; many = c.slot_count-n.ensures }) in omega (arith, h, c.if-j-n.true)

pub bounds-guess-j : goal.bounds-guess-j
bounds-guess-j c = let h = room_fits c.args.store.now (record { size = c.requires.keeps.size; many = c.slot_count-n.ensures }) in omega (arith, h, c.if-j-n.true)

pub overflow_mul-j-then-j-n : goal.overflow_mul-j-then-j-n
overflow_mul-j-then-j-n c = let h = room_fits c.args.store.now (record { size = c.requires.keeps.size; many = c.slot_count-n.ensures }) in omega (arith, h, c.if-j-n.true)

pub overflow_add-j : goal.overflow_add-j
overflow_add-j c = let h = room_fits c.args.store.now (record { size = c.requires.keeps.size; many = c.slot_count-n.ensures }) in omega (arith, h, c.if-j-n.true)

pub offset_bounds-guess-j-then-j-n : goal.offset_bounds-guess-j-then-j-n
offset_bounds-guess-j-then-j-n c = let h = room_fits c.args.store.now (record { size = c.requires.keeps.size; many = c.slot_count-n.ensures }) in omega (arith, h, c.if-j-n.true)

pub bounds-guess-j-then-j-n : goal.bounds-guess-j-then-j-n
bounds-guess-j-then-j-n c = let h = room_fits c.args.store.now (record { size = c.requires.keeps.size; many = c.slot_count-n.ensures }) in omega (arith, h, c.if-j-n.true)

pub returns : goal.returns
returns c = all_linked _ c.args.store.now _ _ (zeros 16384) (c.tie_all-j.ensures (omega (arith, c.if-j-n.false, c.slot_count-n.ensures))) c.covered-i.result (omega (arith, c.if-i-n.false, c.slot_count-n.ensures)) c.covered-i.ensures
