-- `move_fill::fill` meets its contract, by the form. Assumes nothing.
use Prim.Native.Nat.{ℕ}
use lib.ListN.{length-replicate}
use Rattle.move_fill.proofs.Backing.{back_able, back_done}
use Rattle.move_fill.proofs.Overing.{countable, over_able, over_done}
use Rattle.move_fill.proofs.fill.Goals as goal

pub count_leaves-requires : goal.count_leaves-requires
count_leaves-requires c = (countable c.in-Plain.is c.requires.0 c.requires.1, length-replicate {0} {A = ℕ} 32768 0)

pub put_store-requires : goal.put_store-requires
put_store-requires c = over_able c.in-Plain.is c.requires.0 c.requires.1 c.count_leaves.ensures

pub put_store-requires-in-Counted : goal.put_store-requires-in-Counted
put_store-requires-in-Counted c = back_able c.in-Counted.is c.requires.0 c.requires.1 32768

pub returns-in-Plain : goal.returns-in-Plain
returns-in-Plain c = over_done c.in-Plain.is c.requires.0 c.requires.1 c.count_leaves.ensures c.put_store.ensures

pub returns-in-Counted : goal.returns-in-Counted
returns-in-Counted c = back_done c.in-Counted.is c.requires.0 c.requires.1 32768 c.put_store-in-Counted.ensures
