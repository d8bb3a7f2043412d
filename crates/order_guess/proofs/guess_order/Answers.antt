-- `order_guess::guess_order` is safe and ends. Assumes nothing.
use native.Mathlib.Omega.{arith}
use lib.ListN.{length}
use Rattle.layout.proofs.Headers.{size_says}
use Rattle.order_guess.proofs.guess_order.Goals as goal

pub sort-many-requires : goal.sort-many-requires
sort-many-requires c = (record { size = c.requires; many = c.slot_count-n.ensures }, omega (arith, c.slot_count-n.ensures, size_says _ (length c.args.store.now) c.requires))
