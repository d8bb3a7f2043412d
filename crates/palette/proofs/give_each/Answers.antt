-- `palette::give_each` meets its contract, whether what stands on the keys' ways is found first or not. Assumes nothing.
use Rattle.layout.specs.Stores.{store_of}
use Rattle.read_near.proofs.Near.{led_none}
use Rattle.palette.proofs.give_each.Goals as goal

pub give_measured-requires : goal.give_measured-requires
give_measured-requires c = (c.requires.0, c.requires.1, led_none (store_of c.args.store.now) c.args.index.now)
