-- `palette::give_many` meets its contract: guesses that each lead are what a scan finds. Assumes nothing.
use Rattle.layout.specs.Stores.{store_of}
use Rattle.palette.proofs.Answering.{led_own}
use Rattle.palette.proofs.give_many.Goals as goal

pub give_near-requires : goal.give_near-requires
give_near-requires c = (c.requires.0, c.requires.1, led_own (store_of c.args.store.now) c.children.new.kids c.children.ensures)
