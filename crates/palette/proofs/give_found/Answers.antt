-- `palette::give_found` meets its contract: what was found leads. Assumes nothing.
use native.Mathlib.Omega.{arith}
use Rattle.layout.specs.Stores.{store_of}
use Rattle.palette_near.proofs.Near.{led_zeros}
use Rattle.palette_rules.proofs.Keys.{whole_list}
use Rattle.palette.proofs.give_found.Goals as goal

pub follow_all-requires : goal.follow_all-requires
follow_all-requires c =
    let a = c.args in
    let keys = whole_list a.keys.now c.requires.1 in
    (c.requires.0, omega (arith, keys.whole, keys.few), led_zeros (store_of a.store.now) a.index.now 32768)
