-- `palette_near::found_by` meets its contract: what is sighted leads to itself. Assumes nothing.
use Prim.Native.Nat.{◌+◌}
use native.Mathlib.Omega.{arith}
use mathlib.Core.Path.{subst}
use Rattle.indexed.specs.Index.{node_by}
use Rattle.place.specs.Place.{place_of}
use Rattle.layout.specs.Stores.{store_of}
use Rattle.sights.specs.Sights.{Sighted}
use Rattle.palette_near.specs.Near.{LedBy}
use Rattle.palette_near.proofs.Near.{sighted_leads, none_leads}
use Rattle.palette_near.proofs.found_by.Goals as goal

pub returns-in_default : goal.returns-in_default
returns-in_default c =
    let a = c.args in
    none_leads a.store.now a.index.now

pub overflow_add-result : goal.overflow_add-result
overflow_add-result c =
    let leads : LedBy c.args.store.now c.args.index.now (c.in-Matches.j + 1) = let a = c.args in
    sighted_leads a.store.now a.index.now c.requires.0 a.version (place_of a.place) c.in-Matches.j
    (subst (Sighted (store_of a.store.now).slots (node_by a.index.now (store_of a.store.now) a.version (place_of a.place))) c.in-Matches.is c.look_by-sight.ensures) in
    record { fits = omega (arith, leads.most) }

pub returns : goal.returns
returns c =
    let leads : LedBy c.args.store.now c.args.index.now (c.in-Matches.j + 1) = let a = c.args in
    sighted_leads a.store.now a.index.now c.requires.0 a.version (place_of a.place) c.in-Matches.j
    (subst (Sighted (store_of a.store.now).slots (node_by a.index.now (store_of a.store.now) a.version (place_of a.place))) c.in-Matches.is c.look_by-sight.ensures) in
    leads
