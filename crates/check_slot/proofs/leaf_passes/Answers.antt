-- `check_slot::leaf_passes` meets its contract: alone, its key, above. Assumes nothing.
use mathlib.Core.Path.{◌∙◌}
use Rattle.place.specs.Place.{place_of}
use Rattle.layout.specs.Slots.{leaf_in, counts_in}
use Rattle.layout.specs.Stores.{store_in}
use Rattle.check_slot.proofs.Records.{fails_alone, fails_body, passes_counts, leaf_counted, leaf_body_lem, leaf_hashed, leaf_kind_lem}
use Rattle.check_slot.proofs.leaf_passes.Goals as goal

pub returns-then-not-alone_right : goal.returns-then-not-alone_right
returns-then-not-alone_right c =
    fails_alone _ c.args.store.now c.args.head (leaf_in c.args.s.now) (counts_in c.args.s.now) c.alone_right.ensures
    c.if-not-alone_right.true

pub returns-then-not-begins : goal.returns-then-not-begins
returns-then-not-begins c =
    fails_body _ c.args.store.now c.args.head (leaf_in c.args.s.now) (counts_in c.args.s.now) c.alone_right.ensures
    c.if-not-alone_right.false
    (leaf_body_lem c.args.s.now (store_in c.args.form c.args.store.now) (place_of c.args.head.place) c.key_of.ensures.0
    c.begins.ensures ∙ c.if-not-begins.true)

pub returns : goal.returns
returns c =
    passes_counts _ c.args.store.now c.args.head (leaf_in c.args.s.now) (counts_in c.args.s.now) c.alone_right.ensures
    c.if-not-alone_right.false
    (leaf_body_lem c.args.s.now (store_in c.args.form c.args.store.now) (place_of c.args.head.place) c.key_of.ensures.0
    c.begins.ensures ∙ c.if-not-begins.false)
    (leaf_counted (store_in c.args.form c.args.store.now) c.args.head c.args.s.now (counts_in c.args.s.now) c.requires.2)
    (c.above_right.ensures (leaf_in c.args.s.now) (counts_in c.args.s.now) (leaf_kind_lem c.args.s.now)
    (leaf_hashed c.args.s.now c.grant_of.ensures.0 c.leaf_hash.result c.leaf_hash.ensures))
