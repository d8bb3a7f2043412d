-- `apply_inserts::one_insert` meets its contract: key and value lie next to each other. Assumes nothing.
use Rattle.apply_inserts.proofs.Inserts.{one_says}
use Rattle.apply_inserts.proofs.one_insert.Goals as goal

pub returns : goal.returns
returns c =
    let g = c.grant-g.ensures in
    one_says c.args.run.now c.args.i _ _ _ c.requires.0 c.requires.1 g.0 g.1 c.hash_at-key.ensures.result_value c.hash_at-value.ensures.result_value
