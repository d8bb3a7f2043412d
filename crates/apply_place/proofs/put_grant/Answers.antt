-- `apply_place::put_grant` meets its contract: two hashes fill 64 bytes. Assumes nothing.
use Rattle.apply_place.proofs.Placing.{two_hashes}
use Rattle.apply_place.proofs.put_grant.Goals as goal

pub returns : goal.returns
returns c = two_hashes c.args.key c.args.value c.args.grant.now _ _ c.requires c.put_hash.ensures c.put_hash-2.ensures
