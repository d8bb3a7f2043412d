-- `read_counts_c::put_grant` meets its contract: two hashes fill 64 bytes. Assumes nothing.
use mathlib.Core.Path.{refl}
use Rattle.read_counts_c.proofs.Exported.{grant_put}
use Rattle.read_counts_c.proofs.put_grant.Goals as goal

pub returns : goal.returns
returns c = grant_put c.args.key c.args.value c.args.grant.now _ _ _ _ c.requires c.put_hash.ensures refl c.put_hash-2.ensures refl
