-- `script_says::calls::bytes_of` meets its contract: 32 bytes are written over 32. Assumes nothing.
use mathlib.Core.Path.{refl}
use lib.ListN.{replicate}
use Rattle.hash.proofs.Laws.{put_over}
use Rattle.script_says.proofs.calls.bytes_of.Goals as goal

pub returns : goal.returns
returns c = put_over c.args.h (replicate 32 0) _ refl c.put_hash.ensures
