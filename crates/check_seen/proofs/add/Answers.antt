use Rattle.check_seen.proofs.Laws.{set_added}
use Rattle.check_seen.proofs.add.Goals as goal

-- src/lib.rt:19:1
pub returns : goal.returns
returns c = set_added c.args.sums.now c.args.c c.args.life _ c.more.ensures
