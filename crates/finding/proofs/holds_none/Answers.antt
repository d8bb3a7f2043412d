-- `finding::holds_none` meets its contract: what is seen at the root tells it. Assumes nothing.
use Rattle.forged_truth.proofs.Reading.{sound_size}
use Rattle.finding.proofs.Rooted.{gap_holds_none, stopped_holds, leaf_holds, inner_holds}
use Rattle.finding.proofs.holds_none.Goals as goal

pub root-seen-requires : goal.root-seen-requires
root-seen-requires c = sound_size c.requires.sound

pub returns-in-Gap : goal.returns-in-Gap
returns-in-Gap c = gap_holds_none c.requires c.root-seen.result c.root-seen.ensures c.in-Gap.is

pub returns-in-Stopped : goal.returns-in-Stopped
returns-in-Stopped c = stopped_holds c.requires c.root-seen.result c.root-seen.ensures c.in-Stopped.is

pub returns-in-Leaf : goal.returns-in-Leaf
returns-in-Leaf c = leaf_holds c.requires c.root-seen.result c.root-seen.ensures c.in-Leaf.is

pub returns-in-Inner : goal.returns-in-Inner
returns-in-Inner c = inner_holds c.requires c.root-seen.result c.root-seen.ensures c.in-Inner.is
