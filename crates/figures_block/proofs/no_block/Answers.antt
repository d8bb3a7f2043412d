-- `figures_block::no_block` meets its contract: it has no version. Assumes nothing.
use mathlib.Core.Path.{refl}
use Rattle.layout.specs.Stores.{store_of}
use Rattle.figures_block.proofs.Splitting.{no_version}
use Rattle.figures_block.proofs.no_block.Goals as goal

pub returns : goal.returns
returns c = λ s list. no_version s list _ (store_of s).slots (record { leaves = refl; inners = refl; longest = refl; sum = refl })
