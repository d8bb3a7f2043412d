-- `pocket_prove::grants_pocket_prove` meets its contract: the length that is told is the proof's. Assumes nothing.
use Rattle.meaning.specs.Proving.{proof_length}
use Rattle.meaning.proofs.Told.{exported_as}
use Rattle.prove.specs.Parts.{proved_says}
use Rattle.prove_told.proofs.Lengths.{told_sized}
use Rattle.pocket_prove.proofs.grants_pocket_prove.Goals as goal

pub returns : goal.returns
unfolding proved_says
returns c = let d = c.pocket_prove-proved.ensures in record { exported = told_sized proof_length _ (exported_as d.answer c.told.ensures); proof = d.bytes }
