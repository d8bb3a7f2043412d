-- `palette_c::palette_by` meets its contract: the length that is told is that of all proofs together. Assumes nothing.
use Rattle.palette_rules.specs.Palette.{length_together}
use Rattle.meaning.proofs.Told.{exported_as}
use Rattle.prove.specs.Parts.{proved_says}
use Rattle.prove_told.proofs.Lengths.{told_sized}
use Rattle.palette_c.proofs.palette_by.Goals as goal

pub returns : goal.returns
unfolding proved_says
returns c = let d = c.palette-proved.ensures in record { exported = told_sized length_together _ (exported_as d.answer c.told.ensures); proofs = d.bytes }
