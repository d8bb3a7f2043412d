-- `palette_c::grants_palette` meets its contract: a table without entries is the scan. Assumes nothing.
use lib.ListN.{length}
use Rattle.palette.proofs.Answering.{palette_plain}
use Rattle.palette_c.proofs.Exported.{palette_as, palette_told}
use Rattle.palette_c.proofs.grants_palette.Goals as goal

pub returns : goal.returns
returns c =
    let a = c.args in
    palette_told (palette_as (palette_plain a.store.now a.version a.keys.now (length a.room.now)) c.palette_by.ensures)
