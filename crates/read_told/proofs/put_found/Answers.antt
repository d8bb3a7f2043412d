-- `read_told::put_found` meets its contract: the first byte, and the hash over the other 32. Assumes nothing.
use Prim.Native.Nat.{suc}
use native.Mathlib.Omega.{arith}
use mathlib.Core.Path.{ap, sym, ◌∙◌}
use lib.ListN.{length, length-set}
use Rattle.hash.proofs.Laws.{hash_whole}
use Rattle.read_told.proofs.Exported.{found_put}
use Rattle.read_told.proofs.put_found.Goals as goal

pub slice_bounds-put_hash-end : goal.slice_bounds-put_hash-end
slice_bounds-put_hash-end c = simp length-set (omega (arith, c.requires))

pub shape_of-found : goal.shape_of-found
shape_of-found c =
    ap length (found_put c.args.value c.args.present c.args.found.now c.requires c.put_hash.ensures)
    ∙ ap suc (hash_whole c.args.value).0
    ∙ sym c.requires

pub returns : goal.returns
returns c = found_put c.args.value c.args.present c.args.found.now c.requires c.put_hash.ensures
