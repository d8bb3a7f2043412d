-- `verify_call::put_present` meets its contract: the first byte and the 32 after it are all 33.
-- Assumes nothing.
use Prim.Native.Nat.{suc}
use mathlib.Core.Path.{ap, sym, ◌∙◌}
use Rattle.hash.specs.Hash.{hash_bytes}
use Rattle.hash.proofs.Laws.{hash_whole}
use Rattle.verify_call.proofs.Boundary.{found_written}
use native.Mathlib.Omega.{arith}
use lib.ListN.{length, length-set}
use Rattle.verify_call.proofs.put_present.Goals as goal

pub slice_bounds-put_hash-end : goal.slice_bounds-put_hash-end
slice_bounds-put_hash-end c = simp length-set (omega arith)

pub shape_of-found : goal.shape_of-found
shape_of-found c =
    let p = c.put_hash in
    ap length (found_written c.args.found.now (hash_bytes c.args.hash) p.new.s c.requires p.ensures) ∙ ap suc (hash_whole c.args.hash).0 ∙ sym c.requires

pub returns : goal.returns
returns c =
    let p = c.put_hash in
    found_written c.args.found.now (hash_bytes c.args.hash) p.new.s c.requires p.ensures
