-- `verify_cut::put_value` meets its contract. 0, 1, and the value. Assumes nothing.
use Prim.Native.Nat.{ℕ, suc}
use native.Mathlib.Omega.{arith}
use mathlib.Core.Path.{ap, sym, ◌∙◌}
use lib.ListN.{length, length-set}
use Rattle.hash.specs.Hash.{hash_bytes}
use Rattle.verify_cut.proofs.Answers.{value_written, hash_long}
use Rattle.verify_cut.proofs.put_value.Goals as goal

pub slice_bounds-put_hash-end : goal.slice_bounds-put_hash-end
slice_bounds-put_hash-end c = simp (length-set, length-set) (omega arith)

pub shape_of-out : goal.shape_of-out
shape_of-out c =
    let p = c.put_hash in
    ap length (value_written c.args.out.now (hash_bytes c.args.hash) p.new.s c.requires p.ensures) ∙ ap (λ (n : ℕ). suc (suc n)) (hash_long c.args.hash) ∙ sym c.requires

pub returns : goal.returns
returns c = value_written c.args.out.now (hash_bytes c.args.hash) _ c.requires c.put_hash.ensures
