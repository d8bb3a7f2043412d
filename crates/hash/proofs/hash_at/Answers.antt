-- Four numbers read one after the other are the hash of their 32 bytes, which are bytes since the slice holds them.
-- Assumes nothing.
use mathlib.Core.Path.{ap, ◌∙◌}
use native.Mathlib.Omega.{arith}
use lib.ListN.{take, drop}
use Rattle.hash.specs.Hash.{hash_bytes}
use Rattle.hash.proofs.Laws.{hash_of_numbers, whole_part, bytes_of_hash}
use Rattle.hash.proofs.hash_at.Goals as goal

pub returns : goal.returns
returns c =
    let a = c.args in
    let x = take 32 (drop a.at a.s.now) in
    let e = hash_of_numbers a.s.now a.at (omega arith) c.number_at.ensures c.number_at-2.ensures
    c.number_at-3.ensures c.number_at-4.ensures in
    record { value = e; result_value = ap hash_bytes e ∙ bytes_of_hash x (whole_part a.s.now a.at (omega arith) (λ i. omega (arith, c.shared_slice_known-1.given i))) }
