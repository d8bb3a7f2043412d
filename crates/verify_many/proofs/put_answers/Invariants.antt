-- `verify_many::put_answers` meets its contract. One answer more is written with each turn. Assumes nothing.
use Rattle.hash.specs.Hash.{hash_bytes}
use Rattle.verify_many.proofs.Writing.{Written}
use Rattle.verify_many.proofs.put_answers.Given as goal

abbrev pub invariant-loop-i : goal.invariant-loop-i
invariant-loop-i l = Written (hash_bytes l.root) l.keys l.p l.initial.out l.n l.out l.a l.i
