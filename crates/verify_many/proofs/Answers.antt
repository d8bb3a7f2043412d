-- The 34 bytes of an answer as they are written. Assumes nothing.
use Prim.Native.Nat.{◌<◌}
use native.Mathlib.Omega.{arith}
use mathlib.Core.Path.{◌≡◌}
use mathlib.Core.Bool.{Bool, true, false, cond, ◌&&◌}
use mathlib.Core.List.{◌∷◌}
use mathlib.Core.Option.{Option, none, some}
use lib.ListN.{length}
use borrow.Author.Tests.{eq-eqb}
use Rattle.terms.specs.Bits.{Bytes, same_bytes}
use Rattle.terms.specs.Fields.{zero_bytes}
use Rattle.terms.specs.Records.{Proof, presence, absence, zeros}
use Rattle.meaning.specs.Calls.{refused, accepted}
use Rattle.meaning.specs.Reading.{Verdict, present, absent}
use Rattle.meaning.specs.Answers.{number_of}
use Rattle.meaning.specs.Checking.{leads_to, absence_holds}
use Rattle.hash.specs.declared.Hash.{Hash}
use Rattle.hash.specs.Hash.{hash_bytes}
use Rattle.nodehash.specs.Node.{leaf_hash, inner_hash}
use Rattle.proofrecords.specs.ProofBytes.{proof_in}
use Rattle.verify_rules.specs.Reading.{judged, verified}
use Rattle.verify_cut.proofs.Answers.{hash_long}

pub zeros_written : (xs : Bytes) → length xs ≡ 34 → zero_bytes (length xs) ≡ 0 ∷ (0 ∷ zeros)
unfolding zero_bytes zeros
zeros_written xs l = rw l

small_cond : (b : Bool) (v : Verdict) → number_of (cond b (accepted v) (refused 11)) < 256
small_cond true v = omega arith
small_cond false v = omega arith

pub judged_small : (root k : Bytes) (o : Option Proof) → number_of (judged root k o) < 256
judged_small root k none = omega arith
judged_small root k (some (presence p)) = small_cond (same_bytes k p.key && leads_to leaf_hash inner_hash root p) (present p.value)
judged_small root k (some (absence a)) = small_cond (same_bytes k a.key && absence_holds leaf_hash inner_hash root k a.leftward a.rightward) absent

pub by_judging : (root : Hash) (k x : Bytes) → length k ≡ 32 → verified (hash_bytes root) k x ≡ judged (hash_bytes root) k (proof_in x)
unfolding verified
by_judging root k x l = rw (eq-eqb (length (hash_bytes root)) 32 (hash_long root), eq-eqb (length k) 32 l)
