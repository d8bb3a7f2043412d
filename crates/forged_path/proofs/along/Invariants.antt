-- `forged_path::along` meets its contract: what all messages name, those from step i on name. Assumes nothing.
use Prim.Native.Nat.{◌-◌}
use mathlib.Core.Path.{◌≡◌}
use Rattle.sha256.specs.Sha256.{sha256}
use Rattle.proofrecords.specs.ProofBytes.{steps_in}
use Rattle.proofrecords.proofs.Lying.{from_step}
use Rattle.forgery.specs.Messages.{upwards}
use Rattle.forged_message.specs.Parts.{message_bytes}
use Rattle.forged_path.specs.Along.{nodes_in, looked, along_path}
use Rattle.forged_path.proofs.along.Given as goal

abbrev pub invariant-loop-i : goal.invariant-loop-i
invariant-loop-i l =
    looked (nodes_in l.version l.store) (upwards sha256 (message_bytes l.m) (steps_in (l.n - l.i) (from_step l.i l.p)))
    ≡ along_path (nodes_in l.version l.store) l.n l.p
