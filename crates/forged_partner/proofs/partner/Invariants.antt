-- `forged_partner::partner` meets its contract: no slot passed is such a node. Assumes nothing.
use Rattle.terms.specs.declared.Form.TheVariants.{Counted as counted}
use Rattle.store.proofs.Scans.{Scan}
use Rattle.forged_message.specs.Parts.{message_bytes}
use Rattle.forged_partner.proofs.Scanning.{Ahead}
use Rattle.forged_partner.proofs.partner.Given as goal

abbrev pub invariant-loop-i : goal.invariant-loop-i
invariant-loop-i l = Scan counted l.store (Ahead l.store l.version (message_bytes l.m)) l.n l.i
