-- The answer by the form of a proof. Assumes nothing.
use mathlib.Core.Path.{◌≡◌}
use mathlib.Core.Bool.{true, false}
use Rattle.terms.specs.Bits.{Bytes}
use Rattle.terms.specs.Records.{presence, absence}
use Rattle.meaning.specs.Calls.{refused}
use Rattle.meaning.specs.Checking.{checked}
use Rattle.nodehash.specs.Node.{leaf_hash, inner_hash}
use Rattle.proofrecords.specs.ProofBytes.{is_presence, presence_in, is_absence, absence_in, proof_in}
use Rattle.verify_rules.specs.Reading.{judged}

module _ (root k x : Bytes) where
  pub as_presence : is_presence x ≡ true → judged root k (proof_in x) ≡ checked leaf_hash inner_hash root k (presence (presence_in x))
  unfolding proof_in
  as_presence p = rw p

  pub as_absence : is_presence x ≡ false → is_absence x ≡ true → judged root k (proof_in x) ≡ checked leaf_hash inner_hash root k (absence (absence_in x))
  unfolding proof_in
  as_absence p a = rw (p, a)

  pub off_form : is_presence x ≡ false → is_absence x ≡ false → judged root k (proof_in x) ≡ refused 10
  unfolding proof_in
  off_form p a = rw (p, a)
