-- The check of a proof in form as the code makes it: one test after the other, each of them the definition's.
-- Assumes nothing.
use mathlib.Core.Path.{◌≡◌, ◌∙◌}
use mathlib.Core.Bool.{Bool, true, false, cond}
use lib.ListN.{length}
use borrow.Author.Tests.{eq-eqb, ne_eqb}
use Rattle.terms.specs.Bits.{Bytes}
use Rattle.terms.specs.Fields.{slice}
use Rattle.terms.specs.Records.{presence, absence}
use Rattle.meaning.specs.Calls.{refused, accepted}
use Rattle.meaning.specs.Reading.{present, absent}
use Rattle.meaning.specs.Checking.{checked}
use Rattle.nodehash.specs.Node.{leaf_hash, inner_hash}
use Rattle.proofrecords.specs.ProofBytes.{is_presence, presence_in, is_absence, absence_in, proof_in}
use Rattle.verify_holds.specs.Holding.{presence_holds, absence_proof_holds}
use Rattle.verify_rules.specs.Reading.{judged, verified}
use Rattle.verify.proofs.Judged as by_form

module _ (root k x : Bytes) where
  -- the answer where a proof holds, else 11
  pub presence_answer : {b : Bool} {h v : Bytes} → h ≡ root → v ≡ slice 40 32 x → b ≡ presence_holds h k x →
      cond b (accepted (present v)) (refused 11) ≡ checked leaf_hash inner_hash root k (presence (presence_in x))
  unfolding presence_in
  presence_answer e w d = rw (d, w, e)

  pub absence_answer : {b : Bool} {h : Bytes} → h ≡ root →
      b ≡ absence_proof_holds h k x →
      cond b (accepted absent) (refused 11) ≡ checked leaf_hash inner_hash root k (absence (absence_in x))
  absence_answer e d = rw (d, e)

  -- 12, then 10, then what the proof says
  pub root_off : (length root ≡ 32 → ⊥) → verified root k x ≡ refused 12
  unfolding verified
  root_off f = rw (ne_eqb (length root) 32 f)

  module _ (r : length root ≡ 32) where
    pub key_off : (length k ≡ 32 → ⊥) → verified root k x ≡ refused 12
    unfolding verified
    key_off f = rw (eq-eqb (length root) 32 r, ne_eqb (length k) 32 f)

    module _ (e : length k ≡ 32) where
      sizes : verified root k x ≡ judged root k (proof_in x)
      unfolding verified
      sizes = rw (eq-eqb (length root) 32 r, eq-eqb (length k) 32 e)

      pub as_presence : is_presence x ≡ true → verified root k x ≡ checked leaf_hash inner_hash root k (presence (presence_in x))
      as_presence p = sizes ∙ by_form.as_presence root k x p

      pub as_absence : is_presence x ≡ false → is_absence x ≡ true → verified root k x ≡ checked leaf_hash inner_hash root k (absence (absence_in x))
      as_absence p a = sizes ∙ by_form.as_absence root k x p a

      pub off_form : is_presence x ≡ false → is_absence x ≡ false → verified root k x ≡ refused 10
      off_form p a = sizes ∙ by_form.off_form root k x p a
