-- Which bytes are outside the profile, by their form; and what the call leaves. Assumes nothing.
use Prim.Native.Nat.{ℕ}
use mathlib.Core.Path.{◌≡◌, refl, sym, ◌∙◌}
use mathlib.Core.Bool.{true, false, not}
use Rattle.terms.specs.Bits.{Bytes, Byte, All}
use Rattle.terms.specs.Records.{absence}
use Rattle.meaning.specs.Calls.{refused}
use Rattle.meaning.proofs.Told.{exported_as, exported_refusal, seen}
use Rattle.proofrecords.specs.ProofBytes.{is_presence, presence_in, is_absence, absence_in, proof_in}
use Rattle.pocket.specs.Pocket.{short_path, small}
use Rattle.verify_rules.specs.Verify.{Verifies}
use Rattle.verify_rules.specs.Reading.{verified, pocket_verified, outside}
use Rattle.verify_rules.specs.Pocket.{PocketVerifies}
use Rattle.verify_rules.proofs.Told.{told_exactly, pocket_verifies}

-- which bytes are outside, by their form
module _ (x : Bytes) where
  pub presence_outside : is_presence x ≡ true → not (short_path (presence_in x)) ≡ outside x
  unfolding outside proof_in
  presence_outside p = rw p refl

  pub absence_outside : is_presence x ≡ false → is_absence x ≡ true → not (small (absence (absence_in x))) ≡ outside x
  unfolding outside proof_in
  absence_outside p a = rw (p, a) refl

  pub off_form_inside : is_presence x ≡ false → is_absence x ≡ false → false ≡ outside x
  unfolding outside proof_in
  off_form_inside p a = rw (p, a) refl

-- what the call leaves: a refusal nothing, else what the full check leaves
module _ {root k x : Bytes} (bytes : All Byte x) where
  pub pocket_refused : {n : ℕ} (f : Bytes) → refused n ≡ pocket_verified root k x → PocketVerifies root k x f n f
  pocket_refused f e = pocket_verifies bytes (exported_refusal e)

  pub as_full : {f g : Bytes} {r : ℕ} → pocket_verified root k x ≡ verified root k x → Verifies root k x f r g → PocketVerifies root k x f r g
  as_full {f} e w =
      let d = (told_exactly root k x bytes (seen w).answer).0 (seen w).said ∙ sym e in
      pocket_verifies bytes (exported_as d (seen w).exported)
