-- The hash of a record from its bytes: a leaf's grant is its key and its value, an inner record's hashes follow its children's versions.
-- Assumes nothing.
use native.Mathlib.Omega.{arith}
use mathlib.Core.Path.{◌≡◌, ap, ap₂, sym, ◌∙◌}
use mathlib.Core.Bool.{true, false}
use lib.ListN.{length, take, drop}
use lib.Seq.{take_all}
use Rattle.terms.specs.declared.Form.TheVariants.{Counted as counted}
use Rattle.terms.specs.Bits.{Bytes, Side}
use Rattle.meaning.specs.Reading.{body_hash}
use Rattle.nodehash.specs.Node.{leaf_hash, inner_hash}
use Rattle.layout.specs.Sizes.{slot_size}
use Rattle.layout.specs.Slots.{grant_in, kid_on, is_leaf}
use Rattle.layout.proofs.Headers.{size_long}
use Rattle.slots.proofs.Parts.{grant_key, grant_value, kid_long}
use Rattle.read_step.specs.Walk.{body_in}
use Rattle.read_step.proofs.Seeing.{leaf_body_lem, inner_body_lem}

-- a child's hash, read from its 32 bytes
whole : {y l : Bytes} (x : Bytes) → length x ≡ slot_size counted → (b : Side) → y ≡ (kid_on b x).hash → l ≡ take 32 (drop 0 y) → l ≡ (kid_on b x).hash
whole {y} x n b p f = f ∙ take_all 32 y (omega (arith, ap length p ∙ kid_long x (size_long counted x n) b)) ∙ p

module _ {h : Bytes} (x : Bytes) where
  pub leaf_hashed : {g : Bytes} → is_leaf x ≡ true → g ≡ grant_in x → h ≡ leaf_hash (take 32 g) (drop 32 g) →
      h ≡ body_hash leaf_hash inner_hash (body_in x)
  leaf_hashed e f k =
      k
      ∙ ap (λ y. leaf_hash (take 32 y) (drop 32 y)) f
      ∙ ap₂ leaf_hash (grant_key x) (grant_value x)
      ∙ ap (body_hash leaf_hash inner_hash) (sym (leaf_body_lem x e))

  pub inner_hashed : {y z l r : Bytes} → is_leaf x ≡ false → length x ≡ slot_size counted → y ≡ (kid_on false x).hash → z ≡ (kid_on true x).hash → l ≡ take 32 (drop 0 y) →
      r ≡ take 32 (drop 0 z) → h ≡ inner_hash l r → h ≡ body_hash leaf_hash inner_hash (body_in x)
  inner_hashed e n p q f g k =
      k ∙ ap₂ inner_hash (whole x n false p f) (whole x n true q g) ∙ ap (body_hash leaf_hash inner_hash) (sym (inner_body_lem x e))
