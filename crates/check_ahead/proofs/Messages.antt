-- The message of a slot's record, by its kind. Assumes nothing.
use Prim.Native.Nat.{ℕ}
use native.Mathlib.Omega.{arith}
use mathlib.Core.Path.{◌≡◌, refl, ap, ap₂, sym, ◌∙◌}
use mathlib.Core.Logic.{⊎_elim}
use mathlib.Core.List.{◌∷◌, ◌++◌}
use lib.ListN.{length, take, drop}
use lib.Seq.{take_all}
use Rattle.terms.specs.declared.Form.{Form}
use Rattle.terms.specs.Bits.{Bytes}
use Rattle.meaning.specs.Reading.{body_hash}
use Rattle.hash.specs.declared.Hash.{Hash}
use Rattle.hash.specs.Hash.{hash_bytes}
use Rattle.sha256.specs.Sha256.{sha256}
use Rattle.nodehash.specs.Node.{leaf_hash, inner_hash}
use Rattle.layout.specs.Sizes.{leaf_kind}
use Rattle.layout.specs.Slots.{record_in, leaf_in, inner_in, value_inside, grant_in, left_in, right_in}
use Rattle.layout.specs.Stores.{slot_in, Has}
use Rattle.layout.proofs.Headers.{size_long}
use Rattle.slots.proofs.Parts.{grant_key, grant_value, value_long}
use Rattle.store.proofs.Slots.{slot_within, slot_long}
use Rattle.check_pass.specs.Passes.{kind_in}
use Rattle.check_pass.proofs.Records.{kind_most, record_cases, read_as}
use Rattle.check_hash.specs.Known.{HashIs}

module _ {fm : Form} {s : Bytes} {c : ℕ} (h : Has fm s c) {k : ℕ} (kind : k ≡ kind_in (slot_in fm c s)) where
  long : length (value_inside (slot_in fm c s)) ≡ 32
  long = value_long (slot_in fm c s) (size_long fm (slot_in fm c s) (slot_long fm c s (slot_within h)))

  pub leaf_message_lem : k ≡ leaf_kind → {g : Bytes} → g ≡ grant_in (slot_in fm c s) → (key value : Hash) → hash_bytes key ≡ take 32 g →
      hash_bytes value ≡ take 32 (drop 32 g) → HashIs fm s c (sha256 (1 ∷ (hash_bytes key ++ hash_bytes value)))
  unfolding record_in leaf_in leaf_hash
  leaf_message_lem e g key value f x r a = ⊎_elim
      (λ w. ap (λ q. body_hash leaf_hash inner_hash q.body) w.1 ∙ sym (ap₂ leaf_hash
      (f ∙ ap (take 32) g ∙ grant_key (slot_in fm c s)) (x ∙ ap (λ y. take 32 (drop 32 y)) g ∙ ap (take 32) (grant_value (slot_in fm c s)) ∙ take_all 32 (value_inside (slot_in fm c s)) (omega (arith, long)))))
      (λ w. absurd (omega (arith, w.0, kind, e, kind_most (length (slot_in fm c s)))))
      (record_cases (slot_in fm c s) r (read_as h refl r a))

  pub inner_message_lem : (k ≡ leaf_kind → ⊥) → (l m : Hash) → hash_bytes l ≡ (left_in (slot_in fm c s)).hash → hash_bytes m ≡ (right_in (slot_in fm c s)).hash →
      HashIs fm s c (sha256 (0 ∷ (hash_bytes l ++ hash_bytes m)))
  unfolding record_in inner_in inner_hash
  inner_message_lem e l m f g r a = ⊎_elim
      (λ u. absurd (e (kind ∙ u.0)))
      (λ u. ap (λ q. body_hash leaf_hash inner_hash q.body) u.1 ∙ ap₂ inner_hash (sym f) (sym g))
      (record_cases (slot_in fm c s) r (read_as h refl r a))
