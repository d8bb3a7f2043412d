-- The hash of a slot's record, by its kind, and the hash that a link stores. Assumes nothing.
use Prim.Native.Nat.{ℕ, ◌-◌, ◌/◌, ◌%◌}
use native.Mathlib.Omega.{arith}
use mathlib.Core.Path.{◌≡◌, refl, ap, ap₂, sym, ◌∙◌}
use mathlib.Core.Logic.{⊎_elim}
use lib.ListN.{length, take, drop}
use lib.Dec.{eqb}
use Rattle.terms.specs.declared.Form.{Form}
use Rattle.terms.specs.Bits.{Bytes}
use Rattle.meaning.specs.Reading.{body_hash}
use Rattle.hash.specs.declared.Hash.{Hash}
use Rattle.hash.specs.Hash.{hash_bytes}
use Rattle.nodehash.specs.Node.{leaf_hash, inner_hash}
use Rattle.layout.specs.Sizes.{leaf_kind}
use Rattle.layout.specs.Slots.{inner_in, grant_in, left_in, right_in, kid_on, record_in}
use Rattle.layout.specs.Stores.{slot_in, Has}
use Rattle.check_slot.proofs.Records.{leaf_hashed}
use Rattle.check_pass.specs.Passes.{kind_in}
use Rattle.check_pass.proofs.Records.{kind_most, record_cases, read_as}
use Rattle.check_hash.specs.Known.{stored_at, HashIs}

module _ {fm : Form} {s : Bytes} {c : ℕ} (h : Has fm s c) {k : ℕ} (kind : k ≡ kind_in (slot_in fm c s)) where
  pub leaf_hash_is : k ≡ leaf_kind → {g : Bytes} → g ≡ grant_in (slot_in fm c s) → (v : Hash) → hash_bytes v ≡ leaf_hash (take 32 g) (drop 32 g) → HashIs fm s c (hash_bytes v)
  unfolding record_in
  leaf_hash_is e g v f r a = ⊎_elim
      (λ w. ap (λ q. body_hash leaf_hash inner_hash q.body) w.1 ∙ leaf_hashed (slot_in fm c s) g v f)
      (λ w. absurd (omega (arith, w.0, kind, e, kind_most (length (slot_in fm c s)))))
      (record_cases (slot_in fm c s) r (read_as h refl r a))

  pub inner_hash_is : (k ≡ leaf_kind → ⊥) → (l m v : Hash) → hash_bytes l ≡ (left_in (slot_in fm c s)).hash → hash_bytes m ≡ (right_in (slot_in fm c s)).hash →
      hash_bytes v ≡ inner_hash (hash_bytes l) (hash_bytes m) → HashIs fm s c (hash_bytes v)
  unfolding record_in inner_in
  inner_hash_is e l m v f g w r a = ⊎_elim
      (λ u. absurd (e (kind ∙ u.0)))
      (λ u. ap (λ q. body_hash leaf_hash inner_hash q.body) u.1 ∙ ap₂ inner_hash (sym f) (sym g) ∙ sym w)
      (record_cases (slot_in fm c s) r (read_as h refl r a))

-- the hash of a child, on the side that the link's number says
pub stored_is : (fm : Form) (s : Bytes) (w : ℕ) {k : ℕ} → k ≡ w - 1 → {x : Bytes} → x ≡ slot_in fm (k / 2) s → {y : Bytes} → y ≡ (kid_on (eqb (k % 2) 1) x).hash → y ≡ stored_at fm s w
stored_is fm s w {k} number here e =
    e ∙ ap (λ z. (kid_on (eqb (k % 2) 1) z).hash) here ∙ ap (λ n. (kid_on (eqb (n % 2) 1) (slot_in fm (n / 2) s)).hash) number
