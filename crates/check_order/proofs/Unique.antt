-- Where a table's entries ascend and each record's slot is among them, no two records share version and place. Assumes nothing.
use Prim.Native.Nat.{ℕ, zero, suc, ◌+◌, ◌-◌, ◌<◌}
use native.Mathlib.Omega.{arith}
use mathlib.Core.Path.{◌≡◌, refl, ap, ap₂, sym, ◌∙◌, subst}
use mathlib.Core.Logic.{◌⊎◌, inl, inr}
use mathlib.Core.Bool.{true}
use mathlib.Core.List.{List, [], ◌∷◌, ◌++◌}
use lib.ListN.{length, get_or}
use Rattle.terms.specs.declared.Form.{Form}
use Rattle.terms.specs.Bits.{Bytes, Byte, All, before, pack}
use Rattle.terms.specs.Records.{Record}
use Rattle.terms.proofs.Order.{before_trans, before_irrefl}
use Rattle.meaning.specs.Sound.{At}
use Rattle.layout.specs.Slots.{count_in}
use Rattle.layout.specs.Headers.{size_right}
use Rattle.layout.specs.Stores.{slot_in, store_in, Has}
use Rattle.lookup.proofs.Matching.{count_is_lem, bits_are}
use Rattle.store.proofs.Slots.{slots_many}
use Rattle.check_pass.proofs.Records.{version_of_lem, read_long, read_bytes, read_as}
use Rattle.check_order.specs.Order.{node_key, Holding, ByNode, key_no, Ascending, Named}

-- the key of a record's slot is its node's
node_key_lem : (fm : Form) (x : Bytes) (r : Record) → Holding fm x r → node_key x ≡ length r.place ∷ (pack 32 r.place ++ (r.version ∷ []))
unfolding node_key count_in
node_key_lem fm x r h =
    let v = version_of_lem x r h.here in
    rw (bits_are fm x h.long h.bytes r h.here, count_is_lem fm x h.long h.bytes r h.here, v)

-- The key of the check is one that the node decides.
pub node_key_by_node : (fm : Form) → ByNode fm node_key
node_key_by_node fm x y r q h k v p = node_key_lem fm x r h ∙ ap₂ (λ b w. length b ∷ (pack 32 b ++ (w ∷ []))) p v ∙ sym (node_key_lem fm y q k)

module _ (fm : Form) (key : Bytes → Bytes) (s : Bytes) (t : List ℕ) (m : ℕ) (up : Ascending fm key s t m) where
  abbrev entry : ℕ → Bytes
  entry k = key_no fm key s (get_or t k 0)

  -- an entry comes before each later one
  further : (k d : ℕ) → suc (k + d) < m → before (entry k) (entry (suc (k + d))) ≡ true
  further k zero h = subst (λ n. before (entry k) (entry (suc n)) ≡ true) (omega arith) (up k (omega arith))
  further k (suc d) h =
      before_trans (entry k) (entry (suc (k + d))) (entry (suc (k + suc d)))
      (further k d (omega arith))
      (subst (λ n. before (entry (suc (k + d))) (entry n) ≡ true) (omega arith) (up (suc (k + d)) (omega arith)))

  distinct : (k l : ℕ) → k < l → l < m → entry k ≡ entry l → ⊥
  distinct k l h g e =
      let w = further k (l - suc k) (omega arith) in
      before_irrefl (entry k) (subst (λ z. before (entry k) z ≡ true) (ap entry (omega arith) ∙ sym e) w)

  one_entry : (k l : ℕ) → k < m → l < m → entry k ≡ entry l → k ≡ l
  one_entry k l a b e = go (order k l)
    where
      order : (k l : ℕ) → (k < l) ⊎ ((l < k) ⊎ (k ≡ l))
      order zero zero = inr (inr refl)
      order zero (suc l) = inl (omega arith)
      order (suc k) zero = inr (inl (omega arith))
      order (suc k) (suc l) = up_one (order k l)
        where
          up_one : (k < l) ⊎ ((l < k) ⊎ (k ≡ l)) → (suc k < suc l) ⊎ ((suc l < suc k) ⊎ (suc k ≡ suc l))
          up_one (inl h) = inl (omega arith)
          up_one (inr (inl h)) = inr (inl (omega arith))
          up_one (inr (inr h)) = inr (inr (ap suc h))

      go : (k < l) ⊎ ((l < k) ⊎ (k ≡ l)) → k ≡ l
      go (inl h) = absurd (distinct k l h b e)
      go (inr (inl h)) = absurd (distinct l k h a (sym e))
      go (inr (inr h)) = h

  module _ (size : size_right fm (length s) ≡ true) (bytes : All Byte s) where
    holding : (i : ℕ) (r : Record) → At (store_in fm s) i r → Holding fm (slot_in fm i s) r
    unfolding At
    holding i r a =
        let h : Has fm s i = record { size = size; inside = omega (arith, a.0, slots_many fm s) } in
        record { long = read_long h refl; bytes = read_bytes h refl bytes; here = read_as h refl r a }

    -- No two records share version and place.
    pub ascending_unique : ByNode fm key → ((i : ℕ) (r : Record) → At (store_in fm s) i r → Named t m i) →
        (i j : ℕ) (r q : Record) → At (store_in fm s) i r → At (store_in fm s) j q → r.version ≡ q.version → r.place ≡ q.place → i ≡ j
    unfolding key_no
    ascending_unique by named i j r q a c v p =
        let (k, h, e) = named i r a in
        let (l, g, f) = named j q c in
        let same : key_no fm key s i ≡ key_no fm key s j = by (slot_in fm i s) (slot_in fm j s) r q (holding i r a) (holding j q c) v p in
        sym e ∙ ap (λ n. get_or t n 0) (one_entry k l h g (ap (key_no fm key s) e ∙ same ∙ sym (ap (key_no fm key s) f))) ∙ f
