-- Field by field a slot agrees with a node or doesn't; where it holds a record, exactly if the record is the node. Assumes nothing.
use Prim.Native.Nat.{ℕ}
use native.Mathlib.Omega.{arith}
use mathlib.Core.Path.{◌≡◌, refl, ap, sym, ◌∙◌}
use mathlib.Core.Bool.{Bool, true, false, ◌&&◌, false≢true}
use lib.ListN.{length}
use borrow.Author.Tests.{eqb-true, eq-eqb, ne_eqb}
use Rattle.terms.specs.declared.Form.{Form}
use Rattle.terms.specs.Bits.{Bytes, Byte, All, Place, pack, same_bytes}
use Rattle.terms.specs.Fields.{all_of}
use Rattle.terms.specs.Records.{Record, Slot, free, used, spoiled}
use Rattle.terms.proofs.Tests.{and_true, is_false, same_bytes_lem, bytes_same}
use Rattle.terms.proofs.Fields.{all_of_tests}
use Rattle.meaning.specs.Store.{is_node}
use Rattle.meaning.specs.Sight.{agrees}
use Rattle.meaning.proofs.Finding.{is_node_eq}
use Rattle.place.specs.declared.Place as declared-place
use Rattle.place.specs.Place.{place_of, Proper}
use Rattle.place.proofs.Places.{proper_count}
use Rattle.layout.specs.Sizes.{slot_size}
use Rattle.layout.specs.Slots.{slot_of, count_in, bits_in, version_in}
use Rattle.layout.specs.Stores.{slot_in, slot_no, Has}
use Rattle.store.proofs.Slots.{slot_long, slot_bytes_lem, slot_within, slot_is}
use Rattle.lookup.specs.Lookup.{is_used}
use Rattle.lookup.proofs.Matching.{version_is, count_is_lem, bits_are, is_node_lem, and_false}
use Rattle.agree.specs.Holding.{node_here}

-- by version, bit count and bits, one after the other
module _ (v : ℕ) (p : declared-place.Place) (proper : Proper p) (x : Bytes) where
  packed_bits : p.bits ≡ pack 32 (place_of p)
  unfolding place_of
  packed_bits = proper.trimmed

  pub other_version : (version_in x ≡ v → ⊥) → agrees v (place_of p) x ≡ false
  unfolding agrees all_of
  other_version f = rw (ne_eqb (version_in x) v f)

  pub other_count : version_in x ≡ v → (count_in x ≡ p.count → ⊥) → agrees v (place_of p) x ≡ false
  unfolding agrees all_of
  other_count e f = rw (eq-eqb (version_in x) v e, ne_eqb (count_in x) (length (place_of p)) (λ h. f (h ∙ proper_count p proper)))

  pub by_bits : {b : Bool} → version_in x ≡ v → count_in x ≡ p.count → b ≡ same_bytes (bits_in x) p.bits → agrees v (place_of p) x ≡ b
  unfolding agrees all_of
  by_bits e f g =
      rw (eq-eqb (version_in x) v e, eq-eqb (count_in x) (length (place_of p)) (f ∙ sym (proper_count p proper)))
      (and_true _ ∙ ap (same_bytes (bits_in x)) (sym packed_bits) ∙ sym g)

pub agreed_version : (v : ℕ) (p : Place) (x : Bytes) → agrees v p x ≡ true → version_in x ≡ v
unfolding agrees
agreed_version v p x t = eqb-true (version_in x) v (all_of_tests _ t).0

-- the node that a slot holds
pub its_record : (v : ℕ) (p : Place) (y : Slot) → node_here v p y ≡ true → (r : Record) × (y ≡ used r) × (is_node v p r ≡ true)
its_record v p free e = absurd (false≢true e)
its_record v p (used r) e = (r, refl, e)
its_record v p (spoiled z) e = absurd (false≢true e)

by_slot : (v : ℕ) (p : Place) (c : Bool) (y : Slot) → ((r : Record) → y ≡ used r → is_node v p r ≡ c) → (is_used y && c) ≡ node_here v p y
by_slot v p c free f = refl
by_slot v p c (used r) f = sym (f r refl)
by_slot v p c (spoiled z) f = refl

-- slot i, where it holds a record
module _ {fm : Form} {s : Bytes} {i : ℕ} (has : Has fm s i) (b : All Byte s) (v : ℕ) (p : declared-place.Place) (w : Proper p) where
  abbrev x : Bytes
  x = slot_in fm i s

  long : length x ≡ slot_size fm
  long = slot_long fm i s (slot_within has)

  whole : All Byte x
  whole = slot_bytes_lem fm i s b

  -- that agrees is the node
  pub agreed_node : agrees v (place_of p) x ≡ true → (r : Record) → slot_of x ≡ used r → is_node v (place_of p) r ≡ true
  unfolding agrees count_in
  agreed_node t =
      let (c, (d, (e, _))) = all_of_tests _ t in
      is_node_lem fm x long whole v (place_of p) (omega (arith, w.short, proper_count p w))
      (eqb-true (version_in x) v c) (eqb-true (count_in x) (length (place_of p)) d) (same_bytes_lem (bits_in x) (pack 32 (place_of p)) e)

  -- that is the node agrees
  node_agrees : (r : Record) → slot_of x ≡ used r → is_node v (place_of p) r ≡ true → agrees v (place_of p) x ≡ true
  unfolding count_in
  node_agrees r e n =
      let (a, q) = is_node_eq v (place_of p) r n in
      by_bits v p w x (version_is fm x long whole r e ∙ a) (count_is_lem fm x long whole r e ∙ ap length q ∙ proper_count p w)
      (sym (ap (λ y. same_bytes y p.bits) (bits_are fm x long whole r e ∙ ap (pack 32) q ∙ sym w.trimmed) ∙ bytes_same p.bits))

  pub not_here : agrees v (place_of p) x ≡ false → false ≡ node_here v (place_of p) (slot_no fm i s)
  not_here t =
      sym (and_false (is_used (slot_of x)))
      ∙ by_slot v (place_of p) false (slot_of x) (λ r e. is_false (is_node v (place_of p) r) (λ n. false≢true (sym t ∙ node_agrees r e n)))
      ∙ ap (node_here v (place_of p)) (sym (slot_is has))

  pub by_form : agrees v (place_of p) x ≡ true → is_used (slot_of x) ≡ node_here v (place_of p) (slot_no fm i s)
  by_form t = sym (and_true (is_used (slot_of x))) ∙ by_slot v (place_of p) true (slot_of x) (agreed_node t) ∙ ap (node_here v (place_of p)) (sym (slot_is has))
