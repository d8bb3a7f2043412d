-- Of two slots, which record stands before the other: the bits first, then the bit count, then the version. And whether a slot of a sound
-- store holds a record. Assumes nothing.
use Prim.Native.Nat.{ℕ, ◌<◌, ◌≤◌}
use native.Mathlib.Omega.{arith}
use mathlib.Core.Path.{◌≡◌, refl, ap, ap₂, sym, ◌∙◌}
use mathlib.Core.Logic.{⊎_elim}
use mathlib.Core.Bool.{Bool, true, false, not, true≢false}
use lib.ListN.{length}
use lib.Dec.{ltb, eqb}
use borrow.Author.Tests.{ltb-true, ltb-false, lt-ltb, eq-eqb, ne_eqb}
use Rattle.terms.specs.declared.Form.TheVariants.{Counted as counted}
use Rattle.terms.specs.Bits.{Bytes, Byte, All, Place, pack, before, same_bytes}
use Rattle.terms.specs.Records.{Body, leaf_body, inner_body, Record, Slot, free, used, spoiled}
use Rattle.terms.specs.Form.{place_limit}
use Rattle.terms.proofs.Tests.{is_false, is_true, bytes_same}
use Rattle.terms.proofs.Order.{before_total}
use Rattle.meaning.specs.Sound.{At}
use Rattle.indexed.specs.Index.{place_before, node_before}
use Rattle.indexed.proofs.Before.{place_itself, before_cases, by_place, by_version, node_once}
use Rattle.indexed.proofs.Packed.{bytes_before, bytes_equal}
use Rattle.layout.specs.Sizes.{slot_size, room_of}
use Rattle.layout.specs.Headers.{size_right}
use Rattle.layout.specs.Slots.{slot_of, count_in, version_in, bits_in}
use Rattle.layout.specs.Stores.{slot_in, slot_no, store_of, Has}
use Rattle.layout.proofs.Headers.{accepted, size_right_of}
use Rattle.store.proofs.Slots.{slots_many, slot_long, slot_bytes_lem, slot_within, slot_is}
use Rattle.lookup.specs.Lookup.{is_used}
use Rattle.lookup.proofs.Matching.{says, version_is, count_is_lem, bits_are, same_packed}
use Rattle.check_pass.specs.Passes.{kind_in}
use Rattle.check_pass.proofs.Records.{free_zero, record_cases, kind_most}
use Rattle.promises.specs.Calls.{SoundBytes}
use Rattle.index_look.specs.Looks.{Told, ToldThere}

limit : (b : Body) → place_limit b ≤ 256
limit (leaf_body k x) = omega arith
limit (inner_body l r) = omega arith

-- what the bytes of a slot say of the record in it
module _ {s : Bytes} {i : ℕ} (has : Has counted s i) (b : All Byte s) (r : Record) (a : At (store_of s) i r) where
  abbrev x : Bytes
  x = slot_in counted i s

  long : length x ≡ slot_size counted
  long = slot_long counted i s (slot_within has)

  whole : All Byte x
  whole = slot_bytes_lem counted i s b

  here : slot_of x ≡ used r
  unfolding At
  here = sym (slot_is has) ∙ a.1

  its_bits : bits_in x ≡ pack 32 r.place
  its_bits = bits_are counted x long whole r here

  its_count : count_in x ≡ length r.place
  unfolding count_in
  its_count = count_is_lem counted x long whole r here

  its_version : version_in x ≡ r.version
  its_version = version_is counted x long whole r here

  short : length r.place ≤ 256
  short = omega (arith, (says {fm = counted} x long whole r here).form.short, limit r.body)

-- of two records at one place the one of the lower version stands before
same_place_told : (v w : ℕ) (p q : Place) → p ≡ q → ltb v w ≡ node_before v p w q
same_place_told v w p q e = go (ltb v w) refl
  where
    go : (b : Bool) → ltb v w ≡ b → b ≡ node_before v p w q
    go true f = sym (by_version v w p q e (ltb-true v w f))
    go false f =
        sym (is_false (node_before v p w q) (λ t.
        ⊎_elim (λ z. true≢false (sym z ∙ (ap (λ y. place_before y q) e ∙ place_itself q))) (λ z. absurd (omega (arith, z.1, ltb-false v w f))) (before_cases v w p q t)))

module _ {s : Bytes} {i j : ℕ} (mine : Has counted s i) (its : Has counted s j) (b : All Byte s) where
  pub by_bits : before (bits_in (slot_in counted i s)) (bits_in (slot_in counted j s)) ≡ true → Told s i j true
  by_bits e q r a d =
      sym (by_place q.version r.version q.place r.place
      (bytes_before q.place r.place (short mine b q a) (short its b r d) (sym (ap₂ before (its_bits mine b q a) (its_bits its b r d)) ∙ e)))

  pub not_by_bits : before (bits_in (slot_in counted j s)) (bits_in (slot_in counted i s)) ≡ true → Told s i j false
  not_by_bits e q r a d =
      sym (node_once r.version q.version r.place q.place
      (by_place r.version q.version r.place q.place
      (bytes_before r.place q.place (short its b r d) (short mine b q a) (sym (ap₂ before (its_bits its b r d) (its_bits mine b q a)) ∙ e))))

  -- of different bits the lower ones stand before
  pub by_order : same_bytes (bits_in (slot_in counted i s)) (bits_in (slot_in counted j s)) ≡ false → (t : Bool) →
      t ≡ before (bits_in (slot_in counted i s)) (bits_in (slot_in counted j s)) → Told s i j t
  by_order n true e = by_bits (sym e)
  by_order n false e =
      not_by_bits (is_true _ (λ f.
      true≢false (sym (bytes_same (bits_in (slot_in counted i s))) ∙ (ap (same_bytes (bits_in (slot_in counted i s))) (before_total (bits_in (slot_in counted i s)) (bits_in (slot_in counted j s)) (sym e) f) ∙ n))))

  module _ {c d : ℕ} (ci : c ≡ count_in (slot_in counted i s)) (di : d ≡ count_in (slot_in counted j s)) where
    pub by_count_lem : (c ≡ d → ⊥) → ToldThere s i j (ltb c d)
    by_count_lem n same q r a e = go (ltb c d) refl
      where
        packed : pack 32 q.place ≡ pack 32 r.place
        packed = sym (its_bits mine b q a) ∙ same ∙ its_bits its b r e

        go : (t : Bool) → ltb c d ≡ t → t ≡ node_before q.version q.place r.version r.place
        go true f =
            let l = ltb-true c d f in
            sym (by_place q.version r.version q.place r.place
            (bytes_equal q.place r.place (short mine b q a) (short its b r e) packed
            ∙ lt-ltb (length q.place) (length r.place) (omega (arith, its_count mine b q a, its_count its b r e))))
        go false f =
            let l = ltb-false c d f in
            let m : d < c = omega (arith, n) in
            sym (node_once r.version q.version r.place q.place
            (by_place r.version q.version r.place q.place
            (bytes_equal r.place q.place (short its b r e) (short mine b q a) (sym packed)
            ∙ lt-ltb (length r.place) (length q.place) (omega (arith, its_count mine b q a, its_count its b r e)))))

    pub by_versions : c ≡ d → {v w : ℕ} → v ≡ version_in (slot_in counted i s) → w ≡ version_in (slot_in counted j s) → ToldThere s i j (ltb v w)
    by_versions f vi wi same q r a e =
        ap₂ ltb (vi ∙ its_version mine b q a) (wi ∙ its_version its b r e)
        ∙ same_place_told q.version r.version q.place r.place
        (same_packed q.place r.place (short mine b q a) (short its b r e)
        (sym (its_count mine b q a) ∙ sym ci ∙ f ∙ di ∙ its_count its b r e)
        (sym (its_bits mine b q a) ∙ same ∙ its_bits its b r e))

module _ {s : Bytes} (w : SoundBytes s) where
  pub sound_size : size_right counted (length s) ≡ true
  sound_size =
      let a = accepted s w.capacity w.oldest w.latest w.headed in
      size_right_of counted (length s) w.capacity a.size a.some a.fits

  pub sound_has : {i : ℕ} → i < room_of counted (length s) → Has counted s i
  sound_has h = record { size = sound_size; inside = h }

  -- a slot of a sound store holds a record exactly if its kind isn't 0
  pub used_by_kind : {i k : ℕ} → All Byte s → i < room_of counted (length s) → k ≡ kind_in (slot_in counted i s) → not (eqb k 0) ≡ is_used (slot_no counted i s)
  used_by_kind {i} {k} b h e = go (slot_no counted i s) refl
    where
      has : Has counted s i
      has = sound_has h

      go : (y : Slot) → slot_no counted i s ≡ y → not (eqb k 0) ≡ is_used y
      go free f =
          ap not (eq-eqb k 0 (e ∙ (free_zero counted (slot_in counted i s) (slot_long counted i s (slot_within has)) (slot_bytes_lem counted i s b) (sym (slot_is has) ∙ f)).1))
      go (used r) f =
          ap not (ne_eqb k 0 (λ z. ⊎_elim (λ l. absurd (omega (arith, l.0))) (λ l. absurd (omega (arith, l.0, kind_most (length (slot_in counted i s)))))
          (record_cases (slot_in counted i s) r (sym (slot_is has) ∙ f))))
      go (spoiled z) f = absurd (w.sound.whole i z (omega (arith, slots_many counted s)) f)
