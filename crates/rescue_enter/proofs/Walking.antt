-- The nodes met are entered: the node here, then those on both sides. Assumes nothing.
use Prim.Native.Nat.{ℕ, zero, suc, ◌+◌, ◌-◌, ◌<◌, ◌≤◌}
use native.Mathlib.Omega.{arith}
use mathlib.Core.Path.{◌≡◌, refl, ap, ap₂, sym, ◌∙◌, subst}
use mathlib.Core.Bool.{true}
use mathlib.Core.List.{List}
use lib.ListN.{length}
use Rattle.terms.specs.declared.Form.TheVariants.{Counted as counted}
use Rattle.terms.specs.Bits.{Bytes, Byte, All, Side, left, right, Place, longer}
use Rattle.terms.specs.Records.{Record, Slot, free, used}
use Rattle.terms.proofs.Members.{in_get_d}
use Rattle.meaning.specs.Store.{find}
use Rattle.histories.proofs.Slots.{Has as HasRecord}
use Rattle.histories.proofs.Standing.{Formed}
use Rattle.place.specs.declared.Place as place
use Rattle.place.specs.Place.{place_of, Proper, Grown}
use Rattle.layout.specs.Sizes.{room_of}
use Rattle.layout.specs.Headers.{size_right}
use Rattle.layout.specs.Stores.{store_of, slot_no, Has}
use Rattle.store.proofs.Slots.{slots_many}
use Rattle.std.specs.declared.option.Option as option
use Rattle.std.specs.Prelude.{Some, None}
use Rattle.rescue_rules.specs.Joining.{kid_of}
use Rattle.rescue_rules.specs.Entering.{LowestAt, Put, Entered}
use Rattle.rescue_laws.proofs.Entered.{entered_same, entered_end, entered_step}
use Rattle.rescue_look.specs.Look.{LowestIn}
use Rattle.rescue_look.proofs.Looking.{its_form}
use Rattle.rescue_enter.specs.Enter.{Target, Held, Puts, Entering, Enters}

-- the records of bytes are in form
slots_formed : (s : Bytes) → size_right counted (length s) ≡ true → All Byte s → Formed (store_of s).slots
slots_formed s z b r h =
    let k = in_get_d (store_of s).slots free (used r) h in
    its_form s b k.0 (record { size = z; inside = omega (arith, k.1, slots_many counted s) }) r k.2

-- what was found is held
pub held_of : (s : Bytes) (z : size_right counted (length s) ≡ true) (v : ℕ) (p : Place) (f : option.Option ℕ) → LowestIn (store_of s).slots v p f → Held s f
held_of s z v p (Some i) h = (record { size = z; inside = omega (arith, h.0, slots_many counted s) }, (h.1.0, h.1.1.at))
held_of s z v p None h = tt

module _ (s : Bytes) (bytes : All Byte s) (n : ℕ) (p : place.Place) (a b : ℕ) where
  abbrev S : List Slot
  S = (store_of s).slots

  -- the same version
  pub enters_same : {t : Bytes} → Entering s t p → a ≡ b → Enters s n p a b t t
  enters_same {t} h e = record {
    target = h.target;
    entered = entered_same S (slots_formed s h.target.size bytes) n (256 - p.count) a b (place_of p) (store_of t).slots e;
  }

  module _ (f : a ≡ b → ⊥) {t t₁ : Bytes} (h : Entering s t p) {here : option.Option ℕ} (low : LowestIn S a (place_of p) here) (put : Puts s here n t t₁) where
    formed : Formed S
    formed = slots_formed s h.target.size bytes

    its_put : Put S n a (place_of p) (store_of t).slots (store_of t₁).slots
    its_put = put.puts a (place_of p) low

    -- at the place of a whole key
    pub enters_end : 256 ≤ p.count → Enters s n p a b t t₁
    enters_end k = record {
      target = put.target;
      entered = subst (λ m. Entered m S n a b (place_of p) (store_of t).slots (store_of t₁).slots) (none_left p.count k)
          (entered_end S formed n a b (place_of p) (store_of t).slots (store_of t₁).slots f its_put);
    }
      where
        none_left : (c : ℕ) → 256 ≤ c → 0 ≡ 256 - c
        none_left c k = omega arith

    module _ (short : p.count < 256) where
      -- one side
      side : (c : Side) {q : place.Place} → Grown c p q → {x y : ℕ} → x ≡ kid_of c (find a (place_of p) S) → y ≡ kid_of c (find b (place_of p) S) →
          {u v : Bytes} → Enters s n q x y u v →
          Entered (255 - p.count) S n (kid_of c (find a (place_of p) S)) (kid_of c (find b (place_of p) S)) (longer c (place_of p)) (store_of u).slots (store_of v).slots
      side c {q} g {x} {y} kx ky {u} {v} e =
          subst (λ k. Entered (255 - p.count) S n (kid_of c (find a (place_of p) S)) k (longer c (place_of p)) (store_of u).slots (store_of v).slots) ky
          (subst (λ k. Entered (255 - p.count) S n k y (longer c (place_of p)) (store_of u).slots (store_of v).slots) kx
          (subst (λ k. Entered (255 - p.count) S n x y k (store_of u).slots (store_of v).slots) g.place
          (subst (λ k. Entered k S n x y (place_of q) (store_of u).slots (store_of v).slots) (one_less p.count q.count g.count) e.entered)))
        where
          one_less : (c d : ℕ) → d ≡ c + 1 → 256 - d ≡ 255 - c
          one_less c d e = omega arith

      pub enters_both : {l r : place.Place} → Grown left p l → Grown right p r → {w x y z : ℕ} → w ≡ kid_of left (find a (place_of p) S) →
          x ≡ kid_of left (find b (place_of p) S) → y ≡ kid_of right (find a (place_of p) S) → z ≡ kid_of right (find b (place_of p) S) →
          {t₂ t₃ : Bytes} → Enters s n l w x t₁ t₂ → Enters s n r y z t₂ t₃ → Enters s n p a b t t₃
      enters_both gl gr kw kx ky kz {t₂} {t₃} e₁ e₂ = record {
        target = e₂.target;
        entered = subst (λ m. Entered m S n a b (place_of p) (store_of t).slots (store_of t₃).slots) (one_more p.count short)
            (entered_step S formed n (255 - p.count) a b (place_of p) (store_of t).slots (store_of t₁).slots (store_of t₂).slots (store_of t₃).slots f its_put
            (side left gl kw kx e₁) (side right gr ky kz e₂));
      }
        where
          one_more : (c : ℕ) → c < 256 → suc (255 - c) ≡ 256 - c
          one_more c k = omega arith
