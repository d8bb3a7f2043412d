-- The slot beside 3 in 02's words, over any bytes: a slot in form whose fields agree matches, so where none matches the lowest spoilt slot that
-- agrees is the lowest used one. Assumes nothing.
use Prim.Native.Nat.{ℕ, ◌<◌, ◌≤◌}
use native.Mathlib.Omega.{arith}
use mathlib.Core.Path.{◌≡◌, refl, ap, sym, ◌∙◌, subst}
use mathlib.Core.Logic.{◌↔◌, ◌⊎◌, inl, inr}
use mathlib.Core.Bool.{Bool, true, false, ◌&&◌, not, true≢false}
use mathlib.Core.List.{[], ◌∷◌}
use mathlib.Core.Option.{Option, none, some-ne-none}
use lib.ListN.{length, get_or, replicate}
use lib.Dec.{eqb, leb}
use borrow.Author.Tests.{eqb-true, le-leb, lt-leb}
use Rattle.terms.specs.declared.Form.TheVariants.{Counted as counted}
use Rattle.terms.specs.Bits.{Bytes, Byte, All, Place}
use Rattle.terms.specs.Fields.{all_zero, zero_bytes}
use Rattle.terms.specs.Heads.{count_in, version_in, since_in}
use Rattle.terms.specs.Records.{Record, free, used, spoiled}
use Rattle.terms.proofs.Tests.{and_left, and_right, is_false}
use Rattle.meaning.specs.Store.{is_node, is_root, find, root_of}
use Rattle.meaning.proofs.Finding.{Lowest, miss, hit, lowest_is, hits}
use Rattle.ways.specs.Ways.{Agrees, AgreesRoot, SpoiltIn}
use Rattle.layout.specs.Sizes.{slot_size, room_of}
use Rattle.layout.specs.Headers.{size_right}
use Rattle.layout.specs.Slots.{slot_of, leaf_in, inner_in, record_in}
use Rattle.layout.specs.Stores.{slot_in, store_of, Has}
use Rattle.layout.proofs.Slots.{SlotCases, are_free, are_leaf, are_inner, are_spoiled, slot_cases}
use Rattle.store.proofs.Slots.{slot_long, slot_bytes_lem, slot_within, slot_is, slots_many}
use Rattle.lookup.specs.Lookup.{is_used}
use Rattle.lookup_root.specs.Roots.{root_here}
use Rattle.lifetime.specs.Lifetime.{covers}
use Rattle.lookup.proofs.Matching.{is_node_lem}
use Rattle.lookup_root.proofs.Rooting.{at_top}
use Rattle.demands.specs.Words.{LowestUsed}

-- bytes that are all zero
zeros_of : (x : Bytes) → all_zero x ≡ true → x ≡ replicate (length x) 0
zeros_of [] e = refl
zeros_of (b ∷ x) e =
    let z = eqb-true b 0 (and_left (eqb b 0) (all_zero x) e) in
    ap (◌∷ x) z ∙ ap (0 ∷◌) (zeros_of x (and_right (eqb b 0) (all_zero x) e))

not_zero_lem : (x : Bytes) → length x ≡ slot_size counted → (x ≡ zero_bytes (slot_size counted) → ⊥) → all_zero x ≡ false
unfolding zero_bytes
not_zero_lem x l n = is_false (all_zero x) (λ e. n (zeros_of x e ∙ ap (λ m. replicate m 0) l))

zero_not : (x : Bytes) → all_zero x ≡ false → x ≡ zero_bytes (slot_size counted) → ⊥
unfolding zero_bytes
zero_not x e z = true≢false (sym (ap all_zero z) ∙ e)

-- bytes that are spoilt
spoilt_says : (x y : Bytes) → slot_of x ≡ spoiled y → (x ≡ y) × (all_zero x ≡ false)
spoilt_says x y e = go (slot_cases x)
  where
    go : SlotCases x → (x ≡ y) × (all_zero x ≡ false)
    go (are_free z f) = let k : free ≡ spoiled y = sym f ∙ e in let n : ◌≡◌ {A = ℕ} 0 1 = cc in absurd (omega arith)
    go (are_leaf z t f) = let k : used (record_in x (leaf_in x)) ≡ spoiled y = sym f ∙ e in let n : ◌≡◌ {A = ℕ} 0 1 = cc in absurd (omega arith)
    go (are_inner z n t f) = let k : used (record_in x (inner_in x)) ≡ spoiled y = sym f ∙ e in let n : ◌≡◌ {A = ℕ} 0 1 = cc in absurd (omega arith)
    go (are_spoiled z n m f) = let k : spoiled x ≡ spoiled y = sym f ∙ e in let w : x ≡ y = cc in (w, z)

says_spoilt : (x : Bytes) → all_zero x ≡ false → ((r : Record) → slot_of x ≡ used r → ⊥) → slot_of x ≡ spoiled x
says_spoilt x e f = go (slot_cases x)
  where
    go : SlotCases x → slot_of x ≡ spoiled x
    go (are_free z g) = absurd (true≢false (sym z ∙ e))
    go (are_leaf z t g) = absurd (f _ g)
    go (are_inner z n t g) = absurd (f _ g)
    go (are_spoiled z n m g) = g

-- where no slot in form whose fields agree stands, the lowest spoilt slot that agrees is the lowest used one
module _ (s : Bytes) (size : size_right counted (length s) ≡ true) (agree : Bytes → Type 0)
    (none_matches : (j : ℕ) (r : Record) → Has counted s j → slot_of (slot_in counted j s) ≡ used r → agree (slot_in counted j s) → ⊥) where
  has : (j : ℕ) → j < room_of counted (length s) → Has counted s j
  has j h = record { size = size; inside = h }

  spoilt_at : (j : ℕ) → (h : j < room_of counted (length s)) → (slot_in counted j s ≡ zero_bytes (slot_size counted) → ⊥) → agree (slot_in counted j s) → get_or (store_of s).slots j free ≡ spoiled (slot_in counted j s)
  spoilt_at j h u a =
      let x = slot_in counted j s in
      slot_is (has j h) ∙ says_spoilt x (not_zero_lem x (slot_long counted j s (slot_within (has j h))) u) (λ r e. none_matches j r (has j h) e a)

  pub named_in_words : (i : ℕ) → SpoiltIn (store_of s) agree i ↔ LowestUsed s agree i
  named_in_words i = (there, back)
    where
      there : SpoiltIn (store_of s) agree i → LowestUsed s agree i
      there w =
          let inside : i < room_of counted (length s) = rw (slots_many counted s) at w.inside in
          let says = spoilt_says (slot_in counted i s) w.bytes (sym (slot_is (has i inside)) ∙ w.here) in
          record {
            inside = inside;
            used = zero_not (slot_in counted i s) says.1;
            agrees = subst agree (sym says.0) w.agrees;
            lowest = λ j h u a. let k : j < room_of counted (length s) = omega arith in w.lowest j (slot_in counted j s) h (spoilt_at j k u a) a;
          }

      back : LowestUsed s agree i → SpoiltIn (store_of s) agree i
      back w = record {
        bytes = slot_in counted i s;
        inside = rw (slots_many counted s) w.inside;
        here = spoilt_at i w.inside w.used w.agrees;
        agrees = w.agrees;
        lowest = λ j y h e a.
            let k : j < room_of counted (length s) = omega (arith, w.inside) in
            let says = spoilt_says (slot_in counted j s) y (sym (slot_is (has j k)) ∙ e) in
            w.lowest j h (zero_not (slot_in counted j s) says.1) (subst agree (sym says.0) a);
      }

-- a lifetime by its fields
covered : {v : ℕ} (from since : ℕ) → from ≤ v → (since ≡ 0) ⊎ (v < since) → covers from since v ≡ true
unfolding covers
covered {v} from since h (inl z) = rw (le-leb from v h, z)
covered {v} from since h (inr l) = rw (le-leb from v h, lt-leb since v l) (off (leb 1 since))
  where
    off : (d : Bool) → not (d && false) ≡ true
    off true = refl
    off false = refl

module _ (s : Bytes) (size : size_right counted (length s) ≡ true) (bytes : All Byte s) (v : ℕ) where
  -- A node: the slot named is the lowest used one whose version, bit count and bits fields agree.
  pub spoilt_node_in_words : (p : Place) → length p ≤ 256 → find v p (store_of s).slots ≡ none → (i : ℕ) →
      SpoiltIn (store_of s) (Agrees v p) i ↔ LowestUsed s (Agrees v p) i
  unfolding count_in
  spoilt_node_in_words p short None-found = named_in_words s size (Agrees v p) (λ j r h e a. no_node j r h e (hits (store_of s).slots v p) None-found
      (is_node_lem counted (slot_in counted j s) (slot_long counted j s (slot_within h)) (slot_bytes_lem counted j s bytes) v p short a.0 a.1 a.2 r e))
    where
      no_node : (j : ℕ) (r : Record) → Has counted s j → slot_of (slot_in counted j s) ≡ used r → {o : Option Record} → Lowest (store_of s).slots (is_node v p) o → o ≡ none →
          is_node v p r ≡ true → ⊥
      no_node j r h e (miss f) z t = true≢false (sym t ∙ f j r (rw (slots_many counted s) h.inside) (slot_is h ∙ e))
      no_node j r h e (hit i q l g n) z t = some-ne-none q z

  -- A root: the lowest used one that agrees by empty place and a lifetime that covers the version.
  pub spoilt_root_in_words : root_of (store_of s) v ≡ none → (i : ℕ) → SpoiltIn (store_of s) (AgreesRoot v) i ↔ LowestUsed s (AgreesRoot v) i
  unfolding root_of
  spoilt_root_in_words None-found = named_in_words s size (AgreesRoot v) (λ j r h e a. no_root_lem j r h e (lowest_is (is_root v) (store_of s).slots) None-found (is_root_lem j r h e a))
    where
      lives : (x : Bytes) → AgreesRoot v x → covers (version_in x) (since_in x) v ≡ true
      lives x a = covered (version_in x) (since_in x) a.2 a.3

      is_root_lem : (j : ℕ) (r : Record) → Has counted s j → slot_of (slot_in counted j s) ≡ used r → AgreesRoot v (slot_in counted j s) → is_root v r ≡ true
      is_root_lem j r h e a =
          ap (root_here v) (sym (slot_is h ∙ e)) ∙ sym (at_top h bytes v a.0 (lives (slot_in counted j s) a)) ∙ ap is_used e

      no_root_lem : (j : ℕ) (r : Record) → Has counted s j → slot_of (slot_in counted j s) ≡ used r → {o : Option Record} → Lowest (store_of s).slots (is_root v) o → o ≡ none →
          is_root v r ≡ true → ⊥
      no_root_lem j r h e (miss f) z t = true≢false (sym t ∙ f j r (rw (slots_many counted s) h.inside) (slot_is h ∙ e))
      no_root_lem j r h e (hit i q l g n) z t = some-ne-none q z
