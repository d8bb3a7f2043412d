-- Whether a slot holds a root record that lives at a version, from its bytes, and the search for the lowest. Assumes nothing.
use Prim.Native.Nat.{ℕ, ◌+◌, ◌<◌, ◌≤◌}
use mathlib.Core.Path.{◌≡◌, refl, ap, ap₂, sym, ◌∙◌}
use mathlib.Core.Bool.{Bool, true, false, ◌&&◌, false≢true}
use mathlib.Core.List.{List, [], ◌∷◌}
use mathlib.Core.Option.{some}
use lib.ListN.{length, drop}
use Rattle.terms.specs.declared.Form.{Form}
use Rattle.terms.specs.Bits.{Bytes, Byte, All, same_place}
use Rattle.terms.specs.Records.{Record, Slot, free, used, spoiled}
use Rattle.terms.proofs.Tests.{is_false, and_true}
use Rattle.meaning.specs.Store.{retired_by, is_root, root_of, lowest}
use Rattle.meaning.proofs.Roots.{is_root_lem}
use Rattle.layout.specs.Sizes.{slot_size, room_of}
use Rattle.layout.specs.Headers.{size_right}
use Rattle.layout.specs.Slots.{slot_of, count_in, version_in, since_in}
use Rattle.layout.specs.Stores.{slot_in, slot_no, store_in, Has}
use Rattle.store.proofs.Slots.{slot_long, slot_bytes_lem, slot_within, slot_is}
use Rattle.store.proofs.Scans.{Scan, scan_start, scan_inside, scan_here, scan_next, scan_end}
use Rattle.lifetime.specs.Lifetime.{covers}
use Rattle.std.specs.Prelude.{Some, None}
use Rattle.lookup.specs.Lookup.{is_used}
use Rattle.lookup.proofs.Matching.{version_is, retired_is, count_is_lem, no_bits, and_false}
use Rattle.lookup_root.specs.Roots.{root_here, RootIn}

-- a root record by the parts of its test
root_parts : (v : ℕ) (r : Record) → is_root v r ≡ (same_place r.place [] && covers r.version r.retired v)
unfolding is_root retired_by covers
root_parts v r = refl

-- a slot of which the test of a root record is known wherever it holds a record
by_slot : (v : ℕ) (c : Bool) (y : Slot) → ((r : Record) → y ≡ used r → is_root v r ≡ c) → (is_used y && c) ≡ root_here v y
by_slot v c free f = refl
by_slot v c (used r) f = sym (f r refl)
by_slot v c (spoiled z) f = refl

module _ {fm : Form} {s : Bytes} {i : ℕ} (has : Has fm s i) (b : All Byte s) (v : ℕ) where
  long : length (slot_in fm i s) ≡ slot_size fm
  long = slot_long fm i s (slot_within has)

  whole : All Byte (slot_in fm i s)
  whole = slot_bytes_lem fm i s b

  says : (c : Bool) → ((r : Record) → slot_of (slot_in fm i s) ≡ used r → is_root v r ≡ c) → (is_used (slot_of (slot_in fm i s)) && c) ≡ root_here v (slot_no fm i s)
  says c f = by_slot v c (slot_of (slot_in fm i s)) f ∙ ap (root_here v) (sym (slot_is has))

  not_here : ((r : Record) → slot_of (slot_in fm i s) ≡ used r → is_root v r ≡ false) → false ≡ root_here v (slot_no fm i s)
  not_here f = sym (and_false (is_used (slot_of (slot_in fm i s)))) ∙ says false f

  -- a record below the root
  pub deep : (count_in (slot_in fm i s) ≡ 0 → ⊥) → false ≡ root_here v (slot_no fm i s)
  unfolding count_in
  deep f = not_here (λ r e. is_false (is_root v r) (λ t. f (count_is_lem fm (slot_in fm i s) long whole r e ∙ ap length (is_root_lem v r t).0)))

  its_life : (r : Record) → slot_of (slot_in fm i s) ≡ used r → covers r.version r.retired v ≡ covers (version_in (slot_in fm i s)) (since_in (slot_in fm i s)) v
  its_life r e = ap₂ (λ a c. covers a c v) (sym (version_is fm (slot_in fm i s) long whole r e)) (sym (retired_is fm (slot_in fm i s) long whole r e))

  -- a record that doesn't live at v
  pub elsewhen : covers (version_in (slot_in fm i s)) (since_in (slot_in fm i s)) v ≡ false → false ≡ root_here v (slot_no fm i s)
  elsewhen n = not_here (λ r e. root_parts v r ∙ ap (λ a. same_place r.place [] && a) (its_life r e ∙ n) ∙ and_false (same_place r.place []))

  -- at the empty place, and alive: what is left to know is whether it is a record
  pub at_top : count_in (slot_in fm i s) ≡ 0 → covers (version_in (slot_in fm i s)) (since_in (slot_in fm i s)) v ≡ true → is_used (slot_of (slot_in fm i s)) ≡ root_here v (slot_no fm i s)
  unfolding count_in
  at_top z n =
      sym (and_true (is_used (slot_of (slot_in fm i s))))
      ∙ says true (λ r e. root_parts v r
      ∙ ap₂ (λ p a. same_place p [] && a) (no_bits r.place (sym (count_is_lem fm (slot_in fm i s) long whole r e) ∙ z)) (its_life r e ∙ n))

-- what is found is found among the slots to come
abbrev pub Ahead : Form → Bytes → ℕ → List Slot → List Slot → Type 0
Ahead fm s v xs ys = lowest (is_root v) (store_in fm s).slots ≡ lowest (is_root v) ys

-- the search past a slot that is no such root, and at one that is
past : (v : ℕ) (y : Slot) (ys : List Slot) → root_here v y ≡ false → lowest (is_root v) (y ∷ ys) ≡ lowest (is_root v) ys
past v free ys e = refl
past v (used r) ys e = rw e
past v (spoiled z) ys e = refl

here : (v : ℕ) (y : Slot) (ys : List Slot) → root_here v y ≡ true → (r : Record) × (y ≡ used r) × (lowest (is_root v) (y ∷ ys) ≡ some r)
here v free ys e = absurd (false≢true e)
here v (used r) ys e = (r, refl, rw e)
here v (spoiled z) ys e = absurd (false≢true e)

pub root_start : {fm : Form} (s : Bytes) (v : ℕ) {n : ℕ} → size_right fm (length s) ≡ true → n ≡ room_of fm (length s) → Scan fm s (Ahead fm s v) n 0
root_start {fm} s v e m = scan_start s (Ahead fm s v) e m refl

module _ {fm : Form} {s : Bytes} (v : ℕ) {n i : ℕ} (w : Scan fm s (Ahead fm s v) n i) where
  pub root_next : i < n → root_here v (slot_no fm i s) ≡ false → Scan fm s (Ahead fm s v) n (i + 1)
  root_next h e = scan_next w h (Ahead fm s v) (scan_here w h ∙ past v (slot_no fm i s) (drop (i + 1) (store_in fm s).slots) e)

  pub root_found : i < n → root_here v (slot_no fm i s) ≡ true → RootIn (store_in fm s) v (Some i)
  unfolding root_of
  root_found h e =
      let u = here v (slot_no fm i s) (drop (i + 1) (store_in fm s).slots) e in
      (scan_inside w h, (u.0, u.1, scan_here w h ∙ u.2))

  pub root_nowhere : n ≤ i → RootIn (store_in fm s) v None
  unfolding root_of
  root_nowhere h = scan_end w h
