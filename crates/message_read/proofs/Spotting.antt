-- Where the raw keys and values stand is where the message's own lengths say. Assumes nothing.
use Prim.Native.Nat.{ℕ, ◌+◌, ◌-◌, ◌≤◌}
use native.Mathlib.Omega.{arith}
use mathlib.Core.Path.{◌≡◌, refl, ap, ap₂, sym, ◌∙◌, subst}
use Rattle.std.specs.declared.option.Option as option
use Rattle.std.specs.Prelude.{Some, None}
use Rattle.std.specs.Option.{ForSome}
use mathlib.Core.List.{[], ◌∷◌, ◌++◌, append_assoc, append-nil}
use mathlib.Core.Option.{Option, none, some}
use lib.ListN.{length, take, drop, length-append, drop_of_length-le, length-take}
use Rattle.terms.specs.Bits.{Bytes}
use Rattle.terms.specs.Fields.{le, slice, flat}
use Rattle.terms.specs.Records.{Presence, Absence, presence, absence}
use Rattle.terms.proofs.Fields.{length_le, length_slice}
use Rattle.fields.specs.Written.{written}
use Rattle.messages.specs.Wire.{message_field, bytes_field}
use Rattle.messages.specs.Message.{existence, nonexistence, neighbour_field}
use Rattle.messages.specs.Raws.{RawPresence}
use Rattle.messages.specs.Spots.{Spot, Spots, nowhere, field_head, key_spot, value_spot, leaf_spots, spots_in}
use Rattle.messages.proofs.Wires.{bytes_field_is}
use Rattle.message_rules.proofs.Writing.{written_then, written_front}
use Rattle.message_rules.specs.Answers.{spot_bytes, spots_bytes}
use Rattle.message_leaf.specs.declared.Shown.{Shown}
use Rattle.message_leaf.specs.Shown.{presence_at, shown_in, Inside}
use Rattle.message_leaf.proofs.Heads.{the_shown, no_shown}
use Rattle.message_form.specs.declared.Absent.{Absent}
use Rattle.message_form.specs.Said.{Held, HeldOr, absent_at, AbsentIn, AbsentHeld}
use Rattle.message_record.specs.Ready.{ReadyOr, AbsentReady, absent_size}
use Rattle.message_record.proofs.Records.{held_ready, few_or, few_bytes, length_absent}
use Rattle.sha256.specs.Sha256.{sha256}
use Rattle.messages.specs.Lending.{record_of}
use Rattle.message_read.specs.Reads.{Bounded, spot, key_of, value_of, spots_of}

-- a spot's eight bytes
pub spot_put : (at from size : ℕ) (r0 r1 r2 : Bytes) → at + 8 ≤ length r0 → r1 ≡ written at (le 4 from) r0 → r2 ≡ written (at + 4) (le 4 size) r1 →
    r2 ≡ written at (le 4 from ++ le 4 size) r0
spot_put at from size r0 r1 r2 h e f =
    let a = length_le 4 from in
    let b = length_le 4 size in
    f ∙ ap (written (at + 4) (le 4 size)) e ∙ written_then at (at + 4) (le 4 from) (le 4 size) r0 (omega arith) (omega arith)

length_spot : (s : Spot) → length (spot_bytes s) ≡ 8
length_spot s = length-append (le 4 s.at) (le 4 s.size) ∙ ap₂ ◌+◌ (length_le 4 s.at) (length_le 4 s.size)

-- a leaf's two spots
pub leaf_put : (at : ℕ) (k v : Spot) (r0 r1 r2 : Bytes) → at + 16 ≤ length r0 → r1 ≡ written at (spot_bytes k) r0 → r2 ≡ written (at + 8) (spot_bytes v) r1 →
    r2 ≡ written at (spot_bytes k ++ spot_bytes v) r0
leaf_put at k v r0 r1 r2 h e f =
    let a = length_spot k in
    let b = length_spot v in
    f ∙ ap (written (at + 8) (spot_bytes v)) e ∙ written_then at (at + 8) (spot_bytes k) (spot_bytes v) r0 (omega arith) (omega arith)

-- the whole answer
pub answer_put : (size : ℕ) (s : Spots) (r0 r1 r2 r3 r4 : Bytes) → length r0 ≡ 44 → r1 ≡ written 0 (le 4 size) r0 → r2 ≡ written 4 (spot_bytes s.asked) r1 →
    r3 ≡ written 12 (spot_bytes s.key1 ++ spot_bytes s.value1) r2 → r4 ≡ written 28 (spot_bytes s.key2 ++ spot_bytes s.value2) r3 →
    r4 ≡ le 4 size ++ spots_bytes s
answer_put size s r0 r1 r2 r3 r4 l w1 w2 w3 w4 =
    let A = le 4 size in
    let B = spot_bytes s.asked in
    let C = spot_bytes s.key1 ++ spot_bytes s.value1 in
    let D = spot_bytes s.key2 ++ spot_bytes s.value2 in
    let a = length_le 4 size in
    let b = length_spot s.asked in
    let c : length C ≡ 16 = length-append (spot_bytes s.key1) (spot_bytes s.value1) ∙ ap₂ ◌+◌ (length_spot s.key1) (length_spot s.value1) in
    let d : length D ≡ 16 = length-append (spot_bytes s.key2) (spot_bytes s.value2) ∙ ap₂ ◌+◌ (length_spot s.key2) (length_spot s.value2) in
    let ab = length-append A B in
    let abc = length-append (A ++ B) C in
    let abcd = length-append ((A ++ B) ++ C) D in
    let v2 : r2 ≡ written 0 (A ++ B) r0 = w2 ∙ ap (written 4 B) w1 ∙ written_then 0 4 A B r0 (omega arith) (omega arith) in
    let v3 : r3 ≡ written 0 ((A ++ B) ++ C) r0 = w3 ∙ ap (written 12 C) v2 ∙ written_then 0 12 (A ++ B) C r0 (omega arith) (omega arith) in
    let v4 : r4 ≡ written 0 (((A ++ B) ++ C) ++ D) r0 = w4 ∙ ap (written 28 D) v3 ∙ written_then 0 28 ((A ++ B) ++ C) D r0 (omega arith) (omega arith) in
    v4
    ∙ written_front (((A ++ B) ++ C) ++ D) r0
    ∙ ap ((((A ++ B) ++ C) ++ D) ++◌) (drop_of_length-le r0 {i = length (((A ++ B) ++ C) ++ D)} (omega arith))
    ∙ simp (append_assoc, append-nil)

-- key and value of an existence proof
module _ {x : Bytes} {start : ℕ} {s : Shown} (i : Inside x start s) where
  key_long : length (presence_at x s).key ≡ s.kstop - s.key
  key_long = let k = i.key_inside in length_slice s.key (s.kstop - s.key) x (omega (arith, k.1, k.2))

  value_long : length (presence_at x s).value ≡ s.vstop - s.value
  value_long = let k = i.value_inside in length_slice s.value (s.vstop - s.value) x (omega (arith, k.1, k.2))

  pub key_spot_lem : key_spot start (presence_at x s).key ≡ spot s.key s.kstop
  key_spot_lem = ap₂ (λ u v. record { at = u; size = v }) (sym i.key_at) key_long

  pub value_spot_lem : RawPresence (presence_at x s) → value_spot start (presence_at x s) ≡ spot s.value s.vstop
  value_spot_lem raw = ap₂ (λ u v. record { at = u; size = v }) (sym (i.value-at raw.key_raw.some_byte)) value_long

pub bounded : {n : ℕ} {x : Bytes} {at : ℕ} {s : Shown} → Held n x at s → length x ≤ 29999 → Bounded s
bounded h l =
    let k = h.inside.key_inside in
    let v = h.inside.value_inside in
    record { key_bounds = (k.1, omega (arith, k.2)); value_bounds = (v.1, omega (arith, v.2)) }

-- the spots of a presence
pub presence_spots : {m : Bytes} {s : Shown} → Held 1 m 0 s → spots_in (presence (presence_at m s)) ≡ spots_of s.key s.kstop (Some s) None
unfolding spots_in
presence_spots {m} {s} h =
    let e : length (field_head 1 (existence (presence_at m s))) ≡ h.start = omega (arith, h.start_is) in
    rw (e, key_spot_lem h.inside, value_spot_lem h.inside h.raw)

-- the spots of an absence
module _ {m : Bytes} {a : Absent} (h : AbsentHeld m a) where
  abbrev A : AbsentIn m h.start a
  A = h.parts

  key_size_lem : length (absent_at m a).key ≡ a.kstop - a.key
  key_size_lem = let k = A.key_inside in length_slice a.key (a.kstop - a.key) m (omega (arith, k.1, k.2))

  asked_spot : key_spot (length (field_head 2 (nonexistence (absent_at m a)))) (absent_at m a).key ≡ spot a.key a.kstop
  asked_spot =
      ap (λ s. key_spot s (absent_at m a).key) (sym h.start_is) ∙ ap₂ (λ u v. record { at = u; size = v }) (sym A.key_at) key_size_lem

  begin : length (field_head 2 (nonexistence (absent_at m a))) + length (bytes_field 1 (absent_at m a).key) ≡ a.kstop
  begin = omega (arith, h.start_is, A.key_ends, ap length (bytes_field_is 1 (absent_at m a).key h.raw_key))

  spots_from : spots_in (absence (absent_at m a)) ≡ leaf_spots (spot a.key a.kstop) a.kstop (absent_at m a).leftward (absent_at m a).rightward
  unfolding spots_in
  spots_from = rw (asked_spot, begin)

  abbrev y : Bytes
  y = take a.middle m

  with_left : {l : Shown} (r : option.Option Shown) → Held 2 y a.kstop l → HeldOr 3 m a.middle r →
      leaf_spots (spot a.key a.kstop) a.kstop (shown_in y (Some l)) (shown_in m r) ≡ spots_of a.key a.kstop (Some l) r
  with_left None left right = rw (sym left.start_is, key_spot_lem left.inside, value_spot_lem left.inside left.raw)
  with_left {l} (Some r) left right =
      let i = A.follow.middle_inside in
      let mid : a.kstop + length (message_field 2 (existence (presence_at y l))) ≡ a.middle = omega (arith, left.end_is, length-take a.middle m, i.1) in
      let k : a.kstop + length (message_field 2 (existence (presence_at y l))) + length (field_head 3 (existence (presence_at m r))) ≡ right.start = omega (arith, right.start_is, mid) in
      rw (sym left.start_is, k, key_spot_lem left.inside, value_spot_lem left.inside left.raw, key_spot_lem right.inside, value_spot_lem right.inside right.raw)

  without_left : (r : option.Option Shown) → a.middle ≡ a.kstop → HeldOr 3 m a.middle r →
      leaf_spots (spot a.key a.kstop) a.kstop none (shown_in m r) ≡ spots_of a.key a.kstop r None
  without_left None e right = refl
  without_left (Some r) e right =
      let k : a.kstop + length (field_head 3 (existence (presence_at m r))) ≡ right.start = omega (arith, right.start_is, e) in
      rw (k, key_spot_lem right.inside, value_spot_lem right.inside right.raw)

  pub spots_with_left : {l : Shown} → a.left ≡ Some l → spots_in (absence (absent_at m a)) ≡ spots_of a.key a.kstop (Some l) a.right
  spots_with_left e =
      spots_from
      ∙ ap (λ o. leaf_spots (spot a.key a.kstop) a.kstop (shown_in y o) (shown_in m a.right)) e
      ∙ with_left a.right (subst (HeldOr 2 y a.kstop) e A.follow.left_held) A.follow.right_held

  pub spots_without_left : a.left ≡ None → spots_in (absence (absent_at m a)) ≡ spots_of a.key a.kstop a.right None
  spots_without_left e =
      spots_from
      ∙ ap (λ o. leaf_spots (spot a.key a.kstop) a.kstop (shown_in y o) (shown_in m a.right)) e
      ∙ without_left a.right (A.follow.middle_is e) A.follow.right_held

pub some_bounded : {s : Shown} → Bounded s → ForSome (Some s) Bounded
some_bounded b t e = subst Bounded (the_shown e) b

pub none_bounded : ForSome None Bounded
none_bounded t e = no_shown e

bounded_or : (n : ℕ) (x : Bytes) (at : ℕ) (o : option.Option Shown) → HeldOr n x at o → length x ≤ 29999 → ForSome o Bounded
bounded_or n x at None h l = none_bounded
bounded_or n x at (Some s) h l = some_bounded (bounded h l)

ready_or : (n : ℕ) (x : Bytes) (at : ℕ) (o : option.Option Shown) → HeldOr n x at o → ReadyOr x o
ready_or n x at None h = tt
ready_or n x at (Some s) h = held_ready h

-- what is held of an absence can be written, and stands inside
module _ {m : Bytes} {a : Absent} (h : AbsentHeld m a) where
  pub left_bounded : length m ≤ 29999 → ForSome a.left Bounded
  left_bounded l =
      let i = h.parts.follow.middle_inside in bounded_or 2 (take a.middle m) a.kstop a.left h.parts.follow.left_held (omega (arith, length-take a.middle m, i.1, l))

  pub right_bounded : length m ≤ 29999 → ForSome a.right Bounded
  right_bounded l = bounded_or 3 m a.middle a.right h.parts.follow.right_held l

  pub key_bounds : length m ≤ 29999 → (a.key ≤ a.kstop) × (a.kstop ≤ 29999)
  key_bounds l = let k = h.parts.key_inside in (k.1, omega (arith, k.2, l))

  pub absent_ready : AbsentReady m a
  absent_ready = record {
    key_in_lem = (h.parts.key_inside.1, h.parts.key_inside.2);
    middle_in = h.parts.follow.middle_inside.1;
    left_ready = ready_or 2 (take a.middle m) a.kstop a.left h.parts.follow.left_held;
    right_ready = ready_or 3 m a.middle a.right h.parts.follow.right_held;
  }

  pub absent_few : ForSome a.left (λ s. s.count ≤ 256) × ForSome a.right (λ s. s.count ≤ 256)
  absent_few = (few_or (take a.middle m) a.left absent_ready.left_ready, few_or m a.right absent_ready.right_ready)

  pub absent_long : length (record_of sha256 (absence (absent_at m a))) ≡ absent_size a
  absent_long = length_absent absent_ready

  pub absent_small : absent_size a ≤ 29999
  unfolding absent_size
  absent_small = omega (arith, few_bytes (take a.middle m) a.left absent_ready.left_ready, few_bytes m a.right absent_ready.right_ready)
