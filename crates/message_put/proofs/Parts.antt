-- The parts of a message one after the other. Assumes nothing.
use Prim.Native.Nat.{ℕ, zero, suc, ◌+◌, ◌*◌, ◌-◌, ◌<◌, ◌≤◌, ◌/◌, ◌%◌}
use native.Mathlib.Omega.{arith}
use native.Mathlib.Nat.{sub-zero}
use mathlib.Core.Path.{◌≡◌, refl, ap, ap₂, sym, ◌∙◌, subst}
use mathlib.Core.Bool.{Bool, true, false, cond}
use mathlib.Core.List.{List, [], ◌∷◌, ◌++◌, append_assoc, append-nil}
use mathlib.Core.Option.{Option, none, some}
use lib.ListN.{length, get_or, drop, take, length-append, length-drop}
use lib.Seq.{drop-drop}
use lib.Dec.{eqb, ltb}
use Rattle.terms.specs.Bits.{Bytes, Side}
use Rattle.terms.specs.Fields.{slice}
use Rattle.terms.specs.Records.{Step, Presence}
use Rattle.terms.proofs.Fields.{length_slice, slice_slice, part_slice}
use Rattle.proofrecords.specs.ProofBytes.{is_presence, presence_in, step_count, steps_in}
use Rattle.proofrecords.proofs.Lying.{first_at, from_step, next_step, one_less, none_left}
use Rattle.messages.specs.Wire.{varint_in, varint, bytes_tag, message_field, bytes_field, number_field}
use Rattle.messages.specs.Message.{existence, neighbour_field, leaf_bytes, existence_bytes}
use Rattle.messages.specs.Raws.{leaf_op, inner_op, path}
use Rattle.messages.specs.Lending.{raw_presence, raw_neighbour}
use Rattle.messages.proofs.Wires.{field_is, bytes_field_is}
use Rattle.messages.proofs.Back.{path_is}
use Rattle.message_rules.specs.Puts.{Puts, RoomFor}
use Rattle.message_rules.proofs.Writing.{puts_none, puts_then, puts_length, puts_part}
use Rattle.proofrecords.proofs.Forms.{presence_whole}
use borrow.Author.Tests.{ne_eqb}
use Rattle.message_lent.specs.Lent.{leaf, record_in, field_length, existence_length}
use Rattle.message_lent.proofs.Lengths.{one_byte, two_bytes, three_bytes, inner_left, inner_right_lem, nobody_is, somebody_is}
use Rattle.message_put.specs.Inner.{step_of, inner_head, Lendable}

-- a field is its head and its bytes
pub field_parts : (n : ℕ) (x : Bytes) → n ≤ 15 → message_field n x ≡ ((8 * n + 2) ∷ varint (length x)) ++ x
field_parts n x h = sym (append-nil (message_field n x)) ∙ field_is n x [] h ∙ ap (λ u. (8 * n + 2) ∷ (varint (length x) ++ u)) (append-nil x)

-- two parts
pub puts_two : {at b c : ℕ} {f g whole s t u : Bytes} → Puts at f s t b → Puts b g t u c → whole ≡ f ++ g → RoomFor at whole s → Puts at whole s u c
puts_two {at} {b} {c} {f} {g} {whole} {s} {t} {u} p q e h =
    subst (λ w. Puts at w s u c) (sym e) (puts_then p q (omega (arith, ap length e, length-append f g, h.fits)))

pub room_first : {at : ℕ} {f whole s : Bytes} (g : Bytes) → whole ≡ f ++ g → RoomFor at whole s → RoomFor at f s
room_first {at} {f} {whole} {s} g e h = record { fits = omega (arith, ap length e, length-append f g, h.fits) }

pub room_second : {at b : ℕ} {f g whole s t : Bytes} → Puts at f s t b → whole ≡ f ++ g → RoomFor at whole s → RoomFor b g t
room_second {at} {b} {f} {g} {whole} {s} {t} p e h =
    let k : RoomFor at f s = room_first g e h in
    record { fits = omega (arith, ap length e, length-append f g, p.next_is, puts_length p k.fits, h.fits) }

-- varints
pub varint_one : (x : ℕ) → x < 128 → varint x ≡ x ∷ []
varint_one x h = one_byte x h

pub varint_two : (x : ℕ) → 128 ≤ x → x / 128 < 128 → varint x ≡ ((128 + x % 128) ∷ []) ++ (x / 128 ∷ [])
varint_two x h l = two_bytes x h (omega arith)

pub varint_three : (x : ℕ) → 128 ≤ x / 128 → x < 100000 → varint x ≡ ((128 + x % 128) ∷ []) ++ (((128 + x / 128 % 128) ∷ []) ++ (x / 128 / 128 ∷ []))
varint_three x h l = three_bytes x (omega arith) l

-- the inner op of a step
pub inner_parts : (y : Bytes) → length y ≡ 33 → message_field 4 (inner_op (step_of y)) ≡ inner_head (get_or y 0 0) ++ slice 1 32 y
inner_parts y h = go (eqb (get_or y 0 0) 1)
  where
    go : (b : Bool) →
        message_field 4 (inner_op (record { side = b; sibling = slice 1 32 y }))
        ≡ cond b (34 ∷ 37 ∷ 8 ∷ 1 ∷ 18 ∷ 33 ∷ 0 ∷ []) (34 ∷ 39 ∷ 8 ∷ 1 ∷ 18 ∷ 1 ∷ 0 ∷ 26 ∷ 32 ∷ []) ++ slice 1 32 y
    go false = inner_left (slice 1 32 y) (length_slice 1 32 y (omega arith))
    go true = inner_right_lem (slice 1 32 y) (length_slice 1 32 y (omega arith))

-- our leaf op's field
pub leaf_field_lem : message_field 3 leaf_op ≡ 26 ∷ 9 ∷ 8 ∷ 1 ∷ 16 ∷ 1 ∷ 24 ∷ 1 ∷ 42 ∷ 1 ∷ 1 ∷ []
unfolding leaf_bytes varint_in varint bytes_tag message_field bytes_field number_field
leaf_field_lem = refl

-- step i where it lies
first_byte : (z : Bytes) → get_or (take 33 z) 0 0 ≡ get_or z 0 0
first_byte [] = refl
first_byte (b ∷ z) = refl

front : (k : ℕ) (p : Bytes) → get_or (slice k 33 p) 0 0 ≡ get_or (drop k p) 0 0
unfolding slice
front k p = first_byte (drop k p)

later : (k : ℕ) (p : Bytes) → slice 1 32 (drop k p) ≡ slice (k + 1) 32 p
unfolding slice
later k p = ap (take 32) (drop-drop 1 k p)

step_there : (i : ℕ) (p : Bytes) →
    step_of (slice (72 + 33 * i) 33 p) ≡ record { side = eqb (get_or (from_step i p) 0 0) 1; sibling = slice 1 32 (from_step i p) }
step_there i p =
    let k = 72 + 33 * i in
    ap₂ (λ u v. record { side = eqb u 1; sibling = v }) (front k p) (slice_slice k 33 1 32 p (omega arith) ∙ sym (later k p))

-- The path of n steps, of which i are written.
pub record Pathing (n : ℕ) (p : Bytes) (at : ℕ) (s t : Bytes) (i next : ℕ) : Type 0 where
  pub done : Bytes
  pub within : i ≤ n
  pub puts : Puts at done s t next
  pub is : path (steps_in n (drop 72 p)) ≡ done ++ path (steps_in (n - i) (from_step i p))

pub pathing_start : (n : ℕ) (p : Bytes) (at : ℕ) (s : Bytes) → Pathing n p at s s 0 at
pathing_start n p at s = record { done = []; within = omega arith; puts = puts_none at s; is = rw sub-zero }

module _ {n : ℕ} {p : Bytes} {at : ℕ} {s t : Bytes} {i next : ℕ} (w : Pathing n p at s t i next) (l : i < n) (long : 72 + 33 * n ≤ length p)
    (room : at + length (path (steps_in n (drop 72 p))) ≤ length s) where
  abbrev inner : Bytes
  inner = message_field 4 (inner_op (step_of (slice (72 + 33 * i) 33 p)))

  abbrev more : Bytes
  more = path (steps_in (n - (i + 1)) (from_step (i + 1) p))

  first_of : path (steps_in (n - i) (from_step i p)) ≡ inner ++ more
  first_of =
      ap (λ k. path (steps_in k (from_step i p))) (one_less i n l)
      ∙ ap₂ (λ u v. message_field 4 (inner_op u) ++ path (steps_in (n - (i + 1)) v)) (sym (step_there i p)) (next_step i p)

  whole : path (steps_in n (drop 72 p)) ≡ w.done ++ (inner ++ more)
  whole = w.is ∙ ap (w.done ++◌) first_of

  pub pathing_room : next + length inner ≤ length t
  pathing_room =
      omega (arith, ap length whole, length-append w.done (inner ++ more), length-append inner more, w.puts.next_is, puts_length w.puts (omega (arith, ap length whole, length-append w.done (inner ++ more))))

  pub pathing_next : {u : Bytes} {b : ℕ} → Puts next inner t u b → Pathing n p at s u (i + 1) b
  pathing_next {u} {b} q = record {
    done = w.done ++ inner;
    within = omega arith;
    puts = puts_then w.puts q (omega (arith, ap length whole, length-append w.done (inner ++ more), length-append inner more));
    is = whole ∙ sym (append_assoc w.done inner more);
  }

pub pathing_done : {n : ℕ} {p : Bytes} {at : ℕ} {s t : Bytes} {i next : ℕ} (w : Pathing n p at s t i next) → n ≤ i → n ≡ step_count p →
    Puts at (path (presence_in p).steps) s t next
unfolding presence_in
pathing_done {n} {p} {at} {s} {t} {i} {next} w h e =
    let is : path (steps_in (step_count p) (drop 72 p)) ≡ w.done =
    ap (λ k. path (steps_in k (drop 72 p))) (sym e) ∙ w.is ∙ ap (λ k. w.done ++ path (steps_in k (from_step i p))) (none_left i n h) ∙ append-nil w.done in
    subst (λ f. Puts at f s t next) (sym is) w.puts

-- An existence proof, part after part.
pub existence_parts : (k x : Bytes) (q : Presence) → Lendable k x →
    existence (raw_presence (leaf k x) q) ≡ message_field 1 k ++ (message_field 2 x ++ (message_field 3 leaf_op ++ path q.steps))
unfolding existence_bytes
existence_parts k x q h = rw (bytes_field_is 1 k h.key_some, bytes_field_is 2 x h.value_some, path_is q.steps)

pub length_of_field : (n : ℕ) (x : Bytes) → n ≤ 15 → length (message_field n x) ≡ field_length (length x)
unfolding field_length
length_of_field n x h = omega (arith, ap length (field_parts n x h), length-append ((8 * n + 2) ∷ varint (length x)) x)

pub existence_length_lem : (k x : Bytes) (q : Presence) → Lendable k x → length (existence (raw_presence (leaf k x) q)) ≡ existence_length (length k) (length x) q
unfolding existence_length
existence_length_lem k x q h =
    let c = message_field 3 leaf_op ++ path q.steps in
    omega (
      arith,
      ap length (existence_parts k x q h),
      length-append (message_field 1 k) (message_field 2 x ++ c),
      length-append (message_field 2 x) c,
      length-append (message_field 3 leaf_op) (path q.steps),
      length_of_field 1 k (omega arith),
      length_of_field 2 x (omega arith),
      ap length leaf_field_lem,
    )

-- A neighbour's field, where there is somebody.
pub neighbour_parts : (n : ℕ) (k x p : Bytes) → n ≤ 15 → (length p ≡ 0 → ⊥) → Lendable k x →
    neighbour_field n (raw_neighbour (leaf k x) (record_in p))
    ≡ ((8 * n + 2) ∷ varint (existence_length (length k) (length x) (presence_in p))) ++ existence (raw_presence (leaf k x) (presence_in p))
neighbour_parts n k x p near h l =
    ap (λ o. neighbour_field n (raw_neighbour (leaf k x) o)) (somebody_is p h)
    ∙ field_parts n (existence (raw_presence (leaf k x) (presence_in p))) near
    ∙ ap (λ z. ((8 * n + 2) ∷ varint z) ++ existence (raw_presence (leaf k x) (presence_in p))) (existence_length_lem k x (presence_in p) l)

pub neighbour_none : (n : ℕ) (k x p : Bytes) → length p ≡ 0 → neighbour_field n (raw_neighbour (leaf k x) (record_in p)) ≡ []
neighbour_none n k x p e = ap (λ o. neighbour_field n (raw_neighbour (leaf k x) o)) (nobody_is p e)

-- a part of the room that was filled with other bytes
pub part_put : (at : ℕ) (x room t : Bytes) → t ≡ x → Puts at x room (take at room ++ (t ++ drop (at + length x - at) (drop at room))) (at + length x)
part_put at x room t e =
    subst (λ u. Puts at x room (take at room ++ (u ++ drop (at + length x - at) (drop at room))) (at + length x)) (sym e) (puts_part at (at + length x) x room refl)

-- what stands before the sibling
pub head_right_lem : (side : ℕ) → side ≡ 1 → inner_head side ≡ 34 ∷ 37 ∷ 8 ∷ 1 ∷ 18 ∷ 33 ∷ 0 ∷ []
head_right_lem side e = rw e

pub head_left : (side : ℕ) → (side ≡ 1 → ⊥) → inner_head side ≡ 34 ∷ 39 ∷ 8 ∷ 1 ∷ 18 ∷ 1 ∷ 0 ∷ 26 ∷ 32 ∷ []
head_left side e = rw (ne_eqb side 1 e)

-- four parts
module _ {at b c : ℕ} {A B whole s t u : Bytes} (C D : Bytes) (p : Puts at A s t b) (q : Puts b B t u c) (is : whole ≡ A ++ (B ++ (C ++ D))) (room : RoomFor at whole s) where
  pub room_rest : RoomFor b (B ++ (C ++ D)) t
  room_rest = room_second p is room

  pub room_more : RoomFor c (C ++ D) u
  room_more = room_second q refl room_rest

  pub room_third : RoomFor c C u
  room_third = room_first D refl room_more

  pub room_fourth : {d : ℕ} {v : Bytes} → Puts c C u v d → RoomFor d D v
  room_fourth r = room_second r refl room_more

  pub puts_four : {d e : ℕ} {v w : Bytes} → Puts c C u v d → Puts d D v w e → Puts at whole s w e
  puts_four r x = puts_two p (puts_two q (puts_two r x refl room_more) refl room_rest) is room

pub long_enough : (p : Bytes) (n : ℕ) → is_presence p ≡ true → n ≡ step_count p → 72 + 33 * n ≤ length p
long_enough p n h e = omega (arith, presence_whole p h)

pub path_room : (p : Bytes) (n at : ℕ) (s : Bytes) → n ≡ step_count p → RoomFor at (path (presence_in p).steps) s → at + length (path (steps_in n (drop 72 p))) ≤ length s
unfolding presence_in
path_room p n at s e h = omega (arith, ap (λ k. length (path (steps_in k (drop 72 p)))) e, h.fits)

some_varint : (y : ℕ) → 1 ≤ length (varint y)
unfolding varint varint_in
some_varint y = more (ltb y 128)
  where
    more : (b : Bool) → 1 ≤ length (cond b (y ∷ []) ((128 + y % 128) ∷ varint_in 8 (y / 128)))
    more true = omega arith
    more false = omega arith

pub low_byte : (x : ℕ) {at : ℕ} {s : Bytes} → RoomFor at (varint x) s → at < length s
low_byte x {at} {s} room = omega (arith, some_varint x, room.fits)

-- step i's part of the record, as the code cuts it out
part_is : (i : ℕ) (p : Bytes) → take (72 + 33 * i + 33 - (72 + 33 * i)) (drop (72 + 33 * i) p) ≡ slice (72 + 33 * i) 33 p
part_is i p = part_slice (72 + 33 * i) 33 p

module _ {n : ℕ} {p : Bytes} {at : ℕ} {s t : Bytes} {i next : ℕ} (w : Pathing n p at s t i next) (l : i < n) (long : 72 + 33 * n ≤ length p)
    (room : at + length (path (steps_in n (drop 72 p))) ≤ length s) where
  abbrev cut : Bytes
  cut = take (72 + 33 * i + 33 - (72 + 33 * i)) (drop (72 + 33 * i) p)

  pub inner_room : (length cut ≡ 33) × RoomFor next (message_field 4 (inner_op (step_of cut))) t
  inner_room =
      (ap length (part_is i p) ∙ length_slice (72 + 33 * i) 33 p (omega arith), rw (part_is i p) (record { fits = pathing_room w l long room }))

  pub inner_next : {u : Bytes} {b : ℕ} → Puts next (message_field 4 (inner_op (step_of cut))) t u b → Pathing n p at s u (i + 1) b
  inner_next q = pathing_next w l long room (rw (part_is i p) at q)
