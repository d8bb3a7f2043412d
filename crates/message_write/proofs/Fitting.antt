-- A message that is written where it fits the room. Assumes nothing.
use Prim.Native.Nat.{ℕ, zero, suc, ◌+◌, ◌*◌, ◌-◌, ◌<◌, ◌≤◌}
use native.Mathlib.Omega.{arith}
use mathlib.Core.Path.{◌≡◌, refl, ap, ap₂, sym, ◌∙◌, subst}
use mathlib.Core.Bool.{Bool, true, false, cond, ◌&&◌}
use mathlib.Core.List.{[], ◌∷◌, ◌++◌, append-nil}
use mathlib.Core.Option.{Option, none, some}
use lib.ListN.{length, drop, length-append}
use lib.Dec.{ltb}
use borrow.Author.Tests.{lt-ltb, le-ltb}
use Rattle.terms.specs.Bits.{Bytes}
use Rattle.terms.specs.Records.{Presence, Proof, presence, absence}
use Rattle.meaning.specs.Calls.{Answer, refused, accepted}
use Rattle.sha256.specs.Sha256.{sha256}
use Rattle.proofrecords.specs.ProofBytes.{presence_in}
use Rattle.messages.specs.Wire.{varint, message_field}
use Rattle.messages.specs.Message.{existence, neighbour_field, nonexistence, message_bytes}
use Rattle.messages.specs.Lending.{Leaf, raw_presence, raw_neighbour, fitted}
use Rattle.messages.proofs.Wires.{bytes_field_is}
use Rattle.fields.specs.Written.{written}
use Rattle.message_rules.specs.Puts.{Puts}
use Rattle.message_rules.proofs.Writing.{written_front}
use Rattle.message_lent.specs.Lent.{leaf, record_in, field_length, existence_length, neighbour_length}
use Rattle.message_lent.proofs.Lengths.{nobody_is, somebody_is}
use Rattle.message_put.specs.Inner.{Lendable}
use Rattle.message_put.proofs.Parts.{field_parts, length_of_field, puts_two, room_first, room_second, existence_length_lem, neighbour_parts}
use Rattle.std.specs.Prelude.{Ok, Err}
use Rattle.refusal_numbers.specs.declared.Refusal.TheVariants.{NoRoom}
use Rattle.message_write.specs.Wrote.{fitted_in, besides, LendableOr, Writes}

-- an answer of which no room is left, and one that is written
pub writes_no_room : (q : Proof) (room : Bytes) → length room < length (message_bytes q) → Writes (fitted_in q room) room (Err NoRoom) room
unfolding fitted
writes_no_room q room h = let e = lt-ltb (length room) (length (message_bytes q)) h in record { answer = rw e; bytes = rw e }

pub writes_there : (q : Proof) {room t : Bytes} {total next : ℕ} → length (message_bytes q) ≤ length room → total ≡ length (message_bytes q) → Puts 0 (message_bytes q) room t next →
    Writes (fitted_in q room) room (Ok total) t
unfolding fitted
writes_there q {room} {t} h e p =
    let f = le-ltb (length room) (length (message_bytes q)) h in
    record { answer = rw (f, e); bytes = rw f (p.bytes_are ∙ written_front (message_bytes q) room) }

-- the message of a presence
module _ (k x : Bytes) (p : Presence) (l : Lendable k x) {size total : ℕ} (s : size ≡ existence_length (length k) (length x) p) (t : total ≡ field_length size) where
  abbrev q : Presence
  q = raw_presence (leaf k x) p

  size_is : size ≡ length (existence q)
  size_is = s ∙ sym (existence_length_lem k x p l)

  pub exist_total : total ≡ length (message_bytes (presence q))
  exist_total = t ∙ ap field_length size_is ∙ sym (length_of_field 1 (existence q) (omega arith))

  pub exist_parts : message_bytes (presence q) ≡ (10 ∷ varint size) ++ existence q
  exist_parts = field_parts 1 (existence q) (omega arith) ∙ ap (λ n. (10 ∷ varint n) ++ existence q) (sym size_is)

-- a neighbour's field
pub length_neighbour : (n : ℕ) (k x p : Bytes) → n ≤ 15 → LendableOr p k x → length (neighbour_field n (raw_neighbour (leaf k x) (record_in p))) ≡ neighbour_length (length k) (length x) (record_in p)
length_neighbour n k x p near l = go (length p) refl
  where
    there : (length p ≡ 0 → ⊥) → length (neighbour_field n (raw_neighbour (leaf k x) (record_in p))) ≡ neighbour_length (length k) (length x) (record_in p)
    there h =
        let e = somebody_is p h in
        ap (λ o. length (neighbour_field n (raw_neighbour (leaf k x) o))) e
        ∙ length_of_field n (existence (raw_presence (leaf k x) (presence_in p))) near
        ∙ ap field_length (existence_length_lem k x (presence_in p) (l.1 h))
        ∙ sym (ap (neighbour_length (length k) (length x)) e)

    go : (m : ℕ) → length p ≡ m → length (neighbour_field n (raw_neighbour (leaf k x) (record_in p))) ≡ neighbour_length (length k) (length x) (record_in p)
    go zero e = let z = nobody_is p e in ap (λ o. length (neighbour_field n (raw_neighbour (leaf k x) o))) z ∙ sym (ap (neighbour_length (length k) (length x)) z)
    go (suc m) e = there (λ z. omega arith)

-- the message of an absence
module _ (asked : Bytes) (some_byte : 1 ≤ length asked) (lk lx left rk rx right : Bytes) (ll : LendableOr left lk lx) (lr : LendableOr right rk rx) {a b c total : ℕ}
    (ea : a ≡ field_length (length asked)) (eb : b ≡ neighbour_length (length lk) (length lx) (record_in left)) (ec : c ≡ neighbour_length (length rk) (length rx) (record_in right))
    (et : total ≡ field_length (a + b + c)) where
  abbrev L : Bytes
  L = neighbour_field 2 (raw_neighbour (leaf lk lx) (record_in left))

  abbrev R : Bytes
  R = neighbour_field 3 (raw_neighbour (leaf rk rx) (record_in right))

  abbrev whole : Proof
  whole = besides asked (leaf lk lx) (record_in left) (leaf rk rx) (record_in right)

  abbrev inner : Bytes
  inner = nonexistence (record { key = asked; leftward = raw_neighbour (leaf lk lx) (record_in left); rightward = raw_neighbour (leaf rk rx) (record_in right) })

  pub inner_is : inner ≡ message_field 1 asked ++ (L ++ R)
  unfolding nonexistence
  inner_is = rw (bytes_field_is 1 asked some_byte, append-nil R)

  size_of : a + b + c ≡ length inner
  size_of =
      sym (ap length inner_is
      ∙ length-append (message_field 1 asked) (L ++ R)
      ∙ ap (length (message_field 1 asked) +◌) (length-append L R)
      ∙ omega (arith, ea, eb, ec, length_of_field 1 asked (omega arith), length_neighbour 2 lk lx left (omega arith) ll, length_neighbour 3 rk rx right (omega arith) lr))

  pub nonexist_total : total ≡ length (message_bytes whole)
  nonexist_total = et ∙ ap field_length size_of ∙ sym (length_of_field 2 inner (omega arith))

  pub nonexist_parts : message_bytes whole ≡ (18 ∷ varint (a + b + c)) ++ (message_field 1 asked ++ (L ++ R))
  nonexist_parts =
      field_parts 2 inner (omega arith) ∙ ap₂ (λ n u. (18 ∷ varint n) ++ u) (sym size_of) inner_is
