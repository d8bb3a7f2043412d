-- What follows of the contracts of writing and reading a message, in the words of document 02, 2026-02. Assumes nothing.
use Prim.Native.Nat.{ℕ, ◌≤◌}
use native.Mathlib.Omega.{arith}
use mathlib.Core.Path.{◌≡◌, refl, ap, ap₂, sym, ◌∙◌, subst}
use mathlib.Core.Bool.{Bool, true, false, cond}
use mathlib.Core.List.{List, [], ◌∷◌, ◌++◌, map}
use mathlib.Core.Option.{Option, none, some}
use lib.ListN.{length, drop}
use lib.Dec.{ltb}
use borrow.Author.Tests.{ltb-false, le-ltb}
use Rattle.terms.specs.Bits.{Bytes, All}
use Rattle.terms.specs.Fields.{le}
use Rattle.terms.specs.Records.{Proof, presence, absence}
use Rattle.meaning.specs.Calls.{Answer, refused, accepted}
use Rattle.meaning.specs.Answers.{number_of, told_of, room_after}
use Rattle.sha256.specs.Sha256.{sha256}
use Rattle.proofrecords.specs.ProofBytes.{ProofIs, Which}
use Rattle.proofrecords.proofs.Proofs.{one_proof_said}
use Rattle.messages.specs.Message.{message_bytes, own_proof}
use Rattle.messages.specs.Parts.{asked_in, leaves_in, two_leaves, StandsIn}
use Rattle.messages.proofs.Spots.{raw_stands_there}
use Rattle.message_rules.specs.Contracts.{Encodes, record_of, AskedFor, Lends, fitted, written, read, WritesMessage, answer_bytes, ReadsMessage}
use Rattle.message_rules.proofs.Ties.{encodes_raw, one_encoded, one_which, one_lends}

-- Two outcomes are one.
pub one_write : {x asked : Bytes} {leaves : List Bytes} {room f t g u h : Bytes} {a b : ℕ} → WritesMessage x asked leaves room f a t g →
    WritesMessage x asked leaves room f b u h → (a ≡ b) × (t ≡ u) × (g ≡ h)
one_write {x} {asked} {leaves} {room} {f} v w =
    let e = one_proof_said x v.said w.said v.exactly w.exactly in
    let k = one_which one_lends v.raw w.raw v.lent w.lent in
    let same : written v.said v.raw room ≡ written w.said w.raw room = ap₂ (λ s r. written s r room) e k in (
      v.exported.number ∙ ap (λ o. number_of o) same ∙ sym w.exported.number,
      v.message ∙ ap (λ o. room_after message_bytes o room) same ∙ sym w.message,
      v.exported.told ∙ ap (λ o. told_of (λ q. le 4 (length (message_bytes q))) o f) same ∙ sym w.exported.told,
    )

pub one_read : {m room f t g u h : Bytes} {a b : ℕ} → ReadsMessage m room f a t g → ReadsMessage m room f b u h → (a ≡ b) × (t ≡ u) × (g ≡ h)
one_read {m} {room} {f} v w =
    let e = one_which (λ p q. one_encoded) v.said w.said v.exactly w.exactly in
    let same : read v.said room ≡ read w.said room = ap (λ s. read s room) e in (
      v.exported.number ∙ ap (λ o. number_of o) same ∙ sym w.exported.number,
      v.record_is ∙ ap (λ o. room_after record_of o room) same ∙ sym w.record_is,
      v.exported.told ∙ ap (λ o. told_of answer_bytes o f) same ∙ sym w.exported.told,
    )

-- A refused call writes nothing.
refused_keeps : {A : Type 0} (bytes tell : A → Bytes) (a : Answer A) (room f : Bytes) → (number_of a ≡ 0 → ⊥) → (room_after bytes a room ≡ room) × (told_of tell a f ≡ f)
refused_keeps bytes tell (refused n) room f h = (refl, refl)
refused_keeps bytes tell (accepted a) room f h = absurd (h refl)

pub refused_write_writes_nothing : {x asked : Bytes} {leaves : List Bytes} {room f t g : Bytes} {r : ℕ} → WritesMessage x asked leaves room f r t g → (r ≡ 0 → ⊥) →
    (t ≡ room) × (g ≡ f)
refused_write_writes_nothing {room = room} {f} w h =
    let k = refused_keeps message_bytes (λ q. le 4 (length (message_bytes q))) (written w.said w.raw room) room f (λ z. h (w.exported.number ∙ z)) in
    (w.message ∙ k.0, w.exported.told ∙ k.1)

pub refused_read_writes_nothing : {m room f t g : Bytes} {r : ℕ} → ReadsMessage m room f r t g → (r ≡ 0 → ⊥) → (t ≡ room) × (g ≡ f)
refused_read_writes_nothing {m} {room} {f} w h =
    let k = refused_keeps record_of answer_bytes (read w.said room) room f (λ z. h (w.exported.number ∙ z)) in
    (w.record_is ∙ k.0, w.exported.told ∙ k.1)

-- what has room is accepted, and what is accepted has room
in_room : (bytes : Proof → Bytes) (q : Proof) (room : Bytes) → length (bytes q) ≤ length room → fitted bytes q room ≡ accepted q
in_room bytes q room h = rw (le-ltb (length room) (length (bytes q)) h)

has_room : (bytes : Proof → Bytes) (q : Proof) (room : Bytes) → number_of (fitted bytes q room) ≡ 0 → fitted bytes q room ≡ accepted q
has_room bytes q room = go (ltb (length room) (length (bytes q)))
  where
    go : (b : Bool) → number_of (cond b (refused 9) (accepted q)) ≡ 0 → cond b (refused 9) (accepted q) ≡ accepted q
    go true e = absurd (omega arith)
    go false e = refl

-- the proof of an accepted answer
accepted_write : {x asked : Bytes} {leaves : List Bytes} (said raw : Option Proof) (room : Bytes) → Which (Lends x asked leaves) raw → number_of (written said raw room) ≡ 0 →
    (q : Proof) × Lends x asked leaves q × (written said raw room ≡ accepted q)
accepted_write none raw room h e = absurd (omega arith)
accepted_write (some p) none room h e = absurd (omega arith)
accepted_write (some p) (some q) room h e = (q, h, has_room message_bytes q room e)

accepted_read : {m : Bytes} (said : Option Proof) (room : Bytes) → Which (λ q. Encodes (record_of q) m q) said → number_of (read said room) ≡ 0 →
    (q : Proof) × Encodes (record_of q) m q × (read said room ≡ accepted q)
accepted_read none room h e = absurd (omega arith)
accepted_read (some q) room h e = (q, h, has_room record_of q room e)

-- A message read with enough room gives back the record.
pub read_back : {x m room f t g : Bytes} {q : Proof} {r : ℕ} → Encodes x m q → length x ≤ length room → ReadsMessage m room f r t g →
    (r ≡ 0) × (t ≡ x ++ drop (length x) room) × (g ≡ answer_bytes q)
read_back {x} {m} {room} {f} {q = q} e long v =
    let n : record_of q ≡ x = sym e.own.bytes in
    let own : Encodes (record_of q) m q = subst (λ y. Encodes y m q) (sym n) e in
    let said : read v.said room ≡ accepted q =
    ap (λ s. read s room) (one_which (λ p q. one_encoded) v.said (some q) v.exactly own) ∙ in_room record_of q room (omega (arith, ap length n, long)) in (
      v.exported.number ∙ ap (λ o. number_of o) said,
      v.record_is ∙ ap (λ o. room_after record_of o room) said ∙ ap (λ y. y ++ drop (length y) room) n,
      v.exported.told ∙ ap (λ o. told_of answer_bytes o f) said,
    )

-- A record and the raw keys and values of its message, written with enough room, make the message.
asked_again : (q : Proof) {x m : Bytes} → Encodes x m q → AskedFor (asked_in q).bytes q
asked_again (presence p) e = (e.raw.0, refl)
asked_again (absence a) e = refl

pub written_again : {x m room f t g : Bytes} {q : Proof} {r : ℕ} → Encodes x m q → length m ≤ length room →
    WritesMessage x (asked_in q).bytes (map (λ p. p.bytes) (two_leaves q)) room f r t g → (r ≡ 0) × (t ≡ m ++ drop (length m) room) × (g ≡ le 4 (length m))
written_again {x} {m} {room} {f} {q = q} e long v =
    let lends : Lends x (asked_in q).bytes (map (λ p. p.bytes) (two_leaves q)) q = record {
      encodes = record { own = e.own; raw = e.raw; is = refl };
      asked_for = asked_again q e;
      leaves_are = refl;
    } in
    let s = one_proof_said x v.said (some (own_proof sha256 q)) v.exactly e.own in
    let k = one_which one_lends v.raw (some q) v.lent lends in
    let said : written v.said v.raw room ≡ accepted q =
    ap₂ (λ a b. written a b room) s k ∙ in_room message_bytes q room (omega (arith, ap length e.is, long)) in (
      v.exported.number ∙ ap (λ o. number_of o) said,
      v.message ∙ ap (λ o. room_after message_bytes o room) said ∙ ap (λ y. y ++ drop (length y) room) e.is,
      v.exported.told ∙ ap (λ o. told_of (λ p. le 4 (length (message_bytes p))) o f) said ∙ ap (λ y. le 4 (length y)) e.is,
    )

-- The raw keys and values of a message stand where its parts say.
pub stands_there : {x m : Bytes} {q : Proof} → Encodes x m q → All (StandsIn m) (asked_in q ∷ leaves_in q)
stands_there {q = q} e = subst (λ m. All (StandsIn m) (asked_in q ∷ leaves_in q)) e.is (raw_stands_there q (encodes_raw e))

-- A message that was written.
pub record Message (x asked : Bytes) (leaves : List Bytes) (room t g : Bytes) : Type 0 where
  pub proof : Proof
  pub lends : Lends x asked leaves proof
  pub room_is : t ≡ message_bytes proof ++ drop (length (message_bytes proof)) room
  pub told_is : g ≡ le 4 (length (message_bytes proof))

pub written_message : {x asked : Bytes} {leaves : List Bytes} {room f t g : Bytes} → WritesMessage x asked leaves room f 0 t g → Message x asked leaves room t g
written_message {x} {asked} {leaves} {room} {f} w =
    let a = accepted_write w.said w.raw room w.lent (sym w.exported.number) in record {
      proof = a.0;
      lends = a.1;
      room_is = w.message ∙ ap (λ o. room_after message_bytes o room) a.2;
      told_is = w.exported.told ∙ ap (λ o. told_of (λ q. le 4 (length (message_bytes q))) o f) a.2;
    }

-- A message that was read.
pub record ReadBack (m room t g : Bytes) : Type 0 where
  pub proof : Proof
  pub encodes : Encodes (record_of proof) m proof
  pub room_is : t ≡ record_of proof ++ drop (length (record_of proof)) room
  pub told_is : g ≡ answer_bytes proof

pub read_message : {m room f t g : Bytes} → ReadsMessage m room f 0 t g → ReadBack m room t g
read_message {m} {room} {f} w =
    let a = accepted_read w.said room w.exactly (sym w.exported.number) in record {
      proof = a.0;
      encodes = a.1;
      room_is = w.record_is ∙ ap (λ o. room_after record_of o room) a.2;
      told_is = w.exported.told ∙ ap (λ o. told_of answer_bytes o f) a.2;
    }
