-- The contracts of messages, and the words in which the code is proved: raw proofs, what is lent as a record, spots. Assumes nothing.
use Prim.Native.Nat.{ℕ, ◌+◌}
use native.Mathlib.Omega.{arith}
use mathlib.Core.Path.{◌≡◌, refl, ap, sym, ◌∙◌, subst}
use mathlib.Core.Bool.{Bool, true, false, cond, false≢true}
use mathlib.Core.List.{List, [], ◌∷◌, ◌++◌, map}
use mathlib.Core.Option.{Option, none, some}
use lib.ListN.{length, get_or, take, drop, replicate}
use lib.Dec.{ltb}
use Rattle.terms.specs.Bits.{Bytes, All}
use Rattle.terms.specs.Fields.{le, flat}
use Rattle.terms.specs.Records.{Presence, Absence, Proof, presence, absence}
use Rattle.terms.proofs.Fields.{all_of_tests}
use Rattle.meaning.specs.Calls.{Answer, refused, accepted}
use Rattle.meaning.specs.Answers.{number_of, told_of, room_after}
use Rattle.sha256.specs.Sha256.{sha256}
use Rattle.sha256.proofs.Digests.{digest_whole}
use Rattle.proofrecords.specs.ProofBytes.{proof_bytes, ProofIs, Which}
use Rattle.proofrecords.proofs.Proofs.{one_proof_is}
use Rattle.messages.specs.Message.{existence, neighbour_field, nonexistence, message_bytes, own_proof}
use Rattle.messages.specs.Raws.{RawProof}
use Rattle.messages.specs.Wire.{bytes_field}
use Rattle.messages.specs.Parts.{Part, in_field, key_part, value_part, leaf_parts, two_leaves}
use Rattle.messages.specs.Lending.{Lent, hashes_to, leaf_fits, lent_fits, raw_proof, fitted as fittedBytes, written_from, read_from, LentBytes}
use Rattle.messages.specs.Spots.{Spot, field_head, key_spot, value_spot, leaf_spots, spots_in}
use Rattle.messages.proofs.Lending.{hashes_said, lent_said, own_form}
use Rattle.messages.proofs.Back.{one_message}
use Rattle.messages.proofs.Parts.{raw_parts, parts_raw, leaves_lent, lent_of_presence, lent_of_absence}
use Rattle.message_rules.specs.Contracts.{Encodes, record_of, AskedFor, Lends, fitted, written, read, answer_bytes}
use Rattle.message_rules.specs.Answers.{written_into, read_into, spot_bytes, spots_bytes, answer_bytes as answerOfSpots}

-- what is encoded is raw, and what is raw is encoded
pub encodes_raw : {x m : Bytes} {q : Proof} → Encodes x m q → RawProof q
encodes_raw {q = q} e = parts_raw sha256 q e.raw e.own.form

pub raw_encodes : {m : Bytes} {q : Proof} → RawProof q → message_bytes q ≡ m → Encodes (record_of q) m q
raw_encodes {q = q} h is = record { own = record { bytes = refl; form = own_form sha256 digest_whole q h }; raw = raw_parts q h; is = is }

pub one_encoded : {x y m : Bytes} {p q : Proof} → Encodes x m p → Encodes y m q → p ≡ q
one_encoded {p = p} {q} e f = one_message p q (encodes_raw e) (encodes_raw f) (e.is ∙ sym f.is)

-- which one: no two
pub one_which : {P : Proof → Type 0} → ((p q : Proof) → P p → P q → p ≡ q) → (s o : Option Proof) → Which P s → Which P o → s ≡ o
one_which one none none h k = refl
one_which one none (some q) h k = absurd (h q k)
one_which one (some p) none h k = absurd (k p h)
one_which one (some p) (some q) h k = ap some (one p q h k)

-- what is lent, as a record
abbrev pub lent_from : Bytes → List Bytes → Lent
lent_from asked leaves = record {
  asked = asked;
  first = record { key = get_or leaves 0 []; value = get_or leaves 1 [] };
  second = record { key = get_or leaves 2 []; value = get_or leaves 3 [] };
}

abbrev four_of : List Bytes → List Bytes
four_of xs = get_or xs 0 [] ∷ get_or xs 1 [] ∷ get_or xs 2 [] ∷ get_or xs 3 [] ∷ []

four_leaves : (q : Proof) → four_of (map (λ p. p.bytes) (two_leaves q)) ≡ map (λ p. p.bytes) (two_leaves q)
four_leaves (presence p) = refl
four_leaves (absence a) = go a.leftward a.rightward
  where
    go : (l r : Option Presence) →
        four_of (map (λ p. p.bytes) (two_leaves (absence (record { key = a.key; leftward = l; rightward = r }))))
        ≡ map (λ p. p.bytes) (two_leaves (absence (record { key = a.key; leftward = l; rightward = r })))
    go none none = refl
    go (some l) none = refl
    go none (some r) = refl
    go (some l) (some r) = refl

pub record Fits (lent : Lent) (q : Proof) : Type 0 where
  pub fits : lent_fits sha256 lent (own_proof sha256 q) ≡ true
  pub is : raw_proof lent (own_proof sha256 q) ≡ q

-- what makes a message fits our own record of it
pub lends_fit : {x asked : Bytes} {leaves : List Bytes} (q : Proof) → Lends x asked leaves q → Fits (lent_from asked leaves) q
lends_fit {x} {asked} {leaves} (presence p) h =
    let four = ap four_of h.leaves_are ∙ four_leaves (presence p) in
    let k = lent_of_presence sha256 p (lent_from asked leaves) (encodes_raw h.encodes) h.asked_for.0 h.asked_for.1 four in
    record { fits = k.0; is = k.1 }
lends_fit {x} {asked} {leaves} (absence a) h =
    let four = ap four_of h.leaves_are ∙ four_leaves (absence a) in
    let k = lent_of_absence sha256 a (lent_from asked leaves) (encodes_raw h.encodes) h.asked_for four in
    record { fits = k.0; is = k.1 }

-- no two proofs are made of it
pub one_lends : {x asked : Bytes} {leaves : List Bytes} (p q : Proof) → Lends x asked leaves p → Lends x asked leaves q → p ≡ q
one_lends {x} {asked} {leaves} p q h k =
    let same = one_proof_is x (own_proof sha256 p) (own_proof sha256 q) h.encodes.own k.encodes.own in
    sym (lends_fit p h).is ∙ ap (raw_proof (lent_from asked leaves)) same ∙ (lends_fit q k).is

-- and what fits a record makes a message
asked_said : (lent : Lent) (p : Proof) → LentBytes lent → lent_fits sha256 lent p ≡ true → AskedFor lent.asked (raw_proof lent p)
unfolding leaf_fits
asked_said lent (presence p) b e =
    let k = hashes_said sha256 256 lent.asked p.key b.asked_bytes (all_of_tests _ e).0 in
    let leaf = all_of_tests _ (all_of_tests _ (all_of_tests _ e).1.0).0 in
    (k.0, k.1 ∙ sym (hashes_said sha256 256 lent.first.key p.key b.first_key leaf.0).1)
asked_said lent (absence a) b e = refl

pub fit_lends : {x : Bytes} {p : Proof} (lent : Lent) → LentBytes lent → ProofIs x p → lent_fits sha256 lent p ≡ true →
    Lends x lent.asked (lent.first.key ∷ lent.first.value ∷ lent.second.key ∷ lent.second.value ∷ []) (raw_proof lent p)
fit_lends {x} {p} lent b is e =
    let s = lent_said sha256 lent p is.form b e in
    record {
      encodes = record { own = subst (ProofIs x) (sym s.1) is; raw = raw_parts (raw_proof lent p) s.0; is = refl };
      asked_for = asked_said lent p b e;
      leaves_are = leaves_lent sha256 lent p e;
    }

-- An answer that writes the message of a proof.
abbrev message_of : Answer Proof → Answer Bytes
message_of (refused n) = refused n
message_of (accepted q) = accepted (message_bytes q)

pub number_of_message : (a : Answer Proof) → number_of (message_of a) ≡ number_of a
number_of_message (refused n) = refl
number_of_message (accepted q) = refl

pub room_of_message : (a : Answer Proof) (room : Bytes) → room_after (λ m. m) (message_of a) room ≡ room_after message_bytes a room
room_of_message (refused n) room = refl
room_of_message (accepted q) room = refl

pub told_of_message : (a : Answer Proof) (f : Bytes) → told_of (λ m. le 4 (length m)) (message_of a) f ≡ told_of (λ q. le 4 (length (message_bytes q))) a f
told_of_message (refused n) f = refl
told_of_message (accepted q) f = refl

-- Writing by what is lent as a record is writing by the proof that it makes.
pub record WritesAs (x : Bytes) (said : Option Proof) (lent : Lent) (room : Bytes) : Type 0 where
  pub raw : Option Proof
  pub lends : Which (Lends x lent.asked (lent.first.key ∷ lent.first.value ∷ lent.second.key ∷ lent.second.value ∷ [])) raw
  pub same : written_into said lent room ≡ message_of (written said raw room)

in_room : (q : Proof) (room : Bytes) → fittedBytes sha256 (length room) (message_bytes q) (message_bytes q) ≡ message_of (fitted message_bytes q room)
unfolding fittedBytes
in_room q room = go (ltb (length room) (length (message_bytes q)))
  where
    go : (b : Bool) → cond b (refused 9) (accepted (message_bytes q)) ≡ message_of (cond b (refused 9) (accepted q))
    go true = refl
    go false = refl

pub writes_as : (x : Bytes) (said : Option Proof) (lent : Lent) (room : Bytes) → Which (ProofIs x) said → LentBytes lent → WritesAs x said lent room
unfolding written_from
writes_as x none lent room is b = record { raw = none; lends = λ q h. is (own_proof sha256 q) h.encodes.own; same = refl }
writes_as x (some p) lent room is b = go (lent_fits sha256 lent p) refl
  where
    go : (t : Bool) → lent_fits sha256 lent p ≡ t → WritesAs x (some p) lent room
    go true e = record { raw = some (raw_proof lent p); lends = fit_lends lent b is e; same = rw e (in_room (raw_proof lent p) room) }
    go false e = record {
      raw = none;
      lends = λ q h. false≢true (sym e ∙ subst (λ y. lent_fits sha256 lent y ≡ true) (one_proof_is x (own_proof sha256 q) p h.encodes.own is) (lends_fit q h).fits);
      same = rw e;
    }

-- Reading by tests is reading.
pub read_as : (said : Option Proof) (room : Bytes) → read_into said room ≡ read said room
unfolding read_from fittedBytes
read_as none room = refl
read_as (some q) room = refl

-- What is told by spots is told by parts.
abbrev told : List Part → Bytes
told parts = flat (map (λ p. le 4 p.at ++ le 4 (length p.bytes)) parts)

abbrev told_of_leaves : Bytes → ℕ → ℕ → ℕ → Option Presence → Option Presence → Bytes
told_of_leaves asked s start next l r =
    told (key_part s asked ∷ take 4 ((leaf_parts start 2 l ++ leaf_parts next 3 r) ++ replicate 4 (record { at = 0; most = 0; bytes = [] })))

beside_told : (asked : Bytes) (s start next : ℕ) (l r : Option Presence) → start + length (neighbour_field 2 l) ≡ next →
    spots_bytes (leaf_spots (key_spot s asked) start l r) ≡ told_of_leaves asked s start next l r
unfolding field_head
beside_told asked s start next none none e = refl
beside_told asked s start next (some l) none e = refl
beside_told asked s start next none (some r) e = let same : start ≡ next = omega arith in ap (λ n. told_of_leaves asked s start n none (some r)) same
beside_told asked s start next (some l) (some r) e = ap (λ n. told_of_leaves asked s start n (some l) (some r)) e

pub told_as : (q : Proof) → answerOfSpots q ≡ answer_bytes q
unfolding spots_in field_head
told_as (presence p) =
    let head = length (field_head 1 (existence p)) in
    let e : head ≡ 0 + head = omega arith in
    ap (λ s. le 4 (length (record_of (presence p))) ++ told (key_part s p.key ∷ key_part s p.key ∷ value_part (s + length (bytes_field 1 p.key)) p.value ∷ replicate 2 (record { at = 0; most = 0; bytes = [] }))) e
told_as (absence a) =
    let head = length (field_head 2 (nonexistence a)) in
    let e : head ≡ 0 + head = omega arith in
    let start : ℕ → ℕ = λ s. s + length (bytes_field 1 a.key) in
    let next : ℕ → ℕ = λ s. start s + length (neighbour_field 2 a.leftward) in
    ap (λ b. le 4 (length (record_of (absence a))) ++ b)
    (beside_told a.key head (start head) (next head) a.leftward a.rightward refl
    ∙ ap (λ s. told_of_leaves a.key s (start s) (next s) a.leftward a.rightward) e)
