-- Writing and reading a message, over the contracts: one outcome, numbers exactly by the table, and document 02's words. Assumes nothing.
use Prim.Native.Nat.{ℕ, ◌≤◌, ◌^◌, ◌<◌}
use native.Mathlib.Omega.{arith}
use mathlib.Core.Logic.{◌↔◌}
use mathlib.Core.Path.{◌≡◌, refl, ap, sym, ◌∙◌, subst}
use mathlib.Core.Bool.{Bool, true, false, cond}
use mathlib.Core.List.{List, ◌++◌}
use mathlib.Core.Option.{Option, none, some}
use lib.ListN.{length, take, drop, length-append}
use lib.Seq.{take_at}
use lib.Dec.{eqb}
use borrow.Author.Tests.{eqb-true, eqb-false}
use Rattle.terms.specs.Bits.{Bytes}
use Rattle.terms.specs.Fields.{le, num}
use Rattle.terms.specs.Records.{Presence, Proof, presence, absence}
use Rattle.terms.proofs.Fields.{num_le, length_le}
use Rattle.terms.proofs.Tests.{same_bytes_lem, bytes_same}
use Rattle.meaning.specs.Calls.{Answer, refused, accepted}
use Rattle.meaning.specs.Reading.{Verdict}
use Rattle.checker.specs.Holding.{Leads}
use Rattle.meaning.specs.Answers.{number_of}
use Rattle.meaning.proofs.Told.{seen, exported_left}
use Rattle.sha256.specs.Sha256.{sha256}
use Rattle.nodehash.specs.Node.{leaf_hash, inner_hash}
use Rattle.proofrecords.specs.ProofBytes.{proof_bytes, NeighbourForm, ProofForm, neighbour_bytes, ProofIs}
use Rattle.proofrecords.proofs.Proofs.{length_presence, length_absence}
use Rattle.messages.specs.Message.{existence_of, message_bytes, most_bytes, own_presence, own_proof}
use Rattle.messages.specs.Parts.{asked_in}
use Rattle.messages.specs.Raws.{RawProof}
use Rattle.messages.proofs.Back.{message_at_most}
use Rattle.message_rules.specs.Contracts.{Encodes, record_of, Lends, answer_bytes}
use Rattle.message_rules.proofs.Ties.{encodes_raw}
use Rattle.demands.proofs.Hashes.{digest_whole}
use Rattle.message_words.proofs.Theorems.{Message, written_message, ReadBack, read_message, read_back, written_again, stands_there}
pub use Rattle.message_words.proofs.Theorems.{one_write, one_read, refused_write_writes_nothing, refused_read_writes_nothing}
use Rattle.partner.specs.Verifying.{calculated}
use Rattle.partner.specs.Ours.{our_spec, partner_accepts, verdict_of}
use Rattle.partner.proofs.Theorems.{checked_by_partner, accepted_root_32, led_as_ours}
use Rattle.verify_rules.specs.Verify.{Judged, Told, not_32_bytes, in_form}
use Rattle.verify_rules.proofs.Told.{judged_exactly, one_verdict}
use Rattle.refusals.specs.Exactly.{Exactly}
use Rattle.refusals.proofs.Exactly.{First, exactly}
use Rattle.refusals.proofs.Messages.{write_first, read_first}
use Rattle.contracts.specs.Contracts.{Verifies, WritesMessage, ReadsMessage}
use Rattle.refusals.specs.Tables.{write_message_rows, read_message_rows}
use Rattle.demands.specs.Messages.{PartnerAgrees, MessageGiven, MessageTaken}

-- 10, 15, 9 exactly, and 10, 9.
pub write_message_exactly : {x asked : Bytes} {leaves : List Bytes} {room f t g : Bytes} {r : ℕ} → WritesMessage x asked leaves room f r t g →
    Exactly (write_message_rows x asked leaves room) r
write_message_exactly {x} {asked} {leaves} {room} {r = r} w =
    exactly (write_message_rows x asked leaves room) r refl
    (subst (First (write_message_rows x asked leaves room)) (sym w.exported.number) (write_first x asked leaves room w.said w.raw w.exactly w.lent))

pub read_message_exactly : {m room f t g : Bytes} {r : ℕ} → ReadsMessage m room f r t g → Exactly (read_message_rows m room) r
read_message_exactly {m} {room} {r = r} w =
    exactly (read_message_rows m room) r refl (subst (First (read_message_rows m room)) (sym w.exported.number) (read_first m room w.said w.exactly))

most : (q : Proof) → most_bytes q ≤ 29999
most (presence p) = omega arith
most (absence a) = omega arith

-- What our check answers of a record under any root, by the partner's answer to its message.
record Agreed (root x : Bytes) (q : Proof) : Type 0 where
  n : ℕ
  not_0 : 1 ≤ n
  told : Told Judged root (sha256 (asked_in q).bytes) x (cond (partner_accepts sha256 root q) (accepted (verdict_of sha256 q)) (refused n))

agreed : (root x : Bytes) (q : Proof) → RawProof q → ProofIs x (own_proof sha256 q) → Agreed root x q
unfolding leaf_hash inner_hash
agreed root x q h is = go (eqb (length root) 32) refl
  where
    sha32 : (y : Bytes) → length (sha256 y) ≡ 32
    sha32 y = (digest_whole y).0

    refuses : (b : Bool) → partner_accepts sha256 root q ≡ b → (length root ≡ 32 → ⊥) → partner_accepts sha256 root q ≡ false
    refuses true a other = absurd (other (accepted_root_32 sha256 sha32 root q h a))
    refuses false a other = a

    go : (b : Bool) → eqb (length root) 32 ≡ b → Agreed root x q
    go true t = record {
      n = 11;
      not_0 = omega arith;
      told =
          in_form (eqb-true (length root) 32 t, sha32 (asked_in q).bytes) is
          ((judged_exactly root (sha256 (asked_in q).bytes) (own_proof sha256 q) _).1 (sym (checked_by_partner sha256 sha32 root q h)));
    }
    go false t = record {
      n = 12;
      not_0 = omega arith;
      told =
          subst (λ b. Told Judged root (sha256 (asked_in q).bytes) x (cond b (accepted (verdict_of sha256 q)) (refused 12)))
          (sym (refuses (partner_accepts sha256 root q) refl (eqb-false (length root) 32 t))) (not_32_bytes (λ s. eqb-false (length root) 32 t s.0));
    }

partner_agrees : (x : Bytes) (q : Proof) → RawProof q → ProofIs x (own_proof sha256 q) → PartnerAgrees x q
partner_agrees x q h own = record {
  agrees = λ {root} {f} {g} {r} w. (λ t. (exported_left (seen w).exported (taken w t)).0, λ z. back w (sym (seen w).exported.number ∙ z));
  found = λ w. (exported_left (seen w).exported (taken w (back w (sym (seen w).exported.number)))).1;
}
  where
    ours : Bytes → Answer Verdict
    ours root = cond (partner_accepts sha256 root q) (accepted (verdict_of sha256 q)) (refused (agreed root x q h own).n)

    same : {root f g : Bytes} {r : ℕ} (w : Verifies root (sha256 (asked_in q).bytes) x f r g) → (seen w).answer ≡ ours root
    same {root} w = one_verdict root (sha256 (asked_in q).bytes) x (seen w).answer (ours root) (seen w).said (agreed root x q h own).told

    taken : {root f g : Bytes} {r : ℕ} (w : Verifies root (sha256 (asked_in q).bytes) x f r g) → partner_accepts sha256 root q ≡ true →
        (seen w).answer ≡ accepted (verdict_of sha256 q)
    taken {root} w t = same w ∙ ap (λ b. cond b (accepted (verdict_of sha256 q)) (refused (agreed root x q h own).n)) t

    only : (b : Bool) (v : Verdict) (n : ℕ) → 1 ≤ n → number_of (cond b (accepted v) (refused n)) ≡ 0 → b ≡ true
    only true v n l z = refl
    only false v n l z = absurd (omega arith)

    back : {root f g : Bytes} {r : ℕ} (w : Verifies root (sha256 (asked_in q).bytes) x f r g) → number_of (seen w).answer ≡ 0 → partner_accepts sha256 root q ≡ true
    back {root} w z =
        let a = agreed root x q h own in
        only (partner_accepts sha256 root q) (verdict_of sha256 q) a.n a.not_0 (sym (ap (λ o. number_of o) (same w)) ∙ z)

-- What was written is a message that reading gives back.
pub message_is_given : {x asked : Bytes} {leaves : List Bytes} {room f t g : Bytes} → WritesMessage x asked leaves room f 0 t g → MessageGiven x asked leaves t g
message_is_given {x} {asked} {leaves} {room} {f} {t} {g} w =
    let k = written_message w in
    let q = k.proof in
    let m = message_bytes q in
    let e = k.lends.encodes in
    let short : length m ≤ most_bytes q = message_at_most q (encodes_raw e) in
    let long : num g ≡ length m = ap num k.told_is ∙ num_le 4 (length m) (omega (arith, short, most q)) in
    let same : m ≡ take (num g) t = sym (ap (take (num g)) k.room_is ∙ take_at m (drop (length m) room) (num g) (sym long)) in
    let there : Encodes x (take (num g) t) q = subst (λ y. Encodes x y q) same e in
    record {
      proof = q;
      encodes = there;
      lends = k.lends;
      at_most = omega (arith, long, short);
      given_back = λ {room = room₁} {f = f₁} {u} {h} {r} fits v. read_back there fits v;
      stands = stands_there there;
      accepted = λ {room = room₁} {f = f₁} {u} {h} {root} {k = key} {a} {b} {r} {n} fits v.
          let is : take (length x) u ≡ x = ap (take (length x)) (read_back there fits v).1 ∙ take_at x (drop (length x) room₁) (length x) refl in
          (subst (λ y. Verifies root key y a n b) is, subst (λ y. Verifies root key y a n b) (sym is));
      partner = partner_agrees x q (encodes_raw there) there.own;
    }

-- a record in form is short
few_beside : (o : Option Presence) → NeighbourForm o → length (neighbour_bytes o) ≤ 8520
few_beside none h = omega arith
few_beside (some p) h = rw (length_presence p h) (omega (arith, h.short))

few : (p : Proof) → ProofForm p → length (proof_bytes p) ≤ 17080
few (presence p) h = omega (arith, length_presence p h, h.short)
few (absence a) h = omega (arith, length_absence a h.0 h.1 h.2, few_beside a.leftward h.1, few_beside a.rightward h.2)

-- What was read is a message, and our own record of it makes it again.
pub message_is_taken : {m room f t g : Bytes} → ReadsMessage m room f 0 t g → MessageTaken m t g
message_is_taken {m} {room} {f} {t} {g} w =
    let k = read_message w in
    let q = k.proof in
    let x = record_of q in
    let first : take 4 g ≡ le 4 (length x) = ap (take 4) k.told_is ∙ take_at (le 4 (length x)) _ 4 (length_le 4 (length x)) in
    let long : num (take 4 g) ≡ length x = ap num first ∙ num_le 4 (length x) (omega (arith, few (own_proof sha256 q) k.encodes.own.form)) in
    let same : take (num (take 4 g)) t ≡ x =
    ap (take (num (take 4 g))) k.room_is ∙ take_at x (drop (length x) room) (num (take 4 g)) (sym long) in
    let there : Encodes (take (num (take 4 g)) t) m q = subst (λ y. Encodes y m q) (sym same) k.encodes in
    record {
      proof = q;
      encodes = there;
      written_so = λ {room = room₁} {f = f₁} {t₁} {g₁} {r} fits v. written_again k.encodes fits v;
      partner = partner_agrees (take (num (take 4 g)) t) q (encodes_raw there) there.own;
    }

-- A partner's check is led to a root by an existence proof of a message exactly if our own record of it is.
pub led_alike : {x m : Bytes} (p : Presence) → Encodes x m (presence p) → (root : Bytes) →
    (calculated our_spec sha256 (existence_of p) ≡ some root) ↔ Leads leaf_hash inner_hash root (sha256 p.key) (own_presence sha256 p)
unfolding leaf_hash inner_hash
led_alike p e root = led_as_ours sha256 (λ y. (digest_whole y).0) root p (encodes_raw e)
