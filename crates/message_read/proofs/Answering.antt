-- What is answered once it is known what a message says. Assumes nothing.
use Prim.Native.Nat.{ℕ, ◌+◌, ◌-◌, ◌<◌, ◌≤◌}
use native.Mathlib.Omega.{arith}
use mathlib.Core.Path.{◌≡◌, refl, ap, ap₂, sym, ◌∙◌, subst}
use mathlib.Core.Bool.{Bool, true, false, cond}
use mathlib.Core.List.{[], ◌∷◌, ◌++◌}
use mathlib.Core.Option.{Option, none, some, none-ne-some}
use lib.ListN.{length, drop}
use borrow.Author.Tests.{lt-ltb, le-ltb}
use Rattle.terms.specs.Bits.{Bytes, Byte, All}
use Rattle.terms.specs.Fields.{le}
use Rattle.terms.specs.Records.{Proof, presence, absence}
use Rattle.meaning.specs.Calls.{Answer, refused, accepted}
use Rattle.meaning.specs.Answers.{number_of, told_of, room_after}
use Rattle.fields.specs.Written.{written}
use Rattle.sha256.specs.Sha256.{sha256}
use Rattle.messages.specs.Message.{message_bytes, most_bytes}
use Rattle.messages.specs.Raws.{RawProof}
use Rattle.messages.specs.Reading.{message_in}
use Rattle.messages.specs.Lending.{fitted, record_of, read_from}
use Rattle.messages.specs.Spots.{spots_in}
use Rattle.messages.proofs.Back.{message_at_most, message_exactly, message_said}
use Rattle.message_rules.specs.Contracts.{Encodes, read, answer_bytes, ReadsMessage}
use Rattle.message_rules.specs.Answers.{spots_bytes, read_into, answer_bytes as answerOfSpots}
use Rattle.message_rules.proofs.Writing.{written_front}
use Rattle.message_rules.proofs.Ties.{encodes_raw, raw_encodes, read_as, told_as}
use Rattle.message_form.specs.declared.Said.{Said as SaidCode}
use Rattle.message_form.specs.Said.{proof_at, Placed, Says}
use Rattle.message_read.specs.Reads.{ReadsAs}

-- no room, and room
pub reads_no_room : {q : Proof} {room f : Bytes} → length room < length (record_of sha256 q) → ReadsAs q room f 9 room f
unfolding read_from fitted
reads_no_room {q} {room} {f} h =
    let e = lt-ltb (length room) (length (record_of sha256 q)) h in record { answer = rw e; record_is = rw e; told = rw e }

pub reads_there : {q : Proof} {room f t g : Bytes} → length (record_of sha256 q) ≤ length room → t ≡ written 0 (record_of sha256 q) room →
    g ≡ le 4 (length (record_of sha256 q)) ++ spots_bytes (spots_in q) → ReadsAs q room f 0 t g
unfolding read_from fitted
reads_there {q} {room} {f} {t} {g} h w a =
    let e = le-ltb (length room) (length (record_of sha256 q)) h in
    record { answer = rw e; record_is = rw e (w ∙ written_front (record_of sha256 q) room); told = rw e a }

most_bytes_lem : (q : Proof) → most_bytes q ≤ 29999
most_bytes_lem (presence p) = omega arith
most_bytes_lem (absence a) = omega arith

-- what a message says is what it encodes
pub encodes : {m : Bytes} {q : Proof} → All Byte m → message_in m ≡ some q → Encodes (record_of sha256 q) m q
encodes {m} {q} b e = let s = message_said m q b e in raw_encodes s.0 s.1

pub short : {m : Bytes} {q : Proof} → Encodes (record_of sha256 q) m q → length m ≤ 29999
short {m} {q} e = omega (arith, message_at_most q (encodes_raw e), most_bytes_lem q, ap length e.is)

says_none : {m : Bytes} → All Byte m → message_in m ≡ none → (q : Proof) → Encodes (record_of sha256 q) m q → ⊥
says_none {m} b e q k = none-ne-some q (sym e ∙ (message_exactly m q b).1 (encodes_raw k, k.is))

pub reads_nothing : {m room f : Bytes} → All Byte m → message_in m ≡ none → ReadsMessage m room f 10 room f
reads_nothing b e = record { said = none; exactly = says_none b e; exported = record { number = refl; told = refl }; record_is = refl }

told_alike : (a : Answer Proof) (f : Bytes) → told_of answerOfSpots a f ≡ told_of answer_bytes a f
told_alike (refused n) f = refl
told_alike (accepted q) f = told_as q

pub reads_as : {m room f t g : Bytes} {q : Proof} {r : ℕ} → Encodes (record_of sha256 q) m q → ReadsAs q room f r t g → ReadsMessage m room f r t g
reads_as {m} {room} {f} {t} {g} {q} e a =
    let same = read_as (some q) room in record {
      said = some q;
      exactly = e;
      exported = record {
        number = a.answer ∙ ap (λ o. number_of o) same;
        told = a.told ∙ ap (λ o. told_of answerOfSpots o f) same ∙ told_alike (read (some q) room) f;
      };
      record_is = a.record_is ∙ ap (λ o. room_after (record_of sha256) o room) same;
    }
