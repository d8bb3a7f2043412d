-- What proving leaves where it answers 0: the proof's bytes at the front of the room, their number, and their kind. Assumes nothing.
use Prim.Native.Nat.{ℕ, ◌<◌, ◌≤◌}
use native.Mathlib.Omega.{arith}
use mathlib.Core.Path.{◌≡◌, refl, ap, sym, ◌∙◌, subst}
use mathlib.Core.Bool.{Bool, true, false, cond}
use mathlib.Core.List.{List, [], ◌∷◌, ◌++◌, append_assoc}
use mathlib.Core.Option.{Option, none, some}
use lib.ListN.{length, take, drop}
use lib.Seq.{take_at}
use lib.Dec.{eqb, ltb}
use borrow.Author.Tests.{eqb-true, ltb-false}
use Rattle.terms.specs.declared.Form.TheVariants.{Counted as counted}
use Rattle.terms.specs.Bits.{Bytes}
use Rattle.terms.specs.Fields.{le, num, field, flat}
use Rattle.terms.specs.Records.{Presence, Proof, presence, absence}
use Rattle.terms.proofs.Fields.{num_le, length_le, slice_between}
use Rattle.meaning.specs.Calls.{Answer, refused, accepted}
use Rattle.meaning.specs.Proving.{proof, presence_length, neighbour_length, proof_length, fitted, prove}
use Rattle.meaning.proofs.Told.{exported_left}
use Rattle.shown.proofs.Theorems.{proofs_have_17080_bytes}
use Rattle.proofrecords.specs.ProofBytes.{presence_kind, absence_kind, steps_bytes, flags_of, presence_bytes, neighbour_bytes, absence_bytes, proof_bytes, PresenceForm, NeighbourForm, ProofForm}
use Rattle.proofrecords.proofs.Proofs.{length_presence, length_absence}
use Rattle.layout.specs.Headers.{Headed, refusal, header, header_of}
use Rattle.layout.specs.Stores.{store_of}
use Rattle.promises.specs.Headed.{by_header}
use Rattle.meaning.specs.Answers.{room_after}
use Rattle.contracts.specs.Proves.{prove_answer}
use Rattle.contracts.specs.Contracts.{Proves}
use Rattle.demands.proofs.Refusals.{clash, accepted_of, prove_nonzero}

-- the tests that a proof has passed
pub record Given (s : Bytes) (v : ℕ) (k : Bytes) (room : ℕ) (p : Proof) : Type 0 where
  pub key : length k ≡ 32
  pub capacity : ℕ
  pub oldest : ℕ
  pub latest : ℕ
  pub headed : header_of counted s ≡ header capacity oldest latest
  pub proved : proof (store_of s) v k ≡ accepted p
  pub fits : proof_length p ≤ room

given_is : (s : Bytes) (v : ℕ) (k : Bytes) (room : ℕ) (p : Proof) → prove_answer s none v k room ≡ accepted p → Given s v k room p
unfolding prove_answer prove proof
given_is s v k room p = go (eqb (length k) 32) (header_of counted s) (proof (store_of s) v k) refl refl refl
  where
    within : (q : Proof) (b : Bool) → ltb room (proof_length q) ≡ b → cond b (refused 9) (accepted q) ≡ accepted p →
        (q ≡ p) × (proof_length q ≤ room)
    within q true e h = clash (cc)
    within q false e h = (cc, ltb-false room (proof_length q) e)

    go : (b : Bool) (h : Headed) (a : Answer Proof) → eqb (length k) 32 ≡ b → header_of counted s ≡ h → proof (store_of s) v k ≡ a →
        cond b (by_header h (fitted room a)) (refused 12) ≡ accepted p → Given s v k room p
    go false h a e f g z = clash (cc)
    go true (refusal m) a e f g z = clash (cc)
    go true (header c o l) (refused m) e f g z = clash (cc)
    go true (header c o l) (accepted q) e f g z =
        let w = within q (ltb room (proof_length q)) refl z in
        record {
          key = eqb-true (length k) 32 e;
          capacity = c;
          oldest = o;
          latest = l;
          headed = f;
          proved = g ∙ ap accepted w.0;
          fits = subst (λ x. proof_length x ≤ room) w.0 w.1;
        }

-- the length of a proof in form
presence_long : (q : Presence) → PresenceForm q → length (presence_bytes q) ≡ presence_length q
unfolding presence_length
presence_long q f = length_presence q f

neighbour_long : (o : Option Presence) → NeighbourForm o → length (neighbour_bytes o) ≡ neighbour_length o
neighbour_long none f = refl
neighbour_long (some q) f = presence_long q f

pub proof_long : (p : Proof) → ProofForm p → length (proof_bytes p) ≡ proof_length p
proof_long (presence q) f = presence_long q f
proof_long (absence a) f =
    length_absence a f.0 f.1 f.2 ∙ omega (arith, neighbour_long a.leftward f.1, neighbour_long a.rightward f.2)

-- its kind
kind_after : (n kind : ℕ) (fs : List Bytes) (rest : Bytes) → kind < 65536 → field 4 2 (flat (le 4 n ∷ le 2 kind ∷ fs) ++ rest) ≡ kind
unfolding field
kind_after n kind fs rest h =
    let e : (le 4 n ++ (le 2 kind ++ flat fs)) ++ rest ≡ le 4 n ++ (le 2 kind ++ (flat fs ++ rest)) = simp append_assoc in
    rw e (ap num (slice_between (le 4 n) (le 2 kind) (flat fs ++ rest) 4 2 (length_le 4 n) (length_le 2 kind)) ∙ num_le 2 kind (omega arith))

abbrev pub kind_of : Proof → ℕ
kind_of (presence q) = presence_kind
kind_of (absence a) = absence_kind

pub kind_is : (p : Proof) (rest : Bytes) → field 4 2 (proof_bytes p ++ rest) ≡ kind_of p
unfolding presence_bytes absence_bytes
kind_is (presence q) rest =
    kind_after _ presence_kind (le 2 (length q.steps) ∷ q.key ∷ q.value ∷ steps_bytes q.steps ∷ []) rest (omega arith)
kind_is (absence a) rest =
    let l = a.leftward in
    let r = a.rightward in
    kind_after _ absence_kind (le 2 (flags_of l r) ∷ a.key ∷ neighbour_bytes l ∷ neighbour_bytes r ∷ []) rest (omega arith)

module _ {s : Bytes} {v : ℕ} {k room f t g : Bytes} (w : Proves s v k room f 0 t g) where
  there_is : (p : Proof) × (prove_answer s none v k (length room) ≡ accepted p)
  there_is = accepted_of (prove_answer s none v k (length room)) (prove_nonzero s v k (length room)) w.exported.number

  pub its_proof : Proof
  its_proof = there_is.0

  is_given : prove_answer s none v k (length room) ≡ accepted its_proof
  unfolding its_proof
  is_given = there_is.1

  pub its_tests : Given s v k (length room) its_proof
  its_tests = given_is s v k (length room) its_proof is_given

  its_length : proof_length its_proof ≤ 17080
  its_length = proofs_have_17080_bytes (store_of s) v k its_proof its_tests.proved

  pub told_length : num g ≡ proof_length its_proof
  told_length =
      let h = its_length in
      ap num (exported_left w.exported is_given).1 ∙ num_le 4 (proof_length its_proof) (omega arith)

  pub told_short : num g ≤ 17080
  told_short = omega (arith, told_length, its_length)

  room_is : t ≡ proof_bytes its_proof ++ drop (length (proof_bytes its_proof)) room
  room_is = w.proof ∙ ap (λ a. room_after proof_bytes a room) is_given

  pub kind_told : field 4 2 t ≡ kind_of its_proof
  kind_told = ap (field 4 2) room_is ∙ kind_is its_proof _

  pub front_is : ProofForm its_proof → take (num g) t ≡ proof_bytes its_proof
  front_is h =
      ap (take (num g)) room_is ∙ take_at (proof_bytes its_proof) _ (num g) (proof_long its_proof h ∙ sym told_length)
