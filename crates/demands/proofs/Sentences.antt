-- Single sentences of document 02 over the contracts, in their own words. Assumes nothing.
use Prim.Native.Nat.{ℕ, ◌+◌, ◌≤◌}
use native.Mathlib.Omega.{arith}
use mathlib.Core.Path.{◌≡◌, refl, ap, sym, ◌∙◌}
use mathlib.Core.List.{[], ◌∷◌, ◌++◌, append-nil, append_assoc}
use mathlib.Core.Option.{Option, none, some}
use lib.ListN.{length, length-append}
use borrow.Author.Tests.{le-ltb}
use Rattle.terms.specs.declared.Form.TheVariants.{Counted as counted}
use Rattle.terms.specs.Bits.{Bytes}
use Rattle.terms.specs.Fields.{le, num, field, slice, flat}
use Rattle.terms.specs.Records.{Presence, Absence, Proof, presence, absence}
use Rattle.terms.proofs.Fields.{num_le, length_le, slice_between}
use Rattle.meaning.specs.Sound.{Kept}
use Rattle.meaning.specs.Calls.{Answer, accepted}
use Rattle.meaning.specs.Reading.{Verdict}
use Rattle.meaning.specs.Answers.{number_of, room_after}
use Rattle.meaning.proofs.Told.{exported_left, seen}
use Rattle.shown.proofs.Theorems.{kept_test}
use Rattle.proofrecords.specs.ProofBytes.{absence_kind, absence_head, flags_of, neighbour_bytes, proof_bytes, absence_bytes, ProofForm}
use Rattle.layout.specs.Headers.{header, header_of}
use Rattle.layout.specs.Stores.{store_of}
use Rattle.verify_rules.specs.Verify.{Judged, Told, not_32_bytes, not_in_form, in_form}
use Rattle.palette_rules.specs.Palette.{whole_keys, keys_in, palette}
use Rattle.meaning.specs.Proving.{proof}
use Rattle.contracts.specs.Palettes.{palette_answer, proofs_bytes}
use Rattle.contracts.specs.Contracts.{Verifies, Palettes}
use Rattle.demands.proofs.Given.{kind_of, kind_is}

-- the kind and the flags of a proof's bytes
kind_alone : (p : Proof) → field 4 2 (proof_bytes p) ≡ kind_of p
kind_alone p = ap (field 4 2) (sym (append-nil (proof_bytes p))) ∙ kind_is p []

flags_small : (l r : Option Presence) → flags_of l r ≤ 3
flags_small none none = omega arith
flags_small (some l) none = omega arith
flags_small none (some r) = omega arith
flags_small (some l) (some r) = omega arith

flags_of_lem : (a : Absence) → field 6 2 (proof_bytes (absence a)) ≡ flags_of a.leftward a.rightward
unfolding field absence_bytes
flags_of_lem a =
    let l = a.leftward in
    let r = a.rightward in
    let n = absence_head + length (neighbour_bytes l) + length (neighbour_bytes r) in
    let rest = flat (a.key ∷ neighbour_bytes l ∷ neighbour_bytes r ∷ []) in
    let m = length_le 4 n in
    let k = length_le 2 absence_kind in
    let head : length (le 4 n ++ le 2 absence_kind) ≡ 6 = simp length-append (omega arith) in
    ap (λ x. num (slice 6 2 x)) (sym (append_assoc (le 4 n) (le 2 absence_kind) (le 2 (flags_of l r) ++ rest)))
    ∙ ap num (slice_between (le 4 n ++ le 2 absence_kind) (le 2 (flags_of l r)) rest 6 2 head (length_le 2 (flags_of l r)))
    ∙ num_le 2 (flags_of l r) (omega (arith, flags_small l r))

-- 2026-03: 'From now on flags 0 is off form (10)', also under the zero root and with another key in it.
pub flags_0_is_off_form : {root k x f g : Bytes} {r : ℕ} → length root ≡ 32 → length k ≡ 32 → field 4 2 x ≡ absence_kind →
    field 6 2 x ≡ 0 → Verifies root k x f r g → r ≡ 10
flags_0_is_off_form {root} {k} {x} e d kind flags w = (seen w).exported.number ∙ go (seen w).said
  where
    flagged : (p : Proof) → ProofForm p → field 4 2 (proof_bytes p) ≡ absence_kind → field 6 2 (proof_bytes p) ≡ 0 → ⊥
    flagged (presence q) h a b = omega (arith, a, kind_alone (presence q))
    flagged (absence q) h a b = omega (arith, b, flags_of_lem q, h.3)

    go : {a : Answer Verdict} → Told Judged root k x a → number_of a ≡ 10
    go (not_32_bytes n) = absurd (n (e, d))
    go (not_in_form s n) = refl
    go (in_form {p} s is h) =
        absurd (flagged p is.form (ap (field 4 2) (sym is.bytes) ∙ kind) (ap (field 6 2) (sym is.bytes) ∙ flags))

-- 2026-04: 'No keys: 1, 2 and 8 are still tested, then it is accepted', also in an empty version: nothing is written, and the length is 0.
pub no_keys_are_accepted : {s room f t g : Bytes} {v r c o l : ℕ} → header_of counted s ≡ header c o l → Kept (store_of s) v →
    Palettes s v [] room f r t g → (r ≡ 0) × (t ≡ room) × (g ≡ le 4 0)
unfolding palette_answer palette whole_keys keys_in proof
no_keys_are_accepted {s} {room} {v = v} headed kept w =
    let is : palette_answer s none v [] (length room) ≡ accepted [] = rw (headed, kept_test (store_of s) v kept) (rw (le-ltb (length room) 0 (omega arith))) in
    let (e, d) = exported_left w.exported is in (e, w.proofs ∙ ap (λ a. room_after proofs_bytes a room) is, d)
