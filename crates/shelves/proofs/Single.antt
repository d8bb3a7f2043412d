-- Nothing is accepted that the single checks don't accept: each record of a proof that is accepted is accepted by itself.
-- So a false answer has a false record, and what is found of that is a finding. Assumes nothing.
use Prim.Native.Nat.{ℕ, ◌≤◌}
use native.Mathlib.Omega.{arith}
use mathlib.Core.Path.{◌≡◌, refl, ap, sym, ◌∙◌, subst}
use lib.ListN.{length}
use Rattle.terms.specs.Bits.{Bytes}
use Rattle.terms.specs.Records.{Proof, presence, absence}
use Rattle.terms.proofs.Places.{length_pack}
use Rattle.meaning.specs.Calls.{Answer, accepted}
use Rattle.meaning.specs.Reading.{Verdict, present, absent}
use Rattle.meaning.specs.Answers.{number_of, told_of, found_bytes, exports_answer}
use Rattle.meaning.proofs.Told.{seen}
use Rattle.checker.specs.Holding.{Holds, shown, only_left, only_right, both}
use Rattle.nodehash.specs.Node.{leaf_hash, inner_hash}
use Rattle.proofrecords.specs.ProofBytes.{proof_bytes, ProofForm}
use Rattle.shelf_rules.specs.Reading.{shelf_bytes, ShelfForm}
use Rattle.shelf_rules.proofs.Told.{shelf_in_form}
use Rattle.shelf_rules.specs.Shelf.{part_key, ShelfProof, ShelfIs, ShelfHolds, no_part_lem, in-part, ShelfTold, not_32_bytes, too_many_bits, not_in_form, not_holding, holding}
use Rattle.verify_rules.specs.Verify.{holding as holding-alone, in_form}
use Rattle.contracts.specs.Contracts.{Verifies, ShelfVerifies}
use Rattle.shelves.specs.Shelf.{BySingleChecks, list_alone, both_records}

-- what was accepted
pub record Accepted (root : Bytes) (b : ℕ) (k y g : Bytes) : Type 0 where
  pub root32 : length root ≡ 32
  pub key32 : length k ≡ 32
  pub few : b ≤ 12
  pub proof : ShelfProof
  pub is_proof_lem : ShelfIs y proof
  pub answer : Verdict
  pub holds : ShelfHolds root b k proof answer
  pub told : g ≡ found_bytes answer

pub what_was_accepted : {root k y f g : Bytes} {b : ℕ} → ShelfVerifies root b k y f 0 g → Accepted root b k y g
what_was_accepted {root} {k} {y} {f} {g} {b} w = let x = seen w in go x.said x.exported.number x.exported.told
  where
    go : {a : Answer Verdict} → ShelfTold root b k y a → 0 ≡ number_of a → g ≡ told_of found_bytes a f → Accepted root b k y g
    go (not_32_bytes n) c z = absurd (omega arith)
    go (too_many_bits s m) c z = absurd (omega arith)
    go (not_in_form s l n) c z = absurd (omega arith)
    go (not_holding s l i n) c z = absurd (omega arith)
    go (holding {p} {v} s l i h) c z =
        record { root32 = s.0; key32 = s.1; few = l; proof = p; is_proof_lem = i; answer = v; holds = h; told = z }

-- a record that holds is accepted by itself
pub accepted_alone : (root k : Bytes) (p : Proof) (a : Verdict) (f : Bytes) → length root ≡ 32 → length k ≡ 32 → ProofForm p →
    Holds leaf_hash inner_hash root k p a → Verifies root k (proof_bytes p) f 0 (found_bytes a)
accepted_alone root k p a f r l h i =
    exports_answer (in_form (r, l) (record { bytes = refl; form = h }) (holding-alone i))

pub key_32 : (b : ℕ) (k : Bytes) → length (part_key b k) ≡ 32
unfolding part_key
key_32 b k = length_pack 32 _

-- the value of a presence in form has 32 bytes
no_presence : {A : Type 0} {v : Bytes} → absent ≡ present v → A
no_presence e = let z : ◌≡◌ {A = ℕ} 0 1 = cc in absurd (omega arith)

value_32 : {root k : Bytes} (p : Proof) (a : Verdict) → ProofForm p → Holds leaf_hash inner_hash root k p a → (v : Bytes) → a ≡ present v → length v ≡ 32
value_32 _ _ h (shown {p} e l) v q = let z : p.value ≡ v = cc in ap length (sym z) ∙ h.value32.0
value_32 _ _ h (only_left e l o) v q = no_presence q
value_32 _ _ h (only_right e l o) v q = no_presence q
value_32 _ _ h (both e l r o) v q = no_presence q

-- Nothing is accepted that the single checks don't accept.
pub only_what_single_checks_accept : {root k y f g : Bytes} {b : ℕ} → ShelfVerifies root b k y f 0 g → BySingleChecks root b k y g
only_what_single_checks_accept {root} {k} {y} {f} {g} {b} w =
    let a = what_was_accepted w in
    let u = shelf_in_form a.is_proof_lem in
    subst (BySingleChecks root b k y) (sym a.told)
    (subst (λ z. BySingleChecks root b k z (found_bytes a.answer)) (sym u.0) (go a.root32 a.key32 u.1 a.holds))
  where
    go : {p : ShelfProof} {v : Verdict} → length root ≡ 32 → length k ≡ 32 → ShelfForm p → ShelfHolds root b k p v → BySingleChecks root b k (shelf_bytes p) (found_bytes v)
    go r l h (no_part_lem {a} i) = list_alone (accepted_alone root (part_key b k) (absence a) absent f r (key_32 b k) h i)
    go r l h (in-part {p} {q} {part} {answer} i j) =
        both_records (accepted_alone root (part_key b k) (presence p) (present part) f r (key_32 b k) h.0 i)
        (accepted_alone part k q answer f (value_32 (presence p) (present part) h.0 i part refl) l h.1 j)
