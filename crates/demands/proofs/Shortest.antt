-- 2026-03: the shortest absence proof that the proof check accepts has 112 bytes, the head and one neighbour without steps; there is one.
-- Assumes nothing.
use Prim.Native.Nat.{ℕ, ◌≤◌}
use native.Mathlib.Omega.{arith}
use mathlib.Core.Path.{◌≡◌, refl, ap, ◌∙◌}
use mathlib.Core.Bool.{true}
use mathlib.Core.List.{[]}
use mathlib.Core.Option.{none, some}
use lib.ListN.{length, replicate}
use Rattle.terms.specs.Bits.{Bytes, Byte, All, Whole32, left, before, same_bytes}
use Rattle.terms.specs.Records.{Presence, Proof}
use Rattle.terms.proofs.Tests.{bytes_same}
use Rattle.meaning.specs.Calls.{accepted}
use Rattle.meaning.specs.Reading.{Verdict, present, absent}
use Rattle.meaning.specs.Proving.{presence_of, absence_of}
use Rattle.meaning.specs.Checking.{leads_to, neighbour_holds, checked}
use Rattle.meaning.specs.Answers.{found_bytes}
use Rattle.checker.specs.Holding.{Holds, shown, only_left, only_right, both}
use Rattle.nodehash.specs.Node.{leaf_hash, inner_hash}
use Rattle.proofrecords.specs.ProofBytes.{proof_bytes, PresenceForm, ProofForm, ProofIs}
use Rattle.proofrecords.proofs.Proofs.{length_presence, length_absence, absence_has_112, read_as}
use Rattle.contracts.specs.Contracts.{Verifies}
use Rattle.demands.proofs.Hashes.{leaf_hash_whole}
use Rattle.demands.proofs.Accepting.{accepted_exactly_if_it_holds}
use Rattle.demands.proofs.Showing.{checker_on, verify_left}

-- No absence proof that is accepted has fewer than 112 bytes.
pub absence_proofs_have_112_bytes : {root k x f : Bytes} {r : ℕ} {g : Bytes} → All Byte x → Verifies root k x f r g →
    r ≡ 0 → g ≡ found_bytes absent → 112 ≤ length x
absence_proofs_have_112_bytes {root} {k} {x} h w e d =
    let a = (accepted_exactly_if_it_holds w absent).0 (e, d) in go a.proof absent a.is_proof_lem a.holds refl
  where
    unlike : {y : Bytes} → present y ≡ absent → ⊥
    unlike i = let z : ◌≡◌ {A = ℕ} 0 1 = cc in omega arith

    go : (p : Proof) (v : Verdict) → ProofIs x p → Holds leaf_hash inner_hash root k p v → v ≡ absent → 112 ≤ length x
    go _ _ is (shown c l) i = absurd (unlike i)
    go _ _ is (only_left {j} {l} c n o) i = absence_has_112 x _ h (read_as x (absence_of j (some l) none) is)
    go _ _ is (only_right {j} {r} c n o) i = absence_has_112 x _ h (read_as x (absence_of j none (some r)) is)
    go _ _ is (both {j} {l} {r} c n m o) i = absence_has_112 x _ h (read_as x (absence_of j (some l) (some r)) is)

-- One grant alone, and a greater key: the proof of its absence has 112 bytes, and is accepted.
module _ (l v k : Bytes) (whole : Whole32 l) (value : Whole32 v) (key : Whole32 k) (order : before l k ≡ true) where
  abbrev lone : Presence
  lone = presence_of l v []

  abbrev shortest : Proof
  shortest = absence_of k (some lone) none

  lone_form : PresenceForm lone
  lone_form = record { key32 = whole; value32 = value; short = omega arith; steps32 = tt }

  form : ProofForm shortest
  form = (key, lone_form, tt, omega arith)

  holds : checked leaf_hash inner_hash (leaf_hash l v) k shortest ≡ accepted absent
  unfolding neighbour_holds leads_to
  holds = rw (bytes_same k, bytes_same (leaf_hash l v), order)

  pub shortest_is_accepted : {f : Bytes} {r : ℕ} {g : Bytes} → Verifies (leaf_hash l v) k (proof_bytes shortest) f r g →
      (r ≡ 0) × (g ≡ found_bytes absent) × (length (proof_bytes shortest) ≡ 112)
  shortest_is_accepted w =
      let e = verify_left w (checker_on (leaf_hash l v) k shortest (leaf_hash_whole l v).0 key.0 form holds) in
      (e.0, e.1, length_absence _ key lone_form tt ∙ omega (arith, length_presence lone lone_form))
