-- Demand 2, the proof check in words: it answers 0 exactly if the bytes are a proof in form that holds, and finds what the proof says. The
-- contract says so case by case. Assumes nothing.
use Prim.Native.Nat.{ℕ}
use native.Mathlib.Omega.{arith}
use mathlib.Core.Path.{◌≡◌, refl, ap, sym, ◌∙◌, subst}
use mathlib.Core.Logic.{◌↔◌}
use Rattle.terms.specs.Bits.{Bytes}
use Rattle.meaning.specs.Calls.{Answer}
use Rattle.meaning.specs.Reading.{Verdict, present, absent}
use Rattle.meaning.specs.Answers.{number_of, told_of, found_bytes}
use Rattle.meaning.proofs.Told.{seen}
use Rattle.checker.specs.Holding.{Holds}
use Rattle.nodehash.specs.Node.{leaf_hash, inner_hash}
use Rattle.verify_rules.specs.Verify.{Judged, holding, not_holding, Told, not_32_bytes, not_in_form, in_form}
use Rattle.contracts.specs.Contracts.{Verifies}
use Rattle.demands.specs.Claims.{Accepts}
use Rattle.demands.proofs.Showing.{verify_left}

-- what is found tells the answer
found_tells : (a b : Verdict) → found_bytes a ≡ found_bytes b → a ≡ b
found_tells (present x) (present y) e = let z : x ≡ y = cc in ap present z
found_tells (present x) absent e = let z : ◌≡◌ {A = ℕ} 0 1 = cc in absurd (omega arith)
found_tells absent (present y) e = let z : ◌≡◌ {A = ℕ} 0 1 = cc in absurd (omega arith)
found_tells absent absent e = refl

module _ {root k x f : Bytes} {r : ℕ} {g : Bytes} (w : Verifies root k x f r g) (answer : Verdict) where
  there : (r ≡ 0) × (g ≡ found_bytes answer) → Accepts root k x answer
  there z = let x = seen w in go x.said (sym x.exported.number ∙ z.0) (sym x.exported.told ∙ z.1)
    where
      go : {a : Answer Verdict} → Told Judged root k x a → number_of a ≡ 0 → told_of found_bytes a f ≡ found_bytes answer → Accepts root k x answer
      go (not_32_bytes n) e d = absurd (omega arith)
      go (not_in_form s n) e d = absurd (omega arith)
      go (in_form s is (not_holding n)) e d = absurd (omega arith)
      go (in_form {p} s is (holding {v} h)) e d = record {
        root32 = s.0;
        key32 = s.1;
        proof = p;
        is_proof_lem = is;
        holds = subst (Holds leaf_hash inner_hash root k p) (found_tells v answer d) h;
      }

  back : Accepts root k x answer → (r ≡ 0) × (g ≡ found_bytes answer)
  back a = verify_left w (in_form (a.root32, a.key32) a.is_proof_lem (holding a.holds))

  -- The proof check answers 0, and finds this answer, exactly if the bytes are a proof that holds with it.
  pub accepted_exactly_if_it_holds : ((r ≡ 0) × (g ≡ found_bytes answer)) ↔ Accepts root k x answer
  accepted_exactly_if_it_holds = (there, back)
