-- What an answer says of a proof: the checker accepts by one test; and the prover gives a presence proof where the walk ended at the key, an
-- absence proof where it ended elsewhere. On every store, and of every proof. Assumes nothing.
use Prim.Native.Nat.{ℕ}
use native.Mathlib.Omega.{arith}
use mathlib.Core.Path.{◌≡◌, refl, ap, sym, ◌∙◌}
use mathlib.Core.Bool.{Bool, true, false, cond}
use mathlib.Core.List.{map}
use Rattle.terms.specs.Bits.{Bytes, left, right, same_bytes}
use Rattle.terms.specs.Records.{Absence, Proof, presence, absence}
use Rattle.terms.proofs.Tests.{same_bytes_lem}
use Rattle.meaning.specs.Calls.{Answer, refused, accepted}
use Rattle.meaning.specs.Reading.{refusal_of, End, walk_stopped, at_leaf, at_gap, read_end, Verdict, present, absent}
use Rattle.meaning.specs.Proving.{presence_of, step_up, Sought, search_stopped, nobody, somebody, neighbour, absence_from, absence_at, prove_end}

pub accepted_same : {A : Type 0} (x y : A) → accepted x ≡ accepted y → x ≡ y
accepted_same x y e = cc

-- A test that is accepted with a verdict has passed, and the verdict is its own.
pub passed : (test : Bool) (v w : Verdict) → cond test (accepted v) (refused 11) ≡ accepted w → (test ≡ true) × (v ≡ w)
passed true v w e = (refl, cc)
passed false v w e = let z : ◌≡◌ {A = ℕ} 0 1 = cc in absurd (omega arith)

-- What the searches make is a proof of absence of the key, or no proof.
data Absent (k : Bytes) : Answer Proof → Type 0 where
  no_proof : (n : ℕ) → Absent k (refused n)
  a_proof : (a : Absence) → a.key ≡ k → Absent k (accepted (absence a))

from_searches : (k : Bytes) (x y : Sought) → Absent k (absence_from k x y)
from_searches k (search_stopped t) y = no_proof (refusal_of t)
from_searches k nobody (search_stopped t) = no_proof (refusal_of t)
from_searches k nobody nobody = no_proof 14
from_searches k nobody (somebody q) = a_proof _ refl
from_searches k (somebody p) (search_stopped t) = no_proof (refusal_of t)
from_searches k (somebody p) nobody = a_proof _ refl
from_searches k (somebody p) (somebody q) = a_proof _ refl

from_end : (k : Bytes) (e : End) → Absent k (absence_at k e)
unfolding absence_at
from_end k e = from_searches k (neighbour left k e) (neighbour right k e)

-- A proof speaks of the key, and says what a read answers.
abbrev pub Agrees : Bytes → Answer Verdict → Proof → Type 0
Agrees k read (presence q) = (q.key ≡ k) × (read ≡ accepted (present q.value))
Agrees k read (absence a) = (a.key ≡ k) × (read ≡ accepted absent)

absence_agrees : (k : Bytes) (read : Answer Verdict) (given : Answer Proof) (p : Proof) → Absent k given → read ≡ accepted absent →
    given ≡ accepted p → Agrees k read p
absence_agrees k read given p (no_proof n) r e = let z : ◌≡◌ {A = ℕ} 0 1 = cc in absurd (omega arith)
absence_agrees k read given (presence q) (a_proof a f) r e = let z : ◌≡◌ {A = ℕ} 0 1 = cc in absurd (omega arith)
absence_agrees k read given (absence c) (a_proof a f) r e = let same : a ≡ c = cc in (ap (λ x. x.key) (sym same) ∙ f, r)

-- What the prover gives at the end of a walk agrees with what a read answers there.
pub end_agrees : (k : Bytes) (e : End) (p : Proof) → prove_end k e ≡ accepted p → Agrees k (read_end k e) p
end_agrees k (walk_stopped t) p h = let z : ◌≡◌ {A = ℕ} 0 1 = cc in absurd (omega arith)
end_agrees k (at_gap trail) p h = absence_agrees k (accepted absent) (absence_at k (at_gap trail)) p (from_end k (at_gap trail)) refl h
end_agrees k (at_leaf l x trail) p h = go (same_bytes k l) refl p h
  where
    go : (b : Bool) → same_bytes k l ≡ b → (p : Proof) →
        cond b (accepted (presence (presence_of l x (map step_up trail)))) (absence_at k (at_leaf l x trail)) ≡ accepted p →
        Agrees k (accepted (cond b (present x) absent)) p
    go true e (presence q) h =
        let same : presence_of l x (map step_up trail) ≡ q = cc in
        (ap (λ y. y.key) (sym same) ∙ sym (same_bytes_lem k l e), ap (λ y. accepted (present y.value)) same)
    go true e (absence a) h = let z : ◌≡◌ {A = ℕ} 0 1 = cc in absurd (omega arith)
    go false e p h = absence_agrees k (accepted absent) (absence_at k (at_leaf l x trail)) p (from_end k (at_leaf l x trail)) refl h

-- A proof of absence comes from the searches.
pub end_absence : (k : Bytes) (e : End) (a : Absence) → prove_end k e ≡ accepted (absence a) → absence_at k e ≡ accepted (absence a)
end_absence k (walk_stopped t) a h = let z : ◌≡◌ {A = ℕ} 0 1 = cc in absurd (omega arith)
end_absence k (at_gap trail) a h = h
end_absence k (at_leaf l x trail) a h = go (same_bytes k l) h
  where
    go : (b : Bool) → cond b (accepted (presence (presence_of l x (map step_up trail)))) (absence_at k (at_leaf l x trail))
        ≡ accepted (absence a) →
        absence_at k (at_leaf l x trail) ≡ accepted (absence a)
    go true e = let z : ◌≡◌ {A = ℕ} 0 1 = cc in absurd (omega arith)
    go false e = e
