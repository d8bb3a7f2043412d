-- The checker accepts a proof exactly if it holds, with the answer that the words give. By the five cases of a proof. Assumes nothing.
use native.Mathlib.Omega.{arith}
use Prim.Native.Nat.{ℕ}
use mathlib.Core.Path.{◌≡◌, refl, sym, subst}
use mathlib.Core.Logic.{◌↔◌}
use mathlib.Core.Bool.{Bool, true, false, cond, ◌&&◌, false≢true}
use mathlib.Core.Option.{Option, none, some}
use Rattle.terms.specs.Bits.{Bytes, left, right, same_bytes}
use Rattle.terms.specs.Records.{Presence, Proof, presence, absence}
use Rattle.terms.proofs.Tests.{and_left, and_right, same_bytes_lem, bytes_same}
use Rattle.meaning.specs.Calls.{refused, accepted}
use Rattle.meaning.specs.Reading.{Verdict, present, absent}
use Rattle.meaning.specs.Proving.{absence_of, beyond}
use Rattle.meaning.specs.Checking.{outermost, paths_part, leads_to, neighbour_holds, absence_holds, checked}
use Rattle.checker.specs.Holding.{Leads, Holds, shown, only_left, only_right, both}
use Rattle.checker.proofs.Paths.{both_true, outermost_said, said_outermost, parted_exactly}

passed : (t : Bool) (a b : Verdict) → cond t (accepted a) (refused 11) ≡ accepted b → (t ≡ true) × (a ≡ b)
passed true a b e = (refl, cc)
passed false a b e = let z : ◌≡◌ {A = ℕ} 0 1 = cc in absurd (omega arith)

only_11 : (t : Bool) (a : Verdict) {n : ℕ} → cond t (accepted a) (refused 11) ≡ refused n → n ≡ 11
only_11 true a e = let z : ◌≡◌ {A = ℕ} 0 1 = cc in absurd (omega arith)
only_11 false a e = cc

module _ (leaf_hash inner_hash : Bytes → Bytes → Bytes) (root k : Bytes) where
  leads_said : (p : Presence) → leads_to leaf_hash inner_hash root p ≡ true → Leads leaf_hash inner_hash root k p
  unfolding leads_to
  leads_said p h = same_bytes_lem _ root h

  said_leads : (p : Presence) → Leads leaf_hash inner_hash root k p → leads_to leaf_hash inner_hash root p ≡ true
  unfolding leads_to
  said_leads p h = rw h (bytes_same root)

  near_said : (b : Bool) (p : Presence) → neighbour_holds leaf_hash inner_hash b root k p ≡ true →
      Leads leaf_hash inner_hash root k p × (beyond b p.key k ≡ true)
  unfolding neighbour_holds
  near_said b p h =
      let t = leads_to leaf_hash inner_hash root p in
      (leads_said p (and_left t (beyond b p.key k) h), and_right t (beyond b p.key k) h)

  said_near : (b : Bool) (p : Presence) → Leads leaf_hash inner_hash root k p → beyond b p.key k ≡ true →
      neighbour_holds leaf_hash inner_hash b root k p ≡ true
  unfolding neighbour_holds
  said_near b p h e = both_true (leads_to leaf_hash inner_hash root p) (beyond b p.key k) (said_leads p h) e

  absence_said : (j : Bytes) (l r : Option Presence) → k ≡ j → absence_holds leaf_hash inner_hash root k l r ≡ true →
      Holds leaf_hash inner_hash root k (absence_of j l r) absent
  absence_said j none none e h = absurd (false≢true h)
  absence_said j (some l) none e h =
      let n = neighbour_holds leaf_hash inner_hash left root k l in
      let o = outermost right l.steps in
      only_left (sym e) (near_said left l (and_left n o h)) (outermost_said right l.steps (and_right n o h))
  absence_said j none (some r) e h =
      let n = neighbour_holds leaf_hash inner_hash right root k r in
      let o = outermost left r.steps in
      only_right (sym e) (near_said right r (and_left n o h)) (outermost_said left r.steps (and_right n o h))
  absence_said j (some l) (some r) e h =
      let m = neighbour_holds leaf_hash inner_hash left root k l in
      let n = neighbour_holds leaf_hash inner_hash right root k r in
      let o = paths_part l.steps r.steps in
      let f = and_left (m && n) o h in
      both (sym e) (near_said left l (and_left m n f)) (near_said right r (and_right m n f))
      ((parted_exactly l.steps r.steps).0 (and_right (m && n) o h))

  holds_said : (p : Proof) (v : Verdict) → checked leaf_hash inner_hash root k p ≡ accepted v → Holds leaf_hash inner_hash root k p v
  holds_said (presence p) v h =
      let s = same_bytes k p.key in
      let t = leads_to leaf_hash inner_hash root p in
      let w = passed (s && t) (present p.value) v h in
      subst (Holds leaf_hash inner_hash root k (presence p)) w.1
      (shown (sym (same_bytes_lem k p.key (and_left s t w.0))) (leads_said p (and_right s t w.0)))
  holds_said (absence a) v h =
      let s = same_bytes k a.key in
      let t = absence_holds leaf_hash inner_hash root k a.leftward a.rightward in
      let w = passed (s && t) absent v h in
      subst (Holds leaf_hash inner_hash root k (absence a)) w.1
      (absence_said a.key a.leftward a.rightward (same_bytes_lem k a.key (and_left s t w.0)) (and_right s t w.0))

  answered : (j : Bytes) (t : Bool) (v : Verdict) → j ≡ k → t ≡ true → cond (same_bytes k j && t) (accepted v) (refused 11) ≡ accepted v
  answered j t v e h = rw (e, bytes_same k, h)

  said_holds : (p : Proof) (v : Verdict) → Holds leaf_hash inner_hash root k p v → checked leaf_hash inner_hash root k p ≡ accepted v
  said_holds _ _ (shown {p} e h) = answered p.key (leads_to leaf_hash inner_hash root p) (present p.value) e (said_leads p h)
  said_holds _ _ (only_left {j} {l} e h o) =
      answered j (neighbour_holds leaf_hash inner_hash left root k l && outermost right l.steps) absent e
      (both_true _ _ (said_near left l h.0 h.1) (said_outermost right l.steps o))
  said_holds _ _ (only_right {j} {r} e h o) =
      answered j (neighbour_holds leaf_hash inner_hash right root k r && outermost left r.steps) absent e
      (both_true _ _ (said_near right r h.0 h.1) (said_outermost left r.steps o))
  said_holds _ _ (both {j} {l} {r} e h g o) =
      let m = neighbour_holds leaf_hash inner_hash left root k l in
      let n = neighbour_holds leaf_hash inner_hash right root k r in
      answered j (m && n && paths_part l.steps r.steps) absent e
      (both_true (m && n) _ (both_true m n (said_near left l h.0 h.1) (said_near right r g.0 g.1))
      ((parted_exactly l.steps r.steps).1 o))

  -- A proof is accepted with an answer exactly if it holds with that answer.
  pub accepted_exactly_if_holds : (p : Proof) (v : Verdict) →
      (checked leaf_hash inner_hash root k p ≡ accepted v) ↔ Holds leaf_hash inner_hash root k p v
  accepted_exactly_if_holds p v = (holds_said p v, said_holds p v)

  -- It is refused with 11 and no other number.
  pub refused_with_11 : (p : Proof) {n : ℕ} → checked leaf_hash inner_hash root k p ≡ refused n → n ≡ 11
  refused_with_11 (presence p) e = only_11 (same_bytes k p.key && leads_to leaf_hash inner_hash root p) (present p.value) e
  refused_with_11 (absence a) e =
      only_11 (same_bytes k a.key && absence_holds leaf_hash inner_hash root k a.leftward a.rightward) absent e
