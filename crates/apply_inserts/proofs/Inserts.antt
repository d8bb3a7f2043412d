-- The inserts of a run, one after the other: deletes are passed over. Assumes nothing.
use Prim.Native.Nat.{ℕ, ◌+◌, ◌<◌, ◌≤◌}
use native.Mathlib.Omega.{arith}
use mathlib.Core.Path.{◌≡◌, refl, ap, sym, ◌∙◌, subst}
use mathlib.Core.Bool.{true, false, true≢false, false≢true}
use mathlib.Core.List.{List, [], ◌∷◌, ◌++◌}
use lib.ListN.{length, take, drop, length-drop, drop_of_length-le}
use lib.Seq.{take_at, drop_at, take_all}
use Rattle.terms.specs.Bits.{Bytes}
use Rattle.terms.specs.Records.{Grant, grant, Ask, insert, delete, ask_key}
use Rattle.hash.specs.declared.Hash.{Hash}
use Rattle.hash.specs.Hash.{hash_bytes}
use Rattle.batch.specs.Batch.{count, asks}
use Rattle.batch.specs.Records.{ask_at, ask_value, inserts}
use Rattle.batch.proofs.Records.{asks_from, length_asks, length_key}
use Rattle.steps.specs.Step as step
use Rattle.std.specs.declared.option.Option as option
use Rattle.std.specs.Prelude.{Some, None}
use Rattle.apply_inserts.specs.declared.Grant as declared-grant
use Rattle.apply_inserts.specs.declared.Few as declared-few
use Rattle.apply_inserts.specs.declared.Few.TheVariants.{Nothing, One, Several}
use Rattle.apply_inserts.specs.Inserts.{stays_says, FewSays, NextInsert}

passed_over : (a : Ask) (as' : List Ask) → inserts a ≡ false → step.inserts (a ∷ as') ≡ step.inserts as'
passed_over (insert k x) as' e = absurd (true≢false e)
passed_over (delete k) as' e = refl

-- an insert comes first
first_insert : (a : Ask) (as' : List Ask) → inserts a ≡ true →
    (g : Grant) × (step.inserts (a ∷ as') ≡ g ∷ step.inserts as') × (step.inserts (a ∷ []) ≡ g ∷ [])
first_insert (insert k x) as' e = (grant k x, refl, refl)
first_insert (delete k) as' e = absurd (false≢true e)

-- no insert up to record i
pub record Passing (run : Bytes) (from n i : ℕ) : Type 0 where
  pub many : n ≡ count run
  pub after : from ≤ i
  pub within : i ≤ n
  pub passed : step.inserts (drop from (asks run)) ≡ step.inserts (drop i (asks run))

module _ {run : Bytes} {from n i : ℕ} (w : Passing run from n i) where
  pub pass_one : i < n → inserts (ask_at i run) ≡ false → Passing run from n (i + 1)
  pass_one l e = record {
    many = w.many;
    after = let h = w.after in omega arith;
    within = omega arith;
    passed = w.passed ∙ ap step.inserts (asks_from i run (omega (arith, w.many))) ∙ passed_over (ask_at i run) (drop (i + 1) (asks run)) e;
  }

  pub stop_here : i < n → inserts (ask_at i run) ≡ true → NextInsert run from i
  stop_here l e = record { after = w.after; within = omega (arith, w.many); passed = w.passed; here = λ h. e }

  pub stop_at_end : n ≤ i → NextInsert run from n
  stop_at_end l =
      let m = w.within in
      let e : i ≡ n = omega arith in
      subst (NextInsert run from) e (record { after = w.after; within = omega (arith, w.many); passed = w.passed; here = λ h. absurd (omega (arith, w.many)) })

module _ {run : Bytes} {from r : ℕ} (w : NextInsert run from r) where
  -- none is left
  pub none_left : count run ≤ r → step.inserts (drop from (asks run)) ≡ []
  none_left l = w.passed ∙ ap step.inserts (drop_of_length-le (asks run) {i = r} (omega (arith, length_asks run)))

  -- or one, and those after it
  pub one_then : r < count run →
      (g : Grant) × (step.inserts (drop from (asks run)) ≡ g ∷ step.inserts (drop (r + 1) (asks run))) × (step.inserts (ask_at r run ∷ []) ≡ g ∷ [])
  one_then l =
      let f = first_insert (ask_at r run) (drop (r + 1) (asks run)) (w.here l) in
      (f.0, w.passed ∙ ap step.inserts (asks_from r run l) ∙ f.1, f.2)

-- the grant of an insert by its bytes
pub one_says : (run : Bytes) (i : ℕ) (g : Bytes) (k x : Hash) → i < count run → inserts (ask_at i run) ≡ true →
    g ≡ ask_key (ask_at i run) ++ ask_value (ask_at i run) → length g ≡ 64 → hash_bytes k ≡ take 32 (drop 0 g) → hash_bytes x ≡ take 32 (drop 32 g) →
    FewSays (One k x) (step.inserts (ask_at i run ∷ []))
one_says run i g k x l h e n p q = go (ask_at i run) h e (length_key i run l)
  where
    go : (a : Ask) → inserts a ≡ true → g ≡ ask_key a ++ ask_value a → length (ask_key a) ≡ 32 → step.inserts (a ∷ []) ≡ grant (hash_bytes k) (hash_bytes x) ∷ []
    go (insert y z) t f m =
        let d : drop 32 g ≡ z = ap (drop 32) f ∙ drop_at y z 32 m in
        let b : hash_bytes k ≡ y = p ∙ ap (take 32) f ∙ take_at y z 32 m in
        let u : hash_bytes x ≡ z = q ∙ ap (take 32) d ∙ take_all 32 z (omega (arith, ap length (sym d), length-drop 32 g)) in
        rw (b, u)
    go (delete y) t f m = absurd (false≢true t)

-- the grants of a subtree that grows, by the leaf that stays and the next inserts
module _ (stays : option.Option declared-grant.Grant) (run : Bytes) {i : ℕ} (w : NextInsert run 0 i) where
  abbrev gs : List Grant
  gs = step.to_grow (stays_says stays) (asks run)

  pub no_grants : stays ≡ None → count run ≤ i → FewSays Nothing gs
  no_grants e l = rw e (none_left w l)

  pub two_inserts : stays ≡ None → i < count run → {j : ℕ} → NextInsert run (i + 1) j → j < count run → FewSays Several gs
  two_inserts e l {j} v m =
      let f = one_then w l in
      let h = one_then v m in
      (f.0, h.0, step.inserts (drop (j + 1) (asks run)), rw e (f.1 ∙ ap (f.0 ∷◌) h.1))

  pub one_insert_only : (r : declared-few.Few) → stays ≡ None → i < count run → {j : ℕ} → NextInsert run (i + 1) j → count run ≤ j →
      FewSays r (step.inserts (ask_at i run ∷ [])) → FewSays r gs
  one_insert_only r e l v m h =
      let f = one_then w l in
      subst (FewSays r) (f.2 ∙ sym (ap (λ q. step.to_grow (stays_says q) (asks run)) e ∙ f.1 ∙ ap (f.0 ∷◌) (none_left v m))) h

  pub leaf_and_insert : {g : declared-grant.Grant} → stays ≡ Some g → i < count run → FewSays Several gs
  leaf_and_insert {g} e l =
      let f = one_then w l in
      (grant (hash_bytes g.key) (hash_bytes g.value), f.0, step.inserts (drop (i + 1) (asks run)), rw e (ap (grant (hash_bytes g.key) (hash_bytes g.value) ∷◌) f.1))

  pub leaf_only : {g : declared-grant.Grant} → stays ≡ Some g → count run ≤ i → FewSays (One g.key g.value) gs
  leaf_only {g} e l = rw e (ap (grant (hash_bytes g.key) (hash_bytes g.value) ∷◌) (none_left w l))
