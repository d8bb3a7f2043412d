-- The call, case by case. Assumes nothing.
use Prim.Native.Nat.{ℕ, ◌+◌, ◌*◌, ◌-◌, ◌/◌, ◌%◌, ◌<◌, ◌≤◌}
use native.Mathlib.Omega.{arith}
use mathlib.Core.Path.{◌≡◌, refl, ap, sym, ◌∙◌}
use mathlib.Core.Bool.{Bool, true, false, cond, ◌&&◌}
use mathlib.Core.List.{List, ◌++◌}
use lib.ListN.{length, get_or, take, drop, length-append, length-drop}
use lib.Seq.{take_all}
use lib.Dec.{eqb, leb}
use borrow.Author.Tests.{eq-eqb, ne_eqb, eqb-true, leb-true, le-leb, lt-leb}
use Rattle.terms.specs.Bits.{Bytes, Byte, All}
use Rattle.terms.proofs.Tests.{and_left, and_right}
use Rattle.meaning.specs.Calls.{Answer, refused, accepted}
use Rattle.meaning.specs.Answers.{Exported}
use Rattle.meaning.proofs.Told.{exported_refusal, exported_answer, exports}
use Rattle.palette_rules.specs.Palette.{whole_keys, keys_from, keys_in}
use Rattle.sha256_eight.specs.Each.{Each}
use Rattle.verify_lanes.specs.Lanes.{LeadsAt}
use Rattle.verify_rows.specs.Rows.{VerifiesMany}
use Rattle.verify_rows.specs.Reading.{cuts_into, pieces, answers_of, many_verified}
use Rattle.verify_rows.proofs.Told.{told_of_row_exactly}
use Rattle.verify_cut.specs.Row.{Plan, Planned, Known, KnownAt}

-- a list of whole keys
pub whole_sizes : (ks : Bytes) → whole_keys ks ≡ true → (length ks / 32 ≤ 256) × (length ks ≡ 32 * (length ks / 32))
unfolding whole_keys
whole_sizes ks h =
    let t = eqb-true (length ks % 32) 0 (and_left (eqb (length ks % 32) 0) _ h) in
    (leb-true (length ks / 32) 256 (and_right (eqb (length ks % 32) 0) _ h), omega arith)

-- what is known of the paths of every record
pub plan_known : (root p : Bytes) (n : ℕ) (at index : List ℕ) (m a : ℕ) (good : List Bool) → Plan p n at index n m a → Each m (LeadsAt root p at) false good →
    Known root p n index good
plan_known root p n at index m a good q all j h =
    let o = q.planned j h in
    record { low = o.low; leading = o.leading root good all }

module _ (root keys proofs old : Bytes) where
  abbrev said : Answer Bytes
  said = many_verified root keys proofs (length old)

  meets : All Byte proofs → {r : ℕ} {new : Bytes} (a : Answer Bytes) → said ≡ a → Exported a (λ b. b ++ drop (length b) old) old r new →
      VerifiesMany root keys proofs old r new
  meets bytes a e w = exports a ((told_of_row_exactly root keys proofs (length old) bytes a).1 (sym e)) w

  pub refuses : All Byte proofs → (k : ℕ) → said ≡ refused k → VerifiesMany root keys proofs old k old
  refuses bytes k e = meets bytes (refused k) e (exported_refusal refl)

  pub root_off : (length root ≡ 32 → ⊥) → said ≡ refused 12
  unfolding many_verified
  root_off f = rw (ne_eqb (length root) 32 f)

  module _ (r : length root ≡ 32) where
    pub keys_off : whole_keys keys ≡ false → said ≡ refused 12
    unfolding many_verified
    keys_off f = rw (eq-eqb (length root) 32 r, f)

    module _ (w : whole_keys keys ≡ true) where
      pub row_off : cuts_into (length keys / 32) proofs ≡ false → said ≡ refused 10
      unfolding many_verified
      row_off f = rw (eq-eqb (length root) 32 r, w, f)

      module _ (c : cuts_into (length keys / 32) proofs ≡ true) where
        pub no_room : length old < 34 * (length keys / 32) → said ≡ refused 9
        unfolding many_verified
        no_room f = rw (eq-eqb (length root) 32 r, w, c, lt-leb (34 * (length keys / 32)) (length old) f)

        pub answers_all : 34 * (length keys / 32) ≤ length old → said ≡ accepted (answers_of root (keys_from (length keys / 32) keys) (pieces (length keys / 32) proofs))
        unfolding many_verified keys_in
        answers_all f = rw (eq-eqb (length root) 32 r, w, c, le-leb (34 * (length keys / 32)) (length old) f)

        pub accepts : All Byte proofs → (top new : Bytes) → 34 * (length keys / 32) ≤ length old → top ≡ root → length new ≡ length old →
            new ≡ answers_of top (keys_from (length keys / 32) keys) (pieces (length keys / 32) proofs) ++ drop (34 * (length keys / 32)) old →
            VerifiesMany root keys proofs old 0 new
        accepts bytes top new f t l e =
            let b : Bytes = answers_of root (keys_from (length keys / 32) keys) (pieces (length keys / 32) proofs) in
            let d : new ≡ b ++ drop (34 * (length keys / 32)) old =
            e ∙ ap (λ (x : Bytes). answers_of x (keys_from (length keys / 32) keys) (pieces (length keys / 32) proofs) ++ drop (34 * (length keys / 32)) old) t in
            let m : length b ≡ 34 * (length keys / 32) =
            omega (arith, ap length d, length-append b (drop (34 * (length keys / 32)) old), length-drop (34 * (length keys / 32)) old) in
            meets bytes (accepted b) (answers_all f) (exported_answer refl (d ∙ ap (λ (k : ℕ). b ++ drop k old) (sym m)))

pub root_whole : (root h : Bytes) → length root ≡ 32 → h ≡ take 32 (drop 0 root) → h ≡ root
root_whole root h l e = e ∙ take_all 32 root (omega arith)
