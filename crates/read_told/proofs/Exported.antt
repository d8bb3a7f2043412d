-- What a read leaves, by the case of its answer; and 33 bytes written as one byte and a hash. Assumes nothing.
use Prim.Native.Nat.{ℕ, ◌-◌}
use native.Mathlib.Omega.{arith}
use mathlib.Core.Path.{◌≡◌, ap, ap₂, sym, ◌∙◌}
use mathlib.Core.List.{[], ◌∷◌, ◌++◌, append-nil}
use lib.ListN.{length, take, drop, set, drop_of_length-le, length-take}
use Rattle.terms.specs.Bits.{Bytes}
use Rattle.terms.specs.Records.{zeros}
use Rattle.meaning.specs.Calls.{Answer}
use Rattle.meaning.specs.Answers.{found_bytes, Exported}
use Rattle.meaning.specs.Reading.{Verdict}
use Rattle.meaning.proofs.Told.{exported_refusal, exported_answer}
use Rattle.hash.specs.declared.Hash.{Hash}
use Rattle.hash.specs.Hash.{hash_bytes}
use Rattle.hash.proofs.Laws.{put_over}
use Rattle.read_key.specs.Parts.{read_says}
use Rattle.read_root.specs.Parts.{root_says}
use Rattle.std.specs.Prelude.{Option, Result, Some, None, Ok, Err}
use Rattle.refusal_numbers.specs.Refusals.{code}
use Rattle.refusal_numbers.specs.declared.ReadRefusal.{ReadRefusal}

module _ {a : Answer Bytes} {r : Result Hash ReadRefusal} (says : root_says r ≡ a) (old : Bytes) where
  pub root_refused : {n : ReadRefusal} → r ≡ Err n → Exported a (λ x. x) old (code n) old
  unfolding root_says
  root_refused e = exported_refusal (sym (ap root_says e) ∙ says)

  pub root_written : {h : Hash} {new : Bytes} → r ≡ Ok h → length old ≡ 32 → new ≡ hash_bytes h ++ drop 32 old → Exported a (λ x. x) old 0 new
  unfolding root_says
  root_written {h} {new} e l w = exported_answer (sym (ap root_says e) ∙ says) (put_over h old new l w)

module _ {a : Answer Verdict} {r : Result (Option Hash) ReadRefusal} (says : read_says r ≡ a) (old : Bytes) where
  pub key_refused : {n : ReadRefusal} → r ≡ Err n → Exported a found_bytes old (code n) old
  unfolding read_says
  key_refused e = exported_refusal (sym (ap read_says e) ∙ says)

  pub key_present : {h : Hash} {new : Bytes} → r ≡ Ok (Some h) → new ≡ 1 ∷ hash_bytes h → Exported a found_bytes old 0 new
  unfolding read_says
  key_present e w = exported_answer (sym (ap read_says e) ∙ says) w

  pub key_absent : (h : Hash) {new : Bytes} → r ≡ Ok None → hash_bytes h ≡ zeros → new ≡ 0 ∷ hash_bytes h → Exported a found_bytes old 0 new
  unfolding read_says
  key_absent h e q w = exported_answer (sym (ap read_says e) ∙ says) (w ∙ ap (0 ∷◌) q)

-- one byte in front, then a hash
pub found_put : (h : Hash) (p : ℕ) (f : Bytes) {y : Bytes} → length f ≡ 33 →
    y ≡ hash_bytes h ++ drop 32 (take (33 - 1) (drop 1 (set f 0 p))) → take 1 (set f 0 p) ++ (y ++ drop (33 - 1) (drop 1 (set f 0 p))) ≡ p ∷ hash_bytes h
found_put h p [] l e = absurd (omega arith)
found_put h p (x ∷ f) {y} l e =
    let n : length (take (33 - 1) f) ≡ 32 = simp length-take (omega arith) in
    ap (p ∷◌) (ap₂ ◌++◌ (put_over h (take (33 - 1) f) y n e) (drop_of_length-le f {i = 33 - 1} (omega arith)) ∙ append-nil (hash_bytes h))
