-- A key read of a kept version of a sound store answers what its grants say: `shown` says so, and here each case of the answer. Assumes nothing.
use Prim.Native.Nat.{ℕ}
use native.Mathlib.Omega.{arith}
use mathlib.Core.Path.{◌≡◌, refl, ap, sym, ◌∙◌}
use mathlib.Core.Bool.{true, false, cond}
use mathlib.Core.List.{[]}
use lib.ListN.{length}
use borrow.Author.Tests.{le-leb}
use Rattle.terms.specs.declared.Form.TheVariants.{Counted as counted}
use Rattle.terms.specs.Bits.{Bytes, Whole32, same_bytes}
use Rattle.meaning.specs.Calls.{Answer, refused, accepted, is_kept}
use Rattle.meaning.specs.Reading.{seen, walk, Verdict, present, absent, read_end, answer_of, read_key}
use Rattle.indexed.proofs.Scanned.{without_table}
use Rattle.shown.proofs.Theorems.{key_read_is_answer}
use Rattle.nodehash.specs.Node.{leaf_hash, inner_hash}
use Rattle.hash.specs.declared.Hash as declared-hash
use Rattle.hash.specs.Hash.{hash_bytes}
use Rattle.layout.specs.Headers.{size_right}
use Rattle.layout.specs.Stores.{store_of}
use Rattle.layout.proofs.Headers.{accepted as header-accepted, size_right_of}
use Rattle.promises.specs.Calls.{SoundBytes}
use Rattle.read_key.specs.Parts.{read_says, walk_read}
use Rattle.std.specs.Prelude.{Option, Result, Some, None, Ok, Err}
use Rattle.refusal_numbers.specs.declared.ReadRefusal.{ReadRefusal}
use Rattle.forgery.specs.Finding.{same_verdict}
use Rattle.forged_truth.specs.Truth.{SoundVersion, grants_at}

-- sound bytes have the right size
pub sound_size : {s : Bytes} → SoundBytes s → size_right counted (length s) ≡ true
sound_size {s} w =
    let h = header-accepted s w.capacity w.oldest w.latest w.headed in
    size_right_of counted (length s) w.capacity h.size h.some h.fits

refused_not_accepted : {A : Type 0} {n : ℕ} {a : Verdict} → ◌≡◌ {A = Answer Verdict} (refused n) (accepted a) → A
refused_not_accepted e = let z : ◌≡◌ {A = ℕ} 0 1 = cc in absurd (omega arith)

accepted_same : {a b : Verdict} → ◌≡◌ {A = Answer Verdict} (accepted a) (accepted b) → a ≡ b
accepted_same e = cc

module _ {s : Bytes} {v : ℕ} (w : SoundVersion s v) (k : Bytes) (whole : Whole32 k) where
  walked : walk_read s [] v k ≡ accepted (answer_of k (grants_at s v))
  unfolding walk_read read_key is_kept
  walked =
      ap (λ look. read_end k (walk k 0 [] (seen look v))) (without_table (store_of s))
      ∙ rw (le-leb (store_of s).oldest v w.kept.0, le-leb v (store_of s).latest w.kept.1) at
      (key_read_is_answer leaf_hash inner_hash (store_of s) w.sound.sound v w.kept k whole)

  module _ (r : Result (Option declared-hash.Hash) ReadRefusal) (says : read_says r ≡ walk_read s [] v k) where
    not_refused : {A : Type 0} {n : ReadRefusal} → r ≡ Err n → A
    unfolding read_says
    not_refused e = refused_not_accepted (sym (ap read_says e) ∙ says ∙ walked)

    has : {h : declared-hash.Hash} → r ≡ Ok (Some h) → answer_of k (grants_at s v) ≡ present (hash_bytes h)
    unfolding read_says
    has e = sym (accepted_same (sym (ap read_says e) ∙ says ∙ walked))

    lacks : r ≡ Ok None → answer_of k (grants_at s v) ≡ absent
    unfolding read_says
    lacks e = sym (accepted_same (sym (ap read_says e) ∙ says ∙ walked))

    -- whether it is this value
    pub refused_value : {n : ReadRefusal} (x : Bytes) → r ≡ Err n → false ≡ same_verdict (answer_of k (grants_at s v)) (present x)
    refused_value x e = not_refused e

    pub same_value : {h : declared-hash.Hash} (x : Bytes) → r ≡ Ok (Some h) →
        same_bytes (hash_bytes h) x ≡ same_verdict (answer_of k (grants_at s v)) (present x)
    same_value x e = sym (ap (λ a. same_verdict a (present x)) (has e))

    pub no_value : (x : Bytes) → r ≡ Ok None → false ≡ same_verdict (answer_of k (grants_at s v)) (present x)
    no_value x e = sym (ap (λ a. same_verdict a (present x)) (lacks e))

    -- whether it is absent
    pub refused_absent : {n : ReadRefusal} → r ≡ Err n → false ≡ same_verdict (answer_of k (grants_at s v)) absent
    refused_absent e = not_refused e

    pub there : {h : declared-hash.Hash} → r ≡ Ok (Some h) → false ≡ same_verdict (answer_of k (grants_at s v)) absent
    there e = sym (ap (λ a. same_verdict a absent) (has e))

    pub not_there : r ≡ Ok None → true ≡ same_verdict (answer_of k (grants_at s v)) absent
    not_there e = sym (ap (λ a. same_verdict a absent) (lacks e))
