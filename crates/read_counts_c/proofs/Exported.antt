-- What the two reads leave, by the case of the answer; eight bytes written as two numbers, 64 as two hashes. Assumes nothing.
use Prim.Native.Nat.{ℕ, ◌+◌, ◌*◌, ◌-◌, ◌/◌, ◌%◌}
use native.Mathlib.Omega.{arith}
use mathlib.Core.Path.{◌≡◌, ap, sym, ◌∙◌}
use mathlib.Core.List.{[], ◌∷◌, ◌++◌, append-nil}
use lib.ListN.{length, take, drop, length-take, length-drop}
use Rattle.terms.specs.Bits.{Bytes}
use Rattle.terms.specs.Fields.{le}
use Rattle.terms.specs.Records.{Grant}
use Rattle.terms.proofs.Fields.{length_le}
use Rattle.meaning.specs.Calls.{Answer}
use Rattle.meaning.specs.Answers.{Exported}
use Rattle.meaning.proofs.Told.{exported_refusal, exported_answer}
use Rattle.hash.specs.declared.Hash.{Hash}
use Rattle.hash.specs.Hash.{hash_bytes}
use Rattle.hash.proofs.Laws.{hash_whole, put_over}
use Rattle.fields.specs.Written.{written}
use Rattle.fields.proofs.Written.{length_written, part_written, fields_fill}
use Rattle.read_number.specs.Numbers.{number_says}
use Rattle.contracts.specs.Numbers.{grant_bytes}
use Rattle.std.specs.Prelude.{Result, Ok, Err}
use Rattle.refusal_numbers.specs.Refusals.{code}
use Rattle.refusal_numbers.specs.declared.ReadRefusal.{ReadRefusal}
use Rattle.read_descent.specs.Parts.{position_says}
use Rattle.read_descent.specs.declared.Grant as declared

mod_alike : (a b k : ℕ) → a ≡ b + 256 * k → b % 256 ≡ a % 256
mod_alike a b k e = omega arith

div_alike : (a b k : ℕ) → a ≡ b + 256 * k → a / 256 ≡ b / 256 + k
div_alike a b k e = omega arith

-- a number's eight bytes are those of its low half, then those of its high half
le_eight : (x : ℕ) → le 4 (x % 4294967296) ++ le 4 (x / 4294967296) ≡ le 8 x
unfolding le
le_eight x =
    let q : ℕ = x / 4294967296 in
    let y : ℕ = x % 4294967296 in
    let h0 : x ≡ y + 256 * (16777216 * q) = omega arith in
    let h1 : x / 256 ≡ y / 256 + 256 * (65536 * q) = omega (arith, div_alike x y (16777216 * q) h0) in
    let h2 : x / 256 / 256 ≡ y / 256 / 256 + 256 * (256 * q) = omega (arith, div_alike (x / 256) (y / 256) (65536 * q) h1) in
    let h3 : x / 256 / 256 / 256 ≡ y / 256 / 256 / 256 + 256 * q =
    omega (arith, div_alike (x / 256 / 256) (y / 256 / 256) (256 * q) h2) in
    let a : y % 256 ≡ x % 256 = mod_alike x y (16777216 * q) h0 in
    let b : y / 256 % 256 ≡ x / 256 % 256 = mod_alike (x / 256) (y / 256) (65536 * q) h1 in
    let c : y / 256 / 256 % 256 ≡ x / 256 / 256 % 256 = mod_alike (x / 256 / 256) (y / 256 / 256) (256 * q) h2 in
    let d : y / 256 / 256 / 256 % 256 ≡ x / 256 / 256 / 256 % 256 = mod_alike (x / 256 / 256 / 256) (y / 256 / 256 / 256) q h3 in
    let e : q ≡ x / 256 / 256 / 256 / 256 = omega arith in
    rw (a, b, c, d, e)

pub count_put : (n : ℕ) (f f₁ f₂ : Bytes) → length f ≡ 8 → f₁ ≡ written 0 (le 4 (n % 4294967296)) f → f₂ ≡ written 4 (le 4 (n / 4294967296)) f₁ → f₂ ≡ le 8 n
count_put n f f₁ f₂ l e k =
    let low = le 4 (n % 4294967296) in
    let high = le 4 (n / 4294967296) in
    k ∙ ap (written 4 high) e
    ∙ fields_fill (4 ∷ 4 ∷ []) (low ∷ high ∷ []) f (length_le 4 _, (length_le 4 _, tt)) (sym l)
    ∙ ap (low ++◌) (append-nil high)
    ∙ le_eight n

-- two hashes fill 64 bytes
pub grant_put : (h k : Hash) (f y f₁ z f₂ : Bytes) → length f ≡ 64 → y ≡ hash_bytes h ++ drop 32 (take (32 - 0) (drop 0 f)) →
    f₁ ≡ take 0 f ++ (y ++ drop (32 - 0) (drop 0 f)) → z ≡ hash_bytes k ++ drop 32 (take (64 - 32) (drop 32 f₁)) →
    f₂ ≡ take 32 f₁ ++ (z ++ drop (64 - 32) (drop 32 f₁)) → f₂ ≡ hash_bytes h ++ hash_bytes k
grant_put h k f y f₁ z f₂ l e e₁ g g₁ =
    let key : y ≡ hash_bytes h = put_over h (take (32 - 0) (drop 0 f)) y (simp (length-take, length-drop) (omega arith)) e in
    let one : f₁ ≡ written 0 (hash_bytes h) f =
    e₁ ∙ ap (λ x. take 0 f ++ (x ++ drop (32 - 0) (drop 0 f))) key ∙ part_written 0 32 (hash_bytes h) f (omega (arith, (hash_whole h).0)) in
    let m : length f₁ ≡ 64 = ap length one ∙ length_written 0 (hash_bytes h) f (omega (arith, (hash_whole h).0)) ∙ l in
    let value : z ≡ hash_bytes k = put_over k (take (64 - 32) (drop 32 f₁)) z (simp (length-take, length-drop) (omega arith)) g in
    g₁ ∙ ap (λ x. take 32 f₁ ++ (x ++ drop (64 - 32) (drop 32 f₁))) value ∙ part_written 32 64 (hash_bytes k) f₁ (omega (arith, (hash_whole k).0))
    ∙ ap (written 32 (hash_bytes k)) one
    ∙ fields_fill (32 ∷ 32 ∷ []) (hash_bytes h ∷ hash_bytes k ∷ []) f ((hash_whole h).0, ((hash_whole k).0, tt)) (sym l)
    ∙ ap (hash_bytes h ++◌) (append-nil (hash_bytes k))

module _ {a : Answer ℕ} {r : Result ℕ ReadRefusal} (says : number_says r ≡ a) (old : Bytes) where
  pub count_refused : {n : ReadRefusal} → r ≡ Err n → Exported a (le 8) old (code n) old
  unfolding number_says
  count_refused e = exported_refusal (sym (ap number_says e) ∙ says)

  pub count_written : {n : ℕ} {new : Bytes} → r ≡ Ok n → new ≡ le 8 n → Exported a (le 8) old 0 new
  unfolding number_says
  count_written e w = exported_answer (sym (ap number_says e) ∙ says) w

module _ {a : Answer Grant} {r : Result declared.Grant ReadRefusal} (says : position_says r ≡ a) (old : Bytes) where
  pub at_refused : {n : ReadRefusal} → r ≡ Err n → Exported a grant_bytes old (code n) old
  unfolding position_says
  at_refused e = exported_refusal (sym (ap position_says e) ∙ says)

  pub at_written : {g : declared.Grant} {new : Bytes} → r ≡ Ok g → new ≡ hash_bytes g.key ++ hash_bytes g.value → Exported a grant_bytes old 0 new
  unfolding position_says
  at_written e w = exported_answer (sym (ap position_says e) ∙ says) w
