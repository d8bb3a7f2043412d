-- Varints where they stand: by their first byte, and what follows it. Assumes nothing.
use Prim.Native.Nat.{ℕ, zero, suc, ◌+◌, ◌*◌, ◌-◌, ◌<◌, ◌≤◌, ◌^◌}
use native.Mathlib.Omega.{arith}
use native.Mathlib.Nat.{pow-suc}
use Rattle.std.specs.declared.option.Option as option
use Rattle.std.specs.Prelude.{Some, None}
use mathlib.Core.Path.{◌≡◌, refl, ap, sym, ◌∙◌, subst}
use mathlib.Core.List.{[], ◌∷◌}
use mathlib.Core.Option.{none, some}
use lib.ListN.{length, get_or, drop, drop_of_length-le}
use lib.Seq.{drop-cons}
use borrow.Author.Tests.{lt-ltb, le-ltb}
use Rattle.terms.specs.Bits.{Bytes}
use Rattle.messages.specs.Reading.{onward, only_if, not_zero, below, varint_from}
use Rattle.messages.proofs.Wires.{not_zero_lem}
use Rattle.message_varint.specs.declared.Number.{Number}
use Rattle.message_varint.specs.Numbers.{number_in, Reads}

pub first_of : (m : Bytes) (at : ℕ) → at < length m → drop at m ≡ get_or m at 0 ∷ drop (at + 1) m
first_of m at h = let e : suc at ≡ at + 1 = omega arith in rw e at (drop-cons m at 0 h)

low : (n : ℕ) → 128 ≤ 128 ^ suc n
low zero = omega arith
low (suc n) = omega (arith, low n, pow-suc 128 (suc n))

pub few : (k v : ℕ) → k ≤ 1 → v < 128 ^ suc k → v < 16384
few zero v l h = omega arith
few (suc zero) v l h = omega arith
few (suc (suc k)) v l h = absurd (omega arith)

-- the one that was read
the_one : {x y : Number} → ◌≡◌ {A = option.Option Number} (Some x) (Some y) → x ≡ y
the_one e = cc

-- nothing was
no_one : {A : Type 0} {x : Number} → ◌≡◌ {A = option.Option Number} None (Some x) → A
no_one e = absurd (let z : ◌≡◌ {A = ℕ} 0 1 = cc in omega arith)

pub reads_as : {n k : ℕ} {m : Bytes} {at : ℕ} {r : option.Option Number} → n ≡ k → Reads n m at r → Reads k m at r
reads_as {m = m} {at = at} {r = r} e w = subst (λ n. Reads n m at r) e w

module _ (m : Bytes) (at : ℕ) where
  nothing_read : {n : ℕ} → varint_from n (drop at m) ≡ none → Reads n m at None
  nothing_read e = record { is = e; small = λ x. no_one; inside = λ x. no_one }

  -- no byte is left
  pub reads_end : (n : ℕ) → length m ≤ at → Reads n m at None
  reads_end n h = nothing_read (ap (varint_from n) (drop_of_length-le m {i = at} h) ∙ no_bytes n)
    where
      no_bytes : (n : ℕ) → varint_from n [] ≡ none
      no_bytes zero = refl
      no_bytes (suc n) = refl

  small_byte : (n : ℕ) → get_or m at 0 < 128 → varint_from n (get_or m at 0 ∷ drop (at + 1) m) ≡ some (get_or m at 0, drop (at + 1) m)
  unfolding only_if
  small_byte zero l = rw (lt-ltb (get_or m at 0) 128 l)
  small_byte (suc n) l = rw (lt-ltb (get_or m at 0) 128 l)

  -- one byte is the number
  pub reads_one : (n v : ℕ) → at < length m → v ≡ get_or m at 0 → v < 128 → Reads n m at (Some (record { value = v; next = at + 1 }))
  reads_one n v h e l = record {
    is = ap (varint_from n) (first_of m at h) ∙ small_byte n (omega arith) ∙ ap (λ k. some (k, drop (at + 1) m)) (sym e);
    small = λ x q. subst (λ (y : Number). y.value < 128 ^ suc n) (the_one q) (omega (arith, low n));
    inside = λ x q. subst (λ (y : Number). (at < y.next) × (y.next ≤ length m)) (the_one q) (omega arith, omega arith);
  }

  large_byte : 128 ≤ get_or m at 0 → varint_from 0 (get_or m at 0 ∷ drop (at + 1) m) ≡ none
  unfolding only_if
  large_byte l = rw (le-ltb (get_or m at 0) 128 l)

  -- another byte would follow, and none may
  pub reads_no_more : (v : ℕ) → at < length m → v ≡ get_or m at 0 → 128 ≤ v → Reads 0 m at None
  reads_no_more v h q l = nothing_read (ap (varint_from 0) (first_of m at h) ∙ large_byte (omega arith))

  large_more : (n : ℕ) → 128 ≤ get_or m at 0 →
      varint_from (suc n) (get_or m at 0 ∷ drop (at + 1) m) ≡ onward (varint_from n (drop (at + 1) m)) (below (get_or m at 0 - 128))
  large_more n l = rw (le-ltb (get_or m at 0) 128 l)

  -- another byte follows, and what is read from it on
  module _ (n v : ℕ) (h : at < length m) (q : v ≡ get_or m at 0) (l : 128 ≤ v) where
    then : {o : option.Option Number} → Reads n m (at + 1) o → varint_from (suc n) (drop at m) ≡ onward (number_in m o) (below (v - 128))
    then f =
        ap (varint_from (suc n)) (first_of m at h)
        ∙ large_more n (omega arith)
        ∙ ap (λ w. onward (varint_from n (drop (at + 1) m)) (below (w - 128))) (sym q)
        ∙ ap (λ o. onward o (below (v - 128))) f.is

    pub reads_nothing : Reads n m (at + 1) None → Reads (suc n) m at None
    unfolding onward
    reads_nothing f = nothing_read (then f)

    pub reads_zero : (x : Number) → Reads n m (at + 1) (Some x) → x.value ≡ 0 → Reads (suc n) m at None
    unfolding onward only_if not_zero
    reads_zero x f z = nothing_read (then f ∙ rw z)

    pub reads_more : (x : Number) → v < 256 → Reads n m (at + 1) (Some x) → 1 ≤ x.value →
        Reads (suc n) m at (Some (record { value = v - 128 + 128 * x.value; next = x.next }))
    unfolding onward only_if
    reads_more x k f z =
        let i = f.inside x refl in record {
          is = then f ∙ rw (not_zero_lem x.value z);
          small = λ y e. subst (λ (y : Number). y.value < 128 ^ suc (suc n)) (the_one e) (omega (arith, f.small x refl, pow-suc 128 (suc n)));
          inside = λ y e. subst (λ (y : Number). (at < y.next) × (y.next ≤ length m)) (the_one e) (omega (arith, i.0), i.1);
        }
