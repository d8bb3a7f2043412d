-- The second pass: a proof a turn, each in its part, as long as its bytes are. Assumes nothing.
use Prim.Native.Nat.{ℕ, ◌+◌, ◌*◌, ◌-◌, ◌<◌, ◌≤◌, ◌/◌}
use native.Mathlib.Omega.{arith}
use native.Mathlib.Nat.{zero-add}
use mathlib.Core.Path.{◌≡◌, refl, ap, ap₂, sym, ◌∙◌}
use mathlib.Core.Bool.{true}
use mathlib.Core.List.{List, [], ◌++◌, append_assoc, append-nil}
use lib.ListN.{length, take, drop, length-append}
use lib.Seq.{take_at, take_all, length-take-le}
use Rattle.terms.specs.Bits.{Bytes}
use Rattle.terms.specs.Records.{Proof}
use Rattle.meaning.specs.Calls.{Answer, refused, accepted}
use Rattle.meaning.specs.Proving.{proof_length}
use Rattle.proofrecords.specs.ProofBytes.{proof_bytes}
use Rattle.prove_paths.proofs.Records.{given, part_room, given_long}
use Rattle.palette_rules.specs.Palette.{whole_keys, keys_in, followed, in_turn, length_together}
use Rattle.contracts.specs.Palettes.{proofs_bytes}
use Rattle.palette_give.specs.Together.{together_length, together_bytes}
use Rattle.palette_give.proofs.Passing.{answers_from, Left, left_start, turn, none_left}

-- the proofs of the keys before fill the part up to start, and those of the keys that are left the rest
pub record Filling (f : Bytes → Answer Proof) (ks : Bytes) (size : ℕ) (part : Bytes) (start : ℕ) (rest : Bytes) : Type 0 where
  pub count : ℕ
  pub left : Left count rest
  pub long : length part ≡ size
  pub todo : ℕ
  pub sums : together_length (answers_from f count rest) ≡ accepted todo
  pub fits : start + todo ≡ size
  pub few : start + 17080 * count ≤ 4372480
  pub filled : together_bytes (in_turn f (keys_in ks)) ≡ take start part ++ together_bytes (answers_from f count rest)

pub filling_starts : (f : Bytes → Answer Proof) (ks part : Bytes) → whole_keys ks ≡ true → together_length (in_turn f (keys_in ks)) ≡ accepted (length part) →
    Filling f ks (length part) part 0 ks
unfolding keys_in
filling_starts f ks part e l = record {
  count = length ks / 32;
  left = left_start ks e;
  long = refl;
  todo = length part;
  sums = l;
  fits = zero-add (length part);
  few = omega (arith, (left_start ks e).short);
  filled = refl;
}

-- an accepted list has its first proof and those after it
record Parted (a : Answer Proof) (b : Answer (List Proof)) (m : ℕ) : Type 0 where
  proof : Proof
  is : a ≡ accepted proof
  later : List Proof
  are : b ≡ accepted later
  sum : m ≡ proof_length proof + length_together later

parted : (a : Answer Proof) (b : Answer (List Proof)) (m : ℕ) → together_length (followed a b) ≡ accepted m → Parted a b m
parted (refused n) b m e = let z : ◌≡◌ {A = ℕ} 0 1 = cc in absurd (omega arith)
parted (accepted p) (refused n) m e = let z : ◌≡◌ {A = ℕ} 0 1 = cc in absurd (omega arith)
parted (accepted p) (accepted ps) m e =
    let z : proof_length p + length_together ps ≡ m = cc in record { proof = p; is = refl; later = ps; are = refl; sum = sym z }

-- the length of the one proof that an answer is
pub its_length : {a : Answer Proof} {len : ℕ} (p q : Proof) → a ≡ accepted p → a ≡ accepted q → len ≡ proof_length p → len ≡ proof_length q
its_length p q e f l = let g : accepted p ≡ accepted q = sym e ∙ f in let z : p ≡ q = cc in l ∙ ap proof_length z

-- what stands before the end of a part that was just filled
front_then : (start len : ℕ) (part y : Bytes) → start ≤ length part → length y ≡ len → take (start + len) (given start (start + len) part y) ≡ take start part ++ y
front_then start len part y h l =
    let n : length (take start part ++ y) ≡ start + len = length-append (take start part) y ∙ ap₂ ◌+◌ (length-take-le start part h) l in
    ap (take (start + len)) (sym (append_assoc (take start part) y (drop (start + len - start) (drop start part))))
    ∙ take_at (take start part ++ y) (drop (start + len - start) (drop start part)) (start + len) n

module _ {f : Bytes → Answer Proof} {ks part : Bytes} {size start : ℕ} {rest : Bytes} (w : Filling f ks size part start rest) where
  module _ (key after : Bytes) (here : rest ≡ key ++ after) (whole : length key ≡ 32) where
    -- the proof of the next key, and how far it reaches
    pub record Next : Type 0 where
      pub proof : Proof
      pub is : f key ≡ accepted proof
      pub reaches : start + proof_length proof ≤ size
      pub fits : {len : ℕ} → len ≤ 17080 → start + len ≤ 4372480
      pub less : ℕ
      pub one : w.count ≡ less + 1
      pub left : Left less after
      pub later : List Proof
      pub are : answers_from f less after ≡ accepted later
      pub sum : start + proof_length proof + length_together later ≡ size
      pub filled : together_bytes (in_turn f (keys_in ks)) ≡ take start part ++ (proof_bytes proof ++ proofs_bytes later)

    pub next : Next
    next =
        let t = turn f w.count rest key after w.left here whole in
        let x = answers_from f t.less after in
        let p = parted (f key) x w.todo (ap together_length (sym t.answers) ∙ w.sums) in
        let sum : start + proof_length p.proof + length_together p.later ≡ size = omega (arith, p.sum, w.fits) in
        record {
          proof = p.proof;
          is = p.is;
          reaches = omega arith;
          fits = λ few. omega (arith, w.few, t.one);
          less = t.less;
          one = t.one;
          left = t.left;
          later = p.later;
          are = p.are;
          sum = sum;
          filled = w.filled ∙ ap (λ a. take start part ++ together_bytes a) (t.answers ∙ ap₂ followed p.is p.are);
        }

    pub filling_next : {len : ℕ} (n : Next) (y : Bytes) → len ≡ proof_length n.proof → len ≤ 17080 → length y ≡ length (take (start + len - start) (drop start part)) →
        y ≡ proof_bytes n.proof → Filling f ks size (given start (start + len) part y) (start + len) after
    filling_next {len} n y l short ly e =
        let reach : start + len ≤ length part = omega (arith, n.reaches, w.long) in
        let its : length y ≡ len = ly ∙ part_room start (start + len) len part refl reach in
        record {
          count = n.less;
          left = n.left;
          long = given_long start (start + len) part y (omega arith) reach ly ∙ w.long;
          todo = length_together n.later;
          sums = ap together_length n.are;
          fits = omega (arith, n.sum);
          few = omega (arith, w.few, n.one);
          filled = n.filled
              ∙ ap (λ b. take start part ++ (b ++ proofs_bytes n.later)) (sym e)
              ∙ sym (append_assoc (take start part) y (proofs_bytes n.later))
              ∙ ap₂ ◌++◌ (sym (front_then start len part y (omega arith) its)) (ap together_bytes (sym n.are));
        }

  pub filling_done : length rest < 32 → part ≡ together_bytes (in_turn f (keys_in ks))
  filling_done h =
      let none : answers_from f w.count rest ≡ accepted [] = ap (λ (n : ℕ). answers_from f n rest) (none_left w.left h) in
      let zero : w.todo ≡ 0 = ends w.todo (sym (ap together_length none) ∙ w.sums) in
      let all : length part ≤ start = omega (arith, w.long, w.fits) in
      sym (w.filled ∙ ap₂ ◌++◌ (take_all start part all) (ap together_bytes none) ∙ append-nil part)
    where
      ends : (m : ℕ) → ◌≡◌ {A = Answer ℕ} (accepted 0) (accepted m) → m ≡ 0
      ends m e = let z : 0 ≡ m = cc in sym z
