-- A first byte and two parts after it fill their bytes: a message, and what is found. Assumes nothing.
use Prim.Native.Nat.{ℕ, ◌+◌, ◌-◌, ◌≤◌}
use native.Mathlib.Omega.{arith}
use mathlib.Core.Path.{◌≡◌, refl, ap, ap₂, sym, ◌∙◌}
use mathlib.Core.Bool.{Bool, true, false, cond}
use mathlib.Core.List.{[], ◌∷◌, ◌++◌, append-nil}
use lib.ListN.{length, take, drop, set, length-set, length-take, length-drop, length-append}
use Rattle.terms.specs.Bits.{Bytes}
use Rattle.terms.specs.Fields.{zero_bytes}
use Rattle.hash.specs.Hash.{hash_bytes}
use Rattle.hash.proofs.Laws.{hash_whole, put_over}
use Rattle.fields.specs.Written.{written}
use Rattle.fields.proofs.Written.{length_written, part_written, fields_fill}
use Rattle.forgery.specs.Messages.{leaf_message, inner_message}
use Rattle.forgery.specs.Finding.{two_equal, one_zero}
use Rattle.forged_message.specs.declared.Message.{Message}
use Rattle.forged_message.specs.Parts.{message_bytes}
use Rattle.finding_rules.specs.Call.{finding_bytes}

-- what is left where the first byte is set and the parts y, z are written after it
abbrev after_one_lem : ℕ → ℕ → Bytes → Bytes → Bytes
after_one_lem n b f y = take 1 (set f 0 b) ++ (y ++ drop (1 + n - 1) (drop 1 (set f 0 b)))

abbrev after_two : ℕ → ℕ → ℕ → Bytes → Bytes → Bytes → Bytes
after_two n m b f y z = take (1 + n) (after_one_lem n b f y) ++ (z ++ drop (1 + n + m - (1 + n)) (drop (1 + n) (after_one_lem n b f y)))

set_first : (b : ℕ) (f : Bytes) → 1 + 0 ≡ length f - (length f - 1) → set f 0 b ≡ written 0 (b ∷ []) f
unfolding written
set_first b [] h = absurd (omega arith)
set_first b (x ∷ f) h = refl

module _ (n m b : ℕ) (f : Bytes) (l : length f ≡ 1 + n + m) where
  first : set f 0 b ≡ written 0 (b ∷ []) f
  first = set_first b f (omega arith)

  one_part : (p : Bytes) → length p ≡ n → after_one_lem n b f p ≡ written 1 p (written 0 (b ∷ []) f)
  one_part p k = part_written 1 (1 + n) p (set f 0 b) (omega arith) ∙ ap (written 1 p) first

  pub part_one_long : length (take (1 + n - 1) (drop 1 (set f 0 b))) ≡ n
  part_one_long = simp (length-take, length-drop, length-set) (omega arith)

  pub after_one_long : (p : Bytes) → length p ≡ n → length (after_one_lem n b f p) ≡ 1 + n + m
  after_one_long p k =
      ap length (one_part p k)
      ∙ length_written 1 p (written 0 (b ∷ []) f) (omega (arith, length_written 0 (b ∷ []) f (omega arith)))
      ∙ length_written 0 (b ∷ []) f (omega arith) ∙ l

  pub part_two_long : (p : Bytes) → length p ≡ n → length (take (1 + n + m - (1 + n)) (drop (1 + n) (after_one_lem n b f p))) ≡ m
  part_two_long p k = simp (length-take, length-drop) (omega (arith, after_one_long p k))

  -- there is room for the second part, and nothing grows
  pub after_one_room : (p : Bytes) → length p ≡ n → 1 + n + m ≤ length (after_one_lem n b f p)
  after_one_room p k = omega (arith, after_one_long p k)

  pub after_two_long : (p q : Bytes) → length p ≡ n → length q ≡ m → length (after_two n m b f p q) ≡ length f
  after_two_long p q k j =
      ap length (part_written (1 + n) (1 + n + m) q (after_one_lem n b f p) (omega arith))
      ∙ length_written (1 + n) q (after_one_lem n b f p) (omega (arith, after_one_long p k)) ∙ after_one_long p k ∙ sym l

  -- the byte and the parts
  pub filled : (p q : Bytes) → length p ≡ n → length q ≡ m → after_two n m b f p q ≡ b ∷ (p ++ q)
  filled p q k j =
      part_written (1 + n) (1 + n + m) q (after_one_lem n b f p) (omega arith)
      ∙ ap (written (1 + n) q) (one_part p k)
      ∙ fields_fill (1 ∷ n ∷ m ∷ []) ((b ∷ []) ∷ p ∷ q ∷ []) f (refl, (k, (j, tt))) (omega arith)
      ∙ ap (λ z. b ∷ (p ++ z)) (append-nil q)

-- a message by its parts
message_is : (x : Message) → cond x.leaf 1 0 ∷ (hash_bytes x.first ++ hash_bytes x.second) ≡ message_bytes x
unfolding message_bytes
message_is x = go x.leaf
  where
    go : (a : Bool) → cond a 1 0 ∷ (hash_bytes x.first ++ hash_bytes x.second)
        ≡ cond a (leaf_message (hash_bytes x.first) (hash_bytes x.second)) (inner_message (hash_bytes x.first) (hash_bytes x.second))
    go true = refl
    go false = refl

pub message_65 : (x : Message) → length (message_bytes x) ≡ 65
unfolding hash_bytes
message_65 x =
    ap length (sym (message_is x)) ∙ ap (λ k. 1 + k) (length-append (hash_bytes x.first) (hash_bytes x.second))
    ∙ ap₂ (λ a b. 1 + (a + b)) (hash_whole x.first).0 (hash_whole x.second).0

pub message_put : (x : Message) (b : ℕ) (f y z : Bytes) → length f ≡ 65 → b ≡ cond x.leaf 1 0 →
    y ≡ hash_bytes x.first ++ drop 32 (take (33 - 1) (drop 1 (set f 0 b))) →
    z ≡ hash_bytes x.second ++ drop 32 (take (65 - 33) (drop 33 (after_one_lem 32 b f y))) →
    after_two 32 32 b f y z ≡ message_bytes x
message_put x b f y z l e g h =
    let p = hash_bytes x.first in
    let one : y ≡ p = put_over x.first (take (33 - 1) (drop 1 (set f 0 b))) y (part_one_long 32 32 b f l) g in
    let long : length y ≡ 32 = ap length one ∙ (hash_whole x.first).0 in
    let two : z ≡ hash_bytes x.second = put_over x.second (take (65 - 33) (drop 33 (after_one_lem 32 b f y))) z (part_two_long 32 32 b f l y long) h in
    filled 32 32 b f l y z long (ap length two ∙ (hash_whole x.second).0)
    ∙ ap₂ (λ u w. b ∷ (u ++ w)) one two ∙ ap (λ c. c ∷ (p ++ hash_bytes x.second)) e ∙ message_is x

-- what is found
pub two_put : (x w : Message) (f y z : Bytes) → length f ≡ 131 → y ≡ message_bytes x → z ≡ message_bytes w →
    after_two 65 65 1 f y z ≡ finding_bytes (two_equal (message_bytes x) (message_bytes w))
unfolding finding_bytes
two_put x w f y z l e g =
    filled 65 65 1 f l y z (ap length e ∙ message_65 x) (ap length g ∙ message_65 w) ∙ ap₂ (λ u v. 1 ∷ (u ++ v)) e g

zero_65 : length (zero_bytes 65) ≡ 65
unfolding zero_bytes
zero_65 = refl

pub one_put : (k : ℕ) (x : Message) (f y z : Bytes) → length f ≡ 131 → y ≡ message_bytes x →
    z ≡ zero_bytes (length (take (131 - 66) (drop 66 (after_one_lem 65 k f y)))) → after_two 65 65 k f y z ≡ k ∷ (message_bytes x ++ zero_bytes 65)
one_put k x f y z l e g =
    let long : length y ≡ 65 = ap length e ∙ message_65 x in
    let rest : z ≡ zero_bytes 65 = g ∙ ap zero_bytes (part_two_long 65 65 k f l y long) in
    filled 65 65 k f l y z long (ap length rest ∙ zero_65) ∙ ap₂ (λ u v. k ∷ (u ++ v)) e rest
