-- A node by the first word of its hash, and one whose hash is zero. Assumes nothing.
use Prim.Native.Nat.{ℕ}
use mathlib.Core.Path.{◌≡◌, refl, ap, sym, ◌∙◌}
use mathlib.Core.Bool.{Bool, true, false, cond, ◌&&◌, false≢true}
use mathlib.Core.List.{List, [], ◌∷◌, ◌++◌}
use Rattle.terms.specs.Bits.{Bytes, same_bytes}
use Rattle.terms.specs.Records.{zeros}
use Rattle.hash.proofs.Same.{same_equal}
use Rattle.sha256.specs.Sha256.{sha256}
use Rattle.layout.specs.Slots.{slot_of}
use Rattle.forgery.specs.Messages.{slot_messages}
use Rattle.forgery.specs.Finding.{one_zero, zero_among}
use Rattle.forged_message.specs.Parts.{first_word}
use Rattle.forged_slot.specs.Slot.{stands_here, message_in}
use Rattle.forged_slot.proofs.Messages.{message_here}
use Rattle.forged_nodes.specs.Nodes.{WordHere, zero_here}

-- the first word of a node's hash
module _ (v : ℕ) (x : Bytes) where
  pub no_node_any_word : {w : ℕ} → stands_here v (slot_of x) ≡ false → WordHere v x w
  no_node_any_word e = λ t. absurd (false≢true (sym e ∙ t))

  pub node_word : (n : Bytes) {w : ℕ} → n ≡ message_in x → w ≡ first_word (sha256 n) → WordHere v x w
  node_word n f g = λ t. g ∙ ap (λ k. first_word (sha256 k)) f

  -- with another first word the hash is no zero
  pub word_not_zero : {a : ℕ} → WordHere v x a → (a ≡ 0 → ⊥) → false ≡ zero_here v x
  unfolding zero_here first_word zeros
  word_not_zero {a} w n = sym (go (stands_here v (slot_of x)) (same_bytes (sha256 (message_in x)) zeros) refl refl)
    where
      go : (p q : Bool) → stands_here v (slot_of x) ≡ p → same_bytes (sha256 (message_in x)) zeros ≡ q → p && q ≡ false
      go false q f g = refl
      go true false f g = refl
      go true true f g = absurd (n (w f ∙ ap first_word (same_equal (sha256 (message_in x)) zeros g)))

  -- no node, and a node by its message
  pub no_node_no_zero : stands_here v (slot_of x) ≡ false → false ≡ zero_here v x
  unfolding zero_here
  no_node_no_zero e = sym (ap (λ b. b && same_bytes (sha256 (message_in x)) zeros) e)

  pub node_zero : (n : Bytes) {r : Bool} → stands_here v (slot_of x) ≡ true → n ≡ message_in x → r ≡ same_bytes (sha256 n) zeros →
      r ≡ zero_here v x
  unfolding zero_here
  node_zero n e f g = g ∙ ap (λ k. same_bytes (sha256 k) zeros) f ∙ sym (ap (λ b. b && same_bytes (sha256 (message_in x)) zeros) e)

-- past a slot, and at one
zero_skip : (b : Bool) (n : Bytes) (ns : List Bytes) → b && same_bytes (sha256 n) zeros ≡ false →
    zero_among sha256 (cond b (n ∷ []) [] ++ ns) ≡ zero_among sha256 ns
zero_skip true n ns e = rw e
zero_skip false n ns e = refl

zero_hit : (b : Bool) (n : Bytes) (ns : List Bytes) → b && same_bytes (sha256 n) zeros ≡ true →
    zero_among sha256 (cond b (n ∷ []) [] ++ ns) ≡ one_zero n
zero_hit true n ns e = rw e
zero_hit false n ns e = cc

pub zero_past : (v : ℕ) (x : Bytes) (ns : List Bytes) → zero_here v x ≡ false →
    zero_among sha256 (slot_messages v (slot_of x) ++ ns) ≡ zero_among sha256 ns
unfolding zero_here
zero_past v x ns e = ap (λ ms. zero_among sha256 (ms ++ ns)) (message_here v x) ∙ zero_skip (stands_here v (slot_of x)) (message_in x) ns e

pub zero_at_lem : (v : ℕ) (x : Bytes) (ns : List Bytes) → zero_here v x ≡ true →
    zero_among sha256 (slot_messages v (slot_of x) ++ ns) ≡ one_zero (message_in x)
unfolding zero_here
zero_at_lem v x ns e = ap (λ ms. zero_among sha256 (ms ++ ns)) (message_here v x) ∙ zero_hit (stands_here v (slot_of x)) (message_in x) ns e
