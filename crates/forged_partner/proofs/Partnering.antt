-- A node by its message, beside another message: past a slot, and at one. Assumes nothing.
use Prim.Native.Nat.{ℕ}
use mathlib.Core.Path.{◌≡◌, refl, ap, sym, ◌∙◌}
use mathlib.Core.Bool.{Bool, true, false, cond, ◌&&◌, not}
use mathlib.Core.List.{List, [], ◌∷◌, ◌++◌}
use Rattle.terms.specs.Bits.{Bytes, same_bytes}
use Rattle.hash.proofs.Same.{same_equal}
use Rattle.sha256.specs.Sha256.{sha256}
use Rattle.layout.specs.Slots.{slot_of}
use Rattle.forgery.specs.Messages.{slot_messages}
use Rattle.forgery.specs.Finding.{two_equal, partner}
use Rattle.forged_message.specs.Parts.{first_word}
use Rattle.forged_slot.specs.Slot.{stands_here, message_in}
use Rattle.forged_slot.proofs.Messages.{and_false, message_here}
use Rattle.forged_nodes.specs.Nodes.{WordHere}
use Rattle.forged_partner.specs.Partner.{partner_here}

module _ (v : ℕ) (x : Bytes) where
  -- with another first word the hash is another
  pub other_word : (m : Bytes) {a b : ℕ} → WordHere v x a → b ≡ first_word (sha256 m) → (a ≡ b → ⊥) → false ≡ partner_here v m x
  unfolding partner_here
  other_word m {a} {b} w e n = sym (go (stands_here v (slot_of x)) (same_bytes (sha256 (message_in x)) (sha256 m)) refl refl)
    where
      go : (p q : Bool) → stands_here v (slot_of x) ≡ p → same_bytes (sha256 (message_in x)) (sha256 m) ≡ q → p && (not (same_bytes (message_in x) m) && q) ≡ false
      go false q f g = refl
      go true false f g = and_false (not (same_bytes (message_in x) m))
      go true true f g = absurd (n (w f ∙ ap first_word (same_equal (sha256 (message_in x)) (sha256 m) g) ∙ sym e))

  -- no node, and a node by its message
  pub no_node_no_partner : (m : Bytes) → stands_here v (slot_of x) ≡ false → false ≡ partner_here v m x
  unfolding partner_here
  no_node_no_partner m e = sym (ap (λ b. b && (not (same_bytes (message_in x) m) && same_bytes (sha256 (message_in x)) (sha256 m))) e)

  pub node_partner : (m n : Bytes) {r : Bool} → stands_here v (slot_of x) ≡ true → n ≡ message_in x →
      r ≡ not (same_bytes n m) && same_bytes (sha256 n) (sha256 m) → r ≡ partner_here v m x
  unfolding partner_here
  node_partner m n e f g =
      g ∙ ap (λ k. not (same_bytes k m) && same_bytes (sha256 k) (sha256 m)) f
      ∙ sym (ap (λ b. b && (not (same_bytes (message_in x) m) && same_bytes (sha256 (message_in x)) (sha256 m))) e)

-- past a slot, and at one
past : (b : Bool) (n m : Bytes) (ns : List Bytes) → b && (not (same_bytes n m) && same_bytes (sha256 n) (sha256 m)) ≡ false →
    partner sha256 m (cond b (n ∷ []) [] ++ ns) ≡ partner sha256 m ns
past true n m ns e = rw e
past false n m ns e = refl

at_it : (b : Bool) (n m : Bytes) (ns : List Bytes) → b && (not (same_bytes n m) && same_bytes (sha256 n) (sha256 m)) ≡ true →
    partner sha256 m (cond b (n ∷ []) [] ++ ns) ≡ two_equal n m
at_it true n m ns e = rw e
at_it false n m ns e = cc

pub partner_past : (v : ℕ) (m x : Bytes) (ns : List Bytes) → partner_here v m x ≡ false →
    partner sha256 m (slot_messages v (slot_of x) ++ ns) ≡ partner sha256 m ns
unfolding partner_here
partner_past v m x ns e =
    ap (λ ms. partner sha256 m (ms ++ ns)) (message_here v x) ∙ past (stands_here v (slot_of x)) (message_in x) m ns e

pub partner_at : (v : ℕ) (m x : Bytes) (ns : List Bytes) → partner_here v m x ≡ true →
    partner sha256 m (slot_messages v (slot_of x) ++ ns) ≡ two_equal (message_in x) m
unfolding partner_here
partner_at v m x ns e =
    ap (λ ms. partner sha256 m (ms ++ ns)) (message_here v x) ∙ at_it (stands_here v (slot_of x)) (message_in x) m ns e
