-- A slot's message, from its bytes: the record that they are says whether it is in the tree, and its body what is hashed. Assumes nothing.
use Prim.Native.Nat.{ℕ}
use mathlib.Core.Path.{◌≡◌, refl, ap, sym, ◌∙◌}
use mathlib.Core.Bool.{Bool, true, false, cond, ◌&&◌}
use mathlib.Core.List.{[], ◌∷◌}
use Rattle.terms.specs.Bits.{Bytes}
use Rattle.terms.specs.Records.{Body, Record, Slot, free, used, spoiled}
use Rattle.terms.proofs.Tests.{and_true}
use Rattle.meaning.specs.Store.{retired_by}
use Rattle.hash.specs.Hash.{hash_bytes}
use Rattle.layout.specs.Slots.{key_in, value_inside, kid_on, is_leaf, record_in, slot_of, version_in, since_in}
use Rattle.layout.proofs.Slots.{record_is}
use Rattle.lookup.specs.Lookup.{is_used}
use Rattle.lifetime.specs.Lifetime.{covers}
use Rattle.read_step.specs.Walk.{body_in}
use Rattle.read_step.proofs.Seeing.{leaf_body_lem, inner_body_lem}
use Rattle.forgery.specs.Messages.{message_of, stands_in, slot_messages}
use Rattle.forged_message.specs.declared.Message.{Message}
use Rattle.forged_message.specs.Parts.{message_bytes}
use Rattle.forged_slot.specs.Slot.{stands_here, message_in}

-- the record that bytes are
its_record : (x : Bytes) (r : Record) → slot_of x ≡ used r → record_in x (body_in x) ≡ r
unfolding body_in
its_record x r e = record_is x r e

its_body : (x : Bytes) (r : Record) → slot_of x ≡ used r → r.body ≡ body_in x
unfolding record_in
its_body x r e = ap (λ (q : Record). q.body) (sym (its_record x r e))

lives : (v : ℕ) (x : Bytes) (b : Body) → stands_in v (record_in x b) ≡ covers (version_in x) (since_in x) v
unfolding stands_in retired_by covers record_in
lives v x b = refl

pub and_false : (c : Bool) → c && false ≡ false
and_false true = refl
and_false false = refl

-- whether a slot's record is in the tree, from its bytes
pub stands_by_bytes : (v : ℕ) (x : Bytes) → covers (version_in x) (since_in x) v && is_used (slot_of x) ≡ stands_here v (slot_of x)
stands_by_bytes v x = go (slot_of x) refl
  where
    go : (y : Slot) → slot_of x ≡ y → covers (version_in x) (since_in x) v && is_used y ≡ stands_here v y
    go free e = and_false (covers (version_in x) (since_in x) v)
    go (used r) e =
        and_true (covers (version_in x) (since_in x) v) ∙ sym (lives v x (body_in x)) ∙ ap (stands_in v) (its_record x r e)
    go (spoiled z) e = and_false (covers (version_in x) (since_in x) v)

pub not_alive : (v : ℕ) (x : Bytes) → covers (version_in x) (since_in x) v ≡ false → false ≡ stands_here v (slot_of x)
not_alive v x e = sym (ap (λ b. b && is_used (slot_of x)) e) ∙ stands_by_bytes v x

pub alive : (v : ℕ) (x : Bytes) → covers (version_in x) (since_in x) v ≡ true → is_used (slot_of x) ≡ stands_here v (slot_of x)
alive v x e = sym (ap (λ b. b && is_used (slot_of x)) e) ∙ stands_by_bytes v x

-- its message, if it is
pub message_here : (v : ℕ) (x : Bytes) → slot_messages v (slot_of x) ≡ cond (stands_here v (slot_of x)) (message_in x ∷ []) []
message_here v x = go (slot_of x) refl
  where
    go : (y : Slot) → slot_of x ≡ y → slot_messages v y ≡ cond (stands_here v y) (message_in x ∷ []) []
    go free e = refl
    go (used r) e = ap (λ b. cond (stands_in v r) (message_of b ∷ []) []) (its_body x r e)
    go (spoiled z) e = refl

-- the message of a record by its parts
pub leaf_message_lem : (x : Bytes) (m : Message) → is_leaf x ≡ true → m.leaf ≡ true → hash_bytes m.first ≡ key_in x →
    hash_bytes m.second ≡ value_inside x → message_bytes m ≡ message_in x
unfolding message_bytes
leaf_message_lem x m e k f g = rw (k, f, g, leaf_body_lem x e)

pub inner_message_lem : (x : Bytes) (m : Message) → is_leaf x ≡ false → m.leaf ≡ false → hash_bytes m.first ≡ (kid_on false x).hash →
    hash_bytes m.second ≡ (kid_on true x).hash → message_bytes m ≡ message_in x
unfolding message_bytes
inner_message_lem x m e k f g = rw (k, f, g, inner_body_lem x e)
