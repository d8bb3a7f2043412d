-- Messages by their parts: SHA-256 of one is the hash of its node, and two are the same if their parts are. Assumes nothing.
use native.Mathlib.Omega.{arith}
use mathlib.Core.Path.{◌≡◌, refl, ap, ap₂, sym, ◌∙◌}
use mathlib.Core.Bool.{Bool, true, false, cond, ◌&&◌, not, beq, false≢true}
use mathlib.Core.List.{[], ◌∷◌, ◌++◌}
use lib.ListN.{length}
use lib.Dec.{eqb}
use Rattle.terms.specs.Bits.{Bytes, same_bytes}
use Rattle.terms.proofs.Tests.{and_assoc}
use Rattle.hash.specs.declared.Hash.{Hash}
use Rattle.hash.specs.Hash.{hash_bytes, hash_of, Fits}
use Rattle.hash.proofs.Laws.{hash_of_bytes, same_by_numbers}
use Rattle.sha256.specs.Sha256.{sha256}
use Rattle.nodehash.specs.Node.{leaf_hash, inner_hash}
use Rattle.forged_message.specs.declared.Message.{Message}
use Rattle.forged_message.specs.Parts.{message_bytes, first_word}

pub hash_long : (h : Hash) → length (hash_bytes h) ≡ 32
unfolding hash_bytes
hash_long h = refl

-- the first number of a hash is its first word
pub first_number : (h : Hash) → Fits h → h.a ≡ first_word (hash_bytes h)
unfolding first_word hash_of
first_number h f = sym (ap (λ (g : Hash). g.a) (hash_of_bytes h f))

-- two strings of two parts, the first ones equally long
same_append : (a b c d : Bytes) → length a ≡ length c → same_bytes (a ++ b) (c ++ d) ≡ same_bytes a c && same_bytes b d
same_append [] b [] d e = refl
same_append [] b (y ∷ c) d e = absurd (omega arith)
same_append (x ∷ a) b [] d e = absurd (omega arith)
same_append (x ∷ a) b (y ∷ c) d e =
    ap (eqb x y &&◌) (same_append a b c d (omega arith)) ∙ sym (and_assoc (eqb x y) (same_bytes a c) (same_bytes b d))

-- the first byte tells which of the two a message is
tells : (a b : Bool) (x y : Bytes) → same_bytes (cond a (1 ∷ x) (0 ∷ x)) (cond b (1 ∷ y) (0 ∷ y)) ≡ beq a b && same_bytes x y
tells true true x y = refl
tells true false x y = refl
tells false true x y = refl
tells false false x y = refl

by_parts : (m n : Message) →
    same_bytes (message_bytes m) (message_bytes n)
    ≡ beq m.leaf n.leaf
    && (same_bytes (hash_bytes m.first) (hash_bytes n.first) && same_bytes (hash_bytes m.second) (hash_bytes n.second))
unfolding message_bytes
by_parts m n =
    tells m.leaf n.leaf (hash_bytes m.first ++ hash_bytes m.second) (hash_bytes n.first ++ hash_bytes n.second)
    ∙ ap (beq m.leaf n.leaf &&◌)
    (same_append (hash_bytes m.first) (hash_bytes m.second) (hash_bytes n.first) (hash_bytes n.second)
    (hash_long m.first ∙ sym (hash_long n.first)))

-- what `==` answers, number by number
pub same_by_parts : (m n : Message) → Fits m.first → Fits n.first → Fits m.second → Fits n.second → (t : Bool) →
    t ≡ beq m.leaf n.leaf
    && ((eqb m.first.a n.first.a && (eqb m.first.b n.first.b && (eqb m.first.c n.first.c && eqb m.first.d n.first.d)))
    && (eqb m.second.a n.second.a && (eqb m.second.b n.second.b && (eqb m.second.c n.second.c && eqb m.second.d n.second.d)))) →
    t ≡ same_bytes (message_bytes m) (message_bytes n)
same_by_parts m n fm fn gm gn t e =
    e
    ∙ ap (beq m.leaf n.leaf &&◌)
    (ap₂ (λ a b. a && b) (same_by_numbers m.first n.first fm fn _ refl) (same_by_numbers m.second n.second gm gn _ refl))
    ∙ sym (by_parts m n)

-- its hash is that of its node
pub leaf_hashed : (m : Message) → m.leaf ≡ true → sha256 (message_bytes m) ≡ leaf_hash (hash_bytes m.first) (hash_bytes m.second)
unfolding message_bytes leaf_hash
leaf_hashed m e = rw e

pub inner_hashed : (m : Message) → m.leaf ≡ false → sha256 (message_bytes m) ≡ inner_hash (hash_bytes m.first) (hash_bytes m.second)
unfolding message_bytes inner_hash
inner_hashed m e = rw e

-- a message doesn't collide with itself
pub itself : (a b : Bool) → a ≡ true → false ≡ not a && b
itself true b e = refl
itself false b e = absurd (false≢true e)
