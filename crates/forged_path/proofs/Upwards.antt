-- The messages of a path as the loop takes them: at step i, those from there on. Assumes nothing.
use Prim.Native.Nat.{ℕ, ◌+◌, ◌-◌, ◌<◌, ◌≤◌}
use native.Mathlib.Nat.{sub-zero}
use mathlib.Core.Path.{◌≡◌, refl, ap, sym, ◌∙◌}
use mathlib.Core.Bool.{Bool, true, false, cond, true≢false, false≢true}
use mathlib.Core.List.{List, [], ◌∷◌, ◌++◌}
use Rattle.terms.specs.Bits.{Bytes, same_bytes}
use Rattle.terms.specs.Fields.{slice}
use Rattle.terms.specs.Records.{Step, zeros}
use Rattle.hash.specs.declared.Hash.{Hash}
use Rattle.hash.specs.Hash.{hash_bytes}
use Rattle.sha256.specs.Sha256.{sha256}
use Rattle.proofrecords.specs.ProofBytes.{steps_in}
use Rattle.proofrecords.specs.Steps.{step_at}
use Rattle.proofrecords.proofs.Lying.{from_step}
use Rattle.verify_path.proofs.Steps.{steps_left, no_steps_left}
use Rattle.forgery.specs.Messages.{leaf_message, parent_message, upwards}
use Rattle.forgery.specs.Finding.{Finding, nothing, two_equal, one_zero, or_else, partner_or, partner, zero_among, searched}
use Rattle.forgery.proofs.Search.{partner_or_else}
use Rattle.forged_message.specs.declared.Message.{Message}
use Rattle.forged_message.specs.Parts.{message_bytes}
use Rattle.forged_nodes.specs.Nodes.{named_says}
use Rattle.forged_nodes.specs.declared.Named as declared
use Rattle.forged_nodes.specs.declared.Named.TheVariants.{Nothing, Two, Zero}
use Rattle.forged_path.specs.Along.{at_message, looked, along_path, is_nothing}

-- what was named, case by case
pub told_nothing : (x : declared.Named) → x ≡ Nothing → true ≡ is_nothing (named_says x)
unfolding named_says
told_nothing x e = rw e

pub told_something : (x : declared.Named) → (x ≡ Nothing → ⊥) → false ≡ is_nothing (named_says x)
unfolding named_says
told_something Nothing n = absurd (n refl)
told_something (Two a b) n = refl
told_something (Zero a) n = refl

-- at one message
pub zero_named : (nodes : List Bytes) (m : Message) → same_bytes (sha256 (message_bytes m)) zeros ≡ true →
    named_says (Zero m) ≡ at_message nodes (message_bytes m)
unfolding named_says at_message
zero_named nodes m e = rw e

pub not_zero_lem : (nodes : List Bytes) (m : Bytes) → same_bytes (sha256 m) zeros ≡ false → at_message nodes m ≡ partner sha256 m nodes
unfolding at_message
not_zero_lem nodes m e = rw e

pub or_first_lem : (f g : Finding) → is_nothing f ≡ false → or_else f g ≡ f
or_first_lem nothing g e = absurd (true≢false e)
or_first_lem (two_equal m n) g e = refl
or_first_lem (one_zero m) g e = refl

pub or_second : (f g : Finding) → is_nothing f ≡ true → or_else f g ≡ g
or_second nothing g e = refl
or_second (two_equal m n) g e = absurd (false≢true e)
or_second (one_zero m) g e = absurd (false≢true e)

or_nothing : (f : Finding) → or_else f nothing ≡ f
or_nothing nothing = refl
or_nothing (two_equal m n) = refl
or_nothing (one_zero m) = refl

or_assoc : (f g h : Finding) → or_else (or_else f g) h ≡ or_else f (or_else g h)
or_assoc nothing g h = refl
or_assoc (two_equal m n) g h = refl
or_assoc (one_zero m) g h = refl

-- The search in parts: along some messages, along others, then the nodes' own.
pub looked_append : (nodes xs ys : List Bytes) → looked nodes (xs ++ ys) ≡ or_else (looked nodes xs) (looked nodes ys)
looked_append nodes [] ys = refl
looked_append nodes (x ∷ xs) ys =
    ap (or_else (at_message nodes x)) (looked_append nodes xs ys) ∙ sym (or_assoc (at_message nodes x) (looked nodes xs) (looked nodes ys))

in_parts : (nodes : List Bytes) (m : Bytes) (ms : List Bytes) →
    searched sha256 nodes ms ≡ or_else (looked nodes ms) (zero_among sha256 nodes) →
    searched sha256 nodes (m ∷ ms) ≡ or_else (looked nodes (m ∷ ms)) (zero_among sha256 nodes)
unfolding at_message
in_parts nodes m ms ih = go (same_bytes (sha256 m) zeros)
  where
    go : (b : Bool) →
        cond b (one_zero m) (partner_or sha256 (searched sha256 nodes ms) m nodes)
        ≡ or_else (or_else (cond b (one_zero m) (partner sha256 m nodes)) (looked nodes ms)) (zero_among sha256 nodes)
    go true = refl
    go false =
        partner_or_else sha256 (searched sha256 nodes ms) m nodes ∙ ap (or_else (partner sha256 m nodes)) ih
        ∙ sym (or_assoc (partner sha256 m nodes) (looked nodes ms) (zero_among sha256 nodes))

pub searched_in_parts : (nodes ms : List Bytes) → searched sha256 nodes ms ≡ or_else (looked nodes ms) (zero_among sha256 nodes)
searched_in_parts nodes [] = refl
searched_in_parts nodes (m ∷ ms) = in_parts nodes m ms (searched_in_parts nodes ms)

module _ (nodes : List Bytes) (m : Bytes) (i n : ℕ) (x : Bytes) where
  abbrev rest : List Step
  rest = steps_in (n - i) (from_step i x)

  here : (steps : List Step) → is_nothing (at_message nodes m) ≡ false → looked nodes (upwards sha256 m steps) ≡ at_message nodes m
  here [] e = or_first_lem (at_message nodes m) nothing e
  here (s ∷ steps) e = or_first_lem (at_message nodes m) (looked nodes (upwards sha256 (parent_message sha256 (sha256 m) s) steps)) e

  -- something here, the last message, and nothing here with a step to go
  pub named_here : is_nothing (at_message nodes m) ≡ false → looked nodes (upwards sha256 m rest) ≡ at_message nodes m
  named_here e = here rest e

  pub named_last : n ≤ i → looked nodes (upwards sha256 m rest) ≡ at_message nodes m
  named_last h = ap (λ steps. looked nodes (upwards sha256 m steps)) (no_steps_left i n x h) ∙ or_nothing (at_message nodes m)

  pub named_above : is_nothing (at_message nodes m) ≡ true → i < n →
      looked nodes (upwards sha256 m rest)
      ≡ looked nodes (upwards sha256 (parent_message sha256 (sha256 m) (step_at i x)) (steps_in (n - (i + 1)) (from_step (i + 1) x)))
  named_above e h =
      ap (λ steps. looked nodes (upwards sha256 m steps)) (steps_left i n x h) ∙ or_second (at_message nodes m) _ e

-- a parent's message by its parts
pub parent_right : (s : Step) (h : Hash) (m : Message) → s.side ≡ true → m.leaf ≡ false → hash_bytes m.first ≡ s.sibling →
    m.second ≡ h → message_bytes m ≡ parent_message sha256 (hash_bytes h) s
unfolding message_bytes
parent_right s h m e f g k = rw (e, f, g, k)

pub parent_left : (s : Step) (h : Hash) (m : Message) → s.side ≡ false → m.leaf ≡ false → m.first ≡ h →
    hash_bytes m.second ≡ s.sibling → message_bytes m ≡ parent_message sha256 (hash_bytes h) s
unfolding message_bytes
parent_left s h m e f g k = rw (e, f, g, k)

-- the leaf's message by its parts
pub leaf_parts_lem : (x : Bytes) (m : Message) → m.leaf ≡ true → hash_bytes m.first ≡ slice 8 32 x → hash_bytes m.second ≡ slice 40 32 x →
    message_bytes m ≡ leaf_message (slice 8 32 x) (slice 40 32 x)
unfolding message_bytes
leaf_parts_lem x m e f g = rw (e, f, g)

-- before the first step
pub first_message : (nodes : List Bytes) (n : ℕ) (x : Bytes) (m : Message) → message_bytes m ≡ leaf_message (slice 8 32 x) (slice 40 32 x) →
    looked nodes (upwards sha256 (message_bytes m) (steps_in (n - 0) (from_step 0 x))) ≡ along_path nodes n x
unfolding along_path
first_message nodes n x m e = rw (sub-zero n, e)
