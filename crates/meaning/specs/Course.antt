-- The course of a store under a list of calls, told from the store. No public promise reaches this file. Assumes
-- nothing.
use Rattle.std.specs.Prelude.{◌≤◌, Bool, true, false, List, [], ◌∷◌, length}
use Rattle.std.proofs.Math.Option.{none, some}
use Rattle.terms.specs.Bits.{Bytes, All}
use Rattle.terms.specs.Records.{Store}
use Rattle.terms.specs.Form.{AskForm, top32}
use Rattle.meaning.specs.Store.{formatted}
use Rattle.meaning.specs.Calls.{Answer, refused, accepted, apply, prune}
use Rattle.meaning.specs.History.{Call, formatting, applying, pruning, taking, looking}

-- The asks of a batch are in form, as those decoded from bytes are, and its number has four bytes.
abbrev pub CallForm : Call → Type 0
CallForm formatting = Unit {0}
CallForm (applying number none) = Unit {0}
CallForm (applying number (some batch)) = (number ≤ top32) × All AskForm batch
CallForm (pruning n) = Unit {0}
CallForm (taking es) = Unit {0}
CallForm looking = Unit {0}

abbrev pub is_accepted : {A : Type 0} → Answer A → Bool
is_accepted (refused n) = false
is_accepted (accepted x) = true

module _ (leaf_hash inner_hash : Bytes → Bytes → Bytes) where
  -- The store after a call. What is made of another store isn't told from this one alone: here it is as if it were
  -- refused.
  abbrev pub after : Call → Store → Store
  after formatting st = formatted (length st.slots)
  after (applying number batch) st = (apply leaf_hash inner_hash number batch st).store
  after (pruning n) st = (prune n st).store
  after (taking es) st = st
  after looking st = st

  -- The call was accepted, so it may have changed what the store holds.
  abbrev pub took : Call → Store → Bool
  took formatting st = true
  took (applying number batch) st = is_accepted (apply leaf_hash inner_hash number batch st).answer
  took (pruning n) st = is_accepted (prune n st).answer
  took (taking es) st = false
  took looking st = false

  -- The store after a list of calls.
  abbrev pub run : List Call → Store → Store
  run [] st = st
  run (c ∷ calls) st = run calls (after c st)

  -- A history as the callers see it: each call, and whether it was accepted.
  abbrev pub history : List Call → Store → List (Call × Bool)
  history [] st = []
  history (c ∷ calls) st = (c, took c st) ∷ history calls (after c st)
