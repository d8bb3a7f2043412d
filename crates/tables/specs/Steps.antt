-- Document 01, 'The desk's example': each batch of the table, applied by steps; and four batches that the table lacks.
-- Assumes nothing.
use Rattle.std.specs.Prelude.{◌+◌, ◌≡◌, List, [], ◌∷◌, replicate}
use Rattle.terms.specs.Bits.{Bytes}
use Rattle.terms.specs.Records.{Ask, insert, delete, Store}
use Rattle.meaning.specs.Calls.{apply_as}
use Rattle.meaning.specs.Desk.{Row, applies, prunes, reads, key_of, s₁, s₈}
use Rattle.steps.specs.Apply.{apply_steps}

module _ (leaf_hash inner_hash : Bytes → Bytes → Bytes) where
  -- The steps give the row's answer and store.
  abbrev pub RowSteps : Row → Type 0
  RowSteps (applies st number batch answer end) =
      apply_steps leaf_hash inner_hash number batch st ≡ record { answer = answer; store = end }
  RowSteps (prunes st n answer end) = Unit {0}
  RowSteps (reads st v root) = Unit {0}

  -- They give what apply gives.
  abbrev pub StepsAgree : Store × List Ask → Type 0
  StepsAgree c =
      apply_steps leaf_hash inner_hash (c.0.latest + 1) c.1 c.0 ≡ apply_as leaf_hash inner_hash (c.0.latest + 1)
      c.1 c.0

  -- After M1: the value already there, with an absent key deleted; a leaf that stays and moves down; another key in the
  -- place of a deleted one. After M8: the same at the root.
  abbrev pub more : List (Store × List Ask)
  more =
      (s₁ leaf_hash inner_hash, insert (key_of 0 0) (replicate 32 1) ∷ delete (key_of 0b10000000 1) ∷ [])
      ∷ (s₁ leaf_hash inner_hash, insert (key_of 0b00010000 0) (replicate 32 2) ∷ [])
      ∷ (s₁ leaf_hash inner_hash, delete (key_of 0 0) ∷ insert (key_of 0b00010000 0) (replicate 32 2) ∷ [])
      ∷ (s₈ leaf_hash inner_hash, insert (key_of 0b10000000 0) (replicate 32 4) ∷ delete (key_of 0b10000000 1) ∷ [])
      ∷ []
