-- Document 01, 'Checking', with 2026-03: when a proof holds, whoever wrote it. Assumes nothing.
use Rattle.std.specs.Prelude.{Bool, true, false, cond, ◌&&◌, ◌||◌, not, List, [], ◌∷◌, reverse}
use Rattle.std.specs.Bool.{beq}
use Rattle.std.proofs.Math.Option.{Option, none, some}
use Rattle.terms.specs.Bits.{Bytes, Side, left, right, same_bytes}
use Rattle.terms.specs.Records.{Step, Presence, Proof, presence, absence, zeros}
use Rattle.meaning.specs.Calls.{Answer, refused, accepted}
use Rattle.meaning.specs.Reading.{Verdict, present, absent}
use Rattle.meaning.specs.Proving.{beyond}

-- A step keeps to side b: it has that side, or a zero sibling.
unfoldable pub keeps_to : Side → Step → Bool
keeps_to b s = beq s.side b || same_bytes s.sibling zeros

-- A path is rightmost (or leftmost) if every step keeps to the right (or left).
abbrev pub outermost : Side → List Step → Bool
outermost b [] = true
outermost b (s ∷ steps) = keeps_to b s && outermost b steps

unfoldable pub same_step : Step → Step → Bool
same_step s t = beq s.side t.side && same_bytes s.sibling t.sibling

-- Two paths from their tops: equal steps are taken off; then a step remains in each, the left's with side 0 and the
-- right's with side 1, and below these the left path is rightmost and the right path leftmost.
abbrev pub part_from_top : List Step → List Step → Bool
part_from_top [] ys = false
part_from_top (x ∷ xs) [] = false
part_from_top (x ∷ xs) (y ∷ ys) =
    cond (same_step x y) (part_from_top xs ys) (not x.side && y.side && outermost right xs && outermost left ys)

-- The tops are the last steps.
unfoldable pub paths_part : List Step → List Step → Bool
paths_part xs ys = part_from_top (reverse xs) (reverse ys)

module _ (leaf_hash inner_hash : Bytes → Bytes → Bytes) where
  -- The hash of the parent of a node with hash h.
  abbrev pub parent_hash : Bytes → Step → Bytes
  parent_hash h s = cond s.side (inner_hash s.sibling h) (inner_hash h s.sibling)

  abbrev pub climb : Bytes → List Step → Bytes
  climb h [] = h
  climb h (s ∷ steps) = climb (parent_hash h s) steps

  -- The steps lead from the leaf hash to the root.
  unfoldable pub leads_to : Bytes → Presence → Bool
  leads_to root p = same_bytes (climb (leaf_hash p.key p.value) p.steps) root

  -- A neighbour on side b: its proof leads to the root, and its key is on that side.
  unfoldable pub neighbour_holds : Side → Bytes → Bytes → Presence → Bool
  neighbour_holds b root k p = leads_to root p && beyond b p.key k

  -- By the neighbours: none, only a left one, only a right one, both.
  abbrev pub absence_holds : Bytes → Bytes → Option Presence → Option Presence → Bool
  absence_holds root k none none = false
  absence_holds root k (some l) none = neighbour_holds left root k l && outermost right l.steps
  absence_holds root k none (some r) = neighbour_holds right root k r && outermost left r.steps
  absence_holds root k (some l) (some r) =
      neighbour_holds left root k l && neighbour_holds right root k r && paths_part l.steps r.steps

  -- The answer for a key and a proof in form, against a root: present with the value, absent, or 11.
  abbrev pub checked : Bytes → Bytes → Proof → Answer Verdict
  checked root k (presence p) =
      cond (same_bytes k p.key && leads_to root p) (accepted (present p.value)) (refused 11)
  checked root k (absence a) =
      cond (same_bytes k a.key && absence_holds root k a.leftward a.rightward) (accepted absent) (refused 11)
