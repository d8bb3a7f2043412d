-- Document 01, 'Checking', in its words, with 2026-03: when a proof holds, whoever wrote it. Assumes nothing.
use Rattle.std.specs.Prelude.{◌≡◌, ◌⊎◌, true, List, ◌∷◌, ◌++◌}
use Rattle.std.proofs.Math.Option.{none, some}
use Rattle.terms.specs.Bits.{Bytes, Side, left, right, All, before}
use Rattle.terms.specs.Records.{Step, Presence, Proof, presence, zeros}
use Rattle.meaning.specs.Reading.{Verdict, present, absent}
use Rattle.meaning.specs.Proving.{absence_of}
use Rattle.meaning.specs.Checking.{climb}

-- A path is rightmost (leftmost) if every step has side 1 (0) or a zero sibling.
abbrev pub Outermost : Side → List Step → Type 0
Outermost b steps = All (λ s. (s.side ≡ b) ⊎ (s.sibling ≡ zeros)) steps

-- With equal steps taken off the tops of two paths, a step remains in each, the left's with side 0 and the right's with
-- side 1, and below these the left path is rightmost and the right path leftmost.
pub data Parted (lefts rights : List Step) : Type 0 where
  parted : (xs ys common : List Step) (x y : Step) → lefts ≡ xs ++ x ∷ common → rights ≡ ys ++ y ∷ common →
      x.side ≡ left → y.side ≡ right → Outermost right xs → Outermost left ys → Parted lefts rights

module _ (leaf_hash inner_hash : Bytes → Bytes → Bytes) (root k : Bytes) where
  -- The steps lead from the leaf hash to the root.
  abbrev pub Leads : Presence → Type 0
  Leads p = climb leaf_hash inner_hash (leaf_hash p.key p.value) p.steps ≡ root

  -- A neighbour's proof leads to the root; left key < key < right key.
  abbrev pub LeftOf : Presence → Type 0
  LeftOf l = Leads l × (before l.key k ≡ true)

  abbrev pub RightOf : Presence → Type 0
  RightOf r = Leads r × (before k r.key ≡ true)

  -- A proof holds for the key k against the root, and this is the answer: present with the value, or absent by its
  -- neighbours.
  pub data Holds : Proof → Verdict → Type 0 where
    shown : {p : Presence} → p.key ≡ k → Leads p → Holds (presence p) (present p.value)
    only_left : {j : Bytes} {l : Presence} → j ≡ k → LeftOf l → Outermost right l.steps →
        Holds (absence_of j (some l) none) absent
    only_right : {j : Bytes} {r : Presence} → j ≡ k → RightOf r → Outermost left r.steps →
        Holds (absence_of j none (some r)) absent
    both : {j : Bytes} {l r : Presence} → j ≡ k → LeftOf l → RightOf r → Parted l.steps r.steps →
        Holds (absence_of j (some l) (some r)) absent

-- The two by name.
abbrev pub Rightmost : List Step → Type 0
Rightmost steps = Outermost right steps

abbrev pub Leftmost : List Step → Type 0
Leftmost steps = Outermost left steps
