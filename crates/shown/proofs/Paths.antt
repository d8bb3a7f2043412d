-- Laws of paths: one step more at the top, outermost from either end, where two paths part, and where a path leads; all by the list of the
-- steps. Assumes nothing.
use mathlib.Core.Path.{◌≡◌, refl, ap, sym, ◌∙◌}
use mathlib.Core.Bool.{Bool, true, false, cond, ◌&&◌, ◌||◌, not, beq}
use mathlib.Core.List.{List, [], ◌∷◌, ◌++◌, reverse, reverse_aux}
use Rattle.terms.specs.Bits.{Bytes, Side, left, right}
use Rattle.terms.specs.Records.{Step, Presence, zeros}
use Rattle.terms.proofs.Tests.{and_comm, and_assoc, and_true, bit_same, bytes_same}
use Rattle.meaning.specs.Proving.{step, raised}
use Rattle.meaning.specs.Checking.{keeps_to, outermost, same_step, paths_part, parent_hash, climb}

-- one step more at the top of a path
pub outermost_top : (b : Side) (steps : List Step) (s : Step) → outermost b (steps ++ (s ∷ [])) ≡ outermost b steps && keeps_to b s
outermost_top b [] s = and_true (keeps_to b s)
outermost_top b (x ∷ steps) s =
    ap (keeps_to b x &&◌) (outermost_top b steps s) ∙ sym (and_assoc (keeps_to b x) (outermost b steps) (keeps_to b s))

outermost_turned : (b : Side) (xs ys : List Step) → outermost b (reverse_aux xs ys) ≡ outermost b xs && outermost b ys
outermost_turned b [] ys = refl
outermost_turned b (x ∷ xs) ys =
    outermost_turned b xs (x ∷ ys)
    ∙ sym (and_assoc (outermost b xs) (keeps_to b x) (outermost b ys))
    ∙ ap (◌&& outermost b ys) (and_comm (outermost b xs) (keeps_to b x))

-- outermost from either end
outermost_reversed : (b : Side) (steps : List Step) → outermost b (reverse steps) ≡ outermost b steps
outermost_reversed b steps = outermost_turned b steps [] ∙ and_true (outermost b steps)

-- the top of a path comes first when it is turned round
top_first : (xs ys : List Step) (s : Step) → reverse_aux (xs ++ (s ∷ [])) ys ≡ s ∷ reverse_aux xs ys
top_first [] ys s = refl
top_first (x ∷ xs) ys s = top_first xs (x ∷ ys) s

pub keeps_by_side : (b : Side) (h : Bytes) → keeps_to b (step b h) ≡ true
unfolding keeps_to
keeps_by_side b h = rw (bit_same b)

or-true : (b : Bool) → b || true ≡ true
or-true true = refl
or-true false = refl

pub keeps_by_zeros : (b c : Side) (h : Bytes) → h ≡ zeros → keeps_to b (step c h) ≡ true
unfolding keeps_to
keeps_by_zeros b c h e = rw (e, bytes_same zeros) (or-true (beq c b))

-- two paths by the steps at their tops
pub part_by_tops : (s t : Step) (xs ys : List Step) →
    paths_part (xs ++ (s ∷ [])) (ys ++ (t ∷ []))
    ≡ cond (same_step s t) (paths_part xs ys) (not s.side && t.side && outermost right xs && outermost left ys)
unfolding paths_part
part_by_tops s t xs ys = rw (top_first xs [] s, top_first ys [] t, outermost_reversed right xs, outermost_reversed left ys)

same_step_lem : (s : Step) → same_step s s ≡ true
unfolding same_step
same_step_lem s = rw (bit_same s.side, bytes_same s.sibling)

-- the paths part, told from the one on side b
abbrev pub part_from : Side → List Step → List Step → Bool
part_from false xs ys = paths_part xs ys
part_from true xs ys = paths_part ys xs

-- an equal step at both tops is taken off
pub part_below : (b : Side) (s : Step) (xs ys : List Step) → part_from b xs ys ≡ true → part_from b (xs ++ (s ∷ [])) (ys ++ (s ∷ [])) ≡ true
part_below false s xs ys h = part_by_tops s s xs ys ∙ rw (same_step_lem s) h
part_below true s xs ys h = part_by_tops s s ys xs ∙ rw (same_step_lem s) h

-- the paths part at the top
parted : (x y : Bytes) (xs ys : List Step) → outermost right xs ≡ true → outermost left ys ≡ true →
    paths_part (xs ++ (step left x ∷ [])) (ys ++ (step right y ∷ [])) ≡ true
unfolding same_step
parted x y xs ys h e = part_by_tops (step left x) (step right y) xs ys ∙ rw (h, e)

pub part_at_top : (b : Side) (x y : Bytes) (xs ys : List Step) → outermost (not b) xs ≡ true → outermost b ys ≡ true →
    part_from b (xs ++ (step b x ∷ [])) (ys ++ (step (not b) y ∷ [])) ≡ true
part_at_top false x y xs ys h e = parted x y xs ys h e
part_at_top true x y xs ys h e = parted y x ys xs e h

module _ (leaf_hash inner_hash : Bytes → Bytes → Bytes) where
  -- where the steps of a path lead
  abbrev pub top_of : Presence → Bytes
  top_of p = climb leaf_hash inner_hash (leaf_hash p.key p.value) p.steps

  pub climb_on : (h : Bytes) (xs ys : List Step) →
      climb leaf_hash inner_hash h (xs ++ ys) ≡ climb leaf_hash inner_hash (climb leaf_hash inner_hash h xs) ys
  climb_on h [] ys = refl
  climb_on h (s ∷ xs) ys = climb_on (parent_hash leaf_hash inner_hash h s) xs ys

  pub raised_leads : (s : Step) (p : Presence) (h : Bytes) → top_of p ≡ h → top_of (raised (s ∷ []) p) ≡ parent_hash leaf_hash inner_hash h s
  raised_leads s p h e = climb_on (leaf_hash p.key p.value) p.steps (s ∷ []) ∙ ap (λ x. parent_hash leaf_hash inner_hash x s) e
