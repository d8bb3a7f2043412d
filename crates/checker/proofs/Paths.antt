-- The tests of paths are the words: outermost step by step, and two paths part where equal steps are taken off their tops. By induction on
-- the steps from the top. Assumes nothing.
use mathlib.Core.Path.{◌≡◌, refl, ap, sym, ◌∙◌}
use mathlib.Core.Logic.{◌⊎◌, inl, inr, ◌↔◌}
use mathlib.Core.Bool.{Bool, true, false, cond, ◌&&◌, ◌||◌, not, beq, false≢true}
use mathlib.Core.List.{List, [], ◌∷◌, ◌++◌, reverse, reverse-append, reverse-reverse, reverse-cons, append_assoc}
use Rattle.terms.specs.Bits.{Side, left, right, same_bytes}
use Rattle.terms.specs.Records.{Step, zeros}
use Rattle.terms.proofs.Lists.{all_append}
use Rattle.terms.proofs.Tests.{and_left, and_right, or_cases, same_bit, bit_same, same_bytes_lem, bytes_same}
use Rattle.meaning.specs.Proving.{step}
use Rattle.meaning.specs.Checking.{keeps_to, outermost, same_step, part_from_top, paths_part}
use Rattle.checker.specs.Holding.{Outermost, Rightmost, Leftmost, Parted, parted}

pub both_true : (a b : Bool) → a ≡ true → b ≡ true → a && b ≡ true
both_true a b e f = rw (e, f)

-- outermost
abbrev Keeps : Side → Step → Type 0
Keeps b s = (s.side ≡ b) ⊎ (s.sibling ≡ zeros)

keeps_said : (b : Side) (s : Step) → keeps_to b s ≡ true → Keeps b s
unfolding keeps_to
keeps_said b s h = go (or_cases (beq s.side b) (same_bytes s.sibling zeros) h)
  where
    go : (beq s.side b ≡ true) ⊎ (same_bytes s.sibling zeros ≡ true) → Keeps b s
    go (inl e) = inl (same_bit s.side b e)
    go (inr e) = inr (same_bytes_lem s.sibling zeros e)

or_right : (a b : Bool) → b ≡ true → a || b ≡ true
or_right true b e = refl
or_right false b e = e

said_keeps : (b : Side) (s : Step) → Keeps b s → keeps_to b s ≡ true
unfolding keeps_to
said_keeps b s (inl e) = rw (e, bit_same b)
said_keeps b s (inr e) = or_right (beq s.side b) (same_bytes s.sibling zeros) (rw (e, bytes_same zeros))

pub outermost_said : (b : Side) (steps : List Step) → outermost b steps ≡ true → Outermost b steps
outermost_said b [] h = tt
outermost_said b (s ∷ steps) h =
    (keeps_said b s (and_left (keeps_to b s) (outermost b steps) h), outermost_said b steps (and_right (keeps_to b s) (outermost b steps) h))

pub said_outermost : (b : Side) (steps : List Step) → Outermost b steps → outermost b steps ≡ true
said_outermost b [] h = refl
said_outermost b (s ∷ steps) h = both_true (keeps_to b s) (outermost b steps) (said_keeps b s h.0) (said_outermost b steps h.1)

-- the same from the other end
turned : (b : Side) (steps : List Step) → Outermost b steps → Outermost b (reverse steps)
turned b [] h = tt
turned b (s ∷ steps) h = rw (reverse-cons s steps) (all_append (Keeps b) (reverse steps) (s ∷ []) (turned b steps h.1) (h.0, tt))

-- two paths from their tops, where they have parted
record FromTop (as' bs : List Step) : Type 0 where
  common : List Step
  x : Step
  xs : List Step
  y : Step
  ys : List Step
  left_is : as' ≡ common ++ x ∷ xs
  right_is : bs ≡ common ++ y ∷ ys
  left_side : x.side ≡ left
  right_side : y.side ≡ right
  rightmost : Rightmost xs
  leftmost : Leftmost ys

same_step_lem : (s t : Step) → same_step s t ≡ true → s ≡ t
unfolding same_step
same_step_lem s t h =
    let e = same_bit s.side t.side (and_left (beq s.side t.side) (same_bytes s.sibling t.sibling) h) in
    let f = same_bytes_lem s.sibling t.sibling (and_right (beq s.side t.side) (same_bytes s.sibling t.sibling) h) in
    ap (λ b. step b s.sibling) e ∙ ap (step t.side) f

step_same : (s : Step) → same_step s s ≡ true
unfolding same_step
step_same s = rw (bit_same s.side, bytes_same s.sibling)

not-true : (b : Bool) → not b ≡ true → b ≡ false
not-true true h = absurd (false≢true h)
not-true false h = refl

by_tops : (x : Step) (xs : List Step) (y : Step) (ys : List Step) (b : Bool) → same_step x y ≡ b → (part_from_top xs ys ≡ true → FromTop xs ys) →
    cond b (part_from_top xs ys) (not x.side && y.side && outermost right xs && outermost left ys) ≡ true → FromTop (x ∷ xs) (y ∷ ys)
by_tops x xs y ys true e below f =
    let w = below f in
    record {
      common = x ∷ w.common;
      x = w.x;
      xs = w.xs;
      y = w.y;
      ys = w.ys;
      left_is = ap (x ∷◌) w.left_is;
      right_is = ap (◌∷ ys) (sym (same_step_lem x y e)) ∙ ap (x ∷◌) w.right_is;
      left_side = w.left_side;
      right_side = w.right_side;
      rightmost = w.rightmost;
      leftmost = w.leftmost;
    }
by_tops x xs y ys false e below f =
    let f2 = and_left (not x.side && y.side && outermost right xs) (outermost left ys) f in
    let f1 = and_left (not x.side && y.side) (outermost right xs) f2 in
    record {
      common = [];
      x = x;
      xs = xs;
      y = y;
      ys = ys;
      left_is = refl;
      right_is = refl;
      left_side = not-true x.side (and_left (not x.side) y.side f1);
      right_side = and_right (not x.side) y.side f1;
      rightmost = outermost_said right xs (and_right (not x.side && y.side) (outermost right xs) f2);
      leftmost = outermost_said left ys (and_right (not x.side && y.side && outermost right xs) (outermost left ys) f);
    }

parts_said : (as' bs : List Step) → part_from_top as' bs ≡ true → FromTop as' bs
parts_said [] bs h = absurd (false≢true h)
parts_said (x ∷ xs) [] h = absurd (false≢true h)
parts_said (x ∷ xs) (y ∷ ys) h = by_tops x xs y ys (same_step x y) refl (λ e. parts_said xs ys e) h

unlike : (x y : Step) → x.side ≡ left → y.side ≡ right → same_step x y ≡ false
unfolding same_step
unlike x y e f = rw (e, f)

said_parts : (common : List Step) (x : Step) (xs : List Step) (y : Step) (ys : List Step) → x.side ≡ left → y.side ≡ right → Rightmost xs →
    Leftmost ys → part_from_top (common ++ x ∷ xs) (common ++ y ∷ ys) ≡ true
said_parts [] x xs y ys e f h g = rw (unlike x y e f, e, f, said_outermost right xs h, said_outermost left ys g)
said_parts (s ∷ common) x xs y ys e f h g = rw (step_same s) (said_parts common x xs y ys e f h g)

-- a path turned round, about a step
turned_about : (xs : List Step) (x : Step) (ys : List Step) → reverse (xs ++ x ∷ ys) ≡ reverse ys ++ x ∷ reverse xs
turned_about xs x ys =
    reverse-append xs (x ∷ ys) ∙ ap (◌++ reverse xs) (reverse-cons x ys) ∙ append_assoc (reverse ys) (x ∷ []) (reverse xs)

pub parted_exactly : (lefts rights : List Step) → (paths_part lefts rights ≡ true) ↔ Parted lefts rights
unfolding paths_part
parted_exactly lefts rights = (there, back)
  where
    there : part_from_top (reverse lefts) (reverse rights) ≡ true → Parted lefts rights
    there h =
        let w = parts_said (reverse lefts) (reverse rights) h in
        parted (reverse w.xs) (reverse w.ys) (reverse w.common) w.x w.y (sym (reverse-reverse lefts) ∙ ap reverse w.left_is ∙ turned_about w.common w.x w.xs)
        (sym (reverse-reverse rights) ∙ ap reverse w.right_is ∙ turned_about w.common w.y w.ys) w.left_side
        w.right_side (turned right w.xs w.rightmost) (turned left w.ys w.leftmost)

    back : Parted lefts rights → part_from_top (reverse lefts) (reverse rights) ≡ true
    back (parted xs ys common x y l r e f h g) =
        rw (l, r, turned_about xs x common, turned_about ys y common)
        (said_parts (reverse common) x (reverse xs) y (reverse ys) e f (turned right xs h) (turned left ys g))
