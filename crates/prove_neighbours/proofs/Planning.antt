-- What the two searches found gives the plan of an absence proof, and how long it is. Assumes nothing.
use mathlib.Core.Path.{◌≡◌, refl, ap, ap₂, sym, ◌∙◌, subst}
use Rattle.terms.specs.Bits.{Bytes}
use Rattle.meaning.specs.Proving.{Sought, absence_from}
use Rattle.prove_paths.specs.Neighbours.{way_at, neighbour_at, NeighbourIn, room_for}
use Rattle.prove_paths.specs.declared.Path as declared-path
use Rattle.prove_paths.specs.declared.Way as declared-way
use Rattle.prove_paths.specs.declared.Way.TheVariants.{Stopped, Nobody, Somebody}
use Rattle.prove_paths.specs.declared.Sought as declared-sought
use Prim.Native.Nat.{ℕ, ◌+◌}
use Rattle.prove_trails.specs.Searches.{Finds}
use Rattle.prove_shape.specs.Plans.{shape_answer, shape_says, plan_says, ShapeIn, Plans}
use Rattle.prove_shape.specs.Shapes.{absence_shape}
use Rattle.prove_shape.specs.declared.Plan as declared

-- a sought leaf by its way and its path
abbrev sought : declared-way.Way → declared-path.Path → declared-sought.Sought
sought v p = record { way = v; path = p }

says_searched : (s k : Bytes) (v w : declared-way.Way) (p q : declared-path.Path) →
    shape_says s k (absence_shape v w) (sought v p) (sought w q) ≡ absence_from k (way_at s v p) (way_at s w q)
unfolding neighbour_at
says_searched s k (Stopped t) w p q = refl
says_searched s k Nobody (Stopped t) p q = refl
says_searched s k Nobody Nobody p q = refl
says_searched s k Nobody Somebody p q = refl
says_searched s k Somebody (Stopped t) p q = refl
says_searched s k Somebody Nobody p q = refl
says_searched s k Somebody Somebody p q = refl

shape_in : {len : ℕ} (s : Bytes) (v w : declared-way.Way) (p q : declared-path.Path) → NeighbourIn s (sought v p) → NeighbourIn s (sought w q) →
    len ≡ 40 + room_for (sought v p) + room_for (sought w q) → ShapeIn s (absence_shape v w) (sought v p) (sought w q) len
shape_in s (Stopped t) w p q a b e = tt
shape_in s Nobody (Stopped t) p q a b e = tt
shape_in s Nobody Nobody p q a b e = tt
shape_in s Nobody Somebody p q a b e = ((a, b), e)
shape_in s Somebody (Stopped t) p q a b e = tt
shape_in s Somebody Nobody p q a b e = ((a, b), e)
shape_in s Somebody Somebody p q a b e = ((a, b), e)

-- the plan by both searches
pub absence_planned : {x y : Sought} {m n : ℕ} (s k : Bytes) (p : declared.Plan) → Finds s x p.first → Finds s y p.second →
    shape_answer p.shape ≡ absence_shape p.first.way p.second.way → m ≡ room_for p.first → n ≡ room_for p.second → p.length ≡ 40 + m + n →
    Plans s k (absence_from k x y) p
unfolding plan_says
absence_planned {x} {y} {m} {n} s k p f g e a b l = record {
  says = ap (λ h. shape_says s k h p.first p.second) e
      ∙ says_searched s k p.first.way p.second.way p.first.path p.second.path
      ∙ ap₂ (absence_from k) f.says g.says;
  within = subst (λ h. ShapeIn s h p.first p.second p.length) (sym e)
      (shape_in s p.first.way p.second.way p.first.path p.second.path f.within g.within
      (l ∙ ap₂ (λ (i j : ℕ). 40 + i + j) a b));
}
