-- Laws in the form of loops: two paths compared from their tops, a path tested and climbed by index from the leaf, and the descent with the
-- steps so far. From one step more at the top of a path. Assumes nothing.
use mathlib.Core.Path.{◌≡◌, refl, ap, ap₂, ◌∙◌}
use mathlib.Core.Bool.{Bool, true, false, cond, not}
use mathlib.Core.List.{List, [], ◌∷◌}
use mathlib.Core.Option.{Option, none, some}
use Rattle.terms.specs.Bits.{Side}
use Rattle.terms.specs.Records.{Step, Presence}
use Rattle.meaning.specs.Reading.{lost_record, Seen, stopped_by, gap, leaf_seen, fork}
use Rattle.meaning.specs.Proving.{step, presence_of, is_gap, Descended, descent_stopped, reached, raised_by, descend}
use Rattle.shown.proofs.Searches.{raised_twice}

-- The descent to side b with the steps above it.
abbrev pub descend_below : Side → List Step → Seen → Descended
descend_below b above (stopped_by t) = descent_stopped t
descend_below b above gap = descent_stopped lost_record
descend_below b above (leaf_seen k x) = reached (presence_of k x above)
descend_below b above (fork hashes kids) =
    cond (is_gap (kids b))
    (descend_below b (step (not b) (hashes b) ∷ above) (kids (not b)))
    (descend_below b (step b (hashes (not b)) ∷ above) (kids b))

raised_by_twice : (s : Step) (above : List Step) (o : Descended) → raised_by (s ∷ above) o ≡ raised_by above (raised_by (s ∷ []) o)
raised_by_twice s above (descent_stopped t) = refl
raised_by_twice s above (reached p) = ap reached (raised_twice s above p)

either_raised : (b : Bool) (above : List Step) (o q : Descended) →
    cond b (raised_by above o) (raised_by above q) ≡ raised_by above (cond b o q)
either_raised true above o q = refl
either_raised false above o q = refl

pub descend_below_lem : (b : Side) (above : List Step) (s : Seen) → descend_below b above s ≡ raised_by above (descend b s)
descend_below_lem b above (stopped_by t) = refl
descend_below_lem b above gap = refl
descend_below_lem b above (leaf_seen k x) = refl
descend_below_lem b above (fork hashes kids) =
    ap₂ (cond (is_gap (kids b)))
    (descend_below_lem b (step (not b) (hashes b) ∷ above) (kids (not b)) ∙ raised_by_twice (step (not b) (hashes b)) above
    (descend b (kids (not b))))
    (descend_below_lem b (step b (hashes (not b)) ∷ above) (kids b) ∙ raised_by_twice (step b (hashes (not b))) above (descend b (kids b)))
    ∙ either_raised (is_gap (kids b)) above _ _
