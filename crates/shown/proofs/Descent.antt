-- The descent to a neighbour: in a seated tree with a node it comes to a leaf, by a path that is outermost on its side. Assumes nothing.
use mathlib.Core.Path.{◌≡◌, refl, ap, sym, ◌∙◌, subst}
use mathlib.Core.Bool.{Bool, true, false, cond, not, false≢true}
use mathlib.Core.List.{[], ◌∷◌}
use Rattle.terms.specs.Bits.{Bytes, Side, left, right, Place, longer}
use Rattle.terms.specs.Records.{Step, Presence}
use Rattle.meaning.specs.Tree.{Tree, none, leaf, inner, hash}
use Rattle.meaning.specs.Proving.{step, presence_of, is_gap, raised, Descended, reached, raised_by, descend}
use Rattle.meaning.specs.Checking.{keeps_to, outermost}
use Rattle.shown.proofs.Paths.{outermost_top, keeps_by_side, keeps_by_zeros, top_of, raised_leads}
use Rattle.shown.proofs.Views.{on_side, each_side, occupied, Seat, seat_above, Seated, child_seated, other_child, viewed, viewed_inner, gap_or_node, missing_is_zeros, inner_from, inner_from_other}

pub outermost_raised : (b : Side) (s : Step) (p : Presence) → outermost b p.steps ≡ true → keeps_to b s ≡ true →
    outermost b (raised (s ∷ []) p).steps ≡ true
outermost_raised b s p h e = outermost_top b p.steps s ∙ rw (h, e)

module _ (leaf_hash inner_hash : Bytes → Bytes → Bytes) where
  -- The descent to side b from a place comes to a path, outermost on that side, from a leaf with its seat there up to the hash h.
  pub record Descent (b : Side) (p : Place) (h : Bytes) (o : Descended) : Type 0 where
    pub path : Presence
    pub found : o ≡ reached path
    pub leads : top_of leaf_hash inner_hash path ≡ h
    pub outer : outermost b path.steps ≡ true
    pub seat : Seat p path.key

  abbrev Descends : Side → Place → Tree → Type 0
  Descends b p t = Seated p t → occupied t ≡ true → Descent b p (hash leaf_hash inner_hash t) (descend b (viewed leaf_hash inner_hash t))

  -- at an inner node, by whether there is a child on side b
  at_inner : (b : Side) (p : Place) (l r : Tree) → Seated p (inner l r) → ((c : Side) → Descends b (longer c p) (on_side l r c)) →
      (there : Bool) → occupied (on_side l r b) ≡ there →
      Descent b p (hash leaf_hash inner_hash (inner l r))
      (cond (is_gap (viewed leaf_hash inner_hash (on_side l r b)))
      (raised_by (step (not b) (hash leaf_hash inner_hash (on_side l r b)) ∷ []) (descend b (viewed leaf_hash inner_hash (on_side l r (not b)))))
      (raised_by (step b (hash leaf_hash inner_hash (on_side l r (not b))) ∷ []) (descend b (viewed leaf_hash inner_hash (on_side l r b)))))
  at_inner b p l r s f true e =
      let d = f b (child_seated p l r s b) e in
      let up : Step = step b (hash leaf_hash inner_hash (on_side l r (not b))) in
      record {
        path = raised (up ∷ []) d.path;
        found = rw (gap_or_node leaf_hash inner_hash (on_side l r b) ∙ ap not e, d.found);
        leads = raised_leads leaf_hash inner_hash up d.path _ d.leads ∙ inner_from leaf_hash inner_hash b l r;
        outer = outermost_raised b up d.path d.outer (keeps_by_side b _);
        seat = seat_above b p d.path.key s.0 d.seat;
      }
  at_inner b p l r s f false e =
      let d = f (not b) (child_seated p l r s (not b)) (other_child p l r s b e) in
      let up : Step = step (not b) (hash leaf_hash inner_hash (on_side l r b)) in
      record {
        path = raised (up ∷ []) d.path;
        found = rw (gap_or_node leaf_hash inner_hash (on_side l r b) ∙ ap not e, d.found);
        leads = raised_leads leaf_hash inner_hash up d.path _ d.leads ∙ inner_from_other leaf_hash inner_hash b l r;
        outer =
            outermost_raised b up d.path d.outer
            (keeps_by_zeros b (not b) _ (missing_is_zeros leaf_hash inner_hash (on_side l r b) e));
        seat = seat_above (not b) p d.path.key s.0 d.seat;
      }

  pub descent : (b : Side) (p : Place) (t : Tree) → Descends b p t
  descent b p none s e = absurd (false≢true e)
  descent b p (leaf g) s e = record { path = presence_of g.key g.value []; found = refl; leads = refl; outer = refl; seat = s }
  descent b p (inner l r) s e =
      subst (λ seen. Descent b p (hash leaf_hash inner_hash (inner l r)) (descend b seen)) (sym (viewed_inner leaf_hash inner_hash l r))
      (at_inner b p l r s (each_side (λ c. Descends b (longer c p) (on_side l r c)) (descent b (longer left p) l)
      (descent b (longer right p) r)) _ refl)
