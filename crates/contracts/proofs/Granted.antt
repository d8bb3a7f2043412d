-- A key has a value in a version's tree exactly if that grant is among the tree's: the walk by a grant's key leads to it. Assumes nothing.
use native.Mathlib.Omega.{arith}
use mathlib.Core.Path.{◌≡◌, refl, ap, ap₂, sym, ◌∙◌, subst}
use mathlib.Core.Logic.{◌⊎◌, inl, inr, ⊎_elim}
use mathlib.Core.Bool.{Bool, true, false, cond, beq}
use mathlib.Core.List.{List, [], ◌∷◌, ◌++◌}
use lib.ListN.{length}
use Rattle.terms.specs.Bits.{Bytes, Side, left, right, Place, longer, All, bit, begins, same_bytes}
use Rattle.terms.specs.Records.{Grant, grant}
use Rattle.terms.proofs.Tests.{and_right, same_bit, same_bytes_lem, bytes_same}
use Rattle.terms.proofs.Places.{begins_longer}
use Rattle.meaning.specs.Tree.{Tree, none, leaf, inner, grants}
use Rattle.meaning.specs.Reading.{present, absent, answer_of}
use Rattle.shown.proofs.Views.{on_side, Seat, Seated, child_seated, grants_seated}
use Rattle.shown.proofs.Walks.{present_absent, answer_on_walk}

-- A grant is among those of a list.
abbrev pub Among : Grant → List Grant → Type 0
Among g [] = ⊥
Among g (h ∷ hs) = (h ≡ g) ⊎ Among g hs

among_append : (g : Grant) (xs ys : List Grant) → Among g (xs ++ ys) → Among g xs ⊎ Among g ys
among_append g [] ys m = inr m
among_append g (x ∷ xs) ys (inl e) = inl (inl e)
among_append g (x ∷ xs) ys (inr m) = later (among_append g xs ys m)
  where
    later : Among g xs ⊎ Among g ys → Among g (x ∷ xs) ⊎ Among g ys
    later (inl n) = inl (inr n)
    later (inr n) = inr n

all_among : (P : Grant → Type 0) (g : Grant) (xs : List Grant) → All P xs → Among g xs → P g
all_among P g [] h x'' = elim x'' [ ]
all_among P g (x ∷ xs) h (inl e) = subst P e h.0
all_among P g (x ∷ xs) h (inr m) = all_among P g xs h.1 m

-- what is answered is among the grants
pub answered_among : (k x : Bytes) (gs : List Grant) → answer_of k gs ≡ present x → Among (grant k x) gs
answered_among k x [] e = present_absent x (sym e)
answered_among k x (g ∷ gs) e = go (same_bytes k g.key) refl (answered_among k x gs) e
  where
    go : (b : Bool) → same_bytes k g.key ≡ b → (answer_of k gs ≡ present x → Among (grant k x) gs) →
        cond b (present g.value) (answer_of k gs) ≡ present x → Among (grant k x) (g ∷ gs)
    go true d f h = let v : g.value ≡ x = cc in inl (ap₂ grant (sym (same_bytes_lem k g.key d)) v)
    go false d f h = inr (f h)

-- and what is among the grants of a seated tree is answered
module _ (k x : Bytes) where
  abbrev Answered : Place → Tree → Type 0
  Answered p t = Seated p t → Among (grant k x) (grants t) → answer_of k (grants t) ≡ present x

  its_seat : (p : Place) (t : Tree) → Seated p t → Among (grant k x) (grants t) → Seat p k
  its_seat p t s m = all_among (λ g. Seat p g.key) (grant k x) (grants t) (grants_seated p t s) m

  on_side_lem : (p : Place) (l r : Tree) → Seated p (inner l r) → Among (grant k x) (grants (inner l r)) → (b : Side) →
      Answered (longer b p) (on_side l r b) → Among (grant k x) (grants (on_side l r b)) → answer_of k (grants (inner l r)) ≡ present x
  on_side_lem p l r s m b f n =
      let i = length p in
      let kid = child_seated p l r s b in
      let seat = its_seat p (inner l r) s m in
      let long : length k ≡ 32 = seat.1.0 in
      let ends = sym (begins_longer b p k (omega (arith, s.0))) ∙ (its_seat (longer b p) (on_side l r b) kid n).0 in
      let goes = same_bit b (bit i k) (and_right (begins p k) (beq b (bit i k)) ends) in
      answer_on_walk k i p l r (record { count = refl; seat = seat }) s ∙ ap (λ c. answer_of k (grants (on_side l r c))) (sym goes) ∙ f kid n

  pub among_answered : (p : Place) (t : Tree) → Answered p t
  among_answered p none s m = absurd m
  among_answered p (leaf g) s (inl e) = ap (λ h. cond (same_bytes k h.key) (present h.value) absent) e ∙ rw (bytes_same k)
  among_answered p (leaf g) s (inr m) = absurd m
  among_answered p (inner l r) s m =
      ⊎_elim (on_side_lem p l r s m left (among_answered (longer left p) l)) (on_side_lem p l r s m right (among_answered (longer right p) r))
      (among_append (grant k x) (grants l) (grants r) m)
