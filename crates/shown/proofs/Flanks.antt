-- The neighbours of a key that a seated tree does not have: their paths lead to the tree's hash, and either is outermost where the other is
-- missing, or the two part. By the walk's side at each node, from the leaf upwards. Assumes nothing.
use Prim.Native.Nat.{ℕ, suc}
use mathlib.Core.Path.{◌≡◌, refl, ap, sym, ◌∙◌, subst, fun_ext}
use mathlib.Core.Bool.{Bool, true, false, cond, not, true≢false}
use mathlib.Core.List.{[], ◌∷◌}
use Rattle.terms.specs.Bits.{Bytes, Side, left, right, Place, longer, bit, before, same_bytes}
use Rattle.terms.specs.Records.{Grant, grant, Step, Presence}
use Rattle.terms.proofs.Tests.{bytes_same}
use Rattle.terms.proofs.Order.{before_asym, before_total}
use Rattle.meaning.specs.Tree.{Tree, none, leaf, inner, grants, hash}
use Rattle.meaning.specs.Reading.{Seen, present, absent, answer_of}
use Rattle.meaning.specs.Proving.{step, presence_of, raised, descend, Sought, nobody, somebody, from_trail, beyond}
use Rattle.meaning.specs.Checking.{outermost}
use Rattle.shown.proofs.Paths.{keeps_by_side, keeps_by_zeros, part_from, part_below, part_at_top, top_of, raised_leads}
use Rattle.shown.proofs.Views.{on_side, each_side, Compared, same, other, compared, not_not, occupied, Seat, Seated, child_seated, other_child, viewed, viewed_inner, passing, missing_is_zeros, inner_from, inner_from_other}
use Rattle.shown.proofs.Walks.{Reached, next, parted_beyond, present_absent, answer_on_walk}
use Rattle.shown.proofs.Descent.{outermost_raised, Descent, descent}
use Rattle.shown.proofs.Searches.{or_else, sought_below, neighbour_below, neighbour_from_trail, no_turn, turn}

-- another key is beyond a key on one side, and not on the other
beyond_one_side : (k l : Bytes) → same_bytes k l ≡ false → (b : Side) × (beyond b l k ≡ true) × (beyond (not b) l k ≡ false)
beyond_one_side k l e = go (before l k) (before k l) refl refl
  where
    go : (a c : Bool) → before l k ≡ a → before k l ≡ c → (b : Side) × (beyond b l k ≡ true) × (beyond (not b) l k ≡ false)
    go true c f g = (left, f, before_asym l k f)
    go false true f g = (right, g, f)
    go false false f g = absurd (true≢false (sym (bytes_same k) ∙ ap (same_bytes k) (sym (before_total l k f g)) ∙ e))

other_key : (k l x : Bytes) → answer_of k (grant l x ∷ []) ≡ absent → same_bytes k l ≡ false
other_key k l x = go (same_bytes k l)
  where
    go : (b : Bool) → cond b (present x) absent ≡ absent → b ≡ false
    go true e = present_absent x e
    go false e = refl

module _ (leaf_hash inner_hash : Bytes → Bytes → Bytes) where
  -- A path to a neighbour of k on side b, up to the hash h.
  pub record Flank (b : Side) (h k : Bytes) (p : Presence) : Type 0 where
    pub leads : top_of leaf_hash inner_hash p ≡ h
    pub order : beyond b p.key k ≡ true

  -- What the searches find, by the side, for a key that a tree with the hash h does not have; `there`: the tree has a node.
  pub data Flanked (h k : Bytes) (there : Bool) (found : Side → Sought) : Type 0 where
    neither : there ≡ false → ((b : Side) → found b ≡ nobody) → Flanked h k there found
    only : (b : Side) (p : Presence) → found b ≡ somebody p → found (not b) ≡ nobody → Flank b h k p →
        outermost (not b) p.steps ≡ true →
        Flanked h k there found
    both : (b : Side) (p q : Presence) → found b ≡ somebody p → found (not b) ≡ somebody q → Flank b h k p → Flank (not b) h k q →
        part_from b p.steps q.steps ≡ true → Flanked h k there found

  only_other : (b : Side) (h k : Bytes) (there : Bool) (found : Side → Sought) (p : Presence) →
      found b ≡ nobody → found (not b) ≡ somebody p → Flank (not b) h k p → outermost b p.steps ≡ true → Flanked h k there found
  only_other false h k there found p e f w o = only true p f e w o
  only_other true h k there found p e f w o = only false p f e w o

  -- The neighbours of k that are found in a tree at p, if the tree does not have k.
  abbrev FlankedIn : Bytes → ℕ → Place → Tree → Type 0
  FlankedIn k i p t = Reached k i p → Seated p t → answer_of k (grants t) ≡ absent →
      Flanked (hash leaf_hash inner_hash t) k (occupied t) (λ b. neighbour_below b k i (viewed leaf_hash inner_hash t))

  -- At an inner node where the walk goes to side b: t is the child there, u the other, and `found` what is found in t.
  module _ (b : Side) (p : Place) (k : Bytes) (l r : Tree) (s : Seated p (inner l r)) (seat : Seat (longer b p) k)
      (found : Side → Sought) where
    abbrev t : Tree
    t = on_side l r b

    abbrev u : Tree
    u = on_side l r (not b)

    -- the steps up from t and from u
    abbrev up : Step
    up = step b (hash leaf_hash inner_hash u)

    abbrev across : Step
    across = step (not b) (hash leaf_hash inner_hash t)

    abbrev found_here_lem : Side → Sought
    found_here_lem c = or_else (sought_below (up ∷ []) (found c)) (from_trail c (passing leaf_hash inner_hash b l r ∷ []))

    raised_flank : (c : Side) (q : Presence) → Flank c (hash leaf_hash inner_hash t) k q →
        Flank c (hash leaf_hash inner_hash (inner l r)) k (raised (up ∷ []) q)
    raised_flank c q w =
        record { leads = raised_leads leaf_hash inner_hash up q _ w.leads ∙ inner_from leaf_hash inner_hash b l r; order = w.order }

    -- the neighbour by a turn here
    crossed : occupied u ≡ true →
        Descent leaf_hash inner_hash b (longer (not b) p) (hash leaf_hash inner_hash u) (descend b (viewed leaf_hash inner_hash u))
    crossed e = descent leaf_hash inner_hash b (longer (not b) p) u (child_seated p l r s (not b)) e

    crossed_flank : (e : occupied u ≡ true) →
        Flank (not b) (hash leaf_hash inner_hash (inner l r)) k (raised (across ∷ []) (crossed e).path)
    crossed_flank e =
        let d = crossed e in
        record {
          leads = raised_leads leaf_hash inner_hash across d.path _ d.leads ∙ inner_from_other leaf_hash inner_hash b l r;
          order = parted_beyond b p k d.path.key seat d.seat;
        }

    crossed_found : (e : occupied u ≡ true) → found (not b) ≡ nobody →
        found_here_lem (not b) ≡ somebody (raised (across ∷ []) (crossed e).path)
    crossed_found e f = rw (f, turn leaf_hash inner_hash b l r true e, (crossed e).found)

    found_raised : (c : Side) (q : Presence) → found c ≡ somebody q → found_here_lem c ≡ somebody (raised (up ∷ []) q)
    found_raised c q f = rw f

    none_here : found b ≡ nobody → found_here_lem b ≡ nobody
    none_here f = rw (f, no_turn leaf_hash inner_hash b l r)

    none_across : occupied u ≡ false → found (not b) ≡ nobody → found_here_lem (not b) ≡ nobody
    none_across e f = rw (f, turn leaf_hash inner_hash b l r false e)

    abbrev Here : Type 0
    Here = Flanked (hash leaf_hash inner_hash (inner l r)) k true found_here_lem

    from_neither : occupied t ≡ false → ((c : Side) → found c ≡ nobody) → Here
    from_neither e f =
        let w = other_child p l r s b e in
        only_other b _ k true found_here_lem _ (none_here (f b)) (crossed_found w (f (not b))) (crossed_flank w)
        (outermost_raised b across (crossed w).path (crossed w).outer
        (keeps_by_zeros b (not b) _ (missing_is_zeros leaf_hash inner_hash t e)))

    from_same : (q : Presence) → found b ≡ somebody q → found (not b) ≡ nobody → Flank b (hash leaf_hash inner_hash t) k q →
        outermost (not b) q.steps ≡ true →
        (there : Bool) → occupied u ≡ there → Here
    from_same q f g w o false e =
        only b _ (found_raised b q f) (none_across e g) (raised_flank b q w)
        (outermost_raised (not b) up q o (keeps_by_zeros (not b) b _ (missing_is_zeros leaf_hash inner_hash u e)))
    from_same q f g w o true e =
        both b _ _ (found_raised b q f) (crossed_found e g) (raised_flank b q w) (crossed_flank e)
        (part_at_top b _ _ q.steps (crossed e).path.steps o (crossed e).outer)

    from_other : (q : Presence) → found (not b) ≡ somebody q → found b ≡ nobody → Flank (not b) (hash leaf_hash inner_hash t) k q →
        outermost b q.steps ≡ true → Here
    from_other q f g w o =
        only_other b _ k true found_here_lem _ (none_here g) (found_raised (not b) q f) (raised_flank (not b) q w)
        (outermost_raised b up q o (keeps_by_side b _))

    from_only : (c : Side) → Compared b c → (q : Presence) → found c ≡ somebody q → found (not c) ≡ nobody →
        Flank c (hash leaf_hash inner_hash t) k q →
        outermost (not c) q.steps ≡ true → Here
    from_only c same q f g w o = from_same q f g w o _ refl
    from_only c other q f g w o =
        from_other q f (subst (λ a. found a ≡ nobody) (not_not b) g) w (subst (λ a. outermost a q.steps ≡ true) (not_not b) o)

    flanked_above : Flanked (hash leaf_hash inner_hash t) k (occupied t) found → Here
    flanked_above (neither e f) = from_neither e f
    flanked_above (only c q f g w o) = from_only c (compared b c) q f g w o
    flanked_above (both c q q' f g w w' o) =
        both c _ _ (found_raised c q f) (found_raised (not c) q' g) (raised_flank c q w) (raised_flank (not c) q' w')
        (part_below c up q.steps q'.steps o)

  -- at a leaf with another key
  leaf_flanked : (k : Bytes) (g : Grant) → same_bytes k g.key ≡ false →
      Flanked (leaf_hash g.key g.value) k true
      (λ b. cond (beyond b g.key k) (somebody (presence_of g.key g.value [])) nobody)
  leaf_flanked k g e =
      let w = beyond_one_side k g.key e in
      only w.0 (presence_of g.key g.value []) (rw w.1) (rw w.2) (record { leads = refl; order = w.1 }) refl

  flanked_inner : (k : Bytes) (i : ℕ) (p : Place) (l r : Tree) → ((b : Side) → FlankedIn k (suc i) (longer b p) (on_side l r b)) →
      FlankedIn k i p (inner l r)
  flanked_inner k i p l r below at_p s a =
      let b = bit i k in
      let q = next k i p s.0 at_p in
      let seenThere : Seen = viewed leaf_hash inner_hash (on_side l r b) in
      let Root : (Side → Sought) → Type 0 = Flanked (hash leaf_hash inner_hash (inner l r)) k true in
      subst (λ seen. Root (λ c. neighbour_below c k i seen)) (sym (viewed_inner leaf_hash inner_hash l r))
      (subst Root (fun_ext λ c. sym (neighbour_from_trail c k (suc i) (passing leaf_hash inner_hash b l r ∷ []) seenThere))
      (flanked_above b p k l r s q.seat (λ c. neighbour_below c k (suc i) seenThere)
      (below b q (child_seated p l r s b) (sym (answer_on_walk k i p l r at_p s) ∙ a))))

  -- the neighbours of an absent key flank it, in every seated tree
  pub flanked : (k : Bytes) (i : ℕ) (p : Place) (t : Tree) → FlankedIn k i p t
  flanked k i p none at_p s a = neither refl (λ b. refl)
  flanked k i p (leaf g) at_p s a = leaf_flanked k g (other_key k g.key g.value a)
  flanked k i p (inner l r) at_p s a =
      flanked_inner k i p l r
      (each_side (λ b. FlankedIn k (suc i) (longer b p) (on_side l r b)) (flanked k (suc i) (longer left p) l)
      (flanked k (suc i) (longer right p) r))
      at_p s a
