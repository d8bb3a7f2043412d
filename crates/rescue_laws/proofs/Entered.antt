-- The walk that enters the nodes met, step by step: the node here, then both sides. Assumes nothing.
use Prim.Native.Nat.{ℕ, zero, suc, ◌<◌}
use mathlib.Core.Path.{◌≡◌, refl, ap, ap₂, sym, ◌∙◌, subst₂}
use mathlib.Core.Bool.{Bool, true, false, not, ◌&&◌, ◌||◌, or-true, true≢false}
use mathlib.Core.List.{List, [], ◌∷◌}
use mathlib.Core.Option.{Option, none, some, some-ne-none}
use lib.ListN.{length, replicate, set, get_or}
use lib.Dec.{eqb}
use borrow.Author.Tests.{eqb-true, eqb-false, eq-eqb, ne_eqb}
use Rattle.terms.specs.Bits.{Side, left, right, Place, longer}
use Rattle.terms.specs.Records.{Record, Slot, free, used, spoiled}
use Rattle.terms.proofs.Tests.{is_false, and_right}
use Rattle.terms.proofs.Members.{in_get_d}
use Rattle.meaning.specs.Store.{is_node, find, marked}
use Rattle.meaning.proofs.Finding as low
use Rattle.meaning.proofs.Finding.{miss, lowest_is, is_node_refl}
use Rattle.histories.proofs.Slots.{Has, find_has}
use Rattle.histories.proofs.Standing.{Formed}
use Rattle.rescue_rules.specs.Rescue.{same_node, taken}
use Rattle.rescue_rules.specs.Joining.{kid_of, parted_any, met_at}
use Rattle.rescue_rules.specs.Entering.{LowestAt, Put, nothing, puts, Entered}
use Rattle.rescue_laws.proofs.Taken.{Nodes, Setting}
use Rattle.rescue_laws.proofs.Nodes.{same_is, is_same_lem}
use Rattle.rescue_laws.proofs.Right.{no_zero}
use Rattle.rescue_laws.proofs.Entering.{taken_alike, taken_ext, with_node, Lowest, or_false, record_node, enter}

-- nothing is taken of no nodes
pub taken_none : (nodes : Nodes) (setting : Setting) (s : List Slot) → ((w : ℕ) (q : Place) → nodes w q ≡ false) →
    taken nodes setting s ≡ replicate (length s) free
taken_none nodes setting s f = taken_ext nodes (λ w q. false) setting setting s f (λ w q k. refl) ∙ go s
  where
    go : (s : List Slot) → taken (λ w q. false) setting s ≡ replicate (length s) free
    go [] = refl
    go (free ∷ s) = ap (free ∷◌) (go s)
    go (used r ∷ s) = ap (free ∷◌) (go s)
    go (spoiled x ∷ s) = ap (free ∷◌) (go s)

-- no record is a node that isn't found
none_has : (v : ℕ) (p : Place) (s : List Slot) → find v p s ≡ none → (r : Record) → Has r s → is_node v p r ≡ false
none_has v p s e r h = let (i, l, g) = in_get_d s free (used r) h in go _ e (lowest_is (is_node v p) s) i l g
  where
    go : (o : Option Record) → o ≡ none → low.Lowest s (is_node v p) o → (i : ℕ) → i < length s → get_or s i free ≡ used r → is_node v p r ≡ false
    go none k (miss f) i l g = f i r l g
    go (some q) k m i l g = absurd (some-ne-none q k)

-- tests in another order
regroup : (a b c d : Bool) → ((a || b) || c) || d ≡ a || (b || (c || d))
regroup true b c d = refl
regroup false true c d = refl
regroup false false c d = refl

or_first_lem : (a b : Bool) → a ≡ true → a || b ≡ true
or_first_lem a b e = rw e refl

or_second : (a b : Bool) → b ≡ true → a || b ≡ true
or_second a b e = rw e (or-true a)

module _ (s : List Slot) (z : Formed s) (since : ℕ) where
  -- the node itself, where it is one
  abbrev here : ℕ → Place → Nodes
  here a p w q = not (eqb a 0) && same_node w q a p

  here_itself : (a : ℕ) (p : Place) → (a ≡ 0 → ⊥) → here a p a p ≡ true
  here_itself a p f = rw (ne_eqb a 0 f) (is_same_lem a p a p refl refl)

  -- one node put
  put_takes : (a : ℕ) (p : Place) (t u : List Slot) (nodes : Nodes) (setting : Setting) → Put s since a p t u → t ≡ taken nodes setting s →
      ((a ≡ 0 → ⊥) → setting a p ≡ since) → u ≡ taken (λ w q. nodes w q || here a p w q) setting s
  put_takes a p t u nodes setting put e f = go u (eqb a 0) refl put
    where
      absent : find a p s ≡ none → taken nodes setting s ≡ taken (λ w q. nodes w q || here a p w q) setting s
      absent g = taken_alike nodes _ setting setting s (λ r h. sym (rw (record_node_out r h) (or_false (nodes r.version r.place)))) (λ r h k. refl)
        where
          record_node_out : (r : Record) → Has r s → here a p r.version r.place ≡ false
          record_node_out r h = is_false _ (λ k.
              let m = same_is r.version r.place a p (and_right (not (eqb a 0)) (same_node r.version r.place a p) k) in
              true≢false (sym (is_node_of r m) ∙ none_has a p s g r h))
            where
              is_node_of : (r : Record) → (a ≡ r.version) × (p ≡ r.place) → is_node a p r ≡ true
              is_node_of r m = subst₂ (λ v q. is_node v q r ≡ true) (sym m.0) (sym m.1) (is_node_refl r)

      go : (u : List Slot) (k : Bool) → eqb a 0 ≡ k → Put s since a p t u → u ≡ taken (λ w q. nodes w q || here a p w q) setting s
      go u k c (nothing g) = e ∙ absent g
      go u true c (puts {i} {r} l) = absurd (some-ne-none r (sym l.found ∙ ap (λ v. find v p s) (eqb-true a 0 c) ∙ no_zero s z p))
      go u false c (puts {i} {r} l) =
          let (h, v, q) = find_has a p s r l.found in
          let low : Lowest s i r = record { at = l.at; lowest = λ j x k g. subst₂ (λ w y. is_node w y x ≡ false) (sym v) (sym q) (l.lowest j x k g) } in
          let mark : setting r.version r.place ≡ since = ap₂ setting v q ∙ f (eqb-false a 0 c) in
          ap₂ (λ x n. set x i (used (marked n r))) e (sym mark)
          ∙ sym (enter setting r nodes s i low)
          ∙ taken_ext _ _ setting setting s (λ w y. rw (c, v, q) refl) (λ w y k. refl)

  pub entered_same : (n a b : ℕ) (p : Place) (t : List Slot) → a ≡ b → Entered n s since a b p t t
  entered_same n a b p t k nodes setting e f =
      e ∙ taken_ext nodes _ setting setting s (λ w q. sym (rw (met_none n w q) (or_false (nodes w q)))) (λ w q h. refl)
    where
      met_none : (n w : ℕ) (q : Place) → met_at n s a b p w q ≡ false
      met_none zero w q = rw (eq-eqb a b k) refl
      met_none (suc n) w q = rw (eq-eqb a b k) refl

  pub entered_end : (a b : ℕ) (p : Place) (t u : List Slot) → (a ≡ b → ⊥) → Put s since a p t u → Entered 0 s since a b p t u
  entered_end a b p t u k put nodes setting e f =
      put_takes a p t u nodes setting put e (λ h. f a p (rw (ne_eqb a b k, here_itself a p h) refl))
      ∙ taken_ext _ _ setting setting s (λ w q. ap (λ x. nodes w q || x) (sym (met_here w q))) (λ w q h. refl)
    where
      met_here : (w : ℕ) (q : Place) → met_at 0 s a b p w q ≡ here a p w q
      met_here w q = rw (ne_eqb a b k) (or_false (here a p w q))

  pub entered_step : (n a b : ℕ) (p : Place) (t t₁ t₂ t₃ : List Slot) → (a ≡ b → ⊥) → Put s since a p t t₁ →
      Entered n s since (kid_of left (find a p s)) (kid_of left (find b p s)) (longer left p) t₁ t₂ →
      Entered n s since (kid_of right (find a p s)) (kid_of right (find b p s)) (longer right p) t₂ t₃ → Entered (suc n) s since a b p t t₃
  entered_step n a b p t t₁ t₂ t₃ k put one two nodes setting e f =
      two _ setting
      (one _ setting (put_takes a p t t₁ nodes setting put e (λ h. f a p (met_it a p (or_first_lem _ _ (here_itself a p h)))))
      (λ w q h. f w q (met_it w q (or_second (here a p w q) _ (or_first_lem _ (below right w q) h)))))
      (λ w q h. f w q (met_it w q (or_second (here a p w q) _ (or_second (below left w q) _ h))))
      ∙ taken_ext _ _ setting setting s (λ w q. regroup (nodes w q) (here a p w q) (below left w q) (below right w q) ∙ ap (λ x. nodes w q || x) (sym (met_all w q)))
      (λ w q h. refl)
    where
      below : Side → Nodes
      below c w q = met_at n s (kid_of c (find a p s)) (kid_of c (find b p s)) (longer c p) w q

      met_all : (w : ℕ) (q : Place) → met_at (suc n) s a b p w q ≡ here a p w q || (below left w q || below right w q)
      met_all w q = rw (ne_eqb a b k) refl

      met_it : (w : ℕ) (q : Place) → here a p w q || (below left w q || below right w q) ≡ true → met_at (suc n) s a b p w q ≡ true
      met_it w q h = met_all w q ∙ h
