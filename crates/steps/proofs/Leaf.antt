-- The step at a leaf gives the tree of what the run makes of its grant: what is asked for its key, and what is inserted beside it, decide.
-- Assumes nothing.
use Prim.Native.Nat.{ℕ, ◌+◌}
use native.Mathlib.Omega.{arith}
use mathlib.Core.Path.{◌≡◌, refl, ap, sym, ◌∙◌, subst, subst₂}
use mathlib.Core.Logic.{inl, inr, ◌↔◌}
use mathlib.Core.Bool.{Bool, true, false, cond, true≢false}
use mathlib.Core.List.{List, [], ◌∷◌, ◌++◌, nil≢cons, cons≢nil, tail-eq_of_cons-eq}
use mathlib.Core.Option.{Option, none, some}
use lib.ListN.{length}
use Rattle.terms.specs.Bits.{Bytes, Place, same_bytes}
use Rattle.terms.specs.Records.{Grant, grant, Ask, insert, delete, ask_key}
use Rattle.terms.proofs.Tests.{is_false, same_bytes_lem, bytes_same}
use Rattle.meaning.specs.Tree.{Tree, none, leaf, inner, grants, with_batch, vnone, vleaf, same_grants, node_version, versioned}
use Rattle.meaning.specs.Sound.{NodeOf}
use Rattle.meaning.proofs.Nodes.{node_top}
use Rattle.meaning.proofs.Sides.{tree_by, tree_by_none, tree_by_one}
use Rattle.meaning.proofs.Versions.{same_grants_eq}
use Rattle.meaning.proofs.Shaped.{Shaped}
use Rattle.steps.specs.Step.{updated, deleted, unchanged, Outcome, outcome, node_at, ends_at, inserts, own_ask, other_inserts}
use Rattle.steps.specs.Step.{grow, leaf_by, step_leaf}
use Rattle.steps.specs.Given.{Among, Older, change_by, change_of, Gives}
use Rattle.steps.proofs.Inserts.{Unasked, own_none, Amid, batch_of_nothing, batch_beside, batch_over}
use Rattle.steps.proofs.Inserts.{others_all, others_not_own, others_some, own_alone}
use Rattle.steps.proofs.Among.{among_left, among_right, among_append}
use Rattle.steps.proofs.Becoming.{differing, Became, renewed, became, unchanged_gives}
use Rattle.steps.proofs.Fitting.{Fits, fits_shaped, fits_grants}
use Rattle.steps.proofs.Growing.{some_new, grow_gives}

-- what stands amid nothing is alone; amid something it is not
some_rest : (g : Grant) (front rest : List Grant) → [] ≡ front ++ g ∷ rest → ⊥
some_rest g [] rest e = nil≢cons e
some_rest g (x ∷ front) rest e = nil≢cons e

amid_none : (g : Grant) (ws : List Grant) → Amid g [] ws → ws ≡ g ∷ []
amid_none g ws m = go m.front m.rest m.others m.whole
  where
    go : (front rest : List Grant) → [] ≡ front ++ rest → ws ≡ front ++ g ∷ rest → ws ≡ g ∷ []
    go [] [] e w = w
    go [] (x ∷ rest) e w = absurd (nil≢cons e)
    go (x ∷ front) rest e w = absurd (nil≢cons e)

amid_more : (g h : Grant) (hs ws : List Grant) → Amid g (h ∷ hs) ws → g ∷ [] ≡ ws → ⊥
amid_more g h hs ws m k = go m.front m.rest m.others (k ∙ m.whole)
  where
    go : (front rest : List Grant) → h ∷ hs ≡ front ++ rest → g ∷ [] ≡ front ++ g ∷ rest → ⊥
    go [] [] e w = cons≢nil e
    go [] (x ∷ rest) e w = nil≢cons (tail-eq_of_cons-eq w)
    go (x ∷ front) rest e w = some_rest g front rest (tail-eq_of_cons-eq w)

module _ (leaf_hash inner_hash : Bytes → Bytes → Bytes) (new : ℕ) (p : Place) (v : ℕ) (g : Grant) (old : Older new p (vleaf v g)) where
  abbrev GivesLeaf : Tree → Outcome → Type 0
  GivesLeaf now o = Gives leaf_hash inner_hash new p (vleaf v g) now o

  -- a leaf that is updated or deleted ends
  leaf_ends : (o : Outcome) → ((w : ℕ) (q : Place) → Among w q o.retired → ⊥) →
      ends_at o.change p (vleaf v g) ≡ node_at p (vleaf v g) → (NodeOf v p o.node p → ⊥) → (w : ℕ) (q : Place) →
      Among w q (o.retired ++ ends_at o.change p (vleaf v g)) ↔ (NodeOf w q (vleaf v g) p × (NodeOf w q o.node p → ⊥))
  leaf_ends o f e away w q = rw e (
    λ h. elim (among_append w q o.retired (node_at p (vleaf v g)) h) [
      | inl k ↦ absurd (f w q k)
      | inr k ↦ elim k [ inl d ↦ (d, λ n. away (subst₂ (λ x y. NodeOf x y o.node p) (sym d.0) (sym d.1) n)) | inr k' ↦ absurd k' ]
    ],
    λ h. among_right w q o.retired (node_at p (vleaf v g)) (inl h.0),
  )

  no_leaf_lem : GivesLeaf none (outcome deleted vnone)
  no_leaf_lem = record {
    node_is = refl;
    change_is = refl;
    fresh_is = refl;
    retired_is = leaf_ends (outcome deleted vnone) (λ w q k. absurd k) refl (λ n. absurd n);
  }

  same_leaf : (h : Grant) → h ≡ g → GivesLeaf (leaf h) (outcome unchanged (vleaf v g))
  same_leaf h e =
      subst (λ x. GivesLeaf (leaf x) (outcome unchanged (vleaf v g))) (sym e) (unchanged_gives leaf_hash inner_hash new p (vleaf v g) old)

  -- the leaf has another grant
  other_leaf : (h : Grant) → same_grants (g ∷ []) (h ∷ []) ≡ false → GivesLeaf (leaf h) (outcome updated (vleaf new h))
  other_leaf h d = record {
    node_is = ap (λ w. vleaf w h) (sym (differing new (vleaf v g) (h ∷ []) d));
    change_is = ap (λ b. change_by b (h ∷ [])) (sym d);
    fresh_is = refl;
    retired_is =
        leaf_ends (outcome updated (vleaf new h)) (λ w q k. absurd k) refl
        (λ n. let l = old v p (refl, refl) in let m = n.0 in omega arith);
  }

  -- below a leaf that splits all is new, as where there was none
  split_versions : (now : Tree) → Shaped p now → same_grants (g ∷ []) (grants now) ≡ false →
      versioned new vnone now ≡ versioned new (vleaf v g) now
  unfolding node_version
  split_versions none s d = refl
  split_versions (leaf h) s d = rw d
  split_versions (inner l r) s d = rw (d, some_new (grants l ++ grants r) s.1)

  split_changes : (now : List Grant) → (now ≡ [] → ⊥) → same_grants (g ∷ []) now ≡ false →
      (change_of [] now ≡ updated) × (change_of (g ∷ []) now ≡ updated)
  split_changes [] f d = absurd (f refl)
  split_changes (h ∷ hs) f d = (refl, rw d)

  split_gives : (n : ℕ) (now : Tree) (o : Outcome) → length p + n ≡ 256 → Shaped p now → (grants now ≡ [] → ⊥) → (g ∷ [] ≡ grants now → ⊥) →
      Gives leaf_hash inner_hash new p vnone now o → GivesLeaf now o
  split_gives n now o e s left_over else m =
      let d : same_grants (g ∷ []) (grants now) ≡ false =
      is_false (same_grants (g ∷ []) (grants now)) (λ h. else (same_grants_eq (g ∷ []) (grants now) h)) in
      let c = split_changes (grants now) left_over d in
      let up : o.change ≡ updated = m.change_is ∙ c.0 in
      record {
        node_is = m.node_is ∙ split_versions now s d;
        change_is = up ∙ sym c.1;
        fresh_is = m.fresh_is;
        retired_is =
            leaf_ends o (λ w q k. ((m.retired_is w q).0 (among_left w q o.retired _ k)).0) (ap (λ c. ends_at c p (vleaf v g)) up)
            (λ k. away (subst₂ (Became new vnone) (sym m.node_is) c.0 (became new n p vnone now e tt s)) k);
      }
    where
      away : Became new vnone o.node updated → NodeOf v p o.node p → ⊥
      away (renewed s t) k = let l = old v p (refl, refl) in let w = (node_top v o.node p k).1 in omega arith

  module _ (n : ℕ) (asks : List Ask) (e : length p + n ≡ 256) (f : Fits p (g ∷ []) asks) where
    -- what the run makes of the grant, and its tree
    ws : List Grant
    ws = with_batch asks (g ∷ [])

    one_after : (h : Grant) → ws ≡ h ∷ [] → tree_by n (length p) ws ≡ leaf h
    one_after h k = ap (tree_by n (length p)) k ∙ tree_by_one n (length p) h

    fits_nothing : Fits p [] asks
    fits_nothing =
        record { rising = f.rising; asks_form = f.asks_form; asks_at = f.asks_at; ascending = tt; grants_form = tt; begun = tt }

    amid : (hs : List Grant) → Unasked g.key asks → other_inserts g.key asks ≡ hs → Amid g hs ws
    unfolding ws
    amid hs u i = subst (λ xs. Amid g xs (with_batch asks (g ∷ []))) (sym (others_all g.key asks u) ∙ i) (batch_beside g asks f.rising u)

    -- the key is asked for
    over : (a : Ask) → own_ask g.key asks ≡ some a → ws ≡ with_batch asks []
    unfolding ws
    over a o = batch_over g a asks f.rising o

    alone : (a : Ask) → own_ask g.key asks ≡ some a → other_inserts g.key asks ≡ [] →
        (ask_key a ≡ g.key) × (ws ≡ inserts (a ∷ []))
    alone a o i =
        let m = own_alone g.key a asks f.rising o i in (m.0, over a o ∙ batch_of_nothing asks f.rising ∙ m.1)

    -- nothing else is inserted
    own_gives : (own : Option Ask) (grown : Option Grant → Outcome) → own_ask g.key asks ≡ own → other_inserts g.key asks ≡ [] →
        GivesLeaf (tree_by n (length p) ws) (leaf_by leaf_hash inner_hash new v g own [] grown)
    own_gives none grown o i = rw (one_after g (amid_none g ws (amid [] (own_none g.key asks o) i))) (same_leaf g refl)
    own_gives (some (insert k x)) grown o i =
        let m = alone (insert k x) o i in
        rw (one_after (grant g.key x) (m.1 ∙ ap (λ l. grant l x ∷ []) m.0)) (go (same_bytes x g.value) refl)
      where
        h : Grant
        h = grant g.key x

        go : (b : Bool) → same_bytes x g.value ≡ b →
            GivesLeaf (leaf h) (cond b (outcome unchanged (vleaf v g)) (outcome updated (vleaf new h)))
        go true t = same_leaf h (ap (grant g.key) (same_bytes_lem x g.value t))
        go false t =
            let d : same_bytes g.value x ≡ false =
            is_false (same_bytes g.value x) (λ k. true≢false (sym (bytes_same x) ∙ ap (same_bytes x) (sym (same_bytes_lem g.value x k)) ∙ t)) in
            other_leaf h (rw (bytes_same g.key, d))
    own_gives (some (delete k)) grown o i = rw (ap (tree_by n (length p)) (alone (delete k) o i).1 ∙ tree_by_none n (length p)) no_leaf_lem

    -- something else is inserted: a subtree grows
    other_gives : (own : Option Ask) (h : Grant) (hs : List Grant) → own_ask g.key asks ≡ own → other_inserts g.key asks ≡ h ∷ hs →
        GivesLeaf (tree_by n (length p) ws)
        (leaf_by leaf_hash inner_hash new v g own (h ∷ hs) (λ stays. grow leaf_hash inner_hash new n p stays asks))
    unfolding ws
    other_gives none h hs o i =
        let u : Unasked g.key asks = own_none g.key asks o in
        let m = amid (h ∷ hs) u i in
        let gs = fits_grants n p (g ∷ []) asks e f in
        split_gives n (tree_by n (length p) ws) (grow leaf_hash inner_hash new n p (some g) asks) e (fits_shaped n p (g ∷ []) asks e f)
        (λ k. some_rest g m.front m.rest (sym k ∙ gs ∙ m.whole)) (λ k. amid_more g h hs ws m (k ∙ gs))
        (grow_gives leaf_hash inner_hash new n p (some g) asks e f u)
    other_gives (some a) h hs o i =
        let is : _ ≡ _ = sym (fits_grants n p [] asks e fits_nothing ∙ batch_of_nothing asks f.rising) in
        rw (over a o)
        (split_gives n (tree_by n (length p) (with_batch asks [])) (grow leaf_hash inner_hash new n p none asks) e
        (fits_shaped n p [] asks e fits_nothing) (λ k. others_some g.key h hs asks i (is ∙ k))
        (λ k. others_not_own g h hs asks i (is ∙ sym k)) (grow_gives leaf_hash inner_hash new n p none asks e fits_nothing tt))

    pub leaf_gives : GivesLeaf (tree_by n (length p) (with_batch asks (g ∷ []))) (step_leaf leaf_hash inner_hash new n p v g asks)
    unfolding step_leaf ws
    leaf_gives = go (other_inserts g.key asks) refl
      where
        grown : Option Grant → Outcome
        grown stays = grow leaf_hash inner_hash new n p stays asks

        go : (hs : List Grant) → other_inserts g.key asks ≡ hs →
            GivesLeaf (tree_by n (length p) ws) (leaf_by leaf_hash inner_hash new v g (own_ask g.key asks) hs grown)
        go [] i = own_gives (own_ask g.key asks) grown refl i
        go (h ∷ hs) i = other_gives (own_ask g.key asks) h hs refl i
