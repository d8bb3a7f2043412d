-- Without a finding, a proof that holds is true: the leaves that it shows are the tree's, and between its neighbours there is none. By the
-- four cases of a proof that holds. Assumes nothing.
use mathlib.Core.Path.{◌≡◌, refl, ap, ap₂, sym, ◌∙◌, subst}
use mathlib.Core.Bool.{true, false}
use mathlib.Core.List.{List, [], ◌∷◌, ◌++◌, append-nil, append_assoc}
use mathlib.Core.Option.{none, some}
use lib.ListN.{length}
use Rattle.terms.specs.Bits.{Bytes, Side, left, right, All, before}
use Rattle.terms.specs.Records.{Grant, grant, Step, Presence, Proof, presence}
use Rattle.terms.specs.Form.{GrantForm}
use Rattle.meaning.specs.Tree.{Tree, leaf, inner, grants, hash}
use Rattle.meaning.specs.Tree as T
use Rattle.meaning.specs.Reading.{Verdict, present, absent, answer_of}
use Rattle.meaning.specs.Proving.{absence_of}
use Rattle.meaning.proofs.Runs.{Ascending}
use Rattle.checker.specs.Holding.{Rightmost, Leftmost, Parted, parted, Leads, Holds, shown, only_left, only_right, both}
use Rattle.proofrecords.specs.ProofBytes.{PresenceForm, ProofForm}
use Rattle.forgery.specs.Messages.{leaf_hash, inner_hash, tree_messages, path_messages, neighbour_messages, checked_messages}
use Rattle.forgery.specs.Finding.{True}
use Rattle.forgery.proofs.Lists.{Within, among_left, among_right, answer_none, answer_middle, ascending_after, others_from, others_upto}
use Rattle.forgery.proofs.Search.{Clean}
use Rattle.forgery.proofs.Paths.{kid, below, Forks, lefts, rights, below_append, Real, around, real_append, below_messages, shows, none_right, none_left}

abbrev grant_of : Presence → Grant
grant_of p = grant p.key p.value

-- an inner node has the grants of its children
forked : (u : Tree) → Forks u → grants u ≡ grants (kid left u) ++ grants (kid right u)
forked T.none h = absurd h
forked (leaf g) h = absurd h
forked (inner l r) h = refl

-- two neighbours in the middle
joined : (as' xs : List Grant) (g h : Grant) (ys bs : List Grant) →
    as' ++ (((xs ++ g ∷ []) ++ (h ∷ ys)) ++ bs) ≡ (as' ++ xs) ++ g ∷ h ∷ (ys ++ bs)
joined as' xs g h ys bs =
    ap (λ zs. as' ++ (zs ++ bs)) (append_assoc xs (g ∷ []) (h ∷ ys))
    ∙ ap (as' ++◌) (append_assoc xs (g ∷ h ∷ ys) bs)
    ∙ sym (append_assoc as' xs (g ∷ h ∷ (ys ++ bs)))

module _ (H : Bytes → Bytes) (hash32 : (m : Bytes) → length (H m) ≡ 32) (nodes checked : List Bytes) (clean : Clean H nodes checked) (t : Tree)
    (inside : Within (tree_messages H t) nodes) (forms : All GrantForm (grants t)) (up : Ascending (grants t)) where
  abbrev root : Bytes
  root = hash (leaf_hash H) (inner_hash H) t

  -- what a path shows
  abbrev Shown : Tree → List Step → Grant → Type 0
  Shown u steps g = (below steps u ≡ leaf g) × Real H steps u

  path : (k : Bytes) (p : Presence) → PresenceForm p → Within (path_messages H p) checked → Leads (leaf_hash H) (inner_hash H) root k p →
      Shown t p.steps (grant_of p)
  path k p f c e = shows H hash32 nodes checked clean t inside forms p f c e

  -- the grants of a tree about the leaf that a path shows
  about : (u : Tree) (steps : List Step) (g : Grant) → Shown u steps g → grants u ≡ lefts steps u ++ g ∷ rights steps u
  about u steps g s = around H steps u s.1 ∙ ap (λ w. lefts steps u ++ (grants w ++ rights steps u)) s.0

  -- a leaf shown is what the grants say of its key
  said : (p : Presence) → Shown t p.steps (grant_of p) → answer_of p.key (grants t) ≡ present p.value
  said p s =
      let e = about t p.steps (grant_of p) s in
      ap (answer_of p.key) e ∙ answer_middle (lefts p.steps t) (grant_of p) (rights p.steps t) (subst Ascending e up)

  -- the last grant of a tree, and the first
  last : (u : Tree) → Within (tree_messages H u) nodes → (steps : List Step) (g : Grant) → Shown u steps g → Rightmost steps →
      grants u ≡ lefts steps u ++ g ∷ []
  last u w steps g s o =
      about u steps g s ∙ ap (λ ys. lefts steps u ++ g ∷ ys) (none_right H hash32 nodes checked clean steps u w s.1 o)

  first : (u : Tree) → Within (tree_messages H u) nodes → (steps : List Step) (g : Grant) → Shown u steps g → Leftmost steps →
      grants u ≡ g ∷ rights steps u
  first u w steps g s o =
      about u steps g s ∙ ap (λ xs. xs ++ g ∷ rights steps u) (none_left H hash32 nodes checked clean steps u w s.1 o)

  -- of a path whose lower part starts at a child, that part in the child's tree
  lower : (b : Side) (xs : List Step) (x : Step) (common : List Step) (g : Grant) → x.side ≡ b → Shown t (xs ++ x ∷ common) g →
      Shown (kid b (below common t)) xs g
  lower b xs x common g e s =
      let r = real_append H xs (x ∷ common) t s.1 in
      subst (λ c. Shown (kid c (below common t)) xs g) e (sym (below_append xs (x ∷ common) t) ∙ s.0, r.0)

  -- two neighbours stand side by side
  abbrev Beside : Grant → Grant → Type 0
  Beside g h = (xs : List Grant) × (ys : List Grant) × (grants t ≡ xs ++ g ∷ h ∷ ys)

  beside : (ls rs : List Step) (g h : Grant) → Parted ls rs → Shown t ls g → Shown t rs h → Beside g h
  beside ls rs g h (parted xs ys common x y l r le re rightmost leftmost) s z =
      let u : Tree = below common t in
      let sl = subst (λ steps. Shown t steps g) l s in
      let sr = subst (λ steps. Shown t steps h) r z in
      let fork = (real_append H xs (x ∷ common) t sl.1).1 in
      let deeper : (b : Side) → Within (tree_messages H (kid b u)) nodes =
      λ b m i. inside m (below_messages H (record { side = b; sibling = [] } ∷ common) t m i) in
      let a = last (kid left u) (deeper left) xs g (lower left xs x common g le sl) rightmost in
      let c = first (kid right u) (deeper right) ys h (lower right ys y common h re sr) leftmost in (
        lefts common t ++ lefts xs (kid left u),
        rights ys (kid right u) ++ rights common t,
        around H common t fork.2
            ∙ ap (λ gs. lefts common t ++ (gs ++ rights common t)) (forked u fork.0 ∙ ap₂ ◌++◌ a c)
            ∙ joined (lefts common t) (lefts xs (kid left u)) g h (rights ys (kid right u)) (rights common t),
      )

  absent_left : (k : Bytes) (l : Presence) → Shown t l.steps (grant_of l) → Rightmost l.steps → before l.key k ≡ true →
      answer_of k (grants t) ≡ absent
  absent_left k l s o b =
      let e = last t inside l.steps (grant_of l) s o in
      ap (answer_of k) e
      ∙ answer_none k (lefts l.steps t ++ grant_of l ∷ []) (others_upto k (lefts l.steps t) (grant_of l) [] (subst Ascending e up) b tt)

  absent_right : (k : Bytes) (r : Presence) → Shown t r.steps (grant_of r) → Leftmost r.steps → before k r.key ≡ true →
      answer_of k (grants t) ≡ absent
  absent_right k r s o b =
      let e = first t inside r.steps (grant_of r) s o in
      ap (answer_of k) e ∙ answer_none k (grant_of r ∷ rights r.steps t) (others_from k (grant_of r) (rights r.steps t) (subst Ascending e up) b)

  absent_between : (k : Bytes) (l r : Presence) → Beside (grant_of l) (grant_of r) → before l.key k ≡ true → before k r.key ≡ true →
      answer_of k (grants t) ≡ absent
  absent_between k l r (xs, ys, e) a b =
      let s = subst Ascending e up in
      let after = ascending_after xs (grant_of l ∷ grant_of r ∷ ys) s in
      ap (answer_of k) e
      ∙ answer_none k (xs ++ grant_of l ∷ grant_of r ∷ ys) (others_upto k xs (grant_of l) (grant_of r ∷ ys) s a (others_from k (grant_of r) ys after.1 b))

  pub clean_is_true : (k : Bytes) (p : Proof) (v : Verdict) → ProofForm p → Within (checked_messages H p) checked →
      Holds (leaf_hash H) (inner_hash H) root k p v → True (grants t) p
  clean_is_true k _ _ f c (shown {p} e h) = (said p (path k p f c h), tt)
  clean_is_true k _ _ f c (only_left {j} {l} e h o) =
      let s = path k l f.1 (λ m i. c m (among_left (path_messages H l) [] m i)) h.0 in
      (ap (λ i. answer_of i (grants t)) e ∙ absent_left k l s o h.1, (said l s, tt))
  clean_is_true k _ _ f c (only_right {j} {r} e h o) =
      let s = path k r f.2 c h.0 in
      (ap (λ i. answer_of i (grants t)) e ∙ absent_right k r s o h.1, (said r s, tt))
  clean_is_true k _ _ f c (both {j} {l} {r} e h g o) =
      let s = path k l f.1 (λ m i. c m (among_left (path_messages H l) (path_messages H r) m i)) h.0 in
      let z = path k r f.2 (λ m i. c m (among_right (path_messages H l) (path_messages H r) m i)) g.0 in (
        ap (λ i. answer_of i (grants t)) e ∙ absent_between k l r (beside l.steps r.steps (grant_of l) (grant_of r) o s z) h.1 g.1,
        (said l s, (said r z, tt)),
      )
