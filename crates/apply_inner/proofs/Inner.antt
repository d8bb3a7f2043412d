-- What becomes of an inner node in lent memory is what the definition makes of it: the cases of the code are those of the definition.
-- Assumes nothing.
use Prim.Native.Nat.{ℕ, ◌+◌, ◌≤◌}
use native.Mathlib.Omega.{arith}
use mathlib.Core.Path.{◌≡◌, refl, ap, ap₂, sym, ◌∙◌, subst, subst₂}
use mathlib.Core.Bool.{Bool, true, false, cond, ◌&&◌}
use mathlib.Core.List.{List, [], ◌++◌}
use mathlib.Core.Logic.{inl, inr}
use lib.ListN.{length, length-append}
use Rattle.terms.specs.Bits.{Bytes, Place, longer, left, right}
use Rattle.terms.specs.Records.{Child, Grant, grant}
use Rattle.terms.specs.Form.{top32}
use Rattle.meaning.specs.Tree.{VTree, vnone, vleaf, vinner, leaves}
use Rattle.meaning.specs.Store.{child_of}
use Rattle.hash.specs.Hash.{hash_bytes}
use Rattle.nodehash.specs.Node.{leaf_hash, inner_hash}
use Rattle.place.specs.declared.Place as place
use Rattle.place.specs.Place.{place_of}
use Rattle.slots.specs.declared.Child as child
use Rattle.slots.specs.Answer.{child_says}
use Rattle.steps.specs.Step as step
use Rattle.steps.specs.Writing.{mark}
use Rattle.steps.proofs.Among.{among_append, ends_at_lem}
use Rattle.steps.proofs.Writing.{AllNew, AllOlder}
use Rattle.apply_place.specs.declared.Node as node
use Rattle.apply_place.specs.declared.Node.TheVariants as N
use Rattle.apply_place.specs.Placing.{Changed, when_writes}
use Rattle.apply_place.proofs.Changing.{changed_stored}
use Rattle.apply_place.proofs.Reaching.{reaches_then, reaches_none, starts_marked}
use Rattle.apply_outcome.specs.declared.Change as change
use Rattle.apply_outcome.specs.declared.Change.TheVariants.{Updated, Deleted, Unchanged}
use Rattle.apply_outcome.specs.declared.Outcome as declared
use Rattle.apply_outcome.specs.Outcomes.{change_says, Weighs, NodeSays, Did}
use Rattle.apply_outcome.proofs.Saying.{nothing_placed, says_either}
use Rattle.apply_outcome.proofs.Forms.{Numbered}
use Rattle.apply_outcome.proofs.Forking.{nothing_marked, above_bytes}
use Rattle.apply_fork.specs.Fork.{Forked}
use Rattle.apply_fork.proofs.Forked.{fork_did}
use Rattle.apply_end.specs.declared.Remains as remains
use Rattle.apply_end.specs.declared.Remains.TheVariants as R
use Rattle.apply_end.specs.Ending.{child_nodes, ends_says, remains_of}
use Rattle.apply_end.proofs.Ending.{top_nodes}
use Rattle.apply_inner.specs.Settling.{both_stayed, remains_change, settled_says, Marked, Renewed, lone, more, SettledTo}

-- the node of a child is the top of its tree
child_nodes_lem : (c : child.Child) (t : VTree) (q : Place) → child_says c ≡ child_of leaf_hash inner_hash t → Numbered t →
    child_nodes c.version q ≡ step.node_at q t
unfolding child_says child_of
child_nodes_lem c t q e n = ap (λ v. child_nodes v q) (ap (λ (x : Child). x.version) e) ∙ top_nodes t q n

ends_is : (d : change.Change) (c : child.Child) (t : VTree) (q : Place) → child_says c ≡ child_of leaf_hash inner_hash t → Numbered t →
    ends_says d c.version q ≡ step.ends_at (change_says d) q t
ends_is Updated c t q e n = child_nodes_lem c t q e n
ends_is Deleted c t q e n = child_nodes_lem c t q e n
ends_is Unchanged c t q e n = refl

stayed_is : (c d : change.Change) → both_stayed c d ≡ step.is_unchanged (change_says c) && step.is_unchanged (change_says d)
stayed_is Updated d = refl
stayed_is Deleted d = refl
stayed_is Unchanged Updated = refl
stayed_is Unchanged Deleted = refl
stayed_is Unchanged Unchanged = refl

-- what remains above two trees is what remains above their tops
abbrev by_remains : remains.Remains → step.Outcome → (Grant → step.Outcome) → step.Outcome → step.Outcome
by_remains R.Nothing nothing one both = nothing
by_remains (R.Leaf k x) nothing one both = one (grant (hash_bytes k) (hash_bytes x))
by_remains R.More nothing one both = both

by_says : (w : Bool) (n m : node.Node) (t u : VTree) (nothing : step.Outcome) (one : Grant → step.Outcome) (both : step.Outcome) → NodeSays w n t →
    NodeSays w m u → step.by_children t u nothing one both ≡ by_remains (remains_of n m) nothing one both
by_says w N.Nothing N.Nothing t u nothing one both e f = rw (e, f)
by_says w N.Nothing (N.Leaf v k x) t u nothing one both e f = rw (e, f)
by_says w N.Nothing (N.Inner v l r i j) t u nothing one both e f = rw (e, f.2)
by_says w (N.Leaf v k x) N.Nothing t u nothing one both e f = rw (e, f)
by_says w (N.Leaf v k x) (N.Leaf x' j y) t u nothing one both e f = rw (e, f)
by_says w (N.Leaf v k x) (N.Inner x' l r i j) t u nothing one both e f = rw (e, f.2)
by_says w (N.Inner v l r i j) m t u nothing one both e f = rw e.2

older_both : (new : ℕ) (xs ys : List step.Node) → AllOlder new xs → AllOlder new ys → AllOlder new (xs ++ ys)
older_both new xs ys f g v q h = elim (among_append v q xs ys h) [ inl k ↦ f v q k | inr k ↦ g v q k ]

module _ (new : ℕ) (w : Bool) {from : ℕ} (p : place.Place) (v : ℕ) (A B : VTree) (a b : step.Outcome) (lchild rchild : child.Child) {l r : declared.Outcome}
    {s s₁ s₂ : Bytes} (sl : child_says lchild ≡ child_of leaf_hash inner_hash A)
    (sr : child_says rchild ≡ child_of leaf_hash inner_hash B) (na : Numbered A) (nb : Numbered B) (x : Did new w from s s₁ a l) (y : Did new w l.reach s₁ s₂ b r)
    (fa : AllNew new a.fresh) (fb : AllNew new b.fresh) (ob : AllOlder new b.retired)
    (oa : AllOlder new (step.node_at (longer left (place_of p)) A)) (oe : AllOlder new (step.node_at (longer right (place_of p)) B))
    {m n : ℕ} (ws : Weighs m n A B) (few : leaves a.node + leaves b.node ≤ top32) where
  abbrev ending : step.Change → step.Change → List step.Node
  ending c d = step.ends_at c (longer left (place_of p)) A ++ step.ends_at d (longer right (place_of p)) B

  older_ends : (c d : step.Change) → AllOlder new (ending c d)
  older_ends c d =
      older_both new (step.ends_at c (longer left (place_of p)) A) (step.ends_at d (longer right (place_of p)) B)
      (λ u q h. oa u q (ends_at_lem u q c (longer left (place_of p)) A h)) (λ u q h. oe u q (ends_at_lem u q d (longer right (place_of p)) B h))

  marks_are : (c d : change.Change) → ends_says c lchild.version (longer left (place_of p)) ++ ends_says d rchild.version (longer right (place_of p))
      ≡ ending (change_says c) (change_says d)
  marks_are c d = ap₂ ◌++◌ (ends_is c lchild A (longer left (place_of p)) sl na) (ends_is d rchild B (longer right (place_of p)) sr nb)

  marked_as : (c d : change.Change) {s₃ : Bytes} → Marked new w s₂ s₃ p lchild rchild c d → Changed (when_writes w (mark new (ending (change_says c) (change_says d)))) s₂ s₃
  marked_as c d {s₃} m = subst (λ ns. Changed (when_writes w (mark new ns)) s₂ s₃) (marks_are c d) m

  -- nothing placed above the children
  plain_did : (c : change.Change) (n : node.Node) (t : VTree) (ends : List step.Node) {s₃ : Bytes} → NodeSays w n t → AllOlder new ends →
      Changed (when_writes w (mark new ends)) s₂ s₃ →
      Did new w from s s₃ (step.above (change_says c) t a b [] ends) (record { change = c; node = n; reach = r.reach })
  plain_did c n t ends h o m = record {
    change = refl;
    node = h;
    reach =
        reaches_then w (length-append (a.fresh ++ b.fresh) [] ∙ ap (◌+ 0) (length-append a.fresh b.fresh)) (reaches_then w refl x.reach y.reach)
        (reaches_none w refl (starts_marked w new ends m y.reach.starts));
    bytes = above_bytes w new (change_says c) t a b [] ends fa fb ob o x.bytes y.bytes m (nothing_placed w (changed_stored m));
  }

  abbrev becomes : step.Outcome
  becomes = step.inner_by leaf_hash inner_hash new (place_of p) v A B a b

  unchanged_is : step.is_unchanged a.change && step.is_unchanged b.change ≡ both_stayed l.change r.change
  unchanged_is = ap₂ (λ c d. step.is_unchanged c && step.is_unchanged d) (sym x.change) (sym y.change) ∙ sym (stayed_is l.change r.change)

  by_stayed : both_stayed l.change r.change ≡ true → step.above step.unchanged (vinner v A B) a b [] [] ≡ becomes
  unfolding step.inner_by
  by_stayed e = rw (unchanged_is ∙ e)

  abbrev decided : remains.Remains → step.Outcome
  decided z =
      by_remains z (step.above step.deleted vnone a b [] (ending step.deleted step.deleted))
      (λ g. step.above step.updated (vleaf new g) a b [] (ending step.deleted step.deleted))
      (step.fork leaf_hash inner_hash new (place_of p) a b (ending a.change b.change))

  by_remains_lem : both_stayed l.change r.change ≡ false → decided (remains_of l.node r.node) ≡ becomes
  unfolding step.inner_by
  by_remains_lem e = rw (unchanged_is ∙ e) (sym (by_says w l.node r.node a.node b.node _ _ _ x.node y.node))

  -- a lone leaf, or a new inner node
  renewed_did : both_stayed l.change r.change ≡ false → (f : remains.Remains) → remains_of l.node r.node ≡ f → remains_change f ≡ Updated →
      {s₃ : Bytes} {o : declared.Outcome} → Renewed new w s₂ s₃ p lchild rchild l r o → Did new w from s s₃ becomes o
  renewed_did e f i k {s₃} {o} (lone z u j q m) =
      subst₂ (λ c t. Did new w from s s₃ c t) (sym (ap decided j) ∙ by_remains_lem e) (sym q)
      (plain_did Updated (N.Leaf new z u) (vleaf new (grant (hash_bytes z) (hash_bytes u))) (ending step.deleted step.deleted) refl (older_ends step.deleted step.deleted)
      (marked_as Deleted Deleted m))
  renewed_did e R.Nothing i k (more n t m d) = let z : ◌≡◌ {A = ℕ} 0 1 = cc in absurd (omega arith)
  renewed_did e (R.Leaf z u) i k (more n t m d) = absurd (n z u i)
  renewed_did e R.More i k {s₃} {o} (more n t m d) =
      subst (λ c. Did new w from s s₃ c o) (sym (ap decided i) ∙ by_remains_lem e)
      (fork_did new w (place_of p) a b l r o (ending a.change b.change) x y
      (subst (λ ns. Changed (when_writes w (mark new ns)) s₂ t) (marks_are l.change r.change ∙ ap₂ ending x.change y.change) m)
      d fa fb ob (older_ends a.change b.change) few)

  -- what is settled is what the definition says
  pub settled_did : {s₃ : Bytes} {o : declared.Outcome} → SettledTo (settled_says l r) new w s₂ s₃ p v lchild rchild m n l r o → Did new w from s s₃ becomes o
  unfolding settled_says
  settled_did {s₃} {o} h = by (both_stayed l.change r.change) refl (remains_of l.node r.node) refl h
    where
      by : (c : Bool) → both_stayed l.change r.change ≡ c → (f : remains.Remains) → remains_of l.node r.node ≡ f →
          SettledTo (cond c Unchanged (remains_change f)) new w s₂ s₃ p v lchild rchild m n l r o → Did new w from s s₃ becomes o
      by true e f i (q, j) =
          subst₂ (λ c z. Did new w from s s₃ c z) (by_stayed e) (sym q)
          (subst (λ u. Did new w from s u (step.above step.unchanged (vinner v A B) a b [] []) (record { change = Unchanged; node = N.Inner v lchild rchild m n; reach = r.reach })) (sym j)
          (plain_did Unchanged (N.Inner v lchild rchild m n) (vinner v A B) [] (says_either w (N.Inner v lchild rchild m n) (vinner v A B) (A, B, refl, sl, sr, ws)) (λ u q h. absurd h)
          (nothing_marked w new (changed_stored y.bytes))))
      by false e R.Nothing i (q, m) =
          subst₂ (λ c z. Did new w from s s₃ c z) (sym (ap decided i) ∙ by_remains_lem e) (sym q)
          (plain_did Deleted N.Nothing vnone (ending step.deleted step.deleted) refl (older_ends step.deleted step.deleted) (marked_as Deleted Deleted m))
      by false e (R.Leaf k z) i h = renewed_did e (R.Leaf k z) i refl h
      by false e R.More i h = renewed_did e R.More i refl h
