-- In a sound store the messages of the records that live at a version are those of the nodes of its tree: each node is found, and its record
-- holds what its message says. Assumes nothing.
use Prim.Native.Nat.{ℕ, ◌≤◌}
use mathlib.Core.Path.{◌≡◌, refl, ap, ap₂, sym, ◌∙◌, subst, subst₂}
use mathlib.Core.Logic.{◌⊎◌, inl, inr}
use mathlib.Core.Bool.{Bool, true, false, cond, ◌&&◌, not, true≢false, false≢true}
use mathlib.Core.List.{List, [], ◌∷◌, ◌++◌}
use mathlib.Core.Option.{some, some-injective}
use lib.Dec.{leb}
use borrow.Author.Tests.{leb-true, le-leb}
use Rattle.terms.specs.Bits.{Bytes, left, right, Place, longer}
use Rattle.terms.specs.Records.{Body, Record, Slot, free, used, spoiled, Store}
use Rattle.terms.proofs.Tests.{and_left, and_right}
use Rattle.meaning.specs.Tree.{VTree, vnone, vleaf, vinner, unversioned}
use Rattle.meaning.specs.Store.{find, retired_by, tree_at_version, child_of}
use Rattle.meaning.specs.Sound.{Kept, Found, NodeOf, Lives, Stands}
use Rattle.meaning.proofs.Finding.{free_used, spoiled_used, used_eq}
use Rattle.histories.proofs.Slots.{Has, unique_find}
use Rattle.histories.proofs.Standing.{found_record}
use Rattle.histories.proofs.Whole.{Whole}
use Rattle.forgery.specs.Messages.{message_of, stands_in, slot_messages, node_messages, leaf_hash, inner_hash, tree_messages}
use Rattle.forgery.specs.Finding.{Among}
use Rattle.forgery.proofs.Lists.{Within, among_left, among_right, among_either}

not-true : (b : Bool) → not b ≡ true → b ≡ false
not-true true h = absurd (false≢true h)
not-true false h = refl

both : (a b : Bool) → a ≡ true → b ≡ true → a && b ≡ true
both true b e f = f
both false b e f = e

-- the test says that a record lives at v
lives_test : (v : ℕ) (r : Record) → Lives v r → stands_in v r ≡ true
unfolding stands_in
lives_test v r h = both (leb r.version v) (not (retired_by v r)) (le-leb r.version v h.0) (ap not h.1)

test_lives : (v : ℕ) (r : Record) → stands_in v r ≡ true → Lives v r
unfolding stands_in
test_lives v r h = (
  leb-true r.version v (and_left (leb r.version v) (not (retired_by v r)) h),
  not-true (retired_by v r) (and_right (leb r.version v) (not (retired_by v r)) h),
)

-- the messages of the records that live at v
message_in_lem : (v : ℕ) (s : List Slot) (r : Record) → Has r s → stands_in v r ≡ true → Among (message_of r.body) (node_messages v s)
message_in_lem v [] r h e = absurd h
message_in_lem v (free ∷ s) r (inl q) e = free_used r q
message_in_lem v (free ∷ s) r (inr h) e = message_in_lem v s r h e
message_in_lem v (used x ∷ s) r (inl q) e = let same = used_eq x r q in rw (ap (stands_in v) same ∙ e) (inl (ap (λ y. message_of y.body) same))
message_in_lem v (used x ∷ s) r (inr h) e = among_right (slot_messages v (used x)) (node_messages v s) _ (message_in_lem v s r h e)
message_in_lem v (spoiled y ∷ s) r (inl q) e = spoiled_used y r q
message_in_lem v (spoiled y ∷ s) r (inr h) e = message_in_lem v s r h e

-- where a message of the list comes from
abbrev From : ℕ → List Slot → Bytes → Type 0
From v s m = (r : Record) × Has r s × (stands_in v r ≡ true) × (message_of r.body ≡ m)

deeper : (v : ℕ) (x : Slot) (s : List Slot) (m : Bytes) → From v s m → From v (x ∷ s) m
deeper v x s m (r, h, e, f) = (r, inr h, e, f)

comes_from : (v : ℕ) (s : List Slot) (m : Bytes) → Among m (node_messages v s) → From v s m
comes_from v [] m h = absurd h
comes_from v (free ∷ s) m h = deeper v free s m (comes_from v s m h)
comes_from v (used x ∷ s) m h = go (λ k. deeper v (used x) s m (comes_from v s m k)) (stands_in v x) refl h
  where
    go : (Among m (node_messages v s) → From v (used x ∷ s) m) → (b : Bool) → stands_in v x ≡ b →
        Among m (cond b (message_of x.body ∷ []) [] ++ node_messages v s) → From v (used x ∷ s) m
    go ih true e (inl f) = (x, inl refl, e, f)
    go ih true e (inr k) = ih k
    go ih false e k = ih k
comes_from v (spoiled y ∷ s) m h = deeper v (spoiled y) s m (comes_from v s m h)

module _ (H : Bytes → Bytes) (st : Store) (w : Whole (leaf_hash H) (inner_hash H) st) (v : ℕ) (kept : Kept st v) where
  abbrev tree : VTree
  tree = tree_at_version st v

  -- the message of a node that is found
  found_message : (x : ℕ) (p : Place) (b : Body) → Found st x p b → NodeOf x p tree [] → Among (message_of b) (node_messages v st.slots)
  found_message x p b f n =
      let r = found_record st x p b f in
      let lives = (w.exact v kept r.0 r.1).0 (subst₂ (λ y q. NodeOf y q tree []) (sym r.2) (sym r.3) n) in
      subst (λ c. Among (message_of c) (node_messages v st.slots)) r.4 (message_in_lem v st.slots r.0 r.1 (lives_test v r.0 lives))

  tree_in : (p : Place) (t : VTree) → Stands (leaf_hash H) (inner_hash H) st p t → ((x : ℕ) (q : Place) → NodeOf x q t p → NodeOf x q tree []) →
      Within (tree_messages H (unversioned t)) (node_messages v st.slots)
  unfolding child_of
  tree_in p vnone s f m h = absurd h
  tree_in p (vleaf x g) s f m (inl e) =
      subst (λ n. Among n (node_messages v st.slots)) e (found_message x p _ s.0 (f x p (refl, refl)))
  tree_in p (vleaf x g) s f m (inr h) = absurd h
  tree_in p (vinner x l r) s f m (inl e) =
      subst (λ n. Among n (node_messages v st.slots)) e (found_message x p _ s.0 (f x p (inl (refl, refl))))
  tree_in p (vinner x l r) s f m (inr h) = elim (among_either (tree_messages H (unversioned l)) (tree_messages H (unversioned r)) m h) [
    | inl k ↦ tree_in (longer left p) l s.2 (λ y q n. f y q (inr (inl n))) m k
    | inr k ↦ tree_in (longer right p) r s.3 (λ y q n. f y q (inr (inr n))) m k
  ]

  -- a record has the body of the node that it is
  same_body : (r : Record) → Has r st.slots → (x : ℕ) (p : Place) (b : Body) → (x ≡ r.version) × (p ≡ r.place) → Found st x p b → r.body ≡ b
  unfolding Found
  same_body r h x p b n f =
      ap (λ y. y.body) (some-injective r f.0
      (sym (unique_find st.slots r w.unique h) ∙ ap₂ (λ y q. find y q st.slots) (sym n.0) (sym n.1) ∙ f.1))
      ∙ f.2

  node_in : (r : Record) → Has r st.slots → (p : Place) (t : VTree) → Stands (leaf_hash H) (inner_hash H) st p t →
      NodeOf r.version r.place t p → Among (message_of r.body) (tree_messages H (unversioned t))
  unfolding child_of
  node_in r h p vnone s n = absurd n
  node_in r h p (vleaf x g) s n = inl (sym (ap message_of (same_body r h x p _ n s.0)))
  node_in r h p (vinner x a b) s (inl n) = inl (sym (ap message_of (same_body r h x p _ n s.0)))
  node_in r h p (vinner x a b) s (inr (inl n)) =
      inr (among_left (tree_messages H (unversioned a)) (tree_messages H (unversioned b)) _ (node_in r h (longer left p) a s.2 n))
  node_in r h p (vinner x a b) s (inr (inr n)) =
      inr (among_right (tree_messages H (unversioned a)) (tree_messages H (unversioned b)) _ (node_in r h (longer right p) b s.3 n))

  -- The two lists hold the same messages.
  pub tree_in_nodes : Within (tree_messages H (unversioned tree)) (node_messages v st.slots)
  tree_in_nodes = tree_in [] tree (w.stands v kept) (λ x q n. n)

  pub nodes_in_tree : Within (node_messages v st.slots) (tree_messages H (unversioned tree))
  nodes_in_tree m h =
      let (r, has, e, f) = comes_from v st.slots m h in
      subst (λ n. Among n (tree_messages H (unversioned tree))) f
      (node_in r has [] tree (w.stands v kept) ((w.exact v kept r has).1 (test_lives v r e)))
