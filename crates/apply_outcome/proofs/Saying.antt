-- What a node by value says: its record and what its parent says of it are those of the tree it is the top of. Assumes nothing.
use Prim.Native.Nat.{ℕ, ◌+◌, ◌≤◌}
use native.Mathlib.Omega.{arith}
use mathlib.Core.Path.{◌≡◌, refl, ap, ap₂, sym, ◌∙◌, subst, subst₂}
use mathlib.Core.Logic.{⊎_elim}
use mathlib.Core.Bool.{Bool, true, false, false≢true}
use mathlib.Core.List.{List, [], ◌∷◌, ◌++◌}
use lib.ListN.{length, length-append}
use types.Run.{OneOf}
use denote.Enum.Declared.{tag_of}
use Rattle.terms.specs.Bits.{Bytes, Side, Place, All, longer, left, right}
use Rattle.terms.specs.Form.{RecordForm, top32}
use Rattle.terms.specs.Records.{Child, child, inner_body, tally, Record, Slot, zeros}
use Rattle.meaning.specs.Tree.{VTree, leaves}
use Rattle.meaning.specs.Store.{placed, record_at, child_of}
use Rattle.hash.specs.declared.Hash.{Hash}
use Rattle.hash.specs.Hash.{hash_bytes}
use Rattle.nodehash.specs.Node.{leaf_hash, inner_hash}
use Rattle.layout.specs.Slots.{record_of}
use Rattle.slots.specs.declared.Child as declared-child
use Rattle.slots.specs.Answer.{child_says}
use Rattle.steps.specs.Step.{places_at}
use Rattle.steps.proofs.Writing.{placed_append}
use Rattle.place.specs.declared.Place as place
use Rattle.place.specs.Place.{place_of, Grown}
use Rattle.layout.specs.Stores.{store_of}
use Rattle.apply_place.specs.declared.Node as node
use Rattle.apply_place.specs.declared.Node.TheVariants.{Nothing, Leaf, Inner}
use Rattle.apply_place.specs.Placing.{Stored, Changed, when_writes, record_says}
use Rattle.apply_place.proofs.Changing.{unchanged, changed_as, changed_then}
use Rattle.apply_place.specs.Reach.{Starts, Places, Placed}
use Rattle.apply_place.proofs.Placing.{placed_nothing}
use Rattle.apply_place.proofs.Reaching.{reaches_none, reaches_then}
use Rattle.apply_outcome.specs.declared.Change as declared-change
use Rattle.apply_outcome.specs.declared.Change.TheVariants.{Updated, Deleted, Unchanged}
use Rattle.apply_outcome.specs.declared.Outcome as declared
use Rattle.apply_outcome.specs.Outcomes.{NodeSays, node_child, node_leaves, change_says, changed_record, updated_says}
use Rattle.apply_outcome.specs.contracts.Change as change

-- what the parent says of a node, by its case
pub child_nothing : (n : node.Node) (h : Hash) → n ≡ Nothing → hash_bytes h ≡ zeros → child_says (record { version = 0; hash = h }) ≡ node_child n
unfolding child_says
child_nothing n h e k = rw e (ap (child 0) k)

pub child_leaf : (n : node.Node) (h : Hash) {v : ℕ} {k x : Hash} → n ≡ Leaf v k x → hash_bytes h ≡ leaf_hash (hash_bytes k) (hash_bytes x) →
    child_says (record { version = v; hash = h }) ≡ node_child n
unfolding child_says
child_leaf n h {v} e k = rw e (ap (child v) k)

pub child_inner : (n : node.Node) (h : Hash) {v : ℕ} {l r : declared-child.Child} {a b : ℕ} → n ≡ Inner v l r a b →
    hash_bytes h ≡ inner_hash (hash_bytes l.hash) (hash_bytes r.hash) → child_says (record { version = v; hash = h }) ≡ node_child n
unfolding child_says
child_inner n h {v} e k = rw e (ap (child v) k)

-- the counts of an inner node
pub inner_few : (n : node.Node) {v : ℕ} {l r : declared-child.Child} {a b : ℕ} → n ≡ Inner v l r a b → node_leaves n ≤ top32 → a + b ≤ top32
inner_few n e h = subst (λ x. node_leaves x ≤ top32) e h

pub inner_leaves : (n : node.Node) {v : ℕ} {l r : declared-child.Child} {a b : ℕ} → n ≡ Inner v l r a b → a + b ≡ node_leaves n
inner_leaves n e = sym (ap node_leaves e)

-- only what was updated is placed
pub is_updated : (p : Place) (o : declared.Outcome) → o.change ≡ Updated → updated_says p o ≡ record_says p o.node
unfolding updated_says
is_updated p o e = ap (λ c. changed_record c (record_says p o.node)) e

pub not_updated : (p : Place) (o : declared.Outcome) → OneOf (1 ∷ 2 ∷ []) (tag_of change.the_type o.change) → updated_says p o ≡ []
unfolding updated_says
not_updated p o k = go o.change k
  where
    go : (c : declared-change.Change) → OneOf (1 ∷ 2 ∷ []) (tag_of change.the_type c) → changed_record c (record_says p o.node) ≡ []
    go Updated k = absurd (⊎_elim (λ e. omega arith) (λ e. omega arith) k)
    go Deleted k = refl
    go Unchanged k = refl

pub updated_form : (p : Place) (o : declared.Outcome) → All RecordForm (record_says p o.node) → All RecordForm (updated_says p o)
unfolding updated_says
updated_form p o h = go o.change
  where
    go : (c : declared-change.Change) → All RecordForm (changed_record c (record_says p o.node))
    go Updated = h
    go Deleted = tt
    go Unchanged = tt

pub nothing_placed : (w : Bool) {s : Bytes} → Stored s → Changed (when_writes w (placed [])) s s
nothing_placed true h = changed_as (λ x. x) (placed []) (sym (placed_nothing _)) (unchanged h)
nothing_placed false h = unchanged h

pub placed_as : (w : Bool) {xs ys : List Record} {s s' : Bytes} → (w ≡ true → xs ≡ ys) → Changed (when_writes w (placed xs)) s s' →
    Changed (when_writes w (placed ys)) s s'
placed_as true {s = s} {s' = s'} e c = subst (λ rs. Changed (placed rs) s s') (e refl) c
placed_as false e c = c

-- records of a place that are none, or others
pub none_placed : (w : Bool) {from : ℕ} {q : place.Place} {rs : List Record} {s : Bytes} → rs ≡ [] → Places w s from q rs → Placed w from rs s s from
none_placed w {s = s} e h = record {
  bytes = placed_as w (λ z. sym e) (nothing_placed w h.stored);
  reach = reaches_none w (ap length e) h.starts;
}

pub some_placed : (w : Bool) {from k : ℕ} {xs ys : List Record} {s s' : Bytes} → ys ≡ xs → Placed w from xs s s' k → Placed w from ys s s' k
some_placed w {from} {k} {s = s} {s' = s'} e h = subst (λ rs. Placed w from rs s s' k) (sym e) h

pub both_placed : (w : Bool) (xs ys : List Record) (s : List Slot) →
    when_writes w (placed ys) (when_writes w (placed xs) s) ≡ when_writes w (placed (xs ++ ys)) s
both_placed true xs ys s = sym (placed_append xs ys s)
both_placed false xs ys s = refl

-- the outcomes on both sides of a place, one after the other
pub places_at_lem : (w : Bool) (o : declared.Outcome) {b : Side} {p q : place.Place} {s : Bytes} {from : ℕ} → Grown b p q → Stored s →
    Starts w (store_of s).slots from → (w ≡ true → All RecordForm (updated_says (longer b (place_of p)) o)) → Places w s from q (updated_says (place_of q) o)
places_at_lem w o g h t f = record {
  stored = h;
  starts = t;
  proper = g.proper;
  form = λ e. subst (λ i. All RecordForm (updated_says i o)) (sym g.place) (f e);
}

pub two_placed : (w : Bool) (l r : declared.Outcome) {p lplace rplace : place.Place} {from k m : ℕ} {s s₁ s₂ : Bytes} → Grown left p lplace → Grown right p rplace →
    Placed w from (updated_says (place_of lplace) l) s s₁ k → Placed w k (updated_says (place_of rplace) r) s₁ s₂ m →
    Placed w from (updated_says (longer left (place_of p)) l ++ updated_says (longer right (place_of p)) r) s s₂ m
two_placed w l r {p} {lplace} {rplace} {from} {m = m} {s = s} {s₂ = s₂} gl gr x y =
    let xs = updated_says (place_of lplace) l in
    let ys = updated_says (place_of rplace) r in
    subst₂ (λ i j. Placed w from (updated_says i l ++ updated_says j r) s s₂ m) gl.place gr.place
    (record {
      bytes = changed_as _ (when_writes w (placed (xs ++ ys))) (both_placed w xs ys _) (changed_then x.bytes y.bytes);
      reach = reaches_then w (length-append xs ys) x.reach y.reach;
    })

-- where it is written, the record of a node is that of the tree, and what its parent says of it is what is said of the tree
pub says_record : (w : Bool) (n : node.Node) (t : VTree) → w ≡ true → NodeSays w n t → (p : Place) → record_says p n ≡ record_at leaf_hash inner_hash p t
says_record false n t e h p = absurd (false≢true e)
says_record true Nothing t e h p = rw h
says_record true (Leaf v k x) t e h p = rw h
says_record true (Inner v l r m n) t e (a, b, i, x, y, z) p =
    rw i (ap₂ (λ c d. record_of p v 0 (inner_body c d) (tally m n) ∷ []) x y ∙ ap₂ (λ c d. record_of p v 0 (inner_body (child_of leaf_hash inner_hash a) (child_of leaf_hash inner_hash b)) (tally c d) ∷ []) z.left_is z.right_is)

pub says_child : (w : Bool) (n : node.Node) (t : VTree) → w ≡ true → NodeSays w n t → node_child n ≡ child_of leaf_hash inner_hash t
unfolding child_of child_says
says_child false n t e h = absurd (false≢true e)
says_child true Nothing t e h = rw h
says_child true (Leaf v k x) t e h = rw h
says_child true (Inner v l r m n) t e (a, b, i, x, y, z) =
    rw i (ap₂ (λ g h. child v (inner_hash g h)) (ap (λ (c : Child). c.hash) x) (ap (λ (c : Child). c.hash) y))

pub says_updated : (w : Bool) (o : declared.Outcome) (t : VTree) → w ≡ true → NodeSays w o.node t → (p : Place) →
    updated_says p o ≡ places_at leaf_hash inner_hash (change_says o.change) p t
unfolding updated_says
says_updated w o t e h p = go o.change
  where
    go : (c : declared-change.Change) → changed_record c (record_says p o.node) ≡ places_at leaf_hash inner_hash (change_says c) p t
    go Updated = says_record w o.node t e h p
    go Deleted = refl
    go Unchanged = refl

-- written or not, there are as many
pub says_many : (w : Bool) (o : declared.Outcome) (t : VTree) → NodeSays w o.node t → (p : Place) →
    length (updated_says p o) ≡ length (places_at leaf_hash inner_hash (change_says o.change) p t)
unfolding updated_says
says_many w o t h p = go o.change
  where
    one : (n : node.Node) → NodeSays w n t → length (record_says p n) ≡ length (record_at leaf_hash inner_hash p t)
    one Nothing e = rw e
    one (Leaf v k x) e = rw e
    one (Inner v l r m n) (a, b, e, x, y, z) = rw e

    go : (c : declared-change.Change) → length (changed_record c (record_says p o.node)) ≡ length (places_at leaf_hash inner_hash (change_says c) p t)
    go Updated = one o.node h
    go Deleted = refl
    go Unchanged = refl

-- what is true where things are written is true of a node that is read
pub says_either : (w : Bool) (n : node.Node) (t : VTree) → NodeSays true n t → NodeSays w n t
says_either true n t h = h
says_either false Nothing t h = h
says_either false (Leaf v k x) t h = h
says_either false (Inner v l r m n) t (a, b, e, x, y, z) = (a, b, e, tt, tt, z)

-- how many leaves a node says there are is how many its tree has, and four bytes hold it
pub says_leaves : (w : Bool) (n : node.Node) (t : VTree) → NodeSays w n t → node_leaves n ≡ leaves t
says_leaves w Nothing t h = rw h
says_leaves w (Leaf v k x) t h = rw h
says_leaves w (Inner v l r m n) t (a, b, e, x, y, z) = rw e (ap₂ ◌+◌ z.left_is z.right_is)

pub says_few : (w : Bool) (n : node.Node) (t : VTree) → NodeSays w n t → node_leaves n ≤ top32
says_few w Nothing t h = omega arith
says_few w (Leaf v k x) t h = omega arith
says_few w (Inner v l r m n) t (a, b, e, x, y, z) = z.few
