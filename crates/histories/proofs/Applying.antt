-- A store after a new tree is written is sound, with the new tree and the trees it had; up to the new version the latest tree lasts. Each
-- record afterwards has stayed, has ended with the new version, or is fresh; and the new tree grows from the latest one. Nothing here
-- speaks of batches. Assumes nothing.
use Prim.Native.Nat.{ℕ, ◌<◌, ◌≤◌}
use native.Mathlib.Omega.{arith}
use mathlib.Core.Path.{◌≡◌, refl, ap, ap₂, sym, ◌∙◌, subst}
use mathlib.Core.Logic.{◌⊎◌, inl, inr, ◌↔◌}
use mathlib.Core.Bool.{Bool, true, false, cond, not, ◌&&◌, false≢true}
use mathlib.Core.List.{List, []}
use mathlib.Core.Option.{some}
use lib.ListN.{length}
use lib.Dec.{leb}
use borrow.Author.Tests.{leb-true, leb-false}
use Rattle.terms.specs.Bits.{Bytes, left, right, Place, longer, All}
use Rattle.terms.specs.Records.{Record, Slot, Store}
use Rattle.terms.specs.Form.{top32, RecordForm}
use Rattle.terms.proofs.Tests.{is_false}
use Rattle.terms.proofs.Members.{In, all_in}
use Rattle.meaning.specs.Tree.{VTree, vinner, leaves, unversioned}
use Rattle.meaning.specs.Store.{find, tree_at_version, free_slots, marked, has_node, retire, retired_by, records_of, new_records, settled}
use Rattle.meaning.specs.Sound.{At, Kept, Found, Tallied, NodeOf, Lives, Hashes32, Stands}
use Rattle.meaning.proofs.Finding.{some_inner}
use Rattle.meaning.proofs.Counts.{tell_counts}
use Rattle.meaning.proofs.Leaves.{few_leaves}
use Rattle.meaning.proofs.Shaped.{Shaped, no_lone_leaf}
use Rattle.histories.proofs.Slots.{Has, Unique, unique_find}
use Rattle.histories.proofs.Writing.{contents, turned, turned_node, retire_at, placed_at, has_retire, spoiled_retire, find_retire, unique_retire, free_retire, has_placed, spoiled_placed, placed_has, length_written, New, Older, find_older, unique_placed}
use Rattle.histories.proofs.Standing.{Formed, Exact, Alike, stands_alike, node_found, reads_root, kid_stands}
use Rattle.histories.proofs.Whole.{Lifetime, retired_later, not_retired, Whole}
use Rattle.histories.proofs.Nodes.{records_at, top_record, kid_records, Origin, origin, origin_node, has_node_node, node_has_node, new_distinct, new_in, in_new}
use Rattle.histories.proofs.Growing.{Grows, grow_same, grow_none, grow_leaf, grow_inner, grows_node, Grown}
use Rattle.histories.proofs.Forms.{record_form}

module _ (leaf_hash inner_hash : Bytes → Bytes → Bytes) where
  -- the new tree stands where its new records are found and the old tree stands
  grows_stands : (st : Store) (new : ℕ) (p : Place) {old t : VTree} → Grows new old t → Stands leaf_hash inner_hash st p old →
      Shaped p (unversioned t) →
      ((x : Record) → In x (records_at leaf_hash inner_hash p t) → New new x → find x.version x.place st.slots ≡ some x) →
      Stands leaf_hash inner_hash st p t
  unfolding Found Tallied
  grows_stands st new p grow_same s k f = s
  grows_stands st new p grow_none s k f = tt
  grows_stands st new p (grow_leaf {g = g}) s k f = ((_, f _ (inl refl) refl, refl), k.0)
  grows_stands st new p (grow_inner {old} {l} {r} a b) s k f =
      let h = top_record leaf_hash inner_hash p (vinner new l r) some_inner in (
        (h.0, ap₂ (λ x y. find x y st.slots) (sym h.2) (sym h.3) ∙ f h.0 h.1 h.2, h.4),
        no_lone_leaf l r k.1,
        grows_stands st new (longer left p) a (kid_stands leaf_hash inner_hash left st p old s) k.2
            (λ x i n. f x (kid_records leaf_hash inner_hash left x p new l r i) n),
        grows_stands st new (longer right p) b (kid_stands leaf_hash inner_hash right st p old s) k.3
            (λ x i n. f x (kid_records leaf_hash inner_hash right x p new l r i) n),
        (h.0, ap₂ (λ x y. find x y st.slots) (sym h.2) (sym h.3) ∙ f h.0 h.1 h.2, tell_counts st.form (λ _. h.5)),
      )

  module _ (lh : Hashes32 leaf_hash) (ih : Hashes32 inner_hash) (st : Store) (w : Whole leaf_hash inner_hash st)
      (new : ℕ) (above : st.latest < new) (small : new ≤ top32) (now : VTree) (g : Grown new (tree_at_version st st.latest) now)
      (room : length (new_records leaf_hash inner_hash new now) ≤ free_slots st.slots) where
    abbrev old : VTree
    old = tree_at_version st st.latest

    abbrev st' : Store
    st' = settled leaf_hash inner_hash new old now st

    -- the records of the tree before and after, those that are new, and the slots when the old ones are marked
    abbrev before : List Record
    before = records_of leaf_hash inner_hash old

    abbrev after : List Record
    after = records_of leaf_hash inner_hash now

    abbrev news : List Record
    news = new_records leaf_hash inner_hash new now

    abbrev mid : List Slot
    mid = retire new before after st.slots

    last_kept : Kept st st.latest
    last_kept = (w.header.0, omega arith)

    older : Older new mid
    older q h =
        let m = has_retire q new before after st.slots h in
        let t = turned_node new before after m.0 in
        let v : q.version ≡ m.0.version = sym (ap (λ x. x.version) m.2) ∙ t.0 in
        omega (arith, w.versions m.0 m.1)

    all_new : All (New new) news
    all_new = all_in (New new) news (λ x h. (new_in leaf_hash inner_hash new now x h).1)

    unique' : Unique st'.slots
    unfolding settled
    unique' =
        unique_placed new news mid (unique_retire new before after st.slots w.unique) older all_new
        (new_distinct leaf_hash inner_hash new now)

    find_old : (v : ℕ) (p : Place) → v < new → contents (find v p st'.slots) ≡ contents (find v p st.slots)
    unfolding settled
    find_old v p l = ap contents (find_older new v p news mid l all_new) ∙ find_retire new v p _ _ st.slots

    find_fresh : (x : Record) → In x news → find x.version x.place st'.slots ≡ some x
    unfolding settled
    find_fresh x h =
        unique_find st'.slots x unique'
        (placed_has x news mid h (rw (free_retire new before after st.slots) room))

    -- where a record comes from
    data Came (r : Record) : Type 0 where
      stayed : Has r st.slots → (NodeOf r.version r.place old [] → NodeOf r.version r.place now []) → Came r
      ended : (q : Record) → Has q st.slots → marked new q ≡ r → NodeOf q.version q.place old [] →
          (NodeOf q.version q.place now [] → ⊥) → Came r
      fresh : In r (records_at leaf_hash inner_hash [] now) → New new r → Came r

    came_old : (q r : Record) → Has q st.slots →
        (a b : Bool) → has_node q before ≡ a → has_node q after ≡ b →
        cond (a && not b) (marked new q) q ≡ r → Came r
    came_old q r h false b e f k = subst Came k (stayed h (λ n. absurd (false≢true (sym e ∙ node_has_node leaf_hash inner_hash q old n))))
    came_old q r h true true e f k = subst Came k (stayed h (λ n. has_node_node leaf_hash inner_hash q now f))
    came_old q r h true false e f k =
        ended q h k (has_node_node leaf_hash inner_hash q old e) (λ n. false≢true (sym f ∙ node_has_node leaf_hash inner_hash q now n))

    came : (r : Record) → Has r st'.slots → Came r
    unfolding settled
    came r h = go (has_placed r news mid h)
      where
        go : Has r mid ⊎ In r news → Came r
        go (inl k) = let m = has_retire r new _ _ st.slots k in came_old m.0 r m.1 _ _ refl refl m.2
        go (inr k) = let m = new_in leaf_hash inner_hash new now r k in fresh m.0 m.1

    -- an old record stays in its slot; if it is a node of the old tree alone, it is marked
    turned_at : (i : ℕ) (r : Record) → At st i r → At st' i (turned new before after r)
    unfolding At settled
    turned_at i r (l, e) = (
      rw (length_written news new before after st.slots) l,
      placed_at news mid i (turned new before after r) (retire_at new before after st.slots i r e),
    )

    pub ends_at_lem : (i : ℕ) (r : Record) → At st i r → NodeOf r.version r.place old [] → (NodeOf r.version r.place now [] → ⊥) →
        At st' i (marked new r)
    ends_at_lem i r a n m =
        let gone : has_node r after ≡ false = is_false _ (λ e. m (has_node_node leaf_hash inner_hash r now e)) in
        subst (At st' i) (ap₂ (λ x y. cond (x && not y) (marked new r) r) (node_has_node leaf_hash inner_hash r old n) gone) (turned_at i r a)

    pub stays_at_lem : (i : ℕ) (r : Record) → At st i r → (NodeOf r.version r.place old [] → NodeOf r.version r.place now []) →
        At st' i r
    stays_at_lem i r a f = go (has_node r before) refl
      where
        go : (b : Bool) → has_node r before ≡ b → At st' i r
        go true e =
            let there : has_node r after ≡ true = node_has_node leaf_hash inner_hash r now (f (has_node_node leaf_hash inner_hash r old e)) in
            subst (At st' i) (ap₂ (λ x y. cond (x && not y) (marked new r) r) e there) (turned_at i r a)
        go false e = subst (At st' i) (ap (λ x. cond (x && not (has_node r after)) (marked new r) r) e) (turned_at i r a)

    -- t stands in the old store as the tree of v, a version before the new one
    record Was (v : ℕ) (t : VTree) : Type 0 where
      earlier : v < new
      stands : Stands leaf_hash inner_hash st [] t
      exact : Exact st.slots v t

    -- what lives at latest is not retired at all
    unretired : (r : Record) → Has r st.slots → retired_by st.latest r ≡ false → r.retired ≡ 0
    unretired r h e = elim (w.lifetimes r h) [
      | inl z ↦ z
      | inr z ↦ absurd (omega (arith, z.0, z.2, retired_later st.latest r e (omega (arith, z.0))))
    ]

    was_kept : (v : ℕ) → Kept st v → Was v (tree_at_version st v)
    was_kept v k = record { earlier = omega (arith, k.1); stands = w.stands v k; exact = w.exact v k }

    -- the latest tree lasts up to the new version
    was_latest : (v : ℕ) → st.latest ≤ v → v < new → Was v old
    was_latest v l h = record {
      earlier = h;
      stands = w.stands st.latest last_kept;
      exact = λ r i. (
        λ n.
            let alive = (w.exact st.latest last_kept r i).0 n in
            (omega (arith, alive.0), not_retired v r (λ o. absurd (omega (arith, unretired r i alive.1)))),
        λ z.
            (w.exact st.latest last_kept r i).1
            ((w.versions r i).1, not_retired st.latest r (λ o. omega (arith, retired_later v r z.1 o))),
      );
    }

    -- the nodes of the old trees have versions from 1 to latest, those of the new tree from 1 to the new version
    old_number : {v : ℕ} {t : VTree} → Was v t → (x : ℕ) (q : Place) → NodeOf x q t [] → (1 ≤ x) × (x < new)
    old_number {t = t} was x q n =
        let f = node_found leaf_hash inner_hash st x q [] t was.stands n in
        let u = w.versions f.0 f.1 in (omega (arith, f.2), omega (arith, f.2))

    new_number : (x : ℕ) (q : Place) → NodeOf x q now [] → (1 ≤ x) × (x ≤ top32)
    new_number x q n = elim (grows_node new x q [] g.grows n) [
      | inl e ↦ (omega arith, omega arith)
      | inr m ↦ let u = old_number (was_kept st.latest last_kept) x q m in (u.0, omega (arith, u.1))
    ]

    stands_old : {v : ℕ} {t : VTree} → Was v t → Stands leaf_hash inner_hash st' [] t
    unfolding Alike settled
    stands_old {t = t} was =
        stands_alike leaf_hash inner_hash st st' refl [] t (λ x q n. find_old x q (old_number was x q n).1) was.stands

    stands_now : Stands leaf_hash inner_hash st' [] now
    stands_now =
        grows_stands st' new [] g.grows (stands_old (was_kept st.latest last_kept)) g.shaped
        (λ x h e. find_fresh x (in_new leaf_hash inner_hash new now x h e))

    -- the new tree has no more leaves than there are slots
    few_now : leaves now ≤ top32
    unfolding settled
    few_now = omega (arith, few_leaves leaf_hash inner_hash st' [] now stands_now, length_written news new before after st.slots, w.size)

    formed' : Formed st'.slots
    unfolding marked
    formed' r h = go (came r h)
      where
        go : Came r → RecordForm r
        go (stayed h f) = w.formed r h
        go (ended q h e a b) =
            let f = w.formed q h in
            subst RecordForm e (record { short = f.short; versioned = f.versioned; number = small; body = f.body; counts = f.counts })
        go (fresh h e) = record_form leaf_hash inner_hash lh ih now g.shaped new_number few_now r h

    versions' : (r : Record) → Came r → (1 ≤ r.version) × (r.version ≤ new)
    unfolding marked
    versions' r (stayed h f) = let v = w.versions r h in (v.0, omega (arith, v.1))
    versions' r (ended q h e a b) =
        let v = w.versions q h in subst (λ x. (1 ≤ x.version) × (x.version ≤ new)) e (v.0, omega (arith, v.1))
    versions' r (fresh h e) = (omega arith, omega arith)

    lifetimes' : (r : Record) → Came r → Lifetime st.oldest new r
    unfolding marked
    lifetimes' r (stayed h f) = elim (w.lifetimes r h) [ inl e ↦ inl e | inr e ↦ inr (e.0, e.1, omega (arith, e.2)) ]
    lifetimes' r (ended q h e a b) =
        let v = w.versions q h in let o = w.header in
        subst (Lifetime st.oldest new) e (inr (omega arith, omega arith, omega arith))
    lifetimes' r (fresh h e) = inl (origin leaf_hash inner_hash r [] now h).is.retired

    -- at an older version a record lives as before; one that ended now was there to the end
    exact_old : {v : ℕ} {t : VTree} → Was v t → (r : Record) → Came r → NodeOf r.version r.place t [] ↔ Lives v r
    unfolding marked
    exact_old was r (stayed h f) = was.exact r h
    exact_old {v} {t} was r (ended q h e a b) =
        let there = (w.exact st.latest last_kept q h).0 a in
        subst (λ x. NodeOf x.version x.place t [] ↔ Lives v x) e (
          λ n. (((was.exact q h).0 n).0, not_retired v (marked new q) (λ o. was.earlier)),
          λ z. (was.exact q h).1 (z.0, not_retired v q (λ o. absurd (omega (arith, unretired q h there.1)))),
        )
    exact_old was r (fresh h e) = (
      λ n. absurd (omega (arith, (old_number was r.version r.place n).1)),
      λ z. absurd (omega (arith, z.0, was.earlier)),
    )

    -- at the new version live those that stayed in the tree, and the fresh ones
    exact_now : (r : Record) → Came r → NodeOf r.version r.place now [] ↔ Lives new r
    unfolding marked
    exact_now r (stayed h f) = (there, back)
      where
        alive : NodeOf r.version r.place old [] → retired_by new r ≡ false
        alive n =
            let l = (w.exact st.latest last_kept r h).0 n in not_retired new r (λ o. absurd (omega (arith, unretired r h l.1)))

        there : NodeOf r.version r.place now [] → Lives new r
        there n =
            let v = w.versions r h in
            let from = grows_node new r.version r.place [] g.grows n in
            (omega (arith, v.1), elim from [ inl e ↦ absurd (omega (arith, v.1)) | inr m ↦ alive m ])

        back : Lives new r → NodeOf r.version r.place now []
        back z =
            let lived = not_retired st.latest r (λ o. omega (arith, retired_later new r z.1 o)) in
            f ((w.exact st.latest last_kept r h).1 ((w.versions r h).1, lived))
    exact_now r (ended q h e a b) =
        subst (λ x. NodeOf x.version x.place now [] ↔ Lives new x) e
        (λ n. absurd (b n), λ z. absurd (omega (arith, retired_later new (marked new q) z.1 (omega arith))))
    exact_now r (fresh h e) =
        let o : Origin leaf_hash inner_hash r now [] = origin leaf_hash inner_hash r [] now h in
        let t : r.retired ≡ 0 = o.is.retired in
        (λ n. (omega arith, not_retired new r (λ x. absurd (omega arith))), λ z. origin_node leaf_hash inner_hash r [] now o)

    -- the older versions have their trees, those up to the new one the latest, and the new one the new tree
    tree_was : {v : ℕ} {t : VTree} → Was v t → tree_at_version st' v ≡ t
    tree_was {v} {t} was = reads_root leaf_hash inner_hash st' formed' unique' v t (stands_old was) (λ r h. exact_old was r (came r h))

    pub tree_old : (v : ℕ) → Kept st v → tree_at_version st' v ≡ tree_at_version st v
    tree_old v k = tree_was (was_kept v k)

    pub tree_between : (v : ℕ) → st.latest ≤ v → v < new → tree_at_version st' v ≡ old
    tree_between v l h = tree_was (was_latest v l h)

    pub tree_new : tree_at_version st' new ≡ now
    tree_new = reads_root leaf_hash inner_hash st' formed' unique' new now stands_now (λ r h. exact_now r (came r h))

    -- what holds of the older trees and of the new one holds of all that are kept
    each : (P : ℕ → VTree → Type 0) → ((v : ℕ) (t : VTree) → Was v t → P v t) → P new now → (v : ℕ) → st.oldest ≤ v → v ≤ new →
        P v (tree_at_version st' v)
    each P f k v l h = go (leb v st.latest) (leb new v) refl refl
      where
        go : (a b : Bool) → leb v st.latest ≡ a → leb new v ≡ b → P v (tree_at_version st' v)
        go true b c e = let kept : Kept st v = (l, leb-true v st.latest c) in subst (P v) (sym (tree_old v kept)) (f v _ (was_kept v kept))
        go false true c e =
            subst (λ x. P x (tree_at_version st' x)) (omega (arith, leb-true new v e)) (subst (P new) (sym tree_new) k)
        go false false c e =
            let past : st.latest ≤ v = omega (arith, leb-false v st.latest c) in
            let short : v < new = leb-false new v e in
            subst (P v) (sym (tree_between v past short)) (f v _ (was_latest v past short))

    pub settled_whole : Whole leaf_hash inner_hash st'
    unfolding settled
    settled_whole = record {
      size = rw (length_written news new before after st.slots) w.size;
      header = (omega (arith, w.header.0), small);
      whole = λ x h. w.whole x (spoiled_retire x new _ _ st.slots (spoiled_placed x news mid h));
      formed = formed';
      unique = unique';
      versions = λ r h. versions' r (came r h);
      lifetimes = λ r h. lifetimes' r (came r h);
      stands = λ v k. each (λ v t. Stands leaf_hash inner_hash st' [] t) (λ v t was. stands_old was) stands_now v k.0 k.1;
      exact = λ v k r h.
          each (λ v t. NodeOf r.version r.place t [] ↔ Lives v r) (λ v t was. exact_old was r (came r h)) (exact_now r (came r h))
          v k.0 k.1;
    }
