-- A formatted store is sound: it has no record. A pruned store is sound with the trees it had: what is freed lives at no version that is
-- still kept, so all that their trees name is found as before. Assumes nothing.
use Prim.Native.Nat.{ℕ, zero, suc, ◌≤◌}
use native.Mathlib.Omega.{arith}
use mathlib.Core.Path.{◌≡◌, refl, ap, sym, subst₂}
use mathlib.Core.Logic.{inl, inr}
use mathlib.Core.List.{[]}
use mathlib.Core.Option.{Option, none, some}
use lib.ListN.{replicate, length-replicate, length-map}
use Rattle.terms.specs.Bits.{Bytes, Place}
use Rattle.terms.specs.Records.{Record, Slot, free, used, spoiled, Store}
use Rattle.terms.proofs.Members.{In}
use Rattle.meaning.specs.Tree.{vnone}
use Rattle.meaning.specs.Store.{formatted, find, root_of, tree_at_version, on_record, prune_record, pruned}
use Rattle.meaning.specs.Sound.{most_slots, Kept, NodeOf, Stands}
use Rattle.meaning.proofs.Finding.{free_used}
use Rattle.meaning.proofs.Roots.{root_none}
use Rattle.histories.proofs.Slots.{Has, free_spoiled, find_has, Unique, root_has}
use Rattle.histories.proofs.Writing.{contents, has_pruned, spoiled_pruned, find_pruned, unique_pruned}
use Rattle.histories.proofs.Standing.{Formed, Exact, Alike, stands_alike, reads_root}
use Rattle.histories.proofs.Whole.{Lifetime, retired_later, not_retired, Whole}

-- formatting

free_only : (n : ℕ) (x : Slot) → In x (replicate n free) → x ≡ free
free_only zero x h = absurd h
free_only (suc n) x (inl e) = sym e
free_only (suc n) x (inr h) = free_only n x h

no_record : {A : Type 0} (n : ℕ) (r : Record) → Has r (replicate n free) → A
no_record n r h = free_used r (sym (free_only n (used r) h))

no_spoiled : (n : ℕ) (x : Bytes) → In (spoiled x) (replicate n free) → ⊥
no_spoiled n x h = free_spoiled x (sym (free_only n (spoiled x) h))

unique_free : (n : ℕ) → Unique (replicate n free)
unique_free zero = tt
unique_free (suc n) = unique_free n

pub formatted_tree : (n v : ℕ) → tree_at_version (formatted n) v ≡ vnone
unfolding formatted
formatted_tree n v = go _ refl
  where
    go : (o : Option Record) → root_of (formatted n) v ≡ o → tree_at_version (formatted n) v ≡ vnone
    go none e = root_none (formatted n) v e
    go (some r) e = no_record n r (root_has (formatted n) v r e).0

pub formatted_whole : (leaf_hash inner_hash : Bytes → Bytes → Bytes) (n : ℕ) → (1 ≤ n) × (n ≤ most_slots) →
    Whole leaf_hash inner_hash (formatted n)
unfolding formatted
formatted_whole leaf_hash inner_hash n h = record {
  size = rw (length-replicate n free) h;
  header = (omega arith, omega arith);
  whole = no_spoiled n;
  formed = λ r h. no_record n r h;
  unique = unique_free n;
  versions = λ r h. no_record n r h;
  lifetimes = λ r h. no_record n r h;
  stands = λ v k. rw (formatted_tree n v) tt;
  exact = λ v k r h. no_record n r h;
}

-- pruning

unfoldable pub cut : ℕ → Store → Store
cut n st = record { form = st.form; oldest = n; latest = st.latest; slots = pruned n st.slots }

module _ (leaf_hash inner_hash : Bytes → Bytes → Bytes) (st : Store) (w : Whole leaf_hash inner_hash st) (n : ℕ) (k : Kept st n) where
  -- a node of a tree that is still kept is not freed
  stays : (v : ℕ) → Kept (cut n st) v → (x : ℕ) (p : Place) → NodeOf x p (tree_at_version st v) [] →
      find x p (pruned n st.slots) ≡ find x p st.slots
  unfolding cut
  stays v l x p node = find_pruned x p n st.slots (λ r e.
      let f = find_has x p st.slots r e in
      let alive =
      (w.exact v (omega arith, l.1) r f.0).0 (subst₂ (λ a b. NodeOf a b (tree_at_version st v) []) (sym f.1) (sym f.2) node) in
      not_retired n r (λ o. omega (arith, retired_later v r alive.1 o, l.0)))

  alike : (v : ℕ) → Kept (cut n st) v → Alike st (cut n st) (tree_at_version st v) []
  unfolding Alike cut
  alike v l x p node = ap contents (stays v l x p node)

  cut_formed : Formed (cut n st).slots
  unfolding cut
  cut_formed r h = w.formed r (has_pruned r n st.slots h).0

  cut_stands : (v : ℕ) → Kept (cut n st) v → Stands leaf_hash inner_hash (cut n st) [] (tree_at_version st v)
  unfolding cut
  cut_stands v l = stands_alike leaf_hash inner_hash st (cut n st) refl [] (tree_at_version st v) (alike v l) (w.stands v (omega arith, l.1))

  cut_exact : (v : ℕ) → Kept (cut n st) v → Exact (pruned n st.slots) v (tree_at_version st v)
  unfolding cut
  cut_exact v l r h = w.exact v (omega arith, l.1) r (has_pruned r n st.slots h).0

  -- each version that is still kept has its tree
  pub cut_tree : (v : ℕ) → Kept (cut n st) v → tree_at_version (cut n st) v ≡ tree_at_version st v
  unfolding cut
  cut_tree v l =
      reads_root leaf_hash inner_hash (cut n st) cut_formed (unique_pruned n st.slots w.unique) v (tree_at_version st v) (cut_stands v l)
      (cut_exact v l)

  cut_life : (r : Record) → Has r (pruned n st.slots) → Lifetime st.oldest st.latest r → Lifetime n st.latest r
  cut_life r h (inl e) = inl e
  cut_life r h (inr e) = inr (e.0, retired_later n r (has_pruned r n st.slots h).1 (omega arith), e.2)

  pub cut_whole : Whole leaf_hash inner_hash (cut n st)
  unfolding cut
  cut_whole = record {
    size = rw (length-map st.slots (on_record (prune_record n))) w.size;
    header = (k.1, w.header.1);
    whole = λ x h. w.whole x (spoiled_pruned x n st.slots h);
    formed = cut_formed;
    unique = unique_pruned n st.slots w.unique;
    versions = λ r h. w.versions r (has_pruned r n st.slots h).0;
    lifetimes = λ r h. cut_life r h (w.lifetimes r (has_pruned r n st.slots h).0);
    stands = λ v l. rw (cut_tree v l) (cut_stands v l);
    exact = λ v l r h. rw (cut_tree v l) (cut_exact v l r h);
  }
