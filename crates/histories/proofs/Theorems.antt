-- The theorems on what a store holds, in the words of `Sound`, the calls and `Holds`: what accepted calls do, what refused ones leave, and
-- demand 3 over every list of calls. Assumes nothing.
use Prim.Native.Nat.{ℕ, ◌≤◌, ◌<◌}
use native.Mathlib.Omega.{arith}
use mathlib.Core.Path.{◌≡◌, refl, ap, ap₂, sym, ◌∙◌, subst}
use mathlib.Core.Logic.{inl, ◌↔◌}
use mathlib.Core.Bool.{Bool, true, false, cond, true≢false}
use mathlib.Core.List.{List, [], ◌∷◌, ◌++◌}
use mathlib.Core.Option.{Option, none, some}
use lib.ListN.{length}
use borrow.Author.Tests.{le-leb}
use Rattle.terms.specs.Bits.{Bytes, Place, All}
use Rattle.terms.specs.Records.{Grant, Ask, Body, leaf_body, inner_body, Record, Store}
use Rattle.terms.specs.Form.{top32, place_limit, GrantForm, AskForm}
use Rattle.meaning.specs.Tree.{VTree, vnone, vleaf, vinner, tree_of, hash, grants_at, unversioned, grants_in, new_root, next_tree}
use Rattle.meaning.specs.Store.{formatted, root_of, tree_at_version}
use Rattle.meaning.specs.Sound.{most_slots, At, Kept, NodeOf, Lives, Hashes32, Sound}
use Rattle.meaning.specs.Calls.{Answer, refused, accepted, refuse, is_kept, Applied, ascending, prune, apply}
use Rattle.meaning.specs.Sight.{sighted, root_sight, scan}
use Rattle.meaning.specs.Reading.{Seen, seen_at, seen_root, seen, walk, read_end, read_key, root_read, read_root}
use Rattle.meaning.specs.Proving.{prove_seen, empty_version, proof}
use Rattle.meaning.specs.History.{Call, formatting, applying, pruning, looking, Entry, entry, ledger, grants_of, Holds, taking, held}
use Rattle.meaning.specs.Course.{CallForm, is_accepted, after, took, run, history}
use Rattle.meaning.proofs.Finding.{none_not}
use Rattle.meaning.proofs.Roots.{root_at_lem, root_none, root_some, top_root}
use Rattle.meaning.proofs.Runs.{Ascending}
use Rattle.meaning.proofs.Sights.{whole_root}
use Rattle.meaning.proofs.Shaped.{Shaped, shaped_form, shaped_ascending, shaped_tree_of}
use Rattle.histories.specs.Claims.{NoChange, ReadAlike, ApplyRefuses, not_in_form, not_ascending, not_above_latest, no_room, AfterApply, AfterPrune}
use Rattle.histories.specs.Gaps.{NoGaps, root_in01}
use Rattle.histories.proofs.Standing.{node_found}
use Rattle.histories.proofs.Whole.{sound_whole, whole_sound}
use Rattle.histories.proofs.Pruning.{cut, formatted_tree, formatted_whole}
use Rattle.histories.proofs.Trees.{kept_shaped, root_hash}
use Rattle.histories.proofs.Unchanged.{unchanged_without, unchanged_tree}
use Rattle.histories.proofs.Calls.{prune_cases, cut_after, store_after, apply_cases, settled_after}
use Rattle.histories.proofs.Histories.{keeps_holds, keeps_held, keeps_formatted, keeps_calls}
use Rattle.histories.proofs.Gaps.{own_calls, own_roots}

-- an answer is refused or accepted, with one number or result
not_both : {A B : Type 0} {n : ℕ} {x : A} → ◌≡◌ {A = Answer A} (refused n) (accepted x) → B
not_both e = let z : ◌≡◌ {A = ℕ} 0 1 = cc in absurd (omega arith)

same_result : {A : Type 0} {x y : A} → ◌≡◌ {A = Answer A} (accepted x) (accepted y) → x ≡ y
same_result e = cc

same_number : {A : Type 0} {m n : ℕ} → ◌≡◌ {A = Answer A} (refused m) (refused n) → m ≡ n
same_number e = cc

not_accepted : {A : Type 0} (a : Answer A) → is_accepted a ≡ false → (n : ℕ) × (a ≡ refused n)
not_accepted (refused n) e = (n, refl)
not_accepted (accepted x) e = absurd (true≢false e)

most_bits_lem : (b : Body) → place_limit b ≤ 256
most_bits_lem (leaf_body k x) = omega arith
most_bits_lem (inner_body l r) = omega arith

-- the tree of no grants is none
tree_of_none : tree_of [] ≡ unversioned vnone
unfolding tree_of grants_at
tree_of_none = refl

no_grants : (t : VTree) → unversioned t ≡ unversioned vnone → t ≡ vnone
no_grants vnone e = refl
no_grants (vleaf v g) e = let z : ◌≡◌ {A = ℕ} 0 1 = cc in absurd (omega arith)
no_grants (vinner v l r) e = let z : ◌≡◌ {A = ℕ} 0 1 = cc in absurd (omega arith)

no_tree_no_root : (st : Store) (v : ℕ) → tree_at_version st v ≡ vnone → root_of st v ≡ none
no_tree_no_root st v e = go _ refl
  where
    go : (o : Option Record) → root_of st v ≡ o → o ≡ none
    go none f = refl
    go (some r) f = none_not (tree_at_version st v) (root_some st v r f).0 e

kept_yes : (st : Store) (v : ℕ) → Kept st v → is_kept st v ≡ true
unfolding is_kept
kept_yes st v k = rw (le-leb st.oldest v k.0, le-leb v st.latest k.1)

seen_alike : (st : Store) (v w : ℕ) → root_sight st v ≡ root_sight st w → seen (scan st) v ≡ seen (scan st) w
unfolding seen
seen_alike st v w e = ap (λ o. seen_root o (λ b d. seen_at 255 (scan st) (b ∷ []) d)) e

-- versions that are both kept, or both not, and have one root, read alike
read_alike : (leaf_hash inner_hash : Bytes → Bytes → Bytes) (st : Store) (v w : ℕ) → is_kept st v ≡ is_kept st w → root_sight st v ≡ root_sight st w →
    ReadAlike leaf_hash inner_hash st v w
unfolding read_root read_key proof
read_alike leaf_hash inner_hash st v w k e = record {
  root = ap₂ (λ b o. cond b (root_read leaf_hash inner_hash o) (refused 8)) k e;
  keys = λ x. ap₂ (λ b z. cond b (read_end x (walk x 0 [] z)) (refused 8)) k (seen_alike st v w e);
  proofs = λ x.
      ap₂ (λ b (z : Bool × Seen). cond b (cond z.0 (refused 14) (prove_seen x z.1)) (refused 8)) k
      (ap₂ (λ b z. (b, z)) (ap empty_version e) (seen_alike st v w e));
}

module _ (leaf_hash inner_hash : Bytes → Bytes → Bytes) where
  -- Formatting: a fresh store is sound.
  pub formatted_is_sound : (n : ℕ) → 1 ≤ n → n ≤ most_slots → Sound leaf_hash inner_hash (formatted n)
  formatted_is_sound n h k = whole_sound leaf_hash inner_hash (formatted n) (formatted_whole leaf_hash inner_hash n (h, k))

  -- In a sound store a kept version's tree is the tree of its grants, which ascend and have keys and values of 32 bytes.
  pub sound_tree_of_grants : (st : Store) → Sound leaf_hash inner_hash st → (v : ℕ) → Kept st v →
      (unversioned (tree_at_version st v) ≡ tree_of (grants_in (tree_at_version st v)))
      × Ascending (grants_in (tree_at_version st v))
      × All GrantForm (grants_in (tree_at_version st v))
  sound_tree_of_grants st s v k =
      let t = unversioned (tree_at_version st v) in
      let shaped = kept_shaped leaf_hash inner_hash st (sound_whole leaf_hash inner_hash st s) v k in
      (shaped_tree_of t shaped, shaped_ascending [] t shaped, shaped_form [] t shaped)

  -- No path is longer than 256 steps: the place of a node has at most 256 bits.
  pub paths_have_at_most_256_steps : (st : Store) → Sound leaf_hash inner_hash st → (v : ℕ) → Kept st v →
      (w : ℕ) (q : Place) → NodeOf w q (tree_at_version st v) [] → length q ≤ 256
  paths_have_at_most_256_steps st s v k w q n =
      let r = node_found leaf_hash inner_hash st w q [] (tree_at_version st v) (s.stands v k) n in
      let form = (sound_whole leaf_hash inner_hash st s).formed r.0 r.1 in
      omega (arith, form.short, most_bits_lem r.0.body, ap length r.3)

  -- A root read of a kept version answers the hash of its tree.
  root_read_is_hash : (st : Store) → Sound leaf_hash inner_hash st → (v : ℕ) → Kept st v →
      read_root leaf_hash inner_hash st v ≡ accepted (hash leaf_hash inner_hash (unversioned (tree_at_version st v)))
  unfolding read_root
  root_read_is_hash st s v k =
      rw (kept_yes st v k, whole_root st v s.whole)
      (root_hash leaf_hash inner_hash st (sound_whole leaf_hash inner_hash st s) v k)

  -- Pruning, accepted.
  pub prune_keeps_sound : (n : ℕ) (st : Store) (freed : ℕ) → Sound leaf_hash inner_hash st → (prune n st).answer ≡ accepted freed →
      AfterPrune leaf_hash inner_hash n st freed (prune n st).store
  unfolding refuse
  prune_keeps_sound n st freed s =
      prune_cases (λ o. o.answer ≡ accepted freed → AfterPrune leaf_hash inner_hash n st freed o.store) n st (λ k e. not_both e)
      (λ k e. subst (λ x. AfterPrune leaf_hash inner_hash n st x (cut n st)) (same_result e) (cut_after leaf_hash inner_hash n st s k))

  -- A batch, accepted.
  pub apply_keeps_sound : Hashes32 leaf_hash → Hashes32 inner_hash → (number : ℕ) (batch : List Ask) (st : Store) (answer : Applied) →
      Sound leaf_hash inner_hash st → number ≤ top32 → All AskForm batch →
      (apply leaf_hash inner_hash number (some batch) st).answer ≡ accepted answer →
      AfterApply leaf_hash inner_hash number batch st answer (apply leaf_hash inner_hash number (some batch) st).store
  unfolding refuse
  apply_keeps_sound lh ih number batch st answer s small ok =
      apply_cases leaf_hash inner_hash (λ o. o.answer ≡ accepted answer → AfterApply leaf_hash inner_hash number batch st answer o.store)
      number batch st (λ a e. not_both e) (λ a m e. not_both e) (λ a m h e. not_both e)
      (λ a m room e.
      subst (λ x. AfterApply leaf_hash inner_hash number batch st x (store_after leaf_hash inner_hash number batch st)) (same_result e)
      (settled_after leaf_hash inner_hash lh ih number batch st s small ok m room))

  -- In a sound store, kept versions with one tree have one root.
  same_tree_same_root : (st : Store) → Sound leaf_hash inner_hash st → (v w : ℕ) → Kept st v → Kept st w →
      tree_at_version st v ≡ tree_at_version st w → root_of st v ≡ root_of st w
  same_tree_same_root st s v w k l e = go _ refl
    where
      go : (o : Option Record) → root_of st v ≡ o → root_of st v ≡ root_of st w
      go none f = f ∙ sym (no_tree_no_root st w (sym e ∙ root_none st v f))
      go (some r) f =
          let (i, a, p, alive) = root_at_lem st v r f in
          let node = subst (λ t. NodeOf r.version r.place t []) e ((s.exact v k i r a).1 alive) in
          f ∙ sym (top_root st w s.unique i r a p node)

  -- A version between two publishings reads as the earlier one: its root is that one's.
  pub between_reads_as_the_earlier : (number : ℕ) (batch : List Ask) (st : Store) (answer : Applied) (st' : Store) →
      Sound leaf_hash inner_hash st → AfterApply leaf_hash inner_hash number batch st answer st' →
      (v : ℕ) → st.latest ≤ v → v < number →
      (root_of st' v ≡ root_of st' st.latest) × ReadAlike leaf_hash inner_hash st' v st.latest
  between_reads_as_the_earlier number batch st answer st' s a v l h = (
    same,
    read_alike leaf_hash inner_hash st' v st.latest (kept_yes st' v kept ∙ sym (kept_yes st' st.latest last))
        (whole_root st' v a.sound.whole ∙ ap (λ o. sighted o none) same ∙ sym (whole_root st' st.latest a.sound.whole)),
  )
    where
      kept : Kept st' v
      kept = (omega (arith, a.oldest, s.header.0), omega (arith, a.latest))

      last : Kept st' st.latest
      last = (omega (arith, a.oldest, s.header.0), omega (arith, a.above))

      same : root_of st' v ≡ root_of st' st.latest
      same =
          same_tree_same_root st' a.sound v st.latest kept last
          (a.between v l (omega (arith, a.latest)) ∙ sym (a.between st.latest (omega arith) a.above))

  -- A prune between two publishings keeps the earlier tree.
  pub prune_between_keeps_the_earlier_tree : {number : ℕ} {batch : List Ask} {st : Store} {answer : Applied} {st' : Store} →
      AfterApply leaf_hash inner_hash number batch st answer st' →
      {n freed : ℕ} {st'' : Store} → AfterPrune leaf_hash inner_hash n st' freed st'' → st.latest ≤ n → n < number →
      tree_at_version st'' n ≡ tree_at_version st st.latest
  prune_between_keeps_the_earlier_tree a {n} p l h =
      p.trees n (omega (arith, p.oldest), omega (arith, p.latest, a.latest)) ∙ a.between n l (omega (arith, a.latest))

  -- A kept version that holds no grant has no root, and no record lives then.
  pub empty_versions_have_no_root_and_no_record : (st : Store) → Sound leaf_hash inner_hash st → (v : ℕ) → Kept st v →
      grants_in (tree_at_version st v) ≡ [] →
      (root_of st v ≡ none) × ((i : ℕ) (r : Record) → At st i r → Lives v r → ⊥)
  empty_versions_have_no_root_and_no_record st s v k e = (
    no_tree_no_root st v is_none,
    λ i r a l. subst (λ t. NodeOf r.version r.place t []) is_none ((s.exact v k i r a).1 l),
  )
    where
      is_none : tree_at_version st v ≡ vnone
      is_none = no_grants _ ((sound_tree_of_grants st s v k).0 ∙ ap tree_of e ∙ tree_of_none)

  -- So it is in an empty stretch: from a publishing that leaves no grant up to the next one.
  pub empty_stretches_have_no_root_and_no_record : (number : ℕ) (batch : List Ask) (st : Store) (answer : Applied) (st' : Store) →
      Sound leaf_hash inner_hash st → AfterApply leaf_hash inner_hash number batch st answer st' →
      grants_in (tree_at_version st st.latest) ≡ [] →
      (v : ℕ) → st.latest ≤ v → v < number →
      (root_of st' v ≡ none) × ((i : ℕ) (r : Record) → At st' i r → Lives v r → ⊥)
  empty_stretches_have_no_root_and_no_record number batch st answer st' s a e v l h =
      empty_versions_have_no_root_and_no_record st' a.sound v (omega (arith, a.oldest, s.header.0), omega (arith, a.latest))
      (ap grants_in (a.between v l (omega (arith, a.latest))) ∙ e)

  -- Refused calls leave the store as it was.
  pub refused_apply_writes_nothing : (number : ℕ) (batch : Option (List Ask)) (st : Store) (n : ℕ) →
      (apply leaf_hash inner_hash number batch st).answer ≡ refused n → (apply leaf_hash inner_hash number batch st).store ≡ st
  unfolding refuse
  refused_apply_writes_nothing number none st n e = refl
  refused_apply_writes_nothing number (some batch) st n e =
      apply_cases leaf_hash inner_hash (λ o. o.answer ≡ refused n → o.store ≡ st) number batch st (λ a k. refl) (λ a m k. refl)
      (λ a m h k. refl) (λ a m room k. not_both (sym k)) e

  pub refused_prune_writes_nothing : (n : ℕ) (st : Store) (m : ℕ) → (prune n st).answer ≡ refused m → (prune n st).store ≡ st
  unfolding refuse
  refused_prune_writes_nothing n st m e =
      prune_cases (λ o. o.answer ≡ refused m → o.store ≡ st) n st (λ h k. refl) (λ h k. not_both (sym k)) e

  -- 4, 5, 18 and 7 are given by apply exactly as the rows say, 8 by prune exactly if the version isn't kept; and no other number.
  pub apply_refuses_exactly : (number : ℕ) (batch : Option (List Ask)) (st : Store) (n : ℕ) →
      ((apply leaf_hash inner_hash number batch st).answer ≡ refused n) ↔ ApplyRefuses leaf_hash inner_hash number st batch n
  unfolding refuse
  apply_refuses_exactly number none st n =
      (λ e. subst (ApplyRefuses leaf_hash inner_hash number st none) (same_number e) not_in_form, λ r. none_row r)
    where
      none_row : {m : ℕ} → ApplyRefuses leaf_hash inner_hash number st none m → ◌≡◌ {A = Answer Applied} (refused 4) (refused m)
      none_row not_in_form = refl
  apply_refuses_exactly number (some batch) st n = (there, back)
    where
      Row : ℕ → Type 0
      Row m = ApplyRefuses leaf_hash inner_hash number st (some batch) m

      there : (apply leaf_hash inner_hash number (some batch) st).answer ≡ refused n → Row n
      there =
          apply_cases leaf_hash inner_hash (λ o. o.answer ≡ refused n → Row n) number batch st
          (λ a e. subst Row (same_number e) (not_ascending a))
          (λ a l e. subst Row (same_number e) (not_above_latest a l))
          (λ a l f e. subst Row (same_number e) (no_room a l f))
          (λ a l f e. not_both (sym e))

      back : {m : ℕ} → ApplyRefuses leaf_hash inner_hash number st (some batch) m →
          (apply leaf_hash inner_hash number (some batch) st).answer ≡ refused m
      back (not_ascending a) =
          apply_cases leaf_hash inner_hash (λ o. o.answer ≡ refused 5) number batch st (λ b. refl) (λ b l. absurd (true≢false (sym b ∙ a)))
          (λ b l f. absurd (true≢false (sym b ∙ a))) (λ b l f. absurd (true≢false (sym b ∙ a)))
      back (not_above_latest a l) =
          apply_cases leaf_hash inner_hash (λ o. o.answer ≡ refused 18) number batch st (λ b. absurd (true≢false (sym a ∙ b)))
          (λ b m. refl) (λ b m f. absurd (omega arith)) (λ b m f. absurd (omega arith))
      back (no_room a l f) =
          apply_cases leaf_hash inner_hash (λ o. o.answer ≡ refused 7) number batch st (λ b. absurd (true≢false (sym a ∙ b)))
          (λ b m. absurd (omega arith)) (λ b m g. refl) (λ b m g. absurd (omega arith))

  pub prune_refuses_exactly : (n : ℕ) (st : Store) (m : ℕ) → ((prune n st).answer ≡ refused m) ↔ ((m ≡ 8) × (Kept st n → ⊥))
  unfolding refuse
  prune_refuses_exactly n st m =
      prune_cases (λ o. (o.answer ≡ refused m) ↔ ((m ≡ 8) × (Kept st n → ⊥))) n st
      (λ h. (λ e. (sym (same_number e), h), λ k. ap refused (sym k.0))) (λ h. (λ e. not_both (sym e), λ k. absurd (k.1 h)))

  -- An insert of the value already there and a delete of an absent key are no change: the tree is that of the batch without them. A batch
  -- of nothing else makes a new root only.
  latest_shaped : (st : Store) → Sound leaf_hash inner_hash st → Shaped [] (unversioned (tree_at_version st st.latest))
  latest_shaped st s = kept_shaped leaf_hash inner_hash st (sound_whole leaf_hash inner_hash st s) st.latest (s.header.0, omega arith)

  pub no_change_is_left_out : (new : ℕ) (xs : List Ask) (a : Ask) (ys : List Ask) (st : Store) → Sound leaf_hash inner_hash st →
      ascending (xs ++ a ∷ ys) ≡ true → NoChange (grants_in (tree_at_version st st.latest)) a →
      next_tree new (tree_at_version st st.latest) (xs ++ a ∷ ys) ≡ next_tree new (tree_at_version st st.latest) (xs ++ ys)
  no_change_is_left_out new xs a ys st s o h = unchanged_without new (tree_at_version st st.latest) xs a ys (latest_shaped st s) o h

  pub no_change_makes_a_root : (new : ℕ) (batch : List Ask) (st : Store) → Sound leaf_hash inner_hash st →
      All (NoChange (grants_in (tree_at_version st st.latest))) batch →
      next_tree new (tree_at_version st st.latest) batch ≡ new_root new (tree_at_version st st.latest)
  no_change_makes_a_root new batch st s h = unchanged_tree new (tree_at_version st st.latest) batch (latest_shaped st s) h

  -- Demand 3. After any list of calls a formatted store is sound and holds what the calls have granted to each version.
  pub histories_hold : Hashes32 leaf_hash → Hashes32 inner_hash → (n : ℕ) → 1 ≤ n → n ≤ most_slots → (calls : List Call) →
      All CallForm calls →
      Holds leaf_hash inner_hash (run leaf_hash inner_hash calls (formatted n))
      (ledger (history leaf_hash inner_hash calls (formatted n)) (entry 0 [] ∷ []))
  histories_hold lh ih n h k calls f =
      keeps_holds leaf_hash inner_hash _ _
      (keeps_calls leaf_hash inner_hash lh ih calls (formatted n) _ f (keeps_formatted leaf_hash inner_hash n (h, k)))

  -- The same from any sound store, with what it holds.
  pub sound_histories_hold : Hashes32 leaf_hash → Hashes32 inner_hash → (st : Store) → Sound leaf_hash inner_hash st → (calls : List Call) →
      All CallForm calls →
      Holds leaf_hash inner_hash (run leaf_hash inner_hash calls st) (ledger (history leaf_hash inner_hash calls st) (held st))
  sound_histories_hold lh ih st s calls f =
      keeps_holds leaf_hash inner_hash _ _ (keeps_calls leaf_hash inner_hash lh ih calls st (held st) f (keeps_held leaf_hash inner_hash st s))

  -- Where each batch is given latest + 1, roots are as in document 01: the root of a kept version v is the record of version v at the
  -- empty place, or none.
  pub without_gaps_roots_are_as_in_01 : Hashes32 leaf_hash → Hashes32 inner_hash → (n : ℕ) → 1 ≤ n → n ≤ most_slots → (calls : List Call) →
      All CallForm calls → NoGaps leaf_hash inner_hash calls (formatted n) →
      (v : ℕ) → Kept (run leaf_hash inner_hash calls (formatted n)) v →
      root_of (run leaf_hash inner_hash calls (formatted n)) v ≡ root_in01 (run leaf_hash inner_hash calls (formatted n)) v
  without_gaps_roots_are_as_in_01 lh ih n h k calls f gap =
      own_roots leaf_hash inner_hash _ (histories_hold lh ih n h k calls f).sound
      (own_calls leaf_hash inner_hash lh ih calls (formatted n) _ f gap (keeps_formatted leaf_hash inner_hash n (h, k))
      (λ v _. inl (formatted_tree n v)))

  -- A call that isn't accepted leaves the store as it was.
  pub not_accepted_changes_nothing : (c : Call) (st : Store) → took leaf_hash inner_hash c st ≡ false → after leaf_hash inner_hash c st ≡ st
  not_accepted_changes_nothing formatting st e = absurd (true≢false e)
  not_accepted_changes_nothing (applying number batch) st e =
      let r = not_accepted _ e in refused_apply_writes_nothing number batch st r.0 r.1
  not_accepted_changes_nothing (pruning n) st e = let r = not_accepted _ e in refused_prune_writes_nothing n st r.0 r.1
  not_accepted_changes_nothing (taking es) st e = refl
  not_accepted_changes_nothing looking st e = refl

  -- Each record stands in exactly the kept versions of its lifetime.
  pub records_stand_in_their_lifetimes : (st : Store) (es : List Entry) → Holds leaf_hash inner_hash st es → (v : ℕ) → Kept st v →
      (i : ℕ) (r : Record) → At st i r → NodeOf r.version r.place (tree_at_version st v) [] ↔ Lives v r
  records_stand_in_their_lifetimes st es h = h.sound.exact

  -- A root read answers the hash of the tree of what the calls have granted.
  pub root_read_of_the_ledger : (st : Store) (es : List Entry) → Holds leaf_hash inner_hash st es → (v : ℕ) → Kept st v →
      (gs : List Grant) × (grants_of v es ≡ some gs) × (read_root leaf_hash inner_hash st v ≡ accepted (hash leaf_hash inner_hash (tree_of gs)))
  root_read_of_the_ledger st es h v k =
      let g = h.gives v k in
      (g.0, g.1, root_read_is_hash st h.sound v k ∙ ap (λ t. accepted (hash leaf_hash inner_hash t)) g.2)
