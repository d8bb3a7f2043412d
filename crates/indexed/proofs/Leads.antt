-- A right table leads to every record: the search ends on it, and no scan is needed. Assumes nothing.
use Prim.Native.Nat.{ℕ, zero, suc, ◌+◌, ◌/◌, ◌≤◌, ◌<◌}
use native.Mathlib.Omega.{arith}
use mathlib.Core.Path.{◌≡◌, refl, ap, sym, ◌∙◌, subst}
use mathlib.Core.Logic.{◌⊎◌, inl, inr}
use mathlib.Core.Bool.{Bool, true, false, cond, true≢false}
use mathlib.Core.List.{List, [], ◌∷◌}
use mathlib.Core.Option.{Option, none, some}
use lib.ListN.{length, get_or, get_or-eq_default}
use lib.Dec.{ltb, leb}
use borrow.Author.Tests.{ltb-true, ltb-false, lt-ltb, le-ltb, leb-true, leb-false}
use Rattle.terms.specs.Bits.{Bytes, Place, same_place}
use Rattle.terms.specs.Records.{Record, Slot, free, used, Store}
use Rattle.terms.proofs.Tests.{is_false, is_true, same_place_lem, place_same}
use Rattle.meaning.specs.Store.{retired_by, root_of}
use Rattle.meaning.specs.Sound.{At, Kept, Lives, Sound}
use Rattle.meaning.proofs.Finding.{same_slot}
use Rattle.meaning.proofs.Roots.{root_at_lem, root_is}
use Rattle.histories.proofs.Whole.{retired_later, not_retired}
use Rattle.indexed.specs.Index.{place_before, node_before, Look, too_small, too_great, meets, look_at, node_look, root_look, onwards, search_from, search}
use Rattle.indexed.specs.Table.{entry, Right}
use Rattle.indexed.proofs.Before.{place_itself, before_cases, node_itself, node_once}
use Rattle.indexed.proofs.Scanned.{one_root}

-- nothing is before the empty place
top_first : (p : Place) → place_before p [] ≡ false
top_first [] = refl
top_first (b ∷ p) = refl

module _ (st : Store) (table : List ℕ) (right : Right st table) where
  -- what a look at the entry at a position says
  abbrev looked_at : (Record → Look) → ℕ → Look
  looked_at look j = look_at look (get_or st.slots (entry st table j) free)

  in_slot : (look : Record → Look) (j : ℕ) (q : Record) → At st (entry st table j) q → looked_at look j ≡ look q
  unfolding At
  in_slot look j q a = ap (λ x. look_at look x) a.1

  past_use : (look : Record → Look) (j : ℕ) → right.many ≤ j → j < length st.slots → looked_at look j ≡ too_great
  past_use look j m l =
      ap (λ x. look_at look x)
      (ap (λ i. get_or st.slots i free) (right.rest j m (omega (arith, right.size))) ∙ get_or-eq_default st.slots free (omega arith))

  -- where all before the entry at k is too small and all after it too great
  module _ (look : Record → Look) (k : ℕ) (r : Record)
      (met : looked_at look k ≡ meets r)
      (below : (j : ℕ) → j < k → looked_at look j ≡ too_small)
      (above : (j : ℕ) → k < j → j < length st.slots → looked_at look j ≡ too_great) where
    halves : (lo hi : ℕ) → lo < hi → (lo ≤ (lo + hi) / 2) × ((lo + hi) / 2 < hi)
    halves lo hi l = (omega arith, omega arith)

    turn : (mid : ℕ) (up down : Option Record) → mid < length st.slots → (mid < k → up ≡ some r) → (k < mid → down ≡ some r) →
        onwards (looked_at look mid) up down ≡ some r
    turn mid up down l u d = go (ltb mid k) refl (ltb k mid) refl
      where
        go : (a : Bool) → ltb mid k ≡ a → (b : Bool) → ltb k mid ≡ b → onwards (looked_at look mid) up down ≡ some r
        go true e b f = ap (λ x. onwards x up down) (below mid (ltb-true mid k e)) ∙ u (ltb-true mid k e)
        go false e true f = ap (λ x. onwards x up down) (above mid (ltb-true k mid f) l) ∙ d (ltb-true k mid f)
        go false e false f =
            let g = ltb-false mid k e in
            let h = ltb-false k mid f in
            let same : mid ≡ k = omega arith in
            ap (λ j. onwards (looked_at look j) up down) same ∙ ap (λ x. onwards x up down) met

    leads : (n lo hi : ℕ) → lo ≤ k → k < hi → hi ≤ length st.slots → hi ≤ lo + n → search_from n look table st.slots lo hi ≡ some r
    leads zero lo hi a b c d = absurd (omega arith)
    leads (suc n) lo hi a b c d =
        let m = halves lo hi (omega arith) in
        ap (λ t. cond t (onwards (looked_at look ((lo + hi) / 2)) (search_from n look table st.slots (suc ((lo + hi) / 2)) hi) (search_from n look table st.slots lo ((lo + hi) / 2))) none)
        (lt-ltb lo hi (omega arith))
        ∙ turn ((lo + hi) / 2) _ _ (omega arith)
        (λ e. leads n (suc ((lo + hi) / 2)) hi (omega arith) b c (omega arith))
        (λ e. leads n lo ((lo + hi) / 2) a e (omega arith) (omega arith))

  -- by the entry at k, a record of the store
  module _ (look : Record → Look) (k : ℕ) (r : Record) (in_use : k < right.many) (holds : At st (entry st table k) r) (own : look r ≡ meets r)
      (small : (j : ℕ) (q : Record) → j < k → At st (entry st table j) q → look q ≡ too_small)
      (great : (j : ℕ) (q : Record) → k < j → j < right.many → At st (entry st table j) q → look q ≡ too_great) where
    led : search look table st.slots ≡ some r
    unfolding search
    led =
        leads look k r (in_slot look k r holds ∙ own)
        (λ j l. let w = right.names j (omega arith) in in_slot look j w.0 w.1 ∙ small j w.0 l w.1)
        (λ j l m. go j l m (ltb j right.many) refl)
        (length st.slots) 0 (length st.slots) (omega arith) (omega (arith, right.within, right.size)) (omega arith) (omega arith)
      where
        go : (j : ℕ) → k < j → j < length st.slots → (b : Bool) → ltb j right.many ≡ b → looked_at look j ≡ too_great
        go j l m true e =
            let u = ltb-true j right.many e in
            let w = right.names j u in
            in_slot look j w.0 w.1 ∙ great j w.0 l u w.1
        go j l m false e = past_use look j (ltb-false j right.many e) m

  -- A search for a record's version and place ends on it.
  pub leads_to_node : (i : ℕ) (r : Record) → At st i r → search (node_look r.version r.place) table st.slots ≡ some r
  unfolding node_look
  leads_to_node i r a =
      let w = right.named i r a in
      let holds : At st (entry st table w.0) r = subst (λ x. At st x r) (sym w.2) a in
      led (node_look r.version r.place) w.0 r w.1 holds (rw (node_itself r.version r.place))
      (λ j q l b. rw (right.order j w.0 q r l w.1 b holds))
      (λ j q l m b.
      let before = right.order w.0 j r q l m holds b in
      rw (node_once r.version q.version r.place q.place before, before))

  -- In a sound store, a search for the root of a kept version ends on it.
  module _ (leaf_hash inner_hash : Bytes → Bytes → Bytes) (sound : Sound leaf_hash inner_hash st) (v : ℕ) (kept : Kept st v) (r : Record) where
    -- a later root is above v: else both live at a kept version
    later_above : (i j : ℕ) (q : Record) → At st i r → At st j q → r.place ≡ [] → q.place ≡ [] → Lives v r → r.version < q.version → v < q.version
    later_above i j q a b e f alive l = go (ltb v q.version) refl
      where
        together : (u : ℕ) → Kept st u → q.version ≤ u → u ≤ v → (1 ≤ q.retired → u < q.retired) → ⊥
        together u k m n o =
            let mine = root_is u r e (omega arith, not_retired u r (λ h. let later = retired_later v r alive.1 h in omega arith)) in
            let its = root_is u q f (m, not_retired u q o) in
            let same = same_slot st i j r q a b (one_root leaf_hash inner_hash st sound u k i j r q a b mine its) in
            let equal = ap (λ (x : Record). x.version) same in
            absurd (omega arith)

        ends_after : (u : ℕ) → (q.version ≡ u) ⊎ (st.oldest ≡ u) → 1 ≤ q.retired → u < q.retired
        ends_after u c h = from (sound.lifetimes j q b) c
          where
            from : (q.retired ≡ 0) ⊎ ((q.version < q.retired) × (st.oldest < q.retired) × (q.retired ≤ st.latest)) → (q.version ≡ u) ⊎ (st.oldest ≡ u) →
                u < q.retired
            from (inl z) d = absurd (omega arith)
            from (inr z) (inl d) = omega arith
            from (inr z) (inr d) = omega arith

        meet : q.version ≤ v → (c : Bool) → leb st.oldest q.version ≡ c → ⊥
        meet m true g =
            let o = leb-true st.oldest q.version g in
            together q.version (o, omega (arith, kept.1)) (omega arith) m (ends_after q.version (inl refl))
        meet m false g =
            let o = leb-false st.oldest q.version g in
            together st.oldest (omega arith, omega (arith, kept.0, kept.1)) (omega arith) kept.0 (ends_after st.oldest (inr refl))

        go : (c : Bool) → ltb v q.version ≡ c → v < q.version
        go true g = ltb-true v q.version g
        go false g = absurd (meet (ltb-false v q.version g) _ refl)

    pub leads_to_root : root_of st v ≡ some r → search (root_look v) table st.slots ≡ some r
    unfolding root_look
    leads_to_root found =
        led (root_look v) w.0 r w.1 holds (rw (at_top r a.2, le-ltb v r.version a.3.0, a.3.1))
        (λ j q l b. smaller j q b (before_cases q.version r.version q.place r.place (right.order j w.0 q r l w.1 b holds)))
        (λ j q l m b. greater j q b (before_cases r.version q.version r.place q.place (right.order w.0 j r q l m holds b)))
      where
        a : (i : ℕ) × At st i r × (r.place ≡ []) × Lives v r
        a = root_at_lem st v r found

        w : (k : ℕ) × (k < right.many) × (entry st table k ≡ a.0)
        w = right.named a.0 r a.1

        holds : At st (entry st table w.0) r
        holds = subst (λ x. At st x r) (sym w.2) a.1

        at_top : (q : Record) → q.place ≡ [] → same_place q.place [] ≡ true
        at_top q e = ap (λ p. same_place p []) e

        -- an earlier root has ended
        over : (j : ℕ) (q : Record) → At st (entry st table j) q → q.place ≡ [] → q.version < r.version → retired_by v q ≡ true
        over j q b e l =
            is_true (retired_by v q)
            (λ alive.
            let its = root_is v q e (omega (arith, a.3.0), alive) in
            let mine = root_is v r a.2 a.3 in
            let same = same_slot st (entry st table j) a.0 q r b a.1 (one_root leaf_hash inner_hash st sound v kept (entry st table j) a.0 q r b a.1 its mine) in
            let equal = ap (λ (x : Record). x.version) same in
            absurd (omega arith))

        smaller : (j : ℕ) (q : Record) → At st (entry st table j) q → (place_before q.place r.place ≡ true) ⊎ ((q.place ≡ r.place) × (q.version < r.version)) →
            root_look v q ≡ too_small
        smaller j q b (inl h) = absurd (true≢false (sym h ∙ (ap (place_before q.place) a.2 ∙ top_first q.place)))
        smaller j q b (inr h) =
            rw (at_top q (h.0 ∙ a.2), le-ltb v q.version (omega (arith, a.3.0)), over j q b (h.0 ∙ a.2) h.1)

        greater : (j : ℕ) (q : Record) → At st (entry st table j) q → (place_before r.place q.place ≡ true) ⊎ ((r.place ≡ q.place) × (r.version < q.version)) →
            root_look v q ≡ too_great
        greater j q b (inl h) =
            rw (is_false (same_place q.place []) (λ e. true≢false (sym h ∙ (ap (place_before r.place) (same_place_lem q.place [] e) ∙ top_first r.place))))
        greater j q b (inr h) =
            rw (at_top q (sym h.0 ∙ a.2), lt-ltb v q.version (later_above a.0 (entry st table j) q a.1 b a.2 (sym h.0 ∙ a.2) a.3 h.1))
