-- Reads by a table: whatever it holds, what is found differs from the plain scan's only where two slots match, so a sound store is read as by the scan.
-- Assumes nothing.
use Prim.Native.Nat.{ℕ, zero, suc, ◌+◌, ◌/◌}
use native.Mathlib.Omega.{arith}
use mathlib.Core.Path.{◌≡◌, refl, ap, ap₂, sym, ◌∙◌, subst, fun_ext}
use mathlib.Core.Logic.{◌↔◌}
use mathlib.Core.Bool.{Bool, true, false, cond, true≢false}
use mathlib.Core.List.{List, [], ◌∷◌}
use mathlib.Core.Option.{Option, none, some}
use lib.ListN.{length, get_or, get_or-eq_default}
use lib.Dec.{eqb, ltb}
use Rattle.terms.specs.Bits.{Bytes, Side, Place, longer}
use Rattle.terms.specs.Records.{Grant, Child, Record, Slot, free, Store}
use Rattle.meaning.specs.Store.{is_node, is_root, lowest, root_of}
use Rattle.meaning.specs.Sight.{Sight, matches, nothing, spoilt, Looking, root_sight, node_sight, scan}
use Rattle.meaning.specs.Reading.{Seen, gap, stopped_by, lost_record, refusal_of, seen_child, seen_at, seen_root, seen}
use Rattle.meaning.specs.Sound.{At, Kept, Sound}
use Rattle.meaning.specs.Calls.{Answer, refused}
use Rattle.meaning.specs.Counting.{weight, number_at, at_body, at_sight, descend, position_at}
use Rattle.meaning.proofs.Finding.{Lowest, miss, hit, lowest_is, same_slot, is_node_eq, found_in}
use Rattle.meaning.proofs.Roots.{is_root_lem, top_root, root_at_lem}
use Rattle.meaning.proofs.Sights.{root_sighted, node_sighted, sighted_root, sighted_node}
use Rattle.indexed.specs.Index.{Look, too_great, look_at, node_look, root_look, onwards, search_from, search, or_scan, root_by, node_by, by_table}
use Rattle.indexed.proofs.Searching.{search_ends, node_met, root_met}

module _ (st : Store) where
  -- At most one slot in form passes a test.
  abbrev pub OneMatch : (Record → Bool) → Type 0
  OneMatch test = (i j : ℕ) (q r : Record) → At st i q → At st j r → test q ≡ true → test r ≡ true → i ≡ j

  -- where one slot at most matches, it is the one that the scan finds
  only_found : (test : Record → Bool) → OneMatch test → (i : ℕ) (r : Record) → At st i r → test r ≡ true → lowest test st.slots ≡ some r
  unfolding At
  only_found test one i r a t = go _ (lowest_is test st.slots)
    where
      go : (o : Option Record) → Lowest st.slots test o → o ≡ some r
      go none (miss f) = absurd (true≢false (sym t ∙ f i r a.0 a.1))
      go (some q) (hit j q' l e n) = ap some (same_slot st j i q' r (l, e) a (one j i q' r (l, e) a n t))

  module _ (table : List ℕ) (v : ℕ) where
    -- A node is found as by the scan where at most one slot matches.
    pub node_as_by_scan : (p : Place) → OneMatch (is_node v p) → node_by table st v p ≡ node_sight st v p
    unfolding node_by search At
    node_as_by_scan p one = go _ refl
      where
        go : (o : Option Record) → search (node_look v p) table st.slots ≡ o → or_scan o (node_sight st v p) ≡ node_sight st v p
        go none e = refl
        go (some r) e =
            let w = search_ends (node_look v p) (λ q x m. (node_met v p q x m).0) st.slots (length st.slots) table 0 (length st.slots) r e in
            sym (node_sighted st v p r (only_found (is_node v p) one w.slot r (w.inside, w.holds) (node_met v p r r w.met).1))

    -- So is the root of a version.
    pub root_as_by_scan : OneMatch (is_root v) → root_by table st v ≡ root_sight st v
    unfolding root_by search At root_of
    root_as_by_scan one = go _ refl
      where
        go : (o : Option Record) → search (root_look v) table st.slots ≡ o → or_scan o (root_sight st v) ≡ root_sight st v
        go none e = refl
        go (some r) e =
            let w = search_ends (root_look v) (λ q x m. (root_met v q x m).0) st.slots (length st.slots) table 0 (length st.slots) r e in
            sym (root_sighted st v r (only_found (is_root v) one w.slot r (w.inside, w.holds) (root_met v r r w.met).1))

-- By a table without entries, which names no slot, what is found is what the scan finds.
nothing_named : (look : Record → Look) (s : List Slot) → look_at look (get_or s (length s) free) ≡ too_great
nothing_named look s = ap (λ x. look_at look x) (get_or-eq_default s free (omega arith))

nowhere : (look : Record → Look) (s : List Slot) (n lo hi : ℕ) → search_from n look [] s lo hi ≡ none
nowhere look s zero lo hi = refl
nowhere look s (suc n) lo hi = go (ltb lo hi) _ _ (nowhere look s n lo ((lo + hi) / 2))
  where
    go : (b : Bool) (up down : Option Record) → down ≡ none → cond b (onwards (look_at look (get_or s (length s) free)) up down) none ≡ none
    go true up down e = ap (λ x. onwards x up down) (nothing_named look s) ∙ e
    go false up down e = refl

-- so no search ends on a slot
pub search_nowhere : (look : Record → Look) (table : List ℕ) (s : List Slot) → length table ≡ 0 → search look table s ≡ none
unfolding search
search_nowhere look [] s e = nowhere look s (length s) 0 (length s)
search_nowhere look (x ∷ table) s e = absurd (omega arith)

module _ (st : Store) (v : ℕ) where
  pub node_without_table : (p : Place) → node_by [] st v p ≡ node_sight st v p
  unfolding node_by search
  node_without_table p = ap (λ o. or_scan o (node_sight st v p)) (nowhere (node_look v p) st.slots (length st.slots) 0 (length st.slots))

  pub root_without_table : root_by [] st v ≡ root_sight st v
  unfolding root_by search
  root_without_table = ap (λ o. or_scan o (root_sight st v)) (nowhere (root_look v) st.slots (length st.slots) 0 (length st.slots))

-- The empty table is the scan.
pub without_table : (st : Store) → by_table [] st ≡ scan st
without_table st =
    ap₂ looking (fun_ext (λ v. root_without_table st v)) (fun_ext (λ v. fun_ext (λ p. node_without_table st v p)))
  where
    looking : (ℕ → Sight) → (ℕ → Place → Sight) → Looking
    looking f g = record { root = f; node = g }

-- a descent by counts goes by what is found at nodes alone
pub descend_alike : (n : ℕ) (look look' : Looking) → look.node ≡ look'.node → (p : Place) (c : Child) (i : ℕ) → descend n look p c i ≡ descend n look' p c i
descend_alike zero look look' e p c i =
    ap (λ (f : ℕ → Place → Sight). cond (eqb c.version 0) (refused 3) (at_sight p (f c.version p) i (λ b d j. refused (refusal_of lost_record)))) e
descend_alike (suc n) look look' e p c i =
    ap₂ (λ (f : ℕ → Place → Sight) (g : Side → Child → ℕ → Answer Grant). cond (eqb c.version 0) (refused 3) (at_sight p (f c.version p) i g)) e
    (fun_ext (λ b. fun_ext (λ d. fun_ext (λ j. descend_alike n look look' e (longer b p) d j))))

-- what is seen below a root depends on how nodes are found alone
pub seen_at_alike : (n : ℕ) (a b : Looking) → a.node ≡ b.node → (p : Place) (c : Child) → seen_at n a p c ≡ seen_at n b p c
seen_at_alike zero a b e p c =
    ap (λ (f : ℕ → Place → Sight). cond (eqb c.version 0) gap (seen_child p (f c.version p) (λ b d. stopped_by lost_record))) e
seen_at_alike (suc n) a b e p c =
    ap₂ (λ (f : ℕ → Place → Sight) (kid : Side → Child → Seen). cond (eqb c.version 0) gap (seen_child p (f c.version p) kid)) e
    (fun_ext (λ s. fun_ext (λ d. seen_at_alike n a b e (longer s p) d)))

-- What is found by a table stands in a slot in form and is the node, or the root, that is sought.
module _ (st : Store) (table : List ℕ) (v : ℕ) where
  pub node_found_at : (p : Place) (r : Record) → node_by table st v p ≡ matches r → r.place ≡ p
  unfolding node_by search
  node_found_at p r e = go _ refl e
    where
      go : (o : Option Record) → search (node_look v p) table st.slots ≡ o → or_scan o (node_sight st v p) ≡ matches r → r.place ≡ p
      go none f h = (found_in st.slots v p r (sighted_node st v p r h)).3
      go (some q) f h =
          let w = search_ends (node_look v p) (λ q x m. (node_met v p q x m).0) st.slots (length st.slots) table 0 (length st.slots) q f in
          let same : q ≡ r = cc in
          sym (ap (λ (x : Record). x.place) same) ∙ (is_node_eq v p q (node_met v p q q w.met).1).1

  pub root_found_at : (r : Record) → root_by table st v ≡ matches r → r.place ≡ []
  unfolding root_by search
  root_found_at r e = go _ refl e
    where
      go : (o : Option Record) → search (root_look v) table st.slots ≡ o → or_scan o (root_sight st v) ≡ matches r → r.place ≡ []
      go none f h = (root_at_lem st v r (sighted_root st v r h)).2
      go (some q) f h =
          let w = search_ends (root_look v) (λ q x m. (root_met v q x m).0) st.slots (length st.slots) table 0 (length st.slots) q f in
          let same : q ≡ r = cc in
          sym (ap (λ (x : Record). x.place) same) ∙ (is_root_lem v q (root_met v q q w.met).1).0

module _ (leaf_hash inner_hash : Bytes → Bytes → Bytes) (st : Store) (sound : Sound leaf_hash inner_hash st) where
  pub one_node : (v : ℕ) (p : Place) → OneMatch st (is_node v p)
  one_node v p i j q r a b e f =
      let x = is_node_eq v p q e in
      let y = is_node_eq v p r f in
      sound.unique i j q r a b (x.0 ∙ sym y.0) (x.1 ∙ sym y.1)

  pub one_root : (v : ℕ) → Kept st v → OneMatch st (is_root v)
  one_root v kept i j q r a b e f =
      let x = is_root_lem v q e in
      let y = is_root_lem v r f in
      let u = top_root st v sound.unique i q a x.0 ((sound.exact v kept i q a).1 x.1) in
      let w = top_root st v sound.unique j r b y.0 ((sound.exact v kept j r b).1 y.1) in
      let same : q ≡ r = let s : some q ≡ some r = sym u ∙ w in cc in
      sound.unique i j q r a b (ap (λ (z : Record). z.version) same) (ap (λ (z : Record). z.place) same)

  -- A sound store is read by any table as by the scan, at each kept version: the root, and all that is seen from it.
  pub sound_root_as_by_scan : (table : List ℕ) (v : ℕ) → Kept st v → (by_table table st).root v ≡ (scan st).root v
  sound_root_as_by_scan table v kept = root_as_by_scan st table v (one_root v kept)

  pub sound_seen_as_by_scan : (table : List ℕ) (v : ℕ) → Kept st v → seen (by_table table st) v ≡ seen (scan st) v
  unfolding seen
  sound_seen_as_by_scan table v kept =
      ap₂ seen_root (root_as_by_scan st table v (one_root v kept))
      (fun_ext (λ b. fun_ext (λ d. seen_at_alike 255 (by_table table st) (scan st)
      (fun_ext (λ w. fun_ext (λ p. node_as_by_scan st table w p (one_node w p)))) (b ∷ []) d)))

  -- The number of grants and the grant at a position too.
  pub sound_number_as_by_scan : (table : List ℕ) (v : ℕ) → Kept st v → number_at ((by_table table st).root v) ≡ number_at ((scan st).root v)
  sound_number_as_by_scan table v kept = ap number_at (root_as_by_scan st table v (one_root v kept))

  pub sound_position_as_by_scan : (table : List ℕ) (v i : ℕ) → Kept st v →
      position_at (by_table table st) ((by_table table st).root v) i ≡ position_at (scan st) ((scan st).root v) i
  sound_position_as_by_scan table v i kept =
      ap (λ x. position_at (by_table table st) x i) (root_as_by_scan st table v (one_root v kept)) ∙ go ((scan st).root v)
    where
      go : (x : Sight) → position_at (by_table table st) x i ≡ position_at (scan st) x i
      go (matches r) =
          ap (λ (f : Side → Child → ℕ → Answer Grant). cond (ltb i (weight r)) (at_body [] r.body r.counts i f) (refused 20))
          (fun_ext (λ b. fun_ext (λ d. fun_ext (λ j. descend_alike 255 (by_table table st) (scan st)
          (fun_ext (λ w. fun_ext (λ p. node_as_by_scan st table w p (one_node w p)))) (b ∷ []) d j))))
      go nothing = refl
      go (spoilt s) = refl
