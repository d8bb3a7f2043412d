-- What a check in few passes has seen is enough for the test of soundness. Assumes nothing.
use Prim.Native.Nat.{ℕ, suc, ◌<◌, ◌≤◌}
use native.Mathlib.Omega.{arith}
use mathlib.Core.Path.{◌≡◌, refl, ap, ap₂, sym, ◌∙◌, subst}
use mathlib.Core.Logic.{◌⊎◌, inl, inr}
use mathlib.Core.Bool.{Bool, true, false, cond, ◌&&◌, ◌||◌, true≢false}
use lib.ListN.{length, get_or}
use mathlib.Core.List.{[]}
use lib.Dec.{eqb, ltb}
use borrow.Author.Tests.{eqb-true, eqb-false, ltb-true, ltb-false}
use Rattle.terms.specs.declared.Form.TheVariants.{Counted as counted}
use Rattle.terms.specs.Bits.{Bytes, Side, left, right, longer}
use Rattle.terms.specs.Records.{Child, Body, leaf_body, inner_body, Tally, count_on, Record, Slot, free, spoiled, Store}
use Rattle.meaning.specs.Store.{find, child_on}
use Rattle.meaning.specs.Sound.{At}
use Rattle.meaning.specs.Local.{ends_before, child_version, weighed, counts_by}
use Rattle.local.specs.Test.{first_kept, life_covered, is_same, holders, names, is_parent, link_on, link_test, child_test, body_test, is_found, counts_test, record_test, slot_test, slots_test}
use Rattle.meaning.proofs.Counts.{tell_counts, no_zero}
use Rattle.meaning.proofs.Finding.{same_record_lem, at_find}
use Rattle.local.proofs.Scans.{at_every}
use Rattle.local.proofs.Records.{slot_elim, each_record, record_total, record_one}
use Rattle.local.proofs.Naming.{names_eq, parent_names}
use Rattle.local.proofs.Says.{itself, equal, at_most, done, next}
use Rattle.local.proofs.Lifetimes.{Lifetime}
use Rattle.local.proofs.Tests.{node_counted, counted_node, counted_once, RootApart, covered_says, counts_say_lem, life_says}
use Rattle.check_seen.specs.Seen.{key_test, Own, Parted, Seen}

-- a life ends after the record's version
pub own_lives : (st : Store) (r : Record) → Own st r → r.version < ends_before st r
unfolding ends_before
own_lives st r o = go (eqb r.retired 0) refl ((life_says st r).passed o.life)
  where
    go : (b : Bool) → eqb r.retired 0 ≡ b → Lifetime st r → r.version < cond b (suc st.latest) r.retired
    go true e l = omega (arith, o.latest)
    go false e (inl z) = absurd (eqb-false r.retired 0 e z)
    go false e (inr l) = l.0

same_tally : {c d : Tally} → c.leftward ≡ d.leftward → c.rightward ≡ d.rightward → c ≡ d
same_tally e f = λ j. record { leftward = e j; rightward = f j }

or_left : (a b : Bool) → a || b ≡ false → a ≡ false
or_left true b h = h
or_left false b h = refl

or_right : (a b : Bool) → a || b ≡ false → b ≡ false
or_right true b h = absurd (true≢false h)
or_right false b h = h

module _ (leaf_hash inner_hash : Bytes → Bytes → Bytes) (st : Store) where
  -- who is no parent says nothing
  unlinked : (r q : Record) → is_parent r q ≡ false → link_test leaf_hash inner_hash st r q ≡ true
  unfolding link_test is_parent
  unlinked r q h = go q.body
    where
      go : (o : Body) → link_on leaf_hash inner_hash left st r q o && link_on leaf_hash inner_hash right st r q o ≡ true
      go (leaf_body k x) = refl
      go (inner_body c d) = rw (or_left (names left q r) (names right q r) h, or_right (names left q r) (names right q r) h)

  module _ (unique : (i j : ℕ) (r q : Record) → At st i r → At st j q → r.version ≡ q.version → r.place ≡ q.place → i ≡ j)
      (parted : Parted st) (seen : (i : ℕ) (r : Record) → At st i r → Seen leaf_hash inner_hash st r) where
    once : (i : ℕ) (r : Record) → At st i r → holders r st.slots ≡ 1
    unfolding holders
    once i r a =
        let most = record_one st (is_same r) (λ j q c. counted_once r q) (λ j k q x c d g h.
        let (e, f) = node_counted r q g in
        let (m, n) = node_counted r x h in
        unique j k q x c d (e ∙ sym m) (f ∙ sym n)) in
        omega (arith, record_total st (is_same r) i r a, counted_node r r refl refl)

    -- what a record's parents say of it: it is the one that each of them was tied to
    linked : (i j : ℕ) (r q : Record) → At st i r → At st j q → link_test leaf_hash inner_hash st r q ≡ true
    linked i j r q a c = go (is_parent r q) refl
      where
        go : (t : Bool) → is_parent r q ≡ t → link_test leaf_hash inner_hash st r q ≡ true
        go false e = unlinked r q e
        go true e =
            let (b, n) = parent_names q r e in
            let (v, p) = names_eq b q r n in
            let (k, x, d, m, ok, told) = ((seen j q c).tied b).0 (omega (arith, v, (seen i r a).own.some)) in
            let (w, o) = names_eq b q x m in
            subst (λ y. link_test leaf_hash inner_hash st y q ≡ true) (same_record_lem st unique k i x r d a (w ∙ sym v) (o ∙ sym p)) ok

    child_found : (j : ℕ) (q : Record) → At st j q → (b : Side) (l m : Child) → q.body ≡ inner_body l m →
        child_test st (longer b q.place) (child_on b l m) ≡ true
    unfolding child_test
    child_found j q c b l m e = go (eqb (child_on b l m).version 0) refl
      where
        go : (t : Bool) → eqb (child_on b l m).version 0 ≡ t → t || is_found (find (child_on b l m).version (longer b q.place) st.slots) ≡ true
        go true h = refl
        go false h =
            let f = eqb-false (child_on b l m).version 0 h in
            let v : child_version b q.body ≡ (child_on b l m).version = ap (child_version b) e in
            let (k, x, d, n, ok, told) = ((seen j q c).tied b).0 (rw v (some_of (child_on b l m).version f)) in
            let (w, o) = names_eq b q x n in
            ap is_found (sym (ap₂ (λ z p. find z p st.slots) (w ∙ v) o) ∙ at_find st unique k x d)
          where
            some_of : (n : ℕ) → (n ≡ 0 → ⊥) → 1 ≤ n
            some_of n f = omega (arith, f)

    bodied : (j : ℕ) (q : Record) → At st j q → body_test st q.place q.body ≡ true
    bodied j q c = go q.body refl (seen j q c).own.key
      where
        go : (o : Body) → q.body ≡ o → key_test q.place o ≡ true → body_test st q.place o ≡ true
        go (leaf_body k x) e h = h
        go (inner_body l m) e h = rw (child_found j q c left l m e, child_found j q c right l m e)

    -- two roots are of one version, or the earlier one ends before the later one begins
    apart : (i j : ℕ) (r q : Record) → At st i r → At st j q → r.place ≡ [] → RootApart st r q
    apart i j r q a c e f = go (ltb r.version q.version) (ltb q.version r.version) refl refl
      where
        go : (s t : Bool) → ltb r.version q.version ≡ s → ltb q.version r.version ≡ t →
            (q.version ≡ r.version) ⊎ ((ends_before st q ≤ first_kept st r) ⊎ (ends_before st r ≤ first_kept st q))
        go true t k l = inr (inr (omega (arith, parted i j r q a c e f (ltb-true _ _ k))))
        go false true k l = inr (inl (omega (arith, parted j i q r c a f e (ltb-true _ _ l))))
        go false false k l = inl (omega (arith, ltb-false r.version q.version k, ltb-false q.version r.version l))

    -- a root by the other roots, another record by its parents
    life_covered_lem : (i : ℕ) (r : Record) → At st i r → life_covered st r ≡ true
    life_covered_lem i r a = (covered_says st r).passes ((λ e j q c. apart i j r q a c e), (seen i r a).covered)

    -- each count is what the record that it was tied to says
    side_weighs : (j : ℕ) (q : Record) → At st j q → (b : Side) (l m : Child) → q.body ≡ inner_body l m → st.form ≡ counted →
        count_on b q.counts ≡ weighed (find (child_on b l m).version (longer b q.place) st.slots)
    side_weighs j q c b l m e f = go (eqb (child_on b l m).version 0) refl
      where
        v : child_version b q.body ≡ (child_on b l m).version
        v = ap (child_version b) e

        some_of : (n : ℕ) → (n ≡ 0 → ⊥) → 1 ≤ n
        some_of n g = omega (arith, g)

        go : (t : Bool) → eqb (child_on b l m).version 0 ≡ t → count_on b q.counts ≡ weighed (find (child_on b l m).version (longer b q.place) st.slots)
        go true h =
            let z = eqb-true (child_on b l m).version 0 h in
            ((seen j q c).tied b).1 (v ∙ z) f
            ∙ sym (ap weighed (ap (λ n. find n (longer b q.place) st.slots) z ∙ no_zero st (λ i r a. (seen i r a).own.some) (longer b q.place)))
        go false h =
            let (k, x, d, n, ok, told) = ((seen j q c).tied b).0 (rw v (some_of (child_on b l m).version (eqb-false (child_on b l m).version 0 h))) in
            let (w, o) = names_eq b q x n in
            told f ∙ sym (ap weighed (sym (ap₂ (λ z p. find z p st.slots) (w ∙ v) o) ∙ at_find st unique k x d))

    counted_right : (j : ℕ) (q : Record) → At st j q → counts_test st q ≡ true
    counted_right j q c = (counts_say_lem st q).passes (tell_counts st.form (λ f. go q.body refl f))
      where
        go : (o : Body) → q.body ≡ o → st.form ≡ counted → q.counts ≡ counts_by st.slots q.place o
        go (leaf_body k x) e f = same_tally (((seen j q c).tied left).1 (ap (child_version left) e) f) (((seen j q c).tied right).1 (ap (child_version right) e) f)
        go (inner_body l m) e f = same_tally (side_weighs j q c left l m e f) (side_weighs j q c right l m e f)

    passed : (i : ℕ) (r : Record) → At st i r → record_test leaf_hash inner_hash st r ≡ true
    unfolding record_test
    passed i r a =
        let s = seen i r a in
        (next (at_most r.version st.latest)
        (next (itself _)
        (next (equal (holders r st.slots) 1)
        (next (itself _)
        (next (each_record st (link_test leaf_hash inner_hash st r) (λ q. link_test leaf_hash inner_hash st r q ≡ true) (λ q. itself (link_test leaf_hash inner_hash st r q)))
        (next (itself _)
        (next (itself _) done))))))).all.passes
        (s.own.latest, (s.own.life, (once i r a, (bodied i r a, ((λ j q c. linked i j r q a c), (life_covered_lem i r a, (counted_right i r a, tt)))))))

    abbrev Passing : Slot → Type 0
    Passing y = slot_test leaf_hash inner_hash st y ≡ true

    -- Where no slot is spoiled, no two records share their node, the roots are parted and each record was seen to be right, the slots pass.
    pub seen_passes : ((i : ℕ) (x : Bytes) → i < length st.slots → get_or st.slots i free ≡ spoiled x → ⊥) → slots_test leaf_hash inner_hash st ≡ true
    unfolding slots_test At
    seen_passes whole =
        at_every (slot_test leaf_hash inner_hash st) st.slots free (λ i l.
        slot_elim Passing (get_or st.slots i free) refl (λ x e. absurd (whole i x l e)) (λ r e. passed i r (l, e)))
