-- An ask that changes no grant may be left out of a batch: it splits the grants at its key and puts back what stood there, and asks for
-- other keys leave its key alone. A batch of nothing else makes a new root only. Assumes nothing.
use Prim.Native.Nat.{ℕ}
use native.Mathlib.Omega.{arith}
use mathlib.Core.Path.{◌≡◌, refl, ap, sym, ◌∙◌, subst}
use mathlib.Core.Bool.{Bool, true, false, cond, true≢false}
use mathlib.Core.List.{List, [], ◌∷◌, ◌++◌}
use Rattle.terms.specs.Bits.{Bytes, All, filter, before, same_bytes}
use Rattle.terms.specs.Records.{Grant, grant, Ask, insert, delete, ask_key}
use Rattle.terms.proofs.Tests.{and_left, and_right, same_bytes_lem, bytes_same, is_false}
use Rattle.terms.proofs.Lists.{filter_all, filter_none, all_map}
use Rattle.terms.proofs.Order.{before_trans, before_irrefl, before_asym, before_total}
use Rattle.meaning.specs.Tree.{smaller, greater, with_ask, with_batch, tree_of, VTree, unversioned, grants_in, versioned, new_root, next_tree}
use Rattle.meaning.specs.Calls.{ascending}
use Rattle.meaning.specs.Reading.{present, absent, answer_of}
use Rattle.meaning.proofs.Runs.{Ascending, Ahead, split_key, ascending_ask}
use Rattle.meaning.proofs.Versions.{versioned_same}
use Rattle.meaning.proofs.Shaped.{Shaped, shaped_ascending, shaped_tree_of}
use Rattle.histories.specs.Claims.{NoChange}

not_present : {A : Type 0} {x : Bytes} → absent ≡ present x → A
not_present e = let z : ◌≡◌ {A = ℕ} 0 1 = cc in absurd (omega arith)

-- a key that has no grant is none of the keys
absent_others : (k : Bytes) (gs : List Grant) → answer_of k gs ≡ absent → All (λ g. g.key ≡ k → ⊥) gs
absent_others k [] h = tt
absent_others k (g ∷ gs) h = go (same_bytes k g.key) refl h (λ i. absent_others k gs i)
  where
    go : (b : Bool) → same_bytes k g.key ≡ b → cond b (present g.value) (answer_of k gs) ≡ absent →
        (answer_of k gs ≡ absent → All (λ h. h.key ≡ k → ⊥) gs) → All (λ h. h.key ≡ k → ⊥) (g ∷ gs)
    go true e i ih = not_present (sym i)
    go false e i ih = (λ q. true≢false (sym (bytes_same k) ∙ ap (same_bytes k) (sym q) ∙ e), ih i)

-- what holds of each key holds of one that has a grant
present_key : (P : Bytes → Type 0) (k x : Bytes) (gs : List Grant) → answer_of k gs ≡ present x → All (λ g. P g.key) gs → P k
present_key P k x [] h a = not_present h
present_key P k x (g ∷ gs) h a = go (same_bytes k g.key) refl h (λ i. present_key P k x gs i a.1)
  where
    go : (b : Bool) → same_bytes k g.key ≡ b → cond b (present g.value) (answer_of k gs) ≡ present x →
        (answer_of k gs ≡ present x → P k) → P k
    go true e i ih = subst P (sym (same_bytes_lem k g.key e)) a.0
    go false e i ih = ih i

present_eq : (x y : Bytes) → present x ≡ present y → x ≡ y
present_eq x y e = cc

-- the key of the first grant, and that of a later one
first_same : (k x : Bytes) (g : Grant) (gs : List Grant) → All (Ahead g) gs → g.key ≡ k → g.value ≡ x →
    smaller k (g ∷ gs) ++ grant k x ∷ greater k (g ∷ gs) ≡ g ∷ gs
unfolding smaller greater
first_same k x g gs s e f =
    let none : before k k ≡ false = is_false (before k k) (before_irrefl k) in
    let up : All (λ h. before k h.key ≡ true) gs = subst (λ y. All (λ h. before y h.key ≡ true) gs) e s in
    let down : All (λ h. before h.key k ≡ false) gs = all_map _ _ gs (λ h l. before_asym k h.key l) up in
    rw (e, f, none, filter_all (λ h. before k h.key) gs up, filter_none (λ h. before h.key k) gs down)

later_same : (k x : Bytes) (g : Grant) (gs : List Grant) → before g.key k ≡ true → smaller k gs ++ grant k x ∷ greater k gs ≡ gs →
    smaller k (g ∷ gs) ++ grant k x ∷ greater k (g ∷ gs) ≡ g ∷ gs
unfolding smaller greater
later_same k x g gs l h = rw (l, before_asym g.key k l) (ap (g ∷◌) h)

present_same : (k x : Bytes) (gs : List Grant) → Ascending gs → answer_of k gs ≡ present x → smaller k gs ++ grant k x ∷ greater k gs ≡ gs
present_same k x [] s h = not_present h
present_same k x (g ∷ gs) s h = go (same_bytes k g.key) refl h (λ i. present_same k x gs s.1 i)
  where
    go : (b : Bool) → same_bytes k g.key ≡ b → cond b (present g.value) (answer_of k gs) ≡ present x →
        (answer_of k gs ≡ present x → smaller k gs ++ grant k x ∷ greater k gs ≡ gs) →
        smaller k (g ∷ gs) ++ grant k x ∷ greater k (g ∷ gs) ≡ g ∷ gs
    go true e i ih = first_same k x g gs s.0 (sym (same_bytes_lem k g.key e)) (present_eq g.value x i)
    go false e i ih = later_same k x g gs (present_key (λ y. before g.key y ≡ true) k x gs i s.0) (ih i)

-- an ask that is no change leaves the grants
ask_same : (a : Ask) (gs : List Grant) → Ascending gs → NoChange gs a → with_ask a gs ≡ gs
ask_same (insert k x) gs s h = present_same k x gs s h
ask_same (delete k) gs s h = split_key k gs s (absent_others k gs h)

-- an ask says nothing of another key

other_false : (k j : Bytes) → (j ≡ k → ⊥) → same_bytes k j ≡ false
other_false k j n = is_false (same_bytes k j) (λ e. n (sym (same_bytes_lem k j e)))

answer_past : (k j x : Bytes) → (j ≡ k → ⊥) → (gs hs : List Grant) → answer_of k (gs ++ grant j x ∷ hs) ≡ answer_of k (gs ++ hs)
answer_past k j x n [] hs = rw (other_false k j n)
answer_past k j x n (g ∷ gs) hs = ap (cond (same_bytes k g.key) (present g.value)) (answer_past k j x n gs hs)

answer_split : (k j : Bytes) → (j ≡ k → ⊥) → (gs : List Grant) → Ascending gs → answer_of k (smaller j gs ++ greater j gs) ≡ answer_of k gs
unfolding smaller greater
answer_split k j n [] s = refl
answer_split k j n (g ∷ gs) s = go (before g.key j) (before j g.key) refl refl (answer_split k j n gs s.1)
  where
    after : All (λ h. before j h.key ≡ true) gs → filter (λ h. before h.key j) gs ≡ []
    after up = filter_none (λ h. before h.key j) gs (all_map _ _ gs (λ h l. before_asym j h.key l) up)

    go : (a b : Bool) → before g.key j ≡ a → before j g.key ≡ b → answer_of k (smaller j gs ++ greater j gs) ≡ answer_of k gs →
        answer_of k (smaller j (g ∷ gs) ++ greater j (g ∷ gs)) ≡ answer_of k (g ∷ gs)
    go true b e f ih = rw (e, before_asym g.key j e) (ap (cond (same_bytes k g.key) (present g.value)) ih)
    go false true e f ih =
        let up : All (λ h. before j h.key ≡ true) gs = all_map (Ahead g) _ gs (λ h l. before_trans j g.key h.key f l) s.0 in
        rw (e, f, after up, filter_all (λ h. before j h.key) gs up)
    go false false e f ih =
        let same : g.key ≡ j = before_total g.key j e f in
        let up : All (λ h. before j h.key ≡ true) gs = subst (λ y. All (λ h. before y h.key ≡ true) gs) same s.0 in
        rw (e, f, after up, filter_all (λ h. before j h.key) gs up, other_false k g.key (λ q. n (sym same ∙ q)))

answer_other : (a : Ask) (k : Bytes) → (ask_key a ≡ k → ⊥) → (gs : List Grant) → Ascending gs → answer_of k (with_ask a gs) ≡ answer_of k gs
answer_other (insert j x) k n gs s = answer_past k j x n (smaller j gs) (greater j gs) ∙ answer_split k j n gs s
answer_other (delete j) k n gs s = answer_split k j n gs s

-- so an ask that is no change stays so after asks for other keys
still_same : (a b : Ask) → (ask_key a ≡ ask_key b → ⊥) → (gs : List Grant) → Ascending gs → NoChange gs b → NoChange (with_ask a gs) b
still_same a (insert k x) n gs s h = answer_other a k n gs s ∙ h
still_same a (delete k) n gs s h = answer_other a k n gs s ∙ h

-- in an ascending batch an ask comes before all that follow it
ascending_rest : (a : Ask) (rest : List Ask) → ascending (a ∷ rest) ≡ true → ascending rest ≡ true
ascending_rest a [] h = refl
ascending_rest a (b ∷ rest) h = and_right (before (ask_key a) (ask_key b)) (ascending (b ∷ rest)) h

ascending_before : (a : Ask) (xs : List Ask) (b : Ask) (ys : List Ask) → ascending (a ∷ (xs ++ b ∷ ys)) ≡ true →
    before (ask_key a) (ask_key b) ≡ true
ascending_before a [] b ys h = and_left (before (ask_key a) (ask_key b)) (ascending (b ∷ ys)) h
ascending_before a (x ∷ xs) b ys h =
    before_trans (ask_key a) (ask_key x) (ask_key b) (and_left (before (ask_key a) (ask_key x)) (ascending (x ∷ (xs ++ b ∷ ys))) h)
    (ascending_before x xs b ys (ascending_rest a (x ∷ (xs ++ b ∷ ys)) h))

-- an ask that is no change may be left out of a batch
without_ask : (xs : List Ask) (a : Ask) (ys : List Ask) (gs : List Grant) → Ascending gs → ascending (xs ++ a ∷ ys) ≡ true → NoChange gs a →
    with_batch (xs ++ a ∷ ys) gs ≡ with_batch (xs ++ ys) gs
without_ask [] a ys gs s o h = ap (with_batch ys) (ask_same a gs s h)
without_ask (x ∷ xs) a ys gs s o h =
    let first = ascending_before x xs a ys o in
    let other : ask_key x ≡ ask_key a → ⊥ = λ e. before_irrefl (ask_key a) (subst (λ k. before k (ask_key a) ≡ true) e first) in
    without_ask xs a ys (with_ask x gs) (ascending_ask x gs s) (ascending_rest x (xs ++ a ∷ ys) o) (still_same x a other gs s h)

pub unchanged_without : (new : ℕ) (old : VTree) (xs : List Ask) (a : Ask) (ys : List Ask) → Shaped [] (unversioned old) →
    ascending (xs ++ a ∷ ys) ≡ true → NoChange (grants_in old) a → next_tree new old (xs ++ a ∷ ys) ≡ next_tree new old (xs ++ ys)
unfolding next_tree
unchanged_without new old xs a ys s o h =
    ap (λ gs. new_root new (versioned new old (tree_of gs)))
    (without_ask xs a ys (grants_in old) (shaped_ascending [] (unversioned old) s) o h)

-- a batch of nothing else makes a new root only
pub batch_same : (batch : List Ask) (gs : List Grant) → Ascending gs → All (NoChange gs) batch → with_batch batch gs ≡ gs
batch_same [] gs s h = refl
batch_same (a ∷ batch) gs s h = ap (with_batch batch) (ask_same a gs s h.0) ∙ batch_same batch gs s h.1

pub unchanged_tree : (new : ℕ) (old : VTree) (batch : List Ask) → Shaped [] (unversioned old) → All (NoChange (grants_in old)) batch →
    next_tree new old batch ≡ new_root new old
unfolding next_tree
unchanged_tree new old batch s h =
    ap (new_root new)
    (ap (λ gs. versioned new old (tree_of gs)) (batch_same batch (grants_in old) (shaped_ascending [] (unversioned old) s) h)
    ∙ ap (versioned new old) (sym (shaped_tree_of (unversioned old) s))
    ∙ versioned_same new old)
