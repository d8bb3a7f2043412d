-- The list of changes as a whole: applied to the first grants it gives the second, the other way round it is the list undone, of equal grants
-- there is none, and at a place where grants part it parts too. By what is said of each key. Assumes nothing.
use Prim.Native.Nat.{ℕ}
use mathlib.Core.Path.{◌≡◌, refl, ap, ap₂, sym, ◌∙◌, subst}
use mathlib.Core.Bool.{Bool, true, false, cond, true≢false}
use mathlib.Core.List.{List, [], ◌∷◌, ◌++◌, map, append-nil, append_assoc, map-append}
use Rattle.terms.specs.Bits.{Bytes, All, filter, before, same_bytes}
use Rattle.terms.specs.Records.{Grant, grant, Ask, insert, delete}
use Rattle.terms.proofs.Tests.{same_bytes_lem, bytes_same, is_false}
use Rattle.terms.proofs.Lists.{filter_append, filter_all, filter_none, all_filter, all_map}
use Rattle.terms.proofs.Order.{before_asym, before_total}
use Rattle.meaning.specs.Tree.{smaller, greater, with_ask, with_batch}
use Rattle.meaning.specs.Reading.{Verdict, present, absent, answer_of}
use Rattle.meaning.proofs.Runs.{Ascending, Ahead, ascending_batch}
use Rattle.changed.specs.Changes.{Change, added, removed, another, change_key, between, changed, undone, items_of, items, ask_of}
use Rattle.changed.specs.Claims.{KeyOrder}
use Rattle.changed.proofs.Parts.{part, same_parts, part_after, answer_filter, answer_after, before_other, after_other, part_changed, changed_order}

-- equal grants, no change
none_between : (k : Bytes) (v : Verdict) → between k v v ≡ []
none_between k absent = refl
none_between k (present x) = rw (bytes_same x)

pub changed_same : (gs : List Grant) → Ascending gs → changed gs gs ≡ []
changed_same gs s =
    same_parts change_key (changed gs gs) [] (changed_order gs gs s s) tt
    (λ k. part_changed k gs gs s s ∙ none_between k (answer_of k gs))

-- the other way round
same_comm : (x y : Bytes) → same_bytes x y ≡ same_bytes y x
same_comm x y = go (same_bytes x y) (same_bytes y x) refl refl
  where
    go : (a b : Bool) → same_bytes x y ≡ a → same_bytes y x ≡ b → a ≡ b
    go true true e f = refl
    go true false e f = sym (ap (same_bytes y) (same_bytes_lem x y e) ∙ bytes_same y) ∙ f
    go false true e f = sym e ∙ ap (same_bytes x) (same_bytes_lem y x f) ∙ bytes_same x
    go false false e f = refl

undone_between : (k : Bytes) (v w : Verdict) → map undone (between k v w) ≡ between k w v
undone_between k absent absent = refl
undone_between k absent (present y) = refl
undone_between k (present x) absent = refl
undone_between k (present x) (present y) = rw (same_comm y x) (go (same_bytes x y))
  where
    go : (b : Bool) → map undone (cond b [] (another k x y ∷ [])) ≡ cond b [] (another k y x ∷ [])
    go true = refl
    go false = refl

undone_key : (c : Change) → change_key (undone c) ≡ change_key c
undone_key (added g) = refl
undone_key (removed g) = refl
undone_key (another k x y) = refl

undone_part : (k : Bytes) (cs : List Change) → part change_key k (map undone cs) ≡ map undone (part change_key k cs)
undone_part k [] = refl
undone_part k (c ∷ cs) = rw (undone_key c, undone_part k cs) (go (same_bytes k (change_key c)))
  where
    go : (b : Bool) → cond b (undone c ∷ map undone (part change_key k cs)) (map undone (part change_key k cs))
        ≡ map undone (cond b (c ∷ part change_key k cs) (part change_key k cs))
    go true = refl
    go false = refl

undone_all : (P : Bytes → Type 0) (cs : List Change) → All (λ c. P (change_key c)) cs → All (λ c. P (change_key c)) (map undone cs)
undone_all P [] a = tt
undone_all P (c ∷ cs) a = (subst P (sym (undone_key c)) a.0, undone_all P cs a.1)

undone_order : (cs : List Change) → KeyOrder change_key cs → KeyOrder change_key (map undone cs)
undone_order [] s = tt
undone_order (c ∷ cs) s = (
  subst (λ k. All (λ d. before k (change_key d) ≡ true) (map undone cs)) (sym (undone_key c)) (undone_all (λ k. before (change_key c) k ≡ true) cs s.0),
  undone_order cs s.1,
)

pub changed_undone : (a b : List Grant) → Ascending a → Ascending b → changed b a ≡ map undone (changed a b)
changed_undone a b s t =
    same_parts change_key (changed b a) (map undone (changed a b)) (changed_order b a t s) (undone_order (changed a b) (changed_order a b s t))
    (λ k.
    part_changed k b a t s
    ∙ sym (undone_between k (answer_of k a) (answer_of k b))
    ∙ ap (map undone) (sym (part_changed k a b s t))
    ∙ sym (undone_part k (changed a b)))

-- grants that say the same of each key are the same
abbrev here : Bytes → Verdict → List Grant
here k absent = []
here k (present x) = grant k x ∷ []

pub grants_order : (gs : List Grant) → Ascending gs → KeyOrder (λ (g : Grant). g.key) gs
grants_order [] s = tt
grants_order (g ∷ gs) s = (s.0, grants_order gs s.1)

part_grants : (k : Bytes) (gs : List Grant) → Ascending gs → part (λ (g : Grant). g.key) k gs ≡ here k (answer_of k gs)
part_grants k [] s = refl
part_grants k (g ∷ gs) s = go (same_bytes k g.key) refl (part_grants k gs s.1)
  where
    go : (b : Bool) → same_bytes k g.key ≡ b → part (λ (h : Grant). h.key) k gs ≡ here k (answer_of k gs) →
        cond b (g ∷ part (λ (h : Grant). h.key) k gs) (part (λ (h : Grant). h.key) k gs) ≡ here k (cond b (present g.value) (answer_of k gs))
    go true e ih =
        let same : k ≡ g.key = same_bytes_lem k g.key e in
        ap₂ ◌∷◌ (ap (λ j. grant j g.value) (sym same))
        (part_after (λ (h : Grant). h.key) k gs (subst (λ j. All (λ h. before j h.key ≡ true) gs) (sym same) s.0))
    go false e ih = ih

pub same_answers : (xs ys : List Grant) → Ascending xs → Ascending ys → ((k : Bytes) → answer_of k xs ≡ answer_of k ys) → xs ≡ ys
same_answers xs ys s t f =
    same_parts (λ (g : Grant). g.key) xs ys (grants_order xs s) (grants_order ys t)
    (λ k. part_grants k xs s ∙ ap (here k) (f k) ∙ sym (part_grants k ys t))

-- what is said of a key after an ask
abbrev or_else : Verdict → Verdict → Verdict
or_else absent w = w
or_else (present x) w = present x

pub answer_append : (k : Bytes) (xs ys : List Grant) → answer_of k (xs ++ ys) ≡ or_else (answer_of k xs) (answer_of k ys)
answer_append k [] ys = refl
answer_append k (x ∷ xs) ys = rw (answer_append k xs ys) (go (same_bytes k x.key))
  where
    go : (b : Bool) → cond b (present x.value) (or_else (answer_of k xs) (answer_of k ys))
        ≡ or_else (cond b (present x.value) (answer_of k xs)) (answer_of k ys)
    go true = refl
    go false = refl

or_absent : (v : Verdict) → or_else v absent ≡ v
or_absent absent = refl
or_absent (present x) = refl

answer_at : (k j : Bytes) (w : Verdict) (ys : List Grant) (gs : List Grant) →
    answer_of k ys ≡ cond (same_bytes k j) w (cond (before j k) (answer_of k gs) absent) →
    answer_of k (smaller j gs ++ ys) ≡ cond (same_bytes k j) w (answer_of k gs)
unfolding smaller
answer_at k j w ys gs e =
    answer_append k (smaller j gs) ys
    ∙ ap₂ or_else (answer_filter (λ i. before i j) k gs) e
    ∙ go (before k j) (before j k) refl refl
  where
    go : (x y : Bool) → before k j ≡ x → before j k ≡ y →
        or_else (cond x (answer_of k gs) absent) (cond (same_bytes k j) w (cond y (answer_of k gs) absent)) ≡ cond (same_bytes k j) w (answer_of k gs)
    go true y p q = rw (before_other k j p, sym q ∙ before_asym k j p) (or_absent (answer_of k gs))
    go false true p q = rw (after_other k j q)
    go false false p q = rw (ap (same_bytes k) (sym (before_total k j p q)) ∙ bytes_same k)

answer_insert : (k j x : Bytes) (gs : List Grant) → answer_of k (with_ask (insert j x) gs) ≡ cond (same_bytes k j) (present x) (answer_of k gs)
unfolding greater
answer_insert k j x gs =
    answer_at k j (present x) (grant j x ∷ greater j gs) gs (ap (cond (same_bytes k j) (present x)) (answer_filter (before j) k gs))

answer_delete : (k j : Bytes) (gs : List Grant) → answer_of k (with_ask (delete j) gs) ≡ cond (same_bytes k j) absent (answer_of k gs)
unfolding greater
answer_delete k j gs = answer_at k j absent (greater j gs) gs (answer_filter (before j) k gs ∙ go (before j k) (same_bytes k j) refl refl)
  where
    go : (x y : Bool) → before j k ≡ x → same_bytes k j ≡ y → cond x (answer_of k gs) absent ≡ cond y absent (cond x (answer_of k gs) absent)
    go true true e f = absurd (true≢false (sym f ∙ after_other k j e))
    go true false e f = refl
    go false true e f = refl
    go false false e f = refl

-- what the part of a list that speaks of a key makes of it
abbrev told : Change → Verdict
told (added g) = present g.value
told (removed g) = absent
told (another k x y) = present y

abbrev effect : List Change → Verdict → Verdict
effect [] v = v
effect (c ∷ cs) v = effect cs (told c)

effect_between : (k : Bytes) (v w : Verdict) → effect (between k v w) v ≡ w
effect_between k absent absent = refl
effect_between k absent (present y) = refl
effect_between k (present x) absent = refl
effect_between k (present x) (present y) = go (same_bytes x y) refl
  where
    go : (b : Bool) → same_bytes x y ≡ b → effect (cond b [] (another k x y ∷ [])) (present x) ≡ present y
    go true e = ap present (same_bytes_lem x y e)
    go false e = refl

answer_change : (k : Bytes) (c : Change) (gs : List Grant) →
    answer_of k (with_batch (map ask_of (items_of c)) gs) ≡ cond (same_bytes k (change_key c)) (told c) (answer_of k gs)
answer_change k (added g) gs = answer_insert k g.key g.value gs
answer_change k (removed g) gs = answer_delete k g.key gs
answer_change k (another j x y) gs =
    answer_insert k j y (with_ask (delete j) gs) ∙ ap (cond (same_bytes k j) (present y)) (answer_delete k j gs) ∙ go (same_bytes k j)
  where
    go : (b : Bool) → cond b (present y) (cond b absent (answer_of k gs)) ≡ cond b (present y) (answer_of k gs)
    go true = refl
    go false = refl

batch_append : (xs ys : List Ask) (gs : List Grant) → with_batch (xs ++ ys) gs ≡ with_batch ys (with_batch xs gs)
batch_append [] ys gs = refl
batch_append (x ∷ xs) ys gs = batch_append xs ys (with_ask x gs)

answer_list : (k : Bytes) (cs : List Change) (gs : List Grant) →
    answer_of k (with_batch (map ask_of (items cs)) gs) ≡ effect (part change_key k cs) (answer_of k gs)
answer_list k [] gs = refl
answer_list k (c ∷ cs) gs =
    ap (λ as'. answer_of k (with_batch as' gs)) (map-append ask_of (items_of c) (items cs))
    ∙ ap (answer_of k) (batch_append (map ask_of (items_of c)) (map ask_of (items cs)) gs)
    ∙ answer_list k cs (with_batch (map ask_of (items_of c)) gs)
    ∙ ap (effect (part change_key k cs)) (answer_change k c gs)
    ∙ go (same_bytes k (change_key c))
  where
    go : (b : Bool) → effect (part change_key k cs) (cond b (told c) (answer_of k gs))
        ≡ effect (cond b (c ∷ part change_key k cs) (part change_key k cs)) (answer_of k gs)
    go true = refl
    go false = refl

pub changed_applied : (a b : List Grant) → Ascending a → Ascending b → with_batch (map ask_of (items (changed a b))) a ≡ b
changed_applied a b s t =
    same_answers (with_batch (map ask_of (items (changed a b))) a) b (ascending_batch (map ask_of (items (changed a b))) a s) t
    (λ k.
    answer_list k (changed a b) a
    ∙ ap (λ cs. effect cs (answer_of k a)) (part_changed k a b s t)
    ∙ effect_between k (answer_of k a) (answer_of k b))

-- where grants part: all keys of the one side before all of the other
abbrev pub Under : List Grant → List Grant → Type 0
Under xs ys = All (λ g. All (Ahead g) ys) xs

answer_below : (k : Bytes) (gs : List Grant) → All (λ g. before g.key k ≡ true) gs → answer_of k gs ≡ absent
answer_below k [] a = refl
answer_below k (g ∷ gs) a = rw (after_other k g.key a.0) (answer_below k gs a.1)

-- up to the first of the other side, all keys are added
changed_front : (xs ys zs : List Grant) → Under xs ys → changed ys (xs ++ zs) ≡ map added xs ++ changed ys zs
unfolding smaller greater
changed_front xs [] zs u = map-append added xs zs
changed_front xs (g ∷ gs) zs u =
    let k = g.key in
    let under : All (λ x. before x.key k ≡ true) xs = all_map _ _ xs (λ x a. a.0) u in
    let least : smaller k (xs ++ zs) ≡ xs ++ smaller k zs =
    filter_append _ xs zs ∙ ap (◌++ smaller k zs) (filter_all _ xs under) in
    let most : greater k (xs ++ zs) ≡ greater k zs =
    filter_append _ xs zs ∙ ap (◌++ greater k zs) (filter_none _ xs (all_map _ _ xs (λ x l. before_asym x.key k l) under)) in
    let said : answer_of k (xs ++ zs) ≡ answer_of k zs = answer_append k xs zs ∙ ap (λ v. or_else v (answer_of k zs)) (answer_below k xs under) in
    ap₂ ◌++◌ (ap (map added) least ∙ map-append added xs (smaller k zs))
    (ap₂ ◌++◌ (ap (between k (present g.value)) said) (ap (changed gs) most))
    ∙ append_assoc (map added xs) (map added (smaller k zs)) _

pub changed_sides : (xs ys zs ws : List Grant) → Under xs ws → Under zs ys →
    changed (xs ++ ys) (zs ++ ws) ≡ changed xs zs ++ changed ys ws
unfolding smaller greater
changed_sides [] ys zs ws b c = changed_front zs ys ws c
changed_sides (g ∷ gs) ys zs ws b c =
    let k = g.key in
    let least : smaller k (zs ++ ws) ≡ smaller k zs =
    filter_append _ zs ws ∙ ap (smaller k zs ++◌) (filter_none _ ws (all_map _ _ ws (λ w l. before_asym k w.key l) b.0)) ∙ append-nil _ in
    let most : greater k (zs ++ ws) ≡ greater k zs ++ ws =
    filter_append _ zs ws ∙ ap (greater k zs ++◌) (filter_all _ ws b.0) in
    let said : answer_of k (zs ++ ws) ≡ answer_of k zs =
    answer_append k zs ws ∙ ap (or_else (answer_of k zs)) (answer_after k ws b.0) ∙ or_absent (answer_of k zs) in
    let on = changed_sides gs ys (greater k zs) ws b.1 (all_filter _ _ zs c) in
    ap₂ ◌++◌ (ap (map added) least) (ap₂ ◌++◌ (ap (between k (present g.value)) said) (ap (changed (gs ++ ys)) most ∙ on))
    ∙ ap (map added (smaller k zs) ++◌) (sym (append_assoc (between k (present g.value) (answer_of k zs)) _ _))
    ∙ sym (append_assoc (map added (smaller k zs)) _ _)
