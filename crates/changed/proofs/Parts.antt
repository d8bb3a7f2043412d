-- Lists in key order by what they say of each key: two that say the same of every key are one. What the list of changes says of a key is what
-- became of it, so the list holds exactly what changed, in key order, each key once. Assumes nothing.
use Prim.Native.Nat.{ℕ}
use native.Mathlib.Omega.{arith}
use mathlib.Core.Path.{◌≡◌, refl, ap, ap₂, sym, ◌∙◌, subst}
use mathlib.Core.Bool.{Bool, true, false, cond, true≢false}
use mathlib.Core.List.{List, [], ◌∷◌, ◌++◌, map, append-nil, nil≢cons, cons≢nil, head-eq_of_cons-eq, tail-eq_of_cons-eq}
use Rattle.terms.specs.Bits.{Bytes, All, filter, before, same_bytes}
use Rattle.terms.specs.Records.{Grant, grant}
use Rattle.terms.proofs.Tests.{same_bytes_lem, bytes_same, is_false}
use Rattle.terms.proofs.Lists.{filter_append, filter_none, filter_passed, all_filter, all_map, all_append}
use Rattle.terms.proofs.Order.{before_trans, before_irrefl, before_asym, before_total}
use Rattle.meaning.specs.Tree.{smaller, greater}
use Rattle.meaning.specs.Reading.{Verdict, present, absent, answer_of}
use Rattle.meaning.proofs.Runs.{Ascending, Ahead, ascending_filter}
use Rattle.changed.specs.Claims.{KeyOrder}
use Rattle.changed.specs.Changes.{Change, added, removed, another, change_key, between, changed}

-- a key before another is not the same
pub before_other : (k j : Bytes) → before k j ≡ true → same_bytes k j ≡ false
before_other k j l = is_false (same_bytes k j) (λ e. before_irrefl k (subst (λ i. before k i ≡ true) (sym (same_bytes_lem k j e)) l))

pub after_other : (k j : Bytes) → before j k ≡ true → same_bytes k j ≡ false
after_other k j l = is_false (same_bytes k j) (λ e. before_irrefl j (subst (λ i. before j i ≡ true) (same_bytes_lem k j e) l))

module _ {A : Type 0} (key : A → Bytes) where
  -- what a list says of a key
  abbrev pub part : Bytes → List A → List A
  part k xs = filter (λ x. same_bytes k (key x)) xs

  pub order_append : (xs ys : List A) → KeyOrder key xs → KeyOrder key ys → All (λ x. All (λ y. before (key x) (key y) ≡ true) ys) xs → KeyOrder key (xs ++ ys)
  order_append [] ys s t a = t
  order_append (x ∷ xs) ys s t a = (all_append _ xs ys s.0 a.0, order_append xs ys s.1 t a.1)

  pub part_after : (k : Bytes) (xs : List A) → All (λ x. before k (key x) ≡ true) xs → part k xs ≡ []
  part_after k xs a = filter_none (λ x. same_bytes k (key x)) xs (all_map _ _ xs (λ x l. before_other k (key x) l) a)

  part_head : (x : A) (xs : List A) → KeyOrder key (x ∷ xs) → part (key x) (x ∷ xs) ≡ x ∷ []
  part_head x xs s = rw (bytes_same (key x)) (ap (x ∷◌) (part_after (key x) xs s.0))

  part_first : (k : Bytes) (x : A) (xs : List A) → before k (key x) ≡ true → KeyOrder key (x ∷ xs) → part k (x ∷ xs) ≡ []
  part_first k x xs l s = part_after k (x ∷ xs) (l, all_map _ _ xs (λ y m. before_trans k (key x) (key y) l m) s.0)

  part_rest : (k : Bytes) (x : A) (xs ys : List A) → part k (x ∷ xs) ≡ part k (x ∷ ys) → part k xs ≡ part k ys
  part_rest k x xs ys e = go (same_bytes k (key x)) e
    where
      go : (b : Bool) → cond b (x ∷ part k xs) (part k xs) ≡ cond b (x ∷ part k ys) (part k ys) → part k xs ≡ part k ys
      go true f = tail-eq_of_cons-eq f
      go false f = f

  -- lists in order that say the same of each key are one
  pub same_parts : (xs ys : List A) → KeyOrder key xs → KeyOrder key ys → ((k : Bytes) → part k xs ≡ part k ys) → xs ≡ ys
  same_parts [] [] s t f = refl
  same_parts [] (y ∷ ys) s t f = absurd (nil≢cons (f (key y) ∙ part_head y ys t))
  same_parts (x ∷ xs) [] s t f = absurd (cons≢nil (sym (part_head x xs s) ∙ f (key x)))
  same_parts (x ∷ xs) (y ∷ ys) s t f =
      go (before (key x) (key y)) (before (key y) (key x)) refl refl (λ h. same_parts xs ys s.1 t.1 h)
    where
      go : (a b : Bool) → before (key x) (key y) ≡ a → before (key y) (key x) ≡ b → (((k : Bytes) → part k xs ≡ part k ys) → xs ≡ ys) →
          x ∷ xs ≡ y ∷ ys
      go true b e g ih = absurd (cons≢nil (sym (part_head x xs s) ∙ f (key x) ∙ part_first (key x) y ys e t))
      go false true e g ih = absurd (nil≢cons (sym (part_first (key y) x xs g s) ∙ f (key y) ∙ part_head y ys t))
      go false false e g ih =
          let same : key x ≡ key y = before_total (key x) (key y) e g in
          let one : x ≡ y = head-eq_of_cons-eq (sym (part_head x xs s) ∙ f (key x) ∙ ap (λ k. part k (y ∷ ys)) same ∙ part_head y ys t) in
          ap₂ ◌∷◌ one (ih (λ k. part_rest k x xs ys (f k ∙ ap (λ z. part k (z ∷ ys)) (sym one))))

-- what grants say of a key, after a test of keys
pub answer_filter : (f : Bytes → Bool) (k : Bytes) (gs : List Grant) →
    answer_of k (filter (λ g. f g.key) gs) ≡ cond (f k) (answer_of k gs) absent
answer_filter f k [] = elim (f k) as (λ b. absent ≡ cond b absent absent) [ true ↦ refl | false ↦ refl ]
answer_filter f k (g ∷ gs) = go (f g.key) (same_bytes k g.key) refl refl (answer_filter f k gs)
  where
    go : (a b : Bool) → f g.key ≡ a → same_bytes k g.key ≡ b → answer_of k (filter (λ h. f h.key) gs) ≡ cond (f k) (answer_of k gs) absent →
        answer_of k (cond a (g ∷ filter (λ h. f h.key) gs) (filter (λ h. f h.key) gs))
        ≡ cond (f k) (cond b (present g.value) (answer_of k gs)) absent
    go true true e s ih = rw (s, ap f (same_bytes_lem k g.key s) ∙ e)
    go true false e s ih = rw (s, ih)
    go false true e s ih = ih ∙ rw (ap f (same_bytes_lem k g.key s) ∙ e)
    go false false e s ih = ih

pub answer_after : (k : Bytes) (gs : List Grant) → All (λ g. before k g.key ≡ true) gs → answer_of k gs ≡ absent
answer_after k [] a = refl
answer_after k (g ∷ gs) a = rw (before_other k g.key a.0) (answer_after k gs a.1)

-- what becomes of keys that are all added
part_added : (k : Bytes) (gs : List Grant) → Ascending gs → part change_key k (map added gs) ≡ between k absent (answer_of k gs)
part_added k [] s = refl
part_added k (g ∷ gs) s = go (same_bytes k g.key) refl (part_added k gs s.1)
  where
    go : (b : Bool) → same_bytes k g.key ≡ b → part change_key k (map added gs) ≡ between k absent (answer_of k gs) →
        cond b (added g ∷ part change_key k (map added gs)) (part change_key k (map added gs))
        ≡ between k absent (cond b (present g.value) (answer_of k gs))
    go true e ih =
        let same : k ≡ g.key = same_bytes_lem k g.key e in
        let none : answer_of k gs ≡ absent = answer_after k gs (subst (λ j. All (λ h. before j h.key ≡ true) gs) (sym same) s.0) in
        ap₂ ◌∷◌ (ap (λ j. added (grant j g.value)) (sym same)) (ih ∙ ap (between k absent) none)
    go false e ih = ih

part_between : (k j : Bytes) (v w : Verdict) → part change_key k (between j v w) ≡ cond (same_bytes k j) (between j v w) []
part_between k j v w = go (same_bytes k j) refl v w
  where
    none : (b : Bool) → cond {A = List Change} b [] [] ≡ []
    none true = refl
    none false = refl

    go : (b : Bool) → same_bytes k j ≡ b → (v w : Verdict) → part change_key k (between j v w) ≡ cond b (between j v w) []
    go b e absent absent = sym (none b)
    go b e absent (present y) = rw e
    go b e (present x) absent = rw e
    go b e (present x) (present y) = it (same_bytes x y)
      where
        it : (c : Bool) → part change_key k (cond c [] (another j x y ∷ [])) ≡ cond b (cond c [] (another j x y ∷ [])) []
        it true = sym (none b)
        it false = rw e

-- the list says of each key what became of it
pub part_changed : (k : Bytes) (a b : List Grant) → Ascending a → Ascending b →
    part change_key k (changed a b) ≡ between k (answer_of k a) (answer_of k b)
unfolding smaller greater
part_changed k [] b s t = part_added k b t
part_changed k (g ∷ gs) b s t =
    filter_append _ (map added (smaller g.key b)) _
    ∙ ap (part change_key k (map added (smaller g.key b)) ++◌) (filter_append _ (between g.key (present g.value) (answer_of g.key b)) _)
    ∙ ap₂ ◌++◌ first (ap₂ ◌++◌ (part_between k g.key (present g.value) (answer_of g.key b)) (rest (part_changed k gs (greater g.key b) s.1 (ascending_filter _ b t))))
    ∙ go (before k g.key) (before g.key k) refl refl
  where
    first : part change_key k (map added (smaller g.key b)) ≡ between k absent (cond (before k g.key) (answer_of k b) absent)
    first = part_added k (smaller g.key b) (ascending_filter _ b t) ∙ ap (between k absent) (answer_filter (λ j. before j g.key) k b)

    rest : part change_key k (changed gs (greater g.key b)) ≡ between k (answer_of k gs) (answer_of k (greater g.key b)) →
        part change_key k (changed gs (greater g.key b)) ≡ between k (answer_of k gs) (cond (before g.key k) (answer_of k b) absent)
    rest ih =
        ih ∙ ap (between k (answer_of k gs)) (answer_filter (λ j. before g.key j) k b)

    go : (x y : Bool) → before k g.key ≡ x → before g.key k ≡ y →
        between k absent (cond x (answer_of k b) absent)
        ++ (cond (same_bytes k g.key) (between g.key (present g.value) (answer_of g.key b)) []
        ++ between k (answer_of k gs) (cond y (answer_of k b) absent))
        ≡ between k (cond (same_bytes k g.key) (present g.value) (answer_of k gs)) (answer_of k b)
    go true true e f = absurd (true≢false (sym f ∙ before_asym k g.key e))
    go true false e f =
        let none : answer_of k gs ≡ absent = answer_after k gs (all_map (Ahead g) _ gs (λ h l. before_trans k g.key h.key e l) s.0) in
        rw (before_other k g.key e, none) (append-nil (between k absent (answer_of k b)))
    go false true e f = rw (after_other k g.key f)
    go false false e f =
        let same : k ≡ g.key = before_total k g.key e f in
        let none : answer_of k gs ≡ absent = answer_after k gs (subst (λ j. All (λ h. before j h.key ≡ true) gs) (sym same) s.0) in
        let yes : same_bytes k g.key ≡ true = ap (same_bytes k) (sym same) ∙ bytes_same k in
        rw (yes, none) (append-nil (between g.key (present g.value) (answer_of g.key b))
        ∙ ap (λ j. between j (present g.value) (answer_of j b)) (sym same))

-- what holds of all keys of both holds of the keys changed
module _ (P : Bytes → Type 0) where
  abbrev Key : Grant → Type 0
  Key g = P g.key

  abbrev OfChange : Change → Type 0
  OfChange c = P (change_key c)

  all_added : (gs : List Grant) → All Key gs → All OfChange (map added gs)
  all_added [] h = tt
  all_added (g ∷ gs) h = (h.0, all_added gs h.1)

  all_between : (j : Bytes) (v w : Verdict) → P j → All OfChange (between j v w)
  all_between j absent absent p = tt
  all_between j absent (present y) p = (p, tt)
  all_between j (present x) absent p = (p, tt)
  all_between j (present x) (present y) p =
      elim (same_bytes x y) as (λ b. All OfChange (cond b [] (another j x y ∷ []))) [ true ↦ tt | false ↦ (p, tt) ]

  pub all_changed : (a b : List Grant) → All (λ g. P g.key) a → All (λ g. P g.key) b → All (λ c. P (change_key c)) (changed a b)
  unfolding smaller greater
  all_changed [] b h k = all_added b k
  all_changed (g ∷ gs) b h k =
      all_append OfChange (map added (smaller g.key b)) _ (all_added (smaller g.key b) (all_filter Key (λ x. before x.key g.key) b k))
      (all_append OfChange (between g.key (present g.value) (answer_of g.key b)) _ (all_between g.key (present g.value) (answer_of g.key b) h.0)
      (all_changed gs (greater g.key b) h.1 (all_filter Key (λ x. before g.key x.key) b k)))

-- in key order, each once
added_order : (gs : List Grant) → Ascending gs → KeyOrder change_key (map added gs)
added_order [] s = tt
added_order (g ∷ gs) s = (all_added (λ k. before g.key k ≡ true) gs s.0, added_order gs s.1)

between_order : (j : Bytes) (v w : Verdict) → KeyOrder change_key (between j v w)
between_order j absent absent = tt
between_order j absent (present y) = (tt, tt)
between_order j (present x) absent = (tt, tt)
between_order j (present x) (present y) =
    elim (same_bytes x y) as (λ b. KeyOrder change_key (cond b [] (another j x y ∷ []))) [ true ↦ tt | false ↦ (tt, tt) ]

pub changed_order : (a b : List Grant) → Ascending a → Ascending b → KeyOrder change_key (changed a b)
unfolding smaller greater
changed_order [] b s t = added_order b t
changed_order (g ∷ gs) b s t =
    let j = g.key in
    let here = between j (present g.value) (answer_of j b) in
    let beyond : All (λ c. before j (change_key c) ≡ true) (changed gs (greater j b)) =
    all_changed (λ k. before j k ≡ true) gs (greater j b) s.0 (filter_passed (λ x. before j x.key) b) in
    let from : All (λ c. (i : Bytes) → before i j ≡ true → before i (change_key c) ≡ true) (here ++ changed gs (greater j b)) =
    all_append _ here _ (all_between (λ k. (i : Bytes) → before i j ≡ true → before i k ≡ true) j (present g.value) (answer_of j b) (λ i l. l))
    (all_map _ _ (changed gs (greater j b)) (λ c m i l. before_trans i j (change_key c) l m) beyond) in
    order_append change_key (map added (smaller j b)) _ (added_order (smaller j b) (ascending_filter _ b t))
    (order_append change_key here _ (between_order j (present g.value) (answer_of j b)) (changed_order gs (greater j b) s.1 (ascending_filter _ b t))
    (all_between (λ k. All (λ c. before k (change_key c) ≡ true) (changed gs (greater j b))) j (present g.value) (answer_of j b) beyond))
    (all_added (λ k. All (λ c. before k (change_key c) ≡ true) (here ++ changed gs (greater j b))) (smaller j b)
    (all_map _ _ (smaller j b) (λ x l. all_map _ _ (here ++ changed gs (greater j b)) (λ c m. m x.key l) from) (filter_passed (λ x. before x.key j) b)))
