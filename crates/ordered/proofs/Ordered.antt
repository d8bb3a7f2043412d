-- In an ordered table the first entry that is not before a node's key names the lowest slot that matches, or none does. Assumes nothing.
use Prim.Native.Nat.{ℕ, zero, suc, ◌+◌, ◌-◌, ◌<◌, ◌≤◌}
use native.Mathlib.Omega.{arith}
use mathlib.Core.Path.{◌≡◌, refl, ap, ap₂, sym, ◌∙◌, subst, subst₂}
use mathlib.Core.Logic.{◌⊎◌, inl, inr}
use mathlib.Core.Bool.{Bool, true, false, cond, true≢false}
use mathlib.Core.List.{List, [], ◌∷◌, ◌++◌}
use mathlib.Core.Option.{Option, none, some}
use lib.ListN.{length, get_or, take}
use lib.Dec.{ltb}
use borrow.Author.Tests.{ltb-true, ltb-false, eq-eqb}
use Rattle.terms.specs.Bits.{Bytes, Place, bits, pack, before}
use Rattle.terms.specs.Records.{Record, Slot, free, used, spoiled}
use Rattle.terms.proofs.Order.{before_trans, before_irrefl}
use Rattle.terms.proofs.Places.{place_packed, length_pack}
use Rattle.terms.proofs.Tests.{is_false, place_same}
use Rattle.meaning.specs.Store.{is_node, lowest, find}
use Rattle.meaning.proofs.Finding.{is_node_eq, free_used, spoiled_used, used_eq, Lowest, miss, hit, lowest_is}
use Rattle.ordered.specs.Ordered.{node_key, slot_key, key_no, InForm, Ahead, Named, Ordered, Between, Leads}

-- The lowest record that passes a test, by a slot below which none does.
pub lowest_at : (test : Record → Bool) (s : List Slot) (i : ℕ) (r : Record) → get_or s i free ≡ used r → test r ≡ true →
    ((j : ℕ) (q : Record) → j < i → get_or s j free ≡ used q → test q ≡ false) → lowest test s ≡ some r
lowest_at test [] i r e t f = free_used r e
lowest_at test (free ∷ s) zero r e t f = free_used r e
lowest_at test (spoiled x ∷ s) zero r e t f = spoiled_used x r e
lowest_at test (used q ∷ s) zero r e t f = let same = used_eq q r e in rw (same, t)
lowest_at test (free ∷ s) (suc i) r e t f = lowest_at test s i r e t (λ j q l. f (suc j) q (omega arith))
lowest_at test (spoiled x ∷ s) (suc i) r e t f = lowest_at test s i r e t (λ j q l. f (suc j) q (omega arith))
lowest_at test (used q ∷ s) (suc i) r e t f = rw (f 0 q (omega arith) refl) (lowest_at test s i r e t (λ j z l. f (suc j) z (omega arith)))

-- where no record passes, none is found
pub lowest_none : (test : Record → Bool) (s : List Slot) → ((j : ℕ) (q : Record) → get_or s j free ≡ used q → test q ≡ false) → lowest test s ≡ none
lowest_none test s f = go _ (lowest_is test s)
  where
    go : (o : Option Record) → Lowest s test o → o ≡ none
    go none h = refl
    go (some q) (hit i r l e n) = absurd (true≢false (sym n ∙ f i r e))

-- the key of a slot that holds a record
pub key_of : (s : List Slot) (i : ℕ) (r : Record) → get_or s i free ≡ used r → key_no s i ≡ node_key r.version r.place
unfolding key_no
key_of s i r e = ap slot_key e

-- a record that is a node has its key
pub node_key_lem : (s : List Slot) (i : ℕ) (r : Record) (v : ℕ) (p : Place) → get_or s i free ≡ used r → is_node v p r ≡ true → key_no s i ≡ node_key v p
node_key_lem s i r v p e h = let w = is_node_eq v p r h in key_of s i r e ∙ ap₂ node_key w.0 w.1

last_apart : (xs ys : Bytes) (v w : ℕ) → length xs ≡ length ys → xs ++ (v ∷ []) ≡ ys ++ (w ∷ []) → (xs ≡ ys) × (v ≡ w)
last_apart [] [] v w l e = (refl, let z : v ≡ w = cc in z)
last_apart [] (y ∷ ys) v w l e = absurd (omega arith)
last_apart (x ∷ xs) [] v w l e = absurd (omega arith)
last_apart (x ∷ xs) (y ∷ ys) v w l e =
    let head : x ≡ y = cc in
    let tail : xs ++ (v ∷ []) ≡ ys ++ (w ∷ []) = cc in
    let rest = last_apart xs ys v w (omega arith) tail in (ap₂ ◌∷◌ head rest.0, rest.1)

-- The key tells nodes apart.
pub same_node_lem : (v w : ℕ) (p q : Place) → length p ≤ 256 → length q ≤ 256 → node_key v p ≡ node_key w q → (v ≡ w) × (p ≡ q)
unfolding node_key
same_node_lem v w p q a b e =
    let head : length p ≡ length q = cc in
    let tail : pack 32 p ++ (v ∷ []) ≡ pack 32 q ++ (w ∷ []) = cc in
    let rest = last_apart (pack 32 p) (pack 32 q) v w (length_pack 32 p ∙ sym (length_pack 32 q)) tail in
    (rest.1, sym (place_packed 32 p (omega arith)) ∙ ap₂ (λ m y. take m (bits y)) head rest.0 ∙ place_packed 32 q (omega arith))

-- so a record with a node's key is that node
pub key_node : (s : List Slot) (i : ℕ) (r : Record) (v : ℕ) (p : Place) → get_or s i free ≡ used r → length r.place ≤ 256 → length p ≤ 256 →
    key_no s i ≡ node_key v p → is_node v p r ≡ true
unfolding is_node
key_node s i r v p e a b f =
    let w = same_node_lem r.version v r.place p a b (sym (key_of s i r e) ∙ f) in rw (eq-eqb r.version v w.0, w.1) (place_same p)

pub ahead_then : (s : List Slot) (i j k : ℕ) → Ahead s i j → Ahead s j k → Ahead s i k
ahead_then s i j k (inl a) (inl b) = inl (before_trans (key_no s i) (key_no s j) (key_no s k) a b)
ahead_then s i j k (inl a) (inr b) = inl (subst (λ z. before (key_no s i) z ≡ true) b.0 a)
ahead_then s i j k (inr a) (inl b) = inl (subst (λ z. before z (key_no s k) ≡ true) (sym a.0) b)
ahead_then s i j k (inr a) (inr b) = inr (a.0 ∙ b.0, omega (arith, a.1, b.1))

module _ {s : List Slot} {t : List ℕ} {n : ℕ} (o : Ordered s t n) where
  further : (k d : ℕ) → suc (k + d) < n → Ahead s (get_or t k 0) (get_or t (suc (k + d)) 0)
  further k zero h = subst (λ m. Ahead s (get_or t k 0) (get_or t (suc m) 0)) (omega arith) (o.ascends k (omega arith))
  further k (suc d) h =
      ahead_then s (get_or t k 0) (get_or t (suc (k + d)) 0) (get_or t (suc (k + suc d)) 0)
      (further k d (omega arith))
      (subst (λ m. Ahead s (get_or t (suc (k + d)) 0) (get_or t m 0)) (omega arith) (o.ascends (suc (k + d)) (omega arith)))

  -- An entry stands before each later one.
  pub later : (k l : ℕ) → k < l → l < n → Ahead s (get_or t k 0) (get_or t l 0)
  later k l h g = subst (λ m. Ahead s (get_or t k 0) (get_or t m 0)) (omega arith) (further k (l - suc k) (omega arith))

  module _ (key : Bytes) where
    abbrev Less : ℕ → Bool
    Less k = before (key_no s (get_or t k 0)) key

    -- what stands before an entry that is before the key is before it
    down : (k l : ℕ) → k < l → l < n → Less l ≡ true → Less k ≡ true
    down k l h g e = go (later k l h g)
      where
        go : Ahead s (get_or t k 0) (get_or t l 0) → Less k ≡ true
        go (inl a) = before_trans (key_no s (get_or t k 0)) (key_no s (get_or t l 0)) key a e
        go (inr a) = subst (λ z. before z key ≡ true) (sym a.0) e

    pub between_start : Between s t n key 0 n
    between_start = record { within = omega arith; straight = omega arith; below = λ k l. absurd (omega arith); above = λ k l h. absurd (omega arith) }

    module _ {lo hi m : ℕ} (w : Between s t n key lo hi) (from : lo ≤ m) (to : m < hi) where
      -- an entry before the key: the search goes on above it
      pub between_above : Less m ≡ true → Between s t n key (suc m) hi
      between_above e = record {
        within = w.within;
        straight = omega arith;
        below = λ k l. go k l (ltb k m) refl;
        above = w.above;
      }
        where
          go : (k : ℕ) → k < suc m → (b : Bool) → ltb k m ≡ b → Less k ≡ true
          go k l true f = down k m (ltb-true k m f) (omega (arith, w.within)) e
          go k l false f = let g : m ≡ k = omega (arith, ltb-false k m f) in subst (λ z. Less z ≡ true) g e

      -- one that is not: below it
      pub between_below : Less m ≡ false → Between s t n key lo m
      between_below e = record {
        within = omega (arith, w.within);
        straight = from;
        below = w.below;
        above = λ k l h. go k l h (ltb m k) refl;
      }
        where
          go : (k : ℕ) → m ≤ k → k < n → (b : Bool) → ltb m k ≡ b → Less k ≡ false
          go k l h true f = is_false (Less k) (λ g. true≢false (sym (down m k (ltb-true m k f) h g) ∙ e))
          go k l h false f = let g : m ≡ k = omega (arith, ltb-false m k f) in subst (λ z. Less z ≡ false) g e

  module _ (v : ℕ) (p : Place) {lo hi : ℕ} (w : Between s t n (node_key v p) lo hi) (done : hi ≤ lo) where
    -- an entry that matches is not before the first that is not before the key
    from_first : (k i : ℕ) (q : Record) → get_or t k 0 ≡ i → get_or s i free ≡ used q → is_node v p q ≡ true → lo ≤ k
    from_first k i q e f h = go (ltb k lo) refl
      where
        same : key_no s (get_or t k 0) ≡ node_key v p
        same = ap (key_no s) e ∙ node_key_lem s i q v p f h

        go : (b : Bool) → ltb k lo ≡ b → lo ≤ k
        go false g = ltb-false k lo g
        go true g = absurd (before_irrefl (node_key v p) (subst (λ z. before z (node_key v p) ≡ true) same (w.below k (ltb-true k lo g))))

    -- Where the first entry that is not before the key names a slot with that node, no lower slot has it.
    pub first_lowest : (r : Record) → get_or s (get_or t lo 0) free ≡ used r → is_node v p r ≡ true →
        (j : ℕ) (q : Record) → j < get_or t lo 0 → get_or s j free ≡ used q → is_node v p q ≡ false
    first_lowest r here node j q less holds = is_false _ (λ h. at h (o.named j (q, holds)))
      where
        at : is_node v p q ≡ true → Named t n j → ⊥
        at h (k, inside, e) = go (ltb lo k) refl
          where
            from : lo ≤ k
            from = from_first k j q e holds h

            after : Ahead s (get_or t lo 0) (get_or t k 0) → ⊥
            after (inl a) =
                before_irrefl (node_key v p)
                (subst₂ (λ x y. before x y ≡ true) (node_key_lem s (get_or t lo 0) r v p here node) (ap (key_no s) e ∙ node_key_lem s j q v p holds h) a)
            after (inr a) = omega (arith, a.1, e, less)

            go : (b : Bool) → ltb lo k ≡ b → ⊥
            go true f = after (later lo k (ltb-true lo k f) inside)
            go false f = let g : lo ≡ k = omega (arith, ltb-false lo k f, from) in omega (arith, ap (λ z. get_or t z 0) g, e, less)

    -- So `find` finds its record.
    pub first_found : (r : Record) → get_or s (get_or t lo 0) free ≡ used r → is_node v p r ≡ true → find v p s ≡ some r
    first_found r here node = lowest_at (is_node v p) s (get_or t lo 0) r here node (first_lowest r here node)

    -- Where its key is another, or there is no such entry, `find` finds none.
    pub first_none : (lo < n → key_no s (get_or t lo 0) ≡ node_key v p → ⊥) → find v p s ≡ none
    first_none other = lowest_none (is_node v p) s (λ j q holds. is_false _ (λ h. at j q holds h (o.named j (q, holds))))
      where
        at : (j : ℕ) (q : Record) → get_or s j free ≡ used q → is_node v p q ≡ true → Named t n j → ⊥
        at j q holds h (k, inside, e) = go (ltb lo k) refl
          where
            from : lo ≤ k
            from = from_first k j q e holds h

            same : key_no s (get_or t k 0) ≡ node_key v p
            same = ap (key_no s) e ∙ node_key_lem s j q v p holds h

            after : lo < n → Ahead s (get_or t lo 0) (get_or t k 0) → ⊥
            after l (inl a) = true≢false (sym (subst (λ z. before (key_no s (get_or t lo 0)) z ≡ true) same a) ∙ w.above lo done l)
            after l (inr a) = other l (a.0 ∙ same)

            go : (b : Bool) → ltb lo k ≡ b → ⊥
            go true f = let l = ltb-true lo k f in after (omega arith) (later lo k l inside)
            go false f =
                let g : k ≡ lo = omega (arith, ltb-false lo k f, from) in other (omega arith) (subst (λ z. key_no s (get_or t z 0) ≡ node_key v p) g same)

-- The first entry of its node leads: where the entry before it, if there is one, has another node that stands before.
module _ {s : List Slot} {t : List ℕ} {n : ℕ} (o : Ordered s t n) (k : ℕ) (inside : k < n) where
  abbrev Own : Record → Bytes
  Own r = node_key r.version r.place

  not_own : (r : Record) → get_or s (get_or t k 0) free ≡ used r → before (key_no s (get_or t k 0)) (Own r) ≡ false
  not_own r e = is_false _ (λ h. before_irrefl (Own r) (subst (λ z. before z (Own r) ≡ true) (key_of s (get_or t k 0) r e) h))

  leads_from : (r : Record) → get_or s (get_or t k 0) free ≡ used r → Between s t n (Own r) k n → find r.version r.place s ≡ some r
  unfolding is_node
  leads_from r e w =
      first_found o r.version r.place (between_below o (Own r) w (omega arith) inside (not_own r e)) (omega arith) r e
      (rw (eq-eqb r.version r.version refl) (place_same r.place))

  pub leads_first : k ≡ 0 → Leads s (get_or t k 0)
  leads_first z r e = leads_from r e (subst (λ m. Between s t n (Own r) m n) (sym z) (between_start o (Own r)))

  pub leads_after : (1 ≤ k) → before (key_no s (get_or t (k - 1) 0)) (key_no s (get_or t k 0)) ≡ true → Leads s (get_or t k 0)
  leads_after l h r e =
      leads_from r e
      (subst (λ m. Between s t n (Own r) m n) (omega arith)
      (between_above o (Own r) {m = k - 1} (between_start o (Own r)) (omega arith) (omega arith)
      (subst (λ z. before (key_no s (get_or t (k - 1) 0)) z ≡ true) (key_of s (get_or t k 0) r e) h)))
