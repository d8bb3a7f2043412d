-- A root record of a version is the newest not above it. Assumes nothing.
use Prim.Native.Nat.{ℕ, ◌<◌, ◌≤◌}
use native.Mathlib.Omega.{arith}
use mathlib.Core.Path.{◌≡◌, refl, ap, sym, ◌∙◌, subst}
use mathlib.Core.Bool.{Bool, true, false, cond, ◌&&◌, true≢false}
use mathlib.Core.List.{List, [], ◌∷◌}
use mathlib.Core.Option.{Option, none, some}
use lib.Dec.{leb, eqb}
use borrow.Author.Tests.{leb-true, leb-false, le-leb, lt-leb, eq-eqb}
use Rattle.terms.specs.Bits.{Place, same_place}
use Rattle.terms.specs.Records.{Record, Slot, free, used, spoiled}
use Rattle.meaning.specs.Store.{is_node, find}
use Rattle.meaning.proofs.Finding.{is_node_eq, found_in}
use Rattle.lookup.specs.Lookup.{Located, FoundIn}
use Rattle.std.specs.declared.option.Option as option
use Rattle.std.specs.Prelude.{Some, None}
use Rattle.rescue_rules.specs.Rescue.{newer_root, root_up_to, newest_root}

both_left : (a b : Bool) → a && b ≡ true → a ≡ true
both_left true b e = refl
both_left false b e = absurd (true≢false (sym e))

both_right : (a b : Bool) → a && b ≡ true → b ≡ true
both_right true b e = e
both_right false b e = absurd (true≢false (sym e))

-- a root record not above a version
pub up_to : (v : ℕ) (r : Record) → root_up_to v r ≡ true → (same_place r.place [] ≡ true) × (r.version ≤ v)
unfolding root_up_to
up_to v r e = (both_left (same_place r.place []) _ e, leb-true r.version v (both_right (same_place r.place []) _ e))

-- where it is not the node itself it is of an earlier version
pub earlier : (v : ℕ) (r : Record) → root_up_to v r ≡ true → is_node v [] r ≡ false → r.version < v
unfolding is_node
earlier v r e f = go (leb v r.version) refl
  where
    w : (same_place r.place [] ≡ true) × (r.version ≤ v)
    w = up_to v r e

    go : (b : Bool) → leb v r.version ≡ b → r.version < v
    go false g = leb-false v r.version g
    go true g =
        let same : r.version ≡ v = omega (arith, leb-true v r.version g, w.1) in
        let on : eqb r.version v && same_place r.place [] ≡ true = rw (eq-eqb r.version v same, w.0) in
        absurd (true≢false (sym on ∙ f))

-- the node itself is one
node_up_to : (v : ℕ) (r : Record) → is_node v [] r ≡ true → root_up_to v r ≡ true
unfolding root_up_to
node_up_to v r e = let w = is_node_eq v [] r e in rw (w.1, le-leb r.version v (omega (arith, w.0)))

-- the newest one is not above the version
newest_most : (v : ℕ) (s : List Slot) (r : Record) → newest_root v s ≡ some r → r.version ≤ v
newest_most v [] r e = let z : ◌≡◌ {A = ℕ} 0 1 = cc in absurd (omega arith)
newest_most v (free ∷ s) r e = newest_most v s r e
newest_most v (spoiled x ∷ s) r e = newest_most v s r e
newest_most v (used q ∷ s) r e = go (λ x g. newest_most v s x g) (root_up_to v q) refl e
  where
    some_eq : (x y : Record) → some x ≡ some y → x ≡ y
    some_eq x y u = cc

    over : (o : Option Record) → ((x : Record) → o ≡ some x → x.version ≤ v) → q.version ≤ v → newer_root q o ≡ some r → r.version ≤ v
    over none h l u = let g = some_eq q r u in omega (arith, ap (λ z. z.version) g)
    over (some x) h l u = by (leb x.version q.version) u
      where
        by : (b : Bool) → cond b (some q) (some x) ≡ some r → r.version ≤ v
        by true m = let g = some_eq q r m in omega (arith, ap (λ z. z.version) g)
        by false m = let g = some_eq x r m in omega (arith, ap (λ z. z.version) g, h x refl)

    go : ((x : Record) → newest_root v s ≡ some x → x.version ≤ v) → (b : Bool) → root_up_to v q ≡ b →
        cond b (newer_root q (newest_root v s)) (newest_root v s) ≡ some r → r.version ≤ v
    go rest true f u = over (newest_root v s) rest (up_to v q f).1 u
    go rest false f u = rest r u

-- the newest of a record of the version itself and of any others
stays : (v : ℕ) (q : Record) (o : Option Record) → q.version ≡ v → ((x : Record) → o ≡ some x → x.version ≤ v) → newer_root q o ≡ some q
stays v q none e h = refl
stays v q (some x) e h = rw (le-leb x.version q.version (omega (arith, h x refl, e)))

-- A record of the version itself that `find` finds is the newest root.
pub exact : (s : List Slot) (v : ℕ) (r : Record) → find v [] s ≡ some r → newest_root v s ≡ some r
exact [] v r e = e
exact (free ∷ s) v r e = exact s v r e
exact (spoiled x ∷ s) v r e = exact s v r e
exact (used q ∷ s) v r e = go (λ u. exact s v r u) (is_node v [] q) refl e
  where
    past : (r : Record) → r.version ≡ v → newest_root v s ≡ some r → is_node v [] q ≡ false → (b : Bool) → root_up_to v q ≡ b →
        cond b (newer_root q (newest_root v s)) (newest_root v s) ≡ some r
    past r z m f false g = m
    past r z m f true g = ap (newer_root q) m ∙ rw (lt-leb r.version q.version (omega (arith, earlier v q g f, z)))

    go : (find v [] s ≡ some r → newest_root v s ≡ some r) → (b : Bool) → is_node v [] q ≡ b → cond b (some q) (find v [] s) ≡ some r →
        cond (root_up_to v q) (newer_root q (newest_root v s)) (newest_root v s) ≡ some r
    go rest true f u = rw (node_up_to v q f) (stays v q (newest_root v s) (is_node_eq v [] q f).0 (λ x g. newest_most v s x g) ∙ u)
    go rest false f u = past r (found_in s v [] r u).2 (rest u) f (root_up_to v q) refl

pub exact_located : (s : List Slot) (v : ℕ) {p : Place} {f : option.Option ℕ} {i : ℕ} → p ≡ [] → FoundIn s v p f → f ≡ Some i → Located s (newest_root v s) (Some i)
exact_located s v {p} {f} {i} top w e =
    let h = subst (λ z. Located s (find v p s) z) e w in
    (h.0, (h.1.0, h.1.1, exact s v h.1.0 (subst (λ z. find v z s ≡ some h.1.0) top h.1.2)))

pub none_own : (s : List Slot) (v : ℕ) {p : Place} {f : option.Option ℕ} → p ≡ [] → FoundIn s v p f → f ≡ None → find v [] s ≡ none
none_own s v {p} top w e = subst (λ z. find v z s ≡ none) top (subst (λ z. Located s (find v p s) z) e w)
