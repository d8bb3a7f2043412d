-- Where no root record is of a version itself, the newest below it is that of the entry before, in a table that names the slots in form in their order.
-- Assumes nothing.
use Prim.Native.Nat.{ℕ, suc, ◌-◌, ◌<◌, ◌≤◌}
use native.Mathlib.Omega.{arith}
use mathlib.Core.Path.{◌≡◌, refl, ap, ap₂, sym, ◌∙◌, subst, subst₂}
use mathlib.Core.Logic.{inl, inr}
use mathlib.Core.Bool.{Bool, true, false, cond, ◌&&◌, ◌||◌, true≢false, false≢true}
use mathlib.Core.List.{List, [], ◌∷◌, ◌++◌}
use mathlib.Core.Option.{Option, none, some}
use lib.ListN.{length, get_or}
use lib.Dec.{ltb, eqb}
use borrow.Author.Tests.{ltb-true, ltb-false, lt-ltb, le-ltb, le-leb, eq-eqb, ne_eqb}
use Rattle.terms.specs.declared.Form.TheVariants.{Counted as counted}
use Rattle.terms.specs.Bits.{Bytes, Byte, All, Place, pack, before, same_place}
use Rattle.terms.specs.Records.{Record, Slot, free, used, spoiled}
use Rattle.terms.proofs.Tests.{is_false, same_place_lem}
use Rattle.meaning.specs.Store.{is_node, find}
use Rattle.meaning.proofs.Finding.{used_eq, is_node_refl, Hit, miss, hit, hits}
use Rattle.layout.specs.Headers.{size_right}
use Rattle.layout.specs.Slots.{version_in}
use Rattle.layout.specs.Stores.{slot_in, store_of, Has}
use Rattle.lookup.specs.Lookup.{Located, FoundIn}
use Rattle.std.specs.declared.option.Option as option
use Rattle.ordered.specs.Ordered.{node_key, key_no, InForm, Ahead, Named, Ordered, Between}
use Rattle.ordered.proofs.Ordered.{key_of, same_node_lem, later}
use Rattle.order_look.proofs.Keys.{inside}
use Rattle.order_halves.proofs.Looked.{entry_has}
use Rattle.rescue_rules.specs.Rescue.{newer_root, root_up_to, newest_root}
use Rattle.rescue_root.proofs.Exact.{up_to, earlier, exact}
use Rattle.rescue_root.proofs.Newest.{version_own}

common : (xs us ws : Bytes) → before (xs ++ us) (xs ++ ws) ≡ before us ws
common [] us ws = refl
common (x ∷ xs) us ws = rw (le-ltb x x (omega arith), eq-eqb x x refl) (common xs us ws)

-- a root stands before another by its version
root_ahead : (u v : ℕ) → u < v → before (node_key u []) (node_key v []) ≡ true
unfolding node_key
root_ahead u v l = common (pack 32 []) (u ∷ []) (v ∷ []) ∙ rw (lt-ltb u v l)

last : (a b : Bool) → a || (b && false) ≡ true → a ≡ true
last true b e = refl
last false true e = absurd (false≢true e)
last false false e = absurd (false≢true e)

longer_after : (n : ℕ) (x : Bool) → 1 ≤ n → ltb n 0 || (eqb n 0 && x) ≡ false
longer_after n x l = rw (le-ltb n 0 (omega arith), ne_eqb n 0 (omega arith))

-- what stands before a root is a root of an earlier version
ahead_root : (u v : ℕ) (p : Place) → before (node_key u p) (node_key v []) ≡ true → (p ≡ []) × (u < v)
unfolding node_key
ahead_root u v [] e = (refl, ltb-true u v (last (ltb u v) (eqb u v) (sym (common (pack 32 []) (u ∷ []) (v ∷ [])) ∙ e)))
ahead_root u v (b ∷ p) e =
    absurd (true≢false (sym e ∙ longer_after (length (b ∷ p)) (before (pack 32 (b ∷ p) ++ (u ∷ [])) (pack 32 [] ++ (v ∷ []))) (omega arith)))

-- no record is a node that isn't found
not_found : (s : List Slot) (v : ℕ) (p : Place) → find v p s ≡ none → (j : ℕ) (q : Record) → get_or s j free ≡ used q → is_node v p q ≡ false
not_found s v p e j q h = go (find v p s) e (hits s v p)
  where
    go : (o : Option Record) → o ≡ none → Hit s v p o → is_node v p q ≡ false
    go none f (miss g) = g j q (inside s j q h) h
    go (some r) f (hit i r' l g n) = let z : ◌≡◌ {A = ℕ} 0 1 = cc in absurd (omega arith)

is_up_to : (v : ℕ) (r : Record) → same_place r.place [] ≡ true → r.version ≤ v → root_up_to v r ≡ true
unfolding root_up_to
is_up_to v r e l = rw (e, le-leb r.version v l)

-- the newest below two versions is the same where no root is between them
newest_same : (s : List Slot) (v u : ℕ) → u ≤ v → ((j : ℕ) (q : Record) → get_or s j free ≡ used q → root_up_to v q ≡ true → q.version ≤ u) →
    newest_root v s ≡ newest_root u s
newest_same [] v u l f = refl
newest_same (free ∷ s) v u l f = newest_same s v u l (λ j q e. f (suc j) q e)
newest_same (spoiled x ∷ s) v u l f = newest_same s v u l (λ j q e. f (suc j) q e)
newest_same (used q ∷ s) v u l f = ap₂ (λ b o. cond b (newer_root q o) o) (test (root_up_to v q) refl) (newest_same s v u l (λ j r e. f (suc j) r e))
  where
    test : (b : Bool) → root_up_to v q ≡ b → b ≡ root_up_to u q
    test true e = sym (is_up_to u q (up_to v q e).0 (f 0 q refl e))
    test false e =
        sym (is_false (root_up_to u q) (λ g. true≢false (sym (is_up_to v q (up_to u q g).0 (omega (arith, (up_to u q g).1))) ∙ e)))

module _ {s : List Slot} {t : List ℕ} {n : ℕ} (o : Ordered s t n) (v : ℕ) {k : ℕ} (w : Between s t n (node_key v []) k k) (own : find v [] s ≡ none)
    (some-before : 1 ≤ k) where
  abbrev entry : ℕ
  entry = get_or t (k - 1) 0

  held : InForm s entry
  held = o.names (k - 1) (omega (arith, w.within))

  abbrev it : Record
  it = held.0

  its : (it.place ≡ []) × (it.version < v)
  its = ahead_root it.version v it.place (subst (λ z. before z (node_key v []) ≡ true) (key_of s entry it held.1) (w.below (k - 1) (omega arith)))

  its_key : key_no s entry ≡ node_key it.version []
  its_key = key_of s entry it held.1 ∙ ap (node_key it.version) its.0

  -- no root that isn't above the version is newer
  none_newer : (j : ℕ) (q : Record) → get_or s j free ≡ used q → root_up_to v q ≡ true → q.version ≤ it.version
  none_newer j q h r = at (o.named j (q, h))
    where
      key : key_no s j ≡ node_key q.version []
      key = key_of s j q h ∙ ap (node_key q.version) (same_place_lem q.place [] (up_to v q r).0)

      ahead : before (key_no s j) (node_key v []) ≡ true
      ahead = subst (λ z. before z (node_key v []) ≡ true) (sym key) (root_ahead q.version v (earlier v q r (not_found s v [] own j q h)))

      from : Ahead s j entry → q.version ≤ it.version
      from (inl a) = let z = ahead_root q.version it.version [] (subst₂ (λ x y. before x y ≡ true) key its_key a) in omega (arith, z.1)
      from (inr a) = let z = same_node_lem q.version it.version [] [] (omega arith) (omega arith) (sym key ∙ a.0 ∙ its_key) in omega (arith, z.0)

      at : Named t n j → q.version ≤ it.version
      at (i, l, e) = go (ltb i (k - 1)) (ltb i k) refl refl
        where
          go : (a b : Bool) → ltb i (k - 1) ≡ a → ltb i k ≡ b → q.version ≤ it.version
          go true b f g = from (subst (λ z. Ahead s z entry) e (later o i (k - 1) (ltb-true i (k - 1) f) (omega (arith, w.within))))
          go false true f g =
              let same : entry ≡ j = ap (λ z. get_or t z 0) (omega (arith, ltb-false i (k - 1) f, ltb-true i k g)) ∙ e in
              let z = used_eq q it (sym h ∙ ap (λ y. get_or s y free) (sym same) ∙ held.1) in omega (arith, ap (λ y. y.version) z)
          go false false f g =
              absurd (true≢false (sym ahead ∙ ap (λ y. before (key_no s y) (node_key v [])) (sym e) ∙ w.above i (ltb-false i k g) l))

  newest_is : newest_root v s ≡ find it.version [] s
  newest_is = go (find it.version [] s) refl
    where
      node : is_node it.version [] it ≡ true
      node = subst (λ p. is_node it.version p it ≡ true) its.0 (is_node_refl it)

      go : (f : Option Record) → find it.version [] s ≡ f → newest_root v s ≡ f
      go none e = absurd (true≢false (sym node ∙ not_found s it.version [] e entry it held.1))
      go (some r) e = newest_same s v it.version (omega (arith, its.1)) none_newer ∙ exact s it.version r e

  -- What a search for a root of the version in the entry before finds is the newest.
  pub newest_before : {p : Place} {u : ℕ} (f : option.Option ℕ) → p ≡ [] → ((r : Record) → get_or s entry free ≡ used r → u ≡ r.version) → FoundIn s u p f →
      Located s (newest_root v s) f
  newest_before {p} {u} f top version h =
      subst (λ y. Located s y f) (ap₂ (λ x y. find x y s) (version it held.1) top ∙ sym newest_is) h

-- The same over the bytes of a source.
module _ (s : Bytes) {t : List ℕ} {n k i : ℕ} (size : size_right counted (length s) ≡ true) (o : Ordered (store_of s).slots t n) (within : k ≤ n) (some-before : 1 ≤ k)
    (e : i ≡ get_or t (k - 1) 0) where
  pub before_has : Has counted s i
  before_has = subst (Has counted s) (sym e) (entry_has s size o (k - 1) (omega arith))

  pub located_before : All Byte s → (v : ℕ) {p : Place} {u : ℕ} (f : option.Option ℕ) → p ≡ [] → Between (store_of s).slots t n (node_key v []) k k →
      find v [] (store_of s).slots ≡ none → u ≡ version_in (slot_in counted i s) → FoundIn (store_of s).slots u p f →
      Located (store_of s).slots (newest_root v (store_of s).slots) f
  located_before b v {p} {u} f top w own version h =
      newest_before o v w own some-before f top
      (λ r g. version ∙ version_own before_has b r (ap (λ z. get_or (store_of s).slots z free) e ∙ g)) h
