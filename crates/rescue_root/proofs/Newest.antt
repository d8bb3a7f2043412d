-- The newest root record from slot to slot: a newer one takes the place of the best so far, any other does not change what is the newest.
-- Assumes nothing.
use Prim.Native.Nat.{ℕ, ◌+◌, ◌<◌, ◌≤◌}
use native.Mathlib.Omega.{arith}
use mathlib.Core.Path.{◌≡◌, refl, ap, sym, ◌∙◌, subst}
use mathlib.Core.Bool.{Bool, true, false, cond, ◌&&◌, true≢false}
use mathlib.Core.List.{[], ◌∷◌}
use mathlib.Core.Option.{Option, none, some}
use lib.ListN.{length, drop}
use lib.Dec.{leb, ltb}
use borrow.Author.Tests.{leb-true, leb-false, ltb-true, ltb-false, lt-ltb, le-ltb, le-leb, lt-leb}
use Rattle.terms.specs.declared.Form.TheVariants.{Counted as counted}
use Rattle.terms.specs.Bits.{Bytes, Byte, All, Place, same_place}
use Rattle.terms.specs.Records.{Record, Slot, free, used, spoiled}
use Rattle.terms.specs.Form.{RecordForm}
use Rattle.meaning.specs.Store.{retired_by}
use Rattle.local.specs.Test.{by_record}
use Rattle.layout.specs.Sizes.{slot_size, room_of}
use Rattle.layout.specs.Headers.{size_right}
use Rattle.layout.specs.Slots.{count_in, version_in, since_in, slot_of}
use Rattle.layout.specs.Stores.{slot_in, store_of, slot_no, Has}
use Rattle.layout.proofs.Slots.{retired_says}
use Rattle.store.proofs.Slots.{slots_many, slot_long, slot_bytes_lem, slot_within, slot_is}
use Rattle.store.proofs.Scans.{Scan, scan_start, scan_many, scan_slot, scan_here, scan_next, scan_end}
use Rattle.lookup.specs.Lookup.{is_used, Located}
use Rattle.std.specs.declared.option.Option as option
use Rattle.std.specs.Prelude.{Some, None}
use Rattle.lookup.proofs.Matching.{says, version_is, count_is_lem}
use Rattle.rescue_rules.specs.Rescue.{newer_root, root_up_to, newest_root, unless_retired, source_root}
use Rattle.rescue_rules.specs.Joining.{version_of, root_version}
use Rattle.rescue_root.specs.Roots.{root_above}

not_such : (test : Record → Bool) (y : Slot) → ((r : Record) → y ≡ used r → test r ≡ false) → false ≡ by_record false test y
not_such test free f = refl
not_such test (used r) f = sym (f r refl)
not_such test (spoiled x) f = refl

both : (a b : Bool) → b ≡ false → a && b ≡ false
both true b e = e
both false b e = refl

not_top : (p : Place) → (length p ≡ 0 → ⊥) → same_place p [] ≡ false
not_top [] f = absurd (f refl)
not_top (b ∷ p) f = refl

is_top : (p : Place) → length p ≡ 0 → same_place p [] ≡ true
is_top [] e = refl
is_top (b ∷ p) e = absurd (omega arith)

-- one slot
module _ {s : Bytes} {i : ℕ} (h : Has counted s i) (bytes : All Byte s) where
  long : length (slot_in counted i s) ≡ slot_size counted
  long = slot_long counted i s (slot_within h)

  own : (r : Record) → slot_no counted i s ≡ used r → slot_of (slot_in counted i s) ≡ used r
  own r e = sym (slot_is h) ∙ e

  pub version_own : (r : Record) → slot_no counted i s ≡ used r → version_in (slot_in counted i s) ≡ r.version
  version_own r e = version_is counted (slot_in counted i s) long (slot_bytes_lem counted i s bytes) r (own r e)

  pub since_own : (r : Record) → slot_no counted i s ≡ used r → since_in (slot_in counted i s) ≡ r.retired
  since_own r e =
      let x = says (slot_in counted i s) long (slot_bytes_lem counted i s bytes) r (own r e) in ap since_in (sym x.bytes) ∙ retired_says counted r x.form

  pub form_own : (r : Record) → slot_no counted i s ≡ used r → RecordForm r
  form_own r e = (says {fm = counted} (slot_in counted i s) long (slot_bytes_lem counted i s bytes) r (own r e)).form

  count_own : (r : Record) → slot_no counted i s ≡ used r → count_in (slot_in counted i s) ≡ length r.place
  unfolding count_in
  count_own r e = count_is_lem counted (slot_in counted i s) long (slot_bytes_lem counted i s bytes) r (own r e)

  module _ (above v : ℕ) {w : ℕ} (k : w ≡ version_in (slot_in counted i s)) where
    pub not_newer : w ≤ above → false ≡ by_record false (root_above above v) (slot_no counted i s)
    unfolding root_above
    not_newer l = not_such (root_above above v) (slot_no counted i s) (λ r e. rw (le-ltb above r.version (omega (arith, k ∙ version_own r e))))

    pub too_new : v < w → false ≡ by_record false (root_above above v) (slot_no counted i s)
    unfolding root_above root_up_to
    too_new l = not_such (root_above above v) (slot_no counted i s) (λ r e.
        both (ltb above r.version) _ (both (same_place r.place []) _ (lt-leb r.version v (omega (arith, k ∙ version_own r e)))))

    pub no_top : (count_in (slot_in counted i s) ≡ 0 → ⊥) → false ≡ by_record false (root_above above v) (slot_no counted i s)
    unfolding root_above root_up_to
    no_top f = not_such (root_above above v) (slot_no counted i s) (λ r e.
        both (ltb above r.version) _ (rw (not_top r.place (λ z. f (count_own r e ∙ z)))))

    pub such : above < w → w ≤ v → count_in (slot_in counted i s) ≡ 0 → {x : Bytes} {t : Bool} → x ≡ slot_in counted i s → t ≡ is_used (slot_of x) →
        t ≡ by_record false (root_above above v) (slot_no counted i s)
    unfolding root_above root_up_to
    such a b c d e = e ∙ ap (λ y. is_used (slot_of y)) d ∙ go (slot_of (slot_in counted i s)) (slot_is h)
      where
        go : (y : Slot) → slot_no counted i s ≡ y → is_used y ≡ by_record false (root_above above v) (slot_no counted i s)
        go free u = sym (ap (by_record false (root_above above v)) u)
        go (used r) u =
            let n = k ∙ version_own r u in
            sym (ap (by_record false (root_above above v)) u
            ∙ rw (lt-ltb above r.version (omega arith), is_top r.place (sym (count_own r u) ∙ c), le-leb r.version v (omega arith)))
        go (spoiled x) u = sym (ap (by_record false (root_above above v)) u)

-- the better of what was found so far and what comes
abbrev or_newer : Option Record → Option Record → Option Record
or_newer none q = q
or_newer (some r) q = newer_root r q

newer_past : (q r : Record) (o : Option Record) → r.version ≤ q.version → newer_root q (newer_root r o) ≡ newer_root q o
newer_past q r none h = rw (le-leb r.version q.version h)
newer_past q r (some x) h = go (leb x.version r.version) refl
  where
    go : (b : Bool) → leb x.version r.version ≡ b → newer_root q (cond b (some r) (some x)) ≡ newer_root q (some x)
    go true e =
        let m = leb-true x.version r.version e in
        rw (le-leb r.version q.version h, le-leb x.version q.version (omega arith))
    go false e = refl

newer_over : (q r : Record) (o : Option Record) → q.version < r.version → newer_root q (newer_root r o) ≡ newer_root r o
newer_over q r none h = rw (lt-leb r.version q.version h)
newer_over q r (some x) h = go (leb x.version r.version) refl
  where
    go : (b : Bool) → leb x.version r.version ≡ b → newer_root q (cond b (some r) (some x)) ≡ cond b (some r) (some x)
    go true e = rw (lt-leb r.version q.version h)
    go false e = let m = leb-false x.version r.version e in rw (lt-leb x.version q.version (omega arith))

or_over : (o : Option Record) (r : Record) (p : Option Record) → version_of o < r.version → or_newer o (newer_root r p) ≡ newer_root r p
or_over none r p h = refl
or_over (some q) r p h = newer_over q r p h

or_past : (o : Option Record) (r : Record) (p : Option Record) → 1 ≤ r.version → r.version ≤ version_of o → or_newer o (newer_root r p) ≡ or_newer o p
or_past none r p a h = absurd (omega arith)
or_past (some q) r p a h = newer_past q r p h

or_none : (o : Option Record) → or_newer o none ≡ o
or_none none = refl
or_none (some r) = refl

-- at slot i of n: the best so far, its slot and its version
pub record Best (s : Bytes) (v n : ℕ) (best : option.Option ℕ) (above i : ℕ) : Type 0 where
  pub it : Option Record
  pub located : Located (store_of s).slots it best
  pub version : above ≡ version_of it
  pub scan : Scan counted s (λ xs ys. newest_root v (store_of s).slots ≡ or_newer it (newest_root v ys)) n i

pub best_start : (s : Bytes) (v : ℕ) {n : ℕ} → size_right counted (length s) ≡ true → n ≡ room_of counted (length s) → Best s v n None 0 0
best_start s v e m = record {
  it = none;
  located = refl;
  version = refl;
  scan = scan_start s (λ xs ys. newest_root v (store_of s).slots ≡ or_newer none (newest_root v ys)) e m refl;
}

module _ {s : Bytes} {v n : ℕ} {best : option.Option ℕ} {above i : ℕ} (w : Best s v n best above i) where
  pub best_has : i < n → Has counted s i
  best_has h = scan_slot w.scan h

  pub best_end : n ≤ i → Located (store_of s).slots (newest_root v (store_of s).slots) best
  best_end h = subst (λ o. Located (store_of s).slots o best) (sym (scan_end w.scan h ∙ or_none w.it)) w.located

  module _ (h : i < n) (bytes : All Byte s) where
    abbrev rest : Option Record
    rest = newest_root v (drop (i + 1) (store_of s).slots)

    -- a slot that is no newer root
    pub best_past : {t : Bool} → t ≡ by_record false (root_above above v) (slot_no counted i s) → t ≡ false → Best s v n best above (i + 1)
    best_past e f = record {
      it = w.it;
      located = w.located;
      version = w.version;
      scan = scan_next w.scan h (λ xs ys. newest_root v (store_of s).slots ≡ or_newer w.it (newest_root v ys))
          (scan_here w.scan h ∙ go (slot_no counted i s) refl);
    }
      where
        by : (r : Record) → slot_no counted i s ≡ used r → (b : Bool) → root_up_to v r ≡ b →
            or_newer w.it (cond b (newer_root r rest) rest) ≡ or_newer w.it rest
        by r u true k =
            or_past w.it r rest (form_own (best_has h) bytes r u).versioned.0
            (omega (arith, w.version, ltb-false above r.version (test r u k)))
          where
            test : (r : Record) → slot_no counted i s ≡ used r → root_up_to v r ≡ true → ltb above r.version ≡ false
            test r u k = go _ refl
              where
                off : root_above above v r ≡ false
                off = sym (ap (by_record false (root_above above v)) u) ∙ sym e ∙ f

                go : (b : Bool) → ltb above r.version ≡ b → b ≡ false
                go false z = refl
                go true z = let on : root_above above v r ≡ true = unfold root_above in rw (z, k) in absurd (true≢false (sym on ∙ off))
        by r u false k = refl

        go : (y : Slot) → slot_no counted i s ≡ y → or_newer w.it (newest_root v (y ∷ drop (i + 1) (store_of s).slots)) ≡ or_newer w.it rest
        go free u = refl
        go (used r) u = by r u (root_up_to v r) refl
        go (spoiled x) u = refl

    -- a newer root
    pub best_next : {t : Bool} {m : ℕ} → t ≡ by_record false (root_above above v) (slot_no counted i s) → t ≡ true → m ≡ version_in (slot_in counted i s) →
        Best s v n (Some i) m (i + 1)
    best_next {t} {m} e f k = go (slot_no counted i s) refl
      where
        go : (y : Slot) → slot_no counted i s ≡ y → Best s v n (Some i) m (i + 1)
        go free u = absurd (true≢false (sym f ∙ e ∙ ap (by_record false (root_above above v)) u))
        go (spoiled x) u = absurd (true≢false (sym f ∙ e ∙ ap (by_record false (root_above above v)) u))
        go (used r) u = record {
          it = some r;
          located = (omega (arith, scan_many w.scan), (r, u, refl));
          version = k ∙ version_own (best_has h) bytes r u;
          scan = scan_next w.scan h (λ xs ys. newest_root v (store_of s).slots ≡ newer_root r (newest_root v ys))
              (scan_here w.scan h ∙ ap (λ y. or_newer w.it (newest_root v (y ∷ drop (i + 1) (store_of s).slots))) u ∙ here);
        }
          where
            on : ltb above r.version && root_up_to v r ≡ true
            on = unfold root_above in (sym (ap (by_record false (root_above above v)) u) ∙ sym e ∙ f)

            first : (a b : Bool) → a && b ≡ true → a ≡ true
            first true b z = refl
            first false b z = absurd (true≢false (sym z))

            second : (a b : Bool) → a && b ≡ true → b ≡ true
            second true b z = z
            second false b z = absurd (true≢false (sym z))

            here : or_newer w.it (cond (root_up_to v r) (newer_root r rest) rest) ≡ newer_root r rest
            here = rw (second (ltb above r.version) (root_up_to v r) on)
                (or_over w.it r rest (omega (arith, w.version, ltb-true above r.version (first (ltb above r.version) (root_up_to v r) on))))

-- the root of a version, from the newest
module _ (s : Bytes) (v : ℕ) (size : size_right counted (length s) ≡ true) (bytes : All Byte s) {f : option.Option ℕ}
    (l : Located (store_of s).slots (newest_root v (store_of s).slots) f) where
  pub root_none : f ≡ None → 0 ≡ root_version (store_of s).slots v
  unfolding root_version source_root
  root_none e = sym (ap (λ o. version_of (unless_retired v o)) (subst (Located (store_of s).slots (newest_root v (store_of s).slots)) e l))

  module _ {i : ℕ} (e : f ≡ Some i) where
    at_i : Located (store_of s).slots (newest_root v (store_of s).slots) (Some i)
    at_i = subst (Located (store_of s).slots (newest_root v (store_of s).slots)) e l

    pub root_has : Has counted s i
    root_has = record { size = size; inside = omega (arith, at_i.0, slots_many counted s) }

    root_by_lem : (b : Bool) → retired_by v at_i.1.0 ≡ b → root_version (store_of s).slots v ≡ version_of (cond b none (some at_i.1.0))
    unfolding root_version source_root
    root_by_lem b k =
        ap (λ o. version_of (unless_retired v o)) at_i.1.2 ∙ ap (λ t. version_of (cond t none (some at_i.1.0))) k

    module _ {m n : ℕ} (version : m ≡ version_in (slot_in counted i s)) (since : n ≡ since_in (slot_in counted i s)) where
      retired_is : n ≡ at_i.1.0.retired
      retired_is = since ∙ since_own root_has bytes at_i.1.0 at_i.1.1

      alive : retired_by v at_i.1.0 ≡ false → m ≡ root_version (store_of s).slots v
      alive k = version ∙ version_own root_has bytes at_i.1.0 at_i.1.1 ∙ sym (root_by_lem false k)

      pub root_unretired : n ≡ 0 → m ≡ root_version (store_of s).slots v
      unfolding retired_by
      root_unretired z = alive (rw (lt-leb 1 at_i.1.0.retired (omega (arith, retired_is))))

      pub root_later : v < n → m ≡ root_version (store_of s).slots v
      unfolding retired_by
      root_later z = alive (both (leb 1 at_i.1.0.retired) _ (lt-leb at_i.1.0.retired v (omega (arith, retired_is))))

      pub root_retired : (n ≡ 0 → ⊥) → n ≤ v → 0 ≡ root_version (store_of s).slots v
      unfolding retired_by
      root_retired y z =
          sym (root_by_lem true (rw (le-leb 1 at_i.1.0.retired (omega (arith, retired_is, y)), le-leb at_i.1.0.retired v (omega (arith, retired_is)))))
