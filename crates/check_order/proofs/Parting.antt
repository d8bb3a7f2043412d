-- Where a table's entries follow each other and each record's slot is among them, a root ends before a later one begins: the entries up to
-- a root are roots, and each ends by the version of the next. Assumes nothing.
use Prim.Native.Nat.{ℕ, zero, suc, ◌+◌, ◌-◌, ◌<◌, ◌≤◌}
use native.Mathlib.Omega.{arith}
use mathlib.Core.Path.{◌≡◌, refl, ap, sym, ◌∙◌, subst}
use mathlib.Core.Bool.{Bool, true, false, ◌&&◌, ◌||◌, false≢true}
use mathlib.Core.List.{List, []}
use lib.ListN.{length, get_or}
use lib.Dec.{ltb, eqb}
use borrow.Author.Tests.{ltb-true, ltb-false, eqb-true}
use Rattle.terms.specs.declared.Form.{Form}
use Rattle.terms.specs.Bits.{Bytes, Byte, All, before}
use Rattle.terms.specs.Records.{Record}
use Rattle.meaning.specs.Sound.{At}
use Rattle.meaning.specs.Local.{ends_before}
use Rattle.layout.specs.Slots.{count_in, version_in, since_in}
use Rattle.layout.specs.Headers.{size_right}
use Rattle.layout.specs.Stores.{slot_in, store_in, Has}
use Rattle.lookup.proofs.Matching.{count_is_lem}
use Rattle.store.proofs.Slots.{slots_many}
use Rattle.check_kin.specs.Kin.{ends_at}
use Rattle.check_pass.proofs.Records.{version_of_lem, retired_of, read_long, read_bytes, read_as}
use Rattle.check_order.specs.Order.{node_key, key_no, InOrder, Named}

first_most : (a b c : Bool) {x y : ℕ} → ltb x y ≡ a → eqb x y ≡ b → a || (b && c) ≡ true → x ≤ y
first_most true b c {x} {y} e f h = omega (arith, ltb-true x y e)
first_most false true c {x} {y} e f h = omega (arith, eqb-true x y f)
first_most false false c e f h = absurd (false≢true h)

-- an earlier key has no more bits
no_more_bits : (x y : Bytes) → before (node_key x) (node_key y) ≡ true → count_in x ≤ count_in y
unfolding node_key
no_more_bits x y h = first_most (ltb (count_in x) (count_in y)) (eqb (count_in x) (count_in y)) _ refl refl h

module _ (fm : Form) (latest : ℕ) (s : Bytes) (t : List ℕ) (m : ℕ) (order : InOrder fm latest s t m)
    (lives : (i : ℕ) → Has fm s i → version_in (slot_in fm i s) < ends_at latest (since_in (slot_in fm i s))) where
  abbrev entry : ℕ → Bytes
  entry k = slot_in fm (get_or t k 0) s

  abbrev ends : ℕ → ℕ
  ends k = ends_at latest (since_in (entry k))

  -- an entry's life ends by the version of each later root
  further : (k d : ℕ) → suc (k + d) < m → count_in (entry (suc (k + d))) ≡ 0 → ends k ≤ version_in (entry (suc (k + d)))
  unfolding key_no
  further k zero h z =
      let e : k ≡ k + 0 = omega arith in
      subst (λ n. count_in (entry (suc n)) ≡ 0 → ends k ≤ version_in (entry (suc n))) e (order k (omega arith)).parted z
  further k (suc d) h z =
      let e : suc (suc (k + d)) ≡ suc (k + suc d) = omega arith in
      let last = order (suc (k + d)) (omega arith) in
      let here : count_in (entry (suc (suc (k + d)))) ≡ 0 = ap (λ n. count_in (entry n)) e ∙ z in
      let none : count_in (entry (suc (k + d))) ≡ 0 =
      omega (arith, no_more_bits (entry (suc (k + d))) (entry (suc (suc (k + d)))) last.up, here) in
      let far = further k d (omega arith) none in
      let live = lives (get_or t (suc (k + d)) 0) (order (k + d) (omega arith)).inside in
      subst (λ n. ends k ≤ version_in (entry n)) e (omega (arith, far, live, last.parted here))

  apart : (k l : ℕ) → k < l → l < m → count_in (entry l) ≡ 0 → ends k ≤ version_in (entry l)
  apart k l h g =
      let e : suc (k + (l - suc k)) ≡ l = omega arith in
      subst (λ n. count_in (entry n) ≡ 0 → ends k ≤ version_in (entry n)) e (further k (l - suc k) (omega arith))

  module _ (size : size_right fm (length s) ≡ true) (bytes : All Byte s) (same : (store_in fm s).latest ≡ latest)
      (named : (i : ℕ) (r : Record) → At (store_in fm s) i r → Named t m i) where
    has : (i : ℕ) (r : Record) → At (store_in fm s) i r → Has fm s i
    unfolding At
    has i r a = record { size = size; inside = omega (arith, a.0, slots_many fm s) }

    -- the fields of a root, by an entry that names it
    record Entry (r : Record) : Type 0 where
      at : ℕ
      inside : at < m
      count : count_in (entry at) ≡ length r.place
      version : version_in (entry at) ≡ r.version
      end : ends at ≡ ends_before (store_in fm s) r
      lived : version_in (entry at) < ends at

    its_entry : (i : ℕ) (r : Record) → At (store_in fm s) i r → Entry r
    unfolding ends_before count_in
    its_entry i r a =
        let (k, h, e) = named i r a in
        let w = has i r a in
        let x : entry k ≡ slot_in fm i s = ap (λ n. slot_in fm n s) e in
        record {
          at = k;
          inside = h;
          count = ap count_in x ∙ count_is_lem fm (slot_in fm i s) (read_long w refl) (read_bytes w refl bytes) r (read_as w refl r a);
          version = ap version_in x ∙ sym (version_of_lem (slot_in fm i s) r (read_as w refl r a));
          end = rw (x, same, retired_of (slot_in fm i s) r (read_as w refl r a));
          lived = subst (λ z. version_in z < ends_at latest (since_in z)) (sym x) (lives i w);
        }

    -- The life of a root ends before that of a later one begins.
    pub roots_parted : (i j : ℕ) (r q : Record) → At (store_in fm s) i r → At (store_in fm s) j q → r.place ≡ [] → q.place ≡ [] → r.version < q.version →
        ends_before (store_in fm s) r ≤ q.version
    roots_parted i j r q a c e f v = go (ltb x.at y.at) (ltb y.at x.at) refl refl
      where
        x : Entry r
        x = its_entry i r a

        y : Entry q
        y = its_entry j q c

        go : (b d : Bool) → ltb x.at y.at ≡ b → ltb y.at x.at ≡ d → ends_before (store_in fm s) r ≤ q.version
        go true d g h =
            let w = apart x.at y.at (ltb-true x.at y.at g) y.inside (y.count ∙ ap length f) in
            omega (arith, w, x.end, y.version)
        go false true g h =
            let w = apart y.at x.at (ltb-true y.at x.at h) x.inside (x.count ∙ ap length e) in
            absurd (omega (arith, w, x.version, y.version, y.lived, v))
        go false false g h =
            let k : x.at ≡ y.at = omega (arith, ltb-false x.at y.at g, ltb-false y.at x.at h) in
            absurd (omega (arith, v, x.version, y.version, ap (λ n. version_in (entry n)) k))
