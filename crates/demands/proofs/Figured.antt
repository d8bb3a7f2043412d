-- Document 02, 2026-14, the figures of a range over their contract: two outcomes are equal, each number of refusal is given exactly if its row deserves it, a
-- refused call writes nothing, and what an accepted one gives are counts over the trees. Assumes nothing.
use Prim.Native.Nat.{ℕ, suc, ◌+◌, ◌*◌, ◌-◌, ◌≤◌}
use native.Mathlib.Omega.{arith}
use mathlib.Core.Path.{◌≡◌, refl, ap, sym, ◌∙◌, subst}
use mathlib.Core.Bool.{Bool, true, false, cond}
use mathlib.Core.List.{[], ◌∷◌, ◌++◌, map}
use lib.ListN.{length, take, drop}
use lib.Seq.{drop_at}
use lib.Dec.{ltb}
use Rattle.terms.specs.Bits.{Bytes}
use Rattle.terms.specs.Fields.{field, slice, flat}
use Rattle.terms.specs.Records.{Store}
use Rattle.meaning.specs.Store.{tree_at_version}
use Rattle.meaning.specs.Sound.{Kept}
use Rattle.meaning.specs.Calls.{Answer, refused, accepted, refuse}
use Rattle.meaning.specs.Answers.{number_of, room_after, told_of}
use Rattle.meaning.proofs.Told.{exported_kept, one_exported}
use Rattle.nodehash.specs.Node.{leaf_hash, inner_hash}
use Rattle.layout.specs.Stores.{store_of}
use Rattle.promises.specs.Calls.{SoundBytes, Does, not_checked, refuses, accepts}
use Rattle.promises.proofs.Calls.{one_outcome}
use Rattle.quarter.specs.Figures.{Figures, figures_of, figures_bytes, figures_size, range_right, versions_from, versions, Quarter, quarter_of, figures}
use Rattle.quarter.specs.Living.{figures_over}
use Rattle.quarter.proofs.Theorems.{leaves_are_grants}
use Rattle.quarter.proofs.Small.{figures_are_small, distinct_is_small, records_are_small}
use Rattle.quarter.proofs.Told.{leaves_told, inners_told, longest_told, sum_told, versions_long, version_told, distinct_told, records_told, no_grant_no_node, nothing_told}
use Rattle.contracts.specs.Figures.{totals_bytes}
use Rattle.refusals.specs.Exactly.{Exactly}
use Rattle.refusals.specs.Tables.{KeptRange, figures_rows}
use Rattle.refusals.proofs.Parts.{range_rows}
use Rattle.refusals.proofs.Exactly.{First, exactly}
use Rattle.refusals.proofs.Figures.{range_said, figures_first}
use Rattle.contracts.specs.Contracts as contracts
use Rattle.demands.specs.Claims.{tree_of_version, grants_of_version, NextVersion, latest_of}
use Rattle.demands.specs.Quarter.{FiguresAre, GivesFigures}
use Rattle.demands.proofs.Refusals.{no_refusal, refused_of}
use Rattle.demands.proofs.Exact.{does_first}

pub one_figures : {first last : ℕ} {s room f t u g h : Bytes} {a b : ℕ} → contracts.Figures first last s room f a t g →
    contracts.Figures first last s room f b u h → (a ≡ b) × (t ≡ u) × (g ≡ h)
one_figures {room = room} x y =
    let o = (one_outcome x.does y.does).0 in
    let (e, d) = one_exported o x.exported y.exported in
    (e, x.numbers ∙ ap (λ a. room_after (λ q. flat (map figures_bytes q.each)) a room) o ∙ sym y.numbers, d)

-- 1, 2, 3, 8, 9.
pub figures_exactly : (first last : ℕ) {s room f t g : Bytes} {r : ℕ} → contracts.Figures first last s room f r t g → Exactly (figures_rows s first last room) r
figures_exactly first last {s} {room} {r = r} w =
    exactly (figures_rows s first last room) r refl
    (subst (First (figures_rows s first last room)) (sym w.exported.number)
    (does_first (figures first last (length room)) s (range_rows s first last room) w.answer (figures_first s first last room) w.does))

pub refused_figures_writes_nothing : {first last : ℕ} {s room f t g : Bytes} {r : ℕ} → contracts.Figures first last s room f r t g → (r ≡ 0 → ⊥) →
    (t ≡ room) × (g ≡ f)
refused_figures_writes_nothing {room = room} w h =
    let e = refused_of w.answer (λ z. h (w.exported.number ∙ z)) in
    (w.numbers ∙ ap (λ a. room_after (λ q. flat (map figures_bytes q.each)) a room) e.1, exported_kept w.exported h)

-- when the figures of a sound store are given, and which; they are never refused with 0
record Given (st : Store) (first last : ℕ) (q : Quarter) : Type 0 where
  right : range_right st first last ≡ true
  is : quarter_of st first last ≡ q

same_quarter : {x y : Quarter} → ◌≡◌ {A = Answer Quarter} (accepted x) (accepted y) → x ≡ y
same_quarter e = cc

module _ (st : Store) (first last room : ℕ) where
  given : (q : Quarter) → (figures first last room st).answer ≡ accepted q → Given st first last q
  unfolding figures refuse
  given q = go (range_right st first last) (ltb room (figures_size * (suc last - first))) refl
    where
      go : (a b : Bool) → range_right st first last ≡ a →
          (cond a (cond b (refuse 9 st) (record { answer = accepted (quarter_of st first last); store = st })) (refuse 8 st)).answer ≡ accepted q → Given st first last q
      go false b e h = no_refusal (sym h)
      go true true e h = no_refusal (sym h)
      go true false e h = record { right = e; is = same_quarter h }

  not_0 : (figures first last room st).answer ≡ refused 0 → ⊥
  unfolding figures refuse
  not_0 = go (range_right st first last) (ltb room (figures_size * (suc last - first)))
    where
      go : (a b : Bool) → (cond a (cond b (refuse 9 st) (record { answer = accepted (quarter_of st first last); store = st })) (refuse 8 st)).answer ≡ refused 0 → ⊥
      go false b h = let z : ◌≡◌ {A = ℕ} 8 0 = cc in absurd (omega arith)
      go true true h = let z : ◌≡◌ {A = ℕ} 9 0 = cc in absurd (omega arith)
      go true false h = no_refusal h

-- Figures that were given are counts over the trees.
module _ (first last : ℕ) (s room f t g : Bytes) (h : SoundBytes s) (right : range_right (store_of s) first last ≡ true)
    (left : t ≡ room_after (λ q. flat (map figures_bytes q.each)) (accepted (quarter_of (store_of s) first last)) room) (told : g ≡ totals_bytes (quarter_of (store_of s) first last)) where
  abbrev st : Store
  st = store_of s

  range : KeptRange s first last
  range = range_said s first last right

  abbrev bytes : Bytes
  bytes = flat (map figures_bytes (figures_over st (versions_from first (suc last - first))))

  room_is : t ≡ bytes ++ drop (length bytes) room
  unfolding quarter_of versions
  room_is = left

  part_is : (v : ℕ) → first ≤ v → v ≤ last → slice (16 * (v - first)) 16 t ≡ figures_bytes (figures_of (tree_at_version st v))
  part_is v a b =
      let there : first + (v - first) ≡ v = omega arith in
      ap (slice (16 * (v - first)) 16) room_is ∙ version_told st first (suc last - first) (v - first) (drop (length bytes) room) (omega arith)
      ∙ ap (λ w. figures_bytes (figures_of (tree_at_version st w))) there

  figures_are : (v : ℕ) → first ≤ v → v ≤ last → FiguresAre (slice (16 * (v - first)) 16 t) (tree_of_version s v)
  figures_are v a b =
      let x = figures_of (tree_at_version st v) in
      let e = part_is v a b in
      let z = figures_are_small leaf_hash inner_hash st h.sound first last right v a b in
      record {
        leaves = ap (field 0 4) e ∙ leaves_told x (omega (arith, z.records));
        inners = ap (field 4 4) e ∙ inners_told x (omega (arith, z.records));
        longest = ap (field 8 4) e ∙ longest_told x (omega (arith, z.longest));
        path_sum = ap (field 12 4) e ∙ sum_told x (omega (arith, z.path_sum));
        grants = ap (field 0 4) e ∙ leaves_told x (omega (arith, z.records)) ∙ leaves_are_grants (tree_at_version st v);
        empty = λ n.
            let kept : Kept st v = (omega (arith, range.0.0), omega (arith, range.1.1)) in
            e ∙ ap (λ y. figures_bytes (figures_of y)) (no_grant_no_node leaf_hash inner_hash st h.sound v kept n) ∙ nothing_told;
        few = z.records;
        short = z.longest;
        small_sum = z.path_sum;
      }

  distinct_is : field 0 4 g ≡ (quarter_of st first last).distinct
  distinct_is =
      ap (field 0 4) told ∙ distinct_told (quarter_of st first last).distinct (quarter_of st first last).records
      (omega (arith, distinct_is_small leaf_hash inner_hash st h.sound first last right))

  records_is : field 4 4 g ≡ (quarter_of st first last).records
  records_is =
      ap (field 4 4) told ∙ records_told (quarter_of st first last).distinct (quarter_of st first last).records
      (omega (arith, records_are_small leaf_hash inner_hash st h.sound first last right))

  gives : GivesFigures first last s room t g
  unfolding quarter_of
  gives = record {
    sound = h;
    range = range;
    each = figures_are;
    alike = λ v w a b c d e. part_is v a b ∙ ap (λ x. figures_bytes (figures_of x)) e ∙ sym (part_is w c d);
    rest =
        let long : length bytes ≡ 16 * (last - first + 1) = versions_long st first (suc last - first) ∙ omega (arith, range.2) in
        ap (drop (16 * (last - first + 1))) room_is ∙ drop_at bytes (drop (length bytes) room) (16 * (last - first + 1)) long
        ∙ ap (λ n. drop n room) long;
    distinct = distinct_is;
    records = records_is;
    few_distinct = omega (arith, distinct_is, distinct_is_small leaf_hash inner_hash st h.sound first last right);
    few_records = omega (arith, records_is, records_are_small leaf_hash inner_hash st h.sound first last right);
  }

pub accepted_figures_are_counts : (first last : ℕ) {s room f t g : Bytes} → contracts.Figures first last s room f 0 t g → GivesFigures first last s room t g
accepted_figures_are_counts first last {s} {room} {f} {t} {g} w = go w.answer w.does w.exported.number w.numbers w.exported.told
  where
    go : (x : Answer Quarter) {y : Bytes} → Does (figures first last (length room)) s x y → 0 ≡ number_of x → t ≡ room_after (λ q. flat (map figures_bytes q.each)) x room → g ≡ told_of totals_bytes x f →
        GivesFigures first last s room t g
    go (refused m) (not_checked c n) z p q = absurd (n (sym z))
    go (refused m) (refuses h e) z p q = absurd (not_0 (store_of s) first last (length room) (e ∙ ap refused (sym z)))
    go (accepted c) (accepts h e) z p q =
        let d = given (store_of s) first last (length room) c e in
        gives first last s room f t g h d.right (p ∙ ap (λ a. room_after (λ q. flat (map figures_bytes q.each)) (accepted a) room) (sym d.is)) (q ∙ ap totals_bytes (sym d.is))

-- A version between two publishings has the figures of the earlier one.
pub between_as_the_earlier : {number : ℕ} {batch s t g : Bytes} → NextVersion number batch s t g → (v : ℕ) → latest_of s ≤ v → v ≤ number - 1 →
    figures_of (tree_of_version t v) ≡ figures_of (tree_of_version s (latest_of s))
between_as_the_earlier w v a b = ap figures_of (w.after.between v a (omega (arith, w.after.above, w.after.latest)))
