-- The numbers of the versions written one after the other: before version i the part is filled, from it on it is as it was. Assumes nothing.
use Prim.Native.Nat.{ℕ, zero, suc, ◌+◌, ◌*◌, ◌-◌, ◌/◌, ◌<◌, ◌≤◌}
use native.Mathlib.Omega.{arith}
use mathlib.Core.Path.{◌≡◌, refl, ap, ap₂, sym, ◌∙◌}
use mathlib.Core.List.{List, [], ◌∷◌, ◌++◌, append-nil, append_assoc}
use lib.ListN.{length, take, drop, length-append, length-drop, length-take, drop_of_length-le}
use lib.Seq.{drop-drop, take_at, drop_at}
use Rattle.terms.specs.Bits.{Bytes}
use Rattle.terms.specs.Fields.{le}
use Rattle.terms.specs.Records.{Store}
use Rattle.terms.proofs.Fields.{length_le}
use Rattle.meaning.specs.Store.{tree_at_version}
use Rattle.nodehash.specs.Node.{leaf_hash, inner_hash}
use Rattle.fields.specs.Written.{written}
use Rattle.fields.proofs.Written.{fields_fill}
use Rattle.layout.specs.Stores.{store_of}
use Rattle.quarter.specs.Figures.{Figures, figures_of, figures_bytes, leaves, inners, versions_from, versions, records_over}
use Rattle.quarter.specs.Living.{figures_over}
use Rattle.quarter.proofs.Theorems.{RangeRight, range_right_lem, living_counts}
use Rattle.figures_count.specs.Count.{figures_say}
use Rattle.figures_count.specs.declared.Figures as declared
use Rattle.figures_block.specs.Block.{Counts}
use Rattle.figures_write.specs.Parts.{each_bytes, Range, Writes}

-- four numbers of four bytes
pub figures_put : (c : declared.Figures) (f f₁ f₂ f₃ f₄ : Bytes) → length f ≡ 16 → f₁ ≡ written 0 (le 4 c.leaves) f → f₂ ≡ written 4 (le 4 c.inners) f₁ →
    f₃ ≡ written 8 (le 4 c.longest) f₂ → f₄ ≡ written 12 (le 4 c.sum) f₃ → f₄ ≡ figures_bytes (figures_say c)
unfolding figures_bytes
figures_put c f f₁ f₂ f₃ f₄ l a b d e =
    e
    ∙ ap (written 12 (le 4 c.sum)) (d ∙ ap (written 8 (le 4 c.longest)) (b ∙ ap (written 4 (le 4 c.inners)) a))
    ∙ fields_fill (4 ∷ 4 ∷ 4 ∷ 4 ∷ []) (le 4 c.leaves ∷ le 4 c.inners ∷ le 4 c.longest ∷ le 4 c.sum ∷ []) f
    (length_le 4 c.leaves, (length_le 4 c.inners, (length_le 4 c.longest, (length_le 4 c.sum, tt)))) (sym l)

length_figures : (f : Figures) → length (figures_bytes f) ≡ 16
unfolding figures_bytes
length_figures f =
    simp (length-append, length_le) refl

-- one version more
module _ (st : Store) where
  more_figures : (v n : ℕ) → figures_over st (versions_from v (suc n)) ≡ figures_over st (versions_from v n) ++ (figures_of (tree_at_version st (v + n)) ∷ [])
  more_figures v zero = let e : v ≡ v + 0 = omega arith in ap (λ u. figures_of (tree_at_version st u) ∷ []) e
  more_figures v (suc n) =
      let e : suc v + n ≡ v + suc n = omega arith in
      ap (λ fs. figures_of (tree_at_version st v) ∷ fs)
      (more_figures (suc v) n ∙ ap (λ u. figures_over st (versions_from (suc v) n) ++ (figures_of (tree_at_version st u) ∷ [])) e)

  more_records : (v n : ℕ) → records_over st (versions_from v (suc n))
      ≡ records_over st (versions_from v n) + (leaves (tree_at_version st (v + n)) + inners (tree_at_version st (v + n)))
  more_records v zero =
      let e : v ≡ v + 0 = omega arith in
      omega (arith, ap (λ u. leaves (tree_at_version st u) + inners (tree_at_version st u)) e)
  more_records v (suc n) =
      let e : suc v + n ≡ v + suc n = omega arith in
      omega (arith, more_records (suc v) n, ap (λ u. leaves (tree_at_version st u) + inners (tree_at_version st u)) e)

each_more : (fs : List Figures) (f : Figures) → each_bytes (fs ++ (f ∷ [])) ≡ each_bytes fs ++ figures_bytes f
each_more [] f = append-nil (figures_bytes f)
each_more (g ∷ fs) f = ap (λ x. figures_bytes g ++ x) (each_more fs f) ∙ sym (append_assoc (figures_bytes g) (each_bytes fs) (figures_bytes f))

-- before version i
pub record Writing (first last : ℕ) (s part₀ part : Bytes) (n records i : ℕ) : Type 0 where
  pub range : Range first last s part₀
  pub many : n ≡ suc last - first
  pub within : i ≤ n
  pub few : records ≤ 16384 * i
  pub count : records ≡ records_over (store_of s) (versions_from first i)
  pub filled : part ≡ each_bytes (figures_over (store_of s) (versions_from first i)) ++ drop (16 * i) part₀
  pub front : length (each_bytes (figures_over (store_of s) (versions_from first i))) ≡ 16 * i

pub writing_starts : (first last : ℕ) (s part : Bytes) {n : ℕ} → Range first last s part → n ≡ length part / 16 → Writing first last s part part n 0 0
writing_starts first last s part r e = record {
  range = r;
  many = omega (arith, r.long);
  within = omega arith;
  few = omega arith;
  count = refl;
  filled = refl;
  front = refl;
}

module _ {first last : ℕ} {s part₀ part : Bytes} {n records i : ℕ} (w : Writing first last s part₀ part n records i) where
  pub writing_range : RangeRight (store_of s) first last
  writing_range = range_right_lem (store_of s) first last w.range.right

  pub writing_same : length part ≡ length part₀
  writing_same = ap length w.filled ∙ simp (length-append, length-drop) (omega (arith, w.front, w.range.long, w.many, w.within))

  module _ (h : i < n) where
    pub writing_part : length (take (16 * i + 16 - 16 * i) (drop (16 * i) part)) ≡ 16
    writing_part = simp (length-take, length-drop) (omega (arith, writing_same, w.range.long, w.many))

    pub writing_next : (f : declared.Figures) (y : Bytes) → Counts s (first + i) f → y ≡ figures_bytes (figures_say f) →
        Writing first last s part₀ (take (16 * i) part ++ (y ++ drop (16 * i + 16 - 16 * i) (drop (16 * i) part))) n (records + (f.leaves + f.inners)) (i + 1)
    writing_next f y c e =
        let g = writing_range in
        let its : figures_say f ≡ figures_of (tree_at_version (store_of s) (first + i)) =
        c.told ∙ (living_counts (store_of s) first last leaf_hash inner_hash w.range.sound.sound w.range.right).0 (first + i) (omega arith)
        (omega (arith, w.many, h, g.ordered)) in
        let one : suc i ≡ i + 1 = omega arith in
        let old = each_bytes (figures_over (store_of s) (versions_from first i)) in
        let grown : each_bytes (figures_over (store_of s) (versions_from first (i + 1))) ≡ old ++ y =
        ap (λ k. each_bytes (figures_over (store_of s) (versions_from first k))) (sym one)
        ∙ ap each_bytes (more_figures (store_of s) first i)
        ∙ each_more (figures_over (store_of s) (versions_from first i)) (figures_of (tree_at_version (store_of s) (first + i)))
        ∙ ap (λ z. old ++ z) (sym (e ∙ ap figures_bytes its)) in
        record {
          range = w.range;
          many = w.many;
          within = omega arith;
          few = omega (arith, w.few, c.few);
          count =
              ap₂ ◌+◌ w.count (ap₂ ◌+◌ (ap (λ (q : Figures). q.leaves) its) (ap (λ (q : Figures). q.inners) its))
              ∙ sym (more_records (store_of s) first i) ∙ ap (λ k. records_over (store_of s) (versions_from first k)) one;
          filled =
              ap₂ (λ a b. a ++ (y ++ drop (16 * i + 16 - 16 * i) b))
              (ap (take (16 * i)) w.filled ∙ take_at old (drop (16 * i) part₀) (16 * i) w.front)
              (ap (drop (16 * i)) w.filled ∙ drop_at old (drop (16 * i) part₀) (16 * i) w.front)
              ∙ ap (λ z. old ++ (y ++ z)) (drop-drop (16 * i + 16 - 16 * i) (16 * i) part₀ ∙ drop_is)
              ∙ sym (append_assoc old y (drop (16 * (i + 1)) part₀))
              ∙ ap (λ z. z ++ drop (16 * (i + 1)) part₀) (sym grown);
          front = ap length grown ∙ length-append old y ∙ omega (arith, w.front, ap length e, length_figures (figures_say f));
        }
      where
        drop_is : drop (16 * i + (16 * i + 16 - 16 * i)) part₀ ≡ drop (16 * (i + 1)) part₀
        drop_is = let k : 16 * i + (16 * i + 16 - 16 * i) ≡ 16 * (i + 1) = omega arith in ap (λ m. drop m part₀) k

  pub writing_done : n ≤ i → Writes first last s records part
  unfolding versions
  writing_done h =
      let k : i ≡ suc last - first = omega (arith, w.many, w.within) in
      record {
        count = w.count ∙ ap (λ m. records_over (store_of s) (versions_from first m)) k;
        bytes =
            w.filled
            ∙ ap₂ (λ a b. a ++ b) (ap (λ m. each_bytes (figures_over (store_of s) (versions_from first m))) k)
            (drop_of_length-le part₀ {i = 16 * i} (omega (arith, w.range.long)))
            ∙ append-nil _;
      }
