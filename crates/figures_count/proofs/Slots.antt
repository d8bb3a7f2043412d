-- What the fields of a slot's bytes say of the record in it, and so whether it lives and what it adds. Assumes nothing.
use Prim.Native.Nat.{ℕ, suc, ◌+◌, ◌≤◌, ◌<◌, max}
use native.Mathlib.Omega.{arith}
use mathlib.Core.Path.{◌≡◌, refl, ap, sym, ◌∙◌, subst}
use mathlib.Core.Logic.{inl, inr}
use mathlib.Core.Bool.{Bool, true, false, cond, false≢true}
use lib.ListN.{length}
use lib.Dec.{ltb}
use borrow.Author.Tests.{le-leb, lt-leb, ltb-true, ltb-false}
use Rattle.terms.specs.declared.Form.TheVariants.{Counted as counted}
use Rattle.terms.specs.Bits.{Bytes, Byte, All}
use Rattle.terms.specs.Records.{Body, leaf_body, inner_body, Record, Slot, free, used, spoiled}
use Rattle.terms.specs.Form.{place_limit}
use Rattle.meaning.specs.Store.{retired_by}
use Rattle.layout.specs.Sizes.{slot_size, leaf_kind, inner_kind}
use Rattle.layout.specs.Slots.{version_in, since_in, count_in, leaf_in, inner_in, record_in, slot_of}
use Rattle.layout.specs.Stores.{slot_in, slot_no}
use Rattle.store.proofs.Slots.{slot_long, slot_bytes_lem, slot_within, slot_is}
use Rattle.lookup.proofs.Matching.{says, count_is_lem}
use Rattle.check_pass.specs.Passes.{kind_in}
use Rattle.check_pass.proofs.Records.{kind_most, record_cases, version_of_lem, retired_of, free_zero}
use Rattle.quarter.specs.Figures.{Figures}
use Rattle.quarter.specs.Living.{lives_in, with_leaf, with_inner, body_adds, slot_lives, slot_adds}
use Rattle.quarter.proofs.Theorems.{four, same_four}
use Rattle.figures_count.specs.Count.{figures_say, Plain}
use Rattle.figures_count.specs.declared.Figures as declared

-- what the body is, by its kind
abbrev pub Bodied : Bytes → Body → Type 0
Bodied x (leaf_body k v) = kind_in x ≡ leaf_kind
Bodied x (inner_body l r) = kind_in x ≡ inner_kind (length x)

-- a slot that isn't spoiled: free, with version 0, or a record, with what its fields say
pub data Holds (x : Bytes) : Slot → Type 0 where
  holds_none : version_in x ≡ 0 → Holds x free
  holds_record : (r : Record) → 1 ≤ r.version → r.version ≡ version_in x → r.retired ≡ since_in x → count_in x ≡ length r.place → length r.place ≤ 256 →
      Bodied x r.body → Holds x (used r)

limit_256 : (b : Body) → place_limit b ≤ 256
limit_256 (leaf_body k x) = omega arith
limit_256 (inner_body l r) = omega arith

bodied : (x : Bytes) (r : Record) → slot_of x ≡ used r → Bodied x r.body
unfolding record_in leaf_in inner_in
bodied x r e = elim (record_cases x r e) [
  | inl w ↦ subst (Bodied x) (sym (ap (λ q. q.body) w.1)) w.0
  | inr w ↦ subst (Bodied x) (sym (ap (λ q. q.body) w.1)) w.0
]

pub holding : (s : Bytes) (i : ℕ) → Plain s i → All Byte s → Holds (slot_in counted i s) (slot_no counted i s)
unfolding count_in
holding s i p b = go (slot_no counted i s) refl
  where
    long : length (slot_in counted i s) ≡ slot_size counted
    long = slot_long counted i s (slot_within p.has)

    bytes : All Byte (slot_in counted i s)
    bytes = slot_bytes_lem counted i s b

    go : (y : Slot) → slot_no counted i s ≡ y → Holds (slot_in counted i s) y
    go free e = holds_none (free_zero counted (slot_in counted i s) long bytes (sym (slot_is p.has) ∙ e)).0
    go (used r) e =
        let f = sym (slot_is p.has) ∙ e in
        let w = says {fm = counted} (slot_in counted i s) long bytes r f in
        holds_record r w.form.versioned.0 (version_of_lem (slot_in counted i s) r f) (retired_of (slot_in counted i s) r f) (count_is_lem counted (slot_in counted i s) long bytes r f)
        (omega (arith, w.form.short, limit_256 r.body)) (bodied (slot_in counted i s) r f)
    go (spoiled x) e = absurd (p.whole x e)

-- whether it lives, test by test
module _ {x : Bytes} {y : Slot} (h : Holds x y) (first last : ℕ) where
  pub not_there : version_in x ≡ 0 → false ≡ slot_lives first last y
  not_there e = go y h
    where
      go : (y : Slot) → Holds x y → false ≡ slot_lives first last y
      go (spoiled _) x3 = elim x3 [ ]
      go free (holds_none z) = refl
      go (used r) (holds_record r' o v t c l b) = absurd (omega arith)

  pub not_yet : (version_in x ≡ 0 → ⊥) → last < version_in x → false ≡ slot_lives first last y
  unfolding lives_in
  not_yet n e = go y h
    where
      go : (y : Slot) → Holds x y → false ≡ slot_lives first last y
      go (spoiled _) x3 = elim x3 [ ]
      go free (holds_none z) = absurd (n z)
      go (used r) (holds_record r' o v t c l b) = rw (lt-leb r.version last (omega (arith, v))) refl

  module _ (n : version_in x ≡ 0 → ⊥) (e : version_in x ≤ last) where
    pub not_ended : since_in x ≡ 0 → true ≡ slot_lives first last y
    unfolding lives_in retired_by
    not_ended z = go y h
      where
        go : (y : Slot) → Holds x y → true ≡ slot_lives first last y
        go (spoiled _) x3 = elim x3 [ ]
        go free (holds_none k) = absurd (n k)
        go (used r) (holds_record r' o v t c l b) = rw (le-leb r.version last (omega (arith, v)), lt-leb 1 r.retired (omega (arith, t, z))) refl

    pub ended : (since_in x ≡ 0 → ⊥) → ltb first (since_in x) ≡ slot_lives first last y
    unfolding lives_in retired_by
    ended z = go y h (ltb first (since_in x)) refl
      where
        go : (y : Slot) → Holds x y → (b : Bool) → ltb first (since_in x) ≡ b → b ≡ slot_lives first last y
        go (spoiled _) x4 b f = elim x4 [ ]
        go free (holds_none k) b f = absurd (n k)
        go (used r) (holds_record r' o v t c l b) true f =
            let k = ltb-true first (since_in x) f in
            rw (le-leb r.version last (omega (arith, v)), le-leb 1 r.retired (omega (arith, t, z)), lt-leb r.retired first (omega (arith, t, k))) refl
        go (used r) (holds_record r' o v t c l b) false f =
            let k = ltb-false first (since_in x) f in
            rw (le-leb r.version last (omega (arith, v)), le-leb 1 r.retired (omega (arith, t, z)), le-leb r.retired first (omega (arith, t, k))) refl

-- what it adds
module _ {x : Bytes} {y : Slot} (h : Holds x y) (v : ℕ) (f : Figures) where
  pub adds_nothing : slot_lives v v y ≡ false → f ≡ slot_adds v y f
  adds_nothing e = go y h e
    where
      go : (y : Slot) → Holds x y → slot_lives v v y ≡ false → f ≡ slot_adds v y f
      go free k e = refl
      go (used r) k e = rw e refl
      go (spoiled z) k e = refl

  pub adds_leaf : slot_lives v v y ≡ true → kind_in x ≡ leaf_kind → (with_leaf (count_in x) f ≡ slot_adds v y f) × (count_in x ≤ 256)
  adds_leaf e k = go y h e
    where
      by_body : (b : Body) (n : ℕ) → Bodied x b → count_in x ≡ n → with_leaf (count_in x) f ≡ body_adds n b f
      by_body (leaf_body a c) n w q = ap (λ m. with_leaf m f) q
      by_body (inner_body a c) n w q = absurd (omega (arith, kind_most (length x)))

      go : (y : Slot) → Holds x y → slot_lives v v y ≡ true → (with_leaf (count_in x) f ≡ slot_adds v y f) × (count_in x ≤ 256)
      go (spoiled _) x4 e = elim x4 [ ]
      go free (holds_none z) e = absurd (false≢true e)
      go (used r) (holds_record r' o w t c l b) e = (rw e (by_body r.body (length r.place) b c), omega (arith, c, l))

  pub adds_inner : slot_lives v v y ≡ true → (kind_in x ≡ leaf_kind → ⊥) → with_inner f ≡ slot_adds v y f
  adds_inner e k = go y h e
    where
      by_body : (b : Body) (n : ℕ) → Bodied x b → with_inner f ≡ body_adds n b f
      by_body (leaf_body a c) n w = absurd (k w)
      by_body (inner_body a c) n w = refl

      go : (y : Slot) → Holds x y → slot_lives v v y ≡ true → with_inner f ≡ slot_adds v y f
      go (spoiled _) x4 e = elim x4 [ ]
      go free (holds_none z) e = absurd (false≢true e)
      go (used r) (holds_record r' o w t c l b) e = rw e (by_body r.body (length r.place) b)

-- a slot adds one node at most, and 256 steps
pub adds_few : {x : Bytes} (y : Slot) → Holds x y → (v : ℕ) (f : Figures) →
    ((slot_adds v y f).leaves + (slot_adds v y f).inners ≤ suc (f.leaves + f.inners)) × ((slot_adds v y f).path_sum ≤ f.path_sum + 256)
adds_few free h v f = (omega arith, omega arith)
adds_few (spoiled z) h v f = (omega arith, omega arith)
adds_few (used r) (holds_record r' o w t c l b) v f = go (lives_in v v r) r.body
  where
    go : (q : Bool) (o : Body) → ((cond q (body_adds (length r.place) o f) f).leaves + (cond q (body_adds (length r.place) o f) f).inners ≤ suc (f.leaves + f.inners))
        × ((cond q (body_adds (length r.place) o f) f).path_sum ≤ f.path_sum + 256)
    go false o = (omega arith, omega arith)
    go true (leaf_body k x) = (omega arith, omega (arith, l))
    go true (inner_body a d) = (omega arith, omega arith)

-- the numbers with one more
pub leaf_added : (f : declared.Figures) (n : ℕ) {m : ℕ} → m ≡ max n f.longest → four (f.leaves + 1) f.inners m (f.sum + n) ≡ with_leaf n (figures_say f)
leaf_added f n e = same_four (omega arith) refl e (omega arith)

pub inner_added : (f : declared.Figures) → four f.leaves (f.inners + 1) f.longest f.sum ≡ with_inner (figures_say f)
inner_added f = same_four refl (omega arith) refl refl
