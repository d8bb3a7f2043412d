-- Soundness without the slots' numbers: the form in which it is kept. Each rule that speaks of a record in slot i speaks of a record that
-- stands in some slot. Assumes nothing.
use Prim.Native.Nat.{ℕ, ◌<◌, ◌≤◌}
use native.Mathlib.Omega.{arith}
use mathlib.Core.Path.{◌≡◌, refl, sym, ◌∙◌}
use mathlib.Core.Logic.{◌⊎◌, inl, inr}
use mathlib.Core.Bool.{Bool, true, false, ◌&&◌, true≢false}
use mathlib.Core.List.{[]}
use lib.ListN.{length}
use lib.Dec.{leb}
use borrow.Author.Tests.{leb-true, leb-false, le-leb}
use Rattle.terms.specs.Bits.{Bytes}
use Rattle.terms.specs.Records.{Record, free, used, spoiled, Store}
use Rattle.terms.specs.Form.{top32}
use Rattle.terms.proofs.Members.{In, get_d_in, in_get_d}
use Rattle.meaning.specs.Store.{tree_at_version, retired_by}
use Rattle.meaning.specs.Sound.{most_slots, At, Kept, Stands, Sound}
use Rattle.histories.proofs.Slots.{Has, Unique, at_unique, unique_at}
use Rattle.histories.proofs.Standing.{Formed, Exact}

-- retired-since is 0, or above the record's version, above oldest and at most latest
abbrev pub Lifetime : ℕ → ℕ → Record → Type 0
Lifetime oldest latest r = (r.retired ≡ 0) ⊎ ((r.version < r.retired) × (oldest < r.retired) × (r.retired ≤ latest))

-- not retired by v: where it is retired at all, it is so since a later version
pub retired_later : (v : ℕ) (r : Record) → retired_by v r ≡ false → 1 ≤ r.retired → v < r.retired
unfolding retired_by
retired_later v r e h = go (leb r.retired v) refl
  where
    go : (b : Bool) → leb r.retired v ≡ b → v < r.retired
    go true f = absurd (true≢false (sym (rw (le-leb 1 r.retired h, f)) ∙ e))
    go false f = leb-false r.retired v f

pub not_retired : (v : ℕ) (r : Record) → (1 ≤ r.retired → v < r.retired) → retired_by v r ≡ false
unfolding retired_by
not_retired v r f = go (leb 1 r.retired) (leb r.retired v) refl refl
  where
    go : (a b : Bool) → leb 1 r.retired ≡ a → leb r.retired v ≡ b → a && b ≡ false
    go true true e g = absurd (omega (arith, f (leb-true 1 r.retired e), leb-true r.retired v g))
    go true false e g = refl
    go false b e g = refl

module _ (leaf_hash inner_hash : Bytes → Bytes → Bytes) where
  pub record Whole (st : Store) : Type 0 where
    pub size : (1 ≤ length st.slots) × (length st.slots ≤ most_slots)
    pub header : (st.oldest ≤ st.latest) × (st.latest ≤ top32)
    pub whole : (x : Bytes) → In (spoiled x) st.slots → ⊥
    pub formed : Formed st.slots
    pub unique : Unique st.slots
    pub versions : (r : Record) → Has r st.slots → (1 ≤ r.version) × (r.version ≤ st.latest)
    pub lifetimes : (r : Record) → Has r st.slots → Lifetime st.oldest st.latest r
    pub stands : (v : ℕ) → Kept st v → Stands leaf_hash inner_hash st [] (tree_at_version st v)
    pub exact : (v : ℕ) → Kept st v → Exact st.slots v (tree_at_version st v)

  pub sound_whole : (st : Store) → Sound leaf_hash inner_hash st → Whole st
  unfolding At
  sound_whole st s = record {
    size = s.size;
    header = s.header;
    whole = λ x h. let m = in_get_d st.slots free (spoiled x) h in s.whole m.0 x m.1 m.2;
    formed = λ r h. let m = in_get_d st.slots free (used r) h in s.formed m.0 r (m.1, m.2);
    unique = at_unique st.slots (λ i j r q a b c d e f. s.unique i j r q (a, b) (c, d) e f);
    versions = λ r h. let m = in_get_d st.slots free (used r) h in s.versions m.0 r (m.1, m.2);
    lifetimes = λ r h. let m = in_get_d st.slots free (used r) h in s.lifetimes m.0 r (m.1, m.2);
    stands = s.stands;
    exact = λ v k r h. let m = in_get_d st.slots free (used r) h in s.exact v k m.0 r (m.1, m.2);
  }

  pub whole_sound : (st : Store) → Whole st → Sound leaf_hash inner_hash st
  unfolding At
  whole_sound st w = record {
    size = w.size;
    header = w.header;
    whole = λ i x l e. w.whole x (get_d_in st.slots i free (spoiled x) l e);
    formed = λ i r a. w.formed r (get_d_in st.slots i free (used r) a.0 a.1);
    unique = λ i j r q a b e f. unique_at st.slots w.unique i j r q a.0 a.1 b.0 b.1 e f;
    versions = λ i r a. w.versions r (get_d_in st.slots i free (used r) a.0 a.1);
    lifetimes = λ i r a. w.lifetimes r (get_d_in st.slots i free (used r) a.0 a.1);
    stands = w.stands;
    exact = λ v k i r c. w.exact v k r (get_d_in st.slots i free (used r) c.0 c.1);
  }
