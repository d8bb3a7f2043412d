-- A record lives at a kept version exactly up to the end of its life; that end lies above its version and oldest, and at most one above
-- latest. Assumes nothing.
use Prim.Native.Nat.{ℕ, suc, ◌<◌, ◌≤◌}
use native.Mathlib.Omega.{arith}
use mathlib.Core.Path.{◌≡◌, refl}
use mathlib.Core.Logic.{◌⊎◌, inl, inr}
use mathlib.Core.Bool.{Bool, true, false, ◌&&◌}
use mathlib.Core.Option.{some}
use lib.Dec.{eqb, leb}
use borrow.Author.Tests.{eqb-true, eqb-false, le-leb, lt-leb, leb-false}
use Rattle.terms.specs.Bits.{Side, Place}
use Rattle.terms.specs.Records.{Record, Store}
use Rattle.meaning.specs.Store.{retired_by, root_of}
use Rattle.meaning.specs.Sound.{At, Kept, Lives}
use Rattle.meaning.specs.Local.{ends_before, child_version}
use Rattle.meaning.proofs.Roots.{root_at_lem}

-- at v a record has begun and not ended
abbrev pub Living : Store → ℕ → Record → Type 0
Living st v r = (r.version ≤ v) × (v < ends_before st r)

-- a record at p that lives at v and names r as its child on the side b
abbrev pub ParentAt : Store → Place → Side → ℕ → Record → Type 0
ParentAt st p b v r = (j : ℕ) × (q : Record) × At st j q × (q.place ≡ p) × Living st v q × (child_version b q.body ≡ r.version)

-- retired since 0, or since a kept version of its life
abbrev pub Lifetime : Store → Record → Type 0
Lifetime st r = (r.retired ≡ 0) ⊎ ((r.version < r.retired) × (st.oldest < r.retired) × (r.retired ≤ st.latest))

-- the end of a life by cases
abbrev EndCases : Store → Record → Type 0
EndCases st r = ((r.retired ≡ 0) × (ends_before st r ≡ suc st.latest)) ⊎ ((1 ≤ r.retired) × (ends_before st r ≡ r.retired))

-- a life ends after it has begun, after oldest, and at most one after latest
abbrev pub EndsKept : Store → Record → Type 0
EndsKept st r = (r.version < ends_before st r) × (st.oldest < ends_before st r) × (ends_before st r ≤ suc st.latest)

module _ (st : Store) (r : Record) where
  end_cases : EndCases st r
  unfolding ends_before
  end_cases = go _ refl
    where
      go : (b : Bool) → eqb r.retired 0 ≡ b → EndCases st r
      go true e = inl (eqb-true r.retired 0 e, rw e)
      go false e = let f = eqb-false r.retired 0 e in inr (omega arith, rw e)

  pub living_lives : (v : ℕ) → Living st v r → Lives v r
  unfolding retired_by
  living_lives v l = (l.0, go end_cases)
    where
      go : EndCases st r → leb 1 r.retired && leb r.retired v ≡ false
      go (inl e) = rw (lt-leb 1 r.retired (omega arith))
      go (inr e) = rw (le-leb 1 r.retired e.0) (lt-leb r.retired v (omega arith))

  pub lives_living : (v : ℕ) → v ≤ st.latest → Lives v r → Living st v r
  unfolding retired_by
  lives_living v k l = (l.0, go end_cases l.1)
    where
      go : EndCases st r → leb 1 r.retired && leb r.retired v ≡ false → v < ends_before st r
      go (inl e) f = omega arith
      go (inr e) f = omega (arith, leb-false r.retired v (rw (le-leb 1 r.retired e.0) at f))

  pub life_ends : st.oldest ≤ st.latest → r.version ≤ st.latest → Lifetime st r → EndsKept st r
  life_ends o v l = go end_cases l
    where
      go : EndCases st r → Lifetime st r → EndsKept st r
      go (inl e) k = (omega arith, omega arith, omega arith)
      go (inr e) (inl k) = absurd (omega arith)
      go (inr e) (inr k) = (omega arith, omega arith, omega arith)

-- the root of a kept version lives then
pub root_living : (st : Store) (v : ℕ) → Kept st v → (r : Record) → root_of st v ≡ some r → Living st v r
root_living st v k r e = lives_living st r v k.1 (root_at_lem st v r e).3
