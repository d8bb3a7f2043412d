-- What it says that one record names another as its child on a side: the other stands there, with the version that it says.
-- Assumes nothing.
use Prim.Native.Nat.{◌≤◌}
use native.Mathlib.Omega.{arith}
use mathlib.Core.Path.{◌≡◌, refl, ap}
use mathlib.Core.Bool.{Bool, true, false, ◌||◌}
use Rattle.terms.specs.Bits.{Side, left, right, longer}
use Rattle.terms.specs.Records.{Child, Body, leaf_body, inner_body, Record}
use Rattle.meaning.specs.Local.{child_version}
use Rattle.meaning.proofs.Finding.{is_node_eq, is_node_refl}
use Rattle.local.specs.Test.{names, is_parent}

-- q names r on a side: r stands there with the version that q says
pub names_eq : (b : Side) (q r : Record) → names b q r ≡ true → (r.version ≡ child_version b q.body) × (r.place ≡ longer b q.place)
unfolding names
names_eq b q r h = is_node_eq (child_version b q.body) (longer b q.place) r h

pub eq_names : (b : Side) (q r : Record) → r.version ≡ child_version b q.body → r.place ≡ longer b q.place → names b q r ≡ true
unfolding names
eq_names b q r e f = rw (← e, ← f) (is_node_refl r)

pub names_parent : (b : Side) (q r : Record) → names b q r ≡ true → is_parent r q ≡ true
unfolding is_parent
names_parent false q r h = rw h
names_parent true q r h = elim (names left q r) as (λ t. t || names right q r ≡ true) [ true ↦ refl | false ↦ h ]

pub parent_names : (q r : Record) → is_parent r q ≡ true → (b : Side) × (names b q r ≡ true)
unfolding is_parent
parent_names q r h = go (names left q r) refl h
  where
    go : (t : Bool) → names left q r ≡ t → t || names right q r ≡ true → (b : Side) × (names b q r ≡ true)
    go true e k = (left, e)
    go false e k = (right, k)

-- what names a record is an inner record
pub names_inner : (b : Side) (q r : Record) → 1 ≤ r.version → names b q r ≡ true → (l : Child) × (m : Child) × (q.body ≡ inner_body l m)
names_inner b q r v n = go q.body refl
  where
    go : (o : Body) → q.body ≡ o → (l : Child) × (m : Child) × (q.body ≡ inner_body l m)
    go (leaf_body k x) e = absurd (omega (arith, names_eq b q r n, ap (child_version b) e))
    go (inner_body l m) e = (l, m, e)
