-- Within the time of one root nothing is compared: the version before has the same root, and equal versions join and hold nothing new. So a
-- loop goes back by roots and not by versions. Assumes nothing.
use Prim.Native.Nat.{ℕ, zero, suc, ◌≤◌}
use native.Mathlib.Omega.{arith}
use mathlib.Core.Path.{◌≡◌, refl, ap, sym, ◌∙◌}
use mathlib.Core.Bool.{true, false}
use mathlib.Core.List.{List, []}
use mathlib.Core.Option.{Option, none, some, some-injective}
use borrow.Author.Tests.{eq-eqb}
use Rattle.terms.specs.Bits.{Bytes, Place}
use Rattle.terms.specs.Records.{Record, Slot}
use Rattle.meaning.specs.Store.{find, retired_by}
use Rattle.histories.proofs.Slots.{Has, find_has}
use Rattle.histories.proofs.Standing.{Formed}
use Rattle.histories.proofs.Whole.{retired_later, not_retired}
use Rattle.rescue_rules.specs.Rescue.{newest_root, unless_retired, source_root}
use Rattle.rescue_rules.specs.Joining.{version_of, root_version, newest_child, join_at}
use Rattle.rescue_laws.proofs.Roots.{Newest, no_root_lem, is_newest, newest_root_lem, root_at_lem, root_place, root_newest, root_lives}

module _ (s : List Slot) (v : ℕ) (r : Record) (e : source_root s (suc v) ≡ some r) (h : r.version ≤ v) where
  -- the root of v is that of the next version
  pub same_block : source_root s v ≡ some r
  unfolding source_root
  same_block = go (newest_root v s) (newest_root_lem v s)
    where
      has : Has r s × (r.version ≡ r.version) × (r.place ≡ [])
      has = find_has r.version [] s r (root_at_lem s (suc v) r e)

      lives : retired_by v r ≡ false
      lives = not_retired v r (λ k. omega (arith, retired_later (suc v) r (root_lives s (suc v) r e) k))

      go : (o : Option Record) → Newest v s o → unless_retired v o ≡ some r
      go none (no_root_lem f) = absurd (f r has.0 (root_place s (suc v) r e) h)
      go (some q) (is_newest q' d l g f) =
          let i = root_newest s (suc v) r e q (find_has q.version [] s q g).0 d (omega arith) in
          let j = f r has.0 (root_place s (suc v) r e) h in
          let k : q.version ≡ r.version = omega arith in
          let same : q ≡ r = some-injective q r (sym g ∙ ap (λ x. find x [] s) k ∙ root_at_lem s (suc v) r e) in
          rw (ap (retired_by v) same ∙ lives) (ap some same)

-- equal versions join and hold nothing new
pub same_joins : (leaf_hash inner_hash : Bytes → Bytes → Bytes) (n : ℕ) (s : List Slot) (next a b : ℕ) (p : Place) → a ≡ b →
    join_at leaf_hash inner_hash n s next a b p ≡ true
same_joins leaf_hash inner_hash zero s next a b p e = rw (eq-eqb a b e) refl
same_joins leaf_hash inner_hash (suc n) s next a b p e = rw (eq-eqb a b e) refl

pub same_floor : (n : ℕ) (s : List Slot) (a b : ℕ) (p : Place) → a ≡ b → newest_child n s a b p ≡ 0
same_floor zero s a b p e = refl
same_floor (suc n) s a b p e = rw (eq-eqb a b e) refl

module _ (leaf_hash inner_hash : Bytes → Bytes → Bytes) (s : List Slot) (z : Formed s) (v : ℕ) (r : Record) (e : source_root s (suc v) ≡ some r)
    (h : r.version ≤ v) where
  pub same_version : (root_version s v ≡ r.version) × (root_version s v ≡ root_version s (suc v))
  unfolding root_version
  same_version = (ap version_of (same_block s v r e h), ap version_of (same_block s v r e h ∙ sym e))
