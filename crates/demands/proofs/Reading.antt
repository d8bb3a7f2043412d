-- What is read and shown of a kept version of a sound store are its grants: the reads answer by its tree, which is the tree of its grants; the
-- grants of a sound tree ascend (document 02, 2026-09). Assumes nothing.
use Prim.Native.Nat.{ℕ, zero, suc, ◌<◌, ◌≤◌}
use native.Mathlib.Omega.{arith}
use mathlib.Core.Path.{◌≡◌, refl, sym, ◌∙◌, ap}
use mathlib.Core.Logic.{◌↔◌}
use mathlib.Core.List.{List, [], ◌∷◌}
use lib.ListN.{length}
use Rattle.terms.specs.Bits.{Bytes}
use Rattle.terms.specs.Fields.{le}
use Rattle.terms.specs.Records.{Grant, zeros}
use Rattle.meaning.specs.Tree.{grants_at, tree_of, hash}
use Rattle.meaning.specs.Sound.{Kept}
use Rattle.meaning.specs.Counting.{grant_at}
use Rattle.meaning.specs.Answers.{number_of, told_of}
use Rattle.meaning.proofs.Told.{exported_left, exported_as}
use Rattle.changed.proofs.Lists.{grants_order}
use Rattle.histories.proofs.Theorems.{sound_tree_of_grants}
use Rattle.nodehash.specs.Node.{leaf_hash, inner_hash}
use Rattle.layout.specs.Stores.{store_of}
use Rattle.promises.specs.Calls.{SoundBytes}
use Rattle.contracts.proofs.Numbers.{number_of_sound}
use Rattle.contracts.proofs.Numbers.{position_of_sound}
use Rattle.contracts.specs.Numbers.{grant_bytes}
use Rattle.contracts.specs.Contracts.{ReadsRoot, Counts, ReadsAt}
use Rattle.demands.specs.Claims.{grants_of_version, ReadsFor}
use Rattle.demands.proofs.Refusals.{refused_prove_writes_nothing}
use Rattle.demands.proofs.Showing.{root_of_tree, key_of_grants, sound_is_shown, fourteen_exactly_if_empty}

-- a position is below the number of grants, or 20
at_zero : (gs : List Grant) (i : ℕ) → (number_of (grant_at gs i) ≡ 0) ↔ (i < length gs)
at_zero [] i = (λ e. absurd (omega arith), λ l. absurd (omega arith))
at_zero (g ∷ gs) zero = (λ e. omega arith, λ l. refl)
at_zero (g ∷ gs) (suc i) = let w = at_zero gs i in (λ e. omega (arith, w.0 e), λ l. w.1 (omega arith))

at_twenty : (gs : List Grant) (i : ℕ) → (number_of (grant_at gs i) ≡ 20) ↔ (length gs ≤ i)
at_twenty [] i = (λ e. omega arith, λ l. refl)
at_twenty (g ∷ gs) zero = (λ e. absurd (omega arith), λ l. absurd (omega arith))
at_twenty (g ∷ gs) (suc i) = let w = at_twenty gs i in (λ e. omega (arith, w.0 e), λ l. w.1 (omega arith))

-- the root of no grants
no_grants_zeros : (gs : List Grant) → gs ≡ [] → hash leaf_hash inner_hash (tree_of gs) ≡ zeros
unfolding tree_of grants_at
no_grants_zeros gs e = ap (λ x. hash leaf_hash inner_hash (tree_of x)) e

-- What is read and shown of a kept version of a sound store are its grants.
pub sound_reads_for : {s : Bytes} → SoundBytes s → (v : ℕ) → Kept (store_of s) v → ReadsFor s v (grants_of_version s v)
sound_reads_for {s} w v kept = record {
  root = root;
  key = λ whole x. key_of_grants w kept whole x;
  number = number;
  ordered = grants_order (grants_of_version s v) (sound_tree_of_grants leaf_hash inner_hash (store_of s) w.sound v kept).1;
  position = position;
  below = λ x. let e = (position x).0 in let z = at_zero (grants_of_version s v) _ in (λ a. z.0 (sym e ∙ a), λ a. e ∙ z.1 a);
  past = λ x. let e = (position x).0 in let z = at_twenty (grants_of_version s v) _ in (λ a. z.0 (sym e ∙ a), λ a. e ∙ z.1 a);
  shows = λ some k whole. sound_is_shown w v kept k whole some;
  zero_root = λ e x. (root x).1 ∙ no_grants_zeros (grants_of_version s v) e;
  shows_nothing = λ {k} whole x.
      (fourteen_exactly_if_empty w v kept k whole x, λ e. refused_prove_writes_nothing x (λ z. omega arith));
}
  where
    root : {f g : Bytes} {r : ℕ} → ReadsRoot s v f r g → (r ≡ 0) × (g ≡ hash leaf_hash inner_hash (tree_of (grants_of_version s v)))
    root x = let e = root_of_tree w kept x in (e.0, e.1 ∙ ap (hash leaf_hash inner_hash) (sound_tree_of_grants leaf_hash inner_hash (store_of s) w.sound v kept).0)

    number : {f g : Bytes} {r : ℕ} → Counts s v f r g → (r ≡ 0) × (g ≡ le 8 (length (grants_of_version s v)))
    number {f} x =
        let is = number_of_sound s w.headed w.sound v kept in exported_left x.exported is

    position : {i : ℕ} {f g : Bytes} {r : ℕ} → ReadsAt s v i f r g → (r ≡ number_of (grant_at (grants_of_version s v) i)) × (g ≡ told_of grant_bytes (grant_at (grants_of_version s v) i) f)
    position {i} {f} x =
        let is = position_of_sound s w.headed w.sound v kept i in
        let d = exported_as is x.exported in (d.number, d.told)
