-- The messages of a proof by its parts: all steps of the count, and the neighbours by the flags. Assumes nothing.
use Prim.Native.Nat.{ℕ, ◌<◌, ◌≤◌}
use native.Mathlib.Omega.{arith}
use mathlib.Core.Path.{◌≡◌, refl, ap, sym, ◌∙◌}
use mathlib.Core.Bool.{Bool, true, false}
use mathlib.Core.List.{List, [], ◌∷◌, ◌++◌, append-nil}
use lib.ListN.{drop}
use lib.Dec.{eqb}
use borrow.Author.Tests.{eqb-true, eqb-false}
use Rattle.terms.specs.Bits.{Bytes}
use Rattle.terms.specs.Fields.{field}
use Rattle.terms.specs.Records.{absence}
use Rattle.sha256.specs.Sha256.{sha256}
use Rattle.proofrecords.specs.ProofBytes.{step_count, is_absence, presence_in, absence_in, flags, left_part, right_part}
use Rattle.proofrecords.proofs.Forms.{above_two}
use Rattle.forgery.specs.Messages.{leaf_message, path_messages, checked_messages}
use Rattle.forgery.specs.Finding.{Finding, nothing, two_equal, one_zero, or_else, zero_among}
use Rattle.forged_path.specs.Along.{is_nothing, looked, along_path}
use Rattle.forged_path.proofs.Upwards.{or_first_lem, or_second, looked_append}
use Rattle.forged_proof.specs.Search.{on_path, on_two, on_neighbours, or_zero}

-- the steps of the count in the head are all steps
pub all_along : (nodes : List Bytes) (n : ℕ) (x : Bytes) → n ≡ field 6 2 x → along_path nodes n x ≡ on_path nodes x
unfolding along_path path_messages presence_in step_count
all_along nodes n x e = rw e

-- the first path names something, or the second decides
module _ (nodes : List Bytes) where
  pub on_first : (x y : Bytes) → is_nothing (on_path nodes x) ≡ false → on_path nodes x ≡ on_two nodes x y
  on_first x y e =
      sym (looked_append nodes (path_messages sha256 (presence_in x)) (path_messages sha256 (presence_in y))
      ∙ or_first_lem (on_path nodes x) (on_path nodes y) e)

  pub on_second : (x y : Bytes) → is_nothing (on_path nodes x) ≡ true → on_path nodes y ≡ on_two nodes x y
  on_second x y e =
      sym (looked_append nodes (path_messages sha256 (presence_in x)) (path_messages sha256 (presence_in y))
      ∙ or_second (on_path nodes x) (on_path nodes y) e)

  pub zero_after : (f : Finding) → is_nothing f ≡ true → zero_among sha256 nodes ≡ or_zero nodes f
  zero_after f e = sym (or_second f (zero_among sha256 nodes) e)

  pub something_first : (f : Finding) → is_nothing f ≡ false → f ≡ or_zero nodes f
  something_first f e = sym (or_first_lem f (zero_among sha256 nodes) e)

  -- one neighbour, or two
  left_alone : (x : Bytes) → flags x ≡ 1 → checked_messages sha256 (absence (absence_in x)) ≡ path_messages sha256 (presence_in (drop 40 x)) ++ []
  unfolding absence_in
  left_alone x f = rw f

  right_alone : (x : Bytes) → flags x ≡ 2 → checked_messages sha256 (absence (absence_in x)) ≡ path_messages sha256 (presence_in (drop 40 x))
  unfolding absence_in
  right_alone x f = rw f

  pub one_neighbour : (x : Bytes) → is_absence x ≡ true → flags x ≤ 2 → on_path nodes (drop 40 x) ≡ on_neighbours nodes x
  one_neighbour x a b = go (eqb (flags x) 1) (eqb (flags x) 2) refl refl
    where
      go : (c d : Bool) → eqb (flags x) 1 ≡ c → eqb (flags x) 2 ≡ d → on_path nodes (drop 40 x) ≡ on_neighbours nodes x
      go true d e f =
          sym (ap (looked nodes) (left_alone x (eqb-true (flags x) 1 e) ∙ append-nil (path_messages sha256 (presence_in (drop 40 x)))))
      go false true e f = sym (ap (looked nodes) (right_alone x (eqb-true (flags x) 2 f)))
      go false false e f = let w = above_two x a (eqb-false (flags x) 1 e) (eqb-false (flags x) 2 f) in absurd (omega arith)

  pub two_neighbours : (x : Bytes) → flags x ≡ 3 → on_two nodes (left_part x) (right_part x) ≡ on_neighbours nodes x
  unfolding absence_in
  two_neighbours x f = rw f
