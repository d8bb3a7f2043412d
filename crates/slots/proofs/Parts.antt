-- The parts of a slot's bytes: how long they are, and that a leaf's grant is its key and its value. Assumes nothing.
use native.Mathlib.Omega.{arith}
use mathlib.Core.Path.{◌≡◌, ap, sym, ◌∙◌}
use mathlib.Core.Bool.{true, false}
use mathlib.Core.List.{[], ◌∷◌}
use lib.ListN.{length, take, drop}
use lib.Seq.{drop-drop, take-take}
use Rattle.terms.specs.Bits.{Bytes, Side}
use Rattle.terms.specs.Fields.{slice, flat}
use Rattle.terms.proofs.Lists.{drop_take}
use Rattle.terms.proofs.Fields.{length_slice, flat_front}
use Rattle.layout.specs.Sizes.{grant_size, key_at_lem, value_at}
use Rattle.layout.specs.Slots.{key_in, value_inside, grant_in, child_in, kid_on, SlotLong}

module _ (x : Bytes) where
  -- the first half of a grant is the key, the second the value
  pub grant_key : take 32 (grant_in x) ≡ key_in x
  unfolding slice
  grant_key = take-take 32 grant_size (drop key_at_lem x) (omega arith)

  pub grant_value : drop 32 (grant_in x) ≡ value_inside x
  unfolding slice
  grant_value = drop_take 32 grant_size (drop key_at_lem x) ∙ ap (take 32) (drop-drop 32 key_at_lem x)

  pub grant_parts : grant_in x ≡ flat (key_in x ∷ value_inside x ∷ [])
  unfolding slice
  grant_parts = sym (flat_front (32 ∷ 32 ∷ []) key_at_lem x)

  module _ (l : SlotLong x) where
    pub key_long : length (key_in x) ≡ 32
    key_long = length_slice key_at_lem 32 x (omega arith)

    pub value_long : length (value_inside x) ≡ 32
    value_long = length_slice value_at 32 x (omega arith)

    pub grant_long : length (grant_in x) ≡ grant_size
    grant_long = length_slice key_at_lem grant_size x (omega arith)

    -- a child's hash has 32 bytes
    pub kid_long : (b : Side) → length (kid_on b x).hash ≡ 32
    unfolding child_in
    kid_long false = length_slice _ 32 x (omega arith)
    kid_long true = length_slice _ 32 x (omega arith)
