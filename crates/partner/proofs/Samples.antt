-- Messages of a small tree by a hash that only pads, and what a partner says of them, by computing. Assumes nothing.
use mathlib.Core.Path.{◌≡◌, refl}
use mathlib.Core.Bool.{true, false}
use mathlib.Core.List.{[], ◌∷◌, ◌++◌}
use mathlib.Core.Option.{Option, none, some, bind}
use lib.ListN.{length, take, replicate}
use Rattle.terms.specs.Bits.{Bytes}
use Rattle.terms.specs.Fields.{all_of}
use Rattle.terms.specs.Records.{Step, Presence, Proof, presence, absence, zeros}
use Rattle.messages.specs.Message.{existence_of}
use Rattle.partner.specs.Verifying.{starts_with, same_op, leaf_right, inner_right, fits, has_padding, branch_of, ends_empty, right_empty, hashed, prehashed, leaf_applied, inner_applied, calculated, existence_holds, for_comparison, key_before, neighbour_verified, non_existence_holds}
use Rattle.partner.specs.Ours.{our_spec, partner_accepts}

-- the first 32 bytes, zeros where there are fewer: it keeps the order of keys
unfoldable padded : Bytes → Bytes
padded x = take 32 (x ++ replicate 32 0)

abbrev leaf_of : Bytes → Bytes
leaf_of key = padded (1 ∷ (padded key ++ padded (7 ∷ [])))

abbrev above : Bytes → Bytes → Bytes
above l r = padded (0 ∷ (l ++ r))

abbrev on_left : Bytes → Step
on_left sibling = record { side = false; sibling = sibling }

abbrev on_right : Bytes → Step
on_right sibling = record { side = true; sibling = sibling }

-- keys 10, 20 below the left child of the root, 200 below an inner node with no other child
abbrev ten : Bytes
ten = leaf_of (10 ∷ [])

abbrev twenty : Bytes
twenty = leaf_of (20 ∷ [])

abbrev low : Bytes
low = above ten twenty

abbrev high : Bytes
high = above (leaf_of (200 ∷ [])) zeros

abbrev root : Bytes
root = above low high

abbrev first : Presence
first = record { key = 10 ∷ []; value = 7 ∷ []; steps = on_left twenty ∷ on_left high ∷ [] }

abbrev second : Presence
second = record { key = 20 ∷ []; value = 7 ∷ []; steps = on_right ten ∷ on_left high ∷ [] }

abbrev third : Presence
third = record { key = 200 ∷ []; value = 7 ∷ []; steps = on_left zeros ∷ on_right low ∷ [] }

abbrev missing : Bytes → Option Presence → Option Presence → Proof
missing key l r = absence (record { key = key; leftward = l; rightward = r })

-- a grant; another value; another root; no neighbour
shown :
    (partner_accepts padded root (presence first) ≡ true)
    × (partner_accepts padded root (presence third) ≡ true)
    × (partner_accepts padded low (presence first) ≡ false)
    × (partner_accepts padded root (missing (30 ∷ []) none none) ≡ false)
unfolding padded starts_with same_op leaf_right inner_right fits has_padding branch_of ends_empty right_empty hashed prehashed leaf_applied inner_applied calculated
    existence_holds for_comparison key_before neighbour_verified all_of bind zeros
shown = (refl, refl, refl, refl)

-- between neighbours below one parent, and across the root; not neighbours; the wrong way round; one leaf twice
between :
    (partner_accepts padded root (missing (15 ∷ []) (some first) (some second)) ≡ true)
    × (partner_accepts padded root (missing (30 ∷ []) (some second) (some third)) ≡ true)
    × (partner_accepts padded root (missing (30 ∷ []) (some first) (some third)) ≡ false)
    × (partner_accepts padded root (missing (15 ∷ []) (some second) (some first)) ≡ false)
    × (partner_accepts padded root (missing (15 ∷ []) (some first) (some first)) ≡ false)
unfolding padded starts_with same_op leaf_right inner_right fits has_padding branch_of ends_empty right_empty hashed prehashed leaf_applied inner_applied calculated
    existence_holds for_comparison key_before neighbour_verified all_of bind zeros
between = (refl, refl, refl, refl, refl)

-- beyond the last leaf, whose sibling is zero, and before the first; a neighbour's own key; a leaf that isn't the last
outside :
    (partner_accepts padded root (missing (201 ∷ []) (some third) none) ≡ true)
    × (partner_accepts padded root (missing (1 ∷ []) none (some first)) ≡ true)
    × (partner_accepts padded root (missing (200 ∷ []) (some third) none) ≡ false)
    × (partner_accepts padded root (missing (30 ∷ []) (some second) none) ≡ false)
    × (partner_accepts padded root (missing (15 ∷ []) none (some second)) ≡ false)
unfolding padded starts_with same_op leaf_right inner_right fits has_padding branch_of ends_empty right_empty hashed prehashed leaf_applied inner_applied calculated
    existence_holds for_comparison key_before neighbour_verified all_of bind zeros
outside = (refl, refl, refl, refl, refl)

-- another key between the same neighbours: the message's own has no say
another : non_existence_holds our_spec padded root (some (existence_of first)) (some (existence_of second)) (15 ∷ []) ≡ true
unfolding padded starts_with same_op leaf_right inner_right fits has_padding branch_of ends_empty right_empty hashed prehashed leaf_applied inner_applied calculated
    existence_holds for_comparison key_before neighbour_verified all_of bind zeros
another = refl
