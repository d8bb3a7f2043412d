-- Document 02, request 2026-08, over the bytes of a source: whether one tree joins the next from a place on. No public
-- promise reaches this file. Assumes nothing.
use Rattle.std.specs.Prelude.{ℕ, zero, suc, ◌-◌, ◌≡◌, Bool, true, false, List, Option, Some, None}
use Rattle.terms.specs.Bits.{Bytes, Side, Place, longer}
use Rattle.terms.specs.Records.{Slot}
use Rattle.meaning.specs.Store.{find}
use Rattle.nodehash.specs.Node.{leaf_hash, inner_hash}
use Rattle.place.specs.declared.Place as place
use Rattle.place.specs.Place.{place_of}
use Rattle.layout.specs.Stores.{store_of}
use Rattle.rescue_rules.specs.Joining.{kid_of, record_right, join_at, newest_child}

-- From a place on: the node of version a joins that of version b, and the greatest version of a child newer than its
-- parent.
unfoldable pub joins_here : Bytes → ℕ → place.Place → ℕ → ℕ → Bool
joins_here s next p a b = join_at leaf_hash inner_hash (256 - p.count) (store_of s).slots next a b (place_of p)

unfoldable pub floor_here : Bytes → place.Place → ℕ → ℕ → ℕ
floor_here s p a b = newest_child (256 - p.count) (store_of s).slots a b (place_of p)

abbrev pub JoinSays : Bytes → ℕ → place.Place → ℕ → ℕ → Option ℕ → Type 0
JoinSays s next p a b None = joins_here s next p a b ≡ false
JoinSays s next p a b (Some l) = (joins_here s next p a b ≡ true) × (floor_here s p a b ≡ l)

-- Each record of the tree of version v is right, from a place n bits short of a key on.
abbrev pub RightFrom : ℕ → List Slot → ℕ → Place → Type 0
RightFrom zero s v p = record_right leaf_hash inner_hash s v p (find v p s) ≡ true
RightFrom (suc n) s v p =
    (record_right leaf_hash inner_hash s v p (find v p s) ≡ true)
    × ((c : Side) → RightFrom n s (kid_of c (find v p s)) (longer c p))

unfoldable pub RightHere : Bytes → place.Place → ℕ → Type 0
RightHere s p v = RightFrom (256 - p.count) (store_of s).slots v (place_of p)
