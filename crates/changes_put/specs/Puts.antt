-- Document 02, request 2026-01, over a lent buffer: what putting records of the list there leaves. No public promise
-- reaches this file. Assumes nothing.
use Rattle.std.specs.Prelude.{ℕ, ◌+◌, ◌*◌, ◌<◌, ◌≤◌, ◌≡◌, Bool, true, false, List, [], ◌∷◌, length, take, drop}
use Rattle.terms.specs.declared.Form.TheVariants.{Counted as counted}
use Rattle.terms.specs.Bits.{Bytes}
use Rattle.terms.specs.Records.{Grant, grant}
use Rattle.fields.specs.Written.{written}
use Rattle.layout.specs.Stores.{SlotWithin}
use Rattle.changed.specs.Changes.{changed, Item, items, item_size, list_bytes}
use Rattle.changes_top.specs.declared.Top as top
use Rattle.changes_top.specs.declared.Top.TheVariants.{Nothing, Leaf, Inner}
use Rattle.changes_top.specs.Tops.{grant_at}

-- A grant as 64 bytes, key 32, value 32.
unfoldable pub grant_of : Bytes → Grant
grant_of g = grant (take 32 g) (drop 32 g)

-- The grant of a leaf.
abbrev pub leaf_of : Bytes → top.Top → List Grant
leaf_of s Nothing = []
leaf_of s (Leaf i) = grant_at i s ∷ []
leaf_of s (Inner i v l r) = []

-- The records for two leaves, and for two tops.
unfoldable pub two_items : Bytes → ℕ → ℕ → List Item
two_items s i j = items (changed (grant_at i s ∷ []) (grant_at j s ∷ []))

unfoldable pub end_items : Bytes → top.Top → top.Top → List Item
end_items s first second = items (changed (leaf_of s first) (leaf_of s second))

-- The bytes of a buffer with others written as record number `at`, if it is written to.
abbrev pub put_into : Bool → ℕ → Bytes → Bytes → Bytes
put_into true at f s = written (item_size * at) f s
put_into false at f s = s

-- As many records fit from number `at` on, if they are written; their numbers are small.
pub record Fits (writes : Bool) (n at : ℕ) (room : Bytes) : Type 0 where
  pub within : writes ≡ true → item_size * (at + n) ≤ length room
  pub small : at + n < 9223372036854775808

-- The slot of a top that is a leaf is one of the store's.
abbrev pub LeafIn : Bytes → top.Top → Type 0
LeafIn s Nothing = Unit {0}
LeafIn s (Leaf i) = SlotWithin counted i s
LeafIn s (Inner i v l r) = Unit {0}

-- Two tops, and room for what changed between them.
pub record Ends (s : Bytes) (first second : top.Top) (writes : Bool) (at : ℕ) (room : Bytes) : Type 0 where
  pub old : LeafIn s first
  pub new : LeafIn s second
  pub fits : Fits writes (length (end_items s first second)) at room

-- Records of the list were put from number `at` on: the next number, and the bytes that are left.
pub record Puts (writes : Bool) (at : ℕ) (xs : List Item) (room : Bytes) (r : ℕ) (left : Bytes) : Type 0 where
  pub next : r ≡ at + length xs
  pub bytes : left ≡ put_into writes at (list_bytes xs) room
