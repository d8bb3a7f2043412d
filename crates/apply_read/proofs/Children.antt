-- What a node by value says of the children of the tree it is the top of. Assumes nothing.
use Prim.Native.Nat.{ℕ}
use mathlib.Core.Path.{◌≡◌, ap}
use Rattle.terms.specs.Records.{Child}
use Rattle.meaning.specs.Tree.{VTree, top_version}
use Rattle.meaning.specs.Store.{child_of}
use Rattle.nodehash.specs.Node.{leaf_hash, inner_hash}
use Rattle.slots.specs.declared.Child as child
use Rattle.slots.specs.Answer.{child_says}

-- a child's version is that of its tree
pub child_top : (c : child.Child) (t : VTree) → child_says c ≡ child_of leaf_hash inner_hash t → c.version ≡ top_version t
unfolding child_says child_of
child_top c t e = ap (λ (x : Child). x.version) e
