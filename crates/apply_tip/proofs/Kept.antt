-- An outcome that is unchanged has the tree that was there. Assumes nothing.
use Prim.Native.Nat.{ℕ, ◌+◌}
use native.Mathlib.Omega.{arith}
use mathlib.Core.Path.{◌≡◌, sym, subst₂}
use lib.ListN.{length}
use Rattle.terms.specs.Bits.{Bytes, Place}
use Rattle.meaning.specs.Tree.{Tree, VTree, unversioned}
use Rattle.meaning.proofs.Shaped.{Shaped}
use Rattle.steps.specs.Step as step
use Rattle.steps.specs.Given.{Gives}
use Rattle.steps.proofs.Becoming.{Became, stayed, vanished, renewed, became}

stayed_is : (new : ℕ) (t now : VTree) (c : step.Change) → Became new t now c → c ≡ step.unchanged → now ≡ t
stayed_is new t now step.unchanged (stayed e) k = e
stayed_is new t now step.deleted (vanished e) k = let z : ◌≡◌ {A = ℕ} 0 1 = cc in absurd (omega arith)
stayed_is new t now step.updated (renewed s e) k = let z : ◌≡◌ {A = ℕ} 0 1 = cc in absurd (omega arith)

pub unchanged_is : (leaf_hash inner_hash : Bytes → Bytes → Bytes) (new n : ℕ) (p : Place) (t : VTree) (now : Tree) (o : step.Outcome) →
    Gives leaf_hash inner_hash new p t now o → length p + n ≡ 256 → Shaped p (unversioned t) → Shaped p now → o.change ≡ step.unchanged → o.node ≡ t
unchanged_is leaf_hash inner_hash new n p t now o g e s w k =
    stayed_is new t o.node o.change (subst₂ (Became new t) (sym g.node_is) (sym g.change_is) (became new n p t now e s w)) k
