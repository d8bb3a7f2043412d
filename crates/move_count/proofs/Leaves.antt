-- What a record's counts are, by what is found as its children: the law of the store moved over, read in the store itself. Assumes nothing.
use Prim.Native.Nat.{ℕ, ◌+◌, ◌-◌, ◌≤◌}
use native.Mathlib.Omega.{arith}
use mathlib.Core.Path.{◌≡◌, refl, ap, ap₂, ◌∙◌}
use mathlib.Core.List.{List}
use mathlib.Core.Option.{Option, none, some}
use lib.ListN.{length}
use Rattle.terms.specs.declared.Form.TheVariants.{Counted as counted}
use Rattle.terms.specs.Bits.{Bytes, left, right, Place, longer}
use Rattle.terms.specs.Records.{Body, leaf_body, inner_body, Tally, tally, no_tally, Record, Slot, Store}
use Rattle.meaning.specs.Tree.{VTree, vnone, vleaf, vinner, leaves}
use Rattle.meaning.specs.Store.{find, tree_from, counts_of}
use Rattle.meaning.specs.Sound.{At, Sound}
use Rattle.meaning.specs.Counting.{weight}
use Rattle.meaning.specs.Local.{weighed, counts_by}
use Rattle.meaning.proofs.Leaves.{few_read}
use Rattle.local.proofs.LocalIsGlobal.{local_is_global}
use Rattle.moved.specs.Moving.{counting, recounted, counts_in, over}
use Rattle.moved.proofs.Recounted.{found, find_anew, at_anew}
use Rattle.moved.proofs.Sound.{local_over}
use Rattle.move_count.specs.Count.{leaves_of}

-- the counts of a body, by what is found as its children
abbrev pub counts_found : List Slot → Place → Body → Tally
counts_found xs p (leaf_body k x) = no_tally
counts_found xs p (inner_body l r) = tally (leaves_of xs (find l.version (longer left p) xs)) (leaves_of xs (find r.version (longer right p) xs))

weighed_anew : (xs : List Slot) (o : Option Record) → weighed (found (counts_in xs) o) ≡ leaves_of xs o
unfolding weight counting
weighed_anew xs none = refl
weighed_anew xs (some q) = refl

by_found : (xs : List Slot) (p : Place) (b : Body) → counts_by (recounted (counts_in xs) xs) p b ≡ counts_found xs p b
by_found xs p (leaf_body k x) = refl
by_found xs p (inner_body l r) = ap₂ tally
    (ap weighed (find_anew (counts_in xs) l.version (longer left p) xs) ∙ weighed_anew xs (find l.version (longer left p) xs))
    (ap weighed (find_anew (counts_in xs) r.version (longer right p) xs) ∙ weighed_anew xs (find r.version (longer right p) xs))

pub counts_found_lem : (leaf_hash inner_hash : Bytes → Bytes → Bytes) (st : Store) → Sound leaf_hash inner_hash st → (i : ℕ) (r : Record) → At st i r →
    counts_in st.slots r ≡ counts_found st.slots r.place r.body
unfolding over counting
counts_found_lem leaf_hash inner_hash st ok i r a =
    (local_over leaf_hash inner_hash st ((local_is_global leaf_hash inner_hash st).1 ok)).counts i (counting (counts_in st.slots r) r)
    (at_anew (counts_in st.slots) st counted i r a)
    ∙ by_found st.slots r.place r.body

-- there are as many leaves as slots at most
few_of : (t : VTree) (n : ℕ) → leaves t ≤ n → (counts_of t).leftward + (counts_of t).rightward ≤ n
few_of vnone n h = omega arith
few_of (vleaf v g) n h = omega arith
few_of (vinner v l r) n h = h

pub few_counts : (xs : List Slot) (r : Record) → (counts_in xs r).leftward + (counts_in xs r).rightward ≤ length xs
unfolding counts_in
few_counts xs r =
    few_of (tree_from (256 - length r.place) xs r.version r.place) (length xs) (few_read (256 - length r.place) xs r.version r.place)
