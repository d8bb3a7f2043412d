-- A guess that is looked at: a slot that holds a node is where it is found, since no other does. Assumes nothing.
use Prim.Native.Nat.{ℕ}
use mathlib.Core.Path.{◌≡◌, ap₂, sym, ◌∙◌, subst}
use mathlib.Core.Bool.{Bool, true}
use Rattle.terms.specs.Bits.{Bytes, Place}
use Rattle.terms.specs.Records.{free, used}
use Rattle.terms.proofs.Members.{get_d_in}
use Rattle.meaning.specs.Store.{find}
use Rattle.meaning.specs.Sound.{At}
use Rattle.meaning.proofs.Finding.{is_node_eq}
use Rattle.histories.proofs.Slots.{at_unique, unique_find}
use Rattle.layout.specs.Stores.{store_of}
use Rattle.std.specs.Prelude.{Some}
use Rattle.lookup.specs.Lookup.{FoundIn}
use Rattle.guess.specs.Guess.{NodeAt}
use Rattle.changes_guess.specs.Apart.{Apart}

pub guessed : (s : Bytes) (v : ℕ) (p : Place) {i : ℕ} {t : Bool} → Apart (store_of s) → t ≡ true → NodeAt s i v p t →
    FoundIn (store_of s).slots v p (Some i)
unfolding Apart At
guessed s v p {i} apart e h =
    let (l, (r, u, n)) = subst (NodeAt s i v p) e h in
    let w = is_node_eq v p r n in
    let xs = (store_of s).slots in
    let unique = at_unique xs (λ i j r q a b c d. apart i j r q (a, b) (c, d)) in
    (l, (r, u, ap₂ (λ x q. find x q xs) (sym w.0) (sym w.1) ∙ unique_find xs r unique (get_d_in xs i free (used r) l u)))
