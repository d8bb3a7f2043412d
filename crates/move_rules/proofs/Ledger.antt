-- A moved store takes over what its source's history gives: trees, oldest and latest are the same. Assumes nothing.
use Prim.Native.Nat.{ℕ}
use native.Mathlib.Omega.{arith}
use mathlib.Core.Path.{◌≡◌, ap, ap₂, sym, ◌∙◌}
use mathlib.Core.List.{List, ◌∷◌}
use mathlib.Core.Option.{some}
use Rattle.terms.specs.declared.Form.{Form}
use Rattle.terms.specs.Bits.{Bytes, Byte, All}
use Rattle.terms.specs.Records.{Store}
use Rattle.meaning.specs.Tree.{grants_in}
use Rattle.meaning.specs.Store.{tree_at_version}
use Rattle.meaning.specs.Sound.{Sound}
use Rattle.meaning.specs.History.{Entry, entry}
use Rattle.histories.proofs.Histories.{Keeps}
use Rattle.nodehash.specs.Node.{leaf_hash, inner_hash}
use Rattle.layout.specs.Stores.{store_in}
use Rattle.move_rules.specs.Moves.{other, Moves}
use Rattle.move_rules.specs.Claims.{Alike, Moved}

keeps_alike : (st st' : Store) (es : List Entry) → Alike st st' → Sound leaf_hash inner_hash st' → Keeps leaf_hash inner_hash st es → Keeps leaf_hash inner_hash st' es
keeps_alike st st' es a ok k = record {
  sound = ok;
  first =
      let (rest, e) = k.first in
      (rest, e ∙ ap₂ (λ v t. entry v (grants_in t) ∷ rest) (sym a.latest) (sym (a.trees st'.latest ∙ ap (λ v. tree_at_version st v) a.latest)));
  gives = λ v h. k.gives v (omega (arith, h.0, a.oldest), omega (arith, h.1, a.latest)) ∙ ap (λ t. some (grants_in t)) (sym (a.trees v));
  only = λ v f. k.only v (λ h. f (omega (arith, h.0, a.oldest), omega (arith, h.1, a.latest)));
}

-- What the source holds by its history, the target holds.
pub moved_keeps : {from : Form} {s t : Bytes} (es : List Entry) → Moved from s t → Keeps leaf_hash inner_hash (store_in from s) es →
    Keeps leaf_hash inner_hash (store_in (other from) t) es
moved_keeps {from} {s} {t} es w k = keeps_alike (store_in from s) (store_in (other from) t) es w.alike w.sound.sound k
