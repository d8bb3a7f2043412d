-- Written with a table of zeros, a store is the store moved back. Assumes nothing.
use Prim.Native.Nat.{ℕ}
use mathlib.Core.Path.{◌≡◌, refl, ap, sym, ◌∙◌, subst}
use lib.ListN.{replicate}
use Rattle.terms.specs.declared.Form.{Form}
use Rattle.terms.specs.declared.Form.TheVariants.{Plain as plain, Counted as counted}
use Rattle.terms.specs.Bits.{Bytes, All}
use Rattle.terms.specs.Records.{Store}
use Rattle.meaning.specs.Sound.{Sound}
use Rattle.nodehash.specs.Node.{leaf_hash, inner_hash}
use Rattle.moved.specs.Moving.{back}
use Rattle.layout.specs.Slots.{SlotForm}
use Rattle.layout.specs.Stores.{store_in, store_bytes}
use Rattle.move_rules.specs.Moves.{other, moved_from, SameRoom}
use Rattle.move_rules.proofs.Forms.{back_form}
use Rattle.move_put.specs.Put.{tallied_from, tallied_as, Movable}
use Rattle.move_put.proofs.Tallied.{none_tallied}

module _ {f : Form} {s old : Bytes} (is : f ≡ counted) (its-room : SameRoom f (other f) s old) (its-sound : Sound leaf_hash inner_hash (store_in f s)) (n : ℕ) where
  room : SameRoom counted plain s old
  room = subst (λ g. SameRoom g (other g) s old) is its-room

  sound : Sound leaf_hash inner_hash (store_in counted s)
  sound = subst (λ g. Sound leaf_hash inner_hash (store_in g s)) is its-sound

  pub back_able : Movable counted plain s (replicate n 0) old
  unfolding back
  back_able = record {
    room = room;
    whole = sound.whole;
    each = subst (All (SlotForm plain)) (sym (none_tallied n (store_in counted s).slots)) (back_form (store_in counted s) sound).each;
  }

  back_is : tallied_as plain (replicate n 0) (store_in counted s) ≡ back (store_in counted s)
  unfolding back
  back_is = ap (λ xs. record { form = plain; oldest = (store_in counted s).oldest; latest = (store_in counted s).latest; slots = xs }) (none_tallied n (store_in counted s).slots)

  pub back_done : {u : Bytes} → u ≡ store_bytes (tallied_as plain (replicate n 0) (store_in counted s)) → u ≡ store_bytes (moved_from f (store_in f s))
  back_done {u} e = subst (λ g. u ≡ store_bytes (moved_from g (store_in g s))) (sym is) (e ∙ ap store_bytes back_is)
