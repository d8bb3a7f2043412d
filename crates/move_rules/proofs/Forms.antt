-- A moved store can be bytes: it is sound, and back in the plain form no record has counts. Assumes nothing.
use Prim.Native.Nat.{ℕ, ◌<◌}
use mathlib.Core.Path.{◌≡◌, refl}
use lib.ListN.{length, get_or}
use Rattle.terms.specs.declared.Form.{Form}
use Rattle.terms.specs.declared.Form.TheVariants.{Plain as plain, Counted as counted}
use Rattle.terms.specs.Bits.{Bytes}
use Rattle.terms.specs.Records.{Record, Slot, free, used, spoiled, Store}
use Rattle.terms.specs.Form.{FormedAs}
use Rattle.terms.proofs.Lists.{all_of}
use Rattle.meaning.specs.Sound.{At, Sound}
use Rattle.nodehash.specs.Node.{leaf_hash, inner_hash}
use Rattle.moved.specs.Moving.{over, back}
use Rattle.moved.specs.Plain.{Plain}
use Rattle.moved.proofs.Theorems.{over_is_sound, back_is_sound, back_is_plain}
use Rattle.layout.specs.Slots.{SlotForm}
use Rattle.layout.specs.Stores.{StoreForm}
use Rattle.promises.proofs.Calls.{sound_form}
use Rattle.move_rules.specs.Moves.{moved_from}

-- a sound store whose records are of its form
sound_formed : (st : Store) → ((i : ℕ) (r : Record) → At st i r → FormedAs st.form r) → Sound leaf_hash inner_hash st → StoreForm st
unfolding At
sound_formed st formed w =
    record {
      some = w.size.0;
      fits = w.size.1;
      ordered = w.header.0;
      number = w.header.1;
      each = all_of (SlotForm st.form) st.slots free (λ i h. go i h (get_or st.slots i free) refl);
    }
  where
    go : (i : ℕ) → i < length st.slots → (x : Slot) → get_or st.slots i free ≡ x → SlotForm st.form x
    go i h free e = tt
    go i h (used r) e = (w.formed i r (h, e), formed i r (h, e))
    go i h (spoiled x) e = absurd (w.whole i x h e)

module _ (st : Store) (w : Sound leaf_hash inner_hash st) where
  pub over_form : StoreForm (over st)
  unfolding over
  over_form = sound_form (over st) refl (over_is_sound leaf_hash inner_hash st w)

  pub back_form : StoreForm (back st)
  unfolding back
  back_form = sound_formed (back st) (back_is_plain st).bare (back_is_sound leaf_hash inner_hash st w)

  pub moved_form : (from : Form) → StoreForm (moved_from from st)
  moved_form plain = over_form
  moved_form counted = back_form
