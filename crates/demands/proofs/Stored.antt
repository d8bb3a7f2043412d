-- The bytes of a sound store hold it, where it has counts; and a call leaves a store its form. Assumes nothing.
use Prim.Native.Nat.{ℕ}
use mathlib.Core.Path.{◌≡◌, refl, ap, sym, ◌∙◌, subst}
use mathlib.Core.Bool.{Bool, true, false, cond}
use mathlib.Core.List.{List}
use mathlib.Core.Option.{Option, none, some}
use lib.ListN.{length}
use lib.Dec.{ltb}
use Rattle.terms.specs.declared.Form.{Form}
use Rattle.terms.specs.declared.Form.TheVariants.{Counted as counted}
use Rattle.terms.specs.Records.{Ask, Store}
use Rattle.meaning.specs.Sound.{Sound}
use Rattle.meaning.specs.Store.{formatted, settled, free_slots, new_records}
use Rattle.meaning.specs.Tree.{VTree}
use Rattle.meaning.specs.Calls.{Result, refuse, publish, apply_as, apply, prune, is_kept, ascending}
use Rattle.nodehash.specs.Node.{leaf_hash, inner_hash}
use Rattle.layout.specs.Headers.{header_of}
use Rattle.layout.specs.Stores.{store_in, store_of, store_bytes}
use Rattle.layout.proofs.Stores.{store_accepted, store_said}
use Rattle.promises.specs.Calls.{SoundBytes}
use Rattle.promises.proofs.Calls.{sound_form}

module _ (st : Store) (form : st.form ≡ counted) (s : Sound leaf_hash inner_hash st) where
  pub stored_is : store_of (store_bytes st) ≡ st
  stored_is = ap (λ f. store_in f (store_bytes st)) (sym form) ∙ store_said st (sound_form st form s)

  pub stored_sound : SoundBytes (store_bytes st)
  stored_sound = record {
    capacity = length st.slots;
    oldest = st.oldest;
    latest = st.latest;
    headed = ap (λ f. header_of f (store_bytes st)) (sym form) ∙ store_accepted st (sound_form st form s);
    sound = subst (Sound leaf_hash inner_hash) (sym stored_is) s;
  }

-- the form stays
pub formatted_form : (n : ℕ) → (formatted n).form ≡ counted
unfolding formatted
formatted_form n = refl

either_form : {A : Type 0} (f : Form) (b : Bool) (x y : Result A) → x.store.form ≡ f → y.store.form ≡ f → (cond b x y).store.form ≡ f
either_form f true x y e g = e
either_form f false x y e g = g

pub prune_form : (n : ℕ) (st : Store) → (prune n st).store.form ≡ st.form
unfolding prune refuse
prune_form n st = either_form st.form (is_kept st n) _ _ refl refl

publish_form : (new : ℕ) (old now : VTree) (st : Store) → (publish leaf_hash inner_hash new old now st).store.form ≡ st.form
unfolding publish settled refuse
publish_form new old now st =
    either_form st.form (ltb (free_slots st.slots) (length (new_records leaf_hash inner_hash new now))) _ _ refl refl

as_form : (new : ℕ) (batch : List Ask) (st : Store) → (apply_as leaf_hash inner_hash new batch st).store.form ≡ st.form
unfolding apply_as
as_form new batch st = publish_form new _ _ st

pub apply_form : (number : ℕ) (batch : Option (List Ask)) (st : Store) → (apply leaf_hash inner_hash number batch st).store.form ≡ st.form
unfolding refuse
apply_form number none st = refl
apply_form number (some batch) st =
    let made = apply_as leaf_hash inner_hash number batch st in
    either_form st.form (ascending batch) (cond (ltb st.latest number) made (refuse 18 st)) (refuse 5 st)
    (either_form st.form (ltb st.latest number) made (refuse 18 st) (as_form number batch st) refl) refl
