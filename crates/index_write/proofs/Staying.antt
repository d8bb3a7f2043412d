-- What an accepted batch and an accepted prune leave is a sound store. Assumes nothing.
use Prim.Native.Nat.{ℕ, ◌≤◌}
use native.Mathlib.Omega.{arith}
use mathlib.Core.Path.{◌≡◌, refl, ap, sym, ◌∙◌, subst}
use mathlib.Core.Bool.{Bool, true, false, cond}
use mathlib.Core.List.{List}
use mathlib.Core.Option.{Option, none, some}
use lib.ListN.{length}
use lib.Dec.{ltb}
use Rattle.terms.specs.declared.Form.{Form}
use Rattle.terms.specs.declared.Form.TheVariants.{Counted as counted}
use Rattle.terms.specs.Bits.{Bytes, Byte, All}
use Rattle.terms.specs.Records.{Ask, Store}
use Rattle.terms.specs.Form.{top32}
use Rattle.meaning.specs.Sound.{Sound}
use Rattle.meaning.specs.Store.{settled, free_slots, new_records}
use Rattle.meaning.specs.Tree.{VTree}
use Rattle.meaning.specs.Calls.{Answer, refused, accepted, Applied, Result, refuse, publish, apply_as, apply, prune, is_kept, ascending}
use Rattle.nodehash.specs.Node.{leaf_hash, inner_hash}
use Rattle.histories.proofs.Theorems.{apply_keeps_sound, prune_keeps_sound}
use Rattle.layout.specs.Headers.{header_of}
use Rattle.layout.specs.Stores.{store_in, store_of, store_bytes}
use Rattle.layout.proofs.Stores.{store_accepted, store_said}
use Rattle.batch.specs.Asked.{Asks}
use Rattle.batch.specs.Batch.{batch_of}
use Rattle.batch.proofs.Batches.{asks_read}
use Rattle.promises.specs.Calls.{SoundBytes, Does, accepts}
use Rattle.promises.proofs.Calls.{sound_form}
use Rattle.promises.proofs.Hashes.{leaf_hash_whole, inner_hash_whole}

-- the bytes of a sound store hold it
module _ (st : Store) (form : st.form ≡ counted) (s : Sound leaf_hash inner_hash st) where
  stored_is : store_of (store_bytes st) ≡ st
  stored_is = ap (λ f. store_in f (store_bytes st)) (sym form) ∙ store_said st (sound_form st form s)

  stored_sound : SoundBytes (store_bytes st)
  stored_sound = record {
    capacity = length st.slots;
    oldest = st.oldest;
    latest = st.latest;
    headed = ap (λ f. header_of f (store_bytes st)) (sym form) ∙ store_accepted st (sound_form st form s);
    sound = subst (Sound leaf_hash inner_hash) (sym stored_is) s;
  }

-- the form stays
either_form : {A : Type 0} (f : Form) (b : Bool) (x y : Result A) → x.store.form ≡ f → y.store.form ≡ f → (cond b x y).store.form ≡ f
either_form f true x y e g = e
either_form f false x y e g = g

prune_form : (n : ℕ) (st : Store) → (prune n st).store.form ≡ st.form
unfolding prune refuse
prune_form n st = either_form st.form (is_kept st n) _ _ refl refl

publish_form : (new : ℕ) (old now : VTree) (st : Store) → (publish leaf_hash inner_hash new old now st).store.form ≡ st.form
unfolding publish settled refuse
publish_form new old now st =
    either_form st.form (ltb (free_slots st.slots) (length (new_records leaf_hash inner_hash new now))) _ _ refl refl

as_form : (new : ℕ) (batch : List Ask) (st : Store) → (apply_as leaf_hash inner_hash new batch st).store.form ≡ st.form
unfolding apply_as
as_form new batch st = publish_form new _ _ st

apply_form : (number : ℕ) (batch : List Ask) (st : Store) → (apply leaf_hash inner_hash number (some batch) st).store.form ≡ st.form
unfolding refuse
apply_form number batch st =
    let made = apply_as leaf_hash inner_hash number batch st in
    either_form st.form (ascending batch) (cond (ltb st.latest number) made (refuse 18 st)) (refuse 5 st)
    (either_form st.form (ltb st.latest number) made (refuse 18 st) (as_form number batch st) refl) refl

not_answered : {A B : Type 0} {m : ℕ} {k : A} → ◌≡◌ {A = Answer A} (refused m) (accepted k) → B
not_answered e = let z : ◌≡◌ {A = ℕ} 0 1 = cc in absurd (omega arith)

-- a batch
pub applied_sound : (number : ℕ) (batch : Bytes) {s t : Bytes} {a : Applied} → number ≤ top32 → All Byte batch →
    Does (apply leaf_hash inner_hash number (batch_of batch)) s (accepted a) t → SoundBytes t
unfolding refuse
applied_sound number batch {s} {t} {a} small bytes (accepts w e) = go (batch_of batch) (asks_read batch bytes) e
  where
    go : (asks : Option (List Ask)) → Asks batch asks → (apply leaf_hash inner_hash number asks (store_of s)).answer ≡ accepted a →
        SoundBytes (store_bytes (apply leaf_hash inner_hash number asks (store_of s)).store)
    go none f h = not_answered h
    go (some asks) f h =
        stored_sound (apply leaf_hash inner_hash number (some asks) (store_of s)).store (apply_form number asks (store_of s))
        (apply_keeps_sound leaf_hash inner_hash leaf_hash_whole inner_hash_whole number asks (store_of s) a w.sound small f.form h).sound

-- a prune
pub pruned_sound : (n : ℕ) {s t : Bytes} {k : ℕ} → Does (prune n) s (accepted k) t → SoundBytes t
pruned_sound n {s} {t} {k} (accepts w e) =
    stored_sound (prune n (store_of s)).store (prune_form n (store_of s)) (prune_keeps_sound leaf_hash inner_hash n (store_of s) k w.sound e).sound
