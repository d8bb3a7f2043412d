-- What pruning promises: a sound store with the trees of the versions that are still kept. Assumes nothing.
use Prim.Native.Nat.{ℕ}
use mathlib.Core.Path.{◌≡◌, refl, ap, sym, ◌∙◌, subst}
use mathlib.Core.Bool.{Bool, true, false, cond}
use Rattle.terms.specs.declared.Form.TheVariants.{Counted as counted}
use Rattle.terms.specs.Bits.{Bytes}
use Rattle.terms.specs.Records.{Store}
use Rattle.meaning.specs.Calls.{accepted, Result, is_kept, refuse, prune}
use Rattle.nodehash.specs.Node.{leaf_hash, inner_hash}
use Rattle.histories.specs.Claims.{AfterPrune}
use Rattle.histories.proofs.Theorems.{prune_keeps_sound}
use Rattle.layout.specs.Stores.{store_in, store_of, store_bytes}
use Rattle.layout.proofs.Stores.{store_said}
use Rattle.promises.specs.Calls.{accepts}
use Rattle.promises.proofs.Calls.{sound_form}
use Rattle.prune_sound.specs.Prune.{PruneDoes}

-- the form stays
prune_form : (n : ℕ) (st : Store) → (prune n st).store.form ≡ st.form
unfolding prune refuse
prune_form n st = go (is_kept st n) _ _ refl refl
  where
    go : (b : Bool) (x y : Result ℕ) → x.store.form ≡ st.form → y.store.form ≡ st.form → (cond b x y).store.form ≡ st.form
    go true x y e f = e
    go false x y e f = f

-- Pruning a sound store leaves a sound store, in which each version that is still kept has its tree, and as many slots more are free as
-- the answer counts.
pub pruned_stays_sound : (n : ℕ) (s : Bytes) (k : ℕ) (t : Bytes) → PruneDoes n s (accepted k) t →
    AfterPrune leaf_hash inner_hash n (store_of s) k (store_of t)
pruned_stays_sound n s k t (accepts w e) =
    let a = prune_keeps_sound leaf_hash inner_hash n (store_of s) k w.sound e in
    let after = (prune n (store_of s)).store in
    let form : after.form ≡ counted = prune_form n (store_of s) in
    subst (AfterPrune leaf_hash inner_hash n (store_of s) k)
    (sym (ap (λ f. store_in f (store_bytes after)) (sym form) ∙ store_said after (sound_form after form a.sound))) a
