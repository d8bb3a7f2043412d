-- The outcome of each way through the call: the header and soundness first, then whether the version is kept; freeing the retired records
-- and setting oldest is pruning. Assumes nothing.
use Prim.Native.Nat.{ℕ}
use mathlib.Core.Path.{◌≡◌, refl, ap, sym, ◌∙◌, subst}
use mathlib.Core.Bool.{true, false}
use Rattle.terms.specs.Bits.{Bytes, Byte, All}
use Rattle.meaning.specs.Calls.{refused, accepted, refuse, is_kept, prune}
use Rattle.layout.specs.Stores.{store_of, store_bytes, with_oldest, put_bounds}
use Rattle.layout.proofs.Stores.{oldest_put_bytes}
use Rattle.promises.specs.Calls.{SoundBytes, refuses, accepts}
use Rattle.promises.proofs.Calls.{sound_form, sound_back}
use Rattle.prune_free.specs.Free.{Readable, emptied, Frees}
use Rattle.prune_sound.specs.Prune.{PruneDoes}

module _ {s : Bytes} (w : SoundBytes s) where
  pub sound_readable : All Byte s → Readable s
  sound_readable h = record { form = sound_form (store_of s) refl w.sound; back = sound_back w h; whole = w.sound.whole }

  pub refused_8 : (n : ℕ) → is_kept (store_of s) n ≡ false → PruneDoes n s (refused 8) s
  unfolding prune refuse
  refused_8 n e = refuses {m = 8} w (rw e)

  -- the retired records are freed and oldest is set
  pub pruned_to : (n : ℕ) {k : ℕ} {t u : Bytes} → is_kept (store_of s) n ≡ true → Frees n s k t → u ≡ with_oldest n t → PruneDoes n s (accepted k) u
  unfolding prune put_bounds emptied
  pruned_to n {k} {t} {u} e f p =
      let st = store_of s in
      let answer : (prune n st).answer ≡ accepted k = rw (e, f.count) in
      let after : (prune n st).store ≡ put_bounds n st.latest (emptied n st) = rw e in
      subst (PruneDoes n s (accepted k)) (ap store_bytes after ∙ oldest_put_bytes (emptied n st) n ∙ ap (with_oldest n) (sym f.bytes) ∙ sym p) (accepts w answer)
