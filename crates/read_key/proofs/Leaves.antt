-- A leaf's value as 32 bytes, and its key, which is the one asked for or another. Assumes nothing.
use Prim.Native.Nat.{ℕ}
use native.Mathlib.Omega.{arith}
use mathlib.Core.Path.{◌≡◌, ap, sym, ◌∙◌}
use mathlib.Core.Bool.{Bool, true, false}
use lib.ListN.{take, drop}
use lib.Seq.{take-take}
use Rattle.terms.specs.declared.Form.TheVariants.{Counted as counted}
use Rattle.terms.specs.Bits.{Bytes, same_bytes}
use Rattle.terms.specs.Fields.{slice}
use Rattle.meaning.specs.Calls.{accepted}
use Rattle.meaning.specs.Reading.{present}
use Rattle.hash.specs.declared.Hash.{Hash}
use Rattle.hash.specs.Hash.{hash_bytes}
use Rattle.layout.specs.Slots.{key_in, value_inside}
use Rattle.layout.specs.Stores.{slot_in}
use Rattle.read_step.specs.Walk.{leaf_at}
use Rattle.read_key.specs.Parts.{read_says, leaf_read}
use Rattle.std.specs.Prelude.{Ok, Some, None}

slice_whole : (i n : ℕ) (x : Bytes) → take n (slice i n x) ≡ slice i n x
unfolding slice
slice_whole i n x = take-take n n (drop i x) (omega arith)

value_whole : (x : Bytes) → take 32 (value_inside x) ≡ value_inside x
value_whole x = slice_whole _ 32 x

module _ (i : ℕ) (s k : Bytes) {x l : Bytes} (slot : x ≡ slot_in counted i s) (its : l ≡ key_in x) where
  key_is : {b : Bool} → b ≡ same_bytes k l → same_bytes k (key_in (slot_in counted i s)) ≡ b
  key_is e = ap (λ y. same_bytes k (key_in y)) (sym slot) ∙ ap (same_bytes k) (sym its) ∙ sym e

  pub leaf_present : {b : Bool} {y : Bytes} (h : Hash) → b ≡ same_bytes k l → b ≡ true → y ≡ value_inside x →
      hash_bytes h ≡ take 32 (drop 0 y) → read_says (Ok (Some h)) ≡ leaf_read i s k
  unfolding read_says leaf_read leaf_at
  leaf_present h e t f g =
      let value = g ∙ ap (take 32) f ∙ value_whole x ∙ ap value_inside slot in
      rw (key_is e, t) (ap (λ z. accepted (present z)) value)

  pub leaf_absent : {b : Bool} → b ≡ same_bytes k l → b ≡ false → read_says (Ok None) ≡ leaf_read i s k
  unfolding read_says leaf_read leaf_at
  leaf_absent e t = rw (key_is e, t)
