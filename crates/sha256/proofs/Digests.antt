-- A digest has 32 bytes. Assumes nothing.
use Prim.Native.Nat.{ℕ, ◌/◌}
use mathlib.Core.Path.{refl}
use mathlib.Core.List.{◌++◌}
use lib.ListN.{length}
use Rattle.terms.specs.Bits.{Bytes, Byte, All, Whole32}
use Rattle.terms.proofs.Lists.{all_append}
use Rattle.hash.specs.BigEndian.{big}
use Rattle.hash.proofs.Digits.{bytes_big}
use Rattle.sha256.specs.declared.State.{State}
use Rattle.sha256.specs.Sha256.{padded, hash_value, state_bytes, sha256}

-- a word, and bytes after it
word : (x : ℕ) (ys : Bytes) → All Byte ys → All Byte (big 4 x ++ ys)
word x ys h = all_append Byte (big 4 x) ys (bytes_big 4 x) h

state_whole : (s : State) → Whole32 (state_bytes s)
state_whole s =
    let g = big 4 s.g ++ big 4 s.h in
    let f = big 4 s.f ++ g in
    let e = big 4 s.e ++ f in
    let d = big 4 s.d ++ e in
    let c = big 4 s.c ++ d in
    let b = big 4 s.b ++ c in (
      refl,
      word s.a b (word s.b c (word s.c d (word s.d e (word s.e f (word s.f g (word s.g (big 4 s.h) (bytes_big 4 s.h))))))),
    )

pub digest_whole : (m : Bytes) → Whole32 (sha256 m)
unfolding sha256
digest_whole m = state_whole (hash_value (padded m) (length (padded m) / 64))
