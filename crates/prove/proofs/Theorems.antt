-- On a sound store the proof that is given holds against the root that is read. From the definitions' own theorems, through the bytes.
-- Assumes nothing.
use Prim.Native.Nat.{ℕ, ◌≤◌}
use native.Mathlib.Omega.{arith}
use mathlib.Core.Path.{◌≡◌, ap, sym, ◌∙◌}
use mathlib.Core.Bool.{cond}
use mathlib.Core.Option.{none}
use lib.ListN.{length}
use borrow.Author.Tests.{eq-eqb}
use Rattle.terms.specs.declared.Form.TheVariants.{Counted as counted}
use Rattle.terms.specs.Bits.{Bytes, Whole32}
use Rattle.terms.specs.Records.{Proof}
use Rattle.meaning.specs.Tree.{grants_in}
use Rattle.meaning.specs.Store.{tree_at_version}
use Rattle.meaning.specs.Sound.{Sound, Kept}
use Rattle.meaning.specs.Calls.{refused, accepted}
use Rattle.meaning.specs.Reading.{read_root, answer_of}
use Rattle.meaning.specs.Proving.{HoldsGrant, prove, proof_length, proof}
use Rattle.meaning.specs.Checking.{checked}
use Rattle.shown.proofs.Theorems.{given_with_room, proofs_have_17080_bytes, shown}
use Rattle.nodehash.specs.Node.{leaf_hash, inner_hash}
use Rattle.layout.specs.Headers.{header, header_of}
use Rattle.layout.specs.Stores.{store_of}
use Rattle.promises.specs.Headed.{by_header}
use Rattle.contracts.specs.Reads.{root_answer}
use Rattle.contracts.specs.Proves.{prove_answer}

-- Bytes with a right header that hold a sound store, a kept version that holds a grant, and a key: with room for any proof one is given, and the checker's answer to
-- it, against the root that is read, is what the version's grants say of the key.
pub proof_of_sound_holds : (s : Bytes) {n o l : ℕ} → header_of counted s ≡ header n o l → Sound leaf_hash inner_hash (store_of s) → (v : ℕ) → Kept (store_of s) v → HoldsGrant (store_of s) v → (k : Bytes) → Whole32 k →
    (root : Bytes) → root_answer s none v ≡ accepted root → (room : ℕ) → 17080 ≤ room →
    (p : Proof) × (prove_answer s none v k room ≡ accepted p) ×
    (checked leaf_hash inner_hash root k p ≡ accepted (answer_of k (grants_in (tree_at_version (store_of s) v))))
unfolding root_answer prove_answer read_root prove proof
proof_of_sound_holds s right ok v kept some k whole root e room h =
    let st = store_of s in
    let read : read_root leaf_hash inner_hash st v ≡ accepted root = ap (λ d. by_header d (read_root leaf_hash inner_hash st v)) (sym right) ∙ e in
    let w = shown leaf_hash inner_hash st ok v kept k whole some root read in
    let fits : proof_length w.0 ≤ room = omega (arith, proofs_have_17080_bytes st v k w.0 w.1) in (
      w.0,
      ap (λ b. cond b (by_header (header_of counted s) (prove st v k room)) (refused 12)) (eq-eqb (length k) 32 whole.0)
          ∙ ap (λ d. by_header d (prove st v k room)) right
          ∙ given_with_room st v k w.0 room w.1 fits,
      w.2,
    )
