-- What the two reads of counts answer of a sound store. Assumes nothing.
use Prim.Native.Nat.{ℕ}
use mathlib.Core.Path.{◌≡◌, refl, ap, ◌∙◌}
use mathlib.Core.Option.{none}
use lib.ListN.{length}
use Rattle.terms.specs.declared.Form.TheVariants.{Counted as counted}
use Rattle.terms.specs.Bits.{Bytes}
use Rattle.meaning.specs.Tree.{grants_in}
use Rattle.meaning.specs.Store.{tree_at_version}
use Rattle.meaning.specs.Sound.{Sound, Kept}
use Rattle.meaning.specs.Calls.{accepted}
use Rattle.meaning.specs.Counting.{read_number, read_position, grant_at}
use Rattle.positions.proofs.Sound.{number_is, position_is}
use Rattle.nodehash.specs.Node.{leaf_hash, inner_hash}
use Rattle.layout.specs.Headers.{header, header_of}
use Rattle.layout.specs.Stores.{store_of}
use Rattle.promises.specs.Headed.{by_header}
use Rattle.contracts.specs.Numbers.{number_answer, position_answer}

-- Of bytes with a right header that hold a sound store, at a kept version, the number read is that of the version's grants.
pub number_of_sound : (s : Bytes) {n o l : ℕ} → header_of counted s ≡ header n o l → Sound leaf_hash inner_hash (store_of s) → (v : ℕ) → Kept (store_of s) v →
    number_answer s none v ≡ accepted (length (grants_in (tree_at_version (store_of s) v)))
unfolding number_answer read_number
number_of_sound s right ok v kept = ap (λ h. by_header h (read_number (store_of s) v)) right ∙ number_is leaf_hash inner_hash (store_of s) refl ok v kept

-- Of bytes with a right header that hold a sound store, at a kept version, the grant read is the one at the position, 20 if that isn't below their number.
pub position_of_sound : (s : Bytes) {n o l : ℕ} → header_of counted s ≡ header n o l → Sound leaf_hash inner_hash (store_of s) → (v : ℕ) → Kept (store_of s) v →
    (i : ℕ) → position_answer s none v i ≡ grant_at (grants_in (tree_at_version (store_of s) v)) i
unfolding position_answer read_position
position_of_sound s right ok v kept i = ap (λ h. by_header h (read_position (store_of s) v i)) right ∙ position_is leaf_hash inner_hash (store_of s) refl ok v kept i
