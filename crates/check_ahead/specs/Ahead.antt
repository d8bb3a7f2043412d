-- Links whose records are hashed ahead. Assumes nothing.
use Rattle.std.specs.Prelude.{ℕ, ◌≤◌, ◌<◌, List, get_or}
use Rattle.terms.specs.declared.Form.{Form}
use Rattle.terms.specs.Bits.{Bytes}
use Rattle.sha256.specs.Sha256.{sha256}
use Rattle.nodehash.specs.Words.{message}
use Rattle.nodehash_eight.specs.declared.Message.{Message}
use Rattle.sha256_eight.specs.Each.{Each}
use Rattle.layout.specs.Stores.{Has}
use Rattle.check_hash.specs.Known.{link_slot, HashIs}

-- A link of the store.
pub record LinkFits (fm : Form) (s : Bytes) (link : ℕ) : Type 0 where
  pub some : 1 ≤ link
  pub parent : Has fm s (link_slot link)

-- Eight slots of the store, and eight links.
abbrev pub AllSlots : Form → Bytes → List ℕ → Type 0
AllSlots fm s slots = Each 8 (λ _ c. Has fm s c) 0 slots

abbrev pub AllLinks : Form → Bytes → List ℕ → Type 0
AllLinks fm s links = Each 8 (λ _ k. LinkFits fm s k) 0 links

-- The hash of the record in slot l of eight.
abbrev pub HashAt : Form → Bytes → List ℕ → ℕ → Bytes → Type 0
HashAt fm s slots l hash = HashIs fm s (get_or slots l 0) hash

-- The hash of the record in slot c is that of this message.
pub record MessageOf (fm : Form) (s : Bytes) (c : ℕ) (m : Message) : Type 0 where
  pub kind : m.kind < 256
  pub hash : HashIs fm s c (sha256 (message m.kind m.left m.right))
