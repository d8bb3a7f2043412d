-- What a look at a slot's head says. Assumes nothing.
use Rattle.std.specs.Prelude.{ℕ, ◌<◌, ◌≡◌, true, [], ◌∷◌, ◌++◌}
use Rattle.terms.specs.declared.Form.TheVariants.{Counted as counted}
use Rattle.terms.specs.Bits.{Bytes, before}
use Rattle.layout.specs.Slots.{count_in, bits_in, version_in}
use Rattle.layout.specs.Stores.{store_of, Has}
use Rattle.ordered.specs.Ordered.{InForm}
use Rattle.std.specs.declared.cmp.Ordering.{Ordering}
use Rattle.std.specs.declared.cmp.Ordering.TheVariants.{Less, Equal, Greater}

-- The key of a bit count, bits and a version.
unfoldable pub head_key : ℕ → Bytes → ℕ → Bytes
head_key c b v = c ∷ (b ++ (v ∷ []))

-- The key that a slot's bytes say.
abbrev pub key_in : Bytes → Bytes
key_in x = head_key (count_in x) (bits_in x) (version_in x)

-- How byte strings stand to each other.
abbrev pub BytesStand : Ordering → Bytes → Bytes → Type 0
BytesStand Less x y = before x y ≡ true
BytesStand Greater x y = before y x ≡ true
BytesStand Equal x y = x ≡ y

-- How versions stand to each other.
abbrev pub VersionsStand : Ordering → ℕ → ℕ → Type 0
VersionsStand Less v w = v < w
VersionsStand Greater v w = w < v
VersionsStand Equal v w = v ≡ w

-- How the key of a slot's bytes stands to a key.
abbrev pub Stands : Ordering → Bytes → Bytes → Type 0
Stands r x key = BytesStand r (key_in x) key

-- Slot i is one of the store's, and in form.
abbrev pub Formed : Bytes → ℕ → Type 0
Formed s i = Has counted s i × InForm (store_of s).slots i
