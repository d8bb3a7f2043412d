-- The desk's stores moved back and over again, by computing, with hashes as names. Assumes nothing.
use mathlib.Core.Path.{◌≡◌, refl}
use mathlib.Core.List.{List, [], ◌∷◌}
use Rattle.terms.specs.Bits.{Bytes, All}
use Rattle.terms.specs.Records.{Store}
use Rattle.meaning.specs.Computed.{computed}
use Rattle.meaning.specs.Desk.{s₁, s₂, s₆, s₈, s₉}
use Rattle.meaning.specs.DeskGaps.{g₁₅}
use Rattle.moved.specs.Moving.{counting, counts_in, over, back}

module _ (leaf_hash inner_hash : Bytes → Bytes → Bytes) where
  abbrev stores : List Store
  stores =
      s₁ leaf_hash inner_hash
      ∷ s₂ leaf_hash inner_hash
      ∷ s₆ leaf_hash inner_hash
      ∷ s₈ leaf_hash inner_hash
      ∷ s₉ leaf_hash inner_hash
      ∷ g₁₅ leaf_hash inner_hash
      ∷ []

  pub desk_moved : All (λ st. over (back st) ≡ st) stores
  unfolding computed counting counts_in over back
  desk_moved = (refl, (refl, (refl, (refl, (refl, (refl, tt))))))
