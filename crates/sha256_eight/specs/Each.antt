-- What holds of each of the first elements of an array, whatever their type and number. Assumes nothing.
use Rattle.std.specs.Prelude.{ℕ, ◌<◌, List, get_or}

-- Element i has P i, for each i below n; d stands where there is none.
abbrev pub Each : {A : Type 0} → ℕ → (ℕ → A → Type 0) → A → List A → Type 0
Each n P d r = (i : ℕ) → i < n → P i (get_or r i d)
