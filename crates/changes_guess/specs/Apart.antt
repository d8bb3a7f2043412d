-- Document 01, 'Soundness': no two records share version and place. Assumes nothing.
use Rattle.std.specs.Prelude.{ℕ, ◌≡◌}
use Rattle.terms.specs.Records.{Record, Store}
use Rattle.meaning.specs.Sound.{At}

-- No two records share version and place.
unfoldable pub Apart : Store → Type 0
Apart st = (i j : ℕ) (r q : Record) → At st i r → At st j q → r.version ≡ q.version → r.place ≡ q.place → i ≡ j
