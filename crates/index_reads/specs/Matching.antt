-- 2026-05: 'so whatever the index holds, a read differs from the plain scan's only where two slots match.'
use Rattle.std.specs.Prelude.{ℕ, ◌≡◌, Bool, true}
use Rattle.terms.specs.Bits.{Place}
use Rattle.terms.specs.Records.{Record, Store}
use Rattle.meaning.specs.Store.{is_node, is_root}
use Rattle.meaning.specs.Sound.{At}

-- At most one slot in form passes a test.
abbrev pub OneMatch : Store → (Record → Bool) → Type 0
OneMatch st test = (i j : ℕ) (q r : Record) → At st i q → At st j r → test q ≡ true → test r ≡ true → i ≡ j

-- No two slots in form match where v is read: no two hold the same node or are roots whose lifetimes cover v.
pub record NoTwoMatch (st : Store) (v : ℕ) : Type 0 where
  pub node : (w : ℕ) (p : Place) → OneMatch st (is_node w p)
  pub root : OneMatch st (is_root v)
