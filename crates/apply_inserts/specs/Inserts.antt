-- Document 01, 'The tree of a set of grants': 'a run of inserts with no node there grows a subtree; at a leaf, with the
-- leaf if it stays'. What the values of the code say, case by case. Assumes nothing.
use Rattle.std.specs.declared.option.Option as option
use Rattle.std.specs.Prelude.{Some, None, ℕ, ◌<◌, ◌≤◌, ◌≡◌, true, false, cond, List, [], ◌∷◌, drop}
use Rattle.std.proofs.Math.Option.{Option, none, some}
use Rattle.terms.specs.Bits.{Bytes, Place, All, begins, same_bytes}
use Rattle.terms.specs.Records.{Grant, grant, Ask, ask_key}
use Rattle.terms.specs.Form.{GrantForm}
use Rattle.hash.specs.Hash.{hash_bytes}
use Rattle.batch.specs.Batch.{count, asks}
use Rattle.batch.specs.Records.{ask_at, inserts}
use Rattle.steps.specs.Step as step
use Rattle.apply_inserts.specs.declared.Grant as declared-grant
use Rattle.apply_inserts.specs.declared.Few as declared-few
use Rattle.apply_inserts.specs.declared.Few.TheVariants.{Nothing, One, Several}

-- The leaf that stays.
abbrev pub stays_says : option.Option declared-grant.Grant → Option Grant
stays_says None = none
stays_says (Some g) = some (grant (hash_bytes g.key) (hash_bytes g.value))

-- It stays at a place on its way.
abbrev pub stays_at : Place → Option Grant → Option Grant
stays_at p none = none
stays_at p (some g) = cond (begins p g.key) (some g) none

-- No grant, one, or two or more.
abbrev pub FewSays : declared-few.Few → List Grant → Type 0
FewSays Nothing gs = gs ≡ []
FewSays (One k x) gs = gs ≡ grant (hash_bytes k) (hash_bytes x) ∷ []
FewSays Several gs = (g : Grant) × (h : Grant) × (rest : List Grant) × (gs ≡ g ∷ h ∷ rest)

-- Record r of a run is its first insert from a record on, or there is none and r is the end.
pub record NextInsert (run : Bytes) (from r : ℕ) : Type 0 where
  pub after : from ≤ r
  pub within : r ≤ count run
  pub passed : step.inserts (drop from (asks run)) ≡ step.inserts (drop r (asks run))
  pub here : r < count run → inserts (ask_at r run) ≡ true

-- The leaf that stays begins with the place, and the run asks nothing for its key.
abbrev pub StaysAt : Place → Option Grant → List Ask → Type 0
StaysAt p none asks = Unit {0}
StaysAt p (some g) asks =
    GrantForm g × (begins p g.key ≡ true) × All (λ a. same_bytes (ask_key a) g.key ≡ false) asks
