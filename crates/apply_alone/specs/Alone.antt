-- Document 01, 'The tree of a set of grants': a leaf that nothing is inserted beside. What the values of the code say,
-- case by case. Assumes nothing.
use Rattle.std.specs.Prelude.{ℕ, ◌≡◌, Bool, []}
use Rattle.std.proofs.Math.Option.{Option, none, some}
use Rattle.terms.specs.Bits.{Bytes}
use Rattle.terms.specs.Records.{Grant, Ask, insert, delete}
use Rattle.hash.specs.Hash.{hash_bytes}
use Rattle.nodehash.specs.Node.{leaf_hash, inner_hash}
use Rattle.steps.specs.Step as step
use Rattle.apply_outcome.specs.declared.Outcome as outcome
use Rattle.apply_outcome.specs.Outcomes.{change_says, NodeSays}
use Rattle.apply_alone.specs.declared.Own as declared
use Rattle.apply_alone.specs.declared.Own.TheVariants.{Nothing, Insert, Delete}

-- What the run asks for the key: nothing, an insert of a value, or a delete.
abbrev pub OwnSays : declared.Own → Option Ask → Type 0
OwnSays Nothing o = o ≡ none
OwnSays (Insert x) o = (k : Bytes) × (o ≡ some (insert k (hash_bytes x)))
OwnSays Delete o = (k : Bytes) × (o ≡ some (delete k))

-- What becomes of a leaf that nothing is inserted beside is what the definition makes of it.
pub record Alone (new from version : ℕ) (g : Grant) (asked : Option Ask) (r : outcome.Outcome) : Type 0 where
  pub change : (grown : Option Grant → step.Outcome) →
      change_says r.change ≡ (step.leaf_by leaf_hash inner_hash new version g asked [] grown).change
  pub node : (writes : Bool) (grown : Option Grant → step.Outcome) →
      NodeSays writes r.node (step.leaf_by leaf_hash inner_hash new version g asked [] grown).node
  pub quiet : (grown : Option Grant → step.Outcome) →
      ((step.leaf_by leaf_hash inner_hash new version g asked [] grown).fresh ≡ []) ×
      ((step.leaf_by leaf_hash inner_hash new version g asked [] grown).retired ≡ [])
  pub reach : r.reach ≡ from

-- The same by what the run was found to ask for its key.
abbrev pub AloneBy : ℕ → ℕ → ℕ → Grant → declared.Own → outcome.Outcome → Type 0
AloneBy new from version g own r = (asked : Option Ask) → OwnSays own asked → Alone new from version g asked r
