-- Demand 3: the grants that a history of calls, each accepted or not, gives to each version. Assumes nothing.
use Rattle.std.specs.Prelude.{ℕ, zero, suc, ◌+◌, ◌-◌, ◌≡◌, Bool, cond, List, [], ◌∷◌, eqb, leb}
use Rattle.std.proofs.Math.Option.{Option, none, some}
use Rattle.terms.specs.Bits.{Bytes, filter}
use Rattle.terms.specs.Records.{Grant, Ask, Store}
use Rattle.meaning.specs.Tree.{VTree, with_batch, tree_of, unversioned, grants_in}
use Rattle.meaning.specs.Store.{tree_at_version}
use Rattle.meaning.specs.Sound.{Sound, Kept}

-- The grants of a version.
pub record Entry : Type 0 where
  pub version : ℕ
  pub grants : List Grant

abbrev pub entry : ℕ → List Grant → Entry
entry v gs = record { version = v; grants = gs }

-- A call on a store: the number given and the batch as decoded, none where it isn't whole records in form; the store
-- made anew from another one, with the grants of these versions (2026-08); any call that writes nothing.
pub data Call : Type 0 where
  formatting : Call
  applying : ℕ → Option (List Ask) → Call
  pruning : ℕ → Call
  taking : List Entry → Call
  looking : Call

unfoldable pub kept_by : ℕ → Entry → Bool
kept_by n e = leb n e.version

-- The next n versions after an entry's hold what it holds.
abbrev pub lasting : ℕ → Entry → List Entry → List Entry
lasting zero e es = e ∷ es
lasting (suc n) e es = entry (e.version + suc n) e.grants ∷ lasting n e es

-- What an accepted call does to the grants by version, the newest first: formatting starts anew with the empty version
-- 0; a batch makes the version of its number, and those between it and the newest one hold what that holds.
abbrev pub noted : Call → List Entry → List Entry
noted formatting es = entry 0 [] ∷ []
noted (applying number none) es = es
noted (applying number (some batch)) [] = []
noted (applying number (some batch)) (e ∷ es) =
    entry number (with_batch batch e.grants) ∷ lasting (number - suc e.version) e es
noted (pruning n) es = filter (kept_by n) es
noted (taking new) es = new
noted looking es = es

-- The grants by version that a history gives, from those before it.
abbrev pub ledger : List (Call × Bool) → List Entry → List Entry
ledger [] es = es
ledger (c ∷ calls) es = ledger calls (cond c.1 (noted c.0 es) es)

-- The grants of a version in a ledger.
abbrev pub grants_of : ℕ → List Entry → Option (List Grant)
grants_of v [] = none
grants_of v (e ∷ es) = cond (eqb e.version v) (some e.grants) (grants_of v es)

-- The grants of the versions o + n down to o, by their trees.
abbrev pub entries_from : (ℕ → VTree) → ℕ → ℕ → List Entry
entries_from trees o zero = entry o (grants_in (trees o)) ∷ []
entries_from trees o (suc n) = entry (o + suc n) (grants_in (trees (o + suc n))) ∷ entries_from trees o n

-- What a store holds by itself, in its kept versions. A history that starts at a sound store starts with this.
unfoldable pub held : Store → List Entry
held st = entries_from (tree_at_version st) st.oldest (st.latest - st.oldest)

-- A store holds what a ledger says: each kept version's tree is the tree of its grants, and no other version has any.
module _ (leaf_hash inner_hash : Bytes → Bytes → Bytes) where
  pub record Holds (st : Store) (es : List Entry) : Type 0 where
    pub sound : Sound leaf_hash inner_hash st
    pub gives : (v : ℕ) → Kept st v → (gs : List Grant) × (grants_of v es ≡ some gs) ×
        (unversioned (tree_at_version st v) ≡ tree_of gs) × (grants_in (tree_at_version st v) ≡ gs)
    pub only : (v : ℕ) → (Kept st v → ⊥) → grants_of v es ≡ none
