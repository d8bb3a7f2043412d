-- What is claimed of apply and prune, refused or accepted, and of numbers without a gap. Assumes nothing.
use Rattle.std.specs.Prelude.{ℕ, suc, ◌+◌, ◌<◌, ◌≤◌, ◌≡◌, true, false, List, [], length}
use Rattle.std.proofs.Math.Option.{Option, none, some}
use Rattle.terms.specs.Bits.{Bytes}
use Rattle.terms.specs.Records.{Grant, Ask, insert, delete, Record, Store}
use Rattle.meaning.specs.Tree.{with_batch, hash, VTree, unversioned, grants_in, next_tree}
use Rattle.meaning.specs.Store.{tree_at_version, free_slots, marked, new_records}
use Rattle.meaning.specs.Sound.{At, Kept, NodeOf, Sound}
use Rattle.meaning.specs.Calls.{Applied, ascending}
use Rattle.meaning.specs.Reading.{answer_of, present, absent, read_key, read_root}
use Rattle.meaning.specs.Proving.{proof}
use Rattle.meaning.specs.History.{Call, formatting, applying, pruning, taking, looking}

-- An ask that is no change: an insert of the value already there, a delete of an absent key.
abbrev pub NoChange : List Grant → Ask → Type 0
NoChange gs (insert k x) = answer_of k gs ≡ present x
NoChange gs (delete k) = answer_of k gs ≡ absent

-- A call leaves no gap: a batch is given at most latest + 1, and the store isn't made of another, which may have some.
abbrev pub NoGap : Call → Store → Type 0
NoGap formatting st = Unit {0}
NoGap (applying number batch) st = number ≤ suc st.latest
NoGap (pruning n) st = Unit {0}
NoGap (taking es) st = ⊥
NoGap looking st = Unit {0}

-- A record's node stands in a tree.
abbrev pub InTree : Record → VTree → Type 0
InTree r t = NodeOf r.version r.place t []

module _ (leaf_hash inner_hash : Bytes → Bytes → Bytes) where
  -- Rows 4, 5, 18 and 7 of the numbers of refusal, each after those before it.
  pub data ApplyRefuses (number : ℕ) (st : Store) : Option (List Ask) → ℕ → Type 0 where
    not_in_form : ApplyRefuses number st none 4
    not_ascending : {batch : List Ask} → ascending batch ≡ false → ApplyRefuses number st (some batch) 5
    not_above_latest : {batch : List Ask} → ascending batch ≡ true → number ≤ st.latest →
        ApplyRefuses number st (some batch) 18
    no_room : {batch : List Ask} →
        ascending batch ≡ true →
        st.latest < number →
        free_slots st.slots < length
        (new_records leaf_hash inner_hash number (next_tree number (tree_at_version st st.latest) batch)) →
        ApplyRefuses number st (some batch) 7

  -- st' is st with a batch applied as the version of a number, and this was answered.
  pub record AfterApply (number : ℕ) (batch : List Ask) (st : Store) (answer : Applied) (st' : Store) : Type 0 where
    pub sound : Sound leaf_hash inner_hash st'
    pub capacity : length st'.slots ≡ length st.slots
    pub oldest : st'.oldest ≡ st.oldest
    pub latest : st'.latest ≡ number
    pub above : st.latest < st'.latest
    pub tree : tree_at_version st' st'.latest ≡ next_tree st'.latest (tree_at_version st st.latest) batch
    pub grants : grants_in (tree_at_version st' st'.latest)
        ≡ with_batch batch (grants_in (tree_at_version st st.latest))
    pub older : (v : ℕ) → Kept st v → tree_at_version st' v ≡ tree_at_version st v
    pub between : (v : ℕ) → st.latest ≤ v → v < st'.latest → tree_at_version st' v ≡ tree_at_version st st.latest
    -- a record of the old tree alone is marked retired since the new version, any other old record is as it was
    pub ends : (i : ℕ) (r : Record) → At st i r → InTree r (tree_at_version st st.latest) →
        (InTree r (tree_at_version st' st'.latest) → ⊥) → At st' i (marked st'.latest r)
    pub stays : (i : ℕ) (r : Record) → At st i r →
        (InTree r (tree_at_version st st.latest) → InTree r (tree_at_version st' st'.latest)) → At st' i r
    pub version : answer.version ≡ st'.latest
    pub root : answer.root ≡ hash leaf_hash inner_hash (unversioned (tree_at_version st' st'.latest))
    pub count : free_slots st.slots ≡ free_slots st'.slots + answer.count

  -- st' is st pruned to n, and as many slots more are free as was answered.
  pub record AfterPrune (n : ℕ) (st : Store) (answer : ℕ) (st' : Store) : Type 0 where
    pub sound : Sound leaf_hash inner_hash st'
    pub capacity : length st'.slots ≡ length st.slots
    pub oldest : st'.oldest ≡ n
    pub latest : st'.latest ≡ st.latest
    pub trees : (v : ℕ) → Kept st' v → tree_at_version st' v ≡ tree_at_version st v
    pub count : free_slots st'.slots ≡ free_slots st.slots + answer

  -- Two versions of a store read alike: the root, each key, each proof.
  pub record ReadAlike (st : Store) (v w : ℕ) : Type 0 where
    pub root : read_root leaf_hash inner_hash st v ≡ read_root leaf_hash inner_hash st w
    pub keys : (k : Bytes) → read_key st v k ≡ read_key st w k
    pub proofs : (k : Bytes) → proof st v k ≡ proof st w k
