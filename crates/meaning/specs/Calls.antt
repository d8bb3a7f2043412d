-- Document 01, 'Numbers of refusal', and 2026-13: what apply and prune answer of a sound store. Assumes nothing.
use Rattle.std.specs.Prelude.{ℕ, ◌-◌, Bool, true, cond, ◌&&◌, List, [], ◌∷◌, length, leb, ltb}
use Rattle.std.proofs.Math.Option.{Option, none, some}
use Rattle.terms.specs.Bits.{Bytes, before}
use Rattle.terms.specs.Records.{Ask, ask_key, Store, store_from}
use Rattle.meaning.specs.Tree.{VTree, unversioned, hash, next_tree}
use Rattle.meaning.specs.Store.{tree_at_version, free_slots, new_records, settled, pruned}

-- A refusal returns its number and no other result.
pub data Answer (A : Type 0) : Type 0 where
  refused : ℕ → Answer A
  accepted : A → Answer A

-- A call's answer, and the store it leaves.
pub record Result (A : Type 0) : Type 0 where
  pub answer : Answer A
  pub store : Store

-- A refused call writes nothing.
unfoldable pub refuse : {A : Type 0} → ℕ → Store → Result A
refuse n st = record { answer = refused n; store = st }

-- An accepted call answers, and leaves this store.
abbrev pub accept : {A : Type 0} → A → Store → Result A
accept a st = record { answer = accepted a; store = st }

-- The version is kept.
unfoldable pub is_kept : Store → ℕ → Bool
is_kept st v = leb st.oldest v && leb v st.latest

-- Apply answers version, root and count of new records.
pub record Applied : Type 0 where
  pub version : ℕ
  pub root : Bytes
  pub count : ℕ

abbrev pub applied_as : ℕ → Bytes → ℕ → Applied
applied_as v root n = record { version = v; root = root; count = n }

-- Keys strictly ascending.
abbrev pub ascending : List Ask → Bool
ascending [] = true
ascending (a ∷ []) = true
ascending (a ∷ b ∷ batch) = before (ask_key a) (ask_key b) && ascending (b ∷ batch)

-- Pruning to n: 8 if the version isn't kept; else it answers how many records it freed.
unfoldable pub prune : ℕ → Store → Result ℕ
prune n st =
    let kept = pruned n st.slots in
    cond (is_kept st n)
    (accept (free_slots kept - free_slots st.slots) (store_from st.form n st.latest kept))
    (refuse 8 st)

module _ (leaf_hash inner_hash : Bytes → Bytes → Bytes) where
  -- The tree `now` as version `new` after the tree `old`: 7 if there are fewer free slots than new records.
  unfoldable pub publish : ℕ → VTree → VTree → Store → Result Applied
  publish new old now st =
      cond (ltb (free_slots st.slots) (length (new_records leaf_hash inner_hash new now)))
      (refuse 7 st)
      (accept
      (applied_as new (hash leaf_hash inner_hash (unversioned now)) (length (new_records leaf_hash inner_hash new now)))
      (settled leaf_hash inner_hash new old now st))

  -- A batch makes version `new` of the latest tree.
  unfoldable pub apply_as : ℕ → List Ask → Store → Result Applied
  apply_as new batch st =
      publish new (tree_at_version st st.latest) (next_tree new (tree_at_version st st.latest) batch) st

  -- Apply, of a batch in form (else 4): keys not strictly ascending 5, a number not above latest 18, too few slots 7.
  abbrev pub apply : ℕ → Option (List Ask) → Store → Result Applied
  apply number none st = refuse 4 st
  apply number (some batch) st =
      cond (ascending batch) (cond (ltb st.latest number) (apply_as number batch st) (refuse 18 st)) (refuse 5 st)
