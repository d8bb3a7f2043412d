-- What the demands claim of the public calls, in the words of their contracts. Assumes nothing.
use Rattle.std.specs.Prelude.{ℕ, ◌≤◌, ◌<◌, ◌≡◌, ◌↔◌, Bool, true, false, List, [], map, length, take}
use Rattle.std.proofs.Math.Option.{some}
use Rattle.terms.specs.declared.Form.TheVariants.{Counted as counted}
use Rattle.terms.specs.Bits.{Bytes, Whole32, Place}
use Rattle.terms.specs.Fields.{le, num, field, slice, zero_bytes}
use Rattle.terms.specs.Records.{Grant, Ask, Record, Proof, zeros}
use Rattle.meaning.specs.Tree.{with_batch, tree_of, hash, VTree, unversioned, grants_in}
use Rattle.meaning.specs.Store.{tree_at_version, retired_by, new_records}
use Rattle.meaning.specs.Sound.{At, Kept, NodeOf, Lives}
use Rattle.meaning.specs.Calls.{accepted, Applied}
use Rattle.meaning.specs.Reading.{Verdict, present, absent, answer_of}
use Rattle.checker.specs.Holding as checker
use Rattle.meaning.specs.Proving.{proof, proof_length}
use Rattle.meaning.specs.History.{Call, Entry, ledger, grants_of, Holds}
use Rattle.histories.specs.Claims.{InTree, AfterApply, AfterPrune}
use Rattle.changed.specs.Changes.{Change, undone, items, list_bytes}
use Rattle.changed.specs.Compare.{changes_of, visits_of}
use Rattle.changed.specs.Claims.{KeyOrder, WhatChanged}
use Rattle.nodehash.specs.Node.{leaf_hash, inner_hash}
use Rattle.proofrecords.specs.ProofBytes.{presence_kind, absence_kind, ProofIs}
use Rattle.layout.specs.Sizes.{slot_size}
use Rattle.layout.specs.Stores.{slot_in, store_of, store_bytes}
use Rattle.batch.specs.Asked.{AskedBy}
use Rattle.promises.specs.Calls.{SoundBytes}
use Rattle.rescue_rules.specs.Rescue.{source_tree}
use Rattle.rescue_bytes.specs.Rescues.{slots_in, Report, report_bytes}
use Rattle.rescue_bytes.specs.Claims.{Worth}
use Rattle.contracts.specs.Apply.{told}
use Rattle.meaning.specs.Counting.{grant_at}
use Rattle.meaning.specs.Answers.{found_bytes, number_of, told_of, room_after}
use Rattle.contracts.specs.Numbers.{grant_bytes}
use Rattle.contracts.specs.Contracts.{ReadsRoot, ReadsKey, Proves, Palettes, Changes, Verifies, Counts, ReadsAt}

-- Of the store that bytes hold: the tree of a version, its grants, the latest version, and its grants with a batch.
abbrev pub tree_of_version : Bytes → ℕ → VTree
tree_of_version s v = tree_at_version (store_of s) v

abbrev pub grants_of_version : Bytes → ℕ → List Grant
grants_of_version s v = grants_in (tree_of_version s v)

abbrev pub latest_of : Bytes → ℕ
latest_of s = (store_of s).latest

abbrev pub grants_with : List Ask → Bytes → List Grant
grants_with asks s = with_batch asks (grants_of_version s (latest_of s))

-- Two calls with these contracts, lent the same room and array, answer alike and leave the same bytes.
pub record SameOutcome (A B : Bytes → Bytes → ℕ → Bytes → Bytes → Type 0) : Type 0 where
  pub same : {room f u u₁ g g₁ : Bytes} {r r₁ : ℕ} → A room f r u g → B room f r₁ u₁ g₁ → (r ≡ r₁) × (u ≡ u₁) × (g ≡ g₁)

-- Demand 2: what is shown of a key in a kept version that holds a grant (2026-03), whose grants say this of the key.
pub record Shown (s : Bytes) (v : ℕ) (k : Bytes) (answer : Verdict) : Type 0 where
  pub proved : Proof  -- there is a proof, given exactly if there is room for it, else 9; 17,080 bytes are enough
  pub is_proved : proof (store_of s) v k ≡ accepted proved
  pub given : {room f t g : Bytes} {r : ℕ} → Proves s v k room f r t g → (r ≡ 0) ↔ (proof_length proved ≤ length room)
  pub short : {room f t g : Bytes} {r : ℕ} → Proves s v k room f r t g → (r ≡ 9) ↔ (length room < proof_length proved)
  pub room : {room f t g : Bytes} {r : ℕ} → Proves s v k room f r t g → 17080 ≤ length room → r ≡ 0
  pub presence : {room f t g : Bytes} → Proves s v k room f 0 t g →
      (field 4 2 t ≡ presence_kind) ↔ ((x : Bytes) × (answer ≡ present x))
  pub absence : {room f t g : Bytes} → Proves s v k room f 0 t g → (field 4 2 t ≡ absence_kind) ↔ (answer ≡ absent)
  -- the checker accepts it against the version's root, and finds what the key read finds
  pub checked : {room f t g f₁ root f₂ found : Bytes} {r₁ r₂ : ℕ} → Proves s v k room f 0 t g →
      ReadsRoot s v f₁ r₁ root → Verifies root k (take (num g) t) f₂ r₂ found →
      (r₁ ≡ 0) × (r₂ ≡ 0) × (found ≡ found_bytes answer)

-- Demands 2 and 3: what is read and shown of a version of the bytes s are these grants.
pub record ReadsFor (s : Bytes) (v : ℕ) (gs : List Grant) : Type 0 where
  pub root : {f g : Bytes} {r : ℕ} → ReadsRoot s v f r g → (r ≡ 0) × (g ≡ hash leaf_hash inner_hash (tree_of gs))
  pub key : {k f g : Bytes} {r : ℕ} → Whole32 k → ReadsKey s v k f r g → (r ≡ 0) × (g ≡ found_bytes (answer_of k gs))
  pub number : {f g : Bytes} {r : ℕ} → Counts s v f r g → (r ≡ 0) × (g ≡ le 8 (length gs))
  pub ordered : KeyOrder (λ (g : Grant). g.key) gs  -- position i has the i-th of them, or 20 (2026-09)
  pub position : {i : ℕ} {f g : Bytes} {r : ℕ} → ReadsAt s v i f r g →
      (r ≡ number_of (grant_at gs i)) × (g ≡ told_of grant_bytes (grant_at gs i) f)
  pub below : {i : ℕ} {f g : Bytes} {r : ℕ} → ReadsAt s v i f r g → (r ≡ 0) ↔ (i < length gs)
  pub past : {i : ℕ} {f g : Bytes} {r : ℕ} → ReadsAt s v i f r g → (r ≡ 20) ↔ (length gs ≤ i)
  pub shows : (gs ≡ [] → ⊥) → (k : Bytes) → Whole32 k → Shown s v k (answer_of k gs)  -- else 14 (2026-03)
  pub zero_root : gs ≡ [] → {f g : Bytes} {r : ℕ} → ReadsRoot s v f r g → g ≡ zeros
  pub shows_nothing : {k room f t g : Bytes} {r : ℕ} → Whole32 k → Proves s v k room f r t g →
      ((r ≡ 14) ↔ (gs ≡ [])) × (r ≡ 14 → (t ≡ room) × (g ≡ f))

-- Demand 3: the bytes t of a store after its history, from the grants by version that it began with.
pub record AfterHistory (start : List Entry) (history : List (Call × Bool)) (t : Bytes) : Type 0 where
  pub sound : SoundBytes t
  pub bytes : t ≡ store_bytes (store_of t)
  pub holds : Holds leaf_hash inner_hash (store_of t) (ledger history start)  -- exactly the grants of its history
  -- each record stands in exactly the kept versions of its lifetime
  pub lifetimes : (v : ℕ) → Kept (store_of t) v → (i : ℕ) (r : Record) → At (store_of t) i r →
      InTree r (tree_of_version t v) ↔ Lives v r
  pub reads : {v : ℕ} {gs : List Grant} → Kept (store_of t) v → grants_of v (ledger history start) ≡ some gs →
      ReadsFor t v gs
  pub paths : (v : ℕ) → Kept (store_of t) v → (w : ℕ) (p : Place) → NodeOf w p (tree_of_version t v) [] → length p ≤ 256
  pub proofs : {v : ℕ} {k room f u g : Bytes} → Proves t v k room f 0 u g → num g ≤ 17080

-- Version v of the bytes t reads as version w of the bytes s (2026-13): the same grants, proofs and palettes.
pub record ReadsAs (t : Bytes) (v : ℕ) (s : Bytes) (w : ℕ) : Type 0 where
  pub grants : List Grant
  pub reads : ReadsFor t v grants × ReadsFor s w grants
  pub proof : (k : Bytes) → SameOutcome (Proves t v k) (Proves s w k)
  pub palette : (list : Bytes) → SameOutcome (Palettes t v list) (Palettes s w list)

-- What changed between two versions of the bytes t is what changed between two versions of the bytes s.
pub record ComparesAs (t : Bytes) (v v' : ℕ) (s : Bytes) (w w' : ℕ) : Type 0 where
  pub same : (limit : ℕ) → SameOutcome (Changes v v' limit t) (Changes w w' limit s)

-- Demand 2: a batch was applied to the bytes s as a number (2026-13) and accepted; t are the bytes left, and g is told.
pub record NextVersion (number : ℕ) (batch s t g : Bytes) : Type 0 where
  pub asks : List Ask
  pub asked : AskedBy batch asks
  pub was : SoundBytes s
  pub sound : SoundBytes t
  pub bytes : t ≡ store_bytes (store_of t)
  pub answer : Applied  -- the new tree with its node versions, the retired nodes, and nothing else
  pub answered : g ≡ told answer
  pub after : AfterApply leaf_hash inner_hash number asks (store_of s) answer (store_of t)
  pub version : field 0 4 g ≡ number
  pub tree : unversioned (tree_of_version t (latest_of t)) ≡ tree_of (grants_with asks s)
  pub reads : ReadsFor t number (grants_with asks s)
  pub root : slice 4 32 g ≡ hash leaf_hash inner_hash (tree_of (grants_with asks s))
  pub count : field 36 4 g ≡ length (new_records leaf_hash inner_hash (latest_of t) (tree_of_version t (latest_of t)))
  pub older : (v : ℕ) → Kept (store_of s) v → ReadsAs t v s v  -- as they were; those between as the latest before
  pub between : (v : ℕ) → latest_of s ≤ v → v < number → ReadsAs t v s (latest_of s)
  pub compares : (v w : ℕ) → Kept (store_of s) v → Kept (store_of s) w → ComparesAs t v w s v w

-- Pruning the bytes s to n was accepted; t are the bytes left, and g what was told: the count of records freed.
pub record Pruned (n : ℕ) (s t g : Bytes) : Type 0 where
  pub was : SoundBytes s
  pub sound : SoundBytes t
  pub bytes : t ≡ store_bytes (store_of t)
  pub after : AfterPrune leaf_hash inner_hash n (store_of s) (num g) (store_of t)
  pub reads : (v : ℕ) → Kept (store_of t) v → ReadsAs t v s v
  pub compares : (v w : ℕ) → Kept (store_of t) v → Kept (store_of t) w → ComparesAs t v w s v w
  -- the slot of every record retired since n or earlier is free, 128 zero bytes; every other slot has the bytes it had
  pub frees : (i : ℕ) (r : Record) → At (store_of s) i r → retired_by n r ≡ true →
      slot_in counted i t ≡ zero_bytes (slot_size counted)
  pub keeps : (i : ℕ) → i < length (store_of s).slots → ((r : Record) → At (store_of s) i r → retired_by n r ≡ false) →
      slot_in counted i t ≡ slot_in counted i s

-- Demand 2: the proof check accepts the bytes x as a proof for the key k against a root, with this answer.
pub record Accepts (root k x : Bytes) (answer : Verdict) : Type 0 where
  pub root32 : length root ≡ 32
  pub key32 : length k ≡ 32
  pub proof : Proof
  pub is_proof_lem : ProofIs x proof
  pub holds : checker.Holds leaf_hash inner_hash root k proof answer

-- Document 02, 2026-01: an accepted comparison, from version first to version second of the bytes s.
pub record ListsChanges (first second limit : ℕ) (s room t g : Bytes) : Type 0 where
  pub sound : SoundBytes s
  pub kept : Kept (store_of s) first × Kept (store_of s) second
  pub changes : List Change
  pub what : WhatChanged (grants_of_version s first) (grants_of_version s second) changes
  pub undoes : changes_of (store_of s) second first ≡ map undone changes  -- swapped, they list what undoes it
  pub equal : first ≡ second → changes ≡ []
  pub room_holds : t ≡ room_after list_bytes (accepted (items changes)) room
  pub told : g ≡ le 4 (length (items changes))
  pub short : length (items changes) ≤ 16384
  pub within : visits_of (store_of s) first second ≤ limit
  pub symmetric : visits_of (store_of s) first second ≡ visits_of (store_of s) second first
  pub few : visits_of (store_of s) first second ≤ 32769

-- Document 02, 2026-08: a rescue of the source s was accepted; each version kept reads for the grants it has there.
pub record Rescued (oldest latest : ℕ) (s t g : Bytes) : Type 0 where
  pub report : Report
  pub worth : Worth oldest latest s t report
  pub sound : SoundBytes t
  pub told : g ≡ report_bytes report
  pub reads : (v : ℕ) → report.first ≤ v → v ≤ latest → ReadsFor t v (grants_in (source_tree (slots_in s) v))

-- A rescue gave the source s back from this version on: accepted, the same bytes, nothing changed or left out.
pub record GivenBack (first : ℕ) (s : Bytes) (r : ℕ) (t g : Bytes) : Type 0 where
  pub accepts : r ≡ 0
  pub bytes : t ≡ s
  pub report : Report
  pub told : g ≡ report_bytes report
  pub begins : report.first ≡ first
  pub as_it_was : (report.numbers.other ≡ 0) × (report.numbers.out ≡ 0)
