-- Document 01, 'Numbers of refusal', and document 02: the table of each public call, each row a proposition. 'Order:
-- 12; then 1, 2; apply 3, 4, 5, 6, 7; prune 3, 8; reads 8, 3, 9; the proof check 10, 11.' A hash is never refused.
use Rattle.std.specs.Prelude.{ℕ, ◌+◌, ◌*◌, ◌-◌, ◌≤◌, ◌<◌, ◌≡◌, ◌⊎◌, false, true, cond, ◌||◌, List, [], ◌∷◌, ◌++◌, map, length, eqb}
use Rattle.std.proofs.Math.Option.{none}
use Rattle.terms.specs.declared.Form.{Form}
use Rattle.terms.specs.declared.Form.TheVariants.{Counted as counted}
use Rattle.terms.specs.Bits.{Bytes, All}
use Rattle.terms.specs.Fields.{field, slice, flat, zero_bytes}
use Rattle.terms.specs.Records.{Ask, Record, Proof}
use Rattle.meaning.specs.Tree.{hash, unversioned, next_tree, grants_in}
use Rattle.meaning.specs.Store.{tree_at_version, free_slots, new_records}
use Rattle.meaning.specs.Sound.{Kept, Sound}
use Rattle.meaning.specs.Calls.{accepted, ascending}
use Rattle.meaning.specs.Reading.{Trouble, lost_record, spoilt_record, stray_leaf, Verdict}
use Rattle.meaning.specs.Proving.{proof, proof_length}
use Rattle.palette_rules.specs.Palette.{keys_in, length_together}
use Rattle.palette_rules.specs.Claims.{FirstAsked}
use Rattle.changed.specs.Changes.{items}
use Rattle.changed.specs.Compare.{changes_of, visits_of}
use Rattle.checker.specs.Holding.{Holds}
use Rattle.ways.specs.Ways.{RootStopped, KeyStopped, ProofStopped, EmptyVersion}
use Rattle.ways.specs.Positions.{Number, PositionStopped}
use Rattle.rescue_bytes.specs.Rescues.{NoRun}
use Rattle.pocket.specs.Pocket.{Outside}
use Rattle.nodehash.specs.Node.{leaf_hash, inner_hash}
use Rattle.messages.specs.Message.{message_bytes}
use Rattle.message_rules.specs.Contracts.{Encodes, record_of, Lends}
use Rattle.proofrecords.specs.ProofBytes.{ProofIs}
use Rattle.layout.specs.Sizes.{header_size, header_kind, most_slots, kind_at, capacity_at, oldest_at, latest_at, slot_size}
use Rattle.layout.specs.Stores.{store_in, store_of}
use Rattle.move_rules.specs.Moves.{other}
use Rattle.shelf_rules.specs.Shelf.{most_bits, ShelfProof, ShelfIs, ShelfHolds}
use Rattle.batch.specs.Asked.{AskedBy, Asks}
use Rattle.verify_rows.specs.Rows.{Pieces}
use Rattle.refusals.specs.Exactly.{Table}

-- 1: for no n in 1 to 16,384 the lengths are those of a store of n slots, 24 + 128n, in the plain form 24 + 120n.
abbrev pub HasSlots : Form → Bytes → ℕ → Type 0
HasSlots f s n = length s ≡ header_size + slot_size f * n

abbrev pub WrongSize : (ℕ → Type 0) → Type 0
WrongSize right = (n : ℕ) → 1 ≤ n → n ≤ most_slots → right n → ⊥

-- The header's fields are as 'Bytes' says, its capacity is n, and oldest isn't above latest; else 2.
pub record RightHeader (f : Form) (s : Bytes) : Type 0 where
  pub says_24 : field 0 4 s ≡ header_size
  pub kind : field kind_at 2 s ≡ header_kind f
  pub two_zero : slice 6 2 s ≡ zero_bytes 2
  pub capacity : HasSlots f s (field capacity_at 4 s)
  pub ordered : field oldest_at 4 s ≤ field latest_at 4 s
  pub four_zero : slice 20 4 s ≡ zero_bytes 4

-- Format tests 1, every other call on a store 1, 2; check, apply, prune and others go on with 3 by full soundness.
abbrev pub format_rows : Bytes → Table
format_rows s = (1, WrongSize (HasSlots counted s)) ∷ []

abbrev pub header_rows : Bytes → Table
header_rows s = format_rows s ++ (2, RightHeader counted s → ⊥) ∷ []

abbrev pub sound_rows : Bytes → Table
sound_rows s = header_rows s ++ (3, Sound leaf_hash inner_hash (store_of s) → ⊥) ∷ []

-- Apply: 1, 2, 3; then 4, 5, 18 (2026-13); 7, fewer free slots than new records.
abbrev pub apply_rows : ℕ → Bytes → Bytes → Table
apply_rows number batch s =
    let latest = tree_at_version (store_of s) (store_of s).latest in
    let new : List Ask → List Record = λ as'. new_records leaf_hash inner_hash number (next_tree number latest as') in
    sound_rows s ++ (4, Asks batch none) ∷  -- the batch isn't whole records in form, or has over 1,024
    (5, (as' : List Ask) × AskedBy batch as' × (ascending as' ≡ false)) ∷  -- keys not strictly ascending
    (18, number ≤ (store_of s).latest) ∷  -- the number given is not above latest
    (7, (as' : List Ask) × AskedBy batch as' × (free_slots (store_of s).slots < length (new as'))) ∷ []

-- Prune: 1, 2, 3; then 8, the version isn't in oldest to latest. The reads begin with 1, 2, 8.
abbrev pub prune_rows : ℕ → Bytes → Table
prune_rows n s = sound_rows s ++ (8, Kept (store_of s) n → ⊥) ∷ []

abbrev pub read_rows : Bytes → ℕ → Table
read_rows s v = header_rows s ++ (8, Kept (store_of s) v → ⊥) ∷ []

-- 3 of the reads: a spoilt record, or a leaf whose key doesn't begin with its place, the first that is met.
abbrev pub Unsound : (Trouble → Type 0) → Type 0
Unsound stops = stops stray_leaf ⊎ ((i : ℕ) × stops (spoilt_record i))

-- 17 of the reads, a present child that no slot matches, or 3: the first that is met, so they exclude each other.
abbrev pub stop_rows : (Trouble → Type 0) → Table
stop_rows stops = (17, stops lost_record) ∷ (3, Unsound stops) ∷ []

-- The rows that a read tests before it looks for a record: those before 17 and 3.
abbrev pub tests_of : Table → Table
tests_of [] = []
tests_of (row ∷ rows) = cond (eqb row.0 17 || eqb row.0 3) [] (row ∷ tests_of rows)

-- 12: a key or root handed in isn't 32 bytes.
abbrev pub Not32 : List Bytes → Type 0
Not32 handed = All (λ x. length x ≡ 32) handed → ⊥

-- A root read, and the number of grants (2026-09): 1, 2, 8, 3. A key read: 12; then 1, 2; then 8, 17 or 3.
abbrev pub root_rows : Bytes → ℕ → Table
root_rows s v = read_rows s v ++ (3, Unsound (RootStopped (store_of s) v)) ∷ []

abbrev pub get_rows : Bytes → ℕ → Bytes → Table
get_rows s v k = (12, Not32 (k ∷ [])) ∷ read_rows s v ++ stop_rows (KeyStopped (store_of s) v k)

-- The grant at a position (2026-09): 1, 2, 8; 20, the number that the root's lookup gives isn't above it; 17 or 3.
abbrev pub at_rows : Bytes → ℕ → ℕ → Table
at_rows s v i =
    read_rows s v ++ (20, (n : ℕ) × Number (store_of s) v (accepted n) × (n ≤ i)) ∷
    stop_rows (PositionStopped (store_of s) v i)

-- Proving, before there is a proof: 12; then 1, 2; then 8; 14 in an empty version (2026-03); 17 or 3.
abbrev pub proof_rows : Bytes → ℕ → Bytes → Table
proof_rows s v k =
    (12, Not32 (k ∷ [])) ∷ read_rows s v ++ (14, EmptyVersion (store_of s) v)
    ∷ stop_rows (ProofStopped (store_of s) v k)

-- Proving: these, then 9, the proof is longer than the buffer.
abbrev pub TooLong : Bytes → ℕ → Bytes → Bytes → Type 0
TooLong s v k room = (p : Proof) × (proof (store_of s) v k ≡ accepted p) × (length room < proof_length p)

abbrev pub prove_rows : Bytes → ℕ → Bytes → Bytes → Table
prove_rows s v k room = proof_rows s v k ++ (9, TooLong s v k room) ∷ []

-- The proof check: 12; then 10, it isn't one whole record in form, no byte over; 11, in form, but doesn't hold.
abbrev pub ProofOffForm : Bytes → Type 0
ProofOffForm x = (p : Proof) → ProofIs x p → ⊥

abbrev pub DoesNotHold : Bytes → Bytes → Bytes → Type 0
DoesNotHold root k x = (p : Proof) × ProofIs x p × ((answer : Verdict) → Holds leaf_hash inner_hash root k p answer → ⊥)

abbrev pub verify_rows : Bytes → Bytes → Bytes → Table
verify_rows root k x = (12, Not32 (root ∷ k ∷ [])) ∷ (10, ProofOffForm x) ∷ (11, DoesNotHold root k x) ∷ []

-- Document 02, 2026-01: 'Order: 1, 2, 3 by full soundness, 8, 13, 9.' 9: the list is longer than the buffer.
abbrev pub changes_rows : Bytes → ℕ → ℕ → ℕ → Bytes → Table
changes_rows s first second limit room =
    sound_rows s ++ (8, Kept (store_of s) first × Kept (store_of s) second → ⊥) ∷  -- one isn't in oldest to latest
    (13, limit < visits_of (store_of s) first second) ∷  -- the count of visits is above the limit
    (9, length room < 72 * length (items (changes_of (store_of s) first second))) ∷ []

-- Document 02, 2026-02: 'Writing tests 10, 15, 9, reading 10, 9.' 15, what is lent makes no message: a raw key or value
-- has another length or doesn't hash to what the proof holds, or a leaf too many is lent; 9, the message is longer than
-- the room, or our own record of what it says; 10 of reading, the bytes are the message of no proof.
abbrev pub write_message_rows : Bytes → Bytes → List Bytes → Bytes → Table
write_message_rows x asked leaves room =
    (10, ProofOffForm x) ∷ (15, (p : Proof) × ProofIs x p × ((q : Proof) → Lends x asked leaves q → ⊥)) ∷
    (9, (q : Proof) × Lends x asked leaves q × (length room < length (message_bytes q))) ∷ []

abbrev pub read_message_rows : Bytes → Bytes → Table
read_message_rows m room =
    (10, (q : Proof) → Encodes (record_of q) m q → ⊥) ∷
    (9, (q : Proof) × Encodes (record_of q) m q × (length room < length (record_of q))) ∷ []

-- 12 of a palette (document 02, 2026-04): the list isn't 0 to 256 whole keys.
abbrev pub NotKeys : Bytes → Type 0
NotKeys list = (keys : List Bytes) → All (λ k. length k ≡ 32) keys → length keys ≤ 256 → list ≡ flat keys → ⊥

-- What stops a palette: what stops the proof for a key, where each key before it, in the order asked, has its proof.
abbrev pub StopsPalette : Bytes → ℕ → List Bytes → Trouble → Type 0
StopsPalette s v keys t = FirstAsked (proof (store_of s) v) (λ k. ProofStopped (store_of s) v k t) keys

-- A palette: 12; 1, 2, 8; 14, a key, in an empty version; 17 or 3 of the first key refused; 9, all together don't fit.
abbrev pub palette_rows : Bytes → ℕ → Bytes → Bytes → Table
palette_rows s v list room =
    let keys = keys_in list in
    (12, NotKeys list) ∷ read_rows s v ++ (14, EmptyVersion (store_of s) v × (keys ≡ [] → ⊥)) ∷
    stop_rows (StopsPalette s v keys) ++
    (9, (ps : List Proof) × (map (proof (store_of s) v) keys ≡ map accepted ps) × (length room < length_together ps))
    ∷ []

-- Many proofs at once: 12; 10, the bytes aren't a piece for each key, none over; 9, fewer than 34 bytes an answer.
abbrev pub verify_many_rows : Bytes → Bytes → Bytes → Bytes → Table
verify_many_rows root list row room =
    (12, Not32 (root ∷ []) ⊎ NotKeys list) ∷ (10, (xs : List Bytes) → Pieces (length (keys_in list)) row xs → ⊥) ∷
    (9, length room < 34 * length (keys_in list)) ∷ []

-- A rescue (2026-08): 1, a size that is wrong or not equal; 2, oldest above latest; 3, no version: no run ends there.
abbrev pub rescue_rows : Bytes → Bytes → ℕ → ℕ → Table
rescue_rows s old oldest latest =
    (1, WrongSize (λ n. HasSlots counted s n × HasSlots counted old n)) ∷ (2, latest < oldest) ∷
    (3, NoRun s oldest latest) ∷ []

-- A move (2026-10): 1, a wrong size of source or target, each of its own form, for one capacity; 2 and 3 of the source.
abbrev pub move_rows : Form → Bytes → Bytes → Table
move_rows from s old =
    (1, WrongSize (λ n. HasSlots from s n × HasSlots (other from) old n)) ∷ (2, RightHeader from s → ⊥) ∷
    (3, Sound leaf_hash inner_hash (store_in from s) → ⊥) ∷ []

-- The root of a version: the hash of its tree.
abbrev pub root_of_version : Bytes → ℕ → Bytes
root_of_version s v = hash leaf_hash inner_hash (unversioned (tree_at_version (store_of s) v))

-- What is found of a proof (2026-12): 12; 1, 2, 3, 8; 14, the version holds no grant; 10, 11 against its root.
abbrev pub finding_rows : Bytes → ℕ → Bytes → Bytes → Table
finding_rows s v k x =
    (12, Not32 (k ∷ [])) ∷ sound_rows s ++ (8, Kept (store_of s) v → ⊥) ∷
    (14, grants_in (tree_at_version (store_of s) v) ≡ []) ∷
    (10, ProofOffForm x) ∷ (11, DoesNotHold (root_of_version s v) k x) ∷ []

-- The figures of 1 to 1,024 kept versions (2026-14): 1, 2, 3; 8, any other range; 9, 16 bytes for each don't fit.
abbrev pub KeptRange : Bytes → ℕ → ℕ → Type 0
KeptRange s first last = Kept (store_of s) first × Kept (store_of s) last × (first ≤ last) × (last < first + 1024)

abbrev pub figures_rows : Bytes → ℕ → ℕ → Bytes → Table
figures_rows s first last room =
    sound_rows s ++ (8, KeptRange s first last → ⊥) ∷ (9, length room < 16 * (last - first + 1)) ∷ []

-- 19 (2026-14): a leaf shown has more than 32 steps, by the proof that the bytes are, or by the one there is of a key.
abbrev pub OutsidePocket : Bytes → Type 0
OutsidePocket x = (p : Proof) × ProofIs x p × Outside p

abbrev pub ProvedOutside : Bytes → ℕ → Bytes → Type 0
ProvedOutside s v k = (p : Proof) × (proof (store_of s) v k ≡ accepted p) × Outside p

-- The pocket check: 12; then 10, 19, 11. The pocket prover: as proving, with 19 before 9.
abbrev pub pocket_verify_rows : Bytes → Bytes → Bytes → Table
pocket_verify_rows root k x =
    (12, Not32 (root ∷ k ∷ [])) ∷ (10, ProofOffForm x) ∷ (19, OutsidePocket x) ∷ (11, DoesNotHold root k x) ∷ []

abbrev pub pocket_prove_rows : Bytes → ℕ → Bytes → Bytes → Table
pocket_prove_rows s v k room = proof_rows s v k ++ (19, ProvedOutside s v k) ∷ (9, TooLong s v k room) ∷ []

-- The check of a shelf's proof: 12; then 21, over 12 bits; 10, the bytes aren't one whole one in form; 11.
abbrev pub shelf_verify_rows : Bytes → ℕ → Bytes → Bytes → Table
shelf_verify_rows root b k x =
    (12, Not32 (root ∷ k ∷ [])) ∷ (21, most_bits < b) ∷ (10, (p : ShelfProof) → ShelfIs x p → ⊥) ∷
    (11, (p : ShelfProof) × ShelfIs x p × ((answer : Verdict) → ShelfHolds root b k p answer → ⊥)) ∷ []
