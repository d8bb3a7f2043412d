-- The rows of the tables: what a case holds, and when the definitions agree with it. Assumes nothing.
use Rattle.std.specs.Prelude.{ℕ, ◌+◌, ◌*◌, ◌%◌, ◌≡◌, List, [], ◌∷◌, ◌++◌, replicate}
use Rattle.std.proofs.Math.Option.{some}
use Rattle.terms.specs.declared.Form.TheVariants.{Counted as counted}
use Rattle.terms.specs.Bits.{Bytes, Place, pack}
use Rattle.terms.specs.Fields.{le}
use Rattle.terms.specs.Records.{
  Ask,
  Slot,
  free,
  used,
  spoiled,
  leaf_body,
  inner_body,
  child,
  tally,
  no_tally,
  Grant,
  Store,
  Proof,
}
use Rattle.meaning.specs.Calls.{Answer, refused, accepted, Applied, apply, prune}
use Rattle.meaning.specs.Reading.{Verdict, read_key, read_root}
use Rattle.meaning.specs.Counting.{read_number, read_position}
use Rattle.meaning.specs.Proving.{proof}
use Rattle.meaning.specs.Checking.{checked}

abbrev pub value_of : ℕ → Bytes
value_of n = replicate 32 n

abbrev pub leaf_slot : Place → ℕ → ℕ → Bytes → Bytes → Slot
leaf_slot p v r k x = used (record { place = p; version = v; retired = r; body = leaf_body k x; counts = no_tally })

abbrev pub inner_slot : Place → ℕ → ℕ → ℕ → Bytes → ℕ → Bytes → ℕ → ℕ → Slot
inner_slot p v r lv lh rv rh lc rc =
    used (record {
      place = p;
      version = v;
      retired = r;
      body = inner_body (child lv lh) (child rv rh);
      counts =
          tally lc rc;
    })

-- A slot off form, with these bit count, bits, version and retired-since fields.
abbrev pub spoilt_slot : ℕ → Place → ℕ → ℕ → Slot
spoilt_slot n p v r = spoiled (replicate 6 9 ++ le 2 n ++ pack 32 p ++ le 4 v ++ le 4 r ++ replicate 72 9)

abbrev pub free_slots : ℕ → List Slot
free_slots n = replicate n free

abbrev pub store_of : ℕ → ℕ → List Slot → Store
store_of old new s = record { form = counted; oldest = old; latest = new; slots = s }

-- A game: calls from a store, what each answers, and the store at the end.
pub data Move : Type 0 where
  applying : ℕ → List Ask → Move
  pruning : ℕ → Move

pub data Reply : Type 0 where
  made : ℕ → Bytes → ℕ → Reply
  freed : ℕ → Reply
  denied : ℕ → Reply

pub data Game : Type 0 where
  game : Store → List Move → List Reply → Store → Game

abbrev pub apply_reply : Answer Applied → Reply
apply_reply (refused n) = denied n
apply_reply (accepted a) = made a.version a.root a.count

abbrev pub prune_reply : Answer ℕ → Reply
prune_reply (refused n) = denied n
prune_reply (accepted n) = freed n

module _ (leaf_hash inner_hash : Bytes → Bytes → Bytes) where
  abbrev pub reply : Move → Store → Reply
  reply (applying number batch) st = apply_reply (apply leaf_hash inner_hash number (some batch) st).answer
  reply (pruning n) st = prune_reply (prune n st).answer

  abbrev pub moved : Move → Store → Store
  moved (applying number batch) st = (apply leaf_hash inner_hash number (some batch) st).store
  moved (pruning n) st = (prune n st).store

  abbrev pub replies : List Move → Store → List Reply
  replies [] st = []
  replies (m ∷ moves) st = reply m st ∷ replies moves (moved m st)

  abbrev pub ending : List Move → Store → Store
  ending [] st = st
  ending (m ∷ moves) st = ending moves (moved m st)

  abbrev pub GameHolds : Game → Type 0
  GameHolds (game st moves answers end) = (replies moves st ≡ answers) × (ending moves st ≡ end)

-- A look: a store, a version and a key; the proof, the key read and the root read.
pub data Look : Type 0 where
  look : Store → ℕ → Bytes → Answer Proof → Answer Verdict → Answer Bytes → Look

module _ (leaf_hash inner_hash : Bytes → Bytes → Bytes) where
  abbrev pub LookHolds : Look → Type 0
  LookHolds (look st v k p found root) =
      (proof st v k ≡ p) × (read_key st v k ≡ found) × (read_root leaf_hash inner_hash st v ≡ root)

-- A position: a store, a version and a position; the number of grants, and the grant there (2026-09).
pub data Position : Type 0 where
  position : Store → ℕ → ℕ → Answer ℕ → Answer Grant → Position

abbrev pub PositionHolds : Position → Type 0
PositionHolds (position st v i n g) = (read_number st v ≡ n) × (read_position st v i ≡ g)

-- A try: a root, a key and a proof, checked under hashes that are easily made to collide.
pub data Try : Type 0 where
  try : Bytes → Bytes → Proof → Answer Verdict → Try

abbrev sum : Bytes → ℕ
sum [] = 0
sum (x ∷ xs) = x + sum xs

unfoldable pub toy_leaf : Bytes → Bytes → Bytes
toy_leaf k x = replicate 32 ((1 + 3 * sum k + 5 * sum x) % 256)

unfoldable pub toy_inner : Bytes → Bytes → Bytes
toy_inner l r = replicate 32 ((7 + 11 * sum l + 13 * sum r) % 256)

unfoldable pub toy_hash : Unit {0}
unfolding toy_leaf toy_inner
toy_hash = tt

abbrev pub TryHolds : Try → Type 0
TryHolds (try root k p answer) = checked toy_leaf toy_inner root k p ≡ answer
