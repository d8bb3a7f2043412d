-- Shelves in the words of the contracts: more grants than one store holds, under one signed root. Assumes nothing.
use Rattle.std.specs.Prelude.{ℕ, ◌+◌, ◌≤◌, ◌≡◌, ◌↔◌, ◌⊎◌, true, cond, List, [], ◌++◌, map, length, take, leb}
use Rattle.terms.specs.Bits.{Bytes, Place, All, bits, begins}
use Rattle.terms.specs.Fields.{num, field}
use Rattle.terms.specs.Records.{Grant, Ask, ask_key, zeros}
use Rattle.terms.specs.Form.{top32}
use Rattle.meaning.specs.Sound.{Kept}
use Rattle.meaning.specs.Reading.{Verdict, present, absent, answer_of}
use Rattle.meaning.specs.Answers.{found_bytes}
use Rattle.nodehash.specs.Node.{leaf_hash, inner_hash}
use Rattle.proofrecords.specs.ProofBytes.{presence_kind, absence_kind}
use Rattle.layout.specs.Stores.{store_of}
use Rattle.batch.specs.Asked.{AskedBy}
use Rattle.promises.specs.Calls.{SoundBytes}
use Rattle.shelf_rules.specs.Shelf.{most_bits, part_key}
use Rattle.shelf_grants.specs.Contents.{Parts, all_grants, Among, list_grants, ask_for}
use Rattle.contracts.specs.Contracts.{Formats, Applies, Prunes, ReadsRoot, Proves, Verifies, Finds, ShelfVerifies}
use Rattle.demands.specs.Claims.{grants_of_version, latest_of}
use Rattle.demands.specs.Forged.{Deceived}

-- A shelf: the list's bytes, and each part's by its bits; a part that was never published to is a formatted store.
pub record Shelf : Type 0 where
  pub list : Bytes
  pub part : Place → Bytes

unfoldable pub earlier : ℕ → ℕ → ℕ
earlier v w = cond (leb v w) v w

-- At v, a part is read at v, or at its latest where that is below v.
abbrev pub read_at : Bytes → ℕ → ℕ
read_at s v = earlier v (latest_of s)

abbrev pub parts_at : Shelf → ℕ → Parts
parts_at x v p = grants_of_version (x.part p) (read_at (x.part p) v)

abbrev pub shelf_grants : ℕ → Shelf → ℕ → List Grant
shelf_grants b x v = all_grants b (parts_at x v)

abbrev pub part_of : ℕ → Bytes → Place
part_of b k = take b (bits k)

-- A shelf stands at v: list and parts are sound and kept, each grant is in its part, the list's grants are their roots.
pub record StandsAt (b : ℕ) (x : Shelf) (v : ℕ) : Type 0 where
  pub few : b ≤ most_bits
  pub list_sound : SoundBytes x.list
  pub list_kept : Kept (store_of x.list) v
  pub sound : (p : Place) → length p ≡ b → SoundBytes (x.part p)
  pub kept : (p : Place) → length p ≡ b → (store_of (x.part p)).oldest ≤ v
  pub placed : (p : Place) → length p ≡ b → All (λ g. begins p g.key ≡ true) (parts_at x v p)
  pub roots : grants_of_version x.list v ≡ list_grants leaf_hash inner_hash b (parts_at x v)

-- What proving gives for a key at v: the list's proof for its part, and where that shows a presence, then the part's.
pub data Proved (b : ℕ) (x : Shelf) (v : ℕ) (k : Bytes) : Bytes → Type 0 where
  by-list : {room f t g : Bytes} → Proves x.list v (part_key b k) room f 0 t g → field 4 2 t ≡ absence_kind →
      Proved b x v k (take (num g) t)
  by_both : {room f t g room₁ f₁ t₁ g₁ : Bytes} → Proves x.list v (part_key b k) room f 0 t g →
      field 4 2 t ≡ presence_kind →
      Proves (x.part (part_of b k)) (read_at (x.part (part_of b k)) v) k room₁ f₁ 0 t₁ g₁ →
      Proved b x v k (take (num g) t ++ take (num g₁) t₁)

-- A key of a shelf that stands at v, whose list has a grant.
pub record ShelfShown (b : ℕ) (x : Shelf) (v : ℕ) (k : Bytes) : Type 0 where
  -- where there is room the list's proof is given, an absence exactly if the part has no grant; else the part's too
  pub list_given : {room f t g : Bytes} {r : ℕ} → Proves x.list v (part_key b k) room f r t g →
      17080 ≤ length room → r ≡ 0
  pub no_part_lem : {room f t g : Bytes} → Proves x.list v (part_key b k) room f 0 t g →
      (field 4 2 t ≡ absence_kind) ↔ (parts_at x v (part_of b k) ≡ [])
  pub part_given : {room f t g room₁ f₁ t₁ g₁ : Bytes} {r : ℕ} →
      Proves x.list v (part_key b k) room f 0 t g → field 4 2 t ≡ presence_kind →
      Proves (x.part (part_of b k)) (read_at (x.part (part_of b k)) v) k room₁ f₁ r t₁ g₁ → 17080 ≤ length room₁ → r ≡ 0
  -- what is given the check accepts against the list's root, with what the grants of all parts say
  pub checked : {y f₁ root f found : Bytes} {r₁ r : ℕ} → Proved b x v k y → ReadsRoot x.list v f₁ r₁ root →
      ShelfVerifies root b k y f r found → (r₁ ≡ 0) × (r ≡ 0) × (found ≡ found_bytes (answer_of k (shelf_grants b x v)))
  pub short : {y : Bytes} → Proved b x v k y → length y ≤ 17080 + 17080

-- Of a shelf that stands at v, whose list has none: no part has a grant, there is no proof, and the root is zeros.
pub record NothingOnShelf (b : ℕ) (x : Shelf) (v : ℕ) (k : Bytes) : Type 0 where
  pub no_grant_lem : answer_of k (shelf_grants b x v) ≡ absent
  pub refused : {room f t g : Bytes} {r : ℕ} → Proves x.list v (part_key b k) room f r t g → r ≡ 14
  pub zero_root : {f g : Bytes} {r : ℕ} → ReadsRoot x.list v f r g → (r ≡ 0) × (g ≡ zeros)

-- Single checks accept the bytes: one record that shows no part; or one that shows a part's root, and one against that.
pub data BySingleChecks (root : Bytes) (b : ℕ) (k : Bytes) : Bytes → Bytes → Type 0 where
  list_alone : {y f : Bytes} → Verifies root (part_key b k) y f 0 (found_bytes absent) →
      BySingleChecks root b k y (found_bytes absent)
  both_records : {y z f f₁ part found : Bytes} → Verifies root (part_key b k) y f 0 (found_bytes (present part)) →
      Verifies part k z f₁ 0 found → BySingleChecks root b k (y ++ z) found

-- Whoever asks what is found of the record y of a store holds a finding (2026-12).
abbrev pub FoundFalse : Bytes → ℕ → Bytes → Bytes → Type 0
FoundFalse s v k y = (f g : Bytes) (r : ℕ) → Finds s v k y f r g → (r ≡ 0) × Deceived s v y g

-- A record of a shelf's proof is false: the list's about the list, or the part's about the part.
pub data FalseRecord (b : ℕ) (x : Shelf) (v : ℕ) (k : Bytes) : Bytes → Type 0 where
  of_list : (first rest : Bytes) → FoundFalse x.list v (part_key b k) first → FalseRecord b x v k (first ++ rest)
  of_part : (first rest : Bytes) → FoundFalse (x.part (part_of b k)) (read_at (x.part (part_of b k)) v) k rest →
      FalseRecord b x v k (first ++ rest)

-- A run of a batch that a part applies as n: its asks are for keys of the part.
pub record Run (n : ℕ) (p : Place) (s t : Bytes) : Type 0 where
  pub batch : Bytes
  pub asks : List Ask
  pub asked : AskedBy batch asks
  pub placed : All (λ a. begins p (ask_key a) ≡ true) asks
  pub applied : (f : Bytes) × (g : Bytes) × Applies n batch s f 0 t g

-- A publishing as n: touched parts apply their runs, others stay; then the list applies the touched parts' new roots.
pub record Publishes (b n : ℕ) (x y : Shelf) : Type 0 where
  pub number : n ≤ top32
  pub touched : List Place
  pub here : All (λ p. length p ≡ b) touched
  pub parts : (p : Place) → length p ≡ b →
      (Among p touched × Run n p (x.part p) (y.part p)) ⊎ ((Among p touched → ⊥) × (y.part p ≡ x.part p))
  pub batch : Bytes
  pub asked : AskedBy batch (map (λ p. ask_for leaf_hash inner_hash p (parts_at y n p)) touched)
  pub applied : (f : Bytes) × (g : Bytes) × Applies n batch x.list f 0 y.list g

-- A pruning to n: the list to n, each part to n or its latest, whichever is less.
pub record PrunesTo (b n : ℕ) (x y : Shelf) : Type 0 where
  pub list : (f : Bytes) × (g : Bytes) × Prunes n x.list f 0 y.list g
  pub parts : (p : Place) → length p ≡ b →
      (f : Bytes) × (g : Bytes) × Prunes (read_at (x.part p) n) (x.part p) f 0 (y.part p) g

-- A shelf of 0 to 12 bits that only such publishings and prunings wrote, from formatted stores on.
pub data ShelfLife (b : ℕ) : Shelf → Type 0 where
  formatted : {x : Shelf} {old : Bytes} → b ≤ most_bits → Formats old 0 x.list →
      ((p : Place) → length p ≡ b → (was : Bytes) × Formats was 0 (x.part p)) → ShelfLife b x
  published : {n : ℕ} {x y : Shelf} → ShelfLife b x → Publishes b n x y → ShelfLife b y
  pruned : {n : ℕ} {x y : Shelf} → ShelfLife b x → PrunesTo b n x y → ShelfLife b y
