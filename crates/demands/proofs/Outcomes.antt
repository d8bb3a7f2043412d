-- Demand 1: two outcomes that the contract of a public call allows are equal, in the answer and in every byte. Most contracts are equations, so
-- both outcomes are the same term; the others are by cases that exclude each other. Assumes nothing.
use Prim.Native.Nat.{ℕ}
use mathlib.Core.Path.{◌≡◌, refl, ap, sym, ◌∙◌, subst}
use lib.ListN.{length}
use Rattle.terms.specs.Bits.{Bytes}
use Rattle.promises.proofs.Check.{one_answer}
use Rattle.meaning.specs.Calls.{Answer, refused, apply}
use Rattle.meaning.specs.Answers.{room_after, Exports}
use Rattle.meaning.proofs.Told.{one_exported, one_exports}
use Rattle.sha256.specs.Sha256.{sha256}
use Rattle.layout.specs.Stores.{store_of}
use Rattle.promises.specs.Calls.{Does}
use Rattle.nodehash.specs.Node.{leaf_hash, inner_hash}
use Rattle.batch.proofs.Batches.{asks_one}
use Rattle.promises.proofs.Calls.{sound_passes, one_outcome, one_export}
use Rattle.changed.specs.Changes.{list_bytes}
use Rattle.contracts.specs.Apply.{told}
use Rattle.rescue_bytes.proofs.Outcomes as rescue
use Rattle.move_rules.proofs.Outcomes as move
use Rattle.contracts.specs.Contracts.{Formats, Checks, Applies, Prunes, ReadsRoot, ReadsKey, Counts, ReadsAt, Proves, Palettes, Changes, Verifies, VerifiesMany, TellsVersion, Hashes, Rescues, MovesOver, MovesBack, Finds}
use Rattle.forgery.specs.Finding.{Finding}
use Rattle.finding_rules.proofs.Told as found
use Rattle.contracts.specs.Finds.{Answers, wrong_key, wrong_store, sound_store}
use Rattle.verify_rules.proofs.Told.{one_verdict}
use Rattle.verify_rows.proofs.Told.{one_told_of_row}

-- what is found of a proof has one answer
one_found : {s : Bytes} {v : ℕ} {k x : Bytes} {p q : Answer Finding} → Answers s v k x p → Answers s v k x q → p ≡ q
one_found (wrong_key m) (wrong_key n) = refl
one_found (wrong_key m) (wrong_store l c n) = absurd (m l)
one_found (wrong_key m) (sound_store l w d) = absurd (m l)
one_found (wrong_store l c n) (wrong_key m) = absurd (m l)
one_found {s} (wrong_store {m} l c n) (wrong_store {m = o} i d k) = ap refused (one_answer s m o c d)
one_found (wrong_store l c n) (sound_store i w d) = sound_passes w c n
one_found (sound_store l w d) (wrong_key m) = absurd (m l)
one_found (sound_store l w d) (wrong_store i c n) = sound_passes w c n
one_found {s} {v} {k} {x} {p} {q} (sound_store l w c) (sound_store i u d) = found.one_found sha256 (store_of s) v k x p q c d

module _ {s : Bytes} {a b : ℕ} where
  pub one_format : {t u : Bytes} → Formats s a t → Formats s b u → (a ≡ b) × (t ≡ u)
  one_format x y = (x.answer ∙ sym y.answer, x.bytes ∙ sym y.bytes)

  pub one_check : Checks s a → Checks s b → a ≡ b
  one_check x y = one_answer s a b x y

  pub one_apply : (number : ℕ) (batch : Bytes) {f t u g h : Bytes} → Applies number batch s f a t g → Applies number batch s f b u h →
      (a ≡ b) × (t ≡ u) × (g ≡ h)
  one_apply number batch {f} {u = u} {h = h} x y =
      one_export x.applied (subst (λ o. Exports (λ z. Does (apply leaf_hash inner_hash number o) s z u) told f b h)
      (asks_one batch y.asked x.asked y.asks x.asks) y.applied)

  pub one_prune : (n : ℕ) {f t u g h : Bytes} → Prunes n s f a t g → Prunes n s f b u h → (a ≡ b) × (t ≡ u) × (g ≡ h)
  one_prune n x y = one_export x y

  pub one_root : {v : ℕ} {f g h : Bytes} → ReadsRoot s v f a g → ReadsRoot s v f b h → (a ≡ b) × (g ≡ h)
  one_root x y = one_exported refl x.exported y.exported

  pub one_get : {v : ℕ} {k f g h : Bytes} → ReadsKey s v k f a g → ReadsKey s v k f b h → (a ≡ b) × (g ≡ h)
  one_get x y = one_exported refl x.exported y.exported

  pub one_count : {v : ℕ} {f g h : Bytes} → Counts s v f a g → Counts s v f b h → (a ≡ b) × (g ≡ h)
  one_count x y = one_exported refl x.exported y.exported

  pub one_at : {v i : ℕ} {f g h : Bytes} → ReadsAt s v i f a g → ReadsAt s v i f b h → (a ≡ b) × (g ≡ h)
  one_at x y = one_exported refl x.exported y.exported

  pub one_prove : {v : ℕ} {k room f t u g h : Bytes} → Proves s v k room f a t g → Proves s v k room f b u h → (a ≡ b) × (t ≡ u) × (g ≡ h)
  one_prove x y = let (e, d) = one_exported refl x.exported y.exported in (e, x.proof ∙ sym y.proof, d)

  pub one_palette : {v : ℕ} {list room f t u g h : Bytes} → Palettes s v list room f a t g → Palettes s v list room f b u h → (a ≡ b) × (t ≡ u) × (g ≡ h)
  one_palette x y = let (e, d) = one_exported refl x.exported y.exported in (e, x.proofs ∙ sym y.proofs, d)

  pub one_changes : {first second limit : ℕ} {room f t u g h : Bytes} → Changes first second limit s room f a t g →
      Changes first second limit s room f b u h → (a ≡ b) × (t ≡ u) × (g ≡ h)
  one_changes {room = room} x y =
      let o = (one_outcome x.does y.does).0 in
      let (e, d) = one_exported o x.exported y.exported in
      (e, x.list ∙ ap (λ z. room_after list_bytes z room) o ∙ sym y.list, d)

  pub one_finding : {v : ℕ} {k x f g h : Bytes} → Finds s v k x f a g → Finds s v k x f b h → (a ≡ b) × (g ≡ h)
  one_finding x y = one_exports (λ p q. one_found) x y

  pub one_rescue : {oldest latest : ℕ} {old f t u g h : Bytes} → Rescues oldest latest s old f a t g → Rescues oldest latest s old f b u h →
      (a ≡ b) × (t ≡ u) × (g ≡ h)
  one_rescue x y = rescue.one_export x y

module _ {s : Bytes} {a b : ℕ} where
  pub one_over : {old t u : Bytes} → MovesOver s old a t → MovesOver s old b u → (a ≡ b) × (t ≡ u)
  one_over x y = move.one_outcome x y

  pub one_back : {old t u : Bytes} → MovesBack s old a t → MovesBack s old b u → (a ≡ b) × (t ≡ u)
  one_back x y = move.one_outcome x y

module _ {a b : ℕ} where
  pub one_verify : {root k x f g h : Bytes} → Verifies root k x f a g → Verifies root k x f b h → (a ≡ b) × (g ≡ h)
  one_verify {root} {k} {x} u w = one_exports (one_verdict root k x) u w

  pub one_verify_many : {root list row old g h : Bytes} → VerifiesMany root list row old a g → VerifiesMany root list row old b h → (a ≡ b) × (g ≡ h)
  one_verify_many {root} {list} {row} {old} u w = one_exports (one_told_of_row root list row (length old)) u w

  pub one_version : TellsVersion a → TellsVersion b → a ≡ b
  one_version x y = x ∙ sym y

  pub one_sha256 : {x g h : Bytes} → Hashes x a g → Hashes x b h → (a ≡ b) × (g ≡ h)
  one_sha256 x y = (x.answer ∙ sym y.answer, x.digest ∙ sym y.digest)
