-- What an editor sees of a shelf: the list says of the key's part what the part is, and the part says of the key what
-- all grants say; each record is accepted by itself, and the bytes are cut where they were joined. Assumes nothing.
use Prim.Native.Nat.{ℕ, ◌+◌, ◌*◌, ◌≤◌}
use native.Mathlib.Omega.{arith}
use mathlib.Core.Path.{◌≡◌, refl, ap, ap₂, sym, ◌∙◌, subst}
use mathlib.Core.Logic.{◌↔◌}
use mathlib.Core.Bool.{Bool, true, false, cond}
use mathlib.Core.List.{List, [], ◌∷◌, ◌++◌, append-nil}
use lib.ListN.{length, take, length-append}
use lib.Dec.{leb}
use borrow.Author.Tests.{le-leb, leb-true, leb-false}
use Rattle.terms.specs.declared.Form.TheVariants.{Counted as counted}
use Rattle.terms.specs.Bits.{Bytes, Byte, Place, All, Whole32, bits, pack}
use Rattle.terms.specs.Fields.{num, field}
use Rattle.terms.specs.Records.{Grant, Presence, Absence, Proof, presence, absence, zeros}
use Rattle.terms.proofs.Places.{length_bits, length_pack, pack_bytes}
use Rattle.meaning.specs.Tree.{hash, unversioned, tree_of}
use Rattle.meaning.specs.Sound.{Kept}
use Rattle.meaning.specs.Calls.{Answer, refused, accepted}
use Rattle.meaning.specs.Reading.{Verdict, present, absent, answer_of}
use Rattle.meaning.specs.Proving.{HoldsGrant}
use Rattle.meaning.specs.Checking.{checked}
use Rattle.meaning.specs.Answers.{found_bytes}
use Rattle.meaning.proofs.Told.{exports_left}
use Rattle.histories.proofs.Theorems.{sound_tree_of_grants}
use Rattle.checker.specs.Holding.{Holds}
use Rattle.checker.proofs.Theorems.{accepted_exactly_if_holds}
use Rattle.shown.proofs.Verdicts.{accepted_same}
use Rattle.shown.proofs.Theorems.{root_read_is_hash, shown}
use Rattle.nodehash.specs.Node.{leaf_hash, inner_hash}
use Rattle.proofrecords.specs.ProofBytes.{presence_kind, absence_kind, proof_bytes, ProofForm}
use Rattle.layout.specs.Stores.{store_of}
use Rattle.promises.specs.Calls.{SoundBytes}
use Rattle.promises.proofs.Calls.{sound_form}
use Rattle.shelf_rules.specs.Reading.{shelf_bytes, ShelfForm}
use Rattle.shelf_rules.specs.Shelf.{part_key, ShelfProof, no_part, in_part, ShelfHolds, no_part_lem as by-list-alone, in-part, ShelfTold, holding}
use Rattle.shelf_rules.proofs.Records.{shelf_proofs_have_25600_bytes}
use Rattle.shelf_rules.proofs.Told.{in_form_shelf, one_shelf_told}
use Rattle.shelf_grants.specs.Contents.{Parts, all_grants, InPlace, root_of, list_grants}
use Rattle.shelf_grants.proofs.Gathered.{front_prefix, answer_of_part}
use Rattle.shelf_grants.proofs.Listed.{said, answer_in_list}
use Rattle.contracts.specs.Contracts.{ReadsRoot, Proves, Verifies, ShelfVerifies}
use Rattle.demands.specs.Claims.{tree_of_version, grants_of_version, latest_of, Shown}
use Rattle.demands.proofs.Hashes.{hash_whole}
use Rattle.demands.proofs.Forms.{proof_form}
use Rattle.demands.proofs.Given.{kind_of, its_proof, its_tests, kind_told, front_is, told_short}
use Rattle.demands.proofs.Showing.{root_of_tree, sound_is_shown}
use Rattle.demands.proofs.Reading.{sound_reads_for}
use Rattle.shelves.specs.Shelf.{Shelf, earlier, read_at, parts_at, shelf_grants, part_of, StandsAt, Proved, by-list, by_both, ShelfShown, NothingOnShelf}

-- the earlier of two versions
pub earlier_first : (v w : ℕ) → v ≤ w → earlier v w ≡ v
unfolding earlier
earlier_first v w h = rw (le-leb v w h) refl

pub earlier_second : (v w : ℕ) → w ≤ v → earlier v w ≡ w
unfolding earlier
earlier_second v w h = go (leb v w) refl
  where
    go : (b : Bool) → leb v w ≡ b → cond b v w ≡ w
    go true e = let l = leb-true v w e in omega arith
    go false e = refl

pub earlier_within : (o v w : ℕ) → o ≤ v → o ≤ w → (o ≤ earlier v w) × (earlier v w ≤ w) × (earlier v w ≤ v)
unfolding earlier
earlier_within o v w h i = go (leb v w) refl
  where
    go : (b : Bool) → leb v w ≡ b → (o ≤ cond b v w) × (cond b v w ≤ w) × (cond b v w ≤ v)
    go true e = (h, leb-true v w e, omega arith)
    go false e = let l = leb-false v w e in (i, omega arith, omega arith)

-- what a proof given on a sound store is: in form, its bytes the front of the room, and it holds
module _ {s : Bytes} (w : SoundBytes s) {v : ℕ} (kept : Kept (store_of s) v) {k : Bytes} (whole : Whole32 k) {room f t g : Bytes}
    (x : Proves s v k room f 0 t g) where
  pub form : ProofForm (its_proof x)
  form = proof_form (store_of s) v k (its_proof x) (sound_form (store_of s) refl w.sound).each whole (its_tests x).proved

-- the root of a version is that of its grants
pub version_root_lem : {s : Bytes} (w : SoundBytes s) {v : ℕ} (kept : Kept (store_of s) v) →
    hash leaf_hash inner_hash (unversioned (tree_of_version s v)) ≡ root_of leaf_hash inner_hash (grants_of_version s v)
version_root_lem {s} w {v} kept = ap (hash leaf_hash inner_hash) (sound_tree_of_grants leaf_hash inner_hash (store_of s) w.sound v kept).0

-- the parts of a shelf that stands
module _ {b : ℕ} {x : Shelf} {v : ℕ} (w : StandsAt b x v) where
  pub part_kept : (p : Place) → length p ≡ b → Kept (store_of (x.part p)) (read_at (x.part p) v)
  part_kept p h =
      let e = earlier_within (store_of (x.part p)).oldest v (latest_of (x.part p)) (w.kept p h) (w.sound p h).sound.header.0 in (e.0, e.1)

  module _ (k : Bytes) (whole : Whole32 k) where
    pub part_long : length (part_of b k) ≡ b
    part_long = (front_prefix b (bits k) (omega (arith, w.few, length_bits k, whole.0))).1

    pub key_whole : Whole32 (part_key b k)
    unfolding part_key
    key_whole = (length_pack 32 (part_of b k), pack_bytes 32 (part_of b k))

    -- the list says of the part's key what the part is
    pub list_says : answer_of (part_key b k) (grants_of_version x.list v) ≡ said leaf_hash inner_hash (parts_at x v (part_of b k))
    unfolding part_key
    list_says =
        ap (answer_of (part_key b k)) w.roots
        ∙ answer_in_list leaf_hash inner_hash b (omega (arith, w.few)) (parts_at x v) (part_of b k) part_long

    -- and the part of the key what all grants say
    pub part_says : answer_of k (shelf_grants b x v) ≡ answer_of k (parts_at x v (part_of b k))
    part_says = answer_of_part b (parts_at x v) w.placed k (omega (arith, w.few, whole.0))

pub said_absent : (gs : List Grant) → said leaf_hash inner_hash gs ≡ absent → gs ≡ []
said_absent [] e = refl
said_absent (g ∷ gs) e = let z : ◌≡◌ {A = ℕ} 0 1 = cc in absurd (omega arith)

pub said_present : {y : Bytes} (gs : List Grant) → said leaf_hash inner_hash gs ≡ present y → (gs ≡ [] → ⊥) × (y ≡ root_of leaf_hash inner_hash gs)
said_present [] e = let z : ◌≡◌ {A = ℕ} 0 1 = cc in absurd (omega arith)
said_present {y} (g ∷ gs) e =
    let same : root_of leaf_hash inner_hash (g ∷ gs) ≡ y = cc in
    (λ n. let z : ◌≡◌ {A = ℕ} 0 1 = cc in omega arith, sym same)

-- what the check leaves where an answer is told
shelf_left : {root k y f : Bytes} {b r : ℕ} {g : Bytes} {a : Verdict} → ShelfVerifies root b k y f r g → ShelfTold root b k y (accepted a) →
    (r ≡ 0) × (g ≡ found_bytes a)
shelf_left {root} {k} {y} {b = b} x t = exports_left (one_shelf_told root b k y) x t

-- a proof that is given holds
module _ {s : Bytes} (w : SoundBytes s) {v : ℕ} (kept : Kept (store_of s) v) {k : Bytes} (whole : Whole32 k) (some : HoldsGrant (store_of s) v)
    {room f t g : Bytes} (x : Proves s v k room f 0 t g) where
  holds : Holds leaf_hash inner_hash (root_of leaf_hash inner_hash (grants_of_version s v)) k (its_proof x) (answer_of k (grants_of_version s v))
  holds =
      let its = shown leaf_hash inner_hash (store_of s) w.sound v kept k whole some _ (root_read_is_hash leaf_hash inner_hash (store_of s) w.sound v kept) in
      let same : its.0 ≡ its_proof x = accepted_same its.0 (its_proof x) (sym its.1 ∙ (its_tests x).proved) in
      (accepted_exactly_if_holds leaf_hash inner_hash _ k (its_proof x) _).0
      (ap₂ (λ h p. checked leaf_hash inner_hash h k p) (sym (version_root_lem w kept)) (sym same) ∙ its.2)

-- the kinds of proofs
of_absence : {n : ℕ} (P : Proof) → n ≡ kind_of P → n ≡ absence_kind → (a : Absence) × (P ≡ absence a)
of_absence (presence p) e h = absurd (omega arith)
of_absence (absence a) e h = (a, refl)

of_presence : {n : ℕ} (P : Proof) → n ≡ kind_of P → n ≡ presence_kind → (p : Presence) × (P ≡ presence p)
of_presence (presence p) e h = (p, refl)
of_presence (absence a) e h = absurd (omega arith)

module _ {b : ℕ} {x : Shelf} {v : ℕ} (w : StandsAt b x v) (k : Bytes) (whole : Whole32 k) (some : HoldsGrant (store_of x.list) v) where
  abbrev seen : Shown x.list v (part_key b k) (answer_of (part_key b k) (grants_of_version x.list v))
  seen = sound_is_shown w.list_sound v w.list_kept (part_key b k) (key_whole w k whole) some

  abbrev root : Bytes
  root = root_of leaf_hash inner_hash (grants_of_version x.list v)

  abbrev mine : List Grant
  mine = parts_at x v (part_of b k)

  root_whole : length root ≡ 32
  root_whole = (hash_whole (tree_of (grants_of_version x.list v))).0

  part_sound : SoundBytes (x.part (part_of b k))
  part_sound = w.sound (part_of b k) (part_long w k whole)

  the_part_kept : Kept (store_of (x.part (part_of b k))) (read_at (x.part (part_of b k)) v)
  the_part_kept = part_kept w (part_of b k) (part_long w k whole)

  no_part_lem : {room f t g : Bytes} → Proves x.list v (part_key b k) room f 0 t g → (field 4 2 t ≡ absence_kind) ↔ (mine ≡ [])
  no_part_lem y = (
    λ e. said_absent mine (sym (list_says w k whole) ∙ (seen.absence y).0 e),
    λ e. (seen.absence y).1 (list_says w k whole ∙ ap (said leaf_hash inner_hash) e),
  )

  -- where the list shows a presence, it shows the part's root, and the part has a grant
  there : {room f t g : Bytes} → Proves x.list v (part_key b k) room f 0 t g → field 4 2 t ≡ presence_kind →
      (mine ≡ [] → ⊥) × (answer_of (part_key b k) (grants_of_version x.list v) ≡ present (root_of leaf_hash inner_hash mine))
  there y e =
      let z = (seen.presence y).0 e in
      let u = said_present mine (sym (list_says w k whole) ∙ z.1) in
      (u.0, z.1 ∙ ap present u.1)

  -- what holds of a proof by another name, with an answer by another
  held : {key : Bytes} {p q : Proof} {a c : Verdict} → p ≡ q → a ≡ c → Holds leaf_hash inner_hash root key p a → Holds leaf_hash inner_hash root key q c
  held {key} {q = q} {a} e i h = subst (Holds leaf_hash inner_hash root key q) i (subst (λ r. Holds leaf_hash inner_hash root key r a) e h)

  -- the bytes that are given
  given : {y : Bytes} → Proved b x v k y → (p : ShelfProof) × (y ≡ shelf_bytes p) × ShelfForm p × ShelfHolds root b k p (answer_of k (shelf_grants b x v))
  given (by-list {t = t} {g} y e) =
      let a = of_absence (its_proof y) (kind_told y) e in
      let f = form w.list_sound w.list_kept (key_whole w k whole) y in
      let gone = (no_part_lem y).0 e in (
        no_part a.0,
        front_is y f ∙ ap proof_bytes a.1,
        subst ProofForm a.1 f,
        subst (ShelfHolds root b k (no_part a.0)) (sym (part_says w k whole ∙ ap (answer_of k) gone))
            (by-list-alone (held a.1 (list_says w k whole ∙ ap (said leaf_hash inner_hash) gone) (holds w.list_sound w.list_kept (key_whole w k whole) some y))),
      )
  given (by_both {t = t} {g} {t₁ = t₁} {g₁} y e z) =
      let p = of_presence (its_proof y) (kind_told y) e in
      let f = form w.list_sound w.list_kept (key_whole w k whole) y in
      let h = form part_sound the_part_kept whole z in
      let u = there y e in (
        in_part p.0 (its_proof z),
        ap₂ ◌++◌ (front_is y f ∙ ap proof_bytes p.1) (front_is z h),
        (subst ProofForm p.1 f, h),
        subst (ShelfHolds root b k (in_part p.0 (its_proof z))) (sym (part_says w k whole))
            (in-part (held p.1 u.1 (holds w.list_sound w.list_kept (key_whole w k whole) some y)) (holds part_sound the_part_kept whole u.0 z)),
      )

  -- For every key, what proving gives is accepted, and says what the grants of all parts say.
  pub shelf_is_shown : ShelfShown b x v k
  shelf_is_shown = record {
    list_given = λ y h. seen.room y h;
    no_part_lem = λ y. no_part_lem y;
    part_given = λ y e z h. (sound_is_shown part_sound (read_at (x.part (part_of b k)) v) the_part_kept k whole (there y e).0).room z h;
    checked = λ {y} y₁ r z.
        let a = root_of_tree w.list_sound w.list_kept r in
        let u = given y₁ in
        let same = a.1 ∙ version_root_lem w.list_sound w.list_kept in
        let t : ShelfTold root b k y (accepted (answer_of k (shelf_grants b x v))) =
        holding (root_whole, whole.0) w.few (in_form_shelf u.0 u.1 u.2) u.3 in
        let c = shelf_left z (subst (λ h. ShelfTold h b k y (accepted (answer_of k (shelf_grants b x v)))) (sym same) t) in
        (a.0, c.0, c.1);
    short = λ y. let u = given y in omega (arith, ap length u.1, shelf_proofs_have_25600_bytes u.0 u.2);
  }

-- A shelf whose list has no grant has none: there is no proof.
pub empty_shelf_has_nothing : {b : ℕ} {x : Shelf} {v : ℕ} → StandsAt b x v → (k : Bytes) → Whole32 k → grants_of_version x.list v ≡ [] → NothingOnShelf b x v k
empty_shelf_has_nothing {b} {x} {v} w k whole e =
    let none = sound_reads_for w.list_sound v w.list_kept in
    let gone = said_absent (parts_at x v (part_of b k)) (sym (list_says w k whole) ∙ ap (answer_of (part_key b k)) e) in
    record {
      no_grant_lem = part_says w k whole ∙ ap (answer_of k) gone;
      refused = λ y. (none.shows_nothing (key_whole w k whole) y).0.1 e;
      zero_root = λ y. ((none.root y).0, none.zero_root e y);
    }
