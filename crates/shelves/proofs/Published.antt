-- What publishing makes of a shelf: it stands at every version that its list keeps, and its root is told from its grants
-- alone. A part that applies its run has its old trees up to the number and the run's at it, a part that stays reads as
-- before, and the new roots make the list that of the new parts. Assumes nothing.
use Prim.Native.Nat.{ℕ, zero, suc, ◌+◌, ◌≤◌, ◌<◌}
use native.Mathlib.Omega.{arith}
use mathlib.Core.Path.{◌≡◌, refl, ap, ap₂, sym, ◌∙◌, subst}
use mathlib.Core.Logic.{◌⊎◌, inl, inr}
use mathlib.Core.Bool.{Bool, true, false, cond}
use mathlib.Core.List.{List, [], ◌∷◌, ◌++◌}
use lib.ListN.{length}
use lib.Dec.{leb}
use borrow.Author.Tests.{leb-true, leb-false}
use Rattle.terms.specs.declared.Form.TheVariants.{Counted as counted}
use Rattle.terms.specs.Bits.{Bytes, left, right, Place, longer, All, begins}
use Rattle.terms.specs.Records.{Grant, ask_key, Store}
use Rattle.meaning.specs.Tree.{hash, tree_of, with_batch, grants_in}
use Rattle.meaning.specs.Store.{formatted, tree_at_version}
use Rattle.meaning.specs.Calls.{accepted, refuse, prune}
use Rattle.meaning.specs.Sound.{Kept, Sound}
use Rattle.histories.specs.Claims.{AfterApply, AfterPrune}
use Rattle.histories.proofs.Calls.{prune_cases}
use Rattle.histories.proofs.Pruning.{formatted_tree}
use Rattle.histories.proofs.Theorems.{sound_tree_of_grants, prune_keeps_sound, formatted_is_sound}
use Rattle.nodehash.specs.Node.{leaf_hash, inner_hash}
use Rattle.layout.specs.Sizes.{room_of}
use Rattle.layout.specs.Headers.{size_right}
use Rattle.layout.specs.Stores.{store_of, store_bytes}
use Rattle.layout.proofs.Headers.{size_says}
use Rattle.batch.proofs.Batches.{asked_one}
use Rattle.meaning.specs.Answers.{exports_refusal, exports_answer}
use Rattle.promises.specs.Calls.{SoundBytes, accepts}
use Rattle.shelf_grants.specs.Contents.{Parts, gathered, all_grants, Among, InPlace, root_of, listed, list_grants, new_roots, shelf_root}
use Rattle.shelf_grants.proofs.Gathered.{gathered_same}
use Rattle.shelf_grants.proofs.Listed.{placed_batch, shelf_root_of_parts, new_roots_make_the_list}
use Rattle.contracts.specs.Contracts.{Formats, Applies, Prunes, ReadsRoot}
use Rattle.demands.specs.Claims.{tree_of_version, grants_of_version, latest_of, NextVersion}
use Rattle.demands.proofs.Hashes.{leaf_hash_whole, inner_hash_whole}
use Rattle.demands.proofs.Stored.{stored_is, stored_sound, formatted_form, prune_form}
use Rattle.demands.proofs.Refusals.{no_refusal, never_0, prune_refusals, does_numbers}
use Rattle.demands.proofs.Showing.{root_of_tree}
use Rattle.demands.proofs.Versions.{accepted_batch_makes_next_version}
use Rattle.shelves.specs.Shelf as shelf
use Rattle.shelves.specs.Shelf.{Shelf, earlier, read_at, parts_at, shelf_grants, StandsAt, Run, Publishes, PrunesTo, ShelfLife, published, pruned}
use Rattle.shelves.proofs.Shown.{earlier_first, earlier_second, earlier_within, version_root_lem, part_kept}

-- what stays true of a shelf
pub record Standing (b : ℕ) (x : Shelf) : Type 0 where
  pub few : b ≤ 12
  pub list_sound : SoundBytes x.list
  pub sound : (p : Place) → length p ≡ b → SoundBytes (x.part p)
  pub oldest : (p : Place) → length p ≡ b → (store_of (x.part p)).oldest ≤ (store_of x.list).oldest
  pub latest : (p : Place) → length p ≡ b → latest_of (x.part p) ≤ latest_of x.list
  pub placed : (v : ℕ) → Kept (store_of x.list) v → InPlace b (parts_at x v)
  pub roots : (v : ℕ) → Kept (store_of x.list) v → grants_of_version x.list v ≡ list_grants leaf_hash inner_hash b (parts_at x v)

pub stands_at : {b : ℕ} {x : Shelf} → Standing b x → (v : ℕ) → Kept (store_of x.list) v → StandsAt b x v
stands_at w v kept = record {
  few = w.few;
  list_sound = w.list_sound;
  list_kept = kept;
  sound = w.sound;
  kept = λ p h. omega (arith, w.oldest p h, kept.0);
  placed = w.placed v kept;
  roots = w.roots v kept;
}

-- The root of a shelf is told from its grants alone.
pub root_by_grants_alone : {b : ℕ} {x : Shelf} {v : ℕ} → StandsAt b x v → {f g : Bytes} {r : ℕ} → ReadsRoot x.list v f r g →
    (r ≡ 0) × (g ≡ shelf_root leaf_hash inner_hash b (shelf_grants b x v))
root_by_grants_alone {b} {x} {v} w y =
    let a = root_of_tree w.list_sound w.list_kept y in
    let each : (p : Place) (h : length p ≡ b) → _ = λ p h. sound_tree_of_grants leaf_hash inner_hash (store_of (x.part p)) (w.sound p h).sound (read_at (x.part p) v) (part_kept w p h) in (
      a.0,
      a.1 ∙ version_root_lem w.list_sound w.list_kept ∙ ap (root_of leaf_hash inner_hash) w.roots
          ∙ sym (shelf_root_of_parts leaf_hash inner_hash b (omega (arith, w.few)) (parts_at x v) w.placed (λ p h. (each p h).2) (λ p h. (each p h).1)),
    )

-- Shelves with the same grants have the same root, whatever their histories.
pub same_grants_same_root : {b : ℕ} {x y : Shelf} {v u : ℕ} → StandsAt b x v → StandsAt b y u → shelf_grants b x v ≡ shelf_grants b y u →
    {f g f₁ g₁ : Bytes} {r r₁ : ℕ} → ReadsRoot x.list v f r g → ReadsRoot y.list u f₁ r₁ g₁ → g ≡ g₁
same_grants_same_root {b} w z e y q =
    (root_by_grants_alone w y).1 ∙ ap (shelf_root leaf_hash inner_hash b) e ∙ sym (root_by_grants_alone z q).1

-- versions: the earlier of three
earlier_twice : (v w l : ℕ) → l ≤ w → earlier (earlier v w) l ≡ earlier v l
earlier_twice v w l h = go (leb v w) refl
  where
    go : (c : Bool) → leb v w ≡ c → earlier (earlier v w) l ≡ earlier v l
    go true e = ap (λ n. earlier n l) (earlier_first v w (leb-true v w e))
    go false e =
        let f = leb-false v w e in
        ap (λ n. earlier n l) (earlier_second v w (omega arith)) ∙ earlier_second w l h ∙ sym (earlier_second v l (omega arith))

-- a store that a batch was applied to as n: before n it reads as it did, at n it holds the batch applied
module _ {n : ℕ} {batch s t g : Bytes} (a : NextVersion n batch s t g) where
  applied_before : (v : ℕ) → (store_of s).oldest ≤ v → v < n → grants_of_version t (earlier v (latest_of t)) ≡ grants_of_version s (earlier v (latest_of s))
  applied_before v o h =
      let here : earlier v (latest_of t) ≡ v = earlier_first v (latest_of t) (omega (arith, a.after.latest)) in
      ap (grants_of_version t) here ∙ go (leb v (latest_of s)) refl
    where
      go : (c : Bool) → leb v (latest_of s) ≡ c → grants_of_version t v ≡ grants_of_version s (earlier v (latest_of s))
      go true e =
          let l = leb-true v (latest_of s) e in
          ap grants_in (a.after.older v (o, l)) ∙ sym (ap (grants_of_version s) (earlier_first v (latest_of s) l))
      go false e =
          let l = leb-false v (latest_of s) e in
          ap grants_in (a.after.between v (omega arith) (omega (arith, a.after.latest))) ∙ sym (ap (grants_of_version s) (earlier_second v (latest_of s) (omega arith)))

  applied_now : grants_of_version t (earlier n (latest_of t)) ≡ with_batch a.asks (grants_of_version s (latest_of s))
  applied_now = ap (grants_of_version t) (earlier_second n (latest_of t) (omega (arith, a.after.latest))) ∙ a.after.grants

-- what becomes of a part
record PartStep (n top : ℕ) (p : Place) (s t : Bytes) : Type 0 where
  pub sound : SoundBytes t
  pub oldest : (store_of t).oldest ≡ (store_of s).oldest
  pub latest : latest_of t ≤ n
  pub before : (v : ℕ) → (store_of s).oldest ≤ v → v < n → grants_of_version t (earlier v (latest_of t)) ≡ grants_of_version s (earlier v (latest_of s))
  pub placed : All (λ g. begins p g.key ≡ true) (grants_of_version s (earlier top (latest_of s))) →
      All (λ g. begins p g.key ≡ true) (grants_of_version t (earlier n (latest_of t)))

module _ {b n : ℕ} {x y : Shelf} (w : Standing b x) (act : Publishes b n x y) where
  abbrev top : ℕ
  top = latest_of x.list

  list_next : NextVersion n act.batch x.list y.list act.applied.1
  list_next = accepted_batch_makes_next_version n act.batch act.number act.applied.2

  run_next : (p : Place) (r : Run n p (x.part p) (y.part p)) → NextVersion n r.batch (x.part p) (y.part p) r.applied.1
  run_next p r = accepted_batch_makes_next_version n r.batch act.number r.applied.2

  -- at the top of the list a part is at its own latest
  at_top : (p : Place) → length p ≡ b → earlier top (latest_of (x.part p)) ≡ latest_of (x.part p)
  at_top p h = earlier_second top (latest_of (x.part p)) (w.latest p h)

  stayed : (p : Place) → length p ≡ b → {t : Bytes} → t ≡ x.part p → PartStep n top p (x.part p) t
  stayed p h e =
      let below : latest_of (x.part p) ≤ n = omega (arith, w.latest p h, list_next.after.above, list_next.after.latest) in
      subst (PartStep n top p (x.part p)) (sym e) (record {
        sound = w.sound p h;
        oldest = refl;
        latest = below;
        before = λ v o l. refl;
        placed = λ i. subst (λ m. All (λ g. begins p g.key ≡ true) (grants_of_version (x.part p) m))
            (at_top p h ∙ sym (earlier_second n (latest_of (x.part p)) below)) i;
      })

  ran : (p : Place) → length p ≡ b → Run n p (x.part p) (y.part p) → PartStep n top p (x.part p) (y.part p)
  ran p h r =
      let a = run_next p r in
      let asks = asked_one a.asked r.asked in
      record {
        sound = a.sound;
        oldest = a.after.oldest;
        latest = omega (arith, a.after.latest);
        before = applied_before a;
        placed = λ i. subst (λ gs. All (λ g. begins p g.key ≡ true) gs) (sym (applied_now a))
            (placed_batch p a.asks (grants_of_version (x.part p) (latest_of (x.part p)))
            (subst (λ l. All (λ c. begins p (ask_key c) ≡ true) l) (sym asks) r.placed)
            (subst (λ m. All (λ g. begins p g.key ≡ true) (grants_of_version (x.part p) m)) (at_top p h) i));
      }

  part_step : (p : Place) → length p ≡ b → PartStep n top p (x.part p) (y.part p)
  part_step p h = go (act.parts p h)
    where
      go : (Among p act.touched × Run n p (x.part p) (y.part p)) ⊎ ((Among p act.touched → ⊥) × (y.part p ≡ x.part p)) →
          PartStep n top p (x.part p) (y.part p)
      go (inl r) = ran p h r.1
      go (inr s) = stayed p h s.1

  -- at an older version the parts are as they were
  older_parts : (v : ℕ) → (store_of x.list).oldest ≤ v → v < n → (p : Place) → length p ≡ b → parts_at y v p ≡ parts_at x (earlier v top) p
  older_parts v o h p l =
      (part_step p l).before v (omega (arith, w.oldest p l)) h
      ∙ ap (grants_of_version (x.part p)) (sym (earlier_twice v top (latest_of (x.part p)) (w.latest p l)))

  -- and at n those that stay are
  not_touched : (p : Place) → length p ≡ b → (Among p act.touched → ⊥) → parts_at y n p ≡ parts_at x top p
  not_touched p l out = go (act.parts p l)
    where
      go : (Among p act.touched × Run n p (x.part p) (y.part p)) ⊎ ((Among p act.touched → ⊥) × (y.part p ≡ x.part p)) →
          parts_at y n p ≡ parts_at x top p
      go (inl r) = absurd (out r.0)
      go (inr s) =
          ap (λ t. grants_of_version t (earlier n (latest_of t))) s.1
          ∙ ap (grants_of_version (x.part p))
          (earlier_second n (latest_of (x.part p)) (omega (arith, w.latest p l, list_next.after.above, list_next.after.latest)) ∙ sym (at_top p l))

  top_kept : Kept (store_of x.list) top
  top_kept = (w.list_sound.sound.header.0, omega arith)

  new_list : grants_of_version y.list n ≡ list_grants leaf_hash inner_hash b (parts_at y n)
  new_list =
      let asks = asked_one list_next.asked act.asked in
      ap (grants_of_version y.list) (sym list_next.after.latest)
      ∙ list_next.after.grants
      ∙ ap₂ with_batch asks (w.roots top top_kept)
      ∙ new_roots_make_the_list leaf_hash inner_hash b (omega (arith, w.few)) leaf_hash_whole inner_hash_whole (parts_at x top) (parts_at y n) act.touched act.here not_touched

  old_kept : (v : ℕ) → Kept (store_of y.list) v → Kept (store_of x.list) (earlier v top)
  old_kept v k =
      let e = earlier_within (store_of x.list).oldest v top (omega (arith, k.0, list_next.after.oldest)) w.list_sound.sound.header.0 in (e.0, e.1)

  old_list : (v : ℕ) → Kept (store_of y.list) v → v < n → grants_of_version y.list v ≡ list_grants leaf_hash inner_hash b (parts_at y v)
  old_list v k h =
      let o : (store_of x.list).oldest ≤ v = omega (arith, k.0, list_next.after.oldest) in
      ap (grants_of_version y.list) (sym (earlier_first v (latest_of y.list) k.1))
      ∙ applied_before list_next v o h
      ∙ w.roots (earlier v top) (old_kept v k)
      ∙ gathered_same b (λ p. listed leaf_hash inner_hash p (parts_at x (earlier v top) p)) (λ p. listed leaf_hash inner_hash p (parts_at y v p))
      (λ p l. ap (listed leaf_hash inner_hash p) (sym (older_parts v o h p l))) b [] (omega arith)

  at_or_before : {A : Type 0} (v : ℕ) → Kept (store_of y.list) v → (v ≡ n → A) → (v < n → A) → A
  at_or_before {A} v k f g = go (leb n v) refl
    where
      go : (c : Bool) → leb n v ≡ c → A
      go true e = let l = leb-true n v e in f (omega (arith, k.1, list_next.after.latest))
      go false e = g (leb-false n v e)

  publishing_keeps : Standing b y
  publishing_keeps = record {
    few = w.few;
    list_sound = list_next.sound;
    sound = λ p l. (part_step p l).sound;
    oldest = λ p l. omega (arith, (part_step p l).oldest, w.oldest p l, list_next.after.oldest);
    latest = λ p l. omega (arith, (part_step p l).latest, list_next.after.latest);
    placed = λ v k. at_or_before v k
        (λ e. subst (λ m. InPlace b (parts_at y m)) (sym e) (λ p l. (part_step p l).placed (w.placed top top_kept p l)))
        (λ h. λ p l. subst (λ gs. All (λ g. begins p g.key ≡ true) gs) (sym (older_parts v (omega (arith, k.0, list_next.after.oldest)) h p l)) (w.placed (earlier v top) (old_kept v k) p l));
    roots = λ v k. at_or_before v k
        (λ e. subst (λ m. grants_of_version y.list m ≡ list_grants leaf_hash inner_hash b (parts_at y m)) (sym e) new_list)
        (λ h. old_list v k h);
  }

-- a pruned store
record PruneStep (m : ℕ) (s t : Bytes) : Type 0 where
  pub was_kept : Kept (store_of s) m
  pub sound : SoundBytes t
  pub oldest : (store_of t).oldest ≡ m
  pub latest : latest_of t ≡ latest_of s
  pub trees : (v : ℕ) → m ≤ v → v ≤ latest_of s → grants_of_version t v ≡ grants_of_version s v

kept_by_lem : (n : ℕ) (st : Store) (a : ℕ) → (prune n st).answer ≡ accepted a → Kept st n
unfolding refuse
kept_by_lem n st a e = prune_cases (λ o. o.answer ≡ accepted a → Kept st n) n st (λ h f. no_refusal (sym f)) (λ h f. h) e

prune_step : (m : ℕ) {s f t g : Bytes} → Prunes m s f 0 t g → PruneStep m s t
prune_step m {s} w = go w refl
  where
    go : {f t g : Bytes} {r : ℕ} → Prunes m s f r t g → r ≡ 0 → PruneStep m s t
    go (exports_refusal d) z = absurd (never_0 (1 ∷ 2 ∷ 3 ∷ 8 ∷ []) refl (does_numbers (8 ∷ []) (prune_refusals m) d) z)
    go (exports_answer {a} (accepts w e)) z =
        let st = (prune m (store_of s)).store in
        let made = prune_keeps_sound leaf_hash inner_hash m (store_of s) a w.sound e in
        let said = stored_is st (prune_form m (store_of s)) made.sound in
        let after = subst (AfterPrune leaf_hash inner_hash m (store_of s) a) (sym said) made in
        record {
          was_kept = kept_by_lem m (store_of s) a e;
          sound = stored_sound st (prune_form m (store_of s)) made.sound;
          oldest = after.oldest;
          latest = after.latest;
          trees = λ v l h. ap grants_in (after.trees v (omega (arith, after.oldest), omega (arith, after.latest)));
        }

module _ {b n : ℕ} {x y : Shelf} (w : Standing b x) (act : PrunesTo b n x y) where
  list_cut : PruneStep n x.list y.list
  list_cut = prune_step n act.list.2

  part_cut : (p : Place) → length p ≡ b → PruneStep (read_at (x.part p) n) (x.part p) (y.part p)
  part_cut p l = prune_step (read_at (x.part p) n) (act.parts p l).2

  was : (v : ℕ) → Kept (store_of y.list) v → Kept (store_of x.list) v
  was v k = (omega (arith, list_cut.was_kept.0, list_cut.oldest, k.0), omega (arith, list_cut.latest, k.1))

  later_in : (v l : ℕ) → n ≤ v → (earlier n l ≤ earlier v l) × (earlier v l ≤ l)
  later_in v l h = go (leb n l) refl
    where
      go : (c : Bool) → leb n l ≡ c → (earlier n l ≤ earlier v l) × (earlier v l ≤ l)
      go true e =
          let i = leb-true n l e in
          let u = earlier_within n v l h i in
          let z = earlier_first n l i in
          (omega arith, u.1)
      go false e =
          let i = leb-false n l e in
          let z = earlier_second n l (omega arith) in
          let u = earlier_second v l (omega arith) in
          (omega arith, omega arith)

  cut_parts : (v : ℕ) → Kept (store_of y.list) v → (p : Place) → length p ≡ b → parts_at y v p ≡ parts_at x v p
  cut_parts v k p l =
      let c = part_cut p l in
      let u = later_in v (latest_of (x.part p)) (omega (arith, k.0, list_cut.oldest)) in
      ap (λ m. grants_of_version (y.part p) (earlier v m)) c.latest ∙ c.trees (earlier v (latest_of (x.part p))) u.0 u.1

  pruning_keeps : Standing b y
  pruning_keeps = record {
    few = w.few;
    list_sound = list_cut.sound;
    sound = λ p l. (part_cut p l).sound;
    oldest = λ p l.
        let u = earlier_within 0 n (latest_of (x.part p)) (omega arith) (omega arith) in
        omega (arith, (part_cut p l).oldest, list_cut.oldest, u.2);
    latest = λ p l. omega (arith, (part_cut p l).latest, list_cut.latest, w.latest p l);
    placed = λ v k p l. subst (λ gs. All (λ g. begins p g.key ≡ true) gs) (sym (cut_parts v k p l)) (w.placed v (was v k) p l);
    roots = λ v k.
        list_cut.trees v (omega (arith, k.0, list_cut.oldest)) (was v k).1
        ∙ w.roots v (was v k)
        ∙ gathered_same b (λ p. listed leaf_hash inner_hash p (parts_at x v p)) (λ p. listed leaf_hash inner_hash p (parts_at y v p))
        (λ p l. ap (listed leaf_hash inner_hash p) (sym (cut_parts v k p l))) b [] (omega arith);
  }

-- a formatted store
record Fresh (t : Bytes) : Type 0 where
  pub sound : SoundBytes t
  pub oldest : (store_of t).oldest ≡ 0
  pub latest : latest_of t ≡ 0
  pub empty : (v : ℕ) → grants_of_version t v ≡ []

fresh_store : {s t : Bytes} → Formats s 0 t → Fresh t
unfolding formatted
fresh_store {s} {t} w = go (size_right counted (length s)) refl w.answer w.bytes
  where
    go : (c : Bool) → size_right counted (length s) ≡ c → ◌≡◌ {A = ℕ} 0 (cond c 0 1) → t ≡ cond c (store_bytes (formatted (room_of counted (length s)))) s → Fresh t
    go false e h i = absurd (omega arith)
    go true e h i =
        let z = size_says counted (length s) e in
        let m = room_of counted (length s) in
        let sound = formatted_is_sound leaf_hash inner_hash m z.1 z.2 in
        let said : store_of t ≡ formatted m = ap store_of i ∙ stored_is (formatted m) (formatted_form m) sound in
        record {
          sound = subst SoundBytes (sym i) (stored_sound (formatted m) (formatted_form m) sound);
          oldest = ap (λ st. st.oldest) said;
          latest = ap (λ st. st.latest) said;
          empty = λ v. ap (λ st. grants_in (tree_at_version st v)) said ∙ ap grants_in (formatted_tree m v);
        }

none_gathered : (n : ℕ) (p : Place) → gathered n p (λ q. []) ≡ []
none_gathered zero p = refl
none_gathered (suc n) p = ap₂ ◌++◌ (none_gathered n (longer left p)) (none_gathered n (longer right p))

formatting_begins : {b : ℕ} {x : Shelf} {old : Bytes} → b ≤ 12 → Formats old 0 x.list →
    ((p : Place) → length p ≡ b → (was : Bytes) × Formats was 0 (x.part p)) → Standing b x
formatting_begins {b} {x} few list parts =
    let top = fresh_store list in
    let each : (p : Place) → length p ≡ b → Fresh (x.part p) = λ p l. fresh_store (parts p l).1 in
    record {
      few = few;
      list_sound = top.sound;
      sound = λ p l. (each p l).sound;
      oldest = λ p l. omega (arith, (each p l).oldest);
      latest = λ p l. omega (arith, (each p l).latest);
      placed = λ v k p l. subst (λ gs. All (λ g. begins p g.key ≡ true) gs) (sym ((each p l).empty (read_at (x.part p) v))) tt;
      roots = λ v k.
          top.empty v
          ∙ sym (gathered_same b (λ p. listed leaf_hash inner_hash p (parts_at x v p)) (λ p. []) (λ p l. ap (listed leaf_hash inner_hash p) ((each p l).empty (read_at (x.part p) v))) b [] (omega arith)
          ∙ none_gathered b []);
    }

life_standing : {b : ℕ} {x : Shelf} → ShelfLife b x → Standing b x
life_standing (shelf.formatted few list parts) = formatting_begins few list parts
life_standing (published life act) = publishing_keeps (life_standing life) act
life_standing (pruned life act) = pruning_keeps (life_standing life) act

-- A shelf that only publishings and prunings wrote stands at every version that its list keeps.
pub shelf_stands_after_its_life : {b : ℕ} {x : Shelf} → ShelfLife b x → (v : ℕ) → Kept (store_of x.list) v → StandsAt b x v
shelf_stands_after_its_life life v k = stands_at (life_standing life) v k
