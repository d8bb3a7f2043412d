-- Demand 2, an accepted batch: the bytes that are left are those of the store that the definition leaves, and what is told is the definition's
-- answer, field by field. Assumes nothing.
use Prim.Native.Nat.{ℕ, ◌≤◌, ◌<◌}
use native.Mathlib.Omega.{arith}
use mathlib.Core.Path.{◌≡◌, refl, ap, sym, ◌∙◌, subst}
use mathlib.Core.List.{List, [], ◌∷◌, ◌++◌, append-nil}
use mathlib.Core.Option.{Option, none, some}
use lib.ListN.{length, get_or}
use Rattle.terms.specs.Bits.{Bytes}
use Rattle.terms.specs.Fields.{le, num, field, slice, flat}
use Rattle.terms.specs.Records.{Ask, Slot, free, used, spoiled, Store}
use Rattle.terms.specs.Form.{top32}
use Rattle.terms.proofs.Fields.{num_le, length_le, cuts, cuts_flat}
use Rattle.meaning.specs.Tree.{with_batch, tree_of, hash, unversioned, next_tree}
use Rattle.meaning.specs.Store.{free_slots, new_records}
use Rattle.meaning.specs.Sound.{Kept}
use Rattle.meaning.specs.Calls.{Answer, accepted, refuse, Applied, apply}
use Rattle.histories.specs.Claims.{AfterApply}
use Rattle.histories.proofs.Calls.{records_needed, apply_cases}
use Rattle.histories.proofs.Theorems.{sound_tree_of_grants, apply_keeps_sound}
use Rattle.nodehash.specs.Node.{leaf_hash, inner_hash}
use Rattle.layout.specs.Stores.{store_of, store_bytes}
use Rattle.batch.specs.Asked.{AskedBy, Asks}
use Rattle.promises.specs.Calls.{SoundBytes, accepts, Does}
use Rattle.contracts.specs.Apply.{answer_bytes, told}
use Rattle.meaning.specs.Answers.{Exports, exports_refusal, exports_answer}
use Rattle.contracts.specs.Contracts.{Applies}
use Rattle.demands.specs.Claims.{tree_of_version, grants_of_version, latest_of, ReadsFor, ReadsAs, ComparesAs, NextVersion}
use Rattle.demands.proofs.Hashes.{leaf_hash_whole, inner_hash_whole, hash_whole}
use Rattle.demands.proofs.Stored.{stored_is, stored_sound, apply_form}
use Rattle.demands.proofs.Refusals.{no_refusal, never_0, apply_refusals, does_numbers}
use Rattle.demands.proofs.Reading.{sound_reads_for}
use Rattle.demands.proofs.Alike.{same_tree_reads_as, same_trees_compare_as}

-- what an accepted batch makes, on the store of the bytes
pub record Makes (number : ℕ) (batch s t g : Bytes) : Type 0 where
  pub asks : List Ask
  pub asked : AskedBy batch asks
  pub was : SoundBytes s
  pub answer : Applied
  pub accepted_as : (apply leaf_hash inner_hash number (some asks) (store_of s)).answer ≡ accepted answer
  pub bytes : t ≡ store_bytes (apply leaf_hash inner_hash number (some asks) (store_of s)).store
  pub told_as : g ≡ told answer

pub makes : (number : ℕ) (batch : Bytes) {s f t g : Bytes} {r : ℕ} → Applies number batch s f r t g → r ≡ 0 → Makes number batch s t g
unfolding refuse
makes number batch {s} {f} w = go w.asked w.asks w.applied
  where
    go : (o : Option (List Ask)) → Asks batch o → {n : ℕ} {t g : Bytes} → Exports (λ a. Does (apply leaf_hash inner_hash number o) s a t) told f n g → n ≡ 0 → Makes number batch s t g
    go o x (exports_refusal d) z =
        absurd (never_0 (1 ∷ 2 ∷ 3 ∷ 4 ∷ 5 ∷ 18 ∷ 7 ∷ []) refl (does_numbers (4 ∷ 5 ∷ 18 ∷ 7 ∷ []) (apply_refusals number o) d) z)
    go none x (exports_answer (accepts was e)) z = no_refusal (sym e)
    go (some asks) x (exports_answer {a} (accepts was e)) z = record {
      asks = asks;
      asked = x;
      was = was;
      answer = a;
      accepted_as = e;
      bytes = refl;
      told_as = refl;
    }

-- the fields of what is told
module _ {g : Bytes} (a : Applied) (is : g ≡ told a) (root32 : length a.root ≡ 32) where
  cut : (i : ℕ) → get_or (cuts (4 ∷ 32 ∷ 4 ∷ []) 0 g) i [] ≡ get_or (le 4 a.version ∷ a.root ∷ le 4 a.count ∷ []) i []
  unfolding answer_bytes
  cut i =
      let fs : List Bytes = le 4 a.version ∷ a.root ∷ le 4 a.count ∷ [] in
      let whole : g ≡ flat fs = is ∙ ap (λ x. le 4 a.version ++ (a.root ++ x)) (sym (append-nil (le 4 a.count))) in
      ap (λ x. get_or (cuts (4 ∷ 32 ∷ 4 ∷ []) 0 x) i []) whole
      ∙ ap (λ x. get_or x i []) (cuts_flat (4 ∷ 32 ∷ 4 ∷ []) fs (length_le 4 a.version, (root32, (length_le 4 a.count, tt))))

  version_told : a.version ≤ top32 → field 0 4 g ≡ a.version
  unfolding field
  version_told h = ap num (cut 0) ∙ num_le 4 a.version (omega arith)

  root_told : slice 4 32 g ≡ a.root
  root_told = cut 1

  count_told : a.count ≤ top32 → field 36 4 g ≡ a.count
  unfolding field
  count_told h = ap num (cut 2) ∙ num_le 4 a.count (omega arith)

-- there are no more free slots than slots
pub free_most : (s : List Slot) → free_slots s ≤ length s
free_most [] = omega arith
free_most (free ∷ s) = let h = free_most s in omega arith
free_most (used r ∷ s) = let h = free_most s in omega arith
free_most (spoiled x ∷ s) = let h = free_most s in omega arith

-- the count is that of the records that the new tree needs
count_is_lem : (number : ℕ) (asks : List Ask) (st : Store) (a : Applied) → (apply leaf_hash inner_hash number (some asks) st).answer ≡ accepted a →
    a.count ≡ length (records_needed leaf_hash inner_hash number asks st)
unfolding refuse
count_is_lem number asks st a =
    apply_cases leaf_hash inner_hash (λ o. o.answer ≡ accepted a → a.count ≡ length (records_needed leaf_hash inner_hash number asks st)) number asks st
    (λ b e. no_refusal (sym e)) (λ b m e. no_refusal (sym e)) (λ b m h e. no_refusal (sym e)) (λ b m room e. same e)
  where
    same : {x : Applied} → ◌≡◌ {A = Answer Applied} (accepted x) (accepted a) → a.count ≡ x.count
    same e = cc

module _ {number : ℕ} {batch s t g : Bytes} (small : number ≤ top32) (m : Makes number batch s t g) where
  abbrev pub st' : Store
  st' = (apply leaf_hash inner_hash number (some m.asks) (store_of s)).store

  made : AfterApply leaf_hash inner_hash number m.asks (store_of s) m.answer st'
  made =
      apply_keeps_sound leaf_hash inner_hash leaf_hash_whole inner_hash_whole number m.asks (store_of s) m.answer m.was.sound small
      m.asked.form m.accepted_as

  pub sound : SoundBytes t
  sound = subst SoundBytes (sym m.bytes) (stored_sound st' (apply_form number (some m.asks) (store_of s)) made.sound)

  pub store_is : store_of t ≡ st'
  store_is = ap store_of m.bytes ∙ stored_is st' (apply_form number (some m.asks) (store_of s)) made.sound

  pub after : AfterApply leaf_hash inner_hash number m.asks (store_of s) m.answer (store_of t)
  after = subst (AfterApply leaf_hash inner_hash number m.asks (store_of s) m.answer) (sym store_is) made

  kept : Kept (store_of t) (latest_of t)
  kept = (sound.sound.header.0, omega arith)

  tree : unversioned (tree_of_version t (latest_of t)) ≡ tree_of (with_batch m.asks (grants_of_version s (latest_of s)))
  tree = (sound_tree_of_grants leaf_hash inner_hash (store_of t) sound.sound (latest_of t) kept).0 ∙ ap tree_of after.grants

  root32 : length m.answer.root ≡ 32
  root32 = ap length after.root ∙ (hash_whole (unversioned (tree_of_version t (latest_of t)))).0

  version : field 0 4 g ≡ latest_of t
  version = version_told m.answer m.told_as root32 (omega (arith, after.version, after.latest)) ∙ after.version

  root : slice 4 32 g ≡ hash leaf_hash inner_hash (unversioned (tree_of_version t (latest_of t)))
  root = root_told m.answer m.told_as root32 ∙ after.root

  needed : records_needed leaf_hash inner_hash number m.asks (store_of s)
      ≡ new_records leaf_hash inner_hash (latest_of t) (tree_of_version t (latest_of t))
  needed =
      ap (λ v. new_records leaf_hash inner_hash v (next_tree v (tree_of_version s (latest_of s)) m.asks)) (sym after.latest)
      ∙ ap (new_records leaf_hash inner_hash (latest_of t)) (sym after.tree)

  count : field 36 4 g ≡ length (new_records leaf_hash inner_hash (latest_of t) (tree_of_version t (latest_of t)))
  count =
      let few : m.answer.count ≤ top32 = omega (arith, after.count, free_most (store_of s).slots, m.was.sound.size.1) in
      count_told m.answer m.told_as root32 few ∙ count_is_lem number m.asks (store_of s) m.answer m.accepted_as ∙ ap length needed

  reads : ReadsFor t number (with_batch m.asks (grants_of_version s (latest_of s)))
  reads =
      subst (λ v. ReadsFor t v (with_batch m.asks (grants_of_version s (latest_of s)))) after.latest
      (subst (ReadsFor t (latest_of t)) after.grants (sound_reads_for sound (latest_of t) kept))

  still_kept : (v : ℕ) → Kept (store_of s) v → Kept (store_of t) v
  still_kept v k = (omega (arith, after.oldest, k.0), omega (arith, after.above, k.1))

  older_reads : (v : ℕ) → Kept (store_of s) v → ReadsAs t v s v
  older_reads v k = same_tree_reads_as sound m.was (still_kept v k) k (after.older v k)

  older_compare : (v w : ℕ) → Kept (store_of s) v → Kept (store_of s) w → ComparesAs t v w s v w
  older_compare v w k l = same_trees_compare_as sound m.was (still_kept v k) (still_kept w l) k l (after.older v k) (after.older w l)

  between_reads : (v : ℕ) → latest_of s ≤ v → v < number → ReadsAs t v s (latest_of s)
  between_reads v l h =
      let header = m.was.sound.header.0 in
      same_tree_reads_as sound m.was (omega (arith, after.oldest), omega (arith, after.latest)) (header, omega arith)
      (after.between v l (omega (arith, after.latest)))

  next_version : NextVersion number batch s t g
  next_version = record {
    asks = m.asks;
    asked = m.asked;
    was = m.was;
    sound = sound;
    bytes = m.bytes ∙ ap store_bytes (sym store_is);
    answer = m.answer;
    answered = m.told_as;
    after = after;
    version = version ∙ after.latest;
    tree = tree;
    reads = reads;
    root = root ∙ ap (hash leaf_hash inner_hash) tree;
    count = count;
    older = older_reads;
    between = between_reads;
    compares = older_compare;
  }

-- An accepted batch makes the version of its number.
pub accepted_batch_makes_next_version : (number : ℕ) (batch : Bytes) {s f t g : Bytes} → number ≤ top32 →
    Applies number batch s f 0 t g → NextVersion number batch s t g
accepted_batch_makes_next_version number batch small w = next_version small (makes number batch w refl)
