-- After any list of calls a store is sound and holds what the calls have granted: each call keeps this, and so does their list.
-- Assumes nothing.
use Prim.Native.Nat.{ℕ, zero, suc, ◌+◌, ◌-◌, ◌≤◌, ◌<◌}
use native.Mathlib.Omega.{arith}
use mathlib.Core.Path.{◌≡◌, refl, ap, ap₂, sym, ◌∙◌, subst}
use mathlib.Core.Logic.{◌⊎◌, inl, inr}
use mathlib.Core.Bool.{Bool, true, false, cond}
use mathlib.Core.List.{List, [], ◌∷◌}
use mathlib.Core.Option.{none, some}
use lib.ListN.{length}
use lib.Dec.{leb}
use borrow.Author.Tests.{leb-true, leb-false}
use Rattle.terms.specs.Bits.{Bytes, All, filter}
use Rattle.terms.specs.Records.{Grant, Ask, Store}
use Rattle.meaning.specs.Tree.{grants_in}
use Rattle.meaning.specs.Store.{formatted, tree_at_version}
use Rattle.meaning.specs.Sound.{most_slots, Kept, Hashes32, Sound}
use Rattle.meaning.specs.Calls.{Applied, refuse}
use Rattle.meaning.specs.History.{Call, formatting, applying, pruning, taking, looking, Entry, entry, kept_by, lasting, noted, ledger, grants_of, Holds, entries_from, held}
use Rattle.meaning.specs.Course.{CallForm, is_accepted, after, took, run, history}
use Rattle.meaning.proofs.Shaped.{shaped_tree_of}
use Rattle.histories.specs.Claims.{AfterApply, AfterPrune}
use Rattle.histories.proofs.Whole.{sound_whole, whole_sound}
use Rattle.histories.proofs.Pruning.{formatted_tree, formatted_whole}
use Rattle.histories.proofs.Trees.{kept_shaped}
use Rattle.histories.proofs.Calls.{prune_cases, cut_after, apply_cases, settled_after}
use Rattle.histories.proofs.Ledger.{grants_here, grants_there, grants_lasting, grants_unlasting, kept_first, grants_kept, grants_dropped}

-- the grants that a version of a store holds
abbrev holding : Store → ℕ → List Grant
holding st v = grants_in (tree_at_version st v)

-- the entry of the latest version
abbrev newest : Store → Entry
newest st = entry st.latest (holding st st.latest)

-- what a store holds by itself

last_or : (v m : ℕ) → v ≤ suc m → (v ≤ m) ⊎ (v ≡ suc m)
last_or v m h = go (leb v m) refl
  where
    go : (b : Bool) → leb v m ≡ b → (v ≤ m) ⊎ (v ≡ suc m)
    go true e = inl (leb-true v m e)
    go false e = inr (omega (arith, leb-false v m e))

from_gives : (st : Store) (o n v : ℕ) → o ≤ v → v ≤ o + n → grants_of v (entries_from (tree_at_version st) o n) ≡ some (holding st v)
from_gives st o zero v l h = let e : o ≡ v = omega arith in grants_here v (entry o (holding st o)) [] e ∙ ap (λ x. some (holding st x)) e
from_gives st o (suc n) v l h = go (last_or v (o + n) (omega arith)) (λ k. from_gives st o n v l k)
  where
    top : Entry
    top = entry (o + suc n) (holding st (o + suc n))

    go : (v ≤ o + n) ⊎ (v ≡ suc (o + n)) → (v ≤ o + n → grants_of v (entries_from (tree_at_version st) o n) ≡ some (holding st v)) →
        grants_of v (top ∷ entries_from (tree_at_version st) o n) ≡ some (holding st v)
    go (inl k) f = grants_there v top (entries_from (tree_at_version st) o n) (λ e. omega arith) ∙ f k
    go (inr k) f = let e : o + suc n ≡ v = omega arith in grants_here v top (entries_from (tree_at_version st) o n) e ∙ ap (λ x. some (holding st x)) e

from_only : (st : Store) (o n v : ℕ) → ((o ≤ v) × (v ≤ o + n) → ⊥) → grants_of v (entries_from (tree_at_version st) o n) ≡ none
from_only st o zero v f = grants_there v (entry o (holding st o)) [] (λ e. f (omega arith, omega arith))
from_only st o (suc n) v f =
    grants_there v (entry (o + suc n) (holding st (o + suc n))) (entries_from (tree_at_version st) o n) (λ e. f (omega arith, omega arith))
    ∙ from_only st o n v (λ h. f (h.0, omega (arith, h.1)))

from_newest : (st : Store) (o n : ℕ) → o + n ≡ st.latest → (rest : List Entry) × (entries_from (tree_at_version st) o n ≡ newest st ∷ rest)
from_newest st o zero e = ([], ap (λ x. entry x (holding st x) ∷ []) (omega arith))
from_newest st o (suc n) e = (entries_from (tree_at_version st) o n, ap (λ x. entry x (holding st x) ∷ entries_from (tree_at_version st) o n) e)

module _ (leaf_hash inner_hash : Bytes → Bytes → Bytes) where
  -- what is kept from call to call: the ledger begins with the latest version and has the grants of each kept version, and no more
  pub record Keeps (st : Store) (es : List Entry) : Type 0 where
    pub sound : Sound leaf_hash inner_hash st
    pub first : (rest : List Entry) × (es ≡ newest st ∷ rest)
    pub gives : (v : ℕ) → Kept st v → grants_of v es ≡ some (holding st v)
    pub only : (v : ℕ) → (Kept st v → ⊥) → grants_of v es ≡ none

  pub keeps_holds : (st : Store) (es : List Entry) → Keeps st es → Holds leaf_hash inner_hash st es
  keeps_holds st es k =
      let w = sound_whole leaf_hash inner_hash st k.sound in
      record {
        sound = k.sound;
        gives = λ v h. (holding st v, k.gives v h, shaped_tree_of _ (kept_shaped leaf_hash inner_hash st w v h), refl);
        only = k.only;
      }

  -- a sound store keeps what it holds
  pub keeps_held : (st : Store) → Sound leaf_hash inner_hash st → Keeps st (held st)
  unfolding held
  keeps_held st s =
      let o = s.header.0 in
      record {
        sound = s;
        first = from_newest st st.oldest (st.latest - st.oldest) (omega arith);
        gives = λ v k. from_gives st st.oldest (st.latest - st.oldest) v k.0 (omega (arith, k.1));
        only = λ v f. from_only st st.oldest (st.latest - st.oldest) v (λ h. f (h.0, omega (arith, h.1)));
      }

  pub keeps_formatted : (n : ℕ) → (1 ≤ n) × (n ≤ most_slots) → Keeps (formatted n) (entry 0 [] ∷ [])
  unfolding formatted
  keeps_formatted n h = record {
    sound = whole_sound leaf_hash inner_hash (formatted n) (formatted_whole leaf_hash inner_hash n h);
    first = ([], ap (λ t. entry 0 (grants_in t) ∷ []) (sym (formatted_tree n 0)));
    gives = λ v k. rw (formatted_tree n v) (grants_here v (entry 0 []) [] (omega arith));
    only = λ v f. grants_there v (entry 0 []) [] (λ e. f (omega arith, omega arith));
  }

  -- pruning to n
  keeps_pruned : (n : ℕ) (st st' : Store) (es : List Entry) {freed : ℕ} → Keeps st es → Kept st n →
      AfterPrune leaf_hash inner_hash n st freed st' → Keeps st' (filter (kept_by n) es)
  keeps_pruned n st st' es k l a = record {
    sound = a.sound;
    first = (
      filter (kept_by n) k.first.0,
      ap (filter (kept_by n)) k.first.1
          ∙ kept_first n (newest st) k.first.0 l.1
          ∙ ap (◌∷ filter (kept_by n) k.first.0) (ap₂ (λ v gs. entry v gs) (sym a.latest) same),
    );
    gives = λ v h.
        grants_kept v n es (omega (arith, a.oldest, h.0))
        ∙ k.gives v (omega (arith, a.oldest, h.0, l.0), omega (arith, a.latest, h.1))
        ∙ ap (λ t. some (grants_in t)) (sym (a.trees v h));
    only = λ v f. go v f (leb n v) refl;
  }
    where
      same : holding st st.latest ≡ holding st' st'.latest
      same =
          ap (holding st) (sym a.latest)
          ∙ ap grants_in (sym (a.trees st'.latest (omega (arith, a.sound.header.0), omega arith)))

      go : (v : ℕ) → (Kept st' v → ⊥) → (b : Bool) → leb n v ≡ b → grants_of v (filter (kept_by n) es) ≡ none
      go v f true e =
          let m = leb-true n v e in
          grants_kept v n es m ∙ k.only v (λ h. f (omega (arith, a.oldest), omega (arith, a.latest, h.1)))
      go v f false e = grants_dropped v n es (leb-false n v e)

  -- a batch
  keeps_applied : (number : ℕ) (batch : List Ask) (st st' : Store) (es : List Entry) {answer : Applied} → Keeps st es →
      AfterApply leaf_hash inner_hash number batch st answer st' →
      Keeps st' (noted (applying number (some batch)) es)
  keeps_applied number batch st st' es k a = subst (Keeps st') (sym is_noted) (record {
    sound = a.sound;
    first = (older, refl);
    gives = gives_at;
    only = λ v f.
        grants_there v (newest st') older (λ e. f (omega (arith, a.sound.header.0), omega arith))
        ∙ unlasting v (λ l h. f (omega (arith, a.oldest, k.sound.header.0), omega (arith, a.latest)))
        ∙ k.only v (λ h. f (omega (arith, a.oldest, h.0), omega (arith, a.above, h.1)));
  })
    where
      -- the versions before the new one
      older : List Entry
      older = lasting (number - suc st.latest) (newest st) k.first.0

      is_noted : noted (applying number (some batch)) es ≡ newest st' ∷ older
      is_noted =
          ap (noted (applying number (some batch))) k.first.1
          ∙ ap (◌∷ older) (ap₂ (λ v gs. entry v gs) (sym a.latest) (sym a.grants))

      unlasting : (v : ℕ) → (st.latest < v → v < number → ⊥) → grants_of v older ≡ grants_of v es
      unlasting v f =
          grants_unlasting v (number - suc st.latest) (newest st) k.first.0 (λ l h. f l (omega arith))
          ∙ ap (grants_of v) (sym k.first.1)

      gives_at : (v : ℕ) → Kept st' v → grants_of v (newest st' ∷ older) ≡ some (holding st' v)
      gives_at v h = go (leb v st.latest) (leb st'.latest v) refl refl
        where
          go : (b c : Bool) → leb v st.latest ≡ b → leb st'.latest v ≡ c →
              grants_of v (newest st' ∷ older) ≡ some (holding st' v)
          go true c p q =
              let kept : Kept st v = (omega (arith, a.oldest, h.0), leb-true v st.latest p) in
              grants_there v (newest st') older (λ z. omega (arith, a.above, kept.1))
              ∙ unlasting v (λ l _. absurd (omega (arith, kept.1)))
              ∙ k.gives v kept
              ∙ ap (λ t. some (grants_in t)) (sym (a.older v kept))
          go false true p q =
              let e : st'.latest ≡ v = omega (arith, h.1, leb-true st'.latest v q) in
              grants_here v (newest st') older e ∙ ap (λ x. some (holding st' x)) e
          go false false p q =
              let past = leb-false v st.latest p in
              let short = leb-false st'.latest v q in
              grants_there v (newest st') older (λ z. omega arith)
              ∙ grants_lasting v (number - suc st.latest) (newest st) k.first.0 (omega arith) (omega (arith, a.latest))
              ∙ ap (λ t. some (grants_in t)) (sym (a.between v (omega arith) short))

  module _ (lh : Hashes32 leaf_hash) (ih : Hashes32 inner_hash) where
    pub keeps_call : (c : Call) (st : Store) (es : List Entry) → CallForm c → Keeps st es →
        Keeps (after leaf_hash inner_hash c st) (cond (took leaf_hash inner_hash c st) (noted c es) es)
    unfolding refuse
    keeps_call formatting st es f k = keeps_formatted (length st.slots) k.sound.size
    keeps_call (applying number none) st es f k = k
    keeps_call (applying number (some batch)) st es f k =
        apply_cases leaf_hash inner_hash
        (λ o. Keeps o.store (cond (is_accepted o.answer) (noted (applying number (some batch)) es) es)) number batch st
        (λ e. k) (λ o e. k) (λ o m e. k)
        (λ o m room.
        keeps_applied number batch st _ es k (settled_after leaf_hash inner_hash lh ih number batch st k.sound f.0 f.1 m room))
    keeps_call (pruning n) st es f k =
        prune_cases (λ o. Keeps o.store (cond (is_accepted o.answer) (noted (pruning n) es) es)) n st
        (λ h. k) (λ h. keeps_pruned n st _ es k h (cut_after leaf_hash inner_hash n st k.sound h))
    keeps_call (taking new) st es f k = k
    keeps_call looking st es f k = k

    pub keeps_calls : (calls : List Call) (st : Store) (es : List Entry) → All CallForm calls → Keeps st es →
        Keeps (run leaf_hash inner_hash calls st) (ledger (history leaf_hash inner_hash calls st) es)
    keeps_calls [] st es f k = k
    keeps_calls (c ∷ calls) st es f k = keeps_calls calls (after leaf_hash inner_hash c st) _ f.1 (keeps_call c st es f.0 k)
