-- Document 02, 2026-01, over the contract: an accepted comparison lists what changed. It is accepted only of a sound store, with both versions
-- kept and the visits within the limit; the list is then the definition's. Assumes nothing.
use Prim.Native.Nat.{ℕ, ◌*◌, ◌≤◌}
use native.Mathlib.Omega.{arith}
use mathlib.Core.Path.{◌≡◌, refl, ap, sym, ◌∙◌}
use mathlib.Core.Bool.{Bool, true, false, cond, ◌&&◌}
use mathlib.Core.List.{List, [], ◌∷◌}
use lib.ListN.{length}
use lib.Dec.{leb, ltb}
use borrow.Author.Tests.{ltb-false, leb-true}
use Rattle.terms.specs.Bits.{Bytes}
use Rattle.terms.specs.Fields.{le}
use Rattle.terms.specs.Records.{Store}
use Rattle.terms.proofs.Tests.{and_left, and_right}
use Rattle.meaning.specs.Sound.{Kept}
use Rattle.meaning.specs.Calls.{Answer, refused, accepted, refuse, is_kept}
use Rattle.meaning.specs.Answers.{number_of, room_after, told_of}
use Rattle.nodehash.specs.Node.{leaf_hash, inner_hash}
use Rattle.layout.specs.Stores.{store_of}
use Rattle.promises.specs.Calls.{SoundBytes, Does, not_checked, refuses, accepts}
use Rattle.changed.specs.Changes.{Item, items, item_size, list_bytes}
use Rattle.changed.specs.Compare.{changes_of, visits_of, compare}
use Rattle.changed.proofs.Theorems.{list_is_what_changed, swapped_undoes, equal_versions_give_none, visits_symmetric, visits_at_most_32769, list_at_most_16384}
use Rattle.contracts.specs.Contracts.{Changes}
use Rattle.demands.specs.Claims.{ListsChanges}
use Rattle.demands.proofs.Refusals.{no_refusal}

kept_of : (st : Store) (v : ℕ) → is_kept st v ≡ true → Kept st v
unfolding is_kept
kept_of st v e = (
  leb-true st.oldest v (and_left (leb st.oldest v) (leb v st.latest) e),
  leb-true v st.latest (and_right (leb st.oldest v) (leb v st.latest) e),
)

-- when a comparison of a sound store is accepted, and with what; it is never refused with 0
record Given (st : Store) (first second limit : ℕ) (xs : List Item) : Type 0 where
  a : Kept st first
  b : Kept st second
  few : visits_of st first second ≤ limit
  list : items (changes_of st first second) ≡ xs

same_list : {x y : List Item} → ◌≡◌ {A = Answer (List Item)} (accepted x) (accepted y) → x ≡ y
same_list e = cc

module _ (st : Store) (first second limit room : ℕ) where
  given : (xs : List Item) → (compare first second limit room st).answer ≡ accepted xs → Given st first second limit xs
  unfolding compare refuse
  given xs =
      go (is_kept st first) (is_kept st second) (ltb limit (visits_of st first second)) (ltb room (item_size * length (items (changes_of st first second))))
      refl refl refl
    where
      go : (a b c d : Bool) → is_kept st first ≡ a → is_kept st second ≡ b → ltb limit (visits_of st first second) ≡ c →
          (cond (a && b)
          (cond c (refuse 13 st) (cond d (refuse 9 st) (record { answer = accepted (items (changes_of st first second)); store = st })))
          (refuse 8 st)).answer ≡ accepted xs → Given st first second limit xs
      go false b c d e f g h = no_refusal (sym h)
      go true false c d e f g h = no_refusal (sym h)
      go true true true d e f g h = no_refusal (sym h)
      go true true false true e f g h = no_refusal (sym h)
      go true true false false e f g h = record {
        a = kept_of st first e;
        b = kept_of st second f;
        few = ltb-false limit (visits_of st first second) g;
        list = same_list h;
      }

  not_0 : (compare first second limit room st).answer ≡ refused 0 → ⊥
  unfolding compare refuse
  not_0 =
      go (is_kept st first) (is_kept st second) (ltb limit (visits_of st first second)) (ltb room (item_size * length (items (changes_of st first second))))
    where
      go : (a b c d : Bool) →
          (cond (a && b)
          (cond c (refuse 13 st) (cond d (refuse 9 st) (record { answer = accepted (items (changes_of st first second)); store = st })))
          (refuse 8 st)).answer ≡ refused 0 → ⊥
      go false b c d h = let z : ◌≡◌ {A = ℕ} 8 0 = cc in absurd (omega arith)
      go true false c d h = let z : ◌≡◌ {A = ℕ} 8 0 = cc in absurd (omega arith)
      go true true true d h = let z : ◌≡◌ {A = ℕ} 13 0 = cc in absurd (omega arith)
      go true true false true h = let z : ◌≡◌ {A = ℕ} 9 0 = cc in absurd (omega arith)
      go true true false false h = no_refusal h

-- An accepted comparison lists what changed.
pub accepted_comparison_lists_changes : (first second limit : ℕ) {s room f t g : Bytes} → Changes first second limit s room f 0 t g →
    ListsChanges first second limit s room t g
accepted_comparison_lists_changes first second limit {s} {room} {f} {t} {g} w = go w.answer w.does w.exported.number w.list w.exported.told
  where
    lists : (xs : List Item) → SoundBytes s → Given (store_of s) first second limit xs → t ≡ room_after list_bytes (accepted xs) room →
        g ≡ le 4 (length xs) → ListsChanges first second limit s room t g
    lists xs h u p q =
        let st = store_of s in record {
          sound = h;
          kept = (u.a, u.b);
          changes = changes_of st first second;
          what = list_is_what_changed leaf_hash inner_hash st h.sound first second u.a u.b;
          undoes = swapped_undoes leaf_hash inner_hash st h.sound first second u.a u.b;
          equal = λ e. ap (changes_of st first) (sym e) ∙ equal_versions_give_none leaf_hash inner_hash st h.sound first u.a;
          room_holds = p ∙ ap (λ ys. room_after list_bytes (accepted ys) room) (sym u.list);
          told = q ∙ ap (λ ys. le 4 (length ys)) (sym u.list);
          short = list_at_most_16384 leaf_hash inner_hash st h.sound first second u.a u.b;
          within = u.few;
          symmetric = visits_symmetric st first second;
          few = visits_at_most_32769 leaf_hash inner_hash st h.sound first second u.a u.b;
        }

    go : (x : Answer (List Item)) {y : Bytes} → Does (compare first second limit (length room)) s x y → 0 ≡ number_of x → t ≡ room_after list_bytes x room →
        g ≡ told_of (λ ys. le 4 (length ys)) x f → ListsChanges first second limit s room t g
    go (refused m) (not_checked c n) z p q = absurd (n (sym z))
    go (refused m) (refuses h e) z p q = absurd (not_0 (store_of s) first second limit (length room) (e ∙ ap refused (sym z)))
    go (accepted xs) (accepts h e) z p q = lists xs h (given (store_of s) first second limit (length room) xs e) p q
