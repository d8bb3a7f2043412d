-- Document 02, request 2026-10, over the contract: an accepted move leaves a sound store that answers as the source does, and moving it on gives
-- the source's bytes again. Assumes nothing.
use Prim.Native.Nat.{ℕ, ◌*◌}
use native.Mathlib.Omega.{arith}
use mathlib.Core.Path.{◌≡◌, refl, ap, ap₂, sym, ◌∙◌, subst}
use mathlib.Core.Bool.{Bool, true, false, cond, ◌&&◌}
use mathlib.Core.List.{List}
use lib.ListN.{length}
use lib.Dec.{leb, ltb}
use Rattle.terms.specs.declared.Form.{Form}
use Rattle.terms.specs.declared.Form.TheVariants.{Plain as plain, Counted as counted}
use Rattle.terms.specs.Bits.{Bytes, Byte, All}
use Rattle.terms.specs.Records.{free, Store}
use Rattle.terms.specs.Form.{FormedAs}
use Rattle.terms.proofs.Lists.{all_at}
use Rattle.meaning.specs.Tree.{VTree, grants_in}
use Rattle.meaning.specs.Store.{tree_at_version}
use Rattle.meaning.specs.Sound.{At, Sound}
use Rattle.meaning.specs.Calls.{Answer, refused, accepted, refuse, is_kept}
use Rattle.changed.specs.Changes.{Item, changed, items, item_size}
use Rattle.changed.specs.Visits.{visits}
use Rattle.changed.specs.Compare.{compare, changes_of, visits_of}
use Rattle.moved.specs.Moving.{counts_in, over, back}
use Rattle.moved.specs.Plain.{uncounted, Plain}
use Rattle.moved.proofs.Recounted.{length_anew}
use Rattle.moved.proofs.Theorems.{over_is_sound, back_is_sound, there_and_back, back_and_there, over_tree, back_tree, over_proof, back_proof, over_key_read, back_key_read, over_root_read, back_root_read}
use Rattle.nodehash.specs.Node.{leaf_hash, inner_hash}
use Rattle.layout.specs.Sizes.{room_of}
use Rattle.layout.specs.Headers.{header, header_of, size_right}
use Rattle.layout.specs.Slots.{SlotForm}
use Rattle.layout.specs.Stores.{store_in, store_bytes, StoreForm}
use Rattle.layout.proofs.Headers.{Accepted, room_of_lem, size_right_of}
use Rattle.layout.proofs.Headers as headers
use Rattle.layout.proofs.Stores.{store_accepted, store_said, store_size, store_room, slot_count, store_back, store_form}
use Rattle.move_rules.specs.Moves.{other, moved_from, SameRoom, Moves}
use Rattle.promises.specs.Calls.{SoundIn}
use Rattle.move_rules.specs.Claims.{Alike, Moved}
use Rattle.move_rules.proofs.Forms.{moved_form}
use Rattle.move_rules.proofs.Outcomes.{sound_is_moved, moved_leaves, moved_was_sound}

-- the answer of a comparison goes by the two trees and by what is kept
module _ (first second limit room : ℕ) where
  abbrev pub within : ℕ → ℕ → ℕ → Bool
  within o l v = leb o v && leb v l

  abbrev pub listed : VTree → VTree → List Item
  listed a b = items (changed (grants_in a) (grants_in b))

  abbrev pub compared_by : ℕ → ℕ → VTree → VTree → Answer (List Item)
  compared_by o l a b =
      cond (within o l first && within o l second)
      (cond (ltb limit (visits a b)) (refused 13) (cond (ltb room (item_size * length (listed a b))) (refused 9) (accepted (listed a b))))
      (refused 8)

  pub by_trees : (st : Store) →
      (compare first second limit room st).answer ≡ compared_by st.oldest st.latest (tree_at_version st first) (tree_at_version st second)
  unfolding compare changes_of visits_of is_kept refuse
  by_trees st =
      go (within st.oldest st.latest first && within st.oldest st.latest second) (ltb limit (visits (tree_at_version st first) (tree_at_version st second)))
      (ltb room (item_size * length (listed (tree_at_version st first) (tree_at_version st second)))) (listed (tree_at_version st first) (tree_at_version st second))
    where
      go : (x y z : Bool) (i : List Item) →
          (cond x (cond y (refuse 13 st) (cond z (refuse 9 st) (record { answer = accepted i; store = st }))) (refuse 8 st)).answer
          ≡ cond x (cond y (refused 13) (cond z (refused 9) (accepted i))) (refused 8)
      go true true z i = refl
      go true false true i = refl
      go true false false i = refl
      go false y z i = refl

  compared : (st st' : Store) → st'.oldest ≡ st.oldest → st'.latest ≡ st.latest → ((v : ℕ) → tree_at_version st' v ≡ tree_at_version st v) →
      (compare first second limit room st').answer ≡ (compare first second limit room st).answer
  compared st st' low high trees =
      by_trees st'
      ∙ ap₂ (λ o l. compared_by o l (tree_at_version st' first) (tree_at_version st' second)) low high
      ∙ ap₂ (compared_by st.oldest st.latest) (trees first) (trees second)
      ∙ sym (by_trees st)

module _ (st : Store) where
  pub over_alike : Alike st (over st)
  unfolding over
  over_alike = record {
    oldest = refl;
    latest = refl;
    slots = (counts_in st.slots, refl);
    trees = over_tree st;
    roots = λ v. over_root_read st v leaf_hash inner_hash;
    keys = over_key_read st;
    proofs = over_proof st;
    comparisons = λ f g l n. compared f g l n st (over st) refl refl (over_tree st);
  }

  pub back_alike : Alike st (back st)
  unfolding back
  back_alike = record {
    oldest = refl;
    latest = refl;
    slots = (uncounted, refl);
    trees = back_tree st;
    roots = λ v. back_root_read st v leaf_hash inner_hash;
    keys = back_key_read st;
    proofs = back_proof st;
    comparisons = λ f g l n. compared f g l n st (back st) refl refl (back_tree st);
  }

  pub moved_alike : (from : Form) → Alike st (moved_from from st)
  moved_alike plain = over_alike
  moved_alike counted = back_alike

  moved_many : (from : Form) → length (moved_from from st).slots ≡ length st.slots
  moved_many from = let a = (moved_alike from).slots in ap length a.1 ∙ length_anew a.0 st.slots

  moved_is_sound : (from : Form) → Sound leaf_hash inner_hash st → Sound leaf_hash inner_hash (moved_from from st)
  moved_is_sound plain w = over_is_sound leaf_hash inner_hash st w
  moved_is_sound counted w = back_is_sound leaf_hash inner_hash st w

  moved_is_other : (from : Form) → (moved_from from st).form ≡ other from
  unfolding over back
  moved_is_other plain = refl
  moved_is_other counted = refl

-- bytes of the plain form hold no counts
bare_bytes : {s : Bytes} {n o l : ℕ} → All Byte s → Accepted plain s n o l → Plain (store_in plain s)
unfolding At
bare_bytes {s} {n} {o} {l} b a = record {
  form = refl;
  bare = λ i r at. (subst (SlotForm plain) at.1 (all_at (SlotForm plain) (store_in plain s).slots free i (store_form s n o l b a).each at.0)).1;
}

-- moved on, a store is what it was
moved_twice : (from : Form) {s : Bytes} {n o l : ℕ} → All Byte s → Accepted from s n o l → Sound leaf_hash inner_hash (store_in from s) →
    moved_from (other from) (moved_from from (store_in from s)) ≡ store_in from s
moved_twice plain {s} b a w = there_and_back (store_in plain s) (bare_bytes b a)
moved_twice counted {s} b a w = back_and_there leaf_hash inner_hash (store_in counted s) refl w

twice_other : (from : Form) → other (other from) ≡ from
twice_other plain = refl
twice_other counted = refl

module _ {from : Form} {s t : Bytes} (b : All Byte s) (w : SoundIn from s) (left : t ≡ store_bytes (moved_from from (store_in from s))) where
  abbrev st : Store
  st = store_in from s

  abbrev new : Store
  new = moved_from from st

  was_accepted : Accepted from s w.capacity w.oldest w.latest
  was_accepted = headers.accepted s w.capacity w.oldest w.latest w.headed

  form : StoreForm new
  form = moved_form st w.sound from

  held : store_in (other from) t ≡ new
  held = ap (store_in (other from)) left ∙ subst (λ f. store_in f (store_bytes new) ≡ new) (moved_is_other st from) (store_said new form)

  now_sound : SoundIn (other from) t
  now_sound = record {
    capacity = length new.slots;
    oldest = new.oldest;
    latest = new.latest;
    headed = ap (header_of (other from)) left ∙ subst (λ f. header_of f (store_bytes new) ≡ header (length new.slots) new.oldest new.latest) (moved_is_other st from) (store_accepted new form);
    sound = subst (Sound leaf_hash inner_hash) (sym held) (moved_is_sound st from w.sound);
  }

  -- the target has the source's room
  again_room : {old₂ : Bytes} → length old₂ ≡ length s → SameRoom (other from) from t old₂
  again_room {old₂} e =
      let size : size_right (other from) (length t) ≡ true =
      ap (λ x. size_right (other from) (length x)) left ∙ subst (λ f. size_right f (length (store_bytes new)) ≡ true) (moved_is_other st from) (store_size new form)
      in
      let room : room_of (other from) (length t) ≡ length new.slots =
      ap (λ x. room_of (other from) (length x)) left ∙ subst (λ f. room_of f (length (store_bytes new)) ≡ length new.slots) (moved_is_other st from) (store_room new form)
      in
      let its : room_of from (length s) ≡ w.capacity = room_of_lem from (length s) w.capacity was_accepted.size in
      let right : size_right from (length s) ≡ true = size_right_of from (length s) w.capacity was_accepted.size was_accepted.some was_accepted.fits in
      record {
        source = size;
        target = ap (size_right from) e ∙ right;
        equal = room ∙ moved_many st from ∙ slot_count s w.capacity w.oldest w.latest b was_accepted ∙ sym its ∙ ap (room_of from) (sym e);
      }

  moved_again : {old₂ u : Bytes} {n : ℕ} → length old₂ ≡ length s → Moves (other from) t old₂ n u → (n ≡ 0) × (u ≡ s)
  moved_again {old₂} {u} {n} e x =
      let zero = sound_is_moved (subst (λ f. SameRoom (other from) f t old₂) (sym (twice_other from)) (again_room e)) now_sound x in (
        zero,
        moved_leaves x zero
            ∙ ap (λ y. store_bytes (moved_from (other from) y)) held
            ∙ ap store_bytes (moved_twice from b was_accepted w.sound)
            ∙ store_back s w.capacity w.oldest w.latest b was_accepted,
      )

-- An accepted move is worth what 02 says.
pub accepted_move_is_worth : {from : Form} {s old t : Bytes} → All Byte s → Moves from s old 0 t → Moved from s t
accepted_move_is_worth {from} {s} {old} {t} b x =
    let w = moved_was_sound x refl in
    let left = moved_leaves x refl in
    let is = held b w left in
    record {
      was = w;
      sound = now_sound b w left;
      bytes = left ∙ ap store_bytes (sym is);
      alike = subst (Alike (store_in from s)) (sym is) (moved_alike (store_in from s) from);
      again = moved_again b w left;
    }
