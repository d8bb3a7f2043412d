-- What a comparison of two kept versions answers, check by check: the visits within the limit, the list within the room. In a sound store the
-- walk makes the definition's visits and lists what changed. Assumes nothing.
use Prim.Native.Nat.{ℕ, suc, ◌+◌, ◌*◌, ◌-◌, ◌/◌, ◌<◌, ◌≤◌}
use native.Mathlib.Omega.{arith}
use mathlib.Core.Path.{◌≡◌, refl, ap, ap₂, sym, ◌∙◌, subst}
use mathlib.Core.Bool.{Bool, true, false, cond, ◌&&◌, true≢false}
use mathlib.Core.List.{List, [], ◌∷◌}
use lib.ListN.{length}
use lib.Dec.{leb, ltb}
use borrow.Author.Tests.{leb-true, lt-ltb, le-ltb}
use Rattle.terms.specs.declared.Form.TheVariants.{Counted as counted}
use Rattle.terms.specs.Bits.{Bytes, Byte, All}
use Rattle.terms.specs.Records.{Store}
use Rattle.terms.proofs.Tests.{and_left, and_right}
use Rattle.meaning.specs.Tree.{VTree, grants_in}
use Rattle.meaning.specs.Store.{tree_at_version}
use Rattle.meaning.specs.Sound.{Sound, Kept}
use Rattle.meaning.specs.Calls.{Answer, refused, accepted, Result, refuse, is_kept}
use Rattle.histories.proofs.Whole.{Whole, sound_whole}
use Rattle.nodehash.specs.Node.{leaf_hash, inner_hash}
use Rattle.place.specs.declared.Place as place
use Rattle.place.specs.Place as places
use Rattle.fields.specs.Written.{written}
use Rattle.layout.specs.Headers.{size_right, header_of, header}
use Rattle.layout.specs.Stores.{store_of, store_bytes}
use Rattle.layout.proofs.Headers.{accepted as header-accepted, size_right_of}
use Rattle.promises.specs.Calls.{SoundBytes, Does, refuses, accepts}
use Rattle.promises.proofs.Calls.{sound_back}
use Rattle.changed.specs.Changes.{Item, items, item_size, list_bytes}
use Rattle.changed.specs.Compare.{changes_of, visits_of, compare}
use Rattle.changed.specs.Walk.{visits_at, listed}
use Rattle.changed.proofs.Visits.{visits_count}
use Rattle.changed.proofs.Walk.{stands_sits, listed_changed}
use Rattle.changed.proofs.Ends.{listed_few}
use Rattle.changed.proofs.Theorems.{visits_at_most_32769}
use Rattle.changes_guess.specs.Apart.{Apart}
use Rattle.changes_top.specs.declared.Top as top
use Rattle.changes_top.specs.Tops.{top_tree, TopSays}
use Rattle.changes_put.specs.Puts.{put_into}
use Rattle.changes_walk.specs.declared.Walked as walked
use Rattle.changes_walk.specs.declared.Walked.TheVariants.{Passed, Done}
use Rattle.changes_walk.specs.Walk.{visits_here, items_here, Here, Goes, WalkSays}
use Rattle.contracts.proofs.Rooms.{front_written}
use Rattle.changes_kept.specs.Parts.{count_of, Compares}

-- the definition, check by check
module _ (first second limit room : ℕ) (st : Store) where
  module _ (a : is_kept st first ≡ true) (b : is_kept st second ≡ true) where
    too_many : limit < visits_of st first second → compare first second limit room st ≡ refuse 13 st
    unfolding compare
    too_many l = rw (a, b, lt-ltb limit (visits_of st first second) l)

    module _ (few : visits_of st first second ≤ limit) where
      too_long : room < item_size * length (items (changes_of st first second)) → compare first second limit room st ≡ refuse 9 st
      unfolding compare
      too_long l = rw (a, b, le-ltb limit (visits_of st first second) few, lt-ltb room (item_size * length (items (changes_of st first second))) l)

      it_fits : item_size * length (items (changes_of st first second)) ≤ room →
          compare first second limit room st ≡ record { answer = accepted (items (changes_of st first second)); store = st }
      unfolding compare
      it_fits l = rw (a, b, le-ltb limit (visits_of st first second) few, le-ltb room (item_size * length (items (changes_of st first second))) l)

kept_says : (st : Store) (v : ℕ) → is_kept st v ≡ true → Kept st v
unfolding is_kept
kept_says st v e =
    (leb-true st.oldest v (and_left (leb st.oldest v) (leb v st.latest) e), leb-true v st.latest (and_right (leb st.oldest v) (leb v st.latest) e))

module _ {s : Bytes} (w : SoundBytes s) where
  pub sound_size : size_right counted (length s) ≡ true
  sound_size = let h = header-accepted s w.capacity w.oldest w.latest w.headed in size_right_of counted (length s) w.capacity h.size h.some h.fits

  sound_apart : Apart (store_of s)
  unfolding Apart
  sound_apart = w.sound.unique

  module _ (first second limit : ℕ) (room : Bytes) where
    abbrev st : Store
    st = store_of s

    pub refuse_with : {m : ℕ} {left : Bytes} → compare first second limit (length room) st ≡ refuse m st → left ≡ room →
        Compares first second limit s room (refused m) left
    unfolding refuse
    refuse_with {m} e f = record {
      answer = refused m;
      does = refuses w (ap (λ (o : Result (List Item)). o.answer) e);
      says = refl;
      bytes = f;
    }

    module _ (a : is_kept st first ≡ true) (b : is_kept st second ≡ true) {p : place.Place} (empty : places.Stands [] 0 p) {x y : top.Top}
        (tx : TopSays s p (tree_at_version st first) x) (ty : TopSays s p (tree_at_version st second) y) where
      abbrev whole : Whole leaf_hash inner_hash st
      whole = sound_whole leaf_hash inner_hash st w.sound

      n_is : 256 - p.count ≡ 256
      n_is = omega (arith, empty.count)

      -- the walk makes the visits and lists what changed
      visits_are : visits_here s p x y ≡ visits_of st first second
      unfolding visits_here visits_of
      visits_are =
          ap (λ n. visits_at n (top_tree s p x) (top_tree s p y)) n_is
          ∙ ap₂ (visits_at 256) tx.tree ty.tree
          ∙ sym (visits_count (tree_at_version st first) (tree_at_version st second))

      items_are : items_here s p x y ≡ items (changes_of st first second)
      unfolding items_here changes_of
      items_are =
          ap items
          (ap₂ (λ n k. listed n k (top_tree s p x) (top_tree s p y)) n_is empty.count
          ∙ ap₂ (listed 256 0) tx.tree ty.tree
          ∙ listed_changed leaf_hash inner_hash st whole.formed 256 [] (tree_at_version st first) (tree_at_version st second) refl
          (stands_sits leaf_hash inner_hash st whole.formed [] (tree_at_version st first) (whole.stands first (kept_says st first a)))
          (stands_sits leaf_hash inner_hash st whole.formed [] (tree_at_version st second) (whole.stands second (kept_says st second b))))

      few_visits : visits_of st first second ≤ 32769
      few_visits = visits_at_most_32769 leaf_hash inner_hash st w.sound first second (kept_says st first a) (kept_says st second b)

      few_items : length (items_here s p x y) ≤ 2 * visits_here s p x y
      unfolding items_here visits_here
      few_items = listed_few (256 - p.count) p.count (top_tree s p x) (top_tree s p y)

      here : Here s p x y
      here = record { size = sound_size; apart = sound_apart; proper = empty.proper; old = tx.right; new = ty.right }

      pub may_count : limit < 4294967296 → Goes s p x y limit false room 0
      may_count l = record {
        here = here;
        enough = λ e. absurd (true≢false (sym e));
        within = λ e. absurd (true≢false (sym e));
        small = omega arith;
      }

      pub limit_passed : (left : Bytes) → WalkSays s p x y limit false room 0 Passed left → Compares first second limit s room (refused 13) left
      limit_passed left q = refuse_with (too_many first second limit (length room) st a b (omega (arith, q.0, visits_are))) q.1

      module _ (rest n : ℕ) (left : Bytes) (q : WalkSays s p x y limit false room 0 (Done rest n) left) where
        few : visits_of st first second ≤ limit
        few = omega (arith, q.0, visits_are)

        count_is_lem : n ≡ length (items (changes_of st first second))
        count_is_lem = omega (arith, q.1, ap (length {A = Item}) items_are)

        pub list_small : n < 4294967296
        list_small = omega (arith, q.1, few_items, visits_are, few_visits)

        pub list_too_long : length left / 72 < n → Compares first second limit s room (refused 9) left
        list_too_long l =
            refuse_with (too_long first second limit (length room) st a b few (omega (arith, count_is_lem, ap length q.2))) q.2

        module _ (fits : length left / 72 < n → ⊥) (l : limit < 4294967296) where
          pub may_write : Goes s p x y limit true left 0
          may_write = record {
            here = here;
            enough = λ e. omega (arith, q.0);
            within = λ e. omega (arith, q.1);
            small = omega arith;
          }

          pub list_written : (z : walked.Walked) (last : Bytes) → WalkSays s p x y limit true left 0 z last →
              All Byte s → Compares first second limit s room (accepted n) last
          list_written Passed last u h = absurd (omega (arith, u.0, q.0))
          list_written (Done k i) last u h =
              let e = it_fits first second limit (length room) st a b few (omega (arith, count_is_lem, ap length q.2)) in
              record {
                answer = accepted (items (changes_of st first second));
                does =
                    subst (Does (compare first second limit (length room)) s (accepted (items (changes_of st first second))))
                    (ap (λ (o : Result (List Item)). store_bytes o.store) e ∙ sound_back w h)
                    (accepts w (ap (λ (o : Result (List Item)). o.answer) e));
                says = ap accepted count_is_lem;
                bytes =
                    u.2
                    ∙ ap₂ (λ xs f. put_into true 0 (list_bytes xs) f) items_are q.2
                    ∙ front_written (list_bytes (items (changes_of st first second))) room;
              }
