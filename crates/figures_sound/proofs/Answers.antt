-- What the figures answer, check by check: the range, the room, and the numbers. Assumes nothing.
use Prim.Native.Nat.{ℕ, suc, ◌+◌, ◌*◌, ◌-◌, ◌<◌, ◌≤◌}
use native.Mathlib.Omega.{arith}
use native.Mathlib.Nat.{zero-add}
use mathlib.Core.Path.{◌≡◌, refl, ap, ap₂, sym, ◌∙◌, subst}
use mathlib.Core.Bool.{Bool, true, false, cond}
use mathlib.Core.List.{List, [], ◌∷◌, ◌++◌}
use lib.ListN.{length, take, drop, length-take, length-drop}
use lib.Dec.{ltb}
use borrow.Author.Tests.{lt-ltb, le-ltb}
use Rattle.terms.specs.Bits.{Bytes, Byte, All}
use Rattle.terms.specs.Records.{Store}
use Rattle.meaning.specs.Calls.{Answer, refused, accepted, Result, refuse}
use Rattle.nodehash.specs.Node.{leaf_hash, inner_hash}
use Rattle.fields.specs.Written.{written}
use Rattle.fields.proofs.Written.{part_written}
use Rattle.layout.specs.Stores.{store_of, store_bytes}
use Rattle.promises.specs.Calls.{SoundBytes, Does, refuses, accepts}
use Rattle.promises.proofs.Calls.{sound_back}
use Rattle.quarter.specs.Figures.{range_right, Quarter, quarter_of, figures}
use Rattle.quarter.specs.Living.{living_records}
use Rattle.quarter.proofs.Theorems.{RangeRight, range_right_lem, living_counts}
use Rattle.figures_sound.specs.Figures.{Totals, totals, totals_of, Tells}
use Rattle.contracts.proofs.Rooms.{front_written}
use Rattle.figures_write.specs.Parts.{Range, Writes}

-- the front of the room
pub front_long : (end : ℕ) (room : Bytes) → end ≤ length room → length (take (end - 0) (drop 0 room)) ≡ end
front_long end room h = simp (length-take, length-drop) (omega arith)

module _ {s : Bytes} (w : SoundBytes s) (first last : ℕ) (room : Bytes) where
  abbrev st : Store
  st = store_of s

  refuse_with : {m : ℕ} → figures first last (length room) st ≡ refuse m st → Tells first last s room (refused m) room
  unfolding refuse
  refuse_with {m} e = record {
    answer = refused m;
    does = refuses w (ap (λ (o : Result Quarter). o.answer) e);
    says = refl;
    bytes = refl;
  }

  -- 8
  pub out_of_range : range_right st first last ≡ false → Tells first last s room (refused 8) room
  unfolding figures
  out_of_range e = refuse_with is_8
    where
      is_8 : figures first last (length room) st ≡ refuse 8 st
      is_8 = rw e refl

  module _ (r : range_right st first last ≡ true) {end : ℕ} (long : end ≡ 16 * (last - first + 1)) where
    range : RangeRight st first last
    range = range_right_lem st first last r

    size : end ≡ 16 * (suc last - first)
    size = omega (arith, long, range.ordered)

    -- 9
    pub no_room : length room < end → Tells first last s room (refused 9) room
    unfolding figures
    no_room h = refuse_with is_9
      where
        is_9 : figures first last (length room) st ≡ refuse 9 st
        is_9 = rw (r, lt-ltb (length room) (16 * (suc last - first)) (omega (arith, size))) refl

    module _ (fits : end ≤ length room) where
      pub part_ready : {part : Bytes} → length part ≡ end → Range first last s part
      part_ready l = record { sound = w; right = r; long = l ∙ size }

      -- the numbers
      pub told : All Byte s → {d n : ℕ} {y : Bytes} → Writes first last s n y → length y ≡ end → d ≡ living_records first last st.slots →
          Tells first last s room (accepted (totals d n)) (take 0 room ++ (y ++ drop (end - 0) (drop 0 room)))
      unfolding quarter_of figures
      told b {d} {n} {y} v l e = record {
        answer = accepted (quarter_of st first last);
        does =
            subst (Does (figures first last (length room)) s (accepted (quarter_of st first last)))
            (ap (λ (o : Result Quarter). store_bytes o.store) it_fits ∙ sound_back w b) (accepts w (ap (λ (o : Result Quarter). o.answer) it_fits));
        says = ap₂ (λ x z. accepted (totals x z)) (e ∙ (living_counts st first last leaf_hash inner_hash w.sound r).1) v.count;
        bytes = part_written 0 end y room (zero-add (length y) ∙ l) ∙ ap (λ z. written 0 z room) v.bytes ∙ front_written _ room;
      }
        where
          it_fits : figures first last (length room) st ≡ record { answer = accepted (quarter_of st first last); store = st }
          it_fits = rw (r, le-ltb (length room) (16 * (suc last - first)) (omega (arith, size, fits))) refl

pub refused_by_check : {first last m : ℕ} {s room : Bytes} → Does (figures first last (length room)) s (refused m) s → Tells first last s room (refused m) room
refused_by_check {m = m} d = record { answer = refused m; does = d; says = refl; bytes = refl }
