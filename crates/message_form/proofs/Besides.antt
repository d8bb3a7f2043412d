-- A neighbour where it stands, and what follows of it for the places in the whole message. Assumes nothing.
use Prim.Native.Nat.{ℕ, ◌+◌, ◌*◌, ◌-◌, ◌<◌, ◌≤◌}
use native.Mathlib.Omega.{arith}
use Rattle.std.specs.declared.option.Option as option
use Rattle.std.specs.Prelude.{Some, None}
use mathlib.Core.Path.{◌≡◌, refl, ap, sym, ◌∙◌, subst}
use mathlib.Core.List.{[], ◌∷◌, ◌++◌}
use mathlib.Core.Option.{Option, none, some}
use lib.ListN.{length, get_or, take, drop, length-take, length-drop, drop_of_length-le}
use lib.Seq.{length-take-le, take_all}
use borrow.Author.Tests.{eq-eqb, ne_eqb}
use Rattle.terms.specs.Bits.{Bytes, Byte, All}
use Rattle.terms.specs.Fields.{slice}
use Rattle.terms.specs.Records.{Presence}
use Rattle.terms.proofs.Lists.{all_take, all_drop, drop_take}
use Rattle.messages.specs.Wire.{message_field}
use Rattle.messages.specs.Message.{existence}
use Rattle.messages.specs.Raws.{RawPresence}
use Rattle.messages.specs.Reading.{onward, existence_in, neighbour_from, field_from}
use Rattle.messages.specs.Spots.{field_head}
use Rattle.messages.proofs.Wires.{Near}
use Rattle.messages.proofs.Back.{existence_said}
use Rattle.proofrecords.proofs.Lying.{first_at}
use Rattle.message_fields.specs.declared.Part.{Part}
use Rattle.message_fields.specs.Standing.{Stands}
use Rattle.message_leaf.specs.declared.Shown.{Shown}
use Rattle.message_leaf.specs.Shown.{between, presence_at, shown_in, Shows, Inside}
use Rattle.message_leaf.proofs.Heads.{Placed, placed}
use Rattle.message_form.specs.declared.Neighbour.{Neighbour}
use Rattle.message_form.specs.Said.{Held, HeldOr, neighbour_in, Beside, Neighbours}

-- the neighbour that was read, and none
the_neighbour : {b d : Neighbour} → ◌≡◌ {A = option.Option Neighbour} (Some b) (Some d) → b ≡ d
the_neighbour e = cc

no_neighbour : {A : Type 0} {b : Neighbour} → ◌≡◌ {A = option.Option Neighbour} None (Some b) → A
no_neighbour e = absurd (let z : ◌≡◌ {A = ℕ} 0 1 = cc in omega arith)

-- an existence proof is there
some_shown : {A : Type 0} {s : Shown} → ◌≡◌ {A = option.Option Shown} (Some s) None → A
some_shown e = absurd (let z : ◌≡◌ {A = ℕ} 0 1 = cc in omega arith)

pub neighbours_as : {n : ℕ} {x : Bytes} {at : ℕ} {r o : option.Option Neighbour} → r ≡ o → Neighbours n x at r → Neighbours n x at o
neighbours_as {n} {x} {at} e s = subst (Neighbours n x at) e s

-- the bytes of a part are what is left of the bytes up to its end
pub up_to : (from end : ℕ) (x : Bytes) → from ≤ end → end ≤ length x → drop from (take end x) ≡ between from end x
unfolding slice
up_to from end x h l = drop_take from end x

-- an existence proof in a field that ends the bytes is held there
pub held : {n : ℕ} {x : Bytes} {at end : ℕ} {part : Part} {s : Shown} → Near n → All Byte x → Stands n x at (Some part) → part.to ≡ end →
    Shows (take end x) part.from (Some s) → Held n (take end x) at s
held {n} {x} {at} {end} {part} {s} near bytes f to shows =
    let i = f.inside part refl in
    let y = take end x in
    let p = presence_at y s in
    let is : existence_in (drop part.from y) ≡ some p = shows.is in
    let said = existence_said (drop part.from y) p (all_drop Byte part.from y (all_take Byte end x bytes)) is in
    let same : existence p ≡ between part.from part.to x =
    said.is ∙ ap (λ k. drop part.from (take k x)) (sym to) ∙ up_to part.from part.to x i.1 i.2 in
    let at_is = placed near bytes f in
    let long : length y ≡ end = length-take-le end x (omega (arith, i.2)) in record {
      start = part.from;
      start_is = at_is.begins ∙ ap (λ b. at + length (field_head n b)) (sym same);
      end_is = long ∙ sym to ∙ at_is.ends ∙ ap (λ b. at + length (message_field n b)) (sym same);
      inside = shows.inside s refl;
      raw = said.raw;
      count_is_lem = shows.count_is_lem s refl;
    }

-- nobody is there
nobody_from : (n : ℕ) (x : Bytes) (at : ℕ) → (get_or x at 0 ≡ 8 * n + 2 → ⊥) → neighbour_from n (drop at x) ≡ some (none, drop at x)
unfolding neighbour_from
nobody_from n x at k = rw (first_at at x, ne_eqb (get_or x at 0) (8 * n + 2) k)

pub neighbours_none : {n : ℕ} {x : Bytes} {at : ℕ} → at ≤ length x → (get_or x at 0 ≡ 8 * n + 2 → ⊥) →
    Neighbours n x at (Some (record { next = at; shown = None }))
neighbours_none {n} {x} {at} l k =
    let so : Beside n x at (record { next = at; shown = None }) = record { inside = (omega arith, l); next_is = λ _. refl; held = tt } in
    record { is = nobody_from n x at k; so = λ b e. subst (Beside n x at) (the_neighbour e) so }

-- bytes past the end read as 0
pub past_end : (n : ℕ) (x : Bytes) (at : ℕ) → length x ≤ at → get_or x at 0 ≡ 8 * n + 2 → ⊥
past_end n x at l e = omega (arith, sym (first_at at x) ∙ ap (λ m. get_or {A = ℕ} m 0 0) (drop_of_length-le x {i = at} l))

broken : {n : ℕ} {x : Bytes} {at : ℕ} → neighbour_from n (drop at x) ≡ none → Neighbours n x at None
broken is = record { is = is; so = λ b. no_neighbour }

module _ {n : ℕ} {x : Bytes} {at : ℕ} (k : get_or x at 0 ≡ 8 * n + 2) where
  no_field_from : Stands n x at None → neighbour_from n (drop at x) ≡ none
  unfolding neighbour_from onward
  no_field_from f = rw (first_at at x, eq-eqb (get_or x at 0) (8 * n + 2) k, f.is)

  pub neighbours_no_field : Stands n x at None → Neighbours n x at None
  neighbours_no_field f = broken (no_field_from f)

  module _ {part : Part} (f : Stands n x at (Some part)) where
    inner_is : {o : option.Option Shown} → Shows (take part.to x) part.from o → existence_in (between part.from part.to x) ≡ shown_in (take part.to x) o
    inner_is shows = let i = f.inside part refl in ap existence_in (sym (up_to part.from part.to x i.1 i.2)) ∙ shows.is

    none_from : Shows (take part.to x) part.from None → neighbour_from n (drop at x) ≡ none
    unfolding neighbour_from onward
    none_from shows = rw (first_at at x, eq-eqb (get_or x at 0) (8 * n + 2) k, f.is, inner_is shows)

    pub neighbours_no_proof : Shows (take part.to x) part.from None → Neighbours n x at None
    neighbours_no_proof shows = broken (none_from shows)

    module _ {s : Shown} (shows : Shows (take part.to x) part.from (Some s)) where
      some_from : neighbour_from n (drop at x) ≡ some (some (presence_at (take part.to x) s), drop part.to x)
      unfolding neighbour_from onward
      some_from = rw (first_at at x, eq-eqb (get_or x at 0) (8 * n + 2) k, f.is, inner_is shows)

      pub neighbours_there : Near n → All Byte x → Neighbours n x at (Some (record { next = part.to; shown = Some s }))
      neighbours_there near bytes =
          let i = f.inside part refl in
          let so : Beside n x at (record { next = part.to; shown = Some s }) = record {
            inside = (omega (arith, i.0, i.1), i.2);
            next_is = some_shown;
            held = held near bytes f refl shows;
          } in
          record { is = some_from; so = λ b e. subst (Beside n x at) (the_neighbour e) so }
