-- An absence with its neighbours, and what a whole message says, where they stand. Assumes nothing.
use Prim.Native.Nat.{ℕ, ◌+◌, ◌*◌, ◌-◌, ◌<◌, ◌≤◌}
use native.Mathlib.Omega.{arith}
use Rattle.std.specs.declared.option.Option as option
use Rattle.std.specs.Prelude.{Some, None, is_some}
use mathlib.Core.Path.{◌≡◌, refl, ap, sym, ◌∙◌, subst}
use mathlib.Core.Bool.{Bool, true, false, not, ◌||◌}
use mathlib.Core.List.{[], ◌∷◌, ◌++◌}
use mathlib.Core.Option.{Option, none, some}
use lib.ListN.{length, get_or, take, drop, length-drop}
use lib.Seq.{take_all}
use lib.Dec.{eqb}
use borrow.Author.Tests.{eq-eqb, ne_eqb}
use Rattle.terms.specs.Bits.{Bytes, Byte, All}
use Rattle.terms.specs.Fields.{slice, all_of}
use Rattle.terms.specs.Records.{Presence, Absence, Proof, presence, absence}
use Rattle.terms.proofs.Lists.{all_drop}
use Rattle.messages.specs.Wire.{message_field}
use Rattle.messages.specs.Message.{nonexistence}
use Rattle.messages.specs.Reading.{Front, onward, only_if, field_from, length_right, existence_in, neighbour_from, somebody, nonexistence_in, field_alone, message_in}
use Rattle.messages.specs.Spots.{field_head}
use Rattle.messages.proofs.Back.{nonexistence_said}
use Rattle.message_fields.specs.declared.Part.{Part}
use Rattle.message_fields.specs.Standing.{Stands}
use Rattle.message_leaf.specs.declared.Shown.{Shown}
use Rattle.message_leaf.specs.Shown.{between, presence_at, shown_in, Shows}
use Rattle.message_leaf.proofs.Heads.{placed}
use Rattle.message_form.specs.declared.Neighbour.{Neighbour}
use Rattle.message_form.specs.declared.Absent.{Absent}
use Rattle.message_form.specs.declared.Said.{Said}
use Rattle.message_form.specs.declared.Said.TheVariants.{Presence as isPresent, Absence as isAbsent}
use Rattle.message_form.specs.Said.{Held, HeldOr, Beside, Neighbours, absent_at, absent_in, Follow, neighbours_from, Follows, AbsentIn, Absents, rest_in, Alone, AbsentHeld, Says}
use Rattle.message_form.proofs.Besides.{held}

onward_nothing : {A B : Type 0} (o : Option A) (f : A → Option B) → ((a : A) → f a ≡ none) → onward o f ≡ none
unfolding onward
onward_nothing none f h = refl
onward_nothing (some a) f h = h a

failed_second : (t : Bool) → all_of (t ∷ false ∷ []) ≡ false
unfolding all_of
failed_second false = refl
failed_second true = refl

somebody_is : (x y : Bytes) (s t : option.Option Shown) → somebody (shown_in x s) (shown_in y t) ≡ is_some s || is_some t
somebody_is x y None None = refl
somebody_is x y None (Some t) = refl
somebody_is x y (Some s) t = refl

whole : (x : Bytes) (n : ℕ) → n ≡ length x → take n x ≡ x
whole x n e = take_all n x (omega arith)

pub neither_there : {a b c d : Bool} → a ≡ not c → c ≡ true → b ≡ not d → d ≡ true → a || b ≡ false
neither_there e f g h = rw (e ∙ ap not f, g ∙ ap not h)

-- the absence that was read, and none
the_absent : {a b : Absent} → ◌≡◌ {A = option.Option Absent} (Some a) (Some b) → a ≡ b
the_absent e = cc

no_absent : {A : Type 0} {a : Absent} → ◌≡◌ {A = option.Option Absent} None (Some a) → A
no_absent e = absurd (let z : ◌≡◌ {A = ℕ} 0 1 = cc in omega arith)

pub follows_none : {x : Bytes} {key at : ℕ} → neighbours_from (between key at x) (drop at x) ≡ none → Follows x key at None
follows_none e = record { is = e; so = λ a. no_absent }

module _ (key : ℕ) {x : Bytes} {at : ℕ} where
  pub no_left : Neighbours 2 x at None → neighbours_from (between key at x) (drop at x) ≡ none
  unfolding neighbours_from onward
  no_left left = rw left.is

  module _ {l : Neighbour} (left : Neighbours 2 x at (Some l)) where
    pub no_right : Neighbours 3 x l.next None → neighbours_from (between key at x) (drop at x) ≡ none
    unfolding neighbours_from onward
    no_right right = rw (left.is, right.is)

    module _ {r : Neighbour} (right : Neighbours 3 x l.next (Some r)) where
      some_over : (r.next ≡ length x → ⊥) → length (drop r.next x) ≡ 0 → ⊥
      some_over e z = let i = (right.so r refl).inside.1 in e (omega (arith, z, length-drop r.next x))

      pub bytes_over : (r.next ≡ length x → ⊥) → neighbours_from (between key at x) (drop at x) ≡ none
      unfolding neighbours_from onward only_if
      bytes_over e =
          rw (
            left.is,
            right.is,
            ne_eqb (length (drop r.next x)) 0 (some_over e),
            failed_second (somebody (shown_in (take l.next x) l.shown) (shown_in (take r.next x) r.shown)),
          )

      there_is : somebody (shown_in (take l.next x) l.shown) (shown_in (take r.next x) r.shown) ≡ is_some l.shown || is_some r.shown
      there_is = somebody_is (take l.next x) (take r.next x) l.shown r.shown

      pub nobody_there : is_some l.shown || is_some r.shown ≡ false → neighbours_from (between key at x) (drop at x) ≡ none
      unfolding neighbours_from onward only_if all_of
      nobody_there e = rw (left.is, right.is, there_is ∙ e)

      absent_is : r.next ≡ length x → is_some l.shown || is_some r.shown ≡ true →
          neighbours_from (between key at x) (drop at x)
          ≡ some (record { key = between key at x; leftward = shown_in (take l.next x) l.shown; rightward = shown_in (take r.next x) r.shown })
      unfolding neighbours_from onward only_if all_of
      absent_is e t =
          rw (left.is, right.is, there_is ∙ t, eq-eqb (length (drop r.next x)) 0 (simp length-drop (omega arith)))

      abbrev absent : Absent
      absent = record { key = key; kstop = at; middle = l.next; left = l.shown; right = r.shown }

      pub follows_there : r.next ≡ length x → is_some l.shown || is_some r.shown ≡ true → Follows x key at (Some absent)
      follows_there e t =
          let i = left.so l refl in
          let so : Follow x key at absent = record {
            key_is = refl;
            kstop_is = refl;
            middle_inside = i.inside;
            middle_is = i.next_is;
            left_held = i.held;
            right_held = subst (λ y. HeldOr 3 y l.next r.shown) (whole x r.next e) (right.so r refl).held;
          } in
          record {
            is =
                absent_is e t
                ∙ ap (λ y. some (record { key = between key at x; leftward = shown_in (take l.next x) l.shown; rightward = shown_in y r.shown })) (whole x r.next e);
            so = λ a w. subst (Follow x key at) (the_absent w) so;
          }

-- the whole non-existence proof
pub absents_none : {x : Bytes} {at : ℕ} → nonexistence_in (drop at x) ≡ none → Absents x at None
absents_none e = record { is = e; so = λ a. no_absent }

pub absents_as : {x : Bytes} {at : ℕ} {r o : option.Option Absent} → r ≡ o → Absents x at r → Absents x at o
absents_as {x} {at} e s = subst (Absents x at) e s

module _ {x : Bytes} {at : ℕ} where
  pub no_key : Stands 1 x at None → nonexistence_in (drop at x) ≡ none
  unfolding nonexistence_in onward
  no_key s = rw s.is

  module _ {part : Part} (s : Stands 1 x at (Some part)) where
    pub key_wrong : length_right 256 (between part.from part.to x) ≡ false → nonexistence_in (drop at x) ≡ none
    unfolding nonexistence_in onward only_if all_of
    key_wrong k =
        rw (s.is, k)
        (onward_nothing (neighbour_from 2 (drop part.to x)) _ (λ l. onward_nothing (neighbour_from 3 l.1) _ (λ r. refl)))

    key_right : length_right 256 (between part.from part.to x) ≡ true →
        nonexistence_in (drop at x) ≡ neighbours_from (between part.from part.to x) (drop part.to x)
    unfolding nonexistence_in onward only_if all_of neighbours_from
    key_right k = rw (s.is, k)

    pub absents_there : All Byte x → length_right 256 (between part.from part.to x) ≡ true → {r : option.Option Absent} → Follows x part.from part.to r → Absents x at r
    absents_there bytes k {r} follows =
        let i = s.inside part refl in
        let p = placed {n = 1} (omega arith) bytes s in record {
          is = key_right k ∙ follows.is;
          so = λ a g.
              let f = follows.so a g in
              let u = f.key_is in
              let v = f.kstop_is in record {
                key_inside = (omega (arith, i.0), omega (arith, i.1), omega (arith, i.2));
                key_at = rw (u, v) p.begins;
                key_ends = rw (u, v) p.ends;
                follow = subst (λ w. Follow x w a.kstop a) (sym u) (subst (λ w. Follow x part.from w a) (sym v) f);
              };
        }

-- a field that is all of a message
no_start : {A : Type 0} {n : ℕ} → ◌≡◌ {A = option.Option ℕ} None (Some n) → A
no_start e = absurd (let z : ◌≡◌ {A = ℕ} 0 1 = cc in omega arith)

that_start : {n k : ℕ} → ◌≡◌ {A = option.Option ℕ} (Some n) (Some k) → n ≡ k
that_start e = cc

nothing_alone : {n : ℕ} {m : Bytes} → field_alone n m ≡ none → Alone n m None
nothing_alone e = record { is = e; stands = λ from. no_start }

pub alone_as : {n : ℕ} {m : Bytes} {r o : option.Option ℕ} → r ≡ o → Alone n m r → Alone n m o
alone_as {n} {m} e s = subst (Alone n m) e s

none_alone : {n : ℕ} {m : Bytes} → Stands n m 0 None → field_alone n m ≡ none
unfolding field_alone onward
none_alone s = rw s.is

pub alone_none : {n : ℕ} {m : Bytes} → Stands n m 0 None → Alone n m None
alone_none s = nothing_alone (none_alone s)

rest_is : (from to : ℕ) (m : Bytes) → from ≤ to → to ≡ length m → between from to m ≡ drop from m
unfolding slice
rest_is from to m h f = take_all (to - from) (drop from m) (simp length-drop (omega arith))

module _ {n : ℕ} {m : Bytes} {part : Part} (s : Stands n m 0 (Some part)) where
  some_over_field : (part.to ≡ length m → ⊥) → length (drop part.to m) ≡ 0 → ⊥
  some_over_field f z = let i = (s.inside part refl).2 in f (omega (arith, z, length-drop part.to m))

  over_alone : (part.to ≡ length m → ⊥) → field_alone n m ≡ none
  unfolding field_alone onward only_if
  over_alone f = rw (s.is, ne_eqb (length (drop part.to m)) 0 (some_over_field f))

  pub alone_over : (part.to ≡ length m → ⊥) → Alone n m None
  alone_over f = nothing_alone (over_alone f)

  alone_is : part.to ≡ length m → field_alone n m ≡ some (drop part.from m)
  unfolding field_alone onward only_if
  alone_is f =
      let i = (s.inside part refl).1 in
      rw (s.is, eq-eqb (length (drop part.to m)) 0 (simp length-drop (omega arith)), rest_is part.from part.to m i f)

  pub alone_there : part.to ≡ length m → Alone n m (Some part.from)
  alone_there f = record {
    is = alone_is f;
    stands = λ from e.
        subst (λ k. Stands n m 0 (Some (record { from = k; to = length m }))) (that_start e)
        (subst (λ k. Stands n m 0 (Some (record { from = part.from; to = k }))) f s);
  }

nothing_onward : {A B : Type 0} {o : Option A} (f : A → Option B) → o ≡ none → onward o f ≡ none
unfolding onward
nothing_onward f e = rw e

some_onward : {A B : Type 0} {o : Option A} (f : A → Option B) {a : A} → o ≡ some a → onward o f ≡ f a
unfolding onward
some_onward f e = rw e

-- the whole message, by its first byte
pub says_nothing : (m : Bytes) → length m ≡ 0 → Says m None
unfolding message_in onward field_alone
says_nothing [] l = record { is = refl; placed = tt }
says_nothing (b ∷ m) l = absurd (omega arith)

presence_first : (m : Bytes) → get_or m 0 0 ≡ 10 → message_in m ≡ (onward (field_alone 1 m) λ x. onward (existence_in x) λ p. some (presence p))
unfolding message_in
presence_first m k = rw k

absence_first : (m : Bytes) → (get_or m 0 0 ≡ 10 → ⊥) → message_in m ≡ (onward (field_alone 2 m) λ x. onward (nonexistence_in x) λ a. some (absence a))
unfolding message_in
absence_first m k = rw (ne_eqb (get_or m 0 0) 10 k)

module _ {m : Bytes} (k : get_or m 0 0 ≡ 10) where
  pub no_presence : Alone 1 m None → Says m None
  no_presence s = record { is = presence_first m k ∙ nothing_onward _ s.is; placed = tt }

  module _ {from : ℕ} (s : Alone 1 m (Some from)) where
    pub presence_off : Shows m from None → Says m None
    presence_off shows = record { is = presence_first m k ∙ some_onward _ s.is ∙ nothing_onward _ shows.is; placed = tt }

    pub presence_said : All Byte m → {shown : Shown} → Shows m from (Some shown) → Says m (Some (isPresent shown))
    presence_said bytes {shown} shows =
        let w = whole m (length m) refl in
        record {
          is = presence_first m k ∙ some_onward _ s.is ∙ some_onward _ shows.is;
          placed =
              subst (λ y. Held 1 y 0 shown) w
              (held (omega arith) bytes (s.stands from refl) refl (subst (λ y. Shows y from (Some shown)) (sym w) shows));
        }

module _ {m : Bytes} (k : get_or m 0 0 ≡ 10 → ⊥) where
  pub no_absence : Alone 2 m None → Says m None
  no_absence s = record { is = absence_first m k ∙ nothing_onward _ s.is; placed = tt }

  module _ {from : ℕ} (s : Alone 2 m (Some from)) where
    pub absence_off : Absents m from None → Says m None
    absence_off absents = record { is = absence_first m k ∙ some_onward _ s.is ∙ nothing_onward _ absents.is; placed = tt }

    pub absence_said : All Byte m → {a : Absent} → Absents m from (Some a) → Says m (Some (isAbsent a))
    absence_said bytes {a} absents =
        let there = s.stands from refl in
        let i = (there.inside (record { from = from; to = length m }) refl).1 in
        let said = nonexistence_said (drop from m) (absent_at m a) (all_drop Byte from m bytes) absents.is in
        let same : between from (length m) m ≡ nonexistence (absent_at m a) = rest_is from (length m) m i refl ∙ sym said.is in record {
          is = absence_first m k ∙ some_onward _ s.is ∙ some_onward _ absents.is;
          placed = record {
            start = from;
            start_is = omega (arith, (placed {n = 2} (omega arith) bytes there).begins, ap (λ b. length (field_head 2 b)) same);
            parts = absents.so a refl;
            raw_key = said.raw.0.some_byte;
          };
        }
