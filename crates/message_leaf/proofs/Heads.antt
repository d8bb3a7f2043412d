-- Key, value and leaf op of an existence proof one after the other, and where they stand. Assumes nothing.
use Prim.Native.Nat.{ℕ, zero, suc, ◌+◌, ◌-◌, ◌<◌, ◌≤◌}
use native.Mathlib.Omega.{arith}
use Rattle.std.specs.declared.option.Option as option
use Rattle.std.specs.Prelude.{Some, None}
use mathlib.Core.Path.{◌≡◌, refl, ap, sym, ◌∙◌, subst}
use mathlib.Core.Bool.{Bool, true, false, ◌&&◌}
use mathlib.Core.List.{List, [], ◌∷◌, ◌++◌}
use mathlib.Core.Option.{Option, none, some}
use lib.ListN.{length, drop, length-append, length-drop}
use lib.Dec.{leb}
use borrow.Author.Tests.{le-leb}
use Rattle.terms.specs.Bits.{Bytes, Byte, All, same_bytes}
use Rattle.terms.specs.Fields.{slice, all_of}
use Rattle.terms.specs.Records.{Step, Presence}
use Rattle.terms.proofs.Lists.{all_drop}
use Rattle.terms.proofs.Fields.{length_slice}
use Rattle.messages.specs.Wire.{varint_in, varint, bytes_tag, message_field, bytes_field, number_field}
use Rattle.messages.specs.Message.{leaf_bytes}
use Rattle.messages.specs.Raws.{leaf_op}
use Rattle.messages.specs.Reading.{onward, only_if, field_from, path_in, length_right, existence_in}
use Rattle.messages.specs.Spots.{field_head}
use Rattle.messages.proofs.Wires.{Near, field_said, bytes_field_is}
use Rattle.message_fields.specs.declared.Part.{Part}
use Rattle.message_fields.specs.Standing.{Stands}
use Rattle.message_leaf.specs.declared.Shown.{Shown}
use Rattle.message_leaf.specs.Shown.{between, steps_of, steps_from, Walks, presence_at, Inside, after_head, Heads, Shows}

length_head : (n : ℕ) (x : Bytes) → length (message_field n x) ≡ length (field_head n x) + length x
unfolding message_field field_head
length_head n x = simp length-append (omega arith)

-- Where a field that was found begins and ends, by its own length.
pub record Placed (n : ℕ) (m : Bytes) (at : ℕ) (r : Part) : Type 0 where
  pub begins : r.from ≡ at + length (field_head n (between r.from r.to m))
  pub ends : r.to ≡ at + length (message_field n (between r.from r.to m))
  pub size_is : length (between r.from r.to m) ≡ r.to - r.from

pub placed : {n : ℕ} {m : Bytes} {at : ℕ} {r : Part} → Near n → All Byte m → Stands n m at (Some r) → Placed n m at r
placed {n} {m} {at} {r} near bytes s =
    let i = s.inside r refl in
    let j = i.0 in
    let k = i.1 in
    let l = i.2 in
    let b = between r.from r.to m in
    let size : length b ≡ r.to - r.from = length_slice r.from (r.to - r.from) m (omega arith) in
    let is = (field_said n (drop at m) (b, drop r.to m) near (all_drop Byte at m bytes) s.is).is in
    let whole : length m - at ≡ length (message_field n b) + (length m - r.to) =
    sym (length-drop at m) ∙ ap length is ∙ length-append (message_field n b) (drop r.to m) ∙ ap (length (message_field n b) +◌) (length-drop r.to m) in
    let h = length_head n b in
    record { begins = omega arith; ends = omega arith; size_is = size }

-- the proof that was read, and none
pub the_shown : {s t : Shown} → ◌≡◌ {A = option.Option Shown} (Some s) (Some t) → s ≡ t
the_shown e = cc

pub no_shown : {A : Type 0} {s : Shown} → ◌≡◌ {A = option.Option Shown} None (Some s) → A
no_shown e = absurd (let z : ◌≡◌ {A = ℕ} 0 1 = cc in omega arith)

-- nothing found
pub heads_none : {x : Bytes} {at : ℕ} → existence_in (drop at x) ≡ none → Heads x at None
heads_none e = record { is = e; inside = λ s. no_shown }

module _ {x : Bytes} {at : ℕ} where
  pub no_key : Stands 1 x at None → existence_in (drop at x) ≡ none
  unfolding existence_in onward
  no_key s = rw s.is

  pub no_value : {key : Part} → Stands 1 x at (Some key) → Stands 2 x key.to None → existence_in (drop at x) ≡ none
  unfolding existence_in onward
  no_value s t = rw (s.is, t.is)

  pub no_op : {key value : Part} → Stands 1 x at (Some key) → Stands 2 x key.to (Some value) → Stands 3 x value.to None →
      existence_in (drop at x) ≡ none
  unfolding existence_in onward
  no_op s t u = rw (s.is, t.is, u.is)

-- our leaf op
abbrev pub leaf : Bytes
leaf = 8 ∷ 1 ∷ 16 ∷ 1 ∷ 24 ∷ 1 ∷ 42 ∷ 1 ∷ 1 ∷ []

leaf_is : leaf_op ≡ leaf
unfolding leaf_bytes varint_in varint bytes_tag message_field bytes_field number_field
leaf_is = refl

last_failed : (a b : Bool) → all_of (a ∷ b ∷ false ∷ []) ≡ false
unfolding all_of
last_failed false b = refl
last_failed true false = refl
last_failed true true = refl

module _ {x : Bytes} {at : ℕ} {key value op : Part} (bytes : All Byte x) (s : Stands 1 x at (Some key))
    (t : Stands 2 x key.to (Some value)) (u : Stands 3 x value.to (Some op)) where
  abbrev shown : Shown
  shown = record {
    key = key.from;
    kstop = key.to;
    value = value.from;
    vstop = value.to;
    path = op.to;
    count = 0;
  }

  pub other_op : same_bytes (between op.from op.to x) leaf ≡ false → existence_in (drop at x) ≡ none
  unfolding existence_in onward only_if
  other_op k =
      rw (
        s.is,
        t.is,
        u.is,
        leaf_is,
        k,
        last_failed (length_right 256 (between key.from key.to x)) (length_right 4096 (between value.from value.to x)),
      )

  head_is_lem : same_bytes (between op.from op.to x) leaf ≡ true → existence_in (drop at x) ≡ after_head x shown
  unfolding existence_in onward only_if after_head all_of
  head_is_lem k = rw (s.is, t.is, u.is, leaf_is, k)

  pub heads_there : same_bytes (between op.from op.to x) leaf ≡ true → Heads x at (Some shown)
  heads_there k =
      let a = s.inside key refl in
      let b = t.inside value refl in
      let c = u.inside op refl in
      let p = placed {n = 1} (omega arith) bytes s in
      let q = placed {n = 2} (omega arith) bytes t in
      let inside : Inside x at shown = record {
        key_inside = (omega (arith, a.0), a.1, a.2);
        value_inside = (omega (arith, b.0), b.1, b.2);
        path_inside = (omega (arith, c.0, c.1), c.2);
        key_at = p.begins;
        value-at = λ h. omega (arith, q.begins, p.ends, ap length (bytes_field_is 1 (between key.from key.to x) h));
      } in
      record { is = head_is_lem k; inside = λ _ e. subst (Inside x at) (the_shown e) inside }

pub heads_as : {x : Bytes} {at : ℕ} {r o : option.Option Shown} → r ≡ o → Heads x at r → Heads x at o
heads_as {x} {at} e s = subst (Heads x at) e s

-- The whole existence proof, from its head.
module _ {x : Bytes} {at : ℕ} {h : Shown} (s : Heads x at (Some h)) where
  pub key_length_wrong : length_right 256 (presence_at x h).key ≡ false → existence_in (drop at x) ≡ none
  unfolding after_head only_if all_of
  key_length_wrong k = s.is ∙ rw k

  pub value_length_wrong : length_right 256 (presence_at x h).key ≡ true → length_right 4096 (presence_at x h).value ≡ false → existence_in (drop at x) ≡ none
  unfolding after_head only_if all_of
  value_length_wrong j k = s.is ∙ rw (j, k)

  module _ (j : length_right 256 (presence_at x h).key ≡ true) (k : length_right 4096 (presence_at x h).value ≡ true) where
    lengths_right : existence_in (drop at x) ≡ onward (path_in 256 (drop h.path x)) (λ steps. some (record { key = (presence_at x h).key; value = (presence_at x h).value; steps = steps }))
    unfolding after_head only_if all_of
    lengths_right = s.is ∙ rw (j, k)

    pub no_path : Walks x h.path None → existence_in (drop at x) ≡ none
    unfolding onward
    no_path walks = lengths_right ∙ rw walks.is

    abbrev counted : ℕ → Shown
    counted count = record {
      key = h.key;
      kstop = h.kstop;
      value = h.value;
      vstop = h.vstop;
      path = h.path;
      count = count;
    }

    pub shows_there : {count : ℕ} → Walks x h.path (Some count) → Shows x at (Some (counted count))
    unfolding onward
    shows_there {count} walks =
        let i = s.inside h refl in
        let inside : Inside x at (counted count) = record {
          key_inside = i.key_inside;
          value_inside = i.value_inside;
          path_inside = i.path_inside;
          key_at = i.key_at;
          value-at = i.value-at;
        } in
        record {
          is = lengths_right ∙ rw walks.is;
          inside = λ _ e. subst (Inside x at) (the_shown e) inside;
          count_is_lem = λ _ e. subst (λ (t : Shown). length (presence_at x t).steps ≡ t.count) (the_shown e) (walks.count_is_lem count refl);
        }

pub shows_none : {x : Bytes} {at : ℕ} → existence_in (drop at x) ≡ none → Shows x at None
shows_none e = record { is = e; inside = λ s. no_shown; count_is_lem = λ s. no_shown }

pub shows_as : {x : Bytes} {at : ℕ} {r o : option.Option Shown} → r ≡ o → Shows x at r → Shows x at o
shows_as {x} {at} e s = subst (Shows x at) e s

-- raw lengths by the ends
pub length_right_is : (most : ℕ) (from end : ℕ) (x : Bytes) → from ≤ end → end ≤ length x → length_right most (between from end x) ≡ leb 1 (end - from) && leb (end - from) most
unfolding length_right
length_right_is most from end x h l = rw (length_slice from (end - from) x (omega arith))

pub no_bytes : (from end most : ℕ) → end ≡ from → false ≡ leb 1 (end - from) && leb (end - from) most
no_bytes from end most e = let z : end - from ≡ 0 = omega arith in rw z

pub some_bytes : (from end most : ℕ) → (end ≡ from → ⊥) → from ≤ end → leb (end - from) most ≡ leb 1 (end - from) && leb (end - from) most
some_bytes from end most e h = rw (le-leb 1 (end - from) (go (end - from) refl))
  where
    go : (k : ℕ) → end - from ≡ k → 1 ≤ end - from
    go zero z = absurd (e (omega arith))
    go (suc k) z = omega arith
