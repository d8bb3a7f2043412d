-- Fields where they stand: by their tag, their length, and as many bytes. Assumes nothing.
use Prim.Native.Nat.{ℕ, ◌+◌, ◌*◌, ◌-◌, ◌<◌, ◌≤◌}
use native.Mathlib.Omega.{arith}
use native.Mathlib.Nat.{add-sub_cancel_left}
use Rattle.std.specs.declared.option.Option as option
use Rattle.std.specs.Prelude.{Some, None}
use mathlib.Core.Path.{◌≡◌, refl, ap, ◌∙◌, subst}
use mathlib.Core.List.{◌∷◌}
use mathlib.Core.Option.{none, some}
use lib.ListN.{length, get_or, drop, length-drop, drop_of_length-le}
use lib.Seq.{drop-drop}
use borrow.Author.Tests.{le-leb, lt-leb, eq-eqb, ne_eqb}
use Rattle.terms.specs.Bits.{Bytes}
use Rattle.terms.specs.Fields.{slice}
use Rattle.messages.specs.Reading.{onward, only_if, varint_from, cut_from, field_from}
use Rattle.message_varint.specs.declared.Number.{Number}
use Rattle.message_varint.specs.Numbers.{number_in, Reads}
use Rattle.message_varint.proofs.Numbers.{first_of}
use Rattle.message_fields.specs.declared.Part.{Part}
use Rattle.message_fields.specs.Standing.{Stands}

-- the field that was read
the_part : {p q : Part} → ◌≡◌ {A = option.Option Part} (Some p) (Some q) → p ≡ q
the_part e = cc

-- none was
no_part : {A : Type 0} {p : Part} → ◌≡◌ {A = option.Option Part} None (Some p) → A
no_part e = absurd (let z : ◌≡◌ {A = ℕ} 0 1 = cc in omega arith)

pub stands_as : {n : ℕ} {m : Bytes} {at : ℕ} {r o : option.Option Part} → r ≡ o → Stands n m at r → Stands n m at o
stands_as {n} {m} {at} e s = subst (Stands n m at) e s

module _ (n : ℕ) (m : Bytes) (at : ℕ) where
  nothing_stands : field_from n (drop at m) ≡ none → Stands n m at None
  nothing_stands e = record { is = e; inside = λ p. no_part }

  pub stands_end : length m ≤ at → Stands n m at None
  stands_end h = nothing_stands (ap (field_from n) (drop_of_length-le m {i = at} h))

  other_tag : (get_or m at 0 ≡ 8 * n + 2 → ⊥) → field_from n (get_or m at 0 ∷ drop (at + 1) m) ≡ none
  unfolding only_if
  other_tag k = rw (ne_eqb (get_or m at 0) (8 * n + 2) k)

  -- another tag
  pub stands_other : at < length m → (get_or m at 0 ≡ 8 * n + 2 → ⊥) → Stands n m at None
  stands_other h k = nothing_stands (ap (field_from n) (first_of m at h) ∙ other_tag k)

  its_tag : get_or m at 0 ≡ 8 * n + 2 → field_from n (get_or m at 0 ∷ drop (at + 1) m) ≡ onward (varint_from 2 (drop (at + 1) m)) cut_from
  unfolding only_if
  its_tag e = rw (eq-eqb (get_or m at 0) (8 * n + 2) e)

  by_size : (size : option.Option Number) → at < length m → get_or m at 0 ≡ 8 * n + 2 → Reads 2 m (at + 1) size →
      field_from n (drop at m) ≡ onward (number_in m size) cut_from
  by_size size h t f = ap (field_from n) (first_of m at h) ∙ its_tag t ∙ ap (λ o. onward o cut_from) f.is

  -- no length
  pub stands_no_size : at < length m → get_or m at 0 ≡ 8 * n + 2 → Reads 2 m (at + 1) None → Stands n m at None
  unfolding onward
  stands_no_size h t f = nothing_stands (by_size None h t f)

  cut_at : (v next : ℕ) → onward (some (v, drop next m)) cut_from ≡ cut_from (v, drop next m)
  unfolding onward
  cut_at v next = refl

  -- fewer bytes than its length
  too_few : (v next : ℕ) → length m - next < v → cut_from (v, drop next m) ≡ none
  unfolding only_if
  too_few v next l = rw (lt-leb v (length (drop next m)) (simp length-drop (omega arith)))

  pub stands_short : (size : Number) → at < length m → get_or m at 0 ≡ 8 * n + 2 → Reads 2 m (at + 1) (Some size) →
      length m - size.next < size.value → Stands n m at None
  stands_short size h t f l =
      nothing_stands (by_size (Some size) h t f ∙ cut_at size.value size.next ∙ too_few size.value size.next l)

  enough : (v next : ℕ) → v ≤ length m - next → cut_from (v, drop next m) ≡ some (slice next (next + v - next) m, drop (next + v) m)
  unfolding only_if slice
  enough v next l =
      rw (le-leb v (length (drop next m)) (simp length-drop (omega arith)), add-sub_cancel_left next v, drop-drop v next m)

  -- it stands there
  pub stands_there : (size : Number) → at < length m → get_or m at 0 ≡ 8 * n + 2 → Reads 2 m (at + 1) (Some size) →
      size.value ≤ length m - size.next → Stands n m at (Some (record { from = size.next; to = size.next + size.value }))
  stands_there size h t f l =
      let i = f.inside size refl in record {
        is =
            by_size (Some size) h t f
            ∙ cut_at size.value size.next
            ∙ enough size.value size.next l;
        inside = λ p e. subst (λ (q : Part). (at < q.from) × (q.from ≤ q.to) × (q.to ≤ length m)) (the_part e)
            (omega (arith, i.0), omega arith, omega (arith, i.1));
      }
