-- The records of a row, one more at a time, and the places of their paths. Assumes nothing.
use Prim.Native.Nat.{ℕ, zero, suc, ◌+◌, ◌*◌, ◌-◌, ◌<◌, ◌≤◌}
use native.Mathlib.Omega.{arith}
use native.Mathlib.Nat.{sub-zero}
use native.Mathlib.Numerals.{add-one}
use mathlib.Core.Path.{◌≡◌, refl, ap, sym, ◌∙◌}
use mathlib.Core.Bool.{Bool, true, false}
use mathlib.Core.List.{List}
use lib.ListN.{length, get_or, set, take, drop, length-set, length-drop}
use lib.Seq.{get_or-set_same, get_or-set_other}
use lib.Dec.{leb, eqb}
use borrow.Author.Tests.{leb-true, leb-false, eq-eqb, ne_eqb}
use borrow.Author.Count.{below_more}
use Rattle.terms.specs.Bits.{Bytes}
use Rattle.sha256_eight.specs.Each.{Each}
use Rattle.verify_neighbours.specs.Neighbours.{leads}
use Rattle.verify_one.specs.Lane.{Lies}
use Rattle.verify_lanes.specs.Lanes.{LiesAt, AllLie, LeadsAt}
use Rattle.verify_given.specs.Given.{Leading}
use Rattle.verify_rows.specs.Reading.{own_length, begins, cuts_into, start_of, piece_at}
use Rattle.verify_rows.proofs.Rows.{begins_room, cut_on, cut_off, cut_end}
use Rattle.verify_plan.proofs.Prefix.{lies_there, leads_there}
use Rattle.verify_plan.specs.declared.Paths.{Paths}
use Rattle.verify_plan.specs.Plan.{PathsIn}
use Rattle.std.specs.Prelude.{Some, None}
use Rattle.verify_cut.specs.Row.{Planned, Plan, GatheredAs, KnownAt, Known}

pub plan_none : (p : Bytes) (n : ℕ) (at index : List ℕ) → length at ≡ 512 → length index ≡ 256 → Plan p n at index 0 0 0
plan_none p n at index e d = record {
  upto = omega arith;
  few = omega arith;
  start = refl;
  within = omega arith;
  cut = rw sub-zero;
  places = e;
  indices = d;
  lie = λ j h. absurd (omega arith);
  planned = λ j h. absurd (omega arith);
}

-- two places more
module _ (at : List ℕ) (m v w : ℕ) (room : m + 1 < length at) where
  abbrev twice : List ℕ
  twice = set (set at m v) (m + 1) w

  before_two : (j : ℕ) → j < m → get_or twice j 0 ≡ get_or at j 0
  before_two j h = get_or-set_other (set at m v) (m + 1) j w 0 (λ q. absurd (omega arith)) ∙ get_or-set_other at m j v 0 (λ q. absurd (omega arith))

  first_two : get_or twice m 0 ≡ v
  first_two = get_or-set_other (set at m v) (m + 1) m w 0 (λ q. absurd (omega arith)) ∙ get_or-set_same at m v 0 (omega arith)

  second_two : get_or twice (m + 1) 0 ≡ w
  second_two = get_or-set_same (set at m v) (m + 1) w 0 (simp length-set room)

module _ (p : Bytes) (n : ℕ) (at index : List ℕ) (i m a : ℕ) (q : Plan p n at index i m a) (h : i < n) (most : n ≤ 256)
    (b : begins (drop a p) ≡ true) (w : Paths) (is : PathsIn (piece_at p a) w) where
  abbrev l : ℕ
  l = own_length (drop a p)

  room : m + 1 < length at
  room = let f = q.few in let e = q.places in omega arith

  abbrev after : List ℕ
  after = set (set at m (a + w.first)) (m + 1) (a + w.second)

  abbrev many : ℕ
  many = m + w.many

  lie_first : 1 ≤ w.many → Lies p (get_or after m 0)
  lie_first k = rw (first_two at m (a + w.first) (a + w.second) room) (lies_there p a l w.first (is.lies k))

  lie_second : 2 ≤ w.many → Lies p (get_or after (m + 1) 0)
  lie_second k = rw (second_two at m (a + w.first) (a + w.second) room) (lies_there p a l w.second (is.lies2 k))

  lie_all : AllLie p many after
  lie_all j k = go (leb m j) refl
    where
      two : (t : Bool) → leb (m + 1) j ≡ t → m ≤ j → Lies p (get_or after j 0)
      two true t c = let d = leb-true (m + 1) j t in let f = is.few in let e : j ≡ m + 1 = omega arith in rw e (lie_second (omega arith))
      two false t c = let d = leb-false (m + 1) j t in let e : j ≡ m = omega arith in rw e (lie_first (omega arith))

      go : (t : Bool) → leb m j ≡ t → Lies p (get_or after j 0)
      go true t = two (leb (m + 1) j) refl (leb-true m j t)
      go false t =
          let d = leb-false m j t in
          rw (before_two at m (a + w.first) (a + w.second) room j (omega arith)) (q.lie j (omega arith))

  -- what is known of all places is known of those before
  known_before : (root : Bytes) (good : List Bool) → Each many (LeadsAt root p after) false good → Each m (LeadsAt root p at) false good
  known_before root good all j k =
      all j (omega arith) ∙ ap (λ (x : ℕ). leads root (drop x p)) (before_two at m (a + w.first) (a + w.second) room j k)

  planned_here : Planned p after many a m
  planned_here = record {
    low = let f = q.few in omega arith;
    leading = λ root good all.
        is.leading root (get_or good m false) (get_or good (m + 1) false)
        (λ k. all m (omega arith) ∙ ap (λ (x : ℕ). leads root (drop x p)) (first_two at m (a + w.first) (a + w.second) room)
        ∙ sym (leads_there p a l w.first root (is.lies k)))
        (λ k. all (m + 1) (omega arith) ∙ ap (λ (x : ℕ). leads root (drop x p)) (second_two at m (a + w.first) (a + w.second) room)
        ∙ sym (leads_there p a l w.second root (is.lies2 k)));
  }

  next_start : a + l ≡ start_of p (i + 1)
  next_start = rw (add-one i, ← q.start)

  planned_all : (j : ℕ) → j < i + 1 → Planned p after many (start_of p j) (get_or (set index i m) j 0)
  planned_all =
      below_more (λ j. Planned p after many (start_of p j) (get_or (set index i m) j 0)) i
      (λ j k.
      let o = q.planned j k in
      rw (get_or-set_other index i j m 0 (λ e. absurd (omega arith)))
      (record { low = o.low; leading = λ root good all. o.leading root good (known_before root good all) }))
      (let e = q.indices in rw (get_or-set_same index i m 0 (omega arith), ← q.start) planned_here)

  pub plan_more : Plan p n after (set index i m) (i + 1) many (a + l)
  plan_more =
      let r = begins_room (drop a p) b in record {
        upto = omega arith;
        few = let f = q.few in let g = is.few in omega arith;
        start = next_start;
        within = let d = length-drop a p in omega arith;
        cut = sym (cut_on n i a p h b) ∙ q.cut;
        places = simp (length-set, length-set) q.places;
        indices = simp length-set q.indices;
        lie = lie_all;
        planned = planned_all;
      }

-- no record begins where one should
pub gathered_off : (p : Bytes) (n : ℕ) (at index : List ℕ) (i m a : ℕ) → Plan p n at index i m a → i < n → begins (drop a p) ≡ false → cuts_into n p ≡ false
gathered_off p n at index i m a q h b = sym q.cut ∙ cut_off n i a p h b

-- all records are cut off: nothing may be over
module _ (p : Bytes) (n : ℕ) (at index : List ℕ) (i m a : ℕ) (q : Plan p n at index i m a) (h : n ≤ i) where
  cut_is : cuts_into n p ≡ eqb (length (drop a p)) 0
  cut_is = sym q.cut ∙ cut_end n i (drop a p) h

  pub gathered_over : (a ≡ length p → ⊥) → GatheredAs p n at index None
  gathered_over f = let b = q.within in let d = length-drop a p in cut_is ∙ ne_eqb (length (drop a p)) 0 (λ z. f (omega arith))

  pub gathered_all : a ≡ length p → GatheredAs p n at index (Some m)
  gathered_all f =
      let d = length-drop a p in
      let u = q.upto in
      let e : i ≡ n = omega arith in
      (cut_is ∙ eq-eqb (length (drop a p)) 0 (omega arith), rw (q.start, e) at q)

-- the part of the bytes that is a record
pub part_is : (p : Bytes) (a e : ℕ) → e ≡ a + own_length (drop a p) → take (e - a) (drop a p) ≡ piece_at p a
part_is p a e h = let k : e - a ≡ own_length (drop a p) = omega arith in ap (λ (l : ℕ). take l (drop a p)) k
