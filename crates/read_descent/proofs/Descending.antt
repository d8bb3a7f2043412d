-- The descent by counts over bytes, a step at a time. Assumes nothing.
use Prim.Native.Nat.{ℕ, suc, ◌-◌, ◌<◌}
use native.Mathlib.Omega.{arith}
use mathlib.Core.Path.{◌≡◌, refl, ap, ap₂, sym, ◌∙◌, subst}
use mathlib.Core.Bool.{Bool, true, false}
use mathlib.Core.List.{List, []}
use lib.ListN.{length, take, drop}
use lib.Seq.{take-take}
use borrow.Author.Tests.{eq-eqb, ne_eqb}
use Rattle.terms.specs.declared.Form.TheVariants.{Counted as counted}
use Rattle.terms.specs.Bits.{Bytes, Byte, All, Side, left, right, Place, begins}
use Rattle.terms.specs.Fields.{slice}
use Rattle.terms.specs.Records.{Grant, grant, Child, Body, count_on, Record, used}
use Rattle.terms.proofs.Places.{length_longer}
use Rattle.meaning.specs.Sight.{Sight, matches, nothing, spoilt}
use Rattle.meaning.specs.Calls.{Answer, refused, accepted}
use Rattle.meaning.specs.Reading.{lost_record, spoilt_record, refusal_of}
use Rattle.meaning.specs.Counting.{at_body, at_sight, descend}
use Rattle.meaning.proofs.Descent.{kids_at, child_missing, child_sighted}
use Rattle.indexed.specs.Index.{node_by, by_table}
use Rattle.hash.specs.declared.Hash.{Hash}
use Rattle.hash.specs.Hash.{hash_bytes}
use Rattle.place.specs.declared.Place as declared-place
use Rattle.place.specs.Place.{place_of, Proper, Stands, Grown}
use Rattle.place.proofs.Places.{proper_count}
use Rattle.layout.specs.Headers.{size_right}
use Rattle.layout.specs.Slots.{key_in, value_inside, is_leaf, record_in, counts_in, slot_of}
use Rattle.layout.specs.Stores.{slot_in, store_of, Has}
use Rattle.layout.proofs.Slots.{record_is}
use Rattle.layout.proofs.Stores.{slot_at_lem}
use Rattle.sights.specs.Sights.{Sighted}
use Rattle.sights.specs.declared.Sight as declared-sight
use Rattle.sights.specs.declared.Sight.TheVariants as sight
use Rattle.read_step.specs.Walk.{body_in, kid_in, SlotHolds}
use Rattle.read_step.proofs.Seeing.{body_is, leaf_body_lem, inner_body_lem, node_placed, holds_found, inside}
use Rattle.read_turn.specs.Turns.{Turned}
use Rattle.read_turn.specs.declared.Turn as declared-turn
use Rattle.read_descent.specs.Parts.{position_says, leaf_answer, kids_from, body_at, child_answer, Steps}
use Rattle.std.specs.Prelude.{Result, Ok, Err}
use Rattle.refusal_numbers.specs.Refusals.{code}
use Rattle.refusal_numbers.specs.declared.ReadRefusal.{ReadRefusal}
use Rattle.refusal_numbers.specs.declared.ReadRefusal.TheVariants.{Plain}
use Rattle.refusal_numbers.specs.declared.Refusal.TheVariants.{NotSound}

pub counts_are_lem : (x : Bytes) (r : Record) → slot_of x ≡ used r → r.counts ≡ counts_in x
unfolding record_in
counts_are_lem x r e = ap (λ (q : Record). q.counts) (sym (record_is x r e))

-- the leaf
module _ (p : Place) (x : Bytes) (n : ℕ) where
  pub leaf_stray : {b : Bool} → b ≡ begins p (key_in x) → b ≡ false → position_says (Err (Plain NotSound)) ≡ leaf_answer p x n
  unfolding position_says
  leaf_stray e f = rw (sym e ∙ f)

  pub leaf_over : {b : Bool} → b ≡ begins p (key_in x) → b ≡ true → (n ≡ 0 → ⊥) → position_says (Err (Plain NotSound)) ≡ leaf_answer p x n
  unfolding position_says
  leaf_over e f z = rw (sym e ∙ f, ne_eqb n 0 z)

  pub leaf_there : {b : Bool} → b ≡ begins p (key_in x) → b ≡ true → n ≡ 0 → (k v : Hash) → hash_bytes k ≡ key_in x → hash_bytes v ≡ value_inside x →
      position_says (Ok (record { key = k; value = v })) ≡ leaf_answer p x n
  unfolding position_says
  leaf_there e f z k v g h = rw (sym e ∙ f, eq-eqb n 0 z) (ap₂ (λ a b. accepted (grant a b)) g h)

slice_whole : (i n : ℕ) (x : Bytes) → take n (slice i n x) ≡ slice i n x
unfolding slice
slice_whole i n x = take-take n n (drop i x) (omega arith)

pub key_whole : (x : Bytes) {y h : Bytes} → y ≡ key_in x → h ≡ take 32 (drop 0 y) → h ≡ key_in x
key_whole x e f = f ∙ ap (take 32) e ∙ slice_whole _ 32 x

pub value_whole : (x : Bytes) {y h : Bytes} → y ≡ value_inside x → h ≡ take 32 (drop 0 y) → h ≡ value_inside x
value_whole x e f = f ∙ ap (take 32) e ∙ slice_whole _ 32 x

pub leaf_is : (s : Bytes) (table : List ℕ) (p : Place) (i n : ℕ) → is_leaf (slot_in counted i s) ≡ true → leaf_answer p (slot_in counted i s) n ≡ body_at s table p i n
unfolding body_at
leaf_is s table p i n e = ap (λ b. at_body p b (counts_in (slot_in counted i s)) n (kids_from s table p)) (sym (leaf_body_lem (slot_in counted i s) e))

-- an inner record: the child on a side
module _ (s : Bytes) (table : List ℕ) (p : Place) (i n : ℕ) (e : is_leaf (slot_in counted i s) ≡ false) (t : declared-turn.Turn)
    (turned : Turned (count_on left (counts_in (slot_in counted i s))) n t) where
  inner_is : kids_from s table p t.right (kid_in i s t.right) t.rest ≡ body_at s table p i n
  unfolding body_at kid_in
  inner_is =
      turned (λ b m. kids_from s table p b (kid_in i s b) m)
      ∙ ap (λ b. at_body p b (counts_in (slot_in counted i s)) n (kids_from s table p)) (sym (inner_body_lem (slot_in counted i s) e))

pub kid_answer : {b : Side} {p q : declared-place.Place} (s : Bytes) (table : List ℕ) (c : Child) (n : ℕ) → Grown b p q →
    child_answer s table (place_of q) c n ≡ kids_from s table (place_of p) b c n
unfolding child_answer
kid_answer {b} {p} {q} s table c n g =
    let m : 256 - length (place_of q) ≡ 255 - length (place_of p) = omega (arith, ap length g.place ∙ length_longer b (place_of p)) in
    ap (λ k. descend k (by_table table (store_of s)) (place_of q) c n) m ∙ ap (λ l. descend (255 - length (place_of p)) (by_table table (store_of s)) l c n) g.place

-- a child as it is sighted
module _ (s : Bytes) (table : List ℕ) (p : declared-place.Place) (c : Child) where
  pub step_missing : c.version ≡ 0 → Steps s table p c (Err (Plain NotSound))
  unfolding child_answer
  step_missing e n = sym (child_missing (by_table table (store_of s)) (256 - length (place_of p)) (place_of p) c n e)

  module _ (here : c.version ≡ 0 → ⊥) where
    abbrev seen : Sight
    seen = node_by table (store_of s) c.version (place_of p)

    as_sighted : (x : Sight) (n : ℕ) → seen ≡ x → at_sight (place_of p) x n (kids_at (by_table table (store_of s)) (256 - length (place_of p)) (place_of p)) ≡ child_answer s table (place_of p) c n
    unfolding child_answer
    as_sighted x n e = sym (child_sighted (by_table table (store_of s)) (256 - length (place_of p)) (place_of p) c n x here e)

    pub step_lost : (m : ReadRefusal) → seen ≡ nothing → code m ≡ refusal_of lost_record → Steps s table p c (Err m)
    step_lost m e f n = ap refused f ∙ as_sighted nothing n e

    pub step_spoilt : (m : ReadRefusal) (i : ℕ) → seen ≡ spoilt i → code m ≡ refusal_of (spoilt_record i) → Steps s table p c (Err m)
    step_spoilt m i e f n = ap refused f ∙ as_sighted (spoilt i) n e

    abbrev at_kids : ℕ → ℕ → ℕ → Body → Answer Grant
    at_kids j n k b = at_body (place_of p) b (counts_in (slot_in counted j s)) n (kids_at (by_table table (store_of s)) k (place_of p))

    module _ (j : ℕ) (r : Record) (is : slot_of (slot_in counted j s) ≡ used r) (e : seen ≡ matches r) (h : SlotHolds s j p) where
      pub step_found : Steps s table p c (Ok j)
      unfolding body_at
      step_found = (
        h,
        λ n. ways n ∙ ap₂ (λ b t. at_body (place_of p) b t n (kids_at (by_table table (store_of s)) (256 - length (place_of p)) (place_of p)))
            (sym (body_is (slot_in counted j s) r is)) (sym (counts_are_lem (slot_in counted j s) r is)) ∙ as_sighted (matches r) n e,
      )
        where
          by_kind : (n : ℕ) (b : Bool) → is_leaf (slot_in counted j s) ≡ b →
              at_body (place_of p) (body_in (slot_in counted j s)) (counts_in (slot_in counted j s)) n (kids_from s table (place_of p)) ≡ at_kids j n (256 - length (place_of p)) (body_in (slot_in counted j s))
          by_kind n true f = rw (leaf_body_lem (slot_in counted j s) f) refl
          by_kind n false f =
              let k : suc (255 - length (place_of p)) ≡ 256 - length (place_of p) = omega (arith, h.short f, proper_count p h.slotted.proper) in
              ap (λ m. at_kids j n m (body_in (slot_in counted j s))) k

          ways : (n : ℕ) → at_body (place_of p) (body_in (slot_in counted j s)) (counts_in (slot_in counted j s)) n (kids_from s table (place_of p)) ≡ at_kids j n (256 - length (place_of p)) (body_in (slot_in counted j s))
          ways n = by_kind n (is_leaf (slot_in counted j s)) refl

    pub step_at_lem : size_right counted (length s) ≡ true → All Byte s → Proper p → {v : ℕ} → v ≡ c.version → {x : declared-sight.Sight} →
        Sighted (store_of s).slots (node_by table (store_of s) v (place_of p)) x → (j : ℕ) → x ≡ sight.Matches j → Steps s table p c (Ok j)
    step_at_lem size bytes proper {v} e {x} h j f =
        let o = node_by table (store_of s) v (place_of p) in
        let g = subst (Sighted (store_of s).slots o) f h in
        step_found j g.1.0 (sym (slot_at_lem counted s j (inside s o h f)) ∙ g.1.1)
        (ap (λ w. node_by table (store_of s) w (place_of p)) (sym e) ∙ g.1.2) (holds_found s size bytes p proper (node_placed s table v p) h f)

-- The descent has come to the record in slot i, at a place, with a position left.
pub record Going (s : Bytes) (table : List ℕ) (first position : ℕ) (p : declared-place.Place) (i n : ℕ) : Type 0 where
  pub holds : SlotHolds s i p
  pub rest : body_at s table (place_of p) i n ≡ body_at s table [] first position

pub set_out : {s : Bytes} {table : List ℕ} {first position : ℕ} {p : declared-place.Place} → Has counted s first → Stands [] 0 p → Going s table first position p first position
set_out {s} {table} {first} {position} {p} h top = record {
  holds = record { slotted = record { size = h.size; inside = h.inside; proper = top.proper }; short = λ e. omega (arith, top.count) };
  rest = ap (λ q. body_at s table q first position) top.place;
}

module _ {s : Bytes} {table : List ℕ} {first position : ℕ} {p : declared-place.Place} {i n : ℕ} (w : Going s table first position p i n) where
  pub at_slot : Has counted s i
  at_slot = record { size = w.holds.slotted.size; inside = w.holds.slotted.inside }

  pub ends_at_leaf : {b : Bool} → b ≡ is_leaf (slot_in counted i s) → b ≡ true → leaf_answer (place_of p) (slot_in counted i s) n ≡ body_at s table [] first position
  ends_at_leaf d e = leaf_is s table (place_of p) i n (sym d ∙ e) ∙ w.rest

  module _ {b : Bool} (d : b ≡ is_leaf (slot_in counted i s)) (e : b ≡ false) where
    pub inner_short : p.count < 256
    inner_short = w.holds.short (sym d ∙ e)

    module _ (t : declared-turn.Turn) (turned : Turned (count_on left (counts_in (slot_in counted i s))) n t) {q : declared-place.Place} (g : Grown t.right p q) where
      onward : child_answer s table (place_of q) (kid_in i s t.right) t.rest ≡ body_at s table [] first position
      onward = kid_answer s table (kid_in i s t.right) t.rest g ∙ inner_is s table (place_of p) i n (sym d ∙ e) t turned ∙ w.rest

      pub ends_refused : {x : Result ℕ ReadRefusal} (m : ReadRefusal) → Steps s table q (kid_in i s t.right) x → x ≡ Err m →
          position_says (Err m) ≡ body_at s table [] first position
      unfolding position_says
      ends_refused m h f = subst (Steps s table q (kid_in i s t.right)) f h t.rest ∙ onward

      pub goes_on : {x : Result ℕ ReadRefusal} (j : ℕ) → Steps s table q (kid_in i s t.right) x → x ≡ Ok j → Going s table first position q j t.rest
      goes_on j h f =
          let k = subst (Steps s table q (kid_in i s t.right)) f h in
          record { holds = k.0; rest = k.1 t.rest ∙ onward }
