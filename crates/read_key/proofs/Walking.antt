-- The walk by a key's bits, turn by turn: what is said from the node where it stands is what is said from the root, and no read looks at the
-- trail. Assumes nothing.
use Prim.Native.Nat.{ℕ, suc, ◌-◌, ◌<◌}
use native.Mathlib.Omega.{arith}
use native.Mathlib.Numerals.{add-one}
use mathlib.Core.Path.{◌≡◌, refl, ap, sym, ◌∙◌, subst}
use mathlib.Core.Bool.{true}
use mathlib.Core.List.{List, [], ◌∷◌}
use lib.ListN.{length}
use Rattle.terms.specs.declared.Form.TheVariants.{Counted as counted}
use Rattle.terms.specs.Bits.{Bytes, Side, longer, bit}
use Rattle.meaning.specs.Calls.{Answer, refused}
use Rattle.meaning.specs.Reading.{refusal_of, Seen, stopped_by, gap, leaf_seen, fork, seen_at, seen, Pass, walk, Verdict, read_end}
use Rattle.indexed.specs.Index.{by_table}
use Rattle.place.specs.declared.Place as declared-place
use Rattle.place.specs.Place.{place_of, Proper, Stands, Grown}
use Rattle.place.proofs.Places.{proper_count}
use Rattle.layout.specs.Sizes.{room_of}
use Rattle.layout.specs.Headers.{size_right}
use Rattle.layout.specs.Stores.{store_of}
use Rattle.read_step.specs.Walk.{trouble_says, kid_in, seen_below, leaf_at, fork_at, Sees, Slotted}
use Rattle.read_step.specs.declared.Trouble as declared-trouble
use Rattle.read_step.specs.declared.Seen as declared
use Rattle.read_step.specs.declared.Seen.TheVariants.{Gap, Stopped, Leaf, Inner}
use Rattle.read_step.proofs.Seeing.{kid_seen}
use Rattle.read_key.specs.Parts.{read_says, leaf_read, walk_read}
use Rattle.std.specs.Prelude.{Ok, Err, None}
use Rattle.refusal_numbers.specs.Refusals.{code}
use Rattle.refusal_numbers.specs.declared.ReadRefusal.{ReadRefusal}

-- What a walk says of a key from bit i on, where x is seen.
abbrev said_from : Bytes → ℕ → Seen → Answer Verdict
said_from k i x = read_end k (walk k i [] x)

-- no read looks at the trail
trail_unread : (k : Bytes) (i : ℕ) (a b : List Pass) (x : Seen) → read_end k (walk k i a x) ≡ read_end k (walk k i b x)
trail_unread k i a b (stopped_by t) = refl
trail_unread k i a b gap = refl
trail_unread k i a b (leaf_seen l x) = refl
trail_unread k i a b (fork hashes kids) = trail_unread k (suc i) _ _ (kids (bit i k))

one_turn : (k : Bytes) (i : ℕ) (hashes : Side → Bytes) (kids : Side → Seen) →
    said_from k i (fork hashes kids) ≡ said_from k (suc i) (kids (bit i k))
one_turn k i hashes kids = trail_unread k (suc i) (record { turn = bit i k; hashes = hashes; kids = kids } ∷ []) [] (kids (bit i k))

-- The walk by k has come to the place p, where r was seen.
pub record Walked (s : Bytes) (table : List ℕ) (v : ℕ) (k : Bytes) (p : declared-place.Place) (r : declared.Seen) : Type 0 where
  pub size : size_right counted (length s) ≡ true
  pub whole : length k ≡ 32
  pub proper : Proper p
  pub here : Seen
  pub sees : Sees s table (place_of p) here r
  pub rest : walk_read s table v k ≡ said_from k p.count here

-- at the root
pub set_out : {s : Bytes} {table : List ℕ} {v : ℕ} {k : Bytes} {p : declared-place.Place} {r : declared.Seen} → size_right counted (length s) ≡ true →
    length k ≡ 32 → Stands [] 0 p → Sees s table [] (seen (by_table table (store_of s)) v) r → Walked s table v k p r
unfolding walk_read
set_out {s} {table} {v} {k} {p} {r} size whole top sees = record {
  size = size;
  whole = whole;
  proper = top.proper;
  here = seen (by_table table (store_of s)) v;
  sees = subst (λ q. Sees s table q (seen (by_table table (store_of s)) v) r) (sym top.place) sees;
  rest = ap (λ n. said_from k n (seen (by_table table (store_of s)) v)) (sym top.count);
}

module _ {s : Bytes} {table : List ℕ} {v : ℕ} {k : Bytes} {p : declared-place.Place} {r : declared.Seen} (w : Walked s table v k p r) where
  sees_as : {q : declared.Seen} → r ≡ q → Sees s table (place_of p) w.here q
  sees_as e = subst (Sees s table (place_of p) w.here) e w.sees

  said : {x : Seen} → w.here ≡ x → said_from k p.count x ≡ walk_read s table v k
  said e = ap (said_from k p.count) (sym e) ∙ sym w.rest

  pub ends_at_gap : r ≡ Gap → read_says (Ok None) ≡ walk_read s table v k
  unfolding read_says
  ends_at_gap e = said (sees_as e)

  pub ends_stopped : (n : ReadRefusal) (t : declared-trouble.Trouble) → r ≡ Stopped t → code n ≡ refusal_of (trouble_says t) → read_says (Err n) ≡ walk_read s table v k
  unfolding read_says
  ends_stopped n t e f = ap refused f ∙ said (sees_as e)

  pub leaf_inside : {i : ℕ} → r ≡ Leaf i → i < room_of counted (length s)
  leaf_inside e = (sees_as e).0

  pub ends_at_leaf : (i : ℕ) → r ≡ Leaf i → leaf_read i s k ≡ walk_read s table v k
  unfolding leaf_read leaf_at
  ends_at_leaf i e = said (sees_as e).1

  module _ {i : ℕ} (e : r ≡ Inner i) where
    -- an inner node: its slot, and a place shorter than a key
    pub inner_short : p.count < 256
    inner_short = omega (arith, (sees_as e).1, proper_count p w.proper)

    pub inner_slotted : {q : declared-place.Place} → Proper q → Slotted s i q
    inner_slotted h = record { size = w.size; inside = (sees_as e).0; proper = h }

    -- one turn: to the child on the side of the key's bit
    pub goes_on : {b : Side} {q : declared-place.Place} {t : declared.Seen} → b ≡ bit p.count k → Grown b p q →
        Sees s table (place_of q) (seen_below s table (place_of q) (kid_in i s b)) t → Walked s table v k q t
    unfolding fork_at
    goes_on {b} {q} {t} f g h =
        record {
          size = w.size;
          whole = w.whole;
          proper = g.proper;
          here = seen_below s table (place_of q) (kid_in i s b);
          sees = h;
          rest = turned;
        }
      where
        turned : walk_read s table v k ≡ said_from k q.count (seen_below s table (place_of q) (kid_in i s b))
        turned =
            let kids : Side → Seen = λ c. seen_at (255 - length (place_of p)) (by_table table (store_of s)) (longer c (place_of p)) (kid_in i s c) in
            w.rest
            ∙ ap (said_from k p.count) (sees_as e).2
            ∙ one_turn k p.count (λ c. (kid_in i s c).hash) kids
            ∙ ap (λ c. said_from k (suc p.count) (kids c)) (sym f)
            ∙ ap (said_from k (suc p.count)) (kid_seen s table (kid_in i s b) g)
            ∙ ap (λ n. said_from k n (seen_below s table (place_of q) (kid_in i s b))) (sym (g.count ∙ add-one p.count))
