-- Where the walk ends decides the proof: the leaf with the key, else the neighbours, which the trail and its forks give as the definition
-- does. Assumes nothing.
use Prim.Native.Nat.{ℕ, ◌+◌, ◌*◌}
use native.Mathlib.Omega.{arith}
use mathlib.Core.Path.{◌≡◌, refl, ap, ap₂, sym, ◌∙◌, subst}
use mathlib.Core.Bool.{Bool, true, false, cond}
use mathlib.Core.Logic.{⊎_elim}
use mathlib.Core.List.{List, [], ◌∷◌, map}
use types.Run.{OneOf}
use denote.Enum.Declared.{tag_of}
use Rattle.terms.specs.declared.Form.TheVariants.{Counted as counted}
use Rattle.terms.specs.Bits.{Bytes, Side, left, right, same_bytes}
use Rattle.terms.specs.Records.{Store, Proof, presence}
use Rattle.meaning.specs.Calls.{Answer, refused, accepted, is_kept}
use Rattle.meaning.specs.Sight.{Sight, matches, nothing, spoilt, Looking}
use Rattle.meaning.specs.Reading.{refusal_of, seen, at_leaf, at_gap, walk}
use Rattle.meaning.specs.Proving.{presence_of, step_up, neighbour, beyond, somebody, from_trail, absence_from, absence_at, prove_end, prove_seen, empty_version, proof_by}
use Rattle.meaning.proofs.Empty.{nothing_seen, gap_refused}
use Rattle.indexed.specs.Index.{by_table}
use Rattle.place.specs.Place.{place_of}
use Rattle.layout.specs.Slots.{key_in, value_inside}
use Rattle.layout.specs.Stores.{slot_in, store_of}
use Rattle.read_step.specs.Walk.{trouble_says, leaf_at}
use Rattle.read_step.specs.declared.Trouble as declared-trouble
use Rattle.read_step.specs.declared.Seen as declared-seen
use Rattle.read_step.specs.declared.Seen.TheVariants.{Gap, Stopped, Leaf, Inner}
use Rattle.read_step.specs.contracts.Seen as Seen
use Rattle.prove_paths.specs.Paths.{presence_at, path_steps}
use Rattle.prove_trails.specs.Trails.{TrailIn, shown_at, shown_by, steps_by, fork_says, fork_on, Walks}
use Rattle.prove_trails.specs.Searches.{path_of, end_says, neighbour_says}
use Rattle.prove_trails.specs.declared.Walked as declared-walked
use Rattle.prove_trails.proofs.Searches.{path_in_lem}
use Rattle.prove_shape.specs.Plans.{plan_says, Plans}
use Rattle.prove_shape.specs.declared.Shape.TheVariants as shape
use Rattle.std.specs.Prelude.{Ok, Err}
use Rattle.refusal_numbers.specs.Refusals.{code}
use Rattle.refusal_numbers.specs.declared.ReadRefusal.{ReadRefusal}
use Rattle.prove_shape.specs.declared.Plan as declared
use Rattle.prove_neighbours.specs.Absence.{absent_from}
use Rattle.prove_plan.specs.Parts.{ended, present_at, proved_at}

-- 14 is what the searches give in an empty version, and need not be tested before them, however they find
pub by_searches : (look : Looking) (st : Store) (v : ℕ) (k : Bytes) → proof_by look st v k ≡ cond (is_kept st v) (prove_seen k (seen look v)) (refused 8)
by_searches look st v k = ap (λ a. cond (is_kept st v) a (refused 8)) (go (look.root v) refl)
  where
    go : (o : Sight) → look.root v ≡ o → cond (empty_version (look.root v)) (refused 14) (prove_seen k (seen look v)) ≡ prove_seen k (seen look v)
    go (matches r) e = rw e
    go nothing e = rw e (sym (gap_refused k (seen look v) (nothing_seen look v e)))
    go (spoilt i) e = rw e

-- a plan for an answer is one for its equal
plans_of : {s k : Bytes} {a b : Answer Proof} {p : declared.Plan} → a ≡ b → Plans s k a p → Plans s k b p
plans_of e w = record { says = w.says ∙ e; within = w.within }

-- by the leaf's key
by_key_lem : {x l : Bytes} {d : Bool} (s : Bytes) (table : List ℕ) (k : Bytes) (w : declared-walked.Walked) (i : ℕ) (c : Bool) → x ≡ slot_in counted i s → l ≡ key_in x → d ≡ same_bytes k l → d ≡ c →
    cond c (present_at s w i) (absent_from s table k w) ≡ proved_at s table k w i
by_key_lem s table k w i c slot its e t = ap (λ b. cond b (present_at s w i) (absent_from s table k w)) (sym (sym (e ∙ ap (same_bytes k) (its ∙ ap key_in slot)) ∙ t))

module _ {x l : Bytes} {d : Bool} (s : Bytes) (table : List ℕ) (k : Bytes) (w : declared-walked.Walked) (i : ℕ) (slot : x ≡ slot_in counted i s) (its : l ≡ key_in x) (e : d ≡ same_bytes k l) where
  pub another_key : {p : declared.Plan} → d ≡ false → Plans s k (absent_from s table k w) p → Plans s k (proved_at s table k w i) p
  another_key t g = plans_of (by_key_lem s table k w i false slot its e t) g

  pub its_key : {p : declared.Plan} → d ≡ true → TrailIn s w.trail → w.trail.seen ≡ Leaf i → p ≡ ended w (Ok shape.Presence) i (72 + 33 * w.trail.place.count) →
      Plans s k (proved_at s table k w i) p
  unfolding plan_says
  its_key t h at q =
      subst (Plans s k (proved_at s table k w i)) (sym q)
      (record { says = by_key_lem s table k w i true slot its e t; within = (path_in_lem s w.trail i h at, refl) })

module _ (s : Bytes) (table : List ℕ) (v : ℕ) (k : Bytes) (w : declared-walked.Walked) (h : Walks s table v k w) where
  -- what is proved, by what is seen at the end
  prove_at : (x : declared-seen.Seen) → w.trail.seen ≡ x →
      prove_seen k (seen (by_table table (store_of s)) v) ≡ prove_end k (walk k w.trail.place.count h.walking.passes (shown_at s table (place_of w.trail.place) x))
  unfolding prove_seen shown_by
  prove_at x e =
      ap (prove_end k)
      (h.walking.walked ∙ ap (λ y. walk k w.trail.place.count h.walking.passes (shown_at s table (place_of w.trail.place) y)) e)

  from_fork_lem : (b : Side) → from_trail b h.walking.passes ≡ fork_says s table w.trail.slots b (fork_on b w.left w.right)
  from_fork_lem b = h.walking.found b

  leaf_presence : (i : ℕ) → presence_of (key_in (slot_in counted i s)) (value_inside (slot_in counted i s)) (map step_up h.walking.passes) ≡ presence_at s (path_of w.trail i)
  unfolding presence_at path_steps steps_by
  leaf_presence i = ap (presence_of (key_in (slot_in counted i s)) (value_inside (slot_in counted i s))) h.walking.steps

  leaf_neighbour : (i : ℕ) (b : Side) → w.trail.seen ≡ Leaf i →
      neighbour b k (at_leaf (key_in (slot_in counted i s)) (value_inside (slot_in counted i s)) h.walking.passes) ≡ neighbour_says s table k w b
  unfolding neighbour_says
  leaf_neighbour i b e =
      ap₂ (λ p x. cond (beyond b (key_in (slot_in counted i s)) k) (somebody p) x) (leaf_presence i) (from_fork_lem b)
      ∙ sym (ap (λ y. end_says s k w.trail b y (fork_says s table w.trail.slots b (fork_on b w.left w.right))) e)

  gap_neighbour : (b : Side) → w.trail.seen ≡ Gap → neighbour b k (at_gap h.walking.passes) ≡ neighbour_says s table k w b
  unfolding neighbour_says
  gap_neighbour b e = from_fork_lem b ∙ sym (ap (λ y. end_says s k w.trail b y (fork_says s table w.trail.slots b (fork_on b w.left w.right))) e)

  at_leaf_lem : (i : ℕ) → w.trail.seen ≡ Leaf i →
      prove_seen k (seen (by_table table (store_of s)) v)
      ≡ proved_at s table k w i
  unfolding leaf_at absence_at
  at_leaf_lem i e =
      prove_at (Leaf i) e
      ∙ ap₂ (λ p a. cond (same_bytes k (key_in (slot_in counted i s))) (accepted (presence p)) a) (leaf_presence i)
      (ap₂ (absence_from k) (leaf_neighbour i left e) (leaf_neighbour i right e))

  at_gap_lem : w.trail.seen ≡ Gap → prove_seen k (seen (by_table table (store_of s)) v) ≡ absent_from s table k w
  unfolding absence_at
  at_gap_lem e = prove_at Gap e ∙ ap₂ (absence_from k) (gap_neighbour left e) (gap_neighbour right e)

  -- the walk is stopped
  pub ends_stopped : {p : declared.Plan} (r : ReadRefusal) (t : declared-trouble.Trouble) → w.trail.seen ≡ Stopped t → code r ≡ refusal_of (trouble_says t) →
      p ≡ ended w (Err r) 0 0 → Plans s k (prove_seen k (seen (by_table table (store_of s)) v)) p
  unfolding plan_says
  ends_stopped r t e f q =
      subst (Plans s k (prove_seen k (seen (by_table table (store_of s)) v))) (sym q) (record { says = ap refused f ∙ sym (prove_at (Stopped t) e); within = tt })

  pub ends_at_leaf : {p : declared.Plan} (i : ℕ) → w.trail.seen ≡ Leaf i → Plans s k (proved_at s table k w i) p → Plans s k (prove_seen k (seen (by_table table (store_of s)) v)) p
  ends_at_leaf i e g = plans_of (sym (at_leaf_lem i e)) g

  gap_left : (x : declared-seen.Seen) → w.trail.seen ≡ x → OneOf (0 ∷ 3 ∷ []) (tag_of Seen.the_type x) → w.trail.seen ≡ Gap
  gap_left Gap e o = e
  gap_left (Stopped t) e o = absurd (⊎_elim (λ e. omega arith) (λ e. omega arith) o)
  gap_left (Leaf i) e o = absurd (⊎_elim (λ e. omega arith) (λ e. omega arith) o)
  gap_left (Inner i) e o = absurd (h.ended i e)

  pub ends_at_gap : {p : declared.Plan} → OneOf (0 ∷ 3 ∷ []) (tag_of Seen.the_type w.trail.seen) → Plans s k (absent_from s table k w) p →
      Plans s k (prove_seen k (seen (by_table table (store_of s)) v)) p
  ends_at_gap o g = plans_of (sym (at_gap_lem (gap_left w.trail.seen refl o))) g
