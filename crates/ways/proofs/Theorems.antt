-- What a key read, proving and a root read are stopped by is what their way is stopped by, the first that is met. The walk that is seen ends
-- as the way over the slots says. Assumes nothing.
use Prim.Native.Nat.{ℕ}
use native.Mathlib.Omega.{arith}
use mathlib.Core.Path.{◌≡◌, refl, ap, sym, ◌∙◌, subst}
use mathlib.Core.Logic.{◌↔◌, ◌⊎◌, inl, inr}
use mathlib.Core.Bool.{Bool, true, false, cond, true≢false}
use mathlib.Core.List.{List, [], ◌∷◌, map}
use lib.ListN.{length}
use Rattle.terms.specs.Bits.{Bytes, Side, left, right, Place, longer, All, bit, same_bytes}
use Rattle.terms.specs.Records.{Store, presence}
use Rattle.terms.proofs.Tests.{is_false, same_bytes_lem, bytes_same}
use Rattle.meaning.specs.Store.{child_on}
use Rattle.meaning.specs.Sight.{Sight, matches, nothing, spoilt, root_sight, scan}
use Rattle.meaning.specs.Calls.{Answer, refused, accepted}
use Rattle.meaning.specs.Reading.{Trouble, lost_record, spoilt_record, stray_leaf, beside, refusal_of, seen, walk_stopped, walk, root_read}
use Rattle.meaning.specs.Proving.{step_up, presence_of, Sought, search_stopped, nobody, somebody, beyond, neighbour, from_trail, absence_from, absence_at, prove_end}
use Rattle.ways.specs.Ways.{by_key, Inner, Stop, stopped_by, leaf, missing, Met, stop, AtRoot, Way, ended, misplaced, at_leaf_lem, onward, Walk, KeyStopped, SideStopped, ProofStopped, walk-stopped, left_stopped, right_stopped, RootStopped, EmptyVersion}
use Rattle.ways.proofs.Spoilt.{met_by, root_meets, root_met}
use Rattle.ways.proofs.Walking.{Formed, inner, Above, inner_short, root_above_lem, child_above, root_seen, way_ends, pass_of, end_of, walk_is}
use Rattle.ways.proofs.Descending.{Short, search_said, said_search}

clash : {A : Type 0} → ◌≡◌ {A = ℕ} 0 1 → A
clash e = absurd (omega arith)

no : {A : Type 0} → true ≡ false → A
no e = absurd (true≢false e)

-- a refusal tells what stopped the read
pub one_trouble : (t u : Trouble) → refusal_of t ≡ refusal_of u → t ≡ u
unfolding beside
one_trouble lost_record lost_record e = refl
one_trouble lost_record (spoilt_record j) e = absurd (omega arith)
one_trouble lost_record stray_leaf e = absurd (omega arith)
one_trouble (spoilt_record i) lost_record e = absurd (omega arith)
one_trouble (spoilt_record i) (spoilt_record j) e = let z : i ≡ j = omega arith in ap spoilt_record z
one_trouble (spoilt_record i) stray_leaf e = absurd (omega arith)
one_trouble stray_leaf lost_record e = absurd (omega arith)
one_trouble stray_leaf (spoilt_record j) e = absurd (omega arith)
one_trouble stray_leaf stray_leaf e = refl

other_number : {A : Type 0} (t : Trouble) → 14 ≡ refusal_of t → A
unfolding beside
other_number lost_record e = absurd (omega arith)
other_number (spoilt_record i) e = absurd (omega arith)
other_number stray_leaf e = absurd (omega arith)

told : {A : Type 0} (t u : Trouble) → ◌≡◌ {A = Answer A} (refused (refusal_of t)) (refused (refusal_of u)) → t ≡ u
told t u e = one_trouble t u (cc)

-- an absence is refused by the left search's trouble, else by the right one's
absence_stopped : (k : Bytes) (x y : Sought) (t : Trouble) → absence_from k x y ≡ refused (refusal_of t) →
    (x ≡ search_stopped t) ⊎ (((u : Trouble) → x ≡ search_stopped u → ⊥) × (y ≡ search_stopped t))
absence_stopped k (search_stopped u) y t e = inl (ap search_stopped (told u t e))
absence_stopped k nobody (search_stopped u) t e = inr (λ w f. clash (cc), ap search_stopped (told u t e))
absence_stopped k nobody nobody t e = other_number t (cc)
absence_stopped k nobody (somebody q) t e = clash (cc)
absence_stopped k (somebody p) (search_stopped u) t e = inr (λ w f. clash (cc), ap search_stopped (told u t e))
absence_stopped k (somebody p) nobody t e = clash (cc)
absence_stopped k (somebody p) (somebody q) t e = clash (cc)

stopped_left : (k : Bytes) (x y : Sought) (t : Trouble) → x ≡ search_stopped t → absence_from k x y ≡ refused (refusal_of t)
stopped_left k x y t e = ap (λ z. absence_from k z y) e

stopped_right : (k : Bytes) (x y : Sought) (t : Trouble) → ((u : Trouble) → x ≡ search_stopped u → ⊥) → y ≡ search_stopped t →
    absence_from k x y ≡ refused (refusal_of t)
stopped_right k (search_stopped u) y t n e = absurd (n u refl)
stopped_right k nobody y t n e = ap (absence_from k nobody) e
stopped_right k (somebody p) y t n e = ap (absence_from k (somebody p)) e

-- the root lookup
module _ (st : Store) (v : ℕ) where
  -- A version is empty exactly if no slot matches a root for it, and none that is spoilt agrees.
  pub empty_exactly : (root_sight st v ≡ nothing) ↔ EmptyVersion st v
  empty_exactly = (λ e. subst (AtRoot st v) (ap (met_by missing) e) (root_meets st v), λ w. back (root_sight st v) (root_met st v (stop missing) w))
    where
      back : (x : Sight) → met_by missing x ≡ stop missing → x ≡ nothing
      back (matches r) e = clash (cc)
      back nothing e = refl
      back (spoilt i) e = clash (cc)

  -- A root read is stopped exactly if the root is spoilt.
  pub root_stopped_exactly : (leaf_hash inner_hash : Bytes → Bytes → Bytes) (t : Trouble) →
      (root_read leaf_hash inner_hash (root_sight st v) ≡ refused (refusal_of t)) ↔ RootStopped st v t
  root_stopped_exactly leaf_hash inner_hash t = (there (root_sight st v) (root_meets st v), λ w. back (root_sight st v) (root_met st v (stop (stopped_by t)) w))
    where
      there : (x : Sight) → AtRoot st v (met_by missing x) → root_read leaf_hash inner_hash x ≡ refused (refusal_of t) → RootStopped st v t
      there (matches r) w e = clash (cc)
      there nothing w e = clash (cc)
      there (spoilt i) w e = subst (RootStopped st v) (told (spoilt_record i) t e) w

      back : (x : Sight) → met_by missing x ≡ stop (stopped_by t) → root_read leaf_hash inner_hash x ≡ refused (refusal_of t)
      back (matches r) e = clash (cc)
      back nothing e = clash (cc)
      back (spoilt i) e = let same : spoilt_record i ≡ t = cc in ap (λ u. refused (refusal_of u)) same

module _ (st : Store) (formed : Formed st) (v : ℕ) (k : Bytes) where
  -- the records passed stand above the places of whole keys
  way_short_lem : (before : List Inner) (p : Place) (m : Met) (passed : List Inner) (end : Stop) → Way st (by_key k) before p m passed end →
      Above p m → All (Short st formed) before → All (Short st formed) passed
  way_short_lem before p m passed end ended a h = h
  way_short_lem before p m passed end (misplaced l x e f) a h = h
  way_short_lem before p m passed end (at_leaf_lem l x e f) a h = h
  way_short_lem before p m passed end (onward {r = r} l c {met = met} e g w) a h =
      let b = bit (length p) k in
      way_short_lem (inner p l c ∷ before) (longer b p) met passed end w (child_above st formed (longer b p) (child_on b l c) met g)
      (omega (arith, inner_short p r l c e a), h)

  walk_short : (passed : List Inner) (end : Stop) → Walk st v k passed end → All (Short st formed) passed
  walk_short passed end (m, a, w) = way_short_lem [] [] m passed end w (root_above_lem m) tt

  -- every walk ends
  walks : (passed : List Inner) × (end : Stop) × Walk st v k passed end
  walks =
      let m = met_by missing (root_sight st v) in
      let w = way_ends st formed 256 (by_key k) [] [] m refl (root_above_lem m) in
      (w.0, w.1, (m, root_meets st v, w.2))

  -- and is the one that is seen
  walk_seen : (passed : List Inner) (end : Stop) → Walk st v k passed end → walk k 0 [] (seen (scan st) v) ≡ end_of st formed k passed end
  walk_seen passed end (m, a, w) =
      ap (walk k 0 []) (root_seen st formed v m a) ∙ walk_is st formed k [] [] m passed end w 256 0 refl refl (root_above_lem m)

  -- A key read is stopped exactly as the walk is.
  pub key_stopped_exactly : (t : Trouble) → (walk k 0 [] (seen (scan st) v) ≡ walk_stopped t) ↔ KeyStopped st v k t
  key_stopped_exactly t =
      (λ e. let w = walks in go w.0 w.1 w.2 (sym (walk_seen w.0 w.1 w.2) ∙ e), λ l. walk_seen l.0 (stopped_by t) l.1)
    where
      go : (passed : List Inner) (end : Stop) → Walk st v k passed end → end_of st formed k passed end ≡ walk_stopped t → KeyStopped st v k t
      go passed (stopped_by u) w e = let z : u ≡ t = cc in (passed, subst (λ d. Walk st v k passed (stopped_by d)) z w)
      go passed (leaf l x) w e = clash (cc)
      go passed missing w e = clash (cc)

  -- the neighbours where the walk ends, neither stopped nor at the key
  abbrev Ended : Stop → Type 0
  Ended end = (u : Trouble) → end ≡ stopped_by u → ⊥

  abbrev Absent : Stop → Type 0
  Absent end = (x : Bytes) → end ≡ leaf k x → ⊥

  side_said : (passed : List Inner) (end : Stop) → Walk st v k passed end → Ended end → Absent end → (b : Side) (t : Trouble) →
      neighbour b k (end_of st formed k passed end) ≡ search_stopped t → SideStopped st k passed end b t
  side_said passed (stopped_by u) w d n b t e = absurd (d u refl)
  side_said passed missing w d n b t e = record {
    ended = d;
    absent = n;
    other = λ l x z. clash (cc);
    descent = search_said st formed b k t passed (walk_short passed missing w) e;
  }
  side_said passed (leaf l x) w d n b t e = go (beyond b l k) refl e
    where
      go : (c : Bool) → beyond b l k ≡ c → cond c (somebody (presence_of l x (map step_up (map (pass_of st formed k) passed)))) (from_trail b (map (pass_of st formed k) passed)) ≡ search_stopped t →
          SideStopped st k passed (leaf l x) b t
      go true f g = clash (cc)
      go false f g = record {
        ended = d;
        absent = n;
        other = λ m y z. let same : l ≡ m = cc in subst (λ h. beyond b h k ≡ false) same f;
        descent = search_said st formed b k t passed (walk_short passed (leaf l x) w) g;
      }

  said_side : (passed : List Inner) (end : Stop) → Walk st v k passed end → (b : Side) (t : Trouble) → SideStopped st k passed end b t →
      neighbour b k (end_of st formed k passed end) ≡ search_stopped t
  said_side passed (stopped_by u) w b t n = absurd (n.ended u refl)
  said_side passed missing w b t n = said_search st formed b k t passed (walk_short passed missing w) n.descent
  said_side passed (leaf l x) w b t n =
      rw (n.other l x refl) (said_search st formed b k t passed (walk_short passed (leaf l x) w) n.descent)

  absent_stopped : (passed : List Inner) (end : Stop) (t : Trouble) → Walk st v k passed end → Ended end → Absent end →
      absence_at k (end_of st formed k passed end) ≡ refused (refusal_of t) → ProofStopped st v k t
  unfolding absence_at
  absent_stopped passed end t w d n e =
      let z = end_of st formed k passed end in go (absence_stopped k (neighbour left k z) (neighbour right k z) t e)
    where
      go : (neighbour left k (end_of st formed k passed end) ≡ search_stopped t)
          ⊎ (((u : Trouble) → neighbour left k (end_of st formed k passed end) ≡ search_stopped u → ⊥) × (neighbour right k (end_of st formed k passed end) ≡ search_stopped t)) →
          ProofStopped st v k t
      go (inl f) = left_stopped w (side_said passed end w d n left t f)
      go (inr (f, g)) = right_stopped w (λ u s. f u (said_side passed end w left u s)) (side_said passed end w d n right t g)

  end_stopped : (passed : List Inner) (end : Stop) (t : Trouble) → Walk st v k passed end → prove_end k (end_of st formed k passed end) ≡ refused (refusal_of t) → ProofStopped st v k t
  end_stopped passed (stopped_by u) t w e = walk-stopped (passed, subst (λ d. Walk st v k passed (stopped_by d)) (told u t e) w)
  end_stopped passed missing t w e = absent_stopped passed missing t w (λ u z. clash (cc)) (λ x z. clash (cc)) e
  end_stopped passed (leaf l x) t w e = go (same_bytes k l) refl e
    where
      go : (c : Bool) → same_bytes k l ≡ c →
          cond c (accepted (presence (presence_of l x (map step_up (map (pass_of st formed k) passed))))) (absence_at k (end_of st formed k passed (leaf l x))) ≡ refused (refusal_of t) →
          ProofStopped st v k t
      go true f g = clash (cc)
      go false f g =
          absent_stopped passed (leaf l x) t w (λ u z. clash (cc))
          (λ y z. let same : l ≡ k = cc in no (sym (subst (λ h. same_bytes k h ≡ true) (sym same) (bytes_same k)) ∙ f)) g

  -- and back
  absent_back : (passed : List Inner) (end : Stop) (t : Trouble) → Ended end → Absent end →
      absence_at k (end_of st formed k passed end) ≡ refused (refusal_of t) → prove_end k (end_of st formed k passed end) ≡ refused (refusal_of t)
  absent_back passed (stopped_by u) t d n e = absurd (d u refl)
  absent_back passed missing t d n e = e
  absent_back passed (leaf l x) t d n e = rw (is_false (same_bytes k l) (λ h. n x (ap (λ m. leaf m x) (sym (same_bytes_lem k l h))))) e

  -- Proving is stopped exactly by the first that is met: the walk's, the left descent's, the right descent's.
  pub proof_stopped_exactly : (t : Trouble) → (prove_end k (walk k 0 [] (seen (scan st) v)) ≡ refused (refusal_of t)) ↔ ProofStopped st v k t
  unfolding absence_at
  proof_stopped_exactly t = (there, back)
    where
      there : prove_end k (walk k 0 [] (seen (scan st) v)) ≡ refused (refusal_of t) → ProofStopped st v k t
      there e =
          let w = walks in
          end_stopped w.0 w.1 t w.2 (ap (prove_end k) (sym (walk_seen w.0 w.1 w.2)) ∙ e)

      back : ProofStopped st v k t → prove_end k (walk k 0 [] (seen (scan st) v)) ≡ refused (refusal_of t)
      back (walk-stopped l) = ap (prove_end k) (walk_seen l.0 (stopped_by t) l.1)
      back (left_stopped {passed} {end} w s) =
          let z = end_of st formed k passed end in
          ap (prove_end k) (walk_seen passed end w)
          ∙ absent_back passed end t s.ended s.absent (stopped_left k (neighbour left k z) (neighbour right k z) t (said_side passed end w left t s))
      back (right_stopped {passed} {end} w m s) =
          let z = end_of st formed k passed end in
          ap (prove_end k) (walk_seen passed end w)
          ∙ absent_back passed end t s.ended s.absent
          (stopped_right k (neighbour left k z) (neighbour right k z) t (λ u e. m u (side_said passed end w s.ended s.absent left u e)) (said_side passed end w right t s))
