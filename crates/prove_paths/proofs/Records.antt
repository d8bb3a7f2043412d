-- Writing a proof field by field is writing its bytes: head, key, value and steps fill a presence proof; head, key and the neighbours' records
-- an absence proof. Assumes nothing.
use Prim.Native.Nat.{ℕ, zero, suc, ◌+◌, ◌*◌, ◌-◌, ◌<◌, ◌≤◌}
use native.Mathlib.Omega.{arith}
use mathlib.Core.Path.{◌≡◌, refl, ap, ap₂, sym, ◌∙◌}
use mathlib.Core.Bool.{not}
use mathlib.Core.List.{List, [], ◌∷◌, ◌++◌}
use lib.ListN.{length, get_or, take, drop, length-append, length-take, length-drop}
use Rattle.terms.specs.declared.Form.TheVariants.{Counted as counted}
use Rattle.terms.specs.Bits.{Bytes, left, Place}
use Rattle.terms.specs.Fields.{le, flat}
use Rattle.terms.specs.Records.{Child}
use Rattle.terms.proofs.Fields.{length_le, Sized, length_flat, flat_append}
use Rattle.fields.specs.Written.{written}
use Rattle.fields.proofs.Written.{part_written, fields_fill}
use Rattle.place.specs.Place.{place_of}
use Rattle.layout.specs.Slots.{key_in, value_inside, grant_in}
use Rattle.layout.specs.Stores.{slot_in, SlotWithin}
use Rattle.slots.proofs.Parts.{grant_parts, key_long, value_long, grant_long, kid_long}
use Rattle.layout.proofs.Headers.{size_long}
use Rattle.store.proofs.Slots.{slot_long}
use Rattle.proofrecords.specs.ProofBytes.{steps_bytes, presence_bytes}
use Rattle.read_step.specs.Walk.{kid_in}
use Rattle.read_step.proofs.Seeing.{kid_is}
use Rattle.prove_paths.specs.Paths.{step_at, steps_of, path_steps, presence_at, PathIn}
use Rattle.prove_paths.specs.Neighbours.{WayIn, NeighbourIn, way_room, room_for}
use Rattle.prove_paths.specs.declared.Path as declared-path
use Rattle.prove_paths.specs.declared.Way as declared-way
use Rattle.prove_paths.specs.declared.Way.TheVariants.{Stopped, Nobody, Somebody}
use Rattle.prove_paths.specs.declared.Sought as declared

-- what is left of a slice whose part from i to e was lent and came back as y
abbrev pub given : ℕ → ℕ → Bytes → Bytes → Bytes
given i e s y = take i s ++ (y ++ drop (e - i) (drop i s))

-- how long a part is, and that the whole stays as long
pub part_room : (i e n : ℕ) (x : Bytes) → i + n ≡ e → e ≤ length x → length (take (e - i) (drop i x)) ≡ n
part_room i e n x h l = simp (length-take, length-drop) (omega arith)

pub given_long : (i e : ℕ) (s y : Bytes) → i ≤ e → e ≤ length s → length y ≡ length (take (e - i) (drop i s)) → length (given i e s y) ≡ length s
given_long i e s y a b h = simp (length-append, length-take, length-drop) (omega (arith, part_room i e (e - i) s (omega arith) b))

-- lengths
pub steps_count : (s : Bytes) (slots : List ℕ) (p : Place) (n : ℕ) → length (steps_of s slots p n) ≡ n
steps_count s slots p zero = refl
steps_count s slots p (suc n) = ap suc (steps_count s slots p n)

steps_long : (s : Bytes) (slots : List ℕ) (p : Place) (n : ℕ) → ((j : ℕ) → j < n → SlotWithin counted (get_or slots j 0) s) →
    length (steps_bytes (steps_of s slots p n)) ≡ 33 * n
unfolding step_at kid_in
steps_long s slots p zero h = refl
steps_long s slots p (suc n) h =
    let b = not (get_or p n left) in
    let x = slot_in counted (get_or slots n 0) s in
    let k : length (kid_in (get_or slots n 0) s b).hash ≡ 32 =
    ap (λ (c : Child). length c.hash) (sym (kid_is b x)) ∙ kid_long x (size_long counted x (slot_long counted (get_or slots n 0) s (h n (omega arith)))) b
    in
    let r = steps_long s slots p n (λ j l. h j (omega arith)) in
    simp length-append (omega arith)

-- head, key and value, steps
presence_filled : {a b c g y z : Bytes} {len count : ℕ} (x : Bytes) (n : ℕ) (f part : Bytes) → length part ≡ 72 + 33 * n → len ≡ length part → count ≡ n →
    length g ≡ 64 → length f ≡ 33 * n → a ≡ written 0 (le 4 len) part → b ≡ written 4 (le 2 16) a → c ≡ written 6 (le 2 count) b → g ≡ grant_in x → y ≡ g → z ≡ f →
    given 72 len (given 8 72 c y) z
    ≡ flat (le 4 (72 + 33 * n) ∷ le 2 16 ∷ le 2 n ∷ key_in x ∷ value_inside x ∷ f ∷ [])
unfolding le
presence_filled {a} {b} {c} {g} {y} {z} {len} {count} x n f part l el ec lg lf ea eb ec2 eg ey ez =
    let m : len ≡ 72 + 33 * n = el ∙ l in
    let fs = le 4 len ∷ le 2 16 ∷ le 2 count ∷ g ∷ f ∷ [] in
    let sized : Sized (4 ∷ 2 ∷ 2 ∷ 64 ∷ 33 * n ∷ []) fs = (length_le 4 len, (length_le 2 16, (length_le 2 count, (lg, (lf, tt))))) in
    let w : given 8 72 c y ≡ written 8 g (written 6 (le 2 count) (written 4 (le 2 16) (written 0 (le 4 len) part))) =
    rw (ey, part_written 8 72 g c (ap (8 +◌) lg), ec2, eb, ea)
    in
    let done : given 72 len (given 8 72 c y) z ≡ flat fs =
    ap (given 72 len (given 8 72 c y)) ez
    ∙ part_written 72 len f (given 8 72 c y) (omega arith)
    ∙ ap (written 72 f) w
    ∙ fields_fill (4 ∷ 2 ∷ 2 ∷ 64 ∷ 33 * n ∷ []) fs part sized (omega arith)
    in
    done
    ∙ ap₂ (λ (i j : ℕ). flat (le 4 i ∷ le 2 16 ∷ le 2 j ∷ g ∷ f ∷ [])) m ec
    ∙ ap (λ u. flat (le 4 (72 + 33 * n) ∷ le 2 16 ∷ le 2 n ∷ u ∷ f ∷ [])) (eg ∙ grant_parts x)
    ∙ ap (λ u. flat (le 4 (72 + 33 * n) ∷ le 2 16 ∷ le 2 n ∷ []) ++ u) (sym (flat_append (key_in x ∷ value_inside x ∷ []) (f ∷ [])))

pub presence_put : {a b c g x y z : Bytes} (s : Bytes) (p : declared-path.Path) (part : Bytes) → PathIn s p → length part ≡ 72 + 33 * p.place.count →
    a ≡ written 0 (le 4 (length part)) part → b ≡ written 4 (le 2 16) a → c ≡ written 6 (le 2 p.place.count) b → x ≡ slot_in counted p.at s →
    g ≡ grant_in x → y ≡ g → z ≡ steps_bytes (path_steps s p) → given 72 (length part) (given 8 72 c y) z ≡ presence_bytes (presence_at s p)
unfolding presence_bytes presence_at path_steps
presence_put {a} {b} {c} {g} {x} s p part w l ea eb ec ex eg ey ez =
    let steps = steps_of s p.slots (place_of p.place) p.place.count in
    let n : p.place.count ≡ length steps = sym (steps_count s p.slots (place_of p.place) p.place.count) in
    let e : g ≡ grant_in (slot_in counted p.at s) = eg ∙ ap grant_in ex in
    let lg : length g ≡ 64 = ap length e ∙ grant_long (slot_in counted p.at s) (size_long counted (slot_in counted p.at s) (slot_long counted p.at s w.end)) in
    presence_filled (slot_in counted p.at s) (length steps) (steps_bytes steps) part (l ∙ ap (λ (k : ℕ). 72 + 33 * k) n) refl n lg
    (steps_long s p.slots (place_of p.place) p.place.count w.above ∙ ap (33 *◌) n) ea eb ec e ey ez

pub presence_long : (s : Bytes) (p : declared-path.Path) → PathIn s p → length (presence_bytes (presence_at s p)) ≡ 72 + 33 * p.place.count
unfolding presence_bytes presence_at path_steps
presence_long s p w =
    let n = p.place.count in
    let steps = steps_of s p.slots (place_of p.place) n in
    let x = slot_in counted p.at s in
    let h = size_long counted (slot_in counted p.at s) (slot_long counted p.at s w.end) in
    let fs = le 4 (72 + 33 * length steps) ∷ le 2 16 ∷ le 2 (length steps) ∷ key_in x ∷ value_inside x ∷ steps_bytes steps ∷ [] in
    let k = steps_long s p.slots (place_of p.place) n w.above in
    let sized : Sized (4 ∷ 2 ∷ 2 ∷ 32 ∷ 32 ∷ 33 * n ∷ []) fs =
    (length_le 4 _, (length_le 2 16, (length_le 2 (length steps), (key_long x h, (value_long x h, (k, tt))))))
    in
    length_flat (4 ∷ 2 ∷ 2 ∷ 32 ∷ 32 ∷ 33 * n ∷ []) fs sized ∙ omega arith

-- a neighbour, by the ways a search ends
way_count : (s : Bytes) (v : declared-way.Way) (p : declared-path.Path) → WayIn s v p → p.place.count ≤ 256
way_count s (Stopped t) p w = w
way_count s Nobody p w = w
way_count s Somebody p w = w.proper.short

pub neighbour_count : (s : Bytes) (n : declared.Sought) → NeighbourIn s n → n.path.place.count ≤ 256
neighbour_count s n w = way_count s n.way n.path w

way_most : (v : declared-way.Way) (p : declared-path.Path) → p.place.count ≤ 256 → way_room v p ≤ 8520
way_most (Stopped t) p h = omega arith
way_most Nobody p h = omega arith
way_most Somebody p h = omega arith

pub room_most : (s : Bytes) (n : declared.Sought) → NeighbourIn s n → room_for n ≤ 8520
unfolding room_for
room_most s n w = way_most n.way n.path (neighbour_count s n w)
