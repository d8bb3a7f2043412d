-- The neighbours' records and the absence proof, field by field: head, key, left and right neighbour fill its bytes. Assumes nothing.
use Prim.Native.Nat.{ℕ, ◌+◌, ◌*◌, ◌-◌, ◌≤◌}
use native.Mathlib.Omega.{arith}
use mathlib.Core.Path.{◌≡◌, refl, ap, ap₂, sym, ◌∙◌, subst}
use mathlib.Core.List.{[], ◌∷◌}
use lib.ListN.{length}
use Rattle.terms.specs.Bits.{Bytes}
use Rattle.terms.specs.Fields.{le, flat}
use Rattle.terms.proofs.Fields.{length_le, Sized}
use Rattle.fields.specs.Written.{written}
use Rattle.fields.proofs.Written.{part_written, fields_fill}
use Rattle.proofrecords.specs.ProofBytes.{neighbour_bytes, flags_of, absence_bytes}
use Rattle.prove_paths.proofs.Records.{given, presence_long}
use Rattle.prove_paths.specs.Paths.{PathIn}
use Rattle.prove_paths.specs.Neighbours.{way_at, found, neighbour_at, WayIn, NeighbourIn, way_room, room_for, way_flag, flag_for, absent_of}
use Rattle.prove_paths.specs.declared.Path as declared-path
use Rattle.prove_paths.specs.declared.Way as declared-way
use Rattle.prove_paths.specs.declared.Way.TheVariants.{Stopped, Nobody, Somebody}
use Rattle.prove_paths.specs.declared.Sought as declared

way_flag_lem : (v : declared-way.Way) (bit : ℕ) → way_flag v bit ≤ bit
way_flag_lem (Stopped t) bit = omega arith
way_flag_lem Nobody bit = omega arith
way_flag_lem Somebody bit = omega arith

pub flag_most : (n : declared.Sought) (bit : ℕ) → flag_for n bit ≤ bit
unfolding flag_for
flag_most n bit = way_flag_lem n.way bit

way_long : (s : Bytes) (v : declared-way.Way) (p : declared-path.Path) → WayIn s v p → length (neighbour_bytes (found (way_at s v p))) ≡ way_room v p
way_long s (Stopped t) p w = refl
way_long s Nobody p w = refl
way_long s Somebody p w = presence_long s p w

pub neighbour_long : (s : Bytes) (n : declared.Sought) → NeighbourIn s n → length (neighbour_bytes (neighbour_at s n)) ≡ room_for n
unfolding neighbour_at room_for
neighbour_long s n w = way_long s n.way n.path w

flags_ways : (s : Bytes) (v w : declared-way.Way) (p q : declared-path.Path) →
    way_flag v 1 + way_flag w 2 ≡ flags_of (found (way_at s v p)) (found (way_at s w q))
flags_ways s (Stopped t) (Stopped u) p q = refl
flags_ways s (Stopped t) Nobody p q = refl
flags_ways s (Stopped t) Somebody p q = refl
flags_ways s Nobody (Stopped t) p q = refl
flags_ways s Nobody Nobody p q = refl
flags_ways s Nobody Somebody p q = refl
flags_ways s Somebody (Stopped t) p q = refl
flags_ways s Somebody Nobody p q = refl
flags_ways s Somebody Somebody p q = refl

flags_are : (s : Bytes) (n m : declared.Sought) → flag_for n 1 + flag_for m 2 ≡ flags_of (neighbour_at s n) (neighbour_at s m)
unfolding flag_for neighbour_at
flags_are s n m = flags_ways s n.way m.way n.path m.path

-- nobody's record is empty
empty : (x : Bytes) → length x ≡ 0 → x ≡ []
empty [] h = refl
empty (a ∷ x) h = absurd (omega arith)

pub somebody_in : {v : declared-way.Way} (s part : Bytes) (p : declared-path.Path) → v ≡ Somebody → WayIn s v p → length part ≡ way_room v p →
    PathIn s p × (length part ≡ 72 + 33 * p.place.count)
somebody_in s part p e w l = (subst (λ u. WayIn s u p) e w, l ∙ ap (λ u. way_room u p) e)

pub nobody_put : {v : declared-way.Way} (s part : Bytes) (p : declared-path.Path) (u : declared-way.Way) → v ≡ u → way_room u p ≡ 0 → neighbour_bytes (found (way_at s u p)) ≡ [] →
    length part ≡ way_room v p → part ≡ neighbour_bytes (found (way_at s v p))
nobody_put s part p u e z n l = empty part (l ∙ ap (λ t. way_room t p) e ∙ z) ∙ sym n ∙ ap (λ t. neighbour_bytes (found (way_at s t p))) (sym e)

-- head, key, and the neighbours' records, left first
pub absence_put : {a b c y l r : Bytes} {flags middle : ℕ} (s : Bytes) (m n : declared.Sought) (k part : Bytes) → NeighbourIn s m → NeighbourIn s n →
    length part ≡ 40 + room_for m + room_for n → length k ≡ 32 → flags ≡ flag_for m 1 + flag_for n 2 → middle ≡ 40 + room_for m →
    a ≡ written 0 (le 4 (length part)) part → b ≡ written 4 (le 2 17) a → c ≡ written 6 (le 2 flags) b → y ≡ k → l ≡ neighbour_bytes (neighbour_at s m) →
    r ≡ neighbour_bytes (neighbour_at s n) →
    given middle (length part) (given 40 middle (given 8 40 c y) l) r ≡ absence_bytes (absent_of k (neighbour_at s m) (neighbour_at s n))
unfolding absence_bytes
absence_put {a} {b} {c} {y} {l} {r} {flags} {middle} s m n k part hm hn size lk ef em ea eb ec ey el er =
    let f = neighbour_bytes (neighbour_at s m) in
    let g = neighbour_bytes (neighbour_at s n) in
    let lf : length f ≡ room_for m = neighbour_long s m hm in
    let lg : length g ≡ room_for n = neighbour_long s n hn in
    let len : length part ≡ 40 + length f + length g = omega arith in
    let q : middle ≡ 40 + length f = omega arith in
    let fs = le 4 (length part) ∷ le 2 17 ∷ le 2 flags ∷ k ∷ f ∷ g ∷ [] in
    let sized : Sized (4 ∷ 2 ∷ 2 ∷ 32 ∷ length f ∷ length g ∷ []) fs = (length_le 4 _, (length_le 2 17, (length_le 2 flags, (lk, (refl, (refl, tt)))))) in
    let head = given 8 40 c y in
    let w : head ≡ written 8 k (written 6 (le 2 flags) (written 4 (le 2 17) (written 0 (le 4 (length part)) part))) =
    rw (ey, part_written 8 40 k c (ap (8 +◌) lk), ec, eb, ea)
    in
    let u : given 40 middle head l ≡ written 40 f head = ap (given 40 middle head) el ∙ part_written 40 middle f head (sym q) in
    let done : given middle (length part) (given 40 middle head l) r ≡ flat fs =
    ap (given middle (length part) (given 40 middle head l)) er
    ∙ part_written middle (length part) g (given 40 middle head l) (omega arith)
    ∙ ap₂ (λ (i : ℕ) z. written i g z) q (u ∙ ap (written 40 f) w)
    ∙ fields_fill (4 ∷ 2 ∷ 2 ∷ 32 ∷ length f ∷ length g ∷ []) fs part sized (omega arith)
    in
    done ∙ ap₂ (λ (i j : ℕ). flat (le 4 i ∷ le 2 17 ∷ le 2 j ∷ k ∷ f ∷ g ∷ [])) len (ef ∙ flags_are s m n)
