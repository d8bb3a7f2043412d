-- Writing a record field by field is writing its bytes: the fields fill the slot, one after the other. Assumes nothing.
use Prim.Native.Nat.{ℕ, ◌+◌, ◌-◌, ◌<◌, ◌≤◌}
use native.Mathlib.Omega.{arith}
use mathlib.Core.Path.{◌≡◌, refl, ap, ap₂, sym, ◌∙◌}
use mathlib.Core.List.{[], ◌∷◌, ◌++◌, append_assoc, append-nil}
use lib.ListN.{length, take, drop, drop_of_length-le, length-take, length-drop, take-append-drop}
use lib.Seq.{take_all}
use Rattle.terms.specs.declared.Form.{Form}
use Rattle.terms.specs.declared.Form.TheVariants.{Plain as plain, Counted as counted}
use Rattle.terms.specs.Bits.{Bytes, Place, pack}
use Rattle.terms.specs.Fields.{le, slice, zero_bytes, flat}
use Rattle.terms.specs.Records.{Child, inner_body, Tally, no_tally, used}
use Rattle.terms.proofs.Places.{length_pack}
use Rattle.terms.proofs.Fields.{length_le, length_zero_bytes, Sized, length_flat, flat_append}
use Rattle.fields.specs.Written.{written}
use Rattle.fields.proofs.Written.{length_written, part_written, fields_written_lem, fields_fill}
use Rattle.layout.specs.Sizes.{slot_size, inner_kind}
use Rattle.layout.specs.Slots.{record_of, head_fields, child_fields, count_fields, record_bytes, slot_bytes}
use Rattle.layout.proofs.Headers.{size_small}
use Rattle.slots.specs.Answer.{grant_body}

-- what is left of a slice whose part from i to e was lent and came back as y
abbrev given : ℕ → ℕ → Bytes → Bytes → Bytes
given i e s y = take i s ++ (y ++ drop (e - i) (drop i s))

head_sized : (n k : ℕ) (p : Place) (v m : ℕ) → Sized (4 ∷ 2 ∷ 2 ∷ 32 ∷ 4 ∷ 4 ∷ []) (head_fields n k p v m)
head_sized n k p v m = (length_le 4 n, (length_le 2 k, (length_le 2 _, (length_pack 32 p, (length_le 4 v, (length_le 4 m, tt))))))

length_head : (n k : ℕ) (p : Place) (v m : ℕ) → length (flat (head_fields n k p v m)) ≡ 48
length_head n k p v m = length_flat (4 ∷ 2 ∷ 2 ∷ 32 ∷ 4 ∷ 4 ∷ []) (head_fields n k p v m) (head_sized n k p v m)

pub head_put : {a b c e f y : Bytes} {count : ℕ} (n k : ℕ) (p : Place) (v m : ℕ) (s : Bytes) → 120 ≤ length s → count ≡ length p → y ≡ pack 32 p →
    a ≡ written 0 (le 4 n) s → b ≡ written 4 (le 2 k) a → c ≡ written 6 (le 2 count) b → e ≡ written 40 (le 4 v) (given 8 40 c y) → f ≡ written 44 (le 4 m) e →
    f ≡ written 0 (flat (head_fields n k p v m)) s
head_put {a} {b} {c} n k p v m s l g h q r t u w =
    rw (w, u, h, part_written 8 40 (pack 32 p) c (ap (8 +◌) (length_pack 32 p)), t, g, r, q)
    (fields_written_lem (4 ∷ 2 ∷ 2 ∷ 32 ∷ 4 ∷ 4 ∷ []) 0 (head_fields n k p v m) s (head_sized n k p v m) (omega arith))

-- the hash fills its part
pub child_put : {a y : Bytes} (i : ℕ) (c : Child) (s : Bytes) → i + 36 ≤ length s → length c.hash ≡ 32 → a ≡ written i (le 4 c.version) s →
    y ≡ c.hash ++ drop 32 (take (i + 4 + 32 - (i + 4)) (drop (i + 4) a)) → given (i + 4) (i + 4 + 32) a y ≡ written i (flat (child_fields c)) s
child_put {a} {y} i c s l h p q =
    let d : drop 32 (take (i + 4 + 32 - (i + 4)) (drop (i + 4) a)) ≡ [] =
    drop_of_length-le (take (i + 4 + 32 - (i + 4)) (drop (i + 4) a)) {i = 32} (simp length-take (omega arith))
    in
    let e : y ≡ c.hash = q ∙ ap (c.hash ++◌) d ∙ append-nil c.hash in
    rw (e, part_written (i + 4) (i + 4 + 32) c.hash a (ap (i + 4 +◌) h), p)
    (fields_written_lem (4 ∷ 32 ∷ []) i (child_fields c) s (length_le 4 _, (h, tt)) (omega arith))

length_child : (c : Child) → length c.hash ≡ 32 → length (flat (child_fields c)) ≡ 36
length_child c h = length_flat (4 ∷ 32 ∷ []) (child_fields c) (length_le 4 _, (h, tt))

-- a grant is its key and its value
grant_parts : (g : Bytes) → length g ≡ 64 → g ≡ slice 0 32 g ++ slice 32 32 g
unfolding slice
grant_parts g k = sym (ap (take 32 g ++◌) (take_all 32 (drop 32 g) (simp length-drop (omega arith))) ∙ take-append-drop 32 g)

long : (g h s : Bytes) → length g ≡ 64 → length h ≡ 48 → 112 ≤ length s → length (written 48 g (written 0 h s)) ≡ length s
long g h s k e l =
    let a = length_written 0 h s (omega arith) in
    length_written 48 g (written 0 h s) (omega arith) ∙ a

-- a leaf's zero bytes, 8 or 16
tail_is : (fm : Form) → zero_bytes (slot_size fm - 112) ++ [] ≡ flat (zero_bytes 8 ∷ count_fields fm no_tally)
unfolding zero_bytes le
tail_is plain = refl
tail_is counted = refl

-- head, grant, zero to the end
pub leaf_put : (fm : Form) {a y z : Bytes} (p : Place) (v m : ℕ) (g s : Bytes) → length s ≡ slot_size fm → length g ≡ 64 → a ≡ written 0 (flat (head_fields 112 2 p v m)) s → y ≡ g →
    z ≡ zero_bytes (length (take (length s - 112) (drop 112 (given 48 112 a y)))) →
    given 112 (length s) (given 48 112 a y) z ≡ slot_bytes fm (used (record_of p v m (grant_body g) no_tally))
unfolding slot_bytes record_bytes grant_body
leaf_put fm {a} {y} {z} p v m g s l k q r t =
    let small = size_small fm in
    let h = flat (head_fields 112 2 p v m) in
    let j = length s - 112 in
    let sized : Sized (48 ∷ 64 ∷ j ∷ []) (h ∷ g ∷ zero_bytes j ∷ []) = (length_head 112 2 p v m, (k, (length_zero_bytes j, tt))) in
    let b : given 48 112 a y ≡ written 48 g (written 0 h s) =
    ap (given 48 112 a) r ∙ part_written 48 112 g a (ap (48 +◌) k) ∙ ap (written 48 g) q
    in
    let n : length (written 48 g (written 0 h s)) ≡ length s = long g h s k (length_head 112 2 p v m) (omega arith) in
    let e : length (take j (drop 112 (written 48 g (written 0 h s)))) ≡ j = simp (length-take, length-drop) (omega arith) in
    let zj : z ≡ zero_bytes j = t ∙ ap (λ x. zero_bytes (length (take j (drop 112 x)))) b ∙ ap zero_bytes e in
    let w : 112 + length (zero_bytes j) ≡ length s = omega (arith, length_zero_bytes j) in
    ap (given 112 (length s) (given 48 112 a y)) zj
    ∙ part_written 112 (length s) (zero_bytes j) (given 48 112 a y) w
    ∙ ap (written 112 (zero_bytes j)) b
    ∙ fields_fill (48 ∷ 64 ∷ j ∷ []) (h ∷ g ∷ zero_bytes j ∷ []) s sized (omega arith)
    ∙ ap₂ (λ x d. h ++ (x ++ (zero_bytes d ++ []))) (grant_parts g k) (ap (◌- 112) l)
    ∙ ap (λ x. h ++ ((slice 0 32 g ++ slice 32 32 g) ++ x)) (tail_is fm)
    ∙ ap (h ++◌) (append_assoc (slice 0 32 g) (slice 32 32 g) (flat (zero_bytes 8 ∷ count_fields fm no_tally)))
    ∙ sym (flat_append (head_fields 112 2 p v m) (slice 0 32 g ∷ slice 32 32 g ∷ zero_bytes 8 ∷ count_fields fm no_tally))

-- head, left child, right child, and the counts in the counted form
module _ {a b c : Bytes} (p : Place) (v m : ℕ) (x y : Child) (s : Bytes) (h : length x.hash ≡ 32) (k : length y.hash ≡ 32) {size kind : ℕ}
    (i : kind ≡ inner_kind size) (q : a ≡ written 0 (flat (head_fields size kind p v m)) s) (r : b ≡ written 48 (flat (child_fields x)) a) (t : c ≡ written 84 (flat (child_fields y)) b) where
  pub plain_put : (fm : Form) (n : Tally) → size < 128 → length s ≡ size → length s ≡ slot_size fm → c ≡ slot_bytes fm (used (record_of p v m (inner_body x y) n))
  unfolding slot_bytes record_bytes
  plain_put plain n o l d =
      let fs = flat (head_fields 120 3 p v m) ∷ flat (child_fields x) ∷ flat (child_fields y) ∷ [] in
      let sized : Sized (48 ∷ 36 ∷ 36 ∷ []) fs = (length_head 120 3 p v m, (length_child x h, (length_child y k, tt))) in
      let e : flat (head_fields size kind p v m) ≡ flat (head_fields 120 3 p v m) = ap₂ (λ z j. flat (head_fields z j p v m)) (sym l ∙ d) (i ∙ ap inner_kind (sym l ∙ d)) in
      let w : c ≡ flat fs = rw (t, r, q, e) (fields_fill (48 ∷ 36 ∷ 36 ∷ []) fs s sized (omega arith)) in
      w ∙ ap (λ z. flat (head_fields 120 3 p v m) ++ (flat (child_fields x) ++ z)) (append-nil (flat (child_fields y)))
      ∙ ap (flat (head_fields 120 3 p v m) ++◌) (sym (flat_append (child_fields x) (child_fields y)))
      ∙ sym (flat_append (head_fields 120 3 p v m) (child_fields x ++ child_fields y))
  plain_put counted n o l d = absurd (omega arith)

  pub counted_put : (fm : Form) {e f : Bytes} (n : Tally) → 128 ≤ size → length s ≡ size → length s ≡ slot_size fm → e ≡ written 120 (le 4 n.leftward) c →
      f ≡ written 124 (le 4 n.rightward) e → f ≡ slot_bytes fm (used (record_of p v m (inner_body x y) n))
  unfolding slot_bytes record_bytes
  counted_put plain {e} {f} n o l d u w = absurd (omega arith)
  counted_put counted {e} {f} n o l d u w =
      let fs = flat (head_fields 128 5 p v m) ∷ flat (child_fields x) ∷ flat (child_fields y) ∷ le 4 n.leftward ∷ le 4 n.rightward ∷ [] in
      let sized : Sized (48 ∷ 36 ∷ 36 ∷ 4 ∷ 4 ∷ []) fs = (length_head 128 5 p v m, (length_child x h, (length_child y k, (length_le 4 _, (length_le 4 _, tt))))) in
      let g : flat (head_fields size kind p v m) ≡ flat (head_fields 128 5 p v m) = ap₂ (λ z j. flat (head_fields z j p v m)) (sym l ∙ d) (i ∙ ap inner_kind (sym l ∙ d)) in
      let z : f ≡ flat fs = rw (w, u, t, r, q, g) (fields_fill (48 ∷ 36 ∷ 36 ∷ 4 ∷ 4 ∷ []) fs s sized (sym d)) in
      let ns = count_fields counted n in
      z ∙ ap (λ j. flat (head_fields 128 5 p v m) ++ (flat (child_fields x) ++ j)) (sym (flat_append (child_fields y) ns))
      ∙ ap (flat (head_fields 128 5 p v m) ++◌) (sym (flat_append (child_fields x) (child_fields y ++ ns)))
      ∙ sym (flat_append (head_fields 128 5 p v m) (child_fields x ++ (child_fields y ++ ns)))
