-- Laws of `written`: what stores leave, how long the memory stays, and writing one field after the other. Assumes nothing.
use Prim.Native.Nat.{ℕ, suc, ◌+◌, ◌-◌, ◌<◌, ◌≤◌}
use native.Mathlib.Omega.{arith}
use native.Mathlib.Nat.{add-zero}
use native.Mathlib.Numerals.{add-one}
use mathlib.Core.Path.{◌≡◌, refl, ap, ap₂, sym, ◌∙◌}
use mathlib.Core.List.{List, [], ◌∷◌, ◌++◌, append_assoc, append-nil}
use lib.ListN.{length, get_or, take, drop, set, length-append, length-take, length-drop, drop_of_length-le, take-append-drop}
use lib.Seq.{set_at, drop-cons, take-suc, append_snoc, take_all, length-take-le, take_at, drop_at, drop-append-add, drop-drop}
use Rattle.terms.specs.Bits.{Bytes}
use Rattle.terms.specs.Fields.{le, flat, slice}
use Rattle.terms.proofs.Fields.{Sized, total, length_le, length_flat, length_slice, slice_rest}
use Rattle.fields.specs.Written.{written}

pub length_written : (i : ℕ) (f s : Bytes) → i + length f ≤ length s → length (written i f s) ≡ length s
unfolding written
length_written i f s h = simp (length-append, length-take, length-drop) (omega arith)

-- writing over q
pub written_between : (p q s f : Bytes) (i : ℕ) → length p ≡ i → length f ≡ length q → written i f (p ++ (q ++ s)) ≡ p ++ (f ++ s)
unfolding written
written_between p q s f i e h =
    let d : drop (i + length f) (p ++ (q ++ s)) ≡ s =
    rw (← append_assoc p q s) (drop_at (p ++ q) s (i + length f) (simp length-append (omega arith)))
    in
    rw (take_at p (q ++ s) i e, d)

regroup : (p a b d r : Bytes) → p ++ ((a ++ (b ++ d)) ++ r) ≡ (p ++ a) ++ (b ++ (d ++ r))
regroup p a b d r = simp append_assoc

written_is : (i : ℕ) (f s : Bytes) → written i f s ≡ take i s ++ (f ++ drop (i + length f) s)
unfolding written
written_is i f s = refl

-- writing inside a part
pub written_inside : (i m j : ℕ) (f s : Bytes) → i + m ≤ length s → j + length f ≤ m → written (i + j) f s ≡ written i (written j f (slice i m s)) s
written_inside i m j f s h k =
    let p = take i s in
    let q = slice i m s in
    let r = drop (i + m) s in
    let n = length_slice i m s h in
    let whole : s ≡ p ++ (q ++ r) = sym (take-append-drop i s) ∙ ap (p ++◌) (slice_rest i m s) in
    let a = take j q in
    let b = slice j (length f) q in
    let d = drop (j + length f) q in
    let parts : q ≡ a ++ (b ++ d) = sym (take-append-drop j q) ∙ ap (a ++◌) (slice_rest j (length f) q) in
    let long : length p ≡ i = length-take-le i s (omega arith) in
    let front : length (p ++ a) ≡ i + j = length-append p a ∙ ap₂ ◌+◌ long (length-take-le j q (omega arith)) in
    let outer : written i (written j f q) s ≡ p ++ (written j f q ++ r) =
    ap (written i (written j f q)) whole ∙ written_between p q r (written j f q) i long (length_written j f q (omega arith))
    in
    let inner : written (i + j) f s ≡ (p ++ a) ++ (f ++ (d ++ r)) =
    ap (written (i + j) f) (whole ∙ ap (λ x. p ++ (x ++ r)) parts ∙ regroup p a b d r)
    ∙ written_between (p ++ a) b (d ++ r) f (i + j) front (sym (length_slice j (length f) q (omega arith)))
    in
    inner ∙ sym (outer ∙ ap (λ x. p ++ (x ++ r)) (written_is j f q) ∙ regroup p a f d r)

-- a part of a slice, lent and given back, was written in its place
pub part_written : (i e : ℕ) (f s : Bytes) → i + length f ≡ e → take i s ++ (f ++ drop (e - i) (drop i s)) ≡ written i f s
unfolding written
part_written i e f s h =
    let k : i + (e - i) ≡ i + length f = omega arith in
    rw (drop-drop (e - i) i s, k)

-- two fields, one after the other
written_next : (i j : ℕ) (f g s : Bytes) → i + length f ≡ j → j ≤ length s → written j g (written i f s) ≡ written i (f ++ g) s
unfolding written
written_next i j f g s e h =
    let rest = drop (i + length f) s in
    let m : length (take i s ++ f) ≡ j = simp (length-append, length-take) (omega arith) in
    let t : take j (take i s ++ (f ++ rest)) ≡ take i s ++ f = rw (← append_assoc (take i s) f rest) (take_at (take i s ++ f) rest j m) in
    let n : i + length f + length g ≡ i + length (f ++ g) = simp length-append (omega arith) in
    let d : drop (j + length g) (take i s ++ (f ++ rest)) ≡ drop (i + length (f ++ g)) s =
    ap (drop (j + length g)) (sym (append_assoc (take i s) f rest))
    ∙ ap (λ k. drop (k + length g) ((take i s ++ f) ++ rest)) (sym m)
    ∙ drop-append-add (take i s ++ f) rest (length g)
    ∙ drop-drop (length g) (i + length f) s
    ∙ ap (λ k. drop k s) n
    in
    rw (t, d, append_assoc (take i s) f (g ++ drop (i + length (f ++ g)) s), append_assoc f g (drop (i + length (f ++ g)) s))

-- fields of given sizes, written one after the other from i on
abbrev pub fields_written : List ℕ → ℕ → List Bytes → Bytes → Bytes
fields_written [] i fs s = s
fields_written (n ∷ ns) i [] s = s
fields_written (n ∷ ns) i (f ∷ fs) s = fields_written ns (i + n) fs (written i f s)

nothing_written : (i : ℕ) (s : Bytes) → s ≡ written i [] s
unfolding written
nothing_written i s = rw (add-zero i) (sym (take-append-drop i s))

pub fields_written_lem : (ns : List ℕ) (i : ℕ) (fs : List Bytes) (s : Bytes) → Sized ns fs → i + total ns ≤ length s → fields_written ns i fs s ≡ written i (flat fs) s
fields_written_lem [] i [] s h l = nothing_written i s
fields_written_lem [] i (f ∷ fs) s h l = absurd h
fields_written_lem (n ∷ ns) i [] s h l = absurd h
fields_written_lem (n ∷ ns) i (f ∷ fs) s h l =
    let e : length f ≡ n = h.0 in
    fields_written_lem ns (i + n) fs (written i f s) h.1 (omega (arith, length_written i f s (omega arith)))
    ∙ written_next i (i + n) f (flat fs) s (omega arith) (omega arith)

-- fields that fill a string are the string
written_whole : (f s : Bytes) → length f ≡ length s → written 0 f s ≡ f
unfolding written
written_whole f s e = ap (f ++◌) (drop_of_length-le s {i = 0 + length f} (omega arith)) ∙ append-nil f

pub fields_fill : (ns : List ℕ) (fs : List Bytes) (s : Bytes) → Sized ns fs → total ns ≡ length s → fields_written ns 0 fs s ≡ flat fs
fields_fill ns fs s h l = fields_written_lem ns 0 fs s h (omega arith) ∙ written_whole (flat fs) s (length_flat ns fs h ∙ l)

-- a number of four bytes fills four bytes
pub number_fills : (n : ℕ) (s : Bytes) → length s ≡ 4 → written 0 (le 4 n) s ≡ le 4 n
number_fills n s l = fields_fill (4 ∷ []) (le 4 n ∷ []) s (length_le 4 n, tt) (sym l) ∙ append-nil (le 4 n)

-- a part that is being filled with f from its front: s, where it was s₀ before, has i new bytes
pub record Filling (f s₀ s : Bytes) (i : ℕ) : Type 0 where
  pub long : length f ≡ length s₀
  pub within : i ≤ length s₀
  pub filled : s ≡ take i f ++ drop i s₀

pub filling_length : {f s₀ s : Bytes} {i : ℕ} → Filling f s₀ s i → length s ≡ length s₀
filling_length {f} {s₀} {s} {i} w = let l = w.long in let h = w.within in ap length w.filled ∙ simp (length-append, length-take, length-drop) (omega arith)

pub filling_next : {f s₀ s : Bytes} {i x : ℕ} → Filling f s₀ s i → i < length s → get_or f i 0 ≡ x → Filling f s₀ (set s i x) (i + 1)
filling_next {f} {s₀} {s} {i} w h e =
    let l = w.long in
    let k : i < length s₀ = omega (arith, filling_length w) in
    record {
      long = l;
      within = omega arith;
      filled = rw (← e, add-one, w.filled, drop-cons s₀ i 0 k, take-suc f i 0 (omega arith))
          (set_at (take i f) (get_or s₀ i 0) (drop (suc i) s₀) (get_or f i 0) i (length-take-le i f (omega arith))
          ∙ sym (append_snoc (take i f) (get_or f i 0) (drop (suc i) s₀)));
    }

pub filling_done : {f s₀ s : Bytes} {i : ℕ} → Filling f s₀ s i → length s ≤ i → s ≡ f
filling_done {f} {s₀} {s} {i} w h =
    let l = w.long in
    let k = filling_length w in
    w.filled ∙ ap₂ ◌++◌ (take_all i f (omega arith)) (drop_of_length-le s₀ {i = i} (omega arith)) ∙ append-nil f
