-- The grants of all parts: what they say of a key its part says, they are in the order of their keys, and the grants that
-- begin with a part's bits are the part's. By places, one bit after the other. Assumes nothing.
use Prim.Native.Nat.{ℕ, zero, suc, ◌+◌, ◌*◌, ◌≤◌}
use native.Mathlib.Omega.{arith}
use mathlib.Core.Path.{◌≡◌, refl, ap, ap₂, sym, ◌∙◌, subst}
use mathlib.Core.Bool.{Bool, true, false, cond, ◌&&◌, beq, true≢false, false≢true}
use mathlib.Core.List.{List, [], ◌∷◌, ◌++◌}
use lib.ListN.{length, get_or, take, drop, take-append-drop}
use Rattle.terms.specs.Bits.{Bytes, Byte, left, right, Side, Place, longer, All, filter, bits, bit, prefix, begins, same_bytes}
use Rattle.terms.specs.Records.{Grant}
use Rattle.terms.specs.Form.{GrantForm}
use Rattle.terms.proofs.Tests.{and_left, and_right, same_bit, bit_same, is_false, same_bytes_lem}
use Rattle.terms.proofs.Lists.{all_append, all_map}
use Rattle.terms.proofs.Places.{length_bits, length_longer, prefix_longer, prefix_length, begins_longer}
use Rattle.terms.proofs.Order.{before_parted}
use Rattle.meaning.specs.Tree.{grants_at}
use Rattle.meaning.specs.Reading.{Verdict, present, absent, answer_of}
use Rattle.meaning.proofs.Runs.{Ahead, Ascending, ascending_filter, ascending_append}
use Rattle.changed.proofs.Parts.{answer_filter}
use Rattle.changed.proofs.Lists.{same_answers, answer_append}
use Rattle.shelf_grants.specs.Contents.{Parts, gathered, all_grants, InPlace}

-- a string of bits begins with its first bits, and with no others of that number
pub prefix_front : (p : Place) (bs : List Side) → prefix p bs ≡ true → take (length p) bs ≡ p
prefix_front [] bs h = refl
prefix_front (b ∷ p) [] h = absurd (false≢true h)
prefix_front (b ∷ p) (c ∷ bs) h =
    ap₂ ◌∷◌ (sym (same_bit b c (and_left (beq b c) (prefix p bs) h))) (prefix_front p bs (and_right (beq b c) (prefix p bs) h))

pub front_prefix : (n : ℕ) (bs : List Side) → n ≤ length bs → (prefix (take n bs) bs ≡ true) × (length (take n bs) ≡ n)
front_prefix zero bs h = (refl, refl)
front_prefix (suc n) [] h = absurd (omega arith)
front_prefix (suc n) (b ∷ bs) h = let w = front_prefix n bs (omega arith) in (rw (bit_same b) w.0, ap suc w.1)

-- grants without a key say nothing of it
pub answer_none : (k : Bytes) (gs : List Grant) → All (λ g. same_bytes k g.key ≡ false) gs → answer_of k gs ≡ absent
answer_none k [] h = refl
answer_none k (g ∷ gs) h = rw h.0 (answer_none k gs h.1)

-- a key that begins with a longer place begins with the place
begins_shorter : (c : Side) (p : Place) (k : Bytes) → begins (longer c p) k ≡ true → begins p k ≡ true
unfolding begins
begins_shorter c p k h = (prefix_longer c p (bits k) h).0

-- and doesn't go on to the other side
one_side : {A : Type 0} (p : Place) (k : Bytes) → begins (longer left p) k ≡ true → begins (longer right p) k ≡ true → A
unfolding begins
one_side p k h i = absurd (false≢true (sym (prefix_longer left p (bits k) h).1 ∙ (prefix_longer right p (bits k) i).1))

-- grants that begin with a place say nothing of a key that doesn't
pub answer_apart : (p : Place) (k : Bytes) (gs : List Grant) → All (λ g. begins p g.key ≡ true) gs → begins p k ≡ false → answer_of k gs ≡ absent
answer_apart p k gs h f = answer_none k gs (all_map (λ g. begins p g.key ≡ true) (λ g. same_bytes k g.key ≡ false) gs other h)
  where
    other : (g : Grant) → begins p g.key ≡ true → same_bytes k g.key ≡ false
    other g e = is_false (same_bytes k g.key) (λ s. true≢false (sym e ∙ ap (begins p) (sym (same_bytes_lem k g.key s)) ∙ f))

pub or_none : (k : Bytes) (xs ys : List Grant) → answer_of k ys ≡ absent → answer_of k (xs ++ ys) ≡ answer_of k xs
or_none k [] ys e = e
or_none k (x ∷ xs) ys e = ap (cond (same_bytes k x.key) (present x.value)) (or_none k xs ys e)

pub none_or : (k : Bytes) (xs ys : List Grant) → answer_of k xs ≡ absent → answer_of k (xs ++ ys) ≡ answer_of k ys
none_or k xs ys e = answer_append k xs ys ∙ rw e refl

module _ (b : ℕ) (parts : Parts) (placed : InPlace b parts) where
  -- what is gathered at a place begins with it
  pub gathered_begin : (n : ℕ) (p : Place) → length p + n ≡ b → All (λ g. begins p g.key ≡ true) (gathered n p parts)
  gathered_begin zero p h = placed p (omega arith)
  gathered_begin (suc n) p h =
      let half : (c : Side) → All (λ g. begins p g.key ≡ true) (gathered n (longer c p) parts) =
      λ c. all_map (λ g. begins (longer c p) g.key ≡ true) (λ g. begins p g.key ≡ true) (gathered n (longer c p) parts) (λ g e. begins_shorter c p g.key e)
      (gathered_begin n (longer c p) (omega (arith, length_longer c p))) in
      all_append (λ g. begins p g.key ≡ true) (gathered n (longer left p) parts) (gathered n (longer right p) parts) (half left) (half right)

  -- All grants say of a key what its part says.
  module _ (k : Bytes) (long : b ≤ 8 * length k) where
    at_place : (n : ℕ) (p : Place) → length p + n ≡ b → begins p k ≡ true → answer_of k (gathered n p parts) ≡ answer_of k (parts (take b (bits k)))
    unfolding begins
    at_place zero p h e =
        let l : length p ≡ b = omega arith in
        ap (λ q. answer_of k (parts q)) (sym (prefix_front p (bits k) e) ∙ ap (λ m. take m (bits k)) l)
    at_place (suc n) p h e = go (λ c i f. at_place n (longer c p) i f) (bit (length p) k) refl
      where
        half : (c : Side) → All (λ g. begins (longer c p) g.key ≡ true) (gathered n (longer c p) parts)
        half c = gathered_begin n (longer c p) (omega (arith, length_longer c p))

        on : (c : Side) → bit (length p) k ≡ c → begins (longer c p) k ≡ true
        on c f = begins_longer c p k (omega arith) ∙ rw (e, f) (bit_same c)

        other : (c d : Side) → begins (longer c p) k ≡ true → ((begins (longer d p) k ≡ true) → ⊥) → answer_of k (gathered n (longer d p) parts) ≡ absent
        other c d f g = answer_apart (longer d p) k (gathered n (longer d p) parts) (half d) (is_false (begins (longer d p) k) g)

        go : ((c : Side) → length (longer c p) + n ≡ b → begins (longer c p) k ≡ true →
            answer_of k (gathered n (longer c p) parts) ≡ answer_of k (parts (take b (bits k)))) → (c : Side) → bit (length p) k ≡ c →
            answer_of k (gathered n (longer left p) parts ++ gathered n (longer right p) parts) ≡ answer_of k (parts (take b (bits k)))
        go below false f =
            or_none k (gathered n (longer left p) parts) (gathered n (longer right p) parts) (other left right (on left f) (λ g. one_side p k (on left f) g))
            ∙ below left (omega (arith, length_longer left p)) (on left f)
        go below true f =
            none_or k (gathered n (longer left p) parts) (gathered n (longer right p) parts) (other right left (on right f) (λ g. one_side p k g (on right f)))
            ∙ below right (omega (arith, length_longer right p)) (on right f)

    pub answer_of_part : answer_of k (all_grants b parts) ≡ answer_of k (parts (take b (bits k)))
    unfolding begins
    answer_of_part = at_place b [] (omega arith) refl

  -- They are in the order of their keys.
  module _ (formed : (p : Place) → length p ≡ b → All GrantForm (parts p)) where
    pub gathered_form : (n : ℕ) (p : Place) → length p + n ≡ b → All GrantForm (gathered n p parts)
    gathered_form zero p h = formed p (omega arith)
    gathered_form (suc n) p h =
        all_append GrantForm (gathered n (longer left p) parts) (gathered n (longer right p) parts)
        (gathered_form n (longer left p) (omega (arith, length_longer left p))) (gathered_form n (longer right p) (omega (arith, length_longer right p)))

    module _ (ordered : (p : Place) → length p ≡ b → Ascending (parts p)) where
      ahead : (p : Place) (xs ys : List Grant) → All GrantForm xs → All GrantForm ys → All (λ g. begins (longer left p) g.key ≡ true) xs →
          All (λ g. begins (longer right p) g.key ≡ true) ys → All (λ g. All (Ahead g) ys) xs
      ahead p [] ys f g h i = tt
      ahead p (x ∷ xs) ys f g h i = (first ys g i, ahead p xs ys f.1 g h.1 i)
        where
          first : (zs : List Grant) → All GrantForm zs → All (λ g. begins (longer right p) g.key ≡ true) zs → All (Ahead x) zs
          first [] u w = tt
          first (z ∷ zs) u w = (before_parted p x.key z.key f.0.0.1 u.0.0.1 h.0 w.0, first zs u.1 w.1)

      pub gathered_ordered : (n : ℕ) (p : Place) → length p + n ≡ b → Ascending (gathered n p parts)
      gathered_ordered zero p h = ordered p (omega arith)
      gathered_ordered (suc n) p h =
          let l : length (longer left p) + n ≡ b = omega (arith, length_longer left p) in
          let r : length (longer right p) + n ≡ b = omega (arith, length_longer right p) in
          ascending_append (gathered n (longer left p) parts) (gathered n (longer right p) parts)
          (gathered_ordered n (longer left p) l) (gathered_ordered n (longer right p) r)
          (ahead p (gathered n (longer left p) parts) (gathered n (longer right p) parts) (gathered_form n (longer left p) l) (gathered_form n (longer right p) r)
          (gathered_begin n (longer left p) l) (gathered_begin n (longer right p) r))

      -- The grants that begin with a part's bits are the part's.
      pub part_of_all : (p : Place) → length p ≡ b → grants_at p (all_grants b parts) ≡ parts p
      unfolding grants_at begins
      part_of_all p h =
          same_answers (filter (λ g. begins p g.key) (all_grants b parts)) (parts p)
          (ascending_filter (λ g. begins p g.key) (all_grants b parts) (gathered_ordered b [] (omega arith))) (ordered p h)
          (λ k. answer_filter (begins p) k (all_grants b parts) ∙ go k (begins p k) refl)
        where
          go : (k : Bytes) (c : Bool) → begins p k ≡ c → cond c (answer_of k (all_grants b parts)) absent ≡ answer_of k (parts p)
          go k true e =
              answer_of_part k (omega (arith, prefix_length p (bits k) e, length_bits k))
              ∙ ap (λ q. answer_of k (parts q)) (ap (λ m. take m (bits k)) (sym h) ∙ prefix_front p (bits k) e)
          go k false e = sym (answer_apart p k (parts p) (placed p h) e)

-- parts that are the same gather the same
pub gathered_same : (b : ℕ) (x y : Parts) → ((p : Place) → length p ≡ b → x p ≡ y p) → (n : ℕ) (p : Place) → length p + n ≡ b → gathered n p x ≡ gathered n p y
gathered_same b x y e zero p h = e p (omega arith)
gathered_same b x y e (suc n) p h =
    ap₂ ◌++◌ (gathered_same b x y e n (longer left p) (omega (arith, length_longer left p))) (gathered_same b x y e n (longer right p) (omega (arith, length_longer right p)))
