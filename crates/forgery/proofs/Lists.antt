-- Laws of lists: what is among messages, messages of equal parts, and what ascending grants say of a key. Assumes nothing.
use Prim.Native.Nat.{ℕ}
use mathlib.Core.Path.{◌≡◌, refl, ap, sym, ◌∙◌, subst}
use mathlib.Core.Logic.{◌⊎◌, inl, inr}
use mathlib.Core.Bool.{true, false, cond}
use mathlib.Core.List.{List, [], ◌∷◌, ◌++◌}
use lib.ListN.{length, take, drop}
use lib.Seq.{take_at, drop_at}
use Rattle.terms.specs.Bits.{Bytes, All, before, same_bytes}
use Rattle.terms.specs.Records.{Grant}
use Rattle.terms.proofs.Tests.{is_false, same_bytes_lem, bytes_same}
use Rattle.terms.proofs.Lists.{all_map, all_append}
use Rattle.terms.proofs.Order.{before_trans, before_irrefl}
use Rattle.meaning.specs.Reading.{present, absent, answer_of}
use Rattle.meaning.proofs.Runs.{Ahead, Ascending}
use Rattle.forgery.specs.Finding.{Among}

-- each message of the first list is among those of the second
abbrev pub Within : List Bytes → List Bytes → Type 0
Within xs ys = (m : Bytes) → Among m xs → Among m ys

pub among_left : (xs ys : List Bytes) → Within xs (xs ++ ys)
among_left [] ys m h = absurd h
among_left (x ∷ xs) ys m (inl e) = inl e
among_left (x ∷ xs) ys m (inr h) = inr (among_left xs ys m h)

pub among_right : (xs ys : List Bytes) → Within ys (xs ++ ys)
among_right [] ys m h = h
among_right (x ∷ xs) ys m h = inr (among_right xs ys m h)

pub among_either : (xs ys : List Bytes) (m : Bytes) → Among m (xs ++ ys) → Among m xs ⊎ Among m ys
among_either [] ys m h = inr h
among_either (x ∷ xs) ys m (inl e) = inl (inl e)
among_either (x ∷ xs) ys m (inr h) = elim (among_either xs ys m h) [ inl k ↦ inl (inr k) | inr k ↦ inr k ]

-- two parts, the first of 32 bytes
pub parts_same : (a b c d : Bytes) → length a ≡ 32 → length c ≡ 32 → a ++ b ≡ c ++ d → (a ≡ c) × (b ≡ d)
parts_same a b c d la lc e =
    (sym (take_at a b 32 la) ∙ ap (take 32) e ∙ take_at c d 32 lc, sym (drop_at a b 32 la) ∙ ap (drop 32) e ∙ drop_at c d 32 lc)

module _ {A : Type 0} (P : A → Type 0) where
  pub all_front : (xs ys : List A) → All P (xs ++ ys) → All P xs
  all_front [] ys h = tt
  all_front (x ∷ xs) ys h = (h.0, all_front xs ys h.1)

  pub all_back : (xs ys : List A) → All P (xs ++ ys) → All P ys
  all_back [] ys h = h
  all_back (x ∷ xs) ys h = all_back xs ys h.1

  -- what holds of each entry holds of each in the middle
  pub all_between : (xs ys zs : List A) → All P (xs ++ (ys ++ zs)) → All P ys
  all_between xs ys zs h = all_front ys zs (all_back xs (ys ++ zs) h)

  middle : (xs : List A) (y : A) (zs : List A) → All P (xs ++ y ∷ zs) → P y
  middle xs y zs h = (all_back xs (y ∷ zs) h).0

-- another key
abbrev pub Other : Bytes → Grant → Type 0
Other k g = same_bytes k g.key ≡ false

other_after : (k l : Bytes) → before k l ≡ true → same_bytes k l ≡ false
other_after k l h = is_false (same_bytes k l) (λ e. before_irrefl k (subst (λ j. before k j ≡ true) (sym (same_bytes_lem k l e)) h))

other_before : (k l : Bytes) → before l k ≡ true → same_bytes k l ≡ false
other_before k l h = is_false (same_bytes k l) (λ e. before_irrefl k (subst (λ j. before j k ≡ true) (sym (same_bytes_lem k l e)) h))

answer_past : (k : Bytes) (xs ys : List Grant) → All (Other k) xs → answer_of k (xs ++ ys) ≡ answer_of k ys
answer_past k [] ys a = refl
answer_past k (x ∷ xs) ys a = rw a.0 (answer_past k xs ys a.1)

pub answer_none : (k : Bytes) (gs : List Grant) → All (Other k) gs → answer_of k gs ≡ absent
answer_none k [] a = refl
answer_none k (g ∷ gs) a = rw a.0 (answer_none k gs a.1)

-- about one of ascending grants
about : (xs : List Grant) (g : Grant) (ys : List Grant) → Ascending (xs ++ g ∷ ys) → All (λ h. Ahead h g) xs × All (Ahead g) ys
about [] g ys s = (tt, s.0)
about (x ∷ xs) g ys s = let r = about xs g ys s.1 in ((middle (Ahead x) xs g ys s.0, r.0), r.1)

pub ascending_after : (xs ys : List Grant) → Ascending (xs ++ ys) → Ascending ys
ascending_after [] ys s = s
ascending_after (x ∷ xs) ys s = ascending_after xs ys s.1

-- a grant among them is what they say of its key
pub answer_middle : (xs : List Grant) (g : Grant) (ys : List Grant) → Ascending (xs ++ g ∷ ys) →
    answer_of g.key (xs ++ g ∷ ys) ≡ present g.value
answer_middle xs g ys s =
    answer_past g.key xs (g ∷ ys)
    (all_map (λ h. Ahead h g) (Other g.key) xs (λ h l. other_before g.key h.key l) (about xs g ys s).0)
    ∙ rw (bytes_same g.key)

-- those from a greater one on have another key, and so have those up to a smaller one
pub others_from : (k : Bytes) (g : Grant) (ys : List Grant) → Ascending (g ∷ ys) → before k g.key ≡ true → All (Other k) (g ∷ ys)
others_from k g ys s l = (
  other_after k g.key l,
  all_map (Ahead g) (Other k) ys (λ h a. other_after k h.key (before_trans k g.key h.key l a)) s.0,
)

pub others_upto : (k : Bytes) (xs : List Grant) (g : Grant) (ys : List Grant) → Ascending (xs ++ g ∷ ys) → before g.key k ≡ true →
    All (Other k) ys → All (Other k) (xs ++ g ∷ ys)
others_upto k xs g ys s l o =
    all_append (Other k) xs (g ∷ ys)
    (all_map (λ h. Ahead h g) (Other k) xs (λ h a. other_before k h.key (before_trans h.key g.key k a l)) (about xs g ys s).0)
    (other_before k g.key l, o)
