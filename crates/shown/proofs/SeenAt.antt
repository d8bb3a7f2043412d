-- What is seen at the root and at a child, by what is sighted there: a law for each turn of a loop down a store, sound or not. By the
-- definition of what a read sees. Assumes nothing.
use Prim.Native.Nat.{ℕ, zero, suc, ◌≤◌}
use native.Mathlib.Omega.{arith}
use mathlib.Core.Path.{◌≡◌, ap, sym, ◌∙◌}
use mathlib.Core.Bool.{cond}
use mathlib.Core.List.{[], ◌∷◌}
use borrow.Author.Tests.{eq-eqb, ne_eqb}
use Rattle.terms.specs.Bits.{Bytes, Place, longer, begins}
use Rattle.terms.specs.Records.{Child, leaf_body, inner_body, Record}
use Rattle.meaning.specs.Store.{child_on}
use Rattle.meaning.specs.Sight.{Sight, matches, nothing, spoilt, Looking}
use Rattle.meaning.specs.Reading.{lost_record, spoilt_record, stray_leaf, Seen, stopped_by, gap, leaf_seen, fork, seen_body, seen_at, seen_root, seen}

-- The root; the number of bits below is left a variable, for proofs that would otherwise open it 255 times.
module _ (look : Looking) (v : ℕ) where
  abbrev from : Sight → Seen
  from o = seen_root o (λ b d. seen_at 255 look (b ∷ []) d)

  pub root_gap : look.root v ≡ nothing → seen look v ≡ gap
  unfolding seen
  root_gap e = ap from e

  pub root_spoilt : (i : ℕ) → look.root v ≡ spoilt i → seen look v ≡ stopped_by (spoilt_record i)
  unfolding seen
  root_spoilt i e = ap from e

  pub root_leaf : (r : Record) (k x : Bytes) → look.root v ≡ matches r → r.body ≡ leaf_body k x → seen look v ≡ leaf_seen k x
  unfolding seen begins
  root_leaf r k x e f = ap from e ∙ ap (λ y. seen_body [] y (λ b d. seen_at 255 look (b ∷ []) d)) f

  pub root_fork : (n : ℕ) (r : Record) (l m : Child) → n ≡ 255 → look.root v ≡ matches r → r.body ≡ inner_body l m →
      seen look v ≡ fork (λ b. (child_on b l m).hash) (λ b. seen_at n look (longer b []) (child_on b l m))
  unfolding seen longer
  root_fork n r l m h e f =
      ap from e
      ∙ ap (λ y. seen_body [] y (λ b d. seen_at 255 look (b ∷ []) d)) f
      ∙ ap (λ j. fork (λ b. (child_on b l m).hash) (λ b. seen_at j look (b ∷ []) (child_on b l m))) (sym h)

module _ (look : Looking) (p : Place) (c : Child) where
  pub child_gap : (n : ℕ) → c.version ≡ 0 → seen_at n look p c ≡ gap
  child_gap zero e = rw (eq-eqb c.version 0 e)
  child_gap (suc n) e = rw (eq-eqb c.version 0 e)

  pub child_lost : (n : ℕ) → 1 ≤ c.version → look.node c.version p ≡ nothing → seen_at n look p c ≡ stopped_by lost_record
  child_lost zero h e = rw (ne_eqb c.version 0 (omega arith), e)
  child_lost (suc n) h e = rw (ne_eqb c.version 0 (omega arith), e)

  pub child_spoilt : (n i : ℕ) → 1 ≤ c.version → look.node c.version p ≡ spoilt i → seen_at n look p c ≡ stopped_by (spoilt_record i)
  child_spoilt zero i h e = rw (ne_eqb c.version 0 (omega arith), e)
  child_spoilt (suc n) i h e = rw (ne_eqb c.version 0 (omega arith), e)

  pub child_leaf : (n : ℕ) (r : Record) (k x : Bytes) → 1 ≤ c.version → look.node c.version p ≡ matches r → r.body ≡ leaf_body k x →
      seen_at n look p c ≡ cond (begins p k) (leaf_seen k x) (stopped_by stray_leaf)
  child_leaf zero r k x h e b = rw (ne_eqb c.version 0 (omega arith), e) (ap (λ y. seen_body p y (λ d a. stopped_by lost_record)) b)
  child_leaf (suc n) r k x h e b =
      rw (ne_eqb c.version 0 (omega arith), e) (ap (λ y. seen_body p y (λ d a. seen_at n look (longer d p) a)) b)

  pub child_fork : (n : ℕ) (r : Record) (l m : Child) → 1 ≤ c.version → look.node c.version p ≡ matches r → r.body ≡ inner_body l m →
      seen_at (suc n) look p c ≡ fork (λ b. (child_on b l m).hash) (λ b. seen_at n look (longer b p) (child_on b l m))
  child_fork n r l m h e b = rw (ne_eqb c.version 0 (omega arith), e) (ap (λ y. seen_body p y (λ d a. seen_at n look (longer d p) a)) b)
