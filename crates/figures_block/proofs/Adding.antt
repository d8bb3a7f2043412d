-- What slots add: in either order the same, and at each version of a block the same where a record lives from its first to its last. Assumes nothing.
use Prim.Native.Nat.{ℕ, zero, suc, ◌≤◌}
use native.Mathlib.Omega.{arith}
use mathlib.Core.Path.{◌≡◌, refl, ap, sym, ◌∙◌}
use mathlib.Core.Bool.{Bool, true, false, cond, ◌&&◌, not, false≢true}
use mathlib.Core.List.{List}
use lib.ListN.{length, get_or, set}
use lib.Seq.{get_or-set_other}
use lib.Dec.{leb}
use borrow.Author.Tests.{le-leb, lt-leb, leb-true, leb-false, not-true}
use Rattle.terms.specs.declared.Form.TheVariants.{Counted as counted}
use Rattle.terms.specs.Bits.{Bytes}
use Rattle.terms.specs.Records.{Body, leaf_body, inner_body, Record, Slot, free, used, spoiled}
use Rattle.terms.proofs.Tests.{and_left, and_right, is_false}
use Rattle.meaning.specs.Store.{retired_by}
use Rattle.layout.specs.Stores.{slot_no}
use Rattle.quarter.specs.Figures.{Figures}
use Rattle.quarter.specs.Living.{lives_in, body_adds, slot_lives, slot_adds}
use Rattle.quarter.proofs.Theorems.{same_four}
use Rattle.figures_block.specs.Block.{list_adds}

-- A record that lives at some version of a range lives at some of a wider one.
module _ {a b a' b' : ℕ} (h : a' ≤ a) (k : b ≤ b') where
  record_wider : (r : Record) → lives_in a b r ≡ true → lives_in a' b' r ≡ true
  unfolding lives_in retired_by
  record_wider r e =
      let begun = leb-true r.version b (and_left _ _ e) in
      rw (le-leb r.version b' (omega (arith, begun))) (ended (leb 1 r.retired) (and_right (leb r.version b) _ e))
    where
      ended : (t : Bool) → not (t && leb r.retired a) ≡ true → not (t && leb r.retired a') ≡ true
      ended false f = refl
      ended true f = let g = leb-false r.retired a (not-true _ f) in rw (lt-leb r.retired a' (omega (arith, g))) refl

  pub wider : (x : Slot) → slot_lives a b x ≡ true → slot_lives a' b' x ≡ true
  wider free e = e
  wider (used r) e = record_wider r e
  wider (spoiled y) e = e

-- What a slot adds, by whether its record lives.
abbrev gives : Slot → Figures → Figures
gives free f = f
gives (used r) f = body_adds (length r.place) r.body f
gives (spoiled x) f = f

adds_if : (v : ℕ) (x : Slot) (f : Figures) → slot_adds v x f ≡ cond (slot_lives v v x) (gives x f) f
adds_if v free f = refl
adds_if v (used r) f = refl
adds_if v (spoiled x) f = refl

-- At any version of a block the same, where the record lives at each; nothing, where it lives at none.
module _ {first last v : ℕ} (h : first ≤ v) (k : v ≤ last) (x : Slot) (f : Figures) where
  pub adds_at_each : slot_lives last first x ≡ true → slot_adds first x f ≡ slot_adds v x f
  adds_at_each e =
      let here : slot_lives v v x ≡ true = wider k h x e in
      let there : slot_lives first first x ≡ true = wider (omega arith) (omega arith) x e in
      adds_if first x f ∙ ap (λ b. cond b (gives x f) f) (there ∙ sym here) ∙ sym (adds_if v x f)

  pub adds_at_none : slot_lives first last x ≡ false → slot_adds v x f ≡ f
  adds_at_none e = adds_if v x f ∙ ap (λ b. cond b (gives x f) f) (is_false (slot_lives v v x) (λ t. false≢true (sym e ∙ wider h k x t)))

-- In either order.
bodies_swap : (n m : ℕ) (b c : Body) (f : Figures) → body_adds n b (body_adds m c f) ≡ body_adds m c (body_adds n b f)
bodies_swap n m (leaf_body k x) (leaf_body l y) f = same_four refl refl (omega arith) (omega arith)
bodies_swap n m (leaf_body k x) (inner_body l y) f = refl
bodies_swap n m (inner_body k x) (leaf_body l y) f = refl
bodies_swap n m (inner_body k x) (inner_body l y) f = refl

adds_swap : (v : ℕ) (x y : Slot) (f : Figures) → slot_adds v x (slot_adds v y f) ≡ slot_adds v y (slot_adds v x f)
adds_swap v free y f = refl
adds_swap v (spoiled z) y f = refl
adds_swap v (used r) free f = refl
adds_swap v (used r) (spoiled z) f = refl
adds_swap v (used r) (used q) f = go (lives_in v v r) (lives_in v v q)
  where
    one : Figures → Figures
    one g = body_adds (length r.place) r.body g

    other : Figures → Figures
    other g = body_adds (length q.place) q.body g

    go : (a b : Bool) → cond a (one (cond b (other f) f)) (cond b (other f) f) ≡ cond b (other (cond a (one f) f)) (cond a (one f) f)
    go true true = bodies_swap (length r.place) (length q.place) r.body q.body f
    go true false = refl
    go false true = refl
    go false false = refl

module _ (s : Bytes) (list : List ℕ) where
  -- a slot counted at once may as well have come last
  pub come_last : (v n : ℕ) (x : Slot) (f : Figures) → list_adds s list v n (slot_adds v x f) ≡ slot_adds v x (list_adds s list v n f)
  come_last v zero x f = refl
  come_last v (suc n) x f =
      ap (slot_adds v (slot_no counted (get_or list n 0) s)) (come_last v n x f) ∙ adds_swap v (slot_no counted (get_or list n 0) s) x (list_adds s list v n f)

  -- an entry from n on doesn't count for the first n
  pub entry_apart : (v n i x : ℕ) (f : Figures) → n ≤ i → list_adds s (set list i x) v n f ≡ list_adds s list v n f
  entry_apart v zero i x f h = refl
  entry_apart v (suc n) i x f h =
      ap (λ m. slot_adds v (slot_no counted m s) (list_adds s (set list i x) v n f)) (get_or-set_other list i n x 0 (λ e. omega arith))
      ∙ ap (slot_adds v (slot_no counted (get_or list n 0) s)) (entry_apart v n i x f (omega arith))
