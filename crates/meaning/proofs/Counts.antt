-- Counts of a standing tree: what a record says of the leaves there is their number. Assumes nothing.
use Prim.Native.Nat.{ℕ, ◌≤◌}
use native.Mathlib.Omega.{arith}
use mathlib.Core.Path.{◌≡◌, refl, ap, ap₂, sym, ◌∙◌}
use mathlib.Core.Option.{Option, none, some, some-injective}
use Rattle.terms.specs.declared.Form.{Form}
use Rattle.terms.specs.declared.Form.TheVariants.{Plain as plain, Counted as counted}
use Rattle.terms.specs.Bits.{Bytes, Place}
use Rattle.terms.specs.Records.{Tally, Record, Store}
use Rattle.meaning.specs.Tree.{VTree, vnone, vleaf, vinner, top_version, leaves}
use Rattle.meaning.specs.Store.{find}
use Rattle.meaning.specs.Sound.{At, Found, CountsAre, Tallied, Stands}
use Rattle.meaning.specs.Counting.{weight_by, weight}
use Rattle.meaning.specs.Local.{weighed}
use Rattle.meaning.proofs.Finding.{found_at}

-- the counted form says what the counts are, the plain one nothing
plain_counted : {A : Type 0} → plain ≡ counted → A
plain_counted e = let z : ◌≡◌ {A = ℕ} 0 1 = cc in absurd (omega arith)

pub counts_told : {c d : Tally} (f : Form) → f ≡ counted → CountsAre f c d → c ≡ d
counts_told plain e h = plain_counted e
counts_told counted e h = h

pub tell_counts : {c d : Tally} (f : Form) → (f ≡ counted → c ≡ d) → CountsAre f c d
tell_counts plain h = tt
tell_counts counted h = h refl

-- no record has version 0
pub no_zero : (st : Store) → ((i : ℕ) (r : Record) → At st i r → 1 ≤ r.version) → (p : Place) → find 0 p st.slots ≡ none
no_zero st versions p = go _ refl
  where
    go : (o : Option Record) → find 0 p st.slots ≡ o → o ≡ none
    go none e = refl
    go (some r) e = let w = found_at st 0 p r e in absurd (omega (arith, w.2, versions w.0 r w.1))

-- what is found has the counts that are said of it
pub found_counts : (st : Store) → st.form ≡ counted → (v : ℕ) (p : Place) (c : Tally) (q : Record) → find v p st.slots ≡ some q →
    Tallied st v p c → q.counts ≡ c
unfolding Tallied
found_counts st form v p c q e (r, f, g) = ap (λ x. x.counts) (some-injective q r (sym e ∙ f)) ∙ counts_told st.form form g

module _ (leaf_hash inner_hash : Bytes → Bytes → Bytes) (st : Store) (form : st.form ≡ counted)
    (versions : (i : ℕ) (r : Record) → At st i r → 1 ≤ r.version) where
  -- what is found at the top of a standing tree says how many leaves it has
  pub stands_weighs : (p : Place) (t : VTree) → Stands leaf_hash inner_hash st p t → weighed (find (top_version t) p st.slots) ≡ leaves t
  unfolding Found weight
  stands_weighs p vnone s = ap weighed (no_zero st versions p)
  stands_weighs p (vleaf v g) s = ap weighed s.0.1 ∙ ap (λ b. weight_by b s.0.0.counts) s.0.2
  stands_weighs p (vinner v l r) s =
      let (q, e, b) = s.0 in ap weighed e ∙ ap₂ weight_by b (found_counts st form v p _ q e s.4)
