-- Which stored hashes are known to be right. Assumes nothing.
use Prim.Native.Nat.{ℕ, zero, suc, ◌≤◌}
use native.Mathlib.Omega.{arith}
use mathlib.Core.Path.{◌≡◌, refl, ap, sym, ◌∙◌, subst}
use mathlib.Core.Logic.{◌⊎◌, inl, inr, ⊎_elim}
use mathlib.Core.Bool.{Bool, true, false}
use mathlib.Core.List.{List, [], ◌∷◌}
use lib.ListN.{get_or, set}
use lib.Seq.{get_or-set_other}
use lib.Dec.{eqb}
use borrow.Author.Tests.{eqb-true, eqb-false}
use Rattle.terms.specs.declared.Form.{Form}
use Rattle.terms.specs.Bits.{Bytes, same_bytes}
use Rattle.terms.proofs.Tests.{same_bytes_lem}
use Rattle.check_pass.specs.Passes.{Passed}
use Rattle.check_hash.specs.Known.{HashIs, KnownAt, Known}

set_or : (xs : List ℕ) (c w : ℕ) → (get_or (set xs c w) c 0 ≡ w) ⊎ (get_or (set xs c w) c 0 ≡ 0)
set_or [] c w = inr refl
set_or (x ∷ xs) zero w = inl refl
set_or (x ∷ xs) (suc c) w = set_or xs c w

pub known_set : {fm : Form} (s : Bytes) (xs : List ℕ) (c w : ℕ) → Known fm s xs → KnownAt fm s c w → Known fm s (set xs c w)
known_set {fm} s xs c w k h i = go (eqb i c) refl
  where
    go : (t : Bool) → eqb i c ≡ t → 1 ≤ get_or (set xs c w) i 0 → KnownAt fm s i (get_or (set xs c w) i 0)
    go true e some =
        let f = eqb-true i c e in
        let at = ap (λ n. get_or (set xs c w) n 0) f in
        let g : get_or (set xs c w) i 0 ≡ w = at ∙ ⊎_elim (λ z. z) (λ z. absurd (omega (arith, z, some, at))) (set_or xs c w) in
        subst (λ n. KnownAt fm s n (get_or (set xs c w) i 0)) (sym f) (subst (KnownAt fm s c) (sym g) h)
    go false e some =
        let g = get_or-set_other xs c i w 0 (eqb-false i c e) in
        subst (KnownAt fm s i) (sym g) (k i (omega (arith, g, some)))

-- nothing is known at first
pub known_none : (fm : Form) (s : Bytes) (xs : List ℕ) → ((i : ℕ) → get_or xs i 0 ≡ 0) → Known fm s xs
known_none fm s xs z c some = absurd (omega (arith, z c))

-- the same bytes as those that are known
module _ (fm : Form) (s : Bytes) (c : ℕ) (x y : Bytes) (its : HashIs fm s c x) where
  pub same_is : {t : Bool} → t ≡ same_bytes x y → t ≡ true → HashIs fm s c y
  same_is e f r a = its r a ∙ same_bytes_lem x y (sym e ∙ f)

  pub same_passes : (t : Bool) → t ≡ same_bytes x y → Passed t (HashIs fm s c y)
  same_passes true e = same_is e refl
  same_passes false e = tt
