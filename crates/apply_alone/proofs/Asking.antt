-- What becomes of a leaf that nothing is inserted beside is what the definition makes of it, case by case. Assumes nothing.
use Prim.Native.Nat.{ℕ}
use mathlib.Core.Path.{◌≡◌, refl, sym, ◌∙◌, subst}
use mathlib.Core.Bool.{Bool, true, false}
use mathlib.Core.Option.{Option, none}
use Rattle.terms.specs.Bits.{same_bytes}
use Rattle.terms.specs.Records.{Grant, grant, Ask}
use Rattle.hash.specs.declared.Hash.{Hash}
use Rattle.hash.specs.Hash.{hash_bytes}
use Rattle.apply_place.specs.declared.Node.TheVariants as N
use Rattle.apply_outcome.specs.declared.Change.TheVariants as C
use Rattle.apply_alone.specs.declared.Own as own
use Rattle.apply_alone.specs.declared.Own.TheVariants.{Nothing, Insert, Delete}
use Rattle.apply_alone.specs.Alone.{OwnSays, Alone}

-- by what is asked, where nothing is inserted beside it
module _ (new from v : ℕ) (k x : Hash) where
  abbrev its : Grant
  its = grant (hash_bytes k) (hash_bytes x)

  unasked : (o : Option Ask) → o ≡ none → Alone new from v its o (record { change = C.Unchanged; node = N.Leaf v k x; reach = from })
  unasked o e = rw e (record { change = λ f. refl; node = λ w f. refl; quiet = λ f. (refl, refl); reach = refl })

  pub alone_none : (f : own.Own) → f ≡ Nothing → (o : Option Ask) → OwnSays f o →
      Alone new from v its o (record { change = C.Unchanged; node = N.Leaf v k x; reach = from })
  alone_none f e o h = unasked o (subst (λ z. OwnSays z o) e h)

  pub alone_same : (f : own.Own) {y : Hash} → f ≡ Insert y → {t : Bool} → t ≡ same_bytes (hash_bytes y) (hash_bytes x) → t ≡ true → (o : Option Ask) → OwnSays f o →
      Alone new from v its o (record { change = C.Unchanged; node = N.Leaf v k x; reach = from })
  alone_same f {y} e b t o h =
      let (q, z) = subst (λ u. OwnSays u o) e h in
      rw (z) (record {
        change = λ g. rw (sym b ∙ t) refl;
        node = λ w g. rw (sym b ∙ t) refl;
        quiet = λ g. rw (sym b ∙ t) (refl, refl);
        reach = refl;
      })

  pub alone_other : (f : own.Own) {y : Hash} → f ≡ Insert y → {t : Bool} → t ≡ same_bytes (hash_bytes y) (hash_bytes x) → t ≡ false → (o : Option Ask) → OwnSays f o →
      Alone new from v its o (record { change = C.Updated; node = N.Leaf new k y; reach = from })
  alone_other f {y} e b t o h =
      let (q, z) = subst (λ u. OwnSays u o) e h in
      rw (z) (record {
        change = λ g. rw (sym b ∙ t) refl;
        node = λ w g. rw (sym b ∙ t) refl;
        quiet = λ g. rw (sym b ∙ t) (refl, refl);
        reach = refl;
      })

  pub alone_gone : (f : own.Own) → f ≡ Delete → (o : Option Ask) → OwnSays f o →
      Alone new from v its o (record { change = C.Deleted; node = N.Nothing; reach = from })
  alone_gone f e o h =
      let (q, z) = subst (λ u. OwnSays u o) e h in
      rw z (record { change = λ g. refl; node = λ w g. refl; quiet = λ g. (refl, refl); reach = refl })
