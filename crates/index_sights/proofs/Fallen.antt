-- A search that ends on a slot gives that record; one that ends on none leaves it to the scan. Assumes nothing.
use Prim.Native.Nat.{ℕ}
use mathlib.Core.Path.{◌≡◌, refl, ap, sym, subst}
use mathlib.Core.List.{List}
use mathlib.Core.Option.{Option}
use Rattle.terms.specs.Records.{Record, Slot}
use Rattle.meaning.specs.Sight.{Sight}
use Rattle.indexed.specs.Index.{or_scan}
use Rattle.lookup.specs.Lookup.{Located}
use Rattle.std.specs.declared.option.Option as option
use Rattle.std.specs.Prelude.{Some, None}
use Rattle.sights.specs.Sights.{Sighted}
use Rattle.sights.specs.declared.Sight as declared
use Rattle.sights.specs.declared.Sight.TheVariants as sight

pub fallen : (s : List Slot) (o : Option Record) (scanned : Sight) (f : option.Option ℕ) (r : declared.Sight) → Located s o f →
    ((i : ℕ) → f ≡ Some i → r ≡ sight.Matches i) → (f ≡ None → Sighted s scanned r) → Sighted s (or_scan o scanned) r
fallen s o scanned (Some i) r l e h = subst (Sighted s (or_scan o scanned)) (sym (e i refl)) (l.0, (l.1.0, l.1.1, ap (λ x. or_scan x scanned) l.1.2))
fallen s o scanned None r l e h = subst (λ x. Sighted s (or_scan x scanned) r) (sym l) (h refl)
