-- A record's kept life, from the fields of its slot. Assumes nothing.
use Prim.Native.Nat.{ℕ, ◌-◌, max}
use mathlib.Core.Path.{◌≡◌, refl, sym, ◌∙◌}
use mathlib.Core.Bool.{Bool, true, false}
use lib.Dec.{leb}
use borrow.Author.Tests.{leb-true}
use Rattle.terms.specs.declared.Form.{Form}
use Rattle.terms.specs.Bits.{Bytes, Byte, All}
use Rattle.terms.specs.Records.{Record}
use Rattle.meaning.specs.Sound.{At}
use Rattle.meaning.specs.Local.{ends_before}
use Rattle.local.specs.Test.{kept_life}
use Rattle.layout.specs.Slots.{count_in, version_in, since_in}
use Rattle.layout.specs.Stores.{slot_in, store_in, Has}
use Rattle.lookup.proofs.Matching.{count_is_lem, no_bits}
use Rattle.check_kin.specs.declared.Kept as declared-kept
use Rattle.check_kin.specs.Kin.{Keeps, ends_at}
use Rattle.check_pass.specs.Passes.{Passed}
use Rattle.check_pass.proofs.Records.{version_of_lem, retired_of, read_long, read_bytes, read_as}
use Rattle.check_cover.specs.Cover.{CoveredBy}

module _ {fm : Form} (s : Bytes) (i : ℕ) (h : Has fm s i) where
  pub root_covered : All Byte s → {c : ℕ} → c ≡ count_in (slot_in fm i s) → c ≡ 0 → (sum : ℕ) → CoveredBy fm s sum i
  unfolding count_in
  root_covered bytes e z sum r a n =
      let count = count_is_lem fm (slot_in fm i s) (read_long h refl) (read_bytes h refl bytes) r (read_as h refl r a) in
      absurd (n (no_bits r.place (sym count ∙ sym e ∙ z)))

  module _ {k : declared-kept.Kept} (keeps : Keeps fm s k) {v n e m : ℕ} (version : v ≡ version_in (slot_in fm i s)) (retired : n ≡ since_in (slot_in fm i s))
      (ends : e ≡ ends_at k.latest n) (life : m ≡ e - max k.oldest v) where
    life_is : (r : Record) → At (store_in fm s) i r → kept_life (store_in fm s) r ≡ m
    unfolding kept_life ends_before
    life_is r a =
        let f : r.version ≡ v = version_of_lem (slot_in fm i s) r (read_as h refl r a) ∙ sym version in
        let g : r.retired ≡ n = retired_of (slot_in fm i s) r (read_as h refl r a) ∙ sym retired in
        rw (keeps.oldest, keeps.latest, f, g, ← ends, ← life)

    pub life_covered_lem : (t : Bool) (sum : ℕ) → t ≡ leb m sum → Passed t (CoveredBy fm s sum i)
    life_covered_lem true sum f = λ r a z. rw (life_is r a) (leb-true m sum (sym f))
    life_covered_lem false sum f = tt
