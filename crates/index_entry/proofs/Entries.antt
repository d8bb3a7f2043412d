-- What a look at an entry says for the root of a version: other places and later versions are too great, a root retired by then too small. Assumes nothing.
use Prim.Native.Nat.{ℕ, ◌<◌, ◌≤◌}
use native.Mathlib.Omega.{arith}
use mathlib.Core.Path.{◌≡◌, ap, ap₂, sym, ◌∙◌}
use mathlib.Core.Bool.{Bool, true, false, not}
use mathlib.Core.List.{List, []}
use lib.ListN.{length, get_or, get_or-eq_default}
use borrow.Author.Tests.{lt-ltb, le-ltb, le-leb}
use Rattle.terms.specs.declared.Form.TheVariants.{Counted as counted}
use Rattle.terms.specs.Bits.{Bytes, Byte, All, same_place}
use Rattle.terms.specs.Records.{Record, Slot, free, used}
use Rattle.terms.proofs.Tests.{is_false, same_place_lem}
use Rattle.meaning.specs.Store.{retired_by}
use Rattle.indexed.specs.Index.{Look, too_small, too_great, meets, look_at, root_look}
use Rattle.layout.specs.Sizes.{slot_size}
use Rattle.layout.specs.Slots.{slot_of, count_in, version_in, since_in}
use Rattle.layout.specs.Stores.{slot_in, slot_no, Has}
use Rattle.store.proofs.Slots.{slot_long, slot_bytes_lem, slot_within, slot_is}
use Rattle.lookup.specs.Lookup.{is_used}
use Rattle.lifetime.specs.Lifetime.{covers}
use Rattle.lookup.proofs.Matching.{version_is, retired_is, count_is_lem, no_bits}
use Rattle.index_node.specs.Looks.{look_says}
use Rattle.std.specs.declared.cmp.Ordering.{Ordering}
use Rattle.std.specs.declared.cmp.Ordering.TheVariants.{Less, Equal, Greater}
use Rattle.index_node.proofs.Looked.{by_slot, off_form}

-- an entry beyond the slots names none
pub beyond : (look : Record → Look) (s : List Slot) (e : ℕ) → length s ≤ e → Greater ≡ look_says (look_at look (get_or s e free))
beyond look s e l = ap (λ y. look_says (look_at look y)) (sym (get_or-eq_default s free l))

-- the look for a root
module _ (v : ℕ) (r : Record) where
  off_top : (r.place ≡ [] → ⊥) → root_look v r ≡ too_great
  unfolding root_look
  off_top n = rw (is_false (same_place r.place []) (λ e. n (same_place_lem r.place [] e)))

  later : r.place ≡ [] → v < r.version → root_look v r ≡ too_great
  unfolding root_look
  later e l = rw (ap (λ p. same_place p []) e, lt-ltb v r.version l)

  ended : r.place ≡ [] → r.version ≤ v → retired_by v r ≡ true → root_look v r ≡ too_small
  unfolding root_look
  ended e l k = rw (ap (λ p. same_place p []) e, le-ltb v r.version l, k)

  covered : r.place ≡ [] → r.version ≤ v → retired_by v r ≡ false → root_look v r ≡ meets r
  unfolding root_look
  covered e l k = rw (ap (λ p. same_place p []) e, le-ltb v r.version l, k)

  -- a lifetime that has begun covers v unless it is retired by then
  life : r.version ≤ v → covers r.version r.retired v ≡ not (retired_by v r)
  unfolding covers retired_by
  life l = rw (le-leb r.version v l)

not_of : (b c : Bool) → not b ≡ c → b ≡ not c
not_of true c e = ap not e
not_of false c e = ap not e

module _ {s : Bytes} {i : ℕ} (has : Has counted s i) (b : All Byte s) (v : ℕ) where
  abbrev y : Bytes
  y = slot_in counted i s

  abbrev SaysRoot : Ordering → Type 0
  SaysRoot l = l ≡ look_says (look_at (root_look v) (slot_no counted i s))

  lasting : length y ≡ slot_size counted
  lasting = slot_long counted i s (slot_within has)

  all : All Byte y
  all = slot_bytes_lem counted i s b

  root_says_lem : (l : Ordering) → is_used (slot_of y) ≡ true → ((r : Record) → slot_of y ≡ used r → look_says (root_look v r) ≡ l) → SaysRoot l
  root_says_lem l e f = by_slot (root_look v) l (slot_of y) e f ∙ ap (λ x. look_says (look_at (root_look v) x)) (sym (slot_is has))

  pub root_unformed : is_used (slot_of y) ≡ false → SaysRoot Greater
  root_unformed e = off_form (root_look v) (slot_of y) e ∙ ap (λ x. look_says (look_at (root_look v) x)) (sym (slot_is has))

  module _ (form : is_used (slot_of y) ≡ true) where
    pub root_deep : (count_in y ≡ 0 → ⊥) → SaysRoot Greater
    unfolding count_in
    root_deep n = root_says_lem Greater form (λ r u. ap look_says (off_top v r (λ e. n (count_is_lem counted y lasting all r u ∙ ap length e))))

    module _ (top : count_in y ≡ 0) where
      at_top : (r : Record) → slot_of y ≡ used r → r.place ≡ []
      unfolding count_in
      at_top r u = no_bits r.place (sym (count_is_lem counted y lasting all r u) ∙ top)

      its_version : (r : Record) → slot_of y ≡ used r → version_in y ≡ r.version
      its_version r u = version_is counted y lasting all r u

      pub root_later : v < version_in y → SaysRoot Greater
      root_later l = root_says_lem Greater form (λ r u. ap look_says (later v r (at_top r u) (omega (arith, its_version r u))))

      module _ (begun : version_in y ≤ v) where
        its_end : (r : Record) → slot_of y ≡ used r → (c : Bool) → covers (version_in y) (since_in y) v ≡ c → retired_by v r ≡ not c
        its_end r u c e =
            not_of (retired_by v r) c
            (sym (life v r (omega (arith, its_version r u))) ∙ (sym (ap₂ (λ x z. covers x z v) (its_version r u) (retired_is counted y lasting all r u)) ∙ e))

        pub root_ended : covers (version_in y) (since_in y) v ≡ false → SaysRoot Less
        root_ended e = root_says_lem Less form (λ r u. ap look_says (ended v r (at_top r u) (omega (arith, its_version r u)) (its_end r u false e)))

        pub root_covered : covers (version_in y) (since_in y) v ≡ true → SaysRoot Equal
        root_covered e = root_says_lem Equal form (λ r u. ap look_says (covered v r (at_top r u) (omega (arith, its_version r u)) (its_end r u true e)))
