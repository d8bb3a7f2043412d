-- The other roots of a store, slot by slot: count, version and retired-since of a record in form are the fields of its bytes. Assumes nothing.
use Prim.Native.Nat.{ℕ, ◌<◌, ◌≤◌, max}
use mathlib.Core.Path.{◌≡◌, refl, ap, sym, ◌∙◌}
use mathlib.Core.Bool.{Bool, true, false, not, ◌||◌}
use mathlib.Core.List.{[]}
use lib.ListN.{length}
use lib.Dec.{leb}
use borrow.Author.Tests.{eq-eqb, ne_eqb, le-leb, lt-leb}
use Rattle.terms.specs.declared.Form.{Form}
use Rattle.terms.specs.Bits.{Bytes, Byte, All, same_place}
use Rattle.terms.specs.Records.{Record, Slot, free, used, spoiled, Store}
use Rattle.terms.proofs.Tests.{is_false, same_place_lem}
use Rattle.meaning.specs.Local.{ends_before}
use Rattle.local.specs.Test.{by_record, apart, root_apart}
use Rattle.layout.specs.Slots.{count_in, version_in, since_in, slot_of}
use Rattle.layout.specs.Stores.{slot_in, store_in, slot_no, Has}
use Rattle.store.proofs.Slots.{slot_long, slot_bytes_lem, slot_within, slot_is}
use Rattle.lookup.specs.Lookup.{is_used}
use Rattle.lookup.proofs.Matching.{count_is_lem, version_is, retired_is, no_bits}
use Rattle.lookup.proofs.Searching.{used_or, unused}
use Rattle.check_kin.specs.declared.Kept as declared-kept
use Rattle.check_kin.specs.Kin.{Keeps, ends_at, lives_apart, clear_of}

-- what a root asks of the others
pub root_clear : (st : Store) (r : Record) → root_apart st r ≡ clear_of st r.version (ends_before st r)
unfolding root_apart apart clear_of lives_apart
root_clear st r = refl

-- two lives, by the tests of the code
module _ (oldest v e w f : ℕ) where
  pub one_version : w ≡ v → true ≡ lives_apart oldest v e w f
  unfolding lives_apart
  one_version h = sym (rw (eq-eqb w v h))

  module _ (other : w ≡ v → ⊥) {m : ℕ} (first : m ≡ max oldest v) where
    pub ended : f ≤ m → true ≡ lives_apart oldest v e w f
    unfolding lives_apart
    ended h = sym (rw (ne_eqb w v other, ← first, le-leb f m h))

    pub not_ended : m < f → {n : ℕ} → n ≡ max oldest w → leb e n ≡ lives_apart oldest v e w f
    unfolding lives_apart
    not_ended h then = sym (rw (ne_eqb w v other, ← first, lt-leb f m h, ← then))

all_clear : (f : Record → Bool) (y : Slot) → ((q : Record) → y ≡ used q → f q ≡ true) → by_record true f y ≡ true
all_clear f free h = refl
all_clear f (used q) h = h q refl
all_clear f (spoiled x) h = refl

-- slot j, beside the root that lives from v on and before e
module _ {fm : Form} {s : Bytes} {j : ℕ} (h : Has fm s j) (b : All Byte s) (v e : ℕ) where
  clear : ((q : Record) → slot_of (slot_in fm j s) ≡ used q → clear_of (store_in fm s) v e q ≡ true) → true ≡ by_record true (clear_of (store_in fm s) v e) (slot_no fm j s)
  clear f = sym (ap (by_record true (clear_of (store_in fm s) v e)) (slot_is h) ∙ all_clear (clear_of (store_in fm s) v e) (slot_of (slot_in fm j s)) f)

  count : (q : Record) → slot_of (slot_in fm j s) ≡ used q → count_in (slot_in fm j s) ≡ length q.place
  unfolding count_in
  count q u = count_is_lem fm (slot_in fm j s) (slot_long fm j s (slot_within h)) (slot_bytes_lem fm j s b) q u

  pub no_root_lem : (count_in (slot_in fm j s) ≡ 0 → ⊥) → true ≡ by_record true (clear_of (store_in fm s) v e) (slot_no fm j s)
  unfolding clear_of
  no_root_lem f = clear (λ q u. rw (is_false (same_place q.place []) (λ t. f (count q u ∙ ap length (same_place_lem q.place [] t)))))

  pub no_record : {x : Bytes} → x ≡ slot_in fm j s → is_used (slot_of x) ≡ false → true ≡ by_record true (clear_of (store_in fm s) v e) (slot_no fm j s)
  no_record i f = clear (λ q u. unused (slot_of (slot_in fm j s)) q (ap (λ y. is_used (slot_of y)) (sym i) ∙ f) u)

  -- its life, by the fields that were read
  module _ {k : declared-kept.Kept} (keeps : Keeps fm s k) {w n f : ℕ} (version : w ≡ version_in (slot_in fm j s)) (retired : n ≡ since_in (slot_in fm j s))
      (ends : f ≡ ends_at k.latest n) {t : Bool} (said : t ≡ lives_apart k.oldest v e w f) where
    its_life : (q : Record) → slot_of (slot_in fm j s) ≡ used q → lives_apart (store_in fm s).oldest v e q.version (ends_before (store_in fm s) q) ≡ t
    unfolding ends_before
    its_life q u =
        let a : q.version ≡ w = sym (version_is fm (slot_in fm j s) (slot_long fm j s (slot_within h)) (slot_bytes_lem fm j s b) q u) ∙ sym version in
        let c : q.retired ≡ n = sym (retired_is fm (slot_in fm j s) (slot_long fm j s (slot_within h)) (slot_bytes_lem fm j s b) q u) ∙ sym retired in
        rw (keeps.oldest, keeps.latest, a, c, ← ends) (sym said)

    pub clear_life : t ≡ true → true ≡ by_record true (clear_of (store_in fm s) v e) (slot_no fm j s)
    unfolding clear_of
    clear_life m = clear (λ q u. rw (its_life q u, m) (or-true (not (same_place q.place []))))
      where
        or-true : (a : Bool) → a || true ≡ true
        or-true true = refl
        or-true false = refl

    pub met : t ≡ false → count_in (slot_in fm j s) ≡ 0 → {x : Bytes} → x ≡ slot_in fm j s → (r : Bool) → r ≡ is_used (slot_of x) →
        not r ≡ by_record true (clear_of (store_in fm s) v e) (slot_no fm j s)
    unfolding clear_of
    met m z i false d = no_record i (sym d)
    met m z i true d =
        let (q, u) = used_or (slot_of (slot_in fm j s)) (ap (λ y. is_used (slot_of y)) (sym i) ∙ sym d) in
        let root : q.place ≡ [] = no_bits q.place (sym (count q u) ∙ z) in
        sym (ap (by_record true (clear_of (store_in fm s) v e)) (slot_is h ∙ u) ∙ rw (its_life q u, m, root))
