-- What a look at a slot says, from its bytes: the bits first, then the bit count, then the version. Assumes nothing.
use Prim.Native.Nat.{ℕ, ◌<◌, ◌≤◌}
use native.Mathlib.Omega.{arith}
use mathlib.Core.Path.{◌≡◌, refl, ap, ap₂, sym, ◌∙◌, subst}
use mathlib.Core.Bool.{Bool, true, false, true≢false, false≢true}
use lib.ListN.{length}
use borrow.Author.Tests.{lt-ltb}
use Rattle.terms.specs.declared.Form.TheVariants.{Counted as counted}
use Rattle.terms.specs.Bits.{Bytes, Byte, All, Place, pack, before}
use Rattle.terms.specs.Records.{Body, leaf_body, inner_body, Record, Slot, free, used, spoiled}
use Rattle.terms.specs.Form.{place_limit}
use Rattle.terms.proofs.Order.{before_total}
use Rattle.indexed.specs.Index.{node_before, Look, too_small, too_great, meets, look_at, node_look}
use Rattle.indexed.proofs.Before.{by_place, by_version, node_itself, node_once}
use Rattle.indexed.proofs.Packed.{bytes_before, bytes_equal}
use Rattle.place.specs.declared.Place as declared-place
use Rattle.place.specs.Place.{place_of, Proper}
use Rattle.place.proofs.Places.{proper_count}
use Rattle.layout.specs.Sizes.{slot_size}
use Rattle.layout.specs.Slots.{slot_of, count_in, version_in, bits_in}
use Rattle.layout.specs.Stores.{slot_in, slot_no, Has}
use Rattle.store.proofs.Slots.{slot_long, slot_bytes_lem, slot_within, slot_is}
use Rattle.lookup.specs.Lookup.{is_used}
use Rattle.lookup.proofs.Matching.{says, version_is, count_is_lem, bits_are, same_packed}
use Rattle.index_node.specs.Looks.{look_says}
use Rattle.std.specs.Ordering.{MatchOrdering, nat_cmp}
use Rattle.std.proofs.lemmas.Cmp.{ranked, by_ranked}
use Rattle.std.specs.declared.cmp.Ordering.{Ordering}
use Rattle.std.specs.declared.cmp.Ordering.TheVariants.{Less, Equal, Greater}

module _ (v : ℕ) (p : Place) (r : Record) where
  small : node_before r.version r.place v p ≡ true → node_look v p r ≡ too_small
  unfolding node_look
  small e = rw (e)

  great : node_before v p r.version r.place ≡ true → node_look v p r ≡ too_great
  unfolding node_look
  great e = rw (node_once v r.version p r.place e, e)

  met : r.version ≡ v → r.place ≡ p → node_look v p r ≡ meets r
  unfolding node_look
  met e f = rw (← e, ← f, node_itself r.version r.place)

limit : (b : Body) → place_limit b ≤ 256
limit (leaf_body k x) = omega arith
limit (inner_body l r) = omega arith

pub by_slot : (look : Record → Look) (l : Ordering) (y : Slot) → is_used y ≡ true → ((r : Record) → y ≡ used r → look_says (look r) ≡ l) →
    l ≡ look_says (look_at look y)
by_slot look l free e f = absurd (false≢true e)
by_slot look l (used r) e f = sym (f r refl)
by_slot look l (spoiled x) e f = absurd (false≢true e)

pub off_form : (look : Record → Look) (y : Slot) → is_used y ≡ false → Greater ≡ look_says (look_at look y)
off_form look free e = refl
off_form look (used r) e = absurd (true≢false e)
off_form look (spoiled x) e = refl

module _ {s : Bytes} {i : ℕ} (has : Has counted s i) (b : All Byte s) (v : ℕ) (p : declared-place.Place) (proper : Proper p) where
  abbrev x : Bytes
  x = slot_in counted i s

  abbrev q : Place
  q = place_of p

  abbrev Says : Ordering → Type 0
  Says l = l ≡ look_says (look_at (node_look v q) (slot_no counted i s))

  long : length x ≡ slot_size counted
  long = slot_long counted i s (slot_within has)

  whole : All Byte x
  whole = slot_bytes_lem counted i s b

  says_of : (l : Ordering) → is_used (slot_of x) ≡ true → ((r : Record) → slot_of x ≡ used r → look_says (node_look v q r) ≡ l) → Says l
  says_of l e f = by_slot (node_look v q) l (slot_of x) e f ∙ ap (λ y. look_says (look_at (node_look v q) y)) (sym (slot_is has))

  short : length q ≤ 256
  short = omega (arith, proper.short, proper_count p proper)

  its_bits : (r : Record) → slot_of x ≡ used r → bits_in x ≡ pack 32 r.place
  its_bits r e = bits_are counted x long whole r e

  its_short : (r : Record) → slot_of x ≡ used r → length r.place ≤ 256
  its_short r e = omega (arith, (says {fm = counted} x long whole r e).form.short, limit r.body)

  pub unformed : is_used (slot_of x) ≡ false → Says Greater
  unformed e = off_form (node_look v q) (slot_of x) e ∙ ap (λ y. look_says (look_at (node_look v q) y)) (sym (slot_is has))

  module _ (form : is_used (slot_of x) ≡ true) where
    pub bits_small : before (bits_in x) p.bits ≡ true → Says Less
    bits_small e =
        says_of Less form (λ r u.
        ap look_says (small v q r (by_place r.version v r.place q (bytes_before r.place q (its_short r u) short (sym (ap₂ before (its_bits r u) proper.trimmed) ∙ e)))))

    pub bits_great : before p.bits (bits_in x) ≡ true → Says Greater
    bits_great e =
        says_of Greater form (λ r u.
        ap look_says (great v q r (by_place v r.version q r.place (bytes_before q r.place short (its_short r u) (sym (ap₂ before proper.trimmed (its_bits r u)) ∙ e)))))

    module _ (notLess : before (bits_in x) p.bits ≡ false) (notMore : before p.bits (bits_in x) ≡ false) where
      same_bits : (r : Record) → slot_of x ≡ used r → pack 32 r.place ≡ pack 32 q
      same_bits r u = sym (its_bits r u) ∙ (before_total (bits_in x) p.bits notLess notMore ∙ proper.trimmed)

      its_count : (r : Record) → slot_of x ≡ used r → count_in x ≡ length r.place
      unfolding count_in
      its_count r u = count_is_lem counted x long whole r u

      pub count_small : count_in x < p.count → Says Less
      count_small l =
          says_of Less form (λ r u.
          ap look_says (small v q r (by_place r.version v r.place q
          (bytes_equal r.place q (its_short r u) short (same_bits r u) ∙ lt-ltb (length r.place) (length q) (omega (arith, its_count r u, proper_count p proper))))))

      pub count_great : p.count < count_in x → Says Greater
      count_great l =
          says_of Greater form (λ r u.
          ap look_says (great v q r (by_place v r.version q r.place
          (bytes_equal q r.place short (its_short r u) (sym (same_bits r u)) ∙ lt-ltb (length q) (length r.place) (omega (arith, its_count r u, proper_count p proper))))))

      module _ (same : count_in x ≡ p.count) where
        its_place : (r : Record) → slot_of x ≡ used r → r.place ≡ q
        its_place r u = same_packed r.place q (its_short r u) short (sym (its_count r u) ∙ (same ∙ sym (proper_count p proper))) (same_bits r u)

        pub version_small : version_in x < v → Says Less
        version_small l =
            says_of Less form (λ r u.
            ap look_says (small v q r (by_version r.version v r.place q (its_place r u) (omega (arith, version_is counted x long whole r u)))))

        pub version_great : v < version_in x → Says Greater
        version_great l =
            says_of Greater form (λ r u.
            ap look_says (great v q r (by_version v r.version q r.place (sym (its_place r u)) (omega (arith, version_is counted x long whole r u)))))

        pub meeting : version_in x ≡ v → Says Equal
        meeting e = says_of Equal form (λ r u. ap look_says (met v q r (sym (version_is counted x long whole r u) ∙ e) (its_place r u)))

      -- the bit count decides, else the version
      pub head_decides : (a r : Ordering) → MatchOrdering a (count_in x < p.count) (count_in x ≡ p.count) (p.count < count_in x) →
          MatchOrdering a (r ≡ Less) (r ≡ nat_cmp (version_in x) v) (r ≡ Greater) → Says r
      head_decides Less r l e = subst Says (sym e) (count_small l)
      head_decides Equal r l e = by_ranked _ _ _ r (ranked _ _ r e) (λ f m. subst Says (sym f) (version_small l m)) (λ f m. subst Says (sym f) (meeting l m)) (λ f m. subst Says (sym f) (version_great l m))
      head_decides Greater r l e = subst Says (sym e) (count_great l)

  -- greater bits are too great, in form or not
  pub bits_above : before p.bits (bits_in x) ≡ true → Says Greater
  bits_above e = either (is_used (slot_of x)) refl where
    either : (f : Bool) → is_used (slot_of x) ≡ f → Says Greater
    either true u = bits_great u e
    either false u = unformed u
