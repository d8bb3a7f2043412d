-- The test of a record's form passes exactly if it is in form. Assumes nothing.
use mathlib.Core.Path.{◌≡◌, ap}
use mathlib.Core.Bool.{◌&&◌}
use lib.ListN.{length}
use lib.Dec.{eqb, ltb}
use Rattle.terms.specs.Bits.{Bytes, Byte, Whole32}
use Rattle.terms.specs.Records.{Child, Body, leaf_body, inner_body, Tally, no_tally, Record, zeros}
use Rattle.terms.specs.Form.{ChildForm, BodyForm, CountsForm, RecordForm, top32, place_limit}
use Rattle.local.specs.Test.{whole32_test, child_form_test, body_form_test, counts_form_test, form_test}
use Rattle.local.proofs.Says.{Says, says, equal, at_most, less, both, neither, asked, same, each, done, next}

whole32_says : (x : Bytes) → Says (whole32_test x) (Whole32 x)
unfolding whole32_test
whole32_says x = both (equal (length x) 32) (each (λ b. ltb b 256) Byte (λ b. less b 256) x)

child_says_lem : (c : Child) → Says (child_form_test c) (ChildForm c)
unfolding child_form_test
child_says_lem c =
    says (next (at_most c.version top32) (next (whole32_says c.hash)
    (next (asked (equal c.version 0) (same c.hash zeros)) done))).all
    (λ h. record { number = h.0; hash32 = h.1.0; missing = h.1.1.0 }) (λ f. (f.number, (f.hash32, (f.missing, tt))))

body_says : (o : Body) → Says (body_form_test o) (BodyForm o)
body_says (leaf_body k x) = both (whole32_says k) (whole32_says x)
body_says (inner_body l r) =
    says (next (child_says_lem l) (next (child_says_lem r) (next (neither (both (equal l.version 0) (equal r.version 0))) done))).all
    (λ h. (h.0, h.1.0, λ a b. h.1.1.0 (a, b))) (λ f. (f.0, (f.1, (λ k. f.2 k.0 k.1, tt))))

tally_eq : {c d : Tally} → c.leftward ≡ d.leftward → c.rightward ≡ d.rightward → c ≡ d
tally_eq e f = λ j. record { leftward = e j; rightward = f j }

-- two tests of numbers, one on each side
pub tally_says : (c d : Tally) → Says (eqb c.leftward d.leftward && eqb c.rightward d.rightward) (c ≡ d)
tally_says c d =
    says (both (equal c.leftward d.leftward) (equal c.rightward d.rightward))
    (λ h. tally_eq h.0 h.1) (λ e. (ap (λ x. x.leftward) e, ap (λ x. x.rightward) e))

counts_form_says : (o : Body) (c : Tally) → Says (counts_form_test o c) (CountsForm o c)
counts_form_says (leaf_body k x) c = tally_says c no_tally
counts_form_says (inner_body l r) c = both (at_most c.leftward top32) (at_most c.rightward top32)

pub form_says : (r : Record) → Says (form_test r) (RecordForm r)
unfolding form_test
form_says r =
    says (next (at_most (length r.place) (place_limit r.body))
    (next (at_most 1 r.version) (next (at_most r.version top32) (next (at_most r.retired top32)
    (next (body_says r.body) (next (counts_form_says r.body r.counts) done)))))).all
    (λ h. record {
      short = h.0;
      versioned = (h.1.0, h.1.1.0);
      number = h.1.1.1.0;
      body = h.1.1.1.1.0;
      counts = h.1.1.1.1.1.0;
    })
    (λ f. (f.short, (f.versioned.0, (f.versioned.1, (f.number, (f.body, (f.counts, tt)))))))
