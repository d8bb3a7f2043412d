-- `check_counts::counts_right` meets its contract, by the form. Assumes nothing.
use mathlib.Core.Path.{ap, ◌∙◌}
use Rattle.terms.specs.Bits.{right, longer}
use Rattle.meaning.specs.Store.{find}
use Rattle.meaning.specs.Local.{weighed}
use Rattle.place.specs.Place.{place_of}
use Rattle.layout.specs.Stores.{store_in}
use Rattle.check_counts.proofs.Weights.{left_off, left_on}
use Rattle.check_counts.proofs.counts_right.Goals as goal

pub returns-then-lefts-weigh : goal.returns-then-lefts-weigh
returns-then-lefts-weigh c =
    let a = c.args in
    left_off a.lefts a.rights (weighed (find a.b (longer right (place_of a.place)) (store_in a.form a.store.now).slots)) c.in-Counted.is
    (c.weigh.ensures ∙ (ap (λ p. weighed (find a.a p (store_in a.form a.store.now).slots)) c.left.ensures.place)) c.if-lefts-weigh.true

pub returns-else-lefts-weigh : goal.returns-else-lefts-weigh
returns-else-lefts-weigh c =
    let a = c.args in
    left_on a.lefts a.rights _ c.in-Counted.is (c.weigh.ensures ∙ (ap (λ p. weighed (find a.a p (store_in a.form a.store.now).slots)) c.left.ensures.place)) c.if-lefts-weigh.false
    (c.weigh-in-Counted.ensures ∙ (ap (λ p. weighed (find a.b p (store_in a.form a.store.now).slots)) c.right.ensures.place))
