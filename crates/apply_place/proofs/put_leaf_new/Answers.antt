-- `apply_place::put_leaf_new` meets its contract: the grant is its key and value. Assumes nothing.
use mathlib.Core.Path.{ap, ◌∙◌}
use Rattle.terms.specs.declared.Form.TheVariants.{Counted as counted}
use Rattle.terms.specs.Records.{Body, used, no_tally}
use Rattle.place.specs.Place.{place_of}
use Rattle.layout.specs.Slots.{record_of}
use Rattle.layout.specs.Stores.{with_slot}
use Rattle.slots.specs.Answer.{grant_body}
use Rattle.apply_place.proofs.Placing.{grant_hashes}
use Rattle.apply_place.proofs.put_leaf_new.Goals as goal

pub returns : goal.returns
returns c =
    let a = c.args in
    c.put_leaf_at.ensures
    ∙ ap (λ (b : Body). with_slot counted a.i (used (record_of (place_of a.place) a.version 0 b no_tally)) a.store.now)
    (ap grant_body c.put_grant.ensures ∙ grant_hashes a.key a.value)
