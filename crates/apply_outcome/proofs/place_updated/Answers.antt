-- `apply_outcome::place_updated` meets its contract: only what was updated is placed. Assumes nothing.
use mathlib.Core.Path.{subst}
use borrow.Enum.Refused.{opened}
use Rattle.terms.specs.Bits.{All}
use Rattle.terms.specs.Form.{RecordForm}
use Rattle.place.specs.Place.{place_of}
use Rattle.apply_outcome.proofs.Saying.{is_updated, not_updated, none_placed, some_placed}
use Rattle.apply_outcome.proofs.place_updated.Goals as goal

pub returns-in_default : goal.returns-in_default
returns-in_default c = none_placed c.args.writes (not_updated (place_of c.args.place) c.args.out (opened c.in_default.in_default-own.keys2)) c.requires

pub place_node-requires : goal.place_node-requires
place_node-requires c =
    let e = is_updated (place_of c.args.place) c.args.out c.in-Updated.is in
    record {
      stored = c.requires.stored;
      starts = c.requires.starts;
      proper = c.requires.proper;
      form = λ w. subst (All RecordForm) e (c.requires.form w);
    }

pub returns : goal.returns
returns c = some_placed c.args.writes (is_updated (place_of c.args.place) c.args.out c.in-Updated.is) c.place_node.ensures
