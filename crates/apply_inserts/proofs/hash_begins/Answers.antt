-- `apply_inserts::hash_begins` meets its contract: the bytes are those of the hash. Assumes nothing.
use mathlib.Core.Path.{refl, ap, ◌∙◌}
use lib.ListN.{replicate}
use Rattle.terms.specs.Bits.{begins}
use Rattle.hash.proofs.Laws.{put_over}
use Rattle.place.specs.Place.{place_of}
use Rattle.apply_inserts.proofs.hash_begins.Goals as goal

pub returns : goal.returns
returns c = c.begins.ensures ∙ ap (begins (place_of c.args.place)) (put_over c.args.h (replicate 32 0) _ refl c.put_hash.ensures)
