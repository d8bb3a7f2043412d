-- What is tested above a record, in the words of the test of local's specs. No public promise reaches this file.
-- Assumes nothing.
use Rattle.std.specs.Prelude.{◌≡◌, Bool, true, ◌&&◌}
use Rattle.terms.specs.declared.Form.{Form}
use Rattle.terms.specs.Bits.{Bytes}
use Rattle.terms.specs.Records.{Body, Tally}
use Rattle.meaning.specs.Reading.{body_hash}
use Rattle.local.specs.Test.{every, by_record, link_test, life_covered}
use Rattle.hash.specs.declared.Hash.{Hash}
use Rattle.hash.specs.Hash.{hash_bytes}
use Rattle.nodehash.specs.Node.{leaf_hash, inner_hash}
use Rattle.layout.specs.Stores.{store_in}
use Rattle.check_kin.specs.Kin.{is_leaf_body}
use Rattle.check_alone.specs.declared.Head as declared
use Rattle.check_alone.specs.Parts.{record_on}

-- What its parents say of a record is right, and its life is covered.
abbrev pub above_test : Form → Bytes → declared.Head → Body → Tally → Bool
above_test fm s h o tl =
    every (by_record true (link_test leaf_hash inner_hash (store_in fm s) (record_on h o tl))) (store_in fm s).slots &&
    life_covered (store_in fm s) (record_on h o tl)

-- The same of a record of that kind and hash.
abbrev pub AboveSays : Form → Bytes → declared.Head → Bool → Hash → Bool → Type 0
AboveSays fm s h leaf hash t = (o : Body) (tl : Tally) → is_leaf_body o ≡ leaf →
    body_hash leaf_hash inner_hash o ≡ hash_bytes hash → t ≡ above_test fm s h o tl
