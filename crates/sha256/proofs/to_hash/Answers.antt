-- Two words joined have the bytes of the one and then of the other.
-- Assumes nothing.
use Rattle.hash.proofs.Laws.{hash_in_parts}
use Rattle.sha256.proofs.to_hash.Goals as goal

pub returns : goal.returns
returns c = hash_in_parts _ c.join.ensures.result_value c.join-2.ensures.result_value c.join-3.ensures.result_value c.join-4.ensures.result_value
