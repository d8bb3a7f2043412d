-- `forged_truth::leaf_true` meets its contract: key and value are read where they lie in the proof. Assumes nothing.
use native.Mathlib.Omega.{arith}
use mathlib.Core.Path.{ap, ◌∙◌}
use Rattle.meaning.specs.Reading.{present, answer_of}
use Rattle.terms.specs.Fields.{slice}
use Rattle.proofrecords.specs.ProofBytes.{presence_in}
use Rattle.proofrecords.proofs.Forms.{presence_whole}
use Rattle.forgery.specs.Finding.{same_verdict}
use Rattle.forged_truth.specs.Truth.{grants_at, leaf_true}
use Rattle.forged_truth.proofs.leaf_true.Goals as goal

pub hash_at-value-requires : goal.hash_at-value-requires
hash_at-value-requires c = let w = presence_whole c.args.p.now c.requires.1 in omega arith

pub slice_bounds-has_value-end : goal.slice_bounds-has_value-end
slice_bounds-has_value-end c = let w = presence_whole c.args.p.now c.requires.1 in omega arith

pub returns : goal.returns
unfolding leaf_true presence_in slice
returns c = c.has_value.ensures ∙ ap (λ x. same_verdict (answer_of (presence_in c.args.p.now).key (grants_at c.args.store.now c.args.version)) (present x)) c.hash_at-value.ensures.result_value
