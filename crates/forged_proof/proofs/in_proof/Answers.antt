-- `forged_proof::in_proof` meets its contract: each node is hashed, then the search is the messages hashed while checking, then the nodes. Assumes
-- nothing.
use Prim.Native.Nat.{ℕ}
use mathlib.Core.Path.{◌≡◌, ap, sym, ◌∙◌, subst}
use mathlib.Core.Bool.{true, cond}
use lib.ListN.{length-replicate}
use Rattle.terms.specs.Records.{presence, absence}
use Rattle.sha256.specs.Sha256.{sha256}
use Rattle.proofrecords.specs.ProofBytes.{is_presence, presence_in, is_absence, absence_in}
use Rattle.forgery.specs.Messages.{checked_messages}
use Rattle.forged_path.specs.Along.{nodes_in}
use Rattle.forged_path.proofs.Upwards.{searched_in_parts}
use Rattle.forged_proof.specs.Search.{or_zero, in_presence, in_absence}
use Rattle.forged_proof.proofs.in_proof.Goals as goal

pub note_words-requires : goal.note_words-requires
note_words-requires c = (c.requires.0, length-replicate {0} {A = ℕ} 16384 0)

pub on_path-requires : goal.on_path-requires
on_path-requires c =
    let p = c.args.proof.now in
    (c.note_words.ensures, subst (λ b. cond b (is_presence p) (is_absence p) ≡ true) c.if-single.true c.requires.1)

pub or_zero-requires : goal.or_zero-requires
or_zero-requires c = c.note_words.ensures

pub returns-then-single : goal.returns-then-single
returns-then-single c =
    let a = c.args in
    let p = a.proof.now in
    let nodes = nodes_in a.version a.store.now in
    c.or_zero.ensures
    ∙ ap (or_zero nodes) c.on_path.ensures
    ∙ sym (searched_in_parts nodes (checked_messages sha256 (presence (presence_in p))))
    ∙ sym (ap (λ b. cond b (in_presence nodes p) (in_absence nodes p)) c.if-single.true)

pub on_neighbours-requires : goal.on_neighbours-requires
on_neighbours-requires c =
    let p = c.args.proof.now in
    (c.note_words.ensures, subst (λ b. cond b (is_presence p) (is_absence p) ≡ true) c.if-single.false c.requires.1)

pub or_zero-requires-2 : goal.or_zero-requires-2
or_zero-requires-2 c = c.note_words.ensures

pub returns : goal.returns
returns c =
    let a = c.args in
    let p = a.proof.now in
    let nodes = nodes_in a.version a.store.now in
    c.or_zero-2.ensures
    ∙ ap (or_zero nodes) c.on_neighbours.ensures
    ∙ sym (searched_in_parts nodes (checked_messages sha256 (absence (absence_in p))))
    ∙ sym (ap (λ b. cond b (in_presence nodes p) (in_absence nodes p)) c.if-single.false)
