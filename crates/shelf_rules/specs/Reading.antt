-- A shelf's proof by reading its bytes, test after test, as the rooms of code promise it to each other. No public
-- promise reaches this file. Assumes nothing.
use Rattle.std.specs.Prelude.{ℕ, cond, ◌&&◌, [], ◌∷◌, ◌++◌, length, take, drop, eqb, leb}
use Rattle.std.proofs.Math.Option.{Option, none, some}
use Rattle.terms.specs.Bits.{Bytes}
use Rattle.terms.specs.Fields.{field}
use Rattle.terms.specs.Records.{Presence, Absence, Proof, presence, absence}
use Rattle.meaning.specs.Calls.{Answer, refused, accepted}
use Rattle.meaning.specs.Reading.{Verdict, present, absent}
use Rattle.meaning.specs.Checking.{checked}
use Rattle.nodehash.specs.Node.{leaf_hash, inner_hash}
use Rattle.proofrecords.specs.ProofBytes.{proof_bytes, proof_in, ProofForm}
use Rattle.shelf_rules.specs.Shelf.{most_bits, part_key, ShelfProof, no_part, in_part}

-- The bytes of a shelf's proof: the list's record, then the part's.
abbrev pub shelf_bytes : ShelfProof → Bytes
shelf_bytes (no_part a) = proof_bytes (absence a)
shelf_bytes (in_part p q) = proof_bytes (presence p) ++ proof_bytes q

-- Which have a form in bytes.
abbrev pub ShelfForm : ShelfProof → Type 0
ShelfForm (no_part a) = ProofForm (absence a)
ShelfForm (in_part p q) = ProofForm (presence p) × ProofForm q

-- The first record's own length says where it ends.
unfoldable pub list_record : Bytes → Bytes
list_record x = take (field 0 4 x) x

unfoldable pub part_record : Bytes → Bytes
part_record x = drop (field 0 4 x) x

-- A second record follows exactly if the first shows a presence, and no byte is over.
abbrev pub by_second : Presence → Option Proof → Option ShelfProof
by_second p none = none
by_second p (some q) = some (in_part p q)

abbrev pub by_end : Absence → Bytes → Option ShelfProof
by_end a [] = some (no_part a)
by_end a (x ∷ rest) = none

abbrev pub by_first : Option Proof → Bytes → Option ShelfProof
by_first none rest = none
by_first (some (presence p)) rest = by_second p (proof_in rest)
by_first (some (absence a)) rest = by_end a rest

-- The proof that bytes stand for; none where they aren't one or two whole records in form (10).
unfoldable pub shelf_in : Bytes → Option ShelfProof
shelf_in x = by_first (proof_in (list_record x)) (part_record x)

-- What the list says of the part, then the part of the key. Where the list shows that there is no part, the key is
-- absent.
abbrev pub by_list : Answer Verdict → (Bytes → Answer Verdict) → Answer Verdict
by_list (refused n) part = refused n
by_list (accepted absent) part = accepted absent
by_list (accepted (present root)) part = part root

-- The list's record is checked for the part's key against the root, and the part's for the key against the root that
-- the list shows.
abbrev pub shelf_checked : Bytes → ℕ → Bytes → ShelfProof → Answer Verdict
shelf_checked root b k (no_part a) = checked leaf_hash inner_hash root (part_key b k) (absence a)
shelf_checked root b k (in_part p q) =
    by_list (checked leaf_hash inner_hash root (part_key b k) (presence p))
    (λ part. checked leaf_hash inner_hash part k q)

-- 10 if there is no proof in form; else both records hold, or 11.
abbrev pub shelf_judged : Bytes → ℕ → Bytes → Option ShelfProof → Answer Verdict
shelf_judged root b k none = refused 10
shelf_judged root b k (some p) = shelf_checked root b k p

-- 12 if the root or the key isn't 32 bytes; 21 if there are over 12 bits; else 10, 11, "present" with the value, or
-- "absent".
unfoldable pub shelf_verified : Bytes → ℕ → Bytes → Bytes → Answer Verdict
shelf_verified root b k x =
    cond (eqb (length root) 32 && eqb (length k) 32)
    (cond (leb b most_bits) (shelf_judged root b k (shelf_in x)) (refused 21))
    (refused 12)
