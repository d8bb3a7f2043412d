-- Document 02, 2026-12: what the call answers of bytes as a proof for a key in a version of a sound store, by a hash.
use Rattle.std.specs.Prelude.{ℕ, ◌≡◌, [], ◌∷◌, ◌++◌}
use Rattle.terms.specs.Bits.{Bytes}
use Rattle.terms.specs.Fields.{zero_bytes}
use Rattle.terms.specs.Records.{Proof, Store}
use Rattle.meaning.specs.Tree.{hash, unversioned, grants_in}
use Rattle.meaning.specs.Store.{tree_at_version}
use Rattle.meaning.specs.Sound.{Kept}
use Rattle.meaning.specs.Calls.{Answer, refused, accepted}
use Rattle.meaning.specs.Reading.{Verdict}
use Rattle.meaning.specs.Proving.{HoldsGrant}
use Rattle.checker.specs.Holding.{Holds}
use Rattle.proofrecords.specs.ProofBytes.{ProofIs}
use Rattle.forgery.specs.Messages.{leaf_hash, inner_hash, node_messages, checked_messages}
use Rattle.forgery.specs.Finding.{True, Finding, nothing, two_equal, one_zero, searched}

module _ (H : Bytes → Bytes) where
  -- A proof holds for the key k against a version's root, the hash of its tree, with this answer.
  abbrev pub HoldsAt : Store → ℕ → Bytes → Proof → Verdict → Type 0
  HoldsAt st v k p a =
      let root = hash (leaf_hash H) (inner_hash H) (unversioned (tree_at_version st v)) in
      Holds (leaf_hash H) (inner_hash H) root k p a

  -- What is found of the bytes x as a proof for the key k in version v of a sound store.
  pub data FoundIn (st : Store) (v : ℕ) (k x : Bytes) : Answer Finding → Type 0 where
    -- 8: the version isn't kept
    not_kept : (Kept st v → ⊥) → FoundIn st v k x (refused 8)
    -- 14: it holds no grant
    no_grant_lem : Kept st v → grants_in (tree_at_version st v) ≡ [] → FoundIn st v k x (refused 14)
    -- 10: the bytes are no proof in form
    not_in_form : Kept st v → HoldsGrant st v → ((p : Proof) → ProofIs x p → ⊥) → FoundIn st v k x (refused 10)
    -- 11: they are one that doesn't hold against the version's root
    not_holding : {p : Proof} → Kept st v → HoldsGrant st v → ProofIs x p → ((a : Verdict) → HoldsAt st v k p a → ⊥) →
        FoundIn st v k x (refused 11)
    -- else what is found of it: nothing if it is true of the version's grants, what the search names if it isn't
    holding : {p : Proof} {a : Verdict} {f : Finding} → Kept st v → HoldsGrant st v → ProofIs x p → HoldsAt st v k p a →
        (True (grants_in (tree_at_version st v)) p → f ≡ nothing) → ((True (grants_in (tree_at_version st v)) p → ⊥) →
        f ≡ searched H (node_messages v st.slots) (checked_messages H p)) → FoundIn st v k x (accepted f)

-- What is found, in 131 bytes: 0, or 1 and two messages, or 2 and one message; zero where there is none.
unfoldable pub finding_bytes : Finding → Bytes
finding_bytes nothing = 0 ∷ zero_bytes 130
finding_bytes (two_equal m n) = 1 ∷ (m ++ n)
finding_bytes (one_zero m) = 2 ∷ (m ++ zero_bytes 65)
