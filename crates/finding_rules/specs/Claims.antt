-- Document 02, request 2026-12: what an accepted proof costs whom it deceives, whoever wrote it. Assumes nothing.
use Rattle.std.specs.Prelude.{ℕ, ◌≡◌, List, ◌++◌, length}
use Rattle.terms.specs.Bits.{Bytes}
use Rattle.terms.specs.Records.{Proof, Store}
use Rattle.meaning.specs.Tree.{unversioned, grants_in}
use Rattle.meaning.specs.Store.{tree_at_version}
use Rattle.meaning.specs.Reading.{Verdict, answer_of}
use Rattle.forgery.specs.Messages.{tree_messages, checked_messages}
use Rattle.forgery.specs.Finding.{True, Finding, nothing, Among, NamedFrom}

module _ (H : Bytes → Bytes) where
  -- The 65-byte messages of a version's nodes, and the messages hashed while checking a proof.
  abbrev pub the_messages : Store → ℕ → Proof → List Bytes
  the_messages st v p = tree_messages H (unversioned (tree_at_version st v)) ++ checked_messages H p

  -- Of a proof p that is accepted for the key k with this answer, and what the call finds of it.
  pub record FoundOut (st : Store) (v : ℕ) (k : Bytes) (p : Proof) (answer : Verdict) (found : Finding) : Type 0 where
    -- a proof that says something false about the version always gives a finding, and so does a false answer
    pub false_is_found : (True (grants_in (tree_at_version st v)) p → ⊥) → NamedFrom H (the_messages st v p) found
    pub false_answer_is_found : (answer_of k (grants_in (tree_at_version st v)) ≡ answer → ⊥) →
        NamedFrom H (the_messages st v p) found
    -- what is named is a finding, from these messages alone, which have 65 bytes
    pub named_is_a_finding : (found ≡ nothing → ⊥) → NamedFrom H (the_messages st v p) found
    pub of_65_bytes : (m : Bytes) → Among m (the_messages st v p) → length m ≡ 65
    -- a true proof gives none, and a proof for which nothing is found is true
    pub true_is_nothing : True (grants_in (tree_at_version st v)) p → found ≡ nothing
    pub nothing_is_true : found ≡ nothing → True (grants_in (tree_at_version st v)) p
