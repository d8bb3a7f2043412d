-- One record among those of its store, as the code looks at it: what the helpers of the check promise each other. No
-- public promise reaches this file. Assumes nothing.
use Rattle.std.specs.Prelude.{ℕ, suc, max, ◌≡◌, Bool, true, false, cond, not, ◌||◌, [], length, eqb, leb}
use Rattle.terms.specs.declared.Form.{Form}
use Rattle.terms.specs.Bits.{Bytes, Place, same_place}
use Rattle.terms.specs.Records.{Body, leaf_body, inner_body, Record, Store}
use Rattle.meaning.specs.Store.{is_node}
use Rattle.meaning.specs.Local.{ends_before}
use Rattle.layout.specs.Headers.{size_right}
use Rattle.layout.specs.Stores.{store_in}
use Rattle.check_kin.specs.declared.Kept as declared-kept

-- The header of a store of the right size says which versions are kept.
pub record Keeps (fm : Form) (s : Bytes) (k : declared-kept.Kept) : Type 0 where
  pub size : size_right fm (length s) ≡ true
  pub oldest : (store_in fm s).oldest ≡ k.oldest
  pub latest : (store_in fm s).latest ≡ k.latest

-- 1 for a record that is the node (v, p), else 0.
unfoldable pub count_node : ℕ → Place → Record → ℕ
count_node v p q = cond (is_node v p q) 1 0

-- The first version after the life of a record retired since n.
abbrev pub ends_at : ℕ → ℕ → ℕ
ends_at latest n = cond (eqb n 0) (suc latest) n

-- The lives from v on and before e, and from w on and before f: they begin at one version, or have no kept version in
-- common.
unfoldable pub lives_apart : ℕ → ℕ → ℕ → ℕ → ℕ → Bool
lives_apart oldest v e w f = eqb w v || (leb f (max oldest v) || leb e (max oldest w))

-- A record is no root, or lives apart from the root that lives from v on and before e.
unfoldable pub clear_of : Store → ℕ → ℕ → Record → Bool
clear_of st v e q = not (same_place q.place []) || lives_apart st.oldest v e q.version (ends_before st q)

-- The body is a leaf's.
abbrev pub is_leaf_body : Body → Bool
is_leaf_body (leaf_body k x) = true
is_leaf_body (inner_body l r) = false
