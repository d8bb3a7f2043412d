-- Document 01, 'Bytes', and 2026-09: which records have a form in bytes; numbers and counts have four. Assumes nothing.
use Rattle.std.specs.Prelude.{ℕ, ◌≤◌, ◌≡◌, length}
use Rattle.terms.specs.Bits.{Whole32}
use Rattle.terms.specs.Records.{
  Grant,
  Ask,
  insert,
  delete,
  Child,
  Body,
  leaf_body,
  inner_body,
  Tally,
  no_tally,
  Record,
  Form,
  plain,
  counted,
  zeros,
}

-- The largest number of four bytes.
abbrev pub top32 : ℕ
top32 = 4294967295

-- A store has 1 to 16,384 slots.
abbrev pub most_slots : ℕ
most_slots = 16384

-- A leaf's place has at most 256 bits, an inner node's at most 255.
abbrev pub place_limit : Body → ℕ
place_limit (leaf_body k x) = 256
place_limit (inner_body l r) = 255

-- A child's version 0 means no child, and its hash is then zero; an inner record has a child.
pub record ChildForm (c : Child) : Type 0 where
  pub number : c.version ≤ top32
  pub hash32 : Whole32 c.hash
  pub missing : c.version ≡ 0 → c.hash ≡ zeros

abbrev pub BodyForm : Body → Type 0
BodyForm (leaf_body k x) = Whole32 k × Whole32 x
BodyForm (inner_body l r) = ChildForm l × ChildForm r × (l.version ≡ 0 → r.version ≡ 0 → ⊥)

-- A leaf has no counts.
abbrev pub CountsForm : Body → Tally → Type 0
CountsForm (leaf_body k x) c = c ≡ no_tally
CountsForm (inner_body l r) c = (c.leftward ≤ top32) × (c.rightward ≤ top32)

pub record RecordForm (r : Record) : Type 0 where
  pub short : length r.place ≤ place_limit r.body
  pub versioned : (1 ≤ r.version) × (r.version ≤ top32)
  pub number : r.retired ≤ top32
  pub body : BodyForm r.body
  pub counts : CountsForm r.body r.counts

-- In the plain form no record has counts.
abbrev pub FormedAs : Form → Record → Type 0
FormedAs plain r = r.counts ≡ no_tally
FormedAs counted r = Unit {0}

abbrev pub GrantForm : Grant → Type 0
GrantForm g = Whole32 g.key × Whole32 g.value

abbrev pub AskForm : Ask → Type 0
AskForm (insert k x) = Whole32 k × Whole32 x
AskForm (delete k) = Whole32 k
