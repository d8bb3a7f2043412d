-- Document 02, request 2026-08, over bytes: two buffers compared. No public promise reaches this file. Assumes nothing.
use Rattle.std.specs.Prelude.{ℕ, ◌+◌, ◌≤◌, ◌≡◌, true, length}
use Rattle.terms.specs.declared.Form.TheVariants.{Counted as counted}
use Rattle.terms.specs.Bits.{Bytes}
use Rattle.layout.specs.Headers.{size_right}
use Rattle.layout.specs.Stores.{Has}
use Rattle.rescue_rules.specs.Rescue.{Counts}
use Rattle.rescue_count.specs.declared.Counts as declared

-- The three numbers.
abbrev pub counts_say : declared.Counts → Counts
counts_say c = record { same = c.same; other = c.other; out = c.out }

-- Two buffers of one right length.
pub record Pair (s t : Bytes) : Type 0 where
  pub size : size_right counted (length s) ≡ true
  pub equal : length t ≡ length s

-- A slot of both, where fewer have been counted than a store has.
pub record Countable (s t : Bytes) (i : ℕ) (c : declared.Counts) : Type 0 where
  pub before : Has counted s i
  pub after : Has counted t i
  pub few : c.same + c.other + c.out ≤ 16384
