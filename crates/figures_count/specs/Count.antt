-- Document 02, request 2026-14, over bytes: the slots of a sound store counted. No public promise reaches this file.
-- Assumes nothing.
use Rattle.std.specs.Prelude.{ℕ, ◌<◌, ◌≤◌, ◌≡◌, true, length}
use Rattle.terms.specs.declared.Form.TheVariants.{Counted as counted}
use Rattle.terms.specs.Bits.{Bytes}
use Rattle.terms.specs.Records.{spoiled}
use Rattle.layout.specs.Sizes.{room_of}
use Rattle.layout.specs.Headers.{size_right}
use Rattle.layout.specs.Stores.{slot_no, Has}
use Rattle.quarter.specs.Figures.{Figures}
use Rattle.figures_count.specs.declared.Figures as declared

-- The four numbers.
abbrev pub figures_say : declared.Figures → Figures
figures_say f = record { leaves = f.leaves; inners = f.inners; longest = f.longest; path_sum = f.sum }

-- Slot i is one of the store's, free or a record in form.
pub record Plain (s : Bytes) (i : ℕ) : Type 0 where
  pub has : Has counted s i
  pub whole : (x : Bytes) → slot_no counted i s ≡ spoiled x → ⊥

-- A store of the right size, each slot free or a record in form.
pub record Whole (s : Bytes) : Type 0 where
  pub size : size_right counted (length s) ≡ true
  pub whole : (i : ℕ) (x : Bytes) → i < room_of counted (length s) → slot_no counted i s ≡ spoiled x → ⊥

-- Numbers that one node more doesn't carry out of 32 bits.
pub record Few (f : declared.Figures) (n : ℕ) : Type 0 where
  pub leaves : f.leaves ≤ 16384
  pub inners : f.inners ≤ 16384
  pub sum : f.sum ≤ 4194304
  pub steps : n ≤ 256

pub record Countable (s : Bytes) (i : ℕ) (f : declared.Figures) : Type 0 where
  pub plain : Plain s i
  pub few : Few f 0
