-- Local is global: what a check looks at, record by record, holds exactly of the sound stores, whatever the two hash functions are.
-- Assumes nothing.
use mathlib.Core.Logic.{◌↔◌}
use Rattle.terms.specs.Bits.{Bytes}
use Rattle.terms.specs.Records.{Store}
use Rattle.meaning.specs.Sound.{Sound}
use Rattle.meaning.specs.Local.{Local}
use Rattle.local.proofs.Standing.{local_is_sound}
use Rattle.local.proofs.Seeing.{sound_is_local}

pub local_is_global : (leaf_hash inner_hash : Bytes → Bytes → Bytes) (st : Store) → Local leaf_hash inner_hash st ↔ Sound leaf_hash inner_hash st
local_is_global leaf_hash inner_hash st = (local_is_sound leaf_hash inner_hash st, sound_is_local leaf_hash inner_hash st)
