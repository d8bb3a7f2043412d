-- Beside the desk's table: what it is that a row holds, the desk's history as calls, and rows and a history with gaps
-- between the numbers (2026-13). No public promise reaches this file. Assumes nothing.
use Rattle.std.specs.Prelude.{ℕ, ◌≡◌, List, [], ◌∷◌, ◌++◌, replicate}
use Rattle.std.proofs.Math.Option.{none, some}
use Rattle.terms.specs.Bits.{Bytes}
use Rattle.terms.specs.Records.{Ask, insert, delete, Slot, free, Store, zeros}
use Rattle.terms.specs.Form.{top32}
use Rattle.meaning.specs.Store.{formatted}
use Rattle.meaning.specs.Calls.{refused, accepted, apply, prune}
use Rattle.meaning.specs.Reading.{read_root}
use Rattle.meaning.specs.History.{Call, applying, pruning, looking, Entry, entry}
use Rattle.meaning.specs.Desk.{
  Row,
  applies,
  prunes,
  reads,
  A,
  B,
  C,
  C',
  D,
  E,
  put,
  four,
  lf,
  since,
  store,
  made,
  h,
  root₁,
  root₂,
  of_two,
}

-- M2's batch.
abbrev other : List Ask
other = delete B.key ∷ put C' ∷ []

-- M1 to M8 and M11 as the calls of one history; between M3 and M4 come a batch out of order and one that isn't in form,
-- after M4 a read.
abbrev pub calls : List Call
calls =
    applying 1 (some four)
    ∷ applying 2 (some other)
    ∷ applying 3 (some [])
    ∷ applying 4 (some (insert D.key E.value ∷ insert C.key E.value ∷ []))
    ∷ applying 4 none
    ∷ applying 4 (some (delete A.key ∷ []))
    ∷ looking
    ∷ applying 5 (some (delete D.key ∷ []))
    ∷ applying 6 (some (delete C.key ∷ []))
    ∷ pruning 4
    ∷ applying 7 (some (put E ∷ []))
    ∷ pruning 4
    ∷ pruning 8
    ∷ []

-- What they grant: versions 0 to 3 are pruned.
abbrev pub granted : List Entry
granted = entry 7 (E ∷ []) ∷ entry 6 [] ∷ entry 5 (C' ∷ []) ∷ entry 4 (C' ∷ D ∷ []) ∷ []

-- A history with gaps, and what it grants: version 8 holds what 5 held, and so does 7, to which it is pruned.
abbrev pub gap_calls : List Call
gap_calls = applying 5 (some four) ∷ applying 9 (some other) ∷ applying 9 (some []) ∷ pruning 7 ∷ []

abbrev pub gap_granted : List Entry
gap_granted = entry 9 (A ∷ C' ∷ D ∷ []) ∷ entry 8 (A ∷ B ∷ C ∷ D ∷ []) ∷ entry 7 (A ∷ B ∷ C ∷ D ∷ []) ∷ []

module _ (leaf_hash inner_hash : Bytes → Bytes → Bytes) where
  -- The call's answer and the store after it are the row's.
  abbrev pub RowHolds : Row → Type 0
  RowHolds (applies st number batch answer end) =
      apply leaf_hash inner_hash number (some batch) st ≡ record { answer = answer; store = end }
  RowHolds (prunes st n answer end) = prune n st ≡ record { answer = answer; store = end }
  RowHolds (reads st v root) = read_root leaf_hash inner_hash st v ≡ root

  -- The slots of M1's batch as version 5 and M2's as 9, retired since the versions listed.
  abbrev slots : List ℕ → List Slot
  slots versions = since (of_two leaf_hash inner_hash 5 9) versions

  abbrev pub g₅ : Store
  g₅ = store 0 5 (slots (replicate 7 0) ++ replicate 13 free)

  abbrev nine : List Slot
  nine = slots (9 ∷ 9 ∷ 0 ∷ 9 ∷ 9 ∷ 0 ∷ 9 ∷ 0 ∷ 0 ∷ 0 ∷ []) ++ replicate 10 free

  abbrev pub g₉ : Store
  g₉ = store 0 9 nine

  -- pruned to 7, between 5 and 9
  abbrev pub g₇ : Store
  g₇ = store 7 9 nine

  -- all withdrawn as 12, and M8's as 15
  abbrev withdrawn : List Slot
  withdrawn = slots (9 ∷ 9 ∷ 12 ∷ 9 ∷ 9 ∷ 12 ∷ 9 ∷ 12 ∷ 12 ∷ 12 ∷ [])

  abbrev pub g₁₂ : Store
  g₁₂ = store 0 12 (withdrawn ++ replicate 10 free)

  abbrev pub g₁₅ : Store
  g₁₅ = store 0 15 (withdrawn ++ lf [] 15 E 0 ∷ replicate 9 free)

  -- pruned to 13, in the empty stretch
  abbrev pub g₁₃ : Store
  g₁₃ = store 13 15 (replicate 10 free ++ lf [] 15 E 0 ∷ replicate 9 free)

  abbrev pub gaps : List Row
  gaps =
      applies (formatted 20) 5 four (made 5 (root₁ leaf_hash inner_hash) 7) g₅
      ∷ reads g₅ 4 (accepted zeros)
      ∷ applies g₅ 9 other (made 9 (root₂ leaf_hash inner_hash) 3) g₉
      ∷ reads g₉ 7 (accepted (root₁ leaf_hash inner_hash))
      ∷ prunes g₉ 7 (accepted 0) g₇
      ∷ reads g₇ 6 (refused 8)
      ∷ reads g₇ 7 (accepted (root₁ leaf_hash inner_hash))
      ∷ applies g₉ 12 (delete A.key ∷ delete C.key ∷ delete D.key ∷ []) (made 12 zeros 0) g₁₂
      ∷ applies g₁₂ 15 (put E ∷ []) (made 15 (h leaf_hash inner_hash E) 1) g₁₅
      ∷ reads g₁₅ 11 (accepted (root₂ leaf_hash inner_hash))
      ∷ reads g₁₅ 14 (accepted zeros)
      ∷ prunes g₁₅ 13 (accepted 10) g₁₃
      ∷ reads g₁₃ 13 (accepted zeros)
      ∷ applies (formatted 2) top32 [] (made top32 zeros 0) (store 0 top32 (replicate 2 free))
      ∷ []

  -- Numbers that are not above latest.
  abbrev pub not_above : List Row
  not_above =
      applies g₉ 9 [] (refused 18) g₉
      ∷ applies g₉ 0 (delete B.key ∷ []) (refused 18) g₉
      ∷ applies (formatted 20) 0 four (refused 18) (formatted 20)
      ∷ applies (store 0 top32 (replicate 2 free)) top32 [] (refused 18) (store 0 top32 (replicate 2 free))
      ∷ []
