-- Comparisons of two versions, part 1. Written by tests/tables/generate.py; compared with a second reading of document 01, 2026-07 and 2026-01 and 2026-13. Assumes nothing.
use mathlib.Core.Path.{◌≡◌, refl}
use mathlib.Core.Bool.{true, false}
use mathlib.Core.List.{List, [], ◌∷◌}
use mathlib.Core.Option.{none, some}
use Rattle.terms.specs.Bits.{Bytes, All}
use Rattle.terms.specs.Records.{insert, delete, free, Store, presence, zeros}
use Rattle.meaning.specs.Computed.{computed}
use Rattle.meaning.specs.Calls.{refused, accepted}
use Rattle.meaning.specs.Desk.{key_of}
use Rattle.meaning.specs.Proving.{step, presence_of, absence_of}
use Rattle.meaning.specs.Reading.{present, absent}
use Rattle.tables.specs.Tables.{leaf_slot, inner_slot, store_of, free_slots, value_of}
use Rattle.terms.specs.Records.{grant}
use Rattle.changed.specs.Changes.{inserts, deletes}
use Rattle.tables.specs.Compared.{Comparison, comparison, ComparisonHolds, compared}

module _ (leaf_hash inner_hash : Bytes → Bytes → Bytes) where
  abbrev h0 : Bytes
  h0 = leaf_hash (key_of 64 0) (value_of 2)

  abbrev h1 : Bytes
  h1 = leaf_hash (key_of 144 0) (value_of 3)

  abbrev h2 : Bytes
  h2 = leaf_hash (key_of 64 0) (value_of 3)

  abbrev h3 : Bytes
  h3 = leaf_hash (key_of 144 0) (value_of 4)

  abbrev h4 : Bytes
  h4 = leaf_hash (key_of 144 0) (value_of 2)

  abbrev h5 : Bytes
  h5 = leaf_hash (key_of 255 0) (value_of 3)

  abbrev h6 : Bytes
  h6 = leaf_hash (key_of 64 0) (value_of 1)

  abbrev h7 : Bytes
  h7 = inner_hash h4 h5

  abbrev h8 : Bytes
  h8 = leaf_hash (key_of 8 0) (value_of 1)

  abbrev h9 : Bytes
  h9 = leaf_hash (key_of 96 0) (value_of 2)

  abbrev h10 : Bytes
  h10 = inner_hash h8 h9

  abbrev h11 : Bytes
  h11 = leaf_hash (key_of 254 0) (value_of 2)

  abbrev h12 : Bytes
  h12 = inner_hash h3 h11

  abbrev h13 : Bytes
  h13 = leaf_hash (key_of 8 0) (value_of 2)

  abbrev h14 : Bytes
  h14 = leaf_hash (key_of 16 0) (value_of 2)

  abbrev h15 : Bytes
  h15 = inner_hash h13 h14

  abbrev h16 : Bytes
  h16 = inner_hash h15 zeros

  abbrev h17 : Bytes
  h17 = inner_hash h16 zeros

  abbrev h18 : Bytes
  h18 = leaf_hash (key_of 8 0) (value_of 3)

  abbrev h19 : Bytes
  h19 = inner_hash h18 h14

  abbrev h20 : Bytes
  h20 = inner_hash h19 zeros

  abbrev h21 : Bytes
  h21 = inner_hash h20 zeros

  abbrev h22 : Bytes
  h22 = leaf_hash (key_of 16 0) (value_of 3)

  abbrev h23 : Bytes
  h23 = leaf_hash (key_of 128 0) (value_of 2)

  abbrev h24 : Bytes
  h24 = leaf_hash (key_of 254 0) (value_of 1)

  abbrev h25 : Bytes
  h25 = inner_hash h4 h24

  abbrev h26 : Bytes
  h26 = leaf_hash (key_of 64 0) (value_of 4)

  abbrev h27 : Bytes
  h27 = inner_hash h22 h26

  abbrev h28 : Bytes
  h28 = leaf_hash (key_of 144 0) (value_of 1)

  abbrev h29 : Bytes
  h29 = leaf_hash (key_of 192 0) (value_of 1)

  abbrev h30 : Bytes
  h30 = inner_hash h28 h29

  abbrev h31 : Bytes
  h31 = leaf_hash (key_of 16 0) (value_of 1)

  abbrev h32 : Bytes
  h32 = leaf_hash (key_of 16 0) (value_of 4)

  abbrev h33 : Bytes
  h33 = leaf_hash (key_of 192 0) (value_of 3)

  abbrev h34 : Bytes
  h34 = leaf_hash (key_of 128 0) (value_of 3)

  abbrev h35 : Bytes
  h35 = leaf_hash (key_of 96 0) (value_of 3)

  abbrev h36 : Bytes
  h36 = leaf_hash (key_of 254 0) (value_of 4)

  abbrev h37 : Bytes
  h37 = inner_hash h1 h36

  abbrev h38 : Bytes
  h38 = leaf_hash (key_of 104 0) (value_of 2)

  abbrev h39 : Bytes
  h39 = leaf_hash (key_of 128 0) (value_of 1)

  abbrev h40 : Bytes
  h40 = leaf_hash (key_of 104 0) (value_of 4)

  abbrev h41 : Bytes
  h41 = leaf_hash (key_of 96 0) (value_of 1)

  abbrev h42 : Bytes
  h42 = leaf_hash (key_of 192 0) (value_of 4)

  abbrev h43 : Bytes
  h43 = leaf_hash (key_of 0 0) (value_of 2)

  abbrev h44 : Bytes
  h44 = inner_hash h43 h0

  abbrev h45 : Bytes
  h45 = inner_hash h4 h33

  abbrev h46 : Bytes
  h46 = leaf_hash (key_of 0 0) (value_of 3)

  abbrev h47 : Bytes
  h47 = leaf_hash (key_of 192 0) (value_of 2)

  abbrev h48 : Bytes
  h48 = inner_hash h26 h9

  abbrev h49 : Bytes
  h49 = inner_hash zeros h48

  abbrev h50 : Bytes
  h50 = inner_hash h0 h9

  abbrev h51 : Bytes
  h51 = inner_hash zeros h50

  abbrev h52 : Bytes
  h52 = leaf_hash (key_of 255 0) (value_of 4)

  abbrev h53 : Bytes
  h53 = inner_hash h42 h52

  abbrev h54 : Bytes
  h54 = inner_hash zeros h53

  abbrev h55 : Bytes
  h55 = leaf_hash (key_of 0 0) (value_of 1)

  abbrev h56 : Bytes
  h56 = inner_hash h0 h35

  abbrev h57 : Bytes
  h57 = inner_hash h55 h56

  abbrev kept0 : Store
  kept0 =
      store_of 10 16
      (leaf_slot (false ∷ []) 1 12 (key_of 64 0) (value_of 2)
      ∷ leaf_slot (true ∷ []) 1 12 (key_of 144 0) (value_of 3)
      ∷ leaf_slot (true ∷ false ∷ []) 16 0 (key_of 144 0) (value_of 2)
      ∷ leaf_slot (true ∷ true ∷ []) 16 0 (key_of 255 0) (value_of 3)
      ∷ leaf_slot (false ∷ []) 16 0 (key_of 64 0) (value_of 1)
      ∷ inner_slot ([]) 9 11 1 h0 1 h1 1 1
      ∷ inner_slot ([]) 11 12 1 h0 1 h1 1 1
      ∷ leaf_slot (false ∷ []) 12 16 (key_of 64 0) (value_of 3)
      ∷ leaf_slot (true ∷ []) 12 16 (key_of 144 0) (value_of 4)
      ∷ inner_slot ([]) 12 16 12 h2 12 h3 1 1
      ∷ inner_slot (true ∷ []) 16 0 16 h4 16 h5 1 1
      ∷ inner_slot ([]) 16 0 16 h6 16 h7 1 2
      ∷ [])

  abbrev kept1 : Store
  kept1 =
      store_of 1 4
      (leaf_slot ([]) 1 4 (key_of 96 0) (value_of 2)
      ∷ leaf_slot (false ∷ false ∷ []) 4 0 (key_of 8 0) (value_of 1)
      ∷ leaf_slot (false ∷ true ∷ []) 4 0 (key_of 96 0) (value_of 2)
      ∷ inner_slot (false ∷ []) 4 0 4 h8 4 h9 1 1
      ∷ inner_slot ([]) 4 0 4 h10 0 zeros 2 0
      ∷ free
      ∷ free
      ∷ free
      ∷ free
      ∷ free
      ∷ free
      ∷ free
      ∷ free
      ∷ free
      ∷ free
      ∷ free
      ∷ [])

  abbrev kept2 : Store
  kept2 =
      store_of 0 5
      (leaf_slot ([]) 1 5 (key_of 144 0) (value_of 4)
      ∷ leaf_slot (true ∷ false ∷ []) 5 0 (key_of 144 0) (value_of 4)
      ∷ leaf_slot (true ∷ true ∷ []) 5 0 (key_of 254 0) (value_of 2)
      ∷ leaf_slot (false ∷ []) 5 0 (key_of 64 0) (value_of 1)
      ∷ inner_slot (true ∷ []) 5 0 5 h3 5 h11 1 1
      ∷ inner_slot ([]) 5 0 5 h6 5 h12 1 2
      ∷ free
      ∷ free
      ∷ free
      ∷ free
      ∷ free
      ∷ free
      ∷ free
      ∷ free
      ∷ free
      ∷ free
      ∷ [])

  abbrev kept3 : Store
  kept3 =
      store_of 4294967293 4294967295
      (leaf_slot ([]) 4294967295 0 (key_of 128 0) (value_of 4)
      ∷ free
      ∷ free
      ∷ free
      ∷ free
      ∷ free
      ∷ free
      ∷ free
      ∷ free
      ∷ free
      ∷ free
      ∷ free
      ∷ free
      ∷ free
      ∷ free
      ∷ free
      ∷ free
      ∷ free
      ∷ free
      ∷ free
      ∷ free
      ∷ free
      ∷ free
      ∷ free
      ∷ [])

  abbrev kept4 : Store
  kept4 =
      store_of 2 7
      (leaf_slot (false ∷ false ∷ false ∷ false ∷ []) 4 5 (key_of 8 0) (value_of 2)
      ∷ leaf_slot (false ∷ false ∷ false ∷ true ∷ []) 4 7 (key_of 16 0) (value_of 2)
      ∷ inner_slot (false ∷ false ∷ false ∷ []) 4 5 4 h13 4 h14 1 1
      ∷ inner_slot (false ∷ false ∷ []) 4 5 4 h15 0 zeros 2 0
      ∷ inner_slot (false ∷ []) 4 5 4 h16 0 zeros 2 0
      ∷ inner_slot ([]) 4 5 4 h17 0 zeros 2 0
      ∷ leaf_slot (false ∷ false ∷ false ∷ false ∷ []) 5 7 (key_of 8 0) (value_of 3)
      ∷ inner_slot (false ∷ false ∷ false ∷ []) 5 7 5 h18 4 h14 1 1
      ∷ inner_slot (false ∷ false ∷ []) 5 7 5 h19 0 zeros 2 0
      ∷ inner_slot (false ∷ []) 5 7 5 h20 0 zeros 2 0
      ∷ inner_slot ([]) 5 7 5 h21 0 zeros 2 0
      ∷ leaf_slot ([]) 7 0 (key_of 8 0) (value_of 3)
      ∷ free
      ∷ free
      ∷ free
      ∷ free
      ∷ free
      ∷ free
      ∷ free
      ∷ free
      ∷ free
      ∷ free
      ∷ free
      ∷ free
      ∷ [])

  abbrev kept5 : Store
  kept5 =
      store_of 3 8
      (leaf_slot ([]) 1 6 (key_of 64 0) (value_of 4)
      ∷ leaf_slot ([]) 6 7 (key_of 64 0) (value_of 4)
      ∷ leaf_slot ([]) 7 8 (key_of 64 0) (value_of 4)
      ∷ leaf_slot ([]) 8 0 (key_of 64 0) (value_of 4)
      ∷ [])

  abbrev kept6 : Store
  kept6 =
      store_of 4294967294 4294967295
      (leaf_slot ([]) 4294967295 0 (key_of 64 0) (value_of 2)
      ∷ free
      ∷ free
      ∷ free
      ∷ free
      ∷ free
      ∷ free
      ∷ free
      ∷ free
      ∷ free
      ∷ free
      ∷ free
      ∷ free
      ∷ free
      ∷ free
      ∷ free
      ∷ [])

  abbrev kept7 : Store
  kept7 =
      store_of 0 5
      (leaf_slot ([]) 3 4 (key_of 0 0) (value_of 4)
      ∷ leaf_slot ([]) 4 5 (key_of 8 0) (value_of 1)
      ∷ leaf_slot ([]) 5 0 (key_of 8 0) (value_of 1)
      ∷ free
      ∷ free
      ∷ free
      ∷ free
      ∷ free
      ∷ free
      ∷ free
      ∷ free
      ∷ free
      ∷ free
      ∷ free
      ∷ free
      ∷ free
      ∷ [])

  abbrev kept8 : Store
  kept8 =
      store_of 6 16
      (leaf_slot (false ∷ []) 15 16 (key_of 16 0) (value_of 3)
      ∷ leaf_slot (true ∷ []) 15 16 (key_of 128 0) (value_of 2)
      ∷ inner_slot ([]) 15 16 15 h22 15 h23 1 1
      ∷ leaf_slot ([]) 16 0 (key_of 16 0) (value_of 3)
      ∷ [])

  abbrev kept9 : Store
  kept9 =
      store_of 0 4
      (leaf_slot (true ∷ false ∷ []) 3 4 (key_of 144 0) (value_of 2)
      ∷ leaf_slot (true ∷ true ∷ []) 3 4 (key_of 254 0) (value_of 1)
      ∷ inner_slot (true ∷ []) 3 4 3 h4 3 h24 1 1
      ∷ inner_slot ([]) 3 4 0 zeros 3 h25 0 2
      ∷ [])

  abbrev kept10 : Store
  kept10 =
      store_of 0 12
      (leaf_slot (false ∷ false ∷ []) 4 0 (key_of 16 0) (value_of 3)
      ∷ leaf_slot (false ∷ true ∷ []) 4 0 (key_of 64 0) (value_of 4)
      ∷ inner_slot (false ∷ []) 4 0 4 h22 4 h26 1 1
      ∷ leaf_slot (true ∷ []) 4 6 (key_of 144 0) (value_of 1)
      ∷ inner_slot ([]) 4 5 4 h27 4 h28 2 1
      ∷ inner_slot ([]) 5 6 4 h27 4 h28 2 1
      ∷ leaf_slot (true ∷ false ∷ []) 6 0 (key_of 144 0) (value_of 1)
      ∷ leaf_slot (true ∷ true ∷ []) 6 0 (key_of 192 0) (value_of 1)
      ∷ inner_slot (true ∷ []) 6 0 6 h28 6 h29 1 1
      ∷ inner_slot ([]) 6 10 4 h27 6 h30 2 2
      ∷ inner_slot ([]) 10 12 4 h27 6 h30 2 2
      ∷ inner_slot ([]) 12 0 4 h27 6 h30 2 2
      ∷ [])

  abbrev kept11 : Store
  kept11 =
      store_of 4294967294 4294967295
      (leaf_slot ([]) 4294967294 4294967295 (key_of 16 0) (value_of 3)
      ∷ leaf_slot ([]) 4294967295 0 (key_of 16 0) (value_of 1)
      ∷ free
      ∷ free
      ∷ free
      ∷ free
      ∷ free
      ∷ free
      ∷ free
      ∷ free
      ∷ free
      ∷ free
      ∷ free
      ∷ free
      ∷ free
      ∷ free
      ∷ free
      ∷ free
      ∷ free
      ∷ free
      ∷ free
      ∷ free
      ∷ free
      ∷ free
      ∷ [])

  abbrev kept12 : Store
  kept12 =
      store_of 5 7
      (free
      ∷ free
      ∷ free
      ∷ free
      ∷ free
      ∷ free
      ∷ free
      ∷ free
      ∷ free
      ∷ leaf_slot ([]) 4 6 (key_of 128 0) (value_of 2)
      ∷ free
      ∷ free
      ∷ free
      ∷ free
      ∷ free
      ∷ free
      ∷ free
      ∷ free
      ∷ free
      ∷ free
      ∷ free
      ∷ free
      ∷ free
      ∷ free
      ∷ [])

  abbrev kept13 : Store
  kept13 =
      store_of 0 2
      (free
      ∷ free
      ∷ free
      ∷ free
      ∷ free
      ∷ free
      ∷ free
      ∷ free
      ∷ free
      ∷ free
      ∷ free
      ∷ free
      ∷ free
      ∷ free
      ∷ free
      ∷ free
      ∷ [])

  abbrev kept14 : Store
  kept14 =
      store_of 13 18
      (leaf_slot ([]) 18 0 (key_of 104 0) (value_of 1)
      ∷ free
      ∷ free
      ∷ free
      ∷ free
      ∷ free
      ∷ free
      ∷ free
      ∷ free
      ∷ free
      ∷ free
      ∷ free
      ∷ free
      ∷ free
      ∷ free
      ∷ free
      ∷ free
      ∷ free
      ∷ free
      ∷ free
      ∷ free
      ∷ free
      ∷ free
      ∷ free
      ∷ [])

  abbrev kept15 : Store
  kept15 =
      store_of 4294967295 4294967295
      (free
      ∷ leaf_slot ([]) 4294967295 0 (key_of 192 0) (value_of 2)
      ∷ free
      ∷ free
      ∷ free
      ∷ free
      ∷ free
      ∷ free
      ∷ free
      ∷ free
      ∷ free
      ∷ free
      ∷ [])

  abbrev kept16 : Store
  kept16 =
      store_of 4294967293 4294967295
      (free
      ∷ free
      ∷ free
      ∷ free
      ∷ free
      ∷ free
      ∷ free
      ∷ free
      ∷ free
      ∷ free
      ∷ free
      ∷ free
      ∷ free
      ∷ free
      ∷ free
      ∷ free
      ∷ free
      ∷ free
      ∷ free
      ∷ free
      ∷ free
      ∷ free
      ∷ free
      ∷ free
      ∷ [])

  abbrev kept17 : Store
  kept17 =
      store_of 0 10
      (leaf_slot (false ∷ []) 1 5 (key_of 16 0) (value_of 1)
      ∷ leaf_slot (true ∷ []) 1 4 (key_of 144 0) (value_of 3)
      ∷ inner_slot ([]) 1 2 1 h31 1 h1 1 1
      ∷ inner_slot ([]) 2 4 1 h31 1 h1 1 1
      ∷ leaf_slot (true ∷ []) 4 5 (key_of 144 0) (value_of 4)
      ∷ inner_slot ([]) 4 5 1 h31 4 h3 1 1
      ∷ leaf_slot ([]) 5 9 (key_of 144 0) (value_of 4)
      ∷ leaf_slot ([]) 9 10 (key_of 144 0) (value_of 1)
      ∷ leaf_slot ([]) 10 0 (key_of 144 0) (value_of 1)
      ∷ free
      ∷ free
      ∷ free
      ∷ free
      ∷ free
      ∷ free
      ∷ free
      ∷ free
      ∷ free
      ∷ free
      ∷ free
      ∷ free
      ∷ free
      ∷ free
      ∷ free
      ∷ [])

  abbrev kept18 : Store
  kept18 =
      store_of 0 4
      (leaf_slot ([]) 1 2 (key_of 254 0) (value_of 3)
      ∷ leaf_slot ([]) 2 3 (key_of 255 0) (value_of 2)
      ∷ leaf_slot ([]) 4 0 (key_of 255 0) (value_of 1)
      ∷ free
      ∷ [])

  abbrev kept19 : Store
  kept19 =
      store_of 4294967294 4294967295
      (leaf_slot ([]) 4294967294 4294967295 (key_of 192 0) (value_of 4)
      ∷ leaf_slot (false ∷ []) 4294967295 0 (key_of 16 0) (value_of 4)
      ∷ leaf_slot (true ∷ []) 4294967295 0 (key_of 192 0) (value_of 3)
      ∷ inner_slot ([]) 4294967295 0 4294967295 h32 4294967295 h33 1 1
      ∷ [])

  abbrev kept20 : Store
  kept20 =
      store_of 0 9
      (leaf_slot ([]) 4 6 (key_of 16 0) (value_of 3)
      ∷ leaf_slot ([]) 6 7 (key_of 16 0) (value_of 3)
      ∷ leaf_slot ([]) 7 9 (key_of 16 0) (value_of 3)
      ∷ leaf_slot ([]) 9 0 (key_of 16 0) (value_of 3)
      ∷ [])

  abbrev kept21 : Store
  kept21 =
      store_of 3 5
      (leaf_slot ([]) 5 0 (key_of 104 0) (value_of 1)
      ∷ free
      ∷ free
      ∷ free
      ∷ free
      ∷ free
      ∷ free
      ∷ free
      ∷ [])

  abbrev kept22 : Store
  kept22 =
      store_of 0 3
      (leaf_slot ([]) 2 3 (key_of 104 0) (value_of 2)
      ∷ leaf_slot ([]) 3 0 (key_of 104 0) (value_of 1)
      ∷ free
      ∷ free
      ∷ [])

  abbrev kept23 : Store
  kept23 =
      store_of 1 5
      (leaf_slot ([]) 1 5 (key_of 16 0) (value_of 4)
      ∷ leaf_slot (false ∷ []) 5 0 (key_of 16 0) (value_of 4)
      ∷ leaf_slot (true ∷ []) 5 0 (key_of 128 0) (value_of 3)
      ∷ inner_slot ([]) 5 0 5 h32 5 h34 1 1
      ∷ free
      ∷ free
      ∷ free
      ∷ free
      ∷ [])

  abbrev kept24 : Store
  kept24 =
      store_of 4 7
      (leaf_slot (true ∷ false ∷ []) 4 0 (key_of 144 0) (value_of 3)
      ∷ inner_slot ([]) 6 7 4 h35 4 h37 1 2
      ∷ leaf_slot (true ∷ true ∷ []) 4 0 (key_of 254 0) (value_of 4)
      ∷ leaf_slot (false ∷ []) 4 0 (key_of 96 0) (value_of 3)
      ∷ inner_slot (true ∷ []) 4 0 4 h1 4 h36 1 1
      ∷ inner_slot ([]) 4 6 4 h35 4 h37 1 2
      ∷ inner_slot ([]) 7 0 4 h35 4 h37 1 2
      ∷ free
      ∷ free
      ∷ free
      ∷ free
      ∷ free
      ∷ free
      ∷ free
      ∷ free
      ∷ free
      ∷ free
      ∷ free
      ∷ free
      ∷ free
      ∷ free
      ∷ free
      ∷ free
      ∷ free
      ∷ [])

  abbrev kept25 : Store
  kept25 =
      store_of 2 8
      (leaf_slot (false ∷ []) 6 8 (key_of 8 0) (value_of 1)
      ∷ leaf_slot (true ∷ []) 6 0 (key_of 144 0) (value_of 4)
      ∷ inner_slot ([]) 6 7 6 h8 6 h3 1 1
      ∷ inner_slot ([]) 7 8 6 h8 6 h3 1 1
      ∷ leaf_slot (false ∷ []) 8 0 (key_of 8 0) (value_of 3)
      ∷ inner_slot ([]) 8 0 8 h18 6 h3 1 1
      ∷ free
      ∷ free
      ∷ free
      ∷ free
      ∷ free
      ∷ free
      ∷ free
      ∷ free
      ∷ free
      ∷ free
      ∷ free
      ∷ free
      ∷ free
      ∷ free
      ∷ free
      ∷ free
      ∷ free
      ∷ free
      ∷ [])

  abbrev kept26 : Store
  kept26 =
      store_of 2 5
      (leaf_slot ([]) 4 5 (key_of 128 0) (value_of 4)
      ∷ leaf_slot ([]) 5 0 (key_of 128 0) (value_of 1)
      ∷ free
      ∷ free
      ∷ [])

  abbrev kept27 : Store
  kept27 =
      store_of 0 3
      (leaf_slot ([]) 1 2 (key_of 144 0) (value_of 1)
      ∷ leaf_slot ([]) 2 3 (key_of 144 0) (value_of 4)
      ∷ leaf_slot ([]) 3 0 (key_of 144 0) (value_of 4)
      ∷ free
      ∷ free
      ∷ free
      ∷ free
      ∷ free
      ∷ free
      ∷ free
      ∷ free
      ∷ free
      ∷ free
      ∷ free
      ∷ free
      ∷ free
      ∷ [])

  abbrev kept28 : Store
  kept28 =
      store_of 0 4
      (leaf_slot ([]) 1 2 (key_of 104 0) (value_of 2)
      ∷ leaf_slot (false ∷ []) 2 4 (key_of 104 0) (value_of 2)
      ∷ leaf_slot (true ∷ []) 2 3 (key_of 144 0) (value_of 2)
      ∷ inner_slot ([]) 2 3 2 h38 2 h4 1 1
      ∷ leaf_slot (true ∷ []) 3 4 (key_of 128 0) (value_of 1)
      ∷ inner_slot ([]) 3 4 2 h38 3 h39 1 1
      ∷ leaf_slot (false ∷ []) 4 0 (key_of 104 0) (value_of 4)
      ∷ leaf_slot (true ∷ []) 4 0 (key_of 128 0) (value_of 2)
      ∷ inner_slot ([]) 4 0 4 h40 4 h23 1 1
      ∷ free
      ∷ free
      ∷ free
      ∷ free
      ∷ free
      ∷ free
      ∷ free
      ∷ [])

  abbrev kept29 : Store
  kept29 =
      store_of 0 4
      (leaf_slot (false ∷ []) 3 4 (key_of 96 0) (value_of 1)
      ∷ leaf_slot (true ∷ []) 3 4 (key_of 128 0) (value_of 2)
      ∷ inner_slot ([]) 3 4 3 h41 3 h23 1 1
      ∷ leaf_slot ([]) 4 0 (key_of 128 0) (value_of 2)
      ∷ free
      ∷ free
      ∷ free
      ∷ free
      ∷ [])

  abbrev kept30 : Store
  kept30 =
      store_of 0 12
      (leaf_slot ([]) 1 4 (key_of 64 0) (value_of 2)
      ∷ leaf_slot ([]) 4 9 (key_of 64 0) (value_of 2)
      ∷ leaf_slot (false ∷ []) 9 12 (key_of 64 0) (value_of 2)
      ∷ leaf_slot (true ∷ []) 9 0 (key_of 192 0) (value_of 4)
      ∷ inner_slot ([]) 9 12 9 h0 9 h42 1 1
      ∷ leaf_slot (false ∷ false ∷ []) 12 0 (key_of 0 0) (value_of 2)
      ∷ leaf_slot (false ∷ true ∷ []) 12 0 (key_of 64 0) (value_of 2)
      ∷ inner_slot (false ∷ []) 12 0 12 h43 12 h0 1 1
      ∷ inner_slot ([]) 12 0 12 h44 9 h42 2 1
      ∷ free
      ∷ free
      ∷ free
      ∷ [])

  abbrev kept31 : Store
  kept31 =
      store_of 0 5
      (leaf_slot ([]) 1 5 (key_of 0 0) (value_of 3)
      ∷ leaf_slot ([]) 5 0 (key_of 0 0) (value_of 3)
      ∷ free
      ∷ free
      ∷ free
      ∷ free
      ∷ free
      ∷ free
      ∷ [])

  abbrev kept32 : Store
  kept32 =
      store_of 0 19
      (leaf_slot ([]) 1 5 (key_of 16 0) (value_of 2)
      ∷ leaf_slot ([]) 5 10 (key_of 16 0) (value_of 2)
      ∷ leaf_slot ([]) 10 11 (key_of 16 0) (value_of 2)
      ∷ leaf_slot ([]) 12 14 (key_of 144 0) (value_of 2)
      ∷ leaf_slot ([]) 14 16 (key_of 144 0) (value_of 2)
      ∷ leaf_slot (false ∷ []) 16 19 (key_of 16 0) (value_of 1)
      ∷ leaf_slot (true ∷ []) 16 18 (key_of 144 0) (value_of 2)
      ∷ inner_slot ([]) 16 18 16 h31 16 h4 1 1
      ∷ leaf_slot (true ∷ false ∷ []) 18 0 (key_of 144 0) (value_of 2)
      ∷ leaf_slot (true ∷ true ∷ []) 18 0 (key_of 192 0) (value_of 3)
      ∷ inner_slot (true ∷ []) 18 0 18 h4 18 h33 1 1
      ∷ inner_slot ([]) 18 19 16 h31 18 h45 1 2
      ∷ inner_slot ([]) 19 0 0 zeros 18 h45 0 2
      ∷ free
      ∷ free
      ∷ free
      ∷ free
      ∷ free
      ∷ free
      ∷ free
      ∷ free
      ∷ free
      ∷ free
      ∷ free
      ∷ [])

  abbrev kept33 : Store
  kept33 =
      store_of 1 3
      (leaf_slot ([]) 1 2 (key_of 192 0) (value_of 1)
      ∷ leaf_slot ([]) 2 3 (key_of 192 0) (value_of 1)
      ∷ leaf_slot (false ∷ []) 3 0 (key_of 0 0) (value_of 3)
      ∷ leaf_slot (true ∷ []) 3 0 (key_of 192 0) (value_of 2)
      ∷ inner_slot ([]) 3 0 3 h46 3 h47 1 1
      ∷ free
      ∷ free
      ∷ free
      ∷ free
      ∷ free
      ∷ free
      ∷ free
      ∷ [])

  abbrev kept34 : Store
  kept34 =
      store_of 2 7
      (leaf_slot ([]) 4 7 (key_of 254 0) (value_of 3)
      ∷ leaf_slot ([]) 7 0 (key_of 254 0) (value_of 3)
      ∷ free
      ∷ free
      ∷ free
      ∷ free
      ∷ free
      ∷ free
      ∷ [])

  abbrev kept35 : Store
  kept35 =
      store_of 1 17
      (leaf_slot ([]) 4 5 (key_of 64 0) (value_of 4)
      ∷ leaf_slot ([]) 5 10 (key_of 64 0) (value_of 4)
      ∷ leaf_slot (false ∷ true ∷ false ∷ []) 10 12 (key_of 64 0) (value_of 4)
      ∷ leaf_slot (false ∷ true ∷ true ∷ []) 10 12 (key_of 96 0) (value_of 2)
      ∷ inner_slot (false ∷ true ∷ []) 10 12 10 h26 10 h9 1 1
      ∷ inner_slot (false ∷ []) 10 12 0 zeros 10 h48 0 2
      ∷ inner_slot ([]) 10 11 10 h49 0 zeros 2 0
      ∷ inner_slot ([]) 11 12 10 h49 0 zeros 2 0
      ∷ leaf_slot (false ∷ true ∷ false ∷ []) 17 0 (key_of 64 0) (value_of 2)
      ∷ leaf_slot (false ∷ true ∷ true ∷ []) 17 0 (key_of 96 0) (value_of 2)
      ∷ inner_slot (false ∷ true ∷ []) 17 0 17 h0 17 h9 1 1
      ∷ inner_slot (false ∷ []) 17 0 0 zeros 17 h50 0 2
      ∷ inner_slot ([]) 17 0 17 h51 0 zeros 2 0
      ∷ free
      ∷ free
      ∷ free
      ∷ [])

  abbrev kept36 : Store
  kept36 =
      store_of 2 6
      (leaf_slot (true ∷ true ∷ false ∷ []) 4 0 (key_of 192 0) (value_of 4)
      ∷ leaf_slot (true ∷ true ∷ true ∷ []) 4 0 (key_of 255 0) (value_of 4)
      ∷ inner_slot (true ∷ true ∷ []) 4 0 4 h42 4 h52 1 1
      ∷ inner_slot (true ∷ []) 4 0 0 zeros 4 h53 0 2
      ∷ inner_slot ([]) 4 5 0 zeros 4 h54 0 2
      ∷ inner_slot ([]) 5 6 0 zeros 4 h54 0 2
      ∷ inner_slot ([]) 6 0 0 zeros 4 h54 0 2
      ∷ free
      ∷ [])

  abbrev kept37 : Store
  kept37 =
      store_of 12 17
      (leaf_slot ([]) 12 16 (key_of 96 0) (value_of 3)
      ∷ leaf_slot ([]) 16 17 (key_of 96 0) (value_of 3)
      ∷ leaf_slot (false ∷ true ∷ false ∷ []) 17 0 (key_of 64 0) (value_of 2)
      ∷ leaf_slot (false ∷ true ∷ true ∷ []) 17 0 (key_of 96 0) (value_of 3)
      ∷ leaf_slot (false ∷ false ∷ []) 17 0 (key_of 0 0) (value_of 1)
      ∷ inner_slot (false ∷ true ∷ []) 17 0 17 h0 17 h35 1 1
      ∷ inner_slot (false ∷ []) 17 0 17 h55 17 h56 1 2
      ∷ inner_slot ([]) 17 0 17 h57 0 zeros 3 0
      ∷ free
      ∷ free
      ∷ free
      ∷ free
      ∷ free
      ∷ free
      ∷ free
      ∷ free
      ∷ free
      ∷ free
      ∷ free
      ∷ free
      ∷ free
      ∷ free
      ∷ free
      ∷ free
      ∷ [])

  abbrev kept38 : Store
  kept38 =
      store_of 4294967293 4294967295
      (leaf_slot ([]) 4294967295 0 (key_of 192 0) (value_of 3)
      ∷ free
      ∷ free
      ∷ free
      ∷ free
      ∷ free
      ∷ free
      ∷ free
      ∷ free
      ∷ free
      ∷ free
      ∷ free
      ∷ [])

  abbrev kept39 : Store
  kept39 =
      store_of 4294967295 4294967295
      (free
      ∷ leaf_slot ([]) 4294967295 0 (key_of 192 0) (value_of 1)
      ∷ free
      ∷ free
      ∷ [])

  abbrev rows : List Comparison
  rows =
      comparison kept0 14 10 (([]) ∷ (false ∷ []) ∷ (true ∷ []) ∷ []) (deletes (grant (key_of 64 0) (value_of 3)) ∷ inserts (grant (key_of 64 0) (value_of 2)) ∷ deletes (grant (key_of 144 0) (value_of 4)) ∷ inserts (grant (key_of 144 0) (value_of 3)) ∷ [])
      ∷ comparison kept0 10 14 (([]) ∷ (false ∷ []) ∷ (true ∷ []) ∷ []) (deletes (grant (key_of 64 0) (value_of 2)) ∷ inserts (grant (key_of 64 0) (value_of 3)) ∷ deletes (grant (key_of 144 0) (value_of 3)) ∷ inserts (grant (key_of 144 0) (value_of 4)) ∷ [])
      ∷ comparison kept0 13 14 (([]) ∷ []) ([])
      ∷ comparison kept0 14 15 (([]) ∷ []) ([])
      ∷ comparison kept1 1 1 (([]) ∷ []) ([])
      ∷ comparison kept1 1 1 (([]) ∷ []) ([])
      ∷ comparison kept1 3 3 (([]) ∷ []) ([])
      ∷ comparison kept1 2 1 (([]) ∷ []) ([])
      ∷ comparison kept2 1 1 (([]) ∷ []) ([])
      ∷ comparison kept2 5 1 (([]) ∷ (false ∷ []) ∷ (true ∷ []) ∷ (true ∷ false ∷ []) ∷ (true ∷ true ∷ []) ∷ []) (deletes (grant (key_of 64 0) (value_of 1)) ∷ deletes (grant (key_of 254 0) (value_of 2)) ∷ [])
      ∷ comparison kept2 0 1 (([]) ∷ []) (inserts (grant (key_of 144 0) (value_of 4)) ∷ [])
      ∷ comparison kept2 5 0 (([]) ∷ (false ∷ []) ∷ (true ∷ []) ∷ (true ∷ false ∷ []) ∷ (true ∷ true ∷ []) ∷ []) (deletes (grant (key_of 64 0) (value_of 1)) ∷ deletes (grant (key_of 144 0) (value_of 4)) ∷ deletes (grant (key_of 254 0) (value_of 2)) ∷ [])
      ∷ comparison kept3 4294967295 4294967293 (([]) ∷ []) (deletes (grant (key_of 128 0) (value_of 4)) ∷ [])
      ∷ comparison kept3 4294967294 4294967293 (([]) ∷ []) ([])
      ∷ comparison kept3 4294967294 4294967294 (([]) ∷ []) ([])
      ∷ comparison kept3 4294967294 4294967293 (([]) ∷ []) ([])
      ∷ comparison kept4 2 2 (([]) ∷ []) ([])
      ∷ comparison kept4 5 5 (([]) ∷ []) ([])
      ∷ comparison kept4 7 6 (([]) ∷ (false ∷ []) ∷ (false ∷ false ∷ []) ∷ (false ∷ false ∷ false ∷ []) ∷ (false ∷ false ∷ false ∷ false ∷ []) ∷ (false ∷ false ∷ false ∷ true ∷ []) ∷ (false ∷ false ∷ true ∷ []) ∷ (false ∷ true ∷ []) ∷ (true ∷ []) ∷ []) (inserts (grant (key_of 16 0) (value_of 2)) ∷ [])
      ∷ comparison kept4 3 6 (([]) ∷ (false ∷ []) ∷ (false ∷ false ∷ []) ∷ (false ∷ false ∷ false ∷ []) ∷ (false ∷ false ∷ false ∷ false ∷ []) ∷ (false ∷ false ∷ false ∷ true ∷ []) ∷ (false ∷ false ∷ true ∷ []) ∷ (false ∷ true ∷ []) ∷ (true ∷ []) ∷ []) (inserts (grant (key_of 8 0) (value_of 3)) ∷ inserts (grant (key_of 16 0) (value_of 2)) ∷ [])
      ∷ comparison kept5 6 6 (([]) ∷ []) ([])
      ∷ comparison kept5 7 7 (([]) ∷ []) ([])
      ∷ comparison kept5 5 7 (([]) ∷ []) ([])
      ∷ comparison kept5 5 3 (([]) ∷ []) ([])
      ∷ comparison kept6 4294967295 4294967295 (([]) ∷ []) ([])
      ∷ comparison kept6 4294967294 4294967295 (([]) ∷ []) (inserts (grant (key_of 64 0) (value_of 2)) ∷ [])
      ∷ comparison kept6 4294967294 4294967294 (([]) ∷ []) ([])
      ∷ comparison kept6 4294967294 4294967294 (([]) ∷ []) ([])
      ∷ comparison kept7 3 3 (([]) ∷ []) ([])
      ∷ comparison kept7 1 4 (([]) ∷ []) (inserts (grant (key_of 8 0) (value_of 1)) ∷ [])
      ∷ comparison kept7 3 0 (([]) ∷ []) (deletes (grant (key_of 0 0) (value_of 4)) ∷ [])
      ∷ comparison kept7 4 2 (([]) ∷ []) (deletes (grant (key_of 8 0) (value_of 1)) ∷ [])
      ∷ comparison kept8 9 6 (([]) ∷ []) ([])
      ∷ comparison kept8 13 16 (([]) ∷ []) (inserts (grant (key_of 16 0) (value_of 3)) ∷ [])
      ∷ comparison kept8 11 11 (([]) ∷ []) ([])
      ∷ comparison kept8 12 6 (([]) ∷ []) ([])
      ∷ comparison kept9 2 4 (([]) ∷ []) ([])
      ∷ comparison kept9 2 3 (([]) ∷ (false ∷ []) ∷ (true ∷ []) ∷ (true ∷ false ∷ []) ∷ (true ∷ true ∷ []) ∷ []) (inserts (grant (key_of 144 0) (value_of 2)) ∷ inserts (grant (key_of 254 0) (value_of 1)) ∷ [])
      ∷ comparison kept9 2 4 (([]) ∷ []) ([])
      ∷ comparison kept9 3 3 (([]) ∷ []) ([])
      ∷ comparison kept10 6 1 (([]) ∷ (false ∷ []) ∷ (false ∷ false ∷ []) ∷ (false ∷ true ∷ []) ∷ (true ∷ []) ∷ (true ∷ false ∷ []) ∷ (true ∷ true ∷ []) ∷ []) (deletes (grant (key_of 16 0) (value_of 3)) ∷ deletes (grant (key_of 64 0) (value_of 4)) ∷ deletes (grant (key_of 144 0) (value_of 1)) ∷ deletes (grant (key_of 192 0) (value_of 1)) ∷ [])
      ∷ comparison kept10 3 9 (([]) ∷ (false ∷ []) ∷ (false ∷ false ∷ []) ∷ (false ∷ true ∷ []) ∷ (true ∷ []) ∷ (true ∷ false ∷ []) ∷ (true ∷ true ∷ []) ∷ []) (inserts (grant (key_of 16 0) (value_of 3)) ∷ inserts (grant (key_of 64 0) (value_of 4)) ∷ inserts (grant (key_of 144 0) (value_of 1)) ∷ inserts (grant (key_of 192 0) (value_of 1)) ∷ [])
      ∷ comparison kept10 0 10 (([]) ∷ (false ∷ []) ∷ (false ∷ false ∷ []) ∷ (false ∷ true ∷ []) ∷ (true ∷ []) ∷ (true ∷ false ∷ []) ∷ (true ∷ true ∷ []) ∷ []) (inserts (grant (key_of 16 0) (value_of 3)) ∷ inserts (grant (key_of 64 0) (value_of 4)) ∷ inserts (grant (key_of 144 0) (value_of 1)) ∷ inserts (grant (key_of 192 0) (value_of 1)) ∷ [])
      ∷ comparison kept10 4 4 (([]) ∷ []) ([])
      ∷ comparison kept11 4294967294 4294967294 (([]) ∷ []) ([])
      ∷ comparison kept11 4294967294 4294967295 (([]) ∷ []) (deletes (grant (key_of 16 0) (value_of 3)) ∷ inserts (grant (key_of 16 0) (value_of 1)) ∷ [])
      ∷ comparison kept11 4294967294 4294967295 (([]) ∷ []) (deletes (grant (key_of 16 0) (value_of 3)) ∷ inserts (grant (key_of 16 0) (value_of 1)) ∷ [])
      ∷ comparison kept11 4294967294 4294967295 (([]) ∷ []) (deletes (grant (key_of 16 0) (value_of 3)) ∷ inserts (grant (key_of 16 0) (value_of 1)) ∷ [])
      ∷ comparison kept12 6 7 (([]) ∷ []) ([])
      ∷ comparison kept12 7 5 (([]) ∷ []) (inserts (grant (key_of 128 0) (value_of 2)) ∷ [])
      ∷ comparison kept12 5 6 (([]) ∷ []) (deletes (grant (key_of 128 0) (value_of 2)) ∷ [])
      ∷ comparison kept12 5 7 (([]) ∷ []) (deletes (grant (key_of 128 0) (value_of 2)) ∷ [])
      ∷ comparison kept13 1 1 (([]) ∷ []) ([])
      ∷ comparison kept13 1 0 (([]) ∷ []) ([])
      ∷ comparison kept13 1 0 (([]) ∷ []) ([])
      ∷ comparison kept13 2 2 (([]) ∷ []) ([])
      ∷ comparison kept14 18 14 (([]) ∷ []) (deletes (grant (key_of 104 0) (value_of 1)) ∷ [])
      ∷ comparison kept14 17 13 (([]) ∷ []) ([])
      ∷ comparison kept14 16 15 (([]) ∷ []) ([])
      ∷ comparison kept14 16 16 (([]) ∷ []) ([])
      ∷ comparison kept15 4294967295 4294967295 (([]) ∷ []) ([])
      ∷ comparison kept15 4294967295 4294967295 (([]) ∷ []) ([])
      ∷ comparison kept15 4294967295 4294967295 (([]) ∷ []) ([])
      ∷ comparison kept15 4294967295 4294967295 (([]) ∷ []) ([])
      ∷ comparison kept16 4294967294 4294967294 (([]) ∷ []) ([])
      ∷ comparison kept16 4294967295 4294967295 (([]) ∷ []) ([])
      ∷ comparison kept16 4294967295 4294967295 (([]) ∷ []) ([])
      ∷ comparison kept16 4294967295 4294967294 (([]) ∷ []) ([])
      ∷ comparison kept17 9 9 (([]) ∷ []) ([])
      ∷ comparison kept17 3 2 (([]) ∷ []) ([])
      ∷ comparison kept17 6 3 (([]) ∷ (false ∷ []) ∷ (true ∷ []) ∷ []) (inserts (grant (key_of 16 0) (value_of 1)) ∷ deletes (grant (key_of 144 0) (value_of 4)) ∷ inserts (grant (key_of 144 0) (value_of 3)) ∷ [])
      ∷ comparison kept17 10 0 (([]) ∷ []) (deletes (grant (key_of 144 0) (value_of 1)) ∷ [])
      ∷ comparison kept18 0 3 (([]) ∷ []) ([])
      ∷ comparison kept18 4 4 (([]) ∷ []) ([])
      ∷ comparison kept18 1 4 (([]) ∷ []) (deletes (grant (key_of 254 0) (value_of 3)) ∷ inserts (grant (key_of 255 0) (value_of 1)) ∷ [])
      ∷ comparison kept18 1 0 (([]) ∷ []) (deletes (grant (key_of 254 0) (value_of 3)) ∷ [])
      ∷ comparison kept19 4294967295 4294967294 (([]) ∷ (false ∷ []) ∷ (true ∷ []) ∷ []) (deletes (grant (key_of 16 0) (value_of 4)) ∷ deletes (grant (key_of 192 0) (value_of 3)) ∷ inserts (grant (key_of 192 0) (value_of 4)) ∷ [])
      ∷ comparison kept19 4294967295 4294967294 (([]) ∷ (false ∷ []) ∷ (true ∷ []) ∷ []) (deletes (grant (key_of 16 0) (value_of 4)) ∷ deletes (grant (key_of 192 0) (value_of 3)) ∷ inserts (grant (key_of 192 0) (value_of 4)) ∷ [])
      ∷ comparison kept19 4294967294 4294967295 (([]) ∷ (false ∷ []) ∷ (true ∷ []) ∷ []) (inserts (grant (key_of 16 0) (value_of 4)) ∷ deletes (grant (key_of 192 0) (value_of 4)) ∷ inserts (grant (key_of 192 0) (value_of 3)) ∷ [])
      ∷ comparison kept19 4294967294 4294967295 (([]) ∷ (false ∷ []) ∷ (true ∷ []) ∷ []) (inserts (grant (key_of 16 0) (value_of 4)) ∷ deletes (grant (key_of 192 0) (value_of 4)) ∷ inserts (grant (key_of 192 0) (value_of 3)) ∷ [])
      ∷ comparison kept20 6 6 (([]) ∷ []) ([])
      ∷ comparison kept20 2 8 (([]) ∷ []) (inserts (grant (key_of 16 0) (value_of 3)) ∷ [])
      ∷ comparison kept20 3 9 (([]) ∷ []) (inserts (grant (key_of 16 0) (value_of 3)) ∷ [])
      ∷ comparison kept20 8 8 (([]) ∷ []) ([])
      ∷ comparison kept21 5 4 (([]) ∷ []) (deletes (grant (key_of 104 0) (value_of 1)) ∷ [])
      ∷ comparison kept21 3 4 (([]) ∷ []) ([])
      ∷ comparison kept21 5 3 (([]) ∷ []) (deletes (grant (key_of 104 0) (value_of 1)) ∷ [])
      ∷ comparison kept21 4 3 (([]) ∷ []) ([])
      ∷ comparison kept22 2 1 (([]) ∷ []) (deletes (grant (key_of 104 0) (value_of 2)) ∷ [])
      ∷ comparison kept22 2 3 (([]) ∷ []) (deletes (grant (key_of 104 0) (value_of 2)) ∷ inserts (grant (key_of 104 0) (value_of 1)) ∷ [])
      ∷ comparison kept22 1 0 (([]) ∷ []) ([])
      ∷ comparison kept22 3 1 (([]) ∷ []) (deletes (grant (key_of 104 0) (value_of 1)) ∷ [])
      ∷ comparison kept23 5 1 (([]) ∷ (false ∷ []) ∷ (true ∷ []) ∷ []) (deletes (grant (key_of 128 0) (value_of 3)) ∷ [])
      ∷ comparison kept23 5 5 (([]) ∷ []) ([])
      ∷ comparison kept23 2 5 (([]) ∷ (false ∷ []) ∷ (true ∷ []) ∷ []) (inserts (grant (key_of 128 0) (value_of 3)) ∷ [])
      ∷ comparison kept23 4 3 (([]) ∷ []) ([])
      ∷ comparison kept24 4 6 (([]) ∷ (false ∷ []) ∷ (true ∷ []) ∷ []) ([])
      ∷ comparison kept24 6 5 (([]) ∷ (false ∷ []) ∷ (true ∷ []) ∷ []) ([])
      ∷ comparison kept24 7 4 (([]) ∷ (false ∷ []) ∷ (true ∷ []) ∷ []) ([])
      ∷ comparison kept24 4 7 (([]) ∷ (false ∷ []) ∷ (true ∷ []) ∷ []) ([])
      ∷ comparison kept25 7 4 (([]) ∷ (false ∷ []) ∷ (true ∷ []) ∷ []) (deletes (grant (key_of 8 0) (value_of 1)) ∷ deletes (grant (key_of 144 0) (value_of 4)) ∷ [])
      ∷ comparison kept25 7 8 (([]) ∷ (false ∷ []) ∷ (true ∷ []) ∷ []) (deletes (grant (key_of 8 0) (value_of 1)) ∷ inserts (grant (key_of 8 0) (value_of 3)) ∷ [])
      ∷ comparison kept25 4 7 (([]) ∷ (false ∷ []) ∷ (true ∷ []) ∷ []) (inserts (grant (key_of 8 0) (value_of 1)) ∷ inserts (grant (key_of 144 0) (value_of 4)) ∷ [])
      ∷ comparison kept25 4 3 (([]) ∷ []) ([])
      ∷ comparison kept26 4 5 (([]) ∷ []) (deletes (grant (key_of 128 0) (value_of 4)) ∷ inserts (grant (key_of 128 0) (value_of 1)) ∷ [])
      ∷ comparison kept26 3 5 (([]) ∷ []) (inserts (grant (key_of 128 0) (value_of 1)) ∷ [])
      ∷ comparison kept26 4 4 (([]) ∷ []) ([])
      ∷ comparison kept26 3 4 (([]) ∷ []) (inserts (grant (key_of 128 0) (value_of 4)) ∷ [])
      ∷ comparison kept27 0 1 (([]) ∷ []) (inserts (grant (key_of 144 0) (value_of 1)) ∷ [])
      ∷ comparison kept27 3 1 (([]) ∷ []) (deletes (grant (key_of 144 0) (value_of 4)) ∷ inserts (grant (key_of 144 0) (value_of 1)) ∷ [])
      ∷ comparison kept27 1 0 (([]) ∷ []) (deletes (grant (key_of 144 0) (value_of 1)) ∷ [])
      ∷ comparison kept27 2 3 (([]) ∷ []) ([])
      ∷ comparison kept28 1 4 (([]) ∷ (false ∷ []) ∷ (true ∷ []) ∷ []) (deletes (grant (key_of 104 0) (value_of 2)) ∷ inserts (grant (key_of 104 0) (value_of 4)) ∷ inserts (grant (key_of 128 0) (value_of 2)) ∷ [])
      ∷ comparison kept28 2 2 (([]) ∷ []) ([])
      ∷ comparison kept28 3 3 (([]) ∷ []) ([])
      ∷ comparison kept28 2 1 (([]) ∷ (false ∷ []) ∷ (true ∷ []) ∷ []) (deletes (grant (key_of 144 0) (value_of 2)) ∷ [])
      ∷ comparison kept29 3 2 (([]) ∷ (false ∷ []) ∷ (true ∷ []) ∷ []) (deletes (grant (key_of 96 0) (value_of 1)) ∷ deletes (grant (key_of 128 0) (value_of 2)) ∷ [])
      ∷ comparison kept29 1 1 (([]) ∷ []) ([])
      ∷ comparison kept29 0 4 (([]) ∷ []) (inserts (grant (key_of 128 0) (value_of 2)) ∷ [])
      ∷ comparison kept29 3 4 (([]) ∷ (false ∷ []) ∷ (true ∷ []) ∷ []) (deletes (grant (key_of 96 0) (value_of 1)) ∷ [])
      ∷ comparison kept30 0 1 (([]) ∷ []) (inserts (grant (key_of 64 0) (value_of 2)) ∷ [])
      ∷ comparison kept30 6 9 (([]) ∷ (false ∷ []) ∷ (true ∷ []) ∷ []) (inserts (grant (key_of 192 0) (value_of 4)) ∷ [])
      ∷ comparison kept30 11 1 (([]) ∷ (false ∷ []) ∷ (true ∷ []) ∷ []) (deletes (grant (key_of 192 0) (value_of 4)) ∷ [])
      ∷ comparison kept30 7 9 (([]) ∷ (false ∷ []) ∷ (true ∷ []) ∷ []) (inserts (grant (key_of 192 0) (value_of 4)) ∷ [])
      ∷ comparison kept31 2 2 (([]) ∷ []) ([])
      ∷ comparison kept31 0 1 (([]) ∷ []) (inserts (grant (key_of 0 0) (value_of 3)) ∷ [])
      ∷ comparison kept31 0 5 (([]) ∷ []) (inserts (grant (key_of 0 0) (value_of 3)) ∷ [])
      ∷ comparison kept31 2 3 (([]) ∷ []) ([])
      ∷ comparison kept32 18 12 (([]) ∷ (false ∷ []) ∷ (true ∷ []) ∷ (true ∷ false ∷ []) ∷ (true ∷ true ∷ []) ∷ []) (deletes (grant (key_of 16 0) (value_of 1)) ∷ deletes (grant (key_of 192 0) (value_of 3)) ∷ [])
      ∷ comparison kept32 4 19 (([]) ∷ (false ∷ []) ∷ (true ∷ []) ∷ (true ∷ false ∷ []) ∷ (true ∷ true ∷ []) ∷ []) (deletes (grant (key_of 16 0) (value_of 2)) ∷ inserts (grant (key_of 144 0) (value_of 2)) ∷ inserts (grant (key_of 192 0) (value_of 3)) ∷ [])
      ∷ comparison kept32 17 2 (([]) ∷ (false ∷ []) ∷ (true ∷ []) ∷ []) (deletes (grant (key_of 16 0) (value_of 1)) ∷ inserts (grant (key_of 16 0) (value_of 2)) ∷ deletes (grant (key_of 144 0) (value_of 2)) ∷ [])
      ∷ comparison kept32 6 11 (([]) ∷ []) (deletes (grant (key_of 16 0) (value_of 2)) ∷ [])
      ∷ comparison kept33 2 1 (([]) ∷ []) ([])
      ∷ comparison kept33 2 1 (([]) ∷ []) ([])
      ∷ comparison kept33 2 2 (([]) ∷ []) ([])
      ∷ comparison kept33 2 3 (([]) ∷ (false ∷ []) ∷ (true ∷ []) ∷ []) (inserts (grant (key_of 0 0) (value_of 3)) ∷ deletes (grant (key_of 192 0) (value_of 1)) ∷ inserts (grant (key_of 192 0) (value_of 2)) ∷ [])
      ∷ comparison kept34 3 3 (([]) ∷ []) ([])
      ∷ comparison kept34 2 2 (([]) ∷ []) ([])
      ∷ comparison kept34 2 4 (([]) ∷ []) (inserts (grant (key_of 254 0) (value_of 3)) ∷ [])
      ∷ comparison kept34 5 4 (([]) ∷ []) ([])
      ∷ comparison kept35 8 9 (([]) ∷ []) ([])
      ∷ comparison kept35 13 8 (([]) ∷ []) (inserts (grant (key_of 64 0) (value_of 4)) ∷ [])
      ∷ comparison kept35 8 7 (([]) ∷ []) ([])
      ∷ comparison kept35 2 12 (([]) ∷ []) ([])
      ∷ comparison kept36 4 5 (([]) ∷ (false ∷ []) ∷ (true ∷ []) ∷ []) ([])
      ∷ comparison kept36 2 3 (([]) ∷ []) ([])
      ∷ comparison kept36 6 3 (([]) ∷ (false ∷ []) ∷ (true ∷ []) ∷ (true ∷ false ∷ []) ∷ (true ∷ true ∷ []) ∷ (true ∷ true ∷ false ∷ []) ∷ (true ∷ true ∷ true ∷ []) ∷ []) (deletes (grant (key_of 192 0) (value_of 4)) ∷ deletes (grant (key_of 255 0) (value_of 4)) ∷ [])
      ∷ comparison kept36 4 3 (([]) ∷ (false ∷ []) ∷ (true ∷ []) ∷ (true ∷ false ∷ []) ∷ (true ∷ true ∷ []) ∷ (true ∷ true ∷ false ∷ []) ∷ (true ∷ true ∷ true ∷ []) ∷ []) (deletes (grant (key_of 192 0) (value_of 4)) ∷ deletes (grant (key_of 255 0) (value_of 4)) ∷ [])
      ∷ comparison kept37 16 15 (([]) ∷ []) ([])
      ∷ comparison kept37 17 13 (([]) ∷ (false ∷ []) ∷ (false ∷ false ∷ []) ∷ (false ∷ true ∷ []) ∷ (false ∷ true ∷ false ∷ []) ∷ (false ∷ true ∷ true ∷ []) ∷ (true ∷ []) ∷ []) (deletes (grant (key_of 0 0) (value_of 1)) ∷ deletes (grant (key_of 64 0) (value_of 2)) ∷ [])
      ∷ comparison kept37 13 12 (([]) ∷ []) ([])
      ∷ comparison kept37 17 13 (([]) ∷ (false ∷ []) ∷ (false ∷ false ∷ []) ∷ (false ∷ true ∷ []) ∷ (false ∷ true ∷ false ∷ []) ∷ (false ∷ true ∷ true ∷ []) ∷ (true ∷ []) ∷ []) (deletes (grant (key_of 0 0) (value_of 1)) ∷ deletes (grant (key_of 64 0) (value_of 2)) ∷ [])
      ∷ comparison kept38 4294967293 4294967293 (([]) ∷ []) ([])
      ∷ comparison kept38 4294967294 4294967294 (([]) ∷ []) ([])
      ∷ comparison kept38 4294967295 4294967295 (([]) ∷ []) ([])
      ∷ comparison kept38 4294967294 4294967293 (([]) ∷ []) ([])
      ∷ comparison kept39 4294967295 4294967295 (([]) ∷ []) ([])
      ∷ comparison kept39 4294967295 4294967295 (([]) ∷ []) ([])
      ∷ comparison kept39 4294967295 4294967295 (([]) ∷ []) ([])
      ∷ comparison kept39 4294967295 4294967295 (([]) ∷ []) ([])
      ∷ []

  pub comparisons : All ComparisonHolds rows
  unfolding computed compared
  comparisons = ((refl, refl), ((refl, refl), ((refl, refl), ((refl, refl), ((refl, refl), ((refl, refl), ((refl, refl), ((refl, refl), ((refl, refl), ((refl, refl), ((refl, refl), ((refl, refl), ((refl, refl), ((refl, refl), ((refl, refl), ((refl, refl), ((refl, refl), ((refl, refl), ((refl, refl), ((refl, refl), ((refl, refl), ((refl, refl), ((refl, refl), ((refl, refl), ((refl, refl), ((refl, refl), ((refl, refl), ((refl, refl), ((refl, refl), ((refl, refl), ((refl, refl), ((refl, refl), ((refl, refl), ((refl, refl), ((refl, refl), ((refl, refl), ((refl, refl), ((refl, refl), ((refl, refl), ((refl, refl), ((refl, refl), ((refl, refl), ((refl, refl), ((refl, refl), ((refl, refl), ((refl, refl), ((refl, refl), ((refl, refl), ((refl, refl), ((refl, refl), ((refl, refl), ((refl, refl), ((refl, refl), ((refl, refl), ((refl, refl), ((refl, refl), ((refl, refl), ((refl, refl), ((refl, refl), ((refl, refl), ((refl, refl), ((refl, refl), ((refl, refl), ((refl, refl), ((refl, refl), ((refl, refl), ((refl, refl), ((refl, refl), ((refl, refl), ((refl, refl), ((refl, refl), ((refl, refl), ((refl, refl), ((refl, refl), ((refl, refl), ((refl, refl), ((refl, refl), ((refl, refl), ((refl, refl), ((refl, refl), ((refl, refl), ((refl, refl), ((refl, refl), ((refl, refl), ((refl, refl), ((refl, refl), ((refl, refl), ((refl, refl), ((refl, refl), ((refl, refl), ((refl, refl), ((refl, refl), ((refl, refl), ((refl, refl), ((refl, refl), ((refl, refl), ((refl, refl), ((refl, refl), ((refl, refl), ((refl, refl), ((refl, refl), ((refl, refl), ((refl, refl), ((refl, refl), ((refl, refl), ((refl, refl), ((refl, refl), ((refl, refl), ((refl, refl), ((refl, refl), ((refl, refl), ((refl, refl), ((refl, refl), ((refl, refl), ((refl, refl), ((refl, refl), ((refl, refl), ((refl, refl), ((refl, refl), ((refl, refl), ((refl, refl), ((refl, refl), ((refl, refl), ((refl, refl), ((refl, refl), ((refl, refl), ((refl, refl), ((refl, refl), ((refl, refl), ((refl, refl), ((refl, refl), ((refl, refl), ((refl, refl), ((refl, refl), ((refl, refl), ((refl, refl), ((refl, refl), ((refl, refl), ((refl, refl), ((refl, refl), ((refl, refl), ((refl, refl), ((refl, refl), ((refl, refl), ((refl, refl), ((refl, refl), ((refl, refl), ((refl, refl), ((refl, refl), ((refl, refl), ((refl, refl), ((refl, refl), ((refl, refl), ((refl, refl), ((refl, refl), ((refl, refl), ((refl, refl), ((refl, refl), ((refl, refl), ((refl, refl), tt))))))))))))))))))))))))))))))))))))))))))))))))))))))))))))))))))))))))))))))))))))))))))))))))))))))))))))))))))))))))))))))))))))))))))))))))))))))))))))))))
