-- Numbers and positions in whole and damaged stores, part 1. Written by tests/tables/generate.py; compared with a second reading of document 01, 2026-07, 2026-09 and 2026-13. Assumes nothing.
use mathlib.Core.Path.{◌≡◌, refl}
use mathlib.Core.Bool.{true, false}
use mathlib.Core.List.{List, [], ◌∷◌}
use mathlib.Core.Option.{none, some}
use Rattle.terms.specs.Bits.{Bytes, All}
use Rattle.terms.specs.Records.{insert, delete, free, Store, presence, zeros}
use Rattle.meaning.specs.Computed.{computed}
use Rattle.meaning.specs.Calls.{refused, accepted}
use Rattle.meaning.specs.Desk.{key_of}
use Rattle.meaning.specs.Proving.{step, presence_of, absence_of}
use Rattle.meaning.specs.Reading.{present, absent}
use Rattle.tables.specs.Tables.{Position, position, PositionHolds, leaf_slot, inner_slot, spoilt_slot, store_of, free_slots, value_of}
use Rattle.terms.specs.Records.{grant}

module _ (leaf_hash inner_hash : Bytes → Bytes → Bytes) where
  abbrev h0 : Bytes
  h0 = leaf_hash (key_of 0 0) (value_of 3)

  abbrev h1 : Bytes
  h1 = leaf_hash (key_of 104 0) (value_of 4)

  abbrev h2 : Bytes
  h2 = inner_hash h0 h1

  abbrev h3 : Bytes
  h3 = leaf_hash (key_of 16 0) (value_of 1)

  abbrev h4 : Bytes
  h4 = leaf_hash (key_of 144 0) (value_of 3)

  abbrev h5 : Bytes
  h5 = leaf_hash (key_of 192 0) (value_of 1)

  abbrev h6 : Bytes
  h6 = leaf_hash (key_of 64 0) (value_of 1)

  abbrev h7 : Bytes
  h7 = leaf_hash (key_of 96 0) (value_of 2)

  abbrev h8 : Bytes
  h8 = inner_hash h6 h7

  abbrev h9 : Bytes
  h9 = inner_hash zeros h8

  abbrev h10 : Bytes
  h10 = leaf_hash (key_of 254 0) (value_of 1)

  abbrev h11 : Bytes
  h11 = leaf_hash (key_of 96 0) (value_of 3)

  abbrev h12 : Bytes
  h12 = leaf_hash (key_of 64 0) (value_of 3)

  abbrev h13 : Bytes
  h13 = leaf_hash (key_of 128 0) (value_of 3)

  abbrev h14 : Bytes
  h14 = leaf_hash (key_of 104 0) (value_of 2)

  abbrev h15 : Bytes
  h15 = leaf_hash (key_of 64 0) (value_of 4)

  abbrev h16 : Bytes
  h16 = leaf_hash (key_of 128 0) (value_of 1)

  abbrev h17 : Bytes
  h17 = leaf_hash (key_of 16 0) (value_of 3)

  abbrev h18 : Bytes
  h18 = leaf_hash (key_of 16 0) (value_of 4)

  abbrev h19 : Bytes
  h19 = leaf_hash (key_of 254 0) (value_of 3)

  abbrev h20 : Bytes
  h20 = leaf_hash (key_of 128 0) (value_of 4)

  abbrev h21 : Bytes
  h21 = inner_hash h20 h10

  abbrev h22 : Bytes
  h22 = leaf_hash (key_of 0 0) (value_of 4)

  abbrev h23 : Bytes
  h23 = inner_hash h22 h12

  abbrev h24 : Bytes
  h24 = leaf_hash (key_of 104 0) (value_of 3)

  abbrev h25 : Bytes
  h25 = inner_hash h12 h24

  abbrev h26 : Bytes
  h26 = inner_hash h22 h25

  abbrev h27 : Bytes
  h27 = leaf_hash (key_of 0 0) (value_of 2)

  abbrev h28 : Bytes
  h28 = leaf_hash (key_of 192 0) (value_of 2)

  abbrev h29 : Bytes
  h29 = leaf_hash (key_of 144 0) (value_of 2)

  abbrev h30 : Bytes
  h30 = leaf_hash (key_of 128 0) (value_of 2)

  abbrev h31 : Bytes
  h31 = leaf_hash (key_of 192 0) (value_of 3)

  abbrev h32 : Bytes
  h32 = inner_hash h29 h31

  abbrev h33 : Bytes
  h33 = leaf_hash (key_of 16 0) (value_of 2)

  abbrev h34 : Bytes
  h34 = leaf_hash (key_of 0 0) (value_of 1)

  abbrev h35 : Bytes
  h35 = leaf_hash (key_of 8 0) (value_of 4)

  abbrev h36 : Bytes
  h36 = inner_hash h34 h35

  abbrev h37 : Bytes
  h37 = inner_hash h36 zeros

  abbrev h38 : Bytes
  h38 = inner_hash h37 zeros

  abbrev h39 : Bytes
  h39 = inner_hash h38 h14

  abbrev h40 : Bytes
  h40 = leaf_hash (key_of 144 0) (value_of 4)

  abbrev h41 : Bytes
  h41 = leaf_hash (key_of 255 0) (value_of 2)

  abbrev h42 : Bytes
  h42 = leaf_hash (key_of 255 0) (value_of 4)

  abbrev h43 : Bytes
  h43 = inner_hash h4 h42

  abbrev h44 : Bytes
  h44 = inner_hash h31 h42

  abbrev h45 : Bytes
  h45 = inner_hash h4 h44

  abbrev h46 : Bytes
  h46 = leaf_hash (key_of 96 0) (value_of 1)

  abbrev h47 : Bytes
  h47 = leaf_hash (key_of 144 0) (value_of 1)

  abbrev h48 : Bytes
  h48 = leaf_hash (key_of 8 0) (value_of 2)

  abbrev h49 : Bytes
  h49 = inner_hash h48 h46

  abbrev h50 : Bytes
  h50 = leaf_hash (key_of 192 0) (value_of 4)

  abbrev h51 : Bytes
  h51 = inner_hash h47 h50

  abbrev h52 : Bytes
  h52 = leaf_hash (key_of 8 0) (value_of 3)

  abbrev h53 : Bytes
  h53 = leaf_hash (key_of 104 0) (value_of 1)

  abbrev h54 : Bytes
  h54 = inner_hash h52 h53

  abbrev h55 : Bytes
  h55 = inner_hash h16 h4

  abbrev h56 : Bytes
  h56 = inner_hash h55 zeros

  abbrev h57 : Bytes
  h57 = inner_hash h56 zeros

  abbrev at0 : Store
  at0 =
      store_of 6 6
      (free
      ∷ leaf_slot ([]) 6 0 (key_of 64 0) (value_of 4)
      ∷ free
      ∷ free
      ∷ [])

  abbrev at1 : Store
  at1 =
      store_of 4294967294 4294967295
      (leaf_slot ([]) 4294967294 4294967295 (key_of 0 0) (value_of 3)
      ∷ leaf_slot (false ∷ false ∷ []) 4294967295 0 (key_of 0 0) (value_of 3)
      ∷ leaf_slot (false ∷ true ∷ []) 4294967295 0 (key_of 104 0) (value_of 4)
      ∷ inner_slot (false ∷ []) 4294967295 0 4294967295 h0 4294967295 h1 1 1
      ∷ inner_slot ([]) 4294967295 0 4294967295 h2 0 zeros 2 0
      ∷ free
      ∷ free
      ∷ free
      ∷ free
      ∷ free
      ∷ free
      ∷ free
      ∷ free
      ∷ free
      ∷ free
      ∷ free
      ∷ free
      ∷ free
      ∷ free
      ∷ free
      ∷ free
      ∷ free
      ∷ free
      ∷ free
      ∷ [])

  abbrev at2 : Store
  at2 =
      store_of 0 15
      (leaf_slot ([]) 6 8 (key_of 16 0) (value_of 4)
      ∷ leaf_slot ([]) 8 9 (key_of 16 0) (value_of 1)
      ∷ leaf_slot (false ∷ []) 9 15 (key_of 16 0) (value_of 1)
      ∷ leaf_slot (true ∷ []) 9 15 (key_of 144 0) (value_of 3)
      ∷ inner_slot ([]) 9 10 9 h3 9 h4 1 1
      ∷ inner_slot ([]) 10 11 9 h3 9 h4 1 1
      ∷ inner_slot ([]) 11 15 9 h3 9 h4 1 1
      ∷ leaf_slot ([]) 15 0 (key_of 144 0) (value_of 3)
      ∷ free
      ∷ free
      ∷ free
      ∷ free
      ∷ free
      ∷ free
      ∷ free
      ∷ free
      ∷ [])

  abbrev at3 : Store
  at3 =
      store_of 1 10
      (leaf_slot (false ∷ []) 1 2 (key_of 0 0) (value_of 3)
      ∷ leaf_slot (true ∷ []) 1 2 (key_of 192 0) (value_of 1)
      ∷ inner_slot ([]) 1 2 1 h0 1 h5 1 2
      ∷ leaf_slot ([]) 2 3 (key_of 192 0) (value_of 4)
      ∷ leaf_slot ([]) 3 4 (key_of 192 0) (value_of 1)
      ∷ leaf_slot ([]) 4 5 (key_of 192 0) (value_of 1)
      ∷ leaf_slot ([]) 10 0 (key_of 192 0) (value_of 3)
      ∷ spoilt_slot 0 ([]) 2 3
      ∷ [])

  abbrev at4 : Store
  at4 =
      store_of 0 9
      (leaf_slot ([]) 7 8 (key_of 64 0) (value_of 1)
      ∷ leaf_slot (false ∷ true ∷ false ∷ []) 8 0 (key_of 64 0) (value_of 1)
      ∷ leaf_slot (false ∷ true ∷ true ∷ []) 8 0 (key_of 96 0) (value_of 2)
      ∷ inner_slot (false ∷ true ∷ []) 8 0 8 h6 8 h7 1 1
      ∷ inner_slot (false ∷ []) 8 0 0 zeros 8 h8 0 2
      ∷ inner_slot ([]) 8 9 8 h9 0 zeros 2 0
      ∷ leaf_slot (true ∷ []) 9 0 (key_of 254 0) (value_of 1)
      ∷ inner_slot ([]) 9 0 8 h9 9 h10 2 1
      ∷ [])

  abbrev at5 : Store
  at5 =
      store_of 0 6
      (leaf_slot ([]) 3 5 (key_of 16 0) (value_of 3)
      ∷ leaf_slot ([]) 5 6 (key_of 16 0) (value_of 3)
      ∷ leaf_slot ([]) 6 0 (key_of 16 0) (value_of 2)
      ∷ spoilt_slot 0 ([]) 3 5
      ∷ free
      ∷ free
      ∷ free
      ∷ free
      ∷ free
      ∷ free
      ∷ free
      ∷ free
      ∷ free
      ∷ free
      ∷ free
      ∷ free
      ∷ [])

  abbrev at6 : Store
  at6 =
      store_of 1 2
      (leaf_slot ([]) 1 2 (key_of 144 0) (value_of 3)
      ∷ leaf_slot (false ∷ []) 2 0 (key_of 96 0) (value_of 3)
      ∷ leaf_slot (true ∷ []) 2 0 (key_of 144 0) (value_of 3)
      ∷ inner_slot ([]) 2 0 2 h11 2 h4 1 1
      ∷ [])

  abbrev at7 : Store
  at7 =
      store_of 1 9
      (leaf_slot ([]) 2 6 (key_of 128 0) (value_of 2)
      ∷ leaf_slot ([]) 6 7 (key_of 8 0) (value_of 4)
      ∷ leaf_slot ([]) 8 9 (key_of 16 0) (value_of 4)
      ∷ leaf_slot ([]) 9 0 (key_of 16 0) (value_of 2)
      ∷ free
      ∷ free
      ∷ free
      ∷ free
      ∷ free
      ∷ free
      ∷ free
      ∷ free
      ∷ free
      ∷ free
      ∷ free
      ∷ free
      ∷ free
      ∷ free
      ∷ free
      ∷ free
      ∷ free
      ∷ free
      ∷ free
      ∷ free
      ∷ [])

  abbrev at8 : Store
  at8 =
      store_of 0 12
      (leaf_slot ([]) 2 5 (key_of 64 0) (value_of 3)
      ∷ leaf_slot ([]) 5 6 (key_of 64 0) (value_of 3)
      ∷ leaf_slot (false ∷ []) 6 12 (key_of 64 0) (value_of 3)
      ∷ leaf_slot (true ∷ []) 6 12 (key_of 128 0) (value_of 3)
      ∷ inner_slot ([]) 6 7 6 h12 6 h13 1 1
      ∷ inner_slot ([]) 7 12 6 h12 6 h13 1 1
      ∷ leaf_slot ([]) 12 0 (key_of 64 0) (value_of 3)
      ∷ free
      ∷ [])

  abbrev at9 : Store
  at9 =
      store_of 3 4
      (leaf_slot ([]) 1 4 (key_of 104 0) (value_of 2)
      ∷ leaf_slot (false ∷ []) 4 0 (key_of 104 0) (value_of 2)
      ∷ leaf_slot (true ∷ []) 4 0 (key_of 255 0) (value_of 3)
      ∷ inner_slot ([]) 4 0 4 h14 4 h4 1 1
      ∷ [])

  abbrev at10 : Store
  at10 =
      store_of 0 17
      (leaf_slot ([]) 5 7 (key_of 128 0) (value_of 1)
      ∷ leaf_slot (false ∷ []) 7 8 (key_of 64 0) (value_of 4)
      ∷ leaf_slot (true ∷ []) 7 15 (key_of 128 0) (value_of 1)
      ∷ inner_slot ([]) 7 8 7 h15 7 h16 1 1
      ∷ leaf_slot (false ∷ []) 8 0 (key_of 16 0) (value_of 3)
      ∷ inner_slot ([]) 8 9 8 h17 7 h16 1 1
      ∷ inner_slot ([]) 9 10 8 h17 7 h16 1 1
      ∷ inner_slot ([]) 10 15 8 h17 7 h16 1 1
      ∷ leaf_slot (true ∷ []) 15 0 (key_of 128 0) (value_of 3)
      ∷ inner_slot ([]) 15 16 8 h17 15 h13 1 1
      ∷ inner_slot ([]) 16 17 8 h17 15 h13 1 1
      ∷ inner_slot ([]) 17 0 8 h17 15 h13 1 1
      ∷ [])

  abbrev at11 : Store
  at11 =
      store_of 7 13
      (leaf_slot (false ∷ []) 1 13 (key_of 16 0) (value_of 4)
      ∷ inner_slot ([]) 9 13 1 h18 7 h4 1 1
      ∷ leaf_slot ([]) 13 0 (key_of 16 0) (value_of 4)
      ∷ free
      ∷ leaf_slot (true ∷ []) 7 13 (key_of 144 0) (value_of 3)
      ∷ inner_slot ([]) 7 8 1 h18 7 h4 1 1
      ∷ free
      ∷ free
      ∷ [])

  abbrev at12 : Store
  at12 =
      store_of 4 8
      (leaf_slot (false ∷ []) 5 0 (key_of 64 0) (value_of 4)
      ∷ leaf_slot (true ∷ []) 5 0 (key_of 254 0) (value_of 3)
      ∷ inner_slot ([]) 5 8 5 h15 5 h19 1 1
      ∷ inner_slot ([]) 8 0 5 h15 5 h19 1 1
      ∷ [])

  abbrev at13 : Store
  at13 =
      store_of 4294967294 4294967295
      (leaf_slot ([]) 4294967296 4294967295 (key_of 64 0) (value_of 1)
      ∷ leaf_slot ([]) 4294967295 0 (key_of 64 0) (value_of 1)
      ∷ free
      ∷ free
      ∷ [])

  abbrev at14 : Store
  at14 =
      store_of 5 14
      (leaf_slot ([]) 5 9 (key_of 254 0) (value_of 1)
      ∷ leaf_slot (true ∷ false ∷ []) 9 10 (key_of 128 0) (value_of 4)
      ∷ leaf_slot (true ∷ true ∷ []) 9 10 (key_of 254 0) (value_of 1)
      ∷ inner_slot (true ∷ []) 9 10 9 h20 9 h10 1 1
      ∷ inner_slot ([]) 9 10 0 zeros 9 h21 0 2
      ∷ leaf_slot ([]) 10 14 (key_of 128 0) (value_of 4)
      ∷ leaf_slot ([]) 14 0 (key_of 128 0) (value_of 4)
      ∷ free
      ∷ free
      ∷ free
      ∷ free
      ∷ free
      ∷ [])

  abbrev at15 : Store
  at15 =
      store_of 3 12
      (leaf_slot (false ∷ false ∷ []) 9 0 (key_of 0 0) (value_of 4)
      ∷ leaf_slot ([]) 3 4 (key_of 64 0) (value_of 2)
      ∷ leaf_slot ([]) 4 9 (key_of 64 0) (value_of 3)
      ∷ leaf_slot (false ∷ true ∷ []) 9 12 (key_of 64 0) (value_of 3)
      ∷ inner_slot (false ∷ []) 9 12 9 h22 9 h12 1 1
      ∷ inner_slot ([]) 9 11 9 h23 0 zeros 2 0
      ∷ inner_slot ([]) 11 12 9 h23 0 zeros 2 0
      ∷ leaf_slot (false ∷ true ∷ false ∷ []) 12 0 (key_of 64 0) (value_of 3)
      ∷ leaf_slot (false ∷ true ∷ true ∷ []) 12 0 (key_of 104 0) (value_of 3)
      ∷ inner_slot (false ∷ true ∷ []) 12 0 12 h12 12 h24 1 1
      ∷ inner_slot (false ∷ []) 12 0 9 h22 12 h25 1 2
      ∷ inner_slot ([]) 12 0 12 h26 0 zeros 0 3
      ∷ [])

  abbrev at16 : Store
  at16 =
      store_of 8 8
      (free
      ∷ free
      ∷ free
      ∷ free
      ∷ free
      ∷ free
      ∷ free
      ∷ free
      ∷ [])

  abbrev at17 : Store
  at17 =
      store_of 0 27
      (leaf_slot ([]) 6 10 (key_of 0 0) (value_of 2)
      ∷ leaf_slot (false ∷ []) 10 11 (key_of 0 0) (value_of 2)
      ∷ leaf_slot (true ∷ []) 10 11 (key_of 128 0) (value_of 3)
      ∷ inner_slot ([]) 10 11 10 h27 10 h13 1 1
      ∷ leaf_slot ([]) 12 16 (key_of 128 0) (value_of 3)
      ∷ leaf_slot (false ∷ []) 16 17 (key_of 0 0) (value_of 2)
      ∷ spoilt_slot 1 (true ∷ []) 16 17
      ∷ inner_slot ([]) 16 17 16 h27 16 h28 1 1
      ∷ leaf_slot ([]) 17 21 (key_of 0 0) (value_of 2)
      ∷ leaf_slot ([]) 21 22 (key_of 0 0) (value_of 2)
      ∷ leaf_slot ([]) 22 27 (key_of 0 0) (value_of 2)
      ∷ leaf_slot (false ∷ []) 27 0 (key_of 0 0) (value_of 2)
      ∷ leaf_slot (true ∷ []) 27 0 (key_of 144 0) (value_of 2)
      ∷ inner_slot ([]) 27 0 27 h27 27 h29 1 1
      ∷ free
      ∷ free
      ∷ free
      ∷ free
      ∷ free
      ∷ free
      ∷ free
      ∷ free
      ∷ free
      ∷ free
      ∷ [])

  abbrev at18 : Store
  at18 =
      store_of 1 2
      (leaf_slot ([]) 1 2 (key_of 64 0) (value_of 4)
      ∷ leaf_slot (false ∷ []) 2 0 (key_of 64 0) (value_of 4)
      ∷ leaf_slot (true ∷ []) 2 0 (key_of 128 0) (value_of 2)
      ∷ inner_slot ([]) 2 0 2 h15 2 h30 1 1
      ∷ [])

  abbrev at19 : Store
  at19 =
      store_of 8 8
      (spoilt_slot 0 ([]) 8 0
      ∷ free
      ∷ leaf_slot ([]) 8 0 (key_of 192 0) (value_of 2)
      ∷ free
      ∷ [])

  abbrev at20 : Store
  at20 =
      store_of 0 3
      (leaf_slot ([]) 1 2 (key_of 96 0) (value_of 1)
      ∷ leaf_slot ([]) 2 3 (key_of 96 0) (value_of 1)
      ∷ leaf_slot ([]) 3 0 (key_of 16 0) (value_of 4)
      ∷ free
      ∷ free
      ∷ free
      ∷ free
      ∷ free
      ∷ free
      ∷ free
      ∷ free
      ∷ free
      ∷ free
      ∷ free
      ∷ free
      ∷ free
      ∷ free
      ∷ free
      ∷ free
      ∷ free
      ∷ free
      ∷ free
      ∷ free
      ∷ free
      ∷ [])

  abbrev at21 : Store
  at21 =
      store_of 4 4
      (leaf_slot (true ∷ false ∷ []) 1 0 (key_of 144 0) (value_of 2)
      ∷ free
      ∷ free
      ∷ free
      ∷ leaf_slot (false ∷ []) 3 0 (key_of 104 0) (value_of 2)
      ∷ free
      ∷ leaf_slot (true ∷ true ∷ []) 6 0 (key_of 192 0) (value_of 3)
      ∷ inner_slot (true ∷ []) 4 0 1 h29 4 h31 1 1
      ∷ inner_slot ([]) 4 0 3 h14 4 h32 1 2
      ∷ free
      ∷ free
      ∷ free
      ∷ [])

  abbrev at22 : Store
  at22 =
      store_of 0 11
      (leaf_slot ([]) 4 6 (key_of 16 0) (value_of 2)
      ∷ leaf_slot ([]) 6 10 (key_of 16 0) (value_of 2)
      ∷ leaf_slot (false ∷ []) 10 11 (key_of 16 0) (value_of 2)
      ∷ leaf_slot (true ∷ []) 10 0 (key_of 128 0) (value_of 4)
      ∷ inner_slot ([]) 10 11 10 h33 10 h20 1 1
      ∷ leaf_slot (false ∷ []) 11 0 (key_of 16 0) (value_of 3)
      ∷ inner_slot ([]) 11 0 11 h17 10 h20 1 1
      ∷ free
      ∷ free
      ∷ free
      ∷ free
      ∷ free
      ∷ [])

  abbrev at23 : Store
  at23 =
      store_of 4294967294 4294967295
      (leaf_slot ([]) 4294967295 0 (key_of 96 0) (value_of 1)
      ∷ spoilt_slot 0 ([]) 4294967295 0
      ∷ free
      ∷ free
      ∷ [])

  abbrev at24 : Store
  at24 =
      store_of 0 6
      (leaf_slot (false ∷ false ∷ false ∷ false ∷ false ∷ []) 2 0 (key_of 0 0) (value_of 1)
      ∷ leaf_slot (false ∷ false ∷ false ∷ false ∷ true ∷ []) 2 0 (key_of 8 0) (value_of 4)
      ∷ inner_slot (false ∷ false ∷ false ∷ false ∷ []) 2 0 2 h34 2 h35 1 1
      ∷ inner_slot (false ∷ false ∷ false ∷ []) 2 0 2 h36 0 zeros 2 0
      ∷ inner_slot (false ∷ false ∷ []) 2 0 2 h37 0 zeros 2 0
      ∷ leaf_slot (false ∷ true ∷ []) 2 0 (key_of 104 0) (value_of 2)
      ∷ inner_slot (false ∷ []) 2 0 2 h38 2 h14 2 1
      ∷ inner_slot ([]) 2 3 2 h39 0 zeros 3 0
      ∷ inner_slot ([]) 3 5 2 h39 0 zeros 3 0
      ∷ inner_slot ([]) 5 6 2 h39 0 zeros 3 0
      ∷ inner_slot ([]) 6 0 2 h39 0 zeros 3 0
      ∷ free
      ∷ free
      ∷ free
      ∷ free
      ∷ free
      ∷ [])

  abbrev at25 : Store
  at25 =
      store_of 0 6
      (leaf_slot (false ∷ []) 1 6 (key_of 16 0) (value_of 2)
      ∷ leaf_slot (true ∷ []) 1 0 (key_of 144 0) (value_of 4)
      ∷ inner_slot ([]) 1 3 1 h33 1 h40 1 1
      ∷ inner_slot ([]) 3 4 1 h33 1 h40 2 1
      ∷ inner_slot ([]) 4 5 1 h33 1 h40 1 1
      ∷ spoilt_slot 0 (false ∷ false ∷ true ∷ []) 5 6
      ∷ leaf_slot (false ∷ []) 6 0 (key_of 16 0) (value_of 4)
      ∷ inner_slot ([]) 6 0 6 h18 1 h40 1 1
      ∷ [])

  abbrev at26 : Store
  at26 =
      store_of 5 8
      (leaf_slot ([]) 5 8 (key_of 255 0) (value_of 2)
      ∷ leaf_slot (false ∷ []) 8 0 (key_of 96 0) (value_of 2)
      ∷ leaf_slot (true ∷ []) 8 0 (key_of 255 0) (value_of 2)
      ∷ inner_slot ([]) 8 0 8 h7 8 h41 1 1
      ∷ [])

  abbrev at27 : Store
  at27 =
      store_of 9 13
      (leaf_slot (true ∷ false ∷ []) 4 13 (key_of 144 0) (value_of 3)
      ∷ leaf_slot (true ∷ true ∷ []) 4 10 (key_of 255 0) (value_of 4)
      ∷ inner_slot (true ∷ []) 4 10 4 h4 4 h42 1 1
      ∷ free
      ∷ inner_slot ([]) 9 10 0 zeros 4 h43 0 2
      ∷ leaf_slot (true ∷ true ∷ false ∷ []) 10 13 (key_of 192 0) (value_of 3)
      ∷ leaf_slot (true ∷ true ∷ true ∷ []) 10 13 (key_of 255 0) (value_of 4)
      ∷ inner_slot (true ∷ true ∷ []) 10 13 10 h31 10 h42 1 1
      ∷ inner_slot (true ∷ []) 10 13 4 h4 10 h44 1 2
      ∷ inner_slot ([]) 10 12 0 zeros 10 h45 0 3
      ∷ free
      ∷ leaf_slot ([]) 13 0 (key_of 192 0) (value_of 3)
      ∷ [])

  abbrev at28 : Store
  at28 =
      store_of 1 5
      (leaf_slot ([]) 2 3 (key_of 144 0) (value_of 1)
      ∷ leaf_slot (false ∷ []) 3 4 (key_of 96 0) (value_of 1)
      ∷ leaf_slot (true ∷ []) 3 5 (key_of 144 0) (value_of 1)
      ∷ inner_slot ([]) 3 4 3 h46 3 h47 1 1
      ∷ leaf_slot (false ∷ false ∷ []) 4 0 (key_of 8 0) (value_of 2)
      ∷ leaf_slot (false ∷ true ∷ []) 4 0 (key_of 96 0) (value_of 1)
      ∷ inner_slot (false ∷ []) 4 0 4 h48 4 h46 1 1
      ∷ inner_slot ([]) 4 5 4 h49 3 h47 2 1
      ∷ leaf_slot (true ∷ false ∷ []) 5 0 (key_of 144 0) (value_of 1)
      ∷ leaf_slot (true ∷ true ∷ []) 5 0 (key_of 192 0) (value_of 4)
      ∷ inner_slot (true ∷ []) 5 0 5 h47 5 h50 1 1
      ∷ inner_slot ([]) 5 0 4 h49 5 h51 2 2
      ∷ free
      ∷ free
      ∷ free
      ∷ free
      ∷ [])

  abbrev at29 : Store
  at29 =
      store_of 2 11
      (inner_slot ([]) 11 0 3 h54 10 h57 2 2
      ∷ leaf_slot ([]) 2 3 (key_of 8 0) (value_of 3)
      ∷ free
      ∷ leaf_slot (false ∷ true ∷ []) 3 0 (key_of 104 0) (value_of 1)
      ∷ inner_slot (false ∷ []) 3 0 3 h52 3 h53 1 1
      ∷ inner_slot ([]) 3 8 3 h54 0 zeros 2 0
      ∷ leaf_slot (true ∷ []) 8 10 (key_of 128 0) (value_of 1)
      ∷ inner_slot ([]) 8 10 3 h54 8 h16 2 1
      ∷ leaf_slot (true ∷ false ∷ false ∷ false ∷ []) 10 0 (key_of 128 0) (value_of 1)
      ∷ leaf_slot (true ∷ false ∷ false ∷ true ∷ []) 10 0 (key_of 144 0) (value_of 3)
      ∷ inner_slot (true ∷ false ∷ false ∷ []) 10 0 10 h16 10 h4 1 1
      ∷ inner_slot (true ∷ false ∷ []) 10 0 10 h55 0 zeros 2 0
      ∷ inner_slot (true ∷ []) 10 0 10 h56 0 zeros 2 0
      ∷ inner_slot ([]) 10 11 3 h54 10 h57 2 2
      ∷ free
      ∷ free
      ∷ free
      ∷ free
      ∷ free
      ∷ free
      ∷ free
      ∷ free
      ∷ free
      ∷ free
      ∷ [])

  abbrev rows : List Position
  rows =
      position at0 6 1 (accepted 1) (refused 20)
      ∷ position at0 5 0 (refused 8) (refused 8)
      ∷ position at0 6 1 (accepted 1) (refused 20)
      ∷ position at0 6 1 (accepted 1) (refused 20)
      ∷ position at0 6 1 (accepted 1) (refused 20)
      ∷ position at1 4294967295 1 (accepted 2) (accepted (grant (key_of 104 0) (value_of 4)))
      ∷ position at1 4294967295 0 (accepted 2) (accepted (grant (key_of 0 0) (value_of 3)))
      ∷ position at1 4294967295 1 (accepted 2) (accepted (grant (key_of 104 0) (value_of 4)))
      ∷ position at1 4294967295 1 (accepted 2) (accepted (grant (key_of 104 0) (value_of 4)))
      ∷ position at1 4294967295 2 (accepted 2) (refused 20)
      ∷ position at2 15 1 (accepted 1) (refused 20)
      ∷ position at2 12 0 (accepted 2) (accepted (grant (key_of 16 0) (value_of 1)))
      ∷ position at2 12 0 (accepted 2) (accepted (grant (key_of 16 0) (value_of 1)))
      ∷ position at2 6 1 (accepted 1) (refused 20)
      ∷ position at2 15 1 (accepted 1) (refused 20)
      ∷ position at3 10 1 (accepted 1) (refused 20)
      ∷ position at3 10 1 (accepted 1) (refused 20)
      ∷ position at3 10 1 (accepted 1) (refused 20)
      ∷ position at3 11 0 (refused 8) (refused 8)
      ∷ position at3 10 0 (accepted 1) (accepted (grant (key_of 192 0) (value_of 3)))
      ∷ position at4 9 3 (accepted 3) (refused 20)
      ∷ position at4 5 0 (accepted 0) (refused 20)
      ∷ position at4 5 0 (accepted 0) (refused 20)
      ∷ position at4 5 0 (accepted 0) (refused 20)
      ∷ position at4 9 0 (accepted 3) (accepted (grant (key_of 64 0) (value_of 1)))
      ∷ position at5 6 0 (accepted 1) (accepted (grant (key_of 16 0) (value_of 2)))
      ∷ position at5 6 0 (accepted 1) (accepted (grant (key_of 16 0) (value_of 2)))
      ∷ position at5 6 1 (accepted 1) (refused 20)
      ∷ position at5 3 0 (accepted 1) (accepted (grant (key_of 16 0) (value_of 3)))
      ∷ position at5 6 1 (accepted 1) (refused 20)
      ∷ position at6 3 0 (refused 8) (refused 8)
      ∷ position at6 2 1 (accepted 2) (accepted (grant (key_of 144 0) (value_of 3)))
      ∷ position at6 2 0 (accepted 2) (accepted (grant (key_of 96 0) (value_of 3)))
      ∷ position at6 1 0 (accepted 1) (accepted (grant (key_of 144 0) (value_of 3)))
      ∷ position at6 2 2 (accepted 2) (refused 20)
      ∷ position at7 2 1 (accepted 1) (refused 20)
      ∷ position at7 10 0 (refused 8) (refused 8)
      ∷ position at7 9 0 (accepted 1) (accepted (grant (key_of 16 0) (value_of 2)))
      ∷ position at7 2 0 (accepted 1) (accepted (grant (key_of 128 0) (value_of 2)))
      ∷ position at7 9 0 (accepted 1) (accepted (grant (key_of 16 0) (value_of 2)))
      ∷ position at8 12 1 (accepted 1) (refused 20)
      ∷ position at8 12 0 (accepted 1) (accepted (grant (key_of 64 0) (value_of 3)))
      ∷ position at8 0 0 (accepted 0) (refused 20)
      ∷ position at8 8 2 (accepted 2) (refused 20)
      ∷ position at8 12 0 (accepted 1) (accepted (grant (key_of 64 0) (value_of 3)))
      ∷ position at9 4 0 (accepted 2) (accepted (grant (key_of 104 0) (value_of 2)))
      ∷ position at9 4 1 (accepted 2) (accepted (grant (key_of 255 0) (value_of 3)))
      ∷ position at9 4 1 (accepted 2) (accepted (grant (key_of 255 0) (value_of 3)))
      ∷ position at9 4 1 (accepted 2) (accepted (grant (key_of 255 0) (value_of 3)))
      ∷ position at9 4 1 (accepted 2) (accepted (grant (key_of 255 0) (value_of 3)))
      ∷ position at10 17 2 (accepted 2) (refused 20)
      ∷ position at10 4 0 (accepted 0) (refused 20)
      ∷ position at10 17 2 (accepted 2) (refused 20)
      ∷ position at10 17 2 (accepted 2) (refused 20)
      ∷ position at10 17 0 (accepted 2) (accepted (grant (key_of 16 0) (value_of 3)))
      ∷ position at11 11 2 (accepted 2) (refused 20)
      ∷ position at11 13 1 (accepted 1) (refused 20)
      ∷ position at11 13 1 (accepted 1) (refused 20)
      ∷ position at11 13 1 (accepted 1) (refused 20)
      ∷ position at11 10 2 (accepted 2) (refused 20)
      ∷ position at12 6 2 (accepted 2) (refused 20)
      ∷ position at12 8 2 (accepted 2) (refused 20)
      ∷ position at12 8 2 (accepted 2) (refused 20)
      ∷ position at12 8 1 (accepted 2) (accepted (grant (key_of 254 0) (value_of 3)))
      ∷ position at12 8 1 (accepted 2) (accepted (grant (key_of 254 0) (value_of 3)))
      ∷ position at13 4294967295 0 (accepted 1) (accepted (grant (key_of 64 0) (value_of 1)))
      ∷ position at13 4294967295 0 (accepted 1) (accepted (grant (key_of 64 0) (value_of 1)))
      ∷ position at13 4294967294 0 (accepted 0) (refused 20)
      ∷ position at13 4294967293 0 (refused 8) (refused 8)
      ∷ position at13 4294967295 1 (accepted 1) (refused 20)
      ∷ position at14 14 0 (accepted 1) (accepted (grant (key_of 128 0) (value_of 4)))
      ∷ position at14 14 0 (accepted 1) (accepted (grant (key_of 128 0) (value_of 4)))
      ∷ position at14 15 1 (refused 8) (refused 8)
      ∷ position at14 14 0 (accepted 1) (accepted (grant (key_of 128 0) (value_of 4)))
      ∷ position at14 14 1 (accepted 1) (refused 20)
      ∷ position at15 11 2 (accepted 2) (refused 20)
      ∷ position at15 12 0 (accepted 3) (refused 3)
      ∷ position at15 12 1 (accepted 3) (refused 3)
      ∷ position at15 13 0 (refused 8) (refused 8)
      ∷ position at15 8 0 (accepted 1) (accepted (grant (key_of 64 0) (value_of 3)))
      ∷ position at16 8 0 (accepted 0) (refused 20)
      ∷ position at16 8 0 (accepted 0) (refused 20)
      ∷ position at16 7 0 (refused 8) (refused 8)
      ∷ position at16 8 0 (accepted 0) (refused 20)
      ∷ position at16 9 1 (refused 8) (refused 8)
      ∷ position at17 18 1 (accepted 1) (refused 20)
      ∷ position at17 11 0 (accepted 0) (refused 20)
      ∷ position at17 27 1 (accepted 2) (accepted (grant (key_of 144 0) (value_of 2)))
      ∷ position at17 22 1 (accepted 1) (refused 20)
      ∷ position at17 27 2 (accepted 2) (refused 20)
      ∷ position at18 2 0 (accepted 2) (accepted (grant (key_of 64 0) (value_of 4)))
      ∷ position at18 2 1 (accepted 2) (accepted (grant (key_of 128 0) (value_of 2)))
      ∷ position at18 2 1 (accepted 2) (accepted (grant (key_of 128 0) (value_of 2)))
      ∷ position at18 2 2 (accepted 2) (refused 20)
      ∷ position at18 2 0 (accepted 2) (accepted (grant (key_of 64 0) (value_of 4)))
      ∷ position at19 8 0 (accepted 1) (accepted (grant (key_of 192 0) (value_of 2)))
      ∷ position at19 8 1 (accepted 1) (refused 20)
      ∷ position at19 9 1 (refused 8) (refused 8)
      ∷ position at19 8 1 (accepted 1) (refused 20)
      ∷ position at19 8 1 (accepted 1) (refused 20)
      ∷ position at20 3 0 (accepted 1) (accepted (grant (key_of 16 0) (value_of 4)))
      ∷ position at20 3 1 (accepted 1) (refused 20)
      ∷ position at20 0 0 (accepted 0) (refused 20)
      ∷ position at20 3 1 (accepted 1) (refused 20)
      ∷ position at20 4 2 (refused 8) (refused 8)
      ∷ position at21 4 1 (accepted 3) (accepted (grant (key_of 144 0) (value_of 2)))
      ∷ position at21 5 1 (refused 8) (refused 8)
      ∷ position at21 4 2 (accepted 3) (refused 17)
      ∷ position at21 4 2 (accepted 3) (refused 17)
      ∷ position at21 4 2 (accepted 3) (refused 17)
      ∷ position at22 0 0 (accepted 0) (refused 20)
      ∷ position at22 7 0 (accepted 1) (accepted (grant (key_of 16 0) (value_of 2)))
      ∷ position at22 11 0 (accepted 2) (accepted (grant (key_of 16 0) (value_of 3)))
      ∷ position at22 11 1 (accepted 2) (accepted (grant (key_of 128 0) (value_of 4)))
      ∷ position at22 11 0 (accepted 2) (accepted (grant (key_of 16 0) (value_of 3)))
      ∷ position at23 4294967295 0 (accepted 1) (accepted (grant (key_of 96 0) (value_of 1)))
      ∷ position at23 4294967294 0 (accepted 0) (refused 20)
      ∷ position at23 4294967295 0 (accepted 1) (accepted (grant (key_of 96 0) (value_of 1)))
      ∷ position at23 4294967294 0 (accepted 0) (refused 20)
      ∷ position at23 4294967295 0 (accepted 1) (accepted (grant (key_of 96 0) (value_of 1)))
      ∷ position at24 3 3 (accepted 3) (refused 20)
      ∷ position at24 6 3 (accepted 3) (refused 20)
      ∷ position at24 0 0 (accepted 0) (refused 20)
      ∷ position at24 6 0 (accepted 3) (accepted (grant (key_of 0 0) (value_of 1)))
      ∷ position at24 6 0 (accepted 3) (accepted (grant (key_of 0 0) (value_of 1)))
      ∷ position at25 5 0 (accepted 0) (refused 20)
      ∷ position at25 6 2 (accepted 2) (refused 20)
      ∷ position at25 5 0 (accepted 0) (refused 20)
      ∷ position at25 3 0 (accepted 3) (accepted (grant (key_of 16 0) (value_of 2)))
      ∷ position at25 0 0 (accepted 0) (refused 20)
      ∷ position at26 9 1 (refused 8) (refused 8)
      ∷ position at26 4 1 (refused 8) (refused 8)
      ∷ position at26 5 1 (accepted 1) (refused 20)
      ∷ position at26 8 0 (accepted 2) (accepted (grant (key_of 96 0) (value_of 2)))
      ∷ position at26 8 0 (accepted 2) (accepted (grant (key_of 96 0) (value_of 2)))
      ∷ position at27 13 0 (accepted 1) (accepted (grant (key_of 192 0) (value_of 3)))
      ∷ position at27 14 0 (refused 8) (refused 8)
      ∷ position at27 13 1 (accepted 1) (refused 20)
      ∷ position at27 11 3 (accepted 3) (refused 20)
      ∷ position at27 13 0 (accepted 1) (accepted (grant (key_of 192 0) (value_of 3)))
      ∷ position at28 5 2 (accepted 4) (accepted (grant (key_of 144 0) (value_of 1)))
      ∷ position at28 2 0 (accepted 1) (accepted (grant (key_of 144 0) (value_of 1)))
      ∷ position at28 5 1 (accepted 4) (accepted (grant (key_of 96 0) (value_of 1)))
      ∷ position at28 3 2 (accepted 2) (refused 20)
      ∷ position at28 5 0 (accepted 4) (accepted (grant (key_of 8 0) (value_of 2)))
      ∷ position at29 11 0 (accepted 4) (refused 17)
      ∷ position at29 4 1 (accepted 2) (accepted (grant (key_of 104 0) (value_of 1)))
      ∷ position at29 10 0 (accepted 4) (refused 17)
      ∷ position at29 11 2 (accepted 4) (accepted (grant (key_of 128 0) (value_of 1)))
      ∷ position at29 9 0 (accepted 3) (refused 17)
      ∷ []

  pub positions1 : All PositionHolds rows
  unfolding computed
  positions1 = ((refl, refl), ((refl, refl), ((refl, refl), ((refl, refl), ((refl, refl), ((refl, refl), ((refl, refl), ((refl, refl), ((refl, refl), ((refl, refl), ((refl, refl), ((refl, refl), ((refl, refl), ((refl, refl), ((refl, refl), ((refl, refl), ((refl, refl), ((refl, refl), ((refl, refl), ((refl, refl), ((refl, refl), ((refl, refl), ((refl, refl), ((refl, refl), ((refl, refl), ((refl, refl), ((refl, refl), ((refl, refl), ((refl, refl), ((refl, refl), ((refl, refl), ((refl, refl), ((refl, refl), ((refl, refl), ((refl, refl), ((refl, refl), ((refl, refl), ((refl, refl), ((refl, refl), ((refl, refl), ((refl, refl), ((refl, refl), ((refl, refl), ((refl, refl), ((refl, refl), ((refl, refl), ((refl, refl), ((refl, refl), ((refl, refl), ((refl, refl), ((refl, refl), ((refl, refl), ((refl, refl), ((refl, refl), ((refl, refl), ((refl, refl), ((refl, refl), ((refl, refl), ((refl, refl), ((refl, refl), ((refl, refl), ((refl, refl), ((refl, refl), ((refl, refl), ((refl, refl), ((refl, refl), ((refl, refl), ((refl, refl), ((refl, refl), ((refl, refl), ((refl, refl), ((refl, refl), ((refl, refl), ((refl, refl), ((refl, refl), ((refl, refl), ((refl, refl), ((refl, refl), ((refl, refl), ((refl, refl), ((refl, refl), ((refl, refl), ((refl, refl), ((refl, refl), ((refl, refl), ((refl, refl), ((refl, refl), ((refl, refl), ((refl, refl), ((refl, refl), ((refl, refl), ((refl, refl), ((refl, refl), ((refl, refl), ((refl, refl), ((refl, refl), ((refl, refl), ((refl, refl), ((refl, refl), ((refl, refl), ((refl, refl), ((refl, refl), ((refl, refl), ((refl, refl), ((refl, refl), ((refl, refl), ((refl, refl), ((refl, refl), ((refl, refl), ((refl, refl), ((refl, refl), ((refl, refl), ((refl, refl), ((refl, refl), ((refl, refl), ((refl, refl), ((refl, refl), ((refl, refl), ((refl, refl), ((refl, refl), ((refl, refl), ((refl, refl), ((refl, refl), ((refl, refl), ((refl, refl), ((refl, refl), ((refl, refl), ((refl, refl), ((refl, refl), ((refl, refl), ((refl, refl), ((refl, refl), ((refl, refl), ((refl, refl), ((refl, refl), ((refl, refl), ((refl, refl), ((refl, refl), ((refl, refl), ((refl, refl), ((refl, refl), ((refl, refl), ((refl, refl), ((refl, refl), ((refl, refl), ((refl, refl), ((refl, refl), ((refl, refl), ((refl, refl), ((refl, refl), tt))))))))))))))))))))))))))))))))))))))))))))))))))))))))))))))))))))))))))))))))))))))))))))))))))))))))))))))))))))))))))))))))))))))))))))))))))))))
