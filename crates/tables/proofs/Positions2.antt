-- Numbers and positions in whole and damaged stores, part 2. Written by tests/tables/generate.py; compared with a second reading of document 01, 2026-07, 2026-09 and 2026-13. Assumes nothing.
use mathlib.Core.Path.{◌≡◌, refl}
use mathlib.Core.Bool.{true, false}
use mathlib.Core.List.{List, [], ◌∷◌}
use mathlib.Core.Option.{none, some}
use Rattle.terms.specs.Bits.{Bytes, All}
use Rattle.terms.specs.Records.{insert, delete, free, Store, presence, zeros}
use Rattle.meaning.specs.Computed.{computed}
use Rattle.meaning.specs.Calls.{refused, accepted}
use Rattle.meaning.specs.Desk.{key_of}
use Rattle.meaning.specs.Proving.{step, presence_of, absence_of}
use Rattle.meaning.specs.Reading.{present, absent}
use Rattle.tables.specs.Tables.{Position, position, PositionHolds, leaf_slot, inner_slot, spoilt_slot, store_of, free_slots, value_of}
use Rattle.terms.specs.Records.{grant}

module _ (leaf_hash inner_hash : Bytes → Bytes → Bytes) where
  abbrev h0 : Bytes
  h0 = leaf_hash (key_of 0 0) (value_of 2)

  abbrev h1 : Bytes
  h1 = leaf_hash (key_of 192 0) (value_of 2)

  abbrev h2 : Bytes
  h2 = leaf_hash (key_of 8 0) (value_of 3)

  abbrev h3 : Bytes
  h3 = leaf_hash (key_of 64 0) (value_of 4)

  abbrev h4 : Bytes
  h4 = inner_hash h2 h3

  abbrev h5 : Bytes
  h5 = leaf_hash (key_of 144 0) (value_of 1)

  abbrev h6 : Bytes
  h6 = leaf_hash (key_of 96 0) (value_of 1)

  abbrev h7 : Bytes
  h7 = leaf_hash (key_of 128 0) (value_of 3)

  abbrev h8 : Bytes
  h8 = leaf_hash (key_of 8 0) (value_of 2)

  abbrev h9 : Bytes
  h9 = leaf_hash (key_of 96 0) (value_of 4)

  abbrev h10 : Bytes
  h10 = inner_hash h8 h9

  abbrev h11 : Bytes
  h11 = leaf_hash (key_of 192 0) (value_of 4)

  abbrev h12 : Bytes
  h12 = leaf_hash (key_of 16 0) (value_of 4)

  abbrev h13 : Bytes
  h13 = inner_hash h2 h12

  abbrev h14 : Bytes
  h14 = inner_hash h13 zeros

  abbrev h15 : Bytes
  h15 = inner_hash h14 h6

  abbrev h16 : Bytes
  h16 = inner_hash h2 h6

  abbrev h17 : Bytes
  h17 = leaf_hash (key_of 16 0) (value_of 2)

  abbrev h18 : Bytes
  h18 = inner_hash h2 h17

  abbrev h19 : Bytes
  h19 = inner_hash h18 zeros

  abbrev h20 : Bytes
  h20 = inner_hash h19 h6

  abbrev h21 : Bytes
  h21 = inner_hash h12 h6

  abbrev h22 : Bytes
  h22 = leaf_hash (key_of 104 0) (value_of 2)

  abbrev h23 : Bytes
  h23 = leaf_hash (key_of 192 0) (value_of 1)

  abbrev h24 : Bytes
  h24 = leaf_hash (key_of 255 0) (value_of 2)

  abbrev h25 : Bytes
  h25 = leaf_hash (key_of 96 0) (value_of 3)

  abbrev h26 : Bytes
  h26 = leaf_hash (key_of 255 0) (value_of 1)

  abbrev h27 : Bytes
  h27 = leaf_hash (key_of 8 0) (value_of 1)

  abbrev h28 : Bytes
  h28 = leaf_hash (key_of 254 0) (value_of 1)

  abbrev h29 : Bytes
  h29 = inner_hash h27 h6

  abbrev h30 : Bytes
  h30 = leaf_hash (key_of 0 0) (value_of 4)

  abbrev h31 : Bytes
  h31 = leaf_hash (key_of 128 0) (value_of 1)

  abbrev h32 : Bytes
  h32 = leaf_hash (key_of 96 0) (value_of 2)

  abbrev h33 : Bytes
  h33 = leaf_hash (key_of 104 0) (value_of 1)

  abbrev h34 : Bytes
  h34 = inner_hash h32 h33

  abbrev h35 : Bytes
  h35 = inner_hash h34 zeros

  abbrev h36 : Bytes
  h36 = inner_hash zeros h35

  abbrev h37 : Bytes
  h37 = inner_hash zeros h36

  abbrev h38 : Bytes
  h38 = leaf_hash (key_of 64 0) (value_of 1)

  abbrev h39 : Bytes
  h39 = leaf_hash (key_of 254 0) (value_of 4)

  abbrev h40 : Bytes
  h40 = inner_hash h23 h39

  abbrev h41 : Bytes
  h41 = inner_hash h27 h38

  abbrev h42 : Bytes
  h42 = inner_hash zeros h40

  abbrev h43 : Bytes
  h43 = leaf_hash (key_of 254 0) (value_of 3)

  abbrev h44 : Bytes
  h44 = inner_hash h23 h43

  abbrev h45 : Bytes
  h45 = inner_hash zeros h44

  abbrev h46 : Bytes
  h46 = inner_hash h38 h22

  abbrev h47 : Bytes
  h47 = inner_hash h27 h46

  abbrev at0 : Store
  at0 =
      store_of 0 2
      (leaf_slot ([]) 1 2 (key_of 192 0) (value_of 2)
      ∷ leaf_slot (false ∷ []) 2 0 (key_of 0 0) (value_of 2)
      ∷ leaf_slot (true ∷ []) 2 0 (key_of 192 0) (value_of 2)
      ∷ inner_slot ([]) 2 0 2 h0 2 h1 1 1
      ∷ [])

  abbrev at1 : Store
  at1 =
      store_of 1 11
      (leaf_slot ([]) 2 7 (key_of 254 0) (value_of 3)
      ∷ leaf_slot ([]) 7 8 (key_of 254 0) (value_of 3)
      ∷ leaf_slot ([]) 8 9 (key_of 254 0) (value_of 3)
      ∷ leaf_slot ([]) 12 0 (key_of 64 0) (value_of 4)
      ∷ [])

  abbrev at2 : Store
  at2 =
      store_of 3 3
      (leaf_slot ([]) 3 0 (key_of 255 0) (value_of 3)
      ∷ free
      ∷ free
      ∷ free
      ∷ free
      ∷ free
      ∷ free
      ∷ free
      ∷ [])

  abbrev at3 : Store
  at3 =
      store_of 0 6
      (leaf_slot ([]) 7 0 (key_of 64 0) (value_of 4)
      ∷ free
      ∷ free
      ∷ free
      ∷ free
      ∷ free
      ∷ free
      ∷ free
      ∷ [])

  abbrev at4 : Store
  at4 =
      store_of 2 12
      (leaf_slot ([]) 6 7 (key_of 8 0) (value_of 1)
      ∷ leaf_slot ([]) 7 12 (key_of 8 0) (value_of 1)
      ∷ leaf_slot ([]) 12 0 (key_of 8 0) (value_of 1)
      ∷ free
      ∷ [])

  abbrev at5 : Store
  at5 =
      store_of 0 2
      (leaf_slot ([]) 1 2 (key_of 104 0) (value_of 4)
      ∷ leaf_slot ([]) 2 0 (key_of 104 0) (value_of 2)
      ∷ leaf_slot ([]) 2 0 (key_of 192 0) (value_of 9)
      ∷ free
      ∷ free
      ∷ free
      ∷ free
      ∷ free
      ∷ free
      ∷ free
      ∷ free
      ∷ free
      ∷ free
      ∷ free
      ∷ free
      ∷ free
      ∷ free
      ∷ free
      ∷ free
      ∷ free
      ∷ free
      ∷ free
      ∷ free
      ∷ free
      ∷ [])

  abbrev at6 : Store
  at6 =
      store_of 10 12
      (leaf_slot ([]) 11 12 (key_of 128 0) (value_of 2)
      ∷ leaf_slot ([]) 10 11 (key_of 96 0) (value_of 3)
      ∷ leaf_slot ([]) 12 0 (key_of 128 0) (value_of 2)
      ∷ free
      ∷ free
      ∷ free
      ∷ free
      ∷ free
      ∷ [])

  abbrev at7 : Store
  at7 =
      store_of 2 5
      (leaf_slot ([]) 3 4 (key_of 104 0) (value_of 3)
      ∷ leaf_slot (false ∷ false ∷ []) 4 0 (key_of 8 0) (value_of 3)
      ∷ leaf_slot (false ∷ true ∷ []) 5 0 (key_of 64 0) (value_of 4)
      ∷ inner_slot (false ∷ []) 4 0 4 h2 4 h3 1 2
      ∷ inner_slot ([]) 4 5 4 h4 0 zeros 2 0
      ∷ leaf_slot (true ∷ []) 5 0 (key_of 144 0) (value_of 1)
      ∷ inner_slot ([]) 5 0 4 h4 5 h5 2 1
      ∷ free
      ∷ free
      ∷ free
      ∷ free
      ∷ free
      ∷ free
      ∷ free
      ∷ free
      ∷ free
      ∷ [])

  abbrev at8 : Store
  at8 =
      store_of 3 9
      (leaf_slot ([]) 4 8 (key_of 104 0) (value_of 2)
      ∷ leaf_slot ([]) 8 9 (key_of 104 0) (value_of 2)
      ∷ leaf_slot ([]) 9 0 (key_of 104 0) (value_of 2)
      ∷ free
      ∷ free
      ∷ free
      ∷ free
      ∷ free
      ∷ free
      ∷ free
      ∷ free
      ∷ free
      ∷ [])

  abbrev at9 : Store
  at9 =
      store_of 1 3
      (free
      ∷ free
      ∷ free
      ∷ free
      ∷ free
      ∷ free
      ∷ free
      ∷ free
      ∷ free
      ∷ free
      ∷ free
      ∷ free
      ∷ [])

  abbrev at10 : Store
  at10 =
      store_of 4294967293 4294967295
      (leaf_slot ([]) 4294967294 4294967295 (key_of 16 0) (value_of 3)
      ∷ leaf_slot ([]) 4294967295 0 (key_of 16 0) (value_of 3)
      ∷ free
      ∷ free
      ∷ free
      ∷ free
      ∷ free
      ∷ free
      ∷ [])

  abbrev at11 : Store
  at11 =
      store_of 0 2
      (leaf_slot (false ∷ []) 3 0 (key_of 96 0) (value_of 1)
      ∷ leaf_slot (true ∷ []) 1 0 (key_of 128 0) (value_of 3)
      ∷ inner_slot ([]) 1 2 1 h6 1 h7 1 1
      ∷ inner_slot ([]) 2 0 1 h6 1 h7 1 1
      ∷ [])

  abbrev at12 : Store
  at12 =
      store_of 4 4
      (leaf_slot (false ∷ false ∷ []) 3 0 (key_of 8 0) (value_of 2)
      ∷ free
      ∷ leaf_slot (true ∷ []) 2 0 (key_of 192 0) (value_of 4)
      ∷ free
      ∷ leaf_slot (false ∷ true ∷ []) 3 0 (key_of 96 0) (value_of 4)
      ∷ inner_slot (false ∷ []) 3 0 3 h8 3 h9 1 1
      ∷ free
      ∷ inner_slot ([]) 4 0 3 h10 2 h11 2 1
      ∷ free
      ∷ free
      ∷ free
      ∷ free
      ∷ free
      ∷ free
      ∷ free
      ∷ free
      ∷ free
      ∷ free
      ∷ free
      ∷ free
      ∷ free
      ∷ free
      ∷ free
      ∷ free
      ∷ [])

  abbrev at13 : Store
  at13 =
      store_of 7 14
      (spoilt_slot 0 ([]) 7 8
      ∷ leaf_slot ([]) 8 9 (key_of 64 0) (value_of 4)
      ∷ leaf_slot ([]) 9 14 (key_of 64 0) (value_of 4)
      ∷ leaf_slot ([]) 15 0 (key_of 64 0) (value_of 3)
      ∷ free
      ∷ free
      ∷ free
      ∷ free
      ∷ free
      ∷ free
      ∷ free
      ∷ free
      ∷ [])

  abbrev at14 : Store
  at14 =
      store_of 8 20
      (leaf_slot (false ∷ false ∷ false ∷ false ∷ []) 15 20 (key_of 8 0) (value_of 3)
      ∷ leaf_slot (false ∷ false ∷ false ∷ true ∷ []) 1 9 (key_of 16 0) (value_of 2)
      ∷ leaf_slot (false ∷ false ∷ false ∷ true ∷ []) 15 20 (key_of 16 0) (value_of 4)
      ∷ inner_slot (false ∷ false ∷ false ∷ []) 15 20 15 h2 15 h12 1 1
      ∷ leaf_slot (false ∷ true ∷ []) 1 0 (key_of 96 0) (value_of 1)
      ∷ inner_slot (false ∷ false ∷ []) 15 20 15 h13 0 zeros 2 0
      ∷ inner_slot (false ∷ []) 15 20 15 h14 1 h6 2 1
      ∷ inner_slot ([]) 15 19 15 h15 3 h1 3 1
      ∷ inner_slot ([]) 19 20 15 h15 3 h1 3 1
      ∷ leaf_slot (false ∷ false ∷ []) 20 0 (key_of 8 0) (value_of 3)
      ∷ inner_slot (false ∷ []) 20 0 20 h2 1 h6 1 1
      ∷ inner_slot ([]) 20 0 20 h16 3 h1 2 1
      ∷ leaf_slot (true ∷ []) 3 0 (key_of 192 0) (value_of 2)
      ∷ free
      ∷ leaf_slot (false ∷ false ∷ false ∷ false ∷ []) 4 9 (key_of 8 0) (value_of 3)
      ∷ inner_slot (false ∷ false ∷ false ∷ []) 4 9 4 h2 1 h17 1 1
      ∷ inner_slot (false ∷ false ∷ []) 4 9 4 h18 0 zeros 2 0
      ∷ inner_slot (false ∷ []) 4 9 4 h19 1 h6 2 1
      ∷ inner_slot ([]) 4 9 4 h20 3 h1 3 1
      ∷ leaf_slot (false ∷ false ∷ []) 9 15 (key_of 16 0) (value_of 4)
      ∷ inner_slot (false ∷ []) 9 15 9 h12 1 h6 1 1
      ∷ inner_slot ([]) 9 10 9 h21 3 h1 2 1
      ∷ inner_slot ([]) 10 15 9 h21 3 h1 2 1
      ∷ free
      ∷ [])

  abbrev at15 : Store
  at15 =
      store_of 0 2
      (free
      ∷ leaf_slot (false ∷ []) 2 0 (key_of 104 0) (value_of 2)
      ∷ leaf_slot (true ∷ []) 2 0 (key_of 192 0) (value_of 1)
      ∷ inner_slot ([]) 2 0 2 h22 2 h23 1 1
      ∷ [])

  abbrev at16 : Store
  at16 =
      store_of 0 15
      (leaf_slot ([]) 1 4 (key_of 96 0) (value_of 4)
      ∷ leaf_slot ([]) 4 5 (key_of 96 0) (value_of 4)
      ∷ leaf_slot (false ∷ []) 5 6 (key_of 96 0) (value_of 4)
      ∷ leaf_slot (true ∷ []) 5 10 (key_of 255 0) (value_of 2)
      ∷ inner_slot ([]) 5 6 5 h9 5 h24 1 1
      ∷ leaf_slot (false ∷ []) 6 7 (key_of 96 0) (value_of 3)
      ∷ inner_slot ([]) 6 7 6 h25 5 h24 1 1
      ∷ leaf_slot (false ∷ []) 7 0 (key_of 96 0) (value_of 1)
      ∷ inner_slot ([]) 7 10 7 h6 5 h24 1 1
      ∷ leaf_slot (true ∷ []) 10 15 (key_of 255 0) (value_of 1)
      ∷ inner_slot ([]) 10 15 7 h6 10 h26 1 1
      ∷ leaf_slot (true ∷ []) 15 0 (key_of 255 0) (value_of 2)
      ∷ inner_slot ([]) 15 0 7 h6 15 h24 1 1
      ∷ free
      ∷ free
      ∷ free
      ∷ free
      ∷ free
      ∷ free
      ∷ free
      ∷ free
      ∷ free
      ∷ free
      ∷ free
      ∷ [])

  abbrev at17 : Store
  at17 =
      store_of 1 2
      (leaf_slot ([]) 2 2 (key_of 8 0) (value_of 1)
      ∷ leaf_slot (false ∷ []) 2 0 (key_of 8 0) (value_of 1)
      ∷ leaf_slot (true ∷ []) 2 0 (key_of 254 0) (value_of 1)
      ∷ inner_slot ([]) 2 0 2 h27 2 h28 1 1
      ∷ free
      ∷ free
      ∷ free
      ∷ free
      ∷ free
      ∷ free
      ∷ free
      ∷ free
      ∷ [])

  abbrev at18 : Store
  at18 =
      store_of 0 16
      (leaf_slot ([]) 5 8 (key_of 96 0) (value_of 1)
      ∷ leaf_slot ([]) 8 9 (key_of 96 0) (value_of 1)
      ∷ leaf_slot ([]) 9 14 (key_of 96 0) (value_of 1)
      ∷ leaf_slot ([]) 14 15 (key_of 96 0) (value_of 1)
      ∷ leaf_slot (false ∷ false ∷ []) 15 16 (key_of 8 0) (value_of 1)
      ∷ leaf_slot (false ∷ true ∷ []) 15 16 (key_of 96 0) (value_of 1)
      ∷ inner_slot (false ∷ []) 15 16 15 h27 15 h6 1 1
      ∷ leaf_slot (true ∷ []) 15 16 (key_of 192 0) (value_of 4)
      ∷ inner_slot ([]) 15 16 15 h29 15 h11 2 1
      ∷ leaf_slot (false ∷ []) 16 0 (key_of 96 0) (value_of 1)
      ∷ leaf_slot (true ∷ []) 16 0 (key_of 192 0) (value_of 2)
      ∷ inner_slot ([]) 16 0 16 h6 16 h1 1 1
      ∷ [])

  abbrev at19 : Store
  at19 =
      store_of 6 6
      (leaf_slot ([]) 7 0 (key_of 128 0) (value_of 2)
      ∷ spoilt_slot 0 ([]) 6 0
      ∷ free
      ∷ free
      ∷ free
      ∷ free
      ∷ free
      ∷ free
      ∷ free
      ∷ free
      ∷ free
      ∷ free
      ∷ free
      ∷ free
      ∷ free
      ∷ free
      ∷ free
      ∷ free
      ∷ free
      ∷ free
      ∷ free
      ∷ free
      ∷ free
      ∷ free
      ∷ [])

  abbrev at20 : Store
  at20 =
      store_of 1 2
      (leaf_slot ([]) 2 0 (key_of 254 0) (value_of 2)
      ∷ free
      ∷ free
      ∷ free
      ∷ [])

  abbrev at21 : Store
  at21 =
      store_of 2 4
      (leaf_slot ([]) 5 4 (key_of 254 0) (value_of 2)
      ∷ leaf_slot ([]) 4 0 (key_of 96 0) (value_of 3)
      ∷ free
      ∷ free
      ∷ free
      ∷ free
      ∷ free
      ∷ free
      ∷ free
      ∷ free
      ∷ free
      ∷ free
      ∷ free
      ∷ free
      ∷ free
      ∷ free
      ∷ [])

  abbrev at22 : Store
  at22 =
      store_of 9 16
      (leaf_slot ([]) 12 16 (key_of 128 0) (value_of 3)
      ∷ leaf_slot ([]) 16 0 (key_of 128 0) (value_of 3)
      ∷ free
      ∷ free
      ∷ free
      ∷ free
      ∷ free
      ∷ leaf_slot (false ∷ []) 8 11 (key_of 0 0) (value_of 4)
      ∷ leaf_slot (true ∷ []) 8 11 (key_of 128 0) (value_of 1)
      ∷ inner_slot ([]) 8 11 8 h30 8 h31 1 1
      ∷ free
      ∷ free
      ∷ free
      ∷ free
      ∷ free
      ∷ free
      ∷ free
      ∷ free
      ∷ free
      ∷ free
      ∷ free
      ∷ free
      ∷ free
      ∷ free
      ∷ [])

  abbrev at23 : Store
  at23 =
      store_of 2 8
      (free
      ∷ free
      ∷ free
      ∷ free
      ∷ [])

  abbrev at24 : Store
  at24 =
      store_of 11 12
      (leaf_slot ([]) 9 12 (key_of 192 0) (value_of 1)
      ∷ leaf_slot ([]) 12 0 (key_of 192 0) (value_of 3)
      ∷ free
      ∷ free
      ∷ [])

  abbrev at25 : Store
  at25 =
      store_of 8 13
      (leaf_slot ([]) 8 13 (key_of 64 0) (value_of 3)
      ∷ leaf_slot ([]) 14 0 (key_of 64 0) (value_of 3)
      ∷ free
      ∷ free
      ∷ free
      ∷ free
      ∷ free
      ∷ free
      ∷ free
      ∷ free
      ∷ free
      ∷ free
      ∷ free
      ∷ free
      ∷ free
      ∷ free
      ∷ free
      ∷ free
      ∷ free
      ∷ free
      ∷ free
      ∷ free
      ∷ free
      ∷ free
      ∷ [])

  abbrev at26 : Store
  at26 =
      store_of 0 5
      (leaf_slot ([]) 3 5 (key_of 128 0) (value_of 4)
      ∷ leaf_slot ([]) 5 0 (key_of 128 0) (value_of 4)
      ∷ free
      ∷ free
      ∷ [])

  abbrev at27 : Store
  at27 =
      store_of 1 6
      (spoilt_slot 5 (false ∷ true ∷ true ∷ false ∷ false ∷ false ∷ false ∷ true ∷ []) 1 0
      ∷ leaf_slot (false ∷ true ∷ true ∷ false ∷ true ∷ []) 1 0 (key_of 104 0) (value_of 1)
      ∷ inner_slot (false ∷ true ∷ true ∷ false ∷ []) 1 0 1 h32 1 h33 1 1
      ∷ inner_slot (false ∷ true ∷ true ∷ []) 1 0 1 h34 0 zeros 2 0
      ∷ inner_slot (false ∷ true ∷ []) 1 0 0 zeros 1 h35 0 2
      ∷ inner_slot (false ∷ []) 1 0 0 zeros 1 h36 0 2
      ∷ inner_slot ([]) 1 6 1 h37 0 zeros 2 0
      ∷ inner_slot ([]) 6 0 1 h37 0 zeros 0 2
      ∷ free
      ∷ free
      ∷ free
      ∷ free
      ∷ free
      ∷ free
      ∷ free
      ∷ free
      ∷ [])

  abbrev at28 : Store
  at28 =
      store_of 2 9
      (leaf_slot ([]) 4 5 (key_of 192 0) (value_of 1)
      ∷ leaf_slot (false ∷ []) 5 6 (key_of 64 0) (value_of 1)
      ∷ leaf_slot (true ∷ []) 5 6 (key_of 192 0) (value_of 1)
      ∷ inner_slot ([]) 5 6 5 h38 5 h23 1 1
      ∷ leaf_slot (false ∷ false ∷ []) 6 0 (key_of 8 0) (value_of 1)
      ∷ leaf_slot (false ∷ true ∷ []) 6 9 (key_of 64 0) (value_of 1)
      ∷ leaf_slot (true ∷ true ∷ false ∷ []) 6 0 (key_of 192 0) (value_of 1)
      ∷ leaf_slot (true ∷ true ∷ true ∷ []) 6 7 (key_of 254 0) (value_of 4)
      ∷ inner_slot (true ∷ true ∷ []) 6 7 6 h23 6 h39 1 1
      ∷ inner_slot (false ∷ []) 6 9 6 h27 6 h38 1 1
      ∷ inner_slot (true ∷ []) 6 7 0 zeros 6 h40 0 2
      ∷ inner_slot ([]) 6 7 6 h41 6 h42 2 2
      ∷ leaf_slot (true ∷ true ∷ true ∷ []) 7 0 (key_of 254 0) (value_of 3)
      ∷ inner_slot (true ∷ true ∷ []) 7 0 6 h23 7 h43 1 1
      ∷ inner_slot (true ∷ []) 7 0 0 zeros 7 h44 0 2
      ∷ inner_slot ([]) 7 8 6 h41 7 h45 2 2
      ∷ inner_slot ([]) 8 9 6 h41 7 h45 2 2
      ∷ leaf_slot (false ∷ true ∷ false ∷ []) 9 0 (key_of 64 0) (value_of 1)
      ∷ leaf_slot (false ∷ true ∷ true ∷ []) 9 0 (key_of 104 0) (value_of 2)
      ∷ inner_slot (false ∷ true ∷ []) 9 0 9 h38 9 h22 1 1
      ∷ inner_slot (false ∷ []) 9 0 6 h27 9 h46 1 2
      ∷ inner_slot ([]) 9 0 9 h47 7 h45 3 2
      ∷ free
      ∷ free
      ∷ [])

  abbrev at29 : Store
  at29 =
      store_of 4 4
      (spoilt_slot 0 ([]) 5 0
      ∷ free
      ∷ free
      ∷ leaf_slot ([]) 5 0 (key_of 128 0) (value_of 4)
      ∷ [])

  abbrev rows : List Position
  rows =
      position at0 2 1 (accepted 2) (accepted (grant (key_of 192 0) (value_of 2)))
      ∷ position at0 2 1 (accepted 2) (accepted (grant (key_of 192 0) (value_of 2)))
      ∷ position at0 2 2 (accepted 2) (refused 20)
      ∷ position at0 1 1 (accepted 1) (refused 20)
      ∷ position at0 2 2 (accepted 2) (refused 20)
      ∷ position at1 11 0 (accepted 0) (refused 20)
      ∷ position at1 11 0 (accepted 0) (refused 20)
      ∷ position at1 9 0 (accepted 0) (refused 20)
      ∷ position at1 1 0 (accepted 0) (refused 20)
      ∷ position at1 4 0 (accepted 1) (accepted (grant (key_of 254 0) (value_of 3)))
      ∷ position at2 3 1 (accepted 1) (refused 20)
      ∷ position at2 3 1 (accepted 1) (refused 20)
      ∷ position at2 3 1 (accepted 1) (refused 20)
      ∷ position at2 3 0 (accepted 1) (accepted (grant (key_of 255 0) (value_of 3)))
      ∷ position at2 3 1 (accepted 1) (refused 20)
      ∷ position at3 4 0 (accepted 0) (refused 20)
      ∷ position at3 6 0 (accepted 0) (refused 20)
      ∷ position at3 6 0 (accepted 0) (refused 20)
      ∷ position at3 6 0 (accepted 0) (refused 20)
      ∷ position at3 6 0 (accepted 0) (refused 20)
      ∷ position at4 12 1 (accepted 1) (refused 20)
      ∷ position at4 12 0 (accepted 1) (accepted (grant (key_of 8 0) (value_of 1)))
      ∷ position at4 5 0 (accepted 0) (refused 20)
      ∷ position at4 12 0 (accepted 1) (accepted (grant (key_of 8 0) (value_of 1)))
      ∷ position at4 12 0 (accepted 1) (accepted (grant (key_of 8 0) (value_of 1)))
      ∷ position at5 2 1 (accepted 1) (refused 20)
      ∷ position at5 0 0 (accepted 0) (refused 20)
      ∷ position at5 2 0 (accepted 1) (accepted (grant (key_of 104 0) (value_of 2)))
      ∷ position at5 1 0 (accepted 1) (accepted (grant (key_of 104 0) (value_of 4)))
      ∷ position at5 1 0 (accepted 1) (accepted (grant (key_of 104 0) (value_of 4)))
      ∷ position at6 12 0 (accepted 1) (accepted (grant (key_of 128 0) (value_of 2)))
      ∷ position at6 11 0 (accepted 1) (accepted (grant (key_of 128 0) (value_of 2)))
      ∷ position at6 12 0 (accepted 1) (accepted (grant (key_of 128 0) (value_of 2)))
      ∷ position at6 10 1 (accepted 1) (refused 20)
      ∷ position at6 9 0 (refused 8) (refused 8)
      ∷ position at7 6 0 (refused 8) (refused 8)
      ∷ position at7 5 0 (accepted 3) (accepted (grant (key_of 8 0) (value_of 3)))
      ∷ position at7 5 1 (accepted 3) (refused 17)
      ∷ position at7 6 1 (refused 8) (refused 8)
      ∷ position at7 5 0 (accepted 3) (accepted (grant (key_of 8 0) (value_of 3)))
      ∷ position at8 9 0 (accepted 1) (accepted (grant (key_of 104 0) (value_of 2)))
      ∷ position at8 7 1 (accepted 1) (refused 20)
      ∷ position at8 6 0 (accepted 1) (accepted (grant (key_of 104 0) (value_of 2)))
      ∷ position at8 7 1 (accepted 1) (refused 20)
      ∷ position at8 8 0 (accepted 1) (accepted (grant (key_of 104 0) (value_of 2)))
      ∷ position at9 3 0 (accepted 0) (refused 20)
      ∷ position at9 3 0 (accepted 0) (refused 20)
      ∷ position at9 1 0 (accepted 0) (refused 20)
      ∷ position at9 2 0 (accepted 0) (refused 20)
      ∷ position at9 3 0 (accepted 0) (refused 20)
      ∷ position at10 4294967295 1 (accepted 1) (refused 20)
      ∷ position at10 4294967295 1 (accepted 1) (refused 20)
      ∷ position at10 4294967293 0 (accepted 0) (refused 20)
      ∷ position at10 4294967295 0 (accepted 1) (accepted (grant (key_of 16 0) (value_of 3)))
      ∷ position at10 4294967292 2 (refused 8) (refused 8)
      ∷ position at11 2 2 (accepted 2) (refused 20)
      ∷ position at11 2 1 (accepted 2) (accepted (grant (key_of 128 0) (value_of 3)))
      ∷ position at11 2 2 (accepted 2) (refused 20)
      ∷ position at11 2 2 (accepted 2) (refused 20)
      ∷ position at11 2 1 (accepted 2) (accepted (grant (key_of 128 0) (value_of 3)))
      ∷ position at12 4 0 (accepted 3) (accepted (grant (key_of 8 0) (value_of 2)))
      ∷ position at12 4 1 (accepted 3) (accepted (grant (key_of 96 0) (value_of 4)))
      ∷ position at12 4 3 (accepted 3) (refused 20)
      ∷ position at12 4 1 (accepted 3) (accepted (grant (key_of 96 0) (value_of 4)))
      ∷ position at12 4 2 (accepted 3) (accepted (grant (key_of 192 0) (value_of 4)))
      ∷ position at13 13 1 (accepted 1) (refused 20)
      ∷ position at13 9 1 (accepted 1) (refused 20)
      ∷ position at13 14 0 (accepted 0) (refused 20)
      ∷ position at13 11 1 (accepted 1) (refused 20)
      ∷ position at13 14 0 (accepted 0) (refused 20)
      ∷ position at14 20 2 (accepted 3) (accepted (grant (key_of 192 0) (value_of 2)))
      ∷ position at14 16 2 (accepted 4) (accepted (grant (key_of 96 0) (value_of 1)))
      ∷ position at14 7 0 (refused 8) (refused 8)
      ∷ position at14 20 2 (accepted 3) (accepted (grant (key_of 192 0) (value_of 2)))
      ∷ position at14 21 1 (refused 8) (refused 8)
      ∷ position at15 2 1 (accepted 2) (accepted (grant (key_of 192 0) (value_of 1)))
      ∷ position at15 2 0 (accepted 2) (accepted (grant (key_of 104 0) (value_of 2)))
      ∷ position at15 2 2 (accepted 2) (refused 20)
      ∷ position at15 0 0 (accepted 0) (refused 20)
      ∷ position at15 1 0 (accepted 0) (refused 20)
      ∷ position at16 15 1 (accepted 2) (accepted (grant (key_of 255 0) (value_of 2)))
      ∷ position at16 15 0 (accepted 2) (accepted (grant (key_of 96 0) (value_of 1)))
      ∷ position at16 15 0 (accepted 2) (accepted (grant (key_of 96 0) (value_of 1)))
      ∷ position at16 0 0 (accepted 0) (refused 20)
      ∷ position at16 15 2 (accepted 2) (refused 20)
      ∷ position at17 2 2 (accepted 2) (refused 20)
      ∷ position at17 1 0 (accepted 0) (refused 20)
      ∷ position at17 2 0 (accepted 2) (accepted (grant (key_of 8 0) (value_of 1)))
      ∷ position at17 1 0 (accepted 0) (refused 20)
      ∷ position at17 2 1 (accepted 2) (accepted (grant (key_of 254 0) (value_of 1)))
      ∷ position at18 16 0 (accepted 2) (accepted (grant (key_of 96 0) (value_of 1)))
      ∷ position at18 16 0 (accepted 2) (accepted (grant (key_of 96 0) (value_of 1)))
      ∷ position at18 16 1 (accepted 2) (accepted (grant (key_of 192 0) (value_of 2)))
      ∷ position at18 16 2 (accepted 2) (refused 20)
      ∷ position at18 16 1 (accepted 2) (accepted (grant (key_of 192 0) (value_of 2)))
      ∷ position at19 6 1 (refused 8589934595) (refused 8589934595)
      ∷ position at19 6 0 (refused 8589934595) (refused 8589934595)
      ∷ position at19 6 2 (refused 8589934595) (refused 8589934595)
      ∷ position at19 6 2 (refused 8589934595) (refused 8589934595)
      ∷ position at19 6 0 (refused 8589934595) (refused 8589934595)
      ∷ position at20 2 1 (accepted 1) (refused 20)
      ∷ position at20 2 0 (accepted 1) (accepted (grant (key_of 254 0) (value_of 2)))
      ∷ position at20 1 0 (accepted 0) (refused 20)
      ∷ position at20 2 0 (accepted 1) (accepted (grant (key_of 254 0) (value_of 2)))
      ∷ position at20 3 1 (refused 8) (refused 8)
      ∷ position at21 3 0 (accepted 0) (refused 20)
      ∷ position at21 4 1 (accepted 1) (refused 20)
      ∷ position at21 1 2 (refused 8) (refused 8)
      ∷ position at21 4 1 (accepted 1) (refused 20)
      ∷ position at21 4 1 (accepted 1) (refused 20)
      ∷ position at22 10 0 (accepted 2) (accepted (grant (key_of 0 0) (value_of 4)))
      ∷ position at22 8 2 (refused 8) (refused 8)
      ∷ position at22 16 0 (accepted 1) (accepted (grant (key_of 128 0) (value_of 3)))
      ∷ position at22 16 0 (accepted 1) (accepted (grant (key_of 128 0) (value_of 3)))
      ∷ position at22 16 1 (accepted 1) (refused 20)
      ∷ position at23 8 0 (accepted 0) (refused 20)
      ∷ position at23 8 0 (accepted 0) (refused 20)
      ∷ position at23 8 0 (accepted 0) (refused 20)
      ∷ position at23 6 0 (accepted 0) (refused 20)
      ∷ position at23 1 0 (refused 8) (refused 8)
      ∷ position at24 11 0 (accepted 1) (accepted (grant (key_of 192 0) (value_of 1)))
      ∷ position at24 12 0 (accepted 1) (accepted (grant (key_of 192 0) (value_of 3)))
      ∷ position at24 12 0 (accepted 1) (accepted (grant (key_of 192 0) (value_of 3)))
      ∷ position at24 12 0 (accepted 1) (accepted (grant (key_of 192 0) (value_of 3)))
      ∷ position at24 12 0 (accepted 1) (accepted (grant (key_of 192 0) (value_of 3)))
      ∷ position at25 13 0 (accepted 0) (refused 20)
      ∷ position at25 13 0 (accepted 0) (refused 20)
      ∷ position at25 9 0 (accepted 1) (accepted (grant (key_of 64 0) (value_of 3)))
      ∷ position at25 10 0 (accepted 1) (accepted (grant (key_of 64 0) (value_of 3)))
      ∷ position at25 11 0 (accepted 1) (accepted (grant (key_of 64 0) (value_of 3)))
      ∷ position at26 4 0 (accepted 1) (accepted (grant (key_of 128 0) (value_of 4)))
      ∷ position at26 5 0 (accepted 1) (accepted (grant (key_of 128 0) (value_of 4)))
      ∷ position at26 2 0 (accepted 0) (refused 20)
      ∷ position at26 4 1 (accepted 1) (refused 20)
      ∷ position at26 5 1 (accepted 1) (refused 20)
      ∷ position at27 1 1 (accepted 2) (accepted (grant (key_of 104 0) (value_of 1)))
      ∷ position at27 5 2 (accepted 2) (refused 20)
      ∷ position at27 6 1 (accepted 2) (refused 3)
      ∷ position at27 6 2 (accepted 2) (refused 20)
      ∷ position at27 6 1 (accepted 2) (refused 3)
      ∷ position at28 10 1 (refused 8) (refused 8)
      ∷ position at28 3 0 (accepted 0) (refused 20)
      ∷ position at28 5 1 (accepted 2) (accepted (grant (key_of 192 0) (value_of 1)))
      ∷ position at28 7 3 (accepted 4) (accepted (grant (key_of 254 0) (value_of 3)))
      ∷ position at28 9 1 (accepted 5) (accepted (grant (key_of 64 0) (value_of 1)))
      ∷ position at29 4 0 (accepted 0) (refused 20)
      ∷ position at29 4 0 (accepted 0) (refused 20)
      ∷ position at29 4 0 (accepted 0) (refused 20)
      ∷ position at29 4 0 (accepted 0) (refused 20)
      ∷ position at29 4 0 (accepted 0) (refused 20)
      ∷ []

  pub positions2 : All PositionHolds rows
  unfolding computed
  positions2 = ((refl, refl), ((refl, refl), ((refl, refl), ((refl, refl), ((refl, refl), ((refl, refl), ((refl, refl), ((refl, refl), ((refl, refl), ((refl, refl), ((refl, refl), ((refl, refl), ((refl, refl), ((refl, refl), ((refl, refl), ((refl, refl), ((refl, refl), ((refl, refl), ((refl, refl), ((refl, refl), ((refl, refl), ((refl, refl), ((refl, refl), ((refl, refl), ((refl, refl), ((refl, refl), ((refl, refl), ((refl, refl), ((refl, refl), ((refl, refl), ((refl, refl), ((refl, refl), ((refl, refl), ((refl, refl), ((refl, refl), ((refl, refl), ((refl, refl), ((refl, refl), ((refl, refl), ((refl, refl), ((refl, refl), ((refl, refl), ((refl, refl), ((refl, refl), ((refl, refl), ((refl, refl), ((refl, refl), ((refl, refl), ((refl, refl), ((refl, refl), ((refl, refl), ((refl, refl), ((refl, refl), ((refl, refl), ((refl, refl), ((refl, refl), ((refl, refl), ((refl, refl), ((refl, refl), ((refl, refl), ((refl, refl), ((refl, refl), ((refl, refl), ((refl, refl), ((refl, refl), ((refl, refl), ((refl, refl), ((refl, refl), ((refl, refl), ((refl, refl), ((refl, refl), ((refl, refl), ((refl, refl), ((refl, refl), ((refl, refl), ((refl, refl), ((refl, refl), ((refl, refl), ((refl, refl), ((refl, refl), ((refl, refl), ((refl, refl), ((refl, refl), ((refl, refl), ((refl, refl), ((refl, refl), ((refl, refl), ((refl, refl), ((refl, refl), ((refl, refl), ((refl, refl), ((refl, refl), ((refl, refl), ((refl, refl), ((refl, refl), ((refl, refl), ((refl, refl), ((refl, refl), ((refl, refl), ((refl, refl), ((refl, refl), ((refl, refl), ((refl, refl), ((refl, refl), ((refl, refl), ((refl, refl), ((refl, refl), ((refl, refl), ((refl, refl), ((refl, refl), ((refl, refl), ((refl, refl), ((refl, refl), ((refl, refl), ((refl, refl), ((refl, refl), ((refl, refl), ((refl, refl), ((refl, refl), ((refl, refl), ((refl, refl), ((refl, refl), ((refl, refl), ((refl, refl), ((refl, refl), ((refl, refl), ((refl, refl), ((refl, refl), ((refl, refl), ((refl, refl), ((refl, refl), ((refl, refl), ((refl, refl), ((refl, refl), ((refl, refl), ((refl, refl), ((refl, refl), ((refl, refl), ((refl, refl), ((refl, refl), ((refl, refl), ((refl, refl), ((refl, refl), ((refl, refl), ((refl, refl), ((refl, refl), ((refl, refl), ((refl, refl), ((refl, refl), ((refl, refl), tt))))))))))))))))))))))))))))))))))))))))))))))))))))))))))))))))))))))))))))))))))))))))))))))))))))))))))))))))))))))))))))))))))))))))))))))))))))))
