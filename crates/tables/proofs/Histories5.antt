-- Random histories, part 5. Written by tests/tables/generate.py; compared with a second reading of document 01, 2026-07 and 2026-13. Assumes nothing.
use mathlib.Core.Path.{◌≡◌, refl}
use mathlib.Core.Bool.{true, false}
use mathlib.Core.List.{List, [], ◌∷◌}
use mathlib.Core.Option.{none, some}
use Rattle.terms.specs.Bits.{Bytes, All}
use Rattle.terms.specs.Records.{insert, delete, free, Store, presence, zeros}
use Rattle.meaning.specs.Computed.{computed}
use Rattle.meaning.specs.Calls.{refused, accepted}
use Rattle.meaning.specs.Desk.{key_of}
use Rattle.meaning.specs.Proving.{step, presence_of, absence_of}
use Rattle.meaning.specs.Reading.{present, absent}
use Rattle.tables.specs.Tables.{Game, game, GameHolds, applying, pruning, made, freed, denied, leaf_slot, inner_slot, store_of, free_slots, value_of}

module _ (leaf_hash inner_hash : Bytes → Bytes → Bytes) where
  abbrev h0 : Bytes
  h0 = leaf_hash (key_of 128 0) (value_of 4)

  abbrev h1 : Bytes
  h1 = leaf_hash (key_of 254 0) (value_of 4)

  abbrev h2 : Bytes
  h2 = inner_hash h0 h1

  abbrev h3 : Bytes
  h3 = inner_hash zeros h2

  abbrev h4 : Bytes
  h4 = leaf_hash (key_of 64 0) (value_of 2)

  abbrev h5 : Bytes
  h5 = leaf_hash (key_of 144 0) (value_of 2)

  abbrev h6 : Bytes
  h6 = leaf_hash (key_of 192 0) (value_of 4)

  abbrev h7 : Bytes
  h7 = leaf_hash (key_of 128 0) (value_of 1)

  abbrev h8 : Bytes
  h8 = leaf_hash (key_of 16 0) (value_of 1)

  abbrev h9 : Bytes
  h9 = leaf_hash (key_of 192 0) (value_of 2)

  abbrev h10 : Bytes
  h10 = inner_hash h8 h9

  abbrev h11 : Bytes
  h11 = leaf_hash (key_of 64 0) (value_of 3)

  abbrev h12 : Bytes
  h12 = leaf_hash (key_of 255 0) (value_of 4)

  abbrev h13 : Bytes
  h13 = leaf_hash (key_of 16 0) (value_of 4)

  abbrev h14 : Bytes
  h14 = inner_hash h11 h12

  abbrev h15 : Bytes
  h15 = leaf_hash (key_of 254 0) (value_of 2)

  abbrev h16 : Bytes
  h16 = leaf_hash (key_of 255 0) (value_of 3)

  abbrev h17 : Bytes
  h17 = leaf_hash (key_of 104 0) (value_of 4)

  abbrev h18 : Bytes
  h18 = inner_hash h17 h0

  abbrev h19 : Bytes
  h19 = leaf_hash (key_of 0 0) (value_of 2)

  abbrev h20 : Bytes
  h20 = leaf_hash (key_of 8 0) (value_of 1)

  abbrev h21 : Bytes
  h21 = inner_hash h19 h20

  abbrev h22 : Bytes
  h22 = inner_hash h21 zeros

  abbrev h23 : Bytes
  h23 = inner_hash h22 zeros

  abbrev h24 : Bytes
  h24 = leaf_hash (key_of 104 0) (value_of 3)

  abbrev h25 : Bytes
  h25 = inner_hash h23 h24

  abbrev h26 : Bytes
  h26 = inner_hash h25 zeros

  abbrev h27 : Bytes
  h27 = leaf_hash (key_of 0 0) (value_of 3)

  abbrev h28 : Bytes
  h28 = leaf_hash (key_of 64 0) (value_of 4)

  abbrev h29 : Bytes
  h29 = inner_hash h27 h28

  abbrev h30 : Bytes
  h30 = leaf_hash (key_of 8 0) (value_of 2)

  abbrev h31 : Bytes
  h31 = inner_hash h29 zeros

  abbrev h32 : Bytes
  h32 = leaf_hash (key_of 192 0) (value_of 3)

  abbrev h33 : Bytes
  h33 = leaf_hash (key_of 8 0) (value_of 3)

  abbrev h34 : Bytes
  h34 = inner_hash h33 h5

  abbrev h35 : Bytes
  h35 = leaf_hash (key_of 104 0) (value_of 2)

  abbrev h36 : Bytes
  h36 = inner_hash h35 h5

  abbrev h37 : Bytes
  h37 = leaf_hash (key_of 144 0) (value_of 1)

  abbrev h38 : Bytes
  h38 = leaf_hash (key_of 128 0) (value_of 2)

  abbrev h39 : Bytes
  h39 = inner_hash h38 h37

  abbrev h40 : Bytes
  h40 = inner_hash h39 zeros

  abbrev h41 : Bytes
  h41 = inner_hash h40 zeros

  abbrev h42 : Bytes
  h42 = inner_hash h7 h37

  abbrev h43 : Bytes
  h43 = inner_hash h42 zeros

  abbrev h44 : Bytes
  h44 = inner_hash h43 zeros

  abbrev h45 : Bytes
  h45 = leaf_hash (key_of 144 0) (value_of 3)

  abbrev h46 : Bytes
  h46 = inner_hash h0 h45

  abbrev h47 : Bytes
  h47 = inner_hash h46 zeros

  abbrev h48 : Bytes
  h48 = inner_hash h47 zeros

  abbrev h49 : Bytes
  h49 = inner_hash h28 h37

  abbrev h50 : Bytes
  h50 = inner_hash h28 h41

  abbrev h51 : Bytes
  h51 = inner_hash zeros h44

  abbrev h52 : Bytes
  h52 = inner_hash h4 h0

  abbrev h53 : Bytes
  h53 = inner_hash h4 h48

  abbrev h54 : Bytes
  h54 = inner_hash zeros h48

  abbrev h55 : Bytes
  h55 = leaf_hash (key_of 0 0) (value_of 1)

  abbrev h56 : Bytes
  h56 = inner_hash h55 h12

  abbrev h57 : Bytes
  h57 = leaf_hash (key_of 96 0) (value_of 3)

  abbrev h58 : Bytes
  h58 = leaf_hash (key_of 192 0) (value_of 1)

  abbrev h59 : Bytes
  h59 = inner_hash h57 h58

  abbrev h60 : Bytes
  h60 = inner_hash h57 h9

  abbrev h61 : Bytes
  h61 = leaf_hash (key_of 96 0) (value_of 1)

  abbrev h62 : Bytes
  h62 = leaf_hash (key_of 255 0) (value_of 1)

  abbrev h63 : Bytes
  h63 = leaf_hash (key_of 255 0) (value_of 2)

  abbrev h64 : Bytes
  h64 = inner_hash h61 h62

  abbrev h65 : Bytes
  h65 = leaf_hash (key_of 8 0) (value_of 4)

  abbrev h66 : Bytes
  h66 = leaf_hash (key_of 128 0) (value_of 3)

  abbrev h67 : Bytes
  h67 = inner_hash h20 h7

  abbrev h68 : Bytes
  h68 = inner_hash h20 h0

  abbrev h69 : Bytes
  h69 = inner_hash h65 h66

  abbrev h70 : Bytes
  h70 = leaf_hash (key_of 144 0) (value_of 4)

  abbrev h71 : Bytes
  h71 = inner_hash h70 h32

  abbrev h72 : Bytes
  h72 = inner_hash h65 h58

  abbrev h73 : Bytes
  h73 = inner_hash h65 h71

  abbrev h74 : Bytes
  h74 = inner_hash h20 h37

  abbrev h75 : Bytes
  h75 = inner_hash h33 h37

  abbrev h76 : Bytes
  h76 = leaf_hash (key_of 0 0) (value_of 4)

  abbrev h77 : Bytes
  h77 = inner_hash h0 h16

  abbrev h78 : Bytes
  h78 = inner_hash h76 h77

  abbrev h79 : Bytes
  h79 = inner_hash h76 h0

  abbrev h80 : Bytes
  h80 = leaf_hash (key_of 16 0) (value_of 2)

  abbrev h81 : Bytes
  h81 = leaf_hash (key_of 254 0) (value_of 3)

  abbrev h82 : Bytes
  h82 = inner_hash h80 h81

  abbrev h83 : Bytes
  h83 = leaf_hash (key_of 254 0) (value_of 1)

  abbrev h84 : Bytes
  h84 = inner_hash h70 h83

  abbrev h85 : Bytes
  h85 = inner_hash zeros h84

  abbrev h86 : Bytes
  h86 = inner_hash h55 h84

  abbrev h87 : Bytes
  h87 = inner_hash h19 h84

  abbrev end0 : Store
  end0 =
      store_of 1 2
      (leaf_slot ([]) 1 2 (key_of 254 0) (value_of 4)
      ∷ leaf_slot (true ∷ false ∷ []) 2 0 (key_of 128 0) (value_of 4)
      ∷ leaf_slot (true ∷ true ∷ []) 2 0 (key_of 254 0) (value_of 4)
      ∷ inner_slot (true ∷ []) 2 0 2 h0 2 h1 1 1
      ∷ inner_slot ([]) 2 0 0 zeros 2 h2 0 2
      ∷ free
      ∷ free
      ∷ free
      ∷ free
      ∷ free
      ∷ free
      ∷ free
      ∷ free
      ∷ free
      ∷ free
      ∷ free
      ∷ free
      ∷ free
      ∷ free
      ∷ free
      ∷ free
      ∷ free
      ∷ free
      ∷ free
      ∷ [])

  abbrev end1 : Store
  end1 =
      store_of 0 14
      (leaf_slot ([]) 2 3 (key_of 64 0) (value_of 2)
      ∷ leaf_slot ([]) 3 6 (key_of 64 0) (value_of 2)
      ∷ leaf_slot ([]) 6 11 (key_of 64 0) (value_of 2)
      ∷ leaf_slot ([]) 11 12 (key_of 144 0) (value_of 2)
      ∷ leaf_slot ([]) 12 13 (key_of 144 0) (value_of 2)
      ∷ leaf_slot ([]) 13 14 (key_of 192 0) (value_of 4)
      ∷ leaf_slot ([]) 14 0 (key_of 128 0) (value_of 1)
      ∷ free
      ∷ [])

  abbrev end2 : Store
  end2 =
      store_of 4294967294 4294967295
      (leaf_slot ([]) 4294967294 4294967295 (key_of 16 0) (value_of 1)
      ∷ leaf_slot (false ∷ []) 4294967295 0 (key_of 16 0) (value_of 1)
      ∷ leaf_slot (true ∷ []) 4294967295 0 (key_of 192 0) (value_of 2)
      ∷ inner_slot ([]) 4294967295 0 4294967295 h8 4294967295 h9 1 1
      ∷ free
      ∷ free
      ∷ free
      ∷ free
      ∷ free
      ∷ free
      ∷ free
      ∷ free
      ∷ [])

  abbrev end3 : Store
  end3 =
      store_of 6 6
      (free
      ∷ leaf_slot (false ∷ []) 6 0 (key_of 64 0) (value_of 3)
      ∷ leaf_slot (true ∷ []) 6 0 (key_of 255 0) (value_of 4)
      ∷ inner_slot ([]) 6 0 6 h11 6 h12 1 1
      ∷ [])

  abbrev end4 : Store
  end4 =
      store_of 0 8
      (leaf_slot ([]) 2 5 (key_of 254 0) (value_of 2)
      ∷ leaf_slot ([]) 6 7 (key_of 255 0) (value_of 3)
      ∷ free
      ∷ free
      ∷ free
      ∷ free
      ∷ free
      ∷ free
      ∷ free
      ∷ free
      ∷ free
      ∷ free
      ∷ free
      ∷ free
      ∷ free
      ∷ free
      ∷ free
      ∷ free
      ∷ free
      ∷ free
      ∷ free
      ∷ free
      ∷ free
      ∷ free
      ∷ [])

  abbrev end5 : Store
  end5 =
      store_of 4294967293 4294967295
      (leaf_slot (false ∷ []) 4294967294 0 (key_of 104 0) (value_of 4)
      ∷ leaf_slot (true ∷ []) 4294967294 0 (key_of 128 0) (value_of 4)
      ∷ inner_slot ([]) 4294967294 4294967295 4294967294 h17 4294967294 h0 1 1
      ∷ inner_slot ([]) 4294967295 0 4294967294 h17 4294967294 h0 1 1
      ∷ free
      ∷ free
      ∷ free
      ∷ free
      ∷ [])

  abbrev end6 : Store
  end6 =
      store_of 0 1
      (free
      ∷ free
      ∷ free
      ∷ free
      ∷ free
      ∷ free
      ∷ free
      ∷ free
      ∷ free
      ∷ free
      ∷ free
      ∷ free
      ∷ [])

  abbrev end7 : Store
  end7 =
      store_of 0 1
      (leaf_slot (false ∷ false ∷ false ∷ false ∷ false ∷ []) 1 0 (key_of 0 0) (value_of 2)
      ∷ leaf_slot (false ∷ false ∷ false ∷ false ∷ true ∷ []) 1 0 (key_of 8 0) (value_of 1)
      ∷ inner_slot (false ∷ false ∷ false ∷ false ∷ []) 1 0 1 h19 1 h20 1 1
      ∷ inner_slot (false ∷ false ∷ false ∷ []) 1 0 1 h21 0 zeros 2 0
      ∷ inner_slot (false ∷ false ∷ []) 1 0 1 h22 0 zeros 2 0
      ∷ leaf_slot (false ∷ true ∷ []) 1 0 (key_of 104 0) (value_of 3)
      ∷ inner_slot (false ∷ []) 1 0 1 h23 1 h24 2 1
      ∷ inner_slot ([]) 1 0 1 h25 0 zeros 3 0
      ∷ [])

  abbrev end8 : Store
  end8 =
      store_of 0 6
      (leaf_slot ([]) 1 3 (key_of 8 0) (value_of 2)
      ∷ leaf_slot ([]) 4 5 (key_of 64 0) (value_of 4)
      ∷ leaf_slot (false ∷ false ∷ []) 5 0 (key_of 0 0) (value_of 3)
      ∷ leaf_slot (false ∷ true ∷ []) 5 0 (key_of 64 0) (value_of 4)
      ∷ inner_slot (false ∷ []) 5 0 5 h27 5 h28 1 1
      ∷ inner_slot ([]) 5 6 5 h29 0 zeros 2 0
      ∷ inner_slot ([]) 6 0 5 h29 0 zeros 2 0
      ∷ free
      ∷ free
      ∷ free
      ∷ free
      ∷ free
      ∷ free
      ∷ free
      ∷ free
      ∷ free
      ∷ [])

  abbrev end9 : Store
  end9 =
      store_of 3 10
      (free
      ∷ leaf_slot ([]) 2 6 (key_of 192 0) (value_of 3)
      ∷ leaf_slot ([]) 6 10 (key_of 192 0) (value_of 3)
      ∷ leaf_slot ([]) 10 0 (key_of 192 0) (value_of 3)
      ∷ free
      ∷ free
      ∷ free
      ∷ free
      ∷ free
      ∷ free
      ∷ free
      ∷ free
      ∷ free
      ∷ free
      ∷ free
      ∷ free
      ∷ free
      ∷ free
      ∷ free
      ∷ free
      ∷ free
      ∷ free
      ∷ free
      ∷ free
      ∷ [])

  abbrev end10 : Store
  end10 =
      store_of 1 8
      (leaf_slot ([]) 4 8 (key_of 144 0) (value_of 2)
      ∷ leaf_slot (false ∷ []) 8 0 (key_of 8 0) (value_of 3)
      ∷ leaf_slot (true ∷ []) 8 0 (key_of 144 0) (value_of 2)
      ∷ inner_slot ([]) 8 0 8 h33 8 h5 1 1
      ∷ [])

  abbrev end11 : Store
  end11 =
      store_of 4294967293 4294967295
      (free
      ∷ free
      ∷ free
      ∷ free
      ∷ free
      ∷ free
      ∷ free
      ∷ free
      ∷ [])

  abbrev end12 : Store
  end12 =
      store_of 0 12
      (leaf_slot ([]) 1 6 (key_of 8 0) (value_of 1)
      ∷ leaf_slot ([]) 8 12 (key_of 8 0) (value_of 3)
      ∷ leaf_slot ([]) 12 0 (key_of 8 0) (value_of 3)
      ∷ free
      ∷ free
      ∷ free
      ∷ free
      ∷ free
      ∷ free
      ∷ free
      ∷ free
      ∷ free
      ∷ free
      ∷ free
      ∷ free
      ∷ free
      ∷ free
      ∷ free
      ∷ free
      ∷ free
      ∷ free
      ∷ free
      ∷ free
      ∷ free
      ∷ [])

  abbrev end13 : Store
  end13 =
      store_of 4 5
      (inner_slot ([]) 5 0 4 h35 4 h5 1 1
      ∷ leaf_slot (false ∷ []) 4 0 (key_of 104 0) (value_of 2)
      ∷ leaf_slot (true ∷ []) 4 0 (key_of 144 0) (value_of 2)
      ∷ inner_slot ([]) 4 5 4 h35 4 h5 1 1
      ∷ free
      ∷ free
      ∷ free
      ∷ free
      ∷ free
      ∷ free
      ∷ free
      ∷ free
      ∷ free
      ∷ free
      ∷ free
      ∷ free
      ∷ [])

  abbrev end14 : Store
  end14 =
      store_of 0 16
      (leaf_slot (false ∷ []) 1 9 (key_of 64 0) (value_of 4)
      ∷ leaf_slot (true ∷ []) 1 4 (key_of 144 0) (value_of 1)
      ∷ inner_slot ([]) 1 4 1 h28 1 h37 1 1
      ∷ leaf_slot (true ∷ false ∷ false ∷ false ∷ []) 4 9 (key_of 128 0) (value_of 2)
      ∷ leaf_slot (true ∷ false ∷ false ∷ true ∷ []) 4 11 (key_of 144 0) (value_of 1)
      ∷ inner_slot (true ∷ false ∷ false ∷ []) 4 9 4 h38 4 h37 1 1
      ∷ inner_slot (true ∷ false ∷ []) 4 9 4 h39 0 zeros 2 0
      ∷ inner_slot (true ∷ []) 4 9 4 h40 0 zeros 2 0
      ∷ inner_slot ([]) 4 9 1 h28 4 h41 1 2
      ∷ leaf_slot (true ∷ false ∷ false ∷ false ∷ []) 9 11 (key_of 128 0) (value_of 1)
      ∷ inner_slot (true ∷ false ∷ false ∷ []) 9 11 9 h7 4 h37 1 1
      ∷ inner_slot (true ∷ false ∷ []) 9 11 9 h42 0 zeros 2 0
      ∷ inner_slot (true ∷ []) 9 11 9 h43 0 zeros 2 0
      ∷ inner_slot ([]) 9 11 0 zeros 9 h44 0 2
      ∷ leaf_slot (false ∷ []) 11 16 (key_of 64 0) (value_of 2)
      ∷ leaf_slot (true ∷ []) 11 12 (key_of 128 0) (value_of 4)
      ∷ inner_slot ([]) 11 12 11 h4 11 h0 1 1
      ∷ leaf_slot (true ∷ false ∷ false ∷ false ∷ []) 12 0 (key_of 128 0) (value_of 4)
      ∷ leaf_slot (true ∷ false ∷ false ∷ true ∷ []) 12 0 (key_of 144 0) (value_of 3)
      ∷ inner_slot (true ∷ false ∷ false ∷ []) 12 0 12 h0 12 h45 1 1
      ∷ inner_slot (true ∷ false ∷ []) 12 0 12 h46 0 zeros 2 0
      ∷ inner_slot (true ∷ []) 12 0 12 h47 0 zeros 2 0
      ∷ inner_slot ([]) 12 16 11 h4 12 h48 1 2
      ∷ inner_slot ([]) 16 0 0 zeros 12 h48 0 2
      ∷ [])

  abbrev end15 : Store
  end15 =
      store_of 4 7
      (leaf_slot ([]) 3 6 (key_of 64 0) (value_of 3)
      ∷ leaf_slot ([]) 6 7 (key_of 64 0) (value_of 3)
      ∷ leaf_slot ([]) 7 0 (key_of 64 0) (value_of 3)
      ∷ free
      ∷ free
      ∷ free
      ∷ free
      ∷ free
      ∷ free
      ∷ free
      ∷ free
      ∷ free
      ∷ free
      ∷ free
      ∷ free
      ∷ free
      ∷ free
      ∷ free
      ∷ free
      ∷ free
      ∷ free
      ∷ free
      ∷ free
      ∷ free
      ∷ [])

  abbrev end16 : Store
  end16 =
      store_of 0 2
      (leaf_slot ([]) 1 2 (key_of 128 0) (value_of 2)
      ∷ leaf_slot ([]) 2 0 (key_of 128 0) (value_of 2)
      ∷ free
      ∷ free
      ∷ free
      ∷ free
      ∷ free
      ∷ free
      ∷ free
      ∷ free
      ∷ free
      ∷ free
      ∷ free
      ∷ free
      ∷ free
      ∷ free
      ∷ free
      ∷ free
      ∷ free
      ∷ free
      ∷ free
      ∷ free
      ∷ free
      ∷ free
      ∷ [])

  abbrev end17 : Store
  end17 =
      store_of 0 5
      (leaf_slot ([]) 1 4 (key_of 0 0) (value_of 1)
      ∷ leaf_slot (false ∷ []) 4 0 (key_of 0 0) (value_of 1)
      ∷ leaf_slot (true ∷ []) 4 0 (key_of 255 0) (value_of 4)
      ∷ inner_slot ([]) 4 5 4 h55 4 h12 1 1
      ∷ inner_slot ([]) 5 0 4 h55 4 h12 1 1
      ∷ free
      ∷ free
      ∷ free
      ∷ [])

  abbrev end18 : Store
  end18 =
      store_of 7 8
      (leaf_slot (true ∷ []) 7 8 (key_of 192 0) (value_of 2)
      ∷ leaf_slot (false ∷ []) 6 8 (key_of 96 0) (value_of 3)
      ∷ free
      ∷ free
      ∷ inner_slot ([]) 7 8 6 h57 7 h9 1 1
      ∷ leaf_slot ([]) 8 0 (key_of 192 0) (value_of 2)
      ∷ free
      ∷ free
      ∷ free
      ∷ free
      ∷ free
      ∷ free
      ∷ free
      ∷ free
      ∷ free
      ∷ free
      ∷ free
      ∷ free
      ∷ free
      ∷ free
      ∷ free
      ∷ free
      ∷ free
      ∷ free
      ∷ [])

  abbrev end19 : Store
  end19 =
      store_of 2 9
      (leaf_slot ([]) 6 9 (key_of 255 0) (value_of 2)
      ∷ leaf_slot (false ∷ []) 9 0 (key_of 96 0) (value_of 1)
      ∷ leaf_slot (true ∷ []) 9 0 (key_of 255 0) (value_of 1)
      ∷ inner_slot ([]) 9 0 9 h61 9 h62 1 1
      ∷ free
      ∷ free
      ∷ free
      ∷ free
      ∷ free
      ∷ free
      ∷ free
      ∷ free
      ∷ free
      ∷ free
      ∷ free
      ∷ free
      ∷ [])

  abbrev end20 : Store
  end20 =
      store_of 19 21
      (leaf_slot (false ∷ []) 21 0 (key_of 8 0) (value_of 4)
      ∷ leaf_slot (true ∷ []) 21 0 (key_of 128 0) (value_of 3)
      ∷ inner_slot ([]) 21 0 21 h65 21 h66 1 1
      ∷ free
      ∷ free
      ∷ leaf_slot ([]) 17 20 (key_of 8 0) (value_of 1)
      ∷ leaf_slot (false ∷ []) 20 21 (key_of 8 0) (value_of 1)
      ∷ leaf_slot (true ∷ []) 20 21 (key_of 128 0) (value_of 4)
      ∷ inner_slot ([]) 20 21 20 h20 20 h0 1 1
      ∷ free
      ∷ free
      ∷ free
      ∷ [])

  abbrev end21 : Store
  end21 =
      store_of 0 6
      (leaf_slot ([]) 4 5 (key_of 8 0) (value_of 2)
      ∷ leaf_slot (false ∷ []) 5 0 (key_of 8 0) (value_of 4)
      ∷ leaf_slot (true ∷ []) 5 6 (key_of 192 0) (value_of 1)
      ∷ inner_slot ([]) 5 6 5 h65 5 h58 1 1
      ∷ leaf_slot (true ∷ false ∷ []) 6 0 (key_of 144 0) (value_of 4)
      ∷ leaf_slot (true ∷ true ∷ []) 6 0 (key_of 192 0) (value_of 3)
      ∷ inner_slot (true ∷ []) 6 0 6 h70 6 h32 1 1
      ∷ inner_slot ([]) 6 0 5 h65 6 h71 1 2
      ∷ free
      ∷ free
      ∷ free
      ∷ free
      ∷ [])

  abbrev end22 : Store
  end22 =
      store_of 0 10
      (leaf_slot ([]) 2 3 (key_of 254 0) (value_of 2)
      ∷ leaf_slot ([]) 3 4 (key_of 254 0) (value_of 2)
      ∷ leaf_slot ([]) 4 9 (key_of 254 0) (value_of 2)
      ∷ leaf_slot ([]) 9 10 (key_of 254 0) (value_of 2)
      ∷ leaf_slot ([]) 10 0 (key_of 254 0) (value_of 2)
      ∷ free
      ∷ free
      ∷ free
      ∷ free
      ∷ free
      ∷ free
      ∷ free
      ∷ [])

  abbrev end23 : Store
  end23 =
      store_of 0 16
      (leaf_slot ([]) 6 10 (key_of 8 0) (value_of 1)
      ∷ leaf_slot ([]) 10 12 (key_of 8 0) (value_of 1)
      ∷ leaf_slot ([]) 12 13 (key_of 8 0) (value_of 1)
      ∷ leaf_slot (false ∷ []) 13 14 (key_of 8 0) (value_of 1)
      ∷ leaf_slot (true ∷ []) 13 16 (key_of 144 0) (value_of 1)
      ∷ inner_slot ([]) 13 14 13 h20 13 h37 1 1
      ∷ leaf_slot (false ∷ []) 14 16 (key_of 8 0) (value_of 3)
      ∷ inner_slot ([]) 14 15 14 h33 13 h37 1 1
      ∷ inner_slot ([]) 15 16 14 h33 13 h37 1 1
      ∷ leaf_slot ([]) 16 0 (key_of 8 0) (value_of 3)
      ∷ free
      ∷ free
      ∷ [])

  abbrev end24 : Store
  end24 =
      store_of 4294967295 4294967295
      (leaf_slot ([]) 4294967295 0 (key_of 192 0) (value_of 2)
      ∷ free
      ∷ free
      ∷ free
      ∷ free
      ∷ free
      ∷ free
      ∷ free
      ∷ [])

  abbrev end25 : Store
  end25 =
      store_of 1 3
      (free
      ∷ free
      ∷ free
      ∷ free
      ∷ free
      ∷ free
      ∷ free
      ∷ free
      ∷ free
      ∷ free
      ∷ free
      ∷ free
      ∷ [])

  abbrev end26 : Store
  end26 =
      store_of 0 3
      (leaf_slot ([]) 2 3 (key_of 128 0) (value_of 4)
      ∷ leaf_slot ([]) 3 0 (key_of 8 0) (value_of 1)
      ∷ free
      ∷ free
      ∷ free
      ∷ free
      ∷ free
      ∷ free
      ∷ free
      ∷ free
      ∷ free
      ∷ free
      ∷ free
      ∷ free
      ∷ free
      ∷ free
      ∷ [])

  abbrev end27 : Store
  end27 =
      store_of 0 5
      (leaf_slot (true ∷ false ∷ []) 3 4 (key_of 128 0) (value_of 4)
      ∷ leaf_slot (true ∷ true ∷ []) 3 4 (key_of 255 0) (value_of 3)
      ∷ leaf_slot (false ∷ []) 3 0 (key_of 0 0) (value_of 4)
      ∷ inner_slot (true ∷ []) 3 4 3 h0 3 h16 1 1
      ∷ inner_slot ([]) 3 4 3 h76 3 h77 1 2
      ∷ leaf_slot (true ∷ []) 4 0 (key_of 128 0) (value_of 4)
      ∷ inner_slot ([]) 4 5 3 h76 4 h0 1 1
      ∷ inner_slot ([]) 5 0 3 h76 4 h0 1 1
      ∷ free
      ∷ free
      ∷ free
      ∷ free
      ∷ [])

  abbrev end28 : Store
  end28 =
      store_of 3 12
      (leaf_slot (false ∷ []) 7 0 (key_of 16 0) (value_of 2)
      ∷ leaf_slot (true ∷ []) 7 0 (key_of 254 0) (value_of 3)
      ∷ inner_slot ([]) 7 12 7 h80 7 h81 1 1
      ∷ inner_slot ([]) 12 0 7 h80 7 h81 1 1
      ∷ [])

  abbrev end29 : Store
  end29 =
      store_of 4 5
      (leaf_slot (true ∷ false ∷ []) 1 0 (key_of 144 0) (value_of 4)
      ∷ leaf_slot (true ∷ true ∷ []) 1 0 (key_of 254 0) (value_of 1)
      ∷ inner_slot (true ∷ []) 1 0 1 h70 1 h83 1 1
      ∷ free
      ∷ leaf_slot (false ∷ []) 2 5 (key_of 0 0) (value_of 1)
      ∷ inner_slot ([]) 2 5 2 h55 1 h84 1 2
      ∷ leaf_slot (false ∷ []) 5 0 (key_of 0 0) (value_of 2)
      ∷ inner_slot ([]) 5 0 5 h19 1 h84 1 2
      ∷ free
      ∷ free
      ∷ free
      ∷ free
      ∷ free
      ∷ free
      ∷ free
      ∷ free
      ∷ [])

  abbrev rows : List Game
  rows =
      game (store_of 0 0 (free_slots 24))
      (applying 1 (insert (key_of 254 0) (value_of 4) ∷ []) ∷ applying 2 (insert (key_of 128 0) (value_of 4) ∷ insert (key_of 254 0) (value_of 4) ∷ []) ∷ pruning 1 ∷ pruning 0 ∷ [])
      (made 1 h1 1 ∷ made 2 h3 4 ∷ freed 0 ∷ denied 8 ∷ [])
      end0
      ∷ game (store_of 0 0 (free_slots 8))
      (applying 2 (insert (key_of 64 0) (value_of 2) ∷ delete (key_of 128 0) ∷ delete (key_of 192 0) ∷ delete (key_of 254 0) ∷ []) ∷ applying 3 ([]) ∷ applying 6 (delete (key_of 144 0) ∷ []) ∷ applying 11 (delete (key_of 64 0) ∷ insert (key_of 144 0) (value_of 2) ∷ delete (key_of 254 0) ∷ []) ∷ applying 12 (delete (key_of 254 0) ∷ []) ∷ applying 13 (insert (key_of 254 0) (value_of 2) ∷ []) ∷ applying 13 (delete (key_of 144 0) ∷ insert (key_of 192 0) (value_of 4) ∷ delete (key_of 254 0) ∷ []) ∷ applying 14 (insert (key_of 128 0) (value_of 1) ∷ delete (key_of 192 0) ∷ []) ∷ [])
      (made 2 h4 1 ∷ made 3 h4 1 ∷ made 6 h4 1 ∷ made 11 h5 1 ∷ made 12 h5 1 ∷ denied 7 ∷ made 13 h6 1 ∷ made 14 h7 1 ∷ [])
      end1
      ∷ game (store_of 4294967293 4294967293 (free_slots 12))
      (pruning 4294967293 ∷ applying 4294967294 (insert (key_of 16 0) (value_of 1) ∷ []) ∷ applying 4294967295 (insert (key_of 192 0) (value_of 2) ∷ []) ∷ pruning 4294967294 ∷ applying 1428507252 (insert (key_of 96 0) (value_of 1) ∷ []) ∷ applying 4294967295 (delete (key_of 144 0) ∷ insert (key_of 192 0) (value_of 2) ∷ []) ∷ applying 4294967295 (insert (key_of 192 0) (value_of 3) ∷ []) ∷ [])
      (freed 0 ∷ made 4294967294 h8 1 ∷ made 4294967295 h10 3 ∷ freed 0 ∷ denied 18 ∷ denied 18 ∷ denied 18 ∷ [])
      end2
      ∷ game (store_of 0 0 (free_slots 4))
      (pruning 1 ∷ applying 3 (delete (key_of 64 0) ∷ delete (key_of 128 0) ∷ []) ∷ applying 4 (insert (key_of 16 0) (value_of 4) ∷ []) ∷ applying 5 (delete (key_of 16 0) ∷ delete (key_of 104 0) ∷ delete (key_of 128 0) ∷ []) ∷ applying 4 (delete (key_of 128 0) ∷ delete (key_of 254 0) ∷ delete (key_of 255 0) ∷ []) ∷ applying 6 (insert (key_of 254 0) (value_of 2) ∷ insert (key_of 255 0) (value_of 1) ∷ []) ∷ applying 6 (insert (key_of 64 0) (value_of 3) ∷ delete (key_of 128 0) ∷ insert (key_of 255 0) (value_of 4) ∷ []) ∷ applying 7 ([]) ∷ applying 7 (insert (key_of 104 0) (value_of 1) ∷ []) ∷ pruning 6 ∷ [])
      (denied 8 ∷ made 3 zeros 0 ∷ made 4 h13 1 ∷ made 5 zeros 0 ∷ denied 18 ∷ denied 7 ∷ made 6 h14 3 ∷ denied 7 ∷ denied 7 ∷ freed 1 ∷ [])
      end3
      ∷ game (store_of 0 0 (free_slots 24))
      (applying 1 (delete (key_of 254 0) ∷ delete (key_of 255 0) ∷ []) ∷ applying 2 (insert (key_of 254 0) (value_of 2) ∷ []) ∷ applying 5 (delete (key_of 254 0) ∷ []) ∷ applying 6 (insert (key_of 255 0) (value_of 3) ∷ []) ∷ applying 7 (delete (key_of 254 0) ∷ delete (key_of 255 0) ∷ []) ∷ applying 8 (delete (key_of 255 0) ∷ []) ∷ [])
      (made 1 zeros 0 ∷ made 2 h15 1 ∷ made 5 zeros 0 ∷ made 6 h16 1 ∷ made 7 zeros 0 ∷ made 8 zeros 0 ∷ [])
      end4
      ∷ game (store_of 4294967293 4294967293 (free_slots 8))
      (applying 4294967294 (insert (key_of 104 0) (value_of 4) ∷ insert (key_of 128 0) (value_of 4) ∷ []) ∷ applying 4294967295 ([]) ∷ applying 4294967295 (delete (key_of 96 0) ∷ insert (key_of 104 0) (value_of 2) ∷ delete (key_of 128 0) ∷ insert (key_of 254 0) (value_of 1) ∷ []) ∷ applying 2296369008 (insert (key_of 128 0) (value_of 3) ∷ delete (key_of 254 0) ∷ []) ∷ applying 4294967295 (delete (key_of 96 0) ∷ insert (key_of 254 0) (value_of 2) ∷ []) ∷ [])
      (made 4294967294 h18 3 ∷ made 4294967295 h18 1 ∷ denied 18 ∷ denied 18 ∷ denied 18 ∷ [])
      end5
      ∷ game (store_of 0 0 (free_slots 12))
      (pruning 0 ∷ applying 0 (insert (key_of 144 0) (value_of 2) ∷ delete (key_of 255 0) ∷ []) ∷ applying 1 (delete (key_of 144 0) ∷ []) ∷ applying 1 (delete (key_of 64 0) ∷ []) ∷ [])
      (freed 0 ∷ denied 18 ∷ made 1 zeros 0 ∷ denied 18 ∷ [])
      end6
      ∷ game (store_of 0 0 (free_slots 8))
      (applying 0 (delete (key_of 64 0) ∷ []) ∷ applying 1 (insert (key_of 0 0) (value_of 2) ∷ insert (key_of 8 0) (value_of 1) ∷ insert (key_of 104 0) (value_of 3) ∷ []) ∷ applying 1 (insert (key_of 0 0) (value_of 2) ∷ delete (key_of 64 0) ∷ []) ∷ applying 4 (insert (key_of 128 0) (value_of 3) ∷ []) ∷ applying 3 (insert (key_of 8 0) (value_of 3) ∷ delete (key_of 64 0) ∷ insert (key_of 96 0) (value_of 4) ∷ []) ∷ [])
      (denied 18 ∷ made 1 h26 8 ∷ denied 18 ∷ denied 7 ∷ denied 7 ∷ [])
      end7
      ∷ game (store_of 0 0 (free_slots 16))
      (pruning 1 ∷ pruning 0 ∷ applying 1 (insert (key_of 8 0) (value_of 2) ∷ []) ∷ applying 3 (delete (key_of 8 0) ∷ delete (key_of 64 0) ∷ []) ∷ pruning 0 ∷ applying 4 (insert (key_of 64 0) (value_of 4) ∷ []) ∷ applying 5 (insert (key_of 0 0) (value_of 3) ∷ []) ∷ applying 6 (delete (key_of 254 0) ∷ []) ∷ [])
      (denied 8 ∷ freed 0 ∷ made 1 h30 1 ∷ made 3 zeros 0 ∷ freed 0 ∷ made 4 h28 1 ∷ made 5 h31 4 ∷ made 6 h31 1 ∷ [])
      end8
      ∷ game (store_of 0 0 (free_slots 24))
      (applying 1 (insert (key_of 192 0) (value_of 3) ∷ []) ∷ applying 2 (delete (key_of 254 0) ∷ []) ∷ applying 6 (delete (key_of 254 0) ∷ []) ∷ applying 10 ([]) ∷ pruning 0 ∷ pruning 3 ∷ [])
      (made 1 h32 1 ∷ made 2 h32 1 ∷ made 6 h32 1 ∷ made 10 h32 1 ∷ freed 0 ∷ freed 1 ∷ [])
      end9
      ∷ game (store_of 0 0 (free_slots 4))
      (applying 4 (delete (key_of 8 0) ∷ insert (key_of 144 0) (value_of 2) ∷ []) ∷ applying 8 (insert (key_of 8 0) (value_of 3) ∷ []) ∷ pruning 0 ∷ applying 4 (insert (key_of 144 0) (value_of 3) ∷ insert (key_of 192 0) (value_of 3) ∷ []) ∷ applying 9 (delete (key_of 96 0) ∷ []) ∷ applying 9 (insert (key_of 8 0) (value_of 4) ∷ delete (key_of 144 0) ∷ []) ∷ pruning 1 ∷ applying 12 ([]) ∷ pruning 9 ∷ applying 9 (insert (key_of 192 0) (value_of 3) ∷ []) ∷ [])
      (made 4 h5 1 ∷ made 8 h34 3 ∷ freed 0 ∷ denied 18 ∷ denied 7 ∷ denied 7 ∷ freed 0 ∷ denied 7 ∷ denied 8 ∷ denied 7 ∷ [])
      end10
      ∷ game (store_of 4294967293 4294967293 (free_slots 8))
      (pruning 4294967293 ∷ pruning 4294967293 ∷ pruning 4294967292 ∷ applying 4294967294 ([]) ∷ applying 4294967295 ([]) ∷ applying 4294967295 ([]) ∷ applying 4294967295 (insert (key_of 254 0) (value_of 2) ∷ []) ∷ applying 4294967295 (insert (key_of 96 0) (value_of 1) ∷ insert (key_of 255 0) (value_of 4) ∷ []) ∷ [])
      (freed 0 ∷ freed 0 ∷ denied 8 ∷ made 4294967294 zeros 0 ∷ made 4294967295 zeros 0 ∷ denied 18 ∷ denied 18 ∷ denied 18 ∷ [])
      end11
      ∷ game (store_of 0 0 (free_slots 24))
      (applying 1 (insert (key_of 8 0) (value_of 1) ∷ delete (key_of 254 0) ∷ []) ∷ applying 6 (delete (key_of 8 0) ∷ delete (key_of 254 0) ∷ []) ∷ applying 8 (insert (key_of 8 0) (value_of 3) ∷ []) ∷ pruning 9 ∷ applying 12 (insert (key_of 8 0) (value_of 3) ∷ []) ∷ [])
      (made 1 h20 1 ∷ made 6 zeros 0 ∷ made 8 h33 1 ∷ denied 8 ∷ made 12 h33 1 ∷ [])
      end12
      ∷ game (store_of 0 0 (free_slots 16))
      (applying 1 (delete (key_of 8 0) ∷ delete (key_of 104 0) ∷ insert (key_of 144 0) (value_of 2) ∷ []) ∷ pruning 0 ∷ applying 4 (insert (key_of 104 0) (value_of 2) ∷ []) ∷ pruning 4 ∷ applying 5 (insert (key_of 144 0) (value_of 2) ∷ []) ∷ pruning 3 ∷ [])
      (made 1 h5 1 ∷ freed 0 ∷ made 4 h36 3 ∷ freed 1 ∷ made 5 h36 1 ∷ denied 8 ∷ [])
      end13
      ∷ game (store_of 0 0 (free_slots 24))
      (applying 1 (insert (key_of 64 0) (value_of 4) ∷ insert (key_of 144 0) (value_of 1) ∷ []) ∷ applying 4 (insert (key_of 64 0) (value_of 4) ∷ insert (key_of 128 0) (value_of 2) ∷ []) ∷ applying 9 (delete (key_of 64 0) ∷ insert (key_of 128 0) (value_of 1) ∷ []) ∷ applying 11 (insert (key_of 64 0) (value_of 2) ∷ insert (key_of 128 0) (value_of 4) ∷ delete (key_of 144 0) ∷ []) ∷ applying 12 (insert (key_of 128 0) (value_of 4) ∷ insert (key_of 144 0) (value_of 3) ∷ []) ∷ applying 16 (delete (key_of 64 0) ∷ insert (key_of 144 0) (value_of 3) ∷ []) ∷ [])
      (made 1 h49 3 ∷ made 4 h50 6 ∷ made 9 h51 5 ∷ made 11 h52 3 ∷ made 12 h53 6 ∷ made 16 h54 1 ∷ [])
      end14
      ∷ game (store_of 0 0 (free_slots 24))
      (pruning 0 ∷ applying 3 (delete (key_of 16 0) ∷ insert (key_of 64 0) (value_of 3) ∷ delete (key_of 192 0) ∷ []) ∷ applying 6 ([]) ∷ pruning 4 ∷ applying 7 (delete (key_of 16 0) ∷ []) ∷ pruning 3 ∷ [])
      (freed 0 ∷ made 3 h11 1 ∷ made 6 h11 1 ∷ freed 0 ∷ made 7 h11 1 ∷ denied 8 ∷ [])
      end15
      ∷ game (store_of 0 0 (free_slots 24))
      (pruning 0 ∷ applying 1 (delete (key_of 64 0) ∷ insert (key_of 128 0) (value_of 2) ∷ []) ∷ pruning 2 ∷ applying 2 (delete (key_of 192 0) ∷ []) ∷ [])
      (freed 0 ∷ made 1 h38 1 ∷ denied 8 ∷ made 2 h38 1 ∷ [])
      end16
      ∷ game (store_of 0 0 (free_slots 8))
      (applying 1 (insert (key_of 0 0) (value_of 1) ∷ delete (key_of 104 0) ∷ []) ∷ applying 4 (insert (key_of 255 0) (value_of 4) ∷ []) ∷ applying 5 (insert (key_of 0 0) (value_of 1) ∷ []) ∷ applying 6 (delete (key_of 192 0) ∷ insert (key_of 254 0) (value_of 4) ∷ []) ∷ applying 6 (insert (key_of 104 0) (value_of 2) ∷ []) ∷ [])
      (made 1 h55 1 ∷ made 4 h56 3 ∷ made 5 h56 1 ∷ denied 7 ∷ denied 7 ∷ [])
      end17
      ∷ game (store_of 0 0 (free_slots 24))
      (applying 5 (insert (key_of 96 0) (value_of 3) ∷ []) ∷ applying 6 (insert (key_of 192 0) (value_of 1) ∷ []) ∷ pruning 6 ∷ applying 7 (insert (key_of 192 0) (value_of 2) ∷ []) ∷ applying 8 (delete (key_of 96 0) ∷ []) ∷ pruning 7 ∷ pruning 9 ∷ [])
      (made 5 h57 1 ∷ made 6 h59 3 ∷ freed 1 ∷ made 7 h60 2 ∷ made 8 h9 1 ∷ freed 2 ∷ denied 8 ∷ [])
      end18
      ∷ game (store_of 0 0 (free_slots 16))
      (applying 4 (delete (key_of 96 0) ∷ []) ∷ applying 0 (insert (key_of 255 0) (value_of 2) ∷ []) ∷ applying 6 (delete (key_of 96 0) ∷ insert (key_of 255 0) (value_of 2) ∷ []) ∷ pruning 2 ∷ applying 9 (insert (key_of 96 0) (value_of 1) ∷ delete (key_of 104 0) ∷ insert (key_of 255 0) (value_of 1) ∷ []) ∷ [])
      (made 4 zeros 0 ∷ denied 18 ∷ made 6 h63 1 ∷ freed 0 ∷ made 9 h64 3 ∷ [])
      end19
      ∷ game (store_of 0 0 (free_slots 12))
      (applying 2 (delete (key_of 8 0) ∷ delete (key_of 128 0) ∷ []) ∷ applying 4 (insert (key_of 8 0) (value_of 1) ∷ []) ∷ applying 9 (insert (key_of 128 0) (value_of 1) ∷ []) ∷ applying 12 (insert (key_of 8 0) (value_of 1) ∷ insert (key_of 128 0) (value_of 1) ∷ []) ∷ applying 17 (insert (key_of 8 0) (value_of 1) ∷ delete (key_of 128 0) ∷ []) ∷ applying 20 (insert (key_of 128 0) (value_of 4) ∷ []) ∷ pruning 17 ∷ applying 21 (insert (key_of 8 0) (value_of 4) ∷ insert (key_of 128 0) (value_of 3) ∷ []) ∷ pruning 19 ∷ [])
      (made 2 zeros 0 ∷ made 4 h20 1 ∷ made 9 h67 3 ∷ made 12 h67 1 ∷ made 17 h20 1 ∷ made 20 h68 3 ∷ freed 5 ∷ made 21 h69 3 ∷ freed 0 ∷ [])
      end20
      ∷ game (store_of 0 0 (free_slots 12))
      (pruning 0 ∷ applying 4 (insert (key_of 8 0) (value_of 2) ∷ []) ∷ applying 5 (insert (key_of 8 0) (value_of 4) ∷ delete (key_of 144 0) ∷ insert (key_of 192 0) (value_of 1) ∷ []) ∷ applying 6 (insert (key_of 144 0) (value_of 4) ∷ insert (key_of 192 0) (value_of 3) ∷ []) ∷ [])
      (freed 0 ∷ made 4 h30 1 ∷ made 5 h72 3 ∷ made 6 h73 4 ∷ [])
      end21
      ∷ game (store_of 0 0 (free_slots 12))
      (pruning 1 ∷ applying 1 ([]) ∷ pruning 0 ∷ applying 2 (delete (key_of 104 0) ∷ delete (key_of 128 0) ∷ insert (key_of 254 0) (value_of 2) ∷ []) ∷ applying 3 ([]) ∷ applying 4 (delete (key_of 104 0) ∷ []) ∷ applying 9 (delete (key_of 104 0) ∷ []) ∷ applying 10 (delete (key_of 128 0) ∷ []) ∷ [])
      (denied 8 ∷ made 1 zeros 0 ∷ freed 0 ∷ made 2 h15 1 ∷ made 3 h15 1 ∷ made 4 h15 1 ∷ made 9 h15 1 ∷ made 10 h15 1 ∷ [])
      end22
      ∷ game (store_of 0 0 (free_slots 12))
      (applying 5 (delete (key_of 144 0) ∷ delete (key_of 192 0) ∷ []) ∷ applying 6 (insert (key_of 8 0) (value_of 1) ∷ delete (key_of 192 0) ∷ []) ∷ applying 10 (delete (key_of 192 0) ∷ []) ∷ applying 12 (delete (key_of 96 0) ∷ []) ∷ applying 13 (insert (key_of 144 0) (value_of 1) ∷ []) ∷ applying 14 (insert (key_of 8 0) (value_of 3) ∷ insert (key_of 144 0) (value_of 1) ∷ []) ∷ applying 15 (delete (key_of 96 0) ∷ []) ∷ applying 16 (delete (key_of 144 0) ∷ []) ∷ [])
      (made 5 zeros 0 ∷ made 6 h20 1 ∷ made 10 h20 1 ∷ made 12 h20 1 ∷ made 13 h74 3 ∷ made 14 h75 2 ∷ made 15 h75 1 ∷ made 16 h33 1 ∷ [])
      end23
      ∷ game (store_of 4294967293 4294967293 (free_slots 8))
      (applying 4294967294 ([]) ∷ pruning 4294967292 ∷ pruning 4294967294 ∷ applying 2616371386 (delete (key_of 16 0) ∷ delete (key_of 104 0) ∷ []) ∷ applying 4294967295 (insert (key_of 192 0) (value_of 2) ∷ []) ∷ pruning 4294967296 ∷ applying 4294967295 ([]) ∷ pruning 4294967295 ∷ [])
      (made 4294967294 zeros 0 ∷ denied 8 ∷ freed 0 ∷ denied 18 ∷ made 4294967295 h9 1 ∷ denied 8 ∷ denied 18 ∷ freed 0 ∷ [])
      end24
      ∷ game (store_of 0 0 (free_slots 12))
      (applying 0 (insert (key_of 8 0) (value_of 3) ∷ delete (key_of 16 0) ∷ insert (key_of 96 0) (value_of 4) ∷ []) ∷ applying 3 ([]) ∷ pruning 1 ∷ applying 0 (insert (key_of 254 0) (value_of 4) ∷ []) ∷ [])
      (denied 18 ∷ made 3 zeros 0 ∷ freed 0 ∷ denied 18 ∷ [])
      end25
      ∷ game (store_of 0 0 (free_slots 16))
      (applying 1 ([]) ∷ applying 2 (insert (key_of 128 0) (value_of 4) ∷ []) ∷ applying 3 (insert (key_of 8 0) (value_of 1) ∷ delete (key_of 128 0) ∷ []) ∷ pruning 0 ∷ [])
      (made 1 zeros 0 ∷ made 2 h0 1 ∷ made 3 h20 1 ∷ freed 0 ∷ [])
      end26
      ∷ game (store_of 0 0 (free_slots 12))
      (applying 1 ([]) ∷ applying 2 ([]) ∷ applying 3 (insert (key_of 0 0) (value_of 4) ∷ insert (key_of 128 0) (value_of 4) ∷ insert (key_of 255 0) (value_of 3) ∷ []) ∷ applying 4 (insert (key_of 128 0) (value_of 4) ∷ delete (key_of 255 0) ∷ []) ∷ applying 5 (delete (key_of 255 0) ∷ []) ∷ [])
      (made 1 zeros 0 ∷ made 2 zeros 0 ∷ made 3 h78 5 ∷ made 4 h79 2 ∷ made 5 h79 1 ∷ [])
      end27
      ∷ game (store_of 0 0 (free_slots 4))
      (applying 1 ([]) ∷ applying 2 (delete (key_of 254 0) ∷ delete (key_of 255 0) ∷ []) ∷ pruning 2 ∷ applying 7 (insert (key_of 16 0) (value_of 2) ∷ insert (key_of 254 0) (value_of 3) ∷ delete (key_of 255 0) ∷ []) ∷ applying 12 (insert (key_of 16 0) (value_of 2) ∷ []) ∷ applying 17 ([]) ∷ pruning 2 ∷ applying 13 (insert (key_of 254 0) (value_of 3) ∷ []) ∷ pruning 3 ∷ applying 17 (delete (key_of 16 0) ∷ insert (key_of 254 0) (value_of 3) ∷ delete (key_of 255 0) ∷ []) ∷ [])
      (made 1 zeros 0 ∷ made 2 zeros 0 ∷ freed 0 ∷ made 7 h82 3 ∷ made 12 h82 1 ∷ denied 7 ∷ freed 0 ∷ denied 7 ∷ freed 0 ∷ denied 7 ∷ [])
      end28
      ∷ game (store_of 0 0 (free_slots 16))
      (applying 1 (insert (key_of 144 0) (value_of 4) ∷ insert (key_of 254 0) (value_of 1) ∷ []) ∷ applying 2 (insert (key_of 0 0) (value_of 1) ∷ []) ∷ applying 5 (insert (key_of 0 0) (value_of 2) ∷ []) ∷ pruning 4 ∷ [])
      (made 1 h85 4 ∷ made 2 h86 2 ∷ made 5 h87 2 ∷ freed 1 ∷ [])
      end29
      ∷ []

  pub histories5 : All (GameHolds leaf_hash inner_hash) rows
  unfolding computed
  histories5 = ((refl, refl), ((refl, refl), ((refl, refl), ((refl, refl), ((refl, refl), ((refl, refl), ((refl, refl), ((refl, refl), ((refl, refl), ((refl, refl), ((refl, refl), ((refl, refl), ((refl, refl), ((refl, refl), ((refl, refl), ((refl, refl), ((refl, refl), ((refl, refl), ((refl, refl), ((refl, refl), ((refl, refl), ((refl, refl), ((refl, refl), ((refl, refl), ((refl, refl), ((refl, refl), ((refl, refl), ((refl, refl), ((refl, refl), ((refl, refl), tt))))))))))))))))))))))))))))))
