-- Random histories, part 4. Written by tests/tables/generate.py; compared with a second reading of document 01, 2026-07 and 2026-13. Assumes nothing.
use mathlib.Core.Path.{◌≡◌, refl}
use mathlib.Core.Bool.{true, false}
use mathlib.Core.List.{List, [], ◌∷◌}
use mathlib.Core.Option.{none, some}
use Rattle.terms.specs.Bits.{Bytes, All}
use Rattle.terms.specs.Records.{insert, delete, free, Store, presence, zeros}
use Rattle.meaning.specs.Computed.{computed}
use Rattle.meaning.specs.Calls.{refused, accepted}
use Rattle.meaning.specs.Desk.{key_of}
use Rattle.meaning.specs.Proving.{step, presence_of, absence_of}
use Rattle.meaning.specs.Reading.{present, absent}
use Rattle.tables.specs.Tables.{Game, game, GameHolds, applying, pruning, made, freed, denied, leaf_slot, inner_slot, store_of, free_slots, value_of}

module _ (leaf_hash inner_hash : Bytes → Bytes → Bytes) where
  abbrev h0 : Bytes
  h0 = leaf_hash (key_of 0 0) (value_of 4)

  abbrev h1 : Bytes
  h1 = leaf_hash (key_of 144 0) (value_of 4)

  abbrev h2 : Bytes
  h2 = leaf_hash (key_of 144 0) (value_of 2)

  abbrev h3 : Bytes
  h3 = inner_hash h0 h1

  abbrev h4 : Bytes
  h4 = inner_hash h0 h2

  abbrev h5 : Bytes
  h5 = leaf_hash (key_of 128 0) (value_of 3)

  abbrev h6 : Bytes
  h6 = leaf_hash (key_of 128 0) (value_of 1)

  abbrev h7 : Bytes
  h7 = leaf_hash (key_of 192 0) (value_of 4)

  abbrev h8 : Bytes
  h8 = inner_hash h6 h7

  abbrev h9 : Bytes
  h9 = inner_hash zeros h8

  abbrev h10 : Bytes
  h10 = leaf_hash (key_of 104 0) (value_of 2)

  abbrev h11 : Bytes
  h11 = inner_hash h0 h10

  abbrev h12 : Bytes
  h12 = leaf_hash (key_of 104 0) (value_of 1)

  abbrev h13 : Bytes
  h13 = inner_hash h0 h12

  abbrev h14 : Bytes
  h14 = leaf_hash (key_of 8 0) (value_of 3)

  abbrev h15 : Bytes
  h15 = inner_hash h0 h14

  abbrev h16 : Bytes
  h16 = inner_hash h15 zeros

  abbrev h17 : Bytes
  h17 = inner_hash h16 zeros

  abbrev h18 : Bytes
  h18 = inner_hash h17 zeros

  abbrev h19 : Bytes
  h19 = inner_hash h11 zeros

  abbrev h20 : Bytes
  h20 = inner_hash h13 zeros

  abbrev h21 : Bytes
  h21 = inner_hash h18 zeros

  abbrev h22 : Bytes
  h22 = leaf_hash (key_of 8 0) (value_of 2)

  abbrev h23 : Bytes
  h23 = leaf_hash (key_of 192 0) (value_of 1)

  abbrev h24 : Bytes
  h24 = leaf_hash (key_of 96 0) (value_of 1)

  abbrev h25 : Bytes
  h25 = inner_hash h22 h24

  abbrev h26 : Bytes
  h26 = leaf_hash (key_of 96 0) (value_of 3)

  abbrev h27 : Bytes
  h27 = leaf_hash (key_of 192 0) (value_of 2)

  abbrev h28 : Bytes
  h28 = inner_hash h22 h23

  abbrev h29 : Bytes
  h29 = inner_hash h25 h23

  abbrev h30 : Bytes
  h30 = inner_hash h26 h27

  abbrev h31 : Bytes
  h31 = leaf_hash (key_of 255 0) (value_of 3)

  abbrev h32 : Bytes
  h32 = inner_hash h0 h22

  abbrev h33 : Bytes
  h33 = inner_hash h32 zeros

  abbrev h34 : Bytes
  h34 = inner_hash h33 zeros

  abbrev h35 : Bytes
  h35 = inner_hash h34 zeros

  abbrev h36 : Bytes
  h36 = inner_hash h22 h31

  abbrev h37 : Bytes
  h37 = inner_hash h35 h31

  abbrev h38 : Bytes
  h38 = leaf_hash (key_of 104 0) (value_of 3)

  abbrev h39 : Bytes
  h39 = leaf_hash (key_of 255 0) (value_of 1)

  abbrev h40 : Bytes
  h40 = leaf_hash (key_of 16 0) (value_of 4)

  abbrev h41 : Bytes
  h41 = inner_hash h40 h38

  abbrev h42 : Bytes
  h42 = leaf_hash (key_of 16 0) (value_of 1)

  abbrev h43 : Bytes
  h43 = inner_hash h42 h38

  abbrev h44 : Bytes
  h44 = inner_hash h41 zeros

  abbrev h45 : Bytes
  h45 = inner_hash h43 zeros

  abbrev h46 : Bytes
  h46 = leaf_hash (key_of 0 0) (value_of 1)

  abbrev h47 : Bytes
  h47 = inner_hash h46 h12

  abbrev h48 : Bytes
  h48 = inner_hash h47 h27

  abbrev h49 : Bytes
  h49 = leaf_hash (key_of 16 0) (value_of 3)

  abbrev h50 : Bytes
  h50 = leaf_hash (key_of 254 0) (value_of 1)

  abbrev h51 : Bytes
  h51 = leaf_hash (key_of 144 0) (value_of 3)

  abbrev h52 : Bytes
  h52 = leaf_hash (key_of 254 0) (value_of 3)

  abbrev h53 : Bytes
  h53 = inner_hash h51 h52

  abbrev h54 : Bytes
  h54 = leaf_hash (key_of 16 0) (value_of 2)

  abbrev h55 : Bytes
  h55 = inner_hash h49 h50

  abbrev h56 : Bytes
  h56 = inner_hash h49 h53

  abbrev h57 : Bytes
  h57 = leaf_hash (key_of 64 0) (value_of 4)

  abbrev h58 : Bytes
  h58 = inner_hash h57 h12

  abbrev h59 : Bytes
  h59 = inner_hash zeros h58

  abbrev h60 : Bytes
  h60 = inner_hash h59 h23

  abbrev h61 : Bytes
  h61 = leaf_hash (key_of 128 0) (value_of 2)

  abbrev h62 : Bytes
  h62 = leaf_hash (key_of 254 0) (value_of 2)

  abbrev h63 : Bytes
  h63 = inner_hash h22 h62

  abbrev h64 : Bytes
  h64 = leaf_hash (key_of 0 0) (value_of 3)

  abbrev h65 : Bytes
  h65 = inner_hash h64 h10

  abbrev h66 : Bytes
  h66 = leaf_hash (key_of 192 0) (value_of 3)

  abbrev h67 : Bytes
  h67 = leaf_hash (key_of 255 0) (value_of 2)

  abbrev h68 : Bytes
  h68 = leaf_hash (key_of 255 0) (value_of 4)

  abbrev h69 : Bytes
  h69 = leaf_hash (key_of 0 0) (value_of 2)

  abbrev h70 : Bytes
  h70 = inner_hash h69 h38

  abbrev h71 : Bytes
  h71 = inner_hash h65 h66

  abbrev h72 : Bytes
  h72 = inner_hash h65 zeros

  abbrev h73 : Bytes
  h73 = inner_hash h65 h67

  abbrev h74 : Bytes
  h74 = inner_hash h65 h68

  abbrev h75 : Bytes
  h75 = inner_hash h10 h68

  abbrev h76 : Bytes
  h76 = inner_hash h70 zeros

  abbrev h77 : Bytes
  h77 = inner_hash h14 h49

  abbrev h78 : Bytes
  h78 = inner_hash h77 zeros

  abbrev h79 : Bytes
  h79 = inner_hash h78 zeros

  abbrev h80 : Bytes
  h80 = leaf_hash (key_of 8 0) (value_of 4)

  abbrev h81 : Bytes
  h81 = inner_hash h79 zeros

  abbrev h82 : Bytes
  h82 = leaf_hash (key_of 144 0) (value_of 1)

  abbrev h83 : Bytes
  h83 = inner_hash h82 h68

  abbrev h84 : Bytes
  h84 = inner_hash zeros h83

  abbrev h85 : Bytes
  h85 = inner_hash h82 h39

  abbrev h86 : Bytes
  h86 = inner_hash zeros h85

  abbrev h87 : Bytes
  h87 = inner_hash h24 h85

  abbrev h88 : Bytes
  h88 = inner_hash h22 h51

  abbrev h89 : Bytes
  h89 = leaf_hash (key_of 96 0) (value_of 2)

  abbrev h90 : Bytes
  h90 = leaf_hash (key_of 96 0) (value_of 4)

  abbrev h91 : Bytes
  h91 = inner_hash h82 h52

  abbrev h92 : Bytes
  h92 = inner_hash h57 h91

  abbrev h93 : Bytes
  h93 = leaf_hash (key_of 104 0) (value_of 4)

  abbrev h94 : Bytes
  h94 = leaf_hash (key_of 128 0) (value_of 4)

  abbrev h95 : Bytes
  h95 = inner_hash h93 h5

  abbrev h96 : Bytes
  h96 = inner_hash h93 h94

  abbrev h97 : Bytes
  h97 = inner_hash h24 h39

  abbrev h98 : Bytes
  h98 = inner_hash h80 h66

  abbrev h99 : Bytes
  h99 = inner_hash h80 h7

  abbrev h100 : Bytes
  h100 = inner_hash h80 h23

  abbrev end0 : Store
  end0 =
      store_of 7 17
      (leaf_slot (false ∷ []) 4 17 (key_of 0 0) (value_of 4)
      ∷ leaf_slot (true ∷ []) 4 14 (key_of 144 0) (value_of 4)
      ∷ inner_slot ([]) 4 9 4 h0 4 h1 1 1
      ∷ inner_slot ([]) 9 14 4 h0 4 h1 1 1
      ∷ leaf_slot (true ∷ []) 14 17 (key_of 144 0) (value_of 2)
      ∷ inner_slot ([]) 14 16 4 h0 14 h2 1 1
      ∷ inner_slot ([]) 16 17 4 h0 14 h2 1 1
      ∷ leaf_slot ([]) 17 0 (key_of 0 0) (value_of 4)
      ∷ free
      ∷ free
      ∷ free
      ∷ free
      ∷ free
      ∷ free
      ∷ free
      ∷ free
      ∷ [])

  abbrev end1 : Store
  end1 =
      store_of 1 2
      (leaf_slot ([]) 2 0 (key_of 128 0) (value_of 3)
      ∷ free
      ∷ free
      ∷ free
      ∷ free
      ∷ free
      ∷ free
      ∷ free
      ∷ [])

  abbrev end2 : Store
  end2 =
      store_of 0 6
      (leaf_slot ([]) 3 4 (key_of 128 0) (value_of 1)
      ∷ leaf_slot ([]) 4 6 (key_of 128 0) (value_of 1)
      ∷ leaf_slot (true ∷ false ∷ []) 6 0 (key_of 128 0) (value_of 1)
      ∷ leaf_slot (true ∷ true ∷ []) 6 0 (key_of 192 0) (value_of 4)
      ∷ inner_slot (true ∷ []) 6 0 6 h6 6 h7 1 1
      ∷ inner_slot ([]) 6 0 0 zeros 6 h8 0 2
      ∷ free
      ∷ free
      ∷ [])

  abbrev end3 : Store
  end3 =
      store_of 3 7
      (leaf_slot ([]) 4 5 (key_of 104 0) (value_of 2)
      ∷ leaf_slot (false ∷ false ∷ []) 5 7 (key_of 0 0) (value_of 4)
      ∷ leaf_slot (false ∷ true ∷ []) 5 6 (key_of 104 0) (value_of 2)
      ∷ inner_slot (false ∷ []) 5 6 5 h0 5 h10 1 1
      ∷ inner_slot ([]) 5 6 5 h11 0 zeros 2 0
      ∷ leaf_slot (false ∷ true ∷ []) 6 7 (key_of 104 0) (value_of 1)
      ∷ inner_slot (false ∷ []) 6 7 5 h0 6 h12 1 1
      ∷ inner_slot ([]) 6 7 6 h13 0 zeros 2 0
      ∷ leaf_slot (false ∷ false ∷ false ∷ false ∷ false ∷ []) 7 0 (key_of 0 0) (value_of 4)
      ∷ leaf_slot (false ∷ false ∷ false ∷ false ∷ true ∷ []) 7 0 (key_of 8 0) (value_of 3)
      ∷ inner_slot (false ∷ false ∷ false ∷ false ∷ []) 7 0 7 h0 7 h14 1 1
      ∷ inner_slot (false ∷ false ∷ false ∷ []) 7 0 7 h15 0 zeros 2 0
      ∷ inner_slot (false ∷ false ∷ []) 7 0 7 h16 0 zeros 2 0
      ∷ inner_slot (false ∷ []) 7 0 7 h17 0 zeros 2 0
      ∷ inner_slot ([]) 7 0 7 h18 0 zeros 2 0
      ∷ free
      ∷ [])

  abbrev end4 : Store
  end4 =
      store_of 0 4
      (leaf_slot (false ∷ []) 2 3 (key_of 8 0) (value_of 2)
      ∷ leaf_slot (true ∷ []) 2 4 (key_of 192 0) (value_of 1)
      ∷ inner_slot ([]) 2 3 2 h22 2 h23 1 1
      ∷ leaf_slot (false ∷ false ∷ []) 3 4 (key_of 8 0) (value_of 2)
      ∷ leaf_slot (false ∷ true ∷ []) 3 4 (key_of 96 0) (value_of 1)
      ∷ inner_slot (false ∷ []) 3 4 3 h22 3 h24 1 1
      ∷ inner_slot ([]) 3 4 3 h25 2 h23 2 1
      ∷ leaf_slot (false ∷ []) 4 0 (key_of 96 0) (value_of 3)
      ∷ leaf_slot (true ∷ []) 4 0 (key_of 192 0) (value_of 2)
      ∷ inner_slot ([]) 4 0 4 h26 4 h27 1 1
      ∷ free
      ∷ free
      ∷ [])

  abbrev end5 : Store
  end5 =
      store_of 3 12
      (leaf_slot (false ∷ false ∷ false ∷ false ∷ false ∷ []) 12 0 (key_of 0 0) (value_of 4)
      ∷ leaf_slot ([]) 2 7 (key_of 8 0) (value_of 2)
      ∷ leaf_slot ([]) 7 11 (key_of 8 0) (value_of 2)
      ∷ leaf_slot (false ∷ []) 11 12 (key_of 8 0) (value_of 2)
      ∷ leaf_slot (true ∷ []) 11 0 (key_of 255 0) (value_of 3)
      ∷ inner_slot ([]) 11 12 11 h22 11 h31 1 1
      ∷ leaf_slot (false ∷ false ∷ false ∷ false ∷ true ∷ []) 12 0 (key_of 8 0) (value_of 2)
      ∷ inner_slot (false ∷ false ∷ false ∷ false ∷ []) 12 0 12 h0 12 h22 1 1
      ∷ inner_slot (false ∷ false ∷ false ∷ []) 12 0 12 h32 0 zeros 2 0
      ∷ inner_slot (false ∷ false ∷ []) 12 0 12 h33 0 zeros 2 0
      ∷ inner_slot (false ∷ []) 12 0 12 h34 0 zeros 2 0
      ∷ inner_slot ([]) 12 0 12 h35 11 h31 2 1
      ∷ [])

  abbrev end6 : Store
  end6 =
      store_of 1 2
      (leaf_slot ([]) 1 2 (key_of 104 0) (value_of 3)
      ∷ leaf_slot ([]) 2 0 (key_of 104 0) (value_of 3)
      ∷ free
      ∷ free
      ∷ free
      ∷ free
      ∷ free
      ∷ free
      ∷ free
      ∷ free
      ∷ free
      ∷ free
      ∷ free
      ∷ free
      ∷ free
      ∷ free
      ∷ free
      ∷ free
      ∷ free
      ∷ free
      ∷ free
      ∷ free
      ∷ free
      ∷ free
      ∷ [])

  abbrev end7 : Store
  end7 =
      store_of 4294967294 4294967295
      (leaf_slot ([]) 4294967294 4294967295 (key_of 255 0) (value_of 1)
      ∷ leaf_slot ([]) 4294967295 0 (key_of 255 0) (value_of 1)
      ∷ free
      ∷ free
      ∷ free
      ∷ free
      ∷ free
      ∷ free
      ∷ free
      ∷ free
      ∷ free
      ∷ free
      ∷ [])

  abbrev end8 : Store
  end8 =
      store_of 2 9
      (leaf_slot ([]) 1 3 (key_of 104 0) (value_of 3)
      ∷ leaf_slot ([]) 3 4 (key_of 104 0) (value_of 3)
      ∷ leaf_slot (false ∷ false ∷ []) 4 5 (key_of 16 0) (value_of 4)
      ∷ leaf_slot (false ∷ true ∷ []) 4 0 (key_of 104 0) (value_of 3)
      ∷ inner_slot (false ∷ []) 4 5 4 h40 4 h38 1 1
      ∷ inner_slot ([]) 4 5 4 h41 0 zeros 2 0
      ∷ leaf_slot (false ∷ false ∷ []) 5 0 (key_of 16 0) (value_of 1)
      ∷ inner_slot (false ∷ []) 5 0 5 h42 4 h38 1 1
      ∷ inner_slot ([]) 5 8 5 h43 0 zeros 2 0
      ∷ inner_slot ([]) 8 9 5 h43 0 zeros 2 0
      ∷ inner_slot ([]) 9 0 5 h43 0 zeros 2 0
      ∷ free
      ∷ [])

  abbrev end9 : Store
  end9 =
      store_of 0 8
      (leaf_slot (false ∷ false ∷ []) 5 0 (key_of 0 0) (value_of 1)
      ∷ leaf_slot (false ∷ true ∷ []) 5 0 (key_of 104 0) (value_of 1)
      ∷ inner_slot (false ∷ []) 5 0 5 h46 5 h12 1 1
      ∷ leaf_slot (true ∷ []) 5 0 (key_of 192 0) (value_of 2)
      ∷ inner_slot ([]) 5 8 5 h47 5 h27 2 1
      ∷ inner_slot ([]) 8 0 5 h47 5 h27 2 1
      ∷ free
      ∷ free
      ∷ [])

  abbrev end10 : Store
  end10 =
      store_of 1 8
      (leaf_slot ([]) 1 4 (key_of 16 0) (value_of 2)
      ∷ leaf_slot ([]) 4 5 (key_of 254 0) (value_of 1)
      ∷ leaf_slot ([]) 5 6 (key_of 254 0) (value_of 1)
      ∷ leaf_slot (false ∷ []) 6 0 (key_of 16 0) (value_of 3)
      ∷ leaf_slot (true ∷ []) 6 7 (key_of 254 0) (value_of 1)
      ∷ inner_slot ([]) 6 7 6 h49 6 h50 1 1
      ∷ leaf_slot (true ∷ false ∷ []) 7 0 (key_of 144 0) (value_of 3)
      ∷ leaf_slot (true ∷ true ∷ []) 7 0 (key_of 254 0) (value_of 3)
      ∷ inner_slot (true ∷ []) 7 0 7 h51 7 h52 1 1
      ∷ inner_slot ([]) 7 8 6 h49 7 h53 1 2
      ∷ inner_slot ([]) 8 0 6 h49 7 h53 1 2
      ∷ free
      ∷ [])

  abbrev end11 : Store
  end11 =
      store_of 0 1
      (free
      ∷ free
      ∷ free
      ∷ free
      ∷ [])

  abbrev end12 : Store
  end12 =
      store_of 6 13
      (free
      ∷ free
      ∷ free
      ∷ free
      ∷ [])

  abbrev end13 : Store
  end13 =
      store_of 1 3
      (leaf_slot ([]) 1 2 (key_of 192 0) (value_of 1)
      ∷ leaf_slot (false ∷ true ∷ false ∷ []) 2 0 (key_of 64 0) (value_of 4)
      ∷ leaf_slot (false ∷ true ∷ true ∷ []) 2 0 (key_of 104 0) (value_of 1)
      ∷ inner_slot (false ∷ true ∷ []) 2 0 2 h57 2 h12 1 1
      ∷ inner_slot (false ∷ []) 2 0 0 zeros 2 h58 0 2
      ∷ leaf_slot (true ∷ []) 2 0 (key_of 192 0) (value_of 1)
      ∷ inner_slot ([]) 2 3 2 h59 2 h23 2 1
      ∷ inner_slot ([]) 3 0 2 h59 2 h23 2 1
      ∷ free
      ∷ free
      ∷ free
      ∷ free
      ∷ [])

  abbrev end14 : Store
  end14 =
      store_of 4294967295 4294967295
      (free
      ∷ leaf_slot ([]) 4294967295 0 (key_of 8 0) (value_of 3)
      ∷ free
      ∷ free
      ∷ free
      ∷ free
      ∷ free
      ∷ free
      ∷ [])

  abbrev end15 : Store
  end15 =
      store_of 0 3
      (leaf_slot ([]) 2 3 (key_of 128 0) (value_of 2)
      ∷ leaf_slot ([]) 3 0 (key_of 128 0) (value_of 2)
      ∷ free
      ∷ free
      ∷ free
      ∷ free
      ∷ free
      ∷ free
      ∷ free
      ∷ free
      ∷ free
      ∷ free
      ∷ [])

  abbrev end16 : Store
  end16 =
      store_of 5 5
      (leaf_slot ([]) 5 0 (key_of 8 0) (value_of 3)
      ∷ free
      ∷ free
      ∷ free
      ∷ [])

  abbrev end17 : Store
  end17 =
      store_of 0 4
      (leaf_slot ([]) 2 4 (key_of 8 0) (value_of 2)
      ∷ leaf_slot (false ∷ []) 4 0 (key_of 8 0) (value_of 2)
      ∷ leaf_slot (true ∷ []) 4 0 (key_of 254 0) (value_of 2)
      ∷ inner_slot ([]) 4 0 4 h22 4 h62 1 1
      ∷ [])

  abbrev end18 : Store
  end18 =
      store_of 9 21
      (inner_slot ([]) 11 12 3 h65 0 zeros 2 0
      ∷ leaf_slot (false ∷ false ∷ []) 3 19 (key_of 0 0) (value_of 3)
      ∷ leaf_slot (false ∷ true ∷ []) 3 19 (key_of 104 0) (value_of 2)
      ∷ inner_slot (false ∷ []) 3 19 3 h64 3 h10 1 1
      ∷ leaf_slot (true ∷ []) 3 11 (key_of 192 0) (value_of 3)
      ∷ leaf_slot (true ∷ []) 17 21 (key_of 255 0) (value_of 4)
      ∷ inner_slot ([]) 8 11 3 h65 3 h66 2 1
      ∷ leaf_slot (true ∷ []) 12 17 (key_of 255 0) (value_of 2)
      ∷ inner_slot ([]) 12 17 3 h65 12 h67 2 1
      ∷ inner_slot ([]) 17 19 3 h65 17 h68 2 1
      ∷ leaf_slot (false ∷ []) 19 21 (key_of 104 0) (value_of 2)
      ∷ inner_slot ([]) 19 21 19 h10 17 h68 1 1
      ∷ leaf_slot (false ∷ false ∷ []) 21 0 (key_of 0 0) (value_of 2)
      ∷ leaf_slot (false ∷ true ∷ []) 21 0 (key_of 104 0) (value_of 3)
      ∷ inner_slot (false ∷ []) 21 0 21 h69 21 h38 1 1
      ∷ inner_slot ([]) 21 0 21 h70 0 zeros 2 0
      ∷ [])

  abbrev end19 : Store
  end19 =
      store_of 2 4
      (leaf_slot ([]) 3 4 (key_of 8 0) (value_of 3)
      ∷ leaf_slot (false ∷ false ∷ false ∷ false ∷ []) 2 3 (key_of 8 0) (value_of 3)
      ∷ leaf_slot (false ∷ false ∷ false ∷ true ∷ []) 2 3 (key_of 16 0) (value_of 3)
      ∷ inner_slot (false ∷ false ∷ false ∷ []) 2 3 2 h14 2 h49 1 1
      ∷ inner_slot (false ∷ false ∷ []) 2 3 2 h77 0 zeros 2 0
      ∷ inner_slot (false ∷ []) 2 3 2 h78 0 zeros 2 0
      ∷ inner_slot ([]) 2 3 2 h79 0 zeros 2 0
      ∷ leaf_slot ([]) 4 0 (key_of 8 0) (value_of 3)
      ∷ free
      ∷ free
      ∷ free
      ∷ free
      ∷ [])

  abbrev end20 : Store
  end20 =
      store_of 5 6
      (inner_slot ([]) 6 0 0 zeros 5 h83 0 2
      ∷ leaf_slot (true ∷ false ∷ []) 5 0 (key_of 144 0) (value_of 1)
      ∷ leaf_slot (true ∷ true ∷ []) 5 0 (key_of 255 0) (value_of 4)
      ∷ inner_slot (true ∷ []) 5 0 5 h82 5 h68 1 1
      ∷ inner_slot ([]) 5 6 0 zeros 5 h83 0 2
      ∷ free
      ∷ free
      ∷ free
      ∷ free
      ∷ free
      ∷ free
      ∷ free
      ∷ [])

  abbrev end21 : Store
  end21 =
      store_of 7 7
      (leaf_slot (true ∷ false ∷ []) 5 0 (key_of 144 0) (value_of 1)
      ∷ leaf_slot (true ∷ true ∷ []) 5 0 (key_of 255 0) (value_of 1)
      ∷ inner_slot (true ∷ []) 5 0 5 h82 5 h39 1 1
      ∷ free
      ∷ free
      ∷ leaf_slot (false ∷ []) 7 0 (key_of 96 0) (value_of 1)
      ∷ inner_slot ([]) 7 0 7 h24 5 h85 1 2
      ∷ free
      ∷ free
      ∷ free
      ∷ free
      ∷ free
      ∷ free
      ∷ free
      ∷ free
      ∷ free
      ∷ free
      ∷ free
      ∷ free
      ∷ free
      ∷ free
      ∷ free
      ∷ free
      ∷ free
      ∷ [])

  abbrev end22 : Store
  end22 =
      store_of 4294967293 4294967295
      (leaf_slot ([]) 4294967294 4294967295 (key_of 8 0) (value_of 2)
      ∷ leaf_slot (false ∷ []) 4294967295 0 (key_of 8 0) (value_of 2)
      ∷ leaf_slot (true ∷ []) 4294967295 0 (key_of 144 0) (value_of 3)
      ∷ inner_slot ([]) 4294967295 0 4294967295 h22 4294967295 h51 1 1
      ∷ free
      ∷ free
      ∷ free
      ∷ free
      ∷ [])

  abbrev end23 : Store
  end23 =
      store_of 4294967295 4294967295
      (free
      ∷ leaf_slot ([]) 4294967295 0 (key_of 96 0) (value_of 4)
      ∷ free
      ∷ free
      ∷ free
      ∷ free
      ∷ free
      ∷ free
      ∷ free
      ∷ free
      ∷ free
      ∷ free
      ∷ [])

  abbrev end24 : Store
  end24 =
      store_of 4294967295 4294967295
      (free
      ∷ free
      ∷ free
      ∷ free
      ∷ [])

  abbrev end25 : Store
  end25 =
      store_of 4 4
      (free
      ∷ free
      ∷ leaf_slot (true ∷ false ∷ []) 3 0 (key_of 144 0) (value_of 1)
      ∷ leaf_slot (true ∷ true ∷ []) 3 0 (key_of 254 0) (value_of 3)
      ∷ leaf_slot (false ∷ []) 3 0 (key_of 64 0) (value_of 4)
      ∷ inner_slot (true ∷ []) 3 0 3 h82 3 h52 1 1
      ∷ free
      ∷ inner_slot ([]) 4 0 3 h57 3 h91 1 2
      ∷ [])

  abbrev end26 : Store
  end26 =
      store_of 4 9
      (leaf_slot ([]) 4 5 (key_of 104 0) (value_of 4)
      ∷ leaf_slot (false ∷ []) 5 0 (key_of 104 0) (value_of 4)
      ∷ leaf_slot (true ∷ []) 5 8 (key_of 128 0) (value_of 3)
      ∷ inner_slot ([]) 5 6 5 h93 5 h5 1 1
      ∷ inner_slot ([]) 6 7 5 h93 5 h5 1 1
      ∷ inner_slot ([]) 7 8 5 h93 5 h5 1 1
      ∷ leaf_slot (true ∷ []) 8 0 (key_of 128 0) (value_of 4)
      ∷ inner_slot ([]) 8 9 5 h93 8 h94 1 1
      ∷ inner_slot ([]) 9 0 5 h93 8 h94 1 1
      ∷ free
      ∷ free
      ∷ free
      ∷ free
      ∷ free
      ∷ free
      ∷ free
      ∷ free
      ∷ free
      ∷ free
      ∷ free
      ∷ free
      ∷ free
      ∷ free
      ∷ free
      ∷ [])

  abbrev end27 : Store
  end27 =
      store_of 2 9
      (leaf_slot ([]) 2 3 (key_of 16 0) (value_of 2)
      ∷ leaf_slot ([]) 3 4 (key_of 16 0) (value_of 1)
      ∷ leaf_slot ([]) 4 9 (key_of 16 0) (value_of 1)
      ∷ leaf_slot ([]) 9 0 (key_of 16 0) (value_of 1)
      ∷ [])

  abbrev end28 : Store
  end28 =
      store_of 9 13
      (leaf_slot ([]) 10 13 (key_of 96 0) (value_of 1)
      ∷ leaf_slot (false ∷ []) 13 0 (key_of 96 0) (value_of 1)
      ∷ leaf_slot (true ∷ []) 13 0 (key_of 255 0) (value_of 1)
      ∷ inner_slot ([]) 13 0 13 h24 13 h39 1 1
      ∷ free
      ∷ free
      ∷ free
      ∷ free
      ∷ [])

  abbrev end29 : Store
  end29 =
      store_of 0 10
      (leaf_slot ([]) 4 6 (key_of 8 0) (value_of 3)
      ∷ leaf_slot (false ∷ []) 6 0 (key_of 8 0) (value_of 4)
      ∷ leaf_slot (true ∷ []) 6 7 (key_of 192 0) (value_of 3)
      ∷ inner_slot ([]) 6 7 6 h80 6 h66 1 1
      ∷ leaf_slot (true ∷ []) 7 10 (key_of 192 0) (value_of 4)
      ∷ inner_slot ([]) 7 10 6 h80 7 h7 1 1
      ∷ leaf_slot (true ∷ []) 10 0 (key_of 192 0) (value_of 1)
      ∷ inner_slot ([]) 10 0 6 h80 10 h23 1 1
      ∷ free
      ∷ free
      ∷ free
      ∷ free
      ∷ free
      ∷ free
      ∷ free
      ∷ free
      ∷ [])

  abbrev rows : List Game
  rows =
      game (store_of 0 0 (free_slots 16))
      (pruning 0 ∷ pruning 1 ∷ applying 4 (insert (key_of 0 0) (value_of 4) ∷ insert (key_of 144 0) (value_of 4) ∷ delete (key_of 255 0) ∷ []) ∷ applying 9 ([]) ∷ pruning 7 ∷ pruning 6 ∷ applying 14 (insert (key_of 0 0) (value_of 4) ∷ insert (key_of 144 0) (value_of 2) ∷ []) ∷ applying 16 (insert (key_of 144 0) (value_of 2) ∷ []) ∷ applying 17 (delete (key_of 144 0) ∷ delete (key_of 255 0) ∷ []) ∷ [])
      (freed 0 ∷ denied 8 ∷ made 4 h3 3 ∷ made 9 h3 1 ∷ freed 0 ∷ denied 8 ∷ made 14 h4 2 ∷ made 16 h4 1 ∷ made 17 h0 1 ∷ [])
      end0
      ∷ game (store_of 0 0 (free_slots 8))
      (applying 1 (delete (key_of 192 0) ∷ []) ∷ applying 2 (insert (key_of 128 0) (value_of 3) ∷ []) ∷ pruning 1 ∷ pruning 0 ∷ [])
      (made 1 zeros 0 ∷ made 2 h5 1 ∷ freed 0 ∷ denied 8 ∷ [])
      end1
      ∷ game (store_of 0 0 (free_slots 8))
      (applying 2 (delete (key_of 0 0) ∷ delete (key_of 8 0) ∷ delete (key_of 128 0) ∷ []) ∷ applying 3 (delete (key_of 8 0) ∷ insert (key_of 128 0) (value_of 1) ∷ delete (key_of 192 0) ∷ []) ∷ applying 4 (delete (key_of 0 0) ∷ delete (key_of 8 0) ∷ insert (key_of 128 0) (value_of 1) ∷ []) ∷ applying 6 (insert (key_of 192 0) (value_of 4) ∷ []) ∷ [])
      (made 2 zeros 0 ∷ made 3 h6 1 ∷ made 4 h6 1 ∷ made 6 h9 4 ∷ [])
      end2
      ∷ game (store_of 0 0 (free_slots 16))
      (applying 1 (delete (key_of 0 0) ∷ []) ∷ applying 4 (insert (key_of 104 0) (value_of 2) ∷ []) ∷ pruning 3 ∷ applying 5 (insert (key_of 0 0) (value_of 4) ∷ []) ∷ applying 6 (insert (key_of 104 0) (value_of 1) ∷ []) ∷ applying 7 (insert (key_of 8 0) (value_of 3) ∷ delete (key_of 64 0) ∷ delete (key_of 104 0) ∷ []) ∷ applying 8 (insert (key_of 8 0) (value_of 1) ∷ []) ∷ [])
      (made 1 zeros 0 ∷ made 4 h10 1 ∷ freed 0 ∷ made 5 h19 4 ∷ made 6 h20 3 ∷ made 7 h21 7 ∷ denied 7 ∷ [])
      end3
      ∷ game (store_of 0 0 (free_slots 12))
      (pruning 0 ∷ applying 1 ([]) ∷ applying 2 (insert (key_of 8 0) (value_of 2) ∷ insert (key_of 192 0) (value_of 1) ∷ []) ∷ applying 3 (insert (key_of 96 0) (value_of 1) ∷ []) ∷ applying 4 (delete (key_of 8 0) ∷ insert (key_of 96 0) (value_of 3) ∷ insert (key_of 192 0) (value_of 2) ∷ []) ∷ applying 9 (insert (key_of 8 0) (value_of 1) ∷ insert (key_of 192 0) (value_of 3) ∷ []) ∷ [])
      (freed 0 ∷ made 1 zeros 0 ∷ made 2 h28 3 ∷ made 3 h29 4 ∷ made 4 h30 3 ∷ denied 7 ∷ [])
      end4
      ∷ game (store_of 0 0 (free_slots 12))
      (applying 1 (delete (key_of 0 0) ∷ insert (key_of 8 0) (value_of 2) ∷ delete (key_of 255 0) ∷ []) ∷ applying 2 (delete (key_of 0 0) ∷ []) ∷ pruning 1 ∷ applying 7 (delete (key_of 128 0) ∷ delete (key_of 255 0) ∷ []) ∷ applying 11 (delete (key_of 128 0) ∷ insert (key_of 255 0) (value_of 3) ∷ []) ∷ pruning 2 ∷ applying 12 (insert (key_of 0 0) (value_of 4) ∷ []) ∷ pruning 3 ∷ applying 14 ([]) ∷ [])
      (made 1 h22 1 ∷ made 2 h22 1 ∷ freed 0 ∷ made 7 h22 1 ∷ made 11 h36 3 ∷ freed 1 ∷ made 12 h37 7 ∷ freed 0 ∷ denied 7 ∷ [])
      end5
      ∷ game (store_of 0 0 (free_slots 24))
      (applying 1 (insert (key_of 104 0) (value_of 3) ∷ delete (key_of 192 0) ∷ delete (key_of 255 0) ∷ []) ∷ pruning 1 ∷ pruning 2 ∷ applying 2 (delete (key_of 255 0) ∷ []) ∷ [])
      (made 1 h38 1 ∷ freed 0 ∷ denied 8 ∷ made 2 h38 1 ∷ [])
      end6
      ∷ game (store_of 4294967293 4294967293 (free_slots 12))
      (applying 4294967294 (insert (key_of 255 0) (value_of 1) ∷ []) ∷ pruning 4294967294 ∷ applying 4294967295 ([]) ∷ pruning 4294967293 ∷ applying 4294967295 ([]) ∷ pruning 4294967296 ∷ applying 3618347287 (insert (key_of 254 0) (value_of 3) ∷ delete (key_of 192 0) ∷ insert (key_of 0 0) (value_of 2) ∷ []) ∷ applying 4294967295 (insert (key_of 192 0) (value_of 1) ∷ insert (key_of 255 0) (value_of 1) ∷ []) ∷ applying 4294967295 (delete (key_of 0 0) ∷ insert (key_of 96 0) (value_of 4) ∷ []) ∷ applying 4294967295 (insert (key_of 254 0) (value_of 4) ∷ []) ∷ [])
      (made 4294967294 h39 1 ∷ freed 0 ∷ made 4294967295 h39 1 ∷ denied 8 ∷ denied 18 ∷ denied 8 ∷ denied 5 ∷ denied 18 ∷ denied 18 ∷ denied 18 ∷ [])
      end7
      ∷ game (store_of 0 0 (free_slots 12))
      (applying 1 (insert (key_of 104 0) (value_of 3) ∷ []) ∷ applying 3 (delete (key_of 16 0) ∷ []) ∷ applying 4 (insert (key_of 16 0) (value_of 4) ∷ []) ∷ applying 5 (insert (key_of 16 0) (value_of 1) ∷ []) ∷ applying 8 (insert (key_of 104 0) (value_of 3) ∷ []) ∷ applying 9 (insert (key_of 16 0) (value_of 1) ∷ []) ∷ pruning 2 ∷ applying 10 (insert (key_of 104 0) (value_of 4) ∷ []) ∷ [])
      (made 1 h38 1 ∷ made 3 h38 1 ∷ made 4 h44 4 ∷ made 5 h45 3 ∷ made 8 h45 1 ∷ made 9 h45 1 ∷ freed 0 ∷ denied 7 ∷ [])
      end8
      ∷ game (store_of 0 0 (free_slots 8))
      (pruning 1 ∷ applying 5 (insert (key_of 0 0) (value_of 1) ∷ insert (key_of 104 0) (value_of 1) ∷ insert (key_of 192 0) (value_of 2) ∷ []) ∷ applying 8 (insert (key_of 0 0) (value_of 4) ∷ insert (key_of 8 0) (value_of 2) ∷ insert (key_of 192 0) (value_of 2) ∷ []) ∷ applying 8 ([]) ∷ pruning 0 ∷ applying 11 (insert (key_of 0 0) (value_of 2) ∷ insert (key_of 104 0) (value_of 1) ∷ []) ∷ [])
      (denied 8 ∷ made 5 h48 5 ∷ denied 7 ∷ made 8 h48 1 ∷ freed 0 ∷ denied 7 ∷ [])
      end9
      ∷ game (store_of 0 0 (free_slots 12))
      (applying 1 (insert (key_of 16 0) (value_of 2) ∷ []) ∷ applying 4 (delete (key_of 16 0) ∷ insert (key_of 254 0) (value_of 1) ∷ []) ∷ pruning 5 ∷ applying 5 (delete (key_of 104 0) ∷ []) ∷ applying 6 (insert (key_of 16 0) (value_of 3) ∷ delete (key_of 104 0) ∷ []) ∷ applying 7 (insert (key_of 144 0) (value_of 3) ∷ insert (key_of 254 0) (value_of 3) ∷ []) ∷ applying 8 (delete (key_of 96 0) ∷ insert (key_of 144 0) (value_of 3) ∷ []) ∷ pruning 1 ∷ applying 9 (insert (key_of 0 0) (value_of 1) ∷ delete (key_of 104 0) ∷ insert (key_of 254 0) (value_of 4) ∷ []) ∷ [])
      (made 1 h54 1 ∷ made 4 h50 1 ∷ denied 8 ∷ made 5 h50 1 ∷ made 6 h55 3 ∷ made 7 h56 4 ∷ made 8 h56 1 ∷ freed 0 ∷ denied 7 ∷ [])
      end10
      ∷ game (store_of 0 0 (free_slots 4))
      (pruning 1 ∷ pruning 0 ∷ pruning 1 ∷ applying 1 (delete (key_of 128 0) ∷ []) ∷ [])
      (denied 8 ∷ freed 0 ∷ denied 8 ∷ made 1 zeros 0 ∷ [])
      end11
      ∷ game (store_of 0 0 (free_slots 4))
      (applying 1 (delete (key_of 8 0) ∷ delete (key_of 16 0) ∷ []) ∷ applying 6 (delete (key_of 8 0) ∷ delete (key_of 16 0) ∷ delete (key_of 104 0) ∷ []) ∷ applying 6 (insert (key_of 8 0) (value_of 2) ∷ delete (key_of 16 0) ∷ []) ∷ pruning 6 ∷ applying 7 ([]) ∷ applying 6 (insert (key_of 8 0) (value_of 3) ∷ delete (key_of 104 0) ∷ []) ∷ applying 9 ([]) ∷ applying 13 (delete (key_of 8 0) ∷ []) ∷ [])
      (made 1 zeros 0 ∷ made 6 zeros 0 ∷ denied 18 ∷ freed 0 ∷ made 7 zeros 0 ∷ denied 18 ∷ made 9 zeros 0 ∷ made 13 zeros 0 ∷ [])
      end12
      ∷ game (store_of 0 0 (free_slots 12))
      (applying 0 (insert (key_of 104 0) (value_of 1) ∷ []) ∷ applying 1 (insert (key_of 192 0) (value_of 1) ∷ []) ∷ pruning 1 ∷ applying 2 (insert (key_of 64 0) (value_of 4) ∷ insert (key_of 104 0) (value_of 1) ∷ []) ∷ applying 3 ([]) ∷ pruning 4 ∷ pruning 4 ∷ [])
      (denied 18 ∷ made 1 h23 1 ∷ freed 0 ∷ made 2 h60 6 ∷ made 3 h60 1 ∷ denied 8 ∷ denied 8 ∷ [])
      end13
      ∷ game (store_of 4294967293 4294967293 (free_slots 8))
      (applying 4294967294 (insert (key_of 8 0) (value_of 2) ∷ []) ∷ applying 4294967295 (insert (key_of 8 0) (value_of 3) ∷ []) ∷ applying 4294967295 (insert (key_of 8 0) (value_of 3) ∷ insert (key_of 64 0) (value_of 1) ∷ insert (key_of 96 0) (value_of 2) ∷ delete (key_of 104 0) ∷ insert (key_of 255 0) (value_of 3) ∷ []) ∷ pruning 4294967295 ∷ [])
      (made 4294967294 h22 1 ∷ made 4294967295 h14 1 ∷ denied 18 ∷ freed 1 ∷ [])
      end14
      ∷ game (store_of 0 0 (free_slots 12))
      (pruning 0 ∷ applying 1 ([]) ∷ applying 2 (insert (key_of 128 0) (value_of 2) ∷ delete (key_of 255 0) ∷ []) ∷ applying 3 ([]) ∷ [])
      (freed 0 ∷ made 1 zeros 0 ∷ made 2 h61 1 ∷ made 3 h61 1 ∷ [])
      end15
      ∷ game (store_of 0 0 (free_slots 4))
      (applying 1 (insert (key_of 8 0) (value_of 3) ∷ delete (key_of 16 0) ∷ insert (key_of 104 0) (value_of 3) ∷ insert (key_of 254 0) (value_of 1) ∷ []) ∷ applying 1 (delete (key_of 16 0) ∷ []) ∷ applying 5 (insert (key_of 8 0) (value_of 3) ∷ delete (key_of 16 0) ∷ delete (key_of 254 0) ∷ []) ∷ pruning 5 ∷ [])
      (denied 7 ∷ made 1 zeros 0 ∷ made 5 h14 1 ∷ freed 0 ∷ [])
      end16
      ∷ game (store_of 0 0 (free_slots 4))
      (pruning 0 ∷ applying 2 (insert (key_of 8 0) (value_of 2) ∷ delete (key_of 254 0) ∷ []) ∷ applying 4 (insert (key_of 254 0) (value_of 2) ∷ []) ∷ applying 5 (insert (key_of 8 0) (value_of 2) ∷ insert (key_of 254 0) (value_of 1) ∷ []) ∷ applying 9 (insert (key_of 8 0) (value_of 4) ∷ []) ∷ applying 5 ([]) ∷ [])
      (freed 0 ∷ made 2 h22 1 ∷ made 4 h63 3 ∷ denied 7 ∷ denied 7 ∷ denied 7 ∷ [])
      end17
      ∷ game (store_of 0 0 (free_slots 16))
      (applying 1 (insert (key_of 0 0) (value_of 3) ∷ []) ∷ applying 3 (insert (key_of 104 0) (value_of 2) ∷ insert (key_of 192 0) (value_of 3) ∷ delete (key_of 255 0) ∷ []) ∷ applying 8 (insert (key_of 104 0) (value_of 2) ∷ []) ∷ pruning 7 ∷ applying 11 (insert (key_of 0 0) (value_of 3) ∷ delete (key_of 192 0) ∷ []) ∷ applying 12 (insert (key_of 255 0) (value_of 2) ∷ []) ∷ pruning 9 ∷ applying 17 (insert (key_of 104 0) (value_of 2) ∷ insert (key_of 255 0) (value_of 4) ∷ []) ∷ applying 19 (delete (key_of 0 0) ∷ insert (key_of 104 0) (value_of 2) ∷ []) ∷ applying 21 (insert (key_of 0 0) (value_of 2) ∷ insert (key_of 104 0) (value_of 3) ∷ delete (key_of 255 0) ∷ []) ∷ [])
      (made 1 h64 1 ∷ made 3 h71 5 ∷ made 8 h71 1 ∷ freed 1 ∷ made 11 h72 1 ∷ made 12 h73 2 ∷ freed 1 ∷ made 17 h74 2 ∷ made 19 h75 2 ∷ made 21 h76 4 ∷ [])
      end18
      ∷ game (store_of 0 0 (free_slots 12))
      (applying 1 (insert (key_of 8 0) (value_of 4) ∷ []) ∷ pruning 1 ∷ applying 2 (insert (key_of 16 0) (value_of 2) ∷ insert (key_of 8 0) (value_of 4) ∷ []) ∷ pruning 1 ∷ applying 2 (insert (key_of 8 0) (value_of 3) ∷ insert (key_of 16 0) (value_of 3) ∷ []) ∷ pruning 3 ∷ pruning 2 ∷ applying 3 (delete (key_of 16 0) ∷ []) ∷ applying 4 (delete (key_of 16 0) ∷ []) ∷ applying 2 ([]) ∷ [])
      (made 1 h80 1 ∷ freed 0 ∷ denied 5 ∷ freed 0 ∷ made 2 h81 6 ∷ denied 8 ∷ freed 1 ∷ made 3 h14 1 ∷ made 4 h14 1 ∷ denied 18 ∷ [])
      end19
      ∷ game (store_of 0 0 (free_slots 12))
      (pruning 1 ∷ applying 2 (insert (key_of 96 0) (value_of 3) ∷ delete (key_of 254 0) ∷ delete (key_of 255 0) ∷ []) ∷ pruning 0 ∷ applying 3 (delete (key_of 96 0) ∷ []) ∷ applying 5 (insert (key_of 144 0) (value_of 1) ∷ insert (key_of 255 0) (value_of 4) ∷ []) ∷ pruning 6 ∷ pruning 5 ∷ applying 10 (insert (key_of 144 0) (value_of 1) ∷ insert (key_of 254 0) (value_of 1) ∷ []) ∷ applying 6 (delete (key_of 254 0) ∷ []) ∷ applying 8 (insert (key_of 254 0) (value_of 1) ∷ []) ∷ [])
      (denied 8 ∷ made 2 h26 1 ∷ freed 0 ∷ made 3 zeros 0 ∷ made 5 h84 4 ∷ denied 8 ∷ freed 1 ∷ denied 7 ∷ made 6 h84 1 ∷ denied 7 ∷ [])
      end20
      ∷ game (store_of 0 0 (free_slots 24))
      (applying 1 (delete (key_of 96 0) ∷ delete (key_of 128 0) ∷ []) ∷ applying 3 ([]) ∷ applying 4 (delete (key_of 255 0) ∷ []) ∷ applying 5 (delete (key_of 16 0) ∷ delete (key_of 128 0) ∷ insert (key_of 144 0) (value_of 1) ∷ delete (key_of 254 0) ∷ insert (key_of 255 0) (value_of 1) ∷ []) ∷ applying 6 (delete (key_of 96 0) ∷ delete (key_of 128 0) ∷ []) ∷ applying 7 (insert (key_of 96 0) (value_of 1) ∷ delete (key_of 254 0) ∷ []) ∷ pruning 7 ∷ [])
      (made 1 zeros 0 ∷ made 3 zeros 0 ∷ made 4 zeros 0 ∷ made 5 h86 4 ∷ made 6 h86 1 ∷ made 7 h87 2 ∷ freed 2 ∷ [])
      end21
      ∷ game (store_of 4294967293 4294967293 (free_slots 8))
      (applying 4294967294 (insert (key_of 8 0) (value_of 2) ∷ []) ∷ applying 4294967295 (insert (key_of 144 0) (value_of 3) ∷ []) ∷ applying 4294967295 (insert (key_of 255 0) (value_of 1) ∷ []) ∷ applying 4294967295 (delete (key_of 8 0) ∷ []) ∷ pruning 4294967296 ∷ [])
      (made 4294967294 h22 1 ∷ made 4294967295 h88 3 ∷ denied 18 ∷ denied 18 ∷ denied 8 ∷ [])
      end22
      ∷ game (store_of 4294967293 4294967293 (free_slots 12))
      (applying 4294967294 (insert (key_of 96 0) (value_of 2) ∷ delete (key_of 144 0) ∷ []) ∷ applying 4294967295 (insert (key_of 96 0) (value_of 4) ∷ delete (key_of 144 0) ∷ delete (key_of 255 0) ∷ []) ∷ applying 4294967295 (delete (key_of 64 0) ∷ []) ∷ applying 4294967295 (delete (key_of 96 0) ∷ []) ∷ applying 4294967295 (delete (key_of 144 0) ∷ insert (key_of 255 0) (value_of 2) ∷ []) ∷ applying 4294967295 (insert (key_of 64 0) (value_of 1) ∷ []) ∷ pruning 4294967295 ∷ applying 4294967295 ([]) ∷ [])
      (made 4294967294 h89 1 ∷ made 4294967295 h90 1 ∷ denied 18 ∷ denied 18 ∷ denied 18 ∷ denied 18 ∷ freed 1 ∷ denied 18 ∷ [])
      end23
      ∷ game (store_of 4294967293 4294967293 (free_slots 4))
      (pruning 4294967294 ∷ applying 4294967295 ([]) ∷ applying 4294967295 (delete (key_of 8 0) ∷ insert (key_of 64 0) (value_of 4) ∷ []) ∷ applying 4294967295 ([]) ∷ applying 4294967295 (insert (key_of 8 0) (value_of 3) ∷ []) ∷ applying 4294967295 (insert (key_of 8 0) (value_of 3) ∷ []) ∷ applying 4294967295 (insert (key_of 8 0) (value_of 3) ∷ insert (key_of 64 0) (value_of 1) ∷ []) ∷ applying 4294967295 ([]) ∷ pruning 4294967295 ∷ [])
      (denied 8 ∷ made 4294967295 zeros 0 ∷ denied 18 ∷ denied 18 ∷ denied 18 ∷ denied 18 ∷ denied 18 ∷ denied 18 ∷ freed 0 ∷ [])
      end24
      ∷ game (store_of 0 0 (free_slots 8))
      (pruning 0 ∷ applying 1 (insert (key_of 144 0) (value_of 1) ∷ []) ∷ applying 2 (insert (key_of 144 0) (value_of 1) ∷ []) ∷ applying 3 (insert (key_of 64 0) (value_of 4) ∷ insert (key_of 254 0) (value_of 3) ∷ []) ∷ applying 4 (insert (key_of 104 0) (value_of 2) ∷ []) ∷ applying 4 (delete (key_of 255 0) ∷ []) ∷ pruning 4 ∷ applying 0 (insert (key_of 64 0) (value_of 4) ∷ delete (key_of 104 0) ∷ []) ∷ applying 5 (insert (key_of 254 0) (value_of 4) ∷ insert (key_of 255 0) (value_of 1) ∷ []) ∷ [])
      (freed 0 ∷ made 1 h82 1 ∷ made 2 h82 1 ∷ made 3 h92 5 ∷ denied 7 ∷ made 4 h92 1 ∷ freed 3 ∷ denied 18 ∷ denied 7 ∷ [])
      end25
      ∷ game (store_of 0 0 (free_slots 24))
      (applying 4 (insert (key_of 104 0) (value_of 4) ∷ delete (key_of 192 0) ∷ []) ∷ applying 5 (delete (key_of 96 0) ∷ insert (key_of 128 0) (value_of 3) ∷ delete (key_of 192 0) ∷ []) ∷ applying 6 (insert (key_of 128 0) (value_of 3) ∷ []) ∷ pruning 4 ∷ applying 7 (delete (key_of 96 0) ∷ []) ∷ applying 8 (insert (key_of 128 0) (value_of 4) ∷ []) ∷ applying 9 ([]) ∷ [])
      (made 4 h93 1 ∷ made 5 h95 3 ∷ made 6 h95 1 ∷ freed 0 ∷ made 7 h95 1 ∷ made 8 h96 2 ∷ made 9 h96 1 ∷ [])
      end26
      ∷ game (store_of 0 0 (free_slots 4))
      (applying 2 (insert (key_of 16 0) (value_of 2) ∷ []) ∷ applying 3 (insert (key_of 16 0) (value_of 1) ∷ []) ∷ applying 4 (insert (key_of 104 0) (value_of 2) ∷ delete (key_of 144 0) ∷ []) ∷ pruning 0 ∷ applying 4 ([]) ∷ applying 9 (insert (key_of 16 0) (value_of 1) ∷ []) ∷ applying 10 (insert (key_of 16 0) (value_of 2) ∷ []) ∷ applying 13 (delete (key_of 104 0) ∷ []) ∷ pruning 2 ∷ [])
      (made 2 h54 1 ∷ made 3 h42 1 ∷ denied 7 ∷ freed 0 ∷ made 4 h42 1 ∷ made 9 h42 1 ∷ denied 7 ∷ denied 7 ∷ freed 0 ∷ [])
      end27
      ∷ game (store_of 0 0 (free_slots 8))
      (applying 2 (delete (key_of 96 0) ∷ []) ∷ applying 5 (delete (key_of 96 0) ∷ []) ∷ applying 10 (delete (key_of 0 0) ∷ insert (key_of 96 0) (value_of 1) ∷ delete (key_of 128 0) ∷ []) ∷ pruning 9 ∷ applying 11 (delete (key_of 255 0) ∷ insert (key_of 128 0) (value_of 3) ∷ []) ∷ applying 13 (delete (key_of 0 0) ∷ insert (key_of 255 0) (value_of 1) ∷ []) ∷ [])
      (made 2 zeros 0 ∷ made 5 zeros 0 ∷ made 10 h24 1 ∷ freed 0 ∷ denied 5 ∷ made 13 h97 3 ∷ [])
      end28
      ∷ game (store_of 0 0 (free_slots 16))
      (applying 3 (delete (key_of 8 0) ∷ delete (key_of 254 0) ∷ []) ∷ applying 4 (insert (key_of 8 0) (value_of 3) ∷ []) ∷ applying 6 (insert (key_of 8 0) (value_of 4) ∷ insert (key_of 192 0) (value_of 3) ∷ []) ∷ applying 4 (insert (key_of 64 0) (value_of 1) ∷ insert (key_of 96 0) (value_of 2) ∷ []) ∷ applying 7 (delete (key_of 104 0) ∷ insert (key_of 192 0) (value_of 4) ∷ []) ∷ applying 10 (delete (key_of 64 0) ∷ delete (key_of 104 0) ∷ insert (key_of 192 0) (value_of 1) ∷ []) ∷ [])
      (made 3 zeros 0 ∷ made 4 h14 1 ∷ made 6 h98 3 ∷ denied 18 ∷ made 7 h99 2 ∷ made 10 h100 2 ∷ [])
      end29
      ∷ []

  pub histories4 : All (GameHolds leaf_hash inner_hash) rows
  unfolding computed
  histories4 = ((refl, refl), ((refl, refl), ((refl, refl), ((refl, refl), ((refl, refl), ((refl, refl), ((refl, refl), ((refl, refl), ((refl, refl), ((refl, refl), ((refl, refl), ((refl, refl), ((refl, refl), ((refl, refl), ((refl, refl), ((refl, refl), ((refl, refl), ((refl, refl), ((refl, refl), ((refl, refl), ((refl, refl), ((refl, refl), ((refl, refl), ((refl, refl), ((refl, refl), ((refl, refl), ((refl, refl), ((refl, refl), ((refl, refl), ((refl, refl), tt))))))))))))))))))))))))))))))
