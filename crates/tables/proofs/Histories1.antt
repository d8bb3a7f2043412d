-- Random histories, part 1. Written by tests/tables/generate.py; compared with a second reading of document 01, 2026-07 and 2026-13. Assumes nothing.
use mathlib.Core.Path.{◌≡◌, refl}
use mathlib.Core.Bool.{true, false}
use mathlib.Core.List.{List, [], ◌∷◌}
use mathlib.Core.Option.{none, some}
use Rattle.terms.specs.Bits.{Bytes, All}
use Rattle.terms.specs.Records.{insert, delete, free, Store, presence, zeros}
use Rattle.meaning.specs.Computed.{computed}
use Rattle.meaning.specs.Calls.{refused, accepted}
use Rattle.meaning.specs.Desk.{key_of}
use Rattle.meaning.specs.Proving.{step, presence_of, absence_of}
use Rattle.meaning.specs.Reading.{present, absent}
use Rattle.tables.specs.Tables.{Game, game, GameHolds, applying, pruning, made, freed, denied, leaf_slot, inner_slot, store_of, free_slots, value_of}

module _ (leaf_hash inner_hash : Bytes → Bytes → Bytes) where
  abbrev h0 : Bytes
  h0 = leaf_hash (key_of 64 0) (value_of 1)

  abbrev h1 : Bytes
  h1 = leaf_hash (key_of 192 0) (value_of 3)

  abbrev h2 : Bytes
  h2 = leaf_hash (key_of 192 0) (value_of 4)

  abbrev h3 : Bytes
  h3 = inner_hash h0 h1

  abbrev h4 : Bytes
  h4 = inner_hash h0 h2

  abbrev h5 : Bytes
  h5 = leaf_hash (key_of 255 0) (value_of 1)

  abbrev h6 : Bytes
  h6 = leaf_hash (key_of 8 0) (value_of 3)

  abbrev h7 : Bytes
  h7 = leaf_hash (key_of 255 0) (value_of 2)

  abbrev h8 : Bytes
  h8 = inner_hash h6 h7

  abbrev h9 : Bytes
  h9 = leaf_hash (key_of 16 0) (value_of 3)

  abbrev h10 : Bytes
  h10 = leaf_hash (key_of 144 0) (value_of 3)

  abbrev h11 : Bytes
  h11 = leaf_hash (key_of 16 0) (value_of 2)

  abbrev h12 : Bytes
  h12 = leaf_hash (key_of 144 0) (value_of 1)

  abbrev h13 : Bytes
  h13 = inner_hash h11 h12

  abbrev h14 : Bytes
  h14 = inner_hash h9 h10

  abbrev h15 : Bytes
  h15 = leaf_hash (key_of 254 0) (value_of 3)

  abbrev h16 : Bytes
  h16 = leaf_hash (key_of 96 0) (value_of 1)

  abbrev h17 : Bytes
  h17 = inner_hash h12 h15

  abbrev h18 : Bytes
  h18 = leaf_hash (key_of 254 0) (value_of 4)

  abbrev h19 : Bytes
  h19 = inner_hash h12 h18

  abbrev h20 : Bytes
  h20 = inner_hash h16 h17

  abbrev h21 : Bytes
  h21 = inner_hash h16 h19

  abbrev h22 : Bytes
  h22 = leaf_hash (key_of 64 0) (value_of 4)

  abbrev h23 : Bytes
  h23 = leaf_hash (key_of 255 0) (value_of 4)

  abbrev h24 : Bytes
  h24 = inner_hash h22 h7

  abbrev h25 : Bytes
  h25 = inner_hash h22 h23

  abbrev h26 : Bytes
  h26 = leaf_hash (key_of 128 0) (value_of 1)

  abbrev h27 : Bytes
  h27 = inner_hash h26 h15

  abbrev h28 : Bytes
  h28 = inner_hash zeros h27

  abbrev h29 : Bytes
  h29 = leaf_hash (key_of 128 0) (value_of 2)

  abbrev h30 : Bytes
  h30 = inner_hash h22 h29

  abbrev h31 : Bytes
  h31 = leaf_hash (key_of 96 0) (value_of 3)

  abbrev h32 : Bytes
  h32 = leaf_hash (key_of 0 0) (value_of 1)

  abbrev h33 : Bytes
  h33 = inner_hash h0 h31

  abbrev h34 : Bytes
  h34 = inner_hash h32 h33

  abbrev h35 : Bytes
  h35 = leaf_hash (key_of 0 0) (value_of 4)

  abbrev h36 : Bytes
  h36 = leaf_hash (key_of 254 0) (value_of 2)

  abbrev h37 : Bytes
  h37 = inner_hash h34 h10

  abbrev h38 : Bytes
  h38 = inner_hash h34 zeros

  abbrev h39 : Bytes
  h39 = inner_hash h35 h36

  abbrev h40 : Bytes
  h40 = leaf_hash (key_of 64 0) (value_of 3)

  abbrev h41 : Bytes
  h41 = leaf_hash (key_of 104 0) (value_of 3)

  abbrev h42 : Bytes
  h42 = inner_hash h40 h41

  abbrev h43 : Bytes
  h43 = inner_hash zeros h42

  abbrev h44 : Bytes
  h44 = leaf_hash (key_of 128 0) (value_of 3)

  abbrev h45 : Bytes
  h45 = leaf_hash (key_of 128 0) (value_of 4)

  abbrev h46 : Bytes
  h46 = leaf_hash (key_of 64 0) (value_of 2)

  abbrev h47 : Bytes
  h47 = inner_hash h46 h41

  abbrev h48 : Bytes
  h48 = inner_hash zeros h47

  abbrev h49 : Bytes
  h49 = inner_hash h45 h7

  abbrev h50 : Bytes
  h50 = inner_hash h43 h44

  abbrev h51 : Bytes
  h51 = inner_hash h43 h45

  abbrev h52 : Bytes
  h52 = inner_hash h48 h49

  abbrev h53 : Bytes
  h53 = inner_hash h32 h11

  abbrev h54 : Bytes
  h54 = inner_hash h53 zeros

  abbrev h55 : Bytes
  h55 = inner_hash h54 zeros

  abbrev h56 : Bytes
  h56 = leaf_hash (key_of 254 0) (value_of 1)

  abbrev h57 : Bytes
  h57 = inner_hash h6 h11

  abbrev h58 : Bytes
  h58 = inner_hash h57 zeros

  abbrev h59 : Bytes
  h59 = inner_hash h58 zeros

  abbrev h60 : Bytes
  h60 = leaf_hash (key_of 8 0) (value_of 4)

  abbrev h61 : Bytes
  h61 = inner_hash h60 h15

  abbrev h62 : Bytes
  h62 = inner_hash h59 h56

  abbrev h63 : Bytes
  h63 = inner_hash h55 h56

  abbrev h64 : Bytes
  h64 = inner_hash h2 h7

  abbrev h65 : Bytes
  h65 = inner_hash h45 h64

  abbrev h66 : Bytes
  h66 = inner_hash zeros h64

  abbrev h67 : Bytes
  h67 = inner_hash zeros h65

  abbrev h68 : Bytes
  h68 = inner_hash zeros h66

  abbrev h69 : Bytes
  h69 = leaf_hash (key_of 16 0) (value_of 1)

  abbrev h70 : Bytes
  h70 = leaf_hash (key_of 96 0) (value_of 2)

  abbrev h71 : Bytes
  h71 = inner_hash h69 h70

  abbrev h72 : Bytes
  h72 = inner_hash h71 h45

  abbrev h73 : Bytes
  h73 = inner_hash h70 h45

  abbrev h74 : Bytes
  h74 = inner_hash h69 h31

  abbrev h75 : Bytes
  h75 = leaf_hash (key_of 255 0) (value_of 3)

  abbrev h76 : Bytes
  h76 = inner_hash h74 h75

  abbrev h77 : Bytes
  h77 = leaf_hash (key_of 104 0) (value_of 1)

  abbrev h78 : Bytes
  h78 = inner_hash h77 h26

  abbrev h79 : Bytes
  h79 = leaf_hash (key_of 144 0) (value_of 2)

  abbrev h80 : Bytes
  h80 = inner_hash h26 h79

  abbrev h81 : Bytes
  h81 = inner_hash h80 zeros

  abbrev h82 : Bytes
  h82 = inner_hash h81 zeros

  abbrev h83 : Bytes
  h83 = inner_hash h22 h82

  abbrev h84 : Bytes
  h84 = leaf_hash (key_of 104 0) (value_of 2)

  abbrev h85 : Bytes
  h85 = leaf_hash (key_of 104 0) (value_of 4)

  abbrev h86 : Bytes
  h86 = inner_hash h84 h75

  abbrev h87 : Bytes
  h87 = inner_hash h85 h75

  abbrev h88 : Bytes
  h88 = leaf_hash (key_of 192 0) (value_of 2)

  abbrev h89 : Bytes
  h89 = leaf_hash (key_of 192 0) (value_of 1)

  abbrev h90 : Bytes
  h90 = inner_hash h12 h89

  abbrev h91 : Bytes
  h91 = inner_hash h32 h12

  abbrev h92 : Bytes
  h92 = inner_hash zeros h90

  abbrev h93 : Bytes
  h93 = inner_hash h69 h0

  abbrev h94 : Bytes
  h94 = inner_hash h93 zeros

  abbrev h95 : Bytes
  h95 = inner_hash h93 h26

  abbrev h96 : Bytes
  h96 = leaf_hash (key_of 0 0) (value_of 3)

  abbrev h97 : Bytes
  h97 = inner_hash h96 h29

  abbrev end0 : Store
  end0 =
      store_of 5 10
      (free
      ∷ free
      ∷ leaf_slot ([]) 5 6 (key_of 64 0) (value_of 1)
      ∷ leaf_slot ([]) 6 7 (key_of 64 0) (value_of 1)
      ∷ leaf_slot (false ∷ []) 7 0 (key_of 64 0) (value_of 1)
      ∷ leaf_slot (true ∷ []) 7 10 (key_of 192 0) (value_of 3)
      ∷ inner_slot ([]) 7 10 7 h0 7 h1 1 1
      ∷ leaf_slot (true ∷ []) 10 0 (key_of 192 0) (value_of 4)
      ∷ inner_slot ([]) 10 0 7 h0 10 h2 1 1
      ∷ free
      ∷ free
      ∷ free
      ∷ free
      ∷ free
      ∷ free
      ∷ free
      ∷ [])

  abbrev end1 : Store
  end1 =
      store_of 0 6
      (leaf_slot ([]) 1 2 (key_of 255 0) (value_of 1)
      ∷ leaf_slot ([]) 2 3 (key_of 255 0) (value_of 1)
      ∷ free
      ∷ free
      ∷ free
      ∷ free
      ∷ free
      ∷ free
      ∷ free
      ∷ free
      ∷ free
      ∷ free
      ∷ [])

  abbrev end2 : Store
  end2 =
      store_of 4 14
      (leaf_slot ([]) 7 11 (key_of 8 0) (value_of 3)
      ∷ leaf_slot (false ∷ []) 11 14 (key_of 8 0) (value_of 3)
      ∷ leaf_slot (true ∷ []) 11 14 (key_of 255 0) (value_of 2)
      ∷ inner_slot ([]) 11 14 11 h6 11 h7 1 1
      ∷ leaf_slot ([]) 14 0 (key_of 255 0) (value_of 2)
      ∷ free
      ∷ free
      ∷ free
      ∷ [])

  abbrev end3 : Store
  end3 =
      store_of 4294967295 4294967295
      (free
      ∷ free
      ∷ free
      ∷ leaf_slot (false ∷ []) 4294967295 0 (key_of 16 0) (value_of 3)
      ∷ leaf_slot (true ∷ []) 4294967295 0 (key_of 144 0) (value_of 3)
      ∷ inner_slot ([]) 4294967295 0 4294967295 h9 4294967295 h10 1 1
      ∷ free
      ∷ free
      ∷ [])

  abbrev end4 : Store
  end4 =
      store_of 1 2
      (leaf_slot (true ∷ false ∷ []) 1 0 (key_of 144 0) (value_of 1)
      ∷ leaf_slot (true ∷ true ∷ []) 1 2 (key_of 254 0) (value_of 3)
      ∷ leaf_slot (false ∷ []) 1 0 (key_of 96 0) (value_of 1)
      ∷ inner_slot (true ∷ []) 1 2 1 h12 1 h15 1 1
      ∷ inner_slot ([]) 1 2 1 h16 1 h17 1 2
      ∷ leaf_slot (true ∷ true ∷ []) 2 0 (key_of 254 0) (value_of 4)
      ∷ inner_slot (true ∷ []) 2 0 1 h12 2 h18 1 1
      ∷ inner_slot ([]) 2 0 1 h16 2 h19 1 2
      ∷ [])

  abbrev end5 : Store
  end5 =
      store_of 0 2
      (leaf_slot (false ∷ []) 1 0 (key_of 64 0) (value_of 4)
      ∷ leaf_slot (true ∷ []) 1 2 (key_of 255 0) (value_of 2)
      ∷ inner_slot ([]) 1 2 1 h22 1 h7 1 1
      ∷ leaf_slot (true ∷ []) 2 0 (key_of 255 0) (value_of 4)
      ∷ inner_slot ([]) 2 0 1 h22 2 h23 1 1
      ∷ free
      ∷ free
      ∷ free
      ∷ [])

  abbrev end6 : Store
  end6 =
      store_of 12 14
      (leaf_slot ([]) 10 14 (key_of 254 0) (value_of 3)
      ∷ leaf_slot (true ∷ false ∷ []) 14 0 (key_of 128 0) (value_of 1)
      ∷ leaf_slot (true ∷ true ∷ []) 14 0 (key_of 254 0) (value_of 3)
      ∷ inner_slot (true ∷ []) 14 0 14 h26 14 h15 1 1
      ∷ inner_slot ([]) 14 0 0 zeros 14 h27 0 2
      ∷ free
      ∷ free
      ∷ free
      ∷ [])

  abbrev end7 : Store
  end7 =
      store_of 4294967295 4294967295
      (leaf_slot (false ∷ []) 4294967294 0 (key_of 64 0) (value_of 4)
      ∷ leaf_slot (true ∷ []) 4294967294 0 (key_of 128 0) (value_of 2)
      ∷ free
      ∷ inner_slot ([]) 4294967295 0 4294967294 h22 4294967294 h29 1 1
      ∷ [])

  abbrev end8 : Store
  end8 =
      store_of 4294967294 4294967295
      (leaf_slot ([]) 4294967294 4294967295 (key_of 192 0) (value_of 3)
      ∷ leaf_slot ([]) 4294967295 0 (key_of 192 0) (value_of 3)
      ∷ free
      ∷ free
      ∷ free
      ∷ free
      ∷ free
      ∷ free
      ∷ free
      ∷ free
      ∷ free
      ∷ free
      ∷ [])

  abbrev end9 : Store
  end9 =
      store_of 0 15
      (leaf_slot (false ∷ true ∷ false ∷ []) 5 14 (key_of 64 0) (value_of 1)
      ∷ leaf_slot (false ∷ true ∷ true ∷ []) 5 14 (key_of 96 0) (value_of 3)
      ∷ leaf_slot (false ∷ false ∷ []) 5 14 (key_of 0 0) (value_of 1)
      ∷ inner_slot (false ∷ true ∷ []) 5 14 5 h0 5 h31 1 1
      ∷ inner_slot (false ∷ []) 5 14 5 h32 5 h33 1 2
      ∷ leaf_slot (true ∷ []) 5 9 (key_of 144 0) (value_of 3)
      ∷ inner_slot ([]) 5 9 5 h34 5 h10 3 1
      ∷ inner_slot ([]) 9 14 5 h34 0 zeros 3 0
      ∷ leaf_slot ([]) 14 15 (key_of 0 0) (value_of 4)
      ∷ leaf_slot (false ∷ []) 15 0 (key_of 0 0) (value_of 4)
      ∷ leaf_slot (true ∷ []) 15 0 (key_of 254 0) (value_of 2)
      ∷ inner_slot ([]) 15 0 15 h35 15 h36 1 1
      ∷ [])

  abbrev end10 : Store
  end10 =
      store_of 5 5
      (free
      ∷ free
      ∷ free
      ∷ free
      ∷ free
      ∷ free
      ∷ free
      ∷ free
      ∷ free
      ∷ free
      ∷ free
      ∷ free
      ∷ free
      ∷ free
      ∷ free
      ∷ free
      ∷ [])

  abbrev end11 : Store
  end11 =
      store_of 0 7
      (leaf_slot (false ∷ true ∷ false ∷ []) 3 7 (key_of 64 0) (value_of 3)
      ∷ leaf_slot (false ∷ true ∷ true ∷ []) 3 0 (key_of 104 0) (value_of 3)
      ∷ inner_slot (false ∷ true ∷ []) 3 7 3 h40 3 h41 1 1
      ∷ inner_slot (false ∷ []) 3 7 0 zeros 3 h42 0 2
      ∷ leaf_slot (true ∷ []) 3 6 (key_of 128 0) (value_of 3)
      ∷ inner_slot ([]) 3 4 3 h43 3 h44 2 1
      ∷ inner_slot ([]) 4 6 3 h43 3 h44 2 1
      ∷ leaf_slot (true ∷ []) 6 7 (key_of 128 0) (value_of 4)
      ∷ inner_slot ([]) 6 7 3 h43 6 h45 2 1
      ∷ leaf_slot (false ∷ true ∷ false ∷ []) 7 0 (key_of 64 0) (value_of 2)
      ∷ inner_slot (false ∷ true ∷ []) 7 0 7 h46 3 h41 1 1
      ∷ leaf_slot (true ∷ false ∷ []) 7 0 (key_of 128 0) (value_of 4)
      ∷ leaf_slot (true ∷ true ∷ []) 7 0 (key_of 255 0) (value_of 2)
      ∷ inner_slot (false ∷ []) 7 0 0 zeros 7 h47 0 2
      ∷ inner_slot (true ∷ []) 7 0 7 h45 7 h7 1 1
      ∷ inner_slot ([]) 7 0 7 h48 7 h49 2 2
      ∷ [])

  abbrev end12 : Store
  end12 =
      store_of 0 5
      (leaf_slot ([]) 1 5 (key_of 144 0) (value_of 3)
      ∷ leaf_slot ([]) 5 0 (key_of 144 0) (value_of 3)
      ∷ free
      ∷ free
      ∷ free
      ∷ free
      ∷ free
      ∷ free
      ∷ [])

  abbrev end13 : Store
  end13 =
      store_of 13 18
      (inner_slot ([]) 18 0 14 h55 9 h56 2 1
      ∷ free
      ∷ free
      ∷ free
      ∷ free
      ∷ leaf_slot (false ∷ false ∷ false ∷ false ∷ []) 9 14 (key_of 8 0) (value_of 3)
      ∷ leaf_slot (false ∷ false ∷ false ∷ true ∷ []) 9 0 (key_of 16 0) (value_of 2)
      ∷ inner_slot (false ∷ false ∷ false ∷ []) 9 14 9 h6 9 h11 1 1
      ∷ inner_slot (false ∷ false ∷ []) 9 14 9 h57 0 zeros 2 0
      ∷ inner_slot (false ∷ []) 9 14 9 h58 0 zeros 2 0
      ∷ leaf_slot (true ∷ []) 9 0 (key_of 254 0) (value_of 1)
      ∷ inner_slot ([]) 9 14 9 h59 9 h56 2 1
      ∷ leaf_slot (false ∷ false ∷ false ∷ false ∷ []) 14 0 (key_of 0 0) (value_of 1)
      ∷ inner_slot (false ∷ false ∷ false ∷ []) 14 0 14 h32 9 h11 1 1
      ∷ inner_slot (false ∷ false ∷ []) 14 0 14 h53 0 zeros 2 0
      ∷ inner_slot (false ∷ []) 14 0 14 h54 0 zeros 2 0
      ∷ inner_slot ([]) 14 18 14 h55 9 h56 2 1
      ∷ free
      ∷ free
      ∷ free
      ∷ free
      ∷ free
      ∷ free
      ∷ free
      ∷ [])

  abbrev end14 : Store
  end14 =
      store_of 2 7
      (inner_slot (true ∷ []) 7 0 0 zeros 2 h64 0 2
      ∷ leaf_slot (true ∷ true ∷ false ∷ []) 2 0 (key_of 192 0) (value_of 4)
      ∷ leaf_slot (true ∷ true ∷ true ∷ []) 2 0 (key_of 255 0) (value_of 2)
      ∷ leaf_slot (true ∷ false ∷ []) 2 7 (key_of 128 0) (value_of 4)
      ∷ inner_slot (true ∷ true ∷ []) 2 0 2 h2 2 h7 1 1
      ∷ inner_slot (true ∷ []) 2 7 2 h45 2 h64 1 2
      ∷ inner_slot ([]) 2 3 0 zeros 2 h65 0 3
      ∷ inner_slot ([]) 3 4 0 zeros 2 h65 0 3
      ∷ inner_slot ([]) 4 7 0 zeros 2 h65 0 3
      ∷ inner_slot ([]) 7 0 0 zeros 7 h66 0 2
      ∷ free
      ∷ free
      ∷ free
      ∷ free
      ∷ free
      ∷ free
      ∷ [])

  abbrev end15 : Store
  end15 =
      store_of 4294967293 4294967295
      (leaf_slot ([]) 4294967295 0 (key_of 255 0) (value_of 1)
      ∷ free
      ∷ free
      ∷ free
      ∷ free
      ∷ free
      ∷ free
      ∷ free
      ∷ free
      ∷ free
      ∷ free
      ∷ free
      ∷ [])

  abbrev end16 : Store
  end16 =
      store_of 1 3
      (leaf_slot (false ∷ false ∷ []) 2 3 (key_of 16 0) (value_of 1)
      ∷ leaf_slot (false ∷ true ∷ []) 2 3 (key_of 96 0) (value_of 2)
      ∷ inner_slot (false ∷ []) 2 3 2 h69 2 h70 1 1
      ∷ leaf_slot (true ∷ []) 2 0 (key_of 128 0) (value_of 4)
      ∷ inner_slot ([]) 2 3 2 h71 2 h45 2 1
      ∷ leaf_slot (false ∷ []) 3 0 (key_of 96 0) (value_of 2)
      ∷ inner_slot ([]) 3 0 3 h70 2 h45 1 1
      ∷ free
      ∷ [])

  abbrev end17 : Store
  end17 =
      store_of 2 9
      (leaf_slot ([]) 3 4 (key_of 96 0) (value_of 1)
      ∷ leaf_slot ([]) 4 9 (key_of 96 0) (value_of 1)
      ∷ leaf_slot (false ∷ false ∷ []) 9 0 (key_of 16 0) (value_of 1)
      ∷ leaf_slot (false ∷ true ∷ []) 9 0 (key_of 96 0) (value_of 3)
      ∷ inner_slot (false ∷ []) 9 0 9 h69 9 h31 1 1
      ∷ leaf_slot (true ∷ []) 9 0 (key_of 255 0) (value_of 3)
      ∷ inner_slot ([]) 9 0 9 h74 9 h75 2 1
      ∷ free
      ∷ [])

  abbrev end18 : Store
  end18 =
      store_of 8 8
      (free
      ∷ free
      ∷ free
      ∷ leaf_slot ([]) 8 0 (key_of 255 0) (value_of 4)
      ∷ [])

  abbrev end19 : Store
  end19 =
      store_of 0 8
      (leaf_slot ([]) 8 0 (key_of 64 0) (value_of 2)
      ∷ free
      ∷ free
      ∷ free
      ∷ free
      ∷ free
      ∷ free
      ∷ free
      ∷ free
      ∷ free
      ∷ free
      ∷ free
      ∷ free
      ∷ free
      ∷ free
      ∷ free
      ∷ free
      ∷ free
      ∷ free
      ∷ free
      ∷ free
      ∷ free
      ∷ free
      ∷ free
      ∷ [])

  abbrev end20 : Store
  end20 =
      store_of 0 13
      (leaf_slot ([]) 4 9 (key_of 104 0) (value_of 1)
      ∷ leaf_slot ([]) 9 10 (key_of 104 0) (value_of 1)
      ∷ leaf_slot ([]) 10 12 (key_of 104 0) (value_of 1)
      ∷ leaf_slot (false ∷ []) 12 0 (key_of 104 0) (value_of 1)
      ∷ leaf_slot (true ∷ []) 12 0 (key_of 128 0) (value_of 1)
      ∷ inner_slot ([]) 12 13 12 h77 12 h26 1 1
      ∷ inner_slot ([]) 13 0 12 h77 12 h26 1 1
      ∷ free
      ∷ free
      ∷ free
      ∷ free
      ∷ free
      ∷ [])

  abbrev end21 : Store
  end21 =
      store_of 0 3
      (leaf_slot ([]) 2 3 (key_of 16 0) (value_of 3)
      ∷ leaf_slot ([]) 3 0 (key_of 16 0) (value_of 2)
      ∷ free
      ∷ free
      ∷ [])

  abbrev end22 : Store
  end22 =
      store_of 4294967293 4294967295
      (leaf_slot (true ∷ false ∷ false ∷ false ∷ []) 4294967295 0 (key_of 128 0) (value_of 1)
      ∷ leaf_slot (true ∷ false ∷ false ∷ true ∷ []) 4294967295 0 (key_of 144 0) (value_of 2)
      ∷ inner_slot (true ∷ false ∷ false ∷ []) 4294967295 0 4294967295 h26 4294967295 h79 1 1
      ∷ inner_slot (true ∷ false ∷ []) 4294967295 0 4294967295 h80 0 zeros 2 0
      ∷ leaf_slot (false ∷ []) 4294967295 0 (key_of 64 0) (value_of 4)
      ∷ inner_slot (true ∷ []) 4294967295 0 4294967295 h81 0 zeros 2 0
      ∷ inner_slot ([]) 4294967295 0 4294967295 h22 4294967295 h82 1 2
      ∷ free
      ∷ free
      ∷ free
      ∷ free
      ∷ free
      ∷ free
      ∷ free
      ∷ free
      ∷ free
      ∷ [])

  abbrev end23 : Store
  end23 =
      store_of 0 6
      (leaf_slot ([]) 1 2 (key_of 96 0) (value_of 1)
      ∷ leaf_slot ([]) 2 3 (key_of 255 0) (value_of 3)
      ∷ leaf_slot (false ∷ []) 3 4 (key_of 104 0) (value_of 2)
      ∷ leaf_slot (true ∷ []) 3 0 (key_of 255 0) (value_of 3)
      ∷ inner_slot ([]) 3 4 3 h84 3 h75 1 1
      ∷ leaf_slot (false ∷ []) 4 0 (key_of 104 0) (value_of 4)
      ∷ inner_slot ([]) 4 6 4 h85 3 h75 1 1
      ∷ inner_slot ([]) 6 0 4 h85 3 h75 1 1
      ∷ [])

  abbrev end24 : Store
  end24 =
      store_of 0 1
      (leaf_slot ([]) 1 0 (key_of 254 0) (value_of 2)
      ∷ free
      ∷ free
      ∷ free
      ∷ free
      ∷ free
      ∷ free
      ∷ free
      ∷ free
      ∷ free
      ∷ free
      ∷ free
      ∷ free
      ∷ free
      ∷ free
      ∷ free
      ∷ free
      ∷ free
      ∷ free
      ∷ free
      ∷ free
      ∷ free
      ∷ free
      ∷ free
      ∷ [])

  abbrev end25 : Store
  end25 =
      store_of 4294967295 4294967295
      (leaf_slot ([]) 4294967295 0 (key_of 254 0) (value_of 3)
      ∷ free
      ∷ free
      ∷ free
      ∷ free
      ∷ free
      ∷ free
      ∷ free
      ∷ free
      ∷ free
      ∷ free
      ∷ free
      ∷ [])

  abbrev end26 : Store
  end26 =
      store_of 0 6
      (leaf_slot ([]) 2 3 (key_of 192 0) (value_of 2)
      ∷ leaf_slot ([]) 3 4 (key_of 192 0) (value_of 2)
      ∷ leaf_slot ([]) 4 6 (key_of 192 0) (value_of 4)
      ∷ leaf_slot ([]) 6 0 (key_of 192 0) (value_of 4)
      ∷ [])

  abbrev end27 : Store
  end27 =
      store_of 5 9
      (free
      ∷ leaf_slot (false ∷ []) 4 7 (key_of 0 0) (value_of 1)
      ∷ leaf_slot (true ∷ []) 4 7 (key_of 144 0) (value_of 1)
      ∷ inner_slot ([]) 4 6 4 h32 4 h12 1 1
      ∷ inner_slot ([]) 6 7 4 h32 4 h12 1 1
      ∷ leaf_slot (true ∷ false ∷ []) 7 0 (key_of 144 0) (value_of 1)
      ∷ leaf_slot (true ∷ true ∷ []) 7 0 (key_of 192 0) (value_of 1)
      ∷ inner_slot (true ∷ []) 7 0 7 h12 7 h89 1 1
      ∷ inner_slot ([]) 7 8 0 zeros 7 h90 0 2
      ∷ inner_slot ([]) 8 9 0 zeros 7 h90 0 2
      ∷ inner_slot ([]) 9 0 0 zeros 7 h90 0 2
      ∷ free
      ∷ [])

  abbrev end28 : Store
  end28 =
      store_of 12 14
      (free
      ∷ leaf_slot (false ∷ false ∷ []) 5 0 (key_of 16 0) (value_of 1)
      ∷ leaf_slot (false ∷ true ∷ []) 5 0 (key_of 64 0) (value_of 1)
      ∷ inner_slot (false ∷ []) 5 0 5 h69 5 h0 1 1
      ∷ free
      ∷ inner_slot ([]) 10 14 5 h93 0 zeros 2 0
      ∷ leaf_slot (true ∷ []) 14 0 (key_of 128 0) (value_of 1)
      ∷ inner_slot ([]) 14 0 5 h93 14 h26 2 1
      ∷ free
      ∷ free
      ∷ free
      ∷ free
      ∷ [])

  abbrev end29 : Store
  end29 =
      store_of 5 10
      (leaf_slot ([]) 8 9 (key_of 0 0) (value_of 3)
      ∷ leaf_slot (false ∷ []) 9 10 (key_of 0 0) (value_of 3)
      ∷ leaf_slot (true ∷ []) 9 10 (key_of 128 0) (value_of 2)
      ∷ inner_slot ([]) 9 10 9 h96 9 h29 1 1
      ∷ leaf_slot ([]) 10 0 (key_of 0 0) (value_of 3)
      ∷ free
      ∷ free
      ∷ free
      ∷ [])

  abbrev rows : List Game
  rows =
      game (store_of 0 0 (free_slots 16))
      (pruning 0 ∷ applying 3 (delete (key_of 16 0) ∷ insert (key_of 64 0) (value_of 1) ∷ []) ∷ pruning 1 ∷ applying 4 (delete (key_of 192 0) ∷ []) ∷ applying 5 (delete (key_of 192 0) ∷ []) ∷ applying 6 ([]) ∷ applying 7 (insert (key_of 192 0) (value_of 3) ∷ []) ∷ applying 10 (delete (key_of 16 0) ∷ insert (key_of 192 0) (value_of 4) ∷ []) ∷ pruning 5 ∷ [])
      (freed 0 ∷ made 3 h0 1 ∷ freed 0 ∷ made 4 h0 1 ∷ made 5 h0 1 ∷ made 6 h0 1 ∷ made 7 h3 3 ∷ made 10 h4 2 ∷ freed 2 ∷ [])
      end0
      ∷ game (store_of 0 0 (free_slots 12))
      (applying 1 (insert (key_of 255 0) (value_of 3) ∷ insert (key_of 0 0) (value_of 2) ∷ []) ∷ pruning 1 ∷ applying 1 (insert (key_of 255 0) (value_of 1) ∷ []) ∷ applying 2 ([]) ∷ applying 3 (delete (key_of 255 0) ∷ []) ∷ applying 6 (delete (key_of 255 0) ∷ []) ∷ [])
      (denied 5 ∷ denied 8 ∷ made 1 h5 1 ∷ made 2 h5 1 ∷ made 3 zeros 0 ∷ made 6 zeros 0 ∷ [])
      end1
      ∷ game (store_of 0 0 (free_slots 8))
      (pruning 1 ∷ applying 0 (insert (key_of 8 0) (value_of 4) ∷ []) ∷ pruning 1 ∷ applying 5 ([]) ∷ pruning 4 ∷ applying 6 (delete (key_of 8 0) ∷ delete (key_of 255 0) ∷ []) ∷ applying 7 (insert (key_of 8 0) (value_of 3) ∷ []) ∷ applying 11 (insert (key_of 255 0) (value_of 2) ∷ []) ∷ applying 14 (delete (key_of 8 0) ∷ insert (key_of 255 0) (value_of 2) ∷ []) ∷ [])
      (denied 8 ∷ denied 18 ∷ denied 8 ∷ made 5 zeros 0 ∷ freed 0 ∷ made 6 zeros 0 ∷ made 7 h6 1 ∷ made 11 h8 3 ∷ made 14 h7 1 ∷ [])
      end2
      ∷ game (store_of 4294967293 4294967293 (free_slots 8))
      (applying 4294967294 (insert (key_of 16 0) (value_of 2) ∷ insert (key_of 144 0) (value_of 1) ∷ []) ∷ pruning 4294967292 ∷ applying 4294967295 (insert (key_of 16 0) (value_of 3) ∷ insert (key_of 144 0) (value_of 3) ∷ []) ∷ pruning 4294967296 ∷ applying 4294967295 ([]) ∷ pruning 4294967295 ∷ [])
      (made 4294967294 h13 3 ∷ denied 8 ∷ made 4294967295 h14 3 ∷ denied 8 ∷ denied 18 ∷ freed 3 ∷ [])
      end3
      ∷ game (store_of 0 0 (free_slots 8))
      (pruning 0 ∷ applying 1 (insert (key_of 96 0) (value_of 1) ∷ delete (key_of 128 0) ∷ insert (key_of 144 0) (value_of 1) ∷ insert (key_of 254 0) (value_of 3) ∷ []) ∷ pruning 1 ∷ applying 2 (insert (key_of 64 0) (value_of 2) ∷ insert (key_of 254 0) (value_of 3) ∷ []) ∷ pruning 2 ∷ applying 2 (insert (key_of 254 0) (value_of 4) ∷ []) ∷ [])
      (freed 0 ∷ made 1 h20 5 ∷ freed 0 ∷ denied 7 ∷ denied 8 ∷ made 2 h21 3 ∷ [])
      end4
      ∷ game (store_of 0 0 (free_slots 8))
      (pruning 1 ∷ applying 1 (insert (key_of 64 0) (value_of 4) ∷ delete (key_of 128 0) ∷ insert (key_of 255 0) (value_of 2) ∷ []) ∷ applying 2 (insert (key_of 255 0) (value_of 4) ∷ []) ∷ applying 5 (insert (key_of 128 0) (value_of 1) ∷ insert (key_of 192 0) (value_of 1) ∷ delete (key_of 255 0) ∷ []) ∷ [])
      (denied 8 ∷ made 1 h24 3 ∷ made 2 h25 2 ∷ denied 7 ∷ [])
      end5
      ∷ game (store_of 0 0 (free_slots 8))
      (applying 2 ([]) ∷ applying 6 (delete (key_of 0 0) ∷ delete (key_of 64 0) ∷ delete (key_of 128 0) ∷ []) ∷ applying 10 (delete (key_of 0 0) ∷ insert (key_of 254 0) (value_of 3) ∷ []) ∷ applying 14 (delete (key_of 0 0) ∷ insert (key_of 128 0) (value_of 1) ∷ insert (key_of 254 0) (value_of 3) ∷ []) ∷ pruning 12 ∷ applying 18 (insert (key_of 0 0) (value_of 3) ∷ insert (key_of 254 0) (value_of 4) ∷ []) ∷ [])
      (made 2 zeros 0 ∷ made 6 zeros 0 ∷ made 10 h15 1 ∷ made 14 h28 4 ∷ freed 0 ∷ denied 7 ∷ [])
      end6
      ∷ game (store_of 4294967293 4294967293 (free_slots 4))
      (applying 4294967294 (insert (key_of 64 0) (value_of 4) ∷ insert (key_of 128 0) (value_of 2) ∷ []) ∷ applying 4294967295 (insert (key_of 64 0) (value_of 4) ∷ []) ∷ pruning 4294967295 ∷ applying 4294967295 (insert (key_of 128 0) (value_of 2) ∷ []) ∷ applying 4294967295 (delete (key_of 128 0) ∷ []) ∷ applying 4294967295 (insert (key_of 64 0) (value_of 4) ∷ delete (key_of 128 0) ∷ []) ∷ applying 4294967295 (delete (key_of 64 0) ∷ insert (key_of 128 0) (value_of 3) ∷ []) ∷ [])
      (made 4294967294 h30 3 ∷ made 4294967295 h30 1 ∷ freed 1 ∷ denied 18 ∷ denied 18 ∷ denied 18 ∷ denied 18 ∷ [])
      end7
      ∷ game (store_of 4294967293 4294967293 (free_slots 12))
      (applying 4294967294 (insert (key_of 192 0) (value_of 3) ∷ []) ∷ pruning 4294967294 ∷ applying 4294967295 (insert (key_of 192 0) (value_of 3) ∷ []) ∷ applying 2553783808 (insert (key_of 255 0) (value_of 2) ∷ []) ∷ applying 4294967295 (insert (key_of 192 0) (value_of 3) ∷ insert (key_of 254 0) (value_of 3) ∷ delete (key_of 255 0) ∷ []) ∷ pruning 4294967296 ∷ applying 4294967295 (delete (key_of 254 0) ∷ delete (key_of 255 0) ∷ []) ∷ pruning 4294967294 ∷ applying 4294967295 (delete (key_of 192 0) ∷ insert (key_of 255 0) (value_of 1) ∷ []) ∷ [])
      (made 4294967294 h1 1 ∷ freed 0 ∷ made 4294967295 h1 1 ∷ denied 18 ∷ denied 18 ∷ denied 8 ∷ denied 18 ∷ freed 0 ∷ denied 18 ∷ [])
      end8
      ∷ game (store_of 0 0 (free_slots 12))
      (applying 5 (insert (key_of 0 0) (value_of 1) ∷ insert (key_of 64 0) (value_of 1) ∷ insert (key_of 96 0) (value_of 3) ∷ insert (key_of 144 0) (value_of 3) ∷ []) ∷ applying 9 (delete (key_of 144 0) ∷ []) ∷ pruning 0 ∷ applying 9 (insert (key_of 0 0) (value_of 2) ∷ delete (key_of 96 0) ∷ delete (key_of 254 0) ∷ []) ∷ applying 14 (insert (key_of 0 0) (value_of 4) ∷ delete (key_of 64 0) ∷ delete (key_of 96 0) ∷ []) ∷ applying 15 (insert (key_of 254 0) (value_of 2) ∷ []) ∷ [])
      (made 5 h37 7 ∷ made 9 h38 1 ∷ freed 0 ∷ denied 18 ∷ made 14 h35 1 ∷ made 15 h39 3 ∷ [])
      end9
      ∷ game (store_of 0 0 (free_slots 16))
      (applying 3 (delete (key_of 0 0) ∷ insert (key_of 128 0) (value_of 1) ∷ delete (key_of 144 0) ∷ delete (key_of 254 0) ∷ []) ∷ applying 4 (delete (key_of 254 0) ∷ []) ∷ applying 8 (delete (key_of 144 0) ∷ insert (key_of 128 0) (value_of 1) ∷ []) ∷ applying 5 (delete (key_of 128 0) ∷ []) ∷ pruning 4 ∷ applying 6 (insert (key_of 254 0) (value_of 2) ∷ delete (key_of 128 0) ∷ insert (key_of 0 0) (value_of 2) ∷ []) ∷ applying 1 (insert (key_of 254 0) (value_of 3) ∷ []) ∷ pruning 5 ∷ [])
      (made 3 h26 1 ∷ made 4 h26 1 ∷ denied 5 ∷ made 5 zeros 0 ∷ freed 1 ∷ denied 5 ∷ denied 18 ∷ freed 1 ∷ [])
      end10
      ∷ game (store_of 0 0 (free_slots 16))
      (applying 2 (delete (key_of 64 0) ∷ []) ∷ applying 3 (delete (key_of 8 0) ∷ insert (key_of 64 0) (value_of 3) ∷ insert (key_of 104 0) (value_of 3) ∷ insert (key_of 128 0) (value_of 3) ∷ []) ∷ pruning 0 ∷ applying 4 ([]) ∷ applying 6 (insert (key_of 104 0) (value_of 3) ∷ insert (key_of 128 0) (value_of 4) ∷ []) ∷ applying 7 (insert (key_of 64 0) (value_of 2) ∷ insert (key_of 255 0) (value_of 2) ∷ []) ∷ [])
      (made 2 zeros 0 ∷ made 3 h50 6 ∷ freed 0 ∷ made 4 h50 1 ∷ made 6 h51 2 ∷ made 7 h52 7 ∷ [])
      end11
      ∷ game (store_of 0 0 (free_slots 8))
      (pruning 0 ∷ pruning 0 ∷ applying 1 (insert (key_of 144 0) (value_of 3) ∷ []) ∷ pruning 0 ∷ applying 5 (delete (key_of 0 0) ∷ insert (key_of 144 0) (value_of 3) ∷ []) ∷ [])
      (freed 0 ∷ freed 0 ∷ made 1 h10 1 ∷ freed 0 ∷ made 5 h10 1 ∷ [])
      end12
      ∷ game (store_of 0 0 (free_slots 24))
      (applying 2 (insert (key_of 8 0) (value_of 4) ∷ insert (key_of 254 0) (value_of 3) ∷ []) ∷ applying 3 (delete (key_of 0 0) ∷ delete (key_of 8 0) ∷ []) ∷ applying 4 (delete (key_of 144 0) ∷ insert (key_of 254 0) (value_of 1) ∷ []) ∷ applying 9 (insert (key_of 8 0) (value_of 3) ∷ insert (key_of 16 0) (value_of 2) ∷ []) ∷ applying 14 (insert (key_of 0 0) (value_of 1) ∷ delete (key_of 8 0) ∷ []) ∷ pruning 2 ∷ pruning 13 ∷ applying 18 (insert (key_of 254 0) (value_of 1) ∷ []) ∷ [])
      (made 2 h61 3 ∷ made 3 h15 1 ∷ made 4 h56 1 ∷ made 9 h62 7 ∷ made 14 h63 5 ∷ freed 0 ∷ freed 5 ∷ made 18 h63 1 ∷ [])
      end13
      ∷ game (store_of 0 0 (free_slots 16))
      (applying 1 (delete (key_of 128 0) ∷ insert (key_of 192 0) (value_of 4) ∷ delete (key_of 255 0) ∷ []) ∷ applying 2 (insert (key_of 128 0) (value_of 4) ∷ insert (key_of 192 0) (value_of 4) ∷ insert (key_of 255 0) (value_of 2) ∷ []) ∷ pruning 1 ∷ applying 3 ([]) ∷ pruning 1 ∷ applying 4 (insert (key_of 192 0) (value_of 4) ∷ insert (key_of 255 0) (value_of 2) ∷ []) ∷ pruning 2 ∷ applying 7 (delete (key_of 128 0) ∷ []) ∷ [])
      (made 1 h2 1 ∷ made 2 h67 6 ∷ freed 0 ∷ made 3 h67 1 ∷ freed 0 ∷ made 4 h67 1 ∷ freed 1 ∷ made 7 h68 2 ∷ [])
      end14
      ∷ game (store_of 4294967293 4294967293 (free_slots 12))
      (applying 4294967295 (insert (key_of 255 0) (value_of 1) ∷ []) ∷ applying 4294967295 (delete (key_of 96 0) ∷ insert (key_of 192 0) (value_of 1) ∷ []) ∷ applying 4294967295 (insert (key_of 8 0) (value_of 2) ∷ insert (key_of 192 0) (value_of 2) ∷ []) ∷ applying 1594241203 (insert (key_of 8 0) (value_of 1) ∷ delete (key_of 16 0) ∷ insert (key_of 255 0) (value_of 1) ∷ []) ∷ pruning 4294967296 ∷ applying 4294967295 (delete (key_of 8 0) ∷ insert (key_of 96 0) (value_of 2) ∷ insert (key_of 192 0) (value_of 3) ∷ insert (key_of 255 0) (value_of 1) ∷ []) ∷ [])
      (made 4294967295 h5 1 ∷ denied 18 ∷ denied 18 ∷ denied 18 ∷ denied 8 ∷ denied 18 ∷ [])
      end15
      ∷ game (store_of 0 0 (free_slots 8))
      (applying 1 ([]) ∷ pruning 1 ∷ applying 2 (insert (key_of 16 0) (value_of 1) ∷ insert (key_of 96 0) (value_of 2) ∷ insert (key_of 128 0) (value_of 4) ∷ []) ∷ pruning 3 ∷ applying 3 (delete (key_of 16 0) ∷ []) ∷ [])
      (made 1 zeros 0 ∷ freed 0 ∷ made 2 h72 5 ∷ denied 8 ∷ made 3 h73 2 ∷ [])
      end16
      ∷ game (store_of 0 0 (free_slots 8))
      (applying 3 (delete (key_of 16 0) ∷ insert (key_of 96 0) (value_of 1) ∷ delete (key_of 192 0) ∷ []) ∷ applying 4 (delete (key_of 192 0) ∷ []) ∷ pruning 2 ∷ applying 9 (insert (key_of 16 0) (value_of 1) ∷ insert (key_of 96 0) (value_of 3) ∷ insert (key_of 255 0) (value_of 3) ∷ []) ∷ applying 10 (insert (key_of 16 0) (value_of 4) ∷ delete (key_of 128 0) ∷ insert (key_of 255 0) (value_of 4) ∷ []) ∷ [])
      (made 3 h16 1 ∷ made 4 h16 1 ∷ freed 0 ∷ made 9 h76 5 ∷ denied 7 ∷ [])
      end17
      ∷ game (store_of 0 0 (free_slots 4))
      (applying 3 (insert (key_of 255 0) (value_of 4) ∷ []) ∷ applying 4 (insert (key_of 255 0) (value_of 4) ∷ []) ∷ applying 7 ([]) ∷ applying 8 (delete (key_of 192 0) ∷ insert (key_of 255 0) (value_of 4) ∷ []) ∷ applying 9 (insert (key_of 255 0) (value_of 4) ∷ []) ∷ applying 12 ([]) ∷ applying 9 (insert (key_of 8 0) (value_of 2) ∷ delete (key_of 255 0) ∷ []) ∷ pruning 8 ∷ pruning 7 ∷ [])
      (made 3 h23 1 ∷ made 4 h23 1 ∷ made 7 h23 1 ∷ made 8 h23 1 ∷ denied 7 ∷ denied 7 ∷ denied 7 ∷ freed 3 ∷ denied 8 ∷ [])
      end18
      ∷ game (store_of 0 0 (free_slots 24))
      (applying 4 ([]) ∷ applying 6 ([]) ∷ applying 7 ([]) ∷ pruning 0 ∷ pruning 8 ∷ applying 8 (insert (key_of 64 0) (value_of 2) ∷ []) ∷ [])
      (made 4 zeros 0 ∷ made 6 zeros 0 ∷ made 7 zeros 0 ∷ freed 0 ∷ denied 8 ∷ made 8 h46 1 ∷ [])
      end19
      ∷ game (store_of 0 0 (free_slots 12))
      (applying 4 (insert (key_of 104 0) (value_of 1) ∷ delete (key_of 144 0) ∷ []) ∷ applying 9 (insert (key_of 104 0) (value_of 1) ∷ delete (key_of 128 0) ∷ []) ∷ applying 10 (delete (key_of 128 0) ∷ []) ∷ applying 12 (insert (key_of 128 0) (value_of 1) ∷ []) ∷ applying 13 (delete (key_of 8 0) ∷ []) ∷ pruning 0 ∷ [])
      (made 4 h77 1 ∷ made 9 h77 1 ∷ made 10 h77 1 ∷ made 12 h78 3 ∷ made 13 h78 1 ∷ freed 0 ∷ [])
      end20
      ∷ game (store_of 0 0 (free_slots 4))
      (pruning 1 ∷ applying 1 ([]) ∷ applying 2 (insert (key_of 16 0) (value_of 3) ∷ delete (key_of 64 0) ∷ []) ∷ applying 3 (insert (key_of 16 0) (value_of 2) ∷ delete (key_of 64 0) ∷ []) ∷ applying 4 (insert (key_of 64 0) (value_of 3) ∷ insert (key_of 96 0) (value_of 3) ∷ []) ∷ [])
      (denied 8 ∷ made 1 zeros 0 ∷ made 2 h9 1 ∷ made 3 h11 1 ∷ denied 7 ∷ [])
      end21
      ∷ game (store_of 4294967293 4294967293 (free_slots 16))
      (applying 4294967294 ([]) ∷ applying 4294967295 (delete (key_of 0 0) ∷ insert (key_of 64 0) (value_of 4) ∷ insert (key_of 128 0) (value_of 1) ∷ insert (key_of 144 0) (value_of 2) ∷ []) ∷ applying 4294967295 (insert (key_of 0 0) (value_of 3) ∷ insert (key_of 128 0) (value_of 2) ∷ delete (key_of 144 0) ∷ insert (key_of 192 0) (value_of 3) ∷ []) ∷ applying 4294967295 (delete (key_of 64 0) ∷ []) ∷ [])
      (made 4294967294 zeros 0 ∷ made 4294967295 h83 7 ∷ denied 18 ∷ denied 18 ∷ [])
      end22
      ∷ game (store_of 0 0 (free_slots 8))
      (applying 1 (insert (key_of 96 0) (value_of 1) ∷ []) ∷ applying 2 (delete (key_of 96 0) ∷ insert (key_of 255 0) (value_of 3) ∷ []) ∷ applying 3 (insert (key_of 104 0) (value_of 2) ∷ []) ∷ applying 4 (delete (key_of 104 0) ∷ insert (key_of 128 0) (value_of 1) ∷ insert (key_of 255 0) (value_of 3) ∷ []) ∷ applying 4 (insert (key_of 104 0) (value_of 4) ∷ delete (key_of 128 0) ∷ []) ∷ pruning 0 ∷ applying 6 ([]) ∷ [])
      (made 1 h16 1 ∷ made 2 h75 1 ∷ made 3 h86 3 ∷ denied 7 ∷ made 4 h87 2 ∷ freed 0 ∷ made 6 h87 1 ∷ [])
      end23
      ∷ game (store_of 0 0 (free_slots 24))
      (pruning 0 ∷ pruning 0 ∷ pruning 0 ∷ applying 1 (delete (key_of 104 0) ∷ insert (key_of 254 0) (value_of 2) ∷ []) ∷ [])
      (freed 0 ∷ freed 0 ∷ freed 0 ∷ made 1 h36 1 ∷ [])
      end24
      ∷ game (store_of 4294967293 4294967293 (free_slots 12))
      (applying 2996118811 (insert (key_of 16 0) (value_of 1) ∷ []) ∷ applying 4294967295 (insert (key_of 254 0) (value_of 3) ∷ []) ∷ applying 4294967295 (insert (key_of 16 0) (value_of 1) ∷ delete (key_of 254 0) ∷ []) ∷ applying 4294967295 (delete (key_of 16 0) ∷ insert (key_of 254 0) (value_of 1) ∷ []) ∷ applying 4294967295 (delete (key_of 16 0) ∷ delete (key_of 144 0) ∷ insert (key_of 192 0) (value_of 2) ∷ insert (key_of 254 0) (value_of 3) ∷ []) ∷ applying 4294967295 (insert (key_of 16 0) (value_of 1) ∷ insert (key_of 144 0) (value_of 3) ∷ insert (key_of 254 0) (value_of 1) ∷ []) ∷ applying 4294967295 (insert (key_of 16 0) (value_of 3) ∷ delete (key_of 144 0) ∷ delete (key_of 192 0) ∷ []) ∷ pruning 4294967295 ∷ applying 4294967295 ([]) ∷ pruning 4294967294 ∷ [])
      (denied 18 ∷ made 4294967295 h15 1 ∷ denied 18 ∷ denied 18 ∷ denied 18 ∷ denied 18 ∷ denied 18 ∷ freed 0 ∷ denied 18 ∷ denied 8 ∷ [])
      end25
      ∷ game (store_of 0 0 (free_slots 4))
      (applying 1 (insert (key_of 64 0) (value_of 2) ∷ insert (key_of 192 0) (value_of 2) ∷ insert (key_of 254 0) (value_of 1) ∷ []) ∷ applying 2 (insert (key_of 192 0) (value_of 2) ∷ []) ∷ pruning 0 ∷ applying 3 (insert (key_of 128 0) (value_of 3) ∷ insert (key_of 192 0) (value_of 2) ∷ []) ∷ applying 3 (delete (key_of 64 0) ∷ []) ∷ applying 7 (insert (key_of 64 0) (value_of 1) ∷ []) ∷ applying 4 (insert (key_of 192 0) (value_of 4) ∷ []) ∷ applying 6 (delete (key_of 254 0) ∷ []) ∷ applying 7 (insert (key_of 64 0) (value_of 1) ∷ insert (key_of 104 0) (value_of 1) ∷ insert (key_of 192 0) (value_of 3) ∷ insert (key_of 254 0) (value_of 3) ∷ []) ∷ applying 0 (delete (key_of 104 0) ∷ delete (key_of 128 0) ∷ delete (key_of 192 0) ∷ []) ∷ [])
      (denied 7 ∷ made 2 h88 1 ∷ freed 0 ∷ denied 7 ∷ made 3 h88 1 ∷ denied 7 ∷ made 4 h2 1 ∷ made 6 h2 1 ∷ denied 7 ∷ denied 18 ∷ [])
      end26
      ∷ game (store_of 0 0 (free_slots 12))
      (applying 0 (delete (key_of 0 0) ∷ insert (key_of 144 0) (value_of 3) ∷ []) ∷ applying 3 (insert (key_of 0 0) (value_of 1) ∷ []) ∷ applying 4 (insert (key_of 0 0) (value_of 1) ∷ insert (key_of 144 0) (value_of 1) ∷ []) ∷ applying 6 (insert (key_of 144 0) (value_of 1) ∷ []) ∷ applying 7 (delete (key_of 0 0) ∷ insert (key_of 192 0) (value_of 1) ∷ []) ∷ applying 8 (insert (key_of 192 0) (value_of 1) ∷ []) ∷ applying 9 (delete (key_of 0 0) ∷ insert (key_of 144 0) (value_of 1) ∷ []) ∷ pruning 5 ∷ [])
      (denied 18 ∷ made 3 h32 1 ∷ made 4 h91 3 ∷ made 6 h91 1 ∷ made 7 h92 4 ∷ made 8 h92 1 ∷ made 9 h92 1 ∷ freed 1 ∷ [])
      end27
      ∷ game (store_of 0 0 (free_slots 12))
      (applying 1 ([]) ∷ applying 4 (insert (key_of 16 0) (value_of 1) ∷ []) ∷ applying 5 (insert (key_of 64 0) (value_of 1) ∷ []) ∷ applying 10 ([]) ∷ applying 13 (delete (key_of 128 0) ∷ insert (key_of 16 0) (value_of 1) ∷ []) ∷ applying 14 (insert (key_of 64 0) (value_of 1) ∷ insert (key_of 128 0) (value_of 1) ∷ []) ∷ pruning 12 ∷ [])
      (made 1 zeros 0 ∷ made 4 h69 1 ∷ made 5 h94 4 ∷ made 10 h94 1 ∷ denied 5 ∷ made 14 h95 2 ∷ freed 2 ∷ [])
      end28
      ∷ game (store_of 0 0 (free_slots 8))
      (applying 1 (delete (key_of 0 0) ∷ []) ∷ applying 4 ([]) ∷ applying 5 ([]) ∷ applying 8 (insert (key_of 0 0) (value_of 3) ∷ []) ∷ pruning 4 ∷ applying 9 (insert (key_of 128 0) (value_of 2) ∷ []) ∷ pruning 5 ∷ applying 10 (insert (key_of 0 0) (value_of 3) ∷ delete (key_of 128 0) ∷ []) ∷ [])
      (made 1 zeros 0 ∷ made 4 zeros 0 ∷ made 5 zeros 0 ∷ made 8 h96 1 ∷ freed 0 ∷ made 9 h97 3 ∷ freed 0 ∷ made 10 h96 1 ∷ [])
      end29
      ∷ []

  pub histories1 : All (GameHolds leaf_hash inner_hash) rows
  unfolding computed
  histories1 = ((refl, refl), ((refl, refl), ((refl, refl), ((refl, refl), ((refl, refl), ((refl, refl), ((refl, refl), ((refl, refl), ((refl, refl), ((refl, refl), ((refl, refl), ((refl, refl), ((refl, refl), ((refl, refl), ((refl, refl), ((refl, refl), ((refl, refl), ((refl, refl), ((refl, refl), ((refl, refl), ((refl, refl), ((refl, refl), ((refl, refl), ((refl, refl), ((refl, refl), ((refl, refl), ((refl, refl), ((refl, refl), ((refl, refl), ((refl, refl), tt))))))))))))))))))))))))))))))
