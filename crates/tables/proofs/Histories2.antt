-- Random histories, part 2. Written by tests/tables/generate.py; compared with a second reading of document 01, 2026-07 and 2026-13. Assumes nothing.
use mathlib.Core.Path.{◌≡◌, refl}
use mathlib.Core.Bool.{true, false}
use mathlib.Core.List.{List, [], ◌∷◌}
use mathlib.Core.Option.{none, some}
use Rattle.terms.specs.Bits.{Bytes, All}
use Rattle.terms.specs.Records.{insert, delete, free, Store, presence, zeros}
use Rattle.meaning.specs.Computed.{computed}
use Rattle.meaning.specs.Calls.{refused, accepted}
use Rattle.meaning.specs.Desk.{key_of}
use Rattle.meaning.specs.Proving.{step, presence_of, absence_of}
use Rattle.meaning.specs.Reading.{present, absent}
use Rattle.tables.specs.Tables.{Game, game, GameHolds, applying, pruning, made, freed, denied, leaf_slot, inner_slot, store_of, free_slots, value_of}

module _ (leaf_hash inner_hash : Bytes → Bytes → Bytes) where
  abbrev h0 : Bytes
  h0 = leaf_hash (key_of 0 0) (value_of 3)

  abbrev h1 : Bytes
  h1 = leaf_hash (key_of 128 0) (value_of 1)

  abbrev h2 : Bytes
  h2 = inner_hash h0 h1

  abbrev h3 : Bytes
  h3 = leaf_hash (key_of 16 0) (value_of 4)

  abbrev h4 : Bytes
  h4 = leaf_hash (key_of 192 0) (value_of 4)

  abbrev h5 : Bytes
  h5 = leaf_hash (key_of 192 0) (value_of 2)

  abbrev h6 : Bytes
  h6 = inner_hash h3 h4

  abbrev h7 : Bytes
  h7 = leaf_hash (key_of 16 0) (value_of 2)

  abbrev h8 : Bytes
  h8 = leaf_hash (key_of 64 0) (value_of 1)

  abbrev h9 : Bytes
  h9 = inner_hash h7 h8

  abbrev h10 : Bytes
  h10 = inner_hash h9 zeros

  abbrev h11 : Bytes
  h11 = leaf_hash (key_of 8 0) (value_of 3)

  abbrev h12 : Bytes
  h12 = leaf_hash (key_of 128 0) (value_of 3)

  abbrev h13 : Bytes
  h13 = leaf_hash (key_of 16 0) (value_of 1)

  abbrev h14 : Bytes
  h14 = inner_hash h11 h12

  abbrev h15 : Bytes
  h15 = inner_hash h13 h12

  abbrev h16 : Bytes
  h16 = leaf_hash (key_of 0 0) (value_of 1)

  abbrev h17 : Bytes
  h17 = inner_hash h16 h12

  abbrev h18 : Bytes
  h18 = leaf_hash (key_of 64 0) (value_of 2)

  abbrev h19 : Bytes
  h19 = leaf_hash (key_of 8 0) (value_of 1)

  abbrev h20 : Bytes
  h20 = inner_hash h19 h13

  abbrev h21 : Bytes
  h21 = inner_hash h20 zeros

  abbrev h22 : Bytes
  h22 = inner_hash h21 zeros

  abbrev h23 : Bytes
  h23 = inner_hash h19 h3

  abbrev h24 : Bytes
  h24 = inner_hash h23 zeros

  abbrev h25 : Bytes
  h25 = inner_hash h24 zeros

  abbrev h26 : Bytes
  h26 = inner_hash h22 zeros

  abbrev h27 : Bytes
  h27 = inner_hash h25 zeros

  abbrev h28 : Bytes
  h28 = leaf_hash (key_of 104 0) (value_of 2)

  abbrev h29 : Bytes
  h29 = inner_hash h0 h28

  abbrev h30 : Bytes
  h30 = leaf_hash (key_of 96 0) (value_of 1)

  abbrev h31 : Bytes
  h31 = inner_hash h0 h30

  abbrev h32 : Bytes
  h32 = inner_hash h29 zeros

  abbrev h33 : Bytes
  h33 = inner_hash h31 zeros

  abbrev h34 : Bytes
  h34 = leaf_hash (key_of 0 0) (value_of 2)

  abbrev h35 : Bytes
  h35 = leaf_hash (key_of 192 0) (value_of 3)

  abbrev h36 : Bytes
  h36 = inner_hash h34 h35

  abbrev h37 : Bytes
  h37 = leaf_hash (key_of 128 0) (value_of 2)

  abbrev h38 : Bytes
  h38 = inner_hash h7 h37

  abbrev h39 : Bytes
  h39 = leaf_hash (key_of 96 0) (value_of 3)

  abbrev h40 : Bytes
  h40 = leaf_hash (key_of 144 0) (value_of 1)

  abbrev h41 : Bytes
  h41 = leaf_hash (key_of 16 0) (value_of 3)

  abbrev h42 : Bytes
  h42 = inner_hash h41 h39

  abbrev h43 : Bytes
  h43 = inner_hash h39 h40

  abbrev h44 : Bytes
  h44 = inner_hash h42 h40

  abbrev h45 : Bytes
  h45 = inner_hash h42 zeros

  abbrev h46 : Bytes
  h46 = leaf_hash (key_of 144 0) (value_of 4)

  abbrev h47 : Bytes
  h47 = leaf_hash (key_of 255 0) (value_of 2)

  abbrev h48 : Bytes
  h48 = inner_hash h46 h47

  abbrev h49 : Bytes
  h49 = leaf_hash (key_of 96 0) (value_of 2)

  abbrev h50 : Bytes
  h50 = leaf_hash (key_of 96 0) (value_of 4)

  abbrev h51 : Bytes
  h51 = inner_hash zeros h48

  abbrev h52 : Bytes
  h52 = inner_hash h49 h48

  abbrev h53 : Bytes
  h53 = inner_hash h50 h48

  abbrev h54 : Bytes
  h54 = leaf_hash (key_of 64 0) (value_of 4)

  abbrev h55 : Bytes
  h55 = leaf_hash (key_of 64 0) (value_of 3)

  abbrev h56 : Bytes
  h56 = inner_hash h55 h46

  abbrev h57 : Bytes
  h57 = leaf_hash (key_of 104 0) (value_of 1)

  abbrev h58 : Bytes
  h58 = inner_hash h39 h57

  abbrev h59 : Bytes
  h59 = inner_hash h58 zeros

  abbrev h60 : Bytes
  h60 = inner_hash zeros h59

  abbrev h61 : Bytes
  h61 = inner_hash zeros h60

  abbrev h62 : Bytes
  h62 = inner_hash h61 zeros

  abbrev h63 : Bytes
  h63 = leaf_hash (key_of 254 0) (value_of 4)

  abbrev h64 : Bytes
  h64 = leaf_hash (key_of 104 0) (value_of 3)

  abbrev h65 : Bytes
  h65 = inner_hash h13 h64

  abbrev h66 : Bytes
  h66 = inner_hash h65 zeros

  abbrev h67 : Bytes
  h67 = leaf_hash (key_of 254 0) (value_of 1)

  abbrev h68 : Bytes
  h68 = inner_hash h0 h49

  abbrev h69 : Bytes
  h69 = leaf_hash (key_of 254 0) (value_of 3)

  abbrev h70 : Bytes
  h70 = inner_hash h68 h69

  abbrev h71 : Bytes
  h71 = leaf_hash (key_of 0 0) (value_of 4)

  abbrev h72 : Bytes
  h72 = inner_hash h71 h28

  abbrev h73 : Bytes
  h73 = leaf_hash (key_of 255 0) (value_of 1)

  abbrev h74 : Bytes
  h74 = inner_hash h28 h73

  abbrev h75 : Bytes
  h75 = inner_hash h72 h73

  abbrev h76 : Bytes
  h76 = leaf_hash (key_of 255 0) (value_of 3)

  abbrev h77 : Bytes
  h77 = inner_hash h71 h76

  abbrev h78 : Bytes
  h78 = inner_hash h16 h19

  abbrev h79 : Bytes
  h79 = inner_hash h78 zeros

  abbrev h80 : Bytes
  h80 = inner_hash h79 zeros

  abbrev h81 : Bytes
  h81 = inner_hash h80 zeros

  abbrev h82 : Bytes
  h82 = inner_hash h81 zeros

  abbrev end0 : Store
  end0 =
      store_of 14 18
      (leaf_slot (false ∷ []) 12 18 (key_of 0 0) (value_of 3)
      ∷ leaf_slot (true ∷ []) 12 18 (key_of 128 0) (value_of 1)
      ∷ inner_slot ([]) 12 17 12 h0 12 h1 1 1
      ∷ inner_slot ([]) 17 18 12 h0 12 h1 1 1
      ∷ leaf_slot ([]) 18 0 (key_of 128 0) (value_of 1)
      ∷ free
      ∷ free
      ∷ free
      ∷ free
      ∷ free
      ∷ free
      ∷ free
      ∷ free
      ∷ free
      ∷ free
      ∷ free
      ∷ free
      ∷ free
      ∷ free
      ∷ free
      ∷ free
      ∷ free
      ∷ free
      ∷ free
      ∷ [])

  abbrev end1 : Store
  end1 =
      store_of 0 6
      (leaf_slot ([]) 3 4 (key_of 192 0) (value_of 2)
      ∷ leaf_slot (false ∷ []) 6 0 (key_of 16 0) (value_of 4)
      ∷ leaf_slot (true ∷ []) 6 0 (key_of 192 0) (value_of 4)
      ∷ inner_slot ([]) 6 0 6 h3 6 h4 1 1
      ∷ free
      ∷ free
      ∷ free
      ∷ free
      ∷ free
      ∷ free
      ∷ free
      ∷ free
      ∷ free
      ∷ free
      ∷ free
      ∷ free
      ∷ free
      ∷ free
      ∷ free
      ∷ free
      ∷ free
      ∷ free
      ∷ free
      ∷ free
      ∷ [])

  abbrev end2 : Store
  end2 =
      store_of 0 8
      (leaf_slot ([]) 5 6 (key_of 64 0) (value_of 1)
      ∷ leaf_slot ([]) 6 7 (key_of 64 0) (value_of 1)
      ∷ leaf_slot ([]) 7 8 (key_of 64 0) (value_of 1)
      ∷ leaf_slot (false ∷ false ∷ []) 8 0 (key_of 16 0) (value_of 2)
      ∷ leaf_slot (false ∷ true ∷ []) 8 0 (key_of 64 0) (value_of 1)
      ∷ inner_slot (false ∷ []) 8 0 8 h7 8 h8 1 1
      ∷ inner_slot ([]) 8 0 8 h9 0 zeros 2 0
      ∷ free
      ∷ free
      ∷ free
      ∷ free
      ∷ free
      ∷ free
      ∷ free
      ∷ free
      ∷ free
      ∷ [])

  abbrev end3 : Store
  end3 =
      store_of 2 12
      (leaf_slot ([]) 9 10 (key_of 128 0) (value_of 1)
      ∷ leaf_slot ([]) 11 12 (key_of 0 0) (value_of 3)
      ∷ free
      ∷ free
      ∷ free
      ∷ free
      ∷ free
      ∷ free
      ∷ free
      ∷ free
      ∷ free
      ∷ free
      ∷ free
      ∷ free
      ∷ free
      ∷ free
      ∷ free
      ∷ free
      ∷ free
      ∷ free
      ∷ free
      ∷ free
      ∷ free
      ∷ free
      ∷ [])

  abbrev end4 : Store
  end4 =
      store_of 8 14
      (leaf_slot ([]) 5 9 (key_of 128 0) (value_of 3)
      ∷ leaf_slot (false ∷ []) 9 10 (key_of 8 0) (value_of 3)
      ∷ leaf_slot (true ∷ []) 9 14 (key_of 128 0) (value_of 3)
      ∷ inner_slot ([]) 9 10 9 h11 9 h12 1 1
      ∷ leaf_slot (false ∷ []) 10 14 (key_of 16 0) (value_of 1)
      ∷ inner_slot ([]) 10 13 10 h13 9 h12 1 1
      ∷ inner_slot ([]) 13 14 10 h13 9 h12 1 1
      ∷ leaf_slot ([]) 14 0 (key_of 128 0) (value_of 3)
      ∷ free
      ∷ free
      ∷ free
      ∷ free
      ∷ [])

  abbrev end5 : Store
  end5 =
      store_of 1 6
      (leaf_slot ([]) 1 2 (key_of 0 0) (value_of 1)
      ∷ leaf_slot ([]) 2 3 (key_of 0 0) (value_of 1)
      ∷ leaf_slot (false ∷ []) 3 0 (key_of 0 0) (value_of 1)
      ∷ leaf_slot (true ∷ []) 3 0 (key_of 128 0) (value_of 3)
      ∷ inner_slot ([]) 3 4 3 h16 3 h12 1 1
      ∷ inner_slot ([]) 4 5 3 h16 3 h12 1 1
      ∷ inner_slot ([]) 5 6 3 h16 3 h12 1 1
      ∷ inner_slot ([]) 6 0 3 h16 3 h12 1 1
      ∷ free
      ∷ free
      ∷ free
      ∷ free
      ∷ [])

  abbrev end6 : Store
  end6 =
      store_of 0 4
      (leaf_slot ([]) 4 0 (key_of 64 0) (value_of 2)
      ∷ free
      ∷ free
      ∷ free
      ∷ [])

  abbrev end7 : Store
  end7 =
      store_of 1 6
      (leaf_slot ([]) 3 4 (key_of 8 0) (value_of 1)
      ∷ leaf_slot (false ∷ false ∷ false ∷ false ∷ []) 4 0 (key_of 8 0) (value_of 1)
      ∷ leaf_slot (false ∷ false ∷ false ∷ true ∷ []) 4 5 (key_of 16 0) (value_of 1)
      ∷ inner_slot (false ∷ false ∷ false ∷ []) 4 5 4 h19 4 h13 1 1
      ∷ inner_slot (false ∷ false ∷ []) 4 5 4 h20 0 zeros 2 0
      ∷ inner_slot (false ∷ []) 4 5 4 h21 0 zeros 2 0
      ∷ inner_slot ([]) 4 5 4 h22 0 zeros 2 0
      ∷ leaf_slot (false ∷ false ∷ false ∷ true ∷ []) 5 0 (key_of 16 0) (value_of 4)
      ∷ inner_slot (false ∷ false ∷ false ∷ []) 5 0 4 h19 5 h3 1 1
      ∷ inner_slot (false ∷ false ∷ []) 5 0 5 h23 0 zeros 2 0
      ∷ inner_slot (false ∷ []) 5 0 5 h24 0 zeros 2 0
      ∷ inner_slot ([]) 5 6 5 h25 0 zeros 2 0
      ∷ inner_slot ([]) 6 0 5 h25 0 zeros 2 0
      ∷ free
      ∷ free
      ∷ free
      ∷ free
      ∷ free
      ∷ free
      ∷ free
      ∷ free
      ∷ free
      ∷ free
      ∷ free
      ∷ [])

  abbrev end8 : Store
  end8 =
      store_of 8 20
      (free
      ∷ free
      ∷ leaf_slot ([]) 5 10 (key_of 104 0) (value_of 2)
      ∷ leaf_slot (false ∷ false ∷ []) 10 0 (key_of 0 0) (value_of 3)
      ∷ leaf_slot (false ∷ true ∷ []) 10 15 (key_of 104 0) (value_of 2)
      ∷ inner_slot (false ∷ []) 10 15 10 h0 10 h28 1 1
      ∷ inner_slot ([]) 10 11 10 h29 0 zeros 2 0
      ∷ inner_slot ([]) 11 15 10 h29 0 zeros 2 0
      ∷ leaf_slot (false ∷ true ∷ []) 15 0 (key_of 96 0) (value_of 1)
      ∷ inner_slot (false ∷ []) 15 0 10 h0 15 h30 1 1
      ∷ inner_slot ([]) 15 20 15 h31 0 zeros 2 0
      ∷ inner_slot ([]) 20 0 15 h31 0 zeros 2 0
      ∷ [])

  abbrev end9 : Store
  end9 =
      store_of 4294967293 4294967295
      (leaf_slot (false ∷ []) 4294967295 0 (key_of 0 0) (value_of 2)
      ∷ leaf_slot (true ∷ []) 4294967295 0 (key_of 192 0) (value_of 3)
      ∷ inner_slot ([]) 4294967295 0 4294967295 h34 4294967295 h35 1 1
      ∷ free
      ∷ free
      ∷ free
      ∷ free
      ∷ free
      ∷ free
      ∷ free
      ∷ free
      ∷ free
      ∷ [])

  abbrev end10 : Store
  end10 =
      store_of 4294967293 4294967295
      (leaf_slot (false ∷ []) 4294967295 0 (key_of 16 0) (value_of 2)
      ∷ leaf_slot (true ∷ []) 4294967295 0 (key_of 128 0) (value_of 2)
      ∷ inner_slot ([]) 4294967295 0 4294967295 h7 4294967295 h37 1 1
      ∷ free
      ∷ free
      ∷ free
      ∷ free
      ∷ free
      ∷ free
      ∷ free
      ∷ free
      ∷ free
      ∷ free
      ∷ free
      ∷ free
      ∷ free
      ∷ [])

  abbrev end11 : Store
  end11 =
      store_of 1 9
      (leaf_slot (false ∷ []) 3 4 (key_of 96 0) (value_of 3)
      ∷ leaf_slot (true ∷ []) 3 8 (key_of 144 0) (value_of 1)
      ∷ inner_slot ([]) 3 4 3 h39 3 h40 1 1
      ∷ leaf_slot (false ∷ false ∷ []) 4 9 (key_of 16 0) (value_of 3)
      ∷ leaf_slot (false ∷ true ∷ []) 4 9 (key_of 96 0) (value_of 3)
      ∷ inner_slot (false ∷ []) 4 9 4 h41 4 h39 1 1
      ∷ inner_slot ([]) 4 8 4 h42 3 h40 2 1
      ∷ inner_slot ([]) 8 9 4 h42 0 zeros 2 0
      ∷ leaf_slot ([]) 9 0 (key_of 8 0) (value_of 1)
      ∷ free
      ∷ free
      ∷ free
      ∷ free
      ∷ free
      ∷ free
      ∷ free
      ∷ free
      ∷ free
      ∷ free
      ∷ free
      ∷ free
      ∷ free
      ∷ free
      ∷ free
      ∷ [])

  abbrev end12 : Store
  end12 =
      store_of 6 8
      (leaf_slot (false ∷ []) 7 8 (key_of 96 0) (value_of 2)
      ∷ leaf_slot (true ∷ false ∷ []) 6 0 (key_of 144 0) (value_of 4)
      ∷ leaf_slot (true ∷ true ∷ []) 6 0 (key_of 255 0) (value_of 2)
      ∷ inner_slot (true ∷ []) 6 0 6 h46 6 h47 1 1
      ∷ inner_slot ([]) 6 7 0 zeros 6 h48 0 2
      ∷ inner_slot ([]) 7 8 7 h49 6 h48 1 2
      ∷ leaf_slot (false ∷ []) 8 0 (key_of 96 0) (value_of 4)
      ∷ inner_slot ([]) 8 0 8 h50 6 h48 1 2
      ∷ [])

  abbrev end13 : Store
  end13 =
      store_of 0 10
      (leaf_slot ([]) 5 10 (key_of 64 0) (value_of 4)
      ∷ leaf_slot ([]) 10 0 (key_of 64 0) (value_of 4)
      ∷ free
      ∷ free
      ∷ free
      ∷ free
      ∷ free
      ∷ free
      ∷ [])

  abbrev end14 : Store
  end14 =
      store_of 0 6
      (leaf_slot (false ∷ []) 1 0 (key_of 64 0) (value_of 3)
      ∷ leaf_slot (true ∷ []) 1 0 (key_of 144 0) (value_of 4)
      ∷ inner_slot ([]) 1 6 1 h55 1 h46 1 1
      ∷ inner_slot ([]) 6 0 1 h55 1 h46 1 1
      ∷ [])

  abbrev end15 : Store
  end15 =
      store_of 0 10
      (leaf_slot ([]) 1 2 (key_of 96 0) (value_of 3)
      ∷ leaf_slot ([]) 2 4 (key_of 96 0) (value_of 3)
      ∷ leaf_slot (false ∷ true ∷ true ∷ false ∷ false ∷ []) 4 9 (key_of 96 0) (value_of 3)
      ∷ leaf_slot (false ∷ true ∷ true ∷ false ∷ true ∷ []) 4 9 (key_of 104 0) (value_of 1)
      ∷ inner_slot (false ∷ true ∷ true ∷ false ∷ []) 4 9 4 h39 4 h57 1 1
      ∷ inner_slot (false ∷ true ∷ true ∷ []) 4 9 4 h58 0 zeros 2 0
      ∷ inner_slot (false ∷ true ∷ []) 4 9 0 zeros 4 h59 0 2
      ∷ inner_slot (false ∷ []) 4 9 0 zeros 4 h60 0 2
      ∷ inner_slot ([]) 4 9 4 h61 0 zeros 2 0
      ∷ leaf_slot ([]) 9 10 (key_of 96 0) (value_of 3)
      ∷ leaf_slot ([]) 10 0 (key_of 96 0) (value_of 3)
      ∷ free
      ∷ free
      ∷ free
      ∷ free
      ∷ free
      ∷ free
      ∷ free
      ∷ free
      ∷ free
      ∷ free
      ∷ free
      ∷ free
      ∷ free
      ∷ [])

  abbrev end16 : Store
  end16 =
      store_of 0 0
      (free
      ∷ free
      ∷ free
      ∷ free
      ∷ free
      ∷ free
      ∷ free
      ∷ free
      ∷ free
      ∷ free
      ∷ free
      ∷ free
      ∷ free
      ∷ free
      ∷ free
      ∷ free
      ∷ [])

  abbrev end17 : Store
  end17 =
      store_of 4294967295 4294967295
      (free
      ∷ leaf_slot ([]) 4294967295 0 (key_of 254 0) (value_of 4)
      ∷ free
      ∷ free
      ∷ free
      ∷ free
      ∷ free
      ∷ free
      ∷ [])

  abbrev end18 : Store
  end18 =
      store_of 7 12
      (free
      ∷ leaf_slot ([]) 6 11 (key_of 128 0) (value_of 1)
      ∷ leaf_slot ([]) 11 12 (key_of 128 0) (value_of 1)
      ∷ leaf_slot ([]) 12 0 (key_of 128 0) (value_of 1)
      ∷ free
      ∷ free
      ∷ free
      ∷ free
      ∷ free
      ∷ free
      ∷ free
      ∷ free
      ∷ [])

  abbrev end19 : Store
  end19 =
      store_of 0 1
      (free
      ∷ free
      ∷ free
      ∷ free
      ∷ free
      ∷ free
      ∷ free
      ∷ free
      ∷ free
      ∷ free
      ∷ free
      ∷ free
      ∷ [])

  abbrev end20 : Store
  end20 =
      store_of 0 6
      (leaf_slot ([]) 2 6 (key_of 16 0) (value_of 1)
      ∷ leaf_slot (false ∷ false ∷ []) 6 0 (key_of 16 0) (value_of 1)
      ∷ leaf_slot (false ∷ true ∷ []) 6 0 (key_of 104 0) (value_of 3)
      ∷ inner_slot (false ∷ []) 6 0 6 h13 6 h64 1 1
      ∷ inner_slot ([]) 6 0 6 h65 0 zeros 2 0
      ∷ free
      ∷ free
      ∷ free
      ∷ free
      ∷ free
      ∷ free
      ∷ free
      ∷ free
      ∷ free
      ∷ free
      ∷ free
      ∷ [])

  abbrev end21 : Store
  end21 =
      store_of 4294967295 4294967295
      (free
      ∷ free
      ∷ free
      ∷ free
      ∷ free
      ∷ free
      ∷ free
      ∷ free
      ∷ free
      ∷ free
      ∷ free
      ∷ free
      ∷ free
      ∷ free
      ∷ free
      ∷ free
      ∷ [])

  abbrev end22 : Store
  end22 =
      store_of 0 9
      (leaf_slot ([]) 3 8 (key_of 254 0) (value_of 1)
      ∷ free
      ∷ free
      ∷ free
      ∷ free
      ∷ free
      ∷ free
      ∷ free
      ∷ free
      ∷ free
      ∷ free
      ∷ free
      ∷ free
      ∷ free
      ∷ free
      ∷ free
      ∷ free
      ∷ free
      ∷ free
      ∷ free
      ∷ free
      ∷ free
      ∷ free
      ∷ free
      ∷ [])

  abbrev end23 : Store
  end23 =
      store_of 0 3
      (leaf_slot ([]) 1 2 (key_of 0 0) (value_of 2)
      ∷ leaf_slot ([]) 2 3 (key_of 0 0) (value_of 3)
      ∷ leaf_slot (false ∷ false ∷ []) 3 0 (key_of 0 0) (value_of 3)
      ∷ leaf_slot (false ∷ true ∷ []) 3 0 (key_of 96 0) (value_of 2)
      ∷ inner_slot (false ∷ []) 3 0 3 h0 3 h49 1 1
      ∷ leaf_slot (true ∷ []) 3 0 (key_of 254 0) (value_of 3)
      ∷ inner_slot ([]) 3 0 3 h68 3 h69 2 1
      ∷ free
      ∷ free
      ∷ free
      ∷ free
      ∷ free
      ∷ [])

  abbrev end24 : Store
  end24 =
      store_of 7 7
      (free
      ∷ leaf_slot (true ∷ []) 3 0 (key_of 255 0) (value_of 1)
      ∷ free
      ∷ free
      ∷ leaf_slot (false ∷ false ∷ []) 7 0 (key_of 0 0) (value_of 4)
      ∷ leaf_slot (false ∷ true ∷ []) 7 0 (key_of 104 0) (value_of 2)
      ∷ inner_slot (false ∷ []) 7 0 7 h71 7 h28 1 1
      ∷ inner_slot ([]) 7 0 7 h72 3 h73 2 1
      ∷ free
      ∷ free
      ∷ free
      ∷ free
      ∷ free
      ∷ free
      ∷ free
      ∷ free
      ∷ [])

  abbrev end25 : Store
  end25 =
      store_of 0 5
      (leaf_slot (false ∷ []) 1 3 (key_of 0 0) (value_of 4)
      ∷ leaf_slot (true ∷ []) 1 3 (key_of 255 0) (value_of 3)
      ∷ inner_slot ([]) 1 2 1 h71 1 h76 1 1
      ∷ inner_slot ([]) 2 3 1 h71 1 h76 1 1
      ∷ [])

  abbrev end26 : Store
  end26 =
      store_of 5 11
      (leaf_slot ([]) 11 0 (key_of 16 0) (value_of 4)
      ∷ free
      ∷ free
      ∷ free
      ∷ free
      ∷ free
      ∷ free
      ∷ free
      ∷ free
      ∷ free
      ∷ free
      ∷ free
      ∷ [])

  abbrev end27 : Store
  end27 =
      store_of 0 11
      (leaf_slot (false ∷ false ∷ false ∷ false ∷ false ∷ []) 2 11 (key_of 0 0) (value_of 1)
      ∷ leaf_slot (false ∷ false ∷ false ∷ false ∷ true ∷ []) 2 11 (key_of 8 0) (value_of 1)
      ∷ inner_slot (false ∷ false ∷ false ∷ false ∷ []) 2 11 2 h16 2 h19 1 1
      ∷ inner_slot (false ∷ false ∷ false ∷ []) 2 11 2 h78 0 zeros 2 0
      ∷ inner_slot (false ∷ false ∷ []) 2 11 2 h79 0 zeros 2 0
      ∷ inner_slot (false ∷ []) 2 11 2 h80 0 zeros 2 0
      ∷ inner_slot ([]) 2 6 2 h81 0 zeros 2 0
      ∷ inner_slot ([]) 6 11 2 h81 0 zeros 2 0
      ∷ leaf_slot ([]) 11 0 (key_of 8 0) (value_of 1)
      ∷ free
      ∷ free
      ∷ free
      ∷ [])

  abbrev end28 : Store
  end28 =
      store_of 0 3
      (leaf_slot ([]) 3 0 (key_of 64 0) (value_of 2)
      ∷ free
      ∷ free
      ∷ free
      ∷ free
      ∷ free
      ∷ free
      ∷ free
      ∷ free
      ∷ free
      ∷ free
      ∷ free
      ∷ [])

  abbrev end29 : Store
  end29 =
      store_of 4294967293 4294967295
      (free
      ∷ free
      ∷ free
      ∷ free
      ∷ free
      ∷ free
      ∷ free
      ∷ free
      ∷ [])

  abbrev rows : List Game
  rows =
      game (store_of 0 0 (free_slots 24))
      (applying 5 (delete (key_of 0 0) ∷ []) ∷ applying 10 (delete (key_of 128 0) ∷ []) ∷ applying 11 (delete (key_of 16 0) ∷ []) ∷ applying 12 (insert (key_of 0 0) (value_of 3) ∷ insert (key_of 128 0) (value_of 1) ∷ []) ∷ pruning 12 ∷ applying 17 ([]) ∷ applying 18 (delete (key_of 0 0) ∷ []) ∷ pruning 14 ∷ [])
      (made 5 zeros 0 ∷ made 10 zeros 0 ∷ made 11 zeros 0 ∷ made 12 h2 3 ∷ freed 0 ∷ made 17 h2 1 ∷ made 18 h1 1 ∷ freed 0 ∷ [])
      end0
      ∷ game (store_of 0 0 (free_slots 24))
      (applying 3 (insert (key_of 192 0) (value_of 2) ∷ []) ∷ applying 4 (delete (key_of 192 0) ∷ []) ∷ applying 5 ([]) ∷ applying 6 (insert (key_of 16 0) (value_of 4) ∷ insert (key_of 192 0) (value_of 4) ∷ []) ∷ [])
      (made 3 h5 1 ∷ made 4 zeros 0 ∷ made 5 zeros 0 ∷ made 6 h6 3 ∷ [])
      end1
      ∷ game (store_of 0 0 (free_slots 16))
      (applying 4 (delete (key_of 96 0) ∷ []) ∷ applying 5 (insert (key_of 64 0) (value_of 1) ∷ delete (key_of 192 0) ∷ []) ∷ applying 6 (insert (key_of 64 0) (value_of 1) ∷ []) ∷ applying 7 ([]) ∷ applying 8 (insert (key_of 16 0) (value_of 2) ∷ []) ∷ [])
      (made 4 zeros 0 ∷ made 5 h8 1 ∷ made 6 h8 1 ∷ made 7 h8 1 ∷ made 8 h10 4 ∷ [])
      end2
      ∷ game (store_of 0 0 (free_slots 24))
      (applying 2 ([]) ∷ applying 4 ([]) ∷ applying 5 (delete (key_of 128 0) ∷ []) ∷ pruning 2 ∷ applying 9 (insert (key_of 128 0) (value_of 1) ∷ []) ∷ applying 10 (delete (key_of 128 0) ∷ []) ∷ applying 11 (insert (key_of 0 0) (value_of 3) ∷ delete (key_of 128 0) ∷ []) ∷ applying 12 (delete (key_of 0 0) ∷ delete (key_of 128 0) ∷ []) ∷ [])
      (made 2 zeros 0 ∷ made 4 zeros 0 ∷ made 5 zeros 0 ∷ freed 0 ∷ made 9 h1 1 ∷ made 10 zeros 0 ∷ made 11 h0 1 ∷ made 12 zeros 0 ∷ [])
      end3
      ∷ game (store_of 0 0 (free_slots 12))
      (applying 4 (delete (key_of 8 0) ∷ delete (key_of 64 0) ∷ []) ∷ applying 5 (delete (key_of 104 0) ∷ insert (key_of 128 0) (value_of 3) ∷ []) ∷ applying 9 (insert (key_of 8 0) (value_of 3) ∷ delete (key_of 16 0) ∷ delete (key_of 192 0) ∷ []) ∷ pruning 1 ∷ applying 10 (delete (key_of 8 0) ∷ insert (key_of 16 0) (value_of 1) ∷ []) ∷ applying 11 (insert (key_of 8 0) (value_of 4) ∷ delete (key_of 64 0) ∷ insert (key_of 104 0) (value_of 3) ∷ []) ∷ pruning 8 ∷ applying 13 (delete (key_of 192 0) ∷ []) ∷ applying 14 (delete (key_of 16 0) ∷ []) ∷ pruning 7 ∷ [])
      (made 4 zeros 0 ∷ made 5 h12 1 ∷ made 9 h14 3 ∷ freed 0 ∷ made 10 h15 2 ∷ denied 7 ∷ freed 0 ∷ made 13 h15 1 ∷ made 14 h12 1 ∷ denied 8 ∷ [])
      end4
      ∷ game (store_of 0 0 (free_slots 12))
      (applying 1 (insert (key_of 0 0) (value_of 1) ∷ delete (key_of 128 0) ∷ []) ∷ applying 2 ([]) ∷ pruning 0 ∷ applying 3 (insert (key_of 128 0) (value_of 3) ∷ []) ∷ applying 4 ([]) ∷ pruning 0 ∷ pruning 1 ∷ applying 5 (insert (key_of 0 0) (value_of 1) ∷ insert (key_of 128 0) (value_of 3) ∷ []) ∷ applying 6 (insert (key_of 0 0) (value_of 1) ∷ insert (key_of 128 0) (value_of 3) ∷ []) ∷ [])
      (made 1 h16 1 ∷ made 2 h16 1 ∷ freed 0 ∷ made 3 h17 3 ∷ made 4 h17 1 ∷ freed 0 ∷ freed 0 ∷ made 5 h17 1 ∷ made 6 h17 1 ∷ [])
      end5
      ∷ game (store_of 0 0 (free_slots 4))
      (applying 1 (insert (key_of 64 0) (value_of 3) ∷ insert (key_of 96 0) (value_of 4) ∷ delete (key_of 104 0) ∷ []) ∷ pruning 0 ∷ applying 0 (insert (key_of 96 0) (value_of 3) ∷ insert (key_of 104 0) (value_of 3) ∷ []) ∷ applying 0 (insert (key_of 64 0) (value_of 2) ∷ []) ∷ applying 4 (delete (key_of 16 0) ∷ insert (key_of 64 0) (value_of 2) ∷ []) ∷ [])
      (denied 7 ∷ freed 0 ∷ denied 18 ∷ denied 18 ∷ made 4 h18 1 ∷ [])
      end6
      ∷ game (store_of 0 0 (free_slots 24))
      (pruning 0 ∷ pruning 1 ∷ applying 3 (insert (key_of 8 0) (value_of 1) ∷ delete (key_of 16 0) ∷ []) ∷ applying 4 (insert (key_of 16 0) (value_of 1) ∷ []) ∷ applying 5 (insert (key_of 16 0) (value_of 4) ∷ delete (key_of 128 0) ∷ []) ∷ pruning 1 ∷ applying 6 (delete (key_of 192 0) ∷ []) ∷ pruning 0 ∷ [])
      (freed 0 ∷ denied 8 ∷ made 3 h19 1 ∷ made 4 h26 6 ∷ made 5 h27 5 ∷ freed 0 ∷ made 6 h27 1 ∷ denied 8 ∷ [])
      end7
      ∷ game (store_of 0 0 (free_slots 12))
      (applying 1 (insert (key_of 104 0) (value_of 2) ∷ []) ∷ applying 2 (delete (key_of 144 0) ∷ []) ∷ applying 5 ([]) ∷ applying 10 (insert (key_of 0 0) (value_of 3) ∷ delete (key_of 144 0) ∷ []) ∷ applying 11 (insert (key_of 0 0) (value_of 2) ∷ insert (key_of 96 0) (value_of 3) ∷ insert (key_of 104 0) (value_of 3) ∷ []) ∷ applying 11 (insert (key_of 144 0) (value_of 2) ∷ delete (key_of 104 0) ∷ delete (key_of 0 0) ∷ []) ∷ applying 11 (insert (key_of 104 0) (value_of 2) ∷ []) ∷ applying 15 (insert (key_of 96 0) (value_of 1) ∷ delete (key_of 104 0) ∷ []) ∷ applying 20 (insert (key_of 96 0) (value_of 1) ∷ delete (key_of 144 0) ∷ []) ∷ pruning 8 ∷ [])
      (made 1 h28 1 ∷ made 2 h28 1 ∷ made 5 h28 1 ∷ made 10 h32 4 ∷ denied 7 ∷ denied 5 ∷ made 11 h32 1 ∷ made 15 h33 3 ∷ made 20 h33 1 ∷ freed 2 ∷ [])
      end8
      ∷ game (store_of 4294967293 4294967293 (free_slots 12))
      (applying 3383139249 (insert (key_of 0 0) (value_of 2) ∷ insert (key_of 104 0) (value_of 2) ∷ []) ∷ applying 4294967295 (insert (key_of 0 0) (value_of 2) ∷ insert (key_of 192 0) (value_of 3) ∷ []) ∷ applying 4294967295 (delete (key_of 16 0) ∷ []) ∷ applying 4294967295 (delete (key_of 16 0) ∷ insert (key_of 144 0) (value_of 4) ∷ []) ∷ applying 4294967295 (delete (key_of 16 0) ∷ []) ∷ applying 4294967295 (insert (key_of 0 0) (value_of 2) ∷ delete (key_of 16 0) ∷ delete (key_of 104 0) ∷ insert (key_of 144 0) (value_of 3) ∷ []) ∷ [])
      (denied 18 ∷ made 4294967295 h36 3 ∷ denied 18 ∷ denied 18 ∷ denied 18 ∷ denied 18 ∷ [])
      end9
      ∷ game (store_of 4294967293 4294967293 (free_slots 16))
      (pruning 4294967294 ∷ applying 4294967295 (delete (key_of 0 0) ∷ insert (key_of 16 0) (value_of 2) ∷ insert (key_of 128 0) (value_of 2) ∷ []) ∷ applying 4294967295 ([]) ∷ applying 4294967295 (insert (key_of 0 0) (value_of 3) ∷ []) ∷ pruning 4294967296 ∷ applying 4294967295 (delete (key_of 0 0) ∷ insert (key_of 64 0) (value_of 2) ∷ insert (key_of 128 0) (value_of 1) ∷ []) ∷ applying 4294967295 (delete (key_of 254 0) ∷ []) ∷ pruning 4294967292 ∷ [])
      (denied 8 ∷ made 4294967295 h38 3 ∷ denied 18 ∷ denied 18 ∷ denied 8 ∷ denied 18 ∷ denied 18 ∷ denied 8 ∷ [])
      end10
      ∷ game (store_of 0 0 (free_slots 24))
      (applying 2 ([]) ∷ applying 3 (insert (key_of 96 0) (value_of 3) ∷ insert (key_of 144 0) (value_of 1) ∷ []) ∷ pruning 1 ∷ pruning 4 ∷ applying 4 (delete (key_of 8 0) ∷ insert (key_of 16 0) (value_of 3) ∷ []) ∷ applying 8 (insert (key_of 16 0) (value_of 3) ∷ delete (key_of 144 0) ∷ []) ∷ applying 9 (insert (key_of 8 0) (value_of 1) ∷ delete (key_of 16 0) ∷ delete (key_of 96 0) ∷ []) ∷ [])
      (made 2 zeros 0 ∷ made 3 h43 3 ∷ freed 0 ∷ denied 8 ∷ made 4 h44 4 ∷ made 8 h45 1 ∷ made 9 h19 1 ∷ [])
      end11
      ∷ game (store_of 0 0 (free_slots 8))
      (pruning 1 ∷ pruning 1 ∷ applying 5 (insert (key_of 144 0) (value_of 4) ∷ []) ∷ applying 6 (insert (key_of 255 0) (value_of 2) ∷ []) ∷ pruning 6 ∷ applying 7 (insert (key_of 254 0) (value_of 1) ∷ []) ∷ applying 7 (insert (key_of 96 0) (value_of 2) ∷ []) ∷ applying 8 (insert (key_of 144 0) (value_of 2) ∷ []) ∷ applying 8 (insert (key_of 96 0) (value_of 4) ∷ insert (key_of 144 0) (value_of 4) ∷ []) ∷ [])
      (denied 8 ∷ denied 8 ∷ made 5 h46 1 ∷ made 6 h51 4 ∷ freed 1 ∷ denied 7 ∷ made 7 h52 2 ∷ denied 7 ∷ made 8 h53 2 ∷ [])
      end12
      ∷ game (store_of 0 0 (free_slots 8))
      (applying 3 (delete (key_of 64 0) ∷ delete (key_of 128 0) ∷ []) ∷ applying 4 ([]) ∷ applying 5 (insert (key_of 64 0) (value_of 4) ∷ []) ∷ applying 10 ([]) ∷ [])
      (made 3 zeros 0 ∷ made 4 zeros 0 ∷ made 5 h54 1 ∷ made 10 h54 1 ∷ [])
      end13
      ∷ game (store_of 0 0 (free_slots 4))
      (applying 1 (insert (key_of 64 0) (value_of 3) ∷ insert (key_of 144 0) (value_of 4) ∷ []) ∷ applying 6 (delete (key_of 8 0) ∷ []) ∷ pruning 0 ∷ applying 7 (delete (key_of 0 0) ∷ insert (key_of 254 0) (value_of 3) ∷ []) ∷ [])
      (made 1 h56 3 ∷ made 6 h56 1 ∷ freed 0 ∷ denied 7 ∷ [])
      end14
      ∷ game (store_of 0 0 (free_slots 24))
      (applying 1 (insert (key_of 96 0) (value_of 3) ∷ delete (key_of 104 0) ∷ []) ∷ applying 2 (insert (key_of 96 0) (value_of 3) ∷ []) ∷ applying 7 (insert (key_of 104 0) (value_of 4) ∷ insert (key_of 96 0) (value_of 1) ∷ []) ∷ applying 4 (insert (key_of 104 0) (value_of 1) ∷ []) ∷ applying 9 (insert (key_of 96 0) (value_of 3) ∷ delete (key_of 104 0) ∷ []) ∷ applying 10 (insert (key_of 96 0) (value_of 3) ∷ []) ∷ [])
      (made 1 h39 1 ∷ made 2 h39 1 ∷ denied 5 ∷ made 4 h62 7 ∷ made 9 h39 1 ∷ made 10 h39 1 ∷ [])
      end15
      ∷ game (store_of 0 0 (free_slots 16))
      (pruning 1 ∷ pruning 1 ∷ pruning 0 ∷ pruning 1 ∷ pruning 0 ∷ [])
      (denied 8 ∷ denied 8 ∷ freed 0 ∷ denied 8 ∷ freed 0 ∷ [])
      end16
      ∷ game (store_of 4294967293 4294967293 (free_slots 8))
      (pruning 4294967292 ∷ applying 4294967294 (insert (key_of 254 0) (value_of 4) ∷ []) ∷ applying 4294967295 (insert (key_of 254 0) (value_of 4) ∷ []) ∷ applying 4294967295 (delete (key_of 128 0) ∷ insert (key_of 254 0) (value_of 4) ∷ []) ∷ pruning 4294967296 ∷ pruning 4294967295 ∷ applying 4294967295 (insert (key_of 128 0) (value_of 2) ∷ insert (key_of 254 0) (value_of 4) ∷ []) ∷ applying 4294967295 (delete (key_of 254 0) ∷ []) ∷ pruning 4294967296 ∷ [])
      (denied 8 ∷ made 4294967294 h63 1 ∷ made 4294967295 h63 1 ∷ denied 18 ∷ denied 8 ∷ freed 1 ∷ denied 18 ∷ denied 18 ∷ denied 8 ∷ [])
      end17
      ∷ game (store_of 0 0 (free_slots 12))
      (applying 4 (delete (key_of 128 0) ∷ insert (key_of 144 0) (value_of 1) ∷ []) ∷ applying 5 (delete (key_of 128 0) ∷ delete (key_of 144 0) ∷ []) ∷ applying 6 (insert (key_of 128 0) (value_of 1) ∷ []) ∷ pruning 4 ∷ applying 11 ([]) ∷ applying 12 ([]) ∷ pruning 7 ∷ pruning 7 ∷ [])
      (made 4 h40 1 ∷ made 5 zeros 0 ∷ made 6 h1 1 ∷ freed 0 ∷ made 11 h1 1 ∷ made 12 h1 1 ∷ freed 1 ∷ freed 0 ∷ [])
      end18
      ∷ game (store_of 0 0 (free_slots 12))
      (applying 1 (delete (key_of 0 0) ∷ delete (key_of 8 0) ∷ []) ∷ pruning 0 ∷ pruning 2 ∷ pruning 0 ∷ [])
      (made 1 zeros 0 ∷ freed 0 ∷ denied 8 ∷ freed 0 ∷ [])
      end19
      ∷ game (store_of 0 0 (free_slots 16))
      (pruning 0 ∷ pruning 1 ∷ applying 1 ([]) ∷ applying 2 (insert (key_of 16 0) (value_of 1) ∷ delete (key_of 64 0) ∷ []) ∷ applying 6 (insert (key_of 104 0) (value_of 3) ∷ []) ∷ [])
      (freed 0 ∷ denied 8 ∷ made 1 zeros 0 ∷ made 2 h13 1 ∷ made 6 h66 4 ∷ [])
      end20
      ∷ game (store_of 4294967293 4294967293 (free_slots 16))
      (pruning 4294967292 ∷ applying 4294967294 (delete (key_of 8 0) ∷ []) ∷ applying 4294967295 (delete (key_of 8 0) ∷ delete (key_of 16 0) ∷ []) ∷ pruning 4294967295 ∷ [])
      (denied 8 ∷ made 4294967294 zeros 0 ∷ made 4294967295 zeros 0 ∷ freed 0 ∷ [])
      end21
      ∷ game (store_of 0 0 (free_slots 24))
      (applying 1 ([]) ∷ applying 3 (delete (key_of 8 0) ∷ insert (key_of 254 0) (value_of 1) ∷ []) ∷ applying 8 (delete (key_of 8 0) ∷ delete (key_of 254 0) ∷ []) ∷ applying 9 (delete (key_of 8 0) ∷ []) ∷ [])
      (made 1 zeros 0 ∷ made 3 h67 1 ∷ made 8 zeros 0 ∷ made 9 zeros 0 ∷ [])
      end22
      ∷ game (store_of 0 0 (free_slots 12))
      (applying 1 (insert (key_of 0 0) (value_of 2) ∷ delete (key_of 96 0) ∷ []) ∷ applying 2 (insert (key_of 0 0) (value_of 3) ∷ delete (key_of 192 0) ∷ []) ∷ pruning 0 ∷ applying 3 (insert (key_of 96 0) (value_of 2) ∷ insert (key_of 254 0) (value_of 3) ∷ []) ∷ [])
      (made 1 h34 1 ∷ made 2 h0 1 ∷ freed 0 ∷ made 3 h70 5 ∷ [])
      end23
      ∷ game (store_of 0 0 (free_slots 16))
      (applying 0 (insert (key_of 0 0) (value_of 1) ∷ []) ∷ applying 0 ([]) ∷ applying 1 (delete (key_of 0 0) ∷ []) ∷ applying 2 ([]) ∷ applying 3 (insert (key_of 104 0) (value_of 2) ∷ insert (key_of 255 0) (value_of 1) ∷ []) ∷ applying 4 ([]) ∷ applying 7 (insert (key_of 0 0) (value_of 4) ∷ insert (key_of 104 0) (value_of 2) ∷ []) ∷ pruning 7 ∷ [])
      (denied 18 ∷ denied 18 ∷ made 1 zeros 0 ∷ made 2 zeros 0 ∷ made 3 h74 3 ∷ made 4 h74 1 ∷ made 7 h75 4 ∷ freed 3 ∷ [])
      end24
      ∷ game (store_of 0 0 (free_slots 4))
      (applying 1 (insert (key_of 0 0) (value_of 4) ∷ delete (key_of 96 0) ∷ delete (key_of 254 0) ∷ insert (key_of 255 0) (value_of 3) ∷ []) ∷ applying 2 (insert (key_of 255 0) (value_of 3) ∷ []) ∷ applying 7 (delete (key_of 0 0) ∷ insert (key_of 8 0) (value_of 4) ∷ []) ∷ applying 3 (delete (key_of 8 0) ∷ []) ∷ applying 3 (delete (key_of 0 0) ∷ delete (key_of 255 0) ∷ []) ∷ applying 5 (delete (key_of 254 0) ∷ []) ∷ applying 7 (insert (key_of 64 0) (value_of 2) ∷ []) ∷ applying 6 (insert (key_of 8 0) (value_of 1) ∷ delete (key_of 64 0) ∷ []) ∷ [])
      (made 1 h77 3 ∷ made 2 h77 1 ∷ denied 7 ∷ denied 7 ∷ made 3 zeros 0 ∷ made 5 zeros 0 ∷ denied 7 ∷ denied 7 ∷ [])
      end25
      ∷ game (store_of 0 0 (free_slots 12))
      (pruning 1 ∷ applying 5 ([]) ∷ applying 9 (delete (key_of 16 0) ∷ []) ∷ pruning 5 ∷ applying 11 (insert (key_of 16 0) (value_of 4) ∷ delete (key_of 104 0) ∷ []) ∷ [])
      (denied 8 ∷ made 5 zeros 0 ∷ made 9 zeros 0 ∷ freed 0 ∷ made 11 h3 1 ∷ [])
      end26
      ∷ game (store_of 0 0 (free_slots 12))
      (applying 1 (delete (key_of 8 0) ∷ []) ∷ applying 2 (insert (key_of 0 0) (value_of 1) ∷ insert (key_of 8 0) (value_of 1) ∷ []) ∷ applying 3 (insert (key_of 0 0) (value_of 1) ∷ insert (key_of 8 0) (value_of 2) ∷ []) ∷ applying 6 (insert (key_of 0 0) (value_of 1) ∷ []) ∷ applying 11 (delete (key_of 0 0) ∷ []) ∷ [])
      (made 1 zeros 0 ∷ made 2 h82 7 ∷ denied 7 ∷ made 6 h82 1 ∷ made 11 h19 1 ∷ [])
      end27
      ∷ game (store_of 0 0 (free_slots 12))
      (pruning 0 ∷ applying 0 ([]) ∷ pruning 1 ∷ pruning 1 ∷ applying 1 (delete (key_of 255 0) ∷ []) ∷ applying 2 (insert (key_of 255 0) (value_of 4) ∷ insert (key_of 64 0) (value_of 2) ∷ []) ∷ pruning 2 ∷ applying 3 (insert (key_of 64 0) (value_of 2) ∷ []) ∷ [])
      (freed 0 ∷ denied 18 ∷ denied 8 ∷ denied 8 ∷ made 1 zeros 0 ∷ denied 5 ∷ denied 8 ∷ made 3 h18 1 ∷ [])
      end28
      ∷ game (store_of 4294967293 4294967293 (free_slots 8))
      (applying 4294967294 (insert (key_of 255 0) (value_of 2) ∷ insert (key_of 254 0) (value_of 1) ∷ []) ∷ applying 4294967295 (delete (key_of 128 0) ∷ []) ∷ applying 4294967295 (insert (key_of 254 0) (value_of 1) ∷ []) ∷ applying 4294967295 (delete (key_of 255 0) ∷ delete (key_of 128 0) ∷ delete (key_of 8 0) ∷ []) ∷ applying 4294967295 (insert (key_of 8 0) (value_of 4) ∷ []) ∷ applying 4294967295 (insert (key_of 8 0) (value_of 2) ∷ insert (key_of 254 0) (value_of 1) ∷ []) ∷ applying 1985810876 (delete (key_of 255 0) ∷ []) ∷ [])
      (denied 5 ∷ made 4294967295 zeros 0 ∷ denied 18 ∷ denied 5 ∷ denied 18 ∷ denied 18 ∷ denied 18 ∷ [])
      end29
      ∷ []

  pub histories2 : All (GameHolds leaf_hash inner_hash) rows
  unfolding computed
  histories2 = ((refl, refl), ((refl, refl), ((refl, refl), ((refl, refl), ((refl, refl), ((refl, refl), ((refl, refl), ((refl, refl), ((refl, refl), ((refl, refl), ((refl, refl), ((refl, refl), ((refl, refl), ((refl, refl), ((refl, refl), ((refl, refl), ((refl, refl), ((refl, refl), ((refl, refl), ((refl, refl), ((refl, refl), ((refl, refl), ((refl, refl), ((refl, refl), ((refl, refl), ((refl, refl), ((refl, refl), ((refl, refl), ((refl, refl), ((refl, refl), tt))))))))))))))))))))))))))))))
