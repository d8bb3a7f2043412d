-- Random histories, part 3. Written by tests/tables/generate.py; compared with a second reading of document 01, 2026-07 and 2026-13. Assumes nothing.
use mathlib.Core.Path.{◌≡◌, refl}
use mathlib.Core.Bool.{true, false}
use mathlib.Core.List.{List, [], ◌∷◌}
use mathlib.Core.Option.{none, some}
use Rattle.terms.specs.Bits.{Bytes, All}
use Rattle.terms.specs.Records.{insert, delete, free, Store, presence, zeros}
use Rattle.meaning.specs.Computed.{computed}
use Rattle.meaning.specs.Calls.{refused, accepted}
use Rattle.meaning.specs.Desk.{key_of}
use Rattle.meaning.specs.Proving.{step, presence_of, absence_of}
use Rattle.meaning.specs.Reading.{present, absent}
use Rattle.tables.specs.Tables.{Game, game, GameHolds, applying, pruning, made, freed, denied, leaf_slot, inner_slot, store_of, free_slots, value_of}

module _ (leaf_hash inner_hash : Bytes → Bytes → Bytes) where
  abbrev h0 : Bytes
  h0 = leaf_hash (key_of 8 0) (value_of 4)

  abbrev h1 : Bytes
  h1 = leaf_hash (key_of 16 0) (value_of 3)

  abbrev h2 : Bytes
  h2 = inner_hash h0 h1

  abbrev h3 : Bytes
  h3 = inner_hash h2 zeros

  abbrev h4 : Bytes
  h4 = leaf_hash (key_of 96 0) (value_of 2)

  abbrev h5 : Bytes
  h5 = inner_hash h3 h4

  abbrev h6 : Bytes
  h6 = inner_hash h3 zeros

  abbrev h7 : Bytes
  h7 = inner_hash h5 zeros

  abbrev h8 : Bytes
  h8 = inner_hash h6 zeros

  abbrev h9 : Bytes
  h9 = leaf_hash (key_of 0 0) (value_of 1)

  abbrev h10 : Bytes
  h10 = leaf_hash (key_of 192 0) (value_of 4)

  abbrev h11 : Bytes
  h11 = leaf_hash (key_of 0 0) (value_of 2)

  abbrev h12 : Bytes
  h12 = leaf_hash (key_of 192 0) (value_of 1)

  abbrev h13 : Bytes
  h13 = inner_hash h9 h10

  abbrev h14 : Bytes
  h14 = inner_hash h11 h10

  abbrev h15 : Bytes
  h15 = leaf_hash (key_of 128 0) (value_of 3)

  abbrev h16 : Bytes
  h16 = leaf_hash (key_of 144 0) (value_of 3)

  abbrev h17 : Bytes
  h17 = inner_hash h15 h16

  abbrev h18 : Bytes
  h18 = inner_hash h17 zeros

  abbrev h19 : Bytes
  h19 = inner_hash h18 zeros

  abbrev h20 : Bytes
  h20 = inner_hash zeros h19

  abbrev h21 : Bytes
  h21 = inner_hash h15 h10

  abbrev h22 : Bytes
  h22 = leaf_hash (key_of 128 0) (value_of 2)

  abbrev h23 : Bytes
  h23 = leaf_hash (key_of 192 0) (value_of 3)

  abbrev h24 : Bytes
  h24 = inner_hash h22 h23

  abbrev h25 : Bytes
  h25 = inner_hash zeros h21

  abbrev h26 : Bytes
  h26 = inner_hash zeros h24

  abbrev h27 : Bytes
  h27 = leaf_hash (key_of 104 0) (value_of 1)

  abbrev h28 : Bytes
  h28 = inner_hash h4 h27

  abbrev h29 : Bytes
  h29 = inner_hash h28 zeros

  abbrev h30 : Bytes
  h30 = leaf_hash (key_of 0 0) (value_of 3)

  abbrev h31 : Bytes
  h31 = inner_hash zeros h29

  abbrev h32 : Bytes
  h32 = leaf_hash (key_of 128 0) (value_of 1)

  abbrev h33 : Bytes
  h33 = inner_hash h30 h31

  abbrev h34 : Bytes
  h34 = inner_hash h32 h10

  abbrev h35 : Bytes
  h35 = inner_hash h30 h27

  abbrev h36 : Bytes
  h36 = inner_hash h4 h10

  abbrev h37 : Bytes
  h37 = inner_hash h33 h34

  abbrev h38 : Bytes
  h38 = inner_hash h35 h34

  abbrev h39 : Bytes
  h39 = leaf_hash (key_of 128 0) (value_of 4)

  abbrev h40 : Bytes
  h40 = inner_hash h39 h12

  abbrev h41 : Bytes
  h41 = inner_hash zeros h40

  abbrev h42 : Bytes
  h42 = leaf_hash (key_of 64 0) (value_of 4)

  abbrev h43 : Bytes
  h43 = inner_hash h9 h42

  abbrev h44 : Bytes
  h44 = leaf_hash (key_of 0 0) (value_of 4)

  abbrev h45 : Bytes
  h45 = inner_hash h43 zeros

  abbrev h46 : Bytes
  h46 = inner_hash h44 h22

  abbrev h47 : Bytes
  h47 = leaf_hash (key_of 104 0) (value_of 4)

  abbrev h48 : Bytes
  h48 = leaf_hash (key_of 255 0) (value_of 2)

  abbrev h49 : Bytes
  h49 = inner_hash h39 h48

  abbrev h50 : Bytes
  h50 = inner_hash h22 h48

  abbrev h51 : Bytes
  h51 = inner_hash h47 h48

  abbrev h52 : Bytes
  h52 = inner_hash h47 h49

  abbrev h53 : Bytes
  h53 = inner_hash h47 h50

  abbrev h54 : Bytes
  h54 = leaf_hash (key_of 16 0) (value_of 4)

  abbrev h55 : Bytes
  h55 = leaf_hash (key_of 144 0) (value_of 4)

  abbrev h56 : Bytes
  h56 = leaf_hash (key_of 254 0) (value_of 3)

  abbrev h57 : Bytes
  h57 = inner_hash h55 h56

  abbrev h58 : Bytes
  h58 = leaf_hash (key_of 254 0) (value_of 1)

  abbrev h59 : Bytes
  h59 = inner_hash zeros h57

  abbrev h60 : Bytes
  h60 = inner_hash h3 h42

  abbrev h61 : Bytes
  h61 = inner_hash h60 zeros

  abbrev h62 : Bytes
  h62 = leaf_hash (key_of 255 0) (value_of 1)

  abbrev h63 : Bytes
  h63 = inner_hash h23 h62

  abbrev h64 : Bytes
  h64 = inner_hash zeros h63

  abbrev h65 : Bytes
  h65 = inner_hash h12 h62

  abbrev h66 : Bytes
  h66 = inner_hash zeros h65

  abbrev h67 : Bytes
  h67 = inner_hash zeros h66

  abbrev h68 : Bytes
  h68 = inner_hash zeros h64

  abbrev h69 : Bytes
  h69 = leaf_hash (key_of 8 0) (value_of 2)

  abbrev h70 : Bytes
  h70 = leaf_hash (key_of 255 0) (value_of 4)

  abbrev h71 : Bytes
  h71 = leaf_hash (key_of 255 0) (value_of 3)

  abbrev h72 : Bytes
  h72 = inner_hash h27 h58

  abbrev h73 : Bytes
  h73 = leaf_hash (key_of 16 0) (value_of 1)

  abbrev h74 : Bytes
  h74 = leaf_hash (key_of 104 0) (value_of 3)

  abbrev h75 : Bytes
  h75 = inner_hash h73 h74

  abbrev h76 : Bytes
  h76 = inner_hash h73 h27

  abbrev h77 : Bytes
  h77 = inner_hash h75 zeros

  abbrev h78 : Bytes
  h78 = inner_hash h76 zeros

  abbrev h79 : Bytes
  h79 = inner_hash h55 h12

  abbrev h80 : Bytes
  h80 = inner_hash h22 h10

  abbrev h81 : Bytes
  h81 = inner_hash zeros h79

  abbrev h82 : Bytes
  h82 = inner_hash h9 h22

  abbrev h83 : Bytes
  h83 = inner_hash h9 h80

  abbrev h84 : Bytes
  h84 = leaf_hash (key_of 8 0) (value_of 3)

  abbrev h85 : Bytes
  h85 = leaf_hash (key_of 64 0) (value_of 3)

  abbrev h86 : Bytes
  h86 = inner_hash h84 h85

  abbrev h87 : Bytes
  h87 = inner_hash h86 zeros

  abbrev h88 : Bytes
  h88 = inner_hash h30 h85

  abbrev h89 : Bytes
  h89 = inner_hash h88 zeros

  abbrev h90 : Bytes
  h90 = inner_hash h88 h16

  abbrev h91 : Bytes
  h91 = leaf_hash (key_of 96 0) (value_of 1)

  abbrev h92 : Bytes
  h92 = leaf_hash (key_of 96 0) (value_of 4)

  abbrev h93 : Bytes
  h93 = leaf_hash (key_of 64 0) (value_of 2)

  abbrev h94 : Bytes
  h94 = inner_hash h1 h47

  abbrev h95 : Bytes
  h95 = leaf_hash (key_of 16 0) (value_of 2)

  abbrev h96 : Bytes
  h96 = inner_hash h11 h95

  abbrev h97 : Bytes
  h97 = inner_hash h96 zeros

  abbrev h98 : Bytes
  h98 = inner_hash h97 h47

  abbrev h99 : Bytes
  h99 = inner_hash h94 zeros

  abbrev h100 : Bytes
  h100 = inner_hash h98 zeros

  abbrev h101 : Bytes
  h101 = leaf_hash (key_of 144 0) (value_of 1)

  abbrev h102 : Bytes
  h102 = inner_hash h15 h48

  abbrev h103 : Bytes
  h103 = inner_hash h85 h48

  abbrev h104 : Bytes
  h104 = inner_hash h85 h102

  abbrev end0 : Store
  end0 =
      store_of 5 14
      (leaf_slot ([]) 4 8 (key_of 96 0) (value_of 2)
      ∷ leaf_slot (false ∷ false ∷ false ∷ false ∷ []) 8 0 (key_of 8 0) (value_of 4)
      ∷ leaf_slot (false ∷ false ∷ false ∷ true ∷ []) 8 0 (key_of 16 0) (value_of 3)
      ∷ inner_slot (false ∷ false ∷ false ∷ []) 8 0 8 h0 8 h1 1 1
      ∷ inner_slot (false ∷ false ∷ []) 8 0 8 h2 0 zeros 2 0
      ∷ leaf_slot (false ∷ true ∷ []) 8 14 (key_of 96 0) (value_of 2)
      ∷ inner_slot (false ∷ []) 8 14 8 h3 8 h4 2 1
      ∷ inner_slot ([]) 8 12 8 h5 0 zeros 3 0
      ∷ inner_slot ([]) 12 14 8 h5 0 zeros 3 0
      ∷ inner_slot (false ∷ []) 14 0 8 h3 0 zeros 2 0
      ∷ inner_slot ([]) 14 0 14 h6 0 zeros 2 0
      ∷ free
      ∷ [])

  abbrev end1 : Store
  end1 =
      store_of 0 11
      (leaf_slot ([]) 2 4 (key_of 192 0) (value_of 1)
      ∷ leaf_slot ([]) 4 5 (key_of 192 0) (value_of 4)
      ∷ leaf_slot (false ∷ []) 5 9 (key_of 0 0) (value_of 1)
      ∷ leaf_slot (true ∷ []) 5 0 (key_of 192 0) (value_of 4)
      ∷ inner_slot ([]) 5 9 5 h9 5 h10 1 1
      ∷ leaf_slot (false ∷ []) 9 11 (key_of 0 0) (value_of 2)
      ∷ inner_slot ([]) 9 10 9 h11 5 h10 1 1
      ∷ inner_slot ([]) 10 11 9 h11 5 h10 1 1
      ∷ leaf_slot (false ∷ []) 11 0 (key_of 0 0) (value_of 1)
      ∷ inner_slot ([]) 11 0 11 h9 5 h10 1 1
      ∷ free
      ∷ free
      ∷ [])

  abbrev end2 : Store
  end2 =
      store_of 3 5
      (leaf_slot (true ∷ false ∷ false ∷ false ∷ []) 2 0 (key_of 128 0) (value_of 3)
      ∷ leaf_slot (true ∷ false ∷ false ∷ true ∷ []) 2 0 (key_of 144 0) (value_of 3)
      ∷ inner_slot (true ∷ false ∷ false ∷ []) 2 0 2 h15 2 h16 1 1
      ∷ inner_slot (true ∷ false ∷ []) 2 0 2 h17 0 zeros 2 0
      ∷ inner_slot (true ∷ []) 2 0 2 h18 0 zeros 2 0
      ∷ inner_slot ([]) 2 5 0 zeros 2 h19 0 2
      ∷ inner_slot ([]) 5 0 0 zeros 2 h19 0 2
      ∷ free
      ∷ [])

  abbrev end3 : Store
  end3 =
      store_of 0 9
      (leaf_slot (true ∷ false ∷ []) 6 9 (key_of 128 0) (value_of 3)
      ∷ leaf_slot (true ∷ true ∷ []) 6 9 (key_of 192 0) (value_of 4)
      ∷ inner_slot (true ∷ []) 6 9 6 h15 6 h10 1 1
      ∷ inner_slot ([]) 6 9 0 zeros 6 h21 0 2
      ∷ leaf_slot (true ∷ false ∷ []) 9 0 (key_of 128 0) (value_of 2)
      ∷ leaf_slot (true ∷ true ∷ []) 9 0 (key_of 192 0) (value_of 3)
      ∷ inner_slot (true ∷ []) 9 0 9 h22 9 h23 1 1
      ∷ inner_slot ([]) 9 0 0 zeros 9 h24 0 2
      ∷ [])

  abbrev end4 : Store
  end4 =
      store_of 0 10
      (leaf_slot (false ∷ []) 6 9 (key_of 96 0) (value_of 2)
      ∷ leaf_slot (true ∷ []) 6 9 (key_of 192 0) (value_of 4)
      ∷ inner_slot ([]) 6 9 6 h4 6 h10 1 1
      ∷ leaf_slot (false ∷ true ∷ true ∷ false ∷ false ∷ []) 9 10 (key_of 96 0) (value_of 2)
      ∷ leaf_slot (false ∷ true ∷ true ∷ false ∷ true ∷ []) 9 10 (key_of 104 0) (value_of 1)
      ∷ inner_slot (false ∷ true ∷ true ∷ false ∷ []) 9 10 9 h4 9 h27 1 1
      ∷ inner_slot (false ∷ true ∷ true ∷ []) 9 10 9 h28 0 zeros 2 0
      ∷ leaf_slot (false ∷ false ∷ []) 9 0 (key_of 0 0) (value_of 3)
      ∷ inner_slot (false ∷ true ∷ []) 9 10 0 zeros 9 h29 0 2
      ∷ leaf_slot (true ∷ false ∷ []) 9 0 (key_of 128 0) (value_of 1)
      ∷ leaf_slot (true ∷ true ∷ []) 9 0 (key_of 192 0) (value_of 4)
      ∷ inner_slot (false ∷ []) 9 10 9 h30 9 h31 1 2
      ∷ inner_slot (true ∷ []) 9 0 9 h32 9 h10 1 1
      ∷ inner_slot ([]) 9 10 9 h33 9 h34 3 2
      ∷ leaf_slot (false ∷ true ∷ []) 10 0 (key_of 104 0) (value_of 1)
      ∷ inner_slot (false ∷ []) 10 0 9 h30 10 h27 1 1
      ∷ inner_slot ([]) 10 0 10 h35 9 h34 2 2
      ∷ free
      ∷ free
      ∷ free
      ∷ free
      ∷ free
      ∷ free
      ∷ free
      ∷ [])

  abbrev end5 : Store
  end5 =
      store_of 0 6
      (leaf_slot ([]) 1 3 (key_of 128 0) (value_of 4)
      ∷ leaf_slot (true ∷ false ∷ []) 3 4 (key_of 128 0) (value_of 4)
      ∷ leaf_slot (true ∷ true ∷ []) 3 4 (key_of 192 0) (value_of 1)
      ∷ inner_slot (true ∷ []) 3 4 3 h39 3 h12 1 1
      ∷ inner_slot ([]) 3 4 0 zeros 3 h40 0 2
      ∷ leaf_slot ([]) 4 5 (key_of 128 0) (value_of 4)
      ∷ free
      ∷ free
      ∷ free
      ∷ free
      ∷ free
      ∷ free
      ∷ [])

  abbrev end6 : Store
  end6 =
      store_of 4294967293 4294967295
      (free
      ∷ free
      ∷ free
      ∷ free
      ∷ free
      ∷ free
      ∷ free
      ∷ free
      ∷ free
      ∷ free
      ∷ free
      ∷ free
      ∷ free
      ∷ free
      ∷ free
      ∷ free
      ∷ [])

  abbrev end7 : Store
  end7 =
      store_of 5 8
      (leaf_slot (false ∷ false ∷ []) 1 6 (key_of 0 0) (value_of 1)
      ∷ leaf_slot (false ∷ true ∷ []) 1 6 (key_of 64 0) (value_of 4)
      ∷ inner_slot (false ∷ []) 1 6 1 h9 1 h42 1 1
      ∷ inner_slot ([]) 1 6 1 h43 0 zeros 2 0
      ∷ leaf_slot (false ∷ []) 6 0 (key_of 0 0) (value_of 4)
      ∷ leaf_slot (true ∷ []) 6 0 (key_of 128 0) (value_of 2)
      ∷ inner_slot ([]) 6 7 6 h44 6 h22 1 1
      ∷ inner_slot ([]) 7 8 6 h44 6 h22 1 1
      ∷ inner_slot ([]) 8 0 6 h44 6 h22 1 1
      ∷ free
      ∷ free
      ∷ free
      ∷ free
      ∷ free
      ∷ free
      ∷ free
      ∷ [])

  abbrev end8 : Store
  end8 =
      store_of 0 10
      (leaf_slot (false ∷ []) 1 0 (key_of 104 0) (value_of 4)
      ∷ leaf_slot (true ∷ []) 1 2 (key_of 255 0) (value_of 2)
      ∷ inner_slot ([]) 1 2 1 h47 1 h48 1 1
      ∷ leaf_slot (true ∷ false ∷ []) 2 3 (key_of 128 0) (value_of 4)
      ∷ leaf_slot (true ∷ true ∷ []) 2 0 (key_of 255 0) (value_of 2)
      ∷ inner_slot (true ∷ []) 2 3 2 h39 2 h48 1 1
      ∷ inner_slot ([]) 2 3 1 h47 2 h49 1 2
      ∷ leaf_slot (true ∷ false ∷ []) 3 0 (key_of 128 0) (value_of 2)
      ∷ inner_slot (true ∷ []) 3 0 3 h22 2 h48 1 1
      ∷ inner_slot ([]) 3 4 1 h47 3 h50 1 2
      ∷ inner_slot ([]) 4 9 1 h47 3 h50 1 2
      ∷ inner_slot ([]) 9 10 1 h47 3 h50 1 2
      ∷ inner_slot ([]) 10 0 1 h47 3 h50 1 2
      ∷ free
      ∷ free
      ∷ free
      ∷ [])

  abbrev end9 : Store
  end9 =
      store_of 3 7
      (leaf_slot ([]) 4 7 (key_of 16 0) (value_of 4)
      ∷ leaf_slot ([]) 7 0 (key_of 192 0) (value_of 1)
      ∷ free
      ∷ free
      ∷ free
      ∷ free
      ∷ free
      ∷ free
      ∷ free
      ∷ free
      ∷ free
      ∷ free
      ∷ free
      ∷ free
      ∷ free
      ∷ free
      ∷ free
      ∷ free
      ∷ free
      ∷ free
      ∷ free
      ∷ free
      ∷ free
      ∷ free
      ∷ [])

  abbrev end10 : Store
  end10 =
      store_of 0 14
      (leaf_slot ([]) 2 3 (key_of 254 0) (value_of 1)
      ∷ leaf_slot ([]) 3 8 (key_of 254 0) (value_of 1)
      ∷ leaf_slot ([]) 8 13 (key_of 144 0) (value_of 4)
      ∷ leaf_slot (true ∷ false ∷ []) 13 14 (key_of 144 0) (value_of 4)
      ∷ leaf_slot (true ∷ true ∷ []) 13 14 (key_of 254 0) (value_of 3)
      ∷ inner_slot (true ∷ []) 13 14 13 h55 13 h56 1 1
      ∷ inner_slot ([]) 13 14 0 zeros 13 h57 0 2
      ∷ leaf_slot ([]) 14 0 (key_of 254 0) (value_of 3)
      ∷ free
      ∷ free
      ∷ free
      ∷ free
      ∷ free
      ∷ free
      ∷ free
      ∷ free
      ∷ [])

  abbrev end11 : Store
  end11 =
      store_of 0 5
      (leaf_slot ([]) 1 3 (key_of 144 0) (value_of 4)
      ∷ leaf_slot ([]) 3 4 (key_of 144 0) (value_of 4)
      ∷ leaf_slot ([]) 4 5 (key_of 144 0) (value_of 4)
      ∷ free
      ∷ [])

  abbrev end12 : Store
  end12 =
      store_of 0 6
      (free
      ∷ free
      ∷ free
      ∷ free
      ∷ free
      ∷ free
      ∷ free
      ∷ free
      ∷ free
      ∷ free
      ∷ free
      ∷ free
      ∷ free
      ∷ free
      ∷ free
      ∷ free
      ∷ free
      ∷ free
      ∷ free
      ∷ free
      ∷ free
      ∷ free
      ∷ free
      ∷ free
      ∷ [])

  abbrev end13 : Store
  end13 =
      store_of 4294967293 4294967295
      (leaf_slot (false ∷ false ∷ false ∷ false ∷ []) 4294967295 0 (key_of 8 0) (value_of 4)
      ∷ leaf_slot (false ∷ false ∷ false ∷ true ∷ []) 4294967295 0 (key_of 16 0) (value_of 3)
      ∷ inner_slot (false ∷ false ∷ false ∷ []) 4294967295 0 4294967295 h0 4294967295 h1 1 1
      ∷ inner_slot (false ∷ false ∷ []) 4294967295 0 4294967295 h2 0 zeros 2 0
      ∷ leaf_slot (false ∷ true ∷ []) 4294967295 0 (key_of 64 0) (value_of 4)
      ∷ inner_slot (false ∷ []) 4294967295 0 4294967295 h3 4294967295 h42 2 1
      ∷ inner_slot ([]) 4294967295 0 4294967295 h60 0 zeros 3 0
      ∷ free
      ∷ free
      ∷ free
      ∷ free
      ∷ free
      ∷ free
      ∷ free
      ∷ free
      ∷ free
      ∷ free
      ∷ free
      ∷ free
      ∷ free
      ∷ free
      ∷ free
      ∷ free
      ∷ free
      ∷ [])

  abbrev end14 : Store
  end14 =
      store_of 2 8
      (leaf_slot ([]) 2 5 (key_of 192 0) (value_of 3)
      ∷ leaf_slot ([]) 5 7 (key_of 192 0) (value_of 3)
      ∷ leaf_slot ([]) 7 8 (key_of 192 0) (value_of 3)
      ∷ leaf_slot ([]) 8 0 (key_of 192 0) (value_of 3)
      ∷ free
      ∷ free
      ∷ free
      ∷ free
      ∷ [])

  abbrev end15 : Store
  end15 =
      store_of 2 6
      (inner_slot ([]) 6 0 0 zeros 5 h64 0 2
      ∷ leaf_slot ([]) 2 3 (key_of 192 0) (value_of 3)
      ∷ leaf_slot (true ∷ true ∷ false ∷ []) 3 5 (key_of 192 0) (value_of 1)
      ∷ leaf_slot (true ∷ true ∷ true ∷ []) 3 0 (key_of 255 0) (value_of 1)
      ∷ inner_slot (true ∷ true ∷ []) 3 5 3 h12 3 h62 1 1
      ∷ inner_slot (true ∷ []) 3 5 0 zeros 3 h65 0 2
      ∷ inner_slot ([]) 3 4 0 zeros 3 h66 0 2
      ∷ inner_slot ([]) 4 5 0 zeros 3 h66 0 2
      ∷ leaf_slot (true ∷ true ∷ false ∷ []) 5 0 (key_of 192 0) (value_of 3)
      ∷ inner_slot (true ∷ true ∷ []) 5 0 5 h23 3 h62 1 1
      ∷ inner_slot (true ∷ []) 5 0 0 zeros 5 h63 0 2
      ∷ inner_slot ([]) 5 6 0 zeros 5 h64 0 2
      ∷ [])

  abbrev end16 : Store
  end16 =
      store_of 2 11
      (leaf_slot ([]) 1 3 (key_of 8 0) (value_of 2)
      ∷ leaf_slot ([]) 3 7 (key_of 8 0) (value_of 2)
      ∷ leaf_slot ([]) 7 11 (key_of 8 0) (value_of 2)
      ∷ leaf_slot ([]) 11 0 (key_of 8 0) (value_of 2)
      ∷ [])

  abbrev end17 : Store
  end17 =
      store_of 7 14
      (leaf_slot ([]) 6 8 (key_of 255 0) (value_of 4)
      ∷ leaf_slot ([]) 8 13 (key_of 255 0) (value_of 3)
      ∷ leaf_slot ([]) 13 14 (key_of 255 0) (value_of 3)
      ∷ free
      ∷ free
      ∷ free
      ∷ free
      ∷ free
      ∷ free
      ∷ free
      ∷ free
      ∷ free
      ∷ free
      ∷ free
      ∷ free
      ∷ free
      ∷ free
      ∷ free
      ∷ free
      ∷ free
      ∷ free
      ∷ free
      ∷ free
      ∷ free
      ∷ [])

  abbrev end18 : Store
  end18 =
      store_of 0 7
      (leaf_slot ([]) 6 7 (key_of 104 0) (value_of 1)
      ∷ leaf_slot (false ∷ []) 7 0 (key_of 104 0) (value_of 1)
      ∷ leaf_slot (true ∷ []) 7 0 (key_of 254 0) (value_of 1)
      ∷ inner_slot ([]) 7 0 7 h27 7 h58 1 1
      ∷ [])

  abbrev end19 : Store
  end19 =
      store_of 5 6
      (leaf_slot (false ∷ false ∷ []) 2 0 (key_of 16 0) (value_of 1)
      ∷ leaf_slot (false ∷ true ∷ []) 2 6 (key_of 104 0) (value_of 3)
      ∷ inner_slot (false ∷ []) 2 6 2 h73 2 h74 1 1
      ∷ free
      ∷ inner_slot ([]) 3 6 2 h75 0 zeros 2 0
      ∷ leaf_slot (false ∷ true ∷ []) 6 0 (key_of 104 0) (value_of 1)
      ∷ inner_slot (false ∷ []) 6 0 2 h73 6 h27 1 1
      ∷ inner_slot ([]) 6 0 6 h76 0 zeros 2 0
      ∷ free
      ∷ free
      ∷ free
      ∷ free
      ∷ free
      ∷ free
      ∷ free
      ∷ free
      ∷ free
      ∷ free
      ∷ free
      ∷ free
      ∷ free
      ∷ free
      ∷ free
      ∷ free
      ∷ [])

  abbrev end20 : Store
  end20 =
      store_of 0 5
      (leaf_slot (true ∷ false ∷ []) 1 2 (key_of 144 0) (value_of 4)
      ∷ leaf_slot (true ∷ true ∷ []) 1 2 (key_of 192 0) (value_of 1)
      ∷ inner_slot (true ∷ []) 1 2 1 h55 1 h12 1 1
      ∷ inner_slot ([]) 1 2 0 zeros 1 h79 0 2
      ∷ leaf_slot (false ∷ []) 2 0 (key_of 0 0) (value_of 1)
      ∷ leaf_slot (true ∷ []) 2 5 (key_of 128 0) (value_of 2)
      ∷ inner_slot ([]) 2 3 2 h9 2 h22 1 1
      ∷ inner_slot ([]) 3 5 2 h9 2 h22 1 1
      ∷ leaf_slot (true ∷ false ∷ []) 5 0 (key_of 128 0) (value_of 2)
      ∷ leaf_slot (true ∷ true ∷ []) 5 0 (key_of 192 0) (value_of 4)
      ∷ inner_slot (true ∷ []) 5 0 5 h22 5 h10 1 1
      ∷ inner_slot ([]) 5 0 2 h9 5 h80 1 2
      ∷ [])

  abbrev end21 : Store
  end21 =
      store_of 5 12
      (leaf_slot ([]) 5 6 (key_of 128 0) (value_of 1)
      ∷ leaf_slot ([]) 6 11 (key_of 128 0) (value_of 1)
      ∷ leaf_slot ([]) 11 12 (key_of 128 0) (value_of 3)
      ∷ leaf_slot (false ∷ false ∷ []) 12 0 (key_of 8 0) (value_of 3)
      ∷ leaf_slot (false ∷ true ∷ []) 12 0 (key_of 64 0) (value_of 3)
      ∷ inner_slot (false ∷ []) 12 0 12 h84 12 h85 1 1
      ∷ inner_slot ([]) 12 0 12 h86 0 zeros 2 0
      ∷ free
      ∷ free
      ∷ free
      ∷ free
      ∷ free
      ∷ free
      ∷ free
      ∷ free
      ∷ free
      ∷ free
      ∷ free
      ∷ free
      ∷ free
      ∷ free
      ∷ free
      ∷ free
      ∷ free
      ∷ [])

  abbrev end22 : Store
  end22 =
      store_of 0 7
      (leaf_slot (false ∷ false ∷ []) 5 0 (key_of 0 0) (value_of 3)
      ∷ leaf_slot (false ∷ true ∷ []) 5 0 (key_of 64 0) (value_of 3)
      ∷ inner_slot (false ∷ []) 5 0 5 h30 5 h85 1 1
      ∷ inner_slot ([]) 5 6 5 h88 0 zeros 2 0
      ∷ leaf_slot (true ∷ []) 6 0 (key_of 144 0) (value_of 3)
      ∷ inner_slot ([]) 6 7 5 h88 6 h16 2 1
      ∷ inner_slot ([]) 7 0 5 h88 6 h16 2 1
      ∷ free
      ∷ free
      ∷ free
      ∷ free
      ∷ free
      ∷ [])

  abbrev end23 : Store
  end23 =
      store_of 1 13
      (leaf_slot ([]) 1 3 (key_of 96 0) (value_of 1)
      ∷ leaf_slot ([]) 9 10 (key_of 64 0) (value_of 4)
      ∷ leaf_slot ([]) 10 11 (key_of 96 0) (value_of 4)
      ∷ leaf_slot ([]) 11 12 (key_of 96 0) (value_of 4)
      ∷ leaf_slot ([]) 12 13 (key_of 64 0) (value_of 2)
      ∷ leaf_slot ([]) 13 0 (key_of 64 0) (value_of 2)
      ∷ free
      ∷ free
      ∷ free
      ∷ free
      ∷ free
      ∷ free
      ∷ free
      ∷ free
      ∷ free
      ∷ free
      ∷ free
      ∷ free
      ∷ free
      ∷ free
      ∷ free
      ∷ free
      ∷ free
      ∷ free
      ∷ [])

  abbrev end24 : Store
  end24 =
      store_of 7 7
      (free
      ∷ free
      ∷ leaf_slot ([]) 7 0 (key_of 144 0) (value_of 3)
      ∷ free
      ∷ [])

  abbrev end25 : Store
  end25 =
      store_of 12 14
      (free
      ∷ free
      ∷ leaf_slot ([]) 9 13 (key_of 104 0) (value_of 4)
      ∷ leaf_slot (false ∷ false ∷ []) 13 14 (key_of 16 0) (value_of 3)
      ∷ leaf_slot (false ∷ true ∷ []) 13 0 (key_of 104 0) (value_of 4)
      ∷ inner_slot (false ∷ []) 13 14 13 h1 13 h47 1 1
      ∷ inner_slot ([]) 13 14 13 h94 0 zeros 2 0
      ∷ leaf_slot (false ∷ false ∷ false ∷ false ∷ []) 14 0 (key_of 0 0) (value_of 2)
      ∷ leaf_slot (false ∷ false ∷ false ∷ true ∷ []) 14 0 (key_of 16 0) (value_of 2)
      ∷ inner_slot (false ∷ false ∷ false ∷ []) 14 0 14 h11 14 h95 1 1
      ∷ inner_slot (false ∷ false ∷ []) 14 0 14 h96 0 zeros 2 0
      ∷ inner_slot (false ∷ []) 14 0 14 h97 13 h47 2 1
      ∷ inner_slot ([]) 14 0 14 h98 0 zeros 3 0
      ∷ free
      ∷ free
      ∷ free
      ∷ free
      ∷ free
      ∷ free
      ∷ free
      ∷ free
      ∷ free
      ∷ free
      ∷ free
      ∷ [])

  abbrev end26 : Store
  end26 =
      store_of 4 13
      (free
      ∷ leaf_slot ([]) 2 5 (key_of 16 0) (value_of 1)
      ∷ leaf_slot ([]) 12 13 (key_of 0 0) (value_of 3)
      ∷ free
      ∷ [])

  abbrev end27 : Store
  end27 =
      store_of 0 9
      (leaf_slot ([]) 4 7 (key_of 144 0) (value_of 1)
      ∷ leaf_slot ([]) 7 8 (key_of 144 0) (value_of 1)
      ∷ leaf_slot ([]) 8 9 (key_of 128 0) (value_of 3)
      ∷ leaf_slot ([]) 9 0 (key_of 128 0) (value_of 3)
      ∷ free
      ∷ free
      ∷ free
      ∷ free
      ∷ [])

  abbrev end28 : Store
  end28 =
      store_of 5 12
      (leaf_slot ([]) 5 6 (key_of 144 0) (value_of 3)
      ∷ leaf_slot ([]) 7 8 (key_of 0 0) (value_of 1)
      ∷ free
      ∷ free
      ∷ free
      ∷ free
      ∷ free
      ∷ free
      ∷ free
      ∷ free
      ∷ free
      ∷ free
      ∷ [])

  abbrev end29 : Store
  end29 =
      store_of 0 12
      (leaf_slot (false ∷ []) 6 0 (key_of 64 0) (value_of 3)
      ∷ leaf_slot (true ∷ []) 6 12 (key_of 255 0) (value_of 2)
      ∷ inner_slot ([]) 6 11 6 h85 6 h48 1 1
      ∷ inner_slot ([]) 11 12 6 h85 6 h48 1 1
      ∷ leaf_slot (true ∷ false ∷ []) 12 0 (key_of 128 0) (value_of 3)
      ∷ leaf_slot (true ∷ true ∷ []) 12 0 (key_of 255 0) (value_of 2)
      ∷ inner_slot (true ∷ []) 12 0 12 h15 12 h48 1 1
      ∷ inner_slot ([]) 12 0 6 h85 12 h102 1 2
      ∷ free
      ∷ free
      ∷ free
      ∷ free
      ∷ free
      ∷ free
      ∷ free
      ∷ free
      ∷ free
      ∷ free
      ∷ free
      ∷ free
      ∷ free
      ∷ free
      ∷ free
      ∷ free
      ∷ [])

  abbrev rows : List Game
  rows =
      game (store_of 0 0 (free_slots 12))
      (applying 4 (insert (key_of 96 0) (value_of 2) ∷ []) ∷ applying 8 (insert (key_of 8 0) (value_of 4) ∷ insert (key_of 16 0) (value_of 3) ∷ []) ∷ pruning 2 ∷ applying 12 (insert (key_of 8 0) (value_of 4) ∷ delete (key_of 104 0) ∷ []) ∷ pruning 4 ∷ applying 14 (delete (key_of 96 0) ∷ []) ∷ pruning 4 ∷ pruning 5 ∷ applying 16 (insert (key_of 16 0) (value_of 1) ∷ []) ∷ [])
      (made 4 h4 1 ∷ made 8 h7 7 ∷ freed 0 ∷ made 12 h7 1 ∷ freed 0 ∷ made 14 h8 2 ∷ freed 0 ∷ freed 0 ∷ denied 7 ∷ [])
      end0
      ∷ game (store_of 0 0 (free_slots 12))
      (applying 1 (delete (key_of 0 0) ∷ []) ∷ applying 2 (insert (key_of 192 0) (value_of 1) ∷ []) ∷ applying 4 (delete (key_of 0 0) ∷ insert (key_of 192 0) (value_of 4) ∷ []) ∷ applying 5 (insert (key_of 0 0) (value_of 1) ∷ insert (key_of 192 0) (value_of 4) ∷ []) ∷ applying 9 (insert (key_of 0 0) (value_of 2) ∷ insert (key_of 192 0) (value_of 4) ∷ []) ∷ applying 10 (insert (key_of 192 0) (value_of 4) ∷ []) ∷ applying 11 (insert (key_of 0 0) (value_of 1) ∷ []) ∷ applying 2 (delete (key_of 0 0) ∷ insert (key_of 192 0) (value_of 1) ∷ []) ∷ [])
      (made 1 zeros 0 ∷ made 2 h12 1 ∷ made 4 h10 1 ∷ made 5 h13 3 ∷ made 9 h14 2 ∷ made 10 h14 1 ∷ made 11 h13 2 ∷ denied 18 ∷ [])
      end1
      ∷ game (store_of 0 0 (free_slots 8))
      (pruning 0 ∷ pruning 0 ∷ pruning 0 ∷ applying 1 (delete (key_of 144 0) ∷ []) ∷ pruning 2 ∷ applying 2 (insert (key_of 128 0) (value_of 3) ∷ insert (key_of 144 0) (value_of 3) ∷ []) ∷ applying 3 (insert (key_of 144 0) (value_of 3) ∷ delete (key_of 128 0) ∷ []) ∷ applying 5 ([]) ∷ applying 6 (delete (key_of 104 0) ∷ insert (key_of 128 0) (value_of 2) ∷ delete (key_of 255 0) ∷ []) ∷ pruning 3 ∷ [])
      (freed 0 ∷ freed 0 ∷ freed 0 ∷ made 1 zeros 0 ∷ denied 8 ∷ made 2 h20 6 ∷ denied 5 ∷ made 5 h20 1 ∷ denied 7 ∷ freed 0 ∷ [])
      end2
      ∷ game (store_of 0 0 (free_slots 8))
      (applying 1 (delete (key_of 104 0) ∷ []) ∷ applying 5 (delete (key_of 104 0) ∷ []) ∷ applying 6 (insert (key_of 128 0) (value_of 3) ∷ insert (key_of 192 0) (value_of 4) ∷ []) ∷ applying 9 (insert (key_of 128 0) (value_of 2) ∷ insert (key_of 192 0) (value_of 3) ∷ []) ∷ [])
      (made 1 zeros 0 ∷ made 5 zeros 0 ∷ made 6 h25 4 ∷ made 9 h26 4 ∷ [])
      end3
      ∷ game (store_of 0 0 (free_slots 24))
      (pruning 0 ∷ pruning 0 ∷ applying 5 (delete (key_of 96 0) ∷ delete (key_of 104 0) ∷ []) ∷ applying 6 (insert (key_of 96 0) (value_of 2) ∷ insert (key_of 192 0) (value_of 4) ∷ []) ∷ applying 9 (insert (key_of 0 0) (value_of 3) ∷ insert (key_of 104 0) (value_of 1) ∷ insert (key_of 128 0) (value_of 1) ∷ []) ∷ applying 10 (delete (key_of 96 0) ∷ []) ∷ [])
      (freed 0 ∷ freed 0 ∷ made 5 zeros 0 ∷ made 6 h36 3 ∷ made 9 h37 11 ∷ made 10 h38 3 ∷ [])
      end4
      ∷ game (store_of 0 0 (free_slots 12))
      (applying 1 (insert (key_of 128 0) (value_of 4) ∷ delete (key_of 192 0) ∷ []) ∷ applying 3 (insert (key_of 192 0) (value_of 1) ∷ []) ∷ applying 4 (insert (key_of 128 0) (value_of 4) ∷ delete (key_of 192 0) ∷ []) ∷ applying 5 (delete (key_of 128 0) ∷ delete (key_of 192 0) ∷ []) ∷ applying 6 (delete (key_of 192 0) ∷ []) ∷ [])
      (made 1 h39 1 ∷ made 3 h41 4 ∷ made 4 h39 1 ∷ made 5 zeros 0 ∷ made 6 zeros 0 ∷ [])
      end5
      ∷ game (store_of 4294967293 4294967293 (free_slots 16))
      (pruning 4294967292 ∷ pruning 4294967292 ∷ pruning 4294967293 ∷ pruning 4294967292 ∷ applying 4294967295 (delete (key_of 144 0) ∷ []) ∷ applying 4294967295 ([]) ∷ [])
      (denied 8 ∷ denied 8 ∷ freed 0 ∷ denied 8 ∷ made 4294967295 zeros 0 ∷ denied 18 ∷ [])
      end6
      ∷ game (store_of 0 0 (free_slots 16))
      (applying 1 (insert (key_of 0 0) (value_of 1) ∷ insert (key_of 64 0) (value_of 4) ∷ []) ∷ pruning 0 ∷ applying 6 (insert (key_of 0 0) (value_of 4) ∷ delete (key_of 64 0) ∷ insert (key_of 128 0) (value_of 2) ∷ []) ∷ pruning 5 ∷ applying 7 (delete (key_of 64 0) ∷ []) ∷ pruning 4 ∷ applying 8 ([]) ∷ [])
      (made 1 h45 4 ∷ freed 0 ∷ made 6 h46 3 ∷ freed 0 ∷ made 7 h46 1 ∷ denied 8 ∷ made 8 h46 1 ∷ [])
      end7
      ∷ game (store_of 0 0 (free_slots 16))
      (applying 1 (insert (key_of 104 0) (value_of 4) ∷ insert (key_of 255 0) (value_of 2) ∷ []) ∷ applying 2 (delete (key_of 64 0) ∷ insert (key_of 128 0) (value_of 4) ∷ []) ∷ applying 3 (insert (key_of 128 0) (value_of 2) ∷ []) ∷ applying 0 (insert (key_of 128 0) (value_of 4) ∷ delete (key_of 255 0) ∷ []) ∷ applying 4 (insert (key_of 104 0) (value_of 4) ∷ []) ∷ applying 9 (insert (key_of 96 0) (value_of 2) ∷ []) ∷ pruning 0 ∷ applying 9 (delete (key_of 64 0) ∷ []) ∷ applying 10 (delete (key_of 96 0) ∷ insert (key_of 104 0) (value_of 4) ∷ []) ∷ [])
      (made 1 h51 3 ∷ made 2 h52 4 ∷ made 3 h53 3 ∷ denied 18 ∷ made 4 h53 1 ∷ denied 7 ∷ freed 0 ∷ made 9 h53 1 ∷ made 10 h53 1 ∷ [])
      end8
      ∷ game (store_of 0 0 (free_slots 24))
      (pruning 1 ∷ applying 3 (delete (key_of 144 0) ∷ []) ∷ applying 4 (delete (key_of 0 0) ∷ insert (key_of 16 0) (value_of 4) ∷ delete (key_of 104 0) ∷ delete (key_of 192 0) ∷ []) ∷ applying 7 (delete (key_of 0 0) ∷ delete (key_of 16 0) ∷ delete (key_of 104 0) ∷ insert (key_of 192 0) (value_of 1) ∷ []) ∷ pruning 3 ∷ [])
      (denied 8 ∷ made 3 zeros 0 ∷ made 4 h54 1 ∷ made 7 h12 1 ∷ freed 0 ∷ [])
      end9
      ∷ game (store_of 0 0 (free_slots 16))
      (applying 2 (insert (key_of 254 0) (value_of 1) ∷ []) ∷ applying 3 ([]) ∷ applying 8 (insert (key_of 144 0) (value_of 4) ∷ delete (key_of 254 0) ∷ []) ∷ applying 13 (delete (key_of 0 0) ∷ insert (key_of 254 0) (value_of 3) ∷ []) ∷ applying 14 (delete (key_of 144 0) ∷ []) ∷ [])
      (made 2 h58 1 ∷ made 3 h58 1 ∷ made 8 h55 1 ∷ made 13 h59 4 ∷ made 14 h56 1 ∷ [])
      end10
      ∷ game (store_of 0 0 (free_slots 4))
      (pruning 0 ∷ applying 1 (insert (key_of 144 0) (value_of 4) ∷ []) ∷ pruning 2 ∷ pruning 0 ∷ applying 3 ([]) ∷ applying 4 ([]) ∷ applying 5 (insert (key_of 64 0) (value_of 2) ∷ delete (key_of 104 0) ∷ insert (key_of 144 0) (value_of 3) ∷ []) ∷ applying 5 (insert (key_of 104 0) (value_of 3) ∷ []) ∷ applying 5 (delete (key_of 16 0) ∷ delete (key_of 144 0) ∷ []) ∷ [])
      (freed 0 ∷ made 1 h55 1 ∷ denied 8 ∷ freed 0 ∷ made 3 h55 1 ∷ made 4 h55 1 ∷ denied 7 ∷ denied 7 ∷ made 5 zeros 0 ∷ [])
      end11
      ∷ game (store_of 0 0 (free_slots 24))
      (applying 3 ([]) ∷ applying 4 (delete (key_of 16 0) ∷ []) ∷ applying 5 (delete (key_of 64 0) ∷ delete (key_of 255 0) ∷ []) ∷ applying 6 ([]) ∷ pruning 0 ∷ [])
      (made 3 zeros 0 ∷ made 4 zeros 0 ∷ made 5 zeros 0 ∷ made 6 zeros 0 ∷ freed 0 ∷ [])
      end12
      ∷ game (store_of 4294967293 4294967293 (free_slots 24))
      (pruning 4294967294 ∷ applying 4294967295 (insert (key_of 8 0) (value_of 4) ∷ insert (key_of 16 0) (value_of 3) ∷ insert (key_of 64 0) (value_of 4) ∷ []) ∷ applying 4294967295 (delete (key_of 16 0) ∷ []) ∷ pruning 4294967293 ∷ [])
      (denied 8 ∷ made 4294967295 h61 7 ∷ denied 18 ∷ freed 0 ∷ [])
      end13
      ∷ game (store_of 0 0 (free_slots 8))
      (applying 2 (insert (key_of 192 0) (value_of 3) ∷ []) ∷ pruning 1 ∷ applying 5 (delete (key_of 64 0) ∷ insert (key_of 192 0) (value_of 3) ∷ []) ∷ applying 7 (delete (key_of 144 0) ∷ []) ∷ applying 8 (insert (key_of 192 0) (value_of 3) ∷ []) ∷ pruning 2 ∷ [])
      (made 2 h23 1 ∷ freed 0 ∷ made 5 h23 1 ∷ made 7 h23 1 ∷ made 8 h23 1 ∷ freed 0 ∷ [])
      end14
      ∷ game (store_of 0 0 (free_slots 12))
      (applying 1 (delete (key_of 144 0) ∷ insert (key_of 192 0) (value_of 3) ∷ []) ∷ applying 2 (insert (key_of 192 0) (value_of 3) ∷ delete (key_of 254 0) ∷ []) ∷ applying 3 (insert (key_of 192 0) (value_of 1) ∷ insert (key_of 255 0) (value_of 1) ∷ []) ∷ applying 4 ([]) ∷ applying 5 (insert (key_of 192 0) (value_of 3) ∷ insert (key_of 255 0) (value_of 1) ∷ []) ∷ pruning 2 ∷ applying 6 (delete (key_of 64 0) ∷ []) ∷ applying 7 (delete (key_of 144 0) ∷ insert (key_of 255 0) (value_of 1) ∷ []) ∷ pruning 7 ∷ [])
      (made 1 h23 1 ∷ made 2 h23 1 ∷ made 3 h67 5 ∷ made 4 h67 1 ∷ made 5 h68 4 ∷ freed 1 ∷ made 6 h68 1 ∷ denied 7 ∷ denied 8 ∷ [])
      end15
      ∷ game (store_of 0 0 (free_slots 4))
      (applying 1 (insert (key_of 8 0) (value_of 2) ∷ delete (key_of 254 0) ∷ []) ∷ applying 3 (insert (key_of 8 0) (value_of 2) ∷ []) ∷ applying 4 (delete (key_of 144 0) ∷ insert (key_of 192 0) (value_of 1) ∷ []) ∷ pruning 2 ∷ applying 4 (insert (key_of 16 0) (value_of 4) ∷ insert (key_of 144 0) (value_of 3) ∷ insert (key_of 254 0) (value_of 2) ∷ []) ∷ applying 7 (delete (key_of 254 0) ∷ []) ∷ applying 11 (delete (key_of 144 0) ∷ []) ∷ applying 12 (insert (key_of 8 0) (value_of 2) ∷ insert (key_of 16 0) (value_of 2) ∷ delete (key_of 144 0) ∷ []) ∷ [])
      (made 1 h69 1 ∷ made 3 h69 1 ∷ denied 7 ∷ freed 0 ∷ denied 7 ∷ made 7 h69 1 ∷ made 11 h69 1 ∷ denied 7 ∷ [])
      end16
      ∷ game (store_of 0 0 (free_slots 24))
      (applying 3 ([]) ∷ applying 6 (insert (key_of 255 0) (value_of 4) ∷ []) ∷ applying 8 (delete (key_of 64 0) ∷ delete (key_of 192 0) ∷ insert (key_of 255 0) (value_of 3) ∷ []) ∷ applying 13 ([]) ∷ applying 14 (delete (key_of 255 0) ∷ []) ∷ pruning 6 ∷ pruning 7 ∷ [])
      (made 3 zeros 0 ∷ made 6 h70 1 ∷ made 8 h71 1 ∷ made 13 h71 1 ∷ made 14 zeros 0 ∷ freed 0 ∷ freed 0 ∷ [])
      end17
      ∷ game (store_of 0 0 (free_slots 4))
      (applying 1 (delete (key_of 144 0) ∷ []) ∷ applying 2 ([]) ∷ applying 3 (delete (key_of 0 0) ∷ delete (key_of 104 0) ∷ []) ∷ applying 6 (insert (key_of 104 0) (value_of 1) ∷ delete (key_of 144 0) ∷ []) ∷ applying 7 (delete (key_of 144 0) ∷ insert (key_of 254 0) (value_of 1) ∷ []) ∷ pruning 0 ∷ [])
      (made 1 zeros 0 ∷ made 2 zeros 0 ∷ made 3 zeros 0 ∷ made 6 h27 1 ∷ made 7 h72 3 ∷ freed 0 ∷ [])
      end18
      ∷ game (store_of 0 0 (free_slots 24))
      (applying 2 (insert (key_of 16 0) (value_of 1) ∷ insert (key_of 104 0) (value_of 3) ∷ delete (key_of 128 0) ∷ []) ∷ applying 3 (delete (key_of 128 0) ∷ []) ∷ applying 6 (insert (key_of 104 0) (value_of 1) ∷ []) ∷ applying 0 (insert (key_of 104 0) (value_of 3) ∷ []) ∷ pruning 5 ∷ pruning 4 ∷ [])
      (made 2 h77 4 ∷ made 3 h77 1 ∷ made 6 h78 3 ∷ denied 18 ∷ freed 1 ∷ denied 8 ∷ [])
      end19
      ∷ game (store_of 0 0 (free_slots 12))
      (applying 1 (insert (key_of 144 0) (value_of 4) ∷ insert (key_of 192 0) (value_of 1) ∷ []) ∷ applying 0 (insert (key_of 144 0) (value_of 4) ∷ []) ∷ applying 2 (insert (key_of 0 0) (value_of 1) ∷ insert (key_of 128 0) (value_of 2) ∷ delete (key_of 144 0) ∷ delete (key_of 192 0) ∷ []) ∷ applying 3 ([]) ∷ applying 5 (insert (key_of 192 0) (value_of 4) ∷ []) ∷ applying 6 (insert (key_of 8 0) (value_of 3) ∷ delete (key_of 144 0) ∷ []) ∷ applying 10 (delete (key_of 0 0) ∷ insert (key_of 128 0) (value_of 2) ∷ []) ∷ applying 7 (delete (key_of 64 0) ∷ []) ∷ applying 6 (insert (key_of 192 0) (value_of 4) ∷ []) ∷ applying 8 ([]) ∷ [])
      (made 1 h81 4 ∷ denied 18 ∷ made 2 h82 3 ∷ made 3 h82 1 ∷ made 5 h83 4 ∷ denied 7 ∷ denied 7 ∷ denied 7 ∷ denied 7 ∷ denied 7 ∷ [])
      end20
      ∷ game (store_of 0 0 (free_slots 24))
      (applying 5 (insert (key_of 128 0) (value_of 1) ∷ []) ∷ applying 6 ([]) ∷ applying 11 (insert (key_of 128 0) (value_of 3) ∷ []) ∷ applying 12 (insert (key_of 8 0) (value_of 3) ∷ insert (key_of 64 0) (value_of 3) ∷ delete (key_of 128 0) ∷ []) ∷ pruning 5 ∷ [])
      (made 5 h32 1 ∷ made 6 h32 1 ∷ made 11 h15 1 ∷ made 12 h87 4 ∷ freed 0 ∷ [])
      end21
      ∷ game (store_of 0 0 (free_slots 12))
      (applying 1 (delete (key_of 0 0) ∷ delete (key_of 144 0) ∷ []) ∷ applying 4 (delete (key_of 64 0) ∷ []) ∷ applying 5 (insert (key_of 0 0) (value_of 3) ∷ delete (key_of 8 0) ∷ insert (key_of 64 0) (value_of 3) ∷ delete (key_of 255 0) ∷ []) ∷ applying 6 (insert (key_of 144 0) (value_of 3) ∷ []) ∷ applying 4 (delete (key_of 0 0) ∷ insert (key_of 16 0) (value_of 4) ∷ delete (key_of 255 0) ∷ []) ∷ pruning 0 ∷ applying 7 (delete (key_of 16 0) ∷ []) ∷ [])
      (made 1 zeros 0 ∷ made 4 zeros 0 ∷ made 5 h89 4 ∷ made 6 h90 2 ∷ denied 18 ∷ freed 0 ∷ made 7 h90 1 ∷ [])
      end22
      ∷ game (store_of 0 0 (free_slots 24))
      (applying 1 (insert (key_of 96 0) (value_of 1) ∷ []) ∷ applying 3 (delete (key_of 96 0) ∷ []) ∷ applying 4 ([]) ∷ pruning 0 ∷ applying 9 (insert (key_of 64 0) (value_of 4) ∷ delete (key_of 96 0) ∷ []) ∷ applying 10 (delete (key_of 64 0) ∷ insert (key_of 96 0) (value_of 4) ∷ []) ∷ pruning 1 ∷ applying 11 ([]) ∷ applying 12 (insert (key_of 64 0) (value_of 2) ∷ delete (key_of 96 0) ∷ []) ∷ applying 13 (insert (key_of 64 0) (value_of 2) ∷ []) ∷ [])
      (made 1 h91 1 ∷ made 3 zeros 0 ∷ made 4 zeros 0 ∷ freed 0 ∷ made 9 h42 1 ∷ made 10 h92 1 ∷ freed 0 ∷ made 11 h92 1 ∷ made 12 h93 1 ∷ made 13 h93 1 ∷ [])
      end23
      ∷ game (store_of 0 0 (free_slots 4))
      (applying 1 (insert (key_of 192 0) (value_of 3) ∷ delete (key_of 144 0) ∷ []) ∷ applying 3 (insert (key_of 144 0) (value_of 3) ∷ delete (key_of 192 0) ∷ []) ∷ applying 4 ([]) ∷ applying 7 (delete (key_of 192 0) ∷ []) ∷ pruning 8 ∷ applying 8 (insert (key_of 192 0) (value_of 1) ∷ []) ∷ applying 9 (insert (key_of 144 0) (value_of 4) ∷ insert (key_of 192 0) (value_of 4) ∷ []) ∷ pruning 7 ∷ [])
      (denied 5 ∷ made 3 h16 1 ∷ made 4 h16 1 ∷ made 7 h16 1 ∷ denied 8 ∷ denied 7 ∷ denied 7 ∷ freed 2 ∷ [])
      end24
      ∷ game (store_of 0 0 (free_slots 24))
      (applying 1 (delete (key_of 128 0) ∷ []) ∷ applying 2 (insert (key_of 0 0) (value_of 1) ∷ []) ∷ pruning 0 ∷ applying 5 (delete (key_of 0 0) ∷ insert (key_of 128 0) (value_of 3) ∷ []) ∷ applying 9 (insert (key_of 104 0) (value_of 4) ∷ delete (key_of 128 0) ∷ []) ∷ applying 13 (insert (key_of 16 0) (value_of 3) ∷ insert (key_of 104 0) (value_of 4) ∷ delete (key_of 128 0) ∷ []) ∷ applying 14 (insert (key_of 0 0) (value_of 2) ∷ insert (key_of 16 0) (value_of 2) ∷ insert (key_of 104 0) (value_of 4) ∷ []) ∷ pruning 15 ∷ pruning 12 ∷ [])
      (made 1 zeros 0 ∷ made 2 h9 1 ∷ freed 0 ∷ made 5 h15 1 ∷ made 9 h47 1 ∷ made 13 h99 4 ∷ made 14 h100 6 ∷ denied 8 ∷ freed 2 ∷ [])
      end25
      ∷ game (store_of 0 0 (free_slots 4))
      (applying 1 (delete (key_of 0 0) ∷ insert (key_of 16 0) (value_of 1) ∷ delete (key_of 192 0) ∷ []) ∷ applying 2 ([]) ∷ applying 5 (delete (key_of 16 0) ∷ []) ∷ applying 10 (delete (key_of 0 0) ∷ []) ∷ applying 11 ([]) ∷ applying 12 (insert (key_of 0 0) (value_of 3) ∷ []) ∷ pruning 0 ∷ pruning 4 ∷ applying 13 (insert (key_of 16 0) (value_of 3) ∷ []) ∷ applying 13 (delete (key_of 0 0) ∷ delete (key_of 16 0) ∷ []) ∷ [])
      (made 1 h73 1 ∷ made 2 h73 1 ∷ made 5 zeros 0 ∷ made 10 zeros 0 ∷ made 11 zeros 0 ∷ made 12 h30 1 ∷ freed 0 ∷ freed 1 ∷ denied 7 ∷ made 13 zeros 0 ∷ [])
      end26
      ∷ game (store_of 0 0 (free_slots 8))
      (applying 1 (delete (key_of 144 0) ∷ []) ∷ applying 4 (insert (key_of 144 0) (value_of 1) ∷ []) ∷ applying 7 (delete (key_of 128 0) ∷ []) ∷ applying 8 (insert (key_of 128 0) (value_of 3) ∷ delete (key_of 144 0) ∷ []) ∷ applying 9 ([]) ∷ [])
      (made 1 zeros 0 ∷ made 4 h101 1 ∷ made 7 h101 1 ∷ made 8 h15 1 ∷ made 9 h15 1 ∷ [])
      end27
      ∷ game (store_of 0 0 (free_slots 12))
      (applying 5 (insert (key_of 144 0) (value_of 3) ∷ []) ∷ applying 6 (delete (key_of 144 0) ∷ []) ∷ applying 7 (insert (key_of 0 0) (value_of 1) ∷ []) ∷ pruning 8 ∷ pruning 5 ∷ applying 8 (delete (key_of 0 0) ∷ []) ∷ applying 11 (delete (key_of 16 0) ∷ delete (key_of 64 0) ∷ delete (key_of 144 0) ∷ []) ∷ applying 1 (delete (key_of 192 0) ∷ []) ∷ applying 12 ([]) ∷ [])
      (made 5 h16 1 ∷ made 6 zeros 0 ∷ made 7 h9 1 ∷ denied 8 ∷ freed 0 ∷ made 8 zeros 0 ∷ made 11 zeros 0 ∷ denied 18 ∷ made 12 zeros 0 ∷ [])
      end28
      ∷ game (store_of 0 0 (free_slots 24))
      (applying 5 ([]) ∷ applying 6 (insert (key_of 64 0) (value_of 3) ∷ insert (key_of 255 0) (value_of 2) ∷ []) ∷ applying 11 (insert (key_of 64 0) (value_of 3) ∷ insert (key_of 255 0) (value_of 2) ∷ []) ∷ pruning 0 ∷ pruning 12 ∷ applying 7 ([]) ∷ applying 12 (insert (key_of 128 0) (value_of 3) ∷ []) ∷ [])
      (made 5 zeros 0 ∷ made 6 h103 3 ∷ made 11 h103 1 ∷ freed 0 ∷ denied 8 ∷ denied 18 ∷ made 12 h104 4 ∷ [])
      end29
      ∷ []

  pub histories3 : All (GameHolds leaf_hash inner_hash) rows
  unfolding computed
  histories3 = ((refl, refl), ((refl, refl), ((refl, refl), ((refl, refl), ((refl, refl), ((refl, refl), ((refl, refl), ((refl, refl), ((refl, refl), ((refl, refl), ((refl, refl), ((refl, refl), ((refl, refl), ((refl, refl), ((refl, refl), ((refl, refl), ((refl, refl), ((refl, refl), ((refl, refl), ((refl, refl), ((refl, refl), ((refl, refl), ((refl, refl), ((refl, refl), ((refl, refl), ((refl, refl), ((refl, refl), ((refl, refl), ((refl, refl), ((refl, refl), tt))))))))))))))))))))))))))))))
