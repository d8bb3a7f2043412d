-- Proofs and reads of whole and damaged stores, part 4. Written by tests/tables/generate.py; compared with a second reading of document 01, 2026-07 and 2026-13. Assumes nothing.
use mathlib.Core.Path.{◌≡◌, refl}
use mathlib.Core.Bool.{true, false}
use mathlib.Core.List.{List, [], ◌∷◌}
use mathlib.Core.Option.{none, some}
use Rattle.terms.specs.Bits.{Bytes, All}
use Rattle.terms.specs.Records.{insert, delete, free, Store, presence, zeros}
use Rattle.meaning.specs.Computed.{computed}
use Rattle.meaning.specs.Calls.{refused, accepted}
use Rattle.meaning.specs.Desk.{key_of}
use Rattle.meaning.specs.Proving.{step, presence_of, absence_of}
use Rattle.meaning.specs.Reading.{present, absent}
use Rattle.tables.specs.Tables.{Look, look, LookHolds, leaf_slot, inner_slot, spoilt_slot, store_of, free_slots, value_of}

module _ (leaf_hash inner_hash : Bytes → Bytes → Bytes) where
  abbrev h0 : Bytes
  h0 = leaf_hash (key_of 0 0) (value_of 1)

  abbrev h1 : Bytes
  h1 = leaf_hash (key_of 192 0) (value_of 2)

  abbrev h2 : Bytes
  h2 = inner_hash h0 h1

  abbrev h3 : Bytes
  h3 = leaf_hash (key_of 104 0) (value_of 2)

  abbrev h4 : Bytes
  h4 = leaf_hash (key_of 255 0) (value_of 2)

  abbrev h5 : Bytes
  h5 = leaf_hash (key_of 8 0) (value_of 4)

  abbrev h6 : Bytes
  h6 = leaf_hash (key_of 144 0) (value_of 4)

  abbrev h7 : Bytes
  h7 = leaf_hash (key_of 8 0) (value_of 2)

  abbrev h8 : Bytes
  h8 = leaf_hash (key_of 144 0) (value_of 3)

  abbrev h9 : Bytes
  h9 = inner_hash h5 h6

  abbrev h10 : Bytes
  h10 = leaf_hash (key_of 0 0) (value_of 3)

  abbrev h11 : Bytes
  h11 = leaf_hash (key_of 255 0) (value_of 4)

  abbrev h12 : Bytes
  h12 = inner_hash h10 h11

  abbrev h13 : Bytes
  h13 = leaf_hash (key_of 128 0) (value_of 1)

  abbrev h14 : Bytes
  h14 = leaf_hash (key_of 255 0) (value_of 1)

  abbrev h15 : Bytes
  h15 = inner_hash h13 h14

  abbrev h16 : Bytes
  h16 = inner_hash zeros h15

  abbrev h17 : Bytes
  h17 = leaf_hash (key_of 8 0) (value_of 3)

  abbrev h18 : Bytes
  h18 = inner_hash h17 h14

  abbrev h19 : Bytes
  h19 = leaf_hash (key_of 96 0) (value_of 1)

  abbrev h20 : Bytes
  h20 = leaf_hash (key_of 254 0) (value_of 4)

  abbrev h21 : Bytes
  h21 = leaf_hash (key_of 16 0) (value_of 1)

  abbrev h22 : Bytes
  h22 = inner_hash h21 h19

  abbrev h23 : Bytes
  h23 = inner_hash h17 h21

  abbrev h24 : Bytes
  h24 = inner_hash h23 zeros

  abbrev h25 : Bytes
  h25 = inner_hash h24 h19

  abbrev h26 : Bytes
  h26 = inner_hash h25 h20

  abbrev h27 : Bytes
  h27 = inner_hash h22 h20

  abbrev h28 : Bytes
  h28 = leaf_hash (key_of 16 0) (value_of 3)

  abbrev h29 : Bytes
  h29 = leaf_hash (key_of 64 0) (value_of 1)

  abbrev h30 : Bytes
  h30 = leaf_hash (key_of 96 0) (value_of 4)

  abbrev h31 : Bytes
  h31 = inner_hash h29 h30

  abbrev h32 : Bytes
  h32 = inner_hash zeros h31

  abbrev h33 : Bytes
  h33 = leaf_hash (key_of 128 0) (value_of 3)

  abbrev h34 : Bytes
  h34 = inner_hash h32 h33

  abbrev h35 : Bytes
  h35 = leaf_hash (key_of 96 0) (value_of 2)

  abbrev h36 : Bytes
  h36 = inner_hash h10 h35

  abbrev h37 : Bytes
  h37 = inner_hash h36 zeros

  abbrev h38 : Bytes
  h38 = leaf_hash (key_of 8 0) (value_of 1)

  abbrev h39 : Bytes
  h39 = leaf_hash (key_of 255 0) (value_of 3)

  abbrev h40 : Bytes
  h40 = leaf_hash (key_of 96 0) (value_of 3)

  abbrev h41 : Bytes
  h41 = leaf_hash (key_of 104 0) (value_of 3)

  abbrev h42 : Bytes
  h42 = inner_hash h41 h6

  abbrev h43 : Bytes
  h43 = leaf_hash (key_of 254 0) (value_of 1)

  abbrev h44 : Bytes
  h44 = leaf_hash (key_of 192 0) (value_of 4)

  abbrev h45 : Bytes
  h45 = inner_hash h8 h44

  abbrev h46 : Bytes
  h46 = leaf_hash (key_of 192 0) (value_of 3)

  abbrev h47 : Bytes
  h47 = inner_hash h17 h45

  abbrev h48 : Bytes
  h48 = inner_hash h17 h46

  abbrev h49 : Bytes
  h49 = leaf_hash (key_of 104 0) (value_of 1)

  abbrev h50 : Bytes
  h50 = leaf_hash (key_of 192 0) (value_of 1)

  abbrev h51 : Bytes
  h51 = leaf_hash (key_of 128 0) (value_of 2)

  abbrev h52 : Bytes
  h52 = inner_hash h0 h30

  abbrev h53 : Bytes
  h53 = inner_hash h0 h40

  abbrev h54 : Bytes
  h54 = inner_hash h53 zeros

  abbrev h55 : Bytes
  h55 = inner_hash h7 h28

  abbrev h56 : Bytes
  h56 = inner_hash h55 zeros

  abbrev h57 : Bytes
  h57 = leaf_hash (key_of 104 0) (value_of 4)

  abbrev h58 : Bytes
  h58 = inner_hash h56 h57

  abbrev h59 : Bytes
  h59 = inner_hash h56 h29

  abbrev h60 : Bytes
  h60 = inner_hash h59 zeros

  abbrev h61 : Bytes
  h61 = leaf_hash (key_of 64 0) (value_of 2)

  abbrev h62 : Bytes
  h62 = inner_hash h61 h19

  abbrev h63 : Bytes
  h63 = inner_hash zeros h62

  abbrev h64 : Bytes
  h64 = leaf_hash (key_of 64 0) (value_of 3)

  abbrev h65 : Bytes
  h65 = inner_hash h64 h19

  abbrev h66 : Bytes
  h66 = inner_hash zeros h65

  abbrev h67 : Bytes
  h67 = inner_hash h66 zeros

  abbrev h68 : Bytes
  h68 = leaf_hash (key_of 0 0) (value_of 4)

  abbrev h69 : Bytes
  h69 = inner_hash h68 h14

  abbrev h70 : Bytes
  h70 = leaf_hash (key_of 0 0) (value_of 2)

  abbrev h71 : Bytes
  h71 = inner_hash h33 h44

  abbrev h72 : Bytes
  h72 = inner_hash h33 h6

  abbrev h73 : Bytes
  h73 = inner_hash h72 zeros

  abbrev h74 : Bytes
  h74 = inner_hash h73 h44

  abbrev h75 : Bytes
  h75 = inner_hash h70 h74

  abbrev h76 : Bytes
  h76 = inner_hash h70 h71

  abbrev h77 : Bytes
  h77 = inner_hash h38 h61

  abbrev h78 : Bytes
  h78 = inner_hash h77 zeros

  abbrev h79 : Bytes
  h79 = leaf_hash (key_of 144 0) (value_of 2)

  abbrev h80 : Bytes
  h80 = inner_hash h7 h79

  abbrev seen0 : Store
  seen0 =
      store_of 1 6
      (leaf_slot (false ∷ []) 6 0 (key_of 0 0) (value_of 1)
      ∷ leaf_slot (true ∷ []) 6 0 (key_of 192 0) (value_of 2)
      ∷ inner_slot ([]) 6 0 6 h0 6 h1 1 1
      ∷ free
      ∷ [])

  abbrev seen1 : Store
  seen1 =
      store_of 3 4
      (free
      ∷ leaf_slot (false ∷ []) 3 4 (key_of 104 0) (value_of 2)
      ∷ leaf_slot (true ∷ []) 2 4 (key_of 255 0) (value_of 2)
      ∷ free
      ∷ inner_slot ([]) 3 4 2 h3 2 h4 1 1
      ∷ leaf_slot ([]) 4 0 (key_of 104 0) (value_of 2)
      ∷ free
      ∷ free
      ∷ [])

  abbrev seen2 : Store
  seen2 =
      store_of 7 20
      (leaf_slot ([]) 7 11 (key_of 144 0) (value_of 4)
      ∷ leaf_slot (false ∷ []) 11 16 (key_of 8 0) (value_of 4)
      ∷ leaf_slot (true ∷ []) 11 16 (key_of 144 0) (value_of 4)
      ∷ inner_slot ([]) 11 16 11 h5 11 h6 1 1
      ∷ leaf_slot ([]) 16 17 (key_of 8 0) (value_of 4)
      ∷ leaf_slot ([]) 17 18 (key_of 8 0) (value_of 4)
      ∷ leaf_slot ([]) 18 19 (key_of 8 0) (value_of 4)
      ∷ leaf_slot (false ∷ []) 19 20 (key_of 8 0) (value_of 2)
      ∷ leaf_slot (true ∷ []) 19 20 (key_of 144 0) (value_of 3)
      ∷ inner_slot ([]) 19 20 19 h7 19 h8 1 1
      ∷ leaf_slot ([]) 20 0 (key_of 144 0) (value_of 4)
      ∷ free
      ∷ [])

  abbrev seen3 : Store
  seen3 =
      store_of 1 2
      (leaf_slot ([]) 1 2 (key_of 255 0) (value_of 4)
      ∷ leaf_slot (false ∷ []) 2 0 (key_of 0 0) (value_of 3)
      ∷ leaf_slot (true ∷ []) 2 0 (key_of 255 0) (value_of 4)
      ∷ inner_slot ([]) 2 0 2 h10 2 h11 1 1
      ∷ leaf_slot (true ∷ []) 2 0 (key_of 254 0) (value_of 9)
      ∷ free
      ∷ free
      ∷ free
      ∷ free
      ∷ free
      ∷ free
      ∷ free
      ∷ free
      ∷ free
      ∷ free
      ∷ free
      ∷ [])

  abbrev seen4 : Store
  seen4 =
      store_of 4294967293 4294967295
      (leaf_slot ([]) 4294967295 0 (key_of 144 0) (value_of 4)
      ∷ free
      ∷ free
      ∷ free
      ∷ [])

  abbrev seen5 : Store
  seen5 =
      store_of 0 1
      (leaf_slot (true ∷ false ∷ []) 2 0 (key_of 128 0) (value_of 1)
      ∷ leaf_slot (true ∷ true ∷ []) 1 0 (key_of 255 0) (value_of 1)
      ∷ inner_slot (true ∷ []) 1 0 1 h13 1 h14 1 1
      ∷ inner_slot ([]) 1 0 3 zeros 1 h15 0 2
      ∷ free
      ∷ free
      ∷ free
      ∷ free
      ∷ free
      ∷ free
      ∷ free
      ∷ free
      ∷ free
      ∷ free
      ∷ free
      ∷ free
      ∷ free
      ∷ free
      ∷ free
      ∷ free
      ∷ free
      ∷ free
      ∷ free
      ∷ free
      ∷ [])

  abbrev seen6 : Store
  seen6 =
      store_of 0 8
      (leaf_slot (false ∷ []) 6 0 (key_of 8 0) (value_of 3)
      ∷ leaf_slot (true ∷ []) 6 0 (key_of 255 0) (value_of 1)
      ∷ inner_slot ([]) 6 8 6 h17 6 h14 1 1
      ∷ inner_slot ([]) 8 0 6 h17 6 h14 1 1
      ∷ [])

  abbrev seen7 : Store
  seen7 =
      store_of 0 6
      (leaf_slot ([]) 3 4 (key_of 128 0) (value_of 1)
      ∷ free
      ∷ free
      ∷ free
      ∷ free
      ∷ free
      ∷ free
      ∷ free
      ∷ [])

  abbrev seen8 : Store
  seen8 =
      store_of 0 9
      (leaf_slot ([]) 1 2 (key_of 254 0) (value_of 4)
      ∷ leaf_slot (false ∷ []) 2 3 (key_of 96 0) (value_of 1)
      ∷ leaf_slot (true ∷ []) 2 0 (key_of 254 0) (value_of 4)
      ∷ inner_slot ([]) 2 3 2 h19 2 h20 1 1
      ∷ leaf_slot (false ∷ false ∷ []) 3 5 (key_of 16 0) (value_of 1)
      ∷ leaf_slot (false ∷ true ∷ []) 3 0 (key_of 96 0) (value_of 1)
      ∷ inner_slot (false ∷ []) 3 5 3 h21 3 h19 1 1
      ∷ inner_slot ([]) 3 4 3 h22 2 h20 2 1
      ∷ inner_slot ([]) 4 5 3 h22 2 h20 2 1
      ∷ leaf_slot (false ∷ false ∷ false ∷ false ∷ []) 5 0 (key_of 8 0) (value_of 3)
      ∷ leaf_slot (false ∷ false ∷ false ∷ true ∷ []) 5 0 (key_of 16 0) (value_of 1)
      ∷ inner_slot (false ∷ false ∷ false ∷ []) 5 0 5 h17 5 h21 1 1
      ∷ inner_slot (false ∷ false ∷ []) 5 0 5 h23 0 zeros 2 0
      ∷ inner_slot (false ∷ []) 5 0 5 h24 3 h19 2 1
      ∷ inner_slot ([]) 5 9 5 h25 2 h20 3 1
      ∷ inner_slot ([]) 9 0 5 h25 2 h20 3 1
      ∷ [])

  abbrev seen9 : Store
  seen9 =
      store_of 0 3
      (leaf_slot (false ∷ []) 2 3 (key_of 192 0) (value_of 3)
      ∷ leaf_slot (true ∷ []) 3 3 (key_of 144 0) (value_of 4)
      ∷ inner_slot ([]) 2 3 2 h28 2 h6 1 1
      ∷ free
      ∷ free
      ∷ free
      ∷ free
      ∷ free
      ∷ [])

  abbrev seen10 : Store
  seen10 =
      store_of 2 16
      (leaf_slot (false ∷ []) 16 0 (key_of 96 0) (value_of 4)
      ∷ leaf_slot ([]) 2 7 (key_of 64 0) (value_of 1)
      ∷ leaf_slot (false ∷ true ∷ false ∷ []) 7 16 (key_of 64 0) (value_of 1)
      ∷ leaf_slot (false ∷ true ∷ true ∷ []) 7 16 (key_of 96 0) (value_of 4)
      ∷ inner_slot (false ∷ true ∷ []) 7 16 7 h29 7 h30 1 1
      ∷ inner_slot (false ∷ []) 7 16 0 zeros 7 h31 0 2
      ∷ inner_slot ([]) 7 8 7 h32 0 zeros 2 0
      ∷ leaf_slot (true ∷ []) 8 0 (key_of 128 0) (value_of 3)
      ∷ inner_slot ([]) 8 12 7 h32 8 h33 2 1
      ∷ inner_slot ([]) 12 15 7 h32 8 h33 2 1
      ∷ inner_slot ([]) 15 16 7 h32 8 h33 2 1
      ∷ inner_slot ([]) 16 0 16 h30 8 h33 1 1
      ∷ [])

  abbrev seen11 : Store
  seen11 =
      store_of 12 15
      (spoilt_slot 2 (false ∷ true ∷ []) 15 0
      ∷ free
      ∷ leaf_slot ([]) 11 15 (key_of 96 0) (value_of 2)
      ∷ leaf_slot (false ∷ false ∷ []) 15 0 (key_of 0 0) (value_of 3)
      ∷ leaf_slot (false ∷ true ∷ []) 15 0 (key_of 96 0) (value_of 2)
      ∷ inner_slot (false ∷ []) 15 0 15 h10 15 h35 1 1
      ∷ inner_slot ([]) 15 0 15 h36 0 zeros 2 0
      ∷ free
      ∷ free
      ∷ free
      ∷ free
      ∷ free
      ∷ [])

  abbrev seen12 : Store
  seen12 =
      store_of 0 12
      (leaf_slot ([]) 4 6 (key_of 8 0) (value_of 1)
      ∷ leaf_slot (false ∷ []) 6 12 (key_of 8 0) (value_of 1)
      ∷ leaf_slot (true ∷ []) 6 10 (key_of 255 0) (value_of 1)
      ∷ inner_slot ([]) 6 10 6 h38 6 h14 1 1
      ∷ leaf_slot (true ∷ []) 10 12 (key_of 255 0) (value_of 3)
      ∷ inner_slot ([]) 10 12 6 h38 10 h39 1 1
      ∷ free
      ∷ free
      ∷ free
      ∷ free
      ∷ free
      ∷ free
      ∷ free
      ∷ free
      ∷ free
      ∷ free
      ∷ [])

  abbrev seen13 : Store
  seen13 =
      store_of 0 3
      (leaf_slot ([]) 1 3 (key_of 96 0) (value_of 3)
      ∷ leaf_slot (false ∷ []) 3 0 (key_of 96 0) (value_of 3)
      ∷ leaf_slot (true ∷ []) 3 0 (key_of 192 0) (value_of 2)
      ∷ inner_slot ([]) 4 0 3 h40 3 h1 1 1
      ∷ [])

  abbrev seen14 : Store
  seen14 =
      store_of 7 10
      (leaf_slot ([]) 9 10 (key_of 144 0) (value_of 4)
      ∷ leaf_slot (false ∷ []) 10 0 (key_of 104 0) (value_of 3)
      ∷ leaf_slot (true ∷ []) 10 0 (key_of 144 0) (value_of 4)
      ∷ inner_slot ([]) 10 0 10 h41 10 h6 1 1
      ∷ [])

  abbrev seen15 : Store
  seen15 =
      store_of 0 6
      (spoilt_slot 0 (false ∷ false ∷ true ∷ []) 3 6
      ∷ leaf_slot ([]) 6 0 (key_of 254 0) (value_of 1)
      ∷ free
      ∷ free
      ∷ free
      ∷ free
      ∷ free
      ∷ free
      ∷ [])

  abbrev seen16 : Store
  seen16 =
      store_of 7 11
      (leaf_slot (true ∷ []) 10 11 (key_of 192 0) (value_of 4)
      ∷ inner_slot ([]) 10 11 4 h17 10 h44 1 1
      ∷ leaf_slot (true ∷ false ∷ []) 11 0 (key_of 144 0) (value_of 3)
      ∷ leaf_slot (true ∷ true ∷ []) 11 0 (key_of 192 0) (value_of 4)
      ∷ inner_slot (true ∷ []) 11 0 11 h8 11 h44 1 1
      ∷ inner_slot ([]) 11 0 4 h17 11 h45 1 2
      ∷ free
      ∷ free
      ∷ leaf_slot (false ∷ []) 4 0 (key_of 8 0) (value_of 3)
      ∷ leaf_slot (true ∷ []) 4 10 (key_of 192 0) (value_of 3)
      ∷ inner_slot ([]) 4 9 4 h17 4 h46 1 1
      ∷ inner_slot ([]) 9 10 4 h17 4 h46 1 1
      ∷ [])

  abbrev seen17 : Store
  seen17 =
      store_of 9 19
      (leaf_slot (false ∷ []) 1 19 (key_of 104 0) (value_of 1)
      ∷ leaf_slot (true ∷ []) 1 19 (key_of 144 0) (value_of 4)
      ∷ free
      ∷ free
      ∷ inner_slot ([]) 7 10 1 h49 1 h6 1 1
      ∷ inner_slot ([]) 10 15 1 h49 1 h6 1 1
      ∷ inner_slot ([]) 15 19 2 h49 1 h6 1 1
      ∷ free
      ∷ [])

  abbrev seen18 : Store
  seen18 =
      store_of 0 3
      (leaf_slot ([]) 1 3 (key_of 192 0) (value_of 1)
      ∷ leaf_slot ([]) 3 0 (key_of 192 0) (value_of 1)
      ∷ free
      ∷ free
      ∷ free
      ∷ free
      ∷ free
      ∷ free
      ∷ [])

  abbrev seen19 : Store
  seen19 =
      store_of 6 10
      (spoilt_slot 1 ([]) 9 10
      ∷ leaf_slot ([]) 3 8 (key_of 96 0) (value_of 2)
      ∷ leaf_slot ([]) 11 0 (key_of 16 0) (value_of 1)
      ∷ free
      ∷ [])

  abbrev seen20 : Store
  seen20 =
      store_of 2 2
      (free
      ∷ free
      ∷ free
      ∷ leaf_slot ([]) 2 0 (key_of 128 0) (value_of 2)
      ∷ [])

  abbrev seen21 : Store
  seen21 =
      store_of 6 7
      (free
      ∷ free
      ∷ free
      ∷ free
      ∷ free
      ∷ leaf_slot (false ∷ true ∷ []) 6 7 (key_of 254 0) (value_of 4)
      ∷ inner_slot (false ∷ []) 6 7 6 h0 6 h30 1 1
      ∷ inner_slot ([]) 6 7 6 h52 0 zeros 2 0
      ∷ leaf_slot (false ∷ true ∷ []) 7 0 (key_of 96 0) (value_of 3)
      ∷ inner_slot (false ∷ []) 7 0 6 h0 7 h40 1 1
      ∷ inner_slot ([]) 7 0 7 h53 0 zeros 2 0
      ∷ free
      ∷ free
      ∷ free
      ∷ free
      ∷ free
      ∷ [])

  abbrev seen22 : Store
  seen22 =
      store_of 0 10
      (leaf_slot (false ∷ false ∷ false ∷ false ∷ []) 4 0 (key_of 8 0) (value_of 2)
      ∷ leaf_slot (false ∷ false ∷ false ∷ true ∷ []) 4 0 (key_of 16 0) (value_of 3)
      ∷ inner_slot (false ∷ false ∷ false ∷ []) 4 0 4 h7 4 h28 1 1
      ∷ inner_slot (false ∷ false ∷ []) 4 0 4 h55 0 zeros 2 0
      ∷ leaf_slot (false ∷ true ∷ []) 4 5 (key_of 104 0) (value_of 4)
      ∷ inner_slot (false ∷ []) 4 5 4 h56 4 h57 2 1
      ∷ inner_slot ([]) 4 5 4 h58 0 zeros 3 0
      ∷ leaf_slot (false ∷ true ∷ []) 5 0 (key_of 64 0) (value_of 1)
      ∷ inner_slot (false ∷ []) 5 0 4 h56 5 h29 2 1
      ∷ inner_slot ([]) 5 9 5 h59 0 zeros 3 0
      ∷ inner_slot ([]) 9 10 5 h59 0 zeros 3 0
      ∷ inner_slot ([]) 10 0 5 h59 0 zeros 3 0
      ∷ free
      ∷ free
      ∷ free
      ∷ free
      ∷ [])

  abbrev seen23 : Store
  seen23 =
      store_of 0 16
      (leaf_slot ([]) 5 9 (key_of 64 0) (value_of 2)
      ∷ spoilt_slot 0 ([]) 9 10
      ∷ leaf_slot ([]) 10 15 (key_of 64 0) (value_of 2)
      ∷ leaf_slot ([]) 15 16 (key_of 64 0) (value_of 2)
      ∷ leaf_slot ([]) 16 0 (key_of 64 0) (value_of 2)
      ∷ free
      ∷ free
      ∷ free
      ∷ free
      ∷ free
      ∷ free
      ∷ free
      ∷ free
      ∷ free
      ∷ free
      ∷ free
      ∷ [])

  abbrev seen24 : Store
  seen24 =
      store_of 2 16
      (leaf_slot ([]) 10 15 (key_of 96 0) (value_of 3)
      ∷ leaf_slot (false ∷ true ∷ false ∷ []) 15 16 (key_of 64 0) (value_of 2)
      ∷ leaf_slot (false ∷ true ∷ true ∷ []) 15 0 (key_of 96 0) (value_of 1)
      ∷ inner_slot (false ∷ true ∷ []) 15 16 15 h61 15 h19 1 1
      ∷ inner_slot (false ∷ []) 15 16 0 zeros 15 h62 0 2
      ∷ inner_slot ([]) 15 16 15 h63 0 zeros 2 0
      ∷ leaf_slot (false ∷ true ∷ false ∷ []) 16 0 (key_of 64 0) (value_of 3)
      ∷ inner_slot (false ∷ true ∷ []) 16 0 16 h64 15 h19 1 1
      ∷ inner_slot (false ∷ []) 16 0 0 zeros 16 h65 0 2
      ∷ inner_slot ([]) 16 0 16 h66 0 zeros 2 0
      ∷ free
      ∷ free
      ∷ [])

  abbrev seen25 : Store
  seen25 =
      store_of 1 2
      (leaf_slot (false ∷ []) 1 2 (key_of 96 0) (value_of 2)
      ∷ spoilt_slot 1 (true ∷ []) 1 2
      ∷ spoilt_slot 1 (true ∷ []) 1 2
      ∷ leaf_slot ([]) 2 0 (key_of 96 0) (value_of 2)
      ∷ [])

  abbrev seen26 : Store
  seen26 =
      store_of 0 2
      (leaf_slot (false ∷ []) 2 0 (key_of 0 0) (value_of 4)
      ∷ leaf_slot (true ∷ []) 2 0 (key_of 255 0) (value_of 1)
      ∷ inner_slot ([]) 2 0 2 h68 2 h14 1 1
      ∷ free
      ∷ free
      ∷ free
      ∷ free
      ∷ free
      ∷ free
      ∷ free
      ∷ free
      ∷ free
      ∷ [])

  abbrev seen27 : Store
  seen27 =
      store_of 2 9
      (leaf_slot ([]) 3 6 (key_of 128 0) (value_of 3)
      ∷ leaf_slot (true ∷ false ∷ []) 6 9 (key_of 128 0) (value_of 3)
      ∷ leaf_slot (true ∷ true ∷ []) 6 0 (key_of 192 0) (value_of 4)
      ∷ leaf_slot (false ∷ []) 6 0 (key_of 0 0) (value_of 2)
      ∷ inner_slot (true ∷ []) 6 9 6 h33 6 h44 1 1
      ∷ inner_slot ([]) 6 9 6 h70 6 h71 1 2
      ∷ leaf_slot (true ∷ false ∷ false ∷ false ∷ []) 9 0 (key_of 128 0) (value_of 3)
      ∷ leaf_slot (true ∷ false ∷ false ∷ true ∷ []) 9 0 (key_of 144 0) (value_of 4)
      ∷ inner_slot (true ∷ false ∷ false ∷ []) 9 0 0 zeros 9 h6 1 1
      ∷ inner_slot (true ∷ false ∷ []) 9 0 9 h72 0 zeros 2 0
      ∷ inner_slot (true ∷ []) 9 0 9 h73 6 h44 2 1
      ∷ inner_slot ([]) 9 0 6 h70 9 h74 1 3
      ∷ leaf_slot ([]) 3 6 (key_of 255 0) (value_of 9)
      ∷ free
      ∷ free
      ∷ free
      ∷ [])

  abbrev seen28 : Store
  seen28 =
      store_of 1 3
      (leaf_slot (false ∷ false ∷ []) 1 0 (key_of 8 0) (value_of 1)
      ∷ leaf_slot (false ∷ true ∷ []) 1 0 (key_of 64 0) (value_of 2)
      ∷ inner_slot (false ∷ []) 1 0 1 h38 1 h61 1 1
      ∷ inner_slot ([]) 1 2 1 h77 0 zeros 2 0
      ∷ inner_slot ([]) 2 3 1 h77 0 zeros 2 0
      ∷ inner_slot ([]) 3 0 1 h77 0 zeros 2 0
      ∷ free
      ∷ free
      ∷ [])

  abbrev seen29 : Store
  seen29 =
      store_of 5 9
      (leaf_slot ([]) 6 9 (key_of 8 0) (value_of 2)
      ∷ leaf_slot (false ∷ []) 9 0 (key_of 8 0) (value_of 2)
      ∷ leaf_slot (true ∷ []) 9 0 (key_of 144 0) (value_of 2)
      ∷ inner_slot ([]) 9 0 9 h7 9 h79 1 1
      ∷ [])

  abbrev rows : List Look
  rows =
      look seen0 6 (key_of 144 0) (accepted (absence_of (key_of 144 0) (some (presence_of (key_of 0 0) (value_of 1) (step false h1 ∷ []))) (some (presence_of (key_of 192 0) (value_of 2) (step true h0 ∷ []))))) (accepted absent) (accepted h2)
      ∷ look seen0 2 (key_of 0 0) (refused 14) (accepted absent) (accepted zeros)
      ∷ look seen0 5 (key_of 144 0) (refused 14) (accepted absent) (accepted zeros)
      ∷ look seen0 7 (key_of 0 0) (refused 8) (refused 8) (refused 8)
      ∷ look seen1 4 (key_of 128 1) (accepted (absence_of (key_of 128 1) (some (presence_of (key_of 104 0) (value_of 2) ([]))) none)) (accepted absent) (accepted h3)
      ∷ look seen1 4 (key_of 0 0) (accepted (absence_of (key_of 0 0) none (some (presence_of (key_of 104 0) (value_of 2) ([]))))) (accepted absent) (accepted h3)
      ∷ look seen1 4 (key_of 0 1) (accepted (absence_of (key_of 0 1) none (some (presence_of (key_of 104 0) (value_of 2) ([]))))) (accepted absent) (accepted h3)
      ∷ look seen1 4 (key_of 255 0) (accepted (absence_of (key_of 255 0) (some (presence_of (key_of 104 0) (value_of 2) ([]))) none)) (accepted absent) (accepted h3)
      ∷ look seen2 16 (key_of 8 0) (accepted (presence (presence_of (key_of 8 0) (value_of 4) ([])))) (accepted (present (value_of 4))) (accepted h5)
      ∷ look seen2 20 (key_of 8 0) (accepted (absence_of (key_of 8 0) none (some (presence_of (key_of 144 0) (value_of 4) ([]))))) (accepted absent) (accepted h6)
      ∷ look seen2 11 (key_of 64 1) (accepted (absence_of (key_of 64 1) (some (presence_of (key_of 8 0) (value_of 4) (step false h6 ∷ []))) (some (presence_of (key_of 144 0) (value_of 4) (step true h5 ∷ []))))) (accepted absent) (accepted h9)
      ∷ look seen2 20 (key_of 144 0) (accepted (presence (presence_of (key_of 144 0) (value_of 4) ([])))) (accepted (present (value_of 4))) (accepted h6)
      ∷ look seen3 2 (key_of 0 0) (accepted (presence (presence_of (key_of 0 0) (value_of 3) (step false h11 ∷ [])))) (accepted (present (value_of 3))) (accepted h12)
      ∷ look seen3 0 (key_of 255 0) (refused 8) (refused 8) (refused 8)
      ∷ look seen3 2 (key_of 128 0) (accepted (absence_of (key_of 128 0) (some (presence_of (key_of 0 0) (value_of 3) (step false h11 ∷ []))) (some (presence_of (key_of 255 0) (value_of 4) (step true h10 ∷ []))))) (accepted absent) (accepted h12)
      ∷ look seen3 0 (key_of 128 0) (refused 8) (refused 8) (refused 8)
      ∷ look seen4 4294967295 (key_of 255 0) (accepted (absence_of (key_of 255 0) (some (presence_of (key_of 144 0) (value_of 4) ([]))) none)) (accepted absent) (accepted h6)
      ∷ look seen4 4294967295 (key_of 144 0) (accepted (presence (presence_of (key_of 144 0) (value_of 4) ([])))) (accepted (present (value_of 4))) (accepted h6)
      ∷ look seen4 4294967295 (key_of 255 0) (accepted (absence_of (key_of 255 0) (some (presence_of (key_of 144 0) (value_of 4) ([]))) none)) (accepted absent) (accepted h6)
      ∷ look seen4 4294967295 (key_of 96 1) (accepted (absence_of (key_of 96 1) none (some (presence_of (key_of 144 0) (value_of 4) ([]))))) (accepted absent) (accepted h6)
      ∷ look seen5 1 (key_of 96 0) (refused 17) (refused 17) (accepted h16)
      ∷ look seen5 1 (key_of 96 0) (refused 17) (refused 17) (accepted h16)
      ∷ look seen5 1 (key_of 128 0) (refused 17) (refused 17) (accepted h16)
      ∷ look seen5 1 (key_of 8 0) (refused 17) (refused 17) (accepted h16)
      ∷ look seen6 8 (key_of 255 0) (accepted (presence (presence_of (key_of 255 0) (value_of 1) (step true h17 ∷ [])))) (accepted (present (value_of 1))) (accepted h18)
      ∷ look seen6 8 (key_of 8 1) (accepted (absence_of (key_of 8 1) (some (presence_of (key_of 8 0) (value_of 3) (step false h14 ∷ []))) (some (presence_of (key_of 255 0) (value_of 1) (step true h17 ∷ []))))) (accepted absent) (accepted h18)
      ∷ look seen6 0 (key_of 104 0) (refused 14) (accepted absent) (accepted zeros)
      ∷ look seen6 8 (key_of 16 1) (accepted (absence_of (key_of 16 1) (some (presence_of (key_of 8 0) (value_of 3) (step false h14 ∷ []))) (some (presence_of (key_of 255 0) (value_of 1) (step true h17 ∷ []))))) (accepted absent) (accepted h18)
      ∷ look seen7 5 (key_of 0 0) (refused 14) (accepted absent) (accepted zeros)
      ∷ look seen7 2 (key_of 64 1) (refused 14) (accepted absent) (accepted zeros)
      ∷ look seen7 6 (key_of 0 0) (refused 14) (accepted absent) (accepted zeros)
      ∷ look seen7 6 (key_of 192 1) (refused 14) (accepted absent) (accepted zeros)
      ∷ look seen8 9 (key_of 192 0) (accepted (absence_of (key_of 192 0) (some (presence_of (key_of 96 0) (value_of 1) (step true h24 ∷ step false h20 ∷ []))) (some (presence_of (key_of 254 0) (value_of 4) (step true h25 ∷ []))))) (accepted absent) (accepted h26)
      ∷ look seen8 9 (key_of 254 0) (accepted (presence (presence_of (key_of 254 0) (value_of 4) (step true h25 ∷ [])))) (accepted (present (value_of 4))) (accepted h26)
      ∷ look seen8 9 (key_of 8 0) (accepted (presence (presence_of (key_of 8 0) (value_of 3) (step false h21 ∷ step false zeros ∷ step false h19 ∷ step false h20 ∷ [])))) (accepted (present (value_of 3))) (accepted h26)
      ∷ look seen8 4 (key_of 254 0) (accepted (presence (presence_of (key_of 254 0) (value_of 4) (step true h22 ∷ [])))) (accepted (present (value_of 4))) (accepted h27)
      ∷ look seen9 1 (key_of 144 0) (refused 14) (accepted absent) (accepted zeros)
      ∷ look seen9 0 (key_of 128 0) (refused 14) (accepted absent) (accepted zeros)
      ∷ look seen9 3 (key_of 255 0) (refused 14) (accepted absent) (accepted zeros)
      ∷ look seen9 3 (key_of 96 0) (refused 14) (accepted absent) (accepted zeros)
      ∷ look seen10 12 (key_of 8 1) (accepted (absence_of (key_of 8 1) none (some (presence_of (key_of 64 0) (value_of 1) (step false h30 ∷ step true zeros ∷ step false h33 ∷ []))))) (accepted absent) (accepted h34)
      ∷ look seen10 3 (key_of 192 0) (accepted (absence_of (key_of 192 0) (some (presence_of (key_of 64 0) (value_of 1) ([]))) none)) (accepted absent) (accepted h29)
      ∷ look seen10 9 (key_of 64 0) (accepted (presence (presence_of (key_of 64 0) (value_of 1) (step false h30 ∷ step true zeros ∷ step false h33 ∷ [])))) (accepted (present (value_of 1))) (accepted h34)
      ∷ look seen10 4 (key_of 144 0) (accepted (absence_of (key_of 144 0) (some (presence_of (key_of 64 0) (value_of 1) ([]))) none)) (accepted absent) (accepted h29)
      ∷ look seen11 15 (key_of 192 0) (accepted (absence_of (key_of 192 0) (some (presence_of (key_of 96 0) (value_of 2) (step true h10 ∷ step false zeros ∷ []))) none)) (accepted absent) (accepted h37)
      ∷ look seen11 15 (key_of 255 0) (accepted (absence_of (key_of 255 0) (some (presence_of (key_of 96 0) (value_of 2) (step true h10 ∷ step false zeros ∷ []))) none)) (accepted absent) (accepted h37)
      ∷ look seen11 13 (key_of 96 0) (accepted (presence (presence_of (key_of 96 0) (value_of 2) ([])))) (accepted (present (value_of 2))) (accepted h35)
      ∷ look seen11 13 (key_of 96 0) (accepted (presence (presence_of (key_of 96 0) (value_of 2) ([])))) (accepted (present (value_of 2))) (accepted h35)
      ∷ look seen12 13 (key_of 255 0) (refused 8) (refused 8) (refused 8)
      ∷ look seen12 12 (key_of 254 1) (refused 14) (accepted absent) (accepted zeros)
      ∷ look seen12 0 (key_of 8 0) (refused 14) (accepted absent) (accepted zeros)
      ∷ look seen12 12 (key_of 192 1) (refused 14) (accepted absent) (accepted zeros)
      ∷ look seen13 3 (key_of 254 0) (refused 14) (accepted absent) (accepted zeros)
      ∷ look seen13 3 (key_of 255 0) (refused 14) (accepted absent) (accepted zeros)
      ∷ look seen13 3 (key_of 254 0) (refused 14) (accepted absent) (accepted zeros)
      ∷ look seen13 3 (key_of 64 1) (refused 14) (accepted absent) (accepted zeros)
      ∷ look seen14 10 (key_of 254 0) (accepted (absence_of (key_of 254 0) (some (presence_of (key_of 144 0) (value_of 4) (step true h41 ∷ []))) none)) (accepted absent) (accepted h42)
      ∷ look seen14 10 (key_of 254 0) (accepted (absence_of (key_of 254 0) (some (presence_of (key_of 144 0) (value_of 4) (step true h41 ∷ []))) none)) (accepted absent) (accepted h42)
      ∷ look seen14 9 (key_of 0 0) (accepted (absence_of (key_of 0 0) none (some (presence_of (key_of 144 0) (value_of 4) ([]))))) (accepted absent) (accepted h6)
      ∷ look seen14 10 (key_of 144 0) (accepted (presence (presence_of (key_of 144 0) (value_of 4) (step true h41 ∷ [])))) (accepted (present (value_of 4))) (accepted h42)
      ∷ look seen15 6 (key_of 144 0) (accepted (absence_of (key_of 144 0) none (some (presence_of (key_of 254 0) (value_of 1) ([]))))) (accepted absent) (accepted h43)
      ∷ look seen15 6 (key_of 192 0) (accepted (absence_of (key_of 192 0) none (some (presence_of (key_of 254 0) (value_of 1) ([]))))) (accepted absent) (accepted h43)
      ∷ look seen15 2 (key_of 96 0) (refused 14) (accepted absent) (accepted zeros)
      ∷ look seen15 6 (key_of 144 0) (accepted (absence_of (key_of 144 0) none (some (presence_of (key_of 254 0) (value_of 1) ([]))))) (accepted absent) (accepted h43)
      ∷ look seen16 11 (key_of 8 0) (accepted (presence (presence_of (key_of 8 0) (value_of 3) (step false h45 ∷ [])))) (accepted (present (value_of 3))) (accepted h47)
      ∷ look seen16 11 (key_of 96 0) (accepted (absence_of (key_of 96 0) (some (presence_of (key_of 8 0) (value_of 3) (step false h45 ∷ []))) (some (presence_of (key_of 144 0) (value_of 3) (step false h44 ∷ step true h17 ∷ []))))) (accepted absent) (accepted h47)
      ∷ look seen16 11 (key_of 8 0) (accepted (presence (presence_of (key_of 8 0) (value_of 3) (step false h45 ∷ [])))) (accepted (present (value_of 3))) (accepted h47)
      ∷ look seen16 8 (key_of 96 0) (accepted (absence_of (key_of 96 0) (some (presence_of (key_of 8 0) (value_of 3) (step false h46 ∷ []))) (some (presence_of (key_of 192 0) (value_of 3) (step true h17 ∷ []))))) (accepted absent) (accepted h48)
      ∷ look seen17 19 (key_of 0 0) (refused 14) (accepted absent) (accepted zeros)
      ∷ look seen17 19 (key_of 16 0) (refused 14) (accepted absent) (accepted zeros)
      ∷ look seen17 19 (key_of 254 0) (refused 14) (accepted absent) (accepted zeros)
      ∷ look seen17 19 (key_of 144 0) (refused 14) (accepted absent) (accepted zeros)
      ∷ look seen18 3 (key_of 144 0) (accepted (absence_of (key_of 144 0) none (some (presence_of (key_of 192 0) (value_of 1) ([]))))) (accepted absent) (accepted h50)
      ∷ look seen18 3 (key_of 128 0) (accepted (absence_of (key_of 128 0) none (some (presence_of (key_of 192 0) (value_of 1) ([]))))) (accepted absent) (accepted h50)
      ∷ look seen18 3 (key_of 128 0) (accepted (absence_of (key_of 128 0) none (some (presence_of (key_of 192 0) (value_of 1) ([]))))) (accepted absent) (accepted h50)
      ∷ look seen18 3 (key_of 8 0) (accepted (absence_of (key_of 8 0) none (some (presence_of (key_of 192 0) (value_of 1) ([]))))) (accepted absent) (accepted h50)
      ∷ look seen19 10 (key_of 255 0) (refused 14) (accepted absent) (accepted zeros)
      ∷ look seen19 10 (key_of 255 0) (refused 14) (accepted absent) (accepted zeros)
      ∷ look seen19 10 (key_of 104 0) (refused 14) (accepted absent) (accepted zeros)
      ∷ look seen19 10 (key_of 16 0) (refused 14) (accepted absent) (accepted zeros)
      ∷ look seen20 2 (key_of 8 0) (accepted (absence_of (key_of 8 0) none (some (presence_of (key_of 128 0) (value_of 2) ([]))))) (accepted absent) (accepted h51)
      ∷ look seen20 3 (key_of 8 0) (refused 8) (refused 8) (refused 8)
      ∷ look seen20 2 (key_of 16 1) (accepted (absence_of (key_of 16 1) none (some (presence_of (key_of 128 0) (value_of 2) ([]))))) (accepted absent) (accepted h51)
      ∷ look seen20 2 (key_of 16 0) (accepted (absence_of (key_of 16 0) none (some (presence_of (key_of 128 0) (value_of 2) ([]))))) (accepted absent) (accepted h51)
      ∷ look seen21 5 (key_of 0 0) (refused 8) (refused 8) (refused 8)
      ∷ look seen21 7 (key_of 192 0) (accepted (absence_of (key_of 192 0) (some (presence_of (key_of 96 0) (value_of 3) (step true h0 ∷ step false zeros ∷ []))) none)) (accepted absent) (accepted h54)
      ∷ look seen21 7 (key_of 96 0) (accepted (presence (presence_of (key_of 96 0) (value_of 3) (step true h0 ∷ step false zeros ∷ [])))) (accepted (present (value_of 3))) (accepted h54)
      ∷ look seen21 7 (key_of 192 0) (accepted (absence_of (key_of 192 0) (some (presence_of (key_of 96 0) (value_of 3) (step true h0 ∷ step false zeros ∷ []))) none)) (accepted absent) (accepted h54)
      ∷ look seen22 3 (key_of 16 0) (refused 14) (accepted absent) (accepted zeros)
      ∷ look seen22 10 (key_of 192 0) (accepted (absence_of (key_of 192 0) (some (presence_of (key_of 64 0) (value_of 1) (step true h56 ∷ step false zeros ∷ []))) none)) (accepted absent) (accepted h60)
      ∷ look seen22 10 (key_of 104 0) (accepted (absence_of (key_of 104 0) (some (presence_of (key_of 64 0) (value_of 1) (step true h56 ∷ step false zeros ∷ []))) none)) (accepted absent) (accepted h60)
      ∷ look seen22 10 (key_of 192 1) (accepted (absence_of (key_of 192 1) (some (presence_of (key_of 64 0) (value_of 1) (step true h56 ∷ step false zeros ∷ []))) none)) (accepted absent) (accepted h60)
      ∷ look seen23 16 (key_of 64 0) (accepted (presence (presence_of (key_of 64 0) (value_of 2) ([])))) (accepted (present (value_of 2))) (accepted h61)
      ∷ look seen23 16 (key_of 16 0) (accepted (absence_of (key_of 16 0) none (some (presence_of (key_of 64 0) (value_of 2) ([]))))) (accepted absent) (accepted h61)
      ∷ look seen23 16 (key_of 192 0) (accepted (absence_of (key_of 192 0) (some (presence_of (key_of 64 0) (value_of 2) ([]))) none)) (accepted absent) (accepted h61)
      ∷ look seen23 2 (key_of 16 0) (refused 14) (accepted absent) (accepted zeros)
      ∷ look seen24 6 (key_of 254 0) (refused 14) (accepted absent) (accepted zeros)
      ∷ look seen24 1 (key_of 254 0) (refused 8) (refused 8) (refused 8)
      ∷ look seen24 13 (key_of 64 0) (accepted (absence_of (key_of 64 0) none (some (presence_of (key_of 96 0) (value_of 3) ([]))))) (accepted absent) (accepted h40)
      ∷ look seen24 16 (key_of 144 1) (accepted (absence_of (key_of 144 1) (some (presence_of (key_of 96 0) (value_of 1) (step true h64 ∷ step true zeros ∷ step false zeros ∷ []))) none)) (accepted absent) (accepted h67)
      ∷ look seen25 2 (key_of 144 0) (accepted (absence_of (key_of 144 0) (some (presence_of (key_of 96 0) (value_of 2) ([]))) none)) (accepted absent) (accepted h35)
      ∷ look seen25 2 (key_of 0 0) (accepted (absence_of (key_of 0 0) none (some (presence_of (key_of 96 0) (value_of 2) ([]))))) (accepted absent) (accepted h35)
      ∷ look seen25 3 (key_of 192 0) (refused 8) (refused 8) (refused 8)
      ∷ look seen25 2 (key_of 104 0) (accepted (absence_of (key_of 104 0) (some (presence_of (key_of 96 0) (value_of 2) ([]))) none)) (accepted absent) (accepted h35)
      ∷ look seen26 0 (key_of 0 0) (refused 14) (accepted absent) (accepted zeros)
      ∷ look seen26 0 (key_of 255 0) (refused 14) (accepted absent) (accepted zeros)
      ∷ look seen26 0 (key_of 0 0) (refused 14) (accepted absent) (accepted zeros)
      ∷ look seen26 2 (key_of 64 1) (accepted (absence_of (key_of 64 1) (some (presence_of (key_of 0 0) (value_of 4) (step false h14 ∷ []))) (some (presence_of (key_of 255 0) (value_of 1) (step true h68 ∷ []))))) (accepted absent) (accepted h69)
      ∷ look seen27 5 (key_of 144 0) (accepted (absence_of (key_of 144 0) (some (presence_of (key_of 128 0) (value_of 3) ([]))) none)) (accepted absent) (accepted h33)
      ∷ look seen27 9 (key_of 128 0) (accepted (absence_of (key_of 128 0) (some (presence_of (key_of 0 0) (value_of 2) (step false h74 ∷ []))) (some (presence_of (key_of 144 0) (value_of 4) (step true zeros ∷ step false zeros ∷ step false h44 ∷ step true h70 ∷ []))))) (accepted absent) (accepted h75)
      ∷ look seen27 5 (key_of 192 0) (accepted (absence_of (key_of 192 0) (some (presence_of (key_of 128 0) (value_of 3) ([]))) none)) (accepted absent) (accepted h33)
      ∷ look seen27 8 (key_of 0 0) (accepted (presence (presence_of (key_of 0 0) (value_of 2) (step false h71 ∷ [])))) (accepted (present (value_of 2))) (accepted h76)
      ∷ look seen28 2 (key_of 96 1) (accepted (absence_of (key_of 96 1) (some (presence_of (key_of 64 0) (value_of 2) (step true h38 ∷ step false zeros ∷ []))) none)) (accepted absent) (accepted h78)
      ∷ look seen28 0 (key_of 64 0) (refused 8) (refused 8) (refused 8)
      ∷ look seen28 3 (key_of 144 0) (accepted (absence_of (key_of 144 0) (some (presence_of (key_of 64 0) (value_of 2) (step true h38 ∷ step false zeros ∷ []))) none)) (accepted absent) (accepted h78)
      ∷ look seen28 3 (key_of 104 0) (accepted (absence_of (key_of 104 0) (some (presence_of (key_of 64 0) (value_of 2) (step true h38 ∷ step false zeros ∷ []))) none)) (accepted absent) (accepted h78)
      ∷ look seen29 9 (key_of 192 0) (accepted (absence_of (key_of 192 0) (some (presence_of (key_of 144 0) (value_of 2) (step true h7 ∷ []))) none)) (accepted absent) (accepted h80)
      ∷ look seen29 5 (key_of 16 0) (refused 14) (accepted absent) (accepted zeros)
      ∷ look seen29 6 (key_of 8 0) (accepted (presence (presence_of (key_of 8 0) (value_of 2) ([])))) (accepted (present (value_of 2))) (accepted h7)
      ∷ look seen29 7 (key_of 192 0) (accepted (absence_of (key_of 192 0) (some (presence_of (key_of 8 0) (value_of 2) ([]))) none)) (accepted absent) (accepted h7)
      ∷ []

  pub looks4 : All (LookHolds leaf_hash inner_hash) rows
  unfolding computed
  looks4 = ((refl, refl, refl), ((refl, refl, refl), ((refl, refl, refl), ((refl, refl, refl), ((refl, refl, refl), ((refl, refl, refl), ((refl, refl, refl), ((refl, refl, refl), ((refl, refl, refl), ((refl, refl, refl), ((refl, refl, refl), ((refl, refl, refl), ((refl, refl, refl), ((refl, refl, refl), ((refl, refl, refl), ((refl, refl, refl), ((refl, refl, refl), ((refl, refl, refl), ((refl, refl, refl), ((refl, refl, refl), ((refl, refl, refl), ((refl, refl, refl), ((refl, refl, refl), ((refl, refl, refl), ((refl, refl, refl), ((refl, refl, refl), ((refl, refl, refl), ((refl, refl, refl), ((refl, refl, refl), ((refl, refl, refl), ((refl, refl, refl), ((refl, refl, refl), ((refl, refl, refl), ((refl, refl, refl), ((refl, refl, refl), ((refl, refl, refl), ((refl, refl, refl), ((refl, refl, refl), ((refl, refl, refl), ((refl, refl, refl), ((refl, refl, refl), ((refl, refl, refl), ((refl, refl, refl), ((refl, refl, refl), ((refl, refl, refl), ((refl, refl, refl), ((refl, refl, refl), ((refl, refl, refl), ((refl, refl, refl), ((refl, refl, refl), ((refl, refl, refl), ((refl, refl, refl), ((refl, refl, refl), ((refl, refl, refl), ((refl, refl, refl), ((refl, refl, refl), ((refl, refl, refl), ((refl, refl, refl), ((refl, refl, refl), ((refl, refl, refl), ((refl, refl, refl), ((refl, refl, refl), ((refl, refl, refl), ((refl, refl, refl), ((refl, refl, refl), ((refl, refl, refl), ((refl, refl, refl), ((refl, refl, refl), ((refl, refl, refl), ((refl, refl, refl), ((refl, refl, refl), ((refl, refl, refl), ((refl, refl, refl), ((refl, refl, refl), ((refl, refl, refl), ((refl, refl, refl), ((refl, refl, refl), ((refl, refl, refl), ((refl, refl, refl), ((refl, refl, refl), ((refl, refl, refl), ((refl, refl, refl), ((refl, refl, refl), ((refl, refl, refl), ((refl, refl, refl), ((refl, refl, refl), ((refl, refl, refl), ((refl, refl, refl), ((refl, refl, refl), ((refl, refl, refl), ((refl, refl, refl), ((refl, refl, refl), ((refl, refl, refl), ((refl, refl, refl), ((refl, refl, refl), ((refl, refl, refl), ((refl, refl, refl), ((refl, refl, refl), ((refl, refl, refl), ((refl, refl, refl), ((refl, refl, refl), ((refl, refl, refl), ((refl, refl, refl), ((refl, refl, refl), ((refl, refl, refl), ((refl, refl, refl), ((refl, refl, refl), ((refl, refl, refl), ((refl, refl, refl), ((refl, refl, refl), ((refl, refl, refl), ((refl, refl, refl), ((refl, refl, refl), ((refl, refl, refl), ((refl, refl, refl), ((refl, refl, refl), ((refl, refl, refl), ((refl, refl, refl), ((refl, refl, refl), ((refl, refl, refl), tt))))))))))))))))))))))))))))))))))))))))))))))))))))))))))))))))))))))))))))))))))))))))))))))))))))))))))))))))))))))))
