-- Proofs and reads of whole and damaged stores, part 3. Written by tests/tables/generate.py; compared with a second reading of document 01, 2026-07 and 2026-13. Assumes nothing.
use mathlib.Core.Path.{◌≡◌, refl}
use mathlib.Core.Bool.{true, false}
use mathlib.Core.List.{List, [], ◌∷◌}
use mathlib.Core.Option.{none, some}
use Rattle.terms.specs.Bits.{Bytes, All}
use Rattle.terms.specs.Records.{insert, delete, free, Store, presence, zeros}
use Rattle.meaning.specs.Computed.{computed}
use Rattle.meaning.specs.Calls.{refused, accepted}
use Rattle.meaning.specs.Desk.{key_of}
use Rattle.meaning.specs.Proving.{step, presence_of, absence_of}
use Rattle.meaning.specs.Reading.{present, absent}
use Rattle.tables.specs.Tables.{Look, look, LookHolds, leaf_slot, inner_slot, spoilt_slot, store_of, free_slots, value_of}

module _ (leaf_hash inner_hash : Bytes → Bytes → Bytes) where
  abbrev h0 : Bytes
  h0 = leaf_hash (key_of 128 0) (value_of 1)

  abbrev h1 : Bytes
  h1 = leaf_hash (key_of 192 0) (value_of 2)

  abbrev h2 : Bytes
  h2 = leaf_hash (key_of 104 0) (value_of 1)

  abbrev h3 : Bytes
  h3 = inner_hash h0 h1

  abbrev h4 : Bytes
  h4 = inner_hash h2 h3

  abbrev h5 : Bytes
  h5 = inner_hash h2 h1

  abbrev h6 : Bytes
  h6 = leaf_hash (key_of 16 0) (value_of 2)

  abbrev h7 : Bytes
  h7 = leaf_hash (key_of 96 0) (value_of 3)

  abbrev h8 : Bytes
  h8 = inner_hash h6 h7

  abbrev h9 : Bytes
  h9 = inner_hash h7 h0

  abbrev h10 : Bytes
  h10 = leaf_hash (key_of 16 0) (value_of 1)

  abbrev h11 : Bytes
  h11 = leaf_hash (key_of 64 0) (value_of 2)

  abbrev h12 : Bytes
  h12 = inner_hash h10 h11

  abbrev h13 : Bytes
  h13 = leaf_hash (key_of 64 0) (value_of 1)

  abbrev h14 : Bytes
  h14 = leaf_hash (key_of 104 0) (value_of 3)

  abbrev h15 : Bytes
  h15 = inner_hash h13 h14

  abbrev h16 : Bytes
  h16 = inner_hash zeros h15

  abbrev h17 : Bytes
  h17 = inner_hash h12 zeros

  abbrev h18 : Bytes
  h18 = leaf_hash (key_of 64 0) (value_of 4)

  abbrev h19 : Bytes
  h19 = leaf_hash (key_of 144 0) (value_of 3)

  abbrev h20 : Bytes
  h20 = inner_hash h18 h19

  abbrev h21 : Bytes
  h21 = leaf_hash (key_of 0 0) (value_of 4)

  abbrev h22 : Bytes
  h22 = leaf_hash (key_of 144 0) (value_of 2)

  abbrev h23 : Bytes
  h23 = inner_hash h21 h22

  abbrev h24 : Bytes
  h24 = leaf_hash (key_of 254 0) (value_of 1)

  abbrev h25 : Bytes
  h25 = leaf_hash (key_of 128 0) (value_of 3)

  abbrev h26 : Bytes
  h26 = leaf_hash (key_of 144 0) (value_of 1)

  abbrev h27 : Bytes
  h27 = leaf_hash (key_of 255 0) (value_of 2)

  abbrev h28 : Bytes
  h28 = inner_hash h26 h27

  abbrev h29 : Bytes
  h29 = inner_hash zeros h28

  abbrev h30 : Bytes
  h30 = leaf_hash (key_of 0 0) (value_of 2)

  abbrev h31 : Bytes
  h31 = inner_hash h30 h6

  abbrev h32 : Bytes
  h32 = inner_hash h31 zeros

  abbrev h33 : Bytes
  h33 = leaf_hash (key_of 96 0) (value_of 1)

  abbrev h34 : Bytes
  h34 = leaf_hash (key_of 254 0) (value_of 2)

  abbrev h35 : Bytes
  h35 = inner_hash h25 h34

  abbrev h36 : Bytes
  h36 = inner_hash h33 h35

  abbrev h37 : Bytes
  h37 = inner_hash h33 h25

  abbrev h38 : Bytes
  h38 = leaf_hash (key_of 8 0) (value_of 4)

  abbrev h39 : Bytes
  h39 = leaf_hash (key_of 16 0) (value_of 4)

  abbrev h40 : Bytes
  h40 = inner_hash h38 h39

  abbrev h41 : Bytes
  h41 = inner_hash h40 zeros

  abbrev h42 : Bytes
  h42 = inner_hash h41 zeros

  abbrev h43 : Bytes
  h43 = inner_hash h38 h10

  abbrev h44 : Bytes
  h44 = inner_hash h43 zeros

  abbrev h45 : Bytes
  h45 = inner_hash h44 zeros

  abbrev h46 : Bytes
  h46 = inner_hash h45 zeros

  abbrev h47 : Bytes
  h47 = leaf_hash (key_of 8 0) (value_of 1)

  abbrev h48 : Bytes
  h48 = leaf_hash (key_of 96 0) (value_of 4)

  abbrev h49 : Bytes
  h49 = inner_hash h33 h19

  abbrev h50 : Bytes
  h50 = inner_hash h48 h19

  abbrev h51 : Bytes
  h51 = leaf_hash (key_of 104 0) (value_of 2)

  abbrev h52 : Bytes
  h52 = leaf_hash (key_of 192 0) (value_of 1)

  abbrev h53 : Bytes
  h53 = inner_hash h51 h52

  abbrev h54 : Bytes
  h54 = leaf_hash (key_of 8 0) (value_of 3)

  abbrev h55 : Bytes
  h55 = leaf_hash (key_of 128 0) (value_of 4)

  abbrev h56 : Bytes
  h56 = inner_hash h54 h25

  abbrev h57 : Bytes
  h57 = inner_hash h54 h2

  abbrev h58 : Bytes
  h58 = inner_hash h54 h22

  abbrev h59 : Bytes
  h59 = inner_hash h57 h22

  abbrev h60 : Bytes
  h60 = inner_hash h38 h51

  abbrev h61 : Bytes
  h61 = leaf_hash (key_of 104 0) (value_of 4)

  abbrev h62 : Bytes
  h62 = inner_hash h47 h61

  abbrev h63 : Bytes
  h63 = inner_hash h62 zeros

  abbrev h64 : Bytes
  h64 = inner_hash h6 h22

  abbrev h65 : Bytes
  h65 = inner_hash h0 h22

  abbrev h66 : Bytes
  h66 = inner_hash h65 zeros

  abbrev h67 : Bytes
  h67 = inner_hash h66 zeros

  abbrev h68 : Bytes
  h68 = inner_hash zeros h67

  abbrev h69 : Bytes
  h69 = leaf_hash (key_of 0 0) (value_of 1)

  abbrev h70 : Bytes
  h70 = leaf_hash (key_of 64 0) (value_of 3)

  abbrev h71 : Bytes
  h71 = inner_hash h13 h1

  abbrev h72 : Bytes
  h72 = inner_hash h70 h27

  abbrev h73 : Bytes
  h73 = leaf_hash (key_of 128 0) (value_of 2)

  abbrev h74 : Bytes
  h74 = inner_hash h39 h73

  abbrev h75 : Bytes
  h75 = leaf_hash (key_of 192 0) (value_of 4)

  abbrev h76 : Bytes
  h76 = inner_hash h55 h75

  abbrev h77 : Bytes
  h77 = inner_hash h73 h52

  abbrev h78 : Bytes
  h78 = inner_hash h10 h76

  abbrev h79 : Bytes
  h79 = inner_hash h10 h77

  abbrev seen0 : Store
  seen0 =
      store_of 7 13
      (leaf_slot (true ∷ false ∷ []) 8 13 (key_of 128 0) (value_of 1)
      ∷ leaf_slot ([]) 7 8 (key_of 128 0) (value_of 1)
      ∷ leaf_slot (true ∷ true ∷ []) 8 13 (key_of 192 0) (value_of 2)
      ∷ leaf_slot (false ∷ []) 8 0 (key_of 104 0) (value_of 1)
      ∷ inner_slot (true ∷ []) 8 13 8 h0 8 h1 1 1
      ∷ inner_slot ([]) 8 13 8 h2 8 h3 1 2
      ∷ leaf_slot (true ∷ []) 13 0 (key_of 192 0) (value_of 2)
      ∷ inner_slot ([]) 13 0 8 h2 13 h1 1 1
      ∷ [])

  abbrev seen1 : Store
  seen1 =
      store_of 7 13
      (leaf_slot (false ∷ false ∷ []) 11 13 (key_of 16 0) (value_of 2)
      ∷ leaf_slot (false ∷ true ∷ []) 11 13 (key_of 96 0) (value_of 3)
      ∷ leaf_slot ([]) 7 11 (key_of 16 0) (value_of 2)
      ∷ free
      ∷ inner_slot ([]) 11 12 11 h8 0 zeros 2 0
      ∷ inner_slot ([]) 12 13 11 h8 0 zeros 2 0
      ∷ leaf_slot (false ∷ []) 13 0 (key_of 0 0) (value_of 3)
      ∷ leaf_slot (true ∷ []) 13 0 (key_of 128 0) (value_of 1)
      ∷ inner_slot ([]) 13 0 13 h7 13 h0 1 1
      ∷ free
      ∷ free
      ∷ free
      ∷ [])

  abbrev seen2 : Store
  seen2 =
      store_of 8 11
      (leaf_slot (false ∷ true ∷ false ∷ []) 10 11 (key_of 64 0) (value_of 1)
      ∷ leaf_slot (false ∷ false ∷ []) 7 10 (key_of 16 0) (value_of 1)
      ∷ leaf_slot (false ∷ true ∷ []) 7 10 (key_of 64 0) (value_of 2)
      ∷ inner_slot (false ∷ []) 7 10 7 h10 7 h11 1 1
      ∷ inner_slot ([]) 7 9 7 h12 0 zeros 2 0
      ∷ inner_slot ([]) 9 10 7 h12 0 zeros 2 0
      ∷ leaf_slot (false ∷ true ∷ true ∷ []) 10 11 (key_of 104 0) (value_of 3)
      ∷ inner_slot (false ∷ true ∷ []) 10 11 10 h13 10 h14 1 1
      ∷ inner_slot (false ∷ []) 10 11 0 zeros 10 h15 0 2
      ∷ inner_slot ([]) 10 11 10 h16 0 zeros 2 0
      ∷ leaf_slot ([]) 11 0 (key_of 64 0) (value_of 1)
      ∷ free
      ∷ [])

  abbrev seen3 : Store
  seen3 =
      store_of 0 4
      (leaf_slot (false ∷ []) 2 4 (key_of 64 0) (value_of 4)
      ∷ leaf_slot (true ∷ []) 1 4 (key_of 144 0) (value_of 3)
      ∷ inner_slot ([]) 1 4 1 h18 1 h19 1 1
      ∷ leaf_slot ([]) 4 0 (key_of 144 0) (value_of 3)
      ∷ [])

  abbrev seen4 : Store
  seen4 =
      store_of 4294967293 4294967295
      (leaf_slot (false ∷ []) 4294967295 0 (key_of 0 0) (value_of 4)
      ∷ leaf_slot (true ∷ []) 4294967295 0 (key_of 144 0) (value_of 2)
      ∷ inner_slot ([]) 4294967295 0 4294967295 h21 4294967295 h22 1 1
      ∷ free
      ∷ free
      ∷ free
      ∷ free
      ∷ free
      ∷ free
      ∷ free
      ∷ free
      ∷ free
      ∷ free
      ∷ free
      ∷ free
      ∷ free
      ∷ free
      ∷ free
      ∷ free
      ∷ free
      ∷ free
      ∷ free
      ∷ free
      ∷ free
      ∷ [])

  abbrev seen5 : Store
  seen5 =
      store_of 5 7
      (leaf_slot ([]) 4 6 (key_of 192 0) (value_of 2)
      ∷ leaf_slot ([]) 6 7 (key_of 192 0) (value_of 2)
      ∷ leaf_slot ([]) 7 0 (key_of 254 0) (value_of 1)
      ∷ spoilt_slot 0 ([]) 4 6
      ∷ free
      ∷ free
      ∷ free
      ∷ free
      ∷ free
      ∷ free
      ∷ free
      ∷ free
      ∷ free
      ∷ free
      ∷ free
      ∷ free
      ∷ free
      ∷ free
      ∷ free
      ∷ free
      ∷ free
      ∷ free
      ∷ free
      ∷ free
      ∷ [])

  abbrev seen6 : Store
  seen6 =
      store_of 4 12
      (leaf_slot ([]) 5 9 (key_of 96 0) (value_of 2)
      ∷ leaf_slot ([]) 9 10 (key_of 96 0) (value_of 2)
      ∷ leaf_slot ([]) 10 11 (key_of 128 0) (value_of 1)
      ∷ leaf_slot (false ∷ []) 11 12 (key_of 64 0) (value_of 2)
      ∷ leaf_slot (true ∷ []) 11 12 (key_of 128 0) (value_of 3)
      ∷ inner_slot ([]) 11 12 11 h11 11 h25 1 1
      ∷ leaf_slot ([]) 12 0 (key_of 128 0) (value_of 3)
      ∷ free
      ∷ free
      ∷ free
      ∷ free
      ∷ free
      ∷ free
      ∷ free
      ∷ free
      ∷ free
      ∷ [])

  abbrev seen7 : Store
  seen7 =
      store_of 12 12
      (free
      ∷ free
      ∷ leaf_slot ([]) 13 14 (key_of 96 0) (value_of 4)
      ∷ free
      ∷ free
      ∷ free
      ∷ free
      ∷ free
      ∷ free
      ∷ free
      ∷ free
      ∷ free
      ∷ free
      ∷ free
      ∷ free
      ∷ free
      ∷ [])

  abbrev seen8 : Store
  seen8 =
      store_of 7 8
      (leaf_slot (true ∷ false ∷ []) 8 0 (key_of 144 0) (value_of 1)
      ∷ leaf_slot (true ∷ true ∷ []) 8 0 (key_of 255 0) (value_of 2)
      ∷ inner_slot (true ∷ []) 8 0 8 h26 8 h27 1 1
      ∷ inner_slot ([]) 8 0 0 zeros 8 h28 0 2
      ∷ free
      ∷ free
      ∷ leaf_slot (false ∷ []) 7 8 (key_of 64 0) (value_of 2)
      ∷ leaf_slot (true ∷ []) 7 8 (key_of 144 0) (value_of 1)
      ∷ inner_slot ([]) 7 8 7 h11 7 h26 1 1
      ∷ free
      ∷ free
      ∷ free
      ∷ free
      ∷ free
      ∷ free
      ∷ free
      ∷ [])

  abbrev seen9 : Store
  seen9 =
      store_of 3 3
      (leaf_slot (false ∷ false ∷ false ∷ false ∷ []) 2 0 (key_of 0 0) (value_of 2)
      ∷ leaf_slot (false ∷ false ∷ false ∷ true ∷ []) 2 0 (key_of 16 0) (value_of 2)
      ∷ inner_slot (false ∷ false ∷ false ∷ []) 2 0 2 h30 2 h6 1 1
      ∷ inner_slot (false ∷ false ∷ []) 2 0 2 h31 0 zeros 2 0
      ∷ inner_slot (false ∷ []) 2 0 2 h32 0 zeros 2 0
      ∷ leaf_slot (true ∷ []) 2 0 (key_of 254 0) (value_of 1)
      ∷ free
      ∷ spoilt_slot 0 ([]) 3 0
      ∷ [])

  abbrev seen10 : Store
  seen10 =
      store_of 2 10
      (leaf_slot (false ∷ []) 6 0 (key_of 96 0) (value_of 1)
      ∷ leaf_slot (true ∷ []) 6 10 (key_of 128 0) (value_of 3)
      ∷ inner_slot ([]) 6 10 6 h33 6 h25 1 1
      ∷ leaf_slot (true ∷ false ∷ []) 10 0 (key_of 128 0) (value_of 3)
      ∷ leaf_slot (true ∷ true ∷ []) 10 0 (key_of 254 0) (value_of 2)
      ∷ inner_slot (true ∷ []) 10 0 10 h25 10 h34 1 1
      ∷ inner_slot ([]) 10 0 6 h33 10 h35 1 2
      ∷ free
      ∷ [])

  abbrev seen11 : Store
  seen11 =
      store_of 0 7
      (leaf_slot ([]) 1 2 (key_of 16 0) (value_of 1)
      ∷ leaf_slot ([]) 2 3 (key_of 8 0) (value_of 4)
      ∷ leaf_slot (false ∷ false ∷ false ∷ false ∷ []) 3 0 (key_of 8 0) (value_of 4)
      ∷ leaf_slot (false ∷ false ∷ false ∷ true ∷ []) 3 7 (key_of 16 0) (value_of 4)
      ∷ inner_slot (false ∷ false ∷ false ∷ []) 3 7 3 h38 3 h39 1 1
      ∷ inner_slot (false ∷ false ∷ []) 3 7 3 h40 0 zeros 2 0
      ∷ inner_slot (false ∷ []) 4 7 3 h41 0 zeros 2 0
      ∷ inner_slot ([]) 3 7 3 h42 0 zeros 2 0
      ∷ leaf_slot (false ∷ false ∷ false ∷ true ∷ []) 7 0 (key_of 16 0) (value_of 1)
      ∷ inner_slot (false ∷ false ∷ false ∷ []) 7 0 3 h38 7 h10 1 1
      ∷ inner_slot (false ∷ false ∷ []) 7 0 7 h43 0 zeros 2 0
      ∷ inner_slot (false ∷ []) 7 0 7 h44 0 zeros 2 0
      ∷ inner_slot ([]) 7 0 7 h45 0 zeros 2 0
      ∷ free
      ∷ free
      ∷ free
      ∷ free
      ∷ free
      ∷ free
      ∷ free
      ∷ free
      ∷ free
      ∷ free
      ∷ free
      ∷ [])

  abbrev seen12 : Store
  seen12 =
      store_of 8 14
      (free
      ∷ free
      ∷ free
      ∷ free
      ∷ free
      ∷ free
      ∷ free
      ∷ free
      ∷ free
      ∷ free
      ∷ free
      ∷ free
      ∷ [])

  abbrev seen13 : Store
  seen13 =
      store_of 0 10
      (spoilt_slot 0 ([]) 3 5
      ∷ leaf_slot ([]) 5 9 (key_of 8 0) (value_of 1)
      ∷ leaf_slot ([]) 9 10 (key_of 8 0) (value_of 1)
      ∷ leaf_slot ([]) 11 0 (key_of 8 0) (value_of 1)
      ∷ [])

  abbrev seen14 : Store
  seen14 =
      store_of 15 22
      (inner_slot ([]) 22 0 21 h33 10 h19 1 1
      ∷ free
      ∷ free
      ∷ free
      ∷ leaf_slot (true ∷ []) 10 0 (key_of 144 0) (value_of 3)
      ∷ free
      ∷ leaf_slot (false ∷ []) 15 21 (key_of 96 0) (value_of 4)
      ∷ inner_slot ([]) 15 16 15 h48 10 h19 1 1
      ∷ inner_slot ([]) 16 21 15 h48 10 h19 1 1
      ∷ leaf_slot (false ∷ []) 21 0 (key_of 96 0) (value_of 1)
      ∷ inner_slot ([]) 21 22 21 h33 10 h19 1 1
      ∷ free
      ∷ [])

  abbrev seen15 : Store
  seen15 =
      store_of 0 4
      (spoilt_slot 1 (false ∷ []) 5 0
      ∷ leaf_slot (true ∷ []) 4 0 (key_of 192 0) (value_of 1)
      ∷ inner_slot ([]) 4 0 4 h51 4 h52 1 1
      ∷ free
      ∷ free
      ∷ free
      ∷ free
      ∷ free
      ∷ [])

  abbrev seen16 : Store
  seen16 =
      store_of 0 5
      (leaf_slot (false ∷ []) 2 5 (key_of 8 0) (value_of 3)
      ∷ leaf_slot (true ∷ []) 2 3 (key_of 128 0) (value_of 3)
      ∷ inner_slot ([]) 2 3 2 h54 2 h25 1 1
      ∷ leaf_slot (true ∷ []) 3 5 (key_of 128 0) (value_of 4)
      ∷ inner_slot ([]) 3 5 2 h54 3 h55 1 1
      ∷ free
      ∷ free
      ∷ free
      ∷ free
      ∷ free
      ∷ free
      ∷ free
      ∷ [])

  abbrev seen17 : Store
  seen17 =
      store_of 7 10
      (leaf_slot ([]) 10 0 (key_of 192 0) (value_of 1)
      ∷ spoilt_slot 0 ([]) 7 8
      ∷ leaf_slot ([]) 9 10 (key_of 192 0) (value_of 1)
      ∷ free
      ∷ free
      ∷ free
      ∷ free
      ∷ free
      ∷ [])

  abbrev seen18 : Store
  seen18 =
      store_of 0 0
      (free
      ∷ free
      ∷ free
      ∷ free
      ∷ [])

  abbrev seen19 : Store
  seen19 =
      store_of 4294967293 4294967295
      (free
      ∷ free
      ∷ free
      ∷ free
      ∷ [])

  abbrev seen20 : Store
  seen20 =
      store_of 0 4
      (leaf_slot ([]) 1 2 (key_of 8 0) (value_of 3)
      ∷ leaf_slot (false ∷ []) 2 4 (key_of 8 0) (value_of 3)
      ∷ leaf_slot (true ∷ []) 2 0 (key_of 144 0) (value_of 2)
      ∷ inner_slot ([]) 2 4 2 h54 2 h22 1 1
      ∷ leaf_slot (false ∷ false ∷ []) 4 0 (key_of 8 0) (value_of 3)
      ∷ leaf_slot (false ∷ true ∷ []) 4 0 (key_of 104 0) (value_of 1)
      ∷ inner_slot (false ∷ []) 4 0 4 h54 4 h2 1 1
      ∷ inner_slot ([]) 4 0 4 h57 2 h22 2 1
      ∷ free
      ∷ free
      ∷ free
      ∷ free
      ∷ free
      ∷ free
      ∷ free
      ∷ free
      ∷ [])

  abbrev seen21 : Store
  seen21 =
      store_of 0 2
      (spoilt_slot 0 ([]) 2 3
      ∷ free
      ∷ free
      ∷ free
      ∷ [])

  abbrev seen22 : Store
  seen22 =
      store_of 2 10
      (leaf_slot ([]) 2 5 (key_of 104 0) (value_of 2)
      ∷ leaf_slot (false ∷ false ∷ []) 5 10 (key_of 8 0) (value_of 4)
      ∷ leaf_slot (false ∷ true ∷ []) 5 10 (key_of 104 0) (value_of 2)
      ∷ inner_slot (false ∷ []) 5 10 5 h38 5 h51 1 1
      ∷ inner_slot ([]) 5 10 5 h60 0 zeros 2 0
      ∷ leaf_slot (false ∷ false ∷ []) 10 0 (key_of 8 0) (value_of 1)
      ∷ leaf_slot (false ∷ true ∷ []) 10 0 (key_of 104 0) (value_of 4)
      ∷ inner_slot (false ∷ []) 10 0 10 h47 10 h61 1 1
      ∷ inner_slot ([]) 10 0 10 h62 0 zeros 2 0
      ∷ free
      ∷ free
      ∷ free
      ∷ [])

  abbrev seen23 : Store
  seen23 =
      store_of 0 10
      (leaf_slot ([]) 5 10 (key_of 144 0) (value_of 2)
      ∷ leaf_slot (false ∷ []) 10 0 (key_of 16 0) (value_of 2)
      ∷ leaf_slot (true ∷ []) 10 0 (key_of 64 0) (value_of 2)
      ∷ inner_slot ([]) 10 0 10 h6 10 h22 1 1
      ∷ [])

  abbrev seen24 : Store
  seen24 =
      store_of 6 13
      (leaf_slot ([]) 10 11 (key_of 254 0) (value_of 2)
      ∷ leaf_slot ([]) 11 13 (key_of 254 0) (value_of 2)
      ∷ leaf_slot ([]) 13 0 (key_of 254 0) (value_of 2)
      ∷ free
      ∷ [])

  abbrev seen25 : Store
  seen25 =
      store_of 1 1
      (spoilt_slot 4 (true ∷ false ∷ false ∷ false ∷ []) 1 0
      ∷ leaf_slot (true ∷ false ∷ false ∷ true ∷ []) 1 0 (key_of 144 0) (value_of 2)
      ∷ free
      ∷ inner_slot (true ∷ false ∷ []) 1 0 1 h65 0 zeros 2 0
      ∷ inner_slot (true ∷ []) 1 0 1 h66 0 zeros 2 0
      ∷ inner_slot ([]) 1 0 0 zeros 1 h67 0 2
      ∷ free
      ∷ free
      ∷ [])

  abbrev seen26 : Store
  seen26 =
      store_of 0 9
      (leaf_slot ([]) 5 9 (key_of 0 0) (value_of 1)
      ∷ leaf_slot ([]) 9 0 (key_of 0 0) (value_of 1)
      ∷ free
      ∷ free
      ∷ free
      ∷ free
      ∷ free
      ∷ free
      ∷ free
      ∷ free
      ∷ free
      ∷ free
      ∷ free
      ∷ free
      ∷ free
      ∷ free
      ∷ [])

  abbrev seen27 : Store
  seen27 =
      store_of 2 10
      (leaf_slot ([]) 9 10 (key_of 64 0) (value_of 1)
      ∷ leaf_slot (false ∷ []) 2 5 (key_of 64 0) (value_of 3)
      ∷ leaf_slot (true ∷ []) 2 5 (key_of 255 0) (value_of 2)
      ∷ inner_slot ([]) 2 5 2 h70 2 h27 1 1
      ∷ leaf_slot ([]) 5 7 (key_of 64 0) (value_of 3)
      ∷ leaf_slot ([]) 7 8 (key_of 64 0) (value_of 1)
      ∷ leaf_slot ([]) 8 9 (key_of 64 0) (value_of 1)
      ∷ spoilt_slot 1 (false ∷ []) 10 0
      ∷ leaf_slot (true ∷ []) 10 0 (key_of 192 0) (value_of 2)
      ∷ inner_slot ([]) 10 0 10 h13 10 h1 1 1
      ∷ spoilt_slot 1 (false ∷ []) 10 0
      ∷ free
      ∷ [])

  abbrev seen28 : Store
  seen28 =
      store_of 0 3
      (leaf_slot ([]) 2 3 (key_of 16 0) (value_of 4)
      ∷ leaf_slot (false ∷ []) 3 0 (key_of 16 0) (value_of 4)
      ∷ leaf_slot (true ∷ []) 3 0 (key_of 128 0) (value_of 2)
      ∷ inner_slot ([]) 3 0 3 h39 3 h73 1 1
      ∷ free
      ∷ free
      ∷ free
      ∷ free
      ∷ free
      ∷ free
      ∷ free
      ∷ free
      ∷ free
      ∷ free
      ∷ free
      ∷ free
      ∷ [])

  abbrev seen29 : Store
  seen29 =
      store_of 7 9
      (leaf_slot (true ∷ false ∷ []) 8 9 (key_of 128 0) (value_of 4)
      ∷ leaf_slot (true ∷ true ∷ []) 8 9 (key_of 192 0) (value_of 4)
      ∷ inner_slot (true ∷ []) 9 9 8 h55 8 h75 1 1
      ∷ leaf_slot (false ∷ []) 2 0 (key_of 16 0) (value_of 1)
      ∷ inner_slot ([]) 8 9 2 h10 8 h76 1 2
      ∷ leaf_slot (true ∷ false ∷ []) 9 0 (key_of 128 0) (value_of 2)
      ∷ leaf_slot (true ∷ []) 6 8 (key_of 192 0) (value_of 4)
      ∷ inner_slot ([]) 6 8 2 h10 6 h75 1 1
      ∷ leaf_slot (true ∷ true ∷ []) 9 0 (key_of 192 0) (value_of 1)
      ∷ inner_slot (true ∷ []) 9 0 9 h73 9 h52 1 1
      ∷ inner_slot ([]) 9 0 2 h10 9 h77 1 2
      ∷ free
      ∷ free
      ∷ free
      ∷ free
      ∷ free
      ∷ [])

  abbrev rows : List Look
  rows =
      look seen0 8 (key_of 144 1) (accepted (absence_of (key_of 144 1) (some (presence_of (key_of 128 0) (value_of 1) (step false h1 ∷ step true h2 ∷ []))) (some (presence_of (key_of 192 0) (value_of 2) (step true h0 ∷ step true h2 ∷ []))))) (accepted absent) (accepted h4)
      ∷ look seen0 13 (key_of 128 0) (accepted (absence_of (key_of 128 0) (some (presence_of (key_of 104 0) (value_of 1) (step false h1 ∷ []))) (some (presence_of (key_of 192 0) (value_of 2) (step true h2 ∷ []))))) (accepted absent) (accepted h5)
      ∷ look seen0 6 (key_of 104 0) (refused 8) (refused 8) (refused 8)
      ∷ look seen0 13 (key_of 104 0) (accepted (presence (presence_of (key_of 104 0) (value_of 1) (step false h1 ∷ [])))) (accepted (present (value_of 1))) (accepted h5)
      ∷ look seen1 13 (key_of 128 0) (accepted (presence (presence_of (key_of 128 0) (value_of 1) (step true h7 ∷ [])))) (accepted (present (value_of 1))) (accepted h9)
      ∷ look seen1 8 (key_of 8 0) (accepted (absence_of (key_of 8 0) none (some (presence_of (key_of 16 0) (value_of 2) ([]))))) (accepted absent) (accepted h6)
      ∷ look seen1 10 (key_of 16 0) (accepted (presence (presence_of (key_of 16 0) (value_of 2) ([])))) (accepted (present (value_of 2))) (accepted h6)
      ∷ look seen1 13 (key_of 8 0) (accepted (absence_of (key_of 8 0) (some (presence_of (key_of 0 0) (value_of 3) (step false h0 ∷ []))) (some (presence_of (key_of 128 0) (value_of 1) (step true h7 ∷ []))))) (accepted absent) (accepted h9)
      ∷ look seen2 12 (key_of 104 1) (refused 8) (refused 8) (refused 8)
      ∷ look seen2 11 (key_of 16 0) (accepted (absence_of (key_of 16 0) none (some (presence_of (key_of 64 0) (value_of 1) ([]))))) (accepted absent) (accepted h13)
      ∷ look seen2 9 (key_of 255 0) (accepted (absence_of (key_of 255 0) (some (presence_of (key_of 64 0) (value_of 2) (step true h10 ∷ step false zeros ∷ []))) none)) (accepted absent) (accepted h17)
      ∷ look seen2 11 (key_of 104 0) (accepted (absence_of (key_of 104 0) (some (presence_of (key_of 64 0) (value_of 1) ([]))) none)) (accepted absent) (accepted h13)
      ∷ look seen3 2 (key_of 144 0) (accepted (presence (presence_of (key_of 144 0) (value_of 3) (step true h18 ∷ [])))) (accepted (present (value_of 3))) (accepted h20)
      ∷ look seen3 4 (key_of 144 0) (accepted (presence (presence_of (key_of 144 0) (value_of 3) ([])))) (accepted (present (value_of 3))) (accepted h19)
      ∷ look seen3 4 (key_of 64 0) (accepted (absence_of (key_of 64 0) none (some (presence_of (key_of 144 0) (value_of 3) ([]))))) (accepted absent) (accepted h19)
      ∷ look seen3 2 (key_of 64 0) (refused 17) (refused 17) (accepted h20)
      ∷ look seen4 4294967295 (key_of 0 0) (accepted (presence (presence_of (key_of 0 0) (value_of 4) (step false h22 ∷ [])))) (accepted (present (value_of 4))) (accepted h23)
      ∷ look seen4 4294967295 (key_of 0 0) (accepted (presence (presence_of (key_of 0 0) (value_of 4) (step false h22 ∷ [])))) (accepted (present (value_of 4))) (accepted h23)
      ∷ look seen4 4294967295 (key_of 0 1) (accepted (absence_of (key_of 0 1) (some (presence_of (key_of 0 0) (value_of 4) (step false h22 ∷ []))) (some (presence_of (key_of 144 0) (value_of 2) (step true h21 ∷ []))))) (accepted absent) (accepted h23)
      ∷ look seen4 4294967295 (key_of 0 0) (accepted (presence (presence_of (key_of 0 0) (value_of 4) (step false h22 ∷ [])))) (accepted (present (value_of 4))) (accepted h23)
      ∷ look seen5 7 (key_of 254 0) (accepted (presence (presence_of (key_of 254 0) (value_of 1) ([])))) (accepted (present (value_of 1))) (accepted h24)
      ∷ look seen5 7 (key_of 192 0) (accepted (absence_of (key_of 192 0) none (some (presence_of (key_of 254 0) (value_of 1) ([]))))) (accepted absent) (accepted h24)
      ∷ look seen5 7 (key_of 192 0) (accepted (absence_of (key_of 192 0) none (some (presence_of (key_of 254 0) (value_of 1) ([]))))) (accepted absent) (accepted h24)
      ∷ look seen5 7 (key_of 192 0) (accepted (absence_of (key_of 192 0) none (some (presence_of (key_of 254 0) (value_of 1) ([]))))) (accepted absent) (accepted h24)
      ∷ look seen6 12 (key_of 96 0) (accepted (absence_of (key_of 96 0) none (some (presence_of (key_of 128 0) (value_of 3) ([]))))) (accepted absent) (accepted h25)
      ∷ look seen6 12 (key_of 254 0) (accepted (absence_of (key_of 254 0) (some (presence_of (key_of 128 0) (value_of 3) ([]))) none)) (accepted absent) (accepted h25)
      ∷ look seen6 12 (key_of 96 0) (accepted (absence_of (key_of 96 0) none (some (presence_of (key_of 128 0) (value_of 3) ([]))))) (accepted absent) (accepted h25)
      ∷ look seen6 12 (key_of 128 0) (accepted (presence (presence_of (key_of 128 0) (value_of 3) ([])))) (accepted (present (value_of 3))) (accepted h25)
      ∷ look seen7 12 (key_of 144 0) (refused 14) (accepted absent) (accepted zeros)
      ∷ look seen7 12 (key_of 96 1) (refused 14) (accepted absent) (accepted zeros)
      ∷ look seen7 13 (key_of 254 1) (refused 8) (refused 8) (refused 8)
      ∷ look seen7 12 (key_of 96 0) (refused 14) (accepted absent) (accepted zeros)
      ∷ look seen8 8 (key_of 64 0) (accepted (absence_of (key_of 64 0) none (some (presence_of (key_of 144 0) (value_of 1) (step false h27 ∷ step true zeros ∷ []))))) (accepted absent) (accepted h29)
      ∷ look seen8 8 (key_of 96 0) (accepted (absence_of (key_of 96 0) none (some (presence_of (key_of 144 0) (value_of 1) (step false h27 ∷ step true zeros ∷ []))))) (accepted absent) (accepted h29)
      ∷ look seen8 8 (key_of 254 0) (accepted (absence_of (key_of 254 0) (some (presence_of (key_of 144 0) (value_of 1) (step false h27 ∷ step true zeros ∷ []))) (some (presence_of (key_of 255 0) (value_of 2) (step true h26 ∷ step true zeros ∷ []))))) (accepted absent) (accepted h29)
      ∷ look seen8 9 (key_of 64 0) (refused 8) (refused 8) (refused 8)
      ∷ look seen9 3 (key_of 64 0) (refused 34359738371) (refused 34359738371) (refused 34359738371)
      ∷ look seen9 3 (key_of 8 1) (refused 34359738371) (refused 34359738371) (refused 34359738371)
      ∷ look seen9 3 (key_of 128 0) (refused 34359738371) (refused 34359738371) (refused 34359738371)
      ∷ look seen9 3 (key_of 254 0) (refused 34359738371) (refused 34359738371) (refused 34359738371)
      ∷ look seen10 10 (key_of 254 0) (accepted (presence (presence_of (key_of 254 0) (value_of 2) (step true h25 ∷ step true h33 ∷ [])))) (accepted (present (value_of 2))) (accepted h36)
      ∷ look seen10 10 (key_of 96 0) (accepted (presence (presence_of (key_of 96 0) (value_of 1) (step false h35 ∷ [])))) (accepted (present (value_of 1))) (accepted h36)
      ∷ look seen10 7 (key_of 128 0) (accepted (presence (presence_of (key_of 128 0) (value_of 3) (step true h33 ∷ [])))) (accepted (present (value_of 3))) (accepted h37)
      ∷ look seen10 3 (key_of 128 0) (refused 14) (accepted absent) (accepted zeros)
      ∷ look seen11 1 (key_of 144 1) (accepted (absence_of (key_of 144 1) (some (presence_of (key_of 16 0) (value_of 1) ([]))) none)) (accepted absent) (accepted h10)
      ∷ look seen11 7 (key_of 104 0) (accepted (absence_of (key_of 104 0) (some (presence_of (key_of 16 0) (value_of 1) (step true h38 ∷ step false zeros ∷ step false zeros ∷ step false zeros ∷ []))) none)) (accepted absent) (accepted h46)
      ∷ look seen11 0 (key_of 254 0) (refused 14) (accepted absent) (accepted zeros)
      ∷ look seen11 7 (key_of 144 0) (accepted (absence_of (key_of 144 0) (some (presence_of (key_of 16 0) (value_of 1) (step true h38 ∷ step false zeros ∷ step false zeros ∷ step false zeros ∷ []))) none)) (accepted absent) (accepted h46)
      ∷ look seen12 10 (key_of 104 0) (refused 14) (accepted absent) (accepted zeros)
      ∷ look seen12 14 (key_of 16 0) (refused 14) (accepted absent) (accepted zeros)
      ∷ look seen12 14 (key_of 144 0) (refused 14) (accepted absent) (accepted zeros)
      ∷ look seen12 14 (key_of 144 0) (refused 14) (accepted absent) (accepted zeros)
      ∷ look seen13 10 (key_of 255 0) (refused 14) (accepted absent) (accepted zeros)
      ∷ look seen13 10 (key_of 255 0) (refused 14) (accepted absent) (accepted zeros)
      ∷ look seen13 5 (key_of 255 0) (accepted (absence_of (key_of 255 0) (some (presence_of (key_of 8 0) (value_of 1) ([]))) none)) (accepted absent) (accepted h47)
      ∷ look seen13 7 (key_of 8 0) (accepted (presence (presence_of (key_of 8 0) (value_of 1) ([])))) (accepted (present (value_of 1))) (accepted h47)
      ∷ look seen14 22 (key_of 64 1) (accepted (absence_of (key_of 64 1) none (some (presence_of (key_of 96 0) (value_of 1) (step false h19 ∷ []))))) (accepted absent) (accepted h49)
      ∷ look seen14 22 (key_of 144 0) (accepted (presence (presence_of (key_of 144 0) (value_of 3) (step true h33 ∷ [])))) (accepted (present (value_of 3))) (accepted h49)
      ∷ look seen14 22 (key_of 96 0) (accepted (presence (presence_of (key_of 96 0) (value_of 1) (step false h19 ∷ [])))) (accepted (present (value_of 1))) (accepted h49)
      ∷ look seen14 17 (key_of 96 0) (accepted (presence (presence_of (key_of 96 0) (value_of 4) (step false h19 ∷ [])))) (accepted (present (value_of 4))) (accepted h50)
      ∷ look seen15 4 (key_of 192 0) (accepted (presence (presence_of (key_of 192 0) (value_of 1) (step true h51 ∷ [])))) (accepted (present (value_of 1))) (accepted h53)
      ∷ look seen15 1 (key_of 16 0) (refused 14) (accepted absent) (accepted zeros)
      ∷ look seen15 5 (key_of 104 0) (refused 8) (refused 8) (refused 8)
      ∷ look seen15 0 (key_of 104 0) (refused 14) (accepted absent) (accepted zeros)
      ∷ look seen16 0 (key_of 8 0) (refused 14) (accepted absent) (accepted zeros)
      ∷ look seen16 0 (key_of 254 0) (refused 14) (accepted absent) (accepted zeros)
      ∷ look seen16 2 (key_of 8 0) (accepted (presence (presence_of (key_of 8 0) (value_of 3) (step false h25 ∷ [])))) (accepted (present (value_of 3))) (accepted h56)
      ∷ look seen16 5 (key_of 8 0) (refused 14) (accepted absent) (accepted zeros)
      ∷ look seen17 10 (key_of 192 0) (accepted (presence (presence_of (key_of 192 0) (value_of 1) ([])))) (accepted (present (value_of 1))) (accepted h52)
      ∷ look seen17 10 (key_of 192 0) (accepted (presence (presence_of (key_of 192 0) (value_of 1) ([])))) (accepted (present (value_of 1))) (accepted h52)
      ∷ look seen17 11 (key_of 0 0) (refused 8) (refused 8) (refused 8)
      ∷ look seen17 9 (key_of 192 0) (accepted (presence (presence_of (key_of 192 0) (value_of 1) ([])))) (accepted (present (value_of 1))) (accepted h52)
      ∷ look seen18 0 (key_of 0 1) (refused 14) (accepted absent) (accepted zeros)
      ∷ look seen18 0 (key_of 254 0) (refused 14) (accepted absent) (accepted zeros)
      ∷ look seen18 0 (key_of 16 0) (refused 14) (accepted absent) (accepted zeros)
      ∷ look seen18 0 (key_of 16 0) (refused 14) (accepted absent) (accepted zeros)
      ∷ look seen19 4294967295 (key_of 96 0) (refused 14) (accepted absent) (accepted zeros)
      ∷ look seen19 4294967295 (key_of 255 0) (refused 14) (accepted absent) (accepted zeros)
      ∷ look seen19 4294967295 (key_of 255 0) (refused 14) (accepted absent) (accepted zeros)
      ∷ look seen19 4294967295 (key_of 16 0) (refused 14) (accepted absent) (accepted zeros)
      ∷ look seen20 3 (key_of 0 1) (accepted (absence_of (key_of 0 1) none (some (presence_of (key_of 8 0) (value_of 3) (step false h22 ∷ []))))) (accepted absent) (accepted h58)
      ∷ look seen20 5 (key_of 8 0) (refused 8) (refused 8) (refused 8)
      ∷ look seen20 4 (key_of 144 0) (accepted (presence (presence_of (key_of 144 0) (value_of 2) (step true h57 ∷ [])))) (accepted (present (value_of 2))) (accepted h59)
      ∷ look seen20 3 (key_of 96 1) (accepted (absence_of (key_of 96 1) (some (presence_of (key_of 8 0) (value_of 3) (step false h22 ∷ []))) (some (presence_of (key_of 144 0) (value_of 2) (step true h54 ∷ []))))) (accepted absent) (accepted h58)
      ∷ look seen21 2 (key_of 128 0) (refused 4294967299) (refused 4294967299) (refused 4294967299)
      ∷ look seen21 1 (key_of 104 0) (refused 14) (accepted absent) (accepted zeros)
      ∷ look seen21 2 (key_of 16 0) (refused 4294967299) (refused 4294967299) (refused 4294967299)
      ∷ look seen21 1 (key_of 16 0) (refused 14) (accepted absent) (accepted zeros)
      ∷ look seen22 10 (key_of 8 0) (accepted (presence (presence_of (key_of 8 0) (value_of 1) (step false h61 ∷ step false zeros ∷ [])))) (accepted (present (value_of 1))) (accepted h63)
      ∷ look seen22 10 (key_of 104 0) (accepted (presence (presence_of (key_of 104 0) (value_of 4) (step true h47 ∷ step false zeros ∷ [])))) (accepted (present (value_of 4))) (accepted h63)
      ∷ look seen22 1 (key_of 144 1) (refused 8) (refused 8) (refused 8)
      ∷ look seen22 3 (key_of 192 0) (accepted (absence_of (key_of 192 0) (some (presence_of (key_of 104 0) (value_of 2) ([]))) none)) (accepted absent) (accepted h51)
      ∷ look seen23 6 (key_of 144 0) (accepted (presence (presence_of (key_of 144 0) (value_of 2) ([])))) (accepted (present (value_of 2))) (accepted h22)
      ∷ look seen23 0 (key_of 144 0) (refused 14) (accepted absent) (accepted zeros)
      ∷ look seen23 4 (key_of 16 0) (refused 14) (accepted absent) (accepted zeros)
      ∷ look seen23 10 (key_of 16 1) (refused 3) (accepted absent) (accepted h64)
      ∷ look seen24 13 (key_of 144 0) (accepted (absence_of (key_of 144 0) none (some (presence_of (key_of 254 0) (value_of 2) ([]))))) (accepted absent) (accepted h34)
      ∷ look seen24 13 (key_of 192 0) (accepted (absence_of (key_of 192 0) none (some (presence_of (key_of 254 0) (value_of 2) ([]))))) (accepted absent) (accepted h34)
      ∷ look seen24 13 (key_of 144 0) (accepted (absence_of (key_of 144 0) none (some (presence_of (key_of 254 0) (value_of 2) ([]))))) (accepted absent) (accepted h34)
      ∷ look seen24 14 (key_of 192 0) (refused 8) (refused 8) (refused 8)
      ∷ look seen25 1 (key_of 16 0) (refused 17) (accepted absent) (accepted h68)
      ∷ look seen25 1 (key_of 128 0) (refused 17) (refused 17) (accepted h68)
      ∷ look seen25 0 (key_of 128 0) (refused 8) (refused 8) (refused 8)
      ∷ look seen25 0 (key_of 144 0) (refused 8) (refused 8) (refused 8)
      ∷ look seen26 9 (key_of 8 1) (accepted (absence_of (key_of 8 1) (some (presence_of (key_of 0 0) (value_of 1) ([]))) none)) (accepted absent) (accepted h69)
      ∷ look seen26 9 (key_of 128 0) (accepted (absence_of (key_of 128 0) (some (presence_of (key_of 0 0) (value_of 1) ([]))) none)) (accepted absent) (accepted h69)
      ∷ look seen26 9 (key_of 128 0) (accepted (absence_of (key_of 128 0) (some (presence_of (key_of 0 0) (value_of 1) ([]))) none)) (accepted absent) (accepted h69)
      ∷ look seen26 5 (key_of 128 0) (accepted (absence_of (key_of 128 0) (some (presence_of (key_of 0 0) (value_of 1) ([]))) none)) (accepted absent) (accepted h69)
      ∷ look seen27 5 (key_of 255 0) (accepted (absence_of (key_of 255 0) (some (presence_of (key_of 64 0) (value_of 3) ([]))) none)) (accepted absent) (accepted h70)
      ∷ look seen27 9 (key_of 64 0) (accepted (presence (presence_of (key_of 64 0) (value_of 1) ([])))) (accepted (present (value_of 1))) (accepted h13)
      ∷ look seen27 10 (key_of 255 0) (accepted (absence_of (key_of 255 0) (some (presence_of (key_of 192 0) (value_of 2) (step true h13 ∷ []))) none)) (accepted absent) (accepted h71)
      ∷ look seen27 2 (key_of 255 0) (accepted (presence (presence_of (key_of 255 0) (value_of 2) (step true h70 ∷ [])))) (accepted (present (value_of 2))) (accepted h72)
      ∷ look seen28 3 (key_of 128 0) (accepted (presence (presence_of (key_of 128 0) (value_of 2) (step true h39 ∷ [])))) (accepted (present (value_of 2))) (accepted h74)
      ∷ look seen28 0 (key_of 192 0) (refused 14) (accepted absent) (accepted zeros)
      ∷ look seen28 0 (key_of 16 0) (refused 14) (accepted absent) (accepted zeros)
      ∷ look seen28 3 (key_of 0 0) (accepted (absence_of (key_of 0 0) none (some (presence_of (key_of 16 0) (value_of 4) (step false h73 ∷ []))))) (accepted absent) (accepted h74)
      ∷ look seen29 8 (key_of 192 0) (refused 17) (refused 17) (accepted h78)
      ∷ look seen29 9 (key_of 192 0) (accepted (presence (presence_of (key_of 192 0) (value_of 4) (step true h55 ∷ step true h10 ∷ [])))) (accepted (present (value_of 4))) (accepted h79)
      ∷ look seen29 9 (key_of 16 0) (accepted (presence (presence_of (key_of 16 0) (value_of 1) (step false h77 ∷ [])))) (accepted (present (value_of 1))) (accepted h79)
      ∷ look seen29 8 (key_of 192 0) (refused 17) (refused 17) (accepted h78)
      ∷ []

  pub looks3 : All (LookHolds leaf_hash inner_hash) rows
  unfolding computed
  looks3 = ((refl, refl, refl), ((refl, refl, refl), ((refl, refl, refl), ((refl, refl, refl), ((refl, refl, refl), ((refl, refl, refl), ((refl, refl, refl), ((refl, refl, refl), ((refl, refl, refl), ((refl, refl, refl), ((refl, refl, refl), ((refl, refl, refl), ((refl, refl, refl), ((refl, refl, refl), ((refl, refl, refl), ((refl, refl, refl), ((refl, refl, refl), ((refl, refl, refl), ((refl, refl, refl), ((refl, refl, refl), ((refl, refl, refl), ((refl, refl, refl), ((refl, refl, refl), ((refl, refl, refl), ((refl, refl, refl), ((refl, refl, refl), ((refl, refl, refl), ((refl, refl, refl), ((refl, refl, refl), ((refl, refl, refl), ((refl, refl, refl), ((refl, refl, refl), ((refl, refl, refl), ((refl, refl, refl), ((refl, refl, refl), ((refl, refl, refl), ((refl, refl, refl), ((refl, refl, refl), ((refl, refl, refl), ((refl, refl, refl), ((refl, refl, refl), ((refl, refl, refl), ((refl, refl, refl), ((refl, refl, refl), ((refl, refl, refl), ((refl, refl, refl), ((refl, refl, refl), ((refl, refl, refl), ((refl, refl, refl), ((refl, refl, refl), ((refl, refl, refl), ((refl, refl, refl), ((refl, refl, refl), ((refl, refl, refl), ((refl, refl, refl), ((refl, refl, refl), ((refl, refl, refl), ((refl, refl, refl), ((refl, refl, refl), ((refl, refl, refl), ((refl, refl, refl), ((refl, refl, refl), ((refl, refl, refl), ((refl, refl, refl), ((refl, refl, refl), ((refl, refl, refl), ((refl, refl, refl), ((refl, refl, refl), ((refl, refl, refl), ((refl, refl, refl), ((refl, refl, refl), ((refl, refl, refl), ((refl, refl, refl), ((refl, refl, refl), ((refl, refl, refl), ((refl, refl, refl), ((refl, refl, refl), ((refl, refl, refl), ((refl, refl, refl), ((refl, refl, refl), ((refl, refl, refl), ((refl, refl, refl), ((refl, refl, refl), ((refl, refl, refl), ((refl, refl, refl), ((refl, refl, refl), ((refl, refl, refl), ((refl, refl, refl), ((refl, refl, refl), ((refl, refl, refl), ((refl, refl, refl), ((refl, refl, refl), ((refl, refl, refl), ((refl, refl, refl), ((refl, refl, refl), ((refl, refl, refl), ((refl, refl, refl), ((refl, refl, refl), ((refl, refl, refl), ((refl, refl, refl), ((refl, refl, refl), ((refl, refl, refl), ((refl, refl, refl), ((refl, refl, refl), ((refl, refl, refl), ((refl, refl, refl), ((refl, refl, refl), ((refl, refl, refl), ((refl, refl, refl), ((refl, refl, refl), ((refl, refl, refl), ((refl, refl, refl), ((refl, refl, refl), ((refl, refl, refl), ((refl, refl, refl), ((refl, refl, refl), ((refl, refl, refl), ((refl, refl, refl), ((refl, refl, refl), ((refl, refl, refl), tt))))))))))))))))))))))))))))))))))))))))))))))))))))))))))))))))))))))))))))))))))))))))))))))))))))))))))))))))))))))))
