-- Proofs and reads of whole and damaged stores, part 2. Written by tests/tables/generate.py; compared with a second reading of document 01, 2026-07 and 2026-13. Assumes nothing.
use mathlib.Core.Path.{◌≡◌, refl}
use mathlib.Core.Bool.{true, false}
use mathlib.Core.List.{List, [], ◌∷◌}
use mathlib.Core.Option.{none, some}
use Rattle.terms.specs.Bits.{Bytes, All}
use Rattle.terms.specs.Records.{insert, delete, free, Store, presence, zeros}
use Rattle.meaning.specs.Computed.{computed}
use Rattle.meaning.specs.Calls.{refused, accepted}
use Rattle.meaning.specs.Desk.{key_of}
use Rattle.meaning.specs.Proving.{step, presence_of, absence_of}
use Rattle.meaning.specs.Reading.{present, absent}
use Rattle.tables.specs.Tables.{Look, look, LookHolds, leaf_slot, inner_slot, spoilt_slot, store_of, free_slots, value_of}

module _ (leaf_hash inner_hash : Bytes → Bytes → Bytes) where
  abbrev h0 : Bytes
  h0 = leaf_hash (key_of 104 0) (value_of 2)

  abbrev h1 : Bytes
  h1 = leaf_hash (key_of 64 0) (value_of 1)

  abbrev h2 : Bytes
  h2 = leaf_hash (key_of 255 0) (value_of 3)

  abbrev h3 : Bytes
  h3 = inner_hash h1 h2

  abbrev h4 : Bytes
  h4 = leaf_hash (key_of 128 0) (value_of 2)

  abbrev h5 : Bytes
  h5 = leaf_hash (key_of 254 0) (value_of 2)

  abbrev h6 : Bytes
  h6 = inner_hash h4 h5

  abbrev h7 : Bytes
  h7 = inner_hash zeros h6

  abbrev h8 : Bytes
  h8 = leaf_hash (key_of 64 0) (value_of 2)

  abbrev h9 : Bytes
  h9 = leaf_hash (key_of 104 0) (value_of 3)

  abbrev h10 : Bytes
  h10 = inner_hash h8 h9

  abbrev h11 : Bytes
  h11 = inner_hash zeros h10

  abbrev h12 : Bytes
  h12 = leaf_hash (key_of 104 0) (value_of 1)

  abbrev h13 : Bytes
  h13 = leaf_hash (key_of 144 0) (value_of 4)

  abbrev h14 : Bytes
  h14 = leaf_hash (key_of 192 0) (value_of 1)

  abbrev h15 : Bytes
  h15 = inner_hash h13 h14

  abbrev h16 : Bytes
  h16 = leaf_hash (key_of 255 0) (value_of 4)

  abbrev h17 : Bytes
  h17 = leaf_hash (key_of 192 0) (value_of 4)

  abbrev h18 : Bytes
  h18 = inner_hash h13 h17

  abbrev h19 : Bytes
  h19 = inner_hash zeros h18

  abbrev h20 : Bytes
  h20 = leaf_hash (key_of 64 0) (value_of 3)

  abbrev h21 : Bytes
  h21 = inner_hash h20 h12

  abbrev h22 : Bytes
  h22 = inner_hash zeros h21

  abbrev h23 : Bytes
  h23 = inner_hash h22 h14

  abbrev h24 : Bytes
  h24 = inner_hash h20 h14

  abbrev h25 : Bytes
  h25 = leaf_hash (key_of 0 0) (value_of 3)

  abbrev h26 : Bytes
  h26 = leaf_hash (key_of 128 0) (value_of 3)

  abbrev h27 : Bytes
  h27 = inner_hash h26 h2

  abbrev h28 : Bytes
  h28 = inner_hash h25 h27

  abbrev h29 : Bytes
  h29 = leaf_hash (key_of 255 0) (value_of 1)

  abbrev h30 : Bytes
  h30 = inner_hash h8 h29

  abbrev h31 : Bytes
  h31 = leaf_hash (key_of 144 0) (value_of 3)

  abbrev h32 : Bytes
  h32 = inner_hash h31 h14

  abbrev h33 : Bytes
  h33 = inner_hash zeros h32

  abbrev h34 : Bytes
  h34 = leaf_hash (key_of 254 0) (value_of 1)

  abbrev h35 : Bytes
  h35 = leaf_hash (key_of 96 0) (value_of 3)

  abbrev h36 : Bytes
  h36 = leaf_hash (key_of 192 0) (value_of 2)

  abbrev h37 : Bytes
  h37 = leaf_hash (key_of 254 0) (value_of 4)

  abbrev h38 : Bytes
  h38 = leaf_hash (key_of 192 0) (value_of 3)

  abbrev h39 : Bytes
  h39 = inner_hash h38 h37

  abbrev h40 : Bytes
  h40 = inner_hash zeros h39

  abbrev h41 : Bytes
  h41 = inner_hash h35 h37

  abbrev h42 : Bytes
  h42 = inner_hash h35 h40

  abbrev h43 : Bytes
  h43 = leaf_hash (key_of 16 0) (value_of 4)

  abbrev h44 : Bytes
  h44 = inner_hash h43 h34

  abbrev h45 : Bytes
  h45 = leaf_hash (key_of 8 0) (value_of 4)

  abbrev h46 : Bytes
  h46 = leaf_hash (key_of 16 0) (value_of 2)

  abbrev h47 : Bytes
  h47 = inner_hash h45 h46

  abbrev h48 : Bytes
  h48 = inner_hash h47 zeros

  abbrev h49 : Bytes
  h49 = inner_hash h48 zeros

  abbrev h50 : Bytes
  h50 = inner_hash h49 zeros

  abbrev h51 : Bytes
  h51 = leaf_hash (key_of 8 0) (value_of 2)

  abbrev h52 : Bytes
  h52 = inner_hash h26 h34

  abbrev h53 : Bytes
  h53 = inner_hash h51 h52

  abbrev h54 : Bytes
  h54 = leaf_hash (key_of 254 0) (value_of 3)

  abbrev h55 : Bytes
  h55 = inner_hash h13 h54

  abbrev h56 : Bytes
  h56 = inner_hash h20 h31

  abbrev h57 : Bytes
  h57 = leaf_hash (key_of 0 0) (value_of 2)

  abbrev h58 : Bytes
  h58 = leaf_hash (key_of 0 0) (value_of 1)

  abbrev h59 : Bytes
  h59 = leaf_hash (key_of 144 0) (value_of 1)

  abbrev h60 : Bytes
  h60 = inner_hash h59 h16

  abbrev h61 : Bytes
  h61 = inner_hash zeros h60

  abbrev h62 : Bytes
  h62 = inner_hash h38 h29

  abbrev h63 : Bytes
  h63 = leaf_hash (key_of 16 0) (value_of 3)

  abbrev h64 : Bytes
  h64 = inner_hash zeros h62

  abbrev h65 : Bytes
  h65 = leaf_hash (key_of 8 0) (value_of 3)

  abbrev h66 : Bytes
  h66 = leaf_hash (key_of 128 0) (value_of 4)

  abbrev h67 : Bytes
  h67 = inner_hash h66 h34

  abbrev h68 : Bytes
  h68 = leaf_hash (key_of 0 0) (value_of 4)

  abbrev h69 : Bytes
  h69 = leaf_hash (key_of 96 0) (value_of 4)

  abbrev h70 : Bytes
  h70 = inner_hash h68 h69

  abbrev h71 : Bytes
  h71 = inner_hash h25 h69

  abbrev h72 : Bytes
  h72 = leaf_hash (key_of 96 0) (value_of 2)

  abbrev h73 : Bytes
  h73 = inner_hash h71 h17

  abbrev h74 : Bytes
  h74 = leaf_hash (key_of 64 0) (value_of 4)

  abbrev seen0 : Store
  seen0 =
      store_of 3 5
      (leaf_slot ([]) 2 4 (key_of 104 0) (value_of 2)
      ∷ leaf_slot ([]) 4 5 (key_of 104 0) (value_of 2)
      ∷ leaf_slot ([]) 5 0 (key_of 104 0) (value_of 2)
      ∷ free
      ∷ [])

  abbrev seen1 : Store
  seen1 =
      store_of 0 6
      (leaf_slot ([]) 5 6 (key_of 255 0) (value_of 3)
      ∷ leaf_slot (false ∷ []) 6 0 (key_of 64 0) (value_of 1)
      ∷ leaf_slot (true ∷ []) 6 0 (key_of 255 0) (value_of 3)
      ∷ inner_slot ([]) 6 0 2 h1 6 h2 1 1
      ∷ free
      ∷ free
      ∷ free
      ∷ free
      ∷ free
      ∷ free
      ∷ free
      ∷ free
      ∷ free
      ∷ free
      ∷ free
      ∷ free
      ∷ [])

  abbrev seen2 : Store
  seen2 =
      store_of 0 10
      (leaf_slot ([]) 2 3 (key_of 128 0) (value_of 3)
      ∷ leaf_slot ([]) 7 8 (key_of 128 0) (value_of 2)
      ∷ leaf_slot ([]) 8 9 (key_of 128 0) (value_of 2)
      ∷ leaf_slot ([]) 9 10 (key_of 128 0) (value_of 2)
      ∷ leaf_slot (true ∷ false ∷ []) 10 0 (key_of 128 0) (value_of 2)
      ∷ leaf_slot (true ∷ true ∷ []) 10 0 (key_of 254 0) (value_of 2)
      ∷ inner_slot (true ∷ []) 10 0 10 h4 10 h5 1 1
      ∷ inner_slot ([]) 10 0 0 zeros 10 h6 0 2
      ∷ free
      ∷ free
      ∷ free
      ∷ free
      ∷ free
      ∷ free
      ∷ free
      ∷ free
      ∷ [])

  abbrev seen3 : Store
  seen3 =
      store_of 0 3
      (leaf_slot (false ∷ true ∷ false ∷ []) 2 2 (key_of 64 0) (value_of 2)
      ∷ leaf_slot (false ∷ true ∷ true ∷ []) 1 2 (key_of 104 0) (value_of 3)
      ∷ inner_slot (false ∷ true ∷ []) 1 2 1 h8 1 h9 1 1
      ∷ inner_slot (false ∷ []) 1 2 0 zeros 1 h10 0 2
      ∷ inner_slot ([]) 1 2 1 h11 0 zeros 2 0
      ∷ leaf_slot ([]) 2 3 (key_of 104 0) (value_of 1)
      ∷ leaf_slot ([]) 3 0 (key_of 104 0) (value_of 1)
      ∷ free
      ∷ [])

  abbrev seen4 : Store
  seen4 =
      store_of 0 5
      (free
      ∷ free
      ∷ free
      ∷ free
      ∷ free
      ∷ free
      ∷ free
      ∷ free
      ∷ free
      ∷ free
      ∷ free
      ∷ free
      ∷ free
      ∷ free
      ∷ free
      ∷ free
      ∷ [])

  abbrev seen5 : Store
  seen5 =
      store_of 0 12
      (leaf_slot ([]) 4 5 (key_of 192 0) (value_of 1)
      ∷ spoilt_slot 2 (true ∷ false ∷ []) 5 0
      ∷ leaf_slot (true ∷ true ∷ []) 5 7 (key_of 192 0) (value_of 1)
      ∷ inner_slot (true ∷ []) 5 7 5 h13 5 h14 1 1
      ∷ inner_slot ([]) 5 7 0 zeros 5 h15 0 2
      ∷ leaf_slot (true ∷ true ∷ []) 7 12 (key_of 255 0) (value_of 4)
      ∷ inner_slot (true ∷ []) 7 12 5 h13 7 h16 1 1
      ∷ spoilt_slot 0 ([]) 7 12
      ∷ leaf_slot (true ∷ true ∷ []) 12 0 (key_of 192 0) (value_of 4)
      ∷ inner_slot (true ∷ []) 12 0 5 h13 12 h17 1 1
      ∷ inner_slot ([]) 12 0 0 zeros 12 h18 0 2
      ∷ spoilt_slot 2 (true ∷ false ∷ []) 5 0
      ∷ free
      ∷ free
      ∷ free
      ∷ free
      ∷ [])

  abbrev seen6 : Store
  seen6 =
      store_of 0 9
      (leaf_slot ([]) 1 2 (key_of 64 0) (value_of 3)
      ∷ leaf_slot (false ∷ true ∷ false ∷ []) 2 9 (key_of 64 0) (value_of 3)
      ∷ leaf_slot (false ∷ true ∷ true ∷ []) 2 9 (key_of 104 0) (value_of 1)
      ∷ inner_slot (false ∷ true ∷ []) 2 9 2 h20 2 h12 1 1
      ∷ inner_slot (false ∷ []) 2 9 0 zeros 2 h21 0 2
      ∷ inner_slot ([]) 2 3 2 h22 0 zeros 2 0
      ∷ leaf_slot (true ∷ []) 3 0 (key_of 192 0) (value_of 1)
      ∷ inner_slot ([]) 3 4 2 h22 3 h14 2 1
      ∷ inner_slot ([]) 4 9 2 h22 3 h14 2 1
      ∷ leaf_slot (false ∷ []) 9 0 (key_of 64 0) (value_of 3)
      ∷ inner_slot ([]) 9 0 9 h20 3 h14 1 1
      ∷ free
      ∷ [])

  abbrev seen7 : Store
  seen7 =
      store_of 0 11
      (leaf_slot ([]) 2 3 (key_of 0 0) (value_of 3)
      ∷ leaf_slot (false ∷ []) 3 0 (key_of 0 0) (value_of 3)
      ∷ leaf_slot (true ∷ []) 4 8 (key_of 255 0) (value_of 3)
      ∷ inner_slot ([]) 3 7 3 h25 3 h2 1 1
      ∷ inner_slot ([]) 7 8 3 h25 3 h2 1 1
      ∷ leaf_slot (true ∷ false ∷ []) 8 9 (key_of 128 0) (value_of 3)
      ∷ leaf_slot (true ∷ true ∷ []) 8 0 (key_of 255 0) (value_of 3)
      ∷ inner_slot (true ∷ []) 8 0 8 h26 8 h2 1 1
      ∷ inner_slot ([]) 8 9 3 h25 8 h27 1 2
      ∷ inner_slot ([]) 9 10 3 h25 8 h27 1 2
      ∷ inner_slot ([]) 10 11 3 h25 8 h27 1 2
      ∷ inner_slot ([]) 11 0 3 h25 8 h27 1 2
      ∷ [])

  abbrev seen8 : Store
  seen8 =
      store_of 2 4
      (leaf_slot ([]) 3 4 (key_of 104 0) (value_of 1)
      ∷ leaf_slot (false ∷ []) 4 0 (key_of 64 0) (value_of 2)
      ∷ leaf_slot (true ∷ []) 4 0 (key_of 255 0) (value_of 1)
      ∷ inner_slot ([]) 4 0 4 h8 4 h29 1 1
      ∷ free
      ∷ free
      ∷ free
      ∷ free
      ∷ free
      ∷ free
      ∷ free
      ∷ free
      ∷ [])

  abbrev seen9 : Store
  seen9 =
      store_of 3 8
      (leaf_slot ([]) 2 6 (key_of 192 0) (value_of 1)
      ∷ leaf_slot ([]) 6 7 (key_of 192 0) (value_of 1)
      ∷ leaf_slot (true ∷ false ∷ []) 7 0 (key_of 144 0) (value_of 3)
      ∷ leaf_slot (true ∷ true ∷ []) 7 0 (key_of 192 0) (value_of 1)
      ∷ inner_slot (true ∷ []) 7 0 7 h31 7 h14 1 1
      ∷ spoilt_slot 1 ([]) 7 8
      ∷ inner_slot ([]) 8 0 0 zeros 7 h32 0 2
      ∷ free
      ∷ free
      ∷ free
      ∷ free
      ∷ free
      ∷ free
      ∷ free
      ∷ free
      ∷ free
      ∷ free
      ∷ free
      ∷ free
      ∷ free
      ∷ free
      ∷ free
      ∷ free
      ∷ free
      ∷ [])

  abbrev seen10 : Store
  seen10 =
      store_of 0 12
      (leaf_slot (false ∷ []) 1 2 (key_of 104 0) (value_of 2)
      ∷ leaf_slot (true ∷ []) 1 2 (key_of 254 0) (value_of 1)
      ∷ inner_slot ([]) 1 2 1 h0 1 h34 1 1
      ∷ leaf_slot ([]) 2 3 (key_of 254 0) (value_of 1)
      ∷ leaf_slot (false ∷ []) 3 0 (key_of 96 0) (value_of 3)
      ∷ leaf_slot (true ∷ []) 3 7 (key_of 192 0) (value_of 2)
      ∷ inner_slot ([]) 3 4 3 h35 3 h36 1 1
      ∷ inner_slot ([]) 4 7 3 h35 3 h36 1 1
      ∷ leaf_slot (true ∷ []) 7 12 (key_of 254 0) (value_of 4)
      ∷ inner_slot ([]) 7 12 3 h35 7 h37 1 1
      ∷ leaf_slot (true ∷ true ∷ false ∷ []) 12 0 (key_of 192 0) (value_of 3)
      ∷ leaf_slot (true ∷ true ∷ true ∷ []) 12 0 (key_of 254 0) (value_of 4)
      ∷ inner_slot (true ∷ true ∷ []) 12 0 12 h38 12 h37 1 1
      ∷ inner_slot (true ∷ []) 12 0 0 zeros 12 h39 0 2
      ∷ inner_slot ([]) 12 0 3 h35 12 h40 1 2
      ∷ free
      ∷ [])

  abbrev seen11 : Store
  seen11 =
      store_of 4294967293 4294967295
      (leaf_slot ([]) 4294967294 4294967295 (key_of 192 0) (value_of 3)
      ∷ spoilt_slot 0 ([]) 0 0
      ∷ free
      ∷ free
      ∷ [])

  abbrev seen12 : Store
  seen12 =
      store_of 4 4
      (free
      ∷ free
      ∷ leaf_slot (false ∷ []) 4 0 (key_of 16 0) (value_of 4)
      ∷ leaf_slot (true ∷ []) 4 0 (key_of 254 0) (value_of 1)
      ∷ inner_slot ([]) 4 0 4 h43 4 h34 1 1
      ∷ free
      ∷ free
      ∷ free
      ∷ free
      ∷ free
      ∷ free
      ∷ free
      ∷ [])

  abbrev seen13 : Store
  seen13 =
      store_of 3 4
      (free
      ∷ leaf_slot (false ∷ false ∷ false ∷ true ∷ []) 2 0 (key_of 16 0) (value_of 2)
      ∷ free
      ∷ free
      ∷ free
      ∷ free
      ∷ leaf_slot (false ∷ false ∷ false ∷ false ∷ []) 3 0 (key_of 8 0) (value_of 4)
      ∷ spoilt_slot 3 (false ∷ false ∷ false ∷ []) 3 0
      ∷ inner_slot (false ∷ false ∷ []) 3 0 3 h47 0 zeros 2 0
      ∷ inner_slot (false ∷ []) 3 0 3 h48 0 zeros 2 0
      ∷ inner_slot ([]) 3 4 3 h49 0 zeros 2 0
      ∷ inner_slot ([]) 4 0 3 h49 0 zeros 2 0
      ∷ [])

  abbrev seen14 : Store
  seen14 =
      store_of 0 10
      (leaf_slot ([]) 1 2 (key_of 128 0) (value_of 3)
      ∷ leaf_slot ([]) 2 4 (key_of 128 0) (value_of 3)
      ∷ leaf_slot ([]) 4 5 (key_of 128 0) (value_of 3)
      ∷ leaf_slot (false ∷ []) 5 0 (key_of 8 0) (value_of 2)
      ∷ leaf_slot (true ∷ []) 5 6 (key_of 128 0) (value_of 3)
      ∷ inner_slot ([]) 5 6 5 h51 5 h26 1 1
      ∷ leaf_slot (true ∷ false ∷ []) 6 0 (key_of 128 0) (value_of 3)
      ∷ leaf_slot (true ∷ true ∷ []) 6 0 (key_of 254 0) (value_of 1)
      ∷ inner_slot (true ∷ []) 6 0 6 h26 6 h34 1 1
      ∷ inner_slot ([]) 6 10 5 h51 6 h52 1 2
      ∷ inner_slot ([]) 10 0 5 h51 6 h52 1 2
      ∷ free
      ∷ [])

  abbrev seen15 : Store
  seen15 =
      store_of 0 10
      (spoilt_slot 0 (false ∷ false ∷ true ∷ []) 5 9
      ∷ leaf_slot (true ∷ false ∷ []) 9 10 (key_of 144 0) (value_of 4)
      ∷ leaf_slot (true ∷ true ∷ []) 9 0 (key_of 254 0) (value_of 3)
      ∷ inner_slot (true ∷ []) 9 10 9 h13 9 h54 1 1
      ∷ inner_slot ([]) 9 10 0 zeros 9 h55 0 2
      ∷ leaf_slot (false ∷ []) 10 0 (key_of 64 0) (value_of 3)
      ∷ leaf_slot (true ∷ []) 10 0 (key_of 144 0) (value_of 3)
      ∷ inner_slot ([]) 10 0 10 h20 10 h31 1 1
      ∷ [])

  abbrev seen16 : Store
  seen16 =
      store_of 0 4
      (leaf_slot ([]) 1 2 (key_of 0 0) (value_of 2)
      ∷ leaf_slot ([]) 2 3 (key_of 254 0) (value_of 4)
      ∷ leaf_slot ([]) 3 4 (key_of 254 0) (value_of 4)
      ∷ leaf_slot ([]) 4 0 (key_of 0 0) (value_of 1)
      ∷ free
      ∷ free
      ∷ free
      ∷ free
      ∷ [])

  abbrev seen17 : Store
  seen17 =
      store_of 1 21
      (leaf_slot ([]) 17 18 (key_of 128 0) (value_of 2)
      ∷ leaf_slot ([]) 18 20 (key_of 144 0) (value_of 2)
      ∷ leaf_slot ([]) 20 21 (key_of 144 0) (value_of 2)
      ∷ free
      ∷ [])

  abbrev seen18 : Store
  seen18 =
      store_of 0 13
      (leaf_slot ([]) 2 6 (key_of 144 0) (value_of 1)
      ∷ leaf_slot ([]) 6 7 (key_of 144 0) (value_of 1)
      ∷ leaf_slot ([]) 8 13 (key_of 144 0) (value_of 1)
      ∷ leaf_slot (true ∷ false ∷ []) 13 0 (key_of 144 0) (value_of 1)
      ∷ leaf_slot (true ∷ true ∷ []) 13 0 (key_of 255 0) (value_of 4)
      ∷ inner_slot (true ∷ []) 13 0 13 h59 13 h16 1 1
      ∷ inner_slot ([]) 13 0 0 zeros 13 h60 0 2
      ∷ free
      ∷ free
      ∷ free
      ∷ free
      ∷ free
      ∷ free
      ∷ free
      ∷ free
      ∷ free
      ∷ free
      ∷ free
      ∷ free
      ∷ free
      ∷ free
      ∷ free
      ∷ free
      ∷ free
      ∷ [])

  abbrev seen19 : Store
  seen19 =
      store_of 0 14
      (leaf_slot (true ∷ true ∷ false ∷ []) 6 11 (key_of 192 0) (value_of 3)
      ∷ leaf_slot (true ∷ true ∷ true ∷ []) 6 11 (key_of 255 0) (value_of 1)
      ∷ inner_slot (true ∷ true ∷ []) 7 11 6 h38 6 h29 1 1
      ∷ spoilt_slot 1 (false ∷ []) 6 14
      ∷ inner_slot (true ∷ []) 6 11 0 zeros 6 h62 0 2
      ∷ inner_slot ([]) 6 11 6 h63 6 h64 1 2
      ∷ leaf_slot (true ∷ []) 11 14 (key_of 255 0) (value_of 1)
      ∷ inner_slot ([]) 11 14 6 h63 11 h29 1 1
      ∷ leaf_slot ([]) 14 0 (key_of 255 0) (value_of 1)
      ∷ spoilt_slot 1 (false ∷ []) 6 14
      ∷ free
      ∷ free
      ∷ free
      ∷ free
      ∷ free
      ∷ free
      ∷ [])

  abbrev seen20 : Store
  seen20 =
      store_of 0 4
      (leaf_slot ([]) 1 2 (key_of 8 0) (value_of 3)
      ∷ leaf_slot ([]) 2 3 (key_of 8 0) (value_of 3)
      ∷ leaf_slot ([]) 3 4 (key_of 8 0) (value_of 3)
      ∷ leaf_slot ([]) 4 0 (key_of 8 0) (value_of 3)
      ∷ [])

  abbrev seen21 : Store
  seen21 =
      store_of 3 9
      (spoilt_slot 0 ([]) 9 10
      ∷ spoilt_slot 0 ([]) 9 10
      ∷ free
      ∷ free
      ∷ free
      ∷ free
      ∷ free
      ∷ free
      ∷ free
      ∷ free
      ∷ free
      ∷ free
      ∷ free
      ∷ free
      ∷ free
      ∷ free
      ∷ free
      ∷ free
      ∷ free
      ∷ free
      ∷ free
      ∷ free
      ∷ free
      ∷ free
      ∷ [])

  abbrev seen22 : Store
  seen22 =
      store_of 5 7
      (leaf_slot ([]) 7 0 (key_of 254 0) (value_of 1)
      ∷ free
      ∷ free
      ∷ free
      ∷ free
      ∷ free
      ∷ free
      ∷ free
      ∷ free
      ∷ free
      ∷ free
      ∷ free
      ∷ free
      ∷ free
      ∷ free
      ∷ free
      ∷ free
      ∷ free
      ∷ free
      ∷ free
      ∷ free
      ∷ free
      ∷ free
      ∷ free
      ∷ [])

  abbrev seen23 : Store
  seen23 =
      store_of 4294967293 4294967295
      (leaf_slot ([]) 4294967295 4294967295 (key_of 254 0) (value_of 1)
      ∷ leaf_slot ([]) 4294967296 0 (key_of 254 0) (value_of 1)
      ∷ free
      ∷ free
      ∷ [])

  abbrev seen24 : Store
  seen24 =
      store_of 2 6
      (leaf_slot ([]) 6 0 (key_of 0 0) (value_of 1)
      ∷ leaf_slot ([]) 2 3 (key_of 255 0) (value_of 1)
      ∷ leaf_slot ([]) 3 4 (key_of 255 0) (value_of 1)
      ∷ leaf_slot (false ∷ []) 4 5 (key_of 0 0) (value_of 2)
      ∷ leaf_slot (true ∷ []) 4 6 (key_of 255 0) (value_of 1)
      ∷ inner_slot ([]) 4 5 4 h57 4 h29 1 1
      ∷ leaf_slot (false ∷ []) 5 6 (key_of 0 0) (value_of 1)
      ∷ inner_slot ([]) 5 6 5 h58 4 h29 1 1
      ∷ free
      ∷ free
      ∷ free
      ∷ free
      ∷ free
      ∷ free
      ∷ free
      ∷ free
      ∷ [])

  abbrev seen25 : Store
  seen25 =
      store_of 3 18
      (leaf_slot (true ∷ false ∷ []) 4 9 (key_of 128 0) (value_of 4)
      ∷ leaf_slot (true ∷ true ∷ []) 4 9 (key_of 254 0) (value_of 1)
      ∷ leaf_slot (false ∷ []) 5 14 (key_of 0 0) (value_of 3)
      ∷ inner_slot (true ∷ []) 4 9 4 h66 4 h34 1 1
      ∷ inner_slot ([]) 4 9 4 h25 4 h67 1 2
      ∷ leaf_slot (true ∷ []) 9 14 (key_of 254 0) (value_of 1)
      ∷ inner_slot ([]) 9 14 4 h25 9 h34 1 1
      ∷ leaf_slot ([]) 14 15 (key_of 254 0) (value_of 1)
      ∷ [])

  abbrev seen26 : Store
  seen26 =
      store_of 2 12
      (leaf_slot (false ∷ false ∷ []) 1 3 (key_of 0 0) (value_of 4)
      ∷ leaf_slot (false ∷ true ∷ []) 1 12 (key_of 96 0) (value_of 4)
      ∷ inner_slot (false ∷ []) 1 3 1 h68 1 h69 1 1
      ∷ leaf_slot (true ∷ []) 1 4 (key_of 192 0) (value_of 1)
      ∷ inner_slot ([]) 1 3 1 h70 1 h14 2 1
      ∷ leaf_slot (false ∷ false ∷ []) 3 12 (key_of 0 0) (value_of 3)
      ∷ inner_slot (false ∷ []) 3 12 3 h25 1 h69 1 1
      ∷ inner_slot ([]) 3 4 3 h71 1 h14 2 1
      ∷ leaf_slot (true ∷ []) 4 12 (key_of 192 0) (value_of 4)
      ∷ inner_slot ([]) 4 8 3 h71 4 h17 2 1
      ∷ inner_slot ([]) 8 12 3 h71 4 h17 2 1
      ∷ leaf_slot ([]) 12 0 (key_of 96 0) (value_of 2)
      ∷ free
      ∷ free
      ∷ free
      ∷ free
      ∷ free
      ∷ free
      ∷ free
      ∷ free
      ∷ free
      ∷ free
      ∷ free
      ∷ free
      ∷ [])

  abbrev seen27 : Store
  seen27 =
      store_of 2 8
      (leaf_slot (false ∷ false ∷ []) 8 0 (key_of 0 0) (value_of 3)
      ∷ leaf_slot (false ∷ true ∷ []) 8 0 (key_of 104 0) (value_of 1)
      ∷ inner_slot (false ∷ []) 8 0 8 h25 8 h12 1 1
      ∷ spoilt_slot 1 ([]) 8 0
      ∷ [])

  abbrev seen28 : Store
  seen28 =
      store_of 7 9
      (leaf_slot ([]) 9 0 (key_of 64 0) (value_of 4)
      ∷ leaf_slot ([]) 8 9 (key_of 64 0) (value_of 4)
      ∷ free
      ∷ free
      ∷ [])

  abbrev seen29 : Store
  seen29 =
      store_of 0 3
      (leaf_slot ([]) 2 3 (key_of 128 0) (value_of 4)
      ∷ leaf_slot (false ∷ []) 3 0 (key_of 96 0) (value_of 3)
      ∷ leaf_slot (true ∷ []) 3 0 (key_of 128 0) (value_of 4)
      ∷ inner_slot ([]) 4 0 3 h35 3 h66 1 1
      ∷ [])

  abbrev rows : List Look
  rows =
      look seen0 5 (key_of 8 0) (accepted (absence_of (key_of 8 0) none (some (presence_of (key_of 104 0) (value_of 2) ([]))))) (accepted absent) (accepted h0)
      ∷ look seen0 5 (key_of 104 0) (accepted (presence (presence_of (key_of 104 0) (value_of 2) ([])))) (accepted (present (value_of 2))) (accepted h0)
      ∷ look seen0 5 (key_of 0 0) (accepted (absence_of (key_of 0 0) none (some (presence_of (key_of 104 0) (value_of 2) ([]))))) (accepted absent) (accepted h0)
      ∷ look seen0 5 (key_of 8 0) (accepted (absence_of (key_of 8 0) none (some (presence_of (key_of 104 0) (value_of 2) ([]))))) (accepted absent) (accepted h0)
      ∷ look seen1 6 (key_of 255 0) (accepted (presence (presence_of (key_of 255 0) (value_of 3) (step true h1 ∷ [])))) (accepted (present (value_of 3))) (accepted h3)
      ∷ look seen1 0 (key_of 255 1) (refused 14) (accepted absent) (accepted zeros)
      ∷ look seen1 0 (key_of 255 0) (refused 14) (accepted absent) (accepted zeros)
      ∷ look seen1 4 (key_of 192 0) (refused 14) (accepted absent) (accepted zeros)
      ∷ look seen2 6 (key_of 254 0) (refused 14) (accepted absent) (accepted zeros)
      ∷ look seen2 10 (key_of 128 0) (accepted (presence (presence_of (key_of 128 0) (value_of 2) (step false h5 ∷ step true zeros ∷ [])))) (accepted (present (value_of 2))) (accepted h7)
      ∷ look seen2 0 (key_of 254 0) (refused 14) (accepted absent) (accepted zeros)
      ∷ look seen2 0 (key_of 254 0) (refused 14) (accepted absent) (accepted zeros)
      ∷ look seen3 3 (key_of 192 0) (accepted (absence_of (key_of 192 0) (some (presence_of (key_of 104 0) (value_of 1) ([]))) none)) (accepted absent) (accepted h12)
      ∷ look seen3 3 (key_of 128 0) (accepted (absence_of (key_of 128 0) (some (presence_of (key_of 104 0) (value_of 1) ([]))) none)) (accepted absent) (accepted h12)
      ∷ look seen3 3 (key_of 64 0) (accepted (absence_of (key_of 64 0) none (some (presence_of (key_of 104 0) (value_of 1) ([]))))) (accepted absent) (accepted h12)
      ∷ look seen3 2 (key_of 8 1) (accepted (absence_of (key_of 8 1) none (some (presence_of (key_of 104 0) (value_of 1) ([]))))) (accepted absent) (accepted h12)
      ∷ look seen4 5 (key_of 0 0) (refused 14) (accepted absent) (accepted zeros)
      ∷ look seen4 5 (key_of 192 0) (refused 14) (accepted absent) (accepted zeros)
      ∷ look seen4 5 (key_of 254 0) (refused 14) (accepted absent) (accepted zeros)
      ∷ look seen4 5 (key_of 0 0) (refused 14) (accepted absent) (accepted zeros)
      ∷ look seen5 8 (key_of 255 0) (refused 34359738371) (refused 34359738371) (refused 34359738371)
      ∷ look seen5 12 (key_of 255 0) (accepted (absence_of (key_of 255 0) (some (presence_of (key_of 192 0) (value_of 4) (step true h13 ∷ step true zeros ∷ []))) none)) (accepted absent) (accepted h19)
      ∷ look seen5 12 (key_of 255 0) (accepted (absence_of (key_of 255 0) (some (presence_of (key_of 192 0) (value_of 4) (step true h13 ∷ step true zeros ∷ []))) none)) (accepted absent) (accepted h19)
      ∷ look seen5 9 (key_of 192 0) (refused 34359738371) (refused 34359738371) (refused 34359738371)
      ∷ look seen6 8 (key_of 64 0) (accepted (presence (presence_of (key_of 64 0) (value_of 3) (step false h12 ∷ step true zeros ∷ step false h14 ∷ [])))) (accepted (present (value_of 3))) (accepted h23)
      ∷ look seen6 1 (key_of 16 0) (accepted (absence_of (key_of 16 0) none (some (presence_of (key_of 64 0) (value_of 3) ([]))))) (accepted absent) (accepted h20)
      ∷ look seen6 9 (key_of 192 0) (accepted (presence (presence_of (key_of 192 0) (value_of 1) (step true h20 ∷ [])))) (accepted (present (value_of 1))) (accepted h24)
      ∷ look seen6 3 (key_of 64 0) (accepted (presence (presence_of (key_of 64 0) (value_of 3) (step false h12 ∷ step true zeros ∷ step false h14 ∷ [])))) (accepted (present (value_of 3))) (accepted h23)
      ∷ look seen7 11 (key_of 255 0) (accepted (presence (presence_of (key_of 255 0) (value_of 3) (step true h26 ∷ step true h25 ∷ [])))) (accepted (present (value_of 3))) (accepted h28)
      ∷ look seen7 11 (key_of 255 0) (accepted (presence (presence_of (key_of 255 0) (value_of 3) (step true h26 ∷ step true h25 ∷ [])))) (accepted (present (value_of 3))) (accepted h28)
      ∷ look seen7 0 (key_of 254 0) (refused 14) (accepted absent) (accepted zeros)
      ∷ look seen7 11 (key_of 104 0) (accepted (absence_of (key_of 104 0) (some (presence_of (key_of 0 0) (value_of 3) (step false h27 ∷ []))) (some (presence_of (key_of 128 0) (value_of 3) (step false h2 ∷ step true h25 ∷ []))))) (accepted absent) (accepted h28)
      ∷ look seen8 4 (key_of 104 0) (accepted (absence_of (key_of 104 0) (some (presence_of (key_of 64 0) (value_of 2) (step false h29 ∷ []))) (some (presence_of (key_of 255 0) (value_of 1) (step true h8 ∷ []))))) (accepted absent) (accepted h30)
      ∷ look seen8 4 (key_of 64 0) (accepted (presence (presence_of (key_of 64 0) (value_of 2) (step false h29 ∷ [])))) (accepted (present (value_of 2))) (accepted h30)
      ∷ look seen8 2 (key_of 192 1) (refused 14) (accepted absent) (accepted zeros)
      ∷ look seen8 4 (key_of 254 0) (accepted (absence_of (key_of 254 0) (some (presence_of (key_of 64 0) (value_of 2) (step false h29 ∷ []))) (some (presence_of (key_of 255 0) (value_of 1) (step true h8 ∷ []))))) (accepted absent) (accepted h30)
      ∷ look seen9 3 (key_of 64 0) (accepted (absence_of (key_of 64 0) none (some (presence_of (key_of 192 0) (value_of 1) ([]))))) (accepted absent) (accepted h14)
      ∷ look seen9 7 (key_of 192 0) (refused 14) (accepted absent) (accepted zeros)
      ∷ look seen9 2 (key_of 254 0) (refused 8) (refused 8) (refused 8)
      ∷ look seen9 8 (key_of 128 0) (accepted (absence_of (key_of 128 0) none (some (presence_of (key_of 144 0) (value_of 3) (step false h14 ∷ step true zeros ∷ []))))) (accepted absent) (accepted h33)
      ∷ look seen10 8 (key_of 254 0) (accepted (presence (presence_of (key_of 254 0) (value_of 4) (step true h35 ∷ [])))) (accepted (present (value_of 4))) (accepted h41)
      ∷ look seen10 12 (key_of 104 0) (accepted (absence_of (key_of 104 0) (some (presence_of (key_of 96 0) (value_of 3) (step false h40 ∷ []))) (some (presence_of (key_of 192 0) (value_of 3) (step false h37 ∷ step true zeros ∷ step true h35 ∷ []))))) (accepted absent) (accepted h42)
      ∷ look seen10 12 (key_of 96 0) (accepted (presence (presence_of (key_of 96 0) (value_of 3) (step false h40 ∷ [])))) (accepted (present (value_of 3))) (accepted h42)
      ∷ look seen10 12 (key_of 96 0) (accepted (presence (presence_of (key_of 96 0) (value_of 3) (step false h40 ∷ [])))) (accepted (present (value_of 3))) (accepted h42)
      ∷ look seen11 4294967293 (key_of 254 1) (refused 8589934595) (refused 8589934595) (refused 8589934595)
      ∷ look seen11 4294967294 (key_of 254 0) (accepted (absence_of (key_of 254 0) (some (presence_of (key_of 192 0) (value_of 3) ([]))) none)) (accepted absent) (accepted h38)
      ∷ look seen11 4294967294 (key_of 254 0) (accepted (absence_of (key_of 254 0) (some (presence_of (key_of 192 0) (value_of 3) ([]))) none)) (accepted absent) (accepted h38)
      ∷ look seen11 4294967295 (key_of 104 0) (refused 8589934595) (refused 8589934595) (refused 8589934595)
      ∷ look seen12 4 (key_of 16 0) (accepted (presence (presence_of (key_of 16 0) (value_of 4) (step false h34 ∷ [])))) (accepted (present (value_of 4))) (accepted h44)
      ∷ look seen12 4 (key_of 192 0) (accepted (absence_of (key_of 192 0) (some (presence_of (key_of 16 0) (value_of 4) (step false h34 ∷ []))) (some (presence_of (key_of 254 0) (value_of 1) (step true h43 ∷ []))))) (accepted absent) (accepted h44)
      ∷ look seen12 4 (key_of 16 0) (accepted (presence (presence_of (key_of 16 0) (value_of 4) (step false h34 ∷ [])))) (accepted (present (value_of 4))) (accepted h44)
      ∷ look seen12 4 (key_of 16 0) (accepted (presence (presence_of (key_of 16 0) (value_of 4) (step false h34 ∷ [])))) (accepted (present (value_of 4))) (accepted h44)
      ∷ look seen13 4 (key_of 8 0) (refused 34359738371) (refused 34359738371) (accepted h50)
      ∷ look seen13 3 (key_of 16 0) (refused 34359738371) (refused 34359738371) (accepted h50)
      ∷ look seen13 3 (key_of 192 0) (refused 34359738371) (accepted absent) (accepted h50)
      ∷ look seen13 4 (key_of 8 0) (refused 34359738371) (refused 34359738371) (accepted h50)
      ∷ look seen14 10 (key_of 255 0) (accepted (absence_of (key_of 255 0) (some (presence_of (key_of 254 0) (value_of 1) (step true h26 ∷ step true h51 ∷ []))) none)) (accepted absent) (accepted h53)
      ∷ look seen14 10 (key_of 192 0) (accepted (absence_of (key_of 192 0) (some (presence_of (key_of 128 0) (value_of 3) (step false h34 ∷ step true h51 ∷ []))) (some (presence_of (key_of 254 0) (value_of 1) (step true h26 ∷ step true h51 ∷ []))))) (accepted absent) (accepted h53)
      ∷ look seen14 4 (key_of 255 0) (accepted (absence_of (key_of 255 0) (some (presence_of (key_of 128 0) (value_of 3) ([]))) none)) (accepted absent) (accepted h26)
      ∷ look seen14 10 (key_of 255 0) (accepted (absence_of (key_of 255 0) (some (presence_of (key_of 254 0) (value_of 1) (step true h26 ∷ step true h51 ∷ []))) none)) (accepted absent) (accepted h53)
      ∷ look seen15 3 (key_of 64 0) (refused 14) (accepted absent) (accepted zeros)
      ∷ look seen15 5 (key_of 64 0) (refused 14) (accepted absent) (accepted zeros)
      ∷ look seen15 10 (key_of 254 0) (accepted (absence_of (key_of 254 0) (some (presence_of (key_of 144 0) (value_of 3) (step true h20 ∷ []))) none)) (accepted absent) (accepted h56)
      ∷ look seen15 10 (key_of 144 0) (accepted (presence (presence_of (key_of 144 0) (value_of 3) (step true h20 ∷ [])))) (accepted (present (value_of 3))) (accepted h56)
      ∷ look seen16 1 (key_of 0 0) (accepted (presence (presence_of (key_of 0 0) (value_of 2) ([])))) (accepted (present (value_of 2))) (accepted h57)
      ∷ look seen16 4 (key_of 128 1) (accepted (absence_of (key_of 128 1) (some (presence_of (key_of 0 0) (value_of 1) ([]))) none)) (accepted absent) (accepted h58)
      ∷ look seen16 4 (key_of 0 0) (accepted (presence (presence_of (key_of 0 0) (value_of 1) ([])))) (accepted (present (value_of 1))) (accepted h58)
      ∷ look seen16 4 (key_of 254 0) (accepted (absence_of (key_of 254 0) (some (presence_of (key_of 0 0) (value_of 1) ([]))) none)) (accepted absent) (accepted h58)
      ∷ look seen17 21 (key_of 128 1) (refused 14) (accepted absent) (accepted zeros)
      ∷ look seen17 21 (key_of 192 0) (refused 14) (accepted absent) (accepted zeros)
      ∷ look seen17 21 (key_of 8 0) (refused 14) (accepted absent) (accepted zeros)
      ∷ look seen17 21 (key_of 16 0) (refused 14) (accepted absent) (accepted zeros)
      ∷ look seen18 8 (key_of 144 0) (accepted (presence (presence_of (key_of 144 0) (value_of 1) ([])))) (accepted (present (value_of 1))) (accepted h59)
      ∷ look seen18 6 (key_of 144 0) (accepted (presence (presence_of (key_of 144 0) (value_of 1) ([])))) (accepted (present (value_of 1))) (accepted h59)
      ∷ look seen18 13 (key_of 255 0) (accepted (presence (presence_of (key_of 255 0) (value_of 4) (step true h59 ∷ step true zeros ∷ [])))) (accepted (present (value_of 4))) (accepted h61)
      ∷ look seen18 6 (key_of 16 1) (accepted (absence_of (key_of 16 1) none (some (presence_of (key_of 144 0) (value_of 1) ([]))))) (accepted absent) (accepted h59)
      ∷ look seen19 0 (key_of 104 1) (refused 14) (accepted absent) (accepted zeros)
      ∷ look seen19 14 (key_of 255 0) (accepted (presence (presence_of (key_of 255 0) (value_of 1) ([])))) (accepted (present (value_of 1))) (accepted h29)
      ∷ look seen19 14 (key_of 16 0) (accepted (absence_of (key_of 16 0) none (some (presence_of (key_of 255 0) (value_of 1) ([]))))) (accepted absent) (accepted h29)
      ∷ look seen19 14 (key_of 255 0) (accepted (presence (presence_of (key_of 255 0) (value_of 1) ([])))) (accepted (present (value_of 1))) (accepted h29)
      ∷ look seen20 4 (key_of 8 0) (accepted (presence (presence_of (key_of 8 0) (value_of 3) ([])))) (accepted (present (value_of 3))) (accepted h65)
      ∷ look seen20 4 (key_of 64 0) (accepted (absence_of (key_of 64 0) (some (presence_of (key_of 8 0) (value_of 3) ([]))) none)) (accepted absent) (accepted h65)
      ∷ look seen20 4 (key_of 104 0) (accepted (absence_of (key_of 104 0) (some (presence_of (key_of 8 0) (value_of 3) ([]))) none)) (accepted absent) (accepted h65)
      ∷ look seen20 1 (key_of 64 0) (accepted (absence_of (key_of 64 0) (some (presence_of (key_of 8 0) (value_of 3) ([]))) none)) (accepted absent) (accepted h65)
      ∷ look seen21 9 (key_of 96 0) (refused 4294967299) (refused 4294967299) (refused 4294967299)
      ∷ look seen21 9 (key_of 254 1) (refused 4294967299) (refused 4294967299) (refused 4294967299)
      ∷ look seen21 9 (key_of 64 0) (refused 4294967299) (refused 4294967299) (refused 4294967299)
      ∷ look seen21 9 (key_of 96 0) (refused 4294967299) (refused 4294967299) (refused 4294967299)
      ∷ look seen22 7 (key_of 255 1) (accepted (absence_of (key_of 255 1) (some (presence_of (key_of 254 0) (value_of 1) ([]))) none)) (accepted absent) (accepted h34)
      ∷ look seen22 6 (key_of 104 0) (refused 14) (accepted absent) (accepted zeros)
      ∷ look seen22 6 (key_of 96 0) (refused 14) (accepted absent) (accepted zeros)
      ∷ look seen22 7 (key_of 104 1) (accepted (absence_of (key_of 104 1) none (some (presence_of (key_of 254 0) (value_of 1) ([]))))) (accepted absent) (accepted h34)
      ∷ look seen23 4294967295 (key_of 0 0) (refused 14) (accepted absent) (accepted zeros)
      ∷ look seen23 4294967293 (key_of 192 0) (refused 14) (accepted absent) (accepted zeros)
      ∷ look seen23 4294967295 (key_of 0 0) (refused 14) (accepted absent) (accepted zeros)
      ∷ look seen23 4294967295 (key_of 0 0) (refused 14) (accepted absent) (accepted zeros)
      ∷ look seen24 6 (key_of 255 0) (accepted (absence_of (key_of 255 0) (some (presence_of (key_of 0 0) (value_of 1) ([]))) none)) (accepted absent) (accepted h58)
      ∷ look seen24 6 (key_of 64 0) (accepted (absence_of (key_of 64 0) (some (presence_of (key_of 0 0) (value_of 1) ([]))) none)) (accepted absent) (accepted h58)
      ∷ look seen24 6 (key_of 64 0) (accepted (absence_of (key_of 64 0) (some (presence_of (key_of 0 0) (value_of 1) ([]))) none)) (accepted absent) (accepted h58)
      ∷ look seen24 6 (key_of 255 0) (accepted (absence_of (key_of 255 0) (some (presence_of (key_of 0 0) (value_of 1) ([]))) none)) (accepted absent) (accepted h58)
      ∷ look seen25 18 (key_of 255 0) (refused 14) (accepted absent) (accepted zeros)
      ∷ look seen25 15 (key_of 64 0) (refused 14) (accepted absent) (accepted zeros)
      ∷ look seen25 18 (key_of 254 1) (refused 14) (accepted absent) (accepted zeros)
      ∷ look seen25 19 (key_of 254 0) (refused 8) (refused 8) (refused 8)
      ∷ look seen26 13 (key_of 96 0) (refused 8) (refused 8) (refused 8)
      ∷ look seen26 12 (key_of 192 0) (accepted (absence_of (key_of 192 0) (some (presence_of (key_of 96 0) (value_of 2) ([]))) none)) (accepted absent) (accepted h72)
      ∷ look seen26 12 (key_of 96 0) (accepted (presence (presence_of (key_of 96 0) (value_of 2) ([])))) (accepted (present (value_of 2))) (accepted h72)
      ∷ look seen26 6 (key_of 128 1) (accepted (absence_of (key_of 128 1) (some (presence_of (key_of 96 0) (value_of 4) (step true h25 ∷ step false h17 ∷ []))) (some (presence_of (key_of 192 0) (value_of 4) (step true h71 ∷ []))))) (accepted absent) (accepted h73)
      ∷ look seen27 8 (key_of 144 0) (refused 14) (accepted absent) (accepted zeros)
      ∷ look seen27 8 (key_of 144 0) (refused 14) (accepted absent) (accepted zeros)
      ∷ look seen27 8 (key_of 128 0) (refused 14) (accepted absent) (accepted zeros)
      ∷ look seen27 8 (key_of 144 0) (refused 14) (accepted absent) (accepted zeros)
      ∷ look seen28 9 (key_of 64 0) (accepted (presence (presence_of (key_of 64 0) (value_of 4) ([])))) (accepted (present (value_of 4))) (accepted h74)
      ∷ look seen28 9 (key_of 8 0) (accepted (absence_of (key_of 8 0) none (some (presence_of (key_of 64 0) (value_of 4) ([]))))) (accepted absent) (accepted h74)
      ∷ look seen28 7 (key_of 128 0) (refused 14) (accepted absent) (accepted zeros)
      ∷ look seen28 7 (key_of 128 0) (refused 14) (accepted absent) (accepted zeros)
      ∷ look seen29 0 (key_of 144 0) (refused 14) (accepted absent) (accepted zeros)
      ∷ look seen29 3 (key_of 144 0) (refused 14) (accepted absent) (accepted zeros)
      ∷ look seen29 0 (key_of 16 0) (refused 14) (accepted absent) (accepted zeros)
      ∷ look seen29 2 (key_of 192 0) (accepted (absence_of (key_of 192 0) (some (presence_of (key_of 128 0) (value_of 4) ([]))) none)) (accepted absent) (accepted h66)
      ∷ []

  pub looks2 : All (LookHolds leaf_hash inner_hash) rows
  unfolding computed
  looks2 = ((refl, refl, refl), ((refl, refl, refl), ((refl, refl, refl), ((refl, refl, refl), ((refl, refl, refl), ((refl, refl, refl), ((refl, refl, refl), ((refl, refl, refl), ((refl, refl, refl), ((refl, refl, refl), ((refl, refl, refl), ((refl, refl, refl), ((refl, refl, refl), ((refl, refl, refl), ((refl, refl, refl), ((refl, refl, refl), ((refl, refl, refl), ((refl, refl, refl), ((refl, refl, refl), ((refl, refl, refl), ((refl, refl, refl), ((refl, refl, refl), ((refl, refl, refl), ((refl, refl, refl), ((refl, refl, refl), ((refl, refl, refl), ((refl, refl, refl), ((refl, refl, refl), ((refl, refl, refl), ((refl, refl, refl), ((refl, refl, refl), ((refl, refl, refl), ((refl, refl, refl), ((refl, refl, refl), ((refl, refl, refl), ((refl, refl, refl), ((refl, refl, refl), ((refl, refl, refl), ((refl, refl, refl), ((refl, refl, refl), ((refl, refl, refl), ((refl, refl, refl), ((refl, refl, refl), ((refl, refl, refl), ((refl, refl, refl), ((refl, refl, refl), ((refl, refl, refl), ((refl, refl, refl), ((refl, refl, refl), ((refl, refl, refl), ((refl, refl, refl), ((refl, refl, refl), ((refl, refl, refl), ((refl, refl, refl), ((refl, refl, refl), ((refl, refl, refl), ((refl, refl, refl), ((refl, refl, refl), ((refl, refl, refl), ((refl, refl, refl), ((refl, refl, refl), ((refl, refl, refl), ((refl, refl, refl), ((refl, refl, refl), ((refl, refl, refl), ((refl, refl, refl), ((refl, refl, refl), ((refl, refl, refl), ((refl, refl, refl), ((refl, refl, refl), ((refl, refl, refl), ((refl, refl, refl), ((refl, refl, refl), ((refl, refl, refl), ((refl, refl, refl), ((refl, refl, refl), ((refl, refl, refl), ((refl, refl, refl), ((refl, refl, refl), ((refl, refl, refl), ((refl, refl, refl), ((refl, refl, refl), ((refl, refl, refl), ((refl, refl, refl), ((refl, refl, refl), ((refl, refl, refl), ((refl, refl, refl), ((refl, refl, refl), ((refl, refl, refl), ((refl, refl, refl), ((refl, refl, refl), ((refl, refl, refl), ((refl, refl, refl), ((refl, refl, refl), ((refl, refl, refl), ((refl, refl, refl), ((refl, refl, refl), ((refl, refl, refl), ((refl, refl, refl), ((refl, refl, refl), ((refl, refl, refl), ((refl, refl, refl), ((refl, refl, refl), ((refl, refl, refl), ((refl, refl, refl), ((refl, refl, refl), ((refl, refl, refl), ((refl, refl, refl), ((refl, refl, refl), ((refl, refl, refl), ((refl, refl, refl), ((refl, refl, refl), ((refl, refl, refl), ((refl, refl, refl), ((refl, refl, refl), ((refl, refl, refl), ((refl, refl, refl), ((refl, refl, refl), ((refl, refl, refl), ((refl, refl, refl), tt))))))))))))))))))))))))))))))))))))))))))))))))))))))))))))))))))))))))))))))))))))))))))))))))))))))))))))))))))))))))
