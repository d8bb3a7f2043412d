-- Proofs and reads of whole and damaged stores, part 5. Written by tests/tables/generate.py; compared with a second reading of document 01, 2026-07 and 2026-13. Assumes nothing.
use mathlib.Core.Path.{◌≡◌, refl}
use mathlib.Core.Bool.{true, false}
use mathlib.Core.List.{List, [], ◌∷◌}
use mathlib.Core.Option.{none, some}
use Rattle.terms.specs.Bits.{Bytes, All}
use Rattle.terms.specs.Records.{insert, delete, free, Store, presence, zeros}
use Rattle.meaning.specs.Computed.{computed}
use Rattle.meaning.specs.Calls.{refused, accepted}
use Rattle.meaning.specs.Desk.{key_of}
use Rattle.meaning.specs.Proving.{step, presence_of, absence_of}
use Rattle.meaning.specs.Reading.{present, absent}
use Rattle.tables.specs.Tables.{Look, look, LookHolds, leaf_slot, inner_slot, spoilt_slot, store_of, free_slots, value_of}

module _ (leaf_hash inner_hash : Bytes → Bytes → Bytes) where
  abbrev h0 : Bytes
  h0 = leaf_hash (key_of 128 0) (value_of 3)

  abbrev h1 : Bytes
  h1 = leaf_hash (key_of 192 0) (value_of 3)

  abbrev h2 : Bytes
  h2 = inner_hash h0 h1

  abbrev h3 : Bytes
  h3 = inner_hash zeros h2

  abbrev h4 : Bytes
  h4 = leaf_hash (key_of 16 0) (value_of 2)

  abbrev h5 : Bytes
  h5 = leaf_hash (key_of 0 0) (value_of 2)

  abbrev h6 : Bytes
  h6 = leaf_hash (key_of 144 0) (value_of 3)

  abbrev h7 : Bytes
  h7 = inner_hash h5 h6

  abbrev h8 : Bytes
  h8 = leaf_hash (key_of 128 0) (value_of 1)

  abbrev h9 : Bytes
  h9 = leaf_hash (key_of 144 0) (value_of 1)

  abbrev h10 : Bytes
  h10 = inner_hash h8 h9

  abbrev h11 : Bytes
  h11 = inner_hash h10 zeros

  abbrev h12 : Bytes
  h12 = inner_hash h11 zeros

  abbrev h13 : Bytes
  h13 = leaf_hash (key_of 128 0) (value_of 2)

  abbrev h14 : Bytes
  h14 = leaf_hash (key_of 144 0) (value_of 2)

  abbrev h15 : Bytes
  h15 = inner_hash h13 h14

  abbrev h16 : Bytes
  h16 = inner_hash h15 zeros

  abbrev h17 : Bytes
  h17 = leaf_hash (key_of 8 0) (value_of 1)

  abbrev h18 : Bytes
  h18 = inner_hash h16 zeros

  abbrev h19 : Bytes
  h19 = inner_hash zeros h12

  abbrev h20 : Bytes
  h20 = inner_hash h17 h18

  abbrev h21 : Bytes
  h21 = leaf_hash (key_of 96 0) (value_of 3)

  abbrev h22 : Bytes
  h22 = leaf_hash (key_of 64 0) (value_of 4)

  abbrev h23 : Bytes
  h23 = leaf_hash (key_of 254 0) (value_of 2)

  abbrev h24 : Bytes
  h24 = leaf_hash (key_of 255 0) (value_of 4)

  abbrev h25 : Bytes
  h25 = inner_hash h23 h24

  abbrev h26 : Bytes
  h26 = inner_hash zeros h25

  abbrev h27 : Bytes
  h27 = inner_hash zeros h26

  abbrev h28 : Bytes
  h28 = inner_hash zeros h27

  abbrev h29 : Bytes
  h29 = inner_hash zeros h28

  abbrev h30 : Bytes
  h30 = inner_hash zeros h29

  abbrev h31 : Bytes
  h31 = inner_hash h9 h30

  abbrev h32 : Bytes
  h32 = inner_hash zeros h31

  abbrev h33 : Bytes
  h33 = leaf_hash (key_of 0 0) (value_of 4)

  abbrev h34 : Bytes
  h34 = leaf_hash (key_of 144 0) (value_of 4)

  abbrev h35 : Bytes
  h35 = leaf_hash (key_of 255 0) (value_of 2)

  abbrev h36 : Bytes
  h36 = leaf_hash (key_of 96 0) (value_of 1)

  abbrev h37 : Bytes
  h37 = inner_hash h11 h24

  abbrev h38 : Bytes
  h38 = inner_hash h34 h35

  abbrev h39 : Bytes
  h39 = inner_hash zeros h37

  abbrev h40 : Bytes
  h40 = inner_hash h36 h37

  abbrev h41 : Bytes
  h41 = leaf_hash (key_of 0 0) (value_of 1)

  abbrev h42 : Bytes
  h42 = leaf_hash (key_of 64 0) (value_of 2)

  abbrev h43 : Bytes
  h43 = inner_hash h41 h42

  abbrev h44 : Bytes
  h44 = leaf_hash (key_of 254 0) (value_of 4)

  abbrev h45 : Bytes
  h45 = leaf_hash (key_of 64 0) (value_of 1)

  abbrev h46 : Bytes
  h46 = inner_hash h45 h36

  abbrev h47 : Bytes
  h47 = inner_hash zeros h46

  abbrev h48 : Bytes
  h48 = inner_hash h6 h23

  abbrev h49 : Bytes
  h49 = inner_hash h47 h48

  abbrev h50 : Bytes
  h50 = inner_hash h47 h23

  abbrev h51 : Bytes
  h51 = leaf_hash (key_of 16 0) (value_of 4)

  abbrev h52 : Bytes
  h52 = leaf_hash (key_of 128 0) (value_of 4)

  abbrev h53 : Bytes
  h53 = inner_hash h52 h34

  abbrev h54 : Bytes
  h54 = inner_hash h53 zeros

  abbrev h55 : Bytes
  h55 = inner_hash h54 zeros

  abbrev h56 : Bytes
  h56 = inner_hash h51 h55

  abbrev h57 : Bytes
  h57 = inner_hash h51 h34

  abbrev h58 : Bytes
  h58 = leaf_hash (key_of 104 0) (value_of 4)

  abbrev h59 : Bytes
  h59 = leaf_hash (key_of 16 0) (value_of 3)

  abbrev h60 : Bytes
  h60 = inner_hash h59 h21

  abbrev h61 : Bytes
  h61 = inner_hash h60 zeros

  abbrev h62 : Bytes
  h62 = inner_hash h4 h34

  abbrev h63 : Bytes
  h63 = leaf_hash (key_of 8 0) (value_of 4)

  abbrev h64 : Bytes
  h64 = inner_hash h63 h51

  abbrev h65 : Bytes
  h65 = inner_hash h64 zeros

  abbrev h66 : Bytes
  h66 = inner_hash h65 zeros

  abbrev h67 : Bytes
  h67 = inner_hash h63 h59

  abbrev h68 : Bytes
  h68 = inner_hash h67 zeros

  abbrev h69 : Bytes
  h69 = inner_hash h68 zeros

  abbrev h70 : Bytes
  h70 = inner_hash h69 zeros

  abbrev h71 : Bytes
  h71 = leaf_hash (key_of 254 0) (value_of 3)

  abbrev h72 : Bytes
  h72 = leaf_hash (key_of 0 0) (value_of 3)

  abbrev h73 : Bytes
  h73 = inner_hash h8 h71

  abbrev h74 : Bytes
  h74 = inner_hash h72 h73

  abbrev h75 : Bytes
  h75 = inner_hash h59 h14

  abbrev h76 : Bytes
  h76 = inner_hash h41 h71

  abbrev h77 : Bytes
  h77 = leaf_hash (key_of 255 0) (value_of 3)

  abbrev h78 : Bytes
  h78 = inner_hash h44 h77

  abbrev h79 : Bytes
  h79 = inner_hash zeros h78

  abbrev h80 : Bytes
  h80 = inner_hash zeros h79

  abbrev h81 : Bytes
  h81 = inner_hash zeros h80

  abbrev h82 : Bytes
  h82 = inner_hash zeros h81

  abbrev h83 : Bytes
  h83 = inner_hash zeros h82

  abbrev h84 : Bytes
  h84 = inner_hash zeros h83

  abbrev h85 : Bytes
  h85 = inner_hash h34 h83

  abbrev h86 : Bytes
  h86 = inner_hash zeros h84

  abbrev h87 : Bytes
  h87 = inner_hash h72 h85

  abbrev h88 : Bytes
  h88 = inner_hash h72 h13

  abbrev h89 : Bytes
  h89 = leaf_hash (key_of 96 0) (value_of 4)

  abbrev h90 : Bytes
  h90 = inner_hash h89 h8

  abbrev h91 : Bytes
  h91 = leaf_hash (key_of 104 0) (value_of 2)

  abbrev h92 : Bytes
  h92 = inner_hash h91 h2

  abbrev seen0 : Store
  seen0 =
      store_of 6 10
      (leaf_slot (true ∷ false ∷ []) 10 0 (key_of 128 0) (value_of 3)
      ∷ leaf_slot ([]) 6 10 (key_of 192 0) (value_of 4)
      ∷ leaf_slot (true ∷ true ∷ []) 10 0 (key_of 192 0) (value_of 3)
      ∷ inner_slot (true ∷ []) 10 0 10 h0 10 h1 1 1
      ∷ inner_slot ([]) 10 0 0 zeros 10 h2 0 2
      ∷ free
      ∷ free
      ∷ free
      ∷ free
      ∷ free
      ∷ free
      ∷ free
      ∷ free
      ∷ free
      ∷ free
      ∷ free
      ∷ [])

  abbrev seen1 : Store
  seen1 =
      store_of 1 1
      (leaf_slot ([]) 1 0 (key_of 16 0) (value_of 2)
      ∷ spoilt_slot 0 ([]) 1 0
      ∷ free
      ∷ free
      ∷ free
      ∷ free
      ∷ free
      ∷ free
      ∷ free
      ∷ free
      ∷ free
      ∷ free
      ∷ [])

  abbrev seen2 : Store
  seen2 =
      store_of 1 8
      (leaf_slot (false ∷ []) 8 0 (key_of 0 0) (value_of 2)
      ∷ leaf_slot (true ∷ []) 8 0 (key_of 144 0) (value_of 3)
      ∷ inner_slot ([]) 8 0 8 h5 8 h6 1 1
      ∷ free
      ∷ free
      ∷ free
      ∷ free
      ∷ free
      ∷ free
      ∷ free
      ∷ free
      ∷ free
      ∷ free
      ∷ free
      ∷ free
      ∷ free
      ∷ free
      ∷ free
      ∷ free
      ∷ free
      ∷ free
      ∷ free
      ∷ free
      ∷ free
      ∷ [])

  abbrev seen3 : Store
  seen3 =
      store_of 0 10
      (leaf_slot ([]) 6 7 (key_of 8 0) (value_of 1)
      ∷ leaf_slot ([]) 7 8 (key_of 128 0) (value_of 2)
      ∷ leaf_slot (true ∷ false ∷ false ∷ false ∷ []) 8 9 (key_of 128 0) (value_of 1)
      ∷ leaf_slot (true ∷ false ∷ false ∷ true ∷ []) 8 9 (key_of 144 0) (value_of 1)
      ∷ inner_slot (true ∷ false ∷ false ∷ []) 8 9 8 h8 8 h9 1 1
      ∷ inner_slot (true ∷ false ∷ []) 8 9 8 h10 0 zeros 2 0
      ∷ inner_slot (true ∷ []) 8 9 8 h11 0 zeros 2 0
      ∷ inner_slot ([]) 8 9 0 zeros 8 h12 0 2
      ∷ spoilt_slot 4 (true ∷ false ∷ false ∷ false ∷ []) 9 0
      ∷ leaf_slot (true ∷ false ∷ false ∷ true ∷ []) 9 0 (key_of 144 0) (value_of 2)
      ∷ inner_slot (true ∷ false ∷ false ∷ []) 9 0 9 h13 9 h14 1 1
      ∷ inner_slot (true ∷ false ∷ []) 9 0 9 h15 0 zeros 2 0
      ∷ leaf_slot (false ∷ []) 9 0 (key_of 8 0) (value_of 1)
      ∷ inner_slot (true ∷ []) 9 0 9 h16 0 zeros 2 0
      ∷ inner_slot ([]) 9 10 9 h17 9 h18 1 2
      ∷ inner_slot ([]) 10 0 9 h17 9 h18 1 2
      ∷ [])

  abbrev seen4 : Store
  seen4 =
      store_of 0 9
      (leaf_slot ([]) 3 8 (key_of 64 0) (value_of 4)
      ∷ leaf_slot ([]) 8 9 (key_of 64 0) (value_of 4)
      ∷ leaf_slot ([]) 9 0 (key_of 96 0) (value_of 3)
      ∷ free
      ∷ free
      ∷ free
      ∷ free
      ∷ free
      ∷ free
      ∷ free
      ∷ free
      ∷ free
      ∷ free
      ∷ free
      ∷ free
      ∷ free
      ∷ [])

  abbrev seen5 : Store
  seen5 =
      store_of 4294967293 4294967295
      (leaf_slot ([]) 4294967294 4294967295 (key_of 255 0) (value_of 4)
      ∷ leaf_slot (true ∷ true ∷ true ∷ true ∷ true ∷ true ∷ true ∷ false ∷ []) 4294967295 0 (key_of 254 0) (value_of 2)
      ∷ leaf_slot (true ∷ true ∷ true ∷ true ∷ true ∷ true ∷ true ∷ true ∷ []) 4294967295 0 (key_of 255 0) (value_of 4)
      ∷ inner_slot (true ∷ true ∷ true ∷ true ∷ true ∷ true ∷ true ∷ []) 4294967295 0 4294967295 h23 4294967295 h24 1 1
      ∷ inner_slot (true ∷ true ∷ true ∷ true ∷ true ∷ true ∷ []) 4294967295 0 0 zeros 4294967295 h25 0 2
      ∷ inner_slot (true ∷ true ∷ true ∷ true ∷ true ∷ []) 4294967295 0 0 zeros 4294967295 h26 0 2
      ∷ inner_slot (true ∷ true ∷ true ∷ true ∷ []) 4294967295 0 0 zeros 4294967295 h27 0 2
      ∷ inner_slot (true ∷ true ∷ true ∷ []) 4294967295 0 0 zeros 4294967295 h28 0 2
      ∷ leaf_slot (true ∷ false ∷ []) 4294967295 0 (key_of 144 0) (value_of 1)
      ∷ inner_slot (true ∷ true ∷ []) 4294967295 0 0 zeros 4294967295 h29 0 2
      ∷ inner_slot (true ∷ []) 4294967295 0 4294967295 h9 4294967295 h30 1 2
      ∷ inner_slot ([]) 4294967295 0 0 zeros 4294967295 h31 0 3
      ∷ free
      ∷ free
      ∷ free
      ∷ free
      ∷ [])

  abbrev seen6 : Store
  seen6 =
      store_of 0 7
      (leaf_slot ([]) 2 6 (key_of 0 0) (value_of 4)
      ∷ leaf_slot ([]) 6 7 (key_of 0 0) (value_of 4)
      ∷ leaf_slot ([]) 7 0 (key_of 0 0) (value_of 4)
      ∷ free
      ∷ [])

  abbrev seen7 : Store
  seen7 =
      store_of 2 12
      (leaf_slot (true ∷ false ∷ []) 1 3 (key_of 144 0) (value_of 4)
      ∷ leaf_slot (true ∷ true ∷ []) 1 3 (key_of 255 0) (value_of 2)
      ∷ inner_slot (true ∷ []) 1 3 1 h34 1 h35 1 1
      ∷ inner_slot ([]) 12 0 11 h36 6 h37 1 3
      ∷ inner_slot ([]) 2 3 0 zeros 1 h38 0 2
      ∷ leaf_slot ([]) 3 6 (key_of 144 0) (value_of 4)
      ∷ leaf_slot (true ∷ false ∷ false ∷ false ∷ []) 6 0 (key_of 128 0) (value_of 1)
      ∷ leaf_slot (true ∷ false ∷ false ∷ true ∷ []) 6 0 (key_of 144 0) (value_of 1)
      ∷ inner_slot (true ∷ false ∷ false ∷ []) 6 0 6 h8 6 h9 1 1
      ∷ inner_slot (true ∷ false ∷ []) 6 0 6 h10 0 zeros 2 0
      ∷ leaf_slot (true ∷ true ∷ []) 6 0 (key_of 255 0) (value_of 4)
      ∷ inner_slot (true ∷ []) 6 0 1 h11 6 h24 2 1
      ∷ inner_slot ([]) 6 9 0 zeros 6 h37 0 3
      ∷ inner_slot ([]) 9 10 0 zeros 6 h37 0 3
      ∷ inner_slot ([]) 10 11 0 zeros 6 h37 0 3
      ∷ leaf_slot (false ∷ []) 11 0 (key_of 96 0) (value_of 1)
      ∷ inner_slot ([]) 11 12 11 h36 6 h37 1 3
      ∷ free
      ∷ free
      ∷ free
      ∷ free
      ∷ free
      ∷ free
      ∷ free
      ∷ [])

  abbrev seen8 : Store
  seen8 =
      store_of 4 16
      (leaf_slot (false ∷ []) 8 12 (key_of 0 0) (value_of 2)
      ∷ leaf_slot ([]) 4 5 (key_of 254 0) (value_of 4)
      ∷ leaf_slot (false ∷ false ∷ []) 5 6 (key_of 0 0) (value_of 1)
      ∷ leaf_slot (false ∷ true ∷ []) 5 6 (key_of 64 0) (value_of 2)
      ∷ inner_slot (false ∷ []) 5 6 5 h41 5 h42 1 1
      ∷ leaf_slot (true ∷ []) 5 6 (key_of 254 0) (value_of 4)
      ∷ inner_slot ([]) 5 6 5 h43 5 h44 2 1
      ∷ leaf_slot ([]) 6 7 (key_of 254 0) (value_of 4)
      ∷ leaf_slot (false ∷ []) 7 8 (key_of 0 0) (value_of 1)
      ∷ leaf_slot (true ∷ []) 7 12 (key_of 254 0) (value_of 4)
      ∷ inner_slot ([]) 7 8 7 h41 7 h44 1 1
      ∷ inner_slot ([]) 8 12 8 h5 7 h44 1 1
      ∷ leaf_slot ([]) 12 16 (key_of 254 0) (value_of 4)
      ∷ leaf_slot ([]) 16 0 (key_of 254 0) (value_of 4)
      ∷ free
      ∷ free
      ∷ [])

  abbrev seen9 : Store
  seen9 =
      store_of 0 20
      (leaf_slot (false ∷ true ∷ false ∷ []) 15 0 (key_of 64 0) (value_of 1)
      ∷ leaf_slot (false ∷ true ∷ true ∷ []) 14 0 (key_of 96 0) (value_of 1)
      ∷ inner_slot (false ∷ true ∷ []) 14 0 14 h45 14 h36 1 1
      ∷ spoilt_slot 1 (false ∷ []) 14 0
      ∷ leaf_slot (true ∷ []) 14 19 (key_of 254 0) (value_of 2)
      ∷ inner_slot ([]) 14 19 14 h47 14 h23 2 1
      ∷ leaf_slot (true ∷ false ∷ []) 19 0 (key_of 144 0) (value_of 3)
      ∷ leaf_slot (true ∷ true ∷ []) 19 0 (key_of 254 0) (value_of 2)
      ∷ inner_slot (true ∷ []) 19 0 19 h6 19 h23 1 1
      ∷ inner_slot ([]) 19 20 14 h47 19 h48 2 2
      ∷ inner_slot ([]) 20 0 14 h47 19 h48 2 2
      ∷ free
      ∷ free
      ∷ free
      ∷ free
      ∷ free
      ∷ free
      ∷ free
      ∷ free
      ∷ free
      ∷ free
      ∷ free
      ∷ free
      ∷ free
      ∷ [])

  abbrev seen10 : Store
  seen10 =
      store_of 0 12
      (leaf_slot ([]) 1 2 (key_of 16 0) (value_of 4)
      ∷ leaf_slot ([]) 2 3 (key_of 16 0) (value_of 4)
      ∷ leaf_slot ([]) 3 8 (key_of 16 0) (value_of 4)
      ∷ leaf_slot (false ∷ []) 8 0 (key_of 16 0) (value_of 4)
      ∷ leaf_slot (true ∷ []) 8 11 (key_of 144 0) (value_of 4)
      ∷ inner_slot ([]) 8 11 8 h51 8 h34 1 1
      ∷ leaf_slot (true ∷ false ∷ false ∷ false ∷ []) 11 0 (key_of 128 0) (value_of 4)
      ∷ leaf_slot (true ∷ false ∷ false ∷ true ∷ []) 11 0 (key_of 144 0) (value_of 4)
      ∷ inner_slot (true ∷ false ∷ false ∷ []) 11 0 11 h52 11 h34 1 1
      ∷ inner_slot (true ∷ false ∷ []) 11 0 11 h53 0 zeros 2 0
      ∷ inner_slot (true ∷ []) 11 0 11 h54 0 zeros 2 0
      ∷ inner_slot ([]) 11 12 8 h51 11 h55 1 2
      ∷ inner_slot ([]) 12 0 8 h51 11 h55 1 2
      ∷ free
      ∷ free
      ∷ free
      ∷ [])

  abbrev seen11 : Store
  seen11 =
      store_of 0 13
      (leaf_slot ([]) 4 7 (key_of 255 0) (value_of 2)
      ∷ leaf_slot ([]) 8 12 (key_of 255 0) (value_of 2)
      ∷ leaf_slot ([]) 12 13 (key_of 255 0) (value_of 2)
      ∷ leaf_slot ([]) 13 0 (key_of 104 0) (value_of 4)
      ∷ free
      ∷ free
      ∷ free
      ∷ free
      ∷ free
      ∷ free
      ∷ free
      ∷ free
      ∷ free
      ∷ free
      ∷ free
      ∷ free
      ∷ free
      ∷ free
      ∷ free
      ∷ free
      ∷ free
      ∷ free
      ∷ free
      ∷ free
      ∷ [])

  abbrev seen12 : Store
  seen12 =
      store_of 0 12
      (leaf_slot ([]) 5 9 (key_of 104 0) (value_of 4)
      ∷ leaf_slot ([]) 9 10 (key_of 104 0) (value_of 4)
      ∷ leaf_slot ([]) 10 11 (key_of 104 0) (value_of 4)
      ∷ leaf_slot ([]) 11 12 (key_of 144 0) (value_of 3)
      ∷ leaf_slot ([]) 12 0 (key_of 0 0) (value_of 4)
      ∷ free
      ∷ free
      ∷ free
      ∷ [])

  abbrev seen13 : Store
  seen13 =
      store_of 2 2
      (free
      ∷ free
      ∷ free
      ∷ free
      ∷ [])

  abbrev seen14 : Store
  seen14 =
      store_of 4294967293 4294967295
      (free
      ∷ free
      ∷ free
      ∷ free
      ∷ free
      ∷ free
      ∷ free
      ∷ free
      ∷ free
      ∷ free
      ∷ free
      ∷ free
      ∷ free
      ∷ free
      ∷ free
      ∷ free
      ∷ [])

  abbrev seen15 : Store
  seen15 =
      store_of 0 8
      (leaf_slot ([]) 1 2 (key_of 96 0) (value_of 2)
      ∷ leaf_slot ([]) 2 3 (key_of 64 0) (value_of 4)
      ∷ leaf_slot ([]) 3 4 (key_of 64 0) (value_of 4)
      ∷ leaf_slot (false ∷ false ∷ []) 5 0 (key_of 16 0) (value_of 3)
      ∷ leaf_slot (false ∷ true ∷ []) 4 0 (key_of 96 0) (value_of 3)
      ∷ inner_slot (false ∷ []) 4 0 4 h59 4 h21 1 1
      ∷ inner_slot ([]) 4 5 4 h60 0 zeros 2 0
      ∷ inner_slot ([]) 5 8 4 h60 0 zeros 2 0
      ∷ inner_slot ([]) 8 0 4 h60 0 zeros 2 0
      ∷ free
      ∷ free
      ∷ free
      ∷ [])

  abbrev seen16 : Store
  seen16 =
      store_of 0 5
      (leaf_slot ([]) 1 5 (key_of 16 0) (value_of 2)
      ∷ leaf_slot (false ∷ []) 5 0 (key_of 16 0) (value_of 2)
      ∷ leaf_slot (true ∷ []) 5 0 (key_of 144 0) (value_of 4)
      ∷ inner_slot ([]) 5 0 5 h4 5 h34 1 1
      ∷ [])

  abbrev seen17 : Store
  seen17 =
      store_of 4 5
      (leaf_slot (false ∷ false ∷ false ∷ true ∷ []) 6 0 (key_of 16 0) (value_of 3)
      ∷ leaf_slot (false ∷ false ∷ false ∷ false ∷ []) 4 0 (key_of 8 0) (value_of 4)
      ∷ leaf_slot (false ∷ false ∷ false ∷ true ∷ []) 4 5 (key_of 16 0) (value_of 4)
      ∷ inner_slot (false ∷ false ∷ false ∷ []) 4 5 4 h63 4 h51 1 1
      ∷ inner_slot (false ∷ false ∷ []) 4 5 4 h64 0 zeros 2 0
      ∷ inner_slot (false ∷ []) 4 5 4 h65 0 zeros 2 0
      ∷ inner_slot ([]) 4 5 4 h66 0 zeros 2 0
      ∷ inner_slot (false ∷ false ∷ false ∷ []) 5 0 4 h63 5 h59 1 1
      ∷ inner_slot (false ∷ false ∷ []) 5 0 5 h67 0 zeros 2 0
      ∷ inner_slot (false ∷ []) 5 0 5 h68 0 zeros 2 0
      ∷ inner_slot ([]) 5 0 5 h69 0 zeros 2 0
      ∷ spoilt_slot 1 (false ∷ []) 4 5
      ∷ [])

  abbrev seen18 : Store
  seen18 =
      store_of 4294967293 4294967295
      (leaf_slot ([]) 4294967294 4294967295 (key_of 64 0) (value_of 3)
      ∷ free
      ∷ free
      ∷ free
      ∷ free
      ∷ free
      ∷ free
      ∷ free
      ∷ free
      ∷ free
      ∷ free
      ∷ free
      ∷ [])

  abbrev seen19 : Store
  seen19 =
      store_of 0 6
      (leaf_slot ([]) 1 2 (key_of 254 0) (value_of 3)
      ∷ leaf_slot (true ∷ false ∷ []) 2 0 (key_of 128 0) (value_of 1)
      ∷ leaf_slot (true ∷ true ∷ []) 2 0 (key_of 254 0) (value_of 3)
      ∷ leaf_slot (false ∷ []) 2 0 (key_of 0 0) (value_of 3)
      ∷ inner_slot (true ∷ []) 2 0 2 h8 2 h71 1 1
      ∷ inner_slot ([]) 2 5 2 h72 2 h73 1 2
      ∷ inner_slot ([]) 5 6 2 h72 2 h73 1 2
      ∷ inner_slot ([]) 6 0 2 h72 2 h73 1 2
      ∷ leaf_slot ([]) 2 5 (key_of 254 0) (value_of 9)
      ∷ free
      ∷ free
      ∷ free
      ∷ [])

  abbrev seen20 : Store
  seen20 =
      store_of 3 10
      (leaf_slot ([]) 8 9 (key_of 144 0) (value_of 1)
      ∷ leaf_slot ([]) 9 10 (key_of 144 0) (value_of 4)
      ∷ leaf_slot (false ∷ []) 10 0 (key_of 16 0) (value_of 3)
      ∷ leaf_slot (true ∷ []) 10 0 (key_of 144 0) (value_of 2)
      ∷ inner_slot ([]) 10 0 10 h59 10 h14 1 1
      ∷ free
      ∷ free
      ∷ free
      ∷ [])

  abbrev seen21 : Store
  seen21 =
      store_of 0 1
      (leaf_slot (false ∷ []) 1 0 (key_of 64 0) (value_of 1)
      ∷ leaf_slot (true ∷ []) 2 0 (key_of 144 0) (value_of 2)
      ∷ inner_slot ([]) 2 0 1 h45 1 h14 1 1
      ∷ free
      ∷ [])

  abbrev seen22 : Store
  seen22 =
      store_of 0 3
      (leaf_slot (false ∷ []) 2 3 (key_of 0 0) (value_of 3)
      ∷ leaf_slot (true ∷ []) 2 0 (key_of 254 0) (value_of 3)
      ∷ inner_slot ([]) 2 3 2 h72 2 h71 1 1
      ∷ leaf_slot (false ∷ []) 3 0 (key_of 0 0) (value_of 1)
      ∷ inner_slot ([]) 3 0 3 h41 2 h71 1 1
      ∷ free
      ∷ free
      ∷ free
      ∷ free
      ∷ free
      ∷ free
      ∷ free
      ∷ free
      ∷ free
      ∷ free
      ∷ free
      ∷ free
      ∷ free
      ∷ free
      ∷ free
      ∷ free
      ∷ free
      ∷ free
      ∷ free
      ∷ [])

  abbrev seen23 : Store
  seen23 =
      store_of 0 8
      (leaf_slot ([]) 1 2 (key_of 255 0) (value_of 3)
      ∷ leaf_slot ([]) 2 3 (key_of 255 0) (value_of 3)
      ∷ leaf_slot (true ∷ true ∷ true ∷ true ∷ true ∷ true ∷ true ∷ false ∷ []) 3 0 (key_of 254 0) (value_of 4)
      ∷ leaf_slot (true ∷ true ∷ true ∷ true ∷ true ∷ true ∷ true ∷ true ∷ []) 3 0 (key_of 255 0) (value_of 3)
      ∷ inner_slot (true ∷ true ∷ true ∷ true ∷ true ∷ true ∷ true ∷ []) 3 0 3 h44 3 h77 1 1
      ∷ inner_slot (true ∷ true ∷ true ∷ true ∷ true ∷ true ∷ []) 3 0 0 zeros 3 h78 0 2
      ∷ inner_slot (true ∷ true ∷ true ∷ true ∷ true ∷ []) 3 0 0 zeros 3 h79 0 2
      ∷ inner_slot (true ∷ true ∷ true ∷ true ∷ []) 3 0 0 zeros 3 h80 0 2
      ∷ inner_slot (true ∷ true ∷ true ∷ []) 3 0 0 zeros 3 h81 0 2
      ∷ inner_slot (true ∷ true ∷ []) 3 0 0 zeros 3 h82 0 2
      ∷ spoilt_slot 1 (true ∷ []) 3 8
      ∷ inner_slot ([]) 3 8 0 zeros 3 h84 0 2
      ∷ leaf_slot (true ∷ false ∷ []) 8 0 (key_of 144 0) (value_of 4)
      ∷ leaf_slot (false ∷ []) 8 0 (key_of 0 0) (value_of 3)
      ∷ inner_slot (true ∷ []) 8 0 8 h34 3 h83 1 2
      ∷ inner_slot ([]) 8 0 8 h72 8 h85 1 3
      ∷ [])

  abbrev seen24 : Store
  seen24 =
      store_of 1 1
      (leaf_slot (false ∷ []) 1 0 (key_of 0 0) (value_of 3)
      ∷ leaf_slot (true ∷ []) 1 0 (key_of 128 0) (value_of 2)
      ∷ inner_slot ([]) 1 0 1 h72 1 h13 1 1
      ∷ free
      ∷ [])

  abbrev seen25 : Store
  seen25 =
      store_of 1 1
      (spoilt_slot 0 ([]) 1 0
      ∷ free
      ∷ free
      ∷ free
      ∷ free
      ∷ free
      ∷ free
      ∷ free
      ∷ [])

  abbrev seen26 : Store
  seen26 =
      store_of 6 7
      (leaf_slot ([]) 5 7 (key_of 128 0) (value_of 1)
      ∷ leaf_slot (false ∷ []) 7 0 (key_of 96 0) (value_of 4)
      ∷ leaf_slot (true ∷ []) 7 0 (key_of 128 0) (value_of 1)
      ∷ inner_slot ([]) 7 0 7 h89 7 h8 1 1
      ∷ free
      ∷ free
      ∷ free
      ∷ free
      ∷ free
      ∷ free
      ∷ free
      ∷ free
      ∷ free
      ∷ free
      ∷ free
      ∷ free
      ∷ [])

  abbrev seen27 : Store
  seen27 =
      store_of 10 11
      (leaf_slot (true ∷ false ∷ []) 5 0 (key_of 128 0) (value_of 3)
      ∷ leaf_slot (false ∷ []) 11 0 (key_of 104 0) (value_of 2)
      ∷ inner_slot ([]) 11 12 11 h91 6 h2 1 2
      ∷ free
      ∷ leaf_slot (true ∷ true ∷ []) 6 0 (key_of 192 0) (value_of 3)
      ∷ inner_slot (true ∷ []) 6 0 5 h0 6 h1 1 1
      ∷ free
      ∷ inner_slot ([]) 10 11 0 zeros 6 h2 0 2
      ∷ free
      ∷ free
      ∷ free
      ∷ free
      ∷ free
      ∷ free
      ∷ free
      ∷ free
      ∷ [])

  abbrev seen28 : Store
  seen28 =
      store_of 0 10
      (leaf_slot ([]) 3 4 (key_of 255 0) (value_of 4)
      ∷ leaf_slot ([]) 4 5 (key_of 255 0) (value_of 3)
      ∷ leaf_slot ([]) 5 10 (key_of 255 0) (value_of 3)
      ∷ leaf_slot ([]) 10 0 (key_of 128 0) (value_of 2)
      ∷ [])

  abbrev seen29 : Store
  seen29 =
      store_of 1 4
      (leaf_slot ([]) 2 3 (key_of 8 0) (value_of 2)
      ∷ spoilt_slot 0 ([]) 2 3
      ∷ free
      ∷ free
      ∷ free
      ∷ free
      ∷ free
      ∷ free
      ∷ [])

  abbrev rows : List Look
  rows =
      look seen0 10 (key_of 144 0) (accepted (absence_of (key_of 144 0) (some (presence_of (key_of 128 0) (value_of 3) (step false h1 ∷ step true zeros ∷ []))) (some (presence_of (key_of 192 0) (value_of 3) (step true h0 ∷ step true zeros ∷ []))))) (accepted absent) (accepted h3)
      ∷ look seen0 10 (key_of 128 1) (accepted (absence_of (key_of 128 1) (some (presence_of (key_of 128 0) (value_of 3) (step false h1 ∷ step true zeros ∷ []))) (some (presence_of (key_of 192 0) (value_of 3) (step true h0 ∷ step true zeros ∷ []))))) (accepted absent) (accepted h3)
      ∷ look seen0 10 (key_of 192 0) (accepted (presence (presence_of (key_of 192 0) (value_of 3) (step true h0 ∷ step true zeros ∷ [])))) (accepted (present (value_of 3))) (accepted h3)
      ∷ look seen0 10 (key_of 64 0) (accepted (absence_of (key_of 64 0) none (some (presence_of (key_of 128 0) (value_of 3) (step false h1 ∷ step true zeros ∷ []))))) (accepted absent) (accepted h3)
      ∷ look seen1 1 (key_of 96 0) (accepted (absence_of (key_of 96 0) (some (presence_of (key_of 16 0) (value_of 2) ([]))) none)) (accepted absent) (accepted h4)
      ∷ look seen1 1 (key_of 16 0) (accepted (presence (presence_of (key_of 16 0) (value_of 2) ([])))) (accepted (present (value_of 2))) (accepted h4)
      ∷ look seen1 1 (key_of 16 0) (accepted (presence (presence_of (key_of 16 0) (value_of 2) ([])))) (accepted (present (value_of 2))) (accepted h4)
      ∷ look seen1 1 (key_of 64 1) (accepted (absence_of (key_of 64 1) (some (presence_of (key_of 16 0) (value_of 2) ([]))) none)) (accepted absent) (accepted h4)
      ∷ look seen2 8 (key_of 128 0) (accepted (absence_of (key_of 128 0) (some (presence_of (key_of 0 0) (value_of 2) (step false h6 ∷ []))) (some (presence_of (key_of 144 0) (value_of 3) (step true h5 ∷ []))))) (accepted absent) (accepted h7)
      ∷ look seen2 8 (key_of 64 1) (accepted (absence_of (key_of 64 1) (some (presence_of (key_of 0 0) (value_of 2) (step false h6 ∷ []))) (some (presence_of (key_of 144 0) (value_of 3) (step true h5 ∷ []))))) (accepted absent) (accepted h7)
      ∷ look seen2 1 (key_of 96 0) (refused 14) (accepted absent) (accepted zeros)
      ∷ look seen2 8 (key_of 0 0) (accepted (presence (presence_of (key_of 0 0) (value_of 2) (step false h6 ∷ [])))) (accepted (present (value_of 2))) (accepted h7)
      ∷ look seen3 11 (key_of 144 0) (refused 8) (refused 8) (refused 8)
      ∷ look seen3 8 (key_of 128 0) (accepted (presence (presence_of (key_of 128 0) (value_of 1) (step false h9 ∷ step false zeros ∷ step false zeros ∷ step true zeros ∷ [])))) (accepted (present (value_of 1))) (accepted h19)
      ∷ look seen3 10 (key_of 144 0) (accepted (presence (presence_of (key_of 144 0) (value_of 2) (step true h13 ∷ step false zeros ∷ step false zeros ∷ step true h17 ∷ [])))) (accepted (present (value_of 2))) (accepted h20)
      ∷ look seen3 8 (key_of 128 0) (accepted (presence (presence_of (key_of 128 0) (value_of 1) (step false h9 ∷ step false zeros ∷ step false zeros ∷ step true zeros ∷ [])))) (accepted (present (value_of 1))) (accepted h19)
      ∷ look seen4 9 (key_of 64 0) (accepted (absence_of (key_of 64 0) none (some (presence_of (key_of 96 0) (value_of 3) ([]))))) (accepted absent) (accepted h21)
      ∷ look seen4 9 (key_of 96 0) (accepted (presence (presence_of (key_of 96 0) (value_of 3) ([])))) (accepted (present (value_of 3))) (accepted h21)
      ∷ look seen4 7 (key_of 0 0) (accepted (absence_of (key_of 0 0) none (some (presence_of (key_of 64 0) (value_of 4) ([]))))) (accepted absent) (accepted h22)
      ∷ look seen4 9 (key_of 255 0) (accepted (absence_of (key_of 255 0) (some (presence_of (key_of 96 0) (value_of 3) ([]))) none)) (accepted absent) (accepted h21)
      ∷ look seen5 4294967294 (key_of 255 1) (accepted (absence_of (key_of 255 1) (some (presence_of (key_of 255 0) (value_of 4) ([]))) none)) (accepted absent) (accepted h24)
      ∷ look seen5 4294967294 (key_of 255 1) (accepted (absence_of (key_of 255 1) (some (presence_of (key_of 255 0) (value_of 4) ([]))) none)) (accepted absent) (accepted h24)
      ∷ look seen5 4294967292 (key_of 8 0) (refused 8) (refused 8) (refused 8)
      ∷ look seen5 4294967295 (key_of 255 0) (accepted (presence (presence_of (key_of 255 0) (value_of 4) (step true h23 ∷ step true zeros ∷ step true zeros ∷ step true zeros ∷ step true zeros ∷ step true zeros ∷ step true h9 ∷ step true zeros ∷ [])))) (accepted (present (value_of 4))) (accepted h32)
      ∷ look seen6 7 (key_of 64 0) (accepted (absence_of (key_of 64 0) (some (presence_of (key_of 0 0) (value_of 4) ([]))) none)) (accepted absent) (accepted h33)
      ∷ look seen6 7 (key_of 0 0) (accepted (presence (presence_of (key_of 0 0) (value_of 4) ([])))) (accepted (present (value_of 4))) (accepted h33)
      ∷ look seen6 5 (key_of 0 0) (accepted (presence (presence_of (key_of 0 0) (value_of 4) ([])))) (accepted (present (value_of 4))) (accepted h33)
      ∷ look seen6 6 (key_of 0 0) (accepted (presence (presence_of (key_of 0 0) (value_of 4) ([])))) (accepted (present (value_of 4))) (accepted h33)
      ∷ look seen7 9 (key_of 64 1) (accepted (absence_of (key_of 64 1) none (some (presence_of (key_of 144 0) (value_of 4) (step false h24 ∷ step true zeros ∷ []))))) (accepted absent) (accepted h39)
      ∷ look seen7 3 (key_of 255 0) (accepted (absence_of (key_of 255 0) (some (presence_of (key_of 144 0) (value_of 4) ([]))) none)) (accepted absent) (accepted h34)
      ∷ look seen7 12 (key_of 192 0) (accepted (absence_of (key_of 192 0) (some (presence_of (key_of 144 0) (value_of 4) (step false h24 ∷ step true h36 ∷ []))) (some (presence_of (key_of 255 0) (value_of 4) (step true h11 ∷ step true h36 ∷ []))))) (accepted absent) (accepted h40)
      ∷ look seen7 6 (key_of 96 0) (accepted (absence_of (key_of 96 0) none (some (presence_of (key_of 144 0) (value_of 4) (step false h24 ∷ step true zeros ∷ []))))) (accepted absent) (accepted h39)
      ∷ look seen8 16 (key_of 254 0) (accepted (presence (presence_of (key_of 254 0) (value_of 4) ([])))) (accepted (present (value_of 4))) (accepted h44)
      ∷ look seen8 16 (key_of 192 1) (accepted (absence_of (key_of 192 1) none (some (presence_of (key_of 254 0) (value_of 4) ([]))))) (accepted absent) (accepted h44)
      ∷ look seen8 16 (key_of 0 0) (accepted (absence_of (key_of 0 0) none (some (presence_of (key_of 254 0) (value_of 4) ([]))))) (accepted absent) (accepted h44)
      ∷ look seen8 16 (key_of 254 0) (accepted (presence (presence_of (key_of 254 0) (value_of 4) ([])))) (accepted (present (value_of 4))) (accepted h44)
      ∷ look seen9 20 (key_of 144 0) (accepted (presence (presence_of (key_of 144 0) (value_of 3) (step false h23 ∷ step true h47 ∷ [])))) (accepted (present (value_of 3))) (accepted h49)
      ∷ look seen9 16 (key_of 144 0) (refused 17179869187) (accepted absent) (accepted h50)
      ∷ look seen9 20 (key_of 16 0) (refused 17179869187) (refused 17179869187) (accepted h49)
      ∷ look seen9 20 (key_of 96 0) (refused 17179869187) (refused 17179869187) (accepted h49)
      ∷ look seen10 4 (key_of 16 0) (accepted (presence (presence_of (key_of 16 0) (value_of 4) ([])))) (accepted (present (value_of 4))) (accepted h51)
      ∷ look seen10 12 (key_of 255 0) (accepted (absence_of (key_of 255 0) (some (presence_of (key_of 144 0) (value_of 4) (step true h52 ∷ step false zeros ∷ step false zeros ∷ step true h51 ∷ []))) none)) (accepted absent) (accepted h56)
      ∷ look seen10 0 (key_of 104 0) (refused 14) (accepted absent) (accepted zeros)
      ∷ look seen10 10 (key_of 16 0) (accepted (presence (presence_of (key_of 16 0) (value_of 4) (step false h34 ∷ [])))) (accepted (present (value_of 4))) (accepted h57)
      ∷ look seen11 6 (key_of 104 0) (accepted (absence_of (key_of 104 0) none (some (presence_of (key_of 255 0) (value_of 2) ([]))))) (accepted absent) (accepted h35)
      ∷ look seen11 13 (key_of 255 0) (accepted (absence_of (key_of 255 0) (some (presence_of (key_of 104 0) (value_of 4) ([]))) none)) (accepted absent) (accepted h58)
      ∷ look seen11 13 (key_of 255 0) (accepted (absence_of (key_of 255 0) (some (presence_of (key_of 104 0) (value_of 4) ([]))) none)) (accepted absent) (accepted h58)
      ∷ look seen11 13 (key_of 255 0) (accepted (absence_of (key_of 255 0) (some (presence_of (key_of 104 0) (value_of 4) ([]))) none)) (accepted absent) (accepted h58)
      ∷ look seen12 12 (key_of 254 0) (accepted (absence_of (key_of 254 0) (some (presence_of (key_of 0 0) (value_of 4) ([]))) none)) (accepted absent) (accepted h33)
      ∷ look seen12 12 (key_of 104 0) (accepted (absence_of (key_of 104 0) (some (presence_of (key_of 0 0) (value_of 4) ([]))) none)) (accepted absent) (accepted h33)
      ∷ look seen12 13 (key_of 104 0) (refused 8) (refused 8) (refused 8)
      ∷ look seen12 12 (key_of 96 0) (accepted (absence_of (key_of 96 0) (some (presence_of (key_of 0 0) (value_of 4) ([]))) none)) (accepted absent) (accepted h33)
      ∷ look seen13 3 (key_of 0 0) (refused 8) (refused 8) (refused 8)
      ∷ look seen13 3 (key_of 144 0) (refused 8) (refused 8) (refused 8)
      ∷ look seen13 2 (key_of 144 0) (refused 14) (accepted absent) (accepted zeros)
      ∷ look seen13 2 (key_of 144 0) (refused 14) (accepted absent) (accepted zeros)
      ∷ look seen14 4294967295 (key_of 16 1) (refused 14) (accepted absent) (accepted zeros)
      ∷ look seen14 4294967295 (key_of 64 0) (refused 14) (accepted absent) (accepted zeros)
      ∷ look seen14 4294967295 (key_of 0 0) (refused 14) (accepted absent) (accepted zeros)
      ∷ look seen14 4294967295 (key_of 128 1) (refused 14) (accepted absent) (accepted zeros)
      ∷ look seen15 8 (key_of 104 0) (accepted (absence_of (key_of 104 0) (some (presence_of (key_of 96 0) (value_of 3) (step true h59 ∷ step false zeros ∷ []))) none)) (accepted absent) (accepted h61)
      ∷ look seen15 5 (key_of 16 0) (refused 17) (refused 17) (accepted h61)
      ∷ look seen15 9 (key_of 64 0) (refused 8) (refused 8) (refused 8)
      ∷ look seen15 8 (key_of 255 0) (accepted (absence_of (key_of 255 0) (some (presence_of (key_of 96 0) (value_of 3) (step true h59 ∷ step false zeros ∷ []))) none)) (accepted absent) (accepted h61)
      ∷ look seen16 2 (key_of 254 0) (accepted (absence_of (key_of 254 0) (some (presence_of (key_of 16 0) (value_of 2) ([]))) none)) (accepted absent) (accepted h4)
      ∷ look seen16 0 (key_of 144 0) (refused 14) (accepted absent) (accepted zeros)
      ∷ look seen16 5 (key_of 254 0) (accepted (absence_of (key_of 254 0) (some (presence_of (key_of 144 0) (value_of 4) (step true h4 ∷ []))) none)) (accepted absent) (accepted h62)
      ∷ look seen16 5 (key_of 104 0) (accepted (absence_of (key_of 104 0) (some (presence_of (key_of 16 0) (value_of 2) (step false h34 ∷ []))) (some (presence_of (key_of 144 0) (value_of 4) (step true h4 ∷ []))))) (accepted absent) (accepted h62)
      ∷ look seen17 5 (key_of 8 0) (accepted (presence (presence_of (key_of 8 0) (value_of 4) (step false h59 ∷ step false zeros ∷ step false zeros ∷ step false zeros ∷ [])))) (accepted (present (value_of 4))) (accepted h70)
      ∷ look seen17 5 (key_of 8 0) (accepted (presence (presence_of (key_of 8 0) (value_of 4) (step false h59 ∷ step false zeros ∷ step false zeros ∷ step false zeros ∷ [])))) (accepted (present (value_of 4))) (accepted h70)
      ∷ look seen17 5 (key_of 16 0) (refused 17) (refused 17) (accepted h70)
      ∷ look seen17 6 (key_of 16 0) (refused 8) (refused 8) (refused 8)
      ∷ look seen18 4294967295 (key_of 16 0) (refused 14) (accepted absent) (accepted zeros)
      ∷ look seen18 4294967295 (key_of 16 0) (refused 14) (accepted absent) (accepted zeros)
      ∷ look seen18 4294967296 (key_of 16 0) (refused 8) (refused 8) (refused 8)
      ∷ look seen18 4294967296 (key_of 64 0) (refused 8) (refused 8) (refused 8)
      ∷ look seen19 4 (key_of 255 0) (accepted (absence_of (key_of 255 0) (some (presence_of (key_of 254 0) (value_of 3) (step true h8 ∷ step true h72 ∷ []))) none)) (accepted absent) (accepted h74)
      ∷ look seen19 4 (key_of 255 1) (accepted (absence_of (key_of 255 1) (some (presence_of (key_of 254 0) (value_of 3) (step true h8 ∷ step true h72 ∷ []))) none)) (accepted absent) (accepted h74)
      ∷ look seen19 6 (key_of 254 0) (accepted (presence (presence_of (key_of 254 0) (value_of 3) (step true h8 ∷ step true h72 ∷ [])))) (accepted (present (value_of 3))) (accepted h74)
      ∷ look seen19 6 (key_of 255 0) (accepted (absence_of (key_of 255 0) (some (presence_of (key_of 254 0) (value_of 3) (step true h8 ∷ step true h72 ∷ []))) none)) (accepted absent) (accepted h74)
      ∷ look seen20 10 (key_of 0 0) (accepted (absence_of (key_of 0 0) none (some (presence_of (key_of 16 0) (value_of 3) (step false h14 ∷ []))))) (accepted absent) (accepted h75)
      ∷ look seen20 10 (key_of 144 0) (accepted (presence (presence_of (key_of 144 0) (value_of 2) (step true h59 ∷ [])))) (accepted (present (value_of 2))) (accepted h75)
      ∷ look seen20 10 (key_of 8 0) (accepted (absence_of (key_of 8 0) none (some (presence_of (key_of 16 0) (value_of 3) (step false h14 ∷ []))))) (accepted absent) (accepted h75)
      ∷ look seen20 10 (key_of 8 0) (accepted (absence_of (key_of 8 0) none (some (presence_of (key_of 16 0) (value_of 3) (step false h14 ∷ []))))) (accepted absent) (accepted h75)
      ∷ look seen21 1 (key_of 96 0) (refused 14) (accepted absent) (accepted zeros)
      ∷ look seen21 1 (key_of 16 0) (refused 14) (accepted absent) (accepted zeros)
      ∷ look seen21 0 (key_of 8 1) (refused 14) (accepted absent) (accepted zeros)
      ∷ look seen21 1 (key_of 16 1) (refused 14) (accepted absent) (accepted zeros)
      ∷ look seen22 3 (key_of 8 1) (accepted (absence_of (key_of 8 1) (some (presence_of (key_of 0 0) (value_of 1) (step false h71 ∷ []))) (some (presence_of (key_of 254 0) (value_of 3) (step true h41 ∷ []))))) (accepted absent) (accepted h76)
      ∷ look seen22 0 (key_of 0 0) (refused 14) (accepted absent) (accepted zeros)
      ∷ look seen22 0 (key_of 254 0) (refused 14) (accepted absent) (accepted zeros)
      ∷ look seen22 3 (key_of 255 0) (accepted (absence_of (key_of 255 0) (some (presence_of (key_of 254 0) (value_of 3) (step true h41 ∷ []))) none)) (accepted absent) (accepted h76)
      ∷ look seen23 2 (key_of 255 0) (accepted (presence (presence_of (key_of 255 0) (value_of 3) ([])))) (accepted (present (value_of 3))) (accepted h77)
      ∷ look seen23 3 (key_of 96 0) (refused 47244640259) (accepted absent) (accepted h86)
      ∷ look seen23 8 (key_of 255 0) (accepted (presence (presence_of (key_of 255 0) (value_of 3) (step true h44 ∷ step true zeros ∷ step true zeros ∷ step true zeros ∷ step true zeros ∷ step true zeros ∷ step true h34 ∷ step true h72 ∷ [])))) (accepted (present (value_of 3))) (accepted h87)
      ∷ look seen23 3 (key_of 96 0) (refused 47244640259) (accepted absent) (accepted h86)
      ∷ look seen24 1 (key_of 255 0) (accepted (absence_of (key_of 255 0) (some (presence_of (key_of 128 0) (value_of 2) (step true h72 ∷ []))) none)) (accepted absent) (accepted h88)
      ∷ look seen24 1 (key_of 0 0) (accepted (presence (presence_of (key_of 0 0) (value_of 3) (step false h13 ∷ [])))) (accepted (present (value_of 3))) (accepted h88)
      ∷ look seen24 1 (key_of 0 0) (accepted (presence (presence_of (key_of 0 0) (value_of 3) (step false h13 ∷ [])))) (accepted (present (value_of 3))) (accepted h88)
      ∷ look seen24 1 (key_of 64 0) (accepted (absence_of (key_of 64 0) (some (presence_of (key_of 0 0) (value_of 3) (step false h13 ∷ []))) (some (presence_of (key_of 128 0) (value_of 2) (step true h72 ∷ []))))) (accepted absent) (accepted h88)
      ∷ look seen25 1 (key_of 16 0) (refused 4294967299) (refused 4294967299) (refused 4294967299)
      ∷ look seen25 1 (key_of 8 0) (refused 4294967299) (refused 4294967299) (refused 4294967299)
      ∷ look seen25 1 (key_of 8 0) (refused 4294967299) (refused 4294967299) (refused 4294967299)
      ∷ look seen25 1 (key_of 0 0) (refused 4294967299) (refused 4294967299) (refused 4294967299)
      ∷ look seen26 8 (key_of 0 1) (refused 8) (refused 8) (refused 8)
      ∷ look seen26 7 (key_of 96 0) (accepted (presence (presence_of (key_of 96 0) (value_of 4) (step false h8 ∷ [])))) (accepted (present (value_of 4))) (accepted h90)
      ∷ look seen26 8 (key_of 96 0) (refused 8) (refused 8) (refused 8)
      ∷ look seen26 7 (key_of 128 0) (accepted (presence (presence_of (key_of 128 0) (value_of 1) (step true h89 ∷ [])))) (accepted (present (value_of 1))) (accepted h90)
      ∷ look seen27 11 (key_of 0 0) (accepted (absence_of (key_of 0 0) none (some (presence_of (key_of 104 0) (value_of 2) (step false h2 ∷ []))))) (accepted absent) (accepted h92)
      ∷ look seen27 11 (key_of 144 0) (accepted (absence_of (key_of 144 0) (some (presence_of (key_of 128 0) (value_of 3) (step false h1 ∷ step true h91 ∷ []))) (some (presence_of (key_of 192 0) (value_of 3) (step true h0 ∷ step true h91 ∷ []))))) (accepted absent) (accepted h92)
      ∷ look seen27 10 (key_of 144 0) (accepted (absence_of (key_of 144 0) (some (presence_of (key_of 128 0) (value_of 3) (step false h1 ∷ step true zeros ∷ []))) (some (presence_of (key_of 192 0) (value_of 3) (step true h0 ∷ step true zeros ∷ []))))) (accepted absent) (accepted h3)
      ∷ look seen27 11 (key_of 104 0) (accepted (presence (presence_of (key_of 104 0) (value_of 2) (step false h2 ∷ [])))) (accepted (present (value_of 2))) (accepted h92)
      ∷ look seen28 10 (key_of 255 0) (accepted (absence_of (key_of 255 0) (some (presence_of (key_of 128 0) (value_of 2) ([]))) none)) (accepted absent) (accepted h13)
      ∷ look seen28 10 (key_of 8 0) (accepted (absence_of (key_of 8 0) none (some (presence_of (key_of 128 0) (value_of 2) ([]))))) (accepted absent) (accepted h13)
      ∷ look seen28 10 (key_of 255 0) (accepted (absence_of (key_of 255 0) (some (presence_of (key_of 128 0) (value_of 2) ([]))) none)) (accepted absent) (accepted h13)
      ∷ look seen28 10 (key_of 255 0) (accepted (absence_of (key_of 255 0) (some (presence_of (key_of 128 0) (value_of 2) ([]))) none)) (accepted absent) (accepted h13)
      ∷ look seen29 1 (key_of 0 0) (refused 14) (accepted absent) (accepted zeros)
      ∷ look seen29 3 (key_of 8 0) (refused 14) (accepted absent) (accepted zeros)
      ∷ look seen29 3 (key_of 8 0) (refused 14) (accepted absent) (accepted zeros)
      ∷ look seen29 1 (key_of 8 0) (refused 14) (accepted absent) (accepted zeros)
      ∷ []

  pub looks5 : All (LookHolds leaf_hash inner_hash) rows
  unfolding computed
  looks5 = ((refl, refl, refl), ((refl, refl, refl), ((refl, refl, refl), ((refl, refl, refl), ((refl, refl, refl), ((refl, refl, refl), ((refl, refl, refl), ((refl, refl, refl), ((refl, refl, refl), ((refl, refl, refl), ((refl, refl, refl), ((refl, refl, refl), ((refl, refl, refl), ((refl, refl, refl), ((refl, refl, refl), ((refl, refl, refl), ((refl, refl, refl), ((refl, refl, refl), ((refl, refl, refl), ((refl, refl, refl), ((refl, refl, refl), ((refl, refl, refl), ((refl, refl, refl), ((refl, refl, refl), ((refl, refl, refl), ((refl, refl, refl), ((refl, refl, refl), ((refl, refl, refl), ((refl, refl, refl), ((refl, refl, refl), ((refl, refl, refl), ((refl, refl, refl), ((refl, refl, refl), ((refl, refl, refl), ((refl, refl, refl), ((refl, refl, refl), ((refl, refl, refl), ((refl, refl, refl), ((refl, refl, refl), ((refl, refl, refl), ((refl, refl, refl), ((refl, refl, refl), ((refl, refl, refl), ((refl, refl, refl), ((refl, refl, refl), ((refl, refl, refl), ((refl, refl, refl), ((refl, refl, refl), ((refl, refl, refl), ((refl, refl, refl), ((refl, refl, refl), ((refl, refl, refl), ((refl, refl, refl), ((refl, refl, refl), ((refl, refl, refl), ((refl, refl, refl), ((refl, refl, refl), ((refl, refl, refl), ((refl, refl, refl), ((refl, refl, refl), ((refl, refl, refl), ((refl, refl, refl), ((refl, refl, refl), ((refl, refl, refl), ((refl, refl, refl), ((refl, refl, refl), ((refl, refl, refl), ((refl, refl, refl), ((refl, refl, refl), ((refl, refl, refl), ((refl, refl, refl), ((refl, refl, refl), ((refl, refl, refl), ((refl, refl, refl), ((refl, refl, refl), ((refl, refl, refl), ((refl, refl, refl), ((refl, refl, refl), ((refl, refl, refl), ((refl, refl, refl), ((refl, refl, refl), ((refl, refl, refl), ((refl, refl, refl), ((refl, refl, refl), ((refl, refl, refl), ((refl, refl, refl), ((refl, refl, refl), ((refl, refl, refl), ((refl, refl, refl), ((refl, refl, refl), ((refl, refl, refl), ((refl, refl, refl), ((refl, refl, refl), ((refl, refl, refl), ((refl, refl, refl), ((refl, refl, refl), ((refl, refl, refl), ((refl, refl, refl), ((refl, refl, refl), ((refl, refl, refl), ((refl, refl, refl), ((refl, refl, refl), ((refl, refl, refl), ((refl, refl, refl), ((refl, refl, refl), ((refl, refl, refl), ((refl, refl, refl), ((refl, refl, refl), ((refl, refl, refl), ((refl, refl, refl), ((refl, refl, refl), ((refl, refl, refl), ((refl, refl, refl), ((refl, refl, refl), ((refl, refl, refl), ((refl, refl, refl), ((refl, refl, refl), ((refl, refl, refl), ((refl, refl, refl), ((refl, refl, refl), tt))))))))))))))))))))))))))))))))))))))))))))))))))))))))))))))))))))))))))))))))))))))))))))))))))))))))))))))))))))))))
