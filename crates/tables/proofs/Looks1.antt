-- Proofs and reads of whole and damaged stores, part 1. Written by tests/tables/generate.py; compared with a second reading of document 01, 2026-07 and 2026-13. Assumes nothing.
use mathlib.Core.Path.{◌≡◌, refl}
use mathlib.Core.Bool.{true, false}
use mathlib.Core.List.{List, [], ◌∷◌}
use mathlib.Core.Option.{none, some}
use Rattle.terms.specs.Bits.{Bytes, All}
use Rattle.terms.specs.Records.{insert, delete, free, Store, presence, zeros}
use Rattle.meaning.specs.Computed.{computed}
use Rattle.meaning.specs.Calls.{refused, accepted}
use Rattle.meaning.specs.Desk.{key_of}
use Rattle.meaning.specs.Proving.{step, presence_of, absence_of}
use Rattle.meaning.specs.Reading.{present, absent}
use Rattle.tables.specs.Tables.{Look, look, LookHolds, leaf_slot, inner_slot, spoilt_slot, store_of, free_slots, value_of}

module _ (leaf_hash inner_hash : Bytes → Bytes → Bytes) where
  abbrev h0 : Bytes
  h0 = leaf_hash (key_of 144 0) (value_of 2)

  abbrev h1 : Bytes
  h1 = leaf_hash (key_of 64 0) (value_of 1)

  abbrev h2 : Bytes
  h2 = leaf_hash (key_of 64 0) (value_of 4)

  abbrev h3 : Bytes
  h3 = leaf_hash (key_of 192 0) (value_of 4)

  abbrev h4 : Bytes
  h4 = leaf_hash (key_of 8 0) (value_of 3)

  abbrev h5 : Bytes
  h5 = inner_hash h4 h2

  abbrev h6 : Bytes
  h6 = inner_hash h5 h3

  abbrev h7 : Bytes
  h7 = inner_hash h2 h3

  abbrev h8 : Bytes
  h8 = leaf_hash (key_of 16 0) (value_of 4)

  abbrev h9 : Bytes
  h9 = leaf_hash (key_of 104 0) (value_of 1)

  abbrev h10 : Bytes
  h10 = inner_hash h8 h9

  abbrev h11 : Bytes
  h11 = leaf_hash (key_of 128 0) (value_of 1)

  abbrev h12 : Bytes
  h12 = inner_hash h10 zeros

  abbrev h13 : Bytes
  h13 = inner_hash h10 h11

  abbrev h14 : Bytes
  h14 = leaf_hash (key_of 128 0) (value_of 4)

  abbrev h15 : Bytes
  h15 = leaf_hash (key_of 144 0) (value_of 3)

  abbrev h16 : Bytes
  h16 = inner_hash h14 h15

  abbrev h17 : Bytes
  h17 = inner_hash h16 zeros

  abbrev h18 : Bytes
  h18 = inner_hash h17 zeros

  abbrev h19 : Bytes
  h19 = leaf_hash (key_of 128 0) (value_of 2)

  abbrev h20 : Bytes
  h20 = inner_hash zeros h18

  abbrev h21 : Bytes
  h21 = leaf_hash (key_of 96 0) (value_of 1)

  abbrev h22 : Bytes
  h22 = leaf_hash (key_of 104 0) (value_of 3)

  abbrev h23 : Bytes
  h23 = leaf_hash (key_of 144 0) (value_of 1)

  abbrev h24 : Bytes
  h24 = leaf_hash (key_of 254 0) (value_of 1)

  abbrev h25 : Bytes
  h25 = inner_hash h23 h24

  abbrev h26 : Bytes
  h26 = inner_hash h21 h22

  abbrev h27 : Bytes
  h27 = inner_hash h26 zeros

  abbrev h28 : Bytes
  h28 = inner_hash zeros h27

  abbrev h29 : Bytes
  h29 = inner_hash zeros h28

  abbrev h30 : Bytes
  h30 = inner_hash h29 h24

  abbrev h31 : Bytes
  h31 = leaf_hash (key_of 16 0) (value_of 2)

  abbrev h32 : Bytes
  h32 = leaf_hash (key_of 192 0) (value_of 3)

  abbrev h33 : Bytes
  h33 = leaf_hash (key_of 192 0) (value_of 2)

  abbrev h34 : Bytes
  h34 = inner_hash h31 h33

  abbrev h35 : Bytes
  h35 = leaf_hash (key_of 254 0) (value_of 4)

  abbrev h36 : Bytes
  h36 = inner_hash h15 h35

  abbrev h37 : Bytes
  h37 = inner_hash h9 h36

  abbrev h38 : Bytes
  h38 = leaf_hash (key_of 0 0) (value_of 3)

  abbrev h39 : Bytes
  h39 = leaf_hash (key_of 144 0) (value_of 4)

  abbrev h40 : Bytes
  h40 = inner_hash h38 h39

  abbrev h41 : Bytes
  h41 = leaf_hash (key_of 96 0) (value_of 4)

  abbrev h42 : Bytes
  h42 = leaf_hash (key_of 255 0) (value_of 4)

  abbrev h43 : Bytes
  h43 = inner_hash h41 h42

  abbrev h44 : Bytes
  h44 = leaf_hash (key_of 255 0) (value_of 2)

  abbrev h45 : Bytes
  h45 = inner_hash h35 h44

  abbrev h46 : Bytes
  h46 = inner_hash zeros h45

  abbrev h47 : Bytes
  h47 = inner_hash zeros h46

  abbrev h48 : Bytes
  h48 = inner_hash zeros h47

  abbrev h49 : Bytes
  h49 = inner_hash zeros h48

  abbrev h50 : Bytes
  h50 = inner_hash zeros h49

  abbrev h51 : Bytes
  h51 = inner_hash zeros h50

  abbrev h52 : Bytes
  h52 = inner_hash zeros h51

  abbrev h53 : Bytes
  h53 = inner_hash h23 h42

  abbrev h54 : Bytes
  h54 = inner_hash zeros h53

  abbrev h55 : Bytes
  h55 = leaf_hash (key_of 96 0) (value_of 2)

  abbrev h56 : Bytes
  h56 = inner_hash h55 h42

  abbrev h57 : Bytes
  h57 = leaf_hash (key_of 96 0) (value_of 3)

  abbrev h58 : Bytes
  h58 = leaf_hash (key_of 104 0) (value_of 4)

  abbrev h59 : Bytes
  h59 = inner_hash h19 h39

  abbrev h60 : Bytes
  h60 = inner_hash h59 zeros

  abbrev h61 : Bytes
  h61 = inner_hash h60 zeros

  abbrev h62 : Bytes
  h62 = inner_hash h19 h23

  abbrev h63 : Bytes
  h63 = inner_hash h62 zeros

  abbrev h64 : Bytes
  h64 = inner_hash h63 zeros

  abbrev h65 : Bytes
  h65 = inner_hash zeros h64

  abbrev h66 : Bytes
  h66 = leaf_hash (key_of 255 0) (value_of 1)

  abbrev h67 : Bytes
  h67 = inner_hash h24 h66

  abbrev h68 : Bytes
  h68 = inner_hash zeros h67

  abbrev h69 : Bytes
  h69 = inner_hash zeros h68

  abbrev h70 : Bytes
  h70 = inner_hash zeros h69

  abbrev h71 : Bytes
  h71 = inner_hash zeros h70

  abbrev h72 : Bytes
  h72 = inner_hash zeros h71

  abbrev h73 : Bytes
  h73 = inner_hash h19 h72

  abbrev h74 : Bytes
  h74 = inner_hash zeros h73

  abbrev h75 : Bytes
  h75 = inner_hash h14 h44

  abbrev h76 : Bytes
  h76 = inner_hash h57 h75

  abbrev h77 : Bytes
  h77 = inner_hash h4 h31

  abbrev h78 : Bytes
  h78 = inner_hash h77 zeros

  abbrev h79 : Bytes
  h79 = inner_hash h78 zeros

  abbrev h80 : Bytes
  h80 = leaf_hash (key_of 8 0) (value_of 2)

  abbrev h81 : Bytes
  h81 = inner_hash h80 h0

  abbrev h82 : Bytes
  h82 = leaf_hash (key_of 0 0) (value_of 1)

  abbrev h83 : Bytes
  h83 = leaf_hash (key_of 192 0) (value_of 1)

  abbrev h84 : Bytes
  h84 = inner_hash h82 h83

  abbrev seen0 : Store
  seen0 =
      store_of 0 13
      (leaf_slot ([]) 3 7 (key_of 144 0) (value_of 1)
      ∷ leaf_slot ([]) 12 13 (key_of 144 0) (value_of 2)
      ∷ leaf_slot ([]) 13 0 (key_of 144 0) (value_of 2)
      ∷ free
      ∷ free
      ∷ free
      ∷ free
      ∷ free
      ∷ free
      ∷ free
      ∷ free
      ∷ free
      ∷ free
      ∷ free
      ∷ free
      ∷ free
      ∷ [])

  abbrev seen1 : Store
  seen1 =
      store_of 3 8
      (free
      ∷ free
      ∷ leaf_slot ([]) 3 8 (key_of 64 0) (value_of 1)
      ∷ free
      ∷ [])

  abbrev seen2 : Store
  seen2 =
      store_of 0 9
      (leaf_slot ([]) 8 9 (key_of 96 0) (value_of 4)
      ∷ free
      ∷ free
      ∷ free
      ∷ free
      ∷ free
      ∷ free
      ∷ free
      ∷ [])

  abbrev seen3 : Store
  seen3 =
      store_of 0 3
      (free
      ∷ free
      ∷ free
      ∷ free
      ∷ free
      ∷ free
      ∷ free
      ∷ free
      ∷ [])

  abbrev seen4 : Store
  seen4 =
      store_of 3 6
      (leaf_slot ([]) 5 6 (key_of 64 0) (value_of 1)
      ∷ free
      ∷ free
      ∷ free
      ∷ free
      ∷ free
      ∷ free
      ∷ free
      ∷ free
      ∷ free
      ∷ free
      ∷ free
      ∷ free
      ∷ free
      ∷ free
      ∷ free
      ∷ free
      ∷ free
      ∷ free
      ∷ free
      ∷ free
      ∷ free
      ∷ free
      ∷ free
      ∷ [])

  abbrev seen5 : Store
  seen5 =
      store_of 0 11
      (leaf_slot ([]) 1 4 (key_of 64 0) (value_of 4)
      ∷ leaf_slot (false ∷ []) 4 11 (key_of 64 0) (value_of 4)
      ∷ leaf_slot (true ∷ []) 4 0 (key_of 192 0) (value_of 4)
      ∷ inner_slot ([]) 4 9 4 h2 4 h3 1 1
      ∷ inner_slot ([]) 9 10 4 h2 4 h3 1 1
      ∷ inner_slot ([]) 10 11 4 h2 4 h3 1 1
      ∷ leaf_slot (false ∷ false ∷ []) 11 0 (key_of 8 0) (value_of 3)
      ∷ leaf_slot (false ∷ true ∷ []) 11 0 (key_of 64 0) (value_of 4)
      ∷ inner_slot (false ∷ []) 11 0 11 h4 11 h2 1 1
      ∷ inner_slot ([]) 11 0 11 h5 4 h3 2 1
      ∷ leaf_slot (true ∷ []) 4 0 (key_of 96 0) (value_of 9)
      ∷ leaf_slot ([]) 10 11 (key_of 255 0) (value_of 9)
      ∷ free
      ∷ free
      ∷ free
      ∷ free
      ∷ free
      ∷ free
      ∷ free
      ∷ free
      ∷ free
      ∷ free
      ∷ free
      ∷ free
      ∷ [])

  abbrev seen6 : Store
  seen6 =
      store_of 3 9
      (inner_slot ([]) 6 7 4 h10 0 zeros 2 0
      ∷ leaf_slot ([]) 3 4 (key_of 104 0) (value_of 1)
      ∷ leaf_slot (false ∷ false ∷ []) 4 0 (key_of 16 0) (value_of 4)
      ∷ leaf_slot (false ∷ true ∷ []) 4 0 (key_of 104 0) (value_of 1)
      ∷ inner_slot (false ∷ []) 4 0 4 h8 4 h9 1 1
      ∷ inner_slot ([]) 4 5 4 h10 0 zeros 2 0
      ∷ inner_slot ([]) 5 6 4 h10 0 zeros 2 0
      ∷ inner_slot ([]) 7 8 4 h10 0 zeros 2 0
      ∷ leaf_slot (true ∷ []) 8 9 (key_of 128 0) (value_of 1)
      ∷ inner_slot ([]) 8 9 4 h10 8 h11 2 1
      ∷ inner_slot ([]) 9 0 4 h10 0 zeros 2 0
      ∷ free
      ∷ free
      ∷ free
      ∷ free
      ∷ free
      ∷ [])

  abbrev seen7 : Store
  seen7 =
      store_of 0 4
      (leaf_slot (true ∷ false ∷ false ∷ false ∷ []) 1 2 (key_of 128 0) (value_of 4)
      ∷ leaf_slot (true ∷ false ∷ false ∷ true ∷ []) 1 2 (key_of 144 0) (value_of 3)
      ∷ inner_slot (true ∷ false ∷ false ∷ []) 1 2 1 h14 1 h15 1 1
      ∷ inner_slot (true ∷ false ∷ []) 1 2 1 h16 0 zeros 2 0
      ∷ inner_slot (true ∷ []) 2 2 1 h17 0 zeros 2 0
      ∷ inner_slot ([]) 1 2 0 zeros 1 h18 0 2
      ∷ leaf_slot ([]) 2 3 (key_of 128 0) (value_of 4)
      ∷ leaf_slot ([]) 3 4 (key_of 128 0) (value_of 2)
      ∷ [])

  abbrev seen8 : Store
  seen8 =
      store_of 4 5
      (leaf_slot (true ∷ true ∷ []) 4 5 (key_of 254 0) (value_of 1)
      ∷ leaf_slot (true ∷ false ∷ []) 3 5 (key_of 144 0) (value_of 1)
      ∷ leaf_slot (false ∷ true ∷ true ∷ false ∷ false ∷ []) 5 0 (key_of 96 0) (value_of 1)
      ∷ leaf_slot (false ∷ true ∷ true ∷ false ∷ true ∷ []) 5 0 (key_of 104 0) (value_of 3)
      ∷ inner_slot (false ∷ true ∷ true ∷ false ∷ []) 5 0 5 h21 5 h22 1 1
      ∷ leaf_slot (false ∷ []) 4 5 (key_of 96 0) (value_of 1)
      ∷ inner_slot (true ∷ []) 4 5 3 h23 4 h24 1 1
      ∷ inner_slot ([]) 4 5 4 h21 4 h25 1 2
      ∷ inner_slot (false ∷ true ∷ true ∷ []) 5 0 5 h26 0 zeros 2 0
      ∷ inner_slot (false ∷ true ∷ []) 5 0 0 zeros 5 h27 0 2
      ∷ inner_slot (false ∷ []) 5 0 0 zeros 5 h28 0 2
      ∷ leaf_slot (true ∷ []) 5 0 (key_of 254 0) (value_of 1)
      ∷ inner_slot ([]) 5 0 5 h29 5 h24 2 1
      ∷ free
      ∷ free
      ∷ free
      ∷ [])

  abbrev seen9 : Store
  seen9 =
      store_of 2 3
      (free
      ∷ free
      ∷ free
      ∷ free
      ∷ free
      ∷ free
      ∷ free
      ∷ free
      ∷ [])

  abbrev seen10 : Store
  seen10 =
      store_of 2 5
      (leaf_slot ([]) 2 3 (key_of 192 0) (value_of 3)
      ∷ leaf_slot ([]) 3 4 (key_of 192 0) (value_of 3)
      ∷ leaf_slot (false ∷ []) 4 0 (key_of 16 0) (value_of 2)
      ∷ leaf_slot (true ∷ []) 4 5 (key_of 192 0) (value_of 3)
      ∷ inner_slot ([]) 4 5 4 h31 4 h32 1 1
      ∷ leaf_slot (true ∷ []) 5 0 (key_of 192 0) (value_of 2)
      ∷ inner_slot ([]) 5 0 4 h31 5 h33 1 1
      ∷ free
      ∷ [])

  abbrev seen11 : Store
  seen11 =
      store_of 4294967293 4294967295
      (free
      ∷ free
      ∷ free
      ∷ free
      ∷ free
      ∷ free
      ∷ free
      ∷ free
      ∷ free
      ∷ free
      ∷ free
      ∷ free
      ∷ free
      ∷ free
      ∷ free
      ∷ free
      ∷ [])

  abbrev seen12 : Store
  seen12 =
      store_of 8 12
      (leaf_slot ([]) 8 9 (key_of 104 0) (value_of 1)
      ∷ leaf_slot (false ∷ []) 9 0 (key_of 104 0) (value_of 1)
      ∷ leaf_slot (true ∷ []) 9 10 (key_of 144 0) (value_of 3)
      ∷ inner_slot ([]) 9 10 9 h9 9 h15 1 1
      ∷ leaf_slot (true ∷ false ∷ []) 10 0 (key_of 144 0) (value_of 3)
      ∷ leaf_slot (true ∷ true ∷ []) 10 0 (key_of 254 0) (value_of 4)
      ∷ inner_slot (true ∷ []) 10 0 10 h15 10 h35 1 1
      ∷ inner_slot ([]) 10 12 9 h9 10 h36 1 2
      ∷ inner_slot ([]) 12 0 9 h9 10 h36 1 2
      ∷ free
      ∷ free
      ∷ free
      ∷ [])

  abbrev seen13 : Store
  seen13 =
      store_of 4294967293 4294967295
      (spoilt_slot 0 ([]) 4294967295 0
      ∷ free
      ∷ free
      ∷ free
      ∷ [])

  abbrev seen14 : Store
  seen14 =
      store_of 0 2
      (leaf_slot ([]) 1 2 (key_of 0 0) (value_of 3)
      ∷ leaf_slot (false ∷ []) 2 0 (key_of 0 0) (value_of 3)
      ∷ leaf_slot (true ∷ []) 2 0 (key_of 144 0) (value_of 4)
      ∷ inner_slot ([]) 2 0 2 h38 2 h39 1 1
      ∷ [])

  abbrev seen15 : Store
  seen15 =
      store_of 0 2
      (leaf_slot (false ∷ []) 2 0 (key_of 96 0) (value_of 4)
      ∷ leaf_slot (true ∷ []) 2 0 (key_of 255 0) (value_of 4)
      ∷ inner_slot ([]) 2 0 2 h41 2 h42 1 1
      ∷ leaf_slot ([]) 2 0 (key_of 96 0) (value_of 9)
      ∷ [])

  abbrev seen16 : Store
  seen16 =
      store_of 0 15
      (leaf_slot ([]) 11 14 (key_of 255 0) (value_of 4)
      ∷ leaf_slot ([]) 14 15 (key_of 254 0) (value_of 4)
      ∷ leaf_slot (true ∷ true ∷ true ∷ true ∷ true ∷ true ∷ true ∷ false ∷ []) 15 0 (key_of 254 0) (value_of 4)
      ∷ leaf_slot (true ∷ true ∷ true ∷ true ∷ true ∷ true ∷ true ∷ true ∷ []) 15 0 (key_of 255 0) (value_of 2)
      ∷ inner_slot (true ∷ true ∷ true ∷ true ∷ true ∷ true ∷ true ∷ []) 15 0 15 h35 15 h44 1 1
      ∷ inner_slot (true ∷ true ∷ true ∷ true ∷ true ∷ true ∷ []) 15 0 0 zeros 15 h45 0 2
      ∷ inner_slot (true ∷ true ∷ true ∷ true ∷ true ∷ []) 15 0 0 zeros 15 h46 0 2
      ∷ inner_slot (true ∷ true ∷ true ∷ true ∷ []) 15 0 0 zeros 15 h47 0 2
      ∷ inner_slot (true ∷ true ∷ true ∷ []) 15 0 0 zeros 15 h48 0 2
      ∷ inner_slot (true ∷ true ∷ []) 15 0 0 zeros 15 h49 0 2
      ∷ inner_slot (true ∷ []) 15 0 0 zeros 15 h50 0 2
      ∷ inner_slot ([]) 15 0 0 zeros 15 h51 0 2
      ∷ [])

  abbrev seen17 : Store
  seen17 =
      store_of 0 13
      (leaf_slot ([]) 1 2 (key_of 144 0) (value_of 1)
      ∷ leaf_slot ([]) 2 5 (key_of 144 0) (value_of 1)
      ∷ leaf_slot (true ∷ false ∷ []) 5 0 (key_of 144 0) (value_of 1)
      ∷ leaf_slot (true ∷ true ∷ []) 5 0 (key_of 255 0) (value_of 4)
      ∷ inner_slot (true ∷ []) 5 0 5 h23 5 h42 1 1
      ∷ inner_slot ([]) 5 6 0 zeros 5 h53 0 2
      ∷ inner_slot ([]) 6 8 0 zeros 5 h53 0 2
      ∷ leaf_slot (true ∷ true ∷ []) 5 0 (key_of 8 0) (value_of 9)
      ∷ inner_slot ([]) 13 0 0 zeros 5 h53 0 2
      ∷ free
      ∷ free
      ∷ free
      ∷ free
      ∷ free
      ∷ free
      ∷ free
      ∷ [])

  abbrev seen18 : Store
  seen18 =
      store_of 5 9
      (inner_slot ([]) 7 8 2 h55 5 h42 1 1
      ∷ leaf_slot (false ∷ []) 2 8 (key_of 96 0) (value_of 2)
      ∷ leaf_slot (false ∷ []) 8 0 (key_of 96 0) (value_of 4)
      ∷ inner_slot ([]) 8 9 8 h41 5 h42 1 1
      ∷ inner_slot ([]) 9 0 8 h41 5 h42 1 1
      ∷ free
      ∷ free
      ∷ free
      ∷ free
      ∷ free
      ∷ free
      ∷ leaf_slot (true ∷ []) 5 0 (key_of 255 0) (value_of 4)
      ∷ inner_slot ([]) 5 7 2 h55 5 h42 1 1
      ∷ free
      ∷ free
      ∷ free
      ∷ [])

  abbrev seen19 : Store
  seen19 =
      store_of 4 5
      (free
      ∷ free
      ∷ leaf_slot ([]) 5 6 (key_of 104 0) (value_of 3)
      ∷ free
      ∷ free
      ∷ free
      ∷ free
      ∷ free
      ∷ free
      ∷ free
      ∷ free
      ∷ free
      ∷ free
      ∷ free
      ∷ free
      ∷ free
      ∷ [])

  abbrev seen20 : Store
  seen20 =
      store_of 2 13
      (leaf_slot ([]) 2 5 (key_of 96 0) (value_of 3)
      ∷ leaf_slot (false ∷ []) 5 11 (key_of 96 0) (value_of 3)
      ∷ leaf_slot (true ∷ []) 5 11 (key_of 254 0) (value_of 4)
      ∷ inner_slot ([]) 5 10 5 h57 5 h35 1 1
      ∷ inner_slot ([]) 10 11 5 h57 5 h35 1 1
      ∷ leaf_slot ([]) 13 0 (key_of 104 0) (value_of 4)
      ∷ free
      ∷ free
      ∷ free
      ∷ free
      ∷ free
      ∷ free
      ∷ free
      ∷ free
      ∷ free
      ∷ free
      ∷ free
      ∷ free
      ∷ free
      ∷ free
      ∷ free
      ∷ free
      ∷ free
      ∷ free
      ∷ [])

  abbrev seen21 : Store
  seen21 =
      store_of 0 6
      (leaf_slot (true ∷ false ∷ false ∷ false ∷ []) 4 0 (key_of 128 0) (value_of 2)
      ∷ leaf_slot (true ∷ false ∷ false ∷ true ∷ []) 4 6 (key_of 144 0) (value_of 4)
      ∷ inner_slot (true ∷ false ∷ false ∷ []) 4 0 4 h19 4 h39 1 1
      ∷ inner_slot (true ∷ false ∷ []) 4 6 4 h59 0 zeros 2 0
      ∷ inner_slot (true ∷ []) 4 6 4 h60 0 zeros 2 0
      ∷ inner_slot ([]) 4 6 0 zeros 4 h61 0 2
      ∷ leaf_slot (true ∷ false ∷ false ∷ true ∷ []) 6 0 (key_of 144 0) (value_of 1)
      ∷ inner_slot (true ∷ false ∷ false ∷ []) 6 0 4 h19 6 h23 1 1
      ∷ inner_slot (true ∷ false ∷ []) 6 0 6 h62 0 zeros 2 0
      ∷ inner_slot (true ∷ []) 6 0 6 h63 0 zeros 2 0
      ∷ inner_slot ([]) 6 0 0 zeros 6 h64 0 2
      ∷ spoilt_slot 4 (true ∷ false ∷ false ∷ true ∷ []) 4 6
      ∷ [])

  abbrev seen22 : Store
  seen22 =
      store_of 0 4
      (leaf_slot ([]) 2 3 (key_of 144 0) (value_of 1)
      ∷ leaf_slot ([]) 3 4 (key_of 144 0) (value_of 1)
      ∷ free
      ∷ free
      ∷ free
      ∷ free
      ∷ free
      ∷ free
      ∷ free
      ∷ free
      ∷ free
      ∷ free
      ∷ free
      ∷ free
      ∷ free
      ∷ free
      ∷ [])

  abbrev seen23 : Store
  seen23 =
      store_of 6 9
      (leaf_slot (true ∷ true ∷ true ∷ true ∷ true ∷ true ∷ true ∷ false ∷ []) 9 0 (key_of 254 0) (value_of 1)
      ∷ leaf_slot (true ∷ true ∷ true ∷ true ∷ true ∷ true ∷ true ∷ true ∷ []) 9 0 (key_of 255 0) (value_of 1)
      ∷ inner_slot (true ∷ true ∷ true ∷ true ∷ true ∷ true ∷ true ∷ []) 9 0 9 h24 9 h66 1 1
      ∷ inner_slot (true ∷ true ∷ true ∷ true ∷ true ∷ true ∷ []) 9 0 0 zeros 9 h67 0 2
      ∷ inner_slot (true ∷ true ∷ true ∷ true ∷ true ∷ []) 9 0 0 zeros 9 h68 0 2
      ∷ inner_slot (true ∷ true ∷ true ∷ true ∷ []) 9 0 0 zeros 9 h69 0 2
      ∷ inner_slot (true ∷ true ∷ true ∷ []) 9 0 0 zeros 9 h70 0 2
      ∷ leaf_slot (true ∷ false ∷ []) 10 0 (key_of 128 0) (value_of 2)
      ∷ inner_slot (true ∷ true ∷ []) 10 0 0 zeros 9 h71 0 2
      ∷ inner_slot (true ∷ []) 9 0 9 h19 9 h72 1 2
      ∷ inner_slot ([]) 9 0 0 zeros 9 h73 0 3
      ∷ free
      ∷ free
      ∷ free
      ∷ free
      ∷ free
      ∷ free
      ∷ free
      ∷ free
      ∷ free
      ∷ free
      ∷ free
      ∷ free
      ∷ free
      ∷ [])

  abbrev seen24 : Store
  seen24 =
      store_of 5 6
      (free
      ∷ leaf_slot ([]) 5 6 (key_of 64 0) (value_of 1)
      ∷ free
      ∷ free
      ∷ free
      ∷ free
      ∷ free
      ∷ free
      ∷ [])

  abbrev seen25 : Store
  seen25 =
      store_of 0 1
      (free
      ∷ free
      ∷ free
      ∷ free
      ∷ free
      ∷ free
      ∷ free
      ∷ free
      ∷ [])

  abbrev seen26 : Store
  seen26 =
      store_of 0 3
      (leaf_slot ([]) 2 3 (key_of 104 0) (value_of 4)
      ∷ leaf_slot ([]) 3 0 (key_of 104 0) (value_of 4)
      ∷ free
      ∷ free
      ∷ [])

  abbrev seen27 : Store
  seen27 =
      store_of 2 6
      (inner_slot ([]) 6 0 2 h57 2 h75 1 2
      ∷ spoilt_slot 2 (true ∷ false ∷ []) 2 0
      ∷ leaf_slot (true ∷ true ∷ []) 2 0 (key_of 255 0) (value_of 2)
      ∷ leaf_slot (false ∷ []) 2 0 (key_of 96 0) (value_of 3)
      ∷ inner_slot (true ∷ []) 2 0 2 h14 2 h44 1 1
      ∷ inner_slot ([]) 2 6 2 h57 2 h75 1 2
      ∷ spoilt_slot 2 (true ∷ false ∷ []) 2 0
      ∷ free
      ∷ free
      ∷ free
      ∷ free
      ∷ free
      ∷ free
      ∷ free
      ∷ free
      ∷ free
      ∷ [])

  abbrev seen28 : Store
  seen28 =
      store_of 6 13
      (leaf_slot (false ∷ []) 10 11 (key_of 8 0) (value_of 3)
      ∷ leaf_slot (true ∷ []) 10 11 (key_of 144 0) (value_of 1)
      ∷ inner_slot ([]) 10 11 10 h4 10 h23 1 1
      ∷ leaf_slot (false ∷ false ∷ false ∷ false ∷ []) 11 12 (key_of 8 0) (value_of 3)
      ∷ leaf_slot (false ∷ false ∷ false ∷ true ∷ []) 11 12 (key_of 16 0) (value_of 2)
      ∷ inner_slot (false ∷ false ∷ false ∷ []) 11 12 11 h4 11 h31 1 1
      ∷ inner_slot (false ∷ false ∷ []) 11 12 11 h77 0 zeros 2 0
      ∷ inner_slot (false ∷ []) 11 12 11 h78 0 zeros 2 0
      ∷ leaf_slot (true ∷ []) 11 12 (key_of 144 0) (value_of 3)
      ∷ inner_slot ([]) 11 12 11 h79 11 h15 2 1
      ∷ leaf_slot ([]) 12 13 (key_of 8 0) (value_of 3)
      ∷ leaf_slot (false ∷ []) 13 0 (key_of 8 0) (value_of 2)
      ∷ leaf_slot (true ∷ []) 13 0 (key_of 144 0) (value_of 2)
      ∷ inner_slot ([]) 13 0 13 h80 13 h0 1 1
      ∷ free
      ∷ free
      ∷ [])

  abbrev seen29 : Store
  seen29 =
      store_of 0 7
      (leaf_slot ([]) 1 2 (key_of 192 0) (value_of 1)
      ∷ leaf_slot ([]) 2 3 (key_of 192 0) (value_of 1)
      ∷ leaf_slot (false ∷ []) 3 5 (key_of 0 0) (value_of 1)
      ∷ leaf_slot (true ∷ []) 3 5 (key_of 192 0) (value_of 1)
      ∷ inner_slot ([]) 3 5 3 h82 3 h83 1 1
      ∷ leaf_slot ([]) 5 6 (key_of 0 0) (value_of 1)
      ∷ leaf_slot (false ∷ []) 6 0 (key_of 0 0) (value_of 1)
      ∷ leaf_slot (true ∷ []) 7 0 (key_of 192 0) (value_of 1)
      ∷ inner_slot ([]) 6 7 6 h82 6 h83 1 1
      ∷ inner_slot ([]) 7 0 6 h82 6 h83 1 1
      ∷ free
      ∷ free
      ∷ [])

  abbrev rows : List Look
  rows =
      look seen0 12 (key_of 128 0) (accepted (absence_of (key_of 128 0) none (some (presence_of (key_of 144 0) (value_of 2) ([]))))) (accepted absent) (accepted h0)
      ∷ look seen0 13 (key_of 144 0) (accepted (presence (presence_of (key_of 144 0) (value_of 2) ([])))) (accepted (present (value_of 2))) (accepted h0)
      ∷ look seen0 13 (key_of 128 0) (accepted (absence_of (key_of 128 0) none (some (presence_of (key_of 144 0) (value_of 2) ([]))))) (accepted absent) (accepted h0)
      ∷ look seen0 13 (key_of 8 0) (accepted (absence_of (key_of 8 0) none (some (presence_of (key_of 144 0) (value_of 2) ([]))))) (accepted absent) (accepted h0)
      ∷ look seen1 8 (key_of 8 0) (refused 14) (accepted absent) (accepted zeros)
      ∷ look seen1 8 (key_of 8 0) (refused 14) (accepted absent) (accepted zeros)
      ∷ look seen1 9 (key_of 8 0) (refused 8) (refused 8) (refused 8)
      ∷ look seen1 8 (key_of 16 0) (refused 14) (accepted absent) (accepted zeros)
      ∷ look seen2 9 (key_of 144 0) (refused 14) (accepted absent) (accepted zeros)
      ∷ look seen2 9 (key_of 96 0) (refused 14) (accepted absent) (accepted zeros)
      ∷ look seen2 3 (key_of 104 0) (refused 14) (accepted absent) (accepted zeros)
      ∷ look seen2 9 (key_of 104 0) (refused 14) (accepted absent) (accepted zeros)
      ∷ look seen3 0 (key_of 254 0) (refused 14) (accepted absent) (accepted zeros)
      ∷ look seen3 3 (key_of 255 0) (refused 14) (accepted absent) (accepted zeros)
      ∷ look seen3 0 (key_of 192 1) (refused 14) (accepted absent) (accepted zeros)
      ∷ look seen3 3 (key_of 254 0) (refused 14) (accepted absent) (accepted zeros)
      ∷ look seen4 5 (key_of 64 0) (accepted (presence (presence_of (key_of 64 0) (value_of 1) ([])))) (accepted (present (value_of 1))) (accepted h1)
      ∷ look seen4 7 (key_of 8 1) (refused 8) (refused 8) (refused 8)
      ∷ look seen4 6 (key_of 0 1) (refused 14) (accepted absent) (accepted zeros)
      ∷ look seen4 6 (key_of 96 0) (refused 14) (accepted absent) (accepted zeros)
      ∷ look seen5 11 (key_of 8 0) (accepted (presence (presence_of (key_of 8 0) (value_of 3) (step false h2 ∷ step false h3 ∷ [])))) (accepted (present (value_of 3))) (accepted h6)
      ∷ look seen5 8 (key_of 96 0) (accepted (absence_of (key_of 96 0) (some (presence_of (key_of 64 0) (value_of 4) (step false h3 ∷ []))) (some (presence_of (key_of 192 0) (value_of 4) (step true h2 ∷ []))))) (accepted absent) (accepted h7)
      ∷ look seen5 11 (key_of 8 0) (accepted (presence (presence_of (key_of 8 0) (value_of 3) (step false h2 ∷ step false h3 ∷ [])))) (accepted (present (value_of 3))) (accepted h6)
      ∷ look seen5 7 (key_of 64 0) (accepted (presence (presence_of (key_of 64 0) (value_of 4) (step false h3 ∷ [])))) (accepted (present (value_of 4))) (accepted h7)
      ∷ look seen6 9 (key_of 128 0) (accepted (absence_of (key_of 128 0) (some (presence_of (key_of 104 0) (value_of 1) (step true h8 ∷ step false zeros ∷ []))) none)) (accepted absent) (accepted h12)
      ∷ look seen6 7 (key_of 104 0) (accepted (presence (presence_of (key_of 104 0) (value_of 1) (step true h8 ∷ step false zeros ∷ [])))) (accepted (present (value_of 1))) (accepted h12)
      ∷ look seen6 8 (key_of 16 0) (accepted (presence (presence_of (key_of 16 0) (value_of 4) (step false h9 ∷ step false h11 ∷ [])))) (accepted (present (value_of 4))) (accepted h13)
      ∷ look seen6 8 (key_of 104 0) (accepted (presence (presence_of (key_of 104 0) (value_of 1) (step true h8 ∷ step false h11 ∷ [])))) (accepted (present (value_of 1))) (accepted h13)
      ∷ look seen7 4 (key_of 144 0) (refused 14) (accepted absent) (accepted zeros)
      ∷ look seen7 3 (key_of 255 0) (accepted (absence_of (key_of 255 0) (some (presence_of (key_of 128 0) (value_of 2) ([]))) none)) (accepted absent) (accepted h19)
      ∷ look seen7 4 (key_of 96 0) (refused 14) (accepted absent) (accepted zeros)
      ∷ look seen7 1 (key_of 16 1) (refused 17) (accepted absent) (accepted h20)
      ∷ look seen8 5 (key_of 104 0) (accepted (presence (presence_of (key_of 104 0) (value_of 3) (step true h21 ∷ step false zeros ∷ step true zeros ∷ step true zeros ∷ step false h24 ∷ [])))) (accepted (present (value_of 3))) (accepted h30)
      ∷ look seen8 5 (key_of 104 0) (accepted (presence (presence_of (key_of 104 0) (value_of 3) (step true h21 ∷ step false zeros ∷ step true zeros ∷ step true zeros ∷ step false h24 ∷ [])))) (accepted (present (value_of 3))) (accepted h30)
      ∷ look seen8 5 (key_of 192 0) (accepted (absence_of (key_of 192 0) (some (presence_of (key_of 104 0) (value_of 3) (step true h21 ∷ step false zeros ∷ step true zeros ∷ step true zeros ∷ step false h24 ∷ []))) (some (presence_of (key_of 254 0) (value_of 1) (step true h29 ∷ []))))) (accepted absent) (accepted h30)
      ∷ look seen8 6 (key_of 144 0) (refused 8) (refused 8) (refused 8)
      ∷ look seen9 2 (key_of 104 0) (refused 14) (accepted absent) (accepted zeros)
      ∷ look seen9 3 (key_of 0 0) (refused 14) (accepted absent) (accepted zeros)
      ∷ look seen9 3 (key_of 96 0) (refused 14) (accepted absent) (accepted zeros)
      ∷ look seen9 1 (key_of 0 0) (refused 8) (refused 8) (refused 8)
      ∷ look seen10 5 (key_of 192 1) (accepted (absence_of (key_of 192 1) (some (presence_of (key_of 192 0) (value_of 2) (step true h31 ∷ []))) none)) (accepted absent) (accepted h34)
      ∷ look seen10 5 (key_of 192 0) (accepted (presence (presence_of (key_of 192 0) (value_of 2) (step true h31 ∷ [])))) (accepted (present (value_of 2))) (accepted h34)
      ∷ look seen10 5 (key_of 192 0) (accepted (presence (presence_of (key_of 192 0) (value_of 2) (step true h31 ∷ [])))) (accepted (present (value_of 2))) (accepted h34)
      ∷ look seen10 6 (key_of 16 0) (refused 8) (refused 8) (refused 8)
      ∷ look seen11 4294967293 (key_of 254 0) (refused 14) (accepted absent) (accepted zeros)
      ∷ look seen11 4294967295 (key_of 104 0) (refused 14) (accepted absent) (accepted zeros)
      ∷ look seen11 4294967295 (key_of 104 0) (refused 14) (accepted absent) (accepted zeros)
      ∷ look seen11 4294967295 (key_of 0 0) (refused 14) (accepted absent) (accepted zeros)
      ∷ look seen12 12 (key_of 254 0) (accepted (presence (presence_of (key_of 254 0) (value_of 4) (step true h15 ∷ step true h9 ∷ [])))) (accepted (present (value_of 4))) (accepted h37)
      ∷ look seen12 10 (key_of 254 0) (accepted (presence (presence_of (key_of 254 0) (value_of 4) (step true h15 ∷ step true h9 ∷ [])))) (accepted (present (value_of 4))) (accepted h37)
      ∷ look seen12 12 (key_of 128 0) (accepted (absence_of (key_of 128 0) (some (presence_of (key_of 104 0) (value_of 1) (step false h36 ∷ []))) (some (presence_of (key_of 144 0) (value_of 3) (step false h35 ∷ step true h9 ∷ []))))) (accepted absent) (accepted h37)
      ∷ look seen12 12 (key_of 128 0) (accepted (absence_of (key_of 128 0) (some (presence_of (key_of 104 0) (value_of 1) (step false h36 ∷ []))) (some (presence_of (key_of 144 0) (value_of 3) (step false h35 ∷ step true h9 ∷ []))))) (accepted absent) (accepted h37)
      ∷ look seen13 4294967295 (key_of 255 0) (refused 4294967299) (refused 4294967299) (refused 4294967299)
      ∷ look seen13 4294967295 (key_of 0 0) (refused 4294967299) (refused 4294967299) (refused 4294967299)
      ∷ look seen13 4294967294 (key_of 0 0) (refused 14) (accepted absent) (accepted zeros)
      ∷ look seen13 4294967295 (key_of 16 0) (refused 4294967299) (refused 4294967299) (refused 4294967299)
      ∷ look seen14 2 (key_of 192 0) (accepted (absence_of (key_of 192 0) (some (presence_of (key_of 144 0) (value_of 4) (step true h38 ∷ []))) none)) (accepted absent) (accepted h40)
      ∷ look seen14 3 (key_of 255 0) (refused 8) (refused 8) (refused 8)
      ∷ look seen14 2 (key_of 8 1) (accepted (absence_of (key_of 8 1) (some (presence_of (key_of 0 0) (value_of 3) (step false h39 ∷ []))) (some (presence_of (key_of 144 0) (value_of 4) (step true h38 ∷ []))))) (accepted absent) (accepted h40)
      ∷ look seen14 0 (key_of 96 1) (refused 14) (accepted absent) (accepted zeros)
      ∷ look seen15 0 (key_of 8 1) (refused 14) (accepted absent) (accepted zeros)
      ∷ look seen15 2 (key_of 96 0) (accepted (presence (presence_of (key_of 96 0) (value_of 4) (step false h42 ∷ [])))) (accepted (present (value_of 4))) (accepted h43)
      ∷ look seen15 0 (key_of 96 0) (refused 14) (accepted absent) (accepted zeros)
      ∷ look seen15 3 (key_of 255 0) (refused 8) (refused 8) (refused 8)
      ∷ look seen16 0 (key_of 254 0) (refused 14) (accepted absent) (accepted zeros)
      ∷ look seen16 15 (key_of 96 0) (accepted (absence_of (key_of 96 0) none (some (presence_of (key_of 254 0) (value_of 4) (step false h44 ∷ step true zeros ∷ step true zeros ∷ step true zeros ∷ step true zeros ∷ step true zeros ∷ step true zeros ∷ step true zeros ∷ []))))) (accepted absent) (accepted h52)
      ∷ look seen16 10 (key_of 0 0) (refused 14) (accepted absent) (accepted zeros)
      ∷ look seen16 0 (key_of 255 0) (refused 14) (accepted absent) (accepted zeros)
      ∷ look seen17 10 (key_of 144 0) (refused 14) (accepted absent) (accepted zeros)
      ∷ look seen17 13 (key_of 192 1) (accepted (absence_of (key_of 192 1) (some (presence_of (key_of 144 0) (value_of 1) (step false h42 ∷ step true zeros ∷ []))) (some (presence_of (key_of 255 0) (value_of 4) (step true h23 ∷ step true zeros ∷ []))))) (accepted absent) (accepted h54)
      ∷ look seen17 0 (key_of 144 0) (refused 14) (accepted absent) (accepted zeros)
      ∷ look seen17 2 (key_of 255 0) (accepted (absence_of (key_of 255 0) (some (presence_of (key_of 144 0) (value_of 1) ([]))) none)) (accepted absent) (accepted h23)
      ∷ look seen18 9 (key_of 144 0) (accepted (absence_of (key_of 144 0) (some (presence_of (key_of 96 0) (value_of 4) (step false h42 ∷ []))) (some (presence_of (key_of 255 0) (value_of 4) (step true h41 ∷ []))))) (accepted absent) (accepted h43)
      ∷ look seen18 9 (key_of 144 0) (accepted (absence_of (key_of 144 0) (some (presence_of (key_of 96 0) (value_of 4) (step false h42 ∷ []))) (some (presence_of (key_of 255 0) (value_of 4) (step true h41 ∷ []))))) (accepted absent) (accepted h43)
      ∷ look seen18 7 (key_of 96 1) (accepted (absence_of (key_of 96 1) (some (presence_of (key_of 96 0) (value_of 2) (step false h42 ∷ []))) (some (presence_of (key_of 255 0) (value_of 4) (step true h55 ∷ []))))) (accepted absent) (accepted h56)
      ∷ look seen18 7 (key_of 96 0) (accepted (presence (presence_of (key_of 96 0) (value_of 2) (step false h42 ∷ [])))) (accepted (present (value_of 2))) (accepted h56)
      ∷ look seen19 5 (key_of 255 0) (accepted (absence_of (key_of 255 0) (some (presence_of (key_of 104 0) (value_of 3) ([]))) none)) (accepted absent) (accepted h22)
      ∷ look seen19 5 (key_of 255 0) (accepted (absence_of (key_of 255 0) (some (presence_of (key_of 104 0) (value_of 3) ([]))) none)) (accepted absent) (accepted h22)
      ∷ look seen19 5 (key_of 104 0) (accepted (presence (presence_of (key_of 104 0) (value_of 3) ([])))) (accepted (present (value_of 3))) (accepted h22)
      ∷ look seen19 5 (key_of 104 0) (accepted (presence (presence_of (key_of 104 0) (value_of 3) ([])))) (accepted (present (value_of 3))) (accepted h22)
      ∷ look seen20 4 (key_of 104 0) (accepted (absence_of (key_of 104 0) (some (presence_of (key_of 96 0) (value_of 3) ([]))) none)) (accepted absent) (accepted h57)
      ∷ look seen20 13 (key_of 144 0) (accepted (absence_of (key_of 144 0) (some (presence_of (key_of 104 0) (value_of 4) ([]))) none)) (accepted absent) (accepted h58)
      ∷ look seen20 13 (key_of 144 0) (accepted (absence_of (key_of 144 0) (some (presence_of (key_of 104 0) (value_of 4) ([]))) none)) (accepted absent) (accepted h58)
      ∷ look seen20 3 (key_of 96 0) (accepted (presence (presence_of (key_of 96 0) (value_of 3) ([])))) (accepted (present (value_of 3))) (accepted h57)
      ∷ look seen21 6 (key_of 64 0) (accepted (absence_of (key_of 64 0) none (some (presence_of (key_of 128 0) (value_of 2) (step false h23 ∷ step false zeros ∷ step false zeros ∷ step true zeros ∷ []))))) (accepted absent) (accepted h65)
      ∷ look seen21 1 (key_of 96 0) (refused 14) (accepted absent) (accepted zeros)
      ∷ look seen21 3 (key_of 64 0) (refused 14) (accepted absent) (accepted zeros)
      ∷ look seen21 6 (key_of 144 0) (accepted (presence (presence_of (key_of 144 0) (value_of 1) (step true h19 ∷ step false zeros ∷ step false zeros ∷ step true zeros ∷ [])))) (accepted (present (value_of 1))) (accepted h65)
      ∷ look seen22 4 (key_of 8 0) (refused 14) (accepted absent) (accepted zeros)
      ∷ look seen22 4 (key_of 104 1) (refused 14) (accepted absent) (accepted zeros)
      ∷ look seen22 4 (key_of 104 0) (refused 14) (accepted absent) (accepted zeros)
      ∷ look seen22 5 (key_of 128 0) (refused 8) (refused 8) (refused 8)
      ∷ look seen23 10 (key_of 254 0) (refused 8) (refused 8) (refused 8)
      ∷ look seen23 9 (key_of 0 0) (refused 17) (accepted absent) (accepted h74)
      ∷ look seen23 9 (key_of 255 0) (refused 17) (refused 17) (accepted h74)
      ∷ look seen23 9 (key_of 0 0) (refused 17) (accepted absent) (accepted h74)
      ∷ look seen24 6 (key_of 64 0) (refused 14) (accepted absent) (accepted zeros)
      ∷ look seen24 6 (key_of 0 1) (refused 14) (accepted absent) (accepted zeros)
      ∷ look seen24 6 (key_of 64 0) (refused 14) (accepted absent) (accepted zeros)
      ∷ look seen24 5 (key_of 0 0) (accepted (absence_of (key_of 0 0) none (some (presence_of (key_of 64 0) (value_of 1) ([]))))) (accepted absent) (accepted h1)
      ∷ look seen25 2 (key_of 96 0) (refused 8) (refused 8) (refused 8)
      ∷ look seen25 1 (key_of 255 0) (refused 14) (accepted absent) (accepted zeros)
      ∷ look seen25 1 (key_of 104 1) (refused 14) (accepted absent) (accepted zeros)
      ∷ look seen25 1 (key_of 144 1) (refused 14) (accepted absent) (accepted zeros)
      ∷ look seen26 1 (key_of 192 0) (refused 14) (accepted absent) (accepted zeros)
      ∷ look seen26 4 (key_of 104 0) (refused 8) (refused 8) (refused 8)
      ∷ look seen26 3 (key_of 255 0) (accepted (absence_of (key_of 255 0) (some (presence_of (key_of 104 0) (value_of 4) ([]))) none)) (accepted absent) (accepted h58)
      ∷ look seen26 3 (key_of 192 0) (accepted (absence_of (key_of 192 0) (some (presence_of (key_of 104 0) (value_of 4) ([]))) none)) (accepted absent) (accepted h58)
      ∷ look seen27 6 (key_of 255 0) (accepted (presence (presence_of (key_of 255 0) (value_of 2) (step true h14 ∷ step true h57 ∷ [])))) (accepted (present (value_of 2))) (accepted h76)
      ∷ look seen27 6 (key_of 8 0) (accepted (absence_of (key_of 8 0) none (some (presence_of (key_of 96 0) (value_of 3) (step false h75 ∷ []))))) (accepted absent) (accepted h76)
      ∷ look seen27 6 (key_of 96 0) (accepted (presence (presence_of (key_of 96 0) (value_of 3) (step false h75 ∷ [])))) (accepted (present (value_of 3))) (accepted h76)
      ∷ look seen27 5 (key_of 128 0) (refused 8589934595) (refused 8589934595) (accepted h76)
      ∷ look seen28 13 (key_of 8 0) (accepted (presence (presence_of (key_of 8 0) (value_of 2) (step false h0 ∷ [])))) (accepted (present (value_of 2))) (accepted h81)
      ∷ look seen28 5 (key_of 144 1) (refused 8) (refused 8) (refused 8)
      ∷ look seen28 13 (key_of 16 0) (accepted (absence_of (key_of 16 0) (some (presence_of (key_of 8 0) (value_of 2) (step false h0 ∷ []))) (some (presence_of (key_of 144 0) (value_of 2) (step true h80 ∷ []))))) (accepted absent) (accepted h81)
      ∷ look seen28 13 (key_of 16 0) (accepted (absence_of (key_of 16 0) (some (presence_of (key_of 8 0) (value_of 2) (step false h0 ∷ []))) (some (presence_of (key_of 144 0) (value_of 2) (step true h80 ∷ []))))) (accepted absent) (accepted h81)
      ∷ look seen29 6 (key_of 255 0) (refused 17) (refused 17) (accepted h84)
      ∷ look seen29 8 (key_of 254 0) (refused 8) (refused 8) (refused 8)
      ∷ look seen29 7 (key_of 192 0) (refused 17) (refused 17) (accepted h84)
      ∷ look seen29 7 (key_of 104 0) (refused 17) (accepted absent) (accepted h84)
      ∷ []

  pub looks1 : All (LookHolds leaf_hash inner_hash) rows
  unfolding computed
  looks1 = ((refl, refl, refl), ((refl, refl, refl), ((refl, refl, refl), ((refl, refl, refl), ((refl, refl, refl), ((refl, refl, refl), ((refl, refl, refl), ((refl, refl, refl), ((refl, refl, refl), ((refl, refl, refl), ((refl, refl, refl), ((refl, refl, refl), ((refl, refl, refl), ((refl, refl, refl), ((refl, refl, refl), ((refl, refl, refl), ((refl, refl, refl), ((refl, refl, refl), ((refl, refl, refl), ((refl, refl, refl), ((refl, refl, refl), ((refl, refl, refl), ((refl, refl, refl), ((refl, refl, refl), ((refl, refl, refl), ((refl, refl, refl), ((refl, refl, refl), ((refl, refl, refl), ((refl, refl, refl), ((refl, refl, refl), ((refl, refl, refl), ((refl, refl, refl), ((refl, refl, refl), ((refl, refl, refl), ((refl, refl, refl), ((refl, refl, refl), ((refl, refl, refl), ((refl, refl, refl), ((refl, refl, refl), ((refl, refl, refl), ((refl, refl, refl), ((refl, refl, refl), ((refl, refl, refl), ((refl, refl, refl), ((refl, refl, refl), ((refl, refl, refl), ((refl, refl, refl), ((refl, refl, refl), ((refl, refl, refl), ((refl, refl, refl), ((refl, refl, refl), ((refl, refl, refl), ((refl, refl, refl), ((refl, refl, refl), ((refl, refl, refl), ((refl, refl, refl), ((refl, refl, refl), ((refl, refl, refl), ((refl, refl, refl), ((refl, refl, refl), ((refl, refl, refl), ((refl, refl, refl), ((refl, refl, refl), ((refl, refl, refl), ((refl, refl, refl), ((refl, refl, refl), ((refl, refl, refl), ((refl, refl, refl), ((refl, refl, refl), ((refl, refl, refl), ((refl, refl, refl), ((refl, refl, refl), ((refl, refl, refl), ((refl, refl, refl), ((refl, refl, refl), ((refl, refl, refl), ((refl, refl, refl), ((refl, refl, refl), ((refl, refl, refl), ((refl, refl, refl), ((refl, refl, refl), ((refl, refl, refl), ((refl, refl, refl), ((refl, refl, refl), ((refl, refl, refl), ((refl, refl, refl), ((refl, refl, refl), ((refl, refl, refl), ((refl, refl, refl), ((refl, refl, refl), ((refl, refl, refl), ((refl, refl, refl), ((refl, refl, refl), ((refl, refl, refl), ((refl, refl, refl), ((refl, refl, refl), ((refl, refl, refl), ((refl, refl, refl), ((refl, refl, refl), ((refl, refl, refl), ((refl, refl, refl), ((refl, refl, refl), ((refl, refl, refl), ((refl, refl, refl), ((refl, refl, refl), ((refl, refl, refl), ((refl, refl, refl), ((refl, refl, refl), ((refl, refl, refl), ((refl, refl, refl), ((refl, refl, refl), ((refl, refl, refl), ((refl, refl, refl), ((refl, refl, refl), ((refl, refl, refl), ((refl, refl, refl), ((refl, refl, refl), ((refl, refl, refl), ((refl, refl, refl), ((refl, refl, refl), tt))))))))))))))))))))))))))))))))))))))))))))))))))))))))))))))))))))))))))))))))))))))))))))))))))))))))))))))))))))))))
