-- Document 01, 'The desk's example', M1 to M12 without M10, of any two hash functions. Assumes nothing.
use Rattle.std.specs.Prelude.{ℕ, List, [], ◌∷◌, ◌++◌, map, replicate, take, drop}
use Rattle.terms.specs.declared.Form.TheVariants.{Counted as counted}
use Rattle.terms.specs.Bits.{Bytes, Place, bits}
use Rattle.terms.specs.Records.{
  Grant,
  grant,
  Ask,
  insert,
  delete,
  leaf_body,
  inner_body,
  child,
  tally,
  no_tally,
  record_of,
  Slot,
  free,
  used,
  Store,
  store_from,
  zeros,
}
use Rattle.meaning.specs.Store.{formatted}
use Rattle.meaning.specs.Calls.{Answer, refused, accepted, Applied, applied_as}

-- A row: a batch on a store with its number, a pruning, or a version's root read.
pub data Row : Type 0 where
  applies : Store → ℕ → List Ask → Answer Applied → Store → Row
  prunes : Store → ℕ → Answer ℕ → Store → Row
  reads : Store → ℕ → Answer Bytes → Row

-- a key: its first byte, then zeros, then its last byte
abbrev pub key_of : ℕ → ℕ → Bytes
key_of first last = first ∷ replicate 30 0 ++ (last ∷ [])

-- such a key with a value of 32 equal bytes: A begins 00, B 010, C 011, D 1; C' is C with another value
abbrev pub granting : ℕ → ℕ → ℕ → Grant
granting first last value = grant (key_of first last) (replicate 32 value)

abbrev pub A : Grant
A = granting 0 0 1

abbrev pub B : Grant
B = granting 0b01000000 0 2

abbrev pub C : Grant
C = granting 0b01100000 0 3

abbrev pub C' : Grant
C' = granting 0b01100000 0 5

abbrev pub D : Grant
D = granting 0b10000000 0 4

abbrev pub E : Grant
E = granting 0b10000000 1 6

abbrev pub F : Grant
F = granting 0b00010000 0 2

-- the place of the first n bits of a grant's key
abbrev pub at : ℕ → Grant → Place
at n g = take n (bits g.key)

-- a leaf, and an inner node with its children's versions, hashes and counts, last the version since which it is retired
abbrev pub lf : Place → ℕ → Grant → ℕ → Slot
lf p v g r = used (record_of p v r (leaf_body g.key g.value) no_tally)

abbrev pub nd : Place → ℕ → ℕ → Bytes → ℕ → Bytes → ℕ → ℕ → ℕ → Slot
nd p v lv lh rv rh lc rc r = used (record_of p v r (inner_body (child lv lh) (child rv rh)) (tally lc rc))

-- the first of some records, each retired since the version beside it
abbrev pub since : List (ℕ → Slot) → List ℕ → List Slot
since [] versions = []
since (r ∷ rs) [] = []
since (r ∷ rs) (v ∷ versions) = r v ∷ since rs versions

abbrev pub store : ℕ → ℕ → List Slot → Store
store old new s = store_from counted old new s

abbrev pub made : ℕ → Bytes → ℕ → Answer Applied
made v root n = accepted (applied_as v root n)

abbrev pub put : Grant → Ask
put g = insert g.key g.value

-- M1's batch, and M9's.
abbrev pub four : List Ask
four = map put (A ∷ B ∷ C ∷ D ∷ [])

abbrev two : List Ask
two = map put (A ∷ F ∷ [])

module _ (leaf_hash inner_hash : Bytes → Bytes → Bytes) where
  abbrev pub h : Grant → Bytes
  h g = leaf_hash g.key g.value

  abbrev pub h01 : Bytes
  h01 = inner_hash (h B) (h C)

  abbrev pub h0 : Bytes
  h0 = inner_hash (h A) h01

  abbrev pub root₁ : Bytes
  root₁ = inner_hash h0 (h D)

  abbrev pub h0' : Bytes
  h0' = inner_hash (h A) (h C')

  abbrev pub root₂ : Bytes
  root₂ = inner_hash h0' (h D)

  -- The records of M1's batch as version v, then those of M2's as version w, in the order of their slots.
  abbrev pub of_two : ℕ → ℕ → List (ℕ → Slot)
  of_two v w =
      lf (at 3 B) v B ∷ lf (at 3 C) v C ∷ lf (at 2 A) v A ∷ nd (at 2 B) v v (h B) v (h C) 1 1
      ∷ nd (at 1 A) v v (h A) v h01 1 2 ∷ lf (at 1 D) v D ∷ nd [] v v h0 v (h D) 3 1
      ∷ lf (at 2 C) w C' ∷ nd (at 1 A) w v (h A) w (h C') 1 1 ∷ nd [] w w h0' v (h D) 2 1 ∷ []

  -- Those of M1 to M5.
  abbrev records : List (ℕ → Slot)
  records = of_two 1 2 ++ nd [] 3 2 h0' 1 (h D) 2 1 ∷ lf (at 1 C) 4 C' ∷ nd [] 4 4 (h C') 1 (h D) 1 1 ∷ lf [] 5 C' ∷ []

  -- A store of 20 slots with the first of these, retired since the versions listed.
  abbrev desk : ℕ → List ℕ → Store
  desk new versions = store 0 new (take 20 (since records versions ++ replicate 20 free))

  abbrev pub s₁ : Store
  s₁ = desk 1 (replicate 7 0)

  abbrev pub s₂ : Store
  s₂ = desk 2 (2 ∷ 2 ∷ 0 ∷ 2 ∷ 2 ∷ 0 ∷ 2 ∷ 0 ∷ 0 ∷ 0 ∷ [])

  abbrev pub s₃ : Store
  s₃ = desk 3 (2 ∷ 2 ∷ 0 ∷ 2 ∷ 2 ∷ 0 ∷ 2 ∷ 0 ∷ 0 ∷ 3 ∷ 0 ∷ [])

  abbrev pub s₄ : Store
  s₄ = desk 4 (2 ∷ 2 ∷ 4 ∷ 2 ∷ 2 ∷ 0 ∷ 2 ∷ 4 ∷ 4 ∷ 3 ∷ 4 ∷ 0 ∷ 0 ∷ [])

  abbrev pub s₅ : Store
  s₅ = desk 5 (2 ∷ 2 ∷ 4 ∷ 2 ∷ 2 ∷ 5 ∷ 2 ∷ 4 ∷ 4 ∷ 3 ∷ 4 ∷ 5 ∷ 5 ∷ 0 ∷ [])

  abbrev pub s₆ : Store
  s₆ = desk 6 (2 ∷ 2 ∷ 4 ∷ 2 ∷ 2 ∷ 5 ∷ 2 ∷ 4 ∷ 4 ∷ 3 ∷ 4 ∷ 5 ∷ 5 ∷ 6 ∷ [])

  abbrev pub s₇ : Store
  s₇ = store 4 6 (replicate 5 free ++ lf (at 1 D) 1 D 5 ∷ replicate 5 free ++ drop 11 s₆.slots)

  abbrev pub s₈ : Store
  s₈ = store 4 7 (lf [] 7 E 0 ∷ drop 1 s₇.slots)

  abbrev r3 : Bytes
  r3 = inner_hash (h A) (h F)

  abbrev r2 : Bytes
  r2 = inner_hash r3 zeros

  abbrev r1 : Bytes
  r1 = inner_hash r2 zeros

  abbrev pub s₉ : Store
  s₉ = store 0 1
      (lf (at 4 A) 1 A 0 ∷ lf (at 4 F) 1 F 0 ∷ nd (at 3 A) 1 1 (h A) 1 (h F) 1 1 0 ∷ nd (at 2 A) 1 1 r3 0 zeros 2 0 0
      ∷ nd (at 1 A) 1 1 r2 0 zeros 2 0 0 ∷ nd [] 1 1 r1 0 zeros 2 0 0 ∷ replicate 14 free)

  -- The full store of 7 slots, and all of it deleted.
  abbrev pub s₁₁ : Store
  s₁₁ = store 0 1 (since records (replicate 7 0))

  abbrev pub s₁₂ : Store
  s₁₂ = store 0 2 (since records (replicate 7 2))

  abbrev pub table : List Row
  table =
      applies (formatted 20) 1 four (made 1 root₁ 7) s₁
      ∷ applies s₁ 2 (delete B.key ∷ put C' ∷ []) (made 2 root₂ 3) s₂
      ∷ applies s₂ 3 [] (made 3 root₂ 1) s₃
      ∷ applies s₃ 4 (delete A.key ∷ []) (made 4 (inner_hash (h C') (h D)) 2) s₄
      ∷ applies s₄ 5 (delete D.key ∷ []) (made 5 (h C') 1) s₅
      ∷ applies s₅ 6 (delete C.key ∷ []) (made 6 zeros 0) s₆
      ∷ prunes s₆ 4 (accepted 10) s₇
      ∷ applies s₇ 7 (put E ∷ []) (made 7 (h E) 1) s₈
      ∷ applies (formatted 20) 1 two (made 1 (inner_hash r1 zeros) 6) s₉
      ∷ applies (formatted 5) 1 two (refused 7) (formatted 5)
      ∷ prunes s₈ 4 (accepted 0) s₈
      ∷ prunes s₈ 8 (refused 8) s₈
      ∷ applies (formatted 7) 1 four (made 1 root₁ 7) s₁₁
      ∷ applies s₁₁ 2 [] (refused 7) s₁₁
      ∷ applies s₁₁ 2 (map (λ g. delete g.key) (A ∷ B ∷ C ∷ D ∷ [])) (made 2 zeros 0) s₁₂
      ∷ []
