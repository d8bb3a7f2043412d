-- What is claimed of the list of changes from some grants to others. Assumes nothing.
use Rattle.std.specs.Prelude.{◌≡◌, true, List, [], ◌∷◌, map}
use Rattle.terms.specs.Bits.{Bytes, All, filter, before, same_bytes}
use Rattle.terms.specs.Records.{Grant}
use Rattle.meaning.specs.Tree.{with_batch}
use Rattle.meaning.specs.Reading.{answer_of}
use Rattle.changed.specs.Changes.{Change, change_key, between, items, ask_of}

-- In key order: each key before all that follow, so each once.
abbrev pub KeyOrder : {A : Type 0} → (A → Bytes) → List A → Type 0
KeyOrder key [] = Unit {0}
KeyOrder key (x ∷ xs) = All (λ y. before (key x) (key y) ≡ true) xs × KeyOrder key xs

-- The list says of every key exactly what became of it; applied in the mind to the first grants it gives the second.
pub record WhatChanged (a b : List Grant) (cs : List Change) : Type 0 where
  pub exact : (k : Bytes) → filter (λ c. same_bytes k (change_key c)) cs ≡ between k (answer_of k a) (answer_of k b)
  pub ordered : KeyOrder change_key cs
  pub applied : with_batch (map ask_of (items cs)) a ≡ b
