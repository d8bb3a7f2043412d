-- Finding by looking at every slot: a record is matched exactly where one is found, and the lowest spoilt slot is the one named. A store whose
-- slots are all free or in form has none. Assumes nothing.
use Prim.Native.Nat.{ℕ, zero, suc, ◌+◌, ◌<◌}
use native.Mathlib.Omega.{arith}
use native.Mathlib.Nat.{le_of_suc-le-suc, not-suc-le-zero}
use mathlib.Core.Path.{◌≡◌, refl, ap, subst}
use mathlib.Core.Bool.{Bool, true, false, cond}
use mathlib.Core.List.{List, [], ◌∷◌}
use mathlib.Core.Option.{Option, none, some}
use lib.ListN.{length, get_or}
use Rattle.terms.specs.Bits.{Bytes, Place}
use Rattle.terms.specs.Records.{Record, Slot, free, used, spoiled, Store}
use Rattle.meaning.specs.Store.{find, root_of}
use Rattle.meaning.specs.Sight.{matches, nothing, agrees, agrees_root, lowest_spoilt, sighted, root_sight, node_sight}

pub free_spoiled : {A : Type 0} (x : Bytes) → free ≡ spoiled x → A
free_spoiled x e = let z : ◌≡◌ {A = ℕ} 0 1 = cc in absurd (omega arith)

pub used_spoiled : {A : Type 0} (r : Record) (x : Bytes) → used r ≡ spoiled x → A
used_spoiled r x e = let z : ◌≡◌ {A = ℕ} 0 1 = cc in absurd (omega arith)

pub spoiled_eq : (x y : Bytes) → spoiled x ≡ spoiled y → x ≡ y
spoiled_eq x y e = cc

-- the lowest spoilt slot that passes a test, where the list begins with slot i; if there is none, no spoilt slot passes
pub data Spoilt (test : Bytes → Bool) (i : ℕ) (s : List Slot) : Option ℕ → Type 0 where
  none_spoilt : ((j : ℕ) (x : Bytes) → j < length s → get_or s j free ≡ spoiled x → test x ≡ false) → Spoilt test i s none
  spoilt_in : (j : ℕ) (x : Bytes) → j < length s → get_or s j free ≡ spoiled x → test x ≡ true →
      ((k : ℕ) (y : Bytes) → k < j → get_or s k free ≡ spoiled y → test y ≡ false) → Spoilt test i s (some (i + j))

module _ (test : Bytes → Bool) where
  push : (y : Slot) (i : ℕ) (s : List Slot) (o : Option ℕ) → ((x : Bytes) → y ≡ spoiled x → test x ≡ false) → Spoilt test (suc i) s o →
      Spoilt test i (y ∷ s) o
  push y i s none k (none_spoilt f) =
      none_spoilt go
    where
      go : (j : ℕ) (x : Bytes) → j < length (y ∷ s) → get_or (y ∷ s) j free ≡ spoiled x → test x ≡ false
      go zero x l e = k x e
      go (suc m) x l e = f m x (le_of_suc-le-suc l) e
  push y i s (some n) k (spoilt_in j x l e t f) =
      subst (λ m. Spoilt test i (y ∷ s) (some m)) (omega arith)
      (spoilt_in (suc j) x (omega arith) e t
      go)
    where
      go : (m : ℕ) (z : Bytes) → m < suc j → get_or (y ∷ s) m free ≡ spoiled z → test z ≡ false
      go zero z h g = k z g
      go (suc n) z h g = f n z (le_of_suc-le-suc h) g

  passes : (x : Bytes) (i : ℕ) (s : List Slot) (b : Bool) → test x ≡ b → Spoilt test (suc i) s (lowest_spoilt test (suc i) s) →
      Spoilt test i (spoiled x ∷ s) (cond b (some i) (lowest_spoilt test (suc i) s))
  passes x i s true e h =
      subst (λ m. Spoilt test i (spoiled x ∷ s) (some m)) (omega arith)
      (spoilt_in 0 x (omega arith) refl e (λ k y l g. absurd (not-suc-le-zero l)))
  passes x i s false e h = push (spoiled x) i s _ (λ y u. rw (← spoiled_eq x y u) e) h

  pub spoilt_is : (i : ℕ) (s : List Slot) → Spoilt test i s (lowest_spoilt test i s)
  spoilt_is i [] = none_spoilt (λ j x l e. absurd (not-suc-le-zero l))
  spoilt_is i (free ∷ s) = push free i s _ (λ x u. free_spoiled x u) (spoilt_is (suc i) s)
  spoilt_is i (used r ∷ s) = push (used r) i s _ (λ x u. used_spoiled r x u) (spoilt_is (suc i) s)
  spoilt_is i (spoiled x ∷ s) = passes x i s _ refl (spoilt_is (suc i) s)

  -- a list without spoilt slots names none
  pub none_of_whole : (i : ℕ) (s : List Slot) → ((j : ℕ) (x : Bytes) → j < length s → get_or s j free ≡ spoiled x → ⊥) →
      lowest_spoilt test i s ≡ none
  none_of_whole i s whole = go _ (spoilt_is i s)
    where
      go : (o : Option ℕ) → Spoilt test i s o → o ≡ none
      go none h = refl
      go (some n) (spoilt_in j x l e t f) = absurd (whole j x l e)

-- what is sighted, by what is found
pub sighted_some : (o : Option Record) (n : Option ℕ) (r : Record) → o ≡ some r → sighted o n ≡ matches r
sighted_some o n r e = ap (λ q. sighted q n) e

pub some_sighted : (o : Option Record) (n : Option ℕ) (r : Record) → sighted o n ≡ matches r → o ≡ some r
some_sighted none none r e = let z : ◌≡◌ {A = ℕ} 0 1 = cc in absurd (omega arith)
some_sighted none (some i) r e = let z : ◌≡◌ {A = ℕ} 0 1 = cc in absurd (omega arith)
some_sighted (some q) n r e = let z : q ≡ r = cc in ap some z

module _ (st : Store) (v : ℕ) where
  -- a slot in form matches exactly where a record is found
  pub root_sighted : (r : Record) → root_of st v ≡ some r → root_sight st v ≡ matches r
  unfolding root_sight
  root_sighted r e = sighted_some (root_of st v) _ r e

  pub sighted_root : (r : Record) → root_sight st v ≡ matches r → root_of st v ≡ some r
  unfolding root_sight
  sighted_root r e = some_sighted (root_of st v) _ r e

  module _ (p : Place) where
    pub node_sighted : (r : Record) → find v p st.slots ≡ some r → node_sight st v p ≡ matches r
    unfolding node_sight
    node_sighted r e = sighted_some (find v p st.slots) _ r e

    pub sighted_node : (r : Record) → node_sight st v p ≡ matches r → find v p st.slots ≡ some r
    unfolding node_sight
    sighted_node r e = some_sighted (find v p st.slots) _ r e

  -- where each slot is free or in form, nothing is spoilt
  module _ (whole : (i : ℕ) (x : Bytes) → i < length st.slots → get_or st.slots i free ≡ spoiled x → ⊥) where
    pub whole_root : root_sight st v ≡ sighted (root_of st v) none
    unfolding root_sight
    whole_root = rw (none_of_whole (agrees_root v) 0 st.slots whole)

    pub no_root_sighted : root_of st v ≡ none → root_sight st v ≡ nothing
    unfolding root_sight
    no_root_sighted e = rw (e, none_of_whole (agrees_root v) 0 st.slots whole)

    pub no_node_sighted : (p : Place) → find v p st.slots ≡ none → node_sight st v p ≡ nothing
    unfolding node_sight
    no_node_sighted p e = rw (e, none_of_whole (agrees v p) 0 st.slots whole)
