-- A search step by step, for a loop over lo and hi. Assumes nothing.
use Prim.Native.Nat.{ℕ, zero, suc, ◌+◌, ◌-◌, ◌/◌, ◌≤◌, ◌<◌}
use native.Mathlib.Omega.{arith}
use mathlib.Core.Path.{◌≡◌, refl, ap, ap₂, sym, ◌∙◌}
use mathlib.Core.Bool.{Bool, true, false, cond}
use mathlib.Core.List.{List}
use mathlib.Core.Option.{Option, none, some}
use lib.ListN.{length, get_or}
use lib.Dec.{ltb}
use borrow.Author.Tests.{ltb-true, lt-ltb, le-ltb}
use Rattle.terms.specs.Records.{Record, Slot, free}
use Rattle.indexed.specs.Index.{Look, too_small, too_great, meets, look_at, onwards, search_from, search}

module _ (look : Record → Look) (table : List ℕ) (s : List Slot) where
  abbrev go_on : ℕ → ℕ → ℕ → Option Record
  go_on n lo hi = search_from n look table s lo hi

  -- What a look at the entry in the middle says.
  abbrev pub in_middle : ℕ → ℕ → Look
  in_middle lo hi = look_at look (get_or s (get_or table ((lo + hi) / 2) (length s)) free)

  done : (n lo hi : ℕ) → hi ≤ lo → go_on n lo hi ≡ none
  done zero lo hi l = refl
  done (suc n) lo hi l =
      ap (λ b. cond b (onwards (in_middle lo hi) (go_on n (suc ((lo + hi) / 2)) hi) (go_on n lo ((lo + hi) / 2))) none) (le-ltb lo hi l)

  -- more looks than entries between make no difference
  enough : (n m lo hi : ℕ) → hi ≤ lo + n → hi ≤ lo + m → go_on n lo hi ≡ go_on m lo hi
  enough zero m lo hi a b = sym (done m lo hi (omega arith))
  enough (suc n) zero lo hi a b = done (suc n) lo hi (omega arith)
  enough (suc n) (suc m) lo hi a b =
      go (ltb lo hi) refl
      (λ l. enough n m (suc ((lo + hi) / 2)) hi (omega arith) (omega arith))
      (λ l. enough n m lo ((lo + hi) / 2) (omega arith) (omega arith))
    where
      go : (c : Bool) → ltb lo hi ≡ c →
          (lo < hi → go_on n (suc ((lo + hi) / 2)) hi ≡ go_on m (suc ((lo + hi) / 2)) hi) →
          (lo < hi → go_on n lo ((lo + hi) / 2) ≡ go_on m lo ((lo + hi) / 2)) →
          cond c (onwards (in_middle lo hi) (go_on n (suc ((lo + hi) / 2)) hi) (go_on n lo ((lo + hi) / 2))) none
          ≡ cond c (onwards (in_middle lo hi) (go_on m (suc ((lo + hi) / 2)) hi) (go_on m lo ((lo + hi) / 2))) none
      go true e up down = let l = ltb-true lo hi e in ap₂ (λ x y. onwards (in_middle lo hi) x y) (up l) (down l)
      go false e up down = refl

  -- A search that has come to lo and hi.
  pub record Between (lo hi : ℕ) : Type 0 where
    pub ordered : lo ≤ hi
    pub within : hi ≤ length s
    pub same : search look table s ≡ go_on (length s) lo hi

  pub search_start : Between 0 (length s)
  unfolding search
  search_start = record { ordered = omega arith; within = omega arith; same = refl }

  one_look : (lo hi : ℕ) → lo < hi → hi ≤ length s → (n : ℕ) → length s ≡ suc n →
      go_on (length s) lo hi ≡ onwards (in_middle lo hi) (go_on n (suc ((lo + hi) / 2)) hi) (go_on n lo ((lo + hi) / 2))
  one_look lo hi l h n e =
      ap (λ k. go_on k lo hi) e
      ∙ ap (λ b. cond b (onwards (in_middle lo hi) (go_on n (suc ((lo + hi) / 2)) hi) (go_on n lo ((lo + hi) / 2))) none) (lt-ltb lo hi l)

  module _ {lo hi : ℕ} (here : Between lo hi) where
    -- The middle lies between.
    pub middle : lo < hi → (lo ≤ (lo + hi) / 2) × ((lo + hi) / 2 < hi)
    middle l = (omega arith, omega arith)

    pub search_above : lo < hi → in_middle lo hi ≡ too_small → Between (suc ((lo + hi) / 2)) hi
    search_above l e = record {
      ordered = omega arith;
      within = here.within;
      same =
          here.same
          ∙ (one_look lo hi l here.within (length s - 1) (omega (arith, here.within))
          ∙ (ap (λ x. onwards x (go_on (length s - 1) (suc ((lo + hi) / 2)) hi) (go_on (length s - 1) lo ((lo + hi) / 2))) e
          ∙ enough (length s - 1) (length s) (suc ((lo + hi) / 2)) hi (omega (arith, here.within)) (omega (arith, here.within))));
    }

    pub search_below : lo < hi → in_middle lo hi ≡ too_great → Between lo ((lo + hi) / 2)
    search_below l e = record {
      ordered = omega arith;
      within = omega (arith, here.within);
      same =
          here.same
          ∙ (one_look lo hi l here.within (length s - 1) (omega (arith, here.within))
          ∙ (ap (λ x. onwards x (go_on (length s - 1) (suc ((lo + hi) / 2)) hi) (go_on (length s - 1) lo ((lo + hi) / 2))) e
          ∙ enough (length s - 1) (length s) lo ((lo + hi) / 2) (omega (arith, here.within)) (omega (arith, here.within))));
    }

    pub search_met : (r : Record) → lo < hi → in_middle lo hi ≡ meets r → search look table s ≡ some r
    search_met r l e =
        here.same
        ∙ (one_look lo hi l here.within (length s - 1) (omega (arith, here.within))
        ∙ ap (λ x. onwards x (go_on (length s - 1) (suc ((lo + hi) / 2)) hi) (go_on (length s - 1) lo ((lo + hi) / 2))) e)

    pub search_over : hi ≤ lo → search look table s ≡ none
    search_over l = here.same ∙ done (length s) lo hi l
