-- The desk's table over the bytes: its stores are sound, one after the other, so the contracts admit what the table says, and nothing else.
-- Assumes nothing.
use Prim.Native.Nat.{ℕ}
use native.Mathlib.Omega.{arith}
use mathlib.Core.Path.{◌≡◌, refl, ap, sym, ◌∙◌, subst}
use mathlib.Core.Logic.{◌↔◌}
use mathlib.Core.Bool.{Bool, true, ◌&&◌}
use mathlib.Core.List.{List, [], ◌∷◌}
use mathlib.Core.Option.{some, none}
use lib.ListN.{length, get_or}
use lib.Dec.{eqb, ltb, leb}
use borrow.Author.Tests.{eqb-true, ltb-true, leb-true}
use Rattle.terms.specs.declared.Form.TheVariants.{Counted as counted}
use Rattle.terms.specs.Bits.{Bytes, Byte, Whole32, All}
use Rattle.terms.specs.Fields.{le}
use Rattle.terms.specs.Records.{Ask, insert, delete, Store}
use Rattle.terms.specs.Form.{top32, AskForm}
use Rattle.terms.proofs.Tests.{and_left, and_right}
use Rattle.meaning.specs.Store.{formatted}
use Rattle.meaning.specs.Sound.{Sound}
use Rattle.meaning.specs.Calls.{Answer, refused, accepted, Result, Applied, apply, prune}
use Rattle.meaning.specs.Answers.{number_of, told_of, Exports, exports_refusal, exports_answer}
use Rattle.meaning.proofs.Told.{exported_as}
use Rattle.meaning.specs.Reading.{read_root}
use Rattle.meaning.specs.Desk.{Row, applies, prunes, reads, table, four, s₁}
use Rattle.meaning.specs.DeskGaps.{RowHolds, gaps, not_above, g₅, g₉}
use Rattle.meaning.proofs.Desk.{desk, desk_gaps, not_above_lem}
use Rattle.histories.proofs.Theorems.{formatted_is_sound, prune_keeps_sound, apply_keeps_sound, refused_apply_writes_nothing, refused_prune_writes_nothing}
use Rattle.nodehash.specs.Node.{leaf_hash, inner_hash}
use Rattle.layout.specs.Stores.{store_of, store_bytes}
use Rattle.batch.specs.Asked.{asks_bytes, AskedBy}
use Rattle.batch.proofs.Batches.{asks_one}
use Rattle.promises.specs.Calls.{Does, refuses, accepts}
use Rattle.promises.proofs.Calls.{one_export}
use Rattle.contracts.specs.Reads.{root_answer}
use Rattle.contracts.specs.Apply.{told}
use Rattle.contracts.specs.Contracts.{Applies}
use Rattle.demands.specs.Desk.{RowOverBytes}
use Rattle.demands.proofs.Hashes.{leaf_hash_whole, inner_hash_whole}
use Rattle.demands.proofs.Stored.{stored_is, stored_sound, formatted_form, prune_form, apply_form}

-- asks in form, by computing
abbrev bytes_test : Bytes → Bool
bytes_test [] = true
bytes_test (x ∷ xs) = ltb x 256 && bytes_test xs

bytes_by : (x : Bytes) → bytes_test x ≡ true → All Byte x
bytes_by [] h = tt
bytes_by (x ∷ xs) h = (ltb-true x 256 (and_left (ltb x 256) (bytes_test xs) h), bytes_by xs (and_right (ltb x 256) (bytes_test xs) h))

abbrev whole_test : Bytes → Bool
whole_test x = eqb (length x) 32 && bytes_test x

whole_by : (x : Bytes) → whole_test x ≡ true → Whole32 x
whole_by x h =
    (eqb-true (length x) 32 (and_left (eqb (length x) 32) (bytes_test x) h), bytes_by x (and_right (eqb (length x) 32) (bytes_test x) h))

abbrev ask_test : Ask → Bool
ask_test (insert k x) = whole_test k && whole_test x
ask_test (delete k) = whole_test k

ask_by : (a : Ask) → ask_test a ≡ true → AskForm a
ask_by (insert k x) h = (whole_by k (and_left (whole_test k) (whole_test x) h), whole_by x (and_right (whole_test k) (whole_test x) h))
ask_by (delete k) h = whole_by k h

abbrev asks_test : List Ask → Bool
asks_test [] = true
asks_test (a ∷ asks) = ask_test a && asks_test asks

asks_by : (asks : List Ask) → asks_test asks ≡ true → All AskForm asks
asks_by [] h = tt
asks_by (a ∷ asks) h = (ask_by a (and_left (ask_test a) (asks_test asks) h), asks_by asks (and_right (ask_test a) (asks_test asks) h))

-- a sound store with counts
abbrev Whole : Store → Type 0
Whole st = (st.form ≡ counted) × Sound leaf_hash inner_hash st

-- a call on the bytes of a sound store, for C, by its outcome on the store
module _ {R : Type 0} (call : Store → Result R) (told : R → Bytes) (st : Store) (s : Whole st) where
  exported : (answer : Answer R) (end : Store) (f : Bytes) → call st ≡ record { answer = answer; store = end } →
      ((n : ℕ) → answer ≡ refused n → end ≡ st) → Exports (λ a. Does call (store_bytes st) a (store_bytes end)) told f (number_of answer) (told_of told answer f)
  exported (refused n) end f e same =
      let at = ap call (stored_is st s.0 s.1) ∙ e in
      subst (λ x. Exports (λ a. Does call (store_bytes st) a (store_bytes x)) told f n f) (sym (same n refl))
      (exports_refusal (refuses (stored_sound st s.0 s.1) (ap (λ o. o.answer) at)))
  exported (accepted a) end f e same =
      let at = ap call (stored_is st s.0 s.1) ∙ e in
      subst (λ x. Exports (λ b. Does call (store_bytes st) b (store_bytes x)) told f 0 (told a)) (ap (λ o. o.store) at)
      (exports_answer (accepts (stored_sound st s.0 s.1) (ap (λ o. o.answer) at)))

  exports_exactly : (answer : Answer R) (end : Store) → call st ≡ record { answer = answer; store = end } →
      ((n : ℕ) → answer ≡ refused n → end ≡ st) → (f : Bytes) (r : ℕ) (t g : Bytes) →
      Exports (λ a. Does call (store_bytes st) a t) told f r g ↔ ((r ≡ number_of answer) × (t ≡ store_bytes end) × (g ≡ told_of told answer f))
  exports_exactly answer end e same f r t g = (there, back)
    where
      there : Exports (λ a. Does call (store_bytes st) a t) told f r g → (r ≡ number_of answer) × (t ≡ store_bytes end) × (g ≡ told_of told answer f)
      there w = one_export w (exported answer end f e same)

      back : (r ≡ number_of answer) × (t ≡ store_bytes end) × (g ≡ told_of told answer f) → Exports (λ a. Does call (store_bytes st) a t) told f r g
      back w = rw (w.0, w.1, w.2) (exported answer end f e same)

-- a row on a sound store, with a batch in form
abbrev RowReady : Row → Type 0
RowReady (applies st number batch answer end) =
    Whole st × (asks_test batch ≡ true) × (leb (length batch) 1024 ≡ true) × (leb number top32 ≡ true)
RowReady (prunes st n answer end) = Whole st
RowReady (reads st v answer) = Whole st

-- a root read on the bytes of a sound store
root_said : (st : Store) → Whole st → (v : ℕ) → root_answer (store_bytes st) none v ≡ read_root leaf_hash inner_hash st v
unfolding root_answer read_root
root_said st s v = rw (stored_sound st s.0 s.1).headed (ap (λ x. read_root leaf_hash inner_hash x v) (stored_is st s.0 s.1))

row_over_bytes : (row : Row) → RowHolds leaf_hash inner_hash row → RowReady row → RowOverBytes row
row_over_bytes (applies st number batch answer end) e w = λ f r t g.
    let is : AskedBy (asks_bytes batch) batch = record { bytes = refl; form = asks_by batch w.1; few = leb-true (length batch) 1024 w.2 } in
    let said =
    exports_exactly (apply leaf_hash inner_hash number (some batch)) told st w.0 answer end e
    (λ n h. sym (ap (λ o. o.store) e) ∙ refused_apply_writes_nothing leaf_hash inner_hash number (some batch) st n (ap (λ o. o.answer) e ∙ h)) f r t g in (
      λ x. said.0 (subst (λ o. Exports (λ a. Does (apply leaf_hash inner_hash number o) (store_bytes st) a t) told f r g)
          (asks_one (asks_bytes batch) x.asked (some batch) x.asks is) x.applied),
      λ x. record { asked = some batch; asks = is; applied = said.1 x },
    )
row_over_bytes (prunes st n answer end) e w = λ f r t g.
    exports_exactly (prune n) (le 4) st w answer end e
    (λ m h. sym (ap (λ o. o.store) e) ∙ refused_prune_writes_nothing leaf_hash inner_hash n st m (ap (λ o. o.answer) e ∙ h)) f r t g
row_over_bytes (reads st v answer) e w = λ f r g.
    let is = root_said st w v ∙ e in (
      λ x. let d = exported_as is x.exported in (d.number, d.told),
      λ x. record { exported = exported_as (sym is) (record { number = x.0; told = x.1 }) },
    )

rows_over_bytes : (rows : List Row) → All (RowHolds leaf_hash inner_hash) rows → All RowReady rows → All RowOverBytes rows
rows_over_bytes [] h w = tt
rows_over_bytes (row ∷ rows) h w = (row_over_bytes row h.0 w.0, rows_over_bytes rows h.1 w.1)

-- the store after a row is sound
abbrev SoundAfter : Row → Type 0
SoundAfter (applies st number batch answer end) = Whole end
SoundAfter (prunes st n answer end) = Whole end
SoundAfter (reads st v answer) = Whole st

sound_after : (row : Row) → RowHolds leaf_hash inner_hash row → RowReady row → SoundAfter row
sound_after (applies st number batch answer end) e w = go answer e
  where
    go : (a : Answer Applied) → apply leaf_hash inner_hash number (some batch) st ≡ record { answer = a; store = end } → Whole end
    go (refused n) e =
        subst Whole
        (sym (refused_apply_writes_nothing leaf_hash inner_hash number (some batch) st n (ap (λ o. o.answer) e)) ∙ ap (λ o. o.store) e) w.0
    go (accepted a) e =
        subst Whole (ap (λ o. o.store) e) (
          apply_form number (some batch) st ∙ w.0.0,
          (apply_keeps_sound leaf_hash inner_hash leaf_hash_whole inner_hash_whole number batch st a w.0.1 (leb-true number top32 w.3) (asks_by batch w.1)
              (ap (λ o. o.answer) e)).sound,
        )
sound_after (prunes st n answer end) e w = go answer e
  where
    go : (a : Answer ℕ) → prune n st ≡ record { answer = a; store = end } → Whole end
    go (refused m) e =
        subst Whole
        (sym (refused_prune_writes_nothing leaf_hash inner_hash n st m (ap (λ o. o.answer) e)) ∙ ap (λ o. o.store) e) w
    go (accepted a) e =
        subst Whole (ap (λ o. o.store) e) (prune_form n st ∙ w.0, (prune_keeps_sound leaf_hash inner_hash n st a w.1 (ap (λ o. o.answer) e)).sound)
sound_after (reads st v answer) e w = w

-- the rows by number; those past a table are of no use
abbrev row_of : List Row → ℕ → Row
row_of rows i = get_or rows i (prunes (formatted 20) 0 (refused 0) (formatted 20))

abbrev row_at : ℕ → Row
row_at i = row_of (table leaf_hash inner_hash) i

abbrev gap_at : ℕ → Row
gap_at i = row_of (gaps leaf_hash inner_hash) i

s20 : Whole (formatted 20)
s20 = (formatted_form 20, formatted_is_sound leaf_hash inner_hash 20 (omega arith) (omega arith))

m1 : Whole (s₁ leaf_hash inner_hash)
m1 = sound_after (row_at 0) (desk leaf_hash inner_hash).0 (s20, refl, refl, refl)

-- Each row of the desk's table is what the contracts say of the bytes.
pub desk_over_bytes : All RowOverBytes (table leaf_hash inner_hash)
desk_over_bytes =
    let h = desk leaf_hash inner_hash in
    let fresh = formatted_is_sound leaf_hash inner_hash in
    let s7 : Whole (formatted 7) = (formatted_form 7, fresh 7 (omega arith) (omega arith)) in
    let m2 = sound_after (row_at 1) h.1.0 (m1, refl, refl, refl) in
    let m3 = sound_after (row_at 2) h.1.1.0 (m2, refl, refl, refl) in
    let m4 = sound_after (row_at 3) h.1.1.1.0 (m3, refl, refl, refl) in
    let m5 = sound_after (row_at 4) h.1.1.1.1.0 (m4, refl, refl, refl) in
    let m6 = sound_after (row_at 5) h.1.1.1.1.1.0 (m5, refl, refl, refl) in
    let m7 = sound_after (row_at 6) h.1.1.1.1.1.1.0 m6 in
    let m8 = sound_after (row_at 7) h.1.1.1.1.1.1.1.0 (m7, refl, refl, refl) in
    let full = sound_after (row_at 12) h.1.1.1.1.1.1.1.1.1.1.1.1.0 (s7, refl, refl, refl) in
    rows_over_bytes (table leaf_hash inner_hash) h (
      (s20, refl, refl, refl),
      (
        (m1, refl, refl, refl),
        (
          (m2, refl, refl, refl),
          (
            (m3, refl, refl, refl),
            (
              (m4, refl, refl, refl),
              (
                (m5, refl, refl, refl),
                (
                  m6,
                  (
                    (m7, refl, refl, refl),
                    (
                      (s20, refl, refl, refl),
                      (
                        ((formatted_form 5, fresh 5 (omega arith) (omega arith)), refl, refl, refl),
                        (
                          m8,
                          (
                            m8,
                            (
                              (s7, refl, refl, refl),
                              (
                                (full, refl, refl, refl),
                                (
                                  (full, refl, refl, refl),
                                  tt,
                                ),
                              ),
                            ),
                          ),
                        ),
                      ),
                    ),
                  ),
                ),
              ),
            ),
          ),
        ),
      ),
    )

-- The stores of the rows with gaps.
s2 : Whole (formatted 2)
s2 = (formatted_form 2, formatted_is_sound leaf_hash inner_hash 2 (omega arith) (omega arith))

g5 : Whole (g₅ leaf_hash inner_hash)
g5 = sound_after (gap_at 0) (desk_gaps leaf_hash inner_hash).0 (s20, refl, refl, refl)

g9 : Whole (g₉ leaf_hash inner_hash)
g9 = sound_after (gap_at 2) (desk_gaps leaf_hash inner_hash).1.1.0 (g5, refl, refl, refl)

-- Each row with a gap is what the contracts say of the bytes,
pub gaps_over_bytes : All RowOverBytes (gaps leaf_hash inner_hash)
gaps_over_bytes =
    let h = desk_gaps leaf_hash inner_hash in
    let g7 = sound_after (gap_at 4) h.1.1.1.1.0 g9 in
    let g12 = sound_after (gap_at 7) h.1.1.1.1.1.1.1.0 (g9, refl, refl, refl) in
    let g15 = sound_after (gap_at 8) h.1.1.1.1.1.1.1.1.0 (g12, refl, refl, refl) in
    let g13 = sound_after (gap_at 11) h.1.1.1.1.1.1.1.1.1.1.1.0 g15 in
    rows_over_bytes (gaps leaf_hash inner_hash) h
    ((s20, refl, refl, refl), (g5, ((g5, refl, refl, refl), (g9, (g9, (g7, (g7, ((g9, refl, refl, refl), ((g12, refl, refl, refl), (g15, (g15, (g15, (g13, ((s2, refl, refl, refl), tt))))))))))))))

-- and each row whose number is not above latest.
pub not_above_over_bytes : All RowOverBytes (not_above leaf_hash inner_hash)
not_above_over_bytes =
    let last = sound_after (gap_at 13) (desk_gaps leaf_hash inner_hash).1.1.1.1.1.1.1.1.1.1.1.1.1.0 (s2, refl, refl, refl) in
    rows_over_bytes (not_above leaf_hash inner_hash) (not_above_lem leaf_hash inner_hash)
    ((g9, refl, refl, refl), ((g9, refl, refl, refl), ((s20, refl, refl, refl), ((last, refl, refl, refl), tt))))

-- So writing nothing fails at M1: the bytes that the contract leaves are not those that were lent.
pub writing_nothing_fails_at_m1 : {f t g : Bytes} {r : ℕ} →
    Applies 1 (asks_bytes four) (store_bytes (formatted 20)) f r t g →
    t ≡ store_bytes (formatted 20) → ⊥
unfolding formatted
writing_nothing_fails_at_m1 {f} {t} {g} {r} w e =
    let left = ((desk_over_bytes.0 f r t g).0 w).1 in
    let same = sym (stored_is (s₁ leaf_hash inner_hash) m1.0 m1.1) ∙ ap store_of (sym left ∙ e) ∙ stored_is (formatted 20) s20.0 s20.1 in
    let z : ◌≡◌ {A = ℕ} 1 0 = ap (λ st. st.latest) same in omega arith
