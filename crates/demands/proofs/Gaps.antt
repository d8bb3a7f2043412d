-- Document 02, 2026-13, beside 01: where each batch is given latest + 1, roots are as in 01. The store after public calls is that after the
-- calls of the definitions, so their theorem speaks of it. Assumes nothing.
use Prim.Native.Nat.{ℕ, ◌≤◌}
use mathlib.Core.Path.{◌≡◌, refl, ap, sym, ◌∙◌, subst}
use mathlib.Core.Bool.{Bool, true, false, cond}
use mathlib.Core.List.{List, [], ◌∷◌}
use mathlib.Core.Option.{Option}
use lib.ListN.{length}
use lib.Dec.{eqb}
use borrow.Author.Tests.{eqb-true, eqb-false}
use Rattle.terms.specs.declared.Form.TheVariants.{Plain as plain, Counted as counted}
use Rattle.terms.specs.Bits.{Bytes, All}
use Rattle.terms.specs.Form.{top32}
use Rattle.terms.specs.Records.{Ask, Store}
use Rattle.meaning.specs.Store.{formatted, root_of, find}
use Rattle.meaning.specs.Sound.{Sound, Kept}
use Rattle.meaning.specs.Calls.{refused, accepted, Result, apply}
use Rattle.meaning.specs.History.{Call, formatting, applying, pruning, taking, looking, Entry, entry, held}
use Rattle.meaning.specs.Course.{CallForm, after, run}
use Rattle.histories.specs.Claims.{NoGap}
use Rattle.histories.specs.Gaps.{NoGaps}
use Rattle.histories.proofs.Histories.{keeps_calls}
use Rattle.histories.proofs.Theorems as laws
use Rattle.nodehash.specs.Node.{leaf_hash, inner_hash}
use Rattle.layout.specs.Sizes.{room_of}
use Rattle.layout.specs.Headers.{size_right}
use Rattle.layout.specs.Stores.{store_in, store_of, slots_as}
use Rattle.layout.proofs.Headers.{size_says}
use Rattle.layout.proofs.Stores.{length_slots}
use Rattle.batch.specs.Asked.{Asks}
use Rattle.contracts.specs.Format.{format_bytes}
use Rattle.contracts.specs.Apply.{told}
use Rattle.meaning.specs.Answers.{Exports, exports_refusal, exports_answer}
use Rattle.promises.specs.Calls.{not_checked, refuses, accepts, Does}
use Rattle.promises.proofs.Calls.{sound_passes}
use Rattle.demands.specs.Calls.{taken_over, Called, formats, applies, prunes, Calls, none_yet, then_called, WithoutGaps, Life, rescues_into, moves_over, looks, formats_both, applies_both, prunes_both}
use Rattle.contracts.specs.Contracts.{Formats, Prunes, PrunesIndexed}
use Rattle.demands.proofs.Hashes.{leaf_hash_whole, inner_hash_whole}
use Rattle.demands.proofs.Stored.{stored_is, formatted_form, prune_form, apply_form}
use Rattle.demands.proofs.Refusals.{refused_format_writes_nothing, refused_apply_writes_nothing, refused_prune_writes_nothing, refused_rescue_writes_nothing, refused_over_writes_nothing}
use Rattle.demands.proofs.Tabled.{refused_format_indexed_writes_nothing, refused_apply_indexed_writes_nothing, refused_prune_indexed_writes_nothing, format_as_plain, apply_as_plain, accepted_prune_keeps_the_table}
use Rattle.demands.proofs.Histories.{Keeping, sound_bytes, size_right_lem, asks_form, called_keeps, formatted_keeps}

-- what a call did to the store: a refused one only looked
abbrev done_by : Call → Bool → Call
done_by c true = c
done_by c false = looking

as_done : (c : Call) (b : Bool) (st : Store) → cond b (NoGap c st) (Unit {0}) → NoGap (done_by c b) st
as_done c true st g = g
as_done c false st g = tt

-- what was called, accepted or not
abbrev calls_of : List (Call × Bool) → List Call
calls_of [] = []
calls_of (e ∷ history) = done_by e.0 e.1 ∷ calls_of history

slots_many : (s : Bytes) → length (store_of s).slots ≡ room_of counted (length s)
unfolding slots_as
slots_many s = length_slots counted (room_of counted (length s)) _

-- formatting leaves the bytes of a formatted store
fresh_is : (s : Bytes) → size_right counted (length s) ≡ true → store_of (format_bytes s) ≡ formatted (room_of counted (length s))
fresh_is s e =
    let z = size_says counted (length s) e in
    rw e (stored_is (formatted (room_of counted (length s))) (formatted_form _) (laws.formatted_is_sound leaf_hash inner_hash (room_of counted (length s)) z.1 z.2))

-- the store after a call that tests soundness
export_after : {A : Type 0} {call : Store → Result A} {told : A → Bytes} {s f t g : Bytes} {r : ℕ} {es : List Entry} →
    Exports (λ a. Does call s a t) told f r g → Keeping s es → ((m : ℕ) → (call (store_of s)).answer ≡ refused m → (call (store_of s)).store ≡ store_of s) →
    (call (store_of s)).store.form ≡ counted → Sound leaf_hash inner_hash (call (store_of s)).store → store_of t ≡ (call (store_of s)).store
export_after (exports_refusal (not_checked c n)) k same form sound = sound_passes (sound_bytes k) c n
export_after (exports_refusal {n = m} (refuses w e)) k same form sound = sym (same m e)
export_after (exports_answer (accepts w e)) k same form sound = stored_is _ form sound

-- and after any public call
module _ {s : Bytes} {es : List Entry} (k : Keeping s es) where
  sound_after : (c : Call) → CallForm c → Sound leaf_hash inner_hash (after leaf_hash inner_hash c (store_of s))
  sound_after c f =
      (keeps_calls leaf_hash inner_hash leaf_hash_whole inner_hash_whole (c ∷ []) (store_of s) es (f, tt) k.keeps).sound

  -- a refused call changed nothing
  settled_after : (c : Call) {t : Bytes} (r : ℕ) → ((r ≡ 0 → ⊥) → t ≡ s) → (r ≡ 0 → NoGap c (store_of s) → store_of t ≡ after leaf_hash inner_hash c (store_of s)) →
      NoGap (done_by c (eqb r 0)) (store_of s) → store_of t ≡ after leaf_hash inner_hash (done_by c (eqb r 0)) (store_of s)
  settled_after c {t} r same then = go (eqb r 0) refl
    where
      go : (b : Bool) → eqb r 0 ≡ b → NoGap (done_by c b) (store_of s) → store_of t ≡ after leaf_hash inner_hash (done_by c b) (store_of s)
      go true e gap = then (eqb-true r 0 e) gap
      go false e gap = ap store_of (same (eqb-false r 0 e))

  format_after : {t : Bytes} {r : ℕ} → Formats s r t → store_of t ≡ after leaf_hash inner_hash formatting (store_of s)
  format_after w = ap store_of w.bytes ∙ fresh_is s (size_right_lem k) ∙ ap formatted (sym (slots_many s))

  apply_after : (number : ℕ) (batch : Bytes) (o : Option (List Ask)) {f t g : Bytes} {r : ℕ} → number ≤ top32 → Asks batch o →
      Exports (λ a. Does (apply leaf_hash inner_hash number o) s a t) told f r g → store_of t ≡ after leaf_hash inner_hash (applying number o) (store_of s)
  apply_after number batch o small h w =
      export_after w k (λ m e. laws.refused_apply_writes_nothing leaf_hash inner_hash number o (store_of s) m e)
      (apply_form number o (store_of s)) (sound_after (applying number o) (asks_form number batch o small h))

  prune_after : (n : ℕ) {f t g : Bytes} {r : ℕ} → Prunes n s f r t g → store_of t ≡ after leaf_hash inner_hash (pruning n) (store_of s)
  prune_after n w =
      export_after w k (λ m e. laws.refused_prune_writes_nothing leaf_hash inner_hash n (store_of s) m e) (prune_form n (store_of s)) (sound_after (pruning n) tt)

  called_after : {e : Call × Bool} {t : Bytes} → Called s e t → NoGap (done_by e.0 e.1) (store_of s) →
      store_of t ≡ after leaf_hash inner_hash (done_by e.0 e.1) (store_of s)
  called_after (formats {r = r} w) gap = settled_after formatting r (λ z. refused_format_writes_nothing w z) (λ z g. format_after w) gap
  called_after (applies number batch {r = r} small w) gap =
      settled_after (applying number w.asked) r (λ z. (refused_apply_writes_nothing number batch w z).0)
      (λ z g. apply_after number batch w.asked small w.asks w.applied) gap
  called_after (prunes {n} {r} w) gap = settled_after (pruning n) r (λ z. (refused_prune_writes_nothing n w z).0) (λ z g. prune_after n w) gap
  called_after (formats_both {r = r} w) gap =
      settled_after formatting r (λ z. (refused_format_indexed_writes_nothing z w).0) (λ z g. format_after (format_as_plain w z)) gap
  called_after (applies_both number batch {r = r} small w) gap =
      settled_after (applying number w.asked) r (λ z. (refused_apply_indexed_writes_nothing z number batch w).0)
      (λ z d. apply_after number batch w.asked small w.asks (apply_as_plain number batch w z).0) gap
  called_after (prunes_both {table} {u} {n} {r} {f} {t} {g} w) gap =
      settled_after (pruning n) r (λ z. (refused_prune_indexed_writes_nothing z n w).0)
      (λ z d. prune_after n (accepted_prune_keeps_the_table n (subst (λ m. PrunesIndexed n s table f m t u g) z w)).0) gap
  called_after (rescues_into {latest = latest} {r = r} {source = source} {g = g} n h w) gap =
      settled_after (taking (taken_over source latest g)) r (λ z. (refused_rescue_writes_nothing w z).0) (λ z d. absurd d) gap
  called_after (moves_over {r = r} {source = source} h w) gap =
      settled_after (taking (held (store_in plain source))) r (λ z. refused_over_writes_nothing w z) (λ z d. absurd d) gap
  called_after looks gap = refl

done_form : (c : Call) (b : Bool) → CallForm c → CallForm (done_by c b)
done_form c true f = f
done_form c false f = tt

form_of : {s t : Bytes} {e : Call × Bool} → Called s e t → CallForm (done_by e.0 e.1)
form_of (formats {r = r} w) = done_form formatting (eqb r 0) tt
form_of (applies number batch {r = r} small w) = done_form (applying number w.asked) (eqb r 0) (asks_form number batch w.asked small w.asks)
form_of (prunes {n} {r} w) = done_form (pruning n) (eqb r 0) tt
form_of (formats_both {r = r} w) = done_form formatting (eqb r 0) tt
form_of (applies_both number batch {r = r} small w) = done_form (applying number w.asked) (eqb r 0) (asks_form number batch w.asked small w.asks)
form_of (prunes_both {n = n} {r = r} w) = done_form (pruning n) (eqb r 0) tt
form_of (rescues_into {latest = latest} {r = r} {source = source} {g = g} n h w) = done_form (taking (taken_over source latest g)) (eqb r 0) tt
form_of (moves_over {r = r} {source = source} h w) = done_form (taking (held (store_in plain source))) (eqb r 0) tt
form_of looks = tt

-- a sequence of public calls is one of the definitions' calls
forms_of : {s t : Bytes} {history : List (Call × Bool)} → Calls s history t → All CallForm (calls_of history)
forms_of none_yet = tt
forms_of (then_called c calls) = (form_of c, forms_of calls)

calls_after : {s t : Bytes} {history : List (Call × Bool)} (es : List Entry) (calls : Calls s history t) → WithoutGaps calls → Keeping s es →
    store_of t ≡ run leaf_hash inner_hash (calls_of history) (store_of s)
calls_after es none_yet g k = refl
calls_after {s} {history = e ∷ history} es (then_called c calls) g k =
    calls_after _ calls g.1 (called_keeps es c k)
    ∙ ap (run leaf_hash inner_hash (calls_of history)) (called_after k c (as_done e.0 e.1 (store_of s) g.0))

no_gaps : {s t : Bytes} {history : List (Call × Bool)} (es : List Entry) (calls : Calls s history t) → WithoutGaps calls → Keeping s es →
    NoGaps leaf_hash inner_hash (calls_of history) (store_of s)
no_gaps es none_yet g k = tt
no_gaps {s} {history = e ∷ history} es (then_called c calls) g k =
    let done = as_done e.0 e.1 (store_of s) g.0 in
    (done, subst (NoGaps leaf_hash inner_hash (calls_of history)) (called_after k c done) (no_gaps _ calls g.1 (called_keeps es c k)))

-- Where each batch was given latest + 1, the root of a kept version v is the record of version v at the empty place, or none.
pub without_gaps_roots_are_as_in_01 : {before s t : Bytes} {history : List (Call × Bool)} → Formats before 0 s → (calls : Calls s history t) →
    WithoutGaps calls → (v : ℕ) → Kept (store_of t) v → root_of (store_of t) v ≡ find v [] (store_of t).slots
without_gaps_roots_are_as_in_01 {before} {s} {t} {history} w calls gaps =
    let (size, k) = formatted_keeps w in
    let n = room_of counted (length before) in
    let z = size_says counted (length before) size in
    let fresh : store_of s ≡ formatted n = ap store_of w.bytes ∙ fresh_is before size in
    let now : store_of t ≡ run leaf_hash inner_hash (calls_of history) (formatted n) =
    calls_after _ calls gaps k ∙ ap (run leaf_hash inner_hash (calls_of history)) fresh in
    subst (λ st. (v : ℕ) → Kept st v → root_of st v ≡ find v [] st.slots) (sym now)
    (laws.without_gaps_roots_are_as_in_01 leaf_hash inner_hash leaf_hash_whole inner_hash_whole n z.1 z.2 (calls_of history)
    (forms_of calls) (subst (NoGaps leaf_hash inner_hash (calls_of history)) fresh (no_gaps _ calls gaps k)))
