-- Demand 3 over the bytes: each public call keeps that the bytes are those of a sound store which holds what the history has given it, because
-- what its contract leaves are the bytes of the store that the definition leaves. Assumes nothing.
use Prim.Native.Nat.{ℕ, ◌-◌, ◌≤◌}
use native.Mathlib.Omega.{arith}
use mathlib.Core.Path.{◌≡◌, refl, ap, sym, ◌∙◌, subst}
use mathlib.Core.Bool.{Bool, true, false, cond}
use mathlib.Core.List.{List, [], ◌∷◌}
use mathlib.Core.Option.{Option, none, some}
use lib.ListN.{length}
use lib.Dec.{eqb}
use borrow.Author.Tests.{eq-eqb, ne_eqb, eqb-true, eqb-false}
use Rattle.terms.specs.declared.Form.{Form}
use Rattle.terms.specs.declared.Form.TheVariants.{Plain as plain, Counted as counted}
use Rattle.terms.specs.Bits.{Bytes, Byte, All}
use Rattle.terms.specs.Fields.{field}
use Rattle.terms.specs.Records.{Grant, Ask, Store}
use Rattle.terms.specs.Form.{top32}
use Rattle.meaning.specs.Store.{formatted}
use Rattle.meaning.specs.Sound.{Kept}
use Rattle.meaning.specs.Calls.{refused, accepted, Result}
use Rattle.meaning.specs.History.{Call, formatting, applying, pruning, Entry, entry, noted, ledger, grants_of, Holds, entries_from, held}
use Rattle.meaning.specs.Course.{CallForm}
use Rattle.histories.proofs.Histories.{Keeps, keeps_holds, keeps_held, keeps_formatted, keeps_calls}
use Rattle.histories.proofs.Theorems.{records_stand_in_their_lifetimes, paths_have_at_most_256_steps}
use Rattle.nodehash.specs.Node.{leaf_hash, inner_hash}
use Rattle.layout.specs.Sizes.{room_of}
use Rattle.layout.specs.Headers.{size_right}
use Rattle.layout.specs.Stores.{store_in, store_of, store_bytes}
use Rattle.layout.proofs.Headers.{size_right_of, size_says}
use Rattle.layout.proofs.Headers as headers
use Rattle.layout.proofs.Stores.{store_back}
use Rattle.batch.specs.Asked.{Asks}
use Rattle.contracts.specs.Format.{format_bytes}
use Rattle.promises.specs.Calls.{SoundBytes, not_checked, refuses, accepts, Does}
use Rattle.promises.proofs.Calls.{sound_passes}
use Rattle.rescue_rules.specs.Rescue.{source_tree}
use Rattle.rescue_bytes.specs.Rescues as rescue
use Rattle.rescue_bytes.specs.Rescues.{slots_in, Report, report_bytes}
use Rattle.rescue_bytes.proofs.Outcomes as rescued
use Rattle.rescue_bytes.proofs.Outcomes.{refused_leaves, accepted_report}
use Rattle.rescue_bytes.proofs.Worth.{worth}
use Rattle.rescue_bytes.proofs.Ledger.{rescued_keeps}
use Rattle.rescue_bytes.proofs.Report.{first_told}
use Rattle.move_rules.specs.Moves.{other, Moves}
use Rattle.move_rules.proofs.Outcomes.{moved_was_sound}
use Rattle.move_rules.proofs.Theorems.{accepted_move_is_worth}
use Rattle.move_rules.proofs.Ledger.{moved_keeps}
use Rattle.contracts.specs.Contracts.{Formats, Rescues, MovesOver}
use Rattle.meaning.specs.Answers.{Exports, exports_refusal, exports_answer}
use Rattle.demands.specs.Calls.{Called, formats, applies, prunes, Calls, none_yet, then_called, Life, rescues_into, moves_over, looks, Begins, by_format, by_rescue, as_found, by_over, by_back, taken_over, formats_both, applies_both, prunes_both}
use Rattle.index_rules.specs.Tables.{FormatsBoth, wrong_size, both_fresh, not_told, refuses_both, accepts_both, DoesBoth}
use Rattle.demands.specs.Claims.{grants_of_version, ReadsFor, AfterHistory}
use Rattle.demands.proofs.Hashes.{leaf_hash_whole, inner_hash_whole}
use Rattle.demands.proofs.Stored.{stored_is, stored_sound, formatted_form, prune_form, apply_form}
use Rattle.demands.proofs.Given.{told_short}
use Rattle.demands.proofs.Reading.{sound_reads_for}
use Rattle.demands.proofs.Refusals.{never_0, apply_refusals, prune_refusals, refused_over_writes_nothing}

-- what is kept of bytes of a form
pub record KeepingIn (f : Form) (s : Bytes) (es : List Entry) : Type 0 where
  pub bytes : s ≡ store_bytes (store_in f s)
  pub keeps : Keeps leaf_hash inner_hash (store_in f s) es

-- what is kept from call to call
abbrev pub Keeping : Bytes → List Entry → Type 0
Keeping s es = KeepingIn counted s es

-- the bytes of a store keep what the store does
of_store : (st : Store) (es : List Entry) → st.form ≡ counted → Keeps leaf_hash inner_hash st es → Keeping (store_bytes st) es
of_store st es form k =
    let said = stored_is st form k.sound in
    record { bytes = ap store_bytes (sym said); keeps = subst (λ x. Keeps leaf_hash inner_hash x es) (sym said) k }

module _ {s : Bytes} {es : List Entry} (k : Keeping s es) where
  -- they are those of a sound store
  pub sound_bytes : SoundBytes s
  sound_bytes = subst SoundBytes (sym k.bytes) (stored_sound (store_of s) refl k.keeps.sound)

  pub size_right_lem : size_right counted (length s) ≡ true
  size_right_lem =
      let w = sound_bytes in
      let a = headers.accepted s w.capacity w.oldest w.latest w.headed in
      size_right_of counted (length s) w.capacity a.size a.some a.fits

pub fresh_keeps : (s : Bytes) → size_right counted (length s) ≡ true → Keeping (format_bytes s) (entry 0 [] ∷ [])
fresh_keeps s e =
    let z = size_says counted (length s) e in
    rw e (of_store (formatted (room_of counted (length s))) (entry 0 [] ∷ []) (formatted_form _) (keeps_formatted leaf_hash inner_hash (room_of counted (length s)) (z.1, z.2)))

-- what formatting leaves of bytes of the right size
fresh_said : (s : Bytes) → size_right counted (length s) ≡ true → store_bytes (formatted (room_of counted (length s))) ≡ format_bytes s
fresh_said s e = rw e

-- a call that tests soundness, refused or accepted
export_keeps : {A : Type 0} {call : Store → Result A} {told : A → Bytes} {s f t g : Bytes} {r : ℕ} {es now : List Entry} →
    Exports (λ a. Does call s a t) told f r g → Keeping s es → ((m : ℕ) → (call (store_of s)).answer ≡ refused m → m ≡ 0 → ⊥) →
    (call (store_of s)).store.form ≡ counted →
    ((a : A) → (call (store_of s)).answer ≡ accepted a → Keeps leaf_hash inner_hash (call (store_of s)).store now) →
    Keeping t (cond (eqb r 0) now es)
export_keeps (exports_refusal (not_checked c n)) k never form then = sound_passes (sound_bytes k) c n
export_keeps (exports_refusal {n = m} (refuses w e)) k never form then = rw (ne_eqb m 0 (never m e)) k
export_keeps {now = now} (exports_answer {a} (accepts w e)) k never form then = of_store _ now form (then a e)

-- the same with a table
both_keeps : {A : Type 0} {call : Store → Result A} {told : A → Bytes} {s : Bytes} {table : List ℕ} {f : Bytes} {r : ℕ} {t : Bytes} {u : List ℕ} {g : Bytes} {es now : List Entry} →
    Exports (λ a. DoesBoth call s table a t u) told f r g → Keeping s es → ((m : ℕ) → (call (store_of s)).answer ≡ refused m → m ≡ 0 → ⊥) →
    (call (store_of s)).store.form ≡ counted →
    ((a : A) → (call (store_of s)).answer ≡ accepted a → Keeps leaf_hash inner_hash (call (store_of s)).store now) →
    Keeping t (cond (eqb r 0) now es)
both_keeps (exports_refusal (not_told {r} n o)) k never form then = rw (ne_eqb r 0 n) k
both_keeps {told = told} {f = f} (exports_refusal (refuses_both o c)) k never form then = export_keeps {told = told} {f = f} (exports_refusal c) k never form then
both_keeps {told = told} {f = f} (exports_answer (accepts_both o c q)) k never form then = export_keeps {told = told} {f = f} (exports_answer c) k never form then

pub asks_form : (number : ℕ) (batch : Bytes) (o : Option (List Ask)) → number ≤ top32 → Asks batch o → CallForm (applying number o)
asks_form number batch none small w = tt
asks_form number batch (some asks) small w = (small, w.form)

-- a rescue that was accepted: the target holds what it took over, whatever it held before
rescue_taken : {oldest latest : ℕ} {source before t : Bytes} (r : Report) → latest ≤ top32 → All Byte source →
    rescue.Rescues oldest latest source before (accepted r) t → Keeping t (taken_over source latest (report_bytes r))
rescue_taken {latest = latest} {source} {t = t} r n h w =
    let x = worth h n w in
    let first : field 0 4 (report_bytes r) ≡ r.first = first_told r refl (omega (arith, x.high)) in
    record {
      bytes = x.bytes;
      keeps = subst (λ f. Keeps leaf_hash inner_hash (store_of t) (entries_from (source_tree (slots_in source)) f (latest - f))) (sym first) (rescued_keeps h n w);
    }

rescue_into : {oldest latest : ℕ} {source s f : Bytes} {r : ℕ} {t g : Bytes} (es : List Entry) → latest ≤ top32 → All Byte source →
    Rescues oldest latest source s f r t g → Keeping s es → Keeping t (cond (eqb r 0) (taken_over source latest g) es)
rescue_into es n h (exports_refusal {n = m} w) k = rw (ne_eqb m 0 (rescued.never_0 w)) (subst (λ x. Keeping x es) (sym (refused_leaves w)) k)
rescue_into es n h (exports_answer {a = r} w) k = rescue_taken r n h w

-- a move that was accepted: the target takes over what the source keeps
moved_on : {from : Form} {s before t : Bytes} (es : List Entry) → All Byte s → Moves from s before 0 t → Keeps leaf_hash inner_hash (store_in from s) es →
    KeepingIn (other from) t es
moved_on es h x k = let w = accepted_move_is_worth h x in record { bytes = w.bytes; keeps = moved_keeps es w k }

moved_over : {source s t : Bytes} {r : ℕ} (es : List Entry) → All Byte source → MovesOver source s r t → Keeping s es →
    Keeping t (cond (eqb r 0) (held (store_in plain source)) es)
moved_over {source} {s} {t} {r} es h x k = go (eqb r 0) refl
  where
    go : (b : Bool) → eqb r 0 ≡ b → Keeping t (cond b (held (store_in plain source)) es)
    go true e =
        let z = eqb-true r 0 e in
        moved_on (held (store_in plain source)) h (subst (λ n. MovesOver source s n t) z x) (keeps_held leaf_hash inner_hash (store_in plain source) (moved_was_sound x z).sound)
    go false e = subst (λ y. Keeping y es) (sym (refused_over_writes_nothing x (eqb-false r 0 e))) k

-- each public call
pub called_keeps : {s t : Bytes} {e : Call × Bool} (es : List Entry) → Called s e t → Keeping s es →
    Keeping t (cond e.1 (noted e.0 es) es)
called_keeps {s} {t} es (formats {r} w) k =
    let z : r ≡ 0 = w.answer ∙ ap (λ b. cond b 0 1) (size_right_lem k) in
    let fresh : Keeping t (noted formatting es) = subst (λ x. Keeping x (entry 0 [] ∷ [])) (sym w.bytes) (fresh_keeps s (size_right_lem k)) in
    subst (λ b. Keeping t (cond b (noted formatting es) es)) (sym (eq-eqb r 0 z)) fresh
called_keeps {s} es (applies number batch small w) k =
    export_keeps w.applied k (λ m e. never_0 (4 ∷ 5 ∷ 18 ∷ 7 ∷ []) refl (apply_refusals number w.asked (store_of s) m e)) (apply_form number w.asked (store_of s))
    (λ a e.
    let f = asks_form number batch w.asked small w.asks in
    let kept = keeps_calls leaf_hash inner_hash leaf_hash_whole inner_hash_whole (applying number w.asked ∷ []) (store_of s) es (f, tt) k.keeps in
    rw e at kept)
called_keeps {s} es (prunes {n} w) k =
    export_keeps w k (λ m e. never_0 (8 ∷ []) refl (prune_refusals n (store_of s) m e)) (prune_form n (store_of s))
    (λ a e.
    let kept = keeps_calls leaf_hash inner_hash leaf_hash_whole inner_hash_whole (pruning n ∷ []) (store_of s) es (tt, tt) k.keeps in
    rw e at kept)
called_keeps {s} {t} es (formats_both {r = r} w) k = both_formatted w
  where
    both_formatted : {n : ℕ} {x : Bytes} {table u : List ℕ} → FormatsBoth s table n x u → Keeping x (cond (eqb n 0) (noted formatting es) es)
    both_formatted (wrong_size other) = k
    both_formatted (both_fresh h f e q) = subst (λ x. Keeping x (entry 0 [] ∷ [])) (sym (e ∙ fresh_said s h)) (fresh_keeps s h)
called_keeps {s} es (applies_both number batch small w) k =
    both_keeps w.applied k (λ m e. never_0 (4 ∷ 5 ∷ 18 ∷ 7 ∷ []) refl (apply_refusals number w.asked (store_of s) m e)) (apply_form number w.asked (store_of s))
    (λ a e.
    let f = asks_form number batch w.asked small w.asks in
    let kept = keeps_calls leaf_hash inner_hash leaf_hash_whole inner_hash_whole (applying number w.asked ∷ []) (store_of s) es (f, tt) k.keeps in
    rw e at kept)
called_keeps {s} es (prunes_both {n = n} w) k =
    both_keeps w k (λ m e. never_0 (8 ∷ []) refl (prune_refusals n (store_of s) m e)) (prune_form n (store_of s))
    (λ a e.
    let kept = keeps_calls leaf_hash inner_hash leaf_hash_whole inner_hash_whole (pruning n ∷ []) (store_of s) es (tt, tt) k.keeps in
    rw e at kept)
called_keeps es (rescues_into n h w) k = rescue_into es n h w k
called_keeps es (moves_over h w) k = moved_over es h w k
called_keeps es looks k = k

calls_keep : {s t : Bytes} {history : List (Call × Bool)} (es : List Entry) → Calls s history t → Keeping s es →
    Keeping t (ledger history es)
calls_keep es none_yet k = k
calls_keep {history = e ∷ _} es (then_called c calls) k = calls_keep (cond e.1 (noted e.0 es) es) calls (called_keeps es c k)

-- what a store holds, the reads answer
module _ {t : Bytes} (w : SoundBytes t) {es : List Entry} (h : Holds leaf_hash inner_hash (store_of t) es) {v : ℕ} {gs : List Grant}
    (kept : Kept (store_of t) v) (given : grants_of v es ≡ some gs) where
  same_grants_lem : (h.gives v kept).0 ≡ gs
  same_grants_lem = one (sym (h.gives v kept).1 ∙ given)
    where
      one : {x y : List Grant} → some x ≡ some y → x ≡ y
      one e = cc

  its_grants : grants_of_version t v ≡ gs
  its_grants = (h.gives v kept).3 ∙ same_grants_lem

  held_reads : ReadsFor t v gs
  held_reads = subst (ReadsFor t v) its_grants (sound_reads_for w v kept)

-- a store before the first call
pub formatted_keeps : {before t : Bytes} → Formats before 0 t → (size_right counted (length before) ≡ true) × Keeping t (entry 0 [] ∷ [])
formatted_keeps {before} w =
    let size = right _ w.answer in
    (size, subst (λ x. Keeping x (entry 0 [] ∷ [])) (sym w.bytes) (fresh_keeps before size))
  where
    right : (b : Bool) → ◌≡◌ {A = ℕ} 0 (cond b 0 1) → b ≡ true
    right true e = refl
    right false e = absurd (omega arith)

begun : {f : Form} {t : Bytes} {start : List Entry} → Begins f t start → KeepingIn f t start
begun (by_format w) = (formatted_keeps w).1
begun (by_rescue {latest = latest} {source = source} {t = t} n h w) =
    let (r, x, e) = accepted_report w refl in subst (λ y. Keeping t (taken_over source latest y)) (sym e) (rescue_taken r n h x)
begun (as_found {f} {s} h w) = record {
  bytes = sym (store_back s w.capacity w.oldest w.latest h (headers.accepted s w.capacity w.oldest w.latest w.headed));
  keeps = keeps_held leaf_hash inner_hash (store_in f s) w.sound;
}
begun (by_over {es = es} h b x) = moved_on es h x (begun b).keeps
begun (by_back {history = history} {es = es} h b calls x) = moved_on (ledger history es) h x (calls_keep es calls (begun b)).keeps

-- Demand 3. After any sequence of public calls a store that only they wrote is sound and holds what its history gives it.
pub store_after_history : {start : List Entry} {history : List (Call × Bool)} {t : Bytes} → Life start history t → AfterHistory start history t
store_after_history {start} {t = t} life =
    let k = calls_keep start life.calls (begun life.begins) in
    let h = keeps_holds leaf_hash inner_hash (store_of t) _ k.keeps in
    record {
      sound = sound_bytes k;
      bytes = k.bytes;
      holds = h;
      lifetimes = records_stand_in_their_lifetimes leaf_hash inner_hash (store_of t) _ h;
      reads = λ a b. held_reads (sound_bytes k) h a b;
      paths = paths_have_at_most_256_steps leaf_hash inner_hash (store_of t) k.keeps.sound;
      proofs = λ w. told_short w;
    }
