-- Whole batches there and back: the bytes of asks in form, at most 1,024, are read as those asks, and a batch in form is the bytes of what it
-- asks for. Assumes nothing.
use Prim.Native.Nat.{ℕ, zero, suc, ◌+◌, ◌*◌, ◌-◌, ◌<◌, ◌≤◌, ◌/◌, ◌%◌}
use native.Mathlib.Omega.{arith}
use mathlib.Core.Path.{◌≡◌, refl, ap, ap₂, sym, ◌∙◌}
use mathlib.Core.Bool.{Bool, true, false, cond, ◌&&◌}
use mathlib.Core.List.{List, [], ◌∷◌, ◌++◌, map}
use mathlib.Core.Option.{Option, some, none}
use lib.ListN.{length, take, drop, length-append, length-drop, take-append-drop, drop_of_length-le}
use lib.Seq.{take_at, drop_at}
use borrow.Author.Tests.{eq-eqb, ne_eqb, eqb-true, le-leb, lt-leb, leb-true}
use Rattle.terms.specs.Bits.{Bytes, Byte, All, before}
use Rattle.terms.specs.Fields.{flat, all_of}
use Rattle.terms.specs.Records.{Ask, ask_key}
use Rattle.terms.specs.Form.{AskForm}
use Rattle.terms.proofs.Tests.{and_left, and_right, and_true}
use Rattle.terms.proofs.Lists.{all_map₂}
use Rattle.terms.proofs.Fields.{all_of_tests, tests_all, test_passed, test_failed}
use Rattle.meaning.specs.Calls.{ascending}
use Rattle.batch.specs.Sizes.{record_size, most_records}
use Rattle.batch.specs.Asked.{ask_bytes, asks_bytes, AskedBy, Asks}
use Rattle.batch.specs.Batch.{ask_form, ask, records, count, records_of, asks, every, batch_form, batch_of}
use Rattle.batch.specs.Records.{record_at, ask_at}
use Rattle.batch.proofs.Asks.{length_ask, ask_form_lem, ask_says, form_bytes}
use Rattle.batch.proofs.Records.{length_records, length_asks, records_from, asks_from, records_whole, asks_whole}

pub every_all : {A : Type 0} (f : A → Bool) (xs : List A) → every f xs ≡ true → All (λ x. f x ≡ true) xs
every_all f [] h = tt
every_all f (x ∷ xs) h = (and_left (f x) (every f xs) h, every_all f xs (and_right (f x) (every f xs) h))

length_batch : (as' : List Ask) → All AskForm as' → length (asks_bytes as') ≡ record_size * length as'
unfolding asks_bytes
length_batch [] h = refl
length_batch (a ∷ as') h = length-append (ask_bytes a) (asks_bytes as') ∙ omega (arith, length_ask a h.0, length_batch as' h.1)

records_batch : (as' : List Ask) → All AskForm as' → records (length as') (asks_bytes as') ≡ map ask_bytes as'
unfolding asks_bytes records
records_batch [] h = refl
records_batch (a ∷ as') h =
    let l = length_ask a h.0 in
    ap₂ ◌∷◌ (take_at (ask_bytes a) (asks_bytes as') record_size l) (ap (records (length as')) (drop_at (ask_bytes a) (asks_bytes as') record_size l) ∙ records_batch as' h.1)

forms_batch : (as' : List Ask) → All AskForm as' → every ask_form (map ask_bytes as') ≡ true
forms_batch [] h = refl
forms_batch (a ∷ as') h = rw (ask_form_lem a h.0) (forms_batch as' h.1)

says_batch : (as' : List Ask) → All AskForm as' → map ask (map ask_bytes as') ≡ as'
says_batch [] h = refl
says_batch (a ∷ as') h = ap₂ ◌∷◌ (ask_says a h.0) (says_batch as' h.1)

-- asks in form, from bytes back
batch_of_bytes : (as' : List Ask) → All AskForm as' → length as' ≤ most_records → batch_of (asks_bytes as') ≡ some as'
unfolding batch_of batch_form asks
batch_of_bytes as' h l =
    let n = length_batch as' h in
    let c : length (asks_bytes as') / record_size ≡ length as' = omega arith in
    let r : records_of (asks_bytes as') ≡ map ask_bytes as' = ap (λ (k : ℕ). records k (asks_bytes as')) c ∙ records_batch as' h in
    let f : batch_form (asks_bytes as') ≡ true =
    tests_all _ (eq-eqb (length (asks_bytes as') % record_size) 0 (omega arith), (le-leb (count (asks_bytes as')) most_records (omega arith), (ap (every ask_form) r ∙ forms_batch as' h, tt))) in
    rw (f, r, says_batch as' h)

flat_records : (n : ℕ) (b : Bytes) → length b ≡ record_size * n → flat (records n b) ≡ b
unfolding records
flat_records zero [] h = refl
flat_records zero (x ∷ b) h = absurd (omega arith)
flat_records (suc n) b h =
    ap (take record_size b ++◌) (flat_records n (drop record_size b) (simp length-drop (omega arith))) ∙ take-append-drop record_size b

map_back : (xs : List Bytes) → All (λ x. ask_bytes (ask x) ≡ x) xs → map ask_bytes (map ask xs) ≡ xs
map_back [] h = refl
map_back (x ∷ xs) h = ap₂ ◌∷◌ h.0 (map_back xs h.1)

-- a batch in form is the bytes of what it asks for
form_batch : (b : Bytes) → All Byte b → batch_form b ≡ true → (asks_bytes (asks b) ≡ b) × (length (asks b) ≤ most_records)
unfolding batch_form asks_bytes asks
form_batch b h e =
    let t = all_of_tests _ e in
    let m = eqb-true (length b % record_size) 0 t.0 in
    let n = leb-true (count b) most_records t.1.0 in
    let k = all_map₂ _ _ (λ x. ask_bytes (ask x) ≡ x) (records_of b) (λ x u v. form_bytes x u.1 u.0 v) (records_whole b h) (every_all ask_form (records_of b) t.1.1.0) in
    (ap flat (map_back (records_of b) k) ∙ flat_records (count b) b (omega arith), omega (arith, length_asks b))

-- bytes, to asks and back
batch_of_back : (b : Bytes) (as' : List Ask) → All Byte b → batch_of b ≡ some as' → (asks_bytes as' ≡ b) × (length as' ≤ most_records) × All AskForm as'
unfolding batch_of
batch_of_back b as' h e = go (batch_form b) refl e
  where
    go : (t : Bool) → batch_form b ≡ t → cond t (some (asks b)) none ≡ some as' → (asks_bytes as' ≡ b) × (length as' ≤ most_records) × All AskForm as'
    go true f d = let g : asks b ≡ as' = cc in let k = form_batch b h f in rw (← g) (k.0, k.1, asks_whole b h)
    go false f d = let z : ◌≡◌ {A = ℕ} 0 1 = cc in absurd (omega arith)

-- a batch asks for what it is read as, and for nothing else
asked_as : {batch : Bytes} (as' : List Ask) → AskedBy batch as' → batch_of batch ≡ some as'
asked_as as' w = ap batch_of w.bytes ∙ batch_of_bytes as' w.form w.few

pub asks_read : (batch : Bytes) → All Byte batch → Asks batch (batch_of batch)
asks_read batch h = go (batch_of batch) refl
  where
    no_asks : {as' : List Ask} → none ≡ some as' → ⊥
    no_asks e = let z : ◌≡◌ {A = ℕ} 0 1 = cc in omega arith

    go : (o : Option (List Ask)) → batch_of batch ≡ o → Asks batch o
    go none e = λ as' w. no_asks (sym e ∙ asked_as as' w)
    go (some as') e = let w = batch_of_back batch as' h e in record { bytes = sym w.0; form = w.2; few = w.1 }

pub asked_one : {batch : Bytes} {as' bs : List Ask} → AskedBy batch as' → AskedBy batch bs → as' ≡ bs
asked_one {as' = as'} {bs} x y = let e : some as' ≡ some bs = sym (asked_as as' x) ∙ asked_as bs y in cc

pub asks_one : (batch : Bytes) (o o' : Option (List Ask)) → Asks batch o → Asks batch o' → o ≡ o'
asks_one batch none none x y = refl
asks_one batch none (some as') x y = absurd (x as' y)
asks_one batch (some as') none x y = absurd (y as' x)
asks_one batch (some as') (some bs) x y = ap some (asked_one x y)

-- The form of a batch, test by test: whole records, at most 1,024, and each record in form.
pub form_torn : (b : Bytes) → (length b % record_size ≡ 0 → ⊥) → batch_form b ≡ false
unfolding batch_form
form_torn b f = test_failed _ (ne_eqb (length b % record_size) 0 f)

pub form_many : (b : Bytes) → length b % record_size ≡ 0 → most_records < count b → batch_form b ≡ false
unfolding batch_form
form_many b e h = test_passed _ (eq-eqb (length b % record_size) 0 e) ∙ test_failed _ (lt-leb (count b) most_records h)

pub form_records : (b : Bytes) → length b % record_size ≡ 0 → count b ≤ most_records → batch_form b ≡ every ask_form (records_of b)
unfolding batch_form all_of
form_records b e h = rw (eq-eqb (length b % record_size) 0 e, le-leb (count b) most_records h) (and_true (every ask_form (records_of b)))

module _ (b : Bytes) (i : ℕ) where
  pub form_next : i < count b → ask_form (record_at i b) ≡ true → every ask_form (drop i (records_of b)) ≡ every ask_form (drop (i + 1) (records_of b))
  form_next h e = rw (records_from i b h, e)

  pub form_off : i < count b → ask_form (record_at i b) ≡ false → every ask_form (drop i (records_of b)) ≡ false
  form_off h e = rw (records_from i b h, e)

  pub form_end : count b ≤ i → every ask_form (drop i (records_of b)) ≡ true
  form_end h = rw (drop_of_length-le (records_of b) {i = i} (omega (arith, length_records (count b) b)))

  -- The order of a batch, key by key.
  order_here : i + 1 < count b → ascending (drop i (asks b)) ≡ before (ask_key (ask_at i b)) (ask_key (ask_at (i + 1) b)) && ascending (drop (i + 1) (asks b))
  order_here h = rw (asks_from i b (omega arith), asks_from (i + 1) b h)

  pub order_next : i + 1 < count b → before (ask_key (ask_at i b)) (ask_key (ask_at (i + 1) b)) ≡ true → ascending (drop i (asks b)) ≡ ascending (drop (i + 1) (asks b))
  order_next h e = order_here h ∙ rw e

  pub order_off : i + 1 < count b → before (ask_key (ask_at i b)) (ask_key (ask_at (i + 1) b)) ≡ false → ascending (drop i (asks b)) ≡ false
  order_off h e = order_here h ∙ rw e

  pub order_end : count b ≤ i + 1 → ascending (drop i (asks b)) ≡ true
  order_end h = one (drop i (asks b)) (simp length-drop (omega (arith, length_asks b)))
    where
      one : (as' : List Ask) → length as' ≤ 1 → ascending as' ≡ true
      one [] l = refl
      one (a ∷ []) l = refl
      one (a ∷ c ∷ as') l = absurd (omega arith)
