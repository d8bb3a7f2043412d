-- Runs: keys in order that begin with one place have their next bits in order, 0 before 1, so the records that go left are the front of the
-- run, those that go right the rest, and each part is a run at the longer place. Assumes nothing.
use Prim.Native.Nat.{ℕ, zero, suc, ◌*◌, ◌-◌, ◌<◌, ◌≤◌, ◌%◌}
use native.Mathlib.Omega.{arith}
use mathlib.Core.Path.{◌≡◌, refl, ap, sym, ◌∙◌}
use mathlib.Core.Bool.{Bool, true, false, cond, beq, false≢true}
use mathlib.Core.List.{List, [], ◌∷◌}
use lib.ListN.{length, get_or, length-take, length-drop}
use borrow.Author.Tests.{eqb-true, leb-true}
use Rattle.terms.specs.Bits.{Bytes, Byte, All, Side, Place, bits, bit, begins, before, longer, filter}
use Rattle.terms.specs.Records.{Ask, ask_key}
use Rattle.terms.specs.Form.{AskForm}
use Rattle.terms.proofs.Tests.{and_left, and_right}
use Rattle.terms.proofs.Lists.{filter_all, filter_none, filter_passed, all_filter, all_map, all_map₂, all_at}
use Rattle.terms.proofs.Places.{begins_longer}
use Rattle.terms.proofs.Order.{before_trans, before_lex, lex_mono}
use Rattle.terms.proofs.Fields.{all_of_tests}
use Rattle.meaning.specs.Calls.{ascending}
use Rattle.place.specs.declared.Place as declared
use Rattle.place.specs.Place.{place_of, Proper, Grown}
use Rattle.place.proofs.Places.{proper_count}
use Rattle.batch.specs.Sizes.{record_size, most_records}
use Rattle.batch.specs.Batch.{ask, ask_form, count, records_of, asks, batch_form}
use Rattle.batch.specs.Records.{ask_at}
use Rattle.batch.specs.Runs.{Run, RunAt, on_side, lefts, half, run_of}
use Rattle.batch.proofs.Asks.{key_whole}
use Rattle.batch.proofs.Records.{all_half, records_half, asks_half, length_asks, asks_at, asks_whole}
use Rattle.batch.proofs.Batches.{every_all}

-- A list in which the entries that go right come after all that go left.
abbrev Parted : {A : Type 0} → (A → Side) → List A → Type 0
Parted r [] = Unit {0}
Parted r (x ∷ xs) = (r x ≡ true → All (λ y. r y ≡ true) xs) × Parted r xs

module _ {A : Type 0} (r : A → Side) where
  -- The entries that go to a side.
  abbrev going : Side → List A → List A
  going b xs = filter (λ x. beq b (r x)) xs

  going_all : (xs : List A) → All (λ y. r y ≡ true) xs → (b : Side) → going b xs ≡ half b 0 xs
  going_all xs h false = filter_none (λ x. beq false (r x)) xs (all_map _ _ xs (λ x e. rw e) h)
  going_all xs h true = filter_all (λ x. beq true (r x)) xs (all_map _ _ xs (λ x e. rw e) h)

  half_more : (b : Side) (x : A) (m : ℕ) (xs : List A) → cond (beq b false) (x ∷ half b m xs) (half b m xs) ≡ half b (suc m) (x ∷ xs)
  half_more false x m xs = refl
  half_more true x m xs = refl

  -- they are a half of it
  parted_halves : (xs : List A) → Parted r xs → (b : Side) → going b xs ≡ half b (length (going false xs)) xs
  parted_halves [] h false = refl
  parted_halves [] h true = refl
  parted_halves (x ∷ xs) h b = go (r x) refl (parted_halves xs h.1 b)
    where
      go : (t : Side) → r x ≡ t → going b xs ≡ half b (length (going false xs)) xs → going b (x ∷ xs) ≡ half b (length (going false (x ∷ xs))) (x ∷ xs)
      go true e rest =
          let k : All (λ y. r y ≡ true) (x ∷ xs) = (e, h.0 e) in
          going_all (x ∷ xs) k b ∙ ap (λ (n : ℕ). half b n (x ∷ xs)) (ap length (sym (going_all (x ∷ xs) k false)))
      go false e rest = rw (e, rest) (half_more b x (length (going false xs)) xs)

  -- and the side of an entry tells in which half it stands
  parted_right : (xs : List A) → Parted r xs → (j : ℕ) (d : A) → j < length xs → r (get_or xs j d) ≡ true → length (going false xs) ≤ j
  parted_right [] h j d l e = absurd (omega arith)
  parted_right (x ∷ xs) h j d l e = go (λ i. parted_right xs h.1 i d) (r x) refl j l e
    where
      go : ((i : ℕ) → i < length xs → r (get_or xs i d) ≡ true → length (going false xs) ≤ i) → (t : Side) → r x ≡ t → (i : ℕ) → i < length (x ∷ xs) → r (get_or (x ∷ xs) i d) ≡ true → length (going false (x ∷ xs)) ≤ i
      go rest true f i m g = omega (arith, ap length (going_all (x ∷ xs) (f, h.0 f) false))
      go rest false f zero m g = absurd (false≢true (sym f ∙ g))
      go rest false f (suc i) m g = let k = rest i (omega arith) g in rw f (omega arith)

  parted_left : (xs : List A) → Parted r xs → (j : ℕ) (d : A) → j < length xs → r (get_or xs j d) ≡ false → j < length (going false xs)
  parted_left [] h j d l e = absurd (omega arith)
  parted_left (x ∷ xs) h j d l e = go (λ i. parted_left xs h.1 i d) (r x) refl j l e
    where
      go : ((i : ℕ) → i < length xs → r (get_or xs i d) ≡ false → i < length (going false xs)) → (t : Side) → r x ≡ t → (i : ℕ) → i < length (x ∷ xs) → r (get_or (x ∷ xs) i d) ≡ false → i < length (going false (x ∷ xs))
      go rest true f i m g = absurd (false≢true (sym g ∙ all_at (λ y. r y ≡ true) (x ∷ xs) d i (f, h.0 f) m))
      go rest false f zero m g = rw f (omega arith)
      go rest false f (suc i) m g = let k = rest i (omega arith) g in rw f (omega arith)

-- in order, a key comes before all that follow
abbrev After : Ask → Ask → Type 0
After a b = before (ask_key a) (ask_key b) ≡ true

after_all : (a : Ask) (as' : List Ask) → ascending (a ∷ as') ≡ true → All (After a) as' × (ascending as' ≡ true)
after_all a [] h = (tt, refl)
after_all a (b ∷ as') h =
    let first : After a b = and_left (before (ask_key a) (ask_key b)) (ascending (b ∷ as')) h in
    let rest : ascending (b ∷ as') ≡ true = and_right (before (ask_key a) (ask_key b)) (ascending (b ∷ as')) h in
    let later = all_map (After b) (After a) as' (λ c e. before_trans (ask_key a) (ask_key b) (ask_key c) first e) (after_all b as' rest).0 in
    ((first, later), rest)

all_after : (a : Ask) (as' : List Ask) → All (After a) as' → ascending as' ≡ true → ascending (a ∷ as') ≡ true
all_after a [] h o = refl
all_after a (b ∷ as') h o = rw h.0 o

-- what is left out leaves the order
ascending_filter : (f : Ask → Bool) (as' : List Ask) → ascending as' ≡ true → ascending (filter f as') ≡ true
ascending_filter f [] h = refl
ascending_filter f (a ∷ as') h = go (after_all a as' h).0 (ascending_filter f as' (after_all a as' h).1) (f a)
  where
    go : All (After a) as' → ascending (filter f as') ≡ true → (t : Bool) → ascending (cond t (a ∷ filter f as') (filter f as')) ≡ true
    go later rest true = all_after a (filter f as') (all_filter (After a) f as' later) rest
    go later rest false = rest

-- an ask in form whose key begins with the place
abbrev Under : Place → Ask → Type 0
Under p a = AskForm a × (begins p (ask_key a) ≡ true)

-- the bit after the place, 0 before 1
right_after : (p : Place) (a b : Ask) → Under p a → Under p b → After a b → bit (length p) (ask_key a) ≡ true → bit (length p) (ask_key b) ≡ true
unfolding begins bit
right_after p a b h k e r =
    lex_mono p (bits (ask_key a)) (bits (ask_key b)) h.1 k.1
    (sym (before_lex (ask_key a) (ask_key b) (key_whole a h.0).1 (key_whole b k.0).1) ∙ e) r

parted : (p : Place) (as' : List Ask) → All (Under p) as' → ascending as' ≡ true → Parted (λ a. bit (length p) (ask_key a)) as'
parted p [] h k = tt
parted p (a ∷ as') h k =
    let o = after_all a as' k in (
      (λ r. all_map₂ (Under p) (After a) (λ b. bit (length p) (ask_key b) ≡ true) as' (λ b u e. right_after p a b h.0 u e r) h.1 o.0),
      parted p as' h.1 o.1,
    )

under_all : (p : Place) (run : Bytes) → Run p run → All (Under p) (asks run)
under_all p run w = all_map₂ AskForm (λ a. begins p (ask_key a) ≡ true) (Under p) (asks run) (λ a u v. (u, v)) (asks_whole run w.bytes) w.under

run_parted : (i : ℕ) (run : Bytes) (w : RunAt i run) → Parted (λ a. bit i (ask_key a)) (asks run)
run_parted i run w = rw w.bits at (parted w.place (asks run) (under_all w.place run w.holds) w.holds.order)

length_filter : {A : Type 0} (f : A → Bool) (xs : List A) → length (filter f xs) ≤ length xs
length_filter f [] = omega arith
length_filter f (x ∷ xs) = go (length_filter f xs) (f x)
  where
    go : length (filter f xs) ≤ length xs → (t : Bool) → length (cond t (x ∷ filter f xs) (filter f xs)) ≤ suc (length xs)
    go h true = omega arith
    go h false = omega arith

pub lefts_within : (i : ℕ) (run : Bytes) → lefts i run ≤ count run
unfolding lefts
lefts_within i run = omega (arith, length_filter (on_side false i) (asks run), length_asks run)

whole_half : (b : Side) (m : ℕ) (run : Bytes) → m ≤ count run → length run % record_size ≡ 0 → length (half b (record_size * m) run) % record_size ≡ 0
whole_half false m run h e = simp length-take (omega arith)
whole_half true m run h e = simp length-drop (omega arith)

few_half : (b : Side) (m : ℕ) (run : Bytes) → m ≤ count run → count run ≤ most_records → count (half b (record_size * m) run) ≤ most_records
few_half false m run h e = simp length-take (omega arith)
few_half true m run h e = simp length-drop (omega arith)

module _ (b : Side) (i : ℕ) (run : Bytes) (w : RunAt i run) where
  -- a part of a run is exactly the records whose key goes on to its side
  pub asks_of_part : asks (run_of b i run) ≡ filter (on_side b i) (asks run)
  unfolding run_of lefts
  asks_of_part =
      asks_half b (lefts i run) run (lefts_within i run) ∙ sym (parted_halves (λ a. bit i (ask_key a)) (asks run) (run_parted i run w) b)

  under_longer : All (λ a. begins (longer b w.place) (ask_key a) ≡ true) (filter (on_side b i) (asks run))
  under_longer =
      let n = w.bits in
      let h = w.short in
      all_map₂ (Under w.place) (λ a. on_side b i a ≡ true) (λ a. begins (longer b w.place) (ask_key a) ≡ true) (filter (on_side b i) (asks run))
      (λ a u v. begins_longer b w.place (ask_key a) (omega (arith, (key_whole a u.0).0)) ∙ rw (u.1, n, v))
      (all_filter (Under w.place) (on_side b i) (asks run) (under_all w.place run w.holds))
      (filter_passed (on_side b i) (asks run))

  -- and a run at the longer place
  pub run_of_part : Run (longer b w.place) (run_of b i run)
  unfolding run_of
  run_of_part =
      let m = lefts_within i run in
      record {
        bytes = all_half Byte b (record_size * lefts i run) run w.holds.bytes;
        whole = whole_half b (lefts i run) run m w.holds.whole;
        few = few_half b (lefts i run) run m w.holds.few;
        form = rw (records_half b (lefts i run) run m) (all_half (λ x. ask_form x ≡ true) b (lefts i run) (records_of run) w.holds.form);
        order = rw asks_of_part (ascending_filter (on_side b i) (asks run) w.holds.order);
        under = rw asks_of_part under_longer;
      }

-- the next bit of a key tells on which side of the cut its record stands
module _ (i : ℕ) (run : Bytes) (w : RunAt i run) (j : ℕ) (h : j < count run) where
  side_at : bit i (ask_key (ask_at j run)) ≡ bit i (ask_key (get_or (asks run) j (ask [])))
  side_at = rw (asks_at j run (ask []) h)

  pub cut_right : bit i (ask_key (ask_at j run)) ≡ true → lefts i run ≤ j
  unfolding lefts
  cut_right e =
      parted_right (λ a. bit i (ask_key a)) (asks run) (run_parted i run w) j (ask []) (omega (arith, length_asks run)) (sym side_at ∙ e)

  pub cut_left : bit i (ask_key (ask_at j run)) ≡ false → j < lefts i run
  unfolding lefts
  cut_left e =
      parted_left (λ a. bit i (ask_key a)) (asks run) (run_parted i run w) j (ask []) (omega (arith, length_asks run)) (sym side_at ∙ e)

-- the whole batch is the run at the empty place
pub run_of_batch : (b : Bytes) → All Byte b → batch_form b ≡ true → ascending (asks b) ≡ true → Run [] b
unfolding batch_form begins
run_of_batch b h e o =
    let t = all_of_tests _ e in
    record {
      bytes = h;
      whole = eqb-true (length b % record_size) 0 t.0;
      few = leb-true (count b) most_records t.1.0;
      form = every_all ask_form (records_of b) t.1.1.0;
      order = o;
      under = all_map AskForm (λ a. true ≡ true) (asks b) (λ a k. refl) (asks_whole b h);
    }

-- a run at a place by value, and its parts at the longer places
module _ (p : declared.Place) (run : Bytes) (v : Proper p) (h : p.count < 256) (w : Run (place_of p) run) where
  abbrev pub run_at : RunAt p.count run
  run_at = record { place = place_of p; bits = proper_count p v; short = h; holds = w }

  pub run_grown : (b : Side) (r : declared.Place) → Grown b p r → Run (place_of r) (run_of b p.count run)
  run_grown b r g = rw g.place (run_of_part b p.count run run_at)
