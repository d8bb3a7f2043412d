-- Document 02, request 2026-04, over the contracts: a palette is the single calls joined, or the first refusal among them; cut apart, each proof is accepted.
-- Assumes nothing.
use Prim.Native.Nat.{ℕ, suc, ◌+◌, ◌*◌, ◌≤◌, ◌<◌, ◌/◌}
use native.Mathlib.Omega.{arith}
use mathlib.Core.Path.{◌≡◌, refl, ap, ap₂, sym, ◌∙◌, subst}
use mathlib.Core.Logic.{◌↔◌}
use mathlib.Core.Bool.{Bool, true, false, cond}
use mathlib.Core.List.{List, [], ◌∷◌, ◌++◌, append_assoc}
use mathlib.Core.Option.{none}
use lib.ListN.{length, take, drop, length-append}
use lib.Seq.{take_at, drop_at}
use lib.Dec.{ltb}
use borrow.Author.Tests.{eq-eqb, ltb-true, ltb-false, le-ltb, le-leb}
use Rattle.terms.specs.declared.Form.TheVariants.{Counted as counted}
use Rattle.terms.specs.Bits.{Bytes, Byte, All, Whole32}
use Rattle.terms.specs.Fields.{le, num, field, flat}
use Rattle.terms.specs.Records.{Store, Proof, presence, absence}
use Rattle.terms.proofs.Fields.{num_le, length_le, slice_between}
use Rattle.meaning.specs.Tree.{hash, unversioned}
use Rattle.meaning.specs.Sound.{Kept}
use Rattle.meaning.specs.Calls.{Answer, refused, accepted, is_kept}
use Rattle.meaning.specs.Reading.{answer_of}
use Rattle.meaning.specs.Proving.{HoldsGrant, proof, presence_length, proof_length, fitted, prove}
use Rattle.meaning.specs.Checking.{checked}
use Rattle.meaning.specs.Answers.{number_of, found_bytes, room_after}
use Rattle.meaning.proofs.Told.{exported_kept, exported_left}
use Rattle.shown.proofs.Verdicts.{accepted_same}
use Rattle.shown.proofs.Theorems.{proofs_have_17080_bytes, root_read_is_hash, shown}
use Rattle.palette_rules.specs.Palette.{whole_keys, keys_in, followed, in_turn, length_together, fitted_together, palette}
use Rattle.palette_rules.specs.Claims.{ProofOfEach}
use Rattle.palette_rules.proofs.Turns.{proofs_of_each, each_proved, one_asked, first_refused}
use Rattle.palette_rules.proofs.Keys.{keys_are_32, keys_are_bytes, keys_counted}
use Rattle.nodehash.specs.Node.{leaf_hash, inner_hash}
use Rattle.proofrecords.specs.ProofBytes.{steps_bytes, flags_of, neighbour_bytes, presence_bytes, absence_bytes, proof_bytes, ProofForm}
use Rattle.proofrecords.proofs.Proofs.{length_absence}
use Rattle.layout.specs.Headers.{Headed, refusal, header, header_of}
use Rattle.layout.specs.Slots.{SlotForm}
use Rattle.layout.specs.Stores.{store_of}
use Rattle.layout.proofs.Headers as headers
use Rattle.layout.proofs.Stores.{store_form}
use Rattle.promises.specs.Calls.{SoundBytes}
use Rattle.promises.proofs.Calls.{sound_form}
use Rattle.promises.specs.Headed.{by_header}
use Rattle.contracts.specs.Proves.{prove_answer}
use Rattle.contracts.specs.Palettes.{palette_answer, proofs_bytes}
use Rattle.verify_rules.specs.Verify.{Judged, Told}
use Rattle.contracts.specs.Contracts.{ReadsRoot, Proves, Palettes, Verifies}
use Rattle.demands.specs.Claims.{tree_of_version, grants_of_version}
use Rattle.demands.specs.Palettes.{SingleCalls, none_asked, then_given, FirstRefusal, refused_here, refused_later, BesideSingleCalls, AcceptedFor, EachAccepted, PaletteShown}
use Rattle.demands.proofs.Refusals.{no_refusal, with_number, never_0, refused_of, accepted_of, header_numbers, proof_nonzero}
use Rattle.demands.proofs.Hashes.{hash_whole}
use Rattle.demands.proofs.Forms.{proof_form}
use Rattle.demands.proofs.Given.{its_proof, its_tests, front_is, proof_long}
use Rattle.demands.proofs.Showing.{root_of_tree, checker_on, verify_left}

-- Demand 1: a refused palette writes nothing.
module _ {s : Bytes} {v : ℕ} {list room f : Bytes} {r : ℕ} {t g : Bytes} (w : Palettes s v list room f r t g) where
  pub refused_palette_writes_nothing : (r ≡ 0 → ⊥) → (t ≡ room) × (g ≡ f)
  refused_palette_writes_nothing h =
      let e = refused_of (palette_answer s none v list (length room)) (λ z. h (w.exported.number ∙ z)) in
      (w.proofs ∙ ap (λ a. room_after proofs_bytes a room) e.1, exported_kept w.exported h)

-- by the header: 1 or 2 as a single call, else the rest
in_header : (s : Bytes) (v : ℕ) (list : Bytes) (room : ℕ) {c o l : ℕ} → whole_keys list ≡ true → header_of counted s ≡ header c o l →
    palette_answer s none v list room ≡ palette (store_of s) v (keys_in list) room
unfolding palette_answer palette proof
in_header s v list room e h = rw (e, h)

by_refusal : (s : Bytes) (v : ℕ) (list : Bytes) (room : ℕ) {m : ℕ} → whole_keys list ≡ true → header_of counted s ≡ refusal m → palette_answer s none v list room ≡ refused m
unfolding palette_answer palette proof
by_refusal s v list room e h = rw (e, h)

single_header : (s : Bytes) (v : ℕ) (k : Bytes) (room : ℕ) {c o l : ℕ} → length k ≡ 32 → header_of counted s ≡ header c o l →
    prove_answer s none v k room ≡ fitted room (proof (store_of s) v k)
unfolding prove_answer prove proof
single_header s v k room e h = rw (eq-eqb (length k) 32 e, h)

single_refusal : (s : Bytes) (v : ℕ) (k : Bytes) (room : ℕ) {m : ℕ} → length k ≡ 32 → header_of counted s ≡ refusal m → prove_answer s none v k room ≡ refused m
unfolding prove_answer prove proof
single_refusal s v k room e h = rw (eq-eqb (length k) 32 e, h)

-- a version that isn't kept
not_kept : (st : Store) (v : ℕ) (k : Bytes) → is_kept st v ≡ false → proof st v k ≡ refused 8
unfolding proof
not_kept st v k e = rw e

kept_if_proved : (st : Store) (v : ℕ) (k : Bytes) {p : Proof} → proof st v k ≡ accepted p → is_kept st v ≡ true
kept_if_proved st v k e = go (is_kept st v) refl
  where
    go : (b : Bool) → is_kept st v ≡ b → b ≡ true
    go true f = refl
    go false f = no_refusal (sym e ∙ not_kept st v k f)

palette_kept : (st : Store) (v : ℕ) (keys : List Bytes) (room : ℕ) → is_kept st v ≡ true → palette st v keys room ≡ fitted_together room (in_turn (proof st v) keys)
unfolding palette
palette_kept st v keys room e = rw e

palette_not_kept : (st : Store) (v : ℕ) (keys : List Bytes) (room : ℕ) → is_kept st v ≡ false → palette st v keys room ≡ refused 8
unfolding palette
palette_not_kept st v keys room e = rw e

kept_is_kept : (st : Store) (v : ℕ) → Kept st v → is_kept st v ≡ true
unfolding is_kept
kept_is_kept st v k = rw (le-leb st.oldest v k.0, le-leb v st.latest k.1)

-- together, no more than 17,080 bytes a key
together_most : (st : Store) (v : ℕ) (keys : List Bytes) (ps : List Proof) → ProofOfEach (proof st v) keys ps → length_together ps ≤ 17080 * length keys
together_most st v [] [] h = omega arith
together_most st v [] (p ∷ ps) h = absurd h
together_most st v (k ∷ keys) [] h = absurd h
together_most st v (k ∷ keys) (p ∷ ps) h = omega (arith, proofs_have_17080_bytes st v k p h.0, together_most st v keys ps h.1)

-- which number: never 0
palette_never_0 : (st : Store) (v : ℕ) (keys : List Bytes) (room n : ℕ) → palette st v keys room ≡ refused n → n ≡ 0 → ⊥
palette_never_0 st v keys room n e z = go (is_kept st v) refl
  where
    fit : (a : Answer (List Proof)) → in_turn (proof st v) keys ≡ a → fitted_together room a ≡ refused n → ⊥
    fit (refused m) f h =
        let (k, e) = one_asked (proof st v) keys (first_refused (proof st v) keys m f) in proof_nonzero st v k m e (sym (with_number h) ∙ z)
    fit (accepted ps) f h = nine (ltb room (length_together ps)) h
      where
        nine : (b : Bool) → cond b (refused 9) (accepted ps) ≡ refused n → ⊥
        nine true i = let x : n ≡ 9 = with_number i in omega arith
        nine false i = no_refusal i

    go : (b : Bool) → is_kept st v ≡ b → ⊥
    go true f = fit (in_turn (proof st v) keys) refl (sym (palette_kept st v keys room f) ∙ e)
    go false f = let x : n ≡ 8 = with_number (sym (palette_not_kept st v keys room f) ∙ e) in omega arith

answer_never_0 : (s : Bytes) (v : ℕ) (list : Bytes) (room n : ℕ) → palette_answer s none v list room ≡ refused n → n ≡ 0 → ⊥
unfolding palette_answer palette proof
answer_never_0 s v list room n e z = go (whole_keys list) (header_of counted s) refl e
  where
    go : (b : Bool) (h : Headed) → header_of counted s ≡ h → cond b (by_header h (palette (store_of s) v (keys_in list) room)) (refused 12) ≡ refused n → ⊥
    go false h f i = let x : n ≡ 12 = with_number i in omega arith
    go true (refusal m) f i = never_0 (1 ∷ 2 ∷ []) refl (header_numbers s f) (sym (with_number i) ∙ z)
    go true (header c o l) f i = palette_never_0 (store_of s) v (keys_in list) room n i z

-- a palette that was accepted
pub record Given (s : Bytes) (v : ℕ) (list : Bytes) (room : ℕ) (ps : List Proof) : Type 0 where
  pub capacity : ℕ
  pub oldest : ℕ
  pub latest : ℕ
  pub headed : header_of counted s ≡ header capacity oldest latest
  pub each : ProofOfEach (proof (store_of s) v) (keys_in list) ps
  pub fits : length_together ps ≤ room

given_is : (s : Bytes) (v : ℕ) (list : Bytes) (room : ℕ) (ps : List Proof) → palette_answer s none v list room ≡ accepted ps → Given s v list room ps
unfolding palette_answer palette proof
given_is s v list room ps = go (whole_keys list) (header_of counted s) (is_kept (store_of s) v) (in_turn (proof (store_of s) v) (keys_in list)) refl refl
  where
    within : (qs : List Proof) (b : Bool) → ltb room (length_together qs) ≡ b → cond b (refused 9) (accepted qs) ≡ accepted ps → (qs ≡ ps) × (length_together qs ≤ room)
    within qs true e h = no_refusal (sym h)
    within qs false e h = (cc, ltb-false room (length_together qs) e)

    go : (b : Bool) (h : Headed) (c : Bool) (a : Answer (List Proof)) → header_of counted s ≡ h → in_turn (proof (store_of s) v) (keys_in list) ≡ a →
        cond b (by_header h (cond c (fitted_together room a) (refused 8))) (refused 12) ≡ accepted ps → Given s v list room ps
    go false h c a e f z = no_refusal (sym z)
    go true (refusal m) c a e f z = no_refusal (sym z)
    go true (header n o l) false a e f z = no_refusal (sym z)
    go true (header n o l) true (refused m) e f z = no_refusal (sym z)
    go true (header n o l) true (accepted qs) e f z =
        let w = within qs (ltb room (length_together qs)) refl z in
        record {
          capacity = n;
          oldest = o;
          latest = l;
          headed = e;
          each = proofs_of_each (proof (store_of s) v) (keys_in list) ps (f ∙ ap accepted w.0);
          fits = subst (λ xs. length_together xs ≤ room) w.0 w.1;
        }

module _ {s : Bytes} {v : ℕ} {list room f t g : Bytes} (w : Palettes s v list room f 0 t g) where
  pub there_are : (ps : List Proof) × (palette_answer s none v list (length room) ≡ accepted ps)
  there_are = accepted_of (palette_answer s none v list (length room)) (λ n e. answer_never_0 s v list (length room) n e) w.exported.number

  pub its_given : Given s v list (length room) there_are.0
  its_given = given_is s v list (length room) there_are.0 there_are.1

  pub room_is : t ≡ proofs_bytes there_are.0 ++ drop (length (proofs_bytes there_are.0)) room
  room_is = w.proofs ∙ ap (λ a. room_after proofs_bytes a room) there_are.1

  pub told_is : whole_keys list ≡ true → num g ≡ length_together there_are.0
  told_is whole =
      let few = together_most (store_of s) v (keys_in list) there_are.0 its_given.each in
      let many = keys_counted list whole in
      ap num (exported_left w.exported there_are.1).1 ∙ num_le 4 (length_together there_are.0) (omega arith)

-- the single calls' proofs
module _ (s : Bytes) (v : ℕ) (slots : All (SlotForm counted) (store_of s).slots) where
  its_bytes : {k room f t g : Bytes} {p : Proof} → Whole32 k → (x : Proves s v k room f 0 t g) → proof (store_of s) v k ≡ accepted p → take (num g) t ≡ proof_bytes p
  its_bytes {k} {p = p} whole x e =
      let same : its_proof x ≡ p = accepted_same (its_proof x) p (sym (its_tests x).proved ∙ e) in
      front_is x (proof_form (store_of s) v k (its_proof x) slots whole (its_tests x).proved) ∙ ap proof_bytes same

  joined_bytes : {keys proofs : List Bytes} (ps : List Proof) → All Whole32 keys → SingleCalls s v keys proofs → ProofOfEach (proof (store_of s) v) keys ps →
      flat proofs ≡ proofs_bytes ps
  joined_bytes [] h none_asked e = refl
  joined_bytes (p ∷ ps) h none_asked e = absurd e
  joined_bytes [] h (then_given x c) e = absurd e
  joined_bytes (p ∷ ps) h (then_given {keys = keys} x c) e = ap₂ ◌++◌ (its_bytes h.0 x e.0) (joined_bytes {keys = keys} ps h.1 c e.1)

  pub together_long : (keys : List Bytes) (ps : List Proof) → All Whole32 keys → ProofOfEach (proof (store_of s) v) keys ps → length (proofs_bytes ps) ≡ length_together ps
  together_long [] [] h e = refl
  together_long [] (p ∷ ps) h e = absurd e
  together_long (k ∷ keys) [] h e = absurd e
  together_long (k ∷ keys) (p ∷ ps) h e =
      length-append (proof_bytes p) (proofs_bytes ps)
      ∙ ap₂ ◌+◌ (proof_long p (proof_form (store_of s) v k p slots h.0 e.0)) (together_long keys ps h.1 e.1)

  calls_proved : {keys proofs : List Bytes} → SingleCalls s v keys proofs → (ps : List Proof) × ProofOfEach (proof (store_of s) v) keys ps
  calls_proved none_asked = ([], tt)
  calls_proved (then_given x c) = let r = calls_proved c in (its_proof x ∷ r.0, ((its_tests x).proved, r.1))

-- the first refusal, where the header is right
single_refused : (st : Store) (v : ℕ) (k : Bytes) (room : ℕ) (a : Answer Proof) {n : ℕ} → 17080 ≤ room → (n ≡ 0 → ⊥) → proof st v k ≡ a →
    n ≡ number_of (fitted room a) → a ≡ refused n
single_refused st v k room (refused m) h z e f = ap refused (sym f)
single_refused st v k room (accepted p) {n} h z e f = go (ltb room (proof_length p)) refl f
  where
    go : (b : Bool) → ltb room (proof_length p) ≡ b → n ≡ number_of {A = Proof} (cond b (refused 9) (accepted p)) → accepted p ≡ refused n
    go true i j = absurd (omega (arith, ltb-true room (proof_length p) i, proofs_have_17080_bytes st v k p e))
    go false i j = absurd (z j)

module _ {s : Bytes} {v : ℕ} where
  first_in_turn : {c o l n : ℕ} {keys : List Bytes} → header_of counted s ≡ header c o l → All (λ k. length k ≡ 32) keys → FirstRefusal s v keys n →
      in_turn (proof (store_of s) v) keys ≡ refused n
  first_in_turn h longs (refused_here {k} {room} {keys} room_for z x) =
      let e = single_refused (store_of s) v k (length room) (proof (store_of s) v k) room_for z refl
      (x.exported.number ∙ ap (λ a. number_of a) (single_header s v k (length room) longs.0 h)) in
      ap (λ a. followed a (in_turn (proof (store_of s) v) keys)) e
  first_in_turn h longs (refused_later {k} x more) =
      ap₂ followed (its_tests x).proved (first_in_turn h longs.1 more)

  -- where it is wrong, each single call gives the same number
  first_by_header : {m n : ℕ} {keys : List Bytes} → header_of counted s ≡ refusal m → All (λ k. length k ≡ 32) keys → FirstRefusal s v keys n → n ≡ m
  first_by_header h longs (refused_here {k} {room} room_for z x) = x.exported.number ∙ ap (λ a. number_of a) (single_refusal s v k (length room) longs.0 h)
  first_by_header {m} h longs (refused_later {k} {room} x more) =
      absurd (never_0 (1 ∷ 2 ∷ []) refl (header_numbers s h) (sym (x.exported.number ∙ ap (λ a. number_of a) (single_refusal s v k (length room) longs.0 h))))

-- a version that isn't kept refuses the first key with 8
first_not_kept : (st : Store) (v : ℕ) (keys : List Bytes) {n : ℕ} → is_kept st v ≡ false → in_turn (proof st v) keys ≡ refused n → n ≡ 8
first_not_kept st v [] e f = no_refusal f
first_not_kept st v (k ∷ keys) e f = with_number (sym (ap (λ a. followed a (in_turn (proof st v) keys)) (not_kept st v k e)) ∙ f)

palette_first : (st : Store) (v : ℕ) (keys : List Bytes) (room : ℕ) {n : ℕ} → in_turn (proof st v) keys ≡ refused n → palette st v keys room ≡ refused n
palette_first st v keys room {n} e = go (is_kept st v) refl
  where
    go : (b : Bool) → is_kept st v ≡ b → palette st v keys room ≡ refused n
    go true f = palette_kept st v keys room f ∙ ap (fitted_together room) e
    go false f = palette_not_kept st v keys room f ∙ ap refused (sym (first_not_kept st v keys f e))

module _ (s list : Bytes) (bytes : All Byte s) (asked : All Byte list) (whole : whole_keys list ≡ true) (v : ℕ) where
  keys : All Whole32 (keys_in list)
  keys = keys_are_bytes list asked

  slots_of_lem : {c o l : ℕ} → header_of counted s ≡ header c o l → All (SlotForm counted) (store_of s).slots
  slots_of_lem {c} {o} {l} h = (store_form s c o l bytes (headers.accepted s c o l h)).each

  joined : {room f t g : Bytes} {proofs : List Bytes} → Palettes s v list room f 0 t g → SingleCalls s v (keys_in list) proofs →
      (t ≡ flat proofs ++ drop (length (flat proofs)) room) × (num g ≡ length (flat proofs))
  joined {room} {f} {t} {g} {proofs} w c =
      let ps = (there_are w).0 in
      let given = its_given w in
      let slots = slots_of_lem given.headed in
      let same : flat proofs ≡ proofs_bytes ps = joined_bytes s v slots ps keys c given.each in (
        room_is w ∙ ap (λ x. x ++ drop (length x) room) (sym same),
        told_is w whole ∙ sym (ap length same ∙ together_long s v slots (keys_in list) ps keys given.each),
      )

  first : {room f t g : Bytes} {r n : ℕ} → Palettes s v list room f r t g → FirstRefusal s v (keys_in list) n → r ≡ n
  first {room} {r = r} {n = n} w c = w.exported.number ∙ go (header_of counted s) refl
    where
      go : (h : Headed) → header_of counted s ≡ h → number_of (palette_answer s none v list (length room)) ≡ n
      go (refusal m) e =
          ap (λ a. number_of a) (by_refusal s v list (length room) whole e) ∙ sym (first_by_header e (keys_are_32 list) c)
      go (header a o l) e =
          ap (λ a. number_of a)
          (in_header s v list (length room) whole e
          ∙ palette_first (store_of s) v (keys_in list) (length room) (first_in_turn e (keys_are_32 list) c))

  module _ {room f t g : Bytes} {r : ℕ} {key : Bytes} {more proofs : List Bytes} (w : Palettes s v list room f r t g) (some : keys_in list ≡ key ∷ more)
      (c : SingleCalls s v (keys_in list) proofs) where
    headed : {ks qs : List Bytes} → ks ≡ key ∷ more → SingleCalls s v ks qs →
        (a : ℕ) × (o : ℕ) × (l : ℕ) × (header_of counted s ≡ header a o l) × (is_kept (store_of s) v ≡ true)
    headed e none_asked = absurd (empty e)
      where
        empty : {x : Bytes} {xs : List Bytes} → [] ≡ x ∷ xs → ⊥
        empty i = let z : ◌≡◌ {A = ℕ} 0 1 = cc in omega arith
    headed e (then_given {k} x rest) =
        let i = its_tests x in (i.capacity, i.oldest, i.latest, i.headed, kept_if_proved (store_of s) v k i.proved)

    answered : (ps : List Proof) × (length (flat proofs) ≡ length_together ps) × (r ≡ number_of (fitted_together (length room) (accepted ps)))
    answered =
        let h = headed some c in
        let slots = slots_of_lem h.3 in
        let ps = calls_proved s v slots c in (
          ps.0,
          ap length (joined_bytes s v slots ps.0 keys c ps.1) ∙ together_long s v slots (keys_in list) ps.0 keys ps.1,
          w.exported.number
              ∙ ap (λ a. number_of a)
              (in_header s v list (length room) whole h.3
              ∙ palette_kept (store_of s) v (keys_in list) (length room) h.4
              ∙ ap (fitted_together (length room)) (each_proved (proof (store_of s) v) (keys_in list) ps.0 ps.1)),
        )

    fits : ((r ≡ 0) ↔ (length (flat proofs) ≤ length room)) × ((r ≡ 9) ↔ (length room < length (flat proofs)))
    fits = go (ltb (length room) (length_together answered.0)) refl answered.2
      where
        go : (b : Bool) → ltb (length room) (length_together answered.0) ≡ b → r ≡ number_of {A = List Proof} (cond b (refused 9) (accepted answered.0)) →
            ((r ≡ 0) ↔ (length (flat proofs) ≤ length room)) × ((r ≡ 9) ↔ (length room < length (flat proofs)))
        go true e i =
            let h = ltb-true (length room) (length_together answered.0) e in
            let j = answered.1 in
            ((λ z. absurd (omega arith), λ z. absurd (omega arith)), (λ z. omega arith, λ z. i))
        go false e i =
            let h = ltb-false (length room) (length_together answered.0) e in
            let j = answered.1 in
            ((λ z. omega arith, λ z. i), (λ z. absurd (omega arith), λ z. absurd (omega arith)))

  -- A palette's bytes are those of the single calls joined; its refusal is that of the first refused.
  pub palette_is_single_calls : BesideSingleCalls s v list
  palette_is_single_calls = record { joined = joined; first = first; fits = λ w some c. fits w some c }

-- the length that a proof in form says of itself
length_after : (n : ℕ) (fs : List Bytes) (rest : Bytes) → n < 4294967296 → field 0 4 (flat (le 4 n ∷ fs) ++ rest) ≡ n
unfolding field
length_after n fs rest h =
    let e : (le 4 n ++ flat fs) ++ rest ≡ le 4 n ++ (flat fs ++ rest) = append_assoc (le 4 n) (flat fs) rest in
    rw e (ap num (slice_between [] (le 4 n) (flat fs ++ rest) 0 4 refl (length_le 4 n)) ∙ num_le 4 n (omega arith))

says_length : (p : Proof) (rest : Bytes) → ProofForm p → proof_length p ≤ 17080 → field 0 4 (proof_bytes p ++ rest) ≡ length (proof_bytes p)
unfolding presence_bytes absence_bytes presence_length
says_length (presence q) rest h few =
    length_after _ (le 2 16 ∷ le 2 (length q.steps) ∷ q.key ∷ q.value ∷ steps_bytes q.steps ∷ []) rest (omega arith)
    ∙ sym (proof_long (presence q) h)
says_length (absence a) rest h few =
    let l = a.leftward in
    let r = a.rightward in
    let long = length_absence a h.0 h.1 h.2 in
    let all = proof_long (absence a) h in
    length_after _ (le 2 17 ∷ le 2 (flags_of l r) ∷ a.key ∷ neighbour_bytes l ∷ neighbour_bytes r ∷ []) rest (omega (arith, long, all, few)) ∙ sym long

-- On a sound store, in a kept version that holds a grant.
module _ (s : Bytes) (w : SoundBytes s) (v : ℕ) (kept : Kept (store_of s) v) (some : HoldsGrant (store_of s) v) where
  its : (k : Bytes) → Whole32 k → (p : Proof) × (proof (store_of s) v k ≡ accepted p) ×
      (checked leaf_hash inner_hash (hash leaf_hash inner_hash (unversioned (tree_of_version s v))) k p ≡ accepted (answer_of k (grants_of_version s v)))
  its k whole = shown leaf_hash inner_hash (store_of s) w.sound v kept k whole some _ (root_read_is_hash leaf_hash inner_hash (store_of s) w.sound v kept)

  slots : All (SlotForm counted) (store_of s).slots
  slots = (sound_form (store_of s) refl w.sound).each

  each_there : (keys : List Bytes) → All Whole32 keys → (ps : List Proof) × ProofOfEach (proof (store_of s) v) keys ps
  each_there [] h = ([], tt)
  each_there (k ∷ keys) h = let r = each_there keys h.1 in let p = its k h.0 in (p.0 ∷ r.0, (p.1, r.1))

  module _ (k : Bytes) (whole : Whole32 k) (p : Proof) (e : proof (store_of s) v k ≡ accepted p) where
    form : ProofForm p
    form = proof_form (store_of s) v k p slots whole e

    pub is_verified : {f₁ root : Bytes} {r₁ : ℕ} → ReadsRoot s v f₁ r₁ root → Told Judged root k (proof_bytes p) (accepted (answer_of k (grants_of_version s v)))
    is_verified y =
        let a = root_of_tree w kept y in
        let h = hash leaf_hash inner_hash (unversioned (tree_of_version s v)) in
        let long = (hash_whole (unversioned (tree_of_version s v))).0 in
        let same : (its k whole).0 ≡ p = accepted_same (its k whole).0 p (sym (its k whole).1 ∙ e) in
        let holds : checked leaf_hash inner_hash h k p ≡ accepted (answer_of k (grants_of_version s v)) =
        subst (λ q. checked leaf_hash inner_hash h k q ≡ accepted (answer_of k (grants_of_version s v))) same (its k whole).2
        in
        subst (λ q. Told Judged q k (proof_bytes p) (accepted (answer_of k (grants_of_version s v)))) (sym a.1) (checker_on h k p long whole.0 form holds)

    is_accepted_lem : {f₁ root f₂ found : Bytes} {r₁ r₂ : ℕ} → ReadsRoot s v f₁ r₁ root → Verifies root k (proof_bytes p) f₂ r₂ found →
        (r₂ ≡ 0) × (found ≡ found_bytes (answer_of k (grants_of_version s v)))
    is_accepted_lem y z = verify_left z (is_verified y)

  each_accepted : (keys : List Bytes) (ps : List Proof) (rest : Bytes) → All Whole32 keys → ProofOfEach (proof (store_of s) v) keys ps →
      EachAccepted s v keys (proofs_bytes ps ++ rest)
  each_accepted [] [] rest h e = tt
  each_accepted [] (p ∷ ps) rest h e = absurd e
  each_accepted (k ∷ keys) [] rest h e = absurd e
  each_accepted (k ∷ keys) (p ∷ ps) rest h e =
      let more = proofs_bytes ps ++ rest in
      let assoc : (proof_bytes p ++ proofs_bytes ps) ++ rest ≡ proof_bytes p ++ more = append_assoc (proof_bytes p) (proofs_bytes ps) rest in
      let few = proofs_have_17080_bytes (store_of s) v k p e.0 in
      let says = says_length p more (form k h.0 p e.0) few in
      let front : take (field 0 4 (proof_bytes p ++ more)) (proof_bytes p ++ more) ≡ proof_bytes p = take_at (proof_bytes p) more _ (sym says) in
      let after : drop (field 0 4 (proof_bytes p ++ more)) (proof_bytes p ++ more) ≡ more = drop_at (proof_bytes p) more _ (sym says) in
      subst (EachAccepted s v (k ∷ keys)) (sym assoc)
      (subst (λ x. AcceptedFor s v k x × EachAccepted s v keys (drop (field 0 4 (proof_bytes p ++ more)) (proof_bytes p ++ more))) (sym front)
      (subst (λ x. AcceptedFor s v k (proof_bytes p) × EachAccepted s v keys x) (sym after)
      (record { check = λ y z. is_accepted_lem k h.0 p e.0 y z }, each_accepted keys ps rest h.1 e.1)))

  module _ (list : Bytes) (asked : All Byte list) (whole : whole_keys list ≡ true) where
    is_given : {room f t g : Bytes} {r : ℕ} → Palettes s v list room f r t g → 17080 * length (keys_in list) ≤ length room → r ≡ 0
    is_given {room} x h =
        let ps = each_there (keys_in list) (keys_are_bytes list asked) in
        let few = together_most (store_of s) v (keys_in list) ps.0 ps.1 in
        let fit : fitted_together (length room) (accepted ps.0) ≡ accepted ps.0 = rw (le-ltb (length room) (length_together ps.0) (omega arith)) in
        x.exported.number
        ∙ ap (λ a. number_of a)
        (in_header s v list (length room) whole w.headed
        ∙ palette_kept (store_of s) v (keys_in list) (length room) (kept_is_kept (store_of s) v kept)
        ∙ ap (fitted_together (length room)) (each_proved (proof (store_of s) v) (keys_in list) ps.0 ps.1)
        ∙ fit)

    are_accepted : {room f t g : Bytes} → Palettes s v list room f 0 t g → EachAccepted s v (keys_in list) t
    are_accepted x =
        subst (EachAccepted s v (keys_in list)) (sym (room_is x))
        (each_accepted (keys_in list) (there_are x).0 _ (keys_are_bytes list asked) (its_given x).each)

    -- Cut apart by their own lengths, the proofs of a palette are each accepted against the version's root.
    pub sound_palette_is_shown : PaletteShown s v list
    sound_palette_is_shown = record { given = λ x h. is_given x h; accepted = λ x. are_accepted x }
