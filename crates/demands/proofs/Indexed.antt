-- Document 02, 2026-05: the reads by a table. One outcome; refused, nothing is written; where no two slots match, each answers and leaves every byte as
-- the plain call does if the table has the right length, and each number exactly by its row; so it is of every sound store. Assumes nothing.
use Prim.Native.Nat.{ℕ}
use native.Mathlib.Omega.{arith}
use mathlib.Core.Path.{◌≡◌, refl, ap, sym, ◌∙◌, subst}
use mathlib.Core.Logic.{inl, inr}
use mathlib.Core.Bool.{Bool, true, false, cond, true≢false}
use mathlib.Core.List.{List, [], ◌∷◌, ◌++◌}
use mathlib.Core.Option.{none, some}
use lib.ListN.{length}
use lib.Dec.{eqb}
use borrow.Author.Tests.{eqb-true, eq-eqb}
use Rattle.terms.specs.declared.Form.TheVariants.{Counted as counted}
use Rattle.terms.specs.Bits.{Bytes, Byte, All}
use Rattle.meaning.specs.Calls.{Answer, refused}
use Rattle.meaning.specs.Answers.{number_of, room_after}
use Rattle.meaning.proofs.Told.{exported_kept, one_exported}
use Rattle.meaning.specs.Reading.{Trouble, spoilt_record, read_key_by, read_root_by, read_key, read_root}
use Rattle.meaning.specs.Proving.{proof_by, prove_by, proof, prove}
use Rattle.meaning.specs.Counting.{read_number_by, read_position_by, read_number, read_position}
use Rattle.palette_rules.specs.Palette.{whole_keys, keys_in, palette_of, palette}
use Rattle.indexed.specs.Index.{by_table}
use Rattle.index_reads.proofs.Alike.{root_alike, key_alike, number_alike, position_alike, prove_alike, palette_alike, sound_no_two}
use Rattle.nodehash.specs.Node.{leaf_hash, inner_hash}
use Rattle.layout.specs.Sizes.{room_of}
use Rattle.layout.specs.Headers.{Headed, refusal, header, header_of}
use Rattle.layout.specs.Stores.{store_of}
use Rattle.layout.proofs.Headers.{room_of_lem}
use Rattle.promises.specs.Calls.{SoundBytes}
use Rattle.promises.specs.Headed.{by_header, as_many}
use Rattle.proofrecords.specs.ProofBytes.{proof_bytes}
use Rattle.contracts.specs.Looking.{header_for}
use Rattle.contracts.specs.Reads.{root_answer, key_answer}
use Rattle.contracts.specs.Numbers.{number_answer, position_answer}
use Rattle.contracts.specs.Proves.{prove_answer}
use Rattle.contracts.specs.Palettes.{palette_answer, proofs_bytes}
use Rattle.refusals.specs.Exactly.{Table, Exactly, NoneOf, low, Names}
use Rattle.ways.specs.Ways.{RootStopped, KeyStopped, ProofStopped}
use Rattle.ways.specs.Positions.{PositionStopped}
use Rattle.refusals.specs.Tables.{StopsPalette, TooLong, header_rows, tests_of, root_rows, get_rows, at_rows, prove_rows, palette_rows}
use Rattle.refusals.proofs.Parts.{Row, WrongLength, TooLongTogether}
use Rattle.refusals.proofs.Exactly.{exactly}
use Rattle.refusals.proofs.Headers.{Header, wrong_length, wrong_header, right, header_is, records_formed}
use Rattle.refusals.proofs.Stopped.{Stopped, stopped_past, stopped_within, stopped_first, stopped_found, stopped_names}
use Rattle.refusals.proofs.Walks.{kept_said, root_stopped, get_stopped, prove_stopped}
use Rattle.refusals.proofs.Positions.{number_stopped, position_stopped}
use Rattle.refusals.proofs.Palettes.{palette_stopped}
use Rattle.contracts.specs.Contracts.{ReadsRootBy, ReadsKeyBy, CountsBy, ReadsAtBy, ProvesBy, PalettesBy}
use Rattle.demands.specs.Indexed.{rows_by, NoneTwice, AsPlain}
use Rattle.demands.proofs.Refusals.{refused_of}
use Rattle.demands.proofs.Exact.{key_stopped, list_stopped, never_lost}

-- One outcome.
module _ {s : Bytes} {table : List ℕ} {v a b : ℕ} where
  pub one_root_by : {f g h : Bytes} → ReadsRootBy s (some table) v f a g → ReadsRootBy s (some table) v f b h → (a ≡ b) × (g ≡ h)
  one_root_by x y = one_exported refl x.exported y.exported

  pub one_get_by : {k f g h : Bytes} → ReadsKeyBy s (some table) v k f a g → ReadsKeyBy s (some table) v k f b h → (a ≡ b) × (g ≡ h)
  one_get_by x y = one_exported refl x.exported y.exported

  pub one_count_by : {f g h : Bytes} → CountsBy s (some table) v f a g → CountsBy s (some table) v f b h → (a ≡ b) × (g ≡ h)
  one_count_by x y = one_exported refl x.exported y.exported

  pub one_at_by : {i : ℕ} {f g h : Bytes} → ReadsAtBy s (some table) v i f a g → ReadsAtBy s (some table) v i f b h → (a ≡ b) × (g ≡ h)
  one_at_by x y = one_exported refl x.exported y.exported

  pub one_prove_by : {k room f t u g h : Bytes} → ProvesBy s (some table) v k room f a t g → ProvesBy s (some table) v k room f b u h → (a ≡ b) × (t ≡ u) × (g ≡ h)
  one_prove_by x y = let (e, d) = one_exported refl x.exported y.exported in (e, x.proof ∙ sym y.proof, d)

  pub one_palette_by : {list room f t u g h : Bytes} → PalettesBy s (some table) v list room f a t g → PalettesBy s (some table) v list room f b u h →
      (a ≡ b) × (t ≡ u) × (g ≡ h)
  one_palette_by x y = let (e, d) = one_exported refl x.exported y.exported in (e, x.proofs ∙ sym y.proofs, d)

-- Refused, nothing is written.
refusal_of_lem : {A : Type 0} {r : ℕ} → (r ≡ 0 → ⊥) → (a : Answer A) → r ≡ number_of a → (n : ℕ) × (a ≡ refused n)
refusal_of_lem f a e = refused_of a (λ z. f (e ∙ z))

module _ {s : Bytes} {table : List ℕ} {v r : ℕ} (not_0 : r ≡ 0 → ⊥) where
  pub refused_root_by_writes_nothing : {f g : Bytes} → ReadsRootBy s (some table) v f r g → g ≡ f
  refused_root_by_writes_nothing w = exported_kept w.exported not_0

  pub refused_get_by_writes_nothing : {k f g : Bytes} → ReadsKeyBy s (some table) v k f r g → g ≡ f
  refused_get_by_writes_nothing w = exported_kept w.exported not_0

  pub refused_count_by_writes_nothing : {f g : Bytes} → CountsBy s (some table) v f r g → g ≡ f
  refused_count_by_writes_nothing w = exported_kept w.exported not_0

  pub refused_at_by_writes_nothing : {i : ℕ} {f g : Bytes} → ReadsAtBy s (some table) v i f r g → g ≡ f
  refused_at_by_writes_nothing w = exported_kept w.exported not_0

  pub refused_prove_by_writes_nothing : {k room f t g : Bytes} → ProvesBy s (some table) v k room f r t g → (t ≡ room) × (g ≡ f)
  refused_prove_by_writes_nothing {k} {room} w =
      let e = (refusal_of_lem not_0 (prove_answer s (some table) v k (length room)) w.exported.number).1 in
      (w.proof ∙ ap (λ a. room_after proof_bytes a room) e, exported_kept w.exported not_0)

  pub refused_palette_by_writes_nothing : {list room f t g : Bytes} → PalettesBy s (some table) v list room f r t g → (t ≡ room) × (g ≡ f)
  refused_palette_by_writes_nothing {list} {room} w =
      let e = (refusal_of_lem not_0 (palette_answer s (some table) v list (length room)) w.exported.number).1 in
      (w.proofs ∙ ap (λ a. room_after proofs_bytes a room) e, exported_kept w.exported not_0)

-- A table of the right length, and no two slots that match: the answers are the plain ones.
module _ (s : Bytes) (table : List ℕ) (v : ℕ) (many : length table ≡ room_of counted (length s)) (once : NoneTwice s v) where
  fits : as_many s table ≡ true
  unfolding as_many
  fits = eq-eqb (length table) (room_of counted (length s)) many

  headed : {A : Type 0} {a b : Answer A} → a ≡ b → by_header (header_for s (some table)) a ≡ by_header (header_of counted s) b
  unfolding as_many
  headed {a = a} e =
      ap (λ c. by_header (cond c (header_of counted s) (refusal 1)) a) fits ∙ ap (by_header (header_of counted s)) e

  same_root : root_answer s (some table) v ≡ root_answer s none v
  unfolding root_answer read_root
  same_root = headed (root_alike (store_of s) table v once leaf_hash inner_hash)

  same_key : (k : Bytes) → key_answer s (some table) v k ≡ key_answer s none v k
  unfolding key_answer read_key
  same_key k = ap (λ a. cond (eqb (length k) 32) a (refused 12)) (headed (key_alike (store_of s) table v once k))

  same_number : number_answer s (some table) v ≡ number_answer s none v
  unfolding number_answer read_number
  same_number = headed (number_alike (store_of s) table v once)

  same_position : (i : ℕ) → position_answer s (some table) v i ≡ position_answer s none v i
  unfolding position_answer read_position
  same_position i = headed (position_alike (store_of s) table v once i)

  same_proof : (k : Bytes) (room : ℕ) → prove_answer s (some table) v k room ≡ prove_answer s none v k room
  unfolding prove_answer prove proof
  same_proof k room = ap (λ a. cond (eqb (length k) 32) a (refused 12)) (headed (prove_alike (store_of s) table v once k room))

  same_palette : (list : Bytes) (room : ℕ) → palette_answer s (some table) v list room ≡ palette_answer s none v list room
  unfolding palette_answer palette proof
  same_palette list room =
      ap (λ a. cond (whole_keys list) a (refused 12)) (headed (palette_alike (store_of s) table v once (keys_in list) room))

  -- Any table, any store: a read by the table differs from the plain one only where two slots match.
  pub indexed_as_plain : AsPlain s table v
  indexed_as_plain = record {
    root = λ x y. one_exported same_root x.exported y.exported;
    key = λ {k} x y. one_exported (same_key k) x.exported y.exported;
    count = λ x y. one_exported same_number x.exported y.exported;
    position = λ {i} x y. one_exported (same_position i) x.exported y.exported;
    proof = λ {k} {room} x y.
        let is = same_proof k (length room) in
        let (e, d) = one_exported is x.exported y.exported in
        (e, x.proof ∙ ap (λ a. room_after proof_bytes a room) is ∙ sym y.proof, d);
    palette = λ {list} {room} x y.
        let is = same_palette list (length room) in
        let (e, d) = one_exported is x.exported y.exported in
        (e, x.proofs ∙ ap (λ a. room_after proofs_bytes a room) is ∙ sym y.proofs, d);
  }

-- No two slots match in a sound store, so a stale or hostile table of the right length costs time and nothing else.
pub sound_none_twice : {s : Bytes} → SoundBytes s → (v : ℕ) → NoneTwice s v
sound_none_twice {s} w v e = sound_no_two leaf_hash inner_hash (store_of s) w.sound v (kept_said (store_of s) v e)

pub sound_indexed_as_plain : {s : Bytes} → SoundBytes s → (table : List ℕ) → length table ≡ room_of counted (length s) → (v : ℕ) → AsPlain s table v
sound_indexed_as_plain {s} w table many v = indexed_as_plain s table v many (sound_none_twice w v)

-- Rows 1 and 2 with a table.
abbrev pub WrongLengths : Bytes → List ℕ → Type 0
WrongLengths s table = Row 1 (rows_by s table (header_rows s))

module _ (s : Bytes) (table : List ℕ) where
  -- row 1 by the test of both lengths
  not_many : as_many s table ≡ false → WrongLengths s table
  unfolding as_many
  not_many e n least most (size, many) =
      true≢false (sym (eq-eqb (length table) (room_of counted (length s)) (many ∙ sym (room_of_lem counted (length s) n size))) ∙ e)

  right_lengths : as_many s table ≡ true → (WrongLength s → ⊥) → WrongLengths s table → ⊥
  unfolding as_many
  right_lengths e ok wrong =
      ok (λ n least most size.
      wrong n least most (size, eqb-true (length table) (room_of counted (length s)) e ∙ room_of_lem counted (length s) n size))

  module _ {A : Type 0} {early later : Table} {stops : Trouble → Type 0} (a : Answer A)
      (rest : (c o l : ℕ) → header_of counted s ≡ header c o l → Stopped early later stops (number_of a)) where
    abbrev Deserved : ℕ → Type 0
    Deserved n = Stopped (rows_by s table (header_rows s) ++ early) later stops n

    of_right_length : as_many s table ≡ true → {h : Headed} → header_of counted s ≡ h → Header s h → Deserved (number_of (by_header h a))
    of_right_length many e (wrong_length w) =
        stopped_within (rows_by s table (header_rows s)) early (inl (λ n least most both. w n least most both.0, refl)) (λ z. absurd (omega arith))
    of_right_length many e (wrong_header ok w) =
        stopped_within (rows_by s table (header_rows s)) early (inr (right_lengths many ok, inl (w, refl))) (λ z. absurd (omega arith))
    of_right_length many e (right {c} {o} {l} ok w) =
        stopped_past (rows_by s table (header_rows s)) early (right_lengths many ok, (w, tt)) (rest c o l e)

    by_header_lem : Deserved (number_of (by_header (header_for s (some table)) a))
    unfolding as_many
    by_header_lem = go (as_many s table) refl
      where
        go : (b : Bool) → as_many s table ≡ b → Deserved (number_of (by_header (cond b (header_of counted s) (refusal 1)) a))
        go false e = stopped_within (rows_by s table (header_rows s)) early (inl (not_many e, refl)) (λ z. absurd (omega arith))
        go true e = of_right_length e refl (header_is s)

-- an answer that is equal to one that is stopped so is
as_stopped : {A : Type 0} {early later : Table} {stops : Trouble → Type 0} {a b : Answer A} → a ≡ b → Stopped early later stops (number_of b) →
    Stopped early later stops (number_of a)
as_stopped {early = early} {later = later} {stops = stops} e w = subst (λ x. Stopped early later stops (number_of x)) (sym e) w

-- Where no two slots match, each number is answered exactly if its row deserves it and no earlier one does; and the slot beside 3.
module _ {s : Bytes} {table : List ℕ} {v : ℕ} (once : NoneTwice s v) where
  module _ {f g : Bytes} {r : ℕ} where
    root_answers : ReadsRootBy s (some table) v f r g → Stopped (tests_of (rows_by s table (root_rows s v))) [] (RootStopped (store_of s) v) r
    unfolding root_answer
    root_answers w =
        subst (Stopped (tests_of (rows_by s table (root_rows s v))) [] (RootStopped (store_of s) v)) (sym w.exported.number)
        (by_header_lem s table (read_root_by leaf_hash inner_hash (by_table table (store_of s)) (store_of s) v)
        (λ c o l e. as_stopped (root_alike (store_of s) table v once leaf_hash inner_hash) (root_stopped leaf_hash inner_hash s v)))

    pub root_by_exactly : ReadsRootBy s (some table) v f r g → Exactly (rows_by s table (root_rows s v)) (low r)
    root_by_exactly w = exactly (rows_by s table (root_rows s v)) (low r) refl (stopped_found refl refl (root_answers w) (never_lost s v))

    pub root_by_names_slot : ReadsRootBy s (some table) v f r g → Names (λ i. NoneOf (tests_of (rows_by s table (root_rows s v))) × RootStopped (store_of s) v (spoilt_record i)) r
    root_by_names_slot w = stopped_names refl refl (root_answers w)

    count_answers : CountsBy s (some table) v f r g → Stopped (tests_of (rows_by s table (root_rows s v))) [] (RootStopped (store_of s) v) r
    unfolding number_answer
    count_answers w =
        subst (Stopped (tests_of (rows_by s table (root_rows s v))) [] (RootStopped (store_of s) v)) (sym w.exported.number)
        (by_header_lem s table (read_number_by (by_table table (store_of s)) (store_of s) v)
        (λ c o l e. as_stopped (number_alike (store_of s) table v once) (number_stopped leaf_hash inner_hash s v)))

    pub count_by_exactly : CountsBy s (some table) v f r g → Exactly (rows_by s table (root_rows s v)) (low r)
    count_by_exactly w = exactly (rows_by s table (root_rows s v)) (low r) refl (stopped_found refl refl (count_answers w) (never_lost s v))

    pub count_by_names_slot : CountsBy s (some table) v f r g → Names (λ i. NoneOf (tests_of (rows_by s table (root_rows s v))) × RootStopped (store_of s) v (spoilt_record i)) r
    count_by_names_slot w = stopped_names refl refl (count_answers w)

  module _ (bytes : All Byte s) where
    get_answers : {k f g : Bytes} {r : ℕ} → ReadsKeyBy s (some table) v k f r g → Stopped (tests_of (rows_by s table (get_rows s v k))) [] (KeyStopped (store_of s) v k) r
    unfolding key_answer
    get_answers {k} w =
        subst (Stopped (tests_of (rows_by s table (get_rows s v k))) [] (KeyStopped (store_of s) v k)) (sym w.exported.number)
        (key_stopped k (by_header (header_for s (some table)) (read_key_by (by_table table (store_of s)) (store_of s) v k))
        (by_header_lem s table (read_key_by (by_table table (store_of s)) (store_of s) v k)
        (λ c o l e. as_stopped (key_alike (store_of s) table v once k) (get_stopped s (records_formed s bytes e) v k))))

    pub get_by_exactly : {k f g : Bytes} {r : ℕ} → ReadsKeyBy s (some table) v k f r g → Exactly (rows_by s table (get_rows s v k)) (low r)
    get_by_exactly {k} {r = r} w = exactly (rows_by s table (get_rows s v k)) (low r) refl (stopped_first refl refl (get_answers w))

    pub get_by_names_slot : {k f g : Bytes} {r : ℕ} → ReadsKeyBy s (some table) v k f r g →
        Names (λ i. NoneOf (tests_of (rows_by s table (get_rows s v k))) × KeyStopped (store_of s) v k (spoilt_record i)) r
    get_by_names_slot w = stopped_names refl refl (get_answers w)

    at_answers : {i : ℕ} {f g : Bytes} {r : ℕ} → ReadsAtBy s (some table) v i f r g → Stopped (tests_of (rows_by s table (at_rows s v i))) [] (PositionStopped (store_of s) v i) r
    unfolding position_answer
    at_answers {i} w =
        subst (Stopped (tests_of (rows_by s table (at_rows s v i))) [] (PositionStopped (store_of s) v i)) (sym w.exported.number)
        (by_header_lem s table (read_position_by (by_table table (store_of s)) (store_of s) v i)
        (λ c o l e. as_stopped (position_alike (store_of s) table v once i) (position_stopped s (records_formed s bytes e) v i)))

    pub at_by_exactly : {i : ℕ} {f g : Bytes} {r : ℕ} → ReadsAtBy s (some table) v i f r g → Exactly (rows_by s table (at_rows s v i)) (low r)
    at_by_exactly {i} {r = r} w = exactly (rows_by s table (at_rows s v i)) (low r) refl (stopped_first refl refl (at_answers w))

    pub at_by_names_slot : {i : ℕ} {f g : Bytes} {r : ℕ} → ReadsAtBy s (some table) v i f r g →
        Names (λ j. NoneOf (tests_of (rows_by s table (at_rows s v i))) × PositionStopped (store_of s) v i (spoilt_record j)) r
    at_by_names_slot w = stopped_names refl refl (at_answers w)

    prove_answers : {k room f t g : Bytes} {r : ℕ} → ProvesBy s (some table) v k room f r t g →
        Stopped (tests_of (rows_by s table (prove_rows s v k room))) ((9, TooLong s v k room) ∷ []) (ProofStopped (store_of s) v k) r
    unfolding prove_answer
    prove_answers {k} {room} w =
        subst (Stopped (tests_of (rows_by s table (prove_rows s v k room))) ((9, TooLong s v k room) ∷ []) (ProofStopped (store_of s) v k)) (sym w.exported.number)
        (key_stopped k (by_header (header_for s (some table)) (prove_by (by_table table (store_of s)) (store_of s) v k (length room)))
        (by_header_lem s table (prove_by (by_table table (store_of s)) (store_of s) v k (length room))
        (λ c o l e. as_stopped (prove_alike (store_of s) table v once k (length room)) (prove_stopped s (records_formed s bytes e) v k room))))

    pub prove_by_exactly : {k room f t g : Bytes} {r : ℕ} → ProvesBy s (some table) v k room f r t g → Exactly (rows_by s table (prove_rows s v k room)) (low r)
    prove_by_exactly {k} {room} {r = r} w = exactly (rows_by s table (prove_rows s v k room)) (low r) refl (stopped_first refl refl (prove_answers w))

    pub prove_by_names_slot : {k room f t g : Bytes} {r : ℕ} → ProvesBy s (some table) v k room f r t g →
        Names (λ i. NoneOf (tests_of (rows_by s table (prove_rows s v k room))) × ProofStopped (store_of s) v k (spoilt_record i)) r
    prove_by_names_slot w = stopped_names refl refl (prove_answers w)

    palette_answers : {list room f t g : Bytes} {r : ℕ} → PalettesBy s (some table) v list room f r t g →
        Stopped (tests_of (rows_by s table (palette_rows s v list room))) ((9, TooLongTogether s v (keys_in list) room) ∷ []) (StopsPalette s v (keys_in list)) r
    unfolding palette_answer
    palette_answers {list} {room} w =
        let its = palette_of (proof_by (by_table table (store_of s)) (store_of s) v) (store_of s) v (keys_in list) (length room) in
        subst (Stopped (tests_of (rows_by s table (palette_rows s v list room))) ((9, TooLongTogether s v (keys_in list) room) ∷ []) (StopsPalette s v (keys_in list))) (sym w.exported.number)
        (list_stopped list (by_header (header_for s (some table)) its)
        (by_header_lem s table its
        (λ c o l e. as_stopped (palette_alike (store_of s) table v once (keys_in list) (length room)) (palette_stopped s (records_formed s bytes e) v (keys_in list) room))))

    pub palette_by_exactly : {list room f t g : Bytes} {r : ℕ} → PalettesBy s (some table) v list room f r t g → Exactly (rows_by s table (palette_rows s v list room)) (low r)
    palette_by_exactly {list} {room} {r = r} w = exactly (rows_by s table (palette_rows s v list room)) (low r) refl (stopped_first refl refl (palette_answers w))

    pub palette_by_names_slot : {list room f t g : Bytes} {r : ℕ} → PalettesBy s (some table) v list room f r t g →
        Names (λ i. NoneOf (tests_of (rows_by s table (palette_rows s v list room))) × StopsPalette s v (keys_in list) (spoilt_record i)) r
    palette_by_names_slot w = stopped_names refl refl (palette_answers w)
