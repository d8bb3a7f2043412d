-- The records of a batch: record i stands at 72 i, and the records of a front or of a rest of whole records are those records.
-- Assumes nothing.
use Prim.Native.Nat.{ℕ, zero, suc, ◌+◌, ◌*◌, ◌-◌, ◌<◌, ◌≤◌, ◌/◌}
use native.Mathlib.Omega.{arith}
use native.Mathlib.Nat.{sub-zero, zero-add, add-sub_cancel_left}
use native.Mathlib.Numerals.{add-one}
use mathlib.Core.Path.{◌≡◌, refl, ap, ap₂, sym, ◌∙◌}
use mathlib.Core.Bool.{true, false}
use mathlib.Core.List.{List, [], ◌∷◌, ◌++◌, map}
use lib.ListN.{length, get_or, take, drop, length-take, length-drop, length-map}
use lib.Seq.{drop-drop, drop-cons, take-take, take-add, take-nil}
use Rattle.terms.specs.Bits.{Bytes, Byte, All, Side}
use Rattle.terms.specs.Fields.{slice}
use Rattle.terms.specs.Records.{Ask, ask_key}
use Rattle.terms.specs.Form.{AskForm}
use Rattle.terms.proofs.Lists.{all_take, all_drop, all_of, all_map}
use Rattle.terms.proofs.Fields.{length_slice, all_slice}
use Rattle.batch.specs.Sizes.{record_size, key_at_lem, value_at}
use Rattle.batch.specs.Batch.{ask, records, count, records_of, asks}
use Rattle.batch.specs.Records.{inserts, ask_value, record_at, ask_at}
use Rattle.batch.specs.Runs.{half}
use Rattle.batch.proofs.Asks.{ask_whole, key_is, insert_is, value_is}

drop_take : {A : Type 0} (m n : ℕ) (xs : List A) → drop m (take (m + n) xs) ≡ take n (drop m xs)
drop_take zero n xs = rw (zero-add n)
drop_take (suc m) n [] = let e : suc m + n ≡ suc (m + n) = omega arith in rw e (sym (take-nil n))
drop_take (suc m) n (x ∷ xs) = let e : suc m + n ≡ suc (m + n) = omega arith in rw e (drop_take m n xs)

map_half : {A B : Type 0} (f : A → B) (b : Side) (m : ℕ) (xs : List A) → map f (half b m xs) ≡ half b m (map f xs)
map_half f false zero xs = refl
map_half f false (suc m) [] = refl
map_half f false (suc m) (x ∷ xs) = ap (f x ∷◌) (map_half f false m xs)
map_half f true zero xs = refl
map_half f true (suc m) [] = refl
map_half f true (suc m) (x ∷ xs) = map_half f true m xs

pub all_half : {A : Type 0} (P : A → Type 0) (b : Side) (m : ℕ) (xs : List A) → All P xs → All P (half b m xs)
all_half P false m xs h = all_take P m xs h
all_half P true m xs h = all_drop P m xs h

all_mapped : {A B : Type 0} (P : B → Type 0) (f : A → B) (xs : List A) → All (λ x. P (f x)) xs → All P (map f xs)
all_mapped P f [] h = tt
all_mapped P f (x ∷ xs) h = (h.0, all_mapped P f xs h.1)

get_d_mapped : {A B : Type 0} (f : A → B) (xs : List A) (i : ℕ) (d : A) (e : B) → i < length xs → get_or (map f xs) i e ≡ f (get_or xs i d)
get_d_mapped f [] i d e h = absurd (omega arith)
get_d_mapped f (x ∷ xs) zero d e h = refl
get_d_mapped f (x ∷ xs) (suc i) d e h = get_d_mapped f xs i d e (omega arith)

pub length_records : (n : ℕ) (b : Bytes) → length (records n b) ≡ n
unfolding records
length_records zero b = refl
length_records (suc n) b = ap suc (length_records n (drop record_size b))

-- record i of n
records_at_lem : (n i : ℕ) (b : Bytes) → i < n → get_or (records n b) i [] ≡ record_at i b
unfolding records record_at slice
records_at_lem zero i b h = absurd (omega arith)
records_at_lem (suc n) zero b h = refl
records_at_lem (suc n) (suc i) b h =
    let e : record_size + record_size * i ≡ record_size * suc i = omega arith in
    records_at_lem n i (drop record_size b) (omega arith) ∙ ap (take record_size) (drop-drop (record_size * i) record_size b) ∙ ap (λ (k : ℕ). take record_size (drop k b)) e

take_records : (m n : ℕ) (b : Bytes) → m ≤ n → take m (records n b) ≡ records m b
unfolding records
take_records zero n b h = refl
take_records (suc m) zero b h = absurd (omega arith)
take_records (suc m) (suc n) b h = ap (take record_size b ∷◌) (take_records m n (drop record_size b) (omega arith))

drop_records : (m n : ℕ) (b : Bytes) → m ≤ n → drop m (records n b) ≡ records (n - m) (drop (record_size * m) b)
unfolding records
drop_records zero n b h = rw (sub-zero n)
drop_records (suc m) zero b h = absurd (omega arith)
drop_records (suc m) (suc n) b h =
    let e : n - m ≡ suc n - suc m = omega arith in
    let f : record_size + record_size * m ≡ record_size * suc m = omega arith in
    drop_records m n (drop record_size b) (omega arith) ∙ ap₂ records e (drop-drop (record_size * m) record_size b ∙ ap (λ (k : ℕ). drop k b) f)

-- the first records lie in the front
records_front : (m k : ℕ) (b : Bytes) → record_size * m ≤ k → records m (take k b) ≡ records m b
unfolding records
records_front zero k b h = refl
records_front (suc m) k b h =
    let e : k ≡ record_size + (k - record_size) = omega arith in
    ap₂ ◌∷◌ (take-take record_size k b (omega arith))
    (ap (λ (j : ℕ). records m (drop record_size (take j b))) e ∙ ap (records m) (drop_take record_size (k - record_size) b) ∙ records_front m (k - record_size) (drop record_size b) (omega arith))

-- the records of a half of a batch
pub records_half : (s : Side) (m : ℕ) (b : Bytes) → m ≤ count b → records_of (half s (record_size * m) b) ≡ half s m (records_of b)
records_half false m b h =
    let e : length (take (record_size * m) b) / record_size ≡ m = simp length-take (omega arith) in
    ap (λ (n : ℕ). records n (take (record_size * m) b)) e ∙ records_front m (record_size * m) b (omega arith) ∙ sym (take_records m (count b) b h)
records_half true m b h =
    let e : length (drop (record_size * m) b) / record_size ≡ count b - m = simp length-drop (omega arith) in
    ap (λ (n : ℕ). records n (drop (record_size * m) b)) e ∙ sym (drop_records m (count b) b h)

pub asks_half : (s : Side) (m : ℕ) (b : Bytes) → m ≤ count b → asks (half s (record_size * m) b) ≡ half s m (asks b)
unfolding asks
asks_half s m b h = ap (map ask) (records_half s m b h) ∙ map_half ask s m (records_of b)

pub length_asks : (b : Bytes) → length (asks b) ≡ count b
unfolding asks
length_asks b = length-map (records_of b) ask ∙ length_records (count b) b

-- the records from i on begin with record i
pub records_from : (i : ℕ) (b : Bytes) → i < count b → drop i (records_of b) ≡ record_at i b ∷ drop (i + 1) (records_of b)
records_from i b h =
    drop-cons (records_of b) i [] (omega (arith, length_records (count b) b)) ∙ rw (records_at_lem (count b) i b h, add-one i)

pub asks_at : (i : ℕ) (b : Bytes) (d : Ask) → i < count b → get_or (asks b) i d ≡ ask_at i b
unfolding asks ask_at
asks_at i b d h = get_d_mapped ask (records_of b) i [] d (omega (arith, length_records (count b) b)) ∙ ap ask (records_at_lem (count b) i b h)

-- the asks from i on begin with ask i
pub asks_from : (i : ℕ) (b : Bytes) → i < count b → drop i (asks b) ≡ ask_at i b ∷ drop (i + 1) (asks b)
asks_from i b h =
    drop-cons (asks b) i (ask []) (omega (arith, length_asks b)) ∙ rw (asks_at i b (ask []) h, add-one i)

pub length_record : (i : ℕ) (b : Bytes) → i < count b → length (record_at i b) ≡ record_size
unfolding record_at
length_record i b h = length_slice (record_size * i) record_size b (omega arith)

record_bytes_lem : (i : ℕ) (b : Bytes) → All Byte b → All Byte (record_at i b)
unfolding record_at
record_bytes_lem i b h = all_slice (record_size * i) record_size b h

pub records_whole : (b : Bytes) → All Byte b → All (λ x. (length x ≡ record_size) × All Byte x) (records_of b)
records_whole b h =
    all_of _ (records_of b) [] (λ i l.
    let k : i < count b = omega (arith, length_records (count b) b) in rw (records_at_lem (count b) i b k) (length_record i b k, record_bytes_lem i b h))

-- what is read is in form
pub asks_whole : (b : Bytes) → All Byte b → All AskForm (asks b)
unfolding asks
asks_whole b h = all_mapped AskForm ask (records_of b) (all_map _ _ (records_of b) (λ x k. ask_whole x k.1 k.0) (records_whole b h))

-- a part of a slice, and a part of a part
pub part : (i n : ℕ) (b : Bytes) → take (i + n - i) (drop i b) ≡ slice i n b
unfolding slice
part i n b = rw (add-sub_cancel_left i n)

slice_slice : (i j m n : ℕ) (b : Bytes) → j + n ≤ m → slice j n (slice i m b) ≡ slice (i + j) n b
unfolding slice
slice_slice i j m n b h =
    let e : m ≡ j + (m - j) = omega arith in
    ap (λ (k : ℕ). take n (drop j (take k (drop i b)))) e
    ∙ ap (take n) (drop_take j (m - j) (drop i b))
    ∙ take-take n (m - j) (drop j (drop i b)) (omega arith)
    ∙ ap (take n) (drop-drop j i b)

-- the parts of a record
pub record_part : (i : ℕ) (b : Bytes) → take (record_size * i + record_size - record_size * i) (drop (record_size * i) b) ≡ record_at i b
unfolding record_at
record_part i b = part (record_size * i) record_size b

pub key_part_lem : (i : ℕ) (b : Bytes) → take (record_size * i + key_at_lem + 32 - (record_size * i + key_at_lem)) (drop (record_size * i + key_at_lem) b) ≡ ask_key (ask_at i b)
unfolding ask_at record_at
key_part_lem i b = part (record_size * i + key_at_lem) 32 b ∙ sym (key_is (record_at i b) ∙ slice_slice (record_size * i) key_at_lem record_size 32 b (omega arith))

pub length_key : (i : ℕ) (b : Bytes) → i < count b → length (ask_key (ask_at i b)) ≡ 32
unfolding ask_at
length_key i b h = ap length (key_is (record_at i b)) ∙ length_slice key_at_lem 32 (record_at i b) (omega (arith, length_record i b h))

key_and_value : (x : Bytes) → slice key_at_lem 64 x ≡ slice key_at_lem 32 x ++ slice value_at 32 x
unfolding slice
key_and_value x = take-add 32 32 (drop key_at_lem x) ∙ ap (λ (l : Bytes). take 32 (drop key_at_lem x) ++ take 32 l) (drop-drop 32 key_at_lem x)

pub grant_part : (i : ℕ) (b : Bytes) → inserts (ask_at i b) ≡ true → take (record_size * i + key_at_lem + 64 - (record_size * i + key_at_lem)) (drop (record_size * i + key_at_lem) b) ≡ ask_key (ask_at i b) ++ ask_value (ask_at i b)
unfolding ask_at record_at
grant_part i b h =
    let x = record_at i b in
    part (record_size * i + key_at_lem) 64 b ∙ sym (slice_slice (record_size * i) key_at_lem record_size 64 b (omega arith)) ∙ key_and_value x
    ∙ ap₂ ◌++◌ (sym (key_is x)) (sym (value_is x (sym (insert_is x) ∙ h)))
