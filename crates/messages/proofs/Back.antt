-- Messages there and back: the bytes of a raw proof are read as it, and bytes that are read are the bytes of what was read. Assumes nothing.
use Prim.Native.Nat.{ℕ, zero, suc, ◌+◌, ◌*◌, ◌<◌, ◌≤◌}
use native.Mathlib.Omega.{arith}
use mathlib.Core.Path.{◌≡◌, refl, ap, ap₂, sym, ◌∙◌, subst}
use mathlib.Core.Logic.{◌↔◌}
use mathlib.Core.Bool.{Bool, true, false, cond, ◌&&◌, false≢true}
use mathlib.Core.List.{List, [], ◌∷◌, ◌++◌, map, append-nil}
use mathlib.Core.Option.{Option, none, some, some-injective}
use lib.ListN.{length, get_or, length-append}
use lib.Dec.{eqb, leb}
use borrow.Author.Tests.{eqb-true, eqb-false, eq-eqb, ne_eqb, leb-true, le-leb}
use Rattle.terms.specs.Bits.{Bytes, Byte, All, same_bytes}
use Rattle.terms.specs.Fields.{flat, all_of}
use Rattle.terms.specs.Records.{Step, Presence, Absence, Proof, presence, absence}
use Rattle.terms.proofs.Tests.{and_left, and_right, same_bytes_lem, bytes_same}
use Rattle.terms.proofs.Fields.{all_of_tests}
use Rattle.proofrecords.specs.ProofBytes.{flags_of}
use Rattle.messages.specs.Wire.{varint_in, varint, bytes_tag, message_field, bytes_field, number_field}
use Rattle.messages.specs.Message.{existence, neighbour_field, nonexistence, message_bytes, most_bytes, leaf_bytes, inner_bytes, existence_bytes, op_of}
use Rattle.messages.specs.Raws.{leaf_op, path, RawPresence, RawNeighbour, RawProof}
use Rattle.messages.specs.Parts.{Raw}
use Rattle.messages.specs.Reading.{onward, only_if, Front, field_from, path_in, length_right, existence_in, neighbour_from, somebody, nonexistence_in, field_alone, message_in}
use Rattle.messages.proofs.Wires.{onward_some, only_if_some, Near, Short, field_is, field_back, FieldSaid, field_said, bytes_field_is, length_field, no_bytes}
use Rattle.messages.proofs.Steps.{path_back, PathSaid, path_said, length_path}

-- raw lengths
pub length_right_lem : (most : ℕ) (x : Bytes) → Raw most x → length_right most x ≡ true
unfolding length_right
length_right_lem most x h = rw (le-leb 1 (length x) h.some_byte, le-leb (length x) most h.short)

pub right_length : (most : ℕ) (x : Bytes) → All Byte x → length_right most x ≡ true → Raw most x
unfolding length_right
right_length most x h e =
    let one = leb 1 (length x) in
    let many = leb (length x) most in
    record { some_byte = leb-true 1 (length x) (and_left one many e); short = leb-true (length x) most (and_right one many e); bytes = h }

length_leaf : length leaf_op ≡ 9
unfolding leaf_bytes varint_in varint bytes_tag message_field bytes_field number_field
length_leaf = refl

-- an existence proof, field after field
pub path_is : (steps : List Step) → flat (map (λ op. message_field 4 (inner_bytes op)) (map op_of steps)) ≡ path steps
path_is [] = refl
path_is (s ∷ steps) = ap (message_field 4 (inner_bytes (op_of s)) ++◌) (path_is steps)

pub existence_is : (p : Presence) → RawPresence p →
    existence p ≡ message_field 1 p.key ++ (message_field 2 p.value ++ (message_field 3 leaf_op ++ path p.steps))
unfolding existence_bytes
existence_is p h =
    rw (
      bytes_field_is 1 p.key h.key_raw.some_byte,
      bytes_field_is 2 p.value h.value_raw.some_byte,
      path_is p.steps,
    )

pub existence_back : (p : Presence) → RawPresence p → existence_in (existence p) ≡ some p
unfolding existence_in onward only_if all_of
existence_back p h =
    let k = h.key_raw.short in
    let x = h.value_raw.short in
    rw (
      existence_is p h,
      field_back 1 p.key (message_field 2 p.value ++ (message_field 3 leaf_op ++ path p.steps)) (omega arith) (omega arith),
      field_back 2 p.value (message_field 3 leaf_op ++ path p.steps) (omega arith) (omega arith),
      field_back 3 leaf_op (path p.steps) (omega arith) (omega (arith, length_leaf)),
      length_right_lem 256 p.key h.key_raw,
      length_right_lem 4096 p.value h.value_raw,
      bytes_same leaf_op,
      path_back 256 p.steps h.short h.steps32,
    )

pub record ExistenceSaid (m : Bytes) (p : Presence) : Type 0 where
  pub is : existence p ≡ m
  pub raw : RawPresence p

-- fields that are read one after the other, with the path, are an existence proof
existence_of_lem : (m : Bytes) (k x l : Bytes × Bytes) (steps : List Step) → FieldSaid 1 m k → FieldSaid 2 k.1 x → FieldSaid 3 x.1 l →
    PathSaid 256 l.1 steps → All (λ t. t ≡ true) (length_right 256 k.0 ∷ length_right 4096 x.0 ∷ same_bytes l.0 leaf_op ∷ []) →
    ExistenceSaid m (record { key = k.0; value = x.0; steps = steps })
existence_of_lem m k x l steps fk fx fl said tests =
    let raw : RawPresence (record { key = k.0; value = x.0; steps = steps }) = record {
      key_raw = right_length 256 k.0 fk.inside tests.0;
      value_raw = right_length 4096 x.0 fx.inside tests.1.0;
      short = said.short;
      steps32 = said.each32;
    } in
    record {
      is =
          existence_is (record { key = k.0; value = x.0; steps = steps }) raw
          ∙ ap (λ u. message_field 1 k.0 ++ (message_field 2 x.0 ++ u))
          (ap₂ (λ o v. message_field 3 o ++ v) (sym (same_bytes_lem l.0 leaf_op tests.1.1.0)) said.is ∙ sym fl.is)
          ∙ ap (λ u. message_field 1 k.0 ++ u) (sym fx.is)
          ∙ sym fk.is;
      raw = raw;
    }

pub existence_said : (m : Bytes) (p : Presence) → All Byte m → existence_in m ≡ some p → ExistenceSaid m p
unfolding existence_in
existence_said m p h e =
    let a = onward_some (field_from 1 m) _ p e in
    let fk = field_said 1 m a.0 (omega arith) h a.1 in
    let b = onward_some (field_from 2 a.0.1) _ p a.2 in
    let fx = field_said 2 a.0.1 b.0 (omega arith) fk.after b.1 in
    let c = onward_some (field_from 3 b.0.1) _ p b.2 in
    let fl = field_said 3 b.0.1 c.0 (omega arith) fx.after c.1 in
    let t =
    only_if_some (all_of (length_right 256 a.0.0 ∷ length_right 4096 b.0.0 ∷ same_bytes c.0.0 leaf_op ∷ [])) _ p c.2 in
    let d = onward_some (path_in 256 c.0.1) _ p t.1 in
    let said = path_said 256 c.0.1 d.0 fl.after d.1 in
    subst (ExistenceSaid m) (some-injective (record { key = a.0.0; value = b.0.0; steps = d.0 }) p d.2) (existence_of_lem m a.0 b.0 c.0 d.0 fk fx fl said (all_of_tests _ t.0))

pub length_existence : (p : Presence) → RawPresence p → length (existence p) ≤ 14865
length_existence p h =
    let k = h.key_raw.short in
    let x = h.value_raw.short in
    let s = h.short in
    rw (existence_is p h)
    (simp length-append
    (omega (
      arith,
      length_field 1 1 p.key (omega arith) (omega arith) (omega arith),
      length_field 1 2 p.value (omega arith) (omega arith) (omega arith),
      length_field 0 3 leaf_op (omega arith) (omega arith) (omega (arith, length_leaf)),
      length_leaf,
      length_path p.steps h.steps32,
    )))

-- a neighbour there and back; what follows doesn't begin as it would
neighbour_back : (n : ℕ) (o : Option Presence) (r : Bytes) → Near n → RawNeighbour o → (get_or r 0 0 ≡ 8 * n + 2 → ⊥) →
    neighbour_from n (neighbour_field n o ++ r) ≡ some (o, r)
unfolding neighbour_from onward
neighbour_back n none r near h k = rw (ne_eqb (get_or r 0 0) (8 * n + 2) k)
neighbour_back n (some p) r near h k =
    let l = length_existence p h in
    let f = field_is n (existence p) r near in
    rw (
      eq-eqb (get_or (message_field n (existence p) ++ r) 0 0) (8 * n + 2) (ap (λ m. get_or m 0 0) f),
      field_back n (existence p) r near (omega arith),
      existence_back p h,
    )

record NeighbourSaid (n : ℕ) (m : Bytes) (f : Option Presence × Bytes) : Type 0 where
  is : m ≡ neighbour_field n f.0 ++ f.1
  raw : RawNeighbour f.0
  after : All Byte f.1

neighbour_said : (n : ℕ) (m : Bytes) (f : Option Presence × Bytes) → Near n → All Byte m → neighbour_from n m ≡ some f → NeighbourSaid n m f
unfolding neighbour_from
neighbour_said n m f near h = go (eqb (get_or m 0 0) (8 * n + 2))
  where
    inside : Bytes × Bytes → Front (Option Presence)
    inside x = onward (existence_in x.0) λ p. some (some p, x.1)

    go : (t : Bool) → cond t (onward (field_from n m) inside) (some (none, m)) ≡ some f → NeighbourSaid n m f
    go true e =
        let a = onward_some (field_from n m) inside f e in
        let x = a.0 in
        let fx = field_said n m x near h a.1 in
        let b = onward_some (existence_in x.0) (λ p. some (some p, x.1)) f a.2 in
        let said = existence_said x.0 b.0 fx.inside b.1 in
        subst (NeighbourSaid n m) (some-injective (some b.0, x.1) f b.2)
        (record { is = fx.is ∙ ap (λ u. message_field n u ++ x.1) (sym said.is); raw = said.raw; after = fx.after })
    go false e =
        subst (NeighbourSaid n m) (some-injective (none, m) f e) (record { is = refl; raw = tt; after = h })

-- a non-existence proof
pub nonexistence_is : (a : Absence) → Raw 256 a.key →
    nonexistence a ≡ message_field 1 a.key ++ (neighbour_field 2 a.leftward ++ (neighbour_field 3 a.rightward ++ []))
unfolding nonexistence
nonexistence_is a h = rw (bytes_field_is 1 a.key h.some_byte)

somebody_is : (l r : Option Presence) → 1 ≤ flags_of l r → somebody l r ≡ true
somebody_is none none h = absurd (omega arith)
somebody_is none (some r) h = refl
somebody_is (some l) none h = refl
somebody_is (some l) (some r) h = refl

is_somebody : (l r : Option Presence) → somebody l r ≡ true → 1 ≤ flags_of l r
is_somebody none none h = absurd (false≢true h)
is_somebody none (some r) h = omega arith
is_somebody (some l) none h = omega arith
is_somebody (some l) (some r) h = omega arith

-- the right neighbour's field, or none, doesn't begin as a left one's
right_begins : (o : Option Presence) → get_or (neighbour_field 3 o ++ []) 0 0 ≡ 18 → ⊥
right_begins none e = omega arith
right_begins (some p) e = omega (arith, ap (λ m. get_or m 0 0) (field_is 3 (existence p) [] (omega arith)))

nonexistence_back : (a : Absence) → RawProof (absence a) → nonexistence_in (nonexistence a) ≡ some a
unfolding nonexistence_in onward only_if all_of
nonexistence_back a h =
    let k = h.0.short in
    rw (
      nonexistence_is a h.0,
      field_back 1 a.key (neighbour_field 2 a.leftward ++ (neighbour_field 3 a.rightward ++ [])) (omega arith) (omega arith),
      neighbour_back 2 a.leftward (neighbour_field 3 a.rightward ++ []) (omega arith) h.1 (right_begins a.rightward),
      neighbour_back 3 a.rightward [] (omega arith) h.2 (λ z. omega arith),
      length_right_lem 256 a.key h.0,
      somebody_is a.leftward a.rightward h.3,
    )

pub record NonexistenceSaid (m : Bytes) (a : Absence) : Type 0 where
  pub is : nonexistence a ≡ m
  pub raw : RawProof (absence a)

pub nonexistence_said : (m : Bytes) (a : Absence) → All Byte m → nonexistence_in m ≡ some a → NonexistenceSaid m a
unfolding nonexistence_in
nonexistence_said m a h e =
    let u = onward_some (field_from 1 m) _ a e in
    let k = u.0 in
    let fk = field_said 1 m k (omega arith) h u.1 in
    let v = onward_some (neighbour_from 2 k.1) _ a u.2 in
    let l = v.0 in
    let fl = neighbour_said 2 k.1 l (omega arith) fk.after v.1 in
    let w = onward_some (neighbour_from 3 l.1) _ a v.2 in
    let r = w.0 in
    let fr = neighbour_said 3 l.1 r (omega arith) fl.after w.1 in
    let t = only_if_some (all_of (length_right 256 k.0 ∷ somebody l.0 r.0 ∷ eqb (length r.1) 0 ∷ [])) _ a w.2 in
    let tests = all_of_tests _ t.0 in
    let key = right_length 256 k.0 fk.inside tests.0 in
    let end = no_bytes r.1 (eqb-true _ _ tests.1.1.0) in
    subst (NonexistenceSaid m) (some-injective (record { key = k.0; leftward = l.0; rightward = r.0 }) a t.1)
    (record {
      is =
          nonexistence_is (record { key = k.0; leftward = l.0; rightward = r.0 }) key
          ∙ ap (λ z. message_field 1 k.0 ++ (neighbour_field 2 l.0 ++ z)) (ap (λ z. neighbour_field 3 r.0 ++ z) (sym end) ∙ sym fr.is)
          ∙ ap (λ z. message_field 1 k.0 ++ z) (sym fl.is)
          ∙ sym fk.is;
      raw = (key, fl.raw, fr.raw, is_somebody l.0 r.0 tests.1.0);
    })

length_neighbour : (n : ℕ) (o : Option Presence) → Near n → RawNeighbour o → length (neighbour_field n o) ≤ 14868
length_neighbour n none near h = omega arith
length_neighbour n (some p) near h =
    let l = length_existence p h in omega (arith, length_field 1 n (existence p) (omega arith) near (omega arith))

length_nonexistence : (a : Absence) → RawProof (absence a) → length (nonexistence a) ≤ 29995
length_nonexistence a h =
    let k = h.0.short in
    rw (nonexistence_is a h.0)
    (simp length-append
    (omega (
      arith,
      length_field 1 1 a.key (omega arith) (omega arith) (omega arith),
      length_neighbour 2 a.leftward (omega arith) h.1,
      length_neighbour 3 a.rightward (omega arith) h.2,
    )))

-- The bound of a message's bytes.
pub message_at_most : (q : Proof) → RawProof q → length (message_bytes q) ≤ most_bytes q
message_at_most (presence p) h =
    let l = length_existence p h in omega (arith, length_field 1 1 (existence p) (omega arith) (omega arith) (omega arith))
message_at_most (absence a) h =
    let l = length_nonexistence a h in omega (arith, length_field 2 2 (nonexistence a) (omega arith) (omega arith) (omega arith))

-- a field alone
alone_back : (n : ℕ) (x : Bytes) → Near n → Short (length x) → field_alone n (message_field n x) ≡ some x
unfolding field_alone onward only_if
alone_back n x near l = rw (sym (append-nil (message_field n x)), field_back n x [] near l)

alone_said : (n : ℕ) (m x : Bytes) → Near n → All Byte m → field_alone n m ≡ some x → (message_field n x ≡ m) × All Byte x
unfolding field_alone
alone_said n m x near h e =
    let a = onward_some (field_from n m) _ x e in
    let f = a.0 in
    let s = field_said n m f near h a.1 in
    let t = only_if_some (eqb (length f.1) 0) (some f.0) x a.2 in
    let end = no_bytes f.1 (eqb-true _ _ t.0) in
    subst (λ y. (message_field n y ≡ m) × All Byte y) (some-injective f.0 x t.1)
    (sym (append-nil (message_field n f.0)) ∙ ap (λ z. message_field n f.0 ++ z) (sym end) ∙ sym s.is, s.inside)

first_byte : (n : ℕ) (x : Bytes) → Near n → get_or (message_field n x) 0 0 ≡ 8 * n + 2
first_byte n x near = ap (λ m. get_or m 0 0) (sym (append-nil (message_field n x)) ∙ field_is n x [] near)

-- What is written is read back.
pub message_back : (q : Proof) → RawProof q → message_in (message_bytes q) ≡ some q
unfolding message_in onward
message_back (presence p) h =
    let l = length_existence p h in
    rw (
      eq-eqb (get_or (message_field 1 (existence p)) 0 0) 10 (first_byte 1 (existence p) (omega arith)),
      alone_back 1 (existence p) (omega arith) (omega arith),
      existence_back p h,
    )
message_back (absence a) h =
    let l = length_nonexistence a h in
    rw (
      ne_eqb (get_or (message_field 2 (nonexistence a)) 0 0) 10 (λ z. omega (arith, first_byte 2 (nonexistence a) (omega arith))),
      alone_back 2 (nonexistence a) (omega arith) (omega arith),
      nonexistence_back a h,
    )

-- What is read was written so.
pub message_said : (m : Bytes) (q : Proof) → All Byte m → message_in m ≡ some q → RawProof q × (message_bytes q ≡ m)
unfolding message_in
message_said m q h = go (eqb (get_or m 0 0) 10)
  where
    go : (t : Bool) →
        cond t (onward (field_alone 1 m) λ x. onward (existence_in x) λ p. some (presence p))
        (onward (field_alone 2 m) λ x. onward (nonexistence_in x) λ a. some (absence a)) ≡ some q → RawProof q × (message_bytes q ≡ m)
    go true e =
        let a = onward_some (field_alone 1 m) (λ x. onward (existence_in x) λ p. some (presence p)) q e in
        let s = alone_said 1 m a.0 (omega arith) h a.1 in
        let b = onward_some (existence_in a.0) (λ p. some (presence p)) q a.2 in
        let d = existence_said a.0 b.0 s.1 b.1 in
        subst (λ y. RawProof y × (message_bytes y ≡ m)) (some-injective (presence b.0) q b.2)
        (d.raw, ap (message_field 1) d.is ∙ s.0)
    go false e =
        let a = onward_some (field_alone 2 m) (λ x. onward (nonexistence_in x) λ p. some (absence p)) q e in
        let s = alone_said 2 m a.0 (omega arith) h a.1 in
        let b = onward_some (nonexistence_in a.0) (λ p. some (absence p)) q a.2 in
        let d = nonexistence_said a.0 b.0 s.1 b.1 in
        subst (λ y. RawProof y × (message_bytes y ≡ m)) (some-injective (absence b.0) q b.2)
        (d.raw, ap (message_field 2) d.is ∙ s.0)

-- The reader takes exactly the encodings.
pub message_exactly : (m : Bytes) (q : Proof) → All Byte m → (message_in m ≡ some q) ↔ (RawProof q × (message_bytes q ≡ m))
message_exactly m q h = (message_said m q h, λ k. ap message_in (sym k.1) ∙ message_back q k.0)

-- Two raw proofs of one message are one.
pub one_message : (p q : Proof) → RawProof p → RawProof q → message_bytes p ≡ message_bytes q → p ≡ q
one_message p q h k e = some-injective p q (sym (message_back p h) ∙ ap message_in e ∙ message_back q k)
