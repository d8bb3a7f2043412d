-- Rows 10, 15 and 9 of writing a message, 10 and 9 of reading one: what the definitions answer is what the rows deserve. Assumes nothing.
use Prim.Native.Nat.{ℕ, ◌<◌}
use native.Mathlib.Omega.{arith}
use mathlib.Core.Path.{◌≡◌, refl, sym, ◌∙◌, subst}
use mathlib.Core.Logic.{inl, inr}
use mathlib.Core.Bool.{Bool, true, false, cond}
use mathlib.Core.List.{List, [], ◌∷◌}
use mathlib.Core.Option.{Option, none, some}
use lib.ListN.{length}
use lib.Dec.{ltb}
use borrow.Author.Tests.{ltb-true, ltb-false}
use Rattle.terms.specs.Bits.{Bytes}
use Rattle.terms.specs.Records.{Proof}
use Rattle.meaning.specs.Calls.{Answer, refused, accepted}
use Rattle.meaning.specs.Answers.{number_of}
use Rattle.proofrecords.specs.ProofBytes.{ProofIs, Which}
use Rattle.messages.specs.Message.{message_bytes}
use Rattle.message_rules.specs.Contracts.{Encodes, record_of, Lends, fitted, written, read}
use Rattle.message_rules.proofs.Ties.{one_lends, one_encoded}
use Rattle.refusals.specs.Exactly.{Table}
use Rattle.refusals.specs.Tables.{write_message_rows, read_message_rows}
use Rattle.refusals.proofs.Parts.{Row}
use Rattle.refusals.proofs.Exactly.{First}

-- Where two neighbouring rows are deserved at once, the answer is the number of the one that is tested first.
ten_before_fifteen : (x asked : Bytes) (leaves : List Bytes) (room : Bytes) → Row 10 (write_message_rows x asked leaves room) → First (write_message_rows x asked leaves room) 10
ten_before_fifteen x asked leaves room a = inl (a, refl)

fifteen_before_nine : (x asked : Bytes) (leaves : List Bytes) (room : Bytes) → (Row 10 (write_message_rows x asked leaves room) → ⊥) →
    Row 15 (write_message_rows x asked leaves room) → Row 9 (write_message_rows x asked leaves room) → First (write_message_rows x asked leaves room) 15
fifteen_before_nine x asked leaves room form a b = inr (form, inl (a, refl))

ten_before_nine : (m room : Bytes) → Row 10 (read_message_rows m room) → First (read_message_rows m room) 10
ten_before_nine m room a = inl (a, refl)

-- room is looked at last
room_first : (P : Proof → Type 0) (bytes : Proof → Bytes) (room : Bytes) (q : Proof) → P q → ((p : Proof) → P p → p ≡ q) →
    First ((9, (p : Proof) × P p × (length room < length (bytes p))) ∷ []) (number_of (fitted bytes q room))
room_first P bytes room q h one = go (ltb (length room) (length (bytes q))) refl
  where
    go : (b : Bool) → ltb (length room) (length (bytes q)) ≡ b →
        First ((9, (p : Proof) × P p × (length room < length (bytes p))) ∷ []) (number_of (cond b (refused 9) (accepted q)))
    go true f = inl ((q, h, ltb-true _ _ f), refl)
    go false f =
        inr (
          λ d. let l = ltb-false (length room) (length (bytes q)) f in
              omega (arith, l, subst (λ p. length room < length (bytes p)) (one d.0 d.1) d.2),
          refl,
        )

-- writing
pub write_first : (x asked : Bytes) (leaves : List Bytes) (room : Bytes) (said raw : Option Proof) → Which (ProofIs x) said → Which (Lends x asked leaves) raw →
    First (write_message_rows x asked leaves room) (number_of (written said raw room))
write_first x asked leaves room none raw h k = inl (h, refl)
write_first x asked leaves room (some p) none h k = inr (λ f. f p h, inl ((p, h, k), refl))
write_first x asked leaves room (some p) (some q) h k =
    inr (λ f. f p h, inr (λ d. d.2 q k, room_first (Lends x asked leaves) message_bytes room q k (λ r l. one_lends r q l k)))

-- reading
pub read_first : (m room : Bytes) (said : Option Proof) → Which (λ q. Encodes (record_of q) m q) said → First (read_message_rows m room) (number_of (read said room))
read_first m room none h = inl (h, refl)
read_first m room (some q) h =
    inr (λ f. f q h, room_first (λ q. Encodes (record_of q) m q) record_of room q h (λ r e. one_encoded e h))
