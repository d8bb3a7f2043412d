-- Our own record of what a message says, field after field. Assumes nothing.
use Prim.Native.Nat.{ℕ, ◌+◌, ◌*◌, ◌-◌, ◌<◌, ◌≤◌}
use native.Mathlib.Omega.{arith}
use mathlib.Core.Path.{◌≡◌, refl, ap, ap₂, sym, ◌∙◌, subst}
use mathlib.Core.List.{List, [], ◌∷◌, ◌++◌, append_assoc, append-nil}
use mathlib.Core.Option.{Option, none, some}
use Rattle.std.specs.declared.option.Option as option
use Rattle.std.specs.Prelude.{Some, None}
use Rattle.std.specs.Option.{ForSome}
use lib.ListN.{length, take, drop, length-append}
use Rattle.terms.specs.Bits.{Bytes, Whole32}
use Rattle.terms.specs.Fields.{le, flat}
use Rattle.terms.specs.Records.{Presence, Absence, presence, absence}
use Rattle.terms.proofs.Fields.{length_le}
use Rattle.fields.specs.Written.{written}
use Rattle.fields.proofs.Written.{part_written}
use Rattle.hash.specs.declared.Hash.{Hash}
use Rattle.hash.specs.Hash.{hash_bytes}
use Rattle.hash.proofs.Laws.{hash_whole, put_over}
use Rattle.sha256.specs.Sha256.{sha256}
use Rattle.proofrecords.specs.ProofBytes.{steps_bytes, presence_bytes, neighbour_bytes, flags_of, absence_bytes}
use Rattle.proofrecords.proofs.Steps.{length_steps}
use Rattle.proofrecords.proofs.Proofs.{length_presence, length_absence}
use Rattle.messages.specs.Message.{own_presence}
use Rattle.messages.specs.Raws.{own_neighbour, RawPresence}
use Rattle.messages.proofs.Lending.{own_form}
use Rattle.message_rules.proofs.Writing.{written_none, written_then}
use Rattle.sha256.proofs.Digests.{digest_whole}
use Rattle.message_leaf.specs.declared.Shown.{Shown}
use Rattle.message_leaf.specs.Shown.{presence_at, shown_in}
use Rattle.message_leaf.proofs.Heads.{the_shown, no_shown}
use Rattle.message_form.specs.declared.Absent.{Absent}
use Rattle.message_form.specs.Said.{Held, absent_at}
use Rattle.message_record.specs.Ready.{Ready, ReadyOr, AbsentReady, size_of, flag_of, absent_size, own_absence}

pub digest_put : (at : ℕ) (x room t : Bytes) (h : Hash) → hash_bytes h ≡ sha256 x → length (take (at + 32 - at) (drop at room)) ≡ 32 →
    t ≡ hash_bytes h ++ drop 32 (take (at + 32 - at) (drop at room)) →
    take at room ++ (t ++ drop (at + 32 - at) (drop at room)) ≡ written at (sha256 x) room
digest_put at x room t h e l f =
    let n : length (sha256 x) ≡ 32 = (digest_whole x).0 in
    ap (λ u. take at room ++ (u ++ drop (at + 32 - at) (drop at room))) (put_over h (take (at + 32 - at) (drop at room)) t l f ∙ e) ∙ part_written at (at + 32) (sha256 x) room (omega arith)

-- six fields one after the other
pub six : (A B C D E F r0 r1 r2 r3 r4 r5 r6 : Bytes) (a b c d e f : ℕ) → r1 ≡ written a A r0 → r2 ≡ written b B r1 → r3 ≡ written c C r2 → r4 ≡ written d D r3 →
    r5 ≡ written e E r4 → r6 ≡ written f F r5 → b ≡ a + length A → c ≡ b + length B → d ≡ c + length C → e ≡ d + length D → f ≡ e + length E → f + length F ≤ length r0 →
    r6 ≡ written a (flat (A ∷ B ∷ C ∷ D ∷ E ∷ F ∷ [])) r0
six A B C D E F r0 r1 r2 r3 r4 r5 r6 a b c d e f w1 w2 w3 w4 w5 w6 e1 e2 e3 e4 e5 room =
    let l2 = length-append A B in
    let l3 = length-append (A ++ B) C in
    let l4 = length-append ((A ++ B) ++ C) D in
    let l5 = length-append (((A ++ B) ++ C) ++ D) E in
    let v2 : r2 ≡ written a (A ++ B) r0 = w2 ∙ ap (written b B) w1 ∙ written_then a b A B r0 e1 (omega arith) in
    let v3 : r3 ≡ written a ((A ++ B) ++ C) r0 = w3 ∙ ap (written c C) v2 ∙ written_then a c (A ++ B) C r0 (omega arith) (omega arith) in
    let v4 : r4 ≡ written a (((A ++ B) ++ C) ++ D) r0 = w4 ∙ ap (written d D) v3 ∙ written_then a d ((A ++ B) ++ C) D r0 (omega arith) (omega arith) in
    let v5 : r5 ≡ written a ((((A ++ B) ++ C) ++ D) ++ E) r0 = w5 ∙ ap (written e E) v4 ∙ written_then a e (((A ++ B) ++ C) ++ D) E r0 (omega arith) (omega arith) in
    let v6 : r6 ≡ written a (((((A ++ B) ++ C) ++ D) ++ E) ++ F) r0 = w6 ∙ ap (written f F) v5 ∙ written_then a f ((((A ++ B) ++ C) ++ D) ++ E) F r0 (omega arith) (omega arith) in
    v6 ∙ ap (λ u. written a u r0) (simp (append_assoc, append-nil))

pub few_steps : {x : Bytes} {p : Shown} → Ready x p → p.count ≤ 256
few_steps r = omega (arith, r.raw.short, r.count_is_lem)

length_its_steps : {x : Bytes} {p : Shown} → Ready x p → length (steps_bytes (presence_at x p).steps) ≡ 33 * p.count
length_its_steps {x} {p} r = length_steps (presence_at x p).steps r.raw.steps32 ∙ ap (33 *◌) r.count_is_lem

pub presence_put : {x : Bytes} {p : Shown} (at : ℕ) (r0 r1 r2 r3 r4 r5 r6 : Bytes) → Ready x p → at + (72 + 33 * p.count) ≤ length r0 →
    r1 ≡ written at (le 4 (72 + 33 * p.count)) r0 → r2 ≡ written (at + 4) (le 2 16) r1 → r3 ≡ written (at + 6) (le 2 p.count) r2 →
    r4 ≡ written (at + 8) (sha256 (presence_at x p).key) r3 → r5 ≡ written (at + 40) (sha256 (presence_at x p).value) r4 →
    r6 ≡ written (at + 72) (steps_bytes (presence_at x p).steps) r5 →
    r6 ≡ written at (presence_bytes (own_presence sha256 (presence_at x p))) r0
unfolding presence_bytes
presence_put {x} {p} at r0 r1 r2 r3 r4 r5 r6 ready room w1 w2 w3 w4 w5 w6 =
    let a1 = length_le 4 (72 + 33 * p.count) in
    let a2 = length_le 2 16 in
    let a3 = length_le 2 p.count in
    let a4 = (digest_whole (presence_at x p).key).0 in
    let a5 = (digest_whole (presence_at x p).value).0 in
    let a6 = length_its_steps ready in
    six (le 4 (72 + 33 * p.count)) (le 2 16) (le 2 p.count) (sha256 (presence_at x p).key) (sha256 (presence_at x p).value) (steps_bytes (presence_at x p).steps) r0 r1 r2 r3 r4 r5 r6
    at (at + 4) (at + 6) (at + 8) (at + 40) (at + 72) w1 w2 w3 w4 w5 w6 (omega arith) (omega arith) (omega arith) (omega arith) (omega arith) (omega arith)
    ∙ ap (λ n. written at (flat (le 4 (72 + 33 * n) ∷ le 2 16 ∷ le 2 n ∷ sha256 (presence_at x p).key ∷ sha256 (presence_at x p).value ∷ steps_bytes (presence_at x p).steps ∷ [])) r0)
    (sym ready.count_is_lem)

-- a neighbour's record, if there is a neighbour
abbrev pub beside_bytes : Bytes → option.Option Shown → Bytes
beside_bytes x o = neighbour_bytes (own_neighbour sha256 (shown_in x o))

pub ready_as : (x : Bytes) {r o : option.Option Shown} → r ≡ o → ReadyOr x r → ReadyOr x o
ready_as x e s = subst (ReadyOr x) e s

pub length_own : {x : Bytes} {p : Shown} → Ready x p → length (presence_bytes (own_presence sha256 (presence_at x p))) ≡ 72 + 33 * p.count
length_own {x} {p} r = length_presence (own_presence sha256 (presence_at x p)) (own_form sha256 digest_whole (presence (presence_at x p)) r.raw) ∙ ap (λ n. 72 + 33 * n) r.count_is_lem

length_neighbour : (x : Bytes) (o : option.Option Shown) → ReadyOr x o → length (beside_bytes x o) ≡ size_of o
length_neighbour x None r = refl
length_neighbour x (Some p) r = length_own r

-- the flags
flags_are : (x y : Bytes) (l r : option.Option Shown) → flags_of (own_neighbour sha256 (shown_in x l)) (own_neighbour sha256 (shown_in y r)) ≡ flag_of l 1 + flag_of r 2
flags_are x y None None = refl
flags_are x y None (Some r) = refl
flags_are x y (Some l) None = refl
flags_are x y (Some l) (Some r) = refl

pub few_flags : (o : option.Option Shown) (n : ℕ) → flag_of o n ≤ n
few_flags None n = omega arith
few_flags (Some p) n = omega arith

-- few steps, and so few bytes
pub few_or : (x : Bytes) (o : option.Option Shown) → ReadyOr x o → ForSome o (λ p. p.count ≤ 256)
few_or x None r q e = no_shown e
few_or x (Some p) r q e = subst (λ (s : Shown). s.count ≤ 256) (the_shown e) (few_steps r)

pub few_size : (o : option.Option Shown) → ForSome o (λ p. p.count ≤ 256) → size_of o ≤ 8520
few_size None h = omega arith
few_size (Some p) h = omega (arith, h p refl)

pub few_bytes : (x : Bytes) (o : option.Option Shown) → ReadyOr x o → size_of o ≤ 8520
few_bytes x o r = few_size o (few_or x o r)

pub absence_put : {x : Bytes} {a : Absent} (size flags after : ℕ) (r0 r1 r2 r3 r4 r5 r6 : Bytes) → AbsentReady x a → size ≡ absent_size a → flags ≡ flag_of a.left 1 + flag_of a.right 2 →
    after ≡ 40 + size_of a.left → size ≤ length r0 →
    r1 ≡ written 0 (le 4 size) r0 → r2 ≡ written 4 (le 2 17) r1 → r3 ≡ written 6 (le 2 flags) r2 → r4 ≡ written 8 (sha256 (absent_at x a).key) r3 →
    r5 ≡ written 40 (neighbour_bytes (own_neighbour sha256 (shown_in (take a.middle x) a.left))) r4 →
    r6 ≡ written after (neighbour_bytes (own_neighbour sha256 (shown_in x a.right))) r5 →
    r6 ≡ written 0 (absence_bytes (own_absence (absent_at x a))) r0
unfolding absence_bytes absent_size
absence_put {x} {a} size flags after r0 r1 r2 r3 r4 r5 r6 ready s g t room w1 w2 w3 w4 w5 w6 =
    let L = neighbour_bytes (own_neighbour sha256 (shown_in (take a.middle x) a.left)) in
    let R = neighbour_bytes (own_neighbour sha256 (shown_in x a.right)) in
    let a1 = length_le 4 size in
    let a2 = length_le 2 17 in
    let a3 = length_le 2 flags in
    let a4 = (digest_whole (absent_at x a).key).0 in
    let l = length_neighbour (take a.middle x) a.left ready.left_ready in
    let r = length_neighbour x a.right ready.right_ready in
    let total : size ≡ 40 + length L + length R = s ∙ ap₂ (λ u v. 40 + u + v) (sym l) (sym r) in
    six (le 4 size) (le 2 17) (le 2 flags) (sha256 (absent_at x a).key) L R r0 r1 r2 r3 r4 r5 r6 0 4 6 8 40 after w1 w2 w3 w4 w5 w6 (omega arith) (omega arith) (omega arith)
    (omega arith) (omega arith) (omega arith)
    ∙ ap₂ (λ u v. written 0 (flat (le 4 u ∷ le 2 17 ∷ le 2 v ∷ sha256 (absent_at x a).key ∷ L ∷ R ∷ [])) r0) total
    (g ∙ sym (flags_are (take a.middle x) x a.left a.right))

-- what is held can be written
pub held_ready : {n : ℕ} {x : Bytes} {at : ℕ} {p : Shown} → Held n x at p → Ready x p
held_ready h = record {
  key_in_lem = (h.inside.key_inside.1, h.inside.key_inside.2);
  value_in = (h.inside.value_inside.1, h.inside.value_inside.2);
  path_in_lem = h.inside.path_inside.1;
  raw = h.raw;
  count_is_lem = h.count_is_lem;
}

pub length_absent : {x : Bytes} {a : Absent} → AbsentReady x a → length (absence_bytes (own_absence (absent_at x a))) ≡ absent_size a
unfolding absence_bytes absent_size
length_absent {x} {a} ready =
    let L = neighbour_bytes (own_neighbour sha256 (shown_in (take a.middle x) a.left)) in
    let R = neighbour_bytes (own_neighbour sha256 (shown_in x a.right)) in
    let n = 40 + length L + length R in
    let f = flags_of (own_neighbour sha256 (shown_in (take a.middle x) a.left)) (own_neighbour sha256 (shown_in x a.right)) in
    simp length-append
    (omega (
      arith,
      length_le 4 n,
      length_le 2 17,
      length_le 2 f,
      (digest_whole (absent_at x a).key).0,
      length_neighbour (take a.middle x) a.left ready.left_ready,
      length_neighbour x a.right ready.right_ready,
    ))

pub size_is : (a : Absent) → absent_size a ≡ 40 + size_of a.left + size_of a.right
unfolding absent_size
size_is a = refl
