-- What the call answers, by what it tests first. Assumes nothing.
use Prim.Native.Nat.{ℕ}
use native.Mathlib.Omega.{arith}
use mathlib.Core.Path.{◌≡◌, refl, ap, sym, ◌∙◌}
use mathlib.Core.Bool.{Bool, true, false, cond}
use mathlib.Core.List.{List, [], ◌∷◌}
use mathlib.Core.Option.{none, some}
use lib.ListN.{length}
use Rattle.terms.specs.declared.Form.TheVariants.{Counted as counted}
use Rattle.terms.specs.Bits.{Bytes}
use Rattle.terms.specs.Records.{Proof, Store}
use Rattle.meaning.specs.Calls.{Answer, refused, accepted, is_kept}
use Rattle.meaning.specs.Proving.{proof_by}
use Rattle.meaning.proofs.Sights.{node_sighted}
use Rattle.indexed.specs.Index.{by_table}
use Rattle.indexed.proofs.Scanned.{node_without_table, without_table}
use Rattle.layout.specs.Headers.{size_right, header_of}
use Rattle.layout.specs.Stores.{store_of}
use Rattle.ordered.specs.Ordered.{Leading}
use Rattle.read_near.specs.Near.{Led}
use Rattle.read_open.specs.Opening.{opened}
use Rattle.promises.specs.Headed.{by_header, as_many}
use Rattle.read_open.proofs.Opening as opening
use Rattle.prove_plan.proofs.Ending.{by_searches}
use Rattle.palette_rules.specs.Palette.{whole_keys, keys_in, in_turn, fitted_together, palette_of}
use Rattle.palette_rules.proofs.Turns.{in_turn_same}
use Rattle.std.specs.Prelude.{Result, Err}
use Rattle.refusal_numbers.specs.Refusals.{number}
use Rattle.refusal_numbers.specs.declared.Refusal.{Refusal}
use Rattle.refusal_numbers.specs.declared.Refusal.TheVariants.{Not32Bytes}
use Rattle.refusal_numbers.specs.declared.ReadRefusal.{ReadRefusal}
use Rattle.refusal_numbers.specs.declared.ReadRefusal.TheVariants.{Plain}
use Rattle.contracts.specs.Palettes.{palette_answer}
use Rattle.contracts.proofs.Heading.{as_many_lem, not_as_many}
use Rattle.palette_give.specs.Together.{planned_for, planned_in, Gives}
use Rattle.palette_give.proofs.Giving.{gives_refusal, gives_as}
use Rattle.palette.specs.Answer.{palette_answer_by}

-- 12
pub torn_list : {b : Bool} (s : Bytes) (table : List ℕ) (v : ℕ) (ks room : Bytes) → b ≡ whole_keys ks → b ≡ false → Gives (palette_answer_by s table v ks (length room)) room room (Err (Plain Not32Bytes))
unfolding palette_answer_by
torn_list s table v ks room e f =
    gives_refusal (Plain Not32Bytes) room (ap (λ b. cond b (by_header (header_of counted s) (palette_of (proof_by (by_table table (store_of s)) (store_of s) v) (store_of s) v (keys_in ks) (length room))) (refused 12)) (sym e ∙ f))

-- in a kept version the single calls give what is planned
kept_planned : (s : Bytes) (table : List ℕ) (v : ℕ) (ks : Bytes) (room : ℕ) (b : Bool) → is_kept (store_of s) v ≡ b →
    cond b (fitted_together room (in_turn (proof_by (by_table table (store_of s)) (store_of s) v) (keys_in ks))) (refused 8) ≡ cond b (fitted_together room (planned_in s table v ks)) (refused 8)
unfolding planned_in
kept_planned s table v ks room true e =
    ap (fitted_together room)
    (in_turn_same (proof_by (by_table table (store_of s)) (store_of s) v) (planned_for s table v) (λ k. by_searches (by_table table (store_of s)) (store_of s) v k ∙ ap (λ b. cond b (planned_for s table v k) (refused 8)) e) (keys_in ks))
kept_planned s table v ks room false e = refl

module _ {b : Bool} (s : Bytes) (table : List ℕ) (v : ℕ) (ks room : Bytes) (e : b ≡ whole_keys ks) (t : b ≡ true) where
  opened_first : palette_answer_by s table v ks (length room)
      ≡ by_header (header_of counted s) (cond (is_kept (store_of s) v) (fitted_together (length room) (planned_in s table v ks)) (refused 8))
  unfolding palette_answer_by
  opened_first =
      ap (λ c. cond c (by_header (header_of counted s) (palette_of (proof_by (by_table table (store_of s)) (store_of s) v) (store_of s) v (keys_in ks) (length room))) (refused 12)) (sym e ∙ t)
      ∙ ap (by_header (header_of counted s)) (kept_planned s table v ks (length room) (is_kept (store_of s) v) refl)

  -- 1, 2, 8
  pub first_refused : (r : Refusal) → refused (number r) ≡ opened s v → Gives (palette_answer_by s table v ks (length room)) room room (Err (Plain r))
  first_refused r f =
      gives_refusal (Plain r) room
      (opened_first ∙ sym (opening.refused_first (fitted_together (length room) (planned_in s table v ks)) s v f))

  module _ (f : accepted tt ≡ opened s v) where
    in_kept : palette_answer_by s table v ks (length room) ≡ fitted_together (length room) (planned_in s table v ks)
    in_kept = opened_first ∙ opening.rest_decides (fitted_together (length room) (planned_in s table v ks)) s v f

    pub all_given : {after : Bytes} {r : Result ℕ ReadRefusal} → Gives (fitted_together (length room) (planned_in s table v ks)) room after r →
        Gives (palette_answer_by s table v ks (length room)) room after r
    all_given g = gives_as (sym in_kept) g

pub kept_size : (s : Bytes) (v : ℕ) → accepted tt ≡ opened s v → size_right counted (length s) ≡ true
kept_size s v e = opening.kept_size s v e

-- by a table without entries it is that of the scan
pub palette_plain : (s : Bytes) (v : ℕ) (ks : Bytes) (room : ℕ) → palette_answer_by s [] v ks room ≡ palette_answer s none v ks room
unfolding palette_answer_by palette_answer
palette_plain s v ks room =
    ap (λ look. cond (whole_keys ks) (by_header (header_of counted s) (palette_of (proof_by look (store_of s) v) (store_of s) v (keys_in ks) room)) (refused 12))
    (without_table (store_of s))

-- a table of another length is refused with 1, after 12; else its palette is one by a table of any length
module _ (s : Bytes) (table : List ℕ) (v : ℕ) (ks : Bytes) (room : ℕ) where
  abbrev by_it : Answer (List Proof)
  by_it = palette_of (proof_by (by_table table (store_of s)) (store_of s) v) (store_of s) v (keys_in ks) room

  pub palette_as_many : whole_keys ks ≡ true → as_many s table ≡ true → palette_answer_by s table v ks room ≡ palette_answer s (some table) v ks room
  unfolding palette_answer_by palette_answer
  palette_as_many whole e = ap (λ a. cond (whole_keys ks) a (refused 12)) (as_many_lem by_it s table e)

  pub palette_not_as_many : whole_keys ks ≡ true → as_many s table ≡ false → refused 1 ≡ palette_answer s (some table) v ks room
  unfolding palette_answer
  palette_not_as_many whole e = rw whole (not_as_many by_it s table e)

-- a table of which the length is 0
pub without_entries : (t : List ℕ) → length t ≡ 0 → t ≡ []
without_entries [] e = refl
without_entries (x ∷ t) e = absurd (omega arith)

-- Guesses of children that each lead are what a scan finds.
pub led_own : (st : Store) (kids : List ℕ) → Leading st.slots kids → Led st [] kids
led_own st kids leading m r l least e =
    node_without_table st r.version r.place ∙ node_sighted st r.version r.place r (leading m l least r e)
