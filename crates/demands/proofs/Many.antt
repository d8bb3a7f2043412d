-- Many proofs checked at once, over the contracts: the answers are those of the single checks; and what a palette gave is cut back into its
-- proofs, each of which is answered with 0 and what its key read finds. Assumes nothing.
use Prim.Native.Nat.{ℕ, suc, ◌*◌, ◌≤◌}
use native.Mathlib.Omega.{arith}
use mathlib.Core.Path.{◌≡◌, refl, ap, ap₂, sym, ◌∙◌, subst}
use mathlib.Core.Bool.{true}
use mathlib.Core.List.{List, [], ◌∷◌, ◌++◌, map}
use lib.ListN.{length, take, drop, length-map}
use lib.Seq.{take_at}
use Rattle.terms.specs.declared.Form.TheVariants.{Counted as counted}
use Rattle.terms.specs.Bits.{Bytes, Byte, All, Whole32}
use Rattle.terms.specs.Fields.{num, flat}
use Rattle.terms.specs.Records.{Proof}
use Rattle.meaning.specs.Tree.{unversioned}
use Rattle.meaning.specs.Sound.{Kept}
use Rattle.meaning.specs.Calls.{Answer, accepted}
use Rattle.meaning.specs.Answers.{number_of, told_of}
use Rattle.meaning.proofs.Told.{seen, exports_left}
use Rattle.meaning.specs.Proving.{HoldsGrant, proof}
use Rattle.shown.proofs.Theorems.{empty_is_fourteen}
use Rattle.palette_rules.specs.Palette.{whole_keys, keys_in}
use Rattle.palette_rules.specs.Claims.{ProofOfEach}
use Rattle.palette_rules.proofs.Keys.{keys_are_bytes}
use Rattle.nodehash.specs.Node.{leaf_hash, inner_hash}
use Rattle.proofrecords.specs.ProofBytes.{proof_bytes, ProofForm}
use Rattle.layout.specs.Slots.{SlotForm}
use Rattle.layout.specs.Stores.{store_of}
use Rattle.promises.specs.Calls.{SoundBytes}
use Rattle.promises.proofs.Calls.{sound_form}
use Rattle.contracts.specs.Palettes.{proofs_bytes}
use Rattle.verify_rows.specs.Rows as told
use Rattle.verify_rows.specs.Rows.{Pieces, answer_bytes, Answers, nothing_left, next, ToldOfRow, not_whole, not_pieces, no_room}
use Rattle.verify_rows.proofs.Cutting.{proofs_sized, one_row}
use Rattle.verify_rows.proofs.Told.{one_answers, answers_long, one_told_of_row}
use Rattle.contracts.specs.Contracts.{ReadsRoot, Palettes, VerifiesMany}
use Rattle.demands.specs.Claims.{tree_of_version}
use Rattle.demands.specs.Many.{SingleChecks, none_checked, then_checked, BesideSingleChecks, KeyReads, none_read, then_read, answers_for, RowShown}
use Rattle.demands.proofs.Refusals.{no_refusal}
use Rattle.demands.proofs.Hashes.{hash_whole}
use Rattle.demands.proofs.Forms.{proof_form}
use Rattle.demands.proofs.Showing.{root_of_tree, key_of_grants}
use Rattle.demands.proofs.Palettes.{there_are, its_given, room_is, told_is, together_long, is_verified}

-- the answers of single checks, one after the other
single_answers : {root : Bytes} {keys xs answers : List Bytes} → SingleChecks root keys xs answers → Answers root keys xs (flat answers)
unfolding answer_bytes
single_answers none_checked = nothing_left
single_answers {root} (then_checked {k} {x} {g} {r} {keys} {pieces = xs} {answers} w c) =
    subst (λ b. Answers root (k ∷ keys) (x ∷ xs) (b ++ flat answers)) (sym (ap₂ ◌∷◌ (seen w).exported.number (seen w).exported.told)) (next (seen w).said (single_answers c))

as_many_lem : {root : Bytes} {keys xs answers : List Bytes} → SingleChecks root keys xs answers → length xs ≡ length keys
as_many_lem none_checked = refl
as_many_lem (then_checked w c) = ap suc (as_many_lem c)

-- Exactly what the single checks answer, key by key.
pub many_are_single_checks : {root list row old new : Bytes} → VerifiesMany root list row old 0 new → BesideSingleChecks root list row old new
many_are_single_checks {root} {list} {row} {old} {new} w = record {
  same = λ {pieces = xs} {answers} each is c.
      (seen w).exported.told ∙ go (record { each = each; many = as_many_lem c; bytes = is }) (single_answers c) (seen w).said (seen w).exported.number;
  long = λ {pieces = xs} {answers} c. answers_long root (keys_in list) xs (flat answers) (single_answers c);
}
  where
    go : {xs : List Bytes} {b : Bytes} {a : Answer Bytes} → Pieces (length (keys_in list)) row xs → Answers root (keys_in list) xs b →
        ToldOfRow root list row (length old) a → 0 ≡ number_of a → told_of (λ c. c ++ drop (length c) old) a old ≡ b ++ drop (length b) old
    go are r (not_whole n) e = absurd (omega arith)
    go are r (not_pieces h n) e = absurd (omega arith)
    go are r (no_room h n l) e = absurd (omega arith)
    go {xs} {b} are r (told.answered {xs = ys} {b = c} h n l q) e =
        ap (λ d. d ++ drop (length d) old)
        (one_answers root (keys_in list) xs c b
        (subst (λ zs. Answers root (keys_in list) zs c) (one_row (length (keys_in list)) row ys xs n are) q) r)

-- On a sound store, in a kept version.
module _ (s : Bytes) (w : SoundBytes s) (v : ℕ) (kept : Kept (store_of s) v) where
  slots : All (SlotForm counted) (store_of s).slots
  slots = (sound_form (store_of s) refl w.sound).each

  -- a version in which a key was given its proof holds a grant
  holds : (k : Bytes) → Whole32 k → {p : Proof} → proof (store_of s) v k ≡ accepted p → HoldsGrant (store_of s) v
  holds k whole e z = no_refusal (sym e ∙ empty_is_fourteen leaf_hash inner_hash (store_of s) w.sound v kept k whole z)

  forms : (keys : List Bytes) (ps : List Proof) → All Whole32 keys → ProofOfEach (proof (store_of s) v) keys ps → All ProofForm ps × (length ps ≡ length keys)
  forms [] [] h e = (tt, refl)
  forms [] (p ∷ ps) h e = absurd e
  forms (k ∷ keys) [] h e = absurd e
  forms (k ∷ keys) (p ∷ ps) h e =
      let r = forms keys ps h.1 e.1 in ((proof_form (store_of s) v k p slots h.0 e.0, r.0), ap suc r.1)

  each_answered : {f root : Bytes} {r : ℕ} → ReadsRoot s v f r root → (keys : List Bytes) (ps : List Proof) → All Whole32 keys →
      ProofOfEach (proof (store_of s) v) keys ps → Answers root keys (map proof_bytes ps) (flat (answers_for s v keys))
  unfolding answer_bytes
  each_answered y [] [] h e = nothing_left
  each_answered y [] (p ∷ ps) h e = absurd e
  each_answered y (k ∷ keys) [] h e = absurd e
  each_answered y (k ∷ keys) (p ∷ ps) h e =
      next (is_verified s w v kept (holds k h.0 e.0) k h.0 p e.0 y) (each_answered y keys ps h.1 e.1)

  module _ (list : Bytes) (asked : All Byte list) (whole : whole_keys list ≡ true) where
    keys : All Whole32 (keys_in list)
    keys = keys_are_bytes list asked

    answered : {room f t g f₁ root old new : Bytes} {r₁ r : ℕ} → Palettes s v list room f 0 t g → ReadsRoot s v f₁ r₁ root →
        VerifiesMany root list (take (num g) t) old r new → 34 * length (keys_in list) ≤ length old →
        (r ≡ 0) × (new ≡ flat (answers_for s v (keys_in list)) ++ drop (34 * length (keys_in list)) old)
    answered {t = t} {g = g} {root = root} {old = old} x y z fits =
        let ps = (there_are x).0 in
        let each = (its_given x).each in
        let form = forms (keys_in list) ps keys each in
        let many : length (map proof_bytes ps) ≡ length (keys_in list) = length-map ps proof_bytes ∙ form.1 in
        let row : take (num g) t ≡ flat (map proof_bytes ps) =
        ap (take (num g)) (room_is x)
        ∙ take_at (proofs_bytes ps) _ (num g) (together_long s v slots (keys_in list) ps keys each ∙ sym (told_is x whole)) in
        let root32 : length root ≡ 32 = ap length (root_of_tree w kept y).1 ∙ (hash_whole (unversioned (tree_of_version s v))).0 in
        let are : Pieces (length (keys_in list)) (take (num g) t) (map proof_bytes ps) = record { each = proofs_sized ps form.0; many = many; bytes = row } in
        let same = each_answered y (keys_in list) ps keys each in
        let long = answers_long root (keys_in list) (map proof_bytes ps) (flat (answers_for s v (keys_in list))) same in
        let said = exports_left (one_told_of_row root list (take (num g) t) (length old)) z (told.answered (root32, whole) are fits same) in
        (said.0, said.1 ∙ ap (λ n. flat (answers_for s v (keys_in list)) ++ drop n old) long)

    reads_are : {ks found : List Bytes} → All Whole32 ks → KeyReads s v ks found → answers_for s v ks ≡ map (λ g. 0 ∷ g) found
    reads_are h none_read = refl
    reads_are h (then_read x c) = ap₂ ◌∷◌ (ap (0 ∷◌) (sym (key_of_grants w kept h.0 x).1)) (reads_are h.1 c)

    -- What a palette gives is answered with 0 for every key, and with what the key reads find.
    pub palette_row_is_shown : RowShown s v list
    palette_row_is_shown = record { answered = λ x y z h. answered x y z h; as_read = λ c. reads_are keys c }
