-- Where no two slots match, each read by any table answers as by scans: what is found at the root and at each node is the same. A sound store has no
-- two at its kept versions. Assumes nothing.
use Prim.Native.Nat.{ℕ}
use mathlib.Core.Path.{◌≡◌, refl, ap, ap₂, sym, ◌∙◌, fun_ext}
use mathlib.Core.Bool.{Bool, true, false, cond}
use mathlib.Core.List.{List, [], ◌∷◌}
use lib.Dec.{ltb}
use Rattle.terms.specs.Bits.{Bytes, Side}
use Rattle.terms.specs.Records.{Grant, Child, Proof, Store}
use Rattle.meaning.specs.Sound.{Kept, Sound}
use Rattle.meaning.specs.Sight.{Sight, matches, nothing, spoilt, scan}
use Rattle.meaning.specs.Calls.{Answer, refused, is_kept}
use Rattle.meaning.specs.Reading.{seen, seen_at, seen_root, walk, read_end, read_key_by, read_key, root_read, read_root_by, read_root}
use Rattle.meaning.specs.Proving.{prove_seen, empty_version, proof_by, proof, fitted, prove_by, prove}
use Rattle.meaning.specs.Counting.{weight, at_body, number_at, position_at, descend, read_number_by, read_number, read_position_by, read_position}
use Rattle.palette_rules.specs.Palette.{palette_of, palette}
use Rattle.indexed.specs.Index.{by_table}
use Rattle.indexed.proofs.Scanned.{node_as_by_scan, root_as_by_scan, seen_at_alike, descend_alike, one_node, one_root}
use Rattle.index_reads.specs.Matching.{NoTwoMatch}

-- two answers of a read that differ only in what is found of a kept version
by_kept : {A : Type 0} (st : Store) (v : ℕ) (x y : Answer A) → (is_kept st v ≡ true → x ≡ y) → cond (is_kept st v) x (refused 8) ≡ cond (is_kept st v) y (refused 8)
by_kept st v x y f = go (is_kept st v) refl
  where
    go : (b : Bool) → is_kept st v ≡ b → cond b x (refused 8) ≡ cond b y (refused 8)
    go true e = f e
    go false e = refl

module _ (st : Store) (table : List ℕ) (v : ℕ) where
  module _ (once : NoTwoMatch st v) where
    nodes_alike : (by_table table st).node ≡ (scan st).node
    nodes_alike = fun_ext (λ w. fun_ext (λ p. node_as_by_scan st table w p (once.node w p)))

    root_sighted : (by_table table st).root v ≡ (scan st).root v
    root_sighted = root_as_by_scan st table v once.root

    seen_alike : seen (by_table table st) v ≡ seen (scan st) v
    unfolding seen
    seen_alike =
        ap₂ seen_root root_sighted (fun_ext (λ b. fun_ext (λ d. seen_at_alike 255 (by_table table st) (scan st) nodes_alike (b ∷ []) d)))

    position_from : (i : ℕ) (x : Sight) → position_at (by_table table st) x i ≡ position_at (scan st) x i
    position_from i (matches r) =
        ap (λ (f : Side → Child → ℕ → Answer Grant). cond (ltb i (weight r)) (at_body [] r.body r.counts i f) (refused 20))
        (fun_ext (λ b. fun_ext (λ d. fun_ext (λ j. descend_alike 255 (by_table table st) (scan st) nodes_alike (b ∷ []) d j))))
    position_from i nothing = refl
    position_from i (spoilt s) = refl

  module _ (once : is_kept st v ≡ true → NoTwoMatch st v) where
    -- The root, a key, the number of grants and the grant at a position.
    pub root_alike : (leaf_hash inner_hash : Bytes → Bytes → Bytes) →
        read_root_by leaf_hash inner_hash (by_table table st) st v ≡ read_root leaf_hash inner_hash st v
    unfolding read_root
    root_alike leaf_hash inner_hash = by_kept st v _ _ (λ e. ap (root_read leaf_hash inner_hash) (root_sighted (once e)))

    pub key_alike : (k : Bytes) → read_key_by (by_table table st) st v k ≡ read_key st v k
    unfolding read_key
    key_alike k = by_kept st v _ _ (λ e. ap (λ x. read_end k (walk k 0 [] x)) (seen_alike (once e)))

    pub number_alike : read_number_by (by_table table st) st v ≡ read_number st v
    unfolding read_number
    number_alike = by_kept st v _ _ (λ e. ap number_at (root_sighted (once e)))

    pub position_alike : (i : ℕ) → read_position_by (by_table table st) st v i ≡ read_position st v i
    unfolding read_position
    position_alike i =
        by_kept st v _ _ (λ e. ap (λ x. position_at (by_table table st) x i) (root_sighted (once e)) ∙ position_from (once e) i ((scan st).root v))

    -- A proof, and the proofs of a list of keys.
    proof_alike : (k : Bytes) → proof_by (by_table table st) st v k ≡ proof st v k
    unfolding proof
    proof_alike k =
        by_kept st v _ _ (λ e. ap₂ (λ x y. cond (empty_version x) (refused 14) (prove_seen k y)) (root_sighted (once e)) (seen_alike (once e)))

    pub prove_alike : (k : Bytes) (room : ℕ) → prove_by (by_table table st) st v k room ≡ prove st v k room
    unfolding prove
    prove_alike k room = ap (fitted room) (proof_alike k)

    pub palette_alike : (keys : List Bytes) (room : ℕ) → palette_of (proof_by (by_table table st) st v) st v keys room ≡ palette st v keys room
    unfolding palette
    palette_alike keys room = ap (λ (single : Bytes → Answer Proof). palette_of single st v keys room) (fun_ext proof_alike)

-- A sound store has no two that match at a kept version.
pub sound_no_two : (leaf_hash inner_hash : Bytes → Bytes → Bytes) (st : Store) → Sound leaf_hash inner_hash st → (v : ℕ) → Kept st v → NoTwoMatch st v
sound_no_two leaf_hash inner_hash st sound v kept = record {
  node = λ w p. one_node leaf_hash inner_hash st sound w p;
  root = one_root leaf_hash inner_hash st sound v kept;
}
