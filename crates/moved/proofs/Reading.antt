-- Reads don't see counts: what is seen in a store with its records counted anew is what was seen before, in every store, sound or not. So key
-- reads, root reads and proofs are the same. Assumes nothing.
use Prim.Native.Nat.{ℕ, zero, suc}
use mathlib.Core.Path.{◌≡◌, refl, ap, ap₂, ◌∙◌, fun_ext}
use mathlib.Core.Bool.{cond}
use mathlib.Core.List.{[], ◌∷◌}
use mathlib.Core.Option.{Option, none, some}
use lib.Dec.{eqb}
use Rattle.terms.specs.declared.Form.{Form}
use Rattle.terms.specs.declared.Form.TheVariants.{Counted as counted}
use Rattle.terms.specs.Bits.{Bytes, Side, Place, longer}
use Rattle.terms.specs.Records.{Child, Tally, Record, Store}
use Rattle.meaning.specs.Store.{find, root_of}
use Rattle.meaning.specs.Sight.{Sight, matches, nothing, spoilt, agrees, agrees_root, lowest_spoilt, sighted, root_sight, node_sight, scan}
use Rattle.meaning.specs.Calls.{refused, is_kept}
use Rattle.meaning.specs.Reading.{Seen, gap, stopped_by, lost_record, seen_body, seen_child, seen_at, seen_root, seen, walk, read_end, read_key, root_read, read_root}
use Rattle.meaning.specs.Proving.{empty_version, prove_seen, proof}
use Rattle.moved.specs.Moving.{counting}
use Rattle.moved.proofs.Recounted.{anew, found, find_anew, roots_anew, spoilt_anew, moved}

module _ (g : Record → Tally) (st : Store) (form : Form) where
  abbrev st' : Store
  st' = moved g st form

  -- what is sighted, counted anew
  abbrev sight_anew : Sight → Sight
  sight_anew (matches r) = matches (anew g r)
  sight_anew nothing = nothing
  sight_anew (spoilt i) = spoilt i

  sighted_anew : (o : Option Record) (n : Option ℕ) → sighted (found g o) n ≡ sight_anew (sighted o n)
  sighted_anew (some r) n = refl
  sighted_anew none none = refl
  sighted_anew none (some i) = refl

  node_anew : (v : ℕ) (p : Place) → node_sight st' v p ≡ sight_anew (node_sight st v p)
  unfolding node_sight
  node_anew v p =
      ap₂ sighted (find_anew g v p st.slots) (spoilt_anew g (agrees v p) 0 st.slots)
      ∙ sighted_anew (find v p st.slots) (lowest_spoilt (agrees v p) 0 st.slots)

  root_sight_anew : (v : ℕ) → root_sight st' v ≡ sight_anew (root_sight st v)
  unfolding root_sight
  root_sight_anew v =
      ap₂ sighted (roots_anew g st form v) (spoilt_anew g (agrees_root v) 0 st.slots)
      ∙ sighted_anew (root_of st v) (lowest_spoilt (agrees_root v) 0 st.slots)

  child_anew : (p : Place) (x : Sight) (kid kid' : Side → Child → Seen) → ((b : Side) (d : Child) → kid b d ≡ kid' b d) →
      seen_child p (sight_anew x) kid ≡ seen_child p x kid'
  unfolding counting
  child_anew p (matches r) kid kid' e = ap (seen_body p r.body) (fun_ext (λ b. fun_ext (e b)))
  child_anew p nothing kid kid' e = refl
  child_anew p (spoilt i) kid kid' e = refl

  at_anew : (n : ℕ) (p : Place) (c : Child) → seen_at n (scan st') p c ≡ seen_at n (scan st) p c
  at_anew zero p c =
      ap (cond (eqb c.version 0) gap)
      (ap (λ x. seen_child p x (λ b d. stopped_by lost_record)) (node_anew c.version p) ∙ child_anew p (node_sight st c.version p) _ _ (λ b d. refl))
  at_anew (suc n) p c =
      ap (cond (eqb c.version 0) gap)
      (ap (λ x. seen_child p x (λ b d. seen_at n (scan st') (longer b p) d)) (node_anew c.version p)
      ∙ child_anew p (node_sight st c.version p) _ _ (λ b d. at_anew n (longer b p) d))

  root_seen : (x : Sight) (kid kid' : Side → Child → Seen) → ((b : Side) (d : Child) → kid b d ≡ kid' b d) →
      seen_root (sight_anew x) kid ≡ seen_root x kid'
  unfolding counting
  root_seen (matches r) kid kid' e = ap (seen_body [] r.body) (fun_ext (λ b. fun_ext (e b)))
  root_seen nothing kid kid' e = refl
  root_seen (spoilt i) kid kid' e = refl

  pub seen_anew : (v : ℕ) → seen (scan st') v ≡ seen (scan st) v
  unfolding seen
  seen_anew v =
      ap (λ x. seen_root x (λ b d. seen_at 255 (scan st') (b ∷ []) d)) (root_sight_anew v)
      ∙ root_seen (root_sight st v) _ _ (λ b d. at_anew 255 (b ∷ []) d)

  kept_anew : (v : ℕ) → is_kept st' v ≡ is_kept st v
  unfolding is_kept
  kept_anew v = refl

  -- A key read answers as before.
  pub key_read_anew : (v : ℕ) (k : Bytes) → read_key st' v k ≡ read_key st v k
  unfolding read_key
  key_read_anew v k = ap₂ (λ b x. cond b (read_end k (walk k 0 [] x)) (refused 8)) (kept_anew v) (seen_anew v)

  empty_anew : (x : Sight) → empty_version (sight_anew x) ≡ empty_version x
  empty_anew (matches r) = refl
  empty_anew nothing = refl
  empty_anew (spoilt i) = refl

  -- A proof is the same, and so are its bytes.
  pub proof_anew : (v : ℕ) (k : Bytes) → proof st' v k ≡ proof st v k
  unfolding proof
  proof_anew v k =
      ap₂ (λ b x. cond b x (refused 8)) (kept_anew v)
      (ap₂ (λ b x. cond b (refused 14) (prove_seen k x)) (ap empty_version (root_sight_anew v) ∙ empty_anew (root_sight st v)) (seen_anew v))

  module _ (leaf_hash inner_hash : Bytes → Bytes → Bytes) where
    root_hash_anew : (x : Sight) → root_read leaf_hash inner_hash (sight_anew x) ≡ root_read leaf_hash inner_hash x
    unfolding counting
    root_hash_anew (matches r) = refl
    root_hash_anew nothing = refl
    root_hash_anew (spoilt i) = refl

    -- A root read answers as before.
    pub root_read_anew : (v : ℕ) → read_root leaf_hash inner_hash st' v ≡ read_root leaf_hash inner_hash st v
    unfolding read_root
    root_read_anew v =
        ap₂ (λ b x. cond b x (refused 8)) (kept_anew v) (ap (root_read leaf_hash inner_hash) (root_sight_anew v) ∙ root_hash_anew (root_sight st v))
