-- The tests of one record, in the order of the code: alone, its body, above. Assumes nothing.
use mathlib.Core.Path.{◌≡◌, refl, ap, ap₂, sym, ◌∙◌}
use mathlib.Core.Bool.{Bool, true, false, ◌&&◌}
use mathlib.Core.List.{[], ◌∷◌}
use lib.ListN.{take, drop}
use Rattle.terms.specs.declared.Form.{Form}
use Rattle.terms.specs.declared.Form.TheVariants.{Plain as plain, Counted as counted}
use Rattle.terms.specs.Bits.{Bytes, left, right, Place, longer, begins}
use Rattle.terms.specs.Fields.{all_of}
use Rattle.terms.specs.Records.{Body, inner_body, Tally, no_tally, tally, Store}
use Rattle.meaning.specs.Store.{find}
use Rattle.meaning.specs.Local.{weighed}
use Rattle.meaning.specs.Reading.{body_hash}
use Rattle.local.specs.Test.{child_test, body_test, counts_are, counts_test, record_test}
use Rattle.hash.specs.declared.Hash.{Hash}
use Rattle.hash.specs.Hash.{hash_bytes}
use Rattle.nodehash.specs.Node.{leaf_hash, inner_hash}
use Rattle.place.specs.declared.Place as declared-place
use Rattle.place.specs.Place.{place_of}
use Rattle.layout.specs.Slots.{key_in, grant_in, leaf_in}
use Rattle.layout.specs.Stores.{store_in}
use Rattle.slots.specs.declared.Child as declared-child
use Rattle.slots.specs.Answer.{child_says}
use Rattle.slots.proofs.Parts.{grant_key, grant_value}
use Rattle.check_kin.specs.Kin.{is_leaf_body}
use Rattle.check_alone.specs.declared.Head as declared
use Rattle.check_alone.specs.Parts.{record_on, found_on, alone_tests, AloneSays}
use Rattle.check_above.specs.Above.{above_test}

regroup : (a b c d e f g : Bool) → all_of (a ∷ b ∷ c ∷ d ∷ e ∷ f ∷ g ∷ []) ≡ all_of (a ∷ b ∷ c ∷ []) && (d && (g && (e && f)))
unfolding all_of
regroup false b c d e f g = refl
regroup true false c d e f g = refl
regroup true true false d e f g = refl
regroup true true true false e f g = refl
regroup true true true true false f true = refl
regroup true true true true false f false = refl
regroup true true true true true false true = refl
regroup true true true true true false false = refl
regroup true true true true true true true = refl
regroup true true true true true true false = refl

module _ (fm : Form) (s : Bytes) (h : declared.Head) (o : Body) (tl : Tally) where
  in_order : record_test leaf_hash inner_hash (store_in fm s) (record_on h o tl)
      ≡ all_of (alone_tests fm s h o tl) && (body_test (store_in fm s) (place_of h.place) o && (counts_test (store_in fm s) (record_on h o tl) && above_test fm s h o tl))
  unfolding record_test
  in_order = regroup _ _ _ _ _ _ _

  pub fails_alone : {t : Bool} → AloneSays fm s h t → t ≡ false → false ≡ record_test leaf_hash inner_hash (store_in fm s) (record_on h o tl)
  fails_alone f e = sym (in_order ∙ rw (sym (f o tl) ∙ e))

  module _ {t : Bool} (f : AloneSays fm s h t) (e : t ≡ true) where
    pub fails_body : body_test (store_in fm s) (place_of h.place) o ≡ false → false ≡ record_test leaf_hash inner_hash (store_in fm s) (record_on h o tl)
    fails_body d = sym (in_order ∙ rw (sym (f o tl) ∙ e, d))

    module _ (d : body_test (store_in fm s) (place_of h.place) o ≡ true) where
      pub fails_counts : counts_test (store_in fm s) (record_on h o tl) ≡ false → false ≡ record_test leaf_hash inner_hash (store_in fm s) (record_on h o tl)
      fails_counts n = sym (in_order ∙ rw (sym (f o tl) ∙ e, d, n))

      pub passes_counts : counts_test (store_in fm s) (record_on h o tl) ≡ true → {u : Bool} → u ≡ above_test fm s h o tl →
          u ≡ record_test leaf_hash inner_hash (store_in fm s) (record_on h o tl)
      passes_counts n g = g ∙ sym (in_order ∙ rw (sym (f o tl) ∙ e, d, n))

-- a leaf has no counts, in either form
pub leaf_counted : (st : Store) (h : declared.Head) (x : Bytes) (tl : Tally) → tl ≡ no_tally → counts_test st (record_on h (leaf_in x) tl) ≡ true
unfolding counts_test leaf_in
leaf_counted st h x tl e = ap (λ c. counts_are st.form c no_tally) e ∙ go st.form
  where
    go : (f : Form) → counts_are f no_tally no_tally ≡ true
    go plain = refl
    go counted = refl

-- a leaf's key and grant, where they lie
module _ (x : Bytes) where
  pub leaf_body_lem : (st : Store) (p : Place) {y : Bytes} → y ≡ key_in x → {t : Bool} → t ≡ begins p y → body_test st p (leaf_in x) ≡ t
  unfolding leaf_in
  leaf_body_lem st p e f = ap (begins p) (sym e) ∙ sym f

  pub leaf_hashed : {g : Bytes} → g ≡ grant_in x → (v : Hash) → hash_bytes v ≡ leaf_hash (take 32 g) (drop 32 g) →
      body_hash leaf_hash inner_hash (leaf_in x) ≡ hash_bytes v
  unfolding leaf_in
  leaf_hashed e v f = sym (f ∙ ap₂ leaf_hash (ap (take 32) e ∙ grant_key x) (ap (drop 32) e ∙ grant_value x))

  pub leaf_kind_lem : is_leaf_body (leaf_in x) ≡ true
  unfolding leaf_in
  leaf_kind_lem = refl

-- an inner record's children
module _ (a b : declared-child.Child) where
  pub inner_body_lem : (fm : Form) (s : Bytes) (p : declared-place.Place) →
      body_test (store_in fm s) (place_of p) (inner_body (child_says a) (child_says b)) ≡ found_on fm s p left a.version && found_on fm s p right b.version
  unfolding child_test found_on child_says
  inner_body_lem fm s p = refl

  -- and its counts
  pub inner_counted : (fm : Form) (s : Bytes) (h : declared.Head) (tl : Tally) →
      counts_test (store_in fm s) (record_on h (inner_body (child_says a) (child_says b)) tl)
      ≡ counts_are fm tl (tally (weighed (find a.version (longer left (place_of h.place)) (store_in fm s).slots)) (weighed (find b.version (longer right (place_of h.place)) (store_in fm s).slots)))
  unfolding counts_test child_says
  inner_counted fm s h tl = refl

  pub inner_hashed : (v : Hash) → hash_bytes v ≡ inner_hash (hash_bytes a.hash) (hash_bytes b.hash) →
      body_hash leaf_hash inner_hash (inner_body (child_says a) (child_says b)) ≡ hash_bytes v
  unfolding child_says
  inner_hashed v f = sym f
