-- A store has one right table at most. Assumes nothing.
use Prim.Native.Nat.{ℕ, zero, suc, ◌<◌}
use native.Mathlib.Omega.{arith}
use mathlib.Core.Path.{◌≡◌, refl, ap, sym, ◌∙◌, subst}
use mathlib.Core.Bool.{Bool, true, false, true≢false}
use mathlib.Core.List.{List}
use lib.ListN.{length}
use lib.Seq.{ext_get_or}
use lib.Dec.{ltb}
use borrow.Author.Tests.{ltb-true, ltb-false}
use Rattle.terms.specs.Records.{Record, Store}
use Rattle.meaning.specs.Sound.{At}
use Rattle.indexed.specs.Index.{node_before}
use Rattle.indexed.specs.Table.{entry, Right}
use Rattle.indexed.proofs.Before.{node_itself, node_once}

module _ (st : Store) where
  -- no slot is named twice
  once : (table : List ℕ) (right : Right st table) (j k : ℕ) → j < k → k < right.many → entry st table j ≡ entry st table k → ⊥
  once table right j k l m e =
      let w = right.names k m in
      let before = right.order j k w.0 w.0 l m (subst (λ i. At st i w.0) (sym e) w.1) w.1 in
      true≢false (sym before ∙ node_itself w.0.version w.0.place)

  -- Where two right tables agree below k, what the first has in use at k is in use there in the second.
  module _ (t u : List ℕ) (a : Right st t) (b : Right st u) (k : ℕ) (alike : (j : ℕ) → j < k → entry st t j ≡ entry st u j) where
    same_place_lem : k < a.many → entry st t k ≡ entry st u k
    same_place_lem m = go (ltb k' k) refl (ltb k k') refl
      where
        r : Record
        r = (a.names k m).0

        here : At st (entry st t k) r
        here = (a.names k m).1

        k' : ℕ
        k' = (b.named (entry st t k) r here).0

        in_use : k' < b.many
        in_use = (b.named (entry st t k) r here).1

        there : entry st u k' ≡ entry st t k
        there = (b.named (entry st t k) r here).2

        -- what the second table has at k stands before r, and the first has it nowhere
        nowhere : k < k' → ⊥
        nowhere l = found (ltb p k) refl (ltb k p) refl
          where
            q : Record
            q = (b.names k (omega (arith, in_use))).0

            its : At st (entry st u k) q
            its = (b.names k (omega (arith, in_use))).1

            p : ℕ
            p = (a.named (entry st u k) q its).0

            p_used : p < a.many
            p_used = (a.named (entry st u k) q its).1

            p_is : entry st t p ≡ entry st u k
            p_is = (a.named (entry st u k) q its).2

            before : node_before q.version q.place r.version r.place ≡ true
            before = b.order k k' q r l in_use its (subst (λ i. At st i r) (sym there) here)

            found : (c : Bool) → ltb p k ≡ c → (d : Bool) → ltb k p ≡ d → ⊥
            found true e d f =
                let h = ltb-true p k e in once u b p k h (omega (arith, in_use)) (sym (alike p h) ∙ p_is)
            found false e true f =
                let after = a.order k p r q (ltb-true k p f) p_used here (subst (λ i. At st i q) (sym p_is) its) in
                true≢false (sym before ∙ node_once r.version q.version r.place q.place after)
            found false e false f =
                let g = ltb-false p k e in
                let h = ltb-false k p f in
                let same : p ≡ k = omega arith in
                once u b k k' l in_use (sym p_is ∙ (ap (entry st t) same ∙ sym there))

        go : (c : Bool) → ltb k' k ≡ c → (d : Bool) → ltb k k' ≡ d → entry st t k ≡ entry st u k
        go true e d f = let h = ltb-true k' k e in absurd (once t a k' k h m (alike k' h ∙ there))
        go false e true f = absurd (nowhere (ltb-true k k' f))
        go false e false f =
            let g = ltb-false k' k e in
            let h = ltb-false k k' f in
            let same : k' ≡ k = omega arith in
            sym there ∙ ap (entry st u) same

  module _ (t u : List ℕ) (a : Right st t) (b : Right st u) where
    agree : (n k : ℕ) → k < n → k < length t → entry st t k ≡ entry st u k
    agree zero k l m = absurd (omega arith)
    agree (suc n) k l m = go (λ j h. agree n j (omega arith) (omega arith)) (ltb k a.many) refl (ltb k b.many) refl
      where
        go : ((j : ℕ) → j < k → entry st t j ≡ entry st u j) → (c : Bool) → ltb k a.many ≡ c → (d : Bool) → ltb k b.many ≡ d →
            entry st t k ≡ entry st u k
        go alike true e d f = same_place_lem t u a b k alike (ltb-true k a.many e)
        go alike false e true f = sym (same_place_lem u t b a k (λ j h. sym (alike j h)) (ltb-true k b.many f))
        go alike false e false f =
            a.rest k (ltb-false k a.many e) m ∙ sym (b.rest k (ltb-false k b.many f) (omega (arith, a.size, b.size)))

    pub one_right_table : t ≡ u
    one_right_table =
        ext_get_or (length st.slots) t u (a.size ∙ sym b.size) (λ k l. agree (suc k) k (omega arith) l)
