-- Rescuing what is sound. A sound store whose kept versions all have a root is its own rescue: every record lives at a kept version, and its
-- retired-since is the version after the newest tree that has it. So a rescued store rescued again stays, with its own oldest or with the one
-- that it was rescued with: no version before its first joins. Assumes nothing.
use Prim.Native.Nat.{ℕ, suc, ◌+◌, ◌-◌, ◌≤◌, ◌<◌, max}
use native.Mathlib.Omega.{arith}
use mathlib.Core.Path.{◌≡◌, refl, ap, ap₂, sym, ◌∙◌, subst}
use mathlib.Core.Logic.{◌⊎◌, inl, inr}
use mathlib.Core.Bool.{Bool, true, false, cond}
use mathlib.Core.List.{List, [], ◌∷◌}
use mathlib.Core.Option.{Option, none, some, some-ne-none, some-injective}
use lib.Dec.{eqb, leb}
use borrow.Author.Tests.{eq-eqb, ne_eqb, leb-true, leb-false}
use Rattle.terms.specs.declared.Form.TheVariants.{Counted as counted}
use Rattle.terms.specs.Bits.{Bytes}
use Rattle.terms.specs.Records.{Record, Slot, free, used, spoiled, Store}
use Rattle.terms.proofs.Tests.{is_false}
use Rattle.terms.proofs.Members.{In}
use Rattle.meaning.specs.Tree.{top_version}
use Rattle.meaning.specs.Store.{find, retired_by, root_of, tree_found, tree_from, tree_at_version}
use Rattle.meaning.specs.Sound.{Kept, NodeOf, Lives, Sound}
use Rattle.meaning.proofs.Finding.{is_node_eq}
use Rattle.meaning.proofs.Nodes.{node_top}
use Rattle.histories.proofs.Slots.{Has, find_has, Unique, unique_find, root_has}
use Rattle.histories.proofs.Whole.{Lifetime, retired_later, not_retired, Whole, sound_whole}
use Rattle.rescue_rules.specs.Rescue.{newest_root, unless_retired, source_root, source_tree, is_there, since, in_run, fresh, without, taken, run_store, rescued, Longest}
use Rattle.rescue_laws.proofs.Roots as roots
use Rattle.rescue_laws.proofs.Roots.{no_root_lem, is_newest, newest_root_lem}
use Rattle.rescue_laws.proofs.Taken.{Nodes, Setting, without_other}
use Rattle.rescue_laws.proofs.Nodes.{Newest, nowhere, last, newest_is}
use Rattle.rescue_laws.proofs.Counts.{same_is_same}

-- where each record is taken as it is, the slots stay
taken_all : (nodes : Nodes) (set : Setting) (s : List Slot) → Unique s → ((x : Bytes) → In (spoiled x) s → ⊥) →
    ((r : Record) → Has r s → (nodes r.version r.place ≡ true) × (r.retired ≡ set r.version r.place)) → taken nodes set s ≡ s
taken_all nodes set [] u z h = refl
taken_all nodes set (free ∷ s) u z h = ap (free ∷◌) (taken_all nodes set s u (λ x k. z x (inr k)) (λ r k. h r (inr k)))
taken_all nodes set (used r ∷ s) u z h =
    let k = h r (inl refl) in
    let e : taken (without r.version r.place nodes) set s ≡ s =
    taken_all (without r.version r.place nodes) set s u.1 (λ x j. z x (inr j)) (λ q j.
    let i = h q (inr j) in (
      without_other q.version q.place nodes r (is_false _ (λ m.
          let y = is_node_eq q.version q.place r m in
          some-ne-none q (sym (unique_find s q u.1 j) ∙ sym (ap₂ (λ v p. find v p s) y.0 y.1) ∙ u.0))) ∙ i.0,
      i.1,
    )) in
    rw k.0 (ap₂ ◌∷◌ (ap used (same_is_same r (set r.version r.place) k.1)) e)
taken_all nodes set (spoiled x ∷ s) u z h = absurd (z x (inl refl))

-- every kept version has a root
abbrev pub Rooted : Store → Type 0
Rooted st = (v : ℕ) → Kept st v → (r : Record) × (root_of st v ≡ some r)

module _ (leaf_hash inner_hash : Bytes → Bytes → Bytes) (st : Store) (w : Whole leaf_hash inner_hash st) where
  -- the root of a kept version is the newest root record not above it
  pub own_root : (v : ℕ) → Kept st v → (r : Record) → root_of st v ≡ some r → source_root st.slots v ≡ some r
  unfolding source_root
  own_root v k r e = go (newest_root v st.slots) (newest_root_lem v st.slots)
    where
      has : Has r st.slots × (r.place ≡ []) × Lives v r
      has = root_has st v r e

      at_top : (x : ℕ) → Kept st x → (q : Record) → Has q st.slots → q.place ≡ [] → Lives x q → top_version (tree_at_version st x) ≡ q.version
      at_top x kx q h p l = (node_top q.version (tree_at_version st x) [] (subst (λ y. NodeOf q.version y (tree_at_version st x) []) p ((w.exact x kx q h).1 l))).1

      go : (o : Option Record) → roots.Newest v st.slots o → unless_retired v o ≡ some r
      go none (no_root_lem f) = absurd (f r has.0 has.1 has.2.0)
      go (some q) (is_newest q' d l g f) = rw (ap (retired_by v) same ∙ has.2.1) (ap some same)
        where
          q_has : Has q st.slots
          q_has = (find_has q.version [] st.slots q g).0

          older : r.version ≤ q.version
          older = f r has.0 has.1 has.2.0

          x : ℕ
          x = max st.oldest q.version

          x_kept : Kept st x
          x_kept = (omega arith, omega (arith, k.0, k.1))

          q_lives : Lives x q
          q_lives = (omega arith, not_retired x q (λ j. later (w.lifetimes q q_has) j))
            where
              later : Lifetime st.oldest st.latest q → 1 ≤ q.retired → max st.oldest q.version < q.retired
              later (inl i) j = absurd (omega arith)
              later (inr i) j = omega (arith, i.0, i.1)

          r_lives : Lives x r
          r_lives = (omega (arith, older), not_retired x r (λ j. omega (arith, retired_later v r has.2.1 j, k.0)))

          same : q ≡ r
          same =
              let i : q.version ≡ r.version = sym (at_top x x_kept q q_has d q_lives) ∙ at_top x x_kept r has.0 has.1 r_lives in
              some-injective q r (sym g ∙ ap (λ y. find y [] st.slots) i ∙ ap (λ p. find r.version p st.slots) (sym has.1) ∙ unique_find st.slots r w.unique has.0)

  module _ (rooted : Rooted st) where
    pub source_is : (v : ℕ) → Kept st v → source_tree st.slots v ≡ tree_at_version st v
    unfolding source_tree tree_at_version
    source_is v k = let (r, e) = rooted v k in ap (λ o. tree_found o (λ b x. tree_from 255 st.slots x (b ∷ []))) (own_root v k r e ∙ sym e)

    module _ (n : ℕ) (e : st.latest ≡ st.oldest + n) where
      kept : (v : ℕ) → st.oldest ≤ v → v ≤ st.oldest + n → Kept st v
      kept v a b = (a, omega arith)

      there : (v : ℕ) → st.oldest ≤ v → v ≤ st.oldest + n → (r : Record) → Has r st.slots → Lives v r →
          NodeOf r.version r.place (source_tree st.slots v) []
      there v a b r h l = rw (source_is v (kept v a b)) ((w.exact v (kept v a b) r h).1 l)

      lives : (v : ℕ) → st.oldest ≤ v → v ≤ st.oldest + n → (r : Record) → Has r st.slots →
          NodeOf r.version r.place (source_tree st.slots v) [] → Lives v r
      lives v a b r h m = (w.exact v (kept v a b) r h).0 (rw (source_is v (kept v a b)) at m)

      -- the last version of a record's life
      last_at : (r : Record) → Has r st.slots → Lifetime st.oldest st.latest r →
          (t : ℕ) × (st.oldest ≤ t) × (t ≤ st.oldest + n) × Lives t r × (((t ≡ st.oldest + n) × (r.retired ≡ 0)) ⊎ ((t < st.oldest + n) × (r.retired ≡ suc t)))
      last_at r h (inl k) =
          let o = (w.versions r h).1 in
          (st.oldest + n, omega arith, omega arith, (omega arith, not_retired _ r (λ j. absurd (omega arith))), inl (refl, k))
      last_at r h (inr k) = (
        r.retired - 1,
        omega (arith, k.1),
        omega (arith, k.2),
        (omega (arith, k.0), not_retired _ r (λ j. omega arith)),
        inr (omega (arith, k.2, k.1), omega (arith, k.1)),
      )

      as_it_is : (r : Record) → Has r st.slots →
          (in_run st.slots st.oldest n r.version r.place ≡ true) × (r.retired ≡ fresh st.slots st.oldest n r.version r.place)
      unfolding in_run fresh
      as_it_is r h = go (last_at r h (w.lifetimes r h)) _ (newest_is st.slots st.oldest n r.version r.place)
        where
          go : (t : ℕ) × (st.oldest ≤ t) × (t ≤ st.oldest + n) × Lives t r × (((t ≡ st.oldest + n) × (r.retired ≡ 0)) ⊎ ((t < st.oldest + n) × (r.retired ≡ suc t))) →
              (o : Option ℕ) → Newest st.slots st.oldest n r.version r.place o →
              (is_there o ≡ true) × (r.retired ≡ since (st.oldest + n) o)
          go (t, a, b, l, k) none (nowhere g) = absurd (g t a b (there t a b r h l))
          go (t, a, b, l, k) (some x) (last x' c d m g) = (refl, same k)
            where
              alive : Lives x r
              alive = lives x c d r h m

              at_most : ((t ≡ st.oldest + n) × (r.retired ≡ 0)) ⊎ ((t < st.oldest + n) × (r.retired ≡ suc t)) → x ≤ t
              at_most (inl y) = omega (arith, y.0)
              at_most (inr y) = omega (arith, retired_later x r alive.1 (omega (arith, y.1)), y.1)

              not_less : (z : Bool) → leb t x ≡ z → t ≤ x
              not_less true y = leb-true t x y
              not_less false y = absurd (g t (leb-false t x y) b (there t a b r h l))

              equal : x ≡ t
              equal = let i = at_most k in let j = not_less _ refl in omega arith

              same : ((t ≡ st.oldest + n) × (r.retired ≡ 0)) ⊎ ((t < st.oldest + n) × (r.retired ≡ suc t)) →
                  r.retired ≡ cond (eqb x (st.oldest + n)) 0 (suc x)
              same (inl y) = rw (eq-eqb x (st.oldest + n) (equal ∙ y.0)) y.1
              same (inr y) = rw (ne_eqb x (st.oldest + n) (λ i. omega (arith, equal, y.0))) (y.1 ∙ ap suc (sym equal))

      same_slots : taken (in_run st.slots st.oldest n) (fresh st.slots st.oldest n) st.slots ≡ st.slots
      same_slots = taken_all _ _ st.slots w.unique w.whole as_it_is

module _ (leaf_hash inner_hash : Bytes → Bytes → Bytes) (st : Store) (form : st.form ≡ counted) (ok : Sound leaf_hash inner_hash st)
    (rooted : Rooted st) where
  w : Whole leaf_hash inner_hash st
  w = sound_whole leaf_hash inner_hash st ok

  abbrev more : ℕ
  more = st.latest - st.oldest

  all_kept : st.latest ≡ st.oldest + more
  all_kept = omega (arith, w.header.0)

  -- a sound store stays as it is
  pub sound_stays : rescued st.slots st.oldest more ≡ st
  unfolding rescued run_store
  sound_stays =
      λ j. record { form = sym form j; oldest = st.oldest; latest = sym all_kept j; slots = same_slots leaf_hash inner_hash st w rooted more all_kept j }

  -- and all its versions are the longest run from its oldest on
  pub sound_longest : Longest leaf_hash inner_hash st.slots st.oldest st.latest st.oldest more
  unfolding rescued
  sound_longest = record {
    ends = sym all_kept;
    kept = omega arith;
    run = record {
      roots = λ v a b. let (r, e) = rooted v (a, omega (arith, all_kept)) in (r, own_root leaf_hash inner_hash st w v (a, omega (arith, all_kept)) r e);
      setting = fresh st.slots st.oldest more;
      sound = subst (Sound leaf_hash inner_hash) (sym sound_stays) ok;
    };
    longest = λ f m a b r. b;
  }
