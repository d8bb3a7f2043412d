-- How far a rescue has come: the run that it has found up to now, its first version's root, its floor, and the target's slots. What each step
-- of a loop makes of it, and where the loop may end. Assumes nothing.
use Prim.Native.Nat.{ℕ, zero, suc, ◌+◌, ◌-◌, ◌≤◌, ◌<◌, max}
use native.Mathlib.Omega.{arith}
use mathlib.Core.Path.{◌≡◌, refl, ap, ap₂, sym, ◌∙◌, subst, subst₂}
use mathlib.Core.Bool.{Bool, true, false, cond, not, ◌&&◌, ◌||◌}
use mathlib.Core.List.{List, []}
use mathlib.Core.Option.{Option, none, some}
use lib.ListN.{length, replicate}
use lib.Dec.{eqb, leb}
use borrow.Author.Tests.{ne_eqb, eq-eqb, le-leb, lt-leb}
use Rattle.terms.specs.Bits.{Bytes, Side, left, right, Place, longer}
use Rattle.terms.specs.Records.{Record, Slot, free}
use Rattle.terms.proofs.Tests.{is_false, and_left, and_right}
use Rattle.meaning.specs.Store.{find}
use Rattle.meaning.specs.Sound.{NodeOf}
use Rattle.histories.proofs.Standing.{Formed}
use Rattle.rescue_rules.specs.Rescue.{source_root, source_tree, stands_in, if_in, is_there, in_run, since, fresh, taken, run_store, rescued, Run, Longest}
use Rattle.rescue_rules.specs.Joining.{Good, Chain, kid_of, parted, root_version, floor, newest_child, met_at, record_right, join_at, joins_next, run_test}
use Rattle.rescue_rules.specs.Entering.{Entered}
use Rattle.rescue_laws.proofs.Right.{no_zero}
use Rattle.rescue_laws.proofs.Runs.{Readable}
use Rattle.rescue_laws.proofs.Decides.{both, some_root, test_chain, ends_here, ends_oldest, no_run}
use Rattle.rescue_laws.proofs.Steps.{taken_before, taken_now, no_second_life}
use Rattle.rescue_laws.proofs.Meeting.{step_new, first_new, first_adds, step_adds}
use Rattle.rescue_laws.proofs.Entering.{taken_ext}
use Rattle.rescue_laws.proofs.Entered.{taken_none, entered_same}
use Rattle.rescue_laws.proofs.Blocks.{same_joins, same_floor, same_version}

first_fails : (x y : Bool) → x ≡ false → x && y ≡ false
first_fails x y e = rw e refl

second_fails : (x y : Bool) → y ≡ false → x && y ≡ false
second_fails x y e = rw e (and_false x)
  where
    and_false : (x : Bool) → x && false ≡ false
    and_false true = refl
    and_false false = refl

same_not_above : {a b x : ℕ} → a ≡ b → b ≤ x → a ≤ x
same_not_above e l = omega arith

-- numbers, apart from the trees
no_higher : (x : ℕ) → x ≤ x
no_higher x = omega arith

at_end : (x : ℕ) → x ≤ x + 0
at_end x = omega arith

none_left : (x : ℕ) → 0 ≡ x - x
none_left x = omega arith

rest_of : (u x : ℕ) → suc u ≤ x → suc u + (x - suc u) ≡ x
rest_of u x h = omega arith

one_back : (u x : ℕ) → suc u ≤ x → suc (x - suc u) ≡ x - u
one_back u x h = omega arith

before : (u x : ℕ) → suc u ≤ x → u ≤ x
before u x h = omega arith

not_past : (x m : ℕ) → x ≤ x + m
not_past x m = omega arith

not_both : {x : ℕ} → 1 ≤ x → x ≡ 0 → ⊥
not_both h e = absurd (omega arith)

plus_none : (g : ℕ) → g + 0 ≡ g
plus_none g = omega arith

plus_one : (g k : ℕ) → g + suc k ≡ suc (g + k)
plus_one g k = omega arith

so_far : {x g : ℕ} → x ≤ g → (k : ℕ) → x ≤ g + k
so_far h k = omega arith

up_to : (g x : ℕ) → g ≤ x → x ≡ g + (x - g)
up_to g x h = omega arith

more_than : {a b u : ℕ} (x : ℕ) → a ≡ b → u < b → u < max a x
more_than x e l = omega arith

same_above : {a b u : ℕ} → a ≡ b → u < b → u < a
same_above e l = omega arith

-- the slots of a rescued store
pub slots_of_lem : (s : List Slot) (f n : ℕ) → (rescued s f n).slots ≡ taken (in_run s f n) (fresh s f n) s
unfolding rescued run_store
slots_of_lem s f n = refl

-- what stands in the last tree isn't retired
first_fresh : (s : List Slot) (v w : ℕ) (q : Place) → in_run s v 0 w q ≡ true → fresh s v 0 w q ≡ 0
unfolding in_run fresh if_in
first_fresh s v w q h = go (stands_in w q (source_tree s v) []) h
  where
    go : (b : Bool) → is_there (cond b (some v) none) ≡ true → since (v + 0) (cond b (some v) none) ≡ 0
    go true k = rw (eq-eqb v (v + 0) (omega arith)) refl
    go false k = refl

module _ (leaf_hash inner_hash : Bytes → Bytes → Bytes) (s : List Slot) where
  -- where no tree comes after, the version asked for says nothing
  parted_ext : (k x : Bool) (f g : Side → Bool) → f left ≡ g left → f right ≡ g right → parted k x f ≡ parted k x g
  parted_ext true x f g a b = refl
  parted_ext false x f g a b = rw (a, b) refl

  join_alone : (z : Formed s) (n x y a : ℕ) (p : Place) → join_at leaf_hash inner_hash n s x a 0 p ≡ join_at leaf_hash inner_hash n s y a 0 p
  join_alone z zero x y a p = refl
  join_alone z (suc n) x y a p = parted_ext (eqb a 0) (record_right leaf_hash inner_hash s a p (find a p s)) (below x) (below y) (side left (λ w q. join_alone z n x y w q)) (side right (λ w q. join_alone z n x y w q))
    where
      below : ℕ → Side → Bool
      below x c = join_at leaf_hash inner_hash n s x (kid_of c (find a p s)) (kid_of c (find 0 p s)) (longer c p)

      side : (c : Side) → ((w : ℕ) (q : Place) → join_at leaf_hash inner_hash n s x w 0 q ≡ join_at leaf_hash inner_hash n s y w 0 q) →
          below x c ≡ below y c
      side c ih = subst (λ o. join_at leaf_hash inner_hash n s x (kid_of c (find a p s)) (kid_of c o) (longer c p) ≡ join_at leaf_hash inner_hash n s y (kid_of c (find a p s)) (kid_of c o) (longer c p))
          (sym (no_zero s z p)) (ih (kid_of c (find a p s)) (longer c p))

  module _ (v b lowest : ℕ) where
    -- the three tests of a version before the next
    joins : (root_version s v ≡ 0 → ⊥) → join_at leaf_hash inner_hash 256 s (suc v) (root_version s v) b [] ≡ true → lowest ≤ v →
        joins_next leaf_hash inner_hash s v b lowest ≡ true
    unfolding joins_next
    joins r j l = both _ _ (ap not (ne_eqb (root_version s v) 0 r)) (both _ _ j (le-leb lowest v l))

    abbrev there : Bool
    there = not (eqb (root_version s v) 0)

    no_root_joins : root_version s v ≡ 0 → joins_next leaf_hash inner_hash s v b lowest ≡ false
    unfolding joins_next
    no_root_joins r = first_fails _ _ (ap not (eq-eqb (root_version s v) 0 r))

    apart : join_at leaf_hash inner_hash 256 s (suc v) (root_version s v) b [] ≡ false → joins_next leaf_hash inner_hash s v b lowest ≡ false
    unfolding joins_next
    apart j = second_fails there _ (first_fails (join_at leaf_hash inner_hash 256 s (suc v) (root_version s v) b []) (leb lowest v) j)

    too_low : v < lowest → joins_next leaf_hash inner_hash s v b lowest ≡ false
    unfolding joins_next
    too_low l = second_fails there _ (second_fails (join_at leaf_hash inner_hash 256 s (suc v) (root_version s v) b []) (leb lowest v) (lt-leb lowest v l))

  -- how far a rescue has come
  pub record Come (oldest latest first b lowest : ℕ) (t : List Slot) : Type 0 where
    pub low : oldest ≤ first
    pub high : first ≤ latest
    pub run : run_test leaf_hash inner_hash s first (latest - first) ≡ true
    pub root : root_version s first ≡ b
    pub floor : floor s first (latest - first) ≡ lowest
    pub slots : t ≡ (rescued s first (latest - first)).slots

  module _ (oldest latest : ℕ) (z : Readable s latest) where
    -- latest alone is no run
    pub no_root_no_run : root_version s latest ≡ 0 → (f m : ℕ) → f + m ≡ latest → Run leaf_hash inner_hash s f m → ⊥
    no_root_no_run r = no_run leaf_hash inner_hash s oldest latest z (no_root_joins latest 0 (floor s latest 0) r)

    pub broken_no_run : (next b : ℕ) → root_version s latest ≡ b → join_at leaf_hash inner_hash 256 s next b 0 [] ≡ false →
        (f m : ℕ) → f + m ≡ latest → Run leaf_hash inner_hash s f m → ⊥
    broken_no_run next b r j =
        no_run leaf_hash inner_hash s oldest latest z (apart latest 0 (floor s latest 0)
        (subst (λ x. join_at leaf_hash inner_hash 256 s (suc latest) x 0 [] ≡ false) (sym r) (join_alone z.formed 256 (suc latest) next b [] ∙ j)))

    pub low_no_run : (b : ℕ) → root_version s latest ≡ b → latest < newest_child 256 s b 0 [] → (f m : ℕ) → f + m ≡ latest → Run leaf_hash inner_hash s f m → ⊥
    low_no_run b r l =
        no_run leaf_hash inner_hash s oldest latest z (too_low latest 0 (floor s latest 0) (subst (λ x. latest < newest_child 256 s x 0 []) (sym r) l))

    -- latest alone is a run
    pub come_first : (next b lowest : ℕ) (t u : List Slot) → oldest ≤ latest → root_version s latest ≡ b → (b ≡ 0 → ⊥) →
        join_at leaf_hash inner_hash 256 s next b 0 [] ≡ true → newest_child 256 s b 0 [] ≡ lowest → lowest ≤ latest → t ≡ replicate (length s) free →
        Entered 256 s 0 b 0 [] t u → Come oldest latest latest b lowest u
    come_first next b lowest t u o r f j c l e entered = record {
      low = o;
      high = no_higher latest;
      run = subst (λ m. run_test leaf_hash inner_hash s latest m ≡ true) none_more run;
      root = r;
      floor = subst (λ m. floor s latest m ≡ lowest) none_more (ap (λ x. newest_child 256 s x 0 []) r ∙ c);
      slots = subst (λ m. u ≡ (rescued s latest m).slots) none_more slots;
    }
      where
        none_more : 0 ≡ latest - latest
        none_more = none_left latest

        run : run_test leaf_hash inner_hash s latest 0 ≡ true
        run = joins latest 0 (floor s latest 0) (λ k. f (sym r ∙ k))
            (subst (λ x. join_at leaf_hash inner_hash 256 s (suc latest) x 0 [] ≡ true) (sym r) (join_alone z.formed 256 (suc latest) next b [] ∙ j))
            (same_not_above (ap (λ x. newest_child 256 s x 0 []) r ∙ c) l)

        good : Good leaf_hash inner_hash s latest
        good = (test_chain leaf_hash inner_hash s z.formed latest 0 run).good latest (no_higher latest) (at_end latest)

        slots : u ≡ (rescued s latest 0).slots
        slots =
            subst (λ x. Entered 256 s 0 x 0 [] t u) (sym r) entered (λ w q. false) (fresh s latest 0)
            (e ∙ sym (taken_none (λ w q. false) (fresh s latest 0) s (λ w q. refl)))
            (λ w q h. first_fresh s latest w q (first_adds leaf_hash inner_hash s z.formed w q latest good ∙ h))
            ∙ taken_ext _ _ (fresh s latest 0) (fresh s latest 0) s (λ w q. sym (first_adds leaf_hash inner_hash s z.formed w q latest good)) (λ w q h. refl)
            ∙ sym (slots_of_lem s latest 0)

    -- one version back
    step_back : (u n b lowest a x : ℕ) (t t₁ : List Slot) → suc u + n ≡ latest → run_test leaf_hash inner_hash s (suc u) n ≡ true → root_version s (suc u) ≡ b →
        floor s (suc u) n ≡ lowest → t ≡ (rescued s (suc u) n).slots → root_version s u ≡ a → (a ≡ 0 → ⊥) →
        join_at leaf_hash inner_hash 256 s (suc u) a b [] ≡ true → newest_child 256 s a b [] ≡ x → max lowest x ≤ u → Entered 256 s (suc u) a b [] t t₁ →
        (run_test leaf_hash inner_hash s u (suc n) ≡ true) × (floor s u (suc n) ≡ max lowest x) × (t₁ ≡ (rescued s u (suc n)).slots)
    step_back u n b lowest a x t t₁ e h rb fl ts ra a0 j c l entered = (run, flo, slots)
      where
        flo : floor s u (suc n) ≡ max lowest x
        flo = ap₂ max fl (ap₂ (λ i k. newest_child 256 s i k []) ra rb ∙ c)

        run : run_test leaf_hash inner_hash s u (suc n) ≡ true
        run = both _ _ h (joins u (root_version s (suc u)) (floor s u (suc n)) (λ k. a0 (sym ra ∙ k))
            (subst₂ (λ i k. join_at leaf_hash inner_hash 256 s (suc u) i k [] ≡ true) (sym ra) (sym rb) j) (same_not_above flo l))

        chain : Chain leaf_hash inner_hash s u (suc n)
        chain = test_chain leaf_hash inner_hash s z.formed u (suc n) run

        slots : t₁ ≡ (rescued s u (suc n)).slots
        slots =
            subst₂ (λ i k. Entered 256 s (suc u) i k [] t t₁) (sym ra) (sym rb) entered (in_run s (suc u) n) (fresh s u (suc n))
            (ts ∙ slots_of_lem s (suc u) n ∙ taken_ext _ _ (fresh s (suc u) n) (fresh s u (suc n)) s (λ w q. refl) (λ w q k. sym (taken_before s u n w q k).1))
            (λ w q k. let (m, g) = (step_new leaf_hash inner_hash s z.formed w q u n chain).0 k in
            (taken_now s u n w q (no_second_life leaf_hash inner_hash s u n w q chain m g) m).1)
            ∙ taken_ext _ _ (fresh s u (suc n)) (fresh s u (suc n)) s (λ w q. sym (step_adds leaf_hash inner_hash s z.formed w q u n chain)) (λ w q k. refl)
            ∙ sym (slots_of_lem s u (suc n))

    pub come_step : (u b lowest a x : ℕ) (t t₁ : List Slot) → Come oldest latest (suc u) b lowest t → oldest ≤ u → root_version s u ≡ a → (a ≡ 0 → ⊥) →
        join_at leaf_hash inner_hash 256 s (suc u) a b [] ≡ true → newest_child 256 s a b [] ≡ x → max lowest x ≤ u → Entered 256 s (suc u) a b [] t t₁ →
        Come oldest latest u a (max lowest x) t₁
    come_step u b lowest a x t t₁ come o ra a0 j c l entered =
        let (run, flo, slots) = step_back u (latest - suc u) b lowest a x t t₁ (rest_of u latest come.high) come.run come.root come.floor come.slots ra a0 j c l entered in
        let more = one_back u latest come.high in
        record {
          low = o;
          high = before u latest come.high;
          run = subst (λ m. run_test leaf_hash inner_hash s u m ≡ true) more run;
          root = ra;
          floor = subst (λ m. floor s u m ≡ max lowest x) more flo;
          slots = subst (λ m. t₁ ≡ (rescued s u m).slots) more slots;
        }

    -- one version back within a root's time: nothing is met
    within : (u b lowest : ℕ) (t : List Slot) → Come oldest latest (suc u) b lowest t → oldest ≤ u → lowest ≤ u → b ≤ u → Come oldest latest u b lowest t
    within u b lowest t come o l k =
        subst (λ x. Come oldest latest u b x t) (no_more lowest)
        (come_step u b lowest b 0 t t come o same there (same_joins leaf_hash inner_hash 256 s (suc u) b b [] refl) (same_floor 256 s b b [] refl)
        (same_not_above (no_more lowest) l) (entered_same s z.formed (suc u) 256 b b [] t refl))
      where
        no_more : (x : ℕ) → max x 0 ≡ x
        no_more x = omega arith

        found : (r : Record) × (source_root s (suc u) ≡ some r)
        found = ((test_chain leaf_hash inner_hash s z.formed (suc u) (latest - suc u) come.run).good (suc u) (no_higher (suc u)) (not_past (suc u) (latest - suc u))).root

        version : (1 ≤ found.0.version) × (root_version s (suc u) ≡ found.0.version)
        version = some_root s z.formed (suc u) found.0 found.1

        own : found.0.version ≡ b
        own = sym version.1 ∙ come.root

        same : root_version s u ≡ b
        same = (same_version leaf_hash inner_hash s z.formed u found.0 found.1 (same_not_above own k)).0 ∙ own

        there : b ≡ 0 → ⊥
        there e = not_both version.0 (own ∙ e)

    back_by : (k g b lowest : ℕ) (t : List Slot) → Come oldest latest (g + k) b lowest t → oldest ≤ g → lowest ≤ g → b ≤ g → Come oldest latest g b lowest t
    back_by zero g b lowest t come o l h = subst (λ x. Come oldest latest x b lowest t) (plus_none g) come
    back_by (suc k) g b lowest t come o l h =
        back_by k g b lowest t (within (g + k) b lowest t (subst (λ x. Come oldest latest x b lowest t) (plus_one g k) come)
        (so_far o k) (so_far l k) (so_far h k)) o l h

    -- back within a root's time, as far as the floor
    pub come_back : (first g b lowest : ℕ) (t : List Slot) → Come oldest latest first b lowest t → oldest ≤ g → lowest ≤ g → b ≤ g → g ≤ first →
        Come oldest latest g b lowest t
    come_back first g b lowest t come o l h k =
        back_by (first - g) g b lowest t (subst (λ x. Come oldest latest x b lowest t) (up_to g first k) come) o l h

    -- where it ends, the run is the longest
    pub come_oldest : (b lowest : ℕ) (t : List Slot) → Come oldest latest oldest b lowest t →
        Longest leaf_hash inner_hash s oldest latest oldest (latest - oldest)
    come_oldest b lowest t come = ends_oldest leaf_hash inner_hash s oldest latest z (latest - oldest) (sym (up_to oldest latest come.high)) come.run

    module _ (u b lowest : ℕ) (t : List Slot) (come : Come oldest latest (suc u) b lowest t) where
      ends : joins_next leaf_hash inner_hash s u (root_version s (suc u)) (floor s u (suc (latest - suc u))) ≡ false →
          Longest leaf_hash inner_hash s oldest latest (suc u) (latest - suc u)
      ends g = ends_here leaf_hash inner_hash s oldest latest z u (latest - suc u) (rest_of u latest come.high) come.low come.run g

      pub come_low : u < lowest → Longest leaf_hash inner_hash s oldest latest (suc u) (latest - suc u)
      come_low l = ends (too_low u (root_version s (suc u)) (floor s u (suc (latest - suc u))) (more_than (newest_child 256 s (root_version s u) (root_version s (suc u)) []) come.floor l))

      pub come_no_root : root_version s u ≡ 0 → Longest leaf_hash inner_hash s oldest latest (suc u) (latest - suc u)
      come_no_root r = ends (no_root_joins u (root_version s (suc u)) (floor s u (suc (latest - suc u))) r)

      pub come_apart : (a : ℕ) → root_version s u ≡ a → join_at leaf_hash inner_hash 256 s (suc u) a b [] ≡ false →
          Longest leaf_hash inner_hash s oldest latest (suc u) (latest - suc u)
      come_apart a r j = ends (apart u (root_version s (suc u)) (floor s u (suc (latest - suc u)))
          (subst₂ (λ i k. join_at leaf_hash inner_hash 256 s (suc u) i k [] ≡ false) (sym r) (sym come.root) j))

      pub come_above : (a x : ℕ) → root_version s u ≡ a → newest_child 256 s a b [] ≡ x → u < max lowest x →
          Longest leaf_hash inner_hash s oldest latest (suc u) (latest - suc u)
      come_above a x r c l = ends (too_low u (root_version s (suc u)) (floor s u (suc (latest - suc u)))
          (same_above (ap₂ max come.floor (ap₂ (λ i k. newest_child 256 s i k []) r come.root ∙ c)) l))
