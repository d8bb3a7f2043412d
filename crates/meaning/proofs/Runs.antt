-- A batch, side by side: the grants on a side after a batch are those before with the run of the batch for that side, and the grants stay in
-- order. Assumes nothing.
use Prim.Native.Nat.{ℕ}
use mathlib.Core.Path.{◌≡◌, refl, ap, sym, ◌∙◌}
use mathlib.Core.Bool.{Bool, true, false, cond, beq, true≢false}
use mathlib.Core.List.{List, [], ◌∷◌, ◌++◌}
use Rattle.terms.specs.Bits.{Bytes, All, filter, bit, before}
use Rattle.terms.specs.Records.{Grant, grant, Ask, insert, delete}
use Rattle.terms.specs.Form.{GrantForm, AskForm}
use Rattle.terms.proofs.Tests.{is_true}
use Rattle.terms.proofs.Lists.{filter_append, filter_comm, filter_all, filter_none, all_filter, all_map, all_append, filter_passed}
use Rattle.terms.proofs.Order.{before_trans, before_asym, before_total}
use Rattle.meaning.specs.Runs.{asks_for, run}
use Rattle.meaning.specs.Tree.{with_ask, with_batch, smaller, greater}
use Rattle.meaning.proofs.Sides.{goes, side}

abbrev pub Ahead : Grant → Grant → Type 0
Ahead g h = before g.key h.key ≡ true

abbrev pub Ascending : List Grant → Type 0
Ascending [] = Unit {0}
Ascending (g ∷ gs) = All (Ahead g) gs × Ascending gs

pub ascending_filter : (f : Grant → Bool) (gs : List Grant) → Ascending gs → Ascending (filter f gs)
ascending_filter f [] s = tt
ascending_filter f (g ∷ gs) s =
    elim (f g) as (λ b. Ascending (cond b (g ∷ filter f gs) (filter f gs)))
    [ true ↦ (all_filter (Ahead g) f gs s.0, ascending_filter f gs s.1) | false ↦ ascending_filter f gs s.1 ]

-- a key that no grant has splits the grants
abbrev Other : Bytes → Grant → Type 0
Other k g = g.key ≡ k → ⊥

split_head : (k : Bytes) (g : Grant) (gs : List Grant) → Ascending (g ∷ gs) → Other k g → smaller k gs ++ greater k gs ≡ gs →
    (b : Bool) → before g.key k ≡ b → smaller k (g ∷ gs) ++ greater k (g ∷ gs) ≡ g ∷ gs
unfolding smaller greater
split_head k g gs s o ih true e = rw (e, before_asym g.key k e) (ap (g ∷◌) ih)
split_head k g gs s o ih false e =
    let f : before k g.key ≡ true = is_true _ (λ w. o (before_total g.key k e w)) in
    let up : All (λ h. before k h.key ≡ true) gs = all_map (Ahead g) _ gs (λ h l. before_trans k g.key h.key f l) s.0 in
    rw (e, f, filter_all (λ h. before k h.key) gs up, filter_none (λ h. before h.key k) gs (all_map _ _ gs (λ h l. before_asym k h.key l) up))

pub split_key : (k : Bytes) (gs : List Grant) → Ascending gs → All (Other k) gs → smaller k gs ++ greater k gs ≡ gs
unfolding smaller greater
split_key k [] s o = refl
split_key k (g ∷ gs) s o = split_head k g gs s o.0 (split_key k gs s.1 o.1) _ refl

side_smaller : (i : ℕ) (b : Bool) (k : Bytes) (gs : List Grant) → side i b (smaller k gs) ≡ smaller k (side i b gs)
unfolding side smaller
side_smaller i b k gs = filter_comm (goes i b) (λ g. before g.key k) gs

side_greater : (i : ℕ) (b : Bool) (k : Bytes) (gs : List Grant) → side i b (greater k gs) ≡ greater k (side i b gs)
unfolding side greater
side_greater i b k gs = filter_comm (goes i b) (λ g. before k g.key) gs

pub side_append : (i : ℕ) (b : Bool) (xs ys : List Grant) → side i b (xs ++ ys) ≡ side i b xs ++ side i b ys
unfolding side
side_append i b xs ys = filter_append (goes i b) xs ys

side_yes : (i : ℕ) (b : Bool) (g : Grant) (gs : List Grant) → goes i b g ≡ true → side i b (g ∷ gs) ≡ g ∷ side i b gs
unfolding side
side_yes i b g gs e = rw e

side_not : (i : ℕ) (b : Bool) (g : Grant) (gs : List Grant) → goes i b g ≡ false → side i b (g ∷ gs) ≡ side i b gs
unfolding side
side_not i b g gs e = rw e

-- on the side of its key, an ask does there what it does to all
pub ask_here : (i : ℕ) (b : Bool) (a : Ask) (gs : List Grant) → asks_for i b a ≡ true → side i b (with_ask a gs) ≡ with_ask a (side i b gs)
ask_here i b (insert k x) gs e = simp (side_append, side_yes i b (grant k x) (greater k gs) e, side_smaller, side_greater)
ask_here i b (delete k) gs e = simp (side_append, side_smaller, side_greater)

-- no key of the other side is the ask's
others : (i : ℕ) (b : Bool) (k : Bytes) (gs : List Grant) → beq b (bit i k) ≡ false → All (Other k) (side i b gs)
unfolding side
others i b k gs e = all_map (λ g. goes i b g ≡ true) (Other k) (filter (goes i b) gs) (λ g h q. true≢false (sym h ∙ ap (λ j. beq b (bit i j)) q ∙ e)) (filter_passed (goes i b) gs)

pub ascending_side : (i : ℕ) (b : Bool) (gs : List Grant) → Ascending gs → Ascending (side i b gs)
unfolding side
ascending_side i b gs s = ascending_filter (goes i b) gs s

-- on the other side it does nothing
pub ask_there : (i : ℕ) (b : Bool) (a : Ask) (gs : List Grant) → Ascending gs → asks_for i b a ≡ false → side i b (with_ask a gs) ≡ side i b gs
ask_there i b (insert k x) gs s e =
    simp (side_append, side_not i b (grant k x) (greater k gs) e, side_smaller, side_greater) (split_key k (side i b gs) (ascending_side i b gs s) (others i b k gs e))
ask_there i b (delete k) gs s e =
    simp (side_append, side_smaller, side_greater) (split_key k (side i b gs) (ascending_side i b gs s) (others i b k gs e))

-- an ask keeps the order
pub ascending_append : (xs ys : List Grant) → Ascending xs → Ascending ys → All (λ g. All (Ahead g) ys) xs → Ascending (xs ++ ys)
ascending_append [] ys s u a = u
ascending_append (x ∷ xs) ys s u a = (all_append (Ahead x) xs ys s.0 a.0, ascending_append xs ys s.1 u a.1)

under_key : (k : Bytes) (gs : List Grant) → All (λ g. before g.key k ≡ true) (smaller k gs)
unfolding smaller
under_key k gs = filter_passed (λ g. before g.key k) gs

over_key : (k : Bytes) (gs : List Grant) → All (λ g. before k g.key ≡ true) (greater k gs)
unfolding greater
over_key k gs = filter_passed (λ g. before k g.key) gs

apart : (k : Bytes) (g : Grant) (hs : List Grant) → before g.key k ≡ true → All (λ h. before k h.key ≡ true) hs → All (Ahead g) hs
apart k g hs l o = all_map (λ h. before k h.key ≡ true) (Ahead g) hs (λ h m. before_trans g.key k h.key l m) o

pub ascending_ask : (a : Ask) (gs : List Grant) → Ascending gs → Ascending (with_ask a gs)
unfolding smaller greater
ascending_ask (insert k x) gs s =
    ascending_append (smaller k gs) (grant k x ∷ greater k gs) (ascending_filter _ gs s) (over_key k gs, ascending_filter _ gs s)
    (all_map (λ g. before g.key k ≡ true) _ (smaller k gs) (λ g l. (l, apart k g (greater k gs) l (over_key k gs))) (under_key k gs))
ascending_ask (delete k) gs s =
    ascending_append (smaller k gs) (greater k gs) (ascending_filter _ gs s) (ascending_filter _ gs s)
    (all_map (λ g. before g.key k ≡ true) _ (smaller k gs) (λ g l. apart k g (greater k gs) l (over_key k gs)) (under_key k gs))

pub ascending_batch : (batch : List Ask) (gs : List Grant) → Ascending gs → Ascending (with_batch batch gs)
ascending_batch [] gs s = s
ascending_batch (a ∷ batch) gs s = ascending_batch batch (with_ask a gs) (ascending_ask a gs s)

-- asks in form keep the grants in form
ask_form_lem : (a : Ask) (gs : List Grant) → AskForm a → All GrantForm gs → All GrantForm (with_ask a gs)
unfolding smaller greater
ask_form_lem (insert k x) gs h g =
    all_append GrantForm (smaller k gs) (grant k x ∷ greater k gs) (all_filter GrantForm _ gs g) (h, all_filter GrantForm _ gs g)
ask_form_lem (delete k) gs h g = all_append GrantForm (smaller k gs) (greater k gs) (all_filter GrantForm _ gs g) (all_filter GrantForm _ gs g)

pub batch_form_lem : (batch : List Ask) (gs : List Grant) → All AskForm batch → All GrantForm gs → All GrantForm (with_batch batch gs)
batch_form_lem [] gs h g = g
batch_form_lem (a ∷ batch) gs h g = batch_form_lem batch (with_ask a gs) h.1 (ask_form_lem a gs h.0 g)

-- a batch, on one side, is the run of the batch for that side
run_head : (i : ℕ) (b : Bool) (a : Ask) (batch : List Ask) (gs : List Grant) → Ascending gs →
    (c : Bool) → asks_for i b a ≡ c → with_batch (run i b batch) (side i b (with_ask a gs)) ≡ with_batch (cond c (a ∷ run i b batch) (run i b batch)) (side i b gs)
run_head i b a batch gs s true e = ap (with_batch (run i b batch)) (ask_here i b a gs e)
run_head i b a batch gs s false e = ap (with_batch (run i b batch)) (ask_there i b a gs s e)

pub side_batch : (i : ℕ) (b : Bool) (batch : List Ask) (gs : List Grant) → Ascending gs → side i b (with_batch batch gs) ≡ with_batch (run i b batch) (side i b gs)
side_batch i b [] gs s = refl
side_batch i b (a ∷ batch) gs s = side_batch i b batch (with_ask a gs) (ascending_ask a gs s) ∙ run_head i b a batch gs s _ refl
