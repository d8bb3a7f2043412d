-- A run and grants that fit a place: keys of 32 bytes that begin with it, in order. What the run makes of the grants is then in order too,
-- and each side of both fits the child's place. Assumes nothing.
use Prim.Native.Nat.{ℕ, ◌+◌, ◌<◌}
use native.Mathlib.Omega.{arith}
use mathlib.Core.Path.{◌≡◌}
use mathlib.Core.Bool.{Bool, true}
use mathlib.Core.List.{List, [], ◌∷◌}
use lib.ListN.{length}
use Rattle.terms.specs.Bits.{Whole32, Side, Place, longer, All, begins}
use Rattle.terms.specs.Records.{Grant, grant, Ask, insert, delete, ask_key}
use Rattle.terms.specs.Form.{GrantForm, AskForm}
use Rattle.terms.proofs.Lists.{all_filter, all_map₂, all_append, filter_passed}
use Rattle.terms.proofs.Places.{begins_longer}
use Rattle.meaning.specs.Tree.{with_ask, with_batch, smaller, greater, grants}
use Rattle.meaning.specs.Runs.{asks_for, run}
use Rattle.meaning.proofs.Sides.{goes, side, tree_by, Radix, Begun, begun_snoc, sorted_radix, grants_tree_by}
use Rattle.meaning.proofs.Runs.{Ascending, ascending_side, ascending_batch, batch_form_lem}
use Rattle.meaning.proofs.Shaped.{Shaped, long_form, ascending_sorted, ascending_shaped}
use Rattle.steps.proofs.Inserts.{Rising, rising_filter}

abbrev pub AsksAt : Place → Ask → Type 0
AsksAt p a = begins p (ask_key a) ≡ true

pub record Fits (p : Place) (gs : List Grant) (asks : List Ask) : Type 0 where
  pub rising : Rising asks
  pub asks_form : All AskForm asks
  pub asks_at : All (AsksAt p) asks
  pub ascending : Ascending gs
  pub grants_form : All GrantForm gs
  pub begun : All (Begun p) gs

key_form : (a : Ask) → AskForm a → Whole32 (ask_key a)
key_form (insert k x) f = f.0
key_form (delete k) f = f

-- on a side
asks_on : (b : Side) (p : Place) (asks : List Ask) → length p < 256 → All AskForm asks → All (AsksAt p) asks →
    All (AsksAt (longer b p)) (run (length p) b asks)
asks_on b p asks l f h =
    let here : Ask → Type 0 = λ a. AskForm a × AsksAt p a in
    let on : Ask → Bool = asks_for (length p) b in
    all_map₂ here (λ a. on a ≡ true) (AsksAt (longer b p)) (run (length p) b asks)
    (λ a r e. rw (begins_longer b p (ask_key a) (omega (arith, (key_form a r.0).0)), r.1, e))
    (all_filter here on asks (all_map₂ AskForm (AsksAt p) here asks (λ a x y. (x, y)) f h))
    (filter_passed on asks)

side_form : (i : ℕ) (b : Side) (gs : List Grant) → All GrantForm gs → All GrantForm (side i b gs)
unfolding side
side_form i b gs f = all_filter GrantForm (goes i b) gs f

pub fits_side : (b : Side) (p : Place) (gs : List Grant) (asks : List Ask) → length p < 256 → Fits p gs asks →
    Fits (longer b p) (side (length p) b gs) (run (length p) b asks)
fits_side b p gs asks l f = record {
  rising = rising_filter (asks_for (length p) b) asks f.rising;
  asks_form = all_filter AskForm (asks_for (length p) b) asks f.asks_form;
  asks_at = asks_on b p asks l f.asks_form f.asks_at;
  ascending = ascending_side (length p) b gs f.ascending;
  grants_form = side_form (length p) b gs f.grants_form;
  begun = begun_snoc p b gs l (long_form gs f.grants_form) f.begun;
}

-- what the run makes of the grants
ask_begun : (p : Place) (a : Ask) (gs : List Grant) → AsksAt p a → All (Begun p) gs → All (Begun p) (with_ask a gs)
unfolding smaller greater begins
ask_begun p (insert k x) gs h g =
    all_append (Begun p) (smaller k gs) (grant k x ∷ greater k gs) (all_filter (Begun p) _ gs g) (h, all_filter (Begun p) _ gs g)
ask_begun p (delete k) gs h g =
    all_append (Begun p) (smaller k gs) (greater k gs) (all_filter (Begun p) _ gs g) (all_filter (Begun p) _ gs g)

batch_begun : (p : Place) (asks : List Ask) (gs : List Grant) → All (AsksAt p) asks → All (Begun p) gs → All (Begun p) (with_batch asks gs)
batch_begun p [] gs h g = g
batch_begun p (a ∷ asks) gs h g = batch_begun p asks (with_ask a gs) h.1 (ask_begun p a gs h.0 g)

module _ (n : ℕ) (p : Place) (gs : List Grant) (asks : List Ask) (e : length p + n ≡ 256) (f : Fits p gs asks) where
  abbrev after : List Grant
  after = with_batch asks gs

  pub fits_form : All GrantForm after
  fits_form = batch_form_lem asks gs f.asks_form f.grants_form

  fits_ascending : Ascending after
  fits_ascending = ascending_batch asks gs f.ascending

  pub fits_begun : All (Begun p) after
  fits_begun = batch_begun p asks gs f.asks_at f.begun

  pub fits_radix : Radix n (length p) after
  fits_radix = sorted_radix n p after e (ascending_sorted after fits_form fits_ascending) (long_form after fits_form) fits_begun

  pub fits_shaped : Shaped p (tree_by n (length p) after)
  fits_shaped = ascending_shaped n p after e fits_ascending fits_form fits_begun

  pub fits_grants : grants (tree_by n (length p) after) ≡ after
  fits_grants = grants_tree_by n (length p) after fits_radix
