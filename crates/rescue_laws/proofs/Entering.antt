-- A record is entered in the target by writing its lowest slot: then the target holds one node more. What a loop needs that writes each
-- record when it is met; to write it twice is to write it once. Assumes nothing.
use Prim.Native.Nat.{ℕ, zero, suc, ◌<◌}
use native.Mathlib.Omega.{arith}
use mathlib.Core.Path.{◌≡◌, refl, ap, ap₂, sym, ◌∙◌, subst}
use mathlib.Core.Logic.{inl, inr}
use mathlib.Core.Bool.{Bool, true, false, not, ◌&&◌, ◌||◌, or-true, true≢false, false≢true}
use mathlib.Core.List.{List, [], ◌∷◌}
use lib.ListN.{get_or, set}
use Rattle.terms.specs.Bits.{Place}
use Rattle.terms.specs.Records.{Record, Slot, free, used, spoiled}
use Rattle.terms.proofs.Tests.{is_false, and_left}
use Rattle.meaning.specs.Store.{is_node, marked}
use Rattle.meaning.proofs.Finding.{free_used, spoiled_used, used_eq}
use Rattle.histories.proofs.Slots.{Has}
use Rattle.rescue_rules.specs.Rescue.{same_node, without, taken}
use Rattle.rescue_laws.proofs.Nodes.{same_is, is_same_lem}
use Rattle.rescue_laws.proofs.Taken.{Nodes, Setting, after, on_from}

-- what is taken depends on the nodes of the source's records and on their setting alone
pub taken_alike : (nodes more : Nodes) (now then : Setting) (s : List Slot) →
    ((r : Record) → Has r s → nodes r.version r.place ≡ more r.version r.place) →
    ((r : Record) → Has r s → nodes r.version r.place ≡ true → now r.version r.place ≡ then r.version r.place) →
    taken nodes now s ≡ taken more then s
taken_alike nodes more now then [] e f = refl
taken_alike nodes more now then (free ∷ s) e f = ap (free ∷◌) (taken_alike nodes more now then s (λ r h. e r (inr h)) (λ r h. f r (inr h)))
taken_alike nodes more now then (used r ∷ s) e f =
    go (nodes r.version r.place) refl (more r.version r.place) (sym (e r (inl refl)))
    (taken_alike nodes more now then s (λ q h. e q (inr h)) (λ q h. f q (inr h)))
    (taken_alike (without r.version r.place nodes) (without r.version r.place more) now then s less fewer)
  where
    less : (q : Record) → Has q s →
        without r.version r.place nodes q.version q.place ≡ without r.version r.place more q.version q.place
    less q h = unfold without in ap (λ b. b && not (same_node q.version q.place r.version r.place)) (e q (inr h))

    fewer : (q : Record) → Has q s → without r.version r.place nodes q.version q.place ≡ true →
        now q.version q.place ≡ then q.version q.place
    fewer q h k = f q (inr h) (and_left (nodes q.version q.place) (not (same_node q.version q.place r.version r.place)) (unfold without in k))

    go : (a : Bool) → nodes r.version r.place ≡ a → (b : Bool) → b ≡ nodes r.version r.place →
        taken nodes now s ≡ taken more then s → after nodes now r s ≡ after more then r s → on_from a nodes now r s ≡ on_from b more then r s
    go true g true h x y = ap₂ ◌∷◌ (ap (λ n. used (marked n r)) (f r (inl refl) g)) y
    go true g false h x y = absurd (false≢true (h ∙ g))
    go false g true h x y = absurd (true≢false (h ∙ g))
    go false g false h x y = ap (free ∷◌) x
taken_alike nodes more now then (spoiled x ∷ s) e f = ap (free ∷◌) (taken_alike nodes more now then s (λ r h. e r (inr h)) (λ r h. f r (inr h)))

-- the same nodes and the same setting of them take the same
pub taken_ext : (nodes more : Nodes) (now then : Setting) (s : List Slot) → ((w : ℕ) (q : Place) → nodes w q ≡ more w q) →
    ((w : ℕ) (q : Place) → nodes w q ≡ true → now w q ≡ then w q) → taken nodes now s ≡ taken more then s
taken_ext nodes more now then s e f =
    taken_alike nodes more now then s (λ r h. e r.version r.place) (λ r h k. f r.version r.place k)

-- a set of nodes with the node (v, p)
abbrev pub with_node : ℕ → Place → Nodes → Nodes
with_node v p nodes w q = nodes w q || same_node w q v p

-- slot i is the lowest that holds the node of r
pub record Lowest (s : List Slot) (i : ℕ) (r : Record) : Type 0 where
  pub at : get_or s i free ≡ used r
  pub lowest : (j : ℕ) (q : Record) → j < i → get_or s j free ≡ used q → is_node r.version r.place q ≡ false

lower : (x : Slot) (s : List Slot) (i : ℕ) (r : Record) → Lowest (x ∷ s) (suc i) r → Lowest s i r
lower x s i r l = record { at = l.at; lowest = λ j q k e. l.lowest (suc j) q (omega arith) e }

-- tests of nodes
pub or_false : (a : Bool) → a || false ≡ a
or_false true = refl
or_false false = refl

put_out : (a b : Bool) → (a || b) && not b ≡ a && not b
put_out true true = refl
put_out true false = refl
put_out false true = refl
put_out false false = refl

was_out : (a b : Bool) → (b ≡ true → a ≡ false) → a && not b ≡ a
was_out true true f = absurd (true≢false (f refl))
was_out true false f = refl
was_out false b f = refl

exchange : (a b c : Bool) → (b ≡ true → c ≡ true → ⊥) → (a || b) && not c ≡ (a && not c) || b
exchange true true true f = absurd (f refl refl)
exchange true true false f = refl
exchange true false true f = refl
exchange true false false f = refl
exchange false true true f = absurd (f refl refl)
exchange false true false f = refl
exchange false false true f = refl
exchange false false false f = refl

pub record_node : (w : ℕ) (q : Place) (r : Record) → same_node w q r.version r.place ≡ is_node w q r
unfolding same_node is_node
record_node w q r = refl

module _ (set_to : Setting) (r : Record) where
  -- at its own slot, where it was taken already, or was not
  own_again : (nodes : Nodes) (w : ℕ) (q : Place) →
      without r.version r.place (with_node r.version r.place nodes) w q ≡ without r.version r.place nodes w q
  unfolding without
  own_again nodes w q = put_out (nodes w q) (same_node w q r.version r.place)

  own_out : (nodes : Nodes) → nodes r.version r.place ≡ false → (w : ℕ) (q : Place) → without r.version r.place nodes w q ≡ nodes w q
  unfolding without
  own_out nodes f w q = was_out (nodes w q) (same_node w q r.version r.place) (λ h.
      let e = same_is w q r.version r.place h in sym (ap₂ nodes e.0 e.1) ∙ f)

  -- at another record's slot
  other_out : (nodes : Nodes) (x : Record) → is_node r.version r.place x ≡ false → (w : ℕ) (q : Place) →
      without x.version x.place (with_node r.version r.place nodes) w q ≡ with_node r.version r.place (without x.version x.place nodes) w q
  unfolding without
  other_out nodes x f w q = exchange (nodes w q) (same_node w q r.version r.place) (same_node w q x.version x.place) (λ h k.
      let a = same_is w q r.version r.place h in
      let b = same_is w q x.version x.place k in
      true≢false (sym (is_same_lem r.version r.place x.version x.place (b.0 ∙ sym a.0) (b.1 ∙ sym a.1)) ∙ record_node r.version r.place x ∙ f))

  other_in : (nodes : Nodes) (x : Record) → is_node r.version r.place x ≡ false →
      with_node r.version r.place nodes x.version x.place ≡ nodes x.version x.place
  other_in nodes x f =
      let g : same_node x.version x.place r.version r.place ≡ false = is_false _ (λ h.
      let e = same_is x.version x.place r.version r.place h in
      true≢false (sym (is_same_lem r.version r.place x.version x.place (sym e.0) (sym e.1)) ∙ record_node r.version r.place x ∙ f)) in
      rw g (or_false (nodes x.version x.place))

  own_in : (nodes : Nodes) → with_node r.version r.place nodes r.version r.place ≡ true
  own_in nodes = rw (is_same_lem r.version r.place r.version r.place refl refl) (or-true (nodes r.version r.place))

  first_slot : (nodes : Nodes) (s : List Slot) →
      taken (with_node r.version r.place nodes) set_to (used r ∷ s)
      ≡ set (taken nodes set_to (used r ∷ s)) 0 (used (marked (set_to r.version r.place) r))
  first_slot nodes s = go _ (own_in nodes) _ refl
    where
      one : Slot
      one = used (marked (set_to r.version r.place) r)

      again : after (with_node r.version r.place nodes) set_to r s ≡ after nodes set_to r s
      again = taken_ext _ _ set_to set_to s (own_again nodes) (λ w q k. refl)

      go : (a : Bool) → a ≡ true → (b : Bool) → nodes r.version r.place ≡ b →
          on_from a (with_node r.version r.place nodes) set_to r s ≡ set (on_from b nodes set_to r s) 0 one
      go true e true g = ap (one ∷◌) again
      go true e false g = ap (one ∷◌) (again ∙ taken_ext _ nodes set_to set_to s (own_out nodes g) (λ w q k. refl))
      go false e b g = absurd (false≢true e)

  -- to take one node more, its slot is written
  pub enter : (nodes : Nodes) (s : List Slot) (i : ℕ) → Lowest s i r →
      taken (with_node r.version r.place nodes) set_to s ≡ set (taken nodes set_to s) i (used (marked (set_to r.version r.place) r))
  enter nodes [] i l = free_used r l.at
  enter nodes (free ∷ s) zero l = free_used r l.at
  enter nodes (free ∷ s) (suc i) l = ap (free ∷◌) (enter nodes s i (lower free s i r l))
  enter nodes (spoiled x ∷ s) zero l = spoiled_used x r l.at
  enter nodes (spoiled x ∷ s) (suc i) l = ap (free ∷◌) (enter nodes s i (lower (spoiled x) s i r l))
  enter nodes (used x ∷ s) zero l =
      subst (λ y. taken (with_node r.version r.place nodes) set_to (used y ∷ s)
      ≡ set (taken nodes set_to (used y ∷ s)) 0 (used (marked (set_to r.version r.place) r)))
      (sym (used_eq x r l.at)) (first_slot nodes s)
  enter nodes (used x ∷ s) (suc i) l =
      go (nodes x.version x.place) refl _ (other_in nodes x (l.lowest 0 x (omega arith) refl))
      (enter nodes s i (lower (used x) s i r l))
      (enter (without x.version x.place nodes) s i (lower (used x) s i r l))
    where
      one : Slot
      one = used (marked (set_to r.version r.place) r)

      go : (a : Bool) → nodes x.version x.place ≡ a → (b : Bool) → b ≡ nodes x.version x.place →
          taken (with_node r.version r.place nodes) set_to s ≡ set (taken nodes set_to s) i one →
          taken (with_node r.version r.place (without x.version x.place nodes)) set_to s ≡ set (after nodes set_to x s) i one →
          on_from b (with_node r.version r.place nodes) set_to x s ≡ set (on_from a nodes set_to x s) (suc i) one
      go true g true h y z =
          ap (used (marked (set_to x.version x.place) x) ∷◌)
          (taken_ext _ _ set_to set_to s (other_out nodes x (l.lowest 0 x (omega arith) refl)) (λ w q k. refl) ∙ z)
      go true g false h y z = absurd (false≢true (h ∙ g))
      go false g true h y z = absurd (true≢false (h ∙ g))
      go false g false h y z = ap (free ∷◌) y
