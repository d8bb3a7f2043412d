-- What `taken` leaves in the slots: a node of the set is found with what it held, its retired-since as set; no other is found. Each goes
-- through the slots one by one. Assumes nothing.
use Prim.Native.Nat.{ℕ, zero, suc, ◌<◌}
use native.Mathlib.Omega.{arith}
use mathlib.Core.Path.{◌≡◌, refl, ap, ap₂, sym, ◌∙◌}
use mathlib.Core.Logic.{inl, inr}
use mathlib.Core.Bool.{Bool, true, false, cond, true≢false, false≢true}
use mathlib.Core.List.{List, [], ◌∷◌}
use mathlib.Core.Option.{Option, none, some}
use lib.ListN.{length, get_or}
use Rattle.terms.specs.Bits.{Bytes, Place}
use Rattle.terms.specs.Records.{Record, Slot, free, used, spoiled}
use Rattle.terms.proofs.Tests.{and_left, and_right, and_true, is_false}
use Rattle.terms.proofs.Members.{In}
use Rattle.meaning.specs.Store.{find, is_node, marked}
use Rattle.meaning.proofs.Finding.{is_node_eq, is_node_refl, free_used, used_eq}
use Rattle.histories.proofs.Slots.{Has, free_spoiled, Unique}
use Rattle.histories.proofs.Writing.{contents}
use Rattle.rescue_rules.specs.Rescue.{same_node, without, taken}

-- sets of nodes, and settings of retired-since
abbrev pub Nodes : Type 0
Nodes = ℕ → Place → Bool

abbrev pub Setting : Type 0
Setting = ℕ → Place → ℕ

-- what is taken of the slots after a record that is taken
abbrev pub after : Nodes → Setting → Record → List Slot → List Slot
after nodes set r s = taken (without r.version r.place nodes) set s

-- what is taken from a record on, by whether it is taken itself
abbrev pub on_from : Bool → Nodes → Setting → Record → List Slot → List Slot
on_from b nodes set r s = cond b (used (marked (set r.version r.place) r) ∷ after nodes set r s) (free ∷ taken nodes set s)

-- what was found, retired-since as set
abbrev pub set_in : Setting → Option Record → Option Record
set_in set none = none
set_in set (some r) = some (marked (set r.version r.place) r)

pub contents_set : (set : Setting) (o : Option Record) → contents (set_in set o) ≡ contents o
unfolding marked
contents_set set none = refl
contents_set set (some r) = refl

pub length_taken : (nodes : Nodes) (set : Setting) (s : List Slot) → length (taken nodes set s) ≡ length s
length_taken nodes set [] = refl
length_taken nodes set (free ∷ s) = ap suc (length_taken nodes set s)
length_taken nodes set (used r ∷ s) = go (nodes r.version r.place) (length_taken nodes set s) (length_taken (without r.version r.place nodes) set s)
  where
    go : (b : Bool) → length (taken nodes set s) ≡ length s → length (after nodes set r s) ≡ length s →
        length (on_from b nodes set r s) ≡ length (used r ∷ s)
    go true e f = ap suc f
    go false e f = ap suc e
length_taken nodes set (spoiled x ∷ s) = ap suc (length_taken nodes set s)

-- a record that is taken is one of the source
pub data Source (nodes : Nodes) (set : Setting) (s : List Slot) (r : Record) : Type 0 where
  from : (q : Record) → Has q s → nodes q.version q.place ≡ true → r ≡ marked (set q.version q.place) q → Source nodes set s r

source_below : (x : Slot) (nodes : Nodes) (set : Setting) (s : List Slot) (r : Record) → Source nodes set s r → Source nodes set (x ∷ s) r
source_below x nodes set s r (from q h n e) = from q (inr h) n e

source_with : (v : ℕ) (p : Place) (nodes : Nodes) (set : Setting) (s : List Slot) (r : Record) → Source (without v p nodes) set s r →
    Source nodes set s r
unfolding without
source_with v p nodes set s r (from q h n e) = from q h (and_left (nodes q.version q.place) _ n) e

pub has_taken : (nodes : Nodes) (set : Setting) (s : List Slot) (r : Record) → Has r (taken nodes set s) → Source nodes set s r
has_taken nodes set [] r h = absurd h
has_taken nodes set (free ∷ s) r (inl e) = free_used r e
has_taken nodes set (free ∷ s) r (inr h) = source_below free nodes set s r (has_taken nodes set s r h)
has_taken nodes set (used q ∷ s) r h =
    go (nodes q.version q.place) refl (has_taken nodes set s r) (has_taken (without q.version q.place nodes) set s r) h
  where
    go : (b : Bool) → nodes q.version q.place ≡ b → (Has r (taken nodes set s) → Source nodes set s r) →
        (Has r (after nodes set q s) → Source (without q.version q.place nodes) set s r) →
        Has r (on_from b nodes set q s) →
        Source nodes set (used q ∷ s) r
    go true e f g (inl k) = from q (inl refl) e (sym (used_eq _ r k))
    go true e f g (inr k) = source_below (used q) nodes set s r (source_with q.version q.place nodes set s r (g k))
    go false e f g (inl k) = free_used r k
    go false e f g (inr k) = source_below (used q) nodes set s r (f k)
has_taken nodes set (spoiled x ∷ s) r (inl e) = free_used r e
has_taken nodes set (spoiled x ∷ s) r (inr h) = source_below (spoiled x) nodes set s r (has_taken nodes set s r h)

-- no slot is spoiled
pub none_spoiled : (nodes : Nodes) (set : Setting) (s : List Slot) (x : Bytes) → In (spoiled x) (taken nodes set s) → ⊥
none_spoiled nodes set [] x h = h
none_spoiled nodes set (free ∷ s) x (inl e) = free_spoiled x e
none_spoiled nodes set (free ∷ s) x (inr h) = none_spoiled nodes set s x h
none_spoiled nodes set (used q ∷ s) x h =
    go (nodes q.version q.place) (none_spoiled nodes set s x) (none_spoiled (without q.version q.place nodes) set s x) h
  where
    go : (b : Bool) → (In (spoiled x) (taken nodes set s) → ⊥) → (In (spoiled x) (after nodes set q s) → ⊥) →
        In (spoiled x) (on_from b nodes set q s) → ⊥
    go true f g (inl k) = let z : ◌≡◌ {A = ℕ} 0 1 = cc in absurd (omega arith)
    go true f g (inr k) = g k
    go false f g (inl k) = free_spoiled x k
    go false f g (inr k) = f k
none_spoiled nodes set (spoiled y ∷ s) x (inl e) = free_spoiled x e
none_spoiled nodes set (spoiled y ∷ s) x (inr h) = none_spoiled nodes set s x h

-- finding what is taken

-- the test of a node is that of a record
same_node_lem : (w : ℕ) (q : Place) (r : Record) → same_node w q r.version r.place ≡ is_node w q r
unfolding same_node is_node
same_node_lem w q r = refl

marked_node : (w : ℕ) (q : Place) (n : ℕ) (r : Record) → is_node w q (marked n r) ≡ is_node w q r
unfolding is_node marked
marked_node w q n r = refl

pub without_other : (w : ℕ) (q : Place) (nodes : Nodes) (r : Record) → is_node w q r ≡ false →
    without r.version r.place nodes w q ≡ nodes w q
unfolding without
without_other w q nodes r e = rw (same_node_lem w q r, e) (and_true (nodes w q))

without_itself : (nodes : Nodes) (r : Record) → without r.version r.place nodes r.version r.place ≡ false
unfolding without
without_itself nodes r = rw (same_node_lem r.version r.place r, is_node_refl r) (is_false _ (λ h. false≢true (and_right (nodes r.version r.place) false h)))

-- the node asked for is this record's
at_node_lem : (nodes : Nodes) (w : ℕ) (q : Place) (r : Record) → is_node w q r ≡ true → nodes r.version r.place ≡ nodes w q
at_node_lem nodes w q r e = let m = is_node_eq w q r e in ap₂ nodes m.0 m.1

pub find_taken : (nodes : Nodes) (set : Setting) (w : ℕ) (q : Place) (s : List Slot) →
    find w q (taken nodes set s) ≡ cond (nodes w q) (set_in set (find w q s)) none
find_taken nodes set w q [] = elim (nodes w q) as (λ b. ◌≡◌ {A = Option Record} none (cond b none none)) [ true ↦ refl | false ↦ refl ]
find_taken nodes set w q (free ∷ s) = find_taken nodes set w q s
find_taken nodes set w q (used r ∷ s) =
    go (nodes r.version r.place) (is_node w q r) refl refl (find_taken nodes set w q s) (find_taken (without r.version r.place nodes) set w q s)
  where
    go : (b k : Bool) → nodes r.version r.place ≡ b → is_node w q r ≡ k →
        find w q (taken nodes set s) ≡ cond (nodes w q) (set_in set (find w q s)) none →
        find w q (after nodes set r s) ≡ cond (without r.version r.place nodes w q) (set_in set (find w q s)) none →
        find w q (on_from b nodes set r s)
        ≡ cond (nodes w q) (set_in set (cond k (some r) (find w q s))) none
    go true true e f g h = rw (marked_node w q (set r.version r.place) r, f, sym (at_node_lem nodes w q r f) ∙ e) refl
    go true false e f g h = rw (marked_node w q (set r.version r.place) r, f, h, without_other w q nodes r f) refl
    go false true e f g h = rw (g, sym (at_node_lem nodes w q r f) ∙ e) refl
    go false false e f g h = g
find_taken nodes set w q (spoiled x ∷ s) = find_taken nodes set w q s

-- a node is taken once
pub unique_taken : (nodes : Nodes) (set : Setting) (s : List Slot) → Unique (taken nodes set s)
unfolding marked
unique_taken nodes set [] = tt
unique_taken nodes set (free ∷ s) = unique_taken nodes set s
unique_taken nodes set (used r ∷ s) =
    go (nodes r.version r.place) (unique_taken nodes set s) (unique_taken (without r.version r.place nodes) set s)
  where
    go : (b : Bool) → Unique (taken nodes set s) → Unique (after nodes set r s) →
        Unique (on_from b nodes set r s)
    go true f g = (find_taken (without r.version r.place nodes) set r.version r.place s ∙ rw (without_itself nodes r) refl, g)
    go false f g = f
unique_taken nodes set (spoiled x ∷ s) = unique_taken nodes set s

-- what is taken from a slot is one of the nodes
taken_node : (nodes : Nodes) (set : Setting) (s : List Slot) (i : ℕ) (r : Record) → get_or (taken nodes set s) i free ≡ used r →
    nodes r.version r.place ≡ true
unfolding marked without
taken_node nodes set [] i r e = free_used r e
taken_node nodes set (free ∷ s) zero r e = free_used r e
taken_node nodes set (free ∷ s) (suc i) r e = taken_node nodes set s i r e
taken_node nodes set (used q ∷ s) i r e =
    go i (nodes q.version q.place) refl (λ j. taken_node nodes set s j r) (λ j. taken_node (without q.version q.place nodes) set s j r) e
  where
    here : marked (set q.version q.place) q ≡ r → nodes q.version q.place ≡ true → nodes r.version r.place ≡ true
    here m f = ap (λ (x : Record). nodes x.version x.place) (sym m) ∙ f

    go : (i : ℕ) (b : Bool) → nodes q.version q.place ≡ b →
        ((j : ℕ) → get_or (taken nodes set s) j free ≡ used r → nodes r.version r.place ≡ true) →
        ((j : ℕ) → get_or (after nodes set q s) j free ≡ used r → without q.version q.place nodes r.version r.place ≡ true) →
        get_or (on_from b nodes set q s) i free ≡ used r → nodes r.version r.place ≡ true
    go zero true f g h k = here (used_eq _ r k) f
    go zero false f g h k = free_used r k
    go (suc j) true f g h k = and_left (nodes r.version r.place) _ (h j k)
    go (suc j) false f g h k = g j k
taken_node nodes set (spoiled x ∷ s) zero r e = free_used r e
taken_node nodes set (spoiled x ∷ s) (suc i) r e = taken_node nodes set s i r e

-- Of records that share their node, the lowest slot is used.
pub taken_lowest : (nodes : Nodes) (set : Setting) (s : List Slot) (i j : ℕ) (r x : Record) → get_or (taken nodes set s) i free ≡ used r → j < i →
    get_or s j free ≡ used x → is_node r.version r.place x ≡ false
taken_lowest nodes set [] i j r x e l f = free_used r e
taken_lowest nodes set (y ∷ s) zero j r x e l f = absurd (omega arith)
taken_lowest nodes set (free ∷ s) (suc i) zero r x e l f = free_used x f
taken_lowest nodes set (free ∷ s) (suc i) (suc j) r x e l f = taken_lowest nodes set s i j r x e (omega arith) f
taken_lowest nodes set (used q ∷ s) (suc i) j r x e l f =
    go (nodes q.version q.place) j refl (λ j. taken_lowest nodes set s i j r x) (λ j. taken_lowest (without q.version q.place nodes) set s i j r x) e l f
  where
    apart : (nodes' : Nodes) → nodes' r.version r.place ≡ true → nodes' q.version q.place ≡ false → q ≡ x → is_node r.version r.place x ≡ false
    apart nodes' h k m = is_false _ (λ n. true≢false (sym h ∙ sym (at_node_lem nodes' r.version r.place q (ap (is_node r.version r.place) m ∙ n)) ∙ k))

    Apart : List Slot → ℕ → Type 0
    Apart t j = get_or t i free ≡ used r → j < i → get_or s j free ≡ used x → is_node r.version r.place x ≡ false

    go : (b : Bool) (j : ℕ) → nodes q.version q.place ≡ b → ((j : ℕ) → Apart (taken nodes set s) j) → ((j : ℕ) → Apart (after nodes set q s) j) →
        get_or (on_from b nodes set q s) (suc i) free ≡ used r → j < suc i → get_or (used q ∷ s) j free ≡ used x → is_node r.version r.place x ≡ false
    go true zero h g m k l f =
        apart (without q.version q.place nodes) (taken_node (without q.version q.place nodes) set s i r k) (without_itself nodes q) (used_eq q x f)
    go true (suc j) h g m k l f = m j k (omega arith) f
    go false zero h g m k l f = apart nodes (taken_node nodes set s i r k) h (used_eq q x f)
    go false (suc j) h g m k l f = g j k (omega arith) f
taken_lowest nodes set (spoiled y ∷ s) (suc i) zero r x e l f = let z : ◌≡◌ {A = ℕ} 0 1 = cc in absurd (omega arith)
taken_lowest nodes set (spoiled y ∷ s) (suc i) (suc j) r x e l f = taken_lowest nodes set s i j r x e (omega arith) f
