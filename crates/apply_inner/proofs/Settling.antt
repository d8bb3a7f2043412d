-- What becomes of an inner node, case by case. The marks leave what is to be placed as it was. Assumes nothing.
use Prim.Native.Nat.{ℕ}
use native.Mathlib.Omega.{arith}
use mathlib.Core.Path.{◌≡◌, refl, ap, sym, ◌∙◌, subst}
use mathlib.Core.Logic.{⊎_elim}
use mathlib.Core.Bool.{Bool, true, false}
use mathlib.Core.List.{List, [], ◌∷◌}
use types.Run.{OneOf}
use denote.Enum.Declared.{tag_of}
use Rattle.terms.specs.Bits.{Bytes}
use Rattle.hash.specs.declared.Hash.{Hash}
use Rattle.place.specs.declared.Place as place
use Rattle.place.specs.Place.{place_of}
use Rattle.slots.specs.declared.Child as child
use Rattle.apply_place.specs.declared.Node.TheVariants as N
use Rattle.steps.specs.Step as step
use Rattle.steps.specs.Writing.{mark}
use Rattle.apply_place.specs.Placing.{Changed, when_writes}
use Rattle.apply_place.proofs.Changing.{changed_stored}
use Rattle.apply_place.proofs.Reaching.{starts_marked}
use Rattle.apply_outcome.specs.declared.Change as change
use Rattle.apply_outcome.specs.declared.Change.TheVariants.{Updated, Deleted, Unchanged}
use Rattle.apply_outcome.specs.contracts.Change as change-type
use Rattle.apply_outcome.specs.declared.Outcome as declared
use Rattle.apply_fork.specs.Fork.{Forks, Forked}
use Rattle.apply_end.specs.declared.Remains as remains
use Rattle.apply_end.specs.declared.Remains.TheVariants as R
use Rattle.apply_end.specs.contracts.Remains as remains-type
use Rattle.apply_end.specs.Ending.{remains_of}
use Rattle.apply_inner.specs.Settling.{both_stayed, remains_change, settled_says, Marked, EndsBy, EndsOrStays, Renewed, lone, more, SettledTo}

-- what it is settled to be
module _ (l r : declared.Outcome) {b : Bool} (e : b ≡ both_stayed l.change r.change) where
  pub says_stayed : b ≡ true → Unchanged ≡ settled_says l r
  unfolding settled_says
  says_stayed t = rw (sym e ∙ t) refl

  module _ (t : b ≡ false) {f : remains.Remains} (i : f ≡ remains_of l.node r.node) where
    by_remains_lem : {c : change.Change} → c ≡ remains_change f → c ≡ settled_says l r
    unfolding settled_says
    by_remains_lem k = rw (sym e ∙ t) (k ∙ ap remains_change i)

    pub says_gone : f ≡ R.Nothing → Deleted ≡ settled_says l r
    says_gone k = by_remains_lem (sym (ap remains_change k))

    pub says_renewed : OneOf (1 ∷ 2 ∷ []) (tag_of remains-type.the_type f) → Updated ≡ settled_says l r
    says_renewed k = by_remains_lem (go f k)
      where
        go : (g : remains.Remains) → OneOf (1 ∷ 2 ∷ []) (tag_of remains-type.the_type g) → Updated ≡ remains_change g
        go R.Nothing k = absurd (⊎_elim (λ e. omega arith) (λ e. omega arith) k)
        go (R.Leaf k x) z = refl
        go R.More k = refl

-- it stays, or it ends
module _ (new : ℕ) (w : Bool) (s : Bytes) (p : place.Place) (lchild rchild : child.Child) (n v i j : ℕ) (c : change.Change) where
  pub stays : OneOf (0 ∷ 2 ∷ []) (tag_of change-type.the_type c) → EndsOrStays new w s s p lchild rchild n v i j c (record { change = Unchanged; node = N.Inner v lchild rchild i j; reach = n })
  stays k = record { by = go c k }
    where
      go : (d : change.Change) → OneOf (0 ∷ 2 ∷ []) (tag_of change-type.the_type d) → EndsBy new w s s p lchild rchild n v i j d (record { change = Unchanged; node = N.Inner v lchild rchild i j; reach = n })
      go Updated k = tt
      go Deleted k = absurd (⊎_elim (λ e. omega arith) (λ e. omega arith) k)
      go Unchanged k = (refl, refl)

  pub ends : {s' : Bytes} → c ≡ Deleted → Marked new w s s' p lchild rchild Deleted Deleted →
      EndsOrStays new w s s' p lchild rchild n v i j c (record { change = Deleted; node = N.Nothing; reach = n })
  ends {s'} e m = record {
    by = subst (λ d. EndsBy new w s s' p lchild rchild n v i j d (record { change = Deleted; node = N.Nothing; reach = n })) (sym e) (refl, m);
  }

-- a lone leaf, or a new inner node
module _ (new : ℕ) (w : Bool) (s : Bytes) (p : place.Place) (lchild rchild : child.Child) (l r : declared.Outcome) {f : remains.Remains}
    (i : f ≡ remains_of l.node r.node) where
  pub is_lone : {s' : Bytes} {k x : Hash} → f ≡ R.Leaf k x → Marked new w s s' p lchild rchild Deleted Deleted →
      Renewed new w s s' p lchild rchild l r (record { change = Updated; node = N.Leaf new k x; reach = r.reach })
  is_lone {k = k} {x = x} e m = lone k x (sym i ∙ e) refl m

  pub is_more_lem : {s' s₂ : Bytes} {o : declared.Outcome} → OneOf (0 ∷ 2 ∷ []) (tag_of remains-type.the_type f) → Marked new w s s₂ p lchild rchild l.change r.change →
      Forked new w s₂ s' (place_of p) l r o → Renewed new w s s' p lchild rchild l r o
  is_more_lem {s₂ = s₂} k m d = more (λ a b e. no_leaf_lem f k a b (i ∙ e)) s₂ m d
    where
      no_leaf_lem : (g : remains.Remains) → OneOf (0 ∷ 2 ∷ []) (tag_of remains-type.the_type g) → (a b : Hash) → g ≡ R.Leaf a b → ⊥
      no_leaf_lem R.Nothing k a b e = let z : ◌≡◌ {A = ℕ} 0 1 = cc in absurd (omega arith)
      no_leaf_lem (R.Leaf c d) k a b e = absurd (⊎_elim (λ e. omega arith) (λ e. omega arith) k)
      no_leaf_lem R.More k a b e = let z : ◌≡◌ {A = ℕ} 0 1 = cc in absurd (omega arith)

-- marks since the new version
pub marked_new : (w : Bool) {new since : ℕ} (ns : List step.Node) {s s' : Bytes} → (w ≡ true → since ≡ new) → Changed (when_writes w (mark since ns)) s s' →
    Changed (when_writes w (mark new ns)) s s'
marked_new true ns {s} {s'} e m = subst (λ n. Changed (mark n ns) s s') (e refl) m
marked_new false ns e m = m

pub ends_new : (w : Bool) {new since : ℕ} {s s' : Bytes} {p : place.Place} {lchild rchild : child.Child} {n v i j : ℕ} {c : change.Change} {o : declared.Outcome} →
    (w ≡ true → since ≡ new) → EndsOrStays since w s s' p lchild rchild n v i j c o → EndsOrStays new w s s' p lchild rchild n v i j c o
ends_new w {new} {since} {s} {s'} {p} {lchild} {rchild} {n} {v} {i} {j} {c} {o} e h = record { by = go c h.by }
  where
    go : (d : change.Change) → EndsBy since w s s' p lchild rchild n v i j d o → EndsBy new w s s' p lchild rchild n v i j d o
    go Updated h = tt
    go Deleted (q, m) = (q, marked_new w _ e m)
    go Unchanged h = h

-- the marks come before the placing
pub forks_after : (w : Bool) (new : ℕ) {s s' : Bytes} {p : place.Place} {lchild rchild : child.Child} {l r : declared.Outcome} → Forks w s p lchild rchild l r →
    Marked new w s s' p lchild rchild l.change r.change → Forks w s' p lchild rchild l r
forks_after w new f m = record {
  stored = changed_stored m;
  starts = starts_marked w new _ m f.starts;
  proper = f.proper;
  short = f.short;
  left_form = f.left_form;
  right_form = f.right_form;
  left_kept = f.left_kept;
  right_kept = f.right_kept;
  left_few = f.left_few;
  right_few = f.right_few;
}

-- by the change
module _ (l r : declared.Outcome) {c : change.Change} (e : c ≡ settled_says l r) where
  pub settled_else : {new : ℕ} {w : Bool} {s s' : Bytes} {p : place.Place} {v : ℕ} {lchild rchild : child.Child} {i j : ℕ} {o : declared.Outcome} →
      OneOf (1 ∷ 2 ∷ []) (tag_of change-type.the_type c) → EndsOrStays new w s s' p lchild rchild r.reach v i j c o →
      SettledTo (settled_says l r) new w s s' p v lchild rchild i j l r o
  settled_else {new} {w} {s} {s'} {p} {v} {lchild} {rchild} {i} {j} {o} k h = subst (λ d. SettledTo d new w s s' p v lchild rchild i j l r o) e (go c k h.by)
    where
      go : (d : change.Change) → OneOf (1 ∷ 2 ∷ []) (tag_of change-type.the_type d) → EndsBy new w s s' p lchild rchild r.reach v i j d o →
          SettledTo d new w s s' p v lchild rchild i j l r o
      go Updated k h = absurd (⊎_elim (λ e. omega arith) (λ e. omega arith) k)
      go Deleted k h = h
      go Unchanged k h = h

  pub settled_renewed : {new : ℕ} {w : Bool} {s s' : Bytes} {p : place.Place} (v i j : ℕ) {lchild rchild : child.Child} {o : declared.Outcome} → c ≡ Updated →
      Renewed new w s s' p lchild rchild l r o → SettledTo (settled_says l r) new w s s' p v lchild rchild i j l r o
  settled_renewed {new} {w} {s} {s'} {p} v i j {lchild} {rchild} {o} k h = subst (λ d. SettledTo d new w s s' p v lchild rchild i j l r o) (sym k ∙ e) h
