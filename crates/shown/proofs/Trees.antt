-- For a seated tree that has a node, and any key, the prover gives a proof, and the checker's answer to it against the tree's hash is what the tree's grants
-- say of the key: a walk that ends at the key has a trail that leads up, and any other has neighbours that hold. Assumes nothing.
use mathlib.Core.Path.{◌≡◌, refl, sym, ◌∙◌, subst}
use mathlib.Core.Bool.{Bool, true, false, cond, true≢false}
use mathlib.Core.List.{List, [], map}
use mathlib.Core.Option.{none, some}
use Rattle.terms.specs.Bits.{Bytes, Whole32, Side, left, right, same_bytes}
use Rattle.terms.specs.Records.{Presence, Proof, presence}
use Rattle.terms.proofs.Tests.{bytes_same}
use Rattle.meaning.specs.Tree.{Tree, grants, hash}
use Rattle.meaning.specs.Calls.{Answer, accepted}
use Rattle.meaning.specs.Reading.{Pass, End, walk_stopped, at_leaf, at_gap, walk, read_end, Verdict, present, absent, answer_of}
use Rattle.meaning.specs.Proving.{presence_of, absence_of, step_up, Sought, neighbour, absence_from, absence_at, prove_end, prove_seen}
use Rattle.meaning.specs.Checking.{leads_to, neighbour_holds, checked}
use Rattle.shown.proofs.Views.{occupied, Seated, viewed}
use Rattle.shown.proofs.Walks.{start, walk_answers, Climbs, walk_climbs}
use Rattle.shown.proofs.Verdicts.{accepted_same}
use Rattle.shown.proofs.Flanks.{Flank, Flanked, neither, only, both, flanked}

module _ (leaf_hash inner_hash : Bytes → Bytes → Bytes) where
  -- What is given is a proof, and the checker's answer to it is the verdict.
  abbrev pub Shows : Bytes → Bytes → Verdict → Answer Proof → Type 0
  Shows root k verdict given = (p : Proof) × (given ≡ accepted p) × (checked leaf_hash inner_hash root k p ≡ accepted verdict)

  flank_holds : (b : Side) (h k : Bytes) (p : Presence) → Flank leaf_hash inner_hash b h k p →
      neighbour_holds leaf_hash inner_hash b h k p ≡ true
  unfolding neighbour_holds leads_to
  flank_holds b h k p w = rw (w.leads, bytes_same h, w.order)

  -- neighbours that flank the key make a proof of absence; where there is a node, there is one
  absence_shown : (h k : Bytes) (there : Bool) (found : Side → Sought) → there ≡ true →
      Flanked leaf_hash inner_hash h k there found →
      Shows h k absent (absence_from k (found left) (found right))
  absence_shown h k there found z (neither e f) = absurd (true≢false (sym z ∙ e))
  absence_shown h k there found z (only false p f g w o) =
      (absence_of k (some p) none, rw (f, g), rw (bytes_same k, flank_holds left h k p w, o))
  absence_shown h k there found z (only true p f g w o) =
      (absence_of k none (some p), rw (f, g), rw (bytes_same k, flank_holds right h k p w, o))
  absence_shown h k there found z (both false p q f g w w' o) =
      (absence_of k (some p) (some q), rw (f, g), rw (bytes_same k, flank_holds left h k p w, flank_holds right h k q w', o))
  absence_shown h k there found z (both true p q f g w w' o) =
      (absence_of k (some q) (some p), rw (f, g), rw (bytes_same k, flank_holds left h k q w', flank_holds right h k p w, o))

  module _ (k : Bytes) (t : Tree) (w : Whole32 k) (s : Seated [] t) (there : occupied t ≡ true) where
    abbrev root : Bytes
    root = hash leaf_hash inner_hash t

    -- the walk for k has come to the end e
    abbrev Came : End → Type 0
    Came e = walk k 0 [] (viewed leaf_hash inner_hash t) ≡ e

    end_answers : (e : End) → Came e → read_end k e ≡ accepted (answer_of k (grants t))
    end_answers e came = rw came at (walk_answers leaf_hash inner_hash k 0 [] t [] (start k w) s)

    end_climbs : (e : End) → Came e → Climbs leaf_hash inner_hash root [] e
    end_climbs e came = rw came at (walk_climbs leaf_hash inner_hash k 0 [] t)

    shown_absent : (e : End) → Came e → answer_of k (grants t) ≡ absent → Shows root k (answer_of k (grants t)) (absence_at k e)
    unfolding absence_at
    shown_absent e came a =
        rw a
        (absence_shown root k (occupied t) (λ b. neighbour b k e) there
        (subst (λ x. Flanked leaf_hash inner_hash root k (occupied t) (λ b. neighbour b k x)) came
        (flanked leaf_hash inner_hash k 0 [] t (start k w) s a)))

    shown_leaf : (l x : Bytes) (trail : List Pass) → Came (at_leaf l x trail) → (same : Bool) → same_bytes k l ≡ same →
        Shows root k (answer_of k (grants t))
        (cond same (accepted (presence (presence_of l x (map step_up trail)))) (absence_at k (at_leaf l x trail)))
    unfolding leads_to
    shown_leaf l x trail came true e =
        let says : accepted (present x) ≡ accepted (answer_of k (grants t)) = rw e at (end_answers (at_leaf l x trail) came) in
        (presence (presence_of l x (map step_up trail)), refl, rw (e, end_climbs (at_leaf l x trail) came, bytes_same root) says)
    shown_leaf l x trail came false e =
        shown_absent (at_leaf l x trail) came (sym (accepted_same _ _ (rw e at (end_answers (at_leaf l x trail) came))))

    shown_end : (e : End) → Came e → Shows root k (answer_of k (grants t)) (prove_end k e)
    shown_end (walk_stopped t) came = absurd (end_climbs (walk_stopped t) came)
    shown_end (at_leaf l x trail) came = shown_leaf l x trail came _ refl
    shown_end (at_gap trail) came = shown_absent (at_gap trail) came (sym (accepted_same _ _ (end_answers (at_gap trail) came)))

    pub tree_shown : Shows root k (answer_of k (grants t)) (prove_seen k (viewed leaf_hash inner_hash t))
    unfolding prove_seen
    tree_shown = shown_end (walk k 0 [] (viewed leaf_hash inner_hash t)) refl
