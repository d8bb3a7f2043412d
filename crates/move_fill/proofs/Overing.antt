-- Written with the counts of every inner record, a store is the store moved over. Assumes nothing.
use Prim.Native.Nat.{ℕ, ◌+◌, ◌<◌, ◌≤◌}
use native.Mathlib.Omega.{arith}
use mathlib.Core.Path.{◌≡◌, refl, ap, sym, ◌∙◌, subst}
use mathlib.Core.List.{List}
use lib.ListN.{length, get_or}
use Rattle.terms.specs.declared.Form.{Form}
use Rattle.terms.specs.declared.Form.TheVariants.{Plain as plain, Counted as counted}
use Rattle.terms.specs.Bits.{Bytes, All}
use Rattle.terms.specs.Records.{Body, leaf_body, inner_body, Record, free, used, Store}
use Rattle.meaning.specs.Sound.{At, Sound}
use Rattle.nodehash.specs.Node.{leaf_hash, inner_hash}
use Rattle.moved.specs.Moving.{recounted, counts_in, over}
use Rattle.layout.specs.Slots.{SlotForm}
use Rattle.layout.specs.Stores.{store_in, store_bytes}
use Rattle.move_rules.specs.Moves.{other, moved_from, SameRoom}
use Rattle.move_rules.proofs.Forms.{over_form}
use Rattle.move_put.specs.Put.{tally_at, tally_of, tallied_from, tallied_as, Movable}
use Rattle.move_put.proofs.Tallied.{tallied_anew}
use Rattle.move_count.specs.Count.{Countable, CountedFrom}
use Rattle.move_count.proofs.Leaves.{counts_found, counts_found_lem}

module _ {f : Form} {s old : Bytes} (is : f ≡ plain) (its-room : SameRoom f (other f) s old) (its-sound : Sound leaf_hash inner_hash (store_in f s)) where
  room : SameRoom plain counted s old
  room = subst (λ g. SameRoom g (other g) s old) is its-room

  sound : Sound leaf_hash inner_hash (store_in plain s)
  sound = subst (λ g. Sound leaf_hash inner_hash (store_in g s)) is its-sound

  pub countable : Countable s
  countable = record { size = room.source; sound = sound }

  module _ {t : List ℕ} (done : CountedFrom s t 0) where
    its_counts : (i : ℕ) (r : Record) → At (store_in plain s) i r → tally_of (tally_at t i) r.body ≡ counts_in (store_in plain s).slots r
    its_counts i r a = go r.body refl
      where
        go : (b : Body) → r.body ≡ b → tally_of (tally_at t i) b ≡ counts_in (store_in plain s).slots r
        go (leaf_body k x) e =
            sym (counts_found_lem leaf_hash inner_hash (store_in plain s) sound i r a ∙ ap (counts_found (store_in plain s).slots r.place) e)
        go (inner_body l m) e = done.right i r l m a e (omega arith)

    over_slots_lem : tallied_from t 0 (store_in plain s).slots ≡ recounted (counts_in (store_in plain s).slots) (store_in plain s).slots
    unfolding At
    over_slots_lem =
        tallied_anew (counts_in (store_in plain s).slots) t 0 (store_in plain s).slots
        (λ i r l e. let z : 0 + i ≡ i = omega arith in ap (λ m. tally_of (tally_at t m) r.body) z ∙ its_counts i r (l, e))

    pub over_able : Movable plain counted s t old
    unfolding over
    over_able = record {
      room = room;
      whole = sound.whole;
      each = subst (All (SlotForm counted)) (sym over_slots_lem) (over_form (store_in plain s) sound).each;
    }

    over_is : tallied_as counted t (store_in plain s) ≡ over (store_in plain s)
    unfolding over
    over_is = ap (λ xs. record { form = counted; oldest = (store_in plain s).oldest; latest = (store_in plain s).latest; slots = xs }) over_slots_lem

    pub over_done : {u : Bytes} → u ≡ store_bytes (tallied_as counted t (store_in plain s)) → u ≡ store_bytes (moved_from f (store_in f s))
    over_done {u} e = subst (λ g. u ≡ store_bytes (moved_from g (store_in g s))) (sym is) (e ∙ ap store_bytes over_is)
