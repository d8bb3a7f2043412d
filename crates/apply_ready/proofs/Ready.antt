-- In a sound store the latest tree stands at the empty place, older than a number above latest, and each node is there once: the steps may
-- be taken. Assumes nothing.
use Prim.Native.Nat.{ℕ, ◌-◌, ◌<◌}
use native.Mathlib.Omega.{arith}
use mathlib.Core.Path.{◌≡◌, refl, ap, ap₂, sym, ◌∙◌}
use mathlib.Core.Logic.{inl, inr}
use mathlib.Core.Bool.{Bool, true, false}
use mathlib.Core.List.{List, []}
use mathlib.Core.Option.{Option, none, some}
use Rattle.terms.specs.declared.Form.TheVariants.{Counted as counted}
use Rattle.terms.specs.Bits.{Bytes, Byte, All, Place, longer}
use Rattle.terms.specs.Records.{Body, Record, Slot, Store}
use Rattle.meaning.specs.Tree.{VTree, vnone, vleaf, vinner, unversioned, top_version}
use Rattle.meaning.specs.Store.{root_of, tree_from, tree_at_version}
use Rattle.meaning.specs.Sound.{Kept, Found, Stands}
use Rattle.meaning.proofs.Shaped.{Shaped}
use Rattle.histories.proofs.Slots.{Has}
use Rattle.meaning.proofs.Roots.{root_none, root_some}
use Rattle.histories.proofs.Standing.{found_record, reads}
use Rattle.histories.proofs.Trees.{kept_shaped}
use Rattle.histories.proofs.Whole.{Whole, sound_whole}
use Rattle.nodehash.specs.Node.{leaf_hash, inner_hash}
use Rattle.place.specs.declared.Place as place
use Rattle.place.specs.Place as places
use Rattle.place.specs.Place.{place_of}
use Rattle.layout.specs.Slots.{version_in}
use Rattle.layout.specs.Stores.{slot_in, store_of}
use Rattle.layout.proofs.Stores.{slot_at_lem}
use Rattle.store.proofs.Slots.{slot_long, slot_bytes_lem}
use Rattle.std.specs.Prelude.{Some}
use Rattle.lookup.specs.Lookup.{Located}
use Rattle.lookup.proofs.Matching.{version_is}
use Rattle.steps.specs.Given.{Older}
use Rattle.apply_place.specs.Placing.{Stored}
use Rattle.apply_place.specs.Reach.{Starts}
use Rattle.apply_place.proofs.Changing.{stored_room, slot_within}
use Rattle.apply_place.proofs.Keeping.{unique_single}
use Rattle.apply_read.specs.Standing.{tree_here}
use Rattle.apply_root.specs.Root.{HereRoot}
use Rattle.promises.proofs.Calls.{sound_form, sound_back}
use Rattle.apply_ready.specs.Ready.{Ready, root_version}

-- the version in the slot of a record found is the record's
pub found_version : {s : Bytes} → Stored s → All Byte s → (o : Option Record) (i : ℕ) → Located (store_of s).slots o (Some i) →
    version_in (slot_in counted i s) ≡ root_version o
found_version {s} h bytes o i (l, (r, e, f)) =
    let here = sym (slot_at_lem counted s i (rw (stored_room h) l)) ∙ e in
    version_is counted (slot_in counted i s) (slot_long counted i s (slot_within h i l)) (slot_bytes_lem counted i s bytes) r here ∙ ap root_version (sym f)

-- a tree of records that are older is older
module _ (st : Store) (m : ℕ) (below : (r : Record) → Has r st.slots → r.version < m) where
  found_older : (v : ℕ) (p : Place) (b : Body) → Found st v p b → v < m
  found_older v p b f = let r = found_record st v p b f in omega (arith, below r.0 r.1, r.2)

  stands_older : (p : Place) (t : VTree) → Stands leaf_hash inner_hash st p t → Older m p t
  stands_older p vnone s v q n = absurd n
  stands_older p (vleaf w g) s v q n = omega (arith, found_older w p _ s.0, n.0)
  stands_older p (vinner w l r) s v q (inl n) = omega (arith, found_older w p _ s.0, n.0)
  stands_older p (vinner w l r) s v q (inr (inl n)) = stands_older (longer false p) l s.2 v q n
  stands_older p (vinner w l r) s v q (inr (inr n)) = stands_older (longer true p) r s.3 v q n

-- new records begin at slot 0
from_none : (writes : Bool) (s : List Slot) → Starts writes s 0
from_none true s = record { few = omega arith; clear = λ j l. absurd (omega arith) }
from_none false s = record { few = omega arith; clear = tt }

module _ {s batch : Bytes} (w : Ready s batch) (bytes : All Byte s) where
  abbrev st : Store
  st = store_of s

  abbrev latest_tree : VTree
  latest_tree = tree_at_version st st.latest

  whole : Whole leaf_hash inner_hash st
  whole = sound_whole leaf_hash inner_hash st w.sound.sound

  kept : Kept st st.latest
  kept = (whole.header.0, omega arith)

  pub stored : Stored s
  stored = record { bytes = sym (sound_back w.sound bytes); form = sound_form st refl w.sound.sound }

  pub shaped : Shaped [] (unversioned latest_tree)
  shaped = kept_shaped leaf_hash inner_hash st whole st.latest kept

  pub older : {n : ℕ} → st.latest < n → Older n [] latest_tree
  older {n} above = stands_older st n (λ r h. omega (arith, whole.versions r h)) [] latest_tree (whole.stands st.latest kept)

  -- the version of its root
  top_is : root_version (root_of st st.latest) ≡ top_version latest_tree
  top_is = go (root_of st st.latest) refl
    where
      go : (o : Option Record) → root_of st st.latest ≡ o → root_version o ≡ top_version latest_tree
      go none e = sym (ap top_version (root_none st st.latest e))
      go (some r) e = sym (root_some st st.latest r e).1

  module _ {p : place.Place} (t : places.Stands [] 0 p) {v : ℕ} (e : v ≡ root_version (root_of st st.latest)) where
    root_is : v ≡ top_version latest_tree
    root_is = e ∙ top_is

    pub tree_is : tree_here s p v ≡ latest_tree
    unfolding tree_here
    tree_is =
        ap (λ n. tree_from (256 - n) st.slots v (place_of p)) t.count
        ∙ ap₂ (tree_from 256 st.slots) root_is t.place
        ∙ reads leaf_hash inner_hash st whole.formed 256 [] latest_tree refl (whole.stands st.latest kept)

    pub here_root : (writes : Bool) {n : ℕ} → st.latest < n → HereRoot n writes s p v batch
    here_root writes above = record {
      here = record {
        standing = record {
          stored = stored;
          proper = t.proper;
          stands = rw (tree_is, t.place) (whole.stands st.latest kept);
          top = rw tree_is (sym root_is);
        };
        starts = from_none writes st.slots;
        number = omega arith;
        run = rw t.place w.run;
        older = rw (tree_is, t.place) (older above);
        single = λ u q l. unique_single u q st.slots whole.unique;
      };
      top = t.place;
    }
