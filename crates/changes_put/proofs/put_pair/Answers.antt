-- `changes_put::put_pair` meets its contract: two records put one after the other. Assumes nothing.
use Prim.Native.Nat.{◌+◌}
use native.Mathlib.Omega.{arith}
use mathlib.Core.Path.{refl, ap, sym, ◌∙◌, subst}
use Rattle.changed.specs.Changes.{item_as}
use Rattle.changes_top.specs.Tops.{grant_at}
use Rattle.changes_put.specs.Puts.{put_into, Fits}
use Rattle.changes_put.proofs.Putting.{fits_less, fits_next, put_on, item_sized}
use Rattle.changes_put.proofs.put_pair.Goals as goal

pub put_record-requires : goal.put_record-requires
put_record-requires c = let h = c.requires in (h.0.0, fits_less 1 (omega arith) h.1)

pub put_record-requires-2 : goal.put_record-requires-2
put_record-requires-2 c =
    let a = c.args in
    let h = c.requires in
    let f = item_as a.kind (grant_at a.i a.store.now) in (
      h.0.1,
      subst (Fits a.writes 1 (a.at + 1)) (sym c.put_record.ensures)
          (fits_next a.writes a.at 1 1 f a.room.now (item_sized a.store.now a.i h.0.0 a.kind) h.1),
    )

pub returns : goal.returns
returns c =
    let a = c.args in
    let h = c.requires in
    let s = a.store.now in
    let f = item_as a.kind (grant_at a.i s) in
    let g = item_as a.other (grant_at a.j s) in record {
      next = refl;
      bytes = c.put_record-2.ensures
          ∙ ap (put_into a.writes (a.at + 1) g) c.put_record.ensures
          ∙ put_on a.writes a.at 1 1 f g a.room.now (item_sized s a.i h.0.0 a.kind) (item_sized s a.j h.0.1 a.other) h.1;
    }
