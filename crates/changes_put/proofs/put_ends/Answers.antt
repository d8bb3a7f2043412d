-- `changes_put::put_ends` meets its contract, by which of the two tops are leaves. Assumes nothing.
use mathlib.Core.Path.{subst}
use Rattle.changes_put.specs.Puts.{LeafIn}
use Rattle.changes_put.proofs.Putting.{one_put, none_put, fits_as, no_leaves, only_new, only_old, two_leaves_lem, puts_as}
use borrow.Enum.Refused.{opened}
use Rattle.changes_put.proofs.put_ends.Goals as goal

pub returns-in_default-second : goal.returns-in_default-second
returns-in_default-second c =
    let a = c.args in
    let h = c.requires in
    let s = a.store.now in
    none_put a.writes a.at a.room.now (no_leaves s a.first a.second (opened c.in_default.in_default-own.keys2) (opened c.in_default-second.in_default-second-own.keys2)) h.fits

pub put_record-requires : goal.put_record-requires
put_record-requires c =
    let a = c.args in
    let h = c.requires in
    let s = a.store.now in
    (subst (LeafIn s) c.in-Leaf-second.is h.new, fits_as (only_new s a.first a.second (opened c.in_default.in_default-own.keys2) c.in-Leaf-second.is) h.fits)

pub returns-in_default : goal.returns-in_default
returns-in_default c =
    let a = c.args in
    let h = c.requires in
    let s = a.store.now in
    one_put a.writes a.at a.room.now (only_new s a.first a.second (opened c.in_default.in_default-own.keys2) c.in-Leaf-second.is) c.put_record.ensures

pub put_record-requires-in_default-second-2 : goal.put_record-requires-in_default-second-2
put_record-requires-in_default-second-2 c =
    let a = c.args in
    let h = c.requires in
    let s = a.store.now in
    (subst (LeafIn s) c.in-Leaf.is h.old, fits_as (only_old s a.first a.second c.in-Leaf.is (opened c.in_default-second-2.in_default-second-2-own.keys2)) h.fits)

pub returns-in_default-second-2 : goal.returns-in_default-second-2
returns-in_default-second-2 c =
    let a = c.args in
    let h = c.requires in
    let s = a.store.now in
    one_put a.writes a.at a.room.now (only_old s a.first a.second c.in-Leaf.is (opened c.in_default-second-2.in_default-second-2-own.keys2)) c.put_record-in_default-second-2.ensures

pub put_two-requires : goal.put_two-requires
put_two-requires c =
    let a = c.args in
    let h = c.requires in
    let s = a.store.now in (
      (subst (LeafIn s) c.in-Leaf.is h.old, subst (LeafIn s) c.in-Leaf-second-2.is h.new),
      fits_as (two_leaves_lem s a.first a.second c.in-Leaf.is c.in-Leaf-second-2.is) h.fits,
    )

pub returns : goal.returns
returns c =
    let a = c.args in
    let h = c.requires in
    let s = a.store.now in
    puts_as (two_leaves_lem s a.first a.second c.in-Leaf.is c.in-Leaf-second-2.is) c.put_two.ensures
