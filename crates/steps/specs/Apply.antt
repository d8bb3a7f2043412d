-- Apply by steps: what the outcome of the step at the root writes and answers. Assumes nothing.
use Rattle.std.specs.Prelude.{ℕ, cond, List, length, ltb}
use Rattle.terms.specs.Bits.{Bytes}
use Rattle.terms.specs.Records.{Ask, Store}
use Rattle.meaning.specs.Tree.{unversioned, hash}
use Rattle.meaning.specs.Store.{free_slots, tree_at_version}
use Rattle.meaning.specs.Calls.{accepted, Result, refuse, Applied}
use Rattle.steps.specs.Step.{step_root}
use Rattle.steps.specs.Writing.{written}

module _ (leaf_hash inner_hash : Bytes → Bytes → Bytes) where
  -- The store with version `new`.
  unfoldable pub stepped : ℕ → List Ask → Store → Store
  stepped new batch st = record {
    form = st.form;
    oldest = st.oldest;
    latest = new;
    slots = written new (step_root leaf_hash inner_hash new (tree_at_version st st.latest) batch) st.slots;
  }

  -- A batch makes version `new` of the latest tree, by steps: 7 if there are fewer free slots than new records.
  unfoldable pub apply_steps : ℕ → List Ask → Store → Result Applied
  apply_steps new batch st =
      let o = step_root leaf_hash inner_hash new (tree_at_version st st.latest) batch in
      cond (ltb (free_slots st.slots) (length o.fresh))
      (refuse 7 st)
      (record {
        answer = accepted (record {
          version = new;
          root = hash leaf_hash inner_hash (unversioned o.node);
          count =
              length o.fresh;
        });
        store = stepped new batch st;
      })
