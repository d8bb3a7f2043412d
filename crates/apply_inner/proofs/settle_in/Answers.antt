-- `apply_inner::settle_in` meets its contract: the node in the slot is the inner node that stands there. Assumes nothing.
use Rattle.apply_inner.proofs.At.{its_slot, no_leaf_lem, its_inner, its_version, may_end, may_renew}
use Rattle.apply_inner.proofs.Settling.{ends_new, settled_else, settled_renewed}
use borrow.Enum.Refused.{opened}
use Rattle.apply_inner.proofs.settle_in.Goals as goal

pub node_in-node-requires : goal.node_in-node-requires
node_in-node-requires c = its_slot c.requires

pub returns-in_default : goal.returns-in_default
returns-in_default c = no_leaf_lem c.requires c.node_in-node.result (opened c.in_default.in_default-own.keys2) c.node_in-node.ensures

pub end_or_stay-requires : goal.end_or_stay-requires
end_or_stay-requires c = may_end c.requires c.node_in-node.ensures c.in-Inner.is

pub returns-in_default-change : goal.returns-in_default-change
returns-in_default-change c =
    let v = its_version c.requires c.node_in-node.ensures c.in-Inner.is in
    record {
      left_child = _;
      right_child = _;
      lefts = _;
      rights = _;
      node = its_inner c.requires c.node_in-node.ensures c.in-Inner.is;
      settled = settled_else c.args.l c.args.r c.settled-change.ensures (opened c.in_default-change.in_default-change-own.keys2) (ends_new c.args.writes c.requires.marks (rw (← v) c.end_or_stay.ensures));
    }

pub renew-requires : goal.renew-requires
renew-requires c = may_renew c.requires c.node_in-node.ensures c.in-Inner.is

pub returns : goal.returns
returns c =
    record {
      left_child = _;
      right_child = _;
      lefts = _;
      rights = _;
      node = its_inner c.requires c.node_in-node.ensures c.in-Inner.is;
      settled = settled_renewed c.args.l c.args.r c.settled-change.ensures _ _ _ c.in-Updated.is c.renew.ensures;
    }
