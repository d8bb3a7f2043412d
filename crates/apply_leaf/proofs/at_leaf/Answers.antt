-- `apply_leaf::at_leaf` meets its contract, by what the run asks for the key and inserts beside it. Assumes nothing.
use Rattle.apply_leaf.proofs.Leaf.{may_grow, grown_did, alone_did}
use Rattle.apply_leaf.proofs.at_leaf.Goals as goal

pub grow-requires : goal.grow-requires
grow-requires c = may_grow c.requires c.args.value c.own_ask-own.result c.staying-stays.ensures c.own_ask-own.ensures

pub returns-then-inserts_more : goal.returns-then-inserts_more
returns-then-inserts_more c = grown_did c.requires c.args.value c.args.version c.own_ask-own.result c.staying-stays.ensures c.own_ask-own.ensures c.inserts_more.ensures c.if-inserts_more.true c.grow.ensures

pub returns : goal.returns
returns c = alone_did c.requires c.args.value c.args.version c.inserts_more.ensures c.if-inserts_more.false (c.alone.ensures _ c.own_ask-own.ensures)
