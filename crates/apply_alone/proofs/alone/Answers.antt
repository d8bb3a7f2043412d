-- `apply_alone::alone` meets its contract, by what is asked. Assumes nothing.
use Rattle.apply_alone.proofs.Asking.{alone_none, alone_same, alone_other, alone_gone}
use Rattle.apply_alone.proofs.alone.Goals as goal

pub returns-then-same_hash : goal.returns-then-same_hash
returns-then-same_hash c = alone_same c.args.new c.args.from c.args.version c.args.key c.args.value c.args.own c.in-Insert.is c.same_hash.ensures c.if-same_hash.true

pub returns-in-Nothing : goal.returns-in-Nothing
returns-in-Nothing c = alone_none c.args.new c.args.from c.args.version c.args.key c.args.value c.args.own c.in-Nothing.is

pub returns-else-same_hash : goal.returns-else-same_hash
returns-else-same_hash c = alone_other c.args.new c.args.from c.args.version c.args.key c.args.value c.args.own c.in-Insert.is c.same_hash.ensures c.if-same_hash.false

pub returns-in-Delete : goal.returns-in-Delete
returns-in-Delete c = alone_gone c.args.new c.args.from c.args.version c.args.key c.args.value c.args.own c.in-Delete.is
