-- `message_varint::read` meets its contract: fewer bytes may follow each time. Assumes nothing.
use Rattle.message_varint.proofs.+read.Given as goal

abbrev pub decreases-read : goal.decreases-read
decreases-read l = l.more
