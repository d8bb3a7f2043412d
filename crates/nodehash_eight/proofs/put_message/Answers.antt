-- `nodehash_eight::put_message` meets its contract: one block and a word, in a lane of their own. Assumes nothing.
use Rattle.nodehash_eight.proofs.Lanes.{put_lane}
use Rattle.nodehash_eight.proofs.put_message.Goals as goal

pub returns : goal.returns
returns c =
    let a = c.args in
    let w = c.first_words in
    rw c.put_words.ensures (put_lane a.x.now a.l a.m.kind a.m.left a.m.right w.result c.last_word.result c.requires.0 c.requires.1 w.ensures c.last_word.ensures)
