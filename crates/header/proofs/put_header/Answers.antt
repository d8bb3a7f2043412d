-- `header::put_header` meets its contract: its fields, written one after the other, are the header's bytes. Assumes nothing.
use Rattle.layout.proofs.Headers.{header_put}
use Rattle.header.proofs.put_header.Goals as goal

pub returns : goal.returns
returns c =
    let a = c.args in
    header_put a.form a.capacity a.oldest a.latest a.store.now c.requires c.header_kind-kind.ensures c.put_u32.ensures c.put_u16.ensures c.put_u16-2.ensures
    c.put_u32-2.ensures c.put_u32-3.ensures c.put_u32-4.ensures c.put_u32-5.ensures
