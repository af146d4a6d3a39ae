use Rattle.block_list.proofs.BodyLemmas.{head_fields}
use Rattle.block_list.proofs.prepared.fill_head.Goals as goal

pub returns-clause-text : goal.returns-clause-text
returns-clause-text c =
    let b = c.args.body.now in
    let t = c.args.text.now.items in
    rw (c.put32-4.ensures.text, c.put32-3.ensures.text, c.put32-2.ensures.text, c.put64.ensures.text, c.put32.ensures.text, c.put-2.ensures.text, c.put.ensures.text, c.len.ensures, c.len-2.ensures, c.len-3.ensures) (head_fields t b)
