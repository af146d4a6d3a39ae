use Rattle.std.proofs.Common.{arith}
use Rattle.std.proofs.lemmas.Grind.{common_steps}
use Rattle.search_text.proofs.Pairs.{zip_more, zip_whole}
use Rattle.search_text.proofs.values.fields.Goals as goal

pub loop-i-preserved : goal.loop-i-preserved
loop-i-preserved c =
    let more = zip_more c.args.names.now c.args.found.now c.loop-i.i c.index-names-i.result c.index-found-i.result (omega arith) (omega arith) c.index-names-i.is c.index-found-i.is in
    grind (arith, common_steps)

pub returns : goal.returns
returns c =
    let whole = zip_whole c.args.names.now c.args.found.now c.loop-i.i (omega arith) in
    grind (arith, common_steps)
