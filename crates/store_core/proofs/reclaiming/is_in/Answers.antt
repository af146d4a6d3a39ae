use Rattle.std.proofs.Common.{◌∙◌}
use Rattle.store_core.proofs.Rising.{found_among}
use Rattle.store_core.proofs.reclaiming.is_in.Goals as goal

pub returns : goal.returns
returns c = λ rising. c.is_ok.ensures.value ∙ found_among c.args.file c.args.rising.now c.binary_search.result c.binary_search.ensures.position rising
