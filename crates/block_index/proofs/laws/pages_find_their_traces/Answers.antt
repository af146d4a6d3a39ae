use Rattle.std.proofs.Common.{◌≡◌, ◌*◌, ◌/◌, ◌<◌, length, ap, ◌∙◌, arith}
use Rattle.block_index.specs.Index.{entries}
use Rattle.block_index.specs.Found.{found}
use Rattle.block_index.proofs.FoundLaws.{entries_ascend, page_says}
use Rattle.block_index.proofs.PageLaws.{page_read}
use Rattle.block_index.proofs.laws.pages_find_their_traces.Goals as goal

pub returns : goal.returns
returns c = λ ids are up page i e low is.
    let start : page * 170 < length (entries ids) = omega arith in
    ap (found e.id) (page_read ids page are low) ∙ page_says (entries ids) i page e (entries_ascend 0 ids up) is start
