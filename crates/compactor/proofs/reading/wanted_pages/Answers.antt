use Rattle.std.proofs.Common.{◌≡◌, ◌+◌, length, drop, sym, arith}
use Rattle.block_info.specs.InfoParts.{InfoParts}
use Rattle.compactor.specs.Rounds.{pages_of}
use Rattle.compactor.specs.Tasks.{blocks_left}
use Rattle.compactor.proofs.ReadLaws.{of_first, page_low}
use Rattle.compactor.proofs.reading.wanted_pages.Goals as goal

pub returns-clause-wanted : goal.returns-clause-wanted
returns-clause-wanted c =
    let job = c.args.reading.now.job in
    let parts = c.args.reading.now.parts.items in
    of_first (blocks_left job parts) c.current-block.result.now (drop (length parts + 1) job.pin.blocks) (λ (i : InfoParts). pages_of i ≡ c.pages_of.result) c.current-block.ensures (sym c.pages_of.ensures)

pub returns-clause-more : goal.returns-clause-more
returns-clause-more c =
    let job = c.args.reading.now.job in
    let parts = c.args.reading.now.parts.items in
    let low = page_low (blocks_left job parts) c.current-block.result.now (drop (length parts + 1) job.pin.blocks) c.args.reading.now.pages c.current-block.ensures c.requires.page in
    omega (arith, low, c.pages_of.ensures)
