use Rattle.std.proofs.Common.{◌≡◌, ◌≤◌, arith}
use Rattle.block_info.specs.InfoParts.{InfoParts}
use Rattle.compactor.specs.Rounds.{pages_of}
use Rattle.compactor.specs.Phases.Turned.{MorePages}
use Rattle.compactor.specs.Tasks.{blocks_left}
use Rattle.compactor.proofs.ReadLaws.{first_of, of_first}
use Rattle.compactor.proofs.reading.settle.Goals as goal

pub returns-then-reading-wanted : goal.returns-then-reading-wanted
returns-then-reading-wanted c =
    let first = first_of (blocks_left c.args.reading.job c.args.reading.parts.items) (λ (i : InfoParts). pages_of i ≡ c.args.wanted) c.requires.wanted in
    let holds = first.holds in
    MorePages first.info first.rest first.is (omega (arith, holds, c.if-reading-wanted.true))

pub close-requires-clause-whole : goal.close-requires-clause-whole
close-requires-clause-whole c =
    let first = first_of (blocks_left c.args.reading.job c.args.reading.parts.items) (λ (i : InfoParts). pages_of i ≡ c.args.wanted) c.requires.wanted in
    let holds = first.holds in
    of_first (blocks_left c.args.reading.job c.args.reading.parts.items) first.info first.rest (λ (i : InfoParts). pages_of i ≤ c.args.reading.pages) first.is (omega (arith, holds, c.if-reading-wanted.false))
