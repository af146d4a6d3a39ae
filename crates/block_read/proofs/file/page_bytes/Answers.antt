use Rattle.std.proofs.Common.{refl}
use Rattle.block_read.proofs.PageReads.{one_failed, one_given}
use Rattle.block_read.proofs.file.page_bytes.Goals as goal

pub returns-in-Ok-clause-only : goal.returns-in-Ok-clause-only
returns-in-Ok-clause-only g c =
    let P = g.P.Pages in
    let e = c.in-Ok.ensures in
    one_given P.tells P.held P.faults P.ready P.went P.name c.args.block c.args.page _ c.args.pages.now c.page.new.self e.went e.ready e.named e.telling e.same_files e.cause.later

pub returns-in-Err-clause-only : goal.returns-in-Err-clause-only
returns-in-Err-clause-only g c =
    let P = g.P.Pages in
    let e = c.in-Err.ensures in
    one_failed P.tells P.held P.faults P.ready P.went P.name c.args.block c.args.page c.args.pages.now c.page.new.self e.went e.ready e.named e.telling e.same_files e.cause.later (e.cause.rose refl)
