use Rattle.std.proofs.Common.{◌≡◌, ◌+◌, ℕ, length, drop, refl, sym, subst}
use Rattle.store_model.specs.Event.Event.{ReadPage}
use Rattle.store_model.specs.Event.{Reply as reply, Refusal as refusal}
use Rattle.store_model.specs.Event.Reply.{Page}
use Rattle.store_state.specs.Given.{IsPinOf, compact_parts}
use Rattle.store_state.specs.Given.IsPinOf.{OfJob}
use Rattle.store_state.specs.Meaning.{IsOpen, Called}
use Rattle.store_state.specs.Written.{page_of}
use Rattle.compactor.specs.Phases.{task_of}
use Rattle.compactor.specs.Tasks.{FindsBlocks, Fits, OneEvent, Task}
use Rattle.compactor.specs.Tasks.Task.{Reading}
use Rattle.compactor.proofs.BlockLaws.{among_blocks}
use Rattle.compactor.proofs.ReadLaws.{no_page_event, no_page_fits, page_event, page_fits, page_found, turned_left}
use Rattle.compactor.proofs.task.read.Goals as goal

pub read_page-requires : goal.read_page-requires
read_page-requires g c =
    let job = c.args.reading.job in
    let parts = c.args.reading.parts.items in
    let is_open = c.requires.is_reading.is_open in
    record {
      «open» = subst (λ (f : ℕ). IsPinOf job.pin f (IsOpen g.P.LookPort.meaning c.args.port.now)) (sym c.file_of-file.ensures)
          (OfJob (compact_parts job) refl refl is_open
          (among_blocks (length parts) job.pin.blocks c.current-block.result.now (drop (length parts + 1) job.pin.blocks) c.current-block.ensures));
    }

pub returns-in-Ok-clause-steps : goal.returns-in-Ok-clause-steps
returns-in-Ok-clause-steps g c =
    let job = c.args.reading.job in
    let parts = c.args.reading.parts.items in
    let pages = c.args.reading.pages in
    page_event g.P.LookPort.meaning c.args.port.now c.read_page.new.self job parts pages c.args.reading.bytes.items c.read_page.new.buf c.current-block.result.now (drop (length parts + 1) job.pin.blocks)
    (task_of c.turn.result)
    (subst (λ (f : ℕ). Called g.P.LookPort.meaning c.args.port.now (ReadPage job.pin.number f pages) (Page c.read_page.new.buf) c.read_page.new.self) c.file_of-file.ensures c.in-Ok.ensures.called)
    c.current-block.ensures c.requires.is_reading.page c.turn.ensures.turned

pub returns-in-Ok-clause-fits : goal.returns-in-Ok-clause-fits
returns-in-Ok-clause-fits g c =
    let job = c.args.reading.job in
    let parts = c.args.reading.parts.items in
    let pages = c.args.reading.pages in
    page_fits g.P.LookPort.meaning c.args.port.now c.read_page.new.self job parts pages c.args.reading.bytes.items c.read_page.new.buf c.current-block.result.now (drop (length parts + 1) job.pin.blocks)
    (task_of c.turn.result) c.described_block_is_read.ensures.size c.requires.is_reading c.requires.more
    (subst (λ (f : ℕ). Called g.P.LookPort.meaning c.args.port.now (ReadPage job.pin.number f pages) (Page c.read_page.new.buf) c.read_page.new.self) c.file_of-file.ensures c.in-Ok.ensures.called)
    c.current-block.ensures
    (λ tells. subst (λ (f : ℕ). c.read_page.new.buf ≡ page_of (g.P.LookPort.meaning.shows c.args.port.now f) pages) c.file_of-file.ensures (c.in-Ok.ensures.bytes tells))
    c.turn.ensures.turned

pub returns-in-Ok-clause-found : goal.returns-in-Ok-clause-found
returns-in-Ok-clause-found g c =
    let job = c.args.reading.job in
    let parts = c.args.reading.parts.items in
    let pages = c.args.reading.pages in
    page_found g.P.LookPort.meaning c.args.port.now c.read_page.new.self job parts pages c.args.reading.bytes.items c.read_page.new.buf c.current-block.result.now (drop (length parts + 1) job.pin.blocks)
    (task_of c.turn.result) c.described_block_is_read.ensures.size c.requires.is_reading
    (subst (λ (f : ℕ). Called g.P.LookPort.meaning c.args.port.now (ReadPage job.pin.number f pages) (Page c.read_page.new.buf) c.read_page.new.self) c.file_of-file.ensures c.in-Ok.ensures.called)
    c.current-block.ensures
    (λ tells. subst (λ (f : ℕ). c.read_page.new.buf ≡ page_of (g.P.LookPort.meaning.shows c.args.port.now f) pages) c.file_of-file.ensures (c.in-Ok.ensures.bytes tells))
    c.turn.ensures.turned

pub returns-in-Ok-clause-left : goal.returns-in-Ok-clause-left
returns-in-Ok-clause-left g c =
    turned_left c.args.reading.job c.args.reading.parts.items c.args.reading.pages _ (task_of c.turn.result) c.turn.ensures.turned c.turn.ensures.near c.requires.more

pub returns-in-Err-clause-steps : goal.returns-in-Err-clause-steps
returns-in-Err-clause-steps g c =
    let job = c.args.reading.job in
    let parts = c.args.reading.parts.items in
    let pages = c.args.reading.pages in
    let before = Reading job parts pages c.args.reading.bytes.items in
    subst (λ (t : Task). OneEvent g.P.LookPort.meaning before c.args.port.now t c.read_page.new.self) (sym c.fail.ensures)
    (no_page_event g.P.LookPort.meaning c.args.port.now c.read_page.new.self job parts pages c.args.reading.bytes.items c.current-block.result.now (drop (length parts + 1) job.pin.blocks)
    (subst (λ (f : ℕ). Called g.P.LookPort.meaning c.args.port.now (ReadPage job.pin.number f pages) (reply.Refused refusal.Fault) c.read_page.new.self) c.file_of-file.ensures c.in-Err.ensures.called)
    c.current-block.ensures c.requires.is_reading.page)

pub returns-in-Err-clause-fits : goal.returns-in-Err-clause-fits
returns-in-Err-clause-fits g c =
    let job = c.args.reading.job in
    let pages = c.args.reading.pages in
    subst (λ (t : Task). Fits g.P.LookPort.meaning t c.read_page.new.self) (sym c.fail.ensures)
    (no_page_fits g.P.LookPort.meaning c.args.port.now c.read_page.new.self job c.current-block.result.now pages c.requires.is_reading.is_open
    (subst (λ (f : ℕ). Called g.P.LookPort.meaning c.args.port.now (ReadPage job.pin.number f pages) (reply.Refused refusal.Fault) c.read_page.new.self) c.file_of-file.ensures c.in-Err.ensures.called))

pub returns-in-Err-clause-found : goal.returns-in-Err-clause-found
returns-in-Err-clause-found g c = λ are. subst (λ (t : Task). FindsBlocks g.P.LookPort.meaning t c.read_page.new.self) (sym c.fail.ensures) (λ tells. tt)
