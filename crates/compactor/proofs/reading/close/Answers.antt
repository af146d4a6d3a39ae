use Rattle.std.proofs.Common.{◌≡◌, ◌≤◌, ◌+◌, inl, inr, ℕ, List, length, drop, Ok, sym, ◌∙◌, ap, subst, Vec, Global}
use Rattle.byte_fields.specs.Breaks.{Fails}
use Rattle.block_info.specs.InfoParts.{InfoParts}
use Rattle.block_format.specs.Blocks.{BlockHolds}
use Rattle.block_read.specs.Answers.{made_of}
use Rattle.block_read.specs.BlockReadings.{listed_at}
use Rattle.block_read.specs.declared.block.Block.{Block}
use Rattle.store_state.specs.declared.rounds.Refusal.{Refusal}
use Rattle.compactor.specs.Rounds.{pages_of, rows_at}
use Rattle.compactor.specs.Phases.{Turned, unread_cause}
use Rattle.compactor.specs.Phases.Turned.{Starved, NextBlock}
use Rattle.compactor.specs.Tasks.{Task, blocks_left}
use Rattle.compactor.specs.Tasks.Task.{Failing}
use Rattle.compactor.proofs.ReadLaws.{broke, first_holds}
use Rattle.compactor.proofs.reading.close.Goals as goal

pub returns-in-Ok : goal.returns-in-Ok
returns-in-Ok c =
    let job = c.args.reading.job in
    let parts = c.args.reading.parts.items in
    let info = c.current-block.result.now in
    let rest = drop (length parts + 1) job.pin.blocks in
    let whole = first_holds (blocks_left job parts) info rest (λ (i : InfoParts). pages_of i ≤ c.args.reading.pages) c.current-block.ensures c.requires.whole in
    let count : c.block.inside.rows ≡ info.rows = ap (λ (i : InfoParts). i.rows) c.block.view_is in
    let bytes : c.of.result ≡ c.args.reading.bytes.items = c.of.ensures ∙ ap (λ (v : Vec ℕ Global). v.items) c.replace-bytes.ensures.value in
    let read : rows_at info c.args.reading.bytes.items ≡ Ok c.in-Ok.block = subst (λ (b : List ℕ). rows_at info b ≡ Ok c.in-Ok.block) bytes
    (subst (λ (n : ℕ). made_of (λ (b : Block). b.rows) (listed_at n c.of.result) ≡ Ok c.in-Ok.block) count c.in-Ok.ensures.answers) in
    let held : BlockHolds c.args.reading.bytes.items c.in-Ok.block = subst (λ (b : List ℕ). BlockHolds b c.in-Ok.block) bytes c.in-Ok.ensures.holds in
    elim c.keep.ensures [
      | inl e ↦ subst (λ (t : Task). Turned job parts c.args.reading.pages c.args.reading.bytes.items t) (sym e)
          (NextBlock info rest c.in-Ok.block c.current-block.ensures whole read c.in-Ok.ensures.some (c.in-Ok.ensures.counted ∙ count) held)
      | inr e ↦ subst (λ (t : Task). Turned job parts c.args.reading.pages c.args.reading.bytes.items t) (sym e) Starved
    ]

pub returns-in-Err : goal.returns-in-Err
returns-in-Err c =
    let job = c.args.reading.job in
    let parts = c.args.reading.parts.items in
    let info = c.current-block.result.now in
    let rest = drop (length parts + 1) job.pin.blocks in
    let why = c.in-Err.error in
    let whole = first_holds (blocks_left job parts) info rest (λ (i : InfoParts). pages_of i ≤ c.args.reading.pages) c.current-block.ensures c.requires.whole in
    let count : c.block.inside.rows ≡ info.rows = ap (λ (i : InfoParts). i.rows) c.block.view_is in
    let bytes : c.of.result ≡ c.args.reading.bytes.items = c.of.ensures ∙ ap (λ (v : Vec ℕ Global). v.items) c.replace-bytes.ensures.value in
    let fails : Fails why (rows_at info c.args.reading.bytes.items) = subst (λ (b : List ℕ). Fails why (rows_at info b)) bytes
    (subst (λ (n : ℕ). Fails why (made_of (λ (b : Block). b.rows) (listed_at n c.of.result))) count c.in-Err.ensures.answers) in
    let cause : c.unread_cause.result ≡ unread_cause info.file why = c.unread_cause.ensures ∙ ap (λ (f : ℕ). unread_cause f why) c.file_of-file.ensures in
    subst (λ (t : Task). Turned job parts c.args.reading.pages c.args.reading.bytes.items t) (sym (c.fail.ensures ∙ ap (λ (r : Refusal). Failing job r) cause))
    (broke job parts c.args.reading.pages c.args.reading.bytes.items info rest why c.current-block.ensures whole fails)
