use Rattle.std.proofs.Common.{◌-◌, ◌++◌, List, drop, ◌∙◌, ap}
use Rattle.store_model.specs.History.{record_rows}
use Rattle.store_model.specs.State.{LiveRow}
use Rattle.store_model.specs.After.{arrived}
use Rattle.store_images.specs.Stored.{first_number}
use Rattle.span_types.specs.declared.spans.Row.{Row}
use Rattle.store_core.specs.Opening.{rows_from}
use Rattle.store_core.proofs.Revived.{above_floor}
use Rattle.store_files.specs.declared.error.OpenError.TheVariants.{Fault}
use Rattle.store_files.proofs.Answered.{fine_answer, handed_answer, other_answer}
use Rattle.store_core.proofs.opening.read_rows.Goals as goal

pub returns-in-Ok-revive-clause-read : goal.returns-in-Ok-revive-clause-read
returns-in-Ok-revive-clause-read g c =
    let list = c.args.list.now in
    let r = c.in-Ok.ensures.read in (
      r.0,
      c.in-Ok-revive.ensures.added
          ∙ ap (λ (l : List Row). c.new-live.result.live ++ arrived c.args.moment l) (ap (rows_from list.floor) r.1 ∙ above_floor list.floor (first_number list) r.0 c.requires.from_floor)
          ∙ ap (λ (l : List LiveRow). l ++ arrived c.args.moment (record_rows list.floor (drop (list.floor - first_number list) r.0))) c.new-live.ensures.0,
      r.2,
    )

pub returns-in-Err-clause-counted : goal.returns-in-Err-clause-counted
returns-in-Err-clause-counted g c = handed_answer g.D.Device Fault c.args.disk.now c.read_log.new.disk c.in-Err.error c.in-Err.ensures.counted

pub returns-in-Ok-revive-clause-counted : goal.returns-in-Ok-revive-clause-counted
returns-in-Ok-revive-clause-counted g c =
    let d = g.D.Device in
    let disk = c.args.disk.now in
    let new = c.read_log.new.disk in
    other_answer d Fault disk new _ (λ is. absurd cc) (fine_answer d 0 Fault disk new _ c.in-Ok.ensures.counted)

pub returns-in-Err-revive-clause-counted : goal.returns-in-Err-revive-clause-counted
returns-in-Err-revive-clause-counted g c =
    let d = g.D.Device in
    let disk = c.args.disk.now in
    let new = c.read_log.new.disk in
    other_answer d Fault disk new _ (λ is. absurd cc) (fine_answer d 0 Fault disk new _ c.in-Ok.ensures.counted)
