use Rattle.std.proofs.Common.{◌≡◌, ◌+◌, max, arith, refl, sym, ap, ◌∙◌}
use Rattle.std.proofs.lemmas.Result.{err_from_is_err_and}
use Rattle.std.proofs.lemmas.Option.{slice_get_past, slice_get_read}
use Rattle.block_columns.specs.ColumnReadings.{Spot}
use Rattle.block_columns.proofs.ReadingSteps.{number_kept, reference_high, reference_past, reference_found, reference_broken}
use Rattle.block_columns.proofs.fields.Fields.reference.Goals as goal
use Rattle.block_columns.proofs.fields.Fields.reference.Goals.{then-number-used-via-then-number-used, then-number-used-via-else-number-used+then-number-table}

pub returns-in_err-number : goal.returns-in_err-number
returns-in_err-number g c =
    let p = err_from_is_err_and c.from_residual.result c.from_residual.ensures.1 in
    rw (p.1, p.2) (reference_broken c.in_err-number.field-0.0 c.args.table.now c.args.self.now c.in_err-number.ensures)

pub returns-then-number-used : goal.returns-then-number-used
returns-then-number-used g c =
    let kept = number_kept _ _ _ c.in_ok-number.ensures in
    rw c.at-at.ensures (elim c.then-number-used.branch [
      | then-number-used-via-then-number-used w ↦ reference_high c.args.table.now c.args.self.now c.in_ok-number.number c.number.new.self c.in_ok-number.ensures (omega (arith, kept, c.used.ensures, w.if-number-used.true))
      | then-number-used-via-else-number-used+then-number-table w ↦
          reference_past c.args.table.now c.args.self.now c.in_ok-number.number c.number.new.self c.in_ok-number.ensures (omega (arith, kept, c.used.ensures, w.if-number-used.false)) (slice_get_past c.args.table.now c.in_ok-number.number w.if-number-table.true)
    ])

pub returns : goal.returns
returns g c =
    let kept = number_kept _ _ _ c.in_ok-number.ensures in
    reference_found c.args.table.now c.args.self.now c.in_ok-number.number c.number.new.self _ _ c.in_ok-number.ensures (omega (arith, kept, c.used.ensures, c.if-number-used.false))
    (slice_get_read c.args.table.now _ c.in_ok-number.number _ refl c.if-number-table.false c.index-table-number.is)
    (c.count_use.ensures ∙ ap (λ k. record { within = c.number.new.self.within; stand = c.number.new.self.stand; used = max k (c.in_ok-number.number + 1) }) (sym kept))
