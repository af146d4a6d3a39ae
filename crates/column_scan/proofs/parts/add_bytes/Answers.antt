use Rattle.std.proofs.Common.{None, sym, ◌∙◌, ap}
use Rattle.block_stripes.specs.Stripes.{is_extended}
use Rattle.column_scan.specs.Candidates.{hinted_picks, spans_of}
use Rattle.column_scan.specs.declared.hints.Hint.{Hint}
use Rattle.column_scan.specs.Sieves.{sifted_picks}
use Rattle.column_scan.proofs.Latest.{none_added, none_of_hint}
use Rattle.column_scan.proofs.StripeParts.{whole_read}
use Rattle.column_scan.proofs.Starts.{told_of_read}
use Rattle.column_scan.proofs.parts.add_bytes.Goals as goal

pub returns-then-lacks_text-clause-answers : goal.returns-then-lacks_text-clause-answers
returns-then-lacks_text-clause-answers c = λ rows read. (
  none_added c.args.picks.now.items (sifted_picks c.args.sifter.now (spans_of rows))
      (none_of_hint c.args.sifter.now (spans_of rows)
      (ap (λ (h : Hint). hinted_picks h (spans_of rows)) (sym c.hint.ensures) ∙ c.lacks_text.ensures (c.if-lacks_text.true) (is_extended c.args.form) rows (whole_read c.args.form c.args.entry.now None c.args.bytes.now rows read))),
  tt,
)

pub returns-in-Ok-true-clause-answers : goal.returns-in-Ok-true-clause-answers
returns-in-Ok-true-clause-answers c = λ rows read.
    let told = told_of_read c.args.form c.args.entry.now c.args.bytes.now rows c.in-Some.glance c.in-Some.ensures.told read in
    (c.in-Ok-true.ensures.all rows told c.in-Ok-true.field-0-test, c.last_of.ensures rows told)
