use Rattle.std.proofs.Common.{◌∙◌}
use Rattle.block_read.proofs.TraceWalk.{stripe_told}
use Rattle.column_scan.proofs.Stripes.{left_out}
use Rattle.column_scan.proofs.parts.add_stripe.Goals as goal

pub returns-then-not-may_scan-clause-answers : goal.returns-then-not-may_scan-clause-answers
returns-then-not-may_scan-clause-answers g c = λ told rows has.
    (left_out c.args.sifter.now c.args.form c.args.entry.now _ rows c.args.picks.now.items (cc) has, tt)

pub returns-in-Ok-clause-answers : goal.returns-in-Ok-clause-answers
returns-in-Ok-clause-answers g c = λ told rows has.
    c.add_bytes.ensures.answers rows
    (stripe_told c.args.form c.args.entry.now (g.P.Pages.held c.args.pages.now c.args.block) c.as_slice.result.now rows has (c.as_slice.ensures.value ∙ c.in-Ok.ensures.bytes told))
