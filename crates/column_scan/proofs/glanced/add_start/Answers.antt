use Rattle.std.proofs.Common.{sym, ◌∙◌, ap, ◌≡◌, false}
use Rattle.moment_range.specs.Ranges.{is_within}
use Rattle.column_scan.specs.declared.hints.Hint.{Hint}
use Rattle.column_scan.proofs.Starts.{out_of_members, out_of_range}
use Rattle.column_scan.proofs.glanced.add_start.Goals as goal

pub returns-then-not-holds-clause-found : goal.returns-then-not-holds-clause-found
returns-then-not-holds-clause-found c = λ s is has.
    let out : c.holds.result ≡ false = cc in
    out_of_range c.args.sifter.now s c.args.picks.now.items c.requires
    (ap (λ (h : Hint). is_within h.range s.start) (sym c.hint.ensures) ∙ ap (is_within c.hint.result.now.range) has.start ∙ sym c.holds.ensures ∙ out)

pub returns-then-not-branch-clause-found : goal.returns-then-not-branch-clause-found
returns-then-not-branch-clause-found c = λ s is has.
    let out : c.in_ok-meets_columns.field-0 ≡ false = cc in
    out_of_members c.args.sifter.now s c.args.picks.now.items (sym (c.in_ok-meets_columns.ensures.value s has) ∙ out)
