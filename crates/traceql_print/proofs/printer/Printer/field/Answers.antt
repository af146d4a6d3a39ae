use Rattle.std.proofs.Common.{ap, sym, ◌∙◌, string_bytes}
use Rattle.traceql_print.specs.Signs.{field_kind}
use Rattle.traceql_print.specs.Printer.{spaced}
use Rattle.traceql_print.proofs.Putting.{put_is, field_opens, field_closes}
use Rattle.traceql_print.proofs.printer.Printer.field.Goals as goal

pub returns : goal.returns
returns c =
    let f = c.args.field.now in
    ap (λ b. record { text = string_bytes c.push_field.new.out; tight = b }) (sym (field_opens f))
    ∙ put_is c.args.self.now c.space.new.self (string_bytes c.self.inside.text) (string_bytes c.push_field.new.out) c.self.inside.tight (field_kind f) c.self.view_is
    (c.in_ok-space.ensures ∙ ap (spaced c.args.self.now) (sym (field_closes f)))
    c.in_ok-push_field.ensures
