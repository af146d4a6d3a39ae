use Rattle.std.proofs.Common.{sym, ap, ◌∙◌, subst}
use Rattle.std.specs.List.{prefix_len}
use Rattle.traceql_tokens.specs.Bytes.{is_name_byte}
use Rattle.traceql_tokens.proofs.AttributeLaws.{name_end}
use Rattle.traceql_tokens.proofs.Ends.{End, boundary}
use Rattle.traceql_tokens.proofs.lexer.name_at.Goals as goal

pub range-requires-clause-end_boundary : goal.range-requires-clause-end_boundary
range-requires-clause-end_boundary c =
    let text = c.args.text.now in
    boundary text c.name_len-len.result c.utf8.text (subst (End text) (sym (c.name_len-len.ensures ∙ ap (prefix_len is_name_byte) c.as_bytes.ensures.value)) (name_end text))
