use Rattle.std.proofs.Common.{◌≡◌, nat_eq, find, Some, sym, ap, ◌∙◌}
use Rattle.std.specs.List.{starts_with}
use Rattle.traceql_tokens.specs.Fixed.{scope_text}
use Rattle.traceql_tokens.specs.declared.tables.TheConstants.{SCOPES}
use Rattle.traceql_tokens.proofs.Prefixes.{find_passes}
use Rattle.traceql_tokens.proofs.lexer.token_at.Goals as goal

pub attribute_at-requires-clause-start : goal.attribute_at-requires-clause-start
attribute_at-requires-clause-start c =
    let text = c.args.text.now in
    let found : find (λ x. starts_with nat_eq text (scope_text x)) SCOPES ≡ Some c.in-Some-scope_at.scope =
    ap (λ t. find (λ x. starts_with nat_eq t (scope_text x)) SCOPES) (sym c.as_bytes-bytes.ensures.value) ∙ sym c.scope_at.ensures ∙ c.in-Some-scope_at.is in
    find_passes (λ x. starts_with nat_eq text (scope_text x)) c.in-Some-scope_at.scope SCOPES found
