use Rattle.std.proofs.Common.{◌≡◌, [], ◌∷◌, rules, sym, subst}
use Rattle.traceql_tokens.specs.Tokens.{AreTokens}
use Rattle.traceql_print.specs.Signs.{field_kind}
use Rattle.traceql_print.specs.Text.{field_text}
use Rattle.traceql_print.proofs.Promises.{printed_token_of}
use Rattle.traceql_print.proofs.printing.print_field.Goals as goal

pub returns-clause-token : goal.returns-clause-token
returns-clause-token c = λ named.
    let text : c.of.result ≡ field_text c.args.field.now = search rules in
    subst (λ t. AreTokens 0 t (record { at = 0; kind = field_kind c.args.field.now } ∷ [])) (sym text) (printed_token_of c.args.field.now named)
