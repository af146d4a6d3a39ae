use Rattle.std.proofs.Common.{sym, subst}
use Rattle.traceql_tokens.specs.Tokens.{AreTokens}
use Rattle.traceql_tokens.proofs.TokensLaws.{tokens_unique}
use Rattle.traceql_tokens.proofs.lexer.tokens.Goals as goal

pub returns-clause-only : goal.returns-clause-only
returns-clause-only c = λ ts h.
    tokens_unique 0 c.args.text.now c.of.result ts (subst (λ us. AreTokens 0 c.args.text.now us) (sym c.of.ensures) c.in_ok-found.ensures) h
