use Rattle.std.proofs.Common.{sym, subst}
use Rattle.traceql_tokens.specs.Tokens.{AreTokensOf}
use Rattle.traceql_tokens.specs.declared.tables.TheConstants.{METRICS_WORDS}
use Rattle.traceql_tokens.proofs.TokensLaws.{metrics_tokens_unique}
use Rattle.traceql_tokens.proofs.lexer.metrics_tokens.Goals as goal

pub returns-clause-only : goal.returns-clause-only
returns-clause-only c = λ ts h.
    metrics_tokens_unique 0 c.args.text.now c.of.result ts (subst (λ us. AreTokensOf METRICS_WORDS 0 c.args.text.now us) (sym c.of.ensures) c.in_ok-found.ensures) h
