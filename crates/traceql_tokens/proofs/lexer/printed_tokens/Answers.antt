use Rattle.traceql_tokens.proofs.Printed.{printed_token, printed_paren, printed_space, printed_end}
use Rattle.traceql_tokens.proofs.lexer.printed_tokens.Goals as goal

pub returns-clause-token : goal.returns-clause-token
returns-clause-token c = printed_token

pub returns-clause-paren : goal.returns-clause-paren
returns-clause-paren c = printed_paren

pub returns-clause-space : goal.returns-clause-space
returns-clause-space c = printed_space

pub returns-clause-end : goal.returns-clause-end
returns-clause-end c = printed_end
