use Rattle.std.proofs.Common.{sym, ap, ◌∙◌, length, Some}
use Rattle.traceql_tokens.specs.declared.kinds.TokenKind.TheVariants as token
use Rattle.traceql_tokens.proofs.LexerCases.{fixed_word}
use Rattle.traceql_tokens.proofs.lexer.fixed_at.Goals as goal

pub returns-in-Some-word_at : goal.returns-in-Some-word_at
returns-in-Some-word_at c =
    ap (λ n. Some (token.Keyword c.in-Some-word_at.word, n)) (ap length c.text-in-Some-word_at.ensures)
    ∙ sym (fixed_word c.args.words.now c.args.bytes.now c.in-Some-word_at.word (sym c.sign_at.ensures ∙ c.in_default.is) (sym c.word_at.ensures ∙ c.in-Some-word_at.is))
