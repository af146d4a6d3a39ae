use Rattle.std.proofs.Common.{◌++◌, ap, ◌∙◌, string_bytes}
use Rattle.traceql_tokens.specs.declared.kinds.TokenKind.TheVariants as token
use Rattle.traceql_print.specs.Text.{kind_text}
use Rattle.traceql_print.proofs.Putting.{put_is}
use Rattle.traceql_print.proofs.printer.Printer.word.Goals as goal

pub returns : goal.returns
unfolding kind_text
returns c =
    put_is c.args.self.now c.space.new.self (string_bytes c.self.inside.text) (string_bytes c.push_str.new.self) c.self.inside.tight (token.Keyword c.args.word) c.self.view_is c.in_ok-space.ensures (c.in_ok-push_str.ensures.bytes ∙ ap (λ t. string_bytes c.self.inside.text ++ t) c.text.ensures)
