use Rattle.std.proofs.Common.{string_bytes}
use Rattle.traceql_tokens.specs.declared.kinds.TokenKind.TheVariants as token
use Rattle.traceql_print.specs.Text.{kind_text}
use Rattle.traceql_print.proofs.Putting.{put_is}
use Rattle.traceql_print.proofs.printer.Printer.string.Goals as goal

pub returns : goal.returns
unfolding kind_text
returns c =
    put_is c.args.self.now c.space.new.self (string_bytes c.self.inside.text) (string_bytes c.push_quoted.new.out) c.self.inside.tight (token.Quoted c.args.value.now) c.self.view_is c.in_ok-space.ensures c.in_ok-push_quoted.ensures
