use Rattle.std.proofs.Common.{string_bytes}
use Rattle.traceql_tokens.specs.declared.kinds.TokenKind.TheVariants as token
use Rattle.traceql_print.specs.Text.{kind_text}
use Rattle.traceql_print.proofs.Putting.{put_is}
use Rattle.traceql_print.proofs.printer.Printer.number.Goals as goal

pub returns : goal.returns
unfolding kind_text
returns c =
    put_is c.args.self.now c.space.new.self (string_bytes c.self.inside.text) (string_bytes c.write.new.self) c.self.inside.tight (token.Number c.args.number) c.self.view_is c.in_ok-space.ensures (c.in_ok-write.ensures.bytes)
