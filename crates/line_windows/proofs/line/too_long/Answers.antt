use Rattle.std.proofs.Common.{length, arith}
use Rattle.line_windows.proofs.WindowLemmas.{gives_too_long}
use Rattle.line_windows.proofs.line.too_long.Goals as goal

pub returns : goal.returns
returns c = λ line is. (omega (arith, is, c.requires), gives_too_long c.args.size line c.requires is)
