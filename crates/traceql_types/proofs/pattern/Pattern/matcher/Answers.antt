use Rattle.std.proofs.Common.{sym}
use Rattle.traceql_types.proofs.pattern.Pattern.matcher.Goals as goal

pub returns-clause-read : goal.returns-clause-read
returns-clause-read c =
    let p = c.args.self.now in
    (p.regex, p.whole, p.options, p.read, sym c.in_ok-matcher.ensures.pattern)
