use Rattle.std.proofs.Common.{sym}
use Rattle.command_words.proofs.Numbers.{given_is}
use Rattle.command_words.proofs.number.number_given.Goals as goal

pub returns-in-Ok-Some-clause-ok : goal.returns-in-Ok-Some-clause-ok
returns-in-Ok-Some-clause-ok c =
    let read = rw c.in-Ok-Some.field-0-is at c.in-Ok-Some.ensures in
    given_is c.args.low c.args.high c.in-Ok-Some.number _ c.in-Some.text.now (sym c.in-Some.ensures) read
