use Rattle.std.proofs.Common.{arith}
use Rattle.trace_shell.proofs.ArgumentLemmas.{given_there}
use Rattle.trace_shell.proofs.program.folder_and_words.Goals as goal

pub returns-clause-given : goal.returns-clause-given
returns-clause-given c =
    given_there c.args.arguments c.in-Ok.arguments c.remove-program.new.self c.remove-folder.new.self c.remove-folder.result c.in-Ok.is (omega arith)
    c.remove-program.ensures.items c.remove-folder.ensures.value c.remove-folder.ensures.items
