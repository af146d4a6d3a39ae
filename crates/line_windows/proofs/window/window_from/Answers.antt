use Rattle.std.proofs.Common.{List, subst, sym}
use Rattle.io_edges.specs.Reader.{IsToRead}
use Rattle.line_windows.specs.Windows.{IsWindow}
use Rattle.line_windows.specs.declared.line.WindowLine.{WindowLine}
use Rattle.line_windows.proofs.WindowLemmas.{window_begins}
use Rattle.line_windows.proofs.window.window_from.Goals as goal

pub returns-in-Ok-clause-lines : goal.returns-in-Ok-clause-lines
returns-in-Ok-clause-lines c = λ line left text is to_read.
    c.add_at_hand.ensures.lines line left text
    (subst (λ (ws : List WindowLine). IsWindow line text ws (IsToRead c.args.reader.now left)) (sym c.in-Ok.ensures.line) (window_begins line text c.args.first (IsToRead c.args.reader.now left) is to_read))
