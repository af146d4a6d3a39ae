use Rattle.std.proofs.Common.{List, arith, drop, length, subst, sym}
use Rattle.std.proofs.lemmas.List.{take_at}
use Rattle.line_windows.specs.Windows.{AreOf}
use Rattle.line_windows.specs.declared.line.WindowLine.{WindowLine}
use Rattle.trace_shell.proofs.ingesting.read_in_threads.Goals as goal

pub returns : goal.returns
returns g c = λ lines are.
    let new = c.read_all.new.window in
    subst (λ (ws : List WindowLine). AreOf lines ws) (sym (take_at new (drop (length new) c.args.window.items) c.args.window.len (omega (arith, c.read_all.ensures.len, c.as_mut_slice.ensures.len))))
    (c.read_all.ensures.lines lines (subst (λ (ws : List WindowLine). AreOf lines ws) (sym c.as_mut_slice.ensures.value) are))
