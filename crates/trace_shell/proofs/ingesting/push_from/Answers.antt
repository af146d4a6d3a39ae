use Rattle.std.proofs.Common.{[], ◌∷◌, subst, sym}
use Rattle.io_edges.specs.Reader.{IsToRead}
use Rattle.line_windows.specs.Windows.{IsOf}
use Rattle.trace_shell.proofs.IngestWindows.{no_lines, pushed_alone}
use Rattle.trace_shell.proofs.ingesting.push_from.Goals as goal

pub returns-in-Ok-clause-pushed : goal.returns-in-Ok-clause-pushed
returns-in-Ok-clause-pushed g c =
    let pushed = c.push_window.ensures.pushed in (
      pushed.0,
      pushed.1,
      pushed.2,
      λ line left text is to_read.
          let window = c.in-Ok.ensures.lines line left text is to_read in
          (window.0, window.1, pushed.3 (line ∷ window.0) (c.read_in_threads-lines.ensures (line ∷ window.0) window.2)),
    )

pub returns-in-Err-clause-pushed : goal.returns-in-Err-clause-pushed
returns-in-Err-clause-pushed g c =
    let pushed = pushed_alone g.D.Device c.args.core.now c.push_line.new.core _ _ _ _ c.in-Err.line _ _ c.push_line.result c.push_line.ensures.pushed in (
      pushed.0,
      pushed.1,
      pushed.2,
      λ line left text is to_read. (
        [],
        no_lines text (IsToRead c.window_from.new.reader left) (subst (λ r. IsToRead r left text) (sym c.in-Err.ensures.stands) to_read),
        pushed.3 line (subst (λ w. IsOf line w) (sym c.in-Err.ensures.same) is),
      ),
    )
