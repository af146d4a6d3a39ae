use Rattle.std.proofs.Common.{◌≡◌, ◌-◌, map}
use Rattle.drill_input.specs.Drill.{drawn_spans}
use Rattle.drill_input.proofs.DrillLemmas.{behind}
use Rattle.drill_input.proofs.rows.draw_rows.Given as goal

-- The spans so far stand before those that are drawn from here on.
abbrev pub invariant-loop-j : goal.invariant-loop-j
invariant-loop-j l =
    behind (map (λ row. row.span) l.rows.items) (drawn_spans l.origin l.j (l.count - l.j) l.words) ≡ drawn_spans l.fn.origin 0 l.fn.count l.fn.words
