use Rattle.std.proofs.Common.{◌≡◌, ◌<◌, arith}
use Rattle.drill_input.proofs.DrillLemmas.{ends, goes_on}
use Rattle.drill_input.proofs.rows.draw_rows.Goals as goal

pub loop-j-preserved : goal.loop-j-preserved
loop-j-preserved c =
    let more : c.loop-j.j < c.args.count = omega arith in
    goes_on c.args.origin.now c.loop-j.j c.args.count c.loop-j.words c.draw_row.new.words c.loop-j.rows.items c.push.new.self.items
    c.in_ok-draw_row.field-0 _ more c.in_ok-draw_row.ensures c.in_ok-push.ensures.items c.loop-j.invariant

pub returns : goal.returns
returns c =
    let end : c.loop-j.j ≡ c.args.count = omega arith in
    ends c.args.origin.now c.loop-j.j c.args.count c.loop-j.words c.loop-j.rows.items c.of.result _ end c.of.ensures c.loop-j.invariant
