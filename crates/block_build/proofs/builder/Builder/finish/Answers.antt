use Rattle.std.proofs.Common.{◌∙◌, sym}
use Rattle.block_build.proofs.RowByRow.{all_written, few_wait, its_stripes, surely}
use Rattle.block_build.proofs.builder.Builder.finish.Goals as goal

pub returns-then-not-is_sure-clause-some : goal.returns-then-not-is_sure-clause-some
returns-then-not-is_sure-clause-some c = λ rows took order is some few.
    let old = c.args.self in
    let b = c.write_rest.new.self in
    let w = c.in_ok-write_rest.ensures in
    let sure = surely old b rows took w order is in
    let all = all_written b rows (w.holds rows (few_wait old rows took) took.holds) w.none sure in
    absurd (c.is_sure.ensures.other c.if-not-is_sure.true sure (w.form ∙ is ∙ sym all.wanted))

pub returns-clause-block : goal.returns-clause-block
returns-clause-block c = λ rows took order.
    let b = c.write_rest.new.self in
    let w = c.in_ok-write_rest.ensures in
    let all = all_written b rows (w.holds rows (few_wait c.args.self rows took) took.holds) w.none (c.is_sure.ensures.sure c.if-not-is_sure.false) in
    c.close.ensures.block rows all.stripes all.ids (c.is_sure.ensures.form c.if-not-is_sure.false ∙ all.wanted) order

pub returns-clause-some : goal.returns-clause-some
returns-clause-some c = λ rows took order is some few.
    let old = c.args.self in
    let b = c.write_rest.new.self in
    let w = c.in_ok-write_rest.ensures in
    let sure = c.is_sure.ensures.sure c.if-not-is_sure.false in
    let all = all_written b rows (w.holds rows (few_wait old rows took) took.holds) w.none sure in
    c.close.ensures.some rows all.stripes all.ids (w.form ∙ is) (its_stripes old b rows took w sure) some few
