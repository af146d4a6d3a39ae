use Rattle.std.proofs.Common.{List, ◌++◌, subst}
use Rattle.span_types.specs.First.{IsFirstOf}
use Rattle.span_types.specs.declared.spans.Row.{Row}
use Rattle.query_fanout.specs.Taking.{AnswersSearch}
use Rattle.query_fanout.proofs.FewLaws.{answered}
use Rattle.query_fanout.proofs.taking.answer_rows.Goals as goal

pub returns : goal.returns
returns g c = λ rows are.
    answered c.args.asked.now c.args.own.now rows c.args.found c.in_ok-firsts.firsts c.args.ids.now c.args.best c.in_ok-kept.kept c.in_ok-more.more c.requires.in_order are
    (subst (λ (l : List Row). IsFirstOf (l ++ c.args.found) c.in_ok-firsts.firsts) c.in_ok-theirs.ensures c.in_ok-firsts.ensures) (subst (λ (l : List Row). AnswersSearch c.args.asked.now l c.in_ok-more.more) (c.as_slice.ensures) c.in_ok-more.ensures) c.in_ok-kept.ensures.limit c.in_ok-kept.ensures.first
