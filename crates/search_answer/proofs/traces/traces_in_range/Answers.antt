use Rattle.std.proofs.Common.{◌++◌, [], ◌<◌, sym, subst, ◌∙◌, length, append-nil}
use Rattle.search_answer.specs.InRange.{AreInRange}
use Rattle.search_answer.specs.Walking.{FirstStarts, IsSorted}
use Rattle.search_answer.proofs.Firsts.{firsts_are_sorted}
use Rattle.search_answer.proofs.Fronts.{cut_front, sorted_later}
use Rattle.search_answer.proofs.InRangeLaws.{empty, no_traces, some_rows, walked}
use Rattle.search_answer.proofs.Starts.{first_starts}
use Rattle.search_answer.proofs.traces.traces_in_range.Goals as goal

pub loop-rest-init : goal.loop-rest-init
loop-rest-init c = record {
  so_far = λ more are. subst (λ l. AreInRange c.args.range c.args.rows.now (l ++ more)) (sym c.new-found.ensures.items) are;
  sorted = firsts_are_sorted c.requires.0 c.args.rows.now c.requires.1;
}

pub in_range-requires : goal.in_range-requires
in_range-requires c =
    subst FirstStarts (sym c.split_at.ensures.front)
    (first_starts c.loop-rest.rest.now c.trace_len.result c.trace_len.ensures.some c.trace_len.ensures.front c.loop-rest.invariant.sorted)

pub loop-rest-preserved : goal.loop-rest-preserved
loop-rest-preserved c =
    let some : 0 < length c.loop-rest.rest.now = some_rows c.loop-rest.rest.now (sym c.is_empty.ensures ∙ c.loop-rest-test.true) in
    record {
      so_far = walked c.args.range c.args.rows.now c.loop-rest.rest.now c.split_at.result.0.now c.split_at.result.1.now c.trace_len.result c.in_range.result c.loop-rest.found.items c.extend.new.all.items
          (cut_front c.loop-rest.rest.now c.trace_len.result some c.trace_len.ensures.some c.trace_len.ensures.front c.loop-rest.invariant.sorted)
          c.split_at.ensures.front c.split_at.ensures.back c.in_range.ensures c.in_ok-extend.ensures c.loop-rest.invariant.so_far;
      sorted = subst IsSorted (sym c.split_at.ensures.back) (sorted_later c.loop-rest.rest.now c.trace_len.result c.loop-rest.invariant.sorted);
    }

pub returns : goal.returns
returns c =
    subst (AreInRange c.args.range c.args.rows.now) (append-nil c.loop-rest.found.items)
    (c.loop-rest.invariant.so_far [] (no_traces c.args.range c.loop-rest.rest.now (empty c.loop-rest.rest.now (sym c.is_empty.ensures ∙ c.loop-rest-test.false))))
