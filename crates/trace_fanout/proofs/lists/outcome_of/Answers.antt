use Rattle.std.proofs.Common.{Some, subst}
use Rattle.rayon.proofs.ListFacts.{IfOk-then}
use Rattle.spanset_eval.specs.Outcomes.{IsCutOutcome, IsOutcome}
use Rattle.traceql_syntax.specs.Trees.{query_tree}
use Rattle.trace_fanout.proofs.Uncut.{uncut}
use Rattle.trace_fanout.proofs.lists.outcome_of.Goals as goal

pub returns : goal.returns
returns c =
    let ps = c.args.checked.now.patterns in
    let q = query_tree c.args.checked.now.query in
    let rows = c.args.trace.now in
    record {
      outcome = IfOk-then c.evaluate_rows.result.0 _ (IsOutcome ps rows q) c.evaluate_rows.ensures.outcome (λ o is.
          uncut ps rows q o (subst (λ n. IsCutOutcome (Some n) ps rows q o) c.len.ensures (subst (λ l. IsCutOutcome (Some c.len.result) ps l q o) c.as_slice.ensures is)));
      matchers = c.evaluate_rows.ensures.matchers;
    }
