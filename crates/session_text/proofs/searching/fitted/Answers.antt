use Rattle.traceql_syntax.specs.Trees.{query_tree}
use Rattle.session_text.proofs.SearchLemmas.{blamed_cause}
use Rattle.session_text.proofs.searching.fitted.Goals as goal

pub returns-in-Ok : goal.returns-in-Ok
returns-in-Ok g c = let blamed = c.in-Ok.ensures.blamed in (blamed.0, blamed.1, (c.in-Ok.ensures.query, blamed.2 c.requires))

pub returns-in-Err : goal.returns-in-Err
returns-in-Err g c =
    let own = c.in-Err.ensures.blamed in
    let blamed = own.2 c.requires in (
      own.0,
      own.1,
      record {
        why = c.in-Err.error;
        is = c.of_check.ensures;
        cause = blamed_cause (query_tree c.args.query) _ own.0 c.in-Err.error c.in-Err.ensures.cause blamed;
        first = c.in-Err.ensures.first;
        after_made = c.in-Err.ensures.after_made;
        blamed = blamed;
      },
    )
