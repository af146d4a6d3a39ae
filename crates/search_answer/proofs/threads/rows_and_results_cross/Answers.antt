use Rattle.span_types.proofs.spans.Row.TheSendSync as row
use Rattle.spanset_eval.proofs.results.TraceResult.TheSendSync as result
use Rattle.search_answer.proofs.threads.rows_and_results_cross.Goals as goal

pub returns : goal.returns
returns c = record { row_send = row.the_send; row_sync = row.the_sync; result_send = result.the_send; result_sync = result.the_sync }
