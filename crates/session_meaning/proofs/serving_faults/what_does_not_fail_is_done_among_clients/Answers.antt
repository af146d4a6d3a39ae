use Rattle.session_meaning.proofs.ServedDone.{each_done, one_done}
use Rattle.session_meaning.proofs.serving_faults.what_does_not_fail_is_done_among_clients.Goals as goal

pub returns-clause-one_call : goal.returns-clause-one_call
returns-clause-one_call c = one_done

pub returns-clause-each : goal.returns-clause-each
returns-clause-each c = each_done
