use Rattle.session_meaning.proofs.ServedFaults.{clients_counted, run_counted}
use Rattle.session_meaning.proofs.serving_faults.each_disk_fault_of_clients_is_counted.Goals as goal

pub returns-clause-of_clients : goal.returns-clause-of_clients
returns-clause-of_clients c = clients_counted

pub returns-clause-of_runs : goal.returns-clause-of_runs
returns-clause-of_runs c = run_counted
