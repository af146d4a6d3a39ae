use Rattle.session_meaning.proofs.Acts.{acts_count}
use Rattle.session_meaning.proofs.FaultLaws.{session_counts}
use Rattle.session_meaning.proofs.FaultRuns.{asked_none, run_counts}
use Rattle.session_meaning.proofs.laws.each_disk_fault_is_counted.Goals as goal

pub returns-clause-of_sessions : goal.returns-clause-of_sessions
returns-clause-of_sessions c = session_counts

pub returns-clause-of_acts : goal.returns-clause-of_acts
returns-clause-of_acts c = acts_count

pub returns-clause-of_lines : goal.returns-clause-of_lines
returns-clause-of_lines c = asked_none

pub returns-clause-of_runs : goal.returns-clause-of_runs
returns-clause-of_runs c = run_counts
