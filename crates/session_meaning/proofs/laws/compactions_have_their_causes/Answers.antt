use Rattle.store_model.specs.Event.Event.{BeginCompact}
use Rattle.session_meaning.proofs.CompactLaws.{blocks_joined, compaction_caused, compaction_without_faults}
use Rattle.session_meaning.proofs.RoundLaws.{idle_nothing, nothing_done, round_closes, round_history}
use Rattle.session_meaning.proofs.RoundSteps.IsBegin.{OfCompaction}
use Rattle.session_meaning.proofs.Rounds.{compaction_does}
use Rattle.session_meaning.proofs.laws.compactions_have_their_causes.Goals as goal

pub returns-clause-by_calls : goal.returns-clause-by_calls
returns-clause-by_calls c = compaction_does

pub returns-clause-refused : goal.returns-clause-refused
returns-clause-refused c = λ told before after why closed is. compaction_caused told before after why is closed

pub returns-clause-none_fit : goal.returns-clause-none_fit
returns-clause-none_fit c = λ told before after round writes closed none is. idle_nothing BeginCompact OfCompaction before round after is.0 writes closed none

pub returns-clause-nothing : goal.returns-clause-nothing
returns-clause-nothing c = λ told before after is. nothing_done BeginCompact OfCompaction before after is.0

pub returns-clause-joined : goal.returns-clause-joined
returns-clause-joined c = blocks_joined

pub returns-clause-well : goal.returns-clause-well
returns-clause-well c = λ before after round well writes closed files is. (compaction_without_faults before round after is well writes closed files).0

pub returns-clause-kept : goal.returns-clause-kept
returns-clause-kept c = λ told before after round closed is.
    (round_closes BeginCompact OfCompaction before round after is.0 closed, round_history BeginCompact OfCompaction before round after is.0)
