use Rattle.store_model.specs.Event.Event.{BeginFlush}
use Rattle.session_meaning.proofs.FlushLaws.{flush_caused, flush_listed, flush_without_faults}
use Rattle.session_meaning.proofs.RoundLaws.{idle_nothing, nothing_done, round_closes, round_history}
use Rattle.session_meaning.proofs.RoundSteps.IsBegin.{OfFlush}
use Rattle.session_meaning.proofs.Rounds.{flush_does}
use Rattle.session_meaning.proofs.laws.flushes_have_their_causes.Goals as goal

pub returns-clause-by_calls : goal.returns-clause-by_calls
returns-clause-by_calls c = flush_does

pub returns-clause-refused : goal.returns-clause-refused
returns-clause-refused c = λ before after why closed is. flush_caused before after why is closed

pub returns-clause-empty : goal.returns-clause-empty
returns-clause-empty c = λ before after round writes closed none is. idle_nothing BeginFlush OfFlush before round after is writes closed none

pub returns-clause-nothing : goal.returns-clause-nothing
returns-clause-nothing c = nothing_done BeginFlush OfFlush

pub returns-clause-listed : goal.returns-clause-listed
returns-clause-listed c = flush_listed

pub returns-clause-well : goal.returns-clause-well
returns-clause-well c = λ before after round well writes closed files is. (flush_without_faults before round after is well writes closed files).0

pub returns-clause-kept : goal.returns-clause-kept
returns-clause-kept c = λ before after round closed is.
    (round_closes BeginFlush OfFlush before round after is closed, round_history BeginFlush OfFlush before round after is)
