-- What the compaction of a client counted, where others' calls came in between.
use Rattle.std.proofs.Common.{◌≡◌, ◌∙◌, ℕ, ◌+◌, Bool, true, List, [], ◌∷◌, ◌++◌, Option, Some, None, Ok, ap, refl, sym, subst, take, drop}
use Rattle.std.specs.Prelude.{⊤}
use Rattle.client_run.specs.Answers.{compact_reply}
use Rattle.client_scripts.specs.declared.script.Answered.{Answered}
use Rattle.compactor.specs.Rounds.{IsCompactRound, Leads, Stage, parts_of}
use Rattle.compactor.specs.Rounds.{Leads as joins, Stage as joining}
use Rattle.port_history.specs.Entries.{Entry, call_of}
use Rattle.session_text.specs.declared.reply.Reply.{Reply}
use Rattle.session_text.specs.declared.reply.Reply.TheVariants.{Compacted}
use Rattle.session_text.specs.declared.request.Request.TheVariants.{Compact}
use Rattle.session_text.specs.Items.{Item}
use Rattle.store_model.specs.Event.{Refusal as refusal, Reply as reply}
use Rattle.store_model.specs.Event.Event.{BeginCompact, CommitCompact, ReadPage, WritePiece}
use Rattle.store_model.specs.Event.Reply.{Compacting, Fine, Page}
use Rattle.store_model.specs.Step.{IsCommittedCompact, Machine, Step, if_read_only}
use Rattle.store_model.specs.Step.Step.{Sure, Succeeds, Lacks, Unread, Breaks, Halts}
use Rattle.store_model.specs.Told.{AreCounted}
use Rattle.store_state.specs.Made.{Call, call}
use Rattle.store_state.specs.Replies.{write_refusal}
use Rattle.store_state.specs.Rounds.{write_cause}
use Rattle.store_state.specs.declared.rounds.Refusal.TheVariants.{Fault, Memory, NotBlock}
use Rattle.store_state.specs.declared.rounds.Round.{Round}
use Rattle.store_state.specs.declared.rounds.Round.TheVariants.{Did, Nothing, Refused}
use Rattle.session_meaning.specs.At.{At, IsStep}
use Rattle.session_meaning.specs.ServedReplies.{CallPlace, ListsBlock, WasReplied}
use Rattle.session_meaning.specs.Serving.{Ran}
use Rattle.session_meaning.proofs.CompactLaws.{counted_last}
use Rattle.session_meaning.proofs.ServedPlaces.{is_answered, mine, place_of}

-- ---- the last call of a round

-- A round that joined blocks made these calls, the last of which is the commit.
abbrev EndsSo : List Call → Round → Type 0
EndsSo calls (Did blocks rows) = (front : List Call) × (number : ℕ) × (calls ≡ front ++ call (CommitCompact number rows) Fine ∷ [])
EndsSo calls _ = ⊤

abbrev FromOn : Stage → List Call → Round → Type 0
FromOn (joining.Ended last) calls ended = ⊤
FromOn _ calls ended = EndsSo calls ended

more : (c : Call) (calls : List Call) (ended : Round) → EndsSo calls ended → EndsSo (c ∷ calls) ended
more c calls (Did blocks rows) (front, number, is) = (c ∷ front, number, ap (λ (cs : List Call). c ∷ cs) is)
more c calls Nothing ends = tt
more c calls (Refused why) ends = tt

commits : (at : Stage) (calls : List Call) (ended : Round) → Leads at calls ended → FromOn at calls ended
commits at calls ended joins.nothing = tt
commits at calls ended (joins.no_job why) = tt
commits at calls ended (joins.begun {calls = cs} {round = r} job rest) =
    more (call BeginCompact (Compacting (parts_of job))) cs r (commits (joining.Reading job [] job.blocks 0 []) cs r rest)
commits at calls ended (joins.read {calls = cs} {round = r} job parts info infos pages bytes page some rest) =
    more (call (ReadPage job.pin info.file pages) (Page page)) cs r (commits (joining.Reading job parts (info ∷ infos) (pages + 1) (bytes ++ page)) cs r rest)
commits at calls ended (joins.unread {calls = cs} {round = r} job parts info infos pages bytes some rest) =
    more (call (ReadPage job.pin info.file pages) (reply.Refused refusal.Fault)) cs r (commits (joining.Failing job.number Fault) cs r rest)
commits at calls ended (joins.block {calls = cs} {round = r} job parts info infos pages bytes rows all is rest) =
    commits (joining.Reading job (parts ++ rows ∷ []) infos 0 []) cs r rest
commits at calls ended (joins.no_block {calls = cs} {round = r} job parts info infos pages bytes place all is rest) =
    commits (joining.Failing job.number (NotBlock info.file place)) cs r rest
commits at calls ended (joins.starved {calls = cs} {round = r} job parts infos pages bytes rest) = commits (joining.Failing job.number Memory) cs r rest
commits at calls ended (joins.built {calls = cs} {round = r} job parts pages read bytes info is rest) = commits (joining.Writing job bytes info.rows) cs r rest
commits at calls ended (joins.written {calls = cs} {round = r} job bytes size some rest) =
    more (call (WritePiece job.number job.file (take 65536 bytes)) Fine) cs r (commits (joining.Writing job (drop 65536 bytes) size) cs r rest)
commits at calls ended (joins.unwritten {calls = cs} {round = r} job bytes size why some rest) =
    more (call (WritePiece job.number job.file (take 65536 bytes)) (reply.Refused (write_refusal why))) cs r (commits (joining.Failing job.number (write_cause why)) cs r rest)
commits at calls ended (joins.listed job size) = ([], job.number, refl)
commits at calls ended (joins.unlisted job size why) = tt
commits at calls ended (joins.dropped number why) = tt
commits at calls ended (joins.over last) = tt

pub did_of : (blocks rows : ℕ) (ended : Round) → Compacted blocks rows ≡ compact_reply ended → ended ≡ Did blocks rows
did_of blocks rows (Did b r) e = cc
did_of blocks rows Nothing e = let bad : ⊥ = cc in absurd bad
did_of blocks rows (Refused why) e = let bad : ⊥ = cc in absurd bad

-- ---- a commit

not_early : (o : Option ℕ) → if_read_only o None ≡ Some Fine → ⊥
not_early None e = cc
not_early (Some n) e = cc

committed : (f g : ℕ) (m m' : Machine) (number size : ℕ) → Step f g m (CommitCompact number size) Fine m' → IsCommittedCompact number size m Fine m'
committed f g m m' number size (Sure told same) = absurd (not_early m.read_only told)
committed f g m m' number size (Succeeds none done) = done
committed f g m m' number size (Lacks none takes told same) = let bad : ⊥ = cc in absurd bad
committed f g m m' number size (Unread reads told rose same) = let bad : ⊥ = cc in absurd bad
committed f g m m' number size (Breaks none writes told rose same) = let bad : ⊥ = cc in absurd bad
committed f g m m' number size (Halts none reclaims writes told rose emptied fewer same) = let bad : ⊥ = cc in absurd bad

lists : (told : Bool) (number size : ℕ) (m m' : Machine) → (told ≡ true → AreCounted m'.state.blocks) → IsCommittedCompact number size m Fine m' → ListsBlock told m size m'
lists told number size m m' counted d = record {
  job = d.0;
  is_open = d.2;
  rows = d.1;
  of_blocks = d.4;
  counted = λ is. counted_last _ (record { file = d.0.file; level = d.0.level; size = size; rows = d.1 }) (subst (λ (x : Machine). AreCounted x.state.blocks) d.6 (counted is));
  leaves = d.6;
}

pub counted_there : (told : Bool) (first last : At) (scripts : List (List Item)) (answers : List Answered) (entries : List Entry) (client blocks rows : ℕ) (asked : List Item) (got : List Reply)
    → Ran told first scripts answers entries last → WasReplied scripts answers client asked got (Ok Compact) (Compacted blocks rows)
    → (front : List Call) × (place : CallPlace told first entries last client asked got front) × IsCompactRound (front ++ call_of place.entry ∷ []) (Did blocks rows)
    × ListsBlock told place.before.machine rows place.after.machine
counted_there told first last scripts answers entries client blocks rows asked got ran this =
    let its = mine told first last scripts answers entries client asked got (Ok Compact) (Compacted blocks rows) ran this in
    let is = is_answered told first last scripts answers entries client asked got (Ok Compact) (Compacted blocks rows) ran this in
    let leads : IsCompactRound its (Did blocks rows) = subst (λ (r : Round). IsCompactRound its r) (did_of blocks rows is.0 is.1) is.2 in
    let ends = commits joining.Fresh its (Did blocks rows) leads in
    let c : Call = call (CommitCompact ends.1 rows) Fine in
    let place = place_of told first last scripts answers entries client asked got (Ok Compact) (Compacted blocks rows) ran this ends.0 [] c ends.2 in
    let step : IsStep place.0.before (CommitCompact ends.1 rows) Fine place.0.after =
    subst (λ (x : Call). IsStep place.0.before x.event x.reply place.0.after) place.1 place.0.made.step in (
      ends.0,
      place.0,
      subst (λ (cs : List Call). IsCompactRound cs (Did blocks rows)) (ends.2 ∙ ap (λ (x : Call). ends.0 ++ x ∷ []) (sym place.1)) leads,
      lists told ends.1 rows place.0.before.machine place.0.after.machine place.0.made.counted
          (committed place.0.before.faults place.0.after.faults place.0.before.machine place.0.after.machine ends.1 rows step.1),
    )
