-- A list of events writes each piece to the file of a job that is open then.
use Rattle.std.proofs.Common.{◌≡◌, ℕ, List, [], ◌∷◌, ◌++◌, Bool, true, false, Option, None, Some, Result, Ok, Err, refl, sym, subst}
use Rattle.compactor.specs.Rounds.{Leads as CompactLeads, Stage as CompactStage}
use Rattle.compactor.specs.Rounds.{Stage as joining}
use Rattle.flusher.specs.Rounds.{Leads as FlushLeads, Stage as FlushStage}
use Rattle.flusher.specs.Rounds.{Stage as flushing}
use Rattle.store_model.specs.Holds.{Hold, ends, files_of, holds_after}
use Rattle.store_model.specs.State.{is_among}
use Rattle.store_state.specs.Made.{Call}
use Rattle.store_state.specs.declared.rounds.Round.{Round}
use Rattle.client_run.specs.Calls.{Looks, after_calls, look_at}
use Rattle.client_run.specs.declared.event.Event.{Event}
use Rattle.client_run.specs.declared.event.Event.TheVariants.{Push, Cut, CutAll, FlushStep, CompactStep, Look, Page, Done, Reclaim}
use Rattle.client_run.specs.declared.event.EventReply.{EventReply}
use Rattle.client_run.specs.EventRuns.{AreEventsAnswered, IsAnswered, IsEndAnswered, IsEventAnswered, IsLookAnswered, IsPageAnswered, IsPageOf, Stages, compaction_end, flush_end, no_step, pin_of}
use Rattle.client_run.specs.declared.event.Seen.{Seen}
use Rattle.span_types.specs.declared.errors.Memory.{Memory}
use Rattle.look_laws.specs.LookRuns.{AreOwnPieces}
use Rattle.look_laws.proofs.Calls.{open_after_calls}
use Rattle.look_laws.proofs.JobCalls.{IsCompactHold, IsFlushHold, LeavesCompactions, LeavesFlushes, compact_leads, compact_shape, flush_leads, flush_shape, own_compaction, own_flush}
use Rattle.look_laws.proofs.Pieces.{Along, IsIn, Phase, WritesNone, next, still_in}
use Rattle.look_laws.proofs.Pieces.Phase.{Before}

-- ---- calls that are no steps

-- a call that writes no piece and ends no job
record IsPlain (c : Call) : Type 0 where
  writes : WritesNone c.event
  flushes : LeavesFlushes c
  compactions : LeavesCompactions c

-- no call, or one such call
data AreAside (calls : List Call) : Type 0 where
  Nothing : calls ≡ [] → AreAside calls
  OneCall : (c : Call) → IsPlain c → calls ≡ c ∷ [] → AreAside calls

taking_aside : (answer : Result Seen Memory) (calls : List Call) → IsLookAnswered answer calls → AreAside calls
taking_aside (Ok seen) calls h = OneCall _ (record { writes = λ n f bytes e. cc; flushes = λ job. refl; compactions = λ job. refl }) h.3
taking_aside (Err e) calls h = OneCall _ (record { writes = λ n f bytes e. cc; flushes = λ job. refl; compactions = λ job. refl }) h

ending_aside : (o : Option Hold) (r : EventReply) (calls : List Call) → IsEndAnswered o r calls → AreAside calls
ending_aside None r calls h = Nothing h.1
ending_aside (Some look) r calls h = OneCall _ (record { writes = λ n f bytes e. cc; flushes = λ job. refl; compactions = λ job. refl }) h.1

page_aside : (t : Bool) (pin block page : ℕ) (r : EventReply) (calls : List Call) → IsPageOf t pin block page r calls → AreAside calls
page_aside false pin block page r calls h = Nothing h.1
page_aside true pin block page r calls h = OneCall _ (record { writes = λ n f bytes e. cc; flushes = λ job. refl; compactions = λ job. refl }) h.2

reading_aside : (o : Option Hold) (block page : ℕ) (r : EventReply) (calls : List Call) → IsPageAnswered o block page r calls → AreAside calls
reading_aside None block page r calls h = Nothing h.1
reading_aside (Some look) block page r calls h = page_aside (is_among block (files_of look)) (pin_of look) block page r calls h

aside : (looks : Looks) (e : Event) (r : EventReply) (calls : List Call) → IsAnswered looks e r calls → AreAside calls
aside looks (Push batch moment) r calls h = OneCall _ (record { writes = λ n f bytes e. cc; flushes = λ job. refl; compactions = λ job. refl }) h.2
aside looks (Cut moment) r calls h = OneCall _ (record { writes = λ n f bytes e. cc; flushes = λ job. refl; compactions = λ job. refl }) h.2
aside looks CutAll r calls h = OneCall _ (record { writes = λ n f bytes e. cc; flushes = λ job. refl; compactions = λ job. refl }) h.2
aside looks FlushStep r calls h = absurd h
aside looks CompactStep r calls h = absurd h
aside looks Look r calls h = taking_aside h.0 calls h.2
aside looks (Page number block page) r calls h = reading_aside (look_at number looks) block page r calls h
aside looks (Done number) r calls h = ending_aside (look_at number looks) r calls h
aside looks Reclaim r calls h = OneCall _ (record { writes = λ n f bytes e. cc; flushes = λ job. refl; compactions = λ job. refl }) h.2

-- ---- where the rounds are

-- how far the two rounds are, and the jobs that are open then
record Stand (held : List Hold) (stages : Stages) : Type 0 where
  flush : Phase
  compaction : Phase
  flush_in : IsIn IsFlushHold held flush
  compaction_in : IsIn IsCompactHold held compaction
  flush_along : (calls : List Call) (r : Round) → FlushLeads stages.flush calls r → Along LeavesCompactions IsFlushHold flush calls
  compaction_along : (calls : List Call) (r : Round) → CompactLeads stages.compaction calls r → Along LeavesFlushes IsCompactHold compaction calls

at_first : (held : List Hold) → Stand held no_step
at_first held = record {
  flush = Before;
  compaction = Before;
  flush_in = tt;
  compaction_in = tt;
  flush_along = flush_shape;
  compaction_along = compact_shape;
}

flush_hold_stays : (c : Call) → LeavesFlushes c → (n f : ℕ) (hold : Hold) → IsFlushHold n f hold → ends c.event c.reply hold ≡ false
flush_hold_stays c leaves n f hold (job, number, file, is) = subst (λ (h : Hold). ends c.event c.reply h ≡ false) (sym is) (leaves job)

compact_hold_stays : (c : Call) → LeavesCompactions c → (n f : ℕ) (hold : Hold) → IsCompactHold n f hold → ends c.event c.reply hold ≡ false
compact_hold_stays c leaves n f hold (job, number, file, is) = subst (λ (h : Hold). ends c.event c.reply h ≡ false) (sym is) (leaves job)

-- what events do: their pieces are own ones, and so the rounds stand then
record Went (held : List Hold) (now : List Call) (stages : Stages) : Type 0 where
  pieces : AreOwnPieces held now
  stand : Stand (open_after_calls held now) stages

one_went : (held : List Hold) (c : Call) (now : List Call) (stages : Stages) → now ≡ c ∷ [] → AreOwnPieces held (c ∷ []) → Stand (holds_after c.event c.reply held) stages → Went held now stages
one_went held c now stages is pieces stand = subst (λ (calls : List Call). Went held calls stages) (sym is) (record { pieces = pieces; stand = stand })

went_aside : (held : List Hold) (now : List Call) (before after : Stages) → AreAside now → after ≡ before → Stand held before → Went held now after
went_aside held now before after (Nothing none) same stand =
    subst (λ (s : Stages). Went held now s) (sym same) (subst (λ (calls : List Call). Went held calls before) (sym none) (record { pieces = tt; stand = stand }))
went_aside held now before after (OneCall c plain is) same stand =
    subst (λ (s : Stages). Went held now s) (sym same)
    (one_went held c now before is ((λ n f bytes e. absurd (plain.writes n f bytes e)), tt)
    (record {
      flush = stand.flush;
      compaction = stand.compaction;
      flush_in = still_in IsFlushHold held stand.flush c (flush_hold_stays c plain.flushes) stand.flush_in;
      compaction_in = still_in IsCompactHold held stand.compaction c (compact_hold_stays c plain.compactions) stand.compaction_in;
      flush_along = stand.flush_along;
      compaction_along = stand.compaction_along;
    }))

went : (looks : Looks) (e : Event) (r : EventReply) (now : List Call) (before after : Stages) (held : List Hold) → IsEventAnswered looks before e r now after → Stand held before → Went held now after
went looks FlushStep r now before after held h stand =
    let s = h.0 in
    let n = next LeavesCompactions IsFlushHold own_flush FlushLeads flush_end flushing.Fresh flush_shape flush_leads held stand.flush stand.flush_in before.flush s.1 after.flush stand.flush_along s.0 s.3 s.5 in
    one_went held s.0 now after s.2 (n.piece, tt)
    (record {
      flush = n.phase;
      compaction = stand.compaction;
      flush_in = n.is_in;
      compaction_in = still_in IsCompactHold held stand.compaction s.0 (compact_hold_stays s.0 n.leaves) stand.compaction_in;
      flush_along = n.along;
      compaction_along = λ calls q l. stand.compaction_along calls q (subst (λ (x : CompactStage). CompactLeads x calls q) h.1 l);
    })
went looks CompactStep r now before after held h stand =
    let s = h.0 in
    let n = next LeavesFlushes IsCompactHold own_compaction CompactLeads compaction_end joining.Fresh compact_shape compact_leads held stand.compaction stand.compaction_in before.compaction s.1 after.compaction stand.compaction_along s.0 s.3 s.5 in
    one_went held s.0 now after s.2 (n.piece, tt)
    (record {
      flush = stand.flush;
      compaction = n.phase;
      flush_in = still_in IsFlushHold held stand.flush s.0 (flush_hold_stays s.0 n.leaves) stand.flush_in;
      compaction_in = n.is_in;
      flush_along = λ calls q l. stand.flush_along calls q (subst (λ (x : FlushStage). FlushLeads x calls q) h.1 l);
      compaction_along = n.along;
    })
went looks (Push batch moment) r now before after held h stand = went_aside held now before after (aside looks (Push batch moment) r now h.0) h.1 stand
went looks (Cut moment) r now before after held h stand = went_aside held now before after (aside looks (Cut moment) r now h.0) h.1 stand
went looks CutAll r now before after held h stand = went_aside held now before after (aside looks CutAll r now h.0) h.1 stand
went looks Look r now before after held h stand = went_aside held now before after (aside looks Look r now h.0) h.1 stand
went looks (Page number block page) r now before after held h stand = went_aside held now before after (aside looks (Page number block page) r now h.0) h.1 stand
went looks (Done number) r now before after held h stand = went_aside held now before after (aside looks (Done number) r now h.0) h.1 stand
went looks Reclaim r now before after held h stand = went_aside held now before after (aside looks Reclaim r now h.0) h.1 stand

-- ---- lists of events

own_both : (held : List Hold) (front back : List Call) → AreOwnPieces held front → AreOwnPieces (open_after_calls held front) back → AreOwnPieces held (front ++ back)
own_both held [] back first rest = rest
own_both held (c ∷ cs) back first rest = (first.0, own_both (holds_after c.event c.reply held) cs back first.1 rest)

all_own : (looks : Looks) (before last : Stages) (events : List Event) (replies : List EventReply) (calls : List Call) (held : List Hold) → AreEventsAnswered looks before events replies calls last
    → Stand held before → AreOwnPieces held calls
all_own looks before last [] replies calls held h stand = subst (λ (cs : List Call). AreOwnPieces held cs) (sym h.1) tt
all_own looks before last (e ∷ es) [] calls held h stand = absurd h
all_own looks before last (e ∷ es) (r ∷ rs) calls held h stand =
    let w = went looks e r h.0 before h.2 held h.4 stand in
    let rest = all_own (after_calls h.0 looks) h.2 last es rs h.1 (open_after_calls held h.0) h.5 w.stand in
    subst (λ (cs : List Call). AreOwnPieces held cs) (sym h.3) (own_both held h.0 h.1 w.pieces rest)

pub own_pieces : (events : List Event) (replies : List EventReply) (calls : List Call) (last : Stages) (held : List Hold) → AreEventsAnswered [] no_step events replies calls last → AreOwnPieces held calls
own_pieces events replies calls last held h = all_own [] no_step last events replies calls held h (at_first held)
