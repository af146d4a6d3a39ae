-- How an ingest ends, and what stands written then.
use Rattle.std.proofs.Common.{◌≡◌, ◌⊎◌, inl, inr, ◌∙◌, ℕ, ◌<◌, Bool, true, false, List, [], ◌∷◌, ◌++◌, Option, Some, None, length, refl, sym, ap, subst, append_assoc, append-nil, if◌then◌else◌}
use Rattle.std.specs.List.{list_any}
use Rattle.disk_model.specs.declared.disk.Device.{Ghosts}
use Rattle.io_edges.specs.Lines.{lines, taken_limit}
use Rattle.session_text.specs.declared.reply.Reply.{Reply}
use Rattle.session_text.specs.Items.{Item}
use Rattle.store_core.specs.Port.{port_of}
use Rattle.store_core.specs.declared.store.Core.{Core}
use Rattle.session_meaning.specs.declared.ending.Ending.{Ending}
use Rattle.session_meaning.specs.declared.ending.Ending.TheVariants.{Answered, BadWords, NotOpened, NotStore, ReadFault, Refused, Spent, Starved, WriteFault}
use Rattle.session_meaning.specs.Duties.{Duty, at_the_end, duties, from_lines, keep_small}
use Rattle.session_meaning.specs.Progress.{HasAnsweredOver, FollowsOver}
use Rattle.session_meaning.specs.Duties.{IsLeft}
use Rattle.session_meaning.proofs.SessionLaws.{over_then}
use Rattle.session_meaning.specs.Session.{Ends, IsCutOff, is_for_memory, is_refusal, reply_texts}
use Rattle.trace_shell.specs.Ingesting.{HasAsked, HasReadTo, HaveGiven, IsReadTo, IsStopped, Leaves, ended_by}
use Rattle.trace_shell.specs.Turn.{CameByLines, HasGiven, tally_with}
use Rattle.trace_shell.specs.declared.session.Tally.{Tally}
use Rattle.trace_shell.proofs.AloneLemmas.{empty_tally}
use Rattle.trace_shell.proofs.IngestLemmas.{asked_so, asked_then, leaves_so, leaves_then}
use Rattle.trace_shell.proofs.IngestReads.{is_stopped}
use Rattle.trace_shell.proofs.TurnLemmas.{appended, cut_off, ends_all_read, same_ending, seen_of}

-- ---- what stands written

-- These replies stand written after `before`, as far as that went.
abbrev Stands : List ℕ → List Reply → Option (List ℕ) → Tally → Option Ending → Type 0
Stands before replies taken tally None =
    (taken ≡ Some (before ++ reply_texts replies)) × (tally.refused ≡ list_any is_refusal replies) × (tally.starved ≡ list_any is_for_memory replies)
Stands before replies taken tally (Some Starved) = IsCutOff before replies taken 0
Stands before replies taken tally (Some WriteFault) = (count : ℕ) × IsCutOff before replies taken count
Stands before replies taken tally (Some _) = ⊥

stands_one : (before : List ℕ) (done : List Reply) (reply : Reply) (old new : Option (List ℕ)) (tally_old tally_new : Tally) (stopped : Option Ending) → Stands before done old tally_old None
    → HasGiven old new tally_old tally_new reply stopped → Stands before (done ++ reply ∷ []) new tally_new stopped
stands_one before done reply old new tally_old tally_new None (written, refused, starved) given = (
  appended before done reply old new written given.0,
  ap (λ (s : Tally). s.refused) given.1 ∙ seen_of is_refusal tally_old.refused done reply (tally_with tally_old reply).refused refused refl,
  ap (λ (s : Tally). s.starved) given.1 ∙ seen_of is_for_memory tally_old.starved done reply (tally_with tally_old reply).starved starved refl,
)
stands_one before done reply old new tally_old tally_new (Some Starved) (written, refused, starved) given = record {
  whole = done;
  last = reply;
  replies_are = refl;
  taken_is = given ∙ written ∙ ap Some (sym (append-nil (before ++ reply_texts done)));
}
stands_one before done reply old new tally_old tally_new (Some WriteFault) (written, refused, starved) given = (given.0, cut_off before done reply old new given.0 written given.1)
stands_one before done reply old new tally_old tally_new (Some Answered) stands given = absurd given
stands_one before done reply old new tally_old tally_new (Some BadWords) stands given = absurd given
stands_one before done reply old new tally_old tally_new (Some ReadFault) stands given = absurd given
stands_one before done reply old new tally_old tally_new (Some Refused) stands given = absurd given
stands_one before done reply old new tally_old tally_new (Some Spent) stands given = absurd given
stands_one before done reply old new tally_old tally_new (Some NotOpened) stands given = absurd given
stands_one before done reply old new tally_old tally_new (Some (NotStore file at)) stands given = absurd given

stands_all : (before : List ℕ) (done replies : List Reply) (old new : Option (List ℕ)) (tally_old tally_new : Tally) (stopped : Option Ending) → Stands before done old tally_old None
    → HaveGiven old new tally_old tally_new replies stopped → Stands before (done ++ replies) new tally_new stopped
stands_all before done [] old new tally_old tally_new stopped stands (same, tally, none) =
    subst (λ (rs : List Reply). Stands before rs new tally_new stopped) (sym (append-nil done))
    (subst (λ (o : Option Ending). Stands before done new tally_new o) (sym none)
    (subst (λ (t : Tally). Stands before done new t None) (sym tally) (subst (λ (o : Option (List ℕ)). Stands before done o tally_old None) (sym same) stands)))
stands_all before done (r ∷ rs) old new tally_old tally_new stopped stands (inl (given, empty)) =
    subst (λ (qs : List Reply). Stands before (done ++ r ∷ qs) new tally_new stopped) (sym empty) (stands_one before done r old new tally_old tally_new stopped stands given)
stands_all before done (r ∷ rs) old new tally_old tally_new stopped stands (inr (between, tally, given, rest)) =
    subst (λ (qs : List Reply). Stands before qs new tally_new stopped) (append_assoc done (r ∷ []) rs)
    (stands_all before (done ++ r ∷ []) rs between new tally tally_new stopped (stands_one before done r old between tally_old tally None stands given) rest)

-- Where none stood before them.
stands_by : (before : List ℕ) (replies : List Reply) (old new : Option (List ℕ)) (tally : Tally) (stopped : Option Ending) → old ≡ Some before
    → HaveGiven old new empty_tally tally replies stopped → Stands before replies new tally stopped
stands_by before replies old new tally stopped is given =
    stands_all before [] replies old new empty_tally tally stopped (is ∙ ap Some (sym (append-nil before)), refl, refl) given

-- ---- before all was pushed

ends_early : (e : Ending) (stopped : Option Ending) (text : List ℕ) (later : List (List ℕ)) (left : Option (List ℕ)) (before : List ℕ) (replies : List Reply) (taken : Option (List ℕ)) (tally : Tally)
    → IsStopped (Some e) stopped → Stands before replies taken tally stopped → IsReadTo (Some e) text later left → Ends e text later left before replies taken
ends_early WriteFault stopped text later left before replies taken tally stops stands read = subst (λ (o : Option Ending). Stands before replies taken tally o) stops stands
ends_early Starved stopped text later left before replies taken tally (inl stops) stands read = inr (inr (subst (λ (o : Option Ending). Stands before replies taken tally o) stops stands))
ends_early Starved stopped text later left before replies taken tally (inr stops) stands read =
    let written : Stands before replies taken tally None = subst (λ (o : Option Ending). Stands before replies taken tally o) stops stands in inr (inl written.0)
ends_early ReadFault stopped text later left before replies taken tally stops stands read =
    let written : Stands before replies taken tally None = subst (λ (o : Option Ending). Stands before replies taken tally o) stops stands in (written.0, read)
ends_early Spent stopped text later left before replies taken tally stops stands read =
    let written : Stands before replies taken tally None = subst (λ (o : Option Ending). Stands before replies taken tally o) stops stands in (written.0, read.0, read.1)
ends_early Answered stopped text later left before replies taken tally stops stands read = absurd stops
ends_early BadWords stopped text later left before replies taken tally stops stands read = absurd stops
ends_early Refused stopped text later left before replies taken tally stops stands read = absurd stops
ends_early NotOpened stopped text later left before replies taken tally stops stands read = absurd stops
ends_early (NotStore file at) stopped text later left before replies taken tally stops stands read = absurd stops

left_early : (e : Ending) (stopped : Option Ending) (later : List (List ℕ)) (left : List Duty) → IsStopped (Some e) stopped → (stopped ≡ None → left ≡ from_lines later) → IsLeft e later left
left_early WriteFault stopped later left stops all = tt
left_early Starved stopped later left stops all = tt
left_early ReadFault stopped later left stops all = all stops
left_early Spent stopped later left stops all = all stops
left_early Answered stopped later left stops all = absurd stops
left_early BadWords stopped later left stops all = absurd stops
left_early Refused stopped later left stops all = absurd stops
left_early NotOpened stopped later left stops all = absurd stops
left_early (NotStore file at) stopped later left stops all = absurd stops

-- ---- after all was pushed

left_last : (stopped : Option Ending) (tally : Tally) (before : List ℕ) (replies : List Reply) (taken : Option (List ℕ)) (left : List Duty) → Stands before replies taken tally stopped
    → (stopped ≡ None → left ≡ []) → IsLeft (ended_by stopped tally) [] left
left_last None tally before replies taken left stands all = go tally.refused tally.starved
  where
    go : (a b : Bool) → IsLeft (if a then Refused else if b then Starved else Answered) [] left
    go true b = all refl
    go false true = tt
    go false false = all refl
left_last (Some WriteFault) tally before replies taken left stands all = tt
left_last (Some Starved) tally before replies taken left stands all = tt
left_last (Some ReadFault) tally before replies taken left stands all = absurd stands
left_last (Some Spent) tally before replies taken left stands all = absurd stands
left_last (Some Answered) tally before replies taken left stands all = absurd stands
left_last (Some BadWords) tally before replies taken left stands all = absurd stands
left_last (Some Refused) tally before replies taken left stands all = absurd stands
left_last (Some NotOpened) tally before replies taken left stands all = absurd stands
left_last (Some (NotStore file at)) tally before replies taken left stands all = absurd stands

ends_last : (stopped : Option Ending) (text : List ℕ) (left : Option (List ℕ)) (before : List ℕ) (replies : List Reply) (taken : Option (List ℕ)) (tally : Tally)
    → Stands before replies taken tally stopped → length text < taken_limit → Ends (ended_by stopped tally) text [] left before replies taken
ends_last None text left before replies taken tally stands fewer =
    subst (λ (e : Ending). Ends e text [] left before replies taken) (sym (same_ending tally replies stands.1 stands.2))
    (ends_all_read text [] left before replies taken (refl, fewer, stands.0))
ends_last (Some WriteFault) text left before replies taken tally stands fewer = stands
ends_last (Some Starved) text left before replies taken tally stands fewer = inr (inr stands)
ends_last (Some ReadFault) text left before replies taken tally stands fewer = absurd stands
ends_last (Some Spent) text left before replies taken tally stands fewer = absurd stands
ends_last (Some Answered) text left before replies taken tally stands fewer = absurd stands
ends_last (Some BadWords) text left before replies taken tally stands fewer = absurd stands
ends_last (Some Refused) text left before replies taken tally stands fewer = absurd stands
ends_last (Some NotOpened) text left before replies taken tally stands fewer = absurd stands
ends_last (Some (NotStore file at)) text left before replies taken tally stands fewer = absurd stands

-- ---- what an ingest came to

module _ {D : Type 0} (g : Ghosts D) (start core : Core D) (told to_tell : Option (List ℕ)) (text before : List ℕ) (left old new : Option (List ℕ)) (tally : Tally)
    (items : List Item) (replies : List Reply) (stopped : Option Ending) (old_is : old ≡ Some before)
    (asked : HasAsked g start core old new empty_tally tally items replies stopped) where
  abbrev Came : Ending → Type 0
  Came e = CameByLines (λ todo rest. FollowsOver g todo told start items replies core rest to_tell) text before left new e replies

  stands : Stands before replies new tally stopped
  stands = stands_by before replies old new tally stopped old_is asked.given

  -- The lines that were pushed, and those that are left, are those of the text.
  of_text : (pushed later : List (List ℕ)) (todo : List Duty) → lines text ≡ pushed ++ later → FollowsOver g (duties (pushed ++ later)) told start items replies core todo to_tell
      → FollowsOver g (duties (lines text)) told start items replies core todo to_tell
  of_text pushed later todo lines_are over =
      subst (λ (ls : List (List ℕ)). FollowsOver g (duties ls) told start items replies core todo to_tell) (sym lines_are) over

  came_early : (e : Ending) (pushed later : List (List ℕ)) → IsStopped (Some e) stopped → Leaves g start core (duties (pushed ++ later)) (from_lines later) told to_tell items replies stopped
      → lines text ≡ pushed ++ later → IsReadTo (Some e) text later left → Came e
  came_early e pushed later stops leaves lines_are read = record {
    pushed = pushed;
    later = later;
    lines_are = lines_are;
    todo = leaves.left;
    asked = of_text pushed later leaves.left lines_are leaves.each;
    is_left = left_early e stopped later leaves.left stops leaves.all;
    ends = ends_early e stopped text later left before replies new tally stops stands read;
  }

  came_last : (e : Ending) (pushed later : List (List ℕ)) → e ≡ ended_by stopped tally → Leaves g start core (duties (pushed ++ [])) [] told to_tell items replies stopped
      → lines text ≡ pushed ++ later → (later ≡ []) × (length text < taken_limit) → Came e
  came_last e pushed later is leaves lines_are (none, fewer) =
      let all : lines text ≡ pushed ++ [] = lines_are ∙ ap (λ ls. pushed ++ ls) none in
      subst Came (sym is) (record {
        pushed = pushed;
        later = [];
        lines_are = all;
        todo = leaves.left;
        asked = of_text pushed [] leaves.left all leaves.each;
        is_left = left_last stopped tally before replies new leaves.left stands leaves.all;
        ends = ends_last stopped text left before replies new tally stands fewer;
      })

-- ---- the three ways in which it ends

module _ {D : Type 0} (g : Ghosts D) where
  -- What an ingest asked, and what it came to where the source and the sink tell their bytes.
  abbrev Ran : (start core : Core D) (told to_tell source left old new : Option (List ℕ)) (e : Ending) → Type 0
  Ran start core told to_tell source left old new e =
      (items : List Item) × (replies : List Reply) × HasAnsweredOver (port_of g) start items replies core
      × ((text before : List ℕ) → source ≡ Some text → old ≡ Some before
      → CameByLines (λ todo rest. FollowsOver g todo told start items replies core rest to_tell) text before left new e replies)

  -- The store was kept small, before any line.
  abbrev Kept : (start core : Core D) (old new : Option (List ℕ)) (tally_old tally : Tally) (o : Option Ending) → Type 0
  Kept start core old new tally_old tally o =
      (items : List Item) × (replies : List Reply) × HasAsked g start core old new tally_old tally items replies o
      × ((later : List (List ℕ)) (told : Option (List ℕ)) → Leaves g start core (keep_small ∷ from_lines later) (from_lines later) told told items replies o)

  -- The lines were pushed, as far as that went.
  abbrev Pushed : (start core : Core D) (old new : Option (List ℕ)) (tally_old tally : Tally) (told to_tell source left : Option (List ℕ)) (o : Option Ending) → Type 0
  Pushed start core old new tally_old tally told to_tell source left o =
      (items : List Item) × (replies : List Reply) × (stopped : Option Ending) × HasAsked g start core old new tally_old tally items replies stopped × IsStopped o stopped
      × ((text : List ℕ) → source ≡ Some text → (pushed : List (List ℕ))
      × ((later : List (List ℕ)) → Leaves g start core (from_lines (pushed ++ later)) (from_lines later) told to_tell items replies stopped)
      × HasReadTo o text pushed left)

  -- The end was done.
  abbrev Finished : (start core : Core D) (old new : Option (List ℕ)) (tally_old tally : Tally) (e : Ending) → Type 0
  Finished start core old new tally_old tally e =
      (items : List Item) × (replies : List Reply) × (stopped : Option Ending) × HasAsked g start core old new tally_old tally items replies stopped
      × (e ≡ ended_by stopped tally) × ((told : Option (List ℕ)) → Leaves g start core at_the_end [] told told items replies stopped)

  from_none : (start core : Core D) (old new : Option (List ℕ)) (zero tally : Tally) (items : List Item) (replies : List Reply) (stopped : Option Ending) → zero ≡ empty_tally
      → HasAsked g start core old new zero tally items replies stopped → HasAsked g start core old new empty_tally tally items replies stopped
  from_none start core old new zero tally items replies stopped none asked = subst (λ (t : Tally). HasAsked g start core old new t tally items replies stopped) none asked

  pub ran_first : (start core : Core D) (told source left old new : Option (List ℕ)) (zero tally : Tally) (o : Option Ending) (e : Ending) → zero ≡ empty_tally → o ≡ Some e → (e ≡ WriteFault) ⊎ (e ≡ Starved)
      → Kept start core old new zero tally o → Ran start core told told source left old new e
  ran_first start core told source left old new zero tally o e none is ends (items, replies, asked, leaves) = (
    items,
    replies,
    asked.answered,
    λ text before source_is old_is.
        came_early g start core told told text before left old new tally items replies (Some e) old_is (from_none start core old new zero tally items replies (Some e) none (asked_so g start core old new zero tally items replies o (Some e) is asked))
        e [] (lines text) (is_stopped (Some e) ends) (leaves_so g start core (duties (lines text)) (from_lines (lines text)) told told items replies o (Some e) is (leaves (lines text) told)) refl
        (reads_none e text left ends),
  )
    where
      reads_none : (e : Ending) (text : List ℕ) (left : Option (List ℕ)) → (e ≡ WriteFault) ⊎ (e ≡ Starved) → IsReadTo (Some e) text (lines text) left
      reads_none e text left (inl same) = subst (λ (x : Ending). IsReadTo (Some x) text (lines text) left) (sym same) tt
      reads_none e text left (inr same) = subst (λ (x : Ending). IsReadTo (Some x) text (lines text) left) (sym same) tt

  pub ran_early : (start middle core : Core D) (told to_tell source left old between new : Option (List ℕ)) (zero tally_first tally : Tally) (o p : Option Ending) (e : Ending) → zero ≡ empty_tally → o ≡ None → p ≡ Some e
      → Kept start middle old between zero tally_first o → Pushed middle core between new tally_first tally told to_tell source left p → Ran start core told to_tell source left old new e
  ran_early start middle core told to_tell source left old between new zero tally_first tally o p e none on is (xs, rs, one, keeps) (ys, ss, stopped, two, ends, reads) = (
    xs ++ ys,
    rs ++ ss,
    over_then (port_of g) start middle core xs ys rs ss one.answered two.answered,
    λ text before source_is old_is.
        let read = reads text source_is in
        let to : HasReadTo (Some e) text read.0 left = subst (λ (q : Option Ending). HasReadTo q text read.0 left) is read.2 in
        came_early g start core told to_tell text before left old new tally (xs ++ ys) (rs ++ ss) stopped old_is
        (from_none start core old new zero tally (xs ++ ys) (rs ++ ss) stopped none (asked_then g start middle core old between new zero tally_first tally xs ys rs ss o stopped on one two))
        e read.0 to.0 (subst (λ (q : Option Ending). IsStopped q stopped) is ends)
        (leaves_then g start middle core (duties (read.0 ++ to.0)) (from_lines (read.0 ++ to.0)) (from_lines to.0) told told to_tell xs ys rs ss o stopped on (keeps (read.0 ++ to.0) told) (read.1 to.0))
        to.1 to.2,
  )

  pub ran_last : (start middle end core : Core D) (told to_tell source left old between written new : Option (List ℕ)) (zero tally_first tally_then tally : Tally) (o p : Option Ending) (e : Ending) → zero ≡ empty_tally → o ≡ None → p ≡ None
      → Kept start middle old between zero tally_first o → Pushed middle end between written tally_first tally_then told to_tell source left p → Finished end core written new tally_then tally e
      → Ran start core told to_tell source left old new e
  ran_last start middle end core told to_tell source left old between written new zero tally_first tally_then tally o p e empty on none (xs, rs, one, keeps) (ys, ss, stopped, two, ends, reads) (zs, ts, last, three, is, does) =
      let more : stopped ≡ None = subst (λ (q : Option Ending). IsStopped q stopped) none ends in
      let rest : HasAsked g middle core between new tally_first tally (ys ++ zs) (ss ++ ts) last =
      asked_then g middle end core between written new tally_first tally_then tally ys zs ss ts stopped last more two three in (
        xs ++ (ys ++ zs),
        rs ++ (ss ++ ts),
        over_then (port_of g) start middle core xs (ys ++ zs) rs (ss ++ ts) one.answered rest.answered,
        λ text before source_is old_is.
            let read = reads text source_is in
            let to : HasReadTo None text read.0 left = subst (λ (q : Option Ending). HasReadTo q text read.0 left) none read.2 in
            came_last g start core told to_tell text before left old new tally (xs ++ (ys ++ zs)) (rs ++ (ss ++ ts)) last old_is
            (from_none start core old new zero tally (xs ++ (ys ++ zs)) (rs ++ (ss ++ ts)) last empty (asked_then g start middle core old between new zero tally_first tally xs (ys ++ zs) rs (ss ++ ts) o last on one rest))
            e read.0 to.0 is
            (leaves_then g start middle core (duties (read.0 ++ [])) (from_lines (read.0 ++ [])) [] told told to_tell xs (ys ++ zs) rs (ss ++ ts) o last on (keeps (read.0 ++ []) told)
            (leaves_then g middle end core (from_lines (read.0 ++ [])) at_the_end [] told to_tell to_tell ys zs ss ts stopped last more (read.1 []) (does to_tell)))
            to.1 to.2,
      )
