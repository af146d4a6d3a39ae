-- What an ingest read of its source, turn by turn.
use Rattle.std.proofs.Common.{◌≡◌, ◌⊎◌, inl, inr, ◌∙◌, ℕ, ◌<◌, ◌≤◌, List, [], ◌∷◌, ◌++◌, Option, Some, None, length, refl, sym, ap, subst, append_assoc, append-nil}
use Rattle.std.specs.Prelude.{IfSome}
use Rattle.std.specs.Io.KnownBytes.{Consumes}
use Rattle.disk_model.specs.declared.disk.Device.{Ghosts}
use Rattle.io_edges.specs.Lines.{lines, taken_limit}
use Rattle.io_edges.specs.Reader.{HoldsNoFeed, IsNextLine, IsToRead, Reader, TakesBytes}
use Rattle.session_text.specs.declared.reply.Reply.{Reply}
use Rattle.session_text.specs.Items.{Item}
use Rattle.store_core.specs.declared.store.Core.{Core}
use Rattle.session_meaning.specs.declared.ending.Ending.{Ending}
use Rattle.session_meaning.specs.declared.ending.Ending.TheVariants.{ReadFault, Spent, Starved, WriteFault}
use Rattle.session_meaning.specs.Duties.{from_lines}
use Rattle.line_windows.specs.Windows.{AreNextLines, IsOf}
use Rattle.line_windows.specs.declared.line.WindowLine.{WindowLine}
use Rattle.trace_shell.specs.Ingesting.{HasAsked, HasPushed, HasReadTo, IsReadingAt, IsStopped, Leaves, ReadOn, ending_in, turn_of}
use Rattle.trace_shell.specs.declared.ingesting.After.{After}
use Rattle.trace_shell.specs.declared.ingesting.After.TheVariants as after
use Rattle.trace_shell.specs.declared.session.Tally.{Tally}
use Rattle.trace_shell.proofs.IngestLemmas.{asked_none, asked_then, leaves_same, leaves_then}
use Rattle.trace_shell.proofs.TurnLemmas.{all_ended, nothing_left, taken_all, taken_within, took_more}

further : (text front rest past later : List ℕ) → text ≡ front ++ rest → rest ≡ past ++ later → text ≡ (front ++ past) ++ later
further text front rest past later is parts = is ∙ ap (λ xs. front ++ xs) parts ∙ sym (append_assoc front past later)

-- Lines after a first one.
next_lines : (text line : List ℕ) (more : List (List ℕ)) (Middle ToRead : List ℕ → Type 0) (one : IsNextLine text line Middle) → AreNextLines one.rest more ToRead → AreNextLines text (line ∷ more) ToRead
next_lines text line more Middle ToRead one two = record {
  past = one.past ++ two.past;
  rest = two.rest;
  parts = further text one.past one.rest two.past two.rest one.parts two.parts;
  first = one.first ∙ ap (λ (ls : List (List ℕ)). line ∷ ls) two.first;
  after = two.after;
}

-- Lines were read.
pub reads_more : (text : List ℕ) (pushed ls : List (List ℕ)) (left_old left : Option (List ℕ)) (reader_old reader : Reader) (at : IsReadingAt text pushed left_old reader_old)
    → AreNextLines at.rest ls (IsToRead reader left) → TakesBytes left_old left reader_old.taken reader.taken → IsReadingAt text (pushed ++ ls) left reader
reads_more text pushed ls left_old left reader_old reader at next took = record {
  front = at.front ++ next.past;
  rest = next.rest;
  text_is = further text at.front at.rest next.past next.rest at.text_is next.parts;
  lines_are = at.lines_are ∙ ap (λ (xs : List (List ℕ)). pushed ++ xs) next.first ∙ sym (append_assoc pushed ls (lines next.rest));
  to_read = next.after;
  took = took_more text left_old left 0 reader_old.taken reader.taken at.took took;
}

-- One line was.
pub reads_on : (text : List ℕ) (pushed : List (List ℕ)) (left_old left : Option (List ℕ)) (reader_old reader : Reader) (line : List ℕ) (at : IsReadingAt text pushed left_old reader_old)
    → IsNextLine at.rest line (IsToRead reader left) → TakesBytes left_old left reader_old.taken reader.taken → IsReadingAt text (pushed ++ line ∷ []) left reader
reads_on text pushed left_old left reader_old reader line at next took =
    reads_more text pushed (line ∷ []) left_old left reader_old reader at
    (record { past = next.past; rest = next.rest; parts = next.parts; first = next.first; after = next.after }) took

-- Those of `asked` and those of `more` are in order.
split_lines : (all pushed read asked more later : List (List ℕ)) → all ≡ pushed ++ read → read ≡ (asked ++ more) ++ later → all ≡ (pushed ++ asked) ++ (more ++ later)
split_lines all pushed read asked more later is parts =
    is ∙ ap (λ (ls : List (List ℕ)). pushed ++ ls) (parts ∙ append_assoc asked more later) ∙ sym (append_assoc pushed asked (more ++ later))

ends_so : (text : List ℕ) (pushed later : List (List ℕ)) (left : Option (List ℕ)) (e : Ending) → (e ≡ WriteFault) ⊎ (e ≡ Starved) → lines text ≡ pushed ++ later → HasReadTo (Some e) text pushed left
ends_so text pushed later left e (inl is) split = subst (λ (x : Ending). HasReadTo (Some x) text pushed left) (sym is) (later, split, tt)
ends_so text pushed later left e (inr is) split = subst (λ (x : Ending). HasReadTo (Some x) text pushed left) (sym is) (later, split, tt)

-- The lines `asked` and `more` were read, and those of `asked` pushed. The run goes on where these are all, or it ends.
reads_turn : (text : List ℕ) (pushed ls asked more : List (List ℕ)) (left_old left : Option (List ℕ)) (reader_old reader : Reader) (o : Option Ending) (at : IsReadingAt text pushed left_old reader_old)
    → IfSome o (λ e. (e ≡ WriteFault) ⊎ (e ≡ Starved)) → AreNextLines at.rest ls (IsToRead reader left) → ls ≡ asked ++ more → (o ≡ None → more ≡ [])
    → TakesBytes left_old left reader_old.taken reader.taken → ReadOn (turn_of o) text (pushed ++ asked) left reader
reads_turn text pushed ls asked more left_old left reader_old reader None at ends next are all took =
    subst (λ (xs : List (List ℕ)). IsReadingAt text (pushed ++ xs) left reader) (are ∙ ap (λ (xs : List (List ℕ)). asked ++ xs) (all refl) ∙ append-nil asked)
    (reads_more text pushed ls left_old left reader_old reader at next took)
reads_turn text pushed ls asked more left_old left reader_old reader (Some e) at ends next are all took =
    ends_so text (pushed ++ asked) (more ++ lines next.rest) left e ends
    (split_lines (lines text) pushed (lines at.rest) asked more (lines next.rest) at.lines_are (next.first ∙ ap (λ (xs : List (List ℕ)). xs ++ lines next.rest) are))

pub is_stopped : (o : Option Ending) → IfSome o (λ e. (e ≡ WriteFault) ⊎ (e ≡ Starved)) → IsStopped o o
is_stopped None ends = refl
is_stopped (Some e) (inl is) = subst (λ (x : Ending). IsStopped (Some x) (Some x)) (sym is) refl
is_stopped (Some e) (inr is) = subst (λ (x : Ending). IsStopped (Some x) (Some x)) (sym is) (inl refl)

ending_of_turn : (o : Option Ending) → ending_in (turn_of o) ≡ o
ending_of_turn None = refl
ending_of_turn (Some e) = refl

module _ {D : Type 0} (g : Ghosts D) where
  -- What a turn is to do.
  abbrev pub Turns : (before after : Core D) (old new : Option (List ℕ)) (tally_old tally_new : Tally) (told to_tell left_old left : Option (List ℕ)) (reader_old reader : Reader) (turn : After) → Type 0
  Turns before after old new tally_old tally_new told to_tell left_old left reader_old reader turn =
      (items : List Item) × (replies : List Reply) × (stopped : Option Ending) × HasAsked g before after old new tally_old tally_new items replies stopped
      × IsStopped (ending_in turn) stopped
      × ((text : List ℕ) (pushed : List (List ℕ)) → IsReadingAt text pushed left_old reader_old → (asked : List (List ℕ))
      × ((later : List (List ℕ)) → Leaves g before after (from_lines (asked ++ later)) (from_lines later) told to_tell items replies stopped)
      × ReadOn turn text (pushed ++ asked) left reader)

  -- A line was read, and those after it that were at hand, and they were pushed.
  pub window_turn : (before after : Core D) (old new : Option (List ℕ)) (tally_old tally_new : Tally) (told to_tell left_old left : Option (List ℕ)) (reader_old middle reader : Reader) (first : WindowLine) (o : Option Ending) (turn : After)
      → turn ≡ turn_of o → IfSome o (λ e. (e ≡ WriteFault) ⊎ (e ≡ Starved))
      → ((items : List Item) × (replies : List Reply) × HasAsked g before after old new tally_old tally_new items replies o
      × ((line : List ℕ) (left : Option (List ℕ)) (text : List ℕ) → IsOf line first → IsToRead middle left text → (more : List (List ℕ)) × AreNextLines text more (IsToRead reader left)
      × HasPushed g before after told to_tell items replies o (line ∷ more)))
      → ((rest : List ℕ) → IsToRead reader_old left_old rest → (line : List ℕ) × IsNextLine rest line (IsToRead middle left) × IsOf line first)
      → TakesBytes left_old left reader_old.taken reader.taken
      → Turns before after old new tally_old tally_new told to_tell left_old left reader_old reader turn
  window_turn before after old new tally_old tally_new told to_tell left_old left reader_old middle reader first o turn is ends (items, replies, asked, pushes) next took = (
    items,
    replies,
    o,
    asked,
    subst (λ (x : Option Ending). IsStopped x o) (sym (ap ending_in is ∙ ending_of_turn o)) (is_stopped o ends),
    λ text pushed at.
        let one = next at.rest at.to_read in
        let two = pushes one.0 left one.1.rest one.2 one.1.after in (
          two.2.asked,
          two.2.each,
          subst (λ (t : After). ReadOn t text (pushed ++ two.2.asked) left reader) (sym is)
              (reads_turn text pushed (one.0 ∷ two.0) two.2.asked two.2.more left_old left reader_old reader o at ends
              (next_lines at.rest one.0 two.0 (IsToRead middle left) (IsToRead reader left) one.1 two.1) two.2.are two.2.all took),
        ),
  )

  -- Nothing was asked in a turn.
  pub idle_turn : (core : Core D) (taken : Option (List ℕ)) (tally : Tally) (told left_old left : Option (List ℕ)) (reader_old reader : Reader) (turn : After) → IsStopped (ending_in turn) None
      → ((text : List ℕ) (pushed : List (List ℕ)) → IsReadingAt text pushed left_old reader_old → ReadOn turn text pushed left reader)
      → Turns core core taken taken tally tally told told left_old left reader_old reader turn
  idle_turn core taken tally told left_old left reader_old reader turn stopped reads = (
    [],
    [],
    None,
    asked_none g core taken tally,
    stopped,
    λ text pushed at.
        ([], λ later. leaves_same g core (from_lines later) told None, subst (λ (ls : List (List ℕ)). ReadOn turn text ls left reader) (sym (append-nil pushed)) (reads text pushed at)),
  )

-- ---- how reading ends

-- All was read.
pub reads_all : (text : List ℕ) (pushed : List (List ℕ)) (left_old left : Option (List ℕ)) (reader_old reader : Reader) (at : IsReadingAt text pushed left_old reader_old)
    → (at.rest ≡ []) × IsToRead reader left [] → reader.taken < taken_limit → TakesBytes left_old left reader_old.taken reader.taken → HasReadTo None text pushed left
reads_all text pushed left_old left reader_old reader at (none, to_read) fewer took =
    let read = took_more text left_old left 0 reader_old.taken reader.taken at.took took in
    let size : length text ≡ reader.taken = taken_all text left reader.taken read (nothing_left reader left to_read) in
    (lines at.rest, at.lines_are, (ap lines none, subst (λ (n : ℕ). n < taken_limit) (sym size) fewer))

-- The source failed.
pub reads_failed : (text : List ℕ) (pushed : List (List ℕ)) (left_old left : Option (List ℕ)) (reader_old reader : Reader) (at : IsReadingAt text pushed left_old reader_old)
    → IsToRead reader left at.rest → HoldsNoFeed reader → HasReadTo (Some ReadFault) text pushed left
reads_failed text pushed left_old left reader_old reader at to_read waiting =
    (lines at.rest, at.lines_are, all_ended text at.front reader left at.rest at.text_is to_read waiting)

-- Memory ran out for a line.
pub reads_starved : (text : List ℕ) (pushed : List (List ℕ)) (left_old left : Option (List ℕ)) (reader_old : Reader) → IsReadingAt text pushed left_old reader_old
    → HasReadTo (Some Starved) text pushed left
reads_starved text pushed left_old left reader_old at = (lines at.rest, at.lines_are, tt)

-- As many bytes were taken as are ever taken.
pub reads_spent : (text : List ℕ) (pushed : List (List ℕ)) (left_old left : Option (List ℕ)) (reader_old reader : Reader) (at : IsReadingAt text pushed left_old reader_old)
    → reader.taken ≡ taken_limit → TakesBytes left_old left reader_old.taken reader.taken → IsToRead reader left at.rest → HoldsNoFeed reader → HasReadTo (Some Spent) text pushed left
reads_spent text pushed left_old left reader_old reader at all took to_read waiting = (
  lines at.rest,
  at.lines_are,
  (
    all_ended text at.front reader left at.rest at.text_is to_read waiting,
    subst (λ (n : ℕ). n ≤ length text) all (taken_within text left reader.taken (took_more text left_old left 0 reader_old.taken reader.taken at.took took)),
  ),
)

-- ---- turns after one another

module _ {D : Type 0} (g : Ghosts D) where
  -- What turns came to, of which this was the last.
  abbrev pub HaveTurned : (start core : Core D) (old new : Option (List ℕ)) (tally_old tally_new : Tally) (told to_tell source left : Option (List ℕ)) (reader : Reader) (turn : After) → Type 0
  HaveTurned start core old new tally_old tally_new told to_tell source left reader turn =
      (items : List Item) × (replies : List Reply) × (stopped : Option Ending) × HasAsked g start core old new tally_old tally_new items replies stopped
      × IsStopped (ending_in turn) stopped
      × ((text : List ℕ) → source ≡ Some text → (pushed : List (List ℕ))
      × ((later : List (List ℕ)) → Leaves g start core (from_lines (pushed ++ later)) (from_lines later) told to_tell items replies stopped)
      × ReadOn turn text pushed left reader)

  pub turned_begin : (core : Core D) (taken : Option (List ℕ)) (tally : Tally) (told source : Option (List ℕ)) (reader : Reader)
      → ((text : List ℕ) → IsToRead reader (Some text) text) → reader.taken ≡ 0 → HaveTurned core core taken taken tally tally told told source source reader after.Line
  turned_begin core taken tally told source reader to_read none_taken = (
    [],
    [],
    None,
    asked_none g core taken tally,
    refl,
    λ text is. (
      [],
      λ later. leaves_same g core (from_lines later) told None,
      record {
        front = [];
        rest = text;
        text_is = refl;
        lines_are = refl;
        to_read = subst (λ (l : Option (List ℕ)). IsToRead reader l text) (sym is) (to_read text);
        took = ([], subst (λ (l : Option (List ℕ)). Consumes (Some text) l []) (sym is) refl, none_taken ∙ refl);
      },
    ),
  )

  pub turned_then : (start middle core : Core D) (old between new : Option (List ℕ)) (tally_old tally tally_new : Tally) (told told_between to_tell source left_old left : Option (List ℕ)) (reader_old reader : Reader) (turn last : After) → turn ≡ last
      → HaveTurned start middle old between tally_old tally told told_between source left_old reader_old after.Line
      → Turns g middle core between new tally tally_new told_between to_tell left_old left reader_old reader turn
      → HaveTurned start core old new tally_old tally_new told to_tell source left reader last
  turned_then start middle core old between new tally_old tally tally_new told told_between to_tell source left_old left reader_old reader turn last ends_so (xs, rs, none, one, on, was) (ys, ss, stopped, two, ends, is) = (
    xs ++ ys,
    rs ++ ss,
    stopped,
    asked_then g start middle core old between new tally_old tally tally_new xs ys rs ss none stopped on one two,
    subst (λ (t : After). IsStopped (ending_in t) stopped) ends_so ends,
    λ text source_is.
        let first = was text source_is in
        let second = is text first.0 first.2 in (
          first.0 ++ second.0,
          λ later.
              let all : List (List ℕ) = second.0 ++ later in
              subst (λ (ls : List (List ℕ)). Leaves g start core (from_lines ls) (from_lines later) told to_tell (xs ++ ys) (rs ++ ss) stopped) (sym (append_assoc first.0 second.0 later))
              (leaves_then g start middle core (from_lines (first.0 ++ all)) (from_lines all) (from_lines later) told told_between to_tell xs ys rs ss none stopped on (first.1 all) (second.1 later)),
          subst (λ (t : After). ReadOn t text (first.0 ++ second.0) left reader) ends_so second.2,
        ),
  )
