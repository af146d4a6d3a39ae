-- What a run of the program does.
use Rattle.std.specs.Prelude.{◌≡◌, ◌≢◌, ◌⊎◌, ⊤, ℕ, ◌<◌, ◌≤◌, Bool, false, List, [], ◌∷◌, ◌++◌, Option, Some, None, IfSome, IsTrue, if◌then◌else◌, length, map}
use Rattle.std.specs.Io.KnownBytes.{Appends}
use Rattle.clap.specs.Words.{Kinds}
use Rattle.span_types.specs.Faults.{Rose}
use Rattle.io_edges.specs.Devices.{AppendsPrefix}
use Rattle.io_edges.specs.Lines.{lines, taken_limit}
use Rattle.io_edges.specs.Reader.{TakesBytes}
use Rattle.disk_model.specs.Counts.{Raised}
use Rattle.disk_model.specs.Images.{Image}
use Rattle.disk_model.specs.declared.disk.Device.{Ghosts}
use Rattle.command_words.specs.Commands.{Alone, Command, Drill as drill, Ingest as ingest, Serve as serve, Session as session, Spells}
use Rattle.command_words.specs.Numbers.{word_faults}
use Rattle.session_text.specs.declared.reply.Reply.{Reply}
use Rattle.session_text.specs.Items.{Item}
use Rattle.session_text.specs.Replies.{not_store_text}
use Rattle.store_model.specs.History.{count_of}
use Rattle.store_model.specs.Laws.{Agrees}
use Rattle.store_images.specs.Stored.{IsSoundImage}
use Rattle.store_core.specs.Opening.{BeginsEmpty, StoreBreaks}
use Rattle.session_meaning.specs.declared.ending.Ending.{Ending}
use Rattle.session_meaning.specs.declared.ending.Ending.TheVariants.{Answered, BadWords, NotOpened, NotStore, ReadFault, Refused, Spent, Starved, WriteFault}
use Rattle.session_meaning.specs.Act.{Act}
use Rattle.session_meaning.specs.Act.Act.{Ask}
use Rattle.session_meaning.specs.Asked.{AreAsked, AsksNext, IsNextMoment, after_lines, after_moment}
use Rattle.session_meaning.specs.At.{At, history_of}
use Rattle.session_meaning.specs.Done.{AreDone}
use Rattle.session_meaning.specs.Drill.{CameThrough, drill_text}
use Rattle.session_meaning.specs.Ingest.{Ingests, Pushes, Stand}
use Rattle.session_meaning.specs.Ingest.Far.{so_far, whole}
use Rattle.session_meaning.specs.Place.{Place, opened_at}
use Rattle.session_meaning.specs.Session.{Ends, EndsAlone, reply_texts}

-- What the outside tells at a moment: the bytes that the source has left and those that the sink has taken, the moments that
-- the clock has to give, and the bytes that the disk holds, each where it tells them; the counts of faults; and how many writes
-- of the disk were asked to end at 2^63 or more, which no disk does.
pub record Edges : Type 0 where
  pub left : Option (List ℕ)
  pub taken : Option (List ℕ)
  pub moments : Option (List ℕ)
  pub held : Option Image
  pub source_faults : ℕ
  pub sink_faults : ℕ
  pub disk_faults : ℕ
  pub far_writes : ℕ

-- the bytes that a disk holds, where it tells them
abbrev pub told_bytes : {D : Type 0} → Ghosts D → D → Option Image
told_bytes g disk = if g.tells disk then Some (g.held disk) else None

-- They tell it by these functions.
abbrev pub edges : {S K C D : Type 0} → (S → Option (List ℕ)) → (S → ℕ) → (K → Option (List ℕ)) → (K → ℕ) → (C → Option (List ℕ)) → Ghosts D
    → S → K → C → D → Edges
edges left source_faults taken sink_faults moments g source sink clock disk = record {
  left = left source;
  taken = taken sink;
  moments = moments clock;
  held = told_bytes g disk;
  source_faults = source_faults source;
  sink_faults = sink_faults sink;
  disk_faults = g.faults disk;
  far_writes = g.far_writes disk;
}

-- What happened in a run: how it ended, whether the store was opened and the moment of that, what was done and answered from the
-- store as it was opened to which place, and which texts the maker of patterns refused, in order.
pub record Outcome : Type 0 where
  pub ending : Ending
  pub opened : Bool
  pub moment : ℕ
  pub first : At
  pub acts : List Act
  pub refused : List (List ℕ)
  pub replies : List Reply
  pub last : Place

-- ---- the opening

-- The store was opened at the clock's next moment. It then writes, its head is empty, no file is loose and no pin is open, its
-- rows are those of its history, and that has no more pushes than a store takes. Its bytes don't break. No call of the disk failed
-- in the opening, and its faults are counted on from there to the last ones.
pub record HasOpened (o : Outcome) (old new : Edges) : Type 0 where
  pub moment : IsNextMoment old.moments o.moment
  pub begins : BeginsEmpty o.first.machine
  pub agrees : Agrees o.first.machine
  pub few : count_of (history_of o.first) ≤ 4294967295
  pub unbroken : IfSome old.held (λ image. (file at : ℕ) → StoreBreaks image file at → ⊥)
  pub first_faults : o.first.faults ≡ old.disk_faults
  pub last_faults : o.last.store.faults ≡ new.disk_faults

-- The disk's bytes, where it tells them, break first at this place of this file, and so are no store's.
abbrev pub IsNoStore : ℕ → ℕ → Option Image → Type 0
IsNoStore file at held = IfSome held (λ image. StoreBreaks image file at × (IsSoundImage image → ⊥))

-- What stands written where the store wasn't opened: which of its bytes are no store's, or a first part of that; or nothing.
abbrev pub EndsUnopened : Ending → Edges → Option (List ℕ) → Type 0
EndsUnopened NotOpened old taken = taken ≡ old.taken
EndsUnopened (NotStore file at) old taken = Appends old.taken taken (not_store_text file at)
EndsUnopened WriteFault old taken =
    (file at : ℕ) × IsNoStore file at old.held × AppendsPrefix old.taken taken (not_store_text file at)
EndsUnopened Starved old taken = taken ≡ old.taken
EndsUnopened _ old taken = ⊥

-- The clock gave the moment of the opening; or none, where memory ran out for the words.
abbrev pub GaveOpening : Ending → Option (List ℕ) → Option (List ℕ) → Type 0
GaveOpening Starved old new = (new ≡ after_moment old) ⊎ (new ≡ old)
GaveOpening _ old new = new ≡ after_moment old

-- The store wasn't opened: nothing was taken of the source, nothing was done, and the clock gave no moment but the opening's. No
-- call of the disk failed, but where the run ends for that.
pub record HasNotOpened (o : Outcome) (old new : Edges) : Type 0 where
  pub no_acts : o.acts ≡ []
  pub no_replies : o.replies ≡ []
  pub no_refused : o.refused ≡ []
  pub left : new.left ≡ old.left
  pub clock : GaveOpening o.ending old.moments new.moments
  pub ends : EndsUnopened o.ending old new.taken
  pub quiet : o.ending ≢ NotOpened → new.disk_faults ≡ old.disk_faults

-- ---- what each command does

-- A session that read `text`: the lines of a prefix were done in order, each read at the clock's next moment, and their
-- replies, and nothing else, stand written as the ending says. What the maker refused is, in
-- order, the text of the pattern that each line refused for a pattern's size is refused for, and no other.
pub record HasRun (text before : List ℕ) (o : Outcome) (old new : Edges) : Type 0 where
  pub answered : List (List ℕ)
  pub later : List (List ℕ)
  pub lines_are : lines text ≡ answered ++ later
  pub asked : AreAsked answered (after_moment old.moments) o.acts o.refused
  pub clock : new.moments ≡ after_lines answered (after_moment old.moments)
  pub ends : Ends o.ending text later new.left before o.replies new.taken

-- How far an ingest of these lines came by how it ended, having pushed the second ones of them: to its end, where the input was read to
-- its end and all replies were written; where the source failed, or a run takes no more bytes, so many lines were pushed and nothing was
-- done for the end; and where the sink failed or memory ran out, it may have stopped anywhere.
abbrev pub CameSoFar : Bool → Ending → List (List ℕ) → List (List ℕ) → Stand → List Item → List Reply → Stand → Type 0
CameSoFar told Answered all pushed before items replies after = Ingests told all before items replies after whole
CameSoFar told Refused all pushed before items replies after = Ingests told all before items replies after whole
CameSoFar told ReadFault all pushed before items replies after = Pushes told pushed before items replies after
CameSoFar told Spent all pushed before items replies after = Pushes told pushed before items replies after
CameSoFar told _ all pushed before items replies after = Ingests told all before items replies after so_far

-- An ingest that read `text`: it was asked what an ingest asks, and the replies, and nothing else, stand written as the ending says.
-- No pattern was made.
pub record HasIngested (told : Bool) (text before : List ℕ) (o : Outcome) (old new : Edges) : Type 0 where
  pub items : List Item
  pub acts_are : o.acts ≡ map Ask items
  pub pushed : List (List ℕ)
  pub later : List (List ℕ)
  pub lines_are : lines text ≡ pushed ++ later
  pub asked : CameSoFar told o.ending (lines text) pushed (record { store = o.first; moments = after_moment old.moments }) items o.replies
      (record { store = o.last.store; moments = new.moments })
  pub no_refused : o.refused ≡ []
  pub ends : Ends o.ending text later new.left before o.replies new.taken

-- One line was asked alone, read at the clock's next moment, and its reply stands written as the ending says. The maker
-- refused just the pattern that it is refused for, if it is for a pattern's size.
pub record HasAnswered (line before : List ℕ) (o : Outcome) (old new : Edges) : Type 0 where
  pub item : Item
  pub reply : Reply
  pub acts_are : o.acts ≡ Ask item ∷ []
  pub replies_are : o.replies ≡ reply ∷ []
  pub asked : AsksNext (after_moment old.moments) line o.refused item
  pub clock : new.moments ≡ after_moment (after_moment old.moments)
  pub ends : EndsAlone o.ending before reply new.taken

-- A drill took nothing of the source, it was asked what a drill asks, from the clock's moments after the opening's on, and the line that
-- counts its replies, and the last three of them, stand written as the ending says.
pub record HasDrilled (seed traces : ℕ) (o : Outcome) (old new : Edges) : Type 0 where
  pub items : List Item
  pub acts_are : o.acts ≡ map Ask items
  pub left : new.left ≡ old.left
  pub came : CameThrough seed traces o.ending (after_moment old.moments) items o.replies o.refused new.moments old.taken new.taken

-- A run ends so in a store that was opened, if it does.
abbrev pub IsPastOpening : Ending → Type 0
IsPastOpening BadWords = ⊥
IsPastOpening NotOpened = ⊥
IsPastOpening (NotStore file at) = ⊥
IsPastOpening _ = ⊤

-- The command takes nothing of the source.
abbrev pub TakesNothing : Command → Type 0
TakesNothing session = ⊥
TakesNothing ingest = ⊥
TakesNothing (serve clients rounds) = ⊥
TakesNothing (drill seed traces) = ⊤
TakesNothing (Alone line) = ⊤

-- The command is for one client.
abbrev pub IsForOne : Command → Type 0
IsForOne (serve clients rounds) = ⊥
IsForOne _ = ⊤

-- The source has no part in the ending.
abbrev pub NeedsNoSource : Ending → Type 0
NeedsNoSource ReadFault = ⊥
NeedsNoSource Spent = ⊥
NeedsNoSource _ = ⊤

-- In a store that was opened the command was done, as far as the source and the sink tell their bytes. `told` says that what the
-- blocks of the store hold is told. A run that serves several clients then is no such run: `IsServedRun` says what it is.
abbrev pub DoesInStore : Bool → Command → Outcome → Edges → Edges → Type 0
DoesInStore told session o old new = IfSome old.left (λ text. IfSome old.taken (λ before. HasRun text before o old new))
DoesInStore told ingest o old new = IfSome old.left (λ text. IfSome old.taken (λ before. HasIngested told text before o old new))
DoesInStore told (serve clients rounds) o old new = ⊥
DoesInStore told (drill seed traces) o old new = HasDrilled seed traces o old new
DoesInStore told (Alone line) o old new =
    NeedsNoSource o.ending × IfSome old.taken (λ before. HasAnswered line before o old new)

-- The store was opened and the command done; or it wasn't, and nothing was asked.
abbrev pub Does : Bool → Command → Outcome → Edges → Edges → Type 0
Does told c o old new =
    (IsTrue o.opened × HasOpened o old new × IsPastOpening o.ending × DoesInStore told c o old new)
    ⊎ ((o.opened ≡ false) × HasNotOpened o old new)

-- It was asked requests alone, and so its store wasn't opened again; but a session's lines may ask for that.
abbrev pub OnlyAsks : Command → List Act → Type 0
OnlyAsks session acts = ⊤
OnlyAsks ingest acts = (items : List Item) × (acts ≡ map Ask items)
OnlyAsks (serve clients rounds) acts = (items : List Item) × (acts ≡ map Ask items)
OnlyAsks (drill seed traces) acts = (items : List Item) × (acts ≡ map Ask items)
OnlyAsks (Alone line) acts = (items : List Item) × (acts ≡ map Ask items)

-- ---- how a run may end

-- The ending has its cause: a count of faults rose, or the disk's bytes are no store's, or so many bytes were taken as a run
-- takes. Where the store isn't opened for a fault just one call of the disk failed, and it was none that had to fail.
abbrev pub HasCause : Ending → Edges → Edges → Type 0
HasCause WriteFault old new = Rose old.sink_faults new.sink_faults
HasCause ReadFault old new = Rose old.source_faults new.source_faults
HasCause NotOpened old new = Raised old.disk_faults new.disk_faults × (new.far_writes ≡ old.far_writes)
HasCause (NotStore file at) old new = IsNoStore file at old.held
HasCause Spent old new = TakesBytes old.left new.left 0 taken_limit
HasCause _ old new = ⊤

-- The ending fits what is at fault in the words, by `clap`'s own definition or in a number: where nothing is they aren't told to be
-- faulty, and where something is they are, unless memory ran out.
abbrev pub FitsWords : Kinds → Ending → Type 0
FitsWords [] ending = ending ≢ BadWords
FitsWords (fault ∷ faults) ending = (ending ≡ BadWords) ⊎ (ending ≡ Starved)

-- ---- a run

-- A run on these words between the edges as they were and as they are: what the words ask was done and answered in order, from the
-- store as it was opened on, and the ending has its cause. `told` says that what the blocks of the store hold is told.
pub record IsRunOf (told : Bool) (words : List (List ℕ)) (o : Outcome) (old new : Edges) : Type 0 where
  pub words_fit : FitsWords (word_faults words) o.ending
  pub does : (c : Command) → Spells words c → Does told c o old new
  pub asks : (c : Command) → Spells words c → OnlyAsks c o.acts
  pub session : AreDone told (opened_at o.first) o.acts o.replies o.last
  pub cause : HasCause o.ending old new

-- ---- runs that come to their own end

-- The disk shows its bytes and they are those of a store, and no call of it failed.
abbrev pub HasItsStore : Edges → Edges → Type 0
HasItsStore old new =
    (image : Image) × (old.held ≡ Some image) × IsSoundImage image × (Rose old.disk_faults new.disk_faults → ⊥)

-- What a run with these replies writes in a store that was opened, if it writes all: their texts, and of a drill the line that counts them
-- and the last three.
abbrev pub text_written : Command → List Reply → List ℕ
text_written (drill seed traces) replies = drill_text replies
text_written _ replies = reply_texts replies

-- No call of the disk, the sink and the source failed, the disk holds a store, and the source has fewer bytes than a run takes.
abbrev pub ReadsWell : Edges → Edges → Type 0
ReadsWell old new =
    HasItsStore old new × (Rose old.sink_faults new.sink_faults → ⊥) × (Rose old.source_faults new.source_faults → ⊥)
    × (text : List ℕ) × (old.left ≡ Some text) × (length text < taken_limit)

-- The sink shows its bytes, and the source too where the command reads it.
abbrev pub TellsAll : Command → Edges → Type 0
TellsAll session old = (text before : List ℕ) × (old.left ≡ Some text) × (old.taken ≡ Some before)
TellsAll ingest old = (text before : List ℕ) × (old.left ≡ Some text) × (old.taken ≡ Some before)
TellsAll (serve clients rounds) old = (text before : List ℕ) × (old.left ≡ Some text) × (old.taken ≡ Some before)
TellsAll (drill seed traces) old = (before : List ℕ) × (old.taken ≡ Some before)
TellsAll (Alone line) old = (before : List ℕ) × (old.taken ≡ Some before)

-- No call failed that the command makes, the disk holds a store, and where the command reads the source, that has fewer bytes than
-- a run takes.
abbrev pub GoesWell : Command → Edges → Edges → Type 0
GoesWell session old new = ReadsWell old new
GoesWell ingest old new = ReadsWell old new
GoesWell (serve clients rounds) old new = ReadsWell old new
GoesWell (drill seed traces) old new = HasItsStore old new × (Rose old.sink_faults new.sink_faults → ⊥)
GoesWell (Alone line) old new = HasItsStore old new × (Rose old.sink_faults new.sink_faults → ⊥)

-- All was answered, and nothing was refused or some of it.
abbrev pub ComesToItsEnd : Ending → Type 0
ComesToItsEnd ending = (ending ≡ Answered) ⊎ ((ending ≡ Starved) ⊎ (ending ≡ Refused))
