-- The texts of replies. Each ends with a line feed.
use Rattle.std.specs.Prelude.{ℕ, List, [], ◌∷◌, ◌++◌, length, codes, decimal}
use Rattle.otlp_spans.specs.Writing.{spans_in, trace_text}
use Rattle.search_text.specs.Results.{results_text}
use Rattle.search_text.specs.Series.{series_text}
use Rattle.session_text.specs.declared.refusal.KindFault.{KindFault}
use Rattle.session_text.specs.declared.refusal.KindFault.TheVariants as kind
use Rattle.session_text.specs.declared.refusal.QueryFault.{QueryFault}
use Rattle.session_text.specs.declared.refusal.QueryFault.TheVariants as query
use Rattle.session_text.specs.declared.refusal.Refusal.{Refusal}
use Rattle.session_text.specs.declared.refusal.Refusal.TheVariants.{TooLong, BadRequest, BadJson, BadOtlp, TooMany, BadQuery, BadType, BadPattern, PatternTooBig, TooManyBuckets, LiveFull, StoreFull, ReadOnly, DiskFault, Round, Closed, NotStore, Memory}
use Rattle.session_text.specs.declared.reply.Reply.{Reply}
use Rattle.session_text.specs.declared.reply.Reply.TheVariants.{Pushed, Traced, Searched, Measured, Cut, CutAll, Flushed, NothingFlushed, Compacted, NothingCompacted, Reclaimed, Reopened, Refused}
use Rattle.store_state.specs.declared.rounds.Refusal.{Refusal as RoundRefusal}
use Rattle.store_state.specs.declared.rounds.Refusal.TheVariants as round

-- Texts one after another.
abbrev pub texts : List (List ℕ) → List ℕ
texts [] = []
texts (t ∷ []) = t
texts (t ∷ u ∷ us) = t ++ texts (u ∷ us)

-- A push with this number was kept, with the counts of its spans and of what was skipped.
abbrev pub pushed_text : ℕ → ℕ → ℕ → ℕ → List ℕ
pushed_text number accepted rejected skipped = texts (
    codes "ok push " ∷ decimal number ∷ codes " accepted=" ∷ decimal accepted ∷ codes " rejected=" ∷ decimal rejected ∷ codes " skipped="
    ∷ decimal skipped ∷ codes "\n" ∷ [])

-- A trace at a count of pushes: how many spans it has, and its OTLP/JSON.
abbrev pub traced_text : ℕ → ℕ → List ℕ → List ℕ
traced_text as_of spans json = texts (
    codes "ok trace as_of=" ∷ decimal as_of ∷ codes " spans=" ∷ decimal spans ∷ codes " " ∷ json ∷ codes "\n" ∷ [])

-- A search at a count of pushes: how many traces are told, and their JSON.
abbrev pub searched_text : ℕ → ℕ → List ℕ → List ℕ
searched_text as_of traces json = texts (
    codes "ok search as_of=" ∷ decimal as_of ∷ codes " traces=" ∷ decimal traces ∷ codes " " ∷ json ∷ codes "\n" ∷ [])

-- A metrics query at a count of pushes: how many series there are, and their JSON.
abbrev pub measured_text : ℕ → ℕ → List ℕ → List ℕ
measured_text as_of series json = texts (
    codes "ok metrics as_of=" ∷ decimal as_of ∷ codes " series=" ∷ decimal series ∷ codes " " ∷ json ∷ codes "\n" ∷ [])

-- A cut of idle traces or of all: how many rows it moved.
abbrev pub cut_text : ℕ → List ℕ
cut_text moved = texts (codes "ok cut moved=" ∷ decimal moved ∷ codes "\n" ∷ [])

abbrev pub cut_all_text : ℕ → List ℕ
cut_all_text moved = texts (codes "ok cutall moved=" ∷ decimal moved ∷ codes "\n" ∷ [])

-- A flush: how many rows its block has, or that there was nothing to do.
abbrev pub flushed_text : ℕ → List ℕ
flushed_text rows = texts (codes "ok flush rows=" ∷ decimal rows ∷ codes "\n" ∷ [])

-- A compaction: how many blocks were joined and how many rows the new one has, or that there was nothing to do.
abbrev pub compacted_text : ℕ → ℕ → List ℕ
compacted_text blocks rows = texts (codes "ok compact blocks=" ∷ decimal blocks ∷ codes " rows=" ∷ decimal rows ∷ codes "\n" ∷ [])

-- How many loose files were emptied.
abbrev pub reclaimed_text : ℕ → List ℕ
reclaimed_text files = texts (codes "ok reclaim files=" ∷ decimal files ∷ codes "\n" ∷ [])

-- A reopening: how many pushes the history then has.
abbrev pub reopened_text : ℕ → List ℕ
reopened_text entries = texts (codes "ok reopen entries=" ∷ decimal entries ∷ codes "\n" ∷ [])

-- A refusal with what it names.
abbrev pub refused_text : List ℕ → List ℕ → List ℕ
refused_text why named = texts (codes "refused " ∷ why ∷ named ∷ codes "\n" ∷ [])

-- a text that is no query
abbrev pub query_text : QueryFault → List ℕ
query_text (query.BadChar at) = refused_text (codes "bad-query bad-char at=") (decimal at)
query_text (query.Unexpected at) = refused_text (codes "bad-query unexpected at=") (decimal at)
query_text (query.Unended at) = refused_text (codes "bad-query unended at=") (decimal at)
query_text (query.NumberRange at) = refused_text (codes "bad-query number-range at=") (decimal at)
query_text (query.FractionLiteral at) = refused_text (codes "bad-query fraction-literal at=") (decimal at)
query_text (query.TooDeep at) = refused_text (codes "bad-query too-deep at=") (decimal at)
query_text (query.TooLong length) = refused_text (codes "bad-query too-long length=") (decimal length)

-- kinds that don't fit
abbrev pub kind_text : KindFault → List ℕ
kind_text (kind.KindClash at) = refused_text (codes "bad-type kind-clash at=") (decimal at)
kind_text (kind.NotTruth at) = refused_text (codes "bad-type not-truth at=") (decimal at)
kind_text (kind.DivisionInAggregate at) = refused_text (codes "bad-type division-in-aggregate at=") (decimal at)
kind_text (kind.NotNumber at) = refused_text (codes "bad-type not-number at=") (decimal at)

-- a disk whose bytes aren't a store's from this byte of this file on
abbrev pub not_store_text : ℕ → ℕ → List ℕ
not_store_text file at = texts (codes "refused not-store file=" ∷ decimal file ∷ codes " at=" ∷ decimal at ∷ codes "\n" ∷ [])

-- a block that isn't one from this byte of this file on
abbrev pub not_block_text : ℕ → ℕ → List ℕ
not_block_text file at = texts (codes "refused not-block file=" ∷ decimal file ∷ codes " at=" ∷ decimal at ∷ codes "\n" ∷ [])

-- a round that was refused
abbrev pub round_text : RoundRefusal → List ℕ
round_text (round.ReadOnly faults) = refused_text (codes "read-only faults=") (decimal faults)
round_text (round.Busy job) = refused_text (codes "busy job=") (decimal job)
round_text (round.FilesSpent next) = refused_text (codes "files-spent next=") (decimal next)
round_text round.Fault = refused_text (codes "disk-fault") []
round_text round.Memory = refused_text (codes "memory") []
round_text (round.NotBlock file at) = not_block_text file at

abbrev pub refusal_text : Refusal → List ℕ
refusal_text (TooLong length) = refused_text (codes "too-long length=") (decimal length)
refusal_text (BadRequest at) = refused_text (codes "bad-request at=") (decimal at)
refusal_text BadJson = refused_text (codes "bad-json") []
refusal_text (BadOtlp path) = refused_text (codes "bad-otlp path=") path
refusal_text (TooMany spans) = refused_text (codes "too-many spans=") (decimal spans)
refusal_text (BadQuery fault) = query_text fault
refusal_text (BadType fault) = kind_text fault
refusal_text (BadPattern at) = refused_text (codes "bad-pattern at=") (decimal at)
refusal_text (PatternTooBig at) = refused_text (codes "pattern-too-big at=") (decimal at)
refusal_text (TooManyBuckets count) = refused_text (codes "too-many-buckets count=") (decimal count)
refusal_text (LiveFull held) = refused_text (codes "live-full held=") (decimal held)
refusal_text (StoreFull pushes) = refused_text (codes "store-full pushes=") (decimal pushes)
refusal_text (ReadOnly faults) = refused_text (codes "read-only faults=") (decimal faults)
refusal_text DiskFault = refused_text (codes "disk-fault") []
refusal_text (Round why) = round_text why
refusal_text Closed = refused_text (codes "closed") []
refusal_text (NotStore file at) = not_store_text file at
refusal_text Memory = refused_text (codes "memory") []

-- The text of a reply.
abbrev pub reply_text : Reply → List ℕ
reply_text (Pushed number accepted rejected skipped) = pushed_text number accepted rejected skipped
reply_text (Traced as_of rows) = traced_text as_of (length rows) (trace_text (spans_in rows))
reply_text (Searched as_of fields results) = searched_text as_of (length results) (results_text fields results)
reply_text (Measured as_of series) = measured_text as_of (length series) (series_text series)
reply_text (Cut moved) = cut_text moved
reply_text (CutAll moved) = cut_all_text moved
reply_text (Flushed rows) = flushed_text rows
reply_text NothingFlushed = codes "ok flush nothing\n"
reply_text (Compacted blocks rows) = compacted_text blocks rows
reply_text NothingCompacted = codes "ok compact nothing\n"
reply_text (Reclaimed files) = reclaimed_text files
reply_text (Reopened entries) = reopened_text entries
reply_text (Refused why) = refusal_text why
