-- How a compaction's task goes on as blocks are read.
use Rattle.std.proofs.Common.{◌≡◌, ℕ, ◌+◌, ◌-◌, ◌*◌, ◌^◌, ◌<◌, ◌≤◌, List, [], ◌∷◌, ◌++◌, length, take, drop, get_or, IfOk, Result, Ok, Err, refl, sym, ap, subst, ◌∙◌, arith}
use Rattle.std.specs.Prelude.{IsTrue, Some}
use Rattle.std.proofs.lemmas.List.{length_push, take_more}
use Rattle.span_types.specs.declared.spans.Row.{Row}
use Rattle.byte_fields.specs.Breaks.{Fails}
use Rattle.byte_fields.specs.declared.breaks.Break.{Break}
use Rattle.byte_fields.specs.declared.breaks.Break.TheVariants as breaks
use Rattle.block_info.specs.InfoParts.{InfoParts}
use Rattle.block_format.specs.declared.header.Header.{Header}
use Rattle.block_format.specs.Blocks.{BlockHasHeader, BlockHolds}
use Rattle.block_format.specs.Headers.{HeaderHolds, counts_bytes, header_bytes}
use Rattle.store_model.specs.Event.Event.{BeginCompact, ReadPage}
use Rattle.store_model.specs.Event.{Reply as reply}
use Rattle.store_model.specs.Event.Reply.{Compacting, Page}
use Rattle.store_model.specs.Event.{Refusal as refusal}
use Rattle.store_state.specs.Given.{compact_of, info_files, compact_parts}
use Rattle.store_state.specs.Made.{Call, call}
use Rattle.store_state.specs.Meaning.{Meaning, IsOpen, Called}
use Rattle.store_state.specs.Replies.{begin_compact_reply}
use Rattle.store_state.specs.Shown.{AreBlocks, AreFew}
use Rattle.store_state.specs.Written.{AreBlocksOf, page_of}
use Rattle.store_state.specs.declared.jobs.CompactJob.{CompactJob}
use Rattle.store_state.specs.declared.rounds.Refusal.TheVariants.{Fault}
use Rattle.store_state.specs.declared.rounds.Round.{Round}
use Rattle.store_state.proofs.HoldLaws.{stays_open}
use Rattle.compactor.specs.Rounds.{Leads, pages_of, rows_at}
use Rattle.compactor.specs.Rounds.{Stage as stage}
use Rattle.compactor.specs.Rounds.Leads.{begun, read, unread, block, no_block, starved}
use Rattle.compactor.specs.Phases.{OfFirst, Turned, unread_cause}
use Rattle.compactor.specs.Phases.Turned.{MorePages, Starved, Malformed, NextBlock}
use Rattle.compactor.specs.Tasks.{AreCounted, BeginsWith, FindsBlocks, Fits, HasPage, IsReading, OneEvent, ShowsRead, Task, blocks_left, first_pages, job_of, stage_of, steps_left}
use Rattle.compactor.specs.Tasks.Task.{Fresh, Reading, Failing}
use Rattle.compactor.proofs.BlockLaws.{Sizes, StaySame, apart_block, apart_more, begins_none, begins_stays, blocks_stay, counted_more, counted_none, drop_next, first_stays, has_first_page, page_more, part_at, part_held, rest_stays, rows_stay, whole_rows}
use Rattle.compactor.proofs.Prefixes.{same_rows}

next_left : (job : CompactJob) (parts : List (List Row)) (rows : List Row) (info : InfoParts) (infos : List InfoParts) → blocks_left job parts ≡ info ∷ infos → blocks_left job (parts ++ rows ∷ []) ≡ infos
next_left job parts rows info infos left = ap (λ (k : ℕ). drop k job.pin.blocks) (length_push parts rows) ∙ drop_next (length parts) job.pin.blocks info infos left

-- ---- what leads on

turned_leads : (job : CompactJob) (parts : List (List Row)) (pages : ℕ) (bytes : List ℕ) (after : Task) → Turned job parts pages bytes after → (calls : List Call) (round : Round) → Leads (stage_of after) calls round
    → Leads (stage.Reading (job_of job) parts (blocks_left job parts) pages bytes) calls round
turned_leads job parts pages bytes after (MorePages info infos left more) calls round h = h
turned_leads job parts pages bytes after Starved calls round h = starved (job_of job) parts (blocks_left job parts) pages bytes h
turned_leads job parts pages bytes after (Malformed info infos at left all e) calls round h =
    subst (λ (l : List InfoParts). Leads (stage.Reading (job_of job) parts l pages bytes) calls round) (sym left) (no_block (job_of job) parts info infos pages bytes at all e h)
turned_leads job parts pages bytes after (NextBlock info infos rows left all e some count held) calls round h =
    subst (λ (l : List InfoParts). Leads (stage.Reading (job_of job) parts l pages bytes) calls round) (sym left)
    (block (job_of job) parts info infos pages bytes rows all e
    (subst (λ (l : List InfoParts). Leads (stage.Reading (job_of job) (parts ++ rows ∷ []) l 0 []) calls round) (next_left job parts rows info infos left) h))

-- a page that was read
pub reads_on : (job : CompactJob) (parts : List (List Row)) (pages : ℕ) (bytes page : List ℕ) (info : InfoParts) (infos : List InfoParts) (after : Task) → blocks_left job parts ≡ info ∷ infos
    → HasPage (blocks_left job parts) pages → Turned job parts (pages + 1) (bytes ++ page) after → (calls : List Call) (round : Round) → Leads (stage_of after) calls round
    → Leads (stage_of (Reading job parts pages bytes)) (call (ReadPage job.pin.number info.file pages) (Page page) ∷ calls) round
reads_on job parts pages bytes page info infos after left has turned calls round h =
    subst (λ (l : List InfoParts). Leads (stage.Reading (job_of job) parts l pages bytes) (call (ReadPage job.pin.number info.file pages) (Page page) ∷ calls) round) (sym left)
    (read (job_of job) parts info infos pages bytes page (subst (λ (l : List InfoParts). HasPage l pages) left has)
    (subst (λ (l : List InfoParts). Leads (stage.Reading (job_of job) parts l (pages + 1) (bytes ++ page)) calls round) left
    (turned_leads job parts (pages + 1) (bytes ++ page) after turned calls round h)))

-- a page that was refused
pub reads_out : (job : CompactJob) (parts : List (List Row)) (pages : ℕ) (bytes : List ℕ) (info : InfoParts) (infos : List InfoParts) → blocks_left job parts ≡ info ∷ infos
    → HasPage (blocks_left job parts) pages → (calls : List Call) (round : Round) → Leads (stage_of (Failing job Fault)) calls round
    → Leads (stage_of (Reading job parts pages bytes)) (call (ReadPage job.pin.number info.file pages) (reply.Refused refusal.Fault) ∷ calls) round
reads_out job parts pages bytes info infos left has calls round h =
    subst (λ (l : List InfoParts). Leads (stage.Reading (job_of job) parts l pages bytes) (call (ReadPage job.pin.number info.file pages) (reply.Refused refusal.Fault) ∷ calls) round) (sym left)
    (unread (job_of job) parts info infos pages bytes (subst (λ (l : List InfoParts). HasPage l pages) left has) h)

-- ---- steps that are left

pub turned_left : (job : CompactJob) (parts : List (List Row)) (pages : ℕ) (bytes : List ℕ) (after : Task) → Turned job parts (pages + 1) bytes after → pages < 2 ^ 64 → length parts < length job.pin.blocks
    → steps_left after ≤ (length job.pin.blocks - length parts) * 2 ^ 64 + (2 ^ 64 - pages) + 2 ^ 64 + 3
turned_left job parts pages bytes after (MorePages info infos left more) near low = omega arith
turned_left job parts pages bytes after Starved near low = omega arith
turned_left job parts pages bytes after (Malformed info infos at left all e) near low = omega arith
turned_left job parts pages bytes after (NextBlock info infos rows left all e some count held) near low = (let size = length_push parts rows in omega (arith, size, near, low))

-- ---- the first block that isn't read

pub record First (infos : List InfoParts) (Holds : InfoParts → Type 0) : Type 0 where
  pub info : InfoParts
  pub rest : List InfoParts
  pub is : infos ≡ info ∷ rest
  pub holds : Holds info

pub first_of : (infos : List InfoParts) (Holds : InfoParts → Type 0) → OfFirst infos Holds → First infos Holds
first_of [] Holds h = absurd h
first_of (info ∷ rest) Holds h = record { info = info; rest = rest; is = refl; holds = h }

pub of_first : (infos : List InfoParts) (info : InfoParts) (rest : List InfoParts) (Holds : InfoParts → Type 0) → infos ≡ info ∷ rest → Holds info → OfFirst infos Holds
of_first infos info rest Holds is h = subst (λ (l : List InfoParts). OfFirst l Holds) (sym is) h

pub first_holds : (infos : List InfoParts) (info : InfoParts) (rest : List InfoParts) (Holds : InfoParts → Type 0) → infos ≡ info ∷ rest → OfFirst infos Holds → Holds info
first_holds infos info rest Holds is h = subst (λ (l : List InfoParts). OfFirst l Holds) is h

pub page_low : (infos : List InfoParts) (info : InfoParts) (rest : List InfoParts) (pages : ℕ) → infos ≡ info ∷ rest → HasPage infos pages → pages < pages_of info
page_low infos info rest pages is h = subst (λ (l : List InfoParts). HasPage l pages) is h

-- ---- what is told

-- the bytes begin as those of a block do
abbrev BeginsBlock : List ℕ → Type 0
BeginsBlock bytes = (rest : List ℕ) × (bytes ≡ 84 ∷ rest)

header_begins : (header : Header) (front : List ℕ) → HeaderHolds front header → BeginsBlock front
unfolding counts_bytes
header_begins header front holds = (drop 1 (header_bytes header), holds.bytes_are)

front_begins : (bytes front rest : List ℕ) → bytes ≡ front ++ rest → BeginsBlock front → BeginsBlock bytes
front_begins bytes front rest is begins = (begins.0 ++ rest, is ∙ ap (λ (f : List ℕ). f ++ rest) begins.1)

-- a block begins as its header does
begins_block : (header : Header) (bytes : List ℕ) (rows : List Row) → BlockHasHeader header bytes rows → BeginsBlock bytes
begins_block header bytes rows has = front_begins bytes has.front _ has.bytes_are (header_begins header has.front has.header_holds)

told_first : (shows : ℕ → List ℕ) (job : CompactJob) → shows job.out.file ≡ [] → ShowsRead shows job [] 0 []
told_first shows job empty = record { so_far = λ all hold. refl; begins = begins_none shows job.pin.blocks; apart = tt; empty = empty }

pub told_stays : (old new : ℕ → List ℕ) (job : CompactJob) (parts : List (List Row)) (pages : ℕ) (bytes : List ℕ) → StaySame old new (job.out.file ∷ info_files job.pin.blocks) → ShowsRead old job parts pages bytes
    → ShowsRead new job parts pages bytes
told_stays old new job parts pages bytes stay told =
    let rest = rest_stays old new job.out.file (info_files job.pin.blocks) stay in
    record {
      so_far = λ all hold. told.so_far all (rows_stay new old job.pin.blocks all (λ file among. sym (rest file among)) hold);
      begins = begins_stays old new (length parts) job.pin.blocks pages bytes rest told.begins;
      apart = told.apart;
      empty = first_stays old new job.out.file (info_files job.pin.blocks) stay ∙ told.empty;
    }

told_page : (shows : ℕ → List ℕ) (job : CompactJob) (parts : List (List Row)) (pages : ℕ) (bytes page : List ℕ) (info : InfoParts) (infos : List InfoParts) → blocks_left job parts ≡ info ∷ infos
    → page ≡ page_of (shows info.file) pages → ShowsRead shows job parts pages bytes → ShowsRead shows job parts (pages + 1) (bytes ++ page)
told_page shows job parts pages bytes page info infos left is told = record {
  so_far = told.so_far;
  begins = subst (λ (l : List InfoParts). BeginsWith shows l (pages + 1) (bytes ++ page)) (sym left)
      (page_more (shows info.file) bytes page pages (subst (λ (l : List InfoParts). BeginsWith shows l pages bytes) left told.begins) is);
  apart = told.apart;
  empty = told.empty;
}

-- no more pages of the next block are read than it has
abbrev pub HasPages : CompactJob → List (List Row) → ℕ → Type 0
HasPages job parts pages = OfFirst (blocks_left job parts) (λ (i : InfoParts). pages ≤ pages_of i)

-- what is read of a block whose pages are all read is its part
told_rows : Sizes → (shows : ℕ → List ℕ) (job : CompactJob) (parts : List (List Row)) (pages : ℕ) (bytes : List ℕ) (info : InfoParts) (infos : List InfoParts) → blocks_left job parts ≡ info ∷ infos
    → pages_of info ≤ pages → HasPages job parts pages → ShowsRead shows job parts pages bytes → (all : List (List Row)) → AreBlocksOf shows job.pin.blocks all → rows_at info bytes ≡ Ok (get_or all (length parts) [])
told_rows sizes shows job parts pages bytes info infos left enough few told all are =
    let part = part_at shows (length parts) job.pin.blocks all info infos are left in
    whole_rows sizes info (shows info.file) bytes (get_or all (length parts) []) pages part.has enough
    (first_holds (blocks_left job parts) info infos (λ (i : InfoParts). pages ≤ pages_of i) left few)
    (subst (λ (l : List InfoParts). BeginsWith shows l pages bytes) left told.begins)

told_next : Sizes → (shows : ℕ → List ℕ) (job : CompactJob) (parts : List (List Row)) (pages : ℕ) (bytes : List ℕ) (info : InfoParts) (infos : List InfoParts) (rows : List Row) → blocks_left job parts ≡ info ∷ infos
    → BlockHolds bytes rows → ShowsRead shows job parts pages bytes → ShowsRead shows job (parts ++ rows ∷ []) 0 []
told_next sizes shows job parts pages bytes info infos rows left held told =
    let begins : bytes ≡ first_pages (shows info.file) pages = subst (λ (l : List InfoParts). BeginsWith shows l pages bytes) left told.begins in
    let marked = begins_block held.header bytes rows held.parts in
    record {
      so_far = λ all hold.
          let part = part_held shows (length parts) job.pin.blocks all info infos hold left in
          let same : rows ≡ get_or all (length parts) [] =
          same_rows sizes (shows info.file) pages rows (get_or all (length parts) []) (subst (λ (l : List ℕ). BlockHolds l rows) begins held) part.holds in
          ap (λ (x : List Row). parts ++ x ∷ []) same ∙ ap (λ (ps : List (List Row)). ps ++ get_or all (length parts) [] ∷ []) (told.so_far all hold)
          ∙ sym (take_more all (length parts) [] part.there) ∙ ap (λ (k : ℕ). take k all) (sym (length_push parts rows));
      begins = begins_none shows (blocks_left job (parts ++ rows ∷ []));
      apart = apart_more job.out.file (length parts) (length (parts ++ rows ∷ [])) job.pin.blocks info infos left told.apart
          (apart_block shows job.out.file info pages bytes marked.0 told.empty begins marked.1) (length_push parts rows);
      empty = told.empty;
    }

told_whole : Sizes → (shows : ℕ → List ℕ) (job : CompactJob) (parts : List (List Row)) (pages : ℕ) (bytes : List ℕ) (info : InfoParts) (infos : List InfoParts) (at : ℕ) → blocks_left job parts ≡ info ∷ infos
    → pages_of info ≤ pages → HasPages job parts pages → rows_at info bytes ≡ Err at → ShowsRead shows job parts pages bytes → AreBlocks shows job.pin.blocks → ⊥
told_whole sizes shows job parts pages bytes info infos at left enough few e told are =
    differ at (get_or are.0 (length parts) []) (sym e ∙ told_rows sizes shows job parts pages bytes info infos left enough few told are.0 are.1)
  where
    differ : (n : ℕ) (ys : List Row) → (let a : Result (List Row) ℕ = Err n in let b : Result (List Row) ℕ = Ok ys in a ≡ b) → ⊥
    differ n ys e = cc

pub blocks_told : (old new : ℕ → List ℕ) (job : CompactJob) → StaySame old new (job.out.file ∷ info_files job.pin.blocks) → AreBlocks old job.pin.blocks → AreBlocks new job.pin.blocks
blocks_told old new job stay are = (are.0, blocks_stay old new job.pin.blocks are.0 (rest_stays old new job.out.file (info_files job.pin.blocks) stay) are.1)

-- ---- what a task stands on

-- A job that has begun.
pub fits_first : {P : Type 0} (meaning : Meaning P) (job : CompactJob) (port : P) → IsOpen meaning port (compact_of job) → job.out.written ≡ 0 → AreFew job.level job.pin.blocks
    → (IsTrue (meaning.tells port) → meaning.shows port job.out.file ≡ []) → Fits meaning (Reading job [] 0 []) port
fits_first meaning job port is_open start few empty = record {
  is_open = is_open;
  at_start = start;
  few = few;
  within = omega arith;
  counted = counted_none job.pin.blocks;
  page = has_first_page job.pin.blocks;
  told = λ tells. told_first (meaning.shows port) job (empty tells);
}

-- A page that was read, of a job that goes on.
pub fits_turned : {P : Type 0} (meaning : Meaning P) (job : CompactJob) (parts : List (List Row)) (pages : ℕ) (bytes : List ℕ) (after : Task) (port : P) → Sizes → Turned job parts pages bytes after
    → IsOpen meaning port (compact_of job) → job.out.written ≡ 0 → AreFew job.level job.pin.blocks → length parts < length job.pin.blocks → AreCounted job.pin.blocks parts
    → (IsTrue (meaning.tells port) → ShowsRead (meaning.shows port) job parts pages bytes) → Fits meaning after port
fits_turned meaning job parts pages bytes after port sizes (MorePages info infos left more) is_open start few low counted told = record {
  is_open = is_open;
  at_start = start;
  few = few;
  within = omega (arith, low);
  counted = counted;
  page = subst (λ (l : List InfoParts). HasPage l pages) (sym left) more;
  told = told;
}
fits_turned meaning job parts pages bytes after port sizes Starved is_open start few low counted told = is_open
fits_turned meaning job parts pages bytes after port sizes (Malformed info infos at left all e) is_open start few low counted told = is_open
fits_turned meaning job parts pages bytes after port sizes (NextBlock info infos rows left all e some count held) is_open start few low counted told =
    let size = length_push parts rows in
    record {
      is_open = is_open;
      at_start = start;
      few = few;
      within = omega (arith, size, low);
      counted = counted_more job.pin.blocks parts rows info infos counted left count some;
      page = has_first_page (blocks_left job (parts ++ rows ∷ []));
      told = λ tells. told_next sizes (meaning.shows port) job parts pages bytes info infos rows left held (told tells);
    }

-- A page that was read tells of no block that it is none, where they are blocks.
pub found_turned : {P : Type 0} (meaning : Meaning P) (job : CompactJob) (parts : List (List Row)) (pages : ℕ) (bytes : List ℕ) (after : Task) (port : P) → Sizes → Turned job parts pages bytes after
    → HasPages job parts pages → (IsTrue (meaning.tells port) → ShowsRead (meaning.shows port) job parts pages bytes) → (IsTrue (meaning.tells port) → AreBlocks (meaning.shows port) job.pin.blocks)
    → FindsBlocks meaning after port
found_turned meaning job parts pages bytes after port sizes (MorePages info infos left more) upper told are = are
found_turned meaning job parts pages bytes after port sizes Starved upper told are = λ tells. tt
found_turned meaning job parts pages bytes after port sizes (Malformed info infos at left all e) upper told are =
    λ tells. told_whole sizes (meaning.shows port) job parts pages bytes info infos at left all upper e (told tells) (are tells)
found_turned meaning job parts pages bytes after port sizes (NextBlock info infos rows left all e some count held) upper told are = are

-- what is told after a page that was read
pub told_behind : {P : Type 0} (meaning : Meaning P) (job : CompactJob) (parts : List (List Row)) (pages : ℕ) (bytes page : List ℕ) (info : InfoParts) (infos : List InfoParts) (old new : P)
    → IsReading meaning job parts pages bytes old → Called meaning old (ReadPage job.pin.number info.file pages) (Page page) new → blocks_left job parts ≡ info ∷ infos
    → (IsTrue (meaning.tells old) → page ≡ page_of (meaning.shows old info.file) pages) → IsTrue (meaning.tells new) → ShowsRead (meaning.shows new) job parts (pages + 1) (bytes ++ page)
told_behind meaning job parts pages bytes page info infos old new is called left gives tells =
    let before : IsTrue (meaning.tells old) = subst IsTrue called.telling tells in
    told_stays (meaning.shows old) (meaning.shows new) job parts (pages + 1) (bytes ++ page)
    (λ file among. called.bytes before (compact_of job) is.is_open refl file among)
    (told_page (meaning.shows old) job parts pages bytes page info infos left (gives before) (is.told before))

-- a page more is one that the block has
has_page_more : (job : CompactJob) (parts : List (List Row)) (pages : ℕ) (info : InfoParts) (infos : List InfoParts) → blocks_left job parts ≡ info ∷ infos → HasPage (blocks_left job parts) pages → HasPages job parts (pages + 1)
has_page_more job parts pages info infos left has =
    let low = page_low (blocks_left job parts) info infos pages left has in
    of_first (blocks_left job parts) info infos (λ (i : InfoParts). pages + 1 ≤ pages_of i) left (omega (arith, low))

-- ---- events

pub begun_event : {P : Type 0} (meaning : Meaning P) (old new : P) (job : CompactJob) → Called meaning old BeginCompact (begin_compact_reply (Ok (Some job))) new → OneEvent meaning Fresh old (Reading job [] 0 []) new
begun_event meaning old new job called = record {
  made = call BeginCompact (Compacting (compact_parts job));
  called = called;
  leads = λ calls round h. begun (job_of job) h;
}

pub page_event : {P : Type 0} (meaning : Meaning P) (old new : P) (job : CompactJob) (parts : List (List Row)) (pages : ℕ) (bytes page : List ℕ) (info : InfoParts) (infos : List InfoParts) (after : Task)
    → Called meaning old (ReadPage job.pin.number info.file pages) (Page page) new → blocks_left job parts ≡ info ∷ infos → HasPage (blocks_left job parts) pages → Turned job parts (pages + 1) (bytes ++ page) after
    → OneEvent meaning (Reading job parts pages bytes) old after new
page_event meaning old new job parts pages bytes page info infos after called left has turned = record {
  made = call (ReadPage job.pin.number info.file pages) (Page page);
  called = called;
  leads = reads_on job parts pages bytes page info infos after left has turned;
}

pub page_fits : {P : Type 0} (meaning : Meaning P) (old new : P) (job : CompactJob) (parts : List (List Row)) (pages : ℕ) (bytes page : List ℕ) (info : InfoParts) (infos : List InfoParts) (after : Task) → Sizes
    → IsReading meaning job parts pages bytes old → length parts < length job.pin.blocks → Called meaning old (ReadPage job.pin.number info.file pages) (Page page) new → blocks_left job parts ≡ info ∷ infos
    → (IsTrue (meaning.tells old) → page ≡ page_of (meaning.shows old info.file) pages) → Turned job parts (pages + 1) (bytes ++ page) after → Fits meaning after new
page_fits meaning old new job parts pages bytes page info infos after sizes is low called left gives turned =
    fits_turned meaning job parts (pages + 1) (bytes ++ page) after new sizes turned (stays_open meaning old new _ _ (compact_of job) called is.is_open refl) is.at_start is.few low is.counted
    (told_behind meaning job parts pages bytes page info infos old new is called left gives)

pub page_found : {P : Type 0} (meaning : Meaning P) (old new : P) (job : CompactJob) (parts : List (List Row)) (pages : ℕ) (bytes page : List ℕ) (info : InfoParts) (infos : List InfoParts) (after : Task) → Sizes
    → IsReading meaning job parts pages bytes old → Called meaning old (ReadPage job.pin.number info.file pages) (Page page) new → blocks_left job parts ≡ info ∷ infos
    → (IsTrue (meaning.tells old) → page ≡ page_of (meaning.shows old info.file) pages) → Turned job parts (pages + 1) (bytes ++ page) after → FindsBlocks meaning (Reading job parts pages bytes) old
    → FindsBlocks meaning after new
page_found meaning old new job parts pages bytes page info infos after sizes is called left gives turned are =
    found_turned meaning job parts (pages + 1) (bytes ++ page) after new sizes turned (has_page_more job parts pages info infos left is.page)
    (told_behind meaning job parts pages bytes page info infos old new is called left gives)
    (λ tells. (let before : IsTrue (meaning.tells old) = subst IsTrue called.telling tells in
    blocks_told (meaning.shows old) (meaning.shows new) job (λ file among. called.bytes before (compact_of job) is.is_open refl file among) (are before)))

pub no_page_event : {P : Type 0} (meaning : Meaning P) (old new : P) (job : CompactJob) (parts : List (List Row)) (pages : ℕ) (bytes : List ℕ) (info : InfoParts) (infos : List InfoParts)
    → Called meaning old (ReadPage job.pin.number info.file pages) (reply.Refused refusal.Fault) new → blocks_left job parts ≡ info ∷ infos → HasPage (blocks_left job parts) pages
    → OneEvent meaning (Reading job parts pages bytes) old (Failing job Fault) new
no_page_event meaning old new job parts pages bytes info infos called left has = record {
  made = call (ReadPage job.pin.number info.file pages) (reply.Refused refusal.Fault);
  called = called;
  leads = reads_out job parts pages bytes info infos left has;
}

pub no_page_fits : {P : Type 0} (meaning : Meaning P) (old new : P) (job : CompactJob) (info : InfoParts) (pages : ℕ) → IsOpen meaning old (compact_of job)
    → Called meaning old (ReadPage job.pin.number info.file pages) (reply.Refused refusal.Fault) new → Fits meaning (Failing job Fault) new
no_page_fits meaning old new job info pages is_open called = stays_open meaning old new _ _ (compact_of job) called is_open refl

-- ---- rows that were read

pub broke : (job : CompactJob) (parts : List (List Row)) (pages : ℕ) (bytes : List ℕ) (info : InfoParts) (infos : List InfoParts) (why : Break) → blocks_left job parts ≡ info ∷ infos → pages_of info ≤ pages
    → Fails why (rows_at info bytes) → Turned job parts pages bytes (Failing job (unread_cause info.file why))
broke job parts pages bytes info infos (breaks.At at) left all fails = Malformed info infos at left all fails
broke job parts pages bytes info infos breaks.Memory left all fails = Starved

pub some_rows : {E : Type 0} (r : Result (List Row) E) (bytes : List ℕ) → IfOk r (λ rows. BlockHolds bytes rows) → (BlockHolds bytes [] → ⊥) → IfOk r (λ rows. 1 ≤ length rows)
some_rows (Ok []) bytes holds none = absurd (none holds)
some_rows (Ok (row ∷ rows)) bytes holds none = omega arith
some_rows (Err e) bytes holds none = tt
