-- Private mechanism: a search goes through all blocks side by side, a few stripes at a time. No public clause cites these.
use Rattle.std.specs.Prelude.{◌≡◌, ℕ, ◌+◌, ◌-◌, ◌*◌, ◌<◌, All, suc, List, [], ◌∷◌, ◌++◌, Bool, true, false, Contains, Result, Ok, Err, drop, if◌then◌else◌, length, map, nat_lt, None, Option, Some, slice_index_or, slice_set, sum_by, take}
use Rattle.std.specs.List.{flat_map}
use Rattle.std.specs.List.Sorted.{IsPermutation}
use Rattle.std.specs.Ordering.{is_le, is_lt}
use Rattle.span_types.specs.First.{IsFirstOf}
use Rattle.span_types.specs.Orders.{trace_cmp}
use Rattle.span_types.specs.declared.ids.TraceId.{TraceId}
use Rattle.span_types.specs.declared.spans.Row.{Row}
use Rattle.block_info.specs.InfoParts.{InfoParts}
use Rattle.block_read.specs.Answers.{RoseAtMost}
use Rattle.column_scan.specs.Candidates.{Ascend, HaveLatest, IsCovered, spans_of}
use Rattle.column_scan.specs.Scans.{scanned_pages}
use Rattle.column_scan.specs.Sieves.{SieveParts, sifted_picks}
use Rattle.column_scan.specs.declared.hints.Hint.{Hint}
use Rattle.column_scan.specs.declared.picks.Pick.{Pick}
use Rattle.search_answer.specs.Keeping.{BestParts}
use Rattle.store_state.specs.Meaning.{Meaning}
use Rattle.store_state.specs.declared.jobs.Look.{Look}
use Rattle.query_fanout.specs.Bounds.{hinted_pages}
use Rattle.query_fanout.specs.Reading.{PartsRead, look_ups}
use Rattle.query_fanout.specs.Searching.{TookTheirs, TookWith}
use Rattle.query_fanout.specs.Taking.{AnswersSearch, asked_sieve, no_best, traces_of}
use Rattle.query_fanout.specs.declared.error.QueryError.{QueryError}
use Rattle.query_fanout.specs.declared.reach.Reach.{Reach}
use Rattle.query_fanout.specs.declared.reach.Reach.TheVariants.{Nothing, Upto, Whole}
use Rattle.query_fanout.specs.declared.rounds.Rounds.{Rounds}
use Rattle.query_fanout.specs.declared.scans.Found.{Found}
use Rattle.query_fanout.specs.declared.scans.Scan.{Scan}
use Rattle.query_fanout.specs.declared.searching.Asked.{Asked}
use Rattle.query_fanout.specs.declared.waits.Batch.{Batch}

-- ---- how far

-- The trace is among those up to which all is gone through: none of them, those below a trace, or all.
abbrev pub is_below : Reach → TraceId → Bool
is_below Nothing id = false
is_below (Upto bound) id = is_lt (trace_cmp id bound)
is_below Whole id = true

-- the first goes no further than the second
abbrev pub goes_to : Reach → Reach → Bool
goes_to Nothing other = true
goes_to (Upto bound) Nothing = false
goes_to (Upto bound) (Upto other) = is_le (trace_cmp bound other)
goes_to (Upto bound) Whole = true
goes_to Whole Nothing = false
goes_to Whole (Upto other) = false
goes_to Whole Whole = true

-- up to the trace of the last row, if it is known
abbrev pub reach_of : Option TraceId → Reach
reach_of None = Nothing
reach_of (Some id) = Upto id

-- where a scan is before the stripe of that number, if there are so many: at its end all is gone through
abbrev pub reach_at : ℕ → ℕ → Option TraceId → Reach
reach_at next size last = if nat_lt next size then reach_of last else Whole

abbrev pub is_all : Reach → Bool
is_all Nothing = false
is_all (Upto bound) = false
is_all Whole = true

-- ---- picks that were found and not yet taken

abbrev pub waiting : Batch → List Pick
waiting batch = drop batch.next batch.picks.items

abbrev pub all_waiting : List Batch → List Pick
all_waiting batches = flat_map waiting batches

-- those of a batch ascend
abbrev pub AreInBatches : List Batch → Type 0
AreInBatches batches = All (λ b. Ascend b.picks.items) batches

-- Some picks are parted: those below a bound, and the others.
pub record AreParted (bound : Reach) (all few left : List Pick) : Type 0 where
  pub same : IsPermutation all (few ++ left)
  pub few_are : All (λ p. is_below bound p.trace ≡ true) few
  pub left_are : All (λ p. is_below bound p.trace ≡ false) left

-- Picks that are parted, the first ones with each trace once and in order.
abbrev pub IsParted : Reach → List Batch → List Pick → List Batch → Type 0
IsParted bound waits picks left =
    (few : List Pick) × AreParted bound (all_waiting waits) few (all_waiting left) × HaveLatest few picks × Ascend picks

-- a batch of picks that were found: it covers those of traces that aren't gone through, and has no others
pub record IsBatch (gone : Reach) (picks batch : List Pick) : Type 0 where
  pub whole : All (λ p. is_below gone p.trace ≡ false → IsCovered batch p) picks
  pub only : All (Contains picks) batch
  pub above : All (λ p. is_below gone p.trace ≡ false) batch

-- ---- how far a block is gone through

-- how many rows were gone through: each stripe but the last has 256
abbrev pub rows_gone : Scan → ℕ
rows_gone scan = 256 * scan.next

-- steps that are left, of which each goes over a stripe or ends the scan
abbrev pub steps_left : Scan → ℕ
steps_left scan = if is_all scan.upto then 0 else suc (length scan.info.now.stripes - scan.next)

-- A block of these rows is gone through so far: the sifted ones of the rows that were gone through are covered by the picks, and no
-- other row is of a trace below `upto`, nor of one that `gone` has.
pub record IsScan (sieve : SieveParts) (gone : Reach) (picks : List Pick) (rows : List Row) (scan : Scan) : Type 0 where
  pub covered : All (IsCovered picks) (sifted_picks sieve (spans_of (take (rows_gone scan) rows)))
  pub upto : All (λ row. is_below scan.upto row.span.trace ≡ false) (drop (rows_gone scan) rows)
  pub later : All (λ row. is_below gone row.span.trace ≡ false) (drop (rows_gone scan) rows)

-- nothing of the block is gone through
pub record IsFresh (scan : Scan) : Type 0 where
  pub next : scan.next ≡ 0
  pub upto : scan.upto ≡ Nothing

-- one scan for each block
abbrev pub AreScans : SieveParts → Reach → List Pick → List (List Row) → List Scan → Type 0
AreScans sieve gone picks [] [] = Unit {0}
AreScans sieve gone picks [] (scan ∷ scans) = ⊥
AreScans sieve gone picks (rows ∷ parts) [] = ⊥
AreScans sieve gone picks (rows ∷ parts) (scan ∷ scans) = IsScan sieve gone picks rows scan × AreScans sieve gone picks parts scans

-- each goes at least so far
abbrev pub AllReach : Reach → List Scan → Type 0
AllReach bound scans = All (λ scan. goes_to bound scan.upto ≡ true) scans

-- A scan that isn't at its end, of all those the one that has come least far.
pub record IsLeast (scans : List Scan) (at : ℕ) : Type 0 where
  pub low : at < length scans
  pub goes_on : (d : Scan) → is_all (slice_index_or scans at d).upto ≡ false
  pub least : (d : Scan) → AllReach (slice_index_or scans at d).upto scans

-- What is found by going on with a scan: picks of the block's rows that cover what is sifted of the next ones, after which no row is of
-- a trace below `upto`.
pub record GoesOn (sieve : SieveParts) (rows : List Row) (scan next : Scan) (picks : List Pick) : Type 0 where
  pub count : ℕ
  pub front : take (rows_gone next) rows ≡ take (rows_gone scan) rows ++ take count (drop (rows_gone scan) rows)
  pub back : drop (rows_gone next) rows ≡ drop count (drop (rows_gone scan) rows)
  pub whole : All (IsCovered picks) (sifted_picks sieve (spans_of (take count (drop (rows_gone scan) rows))))
  pub only : All (Contains (sifted_picks sieve (spans_of rows))) picks
  pub upto : All (λ row. is_below next.upto row.span.trace ≡ false) (drop (rows_gone next) rows)

-- the pages of the stripes that a scan went over, as far as they may have hinted rows
abbrev pub pages_gone : Hint → Scan → ℕ
pages_gone hint scan = scanned_pages hint (take scan.next scan.info.now.stripes)

-- going on reads those pages of the stripes that it goes over or, if it fails, of all that are left
abbrev pub ReadsOn : Hint → Scan → Result Found QueryError → List (List Row) → ℕ → ℕ → Type 0
ReadsOn hint scan (Ok found) parts before now = (n : ℕ) × (pages_gone hint found.scan ≡ pages_gone hint scan + n) × RoseAtMost n before now
ReadsOn hint scan (Err why) parts before now = RoseAtMost (scanned_pages hint (drop scan.next scan.info.now.stripes)) before now

-- the steps that are left of all
abbrev pub all_steps : List Scan → ℕ
all_steps scans = sum_by steps_left scans

-- the pages of all stripes that were gone over
abbrev pub gone_pages : Hint → List Scan → ℕ
gone_pages hint scans = sum_by (pages_gone hint) scans

abbrev pub infos_of : List Scan → List InfoParts
infos_of scans = map (λ scan. scan.info.now) scans

-- ---- rounds

-- Picks were taken of sifted rows, `seen` and those of the blocks. So many pages were read for them, and so many to find them.
pub record ReadsFor (sieve : SieveParts) (seen : List Row) (infos : List InfoParts) (taken : List Pick) (found : ℕ) (parts : List (List Row)) (before now : ℕ) : Type 0 where
  pub ascend : Ascend taken
  pub only : All (Contains (sifted_picks sieve (spans_of (seen ++ flat_map (λ part. part) parts)))) taken
  pub rose : RoseAtMost (found + look_ups (traces_of taken) infos parts) before now

-- All that waits is of the sifted rows of a look and its blocks, and so far the blocks were gone through.
pub record IsGoneThrough (sieve : SieveParts) (seen : List Row) (taken : List Pick) (rounds : Rounds) (parts : List (List Row)) : Type 0 where
  pub scans : AreScans sieve rounds.gone (taken ++ all_waiting rounds.waits.items) parts rounds.scans.items
  pub only : All (Contains (sifted_picks sieve (spans_of (seen ++ flat_map (λ part. part) parts)))) (all_waiting rounds.waits.items)

-- the scans are of the look's blocks, and what waits is in batches
pub record IsWell (look : Look) (rounds : Rounds) : Type 0 where
  pub batches : AreInBatches rounds.waits.items
  pub infos : infos_of rounds.scans.items ≡ look.pin.blocks

-- a scan went on, and what was found waits
pub record IsFound (at : ℕ) (found : Found) (rounds new : Rounds) : Type 0 where
  pub scans : new.scans.items ≡ slice_set rounds.scans.items at found.scan
  pub batches : AreInBatches new.waits.items
  pub batch : List Pick
  pub waits : all_waiting new.waits.items ≡ all_waiting rounds.waits.items ++ batch
  pub is : IsBatch rounds.gone found.picks.items batch
  pub gone : new.gone ≡ rounds.gone
  pub best : new.best ≡ rounds.best

-- Picks of a look's rows: of rows that are `seen`, and they cover what is sifted of the look's `own`.
pub record PicksOf (sieve : SieveParts) (seen own : List Row) (picks : List Pick) : Type 0 where
  pub whole : All (IsCovered picks) (sifted_picks sieve (spans_of own))
  pub only : All (Contains (sifted_picks sieve (spans_of seen))) picks

-- Nothing is gone through, and what waits are these picks.
pub record IsBegun (look : Look) (asked : Asked) (picks : List Pick) (rounds : Rounds) : Type 0 where
  pub well : IsWell look rounds
  pub fresh : All IsFresh rounds.scans.items
  pub gone : rounds.gone ≡ Nothing
  pub best : rounds.best ≡ no_best asked
  pub whole : All (IsCovered (all_waiting rounds.waits.items)) picks
  pub only : All (Contains picks) (all_waiting rounds.waits.items)

-- A search came so far. All picks of traces that are gone through were taken, of the look's rows and of the blocks'.
pub record Reached {P : Type 0} (meaning : Meaning P) (look : Look) (seen own : List Row) (asked : Asked) (start : P) (rounds : Rounds) (now : P) : Type 0 where
  pub well : IsWell look rounds
  pub taken : List Pick
  pub ascend : Ascend taken
  pub taken_are : All (λ p. is_below rounds.gone p.trace ≡ true) taken
  pub waits_are : All (λ p. is_below rounds.gone p.trace ≡ false) (all_waiting rounds.waits.items)
  pub own_are : All (IsCovered (taken ++ all_waiting rounds.waits.items)) (sifted_picks (asked_sieve asked) (spans_of own))
  pub reads : PartsRead meaning look (TookTheirs asked own taken (no_best asked))
      (λ parts best. TookWith asked own taken (no_best asked) (flat_map (λ part. part) parts) best × IsGoneThrough (asked_sieve asked) seen taken rounds parts)
      (ReadsFor (asked_sieve asked) seen look.pin.blocks taken (gone_pages (asked_sieve asked).hint rounds.scans.items)) start (Ok rounds.best) now

-- It was broken off: no more was read than for some picks of sifted rows, and to find all of them.
abbrev pub BrokenOff : {P A : Type 0} → Meaning P → Look → List Row → Asked → P → Result A QueryError → P → Type 0
BrokenOff meaning look seen asked start r now = PartsRead meaning look (λ rows x. Unit {0}) (λ parts x. Unit {0})
    (λ parts before after. (taken : List Pick) × ReadsFor (asked_sieve asked) seen look.pin.blocks taken (hinted_pages (asked_sieve asked).hint look.pin.blocks) parts before after)
    start r now

-- A search goes on, or it is broken off.
abbrev pub ComesTo : {P : Type 0} → Meaning P → Look → List Row → List Row → Asked → P → Result Rounds QueryError → P → Type 0
ComesTo meaning look seen own asked start (Ok rounds) now = Reached meaning look seen own asked start rounds now
ComesTo meaning look seen own asked start (Err why) now = BrokenOff {A = Rounds} meaning look seen asked start (Err why) now

-- So does what began anywhere before.
abbrev pub GoesFrom : {P : Type 0} → Meaning P → Look → List Row → Asked → P → Rounds → Result Rounds QueryError → P → Type 0
GoesFrom {P} meaning look own asked old rounds r new =
    (seen : List Row) (start : P) → Reached meaning look seen own asked start rounds old → ComesTo meaning look seen own asked start r new

-- These results are what a search finds among the first occurrences of the rows.
abbrev pub AnswersRows : Asked → List Row → BestParts → Type 0
AnswersRows asked rows best = (firsts : List Row) × IsFirstOf rows firsts × AnswersSearch asked firsts best.kept
