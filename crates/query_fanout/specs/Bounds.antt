-- How many pages a look-up and a search may read.
use Rattle.std.specs.Prelude.{ℕ, ◌+◌, List, [], ◌∷◌, ◌++◌, sum_by}
use Rattle.std.specs.List.{flat_map}
use Rattle.span_types.specs.declared.ids.TraceId.{TraceId}
use Rattle.span_types.specs.declared.spans.Row.{Row}
use Rattle.block_info.specs.InfoParts.{InfoParts}
use Rattle.block_read.specs.Answers.{RoseAtMost}
use Rattle.block_read.specs.Lookups.{most_pages}
use Rattle.column_scan.specs.Candidates.{AreCandidates, hint_of, spans_of}
use Rattle.column_scan.specs.Scans.{scanned_pages}
use Rattle.column_scan.specs.declared.hints.Hint.{Hint}
use Rattle.store_state.specs.Kept.{Kept}
use Rattle.traceql_syntax.specs.Trees.{query_tree}
use Rattle.query_fanout.specs.declared.searching.Asked.{Asked}

-- what a look-up of a trace may read of blocks with these rows, one part for each block
abbrev pub look_up_pages : TraceId → List InfoParts → List (List Row) → ℕ
look_up_pages id [] parts = 0
look_up_pages id (info ∷ infos) [] = 0
look_up_pages id (info ∷ infos) (rows ∷ parts) = most_pages info id rows + look_up_pages id infos parts

-- all rows that a look sees: its own, and those of the parts that its blocks are read to
abbrev pub all_rows : List Row → List (List Row) → List Row
all_rows rows parts = rows ++ flat_map (λ part. part) parts

-- what a search may read for candidates: the stripes that may have hinted rows
abbrev pub hinted_pages : Hint → List InfoParts → ℕ
hinted_pages hint infos = sum_by (λ info. scanned_pages hint info.stripes) infos

-- What a search may read of blocks with these rows: for candidates the stripes that may have hinted rows, and for each of these traces
-- what a look-up of it may read.
abbrev pub search_pages : Hint → List TraceId → List InfoParts → List (List Row) → ℕ
search_pages hint ids infos parts =
    hinted_pages hint infos + sum_by (λ id. look_up_pages id infos parts) ids

-- A search reads at most so many pages: its candidates are the traces that have a hinted row among those of the blocks and those outside
-- of them.
abbrev pub SearchReads : Hint → List Row → List InfoParts → List (List Row) → ℕ → ℕ → Type 0
SearchReads hint outside infos parts before now =
    (ids : List TraceId) × AreCandidates hint (spans_of (all_rows outside parts)) ids × RoseAtMost (search_pages hint ids infos parts) before now

-- The same of what is kept, by the query's hint.
abbrev pub SearchReadsOf : Asked → Kept → ℕ → ℕ → Type 0
SearchReadsOf asked kept before now =
    SearchReads (hint_of (query_tree asked.checked.query) asked.range) kept.outside kept.infos kept.parts before now
