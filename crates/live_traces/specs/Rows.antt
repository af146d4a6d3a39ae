-- Rows of pushes, as chunks hold them.
use Rattle.std.specs.Prelude.{ℕ, List, [], None, slice_index_or}
use Rattle.std.specs.List.{flat_map}
use Rattle.span_types.specs.declared.spans.Span.{Span}
use Rattle.span_types.specs.declared.spans.Row.{Row}
use Rattle.span_types.specs.declared.spans.SpanKind.TheVariants.{Unspecified}
use Rattle.span_types.specs.declared.spans.StatusCode.TheVariants.{Unset}
use Rattle.store_model.specs.History.{batch_rows}

-- a push: its number and its spans
pub record ChunkParts : Type 0 where
  pub number : ℕ
  pub spans : List Span

abbrev pub chunk_rows : ChunkParts → List Row
chunk_rows c = batch_rows c.number c.spans

-- the rows of pushes, and of runs
abbrev pub push_rows : List ChunkParts → List Row
push_rows pushes = flat_map chunk_rows pushes

abbrev pub run_rows : List (List Row) → List Row
run_rows runs = flat_map (λ run. run) runs

-- what stands where no span is
abbrev pub no_span : Span
no_span = record {
  trace = record { 0 = [] };
  id = record { 0 = [] };
  parent = None;
  name = [];
  kind = Unspecified;
  start = 0;
  «end» = 0;
  status = Unset;
  message = [];
  attrs = [];
  resource = record { attrs = [] };
  scope = record { name = []; version = []; attrs = [] };
  events = [];
  links = [];
}

-- the row of a span of a push
abbrev pub row_of : ChunkParts → ℕ → Row
row_of c at = record {
  place = record { number = c.number; position = at };
  span = slice_index_or c.spans at no_span;
}
