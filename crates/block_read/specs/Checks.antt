-- What a check keeps of the rows of a block.
use Rattle.std.specs.Prelude.{List}
use Rattle.span_types.specs.declared.spans.Row.{Row}
use Rattle.block_format.specs.Blocks.{form_of_rows, ids_of}
use Rattle.block_read.specs.declared.checking.Outline.{Outline}

-- the trace ids of rows, and the form that they want
abbrev pub outline : List Row → Outline
outline rows = record { ids = ids_of rows; form = form_of_rows rows }
