-- Which block is built of rows.
use Rattle.std.specs.Prelude.{List}
use Rattle.span_types.specs.declared.spans.Row.{Row}
use Rattle.span_types.specs.First.{IsFirstOf}
use Rattle.block_format.specs.Blocks.{BlockHasInfo}
use Rattle.block_build.specs.declared.building.BuiltBlock.{BuiltBlock}

-- The bytes stand for the first occurrences of these rows and for nothing else, and the information describes them.
pub record IsBlockOf (rows : List Row) (built : BuiltBlock) : Type 0 where
  pub firsts : List Row
  pub firsts_are : IsFirstOf rows firsts
  pub describes : BlockHasInfo built.info built.bytes firsts
