use Rattle.block_stripes.proofs.NamedCells.{cells_named}
use Rattle.block_stripes.proofs.stripe_reading.scoped_rows.Goals as goal

pub rows_of_cells-requires : goal.rows_of_cells-requires
rows_of_cells-requires c = cells_named _ _ _ _ _ _ _ _ _ c.in_ok-cells.ensures
