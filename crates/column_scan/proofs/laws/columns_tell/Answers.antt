use Rattle.column_scan.proofs.ColumnLaws.{told}
use Rattle.column_scan.proofs.laws.columns_tell.Goals as goal

pub returns : goal.returns
returns c = λ ps s t e reads same. told ps s t e reads same
