use Rattle.store_model.proofs.RowSetLaws.{any_order}
use Rattle.store_model.proofs.laws.one_order.Goals as goal

pub returns : goal.returns
returns c = any_order
