use Rattle.std.proofs.Common.{arith, sym, vec_len, ◌∙◌}
use Rattle.std.proofs.lemmas.Bool.{eqb-false, eqb-true}
use Rattle.block_build.proofs.Drafting.{some_number}
use Rattle.block_build.proofs.RowByRow.{none_wait}
use Rattle.block_build.proofs.builder.Builder.write_rest.Goals as goal

pub returns-then-is_empty : goal.returns-then-is_empty
returns-then-is_empty c =
    let none = eqb-true (vec_len c.args.self.now.rows) 0 (sym c.is_empty.ensures ∙ c.if-is_empty.true) in
    none_wait c.args.self.now (omega (arith, none, c.args.self.now.rows.ok))

pub write-requires : goal.write-requires
write-requires c =
    let rows = c.args.self.now.rows in
    let some = some_number (vec_len rows) (eqb-false (vec_len rows) 0 (sym c.is_empty.ensures ∙ c.if-is_empty.false)) in
    omega (arith, some, rows.ok)
