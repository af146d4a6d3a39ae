use Rattle.std.proofs.Common.{ap, eqb, sym, ◌∙◌, arith}
use Rattle.std.specs.List.{list_all}
use Rattle.traceql_tokens.proofs.SumSteps.{sum_range, sum_whole, sum_fraction}
use Rattle.traceql_tokens.proofs.numbers.Sum.kind.Goals as goal

pub returns-then-self-ge-OUT_OF_RANGE : goal.returns-then-self-ge-OUT_OF_RANGE
returns-then-self-ge-OUT_OF_RANGE c = λ ps held. sum_range c.args.self.now ps held c.if-self-ge-OUT_OF_RANGE.true

pub returns-then-all_zero : goal.returns-then-all_zero
returns-then-all_zero c =
    λ ps held. sum_whole c.args.self.now ps held (omega arith) (ap (list_all (λ x. eqb x 0)) (sym c.deref.ensures.value) ∙ sym c.all_zero.ensures ∙ c.if-all_zero.true)

pub returns-else-all_zero : goal.returns-else-all_zero
returns-else-all_zero c =
    λ ps held. sum_fraction c.args.self.now ps held (omega arith) (ap (list_all (λ x. eqb x 0)) (sym c.deref.ensures.value) ∙ sym c.all_zero.ensures ∙ c.if-all_zero.false)
