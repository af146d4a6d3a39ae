use Rattle.std.proofs.Common.{sym, ◌∙◌}
use Rattle.traceql_value.specs.Matchers.{all_known}
use Rattle.traceql_value.proofs.Searching.{found_by_number}
use Rattle.traceql_value.proofs.matchers.Matchers.number_of.Goals as goal

pub returns-in-Some : goal.returns-in-Some
returns-in-Some c = λ text.
    let self = c.args.self.now in
    found_by_number self.patterns.now (all_known self.searches.items) c.in-Some.number.now c.args.string.now text self.each
    (sym c.is_search_of.ensures ∙ c.if-is_search_of.true)
