use Rattle.std.proofs.Common.{◌<◌, ◌≤◌, length, rules, sym, arith, refl}
use Rattle.std.proofs.lemmas.Option.{slice_get_past, slice_get_read}
use Rattle.regex.specs.Strings.{matcher_pattern}
use Rattle.traceql_value.proofs.Searching.{found_nowhere, known_kept, same_known}
use Rattle.traceql_value.proofs.matchers.is_match_at.Goals as goal

pub returns-then-number-len-clause-found : goal.returns-then-number-len-clause-found
returns-then-number-len-clause-found c =
    let searches = c.args.searches.now.items in
    let past : length searches ≤ c.args.number = first_of (search rules, omega (arith, c.if-number-len.true, c.len.ensures, c.args.searches.now.ok.0)) in
    sym (found_nowhere searches c.args.number c.args.text.now (slice_get_past searches c.args.number past))

pub returns-clause-same : goal.returns-clause-same
returns-clause-same c =
    let searches = c.args.searches.now.items in
    let within : c.args.number < length searches = first_of (search rules, omega (arith, c.if-number-len.false, c.len.ensures, c.args.searches.now.ok.0)) in
    let old = c.index_mut.result.now in
    known_kept searches c.args.number old (record { string = old.string; matcher = c.is_match.new.self })
    (slice_get_read searches (length searches) c.args.number old refl within c.index_mut.ensures.value)
    (same_known old.string.now (matcher_pattern c.is_match.new.self) (matcher_pattern old.matcher) c.is_match.ensures.same)
