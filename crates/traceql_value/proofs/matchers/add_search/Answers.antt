use Rattle.std.proofs.Common.{◌≡◌, ◌++◌, ◌∷◌, [], Some, rules, length, sym, subst, ap, arith, ◌∙◌, cond, bytes_eq}
use Rattle.std.proofs.lemmas.List.{length-map, map-append}
use Rattle.std.proofs.lemmas.Map.Text.{btree_map_updates_str}
use Rattle.regex.specs.Strings.{matcher_pattern}
use Rattle.traceql_value.specs.Matchers.{AreSearches, all_known, known, number_of}
use Rattle.traceql_value.proofs.Searching.{searched_added, searched_again}
use Rattle.traceql_value.proofs.matchers.add_search.Goals as goal

pub returns-then-contains_key : goal.returns-then-contains_key
returns-then-contains_key c = λ ps h.
    searched_again ps (all_known c.args.searches.now.items) c.args.numbers.now c.args.pattern.now c.as_str-string.result.now c.as_str-string.ensures (search rules) h

pub returns : goal.returns
returns c = λ ps h.
    let old = c.args.searches.now.items in
    let numbers = c.args.numbers.now in
    let p = c.args.pattern.now in
    let string = c.as_str-string.result.now in
    let m = c.in_ok-matcher.matcher in
    let pushed : all_known c.push.new.self.items ≡ all_known old ++ (string, matcher_pattern m) ∷ [] =
    ap all_known c.in_ok-push.ensures.items ∙ map-append known old (record { string = c.as_str-string.result; matcher = m } ∷ []) in
    let count : c.len.result ≡ length (all_known old) = omega (arith, c.len.ensures, c.args.searches.now.ok.0, length-map old known) in
    subst (λ ks. AreSearches (ps ++ p ∷ []) ks c.insert.new.self) (sym pushed)
    (searched_added ps (all_known old) numbers c.insert.new.self p string (matcher_pattern m) c.as_str-string.ensures (search rules) c.in_ok-matcher.ensures.pattern
    (λ s. btree_map_updates_str string numbers c.insert.new.self (Some c.len.result) c.in_ok-insert.ensures.updates s
    ∙ ap (λ n. cond (bytes_eq string s) (Some n) (number_of numbers s)) count) h)
