use Rattle.std.proofs.Common.{ℕ, sym, subst}
use Rattle.query_fanout.specs.Bounds.{SearchReads}
use Rattle.query_fanout.specs.SearchAnswers.{IsSearchAnswer}
use Rattle.query_fanout.specs.Taking.{asked_hint}
use Rattle.query_fanout.proofs.QueryLaws.{has_asked, is_open, not_looked, not_read, read_within}
use Rattle.query_fanout.proofs.SearchLaws.{none_within, search_tells_firsts}
use Rattle.query_fanout.proofs.searching.search.Goals as goal

pub returns-in-Err-clause-asked : goal.returns-in-Err-clause-asked
returns-in-Err-clause-asked g c = not_looked g.P.LookPort.meaning c.args.port.now (IsSearchAnswer c.args.asked.now) c.look.new.self c.in-Err.ensures.called

pub returns-in-Err-clause-bounded : goal.returns-in-Err-clause-bounded
returns-in-Err-clause-bounded g c = λ told kept keeps.
    let hint = asked_hint c.args.asked.now in
    let before = g.P.LookPort.meaning.reads c.args.port.now in
    subst (λ (n : ℕ). SearchReads hint kept.outside kept.infos kept.parts before n) (sym (not_read g.P.LookPort.meaning c.args.port.now c.look.new.self c.in-Err.ensures.called))
    (none_within hint kept.outside kept.infos kept.parts before)

pub search_of_look-found-requires-after_bounds : goal.search_of_look-found-requires-after_bounds
search_of_look-found-requires-after_bounds g c κs within = is_open g.P.LookPort.meaning c.args.port.now c.look.new.self c.in-Ok.look c.in-Ok.ensures.called c.requires.holds

pub done-requires : goal.done-requires
done-requires g c = c.search_of_look-found.ensures.pages.stays.is_open

pub returns-clause-asked : goal.returns-clause-asked
returns-clause-asked g c =
    has_asked g.P.LookPort.meaning c.args.port.now (IsSearchAnswer c.args.asked.now) c.look.new.self c.search_of_look-found.new.port c.done.new.self c.in-Ok.look c.search_of_look-found.result
    (search_tells_firsts c.args.asked.now) c.in-Ok.ensures.called c.in-Ok.ensures.shows c.search_of_look-found.ensures c.done.ensures.called c.requires.holds c.in-Ok.ensures.whole

pub returns-clause-bounded : goal.returns-clause-bounded
returns-clause-bounded g c = λ told kept keeps.
    read_within g.P.LookPort.meaning c.args.port.now (λ infos rows. SearchReads (asked_hint c.args.asked.now) rows infos) c.look.new.self c.search_of_look-found.new.port c.done.new.self c.in-Ok.look
    c.search_of_look-found.result kept
    c.in-Ok.ensures.called (c.in-Ok.ensures.kept kept keeps) c.search_of_look-found.ensures c.done.ensures.called told
