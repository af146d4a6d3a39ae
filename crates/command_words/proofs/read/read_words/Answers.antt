use Rattle.std.proofs.Common.{◌≡◌, ◌∙◌, ℕ, List, [], Some, None, Err, ap, arith, rules, is_some, map, string_bytes, subst, sym}
use Rattle.std.proofs.lemmas.Grind.{common_steps}
use Rattle.std.proofs.lemmas.Result.{IfOk-weaker}
use Rattle.std.specs.Borrow.{Bor}
use Rattle.clap.specs.Words.{fault_of}
use Rattle.clap.specs.declared.parser.matches.ArgMatches.{ArgMatches}
use Rattle.command_words.specs.Commands.{ingest, session}
use Rattle.command_words.specs.Table.{words_app}
use Rattle.command_words.specs.declared.asked.WordsError.TheVariants.{Refused}
use Rattle.command_words.proofs.Found.{told, tells_drill, tells_ingest, tells_one, tells_search, tells_serve, tells_session, tells_trace}
use Rattle.command_words.proofs.Spelled.{clap_refused, drill_asked, drill_refused, never_refused, search_asked, serve_asked, serve_refused, strings_are_text, trace_asked}
use Rattle.command_words.proofs.Whole.{IsBareTrace}
use Rattle.command_words.proofs.read.read_words.Goals as goal

pub unreachable-requires : goal.unreachable-requires
unreachable-requires c =
    let words = map string_bytes c.args.words.now in
    told words c.in_ok-matches.matches None c.in_ok-matches.ensures.no_fault c.in_ok-matches.ensures.found c.in_default.ensures.name c.in_default.ensures.rows

pub returns-in-session-clause-asked : goal.returns-in-session-clause-asked
returns-in-session-clause-asked c =
    let words = map string_bytes c.args.words.now in
    let met : Bor (List ℕ) × Bor ArgMatches = (c.in-Some.name, c.in-Some.given) in
    let tells = told words c.in_ok-matches.matches (Some met) c.in_ok-matches.ensures.no_fault c.in_ok-matches.ensures.found c.in-Some.ensures.name c.in-Some.ensures.rows in
    session (tells_session words met tells c.in-session.is)

pub returns-in-ingest-clause-asked : goal.returns-in-ingest-clause-asked
returns-in-ingest-clause-asked c =
    let words = map string_bytes c.args.words.now in
    let met : Bor (List ℕ) × Bor ArgMatches = (c.in-Some.name, c.in-Some.given) in
    let tells = told words c.in_ok-matches.matches (Some met) c.in_ok-matches.ensures.no_fault c.in_ok-matches.ensures.found c.in-Some.ensures.name c.in-Some.ensures.rows in
    ingest (tells_ingest words met tells c.in-ingest.is)

pub returns-in_err-matches-clause-refused : goal.returns-in_err-matches-clause-refused
returns-in_err-matches-clause-refused c =
    let words = map string_bytes c.args.words.now in
    let by_clap : c.from_residual.result ≡ Err Refused → fault_of words_app words ≡ [] → ⊥ = first_of (search rules, grind (arith, common_steps)) in
    λ refused. clap_refused words (by_clap refused)

pub asked_drill-requires-clause-seed : goal.asked_drill-requires-clause-seed
asked_drill-requires-clause-seed c =
    let words = map string_bytes c.args.words.now in
    let met : Bor (List ℕ) × Bor ArgMatches = (c.in-Some.name, c.in-Some.given) in
    let tells = told words c.in_ok-matches.matches (Some met) c.in_ok-matches.ensures.no_fault c.in_ok-matches.ensures.found c.in-Some.ensures.name c.in-Some.ensures.rows in
    (tells_drill words met tells c.in-drill.is).has_seed

pub asked_drill-requires-clause-traces : goal.asked_drill-requires-clause-traces
asked_drill-requires-clause-traces c =
    let words = map string_bytes c.args.words.now in
    let met : Bor (List ℕ) × Bor ArgMatches = (c.in-Some.name, c.in-Some.given) in
    let tells = told words c.in_ok-matches.matches (Some met) c.in_ok-matches.ensures.no_fault c.in_ok-matches.ensures.found c.in-Some.ensures.name c.in-Some.ensures.rows in
    (tells_drill words met tells c.in-drill.is).has_traces

pub returns-in-drill-clause-asked : goal.returns-in-drill-clause-asked
returns-in-drill-clause-asked c =
    let words = map string_bytes c.args.words.now in
    let met : Bor (List ℕ) × Bor ArgMatches = (c.in-Some.name, c.in-Some.given) in
    let tells = told words c.in_ok-matches.matches (Some met) c.in_ok-matches.ensures.no_fault c.in_ok-matches.ensures.found c.in-Some.ensures.name c.in-Some.ensures.rows in
    IfOk-weaker c.asked_drill.result _ _
    (drill_asked words _ c.in_ok-matches.ensures.no_fault (tells_drill words met tells c.in-drill.is)) c.asked_drill.ensures.ok

pub returns-in-drill-clause-refused : goal.returns-in-drill-clause-refused
returns-in-drill-clause-refused c =
    let words = map string_bytes c.args.words.now in
    let met : Bor (List ℕ) × Bor ArgMatches = (c.in-Some.name, c.in-Some.given) in
    let tells = told words c.in_ok-matches.matches (Some met) c.in_ok-matches.ensures.no_fault c.in_ok-matches.ensures.found c.in-Some.ensures.name c.in-Some.ensures.rows in
    λ e. drill_refused words _ (tells_drill words met tells c.in-drill.is) (c.asked_drill.ensures.refused e)

pub asked_serve-requires : goal.asked_serve-requires
asked_serve-requires c =
    let words = map string_bytes c.args.words.now in
    let met : Bor (List ℕ) × Bor ArgMatches = (c.in-Some.name, c.in-Some.given) in
    let tells = told words c.in_ok-matches.matches (Some met) c.in_ok-matches.ensures.no_fault c.in_ok-matches.ensures.found c.in-Some.ensures.name c.in-Some.ensures.rows in
    (tells_serve words met tells c.in-serve.is).has_clients

pub returns-in-serve-clause-asked : goal.returns-in-serve-clause-asked
returns-in-serve-clause-asked c =
    let words = map string_bytes c.args.words.now in
    let met : Bor (List ℕ) × Bor ArgMatches = (c.in-Some.name, c.in-Some.given) in
    let tells = told words c.in_ok-matches.matches (Some met) c.in_ok-matches.ensures.no_fault c.in_ok-matches.ensures.found c.in-Some.ensures.name c.in-Some.ensures.rows in
    IfOk-weaker c.asked_serve.result _ _
    (serve_asked words _ c.in_ok-matches.ensures.no_fault (tells_serve words met tells c.in-serve.is)) c.asked_serve.ensures.ok

pub returns-in-serve-clause-refused : goal.returns-in-serve-clause-refused
returns-in-serve-clause-refused c =
    let words = map string_bytes c.args.words.now in
    let met : Bor (List ℕ) × Bor ArgMatches = (c.in-Some.name, c.in-Some.given) in
    let tells = told words c.in_ok-matches.matches (Some met) c.in_ok-matches.ensures.no_fault c.in_ok-matches.ensures.found c.in-Some.ensures.name c.in-Some.ensures.rows in
    λ e. serve_refused words _ (tells_serve words met tells c.in-serve.is) (c.asked_serve.ensures.refused e)

pub id_of-requires : goal.id_of-requires
id_of-requires c =
    let words = map string_bytes c.args.words.now in
    let met : Bor (List ℕ) × Bor ArgMatches = (c.in-Some.name, c.in-Some.given) in
    let tells = told words c.in_ok-matches.matches (Some met) c.in_ok-matches.ensures.no_fault c.in_ok-matches.ensures.found c.in-Some.ensures.name c.in-Some.ensures.rows in
    ap is_some (tells_trace words met tells c.in-trace.is).1

pub returns-in-trace-clause-asked : goal.returns-in-trace-clause-asked
returns-in-trace-clause-asked c =
    let words = map string_bytes c.args.words.now in
    let met : Bor (List ℕ) × Bor ArgMatches = (c.in-Some.name, c.in-Some.given) in
    let tells = told words c.in_ok-matches.matches (Some met) c.in_ok-matches.ensures.no_fault c.in_ok-matches.ensures.found c.in-Some.ensures.name c.in-Some.ensures.rows in
    let given = tells_trace words met tells c.in-trace.is in
    let both : Some given.0 ≡ Some c.id_of.result.now = sym given.1 ∙ c.id_of.ensures in
    let same : given.0 ≡ c.id_of.result.now = cc in
    IfOk-weaker c.asked_trace.result _ _
    (trace_asked words c.id_of.result.now (strings_are_text c.args.words.now) (subst (λ (t : List ℕ). IsBareTrace t words) same given.2)) c.asked_trace.ensures.ok

pub returns-in-trace-clause-refused : goal.returns-in-trace-clause-refused
returns-in-trace-clause-refused c = λ e. absurd (never_refused c.asked_trace.result c.asked_trace.ensures.err e)

pub asked_search-requires : goal.asked_search-requires
asked_search-requires c =
    let words = map string_bytes c.args.words.now in
    let met : Bor (List ℕ) × Bor ArgMatches = (c.in-Some.name, c.in-Some.given) in
    let tells = told words c.in_ok-matches.matches (Some met) c.in_ok-matches.ensures.no_fault c.in_ok-matches.ensures.found c.in-Some.ensures.name c.in-Some.ensures.rows in
    (tells_search words met tells c.in-search.is).has_query

pub returns-in-search-clause-asked : goal.returns-in-search-clause-asked
returns-in-search-clause-asked c =
    let words = map string_bytes c.args.words.now in
    let met : Bor (List ℕ) × Bor ArgMatches = (c.in-Some.name, c.in-Some.given) in
    let tells = told words c.in_ok-matches.matches (Some met) c.in_ok-matches.ensures.no_fault c.in_ok-matches.ensures.found c.in-Some.ensures.name c.in-Some.ensures.rows in
    IfOk-weaker c.asked_search.result _ _
    (search_asked words _ c.in_ok-matches.ensures.no_fault (tells_search words met tells c.in-search.is)) c.asked_search.ensures.ok

pub returns-in-search-clause-refused : goal.returns-in-search-clause-refused
returns-in-search-clause-refused c = λ e. absurd (never_refused c.asked_search.result c.asked_search.ensures.err e)

pub unreachable-requires-in_default-name : goal.unreachable-requires-in_default-name
unreachable-requires-in_default-name c =
    let words = map string_bytes c.args.words.now in
    let met : Bor (List ℕ) × Bor ArgMatches = (c.in-Some.name, c.in-Some.given) in
    let tells = told words c.in_ok-matches.matches (Some met) c.in_ok-matches.ensures.no_fault c.in_ok-matches.ensures.found c.in-Some.ensures.name c.in-Some.ensures.rows in
    tells_one words met tells c.in_default-name.not-session c.in_default-name.not-ingest c.in_default-name.not-drill c.in_default-name.not-serve c.in_default-name.not-trace c.in_default-name.not-search
