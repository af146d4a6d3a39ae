-- The laws of what words ask, and what is read of them.
use Rattle.std.proofs.Common.{◌≡◌, ◌∙◌, ℕ, zero, suc, true, false, Option, Some, None, List, [], ◌∷◌, Result, Ok, Err, refl, sym, ap, ap₂, subst, inl, inr, ◌<◌, ◌≤◌, ◌^◌, arith}
use Rattle.std.specs.Prelude.{All, IfErr, String, codes, decimal, is_some, map, option_map, string_bytes}
use Rattle.std.specs.Str.{IsUtf8, bytes_eq}
use Rattle.std.specs.Str.Parse.{digits_value}
use Rattle.std.specs.Cmp.Lexicographic.{bytes_decides}
use Rattle.std.specs.declared.alloc.Global.{Global}
use Rattle.std.proofs.lemmas.Fmt.{decimal_is_IsNumeral}
use Rattle.std.proofs.lemmas.Str.{IsUtf8-string_bytes}
use Rattle.clap.specs.Kinds.{Kinds, or_else}
use Rattle.clap.specs.Words.{first_value, subcommand_of}
use Rattle.clap.specs.declared.parser.matches.Found.{Found}
use Rattle.clap.specs.Faults.{fault_of}
use Rattle.clap.specs.Walk.{Text}
use Rattle.clap.proofs.OnLiterals.{clap_on_literals}
use Rattle.command_words.specs.Commands.{Alone, Command, Drill, Ingest, IsDrillGiven, IsServeGiven, Serve, Session, Spells, command_of, drill, ingest, search, serve, session, trace}
use Rattle.command_words.specs.Numbers.{IsCount, clients_fault, fewest_clients, fewest_traces, greatest_seed, least_seed, most_clients, most_rounds, most_traces, rounds_fault, seed_fault, traces_fault, word_faults}
use Rattle.command_words.specs.Spelling.{Given, IsDrill, IsIngest, IsSearch, IsServe, IsSession, IsTaken, IsTrace, begins_to_serve, found_value, given_in, is_flag, search_line, trace_line}
use Rattle.command_words.specs.Table.{words_app}
use Rattle.command_words.specs.declared.asked.Asked.{Asked}
use Rattle.command_words.specs.declared.asked.WordsError.{WordsError}
use Rattle.command_words.specs.declared.asked.WordsError.TheVariants.{Refused, Memory}
use Rattle.command_words.proofs.Found.{FindsDrill, FindsSearch, FindsServe, ingest_is_not_search, trace_is_not_drill}
use Rattle.command_words.proofs.Leaves.{alone_clean, before_clean}
use Rattle.command_words.proofs.Numbers.{clean_parts, drill_only_clap, drill_parts, number_there, only_clap, seed_fits, traces_fit}
use Rattle.command_words.proofs.ServeLemmas.{clients_fit, count_there, other_name, rounds_fit, serve_only_clap, serve_parts}
use Rattle.command_words.proofs.Taken.{taken_asks, taken_clean}
use Rattle.command_words.proofs.Whole as read
use Rattle.command_words.proofs.Whole.{IsBareTrace, Read, read_from, serve_met, trace_from_bare}

session_clean : (words : List Text) → IsSession words → fault_of words_app words ≡ []
unfolding words_app clap_on_literals
session_clean words (inl is) = subst (λ (xs : List Text). fault_of words_app xs ≡ []) (sym is) refl
session_clean words (inr is) = subst (λ (xs : List Text). fault_of words_app xs ≡ []) (sym is) refl

ingest_clean : (words : List Text) → IsIngest words → fault_of words_app words ≡ []
unfolding words_app clap_on_literals
ingest_clean words (inl is) = subst (λ (xs : List Text). fault_of words_app xs ≡ []) (sym is) refl
ingest_clean words (inr is) = subst (λ (xs : List Text). fault_of words_app xs ≡ []) (sym is) refl

trace_clean : (words : List Text) (id : List ℕ) → IsTrace id words → fault_of words_app words ≡ []
unfolding words_app clap_on_literals
trace_clean words id asked = go asked
  where
    alone : is_flag id ≡ false → fault_of words_app (codes "trace" ∷ id ∷ []) ≡ []
    alone plain = ap (λ (k : Kinds). or_else k []) (alone_clean id plain)

    behind : fault_of words_app (codes "trace" ∷ codes "--" ∷ id ∷ []) ≡ []
    behind = refl

    before : is_flag id ≡ false → fault_of words_app (codes "trace" ∷ id ∷ codes "--" ∷ []) ≡ []
    before plain = ap (λ (k : Kinds). or_else k []) (before_clean id plain)

    go : IsTrace id words → fault_of words_app words ≡ []
    go (inl (is, plain)) = subst (λ (xs : List Text). fault_of words_app xs ≡ []) (sym is) (alone plain)
    go (inr (inl is)) = subst (λ (xs : List Text). fault_of words_app xs ≡ []) (sym is) behind
    go (inr (inr (is, plain))) = subst (λ (xs : List Text). fault_of words_app xs ≡ []) (sym is) (before plain)

-- ---- no words ask two things

not_both : (words : List Text) (id : List ℕ) → IsSession words → IsTrace id words → ⊥
not_both words id (inl is) (inl (also, _)) = cc
not_both words id (inl is) (inr (inl also)) = cc
not_both words id (inl is) (inr (inr (also, _))) = cc
not_both words id (inr is) (inl (also, _)) = cc
not_both words id (inr is) (inr (inl also)) = cc
not_both words id (inr is) (inr (inr (also, _))) = cc

same_id : (words : List Text) (a b : List ℕ) → IsTrace a words → IsTrace b words → a ≡ b
same_id words a b (inl (is, _)) (inl (also, _)) = cc
same_id words a b (inl (is, _)) (inr (inl also)) = cc
same_id words a b (inl (is, _)) (inr (inr (also, _))) = cc
same_id words a b (inr (inl is)) (inl (also, _)) = cc
same_id words a b (inr (inl is)) (inr (inl also)) = cc
same_id words a b (inr (inl is)) (inr (inr (also, _))) = cc
same_id words a b (inr (inr (is, _))) (inl (also, _)) = cc
same_id words a b (inr (inr (is, _))) (inr (inl also)) = cc
same_id words a b (inr (inr (is, _))) (inr (inr (also, _))) = cc

abbrev name_of : List Text → Option Text
name_of words = option_map (λ p. p.0) (subcommand_of words_app words)

session_name : (words : List Text) → IsSession words → name_of words ≡ Some (codes "session")
unfolding words_app clap_on_literals
session_name words (inl is) = subst (λ (xs : List Text). name_of xs ≡ Some (codes "session")) (sym is) refl
session_name words (inr is) = subst (λ (xs : List Text). name_of xs ≡ Some (codes "session")) (sym is) refl

ingest_name : (words : List Text) → IsIngest words → name_of words ≡ Some (codes "ingest")
unfolding words_app clap_on_literals
ingest_name words (inl is) = subst (λ (xs : List Text). name_of xs ≡ Some (codes "ingest")) (sym is) refl
ingest_name words (inr is) = subst (λ (xs : List Text). name_of xs ≡ Some (codes "ingest")) (sym is) refl

trace_name : (words : List Text) (id : List ℕ) → IsTrace id words → name_of words ≡ Some (codes "trace")
unfolding words_app clap_on_literals
trace_name words id (inl (is, _)) = subst (λ (xs : List Text). name_of xs ≡ Some (codes "trace")) (sym is) refl
trace_name words id (inr (inl is)) = subst (λ (xs : List Text). name_of xs ≡ Some (codes "trace")) (sym is) refl
trace_name words id (inr (inr (is, _))) = subst (λ (xs : List Text). name_of xs ≡ Some (codes "trace")) (sym is) refl

session_no_search : (words : List Text) (given : Given) → IsSession words → IsSearch given words → ⊥
session_no_search words given is also = let both : Some (codes "session") ≡ Some (codes "search") = sym (session_name words is) ∙ also.name in cc

trace_no_search : (words : List Text) (id : List ℕ) (given : Given) → IsTrace id words → IsSearch given words → ⊥
trace_no_search words id given is also = let both : Some (codes "trace") ≡ Some (codes "search") = sym (trace_name words id is) ∙ also.name in cc

ingest_no_session : (words : List Text) → IsIngest words → IsSession words → ⊥
ingest_no_session words is also = let both : Some (codes "ingest") ≡ Some (codes "session") = sym (ingest_name words is) ∙ session_name words also in cc

ingest_no_trace : (words : List Text) (id : List ℕ) → IsIngest words → IsTrace id words → ⊥
ingest_no_trace words id is also = let both : Some (codes "ingest") ≡ Some (codes "trace") = sym (ingest_name words is) ∙ trace_name words id also in cc

ingest_no_search : (words : List Text) (given : Given) → IsIngest words → IsSearch given words → ⊥
ingest_no_search words given is also =
    let both : Some (codes "ingest") ≡ Some (codes "search") = sym (ingest_name words is) ∙ also.name in
    ingest_is_not_search cc

drill_no_session : (words : List Text) (seed traces : Text) → IsDrill seed traces words → IsSession words → ⊥
drill_no_session words seed traces is also = let both : Some (codes "drill") ≡ Some (codes "session") = sym is.name ∙ session_name words also in cc

drill_no_ingest : (words : List Text) (seed traces : Text) → IsDrill seed traces words → IsIngest words → ⊥
drill_no_ingest words seed traces is also = let both : Some (codes "drill") ≡ Some (codes "ingest") = sym is.name ∙ ingest_name words also in cc

drill_no_trace : (words : List Text) (seed traces : Text) (id : List ℕ) → IsDrill seed traces words → IsTrace id words → ⊥
drill_no_trace words seed traces id is also =
    let both : Some (codes "trace") ≡ Some (codes "drill") = sym (trace_name words id also) ∙ is.name in
    trace_is_not_drill cc

drill_no_search : (words : List Text) (seed traces : Text) (given : Given) → IsDrill seed traces words → IsSearch given words → ⊥
drill_no_search words seed traces given is also = let both : Some (codes "drill") ≡ Some (codes "search") = sym is.name ∙ also.name in cc

-- A number is read back from its text.
same_number : (m n : ℕ) → m < 2 ^ 64 → n < 2 ^ 64 → decimal m ≡ decimal n → m ≡ n
same_number m n small also is = sym (decimal_is_IsNumeral m small).1 ∙ (ap (digits_value 10) is ∙ (decimal_is_IsNumeral n also).1)

same_drill : (words : List Text) (seed traces other others : ℕ) → IsDrill (decimal seed) (decimal traces) words → IsDrill (decimal other) (decimal others) words
    → seed ≤ greatest_seed → traces ≤ most_traces → other ≤ greatest_seed → others ≤ most_traces → Drill seed traces ≡ Drill other others
same_drill words seed traces other others is also a b c d =
    let seeds : Some (decimal seed) ≡ Some (decimal other) = sym is.seed_is ∙ also.seed_is in
    let all : Some (decimal traces) ≡ Some (decimal others) = sym is.traces_are ∙ also.traces_are in
    let seed_text : decimal seed ≡ decimal other = cc in
    let traces_text : decimal traces ≡ decimal others = cc in
    ap₂ Drill (same_number seed other (omega (arith, a, seed_fits)) (omega (arith, c, seed_fits)) seed_text)
    (same_number traces others (omega (arith, b, traces_fit)) (omega (arith, d, traces_fit)) traces_text)

-- A count that may be left out is read back too.
same_count : (text : Option Text) (m n : ℕ) → m < 2 ^ 64 → n < 2 ^ 64 → IsCount text m → IsCount text n → m ≡ n
same_count None m n small also one other = one ∙ sym other
same_count (Some t) m n small also one other = same_number m n small also (sym one ∙ other)

same_serve : (words : List Text) (clients rounds others times : ℕ) (told again : Option Text) → IsServe (decimal clients) told words → IsServe (decimal others) again words
    → IsCount told rounds → IsCount again times → clients ≤ most_clients → rounds ≤ most_rounds → others ≤ most_clients → times ≤ most_rounds
    → Serve clients rounds ≡ Serve others times
same_serve words clients rounds others times told again is also one other a b c d =
    let all : Some (decimal clients) ≡ Some (decimal others) = sym is.clients_are ∙ also.clients_are in
    let clients_text : decimal clients ≡ decimal others = cc in
    let same : told ≡ again = sym is.rounds_are ∙ also.rounds_are in
    ap₂ Serve (same_number clients others (omega (arith, a, clients_fit)) (omega (arith, c, clients_fit)) clients_text)
    (same_count again rounds times (omega (arith, b, rounds_fit)) (omega (arith, d, rounds_fit)) (subst (λ (o : Option Text). IsCount o rounds) same one) other)

-- Words that serve clients ask nothing else.
serve_no_other : (words : List Text) (clients : Text) (told : Option Text) (name : Text) → IsServe clients told words → bytes_eq name (codes "serve") ≡ false
    → name_of words ≡ Some name → ⊥
serve_no_other words clients told name is other named = other_name (name_of words) name other named is.name

same_search : (words : List Text) (a b : Given) → IsSearch a words → IsSearch b words → a ≡ b
same_search words a b x y =
    let queries : Some a.query ≡ Some b.query = sym x.query ∙ y.query in
    let query : a.query ≡ b.query = cc in
    ap (λ (l : Option (List ℕ)). record { limit = l; spss = a.spss; start = a.start; end = a.end; query = a.query }) (sym x.limit ∙ y.limit)
    ∙ (ap (λ (l : Option (List ℕ)). record { limit = b.limit; spss = l; start = a.start; end = a.end; query = a.query }) (sym x.spss ∙ y.spss)
    ∙ (ap (λ (l : Option (List ℕ)). record { limit = b.limit; spss = b.spss; start = l; end = a.end; query = a.query }) (sym x.start ∙ y.start)
    ∙ (ap (λ (l : Option (List ℕ)). record { limit = b.limit; spss = b.spss; start = b.start; end = l; query = a.query }) (sym x.end ∙ y.end)
    ∙ ap (λ (q : List ℕ). record { limit = b.limit; spss = b.spss; start = b.start; end = b.end; query = q }) query)))

-- ---- the laws

pub spelled_clean : (words : List Text) (c : Command) → Spells words c → word_faults words ≡ []
spelled_clean words c (session is) = only_clap words (codes "session") (session_name words is) refl refl (session_clean words is)
spelled_clean words c (serve clients rounds told is count clean few many most) =
    serve_only_clap words clients rounds is.name (record { is = is.clients_are; least = few; most = many })
    (subst (λ (o : Option Text). IsCount o rounds) (sym is.rounds_are) count) most clean
spelled_clean words c (ingest is) = only_clap words (codes "ingest") (ingest_name words is) refl refl (ingest_clean words is)
spelled_clean words c (drill seed traces is clean within few many) =
    drill_only_clap words seed traces is.name (record { is = is.seed_is; least = omega arith; most = within }) (record { is = is.traces_are; least = few; most = many }) clean
spelled_clean words c (trace id is) = only_clap words (codes "trace") (trace_name words id is) refl refl (trace_clean words id is)
spelled_clean words c (search given is clean) = only_clap words (codes "search") is.name refl refl clean

pub spelled_one : (words : List Text) (c d : Command) → Spells words c → Spells words d → c ≡ d
spelled_one words c d (session is) (session also) = refl
spelled_one words c d (session is) (serve clients rounds told also count clean few many most) =
    absurd (serve_no_other words _ told (codes "session") also refl (session_name words is))
spelled_one words c d (session is) (ingest also) = absurd (ingest_no_session words also is)
spelled_one words c d (session is) (drill seed traces also clean within few many) = absurd (drill_no_session words _ _ also is)
spelled_one words c d (session is) (trace id also) = absurd (not_both words id is also)
spelled_one words c d (session is) (search given also clean) = absurd (session_no_search words given is also)
spelled_one words c d (serve clients rounds told is count clean few many most) (session also) =
    absurd (serve_no_other words _ told (codes "session") is refl (session_name words also))
spelled_one words c d (serve clients rounds told is count clean few many most) (serve others times again also other free some more at_most) =
    same_serve words clients rounds others times told again is also count other many most more at_most
spelled_one words c d (serve clients rounds told is count clean few many most) (ingest also) =
    absurd (serve_no_other words _ told (codes "ingest") is refl (ingest_name words also))
spelled_one words c d (serve clients rounds told is count clean few many most) (drill seed traces also free within some more) =
    absurd (serve_no_other words _ told (codes "drill") is refl also.name)
spelled_one words c d (serve clients rounds told is count clean few many most) (trace id also) =
    absurd (serve_no_other words _ told (codes "trace") is refl (trace_name words id also))
spelled_one words c d (serve clients rounds told is count clean few many most) (search given also free) =
    absurd (serve_no_other words _ told (codes "search") is refl also.name)
spelled_one words c d (ingest is) (session also) = absurd (ingest_no_session words is also)
spelled_one words c d (ingest is) (serve clients rounds told also count clean few many most) =
    absurd (serve_no_other words _ told (codes "ingest") also refl (ingest_name words is))
spelled_one words c d (ingest is) (ingest also) = refl
spelled_one words c d (ingest is) (drill seed traces also clean within few many) = absurd (drill_no_ingest words _ _ also is)
spelled_one words c d (ingest is) (trace id also) = absurd (ingest_no_trace words id is also)
spelled_one words c d (ingest is) (search given also clean) = absurd (ingest_no_search words given is also)
spelled_one words c d (drill seed traces is clean within few many) (session also) = absurd (drill_no_session words _ _ is also)
spelled_one words c d (drill seed traces is clean within few many) (serve clients rounds told also count free some more most) =
    absurd (serve_no_other words _ told (codes "drill") also refl is.name)
spelled_one words c d (drill seed traces is clean within few many) (ingest also) = absurd (drill_no_ingest words _ _ is also)
spelled_one words c d (drill seed traces is clean within few many) (drill other others also free inside some most) =
    same_drill words seed traces other others is also within many inside most
spelled_one words c d (drill seed traces is clean within few many) (trace id also) = absurd (drill_no_trace words _ _ id is also)
spelled_one words c d (drill seed traces is clean within few many) (search given also free) = absurd (drill_no_search words _ _ given is also)
spelled_one words c d (trace id is) (session also) = absurd (not_both words id also is)
spelled_one words c d (trace id is) (serve clients rounds told also count clean few many most) =
    absurd (serve_no_other words _ told (codes "trace") also refl (trace_name words id is))
spelled_one words c d (trace id is) (ingest also) = absurd (ingest_no_trace words id also is)
spelled_one words c d (trace id is) (drill seed traces also clean within few many) = absurd (drill_no_trace words _ _ id also is)
spelled_one words c d (trace id is) (trace other also) = ap (λ (i : List ℕ). Alone (trace_line i)) (same_id words id other is also)
spelled_one words c d (trace id is) (search given also clean) = absurd (trace_no_search words id given is also)
spelled_one words c d (search given is clean) (session also) = absurd (session_no_search words given also is)
spelled_one words c d (search given is clean) (serve clients rounds told also count free few many most) =
    absurd (serve_no_other words _ told (codes "search") also refl is.name)
spelled_one words c d (search given is clean) (ingest also) = absurd (ingest_no_search words given also is)
spelled_one words c d (search given is clean) (drill seed traces also free within few many) = absurd (drill_no_search words _ _ given also is)
spelled_one words c d (search given is clean) (trace id also) = absurd (trace_no_search words id given also is)
spelled_one words c d (search given is clean) (search other also free) = ap (λ (g : Given). Alone (search_line g)) (same_search words given other is also)

pub spelled_taken : (words : List Text) (given : Given) → IsTaken given words → Spells words (Alone (search_line given))
spelled_taken words given is = search given (taken_asks given words is) (taken_clean given words is)

-- The words of a program are UTF-8.
pub strings_are_text : (strings : List (String Global)) → All IsUtf8 (map string_bytes strings)
strings_are_text [] k d less = absurd (omega (arith, less))
strings_are_text (s ∷ ss) zero d less = IsUtf8-string_bytes s
strings_are_text (s ∷ ss) (suc k) d less = strings_are_text ss k d (omega (arith, less))

-- Words of a look-up have its id among them.
id_is_text : (words : List Text) (id : List ℕ) → All IsUtf8 words → IsBareTrace id words → IsUtf8 id
id_is_text words id all (inl (is, bare)) = subst (λ (ws : List Text). All IsUtf8 ws) is all 1 [] (omega arith)
id_is_text words id all (inr (inl is)) = subst (λ (ws : List Text). All IsUtf8 ws) is all 2 [] (omega arith)
id_is_text words id all (inr (inr (is, bare))) = subst (λ (ws : List Text). All IsUtf8 ws) is all 1 [] (omega arith)

-- The search that words name.
search_spelled : (words : List Text) → fault_of words_app words ≡ [] → name_of words ≡ Some (codes "search")
    → is_some (found_value words (codes "query")) ≡ true → (c : Command) × Spells words c
search_spelled words clean name some = go (found_value words (codes "query")) refl some
  where
    go : (o : Option (List ℕ)) → found_value words (codes "query") ≡ o → is_some o ≡ true → (c : Command) × Spells words c
    go None is none = let bad : ⊥ = cc in absurd bad
    go (Some query) is there =
        let given : Given = record {
          limit = found_value words (codes "limit");
          spss = found_value words (codes "spss");
          start = found_value words (codes "start");
          end = found_value words (codes "end");
          query = query;
        } in
        (Alone (search_line given), search given (record { name = name; limit = refl; spss = refl; start = refl; end = refl; query = is }) clean)

-- The drill that words name.
drill_spelled : (words : List Text) → word_faults words ≡ [] → name_of words ≡ Some (codes "drill")
    → is_some (found_value words (codes "seed")) ≡ true → is_some (found_value words (codes "traces")) ≡ true → (c : Command) × Spells words c
drill_spelled words clean name has_seed has_traces =
    let parts = drill_parts words name clean in
    let seed = number_there least_seed greatest_seed (found_value words (codes "seed")) has_seed parts.0 in
    let traces = number_there fewest_traces most_traces (found_value words (codes "traces")) has_traces parts.1 in (
      Drill seed.0 traces.0,
      drill seed.0 traces.0 (record { name = name; seed_is = seed.1.is; traces_are = traces.1.is }) (clean_parts words clean).0 seed.1.most traces.1.least traces.1.most,
    )

-- The clients that words serve.
serve_spelled : (words : List Text) → word_faults words ≡ [] → name_of words ≡ Some (codes "serve") → is_some (found_value words (codes "clients")) ≡ true
    → (c : Command) × Spells words c
serve_spelled words clean name has_clients =
    let parts = serve_parts words name clean in
    let clients = number_there fewest_clients most_clients (found_value words (codes "clients")) has_clients parts.0 in
    let rounds = count_there (found_value words (codes "rounds")) parts.1 in (
      Serve clients.0 rounds.0,
      serve clients.0 rounds.0 (found_value words (codes "rounds")) (record { name = name; clients_are = clients.1.is; rounds_are = refl }) rounds.1
          (clean_parts words clean).0 clients.1.least clients.1.most rounds.2,
    )

pub spelled_some : (words : List Text) → All IsUtf8 words → word_faults words ≡ [] → (c : Command) × Spells words c
spelled_some words all faultless = go (read_from words clean)
  where
    clean : fault_of words_app words ≡ []
    clean = (clean_parts words faultless).0

    go : Read words (subcommand_of words_app words) → (c : Command) × Spells words c
    go (read.session name is) = (Session, session is)
    go (read.ingest name is) = (Ingest, ingest is)
    go (read.trace id name gives is) = (Alone (trace_line id), trace id (trace_from_bare id words (id_is_text words id all is) is))
    go (read.search name query) = search_spelled words clean name query
    go (read.drill name seed traces) = drill_spelled words faultless name seed traces
    go (read.serve name clients begins) = serve_spelled words faultless name clients

-- ---- what is read

pub search_asked : (words : List Text) (found : Found) → fault_of words_app words ≡ [] → FindsSearch words found → (asked : Asked)
    → ((query : List ℕ) → first_value found (codes "query") ≡ Some query → command_of asked ≡ Alone (search_line (given_in found query)))
    → Spells words (command_of asked)
search_asked words found clean finds asked gives = go (first_value found (codes "query")) refl finds.has_query
  where
    go : (o : Option (List ℕ)) → first_value found (codes "query") ≡ o → is_some o ≡ true → Spells words (command_of asked)
    go None is some = let bad : ⊥ = cc in absurd bad
    go (Some query) is some = subst (λ (c : Command). Spells words c) (sym (gives query is)) (search (given_in found query) (record {
      name = finds.name;
      limit = finds.values (codes "limit");
      spss = finds.values (codes "spss");
      start = finds.values (codes "start");
      end = finds.values (codes "end");
      query = finds.values (codes "query") ∙ is;
    }) clean)

pub trace_asked : (words : List Text) (id : List ℕ) → All IsUtf8 words → IsBareTrace id words → (asked : Asked)
    → command_of asked ≡ Alone (trace_line id) → Spells words (command_of asked)
trace_asked words id all is asked gives =
    subst (λ (c : Command). Spells words c) (sym gives) (trace id (trace_from_bare id words (id_is_text words id all is) is))

pub drill_asked : (words : List Text) (found : Found) → fault_of words_app words ≡ [] → FindsDrill words found → (asked : Asked)
    → IsDrillGiven found (command_of asked) → Spells words (command_of asked)
drill_asked words found clean finds asked given = subst (λ (c : Command). Spells words c) (sym given.is) (drill given.seed given.traces (record {
  name = finds.name;
  seed_is = finds.values (codes "seed") ∙ given.seed_is.is;
  traces_are = finds.values (codes "traces") ∙ given.traces_are.is;
}) clean given.seed_is.most given.traces_are.least given.traces_are.most)

-- Where a number of the drill is at fault, the words are.
pub drill_refused : (words : List Text) (found : Found) → FindsDrill words found
    → (or_else (seed_fault (first_value found (codes "seed"))) (traces_fault (first_value found (codes "traces"))) ≡ [] → ⊥) → word_faults words ≡ [] → ⊥
drill_refused words found finds bad clean =
    let parts = drill_parts words finds.name clean in
    let seed : seed_fault (first_value found (codes "seed")) ≡ [] = ap seed_fault (sym (finds.values (codes "seed"))) ∙ parts.0 in
    let traces : traces_fault (first_value found (codes "traces")) ≡ [] = ap traces_fault (sym (finds.values (codes "traces"))) ∙ parts.1 in
    bad (ap₂ or_else seed traces)

pub serve_asked : (words : List Text) (found : Found) → fault_of words_app words ≡ [] → FindsServe words found → (asked : Asked)
    → IsServeGiven found (command_of asked) → Spells words (command_of asked)
serve_asked words found clean finds asked given =
    subst (λ (c : Command). Spells words c) (sym given.is) (serve given.clients given.rounds (first_value found (codes "rounds")) (record {
      name = finds.name;
      clients_are = finds.values (codes "clients") ∙ given.clients_are.is;
      rounds_are = finds.values (codes "rounds");
    }) given.rounds_are clean given.clients_are.least given.clients_are.most given.few)

-- Where a number of words that serve clients is at fault, the words are.
pub serve_refused : (words : List Text) (found : Found) → FindsServe words found
    → (or_else (clients_fault (first_value found (codes "clients"))) (rounds_fault (first_value found (codes "rounds"))) ≡ [] → ⊥) → word_faults words ≡ [] → ⊥
serve_refused words found finds bad clean =
    let parts = serve_parts words finds.name clean in
    let clients : clients_fault (first_value found (codes "clients")) ≡ [] = ap clients_fault (sym (finds.values (codes "clients"))) ∙ parts.0 in
    let rounds : rounds_fault (first_value found (codes "rounds")) ≡ [] = ap rounds_fault (sym (finds.values (codes "rounds"))) ∙ parts.1 in
    bad (ap₂ or_else clients rounds)

-- Where `clap` finds a fault, the words have one.
pub clap_refused : (words : List Text) → (fault_of words_app words ≡ [] → ⊥) → word_faults words ≡ [] → ⊥
clap_refused words bad clean = bad (clean_parts words clean).0

pub never_refused : (r : Result Asked WordsError) → IfErr r (λ error. error ≡ Memory) → r ≡ Err Refused → ⊥
never_refused (Ok asked) h is = cc
never_refused (Err error) h is = cc

-- ---- the first word

-- Words that ask to serve clients begin so.
pub serve_begins : (words : List Text) (clients rounds : ℕ) → Spells words (Serve clients rounds) → begins_to_serve words ≡ true
serve_begins words clients rounds asks = go (read_from words (clean_parts words (spelled_clean words (Serve clients rounds) asks)).0) (named asks)
  where
    named : Spells words (Serve clients rounds) → name_of words ≡ Some (codes "serve")
    named (serve c r told is count clean few many most) = is.name

    go : Read words (subcommand_of words_app words) → name_of words ≡ Some (codes "serve") → begins_to_serve words ≡ true
    go (read.session name is) serves = absurd (other_name (name_of words) (codes "session") refl name serves)
    go (read.ingest name is) serves = absurd (other_name (name_of words) (codes "ingest") refl name serves)
    go (read.trace id name gives is) serves = absurd (other_name (name_of words) (codes "trace") refl name serves)
    go (read.search name query) serves = absurd (other_name (name_of words) (codes "search") refl name serves)
    go (read.drill name seed traces) serves = absurd (other_name (name_of words) (codes "drill") refl name serves)
    go (read.serve name clients begins) serves = begins

begins_named : (words : List Text) → begins_to_serve words ≡ true → name_of words ≡ Some (codes "serve")
begins_named [] begins = let bad : ⊥ = cc in absurd bad
begins_named (w ∷ rest) begins =
    let is : w ≡ codes "serve" = (bytes_decides w (codes "serve")).0 begins in
    subst (λ (x : Text). name_of (x ∷ rest) ≡ Some (codes "serve")) (sym is) (serve_met rest)

-- And words that begin so ask for nothing else.
pub begins_serves : (words : List Text) (c : Command) → begins_to_serve words ≡ true → Spells words c → (clients rounds : ℕ) × (c ≡ Serve clients rounds)
begins_serves words c begins asks = go c asks
  where
    serves : name_of words ≡ Some (codes "serve")
    serves = begins_named words begins

    go : (d : Command) → Spells words d → (clients rounds : ℕ) × (d ≡ Serve clients rounds)
    go d (session is) = absurd (other_name (name_of words) (codes "session") refl (session_name words is) serves)
    go d (serve c r told is count clean few many most) = (c, r, refl)
    go d (ingest is) = absurd (other_name (name_of words) (codes "ingest") refl (ingest_name words is) serves)
    go d (drill seed traces is clean within few many) = absurd (other_name (name_of words) (codes "drill") refl is.name serves)
    go d (trace id is) = absurd (other_name (name_of words) (codes "trace") refl (trace_name words id is) serves)
    go d (search given is clean) = absurd (other_name (name_of words) (codes "search") refl is.name serves)
