-- What the matches of a parse tell of the words.
use Rattle.std.proofs.Common.{◌≡◌, ◌⊎◌, ◌∙◌, ℕ, List, [], Option, Some, None, false, refl, sym, subst, ap, inl, inr}
use Rattle.std.specs.Borrow.{Bor}
use Rattle.std.specs.Prelude.{Box, codes, is_some, option_and_then, option_map, true}
use Rattle.std.specs.Box.{box_value}
use Rattle.std.specs.Cmp.Lexicographic.{bytes_decides}
use Rattle.clap.specs.Words.{Row, Text, fault_of, first_of, first_value, found_of, rows_of, subcommand_name_of, subcommand_of, subcommand_rows, subcommand_rows_of}
use Rattle.clap.specs.declared.parser.matches.ArgMatches.{ArgMatches}
use Rattle.clap.specs.declared.parser.matches.ArgMatches.TheViews.{out-ArgMatches, out-SubCommand}
use Rattle.clap.specs.declared.parser.matches.Found.{Found}
use Rattle.clap.specs.declared.parser.matches.SubCommand.{SubCommand}
use Rattle.clap.proofs.WalkLemmas.{first_value-rows}
use Rattle.command_words.specs.Spelling.{IsIngest, IsSession, found_value}
use Rattle.command_words.specs.Table.{words_app}
use Rattle.command_words.proofs.Whole.{IsBareTrace, Read, drill, ingest, read_from, search, serve, session, trace}

-- The matches are those of a search that the words name.
pub record FindsSearch (words : List Text) (found : Found) : Type 0 where
  pub has_query : is_some (first_value found (codes "query")) ≡ true
  pub values : (name : Text) → found_value words name ≡ first_value found name
  pub name : option_map (λ p. p.0) (subcommand_of words_app words) ≡ Some (codes "search")

-- The matches are those of a drill that the words name.
pub record FindsDrill (words : List Text) (found : Found) : Type 0 where
  pub has_seed : is_some (first_value found (codes "seed")) ≡ true
  pub has_traces : is_some (first_value found (codes "traces")) ≡ true
  pub values : (name : Text) → found_value words name ≡ first_value found name
  pub name : option_map (λ p. p.0) (subcommand_of words_app words) ≡ Some (codes "drill")

-- The matches are those of words that serve clients.
pub record FindsServe (words : List Text) (found : Found) : Type 0 where
  pub has_clients : is_some (first_value found (codes "clients")) ≡ true
  pub values : (name : Text) → found_value words name ≡ first_value found name
  pub name : option_map (λ p. p.0) (subcommand_of words_app words) ≡ Some (codes "serve")

-- What the subcommand that a parse gives, with its matches, tells of the words.
abbrev pub Tells : List Text → Option (Bor Text × Bor ArgMatches) → Type 0
Tells words None = ⊥
Tells words (Some p) = ((p.0.now ≡ codes "session") × IsSession words)
    ⊎ (((p.0.now ≡ codes "trace") × ((id : List ℕ) × (first_value (found_of p.1.now) (codes "id") ≡ Some id) × IsBareTrace id words))
    ⊎ (((p.0.now ≡ codes "search") × FindsSearch words (found_of p.1.now))
    ⊎ (((p.0.now ≡ codes "ingest") × IsIngest words)
    ⊎ (((p.0.now ≡ codes "drill") × FindsDrill words (found_of p.1.now))
    ⊎ ((p.0.now ≡ codes "serve") × FindsServe words (found_of p.1.now))))))

name-rows : {Z : Type 0} (o : Option (Box SubCommand Z)) → option_map (λ b. (out-SubCommand (box_value b)).name.now) o ≡ option_map (λ p. p.0) (subcommand_rows o)
name-rows None = refl
name-rows (Some b) = refl

tells_from : (words : List Text) (r : Option (Bor Text × Bor ArgMatches)) (o : Option (Text × List Row))
    → option_map (λ p. p.0.now) r ≡ option_map (λ p. p.0) o → option_map (λ p. rows_of (found_of p.1.now)) r ≡ option_map (λ p. p.1) o
    → o ≡ subcommand_of words_app words → Read words o → Tells words r
tells_from words None None name rows link (session is asked) = cc
tells_from words None None name rows link (ingest is asked) = cc
tells_from words None None name rows link (trace id is gives asked) = cc
tells_from words None None name rows link (search is query) = cc
tells_from words None None name rows link (drill is seed traces) = cc
tells_from words None None name rows link (serve is clients begins) = cc
tells_from words None (Some q) name rows link read = cc
tells_from words (Some p) None name rows link read = cc
tells_from words (Some p) (Some q) name rows link (session is asked) = inl (cc, asked)
tells_from words (Some p) (Some q) name rows link (ingest is asked) = inr (inr (inr (inl (cc, asked))))
tells_from words (Some p) (Some q) name rows link (trace id is gives asked) =
    let same : rows_of (found_of p.1.now) ≡ q.1 = cc in
    inr (inl (cc, (id, first_value-rows (found_of p.1.now) (codes "id") ∙ ap (first_of (codes "id")) same ∙ gives, asked)))
tells_from words (Some p) (Some q) name rows link (search is query) =
    let same : rows_of (found_of p.1.now) ≡ q.1 = cc in
    let value = λ (n : Text). first_value-rows (found_of p.1.now) n ∙ ap (first_of n) same in
    inr (inr (inl (
      cc,
      record {
        has_query = ap is_some (value (codes "query")) ∙ query;
        values = λ n. ap (λ (o : Option (Text × List Row)). option_and_then (λ p. first_of n p.1) o) (sym link) ∙ sym (value n);
        name = ap (option_map (λ p. p.0)) (sym link) ∙ is;
      },
    )))
tells_from words (Some p) (Some q) name rows link (drill is seed traces) =
    let same : rows_of (found_of p.1.now) ≡ q.1 = cc in
    let value = λ (n : Text). first_value-rows (found_of p.1.now) n ∙ ap (first_of n) same in
    inr (inr (inr (inr (inl (
      cc,
      record {
        has_seed = ap is_some (value (codes "seed")) ∙ seed;
        has_traces = ap is_some (value (codes "traces")) ∙ traces;
        values = λ n. ap (λ (o : Option (Text × List Row)). option_and_then (λ p. first_of n p.1) o) (sym link) ∙ sym (value n);
        name = ap (option_map (λ p. p.0)) (sym link) ∙ is;
      },
    )))))
tells_from words (Some p) (Some q) name rows link (serve is clients begins) =
    let same : rows_of (found_of p.1.now) ≡ q.1 = cc in
    let value = λ (n : Text). first_value-rows (found_of p.1.now) n ∙ ap (first_of n) same in
    inr (inr (inr (inr (inr (
      cc,
      record {
        has_clients = ap is_some (value (codes "clients")) ∙ clients;
        values = λ n. ap (λ (o : Option (Text × List Row)). option_and_then (λ p. first_of n p.1) o) (sym link) ∙ sym (value n);
        name = ap (option_map (λ p. p.0)) (sym link) ∙ is;
      },
    )))))

tells : (words : List Text) (m : ArgMatches) (r : Option (Bor Text × Bor ArgMatches)) → option_map (λ p. p.0.now) r ≡ subcommand_name_of m
    → option_map (λ p. rows_of (found_of p.1.now)) r ≡ option_map (λ p. p.1) (subcommand_rows_of m) → subcommand_rows_of m ≡ subcommand_of words_app words → Read words (subcommand_rows_of m) → Tells words r
tells words m r name rows link read = tells_from words r (subcommand_rows_of m) (name ∙ name-rows (out-ArgMatches m).subcommand) rows link read

-- What the subcommand that was met tells of words without fault.
pub told : (words : List Text) (m : ArgMatches) (r : Option (Bor Text × Bor ArgMatches)) → fault_of words_app words ≡ []
    → subcommand_rows_of m ≡ subcommand_of words_app words → option_map (λ p. p.0.now) r ≡ subcommand_name_of m
    → option_map (λ p. rows_of (found_of p.1.now)) r ≡ option_map (λ p. p.1) (subcommand_rows_of m) → Tells words r
told words m r clean found name rows = tells words m r name rows found (subst (λ (o : Option (Text × List Row)). Read words o) (sym found) (read_from words clean))

-- ---- by the subcommand's name

pub ingest_is_not_search : codes "ingest" ≡ codes "search" → ⊥
ingest_is_not_search is = let bad : false ≡ true = (bytes_decides (codes "ingest") (codes "search")).1 is in cc

pub trace_is_not_drill : codes "trace" ≡ codes "drill" → ⊥
trace_is_not_drill is = let bad : false ≡ true = (bytes_decides (codes "trace") (codes "drill")).1 is in cc

pub trace_is_not_serve : codes "trace" ≡ codes "serve" → ⊥
trace_is_not_serve is = let bad : false ≡ true = (bytes_decides (codes "trace") (codes "serve")).1 is in cc

pub drill_is_not_serve : codes "drill" ≡ codes "serve" → ⊥
drill_is_not_serve is = let bad : false ≡ true = (bytes_decides (codes "drill") (codes "serve")).1 is in cc

pub tells_session : (words : List Text) (p : Bor Text × Bor ArgMatches) → Tells words (Some p) → p.0.now ≡ codes "session" → IsSession words
tells_session words p (inl told) is = told.1
tells_session words p (inr (inl told)) is = let told_is = told.0 in let bad : ⊥ = cc in absurd bad
tells_session words p (inr (inr (inl told))) is = let told_is = told.0 in let bad : ⊥ = cc in absurd bad
tells_session words p (inr (inr (inr (inl told)))) is = let told_is = told.0 in let bad : ⊥ = cc in absurd bad
tells_session words p (inr (inr (inr (inr (inl told))))) is = let told_is = told.0 in let bad : ⊥ = cc in absurd bad
tells_session words p (inr (inr (inr (inr (inr told))))) is = let told_is = told.0 in let bad : ⊥ = cc in absurd bad

pub tells_ingest : (words : List Text) (p : Bor Text × Bor ArgMatches) → Tells words (Some p) → p.0.now ≡ codes "ingest" → IsIngest words
tells_ingest words p (inl told) is = let told_is = told.0 in let bad : ⊥ = cc in absurd bad
tells_ingest words p (inr (inl told)) is = let told_is = told.0 in let bad : ⊥ = cc in absurd bad
tells_ingest words p (inr (inr (inl told))) is = absurd (ingest_is_not_search (sym is ∙ told.0))
tells_ingest words p (inr (inr (inr (inl told)))) is = told.1
tells_ingest words p (inr (inr (inr (inr (inl told))))) is = let told_is = told.0 in let bad : ⊥ = cc in absurd bad
tells_ingest words p (inr (inr (inr (inr (inr told))))) is = let told_is = told.0 in let bad : ⊥ = cc in absurd bad

pub tells_trace : (words : List Text) (p : Bor Text × Bor ArgMatches) → Tells words (Some p) → p.0.now ≡ codes "trace"
    → (id : List ℕ) × (first_value (found_of p.1.now) (codes "id") ≡ Some id) × IsBareTrace id words
tells_trace words p (inl told) is = let told_is = told.0 in let bad : ⊥ = cc in absurd bad
tells_trace words p (inr (inl told)) is = told.1
tells_trace words p (inr (inr (inl told))) is = let told_is = told.0 in let bad : ⊥ = cc in absurd bad
tells_trace words p (inr (inr (inr (inl told)))) is = let told_is = told.0 in let bad : ⊥ = cc in absurd bad
tells_trace words p (inr (inr (inr (inr (inl told))))) is = absurd (trace_is_not_drill (sym is ∙ told.0))
tells_trace words p (inr (inr (inr (inr (inr told))))) is = absurd (trace_is_not_serve (sym is ∙ told.0))

pub tells_search : (words : List Text) (p : Bor Text × Bor ArgMatches) → Tells words (Some p) → p.0.now ≡ codes "search" → FindsSearch words (found_of p.1.now)
tells_search words p (inl told) is = let told_is = told.0 in let bad : ⊥ = cc in absurd bad
tells_search words p (inr (inl told)) is = let told_is = told.0 in let bad : ⊥ = cc in absurd bad
tells_search words p (inr (inr (inl told))) is = told.1
tells_search words p (inr (inr (inr (inl told)))) is = absurd (ingest_is_not_search (sym told.0 ∙ is))
tells_search words p (inr (inr (inr (inr (inl told))))) is = let told_is = told.0 in let bad : ⊥ = cc in absurd bad
tells_search words p (inr (inr (inr (inr (inr told))))) is = let told_is = told.0 in let bad : ⊥ = cc in absurd bad

pub tells_drill : (words : List Text) (p : Bor Text × Bor ArgMatches) → Tells words (Some p) → p.0.now ≡ codes "drill" → FindsDrill words (found_of p.1.now)
tells_drill words p (inl told) is = let told_is = told.0 in let bad : ⊥ = cc in absurd bad
tells_drill words p (inr (inl told)) is = absurd (trace_is_not_drill (sym told.0 ∙ is))
tells_drill words p (inr (inr (inl told))) is = let told_is = told.0 in let bad : ⊥ = cc in absurd bad
tells_drill words p (inr (inr (inr (inl told)))) is = let told_is = told.0 in let bad : ⊥ = cc in absurd bad
tells_drill words p (inr (inr (inr (inr (inl told))))) is = told.1
tells_drill words p (inr (inr (inr (inr (inr told))))) is = absurd (drill_is_not_serve (sym is ∙ told.0))

pub tells_serve : (words : List Text) (p : Bor Text × Bor ArgMatches) → Tells words (Some p) → p.0.now ≡ codes "serve" → FindsServe words (found_of p.1.now)
tells_serve words p (inl told) is = let told_is = told.0 in let bad : ⊥ = cc in absurd bad
tells_serve words p (inr (inl told)) is = absurd (trace_is_not_serve (sym told.0 ∙ is))
tells_serve words p (inr (inr (inl told))) is = let told_is = told.0 in let bad : ⊥ = cc in absurd bad
tells_serve words p (inr (inr (inr (inl told)))) is = let told_is = told.0 in let bad : ⊥ = cc in absurd bad
tells_serve words p (inr (inr (inr (inr (inl told))))) is = absurd (drill_is_not_serve (sym told.0 ∙ is))
tells_serve words p (inr (inr (inr (inr (inr told))))) is = told.1

pub tells_one : (words : List Text) (p : Bor Text × Bor ArgMatches) → Tells words (Some p) → (p.0.now ≡ codes "session" → ⊥) → (p.0.now ≡ codes "ingest" → ⊥)
    → (p.0.now ≡ codes "drill" → ⊥) → (p.0.now ≡ codes "serve" → ⊥) → (p.0.now ≡ codes "trace" → ⊥) → (p.0.now ≡ codes "search" → ⊥) → ⊥
tells_one words p (inl told) session_not ingest_not drill_not serve_not trace_not search_not = session_not told.0
tells_one words p (inr (inl told)) session_not ingest_not drill_not serve_not trace_not search_not = trace_not told.0
tells_one words p (inr (inr (inl told))) session_not ingest_not drill_not serve_not trace_not search_not = search_not told.0
tells_one words p (inr (inr (inr (inl told)))) session_not ingest_not drill_not serve_not trace_not search_not = ingest_not told.0
tells_one words p (inr (inr (inr (inr (inl told))))) session_not ingest_not drill_not serve_not trace_not search_not = drill_not told.0
tells_one words p (inr (inr (inr (inr (inr told))))) session_not ingest_not drill_not serve_not trace_not search_not = serve_not told.0
