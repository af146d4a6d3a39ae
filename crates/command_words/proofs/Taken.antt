-- Words that spell a search are without fault, and name that search.
use Rattle.std.proofs.Common.{◌≡◌, ◌∙◌, ◌&&◌, ◌||◌, Bool, true, false, List, [], ◌∷◌, ◌++◌, Option, Some, None, refl, sym, ap, ap₂, append-nil, append_assoc}
use Rattle.std.specs.Prelude.{codes, fold, option_and_then, option_map, if◌then◌else◌}
use Rattle.std.specs.Str.{bytes_eq}
use Rattle.clap.specs.Kinds.{Kinds, or_else}
use Rattle.clap.specs.Lexer.{long_of}
use Rattle.clap.specs.Faults.{check_fault, default_fault, defaults_fault, fault_of, level_fault, settle_fault, turn_fault, walk_fault}
use Rattle.clap.specs.Simple.{Shape, filled, with_index, names_of, subcommand_of}
use Rattle.clap.specs.Walk.{Held, Names, Row, Rule, Text, Walk, arg_by_id, arg_by_long, finished, first_of, has_row, is_pending, pushed, nothing_held, option, rows_after, settled, settled_rows, walk, walked, with_default}
use Rattle.command_words.specs.Spelling.{Given, IsPlain, IsSearch, IsTaken, found_value, option_words, search_words}
use Rattle.command_words.specs.Table.{option_rule, query_rule, words_app}
use Rattle.command_words.proofs.Full.{TakeOne, no_defaults}
use Rattle.command_words.proofs.Leaves.{IsNoFlag, no_flag, search_leaf, search_takes_one}
use Rattle.command_words.proofs.Rows.{first_kept, first_own, given_later, row, rows_for, set_last, still_fresh}
use Rattle.command_words.proofs.Turns.{dashes_text, holding, leaf_end_fault, standing}
use Rattle.command_words.proofs.Whole.{end_fault, found_at, start, stops_at, whole}

abbrev rules : List Rule
rules = search_leaf.rules

-- ---- one option

-- The word is the flag of the option with this name.
record IsOption (name word : Text) : Type 0 where
  no_dashes : bytes_eq word dashes_text ≡ false
  long : long_of word ≡ Some (name, None)
  by_long : arg_by_long rules name ≡ Some (filled (option_rule name))
  by_id : arg_by_id rules name ≡ Some (filled (option_rule name))
  same : bytes_eq name name ≡ true

-- Where an option waits for its value.
abbrev waiting_for : Text → List Row → Walk
waiting_for name rows = record { held = holding rows (Some (name, [])); waiting = option name; position = 1; is_trailing = false; stopped = None }

flag_fault : (name word : Text) → IsOption name word → (rows : List Row) (pending : Option (Text × List Text)) → settle_fault rules false (holding rows pending) ≡ []
    → turn_fault search_leaf [] (standing (holding rows pending) 1 false) word ≡ []
flag_fault name word is rows pending settles = rw (is.no_dashes, is.long, is.by_long) (rw settles refl)

flag_walk : (name word : Text) → IsOption name word → (rows : List Row) (pending : Option (Text × List Text))
    → walked rules [] (standing (holding rows pending) 1 false) word ≡ waiting_for name (settled_rows rules pending rows)
unfolding walked
flag_walk name word is rows pending = rw (is.no_dashes, is.long, is.by_long) refl

value_fault : (name value : Text) → IsNoFlag value → (rows : List Row) → turn_fault search_leaf [] (waiting_for name rows) value ≡ []
value_fault name value plain rows = rw (plain.no_dashes, plain.no_long, plain.no_short) refl

value_walk : (name word value : Text) → IsOption name word → IsNoFlag value → (rows : List Row)
    → walked rules [] (waiting_for name rows) value ≡ standing (holding rows (Some (name, value ∷ []))) 1 false
unfolding walked
value_walk name word value is plain rows = rw (plain.no_dashes, plain.no_long, plain.no_short, is.by_id, is.same) refl

-- The value is used at the next flag, or at the end.
value_settles : (name word value : Text) → IsOption name word → (rows : List Row) → has_row name rows ≡ false
    → settle_fault rules false (holding rows (Some (name, value ∷ []))) ≡ []
value_settles name word value is rows fresh = rw is.by_id (rw fresh refl)

value_rows : (name word value : Text) → IsOption name word → (rows : List Row) → has_row name rows ≡ false
    → settled_rows rules (Some (name, value ∷ [])) rows ≡ rows ++ rows_for name (Some value)
value_rows name word value is rows fresh = rw is.by_id (set_last name _ value rows fresh)

-- ---- the options one after another

-- A word without fault is passed.
past : (w v : Walk) (word : Text) (rest : List Text) → turn_fault search_leaf [] w word ≡ [] → walked rules [] w word ≡ v
    → walk_fault search_leaf [] w (word ∷ rest) ≡ walk_fault search_leaf [] v rest
unfolding walk_fault
past w v word rest clean at = ap₂ (λ (k : Kinds) (m : Walk). or_else k (walk_fault search_leaf [] m rest)) clean at

-- The words that `before` puts before others are passed, and these rows are found in them.
record Reached (before : List Text → List Text) (found : List Row) : Type 0 where
  rows : List Row
  pending : Option (Text × List Text)
  faults : (rest : List Text) → walk_fault search_leaf [] start (before rest) ≡ walk_fault search_leaf [] (standing (holding rows pending) 1 false) rest
  walks : (rest : List Text) → fold (walked rules []) start (before rest) ≡ fold (walked rules []) (standing (holding rows pending) 1 false) rest
  settles : settle_fault rules false (holding rows pending) ≡ []
  are : settled_rows rules pending rows ≡ found

at_first : Reached (λ rest. rest) []
at_first = record { rows = []; pending = None; faults = λ rest. refl; walks = λ rest. refl; settles = refl; are = refl }

-- An option more, which may be left out.
with_option : (before : List Text → List Text) (found : List Row) (name : Text) (given : Option Text) → IsOption name (codes "--" ++ name) → IsPlain given
    → has_row name found ≡ false → Reached before found → Reached (λ rest. before (option_words name given ++ rest)) (found ++ rows_for name given)
with_option before found name None is plain fresh r = record {
  rows = r.rows;
  pending = r.pending;
  faults = r.faults;
  walks = r.walks;
  settles = r.settles;
  are = r.are ∙ sym (append-nil found);
}
with_option before found name (Some value) is plain fresh r = record {
  rows = found;
  pending = Some (name, value ∷ []);
  faults = λ rest. r.faults (word ∷ value ∷ rest)
      ∙ (past here _ word (value ∷ rest) (flag_fault name word is r.rows r.pending r.settles) waits
      ∙ past (waiting_for name found) _ value rest (value_fault name value bare found) taken);
  walks = λ rest. r.walks (word ∷ value ∷ rest)
      ∙ (ap (λ (w : Walk). fold (walked rules []) w (value ∷ rest)) waits
      ∙ ap (λ (w : Walk). fold (walked rules []) w rest) taken);
  settles = value_settles name word value is found fresh;
  are = value_rows name word value is found fresh;
}
  where
    word : Text
    word = codes "--" ++ name

    here : Walk
    here = standing (holding r.rows r.pending) 1 false

    bare : IsNoFlag value
    bare = no_flag value plain

    waits : walked rules [] here word ≡ waiting_for name found
    waits = flag_walk name word is r.rows r.pending ∙ ap (waiting_for name) r.are

    taken : walked rules [] (waiting_for name found) value ≡ standing (holding found (Some (name, value ∷ []))) 1 false
    taken = value_walk name word value is bare found

limit_option : IsOption (codes "limit") (codes "--limit")
limit_option = record { no_dashes = refl; long = refl; by_long = refl; by_id = refl; same = refl }

spss_option : IsOption (codes "spss") (codes "--spss")
spss_option = record { no_dashes = refl; long = refl; by_long = refl; by_id = refl; same = refl }

start_option : IsOption (codes "start") (codes "--start")
start_option = record { no_dashes = refl; long = refl; by_long = refl; by_id = refl; same = refl }

end_option : IsOption (codes "end") (codes "--end")
end_option = record { no_dashes = refl; long = refl; by_long = refl; by_id = refl; same = refl }

-- ---- the query

-- Where the query waits to be used.
abbrev asked : Text → List Row → Walk
asked query rows = standing (holding rows (Some (codes "query", query ∷ []))) 2 false

-- Nothing of the query is pending yet.
not_yet : {A : Type 0} (is_pending : Bool) (more one : A) → (if is_pending && false then more else one) ≡ one
not_yet true more one = refl
not_yet false more one = refl

query_fault : (query : Text) → IsNoFlag query → (rows : List Row) (pending : Option (Text × List Text)) → settle_fault rules false (holding rows pending) ≡ []
    → turn_fault search_leaf [] (standing (holding rows pending) 1 false) query ≡ []
query_fault query plain rows pending settles = rw (plain.no_dashes, plain.no_long, plain.no_short) (not_yet (is_pending (with_index 1 (filled query_rule)) pending) [] _ ∙ settles)

query_walk : (query : Text) → IsNoFlag query → (rows : List Row) (pending : Option (Text × List Text))
    → walked rules [] (standing (holding rows pending) 1 false) query ≡ asked query (settled_rows rules pending rows)
unfolding walked
query_walk query plain rows pending =
    rw (plain.no_dashes, plain.no_long, plain.no_short)
    (ap (λ (h : Held). standing (pushed (codes "query") query h) 2 false)
    (not_yet (is_pending (with_index 1 (filled query_rule)) pending) (holding rows pending) (settled rules (holding rows pending))))

-- ---- the end

-- No argument has a value where it isn't given.
defaults_clean : (rules : List Rule) (rows : List Row) → TakeOne rules → defaults_fault rows rules ≡ []
unfolding defaults_fault
defaults_clean [] rows all = refl
defaults_clean (a ∷ rest) rows all = ap₂ or_else one (defaults_clean rest (with_default rows a) all.1)
  where
    none : (b : Bool) (k : Kinds) → (if b || true then [] else k) ≡ []
    none true k = refl
    none false k = refl

    one : default_fault rows a ≡ []
    one = rw all.0.bare (none (has_row a.id rows) _)

-- What is found at the end.
asked_rows : (query : Text) (rows : List Row) → has_row (codes "query") rows ≡ false → finished rules (asked query rows).held ≡ rows ++ row (codes "query") query ∷ []
asked_rows query rows fresh = no_defaults rules _ search_takes_one ∙ set_last (codes "query") _ query rows fresh

asked_checks : (query : Text) (rows : List Row) → has_row (codes "query") rows ≡ false → check_fault search_leaf (rows ++ row (codes "query") query ∷ []) false ≡ []
asked_checks query rows fresh = rw (given_later (codes "query") rows (row (codes "query") query ∷ []) fresh) refl

asked_clean : (query : Text) (rows : List Row) → has_row (codes "query") rows ≡ false → leaf_end_fault search_leaf (asked query rows) ≡ []
asked_clean query rows fresh = ap₂ or_else settles (ap₂ or_else (defaults_clean rules _ search_takes_one) checks)
  where
    settles : settle_fault rules false (asked query rows).held ≡ []
    settles = rw fresh refl

    checks : check_fault search_leaf (finished rules (asked query rows).held) false ≡ []
    checks = rw (asked_rows query rows fresh) (asked_checks query rows fresh)

-- ---- the words after `search`

-- The options that are found, up to each.
abbrev to_limit : Given → List Row
to_limit g = [] ++ rows_for (codes "limit") g.limit

abbrev to_spss : Given → List Row
to_spss g = to_limit g ++ rows_for (codes "spss") g.spss

abbrev to_start : Given → List Row
to_start g = to_spss g ++ rows_for (codes "start") g.start

abbrev to_end : Given → List Row
to_end g = to_start g ++ rows_for (codes "end") g.end

spss_fresh : (g : Given) → has_row (codes "spss") (to_limit g) ≡ false
spss_fresh g = still_fresh (codes "spss") (codes "limit") g.limit [] refl refl

start_fresh : (g : Given) → has_row (codes "start") (to_spss g) ≡ false
start_fresh g =
    still_fresh (codes "start") (codes "spss") g.spss (to_limit g) refl
    (still_fresh (codes "start") (codes "limit") g.limit [] refl refl)

end_fresh : (g : Given) → has_row (codes "end") (to_start g) ≡ false
end_fresh g =
    still_fresh (codes "end") (codes "start") g.start (to_spss g) refl
    (still_fresh (codes "end") (codes "spss") g.spss (to_limit g) refl
    (still_fresh (codes "end") (codes "limit") g.limit [] refl refl))

query_fresh : (g : Given) → has_row (codes "query") (to_end g) ≡ false
query_fresh g =
    still_fresh (codes "query") (codes "end") g.end (to_start g) refl
    (still_fresh (codes "query") (codes "start") g.start (to_spss g) refl
    (still_fresh (codes "query") (codes "spss") g.spss (to_limit g) refl
    (still_fresh (codes "query") (codes "limit") g.limit [] refl refl)))

-- The words of the options, before others.
abbrev options_before : Given → List Text → List Text
options_before g rest =
    option_words (codes "limit") g.limit
    ++ (option_words (codes "spss") g.spss ++ (option_words (codes "start") g.start ++ (option_words (codes "end") g.end ++ rest)))

reached : (g : Given) (words : List Text) → IsTaken g words → Reached (options_before g) (to_end g)
reached g words is =
    with_option _ (to_start g) (codes "end") g.end end_option is.end (end_fresh g)
    (with_option _ (to_spss g) (codes "start") g.start start_option is.start (start_fresh g)
    (with_option _ (to_limit g) (codes "spss") g.spss spss_option is.spss (spss_fresh g)
    (with_option _ [] (codes "limit") g.limit limit_option is.limit refl at_first)))

abbrev rest_of : Given → List Text
rest_of g = options_before g (g.query ∷ [])

spelled : (g : Given) → search_words g ≡ codes "search" ∷ rest_of g
spelled g = simp append_assoc refl

rest_walk : (g : Given) (words : List Text) → IsTaken g words → walk rules [] nothing_held (rest_of g) ≡ asked g.query (to_end g)
rest_walk g words is =
    let r = reached g words is in
    r.walks (g.query ∷ []) ∙ (query_walk g.query (no_flag g.query is.query) r.rows r.pending ∙ ap (asked g.query) r.are)

rest_clean : (g : Given) (words : List Text) → IsTaken g words → level_fault search_leaf [] nothing_held (rest_of g) false [] ≡ []
unfolding walk_fault
rest_clean g words is =
    let r = reached g words is in
    let clean = r.faults (g.query ∷ [])
    ∙ past (standing (holding r.rows r.pending) 1 false) _ g.query [] (query_fault g.query (no_flag g.query is.query) r.rows r.pending r.settles) refl in
    ap₂ (λ (k : Kinds) (w : Walk). or_else k (leaf_end_fault search_leaf w)) clean (rest_walk g words is) ∙ asked_clean g.query (to_end g) (query_fresh g)

rest_rows : (g : Given) (words : List Text) → IsTaken g words → rows_after rules [] (rest_of g) ≡ to_end g ++ rows_for (codes "query") (Some g.query)
rest_rows g words is = ap (λ (w : Walk). finished rules w.held) (rest_walk g words is) ∙ asked_rows g.query (to_end g) (query_fresh g)

-- ---- the whole words

-- Words after a subcommand's name are not looked at.
pub stopped_clean : (s : Shape) (names : Names) (w : Walk) (name : Text) (kept rest : List Text) → walk_fault s names (record w { stopped = Some (name, kept) }) rest ≡ []
unfolding walked walk_fault
stopped_clean s names w name kept [] = refl
stopped_clean s names w name kept (word ∷ rest) = stopped_clean s names w name (kept ++ word ∷ []) rest

stops : (rest : List Text) → walk [] (names_of whole) nothing_held (codes "search" ∷ rest) ≡ record start { stopped = Some (codes "search", rest) }
unfolding walked
stops rest = stops_at (codes "search") rest (codes "search") refl

search_clean : (rest : List Text) → level_fault search_leaf [] nothing_held rest false [] ≡ [] → fault_of words_app (codes "search" ∷ rest) ≡ []
unfolding words_app walked walk_fault defaults_fault
search_clean rest clean =
    ap₂ (λ (k : Kinds) (w : Walk). or_else k (end_fault w)) (stopped_clean whole.top (names_of whole) start (codes "search") [] rest) (stops rest)
    ∙ ap (λ (k : Kinds). or_else k []) clean

-- What is found in the words of a search.
found_in : (g : Given) (words : List Text) → IsTaken g words → subcommand_of words_app words ≡ Some (codes "search", to_end g ++ rows_for (codes "query") (Some g.query))
found_in g words is =
    ap (subcommand_of words_app) (is.is ∙ spelled g)
    ∙ (found_at (codes "search" ∷ rest_of g) _ (stops (rest_of g))
    ∙ ap (λ (rows : List Row). Some (codes "search", rows)) (rest_rows g words is))

-- ---- what is promised

pub taken_clean : (g : Given) (words : List Text) → IsTaken g words → fault_of words_app words ≡ []
taken_clean g words is = ap (fault_of words_app) (is.is ∙ spelled g) ∙ search_clean (rest_of g) (rest_clean g words is)

pub taken_asks : (g : Given) (words : List Text) → IsTaken g words → IsSearch g words
taken_asks g words is = record {
  name = ap (option_map (λ p. p.0)) at;
  limit = value (codes "limit")
      ∙ (first_kept (codes "limit") (codes "query") (Some g.query) (to_end g) refl
      ∙ (first_kept (codes "limit") (codes "end") g.end (to_start g) refl
      ∙ (first_kept (codes "limit") (codes "start") g.start (to_spss g) refl
      ∙ (first_kept (codes "limit") (codes "spss") g.spss (to_limit g) refl
      ∙ first_own (codes "limit") g.limit [] refl refl))));
  spss = value (codes "spss")
      ∙ (first_kept (codes "spss") (codes "query") (Some g.query) (to_end g) refl
      ∙ (first_kept (codes "spss") (codes "end") g.end (to_start g) refl
      ∙ (first_kept (codes "spss") (codes "start") g.start (to_spss g) refl
      ∙ first_own (codes "spss") g.spss (to_limit g) refl (spss_fresh g))));
  start = value (codes "start")
      ∙ (first_kept (codes "start") (codes "query") (Some g.query) (to_end g) refl
      ∙ (first_kept (codes "start") (codes "end") g.end (to_start g) refl
      ∙ first_own (codes "start") g.start (to_spss g) refl (start_fresh g)));
  end = value (codes "end")
      ∙ (first_kept (codes "end") (codes "query") (Some g.query) (to_end g) refl
      ∙ first_own (codes "end") g.end (to_start g) refl (end_fresh g));
  query = value (codes "query") ∙ first_own (codes "query") (Some g.query) (to_end g) refl (query_fresh g);
}
  where
    at : subcommand_of words_app words ≡ Some (codes "search", to_end g ++ rows_for (codes "query") (Some g.query))
    at = found_in g words is

    value : (name : Text) → found_value words name ≡ first_of name (to_end g ++ rows_for (codes "query") (Some g.query))
    value name = ap (option_and_then (λ p. first_of name p.1)) at
