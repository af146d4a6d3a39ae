-- The words that ask each thing.
use Rattle.std.specs.Prelude.{◌≡◌, ◌⊎◌, ◌==◌, ℕ, Bool, false, List, [], ◌∷◌, ◌++◌, Option, Some, None, IfSome, option_map, option_and_then, codes}
use Rattle.std.specs.Str.{bytes_eq}
use Rattle.clap.specs.Words.{first_of, first_value, subcommand_of}
use Rattle.clap.specs.declared.parser.matches.Found.{Found}
use Rattle.command_words.specs.Table.{words_app}

-- The text is a flag: a hyphen with something after it.
abbrev pub is_flag : List ℕ → Bool
is_flag (b ∷ c ∷ cs) = b == 45
is_flag _ = false

-- The word `session`. The word `--`, after which no word is a flag, may follow it.
abbrev pub IsSession : List (List ℕ) → Type 0
IsSession words = (words ≡ codes "session" ∷ []) ⊎ (words ≡ codes "session" ∷ codes "--" ∷ [])

-- The word `ingest`, which `--` may follow too.
abbrev pub IsIngest : List (List ℕ) → Type 0
IsIngest words = (words ≡ codes "ingest" ∷ []) ⊎ (words ≡ codes "ingest" ∷ codes "--" ∷ [])

-- The word `trace` and the id, which is no flag, or stands after the word `--`. That word may also follow the id.
abbrev pub IsTrace : List ℕ → List (List ℕ) → Type 0
IsTrace id words = ((words ≡ codes "trace" ∷ id ∷ []) × (is_flag id ≡ false))
    ⊎ ((words ≡ codes "trace" ∷ codes "--" ∷ id ∷ [])
    ⊎ ((words ≡ codes "trace" ∷ id ∷ codes "--" ∷ []) × (is_flag id ≡ false)))

-- The request line of a look-up.
abbrev pub trace_line : List ℕ → List ℕ
trace_line id = codes "trace " ++ id

-- ---- searches

-- what a search may be given
pub record Given : Type 0 where
  pub limit : Option (List ℕ)
  pub spss : Option (List ℕ)
  pub start : Option (List ℕ)
  pub end : Option (List ℕ)
  pub query : List ℕ

-- an option in a request line, where it is given
abbrev pub option_text : List ℕ → Option (List ℕ) → List ℕ
option_text name None = []
option_text name (Some value) = name ++ (value ++ codes " ")

-- The request line of a search: the options that are given, in this order, and the query.
abbrev pub search_line : Given → List ℕ
search_line given =
    codes "search "
    ++ option_text (codes "limit=") given.limit
    ++ option_text (codes "spss=") given.spss
    ++ option_text (codes "start=") given.start
    ++ option_text (codes "end=") given.end
    ++ given.query

-- an option in the words, where it is given: its name after two hyphens, and its value as the next word
abbrev pub option_words : List ℕ → Option (List ℕ) → List (List ℕ)
option_words name None = []
option_words name (Some value) = (codes "--" ++ name) ∷ value ∷ []

-- The words of a search as the documents spell them: the options that are given, in this order, and the query.
abbrev pub search_words : Given → List (List ℕ)
search_words given =
    codes "search"
    ∷ (option_words (codes "limit") given.limit
    ++ option_words (codes "spss") given.spss
    ++ option_words (codes "start") given.start
    ++ option_words (codes "end") given.end
    ++ given.query ∷ [])

-- the option is not given, or its value is no flag
abbrev pub IsPlain : Option (List ℕ) → Type 0
IsPlain option = IfSome option (λ value. is_flag value ≡ false)

-- The words spell this search, and no value and not the query is a flag.
pub record IsTaken (given : Given) (words : List (List ℕ)) : Type 0 where
  pub is : words ≡ search_words given
  pub limit : IsPlain given.limit
  pub spss : IsPlain given.spss
  pub start : IsPlain given.start
  pub end : IsPlain given.end
  pub query : is_flag given.query ≡ false

-- the value that `clap` by its own definition finds for an argument of the subcommand that the words name
abbrev pub found_value : List (List ℕ) → List ℕ → Option (List ℕ)
found_value words name = option_and_then (λ p. first_of name p.1) (subcommand_of words_app words)

-- By `clap`'s definition the words name `search` and give it this. Options may stand in any order and in any form that
-- `clap` takes, as `--limit=5` or after the query.
pub record IsSearch (given : Given) (words : List (List ℕ)) : Type 0 where
  pub name : option_map (λ p. p.0) (subcommand_of words_app words) ≡ Some (codes "search")
  pub limit : found_value words (codes "limit") ≡ given.limit
  pub spss : found_value words (codes "spss") ≡ given.spss
  pub start : found_value words (codes "start") ≡ given.start
  pub end : found_value words (codes "end") ≡ given.end
  pub query : found_value words (codes "query") ≡ Some given.query

-- ---- drills

-- By `clap`'s definition the words name `drill` and give these texts as its seed and as how many traces it makes. The two options
-- may stand in either order and in any form that `clap` takes, as `--seed=5`.
pub record IsDrill (seed traces : List ℕ) (words : List (List ℕ)) : Type 0 where
  pub name : option_map (λ p. p.0) (subcommand_of words_app words) ≡ Some (codes "drill")
  pub seed_is : found_value words (codes "seed") ≡ Some seed
  pub traces_are : found_value words (codes "traces") ≡ Some traces

-- The words of a drill as the documents spell them, with these texts as its numbers.
abbrev pub drill_words : List ℕ → List ℕ → List (List ℕ)
drill_words seed traces = codes "drill" ∷ codes "--seed" ∷ seed ∷ codes "--traces" ∷ traces ∷ []

-- ---- clients

-- By `clap`'s definition the words name `serve` and give these texts as how many clients there are and, if it is told, how often the
-- store is kept up. The two options may stand in either order and in any form that `clap` takes.
pub record IsServe (clients : List ℕ) (rounds : Option (List ℕ)) (words : List (List ℕ)) : Type 0 where
  pub name : option_map (λ p. p.0) (subcommand_of words_app words) ≡ Some (codes "serve")
  pub clients_are : found_value words (codes "clients") ≡ Some clients
  pub rounds_are : found_value words (codes "rounds") ≡ rounds

-- The words that serve clients as the documents spell them, with these texts as their numbers.
abbrev pub serve_words : List ℕ → Option (List ℕ) → List (List ℕ)
serve_words clients rounds = codes "serve" ∷ codes "--clients" ∷ clients ∷ option_words (codes "rounds") rounds

-- The first word is `serve`.
abbrev pub begins_to_serve : List (List ℕ) → Bool
begins_to_serve [] = false
begins_to_serve (word ∷ words) = bytes_eq word (codes "serve")

-- ---- what is found

-- what the matches of the subcommand give
abbrev pub given_in : Found → List ℕ → Given
given_in found query = record {
  limit = first_value found (codes "limit");
  spss = first_value found (codes "spss");
  start = first_value found (codes "start");
  end = first_value found (codes "end");
  query = query;
}
