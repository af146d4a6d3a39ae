-- Numbers in the words of the command line, and what is at fault in words.
use Rattle.std.specs.Prelude.{◌≡◌, ◌≤◌, ◌&&◌, ℕ, List, [], ◌∷◌, Option, Some, None, codes, decimal, is_some, nat_le, if◌then◌else◌}
use Rattle.std.specs.Str.{bytes_eq}
use Rattle.std.specs.Str.Parse.{digits_value}
use Rattle.clap.specs.Kinds.{or_else}
use Rattle.clap.specs.Words.{Kinds, Row, Text, fault_of, first_of, subcommand_of}
use Rattle.clap.specs.declared.error.kind.ErrorKind.TheVariants.{ValueValidation}
use Rattle.command_words.specs.Table.{words_app}

-- The number from `low` to `high` that the text is, written in decimal digits: no sign, and no zero before other digits.
unfoldable pub number_in : ℕ → ℕ → Text → Option ℕ
number_in low high text =
    if bytes_eq (decimal (digits_value 10 text)) text && (nat_le low (digits_value 10 text) && nat_le (digits_value 10 text) high)
    then Some (digits_value 10 text) else None

-- What is at fault in a text that is to be a number from `low` to `high`. One that isn't there is no fault of a number.
abbrev pub number_fault : ℕ → ℕ → Option Text → Kinds
number_fault low high None = []
number_fault low high (Some text) = if is_some (number_in low high text) then [] else ValueValidation ∷ []

-- The least and the greatest seed, and how many traces a drill makes at least and at most.
abbrev pub least_seed : ℕ
least_seed = 0

abbrev pub greatest_seed : ℕ
greatest_seed = 18446744073709551615

abbrev pub fewest_traces : ℕ
fewest_traces = 1

abbrev pub most_traces : ℕ
most_traces = 100000

abbrev pub seed_fault : Option Text → Kinds
seed_fault seed = number_fault least_seed greatest_seed seed

abbrev pub traces_fault : Option Text → Kinds
traces_fault traces = number_fault fewest_traces most_traces traces

-- How many clients a run serves at least and at most, and how often it keeps the store up at most.
abbrev pub fewest_clients : ℕ
fewest_clients = 1

abbrev pub most_clients : ℕ
most_clients = 16

abbrev pub least_rounds : ℕ
least_rounds = 0

abbrev pub most_rounds : ℕ
most_rounds = 1000

abbrev pub clients_fault : Option Text → Kinds
clients_fault clients = number_fault fewest_clients most_clients clients

abbrev pub rounds_fault : Option Text → Kinds
rounds_fault rounds = number_fault least_rounds most_rounds rounds

-- The text is there, and is this number from `low` to `high`.
pub record IsNumber (low high : ℕ) (text : Option Text) (n : ℕ) : Type 0 where
  pub is : text ≡ Some (decimal n)
  pub least : low ≤ n
  pub most : n ≤ high

-- The text is this number, or it is left out, which means 0.
abbrev pub IsCount : Option Text → ℕ → Type 0
IsCount None n = n ≡ 0
IsCount (Some text) n = text ≡ decimal n

-- What is at fault in the numbers of the subcommand that is named. Only `drill` and `serve` have numbers that are looked at here.
abbrev pub numbers_fault : Option (Text × List Row) → Kinds
numbers_fault None = []
numbers_fault (Some p) = if bytes_eq p.0 (codes "drill")
    then or_else (seed_fault (first_of (codes "seed") p.1)) (traces_fault (first_of (codes "traces") p.1))
    else if bytes_eq p.0 (codes "serve")
    then or_else (clients_fault (first_of (codes "clients") p.1)) (rounds_fault (first_of (codes "rounds") p.1)) else []

-- What is at fault in the words: what `clap` by its own definition finds, or else a number of `drill` or `serve` that is out of its range.
unfoldable pub word_faults : List Text → Kinds
word_faults words = or_else (fault_of words_app words) (numbers_fault (subcommand_of words_app words))
