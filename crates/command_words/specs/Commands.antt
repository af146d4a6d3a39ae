-- What the words of the command line ask.
use Rattle.std.specs.Prelude.{◌≡◌, ◌≤◌, [], List, Option, codes, decimal, string_bytes, ℕ}
use Rattle.clap.specs.Words.{fault_of, first_value}
use Rattle.clap.specs.declared.parser.matches.Found.{Found}
use Rattle.command_words.specs.Numbers.{IsCount, IsNumber, fewest_clients, fewest_traces, greatest_seed, least_seed, most_clients, most_rounds, most_traces}
use Rattle.command_words.specs.Spelling.{Given, IsDrill, IsIngest, IsSearch, IsServe, IsSession, IsTrace, search_line, trace_line}
use Rattle.command_words.specs.Table.{words_app}
use Rattle.command_words.specs.declared.asked.Asked.{Asked}
use Rattle.command_words.specs.declared.asked.Asked.TheVariants as asked

-- Answer each line of the input, answer what so many clients ask by its lines at once while the store is kept up so often, push what each
-- line of the input holds, push so many traces that are made from a seed, or answer one request line, which the words make.
pub data Command : Type 0 where
  Session : Command
  Serve : (clients rounds : ℕ) → Command
  Ingest : Command
  Drill : (seed traces : ℕ) → Command
  Alone : (line : List ℕ) → Command

-- The words ask this. Numbers are written in decimal digits, with no sign and no zero before others: from 1 to 16 clients, up to 1,000
-- times, which is 0 where it isn't told; and of a drill a seed of 64 bits, and from 1 to 100,000 traces.
pub data Spells (words : List (List ℕ)) : Command → Type 0 where
  session : IsSession words → Spells words Session
  serve : (clients rounds : ℕ) (told : Option (List ℕ)) → IsServe (decimal clients) told words → IsCount told rounds → fault_of words_app words ≡ []
      → fewest_clients ≤ clients → clients ≤ most_clients → rounds ≤ most_rounds → Spells words (Serve clients rounds)
  ingest : IsIngest words → Spells words Ingest
  drill : (seed traces : ℕ) → IsDrill (decimal seed) (decimal traces) words → fault_of words_app words ≡ []
      → seed ≤ greatest_seed → fewest_traces ≤ traces → traces ≤ most_traces → Spells words (Drill seed traces)
  trace : (id : List ℕ) → IsTrace id words → Spells words (Alone (trace_line id))
  search : (given : Given) → IsSearch given words → fault_of words_app words ≡ []
      → Spells words (Alone (search_line given))

-- The command is the drill whose numbers the matches of the subcommand give.
pub record IsDrillGiven (found : Found) (c : Command) : Type 0 where
  pub seed : ℕ
  pub traces : ℕ
  pub is : c ≡ Drill seed traces
  pub seed_is : IsNumber least_seed greatest_seed (first_value found (codes "seed")) seed
  pub traces_are : IsNumber fewest_traces most_traces (first_value found (codes "traces")) traces

-- The command serves as many clients, and keeps the store up as often, as the matches of the subcommand say.
pub record IsServeGiven (found : Found) (c : Command) : Type 0 where
  pub clients : ℕ
  pub rounds : ℕ
  pub is : c ≡ Serve clients rounds
  pub clients_are : IsNumber fewest_clients most_clients (first_value found (codes "clients")) clients
  pub rounds_are : IsCount (first_value found (codes "rounds")) rounds
  pub few : rounds ≤ most_rounds

-- The command that was read.
abbrev pub command_of : Asked → Command
command_of asked.Session = Session
command_of (asked.Serve clients rounds) = Serve clients rounds
command_of asked.Ingest = Ingest
command_of (asked.Drill seed traces) = Drill seed traces
command_of (asked.Alone line) = Alone (string_bytes line)
