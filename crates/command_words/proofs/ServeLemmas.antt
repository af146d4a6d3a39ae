-- The numbers of words that serve clients, and what is told apart by a subcommand's name.
use Rattle.std.proofs.Common.{◌≡◌, ◌∙◌, ◌<◌, ◌≤◌, ◌^◌, ℕ, true, false, List, [], Option, Some, None, refl, sym, lit<, arith}
use Rattle.std.specs.Prelude.{codes, decimal, option_and_then, option_map}
use Rattle.std.specs.Cmp.Lexicographic.{bytes_decides}
use Rattle.std.specs.Str.{bytes_eq}
use Rattle.clap.specs.Walk.{Row, Text, first_of}
use Rattle.clap.specs.Words.{fault_of, subcommand_of}
use Rattle.command_words.specs.Numbers.{IsCount, IsNumber, clients_fault, fewest_clients, least_rounds, most_clients, most_rounds, numbers_fault, rounds_fault, word_faults}
use Rattle.command_words.specs.Spelling.{found_value}
use Rattle.command_words.specs.Table.{words_app}
use Rattle.command_words.proofs.Numbers.{clean_parts, in_is, none_at_fault, number_there}
use Rattle.command_words.proofs.Turns.{none_first}

pub clients_fit : most_clients < 2 ^ 64
clients_fit = lit< tt

pub rounds_fit : most_rounds < 2 ^ 64
rounds_fit = lit< tt

-- ---- a count that may be left out

-- One that is in its range is no fault.
pub count_clean : (text : Option Text) (n : ℕ) → n ≤ most_rounds → IsCount text n → rounds_fault text ≡ []
count_clean None n most is = refl
count_clean (Some t) n most is = rw (in_is least_rounds most_rounds n t (let fits = rounds_fit in omega (arith, most, fits)) (omega arith) most is) refl

-- Without fault there is one.
pub count_there : (text : Option Text) → rounds_fault text ≡ [] → (n : ℕ) × IsCount text n × (n ≤ most_rounds)
count_there None clean = (0, refl, omega arith)
count_there (Some t) clean =
    let is = number_there least_rounds most_rounds (Some t) refl clean in
    (is.0, same t (decimal is.0) is.1.is, is.1.most)
  where
    same : (a b : Text) → Some a ≡ Some b → a ≡ b
    same a b e = cc

-- A number that is there is a count.
pub number_counts : (low high n : ℕ) (text : Option Text) → IsNumber low high text n → IsCount text n
number_counts low high n None is = let bad = is.is in let no : ⊥ = cc in absurd no
number_counts low high n (Some t) is = let one = is.is in cc

-- ---- the faults of words

-- Words that serve clients, whose numbers are in their ranges.
pub serve_only_clap : (words : List Text) (clients rounds : ℕ) → option_map (λ p. p.0) (subcommand_of words_app words) ≡ Some (codes "serve")
    → IsNumber fewest_clients most_clients (found_value words (codes "clients")) clients → IsCount (found_value words (codes "rounds")) rounds → rounds ≤ most_rounds
    → fault_of words_app words ≡ [] → word_faults words ≡ []
unfolding word_faults
serve_only_clap words clients rounds named clients_are rounds_are few clean = rw clean (go (subcommand_of words_app words) named clients_are rounds_are)
  where
    go : (o : Option (Text × List Row)) → option_map (λ p. p.0) o ≡ Some (codes "serve")
        → IsNumber fewest_clients most_clients (option_and_then (λ p. first_of (codes "clients") p.1) o) clients
        → IsCount (option_and_then (λ p. first_of (codes "rounds") p.1) o) rounds → numbers_fault o ≡ []
    go None is c r = refl
    go (Some p) is c r =
        let same : p.0 ≡ codes "serve" = cc in
        rw (same, none_at_fault fewest_clients most_clients clients (first_of (codes "clients") p.1) clients_fit c)
        (count_clean (first_of (codes "rounds") p.1) rounds few r)

-- What is at fault in the numbers of words that serve clients.
pub serve_parts : (words : List Text) → option_map (λ p. p.0) (subcommand_of words_app words) ≡ Some (codes "serve") → word_faults words ≡ []
    → (clients_fault (found_value words (codes "clients")) ≡ []) × (rounds_fault (found_value words (codes "rounds")) ≡ [])
serve_parts words named clean = go (subcommand_of words_app words) named (clean_parts words clean).1
  where
    go : (o : Option (Text × List Row)) → option_map (λ p. p.0) o ≡ Some (codes "serve") → numbers_fault o ≡ []
        → (clients_fault (option_and_then (λ p. first_of (codes "clients") p.1) o) ≡ []) × (rounds_fault (option_and_then (λ p. first_of (codes "rounds") p.1) o) ≡ [])
    go None is none = (refl, refl)
    go (Some p) is none =
        let same : p.0 ≡ codes "serve" = cc in
        none_first (clients_fault (first_of (codes "clients") p.1)) (rounds_fault (first_of (codes "rounds") p.1)) (rw same at none)

-- ---- names

-- No name is `serve` that isn't the same bytes.
pub other_name : (o : Option Text) (name : Text) → bytes_eq name (codes "serve") ≡ false → o ≡ Some name → o ≡ Some (codes "serve") → ⊥
other_name o name other is serves =
    let same : name ≡ codes "serve" = cc in
    let bytes : bytes_eq name (codes "serve") ≡ true = (bytes_decides name (codes "serve")).1 same in
    let bad : false ≡ true = sym other ∙ bytes in
    cc
