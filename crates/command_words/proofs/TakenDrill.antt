-- Words that spell a drill are without fault, and name that drill.
use Rattle.std.proofs.Common.{◌≡◌, ◌∙◌, ℕ, ◌<◌, ◌≤◌, ◌^◌, ◌%◌, ◌+◌, false, List, [], ◌∷◌, ◌++◌, Some, None, refl, ap, ap₂, arith}
use Rattle.std.specs.Prelude.{◌==◌, codes, decimal, fold, option_and_then, option_map}
use Rattle.std.proofs.lemmas.Fmt.{decimal_by_steps}
use Rattle.clap.specs.Kinds.{Kinds, or_else}
use Rattle.clap.specs.Faults.{defaults_fault, fault_of, level_fault, turn_fault, walk_fault}
use Rattle.clap.specs.Simple.{names_of, subcommand_of}
use Rattle.clap.specs.Walk.{Row, Rule, Text, Walk, finished, first_of, nothing_held, option, rows_after, walk, walked}
use Rattle.command_words.specs.Commands.{Drill, Spells, drill}
use Rattle.command_words.specs.Numbers.{fewest_traces, greatest_seed, most_traces}
use Rattle.command_words.specs.Spelling.{drill_words, is_flag}
use Rattle.command_words.specs.Table.{words_app}
use Rattle.command_words.proofs.Leaves.{IsNoFlag, drill_leaf, no_flag}
use Rattle.command_words.proofs.Numbers.{seed_fits, traces_fit}
use Rattle.command_words.proofs.Rows.{row}
use Rattle.command_words.proofs.Taken.{stopped_clean}
use Rattle.command_words.proofs.Turns.{holding, leaf_end_fault, standing}
use Rattle.command_words.proofs.Whole.{end_fault, found_at, start, stops_at, whole}

-- ---- a number is no flag

-- The text begins with a digit.
abbrev BeginsWithDigit : Text → Type 0
BeginsWithDigit [] = ⊥
BeginsWithDigit (b ∷ bs) = 48 ≤ b

decimal_begins : (n : ℕ) → n < 2 ^ 64 → BeginsWithDigit (decimal n)
decimal_begins n fits = decimal_by_steps (λ n ds. BeginsWithDigit ds) (λ n small. omega arith) longer n fits
  where
    longer : (n : ℕ) (ds : List ℕ) → 10 ≤ n → BeginsWithDigit ds → BeginsWithDigit (ds ++ ((48 + n % 10) ∷ []))
    longer n [] many begins = absurd begins
    longer n (b ∷ bs) many begins = begins

digit_is_plain : (text : Text) → BeginsWithDigit text → is_flag text ≡ false
digit_is_plain [] begins = absurd begins
digit_is_plain (b ∷ []) begins = refl
digit_is_plain (b ∷ c ∷ cs) begins = other b begins
  where
    other : (b : ℕ) → 48 ≤ b → (b == 45) ≡ false
    other b digit = grind arith

pub number_is_plain : (n : ℕ) → n < 2 ^ 64 → IsNoFlag (decimal n)
number_is_plain n fits = no_flag (decimal n) (digit_is_plain (decimal n) (decimal_begins n fits))

-- ---- the words after `drill`

abbrev rules : List Rule
rules = drill_leaf.rules

-- Where an option waits for its value, after these rows were found.
abbrev waiting_for : Text → List Row → Walk
waiting_for name rows = record { held = holding rows (Some (name, [])); waiting = option name; position = 1; is_trailing = false; stopped = None }

-- Where its value waits to be used.
abbrev taken : Text → Text → List Row → Walk
taken name value rows = standing (holding rows (Some (name, value ∷ []))) 1 false

-- A word without fault is passed.
past : (w v : Walk) (word : Text) (rest : List Text) → turn_fault drill_leaf [] w word ≡ [] → walked rules [] w word ≡ v
    → walk_fault drill_leaf [] w (word ∷ rest) ≡ walk_fault drill_leaf [] v rest
unfolding walk_fault
past w v word rest clean at = ap₂ (λ (k : Kinds) (m : Walk). or_else k (walk_fault drill_leaf [] m rest)) clean at

value_fault : (name value : Text) → IsNoFlag value → (rows : List Row) → turn_fault drill_leaf [] (waiting_for name rows) value ≡ []
value_fault name value plain rows = rw (plain.no_dashes, plain.no_long, plain.no_short) refl

seed_walk : (value : Text) → IsNoFlag value → walked rules [] (waiting_for (codes "seed") []) value ≡ taken (codes "seed") value []
unfolding walked
seed_walk value plain = rw (plain.no_dashes, plain.no_long, plain.no_short) refl

traces_walk : (value : Text) (rows : List Row) → IsNoFlag value → walked rules [] (waiting_for (codes "traces") rows) value ≡ taken (codes "traces") value rows
unfolding walked
traces_walk value rows plain = rw (plain.no_dashes, plain.no_long, plain.no_short) refl

seed_flag : walked rules [] start (codes "--seed") ≡ waiting_for (codes "seed") []
unfolding walked
seed_flag = refl

traces_flag : (seed : Text) → walked rules [] (taken (codes "seed") seed []) (codes "--traces") ≡ waiting_for (codes "traces") (row (codes "seed") seed ∷ [])
unfolding walked
traces_flag seed = refl

abbrev rest_of : Text → Text → List Text
rest_of seed traces = codes "--seed" ∷ seed ∷ codes "--traces" ∷ traces ∷ []

-- Where the words end.
abbrev end_of : Text → Text → Walk
end_of seed traces = taken (codes "traces") traces (row (codes "seed") seed ∷ [])

rest_walk : (seed traces : Text) → IsNoFlag seed → IsNoFlag traces → walk rules [] nothing_held (rest_of seed traces) ≡ end_of seed traces
rest_walk seed traces one two =
    ap (λ (w : Walk). fold (walked rules []) w (seed ∷ codes "--traces" ∷ traces ∷ [])) seed_flag
    ∙ (ap (λ (w : Walk). fold (walked rules []) w (codes "--traces" ∷ traces ∷ [])) (seed_walk seed one)
    ∙ (ap (λ (w : Walk). fold (walked rules []) w (traces ∷ [])) (traces_flag seed) ∙ traces_walk traces (row (codes "seed") seed ∷ []) two))

walk_clean : (seed traces : Text) → IsNoFlag seed → IsNoFlag traces → walk_fault drill_leaf [] start (rest_of seed traces) ≡ []
unfolding walk_fault
walk_clean seed traces one two =
    past start (waiting_for (codes "seed") []) (codes "--seed") (seed ∷ codes "--traces" ∷ traces ∷ []) refl seed_flag
    ∙ (past (waiting_for (codes "seed") []) (taken (codes "seed") seed []) seed (codes "--traces" ∷ traces ∷ []) (value_fault (codes "seed") seed one []) (seed_walk seed one)
    ∙ (past (taken (codes "seed") seed []) (waiting_for (codes "traces") (row (codes "seed") seed ∷ [])) (codes "--traces") (traces ∷ []) refl (traces_flag seed)
    ∙ past (waiting_for (codes "traces") (row (codes "seed") seed ∷ [])) (end_of seed traces) traces []
    (value_fault (codes "traces") traces two (row (codes "seed") seed ∷ [])) (traces_walk traces (row (codes "seed") seed ∷ []) two)))

end_clean : (seed traces : Text) → leaf_end_fault drill_leaf (end_of seed traces) ≡ []
unfolding defaults_fault
end_clean seed traces = refl

rest_clean : (seed traces : Text) → IsNoFlag seed → IsNoFlag traces → level_fault drill_leaf [] nothing_held (rest_of seed traces) false [] ≡ []
rest_clean seed traces one two =
    ap₂ (λ (k : Kinds) (w : Walk). or_else k (leaf_end_fault drill_leaf w)) (walk_clean seed traces one two) (rest_walk seed traces one two) ∙ end_clean seed traces

rest_rows : (seed traces : Text) → IsNoFlag seed → IsNoFlag traces
    → rows_after rules [] (rest_of seed traces) ≡ row (codes "seed") seed ∷ row (codes "traces") traces ∷ []
rest_rows seed traces one two = ap (λ (w : Walk). finished rules w.held) (rest_walk seed traces one two)

-- ---- the whole words

stops : (rest : List Text) → walk [] (names_of whole) nothing_held (codes "drill" ∷ rest) ≡ record start { stopped = Some (codes "drill", rest) }
unfolding walked
stops rest = stops_at (codes "drill") rest (codes "drill") refl

drill_clean : (rest : List Text) → level_fault drill_leaf [] nothing_held rest false [] ≡ [] → fault_of words_app (codes "drill" ∷ rest) ≡ []
unfolding words_app walked walk_fault defaults_fault
drill_clean rest clean =
    ap₂ (λ (k : Kinds) (w : Walk). or_else k (end_fault w)) (stopped_clean whole.top (names_of whole) start (codes "drill") [] rest) (stops rest)
    ∙ ap (λ (k : Kinds). or_else k []) clean

found_in : (seed traces : Text) → IsNoFlag seed → IsNoFlag traces
    → subcommand_of words_app (drill_words seed traces) ≡ Some (codes "drill", row (codes "seed") seed ∷ row (codes "traces") traces ∷ [])
found_in seed traces one two =
    found_at (drill_words seed traces) _ (stops (rest_of seed traces))
    ∙ ap (λ (rows : List Row). Some (codes "drill", rows)) (rest_rows seed traces one two)

-- ---- what is promised

pub drill_taken : (seed traces : ℕ) → seed ≤ greatest_seed → fewest_traces ≤ traces → traces ≤ most_traces
    → Spells (drill_words (decimal seed) (decimal traces)) (Drill seed traces)
drill_taken seed traces within few many =
    let one = number_is_plain seed (omega (arith, within, seed_fits)) in
    let two = number_is_plain traces (omega (arith, many, traces_fit)) in
    let at = found_in (decimal seed) (decimal traces) one two in
    drill seed traces (record {
      name = ap (option_map (λ p. p.0)) at;
      seed_is = ap (option_and_then (λ p. first_of (codes "seed") p.1)) at;
      traces_are = ap (option_and_then (λ p. first_of (codes "traces") p.1)) at;
    }) (drill_clean (rest_of (decimal seed) (decimal traces)) (rest_clean (decimal seed) (decimal traces) one two)) within few many
