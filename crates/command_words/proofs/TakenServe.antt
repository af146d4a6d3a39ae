-- Words that spell a run for several clients are without fault, and name it.
use Rattle.std.proofs.Common.{◌≡◌, ◌∙◌, ℕ, ◌≤◌, false, List, [], ◌∷◌, Option, Some, None, refl, sym, ap, ap₂, subst, arith}
use Rattle.std.specs.Prelude.{codes, decimal, fold, option_and_then, option_map}
use Rattle.clap.specs.Kinds.{Kinds, or_else}
use Rattle.clap.specs.Faults.{defaults_fault, fault_of, level_fault, turn_fault, walk_fault}
use Rattle.clap.specs.Simple.{names_of, subcommand_of}
use Rattle.clap.specs.Walk.{Row, Rule, Text, Walk, finished, first_of, nothing_held, option, rows_after, walk, walked}
use Rattle.command_words.specs.Commands.{Serve, Spells, serve}
use Rattle.command_words.specs.Numbers.{IsCount, fewest_clients, most_clients, most_rounds}
use Rattle.command_words.specs.Spelling.{serve_words}
use Rattle.command_words.specs.Table.{words_app}
use Rattle.command_words.proofs.Leaves.{IsNoFlag}
use Rattle.command_words.proofs.Rows.{row, rows_for}
use Rattle.command_words.proofs.ServeLeaf.{serve_leaf}
use Rattle.command_words.proofs.ServeLemmas.{clients_fit, rounds_fit}
use Rattle.command_words.proofs.Taken.{stopped_clean}
use Rattle.command_words.proofs.TakenDrill.{number_is_plain}
use Rattle.command_words.proofs.Turns.{holding, leaf_end_fault, standing}
use Rattle.command_words.proofs.Whole.{end_fault, found_at, start, stops_at, whole}

-- ---- the words after `serve`

abbrev rules : List Rule
rules = serve_leaf.rules

-- Where an option waits for its value, after these rows were found.
abbrev waiting_for : Text → List Row → Walk
waiting_for name rows = record { held = holding rows (Some (name, [])); waiting = option name; position = 1; is_trailing = false; stopped = None }

-- Where its value waits to be used.
abbrev taken : Text → Text → List Row → Walk
taken name value rows = standing (holding rows (Some (name, value ∷ []))) 1 false

-- A word without fault is passed.
past : (w v : Walk) (word : Text) (rest : List Text) → turn_fault serve_leaf [] w word ≡ [] → walked rules [] w word ≡ v
    → walk_fault serve_leaf [] w (word ∷ rest) ≡ walk_fault serve_leaf [] v rest
unfolding walk_fault
past w v word rest clean at = ap₂ (λ (k : Kinds) (m : Walk). or_else k (walk_fault serve_leaf [] m rest)) clean at

value_fault : (name value : Text) → IsNoFlag value → (rows : List Row) → turn_fault serve_leaf [] (waiting_for name rows) value ≡ []
value_fault name value plain rows = rw (plain.no_dashes, plain.no_long, plain.no_short) refl

clients_walk : (value : Text) → IsNoFlag value → walked rules [] (waiting_for (codes "clients") []) value ≡ taken (codes "clients") value []
unfolding walked
clients_walk value plain = rw (plain.no_dashes, plain.no_long, plain.no_short) refl

rounds_walk : (value : Text) (rows : List Row) → IsNoFlag value → walked rules [] (waiting_for (codes "rounds") rows) value ≡ taken (codes "rounds") value rows
unfolding walked
rounds_walk value rows plain = rw (plain.no_dashes, plain.no_long, plain.no_short) refl

clients_flag : walked rules [] start (codes "--clients") ≡ waiting_for (codes "clients") []
unfolding walked
clients_flag = refl

rounds_flag : (clients : Text) → walked rules [] (taken (codes "clients") clients []) (codes "--rounds") ≡ waiting_for (codes "rounds") (row (codes "clients") clients ∷ [])
unfolding walked
rounds_flag clients = refl

-- The words after `serve`, and those that may follow the clients' number.
abbrev rest_of : Text → List Text → List Text
rest_of clients later = codes "--clients" ∷ clients ∷ later

abbrev rounds_words : Option Text → List Text
rounds_words None = []
rounds_words (Some rounds) = codes "--rounds" ∷ rounds ∷ []

-- Where the words end.
abbrev end_of : Text → Option Text → Walk
end_of clients None = taken (codes "clients") clients []
end_of clients (Some rounds) = taken (codes "rounds") rounds (row (codes "clients") clients ∷ [])

-- What may be told as rounds is no flag.
abbrev IsPlainIfTold : Option Text → Type 0
IsPlainIfTold None = Unit {0}
IsPlainIfTold (Some rounds) = IsNoFlag rounds

later_walk : (clients : Text) (told : Option Text) → IsPlainIfTold told
    → fold (walked rules []) (taken (codes "clients") clients []) (rounds_words told) ≡ end_of clients told
later_walk clients None plain = refl
later_walk clients (Some rounds) plain =
    ap (λ (w : Walk). fold (walked rules []) w (rounds ∷ [])) (rounds_flag clients) ∙ rounds_walk rounds (row (codes "clients") clients ∷ []) plain

rest_walk : (clients : Text) (told : Option Text) → IsNoFlag clients → IsPlainIfTold told
    → walk rules [] nothing_held (rest_of clients (rounds_words told)) ≡ end_of clients told
rest_walk clients told one two =
    ap (λ (w : Walk). fold (walked rules []) w (clients ∷ rounds_words told)) clients_flag
    ∙ (ap (λ (w : Walk). fold (walked rules []) w (rounds_words told)) (clients_walk clients one) ∙ later_walk clients told two)

later_clean : (clients : Text) (told : Option Text) → IsPlainIfTold told → walk_fault serve_leaf [] (taken (codes "clients") clients []) (rounds_words told) ≡ []
unfolding walk_fault
later_clean clients None plain = refl
later_clean clients (Some rounds) plain =
    past (taken (codes "clients") clients []) (waiting_for (codes "rounds") (row (codes "clients") clients ∷ [])) (codes "--rounds") (rounds ∷ []) refl (rounds_flag clients)
    ∙ past (waiting_for (codes "rounds") (row (codes "clients") clients ∷ [])) (end_of clients (Some rounds)) rounds []
    (value_fault (codes "rounds") rounds plain (row (codes "clients") clients ∷ [])) (rounds_walk rounds (row (codes "clients") clients ∷ []) plain)

walk_clean : (clients : Text) (told : Option Text) → IsNoFlag clients → IsPlainIfTold told → walk_fault serve_leaf [] start (rest_of clients (rounds_words told)) ≡ []
walk_clean clients told one two =
    past start (waiting_for (codes "clients") []) (codes "--clients") (clients ∷ rounds_words told) refl clients_flag
    ∙ (past (waiting_for (codes "clients") []) (taken (codes "clients") clients []) clients (rounds_words told) (value_fault (codes "clients") clients one []) (clients_walk clients one)
    ∙ later_clean clients told two)

end_clean : (clients : Text) (told : Option Text) → leaf_end_fault serve_leaf (end_of clients told) ≡ []
unfolding defaults_fault
end_clean clients None = refl
end_clean clients (Some rounds) = refl

rest_clean : (clients : Text) (told : Option Text) → IsNoFlag clients → IsPlainIfTold told
    → level_fault serve_leaf [] nothing_held (rest_of clients (rounds_words told)) false [] ≡ []
rest_clean clients told one two =
    ap₂ (λ (k : Kinds) (w : Walk). or_else k (leaf_end_fault serve_leaf w)) (walk_clean clients told one two) (rest_walk clients told one two) ∙ end_clean clients told

end_rows : (clients : Text) (told : Option Text) → finished rules (end_of clients told).held ≡ row (codes "clients") clients ∷ rows_for (codes "rounds") told
end_rows clients None = refl
end_rows clients (Some rounds) = refl

rest_rows : (clients : Text) (told : Option Text) → IsNoFlag clients → IsPlainIfTold told
    → rows_after rules [] (rest_of clients (rounds_words told)) ≡ row (codes "clients") clients ∷ rows_for (codes "rounds") told
rest_rows clients told one two = ap (λ (w : Walk). finished rules w.held) (rest_walk clients told one two) ∙ end_rows clients told

-- ---- the whole words

stops : (rest : List Text) → walk [] (names_of whole) nothing_held (codes "serve" ∷ rest) ≡ record start { stopped = Some (codes "serve", rest) }
unfolding walked
stops rest = stops_at (codes "serve") rest (codes "serve") refl

serve_clean : (rest : List Text) → level_fault serve_leaf [] nothing_held rest false [] ≡ [] → fault_of words_app (codes "serve" ∷ rest) ≡ []
unfolding words_app walked walk_fault defaults_fault
serve_clean rest clean =
    ap₂ (λ (k : Kinds) (w : Walk). or_else k (end_fault w)) (stopped_clean whole.top (names_of whole) start (codes "serve") [] rest) (stops rest)
    ∙ ap (λ (k : Kinds). or_else k []) clean

spelled : (clients : Text) (told : Option Text) → serve_words clients told ≡ codes "serve" ∷ rest_of clients (rounds_words told)
spelled clients None = refl
spelled clients (Some rounds) = refl

found_in : (clients : Text) (told : Option Text) → IsNoFlag clients → IsPlainIfTold told
    → subcommand_of words_app (serve_words clients told) ≡ Some (codes "serve", row (codes "clients") clients ∷ rows_for (codes "rounds") told)
found_in clients told one two =
    ap (subcommand_of words_app) (spelled clients told)
    ∙ (found_at (codes "serve" ∷ rest_of clients (rounds_words told)) _ (stops (rest_of clients (rounds_words told)))
    ∙ ap (λ (rows : List Row). Some (codes "serve", rows)) (rest_rows clients told one two))

-- What is found of the two among these rows.
rounds_found : (clients : Text) (told : Option Text) → first_of (codes "rounds") (row (codes "clients") clients ∷ rows_for (codes "rounds") told) ≡ told
rounds_found clients None = refl
rounds_found clients (Some rounds) = refl

clients_found : (clients : Text) (told : Option Text) → first_of (codes "clients") (row (codes "clients") clients ∷ rows_for (codes "rounds") told) ≡ Some clients
clients_found clients told = refl

-- ---- what is promised

plain_count : (told : Option Text) (rounds : ℕ) → rounds ≤ most_rounds → IsCount told rounds → IsPlainIfTold told
plain_count None rounds most is = tt
plain_count (Some text) rounds most is = subst (λ (t : Text). IsNoFlag t) (sym is) (number_is_plain rounds (omega (arith, most, rounds_fit)))

pub serve_taken : (clients rounds : ℕ) (told : Option (List ℕ)) → IsCount told rounds → fewest_clients ≤ clients → clients ≤ most_clients → rounds ≤ most_rounds
    → Spells (serve_words (decimal clients) told) (Serve clients rounds)
serve_taken clients rounds told count few many most =
    let one = number_is_plain clients (omega (arith, many, clients_fit)) in
    let two = plain_count told rounds most count in
    let at = found_in (decimal clients) told one two in
    serve clients rounds told (record {
      name = ap (option_map (λ p. p.0)) at;
      clients_are = ap (option_and_then (λ p. first_of (codes "clients") p.1)) at ∙ clients_found (decimal clients) told;
      rounds_are = ap (option_and_then (λ p. first_of (codes "rounds") p.1)) at ∙ rounds_found (decimal clients) told;
    }) count (ap (fault_of words_app) (spelled (decimal clients) told) ∙ serve_clean (rest_of (decimal clients) (rounds_words told)) (rest_clean (decimal clients) told one two))
    few many most
