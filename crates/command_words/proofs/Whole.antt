-- What the whole words are, where `clap` finds no fault.
use Rattle.std.proofs.Common.{◌≡◌, ◌⊎◌, ◌∙◌, Bool, true, false, List, [], ◌∷◌, Option, Some, None, refl, sym, subst, ap, ap₂, inl, inr}
use Rattle.std.specs.Prelude.{codes, find, fold, is_some, option_and_then, option_map}
use Rattle.std.specs.Str.{IsUtf8, bytes_eq}
use Rattle.std.specs.Cmp.Lexicographic.{bytes_decides}
use Rattle.clap.specs.Kinds.{Kinds, or_else}
use Rattle.clap.specs.Faults.{check_fault, defaults_fault, entered_fault, fault_of, settle_fault, walk_fault}
use Rattle.clap.specs.Simple.{App, built, entered, names_of, subcommand_of, with_subcommand}
use Rattle.clap.specs.declared.error.kind.ErrorKind.{ErrorKind}
use Rattle.clap.specs.declared.error.kind.ErrorKind.TheVariants as kind
use Rattle.clap.specs.Walk.{Row, Text, Walk, answers_to, finished, first_of, nothing_held, settled, walk, walk_from, walked}
use Rattle.command_words.specs.Spelling.{IsIngest, IsSession, IsTrace, begins_to_serve}
use Rattle.command_words.specs.Table.{bare_app, drill_shape, ingest_shape, search_shape, serve_shape, session_shape, trace_shape, words_app}
use Rattle.command_words.proofs.Leaves.{IsIdRest, bare_is_no_flag, drill_rest, ingest_rest, search_rest, session_rest, trace_rest}
use Rattle.command_words.proofs.ServeLeaf.{serve_rest}
use Rattle.command_words.proofs.Turns.{HasNoFlags, IsBare, dashes, dashes_text, flag, none_first, placed, standing, stop_more, stray_is_fault, trailing_none, turned, walk_next}

-- The command as it is built.
abbrev pub whole : App
whole = built (with_subcommand (with_subcommand (with_subcommand (with_subcommand (with_subcommand (with_subcommand bare_app
    session_shape) ingest_shape) trace_shape) search_shape) drill_shape) serve_shape)

-- As `IsTrace`, where the id is bare rather than no flag.
abbrev pub IsBareTrace : Text → List Text → Type 0
IsBareTrace id words = ((words ≡ codes "trace" ∷ id ∷ []) × IsBare id)
    ⊎ ((words ≡ codes "trace" ∷ dashes_text ∷ id ∷ []) ⊎ ((words ≡ codes "trace" ∷ id ∷ dashes_text ∷ []) × IsBare id))

pub trace_from_bare : (id : Text) (words : List Text) → IsUtf8 id → IsBareTrace id words → IsTrace id words
trace_from_bare id words text (inl (is, bare)) = inl (is, bare_is_no_flag id text bare)
trace_from_bare id words text (inr (inl is)) = inr (inl is)
trace_from_bare id words text (inr (inr (is, bare))) = inr (inr (is, bare_is_no_flag id text bare))

-- What the words are and what `clap` finds in them.
pub data Read (words : List Text) (found : Option (Text × List Row)) : Type 0 where
  session : option_map (λ p. p.0) found ≡ Some (codes "session") → IsSession words → Read words found
  ingest : option_map (λ p. p.0) found ≡ Some (codes "ingest") → IsIngest words → Read words found
  trace : (id : Text) → option_map (λ p. p.0) found ≡ Some (codes "trace")
      → option_and_then (λ p. first_of (codes "id") p.1) found ≡ Some id → IsBareTrace id words → Read words found
  search : option_map (λ p. p.0) found ≡ Some (codes "search")
      → is_some (option_and_then (λ p. first_of (codes "query") p.1) found) ≡ true → Read words found
  drill : option_map (λ p. p.0) found ≡ Some (codes "drill")
      → is_some (option_and_then (λ p. first_of (codes "seed") p.1) found) ≡ true
      → is_some (option_and_then (λ p. first_of (codes "traces") p.1) found) ≡ true → Read words found
  serve : option_map (λ p. p.0) found ≡ Some (codes "serve")
      → is_some (option_and_then (λ p. first_of (codes "clients") p.1) found) ≡ true → begins_to_serve words ≡ true → Read words found

-- What is at fault after the first step, by where the walk over the words ends.
abbrev pub end_fault : Walk → Kinds
end_fault end = or_else (entered_fault whole end.stopped) (or_else (settle_fault [] false end.held)
    (or_else (defaults_fault (settled [] end.held).rows [])
    (check_fault whole.top (finished [] end.held) (is_some (entered whole end.stopped)))))

abbrev pub start : Walk
start = walk_from nothing_held

-- A walk that meets a subcommand at the first word.
pub stops_at : (w : Text) (rest : List Text) (name : Text) → walked [] (names_of whole) start w ≡ record start { stopped = Some (name, []) }
    → walk [] (names_of whole) nothing_held (w ∷ rest) ≡ record start { stopped = Some (name, rest) }
stops_at w rest name met = ap (λ (v : Walk). fold (walked [] (names_of whole)) v rest) met ∙ stop_more [] (names_of whole) start name [] rest

whole_flags : HasNoFlags whole.top.rules
whole_flags = record { no_long = λ name. refl; no_short = λ c. refl }

-- Where nothing is at fault, neither is anything after the first step.
ends_clean : (words : List Text) (end : Walk) → walk [] (names_of whole) nothing_held words ≡ end → fault_of words_app words ≡ []
    → (walk_fault whole.top (names_of whole) start words ≡ []) × (end_fault end ≡ [])
unfolding words_app
ends_clean words end at h =
    let parts = none_first _ _ h in
    (parts.0, subst (λ (v : Walk). end_fault v ≡ []) at parts.1)

pub found_at : (words : List Text) (end : Walk) → walk [] (names_of whole) nothing_held words ≡ end → subcommand_of words_app words ≡ entered whole end.stopped
unfolding words_app
found_at words end at = ap (λ (v : Walk). entered whole v.stopped) at

-- The subcommand's words where its name is the first word.
session_first : (w : Text) (rest : List Text) → bytes_eq (codes "session") w ≡ true → fault_of words_app (w ∷ rest) ≡ []
    → Read (w ∷ rest) (subcommand_of words_app (w ∷ rest))
unfolding walked
session_first w rest same h =
    let is : codes "session" ≡ w = (bytes_decides (codes "session") w).0 same in
    let end = stops_at w rest (codes "session")
    (subst (λ (x : Text). walked [] (names_of whole) start x ≡ record start { stopped = Some (codes "session", []) }) is refl) in
    let clean = (none_first _ _ (ends_clean (w ∷ rest) _ end h).1).0 in
    session (ap (option_map (λ p. p.0)) (found_at (w ∷ rest) _ end)) (with_first is (session_rest rest clean))
  where
    with_first : codes "session" ≡ w → (rest ≡ []) ⊎ (rest ≡ dashes_text ∷ []) → IsSession (w ∷ rest)
    with_first is (inl none) = inl (ap₂ (λ (x : Text) (xs : List Text). x ∷ xs) (sym is) none)
    with_first is (inr one) = inr (ap₂ (λ (x : Text) (xs : List Text). x ∷ xs) (sym is) one)

ingest_first : (w : Text) (rest : List Text) → bytes_eq (codes "ingest") w ≡ true → fault_of words_app (w ∷ rest) ≡ []
    → Read (w ∷ rest) (subcommand_of words_app (w ∷ rest))
unfolding walked
ingest_first w rest same h =
    let is : codes "ingest" ≡ w = (bytes_decides (codes "ingest") w).0 same in
    let end = stops_at w rest (codes "ingest")
    (subst (λ (x : Text). walked [] (names_of whole) start x ≡ record start { stopped = Some (codes "ingest", []) }) is refl) in
    let clean = (none_first _ _ (ends_clean (w ∷ rest) _ end h).1).0 in
    ingest (ap (option_map (λ p. p.0)) (found_at (w ∷ rest) _ end)) (with_first is (ingest_rest rest clean))
  where
    with_first : codes "ingest" ≡ w → (rest ≡ []) ⊎ (rest ≡ dashes_text ∷ []) → IsIngest (w ∷ rest)
    with_first is (inl none) = inl (ap₂ (λ (x : Text) (xs : List Text). x ∷ xs) (sym is) none)
    with_first is (inr one) = inr (ap₂ (λ (x : Text) (xs : List Text). x ∷ xs) (sym is) one)

trace_first : (w : Text) (rest : List Text) → bytes_eq (codes "trace") w ≡ true → fault_of words_app (w ∷ rest) ≡ []
    → Read (w ∷ rest) (subcommand_of words_app (w ∷ rest))
unfolding walked
trace_first w rest same h =
    let is : codes "trace" ≡ w = (bytes_decides (codes "trace") w).0 same in
    let end = stops_at w rest (codes "trace")
    (subst (λ (x : Text). walked [] (names_of whole) start x ≡ record start { stopped = Some (codes "trace", []) }) is refl) in
    let clean = (none_first _ _ (ends_clean (w ∷ rest) _ end h).1).0 in
    let given = trace_rest rest clean in
    let found = found_at (w ∷ rest) _ end in
    trace given.0 (ap (option_map (λ p. p.0)) found)
    (ap (option_and_then (λ p. first_of (codes "id") p.1)) found ∙ given.2) (with_first given.0 is given.1)
  where
    with_first : (id : Text) → codes "trace" ≡ w → IsIdRest id rest → IsBareTrace id (w ∷ rest)
    with_first id is (inl (alone, bare)) = inl (ap₂ (λ (x : Text) (xs : List Text). x ∷ xs) (sym is) alone, bare)
    with_first id is (inr (inl behind)) = inr (inl (ap₂ (λ (x : Text) (xs : List Text). x ∷ xs) (sym is) behind))
    with_first id is (inr (inr (before, bare))) = inr (inr (ap₂ (λ (x : Text) (xs : List Text). x ∷ xs) (sym is) before, bare))

search_first : (w : Text) (rest : List Text) → bytes_eq (codes "search") w ≡ true → fault_of words_app (w ∷ rest) ≡ []
    → Read (w ∷ rest) (subcommand_of words_app (w ∷ rest))
unfolding walked
search_first w rest same h =
    let is : codes "search" ≡ w = (bytes_decides (codes "search") w).0 same in
    let end = stops_at w rest (codes "search")
    (subst (λ (x : Text). walked [] (names_of whole) start x ≡ record start { stopped = Some (codes "search", []) }) is refl) in
    let clean = (none_first _ _ (ends_clean (w ∷ rest) _ end h).1).0 in
    let found = found_at (w ∷ rest) _ end in
    search (ap (option_map (λ p. p.0)) found) (ap (λ (o : Option (Text × List Row)). is_some (option_and_then (λ p. first_of (codes "query") p.1) o)) found ∙ search_rest rest clean)

drill_first : (w : Text) (rest : List Text) → bytes_eq (codes "drill") w ≡ true → fault_of words_app (w ∷ rest) ≡ []
    → Read (w ∷ rest) (subcommand_of words_app (w ∷ rest))
unfolding walked
drill_first w rest same h =
    let is : codes "drill" ≡ w = (bytes_decides (codes "drill") w).0 same in
    let end = stops_at w rest (codes "drill")
    (subst (λ (x : Text). walked [] (names_of whole) start x ≡ record start { stopped = Some (codes "drill", []) }) is refl) in
    let clean = (none_first _ _ (ends_clean (w ∷ rest) _ end h).1).0 in
    let found = found_at (w ∷ rest) _ end in
    let given = drill_rest rest clean in
    drill (ap (option_map (λ p. p.0)) found)
    (ap (λ (o : Option (Text × List Row)). is_some (option_and_then (λ p. first_of (codes "seed") p.1) o)) found ∙ given.0)
    (ap (λ (o : Option (Text × List Row)). is_some (option_and_then (λ p. first_of (codes "traces") p.1) o)) found ∙ given.1)

-- A first word `serve` is the subcommand's name.
pub serve_met : (rest : List Text) → option_map (λ p. p.0) (subcommand_of words_app (codes "serve" ∷ rest)) ≡ Some (codes "serve")
unfolding walked
serve_met rest = ap (option_map (λ p. p.0)) (found_at (codes "serve" ∷ rest) _ (stops_at (codes "serve") rest (codes "serve") refl))

serve_first : (w : Text) (rest : List Text) → bytes_eq (codes "serve") w ≡ true → fault_of words_app (w ∷ rest) ≡ []
    → Read (w ∷ rest) (subcommand_of words_app (w ∷ rest))
unfolding walked
serve_first w rest same h =
    let is : codes "serve" ≡ w = (bytes_decides (codes "serve") w).0 same in
    let end = stops_at w rest (codes "serve")
    (subst (λ (x : Text). walked [] (names_of whole) start x ≡ record start { stopped = Some (codes "serve", []) }) is refl) in
    let clean = (none_first _ _ (ends_clean (w ∷ rest) _ end h).1).0 in
    let found = found_at (w ∷ rest) _ end in
    serve (ap (option_map (λ p. p.0)) found)
    (ap (λ (o : Option (Text × List Row)). is_some (option_and_then (λ p. first_of (codes "clients") p.1) o)) found ∙ serve_rest rest clean)
    ((bytes_decides w (codes "serve")).1 (sym is))

some_kind : (k : ErrorKind) → k ∷ [] ≡ [] → ⊥
some_kind k h = cc

-- Where the walk ends at no subcommand, one is wanted.
none_met : (is_trailing : Bool) → end_fault (standing nothing_held 1 is_trailing) ≡ [] → ⊥
unfolding defaults_fault
none_met is_trailing h = some_kind kind.MissingSubcommand h

-- No other first word is without fault.
other_first : (w : Text) (rest : List Text) → bytes_eq (codes "session") w ≡ false → bytes_eq (codes "ingest") w ≡ false
    → bytes_eq (codes "trace") w ≡ false → bytes_eq (codes "search") w ≡ false → bytes_eq (codes "drill") w ≡ false
    → bytes_eq (codes "serve") w ≡ false → fault_of words_app (w ∷ rest) ≡ [] → ⊥
other_first w rest session_not ingest_not trace_not search_not drill_not serve_not h =
    let unmet : find (answers_to w) (names_of whole) ≡ None = rw (session_not, ingest_not, trace_not, search_not, drill_not, serve_not) refl in
    let next = walk_next whole.top (names_of whole) start w rest (ends_clean (w ∷ rest) _ refl h).0 in
    elim (turned whole.top (names_of whole) [] None 1 w whole_flags unmet) [
      | dashes is clean after ↦
          let none = trailing_none whole.top (names_of whole) nothing_held 1 rest refl (rw after at next.1) in
          lone_dashes none after
      | flag bad ↦ bad next.0
      | placed bare stray after ↦ stray_is_fault whole.top (sym stray ∙ next.0)
    ]
  where
    lone_dashes : rest ≡ [] → walked [] (names_of whole) start w ≡ standing nothing_held 1 true → ⊥
    lone_dashes none after =
        let alone : fault_of words_app (w ∷ []) ≡ [] = subst (λ (xs : List Text). fault_of words_app (w ∷ xs) ≡ []) none h in
        none_met true (ends_clean (w ∷ []) _ after alone).1

pub read_from : (words : List Text) → fault_of words_app words ≡ [] → Read words (subcommand_of words_app words)
read_from [] h = absurd (none_met false (ends_clean [] start refl h).1)
read_from (w ∷ rest) h =
    go (bytes_eq (codes "session") w) refl (bytes_eq (codes "ingest") w) refl (bytes_eq (codes "trace") w) refl (bytes_eq (codes "search") w) refl
    (bytes_eq (codes "drill") w) refl (bytes_eq (codes "serve") w) refl
  where
    go : (a : Bool) → bytes_eq (codes "session") w ≡ a → (b : Bool) → bytes_eq (codes "ingest") w ≡ b → (c : Bool) → bytes_eq (codes "trace") w ≡ c
        → (d : Bool) → bytes_eq (codes "search") w ≡ d → (e : Bool) → bytes_eq (codes "drill") w ≡ e → (f : Bool) → bytes_eq (codes "serve") w ≡ f
        → Read (w ∷ rest) (subcommand_of words_app (w ∷ rest))
    go true is b other c third d fourth e fifth f sixth = session_first w rest is h
    go false not_session true is c third d fourth e fifth f sixth = ingest_first w rest is h
    go false not_session false not_ingest true is d fourth e fifth f sixth = trace_first w rest is h
    go false not_session false not_ingest false not_trace true is e fifth f sixth = search_first w rest is h
    go false not_session false not_ingest false not_trace false not_search true is f sixth = drill_first w rest is h
    go false not_session false not_ingest false not_trace false not_search false not_drill true is = serve_first w rest is h
    go false not_session false not_ingest false not_trace false not_search false not_drill false not_serve =
        absurd (other_first w rest not_session not_ingest not_trace not_search not_drill not_serve h)
