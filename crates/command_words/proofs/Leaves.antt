-- What the words after a subcommand's name are, where `clap` finds no fault.
use Rattle.std.proofs.Common.{◌≡◌, ◌⊎◌, ◌∙◌, ℕ, Bool, true, false, List, [], ◌∷◌, Some, None, refl, sym, subst, ap, ap₂, inl, inr}
use Rattle.std.specs.Prelude.{◌==◌, codes, is_some, slice_get}
use Rattle.std.specs.Char.{encode_utf8}
use Rattle.std.specs.Str.{IsUtf8, bytes_eq, chars}
use Rattle.std.proofs.lemmas.Bool.{eqb-true}
use Rattle.std.proofs.lemmas.Str.{IsUtf8-past_char, encodes-chars}
use Rattle.clap.specs.Lexer.{long_of, name_and_value, short_of}
use Rattle.clap.specs.Kinds.{Kinds, or_else}
use Rattle.clap.specs.Takes.{is_given}
use Rattle.clap.specs.Faults.{check_fault, defaults_fault, level_fault, settle_fault, turn_fault, walk_fault}
use Rattle.clap.specs.Simple.{Shape, built_leaf, inherited}
use Rattle.clap.specs.Walk.{Held, Row, Text, Walk, finished, first_of, nothing_held, settled, walk, rows_after, walk_from, walked}
use Rattle.command_words.specs.Spelling.{is_flag}
use Rattle.command_words.specs.Table.{bare_app, drill_shape, ingest_shape, search_shape, session_shape, trace_shape}
use Rattle.command_words.proofs.Full.{TakeOne, ends_full, given_is_found}
use Rattle.command_words.proofs.Turns.{HasNoFlags, IsBare, dashes, dashes_text, flag, holding, leaf_end_fault, leaf_ends, none_first, placed, standing, stray_is_fault, trailing_none, turned, walk_next}

-- A subcommand as it is built under the command.
abbrev pub leaf : Shape → Shape
leaf s = built_leaf (inherited (record bare_app.top { is_leaf = false; is_built = true }) s)

abbrev pub session_leaf : Shape
session_leaf = leaf session_shape

abbrev pub ingest_leaf : Shape
ingest_leaf = leaf ingest_shape

abbrev pub trace_leaf : Shape
trace_leaf = leaf trace_shape

session_flags : HasNoFlags session_leaf.rules
session_flags = record { no_long = λ name. refl; no_short = λ c. refl }

ingest_flags : HasNoFlags ingest_leaf.rules
ingest_flags = record { no_long = λ name. refl; no_short = λ c. refl }

trace_flags : HasNoFlags trace_leaf.rules
trace_flags = record { no_long = λ name. refl; no_short = λ c. refl }

pub session_rest : (rest : List Text) → level_fault session_leaf [] nothing_held rest false [] ≡ [] → (rest ≡ []) ⊎ (rest ≡ dashes_text ∷ [])
session_rest [] h = inl refl
session_rest (w ∷ rest) h =
    let next = walk_next session_leaf [] (walk_from nothing_held) w rest (none_first _ _ h).0 in
    elim (turned session_leaf [] [] None 1 w session_flags refl) [
      | dashes is clean after ↦ inr (ap₂ (λ (x : Text) (xs : List Text). x ∷ xs) is (trailing_none session_leaf [] nothing_held 1 rest refl (rw after at next.1)))
      | flag bad ↦ absurd (bad next.0)
      | placed bare stray after ↦ absurd (stray_is_fault session_leaf (sym stray ∙ next.0))
    ]

pub ingest_rest : (rest : List Text) → level_fault ingest_leaf [] nothing_held rest false [] ≡ [] → (rest ≡ []) ⊎ (rest ≡ dashes_text ∷ [])
ingest_rest [] h = inl refl
ingest_rest (w ∷ rest) h =
    let next = walk_next ingest_leaf [] (walk_from nothing_held) w rest (none_first _ _ h).0 in
    elim (turned ingest_leaf [] [] None 1 w ingest_flags refl) [
      | dashes is clean after ↦ inr (ap₂ (λ (x : Text) (xs : List Text). x ∷ xs) is (trailing_none ingest_leaf [] nothing_held 1 rest refl (rw after at next.1)))
      | flag bad ↦ absurd (bad next.0)
      | placed bare stray after ↦ absurd (stray_is_fault ingest_leaf (sym stray ∙ next.0))
    ]

-- The words are an id, with `--` before it or after it or not at all.
abbrev pub IsIdRest : Text → List Text → Type 0
IsIdRest id rest = ((rest ≡ id ∷ []) × IsBare id)
    ⊎ ((rest ≡ dashes_text ∷ id ∷ []) ⊎ ((rest ≡ id ∷ dashes_text ∷ []) × IsBare id))

abbrev pub GivesId : Text → List Text → Type 0
GivesId id rest = first_of (codes "id") (rows_after trace_leaf.rules [] rest) ≡ Some id

-- What is held once the id was read.
abbrev id_held : Text → Held
id_held id = holding [] (Some (codes "id", id ∷ []))

no_id : level_fault trace_leaf [] nothing_held [] false [] ≡ [] → ⊥
unfolding walk_fault defaults_fault
no_id h = cc

-- The id's place, after `--`.
behind_dashes : (rest : List Text) → walk_fault trace_leaf [] (standing nothing_held 1 true) rest ≡ []
    → (rest ≡ []) ⊎ ((id : Text) × (rest ≡ id ∷ []))
unfolding walked
behind_dashes [] clean = inl refl
behind_dashes (id ∷ rest) clean =
    let next = walk_next trace_leaf [] (standing nothing_held 1 true) id rest clean in
    inr (id, ap (λ (xs : List Text). id ∷ xs) (trailing_none trace_leaf [] (id_held id) 2 rest refl next.1))

-- What follows an id.
behind_id : (id : Text) (rest : List Text) → walk_fault trace_leaf [] (standing (id_held id) 2 false) rest ≡ []
    → (rest ≡ []) ⊎ (rest ≡ dashes_text ∷ [])
behind_id id [] clean = inl refl
behind_id id (w ∷ rest) clean =
    let next = walk_next trace_leaf [] (standing (id_held id) 2 false) w rest clean in
    elim (turned trace_leaf [] [] (Some (codes "id", id ∷ [])) 2 w trace_flags refl) [
      | dashes is at_none after ↦ inr (ap₂ (λ (x : Text) (xs : List Text). x ∷ xs) is (trailing_none trace_leaf [] (id_held id) 2 rest refl (rw after at next.1)))
      | flag bad ↦ absurd (bad next.0)
      | placed bare stray after ↦ absurd (stray_is_fault trace_leaf (sym stray ∙ next.0))
    ]

-- The matches where the words are the id, or stand round it as they may.
gives_behind : (w id : Text) → walked trace_leaf.rules [] (walk_from nothing_held) w ≡ standing nothing_held 1 true → GivesId id (w ∷ id ∷ [])
unfolding walked
gives_behind w id after = rw after refl

gives_alone : (id : Text) → walked trace_leaf.rules [] (walk_from nothing_held) id ≡ standing (id_held id) 2 false → GivesId id (id ∷ [])
gives_alone id after = rw after refl

gives_before : (id : Text) → walked trace_leaf.rules [] (walk_from nothing_held) id ≡ standing (id_held id) 2 false → GivesId id (id ∷ dashes_text ∷ [])
unfolding walked
gives_before id after = rw after refl

-- Where nothing is at fault, the words give an id.
pub trace_rest : (rest : List Text) → level_fault trace_leaf [] nothing_held rest false [] ≡ [] → (id : Text) × IsIdRest id rest × GivesId id rest
unfolding walk_fault defaults_fault
trace_rest [] h = absurd (no_id h)
trace_rest (w ∷ rest) h =
    let next = walk_next trace_leaf [] (walk_from nothing_held) w rest (none_first _ _ h).0 in
    elim (turned trace_leaf [] [] None 1 w trace_flags refl) [
      | dashes is clean after ↦ elim (behind_dashes rest (rw after at next.1)) [
        | inl none ↦ absurd (lone_dashes w rest none after h)
        | inr one ↦ (
          one.0,
          inr (inl (ap₂ (λ (x : Text) (xs : List Text). x ∷ xs) is one.1)),
          subst (λ (xs : List Text). GivesId one.0 (w ∷ xs)) (sym one.1) (gives_behind w one.0 after),
        )
      ]
      | flag bad ↦ absurd (bad next.0)
      | placed bare clean after ↦ elim (behind_id w rest (rw after at next.1)) [
        | inl none ↦ (
          w,
          inl (ap (λ (xs : List Text). w ∷ xs) none, bare),
          subst (λ (xs : List Text). GivesId w (w ∷ xs)) (sym none) (gives_alone w after),
        )
        | inr one ↦ (
          w,
          inr (inr (ap (λ (xs : List Text). w ∷ xs) one, bare)),
          subst (λ (xs : List Text). GivesId w (w ∷ xs)) (sym one) (gives_before w after),
        )
      ]
    ]
  where
    lone_dashes : (w : Text) (rest : List Text) → rest ≡ [] → walked trace_leaf.rules [] (walk_from nothing_held) w ≡ standing nothing_held 1 true
        → level_fault trace_leaf [] nothing_held (w ∷ rest) false [] ≡ [] → ⊥
    lone_dashes w rest none after h =
        let alone : level_fault trace_leaf [] nothing_held (w ∷ []) false [] ≡ [] =
        subst (λ (xs : List Text). level_fault trace_leaf [] nothing_held (w ∷ xs) false [] ≡ []) none h in
        let missing : leaf_end_fault trace_leaf (standing nothing_held 1 true) ≡ [] = leaf_ends trace_leaf (w ∷ []) _ after alone in
        cc

-- ---- searches

abbrev pub search_leaf : Shape
search_leaf = leaf search_shape

pub search_takes_one : TakeOne search_leaf.rules
search_takes_one = (
  record { takes = refl; sets = refl; bare = refl; wants = λ again rows h. let bad : ⊥ = cc in bad },
  (
    record { takes = refl; sets = refl; bare = refl; wants = λ again rows h. let bad : ⊥ = cc in bad },
    (
      record { takes = refl; sets = refl; bare = refl; wants = λ again rows h. let bad : ⊥ = cc in bad },
      (
        record { takes = refl; sets = refl; bare = refl; wants = λ again rows h. let bad : ⊥ = cc in bad },
        (record { takes = refl; sets = refl; bare = refl; wants = λ again rows h. let bad : ⊥ = cc in bad }, tt),
      ),
    ),
  ),
)

query_wanted : (rows : List Row) → check_fault search_leaf rows false ≡ [] → is_given (codes "query") rows ≡ true
query_wanted rows h = go (is_given (codes "query") rows) refl
  where
    go : (b : Bool) → is_given (codes "query") rows ≡ b → b ≡ true
    go true is = refl
    go false is = let bad = rw is at h in cc

-- Where nothing is at fault, the words give a query.
pub search_rest : (rest : List Text) → level_fault search_leaf [] nothing_held rest false [] ≡ []
    → is_some (first_of (codes "query") (rows_after search_leaf.rules [] rest)) ≡ true
search_rest rest h =
    let end = walk search_leaf.rules [] nothing_held rest in
    let clean : leaf_end_fault search_leaf end ≡ [] = leaf_ends search_leaf rest end refl h in
    let settle = none_first (settle_fault search_leaf.rules search_leaf.args_override_self end.held)
    (or_else (defaults_fault (settled search_leaf.rules end.held).rows search_leaf.rules) (check_fault search_leaf (finished search_leaf.rules end.held) false)) clean in
    let checked = none_first (defaults_fault (settled search_leaf.rules end.held).rows search_leaf.rules)
    (check_fault search_leaf (finished search_leaf.rules end.held) false) settle.1 in
    let full = ends_full search_leaf rest search_takes_one (λ c. refl) (none_first _ _ h).0 settle.0 in
    given_is_found (codes "query") (finished search_leaf.rules end.held) full (query_wanted (finished search_leaf.rules end.held) checked.1)

-- ---- drills

abbrev pub drill_leaf : Shape
drill_leaf = leaf drill_shape

drill_takes_one : TakeOne drill_leaf.rules
drill_takes_one = (
  record { takes = refl; sets = refl; bare = refl; wants = λ again rows h. let bad : ⊥ = cc in bad },
  (record { takes = refl; sets = refl; bare = refl; wants = λ again rows h. let bad : ⊥ = cc in bad }, tt),
)

seed_wanted : (rows : List Row) → check_fault drill_leaf rows false ≡ [] → is_given (codes "seed") rows ≡ true
seed_wanted rows h = go (is_given (codes "seed") rows) refl
  where
    go : (b : Bool) → is_given (codes "seed") rows ≡ b → b ≡ true
    go true is = refl
    go false is = let bad = rw is at h in cc

traces_wanted : (rows : List Row) → check_fault drill_leaf rows false ≡ [] → is_given (codes "traces") rows ≡ true
traces_wanted rows h = go (is_given (codes "traces") rows) refl
  where
    go : (b : Bool) → is_given (codes "traces") rows ≡ b → b ≡ true
    go true is = refl
    go false is = let bad = rw (seed_wanted rows h, is) at h in cc

-- Where nothing is at fault, the words give both numbers.
pub drill_rest : (rest : List Text) → level_fault drill_leaf [] nothing_held rest false [] ≡ []
    → (is_some (first_of (codes "seed") (rows_after drill_leaf.rules [] rest)) ≡ true)
    × (is_some (first_of (codes "traces") (rows_after drill_leaf.rules [] rest)) ≡ true)
drill_rest rest h =
    let end = walk drill_leaf.rules [] nothing_held rest in
    let clean : leaf_end_fault drill_leaf end ≡ [] = leaf_ends drill_leaf rest end refl h in
    let settle = none_first (settle_fault drill_leaf.rules drill_leaf.args_override_self end.held)
    (or_else (defaults_fault (settled drill_leaf.rules end.held).rows drill_leaf.rules) (check_fault drill_leaf (finished drill_leaf.rules end.held) false)) clean in
    let checked = none_first (defaults_fault (settled drill_leaf.rules end.held).rows drill_leaf.rules)
    (check_fault drill_leaf (finished drill_leaf.rules end.held) false) settle.1 in
    let full = ends_full drill_leaf rest drill_takes_one (λ c. refl) (none_first _ _ h).0 settle.0 in (
      given_is_found (codes "seed") (finished drill_leaf.rules end.held) full (seed_wanted (finished drill_leaf.rules end.held) checked.1),
      given_is_found (codes "traces") (finished drill_leaf.rules end.held) full (traces_wanted (finished drill_leaf.rules end.held) checked.1),
    )

-- ---- words that ask something

-- One word at which nothing is at fault, and nothing after it.
one_clean : (s : Shape) (w : Text) (end : Walk) → turn_fault s [] (walk_from nothing_held) w ≡ [] → walked s.rules [] (walk_from nothing_held) w ≡ end
    → leaf_end_fault s end ≡ [] → level_fault s [] nothing_held (w ∷ []) false [] ≡ []
unfolding walk_fault
one_clean s w end turn at clean = ap₂ (λ (k : Kinds) (v : Walk). or_else (or_else k []) (leaf_end_fault s v)) turn at ∙ clean

-- Two words.
two_clean : (s : Shape) (w v : Text) (mid end : Walk) → turn_fault s [] (walk_from nothing_held) w ≡ [] → walked s.rules [] (walk_from nothing_held) w ≡ mid
    → turn_fault s [] mid v ≡ [] → walked s.rules [] mid v ≡ end → leaf_end_fault s end ≡ [] → level_fault s [] nothing_held (w ∷ v ∷ []) false [] ≡ []
unfolding walk_fault
two_clean s w v mid end turn at then after clean =
    ap₂ (λ (k : Kinds) (m : Walk). or_else (or_else k (or_else (turn_fault s [] m v) [])) (leaf_end_fault s (walked s.rules [] m v))) turn at
    ∙ (ap₂ (λ (k : Kinds) (e : Walk). or_else (or_else k []) (leaf_end_fault s e)) then after ∙ clean)

-- A word that is neither `--` nor a flag.
unflagged_id : (id : Text) → bytes_eq id dashes_text ≡ false → long_of id ≡ None → short_of id ≡ None
    → level_fault trace_leaf [] nothing_held (id ∷ []) false [] ≡ []
unfolding walked defaults_fault
unflagged_id id no_dashes no_long no_short = one_clean trace_leaf id (standing (id_held id) 2 false) turn end ends
  where
    ends : leaf_end_fault trace_leaf (standing (id_held id) 2 false) ≡ []
    ends = refl

    turn : turn_fault trace_leaf [] (walk_from nothing_held) id ≡ []
    turn = rw (no_dashes, no_long, no_short) refl

    end : walked trace_leaf.rules [] (walk_from nothing_held) id ≡ standing (id_held id) 2 false
    end = rw (no_dashes, no_long, no_short) refl

-- What stands with the word `--` after it.
followed_id : (id : Text) → bytes_eq id dashes_text ≡ false → long_of id ≡ None → short_of id ≡ None
    → level_fault trace_leaf [] nothing_held (id ∷ dashes_text ∷ []) false [] ≡ []
unfolding walked defaults_fault
followed_id id no_dashes no_long no_short =
    two_clean trace_leaf id dashes_text (standing (id_held id) 2 false) (standing (id_held id) 2 true) turn mid refl refl ends
  where
    ends : leaf_end_fault trace_leaf (standing (id_held id) 2 true) ≡ []
    ends = refl

    turn : turn_fault trace_leaf [] (walk_from nothing_held) id ≡ []
    turn = rw (no_dashes, no_long, no_short) refl

    mid : walked trace_leaf.rules [] (walk_from nothing_held) id ≡ standing (id_held id) 2 false
    mid = rw (no_dashes, no_long, no_short) refl

-- What is no flag.
pub record IsNoFlag (word : Text) : Type 0 where
  pub no_dashes : bytes_eq word dashes_text ≡ false
  pub no_long : long_of word ≡ None
  pub no_short : short_of word ≡ None

lone_byte : (b : ℕ) (t : Bool) → (b == 45) ≡ t → IsNoFlag (b ∷ [])
lone_byte b true e = record { no_dashes = rw e refl; no_long = rw e refl; no_short = rw e refl }
lone_byte b false e = record { no_dashes = rw e refl; no_long = rw e refl; no_short = rw e refl }

pub no_flag : (word : Text) → is_flag word ≡ false → IsNoFlag word
no_flag [] e = record { no_dashes = refl; no_long = refl; no_short = refl }
no_flag (b ∷ []) e = lone_byte b (b == 45) refl
no_flag (b ∷ c ∷ cs) e = record { no_dashes = rw e refl; no_long = rw e refl; no_short = rw e refl }

pub alone_clean : (id : Text) → is_flag id ≡ false → level_fault trace_leaf [] nothing_held (id ∷ []) false [] ≡ []
alone_clean id e = let n = no_flag id e in unflagged_id id n.no_dashes n.no_long n.no_short

pub before_clean : (id : Text) → is_flag id ≡ false → level_fault trace_leaf [] nothing_held (id ∷ dashes_text ∷ []) false [] ≡ []
before_clean id e = let n = no_flag id e in followed_id id n.no_dashes n.no_long n.no_short

-- A text that is bare is no flag, since its first character is there.
pub bare_is_no_flag : (word : Text) → IsUtf8 word → IsBare word → is_flag word ≡ false
unfolding encode_utf8
bare_is_no_flag [] utf8 bare = refl
bare_is_no_flag (b ∷ []) utf8 bare = refl
bare_is_no_flag (b ∷ c ∷ cs) utf8 bare = go (b == 45) refl
  where
    first_char : (x : ℕ) (xs : Text) → IsUtf8 (x ∷ xs) → (cs : List ℕ) → chars (x ∷ xs) ≡ cs → slice_get cs 0 ≡ None → ⊥
    first_char x xs text [] is none = let whole = encodes-chars (x ∷ xs) text in let empty : [] ≡ x ∷ xs = rw is at whole in cc
    first_char x xs text (y ∷ ys) is none = cc

    short : (b ≡ 45) → (c == 45) ≡ false → ⊥
    short is second =
        let start : (45 ∷ c ∷ cs) ≡ (b ∷ c ∷ cs) = rw is refl in
        let text : IsUtf8 (c ∷ cs) = IsUtf8-past_char (b ∷ c ∷ cs) (c ∷ cs) 45 utf8 (sym start) in
        let found : short_of (b ∷ c ∷ cs) ≡ Some (c ∷ cs) = rw is (rw second refl) in
        first_char c cs text (chars (c ∷ cs)) refl (bare.no_short c cs found)

    long : (rest : Text) → (b ≡ 45) → (c == 45) ≡ true → cs ≡ rest → ⊥
    long [] is second e = let whole : bytes_eq (b ∷ c ∷ cs) dashes_text ≡ true = rw (e, is) (rw second refl) in let no = bare.no_dashes in cc
    long (y ∷ ys) is second e =
        let found : long_of (b ∷ c ∷ cs) ≡ Some (name_and_value (y ∷ ys)) = rw (e, is) (rw second refl) in let no = bare.no_long in cc

    second_byte : (b ≡ 45) → (t : Bool) → (c == 45) ≡ t → ⊥
    second_byte is true e = long cs is e refl
    second_byte is false e = short is e

    go : (t : Bool) → (b == 45) ≡ t → t ≡ false
    go false e = refl
    go true e = absurd (second_byte (eqb-true b 45 e) (c == 45) refl)
