-- What one word does in a command whose arguments have no flags.
use Rattle.std.proofs.Common.{◌≡◌, ◌∙◌, ℕ, Bool, true, false, List, [], ◌∷◌, Option, Some, None, ◌++◌, refl, sym, subst, ap, append-nil, append_assoc}
use Rattle.std.specs.Prelude.{find, fold, slice_get, if◌then◌else◌}
use Rattle.std.specs.Option.{option_map_or}
use Rattle.std.specs.Str.{bytes_eq, chars}
use Rattle.std.specs.Cmp.Lexicographic.{bytes_decides}
use Rattle.clap.specs.Lexer.{long_of, short_of}
use Rattle.clap.specs.Kinds.{Kinds, or_else}
use Rattle.clap.specs.Faults.{check_fault, defaults_fault, flags_fault, level_fault, positional_fault, settle_fault, stray_fault, turn_fault, walk_fault}
use Rattle.clap.specs.Simple.{Shape}
use Rattle.clap.specs.Walk.{Held, Names, Row, Rule, Text, Walk, answers_to, arg_by_index, arg_by_long, arg_by_short, bundle_met, finished, idle, nothing_held, settled, to_positional, walk, walked}
use Rattle.clap.specs.declared.error.kind.ErrorKind.TheVariants as kind

abbrev pub dashes_text : Text
dashes_text = 45 ∷ 45 ∷ []

-- What is held where no flag of a bundle is passed over.
abbrev pub holding : List Row → Option (Text × List Text) → Held
holding rows pending = record { rows = rows; pending = pending; skip = 0 }

-- Between two words, where no option waits for its value and no subcommand was met.
abbrev pub standing : Held → ℕ → Bool → Walk
standing h position is_trailing = record { held = h; waiting = idle; position = position; is_trailing = is_trailing; stopped = None }

-- What is at fault where the next word goes to the positional of its place.
abbrev pub place_fault : Shape → ℕ → Held → Kinds
place_fault s position h = option_map_or (λ a. positional_fault s.rules s.args_override_self a h) (arg_by_index s.rules position) (stray_fault s)

-- The word is neither `--` nor a flag with a first character.
pub record IsBare (word : Text) : Type 0 where
  pub no_dashes : bytes_eq word dashes_text ≡ false
  pub no_long : long_of word ≡ None
  pub no_short : (x : ℕ) (xs : Text) → short_of word ≡ Some (x ∷ xs) → slice_get (chars (x ∷ xs)) 0 ≡ None

-- A word that names no subcommand: `--`, a refused flag, or a word for the positional of its place.
pub data Turned (s : Shape) (names : Names) (h : Held) (position : ℕ) (word : Text) : Type 0 where
  dashes : word ≡ dashes_text → turn_fault s names (standing h position false) word ≡ []
      → walked s.rules names (standing h position false) word ≡ standing h position true → Turned s names h position word
  flag : (turn_fault s names (standing h position false) word ≡ [] → ⊥) → Turned s names h position word
  placed : IsBare word → turn_fault s names (standing h position false) word ≡ place_fault s position h
      → walked s.rules names (standing h position false) word ≡ to_positional s.rules (arg_by_index s.rules position) word (standing h position false) h
      → Turned s names h position word

-- No argument is a flag.
pub record HasNoFlags (rules : List Rule) : Type 0 where
  pub no_long : (name : Text) → arg_by_long rules name ≡ None
  pub no_short : (c : ℕ) → arg_by_short rules c ≡ None

pub turned : (s : Shape) (names : Names) (rows : List Row) (pending : Option (Text × List Text)) (position : ℕ) (word : Text)
    → HasNoFlags s.rules → find (answers_to word) names ≡ None → Turned s names (holding rows pending) position word
unfolding walked bundle_met flags_fault
turned s names rows pending position word none unmet = go (bytes_eq word dashes_text) refl (long_of word) refl (short_of word) refl
  where
    bare : bytes_eq word dashes_text ≡ false → long_of word ≡ None → (f : Option Text) → short_of word ≡ f
        → ((x : ℕ) (xs : Text) → f ≡ Some (x ∷ xs) → slice_get (chars (x ∷ xs)) 0 ≡ None) → IsBare word
    bare e el f ef no_char = record { no_dashes = e; no_long = el; no_short = λ x xs is. no_char x xs (sym ef ∙ is) }

    bare_flag : (x : ℕ) (xs : Text) → bytes_eq word dashes_text ≡ false → long_of word ≡ None → short_of word ≡ Some (x ∷ xs)
        → slice_get (chars (x ∷ xs)) 0 ≡ None → IsBare word
    bare_flag x xs e el ef eo = bare e el (Some (x ∷ xs)) ef (λ y ys is.
        let same : (x ∷ xs) ≡ (y ∷ ys) = cc in subst (λ (flags : Text). slice_get (chars flags) 0 ≡ None) same eo)

    bundle : (x : ℕ) (xs : Text) → bytes_eq word dashes_text ≡ false → long_of word ≡ None → short_of word ≡ Some (x ∷ xs)
        → (o : Option ℕ) → slice_get (chars (x ∷ xs)) 0 ≡ o → Turned s names (holding rows pending) position word
    bundle x xs e el ef None eo = placed (bare_flag x xs e el ef eo) (rw (unmet, e, el, ef, eo) refl) (rw (unmet, e, el, ef, eo) refl)
    bundle x xs e el ef (Some y) eo = flag (λ clean.
        let at : turn_fault s names (standing (holding rows pending) position false) word ≡ kind.UnknownArgument ∷ [] = rw (unmet, e, el, ef, eo, none.no_short y) refl in cc)

    go : (b : Bool) → bytes_eq word dashes_text ≡ b → (l : Option (Text × Option Text)) → long_of word ≡ l → (f : Option Text) → short_of word ≡ f
        → Turned s names (holding rows pending) position word
    go true e l el f ef = dashes ((bytes_decides word dashes_text).0 e) (rw (unmet, e) refl) (rw (unmet, e) refl)
    go false e (Some l) el f ef = flag (λ clean.
        let at : turn_fault s names (standing (holding rows pending) position false) word ≡ kind.UnknownArgument ∷ [] = rw (unmet, e, el, none.no_long l.0) refl in cc)
    go false e None el None ef = placed (bare e el None ef (λ x xs is. cc)) (rw (unmet, e, el, ef) refl) (rw (unmet, e, el, ef) refl)
    go false e None el (Some []) ef = placed (bare e el (Some []) ef (λ x xs is. cc)) (rw (unmet, e, el, ef) refl) (rw (unmet, e, el, ef) refl)
    go false e None el (Some (x ∷ xs)) ef = bundle x xs e el ef (slice_get (chars (x ∷ xs)) 0) refl

-- ---- several words

pub none_first : (a b : Kinds) → or_else a b ≡ [] → (a ≡ []) × (b ≡ [])
none_first [] b h = (refl, h)
none_first (k ∷ ks) b h = let bad : ⊥ = cc in absurd bad

-- Where nothing is at fault, nothing is at the first word, and nothing after it.
pub walk_next : (s : Shape) (names : Names) (w : Walk) (word : Text) (rest : List Text) → walk_fault s names w (word ∷ rest) ≡ []
    → (turn_fault s names w word ≡ []) × (walk_fault s names (walked s.rules names w word) rest ≡ [])
unfolding walk_fault
walk_next s names w word rest h = none_first _ _ h

pub stray_is_fault : (s : Shape) → stray_fault s ≡ [] → ⊥
stray_is_fault s h = go s.is_leaf h
  where
    go : (b : Bool) → (if b then kind.UnknownArgument ∷ [] else kind.UnknownArgument ∷ kind.InvalidSubcommand ∷ []) ≡ [] → ⊥
    go true e = cc
    go false e = cc

-- After `--` no word is left over.
pub trailing_none : (s : Shape) (names : Names) (h : Held) (position : ℕ) (rest : List Text) → arg_by_index s.rules position ≡ None
    → walk_fault s names (standing h position true) rest ≡ [] → rest ≡ []
unfolding walked
trailing_none s names h position [] full clean = refl
trailing_none s names h position (word ∷ rest) full clean =
    let here : place_fault s position h ≡ [] = (walk_next s names (standing h position true) word rest clean).0 in
    let stray : stray_fault s ≡ [] = rw full at here in
    absurd (stray_is_fault s stray)

-- The words after a subcommand's name are kept for it.
pub stop_more : (rules : List Rule) (names : Names) (w : Walk) (name : Text) (kept rest : List Text)
    → fold (walked rules names) (record w { stopped = Some (name, kept) }) rest ≡ record w { stopped = Some (name, kept ++ rest) }
unfolding walked
stop_more rules names w name kept [] = ap (λ (xs : List Text). record w { stopped = Some (name, xs) }) (sym (append-nil kept))
stop_more rules names w name kept (word ∷ rest) =
    stop_more rules names w name (kept ++ word ∷ []) rest ∙ ap (λ (xs : List Text). record w { stopped = Some (name, xs) }) (append_assoc kept (word ∷ []) rest)

-- What is at fault in a subcommand after the first step, by where the walk over its words ends.
abbrev pub leaf_end_fault : Shape → Walk → Kinds
leaf_end_fault s end = or_else (settle_fault s.rules s.args_override_self end.held)
    (or_else (defaults_fault (settled s.rules end.held).rows s.rules) (check_fault s (finished s.rules end.held) false))

pub leaf_ends : (s : Shape) (words : List Text) (end : Walk) → walk s.rules [] nothing_held words ≡ end → level_fault s [] nothing_held words false [] ≡ []
    → leaf_end_fault s end ≡ []
leaf_ends s words end at h = subst (λ (v : Walk). leaf_end_fault s v ≡ []) at (none_first _ _ h).1
