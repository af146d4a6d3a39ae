-- In a command whose arguments each take one value, no argument is held without a value, where nothing is at fault.
use Rattle.std.proofs.Common.{◌≡◌, ◌∙◌, ℕ, zero, suc, Bool, true, false, List, [], ◌∷◌, ◌++◌, Option, Some, None, refl, sym, subst, ap, drop, length}
use Rattle.clap.specs.Facts.{explicit_source}
use Rattle.std.specs.Prelude.{find, fold, is_some, option_and_then, slice_get, if◌then◌else◌, encode_utf8}
use Rattle.std.specs.Option.{option_map_or}
use Rattle.std.specs.Str.{bytes_eq, chars}
use Rattle.clap.specs.Lexer.{long_of, short_of}
use Rattle.clap.specs.Kinds.{or_else}
use Rattle.clap.specs.Faults.{flag_word_fault, long_fault, positional_fault, settle_fault, step_fault, stray_fault, turn_fault, use_fault, walk_fault, word_fault}
use Rattle.clap.specs.Simple.{Shape}
use Rattle.clap.specs.Walk.{Held, Outcome, Row, Rule, Step, Text, Waiting, Walk, action_of, after_flag, after_step, arg_by_id, arg_by_index, arg_by_long, arg_by_short, bundle_met, bundle_step, done, first_of, idle, positional, has_row, long_met, long_or_other, more_values, nothing_held, pushed, rows_after, next, option, option_word, plain, plain_word, refused, settled, settled_rows, short_or_plain, subcommand, subcommand_met, takes_values, to_positional, trailing, used, value, waits, walk_from, walked, walked_from, with_default, without, with_values, word_met}
use Rattle.clap.specs.declared.builder.action.ArgAction.TheVariants.{Set}
use Rattle.clap.specs.declared.builder.value_parser.Reading.{Reading}
use Rattle.clap.specs.declared.parser.matches.ValueSource.{ValueSource}
use Rattle.clap.specs.Takes.{is_given}
use Rattle.command_words.proofs.Turns.{none_first, walk_next}

-- The argument has a value.
abbrev Full : Row → Type 0
Full r = is_some (slice_get r.values 0) ≡ true

abbrev pub AreFull : List Row → Type 0
AreFull [] = Unit {0}
AreFull (r ∷ rs) = Full r × AreFull rs

-- The argument takes one value a use.
pub record TakesOne (a : Rule) : Type 0 where
  pub takes : takes_values a ≡ true
  pub sets : action_of a ≡ Set
  pub bare : a.defaults ≡ []
  pub wants : (again : Bool) (rows : List Row) → use_fault again a [] rows ≡ [] → ⊥

-- Each argument of a list does.
abbrev pub TakeOne : List Rule → Type 0
TakeOne [] = Unit {0}
TakeOne (a ∷ rest) = TakesOne a × TakeOne rest

-- What is found of a list of such arguments.
abbrev Fits : Option Rule → Type 0
Fits None = Unit {0}
Fits (Some a) = TakesOne a

find_fits : (p : Rule → Bool) (rules : List Rule) → TakeOne rules → Fits (find p rules)
find_fits p [] all = tt
find_fits p (a ∷ rest) all = go (p a) (find_fits p rest all.1)
  where
    go : (b : Bool) → Fits (find p rest) → Fits (if b then Some a else find p rest)
    go true more = all.0
    go false more = more

-- ---- one use

without_full : (id : Text) (rows : List Row) → AreFull rows → AreFull (without id rows)
without_full id [] full = tt
without_full id (r ∷ rs) full = go (bytes_eq r.id id) (without_full id rs full.1)
  where
    go : (b : Bool) → AreFull (without id rs) → AreFull (if b then [] ++ rs else r ∷ without id rs)
    go true more = full.1
    go false more = (full.0, more)

longer : (xs : List Text) (v : Text) (vs : List Text) → is_some (slice_get (xs ++ v ∷ vs) 0) ≡ true
longer [] v vs = refl
longer (x ∷ xs) v vs = refl

with_full : (id : Text) (how : Reading) (s : ValueSource) (v : Text) (vs : List Text) (rows : List Row) → AreFull rows → AreFull (with_values id how s (v ∷ vs) rows)
with_full id how s v vs [] full = (refl, tt)
with_full id how s v vs (r ∷ rs) full = go (bytes_eq r.id id) (with_full id how s v vs rs full.1)
  where
    go : (b : Bool) → AreFull (with_values id how s (v ∷ vs) rs)
        → AreFull (if b then more_values s (v ∷ vs) r ++ rs else r ∷ with_values id how s (v ∷ vs) rs)
    go true more = (longer r.values v vs, full.1)
    go false more = (full.0, more)

used_full : (a : Rule) (v : Text) (vs : List Text) (rows : List Row) → TakesOne a → AreFull rows → AreFull (used a (v ∷ vs) rows)
used_full a v vs rows one full = rw one.sets (with_full _ _ _ v vs (without a.id rows) (without_full a.id rows full))

use_full : (again : Bool) (a : Rule) (values : List Text) (rows : List Row) → TakesOne a → use_fault again a values rows ≡ [] → AreFull rows → AreFull (used a values rows)
use_full again a [] rows one clean full = absurd (one.wants again rows clean)
use_full again a (v ∷ vs) rows one clean full = used_full a v vs rows one full

settled_full : (rules : List Rule) (again : Bool) (h : Held) → TakeOne rules → settle_fault rules again h ≡ [] → AreFull h.rows → AreFull (settled rules h).rows
settled_full rules again h all clean full = go h.pending clean
  where
    at : (p : Text × List Text) (found : Option Rule) → Fits found → option_map_or (λ a. use_fault again a p.1 h.rows) found [] ≡ []
        → arg_by_id rules p.0 ≡ found → AreFull (settled_rows rules (Some p) h.rows)
    at p None fits none is = rw is full
    at p (Some a) fits none is = rw is (use_full again a p.1 h.rows fits none full)

    go : (p : Option (Text × List Text)) → option_map_or (λ q. option_map_or (λ a. use_fault again a q.1 h.rows) (arg_by_id rules q.0) []) p [] ≡ []
        → AreFull (settled_rows rules p h.rows)
    go None none = full
    go (Some p) none = at p (arg_by_id rules p.0) (find_fits _ rules all) none refl

-- ---- one word

-- No argument has a short name.
abbrev HasNoShort : List Rule → Type 0
HasNoShort rules = (c : ℕ) → arg_by_short rules c ≡ None

bundle_rows : (rules : List Rule) → HasNoShort rules → (k : ℕ) (flags : Text) (skip : ℕ) (so_far : Outcome) (h : Held) → (bundle_met rules k flags skip so_far h).0.rows ≡ h.rows
unfolding bundle_met
bundle_rows rules no_short zero flags skip so_far h = refl
bundle_rows rules no_short (suc k) flags skip so_far h = go (slice_get (chars flags) 0) skip (λ rest less. bundle_rows rules no_short k rest less so_far h)
  where
    go : (first : Option ℕ) (skip : ℕ) → ((rest : Text) (less : ℕ) → (bundle_met rules k rest less so_far h).0.rows ≡ h.rows)
        → (bundle_step rules first flags skip so_far h (bundle_met rules k)).0.rows ≡ h.rows
    go None skip more = refl
    go (Some x) zero more = rw (no_short x) refl
    go (Some x) (suc less) more = more (drop (length (encode_utf8 x)) flags) less

plain_rows : (rules : List Rule) (waiting : Waiting) (word : Text) (h : Held) → (plain_word rules waiting word h).0.rows ≡ h.rows
plain_rows rules (option id) word h = go (arg_by_id rules id)
  where
    go : (found : Option Rule) → (option_word found id word h).0.rows ≡ h.rows
    go None = refl
    go (Some a) = refl
plain_rows rules idle word h = refl
plain_rows rules positional word h = refl

after_flag_full : (rules : List Rule) (waiting : Waiting) (word : Text) (h : Held) (outcome : Outcome) → AreFull h.rows → AreFull (after_flag rules waiting word h outcome).0.rows
after_flag_full rules waiting word h done full = full
after_flag_full rules waiting word h (waits id) full = full
after_flag_full rules waiting word h plain full = subst AreFull (sym (plain_rows rules waiting word h)) full
after_flag_full rules waiting word h refused full = subst AreFull (sym (plain_rows rules waiting word h)) full

long_full : (rules : List Rule) (again : Bool) (found : Option Rule) (given : Option Text) (h : Held) → TakeOne rules → Fits found
    → long_fault rules again found given h ≡ [] → AreFull h.rows → AreFull (long_met rules found given h).0.rows
long_full rules again None given h all fits clean full = full
long_full rules again (Some a) (Some v) h all fits clean full =
    let parts = none_first _ _ (rw fits.takes at clean) in
    rw fits.takes (used_full a v [] _ fits (settled_full rules again h all parts.0 full))
long_full rules again (Some a) None h all fits clean full = rw fits.takes (settled_full rules again h all (rw fits.takes at clean) full)

no_names : (waiting : Waiting) (word : Text) → subcommand_met [] waiting word ≡ None
no_names idle word = refl
no_names (option id) word = refl
no_names positional word = refl

flag_full : (rules : List Rule) (again : Bool) (waiting : Waiting) (word : Text) (h : Held) → TakeOne rules → HasNoShort rules
    → flag_word_fault rules again (long_of word) word h ≡ [] → AreFull h.rows → AreFull (long_or_other rules waiting word (long_of word) h).0.rows
flag_full rules again waiting word h all no_short clean full = go (long_of word) clean
  where
    short : (flags : Option Text) → AreFull (short_or_plain rules waiting word flags h).0.rows
    short (Some flags) = after_flag_full rules waiting word _ _ (subst AreFull (sym (bundle_rows rules no_short (length flags) flags h.skip plain (record h { skip = 0 }))) full)
    short None = subst AreFull (sym (plain_rows rules waiting word h)) full

    go : (long : Option (Text × Option Text)) → flag_word_fault rules again long word h ≡ [] → AreFull (long_or_other rules waiting word long h).0.rows
    go (Some p) clean = after_flag_full rules waiting word _ _ (long_full rules again (arg_by_long rules p.0) p.1 h all (find_fits _ rules all) clean full)
    go None clean = short (short_of word)

met_full : (s : Shape) (is_trailing : Bool) (waiting : Waiting) (position : ℕ) (word : Text) (h : Held) → TakeOne s.rules → HasNoShort s.rules
    → word_fault s [] is_trailing waiting word h ≡ [] → AreFull h.rows → AreFull (word_met s.rules [] is_trailing waiting position word h).0.rows
met_full s true waiting position word h all no_short clean full = full
met_full s false waiting position word h all no_short clean full = rw (no_names waiting word) (go (bytes_eq word (45 ∷ 45 ∷ [])) (rw (no_names waiting word) at clean))
  where
    go : (b : Bool) → (if b then [] else flag_word_fault s.rules s.args_override_self (long_of word) word h) ≡ []
        → AreFull (if b then (h, trailing position) else long_or_other s.rules waiting word (long_of word) h).0.rows
    go true clean = full
    go false clean = flag_full s.rules s.args_override_self waiting word h all no_short clean full

step_full : (s : Shape) (word : Text) (w : Walk) (h : Held) (step : Step) → TakeOne s.rules → step_fault s w.position h step ≡ [] → AreFull h.rows
    → AreFull (after_step s.rules word w h step).held.rows
step_full s word w h (next waiting) all clean full = full
step_full s word w h (trailing position) all clean full = full
step_full s word w h (subcommand name) all clean full = full
step_full s word w h value all clean full = go (arg_by_index s.rules w.position) clean
  where
    placed : (a : Rule) (b : Bool) → (if b then [] else settle_fault s.rules s.args_override_self h) ≡ [] → AreFull (pushed a.id word (if b then h else settled s.rules h)).rows
    placed a true clean = full
    placed a false clean = settled_full s.rules s.args_override_self h all clean full

    go : (found : Option Rule) → option_map_or (λ a. positional_fault s.rules s.args_override_self a h) found (stray_fault s) ≡ []
        → AreFull (to_positional s.rules found word w h).held.rows
    go None clean = full
    go (Some a) clean = placed a _ clean

turn_full : (s : Shape) (w : Walk) (word : Text) → TakeOne s.rules → HasNoShort s.rules → turn_fault s [] w word ≡ [] → AreFull w.held.rows
    → AreFull (walked s.rules [] w word).held.rows
unfolding walked
turn_full s w word all no_short clean full = go w.stopped clean
  where
    met : Held × Step
    met = word_met s.rules [] w.is_trailing w.waiting w.position word w.held

    go : (stopped : Option (Text × List Text))
        → (if is_some stopped then [] else or_else (word_fault s [] w.is_trailing w.waiting word w.held)
        (step_fault s w.position (word_met s.rules [] w.is_trailing w.waiting w.position word w.held).0 (word_met s.rules [] w.is_trailing w.waiting w.position word w.held).1)) ≡ []
        → AreFull (walked_from s.rules [] stopped w word).held.rows
    go (Some p) clean = full
    go None clean =
        let parts = none_first _ _ clean in
        step_full s word w _ _ all parts.1 (met_full s w.is_trailing w.waiting w.position word w.held all no_short parts.0 full)

-- ---- all words

walk_full : (s : Shape) (w : Walk) (words : List Text) → TakeOne s.rules → HasNoShort s.rules → walk_fault s [] w words ≡ [] → AreFull w.held.rows
    → AreFull (fold (walked s.rules []) w words).held.rows
walk_full s w [] all no_short clean full = full
walk_full s w (word ∷ rest) all no_short clean full =
    let parts = walk_next s [] w word rest clean in
    walk_full s (walked s.rules [] w word) rest all no_short parts.1 (turn_full s w word all no_short parts.0 full)

either_rows : (b : Bool) (rows : List Row) → (if b then rows else rows) ≡ rows
either_rows true rows = refl
either_rows false rows = refl

pub no_defaults : (rules : List Rule) (rows : List Row) → TakeOne rules → fold with_default rows rules ≡ rows
no_defaults [] rows all = refl
no_defaults (a ∷ rest) rows all = ap (λ (rs : List Row). fold with_default rs rest) one ∙ no_defaults rest rows all.1
  where
    one : with_default rows a ≡ rows
    one = rw all.0.bare (either_rows (has_row a.id rows) rows)

-- Where nothing is at fault in the words, no argument is held without a value at their end.
pub ends_full : (s : Shape) (words : List Text) → TakeOne s.rules → HasNoShort s.rules → walk_fault s [] (walk_from nothing_held) words ≡ []
    → settle_fault s.rules s.args_override_self (fold (walked s.rules []) (walk_from nothing_held) words).held ≡ [] → AreFull (rows_after s.rules [] words)
ends_full s words all no_short clean settles =
    let end = (fold (walked s.rules []) (walk_from nothing_held) words).held in
    let full = settled_full s.rules s.args_override_self end all settles (walk_full s (walk_from nothing_held) words all no_short clean tt) in
    subst AreFull (sym (no_defaults s.rules (settled s.rules end).rows all)) full

-- A wanted argument that was given has a value.
pub given_is_found : (id : Text) (rows : List Row) → AreFull rows → is_given id rows ≡ true → is_some (first_of id rows) ≡ true
given_is_found id [] full is = cc
given_is_found id (r ∷ rs) full is = go (bytes_eq r.id id) (given_is_found id rs full.1) is
  where
    go : (b : Bool) → (is_given id rs ≡ true → is_some (first_of id rs) ≡ true)
        → option_map_or (λ x. explicit_source x.source) (if b then Some r else find (λ x. bytes_eq x.id id) rs) false ≡ true
        → is_some (option_and_then (λ x. slice_get x.values 0) (if b then Some r else find (λ x. bytes_eq x.id id) rs)) ≡ true
    go true more is = full.0
    go false more is = more is
