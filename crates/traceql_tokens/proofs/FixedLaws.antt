-- The tables of the tokens whose text is fixed: where each entry stands, and that what is found is the longest.
use Rattle.std.proofs.Common.{◌≡◌, ℕ, zero, suc, ◌<◌, ◌≤◌, Bool, true, false, not, ◌&&◌, ◌⊎◌, inl, inr, cond, eqb, nat_eq, nat_lt, List, [], ◌∷◌, ◌++◌, length, drop, Option, None, Some, option_map, find, slice_get, get_or, refl, ap, ap₂, sym, ◌∙◌, subst, arith, length-append}
use Rattle.std.specs.List.{Contains, list_all, starts_with}
use Rattle.std.specs.Option.{is_none, option_or}
use Rattle.std.proofs.lemmas.List.{get_or_at, get_or_append_left}
use Rattle.std.proofs.lemmas.List.Sums.{AllPass-from_list_all}
use Rattle.traceql_tokens.specs.Fixed.{sign_text, word_text, intrinsic_text}
use Rattle.traceql_tokens.specs.Printed.{Apart, at_end, at_space, at_paren}
use Rattle.traceql_tokens.specs.Tokens.{IsTokenOf}
use Rattle.traceql_tokens.specs.StringWalk.{string_at}
use Rattle.traceql_tokens.specs.Walk.{Measured, in_order, IsTable, fixed_at, word_at, token_at}
use Rattle.traceql_tokens.specs.declared.tables.TheConstants.{SIGNS, WORDS, METRICS_WORDS, INTRINSICS}
use Rattle.traceql_tokens.specs.declared.kinds.TokenKind.{TokenKind}
use Rattle.traceql_tokens.specs.declared.kinds.TokenKind.TheVariants as token
use Rattle.traceql_tokens.proofs.Prefixes.{both, starts_true, starts_of, find_passes, find_there, place_of}
use Rattle.traceql_tokens.proofs.StringReach.{Reaches}
use Rattle.traceql_tokens.proofs.NumberLaws.{is_low, low_end}
use Rattle.traceql_tokens.proofs.Ends.{Found}
use Rattle.traceql_tokens.specs.declared.fixed.Sign.{Sign}
use Rattle.traceql_tokens.specs.declared.fixed.Sign.TheVariants as sign
use Rattle.traceql_tokens.specs.declared.fixed.Word.{Word}
use Rattle.traceql_tokens.specs.declared.fixed.Word.TheVariants as word
use Rattle.traceql_tokens.specs.declared.fixed.Intrinsic.{Intrinsic}
use Rattle.traceql_tokens.specs.declared.fixed.Intrinsic.TheVariants as intrinsic

-- what begins a text and is no longer than its front begins the front
starts_within : (a rest n : List ℕ) → starts_with nat_eq (a ++ rest) n ≡ true → length n ≤ length a → starts_with nat_eq a n ≡ true
starts_within a rest [] h l = refl
starts_within [] rest (y ∷ ys) h l = absurd (omega arith)
starts_within (x ∷ xs) rest (y ∷ ys) h l =
    let parts = both (eqb y x) (starts_with nat_eq (xs ++ rest) ys) h in
    ap₂ (λ p q. p && q) parts.0 (starts_within xs rest ys parts.1 (omega arith))

all_at : {X : Type 0} (p : X → Bool) (xs : List X) (i : ℕ) (x : X) → list_all p xs ≡ true → slice_get xs i ≡ Some x → p x ≡ true
all_at p [] i x h e = absurd (cc)
all_at p (y ∷ ys) zero x h e = let same : y ≡ x = cc in subst (λ z. p z ≡ true) same (both (p y) (list_all p ys) h).0
all_at p (y ∷ ys) (suc i) x h e = all_at p ys i x (both (p y) (list_all p ys) h).1 e

abbrev Firsts : {X : Type 0} → (X → List ℕ) → List X → X → List ℕ → Type 0
Firsts {X} f xs x rest = (y : X) × (find (λ z. starts_with nat_eq (f x ++ rest) (f z)) xs ≡ Some y) × (length (f x) ≤ length (f y)) × (length (f y) ≡ length (f x) → y ≡ x)

apart : (a n : List ℕ) → not (starts_with nat_eq a n) ≡ true → starts_with nat_eq a n ≡ true → ⊥
apart a n h k = let z : not true ≡ true = ap not (sym k) ∙ h in absurd (cc)

longer_or : (a b : ℕ) → (a < b) ⊎ (b ≤ a)
longer_or a b = grind arith

firsts_at : {X : Type 0} (f : X → List ℕ) (z : X) (zs : List X) (x : X) (rest : List ℕ) (b : Bool) → starts_with nat_eq (f x ++ rest) (f z) ≡ b → not (starts_with nat_eq (f x) (f z)) ≡ true → Firsts f zs x rest → (y : X) × (cond b (Some z) (find (λ z. starts_with nat_eq (f x ++ rest) (f z)) zs) ≡ Some y) × (length (f x) ≤ length (f y)) × (length (f y) ≡ length (f x) → y ≡ x)
firsts_at f z zs x rest false e o ih = ih
firsts_at f z zs x rest true e o ih =
    elim (longer_or (length (f x)) (length (f z))) [
      | inl longer ↦ (z, refl, omega arith, λ s. absurd (omega arith))
      | inr within ↦ absurd (apart (f x) (f z) o (starts_within (f x) rest (f z) e within))
    ]

-- the first entry that begins a text is the longest
firsts : {X : Type 0} (f : X → List ℕ) (xs : List X) (i : ℕ) (x : X) (rest : List ℕ) → in_order f xs ≡ true → slice_get xs i ≡ Some x → Firsts f xs x rest
firsts f [] i x rest o e = absurd (cc)
firsts f (z ∷ zs) zero x rest o e =
    let same : z ≡ x = cc in
    (z, ap (λ b. cond b (Some z) (find (λ y. starts_with nat_eq (f x ++ rest) (f y)) zs)) (subst (λ t. starts_with nat_eq (f x ++ rest) (f t) ≡ true) (sym same) (starts_of (f x) rest)), omega (arith, ap (λ t. length (f t)) same), λ _. same)
firsts f (z ∷ zs) (suc i) x rest o e =
    let parts = both (list_all (λ y. not (starts_with nat_eq (f y) (f z))) zs) (in_order f zs) o in
    firsts_at f z zs x rest (starts_with nat_eq (f x ++ rest) (f z)) refl (all_at (λ y. not (starts_with nat_eq (f y) (f z))) zs i x parts.0 e) (firsts f zs i x rest parts.1 e)

some_length : (t : List ℕ) → nat_lt 0 (length t) ≡ true → 0 < length t
some_length [] h = absurd (cc)
some_length (x ∷ xs) h = omega arith

none_there : {X : Type 0} (o : Option X) → is_none o ≡ true → o ≡ None
none_there None h = refl
none_there (Some x) h = absurd (cc)

sign_order : in_order sign_text SIGNS ≡ true
sign_order = refl

sign_place : (x : Sign) → (i : ℕ) × (slice_get SIGNS i ≡ Some x)
sign_place sign.BangGreaterGreater = (0, refl)
sign_place sign.BangLessLess = (1, refl)
sign_place sign.AmpGreaterGreater = (2, refl)
sign_place sign.AmpLessLess = (3, refl)
sign_place sign.BarBar = (4, refl)
sign_place sign.AmpAmp = (5, refl)
sign_place sign.GreaterGreater = (6, refl)
sign_place sign.LessLess = (7, refl)
sign_place sign.BangEqual = (8, refl)
sign_place sign.BangTilde = (9, refl)
sign_place sign.BangGreater = (10, refl)
sign_place sign.BangLess = (11, refl)
sign_place sign.AmpGreater = (12, refl)
sign_place sign.AmpLess = (13, refl)
sign_place sign.AmpTilde = (14, refl)
sign_place sign.EqualTilde = (15, refl)
sign_place sign.GreaterEqual = (16, refl)
sign_place sign.LessEqual = (17, refl)
sign_place sign.OpenBrace = (18, refl)
sign_place sign.CloseBrace = (19, refl)
sign_place sign.OpenParen = (20, refl)
sign_place sign.CloseParen = (21, refl)
sign_place sign.Comma = (22, refl)
sign_place sign.Bar = (23, refl)
sign_place sign.Amp = (24, refl)
sign_place sign.Greater = (25, refl)
sign_place sign.Less = (26, refl)
sign_place sign.Tilde = (27, refl)
sign_place sign.Bang = (28, refl)
sign_place sign.Equal = (29, refl)
sign_place sign.Plus = (30, refl)
sign_place sign.Minus = (31, refl)
sign_place sign.Star = (32, refl)
sign_place sign.Slash = (33, refl)
sign_place sign.Percent = (34, refl)
sign_place sign.Caret = (35, refl)

-- what a test says of every entry of the table
sign_all : (p : Sign → Bool) → list_all p SIGNS ≡ true → (x : Sign) → p x ≡ true
sign_all p h x = all_at p SIGNS (sign_place x).0 x h (sign_place x).1

sign_low : (x : Sign) → list_all is_low (sign_text x) ≡ true
sign_low = sign_all (λ y. list_all is_low (sign_text y)) refl

sign_some : (x : Sign) → 0 < length (sign_text x)
sign_some x = some_length (sign_text x) (sign_all (λ y. nat_lt 0 (length (sign_text y))) refl x)

-- the walk comes to the tables
sign_comes : (x : Sign) (words : List Word) (at : ℕ) (rest : List ℕ) → token_at words at (sign_text x ++ rest) ≡ fixed_at words (sign_text x ++ rest)
unfolding token_at word_at string_at
sign_comes sign.BangGreaterGreater words at rest = refl
sign_comes sign.BangLessLess words at rest = refl
sign_comes sign.AmpGreaterGreater words at rest = refl
sign_comes sign.AmpLessLess words at rest = refl
sign_comes sign.BarBar words at rest = refl
sign_comes sign.AmpAmp words at rest = refl
sign_comes sign.GreaterGreater words at rest = refl
sign_comes sign.LessLess words at rest = refl
sign_comes sign.BangEqual words at rest = refl
sign_comes sign.BangTilde words at rest = refl
sign_comes sign.BangGreater words at rest = refl
sign_comes sign.BangLess words at rest = refl
sign_comes sign.AmpGreater words at rest = refl
sign_comes sign.AmpLess words at rest = refl
sign_comes sign.AmpTilde words at rest = refl
sign_comes sign.EqualTilde words at rest = refl
sign_comes sign.GreaterEqual words at rest = refl
sign_comes sign.LessEqual words at rest = refl
sign_comes sign.OpenBrace words at rest = refl
sign_comes sign.CloseBrace words at rest = refl
sign_comes sign.OpenParen words at rest = refl
sign_comes sign.CloseParen words at rest = refl
sign_comes sign.Comma words at rest = refl
sign_comes sign.Bar words at rest = refl
sign_comes sign.Amp words at rest = refl
sign_comes sign.Greater words at rest = refl
sign_comes sign.Less words at rest = refl
sign_comes sign.Tilde words at rest = refl
sign_comes sign.Bang words at rest = refl
sign_comes sign.Equal words at rest = refl
sign_comes sign.Plus words at rest = refl
sign_comes sign.Minus words at rest = refl
sign_comes sign.Star words at rest = refl
sign_comes sign.Slash words at rest = refl
sign_comes sign.Percent words at rest = refl
sign_comes sign.Caret words at rest = refl

pub word_order : IsTable WORDS
word_order = refl

pub metrics_order : IsTable METRICS_WORDS
metrics_order = refl

-- every word is one of metrics queries
word_place : (x : Word) → (i : ℕ) × (slice_get METRICS_WORDS i ≡ Some x)
word_place word.CountOverTime = (0, refl)
word_place word.Unspecified = (1, refl)
word_place word.Producer = (2, refl)
word_place word.Consumer = (3, refl)
word_place word.Internal = (4, refl)
word_place word.Coalesce = (5, refl)
word_place word.Server = (6, refl)
word_place word.Client = (7, refl)
word_place word.Select = (8, refl)
word_place word.False = (9, refl)
word_place word.Error = (10, refl)
word_place word.Unset = (11, refl)
word_place word.Count = (12, refl)
word_place word.True = (13, refl)
word_place word.Rate = (14, refl)
word_place word.Nil = (15, refl)
word_place word.Avg = (16, refl)
word_place word.Min = (17, refl)
word_place word.Max = (18, refl)
word_place word.Sum = (19, refl)
word_place word.Fine = (20, refl)
word_place word.By = (21, refl)

-- what a test says of every word
word_all : (p : Word → Bool) → list_all p METRICS_WORDS ≡ true → (x : Word) → p x ≡ true
word_all p h x = all_at p METRICS_WORDS (word_place x).0 x h (word_place x).1

word_low : (x : Word) → list_all is_low (word_text x) ≡ true
word_low = word_all (λ y. list_all is_low (word_text y)) refl

word_some : (x : Word) → 0 < length (word_text x)
word_some x = some_length (word_text x) (word_all (λ y. nat_lt 0 (length (word_text y))) refl x)

-- the walk comes to the tables
word_comes : (x : Word) (words : List Word) (at : ℕ) (rest : List ℕ) → token_at words at (word_text x ++ rest) ≡ fixed_at words (word_text x ++ rest)
unfolding token_at word_at string_at
word_comes word.Unspecified words at rest = refl
word_comes word.Producer words at rest = refl
word_comes word.Consumer words at rest = refl
word_comes word.Internal words at rest = refl
word_comes word.Coalesce words at rest = refl
word_comes word.Server words at rest = refl
word_comes word.Client words at rest = refl
word_comes word.Select words at rest = refl
word_comes word.False words at rest = refl
word_comes word.Error words at rest = refl
word_comes word.Unset words at rest = refl
word_comes word.Count words at rest = refl
word_comes word.True words at rest = refl
word_comes word.Nil words at rest = refl
word_comes word.Avg words at rest = refl
word_comes word.Min words at rest = refl
word_comes word.Max words at rest = refl
word_comes word.Sum words at rest = refl
word_comes word.Fine words at rest = refl
word_comes word.By words at rest = refl
word_comes word.Rate words at rest = refl
word_comes word.CountOverTime words at rest = refl

intrinsic_order : in_order intrinsic_text INTRINSICS ≡ true
intrinsic_order = refl

intrinsic_place : (x : Intrinsic) → (i : ℕ) × (slice_get INTRINSICS i ≡ Some x)
intrinsic_place intrinsic.InstrumentationVersion = (0, refl)
intrinsic_place intrinsic.InstrumentationName = (1, refl)
intrinsic_place intrinsic.SpanStatusMessage = (2, refl)
intrinsic_place intrinsic.TraceRootService = (3, refl)
intrinsic_place intrinsic.RootServiceName = (4, refl)
intrinsic_place intrinsic.TraceColonDuration = (5, refl)
intrinsic_place intrinsic.TraceRootName = (6, refl)
intrinsic_place intrinsic.StatusMessage = (7, refl)
intrinsic_place intrinsic.SpanDuration = (8, refl)
intrinsic_place intrinsic.SpanParentId = (9, refl)
intrinsic_place intrinsic.TraceDuration = (10, refl)
intrinsic_place intrinsic.SpanStatus = (11, refl)
intrinsic_place intrinsic.SpanName = (12, refl)
intrinsic_place intrinsic.SpanKind = (13, refl)
intrinsic_place intrinsic.Duration = (14, refl)
intrinsic_place intrinsic.TraceId = (15, refl)
intrinsic_place intrinsic.RootName = (16, refl)
intrinsic_place intrinsic.SpanId = (17, refl)
intrinsic_place intrinsic.Status = (18, refl)
intrinsic_place intrinsic.Name = (19, refl)
intrinsic_place intrinsic.Kind = (20, refl)

-- what a test says of every entry of the table
intrinsic_all : (p : Intrinsic → Bool) → list_all p INTRINSICS ≡ true → (x : Intrinsic) → p x ≡ true
intrinsic_all p h x = all_at p INTRINSICS (intrinsic_place x).0 x h (intrinsic_place x).1

intrinsic_low : (x : Intrinsic) → list_all is_low (intrinsic_text x) ≡ true
intrinsic_low = intrinsic_all (λ y. list_all is_low (intrinsic_text y)) refl

intrinsic_some : (x : Intrinsic) → 0 < length (intrinsic_text x)
intrinsic_some x = some_length (intrinsic_text x) (intrinsic_all (λ y. nat_lt 0 (length (intrinsic_text y))) refl x)

-- the walk comes to the tables
intrinsic_comes : (x : Intrinsic) (words : List Word) (at : ℕ) (rest : List ℕ) → token_at words at (intrinsic_text x ++ rest) ≡ fixed_at words (intrinsic_text x ++ rest)
unfolding token_at word_at string_at
intrinsic_comes intrinsic.InstrumentationVersion words at rest = refl
intrinsic_comes intrinsic.InstrumentationName words at rest = refl
intrinsic_comes intrinsic.SpanStatusMessage words at rest = refl
intrinsic_comes intrinsic.TraceRootService words at rest = refl
intrinsic_comes intrinsic.RootServiceName words at rest = refl
intrinsic_comes intrinsic.TraceColonDuration words at rest = refl
intrinsic_comes intrinsic.TraceRootName words at rest = refl
intrinsic_comes intrinsic.StatusMessage words at rest = refl
intrinsic_comes intrinsic.SpanDuration words at rest = refl
intrinsic_comes intrinsic.SpanParentId words at rest = refl
intrinsic_comes intrinsic.TraceDuration words at rest = refl
intrinsic_comes intrinsic.SpanStatus words at rest = refl
intrinsic_comes intrinsic.SpanName words at rest = refl
intrinsic_comes intrinsic.SpanKind words at rest = refl
intrinsic_comes intrinsic.Duration words at rest = refl
intrinsic_comes intrinsic.TraceId words at rest = refl
intrinsic_comes intrinsic.RootName words at rest = refl
intrinsic_comes intrinsic.SpanId words at rest = refl
intrinsic_comes intrinsic.Status words at rest = refl
intrinsic_comes intrinsic.Name words at rest = refl
intrinsic_comes intrinsic.Kind words at rest = refl

word_no_sign : (x : Word) (rest : List ℕ) → find (λ y. starts_with nat_eq (word_text x ++ rest) (sign_text y)) SIGNS ≡ None
word_no_sign x rest = none_there (find (λ y. starts_with nat_eq (word_text x ++ rest) (sign_text y)) SIGNS) (word_all (λ z. is_none (find (λ y. starts_with nat_eq (word_text z ++ rest) (sign_text y)) SIGNS)) refl x)

intrinsic_no_sign : (x : Intrinsic) (rest : List ℕ) → find (λ y. starts_with nat_eq (intrinsic_text x ++ rest) (sign_text y)) SIGNS ≡ None
intrinsic_no_sign x rest = none_there (find (λ y. starts_with nat_eq (intrinsic_text x ++ rest) (sign_text y)) SIGNS) (intrinsic_all (λ z. is_none (find (λ y. starts_with nat_eq (intrinsic_text z ++ rest) (sign_text y)) SIGNS)) refl x)

not_true : (b : Bool) → not b ≡ true → b ≡ false
not_true true h = absurd (cc)
not_true false h = refl

-- a text that no word begins has none of a table in front
no_word : (bs : List ℕ) → list_all (λ w. not (starts_with nat_eq bs (word_text w))) METRICS_WORDS ≡ true → (words : List Word) → find (λ w. starts_with nat_eq bs (word_text w)) words ≡ None
no_word bs h [] = refl
no_word bs h (w ∷ ws) =
    let other : starts_with nat_eq bs (word_text w) ≡ false = not_true (starts_with nat_eq bs (word_text w)) (word_all (λ w. not (starts_with nat_eq bs (word_text w))) h w) in
    ap (λ b. cond b (Some w) (find (λ w. starts_with nat_eq bs (word_text w)) ws)) other ∙ no_word bs h ws

intrinsic_no_word : (words : List Word) (x : Intrinsic) (rest : List ℕ) → find (λ y. starts_with nat_eq (intrinsic_text x ++ rest) (word_text y)) words ≡ None
intrinsic_no_word words x rest = no_word (intrinsic_text x ++ rest) (intrinsic_all (λ z. list_all (λ w. not (starts_with nat_eq (intrinsic_text z ++ rest) (word_text w))) METRICS_WORDS) refl x) words

abbrev by_tables : Option Sign → Option Word → Option Intrinsic → Option Measured
by_tables a b c =
    option_or (option_map (λ s. (token.Mark s, length (sign_text s))) a)
    (option_or (option_map (λ w. (token.Keyword w, length (word_text w))) b)
    (option_map (λ i. (token.Builtin i, length (intrinsic_text i))) c))

pub sign_reach : (words : List Word) (at : ℕ) (s : Sign) (rest : List ℕ) → Reaches (token_at words at) (sign_text s) rest (token.Mark s)
unfolding fixed_at
sign_reach words at s rest =
    let bs = sign_text s ++ rest in
    let f = firsts sign_text SIGNS (sign_place s).0 s rest sign_order (sign_place s).1 in
    record {
      found = (token.Mark f.0, length (sign_text f.0));
      is = sign_comes s words at rest ∙ ap (λ o. by_tables o (find (λ x. starts_with nat_eq bs (word_text x)) words) (find (λ x. starts_with nat_eq bs (intrinsic_text x)) INTRINSICS)) f.1;
      far = f.2;
      same = λ z. ap token.Mark (f.3 z);
    }

pub word_reach : (words : List Word) → IsTable words → (at : ℕ) (w : Word) → Contains words w → (rest : List ℕ) → Reaches (token_at words at) (word_text w) rest (token.Keyword w)
unfolding fixed_at
word_reach words ordered at w has rest =
    let bs = word_text w ++ rest in
    let place = place_of w words has in
    let f = firsts word_text words place.0 w rest ordered place.1 in
    record {
      found = (token.Keyword f.0, length (word_text f.0));
      is = word_comes w words at rest ∙ ap₂ (λ a b. by_tables a b (find (λ x. starts_with nat_eq bs (intrinsic_text x)) INTRINSICS)) (word_no_sign w rest) f.1;
      far = f.2;
      same = λ z. ap token.Keyword (f.3 z);
    }

pub intrinsic_reach : (words : List Word) (at : ℕ) (i : Intrinsic) (rest : List ℕ) → Reaches (token_at words at) (intrinsic_text i) rest (token.Builtin i)
unfolding fixed_at
intrinsic_reach words at i rest =
    let bs = intrinsic_text i ++ rest in
    let f = firsts intrinsic_text INTRINSICS (intrinsic_place i).0 i rest intrinsic_order (intrinsic_place i).1 in
    record {
      found = (token.Builtin f.0, length (intrinsic_text f.0));
      is = intrinsic_comes i words at rest ∙ ap₂ (λ a b. by_tables a b (find (λ x. starts_with nat_eq bs (intrinsic_text x)) INTRINSICS)) (intrinsic_no_sign i rest) (intrinsic_no_word words i rest) ∙ ap (λ c. by_tables None None c) f.1;
      far = f.2;
      same = λ z. ap token.Builtin (f.3 z);
    }

abbrev pub Tokened : List Word → ℕ → List ℕ → Measured → Type 0
Tokened words at bs r = Found bs r.1 (λ w. IsTokenOf words at w r.0)

fixed_found : (words : List Word) (at : ℕ) (bs text : List ℕ) (k : TokenKind) → starts_with nat_eq bs text ≡ true → list_all is_low text ≡ true → 0 < length text → IsTokenOf words at text k → Tokened words at bs (k, length text)
fixed_found words at bs text k h low some is = record {
  word = text;
  rest = drop (length text) bs;
  parted = starts_true bs text h;
  size = refl;
  is = is;
  end = low_end bs text (drop (length text) bs) (starts_true bs text h) low some;
  some = some;
}

found_by : (words : List Word) (at : ℕ) (bs : List ℕ) (r : Measured) (a : Option Sign) (b : Option Word) (c : Option Intrinsic)
    → find (λ x. starts_with nat_eq bs (sign_text x)) SIGNS ≡ a → find (λ x. starts_with nat_eq bs (word_text x)) words ≡ b → find (λ x. starts_with nat_eq bs (intrinsic_text x)) INTRINSICS ≡ c
    → by_tables a b c ≡ Some r → Tokened words at bs r
unfolding IsTokenOf
found_by words at bs r (Some s) b c ea eb ec h =
    let same : (token.Mark s, length (sign_text s)) ≡ r = cc in
    subst (Tokened words at bs) same (fixed_found words at bs (sign_text s) (token.Mark s) (find_passes (λ x. starts_with nat_eq bs (sign_text x)) s SIGNS ea) (sign_low s) (sign_some s) refl)
found_by words at bs r None (Some w) c ea eb ec h =
    let same : (token.Keyword w, length (word_text w)) ≡ r = cc in
    subst (Tokened words at bs) same (fixed_found words at bs (word_text w) (token.Keyword w) (find_passes (λ x. starts_with nat_eq bs (word_text x)) w words eb) (word_low w) (word_some w) (refl, find_there (λ x. starts_with nat_eq bs (word_text x)) w words eb))
found_by words at bs r None None (Some i) ea eb ec h =
    let same : (token.Builtin i, length (intrinsic_text i)) ≡ r = cc in
    subst (Tokened words at bs) same (fixed_found words at bs (intrinsic_text i) (token.Builtin i) (find_passes (λ x. starts_with nat_eq bs (intrinsic_text x)) i INTRINSICS ec) (intrinsic_low i) (intrinsic_some i) refl)
found_by words at bs r None None None ea eb ec h = absurd (cc)

pub fixed_sound : (words : List Word) (at : ℕ) (bs : List ℕ) (r : Measured) → fixed_at words bs ≡ Some r → Tokened words at bs r
unfolding fixed_at
fixed_sound words at bs r h =
    found_by words at bs r (find (λ x. starts_with nat_eq bs (sign_text x)) SIGNS) (find (λ x. starts_with nat_eq bs (word_text x)) words) (find (λ x. starts_with nat_eq bs (intrinsic_text x)) INTRINSICS) refl refl refl h

-- what none of the tables has in front is no token of fixed text
pub unfixed : (words : List Word) (bs : List ℕ) → find (λ x. starts_with nat_eq bs (sign_text x)) SIGNS ≡ None → list_all (λ w. not (starts_with nat_eq bs (word_text w))) METRICS_WORDS ≡ true → find (λ x. starts_with nat_eq bs (intrinsic_text x)) INTRINSICS ≡ None
    → fixed_at words bs ≡ None
unfolding fixed_at
unfixed words bs signs others intrinsics = ap₂ (λ a b. by_tables a b (find (λ x. starts_with nat_eq bs (intrinsic_text x)) INTRINSICS)) signs (no_word bs others words) ∙ ap (λ c. by_tables None None c) intrinsics

-- a byte that is neither a space nor a closing parenthesis
abbrev is_calm : ℕ → Bool
is_calm b = not (eqb b 32) && not (eqb b 41)

calm_at : (t : List ℕ) (n : ℕ) → list_all is_calm (drop 1 t) ≡ true → 0 < n → n < length t → is_calm (get_or t n 0) ≡ true
calm_at [] n h p l = absurd (omega arith)
calm_at (x ∷ xs) zero h p l = absurd (omega arith)
calm_at (x ∷ xs) (suc n) h p l = AllPass-from_list_all is_calm xs h n 0 (omega arith)

no_longer_by : (a t rest : List ℕ) → a ++ rest ≡ t ++ drop (length t) (a ++ rest) → list_all is_calm (drop 1 t) ≡ true → 0 < length a → Apart rest → length a < length t → ⊥
no_longer_by a t rest e calm some (at_end z) longer =
    absurd (omega (arith, ap length e, length-append t (drop (length t) (a ++ rest)), length-append a rest, ap length z))
no_longer_by a t rest e calm some (at_space tl z) longer =
    let there : get_or (a ++ rest) (length a) 0 ≡ 32 = ap (λ x. get_or (a ++ x) (length a) 0) z ∙ get_or_at a 32 tl 0 (length a) refl in
    let here : get_or (a ++ rest) (length a) 0 ≡ get_or t (length a) 0 = ap (λ x. get_or x (length a) 0) e ∙ get_or_append_left t (drop (length t) (a ++ rest)) 0 (length a) longer in
    let q : is_calm 32 ≡ true = ap is_calm (sym there ∙ here) ∙ calm_at t (length a) calm some longer in
    absurd (cc)
no_longer_by a t rest e calm some (at_paren tl z) longer =
    let there : get_or (a ++ rest) (length a) 0 ≡ 41 = ap (λ x. get_or (a ++ x) (length a) 0) z ∙ get_or_at a 41 tl 0 (length a) refl in
    let here : get_or (a ++ rest) (length a) 0 ≡ get_or t (length a) 0 = ap (λ x. get_or x (length a) 0) e ∙ get_or_append_left t (drop (length t) (a ++ rest)) 0 (length a) longer in
    let q : is_calm 41 ≡ true = ap is_calm (sym there ∙ here) ∙ calm_at t (length a) calm some longer in
    absurd (cc)

-- nothing of a table lengthens an entry across what keeps it apart
exact_first : {X : Type 0} (f : X → List ℕ) (xs : List X) (x : X) (rest : List ℕ) → (first : Firsts f xs x rest) → ((y : X) → list_all is_calm (drop 1 (f y)) ≡ true) → 0 < length (f x) → Apart rest → first.0 ≡ x
exact_first f xs x rest first calm some apart_ =
    let t = f first.0 in
    let e = starts_true (f x ++ rest) t (find_passes (λ z. starts_with nat_eq (f x ++ rest) (f z)) first.0 xs first.1) in
    elim (longer_or (length (f x)) (length t)) [
      | inl longer ↦ absurd (no_longer_by (f x) t rest e (calm first.0) some apart_ longer)
      | inr within ↦ first.3 (omega (arith, first.2))
    ]

sign_calm : (x : Sign) → list_all is_calm (drop 1 (sign_text x)) ≡ true
sign_calm = sign_all (λ y. list_all is_calm (drop 1 (sign_text y))) refl

word_calm : (x : Word) → list_all is_calm (drop 1 (word_text x)) ≡ true
word_calm = word_all (λ y. list_all is_calm (drop 1 (word_text y))) refl

intrinsic_calm : (x : Intrinsic) → list_all is_calm (drop 1 (intrinsic_text x)) ≡ true
intrinsic_calm = intrinsic_all (λ y. list_all is_calm (drop 1 (intrinsic_text y))) refl

-- a sign, a word or an intrinsic is found as it stands before what keeps it apart
pub sign_exact : (words : List Word) (at : ℕ) (s : Sign) (rest : List ℕ) → Apart rest → token_at words at (sign_text s ++ rest) ≡ Some (token.Mark s, length (sign_text s))
unfolding fixed_at
sign_exact words at s rest a =
    let bs = sign_text s ++ rest in
    let f = firsts sign_text SIGNS (sign_place s).0 s rest sign_order (sign_place s).1 in
    sign_comes s words at rest ∙ ap (λ o. by_tables o (find (λ x. starts_with nat_eq bs (word_text x)) words) (find (λ x. starts_with nat_eq bs (intrinsic_text x)) INTRINSICS)) f.1
    ∙ ap (λ y. Some (token.Mark y, length (sign_text y))) (exact_first sign_text SIGNS s rest f sign_calm (sign_some s) a)

pub word_exact : (words : List Word) → IsTable words → (at : ℕ) (w : Word) → Contains words w → (rest : List ℕ) → Apart rest → token_at words at (word_text w ++ rest) ≡ Some (token.Keyword w, length (word_text w))
unfolding fixed_at
word_exact words ordered at w has rest a =
    let bs = word_text w ++ rest in
    let place = place_of w words has in
    let f = firsts word_text words place.0 w rest ordered place.1 in
    word_comes w words at rest ∙ ap₂ (λ a b. by_tables a b (find (λ x. starts_with nat_eq bs (intrinsic_text x)) INTRINSICS)) (word_no_sign w rest) f.1
    ∙ ap (λ y. Some (token.Keyword y, length (word_text y))) (exact_first word_text words w rest f word_calm (word_some w) a)

pub intrinsic_exact : (words : List Word) (at : ℕ) (i : Intrinsic) (rest : List ℕ) → Apart rest → token_at words at (intrinsic_text i ++ rest) ≡ Some (token.Builtin i, length (intrinsic_text i))
unfolding fixed_at
intrinsic_exact words at i rest a =
    let bs = intrinsic_text i ++ rest in
    let f = firsts intrinsic_text INTRINSICS (intrinsic_place i).0 i rest intrinsic_order (intrinsic_place i).1 in
    intrinsic_comes i words at rest ∙ ap₂ (λ a b. by_tables a b (find (λ x. starts_with nat_eq bs (intrinsic_text x)) INTRINSICS)) (intrinsic_no_sign i rest) (intrinsic_no_word words i rest) ∙ ap (λ c. by_tables None None c) f.1
    ∙ ap (λ y. Some (token.Builtin y, length (intrinsic_text y))) (exact_first intrinsic_text INTRINSICS i rest f intrinsic_calm (intrinsic_some i) a)

-- nothing lengthens an opening parenthesis
pub paren_exact : (words : List Word) (at : ℕ) (rest : List ℕ) → token_at words at (40 ∷ rest) ≡ Some (token.Mark sign.OpenParen, 1)
unfolding token_at word_at fixed_at string_at
paren_exact words at rest = refl
