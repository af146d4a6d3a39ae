-- Private mechanism. Reading tokens from the left: what is read and the tokens after it, or why the first of the tokens is refused.
use Rattle.std.specs.Prelude.{◌≡◌, ℕ, zero, suc, Bool, true, false, List, [], ◌∷◌, length, Option, Some, None, option_map, is_some, Result, Ok, Err}
use Rattle.traceql_tokens.specs.Tokens.{mended}
use Rattle.traceql_tokens.specs.declared.fixed.Sign.{Sign}
use Rattle.traceql_tokens.specs.declared.fixed.Sign.TheVariants as sign
use Rattle.traceql_tokens.specs.declared.fixed.Word.{Word}
use Rattle.traceql_tokens.specs.declared.kinds.Token.{Token}
use Rattle.traceql_tokens.specs.declared.kinds.TokenKind.{TokenKind}
use Rattle.traceql_syntax.specs.Tables.{on_sign, on_word}
use Rattle.traceql_parse.specs.declared.stop.Cause.{Cause}
use Rattle.traceql_parse.specs.declared.stop.Cause.TheVariants as cause
use Rattle.traceql_parse.specs.declared.stop.Stop.{Stop}
use Rattle.traceql_parse.specs.declared.stop.Stop.TheVariants as stop
use Rattle.traceql_parse.specs.declared.lookahead.Delimiter.{Delimiter}
use Rattle.traceql_parse.specs.declared.lookahead.Delimiter.TheVariants as delimiter

abbrev pub Refusal : Type 0
Refusal = Cause × List Token

abbrev pub Answer : Type 0 → Type 0
Answer A = Result (A × List Token) Refusal

infixl 10 ◌>>=◌
abbrev pub ◌>>=◌ : {A B : Type 0} → Answer A → (A × List Token → Answer B) → Answer B
(Ok x) >>= f = f x
(Err e) >>= f = Err e

-- What the code returned, seen by view, is this answer, unless memory ran out.
abbrev pub Halts : {Y : Type 0} → Stop → Answer Y → Type 0
Halts stop.Memory answer = Unit {0}
Halts (stop.Refused why rest) answer = answer ≡ Err (why, rest.now)

-- the code stops there, and not for memory
abbrev pub StopsAt : Stop → Refusal → Type 0
StopsAt stop.Memory refusal = ⊥
StopsAt (stop.Refused why rest) refusal = (why, rest.now) ≡ refusal

abbrev pub Gives : {X Y : Type 0} → (X → Y × List Token) → Result X Stop → Answer Y → Type 0
Gives view (Ok x) answer = answer ≡ Ok (view x)
Gives view (Err e) answer = Halts e answer

-- the place of the first token and what it stands for, and the tokens after it
abbrev pub next_sign : {V : Type 0} → (Sign → Option V) → List Token → Option ((ℕ × V) × List Token)
next_sign f [] = None
next_sign f (t ∷ ts) = option_map (λ v. ((t.at, v), ts)) (on_sign f t.kind)

abbrev pub next_word : {V : Type 0} → (Word → Option V) → List Token → Option ((ℕ × V) × List Token)
next_word f [] = None
next_word f (t ∷ ts) = option_map (λ v. ((t.at, v), ts)) (on_word f t.kind)

-- the refusal of the first token, or of the end
abbrev pub refusal_of : List Token → Refusal
refusal_of [] = (cause.Unfinished, [])
refusal_of (t ∷ ts) = (cause.Unexpected, t ∷ ts)

abbrev pub or_refused : {V : Type 0} → List Token → Option (V × List Token) → Answer V
or_refused ts None = Err (refusal_of ts)
or_refused ts (Some x) = Ok x

abbrev pub expect_sign : {V : Type 0} → (Sign → Option V) → List Token → Answer (ℕ × V)
expect_sign f ts = or_refused ts (next_sign f ts)

abbrev pub expect_word : {V : Type 0} → (Word → Option V) → List Token → Answer (ℕ × V)
expect_word f ts = or_refused ts (next_word f ts)

-- a token that may have a fault: where it would stand for something without it, the fault is why it is refused
abbrev pub blame : {V : Type 0} → Option V → Cause
blame None = cause.Unexpected
blame (Some v) = cause.Faulty

abbrev pub judged : {V : Type 0} → Option V → Option V → Token → List Token → Answer V
judged (Some v) without t ts = Ok (v, ts)
judged None without t ts = Err (blame without, t ∷ ts)

abbrev pub expect : {V : Type 0} → (ℕ → TokenKind → Option V) → List Token → Answer V
expect f [] = Err (cause.Unfinished, [])
expect f (t ∷ ts) = judged (f t.at t.kind) (f t.at (mended t.kind)) t ts

-- the sign of a delimiter
abbrev pub delimits : Delimiter → Sign → Option (Unit {0})
delimits delimiter.OpenParen sign.OpenParen = Some tt
delimits delimiter.CloseParen sign.CloseParen = Some tt
delimits delimiter.OpenBrace sign.OpenBrace = Some tt
delimits delimiter.CloseBrace sign.CloseBrace = Some tt
delimits delimiter.Comma sign.Comma = Some tt
delimits delimiter.Bar sign.Bar = Some tt
delimits delimiter.Caret sign.Caret = Some tt
delimits delimiter.Minus sign.Minus = Some tt
delimits _ _ = None

abbrev pub begins : Delimiter → List Token → Bool
begins d ts = is_some (next_sign (delimits d) ts)

-- A head and then items, as long as the tokens after it begin one.
abbrev pub turns : {A B : Type 0} → (List Token → Bool) → (List Token → Answer B) → (A → B → A) → ℕ → A → List Token → Answer A
turns goes item join zero a ts = Ok (a, ts)
turns goes item join (suc n) a ts = elim (goes ts) [ true ↦ item ts >>= λ x. turns goes item join n (join a x.0) x.1 | false ↦ Ok (a, ts) ]

unfoldable pub items : {A B : Type 0} → (List Token → Bool) → (List Token → Answer B) → (A → B → A) → A → List Token → Answer A
items goes item join a ts = turns goes item join (length ts) a ts
