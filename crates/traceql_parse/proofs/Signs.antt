-- Facts of the tables of signs.
use Rattle.std.proofs.Common.{◌≡◌, ℕ, Bool, true, false, ◌&&◌, ◌||◌, Option, Some, None, option_map, is_some, refl, sym, ◌∙◌, ap}
use Rattle.traceql_tokens.specs.declared.fixed.Sign.{Sign}
use Rattle.traceql_tokens.specs.declared.fixed.Sign.TheVariants as sign
use Rattle.traceql_tokens.specs.declared.kinds.Token.{Token}
use Rattle.traceql_tokens.specs.declared.kinds.TokenKind.{TokenKind}
use Rattle.traceql_tokens.specs.declared.kinds.TokenKind.TheVariants as token
use Rattle.traceql_syntax.specs.declared.field.BinaryOp.{BinaryOp}
use Rattle.traceql_syntax.specs.declared.field.Level.{Level}
use Rattle.traceql_syntax.specs.declared.field.Level.TheVariants as level
use Rattle.traceql_syntax.specs.Grammar.{mark}
use Rattle.traceql_syntax.specs.Tables.{on_sign, level_sign, pattern_sign}
use Rattle.traceql_parse.specs.declared.lookahead.Delimiter.{Delimiter}
use Rattle.traceql_parse.specs.declared.lookahead.Delimiter.TheVariants as delimiter
use Rattle.traceql_parse.specs.declared.lookahead.ItemSign.TheVariants as item_sign
use Rattle.traceql_parse.specs.Descent.{item_sign_of, or_else}
use Rattle.traceql_parse.specs.Reading.{delimits}
use Rattle.traceql_parse.proofs.Base.{placing, at_sign}
use Rattle.traceql_parse.proofs.Group.{Follows, placing_some}

abbrev pub sign_of : Delimiter → Sign
sign_of delimiter.OpenParen = sign.OpenParen
sign_of delimiter.CloseParen = sign.CloseParen
sign_of delimiter.OpenBrace = sign.OpenBrace
sign_of delimiter.CloseBrace = sign.CloseBrace
sign_of delimiter.Comma = sign.Comma
sign_of delimiter.Bar = sign.Bar
sign_of delimiter.Caret = sign.Caret
sign_of delimiter.Minus = sign.Minus

pub delimits_only : (d : Delimiter) (s : Sign) → delimits d s ≡ Some tt → s ≡ sign_of d
delimits_only delimiter.OpenParen sign.OpenParen h = refl
delimits_only delimiter.CloseParen sign.CloseParen h = refl
delimits_only delimiter.OpenBrace sign.OpenBrace h = refl
delimits_only delimiter.CloseBrace sign.CloseBrace h = refl
delimits_only delimiter.Comma sign.Comma h = refl
delimits_only delimiter.Bar sign.Bar h = refl
delimits_only delimiter.Caret sign.Caret h = refl
delimits_only delimiter.Minus sign.Minus h = refl
delimits_only _ _ h = cc

pub delimits_sign : (d : Delimiter) → delimits d (sign_of d) ≡ Some tt
delimits_sign delimiter.OpenParen = refl
delimits_sign _ = refl

-- a token that a table of signs knows is a sign
pub marked_kind : {V : Type 0} (f : Sign → Option V) (k : TokenKind) (v : V) → on_sign f k ≡ Some v → (s : Sign) × (k ≡ token.Mark s) × (f s ≡ Some v)
marked_kind f (token.Mark s) v h = (s, refl, h)
marked_kind f _ v h = cc

pub marked_token : {V : Type 0} (f : Sign → Option V) (t : Token) (x : ℕ × V) → at_sign f t.at t.kind ≡ Some x → (s : Sign) × (t ≡ mark t.at s) × (f s ≡ Some x.1) × (x.0 ≡ t.at)
marked_token {V = V} f t x h =
    let w = marked_kind f t.kind x.1 (placing_some t.at (on_sign f t.kind) x h) in
    let same : t ≡ mark t.at w.0 = ap (λ (k : TokenKind). let u : Token = record { at = t.at; kind = k } in u) w.1 in
    (w.0, same, w.2, placed_there (on_sign f t.kind) h)
  where
    placed_there : (o : Option V) → placing t.at o ≡ Some x → x.0 ≡ t.at
    placed_there None e = cc
    placed_there (Some v) e = let same : ◌≡◌ {A = ℕ × V} (t.at, v) x = cc in sym (ap (λ (z : ℕ × V). z.0) same)

pub delimiter_token : (d : Delimiter) (t : Token) (x : ℕ × Unit {0}) → at_sign (delimits d) t.at t.kind ≡ Some x → (t ≡ mark t.at (sign_of d)) × (x.0 ≡ t.at)
delimiter_token d t x h =
    let w = marked_token (delimits d) t x h in
    (w.1 ∙ ap (mark t.at) (delimits_only d w.0 w.2), w.3)

-- What goes on an expression of a level, and what goes on its operands.

abbrev pub on_mark : (Sign → Bool) → TokenKind → Bool
on_mark g (token.Mark s) = g s
on_mark g _ = false

abbrev pub caret : Sign → Bool
caret s = is_some (delimits delimiter.Caret s)

abbrev pub operand_goes : Level → Sign → Bool
operand_goes level.Product s = caret s
operand_goes level.Sum s = caret s || is_some (item_sign_of level.Product s)
operand_goes level.Comparison s = (caret s || is_some (item_sign_of level.Product s)) || is_some (item_sign_of level.Sum s)
operand_goes level.Choice s = ((caret s || is_some (item_sign_of level.Product s)) || is_some (item_sign_of level.Sum s)) || is_some (item_sign_of level.Comparison s)

abbrev pub level_goes : Level → Sign → Bool
level_goes l s = operand_goes l s || is_some (item_sign_of l s)

level_apart : (l : Level) (s : Sign) → (is_some (item_sign_of l s) && operand_goes l s) ≡ false
level_apart level.Product sign.OpenParen = refl
level_apart level.Sum sign.OpenParen = refl
level_apart level.Comparison sign.OpenParen = refl
level_apart level.Choice sign.OpenParen = refl
level_apart _ _ = refl

right_false : (a b : Bool) → (a || b) ≡ false → b ≡ false
right_false true b h = cc
right_false false b h = h

left_false : (a b : Bool) → (a || b) ≡ false → a ≡ false
left_false true b h = h
left_false false b h = refl

not_both : (a b : Bool) → (a && b) ≡ false → a ≡ true → b ≡ false
not_both true b h k = h
not_both false b h k = cc

pub follows : {V : Type 0} (g : Sign → Bool) (f : Sign → Option V) → ((s : Sign) → (is_some (f s) && g s) ≡ false) → Follows (on_mark g) f (on_mark (λ s. g s || is_some (f s)))
follows {V = V} g f apart = record { halts = halts; weaken = weaken; clash = clash }
  where
    halts : (k : TokenKind) → on_mark (λ s. g s || is_some (f s)) k ≡ false → is_some (on_sign f k) ≡ false
    halts (token.Mark s) h = right_false (g s) (is_some (f s)) h
    halts _ h = refl

    weaken : (k : TokenKind) → on_mark (λ s. g s || is_some (f s)) k ≡ false → on_mark g k ≡ false
    weaken (token.Mark s) h = left_false (g s) (is_some (f s)) h
    weaken _ h = refl

    clash : (k : TokenKind) (v : V) → on_sign f k ≡ Some v → on_mark g k ≡ false
    clash (token.Mark s) v h = not_both (is_some (f s)) (g s) (apart s) (ap (λ (o : Option V). is_some o) h)
    clash _ v h = refl

pub level_follows : (l : Level) → Follows (on_mark (operand_goes l)) (item_sign_of l) (on_mark (level_goes l))
level_follows l = follows (operand_goes l) (item_sign_of l) (level_apart l)

-- The items of a level are its operators and, at the comparisons, the patterns.

operator_of : (o : Option BinaryOp) (op : BinaryOp) → option_map item_sign.Operator o ≡ Some (item_sign.Operator op) → o ≡ Some op
operator_of None op h = cc
operator_of (Some x) op h = let same : item_sign.Operator x ≡ item_sign.Operator op = cc in ap Some (cc (same))

no_pattern : (o : Option BinaryOp) (negated : Bool) → option_map item_sign.Operator o ≡ Some (item_sign.Pattern negated) → ⊥
no_pattern None negated h = cc
no_pattern (Some x) negated h = cc

either_operator : (p : Option Bool) (o : Option BinaryOp) (op : BinaryOp) → or_else (option_map item_sign.Pattern p) (option_map item_sign.Operator o) ≡ Some (item_sign.Operator op) → o ≡ Some op
either_operator (Some b) o op h = cc
either_operator None o op h = operator_of o op h

either_pattern : (p : Option Bool) (o : Option BinaryOp) (negated : Bool) → or_else (option_map item_sign.Pattern p) (option_map item_sign.Operator o) ≡ Some (item_sign.Pattern negated) → p ≡ Some negated
either_pattern (Some b) o negated h = let same : item_sign.Pattern b ≡ item_sign.Pattern negated = cc in ap Some (cc (same))
either_pattern None o negated h = absurd (no_pattern o negated h)

pub level_operator : (l : Level) (s : Sign) (op : BinaryOp) → item_sign_of l s ≡ Some (item_sign.Operator op) → level_sign l s ≡ Some op
level_operator level.Product s op h = operator_of (level_sign level.Product s) op h
level_operator level.Sum s op h = operator_of (level_sign level.Sum s) op h
level_operator level.Comparison s op h = either_operator (pattern_sign s) (level_sign level.Comparison s) op h
level_operator level.Choice s op h = operator_of (level_sign level.Choice s) op h

pub level_pattern : (l : Level) (s : Sign) (negated : Bool) → item_sign_of l s ≡ Some (item_sign.Pattern negated) → (l ≡ level.Comparison) × (pattern_sign s ≡ Some negated)
level_pattern level.Product s negated h = absurd (no_pattern (level_sign level.Product s) negated h)
level_pattern level.Sum s negated h = absurd (no_pattern (level_sign level.Sum s) negated h)
level_pattern level.Comparison s negated h = (refl, either_pattern (pattern_sign s) (level_sign level.Comparison s) negated h)
level_pattern level.Choice s negated h = absurd (no_pattern (level_sign level.Choice s) negated h)

comparison_no_pattern : (s : Sign) (op : BinaryOp) → level_sign level.Comparison s ≡ Some op → pattern_sign s ≡ None
comparison_no_pattern sign.EqualTilde op h = cc
comparison_no_pattern sign.BangTilde op h = cc
comparison_no_pattern _ op h = refl

pub operator_item : (l : Level) (s : Sign) (op : BinaryOp) → level_sign l s ≡ Some op → item_sign_of l s ≡ Some (item_sign.Operator op)
operator_item level.Product s op h = ap (λ (o : Option BinaryOp). option_map item_sign.Operator o) h
operator_item level.Sum s op h = ap (λ (o : Option BinaryOp). option_map item_sign.Operator o) h
operator_item level.Comparison s op h =
    ap (λ (p : Option Bool). or_else (option_map item_sign.Pattern p) (option_map item_sign.Operator (level_sign level.Comparison s))) (comparison_no_pattern s op h)
    ∙ ap (λ (o : Option BinaryOp). option_map item_sign.Operator o) h
operator_item level.Choice s op h = ap (λ (o : Option BinaryOp). option_map item_sign.Operator o) h

pub pattern_item : (s : Sign) (negated : Bool) → pattern_sign s ≡ Some negated → item_sign_of level.Comparison s ≡ Some (item_sign.Pattern negated)
pattern_item s negated h = ap (λ (p : Option Bool). or_else (option_map item_sign.Pattern p) (option_map item_sign.Operator (level_sign level.Comparison s))) h
