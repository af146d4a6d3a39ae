-- A query that a text spells is printed with tokens that a text can have, since its names and numbers come from tokens.
use Rattle.std.proofs.Common.{◌≡◌, ℕ, ◌+◌, ◌<◌, append_assoc, Bool, true, false, List, [], ◌∷◌, ◌++◌, length, Option, Some, None, inl, inr, ap, sym, subst, ◌∙◌}
use Rattle.std.specs.List.{AllByRecursion}
use Rattle.traceql_tokens.specs.Numbers.{LIMIT}
use Rattle.traceql_tokens.specs.Tokens.{IsToken, IsTokenOf, AreTokens, AreTokensOf}
use Rattle.traceql_tokens.specs.declared.fixed.Sign.{Sign}
use Rattle.traceql_tokens.specs.declared.fixed.Sign.TheVariants as sign
use Rattle.traceql_tokens.specs.declared.fixed.Word.{Word}
use Rattle.traceql_tokens.specs.declared.fixed.Word.TheVariants as word
use Rattle.traceql_tokens.specs.declared.kinds.Token.{Token}
use Rattle.traceql_tokens.specs.declared.kinds.TokenKind.{TokenKind}
use Rattle.traceql_tokens.specs.declared.kinds.TokenKind.TheVariants as token
use Rattle.traceql_syntax.specs.declared.field.Field.{Field}
use Rattle.traceql_syntax.specs.declared.field.Literal.{Literal}
use Rattle.traceql_syntax.specs.declared.query.AggregateOp.{AggregateOp}
use Rattle.traceql_syntax.specs.declared.query.AggregateOp.TheVariants as aggregate
use Rattle.traceql_syntax.specs.Grammar as rule
use Rattle.traceql_syntax.specs.Grammar.{Class, Spells, SetClass, SpellsCondition, SpellsSet, SpellsAggregate, SpellsThreshold, SpellsFields, SpellsStage, SpellsQuery}
use Rattle.traceql_syntax.specs.Tables as table
use Rattle.traceql_syntax.specs.Trees.{Placed, SetTree, AggregateTree, ThresholdTree, StageTree, QueryTree}
use Rattle.traceql_print.specs.Signs.{aggregate_word, literal_kind, field_kind}
use Rattle.traceql_print.specs.Kinds.{in_parens, operand, is_binary, expr_kinds, condition_kinds, is_join, set_kinds, aggregate_kinds, threshold_kinds, more_fields_kinds, fields_kinds, stage_kinds, stages_kinds, query_kinds}
use Rattle.std.proofs.lemmas.Grind.{flat_map-append}
use Rattle.traceql_print.proofs.Lexed.{IsQueryWord, Fits}
use Rattle.traceql_print.proofs.Putting.{flat_map-single}
use Rattle.traceql_print.proofs.SpelledQueries.{HasFields}

-- what is known of every token of a text
abbrev pub Sane : TokenKind → Type 0
Sane (token.Named s name) = name ≡ [] → ⊥
Sane (token.Number n) = n < LIMIT
Sane (token.Duration n) = n < LIMIT
Sane _ = Unit {0}

token_sane : (at : ℕ) (text : List ℕ) (k : TokenKind) → IsToken at text k → Sane k
unfolding IsTokenOf
token_sane at text (token.Named s name) h = h.0
token_sane at text (token.Number n) h = h.2
token_sane at text (token.Duration n) h = h.3
token_sane at text (token.Mark s) h = tt
token_sane at text (token.Keyword w) h = tt
token_sane at text (token.Builtin i) h = tt
token_sane at text (token.Quoted value) h = tt
token_sane at text (token.Broken c f) h = tt
token_sane at text token.Nameless h = tt
token_sane at text token.Unknown h = tt

abbrev pub AreSane : List Token → Type 0
AreSane ts = AllByRecursion (λ (t : Token). Sane t.kind) ts

pub tokens_sane : (at : ℕ) (text : List ℕ) (ts : List Token) → AreTokens at text ts → AreSane ts
unfolding AreTokensOf
tokens_sane at text [] h = tt
tokens_sane at text (t ∷ ts) h =
    elim h.5 [
      | inl taken ↦ (token_sane t.at taken.0 t.kind taken.2.is, tokens_sane (t.at + length taken.0) taken.1 ts taken.3)
      | inr last ↦ (subst Sane (sym last.0) tt, subst AreSane (sym last.2) tt)
    ]

-- Facts of each element of joined lists.

joined : {X : Type 0} (P : X → Type 0) (xs ys : List X) → AllByRecursion P xs → AllByRecursion P ys → AllByRecursion P (xs ++ ys)
joined P [] ys h k = k
joined P (x ∷ xs) ys h k = (h.0, joined P xs ys h.1 k)

parted : {X : Type 0} (P : X → Type 0) (xs ys : List X) → AllByRecursion P (xs ++ ys) → AllByRecursion P xs × AllByRecursion P ys
parted P [] ys h = (tt, h)
parted P (x ∷ xs) ys h = let more = parted P xs ys h.1 in ((h.0, more.0), more.1)

abbrev pub AllFit : List TokenKind → Type 0
AllFit ks = AllByRecursion Fits ks

front_sane : (xs ys : List Token) → AreSane (xs ++ ys) → AreSane xs
front_sane xs ys h = (parted (λ (t : Token). Sane t.kind) xs ys h).0

back_sane : (xs ys : List Token) → AreSane (xs ++ ys) → AreSane ys
back_sane xs ys h = (parted (λ (t : Token). Sane t.kind) xs ys h).1

parens_fit : (ks : List TokenKind) → AllFit ks → AllFit (in_parens ks)
parens_fit ks h = (tt, joined Fits ks (token.Mark sign.CloseParen ∷ []) h (tt, tt))

operand_fits : (b : Bool) (ks : List TokenKind) → AllFit ks → AllFit (operand b ks)
operand_fits true ks h = parens_fit ks h
operand_fits false ks h = h

around_fits : (xs : List TokenKind) (s : Sign) (ys : List TokenKind) → AllFit xs → AllFit ys → AllFit (xs ++ (token.Mark s ∷ ys))
around_fits xs s ys h k = joined Fits xs (token.Mark s ∷ ys) h (tt, k)

-- where there is a value, this holds of it
abbrev pub Where : {V : Type 0} → (V → Type 0) → Option V → Type 0
Where P None = Unit {0}
Where P (Some v) = P v

word_fits : (w : Word) → Where (λ x. Fits (literal_kind x)) (table.literal_word w)
word_fits word.True = tt
word_fits word.False = tt
word_fits word.Nil = tt
word_fits word.Error = tt
word_fits word.Fine = tt
word_fits word.Unset = tt
word_fits word.Server = tt
word_fits word.Client = tt
word_fits word.Producer = tt
word_fits word.Consumer = tt
word_fits word.Internal = tt
word_fits word.Unspecified = tt
word_fits _ = tt

literal_of_fits : (k : TokenKind) → Sane k → Where (λ x. Fits (literal_kind x)) (table.literal_of k)
literal_of_fits (token.Quoted value) h = tt
literal_of_fits (token.Number n) h = h
literal_of_fits (token.Duration n) h = h
literal_of_fits (token.Keyword w) h = word_fits w
literal_of_fits (token.Mark s) h = tt
literal_of_fits (token.Builtin i) h = tt
literal_of_fits (token.Named s name) h = tt
literal_of_fits (token.Broken c f) h = tt
literal_of_fits token.Nameless h = tt
literal_of_fits token.Unknown h = tt

literal_fits : (k : TokenKind) (x : Literal) → table.literal_of k ≡ Some x → Sane k → Fits (literal_kind x)
literal_fits k x e h = subst (Where (λ x. Fits (literal_kind x))) e (literal_of_fits k h)

field_of_fits : (k : TokenKind) → Sane k → Where (λ x. Fits (field_kind x)) (table.field_of k)
field_of_fits (token.Named s name) h = h
field_of_fits (token.Builtin i) h = tt
field_of_fits (token.Quoted value) h = tt
field_of_fits (token.Number n) h = tt
field_of_fits (token.Duration n) h = tt
field_of_fits (token.Keyword w) h = tt
field_of_fits (token.Mark s) h = tt
field_of_fits (token.Broken c f) h = tt
field_of_fits token.Nameless h = tt
field_of_fits token.Unknown h = tt

field_fits : (k : TokenKind) (x : Field) → table.field_of k ≡ Some x → Sane k → Fits (field_kind x)
field_fits k x e h = subst (Where (λ x. Fits (field_kind x))) e (field_of_fits k h)

measure_of_fits : (negative : Bool) (at : ℕ) (k : TokenKind) → Sane k → Where (λ b. AllFit (threshold_kinds b)) (table.measure_of negative at k)
measure_of_fits true at (token.Number n) h = (tt, (h, tt))
measure_of_fits false at (token.Number n) h = (h, tt)
measure_of_fits true at (token.Duration n) h = (tt, (h, tt))
measure_of_fits false at (token.Duration n) h = (h, tt)
measure_of_fits b at (token.Named s name) h = tt
measure_of_fits b at (token.Builtin i) h = tt
measure_of_fits b at (token.Quoted value) h = tt
measure_of_fits b at (token.Keyword w) h = tt
measure_of_fits b at (token.Mark s) h = tt
measure_of_fits b at (token.Broken c f) h = tt
measure_of_fits b at token.Nameless h = tt
measure_of_fits b at token.Unknown h = tt

measure_fits : (negative : Bool) (at : ℕ) (k : TokenKind) (b : ThresholdTree) → table.measure_of negative at k ≡ Some b → Sane k → AllFit (threshold_kinds b)
measure_fits negative at k b e h = subst (Where (λ b. AllFit (threshold_kinds b))) e (measure_of_fits negative at k h)

pub expr_fits : {n : ℕ} {c : Class} {e : Placed} {ts : List Token} → Spells n c e ts → AreSane ts → AllFit (expr_kinds e.1)
expr_fits (rule.literal {x = x} t e) h = (literal_fits t.kind x e h.0, tt)
expr_fits (rule.field {x = x} t e) h = (field_fits t.kind x e h.0, tt)
expr_fits (rule.parens {ts = ts} opened closed d) h = expr_fits d (front_sane ts _ h.1)
expr_fits (rule.prefix {e = e} at s k d) h = (tt, operand_fits (is_binary e.1) (expr_kinds e.1) (expr_fits d h.1))
expr_fits (rule.atom d) h = expr_fits d h
expr_fits (rule.power {a = a} {b = b} {xs = xs} {ys = ys} at d f) h =
    let back = back_sane xs _ h in
    around_fits _ sign.Caret _ (operand_fits (is_binary a.1) (expr_kinds a.1) (expr_fits d (front_sane xs _ h))) (operand_fits (is_binary b.1) (expr_kinds b.1) (expr_fits f back.1))
expr_fits (rule.lone d) h = expr_fits d h
expr_fits (rule.left {a = a} {b = b} {xs = xs} {ys = ys} l at s k d f) h =
    let back = back_sane xs _ h in
    around_fits _ _ _ (operand_fits (is_binary a.1) (expr_kinds a.1) (expr_fits d (front_sane xs _ h))) (operand_fits (is_binary b.1) (expr_kinds b.1) (expr_fits f back.1))
expr_fits (rule.match {a = a} {xs = xs} at s pattern_at pattern k d) h =
    around_fits _ _ _ (operand_fits (is_binary a.1) (expr_kinds a.1) (expr_fits d (front_sane xs _ h))) (tt, tt)
expr_fits (rule.single l d) h = expr_fits d h

condition_fits : {n : ℕ} {c : Option Placed} {ts : List Token} → SpellsCondition n c ts → AreSane ts → AllFit (condition_kinds c)
condition_fits rule.empty h = tt
condition_fits (rule.condition d) h = expr_fits d h

braces_fit : (ks : List TokenKind) → AllFit ks → AllFit (token.Mark sign.OpenBrace ∷ (ks ++ token.Mark sign.CloseBrace ∷ []))
braces_fit ks h = (tt, joined Fits ks (token.Mark sign.CloseBrace ∷ []) h (tt, tt))

set_fits : {n : ℕ} {c : SetClass} {e : SetTree} {ts : List Token} → SpellsSet n c e ts → AreSane ts → AllFit (set_kinds e)
set_fits (rule.filter {c = c} {ts = ts} opened closed d) h = braces_fit (condition_kinds c) (condition_fits d (front_sane ts _ h.1))
set_fits (rule.set_parens {ts = ts} opened closed d) h = set_fits d (front_sane ts _ h.1)
set_fits (rule.set_left {a = a} {b = b} {xs = xs} l at s k d f) h =
    let back = back_sane xs _ h in
    around_fits _ _ _ (operand_fits (is_join a) (set_kinds a) (set_fits d (front_sane xs _ h))) (operand_fits (is_join b) (set_kinds b) (set_fits f back.1))
set_fits (rule.set_single l d) h = set_fits d h

aggregate_word_fits : (op : AggregateOp) → IsQueryWord (aggregate_word op)
aggregate_word_fits aggregate.Average = tt
aggregate_word_fits aggregate.Least = tt
aggregate_word_fits aggregate.Greatest = tt
aggregate_word_fits aggregate.Sum = tt

aggregate_fits : {n : ℕ} {a : AggregateTree} {ts : List Token} → SpellsAggregate n a ts → AreSane ts → AllFit (aggregate_kinds a)
aggregate_fits (rule.count at opened closed) h = (tt, parens_fit [] tt)
aggregate_fits (rule.of {op = op} {e = e} {ts = ts} at w opened closed k d) h = (aggregate_word_fits op, parens_fit (expr_kinds e.1) (expr_fits d (front_sane ts _ h.1.1)))

threshold_fits : {n : ℕ} {b : ThresholdTree} {ts : List Token} → SpellsThreshold n b ts → AreSane ts → AllFit (threshold_kinds b)
threshold_fits (rule.aggregate d) h = aggregate_fits d h
threshold_fits (rule.plain {x = x} t e) h = measure_fits false t.at t.kind x e h.0
threshold_fits (rule.minus {x = x} at t e) h = measure_fits true t.at t.kind x e h.1.0

-- the fields of a `select`: each is a token's, and there is one
abbrev pub FieldsFit : List Field → Type 0
FieldsFit fs = AllByRecursion (λ f. Fits (field_kind f)) fs

each_field : {fs : List Field} {ts : List Token} → SpellsFields fs ts → AreSane ts → FieldsFit fs
each_field (rule.only {x = x} t e) h = (field_fits t.kind x e h.0, tt)
each_field (rule.more {x = x} {fs = fs} {ts = ts} at t d e) h =
    let back = back_sane ts _ h in
    joined (λ f. Fits (field_kind f)) fs (x ∷ []) (each_field d (front_sane ts _ h)) (field_fits t.kind x e back.1.0, tt)

some_field : {fs : List Field} {ts : List Token} → SpellsFields fs ts → fs ≡ [] → ⊥
some_field (rule.only t e) k = cc
some_field (rule.more {x = x} {fs = fs} at t d e) k = not_none fs x k
  where
    not_none : (gs : List Field) (g : Field) → gs ++ g ∷ [] ≡ [] → ⊥
    not_none [] g z = cc
    not_none (y ∷ gs) g z = cc

more_fields_fit : (fs : List Field) → FieldsFit fs → AllFit (more_fields_kinds fs)
more_fields_fit [] h = tt
more_fields_fit (f ∷ fs) h = (tt, (h.0, more_fields_fit fs h.1))

fields_fit : (fs : List Field) → FieldsFit fs → AllFit (fields_kinds fs)
fields_fit [] h = tt
fields_fit (f ∷ fs) h = (h.0, more_fields_fit fs h.1)

stage_fits : {n : ℕ} {s : StageTree} {ts : List Token} → SpellsStage n s ts → AreSane ts → AllFit (stage_kinds s)
stage_fits (rule.keep {c = c} {ts = ts} opened closed d) h = braces_fit (condition_kinds c) (condition_fits d (front_sane ts _ h.1))
stage_fits (rule.by {e = e} {ts = ts} at opened closed d) h = (tt, parens_fit (expr_kinds e.1) (expr_fits d (front_sane ts _ h.1.1)))
stage_fits (rule.coalesce at opened closed) h = (tt, parens_fit [] tt)
stage_fits (rule.select {fs = fs} {ts = ts} at opened closed d) h = (tt, parens_fit (fields_kinds fs) (fields_fit fs (each_field d (front_sane ts _ h.1.1))))
stage_fits (rule.compare {xs = xs} at s k d f) h =
    let back = back_sane xs _ h in
    around_fits _ _ _ (aggregate_fits d (front_sane xs _ h)) (threshold_fits f back.1)

stage_has : {n : ℕ} {s : StageTree} {ts : List Token} → SpellsStage n s ts → HasFields s
stage_has (rule.keep opened closed d) = tt
stage_has (rule.by at opened closed d) = tt
stage_has (rule.coalesce at opened closed) = tt
stage_has (rule.select at opened closed d) = some_field d
stage_has (rule.compare at s k d f) = tt

stages_joined : (ss : List StageTree) (s : StageTree) → stages_kinds (ss ++ s ∷ []) ≡ stages_kinds ss ++ (token.Mark sign.Bar ∷ stage_kinds s)
stages_joined ss s = flat_map-append (λ x. token.Mark sign.Bar ∷ stage_kinds x) ss (s ∷ []) ∙ ap (λ ks. stages_kinds ss ++ ks) (flat_map-single (λ x. token.Mark sign.Bar ∷ stage_kinds x) s)

pub query_fits : {n : ℕ} {q : QueryTree} {ts : List Token} → SpellsQuery n q ts → AreSane ts → AllFit (query_kinds q)
query_fits (rule.start {e = e} d) h = joined Fits (set_kinds e) [] (set_fits d h) tt
query_fits (rule.piped {q = q} {s = s} {xs = xs} at d f) h =
    let back = back_sane xs _ h in
    let fit : AllFit (query_kinds q ++ (token.Mark sign.Bar ∷ stage_kinds s)) = around_fits (query_kinds q) sign.Bar (stage_kinds s) (query_fits d (front_sane xs _ h)) (stage_fits f back.1) in
    subst AllFit (append_assoc (set_kinds q.spansets) (stages_kinds q.stages) (token.Mark sign.Bar ∷ stage_kinds s) ∙ ap (λ ks. set_kinds q.spansets ++ ks) (sym (stages_joined q.stages s))) fit

pub query_has : {n : ℕ} {q : QueryTree} {ts : List Token} → SpellsQuery n q ts → AllByRecursion HasFields q.stages
query_has (rule.start d) = tt
query_has (rule.piped {q = q} {s = s} at d f) = joined HasFields q.stages (s ∷ []) (query_has d) (stage_has f, tt)
